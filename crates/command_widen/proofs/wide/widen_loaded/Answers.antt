use Rattle.std.proofs.Common.{[], Ok, Err, ap, sym, subst, ◌∙◌}
use Rattle.flow.specs.declared.site.TableParts.{TableParts}
use Rattle.collector.specs.declared.collection.Bundle.{Bundle}
use Rattle.collector.specs.declared.collection.Held.{Held}
use Rattle.collector.specs.Merging.{Merges}
use Rattle.collector.specs.Sites.{branches_of}
use Rattle.command_base.proofs.FaultLemmas.{caused-as}
use Rattle.command_inputs.specs.Runs.{HaveSites}
use Rattle.command_inputs.proofs.MergeLemmas.{holding}
use Rattle.command_widen.proofs.Widening.{fit_whole, may_widen, wide_held, wide_never_refused}
use Rattle.command_widen.proofs.wide.widen_loaded.Goals as goal

pub widen-wide-requires-clause-sites : goal.widen-wide-requires-clause-sites
widen-wide-requires-clause-sites c =
    may_widen c.fitting_reports_may_widen.ensures c.args.part c.args.loaded.whole c.args.loaded.program c.args.loaded.bundle.reports c.requires.part
    c.table-table.ensures.is_program.parts.sites.few c.requires.of_part.has_part c.requires.of_part.sites

pub returns-in-Ok-merge-clause-holds : goal.returns-in-Ok-merge-clause-holds
returns-in-Ok-merge-clause-holds c =
    wide_held c.args.whole_id (branches_of c.args.loaded.whole.sites) c.widen-wide.result c.in-Ok-merge.field-0 c.merge.new.self (c.widen-wide.ensures.is_text c.requires.is_text)
    (subst (λ (h : Held). Merges h c.widen-wide.result (Ok c.in-Ok-merge.field-0) c.merge.new.self) (c.in-Ok.ensures ∙ ap (λ (t : TableParts). holding c.args.whole_id (branches_of t.sites) []) c.table-table.ensures.value) c.in-Ok-merge.ensures)
    ∙ c.widen-wide.ensures.value

pub returns-clause-fault : goal.returns-clause-fault
returns-clause-fault c =
    caused-as c.fault_of.result _ _ _ _ c.fault_of.ensures.cause (λ refusal tells.
    wide_never_refused c.args.whole_id (branches_of c.args.loaded.whole.sites) c.widen-wide.result c.in-Err.fault c.merge.new.self refusal (c.widen-wide.ensures.is_text c.requires.is_text)
    (ap (λ (b : Bundle). b.program) c.widen-wide.ensures.value)
    (subst (λ (b : Bundle). HaveSites (branches_of c.args.loaded.whole.sites) b.reports) (sym c.widen-wide.ensures.value)
    (fit_whole c.widened_reports_fit.ensures c.args.whole_id c.args.part c.args.loaded.whole c.args.loaded.program c.args.loaded.bundle c.requires.part c.requires.of_part.has_part c.requires.of_part.sites))
    (subst (λ (h : Held). Merges h c.widen-wide.result (Err c.in-Err.fault) c.merge.new.self) (c.in-Ok.ensures ∙ ap (λ (t : TableParts). holding c.args.whole_id (branches_of t.sites) []) c.table-table.ensures.value) c.in-Err.ensures) tells)
