use Rattle.std.proofs.Common.{◌∙◌, ap}
use Rattle.flow.specs.declared.site.TableParts.{TableParts}
use Rattle.c_types.specs.Answers.{known_of, tree_of}
use Rattle.compiler.proofs.Doing.{few_beside, looks, may_clone}
use Rattle.compiler.proofs.Planning.{planned_are}
use Rattle.compiler.proofs.pipeline.compile_checked.Goals as goal

pub returns-clause-compiled : goal.returns-clause-compiled
returns-clause-compiled c = λ text accepted.
    let tree = tree_of c.args.checked.now in
    let known = known_of c.args.checked.now in
    record {
      tree = tree;
      known = known;
      accepted = accepted;
      fits = c.in_ok-table.ensures.fits;
      names = c.in_ok-planned.ensures.names ∙ ap (λ (t : TableParts). t.functions) c.in_ok-program.ensures.sites ∙ c.in_ok-table.ensures.functions;
      does = c.in_ok-planned.ensures.does tree known
          (looks c.accepted_texts_never_fault.ensures.never c.accepted_texts_never_fault.ensures.never_plain text tree known accepted
          c.args.plan _ _ c.in_ok-table.ensures.sites c.in_ok-program.ensures.means c.in_ok-program.ensures.sites (few_beside (tree_of c.args.checked.now) c.in_ok-table.table _ c.in_ok-program.program c.in_ok-table.ensures.sites c.in_ok-program.ensures.few));
    }

pub by_plan-requires-clause-may_clone : goal.by_plan-requires-clause-may_clone
by_plan-requires-clause-may_clone c =
    may_clone (tree_of c.args.checked.now) _ _ c.in_ok-program.ensures.plain (few_beside (tree_of c.args.checked.now) c.in_ok-table.table _ c.in_ok-program.program c.in_ok-table.ensures.sites c.in_ok-program.ensures.few) c.facts.ensures.kept.few
    c.in_ok-table.ensures.fits

pub lower-requires : goal.lower-requires
lower-requires c = record {
  whole = c.kept_texts_are_whole.ensures (tree_of c.args.checked.now) (known_of c.args.checked.now) c.facts.ensures.kept c.facts.ensures.walked;
  sites = planned_are c.args.plan (tree_of c.args.checked.now) (known_of c.args.checked.now) _ c.in_ok-table.ensures.sites;
  functions = c.in_ok-table.ensures.functions;
}
