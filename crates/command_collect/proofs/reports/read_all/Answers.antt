use Rattle.std.proofs.Common.{arith, sym, subst, rules}
use Rattle.command_collect.specs.Collect.{SpellsFile}
use Rattle.command_collect.proofs.FileLemmas.{one-more, all-spelled, all-only, all-bundles}
use Rattle.command_collect.proofs.reports.read_all.Goals as goal

pub loop-rest-preserved : goal.loop-rest-preserved
loop-rest-preserved c =
    one-more c.args.texts.now c.loop-rest.rest.now c.text-item.result c.loop-rest.bundles c.push.new.self c.in_ok-bundle.bundle c.loop-rest.number (search rules) c.text-item.is c.loop-rest.invariant c.in_ok-push.ensures.ok
    (subst (λ text. SpellsFile text c.in_ok-bundle.bundle) c.as_slice.ensures c.in_ok-bundle.ensures.spells) c.in_ok-bundle.ensures.is_bundle
    (λ b h. c.in_ok-bundle.ensures.only b (subst (λ text. SpellsFile text b) (sym c.as_slice.ensures) h))

pub returns-clause-spelled : goal.returns-clause-spelled
returns-clause-spelled c = all-spelled _ _ _ _ (omega (arith, c.in_default.len_below)) c.loop-rest.invariant

pub returns-clause-only : goal.returns-clause-only
returns-clause-only c = λ others are. all-only _ _ _ others _ (omega (arith, c.in_default.len_below)) c.loop-rest.invariant are

pub returns-clause-are_bundles : goal.returns-clause-are_bundles
returns-clause-are_bundles c = all-bundles _ _ _ _ c.loop-rest.invariant
