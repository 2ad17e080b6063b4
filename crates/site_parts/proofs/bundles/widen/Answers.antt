use Rattle.std.proofs.Common.{◌≡◌, sym, subst, arith, rules}
use Rattle.std.proofs.lemmas.Grind.{common_steps}
use Rattle.cbi_base.specs.ProgramId.{IsId}
use Rattle.collector.specs.declared.collection.Bundle.{Bundle}
use Rattle.collector.specs.Merging.{IsBundle}
use Rattle.collector.specs.Spelling.{IsText}
use Rattle.site_parts.specs.Widened.{widened_bundle}
use Rattle.site_parts.proofs.Widening.{bundle_is, text_is}
use Rattle.site_parts.proofs.bundles.widen.Goals as goal

-- the bundle that was made
made : (c : goal.After-from_vec) → (let b : Bundle = record { program = c.args.whole; reports = c.from_vec.result } in b ≡ widened_bundle c.args.whole c.args.part c.args.bundle)
made c = grind (arith, common_steps)

-- what the type of an identity says of it
identity : (c : goal.After-from_vec) → IsId c.args.whole
identity c = search rules

pub returns-clause-is_text : goal.returns-clause-is_text
returns-clause-is_text c = λ good. subst IsText (sym (made c)) (text_is c.args.whole c.args.part c.args.bundle c.requires.part (identity c) c.requires.sites good)

pub returns-clause-is_bundle : goal.returns-clause-is_bundle
returns-clause-is_bundle c = λ good. subst IsBundle (sym (made c)) (bundle_is c.args.whole c.args.part c.args.bundle c.requires.part (identity c) c.requires.sites good)
