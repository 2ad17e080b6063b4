-- All bodies and globals of an accepted text fit, without sites.
use Rattle.std.proofs.Common.{◌≡◌, ℕ, ◌≤◌, subst, arith, Some, length}
use Rattle.std.specs.Prelude.{sum_by, slice_get}
use Rattle.std.specs.List.{AllByRecursion, flat_map}
use Rattle.c_syntax.specs.Words.{SourceTree, tree_kinds, kind_text_len, IsShaped}
use Rattle.c_types_expressions.specs.declared.walk.Walk.{Walk}
use Rattle.c_types_expressions.specs.Words.{empty_walk, Fine}
use Rattle.c_types.specs.Fault.{walk_tree}
use Rattle.c_types.proofs.NotedItems.{text_notes}
use Rattle.c_meaning.specs.Words.{Signature, starts_of, function_bodies, facts_of, signature_of}
use Rattle.c_meaning_laws.specs.TypedSource.{TypedBody}
use Rattle.c_meaning_laws.specs.TypedText.{TypedGlobals}
use Rattle.c_meaning_sound.specs.Accepted.{IsNegatable}
use Rattle.c_meaning_sound.proofs.Accepting.{begins_standing, begins_tagged, items_good}
use Rattle.c_meaning_sound.proofs.Ending.{Sums, tree_ended, tree_is, tree_sums}
use Rattle.c_meaning_sound.proofs.Forming.{Ended}
use Rattle.c_meaning_sound.proofs.Globals.{global_good}
use Rattle.c_meaning_sound.proofs.Lengths.{strings_short}
use Rattle.c_meaning_sound.proofs.Noting.{facts, none}
use Rattle.c_meaning_sound.proofs.Reading.{all_spelled}
use Rattle.c_meaning_sound.proofs.Stating.{body_good}

-- what holds of an accepted text before any site is looked at
pub record Accepted (tree : SourceTree) (z : Walk) : Type 0 where
  pub bodies : (number : ℕ) (f : Signature) → (facts_of tree z).signature number ≡ Some f → TypedBody (facts tree z) none f (slice_get (function_bodies tree) number)
  pub globals : TypedGlobals (facts_of tree z) z (flat_map starts_of tree.items)

pub tree_accepted : (tree : SourceTree) (z : Walk) → IsShaped tree → walk_tree tree ≡ Fine tt z → sum_by kind_text_len (tree_kinds tree) ≤ 1048575
    → AllByRecursion IsNegatable (tree_kinds tree) → Accepted tree z
tree_accepted tree z s h l n =
    let ends : Ended tree z = tree_ended tree z s h in
    let sums : Sums z = tree_sums tree z s h in
    let long : length z.declared_types ≡ length z.variables = (text_notes tree z h).1.0 in
    let fitted = items_good tree z sums (body_good tree z ends) (global_good tree z ends) long tree.items (length tree.lines) 0
    (empty_walk (length tree.lines)) tt
    s.items s.placed (all_spelled tree s.items s.placed (strings_short tree 1048575 l)) n (record { structs = tt; functions = tt })
    (begins_standing tree z (length tree.lines)) (begins_tagged tree z (length tree.lines)) (omega (arith, s.lines)) (tree_is tree z h).items in
    record {
      bodies = λ number f e. fitted.bodies number f (subst (λ i. signature_of z (slice_get z.definitions i) ≡ Some f) (omega arith) e);
      globals = fitted.globals;
    }
