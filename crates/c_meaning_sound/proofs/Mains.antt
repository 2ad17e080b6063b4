-- `main` of an accepted text gives an `int`.
use Rattle.std.proofs.Common.{◌≡◌, ℕ, refl, ap, ◌∙◌, Some, None, true, length}
use Rattle.std.specs.Prelude.{Option, codes, is_some, slice_get, unwrap_or, ◌==◌}
use Rattle.std.proofs.lemmas.Bool.{false≢true, and_parts}
use Rattle.c_syntax.specs.ItemTree.{SourceTree}
use Rattle.c_types_rules.proofs.Same.{equal}
use Rattle.c_types_rules.specs.TypeTree as t
use Rattle.c_types_rules.specs.TypeTree.{same_type}
use Rattle.c_types_expressions.specs.declared.names.Meaning.{Meaning}
use Rattle.c_types_expressions.specs.declared.names.Meaning.TheVariants as meaning
use Rattle.c_types_expressions.specs.declared.walk.FunctionEntry.{FunctionEntry}
use Rattle.c_types_expressions.specs.declared.walk.Walk.{Walk}
use Rattle.c_types.specs.Answers.{note_at}
use Rattle.c_types.specs.Fault.{begins_program, is_main, walk_tree}
use Rattle.c_types_walk.specs.ItemWalk.{is_defined}
use Rattle.c_types_expressions.specs.Words.{declared_meaning, Fine}
use Rattle.c_types.proofs.FunctionLaws.{functions_numbered}
use Rattle.c_meaning.specs.Words.{Signature, computed_type, facts_of, signature_of, main_of, number_defined}
use Rattle.c_meaning_laws.specs.TypedSource.{GivesInt}
use Rattle.c_meaning_sound.proofs.Ending.{last_is, tree_is}
use Rattle.c_meaning_sound.proofs.Forming.{Numbered}
use Rattle.c_meaning_sound.proofs.Naming.{Signed, signed}

module _ (tree : SourceTree) (z : Walk) (walked : walk_tree tree ≡ Fine tt z) where
  gives_int : (g : FunctionEntry) (o : Option Signature) → g.ctype.gives ≡ t.Int → Signed z g o → GivesInt o
  gives_int g None e h = h
  gives_int g (Some f) e h = h.1 ∙ ap (computed_type z.structs) e

  numbered_int : (index number : ℕ) (o : Option FunctionEntry) → slice_get z.functions index ≡ o → begins_program o ≡ true
      → note_at z.defined_as index ≡ Some number
      → GivesInt (signature_of z (slice_get z.definitions number))
  numbered_int index number None e h k = absurd (false≢true h)
  numbered_int index number (Some g) e h k =
      let n : Numbered tree z index = record { number = number; defined = k; definition = (functions_numbered tree z walked index number).0 k } in
      gives_int g (signature_of z (slice_get z.definitions number))
      (equal g.ctype.gives t.Int (and_parts (same_type g.ctype.gives t.Int) (length g.ctype.params == 0) h).0)
      (signed g index n e)

  defined_int : (index : ℕ) (o : Option ℕ) → note_at z.defined_as index ≡ o → begins_program (slice_get z.functions index) ≡ true → is_some o ≡ true
      → GivesInt (signature_of z (slice_get z.definitions (unwrap_or o 0)))
  defined_int index None e h k = absurd (false≢true k)
  defined_int index (Some number) e h k = numbered_int index number (slice_get z.functions index) refl h e

  main_by : (m : Option Meaning) → is_main m z ≡ true → GivesInt (signature_of z (slice_get z.definitions (unwrap_or (number_defined z m) 0)))
  main_by (Some (meaning.Function index)) h =
      let parts = and_parts (begins_program (slice_get z.functions index)) (is_defined index z.defined_as) h in
      defined_int index (note_at z.defined_as index) refl parts.0 parts.1
  main_by m h = absurd (false≢true h)

  pub main_int : GivesInt ((facts_of tree z).signature (main_of z))
  main_int = main_by (declared_meaning (codes "main") z.names) (last_is (length tree.lines) z (tree_is tree z walked).last).0
