-- `main` of an accepted text gives a value, and has no parameters.
use Rattle.std.proofs.Common.{◌≡◌, ℕ, refl, ap, ◌∙◌, arith, List, [], ◌∷◌, Some, None, true, length}
use Rattle.std.specs.Prelude.{Option, codes, is_some, map, slice_get, unwrap_or, ◌==◌}
use Rattle.std.proofs.lemmas.Bool.{eqb-true, false≢true, and_parts}
use Rattle.c_syntax.specs.ItemTree.{SourceTree}
use Rattle.c_types_rules.proofs.Same.{equal}
use Rattle.c_types_rules.specs.declared.layout.StructType.{StructType}
use Rattle.c_types_rules.specs.TypeTree as t
use Rattle.c_types_rules.specs.TypeTree.{TypeTree, same_type}
use Rattle.c_types_expressions.specs.declared.names.Meaning.{Meaning}
use Rattle.c_types_expressions.specs.declared.names.Meaning.TheVariants as meaning
use Rattle.c_types_expressions.specs.declared.walk.FunctionEntry.{FunctionEntry}
use Rattle.c_types_expressions.specs.declared.walk.Walk.{Walk}
use Rattle.c_types.specs.Answers.{note_at}
use Rattle.c_types.specs.Fault.{begins_program, is_main, walk_tree}
use Rattle.c_types_walk.specs.ItemWalk.{is_defined}
use Rattle.c_types_expressions.specs.Words.{declared_meaning, Fine}
use Rattle.c_types.proofs.FunctionLaws.{functions_numbered}
use Rattle.c_meaning.specs.Words.{Signature, computed_type, facts_of, signature_of, main_of, number_defined, has_value}
use Rattle.c_meaning_sound.proofs.Ending.{last_is, tree_is}
use Rattle.c_meaning_sound.proofs.Forming.{Numbered}
use Rattle.c_meaning_sound.proofs.Naming.{Signed, signed}
use Rattle.lower_fits.specs.Brought.{IsMainSignature}

-- a list of no types
no_types : (structs : List StructType) (types : List TypeTree) → (length types == 0) ≡ true → map (computed_type structs) types ≡ []
no_types structs [] h = refl
no_types structs (of ∷ types) h = absurd (omega (arith, eqb-true (length (of ∷ types)) 0 h))

module _ (tree : SourceTree) (z : Walk) (walked : walk_tree tree ≡ Fine tt z) where
  -- what is found to begin the program has such a signature
  begins_main : (g : FunctionEntry) (o : Option Signature) → begins_program (Some g) ≡ true → Signed z g o → IsMainSignature o
  begins_main g None h k = k
  begins_main g (Some f) h k =
      let parts = and_parts (same_type g.ctype.gives t.Int) (length g.ctype.params == 0) h in (
        k.0 ∙ no_types z.structs g.ctype.params parts.1,
        ap has_value (k.1 ∙ ap (computed_type z.structs) (equal g.ctype.gives t.Int parts.0)),
      )

  -- the function that `main` means is defined
  numbered_main : (index number : ℕ) (o : Option FunctionEntry) → slice_get z.functions index ≡ o → begins_program o ≡ true
      → note_at z.defined_as index ≡ Some number → IsMainSignature (signature_of z (slice_get z.definitions number))
  numbered_main index number None e h k = absurd (false≢true h)
  numbered_main index number (Some g) e h k =
      let n : Numbered tree z index = record { number = number; defined = k; definition = (functions_numbered tree z walked index number).0 k } in
      begins_main g (signature_of z (slice_get z.definitions number)) h (signed g index n e)

  -- a function that has a definition and may begin the program
  defined_main : (index : ℕ) (o : Option ℕ) → note_at z.defined_as index ≡ o → begins_program (slice_get z.functions index) ≡ true → is_some o ≡ true
      → IsMainSignature (signature_of z (slice_get z.definitions (unwrap_or o 0)))
  defined_main index None e h k = absurd (false≢true k)
  defined_main index (Some number) e h k = numbered_main index number (slice_get z.functions index) refl h e

  -- what the name means
  main_by : (m : Option Meaning) → is_main m z ≡ true → IsMainSignature (signature_of z (slice_get z.definitions (unwrap_or (number_defined z m) 0)))
  main_by (Some (meaning.Function index)) h =
      let parts = and_parts (begins_program (slice_get z.functions index)) (is_defined index z.defined_as) h in
      defined_main index (note_at z.defined_as index) refl parts.0 parts.1
  main_by m h = absurd (false≢true h)

  -- `main` of a text without a fault
  pub main_is : IsMainSignature ((facts_of tree z).signature (main_of z))
  main_is = main_by (declared_meaning (codes "main") z.names) (last_is (length tree.lines) z (tree_is tree z walked).last).0
