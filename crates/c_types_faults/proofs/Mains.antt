-- The function that a run begins in is the definition of `main`, by its number (C99 5.1.2.2.1).
use Rattle.std.proofs.Common.{◌≡◌, ℕ, true, Option, Some, None, is_some, refl, sym, ◌∙◌}
use Rattle.std.specs.Prelude.{codes, slice_get, unwrap_or}
use Rattle.std.proofs.lemmas.Bool.{false≢true, and_parts}
use Rattle.c_syntax.specs.Words.{SourceTree, IsShaped}
use Rattle.c_types.specs.Answers.{note_at}
use Rattle.c_types.specs.Fault.{begins_program, is_main, walk_tree}
use Rattle.c_types_walk.specs.ItemWalk.{is_defined}
use Rattle.c_types_expressions.specs.Words.{Fine, declared_meaning}
use Rattle.c_types_expressions.specs.declared.names.Meaning.{Meaning}
use Rattle.c_types_expressions.specs.declared.names.Meaning.TheVariants as meaning
use Rattle.c_types_expressions.specs.declared.walk.Walk.{Walk}
use Rattle.c_meaning.specs.Words.{main_of, number_defined}
use Rattle.defined_functions.specs.Functions.{functions_of}
use Rattle.c_types_faults.specs.NotedCalls.{name_number}
use Rattle.c_types_faults.specs.Events.{events_of}
use Rattle.c_types_faults.proofs.Calls.{number_at}
use Rattle.c_types_faults.proofs.NotedTexts.{before, text_path}
use Rattle.c_types_faults.proofs.Noting.{FoundAs, Named, found_is, path_onward}
use Rattle.c_types_faults.proofs.Paths.{view}
use Rattle.c_types_faults.proofs.Texts.{accepted_main}

module _ (t : SourceTree) (z : Walk) (shaped : IsShaped t) (w : walk_tree t ≡ Fine tt z) where
  named : Named (view z)
  named = (path_onward (events_of t) (before t) (view z) (text_path t z w)).named (record { by = λ name index h. absurd h; own = tt })

  defined_by : (o : Option ℕ) → is_some o ≡ true → o ≡ Some (unwrap_or o 0)
  defined_by None h = absurd (false≢true h)
  defined_by (Some number) h = refl

  main_by : (m : Option Meaning) → FoundAs (codes "main") m z.names → is_main m z ≡ true
      → name_number (codes "main") 0 (functions_of t) ≡ Some (unwrap_or (number_defined z m) 0)
  main_by (Some (meaning.Function index)) found h =
      sym (number_at t z shaped w (codes "main") index (named.by (codes "main") index found))
      ∙ defined_by (note_at z.defined_as index) (and_parts (begins_program (slice_get z.functions index)) (is_defined index z.defined_as) h).1
  main_by m found h = absurd (false≢true h)

  pub begins_in_main : name_number (codes "main") 0 (functions_of t) ≡ Some (main_of z)
  begins_in_main = main_by (declared_meaning (codes "main") z.names) (found_is (codes "main") z.names named.own) (accepted_main t z w)
