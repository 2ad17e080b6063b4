-- An accepted text brings what its program needs.
use Rattle.std.proofs.Common.{◌≡◌, ℕ, ◌≤◌, ap, sym, ◌∙◌, arith, List, ◌++◌, length, map, Option, Some, None}
use Rattle.std.specs.Prelude.{IsSome}
use Rattle.std.specs.List.{flat_map}
use Rattle.std.specs.Option.{option_map}
use Rattle.std.proofs.lemmas.Bool.{false≢true}
use Rattle.std.proofs.lemmas.Option.{slice_get_past}
use Rattle.cbi_base.specs.Objects.{Object}
use Rattle.c_syntax.specs.ItemTree.{SourceTree}
use Rattle.c_types_expressions.specs.declared.walk.Walk.{Walk}
use Rattle.flow.specs.declared.program.Global.{Global}
use Rattle.flow.specs.declared.program.Text.{Text}
use Rattle.flow.specs.declared.site.TableParts.{TableParts}
use Rattle.flow.specs.Statics as statics
use Rattle.flow.specs.Statics.{text_object}
use Rattle.c_meaning.specs.Words.{first_objects, global_objects, starts_of, then_strings, facts_of, signature_of, string_literals, texts_of}
use Rattle.c_meaning_sound.specs.Accepted.{IsAcceptedTree}
use Rattle.c_meaning_sound.proofs.Whole.{none_fits}
use Rattle.lower_globals.proofs.Counted.{globals_are}
use Rattle.lower_fits.proofs.BegunGlobals.{objects_there}
use Rattle.lower_fits.proofs.DefinedFunctions.{as_many}
use Rattle.defined_functions.specs.Functions.{functions_of}
use Rattle.compiler_exists.proofs.Cells.{IfGlobals, typed_globals}

module _ (tree : SourceTree) (walk : Walk) (accepted : IsAcceptedTree tree walk) where
  abbrev pub texts : List Text
  texts = texts_of (string_literals tree)

  -- the program's globals that begin with the text's objects
  abbrev HasGlobals : Type 0
  HasGlobals = (globals : List Global) × (first_objects tree walk ≡ Some (map (statics.object_of_global (length globals)) globals ++ map text_object texts))
      × (length globals ≡ walk.globals)

  globals_from : (o : Option (List Object)) → IsSome (option_map (then_strings tree) o) →
      IfGlobals (facts_of tree walk) (length (flat_map starts_of tree.items)) o →
      (globals : List Global) × (option_map (then_strings tree) o ≡ Some (map (statics.object_of_global (length globals)) globals ++ map text_object texts))
      × (length globals ≡ walk.globals)
  globals_from None is h = absurd (false≢true is)
  globals_from (Some objects) is h =
      let count : length h.0 ≡ walk.globals = h.2 ∙ sym (globals_are tree walk accepted.walked) in
      let same : objects ≡ map (statics.object_of_global (length h.0)) h.0 = sym h.1 ∙ ap (λ n. map (statics.object_of_global n) h.0) (sym count) in
      (h.0, ap (λ os. Some (os ++ map text_object texts)) same, count)

  pub has_globals : HasGlobals
  has_globals =
      globals_from (global_objects (facts_of tree walk) walk (flat_map starts_of tree.items)) (objects_there tree walk accepted)
      (typed_globals (facts_of tree walk) walk (flat_map starts_of tree.items) (none_fits tree walk accepted).globals)

  module _ (table : TableParts) (named : table.functions ≡ functions_of tree) where
    pub as_many_names : length table.functions ≡ length walk.definitions
    as_many_names = ap length named ∙ as_many tree walk accepted.walked

    pub no_more : (number : ℕ) → length table.functions ≤ number → (facts_of tree walk).signature number ≡ None
    no_more number le = ap (signature_of walk) (slice_get_past walk.definitions number (omega (arith, le, as_many_names)))
