-- The functions made of an accepted text, by their numbers: their names, how many locals they have, and `main`.
use Rattle.std.proofs.Common.{◌≡◌, ℕ, ◌<◌, refl, sym, ap, subst, subst₂, ◌∙◌, arith, List, map, length, Some, None, Option, option_map, slice_get, All}
use Rattle.std.proofs.lemmas.List.{length-map}
use Rattle.std.proofs.lemmas.Option.{slice_get-map, slice_get_within}
use Rattle.base_lists.proofs.Options.{some_is}
use Rattle.base_lists.proofs.Lists.{item_there}
use Rattle.base_lists.proofs.Every.{every_at}
use Rattle.cbi_base.specs.Words.{conversions_of, IsName}
use Rattle.c_syntax.specs.ItemTree.{SourceTree}
use Rattle.c_types_expressions.specs.declared.walk.Definition.{Definition}
use Rattle.c_types_expressions.specs.declared.walk.Walk.{Walk}
use Rattle.c_meaning.specs.Words.{Signature, facts_of, signature_of, main_of}
use Rattle.flow.specs.declared.program.Function.{Function}
use Rattle.flow.specs.declared.program.Global.{Global}
use Rattle.flow.specs.declared.site.TableParts.{TableParts}
use Rattle.flow.specs.Words.{NodesFit, AreDistinct, AreLocals, FunctionsFit, HasMain, IsFunction, IsMain, bounds_of, names_of, parts_of}
use Rattle.defined_functions.specs.Functions.{functions_of}
use Rattle.c_meaning_sound.specs.Sited.{count_of, local_counts}
use Rattle.lower_fits.specs.Brought.{IsMainSignature, IsSigned}
use Rattle.lower_fits.specs.Parts.{ArePartsOf, FitsAsFunction}
use Rattle.lower_fits.specs.Ready.{IsReadyText}
use Rattle.lower_fits.proofs.PartNumbers.{same_maps}

module _ (tree : SourceTree) (walk : Walk) (table : TableParts) (globals : List Global) (functions : List Function) (ready : IsReadyText tree walk table)
    (parts : ArePartsOf tree walk table globals functions) where
  -- the names of the functions are those of the text
  names_same : map (λ f. f.name) functions ≡ functions_of tree
  names_same = parts.names ∙ ready.functions

  -- the function with this number has the name with this number
  named : (number : ℕ) (f : Function) → slice_get functions number ≡ Some f → slice_get (functions_of tree) number ≡ Some f.name
  named number f h = ap (λ names. slice_get names number) (sym names_same) ∙ slice_get-map (λ g. g.name) functions number ∙ ap (option_map (λ g. g.name)) h

  -- no two functions have one name
  pub distinct_functions : ((i j : ℕ) (name : List ℕ) → slice_get (functions_of tree) i ≡ Some name → slice_get (functions_of tree) j ≡ Some name → i ≡ j)
      → AreDistinct functions
  distinct_functions distinct = record {
    each = λ i j f g h k same. distinct i j f.name (named i f h) (subst (λ name. slice_get (functions_of tree) j ≡ Some name) (sym same) (named j g k));
  }

  module _ (as_many : length (functions_of tree) ≡ length walk.definitions) where
    -- there are as many functions as definitions
    pub functions_as_many : length functions ≡ length walk.definitions
    functions_as_many = sym (length-map functions (λ f. f.name)) ∙ ap length names_same ∙ as_many

    -- each function has as many locals as its definition counts
    counted : ((number : ℕ) (d : Definition) → slice_get walk.definitions number ≡ Some d → IsSigned (facts_of tree walk) number d)
        → (number : ℕ) (f : Function) (d : Definition) → slice_get functions number ≡ Some f → slice_get walk.definitions number ≡ Some d
        → length f.locals ≡ count_of d
    counted signed number f d h k =
        let s = signed number d k in
        let own = parts.each number f h in
        let same : own.signature ≡ s.own = some_is (sym own.known ∙ s.is) in
        ap length own.locals ∙ ap (λ g. length g.locals) same ∙ s.counts

    pub counts_same : ((number : ℕ) (d : Definition) → slice_get walk.definitions number ≡ Some d → IsSigned (facts_of tree walk) number d)
        → map (λ f. length f.locals) functions ≡ local_counts walk
    counts_same signed = same_maps (λ f. length f.locals) count_of functions walk.definitions functions_as_many (counted signed)

    -- where there is a signature for `main`, there is a definition, and so a function
    main_by : (o : Option Definition) → slice_get walk.definitions (main_of walk) ≡ o → IsMainSignature (signature_of walk o)
        → main_of walk < length functions
    main_by None e h = absurd h
    main_by (Some d) e h = omega (arith, functions_as_many, slice_get_within walk.definitions (main_of walk) d e)

    -- a function with the signature of `main` is one that a run enters
    enters : (f : Function) → FitsAsFunction tree walk table (main_of walk) f → IsMainSignature ((facts_of tree walk).signature (main_of walk)) → IsMain f
    enters f own main =
        let k = subst IsMainSignature own.known main in
        record { result = own.value ∙ k.1; params = own.params ∙ ap length k.0 }

    pub main_there : IsMainSignature ((facts_of tree walk).signature (main_of walk)) → HasMain functions (main_of walk)
    main_there main =
        let e = item_there functions (main_of walk) (main_by (slice_get walk.definitions (main_of walk)) refl main) in
        (e.0, e.1, enters e.0 (parts.each (main_of walk) e.0 e.1) main)

    -- each function is one of a program
    pub functions_stand : All IsName (functions_of tree)
        → ((number : ℕ) (s : Signature) → (facts_of tree walk).signature number ≡ Some s → AreLocals (length s.params) s.locals)
        → FunctionsFit (names_of (parts_of (facts_of tree walk).statics.texts globals functions (main_of walk) table.sites)) functions
    functions_stand names locals = record { each = λ number f h. fits number f h (parts.each number f h) }
      where
        fits : (number : ℕ) (f : Function) → slice_get functions number ≡ Some f → FitsAsFunction tree walk table number f
            → IsFunction (names_of (parts_of (facts_of tree walk).statics.texts globals functions (main_of walk) table.sites)) number f
        fits number f h own = record {
          name = every_at IsName (functions_of tree) names number f.name (named number f h);
          locals = subst₂ AreLocals (sym own.params) (sym own.locals) (locals number own.signature own.known);
          entry = own.entry;
          nodes = subst₂
              (λ many defined. NodesFit (record {
                conversions = map (λ t. conversions_of t.bytes) (facts_of tree walk).statics.texts;
                globals = many;
                functions = defined;
                owners = map (λ s. s.function) table.sites;
              }) (bounds_of number f) f.nodes)
              (sym parts.count)
              (sym functions_as_many)
              own.nodes;
        }
