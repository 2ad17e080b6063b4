-- No two functions that an accepted text defines have one name.
use Rattle.std.proofs.Common.{◌≡◌, ℕ, ap, subst, sym, ◌∙◌, List, Some}
use Rattle.std.specs.Prelude.{option_map, slice_get}
use Rattle.std.proofs.lemmas.Option.{same_Some}
use Rattle.c_syntax.specs.ItemTree.{SourceTree}
use Rattle.c_types_expressions.specs.declared.names.Meaning.{Meaning}
use Rattle.c_types_expressions.specs.declared.names.Meaning.TheVariants as meaning
use Rattle.c_types_expressions.specs.declared.walk.Walk.{Walk}
use Rattle.c_types.specs.Answers.{note_at}
use Rattle.c_types_expressions.specs.Names.{declared_meaning}
use Rattle.c_types.specs.Numbers.{function_of}
use Rattle.c_types.proofs.FunctionLaws.{functions_numbered}
use Rattle.defined_functions.specs.Functions.{functions_of}
use Rattle.c_meaning_sound.specs.Accepted.{IsAcceptedTree}
use Rattle.lower_fits.proofs.Definitions.{AllFit, FitsIn, all_fit, second_both}

-- the definition with this number is that of the function that the name means at the end
record Defines (z : Walk) (name : List ℕ) (number : ℕ) : Type 0 where
  place : ℕ
  means : declared_meaning name z.names ≡ Some (meaning.Function place)
  defined : note_at z.defined_as place ≡ Some number

-- a name of a defined function means that function, and its definition has the number of the name
name_defines : (tree : SourceTree) (z : Walk) → IsAcceptedTree tree z → (number : ℕ) (name : List ℕ) → slice_get (functions_of tree) number ≡ Some name
    → Defines z name number
name_defines tree z a number name h =
    let k : AllFit tree z = all_fit tree z a.formed.shaped a.walked in
    let b = second_both (FitsIn z) z.definitions (functions_of tree) number name k.fit h in
    let same : b.holds.entry.own.name ≡ name = b.holds.entry.named ∙ same_Some b.second name (sym b.in_second ∙ h) in
    record {
      place = b.first.function;
      means = subst (λ n. declared_meaning n z.names ≡ Some (meaning.Function b.first.function)) same
          (k.file.found_as b.first.function b.holds.entry.own b.holds.entry.here);
      defined = (functions_numbered tree z a.walked b.first.function number).1 (ap (option_map function_of) b.in_first);
    }

-- the place of a function that a name means
abbrev number_of : Meaning → ℕ
number_of (meaning.Function n) = n
number_of m = 0

-- two numbers of one name are one
pub all_distinct : (tree : SourceTree) (z : Walk) → IsAcceptedTree tree z → (i j : ℕ) (name : List ℕ) → slice_get (functions_of tree) i ≡ Some name
    → slice_get (functions_of tree) j ≡ Some name → i ≡ j
all_distinct tree z a i j name h k =
    let x : Defines z name i = name_defines tree z a i name h in
    let y : Defines z name j = name_defines tree z a j name k in
    let same : x.place ≡ y.place =
    ap number_of (same_Some (meaning.Function x.place) (meaning.Function y.place) (sym x.means ∙ y.means)) in
    same_Some i j (sym x.defined ∙ ap (note_at z.defined_as) same ∙ y.defined)
