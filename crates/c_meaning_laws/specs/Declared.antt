-- A declaration without an initialiser leaves its variable undefined (C99 6.2.4p5, 6.7.8p10).
use Rattle.std.specs.Prelude.{◌≡◌, ◌≢◌, ℕ, ◌<◌, List, [], ◌∷◌, ◌++◌, length, Some, None, Ok, Err}
use Rattle.std.specs.FinMap.{get}
use Rattle.cbi_base.specs.declared.outcome.Outcome.TheVariants.{Trapped}
use Rattle.cbi_base.specs.declared.scalar.Scalar.{Scalar}
use Rattle.cbi_base.specs.declared.scalar.Scalar.TheVariants.{Place}
use Rattle.cbi_base.specs.declared.scalar.Want.{Want}
use Rattle.cbi_base.specs.declared.trap.Trap.TheVariants as trap
use Rattle.cbi_base.specs.Objects.{Object, Objects, loaded_value}
use Rattle.c_syntax.specs.ExprTree as e
use Rattle.c_syntax.specs.StatementTree.{DeclarationTree, StartTree}
use Rattle.c_meaning.specs.Words.{Setting, declaration_done, object_of, expr, World, Go, Stop}
use Rattle.c_meaning_laws.specs.Rules.{IsScalar}

-- an object that holds nothing: no load from it gives a value, and a load from one of its cells meets an undefined one
pub record HoldsNothing (number : ℕ) (o : Objects) : Type 0 where
  pub gives_none : (wanted : Want) (place : ℕ) (v : Scalar) → loaded_value wanted (Place number place) o ≢ Ok v
  pub traps : (wanted : Want) (place : ℕ) (object : Object) → get o.live number ≡ Some object → place < length object.cells →
      loaded_value wanted (Place number place) o ≡ Err trap.Undefined

-- declared names without initialisers
abbrev pub AreBare : List StartTree → Type 0
AreBare [] = Unit {0}
AreBare (x ∷ xs) = (x.initial ≡ None) × AreBare xs

-- Behind a declaration a variable holds nothing that has no initialiser, whatever it held before, as in a loop's second round: what stands behind it
-- in the same declaration has none either.
abbrev pub DeclaredHoldsNothing : Type 0
DeclaredHoldsNothing =
    (s : Setting) (d : DeclarationTree) (before after : List StartTree) (x : StartTree) (number : ℕ) (w u : World) → d.starts ≡ before ++ x ∷ after →
    AreBare (x ∷ after) → object_of s (s.facts.slot_at x.declarator.name_token) ≡ Some number → declaration_done s d w ≡ Go tt u → HoldsNothing number u.objects

-- The value of a variable that holds nothing is met as an undefined one (C99 6.3.2.1p2, J.2).
abbrev pub ReadIsMet : Type 0
ReadIsMet =
    (s : Setting) (at : ℕ) (name : List ℕ) (number : ℕ) (object : Object) (w : World) → object_of s (s.facts.slot_at at) ≡ Some number →
    IsScalar (s.facts.type_at at) → get w.objects.live number ≡ Some object → 0 < length object.cells → HoldsNothing number w.objects →
    (expr s (e.Name at name)).value w ≡ Stop (Trapped trap.Undefined) w
