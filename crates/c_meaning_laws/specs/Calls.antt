-- A call leaves alone what no pointer leads to (C99 6.2.4p2, 6.5.2.2p4, 6.9.1p9).
use Rattle.std.specs.Prelude.{◌≡◌, ◌⊎◌, ℕ, ◌+◌, ◌<◌, Bool, true, false, List, [], Some}
use Rattle.std.specs.FinMap.{get}
use Rattle.std.specs.List.{AllByRecursion}
use Rattle.cbi_base.specs.Words.{Locals, Object, Objects}
use Rattle.cbi_base.specs.declared.scalar.Scalar.{Scalar}
use Rattle.cbi_base.specs.declared.scalar.Scalar.TheVariants.{Place}
use Rattle.c_syntax.specs.ExprTree as e
use Rattle.c_syntax.specs.ExprTree.{ExprList}
use Rattle.flow.specs.declared.site.Slot.TheVariants as slot
use Rattle.c_meaning.specs.Words.{Facts, Setting, Signature, arguments_value, expr, Source, call_at, setting_of, World, Go}

-- a set of objects, by their numbers
module _ (hidden : ℕ → Bool) where
  -- the value is no pointer to one of them
  abbrev pub LeadsElsewhere : Scalar → Type 0
  LeadsElsewhere (Place number offset) = hidden number ≡ false
  LeadsElsewhere v = Unit {0}

  -- They were made before, and no cell of another object holds a pointer to one of them.
  pub record AreHidden (o : Objects) : Type 0 where
    pub made : (number : ℕ) → hidden number ≡ true → number < o.made
    pub cells : (number : ℕ) (object : Object) → hidden number ≡ false → get o.live number ≡ Some object → AllByRecursion LeadsElsewhere object.cells

  -- none of them is a global or a string that the text names
  pub record AreUnnamed (facts : Facts) : Type 0 where
    pub globals : (token index : ℕ) → facts.slot_at token ≡ Some (slot.Global index) → hidden index ≡ false
    pub strings : (token number : ℕ) → facts.text_at token ≡ Some number → hidden (facts.statics.globals + number) ≡ false

-- Objects that no argument and no cell of another object leads to, as its caller's variables whose addresses were not taken: behind a call of any function
-- of the text, whatever it does and calls, each is what it was. Still nothing leads to them, the value of the call neither.
abbrev pub CallLeavesHidden : Type 0
CallLeavesHidden =
    (src : Source) (hidden : ℕ → Bool) (turns number : ℕ) (arguments : List Scalar) (v : Scalar) (w u : World) → AreUnnamed hidden src.facts →
    AreHidden hidden w.objects → AllByRecursion (LeadsElsewhere hidden) arguments → call_at src turns number arguments w ≡ Go v u →
    ((other : ℕ) → hidden other ≡ true → get u.objects.live other ≡ get w.objects.live other) × AreHidden hidden u.objects × LeadsElsewhere hidden v

-- The same of a call as an expression, which is taken for its value or for what it does alone: behind it each of them is what it was when the arguments
-- were evaluated.
abbrev pub CallExpressionLeavesHidden : Type 0
CallExpressionLeavesHidden =
    (src : Source) (hidden : ℕ → Bool) (turns token number : ℕ) (name : List ℕ) (locals : Locals) (f : Signature) (passed : ExprList)
    (arguments : List Scalar) (w y u : World) →
    let s : Setting = setting_of src (call_at src turns) locals in
    src.facts.function_at token ≡ Some number → src.facts.signature number ≡ Some f → arguments_value s f.params passed [] w ≡ Go arguments y →
    AreUnnamed hidden src.facts → AreHidden hidden y.objects → AllByRecursion (LeadsElsewhere hidden) arguments →
    ((v : Scalar) × ((expr s (e.Call token name passed)).value w ≡ Go v u)) ⊎ ((expr s (e.Call token name passed)).effect w ≡ Go tt u) →
    (other : ℕ) → hidden other ≡ true → get u.objects.live other ≡ get y.objects.live other
