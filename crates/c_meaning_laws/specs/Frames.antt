-- Each call has variables of its own (C99 6.2.4p5, 6.5.2.2p4, 6.9.1p9, p10).
use Rattle.std.specs.Prelude.{◌≡◌, ℕ, ◌+◌, ◌-◌, ◌<◌, ◌≤◌, ◌∷◌, List, length, replicate, Some, None, slice_get}
use Rattle.std.specs.FinMap.{get}
use Rattle.cbi_base.specs.Words.{active_limit, all_made, first_cells, local_at, Objects}
use Rattle.cbi_base.specs.declared.scalar.Class.TheVariants.{Local}
use Rattle.cbi_base.specs.declared.scalar.Scalar.{Scalar}
use Rattle.cbi_base.specs.declared.scalar.Scalar.TheVariants.{Undefined}
use Rattle.c_meaning.specs.Words.{Signature, Source, call_at, enter_function, body_world, locals_at, run_body, World, Caller, Go}

-- The variables of a function that is entered with these arguments are objects made now, in their order: a parameter holds its argument, and the others
-- hold nothing. Each object that was made before is what it was.
pub record HasOwnVariables (f : Signature) (arguments : List Scalar) (before after : Objects) : Type 0 where
  pub parameters : (index size : ℕ) (v : Scalar) → slice_get f.locals index ≡ Some size → slice_get arguments index ≡ Some v →
      get after.live (before.made + index) ≡ Some (record { class = Local; cells = v ∷ replicate (size - 1) Undefined })
  pub others : (index size : ℕ) → slice_get f.locals index ≡ Some size → length arguments ≤ index →
      get after.live (before.made + index) ≡ Some (record { class = Local; cells = replicate size Undefined })
  pub older : (number : ℕ) → number < before.made → get after.live number ≡ get before.live number
  pub made : after.made ≡ before.made + length f.locals

-- The body of a function begins with variables of its own, which its names find, where it may be entered and there is room for them.
abbrev pub BodyBeginsAfresh : Type 0
BodyBeginsAfresh =
    (src : Source) (call : Caller) (turns number : ℕ) (f : Signature) (arguments : List Scalar) (w : World) (objects : Objects) → w.active < active_limit →
    all_made (first_cells arguments f.locals) w.objects ≡ Some objects →
    (enter_function src call turns number (Some f) arguments w ≡ run_body src call turns f (locals_at f w) (src.body number) (body_world objects w))
    × HasOwnVariables f arguments w.objects objects
    × ((index : ℕ) → index < length f.locals → local_at index (locals_at f w) ≡ Some (w.objects.made + index))

-- Behind a call the variables of the function are dead.
abbrev pub VariablesDie : Type 0
VariablesDie =
    (src : Source) (turns number : ℕ) (f : Signature) (arguments : List Scalar) (v : Scalar) (w u : World) → src.facts.signature number ≡ Some f →
    call_at src turns number arguments w ≡ Go v u → (index : ℕ) → index < length f.locals → get u.objects.live (w.objects.made + index) ≡ None
