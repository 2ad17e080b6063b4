-- An assignment has the value that its variable has behind it (C99 6.5.16p3).
use Rattle.std.specs.Prelude.{◌≡◌, ℕ, List}
use Rattle.cbi_base.specs.Frames.{Locals}
use Rattle.cbi_base.specs.declared.scalar.Scalar.{Scalar}
use Rattle.c_syntax.specs.declared.token.Sign.{Sign}
use Rattle.c_syntax.specs.ExprTree as e
use Rattle.c_syntax.specs.ExprTree.{ExprTree}
use Rattle.c_meaning.specs.Words.{Setting, expr, Source, call_at, setting_of, World, Go}
use Rattle.c_meaning_laws.specs.Typed.{Typed}
use Rattle.c_meaning_laws.specs.TypedSource.{SourceFits}

-- In a function of a text whose types fit: what `x = value`, or `x op= value`, gives is what x gives behind it.
abbrev pub AssignmentIsRead : Type 0
AssignmentIsRead =
    (src : Source) (calls : ℕ) (locals : Locals) (token at : ℕ) (name : List ℕ) (assigns : Sign) (value : ExprTree) (v : Scalar) (w u : World) →
    let s : Setting = setting_of src (call_at src calls) locals in
    SourceFits src → Typed s.facts s.sites locals.count (e.Assign token assigns (e.Name at name) value) →
    (expr s (e.Assign token assigns (e.Name at name) value)).value w ≡ Go v u → (expr s (e.Name at name)).value u ≡ Go v u
