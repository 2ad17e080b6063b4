-- A call hands its arguments over to the parameters, and a function gives what it returns (C99 6.5.2.2p4, p7, p10, 6.9.1p10, 6.8.6.4p3).
use Rattle.std.specs.Prelude.{◌≡◌, ℕ, suc, ◌<◌, ◌==◌, List, [], ◌∷◌, Some}
use Rattle.cbi_base.specs.Words.{active_limit, all_made, first_cells, Locals, Objects}
use Rattle.cbi_base.specs.declared.scalar.Scalar.{Scalar}
use Rattle.c_syntax.specs.declared.token.Sign.TheVariants as sign
use Rattle.c_syntax.specs.ExprTree as e
use Rattle.c_syntax.specs.ExprTree.{ExprTree, ExprList}
use Rattle.c_syntax.specs.StatementTree as tree
use Rattle.c_meaning.specs.declared.value_type.ValueType.{ValueType}
use Rattle.c_meaning.specs.Words.{with_result, is_null_as, Sense, cast_sense, Setting, Signature, expr, Source, call_at, body_world, left_function, locals_at}
use Rattle.c_meaning.specs.Words.{run_body}
use Rattle.c_meaning.specs.Words.{setting_of, value_left, exec, has_value, World, Out, Go, Returned, bind}
use Rattle.c_meaning_laws.specs.Frames.{HasOwnVariables}

-- what a cast to the type means of the expression (C99 6.5.4)
abbrev pub argument_as : Setting → ValueType → ExprTree → Sense
argument_as s type x = cast_sense (is_null_as (Some type) x) (Some type) (expr s x)

-- The arguments are evaluated one after another, and each gives what a cast to the type of its parameter gives: these values, the first one first.
abbrev pub ArePassed : Setting → List ValueType → ExprList → World → List Scalar → World → Type 0
ArePassed s [] e.no_exprs w [] u = u ≡ w
ArePassed s (type ∷ types) (e.more_exprs x rest) w (v ∷ vs) u =
    (y : World) × ((argument_as s type x).value w ≡ Go v y) × ArePassed s types rest y vs u
ArePassed s types passed w vs u = ⊥

-- the body of the function, with its variables in these objects, and its end; what it calls are functions of the text
abbrev pub body_of : Source → ℕ → ℕ → Signature → Objects → World → Out Scalar
body_of src turns number f objects w =
    bind (run_body src (call_at src turns) turns f (locals_at f w) (src.body number) (body_world objects w)) (λ flow y.
    bind (value_left (number == src.main) (has_value f.result) flow y) (left_function (locals_at f w)))

-- in this state the first means what the second means
abbrev pub MeansIn : World → Sense → Sense → Type 0
MeansIn w m other = (m.value w ≡ other.value w) × (m.effect w ≡ other.effect w)

-- Behind its arguments a call spends a turn, and is the function's body with variables of its own, of which each parameter holds its argument: where
-- a turn is left, the function may be entered and there is room.
abbrev pub CallPassesArguments : Type 0
CallPassesArguments =
    (src : Source) (turns token number rest : ℕ) (name : List ℕ) (locals : Locals) (f : Signature) (passed : ExprList) (arguments : List Scalar)
    (w u : World) (objects : Objects) →
    let s : Setting = setting_of src (call_at src (suc turns)) locals in
    src.facts.function_at token ≡ Some number → src.facts.signature number ≡ Some f → ArePassed s f.params passed w arguments u →
    u.turns ≡ suc rest → u.active < active_limit → all_made (first_cells arguments f.locals) u.objects ≡ Some objects →
    HasOwnVariables f arguments u.objects objects
    × MeansIn w (expr s (e.Call token name passed))
    (with_result s token (has_value f.result) (λ _. body_of src turns number f objects (record u { turns = rest })))

-- `return value;` returns what an assignment of the value to an object of the function's type would store there.
abbrev pub ReturnIsAssigned : Type 0
ReturnIsAssigned =
    (s : Setting) (n token equals at : ℕ) (name : List ℕ) (result : ValueType) (value : ExprTree) (v : Scalar) (w u : World) →
    s.facts.type_at at ≡ Some result → (expr s (e.Assign equals sign.Equal (e.Name at name) value)).value w ≡ Go v u →
    (y : World) × (exec s n result (tree.Return token (Some value)) w ≡ Go (Returned (Some v)) y)
