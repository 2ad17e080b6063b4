-- `return v` of the first `main` is `exit(v)` (C99 5.1.2.2.3p1).
use Rattle.std.specs.Prelude.{◌≡◌, ◌⊎◌, ℕ, true, List, [], Some, None, codes, length}
use Rattle.cbi_base.specs.declared.scalar.Kind.TheVariants.{Int}
use Rattle.cbi_base.specs.declared.scalar.Scalar.{Scalar}
use Rattle.cbi_base.specs.Words.{all_made, first_cells, Locals, each_made, Object, Objects, no_objects, IsInRange}
use Rattle.c_syntax.specs.ExprTree as e
use Rattle.c_syntax.specs.Words.{ExprTree, StatementTree, EntryList}
use Rattle.c_syntax.specs.StatementTree as tree
use Rattle.c_meaning.specs.declared.value_type.ValueType.TheVariants as type
use Rattle.c_meaning.specs.Words.{Facts, Signature, Behaviour, Source, run_behaviour, call_at, first_world, body_world, locals_at, meaning, setting_of}
use Rattle.c_meaning.specs.Words.{value_left}
use Rattle.c_meaning.specs.Words.{exec_all, type_of, World, Out, Go, Flow, Returned, bind}
use Rattle.c_meaning_laws.specs.Rules.{IsNumberType}
use Rattle.c_meaning_laws.specs.TypedSource.{SourceFits}
use Rattle.c_meaning_laws.specs.Negation.{IsValueOfType}

-- `exit(v)`
abbrev pub exit_with : ℕ → ExprTree → ExprTree
exit_with name v = e.Call name (codes "exit") (e.more_exprs v e.no_exprs)

-- The second statement is the first, but that `exit(v);` may stand where `return v;` stands, with a number v: the name `exit` is that of the library.
abbrev mutual
  pub IsExited : Facts → StatementTree → StatementTree → Type 0
  IsExited facts (tree.Return token (Some v)) y = (y ≡ tree.Return token (Some v))
      ⊎ ((other name : ℕ) × (y ≡ tree.Expr other (exit_with name v)) × (facts.function_at name ≡ None) × IsNumberType (type_of facts v))
  IsExited facts (tree.Block token entries) y = (others : EntryList) × (y ≡ tree.Block token others) × AreExited facts entries others
  IsExited facts (tree.If token c first) y = (other : StatementTree) × (y ≡ tree.If token c other) × IsExited facts first other
  IsExited facts (tree.IfElse token c first second) y =
      (other another : StatementTree) × (y ≡ tree.IfElse token c other another) × IsExited facts first other × IsExited facts second another
  IsExited facts (tree.While token c body) y = (other : StatementTree) × (y ≡ tree.While token c other) × IsExited facts body other
  IsExited facts (tree.Do token body c) y = (other : StatementTree) × (y ≡ tree.Do token other c) × IsExited facts body other
  IsExited facts (tree.For token start c step body) y = (other : StatementTree) × (y ≡ tree.For token start c step other) × IsExited facts body other
  IsExited facts x y = y ≡ x

  pub AreExited : Facts → EntryList → EntryList → Type 0
  AreExited facts tree.no_entries others = others ≡ tree.no_entries
  AreExited facts (tree.declared d rest) others = (more : EntryList) × (others ≡ tree.declared d more) × AreExited facts rest more
  AreExited facts (tree.stated x rest) others =
      (y : StatementTree) × (more : EntryList) × (others ≡ tree.stated y more) × IsExited facts x y × AreExited facts rest more

-- what the first `main` does with this body: the functions that it calls, which may be `main` again, are those of the text
abbrev pub main_body : Source → ℕ → Locals → EntryList → World → Out Flow
main_body src turns locals body w = exec_all (setting_of src (call_at src turns) locals) turns (type.Number Int) body w

-- how the run ends with it, and what it wrote and saw
abbrev pub main_run : Source → ℕ → Locals → EntryList → World → Behaviour
main_run src turns locals body w = run_behaviour (bind (main_body src turns locals body w) (value_left true true))

-- what the body returns, where it does, is an `int`
abbrev pub ReturnsInt : Source → ℕ → Locals → EntryList → World → Type 0
ReturnsInt src turns locals body w =
    (v : Scalar) (u : World) → main_body src turns locals body w ≡ Go (Returned (Some v)) u → IsValueOfType (Some (type.Number Int)) v

-- Wherever `return v;` stands in the body of the first `main`, and however often it is passed: with `exit(v);` in its place the run ends the same, and
-- wrote and saw the same.
abbrev pub ReturnOfMainExits : Type 0
ReturnOfMainExits =
    (src : Source) (turns : ℕ) (locals : Locals) (body other : EntryList) (w : World) → AreExited src.facts body other → ReturnsInt src turns locals body w →
    main_run src turns locals other w ≡ main_run src turns locals body w

-- A run of a text is one of the body of `main`, where there is room for the objects of the beginning and for its variables.
abbrev pub RunIsOfMain : Type 0
RunIsOfMain =
    (src : Source) (input : List ℕ) (turns : ℕ) (f : Signature) (body : EntryList) (made : List Object) (objects entered : Objects) →
    src.facts.signature src.main ≡ Some f → f.result ≡ type.Number Int → src.body src.main ≡ Some body → src.objects ≡ Some made →
    each_made made no_objects ≡ Some objects → all_made (first_cells [] f.locals) objects ≡ Some entered →
    let w : World = first_world objects input turns in
    meaning src input turns ≡ main_run src turns (locals_at f w) body (body_world entered w)

-- In a text whose types fit, what the body of `main` returns is an `int`, if a number that it returns lies in its kind's range.
abbrev pub TypedMainMeets : Type 0
TypedMainMeets =
    (src : Source) (turns : ℕ) (locals : Locals) (f : Signature) (body : EntryList) (w : World) → SourceFits src →
    src.facts.signature src.main ≡ Some f → src.body src.main ≡ Some body → locals.count ≡ length f.locals →
    ((v : Scalar) (u : World) → main_body src turns locals body w ≡ Go (Returned (Some v)) u → IsInRange v) → ReturnsInt src turns locals body w
