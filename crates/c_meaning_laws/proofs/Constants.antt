-- The globals of a text whose types fit have their values before a run.
use Rattle.std.proofs.Common.{◌≡◌, ℕ, refl, subst, List, [], ◌∷◌, Some, None, Bool, true, false}
use Rattle.std.proofs.lemmas.Bool.{false≢true}
use Rattle.std.specs.Prelude.{Option, IsSome, ℤ, neg_ℤ, ◌+◌}
use Rattle.std.specs.List.{flat_map}
use Rattle.std.specs.Option.{option_and_then, option_map}
use Rattle.cbi_base.specs.declared.operators.Unary.TheVariants as unary
use Rattle.cbi_base.specs.declared.scalar.Kind.{Kind}
use Rattle.cbi_base.specs.declared.scalar.Kind.TheVariants.{Char, Int, Unsigned}
use Rattle.cbi_base.specs.declared.scalar.Scalar.{Scalar}
use Rattle.cbi_base.specs.declared.scalar.Scalar.TheVariants.{Number, Place, Null, Undefined}
use Rattle.cbi_base.specs.Words.{wrapped_value, Object, applied_to_one, converted_number}
use Rattle.c_syntax.specs.declared.expr.PrefixOperator.TheVariants as prefix
use Rattle.c_syntax.specs.ExprTree as e
use Rattle.c_syntax.specs.Words.{ExprTree, ExprList, SourceTree, InitialTree, StartTree}
use Rattle.c_syntax.specs.StatementTree as tree
use Rattle.c_types_rules.specs.TypeTree.{TypeTree}
use Rattle.c_types_expressions.specs.declared.walk.Walk.{Walk}
use Rattle.c_types.specs.Answers.{declared_at}
use Rattle.flow.specs.declared.program.Text.{Text}
use Rattle.flow.specs.declared.site.Site.{Site}
use Rattle.c_meaning.specs.declared.value_type.ValueType.{ValueType}
use Rattle.c_meaning.specs.declared.value_type.ValueType.TheVariants as type
use Rattle.c_meaning.specs.Words.{as_wanted, kind_conversion, conversion, conversion_result, is_null_as, Sense, one_operand, wanted_value, Facts, before_all, before_cells}
use Rattle.c_meaning.specs.Words.{constant_value, constant_values, given_by, given_to, global_object, global_objects, empty_world, object_with, one_more, spelled_cells}
use Rattle.c_meaning.specs.Words.{starts_of, computed_type, element_type, facts_of, expr, text_of_string, text_place, source_of, type_of, Out, Go, World}
use Rattle.c_meaning.specs.Words.{answer_or_trap}
use Rattle.c_meaning_laws.specs.Rules.{Accepts, TakesOrNull, TakesType}
use Rattle.c_meaning_laws.specs.TypedSource.{SourceFits}
use Rattle.c_meaning_laws.specs.TypedText.{GlobalInitial, GlobalItems, IsConstant, Negates, TypedText, TypedGlobal, TypedGlobals}
use Rattle.c_meaning_laws.proofs.Values.{Given, at_fits, null_fits}
use Rattle.c_meaning_laws.proofs.Tables.{every_table_fits}

-- a part that goes on with a value of the type, in the same world
abbrev Gives : Option ValueType → World → Out Scalar → Type 0
Gives t w m = (v : Scalar) × Given t v × (m ≡ Go v w)

number_converts : (have wanted : Kind) (n : ℤ) (w : World) → Gives (Some (type.Number wanted)) w (answer_or_trap (conversion_result (kind_conversion have wanted) (Number have n)) w)
unfolding converted_number
number_converts Char Char n w = (Number Char n, (refl, refl), refl)
number_converts Int Int n w = (Number Int n, (refl, refl), refl)
number_converts Unsigned Unsigned n w = (Number Unsigned n, (refl, refl), refl)
number_converts Char Int n w = (Number Int (wrapped_value Int n), (refl, refl), refl)
number_converts Char Unsigned n w = (Number Unsigned (wrapped_value Unsigned n), (refl, refl), refl)
number_converts Int Char n w = (Number Char (wrapped_value Char n), (refl, refl), refl)
number_converts Int Unsigned n w = (Number Unsigned (wrapped_value Unsigned n), (refl, refl), refl)
number_converts Unsigned Char n w = (Number Char (wrapped_value Char n), (refl, refl), refl)
number_converts Unsigned Int n w = (Number Int (wrapped_value Int n), (refl, refl), refl)

takes_given : (t u : Option ValueType) (v : Scalar) (w : World) → TakesType t u → Given u v → Gives t w (as_wanted (conversion u t) v w)
takes_given (Some (type.Number wanted)) (Some (type.Number have)) (Number k n) w h g =
    subst (λ a. Gives (Some (type.Number wanted)) w (answer_or_trap (conversion_result (kind_conversion have wanted) (Number a n)) w)) g.0 (number_converts have wanted n w)
takes_given (Some (type.Number wanted)) (Some (type.Number have)) Undefined w h g = absurd (false≢true g.1)
takes_given (Some (type.Number wanted)) (Some (type.Number have)) Null w h g = absurd g.0
takes_given (Some (type.Number wanted)) (Some (type.Number have)) (Place a i) w h g = absurd g.0
takes_given (Some (type.Pointer size)) (Some (type.Pointer other)) (Place a i) w h g = (Place a i, (tt, refl), refl)
takes_given (Some (type.Pointer size)) (Some (type.Pointer other)) Null w h g = (Null, (tt, refl), refl)
takes_given (Some (type.Pointer size)) (Some (type.Pointer other)) Undefined w h g = absurd (false≢true g.1)
takes_given (Some (type.Pointer size)) (Some (type.Pointer other)) (Number k n) w h g = absurd g.0
takes_given (Some (type.Pointer size)) (Some (type.Array other)) (Place a i) w h g = (Place a i, (tt, refl), refl)
takes_given (Some (type.Pointer size)) (Some (type.Array other)) Null w h g = absurd g.0
takes_given (Some (type.Pointer size)) (Some (type.Array other)) Undefined w h g = absurd (false≢true g.1)
takes_given (Some (type.Pointer size)) (Some (type.Array other)) (Number k n) w h g = absurd g.0
takes_given t u v w h g = absurd h

-- `-` before a number
negated : (k : Kind) (n : ℤ) (w : World) → Negates k n → Gives (Some (type.Number k)) w (one_operand (Some (type.Number k)) (Some (type.Number k)) unary.Neg
    (Number k n) w)
unfolding applied_to_one
negated Char n w h = absurd h
negated Int n w h = rw h (Number Int (neg_ℤ n), (refl, refl), refl)
negated Unsigned n w h = (Number Unsigned (wrapped_value Unsigned (neg_ℤ n)), (refl, refl), refl)

constant_given : (facts : Facts) (x : ExprTree) → IsConstant facts x → Gives (type_of facts x) empty_world ((expr (before_all facts) x).value empty_world)
constant_given facts (e.Constant token kind value) h = rw h (Number kind value, (refl, refl), refl)
constant_given facts (e.Prefix token prefix.Minus (e.Constant at kind value)) h = rw h.1 (rw h.2 (negated kind value empty_world h.0))
constant_given facts (e.Strings token parts) h = placed (facts.text_at token) h.0
  where
    placed : (o : Option ℕ) → IsSome o → Gives (facts.type_at token) empty_world (text_place facts o empty_world)
    placed None k = absurd (false≢true k)
    placed (Some number) k = (
      Place (facts.statics.globals + number) 0,
      (
        at_fits (facts.type_at token)
            (Place (facts.statics.globals + number) 0) h.1 tt,
        refl,
      ),
      refl,
    )
constant_given facts (e.Null token) h = (Null, (null_fits (facts.type_at token) h, refl), refl)
constant_given facts x h = absurd h

some_given : (t : Option ValueType) (w : World) (m : Out Scalar) → Gives t w m → IsSome (given_by m)
some_given t w m h = rw h.2 refl

wanted_given : (t u : Option ValueType) (is_null : Bool) (m : Sense) → TakesOrNull is_null t u → Gives u empty_world (m.value empty_world)
    → IsSome (given_by (wanted_value is_null u t m empty_world))
wanted_given t u true m h g = refl
wanted_given t u false m h g = rw g.2 (some_given t empty_world (as_wanted (conversion u t) g.0 empty_world) (takes_given t u g.0 empty_world h g.1))

constant_some : (facts : Facts) (t : Option ValueType) (x : ExprTree) → IsConstant facts x → Accepts facts t x → IsSome (constant_value facts t x)
constant_some facts t x h k = wanted_given t (type_of facts x) (is_null_as t x) (expr (before_all facts) x) k (constant_given facts x h)

-- cells
before_some : (v : Option Scalar) (cells : Option (List Scalar)) → IsSome v → IsSome cells → IsSome (before_cells v cells)
before_some (Some v) (Some cells) h k = refl
before_some None cells h k = absurd (false≢true h)
before_some (Some v) None h k = absurd (false≢true k)

constants_some : (facts : Facts) (t : Option ValueType) (xs : ExprList) → GlobalItems facts t xs → IsSome (constant_values facts t xs)
constants_some facts t e.no_exprs h = refl
constants_some facts t (e.more_exprs x rest) h = before_some (constant_value facts t x) (constant_values facts t rest) (constant_some facts t x h.0 h.1)
    (constants_some facts t rest h.2)

spelled_some : (o : Option Text) → IsSome o → IsSome (spelled_cells o)
spelled_some None h = h
spelled_some (Some text) h = refl

mapped_some : {A B : Type 0} (f : A → B) (o : Option A) → IsSome o → IsSome (option_map f o)
mapped_some f None h = h
mapped_some f (Some x) h = refl

given_some : (facts : Facts) (of : ValueType) (element : Option ValueType) (x : Option InitialTree) → GlobalInitial facts of element x
    → IsSome (given_to facts of element x)
given_some facts of element None h = refl
given_some facts (type.Array size) element (Some (tree.Value x)) h = spelled_some (text_of_string facts x) h
given_some facts of element (Some (tree.Braced token items comma)) h = constants_some facts element items h
given_some facts of element (Some (tree.Value x)) h = mapped_some (λ v. v ∷ []) (constant_value facts (Some of) x) (constant_some facts (Some of) x h.0 h.1)

-- objects
object_some : (facts : Facts) (w : Walk) (x : StartTree) (o : Option TypeTree) → TypedGlobal facts w x o → IsSome (option_and_then (object_with facts w x) o)
object_some facts w x None h = absurd h
object_some facts w x (Some of) h =
    mapped_some _ (given_to facts (computed_type w.structs of) (element_type w.structs of) x.initial)
    (given_some facts (computed_type w.structs of) (element_type w.structs of) x.initial h)

one_more_some : (object : Option Object) (objects : Option (List Object)) → IsSome object → IsSome objects → IsSome (one_more object objects)
one_more_some None objects h k = h
one_more_some (Some object) None h k = k
one_more_some (Some object) (Some objects) h k = refl

globals_some : (facts : Facts) (w : Walk) (xs : List StartTree) → TypedGlobals facts w xs → IsSome (global_objects facts w xs)
globals_some facts w [] h = refl
globals_some facts w (x ∷ xs) h =
    one_more_some (global_object facts w x) (global_objects facts w xs) (object_some facts w x (declared_at w x.declarator.name_token) h.0)
    (globals_some facts w xs h.1)

-- a tree that fits is a source that fits
pub text_is_source : (t : SourceTree) (w : Walk) (table : List Site) → TypedText t w table → SourceFits (source_of t w table)
text_is_source t w table h = record {
  sites = every_table_fits table;
  bodies = h.functions;
  main = h.main;
  objects = mapped_some _ (global_objects (facts_of t w) w (flat_map starts_of t.items)) (globals_some (facts_of t w) w
      (flat_map starts_of t.items) h.globals);
}
