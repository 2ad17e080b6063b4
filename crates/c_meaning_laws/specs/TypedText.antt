-- A whole tree whose types fit after the walk through them: its globals begin with constants (C99 6.6, 6.7.8p4).
use Rattle.std.specs.Prelude.{◌≡◌, ℕ, ℤ, neg_ℤ, IsTrue, IsSome, List, [], ◌∷◌, Option, Some, None, slice_get}
use Rattle.std.specs.List.{flat_map}
use Rattle.cbi_base.specs.declared.scalar.Kind.{Kind}
use Rattle.cbi_base.specs.declared.scalar.Kind.TheVariants.{Char, Int, Unsigned}
use Rattle.cbi_base.specs.Kind.{lies_in}
use Rattle.c_syntax.specs.declared.expr.PrefixOperator.TheVariants as prefix
use Rattle.c_syntax.specs.ExprTree as e
use Rattle.c_syntax.specs.Words.{ExprTree, ExprList, SourceTree, InitialTree, StartTree}
use Rattle.c_syntax.specs.StatementTree as tree
use Rattle.c_types_rules.specs.TypeTree.{TypeTree}
use Rattle.c_types_expressions.specs.declared.walk.Walk.{Walk}
use Rattle.c_types.specs.Answers.{declared_at}
use Rattle.flow.specs.declared.site.Site.{Site}
use Rattle.c_meaning.specs.declared.value_type.ValueType.{ValueType}
use Rattle.c_meaning.specs.declared.value_type.ValueType.TheVariants as type
use Rattle.c_meaning.specs.Words.{Facts, Signature, starts_of, function_bodies, computed_type, element_type, facts_of, text_of_string, main_of, sites_by_table}
use Rattle.c_meaning_laws.specs.Rules.{Accepts, IsPointer, IsPointing}
use Rattle.c_meaning_laws.specs.TypedSource.{GivesInt, TypedBody}

-- a number that a `-` may stand before
abbrev pub Negates : Kind → ℤ → Type 0
Negates Int value = IsTrue (lies_in Int (neg_ℤ value))
Negates Unsigned value = Unit {0}
Negates Char value = ⊥

-- a constant that initialises a global: a number, one behind a `-`, a string, or NULL
abbrev pub IsConstant : Facts → ExprTree → Type 0
IsConstant facts (e.Constant token kind value) = facts.type_at token ≡ Some (type.Number kind)
IsConstant facts (e.Prefix token prefix.Minus (e.Constant at kind value)) =
    Negates kind value × (facts.type_at at ≡ Some (type.Number kind)) × (facts.type_at token ≡ Some (type.Number kind))
IsConstant facts (e.Strings token parts) = IsSome (facts.text_at token) × IsPointing (facts.type_at token)
IsConstant facts (e.Null token) = IsPointer (facts.type_at token)
IsConstant facts x = ⊥

abbrev pub GlobalItems : Facts → Option ValueType → ExprList → Type 0
GlobalItems facts element e.no_exprs = Unit {0}
GlobalItems facts element (e.more_exprs x rest) = IsConstant facts x × Accepts facts element x × GlobalItems facts element rest

-- an initialiser of a global of this type, and with elements of that one where it is an array
abbrev pub GlobalInitial : Facts → ValueType → Option ValueType → Option InitialTree → Type 0
GlobalInitial facts of element None = Unit {0}
GlobalInitial facts (type.Array size) element (Some (tree.Value x)) = IsSome (text_of_string facts x)
GlobalInitial facts of element (Some (tree.Value x)) = IsConstant facts x × Accepts facts (Some of) x
GlobalInitial facts of element (Some (tree.Braced token items comma)) = GlobalItems facts element items

abbrev pub TypedGlobal : Facts → Walk → StartTree → Option TypeTree → Type 0
TypedGlobal facts w x None = ⊥
TypedGlobal facts w x (Some of) = GlobalInitial facts (computed_type w.structs of) (element_type w.structs of) x.initial

abbrev pub TypedGlobals : Facts → Walk → List StartTree → Type 0
TypedGlobals facts w [] = Unit {0}
TypedGlobals facts w (x ∷ xs) = TypedGlobal facts w x (declared_at w x.declarator.name_token) × TypedGlobals facts w xs

-- Each defined function has a body whose types fit and at which this table's sites may stand, `main` gives an `int`, and each global a constant.
pub record TypedText (t : SourceTree) (w : Walk) (table : List Site) : Type 0 where
  pub functions : (number : ℕ) (f : Signature) → (facts_of t w).signature number ≡ Some f → TypedBody (facts_of t w) (sites_by_table table) f
      (slice_get (function_bodies t) number)
  pub main : GivesInt ((facts_of t w).signature (main_of w))
  pub globals : TypedGlobals (facts_of t w) w (flat_map starts_of t.items)
