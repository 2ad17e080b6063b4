-- What globals begin with.
use Rattle.std.specs.Prelude.{◌≡◌, ℕ, ◌+◌, ◌<◌, ◌≤◌, Option, Some, None}
use Rattle.std.specs.List.{All}
use Rattle.cbi_base.specs.declared.scalar.Scalar.{Scalar}
use Rattle.cbi_base.specs.declared.scalar.Scalar.TheVariants.{Number, Place, Null, Undefined}
use Rattle.cbi_base.specs.Words.{LiesIn, Object}
use Rattle.c_syntax.specs.declared.expr.PrefixOperator.TheVariants as prefix
use Rattle.c_syntax.specs.ExprTree as e
use Rattle.c_syntax.specs.Words.{ExprTree, ExprList, ItemTree, InitialTree, StartTree}
use Rattle.c_syntax.specs.StatementTree as tree
use Rattle.c_types_expressions.specs.declared.walk.Walk.{Walk}
use Rattle.flow.specs.Limits.{text_limit}
use Rattle.c_meaning.specs.Words.{Facts, global_object, starts_of}

-- a constant that initialises a global: a number in its kind's range, one behind a `-`, a string, or NULL (C99 6.6)
abbrev pub IsStart : ExprTree → Type 0
IsStart (e.Constant token kind value) = LiesIn kind value
IsStart (e.Prefix token prefix.Minus (e.Constant at kind value)) = LiesIn kind value
IsStart (e.Strings token parts) = Unit {0}
IsStart (e.Null token) = Unit {0}
IsStart x = ⊥

abbrev pub AreStarts : ExprList → Type 0
AreStarts e.no_exprs = Unit {0}
AreStarts (e.more_exprs x rest) = IsStart x × AreStarts rest

-- an initialiser of a global, where it has one
abbrev pub IsGlobalStart : Option InitialTree → Type 0
IsGlobalStart None = Unit {0}
IsGlobalStart (Some (tree.Value x)) = IsStart x
IsGlobalStart (Some (tree.Braced token items comma)) = AreStarts items

-- A value with which a cell of a global begins. A place is that of a string, at its first byte: the strings are the objects behind the globals.
abbrev pub IsFirst : ℕ → Scalar → Type 0
IsFirst globals (Number kind value) = Unit {0}
IsFirst globals (Place object offset) = (offset ≡ 0) × (globals ≤ object) × (object < globals + text_limit)
IsFirst globals Null = Unit {0}
IsFirst globals Undefined = ⊥

-- if there is an object, its cells begin so
abbrev pub IfFirst : ℕ → Option Object → Type 0
IfFirst globals None = Unit {0}
IfFirst globals (Some object) = All (IsFirst globals) object.cells

-- a global that begins with constants, and with their values in its cells
pub record IsBegun (facts : Facts) (w : Walk) (x : StartTree) : Type 0 where
  pub initial : IsGlobalStart x.initial
  pub cells : IfFirst facts.statics.globals (global_object facts w x)

-- so do all globals that an item declares
abbrev pub IsBegunItem : Facts → Walk → ItemTree → Type 0
IsBegunItem facts w x = All (IsBegun facts w) (starts_of x)
