-- What the meaning of a tree rests on: what is known of its tokens, and the sites.
use Rattle.std.specs.Prelude.{ℕ, List, Option}
use Rattle.cbi_base.specs.Frames.{Locals}
use Rattle.c_syntax.specs.declared.parts.Base.{Base}
use Rattle.flow.specs.declared.site.Site.{Site}
use Rattle.flow.specs.declared.site.Slot.{Slot}
use Rattle.flow.specs.Statics.{Statics}
use Rattle.c_meaning.specs.declared.value_type.ValueType.{ValueType}
use Rattle.c_meaning.specs.World.{Caller}

-- the types of a function's parameters and of its result, and the sizes of its variables, the parameters first
pub record Signature : Type 0 where
  pub params : List ValueType
  pub result : ValueType
  pub locals : List ℕ

pub record Facts : Type 0 where
  -- the type of the expression whose own token it is, an array as such, and how many cells an object of it has
  pub type_at : ℕ → Option ValueType
  pub cells_at : ℕ → Option ℕ
  -- how many cells an object of a named type has: its base, with so many stars
  pub named_cells : Base → ℕ → Option ℕ
  -- the variable that the name at the token declares or names, its type, and that of its elements where it is an array
  pub slot_at : ℕ → Option Slot
  pub declared_at : ℕ → Option ValueType
  pub element_at : ℕ → Option ValueType
  -- the offset of the member that a `.` or `->` at the token names
  pub offset_at : ℕ → Option ℕ
  -- the number of the defined function whose call has its name at the token
  pub function_at : ℕ → Option ℕ
  -- the number of the string at the token, and how many globals and which strings there are: the strings are the objects after the globals
  pub text_at : ℕ → Option ℕ
  pub statics : Statics
  pub signature : ℕ → Option Signature

-- The sites by token: the one of a condition, the one of a returned value, and those of an assigned variable; and what each looks at.
pub record Sites : Type 0 where
  pub branch_at : ℕ → Option ℕ
  pub return_at : ℕ → Option ℕ
  pub pairs_at : ℕ → List ℕ
  pub site : ℕ → Option Site

-- what stays while the body of a function runs
pub record Setting : Type 0 where
  pub facts : Facts
  pub sites : Sites
  pub call : Caller
  pub locals : Locals
