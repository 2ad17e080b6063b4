-- What the facts at the tokens of declarations and statements owe one another where they have no fault, and which sites fit them.
use Rattle.std.specs.Prelude.{◌≡◌, ◌⊎◌, ◌<◌, ℕ, Bool, true, false, IsTrue, IsSome, List, [], ◌∷◌, Option, Some, None}
use Rattle.cbi_base.specs.Printing.{pieces_of}
use Rattle.c_types_rules.specs.declared.library.Library.TheVariants as library
use Rattle.c_syntax.specs.ExprTree as e
use Rattle.c_syntax.specs.Words.{ExprTree, ExprList, InitialTree, StartTree, ForStartTree, StatementTree, EntryList}
use Rattle.c_syntax.specs.StatementTree as tree
use Rattle.flow.specs.declared.program.Text.{Text}
use Rattle.flow.specs.declared.site.Slot.{Slot}
use Rattle.flow.specs.declared.site.Slot.TheVariants as slot
use Rattle.c_meaning.specs.declared.value_type.Called.{Called}
use Rattle.c_meaning.specs.declared.value_type.Called.TheVariants as called
use Rattle.c_meaning.specs.declared.value_type.ValueType.{ValueType}
use Rattle.c_meaning.specs.declared.value_type.ValueType.TheVariants as type
use Rattle.c_meaning.specs.Words.{types_taken, Facts, Sites, equals_token, text_of_string, called_as, has_value, type_of}
use Rattle.c_meaning_laws.specs.Rules.{Accepts, IsScalar, IsValue}
use Rattle.c_meaning_laws.specs.Typed.{PairsFit, Typed, TypedArguments}

-- arguments as the conversions of a format take them
abbrev pub FitsFormat : Option Text → (List ValueType → Type 0) → Type 0
FitsFormat None Arguments = ⊥
FitsFormat (Some format) Arguments = Arguments (types_taken (pieces_of format.bytes))

module _ (facts : Facts) (sites : Sites) (count : ℕ) where
  -- a format, and an argument for each of its conversions
  abbrev pub TypedFormat : ExprList → Type 0
  TypedFormat e.no_exprs = ⊥
  TypedFormat (e.more_exprs x rest) = FitsFormat (text_of_string facts x) (λ types. TypedArguments facts sites count types rest)

  abbrev pub TypedPrint : Called → ExprList → Type 0
  TypedPrint (called.Library library.Printf) arguments = TypedFormat arguments
  TypedPrint other arguments = ⊥

  -- a call of `printf`
  abbrev pub IsPrint : ExprTree → Type 0
  IsPrint (e.Call token name arguments) = TypedPrint (called_as (facts.function_at token) name) arguments
  IsPrint x = ⊥

  -- The expression of a statement: `printf` is called there alone.
  abbrev pub TypedWhole : ExprTree → Type 0
  TypedWhole x = IsPrint x ⊎ Typed facts sites count x

  abbrev pub TypedCondition : ExprTree → Type 0
  TypedCondition x = Typed facts sites count x × IsValue (type_of facts x)

  abbrev pub TypedPart : Option ExprTree → Type 0
  TypedPart None = Unit {0}
  TypedPart (Some x) = Typed facts sites count x

  abbrev pub TypedTest : Option ExprTree → Type 0
  TypedTest None = Unit {0}
  TypedTest (Some x) = TypedCondition x

  -- elements of an array of this type
  abbrev pub TypedElements : Option ValueType → ExprList → Type 0
  TypedElements element e.no_exprs = Unit {0}
  TypedElements element (e.more_exprs x rest) = Typed facts sites count x × Accepts facts element x × TypedElements element rest

  -- a value of a variable of the type: an array takes a string alone
  abbrev pub TypedValue : ℕ → Option ValueType → ExprTree → Type 0
  TypedValue token (Some (type.Array size)) x = IsScalar (facts.element_at token) × IsSome (text_of_string facts x)
  TypedValue token t x = Typed facts sites count x × Accepts facts (facts.declared_at token) x
      × PairsFit sites (facts.slot_at token) (facts.declared_at token) (sites.pairs_at (equals_token token))

  abbrev pub TypedInitial : ℕ → Option InitialTree → Type 0
  TypedInitial token None = Unit {0}
  TypedInitial token (Some (tree.Value x)) = TypedValue token (facts.declared_at token) x
  TypedInitial token (Some (tree.Braced at items comma)) = IsScalar (facts.element_at token) × TypedElements (facts.element_at token) items

  -- a variable of the running function
  abbrev pub IsLocal : Option Slot → Type 0
  IsLocal (Some (slot.Local index)) = index < count
  IsLocal other = ⊥

  abbrev pub TypedStarts : List StartTree → Type 0
  TypedStarts [] = Unit {0}
  TypedStarts (x ∷ xs) = IsLocal (facts.slot_at x.declarator.name_token) × TypedInitial x.declarator.name_token x.initial × TypedStarts xs

  abbrev pub TypedBeginning : ForStartTree → Type 0
  TypedBeginning (tree.Declares d) = TypedStarts d.starts
  TypedBeginning (tree.Computes x) = TypedPart x

  -- in a function with this result, and within a loop or not
  module _ (result : ValueType) where
    abbrev mutual
      pub TypedStatement : Bool → StatementTree → Type 0
      TypedStatement looping (tree.Block token entries) = TypedEntries looping entries
      TypedStatement looping (tree.Empty token) = Unit {0}
      TypedStatement looping (tree.Expr token x) = TypedWhole x
      TypedStatement looping (tree.If token condition first) = TypedCondition condition × TypedStatement looping first
      TypedStatement looping (tree.IfElse token condition first second) =
          TypedCondition condition × TypedStatement looping first × TypedStatement looping second
      TypedStatement looping (tree.While token condition body) = TypedCondition condition × TypedStatement true body
      TypedStatement looping (tree.Do token body condition) = TypedCondition condition × TypedStatement true body
      TypedStatement looping (tree.For token start condition step body) =
          TypedBeginning start × TypedTest condition × TypedPart step × TypedStatement true body
      TypedStatement looping (tree.Return token None) = has_value result ≡ false
      TypedStatement looping (tree.Return token (Some x)) = Typed facts sites count x × Accepts facts (Some result) x
      TypedStatement looping (tree.Break token) = IsTrue looping
      TypedStatement looping (tree.Continue token) = IsTrue looping

      pub TypedEntries : Bool → EntryList → Type 0
      TypedEntries looping tree.no_entries = Unit {0}
      TypedEntries looping (tree.declared declaration rest) = TypedStarts declaration.starts × TypedEntries looping rest
      TypedEntries looping (tree.stated statement rest) = TypedStatement looping statement × TypedEntries looping rest
