-- What a graph does for declared variables and their initialisers (C99 6.7.8).
use Rattle.std.specs.Prelude.{ℕ, suc, List, [], ◌∷◌, Option, Some, None}
use Rattle.cbi_base.specs.declared.scalar.Want.{Want}
use Rattle.c_syntax.specs.ExprTree as e
use Rattle.c_syntax.specs.Words.{ExprTree, ExprList, InitialTree, StartTree, DeclarationTree}
use Rattle.c_syntax.specs.StatementTree as tree
use Rattle.flow.specs.declared.node.Node.TheVariants as node
use Rattle.flow.specs.declared.program.Text.{Text}
use Rattle.flow.specs.declared.site.Slot.{Slot}
use Rattle.flow.specs.declared.site.Slot.TheVariants as slot
use Rattle.c_meaning.specs.declared.value_type.ValueType.{ValueType}
use Rattle.c_meaning.specs.declared.value_type.ValueType.TheVariants as type
use Rattle.c_meaning.specs.Words.{is_null_as, Facts, Sites, equals_token, want_of, text_of_string, type_of}
use Rattle.lower_relation.specs.Expressions.{emitted_expression, number_of_text}
use Rattle.lower_relation.specs.Operators.{Assigned, Member, Variable}
use Rattle.lower_relation.specs.Paths.{Graph, Path, ◌then◌, Does, Nothing, Stuck}
use Rattle.lower_relation.specs.Values.{DroppedValue, WantedValue}

module _ (G : Graph) where
  -- something is done to a local variable
  abbrev pub OnLocal : Option Slot → (ℕ → Path ℕ) → Path ℕ
  OnLocal (Some (slot.Local index)) R = R index
  OnLocal other R = Stuck G

  abbrev pub Clears : ℕ → Path ℕ
  Clears index = Does G (node.Clear index 0)

  -- all cells of the object are zero, or null
  abbrev pub Zeroes : Option Want → ℕ → Path ℕ
  Zeroes None index = Stuck G
  Zeroes (Some wanted) index = Does G (node.Zero index wanted 0)

  -- the bytes of the string with this number are stored
  abbrev pub Spells : Option ℕ → Option Text → ℕ → Path ℕ
  Spells (Some number) (Some text) index = Does G (node.Spell index number 0)
  Spells number text index = Stuck G

  module _ (facts : Facts) (sites : Sites) where
    -- a scalar is stored as by assignment, with the visits of the sites at the `=`
    abbrev pub ScalarSet : ℕ → ExprTree → Path ℕ
    ScalarSet token value =
        Variable G (facts.slot_at token)
        then WantedValue G (is_null_as (facts.declared_at token) value) (type_of facts value) (facts.declared_at token) (emitted_expression G facts sites value)
        then DroppedValue G (Assigned G facts sites (equals_token token))

    -- an element with this number is stored as by assignment
    abbrev pub ElementSet : ℕ → ℕ → ExprTree → Path ℕ
    ElementSet token index value =
        Variable G (facts.slot_at token) then Member G (Some index)
        then WantedValue G (is_null_as (facts.element_at token) value) (type_of facts value) (facts.element_at token) (emitted_expression G facts sites value)
        then DroppedValue G (Does G (node.Store 0))

    -- the items of a list, the first of them for the element with this number
    abbrev pub ElementsSet : ℕ → ℕ → ExprList → Path ℕ
    ElementsSet token index e.no_exprs = Nothing
    ElementsSet token index (e.more_exprs value rest) = ElementSet token index value then ElementsSet token (suc index) rest

    -- an array is zero in all cells before its list or its string is stored
    abbrev pub ArrayZeroed : ℕ → Path ℕ
    ArrayZeroed token = OnLocal (facts.slot_at token) (Zeroes (want_of (facts.element_at token)))

    abbrev pub ValueSet : ℕ → Option ValueType → ExprTree → Path ℕ
    ValueSet token (Some (type.Array size)) value =
        ArrayZeroed token then OnLocal (facts.slot_at token) (Spells (number_of_text facts value) (text_of_string facts value))
    ValueSet token of value = ScalarSet token value

    abbrev pub Initialised : ℕ → Option InitialTree → Path ℕ
    Initialised token None = Nothing
    Initialised token (Some (tree.Value value)) = ValueSet token (facts.declared_at token) value
    Initialised token (Some (tree.Braced at items comma)) = ArrayZeroed token then ElementsSet token 0 items

    -- a declaration makes its variable undefined, each time that it is reached, and then initialises it
    abbrev pub VariableStarts : StartTree → Path ℕ
    VariableStarts x = OnLocal (facts.slot_at x.declarator.name_token) Clears then Initialised x.declarator.name_token x.initial

    abbrev pub VariablesStart : List StartTree → Path ℕ
    VariablesStart [] = Nothing
    VariablesStart (x ∷ xs) = VariableStarts x then VariablesStart xs

    abbrev pub DeclarationPath : DeclarationTree → Path ℕ
    DeclarationPath d = VariablesStart d.starts
