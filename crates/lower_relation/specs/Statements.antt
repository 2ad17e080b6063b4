-- What it is for a graph to do a statement (C99 6.8).
use Rattle.std.specs.Prelude.{◌≡◌, ℕ, Option, Some, None}
use Rattle.c_syntax.specs.Words.{ExprTree, ForStartTree, StatementTree, EntryList}
use Rattle.c_syntax.specs.StatementTree as tree
use Rattle.flow.specs.declared.node.View.TheVariants.{Turns}
use Rattle.c_meaning.specs.declared.value_type.ValueType.{ValueType}
use Rattle.c_meaning.specs.Words.{is_null_as, Facts, Sites, type_of}
use Rattle.lower_relation.specs.Paths.{Graph, Path, ◌then◌, Ways, Exits, Nothing, Either, AlwaysTrue}
use Rattle.lower_relation.specs.Expressions.{Condition, emitted_expression}
use Rattle.lower_relation.specs.Initialisers.{DeclarationPath}
use Rattle.lower_relation.specs.Values.{WantedValue}

-- within a loop that goes on at a node, and after it at another one
abbrev pub within_loop : ℕ → ℕ → Exits → Exits
within_loop again after x = record x { next = again; breaks = after; continues = again }

-- control goes on after the statement
abbrev pub GoesOn : Path Exits
GoesOn i x = i ≡ x.next

-- a statement, and what comes after it
abbrev pub StatementSequence : Path Exits → Path Exits → Path Exits
StatementSequence R S i x = (m : ℕ) × R i (record x { next = m }) × S m x

module _ (G : Graph) where
  -- the condition before the body
  abbrev pub WhileLoop : Path Ways → Path Exits → Path Exits
  WhileLoop C B i x = (body again : ℕ) × C i (record { yes_to = body; no_to = x.next }) × B body (within_loop again x.next x) × G again (Turns i)

  -- the condition behind the body
  abbrev pub DoWhileLoop : Path Ways → Path Exits → Path Exits
  DoWhileLoop C B i x = (test again : ℕ) × B i (within_loop test x.next x) × C test (record { yes_to = again; no_to = x.next }) × G again (Turns i)

  -- the condition before the body, and a third part behind it
  abbrev pub ForLoop : Path Ways → Path ℕ → Path Exits → Path Exits
  ForLoop C S B i x =
      (body again step : ℕ) × C i (record { yes_to = body; no_to = x.next }) × B body (within_loop step x.next x) × S step again × G again (Turns i)

  module _ (facts : Facts) (sites : Sites) where
    abbrev pub OptionalEffect : Option ExprTree → Path ℕ
    OptionalEffect None = Nothing
    OptionalEffect (Some x) = (emitted_expression G facts sites x).effect

    -- a missing condition is true
    abbrev pub OptionalCondition : ℕ → Option ExprTree → Path Ways
    OptionalCondition token None = AlwaysTrue
    OptionalCondition token (Some x) = Condition G facts sites token x

    abbrev pub ForStartPath : ForStartTree → Path ℕ
    ForStartPath (tree.Declares d) = DeclarationPath G facts sites d
    ForStartPath (tree.Computes x) = OptionalEffect x

    -- `return`, with the value as one of the function's type
    abbrev pub ReturnPath : ValueType → Option ExprTree → Path Exits
    ReturnPath result None i x = i ≡ x.leaves
    ReturnPath result (Some v) i x = WantedValue G (is_null_as (Some result) v) (type_of facts v) (Some result) (emitted_expression G facts sites v) i x.gives

    -- in a function with this result
    abbrev mutual
      pub StatementDoes : ValueType → StatementTree → Path Exits
      StatementDoes result (tree.Block token entries) i x = EntriesDo result entries i x
      StatementDoes result (tree.Empty token) i x = GoesOn i x
      StatementDoes result (tree.Expr token v) i x = (emitted_expression G facts sites v).effect i x.next
      StatementDoes result (tree.If token c first) i x = Either (Condition G facts sites token c) (StatementDoes result first) GoesOn i x
      StatementDoes result (tree.IfElse token c first second) i x =
          Either (Condition G facts sites token c) (StatementDoes result first) (StatementDoes result second) i x
      StatementDoes result (tree.While token c body) i x = WhileLoop (Condition G facts sites token c) (StatementDoes result body) i x
      StatementDoes result (tree.Do token body c) i x = DoWhileLoop (Condition G facts sites token c) (StatementDoes result body) i x
      StatementDoes result (tree.For token start c step body) i x =
          (ForStartPath start then ForLoop (OptionalCondition token c) (OptionalEffect step) (StatementDoes result body)) i x
      StatementDoes result (tree.Return token v) i x = ReturnPath result v i x
      StatementDoes result (tree.Break token) i x = i ≡ x.breaks
      StatementDoes result (tree.Continue token) i x = i ≡ x.continues

      pub EntriesDo : ValueType → EntryList → Path Exits
      EntriesDo result tree.no_entries i x = GoesOn i x
      EntriesDo result (tree.declared d rest) i x = (DeclarationPath G facts sites d then EntriesDo result rest) i x
      EntriesDo result (tree.stated statement rest) i x = StatementSequence (StatementDoes result statement) (EntriesDo result rest) i x
