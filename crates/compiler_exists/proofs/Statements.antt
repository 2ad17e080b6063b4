-- Nodes for each statement.
use Rattle.std.proofs.Common.{ℕ, ◌+◌, arith, Option, Some, None}
use Rattle.c_syntax.specs.Words.{ExprTree, ForStartTree, StatementTree, EntryList}
use Rattle.c_syntax.specs.StatementTree as tree
use Rattle.c_meaning.specs.declared.value_type.ValueType.{ValueType}
use Rattle.c_meaning.specs.Words.{is_null_as, Facts, Sites, type_of}
use Rattle.lower_relation.specs.Functions as f
use Rattle.lower_relation.specs.Paths.{Graph}
use Rattle.lower_relation.specs.Room.{body_room, branch_visits, entries_room, for_start_room, part_room, statement_room}
use Rattle.lower_relation.specs.Statements as s
use Rattle.lower_relation.specs.Statements.{GoesOn}
use Rattle.compiler_exists.specs.Built.{Builds}
use Rattle.lower_nodes.specs.Ends.{all_ends, one_end, two_ends}
use Rattle.compiler_exists.proofs.Building.{◌before◌, carried, either, fits, nothing, stuck, truly}
use Rattle.compiler_exists.proofs.Expressions.{condition, expression}
use Rattle.compiler_exists.proofs.Initialisers.{declares}
use Rattle.compiler_exists.proofs.Loops.{aimed_at, do_do, for_loop, left_at, one_before, while_do}
use Rattle.compiler_exists.proofs.Values.{wanted}

goes_on : Builds all_ends (λ (G : Graph). GoesOn) 0
goes_on = left_at (λ x. x.next) (λ n x below. below.0)

module _ (facts : Facts) (sites : Sites) where
  optional_effect : (y : Option ExprTree) → Builds one_end (λ G. s.OptionalEffect G facts sites y) (part_room sites y)
  optional_effect None = nothing
  optional_effect (Some y) = (expression facts sites y).effect

  optional_condition : (token : ℕ) (y : Option ExprTree) →
      Builds two_ends (λ G. s.OptionalCondition G facts sites token y) (1 + branch_visits sites token + part_room sites y)
  optional_condition token None = fits truly (omega arith)
  optional_condition token (Some y) = condition facts sites token y

  for_starts : (y : ForStartTree) → Builds one_end (λ G. s.ForStartPath G facts sites y) (for_start_room sites y)
  for_starts (tree.Declares d) = declares facts sites d
  for_starts (tree.Computes y) = optional_effect y

  returns_at : (result : ValueType) (y : Option ExprTree) → Builds all_ends (λ G. s.ReturnPath G facts sites result y) (2 + part_room sites y)
  returns_at result None = fits (carried (left_at (λ x. x.leaves) (λ n x below. below.1.1.1.1.0)) (λ G i x h. h)) (omega arith)
  returns_at result (Some y) =
      fits (carried (aimed_at (λ x. x.gives) (λ n x below. below.1.1.1.0)
      (wanted (is_null_as (Some result) y) (type_of facts y) (Some result) (expression facts sites y)))
      (λ G i x h. h)) (omega arith)

  mutual
    pub statement : (result : ValueType) (y : StatementTree) → Builds all_ends (λ G. s.StatementDoes G facts sites result y) (statement_room sites y)
    statement result (tree.Block token entries) = carried (all_entries result entries) (λ G i x h. h)
    statement result (tree.Empty token) = carried goes_on (λ G i x h. h)
    statement result (tree.Expr token y) = carried (aimed_at (λ x. x.next) (λ n x below. below.0) (expression facts sites y).effect) (λ G i x h. h)
    statement result (tree.If token y first) =
        fits (carried (either (condition facts sites token y) (statement result first) goes_on) (λ G i x h. h)) (omega arith)
    statement result (tree.IfElse token y first second) =
        fits (carried (either (condition facts sites token y) (statement result first) (statement result second)) (λ G i x h. h)) (omega arith)
    statement result (tree.While token y body) = fits (carried (while_do (condition facts sites token y) (statement result body)) (λ G i x h. h)) (omega arith)
    statement result (tree.Do token body y) = fits (carried (do_do (condition facts sites token y) (statement result body)) (λ G i x h. h)) (omega arith)
    statement result (tree.For token start y third body) =
        fits (carried (for_starts start
        before for_loop (optional_condition token y) (optional_effect third) (statement result body)) (λ G i x h. h)) (omega arith)
    statement result (tree.Return token y) = carried (returns_at result y) (λ G i x h. h)
    statement result (tree.Break token) = carried (left_at (λ x. x.breaks) (λ n x below. below.1.0)) (λ G i x h. h)
    statement result (tree.Continue token) = carried (left_at (λ x. x.continues) (λ n x below. below.1.1.0)) (λ G i x h. h)

    pub all_entries : (result : ValueType) (ys : EntryList) → Builds all_ends (λ G. s.EntriesDo G facts sites result ys) (entries_room sites ys)
    all_entries result tree.no_entries = carried goes_on (λ G i x h. h)
    all_entries result (tree.declared d rest) = carried (declares facts sites d before all_entries result rest) (λ G i x h. h)
    all_entries result (tree.stated y rest) = carried (one_before (statement result y) (all_entries result rest)) (λ G i x h. h)

  pub body : (result : ValueType) (entries : Option EntryList) → Builds all_ends (λ G. f.BodyDoes G facts sites result entries) (body_room sites entries)
  body result None = carried stuck (λ G i x h. h)
  body result (Some entries) = carried (all_entries result entries) (λ G i x h. h)
