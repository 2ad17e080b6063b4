-- A loop is its first round and the loop again (C99 6.8.5.1, 6.8.5.2), a `for` is its `while` (C99 6.8.5.3), without a condition it goes on for ever
-- (C99 6.8.5.3p2), and a block is its entries (C99 6.8.2).
use Rattle.std.specs.Prelude.{◌≡◌, ℕ, ◌≤◌, Option, None, Some}
use Rattle.cbi_base.specs.Frames.{Locals}
use Rattle.c_syntax.specs.Words.{ExprTree, ForStartTree, StatementTree, EntryList}
use Rattle.c_syntax.specs.StatementTree as tree
use Rattle.c_meaning.specs.declared.value_type.ValueType.{ValueType}
use Rattle.c_meaning.specs.Words.{Setting, condition, Source, call_at, setting_of, after_body, exec, exec_all, World, Out, Go, Flow, Next, Continued, bind}
use Rattle.c_meaning.specs.Words.{chosen_part, one_turn_spent}
use Rattle.c_meaning_laws.specs.Constants.{one_at}

-- the loop again, behind the turn that each round but the first one spends
abbrev pub loop_again : Setting → ℕ → ValueType → StatementTree → World → Out Flow
loop_again s n result loop w = one_turn_spent w.turns w (exec s n result loop)

-- In a function of a text, where at most n turns are left: `while (c) body` is `if (c)` the body, and then the loop again where the body was left at its
-- end or by `continue`; `break` ends it.
abbrev pub WhileIsFirstRound : Type 0
WhileIsFirstRound =
    (src : Source) (calls n : ℕ) (locals : Locals) (result : ValueType) (token : ℕ) (c : ExprTree) (body : StatementTree) (w : World) → w.turns ≤ n →
    let s : Setting = setting_of src (call_at src calls) locals in
    exec s n result (tree.While token c body) w
    ≡ bind (condition s token c w) (λ holds. chosen_part holds
    (λ u. bind (exec s n result body u) (after_body (loop_again s n result (tree.While token c body)))) (Go Next))

-- In the same, `do body while (c);` is the body, and then where `c` is true the loop again.
abbrev pub DoIsFirstRound : Type 0
DoIsFirstRound =
    (src : Source) (calls n : ℕ) (locals : Locals) (result : ValueType) (token : ℕ) (c : ExprTree) (body : StatementTree) (w : World) → w.turns ≤ n →
    let s : Setting = setting_of src (call_at src calls) locals in
    exec s n result (tree.Do token body c) w
    ≡ bind (exec s n result body w) (after_body (λ u.
    bind (condition s token c u) (λ holds. chosen_part holds (loop_again s n result (tree.Do token body c)) (Go Next))))

-- `{ body step; }`
abbrev pub with_step : ℕ → StatementTree → ExprTree → StatementTree
with_step token body step = tree.Block token (tree.stated body (tree.stated (tree.Expr token step) tree.no_entries))

-- `for (; c; step) body` is `while (c) { body step; }`, where the body meets no `continue` of its own.
abbrev pub ForIsWhile : Type 0
ForIsWhile =
    (s : Setting) (n : ℕ) (result : ValueType) (token block : ℕ) (c step : ExprTree) (body : StatementTree) (w : World) →
    ((u v : World) → exec s n result body u ≡ Go Continued v → ⊥) →
    exec s n result (tree.For token (tree.Computes None) (Some c) (Some step) body) w ≡ exec s n result (tree.While token c (with_step block body step)) w

-- `for (..; ; ..) body` is `for (..; 1; ..) body`, where that condition has no site.
abbrev pub MissingConditionIsTrue : Type 0
MissingConditionIsTrue =
    (s : Setting) (n : ℕ) (result : ValueType) (token one : ℕ) (start : ForStartTree) (step : Option ExprTree) (body : StatementTree) (w : World) →
    s.sites.branch_at token ≡ None →
    exec s n result (tree.For token start None step body) w ≡ exec s n result (tree.For token start (Some (one_at one)) step body) w

-- `for (; c; ) body` is `while (c) body`, also where the body meets a `continue`.
abbrev pub ForWithoutStepIsWhile : Type 0
ForWithoutStepIsWhile =
    (s : Setting) (n : ℕ) (result : ValueType) (token : ℕ) (c : ExprTree) (body : StatementTree) (w : World) →
    exec s n result (tree.For token (tree.Computes None) (Some c) None body) w ≡ exec s n result (tree.While token c body) w

-- a first part, and then other entries
abbrev pub started_by : ℕ → ForStartTree → EntryList → EntryList
started_by token (tree.Declares d) rest = tree.declared d rest
started_by token (tree.Computes (Some x)) rest = tree.stated (tree.Expr token x) rest
started_by token (tree.Computes None) rest = rest

-- `for (start; c; step) body` is `{ start; for (; c; step) body }`, for a declaration as for an expression.
abbrev pub ForStartsBefore : Type 0
ForStartsBefore =
    (s : Setting) (n : ℕ) (result : ValueType) (token block statement : ℕ) (start : ForStartTree) (c step : Option ExprTree)
    (body : StatementTree) (w : World) →
    exec s n result (tree.For token start c step body) w
    ≡ exec s n result (tree.Block block (started_by statement start
    (tree.stated (tree.For token (tree.Computes None) c step body) tree.no_entries))) w

-- entries, and others behind them
abbrev pub joined_entries : EntryList → EntryList → EntryList
joined_entries tree.no_entries others = others
joined_entries (tree.declared d rest) others = tree.declared d (joined_entries rest others)
joined_entries (tree.stated x rest) others = tree.stated x (joined_entries rest others)

-- A block within a block does what its entries do in its place.
abbrev pub BlockIsEntries : Type 0
BlockIsEntries =
    (s : Setting) (n : ℕ) (result : ValueType) (token : ℕ) (entries others : EntryList) (w : World) →
    exec_all s n result (tree.stated (tree.Block token entries) others) w ≡ exec_all s n result (joined_entries entries others) w
