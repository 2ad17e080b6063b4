-- Statements whose types fit are safe.
use Rattle.std.proofs.Common.{◌≡◌, ℕ, zero, suc, refl, inl, inr, [], Some, None, Bool, true, false}
use Rattle.std.specs.Prelude.{Option, IsTrue}
use Rattle.cbi_base.specs.declared.outcome.Outcome.TheVariants.{CutTurns}
use Rattle.c_types_rules.specs.declared.library.Library.TheVariants as library
use Rattle.c_syntax.specs.ExprTree as e
use Rattle.c_syntax.specs.Words.{ExprTree, ExprList, ForStartTree, StatementTree, EntryList}
use Rattle.c_syntax.specs.StatementTree as tree
use Rattle.c_meaning.specs.declared.value_type.Called.{Called}
use Rattle.c_meaning.specs.declared.value_type.Called.TheVariants as called
use Rattle.c_meaning.specs.declared.value_type.ValueType.{ValueType}
use Rattle.c_meaning.specs.declared.value_type.ValueType.TheVariants as type
use Rattle.c_meaning.specs.Words.{Argument, Arguments, call_sense, is_null_as, Setting, arguments_value, expr, arguments_printed, text_of_string, after_body}
use Rattle.c_meaning.specs.Words.{after_entry, do_round, exec, exec_all, for_round, for_started, optional_condition, optional_effect, loop_rounds, while_round}
use Rattle.c_meaning.specs.Words.{expression_count, called_as, has_value, type_of, World, Out, Stop, OutDone, Caller, Flow, Next, Broken, Continued, Returned, one_turn_spent}
use Rattle.c_meaning_laws.specs.Rules.{TakesOrNull}
use Rattle.c_meaning_laws.specs.Typed.{TypedArguments}
use Rattle.c_meaning_laws.specs.TypedSource.{SitesFit}
use Rattle.c_meaning_laws.specs.TypedStatements.{IsPrint, TypedBeginning, TypedEntries, TypedFormat, TypedPart, TypedPrint, TypedStatement, TypedTest, TypedWhole}
use Rattle.c_meaning_laws.proofs.Safe.{Any, Safe, chosen, gives, seq, spends, weaker}
use Rattle.c_meaning_laws.proofs.Values.{Fits, wanted_value_safe}
use Rattle.c_meaning_laws.proofs.Visits.{CallsSafe, bare}
use Rattle.c_meaning_laws.proofs.Called.{print_by_safe}
use Rattle.c_meaning_laws.proofs.Expressions.{arguments_safe, backwards, condition_safe, count_is, expr_safe}
use Rattle.c_meaning_laws.proofs.Declarations.{starts_safe}

-- how a statement of a function with this result may be left, within a loop or not
abbrev pub FlowFits : ValueType → Bool → Flow → Type 0
FlowFits result looping Next = Unit {0}
FlowFits result looping Broken = IsTrue looping
FlowFits result looping Continued = IsTrue looping
FlowFits result looping (Returned None) = has_value result ≡ false
FlowFits result looping (Returned (Some v)) = Fits (Some result) v × (has_value result ≡ true)

takes_value : (is_null : Bool) (result : ValueType) (t : Option ValueType) → TakesOrNull is_null (Some result) t → has_value result ≡ true
takes_value true type.Void t h = absurd h
takes_value false type.Void t h = absurd h
takes_value b result t h = refl

-- rounds of loops
pub rounds_safe : {P : Flow → Type 0} (n : ℕ) (round round0 : (World → Out Flow) → World → Out Flow)
    → ((next next0 : World → Out Flow) → Safe P next next0 → Safe P (round next) (round0 next0))
    → Safe P (loop_rounds n round) (loop_rounds n round0)
rounds_safe zero round round0 h = h (Stop CutTurns) (Stop CutTurns) (record { at = λ w. tt; same = λ w. refl })
rounds_safe (suc n) round round0 h =
    h (λ u. one_turn_spent u.turns u (loop_rounds n round)) (λ u. one_turn_spent u.turns u (loop_rounds n round0)) (spends (loop_rounds n round) (loop_rounds n round0)
    (rounds_safe n round round0 h))

module _ (result : ValueType) (looping : Bool) where
  after_safe : (again again0 : World → Out Flow) (flow : Flow) → Safe (FlowFits result looping) again again0 → FlowFits result true flow
      → Safe (FlowFits result looping) (after_body again flow) (after_body again0 flow)
  after_safe again again0 Next h f = h
  after_safe again again0 Continued h f = h
  after_safe again again0 Broken h f = gives Next tt
  after_safe again again0 (Returned None) h f = gives (Returned None) f
  after_safe again again0 (Returned (Some v)) h f = gives (Returned (Some v)) f

  while_safe : (test test0 : World → Out Bool) (body body0 again again0 : World → Out Flow) → Safe Any test test0 → Safe (FlowFits result true) body body0
      → Safe (FlowFits result looping) again again0
      → Safe (FlowFits result looping) (while_round test body again) (while_round test0 body0 again0)
  while_safe test test0 body body0 again again0 t b a = seq t (λ holds _. chosen holds (seq b (λ flow f. after_safe again again0 flow a f)) (gives Next tt))

  do_safe : (test test0 : World → Out Bool) (body body0 again again0 : World → Out Flow) → Safe Any test test0 → Safe (FlowFits result true) body body0
      → Safe (FlowFits result looping) again again0
      → Safe (FlowFits result looping) (do_round test body again) (do_round test0 body0 again0)
  do_safe test test0 body body0 again again0 t b a = seq b (λ flow f. after_safe _ _ flow (seq t (λ holds _. chosen holds a (gives Next tt))) f)

  for_safe : (test test0 : World → Out Bool) (body body0 : World → Out Flow) (step step0 : World → OutDone) (again again0 : World → Out Flow)
      → Safe Any test test0 → Safe (FlowFits result true) body body0
      → Safe Any step step0 → Safe (FlowFits result looping) again again0 → Safe (FlowFits result looping) (for_round test body step again)
      (for_round test0 body0 step0 again0)
  for_safe test test0 body body0 step step0 again again0 t b k a = while_safe test test0 body body0 _ _ t b (seq k (λ _ _. a))

  after_entry_safe : (rest rest0 : World → Out Flow) (flow : Flow) → Safe (FlowFits result looping) rest rest0 → FlowFits result looping flow
      → Safe (FlowFits result looping) (after_entry rest flow) (after_entry rest0 flow)
  after_entry_safe rest rest0 Next h f = h
  after_entry_safe rest rest0 flow h f = gives flow f

module _ (s : Setting) (call0 : Caller) (fit : SitesFit s.sites) (calls : CallsSafe s.facts s.call call0) where
  formatted_safe : (xs : ExprList) → TypedFormat s.facts s.sites s.locals.count xs → Safe Any (arguments_printed s xs) (arguments_printed (bare s call0) xs)
  formatted_safe e.no_exprs h = absurd h
  formatted_safe (e.more_exprs x rest) h =
      print_by_safe (text_of_string s.facts x) (expression_count rest) (λ types. arguments_value s types rest []) (λ types. arguments_value (bare s call0) types rest [])
      (λ types. TypedArguments s.facts s.sites s.locals.count types rest) (λ types a. weaker (λ vs o. backwards types vs o)
      (arguments_safe s call0 fit calls rest types [] a))
      (λ types a. count_is s call0 fit calls types rest a) h

  prints_safe : (c : Called) (token n : ℕ) (xs : ExprList) (arguments arguments0 : Arguments) (lone lone0 : Argument)
      → TypedPrint s.facts s.sites s.locals.count c xs
      → Safe Any (call_sense s token c n arguments lone (arguments_printed s xs)).effect (call_sense (bare s call0) token c n arguments0 lone0
      (arguments_printed (bare s call0) xs)).effect
  prints_safe (called.Library library.Printf) token n xs arguments arguments0 lone lone0 h = formatted_safe xs h
  prints_safe c token n xs arguments arguments0 lone lone0 h = absurd h

  print_safe : (x : ExprTree) → IsPrint s.facts s.sites s.locals.count x → Safe Any (expr s x).effect (expr (bare s call0) x).effect
  print_safe (e.Call token name xs) h = prints_safe (called_as (s.facts.function_at token) name) token _ xs _ _ _ _ h
  print_safe x h = absurd h

  whole_safe : (x : ExprTree) → TypedWhole s.facts s.sites s.locals.count x → Safe Any (expr s x).effect (expr (bare s call0) x).effect
  whole_safe x (inl h) = print_safe x h
  whole_safe x (inr h) = (expr_safe s call0 fit calls x h).effect

  part_safe : (x : Option ExprTree) → TypedPart s.facts s.sites s.locals.count x → Safe Any (optional_effect s x) (optional_effect (bare s call0) x)
  part_safe None h = gives tt tt
  part_safe (Some x) h = (expr_safe s call0 fit calls x h).effect

  test_safe : (token : ℕ) (x : Option ExprTree) → TypedTest s.facts s.sites s.locals.count x
      → Safe Any (optional_condition s token x) (optional_condition (bare s call0) token x)
  test_safe token None h = gives true tt
  test_safe token (Some x) h = condition_safe s call0 fit calls token x h

  begun_safe : (x : ForStartTree) → TypedBeginning s.facts s.sites s.locals.count x → Safe Any (for_started s x) (for_started (bare s call0) x)
  begun_safe (tree.Declares d) h = starts_safe s call0 fit calls d.starts h
  begun_safe (tree.Computes x) h = part_safe x h

  module _ (result : ValueType) where
    mutual
      pub exec_safe : (x : StatementTree) (n : ℕ) (looping : Bool) → TypedStatement s.facts s.sites s.locals.count result looping x
          → Safe (FlowFits result looping) (exec s n result x) (exec (bare s call0) n result x)
      exec_safe (tree.Block token entries) n looping h = entries_safe entries n looping h
      exec_safe (tree.Empty token) n looping h = gives Next tt
      exec_safe (tree.Expr token x) n looping h = seq (whole_safe x h) (λ _ _. gives Next tt)
      exec_safe (tree.If token c first) n looping h = seq (condition_safe s call0 fit calls token c h.0)
          (λ b _. chosen b (exec_safe first n looping h.1) (gives Next tt))
      exec_safe (tree.IfElse token c first second) n looping h =
          seq (condition_safe s call0 fit calls token c h.0) (λ b _. chosen b (exec_safe first n looping h.1) (exec_safe second n looping h.2))
      exec_safe (tree.While token c body) n looping h =
          rounds_safe n _ _ (λ next next0 k. while_safe result looping _ _ _ _ next next0 (condition_safe s call0 fit calls token c h.0)
          (exec_safe body n true h.1) k)
      exec_safe (tree.Do token body c) n looping h =
          rounds_safe n _ _ (λ next next0 k. do_safe result looping _ _ _ _ next next0 (condition_safe s call0 fit calls token c h.0)
          (exec_safe body n true h.1) k)
      exec_safe (tree.For token start c step body) n looping h =
          seq (begun_safe start h.0) (λ _ _. rounds_safe n _ _ (λ next next0 k.
          for_safe result looping _ _ _ _ _ _ next next0 (test_safe token c h.1) (exec_safe body n true h.3) (part_safe step h.2) k))
      exec_safe (tree.Return token None) n looping h = gives (Returned None) h
      exec_safe (tree.Return token (Some x)) n looping h =
          seq (wanted_value_safe (is_null_as (Some result) x) (Some result) (type_of s.facts x) _ _ h.1 (expr_safe s call0 fit calls x h.0).value)
          (λ v f. gives (Returned (Some v)) (f, takes_value (is_null_as (Some result) x) result (type_of s.facts x) h.1))
      exec_safe (tree.Break token) n looping h = gives Broken h
      exec_safe (tree.Continue token) n looping h = gives Continued h

      pub entries_safe : (xs : EntryList) (n : ℕ) (looping : Bool) → TypedEntries s.facts s.sites s.locals.count result looping xs
          → Safe (FlowFits result looping) (exec_all s n result xs) (exec_all (bare s call0) n result xs)
      entries_safe tree.no_entries n looping h = gives Next tt
      entries_safe (tree.declared d rest) n looping h = seq (starts_safe s call0 fit calls d.starts h.0) (λ _ _. entries_safe rest n looping h.1)
      entries_safe (tree.stated x rest) n looping h = seq (exec_safe x n looping h.0) (λ flow f. after_entry_safe result looping _ _ flow
          (entries_safe rest n looping h.1) f)
