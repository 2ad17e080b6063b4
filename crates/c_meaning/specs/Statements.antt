-- What a statement does (C99 6.8).
use Rattle.std.specs.Prelude.{ℕ, zero, suc, Bool, true, Option, Some, None}
use Rattle.cbi_base.specs.declared.outcome.Outcome.TheVariants.{CutTurns}
use Rattle.c_syntax.specs.Words.{ExprTree, ForStartTree, StatementTree, EntryList}
use Rattle.c_syntax.specs.StatementTree as tree
use Rattle.c_meaning.specs.declared.value_type.ValueType.{ValueType}
use Rattle.c_meaning.specs.Conversions.{is_null_as}
use Rattle.c_meaning.specs.Expressions.{wanted_value}
use Rattle.c_meaning.specs.Facts.{Setting}
use Rattle.c_meaning.specs.Initialisers.{declaration_done}
use Rattle.c_meaning.specs.Meaning.{condition, expr}
use Rattle.c_meaning.specs.Trees.{type_of}
use Rattle.c_meaning.specs.World.{World, Out, Go, Stop, OutDone, Flow, Next, Broken, Continued, Returned, bind, chosen_part, one_turn_spent}

-- after the body of a loop: the next round, or the end of the loop
abbrev pub after_body : (World → Out Flow) → Flow → World → Out Flow
after_body again Next w = again w
after_body again Continued w = again w
after_body again Broken w = Go Next w
after_body again (Returned v) w = Go (Returned v) w

-- one round of `while`: the condition, and where it is true the body, and then what comes again (C99 6.8.5.1)
abbrev pub while_round : (World → Out Bool) → (World → Out Flow) → (World → Out Flow) → World → Out Flow
while_round test body again w = bind (test w) (λ holds. chosen_part holds (λ u. bind (body u) (after_body again)) (Go Next))

-- one round of `do` (C99 6.8.5.2)
abbrev pub do_round : (World → Out Bool) → (World → Out Flow) → (World → Out Flow) → World → Out Flow
do_round test body again w = bind (body w) (after_body (λ u. bind (test u) (λ holds. chosen_part holds again (Go Next))))

-- a `for` is its `while`, with the third part behind the body (C99 6.8.5.3)
abbrev pub for_round : (World → Out Bool) → (World → Out Flow) → (World → OutDone) → (World → Out Flow) → World → Out Flow
for_round test body step again w = while_round test body (λ u. bind (step u) (λ _. again)) w

-- the rounds of a loop, where at most so many turns are left: each but the first one spends one
abbrev pub loop_rounds : ℕ → ((World → Out Flow) → World → Out Flow) → World → Out Flow
loop_rounds zero round w = round (Stop CutTurns) w
loop_rounds (suc n) round w = round (λ u. one_turn_spent u.turns u (loop_rounds n round)) w

-- what comes after a statement that goes on
abbrev pub after_entry : (World → Out Flow) → Flow → World → Out Flow
after_entry rest Next w = rest w
after_entry rest other w = Go other w

module _ (s : Setting) where
  abbrev pub optional_effect : Option ExprTree → World → OutDone
  optional_effect None w = Go tt w
  optional_effect (Some x) w = (expr s x).effect w

  -- a missing condition is true
  abbrev pub optional_condition : ℕ → Option ExprTree → World → Out Bool
  optional_condition token None w = Go true w
  optional_condition token (Some x) w = condition s token x w

  abbrev pub for_started : ForStartTree → World → OutDone
  for_started (tree.Declares d) w = declaration_done s d w
  for_started (tree.Computes x) w = optional_effect x w

  -- `return` with a value of the function's type, as by assignment (C99 6.8.6.4p3)
  abbrev pub returned_value : ValueType → Option ExprTree → World → Out Flow
  returned_value result None w = Go (Returned None) w
  returned_value result (Some x) w =
      bind (wanted_value (is_null_as (Some result) x) (type_of s.facts x) (Some result) (expr s x) w) (λ v. Go (Returned (Some v)))

  -- Where at most so many turns are left, in a function with this result.
  abbrev mutual
    pub exec : ℕ → ValueType → StatementTree → World → Out Flow
    exec n result (tree.Block token entries) w = exec_all n result entries w
    exec n result (tree.Empty token) w = Go Next w
    exec n result (tree.Expr token x) w = bind ((expr s x).effect w) (λ _. Go Next)
    exec n result (tree.If token c first) w = bind (condition s token c w) (λ holds. chosen_part holds (exec n result first) (Go Next))
    exec n result (tree.IfElse token c first second) w = bind (condition s token c w) (λ holds. chosen_part holds (exec n result first) (exec n result second))
    exec n result (tree.While token c body) w = loop_rounds n (while_round (condition s token c) (exec n result body)) w
    exec n result (tree.Do token body c) w = loop_rounds n (do_round (condition s token c) (exec n result body)) w
    exec n result (tree.For token start c step body) w =
        bind (for_started start w) (λ _. loop_rounds n (for_round (optional_condition token c) (exec n result body) (optional_effect step)))
    exec n result (tree.Return token v) w = returned_value result v w
    exec n result (tree.Break token) w = Go Broken w
    exec n result (tree.Continue token) w = Go Continued w

    pub exec_all : ℕ → ValueType → EntryList → World → Out Flow
    exec_all n result tree.no_entries w = Go Next w
    exec_all n result (tree.declared declaration rest) w = bind (declaration_done s declaration w) (λ _. exec_all n result rest)
    exec_all n result (tree.stated statement rest) w = bind (exec n result statement w) (after_entry (exec_all n result rest))
