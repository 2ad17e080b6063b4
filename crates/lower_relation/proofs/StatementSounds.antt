-- A graph that does a statement does what the statement means.
use Rattle.std.proofs.Common.{ℕ, refl, Some, None}
use Rattle.std.specs.Prelude.{Option}
use Rattle.c_syntax.specs.Words.{ExprTree, ForStartTree, StatementTree, EntryList}
use Rattle.c_syntax.specs.StatementTree as tree
use Rattle.c_meaning.specs.declared.value_type.ValueType.{ValueType}
use Rattle.c_meaning.specs.Words.{is_null_as, wanted_value, Facts, Setting, Sites, expr, exec, exec_all, for_started, optional_condition, optional_effect}
use Rattle.c_meaning.specs.Words.{returned_value, type_of, Caller, Next, Broken, Continued}
use Rattle.lower_relation.specs.Stands.{Agrees}
use Rattle.lower_relation.specs.Statements.{ForStartPath, OptionalCondition, OptionalEffect, ReturnPath, StatementDoes, EntriesDo}
use Rattle.lower_relation.proofs.ExpressionSounds.{condition_ok, expr_ok}
use Rattle.lower_relation.proofs.Flows.{Executes, effect_then, entry_then, simply}
use Rattle.lower_relation.proofs.InitialiserSounds.{declares_ok}
use Rattle.lower_relation.proofs.Reach.{here, le_self, reach_bind}
use Rattle.lower_relation.proofs.Rounds.{do_ok, for_ok, while_ok}
use Rattle.lower_relation.proofs.Sounds.{CallsSound, setting, Standing, Sound, bare, choice_ok, none, nothing_ok, seq, stay, to, way}
use Rattle.lower_relation.proofs.ValueSounds.{wanted_ok}

module _ (z : Standing) (facts : Facts) (sites : Sites) (agrees : Agrees z.code facts sites) (call : Caller)
    (calls : CallsSound z.code z.watch facts z.turns call) where
  abbrev s : Setting
  s = setting z facts sites call

  optional_effect_ok : (x : Option ExprTree) → Sound z bare (optional_effect s x) (OptionalEffect z.graph facts sites x) to none
  optional_effect_ok None = nothing_ok z
  optional_effect_ok (Some x) = (expr_ok z facts sites agrees call calls x).effect

  optional_condition_ok : (token : ℕ) (x : Option ExprTree) → Sound z bare (optional_condition s token x)
      (OptionalCondition z.graph facts sites token x) way none
  optional_condition_ok token None = record { runs = λ i k xs w le h. (stay z i k.yes_to xs w h, le_self w.turns) }
  optional_condition_ok token (Some x) = condition_ok z facts sites agrees call calls token x

  for_started_ok : (x : ForStartTree) → Sound z bare (for_started s x) (ForStartPath z.graph facts sites x) to none
  for_started_ok (tree.Declares d) = declares_ok z facts sites agrees call calls d
  for_started_ok (tree.Computes x) = optional_effect_ok x

  return_ok : (result : ValueType) (x : Option ExprTree) → Executes z (returned_value s result x) (ReturnPath z.graph facts sites result x)
  return_ok result None = record { runs = λ i x xs w le h. (stay z i x.leaves xs w h, le_self w.turns) }
  return_ok result (Some v) = record {
    runs = λ i x xs w le h.
        reach_bind z.code z.watch _ _ (wanted_value (is_null_as (Some result) v) (type_of facts v) (Some result) (expr s v) w) _ _ _
        ((wanted_ok z (is_null_as (Some result) v) (type_of facts v) (Some result) (expr_ok z facts sites agrees call calls v)).runs i x.gives xs w le h)
        (λ y u l. (here z.code z.watch _, le_self u.turns));
  }

  mutual
    pub exec_ok : (result : ValueType) (x : StatementTree) → Executes z (exec s z.turns result x) (StatementDoes z.graph facts sites result x)
    exec_ok result (tree.Block token entries) = exec_all_ok result entries
    exec_ok result (tree.Empty token) = simply z Next (λ x. x.next) (λ x. refl) (λ xs. refl)
    exec_ok result (tree.Expr token x) = effect_then z (expr_ok z facts sites agrees call calls x).effect
    exec_ok result (tree.If token c first) = choice_ok z (condition_ok z facts sites agrees call calls token c) (exec_ok result first)
        (simply z Next (λ x. x.next) (λ x. refl) (λ xs. refl))
    exec_ok result (tree.IfElse token c first second) = choice_ok z (condition_ok z facts sites agrees call calls token c) (exec_ok result first)
        (exec_ok result second)
    exec_ok result (tree.While token c body) = while_ok z (condition_ok z facts sites agrees call calls token c) (exec_ok result body)
    exec_ok result (tree.Do token body c) = do_ok z (condition_ok z facts sites agrees call calls token c) (exec_ok result body)
    exec_ok result (tree.For token start c step body) =
        seq z (for_started_ok start) (λ _. for_ok z (optional_condition_ok token c) (optional_effect_ok step) (exec_ok result body))
    exec_ok result (tree.Return token v) = return_ok result v
    exec_ok result (tree.Break token) = simply z Broken (λ x. x.breaks) (λ x. refl) (λ xs. refl)
    exec_ok result (tree.Continue token) = simply z Continued (λ x. x.continues) (λ x. refl) (λ xs. refl)

    pub exec_all_ok : (result : ValueType) (x : EntryList) → Executes z (exec_all s z.turns result x) (EntriesDo z.graph facts sites result x)
    exec_all_ok result tree.no_entries = simply z Next (λ x. x.next) (λ x. refl) (λ xs. refl)
    exec_all_ok result (tree.declared d rest) = seq z (declares_ok z facts sites agrees call calls d) (λ _. exec_all_ok result rest)
    exec_all_ok result (tree.stated statement rest) = entry_then z (exec_ok result statement) (exec_all_ok result rest)
