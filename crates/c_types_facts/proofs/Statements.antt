-- What the walk notes of statements is what their declarations say.
use Rattle.std.proofs.Common.{◌≡◌, refl, ◌∙◌, ◌++◌, Option, Some, None, Bool, true, false}
use Rattle.std.specs.Prelude.{not, ◌||◌}
use Rattle.c_types_expressions.proofs.Given.{Gives, and_then, weaker}
use Rattle.c_syntax.specs.Words.{ExprTree, EntryList, ForStartTree, StatementTree}
use Rattle.c_syntax.specs.StatementTree as s
use Rattle.c_types_rules.specs.declared.fault.FaultKind.TheVariants as fault
use Rattle.c_types_rules.specs.Words.{is_assignable, is_struct, is_void, is_scalar_value, TypeTree}
use Rattle.c_types_expressions.specs.declared.walk.Walk.{Walk}
use Rattle.c_types_expressions.specs.Walked.{Faulty, Done, scope_opened, fault_if_wrong}
use Rattle.c_types_walk.specs.StatementWalk.{is_condition_part, is_struct_part, walk_entries, walk_for_start, walk_optional}
use Rattle.c_types_walk.specs.StatementWalk.{walk_statement}
use Rattle.c_types_laws.proofs.Leading.{either}
use Rattle.c_types_faults.specs.Events.{entries_events, for_start_events, optional_events, statement_events}
use Rattle.c_types_faults.specs.Known.{Known}
use Rattle.c_types_faults.specs.Context.{Context, inner_context, known_identifiers}
use Rattle.c_types_faults.specs.Statements.{IsRuledStatement}
use Rattle.c_types_faults.proofs.Knowing.{Knows, agreed, entering_knows}
use Rattle.c_types_faults.proofs.Statements.{Beyond, statement_tells, know_on}
use Rattle.c_types_faults.proofs.Telling.{Agreed, agrees_on, shown}
use Rattle.c_types_facts.specs.Statements.{EntriesTyped, PartTyped, StartTyped, StatementTyped}
use Rattle.c_types_facts.proofs.Exprs.{expr_logs, whole_logs}
use Rattle.c_types_facts.proofs.Growing.{Grown, grown_after, grown_as, grown_before, grown_none, grown_of, grown_scoped, grown_so, grown_then, unless_grown}
use Rattle.c_types_facts.proofs.Logs.{Logged, both, logged_here, told}
use Rattle.c_types_facts.proofs.Variables.{declaration_logs}

optional_logs : (k : Known) (x : Option ExprTree) (w : Walk) → Agreed k (shown w)
    → Gives (walk_optional x w) (λ o v. (shown v ≡ shown w) × Logged (optional_events x) (λ z. PartTyped z k x) w v)
optional_logs k None w g = record { by = (refl, logged_here w) }
optional_logs k (Some x) w g = and_then (expr_logs k x w g) (λ a v p. record { by = (p.0.1, p.1) })

start_logs : (x : ForStartTree) (c : Context) (w : Walk) → Knows c (shown w)
    → Gives (walk_for_start x w) (λ o v. (after : Context)
    × (Knows after (shown v) × Grown false (for_start_events x) (λ z own. StartTyped z c x after own) w v))
start_logs (s.Declares d) c w k = and_then (declaration_logs false d c w k) (λ u v p. record { by = (p.0, (p.1.0.1.knows, p.1.1)) })
start_logs (s.Computes x) c w k = weaker (optional_logs (known_identifiers c) x w (agreed k)) (λ o v p.
    (c, (know_on k p.0, grown_so (grown_of false p.1) (λ z own h. (h.0, (refl, h.1))))))

module _ (gives : TypeTree) where
  mutual
    pub statement_logs : (looping : Bool) (x : StatementTree) (c : Context) (w : Walk) → Knows c (shown w)
        → Gives (walk_statement gives looping x w)
        (λ (d : Done) v. (Beyond c w v × IsRuledStatement gives c looping x) × Grown false (statement_events x) (λ z own. StatementTyped z c x own) w v)
    statement_logs looping (s.Block token entries) c w k =
        both (told (statement_tells gives looping (s.Block token entries) c w k))
        (and_then (entries_logs looping entries (inner_context c) (scope_opened w) (entering_knows k)) (λ d v p. record {
          by = grown_as w _ (grown_scoped (entries_events entries) p) refl refl refl refl;
        }))
    statement_logs looping (s.Empty token) c w k =
        both (told (statement_tells gives looping (s.Empty token) c w k)) (record { by = grown_none false w })
    statement_logs looping (s.Expr token x) c w k =
        both (told (statement_tells gives looping (s.Expr token x) c w k)) (and_then (whole_logs (known_identifiers c) x w (agreed k)) (λ a v p.
        unless_grown (is_struct a.ctype) fault.Operands token (grown_of false p.1)))
    statement_logs looping (s.If token condition first) c w k =
        both (told (statement_tells gives looping (s.If token condition first) c w k)) (and_then (expr_logs (known_identifiers c) condition w (agreed k)) (λ a v p.
        and_then (statement_logs looping first c v (know_on k p.0.1)) (λ d u q.
        unless_grown (not (is_scalar_value a)) fault.Operands token (grown_after p.1 q.1))))
    statement_logs looping (s.IfElse token condition first second) c w k =
        both (told (statement_tells gives looping (s.IfElse token condition first second) c w k))
        (and_then (expr_logs (known_identifiers c) condition w (agreed k)) (λ a v p.
        and_then (statement_logs looping first c v (know_on k p.0.1)) (λ d u q.
        and_then (statement_logs looping second c u q.0.0.knows) (λ e r n.
        unless_grown (not (is_scalar_value a)) fault.Operands token (grown_after p.1 (grown_then q.1 n.1))))))
    statement_logs looping (s.While token condition body) c w k =
        both (told (statement_tells gives looping (s.While token condition body) c w k)) (and_then (expr_logs (known_identifiers c) condition w (agreed k)) (λ a v p.
        and_then (statement_logs true body c v (know_on k p.0.1)) (λ d u q.
        unless_grown (not (is_scalar_value a)) fault.Operands token (grown_after p.1 q.1))))
    statement_logs looping (s.Do token body condition) c w k =
        both (told (statement_tells gives looping (s.Do token body condition) c w k)) (and_then (statement_logs true body c w k) (λ d v p.
        and_then (expr_logs (known_identifiers c) condition v (agreed p.0.0.knows)) (λ a u q.
        unless_grown (not (is_scalar_value a)) fault.Operands token (grown_before p.1 q.1))))
    statement_logs looping (s.For token start condition step body) c w k =
        both (told (statement_tells gives looping (s.For token start condition step body) c w k))
        (and_then (start_logs start (inner_context c) (scope_opened w) (entering_knows k)) (λ x v p.
        and_then (optional_logs (known_identifiers p.0) condition v (agreed p.1.0)) (λ y u q.
        and_then (optional_logs (known_identifiers p.0) step u (agrees_on (agreed p.1.0) q.0)) (λ z r n.
        and_then (statement_logs true body p.0 r (know_on p.1.0 (n.0 ∙ q.0))) (λ e o m.
        and_then (unless_grown (is_struct_part x || not (is_condition_part y) || is_struct_part z) fault.Operands token
        (grown_then p.1.1 (grown_after q.1 (grown_after n.1 m.1))))
        (λ f i l. record {
          by = grown_so (grown_as w _ (grown_scoped (for_start_events start
              ++ (optional_events condition ++ (optional_events step ++ statement_events body))) l) refl refl refl refl)
              (λ h own t. (p.0, (t.0, (t.1.0, (t.1.1.0, (t.1.1.1.0.0, (t.1.1.1.0.1.0, (t.1.1.1.0.1.1, t.1.1.1.1))))))));
        }))))))
    statement_logs looping (s.Return token None) c w k =
        both (told (statement_tells gives looping (s.Return token None) c w k))
        (unless_grown (not (is_void gives)) fault.Jump token (grown_so (grown_none false w) (λ z own h. (tt, h))))
    statement_logs looping (s.Return token (Some x)) c w k =
        both (told (statement_tells gives looping (s.Return token (Some x)) c w k)) (and_then (expr_logs (known_identifiers c) x w (agreed k)) (λ a v p.
        either (is_void gives) (Faulty fault.Jump token) (fault_if_wrong (not (is_assignable gives a)) fault.Operands token v) (record { by = tt })
        (unless_grown (not (is_assignable gives a)) fault.Operands token (grown_of false p.1))))
    statement_logs looping (s.Break token) c w k =
        both (told (statement_tells gives looping (s.Break token) c w k)) (unless_grown (not looping) fault.Jump token (grown_none false w))
    statement_logs looping (s.Continue token) c w k =
        both (told (statement_tells gives looping (s.Continue token) c w k)) (unless_grown (not looping) fault.Jump token (grown_none false w))

    pub entries_logs : (looping : Bool) (xs : EntryList) (c : Context) (w : Walk) → Knows c (shown w)
        → Gives (walk_entries gives looping xs w) (λ (d : Done) v. Grown false (entries_events xs) (λ z own. EntriesTyped z c xs own) w v)
    entries_logs looping s.no_entries c w k = record { by = grown_none false w }
    entries_logs looping (s.declared declaration rest) c w k = and_then (declaration_logs false declaration c w k) (λ d v p.
        weaker (entries_logs looping rest p.0 v p.1.0.1.knows) (λ e u q. grown_so (grown_then p.1.1 q) (λ z own h. (p.0, h))))
    entries_logs looping (s.stated statement rest) c w k = and_then (statement_logs looping statement c w k) (λ d v p.
        weaker (entries_logs looping rest c v p.0.0.knows) (λ e u q. grown_then p.1 q))
