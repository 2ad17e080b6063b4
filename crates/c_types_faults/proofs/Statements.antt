-- A statement that the walk takes leaves the declarations around it, and one at which it stops breaks a rule.
use Rattle.std.proofs.Common.{◌⊎◌, inl, inr, ⊎_elim, ◌≡◌, ℕ, refl, ap, subst, sym, ◌∙◌, List, [], ◌∷◌, Some, None, Bool, true, false}
use Rattle.c_types_laws.proofs.Ruled.{accepts}
use Rattle.std.proofs.lemmas.Bool.{false≢true, not-false, not-true}
use Rattle.std.specs.Prelude.{Option, not, ◌||◌, if◌then◌else◌}
use Rattle.base_lists.proofs.Tests.{three_or, three_or_false}
use Rattle.c_syntax.specs.Words.{ExprTree, DeclarationTree, EntryList, ForStartTree, StartTree, StatementTree}
use Rattle.c_syntax.specs.StatementTree as s
use Rattle.c_types_rules.specs.declared.fault.FaultKind.{FaultKind}
use Rattle.c_types_rules.specs.declared.fault.FaultKind.TheVariants as fault
use Rattle.c_types_rules.specs.declared.operand.Operand.{Operand}
use Rattle.c_types_rules.specs.Words.{is_assignable, is_struct, is_void, is_scalar_value, TypeTree}
use Rattle.c_types_expressions.specs.declared.walk.Walk.{Walk}
use Rattle.c_types_expressions.specs.Words.{names_after_scope, Faulty, Done, scope_closed, scope_opened, fault_if_wrong}
use Rattle.c_types_walk.specs.StatementWalk.{condition_checked, is_condition_part, is_struct_part, for_parts_checked, walk_entries, walk_for_start}
use Rattle.c_types_walk.specs.StatementWalk.{walk_optional, walk_statement}
use Rattle.c_types_laws.specs.Operands.{IsScalar}
use Rattle.c_types_faults.specs.Known.{Known}
use Rattle.c_types_faults.specs.Context.{Context, Declared, inner_context, known_identifiers}
use Rattle.c_types_faults.specs.Exprs.{IsOperand}
use Rattle.c_types_faults.specs.ExprBreaks.{Breaks}
use Rattle.c_types_faults.specs.Declarations.{DeclarationGives, VariableGives, VariablesGive}
use Rattle.c_types_faults.specs.Statements.{EntriesBreak, ForBreaks, GivesUpStruct, NoCondition, OfPart, ReturnBreaks, StartBreaks, StartGives}
use Rattle.c_types_faults.specs.Statements.{AreRuledEntries, IsRuledStatement, IsCondition, IsGivenUp, IsSomeOperand, IfPart, Returns, StartLeaves}
use Rattle.c_types_faults.specs.Statements.{StatementBreaks, for_start_expression}
use Rattle.c_types_faults.proofs.Exprs.{expr_tells}
use Rattle.c_types_faults.proofs.Wholes.{whole_tells}
use Rattle.c_types_faults.proofs.Declaring.{Behind, declaration_tells}
use Rattle.c_types_faults.proofs.Fitting.{accepts_back}
use Rattle.c_types_faults.proofs.Knowing.{Knows, agreed, entering_knows, leaving_knows}
use Rattle.c_types_faults.proofs.Telling.{Agreed, Shown, Tells, agrees_on, and_then, shown, weaker}
use Rattle.c_types_faults.proofs.Variables.{Moves, closed_pushed, joined, moves_then, still}

-- behind a statement everything denotes what it did
pub record Beyond (c : Context) (w v : Walk) : Type 0 where
  pub knows : Knows c (shown v)
  pub moves : Moves [] (shown w) (shown v)

pub beyond_here : {c : Context} {w v : Walk} → Knows c (shown w) → shown v ≡ shown w → Beyond c w v
beyond_here {c = c} {w = w} {v = v} k e = record { knows = subst (Knows c) (sym e) k; moves = still (shown w) (shown v) e }

pub beyond_then : {c : Context} {w v u : Walk} → Beyond c w v → Beyond c v u → Beyond c w u
beyond_then a b = record { knows = b.knows; moves = moves_then a.moves b.moves }

pub know_on : {c : Context} {s r : Shown} → Knows c s → r ≡ s → Knows c r
know_on {c = c} k e = subst (Knows c) (sym e) k

-- the parts of a scope

pub record Within (c : Context) (w v : Walk) : Type 0 where
  pub scope : List Declared
  pub knows : Knows (record c { scope = scope }) (shown v)
  pub names : List (List ℕ × ℕ)
  pub moves : Moves names (shown w) (shown v)

abbrev pub IsWithin : Context → Context → Type 0
IsWithin c after = after ≡ record c { scope = after.scope }

variable_within : (base : TypeTree) (x : StartTree) (c after : Context) → VariableGives false base c x after → IsWithin c after
variable_within base x c after (new, (t, (u, h))) = subst (IsWithin c) (sym h.4) refl

variables_within : (base : TypeTree) (xs : List StartTree) (c after : Context) → VariablesGive false base c xs after → IsWithin c after
variables_within base [] c after h = subst (IsWithin c) (sym h) refl
variables_within base (x ∷ xs) c after (next, h) =
    variables_within base xs next after h.1 ∙ ap (λ (d : Context). record d { scope = after.scope }) (variable_within base x c next h.0)

pub declaration_within : (d : DeclarationTree) (c after : Context) → DeclarationGives false c d after → IsWithin c after
declaration_within d c after (base, h) = variables_within base d.starts c after h.1

-- tests at the end of a statement

unless_tells : {B : FaultKind → ℕ → Type 0} (b : Bool) (kind : FaultKind) (token : ℕ) (c : Context) (w : Walk) → Knows c (shown w)
    → (b ≡ true → B kind token) → Tells (fault_if_wrong b kind token w) (λ (d : Done) v. Beyond c w v × (b ≡ false)) B
unless_tells true kind token c w k f = record { by = f refl }
unless_tells false kind token c w k f = record { by = (beyond_here k refl, refl) }

a_scalar : (a : Operand) → not (is_scalar_value a) ≡ false → IsScalar a
a_scalar a h = not-false (is_scalar_value a) h

no_scalar : (a : Operand) → not (is_scalar_value a) ≡ true → IsScalar a → ⊥
no_scalar a h g = false≢true (sym (not-true (is_scalar_value a) h) ∙ g)

condition_tells : {B : FaultKind → ℕ → Type 0} (token : ℕ) (x : ExprTree) (a : Operand) (c : Context) (w : Walk) → Knows c (shown w)
    → IsOperand (known_identifiers c) x a → ((j : FaultKind) → NoCondition (known_identifiers c) x j → B j token)
    → Tells (condition_checked token a w) (λ (d : Done) v. Beyond c w v × IsCondition (known_identifiers c) x) B
condition_tells token x a c w k h f = weaker (unless_tells (not (is_scalar_value a)) fault.Operands token c w k
    (λ e. f fault.Operands (refl, (a, (h, no_scalar a e))))) (λ j at b. b) (λ d v p. (p.0, (a, (h, a_scalar a p.1))))

-- expressions that may be missing

abbrev PartIs : Known → Option ExprTree → Option Operand → Type 0
PartIs k None None = Unit {0}
PartIs k None (Some a) = ⊥
PartIs k (Some x) None = ⊥
PartIs k (Some x) (Some a) = IsOperand k x a

optional_tells : (k : Known) (x : Option ExprTree) (w : Walk) → Agreed k (shown w)
    → Tells (walk_optional x w) (λ o v. PartIs k x o × (shown v ≡ shown w)) (λ j at. OfPart (λ y. Breaks k y j at) x)
optional_tells k None w g = record { by = (tt, refl) }
optional_tells k (Some x) w g = and_then (expr_tells k x w g) (λ j at h. h) (λ a v p. record { by = p })

part_is : (k : Known) (x : Option ExprTree) (o : Option Operand) → PartIs k x o → IfPart (IsSomeOperand k) x
part_is k None o h = tt
part_is k (Some x) None h = absurd h
part_is k (Some x) (Some a) h = (a, h)

struct_part : (k : Known) (x : Option ExprTree) (o : Option Operand) → PartIs k x o → is_struct_part o ≡ true
    → OfPart (λ y. GivesUpStruct k y fault.Operands) x
struct_part k None None h e = absurd (false≢true e)
struct_part k None (Some a) h e = absurd h
struct_part k (Some x) None h e = absurd h
struct_part k (Some x) (Some a) h e = (refl, (a, (h, e)))

condition_part : (k : Known) (x : Option ExprTree) (o : Option Operand) → PartIs k x o → not (is_condition_part o) ≡ true
    → OfPart (λ y. NoCondition k y fault.Operands) x
condition_part k None None h e = absurd (false≢true e)
condition_part k None (Some a) h e = absurd h
condition_part k (Some x) None h e = absurd h
condition_part k (Some x) (Some a) h e = (refl, (a, (h, no_scalar a e)))

given_part : (k : Known) (x : Option ExprTree) (o : Option Operand) → PartIs k x o → is_struct_part o ≡ false → IfPart (IsGivenUp k) x
given_part k None o h e = tt
given_part k (Some x) None h e = absurd h
given_part k (Some x) (Some a) h e = (a, (h, e))

deciding_part : (k : Known) (x : Option ExprTree) (o : Option Operand) → PartIs k x o → not (is_condition_part o) ≡ false → IfPart (IsCondition k) x
deciding_part k None o h e = tt
deciding_part k (Some x) None h e = absurd h
deciding_part k (Some x) (Some a) h e = (a, (h, a_scalar a e))

abbrev PartsFit : Known → Known → ForStartTree → Option ExprTree → Option ExprTree → Type 0
PartsFit before k start condition step = IfPart (IsGivenUp before) (for_start_expression start) × IfPart (IsCondition k) condition × IfPart (IsGivenUp k) step

looped_tells : {B : FaultKind → ℕ → Type 0} (before k : Known) (token : ℕ) (start : ForStartTree) (condition step : Option ExprTree) (x y z : Option Operand)
    (c : Context) (w : Walk) → Knows c (shown w) → PartIs before (for_start_expression start) x → PartIs k condition y → PartIs k step z
    → (ForBreaks before k start condition step fault.Operands → B fault.Operands token)
    → Tells (for_parts_checked token x y z w) (λ (d : Done) v. Beyond c w v × PartsFit before k start condition step) B
looped_tells before k token start condition step x y z c w g p q r f =
    weaker (unless_tells (is_struct_part x || not (is_condition_part y) || is_struct_part z) fault.Operands token c w g (λ e.
    f (⊎_elim (λ h. inl (struct_part before (for_start_expression start) x p h))
    (λ h. inr (⊎_elim (λ i. inl (condition_part k condition y q i)) (λ i. inr (struct_part k step z r i)) h))
    (three_or (is_struct_part x) (not (is_condition_part y)) (is_struct_part z) e))))
    (λ j at b. b) (λ d v h.
    let n = three_or_false (is_struct_part x) (not (is_condition_part y)) (is_struct_part z) h.1 in
    (h.0, (given_part before (for_start_expression start) x p n.0, deciding_part k condition y q n.1, given_part k step z r n.2)))

-- the first part of a `for`
pub record Starts (c : Context) (start : ForStartTree) (o : Option Operand) (w v : Walk) : Type 0 where
  pub after : Context
  pub gives : StartLeaves c start after
  pub within : IsWithin c after
  pub behind : Behind after w v
  pub part : PartIs (known_identifiers c) (for_start_expression start) o

start_tells : (start : ForStartTree) (c : Context) (w : Walk) → Knows c (shown w)
    → Tells (walk_for_start start w) (λ o v. Starts c start o w v) (StartBreaks c start)
start_tells (s.Declares d) c w k = and_then (declaration_tells false d c w k) (λ j at h. h) (λ u v p. record {
  by = record { after = p.0; gives = p.1.0; within = declaration_within d c p.0 p.1.0; behind = p.1.1; part = tt };
})
start_tells (s.Computes x) c w k = weaker (optional_tells (known_identifiers c) x w (agreed k)) (λ j at h. h) (λ o v p. record {
  after = c;
  gives = (part_is (known_identifiers c) x o p.0, refl);
  within = refl;
  behind = record { knows = know_on k p.1; names = []; moves = still (shown w) (shown v) p.1 };
  part = p.0;
})

-- with its own rule, it gives the same
start_gives : (start : ForStartTree) (c after : Context) → StartLeaves c start after → IfPart (IsGivenUp (known_identifiers c)) (for_start_expression start) → StartGives c start after
start_gives (s.Declares d) c after h g = h
start_gives (s.Computes x) c after h g = (g, h.1)

-- the end of a scope
pub closing_tells : {B : FaultKind → ℕ → Type 0} (c : Context) (w v : Walk) (d : Done) → Within (inner_context c) (scope_opened w) v
    → Tells (scope_closed d v) (λ (e : Done) u. Beyond c w u) B
closing_tells c w v d i = record {
  by = record {
    knows = leaving_knows i.scope i.knows;
    moves = record {
      names = ap (λ ns. names_after_scope ns) i.moves.names ∙ closed_pushed i.names w.names;
      tags = i.moves.tags;
      structs = i.moves.structs;
      functions = i.moves.functions;
      defined_as = i.moves.defined_as;
    };
  };
}

-- `return`
value_tells : {B : FaultKind → ℕ → Type 0} (b : Bool) (token : ℕ) (gives : TypeTree) (x : ExprTree) (a : Operand) (c : Context) (w : Walk) → Knows c (shown w)
    → IsOperand (known_identifiers c) x a → is_void gives ≡ b → ((j : FaultKind) → ReturnBreaks (known_identifiers c) gives (Some x) j → B j token)
    → Tells (if b then Faulty fault.Jump token else fault_if_wrong (not (is_assignable gives a)) fault.Operands token w)
    (λ (d : Done) v. Beyond c w v × Returns (known_identifiers c) gives (Some x)) B
value_tells true token gives x a c w k h e f = record { by = f fault.Jump (inl (refl, e)) }
value_tells false token gives x a c w k h e f = weaker (unless_tells (not (is_assignable gives a)) fault.Operands token c w k
    (λ n. f fault.Operands (inr (refl, e, (a, (h, λ p. false≢true (sym (not-true (is_assignable gives a) n) ∙ accepts_back gives a p)))))))
    (λ j at b. b) (λ d v p. (p.0, (e, (a, (h, accepts gives a (not-false (is_assignable gives a) p.1))))))

pub within_on : {c : Context} {w v u : Walk} (ps : List (List ℕ × ℕ)) → Moves ps (shown w) (shown v) → Within c v u → Within c w u
within_on ps m i = record { scope = i.scope; knows = i.knows; names = joined i.names ps; moves = moves_then m i.moves }

-- behind a declaration in the scope, its parts are the scope's
pub within_from : (c d : Context) (w v : Walk) → IsWithin c d → Within d w v → Within c w v
within_from c d w v e i = record {
  scope = i.scope;
  knows = subst (λ (z : Context). Knows (record z { scope = i.scope }) (shown v)) e i.knows;
  names = i.names;
  moves = i.moves;
}

within_of : (c d : Context) (w v : Walk) → IsWithin c d → Beyond d w v → Within c w v
within_of c d w v e b = record { scope = d.scope; knows = subst (λ z. Knows z (shown v)) e b.knows; names = []; moves = b.moves }

module _ (gives : TypeTree) where
  mutual
    pub statement_tells : (looping : Bool) (x : StatementTree) (c : Context) (w : Walk) → Knows c (shown w)
        → Tells (walk_statement gives looping x w) (λ (d : Done) v. Beyond c w v × IsRuledStatement gives c looping x) (StatementBreaks gives c looping x)
    statement_tells looping (s.Block token entries) c w k = and_then (entries_tell looping entries (inner_context c) (scope_opened w) (entering_knows k)) (λ j at h. h)
        (λ d v p. weaker (closing_tells {B = EntriesBreak gives (inner_context c) looping entries} c w v d p.0) (λ j at b. b) (λ e u q. (q, p.1)))
    statement_tells looping (s.Empty token) c w k = record { by = (beyond_here k refl, tt) }
    statement_tells looping (s.Expr token x) c w k = and_then (whole_tells (known_identifiers c) x w (agreed k)) (λ j at h. inl h) (λ a v p.
        weaker (unless_tells {B = λ j at. (at ≡ token) × (j ≡ fault.Operands) × (is_struct a.ctype ≡ true)} (is_struct a.ctype) fault.Operands token c v
        (know_on k p.1) (λ e. (refl, refl, e)))
        (λ j at h. inr (a, (p.0, h))) (λ d u q. (beyond_then (beyond_here k p.1) q.0, (a, (p.0, q.1)))))
    statement_tells looping (s.If token condition first) c w k = and_then (expr_tells (known_identifiers c) condition w (agreed k)) (λ j at h. inl h) (λ a v p.
        and_then (statement_tells looping first c v (know_on k p.1)) (λ j at h. inr ((a, p.0), inl h)) (λ d u q.
        weaker (condition_tells token condition a c u q.0.knows p.0 (λ j h. inr ((a, p.0), inr (q.1, (refl, h))))) (λ j at h. h)
        (λ e r n. (beyond_then (beyond_here k p.1) (beyond_then q.0 n.0), (n.1, q.1)))))
    statement_tells looping (s.IfElse token condition first second) c w k = and_then (expr_tells (known_identifiers c) condition w (agreed k)) (λ j at h. inl h)
        (λ a v p.
        and_then (statement_tells looping first c v (know_on k p.1)) (λ j at h. inr ((a, p.0), inl h)) (λ d u q.
        and_then (statement_tells looping second c u q.0.knows) (λ j at h. inr ((a, p.0), inr (q.1, inl h))) (λ e r n.
        weaker (condition_tells token condition a c r n.0.knows p.0 (λ j h. inr ((a, p.0), inr (q.1, inr (n.1, (refl, h)))))) (λ j at h. h)
        (λ f z m. (beyond_then (beyond_here k p.1) (beyond_then q.0 (beyond_then n.0 m.0)), (m.1, q.1, n.1))))))
    statement_tells looping (s.While token condition body) c w k = and_then (expr_tells (known_identifiers c) condition w (agreed k)) (λ j at h. inl h) (λ a v p.
        and_then (statement_tells true body c v (know_on k p.1)) (λ j at h. inr ((a, p.0), inl h)) (λ d u q.
        weaker (condition_tells token condition a c u q.0.knows p.0 (λ j h. inr ((a, p.0), inr (q.1, (refl, h))))) (λ j at h. h)
        (λ e r n. (beyond_then (beyond_here k p.1) (beyond_then q.0 n.0), (n.1, q.1)))))
    statement_tells looping (s.Do token body condition) c w k = and_then (statement_tells true body c w k) (λ j at h. inl h) (λ d v p.
        and_then (expr_tells (known_identifiers c) condition v (agreed p.0.knows)) (λ j at h. inr (p.1, inl h)) (λ a u q.
        weaker (condition_tells token condition a c u (know_on p.0.knows q.1) q.0 (λ j h. inr (p.1, inr ((a, q.0), (refl, h))))) (λ j at h. h)
        (λ e r n. (beyond_then p.0 (beyond_then (beyond_here p.0.knows q.1) n.0), (p.1, n.1)))))
    statement_tells looping (s.For token start condition step body) c w k =
        and_then (start_tells start (inner_context c) (scope_opened w) (entering_knows k)) (λ j at h. inl h) (λ x v p.
        let d : Context = p.after in
        and_then (optional_tells (known_identifiers d) condition v (agreed p.behind.knows)) (λ j at h. inr (d, (p.gives, inl h))) (λ y u q.
        and_then (optional_tells (known_identifiers d) step u (agrees_on (agreed p.behind.knows) q.1)) (λ j at h. inr (d, (p.gives, inr (part_is (known_identifiers d) condition y q.0, inl h))))
        (λ z r n.
        and_then (statement_tells true body d r (know_on p.behind.knows (n.1 ∙ q.1)))
        (λ j at h. inr (d, (p.gives, inr (part_is (known_identifiers d) condition y q.0, inr (part_is (known_identifiers d) step z n.0, inl h))))) (λ e o m.
        and_then (looped_tells (known_identifiers (inner_context c)) (known_identifiers d) token start condition step x y z d o m.0.knows p.part q.0 n.0
        (λ h. inr (d, (p.gives, inr (part_is (known_identifiers d) condition y q.0, inr (part_is (known_identifiers d) step z n.0, inr (m.1, (refl, h))))))))
        (λ j at h. h)
        (λ f i l. weaker (closing_tells {B = StatementBreaks gives c looping (s.For token start condition step body)} c w i f
        (within_on p.behind.names p.behind.moves (within_of (inner_context c) d v i p.within
        (beyond_then (beyond_here p.behind.knows (n.1 ∙ q.1)) (beyond_then m.0 l.0)))))
        (λ j at b. b)
        (λ g a b. (b, (d, (start_gives start (inner_context c) d p.gives l.1.0, l.1.1, l.1.2, m.1)))))))))
    statement_tells looping (s.Return token None) c w k = weaker (unless_tells (not (is_void gives)) fault.Jump token c w k
        (λ e. inr (tt, (refl, (refl, not-true (is_void gives) e))))) (λ j at b. b) (λ d v p. (p.0, not-false (is_void gives) p.1))
    statement_tells looping (s.Return token (Some x)) c w k = and_then (expr_tells (known_identifiers c) x w (agreed k)) (λ j at h. inl h) (λ a v p.
        weaker (value_tells (is_void gives) token gives x a c v (know_on k p.1) p.0 refl (λ j h. inr ((a, p.0), (refl, h)))) (λ j at h. h)
        (λ d u q. (beyond_then (beyond_here k p.1) q.0, q.1)))
    statement_tells looping (s.Break token) c w k = weaker (unless_tells (not looping) fault.Jump token c w k (λ e. (refl, (refl, not-true looping e))))
        (λ j at b. b) (λ d v p. (p.0, not-false looping p.1))
    statement_tells looping (s.Continue token) c w k = weaker (unless_tells (not looping) fault.Jump token c w k (λ e. (refl, (refl, not-true looping e))))
        (λ j at b. b) (λ d v p. (p.0, not-false looping p.1))

    pub entries_tell : (looping : Bool) (xs : EntryList) (c : Context) (w : Walk) → Knows c (shown w)
        → Tells (walk_entries gives looping xs w) (λ (d : Done) v. Within c w v × AreRuledEntries gives c looping xs) (EntriesBreak gives c looping xs)
    entries_tell looping s.no_entries c w k = record {
      by = (record { scope = c.scope; knows = k; names = []; moves = still (shown w) (shown w) refl }, tt);
    }
    entries_tell looping (s.declared declaration rest) c w k = and_then (declaration_tells false declaration c w k) (λ j at h. inl h) (λ d v p.
        weaker (entries_tell looping rest p.0 v p.1.1.knows) (λ j at h. inr (p.0, (p.1.0, h)))
        (λ e u q. (
          within_on p.1.1.names p.1.1.moves (within_from c p.0 v u (declaration_within declaration c p.0 p.1.0) q.0),
          (p.0, (p.1.0, q.1)),
        )))
    entries_tell looping (s.stated statement rest) c w k = and_then (statement_tells looping statement c w k) (λ j at h. inl h) (λ d v p.
        weaker (entries_tell looping rest c v p.0.knows) (λ j at h. inr (p.1, h)) (λ e u q. (within_on [] p.0.moves q.0, (p.1, q.1))))
