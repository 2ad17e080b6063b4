-- What the walk notes of an expression is the type of the operand that it is.
use Rattle.std.proofs.Common.{◌≡◌, ℕ, refl, ap, subst, ◌∙◌, List, [], ◌∷◌, ◌++◌, Some, None, Ok, Err, Bool, true, false}
use Rattle.std.specs.Prelude.{Option, Result, slice_get}
use Rattle.c_types_expressions.proofs.Given.{Gives, and_then, looks, weaker}
use Rattle.c_syntax.specs.declared.parts.Base.{Base}
use Rattle.c_syntax.specs.ExprTree as e
use Rattle.c_syntax.specs.ExprTree.{ExprTree, ExprList, LinkList, PostfixList}
use Rattle.c_types_rules.specs.declared.fault.FaultKind.{FaultKind}
use Rattle.c_types_rules.specs.declared.layout.Member.{Member}
use Rattle.c_types_rules.specs.declared.operand.Operand.{Operand}
use Rattle.c_types_rules.specs.TypeTree as t
use Rattle.c_types_rules.specs.Words.{TypeTree, constant_of, parenthesized_operand, null_of, place_of, string_of, value_of, value_type, OperandOrFault, library_called, cast_to}
use Rattle.c_types_rules.specs.Words.{typed_sizeof, typed_increment, typed_conditional, typed_subscript, member_behind, member_of, typed_comma}
use Rattle.c_types_rules.specs.Functions as functions
use Rattle.c_types_expressions.specs.declared.names.Meaning.{Meaning}
use Rattle.c_types_expressions.specs.declared.names.Meaning.TheVariants as meaning
use Rattle.c_types_expressions.specs.declared.walk.FunctionEntry.{FunctionEntry}
use Rattle.c_types_expressions.specs.declared.walk.Walk.{Walk}
use Rattle.c_types_expressions.specs.Words.{typed_assignment, base_type, binary_of, called_name, typed_chain_operation, compound_of, format_of, is_printf, operand_noted, named_operand}
use Rattle.c_types_expressions.specs.Words.{of_function, of_variable, typed_prefix_operation, selected_member, string_cells, walk_expr, walk_exprs, walk_links, walk_postfix}
use Rattle.c_types_expressions.specs.Words.{walk_whole, whole_call, with_call, with_stars, with_use, meaning_of}
use Rattle.c_types_laws.proofs.Leading.{either}
use Rattle.c_types_laws.proofs.Ruled.{behind_stays, chained_is, indexed_is, member_stays, stepped_is}
use Rattle.c_meaning.specs.Trees.{token_of}
use Rattle.c_types_faults.specs.Events.{Construct, Calls, Selects as Selecting, Other, Value, expr_events, exprs_events, links_events, postfix_events}
use Rattle.c_types_faults.specs.Known.{Known}
use Rattle.c_types_faults.specs.Exprs.{IsOperand, LinksGive, PostfixGives}
use Rattle.c_types_faults.specs.Wholes.{IsWhole}
use Rattle.c_types_faults.proofs.Exprs.{base_tells, expr_tells, same_structs}
use Rattle.c_types_faults.proofs.Telling.{Agreed, agrees_on, known_rule, shown}
use Rattle.c_types_faults.proofs.Wholes.{whole_tells}
use Rattle.c_types_facts.specs.Exprs.{ExprTyped, ExprsTyped, HasType, LinksTyped, PostfixTyped, WholeTyped}
use Rattle.c_types_facts.proofs.Logs.{Logged, both, logged_here, logged_one, logged_so, logged_then, looked_logs, rest, told}

-- the type of what the walk gives is noted at the token
abbrev pub Marks : ℕ → Construct → Walk → Operand → Walk → Type 0
Marks own c w d v = Logged (Value own c ∷ []) (λ z. HasType z own d) w v

variable_marks : (own index : ℕ) (o : Option TypeTree) (w : Walk) → Gives (of_variable own index o w) (Marks own Other w)
variable_marks own index None w = record { by = tt }
variable_marks own index (Some of) w = looked_logs own Other (Ok (place_of of)) w (with_use own index w) refl refl

name_marks : (own : ℕ) (m : Option Meaning) (w : Walk) → Gives (named_operand own m w) (Marks own Other w)
name_marks own (Some (meaning.Variable index)) w = variable_marks own index (slice_get w.declared_types index) w
name_marks own m w = record { by = tt }

function_marks : (own index : ℕ) (name : List ℕ) (o : Option FunctionEntry) (xs : List Operand) (w : Walk)
    → Gives (of_function own index o xs w) (Marks own (Calls name) w)
function_marks own index name None xs w = record { by = tt }
function_marks own index name (Some f) xs w = looked_logs own (Calls name) (functions.typed_call f.ctype xs) w (with_call own index w) refl refl

call_marks : (own : ℕ) (name : List ℕ) (m : Option Meaning) (xs : List Operand) (w : Walk) → Gives (called_name own m xs w) (Marks own (Calls name) w)
call_marks own name (Some (meaning.Function index)) xs w = function_marks own index name (slice_get w.functions index) xs w
call_marks own name (Some (meaning.Library f)) xs w = looked_logs own (Calls name) (library_called f xs) w w refl refl
call_marks own name m xs w = record { by = tt }

-- a member that `.` or `->` names
member_marks : (own : ℕ) (c : Construct) (place : Bool) (r : Result Member FaultKind) (w : Walk) (P : Operand → Type 0)
    → ((m : Member) → r ≡ Ok m → P (record { ctype = m.ctype; place = place; null = false }))
    → Gives (selected_member own place r w) (λ d v. P d × (shown v ≡ shown w) × Marks own c w d v)
member_marks own c place (Err kind) w P f = record { by = tt }
member_marks own c place (Ok m) w P f = record { by = (f m refl, refl, logged_one own c m.ctype w _ refl refl) }

-- an operator, whose rule says this of what it gives
rule_marks : (own : ℕ) (c : Construct) (r : OperandOrFault) (w : Walk) (P : Operand → Type 0) → ((d : Operand) → r ≡ Ok d → P d)
    → Gives (operand_noted own r w) (λ d v. P d × (shown v ≡ shown w) × Marks own c w d v)
rule_marks own c r w P f = looks own r w (λ d h. (f d h, refl, logged_one own c d.ctype w _ refl refl))

base_still : (k : Known) (b : Base) (w : Walk) → Agreed k (shown w) → Gives (base_type b w) (λ of v. v ≡ w)
base_still k b w g = weaker (told (base_tells k b w g)) (λ of v p. p.1)

module _ (k : Known) where
  -- an expression is this operand, and what the walk notes of it says so
  abbrev pub Typed : ExprTree → Walk → Operand → Walk → Type 0
  Typed x w d v = (IsOperand k x d × (shown v ≡ shown w)) × Logged (expr_events x) (λ z. ExprTyped z k x) w v

  -- where it is an operand, it says so
  abbrev Owing : ExprTree → Walk → Operand → Walk → Type 0
  Owing x w d v = Logged (expr_events x) (λ z. IsOperand k x d → ExprTyped z k x) w v

  owed : (x : ExprTree) (w : Walk) → Agreed k (shown w) → Gives (walk_expr x w) (Owing x w) → Gives (walk_expr x w) (Typed x w)
  owed x w g h = weaker (both (told (expr_tells k x w g)) h) (λ d v p. (p.0, logged_so p.1 (λ z f. f p.0.0)))

  mutual
    pub expr_logs : (x : ExprTree) (w : Walk) → Agreed k (shown w) → Gives (walk_expr x w) (Typed x w)
    expr_logs (e.Comma token operands) w g = owed (e.Comma token operands) w g (and_then (exprs_logs operands [] w g) (λ xs v p.
        weaker (looked_logs token Other (typed_comma t.Void xs) v v refl refl) (λ d u q. logged_so (logged_then p.1 q) (λ z h i. (h.0, (d, (i, h.1)))))))
    expr_logs (e.Assign token s target value) w g = owed (e.Assign token s target value) w g (and_then (expr_logs target w g) (λ x v p.
        and_then (expr_logs value v (agrees_on g p.0.1)) (λ y u q.
        weaker (looked_logs token Other (typed_assignment u.structs (compound_of s) x y) u u refl refl) (λ d r n.
        logged_so (logged_then p.1 (logged_then q.1 n)) (λ z h i. (h.0, (h.1.0, (d, (i, h.1.1)))))))))
    expr_logs (e.Conditional token condition first second) w g =
        owed (e.Conditional token condition first second) w g (and_then (expr_logs condition w g) (λ c v p.
        and_then (expr_logs first v (agrees_on g p.0.1)) (λ x u q.
        and_then (expr_logs second u (agrees_on g (q.0.1 ∙ p.0.1))) (λ y r n.
        weaker (looked_logs token Other (typed_conditional c x y) r r refl refl) (λ d o m.
        logged_so (logged_then p.1 (logged_then q.1 (logged_then n.1 m))) (λ z h i. (h.0, (h.1.0, (h.1.1.0, (d, (i, h.1.1.1)))))))))))
    expr_logs (e.Chain level first links) w g = owed (e.Chain level first links) w g (and_then (expr_logs first w g) (λ x v p.
        weaker (links_logs links x v (agrees_on g p.0.1)) (λ d u q. logged_so (logged_then p.1 q) (λ z h i. (h.0, (x, (p.0.0, h.1)))))))
    expr_logs (e.Cast token b stars operand) w g = owed (e.Cast token b stars operand) w g (and_then (base_still k b w g) (λ of v p.
        and_then (subst (λ y. Gives (walk_expr operand v) (Typed operand y)) p (expr_logs operand v (agrees_on g (ap shown p)))) (λ x u q.
        weaker (looked_logs token Other (cast_to (with_stars stars of) x) u u refl refl) (λ d r n.
        logged_so (logged_then q.1 n) (λ z h i. (h.0, (d, (i, h.1))))))))
    expr_logs (e.Prefix token o operand) w g = owed (e.Prefix token o operand) w g (and_then (expr_logs operand w g) (λ x v p.
        weaker (looked_logs token Other (typed_prefix_operation v.structs o x) v v refl refl) (λ d u q. logged_so (logged_then p.1 q) (λ z h i. (h.0, (d, (i, h.1)))))))
    expr_logs (e.SizeOfType token b stars) w g = owed (e.SizeOfType token b stars) w g (and_then (base_still k b w g) (λ of v p.
        weaker (looked_logs token Other (typed_sizeof v.structs (with_stars stars of)) w v (ap (λ (y : Walk). y.types) p) (ap rest p))
        (λ d u q. logged_so q (λ z h i. (d, (i, h))))))
    expr_logs (e.Postfix primary operators) w g = owed (e.Postfix primary operators) w g (and_then (expr_logs primary w g) (λ x v p.
        weaker (postfix_logs operators (token_of primary) x v (agrees_on g p.0.1))
        (λ d u q. logged_so (logged_then p.1 q) (λ z h i. (h.0, (x, (p.0.0, h.1)))))))
    expr_logs (e.Name token name) w g = owed (e.Name token name) w g
        (weaker (name_marks token (meaning_of name w.names) w) (λ d v q. logged_so q (λ z h i. (d, (i, h)))))
    expr_logs (e.Call token name arguments) w g = owed (e.Call token name arguments) w g (and_then (exprs_logs arguments [] w g) (λ xs v p.
        weaker (call_marks token name (meaning_of name v.names) xs v) (λ d u q. logged_so (logged_then p.1 q) (λ z h i. (h.0, (d, (i, h.1)))))))
    expr_logs (e.Constant token of value) w g = owed (e.Constant token of value) w g
        (weaker (looked_logs token Other (Ok (constant_of of value)) w w refl refl) (λ d v q. logged_so q (λ z h i. (d, (i, h)))))
    expr_logs (e.Strings token parts) w g = owed (e.Strings token parts) w g
        (weaker (looked_logs token Other (Ok (string_of (string_cells parts))) w w refl refl) (λ d v q. logged_so q (λ z h i. (d, (i, h)))))
    expr_logs (e.Paren token inner) w g = owed (e.Paren token inner) w g (and_then (expr_logs inner w g) (λ x v p.
        weaker (looked_logs token Other (Ok (parenthesized_operand x)) v v refl refl) (λ d u q. logged_so (logged_then p.1 q) (λ z h i. (h.0, (d, (i, h.1)))))))
    expr_logs (e.Null token) w g = owed (e.Null token) w g
        (weaker (looked_logs token Other (Ok null_of) w w refl refl) (λ d v q. logged_so q (λ z h i. (d, (i, h)))))
    expr_logs (e.EndOfFile token) w g = owed (e.EndOfFile token) w g
        (weaker (looked_logs token Other (Ok (value_of t.Int)) w w refl refl) (λ d v q. logged_so q (λ z h i. (d, (i, h)))))

    pub exprs_logs : (xs : ExprList) (before : List Operand) (w : Walk) → Agreed k (shown w)
        → Gives (walk_exprs xs before w) (λ all v. (shown v ≡ shown w) × Logged (exprs_events xs) (λ z. ExprsTyped z k xs) w v)
    exprs_logs e.no_exprs before w g = record { by = (refl, logged_here w) }
    exprs_logs (e.more_exprs x rest) before w g = and_then (expr_logs x w g) (λ y v p.
        weaker (exprs_logs rest (before ++ y ∷ []) v (agrees_on g p.0.1)) (λ all u q. (q.0 ∙ p.0.1, logged_then p.1 q.1)))

    links_logs : (links : LinkList) (left : Operand) (w : Walk) → Agreed k (shown w)
        → Gives (walk_links links left w) (λ d v. Logged (links_events links) (λ z. LinksTyped z k left links) w v)
    links_logs e.no_links left w g = record { by = logged_here w }
    links_logs (e.more_links token s operand rest) left w g = and_then (expr_logs operand w g) (λ y v p.
        and_then (rule_marks token Other (typed_chain_operation v.structs (binary_of s) left y) v
        (λ m. LinksGive k left (e.more_links token s operand e.no_links) m)
        (λ m r. (
          y,
          (
            m,
            (
              p.0.0,
              chained_is k.structs k.structs (same_structs k.structs) (binary_of s) left y m
                  (known_rule (λ ss. typed_chain_operation ss (binary_of s) left y) (Ok m) (agrees_on g p.0.1) r),
              refl,
            ),
          ),
        )))
        (λ m u q. weaker (links_logs rest m u (agrees_on g (q.1 ∙ p.0.1))) (λ d r n.
        logged_so (logged_then p.1 (logged_then q.2 n)) (λ z h. (h.0, (m, (q.0, (h.1.0, h.1.1))))))))

    postfix_logs : (operators : PostfixList) (operand : ℕ) (left : Operand) (w : Walk) → Agreed k (shown w)
        → Gives (walk_postfix operators left w) (λ d v. Logged (postfix_events operand operators) (λ z. PostfixTyped z k left operators) w v)
    postfix_logs e.no_postfix operand left w g = record { by = logged_here w }
    postfix_logs (e.index token x rest) operand left w g = and_then (expr_logs x w g) (λ y v p.
        and_then (rule_marks token Other (typed_subscript v.structs left y) v (λ m. PostfixGives k left (e.index token x e.no_postfix) m)
        (λ m r. (
          y,
          (
            m,
            (
              p.0.0,
              indexed_is k.structs k.structs (same_structs k.structs) left y m
                  (known_rule (λ ss. typed_subscript ss left y) (Ok m) (agrees_on g p.0.1) r),
              refl,
            ),
          ),
        )))
        (λ m u q. weaker (postfix_logs rest token m u (agrees_on g (q.1 ∙ p.0.1))) (λ d r n.
        logged_so (logged_then p.1 (logged_then q.2 n)) (λ z h. (h.0, (m, (q.0, (h.1.0, h.1.1))))))))
    postfix_logs (e.member token name rest) operand left w g =
        and_then (member_marks token (Selecting operand false name) left.place (member_of w.structs name left.ctype) w
        (λ m. PostfixGives k left (e.member token name e.no_postfix) m)
        (λ m r. (
          _,
          (
            (
              member_stays k.structs k.structs (same_structs k.structs) name left.ctype m
                  (ap (λ ss. member_of ss name left.ctype) g.by.complete ∙ r),
              refl,
              refl,
            ),
            refl,
          ),
        )))
        (λ m u q. weaker (postfix_logs rest token m u (agrees_on g q.1)) (λ d r n.
        logged_so (logged_then q.2 n) (λ z h. (m, (q.0, (h.0, h.1))))))
    postfix_logs (e.arrow token name rest) operand left w g =
        and_then (member_marks token (Selecting operand true name) true (member_behind w.structs name (value_type left)) w
        (λ m. PostfixGives k left (e.arrow token name e.no_postfix) m)
        (λ m r. (
          _,
          (
            (
              behind_stays k.structs k.structs (same_structs k.structs) name (value_type left) m
                  (ap (λ ss. member_behind ss name (value_type left)) g.by.complete ∙ r),
              refl,
              refl,
            ),
            refl,
          ),
        )))
        (λ m u q. weaker (postfix_logs rest token m u (agrees_on g q.1)) (λ d r n.
        logged_so (logged_then q.2 n) (λ z h. (m, (q.0, (h.0, h.1))))))
    postfix_logs (e.increment token rest) operand left w g =
        and_then (rule_marks token Other (typed_increment w.structs left) w (λ m. PostfixGives k left (e.increment token e.no_postfix) m)
        (λ m r. (m, (stepped_is k.structs k.structs (same_structs k.structs) left m (known_rule (λ ss. typed_increment ss left) (Ok m) g r), refl))))
        (λ m u q. weaker (postfix_logs rest token m u (agrees_on g q.1)) (λ d r n.
        logged_so (logged_then q.2 n) (λ z h. (m, (q.0, (h.0, h.1))))))
    postfix_logs (e.decrement token rest) operand left w g =
        and_then (rule_marks token Other (typed_increment w.structs left) w (λ m. PostfixGives k left (e.decrement token e.no_postfix) m)
        (λ m r. (m, (stepped_is k.structs k.structs (same_structs k.structs) left m (known_rule (λ ss. typed_increment ss left) (Ok m) g r), refl))))
        (λ m u q. weaker (postfix_logs rest token m u (agrees_on g q.1)) (λ d r n.
        logged_so (logged_then q.2 n) (λ z h. (m, (q.0, (h.0, h.1))))))

  -- the whole expression of a statement
  whole_marks : (own : ℕ) (name : List ℕ) (m : Option Meaning) (arguments : ExprList) (xs : List Operand) (w : Walk)
      → Gives (whole_call own m arguments xs w) (Marks own (Calls name) w)
  whole_marks own name m arguments xs w =
      either (is_printf m) (operand_noted own (format_of arguments xs) w) (called_name own m xs w)
      (looked_logs own (Calls name) (format_of arguments xs) w w refl refl) (call_marks own name m xs w)

  abbrev pub WholeIs : ExprTree → Walk → Operand → Walk → Type 0
  WholeIs x w d v = (IsWhole k x d × (shown v ≡ shown w)) × Logged (expr_events x) (λ z. WholeTyped z k x) w v

  pub whole_logs : (x : ExprTree) (w : Walk) → Agreed k (shown w) → Gives (walk_whole x w) (WholeIs x w)
  whole_logs (e.Call token name arguments) w g =
      weaker (both {Q = λ d v. Logged (expr_events (e.Call token name arguments))
      (λ z. IsWhole k (e.Call token name arguments) d → WholeTyped z k (e.Call token name arguments)) w v}
      (told (whole_tells k (e.Call token name arguments) w g)) (and_then (exprs_logs arguments [] w g) (λ xs v p.
      weaker (whole_marks token name (meaning_of name v.names) arguments xs v)
      (λ d u q. logged_so (logged_then p.1 q) (λ z h i. (h.0, (d, (i, h.1))))))))
      (λ d v p. (p.0, logged_so p.1 (λ z f. f p.0.0)))
  whole_logs x w g = expr_logs x w g
