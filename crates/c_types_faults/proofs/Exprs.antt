-- An expression that the walk goes through is an operand, and one at which it stops breaks a rule.
use Rattle.std.proofs.Common.{append_assoc, inl, inr, ◌≡◌, ℕ, refl, ap, subst, sym, ◌∙◌, List, [], ◌∷◌, ◌++◌, Some, None, Ok, Err, Bool, true}
use Rattle.std.proofs.lemmas.List.{append-nil}
use Rattle.std.specs.Prelude.{Option, Result, slice_get}
use Rattle.std.proofs.lemmas.Option.{same_Some}
use Rattle.base_lists.proofs.Lists.{Stays}
use Rattle.c_syntax.specs.declared.parts.Base.{Base}
use Rattle.c_syntax.specs.declared.parts.Base.TheVariants as base
use Rattle.c_syntax.specs.ExprTree as e
use Rattle.c_syntax.specs.ExprTree.{ExprTree, ExprList, LinkList, PostfixList}
use Rattle.c_types_rules.specs.declared.fault.FaultKind.{FaultKind}
use Rattle.c_types_rules.specs.declared.function.FunctionType.{FunctionType}
use Rattle.c_types_rules.specs.declared.layout.Member.{Member}
use Rattle.c_types_rules.specs.declared.layout.StructType.{StructType}
use Rattle.c_types_rules.specs.declared.operand.Operand.{Operand}
use Rattle.c_types_rules.specs.TypeTree as t
use Rattle.c_types_rules.specs.Words.{TypeTree, place_of, value_type, OperandOrFault, library_called, cast_to, typed_sizeof, typed_increment, typed_conditional, typed_subscript, member_behind}
use Rattle.c_types_rules.specs.Words.{member_of, typed_comma}
use Rattle.c_types_rules.specs.Functions as functions
use Rattle.c_types_expressions.specs.declared.names.Meaning.{Meaning}
use Rattle.c_types_expressions.specs.declared.names.Meaning.TheVariants as meaning
use Rattle.c_types_expressions.specs.declared.walk.FunctionEntry.{FunctionEntry}
use Rattle.c_types_expressions.specs.declared.walk.Walk.{Walk}
use Rattle.c_types_expressions.specs.Words.{typed_assignment, base_type, binary_of, called_name, typed_chain_operation, compound_of, operand_noted, named_operand, of_function, of_variable}
use Rattle.c_types_expressions.specs.Words.{typed_prefix_operation, selected_member, tagged_type, walk_expr, walk_exprs, walk_links, walk_postfix, with_call, with_stars, declared_meaning}
use Rattle.c_types_expressions.specs.Words.{meaning_of, Fine, Faulty}
use Rattle.c_types_laws.specs.Operands.{Indexes, Joins, Selects, SelectsBehind, Steps}
use Rattle.c_types_laws.proofs.Ruled.{assigning_is, behind_stays, cast_is, chained_is, chosen_is, indexed_is, measured_is, member_stays, prefixed_is}
use Rattle.c_types_laws.proofs.Ruled.{stepped_is}
use Rattle.c_types_faults.specs.Known.{Entity, Object, Function, Standard, Known}
use Rattle.c_types_faults.specs.Agrees.{Agrees, Denotes, IsTag, IsType}
use Rattle.c_types_faults.specs.Types.{BaseBreaks, IsBase}
use Rattle.c_types_faults.specs.Calls.{Calls}
use Rattle.c_types_faults.specs.Operands.{AsPlace, AsSelected, AsValue}
use Rattle.c_types_faults.specs.Exprs.{AreOperands, IsOperand, LinksGive, PostfixGives}
use Rattle.c_types_faults.specs.ExprRules.{ArrowBreaks, CallBreaks, MemberBreaks, Misfits, NameBreaks, StepBreaks}
use Rattle.c_types_faults.specs.ExprBreaks.{Breaks, LinksBreak, ListBreaks, PostfixBreaks}
use Rattle.c_types_faults.proofs.Refusing.{arrow_breaks, assign_breaks, called_breaks, called_is, cast_breaks, chained_breaks, chosen_breaks, indexed_breaks}
use Rattle.c_types_faults.proofs.Refusing.{measured_breaks, member_breaks, prefix_breaks, sequence_breaks, sequence_is, standard_breaks, standard_is}
use Rattle.c_types_faults.proofs.Refusing.{stepped_breaks}
use Rattle.c_types_faults.proofs.Telling.{Agreed, Tells, agrees_on, and_then, known_rule, looks, shown, told_fault, told_fine, weaker}

pub same_structs : (ss : List StructType) → Stays ss ss
same_structs ss i x h = h

-- the base of a type

module _ (k : Known) where
  tag_tells : (token number : ℕ) (tag : List ℕ) (m : Option Meaning) (n : Option ℕ) (w : Walk) → IsTag m n → k.tags tag ≡ n
      → Tells (tagged_type token m w) (λ t v. IsBase k (base.Struct token tag) t × (v ≡ w)) (BaseBreaks k (base.Struct token tag))
  tag_tells token number tag None None w h q = record { by = (refl, refl, q) }
  tag_tells token number tag (Some (meaning.Struct index)) (Some n) w h q = record { by = ((n, (q, ap t.Struct h)), refl) }
  tag_tells token number tag None (Some n) w h q = absurd h
  tag_tells token number tag (Some (meaning.Struct index)) None w h q = absurd h
  tag_tells token number tag (Some (meaning.Variable index)) n w h q = absurd h
  tag_tells token number tag (Some (meaning.Function index)) n w h q = absurd h
  tag_tells token number tag (Some (meaning.Library f)) n w h q = absurd h

  pub base_tells : (b : Base) (w : Walk) → Agreed k (shown w) → Tells (base_type b w) (λ t v. IsBase k b t × (v ≡ w)) (BaseBreaks k b)
  base_tells (base.Struct token tag) w g = tag_tells token 0 tag (declared_meaning tag w.tags) (k.tags tag) w (g.by.tagged tag) refl
  base_tells b w g = record { by = (refl, refl) }

  -- a name that isn't called

  abbrev IsName : List ℕ → Option Entity → Operand → Type 0
  IsName name x d = (of : TypeTree) × ((x ≡ Some (Object of)) × (d ≡ place_of of))

  variable_tells : (token index : ℕ) (name : List ℕ) (of : TypeTree) (o : Option TypeTree) (w : Walk) → o ≡ Some of
      → Tells (of_variable token index o w) (λ d v. IsName name (Some (Object of)) d × (shown v ≡ shown w))
      (λ j at. (at ≡ token) × NameBreaks (Some (Object of)) j)
  variable_tells token index name of None w h = absurd (cc)
  variable_tells token index name of (Some u) w h = record { by = ((of, (refl, ap place_of (same_Some u of h))), refl) }

  name_tells : (token : ℕ) (name : List ℕ) (m : Option Meaning) (x : Option Entity) (w : Walk) → Denotes w.declared_types w.functions m x
      → Tells (named_operand token m w) (λ d v. IsName name x d × (shown v ≡ shown w)) (λ j at. (at ≡ token) × NameBreaks x j)
  name_tells token name None None w h = record { by = (refl, refl) }
  name_tells token name (Some (meaning.Variable index)) (Some (Object of)) w h =
      variable_tells token index name of (slice_get w.declared_types index) w h
  name_tells token name (Some (meaning.Function index)) (Some (Function f)) w h = record { by = (refl, refl) }
  name_tells token name (Some (meaning.Library f)) (Some (Standard g)) w h = record { by = (refl, refl) }
  name_tells token name None (Some x) w h = absurd h
  name_tells token name (Some (meaning.Variable index)) (Some (Function f)) w h = absurd h
  name_tells token name (Some (meaning.Variable index)) (Some (Standard f)) w h = absurd h
  name_tells token name (Some (meaning.Function index)) (Some (Object of)) w h = absurd h
  name_tells token name (Some (meaning.Function index)) (Some (Standard f)) w h = absurd h
  name_tells token name (Some (meaning.Library f)) (Some (Object of)) w h = absurd h
  name_tells token name (Some (meaning.Library f)) (Some (Function g)) w h = absurd h
  name_tells token name (Some (meaning.Struct index)) (Some x) w h = absurd h
  name_tells token name (Some m) None w h = absurd h

  -- a call, behind its arguments

  function_tells : (token index : ℕ) (xs : List Operand) (f : FunctionType) (o : Option FunctionEntry) (w : Walk) → IsType o (λ g. g.ctype ≡ f)
      → Tells (of_function token index o xs w) (λ d v. AsValue (Calls (Some (Function f)) xs) d × (shown v ≡ shown w))
      (λ j at. (at ≡ token) × CallBreaks (Some (Function f)) xs j)
  function_tells token index xs f None w h = absurd h
  function_tells token index xs f (Some g) w h = looks token (functions.typed_call g.ctype xs) (with_call token index w)
      (λ d r. (called_is f xs d (ap (λ u. functions.typed_call u xs) (sym h) ∙ r), refl))
      (λ j r. (refl, called_breaks f xs j (ap (λ u. functions.typed_call u xs) (sym h) ∙ r)))

  pub call_tells : (token : ℕ) (xs : List Operand) (m : Option Meaning) (x : Option Entity) (w : Walk) → Denotes w.declared_types w.functions m x
      → Tells (called_name token m xs w) (λ d v. AsValue (Calls x xs) d × (shown v ≡ shown w)) (λ j at. (at ≡ token) × CallBreaks x xs j)
  call_tells token xs None None w h = record { by = (refl, refl) }
  call_tells token xs (Some (meaning.Function index)) (Some (Function f)) w h = function_tells token index xs f (slice_get w.functions index) w h
  call_tells token xs (Some (meaning.Library f)) (Some (Standard g)) w h = looks token (library_called f xs) w
      (λ d r. (standard_is g xs d (ap (λ u. library_called u xs) (sym h) ∙ r), refl))
      (λ j r. (refl, standard_breaks g xs j (ap (λ u. library_called u xs) (sym h) ∙ r)))
  call_tells token xs (Some (meaning.Variable index)) (Some (Object of)) w h = record { by = (refl, refl) }
  call_tells token xs None (Some x) w h = absurd h
  call_tells token xs (Some (meaning.Function index)) (Some (Object of)) w h = absurd h
  call_tells token xs (Some (meaning.Function index)) (Some (Standard f)) w h = absurd h
  call_tells token xs (Some (meaning.Library f)) (Some (Object of)) w h = absurd h
  call_tells token xs (Some (meaning.Library f)) (Some (Function g)) w h = absurd h
  call_tells token xs (Some (meaning.Variable index)) (Some (Function f)) w h = absurd h
  call_tells token xs (Some (meaning.Variable index)) (Some (Standard f)) w h = absurd h
  call_tells token xs (Some (meaning.Struct index)) (Some x) w h = absurd h
  call_tells token xs (Some m) None w h = absurd h

  -- a member that `.` or `->` at the token names
  selected_tells : (P : TypeTree → Type 0) (B : FaultKind → Type 0) (token : ℕ) (place : Bool) (r : Result Member FaultKind) (w : Walk)
      → ((m : Member) → r ≡ Ok m → P m.ctype) → ((j : FaultKind) → r ≡ Err j → B j)
      → Tells (selected_member token place r w) (λ d v. AsSelected place P d × (shown v ≡ shown w)) (λ j at. (at ≡ token) × B j)
  selected_tells P B token place (Ok m) w f g = record { by = ((f m refl, refl, refl), refl) }
  selected_tells P B token place (Err j) w f g = record { by = (refl, g j refl) }

  -- what a rule says
  rule_tells : (P : Operand → Type 0) (B : FaultKind → Type 0) (token : ℕ) (r : OperandOrFault) (w : Walk) → ((d : Operand) → r ≡ Ok d → P d)
      → ((j : FaultKind) → r ≡ Err j → B j) → Tells (operand_noted token r w) (λ d v. P d × (shown v ≡ shown w)) (λ j at. (at ≡ token) × B j)
  rule_tells P B token r w f g = looks token r w (λ d h. (f d h, refl)) (λ j h. (refl, g j h))

  mutual
    pub expr_tells : (x : ExprTree) (w : Walk) → Agreed k (shown w) → Tells (walk_expr x w) (λ d v. IsOperand k x d × (shown v ≡ shown w)) (Breaks k x)
    expr_tells (e.Comma token operands) w g = and_then (exprs_tells operands [] w g) (λ j at h. inl h) (λ xs v p.
        looks token (typed_comma t.Void xs) v
        (λ d r. ((xs, (subst (AreOperands k operands) (sym p.0.1.0) p.0.1.1, sequence_is t.Void xs d r)), p.1))
        (λ j r. let b = sequence_breaks t.Void xs j r in inr (xs, (subst (AreOperands k operands) (sym p.0.1.0) p.0.1.1, (refl, b.0, b.1)))))
    expr_tells (e.Assign token s target value) w g = and_then (expr_tells target w g) (λ j at h. inl h) (λ x v p.
        and_then (expr_tells value v (agrees_on g p.1)) (λ j at h. inr (x, (p.0, inl h))) (λ y u q.
        looks token (typed_assignment u.structs (compound_of s) x y) u
        (λ d r. (
          (
            x,
            (
              y,
              (
                p.0,
                q.0,
                assigning_is k.structs k.structs (same_structs k.structs) (compound_of s) x y d
                    (known_rule (λ ss. typed_assignment ss (compound_of s) x y) (Ok d) (agrees_on g (q.1 ∙ p.1)) r),
              ),
            ),
          ),
          q.1 ∙ p.1,
        ))
        (λ j r.
        let b = assign_breaks k.structs (compound_of s) x y j (known_rule (λ ss. typed_assignment ss (compound_of s) x y) (Err j) (agrees_on g (q.1 ∙ p.1)) r) in
        inr (x, (p.0, inr (y, (q.0, (refl, b))))))))
    expr_tells (e.Conditional token condition first second) w g = and_then (expr_tells condition w g) (λ j at h. inl h) (λ c v p.
        and_then (expr_tells first v (agrees_on g p.1)) (λ j at h. inr (c, (p.0, inl h))) (λ x u q.
        and_then (expr_tells second u (agrees_on g (q.1 ∙ p.1))) (λ j at h. inr (c, (p.0, inr (x, (q.0, inl h))))) (λ y z n.
        looks token (typed_conditional c x y) z
        (λ d r. ((c, (x, (y, (p.0, q.0, n.0, chosen_is k.structs k.structs (same_structs k.structs) c x y d r)))), n.1 ∙ q.1 ∙ p.1))
        (λ j r. inr (c, (p.0, inr (x, (q.0, inr (y, (n.0, (refl, chosen_breaks c x y j r)))))))))))
    expr_tells (e.Chain level first links) w g = and_then (expr_tells first w g) (λ j at h. inl h) (λ x v p.
        weaker (links_tells links x v (agrees_on g p.1)) (λ j at h. inr (x, (p.0, h))) (λ d u q. ((x, (p.0, q.0)), q.1 ∙ p.1)))
    expr_tells (e.Cast token b stars operand) w g = and_then (base_tells b w g) (λ j at h. inl h) (λ of v p.
        and_then (expr_tells operand v (agrees_on g (ap shown p.1))) (λ j at h. inr (of, (p.0, inl h))) (λ x u q.
        looks token (cast_to (with_stars stars of) x) u
        (λ d r. ((of, (x, (p.0, q.0, cast_is k.structs k.structs (same_structs k.structs) (with_stars stars of) x d r))), q.1 ∙ ap shown p.1))
        (λ j r. inr (of, (p.0, inr (x, (q.0, (refl, cast_breaks (with_stars stars of) x j r))))))))
    expr_tells (e.Prefix token o operand) w g = and_then (expr_tells operand w g) (λ j at h. inl h) (λ x v p.
        looks token (typed_prefix_operation v.structs o x) v
        (λ d r. (
          (
            x,
            (
              p.0,
              prefixed_is k.structs k.structs (same_structs k.structs) o x d
                  (known_rule (λ ss. typed_prefix_operation ss o x) (Ok d) (agrees_on g p.1) r),
            ),
          ),
          p.1,
        ))
        (λ j r. inr (x, (p.0, (refl, prefix_breaks k.structs o x j (known_rule (λ ss. typed_prefix_operation ss o x) (Err j) (agrees_on g p.1) r))))))
    expr_tells (e.SizeOfType token b stars) w g = and_then (base_tells b w g) (λ j at h. inl h) (λ of v p.
        looks token (typed_sizeof v.structs (with_stars stars of)) v
        (λ d r. (
          (
            of,
            (
              p.0,
              measured_is k.structs k.structs (same_structs k.structs) (with_stars stars of) d
                  (known_rule (λ ss. typed_sizeof ss (with_stars stars of)) (Ok d) (agrees_on g (ap shown p.1)) r),
            ),
          ),
          ap shown p.1,
        ))
        (λ j r.
        let b = measured_breaks k.structs (with_stars stars of) j
        (known_rule (λ ss. typed_sizeof ss (with_stars stars of)) (Err j) (agrees_on g (ap shown p.1)) r) in
        inr (of, (p.0, (refl, b.0, b.1)))))
    expr_tells (e.Postfix primary operators) w g = and_then (expr_tells primary w g) (λ j at h. inl h) (λ x v p.
        weaker (postfix_tells operators x v (agrees_on g p.1)) (λ j at h. inr (x, (p.0, h))) (λ d u q. ((x, (p.0, q.0)), q.1 ∙ p.1)))
    expr_tells (e.Name token name) w g = name_tells token name (meaning_of name w.names) (k.ordinary name) w (g.by.ordinary name)
    expr_tells (e.Call token name arguments) w g = and_then (exprs_tells arguments [] w g) (λ j at h. inl h) (λ xs v p.
        weaker (call_tells token xs (meaning_of name v.names) (k.ordinary name) v ((agrees_on g p.1).by.ordinary name))
        (λ j at h. inr (xs, (subst (AreOperands k arguments) (sym p.0.1.0) p.0.1.1, h)))
        (λ d u q. ((xs, (subst (AreOperands k arguments) (sym p.0.1.0) p.0.1.1, q.0)), q.1 ∙ p.1)))
    expr_tells (e.Paren token inner) w g = and_then (expr_tells inner w g) (λ j at h. h) (λ x v p. record { by = ((x, (p.0, refl)), p.1) })
    expr_tells x w g = record { by = (refl, refl) }

    pub exprs_tells : (xs : ExprList) (before : List Operand) (w : Walk) → Agreed k (shown w)
        → Tells (walk_exprs xs before w) (λ all v. ((own : List Operand) × ((all ≡ before ++ own) × AreOperands k xs own)) × (shown v ≡ shown w))
        (ListBreaks k xs)
    exprs_tells e.no_exprs before w g = record { by = (([], (sym (append-nil before), tt)), refl) }
    exprs_tells (e.more_exprs x rest) before w g = and_then (expr_tells x w g) (λ j at h. inl h) (λ y v p.
        weaker (exprs_tells rest (before ++ y ∷ []) v (agrees_on g p.1)) (λ j at h. inr (y, (p.0, h)))
        (λ all u q. ((y ∷ q.0.0, (q.0.1.0 ∙ append_assoc before (y ∷ []) q.0.0, (p.0, q.0.1.1))), q.1 ∙ p.1)))

    pub links_tells : (links : LinkList) (left : Operand) (w : Walk) → Agreed k (shown w)
        → Tells (walk_links links left w) (λ d v. LinksGive k left links d × (shown v ≡ shown w)) (LinksBreak k left links)
    links_tells e.no_links left w g = record { by = (refl, refl) }
    links_tells (e.more_links token s operand rest) left w g = and_then (expr_tells operand w g) (λ j at h. inl h) (λ y v p.
        and_then (rule_tells (AsValue (Joins k.structs (binary_of s) left y)) (Misfits (Joins k.structs (binary_of s) left y)) token
        (typed_chain_operation v.structs (binary_of s) left y) v
        (λ m r. chained_is k.structs k.structs (same_structs k.structs) (binary_of s) left y m
        (known_rule (λ ss. typed_chain_operation ss (binary_of s) left y) (Ok m) (agrees_on g p.1) r))
        (λ j r. chained_breaks k.structs (binary_of s) left y j (known_rule (λ ss. typed_chain_operation ss (binary_of s) left y) (Err j) (agrees_on g p.1) r)))
        (λ j at h. inr (y, (p.0, inl h)))
        (λ m u q. weaker (links_tells rest m u (agrees_on g (q.1 ∙ p.1))) (λ j at h. inr (y, (p.0, inr (m, (q.0, h)))))
        (λ d z n. ((y, (m, (p.0, q.0, n.0))), n.1 ∙ q.1 ∙ p.1))))

    pub postfix_tells : (operators : PostfixList) (left : Operand) (w : Walk) → Agreed k (shown w)
        → Tells (walk_postfix operators left w) (λ d v. PostfixGives k left operators d × (shown v ≡ shown w)) (PostfixBreaks k left operators)
    postfix_tells e.no_postfix left w g = record { by = (refl, refl) }
    postfix_tells (e.index token x rest) left w g = and_then (expr_tells x w g) (λ j at h. inl h) (λ y v p.
        and_then (rule_tells (AsPlace (Indexes k.structs left y)) (Misfits (Indexes k.structs left y)) token (typed_subscript v.structs left y) v
        (λ m r. indexed_is k.structs k.structs (same_structs k.structs) left y m (known_rule (λ ss. typed_subscript ss left y) (Ok m) (agrees_on g p.1) r))
        (λ j r. indexed_breaks k.structs left y j (known_rule (λ ss. typed_subscript ss left y) (Err j) (agrees_on g p.1) r)))
        (λ j at h. inr (y, (p.0, inl h)))
        (λ m u q. weaker (postfix_tells rest m u (agrees_on g (q.1 ∙ p.1))) (λ j at h. inr (y, (p.0, inr (m, (q.0, h)))))
        (λ d z n. ((y, (m, (p.0, q.0, n.0))), n.1 ∙ q.1 ∙ p.1))))
    postfix_tells (e.member token name rest) left w g =
        and_then (selected_tells (Selects k.structs name left.ctype) (MemberBreaks k.structs name left.ctype) token left.place
        (member_of w.structs name left.ctype) w
        (λ m r. member_stays k.structs k.structs (same_structs k.structs) name left.ctype m (ap (λ ss. member_of ss name left.ctype) g.by.complete ∙ r))
        (λ j r. member_breaks k.structs name left.ctype j (ap (λ ss. member_of ss name left.ctype) g.by.complete ∙ r)))
        (λ j at h. inl h)
        (λ m u q. weaker (postfix_tells rest m u (agrees_on g q.1)) (λ j at h. inr (m, (q.0, h))) (λ d z n. ((m, (q.0, n.0)), n.1 ∙ q.1)))
    postfix_tells (e.arrow token name rest) left w g =
        and_then (selected_tells (SelectsBehind k.structs name (value_type left)) (ArrowBreaks k.structs name (value_type left)) token true
        (member_behind w.structs name (value_type left)) w
        (λ m r. behind_stays k.structs k.structs (same_structs k.structs) name (value_type left) m
        (ap (λ ss. member_behind ss name (value_type left)) g.by.complete ∙ r))
        (λ j r. arrow_breaks k.structs name (value_type left) j (ap (λ ss. member_behind ss name (value_type left)) g.by.complete ∙ r)))
        (λ j at h. inl h)
        (λ m u q. weaker (postfix_tells rest m u (agrees_on g q.1)) (λ j at h. inr (m, (q.0, h))) (λ d z n. ((m, (q.0, n.0)), n.1 ∙ q.1)))
    postfix_tells (e.increment token rest) left w g =
        and_then (rule_tells (AsValue (Steps k.structs left)) (StepBreaks k.structs left) token (typed_increment w.structs left) w
        (λ m r. stepped_is k.structs k.structs (same_structs k.structs) left m (known_rule (λ ss. typed_increment ss left) (Ok m) g r))
        (λ j r. stepped_breaks k.structs left j (known_rule (λ ss. typed_increment ss left) (Err j) g r)))
        (λ j at h. inl h)
        (λ m u q. weaker (postfix_tells rest m u (agrees_on g q.1)) (λ j at h. inr (m, (q.0, h))) (λ d z n. ((m, (q.0, n.0)), n.1 ∙ q.1)))
    postfix_tells (e.decrement token rest) left w g =
        and_then (rule_tells (AsValue (Steps k.structs left)) (StepBreaks k.structs left) token (typed_increment w.structs left) w
        (λ m r. stepped_is k.structs k.structs (same_structs k.structs) left m (known_rule (λ ss. typed_increment ss left) (Ok m) g r))
        (λ j r. stepped_breaks k.structs left j (known_rule (λ ss. typed_increment ss left) (Err j) g r)))
        (λ j at h. inl h)
        (λ m u q. weaker (postfix_tells rest m u (agrees_on g q.1)) (λ j at h. inr (m, (q.0, h))) (λ d z n. ((m, (q.0, n.0)), n.1 ∙ q.1)))

pub refused_expr : (k : Known) (w : Walk) (x : ExprTree) (kind : FaultKind) (token : ℕ) → Agrees k w → walk_expr x w ≡ Faulty kind token → Breaks k x kind token
refused_expr k w x kind token g h = told_fault (expr_tells k x w (record { by = g })) h

pub accepted_expr : (k : Known) (w v : Walk) (x : ExprTree) (d : Operand) → Agrees k w → walk_expr x w ≡ Fine d v → IsOperand k x d
accepted_expr k w v x d g h = (told_fine (expr_tells k x w (record { by = g })) h).0
