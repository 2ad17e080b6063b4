-- Expressions whose types fit are safe: one induction over their trees.
use Rattle.std.proofs.Common.{◌≡◌, ℕ, suc, ◌<◌, ◌+◌, ◌++◌, append_assoc, append-nil, refl, ap, subst}
use Rattle.std.proofs.Common.{sym, ◌∙◌, arith, List, [], ◌∷◌, Some, None, Bool, true, false, length}
use Rattle.std.proofs.lemmas.Bool.{false≢true, true≢false}
use Rattle.std.proofs.lemmas.Bool.Decides.{nat_tests}
use Rattle.std.proofs.lemmas.List.{reverse-append, reverse-reverse}
use Rattle.std.specs.Prelude.{Option, pos, negsuc, IsSome, ◌&&◌, reverse}
use Rattle.cbi_base.specs.Words.{Locals, local_at, moved_pointer}
use Rattle.base_lists.proofs.Tests.{and_first}
use Rattle.cbi_base.specs.declared.operators.Binary.TheVariants as op
use Rattle.cbi_base.specs.declared.scalar.Kind.TheVariants.{Int}
use Rattle.cbi_base.specs.declared.scalar.Scalar.{Scalar}
use Rattle.cbi_base.specs.declared.scalar.Scalar.TheVariants.{Number, Place, Null}
use Rattle.c_syntax.specs.ExprTree as e
use Rattle.c_syntax.specs.ExprTree.{ExprTree, ExprList, LinkList, PostfixList}
use Rattle.c_types_expressions.specs.ExprWalk.{binary_of}
use Rattle.flow.specs.declared.site.Slot.{Slot}
use Rattle.flow.specs.declared.site.Slot.TheVariants as slot
use Rattle.c_meaning.specs.declared.value_type.ValueType.{ValueType}
use Rattle.c_meaning.specs.declared.value_type.ValueType.TheVariants as type
use Rattle.c_meaning.specs.Words.{as_type, as_used, is_null_as, is_null_constant, is_pointer_value, Sense, postfixed_sense, loaded_operand, place_or_value, Facts, Setting}
use Rattle.c_meaning.specs.Words.{arguments_value, condition, expr, last_sense, links_value, lone_value, value_after_postfix, text_place, operation, member_place, variable}
use Rattle.c_meaning.specs.Words.{assignment_of_sign, begins_null, called_as, expression_count, ends_as_place, is_null_beside, is_place, joint_of_sign, link_token, operand_type}
use Rattle.c_meaning.specs.Words.{postfix_token, token_of, type_of, World, Out, Caller}
use Rattle.c_meaning_laws.specs.Rules.{IsPointing, IsValue, OperatorsEnd, TakesOrNull, type_beside}
use Rattle.c_meaning_laws.specs.Typed.{HasSlot, Typed, TypedArguments, TypedLast, TypedLinks, TypedLone, TypedPostfix, variable_named}
use Rattle.c_meaning_laws.specs.TypedSource.{SitesFit}
use Rattle.c_meaning_laws.specs.TypedStatements.{TypedCondition}
use Rattle.c_meaning_laws.proofs.Safe.{Any, Safe, answers, gives, seq, weaker}
use Rattle.c_meaning_laws.proofs.Values.{Fits, Given, IsAt, at_fits, decayed_fits, decayed_value, handed_value_safe, null_fits, pointing_value, takes_itself}
use Rattle.c_meaning_laws.proofs.Memory.{load_safe, moved_at, moved_calm}
use Rattle.c_meaning_laws.proofs.Operations.{moves_safe, moves_values}
use Rattle.c_meaning_laws.proofs.Printing.{AllGiven}
use Rattle.c_meaning_laws.proofs.Visits.{CallsSafe, Spot, bare, decided_safe, spot_at}
use Rattle.c_meaning_laws.proofs.Senses.{SenseSafe, arm_effect_safe, arm_safe, assign_safe, cast_safe, conditional_safe}
use Rattle.c_meaning_laws.proofs.Senses.{linked_safe, null_or_safe, placed_safe, prefixed_safe, size_safe, stepped_behind_safe, valued_safe}
use Rattle.c_meaning_laws.proofs.Called.{Backwards, call_safe}

-- the type of what the operators of a chain give, behind a value of this type
abbrev links_type : Facts → Option ValueType → LinkList → Option ValueType
links_type facts left e.no_links = left
links_type facts left (e.more_links token sign operand rest) = links_type facts (facts.type_at token) rest

links_end : (facts : Facts) (links : LinkList) (token : ℕ) → links_type facts (facts.type_at token) links ≡ facts.type_at (link_token token links)
links_end facts e.no_links token = refl
links_end facts (e.more_links next sign operand rest) token = links_end facts rest next

chain_type : (facts : Facts) (first : ExprTree) (links : LinkList)
    → links_type facts (operand_type (begins_null facts first links) (type_of facts first)) links ≡ facts.type_at (link_token (token_of first) links)
chain_type facts first e.no_links = refl
chain_type facts first (e.more_links next sign operand rest) = links_end facts rest next

-- the type of what operators behind a place or a value lead to
abbrev postfix_type : Facts → Option ValueType → PostfixList → Option ValueType
postfix_type facts t e.no_postfix = t
postfix_type facts t (e.index token i rest) = postfix_type facts (facts.type_at token) rest
postfix_type facts t (e.member token name rest) = postfix_type facts (facts.type_at token) rest
postfix_type facts t (e.arrow token name rest) = postfix_type facts (facts.type_at token) rest
postfix_type facts t (e.increment token rest) = postfix_type facts (facts.type_at token) rest
postfix_type facts t (e.decrement token rest) = postfix_type facts (facts.type_at token) rest

postfix_end : (facts : Facts) (operators : PostfixList) (token : ℕ) → postfix_type facts (facts.type_at token) operators
    ≡ facts.type_at (postfix_token token operators)
postfix_end facts e.no_postfix token = refl
postfix_end facts (e.index next i rest) token = postfix_end facts rest next
postfix_end facts (e.member next name rest) token = postfix_end facts rest next
postfix_end facts (e.arrow next name rest) token = postfix_end facts rest next
postfix_end facts (e.increment next rest) token = postfix_end facts rest next
postfix_end facts (e.decrement next rest) token = postfix_end facts rest next

-- variables
pub local_known : (locals : Locals) (index : ℕ) → index < locals.count → local_at index locals ≡ Some (locals.first + index)
local_known locals index h = grind (arith, nat_tests, h)

-- an argument as it is used
takes_used : (t : Option ValueType) (b : Bool) → (b ≡ true → is_pointer_value (as_used t) ≡ true) → IsValue t → TakesOrNull b (as_used t) t
takes_used t false h l = takes_itself t l
takes_used (Some (type.Number kind)) true h l = absurd (false≢true (h refl))
takes_used (Some (type.Pointer size)) true h l = tt
takes_used (Some (type.Array size)) true h l = tt
takes_used t true h l = absurd l

-- arguments before those that are there: values of these types, the last one first
abbrev pub Onto : List ValueType → List Scalar → List Scalar → Type 0
Onto types before vs = (values : List Scalar) × (AllGiven types values) × (vs ≡ reverse values ++ before)

one_more : (v : Scalar) (values before : List Scalar) → reverse values ++ (v ∷ before) ≡ reverse (v ∷ values) ++ before
one_more v values before = sym (ap (λ a. a ++ before) (reverse-append (v ∷ []) values) ∙ append_assoc (reverse values) (v ∷ []) before)

pub backwards : (types : List ValueType) (vs : List Scalar) → Onto types [] vs → Backwards types vs
backwards types vs h = subst (AllGiven types) (sym (ap reverse (h.2 ∙ append-nil (reverse h.0)) ∙ reverse-reverse h.0)) h.1

member_safe : (o : Option ℕ) (p : Scalar) → IsSome o → IsAt p → Safe IsAt (member_place o p) (member_place o p)
member_safe None p h a = absurd (false≢true h)
member_safe (Some offset) p h a = answers (λ w. moved_pointer p (pos offset) w.objects) (λ w. refl) (λ w. moved_at p (pos offset) w.objects a)

member_behind_safe : (t : Option ValueType) (o : Option ℕ) (p : Scalar) → IsPointing t → IsSome o → Fits t p → Safe IsAt (member_place o p) (member_place o p)
member_behind_safe t None p k h f = absurd (false≢true h)
member_behind_safe t (Some offset) p k h f = answers (λ w. moved_pointer p (pos offset) w.objects) (λ w. refl) (λ w. moved_calm t p (pos offset) w.objects k f)

text_safe : (facts : Facts) (t : Option ValueType) (o : Option ℕ) → IsSome o → IsPointing t → Safe (Fits t) (text_place facts o) (text_place facts o)
text_safe facts t None h k = absurd (false≢true h)
text_safe facts t (Some number) h k = gives (Place (facts.statics.globals + number) 0) (at_fits t (Place (facts.statics.globals + number) 0) k tt)

module _ (s : Setting) (call0 : Caller) (fit : SitesFit s.sites) (calls : CallsSafe s.facts s.call call0) where
  abbrev pub ExprSafe : ExprTree → Type 0
  ExprSafe x = SenseSafe s.locals (type_of s.facts x) (is_place x) (variable_named s.facts x) (expr s x) (expr (bare s call0) x)

  pub variable_safe : (o : Option Slot) → HasSlot s.facts s.sites s.locals.count o → Safe (Spot s.locals o) (variable s o) (variable (bare s call0) o)
  variable_safe None h = absurd h
  variable_safe (Some (slot.Global index)) h = gives (Place index 0) (index, refl, refl)
  variable_safe (Some (slot.Local index)) h =
      let known : local_at index s.locals ≡ Some (s.locals.first + index) = local_known s.locals index h
      in record { at = λ w. rw known (s.locals.first + index, known, refl); same = λ w. rw known refl }

  -- what stands before a postfix operator: a place, or a value
  abbrev Held : Bool → Option Slot → Option ValueType → Scalar → Type 0
  Held true slot t v = Spot s.locals slot v
  Held false slot t v = Fits t v

  held_alone : (known : Bool) (slot : Option Slot) (t : Option ValueType) (v : Scalar) → Held known slot t v → Held known None t v
  held_alone true slot t v h = spot_at s.locals slot v h
  held_alone false slot t v h = h

  settled_safe : (known : Bool) (slot : Option Slot) (t : Option ValueType) (v : Scalar) → IsValue t → Held known slot t v
      → Safe (Fits t) (loaded_operand known t v) (loaded_operand known t v)
  settled_safe true slot t v l h = load_safe t v l (spot_at s.locals slot v h)
  settled_safe false slot t v l h = gives v h

  spot_safe : (known : Bool) (slot : Option Slot) (t : Option ValueType) (m m0 : Sense) → (known ≡ false → IsValue t) → SenseSafe s.locals t known slot m m0
      → Safe (Held known slot t) (place_or_value known m) (place_or_value known m0)
  spot_safe true slot t m m0 l a = a.place refl
  spot_safe false slot t m m0 l a = a.value (l refl)

  postfixed_safe : (known : Bool) (t : Option ValueType) (m m0 : World → Out Scalar) → OperatorsEnd known t → Safe (Held known None t) m m0
      → SenseSafe s.locals t known None (postfixed_sense known t m) (postfixed_sense known t m0)
  postfixed_safe true t m m0 h a = placed_safe t h a
  postfixed_safe false t m m0 h a = valued_safe a

  postfix_ends : (operators : PostfixList) (known : Bool) (slot : Option Slot) (t : Option ValueType)
      → TypedPostfix s.facts s.sites s.locals.count known slot t operators
      → OperatorsEnd (ends_as_place known operators) (postfix_type s.facts t operators)
  postfix_ends e.no_postfix known slot t h = h
  postfix_ends (e.index token i rest) known slot t h = postfix_ends rest true None (s.facts.type_at token) h.2
  postfix_ends (e.member token name rest) known slot t h = postfix_ends rest true None (s.facts.type_at token) h.2
  postfix_ends (e.arrow token name rest) known slot t h = postfix_ends rest true None (s.facts.type_at token) h.2
  postfix_ends (e.increment token rest) known slot t h = postfix_ends rest false None (s.facts.type_at token) h.2
  postfix_ends (e.decrement token rest) known slot t h = postfix_ends rest false None (s.facts.type_at token) h.2

  postfix_value : (operators : PostfixList) (slot : Option Slot) (t : Option ValueType) → TypedPostfix s.facts s.sites s.locals.count false slot t operators
      → IsValue t
  postfix_value e.no_postfix slot t h = h
  postfix_value (e.index token i rest) slot t h = (moves_values (operation op.Add t (type_of s.facts i)) t (type_of s.facts i) h.1).0
  postfix_value (e.arrow token name rest) slot t h = pointing_value t h.0
  postfix_value operators slot t h = absurd (false≢true h.0)

  value_of_false : (known : Bool) (operators : PostfixList) (slot : Option Slot) (t : Option ValueType)
      → TypedPostfix s.facts s.sites s.locals.count known slot t operators → known ≡ false → IsValue t
  value_of_false true operators slot t h n = absurd (true≢false n)
  value_of_false false operators slot t h n = postfix_value operators slot t h

  pub count_is : (types : List ValueType) (xs : ExprList) → TypedArguments s.facts s.sites s.locals.count types xs → expression_count xs ≡ length types
  count_is [] e.no_exprs h = refl
  count_is (t ∷ types) (e.more_exprs x rest) h = ap suc (count_is types rest h.2)
  count_is [] (e.more_exprs x rest) h = absurd h
  count_is (t ∷ types) e.no_exprs h = absurd h

  mutual
    pub expr_safe : (x : ExprTree) → Typed s.facts s.sites s.locals.count x → ExprSafe x
    expr_safe (e.Comma token operands) h = last_safe (s.facts.type_at token) operands h
    expr_safe (e.Assign token sign target value) h =
        valued_safe (rw h.4 (assign_safe s call0 fit token (assignment_of_sign sign) (variable_named s.facts target) (type_of s.facts target) value _ _ _ _
        ((expr_safe target h.0).place h.2) (expr_safe value h.1).value h.3 h.5))
    expr_safe (e.Conditional token c first second) h =
        conditional_safe s call0 fit token (s.facts.type_at token) None (expr s c) (expr (bare s call0) c) (type_of s.facts c) _ _ _ _ _ _ _ _
        ((expr_safe c h.0).value h.3)
        (λ l. arm_safe s.facts (s.facts.type_at token) first _ _ (expr_safe first h.1).value h.4 l)
        (λ l. arm_safe s.facts (s.facts.type_at token) second _ _ (expr_safe second h.2).value h.5 l)
        (arm_effect_safe s.facts (s.facts.type_at token) first _ _ (expr_safe first h.1).value (expr_safe first h.1).effect h.4)
        (arm_effect_safe s.facts (s.facts.type_at token) second _ _ (expr_safe second h.2).value (expr_safe second h.2).effect h.5)
    expr_safe (e.Chain level first links) h =
        valued_safe (weaker (λ v f. subst (λ t. Fits t v) (chain_type s.facts first links) f)
        (seq (null_or_safe (begins_null s.facts first links) (type_of s.facts first) _ _ ((expr_safe first h.0).value h.1))
        (λ v f. links_safe links (operand_type (begins_null s.facts first links) (type_of s.facts first)) h.2 v f)))
    expr_safe (e.Cast token base stars operand) h =
        cast_safe s.locals (is_place operand) (variable_named s.facts operand) None (is_null_as (s.facts.type_at token) operand) (s.facts.type_at token)
        (type_of s.facts operand) _ _ (expr_safe operand h.0) h.1
    expr_safe (e.Prefix token operator operand) h = prefixed_safe s call0 fit token operator operand _ _ (expr_safe operand h.0) h.1
    expr_safe (e.SizeOfType token base stars) h = rw h.1 (size_safe (s.facts.named_cells base stars) h.0)
    expr_safe (e.Postfix primary operators) h =
        rw (sym (postfix_end s.facts operators (token_of primary)))
        (postfixed_safe (ends_as_place (is_place primary) operators) (postfix_type s.facts (type_of s.facts primary) operators) _ _
        (postfix_ends operators (is_place primary) (variable_named s.facts primary) (type_of s.facts primary) h.1)
        (seq (spot_safe (is_place primary) (variable_named s.facts primary) (type_of s.facts primary) _ _
        (value_of_false (is_place primary) operators (variable_named s.facts primary) (type_of s.facts primary) h.1) (expr_safe primary h.0))
        (λ v held. behind_safe operators (is_place primary) (variable_named s.facts primary) (type_of s.facts primary) v h.1 held)))
    expr_safe (e.Name token name) h = placed_safe (s.facts.type_at token) h.0 (variable_safe (s.facts.slot_at token) h.1)
    expr_safe (e.Call token name arguments) h =
        call_safe s call0 fit calls token (called_as (s.facts.function_at token) name)
        (λ types. TypedArguments s.facts s.sites s.locals.count types arguments)
        (TypedLone s.facts s.sites s.locals.count arguments) (expression_count arguments) _ _ _ _ (s.facts.type_at token) _ _
        (record {
          all = λ types a. weaker (λ vs o. backwards types vs o) (arguments_safe arguments types [] a);
          count = λ types a. count_is types arguments a;
          typed = λ t a. lone_typed arguments t a;
          used = λ a. lone_used arguments a;
        }) h
    expr_safe (e.Constant token kind value) h = valued_safe (rw h (gives (Number kind value) refl))
    expr_safe (e.Strings token parts) h = valued_safe (text_safe s.facts (s.facts.type_at token) (s.facts.text_at token) h.0 h.1)
    expr_safe (e.Paren token inner) h = rw h.1 (expr_safe inner h.0)
    expr_safe (e.Null token) h = valued_safe (gives Null (null_fits (s.facts.type_at token) h))
    expr_safe (e.EndOfFile token) h = valued_safe (rw h (gives (Number Int (negsuc 0)) refl))

    last_safe : (t : Option ValueType) (xs : ExprList) → TypedLast s.facts s.sites s.locals.count t xs
        → SenseSafe s.locals t false None (last_sense s xs) (last_sense (bare s call0) xs)
    last_safe t e.no_exprs h = absurd h
    last_safe t (e.more_exprs x e.no_exprs) h = record {
      value = λ l. rw h.1 (weaker (λ v f. decayed_fits (type_of s.facts x) v f) ((expr_safe x h.0).value
          (decayed_value (type_of s.facts x) (subst IsValue h.1 l))));
      place = λ i. absurd (false≢true i);
      effect = (expr_safe x h.0).effect;
    }
    last_safe t (e.more_exprs x (e.more_exprs y rest)) h = record {
      value = λ l. seq (expr_safe x h.0).effect (λ _ _. (last_safe t (e.more_exprs y rest) h.1).value l);
      place = λ i. absurd (false≢true i);
      effect = seq (expr_safe x h.0).effect (λ _ _. (last_safe t (e.more_exprs y rest) h.1).effect);
    }

    links_safe : (links : LinkList) (left : Option ValueType) → TypedLinks s.facts s.sites s.locals.count left links → (v : Scalar) → Fits left v
        → Safe (Fits (links_type s.facts left links)) (links_value s left links v) (links_value (bare s call0) left links v)
    links_safe e.no_links left h v f = gives v f
    links_safe (e.more_links token sign operand rest) left h v f =
        seq (linked_safe s call0 fit (joint_of_sign sign) token left (type_beside s.facts (binary_of sign) left operand) (s.facts.type_at token) _ _ v h.2
        (null_or_safe (is_null_beside (binary_of sign) left operand) (type_of s.facts operand) _ _ ((expr_safe operand h.0).value h.1)) f)
        (λ x g. links_safe rest (s.facts.type_at token) h.3 x g)

    behind_safe : (operators : PostfixList) (known : Bool) (slot : Option Slot) (t : Option ValueType) (v : Scalar)
        → TypedPostfix s.facts s.sites s.locals.count known slot t operators
        → Held known slot t v → Safe (Held (ends_as_place known operators) None (postfix_type s.facts t operators)) (value_after_postfix s known t operators v)
        (value_after_postfix (bare s call0) known t operators v)
    behind_safe e.no_postfix known slot t v h held = gives v (held_alone known slot t v held)
    behind_safe (e.index token i rest) known slot t v h held =
        seq (settled_safe known slot t v (moves_values (operation op.Add t (type_of s.facts i)) t (type_of s.facts i) h.1).0 held) (λ p f.
        seq ((expr_safe i h.0).value (moves_values (operation op.Add t (type_of s.facts i)) t (type_of s.facts i) h.1).1) (λ x g.
        seq (moves_safe (operation op.Add t (type_of s.facts i)) t (type_of s.facts i) p x h.1 f g)
        (λ q at. behind_safe rest true None (s.facts.type_at token) q h.2 at)))
    behind_safe (e.member token name rest) true slot t v h held =
        seq (member_safe (s.facts.offset_at token) v h.1 (spot_at s.locals slot v held)) (λ q at. behind_safe rest true None (s.facts.type_at token) q h.2 at)
    behind_safe (e.arrow token name rest) known slot t v h held =
        seq (settled_safe known slot t v (pointing_value t h.0) held) (λ p f.
        seq (member_behind_safe t (s.facts.offset_at token) p h.0 h.1 f) (λ q at. behind_safe rest true None (s.facts.type_at token) q h.2 at))
    behind_safe (e.increment token rest) true slot t v h held =
        seq (stepped_behind_safe s call0 fit true token slot t v h.1 held) (λ old f. behind_safe rest false None (s.facts.type_at token) old h.2
        (subst (λ a. Fits a old) (sym h.1.2) f))
    behind_safe (e.decrement token rest) true slot t v h held =
        seq (stepped_behind_safe s call0 fit false token slot t v h.1 held) (λ old f. behind_safe rest false None (s.facts.type_at token) old h.2
        (subst (λ a. Fits a old) (sym h.1.2) f))
    behind_safe operators false slot t v h held = absurd (false≢true h.0)

    pub arguments_safe : (xs : ExprList) (types : List ValueType) (before : List Scalar) → TypedArguments s.facts s.sites s.locals.count types xs
        → Safe (Onto types before) (arguments_value s types xs before) (arguments_value (bare s call0) types xs before)
    arguments_safe e.no_exprs [] before h = gives before ([], tt, refl)
    arguments_safe (e.more_exprs x rest) (t ∷ types) before h =
        seq (handed_value_safe (is_null_as (Some t) x) (Some t) (type_of s.facts x) _ _ h.1 (expr_safe x h.0).value)
        (λ v g. weaker (λ vs o. (v ∷ o.0, (g, o.1), o.2 ∙ one_more v o.0 before)) (arguments_safe rest types (v ∷ before) h.2))
    arguments_safe e.no_exprs (t ∷ types) before h = absurd h
    arguments_safe (e.more_exprs x rest) [] before h = absurd h

    lone_typed : (xs : ExprList) (t : ValueType) → TypedArguments s.facts s.sites s.locals.count (t ∷ []) xs
        → Safe (Given (Some t)) (lone_value s (as_type t) xs) (lone_value (bare s call0) (as_type t) xs)
    lone_typed e.no_exprs t h = absurd h
    lone_typed (e.more_exprs x e.no_exprs) t h = handed_value_safe (is_null_as (Some t) x) (Some t) (type_of s.facts x) _ _ h.1 (expr_safe x h.0).value
    lone_typed (e.more_exprs x (e.more_exprs y rest)) t h = absurd h.2

    lone_used : (xs : ExprList) → TypedLone s.facts s.sites s.locals.count xs → Safe Any (lone_value s as_used xs) (lone_value (bare s call0) as_used xs)
    lone_used e.no_exprs h = absurd h
    lone_used (e.more_exprs x e.no_exprs) h =
        weaker (λ _ _. tt) (handed_value_safe (is_null_as (as_used (type_of s.facts x)) x) (as_used (type_of s.facts x)) (type_of s.facts x) _ _
        (takes_used (type_of s.facts x) (is_null_as (as_used (type_of s.facts x)) x) (and_first (is_pointer_value (as_used (type_of s.facts x)))
        (is_null_constant x)) h.1)
        (expr_safe x h.0).value)
    lone_used (e.more_exprs x (e.more_exprs y rest)) h = absurd h

  -- a condition
  pub condition_safe : (token : ℕ) (x : ExprTree) → TypedCondition s.facts s.sites s.locals.count x
      → Safe Any (condition s token x) (condition (bare s call0) token x)
  condition_safe token x h = seq ((expr_safe x h.0).value h.1) (λ v _. decided_safe s call0 fit token v)
