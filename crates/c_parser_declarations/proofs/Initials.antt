-- Initialisers.
use Rattle.std.proofs.Common.{◌≡◌, ℕ, ◌+◌, ◌≤◌, ◌==◌, Bool, true, false, not, ◌&&◌, cond, inl, inr, List, [], ◌∷◌, ◌++◌, length, Option, Some, None, Ok, Err, refl, sym, ap, ◌∙◌, subst, append_assoc, arith}
use Rattle.std.proofs.lemmas.Bool.{cases_Bool}
use Rattle.c_parser_expressions.proofs.Primary.{behind-shorter}
use Rattle.c_syntax.specs.declared.token.Sign.{Sign}
use Rattle.c_syntax.specs.declared.token.Sign.TheVariants as sign_is
use Rattle.c_syntax.specs.declared.token.TokenKind.{TokenKind}
use Rattle.c_syntax.specs.declared.token.TokenKind.TheVariants as kind
use Rattle.c_syntax.specs.ExprTree as e
use Rattle.c_syntax.specs.Words.{ExprTree, ExprList, InitialTree, expr_list, Kinds, a_sign, expr_kinds, more_exprs_kinds, comma_kinds, initial_kinds}
use Rattle.c_syntax.specs.StatementTree as s
use Rattle.c_parser_expressions.specs.Reading.{Cursor, SameUpTo, Found, Read, Outcome, sequence_rule, sign_rule, next_cursor, kinds_behind_first, sign_at}
use Rattle.c_parser_expressions.specs.Marks.{begins_with_sign}
use Rattle.c_parser_expressions.specs.Steps.{◌>>=◌, with_front, all_of, the_sign}
use Rattle.c_parser_declarations.specs.Lists.{Separates, comma, closed}
use Rattle.c_parser_expressions.specs.Expressions.{sign_binds, binding_strength, EndsAt, IsExpr, expression, inner_expression}
use Rattle.c_parser_expressions.specs.ExpressionParser.{assignment_by, deeper_than}
use Rattle.c_parser_declarations.specs.Declarations.{IsInitial, initialiser_rule, AreFurtherItems, items_end, initialiser_or_none}
use Rattle.c_parser_declarations.specs.DeclarationParser.{item_step, end_of_list, braced_by, initial_by, initialised_by}
use Rattle.c_parser_expressions.proofs.Heads.{sign-head, same-sign, sign-same, stands-sign, sign-stands}
use Rattle.c_parser_expressions.proofs.Laws.{Leads, leads-here, part, finish}
use Rattle.c_parser_expressions.proofs.Many.{put}
use Rattle.c_parser_expressions.proofs.Tokens.{sign-parses, fails-here}
use Rattle.c_parser_expressions.proofs.Starts.{starts-expr, starts-same, starts-more}
use Rattle.c_parser_declarations.proofs.Lists.{ClosingIs, Closing, close-item, list-behind}

-- what is known of expressions
abbrev pub ReadsAssignments : Type 0
ReadsAssignments = (d : ℕ) (c : Cursor) → Outcome (expression 1 d) c ((assignment_by d (deeper_than d)) c)

abbrev pub ReadsInner : Type 0
ReadsInner = (d : ℕ) (c : Cursor) → Outcome (inner_expression 1 d) c ((deeper_than d).assignment c)

pub sign-binds : (k : Kinds) (x : Sign) → sign_at k ≡ Some x → binding_strength k ≡ sign_binds x
sign-binds [] x h = cc
sign-binds (kind.Punctuator y ∷ k) x h = let same : y ≡ x = cc in ap sign_binds same
sign-binds (_ ∷ k) x h = cc

pub separates-ends : (x : Sign) (k : Kinds) → sign_binds x ≡ 0 → Separates x k → EndsAt 1 k
separates-ends x k zero_binds (comma h) = let b = sign-binds k sign_is.Comma h in record { by = omega arith }
separates-ends x k zero_binds (closed h) = let b = sign-binds k x h in record { by = omega arith }

-- braced lists

items-follow : (p : ExprList × Bool) (k : Kinds) → EndsAt 1 ((more_exprs_kinds p.0 ++ (comma_kinds p.1 ++ a_sign sign_is.RightBrace)) ++ k)
items-follow (e.no_exprs, true) k = record { by = omega arith }
items-follow (e.no_exprs, false) k = record { by = omega arith }
items-follow (e.more_exprs x rest, b) k = record { by = omega arith }

abbrev braced_tree : ℕ → ExprTree × (ExprList × Bool) → InitialTree
braced_tree token p = s.Braced token (e.more_exprs p.0 p.1.0) p.1.1

brace-back : (d at last : ℕ) (ks k : Kinds) (x : InitialTree) → IsInitial d at x → SameUpTo last at (kind.Punctuator sign_is.LeftBrace ∷ ks) (initial_kinds x ++ k)
    → (p : ExprTree × (ExprList × Bool)) × (x ≡ braced_tree at p) × (sequence_rule (inner_expression 1 d) (λ y. items_end d)).Is (at + 1) p
brace-back d at last ks k (s.Value v) is same =
    absurd (let begins = starts-same last at (kind.Punctuator sign_is.LeftBrace) ks (expr_kinds v ++ k)
    (starts-more (expr_kinds v) k (starts-expr v is.shaped.1)) same in cc)
brace-back d at last ks k (s.Braced t e.no_exprs b) is same = absurd is.shaped.0
brace-back d at last ks k (s.Braced t (e.more_exprs x rest) b) is same =
    let nests = is.nests in (
      (x, (rest, b)),
      ap (λ (n : ℕ). s.Braced n (e.more_exprs x rest) b) is.placed.0,
      (
        record { ranks = is.shaped.1.0; shaped = is.shaped.1.1; nests = omega arith; placed = is.placed.1.0 },
        record { shaped = is.shaped.1.2; nests = omega arith; placed = is.placed.1.1 },
      ),
    )

brace-leads : (d : ℕ) (c : Cursor) → sign_at c.rest ≡ Some sign_is.LeftBrace
    → Leads (initialiser_rule d) (sequence_rule (inner_expression 1 d) (λ x. items_end d)) c (next_cursor c) (braced_tree c.at)
brace-leads d c h =
    let whole : c.rest ≡ kind.Punctuator sign_is.LeftBrace ∷ kinds_behind_first c.rest = sign-head c.rest sign_is.LeftBrace h in
    record {
      front = a_sign sign_is.LeftBrace;
      whole = whole;
      moved = refl;
      build = λ p is.
          (let n1 = is.0.nests in let n2 = is.1.nests in
          record { shaped = (tt, (is.0.ranks, is.0.shaped, is.1.shaped)); nests = omega arith; placed = (refl, (is.0.placed, is.1.placed)) });
      spelled = λ p. ap (λ (v : Kinds). kind.Punctuator sign_is.LeftBrace ∷ v)
          (append_assoc (expr_kinds p.0 ++ more_exprs_kinds p.1.0) (comma_kinds p.1.1) (a_sign sign_is.RightBrace)
          ∙ append_assoc (expr_kinds p.0) (more_exprs_kinds p.1.0) (comma_kinds p.1.1 ++ a_sign sign_is.RightBrace));
      back = λ x k last is ends le same.
          (let b = brace-back d c.at last (kinds_behind_first c.rest) k x is (subst (λ (v : Kinds). SameUpTo last c.at v (initial_kinds x ++ k)) whole same) in
          (b.0, b.1, b.2, record {}));
    }

abbrev pub add_item : ExprTree → ExprList × Bool → ExprList × Bool
add_item x p = (e.more_exprs x p.0, p.1)

abbrev no_items : Bool → ExprList × Bool
no_items b = (e.no_exprs, b)

put-items : (xs : List ExprTree) (b : Bool) → ◌≡◌ {A = ExprList × Bool} (put add_item xs (no_items b)) (expr_list xs, b)
put-items [] b = refl
put-items (x ∷ xs) b = ap {B = ExprList × Bool} (add_item x) (put-items xs b)

item-back : (d at last : ℕ) (ks k : Kinds) (p : ExprList × Bool) → (sign_at ks ≡ Some sign_is.RightBrace → ⊥) → AreFurtherItems d at p → at + 1 ≤ last
    → SameUpTo last at (kind.Punctuator sign_is.Comma ∷ ks) ((more_exprs_kinds p.0 ++ (comma_kinds p.1 ++ a_sign sign_is.RightBrace)) ++ k)
    → (q : ExprTree × (ExprList × Bool)) × (◌≡◌ {A = ExprList × Bool} p (add_item q.0 q.1)) × (sequence_rule (inner_expression 1 d) (λ y. items_end d)).Is (at + 1) q
item-back d at last ks k (e.no_exprs, true) other is le same = absurd (other (same-sign last (at + 1) ks k sign_is.RightBrace (same.1 (omega arith))))
item-back d at last ks k (e.no_exprs, false) other is le same = let h = same.0 in cc
item-back d at last ks k (e.more_exprs x rest, b) other is le same =
    let nests = is.nests in (
      (x, (rest, b)),
      refl,
      (
        record { ranks = is.shaped.0; shaped = is.shaped.1; nests = omega arith; placed = is.placed.0 },
        record { shaped = is.shaped.2; nests = omega arith; placed = is.placed.1 },
      ),
    )

item-leads : (d : ℕ) (c : Cursor) → sign_at c.rest ≡ Some sign_is.Comma → (sign_at (kinds_behind_first c.rest) ≡ Some sign_is.RightBrace → ⊥)
    → Leads (items_end d) (sequence_rule (inner_expression 1 d) (λ x. items_end d)) c (next_cursor c) (λ q. add_item q.0 q.1)
item-leads d c h other =
    let whole : c.rest ≡ kind.Punctuator sign_is.Comma ∷ kinds_behind_first c.rest = sign-head c.rest sign_is.Comma h in
    record {
      front = a_sign sign_is.Comma;
      whole = whole;
      moved = refl;
      build = λ q is.
          (let n1 = is.0.nests in let n2 = is.1.nests in
          record { shaped = (is.0.ranks, is.0.shaped, is.1.shaped); nests = omega arith; placed = (is.0.placed, is.1.placed) });
      spelled = λ q. ap (λ (v : Kinds). kind.Punctuator sign_is.Comma ∷ v)
          (append_assoc (expr_kinds q.0) (more_exprs_kinds q.1.0) (comma_kinds q.1.1 ++ a_sign sign_is.RightBrace));
      back = λ p k last is ends le same.
          (let b = item-back d c.at last (kinds_behind_first c.rest) k p other is le (subst
          (λ (v : Kinds). SameUpTo last c.at v ((more_exprs_kinds p.0 ++ (comma_kinds p.1 ++ a_sign sign_is.RightBrace)) ++ k)) whole same) in
          (b.0, b.1, b.2, record {}));
    }

last-comma-back : (d at last : ℕ) (ks k : Kinds) (p : ExprList × Bool) → sign_at ks ≡ Some sign_is.RightBrace → AreFurtherItems d at p → at + 1 ≤ last
    → SameUpTo last at (kind.Punctuator sign_is.Comma ∷ ks) ((more_exprs_kinds p.0 ++ (comma_kinds p.1 ++ a_sign sign_is.RightBrace)) ++ k)
    → ◌≡◌ {A = ExprList × Bool} p (e.no_exprs, true)
last-comma-back d at last ks k (e.no_exprs, true) h is le same = refl
last-comma-back d at last ks k (e.no_exprs, false) h is le same = let t = same.0 in cc
last-comma-back d at last ks k (e.more_exprs x rest, b) h is le same =
    let rest_is : SameUpTo last (at + 1) ks (expr_kinds x ++ (more_exprs_kinds rest ++ (comma_kinds b ++ a_sign sign_is.RightBrace) ++ k)) =
    subst (λ (v : Kinds). SameUpTo last (at + 1) ks v)
    (append_assoc (expr_kinds x ++ more_exprs_kinds rest) (comma_kinds b ++ a_sign sign_is.RightBrace) k
    ∙ append_assoc (expr_kinds x) (more_exprs_kinds rest) ((comma_kinds b ++ a_sign sign_is.RightBrace) ++ k)
    ∙ ap (λ (v : Kinds). expr_kinds x ++ v) (sym (append_assoc (more_exprs_kinds rest) (comma_kinds b ++ a_sign sign_is.RightBrace) k)))
    (same.1 (omega arith)) in
    let head : SameUpTo last (at + 1) (kind.Punctuator sign_is.RightBrace ∷ kinds_behind_first ks)
    (expr_kinds x ++ (more_exprs_kinds rest ++ (comma_kinds b ++ a_sign sign_is.RightBrace) ++ k)) =
    subst (λ (v : Kinds). SameUpTo last (at + 1) v (expr_kinds x ++ (more_exprs_kinds rest ++ (comma_kinds b ++ a_sign sign_is.RightBrace) ++ k)))
    (sign-head ks sign_is.RightBrace h) rest_is in
    absurd (let begins = starts-same last (at + 1) (kind.Punctuator sign_is.RightBrace) (kinds_behind_first ks) _
    (starts-more (expr_kinds x) _ (starts-expr x is.shaped.1)) head in cc)

last-comma-leads : (d : ℕ) (c : Cursor) → sign_at c.rest ≡ Some sign_is.Comma → sign_at (kinds_behind_first c.rest) ≡ Some sign_is.RightBrace
    → Leads (items_end d) (sign_rule sign_is.RightBrace) c (next_cursor c) (λ u. no_items true)
last-comma-leads d c h next =
    let whole : c.rest ≡ kind.Punctuator sign_is.Comma ∷ kinds_behind_first c.rest = sign-head c.rest sign_is.Comma h in
    record {
      front = a_sign sign_is.Comma;
      whole = whole;
      moved = refl;
      build = λ u is. record { shaped = tt; nests = omega arith; placed = tt };
      spelled = λ u. refl;
      back = λ p k last is ends le same. (
        tt,
        last-comma-back d c.at last (kinds_behind_first c.rest) k p next is le (subst
            (λ (v : Kinds). SameUpTo last c.at v ((more_exprs_kinds p.0 ++ (comma_kinds p.1 ++ a_sign sign_is.RightBrace)) ++ k)) whole same),
        tt,
        record {},
      );
    }

bare-back : (last at : ℕ) (ks k : Kinds) (p : ExprList × Bool) → (sign_at ks ≡ Some sign_is.Comma → ⊥)
    → SameUpTo last at ks ((more_exprs_kinds p.0 ++ (comma_kinds p.1 ++ a_sign sign_is.RightBrace)) ++ k)
    → ◌≡◌ {A = ExprList × Bool} p (e.no_exprs, false)
bare-back last at ks k (e.no_exprs, false) other same = refl
bare-back last at ks k (e.no_exprs, true) other same = absurd (other (same-sign last at ks _ sign_is.Comma same))
bare-back last at ks k (e.more_exprs x rest, b) other same = absurd (other (same-sign last at ks _ sign_is.Comma same))

bare-leads : (d : ℕ) (c : Cursor) → (sign_at c.rest ≡ Some sign_is.Comma → ⊥) → Leads (items_end d) (sign_rule sign_is.RightBrace) c c (λ u. no_items false)
bare-leads d c other = leads-here (items_end d) (sign_rule sign_is.RightBrace) c (λ u. no_items false)
    (λ u is. record { shaped = tt; nests = omega arith; placed = tt }) (λ u. refl)
    (λ p k last is ends le same. (tt, bare-back last c.at c.rest k p other same, tt, record {}))

pub twice : {A B C : Type 0} (r : Read A) (f : A → B) (g : B → C)
    → ◌≡◌ {A = Read C} (◌>>=◌ {A = B × Cursor} {B = C × Cursor} (◌>>=◌ {A = A × Cursor} {B = B × Cursor} r (λ y. Ok (f y.0, y.1))) (λ q. Ok (g q.0, q.1)))
    (◌>>=◌ {A = A × Cursor} {B = C × Cursor} r (λ y. Ok (g (f y.0), y.1)))
twice (Ok p) f g = refl
twice (Err i) f g = refl

end-parses : (d : ℕ) (c : Cursor) → (begins_with_sign sign_is.Comma c.rest ≡ true → begins_with_sign sign_is.RightBrace (kinds_behind_first c.rest) ≡ true)
    → Outcome (items_end d) c (end_of_list c >>= (λ q. Ok (no_items q.0, q.1)))
unfolding end_of_list
end-parses d c brace = elim (cases_Bool (begins_with_sign sign_is.Comma c.rest)) [
  | inl t ↦
      (let at_comma = stands-sign sign_is.Comma c.rest (omega arith) t in
      let at_brace = stands-sign sign_is.RightBrace (kinds_behind_first c.rest) (omega arith) (brace t) in
      rw t (subst (λ (r : Read (ExprList × Bool)). Outcome (items_end d) c r) (sym (twice (the_sign sign_is.RightBrace (next_cursor c)) (λ u. true) no_items))
      (finish (items_end d) (sign_rule sign_is.RightBrace) c (next_cursor c) (λ u. no_items true) (the_sign sign_is.RightBrace (next_cursor c))
      (last-comma-leads d c at_comma at_brace) (sign-parses sign_is.RightBrace (next_cursor c) (omega arith)))))
  | inr f ↦
      rw f (subst (λ (r : Read (ExprList × Bool)). Outcome (items_end d) c r) (sym (twice (the_sign sign_is.RightBrace c) (λ u. false) no_items))
      (finish (items_end d) (sign_rule sign_is.RightBrace) c c (λ u. no_items false) (the_sign sign_is.RightBrace c)
      (bare-leads d c (λ h. let t = sign-stands sign_is.Comma c.rest h in cc)) (sign-parses sign_is.RightBrace c (omega arith))))
]

abbrev pub list_end : Cursor → Read (ExprList × Bool)
list_end c = end_of_list c >>= (λ q. Ok (no_items q.0, q.1))

items-at : (d : ℕ) (item : Cursor → Read ExprTree) (c : Cursor) → ((k : Cursor) → Outcome (inner_expression 1 d) k (item k)) → (a b : Bool)
    → begins_with_sign sign_is.Comma c.rest ≡ a → begins_with_sign sign_is.RightBrace (kinds_behind_first c.rest) ≡ b
    → ClosingIs (items_end d) add_item list_end c (cond (a && not b) (Some (item (next_cursor c))) None)
items-at d item c reads true false ta tb =
    let at_comma = stands-sign sign_is.Comma c.rest (omega arith) ta in
    close-item (items_end d) (inner_expression 1 d) c (next_cursor c) add_item list_end (item (next_cursor c)) (λ at v y k v_is y_is ends. items-follow y k)
    (item-leads d c at_comma (λ h. let t = sign-stands sign_is.RightBrace (kinds_behind_first c.rest) h in cc)) (behind-shorter c.rest sign_is.Comma at_comma)
    (reads (next_cursor c))
items-at d item c reads true true ta tb = end-parses d c (λ h. tb)
items-at d item c reads false b ta tb = end-parses d c (λ h. cc)

pub items-closing : (d : ℕ) (item : Cursor → Read ExprTree) → ((k : Cursor) → Outcome (inner_expression 1 d) k (item k))
    → Closing (items_end d) (item_step item) add_item list_end
unfolding item_step
items-closing d item reads = record { is = λ c. items-at d item c reads (begins_with_sign sign_is.Comma c.rest) (begins_with_sign sign_is.RightBrace (kinds_behind_first c.rest)) refl refl }

shallow : (at : ℕ) (ks k : Kinds) (x : InitialTree) → IsInitial 0 at x → SameUpTo at at (kind.Punctuator sign_is.LeftBrace ∷ ks) (initial_kinds x ++ k) → ⊥
shallow at ks k x is same =
    let b = brace-back 0 at at ks k x is same in
    let n = b.2.0.nests in omega arith

braced-parses : ReadsInner → (d : ℕ) (c : Cursor) → sign_at c.rest ≡ Some sign_is.LeftBrace → Outcome (initialiser_rule d) c (braced_by d c)
unfolding braced_by
braced-parses reads d c h = elim (cases_Bool (d == 0)) [
  | inl t ↦
      (let none : d ≡ 0 = grind arith in
      rw t (fails-here (initialiser_rule d) c (λ x k is ends same.
      shallow c.at (kinds_behind_first c.rest) k x (subst (λ (n : ℕ). IsInitial n c.at x) none is)
      (subst (λ (v : Kinds). SameUpTo c.at c.at v (initial_kinds x ++ k)) (sign-head c.rest sign_is.LeftBrace h) same))))
  | inr f ↦
      rw f (part (initialiser_rule d) (inner_expression 1 d) (λ x. items_end d) c (next_cursor c) (braced_tree c.at) ((deeper_than d).assignment (next_cursor c))
      (λ x. with_front (x.0 ∷ []) (all_of (item_step (deeper_than d).assignment) x.1) >>=
      (λ xs. end_of_list xs.1 >>= (λ b. Ok (s.Braced c.at (expr_list xs.0) b.0, b.1))))
      (λ at v y k v_is y_is ends. items-follow y k) (brace-leads d c h) (reads d (next_cursor c))
      (λ x to found l. list-behind (initialiser_rule d) (items_end d) (item_step (deeper_than d).assignment) c to
      (λ p. braced_tree c.at (x, p)) add_item end_of_list no_items (λ xs b. s.Braced c.at (expr_list xs) b) x
      (items-closing d (deeper_than d).assignment (λ k. reads d k)) l (λ xs b. ap (λ (p : ExprList × Bool). braced_tree c.at (x, p)) (put-items xs b))))
]

value-back : (d at last : ℕ) (ks k : Kinds) (x : InitialTree) → (sign_at ks ≡ Some sign_is.LeftBrace → ⊥) → IsInitial d at x → Separates sign_is.Semicolon k
    → SameUpTo last at ks (initial_kinds x ++ k)
    → (v : ExprTree) × (x ≡ s.Value v) × IsExpr 1 d at v × EndsAt 1 k
value-back d at last ks k (s.Value v) other is ends same = (
  v,
  refl,
  record {
    ranks = is.shaped.0;
    shaped = is.shaped.1;
    nests = is.nests;
    placed = is.placed;
  },
  separates-ends sign_is.Semicolon k refl ends,
)
value-back d at last ks k (s.Braced t items b) other is ends same = absurd (other (same-sign last at ks _ sign_is.LeftBrace same))

value-leads : (d : ℕ) (c : Cursor) → (sign_at c.rest ≡ Some sign_is.LeftBrace → ⊥) → Leads (initialiser_rule d) (expression 1 d) c c s.Value
value-leads d c other = leads-here (initialiser_rule d) (expression 1 d) c s.Value
    (λ v is. record { shaped = (is.ranks, is.shaped); nests = is.nests; placed = is.placed }) (λ v. refl)
    (λ x k last is ends le same. value-back d c.at last c.rest k x other is ends same)

pub initial-parses : ReadsAssignments → ReadsInner → (d : ℕ) (c : Cursor) → Outcome (initialiser_rule d) c (initial_by d c)
unfolding initial_by
initial-parses reads inside d c = elim (cases_Bool (begins_with_sign sign_is.LeftBrace c.rest)) [
  | inl t ↦ rw t (braced-parses inside d c (stands-sign sign_is.LeftBrace c.rest (omega arith) t))
  | inr f ↦ rw f (finish (initialiser_rule d) (expression 1 d) c c s.Value ((assignment_by d (deeper_than d)) c)
      (value-leads d c (λ h. let t = sign-stands sign_is.LeftBrace c.rest h in cc)) (reads d c))
]

-- `=` and an initialiser

equal-back : (d at last : ℕ) (ks k : Kinds) (o : Option InitialTree) → (initialiser_or_none d).Is at o → Separates sign_is.Semicolon k
    → SameUpTo last at (kind.Punctuator sign_is.Equal ∷ ks) ((initialiser_or_none d).spell o ++ k)
    → (x : InitialTree) × (o ≡ Some x) × IsInitial d (at + 1) x
equal-back d at last ks k (Some x) is ends same = (x, refl, is)
equal-back d at last ks k None is (comma h) same = absurd (let t = sign-same last at k ks sign_is.Equal same in
    let u : Some sign_is.Comma ≡ Some sign_is.Equal = sym h ∙ t in cc)
equal-back d at last ks k None is (closed h) same = absurd (let t = sign-same last at k ks sign_is.Equal same in
    let u : Some sign_is.Semicolon ≡ Some sign_is.Equal = sym h ∙ t in cc)

equal-leads : (d : ℕ) (c : Cursor) → sign_at c.rest ≡ Some sign_is.Equal → Leads (initialiser_or_none d) (initialiser_rule d) c (next_cursor c) Some
equal-leads d c h =
    let whole : c.rest ≡ kind.Punctuator sign_is.Equal ∷ kinds_behind_first c.rest = sign-head c.rest sign_is.Equal h in
    record {
      front = a_sign sign_is.Equal;
      whole = whole;
      moved = refl;
      build = λ x is. is;
      spelled = λ x. refl;
      back = λ o k last is ends le same.
          (let b = equal-back d c.at last (kinds_behind_first c.rest) k o is ends (subst (λ (v : Kinds). SameUpTo last c.at v ((initialiser_or_none d).spell o ++ k)) whole same) in
          (b.0, b.1, b.2, ends));
    }

none-back : (d at last : ℕ) (ks k : Kinds) (o : Option InitialTree) → (sign_at ks ≡ Some sign_is.Equal → ⊥) → SameUpTo last at ks ((initialiser_or_none d).spell o ++ k)
    → o ≡ None
none-back d at last ks k None other same = refl
none-back d at last ks k (Some x) other same = absurd (other (same-sign last at ks _ sign_is.Equal same))

none-found : (d : ℕ) (c : Cursor) → (sign_at c.rest ≡ Some sign_is.Equal → ⊥) → Found (initialiser_or_none d) c None c
none-found d c other = record {
  is = tt;
  spelled = refl;
  moved = (let e : c.at ≡ c.at + length {A = TokenKind} [] = omega arith in e);
  only = λ o k last is ends le same. none-back d c.at last c.rest k o other same;
}

pub initialised-parses : ReadsAssignments → ReadsInner → (d : ℕ) (c : Cursor) → Outcome (initialiser_or_none d) c (initialised_by d c)
unfolding initialised_by
initialised-parses reads inside d c = elim (cases_Bool (begins_with_sign sign_is.Equal c.rest)) [
  | inl t ↦ rw t (finish (initialiser_or_none d) (initialiser_rule d) c (next_cursor c) Some (initial_by d (next_cursor c))
      (equal-leads d c (stands-sign sign_is.Equal c.rest (omega arith) t)) (initial-parses reads inside d (next_cursor c)))
  | inr f ↦ rw f (none-found d c (λ h. let t = sign-stands sign_is.Equal c.rest h in cc))
]
