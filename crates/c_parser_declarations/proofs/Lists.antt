-- Lists that own what closes them: parts for as long as one begins, and then the end.
use Rattle.std.proofs.Common.{◌≡◌, ℕ, zero, suc, ◌+◌, ◌<◌, ◌≤◌, cond, inl, inr, List, [], ◌∷◌, ◌++◌, length, Some, None, Ok, Err, refl, sym, ap, ◌∙◌, subst, append_assoc, arith}
use Rattle.std.proofs.lemmas.Bool.{cases_Bool}
use Rattle.std.specs.Prelude.{flat_map}
use Rattle.c_parser_expressions.proofs.Primary.{behind-shorter}
use Rattle.c_syntax.specs.declared.token.Sign.{Sign}
use Rattle.c_syntax.specs.declared.token.Sign.TheVariants as sign_is
use Rattle.c_syntax.specs.declared.token.TokenKind.TheVariants as kind
use Rattle.c_syntax.specs.Spelling.{Kinds, a_sign, after_commas}
use Rattle.c_parser_expressions.specs.Reading.{Cursor, SameUpTo, Rule, Found, Fails, Read, Outcome, sequence_rule, sign_rule, sign_at, next_cursor}
use Rattle.c_parser_expressions.specs.Marks.{sign_mark, begins_with_sign}
use Rattle.c_parser_declarations.specs.Lists.{Separates, comma, closed, EachBehindComma, parts_behind_commas, EachInTurn, parts_in_turn}
use Rattle.c_parser_expressions.specs.Steps.{◌>>=◌, Step, with_front, parts_within_turns, parts_from_step, all_of, Advances, the_sign}
use Rattle.c_parser_expressions.proofs.Heads.{sign-head, same-sign, stands-sign, sign-stands}
use Rattle.c_parser_expressions.proofs.Laws.{Leads, leads-here, leads-found, leads-fails, leads-trans, seq-leads, seq-fails, finish, found-shorter, found-takes}
use Rattle.c_parser_expressions.proofs.Many.{put}
use Rattle.c_parser_expressions.proofs.Tokens.{sign-parses}

-- What a step does to a list of the rule: it goes on to the end, refuses, or leads on behind a token at least.
abbrev pub ClosingIs : {A L : Type 0} → Rule L → (A → L → L) → (Cursor → Read L) → Cursor → Step A → Type 0
ClosingIs R add end c None = Outcome R c (end c)
ClosingIs R add end c (Some (Err i)) = Fails R c i
ClosingIs R add end c (Some (Ok p)) = Leads R R c p.1 (add p.0) × (length p.1.rest < length c.rest)

pub record Closing {A L : Type 0} (R : Rule L) (step : Cursor → Step A) (add : A → L → L) (end : Cursor → Read L) : Type 0 where
  pub is : (c : Cursor) → ClosingIs R add end c (step c)

pub closing-advances : {A L : Type 0} (R : Rule L) (step : Cursor → Step A) (add : A → L → L) (end : Cursor → Read L) → Closing R step add end → Advances step
closing-advances {A} R step add end list = record { less = λ c x to h. (subst (λ (s : Step A). ClosingIs R add end c s) h (list.is c)).1 }

abbrev pub put_before : {A L : Type 0} → (A → L → L) → List A → Read L → Read L
put_before add xs (Ok q) = Ok (put add xs q.0, q.1)
put_before add xs (Err i) = Err i

-- what is read of a list, and what is read behind it
abbrev pub put_closed : {A L : Type 0} → (A → L → L) → (Cursor → Read L) → Read (List A) → Read L
put_closed add end (Ok p) = put_before add p.0 (end p.1)
put_closed add end (Err i) = Err i

none-first : {A L : Type 0} (R : Rule L) (add : A → L → L) (c : Cursor) (r : Read L) → Outcome R c r → Outcome R c (put_before add [] r)
none-first R add c (Ok q) o = o
none-first R add c (Err i) o = o

one-first : {A L : Type 0} (R : Rule L) (add : A → L → L) (c to : Cursor) (x : A) (xs : List A) (r : Read L) → Leads R R c to (add x)
    → Outcome R to (put_before add xs r) → Outcome R c (put_before add (x ∷ xs) r)
one-first R add c to x xs (Ok q) l o = leads-found R R c to q.1 (add x) (put add xs q.0) l o
one-first R add c to x xs (Err i) l o = leads-fails R R c to (add x) i l o

more-first : {A L : Type 0} (R : Rule L) (add : A → L → L) (end : Cursor → Read L) (c to : Cursor) (x : A) (r : Read (List A)) → Leads R R c to (add x)
    → Outcome R to (put_closed add end r) → Outcome R c (put_closed add end (with_front (x ∷ []) r))
more-first R add end c to x (Ok p) l o = one-first R add c to x p.0 (end p.1) l o
more-first R add end c to x (Err i) l o = leads-fails R R c to (add x) i l o

many-closed : {A L : Type 0} (R : Rule L) (step : Cursor → Step A) (add : A → L → L) (end : Cursor → Read L) → Closing R step add end
    → (n : ℕ) (c : Cursor) → length c.rest < n → Outcome R c (put_closed add end (parts_within_turns n step c))
unfolding parts_within_turns
many-closed R step add end list zero c less = absurd (omega arith)
many-closed {A} R step add end list (suc n) c less =
    let go : (r : Step A) → ClosingIs R add end c r → Outcome R c (put_closed add end (parts_from_step (parts_within_turns n step) c r)) =
    λ r. elim r as (λ v. ClosingIs R add end c v → Outcome R c (put_closed add end (parts_from_step (parts_within_turns n step) c v))) [
      | None ↦ λ h. none-first R add c (end c) h
      | Some q ↦ elim q as (λ w. ClosingIs R add end c (Some w) → Outcome R c (put_closed add end (parts_from_step (parts_within_turns n step) c (Some w)))) [
        | Err i ↦ λ h. h
        | Ok p ↦ λ h. (let fewer : length p.1.rest < length c.rest = h.1 in
            more-first R add end c p.1 p.0 (parts_within_turns n step p.1) h.0 (many-closed R step add end list n p.1 (omega arith)))
      ]
    ] in
    go (step c) (list.is c)

pub list-closed : {A L : Type 0} (R : Rule L) (step : Cursor → Step A) (add : A → L → L) (end : Cursor → Read L) → Closing R step add end → (c : Cursor)
    → Outcome R c (put_closed add end (all_of step c))
unfolding all_of
list-closed R step add end list c = many-closed R step add end list (length c.rest + 1) c (omega arith)

-- the same where the part is the item itself
pub close-item : {A L : Type 0} (R : Rule L) (P : Rule A) (c d : Cursor) (add : A → L → L) (end : Cursor → Read L) (r : Read A)
    → ((at : ℕ) (v : A) (y : L) (k : Kinds) → P.Is at v → R.Is (at + length (P.spell v)) y → R.Ends y k → P.Ends v (R.spell y ++ k))
    → Leads R (sequence_rule P (λ x. R)) c d (λ p. add p.0 p.1) → length d.rest < length c.rest → Outcome P d r
    → ClosingIs R add end c (Some r)
close-item R P c d add end (Ok p) follows l less o = (
  leads-trans R (sequence_rule P (λ x. R)) R c d p.1 (λ q. add q.0 q.1) (λ y. (p.0, y)) l (seq-leads P (λ x. R) d p.1 p.0 follows o),
  (let le = found-shorter P d p.1 p.0 o in omega arith),
)
close-item R P c d add end (Err i) follows l less o = leads-fails R (sequence_rule P (λ x. R)) c d (λ q. add q.0 q.1) i l (seq-fails P (λ x. R) d i follows o)

-- what is read of a list and behind it, made into something else
pub closed-finish : {A E L X : Type 0} (R : Rule X) (T : Rule L) (c mid : Cursor) (join : L → X) (add : A → L → L) (end : Cursor → Read E) (last : E → L)
    (make : List A → E → X) (r : Read (List A))
    → Leads R T c mid join → ((xs : List A) (e : E) → join (put add xs (last e)) ≡ make xs e)
    → Outcome T mid (put_closed add (λ k. end k >>= (λ q. Ok (last q.0, q.1))) r) → Outcome R c (r >>= (λ p. end p.1 >>= (λ q. Ok (make p.0 q.0, q.1))))
closed-finish {A} {E} {L} {X} R T c mid join add end last make (Ok p) l made o =
    let go : (v : Read E) → Outcome T mid (put_before add p.0 (v >>= (λ q. Ok (last q.0, q.1)))) → Outcome R c (v >>= (λ q. Ok (make p.0 q.0, q.1))) =
    λ v. elim v as (λ w. Outcome T mid (put_before add p.0 (w >>= (λ q. Ok (last q.0, q.1)))) → Outcome R c (w >>= (λ q. Ok (make p.0 q.0, q.1)))) [
      | Ok q ↦ λ h. subst (λ (x : X). Found R c x q.1) (made p.0 q.0) (leads-found R T c mid q.1 join (put add p.0 (last q.0)) l h)
      | Err i ↦ λ h. leads-fails R T c mid join i l h
    ] in
    go (end p.1) o
closed-finish R T c mid join add end last make (Err i) l made o = leads-fails R T c mid join i l o

pub list-finish : {A E L X : Type 0} (R : Rule X) (T : Rule L) (step : Cursor → Step A) (c mid : Cursor) (join : L → X) (add : A → L → L) (end : Cursor
    → Read E) (last : E → L) (make : List A → E → X)
    → Closing T step add (λ k. end k >>= (λ q. Ok (last q.0, q.1))) → Leads R T c mid join → ((xs : List A) (e : E) → join (put add xs (last e)) ≡ make xs e)
    → Outcome R c (all_of step mid >>= (λ p. end p.1 >>= (λ q. Ok (make p.0 q.0, q.1))))
list-finish R T step c mid join add end last make list l made =
    closed-finish R T c mid join add end last make (all_of step mid) l made (list-closed T step add (λ k. end k >>= (λ q. Ok (last q.0, q.1))) list mid)

front-bind : {A X : Type 0} (x : A) (r : Read (List A)) (f : List A × Cursor → Read X)
    → ◌≡◌ {A = Read X} (◌>>=◌ {A = List A × Cursor} {B = X × Cursor} (with_front (x ∷ []) r) f)
    (◌>>=◌ {A = List A × Cursor} {B = X × Cursor} r (λ p. f (x ∷ p.0, p.1)))
front-bind x (Ok p) f = refl
front-bind x (Err i) f = refl

-- the same behind a first part that was read
pub list-behind : {A E L X : Type 0} (R : Rule X) (T : Rule L) (step : Cursor → Step A) (c mid : Cursor) (join : L → X) (add : A → L → L) (end : Cursor
    → Read E) (last : E → L) (make : List A → E → X) (x : A)
    → Closing T step add (λ k. end k >>= (λ q. Ok (last q.0, q.1))) → Leads R T c mid join
    → ((xs : List A) (e : E) → join (put add xs (last e)) ≡ make (x ∷ xs) e)
    → Outcome R c (with_front (x ∷ []) (all_of step mid) >>= (λ p. end p.1 >>= (λ q. Ok (make p.0 q.0, q.1))))
list-behind {A} {E} {L} {X} R T step c mid join add end last make x list l made =
    subst (λ (r : Read X). Outcome R c r) (sym (front-bind x (all_of step mid) (λ p. end p.1 >>= (λ q. Ok (make p.0 q.0, q.1)))))
    (list-finish R T step c mid join add end last (λ xs e. make (x ∷ xs) e) list l made)

pub put-list : {A : Type 0} (xs : List A) → put (λ x ys. x ∷ ys) xs [] ≡ xs
put-list [] = refl
put-list (x ∷ xs) = ap (λ ys. x ∷ ys) (put-list xs)

-- Parts with a comma before each, and a sign behind them.

comma-back : {A : Type 0} (P : Rule A) (s : Sign) (c : Cursor) (k : Kinds) (last : ℕ) (xs : List A) → sign_at c.rest ≡ Some sign_is.Comma
    → (s ≡ sign_is.Comma → ⊥)
    → EachBehindComma P c.at xs → SameUpTo last c.at c.rest ((after_commas P.spell xs ++ a_sign s) ++ k)
    → (p : A × List A) × (xs ≡ p.0 ∷ p.1) × P.Is (c.at + 1) p.0 × EachBehindComma P (c.at + 1 + length (P.spell p.0)) p.1
comma-back P s c k last [] h other is same =
    absurd (let e : Some sign_is.Comma ≡ Some s = sym h ∙ same-sign last c.at c.rest k s same in other (sym (let f : sign_is.Comma ≡ s = cc in f)))
comma-back P s c k last (x ∷ xs) h other is same = ((x, xs), refl, is.0, is.1)

comma-leads : {A : Type 0} (P : Rule A) (s : Sign) (c : Cursor) → sign_at c.rest ≡ Some sign_is.Comma → (s ≡ sign_is.Comma → ⊥)
    → Leads (parts_behind_commas P s) (sequence_rule P (λ x. parts_behind_commas P s)) c (next_cursor c) (λ p. p.0 ∷ p.1)
comma-leads P s c h other = record {
  front = a_sign sign_is.Comma;
  whole = sign-head c.rest sign_is.Comma h;
  moved = refl;
  build = λ p is. (is.0, is.1);
  spelled = λ p. ap (λ (v : Kinds). kind.Punctuator sign_is.Comma ∷ v) (append_assoc (P.spell p.0) (after_commas P.spell p.1) (a_sign s));
  back = λ xs k last is ends le same. (let b = comma-back P s c k last xs h other is same in (b.0, b.1, (b.2, b.3), ends));
}

close-back : {A : Type 0} (P : Rule A) (s : Sign) (c : Cursor) (k : Kinds) (last : ℕ) (xs : List A) → (sign_at c.rest ≡ Some sign_is.Comma → ⊥)
    → SameUpTo last c.at c.rest ((after_commas P.spell xs ++ a_sign s) ++ k) → xs ≡ []
close-back P s c k last [] other same = refl
close-back P s c k last (x ∷ xs) other same = absurd (other (same-sign last c.at c.rest _ sign_is.Comma same))

close-leads : {A : Type 0} (P : Rule A) (s : Sign) (c : Cursor) → (sign_at c.rest ≡ Some sign_is.Comma → ⊥) → Leads (parts_behind_commas P s) (sign_rule s) c c (λ u. [])
close-leads P s c other = leads-here (parts_behind_commas P s) (sign_rule s) c (λ u. []) (λ u is. tt) (λ u. refl)
    (λ xs k last is ends le same. (tt, close-back P s c k last xs other same, tt, record {}))

pub commas-follow : {A : Type 0} (P : Rule A) (s : Sign) (xs : List A) (k : Kinds) → Separates s ((after_commas P.spell xs ++ a_sign s) ++ k)
commas-follow P s [] k = closed refl
commas-follow P s (x ∷ xs) k = comma refl

pub commas-closing : {A : Type 0} (P : Rule A) (s : Sign) (item : Cursor → Read A) (step : Cursor → Step A) → 1 ≤ sign_mark s → (s ≡ sign_is.Comma → ⊥)
    → ((at : ℕ) (v : A) (k : Kinds) → P.Is at v → Separates s k → P.Ends v k)
    → ((c : Cursor) → step c ≡ cond (begins_with_sign sign_is.Comma c.rest) (Some (item (next_cursor c))) None)
    → ((c : Cursor) → Outcome P c (item c))
    → Closing (parts_behind_commas P s) step (λ x xs. x ∷ xs) (λ k. the_sign s k >>= (λ q. Ok ([], q.1)))
commas-closing {A} P s item step marked other follows is parses = record {
  is = λ c. elim (cases_Bool (begins_with_sign sign_is.Comma c.rest)) [
    | inl t ↦
        (let at_s : sign_at c.rest ≡ Some sign_is.Comma = stands-sign sign_is.Comma c.rest (omega arith) t in
        let e : step c ≡ Some (item (next_cursor c)) = is c ∙ ap (λ b. cond b (Some (item (next_cursor c))) None) t in
        subst (λ (v : Step A). ClosingIs (parts_behind_commas P s) (λ x xs. x ∷ xs) (λ k. the_sign s k >>= (λ q. Ok ([], q.1))) c v) (sym e)
        (close-item (parts_behind_commas P s) P c (next_cursor c) (λ x xs. x ∷ xs) (λ k. the_sign s k >>= (λ q. Ok ([], q.1))) (item (next_cursor c))
        (λ at v y k v_is y_is ends. follows at v _ v_is (commas-follow P s y k)) (comma-leads P s c at_s other) (behind-shorter c.rest sign_is.Comma at_s)
        (parses (next_cursor c))))
    | inr f ↦
        (let e : step c ≡ None = is c ∙ ap (λ b. cond b (Some (item (next_cursor c))) None) f in
        subst (λ (v : Step A). ClosingIs (parts_behind_commas P s) (λ x xs. x ∷ xs) (λ k. the_sign s k >>= (λ q. Ok ([], q.1))) c v) (sym e)
        (finish (parts_behind_commas P s) (sign_rule s) c c (λ u. []) (the_sign s c) (close-leads P s c (λ h. let t = sign-stands sign_is.Comma c.rest h in cc))
        (sign-parses s c marked)))
  ];
}

-- Parts one behind another, and a sign behind them.

turn-back : {A : Type 0} (P : Rule A) (s : Sign) (c : Cursor) (k : Kinds) (last : ℕ) (xs : List A) → (sign_at c.rest ≡ Some s → ⊥)
    → EachInTurn P c.at xs → SameUpTo last c.at c.rest ((flat_map P.spell xs ++ a_sign s) ++ k)
    → (p : A × List A) × (xs ≡ p.0 ∷ p.1) × P.Is c.at p.0 × EachInTurn P (c.at + length (P.spell p.0)) p.1
turn-back P s c k last [] other is same = absurd (other (same-sign last c.at c.rest k s same))
turn-back P s c k last (x ∷ xs) other is same = ((x, xs), refl, is.0, is.1)

turn-leads : {A : Type 0} (P : Rule A) (s : Sign) (c : Cursor) → (sign_at c.rest ≡ Some s → ⊥) → Leads (parts_in_turn P s) (sequence_rule P (λ x. parts_in_turn P s)) c c (λ p. p.0 ∷ p.1)
turn-leads P s c other = leads-here (parts_in_turn P s) (sequence_rule P (λ x. parts_in_turn P s)) c (λ p. p.0 ∷ p.1) (λ p is. (is.0, is.1))
    (λ p. append_assoc (P.spell p.0) (flat_map P.spell p.1) (a_sign s))
    (λ xs k last is ends le same. (let b = turn-back P s c k last xs other is same in (b.0, b.1, (b.2, b.3), ends)))

end-back : {A : Type 0} (P : Rule A) (s : Sign) (c : Cursor) (k : Kinds) (last : ℕ) (xs : List A) → sign_at c.rest ≡ Some s
    → ((last at : ℕ) (ks : Kinds) (x : A) (k : Kinds) → P.Is at x → sign_at ks ≡ Some s → SameUpTo last at ks (P.spell x ++ k) → ⊥)
    → EachInTurn P c.at xs → SameUpTo last c.at c.rest ((flat_map P.spell xs ++ a_sign s) ++ k) → xs ≡ []
end-back P s c k last [] h begins is same = refl
end-back P s c k last (x ∷ xs) h begins is same =
    absurd (begins last c.at c.rest x ((flat_map P.spell xs ++ a_sign s) ++ k) is.0 h
    (subst (λ (v : Kinds). SameUpTo last c.at c.rest v) (ap (λ (v : Kinds). v ++ k) (append_assoc (P.spell x) (flat_map P.spell xs) (a_sign s))
    ∙ append_assoc (P.spell x) (flat_map P.spell xs ++ a_sign s) k) same))

turn-item : {A : Type 0} (P : Rule A) (s : Sign) (c : Cursor) (r : Read A) → ((v : A) (k : Kinds) → P.Ends v k)
    → ((at : ℕ) (v : A) → P.Is at v → 1 ≤ length (P.spell v))
    → Leads (parts_in_turn P s) (sequence_rule P (λ x. parts_in_turn P s)) c c (λ p. p.0 ∷ p.1) → Outcome P c r
    → ClosingIs (parts_in_turn P s) (λ x xs. x ∷ xs) (λ k. the_sign s k >>= (λ q. Ok ([], q.1))) c (Some r)
turn-item P s c (Ok p) follows some l o = (
  leads-trans (parts_in_turn P s) (sequence_rule P (λ x. parts_in_turn P s)) (parts_in_turn P s) c c p.1 (λ q. q.0 ∷ q.1) (λ y. (p.0, y)) l
      (seq-leads P (λ x. parts_in_turn P s) c p.1 p.0 (λ at v y k v_is y_is ends. follows v _) o),
  found-takes P c p.1 p.0 (some c.at p.0 o.is) o,
)
turn-item P s c (Err i) follows some l o = leads-fails (parts_in_turn P s) (sequence_rule P (λ x. parts_in_turn P s)) c c (λ q. q.0 ∷ q.1) i l
    (seq-fails P (λ x. parts_in_turn P s) c i (λ at v y k v_is y_is ends. follows v _) o)

pub runs-closing : {A : Type 0} (P : Rule A) (s : Sign) (item : Cursor → Read A) (step : Cursor → Step A) → 1 ≤ sign_mark s
    → ((v : A) (k : Kinds) → P.Ends v k) → ((at : ℕ) (v : A) → P.Is at v → 1 ≤ length (P.spell v))
    → ((last at : ℕ) (ks : Kinds) (x : A) (k : Kinds) → P.Is at x → sign_at ks ≡ Some s → SameUpTo last at ks (P.spell x ++ k) → ⊥)
    → ((c : Cursor) → step c ≡ cond (begins_with_sign s c.rest) None (Some (item c)))
    → ((c : Cursor) → Outcome P c (item c))
    → Closing (parts_in_turn P s) step (λ x xs. x ∷ xs) (λ k. the_sign s k >>= (λ q. Ok ([], q.1)))
runs-closing {A} P s item step marked follows some begins is parses = record {
  is = λ c. elim (cases_Bool (begins_with_sign s c.rest)) [
    | inl t ↦
        (let at_s : sign_at c.rest ≡ Some s = stands-sign s c.rest marked t in
        let e : step c ≡ None = is c ∙ ap (λ b. cond b None (Some (item c))) t in
        subst (λ (v : Step A). ClosingIs (parts_in_turn P s) (λ x xs. x ∷ xs) (λ k. the_sign s k >>= (λ q. Ok ([], q.1))) c v) (sym e)
        (finish (parts_in_turn P s) (sign_rule s) c c (λ u. []) (the_sign s c)
        (leads-here (parts_in_turn P s) (sign_rule s) c (λ u. []) (λ u is. tt) (λ u. refl)
        (λ xs k last x_is ends le same. (tt, end-back P s c k last xs at_s begins x_is same, tt, record {}))) (sign-parses s c marked)))
    | inr f ↦
        (let e : step c ≡ Some (item c) = is c ∙ ap (λ b. cond b None (Some (item c))) f in
        let leads = turn-leads P s c (λ h. let t = sign-stands s c.rest h in cc) in
        subst (λ (v : Step A). ClosingIs (parts_in_turn P s) (λ x xs. x ∷ xs) (λ k. the_sign s k >>= (λ q. Ok ([], q.1))) c v) (sym e)
        (turn-item P s c (item c) follows some leads (parses c)))
  ];
}
