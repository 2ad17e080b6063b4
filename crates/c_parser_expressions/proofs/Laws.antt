-- Laws of rules, whatever the grammar.
use Rattle.std.proofs.Common.{◌≡◌, ℕ, ◌+◌, ◌≤◌, ◌<◌, [], ◌∷◌, ◌++◌, length, Ok, Err, refl, sym, ap, ◌∙◌, subst, append_assoc}
use Rattle.std.proofs.Common.{length-append, arith}
use Rattle.c_syntax.specs.declared.token.TokenKind.{TokenKind}
use Rattle.c_syntax.specs.Spelling.{Kinds}
use Rattle.c_parser_expressions.specs.Reading.{Cursor, SameUpTo, Rule, Found, Fails, Read, Outcome, sequence_rule}
use Rattle.c_parser_expressions.specs.Steps.{◌>>=◌}

-- behind an equal front the rests are the same too
pub same-rest : (last at : ℕ) (a b c : Kinds) → at + length a ≤ last → SameUpTo last at (a ++ b) (a ++ c) → SameUpTo last (at + length a) b c
same-rest last at [] b c le same = subst (λ (n : ℕ). SameUpTo last n b c) (let e : at ≡ at + length {A = TokenKind} [] = omega arith in e) same
same-rest last at (x ∷ xs) b c le same =
    let below : at < last = omega arith in
    let e : at + 1 + length xs ≡ at + length (x ∷ xs) = omega arith in
    subst (λ (n : ℕ). SameUpTo last n b c) e (same-rest last (at + 1) xs b c (omega arith) (same.1 below))

-- the same up to an index is the same up to an earlier one
pub same-less : (last less at : ℕ) (a b : Kinds) → less ≤ last → SameUpTo last at a b → SameUpTo less at a b
same-less last less at [] [] le same = tt
same-less last less at [] (y ∷ ys) le same = same
same-less last less at (x ∷ xs) [] le same = same
same-less last less at (x ∷ xs) (y ∷ ys) le same = (same.0, λ below. same-less last less (at + 1) xs ys le (same.1 (omega arith)))

pub same-all : (last at : ℕ) (a : Kinds) → SameUpTo last at a a
same-all last at [] = tt
same-all last at (x ∷ xs) = (refl, λ below. same-all last (at + 1) xs)

-- R is read at c where S is read at d: both begin with the same tokens
pub record Leads {A B : Type 0} (R : Rule A) (S : Rule B) (c d : Cursor) (wrap : B → A) : Type 0 where
  pub front : Kinds
  pub whole : c.rest ≡ front ++ d.rest
  pub moved : d.at ≡ c.at + length front
  pub build : (y : B) → S.Is d.at y → R.Is c.at (wrap y)
  pub spelled : (y : B) → R.spell (wrap y) ≡ front ++ S.spell y
  pub back : (x : A) (k : Kinds) (last : ℕ) → R.Is c.at x → R.Ends x k → d.at ≤ last → SameUpTo last c.at c.rest (R.spell x ++ k)
      → (y : B) × (x ≡ wrap y) × S.Is d.at y × S.Ends y k

leads-same : {A B : Type 0} (R : Rule A) (S : Rule B) (c d : Cursor) (wrap : B → A) → (l : Leads R S c d wrap) → (y : B) (k : Kinds) (last : ℕ) → d.at ≤ last
    → SameUpTo last c.at c.rest (R.spell (wrap y) ++ k) → SameUpTo last d.at d.rest (S.spell y ++ k)
leads-same R S c d wrap l y k last le same =
    let e : R.spell (wrap y) ++ k ≡ l.front ++ (S.spell y ++ k) = ap (λ (s : Kinds). s ++ k) (l.spelled y) ∙ append_assoc l.front (S.spell y) k in
    let s1 : SameUpTo last c.at (l.front ++ d.rest) (R.spell (wrap y) ++ k) = subst (λ (t : Kinds). SameUpTo last c.at t (R.spell (wrap y) ++ k)) l.whole same in
    let s2 : SameUpTo last c.at (l.front ++ d.rest) (l.front ++ (S.spell y ++ k)) = subst (λ (t : Kinds). SameUpTo last c.at (l.front ++ d.rest) t) e s1 in
    let moved = l.moved in
    subst (λ (n : ℕ). SameUpTo last n d.rest (S.spell y ++ k)) (sym l.moved) (same-rest last c.at l.front d.rest (S.spell y ++ k) (omega arith) s2)

pub leads-found : {A B : Type 0} (R : Rule A) (S : Rule B) (c d to : Cursor) (wrap : B → A) (y : B) → Leads R S c d wrap → Found S d y to
    → Found R c (wrap y) to
leads-found R S c d to wrap y l f =
    let moved = f.moved in
    let moved1 = l.moved in
    record {
      is = l.build y f.is;
      spelled =
          l.whole ∙ ap (λ (t : Kinds). l.front ++ t) f.spelled ∙ sym (append_assoc l.front (S.spell y) to.rest) ∙ ap (λ (t : Kinds). t ++ to.rest)
          (sym (l.spelled y));
      moved =
          (let e : length (R.spell (wrap y)) ≡ length l.front + length (S.spell y) = ap length (l.spelled y) ∙ length-append l.front
          (S.spell y) in omega arith);
      only = λ x k last is ends le same.
          (let le2 : d.at ≤ last = omega arith in
          let b : (z : _) × (x ≡ wrap z) × S.Is d.at z × S.Ends z k = l.back x k last is ends le2 same in
          let s : SameUpTo last c.at c.rest (R.spell (wrap b.0) ++ k) = subst (λ (v : _). SameUpTo last c.at c.rest (R.spell v ++ k)) b.1 same in
          b.1 ∙ ap wrap (f.only b.0 k last b.2 b.3 le (leads-same R S c d wrap l b.0 k last le2 s)));
    }

pub leads-fails : {A B : Type 0} (R : Rule A) (S : Rule B) (c d : Cursor) (wrap : B → A) (last : ℕ) → Leads R S c d wrap → Fails S d last → Fails R c last
leads-fails R S c d wrap last l f =
    let from = f.from in
    let within = f.within in
    let moved = l.moved in
    let long : length c.rest ≡ length l.front + length d.rest = ap length l.whole ∙ length-append l.front d.rest in
    record {
      from = omega arith;
      within = omega arith;
      none = λ x k is ends same.
          (let b : (z : _) × (x ≡ wrap z) × S.Is d.at z × S.Ends z k = l.back x k last is ends f.from same in
          let s : SameUpTo last c.at c.rest (R.spell (wrap b.0) ++ k) = subst (λ (v : _). SameUpTo last c.at c.rest (R.spell v ++ k)) b.1 same in
          f.none b.0 k b.2 b.3 (leads-same R S c d wrap l b.0 k last f.from s));
    }

-- after a part of P that was read, what is left of the two is a part of Q
pub seq-leads : {A B : Type 0} (P : Rule A) (Q : A → Rule B) (c mid : Cursor) (x : A)
    → ((at : ℕ) (v : A) (y : B) (k : Kinds) → P.Is at v → (Q v).Is (at + length (P.spell v)) y → (Q v).Ends y k → P.Ends v ((Q v).spell y ++ k))
    → Found P c x mid → Leads (sequence_rule P Q) (Q x) c mid (λ y. (x, y))
seq-leads P Q c mid x follows f =
    let moved = f.moved in
    record {
      front = P.spell x;
      whole = f.spelled;
      moved = f.moved;
      build = λ y is. (f.is, subst (λ (n : ℕ). (Q x).Is n y) f.moved is);
      spelled = λ y. refl;
      back = λ p k last is ends le same.
          (let s : SameUpTo last c.at c.rest (P.spell p.0 ++ ((Q p.0).spell p.1 ++ k)) = subst (λ (t : Kinds). SameUpTo last c.at c.rest t)
          (append_assoc (P.spell p.0) ((Q p.0).spell p.1) k) same in
          let e : p.0 ≡ x = f.only p.0 ((Q p.0).spell p.1 ++ k) last is.0 (follows _ p.0 p.1 k is.0 is.1 ends) le s in
          let at : c.at + length (P.spell p.0) ≡ mid.at = ap (λ (v : _). c.at + length (P.spell v)) e ∙ sym f.moved in
          let is1 : (Q p.0).Is mid.at p.1 = subst (λ (n : ℕ). (Q p.0).Is n p.1) at is.1 in
          (p.1, ap (λ (v : _). (v, p.1)) e, subst (λ (v : _). (Q v).Is mid.at p.1) e is1, subst (λ (v : _). (Q v).Ends p.1 k) e ends));
    }

pub seq-fails : {A B : Type 0} (P : Rule A) (Q : A → Rule B) (c : Cursor) (last : ℕ)
    → ((at : ℕ) (v : A) (y : B) (k : Kinds) → P.Is at v → (Q v).Is (at + length (P.spell v)) y → (Q v).Ends y k → P.Ends v ((Q v).spell y ++ k))
    → Fails P c last → Fails (sequence_rule P Q) c last
seq-fails P Q c last follows f = record {
  from = f.from;
  within = f.within;
  none = λ p k is ends same.
      (let s : SameUpTo last c.at c.rest (P.spell p.0 ++ ((Q p.0).spell p.1 ++ k)) = subst (λ (t : Kinds). SameUpTo last c.at c.rest t)
      (append_assoc (P.spell p.0) ((Q p.0).spell p.1) k) same in
      f.none p.0 ((Q p.0).spell p.1 ++ k) is.0 (follows _ p.0 p.1 k is.0 is.1 ends) s);
}

pub leads-trans : {A B C : Type 0} (R : Rule A) (S : Rule B) (T : Rule C) (c d to : Cursor) (f : B → A) (g : C → B) → Leads R S c d f → Leads S T d to g
    → Leads R T c to (λ z. f (g z))
leads-trans R S T c d to f g l m =
    let moved1 = l.moved in
    let moved2 = m.moved in
    record {
      front = l.front ++ m.front;
      whole = l.whole ∙ ap (λ (t : Kinds). l.front ++ t) m.whole ∙ sym (append_assoc l.front m.front to.rest);
      moved = omega (arith, length-append l.front m.front);
      build = λ z is. l.build (g z) (m.build z is);
      spelled = λ z. l.spelled (g z) ∙ ap (λ (t : Kinds). l.front ++ t) (m.spelled z) ∙ sym (append_assoc l.front m.front (T.spell z));
      back = λ x k last is ends le same.
          (let le1 : d.at ≤ last = omega arith in
          let b : (y : _) × (x ≡ f y) × S.Is d.at y × S.Ends y k = l.back x k last is ends le1 same in
          let s : SameUpTo last c.at c.rest (R.spell (f b.0) ++ k) = subst (λ (v : _). SameUpTo last c.at c.rest (R.spell v ++ k)) b.1 same in
          let b2 : (z : _) × (b.0 ≡ g z) × T.Is to.at z × T.Ends z k = m.back b.0 k last b.2 b.3 le (leads-same R S c d f l b.0 k last le1 s) in
          (b2.0, b.1 ∙ ap f b2.1, b2.2, b2.3));
    }

pub leads-wrap : {A B : Type 0} (R : Rule A) (S : Rule B) (c d : Cursor) (f g : B → A) → ((y : B) → f y ≡ g y) → Leads R S c d f → Leads R S c d g
leads-wrap R S c d f g e l = record {
  front = l.front;
  whole = l.whole;
  moved = l.moved;
  build = λ y is. subst (λ (v : _). R.Is c.at v) (e y) (l.build y is);
  spelled = λ y. ap (λ (v : _). R.spell v) (sym (e y)) ∙ l.spelled y;
  back = λ x k last is ends le same.
      (let b : (y : _) × (x ≡ f y) × S.Is d.at y × S.Ends y k = l.back x k last is ends le same in
      (b.0, b.1 ∙ e b.0, b.2, b.3));
}

-- one rule for another at the same place
pub leads-here : {A B : Type 0} (R : Rule A) (S : Rule B) (c : Cursor) (wrap : B → A)
    → ((y : B) → S.Is c.at y → R.Is c.at (wrap y))
    → ((y : B) → R.spell (wrap y) ≡ S.spell y)
    → ((x : A) (k : Kinds) (last : ℕ) → R.Is c.at x → R.Ends x k → c.at ≤ last → SameUpTo last c.at c.rest (R.spell x ++ k)
    → (y : B) × (x ≡ wrap y) × S.Is c.at y × S.Ends y k)
    → Leads R S c c wrap
leads-here R S c wrap build spelled back = record {
  front = [];
  whole = refl;
  moved = (let e : c.at ≡ c.at + length {A = TokenKind} [] = omega arith in e);
  build = build;
  spelled = spelled;
  back = back;
}

pub leads-none : {A : Type 0} (R : Rule A) (c : Cursor) → Leads R R c c (λ y. y)
leads-none R c = leads-here R R c (λ y. y) (λ y is. is) (λ y. refl) (λ x k last is ends le same. (x, refl, is, ends))

-- what was read isn't longer than what there was
pub found-shorter : {A : Type 0} (R : Rule A) (c to : Cursor) (x : A) → Found R c x to → length to.rest ≤ length c.rest
found-shorter R c to x f =
    let e : length c.rest ≡ length (R.spell x) + length to.rest = ap length f.spelled ∙ length-append (R.spell x) to.rest in
    omega arith

pub found-takes : {A : Type 0} (R : Rule A) (c to : Cursor) (x : A) → 1 ≤ length (R.spell x) → Found R c x to → length to.rest < length c.rest
found-takes R c to x some f =
    let e : length c.rest ≡ length (R.spell x) + length to.rest = ap length f.spelled ∙ length-append (R.spell x) to.rest in
    omega arith

-- Reading on: R is read at c by reading S at d, and going on from there.
pub bind : {A B : Type 0} (R : Rule A) (S : Rule B) (c d : Cursor) (r : Read B) (f : B × Cursor → Read A) → Outcome S d r
    → ((x : B) (to : Cursor) → Found S d x to → Outcome R c (f (x, to))) → ((last : ℕ) → Fails S d last → Fails R c last) → Outcome R c (r >>= f)
bind R S c d (Ok p) f o ok none = ok p.0 p.1 o
bind R S c d (Err i) f o ok none = none i o

-- one part of several: what is left behind it leads on
pub part : {A B C : Type 0} (R : Rule A) (P : Rule B) (Q : B → Rule C) (c d : Cursor) (wrap : B × C → A) (r : Read B) (f : B × Cursor → Read A)
    → ((at : ℕ) (v : B) (y : C) (k : Kinds) → P.Is at v → (Q v).Is (at + length (P.spell v)) y → (Q v).Ends y k → P.Ends v ((Q v).spell y ++ k))
    → Leads R (sequence_rule P Q) c d wrap → Outcome P d r
    → ((x : B) (to : Cursor) → Found P d x to → Leads R (Q x) c to (λ y. wrap (x, y)) → Outcome R c (f (x, to)))
    → Outcome R c (r >>= f)
part R P Q c d wrap r f follows l o more =
    bind R P c d r f o
    (λ x to found. more x to found (leads-trans R (sequence_rule P Q) (Q x) c d to wrap (λ y. (x, y)) l (seq-leads P Q d to x follows found)))
    (λ last fails. leads-fails R (sequence_rule P Q) c d wrap last l (seq-fails P Q d last follows fails))

-- the last part
pub finish : {A B : Type 0} (R : Rule A) (P : Rule B) (c d : Cursor) (wrap : B → A) (r : Read B) → Leads R P c d wrap → Outcome P d r
    → Outcome R c (r >>= (λ p. Ok (wrap p.0, p.1)))
finish R P c d wrap r l o =
    bind R P c d r (λ p. Ok (wrap p.0, p.1)) o (λ x to found. leads-found R P c d to wrap x l found) (λ last fails. leads-fails R P c d wrap last l fails)

-- what reading gives for a rule that leads to another
pub leads-outcome : {A : Type 0} (R S : Rule A) (c d : Cursor) (r : Read A) → Leads R S c d (λ y. y) → Outcome S d r → Outcome R c r
leads-outcome R S c d (Ok p) l o = leads-found R S c d p.1 (λ y. y) p.0 l o
leads-outcome R S c d (Err i) l o = leads-fails R S c d (λ y. y) i l o
