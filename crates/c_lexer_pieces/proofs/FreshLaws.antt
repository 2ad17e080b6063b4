-- Whether a place is fresh can be followed byte by byte.
use Rattle.std.proofs.Common.{◌≡◌, ℕ, Bool, true, false, ◌||◌, ◌&&◌, eqb, eqb-true, List, [], ◌∷◌, ◌++◌, refl, ap, ◌∙◌, ◌⊎◌, inl, inr, ⊎_elim}
use Rattle.std.specs.List.{list_all}
use Rattle.std.proofs.lemmas.Bool.{and_parts}
use Rattle.c_lexer_pieces.specs.declared.bytes.Class.TheVariants as class
use Rattle.c_lexer_pieces.specs.Bytes.{is_of_class}
use Rattle.c_lexer_pieces.specs.Pieces.{AllOf, IsFresh}
use Rattle.c_lexer_pieces.specs.Cutting.{fresh_from, is_fresh}

pub fresh_from-append : (a : List ℕ) (fresh : Bool) (b : List ℕ) → fresh_from fresh (a ++ b) ≡ fresh_from (fresh_from fresh a) b
fresh_from-append [] fresh b = refl
fresh_from-append (c ∷ cs) fresh b = fresh_from-append cs _ b

-- a newline, with blanks alone behind it
pub record LastLine (bytes : List ℕ) : Type 0 where
  pub front : List ℕ
  pub blanks : List ℕ
  pub is : bytes ≡ (front ++ 10 ∷ []) ++ blanks
  pub are_blank : AllOf class.Blank blanks

line-behind : (b : ℕ) (bs : List ℕ) → LastLine bs → LastLine (b ∷ bs)
line-behind b bs l = record { front = b ∷ l.front; blanks = l.blanks; is = ap (λ xs. b ∷ xs) l.is; are_blank = l.are_blank }

line-here : (b : ℕ) (bs : List ℕ) → b ≡ 10 → AllOf class.Blank bs → LastLine (b ∷ bs)
line-here b bs e all = record { front = []; blanks = bs; is = ap (λ x. x ∷ bs) e; are_blank = all }

and_both : (a b c : Bool) → (a && b) ≡ true → c ≡ true → (b ≡ true) × ((a && c) ≡ true)
and_both true b c h all = (h, all)
and_both false b c h all = cc

-- a byte after which a place is fresh, with blanks alone behind it
byte-fresh : (fresh : Bool) (b : ℕ) (bs : List ℕ) → (eqb b 10 || is_of_class class.Blank b && fresh) ≡ true → AllOf class.Blank bs →
    ((fresh ≡ true) × AllOf class.Blank (b ∷ bs)) ⊎ LastLine (b ∷ bs)
byte-fresh fresh b bs h all =
    elim (eqb b 10) as (λ v. eqb b 10 ≡ v → (v || is_of_class class.Blank b && fresh) ≡ true → ((fresh ≡ true) × AllOf class.Blank (b ∷ bs)) ⊎ LastLine (b ∷ bs)) [
      | true ↦ λ e f. inr (line-here b bs (eqb-true b 10 e) all)
      | false ↦ λ e f. inl (and_both (is_of_class class.Blank b) fresh (list_all (is_of_class class.Blank) bs) f all)
    ] refl h

last-line : (fresh : Bool) (bytes : List ℕ) → fresh_from fresh bytes ≡ true → ((fresh ≡ true) × AllOf class.Blank bytes) ⊎ LastLine bytes
last-line fresh [] h = inl (h, refl)
last-line fresh (b ∷ bs) h =
    ⊎_elim
    (λ (w : ((eqb b 10 || is_of_class class.Blank b && fresh) ≡ true) × AllOf class.Blank bs). byte-fresh fresh b bs w.0 w.1)
    (λ (w : LastLine bs). inr (line-behind b bs w))
    (last-line (eqb b 10 || is_of_class class.Blank b && fresh) bs h)

pub fresh-is : (before : List ℕ) → is_fresh before ≡ true → IsFresh before
fresh-is before h =
    ⊎_elim
    (λ (w : (true ≡ true) × AllOf class.Blank before). record { lines = []; blanks = before; is = refl; whole = inl refl; are_blank = w.1 })
    (λ (w : LastLine before). record { lines = w.front ++ 10 ∷ []; blanks = w.blanks; is = w.is; whole = inr (w.front, refl); are_blank = w.are_blank })
    (last-line true before h)

or_true : (a b : Bool) → b ≡ true → (a || b && true) ≡ true
or_true true b h = refl
or_true false b h = rw h refl

blanks-fresh : (bytes : List ℕ) → AllOf class.Blank bytes → fresh_from true bytes ≡ true
blanks-fresh [] all = refl
blanks-fresh (b ∷ bs) all =
    let parts = and_parts (is_of_class class.Blank b) (list_all (is_of_class class.Blank) bs) all in
    ap (λ v. fresh_from v bs) (or_true (eqb b 10) (is_of_class class.Blank b) parts.0) ∙ blanks-fresh bs parts.1

lines-fresh : (lines : List ℕ) → (lines ≡ []) ⊎ ((front : List ℕ) × (lines ≡ front ++ 10 ∷ [])) → is_fresh lines ≡ true
lines-fresh lines whole =
    ⊎_elim
    (λ (w : lines ≡ []). ap is_fresh w)
    (λ (w : (front : List ℕ) × (lines ≡ front ++ 10 ∷ [])). ap is_fresh w.1 ∙ fresh_from-append w.0 true (10 ∷ []))
    whole

pub fresh-known : (before : List ℕ) → IsFresh before → is_fresh before ≡ true
fresh-known before h =
    ap is_fresh h.is ∙ fresh_from-append h.lines true h.blanks ∙ ap (λ v. fresh_from v h.blanks) (lines-fresh h.lines h.whole) ∙ blanks-fresh h.blanks h.are_blank
