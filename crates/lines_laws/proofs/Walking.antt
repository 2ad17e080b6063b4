-- A grammar of lines in which it can be told of each line whether it may come: each text is read, or goes wrong at a line.
use Rattle.std.proofs.Common.{◌≡◌, ◌⊎◌, ⊎_elim, ℕ, zero, suc, ◌<◌, ◌≤◌, false, inl, inr, List, [], ◌∷◌, ◌++◌, length, Option, None, Some, refl, sym, ap, subst, ◌∙◌, length-append, arith}
use Rattle.std.proofs.lemmas.Bool.{cases_Bool, cases_order, eqb-true}
use Rattle.base_lists.proofs.Options.{none_some, some_is}
use Rattle.cbi_base.specs.Words.{IsGoodPrefix, LeadsOnce, ReadsLines, line_after, is_word, Lacks, is_newline, line_of_fields}
use Rattle.cbi_base.proofs.LineLemmas.{bad-never, bad-stops, good-more, reads-whole, stops-at, stops-behind, stops-within}
use Rattle.cbi_base.proofs.NumberLemmas.{is_word-same, same-word}
use Rattle.report_file.specs.Reading.{Reads}
use Rattle.lines_laws.specs.Laws.{GoesWrong, IsReadAs, IsSpelled, IsTheSpelling}

-- something is so, or nothing is
abbrev pub Told : {A : Type 0} → (A → Type 0) → Type 0
Told {A} P = ((a : A) × P a) ⊎ ((a : A) → P a → ⊥)

-- a fact holds, or it doesn't
abbrev pub Holds : Type 0 → Type 0
Holds P = P ⊎ (P → ⊥)

-- the first line of a text, and what comes behind its end
record FirstLine (text : List ℕ) : Type 0 where
  line : List ℕ
  rest : List ℕ
  text_is : text ≡ line ++ 10 ∷ rest
  lacks : Lacks is_newline line

longer : (b : ℕ) (bs : List ℕ) → is_newline b ≡ false → FirstLine bs ⊎ Lacks is_newline bs → FirstLine (b ∷ bs) ⊎ Lacks is_newline (b ∷ bs)
longer b bs other (inl first) = inl (record { line = b ∷ first.line; rest = first.rest; text_is = ap (λ (t : List ℕ). b ∷ t) first.text_is; lacks = (other, first.lacks) })
longer b bs other (inr none) = inr (other, none)

-- a text begins with a line and its end, or has no newline
first_line : (text : List ℕ) → FirstLine text ⊎ Lacks is_newline text
first_line [] = inr tt
first_line (b ∷ bs) =
    elim (cases_Bool (is_newline b)) [
      | inl ends ↦ inl (record { line = []; rest = bs; text_is = ap (λ (n : ℕ). n ∷ bs) (eqb-true b 10 ends); lacks = tt })
      | inr other ↦ longer b bs other (first_line bs)
    ]

-- the text is read, or goes wrong
abbrev Ending : {D : Type 0} → (D → List ℕ → D → Type 0) → (D → Type 0) → D → List ℕ → Type 0
Ending {D} follows ends from text = ((to : D) × ReadsLines follows ends from text to) ⊎ GoesWrong follows ends from text

-- no line is left
no_line : {D : Type 0} (follows : D → List ℕ → D → Type 0) (ends : D → Type 0) → ((d : D) → Holds (ends d)) → (from at : D) (text rest : List ℕ) (good : List (List ℕ)) → IsGoodPrefix follows from text good rest at → Lacks is_newline rest → Ending follows ends from text
no_line follows ends may_end from at text [] good front lacks =
    elim (may_end at) [
      | inl over ↦ inl (at, reads-whole follows ends from at text [] good front refl over)
      | inr never ↦ inr (line_after (length good), bad-stops follows ends from at text [] good front (stops-behind follows ends at [] refl never))
    ]
no_line follows ends may_end from at text (b ∷ bs) good front lacks =
    inr (line_after (length good), bad-stops follows ends from at text (b ∷ bs) good front (stops-within follows ends at (b ∷ bs) lacks (λ none. cc)))

shorter : (line rest text : List ℕ) (most : ℕ) → text ≡ line ++ 10 ∷ rest → length text ≤ suc most → length rest ≤ most
shorter line rest text most is few = omega (arith, ap length is, length-append {A = ℕ} line (10 ∷ rest))

walked : {D : Type 0} (follows : D → List ℕ → D → Type 0) (ends : D → Type 0) → ((d : D) (line : List ℕ) → Told (follows d line)) → ((d : D) → Holds (ends d)) → (most : ℕ) (from at : D) (text rest : List ℕ) (good : List (List ℕ)) → IsGoodPrefix follows from text good rest at → length rest ≤ most → Ending follows ends from text
walked follows ends tells may_end zero from at text [] good front few = no_line follows ends may_end from at text [] good front tt
walked follows ends tells may_end zero from at text (b ∷ bs) good front few = absurd (omega arith)
walked follows ends tells may_end (suc most) from at text rest good front few =
    elim (first_line rest) [
      | inr lacks ↦ no_line follows ends may_end from at text rest good front lacks
      | inl first ↦ elim (tells at first.line) [
        | inl next ↦ walked follows ends tells may_end most from next.0 text first.rest (good ++ first.line ∷ []) (good-more follows from at next.0 text rest first.line first.rest good front first.text_is first.lacks next.1) (shorter first.line first.rest rest most first.text_is few)
        | inr never ↦ inr (line_after (length good), bad-stops follows ends from at text rest good front (stops-at follows ends at rest first.line first.rest first.text_is first.lacks never))
      ]
    ]

pub each-text : {D : Type 0} (follows : D → List ℕ → D → Type 0) (ends : D → Type 0) → ((d : D) (line : List ℕ) → Told (follows d line)) → ((d : D) → Holds (ends d)) → (from : D) (text : List ℕ) → ((to : D) × ReadsLines follows ends from text to) ⊎ GoesWrong follows ends from text
each-text follows ends tells may_end from text =
    walked follows ends tells may_end (length text) from from text text [] (record { text_is = refl; are_lines = tt; leads = refl }) (omega arith)

-- What the lines say is spelled, and what is spelled they say: then a grammar in which each line can be told is the spelling.
pub the-spelling : {D X : Type 0} (follows : D → List ℕ → D → Type 0) (ends : D → Type 0) (from : D) (said : D → X) (spells : List ℕ → X → Type 0) → LeadsOnce follows → ((d : D) (line : List ℕ) → Told (follows d line)) → ((d : D) → Holds (ends d))
    → ((text : List ℕ) (to : D) → ReadsLines follows ends from text to → spells text (said to)) → ((text : List ℕ) (x : X) → spells text x → IsReadAs follows ends from said text x) → IsTheSpelling follows ends from said spells
the-spelling follows ends from said spells once tells may_end read spelled =
    let either : (text : List ℕ) → IsSpelled spells text ⊎ GoesWrong follows ends from text = λ text. elim (each-text follows ends tells may_end from text) [
      | inl is ↦ inl (said is.0, read text is.0 is.1)
      | inr wrong ↦ inr wrong
    ] in record {
      read = read;
      spelled = spelled;
      exactly = λ text. (
        λ is line bad. bad-never follows ends once from (spelled text is.0 is.1).to text line (spelled text is.0 is.1).reads bad,
        λ right. elim (either text) [ inl is ↦ is | inr wrong ↦ absurd (right wrong.0 wrong.1) ],
      );
      either = either;
    }

-- one of two things is so, or neither
pub either-told : {A : Type 0} (P Q : A → Type 0) → Told P → Told Q → Told (λ a. P a ⊎ Q a)
either-told P Q (inl p) told = inl (p.0, inl p.1)
either-told P Q (inr never) (inl q) = inl (q.0, inr q.1)
either-told P Q (inr never) (inr none) = inr (λ a s. ⊎_elim (never a) (none a) s)

-- both facts hold, or not both
pub both-told : {P Q : Type 0} → Holds P → Holds Q → Holds (P × Q)
both-told (inl p) (inl q) = inl (p, q)
both-told (inl p) (inr never) = inr (λ both. never both.1)
both-told (inr never) told = inr (λ both. never both.0)

pub le-told : (a b : ℕ) → Holds (a ≤ b)
le-told a b = elim (cases_order a b) [ inl same ↦ inl (omega arith) | inr (inl less) ↦ inl (omega arith) | inr (inr more) ↦ inr (λ small. omega arith) ]

pub lt-told : (a b : ℕ) → Holds (a < b)
lt-told a b = elim (cases_order a b) [ inl same ↦ inr (λ small. omega arith) | inr (inl less) ↦ inl less | inr (inr more) ↦ inr (λ small. omega arith) ]

-- whether a line is this word
pub word-told : (line word : List ℕ) → Holds (line ≡ word)
word-told line word =
    elim (cases_Bool (is_word line word)) [
      | inl same ↦ inl (same-word line word same)
      | inr other ↦ inr (λ is. let e = sym (subst (λ (l : List ℕ). is_word l word ≡ false) is other) ∙ is_word-same word in cc)
    ]

-- a line that spells a value
pub record IsLineOf {A : Type 0} (spell : A → List (List ℕ)) (Good : A → Type 0) (line : List ℕ) (value : A) : Type 0 where
  pub is_good : Good value
  pub line_is : line ≡ line_of_fields (spell value)

-- a value of which one thing more holds
abbrev IsLineWith : {A : Type 0} → (A → List (List ℕ)) → (A → Type 0) → (A → Type 0) → List ℕ → A → Type 0
IsLineWith spell Good Also line x = IsLineOf spell Good line x × Also x

one-with : {A : Type 0} (spell : A → List (List ℕ)) (Good Also : A → Type 0) (line : List ℕ) (x : A) → Reads spell Good line (Some x) → Holds (Also x) → Told (IsLineWith spell Good Also line)
one-with spell Good Also line x reads (inl also) = inl (x, (record { is_good = reads.found.0; line_is = reads.found.1 }, also))
one-with spell Good Also line x reads (inr never) = inr (λ y is. never (subst Also (sym (some_is (reads.only y is.0.is_good is.0.line_is))) is.1))

pub told-with : {A : Type 0} (spell : A → List (List ℕ)) (Good Also : A → Type 0) (line : List ℕ) (answer : Option A) → Reads spell Good line answer → ((x : A) → Holds (Also x)) → Told (λ x. IsLineOf spell Good line x × Also x)
told-with spell Good Also line None reads also = inr (λ x is. none_some (reads.only x is.0.is_good is.0.line_is))
told-with spell Good Also line (Some x) reads also = one-with spell Good Also line x reads (also x)

pub read-told : {A : Type 0} (spell : A → List (List ℕ)) (Good : A → Type 0) (line : List ℕ) (answer : Option A) → Reads spell Good line answer → Told (IsLineOf spell Good line)
read-told spell Good line None reads = inr (λ x is. none_some (reads.only x is.is_good is.line_is))
read-told spell Good line (Some x) reads = inl (x, record { is_good = reads.found.0; line_is = reads.found.1 })
