-- The text of the bugs so far.
use Rattle.std.proofs.Common.{◌≡◌, ℕ, ◌+◌, List, [], ◌∷◌, ◌++◌, decimal, length, sym, ap, ◌∙◌, append_assoc, arith}
use Rattle.std.specs.Prelude.{codes, map}
use Rattle.std.proofs.lemmas.List.{append-nil}
use Rattle.cbi_base.specs.Text.{line_of_fields, line_with_newline, text_of}
use Rattle.flow.specs.declared.site.TableParts.{TableParts}
use Rattle.flow.specs.Predicates.{predicate_text}
use Rattle.affinity.proofs.CardLemmas.{lines-append}
use Rattle.association.specs.declared.suspect.Suspect.{Suspect}
use Rattle.suspicious_lines.specs.Text.{number_fields, place_fields, strength_field}
use Rattle.suspicious_lines.proofs.LineTexts.{line-joined}
use Rattle.bug_rounds.specs.declared.bug.Bug.{Bug}
use Rattle.bug_rounds.specs.Text.{also_fields, bug_fields, bug_rows, bugs_head, bugs_rows, bugs_text, rest_fields}

-- a line that is written field by field
abbrev pub spaced_fields : List (List ℕ) → List ℕ
spaced_fields [] = []
spaced_fields (x ∷ more) = (32 ∷ x) ++ spaced_fields more

spaced-push : (xs : List (List ℕ)) (y : List ℕ) → spaced_fields (xs ++ y ∷ []) ≡ spaced_fields xs ++ 32 ∷ y
spaced-push [] y = append-nil (32 ∷ y)
spaced-push (x ∷ more) y = ap (λ t. (32 ∷ x) ++ t) (spaced-push more y) ∙ sym (append_assoc (32 ∷ x) (spaced_fields more) (32 ∷ y))

spaced-line : (x : List ℕ) (xs : List (List ℕ)) → spaced_fields (x ∷ xs) ≡ 32 ∷ line_of_fields (x ∷ xs)
spaced-line x [] = append-nil (32 ∷ x)
spaced-line x (y ∷ more) = ap (λ t. (32 ∷ x) ++ t) (spaced-line y more)

pub field-more : (out old new : List ℕ) (xs : List (List ℕ)) (y : List ℕ) → old ≡ out ++ spaced_fields xs → new ≡ old ++ 32 ∷ y → new ≡ out ++ spaced_fields (xs ++ y ∷ [])
field-more out old new xs y so_far now =
    now ∙ ap (λ t. t ++ 32 ∷ y) so_far ∙ append_assoc out (spaced_fields xs) (32 ∷ y) ∙ ap (λ t. out ++ t) (sym (spaced-push xs y))

pub line-ended : (out old new x : List ℕ) (xs : List (List ℕ)) → old ≡ out ++ spaced_fields (x ∷ xs) → new ≡ old ++ 10 ∷ [] → new ≡ out ++ 32 ∷ line_with_newline (line_of_fields (x ∷ xs))
line-ended out old new x xs so_far now =
    now ∙ ap (λ t. t ++ 10 ∷ []) so_far ∙ append_assoc out (spaced_fields (x ∷ xs)) (10 ∷ []) ∙ ap (λ t. out ++ (t ++ 10 ∷ [])) (spaced-line x xs)

pub no-field : (out : List ℕ) → out ≡ out ++ spaced_fields []
no-field out = sym (append-nil out)

-- the other places so far
abbrev pub also_lines : TableParts → ℕ → ℕ → List Suspect → List ℕ
also_lines table failing successful others = text_of (map line_of_fields (map (also_fields table failing successful) others))

abbrev also_line : TableParts → ℕ → ℕ → Suspect → List ℕ
also_line table failing successful s = line_with_newline (line_of_fields (also_fields table failing successful s))

also-push : (table : TableParts) (failing successful : ℕ) (xs : List Suspect) (x : Suspect) → also_lines table failing successful (xs ++ x ∷ []) ≡ also_lines table failing successful xs ++ also_line table failing successful x
also-push table failing successful [] x = append-nil (also_line table failing successful x)
also-push table failing successful (y ∷ more) x =
    ap (λ t. also_line table failing successful y ++ t) (also-push table failing successful more x)
    ∙ sym (append_assoc (also_line table failing successful y) (also_lines table failing successful more) (also_line table failing successful x))

pub also-more : (table : TableParts) (failing successful : ℕ) (xs more : List Suspect) (x : Suspect) (start before after : List ℕ) → more ≡ xs ++ x ∷ [] → before ≡ start ++ also_lines table failing successful xs → after ≡ before ++ also_line table failing successful x
    → after ≡ start ++ also_lines table failing successful more
also-more table failing successful xs more x start before after all so_far now =
    now ∙ ap (λ t. t ++ also_line table failing successful x) so_far ∙ append_assoc start (also_lines table failing successful xs) (also_line table failing successful x)
    ∙ ap (λ t. start ++ t) (sym (also-push table failing successful xs x)) ∙ ap (λ (ys : List Suspect). start ++ also_lines table failing successful ys) (sym all)

-- the lines of a bug
abbrev pub bug_lines : TableParts → ℕ → ℕ → Bug → List ℕ
bug_lines table successful number b = text_of (map line_of_fields (bug_rows table successful number b))

pub bug-joined : (table : TableParts) (successful number : ℕ) (b : Bug) (old front back new : List ℕ) → front ≡ old ++ line_of_fields (codes "bug" ∷ decimal number ∷ decimal b.leader.predicate ∷ place_fields table b.leader)
    → back ≡ front ++ 32 ∷ line_with_newline (line_of_fields (number_fields b.leader ++ strength_field b.failing successful b.leader ∷ codes "first" ∷ decimal b.first ∷ predicate_text table.sites b.leader.predicate ∷ []))
    → new ≡ back ++ also_lines table b.failing successful b.others → new ≡ old ++ bug_lines table successful number b
bug-joined table successful number b old front back new one two three =
    let s = b.leader in
    three
    ∙ ap (λ t. t ++ also_lines table b.failing successful b.others)
    (line-joined (codes "bug") (decimal number ∷ decimal s.predicate ∷ place_fields table s) (decimal s.tally.a)
    (decimal s.tally.b ∷ decimal s.tally.c ∷ decimal s.tally.d ∷ strength_field b.failing successful s ∷ codes "first" ∷ decimal b.first ∷ predicate_text table.sites s.predicate ∷ []) old front back one two)
    ∙ append_assoc old (line_with_newline (line_of_fields (bug_fields table successful number b))) (also_lines table b.failing successful b.others)

abbrev bugs_lines : TableParts → ℕ → ℕ → List Bug → List ℕ
bugs_lines table successful number bugs = text_of (map line_of_fields (bugs_rows table successful number bugs))

bugs-push : (table : TableParts) (successful number : ℕ) (bugs : List Bug) (b : Bug) (last : ℕ) → last ≡ number + length bugs → bugs_lines table successful number (bugs ++ b ∷ []) ≡ bugs_lines table successful number bugs ++ bug_lines table successful last b
bugs-push table successful number [] b last is =
    lines-append (bug_rows table successful number b) [] ∙ append-nil (bug_lines table successful number b) ∙ ap (λ n. bug_lines table successful n b) (omega (arith, is))
bugs-push table successful number (x ∷ more) b last is =
    lines-append (bug_rows table successful number x) (bugs_rows table successful (number + 1) (more ++ b ∷ []))
    ∙ ap (λ t. bug_lines table successful number x ++ t) (bugs-push table successful (number + 1) more b last (omega (arith, is)))
    ∙ sym (append_assoc (bug_lines table successful number x) (bugs_lines table successful (number + 1) more) (bug_lines table successful last b))
    ∙ ap (λ t. t ++ bug_lines table successful last b) (sym (lines-append (bug_rows table successful number x) (bugs_rows table successful (number + 1) more)))

abbrev head_line : ℕ → ℕ → List ℕ
head_line failing successful = line_with_newline (line_of_fields (bugs_head failing successful))

-- the text is that of these bugs, without its last lines
pub record IsBugTextSoFar (table : TableParts) (failing successful : ℕ) (bugs : List Bug) (text : List ℕ) : Type 0 where
  pub text_is : text ≡ head_line failing successful ++ bugs_lines table successful 1 bugs

pub bug-text-more : (table : TableParts) (failing successful : ℕ) (bugs more : List Bug) (b : Bug) (number : ℕ) (text new : List ℕ) → more ≡ bugs ++ b ∷ [] → number ≡ length bugs + 1 → IsBugTextSoFar table failing successful bugs text
    → new ≡ text ++ bug_lines table successful number b → IsBugTextSoFar table failing successful more new
bug-text-more table failing successful bugs more b number text new all is so_far now = record {
  text_is = now ∙ ap (λ t. t ++ bug_lines table successful number b) so_far.text_is
      ∙ append_assoc (head_line failing successful) (bugs_lines table successful 1 bugs) (bug_lines table successful number b)
      ∙ ap (λ t. head_line failing successful ++ t) (sym (bugs-push table successful 1 bugs b number (omega (arith, is))))
      ∙ ap (λ (xs : List Bug). head_line failing successful ++ bugs_lines table successful 1 xs) (sym all);
}

abbrev last_rows : ℕ → List (List (List ℕ))
last_rows rest = rest_fields rest ∷ (codes "end" ∷ []) ∷ []

pub bug-text-end : (table : TableParts) (failing successful rest : ℕ) (bugs all : List Bug) (text new : List ℕ) → bugs ≡ all → IsBugTextSoFar table failing successful bugs text → new ≡ text ++ text_of (map line_of_fields (last_rows rest))
    → new ≡ bugs_text table failing successful rest all
bug-text-end table failing successful rest bugs all text new same so_far now =
    now ∙ ap (λ t. t ++ text_of (map line_of_fields (last_rows rest))) so_far.text_is
    ∙ append_assoc (head_line failing successful) (bugs_lines table successful 1 bugs) (text_of (map line_of_fields (last_rows rest)))
    ∙ ap (λ t. head_line failing successful ++ t) (sym (lines-append (bugs_rows table successful 1 bugs) (last_rows rest)))
    ∙ ap (bugs_text table failing successful rest) same
