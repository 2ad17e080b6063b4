-- The text of the lines so far.
use Rattle.std.proofs.Common.{◌≡◌, ℕ, ◌+◌, List, [], ◌∷◌, ◌++◌, length, refl, sym, ap, ◌∙◌, append_assoc, arith}
use Rattle.std.specs.Prelude.{map}
use Rattle.std.specs.List.{enumerate_from}
use Rattle.std.proofs.lemmas.List.{append-nil}
use Rattle.cbi_base.specs.Text.{line_of_fields, line_with_newline, text_of}
use Rattle.flow.specs.declared.site.TableParts.{TableParts}
use Rattle.association.specs.declared.suspect.Suspect.{Suspect}
use Rattle.suspicious_lines.specs.Text.{line_fields, lines_head}

abbrev rows_from : TableParts → ℕ → ℕ → ℕ → List Suspect → List (List (List ℕ))
rows_from table failing successful number rows = map (λ e. line_fields table failing successful e.0 e.1) (enumerate_from number rows)

abbrev lines_from : TableParts → ℕ → ℕ → ℕ → List Suspect → List ℕ
lines_from table failing successful number rows = text_of (map line_of_fields (rows_from table failing successful number rows))

abbrev line_of : TableParts → ℕ → ℕ → ℕ → Suspect → List ℕ
line_of table failing successful number s = line_with_newline (line_of_fields (line_fields table failing successful number s))

rows-push : (table : TableParts) (failing successful number : ℕ) (rows : List Suspect) (s : Suspect) (last : ℕ) → last ≡ number + length rows → lines_from table failing successful number (rows ++ s ∷ []) ≡ lines_from table failing successful number rows ++ line_of table failing successful last s
rows-push table failing successful number [] s last is = append-nil (line_of table failing successful number s) ∙ ap (λ n. line_of table failing successful n s) (omega arith)
rows-push table failing successful number (x ∷ more) s last is =
    ap (λ rest. line_of table failing successful number x ++ rest) (rows-push table failing successful (number + 1) more s last (omega arith))
    ∙ sym (append_assoc (line_of table failing successful number x) (lines_from table failing successful (number + 1) more) (line_of table failing successful last s))

abbrev head_of : ℕ → ℕ → ℕ → List ℕ
head_of failing successful places = line_with_newline (line_of_fields (lines_head failing successful places))

-- the text is that of these rows, without its end
pub record IsTextSoFar (table : TableParts) (failing successful places : ℕ) (rows : List Suspect) (text : List ℕ) : Type 0 where
  pub text_is : text ≡ head_of failing successful places ++ lines_from table failing successful 1 rows

pub text-more : (table : TableParts) (failing successful places : ℕ) (rows more : List Suspect) (s : Suspect) (number : ℕ) (text new : List ℕ) → more ≡ rows ++ s ∷ [] → number ≡ length rows + 1 → IsTextSoFar table failing successful places rows text
    → new ≡ text ++ line_of table failing successful number s → IsTextSoFar table failing successful places more new
text-more table failing successful places rows more s number text new all is so_far now = record {
  text_is = now ∙ ap (λ t. t ++ line_of table failing successful number s) so_far.text_is
      ∙ append_assoc (head_of failing successful places) (lines_from table failing successful 1 rows) (line_of table failing successful number s)
      ∙ ap (λ t. head_of failing successful places ++ t) (sym (rows-push table failing successful 1 rows s number (omega (arith, is))))
      ∙ ap (λ (xs : List Suspect). head_of failing successful places ++ lines_from table failing successful 1 xs) (sym all);
}

-- fields behind fields
fields-append : (x : List ℕ) (xs : List (List ℕ)) (y : List ℕ) (ys : List (List ℕ)) → line_of_fields (x ∷ xs ++ y ∷ ys) ≡ line_of_fields (x ∷ xs) ++ 32 ∷ line_of_fields (y ∷ ys)
fields-append x [] y ys = refl
fields-append x (z ∷ zs) y ys = ap (λ t. x ++ 32 ∷ t) (fields-append z zs y ys) ∙ sym (append_assoc x (32 ∷ line_of_fields (z ∷ zs)) (32 ∷ line_of_fields (y ∷ ys)))

-- a line that was written in two parts
pub line-joined : (x : List ℕ) (xs : List (List ℕ)) (y : List ℕ) (ys : List (List ℕ)) (old mid new : List ℕ) → mid ≡ old ++ line_of_fields (x ∷ xs) → new ≡ mid ++ 32 ∷ line_with_newline (line_of_fields (y ∷ ys))
    → new ≡ old ++ line_with_newline (line_of_fields (x ∷ xs ++ y ∷ ys))
line-joined x xs y ys old mid new first second =
    let front = line_of_fields (x ∷ xs) in
    let back = line_of_fields (y ∷ ys) in
    second ∙ ap (λ t. t ++ 32 ∷ line_with_newline back) first ∙ append_assoc old front (32 ∷ line_with_newline back)
    ∙ ap (λ t. old ++ t) (sym (append_assoc front (32 ∷ back) (10 ∷ []))) ∙ ap (λ t. old ++ line_with_newline t) (sym (fields-append x xs y ys))
