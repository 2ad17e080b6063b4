-- The text of the rows so far.
use Rattle.std.proofs.Common.{◌≡◌, ℕ, ◌+◌, List, [], ◌∷◌, ◌++◌, length, sym, ap, ◌∙◌, append_assoc, arith}
use Rattle.std.specs.Prelude.{map}
use Rattle.std.specs.List.{enumerate_from, join_with_byte}
use Rattle.std.proofs.lemmas.List.{append-nil}
use Rattle.cbi_base.specs.Text.{line_with_newline, text_of}
use Rattle.flow.specs.declared.site.TableParts.{TableParts}
use Rattle.elimination_tallies.specs.declared.listed.Listed.{Listed}
use Rattle.ranking.specs.Ranking.{header_fields, ranking_text, row_fields}

-- the text is that of these rows
abbrev pub TextSoFar : TableParts → List Listed → List ℕ → Type 0
TextSoFar table rows text = text ≡ ranking_text table rows

abbrev lines_from : TableParts → ℕ → List Listed → List ℕ
lines_from table rank rows = text_of (map (join_with_byte 44) (map (λ e. row_fields table e.0 e.1) (enumerate_from rank rows)))

rows-push : (table : TableParts) (rank : ℕ) (rows : List Listed) (row : Listed) (last : ℕ) → last ≡ rank + length rows → lines_from table rank (rows ++ row ∷ []) ≡ lines_from table rank rows ++ line_with_newline (join_with_byte 44 (row_fields table last row))
rows-push table rank [] row last is = append-nil (line_with_newline (join_with_byte 44 (row_fields table rank row))) ∙ ap (λ n. line_with_newline (join_with_byte 44 (row_fields table n row))) (omega arith)
rows-push table rank (first ∷ more) row last is =
    ap (λ rest. line_with_newline (join_with_byte 44 (row_fields table rank first)) ++ rest) (rows-push table (rank + 1) more row last (omega arith))
    ∙ sym (append_assoc (line_with_newline (join_with_byte 44 (row_fields table rank first))) (lines_from table (rank + 1) more) (line_with_newline (join_with_byte 44 (row_fields table last row))))

-- one more row
pub text-push : (table : TableParts) (rows more : List Listed) (row : Listed) (rank : ℕ) (text new : List ℕ) → more ≡ rows ++ row ∷ [] → rank ≡ length rows + 1 → TextSoFar table rows text → new ≡ text ++ line_with_newline (join_with_byte 44 (row_fields table rank row)) → TextSoFar table more new
text-push table rows more row rank text new all is so_far now =
    now ∙ ap (λ t. t ++ line_with_newline (join_with_byte 44 (row_fields table rank row))) so_far
    ∙ append_assoc (line_with_newline (join_with_byte 44 header_fields)) (lines_from table 1 rows) (line_with_newline (join_with_byte 44 (row_fields table rank row)))
    ∙ ap (λ t. line_with_newline (join_with_byte 44 header_fields) ++ t) (sym (rows-push table 1 rows row rank (omega (arith, is)))) ∙ ap (ranking_text table) (sym all)
