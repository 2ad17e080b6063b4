-- Cells that are repeated.
use Rattle.std.proofs.Common.{◌≡◌, ℕ, ◌+◌, List, [], ◌∷◌, ◌++◌, replicate, sym, ap, ◌∙◌, rules}
use Rattle.std.specs.List.{flat_map}
use Rattle.std.proofs.lemmas.Grind.{flat_map-append}
use Rattle.std.proofs.lemmas.List.{append-nil, replicate_more}
use Rattle.cbi_base.specs.declared.scalar.Scalar.{Scalar}
use Rattle.lower_globals.specs.Zeros.{cells_repeated}

alone : (cells : List Scalar) → flat_map (λ c. c) (cells ∷ []) ≡ cells
alone cells = search (rules, append-nil)

pub once_more : (n : ℕ) (cells : List Scalar) → cells_repeated n cells ++ cells ≡ cells_repeated (n + 1) cells
once_more n cells =
    ap (λ l. cells_repeated n cells ++ l) (sym (alone cells))
    ∙ sym (flat_map-append (λ c. c) (replicate n cells) (cells ∷ []))
    ∙ ap (flat_map (λ c. c)) (replicate_more n cells)
