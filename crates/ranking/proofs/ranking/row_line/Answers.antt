use Rattle.std.proofs.Common.{◌∙◌, ◌++◌, [], ◌∷◌, List, ℕ, ap, decimal}
use Rattle.csv.specs.Writing.{default_writer, row_text}
use Rattle.std.specs.List.{join_with_byte}
use Rattle.cbi_base.specs.Text.{line_with_newline}
use Rattle.flow.specs.Predicates.{predicate_text, site_at}
use Rattle.ranking.specs.Plain.{IsPlainField}
use Rattle.ranking.specs.Ranking.{place_fields, share_fields, tally_fields}
use Rattle.ranking.proofs.PlainLemmas.{are-plain-append, row-line}
use Rattle.ranking.proofs.ranking.row_line.Goals as goal

pub returns : goal.returns
returns c =
    let t = c.args.table.now in
    let row = c.args.row.now in
    let place = place_fields t.functions (site_at t.sites row.predicate) (predicate_text t.sites row.predicate) in
    let tally = tally_fields row.tally in
    let shares = share_fields row.tally row.failing in
    let first = c.in_ok-push_number.ensures.fields ∙ ap (λ (fs : List (List ℕ)). fs ++ decimal c.args.rank ∷ []) c.new-record.ensures.fields in
    let second = c.in_ok-push_number-2.ensures.fields ∙ ap (λ (fs : List (List ℕ)). fs ++ decimal c.from.result ∷ []) first in
    let third = c.in_ok-push_place.ensures.fields ∙ ap (λ (fs : List (List ℕ)). fs ++ place) second in
    let fourth = c.in_ok-push_tally.ensures.fields ∙ ap (λ (fs : List (List ℕ)). fs ++ tally) third in
    let fifth = c.in_ok-push_shares.ensures.fields ∙ ap (λ (fs : List (List ℕ)). fs ++ shares) fourth in
    let rank : IsPlainField (decimal c.args.rank) = c.in_ok-push_number.ensures.plain in
    let predicate : IsPlainField (decimal c.from.result) = c.in_ok-push_number-2.ensures.plain in
    let rest = are-plain-append (place ++ tally) shares (are-plain-append place tally c.place_is_plain.ensures c.in_ok-push_tally.ensures.plain) c.in_ok-push_shares.ensures.plain in
    let line = row-line (decimal c.args.rank) (decimal c.from.result) (place ++ tally ++ shares) (rank, (predicate, rest)) in
    c.in_ok-line.ensures ∙ ap (row_text default_writer) fifth ∙ line
    ∙ ap (λ (n : ℕ). line_with_newline (join_with_byte 44 (decimal c.args.rank ∷ decimal n ∷ (place ++ tally ++ shares)))) c.from.ensures
