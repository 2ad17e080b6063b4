use Rattle.std.proofs.Common.{◌≡◌, List, ℕ, [], ◌∷◌, ◌++◌, ◌∙◌, append_assoc, decimal, ap, refl}
use Rattle.std.specs.Prelude.{codes, slice_index_or}
use Rattle.cbi_base.specs.Text.{line_of_fields, line_with_newline}
use Rattle.flow.specs.Predicates.{predicate_text}
use Rattle.suspicious_lines.specs.Text.{place_fields, strength_field}
use Rattle.bug_rounds.proofs.BugTexts.{field-more, line-ended, no-field, spaced_fields}
use Rattle.bug_rounds.proofs.text.push_also.Goals as goal

pub returns : goal.returns
returns c =
    let table = c.args.table.now in
    let s = c.args.suspect.now in
    let out = c.extend_from_slice.new.self.items in
    let name : List ℕ = slice_index_or table.functions s.function [] in
    let named = out ++ 32 ∷ name in
    let strength = strength_field c.args.totals.failing c.args.totals.successful s in
    let text = predicate_text table.sites s.predicate in
    let one : named ≡ out ++ spaced_fields (name ∷ []) = field-more out out named [] name (no-field out) refl in
    let two : c.push_place.new.out.items ≡ out ++ spaced_fields (place_fields table s) = field-more out named c.push_place.new.out.items (name ∷ []) (decimal s.line) one c.in_ok-push_place.ensures in
    let three : c.push_number.new.out.items ≡ out ++ spaced_fields (place_fields table s ++ decimal s.tally.a ∷ []) =
    field-more out c.push_place.new.out.items c.push_number.new.out.items (place_fields table s) (decimal s.tally.a) two (c.in_ok-push_number.ensures ∙ ap (λ n. c.push_place.new.out.items ++ 32 ∷ decimal n) c.from.ensures) in
    let four : c.push_number-2.new.out.items ≡ out ++ spaced_fields (place_fields table s ++ decimal s.tally.a ∷ decimal s.tally.b ∷ []) =
    field-more out c.push_number.new.out.items c.push_number-2.new.out.items (place_fields table s ++ decimal s.tally.a ∷ []) (decimal s.tally.b) three (c.in_ok-push_number-2.ensures ∙ ap (λ n. c.push_number.new.out.items ++ 32 ∷ decimal n) c.from-2.ensures) in
    let five : c.push_strength.new.out.items ≡ out ++ spaced_fields (place_fields table s ++ decimal s.tally.a ∷ decimal s.tally.b ∷ strength ∷ []) =
    field-more out c.push_number-2.new.out.items c.push_strength.new.out.items (place_fields table s ++ decimal s.tally.a ∷ decimal s.tally.b ∷ []) strength four c.in_ok-push_strength.ensures in
    let six : c.push_word.new.out.items ≡ out ++ spaced_fields (place_fields table s ++ decimal s.tally.a ∷ decimal s.tally.b ∷ strength ∷ text ∷ []) =
    field-more out c.push_strength.new.out.items c.push_word.new.out.items (place_fields table s ++ decimal s.tally.a ∷ decimal s.tally.b ∷ strength ∷ []) text five
    (c.in_ok-push_word.ensures ∙ ap (λ (xs : List ℕ). c.push_strength.new.out.items ++ 32 ∷ xs) (c.as_slice.ensures.value ∙ c.in_ok-text.ensures)) in
    let rest = line_with_newline (line_of_fields (name ∷ decimal s.line ∷ decimal s.tally.a ∷ decimal s.tally.b ∷ strength ∷ text ∷ [])) in
    line-ended out c.push_word.new.out.items c.push.new.self.items name (decimal s.line ∷ decimal s.tally.a ∷ decimal s.tally.b ∷ strength ∷ text ∷ []) six c.in_ok-push.ensures.items
    ∙ ap (λ (xs : List ℕ). xs ++ 32 ∷ rest) c.in_ok-extend_from_slice.ensures.items ∙ append_assoc c.args.out.now.items (codes "also") (32 ∷ rest)
