use Rattle.std.proofs.Common.{◌≡◌, List, ℕ, [], ◌∷◌, ◌++◌, ◌∙◌, decimal, ap, refl}
use Rattle.std.specs.Prelude.{codes}
use Rattle.flow.specs.Predicates.{predicate_text}
use Rattle.suspicious_lines.specs.Text.{number_fields, strength_field}
use Rattle.bug_rounds.proofs.BugTexts.{field-more, line-ended, no-field, spaced_fields}
use Rattle.bug_rounds.proofs.text.push_back.Goals as goal

pub returns : goal.returns
returns c =
    let out = c.args.out.now.items in
    let t = c.args.leader.now.tally in
    let a = out ++ 32 ∷ decimal t.a in
    let b = a ++ 32 ∷ decimal t.b in
    let d = b ++ 32 ∷ decimal t.c in
    let strength = strength_field c.args.totals.failing c.args.totals.successful c.args.leader.now in
    let text = predicate_text c.args.table.now.sites c.args.leader.now.predicate in
    let one : a ≡ out ++ spaced_fields (decimal t.a ∷ []) = field-more out out a [] (decimal t.a) (no-field out) refl in
    let two : b ≡ out ++ spaced_fields (decimal t.a ∷ decimal t.b ∷ []) = field-more out a b (decimal t.a ∷ []) (decimal t.b) one refl in
    let three : d ≡ out ++ spaced_fields (decimal t.a ∷ decimal t.b ∷ decimal t.c ∷ []) = field-more out b d (decimal t.a ∷ decimal t.b ∷ []) (decimal t.c) two refl in
    let four : c.push_tally.new.out.items ≡ out ++ spaced_fields (number_fields c.args.leader.now) = field-more out d c.push_tally.new.out.items (decimal t.a ∷ decimal t.b ∷ decimal t.c ∷ []) (decimal t.d) three c.in_ok-push_tally.ensures in
    let five : c.push_strength.new.out.items ≡ out ++ spaced_fields (number_fields c.args.leader.now ++ strength ∷ []) = field-more out c.push_tally.new.out.items c.push_strength.new.out.items (number_fields c.args.leader.now) strength four c.in_ok-push_strength.ensures in
    let six : c.push_word.new.out.items ≡ out ++ spaced_fields (number_fields c.args.leader.now ++ strength ∷ codes "first" ∷ []) =
    field-more out c.push_strength.new.out.items c.push_word.new.out.items (number_fields c.args.leader.now ++ strength ∷ []) (codes "first") five c.in_ok-push_word.ensures in
    let seven : c.push_number.new.out.items ≡ out ++ spaced_fields (number_fields c.args.leader.now ++ strength ∷ codes "first" ∷ decimal c.args.first ∷ []) =
    field-more out c.push_word.new.out.items c.push_number.new.out.items (number_fields c.args.leader.now ++ strength ∷ codes "first" ∷ []) (decimal c.args.first) six (c.in_ok-push_number.ensures ∙ ap (λ n. c.push_word.new.out.items ++ 32 ∷ decimal n) c.from.ensures) in
    let eight : c.push_word-2.new.out.items ≡ out ++ spaced_fields (number_fields c.args.leader.now ++ strength ∷ codes "first" ∷ decimal c.args.first ∷ text ∷ []) =
    field-more out c.push_number.new.out.items c.push_word-2.new.out.items (number_fields c.args.leader.now ++ strength ∷ codes "first" ∷ decimal c.args.first ∷ []) text seven
    (c.in_ok-push_word-2.ensures ∙ ap (λ (xs : List ℕ). c.push_number.new.out.items ++ 32 ∷ xs) (c.as_slice.ensures.value ∙ c.in_ok-text.ensures)) in
    line-ended out c.push_word-2.new.out.items c.push.new.self.items (decimal t.a) (decimal t.b ∷ decimal t.c ∷ decimal t.d ∷ strength ∷ codes "first" ∷ decimal c.args.first ∷ text ∷ []) eight c.in_ok-push.ensures.items
