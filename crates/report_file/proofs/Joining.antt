-- Lines that were appended one after another.
use Rattle.std.proofs.Common.{◌≡◌, ℕ, List, [], ◌∷◌, ◌++◌, codes, ap, sym, ◌∙◌, refl, append_assoc}
use Rattle.std.proofs.lemmas.List.{append-nil}
use Rattle.cbi_base.specs.Text.{line_with_newline, line_of_fields}
use Rattle.cbi_base.specs.declared.outcome.Outcome.{Outcome}
use Rattle.cbi_base.specs.declared.outcome.Outcome.TheVariants.{Ended, Trapped, CutTurns, CutOutput}
use Rattle.report_file.specs.Spelling.{outcome_fields, outcome_line}

joined : (out t p r u l w : List ℕ) → ((((out ++ (t ++ p)) ++ r) ++ u) ++ l) ++ w ≡ out ++ (t ++ (p ++ (r ++ (u ++ (l ++ (w ++ []))))))
joined out t p r u l w = simp (append_assoc, append-nil)

pub head-joined : (out t p r u l w a b c d e : List ℕ) → a ≡ out ++ (t ++ p) → b ≡ a ++ r → c ≡ b ++ u → d ≡ c ++ l → e ≡ d ++ w → e ≡ out ++ (t ++ (p ++ (r ++ (u ++ (l ++ (w ++ []))))))
head-joined out t p r u l w a b c d e is_a is_b is_c is_d is_e =
    let whole : e ≡ ((((out ++ (t ++ p)) ++ r) ++ u) ++ l) ++ w = cc in whole ∙ joined out t p r u l w

outcome-spaced : (outcome : Outcome) → line_of_fields (outcome_line outcome) ≡ codes "outcome " ++ line_of_fields (outcome_fields outcome)
outcome-spaced (Ended status) = refl
outcome-spaced (Trapped trap) = refl
outcome-spaced CutTurns = refl
outcome-spaced CutOutput = refl

pub outcome-joined : (outcome : Outcome) (out a b c : List ℕ) → a ≡ out ++ codes "outcome " → b ≡ a ++ line_of_fields (outcome_fields outcome) → c ≡ b ++ 10 ∷ [] → c ≡ out ++ line_with_newline (line_of_fields (outcome_line outcome))
outcome-joined outcome out a b c is_a is_b is_c =
    let words = line_of_fields (outcome_fields outcome) in
    let whole : c ≡ ((out ++ codes "outcome ") ++ words) ++ 10 ∷ [] = cc in
    whole ∙ ap (λ t. t ++ 10 ∷ []) (append_assoc out (codes "outcome ") words) ∙ append_assoc out (codes "outcome " ++ words) (10 ∷ []) ∙ ap (λ line. out ++ (line ++ 10 ∷ [])) (sym (outcome-spaced outcome))
