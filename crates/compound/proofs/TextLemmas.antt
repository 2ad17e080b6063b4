-- A line, field by field.
use Rattle.std.proofs.Common.{◌≡◌, ℕ, List, [], ◌∷◌, ◌++◌, decimal, ap, ◌∙◌, append_assoc}
use Rattle.cbi_base.specs.Text.{line_with_newline}

-- a line with one more field
pub field-after : (out line mid new field other : List ℕ) → mid ≡ out ++ line → new ≡ mid ++ 32 ∷ field → field ≡ other → new ≡ out ++ (line ++ 32 ∷ other)
field-after out line mid new field other is made same =
    made ∙ ap (λ xs. xs ++ 32 ∷ field) is ∙ append_assoc out line (32 ∷ field) ∙ ap (λ f. out ++ (line ++ 32 ∷ f)) same

pub number-after : (out line mid new : List ℕ) (n m : ℕ) → mid ≡ out ++ line → new ≡ mid ++ 32 ∷ decimal n → n ≡ m → new ≡ out ++ (line ++ 32 ∷ decimal m)
number-after out line mid new n m is made same = field-after out line mid new (decimal n) (decimal m) is made (ap decimal same)

-- and with its end
pub line-ended : (out line want mid new : List ℕ) → mid ≡ out ++ line → new ≡ mid ++ 10 ∷ [] → line ≡ want → new ≡ out ++ line_with_newline want
line-ended out line want mid new is made same = made ∙ ap (λ xs. xs ++ 10 ∷ []) is ∙ append_assoc out line (10 ∷ []) ∙ ap (λ xs. out ++ line_with_newline xs) same

-- the fields of a line from its first one on
fields-on : (line x y : List ℕ) → (line ++ 32 ∷ x) ++ 32 ∷ y ≡ line ++ 32 ∷ (x ++ 32 ∷ y)
fields-on line x y = append_assoc line (32 ∷ x) (32 ∷ y)

pub three-fields : (w a b d : List ℕ) → ((w ++ 32 ∷ a) ++ 32 ∷ b) ++ 32 ∷ d ≡ w ++ 32 ∷ (a ++ 32 ∷ (b ++ 32 ∷ d))
three-fields w a b d = fields-on (w ++ 32 ∷ a) b d ∙ fields-on w a (b ++ 32 ∷ d)

pub seven-fields : (w a b d e f g h : List ℕ)
    → ((((((w ++ 32 ∷ a) ++ 32 ∷ b) ++ 32 ∷ d) ++ 32 ∷ e) ++ 32 ∷ f) ++ 32 ∷ g) ++ 32 ∷ h ≡ w ++ 32 ∷ (a ++ 32 ∷ (b ++ 32 ∷ (d ++ 32 ∷ (e ++ 32 ∷ (f ++ 32 ∷ (g ++ 32 ∷ h))))))
seven-fields w a b d e f g h =
    let three = (w ++ 32 ∷ a) ++ 32 ∷ b in
    let four = three ++ 32 ∷ d in
    fields-on ((four ++ 32 ∷ e) ++ 32 ∷ f) g h ∙ fields-on (four ++ 32 ∷ e) f (g ++ 32 ∷ h) ∙ fields-on four e (f ++ 32 ∷ (g ++ 32 ∷ h)) ∙ fields-on three d (e ++ 32 ∷ (f ++ 32 ∷ (g ++ 32 ∷ h)))
    ∙ three-fields w a b (d ++ 32 ∷ (e ++ 32 ∷ (f ++ 32 ∷ (g ++ 32 ∷ h))))
