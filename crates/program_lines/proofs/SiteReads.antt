-- The lines of sites: reading undoes spelling, and what is read is spelled so.
use Rattle.std.proofs.Common.{◌≡◌, ◌≤◌, ◌==◌, ℕ, true, List, [], ◌∷◌, Some, decimal, codes, FitsSigned, ap, ◌∙◌, refl, arith}
use Rattle.std.specs.Int.{w64}
use Rattle.std.specs.List.{AllByRecursion}
use Rattle.std.proofs.lemmas.Bool.{eqb-true}
use Rattle.std.proofs.lemmas.Option.{option_and_then_some}
use Rattle.base_lists.proofs.Tests.{some_choice}
use Rattle.base_lists.proofs.Options.{mapped, some_is}
use Rattle.cbi_base.specs.Words.{IsName, is_word, number_of, greatest_u32, IsField}
use Rattle.cbi_base.proofs.FieldLemmas.{IsField-decimal, IsField-signed, IsField-name}
use Rattle.cbi_base.proofs.NumberLemmas.{same-word, number_of-spelled, signed_of-spelled, signed_of-signed, small-read}
use Rattle.flow.specs.declared.site.Slot.{Slot}
use Rattle.flow.specs.declared.site.Slot.TheVariants.{Local, Global}
use Rattle.flow.specs.declared.site.Partner.{Partner}
use Rattle.flow.specs.declared.site.Partner.TheVariants.{Variable, Constant}
use Rattle.flow.specs.declared.site.BranchWord.{BranchWord}
use Rattle.flow.specs.declared.site.BranchWord.TheVariants.{If, While, Do, For, Question, AndAnd, OrOr}
use Rattle.flow.specs.declared.site.SiteKind.{SiteKind}
use Rattle.flow.specs.declared.site.SiteKind.TheVariants.{Branch, Return, Pair}
use Rattle.flow.specs.declared.site.Site.{Site}
use Rattle.flow.specs.Spelling.{branch_word, slot_word, partner_fields, kind_name, kind_fields, site_fields}
use Rattle.program_lines.specs.Rows.{name_of}
use Rattle.program_lines.specs.SiteLines.{branch_of, slot_of, partner_of, branch_fields, return_fields, pair_fields, site_kind_of, site_parts, site_of_row}
use Rattle.program_lines.proofs.RowReads.{name_of-spelled, name_of-name, other-word, other-first}

word-chosen : (field : List ℕ) (a b : BranchWord) → is_word field (branch_word a) ≡ true → Some a ≡ Some b → field ≡ branch_word b
word-chosen field a b test is = same-word field (branch_word a) test ∙ ap branch_word (some_is is)

branch_of-spelled : (field : List ℕ) (word : BranchWord) → branch_of field ≡ Some word → field ≡ branch_word word
unfolding branch_of
branch_of-spelled field word h =
    some_choice (is_word field (codes "if")) _ _ word h (word-chosen field If word) (λ _ h.
    some_choice (is_word field (codes "while")) _ _ word h (word-chosen field While word) (λ _ h.
    some_choice (is_word field (codes "do")) _ _ word h (word-chosen field Do word) (λ _ h.
    some_choice (is_word field (codes "for")) _ _ word h (word-chosen field For word) (λ _ h.
    some_choice (is_word field (codes "?:")) _ _ word h (word-chosen field Question word) (λ _ h.
    some_choice (is_word field (codes "&&")) _ _ word h (word-chosen field AndAnd word) (λ _ h.
    some_choice (is_word field (codes "||")) _ _ word h (word-chosen field OrOr word) (λ _ h. absurd cc)))))))

branch_of-word : (word : BranchWord) → branch_of (branch_word word) ≡ Some word
unfolding branch_of
branch_of-word If = refl
branch_of-word While = refl
branch_of-word Do = refl
branch_of-word For = refl
branch_of-word Question = refl
branch_of-word AndAnd = refl
branch_of-word OrOr = refl

is_field-branch : (word : BranchWord) → IsField (branch_word word)
is_field-branch If = refl
is_field-branch While = refl
is_field-branch Do = refl
is_field-branch For = refl
is_field-branch Question = refl
is_field-branch AndAnd = refl
is_field-branch OrOr = refl

slot_of-spelled : (field : List ℕ) (slot : Slot) → slot_of field ≡ Some slot → field ≡ slot_word slot
unfolding slot_of
slot_of-spelled [] slot h = absurd cc
slot_of-spelled (letter ∷ digits) slot h =
    some_choice (letter == 108) _ _ slot h (λ test h. mapped Local _ slot h (λ index is same.
    ap (λ b. b ∷ digits) (eqb-true letter 108 test) ∙ ap (λ ds. 108 ∷ ds) (number_of-spelled greatest_u32 digits index is).0 ∙ ap slot_word same)) (λ _ h.
    some_choice (letter == 103) _ _ slot h (λ test h. mapped Global _ slot h (λ index is same.
    ap (λ b. b ∷ digits) (eqb-true letter 103 test) ∙ ap (λ ds. 103 ∷ ds) (number_of-spelled greatest_u32 digits index is).0 ∙ ap slot_word same)) (λ _ none. absurd cc))

-- the number of a variable has 32 bits
unfoldable pub IsSmallSlot : Slot → Type 0
IsSmallSlot (Local index) = index ≤ greatest_u32
IsSmallSlot (Global index) = index ≤ greatest_u32

slot_of-word : (slot : Slot) → IsSmallSlot slot → slot_of (slot_word slot) ≡ Some slot
unfolding slot_of IsSmallSlot
slot_of-word (Local index) h = rw (small-read index h) refl
slot_of-word (Global index) h = rw (small-read index h) refl

is_field-slot : (slot : Slot) → IsSmallSlot slot → IsField (slot_word slot)
unfolding IsSmallSlot
is_field-slot (Local index) h = IsField-decimal index (omega (arith, h))
is_field-slot (Global index) h = IsField-decimal index (omega (arith, h))

partner_of-spelled : (fields : List (List ℕ)) (p : Partner) → partner_of fields ≡ Some p → fields ≡ partner_fields p
partner_of-spelled (first ∷ second ∷ []) p h =
    some_choice (is_word second (codes "k")) _ _ p h (λ test h. mapped Constant _ p h (λ value is same.
    ap (λ s. first ∷ s ∷ []) (same-word second _ test) ∙ ap (λ f. f ∷ codes "k" ∷ []) (signed_of-spelled first value is).0 ∙ ap partner_fields same)) (λ _ h.
    option_and_then_some _ (name_of first) p h (λ name is_name h. mapped (Variable name) _ p h (λ slot is_slot same.
    ap (λ f. f ∷ second ∷ []) (name_of-spelled first name is_name).0 ∙ ap (λ s. name ∷ s ∷ []) (slot_of-spelled second slot is_slot) ∙ ap partner_fields same)))
partner_of-spelled fields p h = absurd cc

unfoldable pub IsSmallPartner : Partner → Type 0
IsSmallPartner (Variable name slot) = IsName name × IsSmallSlot slot
IsSmallPartner (Constant value) = FitsSigned w64 value

not-k : (slot : Slot) → slot_word slot ≡ codes "k" → ⊥
not-k (Local index) e = other-first 108 107 (decimal index) [] (λ h. omega (arith, h)) e
not-k (Global index) e = other-first 103 107 (decimal index) [] (λ h. omega (arith, h)) e

partner_of-fields : (p : Partner) → IsSmallPartner p → partner_of (partner_fields p) ≡ Some p
unfolding IsSmallPartner
partner_of-fields (Variable name slot) h =
    rw (other-word (slot_word slot) (codes "k") (not-k slot), name_of-name name h.0, slot_of-word slot h.1) refl
partner_of-fields (Constant value) h = rw (signed_of-signed value h) refl

are_fields-partner : (p : Partner) → IsSmallPartner p → AllByRecursion IsField (partner_fields p)
unfolding IsSmallPartner
are_fields-partner (Variable name slot) h = (IsField-name name h.0, (is_field-slot slot h.1, tt))
are_fields-partner (Constant value) h = (IsField-signed value h, (refl, tt))

kind-spelled : (word : List ℕ) (fields : List (List ℕ)) (k : SiteKind) → site_kind_of word fields ≡ Some k → word ∷ fields ≡ kind_name k ∷ kind_fields k
kind-spelled word fields k h =
    some_choice (is_word word (codes "branch")) _ _ k h (λ test h. ap (λ w. w ∷ fields) (same-word word _ test) ∙ branches fields h) (λ _ h.
    some_choice (is_word word (codes "return")) _ _ k h (λ test h. ap (λ w. w ∷ fields) (same-word word _ test) ∙ returns fields h) (λ _ h.
    some_choice (is_word word (codes "pair")) _ _ k h (λ test h. ap (λ w. w ∷ fields) (same-word word _ test) ∙ pairs fields h) (λ _ none. absurd cc)))
  where
    branches : (fields : List (List ℕ)) → branch_fields fields ≡ Some k → codes "branch" ∷ fields ≡ kind_name k ∷ kind_fields k
    branches [] h = absurd cc
    branches (field ∷ []) h = mapped Branch (branch_of field) k h (λ b is same. ap (λ f. codes "branch" ∷ f ∷ []) (branch_of-spelled field b is) ∙ ap (λ l. kind_name l ∷ kind_fields l) same)
    branches (field ∷ next ∷ more) h = absurd cc

    returns : (fields : List (List ℕ)) → return_fields fields ≡ Some k → codes "return" ∷ fields ≡ kind_name k ∷ kind_fields k
    returns [] h = absurd cc
    returns (field ∷ []) h = mapped Return (name_of field) k h (λ n is same. ap (λ f. codes "return" ∷ f ∷ []) (name_of-spelled field n is).0 ∙ ap (λ l. kind_name l ∷ kind_fields l) same)
    returns (field ∷ next ∷ more) h = absurd cc

    pairs : (fields : List (List ℕ)) → pair_fields fields ≡ Some k → codes "pair" ∷ fields ≡ kind_name k ∷ kind_fields k
    pairs [] h = absurd cc
    pairs (target ∷ []) h = absurd cc
    pairs (target ∷ place ∷ rest) h =
        option_and_then_some _ (name_of target) k h (λ n is_n h. option_and_then_some _ (slot_of place) k h (λ s is_s h. mapped (Pair n s) (partner_of rest) k h (λ p is_p same.
        ap (λ f. codes "pair" ∷ f ∷ place ∷ rest) (name_of-spelled target n is_n).0 ∙ ap (λ f. codes "pair" ∷ n ∷ f ∷ rest) (slot_of-spelled place s is_s)
        ∙ ap (λ fs. codes "pair" ∷ n ∷ slot_word s ∷ fs) (partner_of-spelled rest p is_p) ∙ ap (λ l. kind_name l ∷ kind_fields l) same)))

unfoldable pub IsSmallKind : SiteKind → Type 0
IsSmallKind (Branch word) = Unit {0}
IsSmallKind (Return callee) = IsName callee
IsSmallKind (Pair target slot partner) = IsName target × (IsSmallSlot slot × IsSmallPartner partner)

kind_of-fields : (k : SiteKind) → IsSmallKind k → site_kind_of (kind_name k) (kind_fields k) ≡ Some k
unfolding IsSmallKind
kind_of-fields (Branch word) h = rw (branch_of-word word) refl
kind_of-fields (Return callee) h = rw (name_of-name callee h) refl
kind_of-fields (Pair target slot partner) h = rw (name_of-name target h.0, slot_of-word slot h.1.0, partner_of-fields partner h.1.1) refl

is_field-name : (k : SiteKind) → IsField (kind_name k)
is_field-name (Branch word) = refl
is_field-name (Return callee) = refl
is_field-name (Pair target slot partner) = refl

are_fields-kind : (k : SiteKind) → IsSmallKind k → AllByRecursion IsField (kind_fields k)
unfolding IsSmallKind
are_fields-kind (Branch word) h = (is_field-branch word, tt)
are_fields-kind (Return callee) h = (IsField-name callee h, tt)
are_fields-kind (Pair target slot partner) h = (IsField-name target h.0, (is_field-slot slot h.1.0, are_fields-partner partner h.1.1))

-- the numbers of a site have the sizes that its fields have
pub record IsSmallSite (s : Site) : Type 0 where
  pub function : s.function ≤ greatest_u32
  pub line : s.line ≤ greatest_u32
  pub token : s.token ≤ greatest_u32
  pub kind : IsSmallKind s.kind

site-from : (fields : List (List ℕ)) (parts : (List ℕ × (ℕ × (ℕ × ℕ))) × List (List ℕ)) → site_parts fields ≡ Some parts → fields ≡ codes "site" ∷ parts.0.0 ∷ decimal parts.0.1.0 ∷ decimal parts.0.1.1.0 ∷ decimal parts.0.1.1.1 ∷ parts.1
unfolding site_parts
site-from [] parts h = absurd cc
site-from (a ∷ []) parts h = absurd cc
site-from (a ∷ b ∷ []) parts h = absurd cc
site-from (a ∷ b ∷ c ∷ []) parts h = absurd cc
site-from (a ∷ b ∷ c ∷ d ∷ []) parts h = absurd cc
site-from (word ∷ kind ∷ function ∷ line ∷ token ∷ rest) parts h =
    some_choice (is_word word (codes "site")) _ _ parts h (λ test h.
    option_and_then_some _ (number_of greatest_u32 function) parts h (λ f is_f h. option_and_then_some _ (number_of greatest_u32 line) parts h (λ l is_l h. mapped _ (number_of greatest_u32 token) parts h (λ t is_t same.
    ap (λ w. w ∷ kind ∷ function ∷ line ∷ token ∷ rest) (same-word word _ test)
    ∙ ap (λ x. codes "site" ∷ kind ∷ x ∷ line ∷ token ∷ rest) (number_of-spelled greatest_u32 function f is_f).0
    ∙ ap (λ x. codes "site" ∷ kind ∷ decimal f ∷ x ∷ token ∷ rest) (number_of-spelled greatest_u32 line l is_l).0
    ∙ ap (λ x. codes "site" ∷ kind ∷ decimal f ∷ decimal l ∷ x ∷ rest) (number_of-spelled greatest_u32 token t is_t).0
    ∙ ap (λ (p : (List ℕ × (ℕ × (ℕ × ℕ))) × List (List ℕ)). codes "site" ∷ p.0.0 ∷ decimal p.0.1.0 ∷ decimal p.0.1.1.0 ∷ decimal p.0.1.1.1 ∷ p.1) same)))) (λ _ none. absurd cc)

cons-parts : {A : Type 0} (x y : A) (xs ys : List A) → x ∷ xs ≡ y ∷ ys → (x ≡ y) × (xs ≡ ys)
cons-parts x y xs ys e = (cc, cc)

pub site_of_row-spelled : (fields : List (List ℕ)) (s : Site) → site_of_row fields ≡ Some s → fields ≡ site_fields s
unfolding site_of_row
site_of_row-spelled fields s h =
    option_and_then_some _ (site_parts fields) s h (λ parts is_parts h. mapped _ (site_kind_of parts.0.0 parts.1) s h (λ k is_k same.
    let e = cons-parts _ _ _ _ (kind-spelled parts.0.0 parts.1 k is_k) in
    site-from fields parts is_parts
    ∙ ap (λ w. codes "site" ∷ w ∷ decimal parts.0.1.0 ∷ decimal parts.0.1.1.0 ∷ decimal parts.0.1.1.1 ∷ parts.1) e.0
    ∙ ap (λ fs. codes "site" ∷ kind_name k ∷ decimal parts.0.1.0 ∷ decimal parts.0.1.1.0 ∷ decimal parts.0.1.1.1 ∷ fs) e.1
    ∙ ap site_fields same))

pub site_of_row-fields : (s : Site) → IsSmallSite s → site_of_row (site_fields s) ≡ Some s
unfolding site_of_row site_parts
site_of_row-fields s h =
    rw (small-read s.function h.function, small-read s.line h.line, small-read s.token h.token, kind_of-fields s.kind h.kind) refl

pub are_fields-site : (s : Site) → IsSmallSite s → AllByRecursion IsField (site_fields s)
are_fields-site s h =
    (refl, (is_field-name s.kind, (IsField-decimal s.function (omega (arith, h.function)), (IsField-decimal s.line (omega (arith, h.line)), (IsField-decimal s.token (omega (arith, h.token)), are_fields-kind s.kind h.kind)))))
