-- Which line a line among the edits is, by its second byte.
use Rattle.std.proofs.Common.{◌≡◌, ◌≢◌, ◌⊎◌, ℕ, ⊎_elim, List, get_or, ap, ◌∙◌, refl, arith}
use Rattle.cbi_base.specs.Text.{line_of_fields}
use Rattle.session_edits.specs.declared.draft.Draft.{Draft}
use Rattle.session_edits.specs.declared.edit.Edit.{Edit}
use Rattle.session_edits.specs.declared.edit.Edit.TheVariants.{Add, Remove, Relabel, Rank}
use Rattle.session_edits.specs.Grammar.{AddFollows, AddedSiteFollows, ChangeFollows, EditsEndFollows, RankFollows}
use Rattle.session_edits.specs.Spelling.{IsChange, edit_fields}

pub second-add : (d : Draft) (line : List ℕ) (next : Draft) → AddFollows d line next → get_or line 1 0 ≡ 100
second-add d line next f = ap (λ l. get_or l 1 0) f.line_is

pub second-site : (d : Draft) (line : List ℕ) (next : Draft) → AddedSiteFollows d line next → get_or line 1 0 ≡ 105
second-site d line next f = ap (λ l. get_or l 1 0) f.line_is

second-fields : (change : Edit) → IsChange change → get_or (line_of_fields (edit_fields change)) 1 0 ≡ 101
second-fields (Add report) is = absurd is
second-fields (Remove run) is = refl
second-fields (Relabel run label) is = refl
second-fields Rank is = absurd is

pub second-change : (d : Draft) (line : List ℕ) (next : Draft) → ChangeFollows d line next → get_or line 1 0 ≡ 101
second-change d line next f = ap (λ l. get_or l 1 0) f.line_is ∙ second-fields f.value f.is_change

pub second-rank : (d : Draft) (line : List ℕ) (next : Draft) → RankFollows d line next → get_or line 1 0 ≡ 97
second-rank d line next f = ap (λ l. get_or l 1 0) f.line_is

pub second-end : (d : Draft) (line : List ℕ) (next : Draft) → EditsEndFollows d line next → get_or line 1 0 ≡ 110
second-end d line next f = ap (λ l. get_or l 1 0) f.line_is

abbrev pub AnyFollows : Draft → List ℕ → Draft → Type 0
AnyFollows d line next = AddFollows d line next ⊎ (AddedSiteFollows d line next ⊎ (ChangeFollows d line next ⊎ (RankFollows d line next ⊎ EditsEndFollows d line next)))

-- what a line among the edits gives, by its kind
pub by-kind : {P : Type 0} (d : Draft) (line : List ℕ) (next : Draft) → (AddFollows d line next → P) → (AddedSiteFollows d line next → P) → (ChangeFollows d line next → P) → (RankFollows d line next → P) → (EditsEndFollows d line next → P) → AnyFollows d line next → P
by-kind {P} d line next add site change rank over s =
    ⊎_elim add (λ (other : AddedSiteFollows d line next ⊎ (ChangeFollows d line next ⊎ (RankFollows d line next ⊎ EditsEndFollows d line next))).
    ⊎_elim site (λ (other : ChangeFollows d line next ⊎ (RankFollows d line next ⊎ EditsEndFollows d line next)).
    ⊎_elim change (λ (other : RankFollows d line next ⊎ EditsEndFollows d line next). ⊎_elim rank over other) other) other) s

-- of two numbers a line has one
apart : {P : Type 0} (line : List ℕ) (a b : ℕ) → get_or line 1 0 ≡ a → get_or line 1 0 ≡ b → a ≢ b → P
apart {P} line a b is_a is_b other = absurd (omega arith)

pub only-add : (d : Draft) (line : List ℕ) (next : Draft) → get_or line 1 0 ≡ 100 → AnyFollows d line next → AddFollows d line next
only-add d line next is s =
    by-kind d line next (λ f. f) (λ f. apart line 100 105 is (second-site d line next f) (omega arith)) (λ f. apart line 100 101 is (second-change d line next f) (omega arith)) (λ f. apart line 100 97 is (second-rank d line next f) (omega arith)) (λ f. apart line 100 110 is (second-end d line next f) (omega arith)) s

pub only-site : (d : Draft) (line : List ℕ) (next : Draft) → get_or line 1 0 ≡ 105 → AnyFollows d line next → AddedSiteFollows d line next
only-site d line next is s =
    by-kind d line next (λ f. apart line 105 100 is (second-add d line next f) (omega arith)) (λ f. f) (λ f. apart line 105 101 is (second-change d line next f) (omega arith)) (λ f. apart line 105 97 is (second-rank d line next f) (omega arith)) (λ f. apart line 105 110 is (second-end d line next f) (omega arith)) s

pub only-change : (d : Draft) (line : List ℕ) (next : Draft) → get_or line 1 0 ≡ 101 → AnyFollows d line next → ChangeFollows d line next
only-change d line next is s =
    by-kind d line next (λ f. apart line 101 100 is (second-add d line next f) (omega arith)) (λ f. apart line 101 105 is (second-site d line next f) (omega arith)) (λ f. f) (λ f. apart line 101 97 is (second-rank d line next f) (omega arith)) (λ f. apart line 101 110 is (second-end d line next f) (omega arith)) s

pub only-rank : (d : Draft) (line : List ℕ) (next : Draft) → get_or line 1 0 ≡ 97 → AnyFollows d line next → RankFollows d line next
only-rank d line next is s =
    by-kind d line next (λ f. apart line 97 100 is (second-add d line next f) (omega arith)) (λ f. apart line 97 105 is (second-site d line next f) (omega arith)) (λ f. apart line 97 101 is (second-change d line next f) (omega arith)) (λ f. f) (λ f. apart line 97 110 is (second-end d line next f) (omega arith)) s

-- a line whose second byte is none of the others'
pub only-end : (d : Draft) (line : List ℕ) (next : Draft) → get_or line 1 0 ≢ 100 → get_or line 1 0 ≢ 105 → get_or line 1 0 ≢ 101 → get_or line 1 0 ≢ 97 → AnyFollows d line next → EditsEndFollows d line next
only-end d line next no_add no_site no_change no_rank s =
    by-kind d line next (λ f. absurd (no_add (second-add d line next f))) (λ f. absurd (no_site (second-site d line next f))) (λ f. absurd (no_change (second-change d line next f))) (λ f. absurd (no_rank (second-rank d line next f))) (λ f. f) s
