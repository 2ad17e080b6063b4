-- What is held of a run, one edit after another.
use Rattle.std.proofs.Common.{◌≡◌, ◌≢◌, ◌⊎◌, ⊎_elim, inl, inr, ℕ, Bool, true, false, cond, not, ◌==◌, List, [], ◌∷◌, ◌++◌, Option, None, Some, reverse, ap, sym, ◌∙◌, refl, append_assoc, arith}
use Rattle.std.specs.List.{take_while}
use Rattle.std.specs.Option.{option_map}
use Rattle.std.proofs.lemmas.Bool.{eqb-true}
use Rattle.std.proofs.lemmas.Bool.Decides.{nat_tests}
use Rattle.std.proofs.lemmas.List.{append-nil, reverse-append}
use Rattle.std.proofs.lemmas.List.Sums.{take_while-cons}
use Rattle.base_lists.proofs.Numbers.{other_number}
use Rattle.report_file.specs.declared.label.Label.{Label}
use Rattle.report_file.specs.declared.report.Report.{Report}
use Rattle.session_edits.specs.Held.{behind_removal, first_added, last_label, is_removal_of, report_held}
use Rattle.session_edits.specs.declared.edit.Edit.{Edit}
use Rattle.session_edits.specs.declared.edit.Edit.TheVariants.{Add, Remove, Relabel, Rank}
use Rattle.session_laws.specs.Accepted.{AreApart, IsOf}

abbrev pub with_label : Label → Report → Report
with_label label r = record r { label = label }

-- what an edit makes of what is held of a run
abbrev pub step : ℕ → Edit → Option Report → Option Report
step run (Add r) None = cond (run == r.run) (Some r) None
step run (Add r) (Some x) = Some x
step run (Remove other) o = cond (run == other) None o
step run (Relabel other label) o = cond (run == other) (option_map (with_label label) o) o
step run Rank o = o

abbrev pub steps : ℕ → List Edit → Option Report → Option Report
steps run [] o = o
steps run (e ∷ more) o = steps run more (step run e o)

label-more : (run : ℕ) (label : Label) (xs ys : List Edit) → last_label run label (xs ++ ys) ≡ last_label run (last_label run label xs) ys
label-more run label [] ys = refl
label-more run label (Add r ∷ xs) ys = label-more run label xs ys
label-more run label (Remove other ∷ xs) ys = label-more run label xs ys
label-more run label (Relabel other another ∷ xs) ys = label-more run (cond (run == other) another label) xs ys
label-more run label (Rank ∷ xs) ys = label-more run label xs ys

-- behind edits that add the run, or that don't
abbrev then_more : ℕ → List Edit → Option Report → Option Report
then_more run ys None = first_added run ys
then_more run ys (Some x) = Some (with_label (last_label run x.label ys) x)

first-tests : (b : Bool) (run : ℕ) (r : Report) (xs ys : List Edit) → first_added run (xs ++ ys) ≡ then_more run ys (first_added run xs) → cond b (Some (with_label (last_label run r.label (xs ++ ys)) r)) (first_added run (xs ++ ys)) ≡ then_more run ys (cond b (Some (with_label (last_label run r.label xs) r)) (first_added run xs))
first-tests true run r xs ys rest = ap (λ (l : Label). Some (with_label l r)) (label-more run r.label xs ys)
first-tests false run r xs ys rest = rest

first-more : (run : ℕ) (xs ys : List Edit) → first_added run (xs ++ ys) ≡ then_more run ys (first_added run xs)
first-more run [] ys = refl
first-more run (Add r ∷ xs) ys = first-tests (run == r.run) run r xs ys (first-more run xs ys)
first-more run (Remove other ∷ xs) ys = first-more run xs ys
first-more run (Relabel other label ∷ xs) ys = first-more run xs ys
first-more run (Rank ∷ xs) ys = first-more run xs ys

abbrev stays : ℕ → Edit → Bool
stays run e = not (is_removal_of run e)

behind-tests : (b : Bool) (run : ℕ) (xs : List Edit) (e : Edit) → reverse (cond b (e ∷ take_while (stays run) (reverse xs)) []) ≡ cond b (behind_removal run xs ++ e ∷ []) []
behind-tests true run xs e = reverse-append (e ∷ []) (take_while (stays run) (reverse xs))
behind-tests false run xs e = refl

behind-more : (run : ℕ) (xs : List Edit) (e : Edit) → behind_removal run (xs ++ e ∷ []) ≡ cond (stays run e) (behind_removal run xs ++ e ∷ []) []
behind-more run xs e =
    ap (λ l. reverse (take_while (stays run) l)) (reverse-append xs (e ∷ [])) ∙ ap reverse (take_while-cons (stays run) e (reverse xs)) ∙ behind-tests (stays run e) run xs e

add-one : (run : ℕ) (r : Report) (o : Option Report) → then_more run (Add r ∷ []) o ≡ step run (Add r) o
add-one run r None = refl
add-one run r (Some x) = refl

relabel-tests : (b : Bool) (run : ℕ) (label : Label) (o : Option Report) → (let P : Option Report → Option Report = λ o. elim o [ None ↦ None | Some x ↦ Some (with_label (cond b label x.label) x) ] in P o) ≡ cond b (option_map (with_label label) o) o
relabel-tests true run label None = refl
relabel-tests true run label (Some x) = refl
relabel-tests false run label None = refl
relabel-tests false run label (Some x) = refl

relabel-one : (run other : ℕ) (label : Label) (o : Option Report) → then_more run (Relabel other label ∷ []) o ≡ step run (Relabel other label) o
relabel-one run other label None = relabel-tests (run == other) run label None
relabel-one run other label (Some x) = relabel-tests (run == other) run label (Some x)

same-one : (run other : ℕ) (o : Option Report) → then_more run (Remove other ∷ []) o ≡ o
same-one run other None = refl
same-one run other (Some x) = refl

rank-one : (run : ℕ) (o : Option Report) → then_more run (Rank ∷ []) o ≡ o
rank-one run None = refl
rank-one run (Some x) = refl

remove-tests : (b : Bool) (run other : ℕ) (xs : List Edit) → first_added run (cond (not b) (behind_removal run xs ++ Remove other ∷ []) []) ≡ cond b None (report_held run xs)
remove-tests true run other xs = refl
remove-tests false run other xs = first-more run (behind_removal run xs) (Remove other ∷ []) ∙ same-one run other (report_held run xs)

-- what is held after one edit more
pub held-step : (run : ℕ) (xs : List Edit) (e : Edit) → report_held run (xs ++ e ∷ []) ≡ step run e (report_held run xs)
held-step run xs (Add r) = ap (first_added run) (behind-more run xs (Add r)) ∙ first-more run (behind_removal run xs) (Add r ∷ []) ∙ add-one run r (report_held run xs)
held-step run xs (Remove other) = ap (first_added run) (behind-more run xs (Remove other)) ∙ remove-tests (run == other) run other xs
held-step run xs (Relabel other label) = ap (first_added run) (behind-more run xs (Relabel other label)) ∙ first-more run (behind_removal run xs) (Relabel other label ∷ []) ∙ relabel-one run other label (report_held run xs)
held-step run xs Rank = ap (first_added run) (behind-more run xs Rank) ∙ first-more run (behind_removal run xs) (Rank ∷ []) ∙ rank-one run (report_held run xs)

held-steps : (run : ℕ) (ys xs : List Edit) → report_held run (xs ++ ys) ≡ steps run ys (report_held run xs)
held-steps run [] xs = ap (report_held run) (append-nil xs)
held-steps run (e ∷ ys) xs = ap (report_held run) (sym (append_assoc xs (e ∷ []) ys)) ∙ held-steps run ys (xs ++ e ∷ []) ∙ ap (steps run ys) (held-step run xs e)

pub step-other : (run : ℕ) (e : Edit) (o : Option Report) → (IsOf run e → ⊥) → step run e o ≡ o
step-other run (Add r) None other = ap (λ b. cond b (Some r) None) (other_number run r.run other)
step-other run (Add r) (Some x) other = refl
step-other run (Remove gone) o other = ap (λ b. cond b None o) (other_number run gone other)
step-other run (Relabel gone label) o other = ap (λ b. cond b (option_map (with_label label) o) o) (other_number run gone other)
step-other run Rank o other = refl

-- whether an edit is of a run
number-of : (b : Bool) (m n : ℕ) → (m == n) ≡ b → (m ≡ n) ⊎ (m ≢ n)
number-of true m n test = inl (eqb-true m n test)
number-of false m n test = inr (λ e. grind (arith, nat_tests))

pub is-of : (run : ℕ) (e : Edit) → IsOf run e ⊎ (IsOf run e → ⊥)
is-of run (Add r) = number-of (run == r.run) run r.run refl
is-of run (Remove other) = number-of (run == other) run other refl
is-of run (Relabel other label) = number-of (run == other) run other refl
is-of run Rank = inr (λ is. is)

apart-steps : (run : ℕ) (one other : Edit) (o : Option Report) → AreApart one other → step run other (step run one o) ≡ step run one (step run other o)
apart-steps run one other o apart =
    ⊎_elim (λ (is : IsOf run one). step-other run other (step run one o) (apart run is) ∙ ap (step run one) (sym (step-other run other o (apart run is))))
    (λ (not : IsOf run one → ⊥). ap (step run other) (step-other run one o not) ∙ sym (step-other run one (step run other o) not)) (is-of run one)

pub places-change : (run : ℕ) (before after : List Edit) (one other : Edit) → AreApart one other → report_held run (before ++ one ∷ other ∷ after) ≡ report_held run (before ++ other ∷ one ∷ after)
places-change run before after one other apart =
    held-steps run (one ∷ other ∷ after) before ∙ ap (steps run after) (apart-steps run one other (report_held run before) apart) ∙ sym (held-steps run (other ∷ one ∷ after) before)
