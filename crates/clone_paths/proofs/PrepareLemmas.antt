-- What is known of each function of a program before it is cloned.
use Rattle.std.proofs.Common.{◌≡◌, ◌⊎◌, inl, inr, ℕ, ◌<◌, ◌≤◌, Bool, true, false, List, length, Some, slice_get, Vec, refl, ap, subst, arith}
use Rattle.std.specs.declared.alloc.Global.{Global}
use Rattle.std.specs.List.{Contains}
use Rattle.std.proofs.lemmas.List.Elements.{All-get_or}
use Rattle.std.proofs.lemmas.List.Sums.{get_or-le-sum_by}
use Rattle.std.proofs.lemmas.Option.{get_or_from_slice_get, slice_get_within}
use Rattle.flow.specs.declared.program.Function.{Function}
use Rattle.flow.specs.declared.program.ProgramParts.{ProgramParts}
use Rattle.flow.specs.declared.node.View.{View}
use Rattle.flow.specs.declared.node.View.TheVariants.{Turns}
use Rattle.flow.specs.Words.{code_of, view_in, LeadsOn, led_to, IsProgram, ArePlain}
use Rattle.flow.proofs.Programs.{code_fits}
use Rattle.regions.specs.Flags.{AreFlags, is_in}
use Rattle.regions.specs.Headers.{HeadersFit, IsHeader}
use Rattle.regions.specs.Weighty.{views_of}
use Rattle.regions.proofs.Within.{leads_within}
use Rattle.weights.proofs.PathLemmas.{path_later}
use Rattle.clone_paths.specs.Cloned.{MayClone, cloned_limit}
use Rattle.clone_paths.specs.Parts.{HasOrder}

later_view : (place : ℕ) (v : View) (x : ℕ) → LeadsOn place v → Contains (led_to v) x → place < x ⊎ ((again : ℕ) × (v ≡ Turns again))
later_view place (Turns next) x h c = inr (next, refl)
later_view place v x h c = inl (path_later (λ g. false) place v x h c)

pub order_of : (p : ProgramParts) (number : ℕ) (f : Function) → IsProgram p → slice_get p.functions number ≡ Some f → HasOrder f.nodes
order_of p number f is e = record {
  within = leads_within p number f is e;
  later = λ place x c.
      let ones : ℕ → ℕ = λ k. 1 in
      let there : (code_of p ones).at number place ≡ views_of f.nodes place = ap (λ o. view_in o place) e in
      later_view place (views_of f.nodes place) x (subst (λ (v : View). LeadsOn place v) there (code_fits p ones number place is).leads) c;
}

pub few_of : (p : ProgramParts) (number : ℕ) (f : Function) → MayClone p → slice_get p.functions number ≡ Some f → length f.nodes ≤ cloned_limit
few_of p number f may e =
    let within = slice_get_within p.functions number f e in
    let most = get_or-le-sum_by (λ (g : Function). length g.nodes) p.functions number f within in
    let same = get_or_from_slice_get p.functions number f f e in
    omega (arith, most, ap (λ (g : Function). length g.nodes) same, may.few)

pub plain_of : (p : ProgramParts) (number : ℕ) (f : Function) → MayClone p → slice_get p.functions number ≡ Some f → ArePlain f.nodes
plain_of p number f may e =
    let within = slice_get_within p.functions number f e in
    subst (λ (g : Function). ArePlain g.nodes) (get_or_from_slice_get p.functions number f f e) (All-get_or (λ (g : Function). ArePlain g.nodes) p.functions number f within may.plain)

-- in a weighty function the flags are those of its headers
pub headers_of_weighty : (weighty : List Bool) (number : ℕ) (f : Function) (flags : Vec Bool Global) → is_in weighty number ≡ true → HeadersFit weighty number f flags →
    AreFlags (length f.nodes) (IsHeader (is_in weighty) (views_of f.nodes)) flags.items
headers_of_weighty weighty number f flags w fits = record {
  few = fits.few;
  each = λ x. (λ h. ((fits.each x).0 h).1, λ h. (fits.each x).1 (w, h));
}
