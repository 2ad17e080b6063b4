-- Where paths go.
use Rattle.std.proofs.Common.{◌≡◌, ℕ, zero, suc, ◌<◌, Bool, true, false, if◌then◌else◌, [], ◌∷◌, Some, slice_get, ap, subst, arith}
use Rattle.std.specs.List.{Contains}
use Rattle.base_lists.proofs.Every.{none_in, only_in}
use Rattle.flow.specs.declared.node.View.{View}
use Rattle.flow.specs.declared.node.View.TheVariants.{Row, Forks, Turns, Calls, Marks, Skips, Tests, Picks, Imports, Exports}
use Rattle.flow.specs.declared.program.Function.{Function}
use Rattle.flow.specs.declared.program.ProgramParts.{ProgramParts}
use Rattle.flow.specs.Words.{view_in, code_of, LeadsOn, led_to, IsProgram}
use Rattle.flow.proofs.Programs.{code_fits}
use Rattle.regions.proofs.Within.{leads_within}
use Rattle.regions.specs.Weighty.{views_of}
use Rattle.weights.specs.Paths.{next_nodes}
use Rattle.weights.specs.Weight.{IsForward}

after_call : (b : Bool) (next x : ℕ) → Contains (if b then [] else next ∷ []) x → Contains (next ∷ []) x
after_call true next x c = absurd (none_in x c)
after_call false next x c = c

-- a path goes where the node leads
pub path_leads : (weighty : ℕ → Bool) (v : View) (x : ℕ) → Contains (next_nodes weighty v) x → Contains (led_to v) x
path_leads weighty (Turns next) x c = absurd (none_in x c)
path_leads weighty (Calls function next) x c = after_call (weighty function) next x c
path_leads weighty v x c = c

later_one : (place a x : ℕ) → place < a → Contains (a ∷ []) x → place < x
later_one place a x l c = omega (arith, only_in a x c)

later_two : (place a b x : ℕ) → place < a → place < b → Contains (a ∷ b ∷ []) x → place < x
later_two place a b x l m (zero, n, e) = omega (arith, e)
later_two place a b x l m (suc k, n, e) = let r = only_in b x (k, omega arith, e) in omega (arith, r)

-- and to later nodes alone
pub path_later : (weighty : ℕ → Bool) (place : ℕ) (v : View) (x : ℕ) → LeadsOn place v → Contains (next_nodes weighty v) x → place < x
path_later weighty place (Calls function next) x h c = later_one place next x h.0 (after_call (weighty function) next x c)
path_later weighty place (Row op next) x h c = later_one place next x h.0 c
path_later weighty place (Forks when_true when_false) x h c = later_two place when_true when_false x (h.0).0 (h.1).0 c
path_later weighty place (Marks site next) x h c = later_one place next x h.0 c
path_later weighty place (Skips by next) x h c = later_one place next x h.0 c
path_later weighty place (Tests site next) x h c = later_one place next x h.0 c
path_later weighty place (Picks weight fast slow) x h c = later_two place fast slow x (h.0).0 (h.1).0 c
path_later weighty place (Imports next) x h c = later_one place next x h.0 c
path_later weighty place (Exports next) x h c = later_one place next x h.0 c
path_later weighty place v x h c = absurd (none_in x c)

-- so it is in each function of a program
pub forward : (p : ProgramParts) (weighty : ℕ → Bool) (number : ℕ) (f : Function) → IsProgram p → slice_get p.functions number ≡ Some f → IsForward weighty f.nodes
forward p weighty number f is e = record {
  later = λ place next c.
      let ones : ℕ → ℕ = λ k. 1 in
      let there : (code_of p ones).at number place ≡ views_of f.nodes place = ap (λ o. view_in o place) e in
      path_later weighty place (views_of f.nodes place) next (subst (λ (v : View). LeadsOn place v) there (code_fits p ones number place is).leads) c;
  within = λ place next c. leads_within p number f is e place next (path_leads weighty (views_of f.nodes place) next c);
}
