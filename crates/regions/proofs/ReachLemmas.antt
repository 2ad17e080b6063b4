-- Functions are found one after another.
use Rattle.std.proofs.Common.{map, replicate, unwrap_or, Option, ◌≡◌, ◌⊎◌, inl, inr, ℕ, ◌+◌, ◌<◌, ◌≤◌, Bool, true, false, List, [], ◌∷◌, ◌++◌, length, get_or, set, take, refl, sym, ap, ◌∙◌, subst, arith, length-append, length-set, add-one, take-suc}
use Rattle.std.specs.List.{Contains}
use Rattle.std.proofs.Math.ListN.{get_or-append}
use Rattle.std.proofs.Math.Seq.{get_or-append_seam}
use Rattle.std.proofs.lemmas.Bool.{cases_lt}
use Rattle.std.proofs.lemmas.List.Elements.{All-contains, All-map, Contains-append_left, Contains-push, Contains-push_cases}
use Rattle.std.proofs.lemmas.List.{get_or-replicate, length-replicate, length-map}
use Rattle.std.proofs.lemmas.Option.{get_or_from_slice_get, slice_get_past, slice_get_read, unwrap_or-slice_get}
use Rattle.flow.specs.declared.program.Function.{Function}
use Rattle.flow.specs.declared.site.Site.{Site}
use Rattle.flow.specs.Program.{IsProgram}
use Rattle.flow.proofs.Tables.{owners_fit}
use Rattle.flow.specs.declared.program.ProgramParts.{ProgramParts}
use Rattle.regions.specs.Callers.{Grew, function_callers}
use Rattle.regions.specs.Flags.{AreFlags, is_in}
use Rattle.regions.specs.Reach.{IsReach, Reached}
use Rattle.regions.specs.Weighty.{CallsTo, HasSite, IsWeighty, Own, Through}
use Rattle.regions.proofs.CallerLemmas.{caller_within}
use Rattle.regions.proofs.FlagLemmas.{count_set, in_within, set_kept, set_only, set_same}

-- one function is new
pub reached_one : (flags : List Bool) (order : List ℕ) (function : ℕ) → IsReach flags order → function < length flags → is_in flags function ≡ false →
    Reached flags order (set flags function true) (order ++ function ∷ []) (λ g. g ≡ function)
reached_one flags order function is l new =
    let more : length (order ++ function ∷ []) ≡ length order + 1 = length-append order (function ∷ []) in
    let kept : (k : ℕ) → k < length order → get_or (order ++ function ∷ []) k 0 ≡ get_or order k 0 = λ k lt. get_or-append order (function ∷ []) 0 k lt in
    let is_new : IsReach (set flags function true) (order ++ function ∷ []) = record {
      counted = let c = count_set flags function l new in let d = is.counted in omega arith;
      flagged = λ k lt. elim (cases_lt k (length order)) [
        | inl inside ↦ set_kept flags function (get_or (order ++ function ∷ []) k 0) l (ap (λ (n : ℕ). is_in flags n) (kept k inside) ∙ is.flagged k inside)
        | inr outside ↦
            let last : k ≡ length order = omega arith in
            set_same flags function (get_or (order ++ function ∷ []) k 0) (ap (λ (n : ℕ). get_or (order ++ function ∷ []) n 0) last ∙ get_or-append_seam order function [] 0) l
      ];
      listed = λ g h. elim (set_only flags function g h) [
        | inl e ↦ subst (λ (x : ℕ). Contains (order ++ function ∷ []) x) (sym e) (Contains-push order function)
        | inr e ↦ Contains-append_left order (function ∷ []) g (is.listed g e)
      ];
    }
    in
    record {
      is_reach = is_new;
      few = length-set flags function true;
      longer = omega arith;
      kept = kept;
      had = λ g h. set_kept flags function g l h;
      has = λ g lt e. set_same flags function g e l;
      only = λ g h. elim (set_only flags function g h) [ inl e ↦ inr e | inr e ↦ inl e ];
    }

pub reached_then : (f : List Bool) (o : List ℕ) (f' : List Bool) (o' : List ℕ) (f'' : List Bool) (o'' : List ℕ) (E F G : ℕ → Type 0) →
    Reached f o f' o' E → Reached f' o' f'' o'' F → ((g : ℕ) → G g → E g ⊎ F g) → ((g : ℕ) → E g → G g) → ((g : ℕ) → F g → G g) → Reached f o f'' o'' G
reached_then f o f' o' f'' o'' E F G p q split left right = record {
  is_reach = q.is_reach;
  few = q.few ∙ p.few;
  longer = let a = p.longer in let b = q.longer in omega arith;
  kept = λ k l. let a = p.longer in q.kept k (omega arith) ∙ p.kept k l;
  had = λ g h. q.had g (p.had g h);
  has = λ g l e. elim (split g e) [
    | inl x ↦ q.had g (p.has g l x)
    | inr x ↦ q.has g (subst (λ n. g < n) (sym p.few) l) x
  ];
  only = λ g h. elim (q.only g h) [
    | inl x ↦ elim (p.only g x) [ inl y ↦ inl y | inr y ↦ inr (left g y) ]
    | inr x ↦ inr (right g x)
  ];
}

-- the next of some functions, after those before it
pub reached_next : (f : List Bool) (o : List ℕ) (f' : List Bool) (o' : List ℕ) (f'' : List Bool) (o'' : List ℕ) (functions : List ℕ) (i : ℕ) → i < length functions →
    Reached f o f' o' (Contains (take i functions)) → Reached f' o' f'' o'' (λ g. g ≡ get_or functions i 0) →
    Reached f o f'' o'' (Contains (take (i + 1) functions))
reached_next f o f' o' f'' o'' functions i l p q =
    let more : take (i + 1) functions ≡ take i functions ++ get_or functions i 0 ∷ [] = rw add-one (take-suc functions i 0 l) in
    subst (λ (xs : List ℕ). Reached f o f'' o'' (Contains xs)) (sym more)
    (reached_then f o f' o' f'' o'' (Contains (take i functions)) (λ g. g ≡ get_or functions i 0) (Contains (take i functions ++ get_or functions i 0 ∷ [])) p q
    (λ g h. elim (Contains-push_cases (take i functions) (get_or functions i 0) g h) [ inl x ↦ inl x | inr x ↦ inr (sym x) ])
    (λ g h. Contains-append_left (take i functions) (get_or functions i 0 ∷ []) g h)
    (λ g h. subst (λ (x : ℕ). Contains (take i functions ++ get_or functions i 0 ∷ []) x) (sym h) (Contains-push (take i functions) (get_or functions i 0))))

-- what is known after so many functions were looked at: those that were found are weighty, those with a site were found, and so were the
-- callers of the functions that were looked at
pub record Spread (p : ProgramParts) (flags : List Bool) (order : List ℕ) (done : ℕ) : Type 0 where
  pub is_reach : IsReach flags order
  pub few : length flags ≡ length p.functions
  pub reached : done ≤ length order
  pub sound : (g : ℕ) → is_in flags g ≡ true → IsWeighty p g
  pub own : (g : ℕ) → g < length p.functions → HasSite p.sites g → is_in flags g ≡ true
  pub callers : (place caller : ℕ) → place < done → CallsTo p.functions caller (get_or order place 0) → is_in flags caller ≡ true

no_row : (n g : ℕ) → let empty : List ℕ = [] in function_callers (replicate n empty) g ≡ []
no_row n g =
    let empty : List ℕ = [] in
    elim (cases_lt g n) [
      | inl l ↦ get_or-replicate n g empty empty l
      | inr l ↦
          let past : length (replicate n empty) ≤ g = omega (arith, length-replicate n empty, l) in
          sym (unwrap_or-slice_get (replicate n empty) g empty) ∙ ap (λ (o : Option (List ℕ)). unwrap_or o empty) (slice_get_past (replicate n empty) g past)
    ]

-- only a function of the program has a site
pub site_within : (p : ProgramParts) (g : ℕ) → IsProgram p → HasSite p.sites g → g < length p.functions
site_within p g is h =
    let names : List (List ℕ) = map (λ (f : Function). f.name) p.functions in
    let owners = (owners_fit p names is refl).owners in
    let l : g < length names =
    All-contains (λ (k : ℕ). k < length names) (map (λ (s : Site). s.function) p.sites) g
    (All-map (λ (k : ℕ). k < length names) (λ (s : Site). s.function) p.sites owners) h
    in
    subst (λ (n : ℕ). g < n) (length-map p.functions (λ (f : Function). f.name)) l

-- at the start: the functions with a site
pub spread_start : (p : ProgramParts) (flags : List Bool) (order : List ℕ) → IsReach flags order → length flags ≡ length p.functions →
    ((g : ℕ) → g < length p.functions → HasSite p.sites g → is_in flags g ≡ true) → ((g : ℕ) → is_in flags g ≡ true → HasSite p.sites g) →
    Spread p flags order 0
spread_start p flags order is few has only = record {
  is_reach = is;
  few = few;
  reached = omega arith;
  sound = λ g h. Own (only g h);
  own = has;
  callers = λ place caller l c. absurd (omega arith);
}

-- a function that was found is one of the program's
pub spread_within : (p : ProgramParts) (flags : List Bool) (order : List ℕ) (done : ℕ) → Spread p flags order done → done < length order →
    get_or order done 0 < length p.functions
spread_within p flags order done s l = omega (arith, in_within flags (get_or order done 0) (s.is_reach.flagged done l), s.few)

-- the callers of one function more were found
pub spread_more : (p : ProgramParts) (flags : List Bool) (order : List ℕ) (flags' : List Bool) (order' : List ℕ) (done : ℕ) (table : List (List ℕ)) →
    (let empty : List ℕ = [] in Grew (replicate (length p.functions) empty) table (λ g f. CallsTo p.functions f g)) → Spread p flags order done → done < length order →
    Reached flags order flags' order' (Contains (function_callers table (get_or order done 0))) → Spread p flags' order' (done + 1)
spread_more p flags order flags' order' done table grew s l q =
    let empty : List ℕ = [] in
    let here : ℕ = get_or order done 0 in
    let in_here : is_in flags here ≡ true = s.is_reach.flagged done l in
    let near : here < length flags = in_within flags here in_here in
    let near_table : here < length (replicate (length p.functions) empty) = omega (arith, near, s.few, length-replicate (length p.functions) empty) in
    record {
      is_reach = q.is_reach;
      few = q.few ∙ s.few;
      reached = let a = q.longer in omega arith;
      sound = λ g h. elim (q.only g h) [
        | inl old ↦ s.sound g old
        | inr c ↦ elim (grew.only here g c) [
          | inl none ↦ let nothing = subst (λ (xs : List ℕ). Contains xs g) (no_row (length p.functions) here) none in absurd (omega (arith, nothing.1))
          | inr calls ↦ Through calls (s.sound here in_here)
        ]
      ];
      own = λ g lt h. q.had g (s.own g lt h);
      callers = λ place caller lt c. elim (cases_lt place done) [
        | inl before ↦
            let inside : place < length order = omega arith in
            q.had caller (s.callers place caller before (subst (λ (g : ℕ). CallsTo p.functions caller g) (q.kept place inside) c))
        | inr after ↦
            let same : place ≡ done = omega arith in
            let from : get_or order' place 0 ≡ here = ap (λ (n : ℕ). get_or order' n 0) same ∙ q.kept done l in
            let calls : CallsTo p.functions caller here = subst (λ (g : ℕ). CallsTo p.functions caller g) from c in
            let inside : caller < length flags = omega (arith, caller_within p.functions caller here calls, s.few) in
            q.has caller inside (grew.has here caller near_table calls)
      ];
    }

-- each weighty function was found, once the callers of all that were found were looked at
complete : (p : ProgramParts) (flags : List Bool) (order : List ℕ) (done : ℕ) → IsProgram p → Spread p flags order done → length order ≤ done →
    {g : ℕ} → IsWeighty p g → is_in flags g ≡ true
complete p flags order done is s all (Own {function} h) = s.own function (site_within p function is h) h
complete p flags order done is s all (Through {function} {callee} c w) =
    let at = s.is_reach.listed callee (complete p flags order done is s all w) in
    let found : get_or order at.0 0 ≡ callee = get_or_from_slice_get order at.0 callee 0 (slice_get_read order (length order) at.0 callee refl at.1 (sym at.2)) in
    let inside : at.0 < done = omega (arith, at.1, all) in
    s.callers at.0 function inside (subst (λ (x : ℕ). CallsTo p.functions function x) (sym found) c)

pub spread_end : (p : ProgramParts) (flags : List Bool) (order : List ℕ) (done : ℕ) → IsProgram p → Spread p flags order done → length order ≤ done →
    AreFlags (length p.functions) (IsWeighty p) flags
spread_end p flags order done is s all = record {
  few = s.few;
  each = λ g. (s.sound g, λ w. complete p flags order done is s all w);
}
