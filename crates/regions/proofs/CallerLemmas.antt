-- Tables of callers grow by one pair after another.
use Rattle.std.proofs.Common.{◌≡◌, ◌⊎◌, inl, inr, ℕ, ◌+◌, ◌<◌, ◌≤◌, List, [], ◌∷◌, ◌++◌, length, set, replicate, Option, Some, None, slice_get, refl, sym, ap, ◌∙◌, subst, arith, get_or-set_other, length-set, get_or}
use Rattle.std.specs.List.{Contains}
use Rattle.std.proofs.lemmas.Bool.{cases_eq, cases_lt}
use Rattle.std.proofs.lemmas.Grind.{get_or-set_at}
use Rattle.std.proofs.lemmas.List.Elements.{Contains-append_left, Contains-push, Contains-push_cases}
use Rattle.std.proofs.lemmas.Option.{get_or_from_slice_get, slice_get_read, slice_get_within}
use Rattle.flow.specs.declared.node.Node.{Node}
use Rattle.flow.specs.declared.node.View.TheVariants.{Calls}
use Rattle.flow.specs.declared.program.Function.{Function}
use Rattle.flow.specs.Code.{view_at, view_in}
use Rattle.regions.specs.Callers.{CallsAmong, Grew, function_callers}
use Rattle.regions.specs.Weighty.{CallsTo, views_of}

-- one growth after another
pub grew_then : (a b c : List (List ℕ)) (E F G : ℕ → ℕ → Type 0) → Grew a b E → Grew b c F → ((g f : ℕ) → G g f → E g f ⊎ F g f) →
    ((g f : ℕ) → E g f → G g f) → ((g f : ℕ) → F g f → G g f) → Grew a c G
grew_then a b c E F G p q split left right = record {
  few = q.few ∙ p.few;
  had = λ g f h. q.had g f (p.had g f h);
  has = λ g f l e. elim (split g f e) [
    | inl x ↦ q.had g f (p.has g f l x)
    | inr x ↦ q.has g f (subst (λ n. g < n) (sym p.few) l) x
  ];
  only = λ g f h. elim (q.only g f h) [
    | inl x ↦ elim (p.only g f x) [ inl y ↦ inl y | inr y ↦ inr (left g f y) ]
    | inr x ↦ inr (right g f x)
  ];
}

pub grew_same : (a b : List (List ℕ)) (E G : ℕ → ℕ → Type 0) → Grew a b E → ((g f : ℕ) → G g f → E g f) → ((g f : ℕ) → E g f → G g f) → Grew a b G
grew_same a b E G p to from = record {
  few = p.few;
  had = p.had;
  has = λ g f l e. p.has g f l (to g f e);
  only = λ g f h. elim (p.only g f h) [ inl y ↦ inl y | inr y ↦ inr (from g f y) ];
}

-- one list grew at its end
pub grew_row : (t : List (List ℕ)) (callee caller : ℕ) (old : List ℕ) → callee < length t → function_callers t callee ≡ old →
    Grew t (set t callee (old ++ caller ∷ [])) (λ g f. (g ≡ callee) × (f ≡ caller))
grew_row t callee caller old l is =
    let new : List ℕ = old ++ caller ∷ [] in
    let here : (g : ℕ) → g ≡ callee → function_callers (set t callee new) g ≡ new = λ g e. get_or-set_at t callee g new [] e l in
    let there : (g : ℕ) → (g ≡ callee → ⊥) → function_callers (set t callee new) g ≡ function_callers t g = λ g ne. get_or-set_other t callee g new [] ne in
    let was : (g : ℕ) → g ≡ callee → function_callers t g ≡ old = λ g e. ap (λ (n : ℕ). function_callers t n) e ∙ is in
    record {
      few = length-set t callee new;
      had = λ g f h. elim (cases_eq g callee) [
        | inl e ↦ subst (λ (r : List ℕ). Contains r f) (sym (here g e)) (Contains-append_left old (caller ∷ []) f (subst (λ (r : List ℕ). Contains r f) (was g e) h))
        | inr ne ↦ subst (λ (r : List ℕ). Contains r f) (sym (there g ne)) h
      ];
      has = λ g f lt e. subst (λ (r : List ℕ). Contains r f) (sym (here g e.0)) (subst (λ (x : ℕ). Contains new x) (sym e.1) (Contains-push old caller));
      only = λ g f h. elim (cases_eq g callee) [
        | inl e ↦ elim (Contains-push_cases old caller f (subst (λ (r : List ℕ). Contains r f) (here g e) h)) [
          | inl x ↦ inl (subst (λ (r : List ℕ). Contains r f) (sym (was g e)) x)
          | inr x ↦ inr (e, sym x)
        ]
        | inr ne ↦ inl (subst (λ (r : List ℕ). Contains r f) (there g ne) h)
      ];
    }

-- the list of a function that has one
pub row_read : (t : List (List ℕ)) (function : ℕ) (list : List ℕ) → function < length t → list ≡ get_or t function list → function_callers t function ≡ list
row_read t function list l is = get_or_from_slice_get t function list [] (slice_get_read t (length t) function list refl l is)

pub grew_push : (t : List (List ℕ)) (callee caller : ℕ) (old new : List ℕ) → callee < length t → old ≡ get_or t callee old → new ≡ old ++ caller ∷ [] →
    Grew t (set t callee new) (λ g f. (g ≡ callee) × (f ≡ caller))
grew_push t callee caller old new l is e =
    let was : function_callers t callee ≡ old = row_read t callee old l is in
    subst (λ (r : List ℕ). Grew t (set t callee r) (λ g f. (g ≡ callee) × (f ≡ caller))) (sym e) (grew_row t callee caller old l was)

earlier_or_here : (nodes : List Node) (i g : ℕ) → CallsAmong nodes (i + 1) g → CallsAmong nodes i g ⊎ ((next : ℕ) × (views_of nodes i ≡ Calls g next))
earlier_or_here nodes i g c =
    elim (cases_lt c.place i) [
      | inl l ↦ inl (record { place = c.place; within = l; next = c.next; is = c.is })
      | inr l ↦ let w = c.within in let same : c.place ≡ i = omega arith in inr (c.next, ap (λ (k : ℕ). views_of nodes k) (sym same) ∙ c.is)
    ]

pub among_later : (nodes : List Node) (i g : ℕ) → CallsAmong nodes i g → CallsAmong nodes (i + 1) g
among_later nodes i g c = let w = c.within in record { place = c.place; within = omega arith; next = c.next; is = c.is }

-- a node that calls one function: its caller has that call more
pub grew_call : (a b c : List (List ℕ)) (nodes : List Node) (i caller callee next : ℕ) → views_of nodes i ≡ Calls callee next →
    Grew a b (λ g f. (f ≡ caller) × CallsAmong nodes i g) → Grew b c (λ g f. (g ≡ callee) × (f ≡ caller)) →
    Grew a c (λ g f. (f ≡ caller) × CallsAmong nodes (i + 1) g)
grew_call a b c nodes i caller callee next v p q =
    grew_then a b c (λ g f. (f ≡ caller) × CallsAmong nodes i g) (λ g f. (g ≡ callee) × (f ≡ caller)) (λ g f. (f ≡ caller) × CallsAmong nodes (i + 1) g) p q
    (λ g f h. elim (earlier_or_here nodes i g h.1) [
      | inl x ↦ inl (h.0, x)
      | inr x ↦ let same = sym (x.1) ∙ v in inr (cc, h.0)
    ])
    (λ g f h. (h.0, among_later nodes i g h.1))
    (λ g f h. (h.1, subst (λ (x : ℕ). CallsAmong nodes (i + 1) x) (sym h.0) (record { place = i; within = omega arith; next = next; is = v })))

-- any other node changes nothing
pub grew_other : (a b : List (List ℕ)) (nodes : List Node) (i caller : ℕ) → ((g next : ℕ) → views_of nodes i ≡ Calls g next → ⊥) →
    Grew a b (λ g f. (f ≡ caller) × CallsAmong nodes i g) → Grew a b (λ g f. (f ≡ caller) × CallsAmong nodes (i + 1) g)
grew_other a b nodes i caller none p =
    grew_same a b (λ g f. (f ≡ caller) × CallsAmong nodes i g) (λ g f. (f ≡ caller) × CallsAmong nodes (i + 1) g) p
    (λ g f h. elim (earlier_or_here nodes i g h.1) [ inl x ↦ (h.0, x) | inr x ↦ absurd (none g x.0 x.1) ])
    (λ g f h. (h.0, among_later nodes i g h.1))

call_within : (nodes : List Node) (place g next : ℕ) (found : Option Node) → slice_get nodes place ≡ found → view_at found ≡ Calls g next → place < length nodes
call_within nodes place g next None e is = cc
call_within nodes place g next (Some n) e is = slice_get_within nodes place n e

-- a call of a function stands among its nodes
pub among_from : (functions : List Function) (f g : ℕ) (fn : Function) → slice_get functions f ≡ Some fn → CallsTo functions f g → CallsAmong fn.nodes (length fn.nodes) g
among_from functions f g fn e c =
    let is : views_of fn.nodes c.place ≡ Calls g c.next = ap (λ (o : Option Function). view_in o c.place) (sym e) ∙ c.is in
    record { place = c.place; within = call_within fn.nodes c.place g c.next (slice_get fn.nodes c.place) refl is; next = c.next; is = is }

pub calls_from : (functions : List Function) (f g : ℕ) (fn : Function) → slice_get functions f ≡ Some fn → CallsAmong fn.nodes (length fn.nodes) g → CallsTo functions f g
calls_from functions f g fn e c = record { place = c.place; next = c.next; is = ap (λ (o : Option Function). view_in o c.place) e ∙ c.is }

caller_there : (functions : List Function) (f g place next : ℕ) (found : Option Function) → slice_get functions f ≡ found → view_in found place ≡ Calls g next → f < length functions
caller_there functions f g place next None e is = cc
caller_there functions f g place next (Some fn) e is = slice_get_within functions f fn e

-- only a function of the program calls one
pub caller_within : (functions : List Function) (f g : ℕ) → CallsTo functions f g → f < length functions
caller_within functions f g c = caller_there functions f g c.place c.next (slice_get functions f) refl c.is

-- the calls of one function more
pub grew_function : (a b c : List (List ℕ)) (functions : List Function) (i : ℕ) (fn : Function) → slice_get functions i ≡ Some fn →
    Grew a b (λ g f. (f < i) × CallsTo functions f g) → Grew b c (λ g f. (f ≡ i) × CallsAmong fn.nodes (length fn.nodes) g) →
    Grew a c (λ g f. (f < i + 1) × CallsTo functions f g)
grew_function a b c functions i fn e p q =
    grew_then a b c (λ g f. (f < i) × CallsTo functions f g) (λ g f. (f ≡ i) × CallsAmong fn.nodes (length fn.nodes) g) (λ g f. (f < i + 1) × CallsTo functions f g) p q
    (λ g f h. elim (cases_lt f i) [
      | inl l ↦ inl (l, h.1)
      | inr l ↦ let w = h.0 in let same : f ≡ i = omega arith in inr (same, among_from functions f g fn (ap (λ (k : ℕ). slice_get functions k) same ∙ e) h.1)
    ])
    (λ g f h. let w = h.0 in (omega arith, h.1))
    (λ g f h. let same = h.0 in (omega arith, calls_from functions f g fn (ap (λ (k : ℕ). slice_get functions k) h.0 ∙ e) h.1))

-- the calls of all functions
pub grew_all : (a b : List (List ℕ)) (functions : List Function) (i : ℕ) → (let empty : List ℕ = [] in a ≡ replicate (length functions) empty) → length functions ≤ i →
    Grew a b (λ g f. (f < i) × CallsTo functions f g) → (let empty : List ℕ = [] in Grew (replicate (length functions) empty) b (λ g f. CallsTo functions f g))
grew_all a b functions i e l p =
    subst (λ (t : List (List ℕ)). Grew t b (λ g f. CallsTo functions f g)) e
    (grew_same a b (λ g f. (f < i) × CallsTo functions f g) (λ g f. CallsTo functions f g) p
    (λ g f h. (omega (arith, caller_within functions f g h, l), h)) (λ g f h. h.1))
