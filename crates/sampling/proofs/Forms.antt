-- A program in its cloned form beside the program that it was made from.
use Rattle.std.proofs.Common.{◌≡◌, ℕ, zero, suc, ◌<◌, Bool, true, false, ◌&&◌, List, [], ◌∷◌, length, Option, None, Some, IsTrue, slice_get, refl, ap, ◌∙◌, subst, arith}
use Rattle.std.specs.List.{Contains}
use Rattle.std.proofs.lemmas.Bool.{eqb-true, false_from_ne_true}
use Rattle.std.proofs.lemmas.List.Elements.{All-get_or}
use Rattle.std.proofs.lemmas.Option.{get_or_from_slice_get, slice_get_within}
use Rattle.base_lists.proofs.Tests.{true_first}
use Rattle.flow.specs.declared.node.Node.{Node}
use Rattle.flow.specs.declared.node.Node.TheVariants.{Mark}
use Rattle.flow.specs.declared.node.View.{View}
use Rattle.flow.specs.declared.node.View.TheVariants.{Marks}
use Rattle.flow.specs.declared.program.Function.{Function}
use Rattle.flow.specs.declared.program.ProgramParts.{ProgramParts}
use Rattle.flow.specs.declared.scope.Bounds.{Bounds}
use Rattle.flow.specs.declared.scope.Names.{Names}
use Rattle.flow.specs.Words.{Callee, callee_of, code_of, view_at, view_in, is_own, led_to, names_fit, node_fits, leads_rightly, IsFunction, IsProgram}
use Rattle.flow.specs.Words.{bounds_of, names_of, view, ArePlain, IsPlain, IsReady}
use Rattle.regions.specs.Blocks.{After, ends_block}
use Rattle.regions.specs.Flags.{AreFlags, is_in}
use Rattle.regions.specs.Weighty.{HasSite, IsWeighty, Own, Through}
use Rattle.regions.proofs.FlagLemmas.{in_within}
use Rattle.copied_nodes.specs.declared.label.CopyLabel.{CopyLabel}
use Rattle.copied_nodes.specs.declared.label.CopyLabel.TheVariants.{Enter}
use Rattle.clone_paths.specs.Cloned.{FunctionCloned, MayClone}
use Rattle.clone_paths.specs.Form.{IsAsLabelled}
use Rattle.sampling.specs.Copies.{AreCopies, Copies}

-- where the blocks of a function begin, and what its copies' nodes are labelled
pub record Sheet : Type 0 where
  pub starts : ℕ → Bool
  pub label : ℕ → Option CopyLabel

abbrev pub no_sheet : Sheet
no_sheet = record { starts = λ x. false; label = λ x. None }

abbrev pub FormOf : (ℕ → Bool) → ℕ → Option Function → Option Function → Type 0
FormOf weighty number f g = (x y : Function) → f ≡ Some x → g ≡ Some y → FunctionCloned weighty number x y

abbrev pub sheet_of : (weighty : ℕ → Bool) (number : ℕ) (f g : Option Function) → FormOf weighty number f g → (b : Bool) → weighty number ≡ b → Sheet
sheet_of weighty number (Some x) (Some y) form true e =
    let c = (form x y refl refl).copied e in record { starts = is_in c.starts; label = slice_get c.labels }
sheet_of weighty number f g form b e = no_sheet

-- the function's nodes are what their labels say
pub record IsSheet (weighty : ℕ → Bool) (v w : ℕ → View) (sheet : Sheet) : Type 0 where
  pub ends : (place next : ℕ) → ends_block (v place) ≡ true → Contains (led_to (v place)) next → sheet.starts next ≡ true
  pub entry : sheet.label 0 ≡ Some Enter
  pub each : (place : ℕ) (l : CopyLabel) → sheet.label place ≡ Some l →
      IsAsLabelled (record { weighty = weighty; at = v; starts = sheet.starts; label = sheet.label }) l (w place)

is_sheet : (weighty : ℕ → Bool) (number : ℕ) (f g : Option Function) (form : FormOf weighty number f g) (b : Bool) (e : weighty number ≡ b) → b ≡ true →
    (f ≡ None → ⊥) → (g ≡ None → ⊥) → IsSheet weighty (view_in f) (view_in g) (sheet_of weighty number f g form b e)
is_sheet weighty number None g form b e h there also = absurd (there refl)
is_sheet weighty number (Some x) None form b e h there also = absurd (also refl)
is_sheet weighty number (Some x) (Some y) form false e h there also = cc
is_sheet weighty number (Some x) (Some y) form true e h there also =
    let c = (form x y refl refl).copied e in record {
      ends = λ place next ends leads. (c.are_starts.each next).1 (After place ends leads);
      entry = c.entry;
      each = c.each;
    }

-- what is known of a program and its copies
pub record Pair (p : ProgramParts) (gs : List Function) : Type 0 where
  pub weighty : List Bool
  pub are_weighty : AreFlags (length p.functions) (IsWeighty p) weighty
  pub few : length gs ≡ length p.functions
  pub each : (number : ℕ) (x y : Function) → slice_get p.functions number ≡ Some x → slice_get gs number ≡ Some y → FunctionCloned (is_in weighty) number x y

abbrev pub sheet_at : (p : ProgramParts) (gs : List Function) → Pair p gs → ℕ → Sheet
sheet_at p gs c number =
    sheet_of (is_in c.weighty) number (slice_get p.functions number) (slice_get gs number) (c.each number) (is_in c.weighty number) refl

abbrev pub copies_of : (p : ProgramParts) (gs : List Function) (bank : ℕ → ℕ) → Pair p gs → Copies
copies_of p gs bank c = record {
  full = code_of p bank;
  weighty = is_in c.weighty;
  starts = λ function. (sheet_at p gs c function).starts;
  label = λ function. (sheet_at p gs c function).label;
  at = λ function place. view_in (slice_get gs function) place;
}

pub none_there : {A : Type 0} (xs : List A) (k : ℕ) → k < length xs → slice_get xs k ≡ None → ⊥
none_there [] k l e = omega arith
none_there (x ∷ xs) zero l e = cc
none_there (x ∷ xs) (suc k) l e = none_there xs k (omega arith) e

contains_at : (xs : List ℕ) (k x : ℕ) → slice_get xs k ≡ Some x → Contains xs x
contains_at [] k x e = cc
contains_at (y ∷ ys) zero x e = (0, omega arith, cc)
contains_at (y ∷ ys) (suc k) x e = let r = contains_at ys k x e in (suc r.0, omega (arith, r.1), r.2)

-- a visit of a site stands in the site's function
own_of : (names : Names) (bounds : Bounds) (owner : Option ℕ) (site : ℕ) → slice_get names.owners site ≡ owner → IsTrue (is_own bounds owner) →
    Contains names.owners bounds.function
own_of names bounds None site e h = cc
own_of names bounds (Some owner) site e h =
    let same : owner ≡ bounds.function = eqb-true owner bounds.function h in
    contains_at names.owners site bounds.function (e ∙ ap (λ (k : ℕ). Some k) same)

mark_named : (names : Names) (bounds : Bounds) (n : Node) (site next : ℕ) → IsTrue (names_fit names bounds n) → view n ≡ Marks site next →
    IsTrue (is_own bounds (slice_get names.owners site))
unfolding names_fit
mark_named names bounds (Mark named after) site next h e =
    let same : named ≡ site = cc in subst (λ (k : ℕ). IsTrue (is_own bounds (slice_get names.owners k))) same h
mark_named names bounds other site next h e = cc

named_by : (names : Names) (bounds : Bounds) (place : ℕ) (n : Node) → IsTrue (node_fits names bounds place n) → IsTrue (names_fit names bounds n)
unfolding node_fits
named_by names bounds place n h = true_first (names_fit names bounds n) (leads_rightly bounds place (view n)) h

mark_at : (p : ProgramParts) (function place site next : ℕ) (f : Function) (found : Option Node) → IsFunction (names_of p) function f →
    slice_get f.nodes place ≡ found → view_at found ≡ Marks site next → HasSite p.sites function
mark_at p function place site next f None is e m = cc
mark_at p function place site next f (Some n) is e m =
    own_of (names_of p) (bounds_of function f) (slice_get (names_of p).owners site) site refl
    (mark_named (names_of p) (bounds_of function f) n site next (named_by (names_of p) (bounds_of function f) place n (is.nodes.each place n e)) m)

mark_in : (p : ProgramParts) (function place site next : ℕ) (found : Option Function) → IsProgram p → slice_get p.functions function ≡ found →
    view_in found place ≡ Marks site next → HasSite p.sites function
mark_in p function place site next None is e m = cc
mark_in p function place site next (Some f) is e m = mark_at p function place site next f (slice_get f.nodes place) (is.functions.each function f e) refl m

plain_at : (nodes : List Node) (i : ℕ) (found : Option Node) → ArePlain nodes → slice_get nodes i ≡ found → IsPlain (view_at found)
plain_at nodes i None all e = tt
plain_at nodes i (Some n) all e =
    let l = slice_get_within nodes i n e in
    subst (λ (m : Node). IsPlain (view m)) (get_or_from_slice_get nodes i n n e) (All-get_or (λ (m : Node). IsPlain (view m)) nodes i n l all)

plain_in : (p : ProgramParts) (function place : ℕ) (found : Option Function) → MayClone p → slice_get p.functions function ≡ found → IsPlain (view_in found place)
plain_in p function place None may e = tt
plain_in p function place (Some f) may e =
    let l = slice_get_within p.functions function f e in
    let all = subst (λ (g : Function). ArePlain g.nodes) (get_or_from_slice_get p.functions function f f e)
    (All-get_or (λ (g : Function). ArePlain g.nodes) p.functions function f l may.plain)
    in
    plain_at f.nodes place (slice_get f.nodes place) all refl

-- a weightless function has the same nodes
same_nodes : (p : ProgramParts) (gs : List Function) (c : Pair p gs) (function place : ℕ) (f g : Option Function) → slice_get p.functions function ≡ f →
    slice_get gs function ≡ g → is_in c.weighty function ≡ false → view_in g place ≡ view_in f place
same_nodes p gs c function place None None e h light = refl
same_nodes p gs c function place None (Some y) e h light =
    absurd (none_there p.functions function (omega (arith, slice_get_within gs function y h, c.few)) e)
same_nodes p gs c function place (Some x) None e h light =
    absurd (none_there gs function (omega (arith, slice_get_within p.functions function x e, c.few)) h)
same_nodes p gs c function place (Some x) (Some y) e h light =
    ap (λ (ns : List Node). view_at (slice_get ns place)) ((c.each function x y e h).weightless light)

-- the same functions, as calls know them
pub same_callee : (p : ProgramParts) (gs : List Function) (c : Pair p gs) (function : ℕ) (f g : Option Function) → slice_get p.functions function ≡ f →
    slice_get gs function ≡ g → callee_of g ≡ callee_of f
same_callee p gs c function None None e h = refl
same_callee p gs c function None (Some y) e h =
    absurd (none_there p.functions function (omega (arith, slice_get_within gs function y h, c.few)) e)
same_callee p gs c function (Some x) None e h =
    absurd (none_there gs function (omega (arith, slice_get_within p.functions function x e, c.few)) h)
same_callee p gs c function (Some x) (Some y) e h =
    let is = c.each function x y e h in
    let make = λ (v : Bool) (n : ℕ) (ls : List ℕ). let callee : Callee = record { value = v; params = n; locals = ls } in Some callee in
    ap (λ (v : Bool). make v y.params y.locals) is.value ∙ ap (λ (n : ℕ). make x.value n y.locals) is.params ∙ ap (λ (ls : List ℕ). make x.value x.params ls) is.locals

sheet_is : (p : ProgramParts) (gs : List Function) (c : Pair p gs) (function : ℕ) → is_in c.weighty function ≡ true →
    IsSheet (is_in c.weighty) (view_in (slice_get p.functions function)) (view_in (slice_get gs function)) (sheet_at p gs c function)
sheet_is p gs c function heavy =
    let l = in_within c.weighty function heavy in
    is_sheet (is_in c.weighty) function (slice_get p.functions function) (slice_get gs function) (c.each function) (is_in c.weighty function) refl heavy
    (none_there p.functions function (omega (arith, l, c.are_weighty.few))) (none_there gs function (omega (arith, l, c.are_weighty.few, c.few)))

pub are_copies : (p : ProgramParts) (gs : List Function) (bank : ℕ → ℕ) (c : Pair p gs) → IsProgram p → MayClone p → IsReady p →
    AreCopies (copies_of p gs bank c)
are_copies p gs bank c is may branches = record {
  plain = λ function place. plain_in p function place (slice_get p.functions function) may refl;
  same = λ function place light. same_nodes p gs c function place (slice_get p.functions function) (slice_get gs function) refl refl light;
  unmarked = λ function place site next light m.
      let heavy = (c.are_weighty.each function).1 (Own (mark_in p function place site next (slice_get p.functions function) is refl m)) in cc;
  calls = λ function place callee next light e. false_from_ne_true (is_in c.weighty callee) (λ h.
      let heavy = (c.are_weighty.each function).1 (Through (record { place = place; next = next; is = e }) ((c.are_weighty.each callee).0 h)) in cc);
  ends = λ function place next heavy ends leads. (sheet_is p gs c function heavy).ends place next ends leads;
  entry = λ function heavy. (sheet_is p gs c function heavy).entry;
  each = λ function place l heavy e. (sheet_is p gs c function heavy).each place l e;
  branches = branches;
}
