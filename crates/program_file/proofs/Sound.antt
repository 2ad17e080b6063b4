-- What was read so far keeps the conditions on programs, and a whole program is one.
use Rattle.std.proofs.Common.{◌≡◌, ◌≢◌, ◌≤◌, ◌<◌, ◌+◌, ◌==◌, ℕ, zero, suc, Bool, true, false, cond, List, [], ◌∷◌, ◌++◌, length, map, Some, IsTrue, slice_get, ap, sym, subst, ◌∙◌, refl, arith, append_assoc, length-append}
use Rattle.std.specs.List.{All, sum_by}
use Rattle.std.proofs.lemmas.Bool.{eqb-true}
use Rattle.std.proofs.lemmas.List.{append-nil, map-append}
use Rattle.std.proofs.lemmas.List.Elements.{All-append, All-from_recursion}
use Rattle.std.proofs.lemmas.List.Sums.{sum_by-append}
use Rattle.std.proofs.lemmas.Option.{slice_get_within}
use Rattle.base_lists.proofs.Options.{none_some, some_is}
use Rattle.base_lists.proofs.Lists.{get_map}
use Rattle.base_lists.proofs.Every.{every_at}
use Rattle.cbi_base.specs.Words.{conversions_of, fields_of, LeadsTo}
use Rattle.flow.specs.declared.node.Node.{Node}
use Rattle.flow.specs.declared.program.Text.{Text}
use Rattle.flow.specs.declared.program.Global.{Global}
use Rattle.flow.specs.declared.program.Function.{Function}
use Rattle.flow.specs.declared.site.Site.{Site}
use Rattle.flow.specs.declared.scope.Names.{Names}
use Rattle.flow.specs.declared.scope.Bounds.{Bounds}
use Rattle.flow.specs.Words.{text_limit, byte_limit, static_limit, global_limit, function_limit, local_limit, node_limit, site_limit, node_fits, NodesFit}
use Rattle.flow.specs.Words.{AreTexts, AreGlobals, GlobalFits, AreLocals, AreSites, IsFunction, FunctionsFit, IsProgram, names_of, bounds_of, IsSite, Head}
use Rattle.flow.specs.Words.{head_of}
use Rattle.program_lines.specs.Sums.{bytes_in, cells_in, locals_in, nodes_in}
use Rattle.program_file.specs.declared.draft.Due.{Due}
use Rattle.program_file.specs.declared.draft.Due.TheVariants as due
use Rattle.program_file.specs.declared.draft.Draft.{Draft}
use Rattle.program_file.specs.Draft.{ProgramLineComes, ProgramLineFollows, IsDue, IsHead, with_text_count, with_text, with_global_count, with_global, with_head, names_in, bounds_in, function_with, with_function, parts_in}
use Rattle.program_lines.proofs.RowReads.{locals_of_row-spelled}

-- the heads of functions
pub record AreHeads (heads : List Head) : Type 0 where
  pub few : length heads ≤ function_limit
  pub each : All IsHead heads
  pub locals : locals_in heads ≤ local_limit
  pub nodes : nodes_in heads ≤ node_limit
  pub distinct : (i j : ℕ) (g h : Head) → slice_get heads i ≡ Some g → slice_get heads j ≡ Some h → g.name ≡ h.name → i ≡ j

pub record IsMainHead (heads : List Head) (main : ℕ) : Type 0 where
  pub head : Head
  pub stands : slice_get heads main ≡ Some head
  pub result : head.value ≡ true
  pub params : head.params ≡ 0

-- the texts, the globals and the heads are there
pub record AreFronts (texts : List Text) (globals : List Global) (heads : List Head) : Type 0 where
  pub are_texts : AreTexts texts
  pub are_globals : AreGlobals (length texts) globals
  pub are_heads : AreHeads heads
  pub some : 0 < length heads

abbrev pub Fronts : Draft → Type 0
Fronts d = AreFronts d.texts d.globals d.heads

abbrev pub SitesHold : Draft → Type 0
SitesHold d = AreSites (map (λ h. h.locals) d.heads) (length d.globals) d.sites

-- some functions are whole, and the heads of the others wait
pub record AreBodies (heads : List Head) (names : Names) (functions : List Function) : Type 0 where
  pub waiting : List Head
  pub heads_are : heads ≡ map head_of functions ++ waiting
  pub fit : FunctionsFit names functions

abbrev pub AreOpen : Draft → Type 0
AreOpen d = Fronts d × IsMainHead d.heads d.main × SitesHold d × (d.names ≡ names_in d d.sites) × AreBodies d.heads d.names d.functions

-- the function in progress
pub record IsCurrent (d : Draft) : Type 0 where
  pub head : Head
  pub is_due : IsDue d head
  pub locals : AreLocals head.params d.locals
  pub count : length d.locals ≡ head.locals
  pub nodes : NodesFit d.names (bounds_in d head) d.nodes

abbrev pub Sound : Due → Draft → Type 0
Sound due.Title d = Unit {0}
Sound due.Texts d = Unit {0}
Sound due.Text d = (d.count ≤ text_limit) × AreTexts d.texts
Sound due.Globals d = AreTexts d.texts
Sound due.Global d = AreTexts d.texts × (d.count ≤ global_limit) × AreGlobals (length d.texts) d.globals
Sound due.Functions d = AreTexts d.texts × AreGlobals (length d.texts) d.globals
Sound due.Head d = AreTexts d.texts × AreGlobals (length d.texts) d.globals × (d.count ≤ function_limit) × AreHeads d.heads
Sound due.Main d = Fronts d
Sound due.Sites d = Fronts d × IsMainHead d.heads d.main
Sound due.Site d = Fronts d × IsMainHead d.heads d.main × (d.count ≤ site_limit) × SitesHold d
Sound due.Locals d = AreOpen d
Sound due.Node d = AreOpen d × IsCurrent d
Sound due.End d = AreOpen d × (length d.functions ≡ length d.heads)
Sound due.Nothing d = AreOpen d × (length d.functions ≡ length d.heads)

one-all : {A : Type 0} (P : A → Type 0) (x : A) → P x → All P (x ∷ [])
one-all P x h = All-from_recursion P (x ∷ []) (h, tt)

all-more : {A : Type 0} (P : A → Type 0) (xs : List A) (x : A) → All P xs → P x → All P (xs ++ x ∷ [])
all-more P xs x all h = All-append P xs (x ∷ []) all (one-all P x h)

no-texts : AreTexts []
no-texts = record { few = omega arith; bytes = All-from_recursion _ [] tt; total = omega arith }

text-more : (texts : List Text) (t : Text) (count : ℕ) → AreTexts texts → count ≤ text_limit → length texts < count → All (λ b. b < 256) t.bytes → bytes_in texts + length t.bytes ≤ byte_limit → AreTexts (texts ++ t ∷ [])
text-more texts t count are most room bytes total = record {
  few = omega (arith, length-append texts (t ∷ []));
  bytes = all-more (λ x. All (λ b. b < 256) x.bytes) texts t are.bytes bytes;
  total = omega (arith, sum_by-append (λ (x : Text). length x.bytes) texts (t ∷ []));
}

no-globals : (texts : ℕ) → AreGlobals texts []
no-globals texts = record { few = omega arith; each = All-from_recursion _ [] tt; total = omega arith }

global-more : (texts : ℕ) (globals : List Global) (g : Global) (count : ℕ) → AreGlobals texts globals → count ≤ global_limit → length globals < count → GlobalFits texts g → cells_in globals + length g.cells ≤ static_limit → AreGlobals texts (globals ++ g ∷ [])
global-more texts globals g count are most room fits total = record {
  few = omega (arith, length-append globals (g ∷ []));
  each = all-more (GlobalFits texts) globals g are.each fits;
  total = omega (arith, sum_by-append (λ (x : Global). length x.cells) globals (g ∷ []));
}

no-heads : AreHeads []
no-heads = record { few = omega arith; each = All-from_recursion _ [] tt; locals = omega arith; nodes = omega arith; distinct = λ i j g h p q same. absurd (omega (arith, slice_get_within {A = Head} [] i g p)) }

-- an item of a list with one more at its end
pub data PlaceIn {A : Type 0} (xs : List A) (x : A) (i : ℕ) (y : A) : Type 0 where
  Before : slice_get xs i ≡ Some y → i < length xs → PlaceIn xs x i y
  Last : i ≡ length xs → y ≡ x → PlaceIn xs x i y

pub place-in : {A : Type 0} (xs : List A) (x : A) (i : ℕ) (y : A) → slice_get (xs ++ x ∷ []) i ≡ Some y → PlaceIn xs x i y
place-in [] x zero y h = Last refl (some_is (sym h))
place-in [] x (suc i) y h = absurd (none_some h)
place-in (z ∷ zs) x zero y h = Before h (omega arith)
place-in (z ∷ zs) x (suc i) y h = elim (place-in zs x i y h) [
  | Before p l ↦ Before p (omega arith)
  | Last e f ↦ Last (ap suc e) f
]

heads-distinct : (heads : List Head) (h : Head) → ((i j : ℕ) (f g : Head) → slice_get heads i ≡ Some f → slice_get heads j ≡ Some g → f.name ≡ g.name → i ≡ j) → All (λ g. g.name ≢ h.name) heads
    → (i j : ℕ) (f g : Head) → slice_get (heads ++ h ∷ []) i ≡ Some f → slice_get (heads ++ h ∷ []) j ≡ Some g → f.name ≡ g.name → i ≡ j
heads-distinct heads h distinct fresh i j f g p q same = elim (place-in heads h i f p) [
  | Before p1 l1 ↦ elim (place-in heads h j g q) [
    | Before q1 l2 ↦ distinct i j f g p1 q1 same
    | Last e2 f2 ↦ absurd (every_at (λ (x : Head). x.name ≢ h.name) heads fresh i f p1 (same ∙ ap (λ (x : Head). x.name) f2))
  ]
  | Last e1 f1 ↦ elim (place-in heads h j g q) [
    | Before q1 l2 ↦ absurd (every_at (λ (x : Head). x.name ≢ h.name) heads fresh j g q1 (sym same ∙ ap (λ (x : Head). x.name) f1))
    | Last e2 f2 ↦ e1 ∙ sym e2
  ]
]

head-more : (heads : List Head) (h : Head) (count : ℕ) → AreHeads heads → count ≤ function_limit → length heads < count → IsHead h → All (λ g. g.name ≢ h.name) heads → locals_in heads + h.locals ≤ local_limit → nodes_in heads + h.nodes ≤ node_limit → AreHeads (heads ++ h ∷ [])
head-more heads h count are most room is fresh locals nodes = record {
  few = omega (arith, length-append heads (h ∷ []));
  each = all-more IsHead heads h are.each is;
  locals = omega (arith, sum_by-append (λ (x : Head). x.locals) heads (h ∷ []));
  nodes = omega (arith, sum_by-append (λ (x : Head). x.nodes) heads (h ∷ []));
  distinct = heads-distinct heads h are.distinct fresh;
}

no-sites : (locals : List ℕ) (globals : ℕ) → AreSites locals globals []
no-sites locals globals = record { few = omega arith; each = All-from_recursion _ [] tt }

site-more : (locals : List ℕ) (globals : ℕ) (sites : List Site) (s : Site) (count : ℕ) → AreSites locals globals sites → count ≤ site_limit → length sites < count → IsSite locals globals s → AreSites locals globals (sites ++ s ∷ [])
site-more locals globals sites s count are most room is = record {
  few = omega (arith, length-append sites (s ∷ []));
  each = all-more (IsSite locals globals) sites s are.each is;
}

nodes-more : (names : Names) (bounds : Bounds) (nodes : List Node) (n : Node) → NodesFit names bounds nodes → IsTrue (node_fits names bounds (length nodes) n) → NodesFit names bounds (nodes ++ n ∷ [])
nodes-more names bounds nodes n fit last = record {
  each = λ place m h. elim (place-in nodes n place m h) [
    | Before p l ↦ fit.each place m p
    | Last e f ↦ subst (λ k. IsTrue (node_fits names bounds k m)) (sym e) (subst (λ k. IsTrue (node_fits names bounds (length nodes) k)) (sym f) last)
  ];
}

functions-more : (names : Names) (functions : List Function) (f : Function) → FunctionsFit names functions → IsFunction names (length functions) f → FunctionsFit names (functions ++ f ∷ [])
functions-more names functions f fit is = record {
  each = λ number g h. elim (place-in functions f number g h) [
    | Before p l ↦ fit.each number g p
    | Last e same ↦ subst (λ k. IsFunction names k g) (sym e) (subst (λ k. IsFunction names (length functions) k) (sym same) is)
  ];
}

by-due : (b : Bool) (item past : Due) (holds : Due → Type 0) → (b ≡ true → holds past) → (b ≡ false → holds item) → holds (cond b past item)
by-due true item past holds whole more = whole refl
by-due false item past holds whole more = more refl

by-draft : (b : Bool) (x y : Draft) → (b ≡ true → Sound x.due x) → (b ≡ false → Sound y.due y) → Sound (cond b x y).due (cond b x y)
by-draft true x y whole more = whole refl
by-draft false x y whole more = more refl

moved : (a b : Draft) → a ≡ b → Sound b.due b → Sound a.due a
moved a b is h = subst (λ (e : Draft). Sound e.due e) (sym is) h

-- the functions' own lines begin
opened : (d : Draft) (sites : List Site) → Fronts d → IsMainHead d.heads d.main → AreSites (map (λ h. h.locals) d.heads) (length d.globals) sites
    → AreOpen (record d { due = due.Locals; sites = sites; names = names_in d sites; functions = [] })
opened d sites fronts main are = (fronts, main, are, refl, record { waiting = d.heads; heads_are = refl; fit = record { each = λ number f h. absurd (none_some h) } })

-- the next head stands in front of those that wait
next-waits : (functions : List Function) (waiting : List Head) (h : Head) → slice_get (map head_of functions ++ waiting) (length functions) ≡ Some h → (rest : List Head) × (waiting ≡ h ∷ rest)
next-waits [] [] h is = absurd (none_some is)
next-waits [] (x ∷ xs) h is = (xs, ap (λ y. y ∷ xs) (some_is is))
next-waits (f ∷ fs) waiting h is = next-waits fs waiting h is

head-is : (h : Head) (locals : List ℕ) (nodes : List Node) → length locals ≡ h.locals → length nodes ≡ h.nodes → head_of (function_with h locals nodes) ≡ h
head-is h locals nodes l n = ap (λ k. record h { locals = k; nodes = length nodes }) l ∙ ap (λ k. record h { nodes = k }) n

closed : (d : Draft) (h : Head) (nodes : List Node) → AreOpen d → IsDue d h → AreLocals h.params d.locals → length d.locals ≡ h.locals → length nodes ≡ h.nodes → NodesFit d.names (bounds_in d h) nodes
    → AreOpen (with_function d (function_with h d.locals nodes))
closed d h nodes s is_due locals count full fit =
    let f = function_with h d.locals nodes in
    let bodies = s.4 in
    let wait = next-waits d.functions bodies.waiting h (subst (λ hs. slice_get hs (length d.functions) ≡ Some h) bodies.heads_are is_due) in
    let is_head : IsHead h = every_at IsHead d.heads s.0.are_heads.each (length d.functions) h is_due in
    let bounds : bounds_in d h ≡ bounds_of (length d.functions) f = ap (λ k. record { function = length d.functions; locals = k; nodes = h.nodes }) (sym count) ∙ ap (λ k. record { function = length d.functions; locals = length d.locals; nodes = k }) (sym full) in
    let is : IsFunction d.names (length d.functions) f = record {
      name = is_head.name;
      locals = locals;
      entry = omega (arith, is_head.entry, full);
      nodes = subst (λ b. NodesFit d.names b nodes) bounds fit;
    } in (
      s.0,
      s.1,
      s.2,
      s.3,
      record {
        waiting = wait.0;
        heads_are = bodies.heads_are ∙ ap (λ w. map head_of d.functions ++ w) wait.1 ∙ ap (λ k. map head_of d.functions ++ k ∷ wait.0) (sym (head-is h d.locals nodes count full))
            ∙ sym (append_assoc (map head_of d.functions) (head_of f ∷ []) wait.0) ∙ ap (λ hs. hs ++ wait.0) (sym (map-append head_of d.functions (f ∷ [])));
        fit = functions-more d.names d.functions f bodies.fit is;
      },
    )

pub comes-sound : (next : Due) (d : Draft) (line : List ℕ) (after : Draft) → ProgramLineComes next d line after → Sound next d → Sound after.due after
comes-sound due.Title d line after f s = moved after _ f.1 tt
comes-sound due.Texts d line after f s =
    moved after _ f.2 (by-due (0 == f.0) due.Text due.Globals (λ u. Sound u (with_text_count d f.0)) (λ _. no-texts) (λ _. (f.1.few, no-texts)))
comes-sound due.Text d line after f s =
    let are = text-more d.texts f.0 d.count s.1 s.0 f.1.room f.1.are_bytes f.1.total in
    moved after _ f.2 (by-due (length d.texts + 1 == d.count) due.Text due.Globals (λ u. Sound u (with_text d f.0)) (λ _. are) (λ _. (s.0, are)))
comes-sound due.Globals d line after f s =
    moved after _ f.2 (by-due (0 == f.0) due.Global due.Functions (λ u. Sound u (with_global_count d f.0)) (λ _. (s, no-globals (length d.texts))) (λ _. (s, f.1.few, no-globals (length d.texts))))
comes-sound due.Global d line after f s =
    let are = global-more (length d.texts) d.globals f.0 d.count s.2 s.1 f.1.room f.1.fits f.1.total in
    moved after _ f.2 (by-due (length d.globals + 1 == d.count) due.Global due.Functions (λ u. Sound u (with_global d f.0)) (λ _. (s.0, are)) (λ _. (s.0, s.1, are)))
comes-sound due.Functions d line after f s = moved after _ f.2 (s.0, s.1, f.1.counts.few, no-heads)
comes-sound due.Head d line after f s =
    let are = head-more d.heads f.0 d.count s.3 s.2 f.1.room f.1.is_head f.1.fresh f.1.locals f.1.nodes in
    moved after _ f.2 (by-due (length d.heads + 1 == d.count) due.Head due.Main (λ u. Sound u (with_head d f.0))
    (λ _. record { are_texts = s.0; are_globals = s.1; are_heads = are; some = omega (arith, length-append d.heads (f.0 ∷ [])) }) (λ _. (s.0, s.1, s.2, are)))
comes-sound due.Main d line after f s =
    moved after _ f.2 (s, record { head = f.1.head; stands = f.1.stands; result = f.1.result; params = f.1.params })
comes-sound due.Sites d line after f s =
    let none = no-sites (map (λ h. h.locals) d.heads) (length d.globals) in
    moved after _ f.2 (by-draft (0 == f.0) _ _ (λ _. opened (record d { count = f.0 }) [] s.0 s.1 none) (λ _. (s.0, s.1, f.1.few, none)))
comes-sound due.Site d line after f s =
    let are = site-more (map (λ h. h.locals) d.heads) (length d.globals) d.sites f.0 d.count s.3 s.2 f.1.room f.1.fits in
    moved after _ f.2 (by-draft (length (d.sites ++ f.0 ∷ []) == d.count) _ _ (λ _. opened d (d.sites ++ f.0 ∷ []) s.0 s.1 are) (λ _. (s.0, s.1, s.2, are)))
comes-sound due.Locals d line after f s =
    moved after _ f.2 (
      s,
      record { head = f.1.head; is_due = f.1.is_due; locals = f.1.fits; count = (locals_of_row-spelled f.1.head.locals (fields_of line) f.0 f.1.reads).1; nodes = record { each = λ place n h. absurd (none_some h) } },
    )
comes-sound due.Node d line after f s =
    let h = f.0.0 in
    let n = f.0.1 in
    let same : s.1.head ≡ h = some_is (sym s.1.is_due ∙ f.1.is_due) in
    let locals = subst (λ (g : Head). AreLocals g.params d.locals) same s.1.locals in
    let count = s.1.count ∙ ap (λ (g : Head). g.locals) same in
    let fit = nodes-more d.names (bounds_in d h) d.nodes n (subst (λ g. NodesFit d.names (bounds_in d g) d.nodes) same s.1.nodes) f.1.fits in
    moved after _ f.2 (by-draft (length (d.nodes ++ n ∷ []) == h.nodes) _ _
    (λ full.
    let all = closed d h (d.nodes ++ n ∷ []) s.0 f.1.is_due locals count (eqb-true _ _ full) fit in
    by-due (length d.functions + 1 == length d.heads) due.Locals due.End (λ u. Sound u (with_function d (function_with h d.locals (d.nodes ++ n ∷ []))))
    (λ last. (all, length-append d.functions (function_with h d.locals (d.nodes ++ n ∷ []) ∷ []) ∙ eqb-true _ _ last)) (λ _. all))
    (λ _. (s.0, record { head = h; is_due = f.1.is_due; locals = locals; count = count; nodes = fit })))
comes-sound due.End d line after f s = moved after _ f.1 s
comes-sound due.Nothing d line after f s = absurd f

pub leads-sound : (from to : Draft) (lines : List (List ℕ)) → LeadsTo ProgramLineFollows from lines to → Sound from.due from → Sound to.due to
leads-sound from to [] leads s = subst (λ (e : Draft). Sound e.due e) leads s
leads-sound from to (line ∷ lines) leads s = leads-sound leads.0 to lines leads.2 (comes-sound from.due from line leads.0 leads.1 s)

-- where all functions are whole, none waits
none-waits : (functions : List Function) (waiting : List Head) → length functions ≡ length (map head_of functions ++ waiting) → waiting ≡ []
none-waits [] [] h = refl
none-waits [] (x ∷ xs) h = absurd (omega (arith, h))
none-waits (f ∷ fs) waiting h = none-waits fs waiting (omega (arith, h))

pub heads-whole : (d : Draft) → AreOpen d → length d.functions ≡ length d.heads → d.heads ≡ map head_of d.functions
heads-whole d s all =
    let none = none-waits d.functions s.4.waiting (all ∙ ap length s.4.heads_are) in
    s.4.heads_are ∙ ap (λ w. map head_of d.functions ++ w) none ∙ append-nil (map head_of d.functions)

pub slice_get-mapped : {A B : Type 0} (f : A → B) (xs : List A) (i : ℕ) (y : B) → slice_get (map f xs) i ≡ Some y → (x : A) × (slice_get xs i ≡ Some x) × (f x ≡ y)
slice_get-mapped f [] i y h = absurd (omega (arith, slice_get_within [] i y h))
slice_get-mapped f (x ∷ xs) zero y h = (x, refl, some_is h)
slice_get-mapped f (x ∷ xs) (suc i) y h = slice_get-mapped f xs i y h

pub sum_by-first : {A : Type 0} (f : A → ℕ) (x : A) (xs : List A) → sum_by f (x ∷ xs) ≡ f x + sum_by f xs
sum_by-first f x xs = let one : sum_by f (x ∷ []) ≡ f x = omega arith in omega (arith, sum_by-append f (x ∷ []) xs, one)

pub sum_by-map : {A B : Type 0} (f : A → B) (g : B → ℕ) (xs : List A) → sum_by g (map f xs) ≡ sum_by (λ x. g (f x)) xs
sum_by-map f g [] = refl
sum_by-map f g (x ∷ xs) = omega (arith, sum_by-first g (f x) (map f xs), sum_by-first (λ y. g (f y)) x xs, sum_by-map f g xs)

pub length-map : {A B : Type 0} (f : A → B) (xs : List A) → length (map f xs) ≡ length xs
length-map f [] = refl
length-map f (x ∷ xs) = ap suc (length-map f xs)

pub map-map : {A B C : Type 0} (f : A → B) (g : B → C) (xs : List A) → map g (map f xs) ≡ map (λ x. g (f x)) xs
map-map f g [] = refl
map-map f g (x ∷ xs) = ap (λ ys. g (f x) ∷ ys) (map-map f g xs)

-- what is whole is a program
pub whole-program : (d : Draft) → AreOpen d → length d.functions ≡ length d.heads → IsProgram (parts_in d)
whole-program d s all =
    let heads = heads-whole d s all in
    let hs : AreHeads (map head_of d.functions) = subst AreHeads heads s.0.are_heads in
    let main = subst (λ x. IsMainHead x d.main) heads s.1 in
    let f = slice_get-mapped head_of d.functions d.main main.head main.stands in
    let names : d.names ≡ names_of (parts_in d) = s.3 ∙ ap (λ n. record { conversions = map (λ (t : Text). conversions_of t.bytes) d.texts; globals = length d.globals; functions = n; owners = map (λ (x : Site). x.function) d.sites }) (sym all) in record {
      parts = record {
        texts = s.0.are_texts;
        globals = s.0.are_globals;
        few = record {
          some = omega (arith, s.0.some, all);
          few = omega (arith, hs.few, length-map head_of d.functions);
          locals = omega (arith, hs.locals, sum_by-map head_of (λ (h : Head). h.locals) d.functions);
          nodes = omega (arith, hs.nodes, sum_by-map head_of (λ (h : Head). h.nodes) d.functions);
        };
        main = (f.0, f.1, record { result = ap (λ (h : Head). h.value) f.2 ∙ main.result; params = ap (λ (h : Head). h.params) f.2 ∙ main.params });
        sites = subst (λ ls. AreSites ls (length d.globals) d.sites) (ap (map (λ (h : Head). h.locals)) heads ∙ map-map head_of (λ (h : Head). h.locals) d.functions) s.2;
      };
      distinct = record { each = λ i j g h p q same. hs.distinct i j (head_of g) (head_of h) (get_map head_of d.functions i g p) (get_map head_of d.functions j h q) same };
      functions = subst (λ n. FunctionsFit n d.functions) names s.4.fit;
    }
