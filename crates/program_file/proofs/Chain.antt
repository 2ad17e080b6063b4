-- The text of a program is read line by line, and what is read is that program.
use Rattle.std.proofs.Common.{◌≡◌, ◌≢◌, ◌≤◌, ◌<◌, ◌+◌, ◌-◌, ◌==◌, ℕ, zero, suc, ℤ, cond, List, [], ◌∷◌, ◌++◌, length, map, Some, IsTrue, FitsSigned, slice_get, ap, sym, subst, ◌∙◌, refl, arith, rules, append_assoc, length-append}
use Rattle.std.specs.Int.{w64}
use Rattle.std.specs.List.{All, AllByRecursion, flat_map}
use Rattle.std.proofs.lemmas.Bool.{eq-eqb, ltb-true}
use Rattle.std.proofs.lemmas.List.{append-nil, map-append}
use Rattle.std.proofs.lemmas.List.Elements.{All-from_recursion, recursion_from_All}
use Rattle.std.proofs.lemmas.List.Sums.{sum_by-append}
use Rattle.std.proofs.lemmas.Option.{slice_get_within}
use Rattle.base_lists.proofs.Numbers.{less_apart}
use Rattle.base_lists.proofs.Lists.{get_left}
use Rattle.hex.specs.Hex.{IsBytes}
use Rattle.cbi_base.specs.Words.{IsField, fields_of, line_of_fields, AreLines, LeadsTo, greatest_u32}
use Rattle.cbi_base.specs.declared.scalar.Kind.TheVariants.{Char, Int, Unsigned}
use Rattle.cbi_base.proofs.FieldLemmas.{fields_of-spaced, spaced-lacks-newline}
use Rattle.flow.specs.declared.node.Node.{Node}
use Rattle.flow.specs.declared.program.Cell.{Cell}
use Rattle.flow.specs.declared.program.Cell.TheVariants as cell
use Rattle.flow.specs.declared.program.Text.{Text}
use Rattle.flow.specs.declared.program.Global.{Global}
use Rattle.flow.specs.declared.program.Function.{Function}
use Rattle.flow.specs.declared.site.Site.{Site}
use Rattle.flow.specs.declared.site.Slot.{Slot}
use Rattle.flow.specs.declared.site.Slot.TheVariants as slot
use Rattle.flow.specs.declared.site.Partner.{Partner}
use Rattle.flow.specs.declared.site.Partner.TheVariants as partner
use Rattle.flow.specs.declared.site.SiteKind.{SiteKind}
use Rattle.flow.specs.declared.site.SiteKind.TheVariants as kind
use Rattle.flow.specs.declared.scope.Names.{Names}
use Rattle.flow.specs.declared.scope.Bounds.{Bounds}
use Rattle.flow.specs.Words.{text_limit, byte_limit, static_limit, local_limit, node_limit, node_fits, NodesFit, AreTexts, AreGlobals, GlobalFits, AreSites}
use Rattle.flow.specs.Words.{IsFunction, bounds_of, cell_fits, IsSite, KindFits, PartnerFits, slot_fits, is_constant, Head, head_of, head_fields, text_fields}
use Rattle.flow.specs.Words.{global_fields, site_fields, node_fields, locals_fields, body_rows}
use Rattle.program_lines.specs.Rows.{text_of_row, head_of_row, locals_of_row}
use Rattle.program_lines.specs.CellRuns.{global_of_row}
use Rattle.program_lines.specs.SiteLines.{site_of_row}
use Rattle.program_lines.specs.NodeLines.{node_of}
use Rattle.program_lines.specs.Sums.{bytes_in, cells_in, locals_in, nodes_in}
use Rattle.program_file.specs.declared.draft.Due.{Due}
use Rattle.program_file.specs.declared.draft.Due.TheVariants as due
use Rattle.program_file.specs.declared.draft.Draft.{Draft}
use Rattle.program_file.specs.Draft.{ProgramLineComes, ProgramLineFollows, IsDue, IsHead, due_after, names_in, bounds_in, function_with, with_function, with_sites, with_nodes}
use Rattle.program_lines.proofs.RowReads.{text_of_row-fields, is_field-bytes, IsSmallHead, head_of_row-fields, are_fields-head, sizes_of-fields, are_fields-sizes}
use Rattle.program_lines.proofs.CellReads.{IsSmallCell, global_of_row-fields, are_fields-global}
use Rattle.program_lines.proofs.SiteReads.{IsSmallSlot, IsSmallPartner, IsSmallKind, IsSmallSite, site_of_row-fields, are_fields-site}
use Rattle.program_lines.proofs.NodeReads.{IsSmall, are_fields-node, node_of-fields, node-some}
use Rattle.program_lines.proofs.SmallNodes.{AreSmallNames, small-fits}
use Rattle.program_file.proofs.Sound.{sum_by-first}

-- the fields of a line are those that it was made of
pub row-fields : (row : List (List ℕ)) → row ≢ [] → AllByRecursion IsField row → fields_of (line_of_fields row) ≡ row
row-fields [] some all = absurd (some refl)
row-fields (field ∷ fields) some all = fields_of-spaced field fields all.0 all.1

-- lines after lines
pub leads-append : (from via to : Draft) (a b : List (List ℕ)) → LeadsTo ProgramLineFollows from a via → LeadsTo ProgramLineFollows via b to → LeadsTo ProgramLineFollows from (a ++ b) to
leads-append from via to [] b p q = subst (λ d. LeadsTo ProgramLineFollows d b to) (sym p) q
leads-append from via to (line ∷ lines) b p q = (p.0, p.1, leads-append p.0 via to lines b p.2 q)

pub leads-one : (from to : Draft) (line : List ℕ) → ProgramLineFollows from line to → LeadsTo ProgramLineFollows from (line ∷ []) to
leads-one from to line f = (to, f, refl)

-- each item of a list may come after those before it
pub Each : {A : Type 0} → (List A → A → Type 0) → List A → List A → Type 0
Each ok xs [] = Unit {0}
Each ok xs (z ∷ zs) = ok xs z × Each ok (xs ++ z ∷ []) zs

pub each-of : {A : Type 0} (P : List A → Type 0) (ok : List A → A → Type 0) → ((xs zs : List A) (z : A) → P (xs ++ z ∷ zs) → ok xs z) → (xs zs : List A) → P (xs ++ zs) → Each ok xs zs
unfolding Each
each-of P ok one xs [] h = tt
each-of P ok one xs (z ∷ zs) h = (one xs zs z h, each-of P ok one (xs ++ z ∷ []) zs (subst P (sym (append_assoc xs (z ∷ []) zs)) h))

pub list-leads : {A : Type 0} (lines : A → List (List ℕ)) (state : List A → Draft) (ok : List A → A → Type 0)
    → ((xs : List A) (x : A) → ok xs x → LeadsTo ProgramLineFollows (state xs) (lines x) (state (xs ++ x ∷ []))) → (xs zs : List A) → Each ok xs zs → LeadsTo ProgramLineFollows (state xs) (flat_map lines zs) (state (xs ++ zs))
unfolding Each
list-leads lines state ok step xs [] h = ap state (sym (append-nil xs))
list-leads lines state ok step xs (z ∷ zs) h =
    leads-append (state xs) (state (xs ++ z ∷ [])) (state (xs ++ z ∷ zs)) (lines z) (flat_map lines zs) (step xs z h.0)
    (subst (λ ys. LeadsTo ProgramLineFollows (state (xs ++ z ∷ [])) (flat_map lines zs) (state ys)) (append_assoc xs (z ∷ []) zs) (list-leads lines state ok step (xs ++ z ∷ []) zs h.1))

-- lines that are rows, one an item
single-lines : {A : Type 0} (fields : A → List (List ℕ)) (items : List A) → flat_map (λ x. line_of_fields (fields x) ∷ []) items ≡ map line_of_fields (map fields items)
single-lines fields [] = refl
single-lines fields (x ∷ xs) = ap (λ ls. line_of_fields (fields x) ∷ ls) (single-lines fields xs)

rows-lead : {A : Type 0} (fields : A → List (List ℕ)) (state : List A → Draft) (ok : List A → A → Type 0)
    → ((xs : List A) (x : A) → ok xs x → ProgramLineFollows (state xs) (line_of_fields (fields x)) (state (xs ++ x ∷ []))) → (items : List A) → Each ok [] items → LeadsTo ProgramLineFollows (state []) (map line_of_fields (map fields items)) (state items)
rows-lead fields state ok step items h =
    subst (λ ls. LeadsTo ProgramLineFollows (state []) ls (state items)) (single-lines fields items)
    (list-leads (λ x. line_of_fields (fields x) ∷ []) state ok (λ xs x is. leads-one (state xs) (state (xs ++ x ∷ [])) (line_of_fields (fields x)) (step xs x is)) [] items h)

-- an item more, whatever is due then
comes-item : (state made next : Draft) (item past item_due : Due) (n count : ℕ) (line : List ℕ) → state.due ≡ cond (n == count) past item → n < count → made ≡ next → ProgramLineComes item state line made → ProgramLineFollows state line next
comes-item state made next item past item_due n count line is_due room same f =
    subst (λ e. ProgramLineFollows state line e) same (subst (λ u. ProgramLineComes u state line made) (sym (is_due ∙ ap (λ b. cond b past item) (less_apart n count room))) f)

-- the bytes of texts
are-bytes : (bytes : List ℕ) → AllByRecursion (λ b. b < 256) bytes → IsBytes bytes
are-bytes [] all i = omega arith
are-bytes (b ∷ bs) all zero = all.0
are-bytes (b ∷ bs) all (suc i) = are-bytes bs all.1 i

last-of : {A : Type 0} (P : A → Type 0) (xs zs : List A) (z : A) → All P (xs ++ z ∷ zs) → P z
last-of P xs zs z all = by xs (recursion_from_All P (xs ++ z ∷ zs) all)
  where
    by : (ys : List _) → AllByRecursion P (ys ++ z ∷ zs) → P z
    by [] h = h.0
    by (y ∷ ys) h = by ys h.1

-- TEXTS
abbrev pub text-state : Draft → ℕ → List Text → Draft
text-state d count texts = record d { due = due_after (length texts) count due.Text due.Globals; count = count; texts = texts }

pub record TextComes (count : ℕ) (texts : List Text) (t : Text) : Type 0 where
  pub room : length texts < count
  pub bytes : All (λ b. b < 256) t.bytes
  pub total : bytes_in texts + length t.bytes ≤ byte_limit

text-step : (d : Draft) (count : ℕ) (texts : List Text) (t : Text) → TextComes count texts t → ProgramLineFollows (text-state d count texts) (line_of_fields (text_fields t)) (text-state d count (texts ++ t ∷ []))
text-step d count texts t h =
    let bytes = are-bytes t.bytes (recursion_from_All _ t.bytes h.bytes) in
    let reads = ap (λ fs. text_of_row fs) (row-fields (text_fields t) (λ e. cc) (refl, (is_field-bytes t.bytes bytes, tt))) ∙ text_of_row-fields t.bytes bytes in
    comes-item (text-state d count texts) _ _ due.Text due.Globals due.Text (length texts) count (line_of_fields (text_fields t)) refl h.room
    (ap (λ n. record d { due = due_after n count due.Text due.Globals; count = count; texts = texts ++ t ∷ [] }) (sym (length-append texts (t ∷ []))))
    (t, record { reads = reads; room = h.room; are_bytes = h.bytes; total = h.total }, refl)

text-one : (count : ℕ) (xs zs : List Text) (z : Text) → (AreTexts (xs ++ z ∷ zs) × (length (xs ++ z ∷ zs) ≡ count)) → TextComes count xs z
text-one count xs zs z h = record {
  room = omega (arith, h.1, length-append xs (z ∷ zs));
  bytes = last-of (λ (t : Text). All (λ b. b < 256) t.bytes) xs zs z h.0.bytes;
  total = omega (arith, h.0.total, sum_by-append (λ (t : Text). length t.bytes) xs (z ∷ zs), sum_by-first (λ (t : Text). length t.bytes) z zs);
}

pub texts-lead : (d : Draft) (texts : List Text) → AreTexts texts → LeadsTo ProgramLineFollows (text-state d (length texts) []) (map line_of_fields (map text_fields texts)) (text-state d (length texts) texts)
texts-lead d texts are =
    rows-lead text_fields (text-state d (length texts)) (TextComes (length texts)) (text-step d (length texts)) texts
    (each-of (λ all. AreTexts all × (length all ≡ length texts)) (TextComes (length texts)) (text-one (length texts)) [] texts (are, refl))

-- GLOBALS
small-cell : (texts : ℕ) (c : Cell) → texts ≤ text_limit → IsTrue (cell_fits texts c) → IsSmallCell c
unfolding IsSmallCell
small-cell texts (cell.Number Char value) few h = search rules
small-cell texts (cell.Number Int value) few h = search rules
small-cell texts (cell.Number Unsigned value) few h = search rules
small-cell texts cell.Null few h = tt
small-cell texts (cell.Text index) few h = omega (arith, ltb-true index texts h)

pub small-cells : (texts : ℕ) (cells : List Cell) → texts ≤ text_limit → AllByRecursion (λ c. IsTrue (cell_fits texts c)) cells → AllByRecursion IsSmallCell cells
small-cells texts [] few h = tt
small-cells texts (c ∷ cs) few h = (small-cell texts c few h.0, small-cells texts cs few h.1)

abbrev pub global-state : Draft → ℕ → List Global → Draft
global-state d count globals = record d { due = due_after (length globals) count due.Global due.Functions; count = count; globals = globals }

pub record GlobalComes (texts count : ℕ) (globals : List Global) (g : Global) : Type 0 where
  pub few : texts ≤ text_limit
  pub room : length globals < count
  pub fits : GlobalFits texts g
  pub total : cells_in globals + length g.cells ≤ static_limit

global-step : (d : Draft) (count : ℕ) (globals : List Global) (g : Global) → GlobalComes (length d.texts) count globals g → ProgramLineFollows (global-state d count globals) (line_of_fields (global_fields g)) (global-state d count (globals ++ g ∷ []))
global-step d count globals g h =
    let small = small-cells (length d.texts) g.cells h.few (recursion_from_All _ g.cells h.fits.cells) in
    let reads = ap (λ fs. global_of_row (static_limit - cells_in globals) fs) (row-fields (global_fields g) (λ e. cc) (are_fields-global g.cells small (omega (arith, h.total)))) ∙ global_of_row-fields (static_limit - cells_in globals) g.cells small (omega (arith, h.total)) (omega arith) in
    comes-item (global-state d count globals) _ _ due.Global due.Functions due.Global (length globals) count (line_of_fields (global_fields g)) refl h.room
    (ap (λ n. record d { due = due_after n count due.Global due.Functions; count = count; globals = globals ++ g ∷ [] }) (sym (length-append globals (g ∷ []))))
    (g, record { reads = reads; room = h.room; total = h.total; fits = h.fits }, refl)

global-one : (texts count : ℕ) → texts ≤ text_limit → (xs zs : List Global) (z : Global) → (AreGlobals texts (xs ++ z ∷ zs) × (length (xs ++ z ∷ zs) ≡ count)) → GlobalComes texts count xs z
global-one texts count few xs zs z h = record {
  few = few;
  room = omega (arith, h.1, length-append xs (z ∷ zs));
  fits = last-of (GlobalFits texts) xs zs z h.0.each;
  total = omega (arith, h.0.total, sum_by-append (λ (g : Global). length g.cells) xs (z ∷ zs), sum_by-first (λ (g : Global). length g.cells) z zs);
}

pub globals-lead : (d : Draft) (globals : List Global) → length d.texts ≤ text_limit → AreGlobals (length d.texts) globals → LeadsTo ProgramLineFollows (global-state d (length globals) []) (map line_of_fields (map global_fields globals)) (global-state d (length globals) globals)
globals-lead d globals few are =
    rows-lead global_fields (global-state d (length globals)) (GlobalComes (length d.texts) (length globals)) (global-step d (length globals)) globals
    (each-of (λ all. AreGlobals (length d.texts) all × (length all ≡ length globals)) (GlobalComes (length d.texts) (length globals)) (global-one (length d.texts) (length globals) few) [] globals (are, refl))

-- HEADS
abbrev pub head-state : Draft → ℕ → List Head → Draft
head-state d count heads = record d { due = due_after (length heads) count due.Head due.Main; count = count; heads = heads }

pub record HeadComes (count : ℕ) (heads : List Head) (h : Head) : Type 0 where
  pub room : length heads < count
  pub is_head : IsHead h
  pub fresh : All (λ g. g.name ≢ h.name) heads
  pub locals : locals_in heads + h.locals ≤ local_limit
  pub nodes : nodes_in heads + h.nodes ≤ node_limit

small-head : (count : ℕ) (heads : List Head) (h : Head) → HeadComes count heads h → IsSmallHead h
small-head count heads h is = record {
  name = is.is_head.name;
  params = omega (arith, is.is_head.params, is.locals);
  locals = omega (arith, is.locals);
  nodes = omega (arith, is.nodes);
}

head-step : (d : Draft) (count : ℕ) (heads : List Head) (h : Head) → HeadComes count heads h → ProgramLineFollows (head-state d count heads) (line_of_fields (head_fields h)) (head-state d count (heads ++ h ∷ []))
head-step d count heads h is =
    let small = small-head count heads h is in
    let reads = ap (λ fs. head_of_row fs) (row-fields (head_fields h) (λ e. cc) (are_fields-head h small)) ∙ head_of_row-fields h small in
    comes-item (head-state d count heads) _ _ due.Head due.Main due.Head (length heads) count (line_of_fields (head_fields h)) refl is.room
    (ap (λ n. record d { due = due_after n count due.Head due.Main; count = count; heads = heads ++ h ∷ [] }) (sym (length-append heads (h ∷ []))))
    (h, record { reads = reads; room = is.room; is_head = is.is_head; fresh = is.fresh; locals = is.locals; nodes = is.nodes }, refl)

-- what the heads of a program's functions are
pub record ProgramHeads (count : ℕ) (heads : List Head) : Type 0 where
  pub count_is : length heads ≡ count
  pub each : All IsHead heads
  pub locals : locals_in heads ≤ local_limit
  pub nodes : nodes_in heads ≤ node_limit
  pub distinct : (i j : ℕ) (g h : Head) → slice_get heads i ≡ Some g → slice_get heads j ≡ Some h → g.name ≡ h.name → i ≡ j

pub slice_get-seam : {A : Type 0} (xs ys : List A) (y : A) → slice_get (xs ++ y ∷ ys) (length xs) ≡ Some y
slice_get-seam [] ys y = refl
slice_get-seam (x ∷ xs) ys y = slice_get-seam xs ys y

pub each-index : {A : Type 0} (P : A → Type 0) (xs : List A) → ((i : ℕ) (x : A) → slice_get xs i ≡ Some x → P x) → AllByRecursion P xs
each-index P [] h = tt
each-index P (x ∷ xs) h = (h 0 x refl, each-index P xs (λ i y is. h (suc i) y is))

heads-fresh : (xs zs : List Head) (z : Head) → ((i j : ℕ) (g h : Head) → slice_get (xs ++ z ∷ zs) i ≡ Some g → slice_get (xs ++ z ∷ zs) j ≡ Some h → g.name ≡ h.name → i ≡ j) → All (λ g. g.name ≢ z.name) xs
heads-fresh xs zs z distinct =
    All-from_recursion (λ (g : Head). g.name ≢ z.name) xs (each-index (λ (g : Head). g.name ≢ z.name) xs (λ i x is same.
    let e = distinct i (length xs) x z (get_left xs (z ∷ zs) i x is) (slice_get-seam xs zs z) same in
    omega (arith, slice_get_within xs i x is, e)))

head-one : (count : ℕ) (xs zs : List Head) (z : Head) → ProgramHeads count (xs ++ z ∷ zs) → HeadComes count xs z
head-one count xs zs z h = record {
  room = omega (arith, h.count_is, length-append xs (z ∷ zs));
  is_head = last-of IsHead xs zs z h.each;
  fresh = heads-fresh xs zs z h.distinct;
  locals = omega (arith, h.locals, sum_by-append (λ (x : Head). x.locals) xs (z ∷ zs), sum_by-first (λ (x : Head). x.locals) z zs);
  nodes = omega (arith, h.nodes, sum_by-append (λ (x : Head). x.nodes) xs (z ∷ zs), sum_by-first (λ (x : Head). x.nodes) z zs);
}

pub heads-lead : (d : Draft) (heads : List Head) → ProgramHeads (length heads) heads → LeadsTo ProgramLineFollows (head-state d (length heads) []) (map line_of_fields (map head_fields heads)) (head-state d (length heads) heads)
heads-lead d heads are =
    rows-lead head_fields (head-state d (length heads)) (HeadComes (length heads)) (head-step d (length heads)) heads
    (each-of (ProgramHeads (length heads)) (HeadComes (length heads)) (head-one (length heads)) [] heads are)

-- SITES
abbrev pub site-state : Draft → ℕ → List Site → Draft
site-state d count sites = with_sites (record d { count = count }) sites

pub record SiteComes (locals : List ℕ) (globals count : ℕ) (sites : List Site) (s : Site) : Type 0 where
  pub room : length sites < count
  pub small : IsSmallSite s
  pub fits : IsSite locals globals s

site-step : (d : Draft) (count : ℕ) (sites : List Site) (s : Site) → SiteComes (map (λ h. h.locals) d.heads) (length d.globals) count sites s → ProgramLineFollows (site-state d count sites) (line_of_fields (site_fields s)) (site-state d count (sites ++ s ∷ []))
site-step d count sites s h =
    let reads = ap (λ fs. site_of_row fs) (row-fields (site_fields s) (λ e. cc) (are_fields-site s h.small)) ∙ site_of_row-fields s h.small in
    let here : Draft = record d { due = due.Site; count = count; sites = sites } in
    let f : ProgramLineFollows here (line_of_fields (site_fields s)) (with_sites (record d { count = count }) (sites ++ s ∷ [])) = (s, record { reads = reads; room = h.room; fits = h.fits }, refl) in
    let state : with_sites (record d { count = count }) sites ≡ here = ap (λ b. cond b (record d { due = due.Locals; count = count; sites = sites; names = names_in d sites; functions = [] }) here) (less_apart (length sites) count h.room) in
    subst (λ e. ProgramLineFollows e (line_of_fields (site_fields s)) (with_sites (record d { count = count }) (sites ++ s ∷ []))) (sym state) f

-- the numbers of a site are small
pub record SmallLocals (locals : List ℕ) (globals : ℕ) : Type 0 where
  pub each : (i own : ℕ) → slice_get locals i ≡ Some own → own ≤ greatest_u32
  pub count : length locals ≤ greatest_u32
  pub few_globals : globals ≤ greatest_u32

small-slot : (own globals : ℕ) (slot : Slot) → own ≤ greatest_u32 → globals ≤ greatest_u32 → IsTrue (slot_fits own globals slot) → IsSmallSlot slot
unfolding IsSmallSlot
small-slot own globals (slot.Local index) few more h = omega (arith, ltb-true index own h)
small-slot own globals (slot.Global index) few more h = omega (arith, ltb-true index globals h)

small-constant : (value : ℤ) → IsTrue (is_constant value) → FitsSigned w64 value
small-constant value h = search rules

small-partner : (own globals : ℕ) (p : Partner) → own ≤ greatest_u32 → globals ≤ greatest_u32 → PartnerFits own globals p → IsSmallPartner p
unfolding IsSmallPartner
small-partner own globals (partner.Variable name place) few more h = (h.0, small-slot own globals place few more h.1)
small-partner own globals (partner.Constant value) few more h = small-constant value h

small-kind : (own globals : ℕ) (k : SiteKind) → own ≤ greatest_u32 → globals ≤ greatest_u32 → KindFits own globals k → IsSmallKind k
unfolding IsSmallKind
small-kind own globals (kind.Branch word) few more h = tt
small-kind own globals (kind.Return callee) few more h = h
small-kind own globals (kind.Pair target place other) few more h = (h.0, (small-slot own globals place few more h.1, small-partner own globals other few more h.2))

small-site : (locals : List ℕ) (globals : ℕ) (s : Site) → SmallLocals locals globals → IsSite locals globals s → IsSmallSite s
small-site locals globals s small is = record {
  function = omega (arith, small.count, slice_get_within locals s.function is.own is.owner);
  line = omega (arith, is.fits.last_line);
  token = omega (arith, is.fits.token);
  kind = small-kind is.own globals s.kind (small.each s.function is.own is.owner) small.few_globals is.fits.kind;
}

site-one : (locals : List ℕ) (globals count : ℕ) → SmallLocals locals globals → (xs zs : List Site) (z : Site) → (AreSites locals globals (xs ++ z ∷ zs) × (length (xs ++ z ∷ zs) ≡ count)) → SiteComes locals globals count xs z
site-one locals globals count small xs zs z h =
    let is = last-of (IsSite locals globals) xs zs z h.0.each in record {
      room = omega (arith, h.1, length-append xs (z ∷ zs));
      small = small-site locals globals z small is;
      fits = is;
    }

pub sites-lead : (d : Draft) (sites : List Site) → SmallLocals (map (λ h. h.locals) d.heads) (length d.globals) → AreSites (map (λ h. h.locals) d.heads) (length d.globals) sites → LeadsTo ProgramLineFollows (site-state d (length sites) []) (map line_of_fields (map site_fields sites)) (site-state d (length sites) sites)
sites-lead d sites small are =
    let locals = map (λ (h : Head). h.locals) d.heads in
    rows-lead site_fields (site-state d (length sites)) (SiteComes locals (length d.globals) (length sites)) (site-step d (length sites)) sites
    (each-of (λ all. AreSites locals (length d.globals) all × (length all ≡ length sites)) (SiteComes locals (length d.globals) (length sites)) (site-one locals (length d.globals) (length sites) small) [] sites (are, refl))

-- NODES
abbrev pub node-state : Draft → Head → List Node → Draft
node-state d h nodes = with_nodes d h nodes

pub record NodeComes (d : Draft) (h : Head) (nodes : List Node) (n : Node) : Type 0 where
  pub room : length nodes < h.nodes
  pub small : IsSmall n
  pub fits : IsTrue (node_fits d.names (bounds_in d h) (length nodes) n)

node-step : (d : Draft) (h : Head) → IsDue d h → (nodes : List Node) (n : Node) → NodeComes d h nodes n → ProgramLineFollows (node-state d h nodes) (line_of_fields (node_fields n)) (node-state d h (nodes ++ n ∷ []))
node-step d h is_due nodes n is =
    let reads = ap (λ fs. node_of fs) (row-fields (node_fields n) (node-some n) (are_fields-node n is.small)) ∙ node_of-fields n is.small in
    let here : Draft = record d { due = due.Node; nodes = nodes } in
    let f : ProgramLineFollows here (line_of_fields (node_fields n)) (with_nodes d h (nodes ++ n ∷ [])) = ((h, n), record { is_due = is_due; reads = reads; room = is.room; fits = is.fits }, refl) in
    let state : with_nodes d h nodes ≡ here = ap (λ b. cond b (with_function d (function_with h d.locals nodes)) here) (less_apart (length nodes) h.nodes is.room) in
    subst (λ e. ProgramLineFollows e (line_of_fields (node_fields n)) (with_nodes d h (nodes ++ n ∷ []))) (sym state) f

node-one : (d : Draft) (h : Head) → AreSmallNames d.names (bounds_in d h) → (xs zs : List Node) (z : Node) → (NodesFit d.names (bounds_in d h) (xs ++ z ∷ zs) × (length (xs ++ z ∷ zs) ≡ h.nodes)) → NodeComes d h xs z
node-one d h small xs zs z is =
    let fits = is.0.each (length xs) z (slice_get-seam xs zs z) in record {
      room = omega (arith, is.1, length-append xs (z ∷ zs));
      small = small-fits d.names (bounds_in d h) (length xs) z small fits;
      fits = fits;
    }

nodes-lead : (d : Draft) (h : Head) (nodes : List Node) → IsDue d h → AreSmallNames d.names (bounds_in d h) → NodesFit d.names (bounds_in d h) nodes → length nodes ≡ h.nodes → LeadsTo ProgramLineFollows (node-state d h []) (map line_of_fields (map node_fields nodes)) (node-state d h nodes)
nodes-lead d h nodes is_due small fit count =
    rows-lead node_fields (node-state d h) (NodeComes d h) (node-step d h is_due) nodes
    (each-of (λ all. NodesFit d.names (bounds_in d h) all × (length all ≡ h.nodes)) (NodeComes d h) (node-one d h small) [] nodes (fit, count))

-- FUNCTIONS
abbrev pub function-state : Draft → List Function → Draft
function-state d functions = record d { due = due_after (length functions) (length d.heads) due.Locals due.End; functions = functions; locals = []; nodes = [] }

pub record FunctionComes (d : Draft) (functions : List Function) (f : Function) : Type 0 where
  pub is_due : slice_get d.heads (length functions) ≡ Some (head_of f)
  pub small : AreSmallNames d.names (bounds_of (length functions) f)
  pub sizes : AllByRecursion (λ size. size ≤ greatest_u32) f.locals
  pub is : IsFunction d.names (length functions) f

pub function-step : (d : Draft) (functions : List Function) (f : Function) → FunctionComes d functions f → LeadsTo ProgramLineFollows (function-state d functions) (map line_of_fields (body_rows f)) (function-state d (functions ++ f ∷ []))
function-step d functions f h =
    let start : Draft = record d { due = due.Locals; functions = functions; locals = []; nodes = [] } in
    let inside : Draft = record d { due = due.Node; functions = functions; locals = f.locals; nodes = [] } in
    let room : length functions < length d.heads = slice_get_within d.heads (length functions) (head_of f) h.is_due in
    let reads = ap (λ fs. locals_of_row (length f.locals) fs) (row-fields (locals_fields f.locals) (λ e. cc) (refl, are_fields-sizes f.locals h.sizes)) ∙ sizes_of-fields f.locals h.sizes in
    let first : ProgramLineFollows start (line_of_fields (locals_fields f.locals)) inside = (f.locals, record { head = head_of f; is_due = h.is_due; reads = reads; fits = h.is.locals }, refl) in
    let at : function-state d functions ≡ start = ap (λ b. record d { due = cond b due.End due.Locals; functions = functions; locals = []; nodes = [] }) (less_apart (length functions) (length d.heads) room) in
    let none : with_nodes inside (head_of f) [] ≡ inside = ap (λ b. cond b (with_function inside (function_with (head_of f) f.locals [])) inside) (less_apart 0 (length f.nodes) h.is.entry) in
    let all : with_nodes inside (head_of f) f.nodes ≡ with_function inside f = ap (λ b. cond b (with_function inside f) (record inside { nodes = f.nodes })) (eq-eqb (length f.nodes) (length f.nodes) refl) in
    let end : with_function inside f ≡ function-state d (functions ++ f ∷ []) = ap (λ n. record d { due = due_after n (length d.heads) due.Locals due.End; functions = functions ++ f ∷ []; locals = []; nodes = [] }) (sym (length-append functions (f ∷ []))) in
    let nodes = nodes-lead inside (head_of f) f.nodes h.is_due h.small h.is.nodes refl in
    let body = subst (λ e. LeadsTo ProgramLineFollows inside (map line_of_fields (map node_fields f.nodes)) e) (all ∙ end) (subst (λ e. LeadsTo ProgramLineFollows e (map line_of_fields (map node_fields f.nodes)) (with_nodes inside (head_of f) f.nodes)) none nodes) in
    (inside, subst (λ e. ProgramLineFollows e (line_of_fields (locals_fields f.locals)) inside) (sym at) first, body)

-- LINES
pub each-lines : {A : Type 0} (fields : A → List (List ℕ)) (ok : List A → A → Type 0) → ((xs : List A) (x : A) → ok xs x → AllByRecursion IsField (fields x)) → (xs zs : List A) → Each ok xs zs → AreLines (map line_of_fields (map fields zs))
unfolding Each
each-lines fields ok are xs [] h = tt
each-lines fields ok are xs (z ∷ zs) h = (spaced-lacks-newline (fields z) (are xs z h.0), each-lines fields ok are (xs ++ z ∷ []) zs h.1)

pub texts-lines : (texts : List Text) → AreTexts texts → AreLines (map line_of_fields (map text_fields texts))
texts-lines texts are =
    each-lines text_fields (TextComes (length texts)) (λ xs t h. (refl, (is_field-bytes t.bytes (are-bytes t.bytes (recursion_from_All _ t.bytes h.bytes)), tt))) [] texts
    (each-of (λ all. AreTexts all × (length all ≡ length texts)) (TextComes (length texts)) (text-one (length texts)) [] texts (are, refl))

pub globals-lines : (texts : ℕ) (globals : List Global) → texts ≤ text_limit → AreGlobals texts globals → AreLines (map line_of_fields (map global_fields globals))
globals-lines texts globals few are =
    each-lines global_fields (GlobalComes texts (length globals)) (λ xs g h. are_fields-global g.cells (small-cells texts g.cells h.few (recursion_from_All _ g.cells h.fits.cells)) (omega (arith, h.total))) [] globals
    (each-of (λ all. AreGlobals texts all × (length all ≡ length globals)) (GlobalComes texts (length globals)) (global-one texts (length globals) few) [] globals (are, refl))

pub heads-lines : (heads : List Head) → ProgramHeads (length heads) heads → AreLines (map line_of_fields (map head_fields heads))
heads-lines heads are =
    each-lines head_fields (HeadComes (length heads)) (λ xs h is. are_fields-head h (small-head (length heads) xs h is)) [] heads
    (each-of (ProgramHeads (length heads)) (HeadComes (length heads)) (head-one (length heads)) [] heads are)

pub sites-lines : (locals : List ℕ) (globals : ℕ) (sites : List Site) → SmallLocals locals globals → AreSites locals globals sites → AreLines (map line_of_fields (map site_fields sites))
sites-lines locals globals sites small are =
    each-lines site_fields (SiteComes locals globals (length sites)) (λ xs s h. are_fields-site s h.small) [] sites
    (each-of (λ all. AreSites locals globals all × (length all ≡ length sites)) (SiteComes locals globals (length sites)) (site-one locals globals (length sites) small) [] sites (are, refl))

pub nodes-lines : (names : Names) (bounds : Bounds) (nodes : List Node) → AreSmallNames names bounds → NodesFit names bounds nodes → AreLines (map line_of_fields (map node_fields nodes))
nodes-lines names bounds nodes small fit = by nodes (each-index IsSmall nodes (λ i n h. small-fits names bounds i n small (fit.each i n h)))
  where
    by : (ns : List Node) → AllByRecursion IsSmall ns → AreLines (map line_of_fields (map node_fields ns))
    by [] h = tt
    by (n ∷ ns) h = (spaced-lacks-newline (node_fields n) (are_fields-node n h.0), by ns h.1)

lines-append : (a b : List (List ℕ)) → AreLines a → AreLines b → AreLines (a ++ b)
lines-append [] b p q = q
lines-append (x ∷ xs) b p q = (p.0, lines-append xs b p.1 q)

pub rows-append : (a b : List (List (List ℕ))) → AreLines (map line_of_fields a) → AreLines (map line_of_fields b) → AreLines (map line_of_fields (a ++ b))
rows-append a b p q = subst AreLines (sym (map-append line_of_fields a b)) (lines-append (map line_of_fields a) (map line_of_fields b) p q)

pub body-lines : (names : Names) (number : ℕ) (f : Function) → AreSmallNames names (bounds_of number f) → AllByRecursion (λ size. size ≤ greatest_u32) f.locals → IsFunction names number f → AreLines (map line_of_fields (body_rows f))
body-lines names number f small sizes is = (spaced-lacks-newline (locals_fields f.locals) (refl, are_fields-sizes f.locals sizes), nodes-lines names (bounds_of number f) f.nodes small is.nodes)
