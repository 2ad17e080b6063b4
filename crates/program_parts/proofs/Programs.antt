-- The program of a part: it is a program, and as the machine sees it.
use Rattle.std.proofs.Common.{◌≡◌, ℕ, zero, suc, Bool, true, false, ◌&&◌, if◌then◌else◌, IsTrue, List, [], ◌∷◌, length, map, Option, Some, None, slice_get, refl, sym, ap, ◌∙◌, subst, arith}
use Rattle.std.specs.List.{All, sum_by}
use Rattle.std.specs.Option.{option_map}
use Rattle.std.proofs.Math.Path.{fun_ext}
use Rattle.std.proofs.lemmas.List.{length-map}
use Rattle.std.proofs.lemmas.List.Elements.{All-get_or, All-map, All-weaker}
use Rattle.std.proofs.lemmas.List.Sums.{sum_by-cons}
use Rattle.std.proofs.lemmas.Option.{get_or_from_slice_get, slice_get-map, slice_get_within}
use Rattle.std.proofs.lemmas.Bool.{and_from, and_parts}
use Rattle.flow.specs.declared.node.Node.{Node}
use Rattle.flow.specs.declared.node.Node.TheVariants.{Mark, Pass, Test}
use Rattle.flow.specs.declared.node.View.{View}
use Rattle.flow.specs.declared.node.View.TheVariants.{Marks}
use Rattle.flow.specs.declared.program.Function.{Function}
use Rattle.flow.specs.declared.program.Global.{Global}
use Rattle.flow.specs.declared.program.ProgramParts.{ProgramParts}
use Rattle.flow.specs.declared.program.Text.{Text}
use Rattle.flow.specs.declared.scope.Bounds.{Bounds}
use Rattle.flow.specs.declared.scope.Names.{Names}
use Rattle.flow.specs.declared.site.Site.{Site}
use Rattle.flow.specs.Words.{Callee, Code, callee_of, code_of, view_at, view_in, NodesFit, is_own, leads_rightly, names_fit, node_fits, AreSites, IsFunction}
use Rattle.flow.specs.Words.{IsProgram, bounds_of, names_of, parts_of, ArePlain, BranchesFork, IsBranch, IsPlain, IsReady, IsSite, PartFits, view}
use Rattle.flow.specs.declared.choice.Part.{Part}
use Rattle.program_parts.specs.Part.{is_site_in_part, number_in, part_of, whole_number}
use Rattle.program_parts.specs.Program.{part_function, part_node, part_program}
use Rattle.program_parts.proofs.Lists.{all_of, few_of, item_at}
use Rattle.program_parts.proofs.Numbers.{whole_back}
use Rattle.program_parts.proofs.Steps.{PlainCode, part_code, part_view, view_by}

all_at : {A : Type 0} (P : A → Type 0) (xs : List A) (k : ℕ) (x : A) → All P xs → slice_get xs k ≡ Some x → P x
all_at P xs k x all e = subst P (get_or_from_slice_get xs k x x e) (All-get_or P xs k x (slice_get_within xs k x e) all)

-- an item of a mapped list is that of an item
before_map : {A B : Type 0} (f : A → B) (xs : List A) (k : ℕ) (y : B) → slice_get (map f xs) k ≡ Some y → (x : A) × (slice_get xs k ≡ Some x) × (y ≡ f x)
before_map f [] k y e = cc
before_map f (x ∷ xs) zero y e = (x, refl, cc)
before_map f (x ∷ xs) (suc k) y e = before_map f xs k y e

-- the view of a node
viewed_by : (b : Bool) (part : Part) (site next : ℕ) → is_site_in_part part site ≡ b → view (part_node part (Mark site next)) ≡ view_by b part site next
viewed_by true part site next h = ap (λ (b : Bool). view (if b then Mark (number_in part site) next else Pass next)) h
viewed_by false part site next h = ap (λ (b : Bool). view (if b then Mark (number_in part site) next else Pass next)) h

node_viewed : (part : Part) (n : Node) → view (part_node part n) ≡ part_view part (view n)
node_viewed part (Mark site next) = viewed_by (is_site_in_part part site) part site next refl
node_viewed part other = refl

at_viewed : (part : Part) (found : Option Node) → view_at (option_map (part_node part) found) ≡ part_view part (view_at found)
at_viewed part None = refl
at_viewed part (Some n) = node_viewed part n

function_viewed : (part : Part) (found : Option Function) (place : ℕ) → view_in (option_map (part_function part) found) place ≡ part_view part (view_in found place)
function_viewed part None place = refl
function_viewed part (Some f) place = ap view_at (slice_get-map (part_node part) f.nodes place) ∙ at_viewed part (slice_get f.nodes place)

same_callee : (part : Part) (found : Option Function) → callee_of (option_map (part_function part) found) ≡ callee_of found
same_callee part None = refl
same_callee part (Some f) = refl

pub same_code : (part : Part) (p : ProgramParts) (bank : ℕ → ℕ) → PartFits part → code_of (part_program part p) bank ≡ part_code part (code_of p bank)
same_code part p bank is =
    let fs = p.functions in
    let there = λ (function : ℕ). slice_get-map (part_function part) fs function in
    let nodes : (λ (function place : ℕ). view_in (slice_get (map (part_function part) fs) function) place) ≡ (λ (function place : ℕ). part_view part (view_in (slice_get fs function) place)) =
    fun_ext (λ (function : ℕ). fun_ext (λ (place : ℕ).
    ap (λ (found : Option Function). view_in found place) (there function) ∙ function_viewed part (slice_get fs function) place))
    in
    let callees : (λ (function : ℕ). callee_of (slice_get (map (part_function part) fs) function)) ≡ (λ (function : ℕ). callee_of (slice_get fs function)) =
    fun_ext (λ (function : ℕ). ap callee_of (there function) ∙ same_callee part (slice_get fs function))
    in
    let sites : slice_get (part_of part p.sites) ≡ (λ (number : ℕ). slice_get p.sites (whole_number part number)) =
    fun_ext (λ (number : ℕ). item_at part p.sites number is)
    in
    ap (λ (at : ℕ → ℕ → View). let code : Code = record (code_of (part_program part p) bank) { at = at } in code) nodes
    ∙ ap (λ (callee : ℕ → Option Callee). let code : Code = record (code_of (part_program part p) bank) { at = (part_code part (code_of p bank)).at; callee = callee } in code) callees
    ∙ ap (λ (site : ℕ → Option Site). let code : Code = record (part_code part (code_of p bank)) { site = site } in code) sites

-- no node of the part's program belongs to sampling
plain_by : (b : Bool) (part : Part) (site next : ℕ) → IsPlain (view_by b part site next)
plain_by true part site next = tt
plain_by false part site next = tt

plain_view : (part : Part) (v : View) → IsPlain v → IsPlain (part_view part v)
plain_view part (Marks site next) h = plain_by (is_site_in_part part site) part site next
plain_view part other h = h

plain_node : (part : Part) (n : Node) → IsPlain (view n) → IsPlain (view (part_node part n))
plain_node part n h = subst IsPlain (sym (node_viewed part n)) (plain_view part (view n) h)

pub plain_functions : (part : Part) (fs : List Function) → All (λ f. ArePlain f.nodes) fs → All (λ f. ArePlain f.nodes) (map (part_function part) fs)
plain_functions part fs all =
    All-map (λ (f : Function). ArePlain f.nodes) (part_function part) fs
    (All-weaker (λ (f : Function). ArePlain f.nodes) (λ (f : Function). ArePlain (part_function part f).nodes)
    (λ f h. All-map (λ (n : Node). IsPlain (view n)) (part_node part) f.nodes
    (All-weaker (λ (n : Node). IsPlain (view n)) (λ (n : Node). IsPlain (view (part_node part n))) (plain_node part) f.nodes h)) fs all)

plain_at : (nodes : List Node) (place : ℕ) (found : Option Node) → ArePlain nodes → slice_get nodes place ≡ found → IsPlain (view_at found)
plain_at nodes place None all e = tt
plain_at nodes place (Some n) all e = all_at (λ (m : Node). IsPlain (view m)) nodes place n all e

plain_in : (fs : List Function) (function place : ℕ) (found : Option Function) → All (λ f. ArePlain f.nodes) fs → slice_get fs function ≡ found → IsPlain (view_in found place)
plain_in fs function place None all e = tt
plain_in fs function place (Some f) all e =
    plain_at f.nodes place (slice_get f.nodes place) (all_at (λ (g : Function). ArePlain g.nodes) fs function f all e) refl

pub plain_code : (p : ProgramParts) (bank : ℕ → ℕ) → All (λ f. ArePlain f.nodes) p.functions → PlainCode (code_of p bank)
plain_code p bank all function place = plain_in p.functions function place (slice_get p.functions function) all refl

-- a ready program gives a ready one
record OfMark (part : Part) (v : View) (number next : ℕ) : Type 0 where
  site : ℕ
  is : v ≡ Marks site next
  own : is_site_in_part part site ≡ true
  number_is : number ≡ number_in part site

mark_by : (b : Bool) (part : Part) (site after number next : ℕ) → is_site_in_part part site ≡ b → view_by b part site after ≡ Marks number next → OfMark part (Marks site after) number next
mark_by true part site after number next h e = record { site = site; is = cc; own = h; number_is = cc }
mark_by false part site after number next h e = cc

of_mark : (part : Part) (v : View) (number next : ℕ) → part_view part v ≡ Marks number next → OfMark part v number next
of_mark part (Marks site after) number next e = mark_by (is_site_in_part part site) part site after number next refl e
of_mark part other number next e = cc

ready_code : (part : Part) (code : Code) → PartFits part → BranchesFork code.at code.site → BranchesFork (part_code part code).at (part_code part code).site
ready_code part code is ready function place number next e b =
    let m = of_mark part (code.at function place) number next e in
    let whole : whole_number part number ≡ m.site = ap (whole_number part) m.number_is ∙ whole_back part m.site is m.own in
    let f = ready function place m.site next m.is (subst (λ (k : ℕ). IsBranch (code.site k)) whole b) in
    (f.0, f.1, ap (part_view part) f.2)

pub ready_part : (part : Part) (p : ProgramParts) → PartFits part → IsReady p → IsReady (part_program part p)
ready_part part p is ready =
    subst (λ (code : Code). BranchesFork code.at code.site) (sym (same_code part p (λ draws. 0) is)) (ready_code part (code_of p (λ draws. 0)) is ready)

-- what a node of the part's program names exists, where its site's owner is the same
abbrev SameOwners : Part → List ℕ → List ℕ → Type 0
SameOwners part owners kept = (site : ℕ) → is_site_in_part part site ≡ true → slice_get kept (number_in part site) ≡ slice_get owners site

abbrev owned : Names → List ℕ → Names
owned names owners = record names { owners = owners }

own_by : (b : Bool) (names : Names) (bounds : Bounds) (part : Part) (kept : List ℕ) (site next : ℕ) → SameOwners part names.owners kept → is_site_in_part part site ≡ b →
    names_fit names bounds (Mark site next) ≡ true → names_fit (owned names kept) bounds (part_node part (Mark site next)) ≡ true
unfolding names_fit
own_by true names bounds part kept site next own h fits =
    ap (λ (b : Bool). names_fit (owned names kept) bounds (if b then Mark (number_in part site) next else Pass next)) h
    ∙ ap (is_own bounds) (own site h) ∙ fits
own_by false names bounds part kept site next own h fits =
    ap (λ (b : Bool). names_fit (owned names kept) bounds (if b then Mark (number_in part site) next else Pass next)) h

names_kept : (names : Names) (bounds : Bounds) (part : Part) (kept : List ℕ) (n : Node) → SameOwners part names.owners kept → IsPlain (view n) →
    names_fit names bounds n ≡ true → names_fit (owned names kept) bounds (part_node part n) ≡ true
unfolding names_fit
names_kept names bounds part kept (Mark site next) own plain fits = own_by (is_site_in_part part site) names bounds part kept site next own refl fits
names_kept names bounds part kept (Test site next) own plain fits = absurd plain
names_kept names bounds part kept other own plain fits = fits

leads_by : (b : Bool) (bounds : Bounds) (part : Part) (place site next : ℕ) → leads_rightly bounds place (view_by b part site next) ≡ leads_rightly bounds place (Marks site next)
unfolding leads_rightly
leads_by true bounds part place site next = refl
leads_by false bounds part place site next = refl

leads_kept : (bounds : Bounds) (part : Part) (place : ℕ) (v : View) → leads_rightly bounds place (part_view part v) ≡ leads_rightly bounds place v
leads_kept bounds part place (Marks site next) = leads_by (is_site_in_part part site) bounds part place site next
leads_kept bounds part place other = refl

node_kept : (names : Names) (bounds : Bounds) (part : Part) (kept : List ℕ) (place : ℕ) (n : Node) → SameOwners part names.owners kept → IsPlain (view n) →
    IsTrue (node_fits names bounds place n) → IsTrue (node_fits (owned names kept) bounds place (part_node part n))
unfolding node_fits
node_kept names bounds part kept place n own plain fits =
    let f = and_parts (names_fit names bounds n) (leads_rightly bounds place (view n)) fits in
    let leads : leads_rightly bounds place (view (part_node part n)) ≡ true =
    ap (leads_rightly bounds place) (node_viewed part n) ∙ leads_kept bounds part place (view n) ∙ f.1
    in
    and_from (names_fit (owned names kept) bounds (part_node part n)) (leads_rightly bounds place (view (part_node part n)))
    (names_kept names bounds part kept n own plain f.0) leads

function_kept : (names : Names) (part : Part) (kept : List ℕ) (number : ℕ) (f : Function) → SameOwners part names.owners kept → ArePlain f.nodes →
    IsFunction names number f → IsFunction (owned names kept) number (part_function part f)
function_kept names part kept number f own plain is =
    let same : length (map (part_node part) f.nodes) ≡ length f.nodes = length-map f.nodes (part_node part) in
    record {
      name = is.name;
      locals = is.locals;
      entry = omega (arith, is.entry, same);
      nodes = subst (λ (n : ℕ). let bounds : Bounds = record { function = number; locals = length f.locals; nodes = n } in NodesFit (owned names kept) bounds (map (part_node part) f.nodes)) (sym same)
          (record {
            each = λ place n e.
                let m = before_map (part_node part) f.nodes place n e in
                subst (λ (x : Node). IsTrue (node_fits (owned names kept) (bounds_of number f) place x)) (sym m.2)
                (node_kept names (bounds_of number f) part kept place m.0 own (all_at (λ (x : Node). IsPlain (view x)) f.nodes place m.0 plain m.1) (is.nodes.each place m.0 m.1));
          });
    }

-- what is summed over the functions but for their nodes' kinds
sum_kept : (part : Part) (size : Function → ℕ) → ((f : Function) → size (part_function part f) ≡ size f) → (fs : List Function) →
    sum_by size (map (part_function part) fs) ≡ sum_by size fs
sum_kept part size same [] = refl
sum_kept part size same (f ∷ fs) =
    sum_by-cons size (part_function part f) (map (part_function part) fs)
    ∙ omega (arith, same f, sum_kept part size same fs, sum_by-cons size f fs)

pub nodes_kept : (part : Part) (fs : List Function) → sum_by (λ f. length f.nodes) (map (part_function part) fs) ≡ sum_by (λ f. length f.nodes) fs
nodes_kept part fs = sum_kept part (λ (f : Function). length f.nodes) (λ f. length-map f.nodes (part_node part)) fs

locals_kept : (part : Part) (fs : List Function) → map (λ (f : Function). length f.locals) (map (part_function part) fs) ≡ map (λ (f : Function). length f.locals) fs
locals_kept part [] = refl
locals_kept part (f ∷ fs) = ap (λ (ls : List ℕ). length f.locals ∷ ls) (locals_kept part fs)

pub names_same : (part : Part) (fs : List Function) → map (λ (f : Function). f.name) (map (part_function part) fs) ≡ map (λ (f : Function). f.name) fs
names_same part [] = refl
names_same part (f ∷ fs) = ap (λ (ns : List (List ℕ)). f.name ∷ ns) (names_same part fs)

owners_same : (part : Part) (sites : List Site) → PartFits part → SameOwners part (map (λ s. s.function) sites) (map (λ s. s.function) (part_of part sites))
owners_same part sites is site h =
    let owner : Site → ℕ = λ s. s.function in
    slice_get-map owner (part_of part sites) (number_in part site)
    ∙ ap (option_map owner) (item_at part sites (number_in part site) is ∙ ap (slice_get sites) (whole_back part site is h))
    ∙ sym (slice_get-map owner sites site)

pub part_is_program : (part : Part) (p : ProgramParts) → PartFits part → All (λ f. ArePlain f.nodes) p.functions → IsProgram p → IsProgram (part_program part p)
part_is_program part p is plain program =
    let fs = p.functions in
    let few = program.parts.few in
    let same : length (map (part_function part) fs) ≡ length fs = length-map fs (part_function part) in
    let m = program.parts.main in
    let kept = map (λ (s : Site). s.function) (part_of part p.sites) in
    record {
      parts = record {
        texts = program.parts.texts;
        globals = program.parts.globals;
        few = record {
          some = omega (arith, same, few.some);
          few = omega (arith, same, few.few);
          locals = omega (arith, few.locals, sum_kept part (λ (f : Function). length f.locals) (λ f. refl) fs);
          nodes = omega (arith, few.nodes, nodes_kept part fs);
        };
        main = (
          part_function part m.0,
          slice_get-map (part_function part) fs p.main ∙ ap (option_map (part_function part)) m.1,
          record { result = m.2.result; params = m.2.params },
        );
        sites = subst (λ (ls : List ℕ). AreSites ls (length p.globals) (part_of part p.sites)) (sym (locals_kept part fs))
            (record {
              few = omega (arith, program.parts.sites.few, few_of part p.sites);
              each = all_of (IsSite (map (λ (f : Function). length f.locals) fs) (length p.globals)) part p.sites program.parts.sites.each;
            });
      };
      distinct = record {
        each = λ i j f g a b e.
            let x = before_map (part_function part) fs i f a in
            let y = before_map (part_function part) fs j g b in
            let name : Function → List ℕ = λ h. h.name in
            program.distinct.each i j x.0 y.0 x.1 y.1 (sym (ap name x.2) ∙ e ∙ ap name y.2);
      };
      functions = record {
        each = λ number g e.
            let x = before_map (part_function part) fs number g e in
            subst (λ (f : Function). IsFunction (names_of (part_program part p)) number f) (sym x.2)
            (subst (λ (n : ℕ). let names : Names = record (owned (names_of p) kept) { functions = n } in IsFunction names number (part_function part x.0)) (sym same)
            (function_kept (names_of p) part kept number x.0 (owners_same part p.sites is) (all_at (λ (f : Function). ArePlain f.nodes) fs number x.0 plain x.1) (program.functions.each number x.0 x.1)));
      };
    }

-- what is made of the copies of a program's parts
pub made_of : (part : Part) (p : ProgramParts) (texts : List Text) (globals : List Global) (functions : List Function) (main : ℕ) (sites : List Site) →
    texts ≡ p.texts → globals ≡ p.globals → functions ≡ map (part_function part) p.functions → main ≡ p.main → sites ≡ part_of part p.sites →
    parts_of texts globals functions main sites ≡ part_program part p
made_of part p texts globals functions main sites a b c d e =
    ap (λ (xs : List Text). parts_of xs globals functions main sites) a
    ∙ ap (λ (xs : List Global). parts_of p.texts xs functions main sites) b
    ∙ ap (λ (xs : List Function). parts_of p.texts p.globals xs main sites) c
    ∙ ap (λ (n : ℕ). parts_of p.texts p.globals (map (part_function part) p.functions) n sites) d
    ∙ ap (λ (xs : List Site). parts_of p.texts p.globals (map (part_function part) p.functions) p.main xs) e
