-- What reading a line answers, from what its item answers.
use Rattle.std.proofs.Common.{◌≡◌, ◌<◌, ℕ, true, false, cond, List, [], ◌∷◌, ◌++◌, length, map, Some, Err, IsTrue, slice_get, ap, sym, subst, ◌∙◌, length-append, codes, arith}
use Rattle.std.proofs.lemmas.Bool.{eq-eqb, false≢true}
use Rattle.std.proofs.lemmas.Fmt.{decimal_digit}
use Rattle.base_lists.proofs.Options.{some_is}
use Rattle.base_lists.proofs.Lists.{get_map}
use Rattle.cbi_base.specs.Words.{fields_of, line_of_fields, TakenWith}
use Rattle.cbi_base.specs.declared.lines.LineError.{LineError}
use Rattle.cbi_base.specs.declared.lines.LineError.TheVariants.{Bad, Memory}
use Rattle.flow.specs.declared.node.Node.{Node}
use Rattle.flow.specs.declared.program.Function.{Function}
use Rattle.flow.specs.declared.site.Site.{Site}
use Rattle.flow.specs.declared.scope.Bounds.{Bounds}
use Rattle.flow.specs.Words.{node_fits, SiteFits, Head, word_and_number}
use Rattle.program_file.specs.declared.draft.Due.{Due}
use Rattle.program_file.specs.declared.draft.Due.TheVariants as due
use Rattle.program_file.specs.declared.draft.Draft.{Draft}
use Rattle.program_lines.specs.NodeLines.{node_of}
use Rattle.program_lines.specs.SiteLines.{site_of_row}
use Rattle.program_file.specs.Draft.{IsDue, IsNextNode, IsNextSite, bounds_in, due_after, function_with, with_function, with_nodes}
use Rattle.program_file.specs.Errors.{TakenAs}

-- an error of an item is one of its line
pub err-taken : {A : Type 0} (e : LineError) (item : A) (P : Type 0) → TakenAs {A = A} (Err e) item → TakenWith {A = Unit {0}} (Err e) P
err-taken Bad item P h = absurd h
err-taken Memory item P h = tt

-- the node that was read fits where one follows
pub node-follows : (d : Draft) (line : List ℕ) (g h : Head) (m n : Node) → IsDue d g → Some m ≡ node_of (fields_of line) → IsNextNode d line h n → IsTrue (node_fits d.names (bounds_in d g) (length d.nodes) m)
node-follows d line g h m n due_is reads f =
    let heads : h ≡ g = some_is (sym f.is_due ∙ due_is) in
    let nodes : n ≡ m = some_is (sym f.reads ∙ sym reads) in
    subst (λ k. IsTrue (node_fits d.names (bounds_in d k) (length d.nodes) m)) heads (subst (λ k. IsTrue (node_fits d.names (bounds_in d h) (length d.nodes) k)) nodes f.fits)

pub node-refused : (d : Draft) (line : List ℕ) (g h : Head) (m n : Node) (number place locals nodes : ℕ) → number ≡ length d.functions → place ≡ length d.nodes → locals ≡ g.locals → nodes ≡ g.nodes → slice_get d.heads number ≡ Some g → Some m ≡ node_of (fields_of line)
    → node_fits d.names (record { function = number; locals = locals; nodes = nodes }) place m ≡ false → IsNextNode d line h n → ⊥
node-refused d line g h m n number place locals nodes is_number is_place is_locals is_nodes stands reads none f =
    let fits = node-follows d line g h m n (ap (slice_get d.heads) (sym is_number) ∙ stands) reads f in
    let bounds : ◌≡◌ {A = Bounds} (bounds_in d g) (record { function = number; locals = locals; nodes = nodes }) = ap (λ k. record { function = k; locals = g.locals; nodes = g.nodes }) (sym is_number) ∙ ap (λ k. record { function = number; locals = k; nodes = g.nodes }) (sym is_locals) ∙ ap (λ k. record { function = number; locals = locals; nodes = k }) (sym is_nodes) in
    let here : node_fits d.names (record { function = number; locals = locals; nodes = nodes }) place m ≡ true = subst (λ b. IsTrue (node_fits d.names b place m)) bounds (subst (λ k. IsTrue (node_fits d.names (bounds_in d g) k m)) (sym is_place) fits) in
    false≢true (sym none ∙ here)

pub node-taken : (d : Draft) (line : List ℕ) (g : Head) (m : Node) (number place locals nodes : ℕ) → number ≡ length d.functions → place ≡ length d.nodes → locals ≡ g.locals → nodes ≡ g.nodes → slice_get d.heads number ≡ Some g → Some m ≡ node_of (fields_of line) → place < nodes
    → node_fits d.names (record { function = number; locals = locals; nodes = nodes }) place m ≡ true → IsNextNode d line g m
node-taken d line g m number place locals nodes is_number is_place is_locals is_nodes stands reads room fits =
    let bounds : ◌≡◌ {A = Bounds} (record { function = number; locals = locals; nodes = nodes }) (bounds_in d g) = ap (λ k. record { function = k; locals = locals; nodes = nodes }) is_number ∙ ap (λ k. record { function = length d.functions; locals = k; nodes = nodes }) is_locals ∙ ap (λ k. record { function = length d.functions; locals = g.locals; nodes = k }) is_nodes in record {
      is_due = ap (slice_get d.heads) (sym is_number) ∙ stands;
      reads = sym reads;
      room = subst (λ k. k < g.nodes) is_place (subst (λ k. place < k) is_nodes room);
      fits = subst (λ b. IsTrue (node_fits d.names b (length d.nodes) m)) bounds (subst (λ k. IsTrue (node_fits d.names (record { function = number; locals = locals; nodes = nodes }) k m)) is_place fits);
    }

-- the site that was read fits where one follows
pub site-follows : (d : Draft) (line : List ℕ) (g : Head) (r s : Site) → slice_get d.heads r.function ≡ Some g → site_of_row (fields_of line) ≡ Some r → IsNextSite d line s → SiteFits g.locals (length d.globals) r
site-follows d line g r s stands reads f =
    let sites : s ≡ r = some_is (sym f.reads ∙ reads) in
    let own : f.fits.own ≡ g.locals = some_is (sym f.fits.owner ∙ ap (λ (x : Site). slice_get (map (λ h. h.locals) d.heads) x.function) sites ∙ get_map (λ (h : Head). h.locals) d.heads r.function g stands) in
    subst (λ n. SiteFits n (length d.globals) r) own (subst (λ x. SiteFits f.fits.own (length d.globals) x) sites f.fits.fits)

-- a function that is whole
pub passed : (d : Draft) (h : Head) (f : Function) (next : Due) (functions : List Function) (locals : List ℕ) (nodes : List Node) → length d.nodes ≡ h.nodes → f ≡ function_with h d.locals d.nodes → functions ≡ d.functions ++ f ∷ [] → next ≡ due_after (length functions) (length d.heads) due.Locals due.End → locals ≡ [] → nodes ≡ []
    → record d { due = next; functions = functions; locals = locals; nodes = nodes } ≡ with_nodes d h d.nodes
passed d h f next functions locals nodes full is_f is_fs is_due no_locals no_nodes =
    let g = function_with h d.locals d.nodes in
    ap (λ u. record d { due = u; functions = functions; locals = locals; nodes = nodes }) is_due
    ∙ ap (λ fs. record d { due = due_after (length fs) (length d.heads) due.Locals due.End; functions = fs; locals = locals; nodes = nodes }) (is_fs ∙ ap (λ k. d.functions ++ k ∷ []) is_f)
    ∙ ap (λ ls. record d { due = due_after (length (d.functions ++ g ∷ [])) (length d.heads) due.Locals due.End; functions = d.functions ++ g ∷ []; locals = ls; nodes = nodes }) no_locals
    ∙ ap (λ ns. record d { due = due_after (length (d.functions ++ g ∷ [])) (length d.heads) due.Locals due.End; functions = d.functions ++ g ∷ []; locals = []; nodes = ns }) no_nodes
    ∙ ap (λ n. record d { due = due_after n (length d.heads) due.Locals due.End; functions = d.functions ++ g ∷ []; locals = []; nodes = [] }) (length-append d.functions (g ∷ []))
    ∙ sym (ap (λ b. cond b (with_function d g) (record d { due = due.Node; nodes = d.nodes })) (eq-eqb (length d.nodes) h.nodes full))

-- the first line of each program file
pub title-row : line_of_fields (word_and_number (codes "cbi-program") 1) ≡ codes "cbi-program 1"
title-row = ap (λ d. line_of_fields (codes "cbi-program" ∷ d ∷ [])) (decimal_digit 1 (omega arith))
