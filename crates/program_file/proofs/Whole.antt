-- The text of a program is read as it, and what is read whole is spelled so.
use Rattle.std.proofs.Common.{◌≡◌, ◌≤◌, ◌<◌, ◌+◌, ℕ, zero, suc, cond, List, [], ◌∷◌, ◌++◌, length, map, Option, None, Some, IsTrue, nat_le, codes, slice_get, ap, sym, subst, ◌∙◌, refl, arith}
use Rattle.std.specs.List.{AllByRecursion, sum_by, flat_map}
use Rattle.std.specs.declared.alloc.Global.{Global as Heap}
use Rattle.std.proofs.lemmas.Bool.{eq-eqb, leb-true, and_parts}
use Rattle.std.proofs.lemmas.List.{map-append}
use Rattle.std.proofs.lemmas.List.Elements.{All-from_recursion, recursion_from_All}
use Rattle.std.proofs.lemmas.Option.{slice_get_within}
use Rattle.std.specs.Option.{option_map}
use Rattle.base_lists.proofs.Tests.{some_choice}
use Rattle.base_lists.proofs.Options.{some_is}
use Rattle.base_lists.proofs.Numbers.{less_apart}
use Rattle.base_lists.proofs.Lists.{get_map}
use Rattle.cbi_base.specs.Words.{conversions_of, is_percent, is_conversion, IsField, fields_of, line_of_fields, text_of, AreLines, is_newline, Lacks, LeadsTo}
use Rattle.cbi_base.specs.Words.{ReadsLines, greatest_u32}
use Rattle.cbi_base.proofs.FieldLemmas.{spaced-lacks-newline}
use Rattle.cbi_base.proofs.LineLemmas.{reads-once}
use Rattle.flow.specs.declared.program.Text.{Text}
use Rattle.flow.specs.declared.program.Function.{Function}
use Rattle.flow.specs.declared.program.ProgramParts.{ProgramParts}
use Rattle.flow.specs.declared.site.Site.{Site}
use Rattle.flow.specs.Words.{function_limit, AreSites, IsFunction, IsProgram, names_of, bounds_of, is_size, Head, head_of, head_fields, text_fields}
use Rattle.flow.specs.Words.{global_fields, site_fields, body_rows, word_and_number, whole_list, end_row, program_rows, SpellsProgram}
use Rattle.program_lines.specs.Rows.{count_of}
use Rattle.program_file.specs.declared.draft.Due.{Due}
use Rattle.program_file.specs.declared.draft.Due.TheVariants as due
use Rattle.program_file.specs.declared.draft.Draft.{Draft}
use Rattle.program_file.specs.Draft.{ProgramLineFollows, IsWhole, IsHead, due_after, names_in, parts_in, empty_draft}
use Rattle.program_lines.proofs.RowReads.{count_of-fields, are_fields-count}
use Rattle.program_file.proofs.Grammar.{follows-once}
use Rattle.program_file.proofs.RowsSoFar.{leads-rows, rows_so_far}
use Rattle.program_file.proofs.Sound.{Sound, slice_get-mapped, leads-sound, heads-whole, whole-program, sum_by-map, length-map, map-map, sum_by-first}
use Rattle.program_file.proofs.Chain.{row-fields, leads-append, leads-one, text-state, texts-lead, global-state, globals-lead, head-state, ProgramHeads, heads-lead, site-state, sites-lead, SmallLocals, function-state, FunctionComes, function-step, list-leads, each-of, slice_get-seam, each-index, texts-lines, globals-lines, heads-lines, sites-lines, body-lines, rows-append}
use Rattle.program_lines.proofs.SmallNodes.{AreSmallNames}

-- what is read whole is spelled so
pub whole-spelled : (start end : Draft) (text : List ℕ) → start.due ≡ due.Title → ReadsLines ProgramLineFollows IsWhole start text end → SpellsProgram text (parts_in end)
whole-spelled start end text starts reads =
    let taken = leads-rows start end reads.lines reads.leads in
    let none : rows_so_far start.due start ≡ [] = ap (λ u. rows_so_far u start) starts in
    let rows : rows_so_far due.Nothing end ≡ taken.rows = ap (λ u. rows_so_far u end) (sym reads.over) ∙ taken.rows_are ∙ ap (λ rs. rs ++ taken.rows) none in
    let begun : Sound start.due start = subst (λ u. Sound u start) (sym starts) tt in
    let held = subst (λ u. Sound u end) reads.over (leads-sound start end reads.lines reads.leads begun) in
    let heads = heads-whole end held.0 held.1 in record {
      is_program = whole-program end held.0 held.1;
      text_is = reads.text_is ∙ ap text_of taken.lines_are ∙ ap (λ rs. text_of (map line_of_fields rs)) (sym rows ∙ as-rows end heads);
    }
  where
    as-rows : (d : Draft) → d.heads ≡ map head_of d.functions → rows_so_far due.Nothing d ≡ program_rows (parts_in d)
    as-rows d heads = ap (λ hs. ((word_and_number (codes "cbi-program") 1 ∷ whole_list (codes "texts") text_fields d.texts) ++ whole_list (codes "globals") global_fields d.globals ++ whole_list (codes "functions") head_fields hs ++ (word_and_number (codes "main") d.main ∷ []) ++ whole_list (codes "sites") site_fields d.sites) ++ flat_map body_rows d.functions ++ (end_row ∷ [])) heads

-- the heads of a program's functions
heads-of : (p : ProgramParts) → IsProgram p → ProgramHeads (length (map head_of p.functions)) (map head_of p.functions)
heads-of p is = record {
  count_is = refl;
  each = All-from_recursion IsHead (map head_of p.functions) (by p.functions (λ i f h. let g = is.functions.each i f h in record { name = g.name; params = g.locals.few; entry = g.entry }));
  locals = omega (arith, is.parts.few.locals, sum_by-map head_of (λ (h : Head). h.locals) p.functions);
  nodes = omega (arith, is.parts.few.nodes, sum_by-map head_of (λ (h : Head). h.nodes) p.functions);
  distinct = λ i j g h a b same.
      let f = slice_get-mapped head_of p.functions i g a in
      let k = slice_get-mapped head_of p.functions j h b in
      is.distinct.each i j f.0 k.0 f.1 k.1 (ap (λ (x : Head). x.name) f.2 ∙ same ∙ ap (λ (x : Head). x.name) (sym k.2));
}
  where
    by : (functions : List Function) → ((i : ℕ) (f : Function) → slice_get functions i ≡ Some f → IsHead (head_of f)) → AllByRecursion IsHead (map head_of functions)
    by [] h = tt
    by (f ∷ fs) h = (h 0 f refl, by fs (λ i g e. h (suc i) g e))

-- an item is no greater than the sum
in-sum : {A : Type 0} (f : A → ℕ) (xs : List A) (i : ℕ) (x : A) → slice_get xs i ≡ Some x → f x ≤ sum_by f xs
in-sum f [] i x h = absurd (omega (arith, slice_get_within [] i x h))
in-sum f (y ∷ ys) zero x h = omega (arith, ap f (some_is h), sum_by-first f y ys)
in-sum f (y ∷ ys) (suc i) x h = omega (arith, in-sum f ys i x h, sum_by-first f y ys)

-- a text has no more conversions than bytes
more-few : (o : Option ℕ) (c most : ℕ) → option_map (λ n. n + 1) o ≡ Some c → ((k : ℕ) → o ≡ Some k → k ≤ most) → c ≤ suc most
more-few None c most h few = absurd cc
more-few (Some k) c most h few = omega (arith, few k refl, some_is h)

conversions-few : (bytes : List ℕ) (c : ℕ) → conversions_of bytes ≡ Some c → c ≤ length bytes
conversions-few [] c h = omega (arith, some_is h)
conversions-few (b ∷ []) c h = some_choice (is_percent b) _ _ c h (λ _ none. absurd cc) (λ _ is. omega (arith, some_is is))
conversions-few (b ∷ d ∷ rest) c h =
    some_choice (is_percent b) _ _ c h (λ _ h.
    some_choice (is_conversion d) _ _ c h (λ _ is. omega (arith, more-few (conversions_of rest) c (length rest) is (λ k e. conversions-few rest k e))) (λ _ h.
    some_choice (is_percent d) _ _ c h (λ _ is. omega (arith, conversions-few rest c is)) (λ _ none. absurd cc)))
    (λ _ is. omega (arith, conversions-few (d ∷ rest) c is))

map-flat_map : {A B C : Type 0} (g : B → C) (f : A → List B) (xs : List A) → map g (flat_map f xs) ≡ flat_map (λ x. map g (f x)) xs
map-flat_map g f [] = refl
map-flat_map g f (x ∷ xs) = map-append g (f x) (flat_map f xs) ∙ ap (λ ys. map g (f x) ++ ys) (map-flat_map g f xs)

count-reads : (word : List ℕ) (n : ℕ) → IsField word → n ≤ greatest_u32 → count_of word (fields_of (line_of_fields (word_and_number word n))) ≡ Some n
count-reads word n is few = ap (count_of word) (row-fields (word_and_number word n) (λ e. cc) (are_fields-count word n is few)) ∙ count_of-fields word n few

full-due : (n : ℕ) (item past : Due) → due_after n n item past ≡ past
full-due n item past = ap (λ b. cond b past item) (eq-eqb n n refl)

-- a list: the line of its count, and those of its items
part : (from first last to : Draft) (word : List ℕ) (fields : List (List (List ℕ))) (n : ℕ) → ProgramLineFollows from (line_of_fields (word_and_number word n)) first → LeadsTo ProgramLineFollows first (map line_of_fields fields) last → last ≡ to → LeadsTo ProgramLineFollows from (map line_of_fields (word_and_number word n ∷ fields)) to
part from first last to word fields n f leads same = (first, f, subst (λ e. LeadsTo ProgramLineFollows first (map line_of_fields fields) e) same leads)

sizes-small : (sizes : List ℕ) → AllByRecursion (λ size. IsTrue (is_size size)) sizes → AllByRecursion (λ size. size ≤ greatest_u32) sizes
sizes-small [] h = tt
sizes-small (s ∷ ss) h = (omega (arith, leb-true s 1048576 (and_parts (nat_le 1 s) (nat_le s 1048576) h.0).1), sizes-small ss h.1)

abbrev pub heads : ProgramParts → List Head
heads p = map head_of p.functions

abbrev pub started : Heap → Draft
started alloc = record (empty_draft alloc) { due = due.Texts }

abbrev pub texted : Heap → ProgramParts → Draft
texted alloc p = record (started alloc) { due = due.Globals; count = length p.texts; texts = p.texts }

abbrev pub globaled : Heap → ProgramParts → Draft
globaled alloc p = record (texted alloc p) { due = due.Functions; count = length p.globals; globals = p.globals }

abbrev pub headed : Heap → ProgramParts → Draft
headed alloc p = record (globaled alloc p) { due = due.Main; count = length (heads p); heads = heads p }

abbrev pub mained : Heap → ProgramParts → Draft
mained alloc p = record (headed alloc p) { due = due.Sites; main = p.main }

abbrev pub opened : Heap → ProgramParts → Draft
opened alloc p = record (mained alloc p) { due = due.Locals; count = length p.sites; sites = p.sites; names = names_in (mained alloc p) p.sites; functions = [] }

abbrev pub closed : Heap → ProgramParts → Draft
closed alloc p = record (opened alloc p) { due = due.End; functions = p.functions }

abbrev pub whole : Heap → ProgramParts → Draft
whole alloc p = record (closed alloc p) { due = due.Nothing }

module _ (alloc : Heap) (p : ProgramParts) (is : IsProgram p) where
  texts-part : LeadsTo ProgramLineFollows (empty_draft alloc) (map line_of_fields (word_and_number (codes "cbi-program") 1 ∷ whole_list (codes "texts") text_fields p.texts)) (texted alloc p)
  texts-part = (
    (started alloc),
    (refl, refl),
    part (started alloc) (text-state (started alloc) (length p.texts) []) (text-state (started alloc) (length p.texts) p.texts) (texted alloc p) (codes "texts") (map text_fields p.texts) (length p.texts)
        (length p.texts, record { reads = count-reads (codes "texts") (length p.texts) refl (omega (arith, is.parts.texts.few)); few = is.parts.texts.few }, refl)
        (texts-lead (started alloc) p.texts is.parts.texts)
        (ap (λ u. record (started alloc) { due = u; count = length p.texts; texts = p.texts }) (full-due (length p.texts) due.Text due.Globals)),
  )

  globals-part : LeadsTo ProgramLineFollows (texted alloc p) (map line_of_fields (whole_list (codes "globals") global_fields p.globals)) (globaled alloc p)
  globals-part =
      part (texted alloc p) (global-state (texted alloc p) (length p.globals) []) (global-state (texted alloc p) (length p.globals) p.globals) (globaled alloc p) (codes "globals") (map global_fields p.globals) (length p.globals)
      (length p.globals, record { reads = count-reads (codes "globals") (length p.globals) refl (omega (arith, is.parts.globals.few)); few = is.parts.globals.few }, refl)
      (globals-lead (texted alloc p) p.globals is.parts.texts.few is.parts.globals)
      (ap (λ u. record (texted alloc p) { due = u; count = length p.globals; globals = p.globals }) (full-due (length p.globals) due.Global due.Functions))

  heads-few : length (heads p) ≤ function_limit
  heads-few = omega (arith, is.parts.few.few, length-map head_of p.functions)

  heads-some : 0 < length (heads p)
  heads-some = omega (arith, is.parts.few.some, length-map head_of p.functions)

  head-begins : head-state (globaled alloc p) (length (heads p)) [] ≡ record (globaled alloc p) { due = due.Head; count = length (heads p); heads = [] }
  head-begins = ap (λ b. record (globaled alloc p) { due = cond b due.Main due.Head; count = length (heads p); heads = [] }) (less_apart 0 (length (heads p)) heads-some)

  heads-part : LeadsTo ProgramLineFollows (globaled alloc p) (map line_of_fields (whole_list (codes "functions") head_fields (heads p))) (headed alloc p)
  heads-part =
      part (globaled alloc p) (record (globaled alloc p) { due = due.Head; count = length (heads p); heads = [] }) (head-state (globaled alloc p) (length (heads p)) (heads p)) (headed alloc p) (codes "functions") (map head_fields (heads p)) (length (heads p))
      (length (heads p), record { counts = record { reads = count-reads (codes "functions") (length (heads p)) refl (omega (arith, heads-few)); few = heads-few }; some = omega (arith, heads-some) }, refl)
      (subst (λ e. LeadsTo ProgramLineFollows e (map line_of_fields (map head_fields (heads p))) (head-state (globaled alloc p) (length (heads p)) (heads p))) head-begins (heads-lead (globaled alloc p) (heads p) (heads-of p is)))
      (ap (λ u. record (globaled alloc p) { due = u; count = length (heads p); heads = heads p }) (full-due (length (heads p)) due.Head due.Main))

  main-part : LeadsTo ProgramLineFollows (headed alloc p) (map line_of_fields (word_and_number (codes "main") p.main ∷ [])) (mained alloc p)
  main-part =
      let m = is.parts.main in
      let stands = get_map head_of p.functions p.main m.0 m.1 in
      let few : p.main ≤ greatest_u32 = omega (arith, slice_get_within p.functions p.main m.0 m.1, is.parts.few.few) in
      leads-one (headed alloc p) (mained alloc p) (line_of_fields (word_and_number (codes "main") p.main)) (p.main, record { reads = count-reads (codes "main") p.main refl few; head = head_of m.0; stands = stands; result = m.2.result; params = m.2.params }, refl)

  small-locals : SmallLocals (map (λ h. h.locals) (heads p)) (length p.globals)
  small-locals = record {
    each = λ i own h.
        let k = slice_get-mapped (λ (x : Head). x.locals) (heads p) i own h in
        omega (arith, in-sum (λ (x : Head). x.locals) (heads p) i k.0 k.1, k.2, (heads-of p is).locals);
    count = omega (arith, length-map (λ (x : Head). x.locals) (heads p), heads-few);
    few_globals = omega (arith, is.parts.globals.few);
  }

  sites-part : LeadsTo ProgramLineFollows (mained alloc p) (map line_of_fields (whole_list (codes "sites") site_fields p.sites)) (opened alloc p)
  sites-part =
      let locals = map-map head_of (λ (h : Head). h.locals) p.functions in
      let are = subst (λ ls. AreSites ls (length p.globals) p.sites) (sym locals) is.parts.sites in
      part (mained alloc p) (site-state (mained alloc p) (length p.sites) []) (site-state (mained alloc p) (length p.sites) p.sites) (opened alloc p) (codes "sites") (map site_fields p.sites) (length p.sites)
      (length p.sites, record { reads = count-reads (codes "sites") (length p.sites) refl (omega (arith, is.parts.sites.few)); few = is.parts.sites.few }, refl)
      (sites-lead (mained alloc p) p.sites small-locals are)
      (ap (λ b. cond b (record (mained alloc p) { due = due.Locals; count = length p.sites; sites = p.sites; names = names_in (mained alloc p) p.sites; functions = [] }) (record (mained alloc p) { due = due.Site; count = length p.sites; sites = p.sites })) (eq-eqb (length p.sites) (length p.sites) refl))

  names-same : (opened alloc p).names ≡ names_of p
  names-same = ap (λ n. record { conversions = map (λ (t : Text). conversions_of t.bytes) p.texts; globals = length p.globals; functions = n; owners = map (λ (x : Site). x.function) p.sites }) (length-map head_of p.functions)

  small-names : (number : ℕ) (f : Function) → slice_get p.functions number ≡ Some f → AreSmallNames (names_of p) (bounds_of number f)
  small-names number f h = record {
    texts = omega (arith, is.parts.texts.few, length-map (λ (t : Text). conversions_of t.bytes) p.texts);
    counts = λ text count at.
        let k = slice_get-mapped (λ (t : Text). conversions_of t.bytes) p.texts text (Some count) at in
        omega (arith, conversions-few k.0.bytes count k.2, in-sum (λ (t : Text). length t.bytes) p.texts text k.0 k.1, is.parts.texts.total);
    globals = omega (arith, is.parts.globals.few);
    functions = omega (arith, is.parts.few.few);
    sites = omega (arith, is.parts.sites.few, length-map (λ (s : Site). s.function) p.sites);
    locals = omega (arith, in-sum (λ (g : Function). length g.locals) p.functions number f h, is.parts.few.locals);
    nodes = omega (arith, in-sum (λ (g : Function). length g.nodes) p.functions number f h, is.parts.few.nodes);
  }

  function-one : (xs zs : List Function) (z : Function) → xs ++ z ∷ zs ≡ p.functions → FunctionComes (opened alloc p) xs z
  function-one xs zs z same =
      let at = subst (λ fs. slice_get fs (length xs) ≡ Some z) same (slice_get-seam xs zs z) in
      let fits = is.functions.each (length xs) z at in record {
        is_due = get_map head_of p.functions (length xs) z at;
        small = subst (λ n. AreSmallNames n (bounds_of (length xs) z)) (sym names-same) (small-names (length xs) z at);
        sizes = sizes-small z.locals (recursion_from_All _ z.locals fits.locals.sizes);
        is = subst (λ n. IsFunction n (length xs) z) (sym names-same) fits;
      }

  functions-part : LeadsTo ProgramLineFollows (opened alloc p) (map line_of_fields (flat_map body_rows p.functions)) (closed alloc p)
  functions-part =
      let begin : function-state (opened alloc p) [] ≡ (opened alloc p) = ap (λ b. record (opened alloc p) { due = cond b due.End due.Locals }) (less_apart 0 (length (heads p)) heads-some) in
      let end : function-state (opened alloc p) p.functions ≡ (closed alloc p) = ap (λ n. record (opened alloc p) { due = due_after n (length (heads p)) due.Locals due.End; functions = p.functions }) (sym (length-map head_of p.functions)) ∙ ap (λ u. record (opened alloc p) { due = u; functions = p.functions }) (full-due (length (heads p)) due.Locals due.End) in
      let leads = list-leads (λ f. map line_of_fields (body_rows f)) (function-state (opened alloc p)) (FunctionComes (opened alloc p)) (function-step (opened alloc p)) [] p.functions (each-of (λ all. all ≡ p.functions) (FunctionComes (opened alloc p)) function-one [] p.functions refl) in
      subst (λ ls. LeadsTo ProgramLineFollows (opened alloc p) ls (closed alloc p)) (sym (map-flat_map line_of_fields body_rows p.functions))
      (subst (λ e. LeadsTo ProgramLineFollows (opened alloc p) (flat_map (λ f. map line_of_fields (body_rows f)) p.functions) e) end (subst (λ e. LeadsTo ProgramLineFollows e (flat_map (λ f. map line_of_fields (body_rows f)) p.functions) (function-state (opened alloc p) p.functions)) begin leads))

  end-part : LeadsTo ProgramLineFollows (closed alloc p) (map line_of_fields (end_row ∷ [])) (whole alloc p)
  end-part = leads-one (closed alloc p) (whole alloc p) (line_of_fields end_row) (refl, refl)

count-line : (word : List ℕ) (n : ℕ) → IsField word → n ≤ greatest_u32 → Lacks is_newline (line_of_fields (word_and_number word n))
count-line word n is few = spaced-lacks-newline (word_and_number word n) (are_fields-count word n is few)

bodies-lines : (functions : List Function) → AllByRecursion (λ f. AreLines (map line_of_fields (body_rows f))) functions → AreLines (map line_of_fields (flat_map body_rows functions))
bodies-lines [] h = tt
bodies-lines (f ∷ fs) h = rows-append (body_rows f) (flat_map body_rows fs) h.0 (bodies-lines fs h.1)

-- the lines of a program have no newline
pub whole-lines : (alloc : Heap) (p : ProgramParts) → IsProgram p → AreLines (map line_of_fields (program_rows p))
whole-lines alloc p is =
    let hs = map head_of p.functions in
    let a = word_and_number (codes "cbi-program") 1 ∷ whole_list (codes "texts") text_fields p.texts in
    let b = whole_list (codes "globals") global_fields p.globals in
    let c = whole_list (codes "functions") head_fields hs in
    let d = word_and_number (codes "main") p.main ∷ [] in
    let e = whole_list (codes "sites") site_fields p.sites in
    let f = flat_map body_rows p.functions in
    let g = end_row ∷ [] in
    let a_lines : AreLines (map line_of_fields a) = (count-line (codes "cbi-program") 1 refl (omega arith), (count-line (codes "texts") (length p.texts) refl (omega (arith, is.parts.texts.few)), texts-lines p.texts is.parts.texts)) in
    let b_lines : AreLines (map line_of_fields b) = (count-line (codes "globals") (length p.globals) refl (omega (arith, is.parts.globals.few)), globals-lines (length p.texts) p.globals is.parts.texts.few is.parts.globals) in
    let c_lines : AreLines (map line_of_fields c) = (count-line (codes "functions") (length hs) refl (omega (arith, heads-few alloc p is)), heads-lines hs (heads-of p is)) in
    let d_lines : AreLines (map line_of_fields d) = (count-line (codes "main") p.main refl (omega (arith, slice_get_within p.functions p.main is.parts.main.0 is.parts.main.1, is.parts.few.few)), tt) in
    let sites = subst (λ ls. AreSites ls (length p.globals) p.sites) (sym (map-map head_of (λ (h : Head). h.locals) p.functions)) is.parts.sites in
    let e_lines : AreLines (map line_of_fields e) = (count-line (codes "sites") (length p.sites) refl (omega (arith, is.parts.sites.few)), sites-lines (map (λ h. h.locals) hs) (length p.globals) p.sites (small-locals alloc p is) sites) in
    let f_lines : AreLines (map line_of_fields f) = bodies-lines p.functions (each-index _ p.functions (λ i h at. let fits = is.functions.each i h at in body-lines (names_of p) i h (small-names alloc p is i h at) (sizes-small h.locals (recursion_from_All _ h.locals fits.locals.sizes)) fits)) in
    let g_lines : AreLines (map line_of_fields g) = (spaced-lacks-newline end_row (refl, tt), tt) in
    rows-append (a ++ b ++ c ++ d ++ e ++ f) g (rows-append (a ++ b ++ c ++ d ++ e) f (rows-append (a ++ b ++ c ++ d) e (rows-append (a ++ b ++ c) d (rows-append (a ++ b) c (rows-append a b a_lines b_lines) c_lines) d_lines) e_lines) f_lines) g_lines

-- the lines of a program, by its parts
pub whole-leads : (alloc : Heap) (p : ProgramParts) → IsProgram p → LeadsTo ProgramLineFollows (empty_draft alloc) (map line_of_fields (program_rows p)) (whole alloc p)
whole-leads alloc p is =
    let a = word_and_number (codes "cbi-program") 1 ∷ whole_list (codes "texts") text_fields p.texts in
    let b = whole_list (codes "globals") global_fields p.globals in
    let c = whole_list (codes "functions") head_fields (map head_of p.functions) in
    let d = word_and_number (codes "main") p.main ∷ [] in
    let e = whole_list (codes "sites") site_fields p.sites in
    let f = flat_map body_rows p.functions in
    let g = end_row ∷ [] in
    let two = joined (empty_draft alloc) (texted alloc p) (globaled alloc p) a b (texts-part alloc p is) (globals-part alloc p is) in
    let three = joined (empty_draft alloc) (globaled alloc p) (headed alloc p) (a ++ b) c two (heads-part alloc p is) in
    let four = joined (empty_draft alloc) (headed alloc p) (mained alloc p) (a ++ b ++ c) d three (main-part alloc p is) in
    let five = joined (empty_draft alloc) (mained alloc p) (opened alloc p) (a ++ b ++ c ++ d) e four (sites-part alloc p is) in
    let six = joined (empty_draft alloc) (opened alloc p) (closed alloc p) (a ++ b ++ c ++ d ++ e) f five (functions-part alloc p is) in
    joined (empty_draft alloc) (closed alloc p) (whole alloc p) (a ++ b ++ c ++ d ++ e ++ f) g six (end-part alloc p is)
  where
    joined : (from via to : Draft) (x y : List (List (List ℕ))) → LeadsTo ProgramLineFollows from (map line_of_fields x) via → LeadsTo ProgramLineFollows via (map line_of_fields y) to → LeadsTo ProgramLineFollows from (map line_of_fields (x ++ y)) to
    joined from via to x y p q = subst (λ ls. LeadsTo ProgramLineFollows from ls to) (sym (map-append line_of_fields x y)) (leads-append from via to (map line_of_fields x) (map line_of_fields y) p q)

-- the text of a program is read as it
pub spelled-reads : (alloc : Heap) (text : List ℕ) (p : ProgramParts) → SpellsProgram text p → ReadsLines ProgramLineFollows IsWhole (empty_draft alloc) text (whole alloc p)
spelled-reads alloc text p spells = record {
  lines = map line_of_fields (program_rows p);
  text_is = spells.text_is;
  are_lines = whole-lines alloc p spells.is_program;
  leads = whole-leads alloc p spells.is_program;
  over = refl;
}

-- a text is that of one program
pub one-program : (alloc : Heap) (text : List ℕ) (p q : ProgramParts) → SpellsProgram text p → SpellsProgram text q → p ≡ q
one-program alloc text p q sp sq =
    ap parts_in (reads-once ProgramLineFollows IsWhole follows-once (empty_draft alloc) (whole alloc p) (whole alloc q) text (spelled-reads alloc text p sp) (spelled-reads alloc text q sq))
