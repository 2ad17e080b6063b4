use Rattle.std.proofs.Common.{◌≡◌, ℕ, ◌+◌, ◌<◌, ◌≤◌, inl, inr, List, ◌∷◌, ◌++◌, length, get_or, map, drop, ◌∙◌, refl, ap, sym, subst, arith, append_assoc, length-append}
use Rattle.std.specs.List.{All}
use Rattle.std.proofs.lemmas.List.{append-nil, drop_all}
use Rattle.c_syntax.specs.declared.tree.Item.{Item}
use Rattle.c_syntax.specs.Words.{ItemTree, plain_item}
use Rattle.std.proofs.lemmas.Bool.{cases_lt, false≢true}
use Rattle.c_types.specs.Answers.{known_of, tree_of}
use Rattle.flow.specs.declared.site.Site.{Site}
use Rattle.flow.specs.Limits.{site_limit}
use Rattle.c_types_expressions.specs.declared.walk.Walk.{Walk}
use Rattle.sites.specs.declared.noted.Noted.{Noted}
use Rattle.flow.specs.declared.choice.Schemes.{Schemes}
use Rattle.sites.specs.Noted.{IsNotedFor}
use Rattle.sites.specs.Standing.{StandAtTokens, StandFrom, begins_at, item_spots}
use Rattle.defined_functions.specs.Functions.{defined_by, defined_in, functions_of}
use Rattle.sites.specs.Table.{item_sites, items_sites, sites_of}
use Rattle.sites.proofs.Owners.{owned}
use Rattle.sites.proofs.Standing.{AreToCome, behind, next_is, noted_there, others, tokens}
use Rattle.sites.proofs.table.site_table.Goals as goal

-- what stands for the items that are left, where one is taken off
module _ (schemes : Schemes) (w : Walk) (noted : Noted) (functions : ℕ) (items : List Item) (at : ℕ) (x : Item) (low : at < length items)
    (here : x ≡ get_or items at x) (left : AreToCome schemes w noted functions (map plain_item (drop at items))) where
  abbrev rest : List ItemTree
  rest = map plain_item (drop (at + 1) items)

  taken : AreToCome schemes w noted functions (plain_item x ∷ rest)
  taken = subst (AreToCome schemes w noted functions) (next_is plain_item items at x low here) left

  its_tokens : StandAtTokens (item_spots (plain_item x))
  its_tokens = tokens schemes w noted functions (plain_item x) rest taken

  its_begin : StandFrom (begins_at (plain_item x)) (item_spots (plain_item x))
  its_begin = behind schemes w noted functions (plain_item x) rest taken

  its_notes : IsNotedFor schemes w (begins_at (plain_item x)) noted
  its_notes = noted_there schemes w noted functions (plain_item x) rest taken

  then : (new : Noted) (more : ℕ) → IsNotedFor schemes w (begins_at (plain_item x)) new → more ≡ functions + length (defined_by (plain_item x)) →
      AreToCome schemes w new more rest
  then new more is as_many = subst (λ n. AreToCome schemes w new n rest) (sym as_many) (others schemes w noted functions (plain_item x) rest taken new is)

-- where no item is left, what was found is all
sites_whole : (schemes : Schemes) (w : Walk) (lines : List ℕ) (functions : ℕ) (sites all : List Site) (items : List Item) (at : ℕ) → length items ≤ at →
    sites ++ items_sites w lines schemes functions (map plain_item (drop at items)) ≡ all → sites ≡ all
sites_whole schemes w lines functions sites all items at end h =
    sym (append-nil sites) ∙ ap (λ l. sites ++ items_sites w lines schemes functions (map plain_item l)) (sym (drop_all at items end)) ∙ h

functions_whole : (functions all : List (List ℕ)) (items : List Item) (at : ℕ) → length items ≤ at → functions ++ defined_in (map plain_item (drop at items)) ≡ all → functions ≡ all
functions_whole functions all items at end h = sym (append-nil functions) ∙ ap (λ l. functions ++ defined_in (map plain_item l)) (sym (drop_all at items end)) ∙ h

pub add_item-requires-clause-tokens : goal.add_item-requires-clause-tokens
add_item-requires-clause-tokens c =
    its_tokens c.args.schemes (known_of c.args.checked.now) c.loop-item.noted (length c.loop-item.parts.functions) c.as_slice-item-items.result.now
    c.loop-item.item-index c.item-item.result c.loop-item-test.true c.item-item.is c.loop-item.invariant.left

pub add_item-requires-clause-behind : goal.add_item-requires-clause-behind
add_item-requires-clause-behind c =
    its_begin c.args.schemes (known_of c.args.checked.now) c.loop-item.noted (length c.loop-item.parts.functions) c.as_slice-item-items.result.now
    c.loop-item.item-index c.item-item.result c.loop-item-test.true c.item-item.is c.loop-item.invariant.left

pub add_item-requires-clause-noted : goal.add_item-requires-clause-noted
add_item-requires-clause-noted c =
    its_notes c.args.schemes (known_of c.args.checked.now) c.loop-item.noted (length c.loop-item.parts.functions) c.as_slice-item-items.result.now
    c.loop-item.item-index c.item-item.result c.loop-item-test.true c.item-item.is c.loop-item.invariant.left

pub loop-item-preserved : goal.loop-item-preserved
loop-item-preserved c =
    let w = known_of c.args.checked.now in
    let lines = (tree_of c.args.checked.now).lines in
    let schemes = c.args.schemes in
    let items = c.as_slice-item-items.result.now in
    let at = c.loop-item.item-index in
    let x = plain_item c.item-item.result in
    let old = c.loop-item.parts in
    let new = c.add_item.new.parts in
    let done = c.in_ok-add_item.ensures in
    let later = map plain_item (drop (at + 1) items) in
    let there = next_is plain_item items at c.item-item.result c.loop-item-test.true c.item-item.is in
    let as_many : length new.functions ≡ length old.functions + length (defined_by x) =
    ap length done.functions ∙ length-append old.functions (defined_by x) in
    record {
      sites = ap (λ l. l ++ items_sites w lines schemes (length new.functions) later) done.sites
          ∙ ap (λ n. (old.sites ++ item_sites w lines schemes (length old.functions) x) ++ items_sites w lines schemes n later) as_many
          ∙ append_assoc old.sites (item_sites w lines schemes (length old.functions) x)
          (items_sites w lines schemes (length old.functions + length (defined_by x)) later)
          ∙ ap (λ l. old.sites ++ items_sites w lines schemes (length old.functions) l) (sym there)
          ∙ c.loop-item.invariant.sites;
      functions = ap (λ l. l ++ defined_in later) done.functions
          ∙ append_assoc old.functions (defined_by x) (defined_in later)
          ∙ ap (λ l. old.functions ++ defined_in l) (sym there)
          ∙ c.loop-item.invariant.functions;
      left = then schemes w c.loop-item.noted (length old.functions) items at c.item-item.result c.loop-item-test.true c.item-item.is
          c.loop-item.invariant.left c.add_item.new.noted (length new.functions) done.noted as_many;
    }

pub returns-clause-too_many : goal.returns-clause-too_many
returns-clause-too_many c is =
    let tree = tree_of c.args.checked.now in
    let known = known_of c.args.checked.now in
    let sites = c.loop-item.parts.sites in
    let functions = c.loop-item.parts.functions in
    let items = c.as_slice-item-items.result.now in
    let whole : sites ≡ sites_of tree known c.args.schemes =
    sites_whole c.args.schemes known tree.lines (length functions) sites _ items c.loop-item.item-index c.loop-item-test.false c.loop-item.invariant.sites in
    let named : functions ≡ functions_of tree = functions_whole functions _ items c.loop-item.item-index c.loop-item-test.false c.loop-item.invariant.functions in
    let owners : All (λ (s : Site). s.function < length functions) sites =
    subst (All (λ (s : Site). s.function < length functions)) (sym whole) (owned known tree.lines c.args.schemes 0 (length functions) tree.items (omega
    (arith, ap length named))) in
    elim (cases_lt site_limit (length sites)) [
      | inl more ↦ subst (λ l. site_limit < length l) whole more
      | inr few ↦ absurd (false≢true (c.in-None.ensures.found.1 (record { few = few; owners = owners })))
    ]

pub returns-in-Some-clause-table : goal.returns-in-Some-clause-table
returns-in-Some-clause-table c =
    let tree = tree_of c.args.checked.now in
    c.in-Some.ensures.value.0
    ∙ sites_whole c.args.schemes (known_of c.args.checked.now) tree.lines (length c.loop-item.parts.functions) c.loop-item.parts.sites _ c.as_slice-item-items.result.now
    c.loop-item.item-index c.loop-item-test.false c.loop-item.invariant.sites

pub returns-in-Some-clause-functions : goal.returns-in-Some-clause-functions
returns-in-Some-clause-functions c =
    c.in-Some.ensures.value.1
    ∙ functions_whole c.loop-item.parts.functions _ c.as_slice-item-items.result.now c.loop-item.item-index c.loop-item-test.false c.loop-item.invariant.functions

pub returns-in-Some-clause-refused : goal.returns-in-Some-clause-refused
returns-in-Some-clause-refused c crowded =
    let tree = tree_of c.args.checked.now in
    let known = known_of c.args.checked.now in
    let sites = c.loop-item.parts.sites in
    let whole : sites ≡ sites_of tree known c.args.schemes =
    sites_whole c.args.schemes known tree.lines (length c.loop-item.parts.functions) sites _ c.as_slice-item-items.result.now c.loop-item.item-index c.loop-item-test.false
    c.loop-item.invariant.sites in
    absurd (omega (arith, (c.in-Some.ensures.found.0 refl).few, subst (λ l. site_limit < length l) (sym whole) crowded))
