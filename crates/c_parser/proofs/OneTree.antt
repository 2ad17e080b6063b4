-- Tokens and lines have one tree.
use Rattle.std.proofs.Common.{◌≡◌, ℕ, ◌+◌, ◌≤◌, max, List, [], ◌∷◌, ◌++◌, Some, None, Result, Ok, Err, refl, sym, ap, ◌∙◌, subst, arith}
use Rattle.std.proofs.lemmas.List.{append-nil}
use Rattle.c_syntax.specs.declared.token.Token.{Token}
use Rattle.c_syntax.specs.declared.tree.Tree.{Tree}
use Rattle.c_syntax.specs.Words.{ItemTree, SourceTree, Kinds, tree_kinds, tree_nesting, IsShaped, plain_tree}
use Rattle.c_parser.specs.declared.error.ParseError.{ParseError}
use Rattle.c_parser.specs.declared.error.ParseError.TheVariants as error
use Rattle.c_parser_expressions.specs.Reading.{Cursor, SameUpTo, Read, Outcome}
use Rattle.c_parser_expressions.specs.Steps.{Step, all_of}
use Rattle.c_parser_items.specs.Items.{item, AreItems, items}
use Rattle.c_parser_items.specs.ItemParser.{item_by}
use Rattle.c_parser.specs.Parsed.{IsTreeOf, IsReadAs, IsRefused, IsParsed}
use Rattle.c_parser_expressions.proofs.Laws.{same-all, found-takes}
use Rattle.c_parser_expressions.proofs.Many.{Listing, StepIs, put_all, all-parses}
use Rattle.c_parser.proofs.Texts.{kinds, item-some, items-end, item-leads, item-fails}
use Rattle.c_parser_items.proofs.ItemsParse.{item-parses}

-- an item where one can begin
abbrev before_end : Read ItemTree → Kinds → Step ItemTree
before_end read [] = None
before_end read (x ∷ xs) = Some read

abbrev item_step : (d : ℕ) → Cursor → Step ItemTree
item_step d c = before_end (item_by d c) c.rest

item-is : (d : ℕ) (c : Cursor) (r : Read ItemTree) → (c.rest ≡ [] → ⊥) → Outcome (item d) c r → StepIs (items d) (λ x xs. x ∷ xs) [] c (Some r)
item-is d c (Ok p) some o = (item-leads d c p.1 p.0 o, found-takes (item d) c p.1 p.0 (item-some p.0) o)
item-is d c (Err i) some o = item-fails d c i some o

step-is : (d : ℕ) (c : Cursor) (ks : Kinds) → 1 ≤ d → c.rest ≡ ks → StepIs (items d) (λ x xs. x ∷ xs) [] c (before_end (item_by d c) ks)
step-is d c [] le h = items-end d c h
step-is d c (x ∷ ks) le h = item-is d c (item_by d c) (λ none. let both : [] ≡ x ∷ ks = sym none ∙ h in cc) (item-parses d le c)

listing : (d : ℕ) → 1 ≤ d → Listing (items d) (item_step d) (λ x xs. x ∷ xs) []
listing d le = record { is = λ c. step-is d c c.rest le refl }

-- two lists of items with the same tokens are equal
same-items : (d : ℕ) (xs ys : List ItemTree) (r : Read (List ItemTree)) → Outcome (items d) (record { at = 0; rest = kinds xs }) r → AreItems d 0 xs
    → AreItems d 0 ys → kinds xs ≡ kinds ys → xs ≡ ys
same-items d xs ys (Ok p) f x_are y_are h =
    let x_same : SameUpTo p.1.at 0 (kinds xs) (kinds xs ++ []) =
    subst (λ (v : Kinds). SameUpTo p.1.at 0 (kinds xs) v) (sym (append-nil (kinds xs))) (same-all p.1.at 0 (kinds xs)) in
    let y_same : SameUpTo p.1.at 0 (kinds xs) (kinds ys ++ []) =
    subst (λ (v : Kinds). SameUpTo p.1.at 0 (kinds xs) v) (h ∙ sym (append-nil (kinds ys))) (same-all p.1.at 0 (kinds xs)) in
    f.only xs [] p.1.at x_are (record { none = refl }) (omega arith) x_same ∙ sym (f.only ys [] p.1.at y_are (record { none = refl }) (omega arith) y_same)
same-items d xs ys (Err i) f x_are y_are h =
    absurd (f.none xs [] x_are (record { none = refl }) (subst (λ (v : Kinds). SameUpTo i 0 (kinds xs) v) (sym (append-nil (kinds xs)))
    (same-all i 0 (kinds xs))))

shaped-items : (d : ℕ) (t : SourceTree) → IsShaped t → tree_nesting t ≤ d → AreItems d 0 t.items
shaped-items d t s h = record { shaped = s.items; nests = h; placed = s.placed }

tree-parts : (a b : SourceTree) → a.items ≡ b.items → a.lines ≡ b.lines → a ≡ b
tree-parts a b h k =
    ap {B = SourceTree} (λ (xs : List ItemTree). record { items = xs; lines = a.lines }) h ∙ ap {B = SourceTree}
    (λ (ls : List ℕ). record { items = b.items; lines = ls }) k

pub one-tree : (a b : SourceTree) → IsShaped a → IsShaped b → tree_kinds a ≡ tree_kinds b → a.lines ≡ b.lines → a ≡ b
one-tree a b s t h k =
    let d : ℕ = max (tree_nesting a) (tree_nesting b) + 1 in
    let start : Cursor = record { at = 0; rest = kinds a.items } in
    tree-parts a b
    (same-items d a.items b.items (put_all (λ x xs. x ∷ xs) [] (all_of (item_step d) start))
    (all-parses (items d) (item_step d) (λ x xs. x ∷ xs) [] (listing d (omega arith)) start) (shaped-items d a s (omega arith))
    (shaped-items d b t (omega arith)) h) k

-- what parsing answers
pub read-as : (ts : List Token) (r : Result Tree ParseError) → IsParsed ts r → (t : SourceTree) → IsTreeOf ts t → IsReadAs t r
read-as ts (Ok tree) p t h = one-tree (plain_tree tree) t p.well_formed.shaped h.well_formed.shaped (p.kinds ∙ sym h.kinds) (p.lines ∙ sym h.lines)
read-as ts (Err (error.Syntax index item)) p t h = p.none t h.well_formed h.kinds
read-as ts (Err error.Memory) p t h = tt

pub refused-if : (ts : List Token) (r : Result Tree ParseError) → IsParsed ts r → ((t : SourceTree) → IsTreeOf ts t → ⊥) → IsRefused r
refused-if ts (Ok tree) p none = none (plain_tree tree) p
refused-if ts (Err e) p none = tt
