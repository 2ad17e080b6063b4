-- The loop over items.
use Rattle.std.proofs.Common.{◌≡◌, ℕ, ◌==◌, ◌<◌, false, List, [], ◌∷◌, ◌++◌, length, map, Vec, vec_len, Ok, Err, refl, sym, ap, ◌∙◌, subst}
use Rattle.std.proofs.Common.{arith, rules}
use Rattle.std.proofs.lemmas.List.{map-append}
use Rattle.std.specs.Global.{Global}
use Rattle.c_syntax.specs.declared.token.Token.{Token}
use Rattle.c_syntax.specs.declared.tree.Item.{Item}
use Rattle.c_syntax.specs.Words.{ItemTree, plain_item, HasOne}
use Rattle.c_parser.specs.declared.error.ParseError.{ParseError}
use Rattle.c_parser.specs.declared.error.ParseError.TheVariants as error
use Rattle.c_parser_expressions.specs.Reading.{Cursor, Found, Fails, Read, Outcome}
use Rattle.c_parser_items.specs.Items.{item}
use Rattle.c_parser_items.specs.ItemParser.{item_by}
use Rattle.c_parser.specs.Parsed.{Refuses, AreRead}
use Rattle.c_parser.specs.ItemAnswers.{ItemRead}
use Rattle.c_parser_expressions.proofs.Laws.{found-takes}
use Rattle.c_parser.proofs.Texts.{item-some, Reached, reached-next}
use Rattle.c_parser.proofs.Parsing.{beginning, refuses}
use Rattle.c_parser_items.proofs.ItemsParse.{item-parses}

found-of : (c to : Cursor) (x : ItemTree) → item_by 200 c ≡ Ok (x, to) → Found (item 200) c x to
found-of c to x h = subst (λ (r : Read ItemTree). Outcome (item 200) c r) h (item-parses 200 (omega arith) c)

fails-of : (c : Cursor) (i : ℕ) → item_by 200 c ≡ Err i → Fails (item 200) c i
fails-of c i h = subst (λ (r : Read ItemTree). Outcome (item 200) c r) h (item-parses 200 (omega arith) c)

pub items_less : (c to : Cursor) (x : ItemTree) → item_by 200 c ≡ Ok (x, to) → length to.rest < length c.rest
items_less c to x h = found-takes (item 200) c to x (item-some x) (found-of c to x h)

pub items_turn : (ts : List Token) (c to : Cursor) (vs ws : List Item) (v : Item) → Reached 200 (beginning ts) c (map plain_item vs)
    → item_by 200 c ≡ Ok (plain_item v, to) → ws ≡ vs ++ v ∷ [] → Reached 200 (beginning ts) to (map plain_item ws)
items_turn ts c to vs ws v r h pushed =
    subst (λ (xs : List ItemTree). Reached 200 (beginning ts) to xs) (sym (ap (map plain_item) pushed ∙ map-append plain_item vs (v ∷ [])))
    (reached-next 200 (beginning ts) c to (map plain_item vs) (plain_item v) r (found-of c to (plain_item v) h))

refused-at : (ts : List Token) (c : Cursor) (xs : List ItemTree) (index start : ℕ) → Reached 200 (beginning ts) c xs → (c.rest ≡ [] → ⊥)
    → item_by 200 c ≡ Err index → start ≡ c.at → Refuses ts index start
refused-at ts c xs index start r some h at = subst (λ (n : ℕ). Refuses ts index n) (sym at) (refuses ts c xs index r some (fails-of c index h))

pub items_err : (ts : List Token) (c later : Cursor) (xs : List ItemTree) (e : ParseError) → Reached 200 (beginning ts) c xs → (c.rest ≡ [] → ⊥)
    → ItemRead c later (Err e) → AreRead ts (Err e)
items_err ts c later xs (error.Syntax index start) r some h = refused-at ts c xs index start r some h.0 h.1
items_err ts c later xs error.Memory r some h = tt

one-of : (vs : List Item) → (length vs ≡ 0 → ⊥) → HasOne (map plain_item vs)
one-of [] h = h refl
one-of (v ∷ vs) h = tt

pub items_some : (vs : Vec Item Global) → (vec_len vs == 0) ≡ false → HasOne (map plain_item vs.items)
items_some vs h = one-of vs.items (let n : 0 < vec_len vs = grind arith in let l : length vs.items ≡ vec_len vs = search rules in λ none. omega arith)
