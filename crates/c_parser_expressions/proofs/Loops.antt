-- What the loops over parts of expressions keep.
use Rattle.std.proofs.Common.{◌≡◌, ℕ, ◌+◌, ◌-◌, ◌≤◌, true, List, [], ◌∷◌, ◌++◌, map, Some, Ok, Err, refl, sym, ap}
use Rattle.std.proofs.Common.{◌∙◌, subst, arith}
use Rattle.c_syntax.specs.declared.token.Sign.{Sign}
use Rattle.c_syntax.specs.declared.token.Sign.TheVariants as sign_is
use Rattle.c_syntax.specs.declared.expr.Expr.{Expr}
use Rattle.c_syntax.specs.declared.expr.Link.{Link}
use Rattle.c_syntax.specs.ExprTree as e
use Rattle.c_syntax.specs.Words.{ExprTree, LinkList, PostfixList, plain_expr, plain_link}
use Rattle.c_syntax.proofs.PlainExprs.{plain_link_is}
use Rattle.c_parser_expressions.specs.Reading.{Cursor, Read, next_cursor}
use Rattle.c_parser_expressions.specs.Marks.{begins_with_sign}
use Rattle.c_parser_expressions.specs.Steps.{◌>>=◌, with_front, all_of, Advances}
use Rattle.c_parser_expressions.specs.Expressions.{chain_links, more_expressions, postfix_operators}
use Rattle.c_parser_expressions.specs.ExpressionParser.{Parsers, deeper_than, comma_step, more_by, assignment_by, level_sign, link_by, link_step, chain_by, cast_by}
use Rattle.c_parser_expressions.specs.ExpressionParser.{postfix_sign, operator_by, postfix_step}
use Rattle.c_parser_expressions.proofs.Many.{Front, front_push, listing-advances}
use Rattle.c_parser_expressions.proofs.Primary.{comma-listing}
use Rattle.c_parser_expressions.proofs.Postfix.{postfix-listing}
use Rattle.c_parser_expressions.proofs.Postfix as postfix
use Rattle.c_parser_expressions.proofs.Chains.{link-listing}
use Rattle.c_parser_expressions.proofs.Chains as chains
use Rattle.c_parser_expressions.proofs.Commas as commas
use Rattle.c_parser_expressions.proofs.WholeParses.{parses, deep}

-- each turn takes a token
pub links_advance : (d level : ℕ) → 1 ≤ level → level ≤ 10 → Advances (link_step (chain_by (11 - (level + 1)) (cast_by d (deeper_than d))) level)
links_advance d level low high =
    listing-advances (chain_links level d) (link_step (chain_by (11 - (level + 1)) (cast_by d (deeper_than d))) level) (λ f. f) e.no_links
    (link-listing level (13 - (11 - (level + 1))) d (chain_by (11 - (level + 1)) (cast_by d (deeper_than d)))
    ((parses d).chain (11 - (level + 1)) (omega arith)) low (omega arith))

pub items_advance : (d : ℕ) → Advances (comma_step (assignment_by d (deeper_than d)))
items_advance d =
    listing-advances (more_expressions d) (comma_step (assignment_by d (deeper_than d))) e.more_exprs e.no_exprs
    (comma-listing d (assignment_by d (deeper_than d)) (parses d).assignment)

pub operators_advance : (d : ℕ) → Advances (postfix_step d (deeper_than d))
operators_advance d =
    listing-advances (postfix_operators d) (postfix_step d (deeper_than d)) (λ f. f) e.no_postfix (postfix-listing d (deeper_than d) (deep d).whole)

-- operators of a chain
pub link_goes : (operand : Cursor → Read ExprTree) (level : ℕ) (c to : Cursor) (s : Sign) (x : ExprTree) → level_sign level c.rest ≡ Some s
    → operand (next_cursor c) ≡ Ok (x, to) → link_step operand level c ≡ Some (Ok (e.more_links c.at s x, to))
unfolding link_by
link_goes operand level c to s x h read =
    chains.step-some operand level c s h ∙ ap (λ (r : Read ExprTree). Some (r >>= (λ y. Ok (e.more_links c.at s y.0, y.1)))) read

pub link_stops : (operand : Cursor → Read ExprTree) (level : ℕ) (c : Cursor) (s : Sign) (i : ℕ) → level_sign level c.rest ≡ Some s → operand (next_cursor c) ≡ Err i
    → link_step operand level c ≡ Some (Err i)
unfolding link_by
link_stops operand level c s i h read =
    chains.step-some operand level c s h ∙ ap (λ (r : Read ExprTree). Some (r >>= (λ y. Ok (e.more_links c.at s y.0, y.1)))) read

pub link_push : (operand : Cursor → Read ExprTree) (level : ℕ) (whole : Read (List (LinkList → LinkList))) (c to : Cursor) (vs ws : List Link) (l : Link)
    → Advances (link_step operand level)
    → Front (link_step operand level) whole c (map plain_link vs) → level_sign level c.rest ≡ Some l.sign → l.token ≡ c.at
    → operand (next_cursor c) ≡ Ok (plain_expr l.operand, to) → ws ≡ vs ++ l ∷ [] → Front (link_step operand level) whole to (map plain_link ws)
link_push operand level whole c to vs ws l adv inv h at read pushed =
    let same : e.more_links c.at l.sign (plain_expr l.operand) ≡ plain_link l =
    ap (λ (n : ℕ). e.more_links n l.sign (plain_expr l.operand)) (sym at) ∙ sym (plain_link_is l) in
    front_push plain_link (link_step operand level) whole c to vs ws l adv inv
    (subst (λ (f : LinkList → LinkList). link_step operand level c ≡ Some (Ok (f, to))) same
    (link_goes operand level c to l.sign (plain_expr l.operand) h read)) pushed

-- expressions with commas between them
pub comma_goes : (item : Cursor → Read ExprTree) (c to : Cursor) (x : ExprTree) → begins_with_sign sign_is.Comma c.rest ≡ true → item (next_cursor c) ≡ Ok (x, to)
    → comma_step item c ≡ Some (Ok (x, to))
comma_goes item c to x h read = commas.step-some item c h ∙ ap (λ (r : Read ExprTree). Some r) read

pub comma_stops : (item : Cursor → Read ExprTree) (c : Cursor) (i : ℕ) → begins_with_sign sign_is.Comma c.rest ≡ true → item (next_cursor c) ≡ Err i
    → comma_step item c ≡ Some (Err i)
comma_stops item c i h read = commas.step-some item c h ∙ ap (λ (r : Read ExprTree). Some r) read

pub more_start : (item : Cursor → Read ExprTree) (c : Cursor) (x : Expr) (vs ws : List Expr) → vs ≡ [] → ws ≡ vs ++ x ∷ []
    → Front (comma_step item) (more_by item (plain_expr x) c) c (map plain_expr ws)
unfolding more_by
more_start item c x vs ws none pushed =
    let one : ws ≡ x ∷ [] = pushed ∙ ap (λ (v : List Expr). v ++ x ∷ []) none in
    subst (λ (v : List Expr). Front (comma_step item) (with_front (plain_expr x ∷ []) (all_of (comma_step item) c)) c (map plain_expr v)) (sym one)
    (record { all = refl })

pub comma_push : (item : Cursor → Read ExprTree) (whole : Read (List ExprTree)) (c to : Cursor) (vs ws : List Expr) (x : Expr) → Advances (comma_step item)
    → Front (comma_step item) whole c (map plain_expr vs)
    → begins_with_sign sign_is.Comma c.rest ≡ true → item (next_cursor c) ≡ Ok (plain_expr x, to) → ws ≡ vs ++ x ∷ [] → Front (comma_step item) whole to (map plain_expr ws)
comma_push item whole c to vs ws x adv inv h read pushed =
    front_push plain_expr (comma_step item) whole c to vs ws x adv inv (comma_goes item c to (plain_expr x) h read) pushed

-- operators behind their operand
pub operator_goes : (depth : ℕ) (deeper : Parsers) (c : Cursor) (s : Sign) (r : Read (PostfixList → PostfixList)) → postfix_sign depth c.rest ≡ Some s
    → operator_by deeper s c ≡ r → postfix_step depth deeper c ≡ Some r
operator_goes depth deeper c s r h read = postfix.step-some depth deeper c s h ∙ ap (λ (q : Read (PostfixList → PostfixList)). Some q) read
