-- Each expression has room for no more nodes than its tokens allow.
use Rattle.std.proofs.Common.{ℕ, ◌≤◌, arith, [], ◌++◌, ◌+◌, length, length-append}
use Rattle.c_syntax.specs.declared.token.Sign.TheVariants as sign
use Rattle.c_syntax.specs.ExprTree as e
use Rattle.c_syntax.specs.Words.{ExprTree, ExprList, LinkList, PostfixList, ExprAt, ExprsAt, LinksAt, PostfixAt, HasLink, HasTwo, ShapedExpr, ShapedExprs}
use Rattle.c_syntax.specs.Words.{ShapedLinks, ShapedPostfix, expression_rank, a_sign, expr_kinds, exprs_kinds, link_kinds, more_exprs_kinds, parenthesized_kinds, postfix_kinds}
use Rattle.c_syntax.specs.Words.{type_kinds}
use Rattle.c_meaning.specs.Facts.{Sites}
use Rattle.lower_relation.specs.Room.{expr_room, exprs_room, links_room, postfix_room}
use Rattle.sites.proofs.Rises.{paren-length}
use Rattle.c_meaning_sound.proofs.Parting.{infix_long, texts_long}
use Rattle.lower_fits.proofs.Allowing.{Allows, nothing, one, two, wide}

-- How many nodes fewer an expression has room for than its tokens allow. A primary expression leaves more of them, for the operators behind it.
abbrev pub spare : ExprTree → ℕ
spare (e.Name token name) = 8
spare (e.Call token name arguments) = 8
spare (e.Constant token kind value) = 8
spare (e.Strings token parts) = 8
spare (e.Paren token inner) = 8
spare (e.Null token) = 8
spare (e.EndOfFile token) = 8
spare x = 4

-- each expression leaves 4 at least
leaves_some : (x : ExprTree) → 4 ≤ spare x
leaves_some (e.Name token name) = omega arith
leaves_some (e.Call token name arguments) = omega arith
leaves_some (e.Constant token kind value) = omega arith
leaves_some (e.Strings token parts) = omega arith
leaves_some (e.Paren token inner) = omega arith
leaves_some (e.Null token) = omega arith
leaves_some (e.EndOfFile token) = omega arith
leaves_some x = omega arith

-- a primary expression leaves 8
primary_leaves : (x : ExprTree) → ShapedExpr x → 16 ≤ expression_rank x → 8 ≤ spare x
primary_leaves (e.Chain level first links) q h = omega arith
primary_leaves x q h = omega arith

-- Room for a list of expressions with as many nodes more for each as the tokens allow: the first leaves 4, and for each further one its comma does too.
abbrev pub list_room : Sites → ExprList → ℕ
list_room sites e.no_exprs = 0
list_room sites (e.more_exprs x rest) = 4 + expr_room sites x + exprs_room sites 20 rest

-- room for the links of a chain with 2 nodes more, where there are links
abbrev chain_room : Sites → LinkList → ℕ
chain_room sites e.no_links = 0
chain_room sites (e.more_links token sign operand rest) = 2 + links_room sites (e.more_links token sign operand rest)

module _ (sites : Sites) where
  -- more nodes for each expression are no fewer in all
  fewer : (less more : ℕ) (xs : ExprList) → less ≤ more → exprs_room sites less xs ≤ exprs_room sites more xs
  fewer less more e.no_exprs h = omega arith
  fewer less more (e.more_exprs x rest) h = omega (arith, fewer less more rest h)

  -- so many nodes more for each expression are at most so many more than its tokens allow
  pub list_leaves : (each : ℕ) (xs : ExprList) → each ≤ 20 → exprs_room sites each xs ≤ list_room sites xs + each
  list_leaves each e.no_exprs h = omega arith
  list_leaves each (e.more_exprs x rest) h = omega (arith, fewer each 20 rest h)

  -- two expressions or more leave 7 at least
  sequence_leaves : (xs : ExprList) → HasTwo xs → 7 + exprs_room sites 0 xs ≤ list_room sites xs
  sequence_leaves e.no_exprs h = absurd h
  sequence_leaves (e.more_exprs x e.no_exprs) h = absurd h
  sequence_leaves (e.more_exprs x (e.more_exprs y rest)) h = omega (arith, fewer 0 20 rest (omega arith))

  -- that room is no less than the room for the links
  links_leave : (xs : LinkList) → links_room sites xs ≤ chain_room sites xs
  links_leave e.no_links = omega arith
  links_leave (e.more_links token o operand rest) = omega arith

  -- where there are links, 2 are left
  chain_leaves : (xs : LinkList) → HasLink xs → 2 + links_room sites xs ≤ chain_room sites xs
  chain_leaves e.no_links h = absurd h
  chain_leaves (e.more_links token o operand rest) h = omega arith

  mutual
    -- an expression leaves what is spare
    pub expr_allowed : (x : ExprTree) (at : ℕ) → ShapedExpr x → ExprAt at x → Allows sites at (at + length (expr_kinds x)) (expr_room sites x + spare x)
    expr_allowed (e.Comma token operands) at q p =
        wide (exprs_allowed operands at q.1 p.1) (omega arith) (omega arith) (omega (arith, sequence_leaves operands q.0))
    expr_allowed (e.Assign token o target value) at q p =
        let long = infix_long (expr_kinds target) (expr_kinds value) o in
        wide (two (two (expr_allowed target at q.2 p.1) (one token) (omega arith)) (expr_allowed value (token + 1) q.4 p.2) (omega arith)) (omega arith)
        (omega arith) (omega (arith, leaves_some target, leaves_some value))
    expr_allowed (e.Conditional token condition first second) at q p =
        let long = infix_long (expr_kinds condition ++ a_sign sign.Question ++ expr_kinds first) (expr_kinds second) sign.Colon in
        let short = infix_long (expr_kinds condition) (expr_kinds first) sign.Question in
        wide (two (two (two (expr_allowed condition at q.1 p.1) (one token) (omega arith)) (expr_allowed first (token + 1) q.2 p.2) (omega arith))
        (expr_allowed second (token + 1 + length (expr_kinds first) + 1) q.4 p.3) (omega arith)) (omega arith) (omega arith)
        (omega (arith, leaves_some condition, leaves_some first, leaves_some second))
    expr_allowed (e.Chain level first links) at q p =
        let long = length-append (expr_kinds first) (link_kinds links) in
        wide (two (expr_allowed first at q.3 p.0) (links_allowed links level (at + length (expr_kinds first)) q.5 p.1) (omega arith)) (omega arith)
        (omega arith) (omega (arith, leaves_some first, chain_leaves links q.4))
    expr_allowed (e.Cast token b stars operand) at q p =
        let long = length-append (parenthesized_kinds (type_kinds b stars)) (expr_kinds operand) in
        wide (two (one token) (expr_allowed operand (at + 1 + length (type_kinds b stars) + 1) q.1 p.2) (omega arith)) (omega arith)
        (omega (arith, paren-length (type_kinds b stars))) (omega (arith, leaves_some operand))
    expr_allowed (e.Prefix token o operand) at q p =
        wide (two (one token) (expr_allowed operand (at + 1) q.1 p.1) (omega arith)) (omega arith) (omega arith)
        (omega (arith, leaves_some operand))
    expr_allowed (e.SizeOfType token b stars) at q p = wide (one token) (omega arith) (omega arith) (omega arith)
    expr_allowed (e.Postfix primary operators) at q p =
        let long = length-append (expr_kinds primary) (postfix_kinds operators) in
        wide (two (expr_allowed primary at q.1 p.0) (postfix_allowed operators (at + length (expr_kinds primary)) q.3 p.1) (omega arith)) (omega arith)
        (omega arith) (omega (arith, primary_leaves primary q.1 q.0))
    expr_allowed (e.Name token name) at q p = wide (one token) (omega arith) (omega arith) (omega arith)
    expr_allowed (e.Call token name arguments) at q p =
        wide (two (one token) (exprs_allowed arguments (at + 2) q p.1) (omega arith)) (omega arith) (omega (arith, paren-length (exprs_kinds arguments)))
        (omega (arith, list_leaves 3 arguments (omega arith)))
    expr_allowed (e.Constant token k value) at q p = wide (one token) (omega arith) (omega arith) (omega arith)
    expr_allowed (e.Strings token parts) at q p = wide (one token) (omega arith) (omega (arith, texts_long parts q)) (omega arith)
    expr_allowed (e.Paren token inner) at q p =
        wide (two (one token) (expr_allowed inner (at + 1) q p.1) (omega arith)) (omega arith) (omega (arith, paren-length (expr_kinds inner)))
        (omega (arith, leaves_some inner))
    expr_allowed (e.Null token) at q p = wide (one token) (omega arith) (omega arith) (omega arith)
    expr_allowed (e.EndOfFile token) at q p = wide (one token) (omega arith) (omega arith) (omega arith)

    -- expressions with commas between them
    pub exprs_allowed : (xs : ExprList) (at : ℕ) → ShapedExprs xs → ExprsAt at xs → Allows sites at (at + length (exprs_kinds xs)) (list_room sites xs)
    exprs_allowed e.no_exprs at q p = nothing (omega arith)
    exprs_allowed (e.more_exprs x e.no_exprs) at q p =
        let long = length-append (expr_kinds x) [] in
        wide (expr_allowed x at q.1 p.0) (omega arith) (omega arith) (omega (arith, leaves_some x))
    exprs_allowed (e.more_exprs x (e.more_exprs y ys)) at q p =
        let long = length-append (expr_kinds x) (more_exprs_kinds (e.more_exprs y ys)) in
        wide (two (two (expr_allowed x at q.1 p.0) (one (at + length (expr_kinds x))) (omega arith))
        (exprs_allowed (e.more_exprs y ys) (at + length (expr_kinds x) + 1) q.2 p.1) (omega arith)) (omega arith) (omega arith)
        (omega (arith, leaves_some x))

    -- the operators of a chain, each with the operand behind it
    links_allowed : (xs : LinkList) (level at : ℕ) → ShapedLinks level xs → LinksAt at xs → Allows sites at (at + length (link_kinds xs)) (chain_room sites xs)
    links_allowed e.no_links level at q p = nothing (omega arith)
    links_allowed (e.more_links token o operand rest) level at q p =
        let long = length-append (expr_kinds operand) (link_kinds rest) in
        wide (two (two (one token) (expr_allowed operand (at + 1) q.2 p.1) (omega arith))
        (links_allowed rest level (at + 1 + length (expr_kinds operand)) q.3 p.2) (omega arith)) (omega arith) (omega arith)
        (omega (arith, leaves_some operand, links_leave rest))

    -- the operators behind a primary expression
    postfix_allowed : (xs : PostfixList) (at : ℕ) → ShapedPostfix xs → PostfixAt at xs → Allows sites at (at + length (postfix_kinds xs)) (postfix_room sites xs)
    postfix_allowed e.no_postfix at q p = nothing (omega arith)
    postfix_allowed (e.index token x rest) at q p =
        let long = length-append (expr_kinds x ++ a_sign sign.RightBracket) (postfix_kinds rest) in
        let short = length-append (expr_kinds x) (a_sign sign.RightBracket) in
        wide (two (two (one token) (expr_allowed x (at + 1) q.0 p.1) (omega arith))
        (postfix_allowed rest (at + 1 + length (expr_kinds x) + 1) q.1 p.2) (omega arith)) (omega arith) (omega arith) (omega arith)
    postfix_allowed (e.member token name rest) at q p =
        wide (two (one token) (postfix_allowed rest (at + 2) q p.1) (omega arith)) (omega arith) (omega arith) (omega arith)
    postfix_allowed (e.arrow token name rest) at q p =
        wide (two (one token) (postfix_allowed rest (at + 2) q p.1) (omega arith)) (omega arith) (omega arith) (omega arith)
    postfix_allowed (e.increment token rest) at q p =
        wide (two (one token) (postfix_allowed rest (at + 1) q p.1) (omega arith)) (omega arith) (omega arith) (omega arith)
    postfix_allowed (e.decrement token rest) at q p =
        wide (two (one token) (postfix_allowed rest (at + 1) q p.1) (omega arith)) (omega arith) (omega arith) (omega arith)
