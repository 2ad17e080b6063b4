-- What a body holds stands in the order of its tokens: in expressions.
use Rattle.std.proofs.Common.{◌≡◌, ℕ, ◌+◌, ◌<◌, ◌≤◌, Bool, true, false, if◌then◌else◌, List, [], ◌∷◌, ◌++◌, length, Option, Some, None, arith, length-append}
use Rattle.std.specs.Prelude.{IfSome}
use Rattle.c_syntax.specs.ExprTree as e
use Rattle.c_syntax.specs.Words.{ExprTree, ExprList, LinkList, PostfixList, Kinds, a_sign, a_name, parenthesized_kinds, prefix_kinds, type_kinds, expr_kinds}
use Rattle.c_syntax.specs.Words.{exprs_kinds, more_exprs_kinds, link_kinds, postfix_kinds, optional_kinds, ExprAt, ExprsAt, LinksAt, PostfixAt}
use Rattle.c_syntax.specs.declared.token.Sign.TheVariants as sign
use Rattle.flow.specs.declared.site.BranchWord.{BranchWord}
use Rattle.flow.specs.declared.site.BranchWord.TheVariants.{Question}
use Rattle.sites.specs.declared.spots.Spot.{Spot}
use Rattle.sites.specs.declared.spots.Spot.TheVariants as spot
use Rattle.sites.specs.Spots.{named_token, change_spots, is_step, is_sizeof, stepped_spots, branch_of_sign}
use Rattle.sites.specs.Spots.{branch_spots, joined_spots, expr_spots, exprs_spots, links_spots, postfix_spots, part_spots}

-- the tokens of these spots never fall, and are from `low` on and below `high`
abbrev pub Rises : ℕ → ℕ → List Spot → Type 0
Rises low high [] = low ≤ high
Rises low high (spot.Branch token word ∷ rest) = (low ≤ token) × (token < high) × Rises token high rest
Rises low high (spot.Call token name ∷ rest) = (low ≤ token) × (token < high) × Rises token high rest
Rises low high (spot.Change token target ∷ rest) = (low ≤ token) × (token < high) × Rises token high rest
Rises low high (spot.Constant value ∷ rest) = Rises low high rest

pub ordered : (low high : ℕ) (xs : List Spot) → Rises low high xs → low ≤ high
ordered low high [] r = r
ordered low high (spot.Branch token word ∷ rest) r = omega (arith, r.0, r.1)
ordered low high (spot.Call token name ∷ rest) r = omega (arith, r.0, r.1)
ordered low high (spot.Change token target ∷ rest) r = omega (arith, r.0, r.1)
ordered low high (spot.Constant value ∷ rest) r = ordered low high rest r

pub wider : (low high a b : ℕ) (xs : List Spot) → a ≤ low → high ≤ b → Rises low high xs → Rises a b xs
wider low high a b [] l h r = omega (arith, l, h, r)
wider low high a b (spot.Branch token word ∷ rest) l h r = (omega (arith, l, r.0), omega (arith, h, r.1), wider token high token b rest (omega arith) h r.2)
wider low high a b (spot.Call token name ∷ rest) l h r = (omega (arith, l, r.0), omega (arith, h, r.1), wider token high token b rest (omega arith) h r.2)
wider low high a b (spot.Change token target ∷ rest) l h r = (omega (arith, l, r.0), omega (arith, h, r.1), wider token high token b rest (omega arith) h r.2)
wider low high a b (spot.Constant value ∷ rest) l h r = wider low high a b rest l h r

pub join : (a b c d : ℕ) (xs ys : List Spot) → b ≤ c → Rises a b xs → Rises c d ys → Rises a d (xs ++ ys)
join a b c d [] ys m r s = wider c d a d ys (omega (arith, m, r)) (omega arith) s
join a b c d (spot.Branch token word ∷ rest) ys m r s = (r.0, omega (arith, r.1, m, ordered c d ys s), join token b c d rest ys m r.2 s)
join a b c d (spot.Call token name ∷ rest) ys m r s = (r.0, omega (arith, r.1, m, ordered c d ys s), join token b c d rest ys m r.2 s)
join a b c d (spot.Change token target ∷ rest) ys m r s = (r.0, omega (arith, r.1, m, ordered c d ys s), join token b c d rest ys m r.2 s)
join a b c d (spot.Constant value ∷ rest) ys m r s = join a b c d rest ys m r s

-- at one token

pub rises-changed : (token : ℕ) (target : Option ℕ) → Rises token (token + 1) (change_spots token target)
rises-changed token None = omega arith
rises-changed token (Some target) = (omega arith, omega arith, omega arith)

pub rises-branch : (token : ℕ) (word : BranchWord) → Rises token (token + 1) (spot.Branch token word ∷ [])
rises-branch token word = (omega arith, omega arith, omega arith)

rises-call : (token : ℕ) (name : List ℕ) → Rises token (token + 1) (spot.Call token name ∷ [])
rises-call token name = (omega arith, omega arith, omega arith)

rises-branched : (token : ℕ) (word : Option BranchWord) → Rises token (token + 1) (branch_spots token word)
rises-branched token None = omega arith
rises-branched token (Some word) = rises-branch token word

rises-stepped : (token : ℕ) (target : Option ℕ) (c : Bool) → Rises token (token + 1) (if c then change_spots token target else [])
rises-stepped token target true = rises-changed token target
rises-stepped token target false = omega arith

rises-unless : (low high : ℕ) (c : Bool) (xs : List Spot) → Rises low high xs → Rises low high (if c then [] else xs)
rises-unless low high true xs r = ordered low high xs r
rises-unless low high false xs r = r

pub join3 : (a b c d f g : ℕ) (xs ys zs : List Spot) → b ≤ c → d ≤ f → Rises a b xs → Rises c d ys → Rises f g zs → Rises a g (xs ++ ys ++ zs)
join3 a b c d f g xs ys zs m n r s t = join a d f g (xs ++ ys) zs n (join a b c d xs ys m r s) t

-- how many tokens there are

pub len3 : (a b c : Kinds) → length (a ++ b ++ c) ≡ length a + length b + length c
len3 a b c = omega (arith, length-append (a ++ b) c, length-append a b)

pub len4 : (a b c d : Kinds) → length (a ++ b ++ c ++ d) ≡ length a + length b + length c + length d
len4 a b c d = omega (arith, length-append (a ++ b ++ c) d, len3 a b c)

pub len5 : (a b c d f : Kinds) → length (a ++ b ++ c ++ d ++ f) ≡ length a + length b + length c + length d + length f
len5 a b c d f = omega (arith, length-append (a ++ b ++ c ++ d) f, len4 a b c d)

pub paren-length : (k : Kinds) → length (parenthesized_kinds k) ≡ length k + 2
paren-length k = omega (arith, len3 (a_sign sign.LeftParen) k (a_sign sign.RightParen))

mutual
  pub rises-expr : (at : ℕ) (x : ExprTree) → ExprAt at x → Rises at (at + length (expr_kinds x)) (expr_spots x)
  rises-expr at (e.Comma token operands) p = rises-exprs at operands p.1
  rises-expr at (e.Assign token s target value) p =
      let lt = length (expr_kinds target) in
      let lv = length (expr_kinds value) in
      let whole : length (expr_kinds (e.Assign token s target value)) ≡ lt + length (a_sign s) + lv =
      len3 (expr_kinds target) (a_sign s) (expr_kinds value) in
      wider at (token + 1 + lv) at _ (expr_spots (e.Assign token s target value)) (omega arith) (omega (arith, p.0, whole))
      (join3 at (at + lt) token (token + 1) (token + 1) (token + 1 + lv) (expr_spots target) (change_spots token (named_token target)) (expr_spots value) (omega
      (arith, p.0)) (omega arith)
      (rises-expr at target p.1) (rises-changed token (named_token target)) (rises-expr (token + 1) value p.2))
  rises-expr at (e.Conditional token condition first second) p =
      let lc = length (expr_kinds condition) in
      let lf = length (expr_kinds first) in
      let ls = length (expr_kinds second) in
      let whole : length (expr_kinds (e.Conditional token condition first second)) ≡ lc + length (a_sign sign.Question) + lf + length
      (a_sign sign.Colon) + ls =
      len5 (expr_kinds condition) (a_sign sign.Question) (expr_kinds first) (a_sign sign.Colon) (expr_kinds second) in
      wider at (token + 1 + lf + 1 + ls) at _ (expr_spots (e.Conditional token condition first second)) (omega arith) (omega (arith, p.0, whole))
      (join3 at (at + lc) token (token + 1 + lf) (token + 1 + lf + 1) (token + 1 + lf + 1 + ls)
      (expr_spots condition) (spot.Branch token Question ∷ expr_spots first) (expr_spots second) (omega (arith, p.0)) (omega arith)
      (rises-expr at condition p.1)
      (join token (token + 1) (token + 1) (token + 1 + lf) (spot.Branch token Question ∷ []) (expr_spots first) (omega arith)
      (rises-branch token Question) (rises-expr (token + 1) first p.2))
      (rises-expr (token + 1 + lf + 1) second p.3))
  rises-expr at (e.Chain level first links) p =
      let lf = length (expr_kinds first) in
      let ll = length (link_kinds links) in
      let whole : length (expr_kinds (e.Chain level first links)) ≡ lf + ll = length-append (expr_kinds first) (link_kinds links) in
      wider at (at + lf + ll) at _ (expr_spots (e.Chain level first links)) (omega arith) (omega (arith, whole))
      (join at (at + lf) (at + lf) (at + lf + ll) (expr_spots first) (links_spots links) (omega arith) (rises-expr at first p.0) (rises-links
      (at + lf) links p.1))
  rises-expr at (e.Cast token b stars operand) p =
      let ts = type_kinds b stars in
      let from = at + 1 + length ts + 1 in
      let whole : length (expr_kinds (e.Cast token b stars operand)) ≡ length (parenthesized_kinds ts) + length (expr_kinds operand) =
      length-append (parenthesized_kinds ts) (expr_kinds operand) in
      wider from (from + length (expr_kinds operand)) at _ (expr_spots operand) (omega arith) (omega (arith, whole, paren-length ts))
      (rises-expr from operand p.2)
  rises-expr at (e.Prefix token operator operand) p =
      let lo = length (expr_kinds operand) in
      let whole : length (expr_kinds (e.Prefix token operator operand)) ≡ length (prefix_kinds operator) + lo =
      length-append (prefix_kinds operator) (expr_kinds operand) in
      wider at (at + 1 + lo) at _ (expr_spots (e.Prefix token operator operand)) (omega arith) (omega (arith, whole))
      (rises-unless at (at + 1 + lo) (is_sizeof operator) (stepped_spots operator token (named_token operand) ++ expr_spots operand)
      (wider token (at + 1 + lo) at (at + 1 + lo) (stepped_spots operator token (named_token operand) ++ expr_spots operand) (omega (arith, p.0)) (omega arith)
      (join token (token + 1) (at + 1) (at + 1 + lo) (stepped_spots operator token (named_token operand)) (expr_spots operand) (omega (arith, p.0))
      (rises-stepped token (named_token operand) (is_step operator)) (rises-expr (at + 1) operand p.1))))
  rises-expr at (e.Postfix primary operators) p =
      let lp = length (expr_kinds primary) in
      let lo = length (postfix_kinds operators) in
      let whole : length (expr_kinds (e.Postfix primary operators)) ≡ lp + lo = length-append (expr_kinds primary) (postfix_kinds operators) in
      wider at (at + lp + lo) at _ (expr_spots (e.Postfix primary operators)) (omega arith) (omega (arith, whole))
      (join at (at + lp) (at + lp) (at + lp + lo) (expr_spots primary) (postfix_spots (named_token primary) operators) (omega arith)
      (rises-expr at primary p.0) (rises-postfix (at + lp) (named_token primary) operators p.1))
  rises-expr at (e.Call token name arguments) p =
      let la = length (exprs_kinds arguments) in
      let whole : length (expr_kinds (e.Call token name arguments)) ≡ length (a_name name) + length (parenthesized_kinds (exprs_kinds arguments)) =
      length-append (a_name name) (parenthesized_kinds (exprs_kinds arguments)) in
      wider token (at + 2 + la) at _ (expr_spots (e.Call token name arguments)) (omega (arith, p.0)) (omega (
        arith,
        whole,
        paren-length
            (exprs_kinds arguments),
      ))
      (join token (token + 1) (at + 2) (at + 2 + la) (spot.Call token name ∷ []) (exprs_spots arguments) (omega (arith, p.0))
      (rises-call token name) (rises-exprs (at + 2) arguments p.1))
  rises-expr at (e.Paren token inner) p =
      let whole : length (expr_kinds (e.Paren token inner)) ≡ length (expr_kinds inner) + 2 = paren-length (expr_kinds inner) in
      wider (at + 1) (at + 1 + length (expr_kinds inner)) at _ (expr_spots inner) (omega arith) (omega (arith, whole)) (rises-expr (at + 1) inner p.1)
  rises-expr at x p = omega arith

  pub rises-exprs : (at : ℕ) (xs : ExprList) → ExprsAt at xs → Rises at (at + length (exprs_kinds xs)) (exprs_spots xs)
  rises-exprs at e.no_exprs p = omega arith
  rises-exprs at (e.more_exprs x rest) p =
      let lx = length (expr_kinds x) in
      let lr = length (more_exprs_kinds rest) in
      let whole : length (exprs_kinds (e.more_exprs x rest)) ≡ lx + lr = length-append (expr_kinds x) (more_exprs_kinds rest) in
      wider at (at + lx + lr) at _ (expr_spots x ++ exprs_spots rest) (omega arith) (omega (arith, whole))
      (join at (at + lx) (at + lx) (at + lx + lr) (expr_spots x) (exprs_spots rest) (omega arith) (rises-expr at x p.0) (rises-more (at + lx) rest p.1))

  -- the expressions behind the first, each with a comma before it
  rises-more : (at : ℕ) (xs : ExprList) → ExprsAt (at + 1) xs → Rises at (at + length (more_exprs_kinds xs)) (exprs_spots xs)
  rises-more at e.no_exprs p = omega arith
  rises-more at (e.more_exprs x rest) p =
      let lx = length (expr_kinds x) in
      let lr = length (more_exprs_kinds rest) in
      let whole : length (more_exprs_kinds (e.more_exprs x rest)) ≡ length (a_sign sign.Comma) + lx + lr =
      len3 (a_sign sign.Comma) (expr_kinds x) (more_exprs_kinds rest) in
      wider (at + 1) (at + 1 + lx + lr) at _ (expr_spots x ++ exprs_spots rest) (omega arith) (omega (arith, whole))
      (join (at + 1) (at + 1 + lx) (at + 1 + lx) (at + 1 + lx + lr) (expr_spots x) (exprs_spots rest) (omega arith)
      (rises-expr (at + 1) x p.0) (rises-more (at + 1 + lx) rest p.1))

  rises-links : (at : ℕ) (xs : LinkList) → LinksAt at xs → Rises at (at + length (link_kinds xs)) (links_spots xs)
  rises-links at e.no_links p = omega arith
  rises-links at (e.more_links token s operand rest) p =
      let lo = length (expr_kinds operand) in
      let lr = length (link_kinds rest) in
      let whole : length (link_kinds (e.more_links token s operand rest)) ≡ length (a_sign s) + lo + lr =
      len3 (a_sign s) (expr_kinds operand) (link_kinds rest) in
      wider token (at + 1 + lo + lr) at _ (joined_spots token s ++ expr_spots operand ++ links_spots rest) (omega (arith, p.0)) (omega (arith, whole))
      (join3 token (token + 1) (at + 1) (at + 1 + lo) (at + 1 + lo) (at + 1 + lo + lr) (joined_spots token s) (expr_spots operand) (links_spots rest) (omega
      (arith, p.0)) (omega arith)
      (rises-branched token (branch_of_sign s)) (rises-expr (at + 1) operand p.1) (rises-links (at + 1 + lo) rest p.2))

  rises-postfix : (at : ℕ) (target : Option ℕ) (xs : PostfixList) → PostfixAt at xs → Rises at (at + length (postfix_kinds xs)) (postfix_spots target xs)
  rises-postfix at target e.no_postfix p = omega arith
  rises-postfix at target (e.index token x rest) p =
      let lx = length (expr_kinds x) in
      let lr = length (postfix_kinds rest) in
      let whole : length (postfix_kinds (e.index token x rest)) ≡ length (a_sign sign.LeftBracket) + lx + length (a_sign sign.RightBracket) + lr =
      len4 (a_sign sign.LeftBracket) (expr_kinds x) (a_sign sign.RightBracket) (postfix_kinds rest) in
      wider (at + 1) (at + 1 + lx + 1 + lr) at _ (expr_spots x ++ postfix_spots None rest) (omega arith) (omega (arith, whole))
      (join (at + 1) (at + 1 + lx) (at + 1 + lx + 1) (at + 1 + lx + 1 + lr) (expr_spots x) (postfix_spots None rest) (omega arith)
      (rises-expr (at + 1) x p.1) (rises-postfix (at + 1 + lx + 1) None rest p.2))
  rises-postfix at target (e.member token name rest) p =
      let whole : length (postfix_kinds (e.member token name rest)) ≡ length (a_sign sign.Dot) + length (a_name name) + length (postfix_kinds rest) =
      len3 (a_sign sign.Dot) (a_name name) (postfix_kinds rest) in
      wider (at + 2) (at + 2 + length (postfix_kinds rest)) at _ (postfix_spots None rest) (omega arith) (omega (arith, whole)) (rises-postfix
      (at + 2) None rest p.1)
  rises-postfix at target (e.arrow token name rest) p =
      let whole : length (postfix_kinds (e.arrow token name rest)) ≡ length (a_sign sign.Arrow) + length (a_name name) + length (postfix_kinds rest) =
      len3 (a_sign sign.Arrow) (a_name name) (postfix_kinds rest) in
      wider (at + 2) (at + 2 + length (postfix_kinds rest)) at _ (postfix_spots None rest) (omega arith) (omega (arith, whole)) (rises-postfix
      (at + 2) None rest p.1)
  rises-postfix at target (e.increment token rest) p =
      let end = at + 1 + length (postfix_kinds rest) in
      let whole : length (postfix_kinds (e.increment token rest)) ≡ length (a_sign sign.PlusPlus) + length (postfix_kinds rest) =
      length-append (a_sign sign.PlusPlus) (postfix_kinds rest) in
      wider token end at _ (change_spots token target ++ postfix_spots None rest) (omega (arith, p.0)) (omega (arith, whole))
      (join token (token + 1) (at + 1) end (change_spots token target) (postfix_spots None rest) (omega (arith, p.0)) (rises-changed token target)
      (rises-postfix (at + 1) None rest p.1))
  rises-postfix at target (e.decrement token rest) p =
      let end = at + 1 + length (postfix_kinds rest) in
      let whole : length (postfix_kinds (e.decrement token rest)) ≡ length (a_sign sign.MinusMinus) + length (postfix_kinds rest) =
      length-append (a_sign sign.MinusMinus) (postfix_kinds rest) in
      wider token end at _ (change_spots token target ++ postfix_spots None rest) (omega (arith, p.0)) (omega (arith, whole))
      (join token (token + 1) (at + 1) end (change_spots token target) (postfix_spots None rest) (omega (arith, p.0)) (rises-changed token target)
      (rises-postfix (at + 1) None rest p.1))

pub rises-part : (at : ℕ) (x : Option ExprTree) → IfSome x (ExprAt at) → Rises at (at + length (optional_kinds expr_kinds x)) (part_spots x)
rises-part at None p = omega arith
rises-part at (Some x) p = rises-expr at x p
