-- Chains: operands of the next level, with operators of the level between them.
use Rattle.std.proofs.Common.{◌≡◌, ℕ, zero, suc, ◌+◌, ◌-◌, ◌≤◌, ◌==◌, inl, inr, true, List, [], ◌∷◌, ◌++◌, length, Option, Some}
use Rattle.std.proofs.Common.{None, Ok, refl, sym, ap, ◌∙◌, subst, arith}
use Rattle.std.proofs.lemmas.List.{append-nil}
use Rattle.std.proofs.lemmas.Bool.{cases_lt, cases_Bool}
use Rattle.c_syntax.specs.declared.token.Sign.{Sign}
use Rattle.c_syntax.specs.declared.token.Sign.TheVariants as sign_is
use Rattle.c_syntax.specs.declared.token.TokenKind.{TokenKind}
use Rattle.c_syntax.specs.declared.token.TokenKind.TheVariants as kind
use Rattle.c_syntax.specs.ExprTree as e
use Rattle.c_syntax.specs.Words.{ExprTree, LinkList, Kinds, a_sign, expr_kinds, link_kinds, level_of, link_list}
use Rattle.c_parser_expressions.specs.Reading.{Cursor, SameUpTo, Found, Read, Outcome, next_cursor, kinds_behind_first, sign_at, sequence_rule}
use Rattle.c_parser_expressions.specs.Expressions.{expression, IsExpr, EndsAt, AreLinks, chain_links, kind_binds, sign_binds}
use Rattle.c_parser_expressions.specs.ExpressionParser.{step_of, if_some, level_sign_of, level_sign, link_by, link_step, links_by, linked_by, level_by, chain_by}
use Rattle.c_parser_expressions.proofs.Heads.{sign-head, same-sign}
use Rattle.c_parser_expressions.proofs.Laws.{Leads, leads-here, part}
use Rattle.c_parser_expressions.proofs.Many.{Listing, StepIs, put, link-part, list-parses, list-none}
use Rattle.c_parser_expressions.proofs.Primary.{behind-shorter}

-- an operator of a level binds by three more
level-binds : (s : Sign) (level : ℕ) → 1 ≤ level → level_of s ≡ level → sign_binds s ≡ level + 3
level-binds sign_is.OrOr level low h = omega arith
level-binds _ level low h = omega arith

-- links begin with an operator of the level, or there are none
links-end : (level d at : ℕ) (ls : LinkList) (k : Kinds) → 1 ≤ level → AreLinks level d at ls → EndsAt (level + 2) k → EndsAt (level + 3) (link_kinds ls ++ k)
links-end level d at e.no_links k low are ends = let by = ends.by in record { by = omega arith }
links-end level d at (e.more_links token s x rest) k low are ends = record { by = omega (arith, level-binds s level low are.shaped.0) }

-- an operand, with what follows it in a chain
abbrev chain_tree : ℕ → ExprTree → LinkList → ExprTree
chain_tree level x e.no_links = x
chain_tree level x (e.more_links token s y rest) = e.Chain level x (e.more_links token s y rest)

abbrev Split : (level next d at : ℕ) (x : ExprTree) → Type 0
Split level next d at x = (p : ExprTree × LinkList) × (x ≡ chain_tree level p.0 p.1) × (sequence_rule (expression next d) (λ v. chain_links level d)).Is at p

split-here : (level next d at : ℕ) (x : ExprTree) (ls : LinkList) → next ≡ level + 3 → IsExpr (level + 2) d at (e.Chain level x ls)
    → Split level next d at (e.Chain level x ls)
split-here level next d at x e.no_links n is = absurd is.shaped.4
split-here level next d at x (e.more_links token s y rest) n is =
    let ranks = is.shaped.2 in
    let nests = is.nests in (
      (x, e.more_links token s y rest),
      refl,
      (
        record { ranks = omega arith; shaped = is.shaped.3; nests = omega arith; placed = is.placed.0 },
        record { shaped = is.shaped.5; nests = omega arith; placed = is.placed.1 },
      ),
    )

-- a part of a chain's rank is an operand of the next rank, or a chain of this level
chain-split : (level next d at : ℕ) (x : ExprTree) → 1 ≤ level → level ≤ 10 → next ≡ level + 3 → IsExpr (level + 2) d at x → Split level next d at x
chain-split level next d at (e.Chain l x ls) low high n is =
    elim (cases_lt level l) [
      | inl below ↦ (
        (e.Chain l x ls, e.no_links),
        refl,
        (
          record { ranks = omega arith; shaped = is.shaped; nests = is.nests; placed = is.placed },
          record { shaped = tt; nests = omega arith; placed = tt },
        ),
      )
      | inr above ↦
          (let r = is.ranks in
          let same : level ≡ l = omega arith in
          subst (λ (m : ℕ). IsExpr (level + 2) d at (e.Chain m x ls) → Split level next d at (e.Chain m x ls)) same
          (λ here. split-here level next d at x ls n here) is)
    ]
chain-split level next d at (e.Comma token xs) low high n is = let r = is.ranks in absurd (omega arith)
chain-split level next d at (e.Assign token s x y) low high n is = let r = is.ranks in absurd (omega arith)
chain-split level next d at (e.Conditional token x y z) low high n is = let r = is.ranks in absurd (omega arith)
chain-split level next d at x low high n is = (
  (x, e.no_links),
  refl,
  (
    record { ranks = omega arith; shaped = is.shaped; nests = is.nests; placed = is.placed },
    record { shaped = tt; nests = omega arith; placed = tt },
  ),
)

chain-build : (level next d at : ℕ) (x : ExprTree) (ls : LinkList) → 1 ≤ level → level ≤ 10 → next ≡ level + 3 → IsExpr next d at x
    → AreLinks level d (at + length (expr_kinds x)) ls → IsExpr (level + 2) d at (chain_tree level x ls)
chain-build level next d at x e.no_links low high n is are =
    let r = is.ranks in record { ranks = omega arith; shaped = is.shaped; nests = is.nests; placed = is.placed }
chain-build level next d at x (e.more_links token s y rest) low high n is are =
    let r = is.ranks in
    let n1 = is.nests in
    let n2 = are.nests in
    record { ranks = omega arith; shaped = (low, high, omega arith, is.shaped, tt, are.shaped); nests = omega arith; placed = (is.placed, are.placed) }

chain-spelled : (level : ℕ) (x : ExprTree) (ls : LinkList) → expr_kinds (chain_tree level x ls) ≡ expr_kinds x ++ link_kinds ls
chain-spelled level x e.no_links = sym (append-nil (expr_kinds x))
chain-spelled level x (e.more_links token s y rest) = refl

chain-leads : (level next d : ℕ) (c : Cursor) → 1 ≤ level → level ≤ 10 → next ≡ level + 3
    → Leads (expression (level + 2) d) (sequence_rule (expression next d) (λ v. chain_links level d)) c c (λ p. chain_tree level p.0 p.1)
chain-leads level next d c low high n =
    leads-here (expression (level + 2) d) (sequence_rule (expression next d) (λ v. chain_links level d)) c (λ p. chain_tree level p.0 p.1)
    (λ p is. chain-build level next d c.at p.0 p.1 low high n is.0 is.1) (λ p. chain-spelled level p.0 p.1)
    (λ x k last is ends le same. (let b : Split level next d c.at x = chain-split level next d c.at x low high n is in (b.0, b.1, b.2, ends)))

links-follow : (level next d : ℕ) → 1 ≤ level → next ≡ level + 3 → (at : ℕ) (v : ExprTree) (ls : LinkList) (k : Kinds) → IsExpr next d at v
    → AreLinks level d (at + length (expr_kinds v)) ls → EndsAt (level + 2) k → EndsAt next (link_kinds ls ++ k)
links-follow level next d low n at v ls k v_is are ends =
    let by = (links-end level d (at + length (expr_kinds v)) ls k low are ends).by in record { by = omega arith }

-- the sign that a level has
pub sign-level : (level : ℕ) (o : Option Sign) (s : Sign) → level_sign_of level o ≡ Some s → (o ≡ Some s) × (level_of s ≡ level)
sign-level level None s h = cc
sign-level level (Some t) s h = elim (cases_Bool (level_of t == level)) [
  | inl y ↦ (let e : level_sign_of level (Some t) ≡ Some t = rw y refl in let same : Some t ≡ Some s = sym e ∙ h in let one : t ≡ s = cc in
      (same, (let l : level_of t ≡ level = grind arith in ap level_of (sym one) ∙ l)))
  | inr f ↦ (let e : level_sign_of level (Some t) ≡ None = rw f refl in let n : None ≡ Some s = sym e ∙ h in cc)
]

level-sign : (level : ℕ) (o : Option Sign) (s : Sign) → o ≡ Some s → level_of s ≡ level → level_sign_of level o ≡ None → ⊥
level-sign level o s h l none =
    let y : (level_of s == level) ≡ true = grind arith in
    let e : level_sign_of level (Some s) ≡ Some s = rw y refl in
    let both : Some s ≡ None = sym e ∙ sym (ap (level_sign_of level) h) ∙ none in cc

no-links : (level d : ℕ) (c : Cursor) → level_sign_of level (sign_at c.rest) ≡ None → (ls : LinkList) (k : Kinds) (last : ℕ) → AreLinks level d c.at ls
    → SameUpTo last c.at c.rest (link_kinds ls ++ k) → ls ≡ e.no_links
no-links level d c none e.no_links k last are same = refl
no-links level d c none (e.more_links token s x rest) k last are same =
    absurd (level-sign level (sign_at c.rest) s (same-sign last c.at c.rest _ s same) are.shaped.0 none)

-- where no operator of the level stands, there are no links
links-done : (level d : ℕ) (c : Cursor) → level_sign_of level (sign_at c.rest) ≡ None → Found (chain_links level d) c e.no_links c
links-done level d c none = record {
  is = record { shaped = tt; nests = omega arith; placed = tt };
  spelled = refl;
  moved = (let e : c.at ≡ c.at + length {A = TokenKind} [] = omega arith in e);
  only = λ ls k last are ends le same. no-links level d c none ls k last are same;
}

head-binds : (last at : ℕ) (s : Sign) (xs k : Kinds) (r : ℕ) → SameUpTo last at (kind.Punctuator s ∷ xs) k → sign_binds s ≡ r + 1 → EndsAt r k → ⊥
head-binds last at s xs [] r same h ends = same
head-binds last at s xs (y ∷ ys) r same h ends =
    let b : sign_binds s ≡ kind_binds y = ap kind_binds same.0 in
    let by = ends.by in
    omega arith

link-back : (level next d at last : ℕ) (s : Sign) (ks k : Kinds) (ls : LinkList) → 1 ≤ level → next ≡ level + 3 → level_of s ≡ level → AreLinks level d at ls
    → EndsAt (level + 2) k
    → SameUpTo last at (kind.Punctuator s ∷ ks) (link_kinds ls ++ k)
    → (p : ExprTree × LinkList) × (ls ≡ e.more_links at s p.0 p.1) × (sequence_rule (expression next d) (λ v. chain_links level d)).Is (at + 1) p
link-back level next d at last s ks k e.no_links low n of are ends same =
    absurd (head-binds last at s ks k (level + 2) same (let b = level-binds s level low of in omega arith) ends)
link-back level next d at last s ks k (e.more_links token t y rest) low n of are ends same =
    let one : kind.Punctuator s ≡ kind.Punctuator t = same.0 in
    let nests = are.nests in
    let r = are.shaped.1 in
    let here : token ≡ at = are.placed.0 in (
      (y, rest),
      (let s_t : t ≡ s = cc in cc),
      (
        record { ranks = omega arith; shaped = are.shaped.2; nests = omega arith; placed = are.placed.1 },
        record { shaped = are.shaped.3; nests = omega arith; placed = are.placed.2 },
      ),
    )

link-leads : (level next d : ℕ) (c : Cursor) (s : Sign) → 1 ≤ level → next ≡ level + 3 → sign_at c.rest ≡ Some s → level_of s ≡ level
    → Leads (chain_links level d) (sequence_rule (expression next d) (λ v. chain_links level d)) c (next_cursor c) (λ p. e.more_links c.at s p.0 p.1)
link-leads level next d c s low n at_s of =
    let whole : c.rest ≡ kind.Punctuator s ∷ kinds_behind_first c.rest = sign-head c.rest s at_s in
    record {
      front = a_sign s;
      whole = whole;
      moved = refl;
      build = λ p is. (let n0 = is.0.nests in let n1 = is.1.nests in let r = is.0.ranks in
          record { shaped = (of, omega arith, is.0.shaped, is.1.shaped); nests = omega arith; placed = (refl, is.0.placed, is.1.placed) });
      spelled = λ p. refl;
      back = λ ls k last are ends le same.
          (let b = link-back level next d c.at last s (kinds_behind_first c.rest) k ls low n of are ends
          (subst (λ (v : Kinds). SameUpTo last c.at v (link_kinds ls ++ k)) whole same) in
          (b.0, b.1, b.2, ends));
    }

link-parses : (level next d : ℕ) (operand : Cursor → Read ExprTree) → ((c : Cursor) → Outcome (expression next d) c (operand c)) → (c : Cursor) (s : Sign)
    → 1 ≤ level → next ≡ level + 3 → sign_at c.rest ≡ Some s → level_of s ≡ level
    → StepIs (chain_links level d) (λ f. f) e.no_links c (Some (link_by operand s c))
unfolding link_by
link-parses level next d operand o c s low n at_s of =
    link-part (chain_links level d) (expression next d) c (next_cursor c) (λ f. f) e.no_links (e.more_links c.at s) (operand (next_cursor c))
    (links-follow level next d low n)
    (link-leads level next d c s low n at_s of) (behind-shorter c.rest s at_s) (o (next_cursor c))

step-of : (level next d : ℕ) (operand : Cursor → Read ExprTree) → ((c : Cursor) → Outcome (expression next d) c (operand c)) → (c : Cursor) (o : Option Sign)
    → 1 ≤ level → next ≡ level + 3 → level_sign_of level (sign_at c.rest) ≡ o
    → StepIs (chain_links level d) (λ f. f) e.no_links c (step_of (λ s. link_by operand s c) o)
step-of level next d operand o c None low n h = links-done level d c h
step-of level next d operand o c (Some s) low n h =
    let both = sign-level level (sign_at c.rest) s h in link-parses level next d operand o c s low n both.0 both.1

pub link-listing : (level next d : ℕ) (operand : Cursor → Read ExprTree) → ((c : Cursor) → Outcome (expression next d) c (operand c)) → 1 ≤ level
    → next ≡ level + 3 → Listing (chain_links level d) (link_step operand level) (λ f. f) e.no_links
unfolding link_step level_sign
link-listing level next d operand o low n = record { is = λ c. step-of level next d operand o c (level_sign_of level (sign_at c.rest)) low n refl }

put-links : (fs : List (LinkList → LinkList)) → put (λ (f : LinkList → LinkList). f) fs e.no_links ≡ link_list fs
put-links [] = refl
put-links (f ∷ fs) = ap f (put-links fs)

some-links : (level : ℕ) (x : ExprTree) (ls : LinkList) → 1 ≤ length (link_kinds ls) → chain_tree level x ls ≡ e.Chain level x ls
some-links level x e.no_links h = absurd (omega arith)
some-links level x (e.more_links t s y rest) h = refl

pub step-none : (operand : Cursor → Read ExprTree) (level : ℕ) (c : Cursor) → level_sign level c.rest ≡ None → link_step operand level c ≡ None
unfolding link_step
step-none operand level c h = ap (step_of (λ s. link_by operand s c)) h

pub step-some : (operand : Cursor → Read ExprTree) (level : ℕ) (c : Cursor) (s : Sign) → level_sign level c.rest ≡ Some s
    → link_step operand level c ≡ Some (link_by operand s c)
unfolding link_step
step-some operand level c s h = ap (step_of (λ t. link_by operand t c)) h

links-parse : (level next d : ℕ) (operand : Cursor → Read ExprTree) → ((c : Cursor) → Outcome (expression next d) c (operand c)) → 1 ≤ level
    → next ≡ level + 3 → (c mid : Cursor) (x : ExprTree) (s : Sign)
    → Leads (expression (level + 2) d) (chain_links level d) c mid (chain_tree level x) → level_sign level mid.rest ≡ Some s
    → Outcome (expression (level + 2) d) c (links_by operand level x mid)
unfolding links_by
links-parse level next d operand o low n c mid x s l h =
    list-parses (expression (level + 2) d) (chain_links level d) (link_step operand level) c mid (chain_tree level x) (e.Chain level x)
    (λ f. f) e.no_links link_list (link_by operand s mid)
    (link-listing level next d operand o low n) l (some-links level x) put-links (step-some operand level mid s h)

linked-of : (level next d : ℕ) (operand : Cursor → Read ExprTree) → ((c : Cursor) → Outcome (expression next d) c (operand c)) → 1 ≤ level → next ≡ level + 3
    → (c mid : Cursor) (x : ExprTree) (s : Option Sign)
    → Leads (expression (level + 2) d) (chain_links level d) c mid (chain_tree level x) → level_sign level mid.rest ≡ s
    → Outcome (expression (level + 2) d) c (if_some s (Ok (x, mid)) (links_by operand level x mid))
linked-of level next d operand o low n c mid x None l h =
    list-none (expression (level + 2) d) (chain_links level d) (link_step operand level) c mid (chain_tree level x) (λ f. f) e.no_links
    (link-listing level next d operand o low n) l (step-none operand level mid h)
linked-of level next d operand o low n c mid x (Some s) l h = links-parse level next d operand o low n c mid x s l h

level-parses : (level next d : ℕ) (operand : Cursor → Read ExprTree) → ((c : Cursor) → Outcome (expression next d) c (operand c)) → 1 ≤ level → level ≤ 10
    → next ≡ level + 3 → (c : Cursor) → Outcome (expression (level + 2) d) c (level_by operand level c)
unfolding level_by linked_by
level-parses level next d operand o low high n c =
    part (expression (level + 2) d) (expression next d) (λ v. chain_links level d) c c (λ p. chain_tree level p.0 p.1) (operand c)
    (λ x. linked_by operand level x.0 x.1) (links-follow level next d low n) (chain-leads level next d c low high n) (o c)
    (λ x to found l. linked-of level next d operand o low n c to x (level_sign level to.rest) l refl)

pub chain-parses : (n d : ℕ) (operand : Cursor → Read ExprTree) → n ≤ 10 → ((c : Cursor) → Outcome (expression 13 d) c (operand c)) → (c : Cursor)
    → Outcome (expression (13 - n) d) c (chain_by n operand c)
unfolding chain_by
chain-parses zero d operand le o c = o c
chain-parses (suc n) d operand le o c =
    let r : 10 - n + 2 ≡ 13 - suc n = omega arith in
    subst (λ (m : ℕ). Outcome (expression m d) c (level_by (chain_by n operand) (10 - n) c)) r
    (level-parses (10 - n) (13 - n) d (chain_by n operand) (chain-parses n d operand (omega arith) o) (omega arith) (omega arith) (omega arith) c)
