-- An expression that fits without sites fits with those that look at its new values.
use Rattle.std.proofs.Common.{⊎_elim, ◌≡◌, ℕ, ◌≤◌, ◌<◌, refl, subst, arith, List, [], ◌∷◌, ◌++◌, Some, None, ◌+◌, Bool, true, false, length, length-append}
use Rattle.std.specs.Prelude.{Option}
use Rattle.std.specs.List.{AllByRecursion}
use Rattle.base_lists.proofs.Every.{all_so}
use Rattle.c_syntax.specs.declared.token.Sign.{Sign}
use Rattle.c_syntax.specs.declared.token.Sign.TheVariants as sign
use Rattle.c_syntax.specs.declared.expr.PrefixOperator.{PrefixOperator}
use Rattle.c_syntax.specs.declared.expr.PrefixOperator.TheVariants as prefix
use Rattle.c_syntax.specs.Words.{SourceTree, ExprTree, ExprList, LinkList, PostfixList, ExprAt, ExprsAt, LinksAt, PostfixAt, a_name, a_sign, expr_kinds}
use Rattle.c_syntax.specs.Words.{exprs_kinds, link_kinds, more_exprs_kinds, parenthesized_kinds, postfix_kinds, prefix_kinds, type_kinds}
use Rattle.c_syntax.specs.ExprTree as e
use Rattle.c_types_rules.specs.declared.library.Library.TheVariants as library
use Rattle.c_types_expressions.specs.declared.walk.Walk.{Walk}
use Rattle.c_types.specs.Answers.{declared_at, type_at}
use Rattle.flow.specs.declared.site.BranchWord.{BranchWord}
use Rattle.flow.specs.declared.site.BranchWord.TheVariants.{Question}
use Rattle.flow.specs.declared.site.Slot.{Slot}
use Rattle.c_meaning.specs.declared.value_type.Called.{Called}
use Rattle.c_meaning.specs.declared.value_type.Called.TheVariants as called
use Rattle.c_meaning.specs.declared.value_type.ValueType.{ValueType}
use Rattle.c_meaning.specs.Words.{Signature, Sites, facts_of, assignment_of_sign, called_as, type_of}
use Rattle.c_meaning_laws.specs.Rules.{IsScalar}
use Rattle.c_meaning_laws.specs.Typed.{CallsFunction, PairsFit, Steps, Typed, TypedArguments, TypedCall, TypedLast, TypedLinks, TypedLone, TypedPostfix, variable_named}
use Rattle.c_meaning_sound.proofs.Covering.{Covers, Has, Shows, assigns_scalar, has_either, has_first, has_second, has_slot, has_within, narrow, pairs_none}
use Rattle.c_meaning_sound.proofs.Covering.{target_fits}
use Rattle.c_meaning_sound.proofs.Parting.{infix_long}
use Rattle.c_meaning_sound.proofs.Noting.{facts, none}
use Rattle.sites.specs.declared.spots.Spot.{Spot}
use Rattle.sites.specs.declared.spots.Spot.TheVariants as spot
use Rattle.sites.specs.Spots.{branch_spots, change_spots, expr_spots, exprs_spots, joined_spots, branch_of_sign, links_spots, named_token, postfix_spots}
use Rattle.sites.proofs.Rises.{Rises, join, len3, len4, len5, paren-length, rises-branch, rises-changed, rises-expr, rises-exprs}

-- each expression of a list ends there
abbrev pub ExprsEnd : ℕ → ExprList → ℕ → Type 0
ExprsEnd at e.no_exprs hi = Unit {0}
ExprsEnd at (e.more_exprs x rest) hi = (at + length (expr_kinds x) ≤ hi) × ExprsEnd (at + length (expr_kinds x) + 1) rest hi

more_end : (at hi : ℕ) (xs : ExprList) → at + length (more_exprs_kinds xs) ≤ hi → ExprsEnd (at + 1) xs hi
more_end at hi e.no_exprs h = tt
more_end at hi (e.more_exprs x rest) h =
    let long : length (more_exprs_kinds (e.more_exprs x rest)) ≡ 1 + length (expr_kinds x) + length (more_exprs_kinds rest) =
    len3 (a_sign sign.Comma) (expr_kinds x) (more_exprs_kinds rest) in
    (omega (arith, h, long), more_end (at + 1 + length (expr_kinds x)) hi rest (omega (arith, h, long)))

pub exprs_end : (at hi : ℕ) (xs : ExprList) → at + length (exprs_kinds xs) ≤ hi → ExprsEnd at xs hi
exprs_end at hi e.no_exprs h = tt
exprs_end at hi (e.more_exprs x rest) h =
    let long : length (exprs_kinds (e.more_exprs x rest)) ≡ length (expr_kinds x) + length (more_exprs_kinds rest) =
    length-append (expr_kinds x) (more_exprs_kinds rest) in
    (omega (arith, h, long), more_end (at + length (expr_kinds x)) hi rest (omega (arith, h, long)))

-- `&&` and `||` give nothing a new value
branched_none : (P : ℕ → Type 0) (token own : ℕ) (word : Option BranchWord) → Has P token (branch_spots own word) → ⊥
branched_none P token own None h = h
branched_none P token own (Some word) h = h

joined_none : (P : ℕ → Type 0) (token own : ℕ) (o : Sign) → Has P token (joined_spots own o) → ⊥
joined_none P token own o h = branched_none P token own (branch_of_sign o) h

rises_links : (at : ℕ) (links : LinkList) → LinksAt at links → Rises at (at + length (link_kinds links)) (links_spots links)
rises_links at links p = rises-expr at (e.Chain 0 (e.Strings at []) links) (refl, subst (λ n. LinksAt n links) (omega arith) p)

rises_postfix : (at : ℕ) (rest : PostfixList) → PostfixAt at rest → Rises at (at + length (postfix_kinds rest)) (postfix_spots None rest)
rises_postfix at rest p = rises-expr at (e.Postfix (e.Strings at []) rest) (refl, subst (λ n. PostfixAt n rest) (omega arith) p)

module _ (tree : SourceTree) (z : Walk) (s : Sites) (c : ℕ) where
  abbrev Had : ExprTree → Type 0
  Had x = Typed (facts tree z) none c x

  abbrev pub Lifted : ExprTree → Type 0
  Lifted x = Typed (facts_of tree z) s c x

  pub exprs_first : (x : ExprTree) (rest : ExprList) (at hi : ℕ) → ExprsAt at (e.more_exprs x rest) → ExprsEnd at (e.more_exprs x rest) hi
      → Covers tree z s at hi (exprs_spots (e.more_exprs x rest)) → Covers tree z s at (at + length (expr_kinds x)) (expr_spots x)
  exprs_first x rest at hi p b k = narrow tree z s at hi at (at + length (expr_kinds x)) (exprs_spots (e.more_exprs x rest)) (expr_spots x) k (omega arith) b.0
      (λ P token l h q. has_first P token (at + length (expr_kinds x) + 1) (at + length (expr_kinds x) + 1 + length (exprs_kinds rest)) (expr_spots x)
      (exprs_spots rest)
      (rises-exprs (at + length (expr_kinds x) + 1) rest p.1) (omega (arith, h)) q)

  pub exprs_rest : (x : ExprTree) (rest : ExprList) (at hi : ℕ) → ExprsAt at (e.more_exprs x rest)
      → Covers tree z s at hi (exprs_spots (e.more_exprs x rest)) → Covers tree z s (at + length (expr_kinds x) + 1) hi (exprs_spots rest)
  exprs_rest x rest at hi p k = narrow tree z s at hi (at + length (expr_kinds x) + 1) hi (exprs_spots (e.more_exprs x rest)) (exprs_spots rest) k
      (omega arith) (omega arith)
      (λ P token l h q. has_second P token at (at + length (expr_kinds x)) (expr_spots x) (exprs_spots rest) (rises-expr at x p.0) (omega (arith, l)) q)

  -- the sites at a token itself
  here : (lo hi token : ℕ) (xs ys : List Spot) → Covers tree z s lo hi xs → lo ≤ token → token < hi
      → ((P : ℕ → Type 0) → Has P token xs → Has P token ys) → AllByRecursion (λ n. Has (λ target. Shows tree z s target n) token ys) (s.pairs_at token)
  here lo hi token xs ys k l h f = all_so (λ n. Has (λ target. Shows tree z s target n) token xs) (λ n. Has (λ target. Shows tree z s target n) token ys)
      (s.pairs_at token)
      (λ n q. f (λ target. Shows tree z s target n) q) (k token l h)

  steps_lift : (is_up : Bool) (token : ℕ) (u v : Option Slot) (of : Option ValueType)
      → (IsScalar of → PairsFit s v of (s.pairs_at token)) → Steps (facts tree z) none is_up token u of → Steps (facts_of tree z) s is_up token v of
  steps_lift is_up token u v of f h = (h.0, f h.0.0, h.2)

  function_lift : (o : Option Signature) (A B : List ValueType → Type 0) (of : Option ValueType) → ((types : List ValueType) → A types → B types)
      → CallsFunction o A of → CallsFunction o B of
  function_lift None A B of f h = h
  function_lift (Some g) A B of f h = (f g.params h.0, h.1)

  calls_lift : (k : Called) (A B : List ValueType → Type 0) (O Q : Type 0) (of : Option ValueType) → ((types : List ValueType) → A types → B types) → (O → Q)
      → TypedCall (facts tree z) none c k A O of → TypedCall (facts_of tree z) s c k B Q of
  calls_lift (called.Function number) A B O Q of f g h = function_lift ((facts_of tree z).signature number) A B of f h
  calls_lift (called.Library library.Getchar) A B O Q of f g h = (f [] h.0, h.1)
  calls_lift (called.Library library.Assert) A B O Q of f g h = (g h.0, h.1)
  calls_lift (called.Library library.Printf) A B O Q of f g h = h
  calls_lift called.Unknown A B O Q of f g h = h
  calls_lift k A B O Q of f g h = (f _ h.0, h.1)

  -- what may stand at the new values of a named variable, if one is named
  abbrev Fits : Option Slot → Option ℕ → Option ValueType → Type 0
  Fits v target of = (token : ℕ) (ns : List ℕ) → IsScalar of → AllByRecursion (λ n. Has (λ q. Shows tree z s q n) token (change_spots token target)) ns
      → PairsFit s v of ns

  none_fits : (of : Option ValueType) → Fits None None of
  none_fits of token ns k q = pairs_none tree z s None of token ns q

  -- behind an operator
  one_behind : (o : PrefixOperator) (token : ℕ) (x : ExprTree) (at : ℕ) (xs : List Spot) → ((P : ℕ → Type 0) (q : ℕ) → Has P q xs → Has P q (expr_spots x))
      → Covers tree z s at (at + length (expr_kinds (e.Prefix token o x))) xs → Covers tree z s (at + 1) (at + 1 + length (expr_kinds x)) (expr_spots x)
  one_behind o token x at xs f k = narrow tree z s at (at + length (expr_kinds (e.Prefix token o x))) (at + 1) (at + 1 + length (expr_kinds x)) xs
      (expr_spots x) k
      (omega arith) (omega (arith, length-append (prefix_kinds o) (expr_kinds x))) (λ P q l h w. f P q w)

  behind_step : (token : ℕ) (x : ExprTree) (at hi : ℕ) → token ≡ at → at + 1 + length (expr_kinds x) ≤ hi
      → Covers tree z s at hi (change_spots token (named_token x) ++ expr_spots x) → Covers tree z s (at + 1) (at + 1 + length (expr_kinds x)) (expr_spots x)
  behind_step token x at hi p l k = narrow tree z s at hi (at + 1) (at + 1 + length (expr_kinds x)) (change_spots token (named_token x) ++ expr_spots x) (expr_spots x) k
      (omega arith) l
      (λ P q a b w. has_second P q token (token + 1) (change_spots token (named_token x)) (expr_spots x) (rises-changed token (named_token x)) (omega (arith, a, p)) w)

  mutual
    pub lift : (x : ExprTree) (at : ℕ) → ExprAt at x → Covers tree z s at (at + length (expr_kinds x)) (expr_spots x) → Had x → Lifted x
    lift (e.Comma token operands) at p k h =
        lift_last operands ((facts_of tree z).type_at token) at (at + length (exprs_kinds operands)) p.1
        (exprs_end at (at + length (exprs_kinds operands)) operands (omega arith)) k h
    lift (e.Assign token o target value) at p k h =
        let lt : ℕ = length (expr_kinds target) in
        let lv : ℕ = length (expr_kinds value) in
        let long : length (expr_kinds (e.Assign token o target value)) ≡ lt + 1 + lv = infix_long (expr_kinds target) (expr_kinds value) o in
        let a : List Spot = expr_spots target in
        let m : List Spot = change_spots token (named_token target) in
        let b : List Spot = expr_spots value in
        let ra : Rises at (at + lt) a = rises-expr at target p.1 in
        let rm : Rises token (token + 1) m = rises-changed token (named_token target) in
        let rb : Rises (token + 1) (token + 1 + lv) b = rises-expr (token + 1) value p.2 in
        let ram : Rises at (token + 1) (a ++ m) = join at (at + lt) token (token + 1) a m (omega (arith, p.0)) ra rm in
        let hi : ℕ = at + length (expr_kinds (e.Assign token o target value)) in (
          lift target at p.1 (narrow tree z s at hi at (at + lt) (a ++ m ++ b) a k (omega arith) (omega (arith, long))
              (λ P q x y w. has_first P q token (token + 1) a m rm (omega (arith, y, p.0))
              (has_first P q (token + 1) (token + 1 + lv) (a ++ m) b rb (omega (arith, y, p.0)) w))) h.0,
          lift value (token + 1) p.2 (narrow tree z s at hi (token + 1) (token + 1 + lv) (a ++ m ++ b) b k (omega (arith, p.0)) (omega (arith, p.0, long))
              (λ P q x y w. has_second P q at (token + 1) (a ++ m) b ram (omega (arith, x)) w)) h.1,
          h.2,
          h.3,
          h.4,
          target_fits tree z s c target token (s.pairs_at token) h.0 (assigns_scalar tree z s c (assignment_of_sign o) (type_of (facts tree z) target) value h.3)
              (here at hi token (a ++ m ++ b) m k (omega (arith, p.0)) (omega (arith, p.0, long))
              (λ P w. has_second P token at (at + lt) a m ra (omega (arith, p.0))
              (has_first P token (token + 1) (token + 1 + lv) (a ++ m) b rb (omega arith) w))),
        )
    lift (e.Conditional token condition first second) at p k h =
        let lc : ℕ = length (expr_kinds condition) in
        let lf : ℕ = length (expr_kinds first) in
        let ls : ℕ = length (expr_kinds second) in
        let long : length (expr_kinds (e.Conditional token condition first second)) ≡ lc + 1 + lf + 1 + ls =
        len5 (expr_kinds condition) (a_sign sign.Question) (expr_kinds first) (a_sign sign.Colon) (expr_kinds second) in
        let a : List Spot = expr_spots condition in
        let b : List Spot = spot.Branch token Question ∷ expr_spots first in
        let d : List Spot = expr_spots second in
        let ra : Rises at (at + lc) a = rises-expr at condition p.1 in
        let rb : Rises token (token + 1 + lf) b = join token (token + 1) (token + 1) (token + 1 + lf) (spot.Branch token Question ∷ []) (expr_spots first)
        (omega arith)
        (rises-branch token Question) (rises-expr (token + 1) first p.2) in
        let rd : Rises (token + 1 + lf + 1) (token + 1 + lf + 1 + ls) d = rises-expr (token + 1 + lf + 1) second p.3 in
        let rab : Rises at (token + 1 + lf) (a ++ b) = join at (at + lc) token (token + 1 + lf) a b (omega (arith, p.0)) ra rb in
        let hi : ℕ = at + length (expr_kinds (e.Conditional token condition first second)) in (
          lift condition at p.1 (narrow tree z s at hi at (at + lc) (a ++ b ++ d) a k (omega arith) (omega (arith, long))
              (λ P q x y w. has_first P q token (token + 1 + lf) a b rb (omega (arith, y, p.0))
              (has_first P q (token + 1 + lf + 1) (token + 1 + lf + 1 + ls) (a ++ b) d rd (omega (arith, y, p.0)) w))) h.0,
          lift first (token + 1) p.2
              (narrow tree z s at hi (token + 1) (token + 1 + lf) (a ++ b ++ d) (expr_spots first) k (omega (arith, p.0)) (omega (arith, p.0, long))
              (λ P q x y w. has_second P q at (at + lc) a b ra (omega (arith, x, p.0))
              (has_first P q (token + 1 + lf + 1) (token + 1 + lf + 1 + ls) (a ++ b) d rd (omega (arith, y)) w))) h.1,
          lift second (token + 1 + lf + 1) p.3 (narrow tree z s at hi (token + 1 + lf + 1) (token + 1 + lf + 1 + ls) (a ++ b ++ d) d k (omega (arith, p.0))
              (omega (arith, p.0, long)) (λ P q x y w. has_second P q at (token + 1 + lf) (a ++ b) d rab (omega (arith, x)) w)) h.2,
          h.3,
          h.4,
          h.5,
        )
    lift (e.Chain level first links) at p k h =
        let lf : ℕ = length (expr_kinds first) in
        let ll : ℕ = length (link_kinds links) in
        let long : length (expr_kinds (e.Chain level first links)) ≡ lf + ll = length-append (expr_kinds first) (link_kinds links) in
        let hi : ℕ = at + length (expr_kinds (e.Chain level first links)) in (
          lift first at p.0 (narrow tree z s at hi at (at + lf) (expr_spots first ++ links_spots links) (expr_spots first) k (omega arith) (omega (arith, long))
              (λ P q x y w. has_first P q (at + lf) (at + lf + ll) (expr_spots first) (links_spots links) (rises_links (at + lf) links p.1) y w)) h.0,
          h.1,
          lift_links links (at + lf) _ p.1
              (narrow tree z s at hi (at + lf) (at + lf + ll) (expr_spots first ++ links_spots links) (links_spots links) k (omega arith)
              (omega (arith, long)) (λ P q x y w. has_second P q at (at + lf) (expr_spots first) (links_spots links) (rises-expr at first p.0) x w)) h.2,
        )
    lift (e.Cast token b stars operand) at p k h =
        let from : ℕ = at + 1 + length (type_kinds b stars) + 1 in
        let long : length (expr_kinds (e.Cast token b stars operand)) ≡ length (parenthesized_kinds (type_kinds b stars)) + length (expr_kinds operand) =
        length-append (parenthesized_kinds (type_kinds b stars)) (expr_kinds operand) in (
          lift operand from p.2 (narrow tree z s at (at + length (expr_kinds (e.Cast token b stars operand))) from (from + length (expr_kinds operand))
              (expr_spots operand)
              (expr_spots operand) k (omega arith) (omega (arith, long, paren-length (type_kinds b stars))) (λ P q x y w. w)) h.0,
          h.1,
        )
    lift (e.Prefix token prefix.Increment x) at p k h =
        let r : Rises (at + 1) (at + 1 + length (expr_kinds x)) (expr_spots x) = rises-expr (at + 1) x p.1 in
        let m : List Spot = change_spots token (named_token x) in
        let hi : ℕ = at + length (expr_kinds (e.Prefix token prefix.Increment x)) in
        let long : length (expr_kinds (e.Prefix token prefix.Increment x)) ≡ 1 + length (expr_kinds x) = length-append (prefix_kinds prefix.Increment)
        (expr_kinds x) in (
          lift x (at + 1) p.1 (behind_step token x at hi p.0 (omega (arith, long)) k) h.0,
          (
            h.1.0,
            steps_lift true token (variable_named (facts tree z) x) (variable_named (facts_of tree z) x) (type_of (facts_of tree z) x)
                (λ q. target_fits tree z s c x token (s.pairs_at token) h.0 q
                (here at hi token (m ++ expr_spots x) m k (omega (arith, p.0)) (omega (arith, p.0, long))
                (λ P w. has_first P token (at + 1) (at + 1 + length (expr_kinds x)) m (expr_spots x) r (omega (arith, p.0)) w))) h.1.1,
          ),
        )
    lift (e.Prefix token prefix.Decrement x) at p k h =
        let r : Rises (at + 1) (at + 1 + length (expr_kinds x)) (expr_spots x) = rises-expr (at + 1) x p.1 in
        let m : List Spot = change_spots token (named_token x) in
        let hi : ℕ = at + length (expr_kinds (e.Prefix token prefix.Decrement x)) in
        let long : length (expr_kinds (e.Prefix token prefix.Decrement x)) ≡ 1 + length (expr_kinds x) = length-append (prefix_kinds prefix.Decrement)
        (expr_kinds x) in (
          lift x (at + 1) p.1 (behind_step token x at hi p.0 (omega (arith, long)) k) h.0,
          (
            h.1.0,
            steps_lift false token (variable_named (facts tree z) x) (variable_named (facts_of tree z) x) (type_of (facts_of tree z) x)
                (λ q. target_fits tree z s c x token (s.pairs_at token) h.0 q
                (here at hi token (m ++ expr_spots x) m k (omega (arith, p.0)) (omega (arith, p.0, long))
                (λ P w. has_first P token (at + 1) (at + 1 + length (expr_kinds x)) m (expr_spots x) r (omega (arith, p.0)) w))) h.1.1,
          ),
        )
    lift (e.Prefix token prefix.SizeOf x) at p k h = (lift x (at + 1) p.1 (one_behind prefix.SizeOf token x at [] (λ P q w. absurd w) k) h.0, h.1)
    lift (e.Prefix token prefix.Address x) at p k h = (lift x (at + 1) p.1 (one_behind prefix.Address token x at (expr_spots x) (λ P q w. w) k) h.0, h.1)
    lift (e.Prefix token prefix.Indirection x) at p k h =
        (lift x (at + 1) p.1 (one_behind prefix.Indirection token x at (expr_spots x) (λ P q w. w) k) h.0, h.1)
    lift (e.Prefix token prefix.Plus x) at p k h = (lift x (at + 1) p.1 (one_behind prefix.Plus token x at (expr_spots x) (λ P q w. w) k) h.0, h.1)
    lift (e.Prefix token prefix.Minus x) at p k h = (lift x (at + 1) p.1 (one_behind prefix.Minus token x at (expr_spots x) (λ P q w. w) k) h.0, h.1)
    lift (e.Prefix token prefix.Complement x) at p k h = (lift x (at + 1) p.1 (one_behind prefix.Complement token x at (expr_spots x) (λ P q w. w) k) h.0, h.1)
    lift (e.Prefix token prefix.Not x) at p k h = (lift x (at + 1) p.1 (one_behind prefix.Not token x at (expr_spots x) (λ P q w. w) k) h.0, h.1)
    lift (e.SizeOfType token b stars) at p k h = h
    lift (e.Postfix (e.Name own name) operators) at p k h = (
      (h.0.0, has_slot tree z s c (type_at z own) (declared_at z own) _ h.0.1),
      lift_postfix operators (at + 1) _ (variable_named (facts tree z) (e.Name own name)) (variable_named (facts_of tree z) (e.Name own name)) (Some own)
          (type_of (facts_of tree z) (e.Name own name)) p.1
          (narrow tree z s at (at + length (expr_kinds (e.Postfix (e.Name own name) operators))) (at + 1) (at + 1 + length (postfix_kinds operators))
          (postfix_spots (Some own) operators) (postfix_spots (Some own) operators) k (omega arith)
          (omega (arith, length-append (a_name name) (postfix_kinds operators))) (λ P q x y w. w))
          (λ token ns q w. target_fits tree z s c (e.Name own name) token ns h.0 q w) h.1,
    )
    lift (e.Postfix primary operators) at p k h =
        let lp : ℕ = length (expr_kinds primary) in
        let lo : ℕ = length (postfix_kinds operators) in
        let long : length (expr_kinds (e.Postfix primary operators)) ≡ lp + lo = length-append (expr_kinds primary) (postfix_kinds operators) in
        let hi : ℕ = at + length (expr_kinds (e.Postfix primary operators)) in (
          lift primary at p.0 (narrow tree z s at hi at (at + lp) (expr_spots primary ++ postfix_spots None operators) (expr_spots primary) k (omega arith)
              (omega (arith, long))
              (λ P q x y w. has_first P q (at + lp) (at + lp + lo) (expr_spots primary) (postfix_spots None operators)
              (rises_postfix (at + lp) operators p.1) y w)) h.0,
          lift_postfix operators (at + lp) _ (variable_named (facts tree z) primary) (variable_named (facts_of tree z) primary) None
              (type_of (facts_of tree z) primary) p.1
              (narrow tree z s at hi (at + lp) (at + lp + lo) (expr_spots primary ++ postfix_spots None operators) (postfix_spots None operators) k
              (omega arith)
              (omega (arith, long)) (λ P q x y w. has_second P q at (at + lp) (expr_spots primary) (postfix_spots None operators)
              (rises-expr at primary p.0) x w))
              (λ token ns q w. pairs_none tree z s (variable_named (facts_of tree z) primary) (type_of (facts_of tree z) primary) token ns w) h.1,
        )
    lift (e.Name token name) at p k h = (h.0, has_slot tree z s c (type_at z token) (declared_at z token) _ h.1)
    lift (e.Call token name arguments) at p k h =
        let long : length (expr_kinds (e.Call token name arguments)) ≡ 1 + length (parenthesized_kinds (exprs_kinds arguments)) =
        length-append (a_name name) (parenthesized_kinds (exprs_kinds arguments)) in
        let inner : Covers tree z s (at + 2) (at + 2 + length (exprs_kinds arguments)) (exprs_spots arguments) =
        narrow tree z s at (at + length (expr_kinds (e.Call token name arguments))) (at + 2) (at + 2 + length (exprs_kinds arguments)) (exprs_spots arguments)
        (exprs_spots arguments) k (omega arith) (omega (arith, long, paren-length (exprs_kinds arguments))) (λ P q x y w. w) in
        let ends : ExprsEnd (at + 2) arguments (at + 2 + length (exprs_kinds arguments)) = exprs_end (at + 2)
        (at + 2 + length (exprs_kinds arguments)) arguments (omega arith) in
        calls_lift (called_as ((facts_of tree z).function_at token) name) (λ types. TypedArguments (facts tree z) none c types arguments)
        (λ types. TypedArguments (facts_of tree z) s c types arguments) (TypedLone (facts tree z) none c arguments) (TypedLone (facts_of tree z) s c arguments)
        ((facts_of tree z).type_at token)
        (λ types q. lift_arguments types arguments (at + 2) (at + 2 + length (exprs_kinds arguments)) p.1 ends inner q)
        (λ q. lift_lone arguments (at + 2) (at + 2 + length (exprs_kinds arguments)) p.1 ends inner q) h
    lift (e.Constant token kind value) at p k h = h
    lift (e.Strings token parts) at p k h = h
    lift (e.Paren token inner) at p k h = (
      lift inner (at + 1) p.1 (narrow tree z s at (at + length (expr_kinds (e.Paren token inner))) (at + 1) (at + 1 + length (expr_kinds inner))
          (expr_spots inner)
          (expr_spots inner) k (omega arith) (omega (arith, paren-length (expr_kinds inner))) (λ P q x y w. w)) h.0,
      h.1,
    )
    lift (e.Null token) at p k h = h
    lift (e.EndOfFile token) at p k h = h

    lift_last : (xs : ExprList) (of : Option ValueType) (at hi : ℕ) → ExprsAt at xs → ExprsEnd at xs hi → Covers tree z s at hi (exprs_spots xs)
        → TypedLast (facts tree z) none c of xs → TypedLast (facts_of tree z) s c of xs
    lift_last e.no_exprs of at hi p b k h = h
    lift_last (e.more_exprs x e.no_exprs) of at hi p b k h = (lift x at p.0 (exprs_first x e.no_exprs at hi p b k) h.0, h.1)
    lift_last (e.more_exprs x (e.more_exprs y rest)) of at hi p b k h = (
      lift x at p.0 (exprs_first x (e.more_exprs y rest) at hi p b k) h.0,
      lift_last (e.more_exprs y rest) of (at + length (expr_kinds x) + 1) hi p.1 b.1 (exprs_rest x (e.more_exprs y rest) at hi p k) h.1,
    )

    pub lift_arguments : (types : List ValueType) (xs : ExprList) (at hi : ℕ) → ExprsAt at xs → ExprsEnd at xs hi → Covers tree z s at hi (exprs_spots xs)
        → TypedArguments (facts tree z) none c types xs → TypedArguments (facts_of tree z) s c types xs
    lift_arguments (t ∷ types) (e.more_exprs x rest) at hi p b k h = (
      lift x at p.0 (exprs_first x rest at hi p b k) h.0,
      h.1,
      lift_arguments types rest (at + length (expr_kinds x) + 1) hi p.1 b.1 (exprs_rest x rest at hi p k) h.2,
    )
    lift_arguments [] e.no_exprs at hi p b k h = h
    lift_arguments [] (e.more_exprs x rest) at hi p b k h = h
    lift_arguments (t ∷ types) e.no_exprs at hi p b k h = h

    lift_lone : (xs : ExprList) (at hi : ℕ) → ExprsAt at xs → ExprsEnd at xs hi → Covers tree z s at hi (exprs_spots xs)
        → TypedLone (facts tree z) none c xs → TypedLone (facts_of tree z) s c xs
    lift_lone e.no_exprs at hi p b k h = h
    lift_lone (e.more_exprs x e.no_exprs) at hi p b k h = (lift x at p.0 (exprs_first x e.no_exprs at hi p b k) h.0, h.1)
    lift_lone (e.more_exprs x (e.more_exprs y rest)) at hi p b k h = h

    lift_links : (links : LinkList) (at : ℕ) (left : Option ValueType) → LinksAt at links → Covers tree z s at (at + length (link_kinds links))
        (links_spots links)
        → TypedLinks (facts tree z) none c left links → TypedLinks (facts_of tree z) s c left links
    lift_links e.no_links at left p k h = h
    lift_links (e.more_links token o operand rest) at left p k h =
        let lo : ℕ = length (expr_kinds operand) in
        let lr : ℕ = length (link_kinds rest) in
        let long : length (link_kinds (e.more_links token o operand rest)) ≡ 1 + lo + lr = len3 (a_sign o) (expr_kinds operand) (link_kinds rest) in
        let j : List Spot = joined_spots token o in
        let a : List Spot = expr_spots operand in
        let b : List Spot = links_spots rest in
        let hi : ℕ = at + length (link_kinds (e.more_links token o operand rest)) in
        let ra : Rises (at + 1) (at + 1 + lo) a = rises-expr (at + 1) operand p.1 in
        let rb : Rises (at + 1 + lo) (at + 1 + lo + lr) b = rises_links (at + 1 + lo) rest p.2 in (
          lift operand (at + 1) p.1 (narrow tree z s at hi (at + 1) (at + 1 + lo) (j ++ a ++ b) a k (omega arith) (omega (arith, long))
              (λ P q x y w. ⊎_elim (λ u. absurd (joined_none P q token o u)) (λ u. u)
              (has_either P q j a (has_first P q (at + 1 + lo) (at + 1 + lo + lr) (j ++ a) b rb y w)))) h.0,
          h.1,
          h.2,
          lift_links rest (at + 1 + lo) _ p.2 (narrow tree z s at hi (at + 1 + lo) (at + 1 + lo + lr) (j ++ a ++ b) b k (omega arith) (omega (arith, long))
              (λ P q x y w. ⊎_elim (λ u. ⊎_elim (λ v. absurd (joined_none P q token o v))
              (λ v. absurd (omega (arith, x, (has_within P q (at + 1) (at + 1 + lo) a ra v).1))) (has_either P q j a u)) (λ u. u)
              (has_either P q (j ++ a) b w))) h.3,
        )

    lift_postfix : (rest : PostfixList) (at : ℕ) (known : Bool) (u v : Option Slot) (target : Option ℕ) (of : Option ValueType) → PostfixAt at rest
        → Covers tree z s at (at + length (postfix_kinds rest)) (postfix_spots target rest) → Fits v target of
        → TypedPostfix (facts tree z) none c known u of rest → TypedPostfix (facts_of tree z) s c known v of rest
    lift_postfix e.no_postfix at known u v target of p k f h = h
    lift_postfix (e.index token x rest) at known u v target of p k f h =
        let lx : ℕ = length (expr_kinds x) in
        let lr : ℕ = length (postfix_kinds rest) in
        let long : length (postfix_kinds (e.index token x rest)) ≡ 1 + lx + 1 + lr =
        len4 (a_sign sign.LeftBracket) (expr_kinds x) (a_sign sign.RightBracket) (postfix_kinds rest) in
        let hi : ℕ = at + length (postfix_kinds (e.index token x rest)) in (
          lift x (at + 1) p.1 (narrow tree z s at hi (at + 1) (at + 1 + lx) (expr_spots x ++ postfix_spots None rest) (expr_spots x) k (omega arith)
              (omega (arith, long))
              (λ P q y w r. has_first P q (at + 1 + lx + 1) (at + 1 + lx + 1 + lr) (expr_spots x) (postfix_spots None rest)
              (rises_postfix (at + 1 + lx + 1) rest p.2)
              (omega (arith, w)) r)) h.0,
          h.1,
          lift_postfix rest (at + 1 + lx + 1) true None None None _ p.2
              (narrow tree z s at hi (at + 1 + lx + 1) (at + 1 + lx + 1 + lr) (expr_spots x ++ postfix_spots None rest) (postfix_spots None rest) k
              (omega arith) (omega (arith, long))
              (λ P q y w r. has_second P q (at + 1) (at + 1 + lx) (expr_spots x) (postfix_spots None rest) (rises-expr (at + 1) x p.1) (omega (arith, y)) r))
              (none_fits _) h.2,
        )
    lift_postfix (e.member token name rest) at known u v target of p k f h = (
      h.0,
      h.1,
      lift_postfix rest (at + 2) true None None None _ p.1
          (narrow tree z s at (at + length (postfix_kinds (e.member token name rest))) (at + 2) (at + 2 + length (postfix_kinds rest)) (postfix_spots None rest)
          (postfix_spots None rest) k (omega arith) (omega (arith, len3 (a_sign sign.Dot) (a_name name) (postfix_kinds rest))) (λ P q x y w. w))
          (none_fits _) h.2,
    )
    lift_postfix (e.arrow token name rest) at known u v target of p k f h = (
      h.0,
      h.1,
      lift_postfix rest (at + 2) true None None None _ p.1
          (narrow tree z s at (at + length (postfix_kinds (e.arrow token name rest))) (at + 2) (at + 2 + length (postfix_kinds rest)) (postfix_spots None rest)
          (postfix_spots None rest) k (omega arith) (omega (arith, len3 (a_sign sign.Arrow) (a_name name) (postfix_kinds rest))) (λ P q x y w. w))
          (none_fits _) h.2,
    )
    lift_postfix (e.increment token rest) at known u v target of p k f h =
        let hi : ℕ = at + length (postfix_kinds (e.increment token rest)) in
        let long : length (postfix_kinds (e.increment token rest)) ≡ 1 + length (postfix_kinds rest) = length-append (a_sign sign.PlusPlus)
        (postfix_kinds rest) in (
          h.0,
          steps_lift true token u v of
              (λ q. f token (s.pairs_at token) q (here at hi token (change_spots token target ++ postfix_spots None rest) (change_spots token target) k
              (omega (arith, p.0)) (omega (arith, p.0, long)) (λ P w. has_first P token (at + 1) (at + 1 + length (postfix_kinds rest)) (change_spots token target)
              (postfix_spots None rest) (rises_postfix (at + 1) rest p.1) (omega (arith, p.0)) w))) h.1,
          lift_postfix rest (at + 1) false None None None _ p.1
              (narrow tree z s at hi (at + 1) (at + 1 + length (postfix_kinds rest)) (change_spots token target ++ postfix_spots None rest)
              (postfix_spots None rest) k (omega arith)
              (omega (arith, long)) (λ P q x y w. has_second P q token (token + 1) (change_spots token target) (postfix_spots None rest) (rises-changed token target)
              (omega (arith, x, p.0)) w)) (none_fits _) h.2,
        )
    lift_postfix (e.decrement token rest) at known u v target of p k f h =
        let hi : ℕ = at + length (postfix_kinds (e.decrement token rest)) in
        let long : length (postfix_kinds (e.decrement token rest)) ≡ 1 + length (postfix_kinds rest) = length-append (a_sign sign.MinusMinus)
        (postfix_kinds rest) in (
          h.0,
          steps_lift false token u v of
              (λ q. f token (s.pairs_at token) q (here at hi token (change_spots token target ++ postfix_spots None rest) (change_spots token target) k
              (omega (arith, p.0)) (omega (arith, p.0, long)) (λ P w. has_first P token (at + 1) (at + 1 + length (postfix_kinds rest)) (change_spots token target)
              (postfix_spots None rest) (rises_postfix (at + 1) rest p.1) (omega (arith, p.0)) w))) h.1,
          lift_postfix rest (at + 1) false None None None _ p.1
              (narrow tree z s at hi (at + 1) (at + 1 + length (postfix_kinds rest)) (change_spots token target ++ postfix_spots None rest)
              (postfix_spots None rest) k (omega arith)
              (omega (arith, long)) (λ P q x y w. has_second P q token (token + 1) (change_spots token target) (postfix_spots None rest) (rises-changed token target)
              (omega (arith, x, p.0)) w)) (none_fits _) h.2,
        )
