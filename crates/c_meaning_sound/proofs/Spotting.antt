-- What stands in expressions and statements for sites: names are names, constants fit, and a variable that gets a new value has its slot.
use Rattle.std.proofs.Common.{ℕ, List, [], ◌∷◌, ◌++◌, Some, None, Bool, true, false}
use Rattle.std.specs.Prelude.{Option, IsTrue, if◌then◌else◌}
use Rattle.std.specs.List.{AllByRecursion}
use Rattle.base_lists.proofs.Every.{all_first, all_join, all_second}
use Rattle.cbi_base.specs.Name.{IsName}
use Rattle.c_syntax.specs.declared.token.Sign.TheVariants as sign
use Rattle.c_syntax.specs.declared.expr.PrefixOperator.{PrefixOperator}
use Rattle.c_syntax.specs.declared.expr.PrefixOperator.TheVariants as prefix
use Rattle.c_syntax.specs.ExprTree as e
use Rattle.c_syntax.specs.Words.{ExprTree, ExprList, LinkList, PostfixList, Kinds, a_sign, expr_kinds, exprs_kinds, link_kinds, more_exprs_kinds, parenthesized_kinds}
use Rattle.c_syntax.specs.Words.{postfix_kinds, prefix_kinds, type_kinds}
use Rattle.c_types_rules.specs.declared.library.Library.TheVariants as library
use Rattle.flow.specs.declared.site.BranchWord.{BranchWord}
use Rattle.flow.specs.declared.site.BranchWord.TheVariants.{Question}
use Rattle.flow.specs.declared.site.Slot.{Slot}
use Rattle.flow.specs.Sites.{is_constant}
use Rattle.c_meaning.specs.declared.value_type.Called.{Called}
use Rattle.c_meaning.specs.declared.value_type.Called.TheVariants as callee
use Rattle.c_meaning.specs.declared.value_type.ValueType.{ValueType}
use Rattle.c_meaning.specs.Words.{Facts, Signature, Sites, called_as}
use Rattle.sites.specs.declared.spots.Spot.{Spot}
use Rattle.sites.specs.declared.spots.Spot.TheVariants as spot
use Rattle.sites.specs.Spots.{branch_spots, change_spots, expr_spots, exprs_spots, is_sizeof, joined_spots, branch_of_sign, links_spots, named_token, postfix_spots, stepped_spots}
use Rattle.c_meaning_laws.specs.Typed.{CallsFunction, HasSlot, Typed, TypedArguments, TypedCall, TypedLast, TypedLinks, TypedLone, TypedPostfix}
use Rattle.c_meaning_laws.specs.TypedStatements.{TypedElements}
use Rattle.c_meaning_sound.specs.Sited.{IsSitedToken}

-- what all of three parts keep
pub in_middle : (xs ys zs : Kinds) → AllByRecursion IsSitedToken (xs ++ ys ++ zs) → AllByRecursion IsSitedToken ys
in_middle xs ys zs h = all_second IsSitedToken xs ys (all_first IsSitedToken (xs ++ ys) zs h)

pub inside : (ks : Kinds) → AllByRecursion IsSitedToken (parenthesized_kinds ks) → AllByRecursion IsSitedToken ks
inside ks h = all_first IsSitedToken ks (a_sign sign.RightParen) h.1

pub rest_kept : (rest : ExprList) → AllByRecursion IsSitedToken (more_exprs_kinds rest) → AllByRecursion IsSitedToken (exprs_kinds rest)
rest_kept e.no_exprs h = tt
rest_kept (e.more_exprs x rest) h = h.1

module _ (facts : Facts) (sites : Sites) (count : ℕ) where
  abbrev pub Slotted : ℕ → Type 0
  Slotted target = HasSlot facts sites count (facts.slot_at target)

  abbrev pub SpotFits : Spot → Type 0
  SpotFits (spot.Branch token word) = Unit {0}
  SpotFits (spot.Call token name) = IsName name
  SpotFits (spot.Change token target) = Slotted target
  SpotFits (spot.Constant value) = IsTrue (is_constant value)

  abbrev pub SpotsFit : List Spot → Type 0
  SpotsFit xs = AllByRecursion SpotFits xs

  abbrev TargetFits : Option ℕ → Type 0
  TargetFits None = Unit {0}
  TargetFits (Some target) = Slotted target

  pub two_spots : (xs ys : List Spot) → SpotsFit xs → SpotsFit ys → SpotsFit (xs ++ ys)
  two_spots xs ys h k = all_join SpotFits xs ys h k

  changed_fit : (token : ℕ) (target : Option ℕ) → TargetFits target → SpotsFit (change_spots token target)
  changed_fit token None h = tt
  changed_fit token (Some target) h = (h, tt)

  named_fits : (x : ExprTree) → Typed facts sites count x → TargetFits (named_token x)
  named_fits (e.Name token name) h = h.1
  named_fits x h = tt

  branched_fit : (token : ℕ) (word : Option BranchWord) → SpotsFit (branch_spots token word)
  branched_fit token None = tt
  branched_fit token (Some word) = (tt, tt)

  -- lists whose parts fit
  abbrev pub AllTyped : ExprList → Type 0
  AllTyped e.no_exprs = Unit {0}
  AllTyped (e.more_exprs x rest) = Typed facts sites count x × AllTyped rest

  pub last_all : (t : Option ValueType) (xs : ExprList) → TypedLast facts sites count t xs → AllTyped xs
  last_all t e.no_exprs h = absurd h
  last_all t (e.more_exprs x e.no_exprs) h = (h.0, tt)
  last_all t (e.more_exprs x (e.more_exprs y rest)) h = (h.0, last_all t (e.more_exprs y rest) h.1)

  pub arguments_all : (types : List ValueType) (xs : ExprList) → TypedArguments facts sites count types xs → AllTyped xs
  arguments_all [] e.no_exprs h = tt
  arguments_all [] (e.more_exprs x rest) h = absurd h
  arguments_all (t ∷ types) e.no_exprs h = absurd h
  arguments_all (t ∷ types) (e.more_exprs x rest) h = (h.0, arguments_all types rest h.2)

  lone_all : (xs : ExprList) → TypedLone facts sites count xs → AllTyped xs
  lone_all e.no_exprs h = absurd h
  lone_all (e.more_exprs x e.no_exprs) h = (h.0, tt)
  lone_all (e.more_exprs x (e.more_exprs y rest)) h = absurd h

  pub elements_all : (t : Option ValueType) (xs : ExprList) → TypedElements facts sites count t xs → AllTyped xs
  elements_all t e.no_exprs h = tt
  elements_all t (e.more_exprs x rest) h = (h.0, elements_all t rest h.2)

  abbrev pub CalledWith : Called → ExprList → Option ValueType → Type 0
  CalledWith c xs t = TypedCall facts sites count c (λ types. TypedArguments facts sites count types xs) (TypedLone facts sites count xs) t

  function_all : (o : Option Signature) (xs : ExprList) (t : Option ValueType) → CallsFunction o (λ types. TypedArguments facts sites count types xs) t
      → AllTyped xs
  function_all None xs t h = absurd h
  function_all (Some f) xs t h = arguments_all f.params xs h.0

  pub called_all : (c : Called) (xs : ExprList) (t : Option ValueType) → CalledWith c xs t → AllTyped xs
  called_all (callee.Function number) xs t h = function_all (facts.signature number) xs t h
  called_all (callee.Library library.Assert) xs t h = lone_all xs h.0
  called_all (callee.Library library.Printf) xs t h = absurd h
  called_all callee.Unknown xs t h = absurd h
  called_all c xs t h = arguments_all _ xs h.0

  stepped_fit : (o : PrefixOperator) (token : ℕ) (target : Option ℕ) (xs : List Spot) → TargetFits target → SpotsFit xs
      → SpotsFit (if is_sizeof o then [] else stepped_spots o token target ++ xs)
  stepped_fit prefix.Increment token target xs h k = two_spots (change_spots token target) xs (changed_fit token target h) k
  stepped_fit prefix.Decrement token target xs h k = two_spots (change_spots token target) xs (changed_fit token target h) k
  stepped_fit prefix.SizeOf token target xs h k = tt
  stepped_fit o token target xs h k = k

  mutual
    pub expr_fit : (x : ExprTree) → Typed facts sites count x → AllByRecursion IsSitedToken (expr_kinds x) → SpotsFit (expr_spots x)
    expr_fit (e.Comma token operands) h n = exprs_fit operands (last_all (facts.type_at token) operands h) n
    expr_fit (e.Assign token o target value) h n =
        two_spots (expr_spots target ++ change_spots token (named_token target)) (expr_spots value)
        (two_spots (expr_spots target) (change_spots token (named_token target))
        (expr_fit target h.0 (all_first IsSitedToken (expr_kinds target) (a_sign o) (all_first IsSitedToken (expr_kinds target ++ a_sign o) (expr_kinds value) n)))
        (changed_fit token (named_token target) (named_fits target h.0)))
        (expr_fit value h.1 (all_second IsSitedToken (expr_kinds target ++ a_sign o) (expr_kinds value) n))
    expr_fit (e.Conditional token condition first second) h n =
        let heads = all_first IsSitedToken (expr_kinds condition ++ a_sign sign.Question ++ expr_kinds first ++ a_sign sign.Colon) (expr_kinds second) n in
        let two = all_first IsSitedToken (expr_kinds condition ++ a_sign sign.Question ++ expr_kinds first) (a_sign sign.Colon) heads in
        two_spots (expr_spots condition ++ spot.Branch token Question ∷ expr_spots first) (expr_spots second)
        (two_spots (expr_spots condition) (spot.Branch token Question ∷ expr_spots first)
        (expr_fit condition h.0 (all_first IsSitedToken (expr_kinds condition) (a_sign sign.Question)
        (all_first IsSitedToken (expr_kinds condition ++ a_sign sign.Question) (expr_kinds first) two)))
        (tt, expr_fit first h.1 (all_second IsSitedToken (expr_kinds condition ++ a_sign sign.Question) (expr_kinds first) two)))
        (expr_fit second h.2 (all_second IsSitedToken (expr_kinds condition ++ a_sign sign.Question ++ expr_kinds first ++ a_sign sign.Colon) (expr_kinds second) n))
    expr_fit (e.Chain level first links) h n =
        two_spots (expr_spots first) (links_spots links) (expr_fit first h.0 (all_first IsSitedToken (expr_kinds first) (link_kinds links) n))
        (links_fit _ links h.2 (all_second IsSitedToken (expr_kinds first) (link_kinds links) n))
    expr_fit (e.Cast token b stars operand) h n = expr_fit operand h.0 (all_second IsSitedToken (parenthesized_kinds (type_kinds b stars)) (expr_kinds operand) n)
    expr_fit (e.Prefix token o operand) h n =
        stepped_fit o token (named_token operand) (expr_spots operand) (named_fits operand h.0)
        (expr_fit operand h.0 (all_second IsSitedToken (prefix_kinds o) (expr_kinds operand) n))
    expr_fit (e.SizeOfType token b stars) h n = tt
    expr_fit (e.Postfix primary operators) h n =
        two_spots (expr_spots primary) (postfix_spots (named_token primary) operators)
        (expr_fit primary h.0 (all_first IsSitedToken (expr_kinds primary) (postfix_kinds operators) n))
        (postfix_fit _ _ _ (named_token primary) operators h.1 (all_second IsSitedToken (expr_kinds primary) (postfix_kinds operators) n) (named_fits primary h.0))
    expr_fit (e.Name token name) h n = tt
    expr_fit (e.Call token name arguments) h n = (
      n.0,
      exprs_fit arguments (called_all (called_as (facts.function_at token) name) arguments (facts.type_at token) h)
          (inside (exprs_kinds arguments) n.1),
    )
    expr_fit (e.Constant token k value) h n = (n.0, tt)
    expr_fit (e.Strings token parts) h n = tt
    expr_fit (e.Paren token inner) h n = expr_fit inner h.0 (inside (expr_kinds inner) n)
    expr_fit (e.Null token) h n = tt
    expr_fit (e.EndOfFile token) h n = tt

    pub exprs_fit : (xs : ExprList) → AllTyped xs → AllByRecursion IsSitedToken (exprs_kinds xs) → SpotsFit (exprs_spots xs)
    exprs_fit e.no_exprs h n = tt
    exprs_fit (e.more_exprs x rest) h n =
        two_spots (expr_spots x) (exprs_spots rest) (expr_fit x h.0 (all_first IsSitedToken (expr_kinds x) (more_exprs_kinds rest) n))
        (exprs_fit rest h.1 (rest_kept rest (all_second IsSitedToken (expr_kinds x) (more_exprs_kinds rest) n)))

    links_fit : (left : Option ValueType) (xs : LinkList) → TypedLinks facts sites count left xs → AllByRecursion IsSitedToken (link_kinds xs) → SpotsFit
        (links_spots xs)
    links_fit left e.no_links h n = tt
    links_fit left (e.more_links token o operand rest) h n =
        two_spots (joined_spots token o ++ expr_spots operand) (links_spots rest)
        (two_spots (joined_spots token o) (expr_spots operand) (branched_fit token (branch_of_sign o))
        (expr_fit operand h.0 (all_first IsSitedToken (expr_kinds operand) (link_kinds rest) n.1)))
        (links_fit (facts.type_at token) rest h.3 (all_second IsSitedToken (expr_kinds operand) (link_kinds rest) n.1))

    postfix_fit : (known : Bool) (slot : Option Slot) (of : Option ValueType) (target : Option ℕ) (xs : PostfixList)
        → TypedPostfix facts sites count known slot of xs
        → AllByRecursion IsSitedToken (postfix_kinds xs) → TargetFits target → SpotsFit (postfix_spots target xs)
    postfix_fit known slot of target e.no_postfix h n t = tt
    postfix_fit known slot of target (e.index token x rest) h n t =
        two_spots (expr_spots x) (postfix_spots None rest)
        (expr_fit x h.0 (all_first IsSitedToken (expr_kinds x) (a_sign sign.RightBracket)
        (all_first IsSitedToken (expr_kinds x ++ a_sign sign.RightBracket) (postfix_kinds rest) n.1)))
        (postfix_fit true None (facts.type_at token) None rest h.2 (all_second IsSitedToken (expr_kinds x ++ a_sign sign.RightBracket) (postfix_kinds rest) n.1) tt)
    postfix_fit known slot of target (e.member token name rest) h n t = postfix_fit true None (facts.type_at token) None rest h.2 n.1.1 tt
    postfix_fit known slot of target (e.arrow token name rest) h n t = postfix_fit true None (facts.type_at token) None rest h.2 n.1.1 tt
    postfix_fit known slot of target (e.increment token rest) h n t =
        two_spots (change_spots token target) (postfix_spots None rest) (changed_fit token target t)
        (postfix_fit false None (facts.type_at token) None rest h.2 n.1 tt)
    postfix_fit known slot of target (e.decrement token rest) h n t =
        two_spots (change_spots token target) (postfix_spots None rest) (changed_fit token target t)
        (postfix_fit false None (facts.type_at token) None rest h.2 n.1 tt)
