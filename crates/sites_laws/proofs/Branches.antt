-- The branches of statements are those of the words.
use Rattle.std.proofs.Common.{◌≡◌, ℕ, ◌+◌, Bool, true, false, if◌then◌else◌, List, [], ◌∷◌, ◌++◌, Option, Some, None, refl, sym, ap, ◌∙◌, arith, append_assoc}
use Rattle.std.specs.Prelude.{IfSome, cond, count_by}
use Rattle.std.specs.List.{AllByRecursion, flat_map}
use Rattle.std.proofs.lemmas.Bool.{false≢true}
use Rattle.std.proofs.lemmas.List.{append-nil}
use Rattle.std.proofs.lemmas.List.Sums.{sum_by-append}
use Rattle.c_syntax.specs.declared.parts.Declarator.{Declarator}
use Rattle.c_syntax.specs.declared.parts.Members.{Members}
use Rattle.c_syntax.specs.declared.token.Sign.TheVariants as sign
use Rattle.c_syntax.specs.declared.token.TokenKind.{TokenKind}
use Rattle.c_syntax.specs.declared.token.TokenKind.TheVariants as kind
use Rattle.c_syntax.specs.declared.token.Word.TheVariants as word
use Rattle.c_syntax.specs.ItemTree as i
use Rattle.c_syntax.specs.StatementTree as s
use Rattle.c_syntax.specs.Words.{ExprTree, ItemTree, DeclarationTree, ForStartTree, StatementTree, EntryList, expr_kinds, item_kinds, start_kinds}
use Rattle.c_syntax.specs.Shape.{HasOne, ShapedDeclaration, ShapedEntries, ShapedExpr, ShapedForStart, ShapedItem, ShapedStart, ShapedStatement}
use Rattle.c_syntax.specs.Spelling.{Kinds, base_kinds, declaration_kinds, declarator_kinds, entry_kinds, for_start_kinds, members_kinds, optional_kinds}
use Rattle.c_syntax.specs.Spelling.{params_kinds, parenthesized_kinds, statement_kinds, type_kinds, with_commas}
use Rattle.flow.specs.declared.site.BranchWord.TheVariants as branch
use Rattle.sites.specs.declared.spots.Spot.{Spot}
use Rattle.sites.specs.declared.spots.Spot.TheVariants as spot
use Rattle.sites.specs.Bodies.{entries_spots, for_spots, for_start_spots, starts_spots, statement_spots}
use Rattle.sites.specs.Spots.{expr_spots, part_spots}
use Rattle.sites.specs.Standing.{item_spots}
use Rattle.sites_laws.specs.Words.{AreBranchesOf, begins_with_semicolon, conditions_of, is_do, is_do_branch, is_for_branch, is_if, is_if_branch, is_while}
use Rattle.sites_laws.specs.Words.{is_while_branch, lacks_condition}
use Rattle.sites_laws.proofs.Calm.{Calm, expr_calm, is_calm, none_in, part_calm, starts_calm}
use Rattle.sites_laws.proofs.Plain.{Plain, base_plain, both as plain_both, commas_plain, declarator_plain, expr_plain, expr_some, is_plain, none_of}
use Rattle.sites_laws.proofs.Plain.{optional_plain, params_plain, parenthesized, start_plain, type_plain}

count_both : {A : Type 0} (p : A → Bool) (xs ys : List A) → count_by p (xs ++ ys) ≡ count_by p xs + count_by p ys
count_both {A} p xs ys = sum_by-append (λ (x : A). cond (p x) 1 0) xs ys

-- a plain token is none of these words, and a calm spot none of these branches

no_if : (k : TokenKind) → is_plain k ≡ true → is_if k ≡ false
no_if (kind.Word word.If) h = absurd (false≢true h)
no_if k h = refl

no_while : (k : TokenKind) → is_plain k ≡ true → is_while k ≡ false
no_while (kind.Word word.While) h = absurd (false≢true h)
no_while k h = refl

no_do : (k : TokenKind) → is_plain k ≡ true → is_do k ≡ false
no_do (kind.Word word.Do) h = absurd (false≢true h)
no_do k h = refl

no_if_branch : (x : Spot) → is_calm x ≡ true → is_if_branch x ≡ false
no_if_branch (spot.Branch token branch.If) h = absurd (false≢true h)
no_if_branch x h = refl

no_while_branch : (x : Spot) → is_calm x ≡ true → is_while_branch x ≡ false
no_while_branch (spot.Branch token branch.While) h = absurd (false≢true h)
no_while_branch x h = refl

no_do_branch : (x : Spot) → is_calm x ≡ true → is_do_branch x ≡ false
no_do_branch (spot.Branch token branch.Do) h = absurd (false≢true h)
no_do_branch x h = refl

no_for_branch : (x : Spot) → is_calm x ≡ true → is_for_branch x ≡ false
no_for_branch (spot.Branch token branch.For) h = absurd (false≢true h)
no_for_branch x h = refl

-- so many `for` with a condition, whatever follows

abbrev Closed : Kinds → ℕ → Type 0
Closed ks n = (rest : Kinds) → conditions_of (ks ++ rest) ≡ n + conditions_of rest

closed_both : (xs ys : Kinds) (n m : ℕ) → Closed xs n → Closed ys m → Closed (xs ++ ys) (n + m)
closed_both xs ys n m h g rest = omega (arith, ap conditions_of (append_assoc xs ys rest), h (ys ++ rest), g rest)

condition_one : (k : TokenKind) (rest : Kinds) → is_plain k ≡ true → conditions_of (k ∷ rest) ≡ conditions_of rest
condition_one (kind.Word word.For) rest h = absurd (false≢true h)
condition_one k rest h = refl

closed_plain : (ks : Kinds) → Plain ks → Closed ks 0
closed_plain [] h rest = omega arith
closed_plain (k ∷ ks) h rest = omega (arith, condition_one k (ks ++ rest) h.0, closed_plain ks h.1 rest)

abbrev semicolon : Kinds
semicolon = kind.Punctuator sign.Semicolon ∷ []

-- these tokens, and what they hold
record Worded (ks : Kinds) (spots : List Spot) : Type 0 where
  ifs : count_by is_if_branch spots ≡ count_by is_if ks
  whiles : count_by is_while_branch spots + count_by is_do ks ≡ count_by is_while ks
  dos : count_by is_do_branch spots ≡ count_by is_do ks
  fors : Closed ks (count_by is_for_branch spots)

abbrev Splits : List Spot → List Spot → List Spot → Type 0
Splits u xs ys = (p : Spot → Bool) → count_by p u ≡ count_by p xs + count_by p ys

joined : (xs ys : Kinds) (u v w : List Spot) → Splits w u v → Worded xs u → Worded ys v → Worded (xs ++ ys) w
joined xs ys u v w split a b = record {
  ifs = omega (arith, split is_if_branch, count_both is_if xs ys, a.ifs, b.ifs);
  whiles = omega (arith, split is_while_branch, count_both is_do xs ys, count_both is_while xs ys, a.whiles, b.whiles);
  dos = omega (arith, split is_do_branch, count_both is_do xs ys, a.dos, b.dos);
  fors = λ rest. omega (
    arith,
    split is_for_branch,
    closed_both xs ys (count_by is_for_branch u) (count_by is_for_branch v) a.fors b.fors rest,
  );
}

pieces : (xs ys : Kinds) (u v : List Spot) → Worded xs u → Worded ys v → Worded (xs ++ ys) (u ++ v)
pieces xs ys u v a b = joined xs ys u v (u ++ v) (λ p. count_both p u v) a b

-- with tokens behind that hold nothing
followed : (xs ys : Kinds) (u : List Spot) → Worded xs u → Worded ys [] → Worded (xs ++ ys) u
followed xs ys u a b = joined xs ys u [] u (λ p. omega arith) a b

worded_plain : (ks : Kinds) (spots : List Spot) → Plain ks → Calm spots → Worded ks spots
worded_plain ks spots h c = record {
  ifs = none_in is_if_branch no_if_branch spots c ∙ sym (none_of is_if no_if ks h);
  whiles = omega (arith, none_in is_while_branch no_while_branch spots c, none_of is_do no_do ks h, none_of is_while no_while ks h);
  dos = none_in is_do_branch no_do_branch spots c ∙ sym (none_of is_do no_do ks h);
  fors = λ rest. omega (arith, none_in is_for_branch no_for_branch spots c, closed_plain ks h rest);
}

worded_semicolon : Worded semicolon []
worded_semicolon = record { ifs = refl; whiles = refl; dos = refl; fors = λ rest. omega arith }

ended : (ks : Kinds) (spots : List Spot) → Plain ks → Calm spots → Worded (ks ++ semicolon) spots
ended ks spots h c = followed ks semicolon spots (worded_plain ks spots h c) worded_semicolon

braced : (ks : Kinds) (spots : List Spot) → Worded ks spots
    → Worded (kind.Punctuator sign.LeftBrace ∷ [] ++ ks ++ kind.Punctuator sign.RightBrace ∷ []) spots
braced ks spots h = followed (kind.Punctuator sign.LeftBrace ∷ [] ++ ks) (kind.Punctuator sign.RightBrace ∷ []) spots
    (pieces (kind.Punctuator sign.LeftBrace ∷ []) ks [] spots (worded_plain (kind.Punctuator sign.LeftBrace ∷ []) [] (refl, tt) tt) h)
    (worded_plain (kind.Punctuator sign.RightBrace ∷ []) [] (refl, tt) tt)

-- `if` and `while` with their conditions

module _ (token : ℕ) (c : ExprTree) (shaped : ShapedExpr c) where
  abbrev parens : Kinds
  parens = parenthesized_kinds (expr_kinds c)

  plain : Plain parens
  plain = parenthesized (expr_kinds c) (expr_plain c shaped)

  held : Worded parens (expr_spots c)
  held = worded_plain parens (expr_spots c) plain (expr_calm c)

  head_if : Worded (kind.Word word.If ∷ parens) (spot.Branch token branch.If ∷ expr_spots c)
  head_if = record {
    ifs = omega (arith, count_both is_if (kind.Word word.If ∷ []) parens, count_both is_if_branch (spot.Branch token branch.If ∷ []) (expr_spots c), held.ifs);
    whiles = held.whiles;
    dos = held.dos;
    fors = held.fors;
  }

  head_while : Worded (kind.Word word.While ∷ parens) (spot.Branch token branch.While ∷ expr_spots c)
  head_while = record {
    ifs = held.ifs;
    whiles = omega (
      arith,
      count_both is_while (kind.Word word.While ∷ []) parens,
      count_both is_do (kind.Word word.While ∷ []) parens,
      count_both is_while_branch (spot.Branch token branch.While ∷ []) (expr_spots c),
      held.whiles,
    );
    dos = held.dos;
    fors = held.fors;
  }

  do_all : (ks : Kinds) (spots : List Spot) → Worded ks spots
      → Worded (kind.Word word.Do ∷ [] ++ ks ++ kind.Word word.While ∷ [] ++ parens ++ semicolon) (spot.Branch token branch.Do ∷ spots ++ expr_spots c)
  do_all ks spots h = record {
    ifs = omega (arith, counted is_if, seen is_if_branch, h.ifs, held.ifs);
    whiles = omega (arith, counted is_do, counted is_while, seen is_while_branch, h.whiles, held.whiles);
    dos = omega (arith, counted is_do, seen is_do_branch, h.dos, held.dos);
    fors = λ rest. omega (
      arith,
      seen is_for_branch,
      closed_both (kind.Word word.Do ∷ [] ++ ks ++ kind.Word word.While ∷ [] ++ parens) semicolon
          (0 + count_by is_for_branch spots + 0 + count_by is_for_branch (expr_spots c)) 0
          (closed_both (kind.Word word.Do ∷ [] ++ ks ++ kind.Word word.While ∷ []) parens (0 + count_by is_for_branch spots + 0)
          (count_by is_for_branch (expr_spots c))
          (closed_both (kind.Word word.Do ∷ [] ++ ks) (kind.Word word.While ∷ []) (0 + count_by is_for_branch spots) 0
          (closed_both (kind.Word word.Do ∷ []) ks 0 (count_by is_for_branch spots) (λ more. omega arith) h.fors) (λ more. omega arith)) held.fors)
          worded_semicolon.fors rest,
    );
  }
    where
      counted : (q : TokenKind → Bool) → count_by q (kind.Word word.Do ∷ [] ++ ks ++ kind.Word word.While ∷ [] ++ parens ++ semicolon)
          ≡ count_by q (kind.Word word.Do ∷ []) + count_by q ks + count_by q (kind.Word word.While ∷ []) + count_by q parens + count_by q semicolon
      counted q = omega (
        arith,
        count_both q (kind.Word word.Do ∷ [] ++ ks ++ kind.Word word.While ∷ [] ++ parens) semicolon,
        count_both q (kind.Word word.Do ∷ [] ++ ks ++ kind.Word word.While ∷ []) parens,
        count_both q (kind.Word word.Do ∷ [] ++ ks) (kind.Word word.While ∷ []),
        count_both q (kind.Word word.Do ∷ []) ks,
      )

      seen : (p : Spot → Bool) → count_by p (spot.Branch token branch.Do ∷ spots ++ expr_spots c)
          ≡ count_by p (spot.Branch token branch.Do ∷ []) + count_by p spots + count_by p (expr_spots c)
      seen p = omega (
        arith,
        count_both p (spot.Branch token branch.Do ∷ spots) (expr_spots c),
        count_both p (spot.Branch token branch.Do ∷ []) spots,
      )

-- the head of a `for`

lacks_one : (k : TokenKind) (rest : Kinds) → is_plain k ≡ true → lacks_condition (k ∷ rest) ≡ lacks_condition rest
lacks_one (kind.Punctuator sign.Semicolon) rest h = absurd (false≢true h)
lacks_one k rest h = refl

lacks_behind : (ks rest : Kinds) → Plain ks → lacks_condition (ks ++ semicolon ++ rest) ≡ begins_with_semicolon rest
lacks_behind [] rest h = refl
lacks_behind (k ∷ ks) rest h = lacks_one k (ks ++ semicolon ++ rest) h.0 ∙ lacks_behind ks rest h.1

begins_one : (k : TokenKind) (rest : Kinds) → is_plain k ≡ true → begins_with_semicolon (k ∷ rest) ≡ false
begins_one (kind.Punctuator sign.Semicolon) rest h = absurd (false≢true h)
begins_one k rest h = refl

begins_plain : (ks rest : Kinds) → Plain ks → HasOne ks → begins_with_semicolon (ks ++ rest) ≡ false
begins_plain [] rest h s = absurd s
begins_plain (k ∷ ks) rest h s = begins_one k (ks ++ rest) h.0

module _ (token : ℕ) (pre : Kinds) (spots : List Spot) (step : Option ExprTree) (plain_pre : Plain pre) (calm : Calm spots)
    (shaped_step : IfSome step ShapedExpr) where
  abbrev stepped : Kinds
  stepped = optional_kinds expr_kinds step

  inner : Option ExprTree → Kinds
  inner c = pre ++ semicolon ++ optional_kinds expr_kinds c ++ semicolon ++ stepped

  plain_part : (c : Option ExprTree) → IfSome c ShapedExpr → Plain (optional_kinds expr_kinds c)
  plain_part c h = optional_plain expr_kinds ShapedExpr expr_plain c h

  -- what is within the parentheses holds no branch of a statement
  within : (c : Option ExprTree) → IfSome c ShapedExpr
      → Worded (parenthesized_kinds (pre ++ semicolon ++ optional_kinds expr_kinds c ++ semicolon ++ stepped)) (spots ++ part_spots c ++ part_spots step)
  within c h =
      followed (kind.Punctuator sign.LeftParen ∷ [] ++ (pre ++ semicolon ++ optional_kinds expr_kinds c ++ semicolon ++ stepped)) (kind.Punctuator sign.RightParen ∷ [])
      (spots ++ part_spots c ++ part_spots step)
      (pieces (kind.Punctuator sign.LeftParen ∷ []) (pre ++ semicolon ++ optional_kinds expr_kinds c ++ semicolon ++ stepped) []
      (spots ++ part_spots c ++ part_spots step) (worded_plain (kind.Punctuator sign.LeftParen ∷ []) [] (refl, tt) tt)
      (pieces (pre ++ semicolon ++ optional_kinds expr_kinds c ++ semicolon) stepped (spots ++ part_spots c) (part_spots step)
      (followed (pre ++ semicolon ++ optional_kinds expr_kinds c) semicolon (spots ++ part_spots c)
      (pieces (pre ++ semicolon) (optional_kinds expr_kinds c) spots (part_spots c) (ended pre spots plain_pre calm)
      (worded_plain (optional_kinds expr_kinds c) (part_spots c) (plain_part c h) (part_calm c)))
      worded_semicolon)
      (worded_plain stepped (part_spots step) (plain_part step shaped_step) (part_calm step))))
      (worded_plain (kind.Punctuator sign.RightParen ∷ []) [] (refl, tt) tt)

  lacks_is : (c rest : Kinds)
      → lacks_condition (parenthesized_kinds (pre ++ semicolon ++ c ++ semicolon ++ stepped) ++ rest)
      ≡ begins_with_semicolon (c ++ (semicolon ++ (stepped ++ (kind.Punctuator sign.RightParen ∷ rest))))
  lacks_is c rest = ap lacks_condition (
      append_assoc (pre ++ semicolon ++ c ++ semicolon ++ stepped) (kind.Punctuator sign.RightParen ∷ []) rest
      ∙ append_assoc (pre ++ semicolon ++ c ++ semicolon) stepped (kind.Punctuator sign.RightParen ∷ rest)
      ∙ append_assoc (pre ++ semicolon ++ c) semicolon (stepped ++ (kind.Punctuator sign.RightParen ∷ rest))
      ∙ append_assoc (pre ++ semicolon) c (semicolon ++ (stepped ++ (kind.Punctuator sign.RightParen ∷ rest)))
      )
      ∙ lacks_behind pre (c ++ (semicolon ++ (stepped ++ (kind.Punctuator sign.RightParen ∷ rest)))) plain_pre

  head_for : (c : Option ExprTree) → IfSome c ShapedExpr
      → Worded (kind.Word word.For ∷ parenthesized_kinds (pre ++ semicolon ++ optional_kinds expr_kinds c ++ semicolon ++ stepped))
      (for_spots token c ++ spots ++ part_spots c ++ part_spots step)
  head_for None h =
      let w = within None h in
      record {
        ifs = w.ifs;
        whiles = w.whiles;
        dos = w.dos;
        fors = λ rest. omega (arith, ap {B = ℕ} (λ b. if b then 0 else 1) (lacks_is [] rest), w.fors rest);
      }
  head_for (Some x) h =
      let w = within (Some x) h in
      record {
        ifs = w.ifs;
        whiles = w.whiles;
        dos = w.dos;
        fors = λ rest. omega (
          arith,
          ap {B = ℕ} (λ b. if b then 0 else 1) (lacks_is (expr_kinds x) rest
              ∙ begins_plain (expr_kinds x) (semicolon ++ (stepped ++ (kind.Punctuator sign.RightParen ∷ rest))) (expr_plain x h) (expr_some x h)),
          count_both is_for_branch (spot.Branch token branch.For ∷ []) (spots ++ part_spots (Some x) ++ part_spots step),
          w.fors rest,
        );
      }

-- declarations

declared_plain : (d : DeclarationTree) → ShapedDeclaration d → Plain (base_kinds d.base ++ with_commas start_kinds d.starts)
declared_plain d h =
    plain_both (base_kinds d.base) (with_commas start_kinds d.starts) (base_plain d.base) (commas_plain start_kinds ShapedStart start_plain d.starts h.1)

declaration_worded : (d : DeclarationTree) → ShapedDeclaration d → Worded (declaration_kinds d) (starts_spots d.starts)
declaration_worded d h = ended (base_kinds d.base ++ with_commas start_kinds d.starts) (starts_spots d.starts) (declared_plain d h) (starts_calm d.starts)

for_worded : (token : ℕ) (start : ForStartTree) (c step : Option ExprTree) → ShapedForStart start → IfSome c ShapedExpr → IfSome step ShapedExpr
    → Worded (kind.Word word.For ∷ parenthesized_kinds (for_start_kinds start ++ optional_kinds expr_kinds c ++ semicolon ++ optional_kinds expr_kinds step))
    (for_spots token c ++ for_start_spots start ++ part_spots c ++ part_spots step)
for_worded token (s.Declares d) c step h g k =
    head_for token (base_kinds d.base ++ with_commas start_kinds d.starts) (starts_spots d.starts) step (declared_plain d h) (starts_calm d.starts) k c g
for_worded token (s.Computes x) c step h g k =
    head_for token (optional_kinds expr_kinds x) (part_spots x) step (optional_plain expr_kinds ShapedExpr expr_plain x h) (part_calm x) k c g

-- statements

mutual
  statement_worded : (x : StatementTree) → ShapedStatement x → Worded (statement_kinds x) (statement_spots x)
  statement_worded (s.Block token entries) h = braced (entry_kinds entries) (entries_spots entries) (entries_worded entries h)
  statement_worded (s.Empty token) h = worded_semicolon
  statement_worded (s.Expr token x) h = ended (expr_kinds x) (expr_spots x) (expr_plain x h) (expr_calm x)
  statement_worded (s.If token condition first) h =
      pieces (kind.Word word.If ∷ parens token condition h.0) (statement_kinds first) (spot.Branch token branch.If ∷ expr_spots condition) (statement_spots first)
      (head_if token condition h.0) (statement_worded first h.1)
  statement_worded (s.IfElse token condition first second) h =
      pieces (kind.Word word.If ∷ parens token condition h.0 ++ statement_kinds first ++ kind.Word word.Else ∷ []) (statement_kinds second)
      (spot.Branch token branch.If ∷ expr_spots condition ++ statement_spots first) (statement_spots second)
      (followed (kind.Word word.If ∷ parens token condition h.0 ++ statement_kinds first) (kind.Word word.Else ∷ [])
      (spot.Branch token branch.If ∷ expr_spots condition ++ statement_spots first)
      (pieces (kind.Word word.If ∷ parens token condition h.0) (statement_kinds first) (spot.Branch token branch.If ∷ expr_spots condition) (statement_spots first)
      (head_if token condition h.0) (statement_worded first h.1))
      (worded_plain (kind.Word word.Else ∷ []) [] (refl, tt) tt))
      (statement_worded second h.3)
  statement_worded (s.While token condition body) h =
      pieces (kind.Word word.While ∷ parens token condition h.0) (statement_kinds body) (spot.Branch token branch.While ∷ expr_spots condition)
      (statement_spots body) (head_while token condition h.0) (statement_worded body h.1)
  statement_worded (s.Do token body condition) h = do_all token condition h.1 (statement_kinds body) (statement_spots body) (statement_worded body h.0)
  statement_worded (s.For token start condition step body) h =
      pieces (kind.Word word.For ∷ parenthesized_kinds (for_start_kinds start ++ optional_kinds expr_kinds condition ++ semicolon ++ optional_kinds expr_kinds step))
      (statement_kinds body) (for_spots token condition ++ for_start_spots start ++ part_spots condition ++ part_spots step) (statement_spots body)
      (for_worded token start condition step h.0 h.1 h.2) (statement_worded body h.3)
  statement_worded (s.Return token value) h =
      ended (kind.Word word.Return ∷ optional_kinds expr_kinds value) (part_spots value)
      (refl, optional_plain expr_kinds ShapedExpr expr_plain value h) (part_calm value)
  statement_worded (s.Break token) h = record { ifs = refl; whiles = refl; dos = refl; fors = λ rest. omega arith }
  statement_worded (s.Continue token) h = record { ifs = refl; whiles = refl; dos = refl; fors = λ rest. omega arith }

  entries_worded : (xs : EntryList) → ShapedEntries xs → Worded (entry_kinds xs) (entries_spots xs)
  entries_worded s.no_entries h = record { ifs = refl; whiles = refl; dos = refl; fors = λ rest. omega arith }
  entries_worded (s.declared declaration rest) h =
      pieces (declaration_kinds declaration) (entry_kinds rest) (starts_spots declaration.starts) (entries_spots rest)
      (declaration_worded declaration h.0) (entries_worded rest h.1)
  entries_worded (s.stated statement rest) h =
      pieces (statement_kinds statement) (entry_kinds rest) (statement_spots statement) (entries_spots rest)
      (statement_worded statement h.0) (entries_worded rest h.1)

-- items

declarators_plain : (ds : List Declarator) → AllByRecursion (λ (d : Declarator). Unit {0}) ds
declarators_plain [] = tt
declarators_plain (d ∷ ds) = (tt, declarators_plain ds)

members_worded : (ms : List Members) → Worded (flat_map members_kinds ms) []
members_worded [] = record { ifs = refl; whiles = refl; dos = refl; fors = λ rest. omega arith }
members_worded (m ∷ ms) = pieces (members_kinds m) (flat_map members_kinds ms) [] []
    (ended (base_kinds m.base ++ with_commas declarator_kinds m.declarators) []
    (plain_both (base_kinds m.base) (with_commas declarator_kinds m.declarators) (base_plain m.base)
    (commas_plain declarator_kinds (λ (d : Declarator). Unit {0}) (λ d h. declarator_plain d) m.declarators (declarators_plain m.declarators))) tt)
    (members_worded ms)

item_worded : (x : ItemTree) → ShapedItem x → Worded (item_kinds x) (item_spots x)
item_worded (i.Struct token tag members) h =
    followed (kind.Word word.Struct ∷ kind.Name tag ∷ [] ++ (kind.Punctuator sign.LeftBrace ∷ [] ++ flat_map members_kinds members ++ kind.Punctuator sign.RightBrace ∷ []))
    semicolon []
    (pieces (kind.Word word.Struct ∷ kind.Name tag ∷ [])
    (kind.Punctuator sign.LeftBrace ∷ [] ++ flat_map members_kinds members ++ kind.Punctuator sign.RightBrace ∷ []) [] []
    (worded_plain (kind.Word word.Struct ∷ kind.Name tag ∷ []) [] (refl, (refl, tt)) tt) (braced (flat_map members_kinds members) [] (members_worded members)))
    worded_semicolon
item_worded (i.Function token b stars name ps None) h =
    ended (type_kinds b stars ++ kind.Name name ∷ [] ++ parenthesized_kinds (params_kinds ps)) []
    (plain_both (type_kinds b stars ++ kind.Name name ∷ []) (parenthesized_kinds (params_kinds ps))
    (plain_both (type_kinds b stars) (kind.Name name ∷ []) (type_plain b stars) (refl, tt)) (parenthesized (params_kinds ps) (params_plain ps))) tt
item_worded (i.Function token b stars name ps (Some body)) h =
    pieces (type_kinds b stars ++ kind.Name name ∷ [] ++ parenthesized_kinds (params_kinds ps))
    (kind.Punctuator sign.LeftBrace ∷ [] ++ entry_kinds body ++ kind.Punctuator sign.RightBrace ∷ []) [] (entries_spots body)
    (worded_plain (type_kinds b stars ++ kind.Name name ∷ [] ++ parenthesized_kinds (params_kinds ps)) []
    (plain_both (type_kinds b stars ++ kind.Name name ∷ []) (parenthesized_kinds (params_kinds ps))
    (plain_both (type_kinds b stars) (kind.Name name ∷ []) (type_plain b stars) (refl, tt)) (parenthesized (params_kinds ps) (params_plain ps))) tt)
    (braced (entry_kinds body) (entries_spots body) (entries_worded body h.1))
item_worded (i.Declaration d) h = ended (base_kinds d.base ++ with_commas start_kinds d.starts) [] (declared_plain d h) tt

pub item_branches : (x : ItemTree) → ShapedItem x → AreBranchesOf (item_kinds x) (item_spots x)
item_branches x h =
    let w = item_worded x h in
    record {
      ifs = w.ifs;
      whiles = w.whiles;
      dos = w.dos;
      fors = omega (arith, w.fors [], ap conditions_of (append-nil (item_kinds x)));
    }
