-- What a body holds stands in the order of its tokens: in declarations and statements.
use Rattle.std.proofs.Common.{◌≡◌, ℕ, ◌+◌, ◌≤◌, List, [], ◌∷◌, ◌++◌, length, Option, Some, None, ap, arith, length-append}
use Rattle.std.specs.Prelude.{IfSome}
use Rattle.std.specs.List.{flat_map}
use Rattle.std.proofs.lemmas.List.{length-replicate}
use Rattle.std.proofs.lemmas.List.Concat.{flat_map-cons}
use Rattle.c_syntax.specs.Words.{ExprTree, InitialTree, StartTree, DeclarationTree, ForStartTree, StatementTree, EntryList, Kinds, a_sign, a_word, a_name}
use Rattle.c_syntax.specs.Words.{star_kinds, bound_kinds, declarator_kinds, base_kinds, parenthesized_kinds, braced_kinds, comma_kinds, optional_kinds, with_commas, after_commas}
use Rattle.c_syntax.specs.Words.{expr_kinds, exprs_kinds, initial_kinds, start_kinds, declaration_kinds, for_start_kinds, statement_kinds, entry_kinds, EachAt}
use Rattle.c_syntax.specs.Words.{InitialAt, StartAt, DeclarationAt, ForStartAt, StatementAt, EntriesAt}
use Rattle.c_syntax.specs.StatementTree as s
use Rattle.c_syntax.specs.declared.parts.Declarator.{Declarator}
use Rattle.c_syntax.specs.declared.token.Sign.TheVariants as sign
use Rattle.c_syntax.specs.declared.token.Word.TheVariants as word
use Rattle.c_syntax.specs.declared.token.TokenKind.TheVariants as kind
use Rattle.flow.specs.declared.site.BranchWord.{BranchWord}
use Rattle.flow.specs.declared.site.BranchWord.TheVariants.{If, While, Do, For}
use Rattle.sites.specs.declared.spots.Spot.{Spot}
use Rattle.sites.specs.declared.spots.Spot.TheVariants as spot
use Rattle.sites.specs.Spots.{expr_spots, exprs_spots, part_spots}
use Rattle.sites.specs.Bodies.{initial_spots, start_spots, starts_spots, declaration_spots, for_start_spots, for_spots, statement_spots, entries_spots}
use Rattle.sites.proofs.Rises.{Rises, wider, join, join3, len3, len4, len5, paren-length, rises-branch, rises-changed, rises-expr, rises-exprs, rises-part}

pub brace-length : (k : Kinds) → length (braced_kinds k) ≡ length k + 2
brace-length k = omega (arith, len3 (a_sign sign.LeftBrace) k (a_sign sign.RightBrace))

-- a branch before what stands behind it
pub led : (token a b : ℕ) (w : BranchWord) (xs : List Spot) → token + 1 ≤ a → Rises a b xs → Rises token b (spot.Branch token w ∷ xs)
led token a b w xs m r = join token (token + 1) a b (spot.Branch token w ∷ []) xs m (rises-branch token w) r

pub declarator-length : (d : Declarator) → d.stars + 1 ≤ length (declarator_kinds d)
declarator-length d = omega (
  arith,
  len3 (star_kinds d.stars) (a_name d.name) (flat_map bound_kinds d.bounds),
  length-replicate d.stars
      (kind.Punctuator sign.Star),
)

rises-initial : (at : ℕ) (d : Declarator) (o : Option InitialTree) → d.name_token ≡ at + d.stars →
    IfSome o (InitialAt (at + length (declarator_kinds d) + 1)) →
    Rises at (at + length (declarator_kinds d ++ optional_kinds (λ y. a_sign sign.Equal ++ initial_kinds y) o)) (initial_spots d.name_token o)
rises-initial at d None is p = omega arith
rises-initial at d (Some (s.Value value)) is p =
    let from = at + length (declarator_kinds d) + 1 in
    let end = from + length (expr_kinds value) in
    let name = d.name_token in
    let whole : length (declarator_kinds d ++ (a_sign sign.Equal ++ expr_kinds value)) ≡ length (declarator_kinds d) + length
    (a_sign sign.Equal ++ expr_kinds value) =
    length-append (declarator_kinds d) (a_sign sign.Equal ++ expr_kinds value) in
    let behind : length (a_sign sign.Equal ++ expr_kinds value) ≡ length (a_sign sign.Equal) + length (expr_kinds value) =
    length-append (a_sign sign.Equal) (expr_kinds value) in
    wider (name + 1) end at _ (spot.Change (name + 1) name ∷ expr_spots value) (omega (arith, is)) (omega (arith, whole, behind))
    (join (name + 1) (name + 1 + 1) from end (spot.Change (name + 1) name ∷ []) (expr_spots value) (omega (arith, is, declarator-length d))
    (rises-changed (name + 1) (Some name)) (rises-expr from value p))
rises-initial at d (Some (s.Braced token items comma)) is p =
    let from = at + length (declarator_kinds d) + 1 in
    let inner = exprs_kinds items ++ comma_kinds comma in
    let whole : length (declarator_kinds d ++ (a_sign sign.Equal ++ braced_kinds inner)) ≡ length (declarator_kinds d) + length
    (a_sign sign.Equal ++ braced_kinds inner) =
    length-append (declarator_kinds d) (a_sign sign.Equal ++ braced_kinds inner) in
    let behind : length (a_sign sign.Equal ++ braced_kinds inner) ≡ length (a_sign sign.Equal) + length (braced_kinds inner) =
    length-append (a_sign sign.Equal) (braced_kinds inner) in
    wider (from + 1) (from + 1 + length (exprs_kinds items)) at _ (exprs_spots items) (omega arith)
    (omega (arith, whole, behind, brace-length inner, length-append (exprs_kinds items) (comma_kinds comma)))
    (rises-exprs (from + 1) items p.1)

rises-start : (at : ℕ) (x : StartTree) → StartAt at x → Rises at (at + length (start_kinds x)) (start_spots x)
rises-start at x p = rises-initial at x.declarator x.initial p.1.1 p.2

rises-more_starts : (at : ℕ) (xs : List StartTree) → EachAt StartAt start_kinds 1 (at + 1) xs →
    Rises at (at + length (after_commas start_kinds xs)) (starts_spots xs)
rises-more_starts at [] p = omega arith
rises-more_starts at (x ∷ xs) p =
    let lx = length (start_kinds x) in
    let lr = length (after_commas start_kinds xs) in
    let one = λ (y : StartTree). a_sign sign.Comma ++ start_kinds y in
    let split : length (after_commas start_kinds (x ∷ xs)) ≡ length (one x ++ after_commas start_kinds xs) = ap length (flat_map-cons one x xs) in
    let whole : length (one x ++ after_commas start_kinds xs) ≡ length (a_sign sign.Comma) + lx + lr =
    len3 (a_sign sign.Comma) (start_kinds x) (after_commas start_kinds xs) in
    wider (at + 1) (at + 1 + lx + lr) at _ (start_spots x ++ starts_spots xs) (omega arith) (omega (arith, split, whole))
    (join (at + 1) (at + 1 + lx) (at + 1 + lx) (at + 1 + lx + lr) (start_spots x) (starts_spots xs) (omega arith) (rises-start (at + 1) x p.0)
    (rises-more_starts (at + 1 + lx) xs p.1))

rises-starts : (at : ℕ) (xs : List StartTree) → EachAt StartAt start_kinds 1 at xs → Rises at (at + length (with_commas start_kinds xs)) (starts_spots xs)
rises-starts at [] p = omega arith
rises-starts at (x ∷ xs) p =
    let lx = length (start_kinds x) in
    let lr = length (after_commas start_kinds xs) in
    let whole : length (with_commas start_kinds (x ∷ xs)) ≡ lx + lr = length-append (start_kinds x) (after_commas start_kinds xs) in
    wider at (at + lx + lr) at _ (start_spots x ++ starts_spots xs) (omega arith) (omega (arith, whole))
    (join at (at + lx) (at + lx) (at + lx + lr) (start_spots x) (starts_spots xs) (omega arith) (rises-start at x p.0) (rises-more_starts (at + lx) xs p.1))

pub rises-declaration : (at : ℕ) (d : DeclarationTree) → DeclarationAt at d → Rises at (at + length (declaration_kinds d)) (declaration_spots d)
rises-declaration at d p =
    let lb = length (base_kinds d.base) in
    let ls = length (with_commas start_kinds d.starts) in
    let whole : length (declaration_kinds d) ≡ lb + ls + length (a_sign sign.Semicolon) = len3 (base_kinds d.base) (with_commas start_kinds d.starts)
    (a_sign sign.Semicolon) in
    wider (at + lb) (at + lb + ls) at _ (declaration_spots d) (omega arith) (omega (arith, whole)) (rises-starts (at + lb) d.starts p.2)

pub rises-for_start : (at : ℕ) (x : ForStartTree) → ForStartAt at x → Rises at (at + length (for_start_kinds x)) (for_start_spots x)
rises-for_start at (s.Declares d) p = rises-declaration at d p
rises-for_start at (s.Computes x) p =
    let whole : length (for_start_kinds (s.Computes x)) ≡ length (optional_kinds expr_kinds x) + length (a_sign sign.Semicolon) =
    length-append (optional_kinds expr_kinds x) (a_sign sign.Semicolon) in
    wider at (at + length (optional_kinds expr_kinds x)) at _ (part_spots x) (omega arith) (omega (arith, whole)) (rises-part at x p)

rises-for : (token : ℕ) (condition : Option ExprTree) → Rises token (token + 1) (for_spots token condition)
rises-for token None = omega arith
rises-for token (Some condition) = rises-branch token For

mutual
  rises-statement : (at : ℕ) (x : StatementTree) → StatementAt at x → Rises at (at + length (statement_kinds x)) (statement_spots x)
  rises-statement at (s.Block token entries) p =
      wider (at + 1) (at + 1 + length (entry_kinds entries)) at _ (entries_spots entries) (omega arith) (omega (
        arith,
        brace-length
            (entry_kinds entries),
      )) (rises-entries (at + 1) entries p.1)
  rises-statement at (s.Expr token x) p =
      let whole : length (statement_kinds (s.Expr token x)) ≡ length (expr_kinds x) + length (a_sign sign.Semicolon) =
      length-append (expr_kinds x) (a_sign sign.Semicolon) in
      wider at (at + length (expr_kinds x)) at _ (expr_spots x) (omega arith) (omega (arith, whole)) (rises-expr at x p.1)
  rises-statement at (s.If token condition first) p =
      let lc = length (expr_kinds condition) in
      let body = at + 2 + lc + 1 in
      let end = body + length (statement_kinds first) in
      let whole : length (statement_kinds (s.If token condition first)) ≡ length (a_word word.If) + length (parenthesized_kinds
      (expr_kinds condition)) + length (statement_kinds first) =
      len3 (a_word word.If) (parenthesized_kinds (expr_kinds condition)) (statement_kinds first) in
      wider token end at _ (statement_spots (s.If token condition first)) (omega (arith, p.0)) (omega (arith, whole, paren-length (expr_kinds condition)))
      (join token (at + 2 + lc) body end (spot.Branch token If ∷ expr_spots condition) (statement_spots first) (omega arith)
      (led token (at + 2) (at + 2 + lc) If (expr_spots condition) (omega (arith, p.0)) (rises-expr (at + 2) condition p.1))
      (rises-statement body first p.2))
  rises-statement at (s.IfElse token condition first second) p =
      let lc = length (expr_kinds condition) in
      let body = at + 2 + lc + 1 in
      let lf = length (statement_kinds first) in
      let other = body + lf + 1 in
      let end = other + length (statement_kinds second) in
      let whole : length (statement_kinds (s.IfElse token condition first second)) ≡
      length (a_word word.If) + length (parenthesized_kinds (expr_kinds condition)) + lf + length (a_word word.Else) + length (statement_kinds second) =
      len5 (a_word word.If) (parenthesized_kinds (expr_kinds condition)) (statement_kinds first) (a_word word.Else) (statement_kinds second) in
      wider token end at _ (statement_spots (s.IfElse token condition first second)) (omega (arith, p.0)) (omega (
        arith,
        whole,
        paren-length
            (expr_kinds condition),
      ))
      (join3 token (at + 2 + lc) body (body + lf) other end (spot.Branch token If ∷ expr_spots condition) (statement_spots first)
      (statement_spots second) (omega arith) (omega arith)
      (led token (at + 2) (at + 2 + lc) If (expr_spots condition) (omega (arith, p.0)) (rises-expr (at + 2) condition p.1))
      (rises-statement body first p.2) (rises-statement other second p.3))
  rises-statement at (s.While token condition body) p =
      let lc = length (expr_kinds condition) in
      let from = at + 2 + lc + 1 in
      let end = from + length (statement_kinds body) in
      let whole : length (statement_kinds (s.While token condition body)) ≡ length (a_word word.While) + length (parenthesized_kinds
      (expr_kinds condition)) + length (statement_kinds body) =
      len3 (a_word word.While) (parenthesized_kinds (expr_kinds condition)) (statement_kinds body) in
      wider token end at _ (statement_spots (s.While token condition body)) (omega (arith, p.0)) (omega (arith, whole, paren-length (expr_kinds condition)))
      (join token (at + 2 + lc) from end (spot.Branch token While ∷ expr_spots condition) (statement_spots body) (omega arith)
      (led token (at + 2) (at + 2 + lc) While (expr_spots condition) (omega (arith, p.0)) (rises-expr (at + 2) condition p.1))
      (rises-statement from body p.2))
  rises-statement at (s.Do token body condition) p =
      let lb = length (statement_kinds body) in
      let from = at + 1 + lb + 2 in
      let end = from + length (expr_kinds condition) in
      let whole : length (statement_kinds (s.Do token body condition)) ≡
      length (a_word word.Do) + lb + length (a_word word.While) + length (parenthesized_kinds (expr_kinds condition)) + length (a_sign sign.Semicolon) =
      len5 (a_word word.Do) (statement_kinds body) (a_word word.While) (parenthesized_kinds (expr_kinds condition)) (a_sign sign.Semicolon) in
      wider token end at _ (statement_spots (s.Do token body condition)) (omega (arith, p.0)) (omega (arith, whole, paren-length (expr_kinds condition)))
      (join token (at + 1 + lb) from end (spot.Branch token Do ∷ statement_spots body) (expr_spots condition) (omega arith)
      (led token (at + 1) (at + 1 + lb) Do (statement_spots body) (omega (arith, p.0)) (rises-statement (at + 1) body p.1))
      (rises-expr from condition p.2))
  rises-statement at (s.For token start condition step body) p =
      let ks = for_start_kinds start in
      let kc = optional_kinds expr_kinds condition in
      let kt = optional_kinds expr_kinds step in
      let first = at + 2 + length ks in
      let third = first + length kc + 1 in
      let from = third + length kt + 1 in
      let end = from + length (statement_kinds body) in
      let inner : length (ks ++ kc ++ a_sign sign.Semicolon ++ kt) ≡ length ks + length kc + length (a_sign sign.Semicolon) + length kt =
      len4 ks kc (a_sign sign.Semicolon) kt in
      let whole : length (statement_kinds (s.For token start condition step body)) ≡
      length (a_word word.For) + length (parenthesized_kinds (ks ++ kc ++ a_sign sign.Semicolon ++ kt)) + length (statement_kinds body) =
      len3 (a_word word.For) (parenthesized_kinds (ks ++ kc ++ a_sign sign.Semicolon ++ kt)) (statement_kinds body) in
      wider token end at _ (statement_spots (s.For token start condition step body)) (omega (arith, p.0))
      (omega (arith, whole, inner, paren-length (ks ++ kc ++ a_sign sign.Semicolon ++ kt)))
      (join token (third + length kt) from end (for_spots token condition ++ for_start_spots start ++ part_spots condition ++ part_spots step)
      (statement_spots body) (omega arith)
      (join3 token first first (first + length kc) third (third + length kt)
      (for_spots token condition ++ for_start_spots start) (part_spots condition) (part_spots step) (omega arith) (omega arith)
      (join token (token + 1) (at + 2) first (for_spots token condition) (for_start_spots start) (omega (arith, p.0)) (rises-for token condition)
      (rises-for_start (at + 2) start p.1))
      (rises-part first condition p.2) (rises-part third step p.3))
      (rises-statement from body p.4))
  rises-statement at (s.Return token value) p =
      let whole : length (statement_kinds (s.Return token value)) ≡ length (a_word word.Return) + length (optional_kinds expr_kinds value) + length
      (a_sign sign.Semicolon) =
      len3 (a_word word.Return) (optional_kinds expr_kinds value) (a_sign sign.Semicolon) in
      wider (at + 1) (at + 1 + length (optional_kinds expr_kinds value)) at _ (part_spots value) (omega arith) (omega (arith, whole)) (rises-part
      (at + 1) value p.1)
  rises-statement at x p = omega arith

  pub rises-entries : (at : ℕ) (xs : EntryList) → EntriesAt at xs → Rises at (at + length (entry_kinds xs)) (entries_spots xs)
  rises-entries at s.no_entries p = omega arith
  rises-entries at (s.declared d rest) p =
      let ld = length (declaration_kinds d) in
      let lr = length (entry_kinds rest) in
      let whole : length (entry_kinds (s.declared d rest)) ≡ ld + lr = length-append (declaration_kinds d) (entry_kinds rest) in
      wider at (at + ld + lr) at _ (declaration_spots d ++ entries_spots rest) (omega arith) (omega (arith, whole))
      (join at (at + ld) (at + ld) (at + ld + lr) (declaration_spots d) (entries_spots rest) (omega arith) (rises-declaration at d p.0) (rises-entries
      (at + ld) rest p.1))
  rises-entries at (s.stated x rest) p =
      let lx = length (statement_kinds x) in
      let lr = length (entry_kinds rest) in
      let whole : length (entry_kinds (s.stated x rest)) ≡ lx + lr = length-append (statement_kinds x) (entry_kinds rest) in
      wider at (at + lx + lr) at _ (statement_spots x ++ entries_spots rest) (omega arith) (omega (arith, whole))
      (join at (at + lx) (at + lx) (at + lx + lr) (statement_spots x) (entries_spots rest) (omega arith) (rises-statement at x p.0) (rises-entries
      (at + lx) rest p.1))
