-- The parser of statements as a function on lists meets its rules at every depth.
use Rattle.std.proofs.Common.{◌≡◌, ℕ, zero, suc, ◌≤◌, ◌==◌, true, false, inl, inr, [], ◌∷◌, ◌++◌, Option, Some, None, Ok, Err, refl, sym, ap, ◌∙◌, subst, arith}
use Rattle.std.proofs.lemmas.Bool.{cases_Bool}
use Rattle.c_syntax.specs.declared.token.Sign.TheVariants as sign_is
use Rattle.c_syntax.specs.declared.token.Word.TheVariants as word_is
use Rattle.c_syntax.specs.declared.token.TokenKind.{TokenKind}
use Rattle.c_syntax.specs.declared.token.TokenKind.TheVariants as kind
use Rattle.c_syntax.specs.Words.{ExprTree, StatementTree, if_tree, Kinds, statement_kinds, ends_open}
use Rattle.c_syntax.specs.StatementTree as s
use Rattle.c_parser_expressions.specs.Reading.{Cursor, SameUpTo, Found, Fails, Read, Outcome, rule_before_sign, sign_rule, first_kind, next_cursor, kinds_behind_first, sign_at, word_at}
use Rattle.c_parser_expressions.specs.Marks.{begins_with_word}
use Rattle.c_parser_expressions.specs.Steps.{◌>>=◌, the_sign}
use Rattle.c_parser_expressions.specs.Expressions.{expression}
use Rattle.c_parser_expressions.specs.ExpressionParser.{closed_by, whole_by, deeper_than}
use Rattle.c_parser_statements.specs.Statements.{IsStatement, EndsStatement, statement, inner_statement, if_branches, condition, ended_by, do_loop_end, for_header, entries_end}
use Rattle.c_parser_statements.specs.StatementParser.{optional_by, condition_by, expression_by, otherwise_by, if_by, while_by, until_by, do_by, header_by, for_by, return_by, jump_by, entries_by, block_by, statement_of, statement_by, statement_at_depth, statements_below}
use Rattle.c_parser_expressions.proofs.Heads.{word-head, says-word, word-says}
use Rattle.c_parser_expressions.proofs.Laws.{Leads, leads-here, leads-found, leads-fails, leads-trans, leads-outcome, part, finish}
use Rattle.c_parser_expressions.proofs.Tokens.{sign-parses, fails-here}
use Rattle.c_parser_declarations.proofs.Initials.{ReadsAssignments, ReadsInner, twice}
use Rattle.c_parser_statements.proofs.Conditions.{ReadsWhole, closed-parses, condition-parses, ended-parses, until-parses, header-parses}
use Rattle.c_parser_statements.proofs.Branches.{branch-alone, branch-else, branch-none}
use Rattle.c_parser_statements.proofs.BlockEntries.{entries-parses}
use Rattle.c_parser_statements.proofs.Sentences.{while-back, while-leads, do-back, do-leads, for_tree, for-back, for-leads, if_of, if-back, if-leads, return-leads, break-leads, continue-leads, block-leads, empty-found, begins_other, expr-leads}

-- what is read can have behind it what stands there
abbrev pub Shuts : Read StatementTree → Type 0
Shuts (Ok p) = EndsStatement p.0 p.1.rest
Shuts (Err i) = Unit {0}

shuts-bind : {B : Type 0} (r : Read B) (f : B × Cursor → Read StatementTree) → ((x : B) (to : Cursor) → Shuts (f (x, to))) → Shuts (r >>= f)
shuts-bind (Ok p) f h = h p.0 p.1
shuts-bind (Err i) f h = tt

shuts-body : (r : Read StatementTree) (make : StatementTree → StatementTree) → ((x : StatementTree) → ends_open (make x) ≡ ends_open x) → Shuts r
    → Shuts (r >>= (λ y. Ok (make y.0, y.1)))
shuts-body (Ok p) make ends h = record { closed = λ t. h.closed (sym (ends p.0) ∙ t) }
shuts-body (Err i) make ends h = tt

shuts-made : {B : Type 0} (r : Read B) (make : B → StatementTree) → ((x : B) → ends_open (make x) ≡ false) → Shuts (r >>= (λ y. Ok (make y.0, y.1)))
shuts-made (Ok p) make shut = record { closed = λ t. (let e : true ≡ false = sym t ∙ shut p.0 in cc) }
shuts-made (Err i) make shut = tt

-- what is known of the statements that lie deeper
pub record ReadsDeeper (d : ℕ) (deeper : Cursor → Read StatementTree) : Type 0 where
  pub reads : (c : Cursor) → Outcome (inner_statement d) c (deeper c)
  pub shuts : (c : Cursor) → Shuts (deeper c)

-- at depth 0 nothing begins with a word that calls for a part one deeper
if-deep : (c : Cursor) (x : StatementTree) (k : Kinds) → word_at c.rest ≡ Some word_is.If → IsStatement 0 c.at x → EndsStatement x k
    → SameUpTo c.at c.at c.rest (statement_kinds x ++ k) → ⊥
if-deep c x k h is ends same =
    let b = if-back 0 c.at c.at (kinds_behind_first c.rest) k x is ends (subst (λ (v : Kinds). SameUpTo c.at c.at v (statement_kinds x ++ k))
    (word-head c.rest word_is.If h) same) in
    let n = b.2.1.0.nests in omega arith

while-deep : (c : Cursor) (x : StatementTree) (k : Kinds) → word_at c.rest ≡ Some word_is.While → IsStatement 0 c.at x → EndsStatement x k
    → SameUpTo c.at c.at c.rest (statement_kinds x ++ k) → ⊥
while-deep c x k h is ends same =
    let b = while-back 0 c.at c.at (kinds_behind_first c.rest) k x is ends (subst (λ (v : Kinds). SameUpTo c.at c.at v (statement_kinds x ++ k))
    (word-head c.rest word_is.While h) same) in
    let n = b.2.1.nests in omega arith

do-deep : (c : Cursor) (x : StatementTree) (k : Kinds) → word_at c.rest ≡ Some word_is.Do → IsStatement 0 c.at x → EndsStatement x k
    → SameUpTo c.at c.at c.rest (statement_kinds x ++ k) → ⊥
do-deep c x k h is ends same =
    let b = do-back 0 c.at c.at (kinds_behind_first c.rest) k x is (subst (λ (v : Kinds). SameUpTo c.at c.at v (statement_kinds x ++ k))
    (word-head c.rest word_is.Do h) same) in
    let n = b.2.0.nests in omega arith

for-deep : (c : Cursor) (x : StatementTree) (k : Kinds) → word_at c.rest ≡ Some word_is.For → IsStatement 0 c.at x → EndsStatement x k
    → SameUpTo c.at c.at c.rest (statement_kinds x ++ k) → ⊥
for-deep c x k h is ends same =
    let b = for-back 0 c.at c.at (kinds_behind_first c.rest) k x is ends (subst (λ (v : Kinds). SameUpTo c.at c.at v (statement_kinds x ++ k))
    (word-head c.rest word_is.For h) same) in
    let n = b.2.1.nests in omega arith

-- if

abbrev Branches : Type 0
Branches = StatementTree × Option StatementTree

second-parses : (d : ℕ) (deeper : Cursor → Read StatementTree) → ReadsDeeper d deeper → (c mid to : Cursor) (v : ExprTree) (x : StatementTree)
    → Leads (statement d) (if_branches d) c mid (λ p. if_of c.at (v, p))
    → Found (inner_statement d) mid x to → EndsStatement x to.rest → Outcome (statement d) c (otherwise_by deeper to >>= (λ z. Ok (if_tree c.at v x z.0, z.1)))
unfolding otherwise_by
second-parses d deeper known c mid to v x l f shut = elim (cases_Bool (begins_with_word word_is.Else to.rest)) [
  | inl t ↦
      (let at_w : word_at to.rest ≡ Some word_is.Else = says-word word_is.Else to.rest (omega arith) t in
      let closed : ends_open x ≡ false = elim (cases_Bool (ends_open x)) [ inl o ↦ absurd ((shut.closed o).not at_w) | inr n ↦ n ] in
      rw t (subst (λ (r : Read StatementTree). Outcome (statement d) c r) (sym (twice (deeper (next_cursor to)) (λ z. Some z) (λ z. if_tree c.at v x z)))
      (finish (statement d) (inner_statement d) c (next_cursor to) (λ z. if_tree c.at v x (Some z)) (deeper (next_cursor to))
      (leads-trans (statement d) (if_branches d) (inner_statement d) c mid (next_cursor to) (λ p. if_of c.at (v, p)) (λ z. (x, Some z)) l
      (branch-else d mid to x f at_w closed)) (known.reads (next_cursor to)))))
  | inr g ↦
      rw g (leads-found (statement d) (if_branches d) c mid to (λ p. if_of c.at (v, p)) (x, None) l
      (branch-alone d mid to x f (record { not = λ h. (let t = word-says word_is.Else to.rest h in cc) })))
]

first-parses : (d : ℕ) (deeper : Cursor → Read StatementTree) → ReadsDeeper d deeper → (c mid : Cursor) (v : ExprTree) (r : Read StatementTree)
    → Leads (statement d) (if_branches d) c mid (λ p. if_of c.at (v, p))
    → Outcome (inner_statement d) mid r → Shuts r → Outcome (statement d) c (r >>= (λ y. otherwise_by deeper y.1 >>= (λ z. Ok (if_tree c.at v y.0 z.0, z.1))))
first-parses d deeper known c mid v (Ok p) l o shut = second-parses d deeper known c mid p.1 v p.0 l o shut
first-parses d deeper known c mid v (Err i) l o shut = leads-fails (statement d) (if_branches d) c mid (λ p. if_of c.at (v, p)) i l (branch-none d mid i o)

-- a statement that begins with this token calls for a part one deeper
deep-word : (d : ℕ) (c : Cursor) → (d == 0) ≡ true → ((x : StatementTree) (k : Kinds) → IsStatement 0 c.at x → EndsStatement x k
    → SameUpTo c.at c.at c.rest (statement_kinds x ++ k) → ⊥) → Fails (statement d) c c.at
deep-word d c t none =
    let zero_is : d ≡ 0 = grind arith in
    fails-here (statement d) c (λ x k is ends same. none x k (subst (λ (n : ℕ). IsStatement n c.at x) zero_is is) ends same)

if-parses : ReadsWhole → (d : ℕ) (deeper : Cursor → Read StatementTree) → ReadsDeeper d deeper → (c : Cursor) → word_at c.rest ≡ Some word_is.If
    → Outcome (statement d) c (if_by d deeper c)
unfolding if_by
if-parses whole d deeper known c h = elim (cases_Bool (d == 0)) [
  | inl t ↦ rw t (deep-word d c t (λ x k is ends same. if-deep c x k h is ends same))
  | inr f ↦ rw f (part (statement d) (condition d) (λ v. if_branches d) c (next_cursor c) (if_of c.at) (condition_by d (next_cursor c))
      (λ v. deeper v.1 >>= (λ y. otherwise_by deeper y.1 >>= (λ z. Ok (if_tree c.at v.0 y.0 z.0, z.1))))
      (λ at v y k v_is y_is ends. record {}) (if-leads d c h) (condition-parses whole d (next_cursor c))
      (λ v to found l. first-parses d deeper known c to v (deeper to) l (known.reads to) (known.shuts to)))
]

second-shuts : (deeper : Cursor → Read StatementTree) → ((c : Cursor) → Shuts (deeper c)) → (at : ℕ) (v : ExprTree) (x : StatementTree) (to : Cursor)
    → Shuts (otherwise_by deeper to >>= (λ z. Ok (if_tree at v x z.0, z.1)))
unfolding otherwise_by
second-shuts deeper shuts at v x to = elim (cases_Bool (begins_with_word word_is.Else to.rest)) [
  | inl t ↦ rw t (subst Shuts (sym (twice (deeper (next_cursor to)) (λ z. Some z) (λ z. if_tree at v x z)))
      (shuts-body (deeper (next_cursor to)) (λ z. s.IfElse at v x z) (λ z. refl) (shuts (next_cursor to))))
  | inr g ↦ rw g (record { closed = λ o. record { not = λ h. (let t = word-says word_is.Else to.rest h in cc) } })
]

if-shuts : (d : ℕ) (deeper : Cursor → Read StatementTree) → ((c : Cursor) → Shuts (deeper c)) → (c : Cursor) → Shuts (if_by d deeper c)
unfolding if_by
if-shuts d deeper shuts c = elim (cases_Bool (d == 0)) [
  | inl t ↦ rw t tt
  | inr f ↦ rw f (shuts-bind (condition_by d (next_cursor c)) (λ v. deeper v.1 >>= (λ y. otherwise_by deeper y.1 >>= (λ z. Ok (if_tree c.at v.0 y.0 z.0, z.1))))
      (λ v to. shuts-bind (deeper to) (λ y. otherwise_by deeper y.1 >>= (λ z. Ok (if_tree c.at v y.0 z.0, z.1)))
      (λ y mid. second-shuts deeper shuts c.at v y mid)))
]

-- while

while-parses : ReadsWhole → (d : ℕ) (deeper : Cursor → Read StatementTree) → ReadsDeeper d deeper → (c : Cursor) → word_at c.rest ≡ Some word_is.While
    → Outcome (statement d) c (while_by d deeper c)
unfolding while_by
while-parses whole d deeper known c h = elim (cases_Bool (d == 0)) [
  | inl t ↦ rw t (deep-word d c t (λ x k is ends same. while-deep c x k h is ends same))
  | inr f ↦ rw f (part (statement d) (condition d) (λ v. inner_statement d) c (next_cursor c) (λ p. s.While c.at p.0 p.1) (condition_by d (next_cursor c))
      (λ v. deeper v.1 >>= (λ y. Ok (s.While c.at v.0 y.0, y.1)))
      (λ at v y k v_is y_is ends. record {}) (while-leads d c h) (condition-parses whole d (next_cursor c))
      (λ v to found l. finish (statement d) (inner_statement d) c to (s.While c.at v) (deeper to) l (known.reads to)))
]

while-shuts : (d : ℕ) (deeper : Cursor → Read StatementTree) → ((c : Cursor) → Shuts (deeper c)) → (c : Cursor) → Shuts (while_by d deeper c)
unfolding while_by
while-shuts d deeper shuts c = elim (cases_Bool (d == 0)) [
  | inl t ↦ rw t tt
  | inr f ↦ rw f (shuts-bind (condition_by d (next_cursor c)) (λ v. deeper v.1 >>= (λ y. Ok (s.While c.at v.0 y.0, y.1)))
      (λ v to. shuts-body (deeper to) (s.While c.at v) (λ x. refl) (shuts to)))
]

-- do

do-parses : ReadsWhole → (d : ℕ) (deeper : Cursor → Read StatementTree) → ReadsDeeper d deeper → (c : Cursor) → word_at c.rest ≡ Some word_is.Do
    → Outcome (statement d) c (do_by d deeper c)
unfolding do_by
do-parses whole d deeper known c h = elim (cases_Bool (d == 0)) [
  | inl t ↦ rw t (deep-word d c t (λ x k is ends same. do-deep c x k h is ends same))
  | inr f ↦ rw f (part (statement d) (inner_statement d) (λ v. do_loop_end d) c (next_cursor c) (λ p. s.Do c.at p.0 p.1) (deeper (next_cursor c))
      (λ v. until_by d v.1 >>= (λ y. Ok (s.Do c.at v.0 y.0, y.1)))
      (λ at v y k v_is y_is ends. record { closed = λ o. record { not = λ t. cc } }) (do-leads d c h) (known.reads (next_cursor c))
      (λ v to found l. finish (statement d) (do_loop_end d) c to (s.Do c.at v) (until_by d to) l (until-parses whole d to)))
]

do-shuts : (d : ℕ) (deeper : Cursor → Read StatementTree) (c : Cursor) → Shuts (do_by d deeper c)
unfolding do_by
do-shuts d deeper c = elim (cases_Bool (d == 0)) [
  | inl t ↦ rw t tt
  | inr f ↦ rw f (shuts-bind (deeper (next_cursor c)) (λ v. until_by d v.1 >>= (λ y. Ok (s.Do c.at v.0 y.0, y.1)))
      (λ v to. shuts-made (until_by d to) (s.Do c.at v) (λ y. refl)))
]

-- for

for-parses : ReadsWhole → ReadsAssignments → ReadsInner → (d : ℕ) (deeper : Cursor → Read StatementTree) → ReadsDeeper d deeper → (c : Cursor)
    → word_at c.rest ≡ Some word_is.For → Outcome (statement d) c (for_by d deeper c)
unfolding for_by
for-parses whole assigns inside d deeper known c h = elim (cases_Bool (d == 0)) [
  | inl t ↦ rw t (deep-word d c t (λ x k is ends same. for-deep c x k h is ends same))
  | inr f ↦
      (let positive : 1 ≤ d = grind arith in
      rw f (part (statement d) (for_header d) (λ v. inner_statement d) c (next_cursor c) (for_tree c.at) (header_by d (next_cursor c))
      (λ v. deeper v.1 >>= (λ y. Ok (s.For c.at v.0.start v.0.condition v.0.step y.0, y.1)))
      (λ at v y k v_is y_is ends. record {}) (for-leads d c h) (header-parses whole assigns inside d positive (next_cursor c))
      (λ v to found l. finish (statement d) (inner_statement d) c to (λ y. for_tree c.at (v, y)) (deeper to) l (known.reads to))))
]

for-shuts : (d : ℕ) (deeper : Cursor → Read StatementTree) → ((c : Cursor) → Shuts (deeper c)) → (c : Cursor) → Shuts (for_by d deeper c)
unfolding for_by
for-shuts d deeper shuts c = elim (cases_Bool (d == 0)) [
  | inl t ↦ rw t tt
  | inr f ↦ rw f (shuts-bind (header_by d (next_cursor c)) (λ v. deeper v.1 >>= (λ y. Ok (s.For c.at v.0.start v.0.condition v.0.step y.0, y.1)))
      (λ v to. shuts-body (deeper to) (λ y. for_tree c.at (v, y)) (λ x. refl) (shuts to)))
]

-- the others

return-parses : ReadsWhole → (d : ℕ) (c : Cursor) → word_at c.rest ≡ Some word_is.Return → Outcome (statement d) c (return_by d c)
unfolding return_by
return-parses whole d c h = finish (statement d) (ended_by d sign_is.Semicolon) c (next_cursor c) (s.Return c.at) (optional_by d sign_is.Semicolon (next_cursor c))
    (return-leads d c h) (ended-parses whole d sign_is.Semicolon (next_cursor c) (omega arith) refl refl)

return-shuts : (d : ℕ) (c : Cursor) → Shuts (return_by d c)
unfolding return_by
return-shuts d c = shuts-made (optional_by d sign_is.Semicolon (next_cursor c)) (s.Return c.at) (λ o. refl)

jump-parses : (d : ℕ) (c : Cursor) (jump : ℕ → StatementTree) → Leads (statement d) (sign_rule sign_is.Semicolon) c (next_cursor c) (λ u. jump c.at)
    → Outcome (statement d) c (jump_by jump c)
unfolding jump_by
jump-parses d c jump l = finish (statement d) (sign_rule sign_is.Semicolon) c (next_cursor c) (λ u. jump c.at) (the_sign sign_is.Semicolon (next_cursor c)) l
    (sign-parses sign_is.Semicolon (next_cursor c) (omega arith))

jump-shuts : (c : Cursor) (jump : ℕ → StatementTree) → ends_open (jump c.at) ≡ false → Shuts (jump_by jump c)
unfolding jump_by
jump-shuts c jump shut = shuts-made (the_sign sign_is.Semicolon (next_cursor c)) (λ u. jump c.at) (λ u. shut)

block-parses : ReadsAssignments → ReadsInner → (d : ℕ) (deeper : Cursor → Read StatementTree) → ReadsDeeper d deeper → (c : Cursor)
    → sign_at c.rest ≡ Some sign_is.LeftBrace → Outcome (statement d) c (block_by d deeper c)
unfolding block_by
block-parses assigns inside d deeper known c h =
    finish (statement d) (entries_end d) c (next_cursor c) (s.Block c.at) (entries_by d deeper (next_cursor c)) (block-leads d c h)
    (entries-parses assigns inside d deeper known.reads (next_cursor c))

block-shuts : (d : ℕ) (deeper : Cursor → Read StatementTree) (c : Cursor) → Shuts (block_by d deeper c)
unfolding block_by
block-shuts d deeper c = shuts-made (entries_by d deeper (next_cursor c)) (s.Block c.at) (λ xs. refl)

expr-parses : ReadsWhole → (d : ℕ) (c : Cursor) → begins_other (first_kind c.rest) ≡ false → Outcome (statement d) c (expression_by d c)
unfolding expression_by
expr-parses whole d c other =
    finish (statement d) (rule_before_sign (expression 0 d) sign_is.Semicolon) c c (s.Expr c.at) (closed_by (whole_by d (deeper_than d)) sign_is.Semicolon c)
    (expr-leads d c other) (closed-parses whole d sign_is.Semicolon c (omega arith) refl)

expr-shuts : (d : ℕ) (c : Cursor) → Shuts (expression_by d c)
unfolding expression_by
expr-shuts d c = shuts-made (closed_by (whole_by d (deeper_than d)) sign_is.Semicolon c) (s.Expr c.at) (λ v. refl)

-- by the first token

first-sign : (k : Kinds) (x : _) → first_kind k ≡ Some (kind.Punctuator x) → sign_at k ≡ Some x
first-sign [] x h = cc
first-sign (t ∷ k) x h = let e : t ≡ kind.Punctuator x = cc in ap (λ (v : TokenKind). sign_at (v ∷ k)) e

first-word : (k : Kinds) (w : _) → first_kind k ≡ Some (kind.Word w) → word_at k ≡ Some w
first-word [] w h = cc
first-word (t ∷ k) w h = let e : t ≡ kind.Word w = cc in ap (λ (v : TokenKind). word_at (v ∷ k)) e

of-parses : ReadsWhole → ReadsAssignments → ReadsInner → (d : ℕ) (deeper : Cursor → Read StatementTree) → ReadsDeeper d deeper
    → (c : Cursor) (t : Option TokenKind) → first_kind c.rest ≡ t → Outcome (statement d) c (statement_of d deeper c t)
of-parses whole assigns inside d deeper known c (Some (kind.Punctuator sign_is.LeftBrace)) h =
    block-parses assigns inside d deeper known c (first-sign c.rest sign_is.LeftBrace h)
of-parses whole assigns inside d deeper known c (Some (kind.Punctuator sign_is.Semicolon)) h = empty-found d c (first-sign c.rest sign_is.Semicolon h)
of-parses whole assigns inside d deeper known c (Some (kind.Word word_is.If)) h = if-parses whole d deeper known c (first-word c.rest word_is.If h)
of-parses whole assigns inside d deeper known c (Some (kind.Word word_is.While)) h = while-parses whole d deeper known c (first-word c.rest word_is.While h)
of-parses whole assigns inside d deeper known c (Some (kind.Word word_is.Do)) h = do-parses whole d deeper known c (first-word c.rest word_is.Do h)
of-parses whole assigns inside d deeper known c (Some (kind.Word word_is.For)) h =
    for-parses whole assigns inside d deeper known c (first-word c.rest word_is.For h)
of-parses whole assigns inside d deeper known c (Some (kind.Word word_is.Return)) h = return-parses whole d c (first-word c.rest word_is.Return h)
of-parses whole assigns inside d deeper known c (Some (kind.Word word_is.Break)) h =
    jump-parses d c s.Break (break-leads d c (first-word c.rest word_is.Break h))
of-parses whole assigns inside d deeper known c (Some (kind.Word word_is.Continue)) h =
    jump-parses d c s.Continue (continue-leads d c (first-word c.rest word_is.Continue h))
of-parses whole assigns inside d deeper known c t h = expr-parses whole d c (ap begins_other h)

of-shuts : (d : ℕ) (deeper : Cursor → Read StatementTree) → ((c : Cursor) → Shuts (deeper c)) → (c : Cursor) (t : Option TokenKind)
    → Shuts (statement_of d deeper c t)
of-shuts d deeper shuts c (Some (kind.Punctuator sign_is.LeftBrace)) = block-shuts d deeper c
of-shuts d deeper shuts c (Some (kind.Punctuator sign_is.Semicolon)) = record { closed = λ t. cc }
of-shuts d deeper shuts c (Some (kind.Word word_is.If)) = if-shuts d deeper shuts c
of-shuts d deeper shuts c (Some (kind.Word word_is.While)) = while-shuts d deeper shuts c
of-shuts d deeper shuts c (Some (kind.Word word_is.Do)) = do-shuts d deeper c
of-shuts d deeper shuts c (Some (kind.Word word_is.For)) = for-shuts d deeper shuts c
of-shuts d deeper shuts c (Some (kind.Word word_is.Return)) = return-shuts d c
of-shuts d deeper shuts c (Some (kind.Word word_is.Break)) = jump-shuts c s.Break refl
of-shuts d deeper shuts c (Some (kind.Word word_is.Continue)) = jump-shuts c s.Continue refl
of-shuts d deeper shuts c t = expr-shuts d c

-- at every depth

pub record ReadsStatements (d : ℕ) (read : Cursor → Read StatementTree) : Type 0 where
  pub reads : (c : Cursor) → Outcome (statement d) c (read c)
  pub shuts : (c : Cursor) → Shuts (read c)

by-parses : ReadsWhole → ReadsAssignments → ReadsInner → (d : ℕ) (deeper : Cursor → Read StatementTree) → ReadsDeeper d deeper
    → ReadsStatements d (statement_by d deeper)
unfolding statement_by
by-parses whole assigns inside d deeper known = record {
  reads = λ c. of-parses whole assigns inside d deeper known c (first_kind c.rest) refl;
  shuts = λ c. of-shuts d deeper known.shuts c (first_kind c.rest);
}

nothing-deeper : ReadsDeeper 0 (λ c. Err c.at)
nothing-deeper = record { reads = λ c. fails-here (inner_statement 0) c (λ x k is ends same. (let n = is.nests in omega arith)); shuts = λ c. tt }

one-deeper : (n : ℕ) (read : Cursor → Read StatementTree) → ReadsStatements n read → ReadsDeeper (suc n) read
one-deeper n read known = record {
  reads = λ c. leads-outcome (inner_statement (suc n)) (statement n) c c (read c)
      (leads-here (inner_statement (suc n)) (statement n) c (λ x. x) (λ x is. (let m = is.nests in
      record { shaped = is.shaped; nests = omega arith; placed = is.placed })) (λ x. refl)
      (λ x k last is ends le same. (let m = is.nests in (x, refl, record { shaped = is.shaped; nests = omega arith; placed = is.placed }, ends))))
      (known.reads c);
  shuts = known.shuts;
}

pub statements-parse : ReadsWhole → ReadsAssignments → ReadsInner → (d : ℕ) → ReadsStatements d (statement_at_depth d)
unfolding statement_at_depth
statements-parse whole assigns inside zero = by-parses whole assigns inside 0 (λ c. Err c.at) nothing-deeper
statements-parse whole assigns inside (suc n) = by-parses whole assigns inside (suc n) (statement_at_depth n)
    (one-deeper n (statement_at_depth n) (statements-parse whole assigns inside n))

pub below-parse : ReadsWhole → ReadsAssignments → ReadsInner → (d : ℕ) → ReadsDeeper d (statements_below d)
unfolding statements_below
below-parse whole assigns inside zero = nothing-deeper
below-parse whole assigns inside (suc n) = one-deeper n (statement_at_depth n) (statements-parse whole assigns inside n)
