-- Statements that fit without sites fit with those that look at their new values.
use Rattle.std.proofs.Common.{inl, inr, ⊎_elim, ◌≡◌, ℕ, ◌≤◌, refl, ap, subst, arith, List, [], ◌∷◌, ◌++◌, Some, None, ◌+◌, Bool, true, false, length}
use Rattle.std.proofs.Common.{length-append}
use Rattle.std.specs.Prelude.{Option, ◌-◌, IfSome}
use Rattle.std.specs.List.{AllByRecursion}
use Rattle.std.proofs.lemmas.List.{append-nil}
use Rattle.c_syntax.specs.declared.token.Sign.TheVariants as sign
use Rattle.c_syntax.specs.declared.token.TokenKind.TheVariants as kind
use Rattle.c_syntax.specs.declared.token.Word.TheVariants as word
use Rattle.c_syntax.specs.declared.parts.Base.{Base}
use Rattle.c_syntax.specs.declared.parts.Base.TheVariants as base
use Rattle.c_syntax.specs.declared.parts.Declarator.{Declarator}
use Rattle.c_syntax.specs.Words.{SourceTree, ExprTree, ExprList, InitialTree, StartTree, DeclarationTree, ForStartTree, StatementTree, EntryList, DeclarationAt}
use Rattle.c_syntax.specs.Words.{EachAt, EntriesAt, ExprAt, ExprsAt, ForStartAt, InitialAt, StartAt, StatementAt, Kinds, a_name, a_sign, a_word, after_commas}
use Rattle.c_syntax.specs.Words.{base_kinds, braced_kinds, comma_kinds, declaration_kinds, declarator_kinds, entry_kinds, expr_kinds, exprs_kinds}
use Rattle.c_syntax.specs.Words.{for_start_kinds, initial_kinds, optional_kinds, parenthesized_kinds, start_kinds, statement_kinds, with_commas}
use Rattle.c_syntax.specs.ExprTree as e
use Rattle.c_syntax.specs.StatementTree as t
use Rattle.base_lists.proofs.Every.{all_so}
use Rattle.c_types_rules.specs.declared.library.Library.TheVariants as library
use Rattle.c_types_expressions.specs.declared.walk.Walk.{Walk}
use Rattle.c_types.specs.Answers.{declared_at, type_at}
use Rattle.flow.specs.declared.program.Text.{Text}
use Rattle.flow.specs.declared.site.BranchWord.TheVariants.{If, While, Do, For}
use Rattle.c_meaning.specs.declared.value_type.Called.{Called}
use Rattle.c_meaning.specs.declared.value_type.Called.TheVariants as called
use Rattle.c_meaning.specs.declared.value_type.ValueType.{ValueType}
use Rattle.c_meaning.specs.declared.value_type.ValueType.TheVariants as type
use Rattle.c_meaning.specs.Words.{Sites, facts_of, text_of_string, called_as}
use Rattle.c_meaning_laws.specs.Typed.{TypedArguments}
use Rattle.c_meaning_laws.specs.TypedStatements.{FitsFormat, IsPrint, TypedBeginning, TypedElements, TypedEntries, TypedFormat, TypedInitial, TypedPart, TypedPrint}
use Rattle.c_meaning_laws.specs.TypedStatements.{TypedStarts, TypedStatement, TypedTest, TypedValue, TypedWhole}
use Rattle.c_meaning_sound.proofs.Covering.{Covers, Has, Shows, declared_number, has_first, has_second, is_local, narrow, pairs_named}
use Rattle.c_meaning_sound.proofs.Lifting.{ExprsEnd, exprs_end, exprs_first, exprs_rest, lift, lift_arguments}
use Rattle.c_meaning_sound.proofs.Noting.{facts, none}
use Rattle.sites.specs.declared.spots.Spot.{Spot}
use Rattle.sites.specs.declared.spots.Spot.TheVariants as spot
use Rattle.sites.specs.Spots.{expr_spots, exprs_spots, part_spots}
use Rattle.sites.specs.Bodies.{declaration_spots, entries_spots, for_spots, for_start_spots, initial_spots, start_spots, starts_spots, statement_spots}
use Rattle.sites.proofs.Rises.{Rises, join, len3, len4, len5, paren-length, rises-branch, rises-expr, rises-part, wider}
use Rattle.sites.proofs.RisesBodies.{brace-length, led, rises-entries, declarator-length, rises-declaration, rises-for_start}

rises_statement : (at : ℕ) (x : StatementTree) → StatementAt at x → Rises at (at + length (statement_kinds x)) (statement_spots x)
rises_statement at x p = subst (λ ks. Rises at (at + length ks) (statement_spots x)) (append-nil (statement_kinds x))
    (subst (λ xs. Rises at (at + length (statement_kinds x ++ [])) xs) (append-nil (statement_spots x)) (rises-entries at (t.stated x t.no_entries) (p, tt)))

-- several declared variables, as those of a declaration whose base is one token
rises_starts : (at : ℕ) (xs : List StartTree) → 1 ≤ at → EachAt StartAt start_kinds 1 at xs → Rises (at - 1) (at + length (with_commas start_kinds xs) + 1)
    (starts_spots xs)
rises_starts at xs l p =
    let d : DeclarationTree = record { token = at - 1; base = base.Int (at - 1); starts = xs } in
    let here : at ≡ at - 1 + 1 = omega (arith, l) in
    let long : length (declaration_kinds d) ≡ 1 + length (with_commas start_kinds xs) + 1 =
    len3 (a_word word.Int) (with_commas start_kinds xs) (a_sign sign.Semicolon) in
    wider (at - 1) (at - 1 + length (declaration_kinds d)) (at - 1) (at + length (with_commas start_kinds xs) + 1) (starts_spots xs) (omega arith)
    (omega (arith, long, l))
    (rises-declaration (at - 1) d (refl, refl, subst (λ n. EachAt StartAt start_kinds 1 n xs) here p))

rises_start : (at : ℕ) (x : StartTree) → 1 ≤ at → StartAt at x → Rises (at - 1) (at + length (start_kinds x) + 1) (start_spots x)
rises_start at x l p =
    subst (λ n. Rises (at - 1) n (start_spots x)) (ap (λ ks. at + length ks + 1) (append-nil (start_kinds x)))
    (subst (λ xs. Rises (at - 1) (at + length (with_commas start_kinds (x ∷ [])) + 1) xs) (append-nil (start_spots x)) (rises_starts at (x ∷ []) l (p, tt)))

-- each of several variables ends there
abbrev pub StartsEnd : ℕ → List StartTree → ℕ → Type 0
StartsEnd at [] hi = Unit {0}
StartsEnd at (x ∷ xs) hi = (at + length (start_kinds x) ≤ hi) × StartsEnd (at + length (start_kinds x) + 1) xs hi

more_starts : (at hi : ℕ) (xs : List StartTree) → at + length (after_commas start_kinds xs) ≤ hi → StartsEnd (at + 1) xs hi
more_starts at hi [] h = tt
more_starts at hi (x ∷ xs) h =
    let long : length (after_commas start_kinds (x ∷ xs)) ≡ 1 + length (start_kinds x) + length (after_commas start_kinds xs) =
    len3 (a_sign sign.Comma) (start_kinds x) (after_commas start_kinds xs) in
    (omega (arith, h, long), more_starts (at + 1 + length (start_kinds x)) hi xs (omega (arith, h, long)))

starts_end : (at hi : ℕ) (xs : List StartTree) → at + length (with_commas start_kinds xs) ≤ hi → StartsEnd at xs hi
starts_end at hi [] h = tt
starts_end at hi (x ∷ xs) h =
    let long : length (with_commas start_kinds (x ∷ xs)) ≡ length (start_kinds x) + length (after_commas start_kinds xs) =
    length-append (start_kinds x) (after_commas start_kinds xs) in
    (omega (arith, h, long), more_starts (at + length (start_kinds x)) hi xs (omega (arith, h, long)))

module _ (tree : SourceTree) (z : Walk) (s : Sites) (c : ℕ) where
  lift_part : (x : Option ExprTree) (at : ℕ) → IfSome x (ExprAt at) → Covers tree z s at (at + length (optional_kinds expr_kinds x)) (part_spots x)
      → TypedPart (facts tree z) none c x → TypedPart (facts_of tree z) s c x
  lift_part None at p k h = h
  lift_part (Some x) at p k h = lift tree z s c x at p k h

  lift_test : (x : Option ExprTree) (at : ℕ) → IfSome x (ExprAt at) → Covers tree z s at (at + length (optional_kinds expr_kinds x)) (part_spots x)
      → TypedTest (facts tree z) none c x → TypedTest (facts_of tree z) s c x
  lift_test None at p k h = h
  lift_test (Some x) at p k h = (lift tree z s c x at p k h.0, h.1)

  -- the whole expression of a statement
  format_lift : (o : Option Text) (A B : List ValueType → Type 0) → ((types : List ValueType) → A types → B types) → FitsFormat o A → FitsFormat o B
  format_lift None A B f h = h
  format_lift (Some text) A B f h = f _ h

  lift_format : (xs : ExprList) (at hi : ℕ) → ExprsAt at xs → ExprsEnd at xs hi → Covers tree z s at hi (exprs_spots xs)
      → TypedFormat (facts tree z) none c xs → TypedFormat (facts_of tree z) s c xs
  lift_format e.no_exprs at hi p b k h = h
  lift_format (e.more_exprs x rest) at hi p b k h = format_lift (text_of_string (facts_of tree z) x) (λ types. TypedArguments (facts tree z) none c types rest)
      (λ types. TypedArguments (facts_of tree z) s c types rest)
      (λ types q. lift_arguments tree z s c types rest (at + length (expr_kinds x) + 1) hi p.1 b.1 (exprs_rest tree z s c x rest at hi p k) q) h

  prints_lift : (o : Called) (xs : ExprList) (at hi : ℕ) → ExprsAt at xs → ExprsEnd at xs hi → Covers tree z s at hi (exprs_spots xs)
      → TypedPrint (facts tree z) none c o xs → TypedPrint (facts_of tree z) s c o xs
  prints_lift (called.Library library.Printf) xs at hi p b k h = lift_format xs at hi p b k h
  prints_lift o xs at hi p b k h = h

  print_lift : (x : ExprTree) (at : ℕ) → ExprAt at x → Covers tree z s at (at + length (expr_kinds x)) (expr_spots x) → IsPrint (facts tree z) none c x
      → IsPrint (facts_of tree z) s c x
  print_lift (e.Call token name arguments) at p k h = prints_lift (called_as ((facts_of tree z).function_at token) name) arguments (at + 2)
      (at + 2 + length (exprs_kinds arguments)) p.1 (exprs_end (at + 2) (at + 2 + length (exprs_kinds arguments)) arguments (omega arith))
      (narrow tree z s at (at + length (expr_kinds (e.Call token name arguments))) (at + 2) (at + 2 + length (exprs_kinds arguments)) (exprs_spots arguments)
      (exprs_spots arguments) k (omega arith)
      (omega (arith, length-append (a_name name) (parenthesized_kinds (exprs_kinds arguments)), paren-length (exprs_kinds arguments))) (λ P q x y w. w)) h
  print_lift x at p k h = absurd h

  lift_whole : (x : ExprTree) (at : ℕ) → ExprAt at x → Covers tree z s at (at + length (expr_kinds x)) (expr_spots x) → TypedWhole (facts tree z) none c x
      → TypedWhole (facts_of tree z) s c x
  lift_whole x at p k h = ⊎_elim (λ a. inl (print_lift x at p k a)) (λ b. inr (lift tree z s c x at p k b)) h

  -- declared variables
  lift_elements : (of : Option ValueType) (xs : ExprList) (at hi : ℕ) → ExprsAt at xs → ExprsEnd at xs hi → Covers tree z s at hi (exprs_spots xs)
      → TypedElements (facts tree z) none c of xs → TypedElements (facts_of tree z) s c of xs
  lift_elements of e.no_exprs at hi p b k h = h
  lift_elements of (e.more_exprs x rest) at hi p b k h = (
    lift tree z s c x at p.0 (exprs_first tree z s c x rest at hi p b k) h.0,
    h.1,
    lift_elements of rest (at + length (expr_kinds x) + 1) hi p.1 b.1 (exprs_rest tree z s c x rest at hi p k) h.2,
  )

  value_lift : (name from : ℕ) (x : ExprTree) (o : Option ValueType) → ExprAt from x → Covers tree z s from (from + length (expr_kinds x)) (expr_spots x)
      → AllByRecursion (λ n. Has (λ target. Shows tree z s target n) (name + 1) (spot.Change (name + 1) name ∷ [])) (s.pairs_at (name + 1))
      → TypedValue (facts tree z) none c name o x → TypedValue (facts_of tree z) s c name o x
  value_lift name from x (Some (type.Array size)) p k q h = h
  value_lift name from x o p k q h = (lift tree z s c x from p k h.0, h.1, pairs_named tree z s name (name + 1) (name + 1) _ (s.pairs_at (name + 1)) (declared_number tree z s name) q)

  lift_initial : (d : Declarator) (o : Option InitialTree) (at : ℕ) → d.name_token ≡ at + d.stars → IfSome o (InitialAt (at + length (declarator_kinds d) + 1))
      → Covers tree z s at (at + length (declarator_kinds d ++ optional_kinds (λ y. a_sign sign.Equal ++ initial_kinds y) o)) (initial_spots d.name_token o)
      → TypedInitial (facts tree z) none c d.name_token o → TypedInitial (facts_of tree z) s c d.name_token o
  lift_initial d None at n p k h = h
  lift_initial d (Some (t.Value value)) at n p k h =
      let name : ℕ = d.name_token in
      let from : ℕ = at + length (declarator_kinds d) + 1 in
      let hi : ℕ = at + length (declarator_kinds d ++ (a_sign sign.Equal ++ expr_kinds value)) in
      let long : length (declarator_kinds d ++ (a_sign sign.Equal ++ expr_kinds value)) ≡ length (declarator_kinds d) + 1 + length (expr_kinds value) =
      omega (arith, length-append (declarator_kinds d) (a_sign sign.Equal ++ expr_kinds value), length-append (a_sign sign.Equal) (expr_kinds value)) in
      let r : Rises from (from + length (expr_kinds value)) (expr_spots value) = rises-expr from value p in
      let xs : List Spot = spot.Change (name + 1) name ∷ expr_spots value in
      value_lift name from value ((facts_of tree z).declared_at name) p
      (narrow tree z s at hi from (from + length (expr_kinds value)) xs (expr_spots value) k (omega arith) (omega (arith, long))
      (λ P q a b w. has_second P q (name + 1) (name + 1 + 1) (spot.Change (name + 1) name ∷ []) (expr_spots value) (omega arith, omega arith, omega arith)
      (omega (arith, a, n, declarator-length d)) w))
      (all_so (λ m. Has (λ target. Shows tree z s target m) (name + 1) xs)
      (λ m. Has (λ target. Shows tree z s target m) (name + 1) (spot.Change (name + 1) name ∷ []))
      (s.pairs_at (name + 1)) (λ m w. has_first (λ target. Shows tree z s target m) (name + 1) from (from + length (expr_kinds value))
      (spot.Change (name + 1) name ∷ [])
      (expr_spots value) r (omega (arith, n, declarator-length d)) w) (k (name + 1) (omega (arith, n)) (omega (arith, n, long, declarator-length d)))) h
  lift_initial d (Some (t.Braced token items comma)) at n p k h =
      let from : ℕ = at + length (declarator_kinds d) + 1 + 1 in
      let inner : Kinds = exprs_kinds items ++ comma_kinds comma in
      let hi : ℕ = at + length (declarator_kinds d ++ (a_sign sign.Equal ++ braced_kinds inner)) in
      let long : length (declarator_kinds d ++ (a_sign sign.Equal ++ braced_kinds inner)) ≡ length (declarator_kinds d) + 1 +
      (length (exprs_kinds items) + length (comma_kinds comma)) + 2 =
      omega (
        arith,
        length-append (declarator_kinds d) (a_sign sign.Equal ++ braced_kinds inner),
        length-append (a_sign sign.Equal) (braced_kinds inner),
        brace-length inner,
        length-append (exprs_kinds items) (comma_kinds comma),
      ) in (
        h.0,
        lift_elements _ items from (from + length (exprs_kinds items)) p.1 (exprs_end from (from + length (exprs_kinds items)) items (omega arith))
            (narrow tree z s at hi from (from + length (exprs_kinds items)) (exprs_spots items) (exprs_spots items) k (omega arith) (omega (arith, long))
            (λ P q a b w. w)) h.1,
      )

  lift_starts : (xs : List StartTree) (at hi : ℕ) → 1 ≤ at → EachAt StartAt start_kinds 1 at xs → StartsEnd at xs hi → Covers tree z s at hi (starts_spots xs)
      → TypedStarts (facts tree z) none c xs → TypedStarts (facts_of tree z) s c xs
  lift_starts [] at hi l p b k h = h
  lift_starts (x ∷ xs) at hi l p b k h =
      let lx : ℕ = length (start_kinds x) in
      let rest : Rises (at + lx + 1 - 1) (at + lx + 1 + length (with_commas start_kinds xs) + 1) (starts_spots xs) = rises_starts (at + lx + 1) xs
      (omega arith) p.1 in (
        is_local tree z s c (type_at z x.declarator.name_token) (declared_at z x.declarator.name_token) _ h.0,
        lift_initial x.declarator x.initial at p.0.1.1 p.0.2
            (narrow tree z s at hi at (at + lx) (start_spots x ++ starts_spots xs) (start_spots x) k (omega arith) b.0
            (λ P q a y w. has_first P q (at + lx + 1 - 1) (at + lx + 1 + length (with_commas start_kinds xs) + 1) (start_spots x) (starts_spots xs) rest
            (omega (arith, y)) w)) h.1,
        lift_starts xs (at + lx + 1) hi (omega arith) p.1 b.1
            (narrow tree z s at hi (at + lx + 1) hi (start_spots x ++ starts_spots xs) (starts_spots xs) k (omega arith) (omega arith)
            (λ P q a y w. has_second P q (at - 1) (at + lx + 1) (start_spots x) (starts_spots xs) (rises_start at x l p.0) (omega (arith, a)) w)) h.2,
      )

  lift_declaration : (d : DeclarationTree) (at : ℕ) → DeclarationAt at d → Covers tree z s at (at + length (declaration_kinds d)) (declaration_spots d)
      → TypedStarts (facts tree z) none c d.starts → TypedStarts (facts_of tree z) s c d.starts
  lift_declaration d at p k h =
      let lb : ℕ = length (base_kinds d.base) in
      let ls : ℕ = length (with_commas start_kinds d.starts) in
      let long : length (declaration_kinds d) ≡ lb + ls + 1 = len3 (base_kinds d.base) (with_commas start_kinds d.starts) (a_sign sign.Semicolon) in
      lift_starts d.starts (at + lb) (at + lb + ls) (omega (arith, base_some d.base)) p.2 (starts_end (at + lb) (at + lb + ls) d.starts (omega arith))
      (narrow tree z s at (at + length (declaration_kinds d)) (at + lb) (at + lb + ls) (starts_spots d.starts) (starts_spots d.starts) k (omega arith)
      (omega (arith, long))
      (λ P q a b w. w)) h
    where
      base_some : (b : Base) → 1 ≤ length (base_kinds b)
      base_some (base.Void token) = omega arith
      base_some (base.Char token) = omega arith
      base_some (base.Int token) = omega arith
      base_some (base.Unsigned token true) = omega arith
      base_some (base.Unsigned token false) = omega arith
      base_some (base.Struct token tag) = omega arith

  lift_beginning : (x : ForStartTree) (at : ℕ) → ForStartAt at x → Covers tree z s at (at + length (for_start_kinds x)) (for_start_spots x)
      → TypedBeginning (facts tree z) none c x → TypedBeginning (facts_of tree z) s c x
  lift_beginning (t.Declares d) at p k h = lift_declaration d at p k h
  lift_beginning (t.Computes x) at p k h = lift_part x at p
      (narrow tree z s at (at + length (for_start_kinds (t.Computes x))) at (at + length (optional_kinds expr_kinds x))
      (part_spots x) (part_spots x) k (omega arith) (omega (arith, length-append (optional_kinds expr_kinds x) (a_sign sign.Semicolon))) (λ P q a b w. w)) h

  -- of two parts one after another
  covers_first : (lo hi l h a b : ℕ) (xs ys : List Spot) → Covers tree z s lo hi (xs ++ ys) → lo ≤ l → h ≤ hi → h ≤ a → Rises a b ys → Covers tree z s l h xs
  covers_first lo hi l h a b xs ys k p q m r = narrow tree z s lo hi l h (xs ++ ys) xs k p q
      (λ P token x y w. has_first P token a b xs ys r (omega (arith, m, y)) w)

  covers_second : (lo hi l h a b : ℕ) (xs ys : List Spot) → Covers tree z s lo hi (xs ++ ys) → lo ≤ l → h ≤ hi → b ≤ l → Rises a b xs → Covers tree z s l h ys
  covers_second lo hi l h a b xs ys k p q m r = narrow tree z s lo hi l h (xs ++ ys) ys k p q
      (λ P token x y w. has_second P token a b xs ys r (omega (arith, m, x)) w)

  covers_within : (lo hi l h : ℕ) (xs : List Spot) → Covers tree z s lo hi xs → lo ≤ l → h ≤ hi → Covers tree z s l h xs
  covers_within lo hi l h xs k p q = narrow tree z s lo hi l h xs xs k p q (λ P token x y w. w)

  for_rises : (token : ℕ) (condition : Option ExprTree) → Rises token (token + 1) (for_spots token condition)
  for_rises token None = omega arith
  for_rises token (Some condition) = rises-branch token For

  module _ (result : ValueType) where
    mutual
      lift_statement : (x : StatementTree) (looping : Bool) (at : ℕ) → StatementAt at x → Covers tree z s at (at + length (statement_kinds x))
          (statement_spots x)
          → TypedStatement (facts tree z) none c result looping x → TypedStatement (facts_of tree z) s c result looping x
      lift_statement (t.Block token entries) looping at p k h = lift_entries entries looping (at + 1) p.1
          (covers_within at (at + length (statement_kinds (t.Block token entries))) (at + 1) (at + 1 + length (entry_kinds entries)) (entries_spots entries) k
          (omega arith)
          (omega (arith, brace-length (entry_kinds entries)))) h
      lift_statement (t.Empty token) looping at p k h = h
      lift_statement (t.Expr token x) looping at p k h = lift_whole x at p.1
          (covers_within at (at + length (statement_kinds (t.Expr token x))) at (at + length (expr_kinds x)) (expr_spots x) k (omega arith)
          (omega (arith, length-append (expr_kinds x) (a_sign sign.Semicolon)))) h
      lift_statement (t.If token condition first) looping at p k h =
          let lc : ℕ = length (expr_kinds condition) in
          let lf : ℕ = length (statement_kinds first) in
          let body : ℕ = at + 2 + lc + 1 in
          let hi : ℕ = at + length (statement_kinds (t.If token condition first)) in
          let long : length (statement_kinds (t.If token condition first)) ≡ 1 + (lc + 2) + lf = omega (
            arith,
            len3 (a_word word.If) (parenthesized_kinds (expr_kinds condition)) (statement_kinds first),
            paren-length (expr_kinds condition),
          ) in
          let a : List Spot = spot.Branch token If ∷ expr_spots condition in
          let ra : Rises token (at + 2 + lc) a = led token (at + 2) (at + 2 + lc) If (expr_spots condition) (omega (arith, p.0))
          (rises-expr (at + 2) condition p.1) in (
            (
              lift tree z s c condition (at + 2) p.1
                  (covers_first at hi (at + 2) (at + 2 + lc) body (body + lf) a (statement_spots first) k (omega arith) (omega (arith, long))
                  (omega arith) (rises_statement body first p.2)) h.0.0,
              h.0.1,
            ),
            lift_statement first looping body p.2
                (covers_second at hi body (body + lf) token (at + 2 + lc) a (statement_spots first) k (omega arith) (omega (arith, long))
                (omega arith) ra) h.1,
          )
      lift_statement (t.IfElse token condition first second) looping at p k h =
          let lc : ℕ = length (expr_kinds condition) in
          let lf : ℕ = length (statement_kinds first) in
          let ls : ℕ = length (statement_kinds second) in
          let body : ℕ = at + 2 + lc + 1 in
          let other : ℕ = body + lf + 1 in
          let hi : ℕ = at + length (statement_kinds (t.IfElse token condition first second)) in
          let long : length (statement_kinds (t.IfElse token condition first second)) ≡ 1 + (lc + 2) + lf + 1 + ls = omega (
            arith,
            len5 (a_word word.If) (parenthesized_kinds (expr_kinds condition)) (statement_kinds first) (a_word word.Else) (statement_kinds second),
            paren-length (expr_kinds condition),
          ) in
          let a : List Spot = spot.Branch token If ∷ expr_spots condition in
          let b : List Spot = statement_spots first in
          let d : List Spot = statement_spots second in
          let ra : Rises token (at + 2 + lc) a = led token (at + 2) (at + 2 + lc) If (expr_spots condition) (omega (arith, p.0))
          (rises-expr (at + 2) condition p.1) in
          let rb : Rises body (body + lf) b = rises_statement body first p.2 in
          let rd : Rises other (other + ls) d = rises_statement other second p.3 in
          let kab : Covers tree z s at (body + lf) (a ++ b) = covers_first at hi at (body + lf) other (other + ls) (a ++ b) d k (omega arith)
          (omega (arith, long)) (omega arith) rd in (
            (
              lift tree z s c condition (at + 2) p.1
                  (covers_first at (body + lf) (at + 2) (at + 2 + lc) body (body + lf) a b kab (omega arith) (omega arith) (omega arith) rb) h.0.0,
              h.0.1,
            ),
            lift_statement first looping body p.2
                (covers_second at (body + lf) body (body + lf) token (at + 2 + lc) a b kab (omega arith) (omega arith) (omega arith) ra) h.1,
            lift_statement second looping other p.3
                (covers_second at hi other (other + ls) token (body + lf) (a ++ b) d k (omega arith) (omega (arith, long)) (omega arith)
                (join token (at + 2 + lc) body (body + lf) a b (omega arith) ra rb)) h.2,
          )
      lift_statement (t.While token condition first) looping at p k h =
          let lc : ℕ = length (expr_kinds condition) in
          let lf : ℕ = length (statement_kinds first) in
          let body : ℕ = at + 2 + lc + 1 in
          let hi : ℕ = at + length (statement_kinds (t.While token condition first)) in
          let long : length (statement_kinds (t.While token condition first)) ≡ 1 + (lc + 2) + lf = omega (
            arith,
            len3 (a_word word.While) (parenthesized_kinds (expr_kinds condition)) (statement_kinds first),
            paren-length (expr_kinds condition),
          ) in
          let a : List Spot = spot.Branch token While ∷ expr_spots condition in
          let ra : Rises token (at + 2 + lc) a = led token (at + 2) (at + 2 + lc) While (expr_spots condition) (omega (arith, p.0))
          (rises-expr (at + 2) condition p.1) in (
            (
              lift tree z s c condition (at + 2) p.1
                  (covers_first at hi (at + 2) (at + 2 + lc) body (body + lf) a (statement_spots first) k (omega arith) (omega (arith, long))
                  (omega arith) (rises_statement body first p.2)) h.0.0,
              h.0.1,
            ),
            lift_statement first true body p.2
                (covers_second at hi body (body + lf) token (at + 2 + lc) a (statement_spots first) k (omega arith) (omega (arith, long))
                (omega arith) ra) h.1,
          )
      lift_statement (t.Do token first condition) looping at p k h =
          let lf : ℕ = length (statement_kinds first) in
          let lc : ℕ = length (expr_kinds condition) in
          let from : ℕ = at + 1 + lf + 2 in
          let hi : ℕ = at + length (statement_kinds (t.Do token first condition)) in
          let long : length (statement_kinds (t.Do token first condition)) ≡ 1 + lf + 1 + (lc + 2) + 1 = omega (
            arith,
            len5 (a_word word.Do) (statement_kinds first) (a_word word.While) (parenthesized_kinds (expr_kinds condition)) (a_sign sign.Semicolon),
            paren-length (expr_kinds condition),
          ) in
          let a : List Spot = spot.Branch token Do ∷ statement_spots first in
          let ra : Rises token (at + 1 + lf) a = led token (at + 1) (at + 1 + lf) Do (statement_spots first) (omega (arith, p.0))
          (rises_statement (at + 1) first p.1) in (
            (
              lift tree z s c condition from p.2
                  (covers_second at hi from (from + lc) token (at + 1 + lf) a (expr_spots condition) k (omega arith) (omega (arith, long))
                  (omega arith) ra) h.0.0,
              h.0.1,
            ),
            lift_statement first true (at + 1) p.1
                (covers_first at hi (at + 1) (at + 1 + lf) from (from + lc) a (expr_spots condition) k (omega arith) (omega (arith, long))
                (omega arith) (rises-expr from condition p.2)) h.1,
          )
      lift_statement (t.For token start condition step first) looping at p k h =
          let ks : Kinds = for_start_kinds start in
          let kc : Kinds = optional_kinds expr_kinds condition in
          let kt : Kinds = optional_kinds expr_kinds step in
          let second : ℕ = at + 2 + length ks in
          let third : ℕ = second + length kc + 1 in
          let from : ℕ = third + length kt + 1 in
          let lf : ℕ = length (statement_kinds first) in
          let hi : ℕ = at + length (statement_kinds (t.For token start condition step first)) in
          let long : length (statement_kinds (t.For token start condition step first)) ≡ 1 + (length ks + length kc + 1 + length kt + 2) + lf = omega (
            arith,
            len4 ks kc (a_sign sign.Semicolon) kt,
            len3 (a_word word.For) (parenthesized_kinds (ks ++ kc ++ a_sign sign.Semicolon ++ kt)) (statement_kinds first),
            paren-length (ks ++ kc ++ a_sign sign.Semicolon ++ kt),
          ) in
          let f : List Spot = for_spots token condition in
          let st : List Spot = for_start_spots start in
          let cd : List Spot = part_spots condition in
          let sp : List Spot = part_spots step in
          let rf : Rises token (token + 1) f = for_rises token condition in
          let rst : Rises (at + 2) second st = rises-for_start (at + 2) start p.1 in
          let rcd : Rises second (second + length kc) cd = rises-part second condition p.2 in
          let rsp : Rises third (third + length kt) sp = rises-part third step p.3 in
          let r2 : Rises token second (f ++ st) = join token (token + 1) (at + 2) second f st (omega (arith, p.0)) rf rst in
          let r3 : Rises token (second + length kc) (f ++ st ++ cd) = join token second second (second + length kc) (f ++ st) cd (omega arith) r2 rcd in
          let r4 : Rises token (third + length kt) (f ++ st ++ cd ++ sp) = join token (second + length kc) third (third + length kt) (f ++ st ++ cd) sp
          (omega arith) r3 rsp in
          let k4 : Covers tree z s at (third + length kt) (f ++ st ++ cd ++ sp) =
          covers_first at hi at (third + length kt) from (from + lf) (f ++ st ++ cd ++ sp) (statement_spots first) k (omega arith) (omega (arith, long))
          (omega arith)
          (rises_statement from first p.4) in
          let k3 : Covers tree z s at (second + length kc) (f ++ st ++ cd) =
          covers_first at (third + length kt) at (second + length kc) third (third + length kt) (f ++ st ++ cd) sp k4 (omega arith) (omega arith)
          (omega arith) rsp in
          let k2 : Covers tree z s at second (f ++ st) = covers_first at (second + length kc) at second second (second + length kc) (f ++ st) cd k3
          (omega arith) (omega arith)
          (omega arith) rcd in (
            lift_beginning start (at + 2) p.1
                (covers_second at second (at + 2) second token (token + 1) f st k2 (omega arith) (omega arith) (omega (arith, p.0)) rf) h.0,
            lift_test condition second p.2
                (covers_second at (second + length kc) second (second + length kc) token second (f ++ st) cd k3 (omega arith) (omega arith)
                (omega arith) r2) h.1,
            lift_part step third p.3 (covers_second at (third + length kt) third (third + length kt) token (second + length kc) (f ++ st ++ cd) sp k4
                (omega arith) (omega arith)
                (omega arith) r3) h.2,
            lift_statement first true from p.4
                (covers_second at hi from (from + lf) token (third + length kt) (f ++ st ++ cd ++ sp) (statement_spots first) k (omega arith)
                (omega (arith, long)) (omega arith) r4) h.3,
          )
      lift_statement (t.Return token None) looping at p k h = h
      lift_statement (t.Return token (Some x)) looping at p k h = (
        lift tree z s c x (at + 1) p.1
            (covers_within at (at + length (statement_kinds (t.Return token (Some x)))) (at + 1) (at + 1 + length (expr_kinds x)) (expr_spots x) k
            (omega arith) (omega (arith, len3 (a_word word.Return) (expr_kinds x) (a_sign sign.Semicolon)))) h.0,
        h.1,
      )
      lift_statement (t.Break token) looping at p k h = h
      lift_statement (t.Continue token) looping at p k h = h

      pub lift_entries : (xs : EntryList) (looping : Bool) (at : ℕ) → EntriesAt at xs → Covers tree z s at (at + length (entry_kinds xs)) (entries_spots xs)
          → TypedEntries (facts tree z) none c result looping xs → TypedEntries (facts_of tree z) s c result looping xs
      lift_entries t.no_entries looping at p k h = h
      lift_entries (t.declared d rest) looping at p k h =
          let ld : ℕ = length (declaration_kinds d) in
          let lr : ℕ = length (entry_kinds rest) in
          let long : length (entry_kinds (t.declared d rest)) ≡ ld + lr = length-append (declaration_kinds d) (entry_kinds rest) in
          let hi : ℕ = at + length (entry_kinds (t.declared d rest)) in (
            lift_declaration d at p.0
                (covers_first at hi at (at + ld) (at + ld) (at + ld + lr) (declaration_spots d) (entries_spots rest) k (omega arith) (omega (arith, long))
                (omega arith) (rises-entries (at + ld) rest p.1)) h.0,
            lift_entries rest looping (at + ld) p.1
                (covers_second at hi (at + ld) (at + ld + lr) at (at + ld) (declaration_spots d) (entries_spots rest) k (omega arith)
                (omega (arith, long)) (omega arith) (rises-declaration at d p.0)) h.1,
          )
      lift_entries (t.stated x rest) looping at p k h =
          let ld : ℕ = length (statement_kinds x) in
          let lr : ℕ = length (entry_kinds rest) in
          let long : length (entry_kinds (t.stated x rest)) ≡ ld + lr = length-append (statement_kinds x) (entry_kinds rest) in
          let hi : ℕ = at + length (entry_kinds (t.stated x rest)) in (
            lift_statement x looping at p.0
                (covers_first at hi at (at + ld) (at + ld) (at + ld + lr) (statement_spots x) (entries_spots rest) k (omega arith) (omega (arith, long))
                (omega arith) (rises-entries (at + ld) rest p.1)) h.0,
            lift_entries rest looping (at + ld) p.1
                (covers_second at hi (at + ld) (at + ld + lr) at (at + ld) (statement_spots x) (entries_spots rest) k (omega arith)
                (omega (arith, long)) (omega arith) (rises_statement at x p.0)) h.1,
          )
