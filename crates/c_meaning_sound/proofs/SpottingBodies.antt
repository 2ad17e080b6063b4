-- What stands in declarations and statements for sites.
use Rattle.std.proofs.Common.{inl, inr, ℕ, List, [], ◌∷◌, ◌++◌, Some, None, Bool, true}
use Rattle.std.specs.Prelude.{Option, IsSome}
use Rattle.std.specs.List.{AllByRecursion}
use Rattle.std.proofs.lemmas.Bool.{false≢true}
use Rattle.base_lists.proofs.Every.{all_first, all_second}
use Rattle.c_syntax.specs.declared.token.Sign.TheVariants as sign
use Rattle.c_syntax.specs.declared.token.Word.TheVariants as word
use Rattle.c_syntax.specs.ExprTree as e
use Rattle.c_syntax.specs.Words.{ExprTree, ExprList, InitialTree, StartTree, DeclarationTree, ForStartTree, StatementTree, EntryList}
use Rattle.c_syntax.specs.Words.{Kinds, a_sign, a_word, after_commas, base_kinds, comma_kinds, declaration_kinds, declarator_kinds, entry_kinds, expr_kinds}
use Rattle.c_syntax.specs.Words.{exprs_kinds, for_start_kinds, initial_kinds, more_exprs_kinds, optional_kinds, parenthesized_kinds, start_kinds, statement_kinds}
use Rattle.c_syntax.specs.Words.{with_commas}
use Rattle.c_syntax.specs.StatementTree as s
use Rattle.c_types_rules.specs.declared.library.Library.TheVariants as library
use Rattle.flow.specs.declared.site.Slot.{Slot}
use Rattle.flow.specs.declared.site.Slot.TheVariants as slot
use Rattle.flow.specs.declared.program.Text.{Text}
use Rattle.c_meaning.specs.declared.value_type.Called.{Called}
use Rattle.c_meaning.specs.declared.value_type.Called.TheVariants as callee
use Rattle.c_meaning.specs.declared.value_type.ValueType.{ValueType}
use Rattle.c_meaning.specs.declared.value_type.ValueType.TheVariants as type
use Rattle.c_meaning.specs.Words.{Facts, Sites, text_of_string, called_as}
use Rattle.sites.specs.Bodies.{declaration_spots, entries_spots, for_spots, for_start_spots, initial_spots, start_spots, starts_spots, statement_spots}
use Rattle.sites.specs.Spots.{expr_spots, exprs_spots, part_spots}
use Rattle.c_meaning_laws.specs.Typed.{HasSlot, TypedArguments}
use Rattle.c_meaning_laws.specs.TypedStatements.{FitsFormat, IsLocal, IsPrint, TypedBeginning, TypedEntries, TypedFormat, TypedInitial, TypedPart, TypedPrint, TypedStarts}
use Rattle.c_meaning_laws.specs.TypedStatements.{TypedStatement, TypedTest, TypedValue, TypedWhole}
use Rattle.c_meaning_sound.specs.Sited.{IsSitedToken}
use Rattle.c_meaning_sound.proofs.Spotting.{AllTyped, SpotsFit, arguments_all, elements_all, expr_fit, exprs_fit, in_middle, inside, rest_kept, two_spots}

module _ (facts : Facts) (sites : Sites) (count : ℕ) where
  local_slot : (o : Option Slot) → IsLocal facts sites count o → HasSlot facts sites count o
  local_slot None h = absurd h
  local_slot (Some (slot.Local index)) h = h
  local_slot (Some (slot.Global index)) h = absurd h

  string_fit : (x : ExprTree) → IsSome (text_of_string facts x) → SpotsFit facts sites count (expr_spots x)
  string_fit (e.Strings token parts) h = tt
  string_fit x h = absurd (false≢true h)

  value_fit : (token : ℕ) (o : Option ValueType) (x : ExprTree) → TypedValue facts sites count token o x → AllByRecursion IsSitedToken (expr_kinds x)
      → SpotsFit facts sites count (expr_spots x)
  value_fit token (Some (type.Array size)) x h n = string_fit x h.1
  value_fit token o x h n = expr_fit facts sites count x h.0 n

  initial_fit : (token : ℕ) (x : Option InitialTree) → IsLocal facts sites count (facts.slot_at token) → TypedInitial facts sites count token x
      → AllByRecursion IsSitedToken (optional_kinds (λ y. a_sign sign.Equal ++ initial_kinds y) x) → SpotsFit facts sites count (initial_spots token x)
  initial_fit token None l h n = tt
  initial_fit token (Some (s.Value value)) l h n = (local_slot (facts.slot_at token) l, value_fit token (facts.declared_at token) value h n.1)
  initial_fit token (Some (s.Braced at items comma)) l h n =
      exprs_fit facts sites count items (elements_all facts sites count (facts.element_at token) items h.1)
      (all_first IsSitedToken (exprs_kinds items) (comma_kinds comma) (all_first IsSitedToken (exprs_kinds items ++ comma_kinds comma) (a_sign sign.RightBrace) n.1.1))

  starts_fit : (xs : List StartTree) → TypedStarts facts sites count xs → AllByRecursion IsSitedToken (with_commas start_kinds xs) → SpotsFit facts sites count
      (starts_spots xs)
  starts_fit [] h n = tt
  starts_fit (x ∷ []) h n =
      two_spots facts sites count (start_spots x) []
      (initial_fit x.declarator.name_token x.initial h.0 h.1
      (all_second IsSitedToken (declarator_kinds x.declarator) (optional_kinds (λ y. a_sign sign.Equal ++ initial_kinds y) x.initial)
      (all_first IsSitedToken (start_kinds x) [] n))) tt
  starts_fit (x ∷ y ∷ ys) h n =
      two_spots facts sites count (start_spots x) (starts_spots (y ∷ ys))
      (initial_fit x.declarator.name_token x.initial h.0 h.1
      (all_second IsSitedToken (declarator_kinds x.declarator) (optional_kinds (λ y. a_sign sign.Equal ++ initial_kinds y) x.initial)
      (all_first IsSitedToken (start_kinds x) (after_commas start_kinds (y ∷ ys)) n)))
      (starts_fit (y ∷ ys) h.2 (all_second IsSitedToken (start_kinds x) (after_commas start_kinds (y ∷ ys)) n).1)

  declaration_fit : (x : DeclarationTree) → TypedStarts facts sites count x.starts → AllByRecursion IsSitedToken (declaration_kinds x)
      → SpotsFit facts sites count (declaration_spots x)
  declaration_fit x h n = starts_fit x.starts h (in_middle (base_kinds x.base) (with_commas start_kinds x.starts) (a_sign sign.Semicolon) n)

  part_fit : (x : Option ExprTree) → TypedPart facts sites count x → AllByRecursion IsSitedToken (optional_kinds expr_kinds x) → SpotsFit facts sites count (part_spots x)
  part_fit None h n = tt
  part_fit (Some x) h n = expr_fit facts sites count x h n

  test_part : (x : Option ExprTree) → TypedTest facts sites count x → TypedPart facts sites count x
  test_part None h = tt
  test_part (Some x) h = h.0

  begun_fit : (x : ForStartTree) → TypedBeginning facts sites count x → AllByRecursion IsSitedToken (for_start_kinds x) → SpotsFit facts sites count
      (for_start_spots x)
  begun_fit (s.Declares d) h n = declaration_fit d h n
  begun_fit (s.Computes x) h n = part_fit x h (all_first IsSitedToken (optional_kinds expr_kinds x) (a_sign sign.Semicolon) n)

  for_branch : (token : ℕ) (x : Option ExprTree) → SpotsFit facts sites count (for_spots token x)
  for_branch token None = tt
  for_branch token (Some x) = (tt, tt)

  -- `printf`
  pub format_all : (o : Option Text) (rest : ExprList) → FitsFormat o (λ types. TypedArguments facts sites count types rest) → AllTyped facts sites count rest
  format_all None rest h = absurd h
  format_all (Some text) rest h = arguments_all facts sites count _ rest h

  format_fit : (xs : ExprList) → TypedFormat facts sites count xs → AllByRecursion IsSitedToken (exprs_kinds xs) → SpotsFit facts sites count (exprs_spots xs)
  format_fit e.no_exprs h n = absurd h
  format_fit (e.more_exprs (e.Strings token parts) rest) h n =
      exprs_fit facts sites count rest (format_all (text_of_string facts (e.Strings token parts)) rest h)
      (rest_kept rest (all_second IsSitedToken (expr_kinds (e.Strings token parts)) (more_exprs_kinds rest) n))
  format_fit (e.more_exprs x rest) h n = absurd h

  prints_fit : (c : Called) (xs : ExprList) → TypedPrint facts sites count c xs → AllByRecursion IsSitedToken (exprs_kinds xs) → SpotsFit facts sites count
      (exprs_spots xs)
  prints_fit (callee.Library library.Printf) xs h n = format_fit xs h n
  prints_fit c xs h n = absurd h

  print_fit : (x : ExprTree) → IsPrint facts sites count x → AllByRecursion IsSitedToken (expr_kinds x) → SpotsFit facts sites count (expr_spots x)
  print_fit (e.Call token name arguments) h n =
      (n.0, prints_fit (called_as (facts.function_at token) name) arguments h (inside (exprs_kinds arguments) n.1))
  print_fit x h n = absurd h

  whole_fit : (x : ExprTree) → TypedWhole facts sites count x → AllByRecursion IsSitedToken (expr_kinds x) → SpotsFit facts sites count (expr_spots x)
  whole_fit x (inl h) n = print_fit x h n
  whole_fit x (inr h) n = expr_fit facts sites count x h n

  mutual
    statement_fit : (result : ValueType) (looping : Bool) (x : StatementTree) → TypedStatement facts sites count result looping x
        → AllByRecursion IsSitedToken (statement_kinds x) → SpotsFit facts sites count (statement_spots x)
    statement_fit result looping (s.Block token xs) h n = entries_fit result looping xs h (all_first IsSitedToken (entry_kinds xs) (a_sign sign.RightBrace) n.1)
    statement_fit result looping (s.Empty token) h n = tt
    statement_fit result looping (s.Expr token x) h n = whole_fit x h (all_first IsSitedToken (expr_kinds x) (a_sign sign.Semicolon) n)
    statement_fit result looping (s.If token condition first) h n = (
      tt,
      two_spots facts sites count (expr_spots condition) (statement_spots first)
          (expr_fit facts sites count condition h.0.0
          (inside (expr_kinds condition) (all_first IsSitedToken (parenthesized_kinds (expr_kinds condition)) (statement_kinds first) n.1)))
          (statement_fit result looping first h.1 (all_second IsSitedToken (parenthesized_kinds (expr_kinds condition)) (statement_kinds first) n.1)),
    )
    statement_fit result looping (s.IfElse token condition first second) h n =
        let heads = all_first IsSitedToken (parenthesized_kinds (expr_kinds condition) ++ statement_kinds first ++ a_word word.Else) (statement_kinds second) n.1 in
        let two = all_first IsSitedToken (parenthesized_kinds (expr_kinds condition) ++ statement_kinds first) (a_word word.Else) heads in (
          tt,
          two_spots facts sites count (expr_spots condition ++ statement_spots first) (statement_spots second)
              (two_spots facts sites count (expr_spots condition) (statement_spots first)
              (expr_fit facts sites count condition h.0.0
              (inside (expr_kinds condition) (all_first IsSitedToken (parenthesized_kinds (expr_kinds condition)) (statement_kinds first) two)))
              (statement_fit result looping first h.1 (all_second IsSitedToken (parenthesized_kinds (expr_kinds condition)) (statement_kinds first) two)))
              (statement_fit result looping second h.2
              (all_second IsSitedToken (parenthesized_kinds (expr_kinds condition) ++ statement_kinds first ++ a_word word.Else) (statement_kinds second) n.1)),
        )
    statement_fit result looping (s.While token condition body) h n = (
      tt,
      two_spots facts sites count (expr_spots condition) (statement_spots body)
          (expr_fit facts sites count condition h.0.0
          (inside (expr_kinds condition) (all_first IsSitedToken (parenthesized_kinds (expr_kinds condition)) (statement_kinds body) n.1)))
          (statement_fit result true body h.1 (all_second IsSitedToken (parenthesized_kinds (expr_kinds condition)) (statement_kinds body) n.1)),
    )
    statement_fit result looping (s.Do token body condition) h n =
        let heads = all_first IsSitedToken (statement_kinds body ++ a_word word.While ++ parenthesized_kinds (expr_kinds condition)) (a_sign sign.Semicolon) n.1 in (
          tt,
          two_spots facts sites count (statement_spots body) (expr_spots condition)
              (statement_fit result true body h.1 (all_first IsSitedToken (statement_kinds body) (a_word word.While)
              (all_first IsSitedToken (statement_kinds body ++ a_word word.While) (parenthesized_kinds (expr_kinds condition)) heads)))
              (expr_fit facts sites count condition h.0.0
              (inside (expr_kinds condition) (all_second IsSitedToken (statement_kinds body ++ a_word word.While) (parenthesized_kinds (expr_kinds condition)) heads))),
        )
    statement_fit result looping (s.For token start condition step body) h n =
        let head : Kinds = for_start_kinds start ++ optional_kinds expr_kinds condition ++ a_sign sign.Semicolon ++ optional_kinds expr_kinds step in
        let parts = inside head (all_first IsSitedToken (parenthesized_kinds head) (statement_kinds body) n.1) in
        let three = all_first IsSitedToken (for_start_kinds start ++ optional_kinds expr_kinds condition ++ a_sign sign.Semicolon) (optional_kinds expr_kinds step) parts in
        let two = all_first IsSitedToken (for_start_kinds start ++ optional_kinds expr_kinds condition) (a_sign sign.Semicolon) three in
        two_spots facts sites count (for_spots token condition ++ for_start_spots start ++ part_spots condition ++ part_spots step) (statement_spots body)
        (two_spots facts sites count (for_spots token condition ++ for_start_spots start ++ part_spots condition) (part_spots step)
        (two_spots facts sites count (for_spots token condition ++ for_start_spots start) (part_spots condition)
        (two_spots facts sites count (for_spots token condition) (for_start_spots start) (for_branch token condition)
        (begun_fit start h.0 (all_first IsSitedToken (for_start_kinds start) (optional_kinds expr_kinds condition) two)))
        (part_fit condition (test_part condition h.1) (all_second IsSitedToken (for_start_kinds start) (optional_kinds expr_kinds condition) two)))
        (part_fit step h.2 (all_second IsSitedToken (for_start_kinds start ++ optional_kinds expr_kinds condition ++ a_sign sign.Semicolon)
        (optional_kinds expr_kinds step) parts)))
        (statement_fit result true body h.3 (all_second IsSitedToken (parenthesized_kinds head) (statement_kinds body) n.1))
    statement_fit result looping (s.Return token None) h n = tt
    statement_fit result looping (s.Return token (Some x)) h n = expr_fit facts sites count x h.0 (all_first IsSitedToken (expr_kinds x) (a_sign sign.Semicolon) n.1)
    statement_fit result looping (s.Break token) h n = tt
    statement_fit result looping (s.Continue token) h n = tt

    pub entries_fit : (result : ValueType) (looping : Bool) (xs : EntryList) → TypedEntries facts sites count result looping xs
        → AllByRecursion IsSitedToken (entry_kinds xs) → SpotsFit facts sites count (entries_spots xs)
    entries_fit result looping s.no_entries h n = tt
    entries_fit result looping (s.declared d rest) h n =
        two_spots facts sites count (declaration_spots d) (entries_spots rest)
        (declaration_fit d h.0 (all_first IsSitedToken (declaration_kinds d) (entry_kinds rest) n))
        (entries_fit result looping rest h.1 (all_second IsSitedToken (declaration_kinds d) (entry_kinds rest) n))
    entries_fit result looping (s.stated x rest) h n =
        two_spots facts sites count (statement_spots x) (entries_spots rest)
        (statement_fit result looping x h.0 (all_first IsSitedToken (statement_kinds x) (entry_kinds rest) n))
        (entries_fit result looping rest h.1 (all_second IsSitedToken (statement_kinds x) (entry_kinds rest) n))
