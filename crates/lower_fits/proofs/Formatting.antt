-- Each `printf` of an accepted text has a format with a number of conversions.
use Rattle.std.proofs.Common.{⊎_elim, ◌≡◌, ℕ, sym, subst, List, [], ◌∷◌, ◌++◌, Some, None, Ok, Bool, true, false}
use Rattle.std.specs.Prelude.{IfSome, IsSome, Option, slice_get}
use Rattle.std.specs.List.{AllByRecursion, flat_map}
use Rattle.std.specs.Option.{option_and_then}
use Rattle.c_meaning_sound.proofs.Printing.{flat_same}
use Rattle.base_lists.proofs.Every.{all_at, all_first, all_second}
use Rattle.cbi_base.specs.Format.{conversions_of}
use Rattle.c_syntax.specs.ExprTree as e
use Rattle.c_syntax.specs.Words.{ExprTree, ExprList, StatementTree, EntryList, ItemTree, SourceTree}
use Rattle.c_syntax.specs.StatementTree as s
use Rattle.c_syntax.specs.ItemTree as i
use Rattle.c_types_rules.specs.declared.library.Library.{Library}
use Rattle.c_types_rules.specs.declared.library.Library.TheVariants as library
use Rattle.c_types_rules.specs.declared.operand.Operand.{Operand}
use Rattle.c_types_rules.specs.Words.{value_of, library_called, library_named, TypeTree}
use Rattle.c_types_expressions.specs.declared.walk.FunctionEntry.{FunctionEntry}
use Rattle.c_types_expressions.specs.declared.walk.Walk.{Walk}
use Rattle.c_types.specs.Answers.{function_at, note_at, type_at}
use Rattle.c_types_expressions.specs.ExprWalk.{concatenated_strings}
use Rattle.flow.specs.declared.program.Text.{Text}
use Rattle.c_meaning.specs.declared.value_type.Called.TheVariants as called
use Rattle.c_meaning.specs.Words.{function_bodies, body_of_item, facts_of, Literal, string_literals, strings_begun, strings_declared, strings_entered, strings_if, strings_in}
use Rattle.c_meaning.specs.Words.{strings_of_all, strings_of_item, strings_stated, called_as, library_call}
use Rattle.c_types_laws.specs.Fits.{CallFits, CalleeFits, CallsFunction, CallsLibrary, EntriesFit, FormatFits, Gives, ItemFits, StatementFits, TextFits, WholeFits}
use Rattle.c_types_laws.proofs.Items.{text_fits}
use Rattle.c_meaning_sound.specs.Accepted.{IsAcceptedTree}
use Rattle.c_meaning_sound.proofs.Ending.{tree_ended}
use Rattle.c_meaning_sound.proofs.Forming.{Ended, Numbered}
use Rattle.c_meaning_sound.proofs.Lengths.{strings_short}
use Rattle.c_meaning_sound.proofs.Reading.{all_spelled}
use Rattle.c_meaning_sound.proofs.Texts.{Spelled}
use Rattle.base_lists.proofs.Every.{all_join}
use Rattle.lower_fits.specs.Fitting.{FormatFirst, FormatOf, Formatted, FormattedEntries, FormattedStatement}
use Rattle.lower_fits.proofs.ConversionsOfFormats.{format_counted}

module _ (tree : SourceTree) (z : Walk) (ends : Ended tree z) where
  -- the strings are spelled by their tokens
  abbrev AllSpelled : List Literal → Type 0
  AllSpelled strings = AllByRecursion (Spelled tree) strings

  -- what a call of this name calls has a format, where it is `printf`
  abbrev FormattedAs : Option ℕ → List ℕ → ExprList → Type 0
  FormattedAs number name arguments = FormatOf (facts_of tree z) (called_as number name) arguments

  -- a function of the library whose call has a value is no `printf`
  valued_formatted : (function : Library) (xs : List Operand) (a : Operand) (arguments : ExprList) → library_called function xs ≡ Ok a
      → FormatOf (facts_of tree z) (called.Library function) arguments
  valued_formatted library.Printf xs a arguments h = cc
  valued_formatted function xs a arguments h = tt

  -- a call within an expression, of a function of the library
  library_formatted : (number : Option ℕ) (name : List ℕ) (arguments : ExprList) (t : TypeTree) → CallsLibrary z name arguments t
      → FormattedAs number name arguments
  library_formatted None name arguments t h =
      let function : Library = h.0 in
      let operands : List Operand = h.1.1.0 in
      subst (λ known. FormatOf (facts_of tree z) (library_call known) arguments) (sym h.1.0)
      (valued_formatted function operands (value_of t) arguments h.1.1.1.1)
  library_formatted (Some number) name arguments t h = tt

  -- a call of a function that was declared: it is defined, and is none of the library
  function_formatted : (token : ℕ) (name : List ℕ) (arguments : ExprList) (t : TypeTree) → CallsFunction z token name arguments t
      → FormattedAs (function_at z token) name arguments
  function_formatted token name arguments t h =
      let definition : Numbered tree z h.0 = ends.calls token h.0 h.1.0 in
      subst (λ found. FormattedAs (option_and_then (λ place. note_at z.defined_as place) found) name arguments) (sym h.1.0)
      (subst (λ number. FormattedAs number name arguments) (sym definition.defined) tt)

  -- any call within an expression
  call_formatted : (token : ℕ) (name : List ℕ) (arguments : ExprList) (t : Option TypeTree) → Gives t (CallFits z token name arguments)
      → FormattedAs (function_at z token) name arguments
  call_formatted token name arguments None h = absurd h
  call_formatted token name arguments (Some t) h =
      ⊎_elim (λ k. library_formatted (function_at z token) name arguments t k) (λ k. function_formatted token name arguments t k) h

  -- the first argument of a `printf` is a format: its string has the bytes that were checked
  format_first : (arguments : ExprList) → FormatFits z arguments → AllSpelled (strings_of_all arguments) → FormatFirst (facts_of tree z) arguments
  format_first e.no_exprs h spelled = absurd h
  format_first (e.more_exprs (e.Strings token parts) rest) h spelled =
      let counted : IsSome (conversions_of (concatenated_strings parts)) = format_counted (concatenated_strings parts) h.0 h.1.1 in
      subst (λ text. IfSome text (λ (t : Text). IsSome (conversions_of t.bytes))) (sym spelled.0.0)
      (subst (λ bytes. IsSome (conversions_of bytes)) (flat_same parts) counted)
  format_first (e.more_exprs x rest) h spelled = absurd h

  -- a call of `printf`, where its first argument is a format
  print_formatted : (number : Option ℕ) (name : List ℕ) (arguments : ExprList) → library_named name ≡ Some library.Printf
      → FormatFirst (facts_of tree z) arguments → FormattedAs number name arguments
  print_formatted None name arguments named first =
      subst (λ known. FormatOf (facts_of tree z) (library_call known) arguments) (sym named) first
  print_formatted (Some number) name arguments named first = tt

  -- the expression of a statement
  whole_formatted : (x : ExprTree) → WholeFits z x → AllSpelled (strings_in x) → Formatted (facts_of tree z) x
  whole_formatted (e.Call token name arguments) h spelled =
      ⊎_elim (λ fits. call_formatted token name arguments (type_at z token) fits.2)
      (λ prints. print_formatted (function_at z token) name arguments prints.2 (format_first arguments prints.3 spelled)) h
  whole_formatted x h spelled = tt

  mutual
    -- a statement
    statement_formatted : (gives : TypeTree) (looping : Bool) (x : StatementTree) → StatementFits z gives looping x → AllSpelled (strings_stated x)
        → FormattedStatement (facts_of tree z) x
    statement_formatted gives looping (s.Block token entries) h spelled = entries_formatted gives looping entries h spelled
    statement_formatted gives looping (s.Expr token x) h spelled = whole_formatted x h.0 spelled
    statement_formatted gives looping (s.If token condition first) h spelled =
        statement_formatted gives looping first h.2 (all_second (Spelled tree) (strings_in condition) (strings_stated first) spelled)
    statement_formatted gives looping (s.IfElse token condition first second) h spelled =
        let before = strings_in condition ++ strings_stated first in (
          statement_formatted gives looping first h.2
              (all_second (Spelled tree) (strings_in condition) (strings_stated first) (all_first (Spelled tree) before (strings_stated second) spelled)),
          statement_formatted gives looping second h.3 (all_second (Spelled tree) before (strings_stated second) spelled),
        )
    statement_formatted gives looping (s.While token condition body) h spelled =
        statement_formatted gives true body h.2 (all_second (Spelled tree) (strings_in condition) (strings_stated body) spelled)
    statement_formatted gives looping (s.Do token body condition) h spelled =
        statement_formatted gives true body h.0 (all_first (Spelled tree) (strings_stated body) (strings_in condition) spelled)
    statement_formatted gives looping (s.For token start condition step body) h spelled =
        let before = strings_begun start ++ strings_if condition ++ strings_if step in
        statement_formatted gives true body h.3 (all_second (Spelled tree) before (strings_stated body) spelled)
    statement_formatted gives looping x h spelled = tt

    -- declarations and statements
    entries_formatted : (gives : TypeTree) (looping : Bool) (xs : EntryList) → EntriesFit z gives looping xs → AllSpelled (strings_entered xs)
        → FormattedEntries (facts_of tree z) xs
    entries_formatted gives looping s.no_entries h spelled = tt
    entries_formatted gives looping (s.declared declaration rest) h spelled =
        entries_formatted gives looping rest h.1 (all_second (Spelled tree) (strings_declared declaration) (strings_entered rest) spelled)
    entries_formatted gives looping (s.stated statement rest) h spelled = (
      statement_formatted gives looping statement h.0 (all_first (Spelled tree) (strings_stated statement) (strings_entered rest) spelled),
      entries_formatted gives looping rest h.1 (all_second (Spelled tree) (strings_stated statement) (strings_entered rest) spelled),
    )

  -- the body of a function that was declared
  callee_formatted : (function : Option FunctionEntry) (name : List ℕ) (body : EntryList)
      → CalleeFits function name (λ f. EntriesFit z f.gives false body) → AllSpelled (strings_entered body) → FormattedEntries (facts_of tree z) body
  callee_formatted None name body h spelled = absurd h
  callee_formatted (Some function) name body h spelled = entries_formatted function.ctype.gives false body h.1 spelled

  -- the body of an item, if it has one
  item_formatted : (x : ItemTree) → ItemFits z x → AllSpelled (strings_of_item x)
      → AllByRecursion (FormattedEntries (facts_of tree z)) (body_of_item x)
  item_formatted (i.Function token base stars name params (Some body)) h spelled =
      (callee_formatted (slice_get z.functions h.1.0) name body h.1.1 spelled, tt)
  item_formatted x h spelled = tt

  -- the bodies of all items
  items_formatted : (xs : List ItemTree) → AllByRecursion (ItemFits z) xs → AllSpelled (flat_map strings_of_item xs)
      → AllByRecursion (FormattedEntries (facts_of tree z)) (flat_map body_of_item xs)
  items_formatted [] h spelled = tt
  items_formatted (x ∷ xs) h spelled =
      all_join (FormattedEntries (facts_of tree z)) (body_of_item x) (flat_map body_of_item xs)
      (item_formatted x h.0 (all_first (Spelled tree) (strings_of_item x) (flat_map strings_of_item xs) spelled))
      (items_formatted xs h.1 (all_second (Spelled tree) (strings_of_item x) (flat_map strings_of_item xs) spelled))

-- each body of an accepted text
pub body_formatted : (tree : SourceTree) (z : Walk) (number : ℕ) (body : EntryList) → IsAcceptedTree tree z → slice_get (function_bodies tree) number ≡ Some body
    → FormattedEntries (facts_of tree z) body
body_formatted tree z number body accepted at =
    let shaped = accepted.formed.shaped in
    let spelled : AllByRecursion (Spelled tree) (string_literals tree) = all_spelled tree shaped.items shaped.placed (strings_short tree 1048575 accepted.short) in
    let fits : TextFits z tree = text_fits tree z shaped accepted.walked in
    all_at (FormattedEntries (facts_of tree z)) (function_bodies tree) number body
    (items_formatted tree z (tree_ended tree z shaped accepted.walked) tree.items fits spelled) at
