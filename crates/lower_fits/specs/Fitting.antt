-- The part of a graph whose nodes may stand in a program, and what of a text those nodes need.
use Rattle.std.specs.Prelude.{◌≡◌, ℕ, ◌≤◌, ◌+◌, Bool, true, false, nat_lt, IsTrue, IsSome, IfSome, length, map, Some, slice_get}
use Rattle.std.specs.List.{AllByRecursion}
use Rattle.cbi_base.specs.Format.{conversions_of}
use Rattle.c_syntax.specs.ExprTree as e
use Rattle.c_syntax.specs.Words.{ExprTree, ExprList, SourceTree, EntriesAt, entry_kinds, tree_kinds, StatementTree, EntryList, KindFits}
use Rattle.c_syntax.specs.StatementTree as tree
use Rattle.c_types_rules.specs.declared.library.Library.TheVariants as library
use Rattle.flow.specs.declared.node.View.{View}
use Rattle.flow.specs.declared.node.View.TheVariants as view
use Rattle.flow.specs.declared.scope.Bounds.{Bounds}
use Rattle.flow.specs.declared.scope.Names.{Names}
use Rattle.flow.specs.Nodes.{is_own, names_fit, step_limit}
use Rattle.c_meaning.specs.declared.value_type.Called.{Called}
use Rattle.c_meaning.specs.declared.value_type.Called.TheVariants as called
use Rattle.c_meaning.specs.Words.{Facts, Signature, Sites, text_of_string, called_as}
use Rattle.lower_relation.specs.Paths.{Graph}
use Rattle.c_meaning_laws.specs.TypedSource.{TypedBody}
use Rattle.lower_fits.specs.FactsFit.{FactsFit, SitesOwned}

-- a node with this view may stand in a function with these bounds: none of sampling does
abbrev pub fits_view : Names → Bounds → View → Bool
fits_view names bounds (view.Row op next) = names_fit names bounds op
fits_view names bounds (view.Halts op) = names_fit names bounds op
fits_view names bounds (view.Forks when_true when_false) = true
fits_view names bounds (view.Turns next) = true
fits_view names bounds (view.Calls function next) = nat_lt function names.functions
fits_view names bounds view.Gives = true
fits_view names bounds view.Quits = true
fits_view names bounds (view.Marks site next) = is_own bounds (slice_get names.owners site)
fits_view names bounds (view.Skips by next) = false
fits_view names bounds (view.Tests site next) = false
fits_view names bounds (view.Picks weight fast slow) = false
fits_view names bounds (view.Imports next) = false
fits_view names bounds (view.Exports next) = false
fits_view names bounds view.Nowhere = false

-- the part of a graph whose nodes may stand there
abbrev pub fitting_subgraph : Names → Bounds → Graph → Graph
fitting_subgraph names bounds G i v = G i v × IsTrue (fits_view names bounds v)

-- the strings that may be named have the conversions of the text's strings
abbrev pub TextsNamed : Facts → Names → Type 0
TextsNamed facts names = names.conversions ≡ map (λ t. conversions_of t.bytes) facts.statics.texts

-- the first argument of a `printf` is a format
abbrev pub FormatFirst : Facts → ExprList → Type 0
FormatFirst facts e.no_exprs = Unit {0}
FormatFirst facts (e.more_exprs x rest) = IfSome (text_of_string facts x) (λ t. IsSome (conversions_of t.bytes))

-- where it is a `printf` that is called
abbrev pub FormatOf : Facts → Called → ExprList → Type 0
FormatOf facts (called.Library library.Printf) arguments = FormatFirst facts arguments
FormatOf facts other arguments = Unit {0}

-- where the expression of a statement is a call of `printf`, its string is a format
abbrev pub Formatted : Facts → ExprTree → Type 0
Formatted facts (e.Call token name arguments) = FormatOf facts (called_as (facts.function_at token) name) arguments
Formatted facts x = Unit {0}

-- the same in all statements
abbrev mutual
  pub FormattedStatement : Facts → StatementTree → Type 0
  FormattedStatement facts (tree.Block token entries) = FormattedEntries facts entries
  FormattedStatement facts (tree.Empty token) = Unit {0}
  FormattedStatement facts (tree.Expr token x) = Formatted facts x
  FormattedStatement facts (tree.If token condition first) = FormattedStatement facts first
  FormattedStatement facts (tree.IfElse token condition first second) = FormattedStatement facts first × FormattedStatement facts second
  FormattedStatement facts (tree.While token condition body) = FormattedStatement facts body
  FormattedStatement facts (tree.Do token body condition) = FormattedStatement facts body
  FormattedStatement facts (tree.For token start condition step body) = FormattedStatement facts body
  FormattedStatement facts (tree.Return token value) = Unit {0}
  FormattedStatement facts (tree.Break token) = Unit {0}
  FormattedStatement facts (tree.Continue token) = Unit {0}

  pub FormattedEntries : Facts → EntryList → Type 0
  FormattedEntries facts tree.no_entries = Unit {0}
  FormattedEntries facts (tree.declared declaration rest) = FormattedEntries facts rest
  FormattedEntries facts (tree.stated statement rest) = FormattedStatement facts statement × FormattedEntries facts rest

-- What is known of the body of a function with this signature and these bounds, whose first token is `lo`: its types fit, its sites are the
-- function's, its constants lie in their kinds, and it has no more tokens than a place can be moved by.
pub record FitsAsBody (facts : Facts) (sites : Sites) (names : Names) (bounds : Bounds) (f : Signature) (lo : ℕ) (body : EntryList) : Type 0 where
  pub facts_fit : FactsFit facts names
  pub texts : TextsNamed facts names
  pub locals : bounds.locals ≡ length f.locals
  pub typed : TypedBody facts sites f (Some body)
  pub formats : FormattedEntries facts body
  pub placed : EntriesAt lo body
  pub owned : SitesOwned sites names.owners bounds.function lo (lo + length (entry_kinds body))
  pub constants : AllByRecursion KindFits (entry_kinds body)
  pub few : length (entry_kinds body) ≤ step_limit

-- A body stands among the tokens of a text, with constants that lie in their kinds.
pub record BodyStands (text : SourceTree) (body : EntryList) : Type 0 where
  pub lo : ℕ
  pub placed : EntriesAt lo body
  pub within : lo + length (entry_kinds body) ≤ length (tree_kinds text)
  pub constants : AllByRecursion KindFits (entry_kinds body)
