-- Which arguments a call passes, as which types, and what is done behind them.
use Rattle.std.specs.Prelude.{ℕ, ◌==◌, Bool, true, false, List, [], ◌∷◌, length, Option, Some, None}
use Rattle.cbi_base.specs.Printing.{pieces_of}
use Rattle.cbi_base.specs.declared.scalar.Kind.TheVariants.{Int, Unsigned}
use Rattle.c_types_rules.specs.declared.library.Library.{Library}
use Rattle.c_types_rules.specs.declared.library.Library.TheVariants as library
use Rattle.c_syntax.specs.ExprTree as e
use Rattle.c_syntax.specs.ExprTree.{ExprList}
use Rattle.flow.specs.declared.node.Node.{Node}
use Rattle.flow.specs.declared.node.Node.TheVariants as node
use Rattle.flow.specs.declared.node.View.TheVariants as view
use Rattle.flow.specs.declared.program.Text.{Text}
use Rattle.c_meaning.specs.declared.value_type.Called.{Called}
use Rattle.c_meaning.specs.declared.value_type.Called.TheVariants as called
use Rattle.c_meaning.specs.declared.value_type.ValueType.{ValueType}
use Rattle.c_meaning.specs.declared.value_type.ValueType.TheVariants as type
use Rattle.c_meaning.specs.Words.{types_taken, as_used, Facts, Signature, text_of_string, expression_count, type_of}
use Rattle.lower_relation.specs.Expressions.{number_of_text}
use Rattle.lower_relation.specs.Paths.{Graph, Path, Does, HaltsAt, Nothing}

-- the types that the conversions of a format take
abbrev pub format_types : List ℕ → List ValueType
format_types bytes = types_taken (pieces_of bytes)

abbrev pub types_of_text : Option Text → List ValueType
types_of_text None = []
types_of_text (Some format) = format_types format.bytes

-- the types of the parameters
abbrev pub types_of_params : Option Signature → List ValueType
types_of_params None = []
types_of_params (Some f) = f.params

-- a type, where it is known
abbrev pub type_if_known : Option ValueType → List ValueType
type_if_known None = []
type_if_known (Some of) = of ∷ []

-- the type of the first argument, the string that it is, and the number of that
abbrev pub type_of_first : Facts → ExprList → Option ValueType
type_of_first facts e.no_exprs = None
type_of_first facts (e.more_exprs x rest) = type_of facts x

abbrev pub text_of_first : Facts → ExprList → Option Text
text_of_first facts e.no_exprs = None
text_of_first facts (e.more_exprs x rest) = text_of_string facts x

abbrev pub number_of_first : Facts → ExprList → Option ℕ
number_of_first facts e.no_exprs = None
number_of_first facts (e.more_exprs x rest) = number_of_text facts x

-- the arguments behind the first one
abbrev pub arguments_after_first : ExprList → ExprList
arguments_after_first e.no_exprs = e.no_exprs
arguments_after_first (e.more_exprs x rest) = rest

-- the types that the arguments of a function of the library become
abbrev pub library_types : Facts → Library → ExprList → List ValueType
library_types facts library.Getchar xs = []
library_types facts library.Putchar xs = type.Number Int ∷ []
library_types facts library.Puts xs = type.Pointer 1 ∷ []
library_types facts library.Malloc xs = type.Number Unsigned ∷ []
library_types facts library.Free xs = type.Pointer 0 ∷ []
library_types facts library.Exit xs = type.Number Int ∷ []
library_types facts library.Abort xs = []
library_types facts library.Assert xs = type_if_known (as_used (type_of_first facts xs))
library_types facts library.Printf xs = types_of_text (text_of_first facts xs)

-- the types that the arguments of a call become
abbrev pub types_passed : Facts → Called → ExprList → List ValueType
types_passed facts (called.Function number) xs = types_of_params (facts.signature number)
types_passed facts (called.Library f) xs = library_types facts f xs
types_passed facts called.Unknown xs = []

-- the arguments that are passed as values: the format of `printf` is none of them
abbrev pub arguments_passed : Called → ExprList → ExprList
arguments_passed (called.Library library.Printf) xs = arguments_after_first xs
arguments_passed c xs = xs

-- whether a function with this signature takes so many arguments
abbrev pub takes_arguments : Option Signature → ℕ → Bool
takes_arguments None n = false
takes_arguments (Some f) n = n == length f.params

-- whether a format has so many conversions
abbrev pub has_conversions : Option Text → ℕ → Bool
has_conversions None n = false
has_conversions (Some format) n = n == length (format_types format.bytes)

abbrev pub library_fits : Facts → Library → ExprList → Bool
library_fits facts library.Getchar xs = expression_count xs == 0
library_fits facts library.Abort xs = expression_count xs == 0
library_fits facts library.Printf xs = has_conversions (text_of_first facts xs) (expression_count (arguments_after_first xs))
library_fits facts f xs = expression_count xs == 1

-- whether a call has the arguments that it takes
abbrev pub has_fitting_arguments : Facts → Called → ExprList → Bool
has_fitting_arguments facts (called.Function number) xs = takes_arguments (facts.signature number) (expression_count xs)
has_fitting_arguments facts (called.Library f) xs = library_fits facts f xs
has_fitting_arguments facts called.Unknown xs = false

-- whether it is a function of the library that takes one argument
abbrev pub takes_one : Called → Bool
takes_one (called.Library library.Getchar) = false
takes_one (called.Library library.Abort) = false
takes_one (called.Library library.Printf) = false
takes_one (called.Library f) = true
takes_one c = false

-- the node of a function of the library: `printf` has one for each format
abbrev pub library_node : Library → ℕ → Option Node
library_node library.Getchar next = Some (node.Get next)
library_node library.Putchar next = Some (node.Put next)
library_node library.Puts next = Some (node.Puts next)
library_node library.Malloc next = Some (node.Alloc next)
library_node library.Free next = Some (node.Free next)
library_node library.Exit next = Some node.Exit
library_node library.Abort next = Some node.Abort
library_node library.Assert next = Some (node.Check next)
library_node library.Printf next = None

module _ (G : Graph) where
  -- `printf` by the string with this number, with so many values
  abbrev pub Formats : Option ℕ → ℕ → Path ℕ
  Formats None n = Nothing
  Formats (Some number) n = Does G (node.Format number n 0)

  -- what a function of the library does with its arguments
  abbrev pub LibraryActs : Library → Option ℕ → ℕ → Path ℕ
  LibraryActs library.Getchar number n = Does G (node.Get 0)
  LibraryActs library.Putchar number n = Does G (node.Put 0)
  LibraryActs library.Puts number n = Does G (node.Puts 0)
  LibraryActs library.Malloc number n = Does G (node.Alloc 0)
  LibraryActs library.Free number n = Does G (node.Free 0)
  LibraryActs library.Exit number n = HaltsAt G node.Exit
  LibraryActs library.Abort number n = HaltsAt G node.Abort
  LibraryActs library.Assert number n = Does G (node.Check 0)
  LibraryActs library.Printf number n = Formats number n

  -- what a call does behind its arguments
  abbrev pub Acts : Facts → Called → ExprList → Path ℕ
  Acts facts (called.Function number) xs i k = G i (view.Calls number k)
  Acts facts (called.Library f) xs i k = LibraryActs f (number_of_first facts xs) (expression_count (arguments_after_first xs)) i k
  Acts facts called.Unknown xs i k = Nothing i k

  -- a path, where this is known to hold
  abbrev pub PathOrNothing : Bool → Path ℕ → Path ℕ
  PathOrNothing true R = R
  PathOrNothing false R = Nothing

  -- What is left of a call whose arguments aren't those that it takes: no run of a checked text comes there.
  abbrev pub Unfit : Facts → Called → ExprList → Path ℕ
  Unfit facts c xs = PathOrNothing (takes_one c) (Acts facts c xs)
