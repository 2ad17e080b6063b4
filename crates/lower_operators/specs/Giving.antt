-- What calls give, and how they are done.
use Rattle.std.specs.Prelude.{ℕ, ◌==◌, Bool, true, false, length, if◌then◌else◌, Option, Some, None}
use Rattle.cbi_base.specs.declared.scalar.Kind.TheVariants.{Int, Unsigned}
use Rattle.c_types_rules.specs.declared.library.Library.{Library}
use Rattle.c_types_rules.specs.declared.library.Library.TheVariants as library
use Rattle.flow.specs.declared.node.Node.TheVariants as node
use Rattle.flow.specs.declared.node.View.TheVariants as view
use Rattle.c_meaning.specs.declared.value_type.Called.{Called}
use Rattle.c_meaning.specs.declared.value_type.Called.TheVariants as called
use Rattle.c_meaning.specs.declared.value_type.ValueType.TheVariants as type
use Rattle.c_meaning.specs.Words.{as_type, as_used, Facts, Signature, Sites, has_value, site_list}
use Rattle.lower_relation.specs.Calls.{ArgumentPath, ArgumentsPath, Returned}
use Rattle.lower_relation.specs.Paths.{Graph, Path, ◌then◌, Does, Emitted, HaltsAt, MarksAll, Nothing, PathOrStuck, Stuck}
use Rattle.lower_relation.specs.Values.{EmittedEffect, EmittedValue}
use Rattle.lower_nodes.specs.Purposes.{PurposeTakes}
use Rattle.lower_operators.specs.declared.giving.Giving.{Giving}
use Rattle.lower_operators.specs.declared.giving.Giving.TheVariants as giving
use Rattle.lower_nodes.specs.declared.purpose.Purpose.{Purpose}
use Rattle.lower_nodes.specs.declared.purpose.Purpose.TheVariants as purpose

abbrev pub library_gives : Library → Giving
library_gives library.Getchar = giving.Returned
library_gives library.Malloc = giving.Returned
library_gives library.Putchar = giving.Value
library_gives library.Puts = giving.Value
library_gives f = giving.Nothing

abbrev pub result_gives : Bool → Giving
result_gives true = giving.Returned
result_gives false = giving.Nothing

abbrev pub function_gives : Option Signature → Giving
function_gives None = giving.Value
function_gives (Some f) = result_gives (has_value f.result)

-- what a call gives, by what it calls
abbrev pub giving_of : Facts → Called → Giving
giving_of facts (called.Function number) = function_gives (facts.signature number)
giving_of facts (called.Library f) = library_gives f
giving_of facts called.Unknown = giving.Value

-- whether a value is wanted where there is none
abbrev pub is_refused : Giving → Purpose → Bool
is_refused giving.Nothing (purpose.Value next) = true
is_refused giving.Nothing (purpose.Truth yes_at no_at) = true
is_refused g p = false

module _ (G : Graph) where
  -- a function of the library, with so many arguments
  abbrev pub LibraryDoes : Library → ℕ → ArgumentPath → Path ℕ → Path ℕ
  LibraryDoes library.Getchar n argument print = PathOrStuck G (n == 0) (Does G (node.Get 0))
  LibraryDoes library.Putchar n argument print = argument (as_type (type.Number Int)) then Does G (node.Put 0)
  LibraryDoes library.Puts n argument print = argument (as_type (type.Pointer 1)) then Does G (node.Puts 0)
  LibraryDoes library.Malloc n argument print = argument (as_type (type.Number Unsigned)) then Does G (node.Alloc 0)
  LibraryDoes library.Free n argument print = argument (as_type (type.Pointer 0)) then Does G (node.Free 0)
  LibraryDoes library.Exit n argument print = argument (as_type (type.Number Int)) then HaltsAt G node.Exit
  LibraryDoes library.Abort n argument print = PathOrStuck G (n == 0) (HaltsAt G node.Abort)
  LibraryDoes library.Assert n argument print = argument as_used then Does G (node.Check 0)
  LibraryDoes library.Printf n argument print = print

  -- a function of the text
  abbrev pub FunctionDoes : ℕ → Option Signature → ℕ → ArgumentsPath → Path ℕ
  FunctionDoes number None n arguments = Stuck G
  FunctionDoes number (Some f) n arguments = PathOrStuck G (n == length f.params) (arguments f.params then (λ i k. G i (view.Calls number k)))

  abbrev pub CalledDoes : Facts → Called → ℕ → ArgumentsPath → ArgumentPath → Path ℕ → Path ℕ
  CalledDoes facts (called.Function number) n arguments argument print = FunctionDoes number (facts.signature number) n arguments
  CalledDoes facts (called.Library f) n arguments argument print = LibraryDoes f n argument print
  CalledDoes facts called.Unknown n arguments argument print = Stuck G

  module _ (facts : Facts) (sites : Sites) (token : ℕ) where
    -- a call that gives this
    abbrev pub EmittedCall : Giving → Path ℕ → Emitted
    EmittedCall giving.Value R = EmittedValue G R
    EmittedCall giving.Returned R = Returned G facts sites token R
    EmittedCall giving.Nothing R = EmittedEffect G R

    -- what becomes of what it gives
    abbrev pub GivenTakes : Giving → Path Purpose
    GivenTakes giving.Value i p = PurposeTakes G i p
    GivenTakes giving.Returned i p = (MarksAll G (site_list (sites.return_at token)) then PurposeTakes G) i p
    GivenTakes giving.Nothing i (purpose.Effect next) = Nothing i next
    GivenTakes giving.Nothing i p = Stuck G i p
