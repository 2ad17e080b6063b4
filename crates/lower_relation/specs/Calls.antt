-- What a graph does for each call (C99 6.5.2.2, 7.2, 7.19, 7.20).
use Rattle.std.specs.Prelude.{ℕ, ◌==◌, Bool, true, false, List, length, Option, Some, None}
use Rattle.cbi_base.specs.Printing.{pieces_of}
use Rattle.cbi_base.specs.declared.scalar.Kind.TheVariants.{Int, Unsigned}
use Rattle.c_types_rules.specs.declared.library.Library.{Library}
use Rattle.c_types_rules.specs.declared.library.Library.TheVariants as library
use Rattle.flow.specs.declared.node.Node.TheVariants as node
use Rattle.flow.specs.declared.node.View.TheVariants as view
use Rattle.flow.specs.declared.program.Text.{Text}
use Rattle.c_meaning.specs.declared.value_type.Called.{Called}
use Rattle.c_meaning.specs.declared.value_type.Called.TheVariants as called
use Rattle.c_meaning.specs.declared.value_type.ValueType.{ValueType}
use Rattle.c_meaning.specs.declared.value_type.ValueType.TheVariants as type
use Rattle.c_meaning.specs.Words.{as_type, types_taken, as_used, Facts, Signature, Sites, has_value, site_list}
use Rattle.lower_relation.specs.Paths.{Graph, Path, ◌then◌, Does, Emitted, HaltsAt, MarksAll, PathOrStuck, Stuck}
use Rattle.lower_relation.specs.Values.{EmittedEffect, EmittedValue}

-- arguments of these types
abbrev pub ArgumentsPath : Type 1
ArgumentsPath = List ValueType → Path ℕ

-- the one argument, of the type that is wanted where its own one is this
abbrev pub ArgumentPath : Type 1
ArgumentPath = (Option ValueType → Option ValueType) → Path ℕ

module _ (G : Graph) where
  -- `printf` with the string that has this number as its format, and so many other arguments
  abbrev pub PrintPath : Option ℕ → Option Text → ℕ → ArgumentsPath → Path ℕ
  PrintPath (Some number) (Some format) n arguments =
      PathOrStuck G (n == length (types_taken (pieces_of format.bytes))) (arguments (types_taken (pieces_of format.bytes)) then Does G (node.Format number n 0))
  PrintPath number format n arguments = Stuck G

  module _ (facts : Facts) (sites : Sites) where
    -- a returned value, with the visit of its site
    abbrev pub Returned : ℕ → Path ℕ → Emitted
    Returned token R = EmittedValue G (R then MarksAll G (site_list (sites.return_at token)))

    -- a call of a function without a result has no value
    abbrev pub WithResult : ℕ → Bool → Path ℕ → Emitted
    WithResult token true R = Returned token R
    WithResult token false R = EmittedEffect G R

    -- a function of the text: its arguments, and then its body
    abbrev pub CallFunction : ℕ → ℕ → Option Signature → ℕ → ArgumentsPath → Emitted
    CallFunction token number None n arguments = EmittedValue G (Stuck G)
    CallFunction token number (Some f) n arguments =
        WithResult token (has_value f.result) (PathOrStuck G (n == length f.params) (arguments f.params then (λ i k. G i (view.Calls number k))))

    -- a function of the library
    abbrev pub CallLibrary : ℕ → Library → ℕ → ArgumentPath → Path ℕ → Emitted
    CallLibrary token library.Getchar n argument print = Returned token (PathOrStuck G (n == 0) (Does G (node.Get 0)))
    CallLibrary token library.Putchar n argument print = EmittedValue G (argument (as_type (type.Number Int)) then Does G (node.Put 0))
    CallLibrary token library.Puts n argument print = EmittedValue G (argument (as_type (type.Pointer 1)) then Does G (node.Puts 0))
    CallLibrary token library.Malloc n argument print = Returned token (argument (as_type (type.Number Unsigned)) then Does G (node.Alloc 0))
    CallLibrary token library.Free n argument print = EmittedEffect G (argument (as_type (type.Pointer 0)) then Does G (node.Free 0))
    CallLibrary token library.Exit n argument print = EmittedEffect G (argument (as_type (type.Number Int)) then HaltsAt G node.Exit)
    CallLibrary token library.Abort n argument print = EmittedEffect G (PathOrStuck G (n == 0) (HaltsAt G node.Abort))
    CallLibrary token library.Assert n argument print = EmittedEffect G (argument as_used then Does G (node.Check 0))
    CallLibrary token library.Printf n argument print = EmittedEffect G print

    -- a call by what it calls, with so many arguments
    abbrev pub CallDoes : ℕ → Called → ℕ → ArgumentsPath → ArgumentPath → Path ℕ → Emitted
    CallDoes token (called.Function number) n arguments argument print = CallFunction token number (facts.signature number) n arguments
    CallDoes token (called.Library function) n arguments argument print = CallLibrary token function n argument print
    CallDoes token called.Unknown n arguments argument print = EmittedValue G (Stuck G)
