-- A program for each source that names what a program has.
use Rattle.std.proofs.Common.{◌≡◌, ℕ, ◌≤◌, ◌==◌, refl, ap, sym, ◌∙◌, arith, List, [], length, Option, Some, None, false, option_map, slice_get}
use Rattle.std.specs.Prelude.{IsSome}
use Rattle.std.proofs.lemmas.Bool.{false≢true}
use Rattle.flow.specs.declared.node.Node.{Node}
use Rattle.flow.specs.declared.program.Function.{Function}
use Rattle.flow.specs.declared.program.Global.{Global}
use Rattle.flow.specs.declared.program.ProgramParts.{ProgramParts}
use Rattle.flow.specs.declared.program.Text.{Text}
use Rattle.flow.specs.declared.site.TableParts.{TableParts}
use Rattle.flow.specs.Code.{callee_of, code_of, view_in}
use Rattle.c_meaning.specs.Words.{Signature, Source, has_value}
use Rattle.lower_relation.specs.Functions.{BodyIn, Lowered, callee_with}
use Rattle.lower_relation.specs.Room.{function_room}
use Rattle.compiler_exists.specs.Functions.{BodyBuilt}
use Rattle.compiler_exists.specs.Programs.{Brings, HasGraphProgram}
use Rattle.compiler_exists.proofs.Functions.{function}
use Rattle.compiler_exists.proofs.Numbered.{few_nodes, found, functions_from, name_past, name_within, their_names}
use Rattle.compiler_exists.proofs.Turning.{counted_down, length_all, turned_all, turned_stands}

module _ (src : Source) where
  built : (number : ℕ) (s : Signature) → BodyBuilt src.facts src.sites (number == src.main) s.result (src.body number)
  built number s = function src.facts src.sites (number == src.main) s.result (src.body number)

  -- the nodes of the function, in the order of a program
  abbrev nodes_of : ℕ → Signature → List Node
  nodes_of number s = let b = built number s in turned_all b.start b.graph

  -- the function with this number, name and signature
  abbrev function_with : ℕ → List ℕ → Option Signature → Function
  function_with number name None = record { name = name; value = false; params = 0; locals = []; nodes = [] }
  function_with number name (Some s) =
      record { name = name; value = has_value s.result; params = length s.params; locals = s.locals; nodes = nodes_of number s }

  abbrev all_functions : List (List ℕ) → List Function
  all_functions names = functions_from src.facts.signature function_with 0 names

  its_name : (number : ℕ) (name : List ℕ) (s : Option Signature) → (function_with number name s).name ≡ name
  its_name number name None = refl
  its_name number name (Some s) = refl

  -- how many nodes they have
  few_of : (number : ℕ) (name : List ℕ) (s : Option Signature) → length (function_with number name s).nodes ≤ function_room src.sites (src.body number)
  few_of number name None = omega arith
  few_of number name (Some s) = let b = built number s in omega (arith, length_all b.start b.graph, b.few)

  module _ (texts : List Text) (globals : List Global) (table : TableParts) (named : Brings src texts globals table) where
    abbrev program : ProgramParts
    program = record { texts = texts; globals = globals; functions = all_functions table.functions; main = src.main; sites = table.sites }

    callee_found : (number : ℕ) (name : List ℕ) (s : Option Signature) → IsSome s → callee_of (Some (function_with number name s)) ≡ option_map callee_with s
    callee_found number name None is = absurd (false≢true is)
    callee_found number name (Some s) is = refl

    callee : (number : ℕ) (name : Option (List ℕ)) → slice_get table.functions number ≡ name →
        callee_of (option_map (λ n. function_with number n (src.facts.signature number)) name) ≡ option_map callee_with (src.facts.signature number)
    callee number None at = sym (ap (option_map callee_with) (named.no_more number (name_past table.functions number at)))
    callee number (Some name) at = callee_found number name (src.facts.signature number) (named.signed number (name_within table.functions number name at))

    body_in : (bank : ℕ → ℕ) (number : ℕ) (s : Signature) (name : Option (List ℕ)) → slice_get table.functions number ≡ name →
        src.facts.signature number ≡ Some s →
        BodyIn (code_of program bank) src number s
    body_in bank number s None at is =
        let gone : src.facts.signature number ≡ None = named.no_more number (name_past table.functions number at) in
        absurd (cc)
    body_in bank number s (Some name) at is =
        let b = built number s in
        let here : slice_get (all_functions table.functions) number ≡ Some (function_with number name (Some s)) =
        found src.facts.signature function_with table.functions 0 number number (omega arith) ∙ ap
        (option_map (λ n. function_with number n (src.facts.signature number))) at
        ∙ ap (λ o. Some (function_with number name o)) is in
        record {
          nodes = b.graph;
          ren = counted_down b.start;
          stands = record { at = λ i v e. ap (λ o. view_in o (counted_down b.start i)) here ∙ turned_stands b.graph b.start b.last i v e };
          start = b.start;
          first_node = omega arith;
          entry = b.entry;
          begins = b.begins;
          exits = b.exits;
          runs = b.runs;
          leaves = b.leaves;
        }

    lowered : (bank : ℕ → ℕ) → Lowered (code_of program bank) src
    lowered bank = record {
      agrees = record { statics = sym named.statics; site = λ number. sym (named.sites number) };
      callees =
          λ number. ap callee_of (found src.facts.signature function_with table.functions 0 number number (omega arith)) ∙ callee number
          (slice_get table.functions number) refl;
      bodies = λ number s is. body_in bank number s (slice_get table.functions number) refl is;
    }

    -- the program does what the source means
    pub has_program : HasGraphProgram src table
    has_program = record {
      program = program;
      graph = record { lowered = lowered; main = refl; objects = named.objects };
      table_is =
          ap (λ (names : List (List ℕ)). record {
            sites =
                table.sites;
            functions = names;
          }) (their_names src.facts.signature function_with its_name 0 table.functions);
      few = few_nodes src.facts.signature function_with src.sites src.body few_of table.functions;
    }
