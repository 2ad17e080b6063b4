-- Nodes for each call.
use Rattle.std.proofs.Common.{ℕ, ◌+◌, ◌≤◌, refl, arith, List, length, Option, Some, None, Bool, true, false}
use Rattle.std.specs.Prelude.{◌==◌}
use Rattle.cbi_base.specs.Printing.{pieces_of}
use Rattle.cbi_base.specs.declared.scalar.Kind.TheVariants.{Int, Unsigned}
use Rattle.c_types_rules.specs.declared.library.Library.{Library}
use Rattle.c_types_rules.specs.declared.library.Library.TheVariants as library
use Rattle.flow.specs.declared.node.Node.TheVariants as node
use Rattle.flow.specs.declared.node.View.TheVariants as view
use Rattle.flow.specs.declared.program.Text.{Text}
use Rattle.c_meaning.specs.declared.value_type.Called.{Called}
use Rattle.c_meaning.specs.declared.value_type.Called.TheVariants as called
use Rattle.c_meaning.specs.declared.value_type.ValueType.{ValueType}
use Rattle.c_meaning.specs.declared.value_type.ValueType.TheVariants as type
use Rattle.c_meaning.specs.Words.{as_type, types_taken, as_used, Facts, Signature, Sites, has_value, site_list}
use Rattle.lower_relation.specs.Calls as c
use Rattle.lower_relation.specs.Paths.{Graph, Path}
use Rattle.lower_relation.specs.Room.{return_visits}
use Rattle.compiler_exists.specs.Built.{Builds}
use Rattle.lower_nodes.specs.Ends.{one_end}
use Rattle.compiler_exists.specs.Emits.{BuildsAll}
use Rattle.compiler_exists.proofs.Building.{◌before◌, does, fits, halts, marks, only, stuck, view_built}
use Rattle.compiler_exists.proofs.Values.{effected, valued}

pub prints : {R : Graph → c.ArgumentsPath} {a : ℕ} (number : Option ℕ) (format : Option Text) (n : ℕ) → ((types : List ValueType) →
    Builds one_end (λ G. R G types) a) →
    Builds one_end (λ G. c.PrintPath G number format n (R G)) (2 + a)
prints (Some number) (Some format) n r =
    only (n == length (types_taken (pieces_of format.bytes))) (r (types_taken (pieces_of format.bytes))
    before does (node.Format number n) (λ k. refl)) (omega arith) (omega arith)
prints None None n r = fits stuck (omega arith)
prints None (Some format) n r = fits stuck (omega arith)
prints (Some number) None n r = fits stuck (omega arith)

calls : (number : ℕ) → Builds one_end (λ (G : Graph) i k. G i (view.Calls number k)) 1
calls number = view_built (λ k. view.Calls number k) (node.Call number) (λ k. refl) (λ count at k b. b)

module _ (facts : Facts) (sites : Sites) where
  returned : {R : Graph → Path ℕ} {a n : ℕ} (token : ℕ) → Builds one_end R a → (a + return_visits sites token + 1 ≤ n) × (2 ≤ n) →
      BuildsAll (λ G. c.Returned G facts sites token (R G)) n
  returned token r le = valued (r before marks (site_list (sites.return_at token))) le

  with_result : {R : Graph → Path ℕ} {a n : ℕ} (token : ℕ) (has : Bool) → Builds one_end R a → (a + return_visits sites token + 1 ≤ n) × (2 ≤ n) →
      BuildsAll (λ G. c.WithResult G facts sites token has (R G)) n
  with_result token true r le = returned token r le
  with_result token false r le = effected r (omega (arith, le.0, le.1))

  module _ {R : Graph → c.ArgumentsPath} {a : ℕ} (r : (types : List ValueType) → Builds one_end (λ G. R G types) a) where
    call_function : (token number : ℕ) (signature : Option Signature) (n : ℕ) →
        BuildsAll (λ G. c.CallFunction G facts sites token number signature n (R G)) (5 + return_visits sites token + a)
    call_function token number None n = valued stuck (omega arith)
    call_function token number (Some one) n =
        with_result {a =
        2 + a} token (has_value one.result) (only (n == length one.params) (r one.params before calls number) (omega arith) (omega arith)) (omega arith)

    module _ {A : Graph → c.ArgumentPath} {P : Graph → Path ℕ} (l : (want : Option ValueType → Option ValueType) → Builds one_end (λ G. A G want) (2 + a))
        (p : Builds one_end P (2 + a)) where
      call_library : (token : ℕ) (function : Library) (n : ℕ) →
          BuildsAll (λ G. c.CallLibrary G facts sites token function n (A G) (P G)) (5 + return_visits sites token + a)
      call_library token library.Getchar n = returned {a = 2} token (only (n == 0) (does node.Get (λ k. refl)) (omega arith) (omega arith)) (omega arith)
      call_library token library.Putchar n = valued (l (as_type (type.Number Int)) before does node.Put (λ k. refl)) (omega arith)
      call_library token library.Puts n = valued (l (as_type (type.Pointer 1)) before does node.Puts (λ k. refl)) (omega arith)
      call_library token library.Malloc n = returned token (l (as_type (type.Number Unsigned)) before does node.Alloc (λ k. refl)) (omega arith)
      call_library token library.Free n = effected (l (as_type (type.Pointer 0)) before does node.Free (λ k. refl)) (omega arith)
      call_library token library.Exit n = effected (l (as_type (type.Number Int)) before halts node.Exit refl) (omega arith)
      call_library token library.Abort n = effected {a = 2} (only (n == 0) (halts node.Abort refl) (omega arith) (omega arith)) (omega arith)
      call_library token library.Assert n = effected (l as_used before does node.Check (λ k. refl)) (omega arith)
      call_library token library.Printf n = effected p (omega arith)

      pub call_does : (token : ℕ) (callee : Called) (n : ℕ) →
          BuildsAll (λ G. c.CallDoes G facts sites token callee n (R G) (A G) (P G)) (5 + return_visits sites token + a)
      call_does token (called.Function number) n = call_function token number (facts.signature number) n
      call_does token (called.Library function) n = call_library token function n
      call_does token called.Unknown n = valued stuck (omega arith)
