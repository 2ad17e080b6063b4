-- What becomes of what calls give.
use Rattle.std.proofs.Common.{◌≡◌, ℕ, subst, refl, ◌∙◌, List, Option, Some, None, Bool, true, false}
use Rattle.c_types_rules.specs.declared.library.Library.{Library}
use Rattle.c_types_rules.specs.declared.library.Library.TheVariants as library
use Rattle.flow.specs.declared.node.Node.{Node}
use Rattle.c_meaning.specs.declared.value_type.Called.{Called}
use Rattle.c_meaning.specs.declared.value_type.Called.TheVariants as called
use Rattle.c_meaning.specs.Words.{Facts, Signature, Sites, has_value, site_list}
use Rattle.lower_relation.specs.Calls.{ArgumentPath, ArgumentsPath, CallDoes, CallFunction, CallLibrary, WithResult}
use Rattle.lower_relation.specs.Paths.{Graph, Path, ◌then◌, MarksAll, Nothing, Stuck}
use Rattle.lower_operators.specs.Giving.{CalledDoes, FunctionDoes, EmittedCall, GivenTakes, LibraryDoes, function_gives, giving_of, is_refused, library_gives, result_gives}
use Rattle.lower_nodes.specs.Ends.{WantedAlike}
use Rattle.lower_nodes.specs.Made.{GraphPath, Made, MadeAlone, MadeFor}
use Rattle.lower_nodes.specs.Purposes.{PurposeTakes, Serves, condition_ways}
use Rattle.lower_nodes.specs.Standing.{Allowed}
use Rattle.lower_operators.specs.declared.giving.Giving.{Giving}
use Rattle.lower_operators.specs.declared.giving.Giving.TheVariants as giving
use Rattle.lower_nodes.specs.declared.purpose.Purpose.{Purpose}
use Rattle.lower_nodes.specs.declared.purpose.Purpose.TheVariants as purpose
use Rattle.lower_nodes.proofs.Building.{both_ways, carried, nothing_made, stuck_anywhere, then_made}
use Rattle.lower_nodes.proofs.Wanting.{as_effect, as_truth, as_value}

module _ (facts : Facts) (sites : Sites) (token : ℕ) where
  pub given_value : (p : Purpose) (n0 n1 : List Node) (i : ℕ) → MadeFor (λ G. PurposeTakes G) n0 n1 i p →
      MadeFor (λ G. GivenTakes G facts sites token giving.Value) n0 n1 i p
  given_value p n0 n1 i made = both_ways (λ G. PurposeTakes G) (λ G. GivenTakes G facts sites token giving.Value) p (λ G i p h. h) (λ G i p h. h) n0 n1 i made

  pub given_returned : (site : Option ℕ) (p : Purpose) (n0 n1 n2 : List Node) (after i : ℕ) → site ≡ sites.return_at token →
      MadeFor (λ G. PurposeTakes G) n0 n1 after p →
      Made (λ G. MarksAll G (site_list site)) n1 n2 i after → MadeFor (λ G. GivenTakes G facts sites token giving.Returned) n0 n2 i p
  given_returned site p n0 n1 n2 after i e taken marked =
      both_ways (λ G. MarksAll G (site_list (sites.return_at token)) then PurposeTakes G) (λ G. GivenTakes G facts sites token giving.Returned) p
      (λ G i p h. h) (λ G i p h. h) n0 n2 i
      (then_made (λ G. MarksAll G (site_list (sites.return_at token))) (λ G. PurposeTakes G) n0 n1 n2 i after p taken
      (subst (λ s. Made (λ G. MarksAll G (site_list s)) n1 n2 i after) e marked))

  pub given_nothing : (n : List Node) (next : ℕ) → MadeFor (λ G. GivenTakes G facts sites token giving.Nothing) n n next (purpose.Effect next)
  given_nothing n next =
      as_effect (λ G. Nothing) (λ G. GivenTakes G facts sites token giving.Nothing) (λ G i k h. h) (λ G i k h. h) n n next next (nothing_made n next)

  -- where none is given, and a value or its truth is wanted
  pub given_stuck : (p : Purpose) (n0 n1 : List Node) (i k : ℕ) → ((next : ℕ) → p ≡ purpose.Effect next → ⊥) → MadeAlone (λ G. Stuck G) n0 n1 i k →
      MadeFor (λ G. GivenTakes G facts sites token giving.Nothing) n0 n1 i p
  given_stuck (purpose.Value next) n0 n1 i k other made =
      as_value (λ G. Stuck G) (λ G. GivenTakes G facts sites token giving.Nothing) (λ G i k h. h) (λ s i k h. h) n0 n1 i next (stuck_anywhere n0 n1 i k next made)
  given_stuck (purpose.Effect next) n0 n1 i k other made = absurd (other next refl)
  given_stuck (purpose.Truth yes_at no_at) n0 n1 i k other made =
      as_truth (λ G. Stuck G) (λ G. GivenTakes G facts sites token giving.Nothing) (λ G i w h. h) (λ s i w h. h) n0 n1 i yes_at no_at
      (stuck_anywhere n0 n1 i k (condition_ways yes_at no_at) made)

  pub same_refused : (g : Giving) (p q : Purpose) → WantedAlike p q → is_refused g q ≡ is_refused g p
  same_refused giving.Nothing (purpose.Value next) (purpose.Value other) same = refl
  same_refused giving.Nothing (purpose.Value next) (purpose.Effect other) same = absurd same
  same_refused giving.Nothing (purpose.Value next) (purpose.Truth yes_at no_at) same = absurd same
  same_refused giving.Nothing (purpose.Effect next) (purpose.Value other) same = absurd same
  same_refused giving.Nothing (purpose.Effect next) (purpose.Effect other) same = refl
  same_refused giving.Nothing (purpose.Effect next) (purpose.Truth yes_at no_at) same = absurd same
  same_refused giving.Nothing (purpose.Truth yes_to no_to) (purpose.Value other) same = absurd same
  same_refused giving.Nothing (purpose.Truth yes_to no_to) (purpose.Effect other) same = absurd same
  same_refused giving.Nothing (purpose.Truth yes_to no_to) (purpose.Truth yes_at no_at) same = refl
  same_refused giving.Value p q same = refl
  same_refused giving.Returned p q same = refl

  given_serves : (G : Graph) (g : Giving) (R : Path ℕ) (p : Purpose) (i : ℕ) → is_refused g p ≡ false → (R then GivenTakes G facts sites token g) i p →
      Serves (EmittedCall G facts sites token g R) i p
  given_serves G giving.Value R (purpose.Value next) i e h = subst (λ k. R i k) h.2 h.1
  given_serves G giving.Value R (purpose.Effect next) i e h = h
  given_serves G giving.Value R (purpose.Truth yes_at no_at) i e h = h
  given_serves G giving.Returned R (purpose.Value next) i e h =
      (h.0, h.1, subst (λ k. MarksAll G (site_list (sites.return_at token)) h.0 k) h.2.2 h.2.1)
  given_serves G giving.Returned R (purpose.Effect next) i e h = (h.2.0, (h.0, h.1, h.2.1), h.2.2)
  given_serves G giving.Returned R (purpose.Truth yes_at no_at) i e h = (h.2.0, (h.0, h.1, h.2.1), h.2.2)
  given_serves G giving.Nothing R (purpose.Value next) i e h = cc
  given_serves G giving.Nothing R (purpose.Effect next) i e h = subst (λ k. R i k) h.2 h.1
  given_serves G giving.Nothing R (purpose.Truth yes_at no_at) i e h = cc

  serves_given : (G : Graph) (g : Giving) (R : Path ℕ) (p : Purpose) (i : ℕ) → is_refused g p ≡ false → Serves (EmittedCall G facts sites token g R) i p →
      (R then GivenTakes G facts sites token g) i p
  serves_given G giving.Value R (purpose.Value next) i e h = (next, h, refl)
  serves_given G giving.Value R (purpose.Effect next) i e h = h
  serves_given G giving.Value R (purpose.Truth yes_at no_at) i e h = h
  serves_given G giving.Returned R (purpose.Value next) i e h = (h.0, h.1, (next, h.2, refl))
  serves_given G giving.Returned R (purpose.Effect next) i e h = (h.1.0, h.1.1, (h.0, h.1.2, h.2))
  serves_given G giving.Returned R (purpose.Truth yes_at no_at) i e h = (h.1.0, h.1.1, (h.0, h.1.2, h.2))
  serves_given G giving.Nothing R (purpose.Value next) i e h = cc
  serves_given G giving.Nothing R (purpose.Effect next) i e h = (next, h, refl)
  serves_given G giving.Nothing R (purpose.Truth yes_at no_at) i e h = cc

  pub given_made : (g : Giving) (R : GraphPath ℕ) (p : Purpose) (n0 n1 n2 : List Node) (after i : ℕ) → is_refused g p ≡ false →
      MadeFor (λ G. GivenTakes G facts sites token g) n0 n1 after p → Made R n1 n2 i after → MadeFor (λ G. Serves (EmittedCall G facts sites token g (R G))) n0 n2 i p
  given_made g R p n0 n1 n2 after i e taken made =
      carried (λ G. R G then GivenTakes G facts sites token g) (λ G. Serves (EmittedCall G facts sites token g (R G))) p p (λ G i h. given_serves G g
      (R G) p i e h) (λ n b. b)
      (λ s n j q same like h. (q, same, like, serves_given (Allowed s) g (R (Allowed s)) q j (same_refused g p q same ∙ e) h)) n0 n2 i
      (then_made R (λ G. GivenTakes G facts sites token g) n0 n1 n2 i after p taken made)

  -- where a value is wanted and there is none, control goes nowhere
  pub serves_refused : (G : Graph) (g : Giving) (R : Path ℕ) (p : Purpose) (i k : ℕ) → is_refused g p ≡ true → Serves (EmittedCall G facts sites token g R) i p →
      Stuck G i k
  serves_refused G giving.Nothing R (purpose.Value next) i k e h = h
  serves_refused G giving.Nothing R (purpose.Truth yes_at no_at) i k e h = h
  serves_refused G giving.Value R p i k e h = cc
  serves_refused G giving.Returned R p i k e h = cc
  serves_refused G giving.Nothing R (purpose.Effect next) i k e h = cc

  pub refused_serves : (G : Graph) (g : Giving) (R : Path ℕ) (p : Purpose) (i k : ℕ) → is_refused g p ≡ true → Stuck G i k →
      Serves (EmittedCall G facts sites token g R) i p
  refused_serves G giving.Nothing R (purpose.Value next) i k e h = h
  refused_serves G giving.Nothing R (purpose.Truth yes_at no_at) i k e h = h
  refused_serves G giving.Value R p i k e h = cc
  refused_serves G giving.Returned R p i k e h = cc
  refused_serves G giving.Nothing R (purpose.Effect next) i k e h = cc

  result_is : (G : Graph) (b : Bool) (R : Path ℕ) → EmittedCall G facts sites token (result_gives b) R ≡ WithResult G facts sites token b R
  result_is G true R = refl
  result_is G false R = refl

  function_is : (G : Graph) (number : ℕ) (s : Option Signature) (n : ℕ) (arguments : ArgumentsPath) →
      EmittedCall G facts sites token (function_gives s) (FunctionDoes G number s n arguments) ≡ CallFunction G facts sites token number s n arguments
  function_is G number None n arguments = refl
  function_is G number (Some f) n arguments = result_is G (has_value f.result) (FunctionDoes G number (Some f) n arguments)

  library_is : (G : Graph) (f : Library) (n : ℕ) (argument : ArgumentPath) (print : Path ℕ) →
      EmittedCall G facts sites token (library_gives f) (LibraryDoes G f n argument print) ≡ CallLibrary G facts sites token f n argument print
  library_is G library.Getchar n argument print = refl
  library_is G library.Putchar n argument print = refl
  library_is G library.Puts n argument print = refl
  library_is G library.Malloc n argument print = refl
  library_is G library.Free n argument print = refl
  library_is G library.Exit n argument print = refl
  library_is G library.Abort n argument print = refl
  library_is G library.Assert n argument print = refl
  library_is G library.Printf n argument print = refl

  pub call_is : (G : Graph) (c : Called) (n : ℕ) (arguments : ArgumentsPath) (argument : ArgumentPath) (print : Path ℕ) →
      EmittedCall G facts sites token (giving_of facts c) (CalledDoes G facts c n arguments argument print) ≡ CallDoes G facts sites token c n arguments
      argument print
  call_is G (called.Function number) n arguments argument print = function_is G number (facts.signature number) n arguments
  call_is G (called.Library f) n arguments argument print = library_is G f n argument print
  call_is G called.Unknown n arguments argument print = refl

pub ruleset gives_made = (given_value, given_returned, given_nothing)
