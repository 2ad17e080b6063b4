-- A program for each checked text with a table: what is kept of each function's nodes fits.
use Rattle.std.proofs.Common.{◌≡◌, ℕ, ◌+◌, ◌*◌, ◌<◌, ◌≤◌, ◌==◌, refl, ap, sym, ◌∙◌, subst, arith, List, [], ◌∷◌, length, map, Option, Some, None, false, option_map, slice_get}
use Rattle.std.specs.List.{sum_by}
use Rattle.std.proofs.lemmas.List.{length-map}
use Rattle.std.proofs.lemmas.Option.{same_Some}
use Rattle.c_syntax.specs.Words.{SourceTree, tree_kinds, EntryList}
use Rattle.c_types_expressions.specs.declared.walk.Walk.{Walk}
use Rattle.flow.specs.declared.node.Node.{Node}
use Rattle.flow.specs.declared.program.Function.{Function}
use Rattle.flow.specs.declared.program.Global.{Global}
use Rattle.flow.specs.declared.program.ProgramParts.{ProgramParts}
use Rattle.flow.specs.declared.scope.Bounds.{Bounds}
use Rattle.flow.specs.declared.scope.Names.{Names}
use Rattle.flow.specs.declared.site.TableParts.{TableParts}
use Rattle.flow.specs.Words.{NodesFit, IsProgram, parts_of, site_limit}
use Rattle.c_meaning.specs.Words.{Signature, Source, source_of, has_value}
use Rattle.lower_fits.specs.TextNames.{names_of_text}
use Rattle.lower_fits.specs.Parts.{ArePartsOf, FitsAsFunction}
use Rattle.lower_fits.specs.Ready.{IsReadyText}
use Rattle.lower_relation.specs.Functions.{IsGraphOf}
use Rattle.lower_relation.specs.Room.{function_room, functions_room}
use Rattle.compiler_exists.specs.Functions.{BodyBuilt}
use Rattle.compiler_exists.proofs.Functions.{function}
use Rattle.compiler_exists.proofs.Numbered.{few_nodes, found, functions_from, name_within, their_names}
use Rattle.compiler_exists.proofs.Turning.{length_all}
use Rattle.lower.specs.Bodies.{BodyNodes}
use Rattle.lower.specs.Fits.{HasFitting, IsFitting, bounds_with}
use Rattle.lower.specs.Programs.{AreFunctionsOf, HasNoMore, IsFunctionOf}
use Rattle.lower.proofs.Graphing.{graph_of}
use Rattle.lower.proofs.Readying.{plain_program, ready_program}
use Rattle.lower.proofs.Siting.{sites_apart}
use Rattle.lower.proofs.Texts.{are_fitting}
use Rattle.compiler_exists.specs.Kept.{kept_node, kept_nodes}
use Rattle.compiler_exists.specs.TextPrograms.{HasProgram}
use Rattle.compiler_exists.proofs.Kept.{all_may_stand, body_kept}
use Rattle.compiler_exists.proofs.KeptFit.{kept_fit}
use Rattle.compiler_exists.proofs.Ordering.{ordered, ordered_lead, ordered_long, ordered_nodes}
use Rattle.compiler_exists.proofs.ProgramTexts.{as_many_names, has_globals, no_more}

module _ (tree : SourceTree) (walk : Walk) (table : TableParts) (ready : IsReadyText tree walk table) (fits : length table.sites ≤ site_limit) where
  abbrev src : Source
  src = source_of tree walk table.sites

  abbrev named : Names
  named = names_of_text tree walk table.sites

  pub built : (number : ℕ) (s : Signature) → BodyBuilt src.facts src.sites (number == src.main) s.result (src.body number)
  built number s = function src.facts src.sites (number == src.main) s.result (src.body number)

  abbrev in_order : ℕ → Signature → List Node
  in_order number s = ordered src.facts src.sites (number == src.main) s.result (src.body number) (built number s)

  abbrev its_bounds : ℕ → Signature → Bounds
  its_bounds number s = bounds_with number s (length (in_order number s))

  -- what is kept of the function's nodes
  abbrev kept : ℕ → Signature → List Node
  kept number s = kept_nodes named (its_bounds number s) src.sites.site (in_order number s)

  kept_long : (number : ℕ) (s : Signature) → length (kept number s) ≡ length (in_order number s)
  kept_long number s = length-map (in_order number s) (kept_node named (its_bounds number s) src.sites.site (in_order number s))

  -- the function with this number, name and signature
  abbrev function_with : ℕ → List ℕ → Option Signature → Function
  function_with number name None = record { name = name; value = false; params = 0; locals = []; nodes = [] }
  function_with number name (Some s) =
      record { name = name; value = has_value s.result; params = length s.params; locals = s.locals; nodes = kept number s }

  its_name : (number : ℕ) (name : List ℕ) (s : Option Signature) → (function_with number name s).name ≡ name
  its_name number name None = refl
  its_name number name (Some s) = refl

  few_of : (number : ℕ) (name : List ℕ) (s : Option Signature) → length (function_with number name s).nodes ≤ function_room src.sites (src.body number)
  few_of number name None = omega arith
  few_of number name (Some s) = let b = built number s in omega (arith, kept_long number s, length_all b.start b.graph, b.few)

  kept_body : (number : ℕ) (s : Signature) (body : Option EntryList) (nodes : List Node) → HasFitting src named number s body →
      BodyNodes src.facts src.sites (number == src.main) s.result body nodes →
      BodyNodes src.facts src.sites (number == src.main) s.result body (kept_nodes named (bounds_with number s (length nodes)) src.sites.site nodes)
  kept_body number s None nodes fit b = absurd fit
  kept_body number s (Some entries) nodes fit b =
      body_kept src.facts src.sites named (bounds_with number s (length nodes)) (sites_apart table.sites) (number == src.main) s fit.0 entries nodes
      (kept_nodes named (bounds_with number s (length nodes)) src.sites.site nodes) (fit.1 (length nodes)) b refl

  module _ (number : ℕ) (name : List ℕ) (s : Signature) (known : src.facts.signature number ≡ Some s) where
    is_function : HasFitting src named number s (src.body number) → IsFunctionOf src number (function_with number name (Some s))
    is_function fit = record {
      signature = s;
      known = known;
      called = refl;
      nodes = kept_body number s (src.body number) (in_order number s) fit
          (ordered_nodes src.facts src.sites (number == src.main) s.result (src.body number) (built number s));
      stand = all_may_stand named (its_bounds number s) src.sites.site (in_order number s);
    }

    nodes_fit : NodesFit named (bounds_with number s (length (kept number s))) (kept number s)
    nodes_fit =
        subst (λ (n : ℕ). NodesFit named (bounds_with number s n) (kept number s)) (sym (kept_long number s))
        (kept_fit named (its_bounds number s) src.sites.site (in_order number s)
        (ordered_lead src.facts src.sites (number == src.main) s.result (src.body number) (built number s)) refl)

    fits_as : FitsAsFunction tree walk table number (function_with number name (Some s))
    fits_as = record {
      signature = s;
      known = known;
      value = refl;
      params = refl;
      locals = refl;
      entry = omega (arith, kept_long number s, ordered_long src.facts src.sites (number == src.main) s.result (src.body number) (built number s));
      nodes = nodes_fit;
    }

  abbrev functions : List Function
  functions = functions_from src.facts.signature function_with 0 table.functions

  called : map (λ f. f.name) functions ≡ table.functions
  called = their_names src.facts.signature function_with its_name 0 table.functions

  as_many : length functions ≡ length table.functions
  as_many = sym (length-map functions (λ f. f.name)) ∙ ap length called

  -- the function with a number, where there is one
  module _ (number : ℕ) (f : Function) where
    given_by_name : (name : Option (List ℕ)) → slice_get table.functions number ≡ name → slice_get functions number ≡ Some f →
        (own : List ℕ) × (function_with number own (src.facts.signature number) ≡ f) × (slice_get table.functions number ≡ Some own)
    given_by_name None here at =
        let none : slice_get functions number ≡ None =
        found src.facts.signature function_with table.functions 0 number number (omega arith)
        ∙ ap (option_map (λ n. function_with number n (src.facts.signature number))) here in
        absurd (cc)
    given_by_name (Some name) here at =
        let some : slice_get functions number ≡ Some (function_with number name (src.facts.signature number)) =
        found src.facts.signature function_with table.functions 0 number number (omega arith)
        ∙ ap (option_map (λ n. function_with number n (src.facts.signature number))) here in
        (name, same_Some _ _ (sym some ∙ at), here)

    is_fitting : slice_get functions number ≡ Some f → IsFitting src named number
    is_fitting at =
        let g = given_by_name (slice_get table.functions number) refl at in
        are_fitting tree walk table ready fits number
        (omega (arith, name_within table.functions number g.0 g.2, as_many_names tree walk ready.whole.accepted table ready.functions))

    own_function : slice_get functions number ≡ Some f → IsFunctionOf src number f × FitsAsFunction tree walk table number f
    own_function at =
        let g = given_by_name (slice_get table.functions number) refl at in
        let fit : IsFitting src named number = is_fitting at in
        let same : function_with number g.0 (Some fit.signature) ≡ f = ap (function_with number g.0) (sym fit.known) ∙ g.1 in (
          subst (λ (h : Function). IsFunctionOf src number h) same (is_function number g.0 fit.signature fit.known fit.body),
          subst (λ (h : Function). FitsAsFunction tree walk table number h) same (fits_as number g.0 fit.signature fit.known),
        )

  are_functions : AreFunctionsOf src functions
  are_functions number f at = (own_function number f at).0

  none_more : HasNoMore src (length functions)
  none_more number le = no_more tree walk ready.whole.accepted table ready.functions number (omega (arith, le, as_many))

  pub globals : List Global
  globals = (has_globals tree walk ready.whole.accepted).0

  abbrev program : ProgramParts
  program = parts_of src.facts.statics.texts globals functions src.main table.sites

  few_nodes_of : functions_room src.sites src.body (length walk.definitions) ≤ 16 * length (tree_kinds tree) + length table.sites →
      sum_by (λ f. length f.nodes) functions ≤ 16 * length (tree_kinds tree) + length table.sites
  few_nodes_of most =
      let same = ap (functions_room src.sites src.body) (as_many_names tree walk ready.whole.accepted table ready.functions) in
      omega (arith, few_nodes src.facts.signature function_with src.sites src.body few_of table.functions, same, most)

  -- the parts of the program
  are_parts : functions_room src.sites src.body (length walk.definitions) ≤ 16 * length (tree_kinds tree) + length table.sites →
      ArePartsOf tree walk table globals functions
  unfolding globals
  are_parts most = record {
    objects = sym (has_globals tree walk ready.whole.accepted).1;
    count = (has_globals tree walk ready.whole.accepted).2;
    names = called;
    each = λ number f at. (own_function number f at).1;
    few = few_nodes_of most;
  }

  graph_is : IsGraphOf src program
  unfolding globals
  graph_is =
      graph_of src program are_functions none_more (sym (has_globals tree walk ready.whole.accepted).1) (has_globals tree walk ready.whole.accepted).2 refl refl
      (λ number. refl)

  -- the program
  pub has_program : functions_room src.sites src.body (length walk.definitions) ≤ 16 * length (tree_kinds tree) + length table.sites →
      (ArePartsOf tree walk table globals functions → IsProgram program) → HasProgram tree walk table
  has_program most whole = record {
    program = program;
    is_program = whole (are_parts most);
    graph = graph_is;
    table_is = ap (λ (names : List (List ℕ)). record { sites = table.sites; functions = names }) called;
    ready = ready_program src program are_functions (λ number. refl);
    plain = plain_program src functions are_functions;
    few = few_nodes_of most;
  }
