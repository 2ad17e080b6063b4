-- The program that is put together of the parts of an accepted text.
use Rattle.std.proofs.Common.{◌≡◌, ℕ, ◌≤◌, arith, ap, refl, sym, ◌∙◌, subst, List, Option, Some, None, Bool, false, [], length, map, option_map, slice_get}
use Rattle.std.specs.Prelude.{◌+◌, ◌*◌, IsSome}
use Rattle.std.specs.List.{All}
use Rattle.std.proofs.lemmas.Bool.{false≢true}
use Rattle.std.proofs.lemmas.List.{length-map}
use Rattle.std.proofs.lemmas.Option.{same_Some}
use Rattle.c_syntax.specs.Words.{SourceTree, tree_kinds}
use Rattle.c_types_expressions.specs.declared.walk.Walk.{Walk}
use Rattle.flow.specs.Words.{ArePlain, IsReady, Callee, IsProgram, parts_of, function_limit, local_limit, site_limit, text_limit}
use Rattle.flow.specs.declared.program.Function.{Function}
use Rattle.flow.specs.declared.program.Global.{Global}
use Rattle.flow.specs.declared.program.ProgramParts.{ProgramParts}
use Rattle.flow.specs.declared.program.Text.{Text}
use Rattle.flow.specs.declared.scope.Names.{Names}
use Rattle.flow.specs.declared.site.Site.{Site}
use Rattle.flow.specs.declared.site.TableParts.{TableParts}
use Rattle.c_meaning.specs.Words.{Signature, Source, string_literals, texts_of, source_of}
use Rattle.lower_fits.specs.TextNames.{names_of_text}
use Rattle.lower_relation.specs.Functions.{IsGraphOf}
use Rattle.lower_fits.proofs.BegunGlobals.{objects_there}
use Rattle.lower_fits.proofs.DefinedFunctions.{as_many, few_defined}
use Rattle.lower_fits.proofs.Constants.{globals_begun}
use Rattle.lower_fits.proofs.Texts.{few_texts}
use Rattle.lower_fits.specs.Parts.{ArePartsOf, FitsAsFunction}
use Rattle.lower_fits.specs.Ready.{IsReadyText}
use Rattle.lower_facts.specs.declared.facts.TreeFacts.{TreeFacts}
use Rattle.lower_facts.specs.Facts.{facts_in, known_in, source_in, table_in, tree_in}
use Rattle.lower_globals.specs.Objects.{begun_with}
use Rattle.lower_globals.specs.Starts.{IsBegunItem}
use Rattle.lower.specs.Fits.{AreFitting, IsFitting, NodesStand, names_in}
use Rattle.lower.specs.Programs.{AreFunctionsOf, HasNoMore, IsFunctionOf, node_count}
use Rattle.lower.proofs.Graphing.{graph_of}
use Rattle.lower.proofs.Readying.{plain_program, ready_program}
use Rattle.lower.proofs.Texts.{are_fitting}

-- what is known of a checked tree is known of its facts
pub ready_facts : (f : TreeFacts) (tree : SourceTree) (w : Walk) (table : TableParts) → tree_in f ≡ tree → known_in f ≡ w → IsReadyText tree w table →
    IsReadyText (tree_in f) (known_in f) table
ready_facts f tree w table e1 e2 ready =
    subst (λ (k : Walk). IsReadyText (tree_in f) k table) (sym e2) (subst (λ (t : SourceTree). IsReadyText t w table) (sym e1) ready)

-- each function has a signature, and a body that fits
pub fitting_facts : (f : TreeFacts) (table : TableParts) (count : ℕ) → table_in f ≡ table.sites → IsReadyText (tree_in f) (known_in f) table →
    length table.sites ≤ site_limit → count ≡ length (known_in f).definitions → AreFitting (source_in f) (names_in f) count
fitting_facts f table count e ready few all =
    rw all (subst (λ (xs : List Site). AreFitting (source_of (tree_in f) (known_in f) xs) (names_of_text (tree_in f) (known_in f) xs)
    (length (known_in f).definitions)) (sym e) (are_fitting (tree_in f) (known_in f) table ready few))

-- there are as many functions as names
pub names_as_many : (f : TreeFacts) (table : TableParts) (called : List (List ℕ)) → IsReadyText (tree_in f) (known_in f) table → called ≡ table.functions →
    length called ≡ length (known_in f).definitions
names_as_many f table called ready e = ap length (e ∙ ready.functions) ∙ as_many (tree_in f) (known_in f) ready.whole.accepted.walked

-- the functions are few
pub few_functions : (f : TreeFacts) (table : TableParts) → IsReadyText (tree_in f) (known_in f) table → length (known_in f).definitions ≤ function_limit
few_functions f table ready = few_defined (tree_in f) (known_in f) ready.whole.accepted ready.whole.sited

-- a function's own signature has few locals, the parameters among them
pub own_few : (src : Source) (names : Names) (number : ℕ) (s : Signature) → IsFitting src names number → Some s ≡ src.facts.signature number →
    (length s.params ≤ length s.locals) × (length s.locals ≤ local_limit)
own_few src names number s fit e =
    let same : fit.signature ≡ s = same_Some fit.signature s (sym fit.known ∙ sym e) in
    subst (λ (x : Signature). (length x.params ≤ length x.locals) × (length x.locals ≤ local_limit)) same (fit.params, fit.few)

none_there : {X : Type 0} (o : Option X) → IsSome o → None ≡ o → ⊥
none_there None is e = false≢true is
none_there (Some x) is e = cc

-- the strings are few
pub few_strings : (tree : SourceTree) (walk : Walk) (table : TableParts) → IsReadyText tree walk table → length (string_literals tree) ≤ text_limit
few_strings tree walk table ready =
    let same : length (texts_of (string_literals tree)) ≡ length (string_literals tree) = length-map (string_literals tree) _ in
    omega (arith, few_texts tree walk ready.whole.accepted ready.whole.sited, same)

-- the globals begin with constants
pub globals_start : (f : TreeFacts) (table : TableParts) → IsReadyText (tree_in f) (known_in f) table → All (IsBegunItem (facts_in f) (known_in f)) (tree_in f).items
globals_start f table ready = globals_begun (tree_in f) (known_in f) ready.whole.accepted ready.whole.sited ready.whole.constants

-- the globals have what they begin with
pub globals_are : (f : TreeFacts) (table : TableParts) → IsReadyText (tree_in f) (known_in f) table → None ≡ (source_in f).objects → ⊥
globals_are f table ready e = none_there (source_in f).objects (objects_there (tree_in f) (known_in f) ready.whole.accepted) e

abbrev value_of : Option Callee → Bool
value_of None = false
value_of (Some c) = c.value

abbrev params_of : Option Callee → ℕ
params_of None = 0
params_of (Some c) = c.params

abbrev locals_of : Option Callee → List ℕ
locals_of None = []
locals_of (Some c) = c.locals

-- a function that is called as the text's is, and whose nodes may stand in it
fits_as : (tree : SourceTree) (walk : Walk) (table : TableParts) (number : ℕ) (f : Function) → IsFunctionOf (source_of tree walk table.sites) number f →
    NodesStand (names_of_text tree walk table.sites) number f → FitsAsFunction tree walk table number f
fits_as tree walk table number f is stand = record {
  signature = is.signature;
  known = is.known;
  value = ap value_of is.called;
  params = ap params_of is.called;
  locals = ap locals_of is.called;
  entry = stand.entry;
  nodes = stand.nodes;
}

-- all parts but those that are copied
pub are_parts : (f : TreeFacts) (table : TableParts) (globals : List Global) (functions : List Function) → table_in f ≡ table.sites →
    Some (begun_with (facts_in f).statics.texts globals) ≡ (source_in f).objects →
    length globals ≡ (facts_in f).statics.globals → map (λ g. g.name) functions ≡ table.functions → AreFunctionsOf (source_in f) functions →
    ((number : ℕ) (g : Function) → slice_get functions number ≡ Some g → NodesStand (names_in f) number g) →
    node_count functions ≤ 16 * length (tree_kinds (tree_in f)) + length table.sites → ArePartsOf (tree_in f) (known_in f) table globals functions
are_parts f table globals functions e objects count called are stand few = record {
  objects = objects;
  count = count;
  names = called;
  each = λ number g at. fits_as (tree_in f) (known_in f) table number g
      (subst (λ (xs : List Site). IsFunctionOf (source_of (tree_in f) (known_in f) xs) number g) e (are number g at))
      (subst (λ (xs : List Site). NodesStand (names_of_text (tree_in f) (known_in f) xs) number g) e (stand number g at));
  few = few;
}

module _ (f : TreeFacts) (table : List Site) (texts : List Text) (globals : List Global) (functions : List Function) (main : ℕ) (sites : List Site)
    (texts_is : texts ≡ (facts_in f).statics.texts) (main_is : main ≡ (source_in f).main) (sites_are : sites ≡ table) where
  -- they are the parts of a program, where the text's own are
  pub program_parts : IsProgram (parts_of (facts_in f).statics.texts globals functions (source_in f).main table) → IsProgram (parts_of texts globals functions main sites)
  program_parts is = rw (texts_is, main_is, sites_are) is

  module _ (p : ProgramParts) (is : p ≡ parts_of texts globals functions main sites) (table_is : table_in f ≡ table) (are : AreFunctionsOf (source_in f) functions) where
    seen : (number : ℕ) → slice_get sites number ≡ (source_in f).sites.site number
    seen number = ap (λ (xs : List Site). slice_get xs number) (sites_are ∙ sym table_is)

    pub program_graph : HasNoMore (source_in f) (length functions) → Some (begun_with (facts_in f).statics.texts globals) ≡ (source_in f).objects →
        length globals ≡ (facts_in f).statics.globals → IsGraphOf (source_in f) p
    program_graph none_more objects count =
        rw is (graph_of (source_in f) (parts_of texts globals functions main sites) are none_more objects count texts_is main_is seen)

    pub program_ready : IsReady p
    program_ready = rw is (ready_program (source_in f) (parts_of texts globals functions main sites) are seen)

    pub program_plain : All (λ g. ArePlain g.nodes) p.functions
    program_plain = rw is (plain_program (source_in f) functions are)

-- what isn't there has no objects
pub none_of : {X Y : Type 0} → (found : Option X) (g : X → Y) (objects : Option Y) → ((x : X) → found ≡ Some x → ⊥) → option_map g found ≡ objects → None ≡ objects
none_of None g objects none e = e
none_of (Some x) g objects none e = absurd (none x refl)
