-- A program whose functions do the bodies of a text's is its graph.
use Rattle.std.proofs.Common.{◌≡◌, ℕ, zero, suc, ◌+◌, ◌<◌, ◌≤◌, ◌==◌, refl, ap, sym, ◌∙◌, subst, arith, List, [], ◌∷◌, length, Some, None, Option, Bool, slice_get, option_map}
use Rattle.flow.specs.declared.node.Node.{Node}
use Rattle.flow.specs.declared.node.View.{View}
use Rattle.flow.specs.Words.{view as view_of, callee_of, code_of, view_at, view_in, statics_of, Statics}
use Rattle.flow.specs.declared.program.Function.{Function}
use Rattle.flow.specs.declared.program.ProgramParts.{ProgramParts}
use Rattle.c_meaning.specs.Words.{Signature, Source, has_value, signature_of, source_of}
use Rattle.lower_relation.specs.Functions.{BodyIn, Lowered, callee_with, graph_of_nodes}
use Rattle.lower_relation.specs.Stands.{Stands, renumbered_view}
use Rattle.lower.specs.Bodies.{BodyNodes}
use Rattle.lower.specs.Ready.{AllMayStand}
use Rattle.lower_nodes.specs.Finished.{Finished}
use Rattle.lower.specs.Means.{MeansText}
use Rattle.lower_globals.specs.Objects.{begun_with}
use Rattle.lower.specs.Programs.{AreFunctionsOf, HasNoMore, IsFunctionOf}
use Rattle.std.proofs.Common.{◌++◌, ⊎_elim, add-one, get_or, length-append, map, take}
use Rattle.std.proofs.Math.Seq.{take-suc}
use Rattle.std.proofs.lemmas.List.{length-map, length-take, map-append}
use Rattle.std.proofs.lemmas.Bool.{cases_lt}
use Rattle.std.proofs.lemmas.Option.{slice_get_past, slice_get_within, same_Some}
use Rattle.base_lists.proofs.Lists.{get_last}
use Rattle.c_syntax.specs.Words.{SourceTree, EntryList}
use Rattle.c_types_expressions.specs.declared.walk.Walk.{Walk}
use Rattle.flow.specs.declared.program.Text.{Text}
use Rattle.flow.specs.declared.site.Site.{Site}
use Rattle.lower_relation.specs.Functions.{IsGraphOf}
use Rattle.lower_relation.proofs.WholeRuns.{only_ending, run_ok}
use Rattle.lower_facts.specs.declared.facts.TreeFacts.{TreeFacts}
use Rattle.lower_facts.specs.Facts.{known_in, source_in, table_in, tree_in}
use Rattle.lower.proofs.Finishing.{view_found}

seen : (old new : List Node) (ren : ℕ → ℕ) (i : ℕ) (v : View) (o : Option Node) → Finished old new ren → slice_get old i ≡ o → option_map view_of o ≡ Some v →
    view_at (slice_get new (ren i)) ≡ renumbered_view ren v
seen old new ren i v None fin at e = cc
seen old new ren i v (Some x) fin at e =
    let same : view_of x ≡ v = cc in
    view_found (slice_get new (ren i)) (renumbered_view ren v) (fin.each i x at ∙ ap (λ y. Some (renumbered_view ren y)) same)

-- the nodes in their last order stand for the graph that grew backwards
stands_in : (p : ProgramParts) (bank : ℕ → ℕ) (number : ℕ) (f : Function) (old : List Node) (ren : ℕ → ℕ) → slice_get p.functions number ≡ Some f → Finished old f.nodes ren →
    Stands (code_of p bank) number (graph_of_nodes old) ren
stands_in p bank number f old ren at fin = record {
  at = λ i v e. ap (λ o. view_in o (ren i)) at ∙ seen old f.nodes ren i v (slice_get old i) fin refl e;
}

body_of : (src : Source) (p : ProgramParts) (bank : ℕ → ℕ) (number : ℕ) (f : Function) (s : Signature) → slice_get p.functions number ≡ Some f →
    BodyNodes src.facts src.sites (number == src.main) s.result (src.body number) f.nodes → BodyIn (code_of p bank) src number s
body_of src p bank number f s at b = record {
  nodes = b.graph;
  ren = b.ren;
  stands = stands_in p bank number f b.graph b.ren at b.finished;
  start = b.start;
  first_node = b.first_node;
  entry = b.entry;
  begins = b.begins;
  exits = b.exits;
  runs = b.runs;
  leaves = b.leaves;
}

one_signature : (a b : Signature) → Some a ≡ Some b → a ≡ b
one_signature a b e = cc

no_function : (fs : List Function) (number : ℕ) → slice_get fs number ≡ None → length fs ≤ number
no_function [] number e = omega arith
no_function (f ∷ fs) zero e = absurd (cc)
no_function (f ∷ fs) (suc number) e = omega (arith, no_function fs number e)

module _ (src : Source) (p : ProgramParts) (bank : ℕ → ℕ) (are : AreFunctionsOf src p.functions) (none_more : HasNoMore src (length p.functions)) where
  callees_of : (number : ℕ) (o : Option Function) → slice_get p.functions number ≡ o → callee_of o ≡ option_map callee_with (src.facts.signature number)
  callees_of number None at = sym (ap (option_map callee_with) (none_more number (no_function p.functions number at)))
  callees_of number (Some f) at =
      let is : IsFunctionOf src number f = are number f at in
      is.called ∙ sym (ap (option_map callee_with) is.known)

  bodies_of : (number : ℕ) (s : Signature) (o : Option Function) → slice_get p.functions number ≡ o → src.facts.signature number ≡ Some s → BodyIn (code_of p bank) src number s
  bodies_of number s None at e =
      let gone : src.facts.signature number ≡ None = none_more number (no_function p.functions number at) in
      absurd (cc)
  bodies_of number s (Some f) at e =
      let is : IsFunctionOf src number f = are number f at in
      let same : is.signature ≡ s = one_signature is.signature s (sym is.known ∙ e) in
      body_of src p bank number f s at (subst (λ q. BodyNodes src.facts src.sites (number == src.main) q.result (src.body number) f.nodes) same is.nodes)

  pub lowered_by : statics_of p ≡ src.facts.statics → ((number : ℕ) → slice_get p.sites number ≡ src.sites.site number) → Lowered (code_of p bank) src
  lowered_by statics sites = record {
    agrees = record { statics = statics; site = sites };
    callees = λ number. ap callee_of refl ∙ callees_of number (slice_get p.functions number) refl;
    bodies = λ number s e. bodies_of number s (slice_get p.functions number) refl e;
  }

-- the function that is made of a signature, a body and the nodes that do it
pub function_is : (src : Source) (number : ℕ) (s : Signature) (is_main : Bool) (body : Option EntryList) (f : Function) → src.facts.signature number ≡ Some s →
    is_main ≡ (number == src.main) → body ≡ src.body number → f.value ≡ has_value s.result → f.params ≡ length s.params → f.locals ≡ s.locals →
    BodyNodes src.facts src.sites is_main s.result body f.nodes → AllMayStand src.sites.site f.nodes → IsFunctionOf src number f
function_is src number s is_main body f known main its value params locals nodes stand = record {
  signature = s;
  known = known;
  called = rw (value, params, locals) refl;
  nodes = subst (λ b. BodyNodes src.facts src.sites b s.result (src.body number) f.nodes) main
      (subst (λ x. BodyNodes src.facts src.sites is_main s.result x f.nodes) its nodes);
  stand = stand;
}

slice_before : {X : Type 0} (xs ys : List X) (j : ℕ) → j < length xs → slice_get (xs ++ ys) j ≡ slice_get xs j
slice_before [] ys j l = absurd (omega (arith, l))
slice_before (x ∷ xs) ys zero l = refl
slice_before (x ∷ xs) ys (suc j) l = slice_before xs ys j (omega (arith, l))

-- one thing more, of which the same is known
pub each_pushed : {X : Type 0} (P : ℕ → X → Type 0) (xs : List X) (x : X) → ((number : ℕ) (y : X) → slice_get xs number ≡ Some y → P number y) → P (length xs) x →
    (number : ℕ) (y : X) → slice_get (xs ++ x ∷ []) number ≡ Some y → P number y
each_pushed P xs x are is number y at =
    ⊎_elim
    (λ l. are number y (sym (slice_before xs (x ∷ []) number l) ∙ at))
    (λ ge.
    let here : length xs ≡ number = omega (arith, ge, slice_get_within (xs ++ x ∷ []) number y at, length-append xs (x ∷ [])) in
    subst (λ n. P n y) here
    (subst (λ z. P (length xs) z) (same_Some x y (sym (get_last xs x) ∙ ap (slice_get (xs ++ x ∷ [])) here ∙ at)) is))
    (cases_lt number (length xs))

-- there are no more functions than definitions
pub no_more_functions : (f : TreeFacts) (count : ℕ) → count ≡ length (known_in f).definitions → HasNoMore (source_in f) count
no_more_functions f count e number l =
    ap (signature_of (known_in f)) (slice_get_past (known_in f).definitions number (omega (arith, e, l)))

abbrev statics_with : ℕ → List Text → Statics
statics_with globals texts = record { globals = globals; texts = texts }

statics_are : {globals count : ℕ} {texts strings : List Text} → globals ≡ count → texts ≡ strings →
    statics_with globals texts ≡ statics_with count strings
statics_are e f = cc

-- the program of these functions, globals and texts
pub graph_of : (src : Source) (p : ProgramParts) → AreFunctionsOf src p.functions → HasNoMore src (length p.functions) →
    Some (begun_with src.facts.statics.texts p.globals) ≡ src.objects → length p.globals ≡ src.facts.statics.globals → p.texts ≡ src.facts.statics.texts → p.main ≡ src.main →
    ((number : ℕ) → slice_get p.sites number ≡ src.sites.site number) → IsGraphOf src p
graph_of src p are none_more objects globals texts main sites = record {
  lowered = λ bank. lowered_by src p bank are none_more (statics_are globals texts) sites;
  main = main;
  objects = sym objects ∙ ap (λ t. Some (begun_with t p.globals)) (sym texts);
}

-- a graph of a text does what the text means, and nothing else
pub graph_means : (src : Source) (p : ProgramParts) → IsGraphOf src p → MeansText src p
graph_means src p is = record {
  ends = λ input bank turns. run_ok src p is input bank turns;
  only = λ input bank turns ending ends. only_ending src p is input bank turns ending ends;
}

-- what is known of the facts of a tree is known of the tree
pub source_is : (f : TreeFacts) (tree : SourceTree) (w : Walk) (table : List Site) (p : ProgramParts) → tree_in f ≡ tree → known_in f ≡ w → table_in f ≡ table →
    IsGraphOf (source_in f) p → IsGraphOf (source_of tree w table) p
source_is f tree w table p e1 e2 e3 is =
    subst (λ t. IsGraphOf (source_of t w table) p) e1 (subst (λ k. IsGraphOf (source_of (tree_in f) k table) p) e2
    (subst (λ s. IsGraphOf (source_of (tree_in f) (known_in f) s) p) e3 is))

-- and it does what the text means
pub means_is : (f : TreeFacts) (tree : SourceTree) (w : Walk) (table : List Site) (p : ProgramParts) → tree_in f ≡ tree → known_in f ≡ w → table_in f ≡ table →
    IsGraphOf (source_in f) p → MeansText (source_of tree w table) p
means_is f tree w table p e1 e2 e3 is = graph_means (source_of tree w table) p (source_is f tree w table p e1 e2 e3 is)

-- one thing more, seen by a part of it
pub seen_pushed : {X Y : Type 0} (f : X → Y) (xs : List X) (x : X) (ys : List Y) (i : ℕ) (y : Y) → i < length ys → map f xs ≡ take i ys → f x ≡ y → y ≡ get_or ys i y →
    map f (xs ++ x ∷ []) ≡ take (i + 1) ys
seen_pushed f xs x ys i y within before same is =
    map-append f xs (x ∷ []) ∙ ap (λ l. l ++ f x ∷ []) before ∙ ap (λ z. take i ys ++ z ∷ []) (same ∙ is) ∙ sym (take-suc ys i y within) ∙ ap (λ k. take k ys) (sym (add-one i))

-- all of them were seen
pub seen_all : {X Y : Type 0} (f : X → Y) (xs : List X) (ys : List Y) (i n : ℕ) → map f xs ≡ take i ys → length ys ≤ i → length ys ≡ n → length xs ≡ n
seen_all f xs ys i n made whole long =
    sym (length-map xs f) ∙ ap length made ∙ length-take i ys ∙ grind (arith, whole, long)
