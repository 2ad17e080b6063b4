-- How much room all functions have.
use Rattle.std.proofs.Common.{◌≡◌, ℕ, suc, ◌+◌, ◌*◌, ◌≤◌, ◌∙◌, ap, subst, arith, List, [], ◌∷◌, ◌++◌, length, length-append, Option, slice_get}
use Rattle.std.proofs.lemmas.List.Sums.{sum_by-append, sum_by-cons}
use Rattle.c_syntax.specs.Words.{EntryList, tree_kinds}
use Rattle.flow.specs.declared.program.Function.{Function}
use Rattle.flow.specs.declared.site.Site.{Site}
use Rattle.c_meaning.specs.Words.{Sites, function_bodies, sites_by_table}
use Rattle.lower_relation.specs.Room.{function_room, functions_room}
use Rattle.lower_facts.specs.declared.facts.TreeFacts.{TreeFacts}
use Rattle.lower_facts.specs.Facts.{known_in, sites_in, source_in, table_in, tree_in}
use Rattle.lower.specs.Programs.{node_count}

module _ (sites : Sites) where
  -- one function more
  pub functions_more : (body : ℕ → Option EntryList) (fs pushed : List Function) (f : Function) (n : ℕ) → n ≡ length fs → pushed ≡ fs ++ f ∷ [] →
      node_count fs ≤ functions_room sites body (length fs) → length f.nodes ≤ function_room sites (body n) → node_count pushed ≤ functions_room sites body (length pushed)
  functions_more body fs pushed f n e is all one =
      let split : node_count pushed ≡ node_count fs + node_count (f ∷ []) = ap node_count is ∙ sum_by-append (λ (g : Function). length g.nodes) fs (f ∷ []) in
      let last : node_count (f ∷ []) ≡ length f.nodes + node_count [] = sum_by-cons (λ (g : Function). length g.nodes) f [] in
      let long : length pushed ≡ suc (length fs) = ap length is ∙ length-append fs (f ∷ []) ∙ omega arith in
      let more : functions_room sites body (length pushed) ≡ functions_room sites body (length fs) + function_room sites (body (length fs)) = ap (functions_room sites body) long in
      let here : length f.nodes ≤ function_room sites (body (length fs)) = subst (λ k. length f.nodes ≤ function_room sites (body k)) e one in
      omega (arith, split, last, more, all, here)

-- they are no more than what is known of the text's room
pub few_of : (f : TreeFacts) (functions : List Function) (table : List Site) → table_in f ≡ table →
    node_count functions ≤ functions_room (sites_in f) (source_in f).body (length (known_in f).definitions) →
    functions_room (sites_by_table (table_in f)) (slice_get (function_bodies (tree_in f))) (length (known_in f).definitions) ≤ 16 * length (tree_kinds (tree_in f)) + length (table_in f) →
    node_count functions ≤ 16 * length (tree_kinds (tree_in f)) + length table
few_of f functions table e few most = omega (arith, few, most, ap length e)
