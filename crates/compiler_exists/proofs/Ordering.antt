-- The nodes of a body in the order of a program: they do the body, and each leads to later ones.
use Rattle.std.proofs.Common.{◌≡◌, ℕ, zero, suc, ◌+◌, ◌-◌, ap, ◌∙◌, subst, arith, List, [], ◌∷◌, length, Some, Bool, option_map, slice_get}
use Rattle.std.specs.Prelude.{Option, if◌then◌else◌}
use Rattle.c_syntax.specs.StatementTree.{EntryList}
use Rattle.flow.specs.declared.node.Node.{Node}
use Rattle.flow.specs.Words.{is_again, led_to, view as view_of}
use Rattle.c_meaning.specs.declared.value_type.ValueType.{ValueType}
use Rattle.c_meaning.specs.Facts.{Facts, Sites}
use Rattle.lower_nodes.specs.Finished.{Finished, turned_number}
use Rattle.lower_nodes.specs.Made as made
use Rattle.lower_nodes.specs.Reach.{LeadOn}
use Rattle.lower_nodes.proofs.Ordered.{leads_on}
use Rattle.compiler_exists.specs.Built.{LeadBackWithin}
use Rattle.lower_nodes.specs.Ends.{AllBelow}
use Rattle.compiler_exists.specs.Functions.{BodyBuilt}
use Rattle.compiler_exists.proofs.Turning.{counted_down, length_all, turned_all, turned_here, view_turned}
use Rattle.lower.specs.Bodies.{BodyNodes}

back_at : (count at : ℕ) (xs : List Node) → LeadBackWithin count at xs → (i n : ℕ) (x : Node) → n ≡ at + i → slice_get xs i ≡ Some x →
    AllBelow (if is_again (view_of x) then count else n) (led_to (view_of x))
back_at count at [] b i n x e here = absurd (cc)
back_at count at (y ∷ xs) b zero n x e here =
    let same : y ≡ x = cc in
    let first : at ≡ n = omega (arith, e) in
    subst (λ z. AllBelow (if is_again (view_of z) then count else n) (led_to (view_of z))) same
    (subst (λ m. AllBelow (if is_again (view_of y) then count else m) (led_to (view_of y))) first b.0)
back_at count at (y ∷ xs) b (suc i) n x e here = back_at count (suc at) xs b.1 i n x (omega (arith, e)) here

back_too : (nodes : List Node) → LeadBackWithin (length nodes) 0 nodes → made.LeadBack 0 nodes
back_too nodes b = record {
  each = λ i x low here. back_at (length nodes) 0 nodes b i i x (omega arith) here;
}

module _ (facts : Facts) (sites : Sites) (is_main : Bool) (gives : ValueType) (body : Option EntryList) (b : BodyBuilt facts sites is_main gives body) where
  -- in the order of a program
  abbrev pub ordered : List Node
  ordered = turned_all b.start b.graph

  finished : Finished b.graph ordered (counted_down b.start)
  finished = record {
    each = λ i x here. ap (option_map view_of) (turned_here b.graph b.start b.last i x here) ∙ ap (λ v. Some v) (view_turned (counted_down b.start) x);
  }

  pub ordered_nodes : BodyNodes facts sites is_main gives body ordered
  ordered_nodes = record {
    graph = b.graph;
    ren = counted_down b.start;
    finished = finished;
    start = b.start;
    first_node = omega arith;
    entry = b.entry;
    begins = b.begins;
    exits = b.exits;
    runs = b.runs;
    leaves = b.leaves;
  }

  pub ordered_lead : LeadOn ordered
  ordered_lead =
      let last : b.start ≡ length b.graph - 1 = omega (arith, b.last) in
      leads_on b.graph ordered (length_all b.start b.graph) (subst (λ n. Finished b.graph ordered (turned_number n)) last finished) (back_too b.graph b.back)

  pub ordered_long : length ordered ≡ suc b.start
  ordered_long = length_all b.start b.graph ∙ b.last
