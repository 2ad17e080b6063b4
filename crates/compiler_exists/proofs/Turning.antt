-- The nodes of a graph in the order of a program, the last one first.
use Rattle.std.proofs.Common.{◌≡◌, ℕ, zero, suc, ◌+◌, ◌-◌, ◌≤◌, refl, ap, ◌∙◌, arith, List, [], ◌∷◌, length, Option, Some, None, option_map, slice_get}
use Rattle.flow.specs.declared.node.Node.{Node}
use Rattle.flow.specs.declared.node.Node.TheVariants as node
use Rattle.flow.specs.declared.node.View.{View}
use Rattle.flow.specs.Words.{view as view_of, view_at}
use Rattle.lower_relation.specs.Functions.{graph_of_nodes}
use Rattle.lower_relation.specs.Stands.{renumbered_view}

-- a node with its successors under other numbers
abbrev pub turned_node : (ℕ → ℕ) → Node → Node
turned_node ren (node.Push kind value next) = node.Push kind value (ren next)
turned_node ren (node.Null next) = node.Null (ren next)
turned_node ren (node.Local index next) = node.Local index (ren next)
turned_node ren (node.Global index next) = node.Global index (ren next)
turned_node ren (node.Text index next) = node.Text index (ren next)
turned_node ren (node.Load want next) = node.Load want (ren next)
turned_node ren (node.Store next) = node.Store (ren next)
turned_node ren (node.Move size next) = node.Move size (ren next)
turned_node ren (node.Member offset next) = node.Member offset (ren next)
turned_node ren (node.Span size next) = node.Span size (ren next)
turned_node ren (node.Math op next) = node.Math op (ren next)
turned_node ren (node.Order op next) = node.Order op (ren next)
turned_node ren (node.Sole op next) = node.Sole op (ren next)
turned_node ren (node.Convert kind next) = node.Convert kind (ren next)
turned_node ren (node.Dup next) = node.Dup (ren next)
turned_node ren (node.Drop next) = node.Drop (ren next)
turned_node ren (node.Swap next) = node.Swap (ren next)
turned_node ren (node.Over next) = node.Over (ren next)
turned_node ren (node.Pass next) = node.Pass (ren next)
turned_node ren (node.Fork when_true when_false) = node.Fork (ren when_true) (ren when_false)
turned_node ren (node.Again next) = node.Again (ren next)
turned_node ren (node.Call function next) = node.Call function (ren next)
turned_node ren node.Return = node.Return
turned_node ren node.Leave = node.Leave
turned_node ren (node.Get next) = node.Get (ren next)
turned_node ren (node.Put next) = node.Put (ren next)
turned_node ren (node.Puts next) = node.Puts (ren next)
turned_node ren (node.Format text count next) = node.Format text count (ren next)
turned_node ren (node.Alloc next) = node.Alloc (ren next)
turned_node ren (node.Free next) = node.Free (ren next)
turned_node ren node.Exit = node.Exit
turned_node ren node.Abort = node.Abort
turned_node ren (node.Check next) = node.Check (ren next)
turned_node ren (node.Clear index next) = node.Clear index (ren next)
turned_node ren (node.Zero index want next) = node.Zero index want (ren next)
turned_node ren (node.Spell index text next) = node.Spell index text (ren next)
turned_node ren (node.Mark site next) = node.Mark site (ren next)
turned_node ren (node.Skip by next) = node.Skip by (ren next)
turned_node ren (node.Test site next) = node.Test site (ren next)
turned_node ren (node.Choose weight fast slow) = node.Choose weight (ren fast) (ren slow)
turned_node ren (node.Import next) = node.Import (ren next)
turned_node ren (node.Export next) = node.Export (ren next)

pub view_turned : (ren : ℕ → ℕ) (x : Node) → view_of (turned_node ren x) ≡ renumbered_view ren (view_of x)
view_turned ren node.Return = refl
view_turned ren other = refl

-- turned nodes before others
abbrev pub turned_onto : (ℕ → ℕ) → List Node → List Node → List Node
turned_onto ren [] done = done
turned_onto ren (x ∷ xs) done = turned_onto ren xs (turned_node ren x ∷ done)

abbrev pub counted_down : ℕ → ℕ → ℕ
counted_down last i = last - i

-- all of them, where this is the number of the last one
abbrev pub turned_all : ℕ → List Node → List Node
turned_all last xs = turned_onto (counted_down last) xs []

length_turned : (ren : ℕ → ℕ) (xs done : List Node) → length (turned_onto ren xs done) ≡ length xs + length done
length_turned ren [] done = omega arith
length_turned ren (x ∷ xs) done = omega (arith, length_turned ren xs (turned_node ren x ∷ done))

pub length_all : (last : ℕ) (xs : List Node) → length (turned_all last xs) ≡ length xs
length_all last xs = omega (arith, length_turned (counted_down last) xs [])

still_there : (ren : ℕ → ℕ) (xs done : List Node) (j m : ℕ) → m ≡ length xs + j → slice_get (turned_onto ren xs done) m ≡ slice_get done j
still_there ren [] done j m e = let same : m ≡ j = omega (arith, e) in ap (slice_get done) same
still_there ren (x ∷ xs) done j m e = still_there ren xs (turned_node ren x ∷ done) (suc j) m (omega (arith, e))

turned_at : (ren : ℕ → ℕ) (xs done : List Node) (i m : ℕ) (x : Node) → m + suc i ≡ length xs → slice_get xs i ≡ Some x →
    slice_get (turned_onto ren xs done) m ≡ Some (turned_node ren x)
turned_at ren [] done i m x e at = absurd (omega (arith, e))
turned_at ren (y ∷ xs) done zero m x e at =
    let same : y ≡ x = cc in
    still_there ren xs (turned_node ren y ∷ done) 0 m (omega (arith, e)) ∙ ap (λ z. Some (turned_node ren z)) same
turned_at ren (y ∷ xs) done (suc i) m x e at = turned_at ren xs (turned_node ren y ∷ done) i m x (omega (arith, e)) at

within : (xs : List Node) (i : ℕ) (x : Node) → slice_get xs i ≡ Some x → suc i ≤ length xs
within [] i x e = absurd (cc)
within (y ∷ xs) zero x e = omega arith
within (y ∷ xs) (suc i) x e = omega (arith, within xs i x e)

-- each node of the graph is there, turned, at its new number
pub turned_here : (graph : List Node) (last : ℕ) → length graph ≡ suc last → (i : ℕ) (x : Node) → slice_get graph i ≡ Some x →
    slice_get (turned_all last graph) (counted_down last i) ≡ Some (turned_node (counted_down last) x)
turned_here graph last long i x at = turned_at (counted_down last) graph [] i (counted_down last i) x (omega (arith, long, within graph i x at)) at

seen : (graph : List Node) (last i : ℕ) (v : View) (o : Option Node) → length graph ≡ suc last → slice_get graph i ≡ o → option_map view_of o ≡ Some v →
    view_at (slice_get (turned_all last graph) (counted_down last i)) ≡ renumbered_view (counted_down last) v
seen graph last i v None long at e = absurd (cc)
seen graph last i v (Some x) long at e =
    let same : view_of x ≡ v = cc in
    ap view_at (turned_here graph last long i x at)
    ∙ view_turned (counted_down last) x ∙ ap (renumbered_view (counted_down last)) same

-- what stands in the graph stands in its turned nodes, under its new number
pub turned_stands : (graph : List Node) (last : ℕ) → length graph ≡ suc last → (i : ℕ) (v : View) → graph_of_nodes graph i v →
    view_at (slice_get (turned_all last graph) (counted_down last i)) ≡ renumbered_view (counted_down last) v
turned_stands graph last long i v e = seen graph last i v (slice_get graph i) long refl e
