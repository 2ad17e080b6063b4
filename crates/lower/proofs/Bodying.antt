-- The nodes of a function, from the nodes that it is left at to the one where it begins.
use Rattle.std.proofs.Common.{◌≡◌, ℕ, ◌+◌, ◌-◌, ◌<◌, ◌≤◌, refl, sym, subst, arith, List, [], ◌∷◌, ◌++◌, length, Bool, true, false, Option, None, rules}
use Rattle.std.specs.Prelude.{pos}
use Rattle.cbi_base.specs.declared.scalar.Kind.TheVariants.{Int}
use Rattle.c_syntax.specs.StatementTree.{EntryList}
use Rattle.flow.specs.declared.node.Node.{Node}
use Rattle.flow.specs.declared.node.Node.TheVariants as node
use Rattle.flow.specs.declared.node.View.TheVariants as view
use Rattle.c_meaning.specs.declared.value_type.ValueType.{ValueType}
use Rattle.c_meaning.specs.Words.{Facts, Sites, has_value}
use Rattle.lower_relation.specs.Functions.{BodyDoes, ComesTo, EndsAt, FunctionExits, Stays, Passes, graph_of_nodes}
use Rattle.lower_relation.specs.Paths.{Exits, Graph, Stuck, Does}
use Rattle.lower.specs.Bodies.{AtOnce, Before, BodyBegins, BodyNodes, EndPart, GivesPart, LeavesPart}
use Rattle.lower_nodes.specs.Finished.{Finished, turned_number}
use Rattle.lower_nodes.specs.Ends.{AllBelow, all_ends}
use Rattle.lower_nodes.specs.Made.{Later, LeadBack, Made, MadeAlone, MadeExits, IsEmittedNode}
use Rattle.lower_nodes.specs.Standing.{Allowed, Like, Allowance, PartStands}
use Rattle.lower_nodes.proofs.Building.{back_both, both_stand, later_self, later_trans, like_more, one_made, stays_put, stood_put, view_made}

pub gives_made : (b : Bool) (n0 n1 : List Node) (i : ℕ) → b ≡ true → i ≡ length n0 → n1 ≡ n0 ++ node.Return ∷ [] → MadeAlone (GivesPart b) n0 n1 i 0
gives_made b n0 n1 i e at is =
    subst (λ b. MadeAlone (GivesPart b) n0 n1 i 0) (sym e) (view_made {K = ℕ} (λ k. view.Gives) node.Return n0 n1 i 0 refl at is (λ all b. tt)
    (λ s l same like. record { same = refl; visits = λ h. h; fork = λ e. e }))

pub no_value_made : (b : Bool) (n0 n1 : List Node) (i : ℕ) → b ≡ false → MadeAlone {K = ℕ} (λ G. Stuck G) n0 n1 i 0 → MadeAlone (GivesPart b) n0 n1 i 0
no_value_made b n0 n1 i e made = subst (λ b. MadeAlone (GivesPart b) n0 n1 i 0) (sym e) (record {
  does = λ fin l. made.does fin l;
  keeps = made.keeps;
  leads = λ below. made.leads tt;
  stands = λ s j l same like h. made.stands s j 0 tt tt h;
})

pub zero_made : (is_main value : Bool) (n0 n1 : List Node) (i : ℕ) (x : Exits) → is_main ≡ true → value ≡ true → i ≡ length n0 → n1 ≡ n0 ++ node.Push Int (pos 0) x.gives ∷ [] →
    MadeExits (EndPart is_main value) n0 n1 i x
zero_made is_main value n0 n1 i x e f at is =
    let made : Made (λ G. Does G (node.Push Int (pos 0) 0)) n0 n1 i x.gives = one_made (node.Push Int (pos 0) 0) (node.Push Int (pos 0) x.gives) n0 n1 i x.gives (search rules) at is in
    subst (λ b. MadeExits (EndPart b value) n0 n1 i x) (sym e) (subst (λ b. MadeExits (EndPart true b) n0 n1 i x) (sym f)
    (record {
      does = λ fin l. made.does fin l;
      keeps = made.keeps;
      leads = λ below. made.leads (below.1.1.1.0, tt);
      stands = λ s j y same like h. made.stands s j y.gives tt (like.1.1.1.0, tt) h;
    }))

no_zero : (G : Graph) (is_main value : Bool) (x : Exits) → x.next ≡ x.leaves → (is_main ≡ true → value ≡ true → ⊥) → EndsAt G is_main value x
no_zero G true true x e none = absurd (none refl refl)
no_zero G true false x e none = e
no_zero G false value x e none = e

leaves_there : (G : Graph) (is_main value : Bool) (x : Exits) → (is_main ≡ true → value ≡ true → ⊥) → EndsAt G is_main value x → x.next ≡ x.leaves
leaves_there G true true x none h = absurd (none refl refl)
leaves_there G true false x none h = h
leaves_there G false value x none h = h

pub left_made : (is_main value : Bool) (n : List Node) (x : Exits) → (is_main ≡ true → value ≡ true → ⊥) → MadeExits (EndPart is_main value) n n x.leaves x
left_made is_main value n x none = record {
  does = λ fin l. no_zero (graph_of_nodes fin) is_main value (record x { next = x.leaves }) refl none;
  keeps = later_self 0 n;
  leads = λ below. stays_put n x.leaves (below.1.1.1.1.0, tt);
  stands = λ s j y same like h.
      stood_put s n x.leaves j (subst (λ q. Like s n x.leaves q) (sym (leaves_there (Allowed s) is_main value (record y { next = j }) none h)) like.1.1.1.1.0);
}

abbrev pub exits_with : ℕ → ℕ → ℕ → ℕ → Exits
exits_with stuck leaves gives next = record { next = next; breaks = stuck; continues = stuck; gives = gives; leaves = leaves }

module _ (is_main value : Bool) (n0 n1 n2 n3 n4 : List Node) (stuck leaves gives next : ℕ) (halted : MadeAlone {K = ℕ} (λ G. Stuck G) n0 n1 stuck 0) (at : leaves ≡ length n1)
    (is : n2 ≡ n1 ++ node.Leave ∷ []) (given : MadeAlone (GivesPart value) n2 n3 gives 0)
    (ended : MadeExits (EndPart is_main value) n3 n4 next (record { next = leaves; breaks = stuck; continues = stuck; gives = gives; leaves = leaves })) where
  leave_made : MadeAlone {K = ℕ} (λ G i k. G i view.Quits) n1 n2 leaves 0
  leave_made =
      view_made {K = ℕ} (λ k. view.Quits) node.Leave n1 n2 leaves 0 refl at is (λ all b. tt) (λ s l same like. record { same = refl; visits = λ h. h; fork = λ e. e })

  end_stands : IsEmittedNode (length n3) n4 next
  end_stands =
      let first : IsEmittedNode (length n0) n1 stuck = halted.leads tt in
      let second : IsEmittedNode (length n1) n2 leaves = leave_made.leads tt in
      let third : IsEmittedNode (length n2) n3 gives = given.leads tt in
      let low : stuck < length n3 = omega (arith, first.inside, leave_made.keeps.longer, given.keeps.longer) in
      let last : leaves < length n3 = omega (arith, second.inside, given.keeps.longer) in
      ended.leads (last, (low, (low, (third.inside, (last, tt)))))

  -- all of them are there
  pub exits_below : AllBelow (length n4) (all_ends (exits_with stuck leaves gives next))
  exits_below =
      let first : IsEmittedNode (length n0) n1 stuck = halted.leads tt in
      let second : IsEmittedNode (length n1) n2 leaves = leave_made.leads tt in
      let third : IsEmittedNode (length n2) n3 gives = given.leads tt in
      let low : stuck < length n4 = omega (arith, first.inside, leave_made.keeps.longer, given.keeps.longer, ended.keeps.longer) in
      let last : leaves < length n4 = omega (arith, second.inside, given.keeps.longer, ended.keeps.longer) in
      (end_stands.inside, (low, (low, (omega (arith, third.inside, ended.keeps.longer), (last, tt)))))

  exits_stand : IsEmittedNode (length n0) n4 leaves
  exits_stand =
      let first : IsEmittedNode (length n0) n1 stuck = halted.leads tt in
      let second : IsEmittedNode (length n1) n2 leaves = leave_made.leads tt in
      let third : IsEmittedNode (length n2) n3 gives = given.leads tt in
      record {
        inside = omega (arith, second.inside, given.keeps.longer, ended.keeps.longer);
        back = back_both (length n0) n3 n4 (back_both (length n0) n2 n3 (back_both (length n0) n1 n2 first.back leave_made.keeps second.back) given.keeps third.back)
            ended.keeps end_stands.back;
      }

  -- and they stand where the nodes of a graph that do as much may stand
  exits_stood : (s : Allowance) (j : ℕ) (y : Exits) → j ≡ y.leaves → FunctionExits (Allowed s) is_main value y → PartStands s (length n0) n4 leaves j
  exits_stood s j y e h =
      let breaks : PartStands s (length n0) n1 stuck y.breaks = halted.stands s y.breaks 0 tt tt h.3 in
      let continues : PartStands s (length n0) n1 stuck y.continues = halted.stands s y.continues 0 tt tt h.4 in
      let left : PartStands s (length n1) n2 leaves y.leaves = leave_made.stands s y.leaves 0 tt tt h.1 in
      let gave : PartStands s (length n2) n3 gives y.gives = given.stands s y.gives 0 tt tt h.0 in
      let leaves_like : Like s n3 leaves y.leaves = like_more s n2 n3 leaves y.leaves given.keeps left.like in
      let up : Later 0 n1 n3 = later_trans 0 0 n1 n2 n3 (omega arith) leave_made.keeps given.keeps in
      let last : PartStands s (length n3) n4 next y.next =
      ended.stands s y.next (record y { next = y.leaves }) tt
      (leaves_like, (like_more s n1 n3 stuck y.breaks up breaks.like, (like_more s n1 n3 stuck y.continues up continues.like, (gave.like, (leaves_like, tt))))) h.2 in
      let three = both_stand s (length n0) n2 n3 (both_stand s (length n0) n1 n2 breaks.all leave_made.keeps left.all) given.keeps gave.all in
      record {
        all = both_stand s (length n0) n3 n4 three ended.keeps last.all;
        like = subst (λ q. Like s n4 leaves q) (sym e) (like_more s n3 n4 leaves y.leaves ended.keeps leaves_like);
      }

  -- the nodes that a function is left at
  pub leaves_made : MadeAlone (LeavesPart is_main value) n0 n4 leaves (exits_with stuck leaves gives next)
  leaves_made =
      let low : length n0 ≤ length n1 = halted.keeps.longer in
      let two : length n1 ≤ length n2 = leave_made.keeps.longer in
      let three : length n2 ≤ length n3 = given.keeps.longer in
      record {
        does = λ fin l.
            let last : Later (length n0) n3 fin = later_trans (length n0) (length n0) n3 n4 fin (omega arith) ended.keeps l in
            let second : Later (length n0) n2 fin = later_trans (length n0) (length n0) n2 n3 fin (omega arith) given.keeps last in
            let first : Later (length n0) n1 fin = later_trans (length n0) (length n0) n1 n2 fin (omega arith) leave_made.keeps second in (
              refl,
              (
                given.does fin (later_trans (length n0) (length n2) n3 n3 fin (omega (arith, low, two)) (later_self 0 n3) last),
                leave_made.does fin (later_trans (length n0) (length n1) n2 n2 fin low (later_self 0 n2) second),
                ended.does fin (later_trans (length n0) (length n3) n4 n4 fin (omega (arith, low, two, three)) (later_self 0 n4) l),
                halted.does fin first,
                halted.does fin first,
              ),
            );
        keeps = later_trans 0 0 n0 n1 n4 (omega arith) halted.keeps
            (later_trans 0 0 n1 n2 n4 (omega arith) leave_made.keeps (later_trans 0 0 n2 n3 n4 (omega arith) given.keeps ended.keeps));
        leads = λ below. exits_stand;
        stands = λ s j y same like h. exits_stood s j y h.0 h.1;
      }

pub no_body : (facts : Facts) (sites : Sites) (gives : ValueType) (n0 n1 : List Node) (i k : ℕ) (x : Exits) → MadeAlone {K = ℕ} (λ G. Stuck G) n0 n1 i k →
    MadeExits (λ G. BodyDoes G facts sites gives None) n0 n1 i x
no_body facts sites gives n0 n1 i k x made = record {
  does = λ fin l. made.does fin l;
  keeps = made.keeps;
  leads = λ below. made.leads tt;
  stands = λ s j y same like h. made.stands s j 0 tt tt h;
}

pub begins_at_once : (n : List Node) (i : ℕ) → BodyBegins n n i i
begins_at_once n i = AtOnce refl refl

pub begins_before : (n0 n1 : List Node) (i k : ℕ) → i ≡ length n0 → n1 ≡ n0 ++ node.Pass k ∷ [] → BodyBegins n0 n1 i k
begins_before n0 n1 i k at is = Before (one_made (node.Pass 0) (node.Pass k) n0 n1 i k refl at is)

pub begins_keeps : (n0 n1 : List Node) (i k : ℕ) → BodyBegins n0 n1 i k → Later 0 n0 n1
begins_keeps n0 n1 i k (AtOnce e same) = subst (λ n. Later 0 n0 n) (sym same) (later_self 0 n0)
begins_keeps n0 n1 i k (Before made) = made.keeps

begins_there : (n0 n1 : List Node) (i k : ℕ) → BodyBegins n0 n1 i k → ComesTo (graph_of_nodes n1) i k
begins_there n0 n1 i k (AtOnce e same) = Stays e
begins_there n0 n1 i k (Before made) = Passes (made.does n1 (later_self (length n0) n1))

begins_back : (n0 n1 : List Node) (i k : ℕ) → k < length n0 → BodyBegins n0 n1 i k → IsEmittedNode (length n0) n1 i
begins_back n0 n1 i k low (AtOnce e same) =
    subst (λ n. IsEmittedNode (length n0) n i) (sym same) (subst (λ q. IsEmittedNode (length n0) n0 q) (sym e) (stays_put n0 k (low, tt)))
begins_back n0 n1 i k low (Before made) = made.leads (low, tt)

-- the whole function
pub function_made : (facts : Facts) (sites : Sites) (is_main value : Bool) (gives : ValueType) (body : Option EntryList) (n0 n1 n2 n3 nodes : List Node) (entry start : ℕ) (x : Exits) →
    value ≡ has_value gives → MadeAlone (LeavesPart is_main value) n0 n1 x.leaves x → MadeExits (λ G. BodyDoes G facts sites gives body) n1 n2 entry x →
    BodyBegins n2 n3 start entry → length n3 ≡ start + 1 → Finished n3 nodes (turned_number (length n3 - 1)) → BodyNodes facts sites is_main gives body nodes
function_made facts sites is_main value gives body n0 n1 n2 n3 nodes entry start x e left runs begins long finished =
    let put : Later 0 n2 n3 = begins_keeps n2 n3 start entry begins in
    let second : Later (length n0) n2 n3 = later_trans 0 (length n0) n2 n2 n3 (omega arith) (later_self 0 n2) put in
    let first : Later (length n0) n1 n3 = later_trans (length n0) (length n0) n1 n2 n3 (omega arith) runs.keeps second in
    record {
      graph = n3;
      ren = turned_number (length n3 - 1);
      finished = finished;
      start = start;
      first_node = omega (arith, long);
      entry = entry;
      begins = begins_there n2 n3 start entry begins;
      exits = x;
      runs = runs.does n3 (later_trans 0 (length n1) n2 n2 n3 (omega arith) (later_self 0 n2) put);
      leaves = subst (λ b. FunctionExits (graph_of_nodes n3) is_main b x) e (left.does n3 first).1;
    }

-- its nodes lead back
pub function_back : (facts : Facts) (sites : Sites) (is_main value : Bool) (gives : ValueType) (body : Option EntryList) (n0 n1 n2 n3 : List Node) (entry start : ℕ) (x : Exits) →
    n0 ≡ [] → MadeAlone (LeavesPart is_main value) n0 n1 x.leaves x → AllBelow (length n1) (all_ends x) → MadeExits (λ G. BodyDoes G facts sites gives body) n1 n2 entry x →
    BodyBegins n2 n3 start entry → LeadBack 0 n3
function_back facts sites is_main value gives body n0 n1 n2 n3 entry start x none left below runs begins =
    let first : IsEmittedNode (length n0) n1 x.leaves = left.leads tt in
    let second : IsEmittedNode (length n1) n2 entry = runs.leads below in
    let third : IsEmittedNode (length n2) n3 start = begins_back n2 n3 start entry second.inside begins in
    subst (λ l. LeadBack (length l) n3) none
    (back_both (length n0) n2 n3 (back_both (length n0) n1 n2 first.back runs.keeps second.back) (begins_keeps n2 n3 start entry begins) third.back)

pub ruleset gives_parts = (gives_made, no_value_made)

pub ruleset end_parts = (zero_made, left_made)

pub ruleset body_parts = (no_body)

pub ruleset start_parts = (begins_at_once, begins_before)

pub ruleset exits_parts = (leaves_made)

pub ruleset function_parts = (function_made)
