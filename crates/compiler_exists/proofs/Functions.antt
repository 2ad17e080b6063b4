-- Nodes for the body of each function: those at which it is left, its statements, and the one where it begins.
use Rattle.std.proofs.Common.{◌≡◌, ℕ, suc, ◌+◌, refl, ap, arith, List, [], ◌∷◌, ◌++◌, length, length-append, Option, Bool, true, false, option_map}
use Rattle.std.specs.Prelude.{pos}
use Rattle.cbi_base.specs.declared.scalar.Kind.TheVariants.{Int}
use Rattle.c_syntax.specs.StatementTree.{EntryList}
use Rattle.flow.specs.declared.node.Node.{Node}
use Rattle.flow.specs.declared.node.Node.TheVariants as node
use Rattle.flow.specs.declared.node.View.TheVariants as view
use Rattle.flow.specs.View.{view as view_of}
use Rattle.c_meaning.specs.declared.value_type.ValueType.{ValueType}
use Rattle.c_meaning.specs.Words.{Facts, Sites, has_value}
use Rattle.lower_relation.specs.Functions.{BodyDoes, EndsAt, GivesAt, Passes}
use Rattle.lower_relation.specs.Paths.{Exits, Graph, Stuck}
use Rattle.lower_relation.specs.Room.{body_room}
use Rattle.compiler_exists.specs.Built.{Built, Builds, LeadBackWithin, StandAlong}
use Rattle.lower_nodes.specs.Ends.{AllBelow, all_ends}
use Rattle.compiler_exists.specs.Functions.{BodyBuilt}
use Rattle.compiler_exists.proofs.Building.{both_back, carried, first_stand, rest_stand, stuck, view_built, fits}
use Rattle.compiler_exists.proofs.Statements.{body}

-- nodes stand behind one more
shifted : (y : Node) (all xs : List Node) (at : ℕ) → StandAlong all at xs → StandAlong (y ∷ all) (suc at) xs
shifted y all [] at s = tt
shifted y all (x ∷ xs) at s = (s.0, shifted y all xs (suc at) s.1)

-- all nodes of a list stand in it
pub all_stand : (xs : List Node) → StandAlong xs 0 xs
all_stand [] = tt
all_stand (x ∷ xs) = (refl, shifted x xs xs 0 (all_stand xs))

-- nodes stand behind others
pub stand_behind : (before nodes after : List Node) → StandAlong (before ++ (nodes ++ after)) (length before) nodes
stand_behind [] nodes after = first_stand (nodes ++ after) nodes after 0 (all_stand (nodes ++ after))
stand_behind (x ∷ before) nodes after = shifted x (before ++ (nodes ++ after)) nodes (length before) (stand_behind before nodes after)

abbrev no_ends : ℕ → List ℕ
no_ends k = []

abbrev left_ends : Exits → List ℕ
left_ends x = x.gives ∷ x.leaves ∷ []

gives_at : (value : Bool) → Builds no_ends (λ G i k. GivesAt G value i) 2
gives_at true = fits (view_built (λ k. view.Gives) (λ k. node.Return) (λ k. refl) (λ count at k b. tt)) (omega arith)
gives_at false = carried (stuck {K = ℕ}) (λ G i k h. h)

stays_at : Builds left_ends (λ (G : Graph) i x. i ≡ x.leaves) 1
stays_at = record {
  build = λ at x. record {
    nodes = [];
    entry = x.leaves;
    does = λ all stand. refl;
    few = omega arith;
    inside = λ below. omega (arith, below.1.0);
    back = λ count le below. tt;
  };
}

ends_at : (is_main value : Bool) → Builds left_ends (λ G i x. EndsAt G is_main value (record x { next = i })) 1
ends_at true true =
    carried (view_built (λ (x : Exits). view.Row (node.Push Int (pos 0) 0) x.gives) (λ x. node.Push Int (pos 0) x.gives) (λ x. refl)
    (λ count at x b. (b.0, tt))) (λ G i x h. h)
ends_at true false = carried stays_at (λ G i x h. h)
ends_at false value = carried stays_at (λ G i x h. h)

module _ (facts : Facts) (sites : Sites) (is_main : Bool) (gives : ValueType) (entries : Option EntryList) where
  halted : Built no_ends (λ G. Stuck G {K = ℕ}) 2 1 0
  halted = stuck.build 1 0

  abbrev second : ℕ
  second = 1 + length halted.nodes

  given : Built no_ends (λ G i k. GivesAt G (has_value gives) i) 2 second 0
  given = (gives_at (has_value gives)).build second 0

  abbrev third : ℕ
  third = second + length given.nodes

  abbrev way : Exits
  way = record { next = 0; breaks = halted.entry; continues = halted.entry; gives = given.entry; leaves = 0 }

  ended : Built left_ends (λ G i x. EndsAt G is_main (has_value gives) (record x { next = i })) 1 third way
  ended = (ends_at is_main (has_value gives)).build third way

  abbrev exits : Exits
  exits = record way { next = ended.entry }

  abbrev fourth : ℕ
  fourth = third + length ended.nodes

  done : Built all_ends (λ G. BodyDoes G facts sites gives entries) (body_room sites entries) fourth exits
  done = (body facts sites gives entries).build fourth exits

  abbrev fifth : ℕ
  fifth = fourth + length done.nodes

  abbrev begin : List Node
  begin = node.Pass done.entry ∷ []

  abbrev graph : List Node
  graph = node.Leave ∷ (halted.nodes ++ (given.nodes ++ (ended.nodes ++ (done.nodes ++ begin))))

  long : length graph ≡ suc fifth
  long = omega (
    arith,
    length-append halted.nodes (given.nodes ++ (ended.nodes ++ (done.nodes ++ begin))),
    length-append given.nodes (ended.nodes ++ (done.nodes ++ begin)),
    length-append ended.nodes (done.nodes ++ begin),
    length-append done.nodes begin,
  )

  after_leave : StandAlong graph 1 (halted.nodes ++ (given.nodes ++ (ended.nodes ++ (done.nodes ++ begin))))
  after_leave = (all_stand graph).1

  after_halted : StandAlong graph second (given.nodes ++ (ended.nodes ++ (done.nodes ++ begin)))
  after_halted = rest_stand graph halted.nodes (given.nodes ++ (ended.nodes ++ (done.nodes ++ begin))) 1 second refl after_leave

  after_given : StandAlong graph third (ended.nodes ++ (done.nodes ++ begin))
  after_given = rest_stand graph given.nodes (ended.nodes ++ (done.nodes ++ begin)) second third refl after_halted

  after_ended : StandAlong graph fourth (done.nodes ++ begin)
  after_ended = rest_stand graph ended.nodes (done.nodes ++ begin) third fourth refl after_given

  after_done : StandAlong graph fifth begin
  after_done = rest_stand graph done.nodes begin fourth fifth refl after_ended

  left_below : AllBelow third (left_ends way)
  left_below = (omega (arith, given.inside tt), (omega arith, tt))

  exits_below : AllBelow fourth (all_ends exits)
  exits_below = (
    omega (arith, ended.inside left_below),
    (omega (arith, halted.inside tt), (omega (arith, halted.inside tt), (omega (arith, given.inside tt), (omega arith, tt)))),
  )

  leads_back : LeadBackWithin (length graph) 0 graph
  leads_back = (
    tt,
    both_back (length graph) halted.nodes (given.nodes ++ (ended.nodes ++ (done.nodes ++ begin))) 1 second refl
        (halted.back (length graph) (omega (arith, long)) tt)
        (both_back (length graph) given.nodes (ended.nodes ++ (done.nodes ++ begin)) second third refl (given.back (length graph) (omega (arith, long)) tt)
        (both_back (length graph) ended.nodes (done.nodes ++ begin) third fourth refl (ended.back (length graph) (omega (arith, long)) left_below)
        (both_back (length graph) done.nodes begin fourth fifth refl (done.back (length graph) (omega (arith, long)) exits_below)
        ((omega (arith, done.inside exits_below), tt), tt)))),
  )

  -- the whole function
  pub function : BodyBuilt facts sites is_main gives entries
  function = record {
    graph = graph;
    start = fifth;
    last = long;
    entry = done.entry;
    begins = Passes (ap (option_map view_of) after_done.0);
    exits = exits;
    runs = done.does graph (first_stand graph done.nodes begin fourth after_ended);
    leaves = (
      given.does graph (first_stand graph given.nodes (ended.nodes ++ (done.nodes ++ begin)) second after_halted),
      refl,
      ended.does graph (first_stand graph ended.nodes (done.nodes ++ begin) third after_given),
      halted.does graph (first_stand graph halted.nodes (given.nodes ++ (ended.nodes ++ (done.nodes ++ begin))) 1 after_leave),
      halted.does graph (first_stand graph halted.nodes (given.nodes ++ (ended.nodes ++ (done.nodes ++ begin))) 1 after_leave),
    );
    few = omega (arith, long, halted.few, given.few, ended.few, done.few);
    back = leads_back;
  }
