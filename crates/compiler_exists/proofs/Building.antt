-- Nodes of one part behind those of another.
use Rattle.std.proofs.Common.{◌≡◌, ℕ, suc, ◌+◌, ◌≤◌, refl, ap, sym, ◌∙◌, subst, inl, inr, arith, List, [], ◌∷◌, ◌++◌, length, length-append, Some, Bool, true, false, option_map}
use Rattle.std.specs.Prelude.{pos, if◌then◌else◌}
use Rattle.lower_nodes.proofs.Building.{below_more}
use Rattle.cbi_base.specs.declared.scalar.Kind.TheVariants.{Char}
use Rattle.flow.specs.declared.node.Node.{Node}
use Rattle.flow.specs.declared.node.Node.TheVariants as node
use Rattle.flow.specs.declared.node.View.{View}
use Rattle.flow.specs.declared.node.View.TheVariants as view
use Rattle.flow.specs.Words.{is_again, led_to, view as view_of}
use Rattle.lower_relation.specs.Functions.{graph_of_nodes}
use Rattle.lower_relation.specs.Paths.{Graph, Path, ◌then◌, Ways, Either, OneOf, Nothing, Does, HaltsAt, Stuck, MarksAll, ForkTo, ValueTruth, AlwaysTrue, PathOrStuck}
use Rattle.compiler_exists.specs.Built.{Built, Builds, LeadBackWithin, StandAlong}
use Rattle.lower_nodes.specs.Ends.{AllBelow, one_end, two_ends}

-- the first ones of those that stand
pub first_stand : (all xs ys : List Node) (at : ℕ) → StandAlong all at (xs ++ ys) → StandAlong all at xs
first_stand all [] ys at s = tt
first_stand all (x ∷ xs) ys at s = (s.0, first_stand all xs ys (suc at) s.1)

-- and the others
pub rest_stand : (all xs ys : List Node) (at next : ℕ) → next ≡ at + length xs → StandAlong all at (xs ++ ys) → StandAlong all next ys
rest_stand all [] ys at next e s = let same : at ≡ next = omega (arith, e) in subst (λ n. StandAlong all n ys) same s
rest_stand all (x ∷ xs) ys at next e s = rest_stand all xs ys (suc at) next (omega (arith, e)) s.1

pub both_back : (count : ℕ) (xs ys : List Node) (at next : ℕ) → next ≡ at + length xs → LeadBackWithin count at xs → LeadBackWithin count next ys →
    LeadBackWithin count at (xs ++ ys)
both_back count [] ys at next e b c = let same : next ≡ at = omega (arith, e) in subst (λ n. LeadBackWithin count n ys) same c
both_back count (x ∷ xs) ys at next e b c = (b.0, both_back count xs ys (suc at) next (omega (arith, e)) b.1 c)

-- what has room has more
pub fits : {K : Type 0} {ends : K → List ℕ} {R : Graph → Path K} {a b : ℕ} → Builds ends R a → a ≤ b → Builds ends R b
fits r le = record {
  build = λ at k.
      let p = r.build at k in
      record { nodes = p.nodes; entry = p.entry; does = p.does; few = omega (arith, p.few, le); inside = p.inside; back = p.back };
}

-- what does a part does what follows from it
pub carried : {K : Type 0} {ends : K → List ℕ} {R S : Graph → Path K} {a : ℕ} → Builds ends R a → ((G : Graph) (i : ℕ) (k : K) → R G i k → S G i k) →
    Builds ends S a
carried r into = record {
  build = λ at k.
      let p = r.build at k in
      record { nodes = p.nodes; entry = p.entry; does = λ all s. into (graph_of_nodes all) p.entry k (p.does all s); few = p.few; inside = p.inside; back = p.back };
}

pub nothing : Builds one_end (λ G. Nothing) 0
nothing = record {
  build = λ at k. record {
    nodes = [];
    entry = k;
    does = λ all s. refl;
    few = omega arith;
    inside = λ below. omega (arith, below.0);
    back = λ count le below. tt;
  };
}

-- one node, whatever its view
pub view_built : {K : Type 0} {ends : K → List ℕ} (v : K → View) (x : K → Node) → ((k : K) → view_of (x k) ≡ v k) →
    ((count at : ℕ) (k : K) → AllBelow at (ends k) → AllBelow (if is_again (v k) then count else at) (led_to (v k))) → Builds ends (λ G i k. G i (v k)) 1
view_built v x e leads = record {
  build = λ at k. record {
    nodes = x k ∷ [];
    entry = at;
    does = λ all s. ap (option_map view_of) s.0 ∙ ap (λ w. Some w) (e k);
    few = omega arith;
    inside = λ below. omega arith;
    back = λ count le below. (subst (λ w. AllBelow (if is_again w then count else at) (led_to w)) (sym (e k)) (leads count at k below), tt);
  };
}

-- a row
pub does : (x : ℕ → Node) → ((k : ℕ) → view_of (x k) ≡ view.Row (x 0) k) → Builds one_end (λ G. Does G (x 0)) 1
does x e = view_built (λ k. view.Row (x 0) k) x e (λ count at k b. b)

pub fork : Builds two_ends (λ G. ForkTo G) 1
fork = view_built (λ (k : Ways). view.Forks k.yes_to k.no_to) (λ k. node.Fork k.yes_to k.no_to) (λ k. refl) (λ count at k b. b)

pub halts : {K : Type 0} {ends : K → List ℕ} (x : Node) → view_of x ≡ view.Halts x → Builds ends (λ G. HaltsAt G {K = K} x) 1
halts x e = view_built (λ k. view.Halts x) (λ k. x) (λ k. e) (λ count at k b. tt)

-- one part before another
then_at : {K : Type 0} {ends : K → List ℕ} {R : Graph → Path ℕ} {S : Graph → Path K} {a b : ℕ} (at : ℕ) (k : K) (q : Built ends S b at k) →
    Built one_end R a (at + length q.nodes) q.entry → Built ends (λ G. R G then S G) (a + b) at k
then_at at k q p =
    let long : length (q.nodes ++ p.nodes) ≡ length q.nodes + length p.nodes = length-append q.nodes p.nodes in
    record {
      nodes = q.nodes ++ p.nodes;
      entry = p.entry;
      does = λ all s. (
        q.entry,
        p.does all (rest_stand all q.nodes p.nodes at (at + length q.nodes) refl s),
        q.does all (first_stand all q.nodes p.nodes at s),
      );
      few = omega (arith, long, q.few, p.few);
      inside = λ below. omega (arith, long, p.inside (q.inside below, tt));
      back = λ count le below. both_back count q.nodes p.nodes at (at + length q.nodes) refl (q.back count (omega (arith, long, le)) below)
          (p.back count (omega (arith, long, le)) (q.inside below, tt));
    }

infixr 8 ◌before◌
pub ◌before◌ : {K : Type 0} {ends : K → List ℕ} {R : Graph → Path ℕ} {S : Graph → Path K} {a b : ℕ} → Builds one_end R a → Builds ends S b →
    Builds ends (λ G. R G then S G) (a + b)
r before s = record { build = λ at k. let q = s.build at k in then_at at k q (r.build (at + length q.nodes) q.entry) }

pub tests : {R : Graph → Path ℕ} {a : ℕ} → Builds one_end R a → Builds two_ends (λ G. ValueTruth G (R G)) (a + 1)
tests r = r before fork

-- no run comes there
pub stuck : {K : Type 0} {ends : K → List ℕ} → Builds ends (λ G. Stuck G {K = K}) 2
stuck = record {
  build = λ at k. record {
    nodes = node.Exit ∷ node.Push Char (pos 0) at ∷ [];
    entry = suc at;
    does = λ all s. (at, ap (option_map view_of) s.1.0, ap (option_map view_of) s.0);
    few = omega arith;
    inside = λ below. omega arith;
    back = λ count le below. (tt, ((omega arith, tt), tt));
  };
}

pub only : {K : Type 0} {ends : K → List ℕ} {R : Graph → Path K} {a n : ℕ} (b : Bool) → Builds ends R a → a ≤ n → 2 ≤ n → Builds ends (λ G. PathOrStuck G b (R G)) n
only true r le two = fits r le
only false r le two = fits stuck two

pub marks : (sites : List ℕ) → Builds one_end (λ G. MarksAll G sites) (length sites)
marks [] = nothing
marks (site ∷ sites) = fits (view_built (λ k. view.Marks site k) (node.Mark site) (λ k. refl) (λ count at k b. b) before marks sites) (omega arith)

-- one of two parts, whichever
pub first_of_two : {K : Type 0} {ends : K → List ℕ} {R S : Graph → Path K} {a : ℕ} → Builds ends R a → Builds ends (λ G. OneOf (R G) (S G)) a
first_of_two r = carried r (λ G i k h. inl h)

pub second_of_two : {K : Type 0} {ends : K → List ℕ} {R S : Graph → Path K} {a : ℕ} → Builds ends S a → Builds ends (λ G. OneOf (R G) (S G)) a
second_of_two s = carried s (λ G i k h. inr h)

-- two ways, and the condition before them
either_at : {K : Type 0} {ends : K → List ℕ} {D : Graph → Path Ways} {R S : Graph → Path K} {a b c : ℕ} (at : ℕ) (k : K) (q : Built ends S c at k)
    (p : Built ends R b (at + length q.nodes) k) →
    Built two_ends D a (at + length q.nodes + length p.nodes) (record { yes_to = p.entry; no_to = q.entry }) →
    Built ends (λ G. Either (D G) (R G) (S G)) (a + b + c) at k
either_at {ends = ends} at k q p d =
    let few : length (p.nodes ++ d.nodes) ≡ length p.nodes + length d.nodes = length-append p.nodes d.nodes in
    let long : length (q.nodes ++ (p.nodes ++ d.nodes)) ≡ length q.nodes + length (p.nodes ++ d.nodes) = length-append q.nodes (p.nodes ++ d.nodes) in
    record {
      nodes = q.nodes ++ (p.nodes ++ d.nodes);
      entry = d.entry;
      does = λ all s.
          let rest : StandAlong all (at + length q.nodes) (p.nodes ++ d.nodes) = rest_stand all q.nodes (p.nodes ++ d.nodes) at (at + length q.nodes) refl s in (
            p.entry,
            q.entry,
            d.does all (rest_stand all p.nodes d.nodes (at + length q.nodes) (at + length q.nodes + length p.nodes) refl rest),
            p.does all (first_stand all p.nodes d.nodes (at + length q.nodes) rest),
            q.does all (first_stand all q.nodes (p.nodes ++ d.nodes) at s),
          );
      few = omega (arith, few, long, q.few, p.few, d.few);
      inside = λ below.
          let more : AllBelow (at + length q.nodes) (ends k) = below_more at (at + length q.nodes) (ends k) (omega arith) below in
          omega (arith, few, long, d.inside (p.inside more, (omega (arith, q.inside below), tt)));
      back = λ count le below.
          let more : AllBelow (at + length q.nodes) (ends k) = below_more at (at + length q.nodes) (ends k) (omega arith) below in
          both_back count q.nodes (p.nodes ++ d.nodes) at (at + length q.nodes) refl (q.back count (omega (arith, few, long, le)) below)
          (both_back count p.nodes d.nodes (at + length q.nodes) (at + length q.nodes + length p.nodes) refl (p.back count (omega (arith, few, long, le)) more)
          (d.back count (omega (arith, few, long, le)) (p.inside more, (omega (arith, q.inside below), tt))));
    }

pub either : {K : Type 0} {ends : K → List ℕ} {D : Graph → Path Ways} {R S : Graph → Path K} {a b c : ℕ} → Builds two_ends D a → Builds ends R b →
    Builds ends S c →
    Builds ends (λ G. Either (D G) (R G) (S G)) (a + b + c)
either d r s = record {
  build = λ at k.
      let q = s.build at k in
      let p = r.build (at + length q.nodes) k in
      either_at at k q p (d.build (at + length q.nodes + length p.nodes) (record { yes_to = p.entry; no_to = q.entry }));
}

pub truly : Builds two_ends (λ G. AlwaysTrue) 0
truly = record {
  build = λ at k. record {
    nodes = [];
    entry = k.yes_to;
    does = λ all s. refl;
    few = omega arith;
    inside = λ below. omega (arith, below.0);
    back = λ count le below. tt;
  };
}
