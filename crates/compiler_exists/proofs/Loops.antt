-- Nodes for loops: `again` stands before the parts of its loop, and is aimed at the first of them that is done.
use Rattle.std.proofs.Common.{◌≡◌, ℕ, suc, ◌+◌, ◌<◌, refl, ap, arith, [], ◌∷◌, ◌++◌, length, length-append, option_map}
use Rattle.lower_nodes.proofs.Building.{below_more}
use Rattle.flow.specs.declared.node.Node.TheVariants as node
use Rattle.flow.specs.View.{view as view_of}
use Rattle.lower_relation.specs.Paths.{Graph, Path, Ways, Exits}
use Rattle.lower_relation.specs.Statements as s
use Rattle.lower_relation.specs.Statements.{StatementSequence, within_loop}
use Rattle.compiler_exists.specs.Built.{Built, Builds, StandAlong}
use Rattle.lower_nodes.specs.Ends.{AllBelow, all_ends, one_end, two_ends}
use Rattle.compiler_exists.proofs.Building.{both_back, first_stand, rest_stand}

-- within a loop control goes on at nodes before its body as well
inside_loop : (at again : ℕ) (x : Exits) → again < at → AllBelow at (all_ends x) → AllBelow at (all_ends (within_loop again x.next x))
inside_loop at again x low below = (low, (below.0, (low, (below.1.1.1.0, (below.1.1.1.1.0, tt)))))

while_at : {C : Graph → Path Ways} {B : Graph → Path Exits} {a b : ℕ} (at : ℕ) (x : Exits) (body : Built all_ends B b (suc at) (within_loop at x.next x)) →
    Built two_ends C a (suc at + length body.nodes) (record { yes_to = body.entry; no_to = x.next }) →
    Built all_ends (λ G. s.WhileLoop G (C G) (B G)) (1 + a + b) at x
while_at at x body test =
    let long : length (body.nodes ++ test.nodes) ≡ length body.nodes + length test.nodes = length-append body.nodes test.nodes in
    record {
      nodes = node.Again test.entry ∷ (body.nodes ++ test.nodes);
      entry = test.entry;
      does = λ all stand. (
        body.entry,
        at,
        test.does all (rest_stand all body.nodes test.nodes (suc at) (suc at + length body.nodes) refl stand.1),
        body.does all (first_stand all body.nodes test.nodes (suc at) stand.1),
        ap (option_map view_of) stand.0,
      );
      few = omega (arith, long, body.few, test.few);
      inside = λ below.
          let low : body.entry < suc at + length body.nodes =
          body.inside (inside_loop (suc at) at x (omega arith) (below_more at (suc at) (all_ends x) (omega arith) below)) in
          omega (arith, long, test.inside (low, (omega (arith, below.0), tt)));
      back = λ count le below.
          let first : AllBelow (suc at) (all_ends (within_loop at x.next x)) =
          inside_loop (suc at) at x (omega arith) (below_more at (suc at) (all_ends x) (omega arith) below) in
          let second : AllBelow (suc at + length body.nodes) (two_ends (record { yes_to = body.entry; no_to = x.next })) =
          (body.inside first, (omega (arith, below.0), tt)) in (
            (omega (arith, long, le, test.inside second), tt),
            both_back count body.nodes test.nodes (suc at) (suc at + length body.nodes) refl (body.back count (omega (arith, long, le)) first)
                (test.back count (omega (arith, long, le)) second),
          );
    }

pub while_do : {C : Graph → Path Ways} {B : Graph → Path Exits} {a b : ℕ} → Builds two_ends C a → Builds all_ends B b →
    Builds all_ends (λ G. s.WhileLoop G (C G) (B G)) (1 + a + b)
while_do c b = record {
  build = λ at x.
      let body = b.build (suc at) (within_loop at x.next x) in
      while_at at x body (c.build (suc at + length body.nodes) (record { yes_to = body.entry; no_to = x.next }));
}

do_at : {C : Graph → Path Ways} {B : Graph → Path Exits} {a b : ℕ} (at : ℕ) (x : Exits)
    (test : Built two_ends C a (suc at) (record { yes_to = at; no_to = x.next })) →
    Built all_ends B b (suc at + length test.nodes) (within_loop test.entry x.next x) → Built all_ends (λ G. s.DoWhileLoop G (C G) (B G)) (1 + a + b) at x
do_at at x test body =
    let long : length (test.nodes ++ body.nodes) ≡ length test.nodes + length body.nodes = length-append test.nodes body.nodes in
    record {
      nodes = node.Again body.entry ∷ (test.nodes ++ body.nodes);
      entry = body.entry;
      does = λ all stand. (
        test.entry,
        at,
        body.does all (rest_stand all test.nodes body.nodes (suc at) (suc at + length test.nodes) refl stand.1),
        test.does all (first_stand all test.nodes body.nodes (suc at) stand.1),
        ap (option_map view_of) stand.0,
      );
      few = omega (arith, long, body.few, test.few);
      inside = λ below.
          let first : AllBelow (suc at) (two_ends (record { yes_to = at; no_to = x.next })) = (omega arith, (omega (arith, below.0), tt)) in
          let second : AllBelow (suc at + length test.nodes) (all_ends (within_loop test.entry x.next x)) =
          inside_loop (suc at + length test.nodes) test.entry x (test.inside first)
          (below_more at (suc at + length test.nodes) (all_ends x) (omega arith) below) in
          omega (arith, long, body.inside second);
      back = λ count le below.
          let first : AllBelow (suc at) (two_ends (record { yes_to = at; no_to = x.next })) = (omega arith, (omega (arith, below.0), tt)) in
          let second : AllBelow (suc at + length test.nodes) (all_ends (within_loop test.entry x.next x)) =
          inside_loop (suc at + length test.nodes) test.entry x (test.inside first)
          (below_more at (suc at + length test.nodes) (all_ends x) (omega arith) below) in (
            (omega (arith, long, le, body.inside second), tt),
            both_back count test.nodes body.nodes (suc at) (suc at + length test.nodes) refl (test.back count (omega (arith, long, le)) first)
                (body.back count (omega (arith, long, le)) second),
          );
    }

pub do_do : {C : Graph → Path Ways} {B : Graph → Path Exits} {a b : ℕ} → Builds two_ends C a → Builds all_ends B b →
    Builds all_ends (λ G. s.DoWhileLoop G (C G) (B G)) (1 + a + b)
do_do c b = record {
  build = λ at x.
      let test = c.build (suc at) (record { yes_to = at; no_to = x.next }) in
      do_at at x test (b.build (suc at + length test.nodes) (within_loop test.entry x.next x));
}

for_at : {C : Graph → Path Ways} {S : Graph → Path ℕ} {B : Graph → Path Exits} {a b c : ℕ} (at : ℕ) (x : Exits) (third : Built one_end S c (suc at) at)
    (body : Built all_ends B b (suc at + length third.nodes) (within_loop third.entry x.next x)) →
    Built two_ends C a (suc at + length third.nodes + length body.nodes) (record { yes_to = body.entry; no_to = x.next }) →
    Built all_ends (λ G. s.ForLoop G (C G) (S G) (B G)) (1 + a + b + c) at x
for_at at x third body test =
    let few : length (body.nodes ++ test.nodes) ≡ length body.nodes + length test.nodes = length-append body.nodes test.nodes in
    let long : length (third.nodes ++ (body.nodes ++ test.nodes)) ≡ length third.nodes + length (body.nodes ++ test.nodes) =
    length-append third.nodes (body.nodes ++ test.nodes) in
    record {
      nodes = node.Again test.entry ∷ (third.nodes ++ (body.nodes ++ test.nodes));
      entry = test.entry;
      does = λ all stand.
          let rest : StandAlong all (suc at + length third.nodes) (body.nodes ++ test.nodes) =
          rest_stand all third.nodes (body.nodes ++ test.nodes) (suc at) (suc at + length third.nodes) refl stand.1 in (
            body.entry,
            at,
            third.entry,
            test.does all (rest_stand all body.nodes test.nodes (suc at + length third.nodes) (suc at + length third.nodes + length body.nodes) refl rest),
            body.does all (first_stand all body.nodes test.nodes (suc at + length third.nodes) rest),
            third.does all (first_stand all third.nodes (body.nodes ++ test.nodes) (suc at) stand.1),
            ap (option_map view_of) stand.0,
          );
      few = omega (arith, few, long, body.few, test.few, third.few);
      inside = λ below.
          let one : AllBelow (suc at) (one_end at) = (omega arith, tt) in
          let two : AllBelow (suc at + length third.nodes) (all_ends (within_loop third.entry x.next x)) =
          inside_loop (suc at + length third.nodes) third.entry x (third.inside one)
          (below_more at (suc at + length third.nodes) (all_ends x) (omega arith) below) in
          omega (arith, few, long, test.inside (body.inside two, (omega (arith, below.0), tt)));
      back = λ count le below.
          let one : AllBelow (suc at) (one_end at) = (omega arith, tt) in
          let two : AllBelow (suc at + length third.nodes) (all_ends (within_loop third.entry x.next x)) =
          inside_loop (suc at + length third.nodes) third.entry x (third.inside one)
          (below_more at (suc at + length third.nodes) (all_ends x) (omega arith) below) in
          let last : AllBelow (suc at + length third.nodes + length body.nodes) (two_ends (record { yes_to = body.entry; no_to = x.next })) =
          (body.inside two, (omega (arith, below.0), tt)) in (
            (omega (arith, few, long, le, test.inside last), tt),
            both_back count third.nodes (body.nodes ++ test.nodes) (suc at) (suc at + length third.nodes) refl
                (third.back count (omega (arith, few, long, le)) one)
                (both_back count body.nodes test.nodes (suc at + length third.nodes) (suc at + length third.nodes + length body.nodes) refl
                (body.back count (omega (arith, few, long, le)) two) (test.back count (omega (arith, few, long, le)) last)),
          );
    }

pub for_loop : {C : Graph → Path Ways} {S : Graph → Path ℕ} {B : Graph → Path Exits} {a b c : ℕ} → Builds two_ends C a → Builds one_end S c →
    Builds all_ends B b →
    Builds all_ends (λ G. s.ForLoop G (C G) (S G) (B G)) (1 + a + b + c)
for_loop c t b = record {
  build = λ at x.
      let third = t.build (suc at) at in
      let body = b.build (suc at + length third.nodes) (within_loop third.entry x.next x) in
      for_at at x third body (c.build (suc at + length third.nodes + length body.nodes) (record { yes_to = body.entry; no_to = x.next }));
}

-- a statement, and what comes after it
before_at : {R S : Graph → Path Exits} {a b : ℕ} (at : ℕ) (x : Exits) (q : Built all_ends S b at x) →
    Built all_ends R a (at + length q.nodes) (record x { next = q.entry }) →
    Built all_ends (λ G. StatementSequence (R G) (S G)) (a + b) at x
before_at at x q p =
    let long : length (q.nodes ++ p.nodes) ≡ length q.nodes + length p.nodes = length-append q.nodes p.nodes in
    record {
      nodes = q.nodes ++ p.nodes;
      entry = p.entry;
      does = λ all stand. (
        q.entry,
        p.does all (rest_stand all q.nodes p.nodes at (at + length q.nodes) refl stand),
        q.does all (first_stand all q.nodes p.nodes at stand),
      );
      few = omega (arith, long, q.few, p.few);
      inside = λ below.
          let more : AllBelow (at + length q.nodes) (all_ends x) = below_more at (at + length q.nodes) (all_ends x) (omega arith) below in
          omega (arith, long, p.inside (q.inside below, more.1));
      back = λ count le below.
          let more : AllBelow (at + length q.nodes) (all_ends x) = below_more at (at + length q.nodes) (all_ends x) (omega arith) below in
          both_back count q.nodes p.nodes at (at + length q.nodes) refl (q.back count (omega (arith, long, le)) below)
          (p.back count (omega (arith, long, le)) (q.inside below, more.1));
    }

pub one_before : {R S : Graph → Path Exits} {a b : ℕ} → Builds all_ends R a → Builds all_ends S b → Builds all_ends (λ G. StatementSequence (R G) (S G)) (a + b)
one_before r s = record { build = λ at x. let q = s.build at x in before_at at x q (r.build (at + length q.nodes) (record x { next = q.entry })) }

-- where a statement is left
pub left_at : (f : Exits → ℕ) → ((n : ℕ) (x : Exits) → AllBelow n (all_ends x) → f x < n) → Builds all_ends (λ (G : Graph) i x. i ≡ f x) 0
left_at f low = record {
  build = λ at x. record {
    nodes = [];
    entry = f x;
    does = λ all stand. refl;
    few = omega arith;
    inside = λ below. omega (arith, low at x below);
    back = λ count le below. tt;
  };
}

-- a part that goes on where a statement is left
pub aimed_at : {R : Graph → Path ℕ} {a : ℕ} (f : Exits → ℕ) → ((n : ℕ) (x : Exits) → AllBelow n (all_ends x) → f x < n) → Builds one_end R a →
    Builds all_ends (λ G i x. R G i (f x)) a
aimed_at f low r = record {
  build = λ at x.
      let p = r.build at (f x) in
      record {
        nodes = p.nodes;
        entry = p.entry;
        does = p.does;
        few = p.few;
        inside = λ below. p.inside (low at x below, tt);
        back = λ count le below. p.back count le (low at x below, tt);
      };
}
