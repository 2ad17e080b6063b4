-- Where control goes on as it leaves a statement, and paths to there.
use Rattle.std.proofs.Common.{◌≡◌, ℕ, ◌≤◌, refl, sym, arith, Some, None, ◌∷◌}
use Rattle.std.specs.Prelude.{Option}
use Rattle.cbi_base.specs.declared.scalar.Scalar.{Scalar}
use Rattle.c_meaning.specs.Words.{after_entry, World, Out, Go, OutDone, Flow, Next, Broken, Continued, Returned, bind}
use Rattle.lower_relation.specs.Paths.{Path, Exits}
use Rattle.lower_relation.specs.Statements.{StatementSequence}
use Rattle.lower_relation.proofs.Reach.{Stack, Reach, here, le_self, reach_bind}
use Rattle.lower_relation.proofs.Sounds.{Standing, Sound, bare, none, state, stay, to}

-- where a statement goes on
abbrev pub flow_at : Flow → Exits → ℕ
flow_at Next x = x.next
flow_at Broken x = x.breaks
flow_at Continued x = x.continues
flow_at (Returned (Some v)) x = x.gives
flow_at (Returned None) x = x.leaves

-- what it leaves on the operands
abbrev pub flow_post : Flow → Stack → Stack
flow_post (Returned (Some v)) xs = v ∷ xs
flow_post other xs = xs

module _ (z : Standing) where
  -- from a node the graph comes to what a statement means, where at most so many turns are left
  abbrev pub Flows : ℕ → Stack → Exits → ℕ → (World → Out Flow) → Type 0
  Flows i xs x b m = (w : World) → w.turns ≤ b → Reach z.code z.watch (state z i xs w) w.turns (m w) (λ a u. state z (flow_at a x) (flow_post a xs) u)

  -- the graph does a statement
  abbrev pub Executes : (World → Out Flow) → Path Exits → Type 0
  Executes m R = Sound z bare m R flow_at flow_post

  -- control only goes on
  pub simply : (a : Flow) (pick : Exits → ℕ) → ((x : Exits) → flow_at a x ≡ pick x) → ((xs : Stack) → flow_post a xs ≡ xs)
      → Executes (Go a) (λ i x. i ≡ pick x)
  simply a pick e p = record { runs = λ i x xs w le h. (rw (h, sym (e x), p xs) (here z.code z.watch _), le_self w.turns) }

  -- what gives nothing, and then control goes on
  pub effect_then : {m : World → OutDone} {R : Path ℕ} → Sound z bare m R to none → Executes (λ w. bind (m w) (λ _. Go Next)) (λ i x. R i x.next)
  effect_then {m = m} a = record {
    runs = λ i x xs w le h.
        reach_bind z.code z.watch _ _ (m w) _ _ _ (a.runs i x.next xs w le h) (λ y u l. (here z.code z.watch _, le_self u.turns));
  }

  pub returned_on : (v : Option Scalar) (x y : Exits) (xs : Stack) (u : World) → x.gives ≡ y.gives → x.leaves ≡ y.leaves
      → Reach z.code z.watch (state z (flow_at (Returned v) x) (flow_post (Returned v) xs) u) u.turns (Go (Returned v) u)
      (λ a t. state z (flow_at a y) (flow_post a xs) t)
  returned_on None x y xs u g l = (stay z x.leaves y.leaves xs u l, le_self u.turns)
  returned_on (Some v) x y xs u g l = (stay z x.gives y.gives (v ∷ xs) u g, le_self u.turns)

  -- a statement, and the ones after it
  pub entry_then : {m q : World → Out Flow} {R S : Path Exits} → Executes m R → Executes q S → Executes (λ w. bind (m w) (after_entry q)) (StatementSequence R S)
  entry_then {m = m} {q = q} a b = record {
    runs = λ i x xs w le h.
        let inner : Exits = record x { next = h.0 } in
        let rest : (y : Flow) (u : World) → u.turns ≤ w.turns
        → Reach z.code z.watch (state z (flow_at y inner) (flow_post y xs) u) u.turns (after_entry q y u) (λ a t. state z (flow_at a x) (flow_post a xs) t) =
        λ y. elim y as (λ y. (u : World) → u.turns ≤ w.turns
        → Reach z.code z.watch (state z (flow_at y inner) (flow_post y xs) u) u.turns (after_entry q y u) (λ a t. state z (flow_at a x) (flow_post a xs) t)) [
          | Next ↦ λ u l. b.runs h.0 x xs u (omega (arith, l, le)) h.2
          | Broken ↦ λ u l. (here z.code z.watch _, le_self u.turns)
          | Continued ↦ λ u l. (here z.code z.watch _, le_self u.turns)
          | Returned v ↦ λ u l. returned_on v inner x xs u refl refl
        ]
        in reach_bind z.code z.watch _ _ (m w) _ _ _ (a.runs i inner xs w le h.1) rest;
  }
