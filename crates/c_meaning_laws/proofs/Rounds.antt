-- A loop, its first round, and the loop again.
use Rattle.std.proofs.Common.{◌≡◌, ℕ, zero, suc, ◌≤◌, Bool, true, false, List, refl, sym, ◌∙◌, subst, arith}
use Rattle.cbi_base.specs.Frames.{Locals}
use Rattle.cbi_base.specs.declared.outcome.Outcome.TheVariants.{CutTurns}
use Rattle.cbi_base.specs.declared.scalar.Scalar.{Scalar}
use Rattle.c_syntax.specs.Words.{ExprTree, StatementTree}
use Rattle.c_syntax.specs.StatementTree as tree
use Rattle.c_meaning.specs.declared.value_type.ValueType.{ValueType}
use Rattle.c_meaning.specs.Words.{Setting, declaration_done, condition, Source, call_at, setting_of, after_body, after_entry, do_round, exec, exec_all, loop_rounds}
use Rattle.c_meaning.specs.Words.{while_round, World, Out, Go, Stop, Flow, Next, Broken, Continued, Returned, bind, chosen_part, one_turn_spent}
use Rattle.c_meaning_laws.specs.Rounds.{BlockIsEntries, DoIsFirstRound, WhileIsFirstRound, joined_entries}
use Rattle.c_meaning_laws.proofs.Longer.{Longer, cut, left_in}
use Rattle.c_meaning_laws.proofs.LongerExpressions.{condition_longer}
use Rattle.c_meaning_laws.proofs.LongerRuns.{call_grows}
use Rattle.c_meaning_laws.proofs.LongerStatements.{exec_longer}
use Rattle.c_meaning_laws.proofs.Parts.{bind_alike, bind_behind}

-- two parts that do the same in each state with at most so many turns
abbrev Agree : ℕ → (World → Out Flow) → (World → Out Flow) → Type 0
Agree most m other = (u : World) → u.turns ≤ most → m u ≡ other u

-- a part that gives no turns back
abbrev KeepsTurns : {A : Type 0} → (World → Out A) → Type 0
KeepsTurns m = (w : World) → (left_in (m w)).turns ≤ w.turns

-- where what comes again is the same with no more turns than are left, so is the round
abbrev IsWithin : ((World → Out Flow) → World → Out Flow) → Type 0
IsWithin round = (most : ℕ) (m other : World → Out Flow) → Agree most m other → Agree most (round m) (round other)

bind_within : {A : Type 0} (most : ℕ) (out : Out A) (f g : A → World → Out Flow) → (left_in out).turns ≤ most → ((x : A) → Agree most (f x) (g x))
    → bind out f ≡ bind out g
bind_within most (Go x u) f g le h = h x u le
bind_within most (Stop outcome u) f g le h = refl

after_within : (most : ℕ) (m other : World → Out Flow) (flow : Flow) → Agree most m other → Agree most (after_body m flow) (after_body other flow)
after_within most m other Next h u le = h u le
after_within most m other Continued h u le = h u le
after_within most m other Broken h u le = refl
after_within most m other (Returned v) h u le = refl

choose_within : (most : ℕ) (b : Bool) (m other : World → Out Flow) → Agree most m other → Agree most (chosen_part b m (Go Next)) (chosen_part b other (Go Next))
choose_within most true m other h u le = h u le
choose_within most false m other h u le = refl

while_within : (test : World → Out Bool) (body : World → Out Flow) → KeepsTurns test → KeepsTurns body → IsWithin (while_round test body)
while_within test body tests bodies most m other h w le =
    let round : (World → Out Flow) → World → Out Flow = λ more u. bind (body u) (after_body more) in
    bind_within most (test w) (λ b. chosen_part b (round m) (Go Next)) (λ b. chosen_part b (round other) (Go Next)) (omega (arith, tests w, le)) (λ b.
    choose_within most b (round m) (round other) (λ u low.
    bind_within most (body u) (after_body m) (after_body other) (omega (arith, bodies u, low)) (λ flow. after_within most m other flow h)))

do_within : (test : World → Out Bool) (body : World → Out Flow) → KeepsTurns test → KeepsTurns body → IsWithin (do_round test body)
do_within test body tests bodies most m other h w le =
    let next : (World → Out Flow) → World → Out Flow = λ more u. bind (test u) (λ b. chosen_part b more (Go Next)) in
    bind_within most (body w) (after_body (next m)) (after_body (next other)) (omega (arith, bodies w, le)) (λ flow.
    after_within most (next m) (next other) flow (λ u low.
    bind_within most (test u) (λ b. chosen_part b m (Go Next)) (λ b. chosen_part b other (Go Next)) (omega (arith, tests u, low)) (λ b. choose_within most b m other h)))

spend_alike : (turns : ℕ) (u : World) (m other : World → Out Flow) → ((t : ℕ) → suc t ≡ turns → m (record u { turns = t }) ≡ other (record u { turns = t }))
    → one_turn_spent turns u m ≡ one_turn_spent turns u other
spend_alike zero u m other h = refl
spend_alike (suc t) u m other h = h t refl

-- where at most so many turns are left, more of them as the bound of a loop change nothing
enough : (round : (World → Out Flow) → World → Out Flow) → IsWithin round → (n : ℕ) (w : World) → w.turns ≤ n → loop_rounds n round w ≡ loop_rounds (suc n) round w
enough round within zero w le =
    within 0 (Stop CutTurns) (λ u. one_turn_spent u.turns u (loop_rounds zero round)) (λ u low.
    subst (λ t. Stop CutTurns u ≡ one_turn_spent t u (loop_rounds zero round)) (let none : 0 ≡ u.turns = omega (arith, low) in none) refl) w le
enough round within (suc n) w le =
    within w.turns (λ u. one_turn_spent u.turns u (loop_rounds n round)) (λ u. one_turn_spent u.turns u (loop_rounds (suc n) round)) (λ u low.
    spend_alike u.turns u (loop_rounds n round) (loop_rounds (suc n) round) (λ t is.
    enough round within n (record u { turns = t }) (omega (arith, is, low, le)))) w (omega arith)

module _ (src : Source) (calls : ℕ) (locals : Locals) where
  abbrev within_text : Setting
  within_text = setting_of src (call_at src calls) locals

  -- the same, with calls that are cut at once
  abbrev cut_short : Setting
  cut_short = setting_of src (λ _ _. Stop CutTurns) locals

  calls_grow : (number : ℕ) (vs : List Scalar) → Longer 0 (Stop CutTurns) (call_at src calls number vs)
  calls_grow number vs = cut 0 (call_at src calls number vs) (call_grows 0 src calls number vs)

  test_keeps : (token : ℕ) (c : ExprTree) → KeepsTurns (condition within_text token c)
  test_keeps token c w = ((condition_longer 0 cut_short (call_at src calls) calls_grow token c).grows w).turns

  body_keeps : (n : ℕ) (result : ValueType) (body : StatementTree) → KeepsTurns (exec within_text n result body)
  body_keeps n result body w = ((exec_longer 0 cut_short (call_at src calls) calls_grow 0 n (omega arith) result body).grows w).turns

pub while_is_first_round : WhileIsFirstRound
while_is_first_round src calls n locals result token c body w le =
    let s : Setting = within_text src calls locals in
    enough (while_round (condition s token c) (exec s n result body))
    (while_within (condition s token c) (exec s n result body) (test_keeps src calls locals token c) (body_keeps src calls locals n result body)) n w le

pub do_is_first_round : DoIsFirstRound
do_is_first_round src calls n locals result token c body w le =
    let s : Setting = within_text src calls locals in
    enough (do_round (condition s token c) (exec s n result body))
    (do_within (condition s token c) (exec s n result body) (test_keeps src calls locals token c) (body_keeps src calls locals n result body)) n w le

-- a block within a block
entry_next : (out : Out Flow) (rest more : World → Out Flow)
    → bind (bind out (after_entry rest)) (after_entry more) ≡ bind out (after_entry (λ u. bind (rest u) (after_entry more)))
entry_next (Go Next w) rest more = refl
entry_next (Go Broken w) rest more = refl
entry_next (Go Continued w) rest more = refl
entry_next (Go (Returned v) w) rest more = refl
entry_next (Stop outcome w) rest more = refl

after_alike : (flow : Flow) (m other : World → Out Flow) → ((w : World) → m w ≡ other w) → (w : World) → after_entry m flow w ≡ after_entry other flow w
after_alike Next m other h w = h w
after_alike flow m other h w = refl

pub block_is_entries : BlockIsEntries
block_is_entries s n result token tree.no_entries others w = refl
block_is_entries s n result token (tree.declared d rest) others w =
    sym (bind_behind (declaration_done s d w) (λ _. exec_all s n result rest) (λ _. exec_all s n result (joined_entries rest others))
    (after_entry (exec_all s n result others)) (λ _ u. sym (block_is_entries s n result token rest others u)))
block_is_entries s n result token (tree.stated x rest) others w =
    entry_next (exec s n result x w) (exec_all s n result rest) (exec_all s n result others)
    ∙ bind_alike (exec s n result x w) _ _ (λ flow u.
    after_alike flow (λ y. bind (exec_all s n result rest y) (after_entry (exec_all s n result others))) (exec_all s n result (joined_entries rest others))
    (block_is_entries s n result token rest others) u)
