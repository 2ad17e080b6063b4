-- A `for` goes round as its `while` does.
use Rattle.std.proofs.Common.{◌≡◌, ℕ, zero, suc, pos, Bool, true, false, Option, None, Some, refl, ap, sym}
use Rattle.std.proofs.Math.Path.{fun_ext}
use Rattle.cbi_base.specs.declared.scalar.Kind.TheVariants.{Int}
use Rattle.cbi_base.specs.declared.scalar.Scalar.TheVariants.{Number}
use Rattle.c_syntax.specs.StatementTree as tree
use Rattle.c_meaning.specs.Words.{Setting, declaration_done, condition, expr, after_body, after_entry, exec, for_round, for_started, optional_condition}
use Rattle.c_meaning.specs.Words.{optional_effect, loop_rounds, while_round, site_list, truth_value, sites_visited, World, Out, Go, Stop, OutDone, Flow, Next, Broken, Continued}
use Rattle.c_meaning.specs.Words.{Returned, bind, chosen_part, one_turn_spent}
use Rattle.c_meaning_laws.specs.Constants.{one_at}
use Rattle.c_meaning_laws.specs.Rounds.{ForIsWhile, ForStartsBefore, ForWithoutStepIsWhile, MissingConditionIsTrue}

-- the third part, and what comes again
after_step : (again other : World → Out Flow) → ((u : World) → again u ≡ other u) → (out : OutDone) →
    bind out (λ _. again) ≡ bind (bind (bind out (λ _. Go Next)) (after_entry (Go Next))) (after_body other)
after_step again other same (Go x w) = same w
after_step again other same (Stop outcome w) = refl

-- the body, the third part, and what comes again
after_round : (step : World → OutDone) (again other : World → Out Flow) → ((u : World) → again u ≡ other u) → (out : Out Flow) →
    ((v : World) → out ≡ Go Continued v → ⊥) →
    bind out (after_body (λ u. bind (step u) (λ _. again)))
    ≡ bind (bind out (after_entry (λ u. bind (bind (step u) (λ _. Go Next)) (after_entry (Go Next))))) (after_body other)
after_round step again other same (Go Next w) none = after_step again other same (step w)
after_round step again other same (Go Continued w) none = absurd (none w refl)
after_round step again other same out none = refl

module _ (test : World → Out Bool) (body : World → Out Flow) (step : World → OutDone) (none : (u v : World) → body u ≡ Go Continued v → ⊥) where
  abbrev stepped : World → Out Flow
  stepped u = bind (body u) (after_entry (λ v. bind (bind (step v) (λ _. Go Next)) (after_entry (Go Next))))

  same_round : (again other : World → Out Flow) → ((u : World) → again u ≡ other u) → (out : Out Bool) →
      bind out (λ holds. chosen_part holds (λ u. bind (body u) (after_body (λ v. bind (step v) (λ _. again)))) (Go Next))
      ≡ bind out (λ holds. chosen_part holds (λ u. bind (stepped u) (after_body other)) (Go Next))
  same_round again other same (Go true w) = after_round step again other same (body w) (none w)
  same_round again other same (Go false w) = refl
  same_round again other same (Stop outcome w) = refl

  same_turn : (turns : ℕ) (w : World) (again other : World → Out Flow) → ((u : World) → again u ≡ other u) → one_turn_spent turns w again ≡ one_turn_spent turns w other
  same_turn zero w again other same = refl
  same_turn (suc turns) w again other same = same (record w { turns = turns })

  same_rounds : (n : ℕ) (w : World) → loop_rounds n (for_round test body step) w ≡ loop_rounds n (while_round test stepped) w
  same_rounds zero w = same_round _ _ (λ u. refl) (test w)
  same_rounds (suc n) w = same_round _ _ (λ u. same_turn u.turns u _ _ (same_rounds n)) (test w)

pub loops : ForIsWhile
loops s n result token block c step body w none = same_rounds (condition s token c) (exec s n result body) (expr s step).effect none n w

-- a missing condition, and a condition that is 1 and has no site
missing_test : (s : Setting) (token one : ℕ) (w : World) → s.sites.branch_at token ≡ None
    → optional_condition s token None w ≡ optional_condition s token (Some (one_at one)) w
missing_test s token one w bare = ap (λ (at : Option ℕ). bind (sites_visited s (site_list at) (Number Int (pos 1)) w) truth_value) (sym bare)

pub missing_condition_is_true : MissingConditionIsTrue
missing_condition_is_true s n result token one start step body w bare =
    ap (λ test. bind (for_started s start w) (λ _. loop_rounds n (for_round test (exec s n result body) (optional_effect s step))))
    (fun_ext (λ u. missing_test s token one u bare))

pub for_without_step_is_while : ForWithoutStepIsWhile
for_without_step_is_while s n result token c body w = refl

last_entry : (out : Out Flow) → out ≡ bind out (after_entry (Go Next))
last_entry (Go Next w) = refl
last_entry (Go Broken w) = refl
last_entry (Go Continued w) = refl
last_entry (Go (Returned v) w) = refl
last_entry (Stop outcome w) = refl

-- what is started, and then the last entry
started_last : (out : OutDone) (loop : World → Out Flow) → bind out (λ _. loop) ≡ bind out (λ _ u. bind (loop u) (after_entry (Go Next)))
started_last (Go x w) loop = last_entry (loop w)
started_last (Stop outcome w) loop = refl

stated_last : (out : OutDone) (loop : World → Out Flow)
    → bind out (λ _. loop) ≡ bind (bind out (λ _. Go Next)) (after_entry (λ u. bind (loop u) (after_entry (Go Next))))
stated_last (Go x w) loop = last_entry (loop w)
stated_last (Stop outcome w) loop = refl

pub for_starts_before : ForStartsBefore
for_starts_before s n result token block statement (tree.Declares d) c step body w =
    started_last (declaration_done s d w) (exec s n result (tree.For token (tree.Computes None) c step body))
for_starts_before s n result token block statement (tree.Computes (Some x)) c step body w =
    stated_last ((expr s x).effect w) (exec s n result (tree.For token (tree.Computes None) c step body))
for_starts_before s n result token block statement (tree.Computes None) c step body w =
    last_entry (exec s n result (tree.For token (tree.Computes None) c step body) w)
