-- What a whole text does: calls of its functions, and a run from its start to its end (C99 5.1.2.2, 5.1.2.3, 6.5.2.2, 6.9.1).
use Rattle.std.specs.Prelude.{ℕ, zero, suc, ◌+◌, ◌-◌, ◌==◌, Bool, true, false, nat_lt, if◌then◌else◌, pos, List, [], length, Option, Some, None}
use Rattle.cbi_base.specs.Words.{active_limit, all_killed, all_made, first_cells, Locals, each_made, Object, Objects, no_objects}
use Rattle.cbi_base.specs.declared.observation.Observation.{Observation}
use Rattle.cbi_base.specs.declared.outcome.Outcome.{Outcome}
use Rattle.cbi_base.specs.declared.outcome.Outcome.TheVariants.{Ended, Trapped, CutTurns}
use Rattle.cbi_base.specs.declared.scalar.Kind.TheVariants.{Int}
use Rattle.cbi_base.specs.declared.scalar.Scalar.{Scalar}
use Rattle.cbi_base.specs.declared.scalar.Scalar.TheVariants.{Number, Undefined}
use Rattle.cbi_base.specs.declared.trap.Trap.TheVariants as trap
use Rattle.c_syntax.specs.StatementTree.{EntryList}
use Rattle.c_meaning.specs.Calls.{all_defined}
use Rattle.c_meaning.specs.Facts.{Facts, Setting, Signature, Sites}
use Rattle.c_meaning.specs.Statements.{exec_all}
use Rattle.c_meaning.specs.Trees.{has_value}
use Rattle.c_meaning.specs.World.{World, Out, Go, Stop, Flow, Next, Returned, Caller, bind, one_turn_spent, stuck_run}

-- a text, as its meaning sees it: what is known of it, its sites, the bodies of its functions and the number of `main`, and the objects that
-- are there from the start, the globals before the strings
pub record Source : Type 0 where
  pub facts : Facts
  pub sites : Sites
  pub body : ℕ → Option EntryList
  pub main : ℕ
  pub objects : Option (List Object)

-- how a run goes: its outcome, what it wrote, and what its sites saw
pub record Behaviour : Type 0 where
  pub outcome : Outcome
  pub output : List ℕ
  pub seen : List Observation

-- the value that a function ends with; `main` ends with 0 where it ends without `return` (C99 5.1.2.2.3)
abbrev pub value_left : Bool → Bool → Flow → World → Out Scalar
value_left is_main true (Returned (Some Undefined)) w = Stop (Trapped trap.Undefined) w
value_left is_main true (Returned (Some v)) w = Go v w
value_left is_main true (Returned None) w = Go Undefined w
value_left true true Next w = Go (Number Int (pos 0)) w
value_left false true Next w = Go Undefined w
value_left is_main false (Returned None) w = Go Undefined w
value_left is_main false Next w = Go Undefined w
value_left is_main has_value flow w = stuck_run w

-- the objects of a function's variables die as it ends
abbrev pub left_function : Locals → Scalar → World → Out Scalar
left_function locals v w = Go v (record w { objects = all_killed locals.first locals.count w.objects; active = w.active - 1 })

abbrev pub setting_of : Source → Caller → Locals → Setting
setting_of src call locals = record { facts = src.facts; sites = src.sites; call = call; locals = locals }

-- the variables of a function whose objects were made next
abbrev pub locals_at : Signature → World → Locals
locals_at f w = record { first = w.objects.made; count = length f.locals }

-- the world in which its body begins
abbrev pub body_world : Objects → World → World
body_world objects w = record w { objects = objects; active = w.active + 1 }

abbrev pub run_body : Source → Caller → ℕ → Signature → Locals → Option EntryList → World → Out Flow
run_body src call n f locals None w = stuck_run w
run_body src call n f locals (Some body) w = exec_all (setting_of src call locals) n f.result body w

-- a function is entered where so few are active that it may, and there is room for its variables, which begin with its arguments
abbrev pub enter_with : Source → Caller → ℕ → ℕ → Signature → World → Option Objects → Out Flow
enter_with src call n number f w None = Stop (Trapped trap.StackOverflow) w
enter_with src call n number f w (Some objects) = run_body src call n f (locals_at f w) (src.body number) (body_world objects w)

abbrev pub enter_function : Source → Caller → ℕ → ℕ → Option Signature → List Scalar → World → Out Flow
enter_function src call n number None arguments w = stuck_run w
enter_function src call n number (Some f) arguments w =
    if nat_lt w.active active_limit
    then enter_with src call n number f w (all_made (first_cells arguments f.locals) w.objects)
    else Stop (Trapped trap.StackOverflow) w

abbrev pub gives_value : Option Signature → Bool
gives_value None = false
gives_value (Some f) = has_value f.result

abbrev pub locals_of : Option Signature → World → Locals
locals_of None w = record { first = w.objects.made; count = 0 }
locals_of (Some f) w = locals_at f w

-- a call, where at most so many turns are left: it spends one, enters the function, and leaves it
abbrev pub call_at : Source → ℕ → Caller
call_at src zero number arguments w = Stop CutTurns w
call_at src (suc n) number arguments w = one_turn_spent w.turns w (λ u.
    bind (all_defined arguments u) (λ vs _.
    bind (enter_function src (call_at src n) n number (src.facts.signature number) vs u) (λ flow y.
    bind (value_left (number == src.main) (gives_value (src.facts.signature number)) flow y) (left_function (locals_of (src.facts.signature number) u)))))

-- the value of `main` is the status of the run
abbrev pub exit_behaviour : Scalar → World → Behaviour
exit_behaviour (Number Int v) w = record { outcome = Ended v; output = w.output; seen = w.seen }
exit_behaviour other w = record { outcome = Trapped trap.Internal; output = w.output; seen = w.seen }

abbrev pub run_behaviour : Out Scalar → Behaviour
run_behaviour (Go v w) = exit_behaviour v w
run_behaviour (Stop outcome w) = record { outcome = outcome; output = w.output; seen = w.seen }

abbrev pub first_world : Objects → List ℕ → ℕ → World
first_world objects input turns = record { objects = objects; input = input; output = []; turns = turns; active = 0; seen = [] }

abbrev pub run_from : Source → List ℕ → ℕ → Option Objects → Out Scalar
run_from src input turns None = Stop (Trapped trap.StackOverflow) (first_world no_objects input turns)
run_from src input turns (Some objects) =
    bind (enter_function src (call_at src turns) turns src.main (src.facts.signature src.main) [] (first_world objects input turns))
    (value_left true (gives_value (src.facts.signature src.main)))

-- the objects of the beginning are made, and `main` is entered without a turn
abbrev pub run_main : Source → List ℕ → ℕ → Option (List Object) → Out Scalar
run_main src input turns None = stuck_run (first_world no_objects input turns)
run_main src input turns (Some objects) = run_from src input turns (each_made objects no_objects)

-- what a text does on an input, where so many turns may be spent
unfoldable pub meaning : Source → List ℕ → ℕ → Behaviour
meaning src input turns = run_behaviour (run_main src input turns src.objects)
