-- A body in which `exit(v);` stands for `return v;` ends the same, where it is that of the first `main`.
use Rattle.std.proofs.Common.{◌≡◌, ◌⊎◌, ℕ, ℤ, zero, suc, Bool, true, false, List, [], Option, Some, None, refl, ap, sym, ◌∙◌, subst, inl, inr}
use Rattle.cbi_base.specs.declared.outcome.Outcome.TheVariants.{CutTurns}
use Rattle.cbi_base.specs.declared.scalar.Kind.{Kind}
use Rattle.cbi_base.specs.declared.scalar.Kind.TheVariants.{Char, Int, Unsigned}
use Rattle.cbi_base.specs.declared.scalar.Scalar.{Scalar}
use Rattle.cbi_base.specs.declared.scalar.Scalar.TheVariants.{Number, Place, Null, Undefined}
use Rattle.cbi_base.specs.Words.{wrapped_value, converted_number, Locals, Object, Objects}
use Rattle.c_values.proofs.Modulo.{wrapped-inside}
use Rattle.std.specs.Prelude.{codes}
use Rattle.c_syntax.specs.ExprTree as e
use Rattle.c_syntax.specs.Words.{ExprTree, StatementTree, EntryList}
use Rattle.c_syntax.specs.StatementTree as tree
use Rattle.c_meaning.specs.declared.value_type.ValueType.{ValueType}
use Rattle.c_meaning.specs.declared.value_type.ValueType.TheVariants as type
use Rattle.c_meaning.specs.Words.{call_sense, exit, as_wanted, conversion, handed_scalar, Setting, declaration_done, arguments_value, condition, expr, arguments_printed, lone_value}
use Rattle.c_meaning.specs.Words.{run_behaviour, call_at, enter_function, enter_with, first_world, gives_value, body_world, locals_at, meaning, run_body, run_from}
use Rattle.c_meaning.specs.Words.{run_main, setting_of, value_left, Signature, after_body, after_entry, do_round, exec, exec_all, for_round, for_started}
use Rattle.c_meaning.specs.Words.{optional_condition, optional_effect, loop_rounds, while_round, called_as, expression_count, has_value, type_of, World, Out, Go, Stop, OutDone}
use Rattle.c_meaning.specs.Words.{Flow, Next, Broken, Continued, Returned, answer_or_trap, bind, chosen_part, one_turn_spent}
use Rattle.c_meaning_laws.specs.Rules.{IsNumberType}
use Rattle.c_meaning_laws.specs.Exits.{AreExited, IsExited, ReturnOfMainExits, RunIsOfMain, exit_with, main_body}
use Rattle.c_meaning_laws.specs.Negation.{IsValueOfType}

-- the end of a run by `exit`, as what comes of a statement
abbrev exited : Scalar → World → Out Flow
exited v w = bind (exit v w) (λ _. Go Next)

-- The second does what the first does, or the first returned a value that the second exits with.
abbrev EndsAs : Out Flow → Out Flow → Type 0
EndsAs out other =
    (other ≡ out) ⊎ ((v : Scalar) × (u : World) × (out ≡ Go (Returned (Some v)) u) × (IsValueOfType (Some (type.Number Int)) v → other ≡ exited v u))

abbrev Ends : (World → Out Flow) → (World → Out Flow) → Type 0
Ends m other = (w : World) → EndsAs (m w) (other w)

-- nothing comes behind an exit
none_behind : (v : Scalar) (w : World) (next : Flow → World → Out Flow) → bind (exited v w) next ≡ exited v w
none_behind Undefined w next = refl
none_behind Null w next = refl
none_behind (Place number offset) w next = refl
none_behind (Number Int value) w next = refl
none_behind (Number Char value) w next = refl
none_behind (Number Unsigned value) w next = refl

-- what comes behind a statement that returned is left out, and what comes behind one that went on ends as the same
bind_ends : (out other : Out Flow) (f g : Flow → World → Out Flow) → EndsAs out other
    → ((v : Scalar) (u : World) → f (Returned (Some v)) u ≡ Go (Returned (Some v)) u)
    → ((flow : Flow) → Ends (f flow) (g flow)) → EndsAs (bind out f) (bind other g)
bind_ends (Go flow w) other f g (inl same) leaves next = subst (λ o. EndsAs (f flow w) (bind o g)) (sym same) (next flow w)
bind_ends (Stop outcome w) other f g (inl same) leaves next = inl (ap (λ o. bind o g) same)
bind_ends out other f g (inr returned) leaves next =
    let v : Scalar = returned.0 in
    let u : World = returned.1 in
    inr (
      v,
      u,
      ap (λ o. bind o f) returned.2 ∙ leaves v u,
      λ is. ap (λ o. bind o g) (returned.3 is) ∙ none_behind v u g,
    )

-- what comes behind a part that both begin with
same_ends : {A : Type 0} (out : Out A) (f g : A → World → Out Flow) → ((x : A) → Ends (f x) (g x)) → EndsAs (bind out f) (bind out g)
same_ends (Go x w) f g next = next x w
same_ends (Stop outcome w) f g next = inl refl

chosen_ends : (b : Bool) (m other n another : World → Out Flow) → Ends m other → Ends n another → Ends (chosen_part b m n) (chosen_part b other another)
chosen_ends true m other n another h k = h
chosen_ends false m other n another h k = k

itself : (m : World → Out Flow) → Ends m m
itself m w = inl refl

body_ends : (again other : World → Out Flow) → Ends again other → (flow : Flow) → Ends (after_body again flow) (after_body other flow)
body_ends again other h Next w = h w
body_ends again other h Continued w = h w
body_ends again other h Broken w = inl refl
body_ends again other h (Returned v) w = inl refl

entry_ends : (rest other : World → Out Flow) → Ends rest other → (flow : Flow) → Ends (after_entry rest flow) (after_entry other flow)
entry_ends rest other h Next w = h w
entry_ends rest other h flow w = inl refl

spend_ends : (turns : ℕ) (w : World) (m other : World → Out Flow) → Ends m other → EndsAs (one_turn_spent turns w m) (one_turn_spent turns w other)
spend_ends zero w m other h = inl refl
spend_ends (suc turns) w m other h = h (record w { turns = turns })

-- rounds that keep this keep it together
abbrev RoundEnds : ((World → Out Flow) → World → Out Flow) → ((World → Out Flow) → World → Out Flow) → Type 0
RoundEnds round other = (again more : World → Out Flow) → Ends again more → Ends (round again) (other more)

rounds_end : (round other : (World → Out Flow) → World → Out Flow) → RoundEnds round other → (n : ℕ) → Ends (loop_rounds n round) (loop_rounds n other)
rounds_end round other h zero w = h (Stop CutTurns) (Stop CutTurns) (itself (Stop CutTurns)) w
rounds_end round other h (suc n) w =
    h (λ u. one_turn_spent u.turns u (loop_rounds n round)) (λ u. one_turn_spent u.turns u (loop_rounds n other))
    (λ u. spend_ends u.turns u (loop_rounds n round) (loop_rounds n other) (rounds_end round other h n)) w

while_ends : (test : World → Out Bool) (body other : World → Out Flow) → Ends body other → RoundEnds (while_round test body) (while_round test other)
while_ends test body other h again more k w =
    same_ends (test w) _ _ (λ holds. chosen_ends holds (λ u. bind (body u) (after_body again)) (λ u. bind (other u) (after_body more)) (Go Next) (Go Next)
    (λ u. bind_ends (body u) (other u) (after_body again) (after_body more) (h u) (λ v y. refl) (body_ends again more k)) (itself (Go Next)))

do_ends : (test : World → Out Bool) (body other : World → Out Flow) → Ends body other → RoundEnds (do_round test body) (do_round test other)
do_ends test body other h again more k w =
    let next : (World → Out Flow) → World → Out Flow = λ m u. bind (test u) (λ holds. chosen_part holds m (Go Next)) in
    bind_ends (body w) (other w) (after_body (next again)) (after_body (next more)) (h w) (λ v y. refl) (body_ends (next again) (next more) (λ u.
    same_ends (test u) _ _ (λ holds. chosen_ends holds again more (Go Next) (Go Next) k (itself (Go Next)))))

for_ends : (test : World → Out Bool) (body other : World → Out Flow) (step : World → OutDone) → Ends body other
    → RoundEnds (for_round test body step) (for_round test other step)
for_ends test body other step h again more k =
    while_ends test body other h (λ u. bind (step u) (λ _. again)) (λ u. bind (step u) (λ _. more)) (λ u. same_ends (step u) _ _ (λ _. k))

-- an `int` that is returned, and one that is exited with
kept_int : (v : Scalar) (w : World) → IsValueOfType (Some (type.Number Int)) v → bind (bind (answer_or_trap (converted_number Int v) w) exit) (λ _. Go Next) ≡ exited v w
unfolding converted_number
kept_int (Number k n) w h =
    ap (λ (m : ℤ). exited (Number Int m) w) (wrapped-inside Int n h.1) ∙ ap (λ (j : Kind). exited (Number j n) w) (sym h.0)
kept_int Undefined w h = refl
kept_int Null w h = absurd h
kept_int (Place number offset) w h = absurd h

turned_int : (k : Kind) (v : Scalar) (w : World)
    → EndsAs (bind (answer_or_trap (converted_number Int v) w) (λ x. Go (Returned (Some x)))) (bind (bind (answer_or_trap (converted_number Int v) w) exit) (λ _. Go Next))
unfolding converted_number
turned_int k (Number j n) w = inr (Number Int (wrapped_value Int n), w, refl, λ _. refl)
turned_int k v w = inl refl

value_ends : (of : Option ValueType) (v : Scalar) (w : World) → IsNumberType of
    → EndsAs (bind (as_wanted (conversion of (Some (type.Number Int))) v w) (λ x. Go (Returned (Some x))))
    (bind (bind (handed_scalar (Some (type.Number Int)) v w) exit) (λ _. Go Next))
value_ends (Some (type.Number Int)) v w h = inr (v, w, refl, kept_int v w)
value_ends (Some (type.Number Char)) v w h = turned_int Char v w
value_ends (Some (type.Number Unsigned)) v w h = turned_int Unsigned v w
value_ends of v w h = absurd h

out_ends : (of : Option ValueType) (out : Out Scalar) → IsNumberType of
    → EndsAs (bind (bind out (as_wanted (conversion of (Some (type.Number Int))))) (λ x. Go (Returned (Some x))))
    (bind (bind (bind out (handed_scalar (Some (type.Number Int)))) exit) (λ _. Go Next))
out_ends of (Go v w) h = value_ends of v w h
out_ends of (Stop outcome w) h = inl refl

module _ (s : Setting) (n : ℕ) where
  abbrev result : ValueType
  result = type.Number Int

  -- `exit` is the library's
  exit_called : (other name : ℕ) (v : ExprTree) (w : World) → s.facts.function_at name ≡ None
      → exec s n result (tree.Expr other (exit_with name v)) w
      ≡ bind (bind (bind ((expr s v).value w) (handed_scalar (Some result))) exit) (λ _. Go Next)
  exit_called other name v w library =
      ap (λ (number : Option ℕ). bind ((call_sense s name (called_as number (codes "exit")) (expression_count (e.more_exprs v e.no_exprs))
      (λ types. arguments_value s types (e.more_exprs v e.no_exprs) []) (λ want. lone_value s want (e.more_exprs v e.no_exprs))
      (arguments_printed s (e.more_exprs v e.no_exprs))).effect w) (λ _. Go Next)) library

  return_ends : (token : ℕ) (v : ExprTree) (y : StatementTree) → IsExited s.facts (tree.Return token (Some v)) y
      → Ends (exec s n result (tree.Return token (Some v))) (exec s n result y)
  return_ends token v y (inl same) w = inl (ap (λ z. exec s n result z w) same)
  return_ends token v y (inr exits) w =
      subst (λ out. EndsAs (exec s n result (tree.Return token (Some v)) w) out)
      (sym (ap (λ z. exec s n result z w) exits.2 ∙ exit_called exits.0 exits.1 v w exits.3))
      (out_ends (type_of s.facts v) ((expr s v).value w) exits.4)

  alike : (x y : StatementTree) → y ≡ x → Ends (exec s n result x) (exec s n result y)
  alike x y same w = inl (ap (λ z. exec s n result z w) same)

  abbrev test : ℕ → ExprTree → World → Out Bool
  test token c = condition s token c

  -- what is known of a statement that is written as another one
  as_written : (x y z : StatementTree) → y ≡ z → Ends (exec s n result x) (exec s n result z) → Ends (exec s n result x) (exec s n result y)
  as_written x y z same h w = subst (λ a. EndsAs (exec s n result x w) (exec s n result a w)) (sym same) (h w)

  mutual
    statement_ends : (x y : StatementTree) → IsExited s.facts x y → Ends (exec s n result x) (exec s n result y)
    statement_ends (tree.Return token (Some v)) y h = return_ends token v y h
    statement_ends (tree.Block token entries) y h =
        as_written (tree.Block token entries) y (tree.Block token h.0) h.1 (entries_end entries h.0 h.2)
    statement_ends (tree.If token c first) y h =
        as_written (tree.If token c first) y (tree.If token c h.0) h.1 (λ w. same_ends (test token c w) _ _ (λ holds.
        chosen_ends holds (exec s n result first) (exec s n result h.0) (Go Next) (Go Next) (statement_ends first h.0 h.2) (itself (Go Next))))
    statement_ends (tree.IfElse token c first second) y h =
        as_written (tree.IfElse token c first second) y (tree.IfElse token c h.0 h.1) h.2 (λ w. same_ends (test token c w) _ _ (λ holds.
        chosen_ends holds (exec s n result first) (exec s n result h.0) (exec s n result second) (exec s n result h.1) (statement_ends first h.0 h.3)
        (statement_ends second h.1 h.4)))
    statement_ends (tree.While token c body) y h =
        as_written (tree.While token c body) y (tree.While token c h.0) h.1
        (rounds_end (while_round (test token c) (exec s n result body)) (while_round (test token c) (exec s n result h.0))
        (while_ends (test token c) (exec s n result body) (exec s n result h.0) (statement_ends body h.0 h.2)) n)
    statement_ends (tree.Do token body c) y h =
        as_written (tree.Do token body c) y (tree.Do token h.0 c) h.1
        (rounds_end (do_round (test token c) (exec s n result body)) (do_round (test token c) (exec s n result h.0))
        (do_ends (test token c) (exec s n result body) (exec s n result h.0) (statement_ends body h.0 h.2)) n)
    statement_ends (tree.For token start c step body) y h =
        let holds : World → Out Bool = optional_condition s token c in
        let act : World → OutDone = optional_effect s step in
        as_written (tree.For token start c step body) y (tree.For token start c step h.0) h.1 (λ w. same_ends (for_started s start w) _ _ (λ _.
        rounds_end (for_round holds (exec s n result body) act) (for_round holds (exec s n result h.0) act)
        (for_ends holds (exec s n result body) (exec s n result h.0) act (statement_ends body h.0 h.2)) n))
    statement_ends x y h = alike x y h

    entries_end : (xs ys : EntryList) → AreExited s.facts xs ys → Ends (exec_all s n result xs) (exec_all s n result ys)
    entries_end tree.no_entries ys h w = inl (ap (λ zs. exec_all s n result zs w) h)
    entries_end (tree.declared d rest) ys h w =
        subst (λ zs. EndsAs (exec_all s n result (tree.declared d rest) w) (exec_all s n result zs w)) (sym h.1)
        (same_ends (declaration_done s d w) _ _ (λ _. entries_end rest h.0 h.2))
    entries_end (tree.stated x rest) ys h w =
        subst (λ zs. EndsAs (exec_all s n result (tree.stated x rest) w) (exec_all s n result zs w)) (sym h.2)
        (bind_ends (exec s n result x w) (exec s n result h.0 w) (after_entry (exec_all s n result rest)) (after_entry (exec_all s n result h.1))
        (statement_ends x h.0 h.3 w) (λ v u. refl) (entry_ends (exec_all s n result rest) (exec_all s n result h.1) (entries_end rest h.1 h.4)))

-- the end of a run that returned, and of one that was exited
exit_behaves : (v : Scalar) (w : World) → IsValueOfType (Some (type.Number Int)) v
    → run_behaviour (bind (exited v w) (value_left true true)) ≡ run_behaviour (value_left true true (Returned (Some v)) w)
exit_behaves Undefined w h = refl
exit_behaves (Number k n) w h =
    subst (λ j. run_behaviour (bind (exited (Number j n) w) (value_left true true)) ≡ run_behaviour (value_left true true (Returned (Some (Number j n))) w)) (sym h.0)
    refl
exit_behaves Null w h = absurd h
exit_behaves (Place number offset) w h = absurd h

behaves_alike : (out other : Out Flow) → EndsAs out other → ((v : Scalar) (u : World) → out ≡ Go (Returned (Some v)) u → IsValueOfType (Some (type.Number Int)) v)
    → run_behaviour (bind other (value_left true true)) ≡ run_behaviour (bind out (value_left true true))
behaves_alike out other (inl same) ints = ap (λ o. run_behaviour (bind o (value_left true true))) same
behaves_alike out other (inr returned) ints =
    let v : Scalar = returned.0 in
    let u : World = returned.1 in
    let is : IsValueOfType (Some (type.Number Int)) v = ints v u returned.2 in
    ap (λ o. run_behaviour (bind o (value_left true true))) (returned.3 is) ∙ exit_behaves v u is
    ∙ ap (λ o. run_behaviour (bind o (value_left true true))) (sym returned.2)

pub return_of_main_exits : ReturnOfMainExits
return_of_main_exits src turns locals body other w exits ints =
    behaves_alike (main_body src turns locals body w) (main_body src turns locals other w)
    (entries_end (setting_of src (call_at src turns) locals) turns body other exits w) ints

pub run_is_of_main : RunIsOfMain
unfolding meaning
run_is_of_main src input turns f body made objects entered known int has start room enters =
    let w : World = first_world objects input turns in
    let locals : Locals = locals_at f w in
    ap (λ (o : Option (List Object)). run_behaviour (run_main src input turns o)) start
    ∙ ap (λ (o : Option Objects). run_behaviour (run_from src input turns o)) room
    ∙ ap (λ (g : Option Signature). run_behaviour (bind (enter_function src (call_at src turns) turns src.main g [] w) (value_left true (gives_value g)))) known
    ∙ ap (λ (o : Option Objects). run_behaviour (bind (enter_with src (call_at src turns) turns src.main f w o) (value_left true (has_value f.result)))) enters
    ∙ ap (λ (b : Option EntryList).
    run_behaviour (bind (run_body src (call_at src turns) turns f locals b (body_world entered w)) (value_left true (has_value f.result)))) has
    ∙ ap (λ (t : ValueType).
    run_behaviour (bind (exec_all (setting_of src (call_at src turns) locals) turns t body (body_world entered w)) (value_left true (has_value t)))) int
