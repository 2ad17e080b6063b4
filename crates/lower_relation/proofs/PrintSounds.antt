-- What is read and written is what it means.
use Rattle.std.proofs.Common.{◌≡◌, ℕ, refl, ap, sym, subst, ◌∙◌, List, [], ◌∷◌, ◌++◌, ◌+◌, ◌-◌, Option, Some, None, Bool, true, false, length, take, nat_le}
use Rattle.std.specs.Prelude.{pos, reverse, slice_get, if◌then◌else◌}
use Rattle.std.specs.List.{list_all}
use Rattle.cbi_base.specs.Words.{is_defined_value, Printed, pieces_of, printed_format, string_at, take_values, then_print, bytes_printed, output_limit, low_byte}
use Rattle.cbi_base.specs.declared.outcome.Outcome.TheVariants.{CutOutput, Trapped}
use Rattle.cbi_base.specs.declared.scalar.Kind.TheVariants.{Char, Int, Unsigned}
use Rattle.cbi_base.specs.declared.scalar.Scalar.{Scalar}
use Rattle.cbi_base.specs.declared.scalar.Scalar.TheVariants.{Number, Place, Null, Undefined}
use Rattle.cbi_base.specs.declared.trap.Trap.{Trap}
use Rattle.cbi_base.specs.declared.trap.Trap.TheVariants as trap
use Rattle.flow.specs.declared.node.Node.TheVariants as node
use Rattle.flow.specs.declared.program.Text.{Text}
use Rattle.flow.specs.Words.{go_on, step, Effect, Goes, Lacks, Now, Stops, Takes, goes_with_value, next_on, operands_taken, with_named, with_taken, row_effect, State}
use Rattle.flow.specs.Printing as machine
use Rattle.flow.proofs.Endings.{ends_over, leads_one}
use Rattle.c_meaning.specs.Words.{all_defined, next_byte, put_printed, put_byte, put_format, put_string, put_bytes, World, Out, Go, Stop, bind, chosen_part, stuck_run}
use Rattle.c_meaning.specs.Output as mean
use Rattle.lower_relation.specs.Paths.{Does}
use Rattle.lower_relation.proofs.Reach.{Reach, Stack, bind_bind, bind_go, le_self}
use Rattle.lower_relation.proofs.Sounds.{Standing, Sound, bare, none, now, plus, row, state, to}
use Rattle.lower_relation.proofs.Taken.{several_on}

module _ (z : Standing) where
  -- the world with this output
  abbrev wrote : World → List ℕ → World
  wrote w output = record w { output = output }

  -- Where there is room for all bytes the row goes on behind them.
  written_on : {B : Type 0} (i k : ℕ) (xs ys : Stack) (w : World) (bytes : List ℕ) (fits : Bool) (next : Now → Effect)
      (g : Unit {0} → World → Out B) (l : B → World → State)
      → step z.code (state z i xs w) ≡ go_on (z.ren k) (state z i xs w)
      (if fits then next (now z ys (wrote w (w.output ++ bytes))) else Stops CutOutput (w.output ++ take (output_limit - length w.output) bytes))
      → (step z.code (state z i xs w) ≡ go_on (z.ren k) (state z i xs w) (next (now z ys (wrote w (w.output ++ bytes))))
      → Reach z.code z.watch (state z i xs w) w.turns (g tt (wrote w (w.output ++ bytes))) l)
      → Reach z.code z.watch (state z i xs w) w.turns
      (bind (if fits then Go tt (wrote w (w.output ++ bytes)) else Stop CutOutput (wrote w (w.output ++ take (output_limit - length w.output) bytes))) g) l
  written_on i k xs ys w bytes true next g l e go = go e
  written_on i k xs ys w bytes false next g l e go = ends_over z.code _ _ e

  stops_on : {A : Type 0} (a : A) (i k : ℕ) (xs ys : Stack) (zs : A → Stack) (w : World) (o : List ℕ) (stop : Option Trap) (next : Now → Effect)
      → next (now z ys (wrote w o)) ≡ Goes (now z (zs a) (wrote w o))
      → step z.code (state z i xs w) ≡ go_on (z.ren k) (state z i xs w) (machine.stop_or_then stop (now z ys (wrote w o)) next)
      → Reach z.code z.watch (state z i xs w) w.turns (bind (mean.stop_or stop (wrote w o)) (λ _. Go a)) (λ b y. state z k (zs b) y)
  stops_on a i k xs ys zs w o None next goes e = (leads_one z.code _ _ (e ∙ ap (go_on (z.ren k) (state z i xs w)) goes), le_self w.turns)
  stops_on a i k xs ys zs w o (Some t) next goes e = ends_over z.code _ _ e

  -- bytes and then perhaps a trap, before the row goes on
  print_on : {A : Type 0} (a : A) (i k : ℕ) (xs ys : Stack) (zs : A → Stack) (w : World) (p : Printed) (next : Now → Effect)
      → ((u : World) → next (now z ys u) ≡ Goes (now z (zs a) u))
      → step z.code (state z i xs w) ≡ go_on (z.ren k) (state z i xs w) (machine.print_then p (now z ys w) next)
      → Reach z.code z.watch (state z i xs w) w.turns (bind (put_printed p w) (λ _. Go a)) (λ b y. state z k (zs b) y)
  print_on a i k xs ys zs w p next goes e =
      subst (λ o. Reach z.code z.watch (state z i xs w) w.turns o (λ b y. state z k (zs b) y))
      (sym (bind_bind (put_bytes p.bytes w) (λ _. mean.stop_or p.stop) (λ _. Go a)))
      (written_on i k xs ys w p.bytes (nat_le (length w.output + length p.bytes) output_limit) (λ d. machine.stop_or_then p.stop d next)
      (λ _ u. bind (mean.stop_or p.stop u) (λ _. Go a)) (λ b y. state z k (zs b) y) e
      (λ f. stops_on a i k xs ys zs w (w.output ++ p.bytes) p.stop next (goes (wrote w (w.output ++ p.bytes))) f))

  got : (i k : ℕ) (xs : Stack) (w : World) (input : List ℕ) → step z.code (state z i xs w) ≡ go_on (z.ren k) (state z i xs w) (next_on input (now z xs w))
      → Reach z.code z.watch (state z i xs w) w.turns (next_byte input w) (λ a u. state z k (a ∷ xs) u)
  got i k xs w [] e = (leads_one z.code _ _ e, le_self w.turns)
  got i k xs w (byte ∷ rest) e = (leads_one z.code _ _ e, le_self w.turns)

  pub get_ok : Sound z bare (λ w. next_byte w.input w) (Does z.graph (node.Get 0)) to plus
  unfolding row_effect
  get_ok = record { runs = λ i k xs w le h. got i k xs w w.input (row z (node.Get 0) i k xs w h) }

  pub put_ok : (v : Scalar) → Sound z (plus v) (put_byte v) (Does z.graph (node.Put 0)) to plus
  unfolding row_effect
  put_ok Undefined = record { runs = λ i k xs w le h. ends_over z.code _ _ (row z (node.Put 0) i k (Undefined ∷ xs) w h) }
  put_ok Null = record { runs = λ i k xs w le h. ends_over z.code _ _ (row z (node.Put 0) i k (Null ∷ xs) w h) }
  put_ok (Place o a) = record { runs = λ i k xs w le h. ends_over z.code _ _ (row z (node.Put 0) i k (Place o a ∷ xs) w h) }
  put_ok (Number Char v) = record { runs = λ i k xs w le h. ends_over z.code _ _ (row z (node.Put 0) i k (Number Char v ∷ xs) w h) }
  put_ok (Number Unsigned v) = record { runs = λ i k xs w le h. ends_over z.code _ _ (row z (node.Put 0) i k (Number Unsigned v ∷ xs) w h) }
  put_ok (Number Int v) = record {
    runs = λ i k xs w le h.
        written_on i k (Number Int v ∷ xs) xs w (low_byte v ∷ []) (nat_le (length w.output + 1) output_limit) (λ d. goes_with_value d (Number Int (pos (low_byte v))))
        (λ _. Go (Number Int (pos (low_byte v)))) (λ a u. state z k (a ∷ xs) u) (row z (node.Put 0) i k (Number Int v ∷ xs) w h)
        (λ e. (leads_one z.code _ _ e, le_self w.turns));
  }

  pub puts_ok : (p : Scalar) → Sound z (plus p) (put_string p) (Does z.graph (node.Puts 0)) to plus
  unfolding row_effect
  puts_ok Undefined = record { runs = λ i k xs w le h. ends_over z.code _ _ (row z (node.Puts 0) i k (Undefined ∷ xs) w h) }
  puts_ok (Number kind v) = record { runs = λ i k xs w le h. ends_over z.code _ _ (row z (node.Puts 0) i k (Number kind v ∷ xs) w h) }
  puts_ok (Place o a) = record {
    runs = λ i k xs w le h.
        print_on (Number Int (pos 0)) i k (Place o a ∷ xs) xs (λ v. v ∷ xs) w (then_print (string_at (Place o a) w.objects) (bytes_printed (10 ∷ [])))
        (λ d. goes_with_value d (Number Int (pos 0))) (λ u. refl) (row z (node.Puts 0) i k (Place o a ∷ xs) w h);
  }
  puts_ok Null = record {
    runs = λ i k xs w le h.
        print_on (Number Int (pos 0)) i k (Null ∷ xs) xs (λ v. v ∷ xs) w (then_print (string_at Null w.objects) (bytes_printed (10 ∷ [])))
        (λ d. goes_with_value d (Number Int (pos 0))) (λ u. refl) (row z (node.Puts 0) i k (Null ∷ xs) w h);
  }

  -- the values by the format, where each conversion takes its value
  formatted_on : (i k : ℕ) (ys xs : Stack) (w : World) (format : List ℕ) (values : List Scalar) (takes : Bool)
      → step z.code (state z i ys w) ≡ go_on (z.ren k) (state z i ys w)
      (if takes then machine.print_then (printed_format (pieces_of format) values w.objects) (now z xs w) (λ d. Goes d) else Stops (Trapped trap.Internal) w.output)
      → Reach z.code z.watch (state z i ys w) w.turns (chosen_part takes (put_printed (printed_format (pieces_of format) values w.objects)) stuck_run w) (λ a u. state z k xs u)
  formatted_on i k ys xs w format values true e =
      subst (λ o. Reach z.code z.watch (state z i ys w) w.turns o (λ a u. state z k xs u)) (bind_go (put_printed (printed_format (pieces_of format) values w.objects) w))
      (print_on tt i k ys xs (λ _. xs) w (printed_format (pieces_of format) values w.objects) (λ d. Goes d) (λ u. refl) e)
  formatted_on i k ys xs w format values false e = ends_over z.code _ _ e

  all_on : (i k : ℕ) (ys xs : Stack) (w : World) (format : Text) (vs : List Scalar) (defined : Bool)
      → step z.code (state z i ys w) ≡ go_on (z.ren k) (state z i ys w)
      (with_taken (if defined then Takes (reverse vs) (now z xs w) else Lacks trap.Undefined) (now z ys w)
      (λ values e. machine.put_format_then format.bytes values e (λ d. Goes d)))
      → Reach z.code z.watch (state z i ys w) w.turns
      (bind (if defined then Go (reverse vs) w else Stop (Trapped trap.Undefined) w) (put_format format.bytes)) (λ a u. state z k xs u)
  all_on i k ys xs w format vs true e = formatted_on i k ys xs w format.bytes (reverse vs) (take_values (pieces_of format.bytes) (reverse vs)) e
  all_on i k ys xs w format vs false e = ends_over z.code _ _ e

  pub format_ok : (number count : ℕ) (format : Text) (vs : List Scalar) → slice_get z.code.statics.texts number ≡ Some format → length vs ≡ count
      → Sound z (λ xs. vs ++ xs) (λ w. bind (all_defined vs w) (put_format format.bytes)) (Does z.graph (node.Format number count 0)) to none
  unfolding row_effect
  format_ok number count format vs at l = record {
    runs = λ i k xs w le h.
        all_on i k (vs ++ xs) xs w format vs (list_all is_defined_value vs)
        (row z (node.Format number count 0) i k (vs ++ xs) w h
        ∙ ap (λ t. go_on (z.ren k) (state z i (vs ++ xs) w)
        (with_named t (now z (vs ++ xs) w) (λ text. with_taken (operands_taken count (now z (vs ++ xs) w)) (now z (vs ++ xs) w)
        (λ values e. machine.put_format_then text.bytes values e (λ d. Goes d))))) at
        ∙ ap (λ t. go_on (z.ren k) (state z i (vs ++ xs) w)
        (with_taken t (now z (vs ++ xs) w) (λ values e. machine.put_format_then format.bytes values e (λ d. Goes d))))
        (ap (λ c. operands_taken c (now z (vs ++ xs) w)) (sym l) ∙ several_on z.locals vs xs w));
  }
