-- Each call does what it means.
use Rattle.std.proofs.Common.{◌≡◌, ℕ, refl, ap, ◌∙◌, List, ◌∷◌, ◌++◌, Option, Some, None, Ok, Err, Bool, true, false, length}
use Rattle.std.specs.Prelude.{◌==◌, Result, slice_get}
use Rattle.std.specs.Option.{option_and_then}
use Rattle.cbi_base.specs.Words.{pieces_of, object_released, truth_of}
use Rattle.base_lists.proofs.Numbers.{same_number}
use Rattle.cbi_base.specs.declared.scalar.Kind.TheVariants.{Char, Int, Unsigned}
use Rattle.cbi_base.specs.declared.scalar.Scalar.{Scalar}
use Rattle.cbi_base.specs.declared.scalar.Scalar.TheVariants.{Number, Place, Null, Undefined}
use Rattle.cbi_base.specs.declared.trap.Trap.{Trap}
use Rattle.c_types_rules.specs.declared.library.Library.{Library}
use Rattle.c_types_rules.specs.declared.library.Library.TheVariants as library
use Rattle.flow.specs.declared.node.Node.TheVariants as node
use Rattle.flow.specs.declared.node.View.TheVariants as view
use Rattle.flow.specs.declared.program.Text.{Text}
use Rattle.flow.specs.Words.{go_on, step, with_answer, row_effect}
use Rattle.flow.specs.Rows as machine
use Rattle.flow.proofs.Endings.{ends_over, leads_one}
use Rattle.c_meaning.specs.declared.value_type.Called.{Called}
use Rattle.c_meaning.specs.declared.value_type.Called.TheVariants as called
use Rattle.c_meaning.specs.declared.value_type.ValueType.{ValueType}
use Rattle.c_meaning.specs.declared.value_type.ValueType.TheVariants as type
use Rattle.c_meaning.specs.Calls as mean
use Rattle.c_meaning.specs.Words.{Argument, Arguments, as_type, types_taken, as_used, Facts, Setting, Signature, Sites, has_value, site_list, truth_value, World, Out}
use Rattle.c_meaning.specs.Words.{Caller, OutDone, answer_or_trap, bind}
use Rattle.lower_relation.specs.Calls as way
use Rattle.lower_relation.specs.Paths.{Path, Does, HaltsAt}
use Rattle.lower_relation.specs.Stands.{Agrees}
use Rattle.lower_relation.proofs.Reach.{Holds, Reach, Stack, le_self}
use Rattle.lower_relation.proofs.Sounds.{CallsSound, Standing, Sound, SenseSound, bare, changes, halts, none, now, only_ok, plus, result_on, row, seq, seq_with, setting, state, stuck_ok, then_done, to}
use Rattle.lower_relation.proofs.ValueSounds.{effected_ok, valued_ok}
use Rattle.lower_relation.proofs.OperatorSounds.{marks_ok}
use Rattle.lower_relation.proofs.PrintSounds.{format_ok, get_ok, put_ok, puts_ok}

module _ (z : Standing) where
  alloc_ok : (v : Scalar) → Sound z (plus v) (mean.space_allocated v) (Does z.graph (node.Alloc 0)) to plus
  unfolding row_effect
  alloc_ok Undefined = record { runs = λ i k xs w le h. ends_over z.code _ _ (row z (node.Alloc 0) i k (Undefined ∷ xs) w h) }
  alloc_ok Null = record { runs = λ i k xs w le h. ends_over z.code _ _ (row z (node.Alloc 0) i k (Null ∷ xs) w h) }
  alloc_ok (Place o a) = record { runs = λ i k xs w le h. ends_over z.code _ _ (row z (node.Alloc 0) i k (Place o a ∷ xs) w h) }
  alloc_ok (Number Char v) = record { runs = λ i k xs w le h. ends_over z.code _ _ (row z (node.Alloc 0) i k (Number Char v ∷ xs) w h) }
  alloc_ok (Number Int v) = record { runs = λ i k xs w le h. ends_over z.code _ _ (row z (node.Alloc 0) i k (Number Int v ∷ xs) w h) }
  alloc_ok (Number Unsigned v) = record {
    runs = λ i k xs w le h.
        (leads_one z.code _ _ (row z (node.Alloc 0) i k (Number Unsigned v ∷ xs) w h), le_self w.turns);
  }

  free_ok : (p : Scalar) → Sound z (plus p) (mean.space_released p) (Does z.graph (node.Free 0)) to none
  unfolding row_effect
  free_ok p = changes z (node.Free 0) (plus p) tt none (λ w. object_released p w.objects) (λ xs w. refl)

  exit_ok : (v : Scalar) → Sound z (plus v) (mean.exit v) (HaltsAt z.graph {K = ℕ} node.Exit) to none
  unfolding row_effect
  exit_ok Undefined = record { runs = λ i k xs w le h. ends_over z.code _ _ (halts z node.Exit i (Undefined ∷ xs) w h) }
  exit_ok Null = record { runs = λ i k xs w le h. ends_over z.code _ _ (halts z node.Exit i (Null ∷ xs) w h) }
  exit_ok (Place o a) = record { runs = λ i k xs w le h. ends_over z.code _ _ (halts z node.Exit i (Place o a ∷ xs) w h) }
  exit_ok (Number Char v) = record { runs = λ i k xs w le h. ends_over z.code _ _ (halts z node.Exit i (Number Char v ∷ xs) w h) }
  exit_ok (Number Int v) = record { runs = λ i k xs w le h. ends_over z.code _ _ (halts z node.Exit i (Number Int v ∷ xs) w h) }
  exit_ok (Number Unsigned v) = record { runs = λ i k xs w le h. ends_over z.code _ _ (halts z node.Exit i (Number Unsigned v ∷ xs) w h) }

  abort_ok : Sound z bare mean.abort (HaltsAt z.graph {K = ℕ} node.Abort) to none
  unfolding row_effect
  abort_ok = record { runs = λ i k xs w le h. ends_over z.code _ _ (halts z node.Abort i xs w h) }

  checked : (i k : ℕ) (v : Scalar) (xs : Stack) (w : World) (r : Result Bool Trap)
      → step z.code (state z i (v ∷ xs) w) ≡ go_on (z.ren k) (state z i (v ∷ xs) w) (with_answer r (now z xs w) (λ holds. machine.assert_then holds (now z xs w)))
      → Reach z.code z.watch (state z i (v ∷ xs) w) w.turns (bind (answer_or_trap r w) mean.assert) (λ a u. state z k xs u)
  checked i k v xs w (Ok true) e = (leads_one z.code _ _ e, le_self w.turns)
  checked i k v xs w (Ok false) e = ends_over z.code _ _ e
  checked i k v xs w (Err t) e = ends_over z.code _ _ e

  check_ok : (v : Scalar) → Sound z (plus v) (λ u. bind (truth_value v u) mean.assert) (Does z.graph (node.Check 0)) to none
  unfolding row_effect
  check_ok v = record { runs = λ i k xs w le h. checked i k v xs w (truth_of v) (row z (node.Check 0) i k (v ∷ xs) w h) }

  -- arguments of any types do what they mean, and are so many
  pub record ArgumentsSound (n : ℕ) (m : Arguments) (R : way.ArgumentsPath) : Type 0 where
    pub sound : (types : List ValueType) → Sound z bare (m types) (R types) to (λ found xs. found ++ xs)
    pub many : (types : List ValueType) (w : World) → Holds (λ found. length found ≡ n) (m types w)

  -- the one argument of any type does what it means
  pub record ArgumentSound (m : Argument) (R : way.ArgumentPath) : Type 0 where
    pub sound : (want : Option ValueType → Option ValueType) → Sound z bare (m want) (R want) to plus

  module _ (facts : Facts) (sites : Sites) (agrees : Agrees z.code facts sites) (call : Caller) (calls : CallsSound z.code z.watch facts z.turns call) where
    abbrev s : Setting
    s = setting z facts sites call

    printed_ok : (number : ℕ) (o : Option Text) (n : ℕ) {m : Arguments} {R : way.ArgumentsPath} → slice_get facts.statics.texts number ≡ o → ArgumentsSound n m R
        → Sound z bare (mean.print_by o n m) (way.PrintPath z.graph (Some number) o n R) to none
    printed_ok number None n e a = stuck_ok z bare to none
    printed_ok number (Some format) n e a = only_ok z (n == length (types_taken (pieces_of format.bytes))) (λ same.
        seq_with z (λ found. length found ≡ n) (a.many (types_taken (pieces_of format.bytes))) (a.sound (types_taken (pieces_of format.bytes))) (λ found l.
        format_ok z number n format found (ap (λ st. slice_get st.texts number) agrees.statics ∙ e) l))

    pub print_ok : (number : Option ℕ) (n : ℕ) {m : Arguments} {R : way.ArgumentsPath} → ArgumentsSound n m R
        → Sound z bare (mean.print_by (option_and_then (slice_get facts.statics.texts) number) n m)
        (way.PrintPath z.graph number (option_and_then (slice_get facts.statics.texts) number) n R) to none
    print_ok None n a = stuck_ok z bare to none
    print_ok (Some number) n a = printed_ok number (slice_get facts.statics.texts number) n refl a

    returned_ok : (token : ℕ) {m : World → Out Scalar} {R : Path ℕ} → Sound z bare m R to plus
        → SenseSound z (mean.call_result_visited s token m) (way.Returned z.graph facts sites token R)
    returned_ok token a = valued_ok z (seq z a (λ v. marks_ok z facts sites agrees call (site_list (sites.return_at token)) v))

    with_result_ok : (token : ℕ) (b : Bool) {m : World → Out Scalar} {R : Path ℕ}
        → Sound z bare m R to (result_on b) → SenseSound z (mean.with_result s token b m) (way.WithResult z.graph facts sites token b R)
    with_result_ok token true a = returned_ok token a
    with_result_ok token false a = effected_ok z (then_done z (λ _. tt) to none a)

    call_ok : (number : ℕ) (f : Signature) (args : Stack) → facts.signature number ≡ Some f → length args ≡ length f.params
        → Sound z (λ xs. args ++ xs) (call number args) (λ i k. z.graph i (view.Calls number k)) to (result_on (has_value f.result))
    call_ok number f args e l = record {
      runs = λ i k xs w le h.
          calls.by z.function z.below z.locals number f (z.ren i) (z.ren k) args xs w le (z.stands.at i _ h) e l;
    }

    call_function_ok : (token number : ℕ) (o : Option Signature) (n : ℕ) {m : Arguments} {R : way.ArgumentsPath} → facts.signature number ≡ o → ArgumentsSound n m R
        → SenseSound z (mean.call_function s token number o n m) (way.CallFunction z.graph facts sites token number o n R)
    call_function_ok token number None n e a = valued_ok z (stuck_ok z bare to plus)
    call_function_ok token number (Some f) n e a = with_result_ok token (has_value f.result) (only_ok z (n == length f.params) (λ same.
        seq_with z (λ found. length found ≡ n) (a.many f.params) (a.sound f.params)
        (λ found l. call_ok number f found e (l ∙ same_number n (length f.params) same))))

    call_library_ok : (token : ℕ) (function : Library) (n : ℕ) {m : Argument} {R : way.ArgumentPath} {p : World → OutDone} {P : Path ℕ}
        → ArgumentSound m R → Sound z bare p P to none
        → SenseSound z (mean.call_library s token function n m p) (way.CallLibrary z.graph facts sites token function n R P)
    call_library_ok token library.Getchar n a p = returned_ok token (only_ok z (n == 0) (λ _. get_ok z))
    call_library_ok token library.Putchar n a p = valued_ok z (seq z (a.sound (as_type (type.Number Int))) (λ v. put_ok z v))
    call_library_ok token library.Puts n a p = valued_ok z (seq z (a.sound (as_type (type.Pointer 1))) (λ v. puts_ok z v))
    call_library_ok token library.Malloc n a p = returned_ok token (seq z (a.sound (as_type (type.Number Unsigned))) (λ v. alloc_ok v))
    call_library_ok token library.Free n a p = effected_ok z (seq z (a.sound (as_type (type.Pointer 0))) (λ v. free_ok v))
    call_library_ok token library.Exit n a p = effected_ok z (seq z (a.sound (as_type (type.Number Int))) (λ v. exit_ok v))
    call_library_ok token library.Abort n a p = effected_ok z (only_ok z (n == 0) (λ _. abort_ok))
    call_library_ok token library.Assert n a p = effected_ok z (seq z (a.sound as_used) (λ v. check_ok v))
    call_library_ok token library.Printf n a p = effected_ok z p

    pub call_sense_ok : (token : ℕ) (c : Called) (n : ℕ) {m : Arguments} {R : way.ArgumentsPath} {q : Argument} {S : way.ArgumentPath} {p : World → OutDone} {P : Path ℕ}
        → ArgumentsSound n m R → ArgumentSound q S → Sound z bare p P to none
        → SenseSound z (mean.call_sense s token c n m q p) (way.CallDoes z.graph facts sites token c n R S P)
    call_sense_ok token (called.Function number) n a b p = call_function_ok token number (facts.signature number) n refl a
    call_sense_ok token (called.Library function) n a b p = call_library_ok token function n b p
    call_sense_ok token called.Unknown n a b p = valued_ok z (stuck_ok z bare to plus)
