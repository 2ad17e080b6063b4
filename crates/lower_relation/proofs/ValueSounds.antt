-- Values are converted, handed over and read as they mean.
use Rattle.std.proofs.Common.{◌≡◌, ℕ, refl, ap, List, ◌∷◌, Option, Some, Ok, Bool, true, false}
use Rattle.std.specs.Prelude.{ℤ}
use Rattle.cbi_base.specs.declared.scalar.Kind.{Kind}
use Rattle.cbi_base.specs.declared.scalar.Scalar.{Scalar}
use Rattle.cbi_base.specs.declared.scalar.Scalar.TheVariants.{Number, Place, Null, Undefined}
use Rattle.cbi_base.specs.declared.scalar.Want.{Want}
use Rattle.cbi_base.specs.declared.scalar.Want.TheVariants as want
use Rattle.cbi_base.specs.declared.operators.Unary.{Unary}
use Rattle.cbi_base.specs.declared.operators.Unary.TheVariants as unary
use Rattle.cbi_base.specs.Words.{loaded_value, applied_to_one, converted_number}
use Rattle.flow.specs.declared.node.Node.TheVariants as node
use Rattle.flow.specs.Words.{Goes, with_answer, row_effect}
use Rattle.flow.proofs.Endings.{ends_over}
use Rattle.c_meaning.specs.declared.conversion.Conversion.{Conversion}
use Rattle.c_meaning.specs.declared.conversion.Conversion.TheVariants.{Keep, To, Misfit}
use Rattle.c_meaning.specs.declared.value_type.ValueType.{ValueType}
use Rattle.c_meaning.specs.declared.value_type.ValueType.TheVariants as type
use Rattle.c_meaning.specs.Conversions as mean
use Rattle.c_meaning.specs.Expressions as mean_of
use Rattle.c_meaning.specs.Words.{Sense, truth_value, World, Out, Go, OutDone, answer_or_trap, bind, chosen_part, value_discarded, no_effect}
use Rattle.lower_relation.specs.Paths.{Path, ◌then◌, Does, Emitted, ValueTruth}
use Rattle.lower_relation.specs.Values as way
use Rattle.lower_relation.proofs.Reach.{bind_go}
use Rattle.lower_relation.proofs.Sounds as sound
use Rattle.lower_relation.proofs.Sounds.{Standing, Sound, SenseSound, answers, bare, before, fork_ok, kept, last_row, none, now, plus, pushes, row, same_meaning, seq, stuck_ok, to, unchanged, under}

module _ (z : Standing) where
  pub push_ok : (kind : Kind) (v : ℤ) → Sound z bare (Go (Number kind v)) (Does z.graph (node.Push kind v 0)) to plus
  unfolding row_effect
  push_ok kind v = pushes z (node.Push kind v 0) (Number kind v) (λ xs w. refl)

  pub null_ok : Sound z bare (Go Null) (Does z.graph (node.Null 0)) to plus
  unfolding row_effect
  null_ok = pushes z (node.Null 0) Null (λ xs w. refl)

  pub drop_ok : (v : Scalar) → Sound z (plus v) no_effect (Does z.graph (node.Drop 0)) to none
  unfolding row_effect
  drop_ok v = last_row z tt (plus v) none (node.Drop 0) (λ xs w. refl)

  -- the value below the top one stays
  pub dropped_ok : (v x : Scalar) → Sound z (λ xs. x ∷ v ∷ xs) (Go v) (Does z.graph (node.Drop 0)) to plus
  unfolding row_effect
  dropped_ok v x = last_row z v (λ xs. x ∷ v ∷ xs) plus (node.Drop 0) (λ xs w. refl)

  pub done_ok : {pre : List Scalar → List Scalar} {m : World → Out Scalar} {R : Path ℕ}
      → Sound z pre m R to plus → Sound z pre (λ w. value_discarded (m w)) (way.DroppedValue z.graph R) to none
  done_ok a = seq z a (λ v. drop_ok v)

  pub convert_ok : (kind : Kind) (v : Scalar) → Sound z (plus v) (λ w. answer_or_trap (converted_number kind v) w) (Does z.graph (node.Convert kind 0)) to plus
  unfolding row_effect
  convert_ok kind v = answers z (node.Convert kind 0) (plus v) (λ w. converted_number kind v) (λ xs w. refl)

  pub sole_ok : (o : Unary) (x : Scalar) → Sound z (plus x) (λ w. answer_or_trap (applied_to_one o x) w) (Does z.graph (node.Sole o 0)) to plus
  unfolding row_effect
  sole_ok o x = answers z (node.Sole o 0) (plus x) (λ w. applied_to_one o x) (λ xs w. refl)

  pub load_row_ok : (wanted : Want) (p : Scalar) → Sound z (plus p) (λ w. answer_or_trap (loaded_value wanted p w.objects) w) (Does z.graph (node.Load wanted 0)) to plus
  unfolding row_effect
  load_row_ok wanted p = answers z (node.Load wanted 0) (plus p) (λ w. loaded_value wanted p w.objects) (λ xs w. refl)

  pub converts_ok : (c : Conversion) (v : Scalar) → Sound z (plus v) (mean.as_wanted c v) (way.Converts z.graph c) to plus
  converts_ok Keep v = unchanged z v
  converts_ok (To kind) v = convert_ok kind v
  converts_ok Misfit v = stuck_ok z (plus v) to plus

  pub converts_below_ok : (c : Conversion) (x y : Scalar)
      → Sound z (λ xs. y ∷ x ∷ xs) (mean.as_wanted c x) (way.ConvertsBelow z.graph c) to (λ v xs. y ∷ v ∷ xs)
  unfolding row_effect
  converts_below_ok Keep x y = kept z x (λ v xs. y ∷ v ∷ xs)
  converts_below_ok (To kind) x y = same_meaning z (λ w. bind_go (answer_or_trap (converted_number kind x) w))
      (before z (node.Swap 0) (λ xs. y ∷ x ∷ xs) (λ xs w. refl) (seq z (under z (plus y) (convert_ok kind x))
      (λ a. last_row z a (λ xs. a ∷ y ∷ xs) (λ v xs. y ∷ v ∷ xs) (node.Swap 0) (λ xs w. refl))))
  converts_below_ok Misfit x y = stuck_ok z (λ xs. y ∷ x ∷ xs) to (λ v xs. y ∷ v ∷ xs)

  pub load_ok : (of : Option ValueType) (p : Scalar) → Sound z (plus p) (mean.load_at of p) (way.LoadAt z.graph of) to plus
  load_ok (Some (type.Number kind)) p = load_row_ok (want.Number kind) p
  load_ok (Some (type.Pointer size)) p = load_row_ok want.Pointer p
  load_ok (Some (type.Array size)) p = unchanged z p
  load_ok of p = stuck_ok z (plus p) to plus

  -- a copy of a defined value is looked at, and dropped
  looked_ok : (v x : Scalar) → applied_to_one unary.Not v ≡ Ok x
      → Sound z (plus v) (Go v) (Does z.graph (node.Dup 0) then Does z.graph (node.Sole unary.Not 0) then Does z.graph (node.Drop 0)) to plus
  unfolding row_effect
  looked_ok v x e = before z (node.Dup 0) (plus v) (λ xs w. refl)
      (before z {mid = λ xs. x ∷ v ∷ xs} (node.Sole unary.Not 0) (λ xs. v ∷ v ∷ xs)
      (λ xs w. ap (λ r. with_answer r (now z (v ∷ xs) w) (λ y. Goes (now z (y ∷ v ∷ xs) w))) e)
      (dropped_ok v x))

  defined_ok : (v : Scalar)
      → Sound z (plus v) (λ w. answer_or_trap (mean.defined_scalar v) w)
      (Does z.graph (node.Dup 0) then Does z.graph (node.Sole unary.Not 0) then Does z.graph (node.Drop 0)) to plus
  unfolding row_effect applied_to_one
  defined_ok Undefined = before z (node.Dup 0) (plus Undefined) (λ xs w. refl) (record {
    runs = λ i k xs w le h.
        ends_over z.code _ _ (row z (node.Sole unary.Not 0) i h.0 (Undefined ∷ Undefined ∷ xs) w h.1);
  })
  defined_ok (Number kind v) = looked_ok (Number kind v) _ refl
  defined_ok (Place o a) = looked_ok (Place o a) _ refl
  defined_ok Null = looked_ok Null _ refl

  pub handed_ok : (of : Option ValueType) (v : Scalar) → Sound z (plus v) (mean.handed_scalar of v) (way.HandedOverAs z.graph of) to plus
  handed_ok (Some (type.Number kind)) v = convert_ok kind v
  handed_ok (Some (type.Pointer size)) v = defined_ok v
  handed_ok of v = stuck_ok z (plus v) to plus

  pub tests_ok : {m : World → Out Scalar} {R : Path ℕ} → Sound z bare m R to plus → Sound z bare (λ w. bind (m w) truth_value) (ValueTruth z.graph R) sound.way none
  tests_ok a = seq z a (λ v. fork_ok z v)

  pub valued_ok : {m : World → Out Scalar} {R : Path ℕ} → Sound z bare m R to plus → SenseSound z (mean_of.sense_of_value m) (way.EmittedValue z.graph R)
  valued_ok a = record { value = a; place = stuck_ok z bare to plus; effect = done_ok a; truth = tests_ok a }

  discarded_ok : (b : Bool) (of : Option ValueType) (p : Scalar)
      → Sound z (plus p) (chosen_part b no_effect (λ u. value_discarded (mean.load_at of p u))) (way.DiscardedPlace z.graph b of) to none
  discarded_ok true of p = drop_ok p
  discarded_ok false of p = done_ok (load_ok of p)

  pub placed_ok : {m : World → Out Scalar} {R : Path ℕ} (of : Option ValueType) → Sound z bare m R to plus
      → SenseSound z (mean_of.sense_of_place of m) (way.EmittedPlace z.graph of R)
  placed_ok of a = record {
    value = seq z a (λ p. load_ok of p);
    place = a;
    effect = seq z a (λ p. discarded_ok (mean_of.is_struct_value of) of p);
    truth = tests_ok (seq z a (λ p. load_ok of p));
  }

  pub effected_ok : {m : World → OutDone} {R : Path ℕ} → Sound z bare m R to none → SenseSound z (mean_of.sense_of_effect m) (way.EmittedEffect z.graph R)
  effected_ok a = record { value = stuck_ok z bare to plus; place = stuck_ok z bare to plus; effect = a; truth = stuck_ok z bare sound.way none }

  pub null_or_ok : (b : Bool) {m : Sense} {R : Emitted} → SenseSound z m R → Sound z bare (mean_of.null_or b m) (way.NullOr z.graph b R) to plus
  null_or_ok true a = null_ok
  null_or_ok false a = a.value

  pub null_truth_ok : (b : Bool) {m : Sense} {R : Emitted}
      → SenseSound z m R → Sound z bare (λ w. bind (mean_of.null_or b m w) truth_value) (way.NullTruth z.graph b R) sound.way none
  null_truth_ok true a = tests_ok null_ok
  null_truth_ok false a = a.truth

  pub wanted_ok : (b : Bool) (have want : Option ValueType) {m : Sense} {R : Emitted}
      → SenseSound z m R → Sound z bare (mean_of.wanted_value b have want m) (way.WantedValue z.graph b have want R) to plus
  wanted_ok true have want a = null_ok
  wanted_ok false have want a = seq z a.value (λ v. converts_ok (mean.conversion have want) v)

  pub handed_value_ok : (b : Bool) (want : Option ValueType) {m : Sense} {R : Emitted}
      → SenseSound z m R → Sound z bare (mean_of.handed_value b want m) (way.HandedValue z.graph b want R) to plus
  handed_value_ok true want a = null_ok
  handed_value_ok false want a = seq z a.value (λ v. handed_ok want v)

  arm_as_ok : (b : Bool) (have want : Option ValueType) (v : Scalar) → Sound z (plus v) (mean_of.arm_as b have want v) (way.ArmAs z.graph b have want) to plus
  arm_as_ok true have want v = handed_ok want v
  arm_as_ok false have want v = converts_ok (mean.conversion have want) v

  pub arm_ok : (b : Bool) (have want : Option ValueType) {m : Sense} {R : Emitted}
      → SenseSound z m R → Sound z bare (mean_of.arm_value b have want m) (way.ArmValue z.graph b have want R) to plus
  arm_ok true have want a = null_ok
  arm_ok false have want a = seq z a.value (λ v. arm_as_ok (mean_of.is_other_pointer (mean.as_used have) want) have want v)

  pub arm_effect_ok : (b : Bool) (have want : Option ValueType) {m : Sense} {R : Emitted}
      → SenseSound z m R → Sound z bare (mean_of.arm_effect b have want m) (way.ArmEffect z.graph b have want R) to none
  arm_effect_ok b have (Some type.Void) a = a.effect
  arm_effect_ok b have want a = done_ok (arm_ok b have want a)
