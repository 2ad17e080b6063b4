-- Nodes for what is done with a value.
use Rattle.std.proofs.Common.{ℕ, ◌+◌, ◌≤◌, refl, arith, Option, Some, Bool, true, false}
use Rattle.cbi_base.specs.declared.scalar.Want.TheVariants as want
use Rattle.cbi_base.specs.declared.operators.Unary.TheVariants as unary
use Rattle.flow.specs.declared.node.Node.TheVariants as node
use Rattle.c_meaning.specs.declared.conversion.Conversion.{Conversion}
use Rattle.c_meaning.specs.declared.conversion.Conversion.TheVariants.{Keep, To, Misfit}
use Rattle.c_meaning.specs.declared.value_type.ValueType.{ValueType}
use Rattle.c_meaning.specs.declared.value_type.ValueType.TheVariants as type
use Rattle.c_meaning.specs.Words.{conversion, as_used, is_other_pointer, is_struct_value}
use Rattle.lower_relation.specs.Paths.{Graph, Path, Emitted}
use Rattle.lower_relation.specs.Values as v
use Rattle.compiler_exists.specs.Built.{Builds}
use Rattle.lower_nodes.specs.Ends.{one_end}
use Rattle.compiler_exists.specs.Emits.{BuildsAll}
use Rattle.compiler_exists.proofs.Building.{◌before◌, does, fits, nothing, stuck, tests}

pub converts : (change : Conversion) → Builds one_end (λ G. v.Converts G change) 2
converts Keep = fits nothing (omega arith)
converts (To kind) = fits (does (node.Convert kind) (λ k. refl)) (omega arith)
converts Misfit = stuck

pub converts_below : (change : Conversion) → Builds one_end (λ G. v.ConvertsBelow G change) 3
converts_below Keep = fits nothing (omega arith)
converts_below (To kind) =
    fits (does node.Swap (λ k. refl) before does (node.Convert kind) (λ k. refl) before does node.Swap (λ k. refl)) (omega arith)
converts_below Misfit = fits stuck (omega arith)

pub handed : (of : Option ValueType) → Builds one_end (λ G. v.HandedOverAs G of) 3
handed (Some (type.Number kind)) = fits (does (node.Convert kind) (λ k. refl)) (omega arith)
handed (Some (type.Pointer size)) =
    fits (does node.Dup (λ k. refl) before does (node.Sole unary.Not) (λ k. refl) before does node.Drop (λ k. refl)) (omega arith)
handed of = fits stuck (omega arith)

pub load : (of : Option ValueType) → Builds one_end (λ G. v.LoadAt G of) 2
load (Some (type.Number kind)) = fits (does (node.Load (want.Number kind)) (λ k. refl)) (omega arith)
load (Some (type.Pointer size)) = fits (does (node.Load want.Pointer) (λ k. refl)) (omega arith)
load (Some (type.Array size)) = fits nothing (omega arith)
load of = stuck

pub dropped : {R : Graph → Path ℕ} {a : ℕ} → Builds one_end R a → Builds one_end (λ G. v.DroppedValue G (R G)) (a + 1)
dropped r = r before does node.Drop (λ k. refl)

pub discarded : (is_struct : Bool) (of : Option ValueType) → Builds one_end (λ G. v.DiscardedPlace G is_struct of) 3
discarded true of = fits (does node.Drop (λ k. refl)) (omega arith)
discarded false of = dropped (load of)

pub fits_all : {m : Graph → Emitted} {a b : ℕ} → BuildsAll m a → a ≤ b → BuildsAll m b
fits_all r le = record { value = fits r.value le; place = fits r.place le; effect = fits r.effect le; truth = fits r.truth le }

pub valued : {R : Graph → Path ℕ} {a n : ℕ} → Builds one_end R a → (a + 1 ≤ n) × (2 ≤ n) → BuildsAll (λ G. v.EmittedValue G (R G)) n
valued r le = record {
  value = fits r (omega (arith, le.0));
  place = fits stuck le.1;
  effect = fits (dropped r) le.0;
  truth = fits (tests r) le.0;
}

pub placed : {P : Graph → Path ℕ} {a n : ℕ} (of : Option ValueType) → Builds one_end P a → a + 3 ≤ n → BuildsAll (λ G. v.EmittedPlace G of (P G)) n
placed of p le = record {
  value = fits (p before load of) (omega (arith, le));
  place = fits p (omega (arith, le));
  effect = fits (p before discarded (is_struct_value of) of) le;
  truth = fits (tests (p before load of)) (omega (arith, le));
}

pub effected : {R : Graph → Path ℕ} {a n : ℕ} → Builds one_end R a → (a ≤ n) × (2 ≤ n) → BuildsAll (λ G. v.EmittedEffect G (R G)) n
effected r le = record { value = fits stuck le.1; place = fits stuck le.1; effect = fits r le.0; truth = fits stuck le.1 }

pub null_or : {m : Graph → Emitted} {a : ℕ} (is_null : Bool) → BuildsAll m a → 1 ≤ a → Builds one_end (λ G. v.NullOr G is_null (m G)) a
null_or true r le = fits (does node.Null (λ k. refl)) le
null_or false r le = r.value

pub wanted : {m : Graph → Emitted} {a : ℕ} (is_null : Bool) (have want : Option ValueType) → BuildsAll m a →
    Builds one_end (λ G. v.WantedValue G is_null have want (m G)) (a + 2)
wanted true have want r = fits (does node.Null (λ k. refl)) (omega arith)
wanted false have want r = r.value before converts (conversion have want)

arm_as : (other : Bool) (have want : Option ValueType) → Builds one_end (λ G. v.ArmAs G other have want) 3
arm_as true have want = handed want
arm_as false have want = fits (converts (conversion have want)) (omega arith)

pub arm : {m : Graph → Emitted} {a : ℕ} (is_null : Bool) (have want : Option ValueType) → BuildsAll m a →
    Builds one_end (λ G. v.ArmValue G is_null have want (m G)) (a + 3)
arm true have want r = fits (does node.Null (λ k. refl)) (omega arith)
arm false have want r = r.value before arm_as (is_other_pointer (as_used have) want) have want

pub arm_effect : {m : Graph → Emitted} {a : ℕ} (is_null : Bool) (have want : Option ValueType) → BuildsAll m a →
    Builds one_end (λ G. v.ArmEffect G is_null have want (m G)) (a + 4)
arm_effect is_null have (Some type.Void) r = fits r.effect (omega arith)
arm_effect is_null have want r = fits (dropped (arm is_null have want r)) (omega arith)

pub handed_value : {m : Graph → Emitted} {a : ℕ} (is_null : Bool) (want : Option ValueType) → BuildsAll m a →
    Builds one_end (λ G. v.HandedValue G is_null want (m G)) (a + 3)
handed_value true want r = fits (does node.Null (λ k. refl)) (omega arith)
handed_value false want r = r.value before handed want
