-- Nodes for each operator.
use Rattle.std.proofs.Common.{ℕ, zero, suc, ◌+◌, ◌≤◌, refl, arith, Option, Some, None, Bool, true, false, [], ◌∷◌, length}
use Rattle.std.specs.Prelude.{pos}
use Rattle.cbi_base.specs.declared.scalar.Kind.TheVariants.{Int, Unsigned}
use Rattle.cbi_base.specs.declared.scalar.Want.TheVariants as want
use Rattle.cbi_base.specs.declared.operators.Unary.{Unary}
use Rattle.cbi_base.specs.declared.operators.Unary.TheVariants as unary
use Rattle.c_syntax.specs.declared.expr.PrefixOperator.{PrefixOperator}
use Rattle.c_syntax.specs.declared.expr.PrefixOperator.TheVariants as prefix
use Rattle.flow.specs.declared.node.Node.TheVariants as node
use Rattle.flow.specs.declared.site.Slot.{Slot}
use Rattle.flow.specs.declared.site.Slot.TheVariants as slot
use Rattle.c_meaning.specs.declared.operation.Operation.{Operation}
use Rattle.c_meaning.specs.declared.operation.Operation.TheVariants.{Numbers, MoveLeft, MoveRight, Span, Ordered, Wrong}
use Rattle.c_meaning.specs.declared.value_type.ValueType.{ValueType}
use Rattle.c_meaning.specs.declared.value_type.ValueType.TheVariants as type
use Rattle.c_meaning.specs.Words.{kind_conversion, conversion, is_struct_value, Facts, Sites, left_kind, operation, right_kind, type_given, Assignment, Plain, By}
use Rattle.c_meaning.specs.Words.{Joint, Both, Computes, Unjoined, one_kind, site_list, step_operation}
use Rattle.c_meaning.specs.Trees as meaning
use Rattle.lower_relation.specs.Operators as o
use Rattle.lower_relation.specs.Paths.{Graph, Path, Emitted, Ways}
use Rattle.lower_relation.specs.Room.{branch_visits, pair_visits}
use Rattle.compiler_exists.specs.Built.{Builds}
use Rattle.lower_nodes.specs.Ends.{one_end, two_ends}
use Rattle.compiler_exists.specs.Emits.{BuildsAll}
use Rattle.compiler_exists.proofs.Building.{◌before◌, does, either, first_of_two, fits, fork, marks, nothing, second_of_two, stuck, tests}
use Rattle.compiler_exists.proofs.Values.{converts, converts_below, discarded, dropped, effected, fits_all, handed, handed_value, load, placed, valued, wanted}

pub operates : (change : Operation) → Builds one_end (λ G. o.Operates G change) 6
operates (Numbers sign left right) =
    fits (converts_below (kind_conversion left (left_kind sign left right)) before converts (kind_conversion right (right_kind sign left right))
    before does (node.Math sign) (λ k. refl)) (omega arith)
operates (MoveLeft size) = fits (does (node.Move size) (λ k. refl)) (omega arith)
operates (MoveRight size) = fits (does node.Swap (λ k. refl) before does (node.Move size) (λ k. refl)) (omega arith)
operates (Span size) = fits (does (node.Span size) (λ k. refl)) (omega arith)
operates (Ordered order) = fits (does (node.Order order) (λ k. refl)) (omega arith)
operates Wrong = fits stuck (omega arith)

pub variable : (at : Option Slot) → Builds one_end (λ G. o.Variable G at) 2
variable None = stuck
variable (Some (slot.Local index)) = fits (does (node.Local index) (λ k. refl)) (omega arith)
variable (Some (slot.Global index)) = fits (does (node.Global index) (λ k. refl)) (omega arith)

pub member : (offset : Option ℕ) → Builds one_end (λ G. o.Member G offset) 2
member None = stuck
member (Some offset) = fits (does (node.Member offset) (λ k. refl)) (omega arith)

pointed : Builds one_end (λ G. o.PointerPlace G) 3
pointed = fits (does node.Dup (λ k. refl) before either fork nothing (does (node.Load want.Pointer) (λ k. refl))) (omega arith)

load_through : (of : Option ValueType) → Builds one_end (λ G. o.LoadThrough G of) 5
load_through (Some (type.Number kind)) = fits (load (Some (type.Number kind))) (omega arith)
load_through (Some (type.Pointer size)) = fits (load (Some (type.Pointer size))) (omega arith)
load_through of = pointed before load of

through : {R : Graph → Path ℕ} {a n : ℕ} (of : Option ValueType) → Builds one_end R a → a + 6 ≤ n → BuildsAll (λ G. o.EmittedIndirection G of (R G)) n
through of r le = record {
  value = fits (r before load_through of) (omega (arith, le));
  place = fits (r before pointed) (omega (arith, le));
  effect = fits ((r before pointed) before discarded (is_struct_value of) of) (omega (arith, le));
  truth = fits (tests (r before load_through of)) (omega (arith, le));
}

pub settled : (known : Bool) (of : Option ValueType) → Builds one_end (λ G. o.OperandValue G known of) 2
settled true of = load of
settled false of = fits nothing (omega arith)

pub spot : {m : Graph → Emitted} {a : ℕ} (known : Bool) → BuildsAll m a → Builds one_end (λ G. o.PlaceOrValue G known (m G)) a
spot true r = r.place
spot false r = r.value

pub postfixed : {R S : Graph → Path ℕ} {a n : ℕ} (known : Bool) (of : Option ValueType) → Builds one_end R a → Builds one_end S a → a + 3 ≤ n →
    BuildsAll (λ G. o.Postfixed G known of (R G) (S G)) n
postfixed true of r s le = placed of r le
postfixed false of r s le = record {
  value = fits r (omega (arith, le));
  place = fits stuck (omega (arith, le));
  effect = fits (dropped s) (omega (arith, le));
  truth = fits (tests r) (omega (arith, le));
}

pub cast : {m : Graph → Emitted} {a : ℕ} (is_null : Bool) (of : Option ValueType) → BuildsAll m a → BuildsAll (λ G. o.Cast G is_null of (m G)) (4 + a)
cast is_null (Some type.Void) r = effected r.effect (omega arith)
cast is_null of r = valued (handed_value is_null of r) (omega arith)

pub comma : {m n : Graph → Emitted} {a b : ℕ} (left : ℕ) → BuildsAll m a → BuildsAll n b → 2 ≤ a + b → BuildsAll (λ G. o.Comma G left (m G) (n G)) (a + b)
comma zero r s le = fits_all r (omega arith)
comma (suc left) r s le = record {
  value = r.effect before s.value;
  place = fits stuck le;
  effect = r.effect before s.effect;
  truth = second_of_two (r.effect before s.truth);
}

flagged : Builds one_end (λ G. o.TruthAsInt G) 2
flagged = does (node.Sole unary.Not) (λ k. refl) before does (node.Sole unary.Not) (λ k. refl)

pub size_value : {n : ℕ} (cells : Option ℕ) → 3 ≤ n → BuildsAll (λ G. o.SizeValue G cells) n
size_value None le = valued stuck (omega (arith, le))
size_value (Some cells) le = valued (does (node.Push Unsigned (pos cells)) (λ k. refl)) (omega (arith, le))

one_operand : (have want : Option ValueType) (sign : Unary) → Builds one_end (λ G. o.OneOperand G have want sign) 3
one_operand have want sign = converts (conversion have want) before does (node.Sole sign) (λ k. refl)

module _ (facts : Facts) (sites : Sites) where
  decided : (token : ℕ) → Builds two_ends (λ G. o.VisitedFork G facts sites token) (branch_visits sites token + 1)
  decided token = marks (site_list (sites.branch_at token)) before fork

  decided_at : {R : Graph → Path ℕ} {T : Graph → Path Ways} {a : ℕ} (site : Option ℕ) → Builds one_end R a → Builds two_ends T a →
      Builds two_ends (λ G. o.DecidesAt G facts sites site (R G) (T G)) (a + length (site_list site) + 1)
  decided_at None r t = fits t (omega arith)
  decided_at (Some site) r t = fits (r before marks (site ∷ []) before fork) (omega arith)

  pub decides : {R : Graph → Path ℕ} {T : Graph → Path Ways} {a : ℕ} (token : ℕ) → Builds one_end R a → Builds two_ends T a →
      Builds two_ends (λ G. o.Decides G facts sites token (R G) (T G)) (a + branch_visits sites token + 1)
  decides token r t = decided_at (sites.branch_at token) r t

  pub assigned : (token : ℕ) → Builds one_end (λ G. o.Assigned G facts sites token) (1 + pair_visits sites token)
  assigned token = does node.Store (λ k. refl) before marks (sites.pairs_at token)

  updates : (token : ℕ) (of : Option ValueType) (change : Operation) → Builds one_end (λ G. o.Updates G facts sites token of change) (9 + pair_visits sites token)
  updates token of change = fits (operates change before converts (conversion (type_given change of) of) before assigned token) (omega arith)

  changed : (token : ℕ) (of : Option ValueType) (change : Operation) → Builds one_end (λ G. o.CompoundAssigned G facts sites token of change) (13 + pair_visits sites token)
  changed token of change =
      fits (does node.Over (λ k. refl) before load of before does node.Swap (λ k. refl) before updates token of change) (omega arith)

  stepped : (is_up : Bool) (token : ℕ) (of : Option ValueType) → Builds one_end (λ G. o.Stepped G facts sites is_up token of) (13 + pair_visits sites token)
  stepped is_up token of =
      fits (does node.Dup (λ k. refl) before load of before does (node.Push (one_kind of) (pos 1)) (λ k. refl)
      before updates token of (step_operation is_up of)) (omega arith)

  stepped_behind : (is_up : Bool) (token : ℕ) (of : Option ValueType) →
      Builds one_end (λ G. o.SteppedBehind G facts sites is_up token of) (16 + pair_visits sites token)
  stepped_behind is_up token of =
      fits (does node.Dup (λ k. refl) before load of before does node.Swap (λ k. refl) before does node.Over (λ k. refl)
      before does (node.Push (one_kind of) (pos 1)) (λ k. refl) before operates (step_operation is_up of)
      before converts (conversion (type_given (step_operation is_up of) of) of) before assigned token before does node.Drop (λ k. refl)) (omega arith)

  pub stepped_as : (taken is_up : Bool) (token : ℕ) (of : Option ValueType) →
      Builds one_end (λ G. o.SteppedAs G facts sites taken is_up token of) (16 + pair_visits sites token)
  stepped_as true is_up token of = stepped_behind is_up token of
  stepped_as false is_up token of = fits (stepped is_up token of) (omega arith)

  pub linked : {R : Graph → Path ℕ} {a : ℕ} (link : Joint) (token : ℕ) (left right : Option ValueType) → Builds one_end R a →
      Builds one_end (λ G. o.Linked G facts sites link token left right (R G)) (7 + branch_visits sites token + a)
  linked Both token left right r = fits (either (decided token) (r before flagged) (does (node.Push Int (pos 0)) (λ k. refl))) (omega arith)
  linked meaning.Either token left right r = fits (either (decided token) (does (node.Push Int (pos 1)) (λ k. refl)) (r before flagged)) (omega arith)
  linked (Computes sign) token left right r = fits (r before operates (operation sign left right)) (omega arith)
  linked Unjoined token left right r = fits stuck (omega arith)

  pub assign : {g m : Graph → Emitted} {a b : ℕ} (token : ℕ) (how : Assignment) (is_null : Bool) (left right : Option ValueType) → BuildsAll g a →
      BuildsAll m b →
      Builds one_end (λ G. o.Assign G facts sites token how is_null left right (g G) (m G)) (13 + pair_visits sites token + a + b)
  assign token Plain is_null left right r s = fits (r.place before wanted is_null right left s before assigned token) (omega arith)
  assign token (By sign) is_null left right r s = fits (r.place before s.value before changed token left (operation sign left right)) (omega arith)

  pub conditional : {m : Graph → Emitted} {R S E F : Graph → Path ℕ} {a : ℕ} (b c token : ℕ) → BuildsAll m a → Builds one_end R (b + 3) →
      Builds one_end S (c + 3) →
      Builds one_end E (b + 4) → Builds one_end F (c + 4) →
      BuildsAll (λ G. o.Conditional G facts sites token (m G) (R G) (S G) (E G) (F G)) (9 + branch_visits sites token + a + b + c)
  conditional b c token t r s d k =
      let holds = decides token t.value t.truth in
      record {
        value = fits (either holds r s) (omega arith);
        place = fits stuck (omega arith);
        effect = fits (either holds d k) (omega arith);
        truth = fits (tests (either holds r s)) (omega arith);
      }

  negated : {m : Graph → Emitted} {a n : ℕ} → BuildsAll m a → a + 2 ≤ n → BuildsAll (λ G. o.Negated G facts sites (m G)) n
  negated r le = record {
    value = fits (r.value before does (node.Sole unary.Not) (λ k. refl)) (omega (arith, le));
    place = fits stuck (omega (arith, le));
    effect = fits (dropped (r.value before does (node.Sole unary.Not) (λ k. refl))) (omega (arith, le));
    truth = fits (first_of_two (tests (r.value before does (node.Sole unary.Not) (λ k. refl)))) (omega (arith, le));
  }

  pub prefixed : {m : Graph → Emitted} {a : ℕ} (token : ℕ) (operator : PrefixOperator) (of : Option ValueType) (cells : Option ℕ) → BuildsAll m a →
      BuildsAll (λ G. o.Prefixed G facts sites token operator of cells (m G)) (14 + pair_visits sites token + a)
  prefixed token prefix.Increment of cells r = valued (r.place before stepped true token of) (omega arith)
  prefixed token prefix.Decrement of cells r = valued (r.place before stepped false token of) (omega arith)
  prefixed token prefix.Address of cells r = valued r.place (omega arith)
  prefixed token prefix.Indirection of cells r = through (facts.type_at token) r.value (omega arith)
  prefixed token prefix.Plus of cells r = valued (r.value before handed (facts.type_at token)) (omega arith)
  prefixed token prefix.Minus of cells r = valued (r.value before one_operand of (facts.type_at token) unary.Neg) (omega arith)
  prefixed token prefix.Complement of cells r = valued (r.value before one_operand of (facts.type_at token) unary.Com) (omega arith)
  prefixed token prefix.Not of cells r = negated r (omega arith)
  prefixed token prefix.SizeOf of cells r = size_value cells (omega arith)
