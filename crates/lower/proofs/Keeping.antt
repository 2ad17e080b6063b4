-- A graph that keeps all nodes but needless visits does what the other one does.
use Rattle.std.proofs.Common.{ℕ, zero, suc, inl, inr, sym, subst, List, [], ◌∷◌, Option, Some, None, Bool, true, false, length}
use Rattle.std.specs.Prelude.{◌==◌, ◌||◌, negsuc, pos}
use Rattle.cbi_base.specs.Printing.{pieces_of}
use Rattle.cbi_base.specs.declared.scalar.Kind.TheVariants.{Int, Unsigned}
use Rattle.cbi_base.specs.declared.scalar.Want.{Want}
use Rattle.cbi_base.specs.declared.scalar.Want.TheVariants as want
use Rattle.cbi_base.specs.declared.operators.Binary.TheVariants as op
use Rattle.cbi_base.specs.declared.operators.Unary.{Unary}
use Rattle.cbi_base.specs.declared.operators.Unary.TheVariants as unary
use Rattle.c_syntax.specs.declared.expr.PrefixOperator.{PrefixOperator}
use Rattle.c_syntax.specs.declared.expr.PrefixOperator.TheVariants as prefix
use Rattle.c_syntax.specs.ExprTree as e
use Rattle.c_syntax.specs.Words.{ExprTree, ExprList, LinkList, PostfixList, InitialTree, StartTree, DeclarationTree, ForStartTree, StatementTree, EntryList}
use Rattle.c_syntax.specs.StatementTree as tree
use Rattle.c_types_rules.specs.declared.library.Library.{Library}
use Rattle.c_types_rules.specs.declared.library.Library.TheVariants as library
use Rattle.c_types_expressions.specs.ExprWalk.{binary_of}
use Rattle.flow.specs.declared.node.Node.{Node}
use Rattle.flow.specs.declared.node.Node.TheVariants as node
use Rattle.flow.specs.declared.node.View.TheVariants as view
use Rattle.flow.specs.declared.program.Text.{Text}
use Rattle.flow.specs.declared.site.Slot.{Slot}
use Rattle.flow.specs.declared.site.Slot.TheVariants as slot
use Rattle.c_meaning.specs.declared.conversion.Conversion.{Conversion}
use Rattle.c_meaning.specs.declared.conversion.Conversion.TheVariants.{Keep, To, Misfit}
use Rattle.c_meaning.specs.declared.operation.Operation.{Operation}
use Rattle.c_meaning.specs.declared.operation.Operation.TheVariants.{Numbers, MoveLeft, MoveRight, Span, Ordered, Wrong}
use Rattle.c_meaning.specs.declared.value_type.Called.{Called}
use Rattle.c_meaning.specs.declared.value_type.Called.TheVariants as called
use Rattle.c_meaning.specs.declared.value_type.ValueType.{ValueType}
use Rattle.c_meaning.specs.declared.value_type.ValueType.TheVariants as type
use Rattle.c_meaning.specs.Words.{as_type, types_taken, kind_conversion, conversion, as_used, is_null_as, is_other_pointer, is_struct_value, Facts, Signature, Sites}
use Rattle.c_meaning.specs.Words.{equals_token, want_of, text_of_string, left_kind, operation, right_kind, type_given, Assignment, Plain, By, Joint, Both}
use Rattle.c_meaning.specs.Words.{Computes, Unjoined, assignment_of_sign, begins_null, called_as, expression_count, ends_as_place, first_type, has_value, is_null_beside, is_place}
use Rattle.c_meaning.specs.Words.{joint_of_sign, one_kind, operand_type, other_types, token_of, type_of, site_list, step_operation}
use Rattle.c_meaning.specs.Trees as meaning
use Rattle.lower_relation.specs.Calls as c
use Rattle.lower_relation.specs.Expressions as x
use Rattle.lower_relation.specs.Expressions.{has_more, number_of_text}
use Rattle.lower_relation.specs.Functions as f
use Rattle.lower_relation.specs.Initialisers as i
use Rattle.lower_relation.specs.Operators as o
use Rattle.lower_relation.specs.Paths.{Graph, Path, ◌then◌, Ways, Exits, Emitted, Either, OneOf, SwappedWays, Does, HaltsAt, Stuck, MarksAll, ForkTo, ValueTruth, PathOrStuck}
use Rattle.lower_relation.specs.Statements as s
use Rattle.lower_relation.specs.Statements.{StatementSequence, GoesOn}
use Rattle.lower_relation.specs.Values as v
use Rattle.lower.specs.Keeps.{AllFree, Apart, Keeps}

-- each way of the one path is one of the other
pub record Into {K : Type 0} (R S : Path K) : Type 0 where
  pub leads : (at : ℕ) (k : K) → R at k → S at k

-- the same for each path of an expression
pub record EmittedInto (m n : Emitted) : Type 0 where
  pub value : Into m.value n.value
  pub place : Into m.place n.place
  pub effect : Into m.effect n.effect
  pub truth : Into m.truth n.truth

same : {K : Type 0} {R : Path K} → Into R R
same = record { leads = λ at k h. h }

then_into : {K : Type 0} {R R' : Path ℕ} {S S' : Path K} → Into R R' → Into S S' → Into (R then S) (R' then S')
then_into a b = record { leads = λ at k h. (h.0, a.leads at h.0 h.1, b.leads h.0 k h.2) }

either_into : {K : Type 0} {D D' : Path Ways} {R R' S S' : Path K} → Into D D' → Into R R' → Into S S' → Into (Either D R S) (Either D' R' S')
either_into d a b = record { leads = λ at k h. (h.0, h.1, d.leads at _ h.2, a.leads h.0 k h.3, b.leads h.1 k h.4) }

one_of_into : {K : Type 0} {R R' S S' : Path K} → Into R R' → Into S S' → Into (OneOf R S) (OneOf R' S')
one_of_into a b = record { leads = λ at k h. elim h [ inl y ↦ inl (a.leads at k y) | inr y ↦ inr (b.leads at k y) ] }

turned_into : {D D' : Path Ways} → Into D D' → Into (SwappedWays D) (SwappedWays D')
turned_into d = record { leads = λ at k h. d.leads at _ h }

module _ (G H : Graph) (free : ℕ → Type 0) (keeps : Keeps G H free) where
  does : (node : Node) → Into (Does G node) (Does H node)
  does node = record { leads = λ at k h. keeps.kept at (view.Row node k) tt h }

  halts : {K : Type 0} (node : Node) → Into {K = K} (HaltsAt G node) (HaltsAt H node)
  halts node = record { leads = λ at k h. keeps.kept at (view.Halts node) tt h }

  stuck : {K : Type 0} → Into {K = K} (Stuck G) (Stuck H)
  stuck = record { leads = λ at k h. (h.0, keeps.kept at (view.Row _ h.0) tt h.1, keeps.kept h.0 (view.Halts node.Exit) tt h.2) }

  fork : Into (ForkTo G) (ForkTo H)
  fork = record { leads = λ at k h. keeps.kept at (view.Forks k.yes_to k.no_to) tt h }

  tests : {R R' : Path ℕ} → Into R R' → Into (ValueTruth G R) (ValueTruth H R')
  tests a = then_into a fork

  only : {K : Type 0} {R R' : Path K} (b : Bool) → Into R R' → Into (PathOrStuck G b R) (PathOrStuck H b R')
  only true a = a
  only false a = stuck

  marks : (sites : List ℕ) → AllFree free sites → Into (MarksAll G sites) (MarksAll H sites)
  marks [] are = same
  marks (site ∷ sites) are =
      then_into (record { leads = λ at k h. keeps.visit at site k are.0 h }) (marks sites are.1)

  -- the visit of a condition's site stands before its fork
  decides : (site : Option ℕ) → Into (MarksAll G (site_list site) then ForkTo G) (MarksAll H (site_list site) then ForkTo H)
  decides None = then_into same fork
  decides (Some site) = record {
    leads = λ at k h. (
      h.0,
      (h.1.0, keeps.decided at site h.1.0 k.yes_to k.no_to h.1.1 (subst (λ n. G n (view.Forks k.yes_to k.no_to)) (sym h.1.2) h.2), h.1.2),
      keeps.kept h.0 (view.Forks k.yes_to k.no_to) tt h.2,
    );
  }

  -- values
  converts : (change : Conversion) → Into (v.Converts G change) (v.Converts H change)
  converts Keep = same
  converts (To kind) = does (node.Convert kind 0)
  converts Misfit = stuck

  converts_below : (change : Conversion) → Into (v.ConvertsBelow G change) (v.ConvertsBelow H change)
  converts_below Keep = same
  converts_below (To kind) = then_into (does (node.Swap 0)) (then_into (does (node.Convert kind 0)) (does (node.Swap 0)))
  converts_below Misfit = stuck

  handed : (of : Option ValueType) → Into (v.HandedOverAs G of) (v.HandedOverAs H of)
  handed (Some (type.Number kind)) = does (node.Convert kind 0)
  handed (Some (type.Pointer size)) = then_into (does (node.Dup 0)) (then_into (does (node.Sole unary.Not 0)) (does (node.Drop 0)))
  handed of = stuck

  load : (of : Option ValueType) → Into (v.LoadAt G of) (v.LoadAt H of)
  load (Some (type.Number kind)) = does (node.Load (want.Number kind) 0)
  load (Some (type.Pointer size)) = does (node.Load want.Pointer 0)
  load (Some (type.Array size)) = same
  load of = stuck

  dropped : {R R' : Path ℕ} → Into R R' → Into (v.DroppedValue G R) (v.DroppedValue H R')
  dropped a = then_into a (does (node.Drop 0))

  discarded : (is_struct : Bool) (of : Option ValueType) → Into (v.DiscardedPlace G is_struct of) (v.DiscardedPlace H is_struct of)
  discarded true of = does (node.Drop 0)
  discarded false of = dropped (load of)

  valued : {R R' : Path ℕ} → Into R R' → EmittedInto (v.EmittedValue G R) (v.EmittedValue H R')
  valued a = record { value = a; place = stuck; effect = dropped a; truth = tests a }

  placed : (of : Option ValueType) {P P' : Path ℕ} → Into P P' → EmittedInto (v.EmittedPlace G of P) (v.EmittedPlace H of P')
  placed of a = record {
    value = then_into a (load of);
    place = a;
    effect = then_into a (discarded (is_struct_value of) of);
    truth = tests (then_into a (load of));
  }

  effected : {R R' : Path ℕ} → Into R R' → EmittedInto (v.EmittedEffect G R) (v.EmittedEffect H R')
  effected a = record { value = stuck; place = stuck; effect = a; truth = stuck }

  null_or : (is_null : Bool) {m n : Emitted} → EmittedInto m n → Into (v.NullOr G is_null m) (v.NullOr H is_null n)
  null_or true a = does (node.Null 0)
  null_or false a = a.value

  null_truth : (is_null : Bool) {m n : Emitted} → EmittedInto m n → Into (v.NullTruth G is_null m) (v.NullTruth H is_null n)
  null_truth true a = tests (does (node.Null 0))
  null_truth false a = a.truth

  wanted : (is_null : Bool) (have want : Option ValueType) {m n : Emitted} → EmittedInto m n → Into (v.WantedValue G is_null have want m) (v.WantedValue H is_null have want n)
  wanted true have want a = does (node.Null 0)
  wanted false have want a = then_into a.value (converts (conversion have want))

  arm_as : (other : Bool) (have want : Option ValueType) → Into (v.ArmAs G other have want) (v.ArmAs H other have want)
  arm_as true have want = handed want
  arm_as false have want = converts (conversion have want)

  arm : (is_null : Bool) (have want : Option ValueType) {m n : Emitted} → EmittedInto m n → Into (v.ArmValue G is_null have want m) (v.ArmValue H is_null have want n)
  arm true have want a = does (node.Null 0)
  arm false have want a = then_into a.value (arm_as (is_other_pointer (as_used have) want) have want)

  arm_effect : (is_null : Bool) (have want : Option ValueType) {m n : Emitted} → EmittedInto m n → Into (v.ArmEffect G is_null have want m) (v.ArmEffect H is_null have want n)
  arm_effect is_null have (Some type.Void) a = a.effect
  arm_effect is_null have want a = dropped (arm is_null have want a)

  handed_value : (is_null : Bool) (want : Option ValueType) {m n : Emitted} → EmittedInto m n → Into (v.HandedValue G is_null want m) (v.HandedValue H is_null want n)
  handed_value true want a = does (node.Null 0)
  handed_value false want a = then_into a.value (handed want)

  -- operators
  operates : (change : Operation) → Into (o.Operates G change) (o.Operates H change)
  operates (Numbers sign left right) =
      then_into (converts_below (kind_conversion left (left_kind sign left right))) (then_into (converts (kind_conversion right (right_kind sign left right))) (does (node.Math sign 0)))
  operates (MoveLeft size) = does (node.Move size 0)
  operates (MoveRight size) = then_into (does (node.Swap 0)) (does (node.Move size 0))
  operates (Span size) = does (node.Span size 0)
  operates (Ordered order) = does (node.Order order 0)
  operates Wrong = stuck

  variable : (at : Option Slot) → Into (o.Variable G at) (o.Variable H at)
  variable None = stuck
  variable (Some (slot.Local index)) = does (node.Local index 0)
  variable (Some (slot.Global index)) = does (node.Global index 0)

  member : (offset : Option ℕ) → Into (o.Member G offset) (o.Member H offset)
  member None = stuck
  member (Some offset) = does (node.Member offset 0)

  pointed : Into (o.PointerPlace G) (o.PointerPlace H)
  pointed = then_into (does (node.Dup 0)) (either_into fork same (does (node.Load want.Pointer 0)))

  load_through : (of : Option ValueType) → Into (o.LoadThrough G of) (o.LoadThrough H of)
  load_through (Some (type.Number kind)) = load (Some (type.Number kind))
  load_through (Some (type.Pointer size)) = load (Some (type.Pointer size))
  load_through of = then_into pointed (load of)

  through : (of : Option ValueType) {R R' : Path ℕ} → Into R R' → EmittedInto (o.EmittedIndirection G of R) (o.EmittedIndirection H of R')
  through of a = record {
    value = then_into a (load_through of);
    place = then_into a pointed;
    effect = then_into (then_into a pointed) (discarded (is_struct_value of) of);
    truth = tests (then_into a (load_through of));
  }

  settled : (known : Bool) (of : Option ValueType) → Into (o.OperandValue G known of) (o.OperandValue H known of)
  settled true of = load of
  settled false of = same

  spot : (known : Bool) {m n : Emitted} → EmittedInto m n → Into (o.PlaceOrValue G known m) (o.PlaceOrValue H known n)
  spot true a = a.place
  spot false a = a.value

  postfixed : (known : Bool) (of : Option ValueType) {R R' S S' : Path ℕ} → Into R R' → Into S S' → EmittedInto (o.Postfixed G known of R S) (o.Postfixed H known of R' S')
  postfixed true of a b = placed of a
  postfixed false of a b = record { value = a; place = stuck; effect = dropped b; truth = tests a }

  cast : (is_null : Bool) (of : Option ValueType) {m n : Emitted} → EmittedInto m n → EmittedInto (o.Cast G is_null of m) (o.Cast H is_null of n)
  cast is_null (Some type.Void) a = effected a.effect
  cast is_null of a = valued (handed_value is_null of a)

  comma : (left : ℕ) {m n k l : Emitted} → EmittedInto m n → EmittedInto k l → EmittedInto (o.Comma G left m k) (o.Comma H left n l)
  comma zero a b = a
  comma (suc left) a b = record {
    value = then_into a.effect b.value;
    place = stuck;
    effect = then_into a.effect b.effect;
    truth = one_of_into (tests (then_into a.effect b.value)) (then_into a.effect b.truth);
  }

  flagged : Into (o.TruthAsInt G) (o.TruthAsInt H)
  flagged = then_into (does (node.Sole unary.Not 0)) (does (node.Sole unary.Not 0))

  size_value : (cells : Option ℕ) → EmittedInto (o.SizeValue G cells) (o.SizeValue H cells)
  size_value None = valued stuck
  size_value (Some cells) = valued (does (node.Push Unsigned (pos cells) 0))

  one_operand : (have want : Option ValueType) (sign : Unary) → Into (o.OneOperand G have want sign) (o.OneOperand H have want sign)
  one_operand have want sign = then_into (converts (conversion have want)) (does (node.Sole sign 0))

  text_place : (number : Option ℕ) → Into (x.TextPlace G number) (x.TextPlace H number)
  text_place None = stuck
  text_place (Some number) = does (node.Text number 0)

  prints : (number : Option ℕ) (format : Option Text) (n : ℕ) {R R' : c.ArgumentsPath} → ((types : List ValueType) → Into (R types) (R' types)) →
      Into (c.PrintPath G number format n R) (c.PrintPath H number format n R')
  prints (Some number) (Some format) n a =
      only (n == length (types_taken (pieces_of format.bytes))) (then_into (a (types_taken (pieces_of format.bytes))) (does (node.Format number n 0)))
  prints None None n a = stuck
  prints None (Some format) n a = stuck
  prints (Some number) None n a = stuck

  module _ (facts : Facts) (sites : Sites) (apart : Apart free sites) where
    decided : (site : Option ℕ) {R R' : Path ℕ} {T T' : Path Ways} → Into R R' → Into T T' → Into (o.DecidesAt G facts sites site R T) (o.DecidesAt H facts sites site R' T')
    decided None a b = b
    decided (Some site) a b = then_into a (decides (Some site))

    condition_in : (token : ℕ) {R R' : Path ℕ} {T T' : Path Ways} → Into R R' → Into T T' → Into (o.Decides G facts sites token R T) (o.Decides H facts sites token R' T')
    condition_in token a b = decided (sites.branch_at token) a b

    assigned : (token : ℕ) → Into (o.Assigned G facts sites token) (o.Assigned H facts sites token)
    assigned token = then_into (does (node.Store 0)) (marks (sites.pairs_at token) (apart.pairs token))

    updates : (token : ℕ) (of : Option ValueType) (change : Operation) → Into (o.Updates G facts sites token of change) (o.Updates H facts sites token of change)
    updates token of change = then_into (operates change) (then_into (converts (conversion (type_given change of) of)) (assigned token))

    changed : (token : ℕ) (of : Option ValueType) (change : Operation) → Into (o.CompoundAssigned G facts sites token of change) (o.CompoundAssigned H facts sites token of change)
    changed token of change = then_into (does (node.Over 0)) (then_into (load of) (then_into (does (node.Swap 0)) (updates token of change)))

    stepped : (is_up : Bool) (token : ℕ) (of : Option ValueType) → Into (o.Stepped G facts sites is_up token of) (o.Stepped H facts sites is_up token of)
    stepped is_up token of =
        then_into (does (node.Dup 0)) (then_into (load of) (then_into (does (node.Push (one_kind of) (pos 1) 0)) (updates token of (step_operation is_up of))))

    stepped_behind : (is_up : Bool) (token : ℕ) (of : Option ValueType) → Into (o.SteppedBehind G facts sites is_up token of) (o.SteppedBehind H facts sites is_up token of)
    stepped_behind is_up token of =
        then_into (does (node.Dup 0)) (then_into (load of) (then_into (does (node.Swap 0)) (then_into (does (node.Over 0))
        (then_into (does (node.Push (one_kind of) (pos 1) 0)) (then_into (operates (step_operation is_up of))
        (then_into (converts (conversion (type_given (step_operation is_up of) of) of)) (then_into (assigned token) (does (node.Drop 0)))))))))

    stepped_as : (taken is_up : Bool) (token : ℕ) (of : Option ValueType) → Into (o.SteppedAs G facts sites taken is_up token of) (o.SteppedAs H facts sites taken is_up token of)
    stepped_as true is_up token of = stepped_behind is_up token of
    stepped_as false is_up token of = stepped is_up token of

    linked : (link : Joint) (token : ℕ) (left right : Option ValueType) {R R' : Path ℕ} → Into R R' →
        Into (o.Linked G facts sites link token left right R) (o.Linked H facts sites link token left right R')
    linked Both token left right a = either_into (decides (sites.branch_at token)) (then_into a flagged) (does (node.Push Int (pos 0) 0))
    linked meaning.Either token left right a = either_into (decides (sites.branch_at token)) (does (node.Push Int (pos 1) 0)) (then_into a flagged)
    linked (Computes sign) token left right a = then_into a (operates (operation sign left right))
    linked Unjoined token left right a = stuck

    linked_truth : (link : Joint) (token : ℕ) (left right : Option ValueType) {R R' S S' : Path ℕ} {T T' U U' : Path Ways} →
        Into R R' → Into T T' → Into S S' → Into U U' →
        Into (o.LinkedTruth G facts sites link token left right R T S U) (o.LinkedTruth H facts sites link token left right R' T' S' U')
    linked_truth Both token left right r t a u = either_into (condition_in token r t) u same
    linked_truth meaning.Either token left right r t a u = either_into (condition_in token r t) same u
    linked_truth (Computes sign) token left right r t a u = tests (then_into r (then_into a (operates (operation sign left right))))
    linked_truth Unjoined token left right r t a u = then_into r stuck

    assign : (token : ℕ) (how : Assignment) (is_null : Bool) (left right : Option ValueType) {g h m n : Emitted} → EmittedInto g h → EmittedInto m n →
        Into (o.Assign G facts sites token how is_null left right g m) (o.Assign H facts sites token how is_null left right h n)
    assign token Plain is_null left right a b = then_into a.place (then_into (wanted is_null right left b) (assigned token))
    assign token (By sign) is_null left right a b = then_into a.place (then_into b.value (changed token left (operation sign left right)))

    conditional : (token : ℕ) {m n : Emitted} {R R' S S' E E' F F' : Path ℕ} → EmittedInto m n → Into R R' → Into S S' → Into E E' → Into F F' →
        EmittedInto (o.Conditional G facts sites token m R S E F) (o.Conditional H facts sites token n R' S' E' F')
    conditional token c a b d k =
        let holds = condition_in token c.value c.truth in
        record { value = either_into holds a b; place = stuck; effect = either_into holds d k; truth = tests (either_into holds a b) }

    negated : {m n : Emitted} → EmittedInto m n → EmittedInto (o.Negated G facts sites m) (o.Negated H facts sites n)
    negated a =
        let value = then_into a.value (does (node.Sole unary.Not 0)) in
        record { value = value; place = stuck; effect = dropped value; truth = one_of_into (tests value) (turned_into a.truth) }

    prefixed : (token : ℕ) (operator : PrefixOperator) (of : Option ValueType) (cells : Option ℕ) {m n : Emitted} → EmittedInto m n →
        EmittedInto (o.Prefixed G facts sites token operator of cells m) (o.Prefixed H facts sites token operator of cells n)
    prefixed token prefix.Increment of cells a = valued (then_into a.place (stepped true token of))
    prefixed token prefix.Decrement of cells a = valued (then_into a.place (stepped false token of))
    prefixed token prefix.Address of cells a = valued a.place
    prefixed token prefix.Indirection of cells a = through (facts.type_at token) a.value
    prefixed token prefix.Plus of cells a = valued (then_into a.value (handed (facts.type_at token)))
    prefixed token prefix.Minus of cells a = valued (then_into a.value (one_operand of (facts.type_at token) unary.Neg))
    prefixed token prefix.Complement of cells a = valued (then_into a.value (one_operand of (facts.type_at token) unary.Com))
    prefixed token prefix.Not of cells a = negated a
    prefixed token prefix.SizeOf of cells a = size_value cells

    -- calls
    returned : (token : ℕ) {R R' : Path ℕ} → Into R R' → EmittedInto (c.Returned G facts sites token R) (c.Returned H facts sites token R')
    returned token a = valued (then_into a (marks (site_list (sites.return_at token)) (apart.returns token)))

    with_result : (token : ℕ) (has : Bool) {R R' : Path ℕ} → Into R R' → EmittedInto (c.WithResult G facts sites token has R) (c.WithResult H facts sites token has R')
    with_result token true a = returned token a
    with_result token false a = effected a

    calls : (number : ℕ) → Into (λ at k. G at (view.Calls number k)) (λ at k. H at (view.Calls number k))
    calls number = record { leads = λ at k h. keeps.kept at (view.Calls number k) tt h }

    call_function : (token number : ℕ) (signature : Option Signature) (n : ℕ) {R R' : c.ArgumentsPath} → ((types : List ValueType) → Into (R types) (R' types)) →
        EmittedInto (c.CallFunction G facts sites token number signature n R) (c.CallFunction H facts sites token number signature n R')
    call_function token number None n a = valued stuck
    call_function token number (Some one) n a =
        with_result token (has_value one.result) (only (n == length one.params) (then_into (a one.params) (calls number)))

    call_library : (token : ℕ) (function : Library) (n : ℕ) {A A' : c.ArgumentPath} {P P' : Path ℕ} →
        ((want : Option ValueType → Option ValueType) → Into (A want) (A' want)) → Into P P' →
        EmittedInto (c.CallLibrary G facts sites token function n A P) (c.CallLibrary H facts sites token function n A' P')
    call_library token library.Getchar n a p = returned token (only (n == 0) (does (node.Get 0)))
    call_library token library.Putchar n a p = valued (then_into (a (as_type (type.Number Int))) (does (node.Put 0)))
    call_library token library.Puts n a p = valued (then_into (a (as_type (type.Pointer 1))) (does (node.Puts 0)))
    call_library token library.Malloc n a p = returned token (then_into (a (as_type (type.Number Unsigned))) (does (node.Alloc 0)))
    call_library token library.Free n a p = effected (then_into (a (as_type (type.Pointer 0))) (does (node.Free 0)))
    call_library token library.Exit n a p = effected (then_into (a (as_type (type.Number Int))) (halts node.Exit))
    call_library token library.Abort n a p = effected (only (n == 0) (halts node.Abort))
    call_library token library.Assert n a p = effected (then_into (a as_used) (does (node.Check 0)))
    call_library token library.Printf n a p = effected p

    call_does : (token : ℕ) (callee : Called) (n : ℕ) {R R' : c.ArgumentsPath} {A A' : c.ArgumentPath} {P P' : Path ℕ} →
        ((types : List ValueType) → Into (R types) (R' types)) → ((want : Option ValueType → Option ValueType) → Into (A want) (A' want)) → Into P P' →
        EmittedInto (c.CallDoes G facts sites token callee n R A P) (c.CallDoes H facts sites token callee n R' A' P')
    call_does token (called.Function number) n a b p = call_function token number (facts.signature number) n a
    call_does token (called.Library function) n a b p = call_library token function n b p
    call_does token called.Unknown n a b p = valued stuck

    -- expressions
    chain : (is_null : Bool) (of : Option ValueType) {m n : Emitted} {L L' : Option ValueType → Path ℕ}
        {T T' : Option ValueType → Path ℕ → Path Ways → Path Ways} → EmittedInto m n → ((left : Option ValueType) → Into (L left) (L' left)) →
        ((left : Option ValueType) (R R' : Path ℕ) (U U' : Path Ways) → Into R R' → Into U U' → Into (T left R U) (T' left R' U')) →
        EmittedInto (x.ChainDoes G is_null of m L T) (x.ChainDoes H is_null of n L' T')
    chain is_null of a links truths =
        let value = then_into (null_or is_null a) (links (operand_type is_null of)) in
        record {
          value = value;
          place = stuck;
          effect = dropped value;
          truth = one_of_into (tests value) (truths (operand_type is_null of) _ _ _ _ (null_or is_null a) (null_truth is_null a));
        }

    abbrev OperandsInto : LinkList → Type 0
    OperandsInto e.no_links = Unit {0}
    OperandsInto (e.more_links token sign operand rest) = EmittedInto (x.emitted_expression G facts sites operand) (x.emitted_expression H facts sites operand) × OperandsInto rest

    links_hold : (left : Option ValueType) (links : LinkList) → OperandsInto links → {R R' : Path ℕ} {T T' : Path Ways} → Into R R' → Into T T' →
        Into (x.LinksHold G facts sites left R T links) (x.LinksHold H facts sites left R' T' links)
    links_hold left e.no_links all r t = t
    links_hold left (e.more_links token sign operand rest) all r t =
        let operand_value = null_or (is_null_beside (binary_of sign) left operand) all.0 in
        let right = operand_type (is_null_beside (binary_of sign) left operand) (type_of facts operand) in
        links_hold (facts.type_at token) rest all.1 (then_into r (linked (joint_of_sign sign) token left right operand_value))
        (linked_truth (joint_of_sign sign) token left right r t operand_value (null_truth (is_null_beside (binary_of sign) left operand) all.0))

    mutual
      pub expression : (y : ExprTree) → EmittedInto (x.emitted_expression G facts sites y) (x.emitted_expression H facts sites y)
      expression (e.Comma token parts) = last parts
      expression (e.Assign token sign target value) =
          valued (assign token (assignment_of_sign sign) (is_null_as (type_of facts target) value) (type_of facts target) (type_of facts value) (expression target) (expression value))
      expression (e.Conditional token condition first second) =
          conditional token (expression condition)
          (arm (is_null_as (facts.type_at token) first) (type_of facts first) (facts.type_at token) (expression first))
          (arm (is_null_as (facts.type_at token) second) (type_of facts second) (facts.type_at token) (expression second))
          (arm_effect (is_null_as (facts.type_at token) first) (type_of facts first) (facts.type_at token) (expression first))
          (arm_effect (is_null_as (facts.type_at token) second) (type_of facts second) (facts.type_at token) (expression second))
      expression (e.Chain level first links) =
          chain (begins_null facts first links) (type_of facts first) (expression first) (λ left. links_do left links)
          (λ left R R' U U' r t. links_hold left links (operands links) r t)
      expression (e.Cast token base stars operand) = cast (is_null_as (facts.type_at token) operand) (facts.type_at token) (expression operand)
      expression (e.Prefix token operator operand) =
          prefixed token operator (type_of facts operand) (facts.cells_at (token_of operand)) (expression operand)
      expression (e.SizeOfType token base stars) = size_value (facts.named_cells base stars)
      expression (e.Postfix primary operators) =
          postfixed (ends_as_place (is_place primary) operators) (type_of facts (e.Postfix primary operators))
          (then_into (spot (is_place primary) (expression primary)) (behind true (is_place primary) (type_of facts primary) operators))
          (then_into (spot (is_place primary) (expression primary)) (behind false (is_place primary) (type_of facts primary) operators))
      expression (e.Name token name) = placed (facts.type_at token) (variable (facts.slot_at token))
      expression (e.Call token name values) =
          call_does token (called_as (facts.function_at token) name) (expression_count values) (λ types. arguments types values) (λ want. lone want values) (formatted values)
      expression (e.Constant token kind value) = valued (does (node.Push kind value 0))
      expression (e.Strings token parts) = valued (text_place (facts.text_at token))
      expression (e.Paren token inner) = expression inner
      expression (e.Null token) = valued (does (node.Null 0))
      expression (e.EndOfFile token) = valued (does (node.Push Int (negsuc 0) 0))

      behind : (taken known : Bool) (of : Option ValueType) (y : PostfixList) → Into (x.PostfixOperatorsDo G facts sites taken known of y) (x.PostfixOperatorsDo H facts sites taken known of y)
      behind taken known of e.no_postfix = same
      behind taken known of (e.index token index rest) =
          then_into (settled known of) (then_into (expression index).value (then_into (operates (operation op.Add of (type_of facts index)))
          (behind taken true (facts.type_at token) rest)))
      behind taken known of (e.member token name rest) = then_into (member (facts.offset_at token)) (behind taken true (facts.type_at token) rest)
      behind taken known of (e.arrow token name rest) =
          then_into (settled known of) (then_into (member (facts.offset_at token)) (behind taken true (facts.type_at token) rest))
      behind taken known of (e.increment token rest) =
          then_into (only known (stepped_as (taken || has_more rest) true token of)) (behind taken false (facts.type_at token) rest)
      behind taken known of (e.decrement token rest) =
          then_into (only known (stepped_as (taken || has_more rest) false token of)) (behind taken false (facts.type_at token) rest)

      links_do : (left : Option ValueType) (y : LinkList) → Into (x.LinksDo G facts sites left y) (x.LinksDo H facts sites left y)
      links_do left e.no_links = same
      links_do left (e.more_links token sign operand rest) =
          then_into (linked (joint_of_sign sign) token left (operand_type (is_null_beside (binary_of sign) left operand) (type_of facts operand))
          (null_or (is_null_beside (binary_of sign) left operand) (expression operand))) (links_do (facts.type_at token) rest)

      operands : (y : LinkList) → OperandsInto y
      operands e.no_links = tt
      operands (e.more_links token sign operand rest) = (expression operand, operands rest)

      last : (y : ExprList) → EmittedInto (x.CommaDoes G facts sites y) (x.CommaDoes H facts sites y)
      last e.no_exprs = valued stuck
      last (e.more_exprs first rest) = comma (expression_count rest) (expression first) (last rest)

      arguments : (types : List ValueType) (y : ExprList) → Into (x.ArgumentsDo G facts sites types y) (x.ArgumentsDo H facts sites types y)
      arguments types e.no_exprs = same
      arguments types (e.more_exprs first rest) =
          then_into (handed_value (is_null_as (first_type types) first) (first_type types) (expression first)) (arguments (other_types types) rest)

      lone : (want : Option ValueType → Option ValueType) (y : ExprList) → Into (x.OneArgumentDoes G facts sites want y) (x.OneArgumentDoes H facts sites want y)
      lone want e.no_exprs = stuck
      lone want (e.more_exprs first rest) =
          only (expression_count rest == 0) (handed_value (is_null_as (want (type_of facts first)) first) (want (type_of facts first)) (expression first))

      formatted : (y : ExprList) → Into (x.FormatDoes G facts sites y) (x.FormatDoes H facts sites y)
      formatted e.no_exprs = stuck
      formatted (e.more_exprs first rest) = prints (number_of_text facts first) (text_of_string facts first) (expression_count rest) (λ types. arguments types rest)

    condition : (token : ℕ) (y : ExprTree) → Into (x.Condition G facts sites token y) (x.Condition H facts sites token y)
    condition token y = condition_in token (expression y).value (expression y).truth

    -- initialisers
    on_local : (at : Option Slot) {R R' : ℕ → Path ℕ} → ((index : ℕ) → Into (R index) (R' index)) → Into (i.OnLocal G at R) (i.OnLocal H at R')
    on_local None a = stuck
    on_local (Some (slot.Global index)) a = stuck
    on_local (Some (slot.Local index)) a = a index

    clears : (index : ℕ) → Into (i.Clears G index) (i.Clears H index)
    clears index = does (node.Clear index 0)

    zeroes : (kind : Option Want) (index : ℕ) → Into (i.Zeroes G kind index) (i.Zeroes H kind index)
    zeroes None index = stuck
    zeroes (Some kind) index = does (node.Zero index kind 0)

    spells : (number : Option ℕ) (text : Option Text) (index : ℕ) → Into (i.Spells G number text index) (i.Spells H number text index)
    spells (Some number) (Some text) index = does (node.Spell index number 0)
    spells None None index = stuck
    spells None (Some text) index = stuck
    spells (Some number) None index = stuck

    scalar : (token : ℕ) (value : ExprTree) → Into (i.ScalarSet G facts sites token value) (i.ScalarSet H facts sites token value)
    scalar token value =
        then_into (variable (facts.slot_at token))
        (then_into (wanted (is_null_as (facts.declared_at token) value) (type_of facts value) (facts.declared_at token) (expression value))
        (dropped (assigned (equals_token token))))

    element : (token index : ℕ) (value : ExprTree) → Into (i.ElementSet G facts sites token index value) (i.ElementSet H facts sites token index value)
    element token index value =
        then_into (variable (facts.slot_at token)) (then_into (member (Some index))
        (then_into (wanted (is_null_as (facts.element_at token) value) (type_of facts value) (facts.element_at token) (expression value))
        (dropped (does (node.Store 0)))))

    elements : (token index : ℕ) (y : ExprList) → Into (i.ElementsSet G facts sites token index y) (i.ElementsSet H facts sites token index y)
    elements token index e.no_exprs = same
    elements token index (e.more_exprs value rest) = then_into (element token index value) (elements token (suc index) rest)

    zeroed : (token : ℕ) → Into (i.ArrayZeroed G facts sites token) (i.ArrayZeroed H facts sites token)
    zeroed token = on_local (facts.slot_at token) (zeroes (want_of (facts.element_at token)))

    value_set : (token : ℕ) (of : Option ValueType) (value : ExprTree) → Into (i.ValueSet G facts sites token of value) (i.ValueSet H facts sites token of value)
    value_set token (Some (type.Array size)) value = then_into (zeroed token) (on_local (facts.slot_at token) (spells (number_of_text facts value) (text_of_string facts value)))
    value_set token of value = scalar token value

    initialised : (token : ℕ) (y : Option InitialTree) → Into (i.Initialised G facts sites token y) (i.Initialised H facts sites token y)
    initialised token None = same
    initialised token (Some (tree.Value value)) = value_set token (facts.declared_at token) value
    initialised token (Some (tree.Braced at items comma)) = then_into (zeroed token) (elements token 0 items)

    starts : (y : StartTree) → Into (i.VariableStarts G facts sites y) (i.VariableStarts H facts sites y)
    starts y = then_into (on_local (facts.slot_at y.declarator.name_token) clears) (initialised y.declarator.name_token y.initial)

    all_start : (ys : List StartTree) → Into (i.VariablesStart G facts sites ys) (i.VariablesStart H facts sites ys)
    all_start [] = same
    all_start (y ∷ ys) = then_into (starts y) (all_start ys)

    declares : (d : DeclarationTree) → Into (i.DeclarationPath G facts sites d) (i.DeclarationPath H facts sites d)
    declares d = all_start d.starts

    -- statements
    optional_effect : (y : Option ExprTree) → Into (s.OptionalEffect G facts sites y) (s.OptionalEffect H facts sites y)
    optional_effect None = same
    optional_effect (Some y) = (expression y).effect

    optional_condition : (token : ℕ) (y : Option ExprTree) → Into (s.OptionalCondition G facts sites token y) (s.OptionalCondition H facts sites token y)
    optional_condition token None = same
    optional_condition token (Some y) = condition token y

    for_starts : (y : ForStartTree) → Into (s.ForStartPath G facts sites y) (s.ForStartPath H facts sites y)
    for_starts (tree.Declares d) = declares d
    for_starts (tree.Computes y) = optional_effect y

    while_in : {C C' : Path Ways} {B B' : Path Exits} → Into C C' → Into B B' → Into (s.WhileLoop G C B) (s.WhileLoop H C' B')
    while_in c b = record { leads = λ at k h. (h.0, h.1, c.leads at _ h.2, b.leads h.0 _ h.3, keeps.kept h.1 (view.Turns at) tt h.4) }

    do_in : {C C' : Path Ways} {B B' : Path Exits} → Into C C' → Into B B' → Into (s.DoWhileLoop G C B) (s.DoWhileLoop H C' B')
    do_in c b = record { leads = λ at k h. (h.0, h.1, b.leads at _ h.2, c.leads h.0 _ h.3, keeps.kept h.1 (view.Turns at) tt h.4) }

    for_in : {C C' : Path Ways} {S S' : Path ℕ} {B B' : Path Exits} → Into C C' → Into S S' → Into B B' → Into (s.ForLoop G C S B) (s.ForLoop H C' S' B')
    for_in c t b = record {
      leads = λ at k h. (h.0, h.1, h.2, c.leads at _ h.3, b.leads h.0 _ h.4, t.leads h.2 h.1 h.5, keeps.kept h.1 (view.Turns at) tt h.6);
    }

    before_in : {R R' S S' : Path Exits} → Into R R' → Into S S' → Into (StatementSequence R S) (StatementSequence R' S')
    before_in a b = record { leads = λ at k h. (h.0, a.leads at _ h.1, b.leads h.0 k h.2) }

    effect_in : {R R' : Path ℕ} → Into R R' → Into {K = Exits} (λ at k. R at k.next) (λ at k. R' at k.next)
    effect_in a = record { leads = λ at k h. a.leads at k.next h }

    return_in : (result : ValueType) (y : Option ExprTree) → Into (s.ReturnPath G facts sites result y) (s.ReturnPath H facts sites result y)
    return_in result None = record { leads = λ at k h. h }
    return_in result (Some y) = record {
      leads = λ at k h. (wanted (is_null_as (Some result) y) (type_of facts y) (Some result) (expression y)).leads at k.gives h;
    }

    mutual
      statement : (result : ValueType) (y : StatementTree) → Into (s.StatementDoes G facts sites result y) (s.StatementDoes H facts sites result y)
      statement result (tree.Block token entries) = record { leads = λ at k h. (all_entries result entries).leads at k h }
      statement result (tree.Empty token) = record { leads = λ at k h. h }
      statement result (tree.Expr token y) = record { leads = λ at k h. (expression y).effect.leads at k.next h }
      statement result (tree.If token y first) = record { leads = λ at k h. (either_into {S = GoesOn} {S' = GoesOn} (condition token y) (statement result first) same).leads at k h }
      statement result (tree.IfElse token y first second) =
          record { leads = λ at k h. (either_into (condition token y) (statement result first) (statement result second)).leads at k h }
      statement result (tree.While token y body) = record { leads = λ at k h. (while_in (condition token y) (statement result body)).leads at k h }
      statement result (tree.Do token body y) = record { leads = λ at k h. (do_in (condition token y) (statement result body)).leads at k h }
      statement result (tree.For token start y third body) = record {
        leads = λ at k h. (then_into (for_starts start) (for_in (optional_condition token y) (optional_effect third) (statement result body))).leads at k h;
      }
      statement result (tree.Return token y) = record { leads = λ at k h. (return_in result y).leads at k h }
      statement result (tree.Break token) = record { leads = λ at k h. h }
      statement result (tree.Continue token) = record { leads = λ at k h. h }

      pub all_entries : (result : ValueType) (ys : EntryList) → Into (s.EntriesDo G facts sites result ys) (s.EntriesDo H facts sites result ys)
      all_entries result tree.no_entries = record { leads = λ at k h. h }
      all_entries result (tree.declared d rest) = record { leads = λ at k h. (then_into (declares d) (all_entries result rest)).leads at k h }
      all_entries result (tree.stated y rest) = record { leads = λ at k h. (before_in (statement result y) (all_entries result rest)).leads at k h }

    -- functions
    pub body_into : (result : ValueType) (body : Option EntryList) → Into (f.BodyDoes G facts sites result body) (f.BodyDoes H facts sites result body)
    body_into result None = record { leads = λ at k h. stuck.leads at k h }
    body_into result (Some body) = record { leads = λ at k h. (all_entries result body).leads at k h }

  gives_into : (value : Bool) (at : ℕ) → f.GivesAt G value at → f.GivesAt H value at
  gives_into true at h = keeps.kept at view.Gives tt h
  gives_into false at h = (stuck {K = ℕ}).leads at 0 h

  ends_into : (is_main value : Bool) (k : Exits) → f.EndsAt G is_main value k → f.EndsAt H is_main value k
  ends_into true true k h = keeps.kept k.next (view.Row _ k.gives) tt h
  ends_into true false k h = h
  ends_into false value k h = h

  pub leaves_into : (is_main value : Bool) (k : Exits) → f.FunctionExits G is_main value k → f.FunctionExits H is_main value k
  leaves_into is_main value k h = (
    gives_into value k.gives h.0,
    keeps.kept k.leaves view.Quits tt h.1,
    ends_into is_main value k h.2,
    (stuck {K = ℕ}).leads k.breaks 0 h.3,
    (stuck {K = ℕ}).leads k.continues 0 h.4,
  )

  pub comes_into : (at k : ℕ) → f.ComesTo G at k → f.ComesTo H at k
  comes_into at k (f.Stays e) = f.Stays e
  comes_into at k (f.Passes h) = f.Passes (keeps.kept at (view.Row (node.Pass 0) k) tt h)
