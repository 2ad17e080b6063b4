-- Where the types of an expression fit, each node on its paths is one that may stand in a program.
use Rattle.std.proofs.Common.{◌≡◌, ℕ, zero, suc, ◌≤◌, ◌+◌, refl, sym, subst, arith, List, [], ◌∷◌, ◌++◌, Some, None, Bool, true, false, length, length-append}
use Rattle.std.specs.Prelude.{◌==◌, ◌||◌, Option, IsTrue, negsuc, pos, slice_get}
use Rattle.std.proofs.lemmas.Bool.{eqb-true, lt-ltb}
use Rattle.cbi_base.specs.Words.{pieces_of, lies_in}
use Rattle.cbi_base.specs.declared.operators.Binary.TheVariants as op
use Rattle.cbi_base.specs.declared.operators.Unary.{Unary}
use Rattle.cbi_base.specs.declared.operators.Unary.TheVariants as unary
use Rattle.cbi_base.specs.declared.scalar.Kind.{Kind}
use Rattle.cbi_base.specs.declared.scalar.Kind.TheVariants.{Char, Int, Unsigned}
use Rattle.cbi_base.specs.declared.scalar.Want.TheVariants as want
use Rattle.c_syntax.specs.declared.expr.PrefixOperator.{PrefixOperator}
use Rattle.c_syntax.specs.declared.expr.PrefixOperator.TheVariants as prefix
use Rattle.c_syntax.specs.declared.token.Sign.TheVariants as sign
use Rattle.c_syntax.specs.ExprTree as e
use Rattle.c_syntax.specs.Words.{ExprTree, ExprList, LinkList, PostfixList, ExprAt, ExprsAt, LinksAt, PostfixAt, a_name, a_sign, expr_kinds, exprs_kinds}
use Rattle.c_syntax.specs.Words.{link_kinds, more_exprs_kinds, parenthesized_kinds, postfix_kinds, type_kinds}
use Rattle.c_types_rules.specs.declared.library.Library.{Library}
use Rattle.c_types_rules.specs.declared.library.Library.TheVariants as library
use Rattle.c_types_expressions.specs.ExprWalk.{binary_of}
use Rattle.flow.specs.declared.node.Node.{Node}
use Rattle.flow.specs.declared.node.Node.TheVariants as node
use Rattle.flow.specs.declared.node.View.TheVariants as view
use Rattle.flow.specs.declared.program.Text.{Text}
use Rattle.flow.specs.declared.scope.Bounds.{Bounds}
use Rattle.flow.specs.declared.scope.Names.{Names}
use Rattle.flow.specs.declared.site.Slot.{Slot}
use Rattle.flow.specs.declared.site.Slot.TheVariants as slot
use Rattle.flow.specs.Nodes.{is_format, names_fit, step_limit}
use Rattle.c_meaning.specs.declared.conversion.Conversion.{Conversion}
use Rattle.c_meaning.specs.declared.conversion.Conversion.TheVariants.{Keep, To, Misfit}
use Rattle.c_meaning.specs.declared.operation.Operation.{Operation}
use Rattle.c_meaning.specs.declared.operation.Operation.TheVariants.{Numbers, MoveLeft, MoveRight, Span, Ordered, Wrong}
use Rattle.c_meaning.specs.declared.value_type.Called.{Called}
use Rattle.c_meaning.specs.declared.value_type.Called.TheVariants as called
use Rattle.c_meaning.specs.declared.value_type.ValueType.{ValueType}
use Rattle.c_meaning.specs.declared.value_type.ValueType.TheVariants as type
use Rattle.c_meaning.specs.Words.{as_type, types_taken, kind_conversion, conversion, as_used, is_null_as, is_other_pointer, is_struct_value, Facts, Signature, Sites}
use Rattle.c_meaning.specs.Words.{text_of_string, left_kind, operation, right_kind, type_given, Assignment, Plain, By, Joint, Both, Computes, Unjoined}
use Rattle.c_meaning.specs.Words.{assignment_of_sign, begins_null, called_as, expression_count, ends_as_place, first_type, has_value, is_null_beside, is_place, joint_of_sign, one_kind}
use Rattle.c_meaning.specs.Words.{operand_type, other_types, step_of, token_of, type_of, site_list, step_operation}
use Rattle.c_meaning.specs.Trees as meaning
use Rattle.lower_relation.specs.Calls as c
use Rattle.lower_relation.specs.Expressions as x
use Rattle.lower_relation.specs.Expressions.{has_more, number_of_text}
use Rattle.lower_relation.specs.Operators as o
use Rattle.lower_relation.specs.Paths.{Graph, Path, Ways, Emitted, Does, HaltsAt, Stuck, MarksAll, ForkTo, ValueTruth, PathOrStuck}
use Rattle.lower_relation.specs.Values as v
use Rattle.c_meaning_laws.specs.Typed.{HasSlot, Typed, TypedLinks, TypedPostfix}
use Rattle.c_meaning_laws.specs.TypedStatements.{IsPrint, TypedFormat, TypedPrint}
use Rattle.sites.proofs.Rises.{paren-length}
use Rattle.c_meaning_sound.proofs.Spotting.{AllTyped, called_all, last_all}
use Rattle.c_meaning_sound.proofs.SpottingBodies.{format_all}
use Rattle.lower_fits.specs.FactsFit.{AllOwned}
use Rattle.lower_fits.specs.Fitting.{FormatFirst, FormatOf, Formatted, fitting_subgraph}
use Rattle.lower_fits.proofs.Arguments.{IsOther, other_called}
use Rattle.lower_fits.proofs.ConversionsOfFormats.{format_first}
use Rattle.lower_fits.proofs.Leading.{EmittedInto, Into, either_into, one_of_into, same, then_into, turned_into}
use Rattle.lower_fits.proofs.FittingNodes.{IsFree, format_fits, free_fits, global_fits, local_fits, member_fits, move_fits, own_fits, push_fits, span_fits, text_fits}
use Rattle.lower_fits.proofs.Numbers.{Steps, one_lies, operation_steps, size_lies}
use Rattle.lower_fits.proofs.Standing.{AllLie, Inside, Known, Lies, after, all_lie, back, branch_owned, enclosed, front, inside, rest_lie, return_owned}

module _ (names : Names) (bounds : Bounds) (G : Graph) where
  -- the part of the graph whose nodes fit
  abbrev pub H : Graph
  H = fitting_subgraph names bounds G

  -- a node that fits
  pub does : (op : Node) → IsTrue (names_fit names bounds op) → Into (Does G op) (Does H op)
  does op fit = record { leads = λ at k h. (h, fit) }

  -- a node that names nothing
  pub free : (op : Node) → IsFree op → Into (Does G op) (Does H op)
  free op h = does op (free_fits names bounds op h)

  -- a node that names nothing and ends the run
  pub halts : {K : Type 0} (op : Node) → IsFree op → Into {K = K} (HaltsAt G op) (HaltsAt H op)
  halts op free = record { leads = λ at k h. (h, free_fits names bounds op free) }

  -- a number of its kind is pushed
  pub pushes : (kind : Kind) (value : _) → IsTrue (lies_in kind value) → Into (Does G (node.Push kind value 0)) (Does H (node.Push kind value 0))
  pushes kind value h = does (node.Push kind value 0) (push_fits names bounds kind value h)

  -- what no run comes to fits
  pub stuck : {K : Type 0} → Into {K = K} (Stuck G) (Stuck H)
  stuck = record { leads = λ at k h. (h.0, (pushes Char (pos 0) refl).leads at h.0 h.1, (halts {K = ℕ} node.Exit tt).leads h.0 0 h.2) }

  -- control goes on where a truth says
  pub fork : Into (ForkTo G) (ForkTo H)
  fork = record { leads = λ at k h. (h, refl) }

  -- a value and its truth
  pub tests : {R R' : Path ℕ} → Into R R' → Into (ValueTruth G R) (ValueTruth H R')
  tests a = then_into a fork

  -- where this isn't known to hold, no run comes there
  pub only : {K : Type 0} {R R' : Path K} (b : Bool) → (IsTrue b → Into R R') → Into (PathOrStuck G b R) (PathOrStuck H b R')
  only true a = a refl
  only false a = stuck

  -- visits of the function's own sites
  pub marks : (sites : List ℕ) → AllOwned names.owners bounds.function sites → Into (MarksAll G sites) (MarksAll H sites)
  marks [] are = same
  marks (site ∷ sites) are = then_into (record { leads = λ at k h. (h, own_fits names bounds (slice_get names.owners site) are.0) }) (marks sites are.1)

  -- a value is converted
  pub converts : (change : Conversion) → Into (v.Converts G change) (v.Converts H change)
  converts Keep = same
  converts (To kind) = free (node.Convert kind 0) tt
  converts Misfit = stuck

  -- the value below the top one is converted
  converts_below : (change : Conversion) → Into (v.ConvertsBelow G change) (v.ConvertsBelow H change)
  converts_below Keep = same
  converts_below (To kind) = then_into (free (node.Swap 0) tt) (then_into (free (node.Convert kind 0) tt) (free (node.Swap 0) tt))
  converts_below Misfit = stuck

  -- a value is handed over
  pub handed : (of : Option ValueType) → Into (v.HandedOverAs G of) (v.HandedOverAs H of)
  handed (Some (type.Number kind)) = free (node.Convert kind 0) tt
  handed (Some (type.Pointer size)) = then_into (free (node.Dup 0) tt) (then_into (free (node.Sole unary.Not 0) tt) (free (node.Drop 0) tt))
  handed of = stuck

  -- the value of a place
  pub load : (of : Option ValueType) → Into (v.LoadAt G of) (v.LoadAt H of)
  load (Some (type.Number kind)) = free (node.Load (want.Number kind) 0) tt
  load (Some (type.Pointer size)) = free (node.Load want.Pointer 0) tt
  load (Some (type.Array size)) = same
  load of = stuck

  -- a value that isn't taken
  pub dropped : {R R' : Path ℕ} → Into R R' → Into (v.DroppedValue G R) (v.DroppedValue H R')
  dropped a = then_into a (free (node.Drop 0) tt)

  -- a place whose value isn't taken
  discarded : (is_struct : Bool) (of : Option ValueType) → Into (v.DiscardedPlace G is_struct of) (v.DiscardedPlace H is_struct of)
  discarded true of = free (node.Drop 0) tt
  discarded false of = dropped (load of)

  -- an expression that is no place
  pub valued : {R R' : Path ℕ} → Into R R' → EmittedInto (v.EmittedValue G R) (v.EmittedValue H R')
  valued a = record { value = a; place = stuck; effect = dropped a; truth = tests a }

  -- a place
  pub placed : (of : Option ValueType) {P P' : Path ℕ} → Into P P' → EmittedInto (v.EmittedPlace G of P) (v.EmittedPlace H of P')
  placed of a = record {
    value = then_into a (load of);
    place = a;
    effect = then_into a (discarded (is_struct_value of) of);
    truth = tests (then_into a (load of));
  }

  -- what is done for what it does alone
  pub effected : {R R' : Path ℕ} → Into R R' → EmittedInto (v.EmittedEffect G R) (v.EmittedEffect H R')
  effected a = record { value = stuck; place = stuck; effect = a; truth = stuck }

  -- a null pointer in place of a value
  pub null_or : (is_null : Bool) {m n : Emitted} → EmittedInto m n → Into (v.NullOr G is_null m) (v.NullOr H is_null n)
  null_or true a = free (node.Null 0) tt
  null_or false a = a.value

  -- the truth of that
  pub null_truth : (is_null : Bool) {m n : Emitted} → EmittedInto m n → Into (v.NullTruth G is_null m) (v.NullTruth H is_null n)
  null_truth true a = tests (free (node.Null 0) tt)
  null_truth false a = a.truth

  -- a value as one of the wanted type
  pub wanted : (is_null : Bool) (have want : Option ValueType) {m n : Emitted} → EmittedInto m n → Into (v.WantedValue G is_null have want m) (v.WantedValue H is_null have want n)
  wanted true have want a = free (node.Null 0) tt
  wanted false have want a = then_into a.value (converts (conversion have want))

  -- the value of an arm as one of the type of the whole
  arm_as : (other : Bool) (have want : Option ValueType) → Into (v.ArmAs G other have want) (v.ArmAs H other have want)
  arm_as true have want = handed want
  arm_as false have want = converts (conversion have want)

  -- an arm of `? :`
  pub arm : (is_null : Bool) (have want : Option ValueType) {m n : Emitted} → EmittedInto m n → Into (v.ArmValue G is_null have want m) (v.ArmValue H is_null have want n)
  arm true have want a = free (node.Null 0) tt
  arm false have want a = then_into a.value (arm_as (is_other_pointer (as_used have) want) have want)

  -- an arm whose value isn't taken
  pub arm_effect : (is_null : Bool) (have want : Option ValueType) {m n : Emitted} → EmittedInto m n → Into (v.ArmEffect G is_null have want m) (v.ArmEffect H is_null have want n)
  arm_effect is_null have (Some type.Void) a = a.effect
  arm_effect is_null have want a = dropped (arm is_null have want a)

  -- a value as it is handed over
  pub handed_value : (is_null : Bool) (want : Option ValueType) {m n : Emitted} → EmittedInto m n → Into (v.HandedValue G is_null want m) (v.HandedValue H is_null want n)
  handed_value true want a = free (node.Null 0) tt
  handed_value false want a = then_into a.value (handed want)

  -- an operation that moves by steps
  pub operates : (change : Operation) → Steps change → Into (o.Operates G change) (o.Operates H change)
  operates (Numbers sign left right) steps =
      then_into (converts_below (kind_conversion left (left_kind sign left right)))
      (then_into (converts (kind_conversion right (right_kind sign left right))) (free (node.Math sign 0) tt))
  operates (MoveLeft size) steps = does (node.Move size 0) (move_fits names bounds size steps)
  operates (MoveRight size) steps = then_into (free (node.Swap 0) tt) (does (node.Move size 0) (move_fits names bounds size steps))
  operates (Span size) steps = does (node.Span size 0) (span_fits names bounds size steps)
  operates (Ordered order) steps = free (node.Order order 0) tt
  operates Wrong steps = stuck

  -- a member that isn't too far
  pub member : (offset : Option ℕ) → ((n : ℕ) → offset ≡ Some n → n ≤ step_limit) → Into (o.Member G offset) (o.Member H offset)
  member None h = stuck
  member (Some offset) h = does (node.Member offset 0) (member_fits names bounds offset (h offset refl))

  -- a pointer becomes a place
  pub pointed : Into (o.PointerPlace G) (o.PointerPlace H)
  pointed = then_into (free (node.Dup 0) tt) (either_into fork same (free (node.Load want.Pointer 0) tt))

  -- the value at a pointer
  load_through : (of : Option ValueType) → Into (o.LoadThrough G of) (o.LoadThrough H of)
  load_through (Some (type.Number kind)) = load (Some (type.Number kind))
  load_through (Some (type.Pointer size)) = load (Some (type.Pointer size))
  load_through of = then_into pointed (load of)

  -- the place that a pointer's value is
  pub through : (of : Option ValueType) {R R' : Path ℕ} → Into R R' → EmittedInto (o.EmittedIndirection G of R) (o.EmittedIndirection H of R')
  through of a = record {
    value = then_into a (load_through of);
    place = then_into a pointed;
    effect = then_into (then_into a pointed) (discarded (is_struct_value of) of);
    truth = tests (then_into a (load_through of));
  }

  -- what stands before a postfix operator, as a value
  pub settled : (known : Bool) (of : Option ValueType) → Into (o.OperandValue G known of) (o.OperandValue H known of)
  settled true of = load of
  settled false of = same

  -- a place where it is one, and else a value
  pub spot : (known : Bool) {m n : Emitted} → EmittedInto m n → Into (o.PlaceOrValue G known m) (o.PlaceOrValue H known n)
  spot true a = a.place
  spot false a = a.value

  -- what postfix operators lead to
  pub postfixed : (known : Bool) (of : Option ValueType) {R R' S S' : Path ℕ} → Into R R' → Into S S' → EmittedInto (o.Postfixed G known of R S) (o.Postfixed H known of R' S')
  postfixed true of a b = placed of a
  postfixed false of a b = record { value = a; place = stuck; effect = dropped b; truth = tests a }

  -- a cast
  pub cast : (is_null : Bool) (of : Option ValueType) {m n : Emitted} → EmittedInto m n → EmittedInto (o.Cast G is_null of m) (o.Cast H is_null of n)
  cast is_null (Some type.Void) a = effected a.effect
  cast is_null of a = valued (handed_value is_null of a)

  -- one operand after another
  pub comma : (left : ℕ) {m n k l : Emitted} → EmittedInto m n → EmittedInto k l → EmittedInto (o.Comma G left m k) (o.Comma H left n l)
  comma zero a b = a
  comma (suc left) a b = record {
    value = then_into a.effect b.value;
    place = stuck;
    effect = then_into a.effect b.effect;
    truth = one_of_into (tests (then_into a.effect b.value)) (then_into a.effect b.truth);
  }

  -- 1 where a value is true, else 0
  pub flagged : Into (o.TruthAsInt G) (o.TruthAsInt H)
  flagged = then_into (free (node.Sole unary.Not 0) tt) (free (node.Sole unary.Not 0) tt)

  -- a unary operator
  pub one_operand : (have want : Option ValueType) (sign : Unary) → Into (o.OneOperand G have want sign) (o.OneOperand H have want sign)
  one_operand have want sign = then_into (converts (conversion have want)) (free (node.Sole sign 0) tt)

  module _ (facts : Facts) (sites : Sites) (lo hi : ℕ) (known : Known names bounds facts sites lo hi) where
    -- a condition's site, and its fork
    decides : (token : ℕ) → Inside lo hi token → Into (o.VisitedFork G facts sites token) (o.VisitedFork H facts sites token)
    decides token i = then_into (marks (site_list (sites.branch_at token)) (branch_owned names bounds facts sites lo hi known token i)) fork

    -- a condition, with its site if there is one
    decided : (site : Option ℕ) → AllOwned names.owners bounds.function (site_list site) → {R R' : Path ℕ} {T T' : Path Ways} → Into R R' → Into T T' →
        Into (o.DecidesAt G facts sites site R T) (o.DecidesAt H facts sites site R' T')
    decided None own a b = b
    decided (Some site) own a b = then_into a (then_into (marks (site ∷ []) own) fork)

    -- a condition whose site stands at a token of the body
    condition_in : (token : ℕ) → Inside lo hi token → {R R' : Path ℕ} {T T' : Path Ways} → Into R R' → Into T T' →
        Into (o.Decides G facts sites token R T) (o.Decides H facts sites token R' T')
    condition_in token i a b = decided (sites.branch_at token) (branch_owned names bounds facts sites lo hi known token i) a b

    -- what is assigned is stored, and the sites at the token are visited
    pub assigned : (token : ℕ) → Inside lo hi token → Into (o.Assigned G facts sites token) (o.Assigned H facts sites token)
    assigned token i = then_into (free (node.Store 0) tt) (marks (sites.pairs_at token) (known.owned.pairs token i.from i.before))

    -- an operation on the old value and a right value
    updates : (token : ℕ) → Inside lo hi token → (of : Option ValueType) (change : Operation) → Steps change →
        Into (o.Updates G facts sites token of change) (o.Updates H facts sites token of change)
    updates token i of change steps =
        then_into (operates change steps) (then_into (converts (conversion (type_given change of) of)) (assigned token i))

    -- the same from the place and the right value on
    changed : (token : ℕ) → Inside lo hi token → (of : Option ValueType) (change : Operation) → Steps change →
        Into (o.CompoundAssigned G facts sites token of change) (o.CompoundAssigned H facts sites token of change)
    changed token i of change steps =
        then_into (free (node.Over 0) tt) (then_into (load of) (then_into (free (node.Swap 0) tt) (updates token i of change steps)))

    -- `++` and `--` move by steps
    step_steps : (is_up : Bool) (of : Option ValueType) → Steps (step_operation is_up of)
    step_steps is_up of = operation_steps (step_of is_up) of (Some (type.Number (one_kind of)))

    -- the 1 that `++` and `--` add or subtract
    one : (of : Option ValueType) → Into (Does G (node.Push (one_kind of) (pos 1) 0)) (Does H (node.Push (one_kind of) (pos 1) 0))
    one of = pushes (one_kind of) (pos 1) (one_lies (one_kind of))

    -- `++` and `--` before a place
    stepped : (is_up : Bool) (token : ℕ) → Inside lo hi token → (of : Option ValueType) →
        Into (o.Stepped G facts sites is_up token of) (o.Stepped H facts sites is_up token of)
    stepped is_up token i of =
        then_into (free (node.Dup 0) tt) (then_into (load of) (then_into (one of) (updates token i of (step_operation is_up of) (step_steps is_up of))))

    -- they leave the old value behind a place
    stepped_behind : (is_up : Bool) (token : ℕ) → Inside lo hi token → (of : Option ValueType) →
        Into (o.SteppedBehind G facts sites is_up token of) (o.SteppedBehind H facts sites is_up token of)
    stepped_behind is_up token i of =
        then_into (free (node.Dup 0) tt) (then_into (load of) (then_into (free (node.Swap 0) tt) (then_into (free (node.Over 0) tt)
        (then_into (one of) (then_into (operates (step_operation is_up of) (step_steps is_up of))
        (then_into (converts (conversion (type_given (step_operation is_up of) of) of)) (then_into (assigned token i) (free (node.Drop 0) tt))))))))

    -- they leave either
    stepped_as : (taken is_up : Bool) (token : ℕ) → Inside lo hi token → (of : Option ValueType) →
        Into (o.SteppedAs G facts sites taken is_up token of) (o.SteppedAs H facts sites taken is_up token of)
    stepped_as true is_up token i of = stepped_behind is_up token i of
    stepped_as false is_up token i of = stepped is_up token i of

    -- an assignment
    assign : (token : ℕ) → Inside lo hi token → (how : Assignment) (is_null : Bool) (left right : Option ValueType) {g h m n : Emitted} →
        EmittedInto g h → EmittedInto m n →
        Into (o.Assign G facts sites token how is_null left right g m) (o.Assign H facts sites token how is_null left right h n)
    assign token i Plain is_null left right a b = then_into a.place (then_into (wanted is_null right left b) (assigned token i))
    assign token i (By sign) is_null left right a b =
        then_into a.place (then_into b.value (changed token i left (operation sign left right) (operation_steps sign left right)))

    -- the right side of an operator of a chain
    linked : (link : Joint) (token : ℕ) → Inside lo hi token → (left right : Option ValueType) {R R' : Path ℕ} → Into R R' →
        Into (o.Linked G facts sites link token left right R) (o.Linked H facts sites link token left right R')
    linked Both token i left right a = either_into (decides token i) (then_into a flagged) (pushes Int (pos 0) refl)
    linked meaning.Either token i left right a = either_into (decides token i) (pushes Int (pos 1) refl) (then_into a flagged)
    linked (Computes sign) token i left right a = then_into a (operates (operation sign left right) (operation_steps sign left right))
    linked Unjoined token i left right a = stuck

    -- the truth of an operator of a chain
    linked_truth : (link : Joint) (token : ℕ) → Inside lo hi token → (left right : Option ValueType) {R R' S S' : Path ℕ} {T T' U U' : Path Ways} →
        Into R R' → Into T T' → Into S S' → Into U U' →
        Into (o.LinkedTruth G facts sites link token left right R T S U) (o.LinkedTruth H facts sites link token left right R' T' S' U')
    linked_truth Both token i left right r t a u = either_into (condition_in token i r t) u same
    linked_truth meaning.Either token i left right r t a u = either_into (condition_in token i r t) same u
    linked_truth (Computes sign) token i left right r t a u =
        tests (then_into r (then_into a (operates (operation sign left right) (operation_steps sign left right))))
    linked_truth Unjoined token i left right r t a u = then_into r stuck

    -- `? :`
    conditional : (token : ℕ) → Inside lo hi token → {m n : Emitted} {R R' S S' E E' F F' : Path ℕ} →
        EmittedInto m n → Into R R' → Into S S' → Into E E' → Into F F' →
        EmittedInto (o.Conditional G facts sites token m R S E F) (o.Conditional H facts sites token n R' S' E' F')
    conditional token i c a b d k =
        let holds = condition_in token i c.value c.truth in
        record { value = either_into holds a b; place = stuck; effect = either_into holds d k; truth = tests (either_into holds a b) }

    -- `!`
    negated : {m n : Emitted} → EmittedInto m n → EmittedInto (o.Negated G facts sites m) (o.Negated H facts sites n)
    negated a =
        let value = then_into a.value (free (node.Sole unary.Not 0) tt) in
        record { value = value; place = stuck; effect = dropped value; truth = one_of_into (tests value) (turned_into a.truth) }

    -- the size of a type or of an object
    size_value : (cells : Option ℕ) → ((n : ℕ) → cells ≡ Some n → n ≤ step_limit) → EmittedInto (o.SizeValue G cells) (o.SizeValue H cells)
    size_value None h = valued stuck
    size_value (Some cells) h = valued (pushes Unsigned (pos cells) (size_lies cells (h cells refl)))

    -- operators before an operand
    prefixed : (token : ℕ) → Inside lo hi token → (operator : PrefixOperator) (of : Option ValueType) (cells : Option ℕ) →
        ((n : ℕ) → cells ≡ Some n → n ≤ step_limit) → {m n : Emitted} → EmittedInto m n →
        EmittedInto (o.Prefixed G facts sites token operator of cells m) (o.Prefixed H facts sites token operator of cells n)
    prefixed token i prefix.Increment of cells h a = valued (then_into a.place (stepped true token i of))
    prefixed token i prefix.Decrement of cells h a = valued (then_into a.place (stepped false token i of))
    prefixed token i prefix.Address of cells h a = valued a.place
    prefixed token i prefix.Indirection of cells h a = through (facts.type_at token) a.value
    prefixed token i prefix.Plus of cells h a = valued (then_into a.value (handed (facts.type_at token)))
    prefixed token i prefix.Minus of cells h a = valued (then_into a.value (one_operand of (facts.type_at token) unary.Neg))
    prefixed token i prefix.Complement of cells h a = valued (then_into a.value (one_operand of (facts.type_at token) unary.Com))
    prefixed token i prefix.Not of cells h a = negated a
    prefixed token i prefix.SizeOf of cells h a = size_value cells h

    -- the object of a variable
    pub variable : (token : ℕ) (at : Option Slot) → facts.slot_at token ≡ at → HasSlot facts sites bounds.locals at → Into (o.Variable G at) (o.Variable H at)
    variable token None e h = absurd h
    variable token (Some (slot.Local index)) e h = does (node.Local index 0) (local_fits names bounds index h)
    variable token (Some (slot.Global index)) e h = does (node.Global index 0) (global_fits names bounds index (known.facts_fit.globals token index e))

    -- the object of a string
    text_place : (token : ℕ) (number : Option ℕ) → facts.text_at token ≡ number → Into (x.TextPlace G number) (x.TextPlace H number)
    text_place token None e = stuck
    text_place token (Some number) e = does (node.Text number 0) (text_fits names bounds number (known.facts_fit.texts token number e))

    -- a returned value, with its site
    returned : (token : ℕ) → Inside lo hi token → {R R' : Path ℕ} → Into R R' → EmittedInto (c.Returned G facts sites token R) (c.Returned H facts sites token R')
    returned token i a = valued (then_into a (marks (site_list (sites.return_at token)) (return_owned names bounds facts sites lo hi known token i)))

    -- a call gives a value, or none
    with_result : (token : ℕ) → Inside lo hi token → (has : Bool) {R R' : Path ℕ} → Into R R' →
        EmittedInto (c.WithResult G facts sites token has R) (c.WithResult H facts sites token has R')
    with_result token i true a = returned token i a
    with_result token i false a = effected a

    -- a call of a function that is there
    calls : (number : ℕ) (one : Signature) → facts.signature number ≡ Some one → Into (λ at k. G at (view.Calls number k)) (λ at k. H at (view.Calls number k))
    calls number one e = record { leads = λ at k h. (h, lt-ltb number names.functions (known.facts_fit.functions number one e)) }

    -- a function of the text, with its arguments
    call_function : (token : ℕ) → Inside lo hi token → (number : ℕ) (signature : Option Signature) → facts.signature number ≡ signature →
        (n : ℕ) {R R' : c.ArgumentsPath} → ((types : List ValueType) → Into (R types) (R' types)) →
        EmittedInto (c.CallFunction G facts sites token number signature n R) (c.CallFunction H facts sites token number signature n R')
    call_function token i number None e n a = valued stuck
    call_function token i number (Some one) e n a =
        with_result token i (has_value one.result) (only (n == length one.params) (λ _. then_into (a one.params) (calls number one e)))

    -- all functions of the library but `printf`
    call_library : (token : ℕ) → Inside lo hi token → (function : Library) → IsOther (called.Library function) → (n : ℕ) (P P' : Path ℕ) {A A' : c.ArgumentPath} →
        ((want : Option ValueType → Option ValueType) → Into (A want) (A' want)) →
        EmittedInto (c.CallLibrary G facts sites token function n A P) (c.CallLibrary H facts sites token function n A' P')
    call_library token i library.Getchar other n p q a = returned token i (only (n == 0) (λ _. free (node.Get 0) tt))
    call_library token i library.Putchar other n p q a = valued (then_into (a (as_type (type.Number Int))) (free (node.Put 0) tt))
    call_library token i library.Puts other n p q a = valued (then_into (a (as_type (type.Pointer 1))) (free (node.Puts 0) tt))
    call_library token i library.Malloc other n p q a = returned token i (then_into (a (as_type (type.Number Unsigned))) (free (node.Alloc 0) tt))
    call_library token i library.Free other n p q a = effected (then_into (a (as_type (type.Pointer 0))) (free (node.Free 0) tt))
    call_library token i library.Exit other n p q a = effected (then_into (a (as_type (type.Number Int))) (halts node.Exit tt))
    call_library token i library.Abort other n p q a = effected (only (n == 0) (λ _. halts node.Abort tt))
    call_library token i library.Assert other n p q a = effected (then_into (a as_used) (free (node.Check 0) tt))
    call_library token i library.Printf other n p q a = absurd other

    -- a call of anything but `printf`
    call_does : (token : ℕ) → Inside lo hi token → (callee : Called) → IsOther callee → (n : ℕ) (P P' : Path ℕ) {R R' : c.ArgumentsPath} {A A' : c.ArgumentPath} →
        ((types : List ValueType) → Into (R types) (R' types)) → ((want : Option ValueType → Option ValueType) → Into (A want) (A' want)) →
        EmittedInto (c.CallDoes G facts sites token callee n R A P) (c.CallDoes H facts sites token callee n R' A' P')
    call_does token i (called.Function number) other n p q a b = call_function token i number (facts.signature number) refl n a
    call_does token i (called.Library function) other n p q a b = call_library token i function other n p q b
    call_does token i called.Unknown other n p q a b = valued stuck

    -- a call of `printf`, whose string is a format
    prints : (number : Option ℕ) (format : Option Text) (n : ℕ) →
        ((k : ℕ) (t : Text) → number ≡ Some k → format ≡ Some t → IsTrue (is_format (slice_get names.conversions k) (length (types_taken (pieces_of t.bytes))))) →
        {R R' : c.ArgumentsPath} → ((types : List ValueType) → Into (R types) (R' types)) → Into (c.PrintPath G number format n R) (c.PrintPath H number format n R')
    prints (Some number) (Some format) n fits a =
        let taken = types_taken (pieces_of format.bytes) in
        only (n == length taken) (λ as_many.
        let same_number : n ≡ length taken = eqb-true n (length taken) as_many in
        let fit : IsTrue (is_format (slice_get names.conversions number) n) =
        subst (λ k. IsTrue (is_format (slice_get names.conversions number) k)) (sym same_number) (fits number format refl refl) in
        then_into (a taken) (does (node.Format number n 0) (format_fits names bounds number n fit)))
    prints None None n fits a = stuck
    prints None (Some format) n fits a = stuck
    prints (Some number) None n fits a = stuck

    -- what is known of parts: that their nodes fit
    abbrev pub Fits : ExprTree → Type 0
    Fits y = EmittedInto (x.emitted_expression G facts sites y) (x.emitted_expression H facts sites y)

    -- expressions in a list
    abbrev pub AllFit : ExprList → Type 0
    AllFit e.no_exprs = Unit {0}
    AllFit (e.more_exprs first rest) = Fits first × AllFit rest

    -- operators of a chain, with their tokens
    abbrev LinksFit : LinkList → Type 0
    LinksFit e.no_links = Unit {0}
    LinksFit (e.more_links token sign operand rest) = Inside lo hi token × Fits operand × LinksFit rest

    -- operators behind an operand, with the tokens of `++` and `--`
    abbrev PostfixFit : PostfixList → Type 0
    PostfixFit e.no_postfix = Unit {0}
    PostfixFit (e.index token index rest) = Fits index × PostfixFit rest
    PostfixFit (e.member token name rest) = PostfixFit rest
    PostfixFit (e.arrow token name rest) = PostfixFit rest
    PostfixFit (e.increment token rest) = Inside lo hi token × PostfixFit rest
    PostfixFit (e.decrement token rest) = Inside lo hi token × PostfixFit rest

    -- operands of a comma
    last : (ys : ExprList) → AllFit ys → EmittedInto (x.CommaDoes G facts sites ys) (x.CommaDoes H facts sites ys)
    last e.no_exprs all = valued stuck
    last (e.more_exprs first rest) all = comma (expression_count rest) all.0 (last rest all.1)

    -- arguments, the first one first
    arguments : (types : List ValueType) (ys : ExprList) → AllFit ys → Into (x.ArgumentsDo G facts sites types ys) (x.ArgumentsDo H facts sites types ys)
    arguments types e.no_exprs all = same
    arguments types (e.more_exprs first rest) all =
        then_into (handed_value (is_null_as (first_type types) first) (first_type types) all.0) (arguments (other_types types) rest all.1)

    -- the one argument
    lone : (want : Option ValueType → Option ValueType) (ys : ExprList) → AllFit ys → Into (x.OneArgumentDoes G facts sites want ys) (x.OneArgumentDoes H facts sites want ys)
    lone want e.no_exprs all = stuck
    lone want (e.more_exprs first rest) all =
        only (expression_count rest == 0) (λ _. handed_value (is_null_as (want (type_of facts first)) first) (want (type_of facts first)) all.0)

    -- the value of a chain, from the left
    links_do : (left : Option ValueType) (links : LinkList) → LinksFit links → Into (x.LinksDo G facts sites left links) (x.LinksDo H facts sites left links)
    links_do left e.no_links all = same
    links_do left (e.more_links token sign operand rest) all =
        then_into (linked (joint_of_sign sign) token all.0 left (operand_type (is_null_beside (binary_of sign) left operand) (type_of facts operand))
        (null_or (is_null_beside (binary_of sign) left operand) all.1)) (links_do (facts.type_at token) rest all.2)

    -- the truth of a chain, from the left
    links_hold : (left : Option ValueType) (links : LinkList) → LinksFit links → {R R' : Path ℕ} {T T' : Path Ways} → Into R R' → Into T T' →
        Into (x.LinksHold G facts sites left R T links) (x.LinksHold H facts sites left R' T' links)
    links_hold left e.no_links all r t = t
    links_hold left (e.more_links token sign operand rest) all r t =
        let operand_value = null_or (is_null_beside (binary_of sign) left operand) all.1 in
        let right = operand_type (is_null_beside (binary_of sign) left operand) (type_of facts operand) in
        links_hold (facts.type_at token) rest all.2 (then_into r (linked (joint_of_sign sign) token all.0 left right operand_value))
        (linked_truth (joint_of_sign sign) token all.0 left right r t operand_value (null_truth (is_null_beside (binary_of sign) left operand) all.1))

    -- a chain, with its value and its truth
    chain : (is_null : Bool) (of : Option ValueType) (links : LinkList) {m n : Emitted} → EmittedInto m n → LinksFit links →
        EmittedInto (x.ChainDoes G is_null of m (λ left. x.LinksDo G facts sites left links) (λ left R T. x.LinksHold G facts sites left R T links))
        (x.ChainDoes H is_null of n (λ left. x.LinksDo H facts sites left links) (λ left R T. x.LinksHold H facts sites left R T links))
    chain is_null of links a all =
        let value = then_into (null_or is_null a) (links_do (operand_type is_null of) links all) in
        record {
          value = value;
          place = stuck;
          effect = dropped value;
          truth = one_of_into (tests value) (links_hold (operand_type is_null of) links all (null_or is_null a) (null_truth is_null a));
        }

    -- operators behind an operand
    behind : (taken is_known : Bool) (of : Option ValueType) (ys : PostfixList) → PostfixFit ys →
        Into (x.PostfixOperatorsDo G facts sites taken is_known of ys) (x.PostfixOperatorsDo H facts sites taken is_known of ys)
    behind taken is_known of e.no_postfix all = same
    behind taken is_known of (e.index token index rest) all =
        then_into (settled is_known of) (then_into all.0.value
        (then_into (operates (operation op.Add of (type_of facts index)) (operation_steps op.Add of (type_of facts index)))
        (behind taken true (facts.type_at token) rest all.1)))
    behind taken is_known of (e.member token name rest) all =
        then_into (member (facts.offset_at token) (known.facts_fit.offsets token)) (behind taken true (facts.type_at token) rest all)
    behind taken is_known of (e.arrow token name rest) all =
        then_into (settled is_known of) (then_into (member (facts.offset_at token) (known.facts_fit.offsets token))
        (behind taken true (facts.type_at token) rest all))
    behind taken is_known of (e.increment token rest) all =
        then_into (only is_known (λ _. stepped_as (taken || has_more rest) true token all.0 of)) (behind taken false (facts.type_at token) rest all.1)
    behind taken is_known of (e.decrement token rest) all =
        then_into (only is_known (λ _. stepped_as (taken || has_more rest) false token all.0 of)) (behind taken false (facts.type_at token) rest all.1)

    -- the tokens of arguments, and those behind a member's name
    argument_lies : (at : ℕ) (name : List ℕ) (ys : ExprList) → Lies lo hi at (expr_kinds (e.Call at name ys)) → Lies lo hi (at + 2) (exprs_kinds ys)
    argument_lies at name ys l =
        enclosed lo hi (at + 1) (at + 2) (exprs_kinds ys) (omega arith) (after lo hi at (at + 1) _ (parenthesized_kinds (exprs_kinds ys)) refl l)

    -- the tokens behind a member's name
    behind_name : (at : ℕ) (name : List ℕ) (rest : PostfixList) → Lies lo hi (at + 1) (a_name name ++ postfix_kinds rest) → Lies lo hi (at + 2) (postfix_kinds rest)
    behind_name at name rest l = after lo hi (at + 1) (at + 2) _ (postfix_kinds rest) (omega arith) l

    mutual
      -- an expression whose types fit
      pub expression : (y : ExprTree) (at : ℕ) → ExprAt at y → Lies lo hi at (expr_kinds y) → Typed facts sites bounds.locals y → Fits y
      expression (e.Comma token parts) at p l t =
          last parts (each parts at p.1 (all_lie lo hi at parts l) (last_all facts sites bounds.locals (facts.type_at token) parts t))
      expression (e.Assign token sign target value) at p l t =
          let signed = front lo hi at (expr_kinds target ++ a_sign sign) (expr_kinds value) l in
          let mark = back lo hi at (at + length (expr_kinds target)) (expr_kinds target) (a_sign sign) refl signed in
          let right = back lo hi at (token + 1) (expr_kinds target ++ a_sign sign) (expr_kinds value)
          (omega (arith, p, length-append (expr_kinds target) (a_sign sign))) l in
          valued (assign token (inside lo hi (at + length (expr_kinds target)) token _ [] p.0 mark) (assignment_of_sign sign)
          (is_null_as (type_of facts target) value) (type_of facts target) (type_of facts value)
          (expression target at p.1 (front lo hi at (expr_kinds target) (a_sign sign) signed) t.0) (expression value (token + 1) p.2 right t.1))
      expression (e.Conditional token condition first second) at p l t =
          let asked = expr_kinds condition ++ a_sign sign.Question in
          let parted = asked ++ expr_kinds first ++ a_sign sign.Colon in
          let before_second = front lo hi at parted (expr_kinds second) l in
          let before_colon = front lo hi at (asked ++ expr_kinds first) (a_sign sign.Colon) before_second in
          let before_first = front lo hi at asked (expr_kinds first) before_colon in
          let mark = back lo hi at (at + length (expr_kinds condition)) (expr_kinds condition) (a_sign sign.Question) refl before_first in
          let asked_long = length-append (expr_kinds condition) (a_sign sign.Question) in
          let first_long = length-append asked (expr_kinds first) in
          let parted_long = length-append (asked ++ expr_kinds first) (a_sign sign.Colon) in
          let first_at = back lo hi at (token + 1) asked (expr_kinds first) (omega (arith, p)) before_colon in
          let second_at = back lo hi at (token + 1 + length (expr_kinds first) + 1) parted (expr_kinds second) (omega (arith, p)) l in
          let condition_fits = expression condition at p.1 (front lo hi at (expr_kinds condition) (a_sign sign.Question) before_first) t.0 in
          let first_fits = expression first (token + 1) p.2 first_at t.1 in
          let second_fits = expression second (token + 1 + length (expr_kinds first) + 1) p.3 second_at t.2 in
          conditional token (inside lo hi (at + length (expr_kinds condition)) token _ [] p.0 mark) condition_fits
          (arm (is_null_as (facts.type_at token) first) (type_of facts first) (facts.type_at token) first_fits)
          (arm (is_null_as (facts.type_at token) second) (type_of facts second) (facts.type_at token) second_fits)
          (arm_effect (is_null_as (facts.type_at token) first) (type_of facts first) (facts.type_at token) first_fits)
          (arm_effect (is_null_as (facts.type_at token) second) (type_of facts second) (facts.type_at token) second_fits)
      expression (e.Chain level first links) at p l t =
          chain (begins_null facts first links) (type_of facts first) links
          (expression first at p.0 (front lo hi at (expr_kinds first) (link_kinds links) l) t.0)
          (each_link links (at + length (expr_kinds first)) (operand_type (begins_null facts first links) (type_of facts first)) p.1
          (back lo hi at (at + length (expr_kinds first)) (expr_kinds first) (link_kinds links) refl l) t.2)
      expression (e.Cast token base stars operand) at p l t =
          cast (is_null_as (facts.type_at token) operand) (facts.type_at token)
          (expression operand (at + 1 + length (type_kinds base stars) + 1) p.2
          (back lo hi at (at + 1 + length (type_kinds base stars) + 1) (parenthesized_kinds (type_kinds base stars)) (expr_kinds operand)
          (omega (arith, paren-length (type_kinds base stars))) l) t.0)
      expression (e.Prefix token operator operand) at p l t =
          prefixed token (inside lo hi at token _ (expr_kinds operand) p.0 l) operator (type_of facts operand) (facts.cells_at (token_of operand))
          (known.facts_fit.cells (token_of operand)) (expression operand (at + 1) p.1 (after lo hi at (at + 1) _ (expr_kinds operand) refl l) t.0)
      expression (e.SizeOfType token base stars) at p l t = size_value (facts.named_cells base stars) (known.facts_fit.named base stars)
      expression (e.Postfix primary operators) at p l t =
          let primary_fits = expression primary at p.0 (front lo hi at (expr_kinds primary) (postfix_kinds operators) l) t.0 in
          let operators_fit = each_postfix operators (at + length (expr_kinds primary)) (is_place primary) _ (type_of facts primary) p.1
          (back lo hi at (at + length (expr_kinds primary)) (expr_kinds primary) (postfix_kinds operators) refl l) t.1 in
          postfixed (ends_as_place (is_place primary) operators) (type_of facts (e.Postfix primary operators))
          (then_into (spot (is_place primary) primary_fits) (behind true (is_place primary) (type_of facts primary) operators operators_fit))
          (then_into (spot (is_place primary) primary_fits) (behind false (is_place primary) (type_of facts primary) operators operators_fit))
      expression (e.Name token name) at p l t = placed (facts.type_at token) (variable token (facts.slot_at token) refl t.1)
      expression (e.Call token name values) at p l t =
          let callee = called_as (facts.function_at token) name in
          let all = each values (at + 2) p.1 (all_lie lo hi (at + 2) values (argument_lies at name values l)) (called_all facts sites bounds.locals callee values (facts.type_at token) t) in
          call_does token (inside lo hi at token _ (parenthesized_kinds (exprs_kinds values)) p.0 l) callee (other_called facts sites bounds.locals callee values (facts.type_at token) t)
          (expression_count values) (x.FormatDoes G facts sites values) (x.FormatDoes H facts sites values) (λ types. arguments types values all)
          (λ want. lone want values all)
      expression (e.Constant token kind value) at p l t = valued (pushes kind value l.constants.0.1)
      expression (e.Strings token parts) at p l t = valued (text_place token (facts.text_at token) refl)
      expression (e.Paren token inner) at p l t = expression inner (at + 1) p.1 (enclosed lo hi at (at + 1) (expr_kinds inner) refl l) t.0
      expression (e.Null token) at p l t = valued (free (node.Null 0) tt)
      expression (e.EndOfFile token) at p l t = valued (pushes Int (negsuc 0) refl)

      -- expressions with commas between them
      pub each : (ys : ExprList) (at : ℕ) → ExprsAt at ys → AllLie lo hi at ys → AllTyped facts sites bounds.locals ys → AllFit ys
      each e.no_exprs at p l t = tt
      each (e.more_exprs y rest) at p l t = (
        expression y at p.0 (front lo hi at (expr_kinds y) (more_exprs_kinds rest) l) t.0,
        each rest (at + length (expr_kinds y) + 1) p.1 (rest_lie lo hi at y rest l) t.1,
      )

      -- operators of a chain
      each_link : (ys : LinkList) (at : ℕ) (left : Option ValueType) → LinksAt at ys → Lies lo hi at (link_kinds ys) →
          TypedLinks facts sites bounds.locals left ys → LinksFit ys
      each_link e.no_links at left p l t = tt
      each_link (e.more_links token sign operand rest) at left p l t =
          let behind_sign = after lo hi at (at + 1) _ (expr_kinds operand ++ link_kinds rest) refl l in (
            inside lo hi at token _ (expr_kinds operand ++ link_kinds rest) p.0 l,
            expression operand (at + 1) p.1 (front lo hi (at + 1) (expr_kinds operand) (link_kinds rest) behind_sign) t.0,
            each_link rest (at + 1 + length (expr_kinds operand)) (facts.type_at token) p.2
                (back lo hi (at + 1) (at + 1 + length (expr_kinds operand)) (expr_kinds operand) (link_kinds rest) refl behind_sign) t.3,
          )

      -- operators behind a primary expression
      each_postfix : (ys : PostfixList) (at : ℕ) (is_known : Bool) (named : Option Slot) (of : Option ValueType) → PostfixAt at ys →
          Lies lo hi at (postfix_kinds ys) → TypedPostfix facts sites bounds.locals is_known named of ys → PostfixFit ys
      each_postfix e.no_postfix at is_known named of p l t = tt
      each_postfix (e.index token y rest) at is_known named of p l t =
          let closed = expr_kinds y ++ a_sign sign.RightBracket in
          let behind_bracket = after lo hi at (at + 1) _ (closed ++ postfix_kinds rest) refl l in
          let within = front lo hi (at + 1) closed (postfix_kinds rest) behind_bracket in (
            expression y (at + 1) p.1 (front lo hi (at + 1) (expr_kinds y) (a_sign sign.RightBracket) within) t.0,
            each_postfix rest (at + 1 + length (expr_kinds y) + 1) true None (facts.type_at token) p.2
                (back lo hi (at + 1) (at + 1 + length (expr_kinds y) + 1) closed (postfix_kinds rest)
                (omega (arith, length-append (expr_kinds y) (a_sign sign.RightBracket))) behind_bracket) t.2,
          )
      each_postfix (e.member token name rest) at is_known named of p l t =
          each_postfix rest (at + 2) true None (facts.type_at token) p.1 (behind_name at name rest (after lo hi at (at + 1) _ _ refl l)) t.2
      each_postfix (e.arrow token name rest) at is_known named of p l t =
          each_postfix rest (at + 2) true None (facts.type_at token) p.1 (behind_name at name rest (after lo hi at (at + 1) _ _ refl l)) t.2
      each_postfix (e.increment token rest) at is_known named of p l t = (
        inside lo hi at token _ (postfix_kinds rest) p.0 l,
        each_postfix rest (at + 1) false None (facts.type_at token) p.1 (after lo hi at (at + 1) _ (postfix_kinds rest) refl l) t.2,
      )
      each_postfix (e.decrement token rest) at is_known named of p l t = (
        inside lo hi at token _ (postfix_kinds rest) p.0 l,
        each_postfix rest (at + 1) false None (facts.type_at token) p.1 (after lo hi at (at + 1) _ (postfix_kinds rest) refl l) t.2,
      )

    -- a condition whose site stands at the token
    pub condition : (token : ℕ) → Inside lo hi token → (y : ExprTree) → Fits y → Into (x.Condition G facts sites token y) (x.Condition H facts sites token y)
    condition token i y fits = condition_in token i fits.value fits.truth

    -- `printf` with its arguments
    formatted : (ys : ExprList) (at : ℕ) → ExprsAt at ys → AllLie lo hi at ys → TypedFormat facts sites bounds.locals ys → FormatFirst facts ys →
        Into (x.FormatDoes G facts sites ys) (x.FormatDoes H facts sites ys)
    formatted e.no_exprs at p l t f = absurd t
    formatted (e.more_exprs y rest) at p l t f =
        let all = each rest (at + length (expr_kinds y) + 1) p.1 (rest_lie lo hi at y rest l) (format_all facts sites bounds.locals (text_of_string facts y) rest t) in
        prints (number_of_text facts y) (text_of_string facts y) (expression_count rest) (format_first names facts known.texts y f) (λ types. arguments types rest all)

    -- a call of `printf`
    print_does : (token at : ℕ) (callee : Called) (ys : ExprList) → ExprsAt at ys → AllLie lo hi at ys → TypedPrint facts sites bounds.locals callee ys →
        FormatOf facts callee ys →
        EmittedInto (c.CallDoes G facts sites token callee (expression_count ys) (λ types. x.ArgumentsDo G facts sites types ys) (λ want. x.OneArgumentDoes G facts sites want ys)
        (x.FormatDoes G facts sites ys))
        (c.CallDoes H facts sites token callee (expression_count ys) (λ types. x.ArgumentsDo H facts sites types ys) (λ want. x.OneArgumentDoes H facts sites want ys)
        (x.FormatDoes H facts sites ys))
    print_does token at (called.Library library.Printf) ys p l t f = effected (formatted ys at p l t f)
    print_does token at callee ys p l t f = absurd t

    -- a call of `printf` as a whole expression
    pub printing : (y : ExprTree) (at : ℕ) → ExprAt at y → Lies lo hi at (expr_kinds y) → IsPrint facts sites bounds.locals y → Formatted facts y → Fits y
    printing (e.Call token name values) at p l t f =
        print_does token (at + 2) (called_as (facts.function_at token) name) values p.1 (all_lie lo hi (at + 2) values (argument_lies at name values l)) t f
    printing y at p l t f = absurd t
