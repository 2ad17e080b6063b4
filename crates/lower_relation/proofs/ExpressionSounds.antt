-- Each expression does what it means.
use Rattle.std.proofs.Common.{◌≡◌, ℕ, refl, ap, subst, arith, List, [], ◌∷◌, ◌++◌, ◌+◌, sym, Option, Some, None, Bool, true, false, length}
use Rattle.std.specs.Prelude.{◌==◌, negsuc, slice_get}
use Rattle.std.specs.Option.{option_and_then}
use Rattle.cbi_base.specs.declared.scalar.Kind.TheVariants.{Int}
use Rattle.cbi_base.specs.declared.scalar.Scalar.{Scalar}
use Rattle.cbi_base.specs.declared.scalar.Scalar.TheVariants.{Place}
use Rattle.cbi_base.specs.declared.operators.Binary.TheVariants as op
use Rattle.c_syntax.specs.ExprTree as e
use Rattle.c_syntax.specs.ExprTree.{ExprTree, ExprList, LinkList, PostfixList}
use Rattle.c_types_expressions.specs.ExprWalk.{binary_of}
use Rattle.flow.specs.declared.node.Node.TheVariants as node
use Rattle.flow.specs.Rows.{row_effect}
use Rattle.c_meaning.specs.declared.value_type.ValueType.{ValueType}
use Rattle.c_meaning.specs.Words.{print_by, is_null_as, Facts, Setting, Sites, text_of_string, operation, stepped_behind, token_of, type_of, ends_as_place}
use Rattle.c_meaning.specs.Words.{is_place, expression_count, assignment_of_sign, joint_of_sign, is_null_beside, begins_null, operand_type, called_as, first_type, other_types, truth_value}
use Rattle.c_meaning.specs.Words.{World, Go, Out, Caller, bind, chosen_part, value_discarded, stuck_run}
use Rattle.c_meaning.specs.Expressions as mean_of
use Rattle.c_meaning.specs.Meaning as mean
use Rattle.lower_relation.specs.Calls.{PrintPath}
use Rattle.lower_relation.specs.Expressions as way_of
use Rattle.lower_relation.specs.Expressions.{has_more, number_of_text}
use Rattle.lower_relation.specs.Operators.{Stepped, SteppedAs, SteppedBehind}
use Rattle.lower_relation.specs.Paths.{Path, ◌then◌, Nothing, OneOf, PathOrStuck, ValueTruth, Ways}
use Rattle.lower_relation.specs.Values.{DroppedValue, EmittedValue}
use Rattle.lower_relation.specs.Stands.{Agrees}
use Rattle.lower_relation.proofs.Reach.{Holds, Stack, bind_bind, bind_go, holds_bind}
use Rattle.lower_relation.proofs.Sounds.{CallsSound, Standing, Sound, SenseSound, bare, joined, kept, none, one_of_ok, grouped, only_ok, plus, pushes, same_meaning, seq, seq_done, setting, stuck_ok, to, unchanged, under, way}
use Rattle.lower_relation.proofs.ValueSounds.{arm_effect_ok, arm_ok, done_ok, handed_value_ok, null_ok, null_or_ok, null_truth_ok, placed_ok, push_ok, tests_ok, valued_ok}
use Rattle.lower_relation.proofs.OperatorSounds.{assign_ok, cast_ok, comma_ok, conditional_ok, decides_ok, dropped_step_ok, linked_ok, linked_truth_ok, member_ok, operate_ok, postfixed_ok, prefixed_ok, settled_ok, size_ok, spot_ok, stepped_behind_ok, variable_ok}
use Rattle.lower_relation.proofs.CallSounds.{call_sense_ok, print_ok}

-- the string that an expression is, by its number
pub text_found : (facts : Facts) (x : ExprTree) → text_of_string facts x ≡ option_and_then (slice_get facts.statics.texts) (number_of_text facts x)
text_found facts (e.Comma token operands) = refl
text_found facts (e.Assign token sign target value) = refl
text_found facts (e.Conditional token condition first second) = refl
text_found facts (e.Chain level first links) = refl
text_found facts (e.Cast token base stars operand) = refl
text_found facts (e.Prefix token operator operand) = refl
text_found facts (e.SizeOfType token base stars) = refl
text_found facts (e.Postfix primary operators) = refl
text_found facts (e.Name token name) = refl
text_found facts (e.Call token name arguments) = refl
text_found facts (e.Constant token kind value) = refl
text_found facts (e.Strings token parts) = refl
text_found facts (e.Paren token inner) = refl
text_found facts (e.Null token) = refl
text_found facts (e.EndOfFile token) = refl

module _ (z : Standing) (facts : Facts) (sites : Sites) (agrees : Agrees z.code facts sites) (call : Caller)
    (calls : CallsSound z.code z.watch facts z.turns call) where
  abbrev s : Setting
  s = setting z facts sites call

  abbrev V : ExprTree → mean_of.Sense
  V x = mean.expr s x

  text_place_ok : (o : Option ℕ) → Sound z bare (mean.text_place facts o) (way_of.TextPlace z.graph o) to plus
  unfolding row_effect
  text_place_ok None = stuck_ok z bare to plus
  text_place_ok (Some number) =
      rw (sym agrees.statics) (pushes z (node.Text number 0) (Place (z.code.statics.globals + number) 0) (λ xs w. refl))

  chain_ok : {m : World → Out Scalar} {R : Path ℕ} {T : Path Ways} → Sound z bare m R to plus → Sound z bare (λ w. bind (m w) truth_value) T way none
      → SenseSound z (mean_of.sense_of_value m) (record (EmittedValue z.graph R) { truth = OneOf (ValueTruth z.graph R) T })
  chain_ok a b = record { value = a; place = stuck_ok z bare to plus; effect = done_ok z a; truth = one_of_ok z (tests_ok z a) b }

  many : (types : List ValueType) (x : ExprList) (args : Stack) (total : ℕ) → length args + expression_count x ≡ total → (w : World)
      → Holds (λ found. length found ≡ total) (mean.arguments_value s types x args w)
  many types e.no_exprs args total l w = omega (arith, l)
  many types (e.more_exprs x rest) args total l w =
      holds_bind _ (mean_of.handed_value (is_null_as (first_type types) x) (first_type types) (V x) w) _
      (λ v u. many (other_types types) rest (v ∷ args) total (omega (arith, l)) u)

  -- each operand of a chain does what it means
  abbrev OperandsSound : LinkList → Type 0
  OperandsSound e.no_links = Unit {0}
  OperandsSound (e.more_links token sign operand rest) = SenseSound z (V operand) (way_of.emitted_expression z.graph facts sites operand) × OperandsSound rest

  links_hold_ok : (left : Option ValueType) (x : LinkList) → OperandsSound x → {m : World → Out Scalar} {R : Path ℕ} {T : Path Ways}
      → Sound z bare m R to plus → Sound z bare (λ w. bind (m w) truth_value) T way none
      → Sound z bare (λ w. bind (bind (m w) (mean.links_value s left x)) truth_value) (way_of.LinksHold z.graph facts sites left R T x) way none
  links_hold_ok left e.no_links all {m = m} a b = same_meaning z (λ w. ap (λ o. bind o truth_value) (sym (bind_go (m w)))) b
  links_hold_ok left (e.more_links token sign operand rest) all {m = m} a b =
      same_meaning z (λ w. ap (λ o. bind o truth_value) (bind_bind (m w) _ _)) (links_hold_ok (facts.type_at token) rest all.1
      (seq z a (λ v. linked_ok z facts sites agrees call (joint_of_sign sign) token left
      (operand_type (is_null_beside (binary_of sign) left operand) (type_of facts operand)) v
      (null_or_ok z (is_null_beside (binary_of sign) left operand) all.0)))
      (linked_truth_ok z facts sites agrees call (joint_of_sign sign) token left
      (operand_type (is_null_beside (binary_of sign) left operand) (type_of facts operand)) a b
      (null_or_ok z (is_null_beside (binary_of sign) left operand) all.0) (null_truth_ok z (is_null_beside (binary_of sign) left operand) all.0)))

  -- the last one of several operators behind an operand leaves the old value or the new one, where nothing takes it
  last_step_ok : (known is_up : Bool) (token : ℕ) (of : Option ValueType) (v : Scalar)
      → Sound z (plus v) (λ w. value_discarded (bind (chosen_part known (stepped_behind s is_up token of v) stuck_run w) (λ x. Go x)))
      (DroppedValue z.graph (PathOrStuck z.graph known (Stepped z.graph facts sites is_up token of) then Nothing)) to none
  last_step_ok true is_up token of v =
      same_meaning z (λ w. ap (λ o. value_discarded o) (sym (bind_go (stepped_behind s is_up token of v w))))
      (grouped z (joined z (dropped_step_ok z facts sites agrees call is_up token of v)))
  last_step_ok false is_up token of v = record { runs = λ i k xs w le h. (stuck_ok z {A = Unit {0}} {K = ℕ} (plus v) to none).runs i k xs w le h.1.1 }

  step_ok : (known is_up : Bool) (token : ℕ) (of : Option ValueType) (v : Scalar)
      → Sound z (plus v) (chosen_part known (stepped_behind s is_up token of v) stuck_run)
      (PathOrStuck z.graph known (SteppedBehind z.graph facts sites is_up token of)) to plus
  step_ok known is_up token of v = only_ok z known (λ _. stepped_behind_ok z facts sites agrees call is_up token of v)

  untaken_step_ok : (known is_up : Bool) (token : ℕ) (of : Option ValueType) (rest : PostfixList) (v : Scalar)
      → ((x : Scalar) → Sound z (plus x) (λ w. value_discarded (mean.value_after_postfix s false (facts.type_at token) rest x w))
      (DroppedValue z.graph (way_of.PostfixOperatorsDo z.graph facts sites false false (facts.type_at token) rest)) to none)
      → Sound z (plus v) (λ w. value_discarded (bind (chosen_part known (stepped_behind s is_up token of v) stuck_run w) (mean.value_after_postfix s false (facts.type_at token) rest)))
      (DroppedValue z.graph (PathOrStuck z.graph known (SteppedAs z.graph facts sites (has_more rest) is_up token of)
      then way_of.PostfixOperatorsDo z.graph facts sites false false (facts.type_at token) rest)) to none
  untaken_step_ok known is_up token of e.no_postfix v a = last_step_ok known is_up token of v
  untaken_step_ok known is_up token of rest v a = seq_done z _ (step_ok known is_up token of v) a

  mutual
    pub expr_ok : (x : ExprTree) → SenseSound z (mean.expr s x) (way_of.emitted_expression z.graph facts sites x)
    expr_ok (e.Comma token operands) = last_ok operands
    expr_ok (e.Assign token sign target value) = valued_ok z
        (assign_ok z facts sites agrees call token (assignment_of_sign sign) (is_null_as (type_of facts target) value) (type_of facts target) (type_of facts value)
        (expr_ok target) (expr_ok value))
    expr_ok (e.Conditional token condition first second) = conditional_ok z facts sites agrees call token (expr_ok condition)
        (arm_ok z (is_null_as (facts.type_at token) first) (type_of facts first) (facts.type_at token) (expr_ok first))
        (arm_ok z (is_null_as (facts.type_at token) second) (type_of facts second) (facts.type_at token) (expr_ok second))
        (arm_effect_ok z (is_null_as (facts.type_at token) first) (type_of facts first) (facts.type_at token) (expr_ok first))
        (arm_effect_ok z (is_null_as (facts.type_at token) second) (type_of facts second) (facts.type_at token) (expr_ok second))
    expr_ok (e.Chain level first links) =
        let start = null_or_ok z (begins_null facts first links) (expr_ok first) in
        let left = operand_type (begins_null facts first links) (type_of facts first) in
        chain_ok (seq z start (λ v. links_ok left links v))
        (links_hold_ok left links (operands_ok links) start (null_truth_ok z (begins_null facts first links) (expr_ok first)))
    expr_ok (e.Cast token base stars operand) = cast_ok z (is_null_as (facts.type_at token) operand) (facts.type_at token) (expr_ok operand)
    expr_ok (e.Prefix token operator operand) =
        prefixed_ok z facts sites agrees call token operator (type_of facts operand) (facts.cells_at (token_of operand)) (expr_ok operand)
    expr_ok (e.SizeOfType token base stars) = size_ok z (facts.named_cells base stars)
    expr_ok (e.Postfix primary operators) =
        postfixed_ok z (ends_as_place (is_place primary) operators) (type_of facts (e.Postfix primary operators))
        (seq z (spot_ok z (is_place primary) (expr_ok primary)) (λ v. behind_ok (is_place primary) (type_of facts primary) operators v))
        (seq_done z _ (spot_ok z (is_place primary) (expr_ok primary)) (λ v. untaken_ok (is_place primary) (type_of facts primary) operators v))
    expr_ok (e.Name token name) = placed_ok z (facts.type_at token) (variable_ok z facts sites agrees call (facts.slot_at token))
    expr_ok (e.Call token name arguments) = call_sense_ok z facts sites agrees call calls token (called_as (facts.function_at token) name) (expression_count arguments)
        (record { sound = λ types. arguments_ok types arguments []; many = λ types w. many types arguments [] (expression_count arguments) (omega arith) w })
        (record { sound = λ want. lone_ok want arguments }) (formatted_ok arguments)
    expr_ok (e.Constant token kind value) = valued_ok z (push_ok z kind value)
    expr_ok (e.Strings token parts) = valued_ok z (text_place_ok (facts.text_at token))
    expr_ok (e.Paren token inner) = expr_ok inner
    expr_ok (e.Null token) = valued_ok z (null_ok z)
    expr_ok (e.EndOfFile token) = valued_ok z (push_ok z Int (negsuc 0))

    pub behind_ok : (known : Bool) (of : Option ValueType) (x : PostfixList) (v : Scalar)
        → Sound z (plus v) (mean.value_after_postfix s known of x v) (way_of.PostfixOperatorsDo z.graph facts sites true known of x) to plus
    behind_ok known of e.no_postfix v = unchanged z v
    behind_ok known of (e.index token i rest) v =
        seq z (settled_ok z known of v) (λ p. seq z (under z (plus p) (expr_ok i).value) (λ x.
        seq z (operate_ok z (operation op.Add of (type_of facts i)) p x) (λ q. behind_ok true (facts.type_at token) rest q)))
    behind_ok known of (e.member token name rest) v = seq z (member_ok z (facts.offset_at token) v) (λ q. behind_ok true (facts.type_at token) rest q)
    behind_ok known of (e.arrow token name rest) v =
        seq z (settled_ok z known of v) (λ p. seq z (member_ok z (facts.offset_at token) p) (λ q. behind_ok true (facts.type_at token) rest q))
    behind_ok known of (e.increment token rest) v =
        seq z (step_ok known true token of v) (λ x. behind_ok false (facts.type_at token) rest x)
    behind_ok known of (e.decrement token rest) v =
        seq z (step_ok known false token of v) (λ x. behind_ok false (facts.type_at token) rest x)

    -- where nothing takes their value
    untaken_ok : (known : Bool) (of : Option ValueType) (x : PostfixList) (v : Scalar)
        → Sound z (plus v) (λ w. value_discarded (mean.value_after_postfix s known of x v w)) (DroppedValue z.graph (way_of.PostfixOperatorsDo z.graph facts sites false known of x)) to none
    untaken_ok known of e.no_postfix v = done_ok z (unchanged z v)
    untaken_ok known of (e.index token i rest) v =
        seq_done z _ (settled_ok z known of v) (λ p. seq_done z _ (under z (plus p) (expr_ok i).value) (λ x.
        seq_done z _ (operate_ok z (operation op.Add of (type_of facts i)) p x) (λ q. untaken_ok true (facts.type_at token) rest q)))
    untaken_ok known of (e.member token name rest) v = seq_done z _ (member_ok z (facts.offset_at token) v) (λ q. untaken_ok true (facts.type_at token) rest q)
    untaken_ok known of (e.arrow token name rest) v =
        seq_done z _ (settled_ok z known of v) (λ p. seq_done z _ (member_ok z (facts.offset_at token) p) (λ q. untaken_ok true (facts.type_at token) rest q))
    untaken_ok known of (e.increment token rest) v = untaken_step_ok known true token of rest v (λ x. untaken_ok false (facts.type_at token) rest x)
    untaken_ok known of (e.decrement token rest) v = untaken_step_ok known false token of rest v (λ x. untaken_ok false (facts.type_at token) rest x)

    pub links_ok : (left : Option ValueType) (x : LinkList) (v : Scalar)
        → Sound z (plus v) (mean.links_value s left x v) (way_of.LinksDo z.graph facts sites left x) to plus
    links_ok left e.no_links v = unchanged z v
    links_ok left (e.more_links token sign operand rest) v =
        seq z (linked_ok z facts sites agrees call (joint_of_sign sign) token left
        (operand_type (is_null_beside (binary_of sign) left operand) (type_of facts operand)) v
        (null_or_ok z (is_null_beside (binary_of sign) left operand) (expr_ok operand)))
        (λ x. links_ok (facts.type_at token) rest x)

    operands_ok : (x : LinkList) → OperandsSound x
    operands_ok e.no_links = tt
    operands_ok (e.more_links token sign operand rest) = (expr_ok operand, operands_ok rest)

    pub last_ok : (x : ExprList) → SenseSound z (mean.last_sense s x) (way_of.CommaDoes z.graph facts sites x)
    last_ok e.no_exprs = valued_ok z (stuck_ok z bare to plus)
    last_ok (e.more_exprs x rest) = comma_ok z (expression_count rest) (expr_ok x) (last_ok rest)

    pub arguments_ok : (types : List ValueType) (x : ExprList) (args : Stack)
        → Sound z (λ xs. args ++ xs) (mean.arguments_value s types x args) (way_of.ArgumentsDo z.graph facts sites types x) to (λ found xs. found ++ xs)
    arguments_ok types e.no_exprs args = kept z args (λ found xs. found ++ xs)
    arguments_ok types (e.more_exprs x rest) args =
        seq z (under z (λ xs. args ++ xs) (handed_value_ok z (is_null_as (first_type types) x) (first_type types) (expr_ok x)))
        (λ v. arguments_ok (other_types types) rest (v ∷ args))

    pub lone_ok : (want : Option ValueType → Option ValueType) (x : ExprList)
        → Sound z bare (mean.lone_value s want x) (way_of.OneArgumentDoes z.graph facts sites want x) to plus
    lone_ok want e.no_exprs = stuck_ok z bare to plus
    lone_ok want (e.more_exprs x rest) =
        only_ok z (expression_count rest == 0) (λ _. handed_value_ok z (is_null_as (want (type_of facts x)) x) (want (type_of facts x)) (expr_ok x))

    pub formatted_ok : (x : ExprList) → Sound z bare (mean.arguments_printed s x) (way_of.FormatDoes z.graph facts sites x) to none
    formatted_ok e.no_exprs = stuck_ok z bare to none
    formatted_ok (e.more_exprs x rest) =
        subst (λ o. Sound z bare (print_by o (expression_count rest) (λ types. mean.arguments_value s types rest []))
        (PrintPath z.graph (number_of_text facts x) o (expression_count rest) (λ types. way_of.ArgumentsDo z.graph facts sites types rest)) to none)
        (sym (text_found facts x))
        (print_ok z facts sites agrees call calls (number_of_text facts x) (expression_count rest)
        (record { sound = λ types. arguments_ok types rest []; many = λ types w. many types rest [] (expression_count rest) (omega arith) w }))

  pub condition_ok : (token : ℕ) (x : ExprTree) → Sound z bare (mean.condition s token x) (way_of.Condition z.graph facts sites token x) way none
  condition_ok token x = decides_ok z facts sites agrees call token (expr_ok x).value (expr_ok x).truth
