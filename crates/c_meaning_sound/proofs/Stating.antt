-- Statements: what the walk accepts fits, for each of them, and for a function's body.
use Rattle.std.proofs.Common.{◌≡◌, ℕ, refl, ap, subst, sym, arith, ◌++◌, Some, None, ◌+◌, Bool, true, false, length, length-append}
use Rattle.std.specs.Prelude.{Option, IfSome, not, ◌||◌}
use Rattle.std.specs.List.{AllByRecursion}
use Rattle.std.proofs.lemmas.Bool.{false≢true, true≢false, not-false}
use Rattle.c_types_expressions.proofs.Given.{Gives, and_then, weaker}
use Rattle.sites.proofs.RisesBodies.{brace-length}
use Rattle.base_lists.proofs.Every.{all_first, all_second}
use Rattle.c_syntax.specs.Words.{SourceTree, ExprTree, ForStartTree, StatementTree, EntryList, EntriesAt, ExprAt, ForStartAt, StatementAt}
use Rattle.c_syntax.specs.Words.{ShapedEntries, ShapedExpr, ShapedForStart, ShapedStatement, Kinds, a_sign, a_word, declaration_kinds, entry_kinds}
use Rattle.c_syntax.specs.Words.{expr_kinds, for_start_kinds, optional_kinds, parenthesized_kinds, statement_kinds}
use Rattle.c_syntax.specs.StatementTree as s
use Rattle.c_syntax.specs.declared.token.Sign.TheVariants as sign
use Rattle.c_syntax.specs.declared.token.Word.TheVariants as word
use Rattle.c_types_rules.specs.declared.fault.FaultKind.TheVariants as fault
use Rattle.c_types_rules.specs.declared.operand.Operand.{Operand}
use Rattle.c_types_rules.specs.TypeTree as t
use Rattle.c_types_rules.specs.Words.{TypeTree, is_assignable, is_struct, is_void, is_scalar_value}
use Rattle.c_types_expressions.specs.declared.walk.Walk.{Walk}
use Rattle.c_types.specs.Answers.{note_at}
use Rattle.c_types_expressions.specs.Words.{walk_expr, names_after_scope, Walked, Done, Fine, ◌>>=◌, scope_closed, scope_opened, fault_if_wrong}
use Rattle.c_types_walk.specs.StatementWalk.{condition_checked, is_condition_part, is_struct_part, for_parts_checked, returned_value_checked, walk_entries, walk_for_start, walk_optional}
use Rattle.c_types_walk.specs.StatementWalk.{walk_statement}
use Rattle.c_meaning.specs.Words.{computed_type, strings_begun, strings_declared, strings_entered, strings_if, strings_in, strings_stated, has_value, token_of}
use Rattle.c_meaning_laws.specs.Rules.{IsValue}
use Rattle.c_meaning_laws.specs.TypedStatements.{TypedBeginning, TypedCondition, TypedEntries, TypedPart, TypedStatement, TypedTest}
use Rattle.c_meaning_laws.proofs.Ruled.{assignable_taken, known, scalar_usable}
use Rattle.c_meaning_sound.proofs.Declaring.{declaration_good, if_faulty, slots_more}
use Rattle.c_meaning_sound.proofs.Expressions.{walk_good}
use Rattle.c_meaning_sound.proofs.Forming.{Ended}
use Rattle.c_meaning_sound.proofs.Initialising.{spelled_lies}
use Rattle.c_meaning_sound.proofs.Marking.{after_scope, marks_scoped}
use Rattle.c_meaning_sound.proofs.Noting.{AllSlots, Part, Ready, Same, facts, none, nothing_noted, ready_after, ready_in, rightwards, so}
use Rattle.c_meaning_sound.proofs.Noting.{wider}
use Rattle.c_meaning_sound.proofs.Operands.{Fits, Good, accepted, typed_as}
use Rattle.c_meaning_sound.proofs.Printing.{whole_good}
use Rattle.c_meaning_sound.proofs.Texts.{Spelled}
use Rattle.sites.proofs.Rises.{paren-length}

-- parts of a `for` that aren't refused
middle_false : (a b c : Bool) → (a || not b || c) ≡ false → b ≡ true
middle_false true b c h = absurd (true≢false h)
middle_false false true c h = refl
middle_false false false c h = absurd (true≢false h)

pub for_long : (start condition step body : Kinds)
    → length (parenthesized_kinds (start ++ condition ++ a_sign sign.Semicolon ++ step) ++ body) ≡ length start + length condition + length step + 3 + length body
for_long start condition step body = omega (
  arith,
  length-append (parenthesized_kinds (start ++ condition ++ a_sign sign.Semicolon ++ step)) body,
  paren-length (start ++ condition ++ a_sign sign.Semicolon ++ step),
  length-append (start ++ condition ++ a_sign sign.Semicolon) step,
  length-append (start ++ condition) (a_sign sign.Semicolon),
  length-append start condition,
)

-- a function without a result
no_value : (of : TypeTree) (w : Walk) → is_void of ≡ true → has_value (computed_type w.structs of) ≡ false
no_value t.Void w h = refl
no_value of w h = absurd (false≢true h)

scoped_same : {w v : Walk} {token : ℕ} → Same (scope_opened w) v token → Same w (after_scope v) token
scoped_same s = record { types = s.types; variables = s.variables; offsets = s.offsets; functions = s.functions }

module _ {tree : SourceTree} {z : Walk} where
  -- within a scope of its own
  opened_ready : {lo hi : ℕ} {w : Walk} → Ready tree z lo hi w → Ready tree z lo hi (scope_opened w)
  opened_ready r = record {
    types = r.types;
    variables_at = r.variables_at;
    offsets_at = r.offsets_at;
    functions_at = r.functions_at;
    fresh = r.fresh;
    bare = r.bare;
    wholes = r.wholes;
    long = r.long;
    slots = (tt, r.slots);
    grows = r.grows;
    structs = r.structs;
    functions = r.functions;
    tags = r.tags;
  }

  scoped : {lo hi : ℕ} {w v : Walk} {P : ℕ → Type 0} → Part tree z lo hi (scope_opened w) v P → Part tree z lo hi w (after_scope v) P
  scoped {w = w} {v = v} p = record {
    keeps = record {
      types = p.keeps.types;
      variables_at = p.keeps.variables_at;
      offsets_at = p.keeps.offsets_at;
      functions_at = p.keeps.functions_at;
      structs = p.keeps.structs;
      tags = p.keeps.tags;
      functions = p.keeps.functions;
      scope = ap names_after_scope p.keeps.scope;
      variables = p.keeps.variables;
      declared = p.keeps.declared;
      locals = p.keeps.locals;
      count = p.keeps.count;
      wholes = p.keeps.wholes;
      long = p.keeps.long;
      slots = λ h. subst (AllSlots v.locals v.variables) (sym p.keeps.scope)
          (slots_more w.locals v.locals w.variables v.variables w.names p.keeps.locals p.keeps.variables h);
    };
    below = λ token l. scoped_same (p.below token l);
    above = λ token l. scoped_same (p.above token l);
    holds = λ c g. p.holds c (record {
      notes = λ token l m. let here = g.notes token l m in
          record { types = here.types; variables = here.variables; offsets = here.offsets; functions = here.functions };
      variables = g.variables;
      declared = g.declared;
      functions = g.functions;
      locals = g.locals;
    });
    marks = marks_scoped p.marks;
  }

module _ (tree : SourceTree) (z : Walk) (ends : Ended tree z) where
  abbrev pub GoodPart : ℕ → ℕ → (ℕ → Type 0) → Walk → Done → Walk → Type 0
  GoodPart at hi P w done v = Part tree z at hi w v P

  -- an expression in a statement
  expr_good : (x : ExprTree) (at : ℕ) (w : Walk) → ShapedExpr x → ExprAt at x → AllByRecursion (Spelled tree) (strings_in x)
      → Ready tree z at (at + length (expr_kinds x)) w → Gives (walk_expr x w) (Good tree z at x w)
  expr_good x at w q p l r = walk_good tree z ends x at w q p (spelled_lies tree z ends (strings_in x) l) r

  condition_typed : (c : ℕ) (x : ExprTree) (a : Operand) → is_scalar_value a ≡ true → Fits tree z c x → note_at z.types (token_of x) ≡ Some a.ctype
      → TypedCondition (facts tree z) none c x
  condition_typed c x a h f n = (f, subst IsValue (sym (typed_as tree z (token_of x) a.ctype n)) (scalar_usable z.structs a.ctype h))

  conditioned_good : {Q : Done → Walk → Type 0} (token : ℕ) (a : Operand) (w : Walk) → (is_scalar_value a ≡ true → Q tt w) → Gives (condition_checked token a w) Q
  conditioned_good token a w h =
      if_faulty (not (is_scalar_value a)) (Fine tt w) fault.Operands token (λ b. record { by = h (not-false (is_scalar_value a) b) })

  -- parts that may be left out
  record GoodOption (at hi : ℕ) (x : Option ExprTree) (w : Walk) (o : Option Operand) (v : Walk) : Type 0 where
    part : Part tree z at hi w v (λ c. TypedPart (facts tree z) none c x × (is_condition_part o ≡ true → TypedTest (facts tree z) none c x))

  optional_good : (x : Option ExprTree) (at : ℕ) (w : Walk) → IfSome x ShapedExpr → IfSome x (ExprAt at) → AllByRecursion (Spelled tree) (strings_if x)
      → Ready tree z at (at + length (optional_kinds expr_kinds x)) w
      → Gives (walk_optional x w) (GoodOption at (at + length (optional_kinds expr_kinds x)) x w)
  optional_good None at w q p l r =
      record { by = record { part = nothing_noted at (at + length (optional_kinds expr_kinds None)) w (λ c. (tt, λ h. tt)) } }
  optional_good (Some x) at w q p l r = and_then (expr_good x at w q p l r) (λ a v g. record {
    by = record { part = so g.part (λ c n. (n.0, λ h. condition_typed c x a h n.0 n.1)) };
  })

  for_start_good : (x : ForStartTree) (at : ℕ) (w : Walk) → ShapedForStart x → ForStartAt at x → AllByRecursion (Spelled tree) (strings_begun x)
      → Ready tree z at (at + length (for_start_kinds x)) w
      → Gives (walk_for_start x w) (λ o v. Part tree z at (at + length (for_start_kinds x)) w v (λ c. TypedBeginning (facts tree z) none c x))
  for_start_good (s.Declares declaration) at w q p l r =
      and_then (declaration_good tree z ends declaration at w q p l r) (λ done v g. record { by = g })
  for_start_good (s.Computes x) at w q p l r =
      let long : length (for_start_kinds (s.Computes x)) ≡ length (optional_kinds expr_kinds x) + 1 = length-append (optional_kinds expr_kinds x) (a_sign sign.Semicolon) in
      weaker (optional_good x at w q p l (ready_in r at (at + length (optional_kinds expr_kinds x)) (omega arith) (omega (arith, long)))) (λ o v g.
      so (wider g.part (omega arith) (omega (arith, long))) (λ c n. n.0))

  returned_good : {Q : Done → Walk → Type 0} (token : ℕ) (gives : TypeTree) (a : Operand) (w : Walk) → (is_assignable gives a ≡ true → Q tt w)
      → Gives (returned_value_checked token gives a w) Q
  returned_good token gives a w h =
      if_faulty (is_void gives) (fault_if_wrong (not (is_assignable gives a)) fault.Operands token w) fault.Jump token (λ b.
      if_faulty (not (is_assignable gives a)) (Fine tt w) fault.Operands token (λ k. record { by = h (not-false (is_assignable gives a) k) }))

  unless_then : {A : Type 0} {Q : A → Walk → Type 0} (b : Bool) (token : ℕ) (w : Walk) (k : Done → Walk → Walked A) → (b ≡ false → Gives (k tt w) Q)
      → Gives (fault_if_wrong b fault.Operands token w >>= k) Q
  unless_then true token w k h = record { by = tt }
  unless_then false token w k h = h refl

  looped_then : {A : Type 0} {Q : A → Walk → Type 0} (token : ℕ) (x y o : Option Operand) (w : Walk) (k : Done → Walk → Walked A)
      → (is_condition_part y ≡ true → Gives (k tt w) Q) → Gives (for_parts_checked token x y o w >>= k) Q
  looped_then token x y o w k h = unless_then (is_struct_part x || not (is_condition_part y) || is_struct_part o) token w k
      (λ e. h (middle_false (is_struct_part x) (is_condition_part y) (is_struct_part o) e))

  abbrev Stated : TypeTree → Bool → StatementTree → ℕ → Type 0
  Stated gives looping x c = TypedStatement (facts tree z) none c (computed_type z.structs gives) looping x

  abbrev Entered : TypeTree → Bool → EntryList → ℕ → Type 0
  Entered gives looping xs c = TypedEntries (facts tree z) none c (computed_type z.structs gives) looping xs

  mutual
    pub statement_good : (x : StatementTree) (at : ℕ) (gives : TypeTree) (looping : Bool) (w : Walk) → ShapedStatement x → StatementAt at x
        → AllByRecursion (Spelled tree) (strings_stated x) → Ready tree z at (at + length (statement_kinds x)) w
        → Gives (walk_statement gives looping x w) (GoodPart at (at + length (statement_kinds x)) (Stated gives looping x) w)
    statement_good (s.Block token xs) at gives looping w q p l r =
        let long : length (statement_kinds (s.Block token xs)) ≡ length (entry_kinds xs) + 2 = brace-length (entry_kinds xs) in
        and_then (entries_good xs (at + 1) gives looping (scope_opened w) q p.1 l
        (opened_ready (ready_in r (at + 1) (at + 1 + length (entry_kinds xs)) (omega arith) (omega (arith, long))))) (λ done v g. record {
          by = wider {lo = at + 1} {hi = at + 1 + length (entry_kinds xs)} (scoped g) (omega arith) (omega (arith, long));
        })
    statement_good (s.Empty token) at gives looping w q p l r = record { by = nothing_noted at (at + length (statement_kinds (s.Empty token))) w (λ c. tt) }
    statement_good (s.Expr token x) at gives looping w q p l r =
        let long : length (statement_kinds (s.Expr token x)) ≡ length (expr_kinds x) + 1 = length-append (expr_kinds x) (a_sign sign.Semicolon) in
        and_then (whole_good tree z ends x at w q p.1 l (ready_in r at (at + length (expr_kinds x)) (omega arith) (omega (arith, long)))) (λ a v g.
        if_faulty (is_struct a.ctype) (Fine tt v) fault.Operands token (λ h. record { by = wider g (omega arith) (omega (arith, long)) }))
    statement_good (s.If token condition first) at gives looping w q p l r =
        let long : length (statement_kinds (s.If token condition first)) ≡ length (expr_kinds condition) + 3 + length (statement_kinds first) =
        omega (arith, length-append (parenthesized_kinds (expr_kinds condition)) (statement_kinds first), paren-length (expr_kinds condition)) in
        and_then (expr_good condition (at + 2) w q.0 p.1 (all_first (Spelled tree) (strings_in condition) (strings_stated first) l)
        (ready_in r (at + 2) (at + 2 + length (expr_kinds condition)) (omega arith) (omega (arith, long)))) (λ a v g.
        and_then (statement_good first (at + 2 + length (expr_kinds condition) + 1) gives looping v q.1 p.2
        (all_second (Spelled tree) (strings_in condition) (strings_stated first) l)
        (ready_after r g.part (omega arith) (omega arith) (omega arith)
        (at + 2 + length (expr_kinds condition) + 1 + length (statement_kinds first)) (omega (arith, long)))) (λ done u k.
        conditioned_good token a u (λ h.
        so (wider {lo = at + 2} {hi = at + 2 + length (expr_kinds condition) + 1 + length (statement_kinds first)}
        (rightwards {lo = at + 2} {mid = at + 2 + length (expr_kinds condition) + 1} (wider g.part (omega arith) (omega arith)) k (omega arith) (omega arith))
        (omega arith) (omega (arith, long))) (λ c n. (condition_typed c condition a h n.0.0 n.0.1, n.1)))))
    statement_good (s.IfElse token condition first second) at gives looping w q p l r =
        let long : length (statement_kinds (s.IfElse token condition first second)) ≡ length (expr_kinds condition) + 3 + length (statement_kinds first) + 1
        + length (statement_kinds second) = omega (
          arith,
          length-append (parenthesized_kinds (expr_kinds condition) ++ statement_kinds first ++ a_word word.Else) (statement_kinds second),
          length-append (parenthesized_kinds (expr_kinds condition) ++ statement_kinds first) (a_word word.Else),
          length-append (parenthesized_kinds (expr_kinds condition)) (statement_kinds first),
          paren-length (expr_kinds condition),
        ) in
        and_then (expr_good condition (at + 2) w q.0 p.1 (all_first (Spelled tree) (strings_in condition) (strings_stated first)
        (all_first (Spelled tree) (strings_in condition ++ strings_stated first) (strings_stated second) l))
        (ready_in r (at + 2) (at + 2 + length (expr_kinds condition)) (omega arith) (omega (arith, long)))) (λ a v g.
        and_then (statement_good first (at + 2 + length (expr_kinds condition) + 1) gives looping v q.1 p.2
        (all_second (Spelled tree) (strings_in condition) (strings_stated first)
        (all_first (Spelled tree) (strings_in condition ++ strings_stated first) (strings_stated second) l))
        (ready_after r g.part (omega arith) (omega arith) (omega arith)
        (at + 2 + length (expr_kinds condition) + 1 + length (statement_kinds first)) (omega (arith, long)))) (λ done u k.
        let two = rightwards {lo = at + 2} {mid = at + 2 + length (expr_kinds condition) + 1}
        {hi = at + 2 + length (expr_kinds condition) + 1 + length (statement_kinds first)} (wider g.part (omega arith) (omega arith)) k (omega arith)
        (omega arith) in
        and_then (statement_good second (at + 2 + length (expr_kinds condition) + 1 + length (statement_kinds first) + 1) gives looping u q.3 p.3
        (all_second (Spelled tree) (strings_in condition ++ strings_stated first) (strings_stated second) l)
        (ready_after r two (omega arith) (omega arith) (omega arith)
        (at + 2 + length (expr_kinds condition) + 1 + length (statement_kinds first) + 1 + length (statement_kinds second)) (omega (arith, long)))) (λ next y m.
        conditioned_good token a y (λ h.
        so (wider {lo = at + 2} {hi = at + 2 + length (expr_kinds condition) + 1 + length (statement_kinds first) + 1 + length (statement_kinds second)}
        (rightwards {lo = at + 2} {mid = at + 2 + length (expr_kinds condition) + 1 + length (statement_kinds first) + 1}
        (wider two (omega arith) (omega arith)) m
        (omega arith) (omega arith)) (omega arith) (omega (arith, long))) (λ c n. (condition_typed c condition a h n.0.0.0 n.0.0.1, n.0.1, n.1))))))
    statement_good (s.While token condition body) at gives looping w q p l r =
        let long : length (statement_kinds (s.While token condition body)) ≡ length (expr_kinds condition) + 3 + length (statement_kinds body) =
        omega (arith, length-append (parenthesized_kinds (expr_kinds condition)) (statement_kinds body), paren-length (expr_kinds condition)) in
        and_then (expr_good condition (at + 2) w q.0 p.1 (all_first (Spelled tree) (strings_in condition) (strings_stated body) l)
        (ready_in r (at + 2) (at + 2 + length (expr_kinds condition)) (omega arith) (omega (arith, long)))) (λ a v g.
        and_then (statement_good body (at + 2 + length (expr_kinds condition) + 1) gives true v q.1 p.2
        (all_second (Spelled tree) (strings_in condition) (strings_stated body) l)
        (ready_after r g.part (omega arith) (omega arith) (omega arith)
        (at + 2 + length (expr_kinds condition) + 1 + length (statement_kinds body)) (omega (arith, long)))) (λ done u k.
        conditioned_good token a u (λ h.
        so (wider {lo = at + 2} {hi = at + 2 + length (expr_kinds condition) + 1 + length (statement_kinds body)}
        (rightwards {lo = at + 2} {mid = at + 2 + length (expr_kinds condition) + 1} (wider g.part (omega arith) (omega arith)) k (omega arith) (omega arith))
        (omega arith) (omega (arith, long))) (λ c n. (condition_typed c condition a h n.0.0 n.0.1, n.1)))))
    statement_good (s.Do token body condition) at gives looping w q p l r =
        let long : length (statement_kinds (s.Do token body condition)) ≡ length (statement_kinds body) + length (expr_kinds condition) + 5 = omega (
          arith,
          length-append (statement_kinds body ++ a_word word.While ++ parenthesized_kinds (expr_kinds condition)) (a_sign sign.Semicolon),
          length-append (statement_kinds body ++ a_word word.While) (parenthesized_kinds (expr_kinds condition)),
          length-append (statement_kinds body) (a_word word.While),
          paren-length (expr_kinds condition),
        ) in
        and_then (statement_good body (at + 1) gives true w q.0 p.1 (all_first (Spelled tree) (strings_stated body) (strings_in condition) l)
        (ready_in r (at + 1) (at + 1 + length (statement_kinds body)) (omega arith) (omega (arith, long)))) (λ done v g.
        and_then (expr_good condition (at + 1 + length (statement_kinds body) + 2) v q.1 p.2
        (all_second (Spelled tree) (strings_stated body) (strings_in condition) l)
        (ready_after r g (omega arith) (omega arith) (omega arith)
        (at + 1 + length (statement_kinds body) + 2 + length (expr_kinds condition)) (omega (arith, long)))) (λ a u k.
        conditioned_good token a u (λ h.
        so (wider {lo = at + 1} {hi = at + 1 + length (statement_kinds body) + 2 + length (expr_kinds condition)}
        (rightwards {lo = at + 1} {mid = at + 1 + length (statement_kinds body) + 2} (wider g (omega arith) (omega arith)) k.part (omega arith) (omega arith))
        (omega arith) (omega (arith, long))) (λ c n. (condition_typed c condition a h n.1.0 n.1.1, n.0)))))
    statement_good (s.For token start condition step body) at gives looping w q p l r =
        let heads : AllByRecursion (Spelled tree) (strings_begun start ++ strings_if condition ++ strings_if step) =
        all_first (Spelled tree) (strings_begun start ++ strings_if condition ++ strings_if step) (strings_stated body) l in
        let long : length (statement_kinds (s.For token start condition step body)) ≡ length (for_start_kinds start) + length (optional_kinds expr_kinds condition)
        + length (optional_kinds expr_kinds step) + 4 + length (statement_kinds body) = omega (
          arith,
          for_long (for_start_kinds start) (optional_kinds expr_kinds condition) (optional_kinds expr_kinds step) (statement_kinds body),
        ) in
        let inner : Ready tree z at (at + length (statement_kinds (s.For token start condition step body))) (scope_opened w) = opened_ready r in
        and_then (for_start_good start (at + 2) (scope_opened w) q.0 p.1 (all_first (Spelled tree) (strings_begun start) (strings_if condition)
        (all_first (Spelled tree) (strings_begun start ++ strings_if condition) (strings_if step) heads))
        (ready_in inner (at + 2) (at + 2 + length (for_start_kinds start)) (omega arith) (omega (arith, long)))) (λ o v g.
        and_then (optional_good condition (at + 2 + length (for_start_kinds start)) v q.1 p.2
        (all_second (Spelled tree) (strings_begun start) (strings_if condition)
        (all_first (Spelled tree) (strings_begun start ++ strings_if condition) (strings_if step) heads))
        (ready_after inner g (omega arith) (omega arith) (omega arith)
        (at + 2 + length (for_start_kinds start) + length (optional_kinds expr_kinds condition)) (omega (arith, long)))) (λ i u k.
        let two = rightwards {lo = at + 2} {mid = at + 2 + length (for_start_kinds start)}
        {hi = at + 2 + length (for_start_kinds start) + length (optional_kinds expr_kinds condition)} g k.part (omega arith) (omega arith) in
        and_then (optional_good step (at + 2 + length (for_start_kinds start) + length (optional_kinds expr_kinds condition) + 1) u q.2 p.3
        (all_second (Spelled tree) (strings_begun start ++ strings_if condition) (strings_if step) heads)
        (ready_after inner two (omega arith) (omega arith) (omega arith)
        (at + 2 + length (for_start_kinds start) + length (optional_kinds expr_kinds condition) + 1 + length (optional_kinds expr_kinds step)) (omega (arith, long))))
        (λ j y m.
        let three = rightwards {lo = at + 2} {mid = at + 2 + length (for_start_kinds start) + length (optional_kinds expr_kinds condition) + 1}
        {hi = at + 2 + length (for_start_kinds start) + length (optional_kinds expr_kinds condition) + 1 + length (optional_kinds expr_kinds step)}
        (wider two (omega arith) (omega arith)) m.part (omega arith) (omega arith) in
        and_then (statement_good body
        (at + 2 + length (for_start_kinds start) + length (optional_kinds expr_kinds condition) + 1 + length (optional_kinds expr_kinds step) + 1)
        gives true y q.3 p.4 (all_second (Spelled tree) (strings_begun start ++ strings_if condition ++ strings_if step) (strings_stated body) l)
        (ready_after inner three (omega arith) (omega arith) (omega arith)
        (at + 2 + length (for_start_kinds start) + length (optional_kinds expr_kinds condition) + 1 + length (optional_kinds expr_kinds step) + 1
        + length (statement_kinds body)) (omega (arith, long)))) (λ done x n.
        looped_then token o i j x scope_closed (λ h. record {
          by = so (wider {lo = at + 2} {hi = at + 2 + length (for_start_kinds start) + length (optional_kinds expr_kinds condition) + 1
              + length (optional_kinds expr_kinds step) + 1 + length (statement_kinds body)} (scoped (rightwards {lo = at + 2}
              {mid = at + 2 + length (for_start_kinds start) + length (optional_kinds expr_kinds condition) + 1 + length (optional_kinds expr_kinds step) + 1}
              (wider three (omega arith) (omega arith)) n (omega arith) (omega arith))) (omega arith) (omega (arith, long)))
              (λ c f. (f.0.0.0, f.0.0.1.1 h, f.0.1.0, f.1));
        })))))
    statement_good (s.Return token None) at gives looping w q p l r =
        if_faulty (not (is_void gives)) (Fine tt w) fault.Jump token (λ h. record {
          by = nothing_noted at (at + length (statement_kinds (s.Return token None))) w (λ c. no_value gives z (not-false (is_void gives) h));
        })
    statement_good (s.Return token (Some x)) at gives looping w q p l r =
        let long : length (statement_kinds (s.Return token (Some x))) ≡ 1 + length (expr_kinds x) + 1 =
        omega (arith, length-append (expr_kinds x) (a_sign sign.Semicolon)) in
        and_then (expr_good x (at + 1) w q p.1 l (ready_in r (at + 1) (at + 1 + length (expr_kinds x)) (omega arith) (omega (arith, long)))) (λ a v g.
        returned_good token gives a v (λ h.
        so (wider g.part (omega arith) (omega (arith, long)))
        (λ c n. (n.0, accepted tree z (known z.structs gives) x a g.null n.1 (assignable_taken z.structs gives a h)))))
    statement_good (s.Break token) at gives looping w q p l r =
        if_faulty (not looping) (Fine tt w) fault.Jump token (λ h. record {
          by = nothing_noted at (at + length (statement_kinds (s.Break token))) w (λ c. not-false looping h);
        })
    statement_good (s.Continue token) at gives looping w q p l r =
        if_faulty (not looping) (Fine tt w) fault.Jump token (λ h. record {
          by = nothing_noted at (at + length (statement_kinds (s.Continue token))) w (λ c. not-false looping h);
        })

    pub entries_good : (xs : EntryList) (at : ℕ) (gives : TypeTree) (looping : Bool) (w : Walk) → ShapedEntries xs → EntriesAt at xs
        → AllByRecursion (Spelled tree) (strings_entered xs) → Ready tree z at (at + length (entry_kinds xs)) w
        → Gives (walk_entries gives looping xs w) (GoodPart at (at + length (entry_kinds xs)) (Entered gives looping xs) w)
    entries_good s.no_entries at gives looping w q p l r = record { by = nothing_noted at (at + length (entry_kinds s.no_entries)) w (λ c. tt) }
    entries_good (s.declared declaration rest) at gives looping w q p l r =
        let long : length (entry_kinds (s.declared declaration rest)) ≡ length (declaration_kinds declaration) + length (entry_kinds rest) =
        length-append (declaration_kinds declaration) (entry_kinds rest) in
        and_then (declaration_good tree z ends declaration at w q.0 p.0 (all_first (Spelled tree) (strings_declared declaration) (strings_entered rest) l)
        (ready_in r at (at + length (declaration_kinds declaration)) (omega arith) (omega (arith, long)))) (λ done v g.
        weaker (entries_good rest (at + length (declaration_kinds declaration)) gives looping v q.1 p.1
        (all_second (Spelled tree) (strings_declared declaration) (strings_entered rest) l)
        (ready_after r g (omega arith) (omega arith) (omega arith) (at + length (declaration_kinds declaration) + length (entry_kinds rest))
        (omega (arith, long))))
        (λ next u k.
        wider {lo = at} {hi = at + length (declaration_kinds declaration) + length (entry_kinds rest)}
        (rightwards {lo = at} {mid = at + length (declaration_kinds declaration)} g k (omega arith) (omega arith)) (omega arith) (omega (arith, long))))
    entries_good (s.stated x rest) at gives looping w q p l r =
        let long : length (entry_kinds (s.stated x rest)) ≡ length (statement_kinds x) + length (entry_kinds rest) =
        length-append (statement_kinds x) (entry_kinds rest) in
        and_then (statement_good x at gives looping w q.0 p.0 (all_first (Spelled tree) (strings_stated x) (strings_entered rest) l)
        (ready_in r at (at + length (statement_kinds x)) (omega arith) (omega (arith, long)))) (λ done v g.
        weaker (entries_good rest (at + length (statement_kinds x)) gives looping v q.1 p.1
        (all_second (Spelled tree) (strings_stated x) (strings_entered rest) l)
        (ready_after r g (omega arith) (omega arith) (omega arith) (at + length (statement_kinds x) + length (entry_kinds rest)) (omega (arith, long))))
        (λ next u k.
        wider {lo = at} {hi = at + length (statement_kinds x) + length (entry_kinds rest)}
        (rightwards {lo = at} {mid = at + length (statement_kinds x)} g k (omega arith) (omega arith)) (omega arith) (omega (arith, long))))

  -- the body of a function that gives such a value
  pub body_good : (body : EntryList) (at : ℕ) (gives : TypeTree) (w : Walk) → ShapedEntries body → EntriesAt at body
      → AllByRecursion (Spelled tree) (strings_entered body) → Ready tree z at (at + length (entry_kinds body)) w
      → Gives (walk_entries gives false body w) (λ done v. Part tree z at (at + length (entry_kinds body)) w v
      (λ c. TypedEntries (facts tree z) none c (computed_type z.structs gives) false body))
  body_good body at gives w q p l r = entries_good body at gives false w q p l r
