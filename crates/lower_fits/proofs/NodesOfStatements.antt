-- Where the types of a body fit, each node on its paths is one that may stand in a program.
use Rattle.std.proofs.Common.{◌≡◌, ℕ, suc, ◌≤◌, ◌<◌, ◌+◌, refl, sym, subst, inl, inr, arith, List, [], ◌∷◌, ◌++◌, Some, None, Bool, true, false, length, length-append}
use Rattle.std.specs.Prelude.{Option, IfSome, pos}
use Rattle.std.proofs.lemmas.Option.{same_Some}
use Rattle.sites.proofs.RisesBodies.{declarator-length}
use Rattle.cbi_base.specs.declared.scalar.Kind.TheVariants.{Int}
use Rattle.cbi_base.specs.declared.scalar.Want.{Want}
use Rattle.c_syntax.specs.declared.token.Sign.TheVariants as sign
use Rattle.c_syntax.specs.declared.token.Word.TheVariants as word
use Rattle.c_syntax.specs.ExprTree as e
use Rattle.c_syntax.specs.Words.{ExprTree, ExprList, DeclarationAt, EachAt, EntriesAt, ExprAt, ForStartAt, InitialAt, StartAt, StatementAt, Kinds, after_commas}
use Rattle.c_syntax.specs.Words.{a_sign, a_word, base_kinds, comma_kinds, declaration_kinds, declarator_kinds, entry_kinds, expr_kinds, exprs_kinds}
use Rattle.c_syntax.specs.Words.{for_start_kinds, optional_kinds, parenthesized_kinds, start_kinds, statement_kinds, with_commas, InitialTree, StartTree, DeclarationTree}
use Rattle.c_syntax.specs.Words.{ForStartTree, StatementTree, EntryList}
use Rattle.c_syntax.specs.StatementTree as tree
use Rattle.flow.specs.declared.node.Node.TheVariants as node
use Rattle.flow.specs.declared.program.Text.{Text}
use Rattle.flow.specs.declared.scope.Bounds.{Bounds}
use Rattle.flow.specs.declared.scope.Names.{Names}
use Rattle.flow.specs.declared.site.Slot.{Slot}
use Rattle.flow.specs.declared.site.Slot.TheVariants as slot
use Rattle.flow.specs.Nodes.{step_limit}
use Rattle.c_meaning.specs.declared.value_type.ValueType.{ValueType}
use Rattle.c_meaning.specs.declared.value_type.ValueType.TheVariants as type
use Rattle.c_meaning.specs.Words.{is_null_as, Facts, Signature, Sites, equals_token, want_of, text_of_string, expression_count, type_of}
use Rattle.lower_relation.specs.Expressions.{number_of_text}
use Rattle.lower_relation.specs.Functions as f
use Rattle.lower_relation.specs.Initialisers as i
use Rattle.lower_relation.specs.Operators as o
use Rattle.lower_relation.specs.Paths.{Graph, Path, Exits, Ways}
use Rattle.lower_relation.specs.Statements as s
use Rattle.lower_relation.specs.Statements.{GoesOn}
use Rattle.c_meaning_laws.specs.Typed.{HasSlot}
use Rattle.c_meaning_laws.specs.TypedStatements.{IsLocal, TypedBeginning, TypedEntries, TypedInitial, TypedPart, TypedStarts, TypedStatement, TypedTest, TypedValue, TypedWhole}
use Rattle.sites.proofs.Rises.{paren-length}
use Rattle.c_meaning_sound.proofs.Initialising.{equals_kinds}
use Rattle.c_meaning_sound.proofs.Spotting.{elements_all}
use Rattle.lower_fits.specs.Fitting.{FitsAsBody, Formatted, FormattedEntries, FormattedStatement, fitting_subgraph}
use Rattle.lower_fits.proofs.NodesOfExpressions as fit
use Rattle.lower_fits.proofs.Leading.{Into, before_into, either_into, same, then_into}
use Rattle.lower_fits.proofs.FittingNodes.{clear_fits, spell_fits, zero_fits}
use Rattle.lower_fits.proofs.Standing.{Inside, Known, Lies, after, all_lie, back, counted, enclosed, front, inside}

module _ (names : Names) (bounds : Bounds) (G : Graph) where
  -- the part of the graph whose nodes fit
  abbrev H : Graph
  H = fitting_subgraph names bounds G

  -- the condition before the body
  while_into : {C C' : Path Ways} {B B' : Path Exits} → Into C C' → Into B B' → Into (s.WhileLoop G C B) (s.WhileLoop H C' B')
  while_into c b = record { leads = λ at k h. (h.0, h.1, c.leads at _ h.2, b.leads h.0 _ h.3, (h.4, refl)) }

  -- the condition behind the body
  do_into : {C C' : Path Ways} {B B' : Path Exits} → Into C C' → Into B B' → Into (s.DoWhileLoop G C B) (s.DoWhileLoop H C' B')
  do_into c b = record { leads = λ at k h. (h.0, h.1, b.leads at _ h.2, c.leads h.0 _ h.3, (h.4, refl)) }

  -- the condition before the body, and a third part behind it
  for_into : {C C' : Path Ways} {S S' : Path ℕ} {B B' : Path Exits} → Into C C' → Into S S' → Into B B' → Into (s.ForLoop G C S B) (s.ForLoop H C' S' B')
  for_into c t b = record { leads = λ at k h. (h.0, h.1, h.2, c.leads at _ h.3, b.leads h.0 _ h.4, t.leads h.2 h.1 h.5, (h.6, refl)) }

  -- a function with a result is left with it, and no other one comes to a value
  gives_into : (value : Bool) (at : ℕ) → f.GivesAt G value at → f.GivesAt H value at
  gives_into true at h = (h, refl)
  gives_into false at h = (fit.stuck names bounds G {K = ℕ}).leads at 0 h

  -- what comes after the last statement
  ends_into : (is_main value : Bool) (k : Exits) → f.EndsAt G is_main value k → f.EndsAt H is_main value k
  ends_into true true k h = (fit.pushes names bounds G Int (pos 0) refl).leads k.next k.gives h
  ends_into true false k h = h
  ends_into false value k h = h

  -- all ways out of a function
  pub leaves_into : (is_main value : Bool) (k : Exits) → f.FunctionExits G is_main value k → f.FunctionExits H is_main value k
  leaves_into is_main value k h = (
    gives_into value k.gives h.0,
    (h.1, refl),
    ends_into is_main value k h.2,
    (fit.stuck names bounds G {K = ℕ}).leads k.breaks 0 h.3,
    (fit.stuck names bounds G {K = ℕ}).leads k.continues 0 h.4,
  )

  -- and where it begins
  pub comes_into : (at k : ℕ) → f.ComesTo G at k → f.ComesTo H at k
  comes_into at k (f.Stays e) = f.Stays e
  comes_into at k (f.Passes h) = f.Passes ((fit.free names bounds G (node.Pass 0) tt).leads at k h)

  module _ (facts : Facts) (sites : Sites) (lo hi : ℕ) (known : Known names bounds facts sites lo hi) where
    -- the nodes of an expression fit
    abbrev Fits : ExprTree → Type 0
    Fits y = fit.Fits names bounds G facts sites lo hi known y

    -- a variable of the function is a variable
    has_slot : (at : Option Slot) → IsLocal facts sites bounds.locals at → HasSlot facts sites bounds.locals at
    has_slot None h = absurd h
    has_slot (Some (slot.Local index)) h = h
    has_slot (Some (slot.Global index)) h = tt

    -- the object of a variable of the function
    own : (token : ℕ) → IsLocal facts sites bounds.locals (facts.slot_at token) → Into (o.Variable G (facts.slot_at token)) (o.Variable H (facts.slot_at token))
    own token local = fit.variable names bounds G facts sites lo hi known token (facts.slot_at token) refl (has_slot (facts.slot_at token) local)

    -- what is done to a variable of the function
    on_local : (at : Option Slot) → IsLocal facts sites bounds.locals at → {R R' : ℕ → Path ℕ} →
        ((index : ℕ) → index < bounds.locals → Into (R index) (R' index)) → Into (i.OnLocal G at R) (i.OnLocal H at R')
    on_local None local a = absurd local
    on_local (Some (slot.Global index)) local a = absurd local
    on_local (Some (slot.Local index)) local a = a index local

    -- a variable becomes undefined
    clears : (index : ℕ) → index < bounds.locals → Into (i.Clears G index) (i.Clears H index)
    clears index h = fit.does names bounds G (node.Clear index 0) (clear_fits names bounds index h)

    -- its cells become zero
    zeroes : (kind : Option Want) (index : ℕ) → index < bounds.locals → Into (i.Zeroes G kind index) (i.Zeroes H kind index)
    zeroes None index h = fit.stuck names bounds G
    zeroes (Some kind) index h = fit.does names bounds G (node.Zero index kind 0) (zero_fits names bounds index kind h)

    -- a string is stored in it
    spells : (number : Option ℕ) (text : Option Text) → ((n : ℕ) → number ≡ Some n → n < length names.conversions) → (index : ℕ) → index < bounds.locals →
        Into (i.Spells G number text index) (i.Spells H number text index)
    spells (Some number) (Some text) named index h =
        fit.does names bounds G (node.Spell index number 0) (spell_fits names bounds index number h (named number refl))
    spells None None named index h = fit.stuck names bounds G
    spells None (Some text) named index h = fit.stuck names bounds G
    spells (Some number) None named index h = fit.stuck names bounds G

    -- the string that an expression is has a number below that of all strings
    text_named : (y : ExprTree) (n : ℕ) → number_of_text facts y ≡ Some n → n < length names.conversions
    text_named (e.Strings token parts) n h = known.facts_fit.texts token n h
    text_named y n h = cc

    -- a value is stored in it
    scalar : (token : ℕ) → IsLocal facts sites bounds.locals (facts.slot_at token) → Inside lo hi (equals_token token) → (value : ExprTree) → Fits value →
        Into (i.ScalarSet G facts sites token value) (i.ScalarSet H facts sites token value)
    scalar token local mark value fits =
        then_into (own token local)
        (then_into (fit.wanted names bounds G (is_null_as (facts.declared_at token) value) (type_of facts value) (facts.declared_at token) fits)
        (fit.dropped names bounds G (fit.assigned names bounds G facts sites lo hi known (equals_token token) mark)))

    -- a value is stored in an element of it
    element : (token index : ℕ) → IsLocal facts sites bounds.locals (facts.slot_at token) → index ≤ step_limit → (value : ExprTree) → Fits value →
        Into (i.ElementSet G facts sites token index value) (i.ElementSet H facts sites token index value)
    element token index local near value fits =
        then_into (own token local) (then_into (fit.member names bounds G (Some index) (λ n e. subst (λ m. m ≤ step_limit) (same_Some index n e) near))
        (then_into (fit.wanted names bounds G (is_null_as (facts.element_at token) value) (type_of facts value) (facts.element_at token) fits)
        (fit.dropped names bounds G (fit.free names bounds G (node.Store 0) tt))))

    -- the items of a list are stored in its elements
    elements : (token index : ℕ) (ys : ExprList) → IsLocal facts sites bounds.locals (facts.slot_at token) → index + expression_count ys ≤ step_limit + 1 →
        fit.AllFit names bounds G facts sites lo hi known ys → Into (i.ElementsSet G facts sites token index ys) (i.ElementsSet H facts sites token index ys)
    elements token index e.no_exprs local near all = same
    elements token index (e.more_exprs value rest) local near all =
        then_into (element token index local (omega arith) value all.0) (elements token (suc index) rest local (omega arith) all.1)

    -- an array becomes zero
    zeroed : (token : ℕ) → IsLocal facts sites bounds.locals (facts.slot_at token) → Into (i.ArrayZeroed G facts sites token) (i.ArrayZeroed H facts sites token)
    zeroed token local = on_local (facts.slot_at token) local (zeroes (want_of (facts.element_at token)))

    -- a value, or a string where it is an array
    value_set : (token at : ℕ) (of : Option ValueType) (value : ExprTree) → IsLocal facts sites bounds.locals (facts.slot_at token) →
        Inside lo hi (equals_token token) → ExprAt at value → Lies lo hi at (expr_kinds value) → TypedValue facts sites bounds.locals token of value →
        Into (i.ValueSet G facts sites token of value) (i.ValueSet H facts sites token of value)
    value_set token at (Some (type.Array size)) value local mark p l t =
        then_into (zeroed token local)
        (on_local (facts.slot_at token) local (spells (number_of_text facts value) (text_of_string facts value) (text_named value)))
    value_set token at of value local mark p l t = scalar token local mark value (fit.expression names bounds G facts sites lo hi known value at p l t.0)

    -- the initialiser of the variable whose name is at the token, from its `=` on
    initialised : (token equals : ℕ) (y : Option InitialTree) → IsLocal facts sites bounds.locals (facts.slot_at token) → lo ≤ token → token < equals →
        IfSome y (InitialAt (equals + 1)) → Lies lo hi equals (equals_kinds y) → TypedInitial facts sites bounds.locals token y →
        Into (i.Initialised G facts sites token y) (i.Initialised H facts sites token y)
    initialised token equals None local low high p l t = same
    initialised token equals (Some (tree.Value value)) local low high p l t =
        let there = inside lo hi equals equals _ (expr_kinds value) refl l in
        value_set token (equals + 1) (facts.declared_at token) value local (record { from = omega arith; before = omega (arith, there.before) }) p
        (after lo hi equals (equals + 1) _ (expr_kinds value) refl l) t
    initialised token equals (Some (tree.Braced at items comma)) local low high p l t =
        let listed = exprs_kinds items ++ comma_kinds comma in
        let behind_equals = after lo hi equals (equals + 1) _ (_ ∷ (listed ++ a_sign sign.RightBrace)) refl l in
        let behind_brace = after lo hi (equals + 1) (equals + 1 + 1) _ (listed ++ a_sign sign.RightBrace) refl behind_equals in
        let items_lie = front lo hi (equals + 1 + 1) (exprs_kinds items) (comma_kinds comma)
        (front lo hi (equals + 1 + 1) listed (a_sign sign.RightBrace) behind_brace) in
        then_into (zeroed token local)
        (elements token 0 items local (omega (arith, counted items, items_lie.from, items_lie.before, known.few))
        (fit.each names bounds G facts sites lo hi known items (equals + 1 + 1) p.1 (all_lie lo hi (equals + 1 + 1) items items_lie) (elements_all facts sites bounds.locals (facts.element_at token) items t.1)))

    -- a declared variable
    starts : (y : StartTree) (at : ℕ) → StartAt at y → Lies lo hi at (start_kinds y) →
        IsLocal facts sites bounds.locals (facts.slot_at y.declarator.name_token) →
        TypedInitial facts sites bounds.locals y.declarator.name_token y.initial → Into (i.VariableStarts G facts sites y) (i.VariableStarts H facts sites y)
    starts y at p l local t =
        let initial_lies = back lo hi at (at + length (declarator_kinds y.declarator)) (declarator_kinds y.declarator) (equals_kinds y.initial) refl l in
        then_into (on_local (facts.slot_at y.declarator.name_token) local clears)
        (initialised y.declarator.name_token (at + length (declarator_kinds y.declarator)) y.initial local (omega (arith, p.1, l.from))
        (omega (arith, p.1, declarator-length y.declarator)) p.2 initial_lies t)

    -- variables with commas between them
    all_start : (ys : List StartTree) (at : ℕ) → EachAt StartAt start_kinds 1 at ys → Lies lo hi at (with_commas start_kinds ys) →
        TypedStarts facts sites bounds.locals ys → Into (i.VariablesStart G facts sites ys) (i.VariablesStart H facts sites ys)
    all_start [] at p l t = same
    all_start (y ∷ []) at p l t = then_into (starts y at p.0 (front lo hi at (start_kinds y) [] l) t.0 t.1) same
    all_start (y ∷ z ∷ zs) at p l t =
        let comma = back lo hi at (at + length (start_kinds y)) (start_kinds y) (after_commas start_kinds (z ∷ zs)) refl l in
        then_into (starts y at p.0 (front lo hi at (start_kinds y) (after_commas start_kinds (z ∷ zs)) l) t.0 t.1)
        (all_start (z ∷ zs) (at + length (start_kinds y) + 1) p.1
        (after lo hi (at + length (start_kinds y)) (at + length (start_kinds y) + 1) _ (with_commas start_kinds (z ∷ zs)) refl comma) t.2)

    -- a declaration
    declares : (d : DeclarationTree) (at : ℕ) → DeclarationAt at d → Lies lo hi at (declaration_kinds d) → TypedStarts facts sites bounds.locals d.starts →
        Into (i.DeclarationPath G facts sites d) (i.DeclarationPath H facts sites d)
    declares d at p l t =
        all_start d.starts (at + length (base_kinds d.base)) p.2
        (back lo hi at (at + length (base_kinds d.base)) (base_kinds d.base) (with_commas start_kinds d.starts) refl
        (front lo hi at (base_kinds d.base ++ with_commas start_kinds d.starts) (a_sign sign.Semicolon) l)) t

    -- the expression of a statement, which may be a call of `printf`
    whole : (y : ExprTree) (at : ℕ) → ExprAt at y → Lies lo hi at (expr_kinds y) → TypedWhole facts sites bounds.locals y → Formatted facts y → Fits y
    whole y at p l t f = elim t [ inl print ↦ fit.printing names bounds G facts sites lo hi known y at p l print f | inr typed ↦ fit.expression names bounds G facts sites lo hi known y at p l typed ]

    -- what may be missing
    optional_effect : (y : Option ExprTree) (at : ℕ) → IfSome y (ExprAt at) → Lies lo hi at (optional_kinds expr_kinds y) → TypedPart facts sites bounds.locals y →
        Into (s.OptionalEffect G facts sites y) (s.OptionalEffect H facts sites y)
    optional_effect None at p l t = same
    optional_effect (Some y) at p l t = (fit.expression names bounds G facts sites lo hi known y at p l t).effect

    -- a condition that may be missing
    optional_condition : (token : ℕ) → Inside lo hi token → (y : Option ExprTree) (at : ℕ) → IfSome y (ExprAt at) → Lies lo hi at (optional_kinds expr_kinds y) →
        TypedTest facts sites bounds.locals y → Into (s.OptionalCondition G facts sites token y) (s.OptionalCondition H facts sites token y)
    optional_condition token own None at p l t = same
    optional_condition token own (Some y) at p l t = fit.condition names bounds G facts sites lo hi known token own y (fit.expression names bounds G facts sites lo hi known y at p l t.0)

    -- what a `for` begins with
    for_starts : (y : ForStartTree) (at : ℕ) → ForStartAt at y → Lies lo hi at (for_start_kinds y) → TypedBeginning facts sites bounds.locals y →
        Into (s.ForStartPath G facts sites y) (s.ForStartPath H facts sites y)
    for_starts (tree.Declares d) at p l t = declares d at p l t
    for_starts (tree.Computes y) at p l t = optional_effect y at p (front lo hi at (optional_kinds expr_kinds y) (a_sign sign.Semicolon) l) t

    -- `return`, with its value if there is one
    return_into : (result : ValueType) (looping : Bool) (token at : ℕ) (y : Option ExprTree) → IfSome y (ExprAt at) → Lies lo hi at (optional_kinds expr_kinds y) →
        TypedStatement facts sites bounds.locals result looping (tree.Return token y) → Into (s.ReturnPath G facts sites result y) (s.ReturnPath H facts sites result y)
    return_into result looping token at None p l t = record { leads = λ at k h. h }
    return_into result looping token at (Some y) p l t =
        let fits = fit.expression names bounds G facts sites lo hi known y at p l t.0 in
        record { leads = λ at k h. (fit.wanted names bounds G (is_null_as (Some result) y) (type_of facts y) (Some result) fits).leads at k.gives h }

    -- the condition behind the word of a statement, and what stands behind its parentheses
    head_condition : (at : ℕ) (c body : Kinds) → Lies lo hi (at + 1) (parenthesized_kinds c ++ body) → Lies lo hi (at + 2) c
    head_condition at c body l = enclosed lo hi (at + 1) (at + 2) c (omega arith) (front lo hi (at + 1) (parenthesized_kinds c) body l)

    -- what stands behind the parentheses of that condition
    head_body : (at : ℕ) (c body : Kinds) → Lies lo hi (at + 1) (parenthesized_kinds c ++ body) → Lies lo hi (at + 2 + length c + 1) body
    head_body at c body l = back lo hi (at + 1) (at + 2 + length c + 1) (parenthesized_kinds c) body (omega (arith, paren-length c)) l

    mutual
      -- a statement
      statement : (result : ValueType) (looping : Bool) (y : StatementTree) (at : ℕ) → StatementAt at y → Lies lo hi at (statement_kinds y) →
          TypedStatement facts sites bounds.locals result looping y → FormattedStatement facts y → Into (s.StatementDoes G facts sites result y) (s.StatementDoes H facts sites result y)
      statement result looping (tree.Block token entries) at p l t f =
          let within = front lo hi (at + 1) (entry_kinds entries) (a_sign sign.RightBrace)
          (after lo hi at (at + 1) _ (entry_kinds entries ++ a_sign sign.RightBrace) refl l) in
          record { leads = λ at' k h. (all_entries result looping entries (at + 1) p.1 within t f).leads at' k h }
      statement result looping (tree.Expr token y) at p l t f =
          let fits = whole y at p.1 (front lo hi at (expr_kinds y) (a_sign sign.Semicolon) l) t f in
          record { leads = λ at' k h. fits.effect.leads at' k.next h }
      statement result looping (tree.If token y first) at p l t f =
          let head = after lo hi at (at + 1) _ (parenthesized_kinds (expr_kinds y) ++ statement_kinds first) refl l in
          let mark = inside lo hi at token _ (parenthesized_kinds (expr_kinds y) ++ statement_kinds first) p.0 l in
          let decides = fit.condition names bounds G facts sites lo hi known token mark y
          (fit.expression names bounds G facts sites lo hi known y (at + 2) p.1 (head_condition at (expr_kinds y) (statement_kinds first) head) t.0.0) in
          let runs = statement result looping first (at + 2 + length (expr_kinds y) + 1) p.2 (head_body at (expr_kinds y) (statement_kinds first) head) t.1 f in
          record { leads = λ at' k h. (either_into {S = GoesOn} {S' = GoesOn} decides runs same).leads at' k h }
      statement result looping (tree.IfElse token y first second) at p l t f =
          let before_second = parenthesized_kinds (expr_kinds y) ++ statement_kinds first ++ a_word word.Else in
          let all = after lo hi at (at + 1) _ (before_second ++ statement_kinds second) refl l in
          let with_else = front lo hi (at + 1) before_second (statement_kinds second) all in
          let head = front lo hi (at + 1) (parenthesized_kinds (expr_kinds y) ++ statement_kinds first) (a_word word.Else) with_else in
          let mark = inside lo hi at token _ (before_second ++ statement_kinds second) p.0 l in
          let first_long = length-append (parenthesized_kinds (expr_kinds y)) (statement_kinds first) in
          let else_long = length-append (parenthesized_kinds (expr_kinds y) ++ statement_kinds first) (a_word word.Else) in
          let second_at = at + 2 + length (expr_kinds y) + 1 + length (statement_kinds first) + 1 in
          let second_lies = back lo hi (at + 1) second_at before_second (statement_kinds second) (omega (arith, paren-length (expr_kinds y))) all in
          let decides = fit.condition names bounds G facts sites lo hi known token mark y
          (fit.expression names bounds G facts sites lo hi known y (at + 2) p.1 (head_condition at (expr_kinds y) (statement_kinds first) head) t.0.0) in
          let runs = statement result looping first (at + 2 + length (expr_kinds y) + 1) p.2 (head_body at (expr_kinds y) (statement_kinds first) head) t.1 f.0 in
          let runs_second = statement result looping second second_at p.3 second_lies t.2 f.1 in
          record { leads = λ at' k h. (either_into decides runs runs_second).leads at' k h }
      statement result looping (tree.While token y body) at p l t f =
          let head = after lo hi at (at + 1) _ (parenthesized_kinds (expr_kinds y) ++ statement_kinds body) refl l in
          let mark = inside lo hi at token _ (parenthesized_kinds (expr_kinds y) ++ statement_kinds body) p.0 l in
          let decides = fit.condition names bounds G facts sites lo hi known token mark y
          (fit.expression names bounds G facts sites lo hi known y (at + 2) p.1 (head_condition at (expr_kinds y) (statement_kinds body) head) t.0.0) in
          let runs = statement result true body (at + 2 + length (expr_kinds y) + 1) p.2 (head_body at (expr_kinds y) (statement_kinds body) head) t.1 f in
          record { leads = λ at' k h. (while_into decides runs).leads at' k h }
      statement result looping (tree.Do token body y) at p l t f =
          let before_condition = statement_kinds body ++ a_word word.While in
          let before_end = before_condition ++ parenthesized_kinds (expr_kinds y) in
          let all = front lo hi (at + 1) before_end (a_sign sign.Semicolon) (after lo hi at (at + 1) _ (before_end ++ a_sign sign.Semicolon) refl l) in
          let body_lies = front lo hi (at + 1) (statement_kinds body) (a_word word.While)
          (front lo hi (at + 1) before_condition (parenthesized_kinds (expr_kinds y)) all) in
          let while_long = length-append (statement_kinds body) (a_word word.While) in
          let test_lies = enclosed lo hi (at + 1 + length (statement_kinds body) + 1) (at + 1 + length (statement_kinds body) + 2) (expr_kinds y) (omega arith)
          (back lo hi (at + 1) (at + 1 + length (statement_kinds body) + 1) before_condition (parenthesized_kinds (expr_kinds y)) (omega arith) all) in
          let mark = inside lo hi at token _ (before_end ++ a_sign sign.Semicolon) p.0 l in
          let decides = fit.condition names bounds G facts sites lo hi known token mark y
          (fit.expression names bounds G facts sites lo hi known y (at + 1 + length (statement_kinds body) + 2) p.2 test_lies t.0.0) in
          let runs = statement result true body (at + 1) p.1 body_lies t.1 f in
          record { leads = λ at' k h. (do_into decides runs).leads at' k h }
      statement result looping (tree.For token start y third body) at p l t f =
          let with_condition = for_start_kinds start ++ optional_kinds expr_kinds y in
          let before_third = with_condition ++ a_sign sign.Semicolon in
          let parts = before_third ++ optional_kinds expr_kinds third in
          let head = after lo hi at (at + 1) _ (parenthesized_kinds parts ++ statement_kinds body) refl l in
          let mark = inside lo hi at token _ (parenthesized_kinds parts ++ statement_kinds body) p.0 l in
          let parts_lie = head_condition at parts (statement_kinds body) head in
          let before_lies = front lo hi (at + 2) with_condition (a_sign sign.Semicolon) (front lo hi (at + 2) before_third (optional_kinds expr_kinds third) parts_lie) in
          let condition_long = length-append (for_start_kinds start) (optional_kinds expr_kinds y) in
          let sign_long = length-append with_condition (a_sign sign.Semicolon) in
          let third_long = length-append before_third (optional_kinds expr_kinds third) in
          let condition_at = at + 2 + length (for_start_kinds start) in
          let third_at = condition_at + length (optional_kinds expr_kinds y) + 1 in
          let body_at = third_at + length (optional_kinds expr_kinds third) + 1 in
          let begins = for_starts start (at + 2) p.1 (front lo hi (at + 2) (for_start_kinds start) (optional_kinds expr_kinds y) before_lies) t.0 in
          let decides = optional_condition token mark y condition_at p.2
          (back lo hi (at + 2) condition_at (for_start_kinds start) (optional_kinds expr_kinds y) refl before_lies) t.1 in
          let steps = optional_effect third third_at p.3
          (back lo hi (at + 2) third_at before_third (optional_kinds expr_kinds third) (omega arith) parts_lie) t.2 in
          let runs = statement result true body body_at p.4
          (back lo hi (at + 1) body_at (parenthesized_kinds parts) (statement_kinds body) (omega (arith, paren-length parts)) head) t.3 f in
          record { leads = λ at' k h. (then_into begins (for_into decides steps runs)).leads at' k h }
      statement result looping (tree.Return token y) at p l t f =
          let value_lies = front lo hi (at + 1) (optional_kinds expr_kinds y) (a_sign sign.Semicolon)
          (after lo hi at (at + 1) _ (optional_kinds expr_kinds y ++ a_sign sign.Semicolon) refl l) in
          record { leads = λ at' k h. (return_into result looping token (at + 1) y p.1 value_lies t).leads at' k h }
      statement result looping y at p l t f = record { leads = λ at' k h. h }

      -- the declarations and statements of a block
      all_entries : (result : ValueType) (looping : Bool) (ys : EntryList) (at : ℕ) → EntriesAt at ys → Lies lo hi at (entry_kinds ys) →
          TypedEntries facts sites bounds.locals result looping ys → FormattedEntries facts ys →
          Into (s.EntriesDo G facts sites result ys) (s.EntriesDo H facts sites result ys)
      all_entries result looping tree.no_entries at p l t f = record { leads = λ at' k h. h }
      all_entries result looping (tree.declared d rest) at p l t f =
          let begins = declares d at p.0 (front lo hi at (declaration_kinds d) (entry_kinds rest) l) t.0 in
          let goes_on = all_entries result looping rest (at + length (declaration_kinds d)) p.1
          (back lo hi at (at + length (declaration_kinds d)) (declaration_kinds d) (entry_kinds rest) refl l) t.1 f in
          record { leads = λ at' k h. (then_into begins goes_on).leads at' k h }
      all_entries result looping (tree.stated y rest) at p l t f =
          let runs = statement result looping y at p.0 (front lo hi at (statement_kinds y) (entry_kinds rest) l) t.0 f.0 in
          let goes_on = all_entries result looping rest (at + length (statement_kinds y)) p.1
          (back lo hi at (at + length (statement_kinds y)) (statement_kinds y) (entry_kinds rest) refl l) t.1 f.1 in
          record { leads = λ at' k h. (before_into runs goes_on).leads at' k h }

  -- a body of which this is known does the same in the part of the graph whose nodes fit
  pub body_fits : (facts : Facts) (sites : Sites) (signature : Signature) (lo : ℕ) (body : EntryList) (start : ℕ) (exits : Exits) →
      FitsAsBody facts sites names bounds signature lo body → f.BodyDoes G facts sites signature.result (Some body) start exits →
      f.BodyDoes H facts sites signature.result (Some body) start exits
  body_fits facts sites signature lo body start exits b h =
      let hi = lo + length (entry_kinds body) in
      let few : hi ≤ lo + step_limit = omega (arith, b.few) in
      let known : Known names bounds facts sites lo hi = record { facts_fit = b.facts_fit; texts = b.texts; owned = b.owned; few = few } in
      let lies : Lies lo hi lo (entry_kinds body) = record { from = omega arith; before = omega arith; constants = b.constants } in
      let typed : TypedEntries facts sites bounds.locals signature.result false body =
      subst (λ n. TypedEntries facts sites n signature.result false body) (sym b.locals) b.typed in
      (all_entries facts sites lo hi known signature.result false body lo b.placed lies typed b.formats).leads start exits h
