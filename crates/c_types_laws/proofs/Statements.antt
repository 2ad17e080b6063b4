-- A declaration or statement that the walk accepts is as C99 asks.
use Rattle.std.proofs.Common.{◌≡◌, ℕ, ◌≤◌, ◌<◌, refl, ap, subst, sym, arith, List, [], ◌∷◌, ◌++◌, Some, None, ◌+◌, Bool, true, false, length, length-append}
use Rattle.std.proofs.Common.{not, ◌&&◌, ◌||◌}
use Rattle.std.specs.Prelude.{Option, is_some, nat_le, IfSome}
use Rattle.std.specs.List.{AllByRecursion, flat_map}
use Rattle.std.proofs.lemmas.Bool.{false≢true, not-false}
use Rattle.std.proofs.lemmas.List.{length-replicate}
use Rattle.c_types_expressions.proofs.Given.{Gives, and_then, weaker}
use Rattle.base_lists.proofs.Tests.{three_or_false}
use Rattle.c_syntax.specs.declared.token.TokenKind.TheVariants as kind
use Rattle.c_syntax.specs.declared.token.Sign.TheVariants as sign
use Rattle.c_syntax.specs.declared.token.Word.TheVariants as word
use Rattle.c_syntax.specs.declared.parts.Declarator.{Declarator}
use Rattle.c_syntax.specs.Words.{first_token, ExprTree, InitialTree, StartTree, DeclarationTree, ForStartTree, StatementTree, EntryList, DeclarationAt, EachAt}
use Rattle.c_syntax.specs.Words.{EntriesAt, ExprAt, ForStartAt, InitialAt, StartAt, StatementAt, ShapedDeclaration, ShapedEntries, ShapedExpr, ShapedForStart}
use Rattle.c_syntax.specs.Words.{ShapedInitial, ShapedStart, ShapedStatement, Kinds, a_name, a_sign, a_word, after_commas, base_kinds, bound_kinds, comma_kinds}
use Rattle.c_syntax.specs.Words.{declaration_kinds, declarator_kinds, entry_kinds, expr_kinds, exprs_kinds, for_start_kinds, initial_kinds, optional_kinds}
use Rattle.c_syntax.specs.Words.{parenthesized_kinds, star_kinds, start_kinds, statement_kinds, with_commas}
use Rattle.c_syntax.specs.StatementTree as s
use Rattle.c_types_rules.specs.declared.fault.FaultKind.{FaultKind}
use Rattle.c_types_rules.specs.declared.fault.FaultKind.TheVariants as fault
use Rattle.c_types_rules.specs.declared.operand.Operand.{Operand}
use Rattle.c_types_rules.specs.Words.{TypeTree, is_assignable, is_struct, is_void, is_scalar_value, cells_of, is_object, most_cells}
use Rattle.c_types_expressions.specs.declared.walk.Walk.{Walk}
use Rattle.c_types_walk.specs.Declarators.{declared_type, is_open}
use Rattle.c_types_walk.specs.Initialisers.{cells_of_string, type_or_fault, listed_type, type_by_expression, walk_initial}
use Rattle.c_types.specs.Answers.{note_at}
use Rattle.c_types_expressions.specs.Words.{names_after_scope, is_name_taken, Walked, Fine, Done, scope_opened, fault_if_wrong, with_variable}
use Rattle.c_types_walk.specs.StatementWalk.{counted_cells, is_condition_part, is_struct_part, object_type_checked, walk_closed, walk_declaration, walk_entries, walk_for_start}
use Rattle.c_types_walk.specs.StatementWalk.{walk_open, walk_optional, walk_start, walk_starts, walk_statement, walk_typed, with_declared_type}
use Rattle.c_types_laws.specs.Naming.{DeclaresVariable}
use Rattle.c_types_laws.specs.Fits.{DeclarationFits, EntriesFit, ExprFits, ConditionFits, ForStartFits, InitialFits, ConditionIsScalar, PartFits, StartFits}
use Rattle.c_types_laws.specs.Fits.{StatementFits, operand}
use Rattle.c_types_laws.specs.Operands.{Accepts, IsScalar}
use Rattle.c_types_laws.proofs.Ruled.{accepts}
use Rattle.c_types_laws.proofs.Scenes.{Scene, Sound, scene}
use Rattle.c_types_laws.proofs.Steps.{IsFlat, Later, Part, Ready, Same, later_here, ready_after, ready_in, rightwards, so, sound_later}
use Rattle.c_types_laws.proofs.Steps.{wider}
use Rattle.c_types_laws.proofs.Declaring.{declared, enclosed, ready_opened}
use Rattle.c_types_laws.proofs.Leading.{Leads, at_large, either, leads_so, nothing, refused, allowed, seq, widely}
use Rattle.c_types_laws.proofs.Exprs.{expr_leads, exprs_leads, whole_leads}
use Rattle.c_types_laws.proofs.Goods.{Good, Known, around, base_leads, of_is, operand_is}

pub commas_long : {A : Type 0} (f : A → Kinds) (x y : A) (ys : List A)
    → length (with_commas f (x ∷ y ∷ ys)) ≡ length (f x) + 1 + length (with_commas f (y ∷ ys))
commas_long f x y ys = omega (arith, length-append (f x) (after_commas f (y ∷ ys)), length-append (f y) (after_commas f ys))

pub commas_one : {A : Type 0} (f : A → Kinds) (x : A) → length (with_commas f (x ∷ [])) ≡ length (f x)
commas_one f x = omega (arith, length-append (f x) [])

pub declarator_long : (d : Declarator) → d.stars < length (declarator_kinds d)
declarator_long d = omega (
  arith,
  length-append (star_kinds d.stars ++ a_name d.name) (flat_map bound_kinds d.bounds),
  length-append (star_kinds d.stars) (a_name d.name),
  length-replicate d.stars (kind.Punctuator sign.Star),
)

module _ {z : Walk} where
  -- what changes nothing that names depend on
  pub quiet : {P : Type 0} (lo hi : ℕ) (w v : Walk) → v.types ≡ w.types → v.variables_at ≡ w.variables_at → v.functions_at ≡ w.functions_at → scene v ≡ scene w
      → v.latest ≡ w.latest → lo ≤ hi → Sound lo w.latest (scene w) → P → Part z lo hi w v P
  quiet lo hi w v t n f s l high k p = record {
    types = ap (λ xs. length xs) t;
    variables_at = ap (λ xs. length xs) n;
    functions_at = ap (λ xs. length xs) f;
    below = λ token h. same token;
    above = λ token h. same token;
    scope = ap (λ (x : Scene). names_after_scope x.names) s;
    flat = λ h. subst (λ (x : Scene). IsFlat x.names) (sym s) h;
    later = subst (λ x. Later lo (scene w) w.latest x v.latest) (sym s) (later_here lo (scene w) w.latest v.latest (omega (arith, l)));
    sound = subst (λ x. Sound hi v.latest x) (sym s) (subst (λ m. Sound hi m (scene w)) (sym l) (sound_later high k));
    holds = λ g. p;
  }
    where
      same : (token : ℕ) → Same w v token
      same token = record { types = ap (λ xs. note_at xs token) t; variables = ap (λ xs. note_at xs token) n; functions = ap (λ xs. note_at xs token) f }

-- how many tokens a part has

pub if_long : (c : ExprTree) (x : StatementTree) → length (statement_kinds (s.If 0 c x)) ≡ 3 + length (expr_kinds c) + length (statement_kinds x)
if_long c x = omega (arith, length-append (a_word word.If ++ parenthesized_kinds (expr_kinds c)) (statement_kinds x), around (expr_kinds c))

pub else_long : (c : ExprTree) (x y : StatementTree)
    → length (statement_kinds (s.IfElse 0 c x y)) ≡ 4 + length (expr_kinds c) + length (statement_kinds x) + length (statement_kinds y)
else_long c x y = omega (
  arith,
  length-append (a_word word.If ++ parenthesized_kinds (expr_kinds c) ++ statement_kinds x ++ a_word word.Else) (statement_kinds y),
  length-append (a_word word.If ++ parenthesized_kinds (expr_kinds c) ++ statement_kinds x) (a_word word.Else),
  length-append (a_word word.If ++ parenthesized_kinds (expr_kinds c)) (statement_kinds x),
  around (expr_kinds c),
)

pub do_long : (c : ExprTree) (x : StatementTree) → length (statement_kinds (s.Do 0 x c)) ≡ 5 + length (expr_kinds c) + length (statement_kinds x)
do_long c x = omega (
  arith,
  length-append (a_word word.Do ++ statement_kinds x ++ a_word word.While ++ parenthesized_kinds (expr_kinds c)) (a_sign sign.Semicolon),
  length-append (a_word word.Do ++ statement_kinds x ++ a_word word.While) (parenthesized_kinds (expr_kinds c)),
  length-append (a_word word.Do ++ statement_kinds x) (a_word word.While),
  around (expr_kinds c),
)

pub for_long : (b : ForStartTree) (c d : Option ExprTree) (x : StatementTree) → length (statement_kinds (s.For 0 b c d x))
    ≡ 4 + length (for_start_kinds b) + length (optional_kinds expr_kinds c) + length (optional_kinds expr_kinds d) + length (statement_kinds x)
for_long b c d x =
    let inner : Kinds = for_start_kinds b ++ optional_kinds expr_kinds c ++ a_sign sign.Semicolon ++ optional_kinds expr_kinds d in
    omega (
      arith,
      length-append (a_word word.For ++ parenthesized_kinds inner) (statement_kinds x),
      around inner,
      length-append (for_start_kinds b ++ optional_kinds expr_kinds c ++ a_sign sign.Semicolon) (optional_kinds expr_kinds d),
      length-append (for_start_kinds b ++ optional_kinds expr_kinds c) (a_sign sign.Semicolon),
      length-append (for_start_kinds b) (optional_kinds expr_kinds c),
    )

module _ (z : Walk) where
  unless_leads : (lo hi : ℕ) (wrong : Bool) (kind : FaultKind) (token : ℕ) (w : Walk) → Ready lo hi w
      → Gives (fault_if_wrong wrong kind token w) (Leads z false lo lo w (λ d. Unit {0}))
  unless_leads lo hi wrong kind token w r = refused wrong kind token (Fine tt w) (λ h. nothing tt r (omega arith) tt)

  -- the cells of a variable
  sized_leads : (lo hi : ℕ) (global : Bool) (token : ℕ) (t : TypeTree) (w : Walk) → Ready lo hi w
      → Gives (object_type_checked global token t w) (Leads z false lo lo w (λ d. Unit {0}))
  sized_leads lo hi global token t w r =
      allowed (is_object w.structs t) fault.Object token (counted_cells global token (cells_of w.structs t) w) (λ h.
      either (not global) (Fine tt w) _ (nothing tt r (omega arith) tt)
      (allowed (nat_le (w.global_cells + cells_of w.structs t) most_cells) fault.Object token
      (Fine tt (record w { global_cells = w.global_cells + cells_of w.structs t })) (λ k. record {
        by = record {
          part = quiet lo lo w (record w { global_cells = w.global_cells + cells_of w.structs t }) refl refl refl refl refl (omega arith) r.sound tt;
          kept = tt;
        };
      })))

  completes_leads : {P : Type 0} (lo hi token : ℕ) (t : Option TypeTree) (w : Walk) → Ready lo hi w → lo ≤ hi → P
      → Gives (type_or_fault token t w) (Leads z false lo hi w (λ d. P))
  completes_leads lo hi token None w r high p = record { by = tt }
  completes_leads lo hi token (Some t) w r high p = nothing t r high p

  -- an initialiser, behind its `=`
  initial_leads : (global : Bool) (t : TypeTree) (x : InitialTree) (at : ℕ) (w : Walk) → ShapedInitial x → InitialAt at x
      → Ready at (at + length (initial_kinds x)) w
      → Gives (walk_initial global t (Some x) w) (Leads z false at (at + length (initial_kinds x)) w (λ u. InitialFits z (Some x)))
  initial_leads global t (s.Value value) at w h p r =
      seq {Q = λ a u. Unit {0}} (at + length (expr_kinds value)) r (omega arith) (omega arith) (at_large (expr_leads z value at w h.1 p r))
      (λ a v r2. completes_leads (at + length (expr_kinds value)) (at + length (expr_kinds value)) (first_token value)
      (type_by_expression global t value a (cells_of_string value)) v r2 (omega arith) tt)
      (λ a u f g. f.0)
  initial_leads global t (s.Braced token items comma) at w h p r =
      let long : length (initial_kinds (s.Braced token items comma)) ≡ 2 + length (exprs_kinds items) + length (comma_kinds comma) =
      omega (arith, length-append (exprs_kinds items ++ comma_kinds comma) (a_sign sign.RightBrace), length-append (exprs_kinds items) (comma_kinds comma)) in
      seq {Q = λ a u. Unit {0}} (at + length (initial_kinds (s.Braced token items comma))) r (omega arith) (omega arith)
      (widely at (at + length (initial_kinds (s.Braced token items comma))) (at_large (exprs_leads z items (at + 1) [] w h.1 p.1
      (ready_in r (at + 1) (at + 1 + length (exprs_kinds items)) (omega arith) (omega (arith, long))))) (omega arith) (omega (arith, long)))
      (λ xs v r2. completes_leads (at + length (initial_kinds (s.Braced token items comma))) (at + length (initial_kinds (s.Braced token items comma))) token
      (listed_type global items xs t) v r2 (omega arith) tt)
      (λ a u f g. f.1.1.0)

  some_initial_leads : (global : Bool) (t : TypeTree) (o : Option InitialTree) (at : ℕ) (w : Walk) → IfSome o ShapedInitial → IfSome o (InitialAt (at + 1))
      → Ready at (at + length (optional_kinds (λ y. a_sign sign.Equal ++ initial_kinds y) o)) w
      → Gives (walk_initial global t o w) (Leads z false at (at + length (optional_kinds (λ y. a_sign sign.Equal ++ initial_kinds y) o)) w (λ u. InitialFits z o))
  some_initial_leads global t None at w s p r = nothing t r (omega arith) tt
  some_initial_leads global t (Some x) at w s p r =
      widely at (at + length (optional_kinds (λ y. a_sign sign.Equal ++ initial_kinds y) (Some x))) (initial_leads global t x (at + 1) w s p
      (ready_in r (at + 1) (at + 1 + length (initial_kinds x)) (omega arith) (omega arith))) (omega arith) (omega arith)

  abbrev StartLeads : ℕ → StartTree → Walk → Walked Done → Type 0
  StartLeads at x w m = Gives m (Leads z false at (at + length (start_kinds x)) w (λ d. StartFits z x))

  start_long : (x : StartTree) → length (start_kinds x)
      ≡ length (declarator_kinds x.declarator) + length (optional_kinds (λ y. a_sign sign.Equal ++ initial_kinds y) x.initial)
  start_long x = length-append (declarator_kinds x.declarator) (optional_kinds (λ y. a_sign sign.Equal ++ initial_kinds y) x.initial)

  -- a variable, and then its initialiser
  variable_first : (global : Bool) (x : StartTree) (t : TypeTree) (at : ℕ) (w : Walk) → ShapedStart x → StartAt at x → Ready at (at + length (start_kinds x)) w
      → Gives (walk_initial global t x.initial (with_variable global x.declarator.name_token x.declarator.name t w))
      (Leads z false at (at + length (start_kinds x)) w (λ u. StartFits z x))
  variable_first global x t at w s p r =
      let ld : ℕ = length (declarator_kinds x.declarator) in
      let first : Part z at (at + ld) w (with_variable global x.declarator.name_token x.declarator.name t w)
      (DeclaresVariable z x.declarator.name_token x.declarator.name) =
      declared at (at + ld) global x.declarator.name_token x.declarator.name t w (ready_in r at (at + ld) (omega arith) (omega (arith, start_long x)))
      (omega (arith, p.1.1)) (omega (arith, p.1.1, declarator_long x.declarator)) in
      weaker (some_initial_leads global t x.initial (at + ld) (with_variable global x.declarator.name_token x.declarator.name t w) s p.2
      (ready_after r first (at + ld) (at + ld + length (optional_kinds (λ y. a_sign sign.Equal ++ initial_kinds y) x.initial)) (omega arith)
      (omega (arith, start_long x))))
      (λ u v g. record {
        part = wider at (at + length (start_kinds x)) (rightwards first g.part (omega arith) (omega arith)) (omega arith) (omega (arith, start_long x));
        kept = tt;
      })

  open_leads : (global : Bool) (x : StartTree) (t : TypeTree) (at : ℕ) (w : Walk) → ShapedStart x → StartAt at x → Ready at (at + length (start_kinds x)) w
      → StartLeads at x w (walk_open global x t w)
  open_leads global x t at w s p r =
      seq {Q = λ u d. Unit {0}} (at + length (start_kinds x)) r (omega arith) (omega arith) (variable_first global x t at w s p r) (λ u v r2.
      seq {Q = λ d k. Unit {0}} (at + length (start_kinds x)) r2 (omega arith) (omega arith)
      (sized_leads (at + length (start_kinds x)) (at + length (start_kinds x)) global x.token u v r2) (λ d q r3. record {
        by = record {
          part = quiet (at + length (start_kinds x)) (at + length (start_kinds x)) q (with_declared_type (length w.variables) u q) refl refl refl refl refl
              (omega arith) r3.sound tt;
          kept = tt;
        };
      }) (λ d k f g. tt)) (λ u d f g. f)

  closed_leads : (global : Bool) (x : StartTree) (t : TypeTree) (at : ℕ) (w : Walk) → ShapedStart x → StartAt at x → Ready at (at + length (start_kinds x)) w
      → StartLeads at x w (walk_closed global x t w)
  closed_leads global x t at w s p r =
      seq at r (omega arith) (omega arith) (sized_leads at (at + length (start_kinds x)) global x.token t w r) (λ d v r2.
      seq {Q = λ u k. Unit {0}} (at + length (start_kinds x)) r2 (omega arith) (omega arith) (variable_first global x t at v s p r2)
      (λ u q r3. nothing tt r3 (omega arith) tt) (λ u k f g. f)) (λ d k f g. g)

  typed_leads : (global : Bool) (x : StartTree) (o : Option TypeTree) (at : ℕ) (w : Walk) → ShapedStart x → StartAt at x
      → Ready at (at + length (start_kinds x)) w
      → StartLeads at x w (walk_typed global x o w)
  unfolding walk_typed
  typed_leads global x None at w s p r = record { by = tt }
  typed_leads global x (Some t) at w s p r =
      either (is_some x.initial && is_open w.structs t) (walk_open global x t w) (walk_closed global x t w) (open_leads global x t at w s p r)
      (closed_leads global x t at w s p r)

  start_leads : (global : Bool) (b : TypeTree) (x : StartTree) (at : ℕ) (w : Walk) → ShapedStart x → StartAt at x → Ready at (at + length (start_kinds x)) w
      → StartLeads at x w (walk_start global b x w)
  start_leads global b x at w s p r =
      refused (is_name_taken x.declarator.name w.names) fault.Redeclared x.token (walk_typed global x (declared_type x.declarator b) w)
      (λ h. typed_leads global x (declared_type x.declarator b) at w s p r)

  starts_leads : (global : Bool) (b : TypeTree) (xs : List StartTree) (at : ℕ) (w : Walk) → AllByRecursion ShapedStart xs → EachAt StartAt start_kinds 1 at xs
      → Ready at (at + length (with_commas start_kinds xs)) w
      → Gives (walk_starts global b xs w) (Leads z false at (at + length (with_commas start_kinds xs)) w (λ d. AllByRecursion (StartFits z) xs))
  starts_leads global b [] at w s p r = nothing tt r (omega arith) tt
  starts_leads global b (x ∷ []) at w s p r =
      seq {Q = λ d k. Unit {0}} (at + length (start_kinds x)) r (omega arith) (omega (arith, commas_one start_kinds x))
      (start_leads global b x at w s.0 p.0 (ready_in r at (at + length (start_kinds x)) (omega arith) (omega (arith, commas_one start_kinds x))))
      (λ d v r2. nothing tt r2 (omega (arith, commas_one start_kinds x)) tt) (λ d k f g. (f, tt))
  starts_leads global b (x ∷ y ∷ ys) at w s p r =
      let long : length (with_commas start_kinds (x ∷ y ∷ ys)) ≡ length (start_kinds x) + 1 + length (with_commas start_kinds (y ∷ ys)) =
      commas_long start_kinds x y ys in
      seq (at + length (start_kinds x)) r (omega arith) (omega (arith, long))
      (start_leads global b x at w s.0 p.0 (ready_in r at (at + length (start_kinds x)) (omega arith) (omega (arith, long))))
      (λ d v r2. widely (at + length (start_kinds x)) (at + length (with_commas start_kinds (x ∷ y ∷ ys)))
      (starts_leads global b (y ∷ ys) (at + length (start_kinds x) + 1) v s.1 p.1
      (ready_in r2 (at + length (start_kinds x) + 1) (at + length (start_kinds x) + 1 + length (with_commas start_kinds (y ∷ ys))) (omega arith)
      (omega (arith, long))))
      (omega arith) (omega (arith, long)))
      (λ d k f g. (f, g))

  pub declaration_leads : (global : Bool) (d : DeclarationTree) (at : ℕ) (w : Walk) → ShapedDeclaration d → DeclarationAt at d
      → Ready at (at + length (declaration_kinds d)) w
      → Gives (walk_declaration global d w) (Leads z false at (at + length (declaration_kinds d)) w (λ k. DeclarationFits z d))
  declaration_leads global d at w s p r =
      let long : length (declaration_kinds d) ≡ length (base_kinds d.base) + length (with_commas start_kinds d.starts) + 1 =
      omega (
        arith,
        length-append (base_kinds d.base ++ with_commas start_kinds d.starts) (a_sign sign.Semicolon),
        length-append (base_kinds d.base) (with_commas start_kinds d.starts),
      ) in
      seq at r (omega arith) (omega arith) (at_large (base_leads z d.base at (at + length (declaration_kinds d)) w r))
      (λ b v r2. widely at (at + length (declaration_kinds d)) (starts_leads global b d.starts (at + length (base_kinds d.base)) v s.1 p.2
      (ready_in r2 (at + length (base_kinds d.base)) (at + length (base_kinds d.base) + length (with_commas start_kinds d.starts)) (omega arith)
      (omega (arith, long))))
      (omega arith) (omega (arith, long)))
      (λ b k f g. g)

  -- statements

  -- a part that may be left out
  abbrev GoodOption : Option ExprTree → Option Operand → Type 0
  GoodOption None a = a ≡ None
  GoodOption (Some x) a = (b : Operand) × ((a ≡ Some b) × Good z x b)

  abbrev ForStartGood : ForStartTree → Option Operand → Type 0
  ForStartGood (s.Declares d) a = DeclarationFits z d × (a ≡ None)
  ForStartGood (s.Computes x) a = GoodOption x a

  optional_leads : (o : Option ExprTree) (at : ℕ) (w : Walk) → IfSome o ShapedExpr → IfSome o (ExprAt at) → Ready at (at + length (optional_kinds expr_kinds o)) w
      → Gives (walk_optional o w) (Leads z false at (at + length (optional_kinds expr_kinds o)) w (GoodOption o))
  optional_leads None at w s p r = nothing None r (omega arith) refl
  optional_leads (Some x) at w s p r =
      seq {Q = λ a b. b ≡ Some a} (at + length (expr_kinds x)) r (omega arith) (omega arith) (at_large (expr_leads z x at w s p r))
      (λ a v r2. nothing (Some a) r2 (omega arith) refl) (λ a b f g. (a, (g, f)))

  for_start_leads : (x : ForStartTree) (at : ℕ) (w : Walk) → ShapedForStart x → ForStartAt at x → Ready at (at + length (for_start_kinds x)) w
      → Gives (walk_for_start x w) (Leads z false at (at + length (for_start_kinds x)) w (ForStartGood x))
  for_start_leads (s.Declares d) at w h p r =
      seq {Q = λ a b. b ≡ None} (at + length (declaration_kinds d)) r (omega arith) (omega arith) (declaration_leads false d at w h p r)
      (λ a v r2. nothing None r2 (omega arith) refl) (λ a b f g. (f, g))
  for_start_leads (s.Computes x) at w h p r =
      let long : length (for_start_kinds (s.Computes x)) ≡ length (optional_kinds expr_kinds x) + 1 = length-append (optional_kinds expr_kinds x) (a_sign sign.Semicolon) in
      widely at (at + length (for_start_kinds (s.Computes x))) (optional_leads x at w h p
      (ready_in r at (at + length (optional_kinds expr_kinds x)) (omega arith) (omega (arith, long)))) (omega arith) (omega (arith, long))

  part_fits : (o : Option ExprTree) (a : Option Operand) → GoodOption o a → is_struct_part a ≡ false → PartFits z o
  part_fits None a h k = tt
  part_fits (Some x) a h k =
      (h.1.1.0, of_is z (λ b. is_struct b.ctype ≡ false) (operand z x) h.0 (operand_is z x h.0 h.1.1.1) (subst (λ c. is_struct_part c ≡ false) h.1.0 k))

  condition_is : (x : ExprTree) (a : Operand) → Known z x a → not (is_scalar_value a) ≡ false → ConditionIsScalar z x
  condition_is x a h k = of_is z IsScalar (operand z x) a (operand_is z x a h) (not-false (is_scalar_value a) k)

  condition_fits : (o : Option ExprTree) (a : Option Operand) → GoodOption o a → not (is_condition_part a) ≡ false → ConditionFits z o
  condition_fits None a h k = tt
  condition_fits (Some x) a h k = (h.1.1.0, condition_is x h.0 h.1.1.1 (subst (λ c. not (is_condition_part c) ≡ false) h.1.0 k))

  start_fits : (x : ForStartTree) (a : Option Operand) → ForStartGood x a → is_struct_part a ≡ false → ForStartFits z x
  start_fits (s.Declares d) a h k = h.0
  start_fits (s.Computes x) a h k = part_fits x a h k

  -- what is asked of a value, behind the parts of its statement
  asked : (lo hi : ℕ) (wrong : Bool) (kind : FaultKind) (token : ℕ) (w : Walk) → Ready lo hi w → lo ≤ hi
      → Gives (fault_if_wrong wrong kind token w) (Leads z false lo hi w (λ d. wrong ≡ false))
  asked lo hi wrong kind token w r high = refused wrong kind token (Fine tt w) (λ h. nothing tt r high h)

  abbrev StatementLeads : TypeTree → Bool → ℕ → StatementTree → Walk → Walked Done → Type 0
  StatementLeads gives looping at x w m = Gives m (Leads z false at (at + length (statement_kinds x)) w (λ d. StatementFits z gives looping x))

  mutual
    pub statement_leads : (gives : TypeTree) (looping : Bool) (x : StatementTree) (at : ℕ) (w : Walk) → ShapedStatement x → StatementAt at x
        → Ready at (at + length (statement_kinds x)) w → StatementLeads gives looping at x w (walk_statement gives looping x w)
    statement_leads gives looping (s.Block token entries) at w h p r =
        let long : length (statement_kinds (s.Block token entries)) ≡ 2 + length (entry_kinds entries) =
        omega (arith, length-append (entry_kinds entries) (a_sign sign.RightBrace)) in
        and_then (entries_leads gives looping entries (at + 1) (scope_opened w) h p.1
        (ready_opened (ready_in r (at + 1) (at + 1 + length (entry_kinds entries)) (omega arith) (omega (arith, long)))))
        (λ d u g. record {
          by = record {
            part = wider at (at + length (statement_kinds (s.Block token entries))) (enclosed g.part) (omega arith)
                (omega (arith, long));
            kept = tt;
          };
        })
    statement_leads gives looping (s.Empty token) at w h p r = nothing tt r (omega arith) tt
    statement_leads gives looping (s.Expr token x) at w h p r =
        let long : length (statement_kinds (s.Expr token x)) ≡ length (expr_kinds x) + 1 = length-append (expr_kinds x) (a_sign sign.Semicolon) in
        seq {Q = λ a d. is_struct a.ctype ≡ false} (at + length (expr_kinds x)) r (omega arith) (omega (arith, long))
        (at_large (whole_leads z x at w h p.1 (ready_in r at (at + length (expr_kinds x)) (omega arith) (omega (arith, long)))))
        (λ a v r2. asked (at + length (expr_kinds x)) (at + length (statement_kinds (s.Expr token x))) (is_struct a.ctype) fault.Operands token v r2
        (omega (arith, long)))
        (λ a d f g. (f.0, of_is z (λ b. is_struct b.ctype ≡ false) (operand z x) a (operand_is z x a f.1) g))
    statement_leads gives looping (s.If token c x) at w h p r =
        let long : length (statement_kinds (s.If token c x)) ≡ 3 + length (expr_kinds c) + length (statement_kinds x) = if_long c x in
        let hi : ℕ = at + length (statement_kinds (s.If token c x)) in
        seq {Q = λ a d. StatementFits z gives looping x × (not (is_scalar_value a) ≡ false)} (at + 2 + length (expr_kinds c)) r (omega arith)
        (omega (arith, long))
        (widely at (at + 2 + length (expr_kinds c)) (at_large (expr_leads z c (at + 2) w h.0 p.1
        (ready_in r (at + 2) (at + 2 + length (expr_kinds c)) (omega arith) (omega (arith, long))))) (omega arith) (omega arith))
        (λ a v r2. seq {Q = λ d k. not (is_scalar_value a) ≡ false} hi r2 (omega (arith, long)) (omega arith)
        (widely (at + 2 + length (expr_kinds c)) hi (statement_leads gives looping x (at + 2 + length (expr_kinds c) + 1) v h.1 p.2
        (ready_in r2 (at + 2 + length (expr_kinds c) + 1) (at + 2 + length (expr_kinds c) + 1 + length (statement_kinds x)) (omega arith)
        (omega (arith, long))))
        (omega arith) (omega (arith, long)))
        (λ d u r3. asked hi hi (not (is_scalar_value a)) fault.Operands token u r3 (omega arith)) (λ d k f g. (f, g)))
        (λ a d f g. (f.0, condition_is c a f.1 g.1, g.0))
    statement_leads gives looping (s.IfElse token c x y) at w h p r =
        let long : length (statement_kinds (s.IfElse token c x y)) ≡ 4 + length (expr_kinds c) + length (statement_kinds x) + length (statement_kinds y) =
        else_long c x y in
        let hi : ℕ = at + length (statement_kinds (s.IfElse token c x y)) in
        let mid : ℕ = at + 2 + length (expr_kinds c) + 1 + length (statement_kinds x) in
        seq {Q = λ a d. StatementFits z gives looping x × StatementFits z gives looping y × (not (is_scalar_value a) ≡ false)}
        (at + 2 + length (expr_kinds c)) r (omega arith) (omega (arith, long))
        (widely at (at + 2 + length (expr_kinds c)) (at_large (expr_leads z c (at + 2) w h.0 p.1
        (ready_in r (at + 2) (at + 2 + length (expr_kinds c)) (omega arith) (omega (arith, long))))) (omega arith) (omega arith))
        (λ a v r2. seq {Q = λ d k. StatementFits z gives looping y × (not (is_scalar_value a) ≡ false)} mid r2 (omega arith) (omega (arith, long))
        (widely (at + 2 + length (expr_kinds c)) mid (statement_leads gives looping x (at + 2 + length (expr_kinds c) + 1) v h.1 p.2
        (ready_in r2 (at + 2 + length (expr_kinds c) + 1) mid (omega arith) (omega (arith, long)))) (omega arith) (omega arith))
        (λ d u r3. seq {Q = λ d k. not (is_scalar_value a) ≡ false} hi r3 (omega (arith, long)) (omega arith)
        (widely mid hi (statement_leads gives looping y (mid + 1) u h.3 p.3
        (ready_in r3 (mid + 1) (mid + 1 + length (statement_kinds y)) (omega arith) (omega (arith, long)))) (omega arith) (omega (arith, long)))
        (λ d q r4. asked hi hi (not (is_scalar_value a)) fault.Operands token q r4 (omega arith)) (λ d k f g. (f, g))) (λ d k f g. (f, g.0, g.1)))
        (λ a d f g. (f.0, condition_is c a f.1 g.2, g.0, g.1))
    statement_leads gives looping (s.While token c x) at w h p r =
        let long : length (statement_kinds (s.While token c x)) ≡ 3 + length (expr_kinds c) + length (statement_kinds x) = if_long c x in
        let hi : ℕ = at + length (statement_kinds (s.While token c x)) in
        seq {Q = λ a d. StatementFits z gives true x × (not (is_scalar_value a) ≡ false)} (at + 2 + length (expr_kinds c)) r (omega arith) (omega (arith, long))
        (widely at (at + 2 + length (expr_kinds c)) (at_large (expr_leads z c (at + 2) w h.0 p.1
        (ready_in r (at + 2) (at + 2 + length (expr_kinds c)) (omega arith) (omega (arith, long))))) (omega arith) (omega arith))
        (λ a v r2. seq {Q = λ d k. not (is_scalar_value a) ≡ false} hi r2 (omega (arith, long)) (omega arith)
        (widely (at + 2 + length (expr_kinds c)) hi (statement_leads gives true x (at + 2 + length (expr_kinds c) + 1) v h.1 p.2
        (ready_in r2 (at + 2 + length (expr_kinds c) + 1) (at + 2 + length (expr_kinds c) + 1 + length (statement_kinds x)) (omega arith)
        (omega (arith, long))))
        (omega arith) (omega (arith, long)))
        (λ d u r3. asked hi hi (not (is_scalar_value a)) fault.Operands token u r3 (omega arith)) (λ d k f g. (f, g)))
        (λ a d f g. (f.0, condition_is c a f.1 g.1, g.0))
    statement_leads gives looping (s.Do token x c) at w h p r =
        let long : length (statement_kinds (s.Do token x c)) ≡ 5 + length (expr_kinds c) + length (statement_kinds x) = do_long c x in
        let hi : ℕ = at + length (statement_kinds (s.Do token x c)) in
        let mid : ℕ = at + 1 + length (statement_kinds x) in
        seq {Q = λ d k. ExprFits z c × ConditionIsScalar z c} mid r (omega arith) (omega (arith, long))
        (widely at mid (statement_leads gives true x (at + 1) w h.0 p.1 (ready_in r (at + 1) mid (omega arith) (omega (arith, long)))) (omega arith)
        (omega arith))
        (λ d v r2. seq {Q = λ a k. not (is_scalar_value a) ≡ false} hi r2 (omega (arith, long)) (omega arith)
        (widely mid hi (at_large (expr_leads z c (mid + 2) v h.1 p.2
        (ready_in r2 (mid + 2) (mid + 2 + length (expr_kinds c)) (omega arith) (omega (arith, long))))) (omega arith) (omega (arith, long)))
        (λ a u r3. asked hi hi (not (is_scalar_value a)) fault.Operands token u r3 (omega arith)) (λ a k f g. (f.0, condition_is c a f.1 g)))
        (λ d k f g. (f, g.0, g.1))
    statement_leads gives looping (s.For token b c d x) at w h p r =
        let long : length (statement_kinds (s.For token b c d x))
        ≡ 4 + length (for_start_kinds b) + length (optional_kinds expr_kinds c) + length (optional_kinds expr_kinds d) + length (statement_kinds x) = for_long b c d x in
        let hi : ℕ = at + length (statement_kinds (s.For token b c d x)) in
        let one : ℕ = at + 2 + length (for_start_kinds b) in
        let two : ℕ = one + length (optional_kinds expr_kinds c) in
        let three : ℕ = two + 1 + length (optional_kinds expr_kinds d) in
        let r0 : Ready (at + 2) hi (scope_opened w) = ready_opened (ready_in r (at + 2) hi (omega arith) (omega arith)) in
        and_then (for_start_leads b (at + 2) (scope_opened w) h.0 p.1 (ready_in r0 (at + 2) one (omega arith) (omega (arith, long)))) (λ x1 v g1.
        let r1 : Ready one hi v = ready_after r0 g1.part one hi (omega arith) (omega arith) in
        and_then (optional_leads c one v h.1 p.2 (ready_in r1 one two (omega arith) (omega (arith, long)))) (λ x2 u g2.
        let r2 : Ready two hi u = ready_after r1 g2.part two hi (omega arith) (omega arith) in
        and_then (widely two three (optional_leads d (two + 1) u h.2 p.3 (ready_in r2 (two + 1) three (omega arith) (omega (arith, long)))) (omega arith)
        (omega arith)) (λ x3 q g3.
        let r3 : Ready three hi q = ready_after r2 g3.part three hi (omega arith) (omega arith) in
        and_then (widely three hi (statement_leads gives true x (three + 1) q h.3 p.4
        (ready_in r3 (three + 1) (three + 1 + length (statement_kinds x)) (omega arith) (omega (arith, long)))) (omega arith) (omega (arith, long))) (λ x4 o g4.
        and_then (asked hi hi (is_struct_part x1 || not (is_condition_part x2) || is_struct_part x3) fault.Operands token o
        (ready_after r3 g4.part hi hi (omega arith) (omega arith)) (omega arith)) (λ x5 n g5. record {
          by = record {
            part = so (wider at hi (enclosed
                (rightwards g1.part (rightwards g2.part (rightwards g3.part (rightwards g4.part g5.part (omega (arith, long)) (omega arith))
                (omega arith) (omega (arith, long))) (omega arith) (omega (arith, long))) (omega arith) (omega (arith, long)))) (omega arith) (omega arith))
                (λ f. let n = three_or_false (is_struct_part x1) (not (is_condition_part x2)) (is_struct_part x3) f.1.1.1.1 in
                (start_fits b x1 f.0 n.0, condition_fits c x2 f.1.0 n.1, part_fits d x3 f.1.1.0 n.2, f.1.1.1.0));
            kept = tt;
          };
        })))))
    statement_leads gives looping (s.Return token None) at w h p r =
        leads_so (asked at (at + length (statement_kinds (s.Return token None))) (not (is_void gives)) fault.Jump token w r (omega arith))
        (λ d h. not-false (is_void gives) h)
    statement_leads gives looping (s.Return token (Some x)) at w h p r =
        let long : length (statement_kinds (s.Return token (Some x))) ≡ length (expr_kinds x) + 2 =
        omega (arith, length-append (a_word word.Return ++ expr_kinds x) (a_sign sign.Semicolon)) in
        let hi : ℕ = at + length (statement_kinds (s.Return token (Some x))) in
        seq {Q = λ a d. (is_void gives ≡ false) × (not (is_assignable gives a) ≡ false)} hi r (omega arith) (omega arith)
        (widely at hi (at_large (expr_leads z x (at + 1) w h p.1
        (ready_in r (at + 1) (at + 1 + length (expr_kinds x)) (omega arith) (omega (arith, long))))) (omega arith) (omega (arith, long)))
        (λ a v r2. refused (is_void gives) fault.Jump token (fault_if_wrong (not (is_assignable gives a)) fault.Operands token v)
        (λ k. leads_so (asked hi hi (not (is_assignable gives a)) fault.Operands token v r2 (omega arith)) (λ d h. (k, h))))
        (λ a d f g. (f.0, g.0, of_is z (Accepts gives) (operand z x) a (operand_is z x a f.1) (accepts gives a (not-false (is_assignable gives a) g.1))))
    statement_leads gives looping (s.Break token) at w h p r =
        leads_so (asked at (at + length (statement_kinds (s.Break token))) (not looping) fault.Jump token w r (omega arith)) (λ d h. not-false looping h)
    statement_leads gives looping (s.Continue token) at w h p r =
        leads_so (asked at (at + length (statement_kinds (s.Continue token))) (not looping) fault.Jump token w r (omega arith)) (λ d h. not-false looping h)

    pub entries_leads : (gives : TypeTree) (looping : Bool) (xs : EntryList) (at : ℕ) (w : Walk) → ShapedEntries xs → EntriesAt at xs
        → Ready at (at + length (entry_kinds xs)) w
        → Gives (walk_entries gives looping xs w) (Leads z false at (at + length (entry_kinds xs)) w (λ d. EntriesFit z gives looping xs))
    entries_leads gives looping s.no_entries at w h p r = nothing tt r (omega arith) tt
    entries_leads gives looping (s.declared d rest) at w h p r =
        let long : length (entry_kinds (s.declared d rest)) ≡ length (declaration_kinds d) + length (entry_kinds rest) =
        length-append (declaration_kinds d) (entry_kinds rest) in
        seq (at + length (declaration_kinds d)) r (omega arith) (omega (arith, long))
        (declaration_leads false d at w h.0 p.0 (ready_in r at (at + length (declaration_kinds d)) (omega arith) (omega (arith, long))))
        (λ k v r2. widely (at + length (declaration_kinds d)) (at + length (entry_kinds (s.declared d rest)))
        (entries_leads gives looping rest (at + length (declaration_kinds d)) v h.1 p.1
        (ready_in r2 (at + length (declaration_kinds d)) (at + length (declaration_kinds d) + length (entry_kinds rest)) (omega arith) (omega (arith, long))))
        (omega arith) (omega (arith, long)))
        (λ k d f g. (f, g))
    entries_leads gives looping (s.stated x rest) at w h p r =
        let long : length (entry_kinds (s.stated x rest)) ≡ length (statement_kinds x) + length (entry_kinds rest) =
        length-append (statement_kinds x) (entry_kinds rest) in
        seq (at + length (statement_kinds x)) r (omega arith) (omega (arith, long))
        (statement_leads gives looping x at w h.0 p.0 (ready_in r at (at + length (statement_kinds x)) (omega arith) (omega (arith, long))))
        (λ k v r2. widely (at + length (statement_kinds x)) (at + length (entry_kinds (s.stated x rest)))
        (entries_leads gives looping rest (at + length (statement_kinds x)) v h.1 p.1
        (ready_in r2 (at + length (statement_kinds x)) (at + length (statement_kinds x) + length (entry_kinds rest)) (omega arith) (omega (arith, long))))
        (omega arith) (omega (arith, long)))
        (λ k d f g. (f, g))
