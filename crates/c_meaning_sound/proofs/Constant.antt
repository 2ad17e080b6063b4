-- What initialises a global: constants, through which the walk leaves the names in scope as they are.
use Rattle.std.proofs.Common.{◌≡◌, ℕ, ◌≤◌, refl, ap, subst, sym, ◌∙◌, arith, List, [], ◌∷◌, ◌++◌, Some, None, ◌+◌, Bool, true, false, length}
use Rattle.std.specs.Prelude.{Option, IfSome, ◌&&◌, if◌then◌else◌}
use Rattle.std.specs.List.{AllByRecursion}
use Rattle.std.specs.Option.{option_map}
use Rattle.std.proofs.lemmas.Bool.{false≢true, and_parts}
use Rattle.std.proofs.lemmas.List.{append-nil, append_assoc}
use Rattle.c_types_expressions.proofs.Giving.{Gives as GivesIn}
use Rattle.c_types_expressions.proofs.Given.{Gives, and_then, weaker}
use Rattle.base_lists.proofs.Every.{all_first, all_second}
use Rattle.cbi_base.specs.declared.scalar.Kind.TheVariants as kind
use Rattle.c_syntax.specs.Words.{SourceTree, ExprTree, ExprList, InitialTree, first_token, InitialAt, ShapedInitial, a_sign, comma_kinds, expr_kinds}
use Rattle.c_syntax.specs.Words.{exprs_kinds, more_exprs_kinds}
use Rattle.c_syntax.specs.declared.expr.PrefixOperator.TheVariants as prefix
use Rattle.c_syntax.specs.declared.token.Sign.TheVariants as sign
use Rattle.c_syntax.specs.ExprTree as e
use Rattle.c_syntax.specs.StatementTree as s
use Rattle.c_types_rules.specs.declared.operand.Operand.{Operand}
use Rattle.c_types_rules.specs.TypeTree as t
use Rattle.c_types_rules.specs.Words.{TypeTree, is_assignable, is_scalar}
use Rattle.c_types_expressions.specs.declared.walk.Walk.{Walk}
use Rattle.c_types.specs.Answers.{declared_at, note_at}
use Rattle.c_types_expressions.specs.Words.{walk_expr, walk_exprs, Walked, Fine, Faulty}
use Rattle.c_types_walk.specs.Initialisers.{all_initialise, cells_of_string, is_scalar_initialiser, is_constant, listed_type, type_by_expression, walk_initial, with_length}
use Rattle.c_meaning.specs.declared.value_type.ValueType.{ValueType}
use Rattle.c_meaning.specs.Words.{computed_type, element_type, facts_of, strings_in, strings_initial, strings_of_all, token_of}
use Rattle.c_meaning_laws.specs.Rules.{Accepts}
use Rattle.c_meaning_laws.specs.TypedStatements.{TypedElements, TypedValue}
use Rattle.c_meaning_laws.specs.TypedText.{GlobalInitial, GlobalItems, IsConstant}
use Rattle.c_meaning_laws.proofs.Ruled.{known}
use Rattle.c_meaning_sound.specs.Accepted.{IsNegatable}
use Rattle.c_meaning_sound.proofs.Expressions.{exprs_good, walk_good}
use Rattle.c_meaning_sound.proofs.Forming.{Ended}
use Rattle.c_meaning_sound.proofs.Initialising.{Items, Lengthened, as_it_is, braced_long, completed, elements_typed, equals_kinds, listed_items, listed_length}
use Rattle.c_meaning_sound.proofs.Initialising.{spelled_lies, value_typed, valued_length}
use Rattle.c_meaning_sound.proofs.Marking.{Still, still_here, still_then}
use Rattle.c_meaning_sound.proofs.Noting.{Part, Ready, facts, none, nothing_noted, ready_in, so, wider}
use Rattle.c_meaning_sound.proofs.Operands.{Fits, Matched}
use Rattle.c_meaning_sound.proofs.Texts.{Spelled}

both_in : {A : Type 0} (P Q : A → Walk → Type 0) (m : Walked A) → GivesIn P m → GivesIn Q m → GivesIn (λ a v. P a v × Q a v) m
both_in P Q (Fine a v) h k = (h, k)
both_in P Q (Faulty i j) h k = tt

gives_both : {A : Type 0} {P Q : A → Walk → Type 0} {m : Walked A} → Gives m P → Gives m Q → Gives m (λ a v. P a v × Q a v)
gives_both {P = P} {Q = Q} {m = m} h k = record { by = both_in P Q m h.by k.by }

vacuous : {A : Type 0} (Q : A → Walk → Type 0) (m : Walked A) → Gives m (λ a v. false ≡ true → Q a v)
vacuous Q (Fine a v) = record { by = λ h. absurd (false≢true h) }
vacuous Q (Faulty i j) = record { by = tt }

-- whatever a variable takes outside of functions is a constant
third_of : (p q r : Bool) (of u : TypeTree) → (if p && q && r then Some of else None) ≡ Some u → r ≡ true
third_of true true true of u h = refl
third_of true true false of u h = cc
third_of true false r of u h = cc
third_of false q r of u h = cc

third_true : (p q r : Bool) → (p && q && r) ≡ true → r ≡ true
third_true true true r h = h
third_true true false r h = cc
third_true false q r h = cc

valued_constant : (value : ExprTree) (of u : TypeTree) (a : Operand) → type_by_expression true of value a (cells_of_string value) ≡ Some u → is_constant value ≡ true
valued_constant (e.Strings token parts) of u a h = refl
valued_constant x of u a h = third_of (is_scalar of) (is_assignable of a) _ of u h

abbrev pub AllConstant : ExprList → Type 0
AllConstant e.no_exprs = Unit {0}
AllConstant (e.more_exprs x rest) = (is_constant x ≡ true) × AllConstant rest

pub all_constant : (element : TypeTree) (items : ExprList) (own : List Operand) → all_initialise true element items own ≡ true → AllConstant items
all_constant element e.no_exprs own h = tt
all_constant element (e.more_exprs x rest) [] h = absurd (false≢true h)
all_constant element (e.more_exprs x rest) (a ∷ own) h =
    let parts : (is_scalar_initialiser true element x a ≡ true) × (all_initialise true element rest own ≡ true) =
    and_parts (is_scalar_initialiser true element x a) (all_initialise true element rest own) h in
    (third_true (is_scalar element) (is_assignable element a) (is_constant x) parts.0, all_constant element rest own parts.1)

rest_kinds : (rest : ExprList) → AllByRecursion IsNegatable (more_exprs_kinds rest) → AllByRecursion IsNegatable (exprs_kinds rest)
rest_kinds e.no_exprs h = tt
rest_kinds (e.more_exprs x rest) h = h.1

module _ (tree : SourceTree) (z : Walk) where
  -- a constant, through which the walk leaves the names as they are
  pub record Constantly (x : ExprTree) (w : Walk) (a : Operand) (v : Walk) : Type 0 where
    pub still : Still w v
    pub is : (c : ℕ) → Fits tree z c x → note_at z.types (token_of x) ≡ Some a.ctype → IsConstant (facts_of tree z) x

  constant_good : (x : ExprTree) (w : Walk) → AllByRecursion IsNegatable (expr_kinds x)
      → Gives (walk_expr x w) (λ a v. is_constant x ≡ true → Constantly x w a v)
  constant_good (e.Constant token k value) w n =
      record { by = λ h. record { still = record { names = refl; variables = refl; ends = refl; globals = refl }; is = λ c f q. f } }
  constant_good (e.Strings token parts) w n =
      record { by = λ h. record { still = record { names = refl; variables = refl; ends = refl; globals = refl }; is = λ c f q. f } }
  constant_good (e.Null token) w n =
      record { by = λ h. record { still = record { names = refl; variables = refl; ends = refl; globals = refl }; is = λ c f q. f } }
  constant_good (e.Prefix token prefix.Minus (e.Constant at kind.Int value)) w n =
      record {
        by = λ h. record {
          still = record { names = refl; variables = refl; ends = refl; globals = refl };
          is = λ c f q.
              (n.1.0, f.0, ap (option_map (computed_type z.structs)) q);
        };
      }
  constant_good (e.Prefix token prefix.Minus (e.Constant at kind.Unsigned value)) w n =
      record {
        by = λ h. record {
          still = record { names = refl; variables = refl; ends = refl; globals = refl };
          is = λ c f q.
              (n.1.0, f.0, ap (option_map (computed_type z.structs)) q);
        };
      }
  constant_good (e.Prefix token prefix.Minus (e.Constant at kind.Char value)) w n = absurd n.1.0
  constant_good x w n = vacuous (Constantly x w) (walk_expr x w)

  -- several of them
  abbrev AreConstant : ExprList → Type 0
  AreConstant e.no_exprs = Unit {0}
  AreConstant (e.more_exprs x rest) = IsConstant (facts_of tree z) x × AreConstant rest

  record ConstantList (xs : ExprList) (before : List Operand) (w : Walk) (all : List Operand) (v : Walk) : Type 0 where
    own : List Operand
    is : all ≡ before ++ own
    still : AllConstant xs → Still w v
    are : AllConstant xs → (c : ℕ) → Matched tree z c xs own → AreConstant xs

  constants_good : (xs : ExprList) (before : List Operand) (w : Walk) → AllByRecursion IsNegatable (exprs_kinds xs)
      → Gives (walk_exprs xs before w) (ConstantList xs before w)
  constants_good e.no_exprs before w n = record { by = record { own = []; is = sym (append-nil before); still = λ h. still_here w; are = λ h c m. tt } }
  constants_good (e.more_exprs x rest) before w n =
      and_then (constant_good x w (all_first IsNegatable (expr_kinds x) (more_exprs_kinds rest) n)) (λ a v g.
      weaker (constants_good rest (before ++ a ∷ []) v (rest_kinds rest (all_second IsNegatable (expr_kinds x) (more_exprs_kinds rest) n))) (λ all u k. record {
        own = a ∷ k.own;
        is = k.is ∙ append_assoc before (a ∷ []) k.own;
        still = λ h. still_then (g h.0).still (k.still h.1);
        are = λ h c m. ((g h.0).is c m.0 m.1, k.are h.1 c m.3);
      }))

  items_global : (c : ℕ) (u : Option ValueType) (xs : ExprList) → AreConstant xs → TypedElements (facts tree z) none c u xs → GlobalItems (facts_of tree z) u xs
  items_global c u e.no_exprs h k = tt
  items_global c u (e.more_exprs x rest) h k = (h.0, k.1, items_global c u rest h.1 k.2)

  -- what is known of the variable
  known_as : (token : ℕ) (of : TypeTree) → declared_at z token ≡ Some of → (facts tree z).declared_at token ≡ known z.structs of
  known_as token of h = ap (option_map (computed_type z.structs)) h

module _ (tree : SourceTree) (z : Walk) (ends : Ended tree z) where
  -- an initialiser of a global of this type, as it completes it
  abbrev pub OuterFits : Option InitialTree → TypeTree → Type 0
  OuterFits x of = GlobalInitial (facts_of tree z) (computed_type z.structs of) (element_type z.structs of) x

  pub record Outer (at hi token : ℕ) (x : Option InitialTree) (of : TypeTree) (w : Walk) (u : TypeTree) (v : Walk) : Type 0 where
    pub long : Lengthened of u
    pub still : Still w v
    pub part : Part tree z at hi w v (λ c. (n : ℕ) → declared_at z token ≡ Some (with_length n of) → OuterFits x (with_length n of))

  value_outer : (c token n : ℕ) (of : TypeTree) (value : ExprTree) → declared_at z token ≡ Some (with_length n of)
      → TypedValue (facts tree z) none c token ((facts tree z).declared_at token) value → IsConstant (facts_of tree z) value
      → OuterFits (Some (s.Value value)) (with_length n of)
  value_outer c token n of value d h k = by_type of (known_as tree z token (with_length n of) d)
      (subst (λ o. TypedValue (facts tree z) none c token o value) (known_as tree z token (with_length n of) d) h)
    where
      by_type : (of : TypeTree) → (facts tree z).declared_at token ≡ known z.structs (with_length n of)
          → TypedValue (facts tree z) none c token (known z.structs (with_length n of)) value → OuterFits (Some (s.Value value)) (with_length n of)
      by_type (t.Array element size) i h = h.1
      by_type t.Void i h = (k, subst (λ o. Accepts (facts tree z) o value) i h.1)
      by_type t.Char i h = (k, subst (λ o. Accepts (facts tree z) o value) i h.1)
      by_type t.Int i h = (k, subst (λ o. Accepts (facts tree z) o value) i h.1)
      by_type t.Unsigned i h = (k, subst (λ o. Accepts (facts tree z) o value) i h.1)
      by_type (t.Pointer to) i h = (k, subst (λ o. Accepts (facts tree z) o value) i h.1)
      by_type (t.Struct tag) i h = (k, subst (λ o. Accepts (facts tree z) o value) i h.1)

  listed_outer : (c n at : ℕ) (comma : Bool) (of u : TypeTree) (items : ExprList) (own : List Operand) → listed_type true items own of ≡ Some u
      → Matched tree z c items own → (AllConstant items → AreConstant tree z items) → OuterFits (Some (s.Braced at items comma)) (with_length n of)
  listed_outer c n at comma (t.Array element size) u items own h m k =
      let fits : Items tree z ends true element items own size u = listed_items tree z ends true element u size items own h in
      items_global tree z c (known z.structs element) items (k (all_constant element items own fits.all))
      (elements_typed tree z ends true c element (known z.structs element) items own refl m fits.all)
  listed_outer c n at comma of u items own h m k = cc

  listed_constant : (of u : TypeTree) (items : ExprList) (own : List Operand) → listed_type true items own of ≡ Some u → AllConstant items
  listed_constant (t.Array element size) u items own h = all_constant element items own (listed_items tree z ends true element u size items own h).all
  listed_constant of u items own h = cc

  pub outer_good : (x : Option InitialTree) (at token : ℕ) (of : TypeTree) (w : Walk) → IfSome x ShapedInitial → IfSome x (InitialAt (at + 1))
      → AllByRecursion (Spelled tree) (strings_initial x) → AllByRecursion IsNegatable (equals_kinds x) → Ready tree z at (at + length (equals_kinds x)) w
      → Gives (walk_initial true of x w) (Outer at (at + length (equals_kinds x)) token x of w)
  outer_good None at token of w q p l i r =
      record { by = record { long = as_it_is of; still = still_here w; part = nothing_noted at (at + length (equals_kinds None)) w (λ c n d. tt) } }
  outer_good (Some (s.Value value)) at token of w q p l i r =
      let long : length (equals_kinds (Some (s.Value value))) ≡ 1 + length (expr_kinds value) = omega arith in
      and_then (gives_both (walk_good tree z ends value (at + 1) w q.1 p (spelled_lies tree z ends (strings_in value) l)
      (ready_in r (at + 1) (at + 1 + length (expr_kinds value)) (omega arith) (omega (arith, long)))) (constant_good tree z value w i.1)) (λ a v g.
      completed (first_token value) (type_by_expression true of value a (cells_of_string value)) v (λ u h.
      let k : Constantly tree z value w a v = g.1 (valued_constant value of u a h) in
      record {
        long = valued_length true (cells_of_string value) of u value a h;
        still = k.still;
        part = so (wider g.0.part (omega arith) (omega (arith, long))) (λ c f n d.
            value_outer c token n of value d (value_typed tree z ends true c token n of u value a h d f.0 f.1 g.0.null l) (k.is c f.0 f.1));
      }))
  outer_good (Some (s.Braced brace items comma)) at token of w q p l i r =
      let long : length (exprs_kinds items) + 2 ≤ length (equals_kinds (Some (s.Braced brace items comma))) = omega (arith, braced_long items comma) in
      let plain : AllByRecursion IsNegatable (exprs_kinds items) =
      all_first IsNegatable (exprs_kinds items) (comma_kinds comma)
      (all_first IsNegatable (exprs_kinds items ++ comma_kinds comma) (a_sign sign.RightBrace) i.1.1) in
      and_then (gives_both (exprs_good tree z ends items (at + 1 + 1) [] w q.1 p.1 (spelled_lies tree z ends (strings_of_all items) l)
      (ready_in r (at + 1 + 1) (at + 1 + 1 + length (exprs_kinds items)) (omega arith) (omega (arith, long)))) (constants_good tree z items [] w plain))
      (λ xs v g.
      completed brace (listed_type true items xs of) v (λ u h.
      let own : listed_type true items g.1.own of ≡ Some u = subst (λ ys. listed_type true items ys of ≡ Some u) g.1.is h in
      let same : g.0.own ≡ g.1.own = sym g.0.is ∙ g.1.is in
      record {
        long = listed_length tree z ends true of u items g.1.own own;
        still = g.1.still (listed_constant of u items g.1.own own);
        part = so (wider g.0.part (omega arith) (omega (arith, long))) (λ c m n d.
            let matched : Matched tree z c items g.1.own = subst (Matched tree z c items) same m in
            listed_outer c n brace comma of u items g.1.own own matched (λ j. g.1.are j c matched));
      }))
