-- Two notes of a text that both are what its declarations say agree.
use Rattle.std.proofs.Common.{⊎_elim, ◌≡◌, ℕ, ◌+◌, ◌==◌, ◌≤◌, ◌<◌, refl, ap, ap₂, subst, sym, ◌∙◌, arith, List, [], ◌∷◌, ◌++◌, length, length-append}
use Rattle.std.proofs.Common.{Option, Some, None, Bool, true, false}
use Rattle.std.specs.Prelude.{is_some, slice_get, if◌then◌else◌}
use Rattle.std.proofs.lemmas.Bool.{cases_lt, false≢true}
use Rattle.std.proofs.lemmas.List.{append-nil}
use Rattle.std.proofs.lemmas.Option.{same_Some}
use Rattle.base_lists.proofs.Numbers.{same_number}
use Rattle.c_syntax.specs.declared.parts.Param.{Param}
use Rattle.c_syntax.specs.ExprTree as e
use Rattle.c_syntax.specs.Words.{ExprTree, ExprList, LinkList, PostfixList, ItemTree, SourceTree, declarator_kinds, DeclarationTree, EntryList, ForStartTree}
use Rattle.c_syntax.specs.Words.{InitialTree, StartTree, StatementTree}
use Rattle.c_syntax.specs.ItemTree as i
use Rattle.c_syntax.specs.StatementTree as s
use Rattle.c_types_rules.specs.declared.function.FunctionType.{FunctionType}
use Rattle.c_types_rules.specs.declared.operand.Operand.{Operand}
use Rattle.c_types_rules.specs.TypeTree.{TypeTree}
use Rattle.c_types.specs.Answers.{type_at}
use Rattle.c_types_expressions.specs.declared.walk.Walk.{Walk}
use Rattle.c_types_walk.specs.ItemWalk.{listed_params}
use Rattle.c_meaning.specs.Words.{main_of, signature_of, token_of}
use Rattle.c_types_faults.specs.Events.{Calls, Other, Event, Value, Initialises, Variable, Opens, Closes, Struct, Names as Naming, Defines}
use Rattle.c_types_faults.specs.Events.{construct_at, declaration_events, entries_events, events_of, expr_events, exprs_events, for_start_events, initial_events}
use Rattle.c_types_faults.specs.Events.{item_events, items_events, links_events, optional_events, params_events, postfix_events, scope_events, start_events}
use Rattle.c_types_faults.specs.Events.{starts_events, statement_events}
use Rattle.defined_functions.specs.Functions.{defined_by, defined_in}
use Rattle.c_types_faults.specs.Known.{Known, Object}
use Rattle.c_types_faults.specs.Context.{Context, name_declared, declared_in, empty_context, inner_context, known_identifiers}
use Rattle.c_types_faults.specs.Functions.{Formal, FunctionGives, with_formals}
use Rattle.c_types_faults.proofs.Quiet.{one_type, variable_one, whole_one}
use Rattle.c_types_faults.proofs.QuietItems.{formals_one, function_one, item_one, names_one, prototype_one}
use Rattle.c_types_faults.proofs.Single.{one_base, one_links, one_operand, one_postfix}
use Rattle.c_types_facts.specs.Exprs.{ExprTyped, ExprsTyped, HasType, IsTyped, LinksTyped, PostfixTyped, WholeTyped}
use Rattle.c_types_facts.specs.Statements.{DeclarationTyped, EntriesTyped, InitialTyped, PartTyped, StartTyped, StatementTyped, Typed, VariablesTyped}
use Rattle.c_types_facts.specs.Texts.{AreAlike, BodyTyped, ItemTyped, ItemsTyped, TextTyped, parameter_variables, signature}
use Rattle.c_types_facts.proofs.Items.{no_events}
use Rattle.c_types_facts.proofs.Logs.{tokens_both, tokens_in}

object_same : (a b : TypeTree) → Some (Object a) ≡ Some (Object b) → a ≡ b
object_same a b h = cc

module _ (w v : Walk) where
  -- the same types stand at these tokens
  abbrev Agree : List ℕ → Type 0
  Agree [] = Unit {0}
  Agree (k ∷ ks) = (type_at w k ≡ type_at v k) × Agree ks

  agree_lists : (xs ys : List ℕ) → Agree xs → Agree ys → Agree (xs ++ ys)
  agree_lists [] ys h g = g
  agree_lists (x ∷ xs) ys h g = (h.0, agree_lists xs ys h.1 g)

  agree_both : (xs ys : List Event) → Agree (tokens_in xs) → Agree (tokens_in ys) → Agree (tokens_in (xs ++ ys))
  agree_both xs ys h g = subst Agree (sym (tokens_both xs ys)) (agree_lists (tokens_in xs) (tokens_in ys) h g)

  agree_scoped : (es : List Event) → Agree (tokens_in es) → Agree (tokens_in (scope_events es))
  agree_scoped es h = subst Agree (sym (tokens_both es (Closes ∷ []) ∙ append-nil (tokens_in es))) h

  same_at : (token : ℕ) (d e : Operand) → HasType w token d → HasType v token e → d ≡ e → type_at w token ≡ type_at v token
  same_at token d e h g q = h ∙ ap (λ (x : Operand). Some x.ctype) q ∙ sym g

  module _ (k : Known) where
    own_same : (x : ExprTree) → IsTyped w k x → IsTyped v k x → type_at w (token_of x) ≡ type_at v (token_of x)
    own_same x (d, h) (y, g) = same_at (token_of x) d y h.1 g.1 (one_operand k x d y h.0 g.0)

    mutual
      expr_forced : (x : ExprTree) → ExprTyped w k x → ExprTyped v k x → Agree (tokens_in (expr_events x))
      expr_forced (e.Comma token operands) h g =
          agree_both (exprs_events operands) (Value token Other ∷ []) (exprs_forced operands h.0 g.0) (own_same (e.Comma token operands) h.1 g.1, tt)
      expr_forced (e.Assign token s target value) h g =
          agree_both (expr_events target) (expr_events value ++ Value token Other ∷ []) (expr_forced target h.0 g.0)
          (agree_both (expr_events value) (Value token Other ∷ []) (expr_forced value h.1.0 g.1.0)
          (own_same (e.Assign token s target value) h.1.1 g.1.1, tt))
      expr_forced (e.Conditional token condition first second) h g =
          agree_both (expr_events condition) (expr_events first ++ (expr_events second ++ Value token Other ∷ [])) (expr_forced condition h.0 g.0)
          (agree_both (expr_events first) (expr_events second ++ Value token Other ∷ []) (expr_forced first h.1.0 g.1.0)
          (agree_both (expr_events second) (Value token Other ∷ []) (expr_forced second h.1.1.0 g.1.1.0)
          (own_same (e.Conditional token condition first second) h.1.1.1 g.1.1.1, tt)))
      expr_forced (e.Chain level first links) (h0, (x, h)) (g0, (y, g)) =
          agree_both (expr_events first) (links_events links) (expr_forced first h0 g0)
          (links_forced links x h.1 (subst (λ z. LinksTyped v k z links) (one_operand k first y x g.0 h.0) g.1))
      expr_forced (e.Cast token b stars operand) h g =
          agree_both (expr_events operand) (Value token Other ∷ []) (expr_forced operand h.0 g.0) (own_same (e.Cast token b stars operand) h.1 g.1, tt)
      expr_forced (e.Prefix token o operand) h g =
          agree_both (expr_events operand) (Value token Other ∷ []) (expr_forced operand h.0 g.0) (own_same (e.Prefix token o operand) h.1 g.1, tt)
      expr_forced (e.Postfix primary operators) (h0, (x, h)) (g0, (y, g)) =
          agree_both (expr_events primary) (postfix_events (token_of primary) operators) (expr_forced primary h0 g0)
          (postfix_forced operators (token_of primary) x h.1 (subst (λ z. PostfixTyped v k z operators) (one_operand k primary y x g.0 h.0) g.1))
      expr_forced (e.Call token name arguments) h g =
          agree_both (exprs_events arguments) (Value token (Calls name) ∷ []) (exprs_forced arguments h.0 g.0)
          (own_same (e.Call token name arguments) h.1 g.1, tt)
      expr_forced (e.Paren token inner_context) h g =
          agree_both (expr_events inner_context) (Value token Other ∷ []) (expr_forced inner_context h.0 g.0) (own_same (e.Paren token inner_context) h.1 g.1, tt)
      expr_forced x h g = (own_same x h g, tt)

      exprs_forced : (xs : ExprList) → ExprsTyped w k xs → ExprsTyped v k xs → Agree (tokens_in (exprs_events xs))
      exprs_forced e.no_exprs h g = tt
      exprs_forced (e.more_exprs x rest) h g =
          agree_both (expr_events x) (exprs_events rest) (expr_forced x h.0 g.0) (exprs_forced rest h.1 g.1)

      links_forced : (links : LinkList) (left : Operand) → LinksTyped w k left links → LinksTyped v k left links → Agree (tokens_in (links_events links))
      links_forced e.no_links left h g = tt
      links_forced (e.more_links token s operand rest) left (h0, (m, h)) (g0, (n, g)) =
          let q : n ≡ m = one_links k (e.more_links token s operand e.no_links) left n m g.0 h.0 in
          agree_both (expr_events operand) (Value token Other ∷ links_events rest) (expr_forced operand h0 g0)
          (same_at token m n h.1.0 g.1.0 (sym q), links_forced rest m h.1.1 (subst (λ z. LinksTyped v k z rest) q g.1.1))

      postfix_forced : (operators : PostfixList) (operand : ℕ) (left : Operand) → PostfixTyped w k left operators → PostfixTyped v k left operators
          → Agree (tokens_in (postfix_events operand operators))
      postfix_forced e.no_postfix operand left h g = tt
      postfix_forced (e.index token x rest) operand left (h0, (m, h)) (g0, (n, g)) =
          let q : n ≡ m = one_postfix k (e.index token x e.no_postfix) left n m g.0 h.0 in
          agree_both (expr_events x) (Value token Other ∷ postfix_events token rest) (expr_forced x h0 g0)
          (same_at token m n h.1.0 g.1.0 (sym q), postfix_forced rest token m h.1.1 (subst (λ z. PostfixTyped v k z rest) q g.1.1))
      postfix_forced (e.member token name rest) operand left (m, h) (n, g) =
          let q : n ≡ m = one_postfix k (e.member token name e.no_postfix) left n m g.0 h.0 in
          (same_at token m n h.1.0 g.1.0 (sym q), postfix_forced rest token m h.1.1 (subst (λ z. PostfixTyped v k z rest) q g.1.1))
      postfix_forced (e.arrow token name rest) operand left (m, h) (n, g) =
          let q : n ≡ m = one_postfix k (e.arrow token name e.no_postfix) left n m g.0 h.0 in
          (same_at token m n h.1.0 g.1.0 (sym q), postfix_forced rest token m h.1.1 (subst (λ z. PostfixTyped v k z rest) q g.1.1))
      postfix_forced (e.increment token rest) operand left (m, h) (n, g) =
          let q : n ≡ m = one_postfix k (e.increment token e.no_postfix) left n m g.0 h.0 in
          (same_at token m n h.1.0 g.1.0 (sym q), postfix_forced rest token m h.1.1 (subst (λ z. PostfixTyped v k z rest) q g.1.1))
      postfix_forced (e.decrement token rest) operand left (m, h) (n, g) =
          let q : n ≡ m = one_postfix k (e.decrement token e.no_postfix) left n m g.0 h.0 in
          (same_at token m n h.1.0 g.1.0 (sym q), postfix_forced rest token m h.1.1 (subst (λ z. PostfixTyped v k z rest) q g.1.1))

    whole_forced : (x : ExprTree) → WholeTyped w k x → WholeTyped v k x → Agree (tokens_in (expr_events x))
    whole_forced (e.Call token name arguments) (h0, (d, h)) (g0, (y, g)) =
        agree_both (exprs_events arguments) (Value token (Calls name) ∷ []) (exprs_forced arguments h0 g0)
        (same_at token d y h.1 g.1 (whole_one k (e.Call token name arguments) d y h.0 g.0), tt)
    whole_forced x h g = expr_forced x h g

    part_forced : (x : Option ExprTree) → PartTyped w k x → PartTyped v k x → Agree (tokens_in (optional_events x))
    part_forced None h g = tt
    part_forced (Some x) h g = expr_forced x h g

    initial_forced : (equal : ℕ) (x : Option InitialTree) → InitialTyped w k x → InitialTyped v k x → Agree (tokens_in (initial_events equal x))
    initial_forced equal None h g = tt
    initial_forced equal (Some (s.Value value)) h g = expr_forced value h g
    initial_forced equal (Some (s.Braced token items comma)) h g = exprs_forced items h g

  -- declarations lead to one context, and declare the same variables

  variables_forced : (global : Bool) (base : TypeTree) (xs : List StartTree) (c p q : Context) (a b : List Typed) → VariablesTyped w global base c xs p a
      → VariablesTyped v global base c xs q b → (p ≡ q) × ((a ≡ b) × Agree (tokens_in (starts_events xs)))
  variables_forced global base [] c p q a b h g = (h.0 ∙ sym g.0, (h.1 ∙ sym g.1, tt))
  variables_forced global base (x ∷ xs) c p q a b (n, (t, (r, (h, h')))) (m, (u, (l, (g, g')))) =
      let one : m ≡ n = variable_one global base x c m n g.0 h.0 in
      let of : t ≡ u = object_same t u (sym h.1.0 ∙ ap (λ (y : Context). declared_in x.declarator.name y.scope) (sym one) ∙ g.1.0) in
      let first : g.1.1.0 ≡ h.1.1.0 = one_type x.declarator base g.1.1.0 h.1.1.0 g.1.1.1.0 h.1.1.1.0 in
      let rest = variables_forced global base xs n p q r l h'.0 (subst (λ z. VariablesTyped v global base z xs q l) one g'.0) in (
        rest.0,
        (
          h'.1 ∙ ap₂ (λ y ys. record { token = x.declarator.name_token; of = y } ∷ ys) of rest.1.0 ∙ sym g'.1,
          agree_both (start_events x) (starts_events xs)
              (initial_forced (known_identifiers (name_declared x.declarator.name (Object h.1.1.0) c)) (x.declarator.token + length (declarator_kinds x.declarator)) x.initial
              h.1.1.1.1 (subst (λ z. InitialTyped v (known_identifiers (name_declared x.declarator.name (Object z) c)) x.initial) first g.1.1.1.1))
              rest.1.1,
        ),
      )

  declaration_forced : (global : Bool) (d : DeclarationTree) (c p q : Context) (a b : List Typed) → DeclarationTyped w global c d p a
      → DeclarationTyped v global c d q b → (p ≡ q) × ((a ≡ b) × Agree (tokens_in (declaration_events d)))
  declaration_forced global d c p q a b (base, h) (other, g) =
      variables_forced global base d.starts c p q a b h.1
      (subst (λ z. VariablesTyped v global z c d.starts q b) (one_base (known_identifiers c) d.base other base g.0 h.0) g.1)

  start_forced : (x : ForStartTree) (c p q : Context) (a b : List Typed) → StartTyped w c x p a → StartTyped v c x q b
      → (p ≡ q) × ((a ≡ b) × Agree (tokens_in (for_start_events x)))
  start_forced (s.Declares d) c p q a b h g = declaration_forced false d c p q a b h g
  start_forced (s.Computes x) c p q a b h g = (h.1.0 ∙ sym g.1.0, (h.1.1 ∙ sym g.1.1, part_forced (known_identifiers c) x h.0 g.0))

  mutual
    statement_forced : (x : StatementTree) (c : Context) (a b : List Typed) → StatementTyped w c x a → StatementTyped v c x b
        → (a ≡ b) × Agree (tokens_in (statement_events x))
    statement_forced (s.Block token entries) c a b h g =
        let r = entries_forced entries (inner_context c) a b h g in (r.0, agree_scoped (entries_events entries) r.1)
    statement_forced (s.Expr token x) c a b h g = (h.1 ∙ sym g.1, whole_forced (known_identifiers c) x h.0 g.0)
    statement_forced (s.If token condition first) c a b h g =
        let r = statement_forced first c a b h.1 g.1 in
        (r.0, agree_both (expr_events condition) (statement_events first) (expr_forced (known_identifiers c) condition h.0 g.0) r.1)
    statement_forced (s.IfElse token condition first second) c a b (h, (p, (q, h'))) (g, (r, (l, g'))) =
        let one = statement_forced first c p r h'.0 g'.0 in
        let two = statement_forced second c q l h'.1.0 g'.1.0 in (
          h'.1.1 ∙ ap₂ (λ xs ys. xs ++ ys) one.0 two.0 ∙ sym g'.1.1,
          agree_both (expr_events condition) (statement_events first ++ statement_events second) (expr_forced (known_identifiers c) condition h g)
              (agree_both (statement_events first) (statement_events second) one.1 two.1),
        )
    statement_forced (s.While token condition body) c a b h g =
        let r = statement_forced body c a b h.1 g.1 in
        (r.0, agree_both (expr_events condition) (statement_events body) (expr_forced (known_identifiers c) condition h.0 g.0) r.1)
    statement_forced (s.Do token body condition) c a b h g =
        let r = statement_forced body c a b h.0 g.0 in
        (r.0, agree_both (statement_events body) (expr_events condition) r.1 (expr_forced (known_identifiers c) condition h.1 g.1))
    statement_forced (s.For token start condition step body) c a b (d, (p, (q, h))) (y, (r, (l, g))) =
        let one = start_forced start (inner_context c) d y p r h.0 g.0 in
        let two = statement_forced body d q l h.1.1.1.0 (subst (λ z. StatementTyped v z body l) (sym one.0) g.1.1.1.0) in (
          h.1.1.1.1 ∙ ap₂ (λ xs ys. xs ++ ys) one.1.0 two.0 ∙ sym g.1.1.1.1,
          agree_scoped (for_start_events start ++ (optional_events condition ++ (optional_events step ++ statement_events body)))
              (agree_both (for_start_events start) (optional_events condition ++ (optional_events step ++ statement_events body)) one.1.1
              (agree_both (optional_events condition) (optional_events step ++ statement_events body)
              (part_forced (known_identifiers d) condition h.1.0 (subst (λ z. PartTyped v (known_identifiers z) condition) (sym one.0) g.1.0))
              (agree_both (optional_events step) (statement_events body)
              (part_forced (known_identifiers d) step h.1.1.0 (subst (λ z. PartTyped v (known_identifiers z) step) (sym one.0) g.1.1.0)) two.1))),
        )
    statement_forced (s.Return token value) c a b h g = (h.1 ∙ sym g.1, part_forced (known_identifiers c) value h.0 g.0)
    statement_forced x c a b h g = (h ∙ sym g, tt)

    entries_forced : (xs : EntryList) (c : Context) (a b : List Typed) → EntriesTyped w c xs a → EntriesTyped v c xs b
        → (a ≡ b) × Agree (tokens_in (entries_events xs))
    entries_forced s.no_entries c a b h g = (h ∙ sym g, tt)
    entries_forced (s.declared declaration rest) c a b (n, (p, (q, h))) (m, (r, (l, g))) =
        let one = declaration_forced false declaration c n m p r h.0 g.0 in
        let two = entries_forced rest n q l h.1.0 (subst (λ z. EntriesTyped v z rest l) (sym one.0) g.1.0) in
        (h.1.1 ∙ ap₂ (λ xs ys. xs ++ ys) one.1.0 two.0 ∙ sym g.1.1, agree_both (declaration_events declaration) (entries_events rest) one.1.1 two.1)
    entries_forced (s.stated statement rest) c a b (p, (q, h)) (r, (l, g)) =
        let one = statement_forced statement c p r h.0 g.0 in
        let two = entries_forced rest c q l h.1.0 g.1.0 in
        (h.1.1 ∙ ap₂ (λ xs ys. xs ++ ys) one.0 two.0 ∙ sym g.1.1, agree_both (statement_events statement) (entries_events rest) one.1 two.1)

  -- items

  abbrev Signed : ℕ → Type 0
  Signed n = signature_of w (slice_get w.definitions n) ≡ signature_of v (slice_get v.definitions n)

  -- those of so many definitions from this number on
  abbrev AreSigned : ℕ → ℕ → Type 0
  AreSigned number count = (n : ℕ) → number ≤ n → n < number + count → Signed n

  none_signed : (number : ℕ) → AreSigned number 0
  none_signed number n low high = absurd (omega (arith, low, high))

  abbrev Items : ℕ → ℕ → List Event → Context → Context → List Typed → List Typed → Type 0
  Items number count es p q a b = (p ≡ q) × ((a ≡ b) × (Agree (tokens_in es) × (w.structs ≡ v.structs → AreSigned number count)))

  body_forced : (number : ℕ) (name : List ℕ) (f : FunctionType) (fs : List Formal) (body : EntryList) (c : Context) (a b : List Typed)
      (ps : List Param) → BodyTyped w number name ps f fs body c a → BodyTyped v number name ps f fs body c b
      → (a ≡ b) × (Agree (tokens_in (entries_events body)) × (w.structs ≡ v.structs → AreSigned number 1))
  body_forced number name f fs body c a b ps (n, (h, (p, (h0, (h1, h2))))) (m, (g, (q, (g0, (g1, g2))))) =
      let one : m ≡ n = names_one name f c m n g h in
      let two = entries_forced body (with_formals fs (inner_context n)) p q h0 (subst (λ z. EntriesTyped v (with_formals fs (inner_context z)) body q) one g0) in
      let same : a ≡ b = h1 ∙ ap (λ l. parameter_variables ps fs ++ l) two.0 ∙ sym g1 in (
        same,
        (
          two.1,
          λ ss j low high. subst Signed (the_one number j low high)
              (h2 ∙ ap₂ (λ structs own. Some (signature structs f own)) ss same ∙ sym g2),
        ),
      )
    where
      the_one : (number j : ℕ) → number ≤ j → j < number + 1 → number ≡ j
      the_one number j low high = omega (arith, low, high)

  event_tokens : (name : List ℕ) (ps : List Param) (body : EntryList)
      → tokens_in (Naming name ∷ scope_events (params_events ps ++ entries_events body) ++ Defines ∷ []) ≡ tokens_in (entries_events body)
  event_tokens name ps body =
      tokens_both (scope_events (params_events ps ++ entries_events body)) (Defines ∷ [])
      ∙ append-nil (tokens_in (scope_events (params_events ps ++ entries_events body)))
      ∙ tokens_both (params_events ps ++ entries_events body) (Closes ∷ [])
      ∙ append-nil (tokens_in (params_events ps ++ entries_events body))
      ∙ tokens_both (params_events ps) (entries_events body) ∙ ap (λ l. l ++ tokens_in (entries_events body)) (no_events ps)

  item_forced : (number : ℕ) (x : ItemTree) (c p q : Context) (a b : List Typed) → ItemTyped w number c x p a → ItemTyped v number c x q b
      → Items number (length (defined_by x)) (item_events x) p q a b
  item_forced number (i.Struct token tag members) c p q a b h g =
      (item_one (i.Struct token tag members) c p q h.0 g.0, (h.1 ∙ sym g.1, (tt, λ ss. none_signed number)))
  item_forced number (i.Function token base stars name ps None) c p q a b h g =
      (item_one (i.Function token base stars name ps None) c p q h.0 g.0, (h.1 ∙ sym g.1, (tt, λ ss. none_signed number)))
  item_forced number (i.Function token base stars name ps (Some body)) c p q a b (f, (fs, (h0, (h1, h2)))) (y, (gs, (g0, (g1, g2)))) =
      let one : y ≡ f = prototype_one base stars true (listed_params ps) c y f gs fs g0 h0 in
      let two : gs ≡ fs = formals_one base stars true (listed_params ps) c y f gs fs g0 h0 in
      let r = body_forced number name f fs body c a b (listed_params ps) h2
      (subst (λ z. BodyTyped v number name (listed_params ps) z fs body c b) one (subst (λ z. BodyTyped v number name (listed_params ps) y z body c b) two g2)) in (
        function_one name f fs (Some body) c p q h1
            (subst (λ z. FunctionGives name z fs (Some body) c q) one (subst (λ z. FunctionGives name y z (Some body) c q) two g1)),
        (r.0, (subst Agree (sym (event_tokens name (listed_params ps) body)) r.1.0, r.1.1)),
      )
  item_forced number (i.Declaration declaration) c p q a b h g =
      let r = declaration_forced true declaration c p q a b h g in (r.0, (r.1.0, (r.1.1, λ ss. none_signed number)))

  both_signed : (number n m : ℕ) → AreSigned number n → AreSigned (number + n) m → AreSigned number (n + m)
  both_signed number n m h g j low high = ⊎_elim (λ l. h j low l) (λ l. g j l (omega (arith, high))) (cases_lt j (number + n))

  items_forced : (number : ℕ) (xs : List ItemTree) (c p q : Context) (a b : List Typed) → ItemsTyped w number c xs p a → ItemsTyped v number c xs q b
      → Items number (length (defined_in xs)) (items_events xs) p q a b
  items_forced number [] c p q a b h g = (h.0 ∙ sym g.0, (h.1 ∙ sym g.1, (tt, λ ss. none_signed number)))
  items_forced number (x ∷ xs) c p q a b (n, (k, (l, h))) (m, (r, (t, g))) =
      let one = item_forced number x c n m k r h.0 g.0 in
      let two = items_forced (number + length (defined_by x)) xs n p q l t h.1.0
      (subst (λ z. ItemsTyped v (number + length (defined_by x)) z xs q t) (sym one.0) g.1.0) in (
        two.0,
        (
          h.1.1 ∙ ap₂ (λ xs ys. xs ++ ys) one.1.0 two.1.0 ∙ sym g.1.1,
          (
            agree_both (item_events x) (items_events xs) one.1.1.0 two.1.1.0,
            λ ss. subst (AreSigned number) (sym (length-append (defined_by x) (defined_in xs)))
                (both_signed number (length (defined_by x)) (length (defined_in xs)) (one.1.1.1 ss) (two.1.1.1 ss)),
          ),
        ),
      )

  type_same : (token : ℕ) (es : List Event) → is_some (construct_at token es) ≡ true → Agree (tokens_in es) → type_at w token ≡ type_at v token
  type_same token [] h g = absurd (false≢true h)
  type_same token (Value own c ∷ es) h g = by (own == token) refl h (λ l. type_same token es l g.1)
    where
      by : (b : Bool) → (own == token) ≡ b → is_some (if b then Some c else construct_at token es) ≡ true
          → (is_some (construct_at token es) ≡ true → type_at w token ≡ type_at v token) → type_at w token ≡ type_at v token
      by true q l f = subst (λ n. type_at w n ≡ type_at v n) (same_number own token q) g.0
      by false q l f = f l
  type_same token (Initialises own ∷ es) h g = type_same token es h g
  type_same token (Variable own ∷ es) h g = type_same token es h g
  type_same token (Opens ∷ es) h g = type_same token es h g
  type_same token (Closes ∷ es) h g = type_same token es h g
  type_same token (Struct ∷ es) h g = type_same token es h g
  type_same token (Naming name ∷ es) h g = type_same token es h g
  type_same token (Defines ∷ es) h g = type_same token es h g

pub forced : (t : SourceTree) (w v : Walk) (a b : List Typed) → TextTyped w t a → TextTyped v t b → AreAlike t w v a b
forced t w v a b (c, h, globals, main) (d, g, as_many, same_main) =
    let r = items_forced w v 0 t.items empty_context c d a b h.0 g.0 in
    let structs : w.structs ≡ v.structs = h.1 ∙ ap (λ (y : Context). y.structs) r.0 ∙ sym g.1 in (
      r.1.0,
      structs,
      globals ∙ sym as_many,
      same_Some (main_of w) (main_of v) (sym main ∙ same_main),
      λ token k. type_same w v token (events_of t) k r.1.1.0,
      λ number less. r.1.1.1 structs number (omega arith) (omega (arith, less)),
    )
