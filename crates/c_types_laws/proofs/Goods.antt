-- What the last look at each construct of an expression shows.
use Rattle.std.proofs.Common.{inl, inr, ◌≡◌, ℕ, suc, ◌≤◌, ◌<◌, refl, ap, subst, sym, ◌∙◌, arith, List, [], ◌∷◌, ◌++◌, Some, None, ◌+◌, Ok}
use Rattle.std.proofs.Common.{Err, Bool, true, false, length, length-append}
use Rattle.std.specs.Prelude.{Option, Result, option_map, slice_get, if◌then◌else◌, MatchOption}
use Rattle.std.proofs.lemmas.Bool.{and_parts, eqb-true, false≢true}
use Rattle.std.proofs.Math.Nat.{le-max_right}
use Rattle.c_types_expressions.proofs.Given.{Gives, looks}
use Rattle.c_types.proofs.Replaced.{noted_same}
use Rattle.base_lists.proofs.Lists.{Stays}
use Rattle.c_syntax.specs.declared.token.Sign.{Sign}
use Rattle.c_syntax.specs.declared.token.Sign.TheVariants as sign
use Rattle.c_syntax.specs.declared.parts.Base.{Base}
use Rattle.c_syntax.specs.declared.parts.Base.TheVariants as base
use Rattle.c_syntax.specs.declared.expr.PrefixOperator.{PrefixOperator}
use Rattle.c_syntax.specs.declared.expr.PrefixOperator.TheVariants as prefix
use Rattle.c_syntax.specs.ExprTree as e
use Rattle.c_syntax.specs.Words.{ExprTree, ExprList, LinkList, PostfixList, HasLink, HasOne, HasPostfix, Kinds, a_sign, expr_kinds, exprs_kinds, parenthesized_kinds}
use Rattle.c_syntax.specs.Words.{text_kinds}
use Rattle.c_types_rules.specs.declared.fault.FaultKind.{FaultKind}
use Rattle.c_types_rules.specs.declared.fault.FaultKind.TheVariants as fault
use Rattle.c_types_rules.specs.declared.library.Library.{Library}
use Rattle.c_types_rules.specs.declared.library.Library.TheVariants as library
use Rattle.c_types_rules.specs.Words.{is_assignable, fits_parameters, TypeTree, parenthesized_operand, is_struct, place_of, value_of, OperandOrFault}
use Rattle.c_types_rules.specs.Words.{library_called, library_named, one_scalar, cast_to, typed_sizeof, typed_conditional, typed_subscript, member_behind, member_of, typed_comma}
use Rattle.c_meaning.specs.Words.{is_null_constant, link_token, postfix_token, token_of}
use Rattle.c_types_rules.specs.declared.layout.Member.{Member}
use Rattle.c_types_rules.specs.declared.operand.Operand.{Operand}
use Rattle.c_types_rules.specs.TypeTree as t
use Rattle.c_types_rules.specs.Conversions as rule
use Rattle.c_types_rules.specs.Functions as functions
use Rattle.c_types_expressions.specs.declared.names.Meaning.{Meaning}
use Rattle.c_types_expressions.specs.declared.names.Meaning.TheVariants as meaning
use Rattle.c_types_expressions.specs.declared.walk.FunctionEntry.{FunctionEntry}
use Rattle.c_types_expressions.specs.declared.walk.Walk.{Walk}
use Rattle.c_types.specs.Answers.{note_at, type_at}
use Rattle.c_types_expressions.specs.Words.{typed_assignment, base_type, binary_of, called_name, typed_chain_operation, compound_of, operand_noted, named_operand, of_function, of_variable}
use Rattle.c_types_expressions.specs.Words.{typed_prefix_operation, selected_member, tagged_type, with_call, declared_meaning, meaning_of, with_type}
use Rattle.c_types_laws.specs.Naming.{IsInnermost, NamesNone}
use Rattle.c_types_laws.specs.Fits.{ArgumentsFit, CallFits, CalleeFits, ExprFits, ExprsFit, Gives as GivesType, IsSequence, LinksFit, Of, Operands}
use Rattle.c_types_laws.specs.Fits.{PostfixFits, ends_as_lvalue, is_lvalue, lvalue_at, operand, selected_operand, value_at}
use Rattle.c_types_laws.specs.Operands.{Accepts, Assigns, Casts, Chooses, Indexes, Joins, Prefixes, Selects, SelectsBehind, Steps}
use Rattle.c_types_laws.proofs.Ruled.{Is, IsPlace, IsValue, accepts, assigning_is, behind_stays, cast_is, chained_is, chosen_is, indexed_is, is_value}
use Rattle.c_types_laws.proofs.Ruled.{leads_to_place, measured_is, member_stays, prefixed_is, value_is}
use Rattle.c_types_laws.proofs.Scenes.{FunctionNamed, IsTop, Means, NoneOn, Scene, means, scene}
use Rattle.c_types_laws.proofs.Steps.{Agrees, Ready, call_marks, later_from, mark, marked, offset_marks, so}
use Rattle.c_types_laws.proofs.Steps.{sound_later, type_marks, use_marks, wider}
use Rattle.c_types_laws.proofs.Used.{innermost, names_none}
use Rattle.c_types_laws.proofs.Leading.{Leads, leads_so, nothing}

pub texts_long : (parts : List (List ℕ)) → HasOne parts → 1 ≤ length (text_kinds parts)
texts_long [] h = absurd h
texts_long (p ∷ parts) h = omega arith

pub around : (xs : Kinds) → length (parenthesized_kinds xs) ≡ length xs + 2
around xs = omega (arith, length-append xs (a_sign sign.RightParen))

pub infix_long : (xs ys : Kinds) (s : Sign) → length (xs ++ a_sign s ++ ys) ≡ length xs + 1 + length ys
infix_long xs ys s = omega (arith, length-append (xs ++ a_sign s) ys, length-append xs (a_sign s))

pub conditional_long : (condition first second : ExprTree)
    → length (expr_kinds condition ++ a_sign sign.Question ++ expr_kinds first ++ a_sign sign.Colon ++ expr_kinds second)
    ≡ length (expr_kinds condition) + 1 + length (expr_kinds first) + 1 + length (expr_kinds second)
conditional_long condition first second = omega (
  arith,
  length-append (expr_kinds condition ++ a_sign sign.Question ++ expr_kinds first ++ a_sign sign.Colon) (expr_kinds second),
  length-append (expr_kinds condition ++ a_sign sign.Question ++ expr_kinds first) (a_sign sign.Colon),
  length-append (expr_kinds condition ++ a_sign sign.Question) (expr_kinds first),
  length-append (expr_kinds condition) (a_sign sign.Question),
)

module _ (z : Walk) where
  -- the base of a type notes nothing
  pub tagged_leads : (token lo hi : ℕ) (m : Option Meaning) (w : Walk) → Ready lo hi w → Gives (tagged_type token m w) (Leads z true lo lo w (λ t. Unit {0}))
  tagged_leads token lo hi (Some (meaning.Struct index)) w r = nothing (t.Struct index) r (omega arith) tt
  tagged_leads token lo hi m w r = record { by = tt }

  pub base_leads : (b : Base) (lo hi : ℕ) (w : Walk) → Ready lo hi w → Gives (base_type b w) (Leads z true lo lo w (λ t. Unit {0}))
  base_leads (base.Void token) lo hi w r = nothing t.Void r (omega arith) tt
  base_leads (base.Char token) lo hi w r = nothing t.Char r (omega arith) tt
  base_leads (base.Int token) lo hi w r = nothing t.Int r (omega arith) tt
  base_leads (base.Unsigned token int) lo hi w r = nothing t.Unsigned r (omega arith) tt
  base_leads (base.Struct token tag) lo hi w r = tagged_leads token lo hi (declared_meaning tag w.tags) w r

  -- what is known at the end of an expression that was this operand
  pub record Known (x : ExprTree) (a : Operand) : Type 0 where
    pub typed : note_at z.types (token_of x) ≡ Some a.ctype
    pub place : is_lvalue x ≡ a.place
    pub null : is_null_constant x ≡ a.null

  abbrev pub made : TypeTree → Bool → Bool → Operand
  made t p n = record { ctype = t; place = p; null = n }

  pub operand_is : (x : ExprTree) (a : Operand) → Known x a → operand z x ≡ Some a
  operand_is x a k =
      ap (λ o. option_map (λ t. made t (is_lvalue x) (is_null_constant x)) o) k.typed ∙ ap (λ p. Some (made a.ctype p (is_null_constant x))) k.place
      ∙ ap (λ n. Some (made a.ctype a.place n)) k.null

  abbrev pub Good : ExprTree → Operand → Type 0
  Good x a = ExprFits z x × Known x a

  pub of_is : (P : Operand → Type 0) (o : Option Operand) (a : Operand) → o ≡ Some a → P a → Of o P
  of_is P o a h p = subst (λ o. Of o P) (sym h) p

  pub gives_type : (P : TypeTree → Type 0) (token : ℕ) (t : TypeTree) → note_at z.types token ≡ Some t → P t → GivesType (type_at z token) P
  gives_type P token t h p = subst (λ o. MatchOption o ⊥ P) (sym h) p

  -- the value behind an operator
  pub value_known : (token : ℕ) (d : Operand) → note_at z.types token ≡ Some d.ctype → d.place ≡ false → d.null ≡ false → value_at z token ≡ Some d
  value_known token d h p n = ap (λ o. option_map value_of o) h ∙ ap (λ b. Some (made d.ctype b false)) (sym p)
      ∙ ap (λ b. Some (made d.ctype d.place b)) (sym n)

  pub lvalue_known : (token : ℕ) (d : Operand) → note_at z.types token ≡ Some d.ctype → d.place ≡ true → d.null ≡ false → lvalue_at z token ≡ Some d
  lvalue_known token d h p n = ap (λ o. option_map place_of o) h ∙ ap (λ b. Some (made d.ctype b false)) (sym p)
      ∙ ap (λ b. Some (made d.ctype d.place b)) (sym n)

  pub selected_known : (token : ℕ) (a d : Operand) → note_at z.types token ≡ Some d.ctype → d.place ≡ a.place → d.null ≡ false
      → selected_operand (Some a) (type_at z token) ≡ Some d
  selected_known token a d h p n = ap (λ o. selected_operand (Some a) o) h ∙ ap (λ b. Some (made d.ctype b false)) (sym p)
      ∙ ap (λ b. Some (made d.ctype d.place b)) (sym n)

  -- several operands
  abbrev pub GoodList : ExprList → List Operand → List Operand → Type 0
  GoodList xs before all = (own : List Operand) × ((all ≡ before ++ own) × (ExprsFit z xs × Operands z xs own))

  pub passes : (ts : List TypeTree) (xs : ExprList) (own : List Operand) → Operands z xs own → fits_parameters ts own ≡ true → ArgumentsFit z ts xs
  passes [] e.no_exprs [] h k = tt
  passes [] (e.more_exprs x rest) (a ∷ own) h k = absurd (omega (arith, eqb-true (suc (length own)) 0 k))
  passes (t ∷ ts) e.no_exprs [] h k = absurd (false≢true k)
  passes (t ∷ ts) (e.more_exprs x rest) (a ∷ own) h k =
      let l = and_parts (is_assignable t a) (fits_parameters ts own) k in
      (of_is (Accepts t) (operand z x) a h.0 (accepts t a l.0), passes ts rest own h.1 l.1)
  passes [] e.no_exprs (a ∷ own) h k = absurd h
  passes [] (e.more_exprs x rest) [] h k = absurd h
  passes (t ∷ ts) e.no_exprs (a ∷ own) h k = absurd h
  passes (t ∷ ts) (e.more_exprs x rest) [] h k = absurd h

  pub no_struct : (b : Bool) (r : OperandOrFault) (d : Operand) → Is (if b then Err fault.Operands else r) d → (b ≡ false) × Is r d
  no_struct true r d h = absurd (cc)
  no_struct false r d h = (refl, h)

  pub sequence_is : (of : TypeTree) (x : ExprTree) (rest : ExprList) (own : List Operand) (d : Operand) → Operands z (e.more_exprs x rest) own
      → Is (typed_comma of own) d
      → IsValue (IsSequence z (e.more_exprs x rest)) d
  sequence_is of x rest [] d h k = absurd h
  sequence_is of x e.no_exprs (a ∷ []) d h k =
      let l = no_struct (is_struct a.ctype) (Ok (value_of (rule.value_type a))) d k in
      value_is (IsSequence z (e.more_exprs x e.no_exprs)) (rule.value_type a) d
      (of_is (λ b. (is_struct b.ctype ≡ false) × (rule.value_type a ≡ rule.value_type b)) (operand z x) a h.0 (l.0, refl)) l.1
  sequence_is of x e.no_exprs (a ∷ b ∷ own) d h k = absurd h.1
  sequence_is of x (e.more_exprs y ys) (a ∷ own) d h k =
      let l = no_struct (is_struct a.ctype) (typed_comma (rule.value_type a) own) d k in
      let m : IsValue (IsSequence z (e.more_exprs y ys)) d = sequence_is (rule.value_type a) y ys own d h.1 l.1 in
      ((of_is (λ a. is_struct a.ctype ≡ false) (operand z x) a h.0 l.0, m.0), m.1, m.2)

  -- a name
  pub variable_leads : (at token index : ℕ) (name : List ℕ) (o : Option TypeTree) (w : Walk) → token ≡ at → Ready at (at + 1) w
      → IsTop w.functions w.variables w.ends at name index w.names → Gives (of_variable token index o w) (Leads z true at (at + 1) w (Good (e.Name token name)))
  variable_leads at token index name None w p r h = record { by = tt }
  variable_leads at token index name (Some of) w p r h = record {
    by = record {
      part = wider at (at + 1) (mark (sound_later (omega (arith, p)) r.sound) (use_marks token index of w) (λ g. (
        subst (λ o. MatchOption o ⊥ (λ place. IsInnermost z token name place))
            (sym ((g.notes token (omega arith) (omega arith)).variables ∙ noted_same w.variables_at token index (omega (arith, p, r.variables_at))))
            (innermost z (sound_later (omega (arith, p)) r.sound) refl (le-max_right w.latest token) g.later name index
            (subst (λ n. IsTop w.functions w.variables w.ends n name index w.names) (sym p) h)),
        record {
          typed = (g.notes token (omega arith) (omega arith)).types ∙ noted_same w.types token of (omega (arith, p, r.types));
          place = refl;
          null = refl;
        },
      ))) (omega (arith, p)) (omega (arith, p));
      kept = refl;
    };
  }

  pub name_leads : (at token : ℕ) (name : List ℕ) (m : Option Meaning) (w : Walk) → token ≡ at → Ready at (at + 1) w
      → Means w.functions w.variables w.ends at name m w.names → Gives (named_operand token m w) (Leads z true at (at + 1) w (Good (e.Name token name)))
  name_leads at token name (Some (meaning.Variable index)) w p r h = variable_leads at token index name (slice_get w.declared_types index) w p r h
  name_leads at token name m w p r h = record { by = tt }

  pub none_named : (at hi token : ℕ) (name : List ℕ) (w v u : Walk) → token ≡ at → at < hi → Ready at hi w → scene v ≡ scene w → scene u ≡ scene v
      → token ≤ u.latest
      → Agrees z at hi u → NoneOn v.functions v.variables v.ends at name v.names → NamesNone z token name
  none_named at hi token name w v u p less r s q n g h =
      names_none z (sound_later (omega (arith, p)) r.sound) (q ∙ s) n (later_from g.later (omega (arith, p, less))) name
      (subst (λ (x : Scene). NoneOn x.functions x.variables x.ends token name x.names) s
      (subst (λ n. NoneOn v.functions v.variables v.ends n name v.names) (sym p) h))

  -- what is known of a call of the library, behind its arguments
  abbrev pub Looks : ℕ → List ℕ → OperandOrFault → (List Operand → Type 0) → List Operand → Operand → Type 0
  Looks token name l P xs d = P xs × NamesNone z token name × (note_at z.types token ≡ Some d.ctype) × Is l d

  pub library_leads : {P : List Operand → Type 0} {mid hi : ℕ} (at token : ℕ) (name : List ℕ) (w v : Walk) (xs : List Operand) (l : OperandOrFault) → token ≡ at
      → at < mid → mid ≤ hi
      → Ready at hi w → Leads z true mid hi w P xs v → NoneOn v.functions v.variables v.ends at name v.names
      → Gives (operand_noted token l v) (Leads z true at hi w (Looks token name l P xs))
  library_leads {hi = hi} at token name w v xs l p less high r g h = looks token l v (λ d i. record {
    part = so (marked {Q = NamesNone z token name × (note_at z.types token ≡ Some d.ctype)} at g.part (type_marks token d.ctype v) (omega (arith, p))
        (omega (arith, p, less)) high
        (λ c. (
          none_named at hi token name w v (with_type token d.ctype v) p (omega (arith, less, high)) r g.kept refl (le-max_right v.latest token) c h,
          (c.notes token (omega (arith, p)) (omega (arith, p, less, high))).types
              ∙ noted_same v.types token d.ctype (omega (arith, p, less, high, r.types, g.part.types)),
        ))) (λ c. (c.0, c.1.0, c.1.1, i));
    kept = g.kept;
  })

  -- what is known of a call of a function of the text
  abbrev pub LooksUp : ℕ → List ℕ → ℕ → FunctionEntry → (List Operand → Type 0) → List Operand → Operand → Type 0
  LooksUp token name index f P xs d = P xs × NamesNone z token name × (note_at z.types token ≡ Some d.ctype) × (note_at z.functions_at token ≡ Some index)
      × (slice_get z.functions index ≡ Some f) × Is (functions.typed_call f.ctype xs) d

  pub function_leads : {P : List Operand → Type 0} {mid : ℕ} (at token hi index : ℕ) (name : List ℕ) (w v : Walk) (xs : List Operand) (f : FunctionEntry)
      → token ≡ at
      → at < mid → mid ≤ hi → Ready at hi w → Leads z true mid hi w P xs v → NoneOn v.functions v.variables v.ends at name v.names
      → slice_get v.functions index ≡ Some f
      → Gives (of_function token index (Some f) xs v) (Leads z true at hi w (LooksUp token name index f P xs))
  function_leads at token hi index name w v xs f p less high r g h k = looks token (functions.typed_call f.ctype xs) (with_call token index v) (λ d i. record {
    part = so (marked {Q = NamesNone z token name × (note_at z.types token ≡ Some d.ctype) × (note_at z.functions_at token ≡ Some index)
        × (slice_get z.functions index ≡ Some f)}
        at g.part (call_marks token index d.ctype v) (omega (arith, p)) (omega (arith, p, less)) high
        (λ c. (
          none_named at hi token name w v (with_type token d.ctype (with_call token index v)) p (omega (arith, less, high)) r g.kept refl
              (le-max_right v.latest token) c h,
          (c.notes token (omega (arith, p)) (omega (arith, p, less, high))).types
              ∙ noted_same v.types token d.ctype (omega (arith, p, less, high, r.types, g.part.types)),
          (c.notes token (omega (arith, p)) (omega (arith, p, less, high))).functions
              ∙ noted_same v.functions_at token index (omega (arith, p, less, high, r.functions_at, g.part.functions_at)),
          c.later.functions index f k,
        ))) (λ c. (c.0, c.1.0, c.1.1, c.1.2, c.1.3, i));
    kept = g.kept;
  })

  pub fitting : (b : Bool) (t : TypeTree) (d : Operand) → Is (if b then Ok (value_of t) else Err fault.Arguments) d → (b ≡ true) × IsValue (λ u. u ≡ t) d
  fitting true t d h = (refl, value_is (λ u. u ≡ t) t d refl h)
  fitting false t d h = absurd (cc)

  -- each function of the library gives a value
  pub library_value : (f : Library) (xs : List Operand) (d : Operand) → Is (library_called f xs) d → IsValue (λ u. Unit {0}) d
  library_value library.Getchar xs d h = let k = (fitting (fits_parameters [] xs) t.Int d h).1 in (tt, k.1, k.2)
  library_value library.Putchar xs d h = let k = (fitting (fits_parameters (t.Int ∷ []) xs) t.Int d h).1 in (tt, k.1, k.2)
  library_value library.Puts xs d h = let k = (fitting (fits_parameters (t.Pointer t.Char ∷ []) xs) t.Int d h).1 in (tt, k.1, k.2)
  library_value library.Malloc xs d h = let k = (fitting (fits_parameters (t.Unsigned ∷ []) xs) (t.Pointer t.Void) d h).1 in (tt, k.1, k.2)
  library_value library.Free xs d h = let k = (fitting (fits_parameters (t.Pointer t.Void ∷ []) xs) t.Void d h).1 in (tt, k.1, k.2)
  library_value library.Exit xs d h = let k = (fitting (fits_parameters (t.Int ∷ []) xs) t.Void d h).1 in (tt, k.1, k.2)
  library_value library.Abort xs d h = let k = (fitting (fits_parameters [] xs) t.Void d h).1 in (tt, k.1, k.2)
  library_value library.Assert xs d h = let k = (fitting (one_scalar xs) t.Void d h).1 in (tt, k.1, k.2)
  library_value library.Printf xs d h = absurd (cc)

  pub of_library : (token : ℕ) (name : List ℕ) (arguments : ExprList) (f : Library) (xs : List Operand) (d : Operand) → library_named name ≡ Some f
      → Looks token name (library_called f xs) (GoodList arguments []) xs d → Good (e.Call token name arguments) d
  of_library token name arguments f xs d e h =
      let k : IsValue (λ u. Unit {0}) d = library_value f xs d h.3 in
      let called : library_called f xs ≡ Ok (value_of d.ctype) = h.3 ∙ ap Ok (is_value d k.1 k.2) in (
        (
          h.1,
          h.0.1.1.0,
          gives_type (CallFits z token name arguments) token d.ctype h.2
              (inl (f, (e, (xs, (subst (Operands z arguments) (sym h.0.1.0) h.0.1.1.1, called))))),
        ),
        record { typed = h.2; place = sym k.1; null = sym k.2 },
      )

  pub of_text : (token : ℕ) (name : List ℕ) (arguments : ExprList) (index : ℕ) (f : FunctionEntry) (xs : List Operand) (d : Operand) → f.name ≡ name
      → LooksUp token name index f (GoodList arguments []) xs d → Good (e.Call token name arguments) d
  of_text token name arguments index f xs d e h =
      let k = fitting (fits_parameters f.ctype.params xs) f.ctype.gives d h.5 in (
        (
          h.1,
          h.0.1.1.0,
          gives_type (CallFits z token name arguments) token d.ctype h.2 (inr (
            index,
            (
              h.3,
              subst (λ o. CalleeFits o name (λ g. ArgumentsFit z g.params arguments × (d.ctype ≡ g.gives))) (sym h.4)
                  (e, (passes f.ctype.params arguments xs (subst (Operands z arguments) (sym h.0.1.0) h.0.1.1.1) k.0, k.1.0)),
            ),
          )),
        ),
        record { typed = h.2; place = sym k.1.1; null = sym k.1.2 },
      )

  pub named_call : (at token hi index : ℕ) (name : List ℕ) (arguments : ExprList) (w v : Walk) (xs : List Operand) (o : Option FunctionEntry) {mid : ℕ}
      → token ≡ at
      → at < mid → mid ≤ hi → Ready at hi w → Leads z true mid hi w (GoodList arguments []) xs v → FunctionNamed name o
      → NoneOn v.functions v.variables v.ends at name v.names → slice_get v.functions index ≡ o
      → Gives (of_function token index o xs v) (Leads z true at hi w (Good (e.Call token name arguments)))
  named_call at token hi index name arguments w v xs None p less high r g n h k = record { by = tt }
  named_call at token hi index name arguments w v xs (Some f) p less high r g n h k =
      leads_so (function_leads at token hi index name w v xs f p less high r g h k) (λ d. of_text token name arguments index f xs d n)

  -- a call of what is declared as no variable
  pub called_leads : {mid hi : ℕ} (at token : ℕ) (name : List ℕ) (arguments : ExprList) (w v : Walk) (xs : List Operand) (m : Option Meaning) → token ≡ at
      → at < mid → mid ≤ hi
      → Ready at hi w → Leads z true mid hi w (GoodList arguments []) xs v → Means v.functions v.variables v.ends at name m v.names
      → Gives (called_name token m xs v) (Leads z true at hi w (Good (e.Call token name arguments)))
  called_leads at token name arguments w v xs None p less high r g h = record { by = tt }
  called_leads at token name arguments w v xs (Some (meaning.Variable index)) p less high r g h = record { by = tt }
  called_leads at token name arguments w v xs (Some (meaning.Struct index)) p less high r g h = record { by = tt }
  called_leads at token name arguments w v xs (Some (meaning.Library f)) p less high r g h =
      leads_so (library_leads at token name w v xs (library_called f xs) p less high r g h.1) (λ d. of_library token name arguments f xs d h.0)
  called_leads {hi = hi} at token name arguments w v xs (Some (meaning.Function index)) p less high r g h =
      named_call at token hi index name arguments w v xs (slice_get v.functions index) p less high r g h.0 h.1 refl

  pub means_after : (at hi : ℕ) (name : List ℕ) (w v : Walk) → Ready at hi w → scene v ≡ scene w
      → Means v.functions v.variables v.ends at name (meaning_of name v.names) v.names
  means_after at hi name w v r s =
      subst (λ (x : Scene). Means x.functions x.variables x.ends at name (meaning_of name x.names) x.names) (sym s)
      (means w.functions w.variables w.ends at name (length w.variables) w.names r.sound.stack)

  pub call_long : (token : ℕ) (name : List ℕ) (arguments : ExprList) → length (expr_kinds (e.Call token name arguments)) ≡ 3 + length (exprs_kinds arguments)
  call_long token name arguments = omega (arith, around (exprs_kinds arguments))

  -- a member that `.` or `->` at the token names
  abbrev pub Selected : ℕ → Bool → Result Member FaultKind → Walk → Operand → Type 0
  Selected token place r w d = (m : Member) × ((r ≡ Ok m) × ((d.ctype ≡ m.ctype) × ((d.place ≡ place) × ((d.null ≡ false)
      × ((note_at z.types token ≡ Some d.ctype) × Stays w.structs z.structs)))))

  pub selected_leads : (at token hi : ℕ) (place : Bool) (m : Result Member FaultKind) (w : Walk) → token ≡ at → at < hi → Ready at hi w
      → Gives (selected_member token place m w) (Leads z true at hi w (Selected token place m w))
  selected_leads at token hi place (Err kind) w p less r = record { by = tt }
  selected_leads at token hi place (Ok m) w p less r = record {
    by = record {
      part = wider at hi (mark (sound_later (omega (arith, p)) r.sound) (offset_marks token m.offset m.ctype w) (λ g. (
        m,
        (
          refl,
          (
            refl,
            (
              refl,
              (
                refl,
                (
                  (g.notes token (omega arith) (omega arith)).types ∙ noted_same w.types token m.ctype (omega (arith, p, less, r.types)),
                  g.later.structs,
                ),
              ),
            ),
          ),
        ),
      ))) (omega (arith, p)) (omega (arith, p, less));
      kept = refl;
    };
  }

  -- what holds behind the operators of a chain, whose left operand has its type at the first token
  abbrev pub EndsLinks : LinkList → Operand → Type 0
  EndsLinks e.no_links b = Unit {0}
  EndsLinks (e.more_links token s x rest) b = (b.place ≡ false) × (b.null ≡ false)

  abbrev pub GoodLinks : ℕ → LinkList → Operand → Operand → Type 0
  GoodLinks first links a b = LinksFit z (Some a) links × (note_at z.types first ≡ Some a.ctype → note_at z.types (link_token first links) ≡ Some b.ctype)
      × ((a.place ≡ false) × (a.null ≡ false) → (b.place ≡ false) × (b.null ≡ false)) × EndsLinks links b

  pub chain_ends : (links : LinkList) (b : Operand) → HasLink links → EndsLinks links b → (b.place ≡ false) × (b.null ≡ false)
  chain_ends e.no_links b h k = absurd h
  chain_ends (e.more_links token s x rest) b h k = k

  abbrev pub GoodPostfix : ℕ → PostfixList → Operand → Operand → Type 0
  GoodPostfix first rest a b = PostfixFits z (Some a) rest × (note_at z.types first ≡ Some a.ctype → note_at z.types (postfix_token first rest) ≡ Some b.ctype)
      × (ends_as_lvalue a.place rest ≡ b.place) × (a.null ≡ false → b.null ≡ false) × (HasPostfix rest → b.null ≡ false)

  pub prefix_lvalue : (token : ℕ) (o : PrefixOperator) (x : ExprTree) → is_lvalue (e.Prefix token o x) ≡ leads_to_place o
  prefix_lvalue token prefix.Increment x = refl
  prefix_lvalue token prefix.Decrement x = refl
  prefix_lvalue token prefix.SizeOf x = refl
  prefix_lvalue token prefix.Address x = refl
  prefix_lvalue token prefix.Indirection x = refl
  prefix_lvalue token prefix.Plus x = refl
  prefix_lvalue token prefix.Minus x = refl
  prefix_lvalue token prefix.Complement x = refl
  prefix_lvalue token prefix.Not x = refl

  -- what the last look at a construct shows

  pub ok_operand : (x y : Operand) → Is (Ok x) y → x ≡ y
  ok_operand x y h = cc

  pub assign_good : (token : ℕ) (s : Sign) (x y : ExprTree) (a b d : Operand) (w : Walk) → Stays w.structs z.structs
      → Is (typed_assignment w.structs (compound_of s) a b) d
      → Good x a → Good y b → note_at z.types token ≡ Some d.ctype → Good (e.Assign token s x y) d
  assign_good token s x y a b d w f h j k q =
      let i : IsValue (Assigns z.structs (compound_of s) a b) d = assigning_is w.structs z.structs f (compound_of s) a b d h in (
        (
          j.0,
          k.0,
          of_is (λ u. Of (operand z y) (λ v. GivesType (type_at z token) (Assigns z.structs (compound_of s) u v))) (operand z x) a (operand_is x a j.1)
              (of_is (λ v. GivesType (type_at z token) (Assigns z.structs (compound_of s) a v)) (operand z y) b (operand_is y b k.1)
              (gives_type (Assigns z.structs (compound_of s) a b) token d.ctype q i.0)),
        ),
        record { typed = q; place = sym i.1; null = sym i.2 },
      )

  pub choose_good : (token : ℕ) (o x y : ExprTree) (c a b d : Operand) → Is (typed_conditional c a b) d → Good o c → Good x a → Good y b
      → note_at z.types token ≡ Some d.ctype
      → Good (e.Conditional token o x y) d
  choose_good token o x y c a b d h l j k q =
      let i : IsValue (Chooses c a b) d = chosen_is [] [] (λ i x h. h) c a b d h in (
        (
          l.0,
          j.0,
          k.0,
          of_is (λ r. Of (operand z x) (λ u. Of (operand z y) (λ v. GivesType (type_at z token) (Chooses r u v)))) (operand z o) c (operand_is o c l.1)
              (of_is (λ u. Of (operand z y) (λ v. GivesType (type_at z token) (Chooses c u v))) (operand z x) a (operand_is x a j.1)
              (of_is (λ v. GivesType (type_at z token) (Chooses c a v)) (operand z y) b (operand_is y b k.1) (gives_type (Chooses c a b) token d.ctype q i.0))),
        ),
        record { typed = q; place = sym i.1; null = sym i.2 },
      )

  pub cast_good : (token : ℕ) (b : Base) (stars : ℕ) (x : ExprTree) (of : TypeTree) (a d : Operand) → Is (cast_to of a) d → Good x a
      → note_at z.types token ≡ Some d.ctype
      → Good (e.Cast token b stars x) d
  cast_good token b stars x of a d h j q =
      let i : IsValue (Casts of a) d = cast_is [] [] (λ i x h. h) of a d h in (
        (
          j.0,
          of_is (λ u. GivesType (type_at z token) (λ t. Casts t u t)) (operand z x) a (operand_is x a j.1)
              (gives_type (λ t. Casts t a t) token d.ctype q (subst (λ t. Casts t a t) (sym i.0.1) (subst (λ t. Casts of a t) i.0.1 i.0))),
        ),
        record { typed = q; place = sym i.1; null = sym i.2 },
      )

  pub prefix_good : (token : ℕ) (o : PrefixOperator) (x : ExprTree) (a d : Operand) (w : Walk) → Stays w.structs z.structs → Is (typed_prefix_operation w.structs o a) d
      → Good x a
      → note_at z.types token ≡ Some d.ctype → Good (e.Prefix token o x) d
  prefix_good token o x a d w f h j q =
      let i = prefixed_is w.structs z.structs f o a d h in (
        (
          j.0,
          of_is (λ u. GivesType (type_at z token) (Prefixes z.structs o u)) (operand z x) a (operand_is x a j.1)
              (gives_type (Prefixes z.structs o a) token d.ctype q i.0),
        ),
        record { typed = q; place = prefix_lvalue token o x ∙ sym i.1; null = sym i.2 },
      )

  pub size_good : (token : ℕ) (b : Base) (stars : ℕ) (of : TypeTree) (d : Operand) (w : Walk) → Stays w.structs z.structs → Is (typed_sizeof w.structs of) d
      → note_at z.types token ≡ Some d.ctype → Good (e.SizeOfType token b stars) d
  size_good token b stars of d w f h q =
      let i = measured_is w.structs z.structs f of d h in (q ∙ ap Some i.0.1, record { typed = q; place = sym i.1; null = sym i.2 })

  pub paren_good : (token : ℕ) (x : ExprTree) (a d : Operand) → Is (Ok (parenthesized_operand a)) d → Good x a → note_at z.types token ≡ Some d.ctype
      → Good (e.Paren token x) d
  paren_good token x a d h j q =
      let i : parenthesized_operand a ≡ d = ok_operand (parenthesized_operand a) d h in (
        (j.0, q ∙ ap (λ (o : Operand). Some o.ctype) (sym i) ∙ sym j.1.typed),
        record { typed = q; place = j.1.place ∙ ap (λ (o : Operand). o.place) i; null = ap (λ (o : Operand). o.null) i },
      )

  pub leaf_good : (x : ExprTree) (a d : Operand) → is_lvalue x ≡ a.place → is_null_constant x ≡ a.null
      → (note_at z.types (token_of x) ≡ Some a.ctype → ExprFits z x)
      → Is (Ok a) d → note_at z.types (token_of x) ≡ Some d.ctype → Good x d
  leaf_good x a d p n f h q =
      let i : a ≡ d = ok_operand a d h in
      subst (Good x) i (let k : note_at z.types (token_of x) ≡ Some a.ctype = q ∙ ap (λ (o : Operand). Some o.ctype) (sym i) in
      (f k, record { typed = k; place = p; null = n }))

  pub comma_good : (token : ℕ) (x y : ExprTree) (ys : ExprList) (a : Operand) (xs : List Operand) (d : Operand) → Is (typed_comma t.Void xs) d → Good x a
      → GoodList (e.more_exprs y ys) (a ∷ []) xs → note_at z.types token ≡ Some d.ctype → Good (e.Comma token (e.more_exprs x (e.more_exprs y ys))) d
  comma_good token x y ys a xs d h j k q =
      let i : IsValue (IsSequence z (e.more_exprs x (e.more_exprs y ys))) d =
      sequence_is t.Void x (e.more_exprs y ys) (a ∷ k.0) d (operand_is x a j.1, k.1.1.1) (subst (λ all. Is (typed_comma t.Void all) d) k.1.0 h) in (
        ((j.0, k.1.1.0), gives_type (IsSequence z (e.more_exprs x (e.more_exprs y ys))) token d.ctype q i.0),
        record { typed = q; place = sym i.1; null = sym i.2 },
      )

  pub chain_good : (level : ℕ) (first : ExprTree) (links : LinkList) (a b : Operand) → HasLink links → Good first a → GoodLinks (token_of first) links a b
      → Good (e.Chain level first links) b
  chain_good level first links a b h f g =
      let n : (b.place ≡ false) × (b.null ≡ false) = chain_ends links b h g.3 in (
        (f.0, subst (λ o. LinksFit z o links) (sym (operand_is first a f.1)) g.0),
        record { typed = g.1 f.1.typed; place = sym n.0; null = sym n.1 },
      )

  pub postfix_good : (primary : ExprTree) (rest : PostfixList) (a b : Operand) → HasPostfix rest → Good primary a → GoodPostfix (token_of primary) rest a b
      → Good (e.Postfix primary rest) b
  postfix_good primary rest a b h f g = (
    (f.0, subst (λ o. PostfixFits z o rest) (sym (operand_is primary a f.1)) g.0),
    record { typed = g.1 f.1.typed; place = ap (λ p. ends_as_lvalue p rest) f.1.place ∙ g.2; null = sym (g.4 h) },
  )

  pub link_good : (token : ℕ) (s : Sign) (first : ℕ) (x : ExprTree) (rest : LinkList) (a c d b : Operand) (v : Walk) → Stays v.structs z.structs
      → Is (typed_chain_operation v.structs (binary_of s) a c) d → Good x c → note_at z.types token ≡ Some d.ctype → GoodLinks token rest d b
      → GoodLinks first (e.more_links token s x rest) a b
  link_good token s first x rest a c d b v f h k q g =
      let i : IsValue (Joins z.structs (binary_of s) a c) d = chained_is v.structs z.structs f (binary_of s) a c d h in
      let n : (b.place ≡ false) × (b.null ≡ false) = g.2 (i.1, i.2) in (
        (
          k.0,
          of_is (λ u. GivesType (type_at z token) (Joins z.structs (binary_of s) a u)) (operand z x) c (operand_is x c k.1)
              (gives_type (Joins z.structs (binary_of s) a c) token d.ctype q i.0),
          subst (λ o. LinksFit z o rest) (sym (value_known token d q i.1 i.2)) g.0,
        ),
        (λ e. g.1 q),
        (λ e. n),
        n,
      )

  pub index_good : (token first : ℕ) (x : ExprTree) (rest : PostfixList) (a c d b : Operand) (v : Walk) → Stays v.structs z.structs
      → Is (typed_subscript v.structs a c) d → Good x c → note_at z.types token ≡ Some d.ctype → GoodPostfix token rest d b → GoodPostfix first (e.index token x rest) a b
  index_good token first x rest a c d b v f h k q g =
      let i : IsPlace (Indexes z.structs a c) d = indexed_is v.structs z.structs f a c d h in (
        (
          k.0,
          of_is (λ u. GivesType (type_at z token) (Indexes z.structs a u)) (operand z x) c (operand_is x c k.1)
              (gives_type (Indexes z.structs a c) token d.ctype q i.0),
          subst (λ o. PostfixFits z o rest) (sym (lvalue_known token d q i.1 i.2)) g.0,
        ),
        (λ e. g.1 q),
        ap (λ p. ends_as_lvalue p rest) (sym i.1) ∙ g.2,
        (λ e. g.3 i.2),
        (λ e. g.3 i.2),
      )

  pub step_good : (token first : ℕ) (rest : PostfixList) (a d b : Operand) → Steps z.structs a d.ctype × (d.place ≡ false) × (d.null ≡ false)
      × (note_at z.types token ≡ Some d.ctype)
      → GoodPostfix token rest d b
      → (GivesType (type_at z token) (Steps z.structs a) × PostfixFits z (value_at z token) rest)
      × (note_at z.types first ≡ Some a.ctype → note_at z.types (postfix_token token rest) ≡ Some b.ctype)
      × (ends_as_lvalue false rest ≡ b.place) × (a.null ≡ false → b.null ≡ false) × (Unit {0} → b.null ≡ false)
  step_good token first rest a d b i g = (
    (gives_type (Steps z.structs a) token d.ctype i.3 i.0, subst (λ o. PostfixFits z o rest) (sym (value_known token d i.3 i.1 i.2)) g.0),
    (λ e. g.1 i.3),
    ap (λ p. ends_as_lvalue p rest) (sym i.1) ∙ g.2,
    (λ e. g.3 i.2),
    (λ e. g.3 i.2),
  )

  pub member_good : (token first : ℕ) (name : List ℕ) (rest : PostfixList) (a d b : Operand) (w : Walk)
      → Selected token a.place (member_of w.structs name a.ctype) w d
      → GoodPostfix token rest d b → GoodPostfix first (e.member token name rest) a b
  member_good token first name rest a d b w i g =
      let k = i.1.1.1.1 in (
        (
          gives_type (Selects z.structs name a.ctype) token d.ctype k.1.0
              (subst (Selects z.structs name a.ctype) (sym i.1.1.0) (member_stays w.structs z.structs k.1.1 name a.ctype i.0 i.1.0)),
          subst (λ o. PostfixFits z o rest) (sym (selected_known token a d k.1.0 i.1.1.1.0 k.0)) g.0,
        ),
        (λ e. g.1 k.1.0),
        ap (λ p. ends_as_lvalue p rest) (sym i.1.1.1.0) ∙ g.2,
        (λ e. g.3 k.0),
        (λ e. g.3 k.0),
      )

  pub arrow_good : (token first : ℕ) (name : List ℕ) (rest : PostfixList) (a d b : Operand) (w : Walk)
      → Selected token true (member_behind w.structs name (rule.value_type a)) w d
      → GoodPostfix token rest d b → GoodPostfix first (e.arrow token name rest) a b
  arrow_good token first name rest a d b w i g =
      let k = i.1.1.1.1 in (
        (
          gives_type (SelectsBehind z.structs name (rule.value_type a)) token d.ctype k.1.0
              (subst (SelectsBehind z.structs name (rule.value_type a)) (sym i.1.1.0)
              (behind_stays w.structs z.structs k.1.1 name (rule.value_type a) i.0 i.1.0)),
          subst (λ o. PostfixFits z o rest) (sym (lvalue_known token d k.1.0 i.1.1.1.0 k.0)) g.0,
        ),
        (λ e. g.1 k.1.0),
        ap (λ p. ends_as_lvalue p rest) (sym i.1.1.1.0) ∙ g.2,
        (λ e. g.3 k.0),
        (λ e. g.3 k.0),
      )
