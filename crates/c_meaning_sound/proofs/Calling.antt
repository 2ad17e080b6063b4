-- Names, calls and commas: what the walk accepts of them fits.
use Rattle.std.proofs.Common.{◌≡◌, ℕ, ◌<◌, refl, ap, subst, sym, ◌∙◌, arith, List, [], ◌∷◌, Some, None, ◌+◌, Err, Bool, true, false, length}
use Rattle.std.specs.Prelude.{Option, map, suc, zero, slice_get, if◌then◌else◌}
use Rattle.std.specs.List.{AllByRecursion}
use Rattle.std.specs.Option.{option_and_then}
use Rattle.c_types_expressions.proofs.Giving.{Gives}
use Rattle.c_types_expressions.proofs.Given.{looks}
use Rattle.c_types.proofs.Replaced.{noted_same}
use Rattle.base_lists.proofs.Lists.{Stays}
use Rattle.c_syntax.specs.Words.{SourceTree, ExprTree, ExprList, expr_kinds, exprs_kinds}
use Rattle.c_syntax.specs.ExprTree as e
use Rattle.c_syntax.specs.declared.token.Sign.TheVariants as sign
use Rattle.c_types_rules.specs.declared.fault.FaultKind.TheVariants as fault
use Rattle.c_types_rules.specs.declared.library.Library.{Library}
use Rattle.c_types_rules.specs.declared.operand.Operand.{Operand}
use Rattle.c_types_rules.specs.TypeTree as t
use Rattle.c_types_rules.specs.Words.{TypeTree, is_struct, value_of, library_called, library_named, typed_comma, OperandOrFault}
use Rattle.c_types_rules.specs.Conversions as rule
use Rattle.c_types_rules.specs.Functions as functions
use Rattle.c_types_rules.specs.declared.layout.StructType.{StructType}
use Rattle.c_types_expressions.specs.declared.names.Meaning.{Meaning}
use Rattle.c_types_expressions.specs.declared.names.Meaning.TheVariants as meaning
use Rattle.c_types_expressions.specs.declared.walk.FunctionEntry.{FunctionEntry}
use Rattle.c_types_expressions.specs.declared.walk.Walk.{Walk}
use Rattle.c_types.specs.Answers.{function_at, note_at}
use Rattle.c_types_expressions.specs.Words.{called_name, named_operand, of_function, of_variable, with_call, with_type}
use Rattle.c_meaning.specs.declared.value_type.ValueType.{ValueType}
use Rattle.c_meaning.specs.declared.value_type.Called.TheVariants as callee
use Rattle.c_meaning.specs.Conversions as mean
use Rattle.c_meaning.specs.Words.{computed_type, called_as, library_call, token_of}
use Rattle.c_meaning_laws.specs.Rules.{IsObject}
use Rattle.c_meaning_laws.specs.Typed.{TypedArguments, TypedCall, TypedLast, TypedLone}
use Rattle.c_meaning_laws.proofs.Ruled.{Is, given, known}
use Rattle.c_meaning_laws.proofs.RuledCalls.{AllTaken, called_fits}
use Rattle.c_meaning_sound.proofs.Forming.{Ended, Formed, Numbered, Plain, last_formed, place_formed}
use Rattle.c_meaning_sound.proofs.Naming.{Means, call_noted, name_noted, signed}
use Rattle.c_meaning_sound.proofs.Marking.{marks_typed}
use Rattle.c_meaning_sound.proofs.Noting.{AllWhole, IsSlot, Part, Ready, Same, Whole, facts, leftwards, none, so, typed_keeps}
use Rattle.c_meaning_sound.proofs.Noting.{typed_same, wider}
use Rattle.c_meaning_sound.proofs.Operands.{Fits, Good, GoodList, Matched, called_formed, function_calls, library_fits, matched_arguments, typed_as}

decayed_known : (structs : List StructType) (of : TypeTree) → known structs (rule.decayed_type of) ≡ mean.as_used (known structs of)
decayed_known structs (t.Array element size) = refl
decayed_known structs (t.Pointer to) = refl
decayed_known structs t.Void = refl
decayed_known structs t.Char = refl
decayed_known structs t.Int = refl
decayed_known structs t.Unsigned = refl
decayed_known structs (t.Struct tag) = refl

type_or : Option TypeTree → TypeTree
type_or None = t.Void
type_or (Some of) = of

some_is : (u of : TypeTree) → Some u ≡ Some of → u ≡ of
unfolding type_or
some_is u of e = ap type_or e

module _ (tree : SourceTree) (z : Walk) (ends : Ended tree z) where
  whole_of : (types : List TypeTree) (index : ℕ) (of : TypeTree) → AllWhole tree z types → slice_get types index ≡ Some of → Whole tree z of
  whole_of [] index of h e = cc
  whole_of (u ∷ types) zero of h e = subst (Whole tree z) (some_is u of e) h.0
  whole_of (u ∷ types) (suc index) of h e = whole_of types index of h.1 e

  variable_good : (at token index : ℕ) (name : List ℕ) (w : Walk) (o : Option TypeTree) → slice_get w.declared_types index ≡ o → token ≡ at
      → Ready tree z at (at + 1) w → IsSlot w.locals (slice_get w.variables index) → Gives (Good tree z at (e.Name token name) w)
      (of_variable token index o w)
  variable_good at token index name w None h p r s = tt
  variable_good at token index name w (Some of) h p r s =
      let whole : Whole tree z of = whole_of w.declared_types index of r.wholes h in
      record {
        part = so (wider {lo = token} {hi = token + 1} (name_noted token index of w (omega (arith, p, r.types)) (omega (arith, p, r.variables_at)) s h)
            (omega (arith, p)) (omega (arith, p)))
            (λ c q. ((subst IsObject (sym (typed_as tree z token of q.0)) whole.1, q.1), q.0));
        place = refl;
        null = refl;
        formed = place_formed tree z of whole;
      }

  pub name_good : (at token : ℕ) (name : List ℕ) (w : Walk) (m : Option Meaning) → token ≡ at → Ready tree z at (at + 1) w
      → Means w.locals w.variables name m → Gives (Good tree z at (e.Name token name) w) (named_operand token m w)
  name_good at token name w (Some (meaning.Variable index)) p r h = variable_good at token index name w (slice_get w.declared_types index) refl p r h
  name_good at token name w m p r h = tt

  -- calls
  called_at : (token index : ℕ) (n : Numbered tree z index) → note_at z.functions_at token ≡ Some index → function_at z token ≡ Some n.number
  called_at token index n h = ap (λ o. option_and_then (λ place. note_at z.defined_as place) o) h ∙ n.defined

  function_typed : (c token index : ℕ) (name : List ℕ) (arguments : ExprList) (own : List Operand) (g : FunctionEntry) (b : Operand)
      → slice_get z.functions index ≡ Some g → Matched tree z c arguments own → AllTaken z.structs (map (computed_type z.structs) g.ctype.params) own
      → b.ctype ≡ g.ctype.gives → note_at z.types token ≡ Some b.ctype → note_at z.functions_at token ≡ Some index → Fits tree z c (e.Call token name arguments)
  function_typed c token index name arguments own g b is m k l q h =
      let n : Numbered tree z index = ends.calls token index h in
      subst (λ o. TypedCall (facts tree z) none c (called_as o name) (λ types. TypedArguments (facts tree z) none c types arguments)
      (TypedLone (facts tree z) none c arguments) ((facts tree z).type_at token)) (sym (called_at token index n h))
      (function_calls tree z g ((facts tree z).signature n.number) (λ types. TypedArguments (facts tree z) none c types arguments)
      ((facts tree z).type_at token)
      (signed g index n is) (matched_arguments tree z c (map (computed_type z.structs) g.ctype.params) arguments own m k)
      (typed_as tree z token b.ctype q ∙ ap (known z.structs) l))

  function_good : (at token index : ℕ) (name : List ℕ) (arguments : ExprList) (w v : Walk) (xs : List Operand) (o : Option FunctionEntry)
      → slice_get v.functions index ≡ o → token ≡ at
      → length (expr_kinds (e.Call token name arguments)) ≡ 3 + length (exprs_kinds arguments) → token < length v.types → token < length v.functions_at
      → Stays v.functions z.functions → GoodList tree z (at + 2) arguments [] w xs v
      → Gives (Good tree z at (e.Call token name arguments) w) (of_function token index o xs v)
  function_good at token index name arguments w v xs None is p long h k f g = tt
  function_good at token index name arguments w v xs (Some y) is p long h k f g =
      (looks token (functions.typed_call y.ctype xs) (with_call token index v) (λ b i.
      let j : Is (functions.typed_call y.ctype g.own) b = subst (λ ys. Is (functions.typed_call y.ctype ys) b) g.is i in
      let final : slice_get z.functions index ≡ Some y = f index y is in
      let fits : AllTaken z.structs (map (computed_type z.structs) y.ctype.params) g.own × (b.ctype ≡ y.ctype.gives) = called_fits z.structs y.ctype g.own b j in
      let made : Formed tree z b × Plain b = called_formed tree z y.ctype g.own b (ends.gives index y final).0 (ends.gives index y final).1 j in
      record {
        part = so (wider {lo = at} {hi = at + 2 + length (exprs_kinds arguments)} (leftwards {lo = at} {mid = at + 2} g.part
            (wider {lo = token} {hi = token + 1} (call_noted token index b.ctype v h k) (omega (arith, p)) (omega (arith, p))) (omega arith) (omega arith))
            (omega arith) (omega (arith, long)))
            (λ c q. (function_typed c token index name arguments g.own y b final q.0 fits.0 fits.1 q.1.0 q.1.1, q.1.0));
        place = sym made.1.0;
        null = sym made.1.1;
        formed = made.0;
      })).by

  -- a function of the library, whose call has no number at its token
  pub library_noted : (token : ℕ) (of : TypeTree) (w : Walk) → token < length w.types → note_at w.functions_at token ≡ None
      → Part tree z token (token + 1) w (with_type token of w) (λ c. (note_at z.types token ≡ Some of) × (note_at z.functions_at token ≡ None))
  library_noted token of w h n = record {
    keeps = typed_keeps token of w;
    below = λ q l. typed_same token q of w (λ x. omega (arith, x, l));
    above = λ q l. typed_same token q of w (λ x. omega (arith, x, l));
    holds = λ c g. let here : Same (with_type token of w) z token = g.notes token (omega arith) (omega arith) in
        (here.types ∙ noted_same w.types token of h, here.functions ∙ n);
    marks = marks_typed token of w;
  }

  library_typed : (c token : ℕ) (name : List ℕ) (arguments : ExprList) (f : Library) → library_named name ≡ Some f → note_at z.functions_at token ≡ None
      → TypedCall (facts tree z) none c (callee.Library f) (λ types. TypedArguments (facts tree z) none c types arguments)
      (TypedLone (facts tree z) none c arguments) ((facts tree z).type_at token) → Fits tree z c (e.Call token name arguments)
  library_typed c token name arguments f l n k =
      subst (λ o. TypedCall (facts tree z) none c (called_as o name) (λ types. TypedArguments (facts tree z) none c types arguments)
      (TypedLone (facts tree z) none c arguments) ((facts tree z).type_at token)) (sym (ap (λ o. option_and_then (λ place. note_at z.defined_as place) o) n))
      (subst (λ o. TypedCall (facts tree z) none c (library_call o) (λ types. TypedArguments (facts tree z) none c types arguments)
      (TypedLone (facts tree z) none c arguments) ((facts tree z).type_at token)) (sym l) k)

  pub call_good : (at token : ℕ) (name : List ℕ) (arguments : ExprList) (w v : Walk) (xs : List Operand) (m : Option Meaning) → token ≡ at
      → length (expr_kinds (e.Call token name arguments)) ≡ 3 + length (exprs_kinds arguments) → token < length v.types → token < length v.functions_at
      → note_at v.functions_at token ≡ None → Stays v.functions z.functions → Means v.locals v.variables name m → GoodList tree z (at + 2) arguments [] w xs v
      → Gives (Good tree z at (e.Call token name arguments) w) (called_name token m xs v)
  call_good at token name arguments w v xs (Some (meaning.Function index)) p long h k n f l g =
      function_good at token index name arguments w v xs (slice_get v.functions index) refl p long h k f g
  call_good at token name arguments w v xs (Some (meaning.Library function)) p long h k n f l g =
      (looks token (library_called function xs) v (λ b i.
      let made = library_fits tree z function arguments g.own b (subst (λ ys. Is (library_called function ys) b) g.is i) in
      record {
        part = so (wider {lo = at} {hi = at + 2 + length (exprs_kinds arguments)} (leftwards {lo = at} {mid = at + 2} g.part
            (wider {lo = token} {hi = token + 1} (library_noted token b.ctype v h n) (omega (arith, p)) (omega (arith, p))) (omega arith) (omega arith))
            (omega arith) (omega (arith, long)))
            (λ c q. (
              library_typed c token name arguments function l q.1.1
                  (made.2 c ((facts tree z).type_at token) q.0 (typed_as tree z token b.ctype q.1.0)),
              q.1.0,
            ));
        place = sym made.1.0;
        null = sym made.1.1;
        formed = made.0;
      })).by
  call_good at token name arguments w v xs m p long h k n f l g = tt

  -- a comma has the value of its last operand
  abbrev pub Sequence : ExprList → List Operand → Operand → Type 0
  Sequence xs own b = Formed tree z b × Plain b
      × ((c : ℕ) (u : Option ValueType) → Matched tree z c xs own → u ≡ known z.structs b.ctype → TypedLast (facts tree z) none c u xs)

  no_struct : (p : Bool) (x : Operand) (r : OperandOrFault) (b : Operand) → is_struct x.ctype ≡ p → Is (if p then Err fault.Operands else r) b
      → (is_struct x.ctype ≡ false) × Is r b
  no_struct true x r b e h = cc
  no_struct false x r b e h = (e, h)

  pub sequence_good : (of : TypeTree) (x : ExprTree) (xs : ExprList) (a : Operand) (own : List Operand) (b : Operand) → AllByRecursion (Formed tree z) (a ∷ own)
      → Is (typed_comma of (a ∷ own)) b → Sequence (e.more_exprs x xs) (a ∷ own) b
  sequence_good of x e.no_exprs a [] b f h =
      let k : (is_struct a.ctype ≡ false) × Is (typed_comma (rule.value_type a) []) b = no_struct (is_struct a.ctype) a
      (typed_comma (rule.value_type a) []) b refl h in
      given (Sequence (e.more_exprs x e.no_exprs) (a ∷ [])) (value_of (rule.value_type a)) b (
        last_formed tree z a k.0 f.0,
        (refl, refl),
        λ c u m i. (
          m.0,
          i ∙ decayed_known z.structs a.ctype
              ∙ ap mean.as_used (sym (typed_as tree z (token_of x) a.ctype m.1)),
        ),
      ) k.1
  sequence_good of x (e.more_exprs y ys) a (d ∷ own) b f h =
      let k : (is_struct a.ctype ≡ false) × Is (typed_comma (rule.value_type a) (d ∷ own)) b =
      no_struct (is_struct a.ctype) a (typed_comma (rule.value_type a) (d ∷ own)) b refl h in
      let rest : Sequence (e.more_exprs y ys) (d ∷ own) b = sequence_good (rule.value_type a) y ys d own b f.1 k.1 in
      (rest.0, rest.1, λ c u m i. (m.0, rest.2 c u m.3 i))
  sequence_good of x e.no_exprs a (d ∷ own) b f h =
      let k : (is_struct a.ctype ≡ false) × Is (typed_comma (rule.value_type a) (d ∷ own)) b =
      no_struct (is_struct a.ctype) a (typed_comma (rule.value_type a) (d ∷ own)) b refl h in
      let rest : Sequence (e.more_exprs x e.no_exprs) (d ∷ own) b = sequence_good (rule.value_type a) x e.no_exprs d own b f.1 k.1 in
      (rest.0, rest.1, λ c u m i. absurd m.3)
  sequence_good of x (e.more_exprs y ys) a [] b f h =
      let k : (is_struct a.ctype ≡ false) × Is (typed_comma (rule.value_type a) []) b = no_struct (is_struct a.ctype) a
      (typed_comma (rule.value_type a) []) b refl h in
      given (Sequence (e.more_exprs x (e.more_exprs y ys)) (a ∷ [])) (value_of (rule.value_type a)) b
      (last_formed tree z a k.0 f.0, (refl, refl), λ c u m i. absurd m.3) k.1
