-- Parameters: what the walk takes is what they are, and where it stops a rule is broken.
use Rattle.std.proofs.Common.{◌⊎◌, inl, inr, ◌≡◌, ℕ, refl, ap, subst, sym, ◌∙◌, arith, List, [], ◌∷◌, ◌++◌, map, Some, None, Bool, true, false}
use Rattle.std.proofs.lemmas.Bool.{and_from, false≢true, and_parts, or_cases, or_left, or_right}
use Rattle.std.proofs.lemmas.List.{map-append}
use Rattle.std.proofs.lemmas.Slice.Eq.{bytes_eq-Decides}
use Rattle.std.specs.Prelude.{Option, ◌&&◌, ◌||◌, if◌then◌else◌}
use Rattle.c_syntax.specs.declared.parts.Bound.{Bound}
use Rattle.c_syntax.specs.declared.parts.Constant.{Constant}
use Rattle.c_syntax.specs.declared.parts.Param.{Param}
use Rattle.c_syntax.specs.declared.parts.ParamName.{ParamName}
use Rattle.c_types_rules.specs.declared.fault.FaultKind.{FaultKind}
use Rattle.c_types_rules.specs.declared.fault.FaultKind.TheVariants as fault
use Rattle.c_types_rules.specs.Words.{is_scalar, library_named, TypeTree}
use Rattle.c_types_expressions.specs.declared.walk.Parameter.{Parameter}
use Rattle.c_types_expressions.specs.declared.walk.Walk.{Walk}
use Rattle.c_types_expressions.specs.Words.{with_stars, is_reserved, Fine, Faulty}
use Rattle.c_types_walk.specs.ItemWalk.{has_length, is_among, is_length, is_named, looked_param, param_type, scalar_param, walk_param, walk_params}
use Rattle.c_types_faults.specs.Context.{Context, IsReserved, known_identifiers}
use Rattle.c_types_faults.specs.Functions.{Formal, HasLength, IsFormal, IsPositiveLength, ParamBreaks, ParamGives, ParamRule, ParamsBreak, ParamsGive}
use Rattle.c_types_faults.specs.Functions.{adjusted_type, formal_parameter, IsRuledParam}
use Rattle.c_types_faults.specs.Least.{IsLeast}
use Rattle.c_types_faults.proofs.Exprs.{base_tells}
use Rattle.c_types_faults.proofs.Least.{least_first, least_second}
use Rattle.c_types_faults.proofs.Telling.{Agreed, Tells, agrees_on, and_then, shown, weaker}
use Rattle.c_types_faults.proofs.Variables.{reserved_by, reserved_true}

abbrev pub formal_of : Parameter → Formal
formal_of p = record { name = p.name; of = p.ctype }

adjusted_is : (b : Option Bound) (t : TypeTree) → param_type b t ≡ adjusted_type b t
adjusted_is None t = refl
adjusted_is (Some bound) t = refl

positive_back : (o : Option Constant) → IsPositiveLength o → is_length o ≡ true
positive_back None h = refl
positive_back (Some c) h = h

length_back : (b : Option Bound) → HasLength b → has_length b ≡ true
length_back None h = refl
length_back (Some bound) h = positive_back bound.length h

is_positive : (o : Option Constant) → is_length o ≡ true → IsPositiveLength o
is_positive None h = tt
is_positive (Some c) h = h

length_is : (b : Option Bound) → has_length b ≡ true → HasLength b
length_is None h = tt
length_is (Some bound) h = is_positive bound.length h

formals_among : (name : List ℕ) (ps : List Parameter) → IsFormal name (map formal_of ps) → is_among name ps ≡ true
formals_among name [] h = absurd h
formals_among name (p ∷ ps) (inl h) = or_left (is_named name p.name) (is_among name ps)
    (ap (is_named name) h ∙ (bytes_eq-Decides name name).1 refl)
formals_among name (p ∷ ps) (inr h) = or_right (is_named name p.name) (is_among name ps) (formals_among name ps h)

among_formals : (name : List ℕ) (ps : List Parameter) → is_among name ps ≡ true → IsFormal name (map formal_of ps)
among_formals name [] h = absurd (false≢true h)
among_formals name (p ∷ ps) h = by p.name refl (or_cases (is_named name p.name) (is_among name ps) h) (among_formals name ps)
  where
    by : (o : Option (List ℕ)) → p.name ≡ o → ((is_named name o ≡ true) ⊎ (is_among name ps ≡ true))
        → (is_among name ps ≡ true → IsFormal name (map formal_of ps)) → IsFormal name (map formal_of (p ∷ ps))
    by None e (inl b) f = absurd (false≢true b)
    by (Some other) e (inl b) f = inl (e ∙ ap Some ((bytes_eq-Decides other name).0 b))
    by o e (inr b) f = inr (f b)

module _ (c : Context) (body : Bool) (token : ℕ) where
  abbrev Rule : List Parameter → Option ParamName → TypeTree → FaultKind → ℕ → Type 0
  Rule before name t j at = (at ≡ token) × IsLeast (ParamRule body (map formal_of before) name t) j

  scalar_tells : {B : FaultKind → ℕ → Type 0} (b : Bool) (p : Parameter) (w : Walk) → (b ≡ false → B fault.Object token)
      → Tells (if b then Fine p w else Faulty fault.Object token) (λ x v. (x ≡ p) × (v ≡ w) × (b ≡ true)) B
  scalar_tells true p w f = record { by = (refl, refl, refl) }
  scalar_tells false p w f = record { by = f refl }

  no_name : (b : Bool) (t : TypeTree) (before : List Parameter) (w : Walk) → body ≡ b
      → Tells (if b then Faulty fault.Unknown token else scalar_param token None t (record { token = token; name = None; ctype = t }) w)
      (λ x v. (formal_of x ≡ formal_parameter None t) × (v ≡ w) × IsRuledParam body (map formal_of before) None t) (Rule before None t)
  no_name true t before w e = record {
    by = (refl, least_first (body ≡ true) (is_scalar t ≡ true → ⊥) fault.Unknown fault.Object fault.Unknown (omega arith) refl e);
  }
  no_name false t before w e = weaker (scalar_tells {B = Rule before None t} (is_scalar t && true) (record { token = token; name = None; ctype = t }) w
      (λ h. (
        refl,
        least_second (body ≡ true) (is_scalar t ≡ true → ⊥) fault.Unknown fault.Object fault.Object (λ y. false≢true (sym e ∙ y)) refl
            (λ s. false≢true (sym h ∙ and_from (is_scalar t) true s refl)),
      )))
      (λ j at h. h) (λ x v p. (ap formal_of p.0, p.1, (e, (and_parts (is_scalar t) true p.2).0)))

  named_by : (b : Bool) (n : ParamName) (t : TypeTree) (before : List Parameter) (w : Walk) → (is_reserved n.name || is_among n.name before) ≡ b
      → Tells (if b then Faulty fault.Redeclared token
      else scalar_param token n.bound (param_type n.bound t) (record { token = n.token; name = Some n.name; ctype = param_type n.bound t }) w)
      (λ x v. (formal_of x ≡ formal_parameter (Some n) t) × (v ≡ w) × IsRuledParam body (map formal_of before) (Some n) t) (Rule before (Some n) t)
  named_by true n t before w e = record {
    by = (
      refl,
      least_first (IsReserved n.name ⊎ IsFormal n.name (map formal_of before)) ((is_scalar (adjusted_type n.bound t) ≡ true) × HasLength n.bound → ⊥)
          fault.Redeclared fault.Object fault.Redeclared (omega arith) refl (taken (or_cases (is_reserved n.name) (is_among n.name before) e)),
    );
  }
    where
      taken : ((is_reserved n.name ≡ true) ⊎ (is_among n.name before ≡ true)) → IsReserved n.name ⊎ IsFormal n.name (map formal_of before)
      taken (inl h) = inl (reserved_by (library_named n.name) h)
      taken (inr h) = inr (among_formals n.name before h)
  named_by false n t before w e = weaker (scalar_tells {B = Rule before (Some n) t} (is_scalar (param_type n.bound t) && has_length n.bound)
      (record { token = n.token; name = Some n.name; ctype = param_type n.bound t }) w
      (λ h. (
        refl,
        least_second (IsReserved n.name ⊎ IsFormal n.name (map formal_of before)) ((is_scalar (adjusted_type n.bound t) ≡ true) × HasLength n.bound → ⊥)
            fault.Redeclared fault.Object fault.Object free refl
            (λ s. false≢true (sym h ∙ and_from (is_scalar (param_type n.bound t)) (has_length n.bound)
            (ap is_scalar (adjusted_is n.bound t) ∙ s.0) (length_back n.bound s.1))),
      )))
      (λ j at h. h) (λ x v p. (
        ap formal_of p.0 ∙ ap (λ u. named n u) (adjusted_is n.bound t),
        p.1,
        (
          free,
          ap is_scalar (sym (adjusted_is n.bound t)) ∙ (and_parts (is_scalar (param_type n.bound t)) (has_length n.bound) p.2).0,
          length_is n.bound (and_parts (is_scalar (param_type n.bound t)) (has_length n.bound) p.2).1,
        ),
      ))
    where
      free : (IsReserved n.name ⊎ IsFormal n.name (map formal_of before)) → ⊥
      free (inl h) = false≢true (sym e ∙ or_left (is_reserved n.name) (is_among n.name before) (reserved_true n.name h))
      free (inr h) = false≢true (sym e ∙ or_right (is_reserved n.name) (is_among n.name before) (formals_among n.name before h))

      named : ParamName → TypeTree → Formal
      named n u = record { name = Some n.name; of = u }

  looked_tells : (name : Option ParamName) (t : TypeTree) (before : List Parameter) (w : Walk)
      → Tells (looked_param body token name t before w)
      (λ x v. (formal_of x ≡ formal_parameter name t) × (v ≡ w) × IsRuledParam body (map formal_of before) name t) (Rule before name t)
  looked_tells None t before w = no_name body t before w refl
  looked_tells (Some n) t before w = named_by (is_reserved n.name || is_among n.name before) n t before w refl

module _ (c : Context) (body : Bool) where
  param_tells : (p : Param) (before : List Parameter) (w : Walk) → Agreed (known_identifiers c) (shown w)
      → Tells (walk_param body p before w) (λ x v. ParamGives c body (map formal_of before) p (formal_of x) × (v ≡ w)) (ParamBreaks c body
      (map formal_of before) p)
  param_tells p before w g = and_then (base_tells (known_identifiers c) p.base w g) (λ j at h. inl h) (λ of v q.
      weaker (looked_tells c body p.token p.name (with_stars p.stars of) before v) (λ j at h. inr (of, (q.0, h)))
      (λ x u n. ((of, (q.0, n.2, n.0)), n.1 ∙ q.1)))

  pub params_tell : (ps : List Param) (before : List Parameter) (w : Walk) → Agreed (known_identifiers c) (shown w)
      → Tells (walk_params body ps before w) (λ xs v. ParamsGive c body (map formal_of before) ps (map formal_of xs) × (v ≡ w))
      (ParamsBreak c body (map formal_of before) ps)
  params_tell [] before w g = record { by = (refl, refl) }
  params_tell (p ∷ ps) before w g = and_then (param_tells p before w g) (λ j at h. inl h) (λ x v q.
      weaker (params_tell ps (before ++ x ∷ []) v (agrees_on g (ap shown q.1)))
      (λ j at h. inr (formal_of x, (q.0, subst (λ fs. ParamsBreak c body fs ps j at) (map-append formal_of before (x ∷ [])) h)))
      (λ xs u n. ((formal_of x, (q.0, subst (λ fs. ParamsGive c body fs ps (map formal_of xs)) (map-append formal_of before (x ∷ [])) n.0)), n.1 ∙ q.1)))
