-- A look at the places of variables whose scope may hold a token tells what a look at all places tells.
use Rattle.std.proofs.Common.{◌≡◌, ℕ, suc, zero, ◌+◌, ◌≤◌, Bool, true, false, cond, ◌||◌, if◌then◌else◌, List, [], ◌∷◌, ◌++◌, drop, Option, Some, None, inl, inr, refl, sym, ap, subst, ◌∙◌, arith}
use Rattle.std.specs.Prelude.{◌&&◌, ◌⊎◌, ◌==◌, not, nat_lt, nat_le, filter, slice_get}
use Rattle.std.specs.List.{range_with_len}
use Rattle.std.specs.Str.{bytes_eq}
use Rattle.std.proofs.lemmas.Bool.{cond-false, false≢true}
use Rattle.std.proofs.lemmas.Bool.Decides.{nat_tests}
use Rattle.std.proofs.lemmas.List.Elements.{filter-append}
use Rattle.std.proofs.lemmas.Option.{same_Some}
use Rattle.c_types_rules.specs.TypeTree.{TypeTree}
use Rattle.c_types_expressions.specs.declared.walk.VariableEntry.{VariableEntry}
use Rattle.c_types_expressions.specs.declared.walk.Walk.{Walk}
use Rattle.c_types.specs.Answers.{declared_at, scope_holds, span_holds}
use Rattle.flow.specs.declared.site.Partner.TheVariants as partner
use Rattle.sites.specs.Near.{AreEnough, TellEach, all_firsts, begins_from, clear_by, first_from, hidden_among, is_variable_named, places_with_scope_left, has_scope_left, partner_at, partners_among}
use Rattle.sites.specs.Visible.{all_again, declared_again, is_clear, is_hidden, is_partner, is_type, slot_of, variable_partners}
use Rattle.sites.proofs.Named.{behind, left_at, not_hidden, unheld}

-- A scope that is over at a token is over at later ones.

ended : (low token from last : ℕ) → low ≤ token → (nat_le low from || (nat_lt from low && nat_le low last)) ≡ false →
    (nat_lt from token && nat_le token last) ≡ false
ended low token from last le is = grind (arith, nat_tests)

endless : (low token from : ℕ) → low ≤ token → (nat_le low from || (nat_lt from low && true)) ≡ false → (nat_lt from token && true) ≡ false
endless low token from le is = grind (arith, nat_tests)

over_by : (low token : ℕ) (o : Option VariableEntry) (e : Option (Option ℕ)) → low ≤ token → (begins_from low o || span_holds low o e) ≡ false →
    span_holds token o e ≡ false
over_by low token None e le is = refl
over_by low token (Some v) None le is = refl
over_by low token (Some v) (Some None) le is = endless low token v.from le is
over_by low token (Some v) (Some (Some last)) le is = ended low token v.from last le is

over : (w : Walk) (low token place : ℕ) → low ≤ token → has_scope_left w low place ≡ false → scope_holds w place token ≡ false
over w low token place le is = over_by low token (slice_get w.variables place) (slice_get w.ends place) le is

-- One that isn't over at a token isn't over at an earlier one.

lasted : (low high from last : ℕ) → low ≤ high → (nat_le high from || (nat_lt from high && nat_le high last)) ≡ true →
    (nat_le low from || (nat_lt from low && nat_le low last)) ≡ true
lasted low high from last le is = grind (arith, nat_tests)

lasted-endless : (low from : ℕ) → (nat_le low from || (nat_lt from low && true)) ≡ true
lasted-endless low from = grind (arith, nat_tests)

lasted-unended : (low high from : ℕ) → low ≤ high → (nat_le high from || false) ≡ true → (nat_le low from || false) ≡ true
lasted-unended low high from le is = grind (arith, nat_tests)

sooner_by : (low high : ℕ) (o : Option VariableEntry) (e : Option (Option ℕ)) → low ≤ high → (begins_from high o || span_holds high o e) ≡ true →
    (begins_from low o || span_holds low o e) ≡ true
sooner_by low high None e le is = is
sooner_by low high (Some v) None le is = lasted-unended low high v.from le is
sooner_by low high (Some v) (Some None) le is = lasted-endless low v.from
sooner_by low high (Some v) (Some (Some last)) le is = lasted low high v.from last le is

-- what passes a first test and a second one that each passes which passes the first
not_true : (c : Bool) → (c ≡ true → false ≡ true) → c ≡ false
not_true true h = sym (h refl)
not_true false h = refl

once_more : {X : Type 0} (p : X → Bool) (x : X) (kept all : List X) → filter p kept ≡ filter p all → (d : Bool) → (p x ≡ true → d ≡ true) →
    filter p (cond d (x ∷ kept) kept) ≡ cond (p x) (x ∷ filter p all) (filter p all)
once_more p x kept all rest true h = ap (λ l. cond (p x) (x ∷ l) l) rest
once_more p x kept all rest false h = rest ∙ sym (cond-false (p x) (x ∷ filter p all) (filter p all) (not_true (p x) h))

twice : {X : Type 0} (p q : X → Bool) → ((x : X) → p x ≡ true → q x ≡ true) → (xs : List X) → filter p (filter q xs) ≡ filter p xs
twice p q more [] = refl
twice p q more (x ∷ xs) = once_more p x (filter q xs) xs (twice p q more xs) (q x) (more x)

pub lasting_later : (w : Walk) (low high count : ℕ) → low ≤ high → filter (has_scope_left w high) (places_with_scope_left w low count) ≡ places_with_scope_left w high count
lasting_later w low high count le =
    twice (has_scope_left w high) (has_scope_left w low) (λ place is. sooner_by low high (slice_get w.variables place) (slice_get w.ends place) le is) (range_with_len 0 count)

-- one number more
counted : (a n j : ℕ) → a + n ≡ j → range_with_len a (suc n) ≡ range_with_len a n ++ j ∷ []
counted a zero j is = ap (λ (k : ℕ). k ∷ []) (omega (arith, is))
counted a (suc n) j is = ap (λ l. a ∷ l) (counted (a + 1) n j (omega (arith, is)))

pub lasting_more : (w : Walk) (token seen : ℕ) → places_with_scope_left w token (seen + 1) ≡ places_with_scope_left w token seen ++ filter (has_scope_left w token) (seen ∷ [])
lasting_more w token seen =
    let next : seen + 1 ≡ suc seen = omega arith in
    ap (λ k. filter (has_scope_left w token) (range_with_len 0 k)) next
    ∙ ap (filter (has_scope_left w token)) (counted 0 seen seen (omega arith))
    ∙ filter-append (has_scope_left w token) (range_with_len 0 seen) (seen ∷ [])

-- Where the scope of none of these variables begins before the token, none of them hides a name, and none is a partner.

unheld_at : (w : Walk) (token place : ℕ) (v : VariableEntry) (later : List VariableEntry) → v ∷ later ≡ drop place w.variables →
    nat_lt v.from token ≡ false → scope_holds w place token ≡ false
unheld_at w token place v later is out =
    ap (λ o. span_holds token o (slice_get w.ends place)) (left_at w.variables place v later is).0 ∙ unheld token v (slice_get w.ends place) out

unsaid : (named hidden : Bool) → ((named && false) || hidden) ≡ hidden
unsaid true hidden = refl
unsaid false hidden = refl

unhidden : (w : Walk) (token : ℕ) (name : List ℕ) (place : ℕ) (hidden : Bool) (named : Bool) → scope_holds w place token ≡ false →
    ((named && scope_holds w place token) || hidden) ≡ hidden
unhidden w token name place hidden named out = ap (λ b. (named && b) || hidden) out ∙ unsaid named hidden

none_hidden : (w : Walk) (token : ℕ) (name : List ℕ) (place : ℕ) (later : List VariableEntry) → later ≡ drop place w.variables →
    is_clear token (first_from later) ≡ true → is_hidden w token name place later ≡ false
none_hidden w token name place [] is clear = refl
none_hidden w token name place (v ∷ later) is clear =
    let parts = behind token v.from (first_from later) clear in
    unhidden w token name place (is_hidden w token name (suc place) later) (bytes_eq v.name name) (unheld_at w token place v later is parts.0)
    ∙ none_hidden w token name (suc place) later (left_at w.variables place v later is).1 parts.1

never : (c d e : Bool) → (c && d && (false && e)) ≡ false
never true true e = refl
never true false e = refl
never false true e = refl
never false false e = refl

no_partner : (w : Walk) (token target : ℕ) (t : TypeTree) (place : ℕ) (v : VariableEntry) (later : List VariableEntry) →
    scope_holds w place token ≡ false → is_partner w token target t place v later ≡ false
no_partner w token target t place v later out =
    let visible = not (is_hidden w token v.name (suc place) later) in
    ap (λ b. not (place == target) && is_type t (declared_at w v.from) && (b && visible)) out
    ∙ never (not (place == target)) (is_type t (declared_at w v.from)) visible

none_partners : (w : Walk) (token target : ℕ) (t : TypeTree) (place : ℕ) (later : List VariableEntry) → later ≡ drop place w.variables →
    is_clear token (first_from later) ≡ true → variable_partners w token target t place later ≡ []
none_partners w token target t place [] is clear = refl
none_partners w token target t place (v ∷ later) is clear =
    let parts = behind token v.from (first_from later) clear in
    let rest = variable_partners w token target t (suc place) later in
    cond-false (is_partner w token target t place v later) (partner.Variable v.name (slot_of v.variable) ∷ rest) rest
    (no_partner w token target t place v later (unheld_at w token place v later is parts.0))
    ∙ none_partners w token target t (suc place) later (left_at w.variables place v later is).1 parts.1

-- The variable at a place and those behind it, in all that are left.

at_or_end : (xs : List VariableEntry) (n : ℕ) → ((slice_get xs n ≡ None) × (drop n xs ≡ []) × (drop (suc n) xs ≡ [])) ⊎
    ((v : VariableEntry) × (slice_get xs n ≡ Some v) × (drop n xs ≡ v ∷ drop (suc n) xs))
at_or_end [] zero = inl (refl, refl, refl)
at_or_end [] (suc n) = inl (refl, refl, refl)
at_or_end (x ∷ xs) zero = inr (x, refl, refl)
at_or_end (x ∷ xs) (suc n) = at_or_end xs n

hidden_step : (w : Walk) (token : ℕ) (name : List ℕ) (place : ℕ) → is_hidden w token name place (drop place w.variables) ≡
    ((is_variable_named name (slice_get w.variables place) && scope_holds w place token) || is_hidden w token name (suc place) (drop (suc place) w.variables))
hidden_step w token name place =
    let holds = scope_holds w place token in
    let rest = is_hidden w token name (suc place) (drop (suc place) w.variables) in
    elim (at_or_end w.variables place) [
      | inl e ↦ ap (is_hidden w token name place) e.1
          ∙ sym (ap (λ o. (is_variable_named name o && holds) || rest) e.0 ∙ ap (is_hidden w token name (suc place)) e.2)
      | inr h ↦ ap (is_hidden w token name place) h.2 ∙ sym (ap (λ o. (is_variable_named name o && holds) || rest) h.1)
    ]

joined : {X : Type 0} (c : Bool) (x : X) (rest : List X) → (if c then x ∷ rest else rest) ≡ (if c then x ∷ [] else []) ++ rest
joined true x rest = refl
joined false x rest = refl

partners_step : (w : Walk) (token target : ℕ) (t : TypeTree) (place : ℕ) → variable_partners w token target t place (drop place w.variables) ≡
    partner_at w token target t place (slice_get w.variables place) ++ variable_partners w token target t (suc place) (drop (suc place) w.variables)
partners_step w token target t place =
    let rest = variable_partners w token target t (suc place) (drop (suc place) w.variables) in
    elim (at_or_end w.variables place) [
      | inl e ↦ ap (variable_partners w token target t place) e.1
          ∙ sym (ap (λ o. partner_at w token target t place o ++ rest) e.0 ∙ ap (variable_partners w token target t (suc place)) e.2)
      | inr h ↦ ap (variable_partners w token target t place) h.2
          ∙ joined (is_partner w token target t place h.0 (drop (suc place) w.variables)) (partner.Variable h.0.name (slot_of h.0.variable)) rest
          ∙ sym (ap (λ o. partner_at w token target t place o ++ rest) h.1)
    ]

no_partner_at : (w : Walk) (token target : ℕ) (t : TypeTree) (place : ℕ) (o : Option VariableEntry) → scope_holds w place token ≡ false →
    partner_at w token target t place o ≡ []
no_partner_at w token target t place None out = refl
no_partner_at w token target t place (Some v) out =
    cond-false (is_partner w token target t place v (drop (suc place) w.variables)) (partner.Variable v.name (slot_of v.variable) ∷ []) []
    (no_partner w token target t place v (drop (suc place) w.variables) out)

-- One place more in front, looked at where its scope isn't over.

hidden_next : (w : Walk) (low token : ℕ) (name : List ℕ) (place : ℕ) (near : List ℕ) → low ≤ token →
    hidden_among w token name near ≡ is_hidden w token name (suc place) (drop (suc place) w.variables) → (c : Bool) → has_scope_left w low place ≡ c →
    hidden_among w token name (cond c (place ∷ near) near) ≡ is_hidden w token name place (drop place w.variables)
hidden_next w low token name place near le rest true is =
    ap (λ b. (is_variable_named name (slice_get w.variables place) && scope_holds w place token) || b) rest ∙ sym (hidden_step w token name place)
hidden_next w low token name place near le rest false is =
    rest ∙ sym (hidden_step w token name place
    ∙ unhidden w token name place (is_hidden w token name (suc place) (drop (suc place) w.variables)) (is_variable_named name (slice_get w.variables place))
    (over w low token place le is))

partners_next : (w : Walk) (low token target : ℕ) (t : TypeTree) (place : ℕ) (near : List ℕ) → low ≤ token →
    partners_among w token target t near ≡ variable_partners w token target t (suc place) (drop (suc place) w.variables) →
    (c : Bool) → has_scope_left w low place ≡ c →
    partners_among w token target t (cond c (place ∷ near) near) ≡ variable_partners w token target t place (drop place w.variables)
partners_next w low token target t place near le rest true is =
    ap (λ l. partner_at w token target t place (slice_get w.variables place) ++ l) rest ∙ sym (partners_step w token target t place)
partners_next w low token target t place near le rest false is =
    rest ∙ sym (partners_step w token target t place
    ∙ ap (λ l. l ++ variable_partners w token target t (suc place) (drop (suc place) w.variables))
    (no_partner_at w token target t place (slice_get w.variables place) (over w low token place le is)))

-- So many places from one on, where no scope of the variables behind them begins before the token.

module _ (w : Walk) (low token : ℕ) (le : low ≤ token) where
  abbrev near : ℕ → ℕ → List ℕ
  near place n = filter (has_scope_left w low) (range_with_len place n)

  abbrev IsClear : ℕ → Type 0
  IsClear place = is_clear token (first_from (drop place w.variables)) ≡ true

  onward : (place m : ℕ) → IsClear (place + suc m) → IsClear (place + 1 + m)
  onward place m clear = let same : place + suc m ≡ place + 1 + m = omega arith in subst IsClear same clear

  here : (place : ℕ) → IsClear (place + 0) → IsClear place
  here place clear = let same : place + 0 ≡ place = omega arith in subst IsClear same clear

  hidden : (name : List ℕ) (place n : ℕ) → IsClear (place + n) → hidden_among w token name (near place n) ≡
      is_hidden w token name place (drop place w.variables)
  hidden name place zero clear = sym (none_hidden w token name place (drop place w.variables) refl (here place clear))
  hidden name place (suc m) clear =
      let next : place + 1 ≡ suc place = omega arith in
      hidden_next w low token name place (near (place + 1) m) le
      (hidden name (place + 1) m (onward place m clear) ∙ ap (λ k. is_hidden w token name k (drop k w.variables)) next) (has_scope_left w low place) refl

  partners : (target : ℕ) (t : TypeTree) (place n : ℕ) → IsClear (place + n) → partners_among w token target t (near place n) ≡
      variable_partners w token target t place (drop place w.variables)
  partners target t place zero clear = sym (none_partners w token target t place (drop place w.variables) refl (here place clear))
  partners target t place (suc m) clear =
      let next : place + 1 ≡ suc place = omega arith in
      partners_next w low token target t place (near (place + 1) m) le
      (partners target t (place + 1) m (onward place m clear) ∙ ap (λ k. variable_partners w token target t k (drop k w.variables)) next)
      (has_scope_left w low place) refl

  told : (place : ℕ) (later : List ℕ) → ((name : List ℕ) → hidden_among w token name later ≡
      is_hidden w token name (suc place) (drop (suc place) w.variables)) → TellEach w token later → (c : Bool) → TellEach w token (cond c (place ∷ later) later)
  told place later same rest true = (record { hidden = same }, rest)
  told place later same rest false = rest

  each : (place n : ℕ) → IsClear (place + n) → TellEach w token (near place n)
  each place zero clear = tt
  each place (suc m) clear =
      let next : place + 1 ≡ suc place = omega arith in
      told place (near (place + 1) m)
      (λ name. hidden name (place + 1) m (onward place m clear) ∙ ap (λ k. is_hidden w token name k (drop k w.variables)) next)
      (each (place + 1) m (onward place m clear)) (has_scope_left w low place)

  pub all_told : (count : ℕ) → IsClear count → AreEnough w (places_with_scope_left w low count) token
  all_told count clear =
      let same : count ≡ 0 + count = omega arith in
      let from_first = subst IsClear same clear in
      record { each = each 0 count from_first; partners = λ target t. partners target t 0 count from_first }

-- no scope that begins before a token begins before an earlier one
pub clear_sooner : (token last : ℕ) (o : Option ℕ) → token ≤ last → is_clear last o ≡ true → is_clear token o ≡ true
clear_sooner token last None le is = refl
clear_sooner token last (Some first) le is = grind (arith, nat_tests)

-- What is noted at a place.

again_at : (xs : List VariableEntry) (n : ℕ) (v : VariableEntry) (found : Option ℕ) → slice_get xs n ≡ Some v → slice_get (all_again xs) n ≡ Some found →
    found ≡ declared_again v.name (drop (suc n) xs)
again_at [] zero v found is h = absurd (cc)
again_at [] (suc n) v found is h = absurd (cc)
again_at (x ∷ xs) zero v found is h =
    let same : x ≡ v = same_Some x v is in
    sym (same_Some (declared_again x.name xs) found h) ∙ ap (λ (y : VariableEntry). declared_again y.name xs) same
again_at (x ∷ xs) (suc n) v found is h = again_at xs n v found is h

clear_found : (w : Walk) (token place : ℕ) (v : VariableEntry) (o : Option (Option ℕ)) → slice_get w.variables place ≡ Some v →
    slice_get (all_again w.variables) place ≡ o → clear_by token o ≡ true → is_hidden w token v.name (suc place) (drop (suc place) w.variables) ≡ false
clear_found w token place v None there noted clear = absurd (false≢true clear)
clear_found w token place v (Some found) there noted clear =
    not_hidden w token v.name (suc place) (drop (suc place) w.variables) refl
    (ap (is_clear token) (sym (again_at w.variables place v found there noted)) ∙ clear)

pub clear_is : (w : Walk) (token place : ℕ) (v : VariableEntry) → slice_get w.variables place ≡ Some v →
    clear_by token (slice_get (all_again w.variables) place) ≡ true → is_hidden w token v.name (suc place) (drop (suc place) w.variables) ≡ false
clear_is w token place v there clear = clear_found w token place v (slice_get (all_again w.variables) place) there refl clear

pub firsts_at : (xs : List VariableEntry) (n : ℕ) → slice_get (all_firsts xs) n ≡ first_from (drop n xs)
firsts_at (x ∷ xs) (suc n) = firsts_at xs n
firsts_at [] zero = refl
firsts_at [] (suc n) = refl
firsts_at (x ∷ xs) zero = refl
