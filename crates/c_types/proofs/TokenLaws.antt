-- At which tokens of a text a type or a variable is noted.
use Rattle.std.proofs.Common.{◌≡◌, ℕ, ◌<◌, ◌≤◌, nat_lt, ◌==◌, Bool, true, false, ◌||◌, if◌then◌else◌, List, [], ◌∷◌, length, map, replicate, Option, Some, None, is_some, option_and_then, option_map, slice_get, slice_set, get_or, refl, sym, ap, ◌∙◌, subst, ⊎_elim, arith}
use Rattle.std.specs.List.{list_any}
use Rattle.std.proofs.lemmas.Bool.{cases_eq, eq-eqb, lt-ltb, ne_eqb}
use Rattle.std.proofs.lemmas.List.{get_or-replicate, get_or_past, get_or-set_other, get_or-set_same, length-map, length-replicate}
use Rattle.std.proofs.Math.ListN.{get_or-map}
use Rattle.std.proofs.lemmas.Option.{slice_get-get_or, unwrap_or-slice_get}
use Rattle.base_lists.proofs.Options.{not_some}
use Rattle.c_syntax.specs.ItemTree.{SourceTree}
use Rattle.c_types_rules.specs.TypeTree.{TypeTree}
use Rattle.c_types_expressions.specs.declared.walk.VariableEntry.{VariableEntry}
use Rattle.c_types_expressions.specs.declared.walk.Walk.{Walk}
use Rattle.c_types.specs.Answers.{note_at, place_at, type_at, variable_at, variable_of}
use Rattle.c_types_expressions.specs.Words.{empty_walk, Fine, item_replaced}
use Rattle.c_types.specs.Fault.{walk_tree}
use Rattle.c_types.specs.Parts.{Part, Expression, Use, Declared, Begins, has_expression, has_variable, is_expression_at, is_variable_at, parts_of}
use Rattle.c_types.proofs.Noted.{Seen, length_replaced, noting, noting_all, plainly, seen}
use Rattle.c_types.proofs.NotedItems.{text_notes}

-- what stands at a place after one was marked
here_if : (b : Bool) (xs : List Bool) (k : ℕ) → b ≡ true → k < length xs → get_or (if b then slice_set xs k true else xs) k false ≡ true
here_if true xs k h less = get_or-set_same xs k true false less
here_if false xs k h less = absurd (cc)

apart_if : (b : Bool) (xs : List Bool) (own k : ℕ) → (k ≡ own → ⊥) → get_or (if b then slice_set xs own true else xs) k false ≡ get_or xs k false
apart_if true xs own k h = get_or-set_other xs own k true false h
apart_if false xs own k h = refl

at_replaced : (xs : List Bool) (own k : ℕ) → k < length xs → get_or (item_replaced xs own true) k false ≡ (own == k || get_or xs k false)
at_replaced xs own k less =
    ⊎_elim
    (λ e. subst (λ o. get_or (item_replaced xs o true) k false ≡ (o == k || get_or xs k false)) (sym e)
    (here_if (nat_lt k (length xs)) xs k (lt-ltb k (length xs) less) less ∙ sym (ap (λ b. b || get_or xs k false) (eq-eqb k k refl))))
    (λ n. apart_if (nat_lt own (length xs)) xs own k (λ e. n (sym e)) ∙ sym (ap (λ b. b || get_or xs k false) (ne_eqb own k n)))
    (cases_eq own k)

swapped : (a b c : Bool) → (a || (b || c)) ≡ ((b || a) || c)
swapped true true c = refl
swapped true false c = refl
swapped false true c = refl
swapped false false c = refl

or_none : (a b : Bool) → b ≡ false → (a || b) ≡ a
or_none true b h = refl
or_none false b h = h

-- where a type is noted after these parts
typed_at : (ps : List Part) (s : Seen) (k : ℕ) → k < length s.typed → get_or (noting_all ps s).typed k false ≡ (list_any (is_expression_at k) ps || get_or s.typed k false)
typed_at [] s k less = refl
typed_at (Expression own ∷ ps) s k less =
    typed_at ps (noting (Expression own) s) k (subst (λ n. k < n) (sym (length_replaced s.typed own true)) less)
    ∙ ap (λ b. list_any (is_expression_at k) ps || b) (at_replaced s.typed own k less)
    ∙ swapped (list_any (is_expression_at k) ps) (own == k) (get_or s.typed k false)
typed_at (Use own ∷ ps) s k less = typed_at ps (noting (Use own) s) k less
typed_at (Declared true own name ∷ ps) s k less = typed_at ps (noting (Declared true own name) s) k less
typed_at (Declared false own name ∷ ps) s k less = typed_at ps (noting (Declared false own name) s) k less
typed_at (Begins ∷ ps) s k less = typed_at ps (noting Begins s) k less

-- where a variable is noted after these parts
named_at : (ps : List Part) (s : Seen) (k : ℕ) → k < length s.named → get_or (noting_all ps s).named k false ≡ (list_any (is_variable_at k) ps || get_or s.named k false)
named_at [] s k less = refl
named_at (Expression own ∷ ps) s k less = named_at ps (noting (Expression own) s) k less
named_at (Use own ∷ ps) s k less =
    named_at ps (noting (Use own) s) k (subst (λ n. k < n) (sym (length_replaced s.named own true)) less)
    ∙ ap (λ b. list_any (is_variable_at k) ps || b) (at_replaced s.named own k less)
    ∙ swapped (list_any (is_variable_at k) ps) (own == k) (get_or s.named k false)
named_at (Declared true own name ∷ ps) s k less =
    named_at ps (noting (Declared true own name) s) k (subst (λ n. k < n) (sym (length_replaced s.named own true)) less)
    ∙ ap (λ b. list_any (is_variable_at k) ps || b) (at_replaced s.named own k less)
    ∙ swapped (list_any (is_variable_at k) ps) (own == k) (get_or s.named k false)
named_at (Declared false own name ∷ ps) s k less =
    named_at ps (noting (Declared false own name) s) k (subst (λ n. k < n) (sym (length_replaced s.named own true)) less)
    ∙ ap (λ b. list_any (is_variable_at k) ps || b) (at_replaced s.named own k less)
    ∙ swapped (list_any (is_variable_at k) ps) (own == k) (get_or s.named k false)
named_at (Begins ∷ ps) s k less = named_at ps (noting Begins s) k less

noted_is : {A : Type 0} (notes : List (Option A)) (k : ℕ) → is_some (note_at notes k) ≡ get_or (map is_some notes) k false
noted_is notes k = ap is_some (unwrap_or-slice_get notes k None) ∙ sym (get_or-map is_some notes k None)

none_at_first : (A : Type 0) (n k : ℕ) → k < n → get_or (map is_some (replicate {A = Option A} n None)) k false ≡ false
none_at_first A n k less = get_or-map is_some (replicate {A = Option A} n None) k None ∙ ap is_some (get_or-replicate n k None None less)

as_long : (A : Type 0) (n k : ℕ) → k < n → k < length (map is_some (replicate {A = Option A} n None))
as_long A n k less = subst (λ m. k < m) (sym (length-map (replicate {A = Option A} n None) is_some ∙ length-replicate n None)) less

-- A type is noted exactly at the own tokens of expressions.
pub types_at : (t : SourceTree) (w : Walk) → walk_tree t ≡ Fine tt w → (k : ℕ) → k < length t.lines → is_some (type_at w k) ≡ has_expression t k
types_at t w is k less =
    noted_is w.types k
    ∙ ap (λ s. get_or s.typed k false) (text_notes t w is).0
    ∙ typed_at (parts_of t) (plainly (seen (empty_walk (length t.lines)))) k (as_long TypeTree (length t.lines) k less)
    ∙ or_none (has_expression t k) _ (none_at_first TypeTree (length t.lines) k less)

-- A variable is noted exactly at the names that declare or name one.
pub places_at : (t : SourceTree) (w : Walk) → walk_tree t ≡ Fine tt w → (k : ℕ) → k < length t.lines → is_some (place_at w k) ≡ has_variable t k
places_at t w is k less =
    noted_is w.variables_at k
    ∙ ap (λ s. get_or s.named k false) (text_notes t w is).0
    ∙ named_at (parts_of t) (plainly (seen (empty_walk (length t.lines)))) k (as_long ℕ (length t.lines) k less)
    ∙ or_none (has_variable t k) _ (none_at_first ℕ (length t.lines) k less)

-- the place that was noted is one of a variable
has_entry : (variables : List VariableEntry) (place : Option ℕ) → ((p : ℕ) → place ≡ Some p → p < length variables) →
    is_some (option_and_then (λ p. option_map variable_of (slice_get variables p)) place) ≡ is_some place
has_entry variables None h = refl
has_entry [] (Some p) h = absurd (omega (arith, h p refl))
has_entry (v ∷ variables) (Some p) h = ap (λ e. is_some (option_map variable_of e)) (slice_get-get_or (v ∷ variables) p v (h p refl))

pub variables_at : (t : SourceTree) (w : Walk) → walk_tree t ≡ Fine tt w → (k : ℕ) → k < length t.lines → is_some (variable_at w k) ≡ has_variable t k
variables_at t w is k less =
    has_entry w.variables (place_at w k) (λ p noted. (text_notes t w is).1.1 k p (sym (unwrap_or-slice_get w.variables_at k None) ∙ noted)) ∙ places_at t w is k less

-- beyond the tokens of the text nothing is noted

typed_long : (ps : List Part) (s : Seen) → length (noting_all ps s).typed ≡ length s.typed
typed_long [] s = refl
typed_long (Expression own ∷ ps) s = typed_long ps (noting (Expression own) s) ∙ length_replaced s.typed own true
typed_long (Use own ∷ ps) s = typed_long ps (noting (Use own) s)
typed_long (Declared true own name ∷ ps) s = typed_long ps (noting (Declared true own name) s)
typed_long (Declared false own name ∷ ps) s = typed_long ps (noting (Declared false own name) s)
typed_long (Begins ∷ ps) s = typed_long ps (noting Begins s)

named_long : (ps : List Part) (s : Seen) → length (noting_all ps s).named ≡ length s.named
named_long [] s = refl
named_long (Expression own ∷ ps) s = named_long ps (noting (Expression own) s)
named_long (Use own ∷ ps) s = named_long ps (noting (Use own) s) ∙ length_replaced s.named own true
named_long (Declared true own name ∷ ps) s = named_long ps (noting (Declared true own name) s) ∙ length_replaced s.named own true
named_long (Declared false own name ∷ ps) s = named_long ps (noting (Declared false own name) s) ∙ length_replaced s.named own true
named_long (Begins ∷ ps) s = named_long ps (noting Begins s)

begins_long : (A : Type 0) (n : ℕ) → length (map is_some (replicate {A = Option A} n None)) ≡ n
begins_long A n = length-map (replicate {A = Option A} n None) is_some ∙ length-replicate n None

none_noted : {A : Type 0} (notes : List (Option A)) (n k : ℕ) → length (map is_some notes) ≡ n → n ≤ k → note_at notes k ≡ None
none_noted notes n k long past = not_some (note_at notes k) (noted_is notes k ∙ get_or_past (map is_some notes) k false (omega (arith, long, past)))

pub no_type_beyond : (t : SourceTree) (w : Walk) → walk_tree t ≡ Fine tt w → (k : ℕ) → length t.lines ≤ k → type_at w k ≡ None
no_type_beyond t w is k past =
    none_noted w.types (length t.lines) k
    (ap (λ (s : Seen). length s.typed) (text_notes t w is).0 ∙ typed_long (parts_of t) (plainly (seen (empty_walk (length t.lines)))) ∙ begins_long TypeTree (length t.lines)) past

pub no_variable_beyond : (t : SourceTree) (w : Walk) → walk_tree t ≡ Fine tt w → (k : ℕ) → length t.lines ≤ k → variable_at w k ≡ None
no_variable_beyond t w is k past =
    ap (λ place. option_and_then (λ p. option_map variable_of (slice_get w.variables p)) place)
    (none_noted w.variables_at (length t.lines) k
    (ap (λ (s : Seen). length s.named) (text_notes t w is).0 ∙ named_long (parts_of t) (plainly (seen (empty_walk (length t.lines)))) ∙ begins_long ℕ (length t.lines)) past)
