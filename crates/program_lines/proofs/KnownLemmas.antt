-- Which names a set has, by its keys.
use Rattle.std.proofs.Common.{◌≡◌, ◌≢◌, ◌⊎◌, ◌↔◌, ℕ, Bool, true, false, ◌||◌, not, inl, inr, ⊎_elim, List, [], ◌∷◌, ◌++◌, ap, sym, subst, ◌∙◌, refl}
use Rattle.std.specs.Prelude.{map}
use Rattle.std.specs.BTreeMap.{is_at}
use Rattle.std.specs.BTreeSet.{insert_key}
use Rattle.std.specs.Cmp.Lexicographic.{slice_cmp, texts_ties}
use Rattle.std.specs.Global.{Vec}
use Rattle.std.specs.List.{All, AllByRecursion, list_any}
use Rattle.std.specs.Ordering.{is_eq, match_ordering, nat_cmp}
use Rattle.std.specs.declared.cmp.Ordering.{Ordering}
use Rattle.std.specs.declared.cmp.Ordering.TheVariants.{Less, Equal, Greater}
use Rattle.std.proofs.lemmas.Bool.{false≢true}
use Rattle.std.proofs.lemmas.List.{map-append}
use Rattle.std.proofs.lemmas.List.Elements.{All-from_recursion, recursion_from_All}
use Rattle.std.proofs.lemmas.Map.Lookups.{exact_bytes}
use Rattle.std.proofs.lemmas.Slice.Eq.{bytes_eq-Decides}
use Rattle.base_lists.proofs.Tests.{not_itself}
use Rattle.flow.specs.Spelling.{Head}
use Rattle.program_lines.specs.Known.{AreNamesOf, Knows}

abbrev pub key_names : List (Vec ℕ) → List (List ℕ)
key_names keys = map (λ (name : Vec ℕ). name.items) keys

has-tests : (b c : Bool) (name other : List ℕ) (more : List (List ℕ)) → (b ≡ true → other ≡ name) → (other ≡ name → b ≡ true) → (c ≡ true) ↔ Knows more name → ((b || c) ≡ true) ↔ ((other ≡ name) ⊎ Knows more name)
has-tests true c name other more to from rest = (λ _. inl (to refl), λ _. refl)
has-tests false c name other more to from rest =
    (λ h. inr (rest.0 h), λ k. ⊎_elim (λ (same : other ≡ name). absurd (false≢true (from same))) (λ (behind : Knows more name). rest.1 behind) k)

pub known-is : (name : List ℕ) (keys : List (Vec ℕ)) → (list_any (is_at (λ (k : Vec ℕ). slice_cmp nat_cmp name k.items)) keys ≡ true) ↔ Knows (key_names keys) name
known-is name [] = (λ h. absurd (false≢true h), λ h. absurd h)
known-is name (v ∷ more) =
    let tie = texts_ties name v.items in
    let decides = bytes_eq-Decides name v.items in
    has-tests (is_eq (slice_cmp nat_cmp name v.items)) (list_any (is_at (λ (k : Vec ℕ). slice_cmp nat_cmp name k.items)) more) name v.items (key_names more)
    (λ b. sym (decides.0 (tie ∙ b))) (λ e. sym tie ∙ decides.1 (sym e)) (known-is name more)

abbrev pub vec_cmp : Vec ℕ → Vec ℕ → Ordering
vec_cmp x y = slice_cmp nat_cmp x.items y.items

abbrev put_by : Ordering → Vec ℕ → Vec ℕ → List (Vec ℕ) → List (Vec ℕ) → List (Vec ℕ)
put_by o k x xs rest = match_ordering o (k ∷ x ∷ xs) (x ∷ xs) (x ∷ rest)

-- the key that was put in its place
put-to : (o : Ordering) (name : List ℕ) (k x : Vec ℕ) (xs rest : List (Vec ℕ)) → (Knows (key_names rest) name → (k.items ≡ name) ⊎ Knows (key_names xs) name) → Knows (key_names (put_by o k x xs rest)) name → (k.items ≡ name) ⊎ Knows (key_names (x ∷ xs)) name
put-to Less name k x xs rest step h = h
put-to Equal name k x xs rest step h = inr h
put-to Greater name k x xs rest step h =
    ⊎_elim (λ (same : x.items ≡ name). inr (inl same)) (λ (behind : Knows (key_names rest) name). ⊎_elim (λ (here : k.items ≡ name). inl here) (λ (there : Knows (key_names xs) name). inr (inr there)) (step behind)) h

put-here : (o : Ordering) (k x : Vec ℕ) (xs rest : List (Vec ℕ)) → (o ≡ Equal → k.items ≡ x.items) → Knows (key_names rest) k.items → Knows (key_names (put_by o k x xs rest)) k.items
put-here Less k x xs rest ties step = inl refl
put-here Equal k x xs rest ties step = inl (sym (ties refl))
put-here Greater k x xs rest ties step = inr step

put-stays : (o : Ordering) (name : List ℕ) (k x : Vec ℕ) (xs rest : List (Vec ℕ)) → (Knows (key_names xs) name → Knows (key_names rest) name) → Knows (key_names (x ∷ xs)) name → Knows (key_names (put_by o k x xs rest)) name
put-stays Less name k x xs rest step h = inr h
put-stays Equal name k x xs rest step h = h
put-stays Greater name k x xs rest step h = ⊎_elim (λ (same : x.items ≡ name). inl same) (λ (behind : Knows (key_names xs) name). inr (step behind)) h

insert-to : (name : List ℕ) (keys : List (Vec ℕ)) (k : Vec ℕ) → Knows (key_names (insert_key vec_cmp keys k)) name → (k.items ≡ name) ⊎ Knows (key_names keys) name
insert-to name [] k h = h
insert-to name (x ∷ xs) k h = put-to (vec_cmp k x) name k x xs (insert_key vec_cmp xs k) (insert-to name xs k) h

insert-here : (keys : List (Vec ℕ)) (k : Vec ℕ) → Knows (key_names (insert_key vec_cmp keys k)) k.items
insert-here [] k = inl refl
insert-here (x ∷ xs) k = put-here (vec_cmp k x) k x xs (insert_key vec_cmp xs k) (exact_bytes k.items x.items) (insert-here xs k)

insert-stays : (name : List ℕ) (keys : List (Vec ℕ)) (k : Vec ℕ) → Knows (key_names keys) name → Knows (key_names (insert_key vec_cmp keys k)) name
insert-stays name [] k h = absurd h
insert-stays name (x ∷ xs) k h = put-stays (vec_cmp k x) name k x xs (insert_key vec_cmp xs k) (insert-stays name xs k) h

same-known : (name other : List ℕ) (names : List (List ℕ)) → name ≡ other → Knows names name → Knows names other
same-known name other names e h = subst (Knows names) e h

pub insert-is : (name : List ℕ) (keys : List (Vec ℕ)) (k : Vec ℕ) → Knows (key_names (insert_key vec_cmp keys k)) name ↔ ((k.items ≡ name) ⊎ Knows (key_names keys) name)
insert-is name keys k = (
  insert-to name keys k,
  λ h. ⊎_elim (λ (same : k.items ≡ name). same-known k.items name (key_names (insert_key vec_cmp keys k)) same (insert-here keys k)) (λ (old : Knows (key_names keys) name). insert-stays name keys k old) h,
)

pub has-known : (b : Bool) (name : List ℕ) (keys : List (Vec ℕ)) (names : List (List ℕ)) → b ≡ list_any (is_at (λ (k : Vec ℕ). slice_cmp nat_cmp name k.items)) keys → key_names keys ≡ names → (b ≡ true) ↔ Knows names name
has-known b name keys names is seen =
    let known = known-is name keys in
    (λ h. subst (λ (ns : List (List ℕ)). Knows ns name) seen (known.0 (sym is ∙ h)), λ h. is ∙ known.1 (subst (λ (ns : List (List ℕ)). Knows ns name) (sym seen) h))

-- one function more
knows-more : (names : List (List ℕ)) (last name : List ℕ) → Knows (names ++ last ∷ []) name ↔ ((last ≡ name) ⊎ Knows names name)
knows-more [] last name = (λ h. h, λ h. h)
knows-more (x ∷ more) last name =
    let rest = knows-more more last name in (
      λ h. ⊎_elim (λ (same : x ≡ name). inr (inl same)) (λ (behind : Knows (more ++ last ∷ []) name). ⊎_elim (λ (here : last ≡ name). inl here) (λ (there : Knows more name). inr (inr there)) (rest.0 behind)) h,
      λ h. ⊎_elim (λ (here : last ≡ name). inr (rest.1 (inl here))) (λ (old : Knows (x ∷ more) name). ⊎_elim (λ (same : x ≡ name). inl same) (λ (behind : Knows more name). inr (rest.1 (inr behind))) old) h,
    )

abbrev name_of : Head → List ℕ
name_of h = h.name

pub names-more : (heads all : List Head) (h : Head) (old new : List (List ℕ)) (name : List ℕ) → all ≡ heads ++ h ∷ [] → name ≡ h.name → AreNamesOf heads old → ((other : List ℕ) → Knows new other ↔ ((name ≡ other) ⊎ Knows old other)) → AreNamesOf all new
names-more heads all h old new name is named are more = λ other.
    let names : map name_of all ≡ map name_of heads ++ h.name ∷ [] = ap (map name_of) is ∙ map-append name_of heads (h ∷ []) in
    let whole = knows-more (map name_of heads) h.name other in (
      λ k. subst (λ (ns : List (List ℕ)). Knows ns other) (sym names) (whole.1 (⊎_elim (λ (same : name ≡ other). inl (sym named ∙ same)) (λ (known : Knows old other). inr ((are other).0 known)) ((more other).0 k))),
      λ k. (more other).1 (⊎_elim (λ (same : h.name ≡ other). inl (named ∙ same)) (λ (known : Knows (map name_of heads) other). inr ((are other).1 known)) (whole.0 (subst (λ (ns : List (List ℕ)). Knows ns other) names k))),
    )

-- a name that isn't known is no function's
abbrev Differs : List ℕ → Head → Type 0
Differs name g = g.name ≢ name

unknown-all : (name : List ℕ) (heads : List Head) → (Knows (map name_of heads) name → ⊥) → AllByRecursion (Differs name) heads
unknown-all name [] unknown = tt
unknown-all name (g ∷ more) unknown = (λ e. unknown (inl e), unknown-all name more (λ k. unknown (inr k)))

all-unknown : (name : List ℕ) (heads : List Head) → AllByRecursion (Differs name) heads → Knows (map name_of heads) name → ⊥
all-unknown name [] all k = k
all-unknown name (g ∷ more) all k = ⊎_elim (λ (same : g.name ≡ name). all.0 same) (λ (behind : Knows (map name_of more) name). all-unknown name more all.1 behind) k

is-false : (b : Bool) → (b ≡ true → ⊥) → not b ≡ true
is-false true fails = absurd (fails refl)
is-false false fails = refl

pub fresh-is : (b : Bool) (heads seen : List Head) (names : List (List ℕ)) (name : List ℕ) → heads ≡ seen → (b ≡ true) ↔ Knows names name → AreNamesOf heads names → (not b ≡ true) ↔ All (Differs name) seen
fresh-is b heads seen names name is has are = (
  λ h. subst (All (Differs name)) is (All-from_recursion (Differs name) heads (unknown-all name heads (λ k. not_itself b h (has.1 ((are name).1 k))))),
  λ all. is-false b (λ e. all-unknown name heads (recursion_from_All (Differs name) heads (subst (All (Differs name)) (sym is) all)) ((are name).0 (has.0 e))),
)
