-- The bodies of the defined functions, as their places are found.
use Rattle.std.proofs.Common.{◌≡◌, ℕ, suc, ◌+◌, ◌<◌, if◌then◌else◌, List, [], ◌∷◌, ◌++◌, length, get_or, drop, Option, Some, None, is_some, refl, sym, ap, ◌∙◌, arith, append_assoc, add-one, length-append, rules}
use Rattle.std.specs.Prelude.{map, option_map, option_and_then, slice_get}
use Rattle.std.specs.List.{flat_map}
use Rattle.std.proofs.Math.Seq.{get_or-append_seam}
use Rattle.std.proofs.lemmas.List.Concat.{flat_map-cons}
use Rattle.std.proofs.lemmas.Option.{slice_get-get_or, slice_get-map}
use Rattle.base_lists.proofs.Lists.{first_left}
use Rattle.c_syntax.specs.declared.tree.Item.{Item}
use Rattle.c_syntax.specs.ItemTree as item
use Rattle.c_syntax.specs.Words.{ItemTree, EntryList, plain_item}
use Rattle.c_meaning.specs.Known.{body_of_item}
use Rattle.lower_trees.specs.Bodies.{body_at, body_in, definition_places}
use Rattle.lower_trees.proofs.Placed.{step}

-- the places so far and those in what is left, after one more item
pub places_next : (xs : List Item) (i n later : ℕ) (x : Item) (now before total : List ℕ) → later ≡ n + 1 → i < length xs → x ≡ get_or xs i x →
    now ≡ (if is_some (body_in (Some (plain_item x))) then before ++ n ∷ [] else before) →
    before ++ definition_places n (map plain_item (drop i xs)) ≡ total → now ++ definition_places later (map plain_item (drop (i + 1) xs)) ≡ total
places_next xs i n later x now before total one_more inside is at h =
    ap (λ k. now ++ definition_places k (map plain_item (drop (i + 1) xs))) (one_more ∙ add-one n)
    ∙ ap (λ k. now ++ definition_places (suc n) (map plain_item (drop k xs))) (add-one i)
    ∙ step (is_some (body_in (Some (plain_item x)))) n before (definition_places (suc n) (map plain_item (drop (suc i) xs))) now at
    ∙ ap (λ l. before ++ definition_places n (map plain_item l)) (sym (first_left xs i x inside is))
    ∙ h

abbrev body_list : Option EntryList → List EntryList
body_list None = []
body_list (Some body) = body ∷ []

body_of_is : (x : ItemTree) → body_list (body_in (Some x)) ≡ body_of_item x
body_of_is (item.Struct token tag members) = refl
body_of_is (item.Function token base stars name params None) = refl
body_of_is (item.Function token base stars name params (Some body)) = refl
body_of_is (item.Declaration declaration) = refl

chosen : (items : List ItemTree) (k : ℕ) (ks : List ℕ) (o : Option EntryList) (more : List EntryList) → body_at items k ≡ o → map (body_at items) ks ≡ map Some more →
    map (body_at items) (if is_some o then k ∷ ks else ks) ≡ map Some (body_list o ++ more)
chosen items k ks None more here h = h
chosen items k ks (Some body) more here h = ap (λ y. y ∷ map (body_at items) ks) here ∙ ap (λ l. Some body ∷ l) h

-- the bodies at these places are those of the items, in order
found_bodies : (before xs : List ItemTree) → map (body_at (before ++ xs)) (definition_places (length before) xs) ≡ map Some (flat_map body_of_item xs)
found_bodies before [] = search rules
found_bodies before (x ∷ xs) =
    let items : List ItemTree = before ++ x ∷ xs in
    let longer : length (before ++ x ∷ []) ≡ suc (length before) = omega (arith, length-append before (x ∷ [])) in
    let later : map (body_at items) (definition_places (suc (length before)) xs) ≡ map Some (flat_map body_of_item xs) =
    ap (λ l. map (body_at l) (definition_places (suc (length before)) xs)) (sym (append_assoc before (x ∷ []) xs))
    ∙ ap (λ k. map (body_at ((before ++ x ∷ []) ++ xs)) (definition_places k xs)) (sym longer) ∙ found_bodies (before ++ x ∷ []) xs in
    let here : body_at items (length before) ≡ body_in (Some x) =
    ap body_in (slice_get-get_or items (length before) x (omega (arith, length-append before (x ∷ xs))) ∙ ap Some (get_or-append_seam before x xs x)) in
    chosen items (length before) (definition_places (suc (length before)) xs) (body_in (Some x)) (flat_map body_of_item xs) here later
    ∙ ap (λ l. map Some (l ++ flat_map body_of_item xs)) (body_of_is x)
    ∙ ap (map Some) (sym (flat_map-cons body_of_item x xs))

same_found : {A : Type 0} (f : ℕ → Option A) (o : Option ℕ) (b : Option A) → option_map f o ≡ option_map Some b → option_and_then f o ≡ b
same_found f None None h = refl
same_found f None (Some y) h = absurd (cc)
same_found f (Some k) None h = absurd (cc)
same_found f (Some k) (Some y) h = let inner : Some (f k) ≡ Some (Some y) = h in cc

body_found : (items : List ItemTree) (n : ℕ) → option_and_then (body_at items) (slice_get (definition_places 0 items) n) ≡ slice_get (flat_map body_of_item items) n
body_found items n =
    same_found (body_at items) (slice_get (definition_places 0 items) n) (slice_get (flat_map body_of_item items) n)
    (sym (slice_get-map (body_at items) (definition_places 0 items) n) ∙ ap (λ l. slice_get l n) (found_bodies [] items) ∙ slice_get-map Some (flat_map body_of_item items) n)

pub no_body : (items : List ItemTree) (places : List ℕ) (n : ℕ) → places ≡ definition_places 0 items → slice_get places n ≡ None → None ≡ slice_get (flat_map body_of_item items) n
no_body items places n is h =
    sym (ap (option_and_then (body_at items)) h) ∙ ap (λ l. option_and_then (body_at items) (slice_get l n)) is ∙ body_found items n

pub the_body : (items : List ItemTree) (places : List ℕ) (n place : ℕ) → places ≡ definition_places 0 items → slice_get places n ≡ Some place →
    body_at items place ≡ slice_get (flat_map body_of_item items) n
the_body items places n place is h =
    sym (ap (option_and_then (body_at items)) h) ∙ ap (λ l. option_and_then (body_at items) (slice_get l n)) is ∙ body_found items n
