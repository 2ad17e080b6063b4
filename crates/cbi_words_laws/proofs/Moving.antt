-- An option with its value, at another place.
use Rattle.std.specs.Option.{option_map}
use Rattle.std.specs.List.{find, list_all}
use Rattle.std.proofs.Common.{◌≡◌, ℕ, Bool, true, false, not, cond, ◌&&◌, ◌||◌, if◌then◌else◌, List, [], ◌∷◌, ◌++◌, Option, None, Some, ap, sym, ◌∙◌, refl}
use Rattle.cbi_options.proofs.Cutting.{cut-positional}
use Rattle.base_lists.proofs.Tests.{and_second, same_tests}
use Rattle.cbi_base.specs.Numbers.{is_word, ◌>>=◌}
use Rattle.cbi_base.proofs.NumberLemmas.{is_word-same, same-word}
use Rattle.cbi_options.specs.declared.given.Choice.{Choice}
use Rattle.cbi_options.specs.declared.given.Given.{Given}
use Rattle.cbi_options.specs.declared.given.Shape.TheVariants as shape
use Rattle.cbi_options.specs.Options.{are_asked, are_single, has_name, is_one_of, value_of}
use Rattle.cbi_options.specs.WordRule.{given_by_words, with_option, with_positional}
use Rattle.cbi_words_laws.specs.Laws.{AreWhole, IsOption, OptionsChangePlaces, OptionsStandAnywhere, SaySame, given_together}
use Rattle.cbi_words_laws.proofs.Reading.{in_order}
use Rattle.cbi_words_laws.proofs.Joining.{cut_given}

commute : (name value word : List ℕ) (o : Option Given) →
    option_map (with_option name value) (option_map (with_positional word) o) ≡ option_map (with_positional word) (option_map (with_option name value) o)
commute name value word None = refl
commute name value word (Some given) = refl

pub stand_anywhere : OptionsStandAnywhere
stand_anywhere name value word option before after given is positional whole =
    in_order before (option ++ word ∷ after) given whole
    ∙ ap (option_map (given_together given))
    (cut_given name value option (word ∷ after) is
    ∙ ap (option_map (with_option name value)) (cut-positional word after positional)
    ∙ commute name value word (given_by_words None after)
    ∙ ap (option_map (with_positional word)) (sym (cut_given name value option after is))
    ∙ sym (cut-positional word (option ++ after) positional))
    ∙ sym (in_order before (word ∷ (option ++ after)) given whole)

-- two neighbours of a list change places
and_swap : (a b c : Bool) → (a && (b && c)) ≡ (b && (a && c))
and_swap true b c = refl
and_swap false true c = refl
and_swap false false c = refl

or_swap : (a b c : Bool) → (a || (b || c)) ≡ (b || (a || c))
or_swap true true c = refl
or_swap true false c = refl
or_swap false b c = refl

all_swap : (p : Choice → Bool) (front : List Choice) (c d : Choice) (rest : List Choice) → list_all p (front ++ c ∷ d ∷ rest) ≡ list_all p (front ++ d ∷ c ∷ rest)
all_swap p [] c d rest = and_swap (p c) (p d) (list_all p rest)
all_swap p (x ∷ front) c d rest = ap (λ b. p x && b) (all_swap p front c d rest)

has_swap : (name : List ℕ) (front : List Choice) (c d : Choice) (rest : List Choice) → has_name name (front ++ c ∷ d ∷ rest) ≡ has_name name (front ++ d ∷ c ∷ rest)
has_swap name [] c d rest = or_swap (is_word c.name name) (is_word d.name name) (has_name name rest)
has_swap name (x ∷ front) c d rest = ap (λ b. is_word x.name name || b) (has_swap name front c d rest)

turned : (a b : List ℕ) → is_word a b ≡ true → is_word b a ≡ true
turned a b e = ap (λ w. is_word w a) (sym (same-word a b e)) ∙ is_word-same a

word_turned : (a b : List ℕ) → is_word a b ≡ is_word b a
word_turned a b = same_tests (is_word a b) (is_word b a) (turned a b) (turned b a)

singles : (w c d s : Bool) → (not (w || c) && (not d && s)) ≡ (not (w || d) && (not c && s))
singles true c d s = refl
singles false c d s = and_swap (not c) (not d) s

single_swap : (front : List Choice) (c d : Choice) (rest : List Choice) → are_single (front ++ c ∷ d ∷ rest) ≡ are_single (front ++ d ∷ c ∷ rest)
single_swap [] c d rest =
    singles (is_word d.name c.name) (has_name c.name rest) (has_name d.name rest) (are_single rest)
    ∙ ap (λ w. not (w || has_name d.name rest) && (not (has_name c.name rest) && are_single rest)) (word_turned d.name c.name)
single_swap (x ∷ front) c d rest =
    ap (λ b. not b && are_single (front ++ c ∷ d ∷ rest)) (has_swap x.name front c d rest)
    ∙ ap (λ b. not (has_name x.name (front ++ d ∷ c ∷ rest)) && b) (single_swap front c d rest)

-- neighbours of which not both are looked for
found_first : (a b : Bool) (c d : Choice) (rest : Option Choice) → (a && b) ≡ false → cond a (Some c) (cond b (Some d) rest) ≡ cond b (Some d) (cond a (Some c) rest)
found_first true true c d rest e = absurd cc
found_first true false c d rest e = refl
found_first false b c d rest e = refl

find_swap : (p : Choice → Bool) (front : List Choice) (c d : Choice) (rest : List Choice) → (p c && p d) ≡ false → find p (front ++ c ∷ d ∷ rest) ≡ find p (front ++ d ∷ c ∷ rest)
find_swap p [] c d rest e = found_first (p c) (p d) c d (find p rest) e
find_swap p (x ∷ front) c d rest e = ap (cond (p x) (Some x)) (find_swap p front c d rest e)

not_either : (w c s : Bool) → (not (w || c) && s) ≡ true → w ≡ false
not_either true c s e = absurd cc
not_either false c s e = refl

differ : (front : List Choice) (c d : Choice) (rest : List Choice) → are_single (front ++ c ∷ d ∷ rest) ≡ true → is_word d.name c.name ≡ false
differ [] c d rest e = not_either (is_word d.name c.name) (has_name c.name rest) (not (has_name d.name rest) && are_single rest) e
differ (x ∷ front) c d rest e = differ front c d rest (and_second (not (has_name x.name (front ++ c ∷ d ∷ rest))) (are_single (front ++ c ∷ d ∷ rest)) e)

not_both : (a b : Bool) → (a ≡ true → b ≡ true → ⊥) → (a && b) ≡ false
not_both true true h = absurd (h refl refl)
not_both true false h = refl
not_both false b h = refl

one_alone : (c d : Choice) (name : List ℕ) → is_word d.name c.name ≡ false → (is_word c.name name && is_word d.name name) ≡ false
one_alone c d name e = not_both (is_word c.name name) (is_word d.name name) (λ is its.
    let same : is_word d.name c.name ≡ true = ap (λ w. is_word d.name w) (same-word c.name name is) ∙ its in cc)

value_swap : (name : List ℕ) (front : List Choice) (c d : Choice) (rest : List Choice) → are_single (front ++ c ∷ d ∷ rest) ≡ true →
    value_of name (front ++ c ∷ d ∷ rest) ≡ value_of name (front ++ d ∷ c ∷ rest)
value_swap name front c d rest e =
    ap (option_map (λ option. option.value)) (find_swap (λ option. is_word option.name name) front c d rest (one_alone c d name (differ front c d rest e)))

-- what is asked of both
taken : (g h : Given) (a b : Bool) → a ≡ b → (a ≡ true → (g.positionals ≡ h.positionals) × ((name : List ℕ) → value_of name g.options ≡ value_of name h.options)) →
    SaySame (if a then Some g else None) (if b then Some h else None)
taken g h true true e same = same refl
taken g h true false e same = absurd cc
taken g h false true e same = absurd cc
taken g h false false e same = tt

abbrev checked : List (List ℕ) → Option Given → Option Given
checked names o = o >>= λ given. if are_asked names given then Some given else None

swapped : (names : List (List ℕ)) (name value other its : List ℕ) (given : Given) (o : Option Given) →
    SaySame (checked names (option_map (given_together given) (option_map (with_option name value) (option_map (with_option other its) o))))
    (checked names (option_map (given_together given) (option_map (with_option other its) (option_map (with_option name value) o))))
swapped names name value other its given None = tt
swapped names name value other its given (Some rest) =
    let c : Choice = record { name = name; value = value } in
    let d : Choice = record { name = other; value = its } in
    let positionals = given.positionals ++ rest.positionals in
    let g : Given = record { options = given.options ++ c ∷ d ∷ rest.options; positionals = positionals } in
    let h : Given = record { options = given.options ++ d ∷ c ∷ rest.options; positionals = positionals } in
    let alls = all_swap (λ option. is_one_of names option.name) given.options c d rest.options in
    let single = single_swap given.options c d rest.options in
    taken g h (are_asked names g) (are_asked names h)
    (ap (λ b. b && are_single (given.options ++ c ∷ d ∷ rest.options)) alls ∙ ap (λ b. list_all (λ option. is_one_of names option.name) (given.options ++ d ∷ c ∷ rest.options) && b) single)
    (λ e. (refl, λ n. value_swap n given.options c d rest.options (and_second (list_all (λ option. is_one_of names option.name) g.options) (are_single g.options) e)))

read_two : (name value other its : List ℕ) (one two before after : List (List ℕ)) (given : Given) → IsOption name value one → IsOption other its two → AreWhole before given →
    given_by_words None (before ++ (one ++ (two ++ after))) ≡ option_map (given_together given) (option_map (with_option name value) (option_map (with_option other its) (given_by_words None after)))
read_two name value other its one two before after given is its_is whole =
    in_order before (one ++ (two ++ after)) given whole
    ∙ ap (option_map (given_together given)) (cut_given name value one (two ++ after) is ∙ ap (option_map (with_option name value)) (cut_given other its two after its_is))

pub change_places : OptionsChangePlaces
change_places names name value other its one two before after given is its_is whole =
    let first = read_two name value other its one two before after given is its_is whole in
    let second = read_two other its name value two one before after given its_is is whole in
    rw (ap (checked names) first, ap (checked names) second) (swapped names name value other its given (given_by_words None after))
