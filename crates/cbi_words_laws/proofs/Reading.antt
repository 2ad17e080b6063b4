-- Words that are whole are read before the others.
use Rattle.std.specs.Option.{option_map}
use Rattle.std.specs.List.{All}
use Rattle.std.proofs.Common.{◌≡◌, ℕ, Bool, true, false, if◌then◌else◌, List, [], ◌∷◌, ◌++◌, Option, None, Some, ap, ◌∙◌, refl}
use Rattle.std.proofs.lemmas.List.{append-nil}
use Rattle.std.proofs.lemmas.List.Elements.{All-head, All-tail}
use Rattle.base_lists.proofs.Options.{some_is}
use Rattle.cbi_options.specs.declared.given.Choice.{Choice}
use Rattle.cbi_options.specs.declared.given.Given.{Given}
use Rattle.cbi_options.specs.declared.given.Shape.{Shape}
use Rattle.cbi_options.specs.declared.given.Shape.TheVariants as shape
use Rattle.cbi_options.specs.WordRule.{given_by_words, has_value, is_value, name_in, none_given, shape_of, value_in, with_option, with_positional}
use Rattle.cbi_words_laws.specs.Laws.{EndEndsOptions, GoesOn, ReadInOrder, given_together}

-- what a word and those behind it give, by what it is
abbrev pub at_shape : Shape → Bool → List ℕ → List (List ℕ) → Option Given
at_shape s has word rest = elim s [
  | shape.End ↦ Some (record { options = []; positionals = rest })
  | shape.Option ↦ (if has then option_map (with_option (name_in word) (value_in word)) (given_by_words None rest) else given_by_words (Some word) rest)
  | shape.Refused ↦ None
  | shape.Positional ↦ option_map (with_positional word) (given_by_words None rest)
]

none_beside : (given : Given) (o : Option Given) → none_given ≡ given → o ≡ option_map (given_together given) o
none_beside given None e = refl
none_beside given (Some more) e = ap (λ first. Some (given_together first more)) e

-- one more option or positional before what is given
pushed : (f : Given → Given) (g : Given) (o : Option Given) → ((g h : Given) → f (given_together g h) ≡ given_together (f g) h) →
    option_map f (option_map (given_together g) o) ≡ option_map (given_together (f g)) o
pushed f g None same = refl
pushed f g (Some h) same = ap Some (same g h)

-- what stands in front of words of which this is known
onto : (f : Given → Given) (own both rest : Option Given) (given : Given) → ((g h : Given) → f (given_together g h) ≡ given_together (f g) h) →
    ((g : Given) → own ≡ Some g → both ≡ option_map (given_together g) rest) → option_map f own ≡ Some given → option_map f both ≡ option_map (given_together given) rest
onto f None both rest given same more e = absurd cc
onto f (Some g) both rest given same more e =
    ap (option_map f) (more g refl) ∙ pushed f g rest same ∙ ap (λ first. option_map (given_together first) rest) (some_is e)

-- words whole behind an option that may wait for its value
abbrev pub Whole : Option (List ℕ) → List (List ℕ) → List (List ℕ) → Type 0
Whole waiting before after = (given : Given) → given_by_words waiting before ≡ Some given → given_by_words waiting (before ++ after) ≡ option_map (given_together given) (given_by_words None after)

as_value : (name word : List ℕ) (b : Bool) (own both rest : Option Given) (given : Given) → ((g : Given) → own ≡ Some g → both ≡ option_map (given_together g) rest) →
    (if b then option_map (with_option name word) own else None) ≡ Some given → (if b then option_map (with_option name word) both else None) ≡ option_map (given_together given) rest
as_value name word true own both rest given more e = onto (with_option name word) own both rest given (λ g h. refl) more e
as_value name word false own both rest given more e = absurd cc

by_shape : (s : Shape) (has : Bool) (word : List ℕ) (before after : List (List ℕ)) (given : Given) → (s ≡ shape.End → ⊥) → Whole None before after → Whole (Some word) before after →
    at_shape s has word before ≡ Some given → at_shape s has word (before ++ after) ≡ option_map (given_together given) (given_by_words None after)
by_shape shape.End has word before after given ends more waits e = absurd (ends refl)
by_shape shape.Option true word before after given ends more waits e =
    onto (with_option (name_in word) (value_in word)) (given_by_words None before) (given_by_words None (before ++ after)) (given_by_words None after) given (λ g h. refl) more e
by_shape shape.Option false word before after given ends more waits e = waits given e
by_shape shape.Refused has word before after given ends more waits e = absurd cc
by_shape shape.Positional has word before after given ends more waits e =
    onto (with_positional word) (given_by_words None before) (given_by_words None (before ++ after)) (given_by_words None after) given (λ g h. refl) more e

whole : (waiting : Option (List ℕ)) (before after : List (List ℕ)) → All GoesOn before → Whole waiting before after
whole None [] after goes_on = λ given e. none_beside given (given_by_words None after) (some_is e)
whole (Some name) [] after goes_on = λ given e. absurd cc
whole None (word ∷ before) after goes_on = λ given e.
    by_shape (shape_of word) (has_value word) word before after given (All-head GoesOn word before goes_on)
    (whole None before after (All-tail GoesOn word before goes_on)) (whole (Some word) before after (All-tail GoesOn word before goes_on)) e
whole (Some name) (word ∷ before) after goes_on = λ given e.
    as_value name word (is_value word) (given_by_words None before) (given_by_words None (before ++ after)) (given_by_words None after) given (whole None before after (All-tail GoesOn word before goes_on)) e

pub in_order : ReadInOrder
in_order before after given whole_before = whole None before after whole_before.goes_on given whole_before.gives

-- behind `--`
pub end_ends : EndEndsOptions
end_ends before after given whole_before =
    whole None before ((45 ∷ 45 ∷ []) ∷ after) whole_before.goes_on given whole_before.gives
    ∙ ap (λ (os : List Choice). Some (record { options = os; positionals = given.positionals ++ after })) (append-nil given.options)
