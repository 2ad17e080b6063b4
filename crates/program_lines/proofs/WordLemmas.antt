-- The words of a program file: reading undoes spelling, and what is read is spelled so.
use Rattle.std.proofs.Common.{◌≡◌, ℕ, Bool, true, false, List, Some, codes, ap, ◌∙◌, refl}
use Rattle.base_lists.proofs.Tests.{some_choice}
use Rattle.base_lists.proofs.Options.{mapped, some_is}
use Rattle.cbi_base.proofs.NumberLemmas.{same-word}
use Rattle.cbi_base.specs.Words.{is_word, IsField}
use Rattle.cbi_base.specs.declared.scalar.Kind.{Kind}
use Rattle.cbi_base.specs.declared.scalar.Kind.TheVariants.{Char, Int, Unsigned}
use Rattle.cbi_base.specs.declared.scalar.Want.{Want}
use Rattle.cbi_base.specs.declared.scalar.Want.TheVariants.{Number, Pointer}
use Rattle.cbi_base.specs.declared.operators.Binary.{Binary}
use Rattle.cbi_base.specs.declared.operators.Binary.TheVariants.{Add, Sub, Mul, Div, Rem, Shl, Shr, And, Or, Xor, Lt, Le, Gt, Ge, Eq, Ne}
use Rattle.cbi_base.specs.declared.operators.Order.{Order}
use Rattle.cbi_base.specs.declared.operators.Order.TheVariants as order
use Rattle.cbi_base.specs.declared.operators.Unary.{Unary}
use Rattle.cbi_base.specs.declared.operators.Unary.TheVariants.{Neg, Com, Not}
use Rattle.flow.specs.Spelling.{kind_word, want_word, binary_word, order_word, unary_word, result_word}
use Rattle.program_lines.specs.Words.{kind_of, want_of, binary_of, bitwise_of, comparison_of, order_of, unary_of, result_of}

pub kind_of-word : (kind : Kind) → kind_of (kind_word kind) ≡ Some kind
unfolding kind_of
kind_of-word Char = refl
kind_of-word Int = refl
kind_of-word Unsigned = refl

pub kind_of-spelled : (field : List ℕ) (kind : Kind) → kind_of field ≡ Some kind → field ≡ kind_word kind
unfolding kind_of
kind_of-spelled field kind h =
    some_choice _ _ _ kind h (λ test is. let e : Char ≡ kind = cc in same-word _ _ test ∙ ap kind_word e) (λ _ h.
    some_choice _ _ _ kind h (λ test is. let e : Int ≡ kind = cc in same-word _ _ test ∙ ap kind_word e) (λ _ h.
    some_choice _ _ _ kind h (λ test is. let e : Unsigned ≡ kind = cc in same-word _ _ test ∙ ap kind_word e) (λ _ h. absurd cc)))

pub is_field-kind : (kind : Kind) → IsField (kind_word kind)
is_field-kind Char = refl
is_field-kind Int = refl
is_field-kind Unsigned = refl

pub is_field-want : (want : Want) → IsField (want_word want)
is_field-want (Number kind) = is_field-kind kind
is_field-want Pointer = refl

pub is_field-binary : (op : Binary) → IsField (binary_word op)
is_field-binary Add = refl
is_field-binary Sub = refl
is_field-binary Mul = refl
is_field-binary Div = refl
is_field-binary Rem = refl
is_field-binary Shl = refl
is_field-binary Shr = refl
is_field-binary And = refl
is_field-binary Or = refl
is_field-binary Xor = refl
is_field-binary Lt = refl
is_field-binary Le = refl
is_field-binary Gt = refl
is_field-binary Ge = refl
is_field-binary Eq = refl
is_field-binary Ne = refl

pub is_field-unary : (op : Unary) → IsField (unary_word op)
is_field-unary Neg = refl
is_field-unary Com = refl
is_field-unary Not = refl

pub want_of-word : (want : Want) → want_of (want_word want) ≡ Some want
unfolding want_of kind_of
want_of-word (Number Char) = refl
want_of-word (Number Int) = refl
want_of-word (Number Unsigned) = refl
want_of-word Pointer = refl

pub want_of-spelled : (field : List ℕ) (want : Want) → want_of field ≡ Some want → field ≡ want_word want
unfolding want_of
want_of-spelled field want h =
    some_choice (is_word field (codes "p")) _ _ want h (λ test is. same-word field _ test ∙ ap want_word (some_is is)) (λ _ h.
    mapped Number (kind_of field) want h (λ kind is same. kind_of-spelled field kind is ∙ ap want_word same))

pub binary_of-word : (op : Binary) → binary_of (binary_word op) ≡ Some op
unfolding binary_of
binary_of-word Add = refl
binary_of-word Sub = refl
binary_of-word Mul = refl
binary_of-word Div = refl
binary_of-word Rem = refl
binary_of-word Shl = refl
binary_of-word Shr = refl
binary_of-word And = refl
binary_of-word Or = refl
binary_of-word Xor = refl
binary_of-word Lt = refl
binary_of-word Le = refl
binary_of-word Gt = refl
binary_of-word Ge = refl
binary_of-word Eq = refl
binary_of-word Ne = refl

-- a word that was some_choice is the field
word-chosen : {A : Type 0} (word_of : A → List ℕ) (field : List ℕ) (a b : A) → is_word field (word_of a) ≡ true → Some a ≡ Some b → field ≡ word_of b
word-chosen word_of field a b test is = same-word field (word_of a) test ∙ ap word_of (some_is is)

comparison_of-spelled : (field : List ℕ) (op : Binary) → comparison_of field ≡ Some op → field ≡ binary_word op
comparison_of-spelled field op h =
    some_choice (is_word field (codes "lt")) _ _ op h (word-chosen binary_word field Lt op) (λ _ h.
    some_choice (is_word field (codes "le")) _ _ op h (word-chosen binary_word field Le op) (λ _ h.
    some_choice (is_word field (codes "gt")) _ _ op h (word-chosen binary_word field Gt op) (λ _ h.
    some_choice (is_word field (codes "ge")) _ _ op h (word-chosen binary_word field Ge op) (λ _ h.
    some_choice (is_word field (codes "eq")) _ _ op h (word-chosen binary_word field Eq op) (λ _ h.
    some_choice (is_word field (codes "ne")) _ _ op h (word-chosen binary_word field Ne op) (λ _ h. absurd cc))))))

bitwise_of-spelled : (field : List ℕ) (op : Binary) → bitwise_of field ≡ Some op → field ≡ binary_word op
bitwise_of-spelled field op h =
    some_choice (is_word field (codes "shl")) _ _ op h (word-chosen binary_word field Shl op) (λ _ h.
    some_choice (is_word field (codes "shr")) _ _ op h (word-chosen binary_word field Shr op) (λ _ h.
    some_choice (is_word field (codes "and")) _ _ op h (word-chosen binary_word field And op) (λ _ h.
    some_choice (is_word field (codes "or")) _ _ op h (word-chosen binary_word field Or op) (λ _ h.
    some_choice (is_word field (codes "xor")) _ _ op h (word-chosen binary_word field Xor op) (λ _ h. comparison_of-spelled field op h)))))

pub binary_of-spelled : (field : List ℕ) (op : Binary) → binary_of field ≡ Some op → field ≡ binary_word op
unfolding binary_of
binary_of-spelled field op h =
    some_choice (is_word field (codes "add")) _ _ op h (word-chosen binary_word field Add op) (λ _ h.
    some_choice (is_word field (codes "sub")) _ _ op h (word-chosen binary_word field Sub op) (λ _ h.
    some_choice (is_word field (codes "mul")) _ _ op h (word-chosen binary_word field Mul op) (λ _ h.
    some_choice (is_word field (codes "div")) _ _ op h (word-chosen binary_word field Div op) (λ _ h.
    some_choice (is_word field (codes "rem")) _ _ op h (word-chosen binary_word field Rem op) (λ _ h. bitwise_of-spelled field op h)))))

pub unary_of-word : (op : Unary) → unary_of (unary_word op) ≡ Some op
unfolding unary_of
unary_of-word Neg = refl
unary_of-word Com = refl
unary_of-word Not = refl

pub unary_of-spelled : (field : List ℕ) (op : Unary) → unary_of field ≡ Some op → field ≡ unary_word op
unfolding unary_of
unary_of-spelled field op h =
    some_choice (is_word field (codes "neg")) _ _ op h (word-chosen unary_word field Neg op) (λ _ h.
    some_choice (is_word field (codes "com")) _ _ op h (word-chosen unary_word field Com op) (λ _ h.
    some_choice (is_word field (codes "not")) _ _ op h (word-chosen unary_word field Not op) (λ _ h. absurd cc)))

pub is_field-order : (op : Order) → IsField (order_word op)
is_field-order order.Lt = refl
is_field-order order.Le = refl
is_field-order order.Gt = refl
is_field-order order.Ge = refl
is_field-order order.Eq = refl
is_field-order order.Ne = refl

pub order_of-word : (op : Order) → order_of (order_word op) ≡ Some op
unfolding order_of
order_of-word order.Lt = refl
order_of-word order.Le = refl
order_of-word order.Gt = refl
order_of-word order.Ge = refl
order_of-word order.Eq = refl
order_of-word order.Ne = refl

pub order_of-spelled : (field : List ℕ) (op : Order) → order_of field ≡ Some op → field ≡ order_word op
unfolding order_of
order_of-spelled field op h =
    some_choice (is_word field (codes "lt")) _ _ op h (word-chosen order_word field order.Lt op) (λ _ h.
    some_choice (is_word field (codes "le")) _ _ op h (word-chosen order_word field order.Le op) (λ _ h.
    some_choice (is_word field (codes "gt")) _ _ op h (word-chosen order_word field order.Gt op) (λ _ h.
    some_choice (is_word field (codes "ge")) _ _ op h (word-chosen order_word field order.Ge op) (λ _ h.
    some_choice (is_word field (codes "eq")) _ _ op h (word-chosen order_word field order.Eq op) (λ _ h.
    some_choice (is_word field (codes "ne")) _ _ op h (word-chosen order_word field order.Ne op) (λ _ h. absurd cc))))))

pub is_field-result : (value : Bool) → IsField (result_word value)
is_field-result true = refl
is_field-result false = refl

pub result_of-word : (value : Bool) → result_of (result_word value) ≡ Some value
unfolding result_of
result_of-word true = refl
result_of-word false = refl

pub result_of-spelled : (field : List ℕ) (value : Bool) → result_of field ≡ Some value → field ≡ result_word value
unfolding result_of
result_of-spelled field value h =
    some_choice (is_word field (codes "value")) _ _ value h (word-chosen result_word field true value) (λ _ h.
    some_choice (is_word field (codes "void")) _ _ value h (word-chosen result_word field false value) (λ _ h. absurd cc))
