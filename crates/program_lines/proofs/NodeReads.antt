-- The lines of nodes: reading undoes spelling, and what is read is spelled so.
use Rattle.std.proofs.Common.{◌≡◌, ◌≢◌, ◌≤◌, ℕ, ℤ, true, List, [], ◌∷◌, Option, Some, decimal, codes, FitsSigned, IsTrue, ap, sym, ◌∙◌, refl, rules, arith}
use Rattle.std.specs.Fmt.{signed_decimal}
use Rattle.std.specs.Int.{w64}
use Rattle.std.specs.List.{AllByRecursion}
use Rattle.std.proofs.lemmas.Option.{option_and_then_some}
use Rattle.base_lists.proofs.Tests.{some_choice}
use Rattle.base_lists.proofs.Options.{mapped, some_is}
use Rattle.cbi_base.proofs.FieldLemmas.{IsField-decimal, IsField-signed}
use Rattle.cbi_base.proofs.NumberLemmas.{same-word, number_of-spelled, signed_of-signed, signed_of-spelled, one_number-spelled, two_numbers-spelled, small-read}
use Rattle.cbi_base.specs.Words.{lies_in, IsField, is_word, number_of, signed_of, one_number, two_numbers, greatest_u32}
use Rattle.cbi_base.specs.declared.scalar.Kind.TheVariants.{Int}
use Rattle.flow.specs.declared.node.Node.{Node}
use Rattle.flow.specs.declared.node.Node.TheVariants.{Push, Null, Local, Global, Text, Load, Store, Move, Member, Span, Math, Order, Sole, Convert, Dup, Drop, Swap, Over, Pass, Fork, Again, Call, Return, Leave, Get, Put, Puts, Format, Alloc, Free, Exit, Abort, Check, Clear, Zero, Spell, Mark, Skip, Test, Choose, Import, Export}
use Rattle.flow.specs.Spelling.{kind_word, want_word, binary_word, order_word, unary_word, node_fields}
use Rattle.program_lines.specs.Words.{kind_of, want_of, binary_of, order_of, unary_of}
use Rattle.program_lines.specs.NodeLines.{node_of, int_of, node_without_fields, node_with_number, node_with_two_numbers, node_with_three_numbers, node_with_word, push_of, zero_of, outer_node, control_node, threefold_node, bare_node, plain_node, worded_node, paired_node, valued_node}
use Rattle.program_lines.proofs.WordLemmas.{kind_of-word, kind_of-spelled, want_of-word, want_of-spelled, binary_of-word, binary_of-spelled, order_of-word, order_of-spelled, unary_of-word, unary_of-spelled, is_field-kind, is_field-want, is_field-binary, is_field-order, is_field-unary}

-- the numbers of a node have the sizes that its fields have: 32 bits, and a signed number 64
abbrev pub IsSmall : Node → Type 0
IsSmall (Null next) = (next ≤ greatest_u32)
IsSmall (Store next) = (next ≤ greatest_u32)
IsSmall (Dup next) = (next ≤ greatest_u32)
IsSmall (Drop next) = (next ≤ greatest_u32)
IsSmall (Swap next) = (next ≤ greatest_u32)
IsSmall (Over next) = (next ≤ greatest_u32)
IsSmall (Pass next) = (next ≤ greatest_u32)
IsSmall (Again next) = (next ≤ greatest_u32)
IsSmall (Get next) = (next ≤ greatest_u32)
IsSmall (Put next) = (next ≤ greatest_u32)
IsSmall (Puts next) = (next ≤ greatest_u32)
IsSmall (Alloc next) = (next ≤ greatest_u32)
IsSmall (Free next) = (next ≤ greatest_u32)
IsSmall (Check next) = (next ≤ greatest_u32)
IsSmall (Import next) = (next ≤ greatest_u32)
IsSmall (Export next) = (next ≤ greatest_u32)
IsSmall (Local index next) = (index ≤ greatest_u32) × (next ≤ greatest_u32)
IsSmall (Global index next) = (index ≤ greatest_u32) × (next ≤ greatest_u32)
IsSmall (Text index next) = (index ≤ greatest_u32) × (next ≤ greatest_u32)
IsSmall (Member offset next) = (offset ≤ greatest_u32) × (next ≤ greatest_u32)
IsSmall (Span size next) = (size ≤ greatest_u32) × (next ≤ greatest_u32)
IsSmall (Fork when_true when_false) = (when_true ≤ greatest_u32) × (when_false ≤ greatest_u32)
IsSmall (Call function next) = (function ≤ greatest_u32) × (next ≤ greatest_u32)
IsSmall (Clear index next) = (index ≤ greatest_u32) × (next ≤ greatest_u32)
IsSmall (Mark site next) = (site ≤ greatest_u32) × (next ≤ greatest_u32)
IsSmall (Skip by next) = (by ≤ greatest_u32) × (next ≤ greatest_u32)
IsSmall (Test site next) = (site ≤ greatest_u32) × (next ≤ greatest_u32)
IsSmall (Format text count next) = (text ≤ greatest_u32) × (count ≤ greatest_u32) × (next ≤ greatest_u32)
IsSmall (Spell index text next) = (index ≤ greatest_u32) × (text ≤ greatest_u32) × (next ≤ greatest_u32)
IsSmall (Choose weight fast slow) = (weight ≤ greatest_u32) × (fast ≤ greatest_u32) × (slow ≤ greatest_u32)
IsSmall Return = Unit {0}
IsSmall Leave = Unit {0}
IsSmall Exit = Unit {0}
IsSmall Abort = Unit {0}
IsSmall (Load want next) = (next ≤ greatest_u32)
IsSmall (Math op next) = (next ≤ greatest_u32)
IsSmall (Order op next) = (next ≤ greatest_u32)
IsSmall (Sole op next) = (next ≤ greatest_u32)
IsSmall (Convert kind next) = (next ≤ greatest_u32)
IsSmall (Push kind value next) = FitsSigned w64 value × (next ≤ greatest_u32)
IsSmall (Move size next) = IsTrue (lies_in Int size) × (next ≤ greatest_u32)
IsSmall (Zero index want next) = (index ≤ greatest_u32) × (next ≤ greatest_u32)

small-field : (n : ℕ) → n ≤ greatest_u32 → IsField (decimal n)
small-field n h = IsField-decimal n (omega arith)

int-fits : (value : ℤ) → IsTrue (lies_in Int value) → FitsSigned w64 value
int-fits value h = search rules

int-read : (value : ℤ) → IsTrue (lies_in Int value) → int_of (signed_decimal value) ≡ Some value
int-read value h = rw (signed_of-signed value (int-fits value h), h) refl

int-spelled : (field : List ℕ) (value : ℤ) → int_of field ≡ Some value → field ≡ signed_decimal value
int-spelled field value h =
    option_and_then_some _ (signed_of field) value h (λ read is h.
    some_choice (lies_in Int read) _ _ value h (λ test same. (signed_of-spelled field read is).0 ∙ ap signed_decimal (some_is same)) (λ test none. absurd cc))

-- the fields of a node's line have neither space nor newline
pub are_fields-node : (n : Node) → IsSmall n → AllByRecursion IsField (node_fields n)
are_fields-node (Null next) h = (refl, (small-field next h, tt))
are_fields-node (Store next) h = (refl, (small-field next h, tt))
are_fields-node (Dup next) h = (refl, (small-field next h, tt))
are_fields-node (Drop next) h = (refl, (small-field next h, tt))
are_fields-node (Swap next) h = (refl, (small-field next h, tt))
are_fields-node (Over next) h = (refl, (small-field next h, tt))
are_fields-node (Pass next) h = (refl, (small-field next h, tt))
are_fields-node (Again next) h = (refl, (small-field next h, tt))
are_fields-node (Get next) h = (refl, (small-field next h, tt))
are_fields-node (Put next) h = (refl, (small-field next h, tt))
are_fields-node (Puts next) h = (refl, (small-field next h, tt))
are_fields-node (Alloc next) h = (refl, (small-field next h, tt))
are_fields-node (Free next) h = (refl, (small-field next h, tt))
are_fields-node (Check next) h = (refl, (small-field next h, tt))
are_fields-node (Import next) h = (refl, (small-field next h, tt))
are_fields-node (Export next) h = (refl, (small-field next h, tt))
are_fields-node (Local index next) h = (refl, (small-field index h.0, (small-field next h.1, tt)))
are_fields-node (Global index next) h = (refl, (small-field index h.0, (small-field next h.1, tt)))
are_fields-node (Text index next) h = (refl, (small-field index h.0, (small-field next h.1, tt)))
are_fields-node (Member offset next) h = (refl, (small-field offset h.0, (small-field next h.1, tt)))
are_fields-node (Span size next) h = (refl, (small-field size h.0, (small-field next h.1, tt)))
are_fields-node (Fork when_true when_false) h = (refl, (small-field when_true h.0, (small-field when_false h.1, tt)))
are_fields-node (Call function next) h = (refl, (small-field function h.0, (small-field next h.1, tt)))
are_fields-node (Clear index next) h = (refl, (small-field index h.0, (small-field next h.1, tt)))
are_fields-node (Mark site next) h = (refl, (small-field site h.0, (small-field next h.1, tt)))
are_fields-node (Skip by next) h = (refl, (small-field by h.0, (small-field next h.1, tt)))
are_fields-node (Test site next) h = (refl, (small-field site h.0, (small-field next h.1, tt)))
are_fields-node (Format text count next) h = (refl, (small-field text h.0, (small-field count h.1, (small-field next h.2, tt))))
are_fields-node (Spell index text next) h = (refl, (small-field index h.0, (small-field text h.1, (small-field next h.2, tt))))
are_fields-node (Choose weight fast slow) h = (refl, (small-field weight h.0, (small-field fast h.1, (small-field slow h.2, tt))))
are_fields-node (Load want next) h = (refl, (is_field-want want, (small-field next h, tt)))
are_fields-node (Math op next) h = (refl, (is_field-binary op, (small-field next h, tt)))
are_fields-node (Order op next) h = (refl, (is_field-order op, (small-field next h, tt)))
are_fields-node (Sole op next) h = (refl, (is_field-unary op, (small-field next h, tt)))
are_fields-node (Convert kind next) h = (refl, (is_field-kind kind, (small-field next h, tt)))
are_fields-node (Push kind value next) h = (refl, (is_field-kind kind, (IsField-signed value h.0, (small-field next h.1, tt))))
are_fields-node (Move size next) h = (refl, (IsField-signed size (int-fits size h.0), (small-field next h.1, tt)))
are_fields-node (Zero index want next) h = (refl, (small-field index h.0, (is_field-want want, (small-field next h.1, tt))))
are_fields-node n h = (refl, tt)

-- a node is read from the fields of its line
pub node_of-fields : (n : Node) → IsSmall n → node_of (node_fields n) ≡ Some n
unfolding node_of
node_of-fields (Null next) h = rw (small-read next h) refl
node_of-fields (Store next) h = rw (small-read next h) refl
node_of-fields (Dup next) h = rw (small-read next h) refl
node_of-fields (Drop next) h = rw (small-read next h) refl
node_of-fields (Swap next) h = rw (small-read next h) refl
node_of-fields (Over next) h = rw (small-read next h) refl
node_of-fields (Pass next) h = rw (small-read next h) refl
node_of-fields (Again next) h = rw (small-read next h) refl
node_of-fields (Get next) h = rw (small-read next h) refl
node_of-fields (Put next) h = rw (small-read next h) refl
node_of-fields (Puts next) h = rw (small-read next h) refl
node_of-fields (Alloc next) h = rw (small-read next h) refl
node_of-fields (Free next) h = rw (small-read next h) refl
node_of-fields (Check next) h = rw (small-read next h) refl
node_of-fields (Import next) h = rw (small-read next h) refl
node_of-fields (Export next) h = rw (small-read next h) refl
node_of-fields (Local index next) h = rw (small-read index h.0, small-read next h.1) refl
node_of-fields (Global index next) h = rw (small-read index h.0, small-read next h.1) refl
node_of-fields (Text index next) h = rw (small-read index h.0, small-read next h.1) refl
node_of-fields (Member offset next) h = rw (small-read offset h.0, small-read next h.1) refl
node_of-fields (Span size next) h = rw (small-read size h.0, small-read next h.1) refl
node_of-fields (Fork when_true when_false) h = rw (small-read when_true h.0, small-read when_false h.1) refl
node_of-fields (Call function next) h = rw (small-read function h.0, small-read next h.1) refl
node_of-fields (Clear index next) h = rw (small-read index h.0, small-read next h.1) refl
node_of-fields (Mark site next) h = rw (small-read site h.0, small-read next h.1) refl
node_of-fields (Skip by next) h = rw (small-read by h.0, small-read next h.1) refl
node_of-fields (Test site next) h = rw (small-read site h.0, small-read next h.1) refl
node_of-fields (Format text count next) h = rw (small-read text h.0, small-read count h.1, small-read next h.2) refl
node_of-fields (Spell index text next) h = rw (small-read index h.0, small-read text h.1, small-read next h.2) refl
node_of-fields (Choose weight fast slow) h = rw (small-read weight h.0, small-read fast h.1, small-read slow h.2) refl
node_of-fields (Load want next) h = rw (want_of-word want, small-read next h) refl
node_of-fields (Math op next) h = rw (binary_of-word op, small-read next h) refl
node_of-fields (Order op next) h = rw (order_of-word op, small-read next h) refl
node_of-fields (Sole op next) h = rw (unary_of-word op, small-read next h) refl
node_of-fields (Convert kind next) h = rw (kind_of-word kind, small-read next h) refl
node_of-fields (Push kind value next) h = rw (kind_of-word kind, signed_of-signed value h.0, small-read next h.1) refl
node_of-fields (Move size next) h = rw (int-read size h.0, small-read next h.1) refl
node_of-fields (Zero index want next) h = rw (small-read index h.0, want_of-word want, small-read next h.1) refl
node_of-fields n h = refl

pub node-some : (n : Node) → node_fields n ≢ []
node-some (Null next) = λ e. cc
node-some (Store next) = λ e. cc
node-some (Dup next) = λ e. cc
node-some (Drop next) = λ e. cc
node-some (Swap next) = λ e. cc
node-some (Over next) = λ e. cc
node-some (Pass next) = λ e. cc
node-some (Again next) = λ e. cc
node-some (Get next) = λ e. cc
node-some (Put next) = λ e. cc
node-some (Puts next) = λ e. cc
node-some (Alloc next) = λ e. cc
node-some (Free next) = λ e. cc
node-some (Check next) = λ e. cc
node-some (Import next) = λ e. cc
node-some (Export next) = λ e. cc
node-some (Local index next) = λ e. cc
node-some (Global index next) = λ e. cc
node-some (Text index next) = λ e. cc
node-some (Member offset next) = λ e. cc
node-some (Span size next) = λ e. cc
node-some (Fork when_true when_false) = λ e. cc
node-some (Call function next) = λ e. cc
node-some (Clear index next) = λ e. cc
node-some (Mark site next) = λ e. cc
node-some (Skip by next) = λ e. cc
node-some (Test site next) = λ e. cc
node-some (Format text count next) = λ e. cc
node-some (Spell index text next) = λ e. cc
node-some (Choose weight fast slow) = λ e. cc
node-some Return = λ e. cc
node-some Leave = λ e. cc
node-some Exit = λ e. cc
node-some Abort = λ e. cc
node-some (Load want next) = λ e. cc
node-some (Math op next) = λ e. cc
node-some (Order op next) = λ e. cc
node-some (Sole op next) = λ e. cc
node-some (Convert kind next) = λ e. cc
node-some (Push kind value next) = λ e. cc
node-some (Move size next) = λ e. cc
node-some (Zero index want next) = λ e. cc

-- A line of each kind is spelled so.
bare-spelled : (word : List ℕ) (made : Node) (fields : List (List ℕ)) (n : Node) → node_fields made ≡ word ∷ [] → node_without_fields made fields ≡ Some n → word ∷ fields ≡ node_fields n
bare-spelled word made [] n spelled h = sym spelled ∙ ap node_fields (some_is h)
bare-spelled word made (field ∷ more) n spelled h = absurd cc

plain-spelled : (word : List ℕ) (make : ℕ → Node) (fields : List (List ℕ)) (n : Node) → ((k : ℕ) → node_fields (make k) ≡ word ∷ decimal k ∷ []) → node_with_number make fields ≡ Some n → word ∷ fields ≡ node_fields n
plain-spelled word make fields n spelled h =
    mapped make (one_number fields) n h (λ k is same. ap (λ fs. word ∷ fs) (one_number-spelled fields k is) ∙ sym (spelled k) ∙ ap node_fields same)

pair-spelled : (word : List ℕ) (make : ℕ → ℕ → Node) (fields : List (List ℕ)) (n : Node) → ((i j : ℕ) → node_fields (make i j) ≡ word ∷ decimal i ∷ decimal j ∷ []) → node_with_two_numbers make fields ≡ Some n → word ∷ fields ≡ node_fields n
pair-spelled word make fields n spelled h =
    mapped (λ (pair : ℕ × ℕ). make pair.0 pair.1) (two_numbers fields) n h (λ pair is same.
    ap (λ fs. word ∷ fs) (two_numbers-spelled fields pair is) ∙ sym (spelled pair.0 pair.1) ∙ ap node_fields same)

threefold-spelled : (word : List ℕ) (make : ℕ → ℕ → ℕ → Node) (fields : List (List ℕ)) (n : Node) → ((i j k : ℕ) → node_fields (make i j k) ≡ word ∷ decimal i ∷ decimal j ∷ decimal k ∷ []) → node_with_three_numbers make fields ≡ Some n → word ∷ fields ≡ node_fields n
threefold-spelled word make [] n spelled h = absurd cc
threefold-spelled word make (field ∷ rest) n spelled h =
    option_and_then_some _ (number_of greatest_u32 field) n h (λ first is_first h.
    mapped (λ (pair : ℕ × ℕ). make first pair.0 pair.1) (two_numbers rest) n h (λ pair is same.
    ap (λ f. word ∷ f ∷ rest) (number_of-spelled greatest_u32 field first is_first).0 ∙ ap (λ fs. word ∷ decimal first ∷ fs) (two_numbers-spelled rest pair is)
    ∙ sym (spelled first pair.0 pair.1) ∙ ap node_fields same))

word-spelled : {A : Type 0} (word : List ℕ) (read : List ℕ → Option A) (word_of : A → List ℕ) (make : A → ℕ → Node) (fields : List (List ℕ)) (n : Node) → ((field : List ℕ) (a : A) → read field ≡ Some a → field ≡ word_of a) → ((a : A) (k : ℕ) → node_fields (make a k) ≡ word ∷ word_of a ∷ decimal k ∷ []) → node_with_word read make fields ≡ Some n → word ∷ fields ≡ node_fields n
word-spelled word read word_of make [] n reads spelled h = absurd cc
word-spelled word read word_of make (field ∷ rest) n reads spelled h =
    option_and_then_some _ (read field) n h (λ a is_a h.
    mapped (make a) (one_number rest) n h (λ next is_next same.
    ap (λ f. word ∷ f ∷ rest) (reads field a is_a) ∙ ap (λ fs. word ∷ word_of a ∷ fs) (one_number-spelled rest next is_next)
    ∙ sym (spelled a next) ∙ ap node_fields same))

push-spelled : (fields : List (List ℕ)) (n : Node) → push_of fields ≡ Some n → codes "push" ∷ fields ≡ node_fields n
push-spelled [] n h = absurd cc
push-spelled (kind ∷ []) n h = absurd cc
push-spelled (kind ∷ value ∷ rest) n h =
    option_and_then_some _ (kind_of kind) n h (λ k is_kind h.
    option_and_then_some _ (signed_of value) n h (λ v is_value h.
    mapped (Push k v) (one_number rest) n h (λ next is_next same.
    ap (λ f. codes "push" ∷ f ∷ value ∷ rest) (kind_of-spelled kind k is_kind)
    ∙ ap (λ f. codes "push" ∷ kind_word k ∷ f ∷ rest) (signed_of-spelled value v is_value).0
    ∙ ap (λ fs. codes "push" ∷ kind_word k ∷ signed_decimal v ∷ fs) (one_number-spelled rest next is_next)
    ∙ ap node_fields same)))

zero-spelled : (fields : List (List ℕ)) (n : Node) → zero_of fields ≡ Some n → codes "zero" ∷ fields ≡ node_fields n
zero-spelled [] n h = absurd cc
zero-spelled (index ∷ []) n h = absurd cc
zero-spelled (index ∷ want ∷ rest) n h =
    option_and_then_some _ (number_of greatest_u32 index) n h (λ i is_index h.
    option_and_then_some _ (want_of want) n h (λ w is_want h.
    mapped (Zero i w) (one_number rest) n h (λ next is_next same.
    ap (λ f. codes "zero" ∷ f ∷ want ∷ rest) (number_of-spelled greatest_u32 index i is_index).0
    ∙ ap (λ f. codes "zero" ∷ decimal i ∷ f ∷ rest) (want_of-spelled want w is_want)
    ∙ ap (λ fs. codes "zero" ∷ decimal i ∷ want_word w ∷ fs) (one_number-spelled rest next is_next)
    ∙ ap node_fields same)))

-- what is read as a node is spelled so
with-word : (word known : List ℕ) (fields : List (List ℕ)) (n : Node) → is_word word known ≡ true → known ∷ fields ≡ node_fields n → word ∷ fields ≡ node_fields n
with-word word known fields n test h = ap (λ w. w ∷ fields) (same-word word known test) ∙ h

outer_node-spelled : (word : List ℕ) (fields : List (List ℕ)) (n : Node) → outer_node word fields ≡ Some n → word ∷ fields ≡ node_fields n
outer_node-spelled word fields n h =
    some_choice (is_word word (codes "get")) _ _ n h (λ test is. with-word word _ fields n test (plain-spelled (codes "get") Get fields n (λ _. refl) is)) (λ _ h.
    some_choice (is_word word (codes "put")) _ _ n h (λ test is. with-word word _ fields n test (plain-spelled (codes "put") Put fields n (λ _. refl) is)) (λ _ h.
    some_choice (is_word word (codes "puts")) _ _ n h (λ test is. with-word word _ fields n test (plain-spelled (codes "puts") Puts fields n (λ _. refl) is)) (λ _ h.
    some_choice (is_word word (codes "alloc")) _ _ n h (λ test is. with-word word _ fields n test (plain-spelled (codes "alloc") Alloc fields n (λ _. refl) is)) (λ _ h.
    some_choice (is_word word (codes "free")) _ _ n h (λ test is. with-word word _ fields n test (plain-spelled (codes "free") Free fields n (λ _. refl) is)) (λ _ h.
    some_choice (is_word word (codes "check")) _ _ n h (λ test is. with-word word _ fields n test (plain-spelled (codes "check") Check fields n (λ _. refl) is)) (λ _ h.
    some_choice (is_word word (codes "import")) _ _ n h (λ test is. with-word word _ fields n test (plain-spelled (codes "import") Import fields n (λ _. refl) is)) (λ _ h.
    some_choice (is_word word (codes "export")) _ _ n h (λ test is. with-word word _ fields n test (plain-spelled (codes "export") Export fields n (λ _. refl) is)) (λ _ h. absurd cc))))))))

control_node-spelled : (word : List ℕ) (fields : List (List ℕ)) (n : Node) → control_node word fields ≡ Some n → word ∷ fields ≡ node_fields n
control_node-spelled word fields n h =
    some_choice (is_word word (codes "call")) _ _ n h (λ test is. with-word word _ fields n test (pair-spelled (codes "call") Call fields n (λ _ _. refl) is)) (λ _ h.
    some_choice (is_word word (codes "clear")) _ _ n h (λ test is. with-word word _ fields n test (pair-spelled (codes "clear") Clear fields n (λ _ _. refl) is)) (λ _ h.
    some_choice (is_word word (codes "mark")) _ _ n h (λ test is. with-word word _ fields n test (pair-spelled (codes "mark") Mark fields n (λ _ _. refl) is)) (λ _ h.
    some_choice (is_word word (codes "skip")) _ _ n h (λ test is. with-word word _ fields n test (pair-spelled (codes "skip") Skip fields n (λ _ _. refl) is)) (λ _ h.
    some_choice (is_word word (codes "test")) _ _ n h (λ test is. with-word word _ fields n test (pair-spelled (codes "test") Test fields n (λ _ _. refl) is)) (λ _ h. outer_node-spelled word fields n h)))))

threefold_node-spelled : (word : List ℕ) (fields : List (List ℕ)) (n : Node) → threefold_node word fields ≡ Some n → word ∷ fields ≡ node_fields n
threefold_node-spelled word fields n h =
    some_choice (is_word word (codes "format")) _ _ n h (λ test is. with-word word _ fields n test (threefold-spelled (codes "format") Format fields n (λ _ _ _. refl) is)) (λ _ h.
    some_choice (is_word word (codes "spell")) _ _ n h (λ test is. with-word word _ fields n test (threefold-spelled (codes "spell") Spell fields n (λ _ _ _. refl) is)) (λ _ h.
    some_choice (is_word word (codes "choose")) _ _ n h (λ test is. with-word word _ fields n test (threefold-spelled (codes "choose") Choose fields n (λ _ _ _. refl) is)) (λ _ h. control_node-spelled word fields n h)))

bare_node-spelled : (word : List ℕ) (fields : List (List ℕ)) (n : Node) → bare_node word fields ≡ Some n → word ∷ fields ≡ node_fields n
bare_node-spelled word fields n h =
    some_choice (is_word word (codes "return")) _ _ n h (λ test is. with-word word _ fields n test (bare-spelled (codes "return") Return fields n refl is)) (λ _ h.
    some_choice (is_word word (codes "leave")) _ _ n h (λ test is. with-word word _ fields n test (bare-spelled (codes "leave") Leave fields n refl is)) (λ _ h.
    some_choice (is_word word (codes "exit")) _ _ n h (λ test is. with-word word _ fields n test (bare-spelled (codes "exit") Exit fields n refl is)) (λ _ h.
    some_choice (is_word word (codes "abort")) _ _ n h (λ test is. with-word word _ fields n test (bare-spelled (codes "abort") Abort fields n refl is)) (λ _ h. threefold_node-spelled word fields n h))))

plain_node-spelled : (word : List ℕ) (fields : List (List ℕ)) (n : Node) → plain_node word fields ≡ Some n → word ∷ fields ≡ node_fields n
plain_node-spelled word fields n h =
    some_choice (is_word word (codes "null")) _ _ n h (λ test is. with-word word _ fields n test (plain-spelled (codes "null") Null fields n (λ _. refl) is)) (λ _ h.
    some_choice (is_word word (codes "store")) _ _ n h (λ test is. with-word word _ fields n test (plain-spelled (codes "store") Store fields n (λ _. refl) is)) (λ _ h.
    some_choice (is_word word (codes "dup")) _ _ n h (λ test is. with-word word _ fields n test (plain-spelled (codes "dup") Dup fields n (λ _. refl) is)) (λ _ h.
    some_choice (is_word word (codes "drop")) _ _ n h (λ test is. with-word word _ fields n test (plain-spelled (codes "drop") Drop fields n (λ _. refl) is)) (λ _ h.
    some_choice (is_word word (codes "swap")) _ _ n h (λ test is. with-word word _ fields n test (plain-spelled (codes "swap") Swap fields n (λ _. refl) is)) (λ _ h.
    some_choice (is_word word (codes "over")) _ _ n h (λ test is. with-word word _ fields n test (plain-spelled (codes "over") Over fields n (λ _. refl) is)) (λ _ h.
    some_choice (is_word word (codes "pass")) _ _ n h (λ test is. with-word word _ fields n test (plain-spelled (codes "pass") Pass fields n (λ _. refl) is)) (λ _ h.
    some_choice (is_word word (codes "again")) _ _ n h (λ test is. with-word word _ fields n test (plain-spelled (codes "again") Again fields n (λ _. refl) is)) (λ _ h. bare_node-spelled word fields n h))))))))

worded_node-spelled : (word : List ℕ) (fields : List (List ℕ)) (n : Node) → worded_node word fields ≡ Some n → word ∷ fields ≡ node_fields n
worded_node-spelled word fields n h =
    some_choice (is_word word (codes "load")) _ _ n h (λ test is. with-word word _ fields n test (word-spelled (codes "load") want_of want_word Load fields n want_of-spelled (λ _ _. refl) is)) (λ _ h.
    some_choice (is_word word (codes "math")) _ _ n h (λ test is. with-word word _ fields n test (word-spelled (codes "math") binary_of binary_word Math fields n binary_of-spelled (λ _ _. refl) is)) (λ _ h.
    some_choice (is_word word (codes "order")) _ _ n h (λ test is. with-word word _ fields n test (word-spelled (codes "order") order_of order_word Order fields n order_of-spelled (λ _ _. refl) is)) (λ _ h.
    some_choice (is_word word (codes "sole")) _ _ n h (λ test is. with-word word _ fields n test (word-spelled (codes "sole") unary_of unary_word Sole fields n unary_of-spelled (λ _ _. refl) is)) (λ _ h.
    some_choice (is_word word (codes "convert")) _ _ n h (λ test is. with-word word _ fields n test (word-spelled (codes "convert") kind_of kind_word Convert fields n kind_of-spelled (λ _ _. refl) is)) (λ _ h. plain_node-spelled word fields n h)))))

paired_node-spelled : (word : List ℕ) (fields : List (List ℕ)) (n : Node) → paired_node word fields ≡ Some n → word ∷ fields ≡ node_fields n
paired_node-spelled word fields n h =
    some_choice (is_word word (codes "local")) _ _ n h (λ test is. with-word word _ fields n test (pair-spelled (codes "local") Local fields n (λ _ _. refl) is)) (λ _ h.
    some_choice (is_word word (codes "global")) _ _ n h (λ test is. with-word word _ fields n test (pair-spelled (codes "global") Global fields n (λ _ _. refl) is)) (λ _ h.
    some_choice (is_word word (codes "text")) _ _ n h (λ test is. with-word word _ fields n test (pair-spelled (codes "text") Text fields n (λ _ _. refl) is)) (λ _ h.
    some_choice (is_word word (codes "member")) _ _ n h (λ test is. with-word word _ fields n test (pair-spelled (codes "member") Member fields n (λ _ _. refl) is)) (λ _ h.
    some_choice (is_word word (codes "span")) _ _ n h (λ test is. with-word word _ fields n test (pair-spelled (codes "span") Span fields n (λ _ _. refl) is)) (λ _ h.
    some_choice (is_word word (codes "fork")) _ _ n h (λ test is. with-word word _ fields n test (pair-spelled (codes "fork") Fork fields n (λ _ _. refl) is)) (λ _ h. worded_node-spelled word fields n h))))))

valued_node-spelled : (word : List ℕ) (fields : List (List ℕ)) (n : Node) → valued_node word fields ≡ Some n → word ∷ fields ≡ node_fields n
valued_node-spelled word fields n h =
    some_choice (is_word word (codes "push")) _ _ n h (λ test is. with-word word _ fields n test (push-spelled fields n is)) (λ _ h.
    some_choice (is_word word (codes "move")) _ _ n h (λ test is. with-word word _ fields n test (word-spelled (codes "move") int_of signed_decimal Move fields n int-spelled (λ _ _. refl) is)) (λ _ h.
    some_choice (is_word word (codes "zero")) _ _ n h (λ test is. with-word word _ fields n test (zero-spelled fields n is)) (λ _ h. paired_node-spelled word fields n h)))

pub node_of-spelled : (fields : List (List ℕ)) (n : Node) → node_of fields ≡ Some n → fields ≡ node_fields n
unfolding node_of
node_of-spelled [] n h = absurd cc
node_of-spelled (word ∷ fields) n h = valued_node-spelled word fields n h
