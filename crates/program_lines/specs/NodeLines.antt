-- What the fields of a node's line are read as, by a plain body. A field that is a number has 32 bits.
use Rattle.std.specs.Prelude.{ℕ, if◌then◌else◌, List, [], ◌∷◌, Option, None, Some, codes}
use Rattle.std.specs.Option.{option_map}
use Rattle.cbi_base.specs.Words.{is_word, number_of, one_number, two_numbers, greatest_u32}
use Rattle.cbi_base.specs.Numbers.{◌>>=◌}
use Rattle.flow.specs.declared.node.Node.{Node}
use Rattle.flow.specs.declared.node.Node.TheVariants.{Null, Local, Global, Text, Load, Store, Move, Member, Span, Math, Order, Sole, Convert, Dup}
use Rattle.flow.specs.declared.node.Node.TheVariants.{Drop, Swap, Over, Pass, Fork, Again, Call, Return, Leave, Get, Put, Puts, Format, Alloc, Free, Exit}
use Rattle.flow.specs.declared.node.Node.TheVariants.{Abort, Check, Clear, Zero, Spell, Mark, Skip, Test, Choose, Import, Export}
use Rattle.program_lines.specs.Words.{kind_of, want_of, binary_of, order_of, unary_of}
pub use Rattle.value_lines.specs.ValueLines.{int_of, node_with_word, push_of}

-- no field, one or two numbers, or three
abbrev pub node_without_fields : Node → List (List ℕ) → Option Node
node_without_fields node [] = Some node
node_without_fields node (field ∷ more) = None

abbrev pub node_with_number : (ℕ → Node) → List (List ℕ) → Option Node
node_with_number make fields = option_map make (one_number fields)

abbrev pub node_with_two_numbers : (ℕ → ℕ → Node) → List (List ℕ) → Option Node
node_with_two_numbers make fields = option_map (λ pair. make pair.0 pair.1) (two_numbers fields)

abbrev pub node_with_three_numbers : (ℕ → ℕ → ℕ → Node) → List (List ℕ) → Option Node
node_with_three_numbers make [] = None
node_with_three_numbers make (field ∷ rest) = number_of greatest_u32 field >>= λ first. option_map (λ pair. make first pair.0 pair.1) (two_numbers rest)

-- the fields after `zero`: a local, what its cells hold, and the successor
abbrev pub zero_of : List (List ℕ) → Option Node
zero_of [] = None
zero_of (index ∷ []) = None
zero_of (index ∷ want ∷ rest) = number_of greatest_u32 index >>= λ i. want_of want >>= λ w. option_map (Zero i w) (one_number rest)

-- the node with this word and these fields after it, by kinds of lines
abbrev pub outer_node : List ℕ → List (List ℕ) → Option Node
outer_node word fields =
    if is_word word (codes "get") then node_with_number Get fields else
    (if is_word word (codes "put") then node_with_number Put fields else
    (if is_word word (codes "puts") then node_with_number Puts fields else
    (if is_word word (codes "alloc") then node_with_number Alloc fields else
    (if is_word word (codes "free") then node_with_number Free fields else
    (if is_word word (codes "check") then node_with_number Check fields else
    (if is_word word (codes "import") then node_with_number Import fields else
    (if is_word word (codes "export") then node_with_number Export fields else None)))))))

abbrev pub control_node : List ℕ → List (List ℕ) → Option Node
control_node word fields =
    if is_word word (codes "call") then node_with_two_numbers Call fields else
    (if is_word word (codes "clear") then node_with_two_numbers Clear fields else
    (if is_word word (codes "mark") then node_with_two_numbers Mark fields else
    (if is_word word (codes "skip") then node_with_two_numbers Skip fields else
    (if is_word word (codes "test") then node_with_two_numbers Test fields else outer_node word fields))))

abbrev pub threefold_node : List ℕ → List (List ℕ) → Option Node
threefold_node word fields =
    if is_word word (codes "format") then node_with_three_numbers Format fields else
    (if is_word word (codes "spell") then node_with_three_numbers Spell fields else
    (if is_word word (codes "choose") then node_with_three_numbers Choose fields else control_node word fields))

abbrev pub bare_node : List ℕ → List (List ℕ) → Option Node
bare_node word fields =
    if is_word word (codes "return") then node_without_fields Return fields else
    (if is_word word (codes "leave") then node_without_fields Leave fields else
    (if is_word word (codes "exit") then node_without_fields Exit fields else
    (if is_word word (codes "abort") then node_without_fields Abort fields else threefold_node word fields)))

abbrev pub plain_node : List ℕ → List (List ℕ) → Option Node
plain_node word fields =
    if is_word word (codes "null") then node_with_number Null fields else
    (if is_word word (codes "store") then node_with_number Store fields else
    (if is_word word (codes "dup") then node_with_number Dup fields else
    (if is_word word (codes "drop") then node_with_number Drop fields else
    (if is_word word (codes "swap") then node_with_number Swap fields else
    (if is_word word (codes "over") then node_with_number Over fields else
    (if is_word word (codes "pass") then node_with_number Pass fields else
    (if is_word word (codes "again") then node_with_number Again fields else bare_node word fields)))))))

abbrev pub worded_node : List ℕ → List (List ℕ) → Option Node
worded_node word fields =
    if is_word word (codes "load") then node_with_word want_of Load fields else
    (if is_word word (codes "math") then node_with_word binary_of Math fields else
    (if is_word word (codes "order") then node_with_word order_of Order fields else
    (if is_word word (codes "sole") then node_with_word unary_of Sole fields else
    (if is_word word (codes "convert") then node_with_word kind_of Convert fields else plain_node word fields))))

abbrev pub paired_node : List ℕ → List (List ℕ) → Option Node
paired_node word fields =
    if is_word word (codes "local") then node_with_two_numbers Local fields else
    (if is_word word (codes "global") then node_with_two_numbers Global fields else
    (if is_word word (codes "text") then node_with_two_numbers Text fields else
    (if is_word word (codes "member") then node_with_two_numbers Member fields else
    (if is_word word (codes "span") then node_with_two_numbers Span fields else
    (if is_word word (codes "fork") then node_with_two_numbers Fork fields else worded_node word fields)))))

abbrev pub valued_node : List ℕ → List (List ℕ) → Option Node
valued_node word fields =
    if is_word word (codes "push") then push_of fields else
    (if is_word word (codes "move") then node_with_word int_of Move fields else
    (if is_word word (codes "zero") then zero_of fields else paired_node word fields))

unfoldable pub node_of : List (List ℕ) → Option Node
node_of [] = None
node_of (word ∷ fields) = valued_node word fields
