-- What the fields of a node's line are read as where one is a signed number, by a plain body.
use Rattle.std.specs.Prelude.{ℕ, if◌then◌else◌, ℤ, List, [], ◌∷◌, Option, None, Some, codes}
use Rattle.std.specs.Option.{option_map}
use Rattle.cbi_base.specs.Words.{is_word, signed_of, one_number, lies_in}
use Rattle.cbi_base.specs.Numbers.{◌>>=◌}
use Rattle.cbi_base.specs.declared.scalar.Kind.{Kind}
use Rattle.cbi_base.specs.declared.scalar.Kind.TheVariants.{Char, Int, Unsigned}
use Rattle.flow.specs.declared.node.Node.{Node}
use Rattle.flow.specs.declared.node.Node.TheVariants.{Push}

-- the kind with this letter
unfoldable pub kind_of : List ℕ → Option Kind
kind_of field =
    if is_word field (codes "c")
    then Some Char
    else (if is_word field (codes "i") then Some Int else (if is_word field (codes "u") then Some Unsigned else None))

-- the number of an `int` whose decimal the field is
abbrev pub int_of : List ℕ → Option ℤ
int_of field = signed_of field >>= λ value. if lies_in Int value then Some value else None

-- a word, and the number of the successor
abbrev pub node_with_word : {A : Type 0} → (List ℕ → Option A) → (A → ℕ → Node) → List (List ℕ) → Option Node
node_with_word read make [] = None
node_with_word read make (field ∷ rest) = read field >>= λ a. option_map (make a) (one_number rest)

-- the fields after `push`: a kind, a value and the successor
abbrev pub push_of : List (List ℕ) → Option Node
push_of [] = None
push_of (kind ∷ []) = None
push_of (kind ∷ value ∷ rest) = kind_of kind >>= λ k. signed_of value >>= λ v. option_map (Push k v) (one_number rest)
