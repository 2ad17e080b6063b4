-- The identity of a program: 32 bytes, spelled by 64 hexadecimal digits, whose letters are lower case.
use Rattle.std.specs.Prelude.{◌≡◌, ℕ, Bool, ◌||◌, ◌&&◌, nat_le, List, length, IsTrue}
use Rattle.std.specs.List.{list_all}
use Rattle.hex.specs.Hex.{IsBytes, encode_lower}
use Rattle.cbi_base.specs.declared.identity.ProgramId.{ProgramId}

-- a digit, or a letter from `a` to `f`
abbrev pub is_lower_digit : ℕ → Bool
is_lower_digit b = (nat_le 48 b && nat_le b 57) || (nat_le 97 b && nat_le b 102)

pub record IsIdText (text : List ℕ) : Type 0 where
  pub long : length text ≡ 64
  pub digits : IsTrue (list_all is_lower_digit text)

-- what the type of an identity says of it
pub record IsId (id : ProgramId) : Type 0 where
  pub long : length id.bytes ≡ 32
  pub are_bytes : IsBytes id.bytes

-- the text of an identity: two digits a byte, the high one first
abbrev pub text_of_id : ProgramId → List ℕ
text_of_id id = encode_lower id.bytes
