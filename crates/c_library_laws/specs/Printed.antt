-- What `printf`, `puts` and `putchar` write, in the words of C99 7.19.
use Rattle.std.specs.Prelude.{◌≡◌, ◌≢◌, ◌≤◌, ℕ, ◌+◌, ℤ, pos, List, [], ◌∷◌, ◌++◌, length, drop, Some}
use Rattle.std.specs.FinMap.{get}
use Rattle.cbi_base.specs.declared.scalar.Kind.TheVariants.{Char, Int, Unsigned}
use Rattle.cbi_base.specs.declared.scalar.Scalar.{Scalar}
use Rattle.cbi_base.specs.declared.scalar.Scalar.TheVariants.{Number, Place}
use Rattle.cbi_base.specs.Limits.{output_limit}
use Rattle.cbi_base.specs.Objects.{Object, Objects}
use Rattle.c_meaning.specs.Output.{put_byte, put_format, put_string}
use Rattle.c_meaning.specs.World.{Go, World}
use Rattle.c_library_laws.specs.Numbers.{IsByteOf, IsSigned, IsUnsigned}

-- A string: characters up to the first null character, which ends it (C99 7.1.1p1). These are its bytes without that one.
pub data HoldString : List Scalar → List ℕ → Type 0 where
  Ended : (cells : List Scalar) → HoldString (Number Char (pos 0) ∷ cells) []
  Character : (value : ℤ) (byte : ℕ) (cells : List Scalar) (bytes : List ℕ) → value ≢ pos 0 → IsByteOf byte value → HoldString cells bytes →
      HoldString (Number Char value ∷ cells) (byte ∷ bytes)

-- the string that begins at this place of an object that lives
pub record IsStringAt (o : Objects) (number offset : ℕ) (bytes : List ℕ) : Type 0 where
  pub object : Object
  pub lives : get o.live number ≡ Some object
  pub holds : HoldString (drop offset object.cells) bytes

-- What a format writes with these arguments: ordinary characters as they are, and for each conversion what it makes of the next argument (C99 7.19.6.1p3).
-- 37 is `%`, and 100, 117, 99 and 115 are `d`, `u`, `c` and `s`.
pub data Prints (o : Objects) : (format : List ℕ) → (arguments : List Scalar) → (bytes : List ℕ) → Type 0 where
  Nothing : Prints o [] [] []
  Ordinary : (byte : ℕ) (rest : List ℕ) (arguments : List Scalar) (bytes : List ℕ) → byte ≢ 37 → Prints o rest arguments bytes →
      Prints o (byte ∷ rest) arguments (byte ∷ bytes)
  Percent : (rest : List ℕ) (arguments : List Scalar) (bytes : List ℕ) → Prints o rest arguments bytes → Prints o (37 ∷ 37 ∷ rest) arguments (37 ∷ bytes)
  Signed : (value : ℤ) (digits rest : List ℕ) (arguments : List Scalar) (bytes : List ℕ) → IsSigned digits value → Prints o rest arguments bytes →
      Prints o (37 ∷ 100 ∷ rest) (Number Int value ∷ arguments) (digits ++ bytes)
  Natural : (value : ℤ) (digits rest : List ℕ) (arguments : List Scalar) (bytes : List ℕ) → IsUnsigned digits value → Prints o rest arguments bytes →
      Prints o (37 ∷ 117 ∷ rest) (Number Unsigned value ∷ arguments) (digits ++ bytes)
  Converted : (value : ℤ) (byte : ℕ) (rest : List ℕ) (arguments : List Scalar) (bytes : List ℕ) → IsByteOf byte value → Prints o rest arguments bytes →
      Prints o (37 ∷ 99 ∷ rest) (Number Int value ∷ arguments) (byte ∷ bytes)
  Text : (number offset : ℕ) (string rest : List ℕ) (arguments : List Scalar) (bytes : List ℕ) → IsStringAt o number offset string →
      Prints o rest arguments bytes → Prints o (37 ∷ 115 ∷ rest) (Place number offset ∷ arguments) (string ++ bytes)

-- with these bytes behind what was written so far
abbrev pub with_output : World → List ℕ → World
with_output w bytes = record w { output = w.output ++ bytes }

-- there is room for them
abbrev pub HasRoom : World → List ℕ → Type 0
HasRoom w bytes = length w.output + length bytes ≤ output_limit

-- `printf` writes what its format says (7.19.6.1).
abbrev pub PrintfPrints : Type 0
PrintfPrints =
    (w : World) (format : List ℕ) (arguments : List Scalar) (bytes : List ℕ) → Prints w.objects format arguments bytes → HasRoom w bytes →
    put_format format arguments w ≡ Go tt (with_output w bytes)

-- `puts` writes the string and a new-line, and gives a number that isn't negative (7.19.7.10).
abbrev pub PutsPrints : Type 0
PutsPrints =
    (w : World) (number offset : ℕ) (string : List ℕ) → IsStringAt w.objects number offset string → HasRoom w (string ++ 10 ∷ []) →
    (given : ℕ) × (put_string (Place number offset) w ≡ Go (Number Int (pos given)) (with_output w (string ++ 10 ∷ [])))

-- `putchar` writes its argument converted to `unsigned char`, and gives that character (7.19.7.9, 7.19.7.3).
abbrev pub PutcharWrites : Type 0
PutcharWrites =
    (w : World) (value : ℤ) (byte : ℕ) → IsByteOf byte value → HasRoom w (byte ∷ []) →
    put_byte (Number Int value) w ≡ Go (Number Int (pos byte)) (with_output w (byte ∷ []))
