-- The functions of the library (C99 7.2, 7.19, 7.20): their names, and the calls that fit them.
use Rattle.std.specs.Prelude.{ℕ, Bool, true, false, ◌&&◌, ◌==◌, if◌then◌else◌, List, [], ◌∷◌, Option, Some, None, Ok, Err, codes}
use Rattle.std.specs.Str.{bytes_eq}
use Rattle.cbi_base.specs.Format.{is_percent, is_conversion}
use Rattle.c_types_rules.specs.declared.library.Library.{Library}
use Rattle.c_types_rules.specs.declared.library.Library.TheVariants as library
use Rattle.c_types_rules.specs.declared.operand.Operand.{Operand}
use Rattle.c_types_rules.specs.declared.fault.FaultKind.TheVariants as fault
use Rattle.c_types_rules.specs.TypeTree.{Void, Char, Int, Unsigned, Pointer, same_type}
use Rattle.c_types_rules.specs.Conversions.{is_arithmetic, value_of, value_type}
use Rattle.c_types_rules.specs.Faults.{OperandOrFault}
use Rattle.c_types_rules.specs.Operators.{is_scalar_value}
use Rattle.c_types_rules.specs.Functions.{typed_call}

abbrev pub library_named : List ℕ → Option Library
library_named name =
    if bytes_eq name (codes "getchar") then Some library.Getchar
    else if bytes_eq name (codes "putchar") then Some library.Putchar
    else if bytes_eq name (codes "puts") then Some library.Puts
    else if bytes_eq name (codes "malloc") then Some library.Malloc
    else if bytes_eq name (codes "free") then Some library.Free
    else if bytes_eq name (codes "exit") then Some library.Exit
    else if bytes_eq name (codes "abort") then Some library.Abort
    else if bytes_eq name (codes "assert") then Some library.Assert
    else if bytes_eq name (codes "printf") then Some library.Printf
    else None

-- `assert` takes one scalar
abbrev pub one_scalar : List Operand → Bool
one_scalar [] = false
one_scalar (x ∷ []) = is_scalar_value x
one_scalar (x ∷ y ∷ rest) = false

-- A call of a function of the library as an operand. `printf` is none.
abbrev pub library_called : Library → List Operand → OperandOrFault
library_called library.Getchar xs = typed_call (record { gives = Int; params = [] }) xs
library_called library.Putchar xs = typed_call (record { gives = Int; params = Int ∷ [] }) xs
library_called library.Puts xs = typed_call (record { gives = Int; params = Pointer Char ∷ [] }) xs
library_called library.Malloc xs = typed_call (record { gives = Pointer Void; params = Unsigned ∷ [] }) xs
library_called library.Free xs = typed_call (record { gives = Void; params = Pointer Void ∷ [] }) xs
library_called library.Exit xs = typed_call (record { gives = Void; params = Int ∷ [] }) xs
library_called library.Abort xs = typed_call (record { gives = Void; params = [] }) xs
library_called library.Assert xs = if one_scalar xs then Ok (value_of Void) else Err fault.Arguments
library_called library.Printf xs = Err fault.Arguments

-- the letter of a conversion and its argument: `%s` takes a `char *`, the others a number (C99 7.19.6.1)
abbrev pub conversion_takes : ℕ → Operand → Bool
conversion_takes letter x = if letter == 115 then same_type (value_type x) (Pointer Char) else is_arithmetic (value_type x)

abbrev pub first_converts : ℕ → List Operand → Bool
first_converts letter [] = false
first_converts letter (x ∷ xs) = conversion_takes letter x

abbrev pub after_first : List Operand → List Operand
after_first [] = []
after_first (x ∷ xs) = xs

abbrev pub are_none : List Operand → Bool
are_none [] = true
are_none (x ∷ xs) = false

-- Whether a format has just the conversions `%d %u %c %s` and `%%`, and an argument for each conversion.
abbrev mutual
  pub fits_format : List ℕ → List Operand → Bool
  fits_format [] xs = are_none xs
  fits_format (b ∷ rest) xs = if is_percent b then fits_letter rest xs else fits_format rest xs

  -- behind a `%`
  pub fits_letter : List ℕ → List Operand → Bool
  fits_letter [] xs = false
  fits_letter (b ∷ rest) xs =
      if is_percent b then fits_format rest xs else is_conversion b && first_converts b xs && fits_format rest (after_first xs)

-- a whole `printf`: the arguments behind its format fit
abbrev pub typed_printf : List ℕ → List Operand → OperandOrFault
typed_printf format xs = if fits_format format xs then Ok (value_of Int) else Err fault.Arguments
