-- What is printed piece by piece is what the format says.
use Rattle.std.specs.Prelude.{if◌then◌else◌}
use Rattle.std.proofs.lemmas.Bool.Decides.{nat_tests}
use Rattle.std.proofs.Common.{arith, ◌≡◌, ◌≢◌, ℕ, zero, suc, ◌+◌, true, false, ℤ, pos, negsuc, List, [], ◌∷◌, ◌++◌, length, drop, Option, Ok, ap, ◌∙◌, refl, le-leb, ne_eqb}
use Rattle.cbi_base.specs.declared.scalar.Scalar.{Scalar}
use Rattle.cbi_base.specs.declared.scalar.Scalar.TheVariants.{Place}
use Rattle.cbi_base.specs.Arithmetic.{is_zero, low_byte}
use Rattle.cbi_base.specs.Limits.{output_limit}
use Rattle.cbi_base.specs.Objects.{Object, Objects, live_or, ◌>>=◌}
use Rattle.cbi_base.specs.Printing.{Byte, Printed, after_bytes, bytes_printed, pieces_of, printed_format, printed_or, string_at, string_on, take_values, then_print}
use Rattle.c_meaning.specs.Output.{put_bytes, put_printed}
use Rattle.c_meaning.specs.World.{Go, World, chosen_part, stuck_run}
use Rattle.c_library_laws.specs.Printed.{HasRoom, HoldString, IsStringAt, Prints, PrintfPrints, PutcharWrites, PutsPrints, with_output}
use Rattle.c_library_laws.specs.Printed.HoldString.{Character, Ended}
use Rattle.c_library_laws.specs.Printed.Prints.{Converted, Natural, Nothing, Ordinary, Percent, Signed, Text}
use Rattle.c_library_laws.proofs.Digits.{byte-is, signed-is, unsigned-is}

above-zero : (n : ℕ) → is_zero (pos (suc n)) ≡ false
above-zero n = grind (arith, nat_tests)

not-zero : (value : ℤ) → value ≢ pos 0 → is_zero value ≡ false
not-zero (pos zero) apart = absurd (apart refl)
not-zero (pos (suc n)) apart = above-zero n
not-zero (negsuc n) apart = refl

-- the cells of a string print its bytes
cells-print : {cells : List Scalar} {bytes : List ℕ} → HoldString cells bytes → string_on cells ≡ bytes_printed bytes
cells-print (Ended cells) = refl
cells-print (Character value byte cells bytes apart is rest) =
    ap (λ none. if none then bytes_printed [] else after_bytes (low_byte value ∷ []) (string_on cells)) (not-zero value apart)
    ∙ ap (λ b. after_bytes (b ∷ []) (string_on cells)) (byte-is byte value is)
    ∙ ap (after_bytes (byte ∷ [])) (cells-print rest)

pub string-prints : (o : Objects) (number offset : ℕ) (bytes : List ℕ) → IsStringAt o number offset bytes → string_at (Place number offset) o ≡ bytes_printed bytes
unfolding string_at
string-prints o number offset bytes is =
    ap (λ (found : Option Object). printed_or (live_or found >>= (λ object. Ok (string_on (drop offset object.cells))))) is.lives ∙ cells-print is.holds

-- what the pieces of a format take and print
record Pieces (o : Objects) (format : List ℕ) (values : List Scalar) (bytes : List ℕ) : Type 0 where
  pub take : take_values (pieces_of format) values ≡ true
  pub print : printed_format (pieces_of format) values o ≡ bytes_printed bytes

ordinary-piece : (byte : ℕ) (rest : List ℕ) → byte ≢ 37 → pieces_of (byte ∷ rest) ≡ Byte byte ∷ pieces_of rest
ordinary-piece byte [] apart = refl
ordinary-piece byte (c ∷ rest) apart = rw (ne_eqb byte 37 apart) refl

-- a conversion's bytes in front of the rest
in-front : (first : List ℕ) (p rest : Printed) (bytes : List ℕ) → p ≡ bytes_printed first → rest ≡ bytes_printed bytes → then_print p rest ≡ bytes_printed (first ++ bytes)
in-front first p rest bytes is more = ap (λ q. then_print q rest) is ∙ ap (after_bytes first) more

pieces-print : (o : Objects) → {format : List ℕ} {values : List Scalar} {bytes : List ℕ} → Prints o format values bytes → Pieces o format values bytes
pieces-print o Nothing = record { take = refl; print = refl }
pieces-print o (Ordinary byte rest values bytes apart prints) =
    let more = pieces-print o prints in
    let pieces = ordinary-piece byte rest apart in
    record {
      take = ap (λ ps. take_values ps values) pieces ∙ more.take;
      print = ap (λ ps. printed_format ps values o) pieces ∙ ap (after_bytes (byte ∷ [])) more.print;
    }
pieces-print o (Percent rest values bytes prints) =
    let more = pieces-print o prints in record { take = more.take; print = ap (after_bytes (37 ∷ [])) more.print }
pieces-print o (Signed value digits rest values bytes is prints) =
    let more = pieces-print o prints in
    record { take = more.take; print = in-front digits _ _ bytes (ap bytes_printed (signed-is digits value is)) more.print }
pieces-print o (Natural value digits rest values bytes is prints) =
    let more = pieces-print o prints in
    record { take = more.take; print = in-front digits _ _ bytes (ap bytes_printed (unsigned-is digits value is)) more.print }
pieces-print o (Converted value byte rest values bytes is prints) =
    let more = pieces-print o prints in
    record { take = more.take; print = in-front (byte ∷ []) _ _ bytes (ap (λ b. bytes_printed (b ∷ [])) (byte-is byte value is)) more.print }
pieces-print o (Text number offset string rest values bytes is prints) =
    let more = pieces-print o prints in
    record { take = more.take; print = in-front string _ _ bytes (string-prints o number offset string is) more.print }

-- bytes for which there is room are written
bytes-put : (w : World) (bytes : List ℕ) → HasRoom w bytes → put_bytes bytes w ≡ Go tt (with_output w bytes)
bytes-put w bytes room = rw (le-leb (length w.output + length bytes) output_limit room) refl

printed-put : (w : World) (p : Printed) (bytes : List ℕ) → p ≡ bytes_printed bytes → HasRoom w bytes → put_printed p w ≡ Go tt (with_output w bytes)
printed-put w p bytes is room = ap (λ q. put_printed q w) is ∙ rw (bytes-put w bytes room) refl

pub printf-prints : PrintfPrints
printf-prints w format values bytes prints room =
    let pieces = pieces-print w.objects prints in
    ap (λ taken. chosen_part taken (put_printed (printed_format (pieces_of format) values w.objects)) stuck_run w) pieces.take
    ∙ printed-put w (printed_format (pieces_of format) values w.objects) bytes pieces.print room

pub puts-prints : PutsPrints
puts-prints w number offset string is room =
    let line : then_print (string_at (Place number offset) w.objects) (bytes_printed (10 ∷ [])) ≡ bytes_printed (string ++ 10 ∷ []) =
    in-front string _ _ (10 ∷ []) (string-prints w.objects number offset string is) refl in
    (0, rw (printed-put w (then_print (string_at (Place number offset) w.objects) (bytes_printed (10 ∷ []))) (string ++ 10 ∷ []) line room) refl)

pub putchar-writes : PutcharWrites
putchar-writes w value byte is room = rw (byte-is byte value is, bytes-put w (byte ∷ []) room) refl
