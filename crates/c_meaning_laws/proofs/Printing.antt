-- What `puts` and `printf` write: with arguments as the format takes them they come to no trap Internal.
use Rattle.std.proofs.Common.{◌≡◌, ℕ, refl, subst, sym, List, [], ◌∷◌, ◌++◌, ◌+◌, Some, None, Ok, Bool, true, false, length}
use Rattle.std.proofs.lemmas.Bool.{false≢true, true≢false}
use Rattle.std.specs.Prelude.{Option, ℤ, pos, nat_le, take, drop, ◌-◌, ◌==◌, ◌||◌, if◌then◌else◌}
use Rattle.std.specs.Cmp.Derive.{both_true}
use Rattle.std.specs.FinMap.{get}
use Rattle.cbi_base.specs.Words.{Byte, Conversion, FormatPiece, Printed, after_bytes, converted_by, printed_unless_stopped, nothing_printed, pieces_of, printed_format}
use Rattle.cbi_base.specs.Words.{printed_or, string_at, string_on, take_values, takes_value, then_print, bytes_printed, output_limit, is_zero, low_byte, is_conversion}
use Rattle.cbi_base.specs.Words.{is_percent, Object, Objects, live_or}
use Rattle.cbi_base.specs.declared.outcome.Outcome.TheVariants.{CutOutput}
use Rattle.cbi_base.specs.declared.scalar.Kind.{Kind}
use Rattle.cbi_base.specs.declared.scalar.Kind.TheVariants.{Char, Int, Unsigned}
use Rattle.cbi_base.specs.declared.scalar.Scalar.{Scalar}
use Rattle.cbi_base.specs.declared.scalar.Scalar.TheVariants.{Number, Place, Null, Undefined}
use Rattle.cbi_base.specs.declared.trap.Trap.{Trap}
use Rattle.cbi_base.specs.Objects.{◌>>=◌}
use Rattle.c_meaning.specs.declared.value_type.ValueType.{ValueType}
use Rattle.c_meaning.specs.declared.value_type.ValueType.TheVariants as type
use Rattle.c_meaning.specs.Words.{types_taken, put_printed, put_byte, put_format, put_string, stop_or, put_bytes, World, Out, Go, Stop, bind, chosen_part, stuck_run}
use Rattle.c_meaning_laws.proofs.Safe.{Any, Ending, IsPlain, Safe, chosen_true, gives, plain, seq, unseen}
use Rattle.c_meaning_laws.proofs.Values.{Fits, Given}
use Rattle.c_meaning_laws.proofs.Operations.{IsReference}

-- what is written
written_end : (b : Bool) (w : World) (more cut : List ℕ)
    → Ending {A = Unit {0}} Any (if b then Go tt (record w { output = more }) else Stop CutOutput (record w { output = cut }))
    × (unseen {A = Unit {0}} (if b then Go tt (record w { output = more }) else Stop CutOutput (record w { output = cut }))
    ≡ (if b then Go tt (record (plain w) { output = more }) else Stop CutOutput (record (plain w) { output = cut })))
written_end true w more cut = (tt, refl)
written_end false w more cut = (tt, refl)

pub written_safe : (bytes : List ℕ) → Safe Any (put_bytes bytes) (put_bytes bytes)
written_safe bytes = record {
  at = λ w. (written_end (nat_le (length w.output + length bytes) output_limit) w (w.output ++ bytes)
      (w.output ++ take (output_limit - length w.output) bytes)).0;
  same = λ w. (written_end (nat_le (length w.output + length bytes) output_limit) w (w.output ++ bytes)
      (w.output ++ take (output_limit - length w.output) bytes)).1;
}

abbrev CalmStop : Option Trap → Type 0
CalmStop None = Unit {0}
CalmStop (Some t) = IsPlain t

stop_safe : (stop : Option Trap) → CalmStop stop → Safe Any (stop_or stop) (stop_or stop)
stop_safe None h = record { at = λ w. tt; same = λ w. refl }
stop_safe (Some t) h = record { at = λ w. h; same = λ w. refl }

print_safe : (p : Printed) → CalmStop p.stop → Safe Any (put_printed p) (put_printed p)
print_safe p h = seq (written_safe p.bytes) (λ _ _. stop_safe p.stop h)

-- a part that looks at the objects
pub on_objects : {A : Type 0} {P : A → Type 0} (f f0 : Objects → World → Out A) → ((o : Objects) → Safe P (f o) (f0 o))
    → Safe P (λ w. f w.objects w) (λ w. f0 w.objects w)
on_objects f f0 h = record { at = λ w. (h w.objects).at w; same = λ w. (h w.objects).same w }

-- strings
zero_or : (b : Bool) (bytes : List ℕ) (rest : Printed) → CalmStop rest.stop → CalmStop (if b then nothing_printed else after_bytes bytes rest).stop
zero_or true bytes rest h = tt
zero_or false bytes rest h = h

string_on_calm : (cells : List Scalar) → CalmStop (string_on cells).stop
string_on_calm [] = tt
string_on_calm (Undefined ∷ cells) = tt
string_on_calm (Number Char value ∷ cells) = zero_or (is_zero value) (low_byte value ∷ []) (string_on cells) (string_on_calm cells)
string_on_calm (Number Int value ∷ cells) = tt
string_on_calm (Number Unsigned value ∷ cells) = tt
string_on_calm (Null ∷ cells) = tt
string_on_calm (Place a i ∷ cells) = tt

string_in_calm : (offset : ℕ) (o : Option Object) → CalmStop (printed_or (live_or o >>= λ object. Ok (string_on (drop offset object.cells)))).stop
string_in_calm offset None = tt
string_in_calm offset (Some object) = string_on_calm (drop offset object.cells)

string_at_calm : (p : Scalar) (o : Objects) → IsReference p → CalmStop (string_at p o).stop
unfolding string_at
string_at_calm Undefined o h = tt
string_at_calm Null o h = tt
string_at_calm (Place a i) o h = string_in_calm i (get o.live a)
string_at_calm (Number k n) o h = absurd h

joined_calm : (first : Printed) (stop : Option Trap) (rest : Printed) → CalmStop first.stop → CalmStop rest.stop → CalmStop (printed_unless_stopped first stop rest).stop
joined_calm first None rest h k = k
joined_calm first (Some t) rest h k = h

line_safe : (p : Scalar) → IsReference p → Safe (Fits (Some (type.Number Int))) (λ w. bind (put_printed (then_print (string_at p w.objects) (bytes_printed (10 ∷ []))) w)
    (λ _. Go (Number Int (pos 0))))
    (λ w. bind (put_printed (then_print (string_at p w.objects) (bytes_printed (10 ∷ []))) w) (λ _. Go (Number Int (pos 0))))
line_safe p h = seq (on_objects (λ o. put_printed (then_print (string_at p o) (bytes_printed (10 ∷ [])))) (λ o. put_printed (then_print (string_at p o) (bytes_printed (10 ∷ []))))
    (λ o. print_safe (then_print (string_at p o) (bytes_printed (10 ∷ []))) (joined_calm (string_at p o) (string_at p o).stop (bytes_printed (10 ∷ []))
    (string_at_calm p o h) tt)))
    (λ _ _. gives (Number Int (pos 0)) refl)

-- `puts` and `putchar`
pub put_string_safe : (size : ℕ) (v : Scalar) → Fits (Some (type.Pointer size)) v → Safe (Fits (Some (type.Number Int))) (put_string v) (put_string v)
put_string_safe size Undefined f = record { at = λ w. tt; same = λ w. refl }
put_string_safe size Null f = line_safe Null tt
put_string_safe size (Place a i) f = line_safe (Place a i) tt
put_string_safe size (Number k n) f = absurd f

put_byte_safe : (k : Kind) (n : ℤ) → k ≡ Int → Safe (Fits (Some (type.Number Int))) (put_byte (Number k n)) (put_byte (Number k n))
put_byte_safe k n h = rw h (seq (written_safe (low_byte n ∷ [])) (λ _ _. gives (Number Int (pos (low_byte n))) refl))

pub put_value_safe : (v : Scalar) → Fits (Some (type.Number Int)) v → Safe (Fits (Some (type.Number Int))) (put_byte v) (put_byte v)
put_value_safe Undefined f = record { at = λ w. tt; same = λ w. refl }
put_value_safe (Number k n) f = put_byte_safe k n (sym f)
put_value_safe Null f = absurd f
put_value_safe (Place a i) f = absurd f

-- values of these types, all of them defined
abbrev pub AllGiven : List ValueType → List Scalar → Type 0
AllGiven [] [] = Unit {0}
AllGiven (t ∷ types) (v ∷ vs) = Given (Some t) v × AllGiven types vs
AllGiven types vs = ⊥

-- each conversion of a format has a letter that is known
abbrev AllKnown : List FormatPiece → Type 0
AllKnown [] = Unit {0}
AllKnown (Byte byte ∷ pieces) = AllKnown pieces
AllKnown (Conversion letter ∷ pieces) = (is_conversion letter ≡ true) × AllKnown pieces

known_piece : (letter : ℕ) (b : Bool) (pieces : List FormatPiece) → is_conversion letter ≡ b → AllKnown pieces
    → AllKnown ((if b then Conversion letter else Byte letter) ∷ pieces)
known_piece letter true pieces e h = (e, h)
known_piece letter false pieces e h = h

known_if : (b : Bool) (pieces others : List FormatPiece) → AllKnown pieces → AllKnown others → AllKnown (if b then pieces else others)
known_if true pieces others h k = h
known_if false pieces others h k = k

pieces_known : (bytes : List ℕ) → AllKnown (pieces_of bytes)
pieces_known [] = tt
pieces_known (b ∷ []) = tt
pieces_known (b ∷ c ∷ rest) =
    known_if (is_percent b) ((if is_conversion c then Conversion c else Byte c) ∷ pieces_of rest) (Byte b ∷ pieces_of (c ∷ rest))
    (known_piece c (is_conversion c) (pieces_of rest) refl (pieces_known rest)) (pieces_known (c ∷ rest))

letter_left : (a b c d : Bool) → (a || b || c || d) ≡ true → d ≡ false → b ≡ false → (a || c) ≡ true
letter_left true b c d h i j = refl
letter_left false true c d h i j = absurd (true≢false j)
letter_left false false true d h i j = refl
letter_left false false false true h i j = absurd (true≢false i)
letter_left false false false false h i j = absurd (false≢true h)

-- a conversion takes a value of its type
takes_letter : (letter : ℕ) (v : Scalar) (p q : Bool) → (letter == 115) ≡ p → (letter == 117) ≡ q → is_conversion letter ≡ true
    → Given (Some (if p then type.Pointer 1 else if q then type.Number Unsigned else type.Number Int)) v → takes_value letter v ≡ true
takes_letter letter Undefined p q d e h g = absurd (false≢true g.1)
takes_letter letter Null true q d e h g = d
takes_letter letter (Place a i) true q d e h g = d
takes_letter letter (Number k n) false true d e h g = subst (λ a. takes_value letter (Number a n) ≡ true) g.0 e
takes_letter letter (Number k n) false false d e h g =
    subst (λ a. takes_value letter (Number a n) ≡ true) g.0 (letter_left (letter == 100) (letter == 117) (letter == 99) (letter == 115) h d e)
takes_letter letter (Number k n) true q d e h g = absurd g.0
takes_letter letter Null false true d e h g = absurd g.0
takes_letter letter Null false false d e h g = absurd g.0
takes_letter letter (Place a i) false true d e h g = absurd g.0
takes_letter letter (Place a i) false false d e h g = absurd g.0

values_taken : (pieces : List FormatPiece) (values : List Scalar) → AllKnown pieces → AllGiven (types_taken pieces) values → take_values pieces values ≡ true
values_taken [] [] h g = refl
values_taken [] (v ∷ vs) h g = absurd g
values_taken (Byte byte ∷ pieces) values h g = values_taken pieces values h g
values_taken (Conversion letter ∷ pieces) [] h g = absurd g
values_taken (Conversion letter ∷ pieces) (v ∷ vs) h g =
    both_true (takes_letter letter v (letter == 115) (letter == 117) refl refl h.0 g.0) (values_taken pieces vs h.1 g.1)

converted_by_calm : (letter : ℕ) (v : Scalar) (o : Objects) → CalmStop (converted_by letter v o).stop
converted_by_calm letter (Number Char value) o = tt
converted_by_calm letter (Number Int value) o = tt
converted_by_calm letter (Number Unsigned value) o = tt
converted_by_calm letter Null o = string_at_calm Null o tt
converted_by_calm letter (Place a i) o = string_at_calm (Place a i) o tt
converted_by_calm letter Undefined o = string_at_calm Undefined o tt

printed_calm : (pieces : List FormatPiece) (values : List Scalar) (o : Objects) → AllGiven (types_taken pieces) values → CalmStop (printed_format pieces values o).stop
printed_calm [] values o g = tt
printed_calm (Byte byte ∷ pieces) values o g = printed_calm pieces values o g
printed_calm (Conversion letter ∷ pieces) [] o g = absurd g
printed_calm (Conversion letter ∷ pieces) (v ∷ vs) o g =
    joined_calm (converted_by letter v o) (converted_by letter v o).stop (printed_format pieces vs o) (converted_by_calm letter v o) (printed_calm pieces vs o g.1)

-- `printf`
pub put_format_safe : (format : List ℕ) (values : List Scalar) → AllGiven (types_taken (pieces_of format)) values
    → Safe Any (put_format format values) (put_format format values)
put_format_safe format values g = on_objects (λ o. chosen_part (take_values (pieces_of format) values) (put_printed (printed_format (pieces_of format) values o)) stuck_run)
    (λ o. chosen_part (take_values (pieces_of format) values) (put_printed (printed_format (pieces_of format) values o)) stuck_run)
    (λ o. chosen_true stuck_run stuck_run (take_values (pieces_of format) values) (values_taken (pieces_of format) values (pieces_known format) g)
    (print_safe (printed_format (pieces_of format) values o) (printed_calm (pieces_of format) values o g)))
