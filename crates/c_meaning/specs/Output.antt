-- What a run reads and writes (C99 7.19).
use Rattle.std.specs.Prelude.{ℕ, ◌+◌, ◌-◌, nat_le, ℤ, pos, negsuc, List, [], ◌∷◌, ◌++◌, length, take, if◌then◌else◌, Option, Some, None}
use Rattle.cbi_base.specs.Words.{Printed, pieces_of, printed_format, string_at, take_values, then_print, bytes_printed, output_limit, low_byte}
use Rattle.cbi_base.specs.declared.outcome.Outcome.TheVariants.{Trapped, CutOutput}
use Rattle.cbi_base.specs.declared.scalar.Kind.TheVariants.{Int}
use Rattle.cbi_base.specs.declared.scalar.Scalar.{Scalar}
use Rattle.cbi_base.specs.declared.scalar.Scalar.TheVariants.{Number, Undefined}
use Rattle.cbi_base.specs.declared.trap.Trap.{Trap}
use Rattle.cbi_base.specs.declared.trap.Trap.TheVariants as trap
use Rattle.c_meaning.specs.World.{World, Out, Go, Stop, OutDone, bind, chosen_part, stuck_run}

-- Bytes are written; where there isn't room for all of them the run is cut, and those stay that there is room for.
abbrev pub put_bytes : List ℕ → World → OutDone
put_bytes bytes w =
    if nat_le (length w.output + length bytes) output_limit
    then Go tt (record w { output = w.output ++ bytes })
    else Stop CutOutput (record w { output = w.output ++ take (output_limit - length w.output) bytes })

abbrev pub stop_or : Option Trap → World → OutDone
stop_or None w = Go tt w
stop_or (Some t) w = Stop (Trapped t) w

-- bytes that are written, and the trap that is met after them
abbrev pub put_printed : Printed → World → OutDone
put_printed p w = bind (put_bytes p.bytes w) (λ _. stop_or p.stop)

-- `getchar`: the next byte, or -1 at the end of the input
abbrev pub next_byte : List ℕ → World → Out Scalar
next_byte [] w = Go (Number Int (negsuc 0)) w
next_byte (byte ∷ rest) w = Go (Number Int (pos byte)) (record w { input = rest })

-- `putchar` writes a value modulo 256, and gives that
abbrev pub put_byte : Scalar → World → Out Scalar
put_byte Undefined w = Stop (Trapped trap.Undefined) w
put_byte (Number Int value) w = bind (put_bytes (low_byte value ∷ []) w) (λ _. Go (Number Int (pos (low_byte value))))
put_byte other w = stuck_run w

-- `puts` writes the string and a newline, and gives 0
abbrev pub put_string : Scalar → World → Out Scalar
put_string Undefined w = Stop (Trapped trap.Undefined) w
put_string (Number kind value) w = stuck_run w
put_string p w = bind (put_printed (then_print (string_at p w.objects) (bytes_printed (10 ∷ []))) w) (λ _. Go (Number Int (pos 0)))

-- `printf` writes piece by piece, each conversion the value at its place
abbrev pub put_format : List ℕ → List Scalar → World → OutDone
put_format format values w =
    chosen_part (take_values (pieces_of format) values) (put_printed (printed_format (pieces_of format) values w.objects)) stuck_run w
