-- The four fractions of a listed predicate (PLDI 2005 sections 3.1 and 3.3).
use Rattle.std.specs.Prelude.{◌+◌}
use Rattle.fractions.specs.declared.fraction.Fraction.{Fraction}
use Rattle.fractions.specs.declared.tally.Tally.{Tally}
use Rattle.fractions.specs.Tally.{spread_of, surplus_of}

-- of the runs in which the predicate was true, those that failed
abbrev pub failure_of : Tally → Fraction
failure_of t = record { top = t.a; bottom = t.a + t.b }

-- of the runs in which it was observed, those that failed
abbrev pub context_of : Tally → Fraction
context_of t = record { top = t.c; bottom = t.c + t.d }

-- the difference of the two
abbrev pub increase_of : Tally → Fraction
increase_of t = record { top = surplus_of t; bottom = spread_of t }
