use Rattle.std.proofs.Common.{ℕ, true, List, length, length-set, refl, subst, ap, arith}
use Rattle.std.specs.List.{Contains}
use Rattle.regions.specs.Noted.{Sets, sets_of}
use Rattle.regions.proofs.BlockLemmas.{noted_length}
use Rattle.regions.proofs.block_starts.Starts.note_node.Goals as goal

pub note-requires-clause-led_to : goal.note-requires-clause-led_to
note-requires-clause-led_to c =
    c.requires.led_to c.in-One.next (subst (λ (xs : List ℕ). Contains xs c.in-One.next) c.in-One.ensures (0, omega arith, refl))

pub note-requires-clause-starts : goal.note-requires-clause-starts
note-requires-clause-starts c =
    c.requires.starts c.in-One.next (subst (λ (xs : List ℕ). Contains xs c.in-One.next) c.in-One.ensures (0, omega arith, refl))

pub note-requires-in-Two-clause-led_to : goal.note-requires-in-Two-clause-led_to
note-requires-in-Two-clause-led_to c =
    c.requires.led_to c.in-Two.first (subst (λ (xs : List ℕ). Contains xs c.in-Two.first) c.in-Two.ensures (0, omega arith, refl))

pub note-requires-in-Two-clause-starts : goal.note-requires-in-Two-clause-starts
note-requires-in-Two-clause-starts c =
    c.requires.starts c.in-Two.first (subst (λ (xs : List ℕ). Contains xs c.in-Two.first) c.in-Two.ensures (0, omega arith, refl))

pub note-requires-in-Two-2-clause-led_to : goal.note-requires-in-Two-2-clause-led_to
note-requires-in-Two-2-clause-led_to c =
    let same = ap (λ (s : Sets). length s.led_to) c.note-in-Two.ensures in
    let inside = c.requires.led_to c.in-Two.second (subst (λ (xs : List ℕ). Contains xs c.in-Two.second) c.in-Two.ensures (1, omega arith, refl)) in
    omega (arith, same, inside, length-set c.args.self.now.led_to.items c.in-Two.first true)

pub note-requires-in-Two-2-clause-starts : goal.note-requires-in-Two-2-clause-starts
note-requires-in-Two-2-clause-starts c =
    let same = ap (λ (s : Sets). length s.starts) c.note-in-Two.ensures in
    let inside = c.requires.starts c.in-Two.second (subst (λ (xs : List ℕ). Contains xs c.in-Two.second) c.in-Two.ensures (1, omega arith, refl)) in
    omega (arith, same, inside, noted_length c.ends_block-ends.result c.in-Two.first (sets_of c.args.self.now))
