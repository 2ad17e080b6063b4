-- Several values are taken off the operands at once.
use Rattle.std.proofs.Common.{◌≡◌, refl, ap, arith, [], ◌∷◌, ◌++◌, true, length, take, drop, nat_le, le-leb, length-append}
use Rattle.std.specs.Prelude.{if◌then◌else◌, reverse}
use Rattle.std.specs.List.{list_all}
use Rattle.cbi_base.specs.Words.{is_defined_value, Locals}
use Rattle.cbi_base.specs.declared.trap.Trap.TheVariants as trap
use Rattle.flow.specs.Now.{Lacks, Takes, operands_taken}
use Rattle.c_meaning.specs.World.{World}
use Rattle.lower_relation.proofs.Reach.{Stack, now_of}

taken : (vs xs : Stack) → take (length vs) (vs ++ xs) ≡ vs
taken [] xs = refl
taken (v ∷ vs) xs = ap (λ l. v ∷ l) (taken vs xs)

dropped : (vs xs : Stack) → drop (length vs) (vs ++ xs) ≡ xs
dropped [] xs = refl
dropped (v ∷ vs) xs = dropped vs xs

enough : (vs xs : Stack) → nat_le (length vs) (length (vs ++ xs)) ≡ true
enough vs xs = le-leb (length vs) (length (vs ++ xs)) (omega (arith, length-append vs xs))

pub several_on : (locals : Locals) (vs xs : Stack) (w : World)
    → operands_taken (length vs) (now_of locals (vs ++ xs) w) ≡ (if list_all is_defined_value vs then Takes (reverse vs) (now_of locals xs w) else Lacks trap.Undefined)
several_on locals vs xs w = rw (enough vs xs, taken vs xs, dropped vs xs) refl
