-- The numbers of sites in a part and in the whole table.
use Rattle.std.proofs.Common.{◌≡◌, ℕ, ◌+◌, ◌*◌, ◌-◌, true, sym, ap, ◌∙◌, arith}
use Rattle.std.specs.Prelude.{◌/◌, ◌%◌}
use Rattle.std.proofs.lemmas.Bool.{eqb-true}
use Rattle.std.proofs.lemmas.Nat.{div-add-mod', div-mul-add, mod-mul-add}
use Rattle.flow.specs.Sites.{PartFits}
use Rattle.flow.specs.declared.choice.Part.{Part}
use Rattle.program_parts.specs.Part.{is_site_in_part, number_in, whole_number}

-- a number that is a multiple and a rest has this rest
pub has_whole : (part : Part) (number : ℕ) → PartFits part → is_site_in_part part (whole_number part number) ≡ true
has_whole part number is = let e = mod-mul-add number part.count part.index is.index in grind (arith, e)

-- a number of the part, from one in the whole table
pub number_back : (part : Part) (number : ℕ) → PartFits part → number_in part (whole_number part number) ≡ number
number_back part number is =
    let less : whole_number part number - part.index ≡ number * part.count + 0 = omega arith in
    ap (λ (n : ℕ). n / part.count) less ∙ div-mul-add number part.count 0 (omega (arith, is.some))

-- and from the part to the whole table
pub whole_back : (part : Part) (site : ℕ) → PartFits part → is_site_in_part part site ≡ true → whole_number part (number_in part site) ≡ site
whole_back part site is h =
    let rest : site % part.count ≡ part.index = eqb-true (site % part.count) part.index h in
    let split : whole_number part (site / part.count) ≡ site = omega (arith, div-add-mod' site part.count, rest) in
    let same : number_in part site ≡ site / part.count = ap (number_in part) (sym split) ∙ number_back part (site / part.count) is in
    ap (whole_number part) same ∙ split
