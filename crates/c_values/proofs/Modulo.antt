-- A number taken into a kind's range is the one value there that differs from it by a multiple of the kind's size.
use Rattle.std.proofs.Common.{◌≡◌, ◌∙◌, sym, arith, ℤ, pos, ◌+ℤ◌, ◌-ℤ◌, ◌*ℤ◌}
use Rattle.std.proofs.lemmas.Int.{ints}
use Rattle.std.specs.Int.{int_div_euclid}
use Rattle.cbi_base.specs.declared.scalar.Kind.{Kind}
use Rattle.cbi_base.specs.declared.scalar.Kind.TheVariants.{Char, Int, Unsigned}
use Rattle.cbi_base.specs.Kind.{least_of, size_of, wrapped_value, LiesIn}
use Rattle.c_values.specs.Laws.{IsModulo}
use Rattle.c_values.proofs.Ranges.{int_rem_euclid-parts, LiesIn-ends, wrapped-LiesIn}

multiple-is : (kind : Kind) (exact : ℤ) →
    exact ≡ wrapped_value kind exact +ℤ (int_div_euclid (exact -ℤ least_of kind) (pos (size_of kind)) *ℤ pos (size_of kind))
multiple-is Char exact =
    let rest = int_rem_euclid-parts (exact -ℤ least_of Char) (size_of Char) (omega arith) in omega (arith, ints)
multiple-is Int exact = let rest = int_rem_euclid-parts (exact -ℤ least_of Int) (size_of Int) (omega arith) in omega (arith, ints)
multiple-is Unsigned exact =
    let rest = int_rem_euclid-parts (exact -ℤ least_of Unsigned) (size_of Unsigned) (omega arith) in omega (arith, ints)

pub wrapped-IsModulo : (kind : Kind) (exact : ℤ) → IsModulo kind exact (wrapped_value kind exact)
wrapped-IsModulo kind exact = record {
  inside = wrapped-LiesIn kind exact;
  multiple = (int_div_euclid (exact -ℤ least_of kind) (pos (size_of kind)), multiple-is kind exact);
}

same_in_range : (kind : Kind) (a b m n : ℤ) → LiesIn kind a → LiesIn kind b →
    a +ℤ (m *ℤ pos (size_of kind)) ≡ b +ℤ (n *ℤ pos (size_of kind)) → a ≡ b
same_in_range Char a b m n h k e = let x = LiesIn-ends Char a h in let y = LiesIn-ends Char b k in omega (arith, ints)
same_in_range Int a b m n h k e = let x = LiesIn-ends Int a h in let y = LiesIn-ends Int b k in omega (arith, ints)
same_in_range Unsigned a b m n h k e = let x = LiesIn-ends Unsigned a h in let y = LiesIn-ends Unsigned b k in omega (arith, ints)

pub wrapped-alone : (kind : Kind) (exact value : ℤ) → IsModulo kind exact value → value ≡ wrapped_value kind exact
wrapped-alone kind exact value h =
    let w = wrapped-IsModulo kind exact in
    same_in_range kind value (wrapped_value kind exact) h.multiple.0 w.multiple.0 h.inside w.inside (sym h.multiple.1 ∙ w.multiple.1)

pub wrapped-inside : (kind : Kind) (value : ℤ) → LiesIn kind value → wrapped_value kind value ≡ value
wrapped-inside kind value h =
    sym (wrapped-alone kind value value (record { inside = h; multiple = (pos 0, omega (arith, ints)) }))
