-- The objects as plain data.
use Rattle.std.specs.Prelude.{ℕ, List, refl}
use Rattle.std.specs.Coded.{Coded, coded_ℕ, coded_list, coded×, code_by}
use Rattle.std.specs.FinMap.{FinMap, code}
use Rattle.std.specs.Ordering.{nat_cmp}
use Rattle.cbi_base.specs.declared.scalar.Class.{Class}
use Rattle.cbi_base.specs.declared.scalar.Scalar.{Scalar}
use Rattle.cbi_base.specs.contracts.scalar.Class as class
use Rattle.cbi_base.specs.contracts.scalar.Scalar as scalar
use Rattle.cbi_base.specs.Objects.{Object, Objects}

abbrev pub object_code : Coded Object
object_code =
    code_by (Class × List Scalar) (coded× class.the_row.coded (coded_list scalar.the_row.coded))
    (λ o. (o.class, o.cells)) (λ p. record { class = p.0; cells = p.1 }) (λ _. refl)

abbrev pub live_code : Coded (FinMap nat_cmp Object)
live_code = code coded_ℕ object_code

abbrev pub objects_code : Coded Objects
objects_code =
    code_by (ℕ × FinMap nat_cmp Object) (coded× coded_ℕ live_code) (λ o. (o.made, o.live)) (λ p. record { made = p.0; live = p.1 }) (λ _. refl)
