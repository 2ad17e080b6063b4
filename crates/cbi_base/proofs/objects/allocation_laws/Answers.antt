use Rattle.std.proofs.Common.{ap}
use Rattle.cbi_base.specs.Objects.{Objects}
use Rattle.cbi_base.specs.declared.scalar.Scalar.{Scalar}
use Rattle.cbi_base.proofs.AllocationLemmas.{allocated-null, allocated-new}
use Rattle.cbi_base.proofs.objects.allocation_laws.Goals as goal

pub returns-clause-null : goal.returns-clause-null
returns-clause-null c = λ cells o h. (ap (λ (x : Scalar × Objects). x.0) (allocated-null cells o h), ap (λ (x : Scalar × Objects). x.1) (allocated-null cells o h))

pub returns-clause-new : goal.returns-clause-new
returns-clause-new c = λ cells o h. (ap (λ (x : Scalar × Objects). x.0) (allocated-new cells o h), ap (λ (x : Scalar × Objects). x.1) (allocated-new cells o h))
