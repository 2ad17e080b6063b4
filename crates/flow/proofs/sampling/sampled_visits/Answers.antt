use Rattle.std.proofs.Common.{◌+◌, length, arith}
use Rattle.flow.proofs.SampledTotals.{samples-more, samples-ones, equal-sampled, sampled-equal}
use Rattle.flow.proofs.sampling.sampled_visits.Goals as goal

pub returns : goal.returns
returns c = record {
  more = λ bank visits visit. samples-more bank 0 (length visits + 1) visits visit (omega arith);
  ones = λ bank visits ones. samples-ones bank 0 visits ones;
  every = λ bank n number some equal. (equal-sampled bank n number some equal, sampled-equal bank n number equal);
}
