use Rattle.flow.proofs.SampledTotals.{first-sampled, least-sampled, neighbours-differ, sampled-found, sampled-tested}
use Rattle.flow.proofs.sampling.sampled_numbers.Goals as goal

pub returns : goal.returns
returns c = record {
  first = first-sampled;
  least = least-sampled;
  neighbours = neighbours-differ;
  test = λ bank number positive. (sampled-found bank number, sampled-tested bank number positive);
}
