-- Each site has its own counters.
use Rattle.std.proofs.Common.{◌≡◌, ℕ, zero, suc, ◌+◌, ◌<◌, List, [], ◌∷◌, Some, length, slice_get, ap, ◌∙◌, arith}
use Rattle.cbi_base.specs.declared.observation.Observation.{Observation}
use Rattle.flow.specs.declared.site.Site.{Site}
use Rattle.flow.specs.Counting.{counts_at, counts_from, counts_of}

from : (number : ℕ) (sites : List Site) (seen : List Observation) (place : ℕ) → place < length sites → slice_get (counts_from number sites seen) place ≡ Some (counts_at seen (number + place))
from number [] seen place l = absurd (omega (arith, l))
from number (s ∷ sites) seen zero l = ap (λ n. Some (counts_at seen n)) (omega arith)
from number (s ∷ sites) seen (suc place) l = from (suc number) sites seen place (omega (arith, l)) ∙ ap (λ n. Some (counts_at seen n)) (omega arith)

pub each_counted : (sites : List Site) (seen : List Observation) (site : ℕ) → site < length sites → slice_get (counts_of sites seen) site ≡ Some (counts_at seen site)
each_counted sites seen site l = from 0 sites seen site l ∙ ap (λ n. Some (counts_at seen n)) (omega arith)
