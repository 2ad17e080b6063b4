-- Chains of `&&` and `||` whose truth is found without their values.
use Rattle.std.specs.Prelude.{ℕ, Bool, true, false, Option, None}
use Rattle.c_meaning.specs.Trees.{Joint, Both, Either}

-- whether an operator is `&&` or `||`
abbrev pub is_short : Joint → Bool
is_short Both = true
is_short Either = true
is_short j = false

-- whether it needs no value of its left side, with this site: it is one of those, without a site
abbrev pub forks_at : Option ℕ → Joint → Bool
forks_at None j = is_short j
forks_at site j = false

-- where a true left side goes on, and where a false one does, if the right side stands at a node and the whole goes on at another one
abbrev pub yes_before : Joint → ℕ → ℕ → ℕ
yes_before Both right next = right
yes_before j right next = next

abbrev pub no_before : Joint → ℕ → ℕ → ℕ
no_before Both right next = next
no_before j right next = right
