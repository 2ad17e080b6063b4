-- Tokens allow nodes: 16 each, and one more for each site that stands at them.
use Rattle.std.proofs.Common.{◌≡◌, ℕ, zero, suc, ◌≤◌, ◌+◌, ◌-◌, refl, arith, subst, add-one, add-suc, add-zero}
use Rattle.c_meaning.specs.Facts.{Sites}
use Rattle.lower_relation.specs.Room.{branch_visits, pair_visits, return_visits}

-- how many sites are visited at the token
abbrev pub standing : Sites → ℕ → ℕ
standing sites token = branch_visits sites token + return_visits sites token + pair_visits sites token

-- how many nodes all tokens before this one allow
pub allowed : Sites → ℕ → ℕ
allowed sites zero = 0
allowed sites (suc n) = allowed sites n + 16 + standing sites n

-- the tokens from one on, up to another, allow so many nodes
pub record Allows (sites : Sites) (lo hi n : ℕ) : Type 0 where
  pub by : n + allowed sites lo ≤ allowed sites hi

-- so many tokens more allow no less
climbs_by : (sites : Sites) (lo k : ℕ) → allowed sites lo ≤ allowed sites (lo + k)
unfolding allowed
climbs_by sites lo zero = rw add-zero (omega arith)
climbs_by sites lo (suc k) = rw add-suc (omega (arith, climbs_by sites lo k))

-- the tokens before a later one allow no less
climbs : (sites : Sites) (lo hi : ℕ) → lo ≤ hi → allowed sites lo ≤ allowed sites hi
climbs sites lo hi h = let long : lo + (hi - lo) ≡ hi = omega arith in subst (λ n. allowed sites lo ≤ allowed sites n) long (climbs_by sites lo (hi - lo))

-- before the first token none are allowed
pub none_allowed : (sites : Sites) → allowed sites 0 ≡ 0
unfolding allowed
none_allowed sites = refl

-- each token adds to what is allowed
pub next_allowed : (sites : Sites) (token : ℕ) → allowed sites (token + 1) ≡ allowed sites token + 16 + standing sites token
unfolding allowed
next_allowed sites token = rw add-one refl

-- what one token allows
pub one : {sites : Sites} (token : ℕ) → Allows sites token (token + 1) (16 + standing sites token)
one {sites} token = record { by = omega (arith, next_allowed sites token) }

-- some tokens, and others behind them
pub two : {sites : Sites} {a b c d m n : ℕ} → Allows sites a b m → Allows sites c d n → b ≤ c → Allows sites a d (m + n)
two {sites} {a} {b} {c} {d} {m} {n} f g h = record { by = omega (arith, f.by, g.by, climbs sites b c h) }

-- fewer nodes, within more tokens
pub wide : {sites : Sites} {lo hi a b m n : ℕ} → Allows sites lo hi n → a ≤ lo → hi ≤ b → m ≤ n → Allows sites a b m
wide {sites} {lo} {hi} {a} {b} {m} {n} f low high few = record { by = omega (arith, f.by, climbs sites a lo low, climbs sites hi b high, few) }

-- any tokens allow none at least
pub nothing : {sites : Sites} {lo hi : ℕ} → lo ≤ hi → Allows sites lo hi 0
nothing {sites} {lo} {hi} h = record { by = omega (arith, climbs sites lo hi h) }
