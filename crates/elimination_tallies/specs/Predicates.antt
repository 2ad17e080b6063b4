-- The predicates of a site table, where of each site only it is known whether it is a branch (PLDI 2005 section 2), and what an entry of a report says
-- of them.
use Rattle.std.specs.Prelude.{ℕ, zero, suc, ◌+◌, ◌-◌, Bool, true, false, ◌&&◌, ◌||◌, nat_lt, nat_le, List, take, sum_by, slice_index_or}
use Rattle.cbi_base.specs.declared.outcome.Counts.{Counts}
use Rattle.report_file.specs.declared.report.Entry.{Entry}
use Rattle.report_file.specs.Report.{is_positive}

-- how many predicates a site has: that its condition is true or false, or the six relations of a value
abbrev pub width_of : Bool → ℕ
width_of true = 2
width_of false = 6

abbrev pub predicates_in : List Bool → ℕ
predicates_in branches = sum_by width_of branches

-- the number of the first predicate of a site
abbrev pub first_predicate : List Bool → ℕ → ℕ
first_predicate branches site = predicates_in (take site branches)

-- whether the predicate is one of this site's
abbrev pub is_of : List Bool → ℕ → ℕ → Bool
is_of branches site predicate = nat_le (first_predicate branches site) predicate && nat_lt predicate (first_predicate branches (site + 1))

-- whether the counters make a site's predicate with this number true: the sum of those that it speaks of is positive. They stand for true and
-- false, or for less, equal and greater
abbrev pub makes_true : Bool → ℕ → Counts → Bool
makes_true true zero c = nat_lt 0 c.first
makes_true true (suc n) c = nat_lt 0 c.second
makes_true false zero c = nat_lt 0 c.first
makes_true false (suc zero) c = nat_lt 0 c.first || nat_lt 0 c.second
makes_true false (suc (suc zero)) c = nat_lt 0 c.third
makes_true false (suc (suc (suc zero))) c = nat_lt 0 c.second || nat_lt 0 c.third
makes_true false (suc (suc (suc (suc zero)))) c = nat_lt 0 c.second
makes_true false (suc (suc (suc (suc (suc n))))) c = nat_lt 0 c.first || nat_lt 0 c.third

-- the entry observes the predicate's site
unfoldable pub is_observed_in_entry : List Bool → ℕ → Entry → Bool
is_observed_in_entry branches predicate e = is_of branches e.site predicate && is_positive e.counts

-- the entry makes the predicate true
unfoldable pub is_true_in_entry : List Bool → ℕ → Entry → Bool
is_true_in_entry branches predicate e =
    is_of branches e.site predicate && makes_true (slice_index_or branches e.site false) (predicate - first_predicate branches e.site) e.counts
