-- The bug of a round, and the rounds so far.
use Rattle.std.proofs.Common.{◌≡◌, ℕ, zero, suc, ◌<◌, ◌≤◌, ◌==◌, Bool, false, true, List, [], ◌∷◌, ◌++◌, length, get_or, Some, Vec, vec_len, rules, refl, sym, ap, subst, ◌∙◌, append_assoc, arith}
use Rattle.std.specs.Prelude.{All, Contains}
use Rattle.std.specs.Global.{Global}
use Rattle.std.specs.List.{find, list_any, remove}
use Rattle.std.proofs.lemmas.List.{append-nil}
use Rattle.std.proofs.lemmas.List.Elements.{All-contains}
use Rattle.cbi_base.specs.declared.policy.Policy.TheVariants.{Failing}
use Rattle.collector.specs.Sites.{branches_of}
use Rattle.collector.specs.Spelling.{RunsFrom}
use Rattle.flow.specs.declared.site.TableParts.{TableParts}
use Rattle.flow.specs.Predicates.{predicate_count}
use Rattle.flow.specs.Sites.{IsTable}
use Rattle.report_file.specs.declared.report.Report.{Report}
use Rattle.elimination_tallies.specs.declared.labelled.LabelledRun.{LabelledRun}
use Rattle.elimination_tallies.specs.Predicates.{predicates_in}
use Rattle.elimination_tallies.specs.Recount.{failing_runs, recount, runs_of}
use Rattle.elimination_tallies.specs.Scanning.{tally_at}
use Rattle.elimination_tallies.specs.Tallies.{AreRecounts, Tallies}
use Rattle.elimination.proofs.TableLemmas.{count-is}
use Rattle.elimination.specs.Elimination.{EliminatorState, stepped_on}
use Rattle.affinity.specs.Cards.{IsLeastOf, failing_true}
use Rattle.affinity.proofs.FailingLemmas.{failing-many}
use Rattle.association.specs.declared.suspect.Suspect.{Suspect}
use Rattle.association.specs.Order.{IsOfRuns}
use Rattle.suspicious_lines.specs.Listing.{AreListed}
use Rattle.suspicious_lines.specs.Suspects.{successful_runs, suspects_from, suspects_of}
use Rattle.suspicious_lines.proofs.Bounds.{suspect-shown, suspects-kept}
use Rattle.suspicious_lines.proofs.Lawful.{listed-same, suspects-predicates}
use Rattle.suspicious_lines.proofs.Telling.{kept-runs}
use Rattle.bug_rounds.specs.declared.bug.Bug.{Bug}
use Rattle.bug_rounds.specs.declared.search.Found.{Found}
use Rattle.bug_rounds.specs.declared.search.Search.{Search}
use Rattle.bug_rounds.specs.Live.{AreLive, failing_numbers, is_own_number, others_among, own_among}
use Rattle.bug_rounds.specs.Rounds.{AreRounds, IsRound, left_behind, reports_left_by}
use Rattle.bug_rounds.specs.Search.{AreFound, IsNextBug, IsRoundDone, IsSearch, IsSearchStart}
use Rattle.bug_rounds.proofs.Leaving.{behind-all, behind-live, behind-push, behind-successful, left-runs, others-are, own-are}
use Rattle.bug_rounds.proofs.Owned.{IsKnown, all-known, any-kept, least-found}

-- a suspect was true in a live failing run
pub leader-own : (table : TableParts) (reports : List Report) (runs : List LabelledRun) (numbers : List ℕ) (s : Suspect) → AreLive (branches_of table.sites) reports runs numbers → Contains (suspects_of table runs) s
    → list_any (is_own_number (branches_of table.sites) reports s.predicate) numbers ≡ true
leader-own table reports runs numbers s live has =
    let bs = branches_of table.sites in
    let some : 0 < (recount bs runs s.predicate).a = All-contains (λ (x : Suspect). 0 < (recount bs runs x.predicate).a) (suspects_of table runs) s (suspects-predicates.only table runs) has in
    let own : own_among bs reports s.predicate numbers ≡ failing_true bs live.live s.predicate = ap (own_among bs reports s.predicate) live.numbers_are ∙ own-are bs reports s.predicate live.live live.known in
    any-kept (is_own_number bs reports s.predicate) numbers
    (omega (arith, some, ap (λ (rs : List LabelledRun). (recount bs rs s.predicate).a) live.runs_are, failing-many bs live.live s.predicate, ap (λ (ns : List ℕ). length ns) own))

-- the first of a list and the rest of it
first-and-rest : (xs rest : List Suspect) (x : Suspect) → 0 < length xs → x ≡ get_or xs 0 x → rest ≡ remove xs 0 → x ∷ rest ≡ xs
first-and-rest [] rest x some first removed = absurd (omega (arith, some))
first-and-rest (y ∷ more) rest x some first removed = ap (λ (z : Suspect). z ∷ rest) first ∙ ap (λ (zs : List Suspect). y ∷ zs) removed

pub listed-first : (failing successful apart also : ℕ) (suspects rest : List Suspect) (x : Suspect) → AreListed failing successful apart also suspects (x ∷ rest) → Contains suspects x
listed-first failing successful apart zero suspects rest x is = absurd (omega (arith, ap (λ (xs : List Suspect). length xs) is))
listed-first failing successful apart (suc also) suspects rest x is = is.0.is_one

pub listed-none : (failing successful apart also : ℕ) (suspects rows : List Suspect) → 1 ≤ also → rows ≡ [] → AreListed failing successful apart also suspects rows → suspects ≡ []
listed-none failing successful apart zero suspects rows some none is = absurd (omega (arith, some))
listed-none failing successful apart (suc also) suspects rows some none is = subst (AreListed failing successful apart (suc also) suspects) none is

-- the suspects of a round, by kept numbers
pub next-count : (table : TableParts) (reports : List Report) (s : Search) (numbers : Tallies) → IsSearch table reports s → AreRecounts s.eliminator.branches s.eliminator.runs numbers → predicates_in numbers.branches ≡ predicate_count table.sites
next-count table reports s numbers search recounts = ap predicates_in (recounts.branches_are ∙ search.branches) ∙ count-is table.sites

pub next-suspects : (table : TableParts) (reports : List Report) (s : Search) (numbers : Tallies) (suspects : List Suspect) → IsSearch table reports s → AreRecounts s.eliminator.branches s.eliminator.runs numbers → suspects ≡ suspects_from (tally_at numbers.tallies) 0 table.sites
    → suspects ≡ suspects_of table s.eliminator.runs
next-suspects table reports s numbers suspects search recounts is =
    is ∙ suspects-kept table s.eliminator.runs numbers (subst (λ (bs : List Bool). AreRecounts bs s.eliminator.runs numbers) search.branches recounts)

pub next-runs : (table : TableParts) (reports : List Report) (s : Search) (failing : ℕ) (suspects : List Suspect) → IsSearch table reports s → failing ≡ failing_runs s.eliminator.runs → suspects ≡ suspects_of table s.eliminator.runs
    → All (IsOfRuns failing s.successful) suspects
next-runs table reports s failing suspects search fails suspects_are =
    kept-runs table s.eliminator.runs (record { failing = failing; successful = s.successful }) suspects search.live.few (record { failing = fails; successful = search.successful; suspects_are = suspects_are })

-- a leader is a predicate of the table
pub leader-counted : (table : TableParts) (reports : List Report) (s : Search) (also : ℕ) (b : Bug) → IsTable table → IsSearch table reports s → IsNextBug table also reports s b → b.leader.predicate < predicates_in s.eliminator.branches
leader-counted table reports s also b fits search found =
    let has = listed-first (failing_runs s.eliminator.runs) (successful_runs s.eliminator.runs) 3 also (suspects_of table s.eliminator.runs) b.others b.leader found.listed in
    omega (arith, (suspect-shown table s.eliminator.runs b.leader fits search.live.few has).predicate, count-is table.sites, ap predicates_in search.branches)

-- whether there are places
no-length : (xs : List Suspect) → length xs ≡ 0 → xs ≡ []
no-length [] is = refl
no-length (x ∷ more) is = absurd (omega (arith, is))

pub no-places : (places : Vec Suspect Global) → (vec_len places == 0) ≡ true → places.items ≡ []
no-places places is =
    let none : vec_len places ≡ 0 = grind arith in
    let long : length places.items ≡ vec_len places = search rules in
    no-length places.items (omega (arith, none, long))

pub some-places : (places : Vec Suspect Global) → (vec_len places == 0) ≡ false → 0 < length places.items
some-places places is =
    let some : 0 < vec_len places = grind arith in
    let long : length places.items ≡ vec_len places = search rules in
    omega (arith, some, long)

-- the places that are listed, the leader first
pub leader-listed : (failing successful also : ℕ) (suspects places rest : List Suspect) (leader : Suspect) → 0 < length places → leader ≡ get_or places 0 leader → rest ≡ remove places 0 → AreListed failing successful 3 also suspects places
    → AreListed failing successful 3 also suspects (leader ∷ rest)
leader-listed failing successful also suspects places rest leader some first removed listed =
    subst (AreListed failing successful 3 also suspects) (sym (first-and-rest places rest leader some first removed)) listed

-- the bug that is made of what a round finds
pub bug-found : (table : TableParts) (also : ℕ) (reports : List Report) (s : Search) (b : Bug) (failing : ℕ) (suspects : List Suspect) → IsSearch table reports s → failing ≡ failing_runs s.eliminator.runs → suspects ≡ suspects_of table s.eliminator.runs
    → AreListed failing s.successful 3 also suspects (b.leader ∷ b.others) → b.failing ≡ failing → find (is_own_number (branches_of table.sites) reports b.leader.predicate) s.live.items ≡ Some b.first → IsNextBug table also reports s b
bug-found table also reports s b failing suspects search fails suspects_are listed kept first = record {
  listed = listed-same failing (failing_runs s.eliminator.runs) s.successful (successful_runs s.eliminator.runs) 3 also suspects (suspects_of table s.eliminator.runs) (b.leader ∷ b.others) fails search.successful suspects_are listed;
  failing = kept ∙ fails;
  first = least-found (is_own_number (branches_of table.sites) reports b.leader.predicate) s.live.items b.first search.live.rising first;
}

-- an eliminator of these runs
abbrev state_of : List Bool → List LabelledRun → EliminatorState
state_of branches runs = record { branches = branches; policy = Failing; runs = runs }

-- the rounds so far: with those to come, so many at most, they are all
pub record IsSearching (table : TableParts) (also most : ℕ) (reports : List Report) (more : ℕ) (s : Search) : Type 0 where
  pub eliminator : s.eliminator ≡ state_of (branches_of table.sites) (runs_of (left_behind (branches_of table.sites) reports s.bugs.items))
  pub successful : s.successful ≡ successful_runs (runs_of reports)
  pub live : s.live.items ≡ failing_numbers (left_behind (branches_of table.sites) reports s.bugs.items)
  pub all : (rest : List Bug) → AreRounds table also more (left_behind (branches_of table.sites) reports s.bugs.items) rest → AreRounds table also most reports (s.bugs.items ++ rest)

runs-are : (table : TableParts) (also most : ℕ) (reports : List Report) (more : ℕ) (s : Search) → IsSearching table also most reports more s → s.eliminator.runs ≡ runs_of (left_behind (branches_of table.sites) reports s.bugs.items)
runs-are table also most reports more s so_far = ap (λ (e : EliminatorState). e.runs) so_far.eliminator

pub search-is : (table : TableParts) (also most : ℕ) (reports : List Report) (more : ℕ) (s : Search) → IsSearching table also most reports more s → RunsFrom 1 reports → length reports ≤ 100000 → IsSearch table reports s
search-is table also most reports more s so_far rise few = record {
  branches = ap (λ (e : EliminatorState). e.branches) so_far.eliminator;
  policy = ap (λ (e : EliminatorState). e.policy) so_far.eliminator;
  successful = so_far.successful ∙ sym (ap successful_runs (runs-are table also most reports more s so_far) ∙ behind-successful (branches_of table.sites) reports s.bugs.items);
  live = behind-live (branches_of table.sites) reports s.bugs.items s.eliminator.runs s.live.items rise few (runs-are table also most reports more s so_far) so_far.live;
}

pub search-start : (table : TableParts) (also most : ℕ) (reports : List Report) (more : ℕ) (s : Search) → more ≡ most → IsSearchStart table reports s → IsSearching table also most reports more s
search-start table also most reports more s same start =
    let bs = branches_of table.sites in
    let none : left_behind bs reports s.bugs.items ≡ reports = ap (left_behind bs reports) start.bugs in record {
      eliminator = start.eliminator ∙ ap (λ (rs : List Report). state_of bs (runs_of rs)) (sym none);
      successful = start.successful;
      live = start.live ∙ ap failing_numbers (sym none);
      all = λ rest is.
          subst (AreRounds table also most reports) (ap (λ (xs : List Bug). xs ++ rest) (sym start.bugs))
          (subst (λ (rs : List Report). AreRounds table also most rs rest) none (subst (λ n. AreRounds table also n (left_behind bs reports s.bugs.items) rest) same is));
    }

-- one more round
next-listed : (table : TableParts) (also : ℕ) (reports left : List Report) (s : Search) (b : Bug) → s.eliminator.runs ≡ runs_of left → IsNextBug table also reports s b → own_among (branches_of table.sites) reports b.leader.predicate s.live.items ≡ failing_true (branches_of table.sites) left b.leader.predicate
    → IsRound table also left b
next-listed table also reports left s b runs found own = record {
  listed = subst (λ (rs : List LabelledRun). AreListed (failing_runs rs) (successful_runs rs) 3 also (suspects_of table rs) (b.leader ∷ b.others)) runs found.listed;
  failing = found.failing ∙ ap failing_runs runs;
  first = subst (λ (ns : List ℕ). IsLeastOf ns b.first) own found.first;
}

pub search-more : (table : TableParts) (also most : ℕ) (reports : List Report) (more fewer : ℕ) (s new : Search) → more ≡ suc fewer → IsSearching table also most reports more s → RunsFrom 1 reports → length reports ≤ 100000 → IsRoundDone table also reports s new
    → IsSearching table also most reports fewer new
search-more table also most reports more fewer s new count so_far rise few done =
    let bs = branches_of table.sites in
    let left = left_behind bs reports s.bugs.items in
    let b = done.bug in
    let p = b.leader.predicate in
    let known = behind-all (IsKnown bs reports) bs reports s.bugs.items (all-known bs reports rise) in
    let own : own_among bs reports p s.live.items ≡ failing_true bs left p = ap (own_among bs reports p) so_far.live ∙ own-are bs reports p left known in
    let after : left_behind bs reports new.bugs.items ≡ reports_left_by bs p left = ap (left_behind bs reports) done.bugs ∙ behind-push bs reports s.bugs.items b in
    let round = next-listed table also reports left s b (runs-are table also most reports more s so_far) done.found own in record {
      eliminator = done.eliminator ∙ ap (λ (e : EliminatorState). stepped_on e p) so_far.eliminator ∙ ap (state_of bs) (sym (left-runs bs p left) ∙ ap (λ (rs : List Report). runs_of rs) (sym after));
      successful = done.successful ∙ so_far.successful;
      live = done.live ∙ ap (others_among bs reports p) so_far.live ∙ others-are bs reports p left known ∙ ap failing_numbers (sym after);
      all = λ rest is.
          let there : AreRounds table also fewer (reports_left_by bs p left) rest = subst (λ (rs : List Report). AreRounds table also fewer rs rest) after is in
          let here : AreRounds table also more left (b ∷ rest) = subst (λ n. AreRounds table also n left (b ∷ rest)) (sym count) (round, there) in
          subst (AreRounds table also most reports) (sym (ap (λ (xs : List Bug). xs ++ rest) done.bugs ∙ append_assoc s.bugs.items (b ∷ []) rest)) (so_far.all (b ∷ rest) here);
    }

-- no more rounds
search-full : (table : TableParts) (also most : ℕ) (reports : List Report) (more : ℕ) (s : Search) → more ≡ 0 → IsSearching table also most reports more s → AreRounds table also most reports s.bugs.items
search-full table also most reports more s none so_far =
    subst (AreRounds table also most reports) (append-nil s.bugs.items) (so_far.all [] (subst (λ n. AreRounds table also n (left_behind (branches_of table.sites) reports s.bugs.items) []) (sym none) refl))

nothing-more : (table : TableParts) (also more : ℕ) (left : List Report) → suspects_of table (runs_of left) ≡ [] → AreRounds table also more left []
nothing-more table also zero left none = refl
nothing-more table also (suc more) left none = none

search-last : (table : TableParts) (also most : ℕ) (reports : List Report) (more : ℕ) (s : Search) → suspects_of table s.eliminator.runs ≡ [] → IsSearching table also most reports more s → AreRounds table also most reports s.bugs.items
search-last table also most reports more s none so_far =
    let left = left_behind (branches_of table.sites) reports s.bugs.items in
    subst (AreRounds table also most reports) (append-nil s.bugs.items)
    (so_far.all [] (nothing-more table also more left (ap (suspects_of table) (sym (runs-are table also most reports more s so_far)) ∙ none)))

are-found : (table : TableParts) (also most : ℕ) (reports : List Report) (s : Search) (found : Found) → AreRounds table also most reports s.bugs.items → s.eliminator.runs ≡ runs_of (left_behind (branches_of table.sites) reports s.bugs.items) → found.bugs ≡ s.bugs.items
    → found.rest ≡ failing_runs s.eliminator.runs → AreFound table reports most also found
are-found table also most reports s found rounds runs bugs rest = record {
  rounds = subst (AreRounds table also most reports) (sym bugs) rounds;
  rest = rest ∙ ap failing_runs runs ∙ ap (λ (xs : List Bug). failing_runs (runs_of (left_behind (branches_of table.sites) reports xs))) (sym bugs);
}

pub found-full : (table : TableParts) (also most : ℕ) (reports : List Report) (more : ℕ) (s : Search) (found : Found) → more ≡ 0 → IsSearching table also most reports more s → found.bugs ≡ s.bugs.items → found.rest ≡ failing_runs s.eliminator.runs
    → AreFound table reports most also found
found-full table also most reports more s found none so_far bugs rest =
    are-found table also most reports s found (search-full table also most reports more s none so_far) (runs-are table also most reports more s so_far) bugs rest

pub found-last : (table : TableParts) (also most : ℕ) (reports : List Report) (more : ℕ) (s new : Search) (found : Found) → new ≡ s → suspects_of table s.eliminator.runs ≡ [] → IsSearching table also most reports more s → found.bugs ≡ new.bugs.items
    → found.rest ≡ failing_runs new.eliminator.runs → AreFound table reports most also found
found-last table also most reports more s new found same none so_far bugs rest =
    are-found table also most reports s found (search-last table also most reports more s none so_far) (runs-are table also most reports more s so_far) (bugs ∙ ap (λ (x : Search). x.bugs.items) same) (rest ∙ ap (λ (x : Search). failing_runs x.eliminator.runs) same)
