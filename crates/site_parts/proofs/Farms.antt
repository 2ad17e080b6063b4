-- The entries of the runs of all parts, widened, beside those of the whole program's run.
use Rattle.std.proofs.Common.{◌≡◌, inl, inr, ℕ, ◌<◌, List, [], ◌∷◌, slice_get, refl, sym, ap, ◌∙◌, subst}
use Rattle.flow.specs.Words.{code_of, counts_of, run_start, Ending}
use Rattle.flow.specs.declared.site.Site.{Site}
use Rattle.flow.specs.declared.choice.Part.{Part}
use Rattle.flow.proofs.Endings.{one_end_from}
use Rattle.cbi_base.specs.declared.observation.Observation.{Observation}
use Rattle.report_file.specs.declared.report.Entry.{Entry}
use Rattle.report_file.specs.Report.{Among, entries_of}
use Rattle.report_file.proofs.Entries.{among-all, among-counts}
use Rattle.program_parts.specs.Laws.{part_at}
use Rattle.program_parts.specs.Part.{part_of, part_visits, whole_number}
use Rattle.program_parts.specs.Program.{part_program}
use Rattle.program_parts.specs.Runs.{part_ending}
use Rattle.program_parts.proofs.Counts.{counts_of_parts}
use Rattle.program_parts.proofs.Once.{is_part_at, stands_once}
use Rattle.program_parts.proofs.Whole.{runs_in_part}
use Rattle.site_parts.specs.Laws.{AreSideBySide, EntriesOfParts, FarmsCountTheWhole}
use Rattle.site_parts.specs.Widened.{widened_entries, widened_entry}

-- entries that are widened
among_widened : (part : Part) (e : Entry) (entries : List Entry) → Among e entries → Among (widened_entry part e) (widened_entries part entries)
among_widened part e [] among = absurd among
among_widened part e (x ∷ more) (inl same) = inl (ap (widened_entry part) same)
among_widened part e (x ∷ more) (inr later) = inr (among_widened part e more later)

before_widened : (part : Part) (e : Entry) (entries : List Entry) → Among e (widened_entries part entries) → (x : Entry) × Among x entries × (e ≡ widened_entry part x)
before_widened part e [] among = absurd among
before_widened part e (x ∷ more) (inl same) = (x, inl refl, same)
before_widened part e (x ∷ more) (inr later) = let b = before_widened part e more later in (b.0, inr b.1, b.2)

-- the entries of a part's run
abbrev part_entries : Part → List Site → List Observation → List Entry
part_entries part sites visits = entries_of (counts_of (part_of part sites) (part_visits part visits))

pub entries_of_parts : EntriesOfParts
entries_of_parts count sites visits some few = record {
  each = λ e among.
      let is = among-counts (counts_of sites visits) e among in
      let once = stands_once count e.site some in
      let part = part_at count once.index in
      let there = counts_of_parts part sites visits once.number (is_part_at count once.index few once.within) ∙ ap (slice_get (counts_of sites visits)) once.is ∙ is.0 in
      let x : Entry = record { site = once.number; counts = e.counts } in
      let all = among-all (counts_of (part_of part sites) (part_visits part visits)) once.number e.counts there is.1 in (
        once.index,
        once.within,
        subst (λ (n : ℕ). let y : Entry = record { site = n; counts = e.counts } in Among y (widened_entries (part_at count once.index) (part_entries (part_at count once.index) sites visits))) once.is
            (among_widened part x (part_entries part sites visits) all),
      );
  only = λ e index within among.
      let part = part_at count index in
      let b = before_widened part e (part_entries part sites visits) among in
      let is = among-counts (counts_of (part_of part sites) (part_visits part visits)) b.0 b.1 in
      let there = sym (counts_of_parts part sites visits b.0.site (is_part_at count index few within)) ∙ is.0 in
      subst (λ (y : Entry). Among y (entries_of (counts_of sites visits))) (sym b.2)
      (among-all (counts_of sites visits) (whole_number part b.0.site) b.0.counts there is.1);
}

-- the same entries of each part, side by side
side_by_side : (count : ℕ) (f g : ℕ → List Entry) (whole : List Entry) → ((index : ℕ) → index < count → f index ≡ g index) → AreSideBySide count f whole → AreSideBySide count g whole
side_by_side count f g whole same are = record {
  each = λ e among.
      let a = are.each e among in
      (a.0, a.1, subst (λ (entries : List Entry). Among e (widened_entries (part_at count a.0) entries)) (same a.0 a.1) a.2);
  only = λ e index within among.
      are.only e index within (subst (λ (entries : List Entry). Among e (widened_entries (part_at count index) entries)) (sym (same index within)) among);
}

pub farms_count : FarmsCountTheWhole
farms_count p count input bank turns whole of_part plain ready some few ends sound each =
    let seen : (index : ℕ) → index < count → part_visits (part_at count index) whole.seen ≡ (of_part index).seen = λ index within.
    let part = part_at count index in
    let q = part_program part p in
    ap (λ (e : Ending). e.seen)
    (one_end_from (code_of q bank) (run_start q input bank turns) (part_ending part whole) (of_part index)
    ((runs_in_part part p (is_part_at count index few within) plain ready).there input bank turns whole ends sound) (each index within))
    in
    side_by_side count (λ index. part_entries (part_at count index) p.sites whole.seen)
    (λ index. entries_of (counts_of (part_of (part_at count index) p.sites) (of_part index).seen)) (entries_of (counts_of p.sites whole.seen))
    (λ index within. ap (λ (visits : List Observation). entries_of (counts_of (part_of (part_at count index) p.sites) visits)) (seen index within))
    (entries_of_parts count p.sites whole.seen some few)
