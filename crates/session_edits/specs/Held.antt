-- What is held after a list of edits: a run is held where an addition of it stands behind its last removal, with the report of the first such
-- addition, and with the label of the last relabelling behind that.
use Rattle.std.specs.Prelude.{ℕ, Bool, false, ◌==◌, not, if◌then◌else◌, List, [], ◌∷◌, reverse, Option, None, Some}
use Rattle.std.specs.List.{take_while}
use Rattle.report_file.specs.declared.label.Label.{Label}
use Rattle.report_file.specs.declared.report.Report.{Report}
use Rattle.session_edits.specs.declared.edit.Edit.{Edit}
use Rattle.session_edits.specs.declared.edit.Edit.TheVariants.{Add, Remove, Relabel, Rank}

abbrev pub is_removal_of : ℕ → Edit → Bool
is_removal_of run (Add report) = false
is_removal_of run (Remove other) = run == other
is_removal_of run (Relabel other label) = false
is_removal_of run Rank = false

-- the edits behind the last removal of the run, or all of them where nothing removes it
abbrev pub behind_removal : ℕ → List Edit → List Edit
behind_removal run edits = reverse (take_while (λ (e : Edit). not (is_removal_of run e)) (reverse edits))

-- the label of the last relabelling of the run, or this one where nothing relabels it
abbrev pub last_label : ℕ → Label → List Edit → Label
last_label run label [] = label
last_label run label (Add report ∷ more) = last_label run label more
last_label run label (Remove other ∷ more) = last_label run label more
last_label run label (Relabel other another ∷ more) = last_label run (if run == other then another else label) more
last_label run label (Rank ∷ more) = last_label run label more

-- the report of the first addition of the run, with the label of the last relabelling behind it
abbrev pub first_added : ℕ → List Edit → Option Report
first_added run [] = None
first_added run (Add report ∷ more) =
    if run == report.run then Some (record report { label = last_label run report.label more }) else first_added run more
first_added run (Remove other ∷ more) = first_added run more
first_added run (Relabel other label ∷ more) = first_added run more
first_added run (Rank ∷ more) = first_added run more

-- the report that is held of a run
abbrev pub report_held : ℕ → List Edit → Option Report
report_held run edits = first_added run (behind_removal run edits)
