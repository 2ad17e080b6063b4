-- What reading a report answers, of which want of memory is free.
use Rattle.std.specs.Prelude.{◌≡◌, ℕ, Result, Ok, Err}
use Rattle.report_file.specs.declared.error.ReportError.{ReportError}
use Rattle.report_file.specs.declared.error.ReportError.TheVariants.{BadReport, Memory}
use Rattle.report_file.specs.declared.report.Report.{Report}

-- the answer is this report, unless memory ran out
abbrev pub ReportReadAs : Result Report ReportError → Report → Type 0
ReportReadAs (Ok r) want = r ≡ want
ReportReadAs (Err (BadReport line)) want = ⊥
ReportReadAs (Err Memory) want = Unit {0}

-- the bytes are refused at this line, unless memory ran out
abbrev pub ReportRefusedAt : Result Report ReportError → ℕ → Type 0
ReportRefusedAt (Ok r) line = ⊥
ReportRefusedAt (Err (BadReport bad)) line = bad ≡ line
ReportRefusedAt (Err Memory) line = Unit {0}
