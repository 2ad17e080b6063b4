use Rattle.std.proofs.Common.{◌≡◌, ◌++◌, length}
use Rattle.std.specs.Prelude.{map}
use Rattle.cbi_base.specs.Text.{line_of_fields, text_of}
use Rattle.report_file.specs.Spelling.{site_fields}
use Rattle.report_file.proofs.writing.push_entries.Given as goal

-- with the lines of the sites that are left, all is appended
abbrev pub invariant-loop-rest : goal.invariant-loop-rest
invariant-loop-rest l = l.out.items ++ text_of (map line_of_fields (map site_fields l.rest)) ≡ l.initial.out.items ++ text_of (map line_of_fields (map site_fields l.entries))

abbrev pub decreases-loop-rest : goal.decreases-loop-rest
decreases-loop-rest l = length l.rest
