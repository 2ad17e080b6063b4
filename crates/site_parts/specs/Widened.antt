-- Reports of a part's program, as reports of the whole one.
use Rattle.std.specs.Prelude.{◌≤◌, List, map}
use Rattle.std.specs.List.{All}
use Rattle.cbi_base.specs.declared.identity.ProgramId.{ProgramId}
use Rattle.report_file.specs.declared.report.Entry.{Entry}
use Rattle.report_file.specs.declared.report.Report.{Report}
use Rattle.report_file.specs.Report.{greatest_site}
use Rattle.collector.specs.declared.collection.Bundle.{Bundle}
use Rattle.flow.specs.declared.choice.Part.{Part}
use Rattle.program_parts.specs.Part.{whole_number}

-- the counters of a site, under its number in the whole table
abbrev pub widened_entry : Part → Entry → Entry
widened_entry part e = record e { site = whole_number part e.site }

abbrev pub widened_entries : Part → List Entry → List Entry
widened_entries part entries = map (widened_entry part) entries

abbrev pub widened_report : ProgramId → Part → Report → Report
widened_report whole part r = record r { program = whole; entries = widened_entries part r.entries }

abbrev pub widened_bundle : ProgramId → Part → Bundle → Bundle
widened_bundle whole part b = record b { program = whole; reports = map (widened_report whole part) b.reports }

-- each site's number in the whole table is one that a site can have
abbrev pub MayWiden : Part → List Entry → Type 0
MayWiden part entries = All (λ e. whole_number part e.site ≤ greatest_site) entries

abbrev pub MayWidenAll : Part → List Report → Type 0
MayWidenAll part reports = All (λ r. MayWiden part r.entries) reports
