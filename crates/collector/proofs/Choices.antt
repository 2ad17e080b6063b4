-- Which line a line among the runs is, by how it begins.
use Rattle.std.proofs.Common.{◌≡◌, ◌⊎◌, ℕ, ⊎_elim, List, codes, get_or, ap, arith}
use Rattle.cbi_base.specs.Text.{line_of_fields}
use Rattle.report_file.specs.declared.draft.Version.{Version}
use Rattle.report_file.specs.declared.draft.Version.TheVariants.{First, Second}
use Rattle.report_file.specs.declared.report.Entry.{Entry}
use Rattle.report_file.specs.declared.run_line.RunLine.{RunLine}
use Rattle.report_file.specs.RunLine.{run_line_fields}
use Rattle.report_file.specs.Spelling.{site_fields}
use Rattle.collector.specs.declared.draft.Draft.{Draft}
use Rattle.collector.specs.Grammar.{EndFollows, RunFollows, RunSiteFollows}

pub run-begins : (v : Version) (x : RunLine) (line : List ℕ) → line ≡ line_of_fields (run_line_fields v x) → get_or line 0 0 ≡ 114
run-begins First x line is = ap (λ l. get_or l 0 0) is
run-begins Second x line is = ap (λ l. get_or l 0 0) is

pub site-begins : (e : Entry) (line : List ℕ) → line ≡ line_of_fields (site_fields e) → get_or line 0 0 ≡ 115
site-begins e line is = ap (λ l. get_or l 0 0) is

pub end-begins : (line : List ℕ) → line ≡ codes "end" → get_or line 0 0 ≡ 101
end-begins line is = ap (λ l. get_or l 0 0) is

abbrev AnyFollows : Draft → List ℕ → Draft → Type 0
AnyFollows d line next = RunFollows d line next ⊎ (RunSiteFollows d line next ⊎ EndFollows d line next)

pub only-run : (d : Draft) (line : List ℕ) (next : Draft) → get_or line 0 0 ≡ 114 → AnyFollows d line next → RunFollows d line next
only-run d line next begins s =
    ⊎_elim (λ (run : RunFollows d line next). run) (λ (other : RunSiteFollows d line next ⊎ EndFollows d line next). ⊎_elim (λ (site : RunSiteFollows d line next). let a = site-begins site.value line site.line_is in absurd (omega arith))
    (λ (over : EndFollows d line next). let a = end-begins line over.line_is in absurd (omega arith)) other) s

pub only-site : (d : Draft) (line : List ℕ) (next : Draft) → (get_or line 0 0 ≡ 114 → ⊥) → (line ≡ codes "end" → ⊥) → AnyFollows d line next → RunSiteFollows d line next
only-site d line next no_run no_end s =
    ⊎_elim (λ (run : RunFollows d line next). absurd (no_run (run-begins d.version run.value line run.line_is))) (λ (other : RunSiteFollows d line next ⊎ EndFollows d line next). ⊎_elim (λ (site : RunSiteFollows d line next). site) (λ (over : EndFollows d line next). absurd (no_end over.line_is)) other) s

pub only-end : (d : Draft) (line : List ℕ) (next : Draft) → line ≡ codes "end" → AnyFollows d line next → EndFollows d line next
only-end d line next is s =
    let first = end-begins line is in
    ⊎_elim (λ (run : RunFollows d line next). let a = run-begins d.version run.value line run.line_is in absurd (omega arith)) (λ (other : RunSiteFollows d line next ⊎ EndFollows d line next). ⊎_elim (λ (site : RunSiteFollows d line next). let a = site-begins site.value line site.line_is in absurd (omega arith)) (λ (over : EndFollows d line next). over) other) s
