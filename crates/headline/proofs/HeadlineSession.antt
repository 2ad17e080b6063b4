-- What a session prints of the reports of runs is the ranking of the runs as the text means them.
use Rattle.std.proofs.Common.{◌≡◌, ℕ, List, [], Option, subst}
use Rattle.collector.proofs.Leads.{spelled-is}
use Rattle.cbi_base.specs.Store.{Held}
use Rattle.cbi_base.specs.declared.identity.ProgramId.{ProgramId}
use Rattle.cbi_base.specs.declared.policy.Policy.{Policy}
use Rattle.flow.specs.declared.site.TableParts.{TableParts}
use Rattle.flow.specs.Program.{table_of}
use Rattle.report_file.specs.declared.report.Report.{Report}
use Rattle.collector.specs.declared.collection.Bundle.{Bundle}
use Rattle.collector.specs.Order.{map_of}
use Rattle.collector.specs.Spelling.{RunsFrom, SpellsBundle}
use Rattle.collector.proofs.Ordering.{from-rising, map-members, rising-alike, rising-map, rising-once}
use Rattle.elimination_tallies.specs.Recount.{runs_of}
use Rattle.ranking.specs.Ranked.{IsRankingOf}
use Rattle.session_edits.specs.declared.edit.Edit.{Edit}
use Rattle.session_edits.specs.Spelling.{SpellsEdits}
use Rattle.session_replay.specs.Replay.{AreRankings}
use Rattle.cbi_options.specs.declared.words.SessionWords.{SessionWords}
use Rattle.command_session.specs.Session.{IsReplayed, id_of}
use Rattle.headline.specs.Headline.{adds_and_ranks}

abbrev pub OneList : Type 0
OneList = (program : ProgramId) (bytes : List ℕ) (a b : List Edit) → SpellsEdits program bytes a → SpellsEdits program bytes b → a ≡ b

abbrev pub AdditionsPrintTheirMap : Type 0
AdditionsPrintTheirMap = (table : TableParts) (policy : Policy) (reports : List Report) (text : List ℕ) → AreRankings table policy [] (adds_and_ranks reports) text → IsRankingOf table policy (runs_of (map_of reports)) text

-- a session that was asked so ranks the map of the reports
pub ranks-map : OneList → AdditionsPrintTheirMap → (file edits ranking : List ℕ) (reports : List Report) (held : Option Held) (s : SessionWords) (replayed : IsReplayed held s ranking) → replayed.texts.program ≡ file
    → replayed.texts.edits ≡ edits → SpellsEdits (id_of file) edits (adds_and_ranks reports) → IsRankingOf (table_of replayed.replayed.parts) s.policy (runs_of (map_of reports)) ranking
ranks-map one_list prints file edits ranking reports held s replayed program_is edits_are spelled =
    let r = replayed.replayed in
    let so : SpellsEdits (id_of file) edits r.list =
    subst (λ bytes. SpellsEdits (id_of file) bytes r.list) edits_are (subst (λ program. SpellsEdits (id_of program) replayed.texts.edits r.list) program_is r.spell.edits) in
    let same : r.list ≡ adds_and_ranks reports = one_list (id_of file) edits r.list (adds_and_ranks reports) so spelled in
    prints (table_of r.parts) s.policy reports ranking (subst (λ list. AreRankings (table_of r.parts) s.policy [] list ranking) same r.rankings)

own-map : (reports : List Report) → RunsFrom 0 reports → map_of reports ≡ reports
own-map reports rise =
    let rising = from-rising 0 reports rise in
    let alike = rising-alike reports rising in
    rising-once (map_of reports) reports (rising-map reports) rising (λ r. (map-members reports alike r).0) (λ r. (map-members reports alike r).1)

pub bundle-map : (bytes : List ℕ) (b : Bundle) → SpellsBundle bytes b → map_of b.reports ≡ b.reports
bundle-map bytes b spells = own-map b.reports (spelled-is bytes b spells).rising
