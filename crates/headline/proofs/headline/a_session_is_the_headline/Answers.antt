use Rattle.std.proofs.Common.{subst}
use Rattle.flow.specs.Words.{table_of, SpellsProgram}
use Rattle.collector.specs.Order.{map_of}
use Rattle.elimination_tallies.specs.Recount.{runs_of}
use Rattle.ranking.specs.Ranked.{IsRankingOf}
use Rattle.command_transform.specs.Transform.{plan_of}
use Rattle.command_collect.specs.Collect.{reports_in}
use Rattle.headline.specs.Handed.{by_number}
use Rattle.headline.proofs.HeadlineEdits.{maps-runs}
use Rattle.headline.proofs.HeadlineSession.{bundle-map, ranks-map}
use Rattle.headline.proofs.Ranking.{ranks-meaning}
use Rattle.headline.proofs.headline.a_session_is_the_headline.Goals as goal

pub returns-clause-texts : goal.returns-clause-texts
returns-clause-texts c = λ words text file edits ranking made texts bundles held s tree known is accepted hold are spelled replayed program_is edits_are.
    ranks-meaning c.one_ending.ensures c.one_program.ensures c.one_accepted_text.ensures.tree c.one_accepted_text.ensures.known text file (plan_of words) is.program is.compiled is.spells
    tree known accepted (by_number made) (map_of (reports_in bundles)) s.policy replayed.replayed.parts ranking
    (subst (λ bytes. SpellsProgram bytes replayed.replayed.parts) program_is replayed.replayed.spell.program)
    (maps-runs c.one_report.ensures c.one_collection.ensures c.written_collection.ensures c.order_does_not_matter.ensures.members file hold bundles are)
    (ranks-map c.one_list.ensures c.additions_print_their_map.ensures file edits ranking (reports_in bundles) held s replayed program_is edits_are spelled)

pub returns-clause-collection : goal.returns-clause-collection
returns-clause-collection c = λ words text file collection edits ranking made bundle held s tree known is accepted are spells spelled replayed program_is edits_are.
    ranks-meaning c.one_ending.ensures c.one_program.ensures c.one_accepted_text.ensures.tree c.one_accepted_text.ensures.known text file (plan_of words) is.program is.compiled is.spells
    tree known accepted (by_number made) bundle.reports s.policy replayed.replayed.parts ranking
    (subst (λ bytes. SpellsProgram bytes replayed.replayed.parts) program_is replayed.replayed.spell.program)
    (c.collections_hold_their_runs.ensures file collection made bundle are spells)
    (subst (λ reports. IsRankingOf (table_of replayed.replayed.parts) s.policy (runs_of reports) ranking) (bundle-map collection bundle spells)
    (ranks-map c.one_list.ensures c.additions_print_their_map.ensures file edits ranking bundle.reports held s replayed program_is edits_are spelled))
