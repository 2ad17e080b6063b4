use Rattle.c_meaning_laws.proofs.LongerRuns.{cut_begins, cut_text_begins, uncut_stays, uncut_text_stays}
use Rattle.c_meaning_laws.proofs.laws.turns_only_cut.Goals as goal

pub returns-clause-same : goal.returns-clause-same
returns-clause-same c = uncut_stays

pub returns-clause-begins : goal.returns-clause-begins
returns-clause-begins c = cut_begins

pub returns-clause-text_same : goal.returns-clause-text_same
returns-clause-text_same c = uncut_text_stays

pub returns-clause-text_begins : goal.returns-clause-text_begins
returns-clause-text_begins c = cut_text_begins
