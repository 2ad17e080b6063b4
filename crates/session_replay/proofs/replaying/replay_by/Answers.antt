use Rattle.std.specs.Prelude.{reverse}
use Rattle.std.proofs.Common.{◌≡◌, List, [], ◌∷◌, ap, subst, ◌∙◌, arith}
use Rattle.std.proofs.lemmas.List.{nil_from_length, reverse-append, reverse-reverse}
use Rattle.session_edits.specs.declared.edit.Edit.{Edit}
use Rattle.session_replay.specs.Replay.{AreRankings}
use Rattle.session_replay.proofs.ReplayLemmas.{Replaying, replay-more, replay-writes}
use Rattle.session_replay.proofs.replaying.replay_by.Goals as goal

pub loop-edit-preserved : goal.loop-edit-preserved
loop-edit-preserved c =
    let start = c.args.session.now in
    let all = reverse c.reverse.new.self.items in
    let e = c.in-Some.edit in
    let rest = reverse c.pop.new.self.items in
    let popped : reverse c.loop-edit.rest.items ≡ e ∷ rest = ap reverse c.in-Some.ensures.items ∙ reverse-append c.pop.new.self.items (e ∷ []) in
    let r = subst (λ (xs : List Edit). Replaying start c.args.table.now all c.loop-edit.session xs c.loop-edit.text.items) popped c.loop-edit.invariant in
    replay-more start c.loop-edit.session c.step.new.session c.args.table.now all e rest c.loop-edit.text.items c.step.new.text.items c.requires.none r c.in-Ok.ensures.takes c.in-Ok.ensures.policy c.in-Ok.ensures.text

pub returns-clause-rankings : goal.returns-clause-rankings
returns-clause-rankings c =
    let start = c.args.session.now in
    let table = c.args.table.now in
    let text = c.loop-edit.text.items in
    let all = reverse c.reverse.new.self.items in
    let whole : all ≡ c.args.edits = ap reverse c.reverse.ensures.items ∙ reverse-reverse c.into_vec-rest.result.items ∙ c.into_vec-rest.ensures in
    let none : c.loop-edit.rest.items ≡ [] = nil_from_length c.loop-edit.rest.items (omega (arith, c.in_default.ensures.cases.0, c.loop-edit.rest.ok)) in
    let done = subst (λ (xs : List Edit). Replaying start table all c.loop-edit.session xs text) (ap reverse none) c.loop-edit.invariant in
    subst (λ xs. AreRankings table start.policy [] xs text) whole (replay-writes start c.loop-edit.session table all text done)
