use Rattle.std.proofs.Common.{◌∙◌, Bool, List, ℕ, Option, ap, refl, subst, sym}
use Rattle.std.specs.Prelude.{IfSome}
use Rattle.collector.specs.Sites.{branches_of}
use Rattle.elimination_tallies.specs.Tallies.{Tallies}
use Rattle.bug_rounds.specs.declared.bug.Bug.{Bug}
use Rattle.bug_rounds.specs.Live.{others_among}
use Rattle.bug_rounds.specs.Search.{IsNextBug}
use Rattle.bug_rounds.proofs.Searching.{leader-counted}
use Rattle.bug_rounds.proofs.search.round.Goals as goal

pub others-requires : goal.others-requires
others-requires g c = ap (λ (t : Tallies). t.branches) c.numbers-numbers.ensures ∙ c.tallies.ensures.branches_are ∙ c.requires.search.branches ∙ sym c.requires.table

pub step-requires : goal.step-requires
step-requires g c =
    let found : IsNextBug c.args.table.now c.args.also c.args.collection.now.reports c.args.search.now c.in-Some.bug =
    subst (λ (o : Option Bug). IfSome o (IsNextBug c.args.table.now c.args.also c.args.collection.now.reports c.args.search.now)) c.in-Some.is c.in_ok-next.ensures.some in
    leader-counted c.args.table.now c.args.collection.now.reports c.args.search.now c.args.also c.in-Some.bug c.sites-sites.ensures.is_table c.requires.search found

pub returns-clause-done : goal.returns-clause-done
returns-clause-done g c = λ _.
    let reports = c.args.collection.now.reports in
    let leader = c.in-Some.bug.leader.predicate in
    let found : IsNextBug c.args.table.now c.args.also reports c.args.search.now c.in-Some.bug =
    subst (λ (o : Option Bug). IfSome o (IsNextBug c.args.table.now c.args.also reports c.args.search.now)) c.in-Some.is c.in_ok-next.ensures.some in record {
      bug = c.in-Some.bug;
      found = found;
      eliminator = c.step.ensures.after;
      successful = refl;
      live = c.in_ok-left.ensures ∙ ap (λ (bs : List Bool). others_among bs reports leader c.as_slice.result.now) c.requires.table
          ∙ ap (λ (ns : List ℕ). others_among (branches_of c.args.table.now.sites) reports leader ns) c.as_slice.ensures.value;
      bugs = c.in_ok-push.ensures.items;
    }
