use Rattle.std.proofs.Common.{◌++◌, ◌∙◌, ap, subst, sym}
use Rattle.std.specs.Prelude.{All}
use Rattle.std.proofs.lemmas.List.Elements.{All-head, All-tail}
use Rattle.association.specs.declared.suspect.Suspect.{Suspect}
use Rattle.suspicious_lines.specs.Text.{IsShown}
use Rattle.bug_rounds.proofs.BugTexts.{also_lines, bug-joined}
use Rattle.bug_rounds.proofs.text.push_bug.Goals as goal

pub push_front-requires : goal.push_front-requires
push_front-requires c =
    (All-head (IsShown c.args.table.now c.args.bug.now.failing c.args.successful) c.args.bug.now.leader c.args.bug.now.others c.requires).function

pub push_back-requires : goal.push_back-requires
push_back-requires c = All-head (IsShown c.args.table.now c.args.bug.now.failing c.args.successful) c.args.bug.now.leader c.args.bug.now.others c.requires

pub push_others-requires : goal.push_others-requires
push_others-requires c =
    let Shown : Suspect → Type 0 = IsShown c.args.table.now c.args.bug.now.failing c.args.successful in
    subst (All Shown) (sym c.as_slice.ensures) (All-tail Shown c.args.bug.now.leader c.args.bug.now.others c.requires)

pub returns : goal.returns
returns c =
    bug-joined c.args.table.now c.args.successful c.args.number c.args.bug.now c.args.out.now.items c.push_front.new.out.items c.push_back.new.out.items c.push_others.new.out.items c.in_ok-push_front.ensures c.in_ok-push_back.ensures
    (c.in_ok-push_others.ensures ∙ ap (λ xs. c.push_back.new.out.items ++ also_lines c.args.table.now c.args.bug.now.failing c.args.successful xs) c.as_slice.ensures)
