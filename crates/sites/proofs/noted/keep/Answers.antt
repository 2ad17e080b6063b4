use Rattle.std.proofs.Common.{ap, ◌∙◌}
use Rattle.sites.specs.Visible.{least_token}
use Rattle.sites.proofs.Keeping.{kept}
use Rattle.sites.proofs.noted.keep.Goals as goal

pub returns : goal.returns
returns c =
    kept c.in_ok-from_slice.field-0 c.args.name.now c.args.firsts.now c.insert.new.self c.args.from c.least-first.result
    c.in_ok-from_slice.ensures.items (c.least-first.ensures ∙ ap (least_token c.args.from) c.first_in.ensures) c.in_ok-insert.ensures.updates
