use Rattle.std.proofs.Common.{ap, ◌∙◌}
use Rattle.cbi_base.specs.Frames.{object_filled}
use Rattle.c_store.proofs.Keeping.{filled_undefined}
use Rattle.c_store.proofs.objects.Objects.clear.Goals as goal

pub returns : goal.returns
returns c = c.fill.ensures ∙ ap (λ v. object_filled c.args.object v c.args.self.now) c.undefined.ensures ∙ filled_undefined c.args.object c.args.self.now
