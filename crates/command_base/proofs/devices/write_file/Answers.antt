use Rattle.std.proofs.Common.{subst}
use Rattle.cbi_base.specs.Store.{OthersStay}
use Rattle.command_base.proofs.DeviceLemmas.{replaced-others}
use Rattle.command_base.proofs.devices.write_file.Goals as goal

pub returns-in-Ok-clause-others : goal.returns-in-Ok-clause-others
returns-in-Ok-clause-others g c =
    subst (λ name. OthersStay (g.S.Store.holds c.args.store.now) (g.S.Store.holds c.write.new.self) name) c.as_str.ensures (replaced-others _ _ _ _ c.in-Ok.ensures.bytes)
