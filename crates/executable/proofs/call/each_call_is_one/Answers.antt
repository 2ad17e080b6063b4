use Rattle.std.proofs.Common.{refl}
use Rattle.executable.proofs.Wrapped.{is-call}
use Rattle.executable.proofs.call.each_call_is_one.Goals as goal

pub returns : goal.returns
returns g c seen err_before err_after words status before after taken out lines watching watched said =
    is-call seen watching watched _ _ _ _ before after taken out refl refl refl refl words status lines _ said.is_status said.done said.usage
    said.refused said.untouched said.unwritten said.held
