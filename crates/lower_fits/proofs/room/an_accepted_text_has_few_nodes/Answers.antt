use Rattle.std.proofs.Common.{◌≡◌, length}
use Rattle.c_meaning.specs.Known.{function_bodies}
use Rattle.lower_fits.proofs.RoomOfFunctions.{as_many, few_nodes}
use Rattle.lower_fits.proofs.room.an_accepted_text_has_few_nodes.Goals as goal

pub returns : goal.returns
returns c = λ tree walk table a.
    let same : length walk.definitions ≡ length (function_bodies tree) =
    as_many tree walk.definitions (c.functions_are_numbered_in_order.ensures.frames tree walk a.walked) in
    rw same (few_nodes tree table a.formed.shaped)
