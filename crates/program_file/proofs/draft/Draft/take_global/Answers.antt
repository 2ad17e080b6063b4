use Rattle.std.proofs.Common.{arith}
use Rattle.program_file.proofs.draft.Draft.take_global.Goals as goal

pub push-requires-clause-room : goal.push-requires-clause-room
push-requires-clause-room c = omega (arith, c.in-Ok.ensures.ok.room)

pub push-requires-clause-cells : goal.push-requires-clause-cells
push-requires-clause-cells c = c.in-Ok.ensures.ok.total
