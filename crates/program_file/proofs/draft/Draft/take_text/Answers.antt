use Rattle.std.proofs.Common.{arith}
use Rattle.program_file.proofs.draft.Draft.take_text.Goals as goal

pub push-requires-clause-room : goal.push-requires-clause-room
push-requires-clause-room c = omega (arith, c.in-Ok.ensures.ok.room)
