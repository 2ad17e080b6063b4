use Rattle.std.proofs.Common.{codes, decimal, map}
use Rattle.program_writer.proofs.WriteLemmas.{line-joined}
use Rattle.program_writer.proofs.write_function.push_locals.Goals as goal

pub returns : goal.returns
returns c =
    line-joined (codes "locals") (map decimal c.args.sizes.now) c.args.out.now.items c.extend_from_slice.new.self.items c.push_sizes.new.out.items c.push.new.self.items
    c.in_ok-extend_from_slice.ensures.items c.in_ok-push_sizes.ensures c.in_ok-push.ensures.items
