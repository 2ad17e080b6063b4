use Rattle.program_writer.proofs.WriteLemmas.{whole-joined}
use Rattle.program_writer.proofs.write.write_program.Goals as goal

pub returns-clause-spells : goal.returns-clause-spells
returns-clause-spells c = record {
  is_program = c.in_ok-push_front.ensures.is_program;
  text_is = whole-joined c.args.program.now c.new-out.result.items c.push_front.new.out.items c.push_back.new.out.items c.new-out.ensures.items c.in_ok-push_front.ensures.rows c.in_ok-push_back.ensures;
}
