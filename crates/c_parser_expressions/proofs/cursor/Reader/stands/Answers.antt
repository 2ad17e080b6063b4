use Rattle.c_parser_expressions.proofs.Heads.{stands_iff}
use Rattle.c_parser_expressions.proofs.cursor.Reader.stands.Goals as goal

pub returns : goal.returns
returns c = stands_iff c.args.sign c.args.self.now.rest c.is_sign.result c.requires c.is_sign.ensures
