use Rattle.c_parser_expressions.specs.Reading.{kinds_behind_first}
use Rattle.c_parser_expressions.proofs.Heads.{stands_iff}
use Rattle.c_parser_expressions.proofs.cursor.Reader.stands_behind.Goals as goal

pub returns : goal.returns
returns c = stands_iff c.args.sign (kinds_behind_first c.args.self.now.rest) c.is_sign_behind.result c.requires c.is_sign_behind.ensures
