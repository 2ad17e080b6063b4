use Rattle.c_parser_expressions.proofs.Heads.{says_iff}
use Rattle.c_parser_expressions.proofs.cursor.Reader.says.Goals as goal

pub returns : goal.returns
returns c = says_iff c.args.word c.args.self.now.rest c.is_word.result c.requires c.is_word.ensures
