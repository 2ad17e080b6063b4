use Rattle.c_lexer.proofs.OneCutting.{says-lexed, says-stopped}
use Rattle.c_lexer.proofs.lex.Goals as goal

pub returns-clause-lexed : goal.returns-clause-lexed
returns-clause-lexed c = λ small tokens lexes. says-lexed c.args.text.now c.lex_all.result tokens c.lex_all.ensures lexes

pub returns-clause-stopped : goal.returns-clause-stopped
returns-clause-stopped c = λ small line byte stops. says-stopped c.args.text.now c.lex_all.result line byte c.lex_all.ensures stops
