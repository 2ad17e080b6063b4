-- Which tree a list of tokens has, by the grammar.
use Rattle.std.specs.Prelude.{◌≡◌, List}
use Rattle.c_syntax.specs.declared.token.Token.{Token}
use Rattle.c_syntax.specs.Words.{kinds_of, lines_of, SourceTree}
use Rattle.c_grammar.specs.Grammar.{program_rule}

-- These are its tokens, by a rule that leaves room for parts 200 deep, and it records their lines.
pub record IsTreeByGrammar (tokens : List Token) (t : SourceTree) : Type 0 where
  pub kinds : (program_rule t).kinds ≡ kinds_of tokens
  pub fits : (program_rule t).Fits 200 0
  pub lines : t.lines ≡ lines_of tokens
