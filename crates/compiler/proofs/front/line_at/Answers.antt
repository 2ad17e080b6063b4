use Rattle.std.proofs.Common.{ap, ◌∙◌, List, length}
use Rattle.std.specs.Prelude.{min}
use Rattle.c_syntax.specs.declared.token.Token.{Token}
use Rattle.c_syntax.specs.Tokens.{line_at, lines_of}
use Rattle.compiler.proofs.Lining.{same_line}
use Rattle.compiler.proofs.front.line_at.Goals as goal

pub returns : goal.returns
returns c =
    c.line_of.ensures
    ∙ ap (line_at (lines_of c.args.tokens.now)) (c.min.ensures ∙ ap (λ (ts : List Token). min c.args.index (length ts)) c.as_slice.ensures.value)
    ∙ same_line c.args.tokens.now c.args.index
