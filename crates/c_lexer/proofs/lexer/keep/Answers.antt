use Rattle.std.proofs.Common.{◌<◌, ◌+◌, ◌∷◌, [], arith, sum_by}
use Rattle.c_syntax.specs.declared.token.Token.{Token}
use Rattle.c_syntax.specs.Words.{most_bytes, text_len}
use Rattle.c_lexer.specs.State.{TokenFits}
use Rattle.c_lexer.proofs.Room.{tokens-push}
use Rattle.c_lexer.proofs.lexer.keep.Goals as goal

pub push-requires : goal.push-requires
push-requires c =
    let token : Token = record { kind = c.in-Some.kind; line = c.args.line } in
    let fits : TokenFits c.in-Some.kind = rw c.in-Some.is at c.requires.room.fits in
    let text : sum_by text_len c.args.tokens.now + sum_by text_len (token ∷ []) < most_bytes = rw c.in-Some.is at c.requires.room.text in
    let room = c.requires.room in
    tokens-push c.args.tokens.now token c.as_slice-known.ensures.bounds (omega (arith, room.kept, c.if-count-lt-MOST_TOKENS.true)) room.first_line room.last_line
    room.kept_lines text fits
