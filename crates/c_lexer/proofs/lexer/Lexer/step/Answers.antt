use Rattle.std.proofs.Common.{◌≡◌, ◌+◌, length, Some, ap, sym, ◌∙◌, sum_by, arith, rules}
use Rattle.c_syntax.specs.Tokens.{text_len}
use Rattle.c_lexer_pieces.specs.Cutting.{piece_at}
use Rattle.c_lexer_pieces.specs.Found.{piece_of, known_by}
use Rattle.c_lexer.specs.Lexing.{kind_at, with_line}
use Rattle.c_lexer.specs.State.{Roomy, Advances, kept_with}
use Rattle.c_lexer_pieces.specs.PieceFacts.{PieceFits}
use Rattle.c_lexer.specs.declared.lexer.Lexer.{Lexer}
use Rattle.c_lexer_pieces.specs.Values.{after_close}
use Rattle.c_lexer_pieces.proofs.CommentLaws.{unclosed-after}
use Rattle.c_lexer_pieces.proofs.Fronts.{piece-read}
use Rattle.c_lexer.proofs.Room.{room-next, piece-text}
use Rattle.c_lexer.proofs.lexer.Lexer.step.Goals as goal

pub kind_of-requires-clause-named : goal.kind_of-requires-clause-named
kind_of-requires-clause-named c =
    let l = c.args.self.now in
    let e : piece_at l.fresh (known_by l.defined) l.left.now ≡ Some (piece_of c.in-Some.found, c.in-Some.rest.now) = search rules in
    (piece-read l.fresh (known_by l.defined) l.left.now (piece_of c.in-Some.found, c.in-Some.rest.now) e).named

pub keep-requires-clause-room : goal.keep-requires-clause-room
keep-requires-clause-room c =
    let l = c.args.self.now in
    let room : Roomy l = c.requires.roomy in
    let e : piece_at l.fresh (known_by l.defined) l.left.now ≡ Some (piece_of c.in-Some.found, c.in-Some.rest.now) = search rules in
    let read = piece-read l.fresh (known_by l.defined) l.left.now (piece_of c.in-Some.found, c.in-Some.rest.now) e in
    let kind : c.in_ok-kind.kind ≡ kind_at (known_by l.defined) (piece_of c.in-Some.found) = c.in_ok-kind.ensures.value in
    record {
      kept = room.kept;
      first_line = room.first_line;
      last_line = omega (arith, room.line_room);
      kept_lines = room.kept_lines;
      text = omega (arith, ap (λ k. sum_by text_len (with_line l.line k)) kind, piece-text l.line (known_by l.defined) (piece_of c.in-Some.found), read.short, room.text_room);
      fits = c.in_ok-kind.ensures.fits;
    }

pub overflow_sub-taken : goal.overflow_sub-taken
overflow_sub-taken c =
    let l = c.args.self.now in
    let e : piece_at l.fresh (known_by l.defined) l.left.now ≡ Some (piece_of c.in-Some.found, c.in-Some.rest.now) = search rules in
    omega (arith, (piece-read l.fresh (known_by l.defined) l.left.now (piece_of c.in-Some.found, c.in-Some.rest.now) e).less)

pub returns-clause-roomy : goal.returns-clause-roomy
returns-clause-roomy c =
    let l = c.args.self.now in
    let e : piece_at l.fresh (known_by l.defined) l.left.now ≡ Some (piece_of c.in-Some.found, c.in-Some.rest.now) = search rules in
    let new : Lexer = record { left = c.in-Some.rest; closes = _; fresh = c.moved-fresh.result.0; line = c.moved-fresh.result.1; defined = c.define.new.defined; tokens = c.keep.new.tokens; count = c.in_ok-self.field-0 } in
    let kind : c.in_ok-kind.kind ≡ kind_at (known_by l.defined) (piece_of c.in-Some.found) = c.in_ok-kind.ensures.value in
    let a : Advances l new = record {
      piece = piece_of c.in-Some.found;
      found = e;
      fresh = c.moved-fresh.ensures.fresh;
      line = c.moved-fresh.ensures.line;
      known = c.in_ok-define.ensures;
      count = c.in_ok-self.ensures.count ∙ ap (λ k. l.count + length (with_line l.line k)) kind;
      tokens = c.in_ok-self.ensures.kept ∙ ap (λ k. kept_with l.count l.tokens (with_line l.line k)) kind;
    } in
    let fits : PieceFits (piece_of c.in-Some.found) = search rules in
    room-next l new a c.requires.roomy (piece-read l.fresh (known_by l.defined) l.left.now (piece_of c.in-Some.found, c.in-Some.rest.now) e) fits

pub returns-clause-shorter : goal.returns-clause-shorter
returns-clause-shorter c =
    let l = c.args.self.now in
    let e : piece_at l.fresh (known_by l.defined) l.left.now ≡ Some (piece_of c.in-Some.found, c.in-Some.rest.now) = search rules in
    (piece-read l.fresh (known_by l.defined) l.left.now (piece_of c.in-Some.found, c.in-Some.rest.now) e).less

pub returns-clause-closing : goal.returns-clause-closing
returns-clause-closing c = λ closed.
    let l = c.args.self.now in
    let e : piece_at l.fresh (known_by l.defined) l.left.now ≡ Some (piece_of c.in-Some.found, c.in-Some.rest.now) = search rules in
    let splits = (piece-read l.fresh (known_by l.defined) l.left.now (piece_of c.in-Some.found, c.in-Some.rest.now) e).splits in
    unclosed-after splits.front c.in-Some.rest.now (ap after_close (sym splits.is) ∙ c.may_close-closes.ensures closed)
