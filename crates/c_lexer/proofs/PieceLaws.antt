-- What is read at a place is the longest piece that stands there.
use Rattle.std.proofs.Common.{◌≡◌, ℕ, List, [], ◌++◌, length, refl, ap, sym, ◌∙◌, arith, length-append, Some, None}
use Rattle.c_lexer_pieces.specs.Cutting.{piece_at, plain_at, is_fresh}
use Rattle.c_lexer_pieces.specs.Piece.{Piece}
use Rattle.c_lexer_pieces.specs.Pieces.{Place}
use Rattle.c_lexer.specs.Lexing.{IsLongest, NothingStands}
use Rattle.c_lexer_pieces.proofs.StandLaws.{piece-stands}
use Rattle.c_lexer_pieces.proofs.Reach.{stands-reach}

pub record LongestRead (place : Place) (left : List ℕ) (x : Piece × List ℕ) : Type 0 where
  pub bytes : List ℕ
  pub is : left ≡ bytes ++ x.1
  pub longest : IsLongest place bytes x.1 x.0

pub longest-read : (place : Place) (left : List ℕ) (x : Piece × List ℕ) → piece_at (is_fresh place.before) place.known left ≡ Some x → LongestRead place left x
longest-read place left x h =
    let found = piece-stands place left x h in
    record {
      bytes = found.bytes;
      is = found.is;
      longest = record {
        stands = found.stands;
        longest = λ front rest other e stands.
            let r = stands-reach place front rest other stands in
            let one : Some x ≡ Some r.found = sym h ∙ ap (piece_at (is_fresh place.before) place.known) (found.is ∙ e) ∙ r.is in
            let same : x ≡ r.found = cc in
            omega (arith, ap length e, length-append found.bytes x.1, length-append front rest, ap (λ (z : Piece × List ℕ). length z.1) same, r.far);
      };
    }

pub nothing-read : (place : Place) (left : List ℕ) → piece_at (is_fresh place.before) place.known left ≡ None → NothingStands place left
nothing-read place left h = λ bytes after p is stands.
    let r = stands-reach place bytes after p stands in
    let one : None ≡ Some r.found = sym h ∙ ap (piece_at (is_fresh place.before) place.known) is ∙ r.is in
    cc

pub longest-is : (place : Place) (bytes after : List ℕ) (piece : Piece) → IsLongest place bytes after piece → piece_at (is_fresh place.before) place.known (bytes ++ after) ≡ Some (piece, after)
longest-is place bytes after piece h =
    let r = stands-reach place bytes after piece h.stands in
    let found = piece-stands place (bytes ++ after) r.found r.is in
    let short = h.longest found.bytes r.found.1 r.found.0 found.is found.stands in
    let n : length r.found.1 ≡ length after = omega (arith, ap length found.is, length-append bytes after, length-append found.bytes r.found.1, r.far) in
    r.is ∙ ap Some (r.same n)

pub nothing-at-end : (place : Place) → NothingStands place []
unfolding piece_at plain_at
nothing-at-end place = nothing-read place [] refl
