-- A comment is read where one stands, and nothing else is.
use Rattle.std.proofs.Common.{◌≡◌, ℕ, Bool, true, false, cond, ◌&&◌, List, [], ◌∷◌, ◌++◌, drop, Option, Some, None, refl, ap, sym, ◌∙◌, eqb, ⊎_elim, subst, option_and_then}
use Rattle.std.proofs.lemmas.Bool.{eqb-true}
use Rattle.base_lists.proofs.Tests.{cond_cases_of}
use Rattle.c_lexer_pieces.specs.declared.bytes.Class.TheVariants as class
use Rattle.c_lexer_pieces.specs.Bytes.{is_of_class, run_of_class, bytes_past_run, begins_with_byte}
use Rattle.c_lexer_pieces.specs.Reading.{strip_byte, comment_at}
use Rattle.c_lexer_pieces.specs.Values.{after_close}
use Rattle.c_lexer_pieces.specs.Pieces.{RunEnds, IsComment, line, block}
use Rattle.c_lexer_pieces.proofs.RunLaws.{run-past, run-AllOf, past-RunEnds, past-append}
use Rattle.c_lexer_pieces.proofs.Steps.{bound, strip-some}

-- a comment in front of the rest
pub record SplitsComment (bytes rest : List ℕ) : Type 0 where
  pub front : List ℕ
  pub is : bytes ≡ front ++ rest
  pub comment : IsComment front rest

pub record Closes (bytes rest : List ℕ) : Type 0 where
  pub body : List ℕ
  pub is : bytes ≡ body ++ rest
  pub close : after_close body ≡ Some []

-- what closes has a first byte, whatever follows
begins-append : (c : ℕ) (body after : List ℕ) → after_close body ≡ Some [] → begins_with_byte c (body ++ after) ≡ begins_with_byte c body
begins-append c [] after h = cc
begins-append c (b ∷ bs) after h = refl

never : (b : Bool) (x y : List ℕ) → cond (b && false) (Some x) None ≡ Some y → ⊥
never true x y h = cc
never false x y h = cc

pub close-splits : (bytes rest : List ℕ) → after_close bytes ≡ Some rest → Closes bytes rest
close-splits [] rest h = cc
close-splits (b ∷ []) rest h = elim (eqb b 42) as (λ v. cond (v && false) (Some []) None ≡ Some rest → Closes (b ∷ []) rest) [ true ↦ λ e. cc | false ↦ λ e. cc ] h
close-splits (b ∷ c ∷ cs) rest h =
    ⊎_elim
    (λ (w : ((eqb b 42 && eqb c 47) ≡ true) × (Some cs ≡ Some rest)). let same : cs ≡ rest = cc in record { body = b ∷ c ∷ []; is = ap (λ xs. b ∷ c ∷ xs) same; close = rw w.0 refl })
    (λ (w : ((eqb b 42 && eqb c 47) ≡ false) × (after_close (c ∷ cs) ≡ Some rest)).
    let inner = close-splits (c ∷ cs) rest w.1 in
    let first : begins_with_byte 47 inner.body ≡ eqb c 47 = sym (begins-append 47 inner.body rest inner.close) ∙ ap (begins_with_byte 47) (sym inner.is) in
    record { body = b ∷ inner.body; is = ap (λ xs. b ∷ xs) inner.is; close = rw (first, w.0) inner.close })
    (cond_cases_of (eqb b 42 && eqb c 47) (Some cs) (after_close (c ∷ cs)) (Some rest) h)

pub close-append : (body after : List ℕ) → after_close body ≡ Some [] → after_close (body ++ after) ≡ Some after
close-append [] after h = cc
close-append (b ∷ []) after h = absurd (never (eqb b 42) [] [] h)
close-append (b ∷ c ∷ cs) after h =
    ⊎_elim
    (λ (w : ((eqb b 42 && eqb c 47) ≡ true) × (Some cs ≡ Some [])). let none : cs ≡ [] = cc in rw (w.0, none) refl)
    (λ (w : ((eqb b 42 && eqb c 47) ≡ false) × (after_close (c ∷ cs) ≡ Some [])). rw w.0 (close-append (c ∷ cs) after w.1))
    (cond_cases_of (eqb b 42 && eqb c 47) (Some cs) (after_close (c ∷ cs)) (Some []) h)

unchosen : (b : Bool) (x : List ℕ) (o : Option (List ℕ)) → cond b (Some x) o ≡ None → o ≡ None
unchosen true x o h = cc
unchosen false x o h = h

-- where no `*/` comes, none comes farther on
pub unclosed-after : (front rest : List ℕ) → after_close (front ++ rest) ≡ None → after_close rest ≡ None
unclosed-after [] rest h = h
unclosed-after (b ∷ bs) rest h = unclosed-after bs rest (unchosen (eqb b 42 && begins_with_byte 47 (bs ++ rest)) (drop 1 (bs ++ rest)) (after_close (bs ++ rest)) h)

pub unclosed_body : (bytes rest body : List ℕ) → after_close bytes ≡ None → strip_byte 47 bytes ≡ Some rest → strip_byte 42 rest ≡ Some body → after_close body ≡ None
unclosed_body bytes rest body h first second =
    let is : bytes ≡ 47 ∷ 42 ∷ body = strip-some 47 bytes rest first ∙ ap (λ xs. 47 ∷ xs) (strip-some 42 rest body second) in
    unclosed-after (47 ∷ 42 ∷ []) body (ap after_close (sym is) ∙ h)

pub begins-is : (c : ℕ) (bytes : List ℕ) → begins_with_byte c bytes ≡ true → bytes ≡ c ∷ drop 1 bytes
begins-is c [] h = cc
begins-is c (b ∷ bs) h = let same : b ≡ c = eqb-true b c h in ap (λ x. x ∷ bs) same

line_past : (r : List ℕ) → bytes_past_run class.Line (47 ∷ r) ≡ bytes_past_run class.Line r
unfolding is_of_class
line_past r = refl

line_splits : (bytes r rest : List ℕ) → bytes ≡ 47 ∷ 47 ∷ r → bytes_past_run class.Line (47 ∷ r) ≡ rest → SplitsComment bytes rest
line_splits bytes r rest is h =
    let past_is : bytes_past_run class.Line r ≡ rest = sym (line_past r) ∙ h in
    record {
      front = 47 ∷ 47 ∷ run_of_class class.Line r;
      is = is ∙ ap (λ xs. 47 ∷ 47 ∷ xs) (sym (run-past class.Line r) ∙ ap (λ xs. run_of_class class.Line r ++ xs) past_is);
      comment = line (run_of_class class.Line r) refl (run-AllOf class.Line r) (subst (RunEnds class.Line) past_is (past-RunEnds class.Line r));
    }

block_splits : (bytes r rest : List ℕ) → bytes ≡ 47 ∷ 42 ∷ r → Closes r rest → SplitsComment bytes rest
block_splits bytes r rest is closes = record {
  front = 47 ∷ 42 ∷ closes.body;
  is = is ∙ ap (λ xs. 47 ∷ 42 ∷ xs) closes.is;
  comment = block closes.body refl closes.close;
}

pub comment-splits : (bytes rest : List ℕ) → comment_at bytes ≡ Some rest → SplitsComment bytes rest
unfolding comment_at
comment-splits bytes rest h =
    let first = bound (strip_byte 47 bytes) (λ r. cond (begins_with_byte 47 r) (Some (bytes_past_run class.Line r)) (option_and_then after_close (strip_byte 42 r))) rest h in
    let r = first.value in
    let bytes_is = strip-some 47 bytes r first.is in
    ⊎_elim
    (λ (w : (begins_with_byte 47 r ≡ true) × (Some (bytes_past_run class.Line r) ≡ Some rest)).
    let r_is = begins-is 47 r w.0 in
    let past_is : bytes_past_run class.Line r ≡ rest = cc in
    line_splits bytes (drop 1 r) rest (bytes_is ∙ ap (λ xs. 47 ∷ xs) r_is) (ap (bytes_past_run class.Line) (sym r_is) ∙ past_is))
    (λ (w : (begins_with_byte 47 r ≡ false) × (option_and_then after_close (strip_byte 42 r) ≡ Some rest)).
    let second = bound (strip_byte 42 r) after_close rest w.1 in
    block_splits bytes second.value rest (bytes_is ∙ ap (λ xs. 47 ∷ xs) (strip-some 42 r second.value second.is)) (close-splits second.value rest second.then))
    (cond_cases_of (begins_with_byte 47 r) (Some (bytes_past_run class.Line r)) (option_and_then after_close (strip_byte 42 r)) (Some rest) first.then)

pub comment-append : (bytes after : List ℕ) → IsComment bytes after → comment_at (bytes ++ after) ≡ Some after
unfolding comment_at
comment-append bytes after (line body is all stops) =
    rw is (ap Some (line_past (body ++ after) ∙ past-append class.Line body after all stops))
comment-append bytes after (block body is close) = rw is (close-append body after close)
