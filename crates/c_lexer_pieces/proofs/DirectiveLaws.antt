-- Directives are read where they stand, and nothing else is.
use Rattle.std.proofs.Common.{◌≡◌, ◌+◌, ◌<◌, ℕ, zero, suc, length, Bool, true, false, cond, ◌||◌, eqb, List, [], ◌∷◌, ◌++◌, take, drop, Option, Some, None, option_and_then, is_some, refl, ap, sym, ◌∙◌, ⊎_elim, inl, inr, subst, arith, take-append-drop}
use Rattle.std.specs.Prelude.{codes}
use Rattle.std.specs.Str.{bytes_eq}
use Rattle.std.specs.Option.{option_map_or}
use Rattle.std.proofs.lemmas.Slice.Eq.{bytes_eq-Decides}
use Rattle.std.proofs.lemmas.Bool.{eqb-true}
use Rattle.std.proofs.lemmas.Option.{cond_some}
use Rattle.base_lists.proofs.Tests.{cond_cases_of}
use Rattle.base_lists.proofs.Options.{not_some}
use Rattle.cbi_base.specs.Name.{IsName}
use Rattle.c_syntax.specs.declared.parts.Constant.{Constant}
use Rattle.c_lexer_pieces.specs.declared.bytes.Class.TheVariants as class
use Rattle.c_lexer_pieces.specs.Bytes.{is_of_class, run_of_class, bytes_past_run, begins_with_byte, begins_with}
use Rattle.c_lexer_pieces.specs.Spellings.{word_of}
use Rattle.c_lexer_pieces.specs.Reading.{first_some, strip_byte, strip_text, blanks_at, constant_at, number_at, character_at, name_at, comment_at, trailing_at, trails_within, is_directive_end, header_at, header_line, is_include, defined_name_at, define_in}
use Rattle.c_lexer_pieces.specs.Pieces.{AllOf, IsConstant, IsTrailing, blank, return, comment, EndsLine, IsHeader, standard_io, standard_library, assert, IsInclude, IsDefine}
use Rattle.c_lexer_pieces.proofs.RunLaws.{run-past, run-AllOf}
use Rattle.c_lexer_pieces.proofs.CommentLaws.{comment-splits}
use Rattle.c_lexer_pieces.proofs.Fronts.{name-parts, name-IsName, first_of-some}
use Rattle.c_lexer_pieces.proofs.SoundLaws.{number-found, character-found}
use Rattle.c_lexer_pieces.proofs.Steps.{bound, some_unless, strip-some}

pub strip_text-some : (front bytes rest : List ℕ) → strip_text front bytes ≡ Some rest → bytes ≡ front ++ rest
strip_text-some front bytes rest h =
    let found = cond_some (bytes_eq front (take (length front) bytes)) (drop (length front) bytes) rest h in
    let same : front ≡ take (length front) bytes = (bytes_eq-Decides front (take (length front) bytes)).0 found.0 in
    sym (take-append-drop (length front) bytes) ∙ (λ i. sym same i ++ found.1 i)

record TrailingFound (bytes rest : List ℕ) : Type 0 where
  front : List ℕ
  is : bytes ≡ front ++ rest
  trailing : IsTrailing front rest

blank-found : (b : ℕ) (bs rest : List ℕ) → (is_of_class class.Blank b || eqb b 13) ≡ true → bs ≡ rest → TrailingFound (b ∷ bs) rest
blank-found b bs rest h e =
    elim (is_of_class class.Blank b) as (λ v. is_of_class class.Blank b ≡ v → (v || eqb b 13) ≡ true → TrailingFound (b ∷ bs) rest) [
      | true ↦ λ f g. record { front = b ∷ []; is = ap (λ xs. b ∷ xs) e; trailing = blank b refl f }
      | false ↦ λ f g. record { front = b ∷ []; is = ap (λ xs. b ∷ xs) e; trailing = return (ap (λ x. x ∷ []) (eqb-true b 13 g)) }
    ] refl h

comment-trailing : (bytes rest : List ℕ) → comment_at bytes ≡ Some rest → TrailingFound bytes rest
comment-trailing bytes rest h = let c = comment-splits bytes rest h in record { front = c.front; is = c.is; trailing = comment c.comment }

trailing-found : (bytes rest : List ℕ) → trailing_at bytes ≡ Some rest → TrailingFound bytes rest
unfolding trailing_at
trailing-found [] rest h = comment-trailing [] rest h
trailing-found (b ∷ bs) rest h =
    ⊎_elim
    (λ (w : ((is_of_class class.Blank b || eqb b 13) ≡ true) × (Some bs ≡ Some rest)). blank-found b bs rest w.0 (let e : Some bs ≡ Some rest = w.1 in cc))
    (λ (w : ((is_of_class class.Blank b || eqb b 13) ≡ false) × (comment_at (b ∷ bs) ≡ Some rest)). comment-trailing (b ∷ bs) rest w.1)
    (cond_cases_of (is_of_class class.Blank b || eqb b 13) (Some bs) (comment_at (b ∷ bs)) (Some rest) h)

trails-more : (n : ℕ) (bytes : List ℕ) (o : Option (List ℕ)) → o ≡ trailing_at bytes → ((rest : List ℕ) → trails_within n rest ≡ true → EndsLine rest) → option_map_or (trails_within n) o false ≡ true → EndsLine bytes
trails-more n bytes None e inner h = cc
trails-more n bytes (Some rest) e inner h =
    let found = trailing-found bytes rest (sym e) in
    let ends = inner rest h in
    (suc ends.0, (found.front, rest, found.is, found.trailing, ends.1))

trails_within-ends : (n : ℕ) (bytes : List ℕ) → trails_within n bytes ≡ true → EndsLine bytes
trails_within-ends zero bytes h = cc
trails_within-ends (suc n) [] h = (zero, refl)
trails_within-ends (suc n) (b ∷ bs) h = trails-more n (b ∷ bs) (trailing_at (b ∷ bs)) refl (λ rest. trails_within-ends n rest) h

pub trails-ends : (bytes : List ℕ) → is_directive_end bytes ≡ true → EndsLine bytes
unfolding is_directive_end
trails-ends bytes h = trails_within-ends (length bytes + 1) bytes h

record HeaderFound (bytes rest : List ℕ) : Type 0 where
  header : List ℕ
  is : bytes ≡ header ++ rest
  is_header : IsHeader header

header-found : (bytes rest : List ℕ) → header_at bytes ≡ Some rest → HeaderFound bytes rest
header-found bytes rest h =
    ⊎_elim
    (λ (w : strip_text (codes "<stdio.h>") bytes ≡ Some rest). record { header = codes "<stdio.h>"; is = strip_text-some (codes "<stdio.h>") bytes rest w; is_header = standard_io refl })
    (λ (v : first_some (strip_text (codes "<stdlib.h>") bytes) (strip_text (codes "<assert.h>") bytes) ≡ Some rest).
    ⊎_elim
    (λ (w : strip_text (codes "<stdlib.h>") bytes ≡ Some rest). record { header = codes "<stdlib.h>"; is = strip_text-some (codes "<stdlib.h>") bytes rest w; is_header = standard_library refl })
    (λ (w : strip_text (codes "<assert.h>") bytes ≡ Some rest). record { header = codes "<assert.h>"; is = strip_text-some (codes "<assert.h>") bytes rest w; is_header = assert refl })
    (first_of-some (strip_text (codes "<stdlib.h>") bytes) (strip_text (codes "<assert.h>") bytes) rest v))
    (first_of-some (strip_text (codes "<stdio.h>") bytes) (first_some (strip_text (codes "<stdlib.h>") bytes) (strip_text (codes "<assert.h>") bytes)) rest h)

map_or-true : (f : List ℕ → Bool) (o : Option (List ℕ)) → option_map_or f o false ≡ true → (rest : List ℕ) × (o ≡ Some rest) × (f rest ≡ true)
map_or-true f None h = cc
map_or-true f (Some rest) h = (rest, refl, h)

-- A line that begins with `#` and blanks, and goes on as an `#include`, is one.
pub include-found : (line rest : List ℕ) → strip_byte 35 line ≡ Some rest → is_include (bytes_past_run class.Blank rest) ≡ true → IsInclude line
unfolding is_include
include-found line rest opens h =
    let text = bytes_past_run class.Blank rest in
    let a = map_or-true is_directive_end (header_line text) h in
    let b = bound (strip_text (codes "include") text) (λ r. header_at (bytes_past_run class.Blank r)) a.0 a.1 in
    let header = header-found (bytes_past_run class.Blank b.value) a.0 b.then in
    record {
      before_word = run_of_class class.Blank rest;
      before_header = run_of_class class.Blank b.value;
      header = header.header;
      end = a.0;
      is = strip-some 35 line rest opens ∙ ap (λ xs. 35 ∷ xs) (sym (run-past class.Blank rest) ∙ ap (λ xs. run_of_class class.Blank rest ++ xs) (strip_text-some (codes "include") text b.value b.is ∙ ap (λ xs. codes "include" ++ xs) (sym (run-past class.Blank b.value) ∙ ap (λ xs. run_of_class class.Blank b.value ++ xs) header.is)));
      blanks = run-AllOf class.Blank rest;
      more_blanks = run-AllOf class.Blank b.value;
      is_header = header.is_header;
      ends = trails-ends a.0 a.2;
    }

record BlanksFound (bytes rest : List ℕ) : Type 0 where
  blanks : List ℕ
  is : bytes ≡ blanks ++ rest
  all : AllOf class.Blank blanks
  some : 0 < length blanks

run-some : (bytes : List ℕ) → begins_with class.Blank bytes ≡ true → 0 < length (run_of_class class.Blank bytes)
run-some [] h = cc
run-some (b ∷ bs) h = rw h (omega arith)

blanks-found : (bytes rest : List ℕ) → blanks_at bytes ≡ Some rest → BlanksFound bytes rest
blanks-found bytes rest h =
    let found = cond_some (begins_with class.Blank bytes) (bytes_past_run class.Blank bytes) rest h in
    record {
      blanks = run_of_class class.Blank bytes;
      is = sym (run-past class.Blank bytes) ∙ ap (λ xs. run_of_class class.Blank bytes ++ xs) found.1;
      all = run-AllOf class.Blank bytes;
      some = run-some bytes found.0;
    }

record ConstantFound (bytes : List ℕ) (x : Constant × List ℕ) : Type 0 where
  spelled : List ℕ
  is : bytes ≡ spelled ++ x.1
  constant : IsConstant spelled x.1 x.0

constant-found : (bytes : List ℕ) (x : Constant × List ℕ) → constant_at bytes ≡ Some x → ConstantFound bytes x
constant-found bytes x h =
    ⊎_elim
    (λ (w : (begins_with_byte 39 bytes ≡ true) × (character_at bytes ≡ Some x)). let c = character-found bytes x w.1 in record { spelled = c.front; is = c.is; constant = inr c.character })
    (λ (w : (begins_with_byte 39 bytes ≡ false) × (number_at bytes ≡ Some x)). let n = number-found bytes x w.1 in record { spelled = n.front; is = n.is; constant = inl n.number })
    (cond_cases_of (begins_with_byte 39 bytes) (character_at bytes) (number_at bytes) (Some x) h)

record NameFound (bytes : List ℕ) (x : List ℕ × List ℕ) : Type 0 where
  spelled : List ℕ
  word_is : strip_text (codes "define") bytes ≡ Some spelled
  named : List ℕ
  blanks_is : blanks_at spelled ≡ Some named
  is : named ≡ x.0 ++ x.1
  is_name : IsName x.0
  no_word : word_of x.0 ≡ None

name-whole : (bytes : List ℕ) (x : List ℕ × List ℕ) → name_at bytes ≡ Some x → bytes ≡ x.0 ++ x.1
name-whole bytes x h = sym (run-past class.Name bytes) ∙ ap (λ (y : List ℕ × List ℕ). y.0 ++ y.1) (name-parts bytes x h).1

defined-name-found : (bytes : List ℕ) (x : List ℕ × List ℕ) → defined_name_at bytes ≡ Some x → NameFound bytes x
unfolding defined_name_at
defined-name-found bytes x h =
    let a = bound (strip_text (codes "define") bytes) (λ rest. option_and_then (λ spelled. option_and_then (λ n. cond (is_some (word_of n.0)) None (Some n)) (name_at spelled)) (blanks_at rest)) x h in
    let b = bound (blanks_at a.value) (λ spelled. option_and_then (λ n. cond (is_some (word_of n.0)) None (Some n)) (name_at spelled)) x a.then in
    let c = bound (name_at b.value) (λ n. cond (is_some (word_of n.0)) None (Some n)) x b.then in
    let d = some_unless (is_some (word_of c.value.0)) (Some c.value) x c.then in
    let same : c.value ≡ x = let e : Some c.value ≡ Some x = d.1 in cc in
    let named : name_at b.value ≡ Some x = c.is ∙ ap Some same in
    record {
      spelled = a.value;
      word_is = a.is;
      named = b.value;
      blanks_is = b.is;
      is = name-whole b.value x named;
      is_name = name-IsName b.value x named;
      no_word = subst (λ (y : List ℕ × List ℕ). word_of y.0 ≡ None) same (not_some (word_of c.value.0) d.0);
    }

-- A line that begins with `#` and blanks, and goes on as a `#define`, is one.
pub define-found : (line rest : List ℕ) (x : List ℕ × Constant) → strip_byte 35 line ≡ Some rest → define_in (bytes_past_run class.Blank rest) ≡ Some x → IsDefine line x.0 x.1
unfolding define_in
define-found line rest x opens h =
    let text = bytes_past_run class.Blank rest in
    let a = bound (defined_name_at text) (λ n. option_and_then (λ spelled. option_and_then (λ c. cond (is_directive_end c.1) (Some (n.0, c.0)) None) (constant_at spelled)) (blanks_at n.1)) x h in
    let n = a.value in
    let b = bound (blanks_at n.1) (λ spelled. option_and_then (λ c. cond (is_directive_end c.1) (Some (n.0, c.0)) None) (constant_at spelled)) x a.then in
    let c = bound (constant_at b.value) (λ c. cond (is_directive_end c.1) (Some (n.0, c.0)) None) x b.then in
    let d = cond_some (is_directive_end c.value.1) (n.0, c.value.0) x c.then in
    let name = defined-name-found text n a.is in
    let before_name = blanks-found name.spelled name.named name.blanks_is in
    let before_constant = blanks-found n.1 b.value b.is in
    let constant = constant-found b.value c.value c.is in
    let whole : line ≡ 35 ∷ run_of_class class.Blank rest ++ (codes "define" ++ (before_name.blanks ++ (n.0 ++ (before_constant.blanks ++ (constant.spelled ++ c.value.1))))) =
    strip-some 35 line rest opens ∙ ap (λ xs. 35 ∷ xs) (sym (run-past class.Blank rest) ∙ ap (λ xs. run_of_class class.Blank rest ++ xs) (strip_text-some (codes "define") text name.spelled name.word_is ∙ ap (λ xs. codes "define" ++ xs) (before_name.is ∙ ap (λ xs. before_name.blanks ++ xs) (name.is ∙ ap (λ xs. n.0 ++ xs) (before_constant.is ∙ ap (λ xs. before_constant.blanks ++ xs) constant.is))))) in
    let defines : IsDefine line n.0 c.value.0 = record {
      before_word = run_of_class class.Blank rest;
      before_name = before_name.blanks;
      before_constant = before_constant.blanks;
      spelled = constant.spelled;
      end = c.value.1;
      is = whole;
      blanks = run-AllOf class.Blank rest;
      some_blanks = (before_name.all, before_name.some);
      more_blanks = (before_constant.all, before_constant.some);
      is_name = name.is_name;
      no_word = name.no_word;
      is_constant = constant.constant;
      ends = trails-ends c.value.1 d.0;
    } in
    subst (λ (y : List ℕ × Constant). IsDefine line y.0 y.1) d.1 defines
