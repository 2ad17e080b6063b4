-- What is read is shorter than what it was read from.
use Rattle.std.proofs.Common.{◌≡◌, ◌≤◌, ◌<◌, ℕ, length, true, false, cond, ◌||◌, eqb, List, [], ◌∷◌, take, drop, Option, Some, None, is_some, ap, sym, ⊎_elim, arith, length-append, length-drop}
use Rattle.c_lexer_pieces.proofs.DirectiveReads.{comment-some}
use Rattle.base_lists.proofs.Tests.{cond_cases_of}
use Rattle.c_lexer_pieces.specs.declared.bytes.Class.{Class}
use Rattle.c_lexer_pieces.specs.declared.bytes.Class.TheVariants as class
use Rattle.c_lexer_pieces.specs.Bytes.{run_of_class, bytes_past_run, begins_with_byte, begins_with}
use Rattle.c_lexer_pieces.specs.Reading.{with_rest, byte_of, octal_at, hexadecimal_escape_at, escape_at, element_at, trailing_at, comment_at}
use Rattle.c_lexer_pieces.specs.Values.{simple_escape}
use Rattle.c_lexer_pieces.proofs.RunLaws.{run-past}
use Rattle.c_lexer_pieces.proofs.CommentLaws.{comment-splits}
use Rattle.c_lexer_pieces.proofs.Steps.{bound}

pub past-le : (k : Class) (bytes : List ℕ) → length (bytes_past_run k bytes) ≤ length bytes
past-le k bytes = omega (arith, ap length (run-past k bytes), length-append (run_of_class k bytes) (bytes_past_run k bytes))

with_rest-is : {A : Type 0} (o : Option A) (rest : List ℕ) (x : A × List ℕ) → with_rest o rest ≡ Some x → x.1 ≡ rest
with_rest-is o rest x h =
    let found = bound o (λ y. Some (y, rest)) x h in
    let e : Some (found.value, rest) ≡ Some x = found.then in
    let same : (found.value, rest) ≡ x = cc in
    ap (λ y. y.1) (sym same)

octal-le : (bytes : List ℕ) (x : ℕ × List ℕ) → octal_at bytes ≡ Some x → length x.1 ≤ length bytes
unfolding octal_at
octal-le bytes x h =
    let digits = run_of_class class.Octal (take 3 bytes) in
    omega (arith, ap length (with_rest-is (byte_of 8 digits) (drop (length digits) bytes) x h), length-drop (length digits) bytes)

hexadecimal-le : (bytes : List ℕ) (x : ℕ × List ℕ) → hexadecimal_escape_at bytes ≡ Some x → length x.1 ≤ length bytes
unfolding hexadecimal_escape_at
hexadecimal-le bytes x h =
    omega (arith, ap length (with_rest-is (byte_of 16 (run_of_class class.Hexadecimal bytes)) (bytes_past_run class.Hexadecimal bytes) x h), past-le class.Hexadecimal bytes)

escape-le : (bytes : List ℕ) (x : ℕ × List ℕ) → escape_at bytes ≡ Some x → length x.1 ≤ length bytes
unfolding escape_at
escape-le [] x h = cc
escape-le (c ∷ rest) x h =
    ⊎_elim
    (λ (w : (eqb c 120 ≡ true) × (hexadecimal_escape_at rest ≡ Some x)). omega (arith, hexadecimal-le rest x w.1))
    (λ (w : (eqb c 120 ≡ false) × (cond (is_some (simple_escape c)) (with_rest (simple_escape c) rest) (octal_at (c ∷ rest)) ≡ Some x)).
    ⊎_elim
    (λ (v : (is_some (simple_escape c) ≡ true) × (with_rest (simple_escape c) rest ≡ Some x)). omega (arith, ap length (with_rest-is (simple_escape c) rest x v.1)))
    (λ (v : (is_some (simple_escape c) ≡ false) × (octal_at (c ∷ rest) ≡ Some x)). octal-le (c ∷ rest) x v.1)
    (cond_cases_of (is_some (simple_escape c)) (with_rest (simple_escape c) rest) (octal_at (c ∷ rest)) (Some x) w.1))
    (cond_cases_of (eqb c 120) (hexadecimal_escape_at rest) (cond (is_some (simple_escape c)) (with_rest (simple_escape c) rest) (octal_at (c ∷ rest))) (Some x) h)

pub element-less : (quote : ℕ) (bytes : List ℕ) (x : ℕ × List ℕ) → element_at quote bytes ≡ Some x → length x.1 < length bytes
unfolding element_at
element-less quote [] x h = cc
element-less quote (c ∷ rest) x h =
    ⊎_elim
    (λ (w : ((eqb c 10 || eqb c quote) ≡ true) × (None ≡ Some x)). absurd cc)
    (λ (w : ((eqb c 10 || eqb c quote) ≡ false) × (cond (eqb c 92) (escape_at rest) (Some (c, rest)) ≡ Some x)).
    ⊎_elim
    (λ (v : (eqb c 92 ≡ true) × (escape_at rest ≡ Some x)). omega (arith, escape-le rest x v.1))
    (λ (v : (eqb c 92 ≡ false) × (Some (c, rest) ≡ Some x)). let same : (c, rest) ≡ x = cc in omega (arith, ap (λ y. length y.1) same))
    (cond_cases_of (eqb c 92) (escape_at rest) (Some (c, rest)) (Some x) w.1))
    (cond_cases_of (eqb c 10 || eqb c quote) None (cond (eqb c 92) (escape_at rest) (Some (c, rest))) (Some x) h)

pub comment-less : (bytes rest : List ℕ) → comment_at bytes ≡ Some rest → length rest < length bytes
comment-less bytes rest h =
    let s = comment-splits bytes rest h in
    omega (arith, ap length s.is, length-append s.front rest, comment-some s.front rest s.comment)

pub trailing-less : (bytes rest : List ℕ) → 0 < length bytes → trailing_at bytes ≡ Some rest → length rest < length bytes
unfolding trailing_at
trailing-less bytes rest nonempty h =
    ⊎_elim
    (λ (w : ((begins_with class.Blank bytes || begins_with_byte 13 bytes) ≡ true) × (Some (drop 1 bytes) ≡ Some rest)). let same : drop 1 bytes ≡ rest = cc in omega (arith, ap length same, length-drop 1 bytes))
    (λ (w : ((begins_with class.Blank bytes || begins_with_byte 13 bytes) ≡ false) × (comment_at bytes ≡ Some rest)). comment-less bytes rest w.1)
    (cond_cases_of (begins_with class.Blank bytes || begins_with_byte 13 bytes) (Some (drop 1 bytes)) (comment_at bytes) (Some rest) h)
