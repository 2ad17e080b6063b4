-- One turn of a bounded reading.
use Rattle.std.proofs.Common.{◌≡◌, ◌<◌, ℕ, suc, length, true, false, List, [], ◌∷◌, ◌++◌, drop, Option, Some, None, option_and_then, refl, ap, sym, append_assoc, append-nil, arith}
use Rattle.c_lexer_pieces.specs.Bytes.{begins_with_byte}
use Rattle.c_lexer_pieces.specs.Reading.{element_at, text_within, trails_within, trailing_at}
use Rattle.c_lexer_pieces.proofs.Unrolled.{with_front}

front_more : (front : List ℕ) (v : ℕ) (o : Option (List ℕ × List ℕ)) → with_front front (option_and_then (λ t. Some (v ∷ t.0, t.1)) o) ≡ with_front (front ++ v ∷ []) o
front_more front v None = refl
front_more front v (Some t) = ap (λ xs. Some (xs, t.1)) (sym (append_assoc front (v ∷ []) t.0))

pub text-turn : (n : ℕ) (front bytes : List ℕ) (x : ℕ × List ℕ) → begins_with_byte 34 bytes ≡ false → Some x ≡ element_at 34 bytes → with_front front (text_within (suc n) bytes) ≡ with_front (front ++ x.0 ∷ []) (text_within n x.1)
text-turn n front bytes x h e = rw (h, ← e) (front_more front x.0 (text_within n x.1))

pub text-stuck : (n : ℕ) (front bytes : List ℕ) → begins_with_byte 34 bytes ≡ false → None ≡ element_at 34 bytes → with_front front (text_within (suc n) bytes) ≡ None
text-stuck n front bytes h e = rw (h, ← e) refl

pub text-end : (n : ℕ) (front bytes : List ℕ) → begins_with_byte 34 bytes ≡ true → with_front front (text_within (suc n) bytes) ≡ Some (front, drop 1 bytes)
text-end n front bytes h = rw h (ap (λ xs. Some (xs, drop 1 bytes)) (append-nil front))

pub trails-turn : (n : ℕ) (bytes rest : List ℕ) → 0 < length bytes → Some rest ≡ trailing_at bytes → trails_within (suc n) bytes ≡ trails_within n rest
trails-turn n [] rest h e = absurd (omega arith)
trails-turn n (b ∷ bs) rest h e = rw (← e) refl

pub trails-stuck : (n : ℕ) (bytes : List ℕ) → 0 < length bytes → None ≡ trailing_at bytes → trails_within (suc n) bytes ≡ false
trails-stuck n [] h e = absurd (omega arith)
trails-stuck n (b ∷ bs) h e = rw (← e) refl

pub trails-end : (n : ℕ) (bytes : List ℕ) → length bytes ≡ 0 → trails_within (suc n) bytes ≡ true
trails-end n [] h = refl
trails-end n (b ∷ bs) h = absurd (omega arith)
