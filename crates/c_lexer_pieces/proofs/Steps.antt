-- What a reader's answer says of the steps that made it.
use Rattle.std.proofs.Common.{◌≡◌, ℕ, Bool, true, false, cond, eqb, ◌⊎◌, List, [], ◌∷◌, Option, Some, None, option_and_then, refl, arith}
use Rattle.std.proofs.lemmas.Bool.Decides.{nat_tests}
use Rattle.std.proofs.lemmas.Option.{cond_some}
use Rattle.c_lexer_pieces.specs.Reading.{strip_byte}

pub record Bound {A B : Type 0} (o : Option A) (f : A → Option B) (y : B) : Type 0 where
  pub value : A
  pub is : o ≡ Some value
  pub then : f value ≡ Some y

pub bound : {A B : Type 0} (o : Option A) (f : A → Option B) (y : B) → option_and_then f o ≡ Some y → Bound o f y
bound None f y h = cc
bound (Some x) f y h = record { value = x; is = refl; then = h }

pub some_unless : {A : Type 0} (b : Bool) (o : Option A) (z : A) → cond b None o ≡ Some z → (b ≡ false) × (o ≡ Some z)
some_unless true o z h = cc
some_unless false o z h = (refl, h)

pub strip-some : (b : ℕ) (bytes rest : List ℕ) → strip_byte b bytes ≡ Some rest → bytes ≡ b ∷ rest
strip-some b [] rest h = cc
strip-some b (c ∷ cs) rest h =
    let found = cond_some (eqb c b) cs rest h in
    let same : c ≡ b = grind (arith, nat_tests) in
    cc
