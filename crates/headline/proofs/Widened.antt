-- A collection of a part's reports, widened, is one of the whole program's.
use Rattle.std.proofs.Common.{◌<◌, ℕ, zero, suc, List, [], ◌∷◌, ◌++◌, Option, arith, refl}
use Rattle.std.specs.Prelude.{slice_index}
use Rattle.std.specs.Int.{byte_at, bytes_high_first, to_be_bytes, w32}
use Rattle.flow.specs.Sites.{PartFits}
use Rattle.collector.proofs.Leads.{spelled-is}
use Rattle.hex.specs.Hex.{IsBytes}
use Rattle.sha2.specs.Sha256.{digest_bytes, sha256}
use Rattle.sha2.proofs.Facts256.{length-sha256}
use Rattle.cbi_base.specs.Words.{IsId, Held}
use Rattle.collector.specs.Spelling.{WithLabels}
use Rattle.site_parts.specs.Laws.{FitsWhenWidened, MayWidenWhatFits}
use Rattle.site_parts.proofs.Widening.{text_is}
use Rattle.command_inputs.specs.Runs.{SpellRuns}
use Rattle.cbi_options.specs.declared.words.WidenWords.{WidenWords}
use Rattle.command_widen.specs.Widen.{IsWidened, widened_as}
use Rattle.command_widen.proofs.Widening.{fit_whole, may_widen}

-- a digest has bytes
byte-small : (i n : ℕ) → byte_at i n < 256
byte-small zero n = omega arith
byte-small (suc i) n = omega arith

word-bytes : (n k : ℕ) → IsBytes (bytes_high_first k n)
word-bytes n zero i = omega arith
word-bytes n (suc k) zero = byte-small k n
word-bytes n (suc k) (suc i) = word-bytes n k i

both-bytes : (xs ys : List ℕ) → IsBytes xs → IsBytes ys → IsBytes (xs ++ ys)
both-bytes [] ys first second i = second i
both-bytes (x ∷ xs) ys first second zero = first zero
both-bytes (x ∷ xs) ys first second (suc i) = both-bytes xs ys (λ j. first (suc j)) second i

digest-bytes : (h : List ℕ) (n : ℕ) → IsBytes (digest_bytes h n)
unfolding digest_bytes
digest-bytes h zero i = omega arith
digest-bytes h (suc n) i = both-bytes (digest_bytes h n) (to_be_bytes w32 (slice_index h n)) (digest-bytes h n) (word-bytes (slice_index h n) 4) i

are-bytes : (text : List ℕ) → IsBytes (sha256 text)
unfolding sha256
are-bytes text = digest-bytes _ 8

-- so it is an identity
pub is-id : (text : List ℕ) → IsId (record { bytes = sha256 text })
is-id text = record { long = length-sha256 text; are_bytes = are-bytes text }

pub is-of-the-whole : FitsWhenWidened → MayWidenWhatFits → (held : Option Held) (words : WidenWords) (text : List ℕ) → PartFits words.part → (wide : IsWidened held words text)
    → SpellRuns (record { program = wide.texts.whole; collection = text }) wide.whole (widened_as wide.texts.whole words.part wide.bundle)
is-of-the-whole fits may held words text is wide =
    let part = words.part in
    let runs = wide.spell.runs in
    let may_be = may_widen may part wide.whole wide.parts wide.bundle.reports is wide.spell.whole_spelled.is_program.parts.sites.few wide.spell.has_part runs.sites in
    let good = text_is (record { bytes = sha256 wide.texts.whole }) part wide.bundle is (is-id wide.texts.whole) may_be (spelled-is wide.texts.runs.collection wide.bundle runs.spell.collection) in record {
      spell = record { program = wide.spell.whole_spelled; collection = WithLabels good wide.text_is };
      of_program = refl;
      sites = fit_whole fits (record { bytes = sha256 wide.texts.whole }) part wide.whole wide.parts wide.bundle is wide.spell.has_part runs.sites;
    }
