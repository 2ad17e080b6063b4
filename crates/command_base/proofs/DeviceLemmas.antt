-- What a write leaves of the other names, and a sink that has taken nothing.
use Rattle.std.specs.Option.{unwrap_or}
use Rattle.std.specs.Ordering.{nat_cmp, eq_by_cmp}
use Rattle.std.specs.Cmp.Lexicographic.{slice_cmp, nat_list_cmp_total}
use Rattle.std.specs.FinMap.{get, get-insert}
use Rattle.std.proofs.Common.{◌≡◌, ◌≢◌, ℕ, false, cond, List, Option, Some, None, is_some, sym, ap, ◌∙◌, append-nil}
use Rattle.std.proofs.lemmas.Bool.{false≢true, false_from_ne_true}
use Rattle.std.proofs.lemmas.Map.Lookups.{exact_bytes}
use Rattle.std.proofs.lemmas.Map.Views.{tells_apart}
use Rattle.cbi_base.specs.Words.{TakesPrefix, Held, OthersStay, Replaces}
use Rattle.command_base.specs.Outside.{AllStayBut}

untied : (other name : List ℕ) → other ≢ name → eq_by_cmp (slice_cmp nat_cmp) other name ≡ false
untied other name differ = false_from_ne_true (eq_by_cmp (slice_cmp nat_cmp) other name) (λ tied. differ (tells_apart exact_bytes other name tied))

-- what a name holds now, all others hold still
pub replaced-others : (before now : Option Held) (name bytes : List ℕ) → Replaces before now name bytes → OthersStay before now name
replaced-others None now name bytes is = tt
replaced-others (Some before) None name bytes is = absurd (false≢true (ap is_some is))
replaced-others (Some before) (Some now) name bytes is = record {
  others = λ other differ.
      ap (λ m. get (unwrap_or m before) other) is ∙ get-insert nat_list_cmp_total before name bytes other
      ∙ ap (λ b. cond b (Some bytes) (get before other)) (untied other name differ);
}

-- a sink that has taken nothing more has taken a prefix of any piece
pub took-nothing : (before now : Option (List ℕ)) (piece : List ℕ) → now ≡ before → TakesPrefix before now piece
took-nothing None now piece same = tt
took-nothing (Some before) now piece same = record { cut = 0; is = same ∙ ap Some (sym (append-nil before)) }

-- a store that holds what it held keeps all names but any one
others-same : (before now : Option Held) (name : List ℕ) → now ≡ before → OthersStay before now name
others-same None now name same = tt
others-same (Some before) None name same = absurd (false≢true (ap is_some same))
others-same (Some before) (Some now) name same = record { others = λ other differ. ap (λ m. get (unwrap_or m before) other) same }

pub all-stay : (report : Option (List ℕ)) (before now : Option Held) → now ≡ before → AllStayBut report before now
all-stay None before now same = same
all-stay (Some name) before now same = others-same before now name same
