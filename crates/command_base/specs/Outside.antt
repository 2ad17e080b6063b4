-- What a command finds outside and leaves there: what the store holds, what out has taken, where they tell it, and the boxed watchers, over any
-- type of them.
use Rattle.std.specs.Prelude.{◌≡◌, ◌⊎◌, ℕ, List, Option, Some, None}
use Rattle.cbi_base.specs.Words.{Takes, TakesPrefix, Held, OthersStay}

pub record Outside (B : Type 0) : Type 0 where
  pub held : Option Held
  pub out : Option (List ℕ)
  pub boxes : List B

abbrev pub outside_state : {B : Type 0} → Option Held → Option (List ℕ) → List B → Outside B
outside_state held out boxes = record { held = held; out = out; boxes = boxes }

-- Out has taken nothing more, no name holds anything else, and no watcher was told anything.
pub record IsUnmoved {B : Type 0} (before after : Outside B) : Type 0 where
  pub out : after.out ≡ before.out
  pub held : after.held ≡ before.held
  pub boxes : after.boxes ≡ before.boxes

abbrev pub IsUnmovedOr : {B : Type 0} → (before after : Outside B) → Type 0 → Type 0
IsUnmovedOr before after part = IsUnmoved before after ⊎ part

-- All names hold what they held, but for the one that may be written.
abbrev pub AllStayBut : Option (List ℕ) → Option Held → Option Held → Type 0
AllStayBut None before now = now ≡ before
AllStayBut (Some name) before now = OthersStay before now name

-- out took the whole of a text that is due, or a prefix of one
pub record TookDue (due : List ℕ → Type 0) (before after : Option (List ℕ)) : Type 0 where
  pub text : List ℕ
  pub is_due : due text
  pub took : Takes before after text

pub record TookWithin (due : List ℕ → Type 0) (before after : Option (List ℕ)) : Type 0 where
  pub text : List ℕ
  pub is_due : due text
  pub took : TakesPrefix before after text

-- so did out, and all else is as it was
pub record Wrote {B : Type 0} (due : List ℕ → Type 0) (before after : Outside B) : Type 0 where
  pub out : TookDue due before.out after.out
  pub held : after.held ≡ before.held
  pub boxes : after.boxes ≡ before.boxes

pub record WroteWithin {B : Type 0} (due : List ℕ → Type 0) (before after : Outside B) : Type 0 where
  pub out : TookWithin due before.out after.out
  pub held : after.held ≡ before.held
  pub boxes : after.boxes ≡ before.boxes
