-- Lines lead on where they come one after another and there is room for all of them.
use Rattle.std.proofs.Common.{◌≡◌, ◌+◌, ◌-◌, ◌≤◌, ℕ, List, [], ◌∷◌, length, ap, refl, length-append, arith}
use Rattle.cbi_base.specs.Words.{LeadsTo, line_with_newline, text_of}
use Rattle.session_edits.specs.declared.draft.Draft.{Draft}
use Rattle.session_edits.specs.declared.draft.Reading.{Reading}
use Rattle.session_edits.specs.Grammar.{EditLineFollows, Goes}

text-length : (line : List ℕ) (more : List (List ℕ)) → length (text_of (line ∷ more)) ≡ length line + 1 + length (text_of more)
text-length line more = omega (arith, length-append {A = ℕ} (line_with_newline line) (text_of more), length-append {A = ℕ} line (10 ∷ []))

pub record LeadWithin (from : Draft) (lines : List (List ℕ)) (to : Draft) (room : ℕ) : Type 0 where
  pub leads : LeadsTo Goes from lines to
  pub fits : length (text_of lines) ≤ room

pub lead-within : (lines : List (List ℕ)) (from to : Reading) → LeadsTo EditLineFollows from lines to → LeadWithin from.draft lines to.draft from.room
lead-within [] from to leads = record { leads = ap (λ (r : Reading). r.draft) leads; fits = omega arith }
lead-within (line ∷ more) from to leads =
    let rest = lead-within more leads.0 to leads.2 in record {
      leads = (leads.0.draft, leads.1.goes, rest.leads);
      fits = omega (arith, text-length line more, rest.fits, leads.1.fits, leads.1.room_is);
    }

pub record LeadOn (room : ℕ) (from : Draft) (lines : List (List ℕ)) (to : Draft) : Type 0 where
  pub left : ℕ
  pub leads : LeadsTo EditLineFollows (let r : Reading = record { room = room; draft = from } in r) lines (let r : Reading = record { room = left; draft = to } in r)

pub lead-on : (lines : List (List ℕ)) (room : ℕ) (from to : Draft) → LeadsTo Goes from lines to → length (text_of lines) ≤ room → LeadOn room from lines to
lead-on [] room from to leads fits = record { left = room; leads = ap (λ (d : Draft). let r : Reading = record { room = room; draft = d } in r) leads }
lead-on (line ∷ more) room from to leads fits =
    let rest = lead-on more (room - (length line + 1)) leads.0 to leads.2 (omega (arith, text-length line more)) in record {
      left = rest.left;
      leads = (let r : Reading = record { room = room - (length line + 1); draft = leads.0 } in r, record { fits = omega (arith, text-length line more); room_is = refl; goes = leads.1 }, rest.leads);
    }
