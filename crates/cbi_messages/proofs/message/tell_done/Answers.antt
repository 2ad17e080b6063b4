use Rattle.std.proofs.Common.{◌⊎◌, inl, inr, ℕ}
use Rattle.cbi_messages.specs.Told.{Tells}
use Rattle.cbi_messages.proofs.message.tell_done.Goals as goal

-- want of memory is told, or it isn't for want of memory
memory-told : (status result : ℕ) (done told nothing : Type 0) → Tells 7 result told nothing → Tells status result done (nothing ⊎ told)
memory-told status result done told nothing (inl h) = inr (h.0, inr h.1)
memory-told status result done told nothing (inr h) = inr (h.0, inl h.1)

pub returns-in-Err-clause-told : goal.returns-in-Err-clause-told
returns-in-Err-clause-told g c = memory-told _ _ _ _ _ c.put_line-in-Err.ensures.told
