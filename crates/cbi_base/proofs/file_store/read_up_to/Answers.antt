use Rattle.std.proofs.Common.{rules, ◌≡◌, ℕ, ◌<◌, List, ◌++◌, length, take, sym, ap, ◌∙◌, append-nil, Some, None, IfSome, refl}
use Rattle.std.specs.Option.{option_map}
use Rattle.std.specs.Prelude.{Option}
use Rattle.std.specs.Io.KnownBytes.{Consumes, IsAtEnd}
use Rattle.std.proofs.KnownBytes.{Consumes-trans, Consumes-kept}
use Rattle.cbi_base.proofs.file_store.read_up_to.Goals as goal
use Rattle.cbi_base.proofs.file_store.read_up_to.Goals.{in-Ok+in_ok-extend_from_slice-in-Ok, in-Err}

-- a source that is at its end within the limit gave all up to the limit
all_read : (source left : Option (List ℕ)) (most : ℕ) (bytes : List ℕ) → Consumes (option_map (take most) source) left bytes → IsAtEnd left → IfSome source (λ xs. bytes ≡ take most xs)
all_read None left most bytes front end = tt
all_read (Some xs) None most bytes front end = absurd front
all_read (Some xs) (Some ys) most bytes front end = sym (front ∙ ap (λ l. bytes ++ l) end ∙ append-nil bytes)

pub returns-in-Ok-eq0-clause-bytes : goal.returns-in-Ok-eq0-clause-bytes
returns-in-Ok-eq0-clause-bytes g c =
    let last = rw (c.in-Ok-eq0.is, c.in-Ok-eq0.field-0-test) at c.read.ensures.bytes in
    let room : 0 < length c.read.new.buf = search rules in
    let front = Consumes-trans _ _ _ _ _ c.loop.invariant.front last.0 in
    let from_source = rw (c.take-source.ensures.limit, c.take-source.ensures.inner) at front in
    all_read _ _ _ _ (rw append-nil at from_source) (last.1 refl room)

pub loop-preserved : goal.loop-preserved
loop-preserved g c = record {
  limit = search rules;
  front = elim c.match-read.branch [
    | in-Ok+in_ok-extend_from_slice-in-Ok w ↦ rw (w.bytes-is, w.in_ok-extend_from_slice-in-Ok.ensures.items) (Consumes-trans _ _ _ _ _ c.loop.invariant.front w.in-Ok.ensures.bytes.0)
    | in-Err w ↦ rw w.bytes-is (Consumes-kept _ _ _ _ c.loop.invariant.front w.in-Err.ensures.bytes)
  ];
}
