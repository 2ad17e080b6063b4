use Rattle.std.proofs.Common.{inl, inr, sym, subst}
use Rattle.cbi_base.specs.declared.policy.Policy.{Policy}
use Rattle.elimination_tallies.specs.declared.numbers.Counted.{Counted}
use Rattle.elimination_tallies.specs.declared.numbers.Change.TheVariants.{TakeOut}
use Rattle.elimination.specs.Slots.{change_of}
use Rattle.elimination_tallies.specs.Tallies.{AllowsEntry, counted_as}
use Rattle.elimination.proofs.books.take_entry.Goals as goal

pub take_out-requires : goal.take_out-requires
take_out-requires g c =
    let lowers : AllowsEntry (TakeOut (counted_as c.args.label)) c.args.entry.now c.args.tallies.now = elim c.in-All.is [
      | inl all ↦ subst (λ (p : Policy). AllowsEntry (change_of p c.args.label) c.args.entry.now c.args.tallies.now) all c.requires.allows
      | inr failing ↦ subst (λ (p : Policy). AllowsEntry (change_of p c.args.label) c.args.entry.now c.args.tallies.now) failing c.requires.allows
    ] in
    record {
      site = c.requires.site;
      positive = c.requires.positive;
      lowers = subst (λ (k : Counted). AllowsEntry (TakeOut k) c.args.entry.now c.args.tallies.now) (sym c.counted_as.ensures) lowers;
    }

pub move_over-requires-clause-room : goal.move_over-requires-clause-room
move_over-requires-clause-room g c = subst (λ (p : Policy). AllowsEntry (change_of p c.args.label) c.args.entry.now c.args.tallies.now) c.in-Relabel.is c.requires.allows
