use Rattle.std.proofs.Common.{◌∷◌, ap, sym, subst, reverse, arith}
use Rattle.c_types_expressions.specs.Indexed.{IsIndex}
use Rattle.c_types_expressions.specs.declared.names.ScopeEntry.TheVariants.{Declares}
use Rattle.c_types_expressions.proofs.Indexes.{seen_with_entry, with_entry}
use Rattle.c_types_expressions.proofs.names.Names.declare.Goals as goal

pub invariant_of-self-in_err-declare : goal.invariant_of-self-in_err-declare
invariant_of-self-in_err-declare c = c.in_err-declare.ensures.err (reverse c.reserve.new.self.items) (rw c.in_ok-reserve.ensures.items c.self.invariant)

-- there is room
pub invariant_of-self-in_err-push : goal.invariant_of-self-in_err-push
invariant_of-self-in_err-push c = absurd (omega (arith, c.in_err-push.ensures.full, c.in_ok-reserve.ensures.ok))

pub invariant_of-self-2 : goal.invariant_of-self-2
invariant_of-self-2 c =
    with_entry c.self.inside.entries.items c.reserve.new.self.items c.push.new.self.items _ c.declare.new.self c.in_ok-push.ensures.items c.in_ok-reserve.ensures.items
    (subst (λ n. IsIndex (Declares n c.args.meaning ∷ reverse c.self.inside.entries.items) c.declare.new.self) (sym c.in_ok-own.ensures)
    (c.in_ok-declare.ensures.ok (reverse c.self.inside.entries.items) c.self.invariant))

pub returns : goal.returns
returns c =
    seen_with_entry c.self.inside.entries.items c.reserve.new.self.items c.push.new.self.items c.args.self.now _ _ c.in_ok-push.ensures.items c.in_ok-reserve.ensures.items
    c.self.view_is (ap (λ n. Declares n c.args.meaning) c.in_ok-own.ensures)
