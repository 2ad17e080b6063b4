use Rattle.std.proofs.Common.{reverse, refl, arith}
use Rattle.std.proofs.lemmas.List.{length-reverse}
use Rattle.c_types_expressions.proofs.Indexes.{depth_short, seen_with_entry, with_entry}
use Rattle.c_types_expressions.proofs.names.Names.open.Goals as goal

-- no more scopes are open than memory holds entries
pub open-requires : goal.open-requires
open-requires c =
    let entries = c.self.inside.entries in
    omega (arith, depth_short (reverse entries.items), length-reverse entries.items, c.self.invariant.numbered, entries.ok.0, entries.ok.1, entries.small)

-- there is room
pub invariant_of-self-in_err-push : goal.invariant_of-self-in_err-push
invariant_of-self-in_err-push c = absurd (omega (arith, c.in_err-push.ensures.full, c.in_ok-reserve.ensures.ok))

pub invariant_of-self-2 : goal.invariant_of-self-2
invariant_of-self-2 c =
    with_entry c.self.inside.entries.items c.reserve.new.self.items c.push.new.self.items _ c.open.new.self c.in_ok-push.ensures.items c.in_ok-reserve.ensures.items
    (c.open.ensures (reverse c.self.inside.entries.items) c.self.invariant)

pub returns : goal.returns
returns c =
    seen_with_entry c.self.inside.entries.items c.reserve.new.self.items c.push.new.self.items c.args.self.now _ _ c.in_ok-push.ensures.items c.in_ok-reserve.ensures.items
    c.self.view_is refl
