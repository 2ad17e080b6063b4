use Rattle.std.proofs.Common.{Some, length, rules, refl, sym, ap, ◌∙◌, true, false, arith}
use Rattle.std.proofs.lemmas.Map.Text.{btree_map_updates_str}
use Rattle.std.proofs.lemmas.Option.{slice_get_read}
use Rattle.flow.proofs.Distinct.{has, has_is, one_more, all_distinct, not_distinct}
use Rattle.flow.proofs.functions.are_distinct.Goals as goal

pub returns-then-is_some : goal.returns-then-is_some
returns-then-is_some c =
    let at = slice_get_read c.args.functions.now (length c.args.functions.now) c.loop-function.function-index c.function-item.result refl (omega arith) c.function-item.is in
    let known = has_is c.bytes-name.result.now c.loop-function.known c.get.result true c.get.ensures.value (search rules) in
    let named = ap (has c.loop-function.known) (sym c.bytes-name.ensures.value) ∙ known in (
      λ no. cc,
      λ are. absurd (not_distinct c.loop-function.known c.args.functions.now c.loop-function.function-index c.function-item.result c.loop-function.invariant at named are),
    )

pub loop-function-preserved : goal.loop-function-preserved
loop-function-preserved c =
    one_more c.bytes-name.result.now c.loop-function.known c.insert.new.self c.args.functions.now c.loop-function.function-index c.function-item.result
    (record { each = btree_map_updates_str c.bytes-name.result.now c.loop-function.known c.insert.new.self (Some tt) c.in_ok-insert.ensures.updates })
    c.loop-function.invariant
    (slice_get_read c.args.functions.now (length c.args.functions.now) c.loop-function.function-index c.function-item.result refl (omega arith) c.function-item.is)
    (sym c.bytes-name.ensures.value)
    (has_is c.bytes-name.result.now c.loop-function.known c.get.result false c.get.ensures.value (search rules))

pub returns : goal.returns
returns c = (λ yes. all_distinct c.loop-function.known c.args.functions.now c.loop-function.function-index (omega arith) c.loop-function.invariant, λ are. refl)
