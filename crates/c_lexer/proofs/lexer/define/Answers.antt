use Rattle.std.proofs.Common.{Some}
use Rattle.std.proofs.lemmas.Map.Text.{btree_map_updates_str}
use Rattle.c_lexer.proofs.lexer.define.Goals as goal

pub returns-in_ok-insert-in-Definition : goal.returns-in_ok-insert-in-Definition
returns-in_ok-insert-in-Definition c = λ q.
    let e = btree_map_updates_str c.in-Definition.name.now c.args.defined.now c.insert.new.self (Some c.in-Definition.constant) c.in_ok-insert-in-Definition.ensures.updates q in
    rw c.in-Definition.is e
