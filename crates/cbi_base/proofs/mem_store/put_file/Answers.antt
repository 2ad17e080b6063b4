use Rattle.std.proofs.Common.{◌≡◌, ap, sym, ◌∙◌}
use Rattle.std.specs.String.{string_bytes}
use Rattle.cbi_base.proofs.HeldFiles.{name_at, held_of-push, held_of-set}
use Rattle.cbi_base.proofs.mem_store.put_file.Goals as goal

pub returns-in_ok-push-in-None-clause-ok : goal.returns-in_ok-push-in-None-clause-ok
returns-in_ok-push-in-None-clause-ok c =
    let none = rw c.as_slice.ensures.value at c.in-None.ensures in
    let put = held_of-push c.args.name.now c.args.files.now.items (record { name = c.in_ok-name-in-None.name; bytes = c.in_ok-bytes.bytes }) (sym none) c.in_ok-name-in-None.ensures.ok in
    rw (c.in_ok-push-in-None.ensures.items, ← c.in_ok-bytes.ensures.items) put

pub returns-in-Some-clause-ok : goal.returns-in-Some-clause-ok
returns-in-Some-clause-ok c =
    let file = c.index_mut-file.result.now in
    let some = rw c.as_slice.ensures.value at c.in-Some.ensures in
    let named : string_bytes file.name ≡ c.args.name.now = ap (λ f. string_bytes f.name) c.index_mut-file.ensures.value ∙ name_at c.args.name.now c.args.files.now.items file c.in-Some.place (sym some) in
    let put = held_of-set c.args.name.now c.args.files.now.items c.in-Some.place file (record { name = file.name; bytes = c.in_ok-bytes.bytes }) (sym some) named in
    rw (← c.in_ok-bytes.ensures.items) put
