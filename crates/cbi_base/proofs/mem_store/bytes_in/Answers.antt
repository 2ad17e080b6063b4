use Rattle.std.proofs.Common.{sym, ap}
use Rattle.cbi_base.proofs.HeldFiles.{get-place, get-no_place}
use Rattle.cbi_base.proofs.mem_store.bytes_in.Goals as goal

pub returns-in-None : goal.returns-in-None
returns-in-None c = sym (get-no_place c.args.name.now c.args.files.now (sym c.in-None.ensures))

pub returns-in-Some : goal.returns-in-Some
returns-in-Some c =
    let found = get-place c.args.name.now c.args.files.now c.index-files-place.result c.in-Some.place (sym c.in-Some.ensures) in
    let here = ap (λ file. file.bytes.items) c.index-files-place.is in
    cc
