use Rattle.std.proofs.Common.{◌≡◌, ◌≤◌, ◌+ℤ◌, pos, true, length, slice_get, Some, Ok, ap, sym, subst, rules, arith, ◌∙◌}
use Rattle.cbi_base.specs.Objects.{loaded_value, moved_pointer, is_wanted}
use Rattle.c_store.proofs.Loading.{cell_there, loaded_there, moved_there}
use Rattle.c_store.proofs.objects.Objects.quick_load_behind.Goals as goal

pub returns-then-is_wanted-clause-moved : goal.returns-then-is_wanted-clause-moved
returns-then-is_wanted-clause-moved c =
    let o = c.args.self.now in
    let by : pos c.in_ok-to.to ≡ pos c.in_ok-object.offset +ℤ c.args.cells = search rules in
    let within : c.in_ok-to.to ≤ length c.in_ok-block.block.now.cells = omega (arith, c.in_ok-to.ensures.within, c.len.ensures, c.in_ok-block.ensures.limit) in
    let there = moved_there c.in_ok-object.object c.in_ok-object.offset c.in_ok-to.to c.args.cells o c.in_ok-block.block.now c.in_ok-block.ensures.there by within in
    subst (λ p. moved_pointer p c.args.cells o ≡ Ok c.place.result) (sym c.in_ok-object.ensures) (there ∙ ap Ok (sym c.place.ensures))

pub returns-then-is_wanted-clause-loaded : goal.returns-then-is_wanted-clause-loaded
returns-then-is_wanted-clause-loaded c =
    let o = c.args.self.now in
    let is : slice_get c.in_ok-block.block.now.cells c.in_ok-to.to ≡ Some c.in_ok-word.word = search rules in
    let wanted : is_wanted c.args.want c.in_ok-word.word ≡ true = search rules in
    let cell = cell_there c.in_ok-object.object c.in_ok-to.to c.in_ok-word.word o c.in_ok-block.block.now c.in_ok-block.ensures.there is in
    subst (λ p. loaded_value c.args.want p o ≡ Ok c.in_ok-word.word) (sym c.place.ensures)
    (loaded_there c.args.want c.in_ok-object.object c.in_ok-to.to c.in_ok-word.word o cell wanted)
