use Rattle.std.proofs.Common.{replicate, length, ap, ◌∙◌}
use Rattle.c_store.specs.Written.{with_each}
use Rattle.c_store.proofs.CellLemmas.{filled_many}
use Rattle.c_store.proofs.block.Block.fill.Goals as goal

pub returns : goal.returns
returns c =
    filled_many c.self.inside.class c.self.inside.cells c.in-Many.cells c.fill.new.self c.args.value c.in-Many.is
    (c.fill.ensures.after (λ y same. same) ∙ ap (λ xs. replicate (length xs) c.args.value) c.as_mut_slice.ensures.value)
    ∙ ap (with_each c.args.value) c.self.view_is
