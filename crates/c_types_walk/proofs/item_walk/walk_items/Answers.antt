use Rattle.std.proofs.Common.{refl, arith, map}
use Rattle.c_syntax.specs.Plain.{plain_item}
use Rattle.c_types_walk.proofs.Tokens.{items_bytes, items_long}
use Rattle.c_types_walk.proofs.item_walk.walk_items.Goals as goal

-- what the items need room for has tokens of its own
pub loop-item-init : goal.loop-item-init
loop-item-init c =
    let items = map plain_item c.args.items.now in (
      refl,
      record {
        few = omega (arith, items_long items, c.requires.room.few);
        globals = c.requires.room.globals;
        locals = c.requires.room.locals;
      },
      omega (arith, items_bytes items, c.requires.text),
    )
