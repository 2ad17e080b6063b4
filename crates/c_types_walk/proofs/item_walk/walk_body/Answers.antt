use Rattle.std.proofs.Common.{length, Some, OnOk, sym, subst}
use Rattle.c_syntax.specs.Words.{plain_entries}
use Rattle.c_types_expressions.specs.Room.{HasRoom, HasRoomLeft}
use Rattle.c_types_walk.specs.Room.{entries_need, function_needs}
use Rattle.c_types_walk.proofs.Functions.{body_room, definition_left, definition_room}
use Rattle.c_types_walk.proofs.item_walk.walk_body.Goals as goal

pub walk_entries-requires-clause-room : goal.walk_entries-requires-clause-room
walk_entries-requires-clause-room c =
    let p = length c.args.head.now.params.now in
    let room = subst (λ b. HasRoom (function_needs p (Some (plain_entries b))) c.args.walk.now) (sym c.as_slice-2.ensures) c.requires.room in
    body_room p (entries_need (plain_entries c.as_slice-2.result.now)) c.args.walk.now c.add_function.new.walk c.enter.new.walk room
    c.in_ok-add_function.ensures.left c.in_ok-enter.ensures.left

pub add_definition-requires : goal.add_definition-requires
add_definition-requires c =
    let p = length c.args.head.now.params.now in
    let room = subst (λ b. HasRoom (function_needs p (Some (plain_entries b))) c.args.walk.now) (sym c.as_slice-2.ensures) c.requires.room in
    definition_room p (entries_need (plain_entries c.as_slice-2.result.now)) c.args.walk.now c.add_function.new.walk c.enter.new.walk c.walk_entries.new.walk
    c.close_scope.new.walk c.declares.new.walk room c.in_ok-add_function.ensures.left c.in_ok-enter.ensures.left c.in_ok-walk_entries.ensures.left
    c.close_scope.ensures.left c.in_ok-declares.ensures.left

pub returns-clause-left : goal.returns-clause-left
returns-clause-left c =
    let p = length c.args.head.now.params.now in
    subst (λ b. OnOk c.add_definition.result (HasRoomLeft (function_needs p (Some (plain_entries b))) 0 c.args.walk.now c.add_definition.new.walk)) c.as_slice-2.ensures
    (definition_left p (entries_need (plain_entries c.as_slice-2.result.now)) c.args.walk.now c.add_function.new.walk c.enter.new.walk c.walk_entries.new.walk
    c.close_scope.new.walk c.declares.new.walk c.add_definition.new.walk c.add_definition.result c.in_ok-add_function.ensures.left c.in_ok-enter.ensures.left
    c.in_ok-walk_entries.ensures.left c.close_scope.ensures.left c.in_ok-declares.ensures.left c.add_definition.ensures.left)
