-- The words of this crate on one page, for what stands above: each is said in the file that it is passed on from.
pub use Rattle.c_types_expressions.specs.Names.{names_after_scope, declared_as, declared_meaning, is_here, is_name_taken, is_reserved, meaning_of, or_before}
pub use Rattle.c_types_expressions.specs.Walked.{scope_closed, Done, ended_scopes, Faulty, Fine, IsWalked, next_variable, scope_opened, item_replaced}
pub use Rattle.c_types_expressions.specs.Walked.{fault_if_wrong, Walked, with_type}
pub use Rattle.c_types_expressions.specs.Walked.{with_variable, ◌>>=◌}
pub use Rattle.c_types_expressions.specs.ExprWalk.{typed_assignment, base_type, binary_of, called_name, typed_chain_operation, compound_of}
pub use Rattle.c_types_expressions.specs.ExprWalk.{concatenated_strings, format_of, formatted_call}
pub use Rattle.c_types_expressions.specs.ExprWalk.{is_printf, operand_noted, named_operand, of_function, of_variable, typed_prefix_operation, selected_member}
pub use Rattle.c_types_expressions.specs.ExprWalk.{string_cells, tagged_type, walk_expr}
pub use Rattle.c_types_expressions.specs.ExprWalk.{walk_exprs, walk_links, walk_postfix, walk_whole, whole_call, with_call, with_offset, with_stars, with_use}
pub use Rattle.c_types_expressions.specs.Beginning.{empty_walk}
pub use Rattle.c_types_expressions.specs.Room.{expr_text, exprs_text, HasRoomLeft, HasRoom, items_in}
pub use Rattle.c_types_expressions.specs.Indexed.{is_key}
