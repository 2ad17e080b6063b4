-- The words of this crate on one page, for what stands above: each is said in the file that it is passed on from.
pub use Rattle.c_meaning.specs.World.{answer_or_trap, bind, Broken, Caller, chosen_part, Continued, value_discarded, Flow, Go, Next, no_effect, Out, OutDone}
pub use Rattle.c_meaning.specs.World.{Returned, one_turn_spent, Stop}
pub use Rattle.c_meaning.specs.World.{stuck_run, World}
pub use Rattle.c_meaning.specs.Facts.{Facts, Setting, Signature, Sites}
pub use Rattle.c_meaning.specs.Conversions.{as_used, as_wanted, kind_conversion, conversion, conversion_result, defined_scalar, handed_scalar, is_null_as}
pub use Rattle.c_meaning.specs.Conversions.{is_null_constant, is_pointer_value}
pub use Rattle.c_meaning.specs.Conversions.{load_at}
unfoldable pub use Rattle.c_meaning.specs.Operation.{operation_result}
pub use Rattle.c_meaning.specs.Operation.{counted_value, flag_value, flagged_value, is_step_size, left_kind, moves_left, moves_right, on_pointers, on_values}
pub use Rattle.c_meaning.specs.Operation.{operation, order_of, order_operation, right_kind, type_given}
pub use Rattle.c_meaning.specs.Trees.{assigned_by, Assignment, assignment_of_sign, begins_null, Both, By, called_as, Computes, computing_joint}
pub use Rattle.c_meaning.specs.Trees.{expression_count, Either, ends_as_place}
pub use Rattle.c_meaning.specs.Trees.{first_type, has_value, is_null_beside, is_place, Joint, joint_of_sign, library_call, link_token, one_kind, operand_type}
pub use Rattle.c_meaning.specs.Trees.{other_types, Plain, postfix_token, step_of, token_of, type_of, Unjoined}
pub use Rattle.c_meaning.specs.Visits.{visited_truth, site_list, observed_value, truth_value, sites_visited, world_with_seen}
pub use Rattle.c_meaning.specs.Places.{assigned_at, compound_result_stored, member_place, object_place, one_beside, pointed_place, step_operation}
pub use Rattle.c_meaning.specs.Places.{stepped_behind}
pub use Rattle.c_meaning.specs.Places.{stepped_value, store_at, unless_zero, variable}
pub use Rattle.c_meaning.specs.Output.{next_byte, put_printed, put_byte, put_format, put_string, stop_or, put_bytes}
pub use Rattle.c_meaning.specs.Expressions.{arm_as, arm_effect, arm_value, as_flag, assigned_value, cast_sense, comma_sense, conditional, sense_of_effect}
pub use Rattle.c_meaning.specs.Expressions.{handed_value, is_other_pointer}
pub use Rattle.c_meaning.specs.Expressions.{is_struct_value, value_after_link, null_or, one_operand, sense_of_place, postfixed_sense, prefixed_sense, Sense}
pub use Rattle.c_meaning.specs.Expressions.{loaded_operand, size_value, place_or_value}
pub use Rattle.c_meaning.specs.Expressions.{sense_of_value, wanted_value}
pub use Rattle.c_meaning.specs.Calls.{abort, all_defined, space_allocated, Argument, Arguments, as_type, assert, call_function, call_library, call_sense, exit}
pub use Rattle.c_meaning.specs.Calls.{print_by, space_released, call_result_visited, type_taken, types_taken, with_result}
pub use Rattle.c_meaning.specs.Meaning.{arguments_value, condition, expr, arguments_printed, last_sense, links_value, lone_value, value_after_postfix}
pub use Rattle.c_meaning.specs.Meaning.{text_of_string, text_place}
pub use Rattle.c_meaning.specs.Initialisers.{all_started, variable_cleared, declaration_done, element_set, elements_set, equals_token, variable_initialised}
pub use Rattle.c_meaning.specs.Initialisers.{object_of, on_local, on_object}
pub use Rattle.c_meaning.specs.Initialisers.{scalar_set, string_stored, variable_started, value_set, want_of, array_zeroed}
pub use Rattle.c_meaning.specs.Statements.{after_body, after_entry, do_round, exec, exec_all, for_round, for_started, optional_condition, optional_effect}
pub use Rattle.c_meaning.specs.Statements.{returned_value, loop_rounds, while_round}
unfoldable pub use Rattle.c_meaning.specs.Runs.{meaning}
pub use Rattle.c_meaning.specs.Runs.{run_behaviour, Behaviour, call_at, enter_function, enter_with, first_world, gives_value, body_world, left_function}
pub use Rattle.c_meaning.specs.Runs.{locals_at}
pub use Rattle.c_meaning.specs.Runs.{locals_of, run_body, run_from, run_main, setting_of, Source, exit_behaviour, value_left}
pub use Rattle.c_meaning.specs.Literals.{Literal, string_literals, number_from, strings_begun, strings_behind, strings_declared, strings_entered, strings_if}
pub use Rattle.c_meaning.specs.Literals.{strings_in, strings_initial, strings_of_all, strings_of_body, strings_of_item, strings_of_links, strings_stated}
pub use Rattle.c_meaning.specs.Literals.{texts_of}
pub use Rattle.c_meaning.specs.Known.{base_named, function_bodies, body_of_item, computed_type, element_cells, element_type, facts_of, named_cells}
pub use Rattle.c_meaning.specs.Known.{object_cells}
pub use Rattle.c_meaning.specs.Known.{signature_of, signature_with, sizes_of, slot_of, struct_number}
pub use Rattle.c_meaning.specs.Globals.{before_all, before_cells, cells_of_structs, constant_value, constant_values, filled_up, first_objects, given_by}
pub use Rattle.c_meaning.specs.Globals.{given_to}
pub use Rattle.c_meaning.specs.Globals.{global_object, global_objects, no_sites, empty_world, object_with, one_more, spelled_cells, starts_of, static_object}
pub use Rattle.c_meaning.specs.Globals.{then_strings, zero_cells, zeros_of}
pub use Rattle.c_meaning.specs.Texts.{head_site, is_branch, is_pair, is_return, main_of, number_defined, sites_by_table, sites_from, source_of, text_meaning}
