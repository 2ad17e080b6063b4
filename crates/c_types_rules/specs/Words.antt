-- The words of this crate on one page, for what stands above: each is said in the file that it is passed on from.
pub use Rattle.c_types_rules.specs.TypeTree.{Array, Char, Int, Pointer, same_type, same_types, Struct, TypeTree, Unsigned, Void}
pub use Rattle.c_types_rules.specs.Plain.{plain_type}
pub use Rattle.c_types_rules.specs.Faults.{fault_number, OperandOrFault, ◌>>=◌}
pub use Rattle.c_types_rules.specs.Conversions.{common_type, constant_of, decayed_type, parenthesized_operand, is_arithmetic, is_array, is_pointer, is_scalar}
pub use Rattle.c_types_rules.specs.Conversions.{is_struct, is_unsigned}
pub use Rattle.c_types_rules.specs.Conversions.{is_void, is_void_pointer, null_of, of_kind, place_of, promoted_type, string_of, value_of, value_type}
pub use Rattle.c_types_rules.specs.Sizes.{cells_of, empty_struct, is_complete, is_object, most_cells, struct_cells, with_member}
pub use Rattle.c_types_rules.specs.Assigning.{is_assignable, typed_simple_assignment, fits_parameters, is_left_side, pointers_join, pointers_meet}
pub use Rattle.c_types_rules.specs.Operators.{typed_sum, both_arithmetic, cast_to, typed_binary_operation, typed_compound_assignment, typed_equality}
pub use Rattle.c_types_rules.specs.Operators.{value_if_operands_fit, is_movable, is_scalar_value, joined_truths}
pub use Rattle.c_types_rules.specs.Operators.{typed_sizeof, typed_relation, typed_unary_arithmetic, typed_increment, typed_difference, typed_unary_operation}
pub use Rattle.c_types_rules.specs.Selecting.{typed_address, typed_conditional, typed_alternatives, typed_subscript, joined_pointer, known_member}
pub use Rattle.c_types_rules.specs.Selecting.{member_behind, member_in, member_named}
pub use Rattle.c_types_rules.specs.Selecting.{member_of, typed_indirection, pointed_type, typed_comma}
pub use Rattle.c_types_rules.specs.Functions.{typed_call, same_function}
pub use Rattle.c_types_rules.specs.Library.{after_first, are_none, first_converts, fits_format, fits_letter, library_called, library_named, one_scalar}
pub use Rattle.c_types_rules.specs.Library.{typed_printf}
pub use Rattle.c_types_rules.specs.Laws.{common_kind, promoted_kind}
