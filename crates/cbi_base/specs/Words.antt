-- The words of this crate on one page, for what stands above: each is said in the file that it is passed on from.
pub use Rattle.cbi_base.specs.ProgramId.{is_lower_digit, IsId, IsIdText, text_of_id}
pub use Rattle.cbi_base.specs.Refusal.{refusal_line}
pub use Rattle.cbi_base.specs.Format.{conversions_of, is_conversion, is_percent, one_conversion_more}
pub use Rattle.cbi_base.specs.LineFaults.{TakenWith}
pub use Rattle.cbi_base.specs.Name.{begins_name, is_letter, is_name_byte, IsName}
pub use Rattle.cbi_base.specs.Text.{AreLines, line_with_newline, fields_of, is_field_byte, is_newline, IsField, Lacks, line_of_fields, text_of}
pub use Rattle.cbi_base.specs.Lines.{IsBadLine, IsGoodPrefix, LeadsOnce, LeadsTo, line_after, ReadsLines}
unfoldable pub use Rattle.cbi_base.specs.Numbers.{number_of, signed_of}
pub use Rattle.cbi_base.specs.Numbers.{greatest_u32, is_word, one_number, two_numbers}
pub use Rattle.cbi_base.specs.Arithmetic.{binary_value, bits_of, bitwise_value, complement, fitted_value, truth_number, is_count, is_zero, kind_given}
pub use Rattle.cbi_base.specs.Arithmetic.{left_shift, low_byte}
pub use Rattle.cbi_base.specs.Arithmetic.{quotient, remainder, right_shift, two_to}
pub use Rattle.cbi_base.specs.Kind.{greatest_of, least_of, lies_in, LiesIn, size_of, wrapped_value}
unfoldable pub use Rattle.cbi_base.specs.Scalars.{operator_applied, applied_to_one, converted_number}
pub use Rattle.cbi_base.specs.Scalars.{as_number, as_promoted, char_of, is_defined_value, is_promoted, IsInRange, logical_negation, sign_of, has_operand_kinds}
pub use Rattle.cbi_base.specs.Scalars.{truth_of}
pub use Rattle.cbi_base.specs.Scalars.{zero_value}
pub use Rattle.cbi_base.specs.Trap.{trap_number}
pub use Rattle.cbi_base.specs.Faults.{CountHasRisen}
pub use Rattle.cbi_base.specs.Store.{Held, IsHeld, IsReadOf, MayReplace, OthersStay, read_of, Replaces}
pub use Rattle.cbi_base.specs.Sink.{Takes, TakesPrefix}
unfoldable pub use Rattle.cbi_base.specs.Objects.{object_allocated, pointer_comparison, pointer_difference, loaded_value, moved_pointer, moved_by}
unfoldable pub use Rattle.cbi_base.specs.Objects.{object_released, value_stored}
pub use Rattle.cbi_base.specs.Objects.{cell_limit, object_made_undefined, elements_between, found_cell, has_room, in_order, is_heap_start, is_text, is_wanted}
pub use Rattle.cbi_base.specs.Objects.{object_killed, live_cells}
pub use Rattle.cbi_base.specs.Objects.{live_or, made_with, moved_in, no_objects, Object, object_limit, Objects, of_pointers, one_object_more, place_or_null}
pub use Rattle.cbi_base.specs.Objects.{same_place, set_in, stored_bytes, undefined_in, with_object, within_one}
pub use Rattle.cbi_base.specs.Frames.{all_killed, all_made, each_made, object_filled, filled_in, first_cells, local_at, Locals}
pub use Rattle.cbi_base.specs.Limits.{active_limit, output_limit}
unfoldable pub use Rattle.cbi_base.specs.Printing.{string_at}
pub use Rattle.cbi_base.specs.Printing.{after_bytes, Byte, Conversion, converted_by, FormatPiece, printed_unless_stopped, nothing_printed, pieces_of, Printed}
pub use Rattle.cbi_base.specs.Printing.{printed_format}
pub use Rattle.cbi_base.specs.Printing.{printed_or, printing_stopped, string_on, take_values, takes_value, then_print, bytes_printed}
