-- The words of this crate on one page, for what stands above: each is said in the file that it is passed on from.
pub use Rattle.flow.specs.View.{moved_to, view}
pub use Rattle.flow.specs.Limits.{byte_limit, function_limit, global_limit, line_limit, local_limit, node_limit, site_limit, size_limit, static_limit}
pub use Rattle.flow.specs.Limits.{text_limit, token_limit, turn_limit}
unfoldable pub use Rattle.flow.specs.Nodes.{leads_rightly, names_fit, node_fits}
pub use Rattle.flow.specs.Nodes.{has_text, is_again, is_format, is_local, is_node_step, is_own, led_to, listed_ways, NodesFit, step_limit}
pub use Rattle.flow.specs.Sites.{is_constant, IsSite, KindFits, MayPart, part_limit, PartFits, PartnerFits, SiteFits, slot_fits}
pub use Rattle.flow.specs.Program.{AreDistinct, AreFew, AreGlobals, AreLocals, AreSites, AreTexts, bounds_of, cell_fits, FunctionsFit, GlobalFits, HasMain}
pub use Rattle.flow.specs.Program.{is_size, IsFunction, IsMain, IsProgram, names_of, parts_of, table_of}
pub use Rattle.flow.specs.Statics.{cell_value, object_of_global, program_objects, Statics, statics_of, text_object}
pub use Rattle.flow.specs.Spelling.{binary_word, body_rows, branch_word, bytes_word, cell_runs, cell_word, word_and_number, end_row, global_fields, Head}
pub use Rattle.flow.specs.Spelling.{head_fields}
pub use Rattle.flow.specs.Spelling.{head_of, kind_fields, kind_name, kind_word, list_rows, locals_fields, node_fields, order_word, partner_fields, program_rows}
pub use Rattle.flow.specs.Spelling.{program_text, result_word, Run, run_word, same_cell, same_kind, site_fields, slot_word, SpellsProgram, text_fields}
pub use Rattle.flow.specs.Spelling.{unary_word, want_word, whole_list, with_cell}
pub use Rattle.flow.specs.Now.{value_taken, any_on, Effect, goes_with_value, Goes, int_taken, Lacks, left_operands, next_on, Now, operand_pushed}
pub use Rattle.flow.specs.Now.{operands_taken, Stops, Taken, Takes, pair_taken, unsigned_taken}
pub use Rattle.flow.specs.Now.{with_answer, with_named, with_objects, with_taken, write_bytes_then}
pub use Rattle.flow.specs.Printing.{print_then, put_string_then, stop_or_then}
unfoldable pub use Rattle.flow.specs.Rows.{row_effect}
pub use Rattle.flow.specs.State.{Ending, Frame, Next, On, Over, run_ended, State, Watch}
pub use Rattle.flow.specs.Code.{Callee, callee_of, Code, code_of, view_at, view_in}
unfoldable pub use Rattle.flow.specs.Truths.{seen_at_site}
pub use Rattle.flow.specs.Truths.{number_at, object_at, partner_number, seen_by, seen_order, seen_pair, seen_sign, seen_truth}
pub use Rattle.flow.specs.Countdown.{at_node, countdown_exported, in_force, countdown_lowered, seen_or_trapped, path_picked, countdown_drawn, sees_now}
pub use Rattle.flow.specs.Countdown.{set_force, visits_skipped, with_fast, with_force, with_seen}
pub use Rattle.flow.specs.Countdown.{with_slow, with_test}
pub use Rattle.flow.specs.Calls.{call, call_with, ended_with, function_entered, entered_with_locals, left_with_value, give_to, has_result, locals_made}
pub use Rattle.flow.specs.Calls.{params_of, left_without_value, caller_resumed, caller_waiting}
unfoldable pub use Rattle.flow.specs.Machine.{next_of, run}
pub use Rattle.flow.specs.Machine.{at_start, run_start, begin_with, branch_on_truth, Ends, EndsFrom, fork, go_on, halt, MachineEnds, no_work, RunLeads}
pub use Rattle.flow.specs.Machine.{spend_turn, step}
pub use Rattle.flow.specs.Counting.{counts_at, counts_from, counts_of, is_first, is_second, is_third, run_result}
pub use Rattle.flow.specs.Fits.{IsLater, LeadsOn, NumbersFit, RowFits, ViewFits}
pub use Rattle.flow.specs.Laws.{OneEnding}
pub use Rattle.flow.specs.Sampling.{is_sampled, IsPositive, samples, total_of}
pub use Rattle.flow.specs.Predicates.{IsPredicate, partner_text, predicate_count, predicate_text, predicates_of, site_at, text_of_kind}
pub use Rattle.flow.specs.Ready.{ArePlain, BranchesFork, IsBranch, IsBranchKind, IsPlain, IsReady}
