-- The words of this crate on one page, for what stands above: each is said in the file that it is passed on from.
pub use Rattle.c_syntax.specs.ExprTree.{ExprList, ExprTree, LinkList, PostfixList, Prefix}
pub use Rattle.c_syntax.specs.StatementTree.{DeclarationTree, EntryList, ForStartTree, InitialTree, no_entries, StartTree, StatementTree}
pub use Rattle.c_syntax.specs.ItemTree.{ItemTree, SourceTree}
pub use Rattle.c_syntax.specs.Plain.{entry_list, expr_list, if_tree, link_list, plain_declaration, plain_entries, plain_entry, plain_expr, plain_exprs}
pub use Rattle.c_syntax.specs.Plain.{plain_for_start, plain_initial, plain_item, plain_link, plain_links, plain_operators, plain_postfix, plain_second}
pub use Rattle.c_syntax.specs.Plain.{plain_start, plain_statement, plain_tree, postfix_list}
pub use Rattle.c_syntax.specs.Spelling.{a_name, a_sign, a_word, after_commas, base_kinds, body_kinds, bound_kinds, braced_kinds, comma_kinds, constant_kinds}
pub use Rattle.c_syntax.specs.Spelling.{declaration_kinds, declarator_kinds, entry_kinds, expr_kinds, exprs_kinds, for_start_kinds, initial_kinds, item_kinds}
pub use Rattle.c_syntax.specs.Spelling.{Kinds, link_kinds, members_kinds, more_exprs_kinds, optional_kinds, param_kinds, param_name_kinds, params_kinds}
pub use Rattle.c_syntax.specs.Spelling.{parenthesized_kinds, postfix_kinds, prefix_kind, prefix_kinds, prefix_of, star_kinds, start_kinds, statement_kinds}
pub use Rattle.c_syntax.specs.Spelling.{text_kinds, tree_kinds, type_kinds, with_commas}
pub use Rattle.c_syntax.specs.Nesting.{arguments_nesting, declaration_nesting, declarator_nesting, optional_nesting, deepest_nesting, entries_nesting}
pub use Rattle.c_syntax.specs.Nesting.{expr_nesting, exprs_nesting}
pub use Rattle.c_syntax.specs.Nesting.{for_start_nesting, initial_nesting, item_nesting, links_nesting, members_nesting, name_nesting, param_nesting}
pub use Rattle.c_syntax.specs.Nesting.{params_nesting, postfix_nesting, start_nesting, statement_nesting, tree_nesting}
pub use Rattle.c_syntax.specs.Shape.{ends_open, HasExpr, HasLink, HasOne, HasPostfix, HasTwo, is_assignment, level_of, operand_rank, expression_rank}
pub use Rattle.c_syntax.specs.Shape.{ShapedDeclaration}
pub use Rattle.c_syntax.specs.Shape.{ShapedEntries, ShapedExpr, ShapedExprs, ShapedForStart, ShapedInitial, ShapedItem, ShapedLinks, ShapedMembers, ShapedParam}
pub use Rattle.c_syntax.specs.Shape.{ShapedParamOf, ShapedParams, ShapedPostfix, ShapedStart, ShapedStatement}
pub use Rattle.c_syntax.specs.Place.{BaseAt, DeclarationAt, DeclaratorAt, EachAt, EntriesAt, ExprAt, ExprsAt, ForStartAt, InitialAt, ItemAt, LinksAt, MembersAt}
pub use Rattle.c_syntax.specs.Place.{NameAt, ParamAt, ParamsAt, PostfixAt, StartAt, StatementAt}
pub use Rattle.c_syntax.specs.FirstToken.{first_token}
pub use Rattle.c_syntax.specs.WellFormed.{IsShaped, IsWellFormed}
pub use Rattle.c_syntax.specs.Limits.{greatest_line, most_bytes, most_tokens}
pub use Rattle.c_syntax.specs.Tokens.{AtLeastChar, ConstantFits, IsAtLeastChar, IsOfBytes, IsTokens, kind_text_len, KindFits, kinds_of, line_at, lines_of}
pub use Rattle.c_syntax.specs.Tokens.{NameFits, text_len}
pub use Rattle.c_syntax.specs.Kept.{IsKeptTree, IsLineOfText}
