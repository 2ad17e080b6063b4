use Rattle.compiler_exists.proofs.Lexed.{has_or_large, lexed_few, lexed_has, lexed_keeps, not_large}
use Rattle.compiler_exists.proofs.Semicolons.{semicolons_many}
use Rattle.compiler_exists.proofs.compiled.texts_have_the_tokens_they_lex_to.Goals as goal

pub returns-clause-keeps : goal.returns-clause-keeps
returns-clause-keeps c = lexed_keeps

pub returns-clause-has : goal.returns-clause-has
returns-clause-has c = lexed_has

pub returns-clause-or_large : goal.returns-clause-or_large
returns-clause-or_large c = has_or_large

pub returns-clause-not_large : goal.returns-clause-not_large
returns-clause-not_large c = not_large c.one_cutting.ensures

pub returns-clause-few : goal.returns-clause-few
returns-clause-few c = lexed_few

pub returns-clause-many : goal.returns-clause-many
returns-clause-many c = semicolons_many
