-- A program for a checked text with a table.
use Rattle.std.specs.Prelude.{◌≡◌, ◌≤◌, ◌+◌, ◌*◌, length}
use Rattle.std.specs.List.{All, sum_by}
use Rattle.c_syntax.specs.Words.{SourceTree, tree_kinds}
use Rattle.c_types_expressions.specs.declared.walk.Walk.{Walk}
use Rattle.flow.specs.declared.program.ProgramParts.{ProgramParts}
use Rattle.flow.specs.declared.site.TableParts.{TableParts}
use Rattle.flow.specs.Words.{IsProgram, table_of, ArePlain, IsReady}
use Rattle.c_meaning.specs.Texts.{source_of}
use Rattle.lower_relation.specs.Functions.{IsGraphOf}

-- It keeps all conditions on programs, is the graph of the text with the sites of the table, and has the table's sites and names of functions. It may
-- be sampled, and has at most 16 nodes for each token of the text, and one more for each site.
pub record HasProgram (tree : SourceTree) (walk : Walk) (table : TableParts) : Type 0 where
  pub program : ProgramParts
  pub is_program : IsProgram program
  pub graph : IsGraphOf (source_of tree walk table.sites) program
  pub table_is : table_of program ≡ table
  pub ready : IsReady program
  pub plain : All (λ f. ArePlain f.nodes) program.functions
  pub few : sum_by (λ f. length f.nodes) program.functions ≤ 16 * length (tree_kinds tree) + length table.sites
