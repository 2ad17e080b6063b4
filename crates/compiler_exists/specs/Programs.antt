-- What a source needs so that a program can be its graph, and the program.
use Rattle.std.specs.Prelude.{◌≡◌, ℕ, ◌<◌, ◌≤◌, ◌++◌, IsSome, List, length, map, None, Some, slice_get}
use Rattle.std.specs.List.{sum_by}
use Rattle.flow.specs.declared.program.Global.{Global}
use Rattle.flow.specs.declared.program.ProgramParts.{ProgramParts}
use Rattle.flow.specs.declared.program.Text.{Text}
use Rattle.flow.specs.declared.site.TableParts.{TableParts}
use Rattle.flow.specs.Words.{object_of_global, text_object, table_of}
use Rattle.c_meaning.specs.Runs.{Source}
use Rattle.lower_relation.specs.Functions.{IsGraphOf}
use Rattle.lower_relation.specs.Room.{functions_room}

-- Its first functions have signatures, so many as there are names, and no others; it names these texts, as many globals and the sites of the table;
-- and its objects are those of the globals and of the texts.
pub record Brings (src : Source) (texts : List Text) (globals : List Global) (table : TableParts) : Type 0 where
  pub signed : (number : ℕ) → number < length table.functions → IsSome (src.facts.signature number)
  pub no_more : (number : ℕ) → length table.functions ≤ number → src.facts.signature number ≡ None
  pub statics : src.facts.statics ≡ record { globals = length globals; texts = texts }
  pub sites : (number : ℕ) → src.sites.site number ≡ slice_get table.sites number
  pub objects : src.objects ≡ Some (map (object_of_global (length globals)) globals ++ map text_object texts)

-- a program that is its graph, with the table's sites and names of functions, and with no more nodes than there is room for
pub record HasGraphProgram (src : Source) (table : TableParts) : Type 0 where
  pub program : ProgramParts
  pub graph : IsGraphOf src program
  pub table_is : table_of program ≡ table
  pub few : sum_by (λ f. length f.nodes) program.functions ≤ functions_room src.sites src.body (length table.functions)
