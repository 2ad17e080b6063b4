-- The parts that the program of a text is made of.
use Rattle.std.specs.Prelude.{◌≡◌, ℕ, ◌<◌, ◌≤◌, ◌+◌, ◌*◌, List, length, map, Some, slice_get}
use Rattle.std.specs.List.{sum_by}
use Rattle.c_syntax.specs.Words.{SourceTree, tree_kinds}
use Rattle.c_types_expressions.specs.declared.walk.Walk.{Walk}
use Rattle.c_meaning.specs.Words.{Signature, first_objects, facts_of, has_value}
use Rattle.flow.specs.declared.program.Function.{Function}
use Rattle.flow.specs.declared.program.Global.{Global}
use Rattle.flow.specs.declared.site.TableParts.{TableParts}
use Rattle.flow.specs.Words.{NodesFit, bounds_of}
use Rattle.lower_globals.specs.Objects.{begun_with}
use Rattle.lower_fits.specs.TextNames.{names_of_text}

-- a function with the signature of the text's function with this number, and nodes that may stand in it
pub record FitsAsFunction (tree : SourceTree) (walk : Walk) (table : TableParts) (number : ℕ) (f : Function) : Type 0 where
  pub signature : Signature
  pub known : (facts_of tree walk).signature number ≡ Some signature
  pub value : f.value ≡ has_value signature.result
  pub params : f.params ≡ length signature.params
  pub locals : f.locals ≡ signature.locals
  pub entry : 0 < length f.nodes
  pub nodes : NodesFit (names_of_text tree walk table.sites) (bounds_of number f) f.nodes

-- the globals and functions of the text, under the names of the table, with few nodes
pub record ArePartsOf (tree : SourceTree) (walk : Walk) (table : TableParts) (globals : List Global) (functions : List Function) : Type 0 where
  pub objects : Some (begun_with (facts_of tree walk).statics.texts globals) ≡ first_objects tree walk
  pub count : length globals ≡ walk.globals
  pub names : map (λ f. f.name) functions ≡ table.functions
  pub each : (number : ℕ) (f : Function) → slice_get functions number ≡ Some f → FitsAsFunction tree walk table number f
  pub few : sum_by (λ f. length f.nodes) functions ≤ 16 * length (tree_kinds tree) + length table.sites
