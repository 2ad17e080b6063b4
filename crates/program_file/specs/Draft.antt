-- The grammar of program files, line by line: which line may come in a state of reading, and the state after it. A state holds the parts of the
-- program so far. Each line has the form that those before it call for and, with them, keeps every condition that speaks of no later line.
use Rattle.std.specs.Prelude.{◌≡◌, ◌≢◌, ℕ, ◌+◌, ◌-◌, ◌≤◌, ◌<◌, ◌==◌, if◌then◌else◌, true, List, [], ◌∷◌, ◌++◌, length, map, Some, IsTrue, codes, slice_get}
use Rattle.std.specs.declared.alloc.Global.{Global as Heap}
use Rattle.std.specs.List.{All}
use Rattle.cbi_base.specs.Words.{IsName, conversions_of, fields_of, line_of_fields}
use Rattle.flow.specs.declared.node.Node.{Node}
use Rattle.flow.specs.declared.program.Text.{Text}
use Rattle.flow.specs.declared.program.Global.{Global}
use Rattle.flow.specs.declared.program.Function.{Function}
use Rattle.flow.specs.declared.program.ProgramParts.{ProgramParts}
use Rattle.flow.specs.declared.site.Site.{Site}
use Rattle.flow.specs.declared.scope.Names.{Names}
use Rattle.flow.specs.declared.scope.Bounds.{Bounds}
use Rattle.flow.specs.Words.{text_limit, byte_limit, static_limit, global_limit, function_limit, local_limit, node_limit, site_limit, node_fits, AreLocals}
use Rattle.flow.specs.Words.{GlobalFits, IsSite, Head, word_and_number, end_row}
use Rattle.program_lines.specs.Sums.{bytes_in, cells_in, locals_in, nodes_in}
use Rattle.program_lines.specs.Rows.{count_of, text_of_row, head_of_row, locals_of_row}
use Rattle.program_lines.specs.CellRuns.{global_of_row}
use Rattle.program_lines.specs.SiteLines.{site_of_row}
use Rattle.program_lines.specs.NodeLines.{node_of}
use Rattle.program_file.specs.declared.draft.Due.{Due}
use Rattle.program_file.specs.declared.draft.Due.TheVariants as due
use Rattle.program_file.specs.declared.draft.Draft.{Draft}

-- nothing is read yet
abbrev pub empty_draft : Heap → Draft
empty_draft alloc = record {
  alloc = alloc;
  due = due.Title;
  count = 0;
  texts = [];
  globals = [];
  heads = [];
  main = 0;
  sites = [];
  names = record { conversions = []; globals = 0; functions = 0; owners = [] };
  functions = [];
  locals = [];
  nodes = [];
}

-- what is due after a list has so many of its lines
abbrev pub due_after : ℕ → ℕ → Due → Due → Due
due_after lines count item past = if lines == count then past else item

-- the line that says how many lines a list has
pub record IsCount (word : List ℕ) (most : ℕ) (line : List ℕ) (count : ℕ) : Type 0 where
  pub reads : count_of word (fields_of line) ≡ Some count
  pub few : count ≤ most

abbrev pub with_text_count : Draft → ℕ → Draft
with_text_count d count = record d { due = due_after 0 count due.Text due.Globals; count = count; texts = [] }

-- the next text: all together have few bytes
pub record IsNextText (d : Draft) (line : List ℕ) (t : Text) : Type 0 where
  pub reads : text_of_row (fields_of line) ≡ Some t.bytes
  pub room : length d.texts < d.count
  pub are_bytes : All (λ b. b < 256) t.bytes
  pub total : bytes_in d.texts + length t.bytes ≤ byte_limit

abbrev pub with_text : Draft → Text → Draft
with_text d t = record d { due = due_after (length d.texts + 1) d.count due.Text due.Globals; texts = d.texts ++ t ∷ [] }

abbrev pub with_global_count : Draft → ℕ → Draft
with_global_count d count = record d { due = due_after 0 count due.Global due.Functions; count = count; globals = [] }

-- the next global: there is room for its cells beside those before it
pub record IsNextGlobal (d : Draft) (line : List ℕ) (g : Global) : Type 0 where
  pub reads : global_of_row (static_limit - cells_in d.globals) (fields_of line) ≡ Some g.cells
  pub room : length d.globals < d.count
  pub total : cells_in d.globals + length g.cells ≤ static_limit
  pub fits : GlobalFits (length d.texts) g

abbrev pub with_global : Draft → Global → Draft
with_global d g = record d { due = due_after (length d.globals + 1) d.count due.Global due.Functions; globals = d.globals ++ g ∷ [] }

-- at least one function
pub record IsFunctionCount (line : List ℕ) (count : ℕ) : Type 0 where
  pub counts : IsCount (codes "functions") function_limit line count
  pub some : 1 ≤ count

abbrev pub with_function_count : Draft → ℕ → Draft
with_function_count d count = record d { due = due.Head; count = count; heads = [] }

pub record IsHead (h : Head) : Type 0 where
  pub name : IsName h.name
  pub params : h.params ≤ h.locals
  pub entry : 0 < h.nodes

-- the next function: it has a name of its own, and all together have few locals and few nodes
pub record IsNextHead (d : Draft) (line : List ℕ) (h : Head) : Type 0 where
  pub reads : head_of_row (fields_of line) ≡ Some h
  pub room : length d.heads < d.count
  pub is_head : IsHead h
  pub fresh : All (λ g. g.name ≢ h.name) d.heads
  pub locals : locals_in d.heads + h.locals ≤ local_limit
  pub nodes : nodes_in d.heads + h.nodes ≤ node_limit

abbrev pub with_head : Draft → Head → Draft
with_head d h = record d { due = due_after (length d.heads + 1) d.count due.Head due.Main; heads = d.heads ++ h ∷ [] }

-- the function that a run enters has a result and no parameters
pub record IsNextMain (d : Draft) (line : List ℕ) (main : ℕ) : Type 0 where
  pub reads : count_of (codes "main") (fields_of line) ≡ Some main
  pub head : Head
  pub stands : slice_get d.heads main ≡ Some head
  pub result : head.value ≡ true
  pub params : head.params ≡ 0

abbrev pub with_main : Draft → ℕ → Draft
with_main d main = record d { due = due.Sites; main = main }

-- what nodes may name beside their function's parts
abbrev pub names_beside : List Text → ℕ → ℕ → List Site → Names
names_beside texts globals functions sites = record {
  conversions = map (λ t. conversions_of t.bytes) texts;
  globals = globals;
  functions = functions;
  owners = map (λ s. s.function) sites;
}

abbrev pub names_in : Draft → List Site → Names
names_in d sites = names_beside d.texts (length d.globals) (length d.heads) sites

-- after the sites come the functions' own lines
abbrev pub with_sites : Draft → List Site → Draft
with_sites d sites =
    if length sites == d.count
    then record d { due = due.Locals; sites = sites; names = names_in d sites; functions = [] }
    else record d { due = due.Site; sites = sites }

abbrev pub with_site_count : Draft → ℕ → Draft
with_site_count d count = with_sites (record d { count = count }) []

abbrev pub with_site : Draft → Site → Draft
with_site d s = with_sites d (d.sites ++ s ∷ [])

pub record IsNextSite (d : Draft) (line : List ℕ) (s : Site) : Type 0 where
  pub reads : site_of_row (fields_of line) ≡ Some s
  pub room : length d.sites < d.count
  pub fits : IsSite (map (λ h. h.locals) d.heads) (length d.globals) s

-- the head of the function whose lines are due
abbrev pub IsDue : Draft → Head → Type 0
IsDue d h = slice_get d.heads (length d.functions) ≡ Some h

pub record AreNextLocals (d : Draft) (line : List ℕ) (sizes : List ℕ) : Type 0 where
  pub head : Head
  pub is_due : IsDue d head
  pub reads : locals_of_row head.locals (fields_of line) ≡ Some sizes
  pub fits : AreLocals head.params sizes

abbrev pub with_locals : Draft → List ℕ → Draft
with_locals d sizes = record d { due = due.Node; locals = sizes; nodes = [] }

abbrev pub bounds_in : Draft → Head → Bounds
bounds_in d h = record { function = length d.functions; locals = h.locals; nodes = h.nodes }

pub record IsNextNode (d : Draft) (line : List ℕ) (h : Head) (n : Node) : Type 0 where
  pub is_due : IsDue d h
  pub reads : node_of (fields_of line) ≡ Some n
  pub room : length d.nodes < h.nodes
  pub fits : IsTrue (node_fits d.names (bounds_in d h) (length d.nodes) n)

abbrev pub function_with : Head → List ℕ → List Node → Function
function_with h locals nodes = record { name = h.name; value = h.value; params = h.params; locals = locals; nodes = nodes }

-- a function is whole
abbrev pub with_function : Draft → Function → Draft
with_function d f = record d {
  due = due_after (length d.functions + 1) (length d.heads) due.Locals due.End;
  functions = d.functions ++ f ∷ [];
  locals = [];
  nodes = [];
}

abbrev pub with_nodes : Draft → Head → List Node → Draft
with_nodes d h nodes = if length nodes == h.nodes then with_function d (function_with h d.locals nodes) else record d { due = due.Node; nodes = nodes }

-- an item of this kind was read, and the state is the one with it
abbrev pub TakesItem : {A : Type 0} → (A → Type 0) → (A → Draft) → Draft → Type 0
TakesItem {A} IsItem made after = (item : A) × IsItem item × (after ≡ made item)

-- a line that is always the same
abbrev pub IsRow : List (List ℕ) → Due → Draft → List ℕ → Draft → Type 0
IsRow row next d line after = (line ≡ line_of_fields row) × (after ≡ record d { due = next })

-- a node, and the head of its function
abbrev pub IsNextPlaced : Draft → List ℕ → Head × Node → Type 0
IsNextPlaced d line placed = IsNextNode d line placed.0 placed.1

abbrev pub with_placed : Draft → Head × Node → Draft
with_placed d placed = with_nodes d placed.0 (d.nodes ++ placed.1 ∷ [])

-- the line that is due
abbrev pub ProgramLineComes : Due → Draft → List ℕ → Draft → Type 0
ProgramLineComes due.Title d line after = IsRow (word_and_number (codes "cbi-program") 1) due.Texts d line after
ProgramLineComes due.Texts d line after = TakesItem (IsCount (codes "texts") text_limit line) (with_text_count d) after
ProgramLineComes due.Text d line after = TakesItem (IsNextText d line) (with_text d) after
ProgramLineComes due.Globals d line after = TakesItem (IsCount (codes "globals") global_limit line) (with_global_count d) after
ProgramLineComes due.Global d line after = TakesItem (IsNextGlobal d line) (with_global d) after
ProgramLineComes due.Functions d line after = TakesItem (IsFunctionCount line) (with_function_count d) after
ProgramLineComes due.Head d line after = TakesItem (IsNextHead d line) (with_head d) after
ProgramLineComes due.Main d line after = TakesItem (IsNextMain d line) (with_main d) after
ProgramLineComes due.Sites d line after = TakesItem (IsCount (codes "sites") site_limit line) (with_site_count d) after
ProgramLineComes due.Site d line after = TakesItem (IsNextSite d line) (with_site d) after
ProgramLineComes due.Locals d line after = TakesItem (AreNextLocals d line) (with_locals d) after
ProgramLineComes due.Node d line after = TakesItem (IsNextPlaced d line) (with_placed d) after
ProgramLineComes due.End d line after = IsRow end_row due.Nothing d line after
ProgramLineComes due.Nothing d line after = ⊥

abbrev pub ProgramLineFollows : Draft → List ℕ → Draft → Type 0
ProgramLineFollows d line after = ProgramLineComes d.due d line after

-- the text may end where nothing more is due
abbrev pub IsWhole : Draft → Type 0
IsWhole d = d.due ≡ due.Nothing

-- the parts that were read
abbrev pub parts_in : Draft → ProgramParts
parts_in d = record { texts = d.texts; globals = d.globals; functions = d.functions; main = d.main; sites = d.sites }
