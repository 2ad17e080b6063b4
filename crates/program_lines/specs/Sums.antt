-- How much the parts of a program have together.
use Rattle.std.specs.Prelude.{ℕ, ◌≤◌, List, length}
use Rattle.std.specs.List.{sum_by}
use Rattle.flow.specs.declared.program.Text.{Text}
use Rattle.flow.specs.declared.program.Global.{Global}
use Rattle.flow.specs.Spelling.{Head}

-- the bytes of texts
abbrev pub bytes_in : List Text → ℕ
bytes_in texts = sum_by (λ t. length t.bytes) texts

-- the cells of globals
abbrev pub cells_in : List Global → ℕ
cells_in globals = sum_by (λ g. length g.cells) globals

-- the locals and the nodes of functions
abbrev pub locals_in : List Head → ℕ
locals_in heads = sum_by (λ h. h.locals) heads

abbrev pub nodes_in : List Head → ℕ
nodes_in heads = sum_by (λ h. h.nodes) heads

-- so many items can be numbered
abbrev pub AreNumbered : ℕ → Type 0
AreNumbered count = count ≤ 4294967295
