-- Where the walk begins.
use Rattle.std.specs.Prelude.{ℕ, [], None, replicate}
use Rattle.c_types_expressions.specs.declared.walk.Walk.{Walk}

-- what is known before a text of so many tokens
abbrev pub empty_walk : ℕ → Walk
empty_walk count = record {
  names = [];
  tags = [];
  structs = [];
  variables = [];
  declared_types = [];
  ends = [];
  functions = [];
  defined_as = [];
  definitions = [];
  globals = 0;
  locals = 0;
  global_cells = 0;
  latest = 0;
  types = replicate count None;
  variables_at = replicate count None;
  offsets_at = replicate count None;
  functions_at = replicate count None;
}
