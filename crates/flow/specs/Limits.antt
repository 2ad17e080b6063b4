-- The greatest sizes of programs.
use Rattle.std.specs.Prelude.{ℕ}

-- how many texts there are, and how many bytes they have together
abbrev pub text_limit : ℕ
text_limit = 400000

abbrev pub byte_limit : ℕ
byte_limit = 2097152

-- how many globals there are, and how many cells they have together
abbrev pub global_limit : ℕ
global_limit = 200000

abbrev pub static_limit : ℕ
static_limit = 1048576

abbrev pub function_limit : ℕ
function_limit = 65536

-- how many locals all functions have together, and how many cells one local has
abbrev pub local_limit : ℕ
local_limit = 200000

abbrev pub size_limit : ℕ
size_limit = 1048576

-- how many nodes all functions have together; also the most by which a countdown is lowered at once, and the greatest weight
abbrev pub node_limit : ℕ
node_limit = 16000000

abbrev pub site_limit : ℕ
site_limit = 65536

-- the greatest line and token of a site
abbrev pub line_limit : ℕ
line_limit = 1048577

abbrev pub token_limit : ℕ
token_limit = 99999

-- the most turns of a run
abbrev pub turn_limit : ℕ
turn_limit = 100000000
