-- The text of a program: each line is a list of fields, parted by one space. Each text has one spelling only.
use Rattle.std.specs.Prelude.{◌≡◌, ℕ, Bool, true, false, ◌+◌, ◌==◌, ◌&&◌, if◌then◌else◌, List, [], ◌∷◌, ◌++◌, length, map, codes, decimal}
use Rattle.std.specs.List.{flat_map}
use Rattle.std.specs.Fmt.{signed_decimal}
use Rattle.std.specs.Ordering.{int_eq}
use Rattle.hex.specs.Hex.{encode_lower}
use Rattle.cbi_base.specs.Text.{line_of_fields, text_of}
use Rattle.cbi_base.specs.declared.scalar.Kind.{Kind}
use Rattle.cbi_base.specs.declared.scalar.Kind.TheVariants.{Char, Int, Unsigned}
use Rattle.flow.specs.declared.node.Node.{Node}
use Rattle.flow.specs.declared.node.Node.TheVariants.{Push, Null, Local, Global, Text, Load, Store, Move, Member, Span, Math, Order, Sole, Convert, Dup}
use Rattle.flow.specs.declared.node.Node.TheVariants.{Drop, Swap, Over, Pass, Fork, Again, Call, Return, Leave, Get, Put, Puts, Format, Alloc, Free, Exit}
use Rattle.flow.specs.declared.node.Node.TheVariants.{Abort, Check, Clear, Zero, Spell, Mark, Skip, Test, Choose, Import, Export}
use Rattle.cbi_base.specs.declared.scalar.Want.{Want}
use Rattle.cbi_base.specs.declared.scalar.Want.TheVariants.{Number, Pointer}
use Rattle.cbi_base.specs.declared.operators.Binary.{Binary}
use Rattle.cbi_base.specs.declared.operators.Binary.TheVariants.{Add, Sub, Mul, Div, Rem, Shl, Shr, And, Or, Xor, Lt, Le, Gt, Ge, Eq, Ne}
use Rattle.cbi_base.specs.declared.operators.Order.{Order as Relation}
use Rattle.cbi_base.specs.declared.operators.Order.TheVariants as order
use Rattle.cbi_base.specs.declared.operators.Unary.{Unary}
use Rattle.cbi_base.specs.declared.operators.Unary.TheVariants.{Neg, Com, Not}
use Rattle.flow.specs.declared.program.Text.{Text as Bytes}
use Rattle.flow.specs.declared.program.Cell.{Cell}
use Rattle.flow.specs.declared.program.Cell.TheVariants as cell
use Rattle.flow.specs.declared.program.Global.{Global as Variable}
use Rattle.flow.specs.declared.program.Function.{Function}
use Rattle.flow.specs.declared.program.ProgramParts.{ProgramParts}
use Rattle.flow.specs.declared.site.Slot.{Slot}
use Rattle.flow.specs.declared.site.Slot.TheVariants as slot
use Rattle.flow.specs.declared.site.Partner.{Partner}
use Rattle.flow.specs.declared.site.Partner.TheVariants as partner
use Rattle.flow.specs.declared.site.BranchWord.{BranchWord}
use Rattle.flow.specs.declared.site.BranchWord.TheVariants as branch
use Rattle.flow.specs.declared.site.SiteKind.{SiteKind}
use Rattle.flow.specs.declared.site.SiteKind.TheVariants as kind
use Rattle.flow.specs.declared.site.Site.{Site}
use Rattle.flow.specs.Program.{IsProgram}

abbrev pub kind_word : Kind → List ℕ
kind_word Char = codes "c"
kind_word Int = codes "i"
kind_word Unsigned = codes "u"

abbrev pub want_word : Want → List ℕ
want_word (Number kind) = kind_word kind
want_word Pointer = codes "p"

abbrev pub binary_word : Binary → List ℕ
binary_word Add = codes "add"
binary_word Sub = codes "sub"
binary_word Mul = codes "mul"
binary_word Div = codes "div"
binary_word Rem = codes "rem"
binary_word Shl = codes "shl"
binary_word Shr = codes "shr"
binary_word And = codes "and"
binary_word Or = codes "or"
binary_word Xor = codes "xor"
binary_word Lt = codes "lt"
binary_word Le = codes "le"
binary_word Gt = codes "gt"
binary_word Ge = codes "ge"
binary_word Eq = codes "eq"
binary_word Ne = codes "ne"

abbrev pub unary_word : Unary → List ℕ
unary_word Neg = codes "neg"
unary_word Com = codes "com"
unary_word Not = codes "not"

abbrev pub order_word : Relation → List ℕ
order_word order.Lt = codes "lt"
order_word order.Le = codes "le"
order_word order.Gt = codes "gt"
order_word order.Ge = codes "ge"
order_word order.Eq = codes "eq"
order_word order.Ne = codes "ne"

-- a node's line
abbrev pub node_fields : Node → List (List ℕ)
node_fields (Push kind value next) = codes "push" ∷ kind_word kind ∷ signed_decimal value ∷ decimal next ∷ []
node_fields (Null next) = codes "null" ∷ decimal next ∷ []
node_fields (Local index next) = codes "local" ∷ decimal index ∷ decimal next ∷ []
node_fields (Global index next) = codes "global" ∷ decimal index ∷ decimal next ∷ []
node_fields (Text index next) = codes "text" ∷ decimal index ∷ decimal next ∷ []
node_fields (Load want next) = codes "load" ∷ want_word want ∷ decimal next ∷ []
node_fields (Store next) = codes "store" ∷ decimal next ∷ []
node_fields (Move size next) = codes "move" ∷ signed_decimal size ∷ decimal next ∷ []
node_fields (Member offset next) = codes "member" ∷ decimal offset ∷ decimal next ∷ []
node_fields (Span size next) = codes "span" ∷ decimal size ∷ decimal next ∷ []
node_fields (Math op next) = codes "math" ∷ binary_word op ∷ decimal next ∷ []
node_fields (Order op next) = codes "order" ∷ order_word op ∷ decimal next ∷ []
node_fields (Sole op next) = codes "sole" ∷ unary_word op ∷ decimal next ∷ []
node_fields (Convert kind next) = codes "convert" ∷ kind_word kind ∷ decimal next ∷ []
node_fields (Dup next) = codes "dup" ∷ decimal next ∷ []
node_fields (Drop next) = codes "drop" ∷ decimal next ∷ []
node_fields (Swap next) = codes "swap" ∷ decimal next ∷ []
node_fields (Over next) = codes "over" ∷ decimal next ∷ []
node_fields (Pass next) = codes "pass" ∷ decimal next ∷ []
node_fields (Fork when_true when_false) = codes "fork" ∷ decimal when_true ∷ decimal when_false ∷ []
node_fields (Again next) = codes "again" ∷ decimal next ∷ []
node_fields (Call function next) = codes "call" ∷ decimal function ∷ decimal next ∷ []
node_fields Return = codes "return" ∷ []
node_fields Leave = codes "leave" ∷ []
node_fields (Get next) = codes "get" ∷ decimal next ∷ []
node_fields (Put next) = codes "put" ∷ decimal next ∷ []
node_fields (Puts next) = codes "puts" ∷ decimal next ∷ []
node_fields (Format text count next) = codes "format" ∷ decimal text ∷ decimal count ∷ decimal next ∷ []
node_fields (Alloc next) = codes "alloc" ∷ decimal next ∷ []
node_fields (Free next) = codes "free" ∷ decimal next ∷ []
node_fields Exit = codes "exit" ∷ []
node_fields Abort = codes "abort" ∷ []
node_fields (Check next) = codes "check" ∷ decimal next ∷ []
node_fields (Clear index next) = codes "clear" ∷ decimal index ∷ decimal next ∷ []
node_fields (Zero index want next) = codes "zero" ∷ decimal index ∷ want_word want ∷ decimal next ∷ []
node_fields (Spell index text next) = codes "spell" ∷ decimal index ∷ decimal text ∷ decimal next ∷ []
node_fields (Mark site next) = codes "mark" ∷ decimal site ∷ decimal next ∷ []
node_fields (Skip by next) = codes "skip" ∷ decimal by ∷ decimal next ∷ []
node_fields (Test site next) = codes "test" ∷ decimal site ∷ decimal next ∷ []
node_fields (Choose weight fast slow) = codes "choose" ∷ decimal weight ∷ decimal fast ∷ decimal slow ∷ []
node_fields (Import next) = codes "import" ∷ decimal next ∷ []
node_fields (Export next) = codes "export" ∷ decimal next ∷ []

-- the bytes of a text: two digits each, or `-` where there are none
abbrev pub bytes_word : List ℕ → List ℕ
bytes_word [] = codes "-"
bytes_word (b ∷ bytes) = encode_lower (b ∷ bytes)

abbrev pub text_fields : Bytes → List (List ℕ)
text_fields t = codes "text" ∷ bytes_word t.bytes ∷ []

-- what a global's cell holds: a number by the letter of its kind, null, or the start of a text
abbrev pub cell_word : Cell → List ℕ
cell_word (cell.Number kind value) = kind_word kind ++ signed_decimal value
cell_word cell.Null = codes "p"
cell_word (cell.Text index) = codes "s" ++ decimal index

abbrev pub same_kind : Kind → Kind → Bool
same_kind Char Char = true
same_kind Int Int = true
same_kind Unsigned Unsigned = true
same_kind kind other = false

abbrev pub same_cell : Cell → Cell → Bool
same_cell (cell.Number kind value) (cell.Number other number) = same_kind kind other && int_eq value number
same_cell cell.Null cell.Null = true
same_cell (cell.Text index) (cell.Text place) = index == place
same_cell c d = false

-- a run of equal cells: how many, and what each holds
pub record Run : Type 0 where
  pub count : ℕ
  pub cell : Cell

-- a cell more in front of the runs: it belongs to the first one where it is equal
abbrev pub with_cell : Cell → List Run → List Run
with_cell c [] = record { count = 1; cell = c } ∷ []
with_cell c (run ∷ runs) =
    if same_cell c run.cell then record run { count = run.count + 1 } ∷ runs else record { count = 1; cell = c } ∷ run ∷ runs

-- the cells by runs that are as long as can be, so that neighbouring runs have different values
abbrev pub cell_runs : List Cell → List Run
cell_runs [] = []
cell_runs (c ∷ cells) = with_cell c (cell_runs cells)

abbrev pub run_word : Run → List ℕ
run_word run = decimal run.count ++ codes ":" ++ cell_word run.cell

abbrev pub global_fields : Variable → List (List ℕ)
global_fields g = codes "global" ∷ map run_word (cell_runs g.cells)

abbrev pub result_word : Bool → List ℕ
result_word true = codes "value"
result_word false = codes "void"

-- what the line of a function says before its nodes: its name, whether it has a result, how many of its locals are parameters, and how many
-- locals and nodes it has
pub record Head : Type 0 where
  pub name : List ℕ
  pub value : Bool
  pub params : ℕ
  pub locals : ℕ
  pub nodes : ℕ

abbrev pub head_of : Function → Head
head_of f = record { name = f.name; value = f.value; params = f.params; locals = length f.locals; nodes = length f.nodes }

abbrev pub head_fields : Head → List (List ℕ)
head_fields h = codes "function" ∷ h.name ∷ result_word h.value ∷ decimal h.params ∷ decimal h.locals ∷ decimal h.nodes ∷ []

abbrev pub branch_word : BranchWord → List ℕ
branch_word branch.If = codes "if"
branch_word branch.While = codes "while"
branch_word branch.Do = codes "do"
branch_word branch.For = codes "for"
branch_word branch.Question = codes "?:"
branch_word branch.AndAnd = codes "&&"
branch_word branch.OrOr = codes "||"

-- a variable: a local of the site's function, or a global
abbrev pub slot_word : Slot → List ℕ
slot_word (slot.Local index) = codes "l" ++ decimal index
slot_word (slot.Global index) = codes "g" ++ decimal index

-- what a value is compared with: a name and where its variable lies, or a constant and `k`
abbrev pub partner_fields : Partner → List (List ℕ)
partner_fields (partner.Variable name place) = name ∷ slot_word place ∷ []
partner_fields (partner.Constant value) = signed_decimal value ∷ codes "k" ∷ []

abbrev pub kind_name : SiteKind → List ℕ
kind_name (kind.Branch word) = codes "branch"
kind_name (kind.Return callee) = codes "return"
kind_name (kind.Pair target place other) = codes "pair"

abbrev pub kind_fields : SiteKind → List (List ℕ)
kind_fields (kind.Branch word) = branch_word word ∷ []
kind_fields (kind.Return callee) = callee ∷ []
kind_fields (kind.Pair target place other) = target ∷ slot_word place ∷ partner_fields other

abbrev pub site_fields : Site → List (List ℕ)
site_fields s = codes "site" ∷ kind_name s.kind ∷ decimal s.function ∷ decimal s.line ∷ decimal s.token ∷ kind_fields s.kind

-- the sizes of a function's locals, and its nodes
abbrev pub locals_fields : List ℕ → List (List ℕ)
locals_fields sizes = codes "locals" ∷ map decimal sizes

abbrev pub body_rows : Function → List (List (List ℕ))
body_rows f = locals_fields f.locals ∷ map node_fields f.nodes

-- a word, and a number after it
abbrev pub word_and_number : List ℕ → ℕ → List (List ℕ)
word_and_number word count = word ∷ decimal count ∷ []

-- a list: how many lines it has, and a line for each item
abbrev pub list_rows : {A : Type 0} → List ℕ → (A → List (List ℕ)) → ℕ → List A → List (List (List ℕ))
list_rows word fields count items = word_and_number word count ∷ map fields items

abbrev pub whole_list : {A : Type 0} → List ℕ → (A → List (List ℕ)) → List A → List (List (List ℕ))
whole_list word fields items = list_rows word fields (length items) items

abbrev pub end_row : List (List ℕ)
end_row = codes "end" ∷ []

abbrev pub program_rows : ProgramParts → List (List (List ℕ))
program_rows p =
    (word_and_number (codes "cbi-program") 1 ∷ whole_list (codes "texts") text_fields p.texts) ++ whole_list (codes "globals") global_fields p.globals
    ++ whole_list (codes "functions") head_fields (map head_of p.functions) ++ (word_and_number (codes "main") p.main ∷ [])
    ++ whole_list (codes "sites") site_fields p.sites ++ flat_map body_rows p.functions ++ (end_row ∷ [])

-- the text of a program
abbrev pub program_text : ProgramParts → List ℕ
program_text p = text_of (map line_of_fields (program_rows p))

-- the bytes are the text of this program
pub record SpellsProgram (bytes : List ℕ) (p : ProgramParts) : Type 0 where
  pub is_program : IsProgram p
  pub text_is : bytes ≡ program_text p
