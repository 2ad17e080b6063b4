-- What a function's body holds for sites, in the order of the tokens.
use Rattle.std.specs.Prelude.{ℕ, ◌+◌, List, [], ◌∷◌, ◌++◌, Option, Some, None}
use Rattle.c_syntax.specs.Words.{ExprTree, InitialTree, StartTree, DeclarationTree, ForStartTree, StatementTree, EntryList}
use Rattle.c_syntax.specs.StatementTree as s
use Rattle.flow.specs.declared.site.BranchWord.TheVariants.{If, While, Do, For}
use Rattle.sites.specs.declared.spots.Spot.{Spot}
use Rattle.sites.specs.declared.spots.Spot.TheVariants as spot
use Rattle.sites.specs.Spots.{expr_spots, exprs_spots, part_spots}

-- An initialiser gives the variable a new value at its `=`. A variable that takes one number has no bounds, so that `=` is behind the name.
abbrev pub initial_spots : ℕ → Option InitialTree → List Spot
initial_spots name_token None = []
initial_spots name_token (Some (s.Value value)) = spot.Change (name_token + 1) name_token ∷ expr_spots value
initial_spots name_token (Some (s.Braced token items comma)) = exprs_spots items

abbrev pub start_spots : StartTree → List Spot
start_spots x = initial_spots x.declarator.name_token x.initial

abbrev pub starts_spots : List StartTree → List Spot
starts_spots [] = []
starts_spots (x ∷ xs) = start_spots x ++ starts_spots xs

abbrev pub declaration_spots : DeclarationTree → List Spot
declaration_spots d = starts_spots d.starts

abbrev pub for_start_spots : ForStartTree → List Spot
for_start_spots (s.Declares declaration) = declaration_spots declaration
for_start_spots (s.Computes x) = part_spots x

-- a `for` is a branch where it has a condition
abbrev pub for_spots : ℕ → Option ExprTree → List Spot
for_spots token None = []
for_spots token (Some condition) = spot.Branch token For ∷ []

abbrev mutual
  pub statement_spots : StatementTree → List Spot
  statement_spots (s.Block token entries) = entries_spots entries
  statement_spots (s.Empty token) = []
  statement_spots (s.Expr token x) = expr_spots x
  statement_spots (s.If token condition first) = spot.Branch token If ∷ expr_spots condition ++ statement_spots first
  statement_spots (s.IfElse token condition first second) =
      spot.Branch token If ∷ expr_spots condition ++ statement_spots first ++ statement_spots second
  statement_spots (s.While token condition body) = spot.Branch token While ∷ expr_spots condition ++ statement_spots body
  statement_spots (s.Do token body condition) = spot.Branch token Do ∷ statement_spots body ++ expr_spots condition
  statement_spots (s.For token start condition step body) =
      for_spots token condition ++ for_start_spots start ++ part_spots condition ++ part_spots step ++ statement_spots body
  statement_spots (s.Return token value) = part_spots value
  statement_spots (s.Break token) = []
  statement_spots (s.Continue token) = []

  pub entries_spots : EntryList → List Spot
  entries_spots s.no_entries = []
  entries_spots (s.declared declaration rest) = declaration_spots declaration ++ entries_spots rest
  entries_spots (s.stated statement rest) = statement_spots statement ++ entries_spots rest
