-- The numbers of variables are those of their order.
use Rattle.std.proofs.Common.{◌≡◌, ◌+◌, true, false, List, [], ◌∷◌, ◌++◌, length, sym, ap, ◌∙◌, append_assoc}
use Rattle.std.proofs.lemmas.List.{append-nil}
use Rattle.c_syntax.specs.ItemTree.{SourceTree}
use Rattle.c_types_expressions.specs.declared.walk.Variable.TheVariants as variable
use Rattle.c_types_expressions.specs.declared.walk.Walk.{Walk}
use Rattle.c_types_expressions.specs.Words.{empty_walk, Fine}
use Rattle.c_types.specs.Fault.{walk_tree}
use Rattle.c_types.specs.Numbers.{numbered_from, variables_of}
use Rattle.c_types.specs.Parts.{Part, Expression, Use, Declared, Begins, parts_of}
use Rattle.c_types.proofs.Noted.{Seen, noting, noting_all, plainly, seen}
use Rattle.c_types.proofs.NotedItems.{text_notes}

numbered_behind : (ps : List Part) (s : Seen) → (noting_all ps s).variables ≡ s.variables ++ numbered_from s.globals s.locals ps
numbered_behind [] s = sym (append-nil s.variables)
numbered_behind (Expression token ∷ ps) s = numbered_behind ps (noting (Expression token) s)
numbered_behind (Use token ∷ ps) s = numbered_behind ps (noting (Use token) s)
numbered_behind (Declared true token name ∷ ps) s =
    numbered_behind ps (noting (Declared true token name) s)
    ∙ append_assoc s.variables (record { name = name; variable = variable.Global s.globals; from = token } ∷ []) (numbered_from (s.globals + 1) s.locals ps)
numbered_behind (Declared false token name ∷ ps) s =
    numbered_behind ps (noting (Declared false token name) s)
    ∙ append_assoc s.variables (record { name = name; variable = variable.Local s.locals; from = token } ∷ []) (numbered_from s.globals (s.locals + 1) ps)
numbered_behind (Begins ∷ ps) s = numbered_behind ps (noting Begins s)

-- The variables are those of the text, in their order.
pub variables_are : (t : SourceTree) (w : Walk) → walk_tree t ≡ Fine tt w → w.variables ≡ variables_of t
variables_are t w is =
    ap (λ (s : Seen). s.variables) (text_notes t w is).0 ∙ numbered_behind (parts_of t) (plainly (seen (empty_walk (length t.lines))))
