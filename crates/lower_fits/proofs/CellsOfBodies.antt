-- The walk through the body of a function counts no cells of globals, nor does the walk through any item that declares none.
use Rattle.std.proofs.Common.{◌≡◌, ℕ, refl, ap, sym, ◌∙◌, false, List, [], ◌∷◌, Option, Some, None}
use Rattle.c_syntax.specs.StatementTree.{EntryList}
use Rattle.c_types_rules.specs.declared.function.FunctionType.{FunctionType}
use Rattle.c_types_rules.specs.TypeTree.{TypeTree}
use Rattle.c_types_expressions.specs.declared.walk.Parameter.{Parameter}
use Rattle.c_types_expressions.specs.declared.walk.Walk.{Walk}
use Rattle.c_types_expressions.specs.Walked.{Done, Fine, scope_opened}
use Rattle.c_types_walk.specs.ItemWalk.{is_clashing_name, body_scope_opened, walk_function, with_function, with_param, with_params}
use Rattle.c_types_walk.specs.StatementWalk.{walk_entries}
use Rattle.c_types_walk.proofs.Kept.{IsKeptByStatements, IsKeptByVariables, declaration_keeps, entries_keep, start_keeps}
use Rattle.c_meaning_sound.proofs.Reaching.{Defines, body_defines, declares_is, fine_known, taken}
use Rattle.lower_fits.proofs.GlobalCells.{SameCells, cells_kept}

-- a local counts none
locals_keep : IsKeptByVariables false SameCells
locals_keep = record {
  expressions = cells_kept;
  declared = λ token name t w. refl;
  retyped = λ index t w. refl;
  counted = λ token cells w. refl;
}

-- nor does a statement
statements_keep : IsKeptByStatements SameCells
statements_keep = record {
  here = cells_kept.here;
  next = cells_kept.next;
  expr = cells_kept.expr;
  whole = cells_kept.whole;
  declaration = declaration_keeps false SameCells cells_kept (start_keeps false SameCells locals_keep);
  scope = λ w u h. h;
}

-- a parameter counts nothing
param_keeps : (token : ℕ) (o : Option (List ℕ)) (of : TypeTree) (w : Walk) → SameCells w (with_param token o of w)
param_keeps token None of w = refl
param_keeps token (Some name) of w = refl

-- nor do several
params_keep : (ps : List Parameter) (w : Walk) → SameCells w (with_params ps w)
params_keep [] w = refl
params_keep (p ∷ ps) w = params_keep ps (with_param p.token p.name p.ctype w) ∙ param_keeps p.token p.name p.ctype w

-- nor does the name of a function
named_keeps : (name : List ℕ) (f : FunctionType) (known : Option ℕ) (w : Walk) → SameCells w (with_function name f known w)
named_keeps name f None w = refl
named_keeps name f (Some index) w = refl

-- a function counts nothing, with a body or without
pub function_keeps : (token : ℕ) (f : FunctionType) (name : List ℕ) (ps : List Parameter) (body : Option EntryList) (known : Option ℕ) (w v : Walk) (a : Done)
    → walk_function token f name ps body known w ≡ Fine a v → SameCells w v
function_keeps token f name ps None known w v a h =
    ap (λ (u : Walk). u.global_cells) (declares_is token (is_clashing_name name known w) f.gives (with_function name f known w) v a h).same
    ∙ named_keeps name f known w
function_keeps token f name ps (Some body) known w v a h =
    let d : Defines token f name ps body known w v = body_defines token f name ps body known w v a h in
    let u : Walk = with_function name f known w in
    let inner : SameCells (body_scope_opened ps u) d.behind =
    taken (λ _ r. SameCells (body_scope_opened ps u) r) (walk_entries f.gives false body (body_scope_opened ps u)) tt d.behind (entries_keep SameCells statements_keep f.gives false body (body_scope_opened ps u)) d.walked in
    ap (λ (r : Walk). r.global_cells) d.is ∙ sym (ap (λ (r : Walk). r.global_cells) (fine_known tt tt _ d.last d.closes)) ∙ inner
    ∙ params_keep ps (scope_opened (record u { locals = 0 })) ∙ named_keeps name f known w
