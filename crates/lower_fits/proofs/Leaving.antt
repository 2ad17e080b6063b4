-- What the walk through an expression leaves as it was: the names in scope, and the variables with their types.
use Rattle.std.proofs.Common.{◌≡◌, refl, ◌∙◌}
use Rattle.c_types_expressions.specs.declared.walk.Walk.{Walk}
use Rattle.c_types_expressions.proofs.Kept.{IsKeptByExpressions, IsKeptByNotes, by_notes}

-- the structs, names, variables and types are as they were
pub record Leaves (w v : Walk) : Type 0 where
  pub structs : v.structs ≡ w.structs
  pub names : v.names ≡ w.names
  pub variables : v.variables ≡ w.variables
  pub types : v.declared_types ≡ w.declared_types
  pub locals : v.locals ≡ w.locals

-- no note changes them
pub notes_leave : IsKeptByNotes Leaves
notes_leave = record {
  here = λ w. record { structs = refl; names = refl; variables = refl; types = refl; locals = refl };
  next = λ w u v a b. record {
    structs = b.structs ∙ a.structs;
    names = b.names ∙ a.names;
    variables = b.variables ∙ a.variables;
    types = b.types ∙ a.types;
    locals = b.locals ∙ a.locals;
  };
  typed = λ token t w. record { structs = refl; names = refl; variables = refl; types = refl; locals = refl };
  used = λ token index w. record { structs = refl; names = refl; variables = refl; types = refl; locals = refl };
  called = λ token index w. record { structs = refl; names = refl; variables = refl; types = refl; locals = refl };
  selected = λ token offset w. record { structs = refl; names = refl; variables = refl; types = refl; locals = refl };
}

-- an expression leaves them
pub leaves_kept : IsKeptByExpressions Leaves
leaves_kept = by_notes Leaves notes_leave
