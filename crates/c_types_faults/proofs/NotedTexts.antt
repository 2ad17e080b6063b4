-- A text as a whole: the path through it, what it leaves, and what is known before its first item.
use Rattle.std.proofs.Common.{⊎_elim, ◌≡◌, ℕ, ◌-◌, false, [], length, replicate, Option, None, ◌∙◌, arith}
use Rattle.std.proofs.lemmas.Bool.{cases_lt}
use Rattle.std.proofs.lemmas.List.{get_or-replicate, get_or_past, length-replicate}
use Rattle.std.proofs.lemmas.Option.{unwrap_or-slice_get}
use Rattle.c_syntax.specs.Words.{SourceTree, IsShaped}
use Rattle.c_types.specs.Answers.{note_at}
use Rattle.c_types.specs.Fault.{walk_tree}
use Rattle.c_types_expressions.specs.Words.{empty_walk, Fine}
use Rattle.c_types_expressions.specs.declared.walk.Walk.{Walk}
use Rattle.defined_functions.specs.Functions.{functions_of}
use Rattle.c_types_faults.specs.Events.{events_of}
use Rattle.c_types_faults.specs.Scopes.{scopes_of}
use Rattle.c_types_faults.proofs.NotedFunctions.{Known, items_known}
use Rattle.c_types_faults.proofs.Leaving.{Left}
use Rattle.c_types_faults.proofs.LeavingItems.{items_leave}
use Rattle.c_types_faults.proofs.Paths.{Path, View, view}
use Rattle.c_types_faults.proofs.PathItems.{items_path, text_does}
use Rattle.base_lists.proofs.Options.{none_some}

abbrev pub before : SourceTree → View
before t = view (empty_walk (length t.lines))

pub text_path : (t : SourceTree) (z : Walk) → walk_tree t ≡ Fine tt z → Path (events_of t) (before t) (view z)
text_path t z w = items_path t.items (before t) (view z) (text_does t z w)

pub text_left : (t : SourceTree) (z : Walk) → IsShaped t → walk_tree t ≡ Fine tt z
    → Left false 0 (length t.lines) (length t.lines - 1) (events_of t) (scopes_of t) (before t) (view z)
text_left t z s w =
    (items_leave t.items 0 (length t.lines) (length t.lines - 1) s.items s.placed (omega (arith, s.lines))).by (before t) (view z) (text_path t z w)

pub nothing_known : (n : ℕ) → Known [] (view (empty_walk n))
nothing_known n = record {
  named = record { by = λ name index h. absurd h; own = tt };
  flat = tt;
  listed = λ name index h. absurd (none_some h);
  free = λ name index h. absurd (none_some h);
  single = λ name p q h g. absurd (none_some h);
  defines = tt;
}

pub text_known : (t : SourceTree) (z : Walk) → IsShaped t → walk_tree t ≡ Fine tt z → Known (functions_of t) (view z)
text_known t z s w = items_known t.items 0 [] (before t) (view z) s.items s.placed (text_does t z w) (nothing_known (length t.lines))

-- nothing is noted at the beginning
pub none_noted : {A : Type 0} (n k : ℕ) → note_at (replicate {A = Option A} n None) k ≡ None
none_noted {A = A} n k =
    unwrap_or-slice_get (replicate {A = Option A} n None) k None
    ∙ ⊎_elim (λ less. get_or-replicate n k None None less)
    (λ past. get_or_past (replicate {A = Option A} n None) k None (omega (arith, past, length-replicate {A = Option A} n None))) (cases_lt k n)
