-- The first fault of a text, and what is known of a text without one.
use Rattle.std.specs.Prelude.{ℕ, ◌+◌, Bool, true, false, ◌&&◌, ◌==◌, if◌then◌else◌, List, [], ◌∷◌, length, Option, Some, None, slice_get, codes}
use Rattle.c_syntax.specs.ItemTree.{SourceTree}
use Rattle.c_types_rules.specs.declared.fault.FaultKind.{FaultKind}
use Rattle.c_types_rules.specs.declared.fault.FaultKind.TheVariants as fault
use Rattle.c_types_rules.specs.Words.{Int, same_type, fault_number}
use Rattle.c_types_expressions.specs.declared.names.Meaning.{Meaning}
use Rattle.c_types_expressions.specs.declared.names.Meaning.TheVariants as meaning
use Rattle.c_types_expressions.specs.declared.walk.FunctionEntry.{FunctionEntry}
use Rattle.c_types_expressions.specs.declared.walk.Walk.{Walk}
use Rattle.c_types_expressions.specs.Words.{empty_walk, declared_meaning, Walked, Fine, Faulty, ◌>>=◌, Done}
use Rattle.c_types_walk.specs.ItemWalk.{walk_items, is_defined}

-- `int main` without parameters (C99 5.1.2.2.1)
abbrev pub begins_program : Option FunctionEntry → Bool
begins_program None = false
begins_program (Some f) = same_type f.ctype.gives Int && length f.ctype.params == 0

abbrev pub is_main : Option Meaning → Walk → Bool
is_main (Some (meaning.Function index)) w = begins_program (slice_get w.functions index) && is_defined index w.defined_as
is_main m w = false

abbrev pub has_main : Walk → Bool
has_main w = is_main (declared_meaning (codes "main") w.names) w

abbrev pub lacks_definition : Option ℕ → List (Option ℕ) → Bool
lacks_definition None defined_as = false
lacks_definition (Some index) defined_as = if is_defined index defined_as then false else true

-- the first token from this one on at which a function without definition is called
abbrev pub first_undefined : ℕ → List (Option ℕ) → List (Option ℕ) → Option ℕ
first_undefined token [] defined_as = None
first_undefined token (call ∷ calls) defined_as =
    if lacks_definition call defined_as then Some token else first_undefined (token + 1) calls defined_as

abbrev pub undefined_at : Option ℕ → Option (FaultKind × ℕ)
undefined_at None = None
undefined_at (Some token) = Some (fault.NoDefinition, token)

-- what is looked at behind the last item: a definition of `main`, and then one of each function that is called
abbrev pub last_fault : ℕ → Walk → Option (FaultKind × ℕ)
last_fault count w = if has_main w then undefined_at (first_undefined 0 w.functions_at w.defined_as) else Some (fault.NoMain, count)

abbrev pub ends_with : Option (FaultKind × ℕ) → Walk → Walked Done
ends_with None w = Fine tt w
ends_with (Some f) w = Faulty f.0 f.1

abbrev pub walk_tree : SourceTree → Walked Done
walk_tree t = walk_items t.items (empty_walk (length t.lines)) >>= λ _ w. ends_with (last_fault (length t.lines) w) w

abbrev pub fault_in : Walked Done → Option (ℕ × ℕ)
fault_in (Fine value known) = None
fault_in (Faulty kind index) = Some (fault_number kind, index)

-- what is known at the end, where no fault was met
abbrev pub known_at_end : Walked Done → Option Walk
known_at_end (Fine value known) = Some known
known_at_end (Faulty kind index) = None

-- the first fault of a text: the number of its kind, and the index of the token at which it stands
abbrev pub fault_of : SourceTree → Option (ℕ × ℕ)
fault_of t = fault_in (walk_tree t)
