-- A type is noted at a token exactly where an expression has it for its own.
use Rattle.std.proofs.Common.{◌≡◌, ℕ, ◌<◌, ◌-◌, false, length, Option, Some, None, is_some, refl, ap, ◌∙◌, arith}
use Rattle.std.proofs.lemmas.List.{length-replicate}
use Rattle.c_types.proofs.Replaced.{noted_same}
use Rattle.c_syntax.specs.Words.{SourceTree, IsShaped}
use Rattle.c_types_rules.specs.TypeTree.{TypeTree}
use Rattle.c_types.specs.Answers.{note_at, type_at}
use Rattle.c_types.specs.Fault.{walk_tree}
use Rattle.c_types_expressions.specs.Words.{Fine, meaning_of}
use Rattle.c_types_expressions.specs.declared.names.Meaning.{Meaning}
use Rattle.c_types_expressions.specs.declared.names.Meaning.TheVariants as meaning
use Rattle.c_types_expressions.specs.declared.walk.Walk.{Walk}
use Rattle.c_types_faults.specs.Events.{Construct, Calls, Selects, Other, construct_at, events_of}
use Rattle.c_types_faults.specs.Scopes.{scopes_of}
use Rattle.c_types_faults.proofs.Leaving.{Left}
use Rattle.c_types_faults.proofs.Noting.{Found, alone_after, finds, path_onward, some_at, stays}
use Rattle.c_types_faults.proofs.Paths.{CalledAs, Notes, View, view}
use Rattle.c_types_faults.proofs.NotedTexts.{before, none_noted, text_left, text_path}

-- an expression notes its type
abbrev HasType : ℕ → View → Type 0
HasType k b = (t : TypeTree) × (note_at b.types k ≡ Some t)

called_type : (k : ℕ) (m : Option Meaning) (a b : View) → k < length a.types → CalledAs k m a b → HasType k b
called_type k (Some (meaning.Function index)) a b h c = (c.0, ap (λ (v : View). note_at v.types k) c.1 ∙ noted_same a.types k c.0 h)
called_type k (Some (meaning.Library function)) a b h c = (c.0, ap (λ (v : View). note_at v.types k) c.1 ∙ noted_same a.types k c.0 h)
called_type k m a b h c = absurd c

notes_type : (c : Construct) (k : ℕ) (a b : View) → k < length a.types → Notes c k a b → HasType k b
notes_type Other k a b h n = (n.0, ap (λ (v : View). note_at v.types k) n.1 ∙ noted_same a.types k n.0 h)
notes_type (Calls name) k a b h n = called_type k (meaning_of name a.names) a b h n
notes_type (Selects operand behind name) k a b h n =
    (n.member.ctype, ap (λ (v : View). note_at v.types k) n.to ∙ noted_same a.types k n.member.ctype h)

type_is : (s : SourceTree) (z : Walk) → IsShaped s → walk_tree s ≡ Fine tt z → (k : ℕ) (o : Option Construct) → construct_at k (events_of s) ≡ o
    → is_some (type_at z k) ≡ is_some o
type_is s z shaped w k None e =
    ap is_some ((stays k (events_of s) (before s) (view z) e (text_path s z w)).types ∙ none_noted {A = TypeTree} (length s.lines) k)
type_is s z shaped w k (Some c) e =
    let l : Left false 0 (length s.lines) (length s.lines - 1) (events_of s) (scopes_of s) (before s) (view z) = text_left s z shaped w in
    let f : Found k c (events_of s) (before s) (view z) = finds k c (events_of s) (before s) (view z) e (text_path s z w) in
    let t : HasType k f.to =
    notes_type c k f.from f.to
    (omega (
      arith,
      (l.within k (some_at k c (events_of s) e)).1,
      (path_onward f.before (before s) f.from f.path).types,
      length-replicate {A = Option TypeTree} (length s.lines) None,
    )) f.notes in
    ap is_some ((stays k f.after f.to (view z) (alone_after f l.once) f.rest).types ∙ t.1)

pub types_are : (s : SourceTree) (z : Walk) → IsShaped s → walk_tree s ≡ Fine tt z → (k : ℕ)
    → is_some (type_at z k) ≡ is_some (construct_at k (events_of s))
types_are s z shaped w k = type_is s z shaped w k (construct_at k (events_of s)) refl
