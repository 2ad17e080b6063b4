-- The allocator that a draft keeps changes nothing of what is read.
use Rattle.std.proofs.Common.{◌≡◌, ◌==◌, ℕ, Bool, true, false, cond, List, [], ◌∷◌, ◌++◌, length, ap, ◌∙◌, refl}
use Rattle.std.specs.declared.alloc.Global.{Global as Heap}
use Rattle.cbi_base.specs.Lines.{LeadsTo, IsBadLine}
use Rattle.cbi_base.proofs.LineLemmas.{bad-once}
use Rattle.program_file.specs.declared.draft.Due.{Due}
use Rattle.program_file.specs.declared.draft.Due.TheVariants as due
use Rattle.program_file.specs.declared.draft.Draft.{Draft}
use Rattle.program_file.specs.Draft.{IsWhole, ProgramLineComes, ProgramLineFollows, empty_draft}
use Rattle.program_file.specs.WrongLine.{IsWrongAt}
use Rattle.program_file.proofs.Grammar.{follows-once}

-- the same draft with another allocator
abbrev pub moved : Heap → Draft → Draft
moved x d = record d { alloc = x }

chosen-moved : (x : Heap) (b : Bool) (d e : Draft) → moved x (cond b d e) ≡ cond b (moved x d) (moved x e)
chosen-moved x true d e = refl
chosen-moved x false d e = refl

comes-moved : (x : Heap) (next : Due) (d : Draft) (line : List ℕ) (after : Draft) → ProgramLineComes next d line after → ProgramLineComes next (moved x d) line (moved x after)
comes-moved x due.Title d line after f = (f.0, ap (moved x) f.1)
comes-moved x due.Text d line after f = (f.0, record { reads = f.1.reads; room = f.1.room; are_bytes = f.1.are_bytes; total = f.1.total }, ap (moved x) f.2)
comes-moved x due.Global d line after f = (f.0, record { reads = f.1.reads; room = f.1.room; total = f.1.total; fits = f.1.fits }, ap (moved x) f.2)
comes-moved x due.Head d line after f = (f.0, record { reads = f.1.reads; room = f.1.room; is_head = f.1.is_head; fresh = f.1.fresh; locals = f.1.locals; nodes = f.1.nodes }, ap (moved x) f.2)
comes-moved x due.Main d line after f = (f.0, record { reads = f.1.reads; head = f.1.head; stands = f.1.stands; result = f.1.result; params = f.1.params }, ap (moved x) f.2)
comes-moved x due.Sites d line after f =
    (f.0, f.1, ap (moved x) f.2 ∙ chosen-moved x (0 == f.0) _ _)
comes-moved x due.Site d line after f =
    (f.0, record { reads = f.1.reads; room = f.1.room; fits = f.1.fits }, ap (moved x) f.2 ∙ chosen-moved x (length (d.sites ++ f.0 ∷ []) == d.count) _ _)
comes-moved x due.Locals d line after f = (f.0, record { head = f.1.head; is_due = f.1.is_due; reads = f.1.reads; fits = f.1.fits }, ap (moved x) f.2)
comes-moved x due.Node d line after f =
    (f.0, record { is_due = f.1.is_due; reads = f.1.reads; room = f.1.room; fits = f.1.fits }, ap (moved x) f.2 ∙ chosen-moved x (length (d.nodes ++ f.0.1 ∷ []) == f.0.0.nodes) _ _)
comes-moved x due.End d line after f = (f.0, ap (moved x) f.1)
comes-moved x due.Nothing d line after f = absurd f
comes-moved x next d line after f = (f.0, f.1, ap (moved x) f.2)

leads-moved : (x : Heap) (from to : Draft) (lines : List (List ℕ)) → LeadsTo ProgramLineFollows from lines to → LeadsTo ProgramLineFollows (moved x from) lines (moved x to)
leads-moved x from to [] h = ap (moved x) h
leads-moved x from to (line ∷ lines) h = (moved x h.0, comes-moved x from.due from line h.0 h.1, leads-moved x h.0 to lines h.2)

-- a text is wrong at the same line whichever the allocator
pub bad-moved : (x y : Heap) (text : List ℕ) (line : ℕ) → IsBadLine ProgramLineFollows IsWhole (empty_draft y) text line → IsBadLine ProgramLineFollows IsWhole (empty_draft x) text line
bad-moved x y text line bad = record {
  good = bad.good;
  rest = bad.rest;
  state = moved x bad.state;
  prefix = record {
    text_is = bad.prefix.text_is;
    are_lines = bad.prefix.are_lines;
    leads = leads-moved x (empty_draft y) bad.state bad.good bad.prefix.leads;
  };
  stops = record {
    no_line = λ next more after lacks is f. bad.stops.no_line next more (moved bad.state.alloc after) lacks is (comes-moved bad.state.alloc bad.state.due (moved x bad.state) next after f);
    no_end = λ none over. bad.stops.no_end none over;
  };
  number = bad.number;
}

-- a text is wrong at one line at most
pub wrong-once : (text : List ℕ) (a b : ℕ) → IsWrongAt text a → IsWrongAt text b → a ≡ b
wrong-once text a b p q = bad-once ProgramLineFollows IsWhole follows-once (empty_draft p.alloc) text a b p.bad (bad-moved p.alloc q.alloc text b q.bad)
