-- Which variables are in scope at the tokens of a function: globals, and the function's own.
use Rattle.std.proofs.Common.{◌⊎◌, inl, inr, ◌≡◌, ℕ, ◌≤◌, ◌<◌, refl, ap, subst, sym, ◌∙◌, arith, Some, None, true, length}
use Rattle.std.specs.Prelude.{Option, IsTrue, nat_lt, nat_le, slice_get}
use Rattle.std.proofs.lemmas.Bool.{cases_lt, false≢true, and_parts}
use Rattle.std.proofs.lemmas.Option.{slice_get_within}
use Rattle.base_lists.proofs.Numbers.{is_less, is_most, less_is}
use Rattle.c_types_expressions.specs.declared.walk.Variable.{Variable}
use Rattle.c_types_expressions.specs.declared.walk.Variable.TheVariants as variable
use Rattle.c_types_expressions.specs.declared.walk.VariableEntry.{VariableEntry}
use Rattle.c_types_expressions.specs.declared.walk.Walk.{Walk}
use Rattle.c_types.specs.Answers.{ends_behind, scope_holds, span_holds}
use Rattle.c_types_expressions.specs.Walked.{scope_opened}
use Rattle.flow.specs.Sites.{slot_fits}
use Rattle.sites.specs.Visible.{slot_of}
use Rattle.c_meaning_sound.proofs.Marking.{EndsBefore, IsGlobalBelow, IsLocalBelow, Marks, OuterMarks, after_scope, ends_later, global_more, marks_scoped}
use Rattle.c_meaning_sound.proofs.Marking.{scoped_ends}

abbrev pub HasLocal : Variable → Type 0
HasLocal (variable.Global index) = ⊥
HasLocal (variable.Local index) = Unit {0}

has_local : (n : ℕ) (v : Variable) → IsLocalBelow n v → HasLocal v
has_local n (variable.Global index) h = h
has_local n (variable.Local index) h = tt

-- a global, or a local whose scope has ended before the token
abbrev pub IsPast : ℕ → ℕ → Variable → Option (Option ℕ) → Type 0
IsPast globals token v o = IsGlobalBelow globals v ⊎ (HasLocal v × EndsBefore token o)

-- between two items
pub record Spans (at : ℕ) (w : Walk) : Type 0 where
  pub long : length w.ends ≡ length w.variables
  pub latest : (n : ℕ) → at ≤ n → 1 ≤ n → w.latest < n
  pub past : (i : ℕ) (entry : VariableEntry) → slice_get w.variables i ≡ Some entry → IsPast w.globals at entry.variable (slice_get w.ends i)

-- what an item adds, where the one before it ended well
pub record Steps (at hi : ℕ) (w v : Walk) : Type 0 where
  pub latest : (n : ℕ) → hi ≤ n → w.latest < n → v.latest < n
  pub globals : w.globals ≤ v.globals
  pub more : length w.variables ≤ length v.variables
  pub kept : (i : ℕ) → i < length w.variables → slice_get v.variables i ≡ slice_get w.variables i
  pub long : length w.ends ≡ length w.variables → length v.ends ≡ length v.variables
  pub old : length w.ends ≡ length w.variables → (i : ℕ) → i < length w.variables → slice_get v.ends i ≡ slice_get w.ends i
  pub news : length w.ends ≡ length w.variables → w.latest < hi → (i : ℕ) (entry : VariableEntry) → length w.variables ≤ i
      → slice_get v.variables i ≡ Some entry → (at ≤ entry.from) × IsPast v.globals hi entry.variable (slice_get v.ends i)

past_more : (m n token later : ℕ) (v : Variable) (o : Option (Option ℕ)) → m ≤ n → token ≤ later → IsPast m token v o → IsPast n later v o
past_more m n token later v o h k (inl g) = inl (global_more m n v h g)
past_more m n token later v o h k (inr g) = inr (g.0, ends_later token later o k g.1)

pub spans_next : (at hi : ℕ) (w v : Walk) → Spans at w → Steps at hi w v → at < hi → Spans hi v
spans_next at hi w v s k l = record {
  long = k.long s.long;
  latest = λ n p q. k.latest n p (s.latest n (omega (arith, l, p)) q);
  past = λ i entry e. either i entry e (cases_lt i (length w.variables));
}
  where
    either : (i : ℕ) (entry : VariableEntry) → slice_get v.variables i ≡ Some entry → (i < length w.variables) ⊎ (length w.variables ≤ i)
        → IsPast v.globals hi entry.variable (slice_get v.ends i)
    either i entry e (inl less) = subst (IsPast v.globals hi entry.variable) (sym (k.old s.long i less))
        (past_more w.globals v.globals at hi entry.variable (slice_get w.ends i) k.globals (omega (arith, l)) (s.past i entry (sym (k.kept i less) ∙ e)))
    either i entry e (inr more) = (k.news s.long (s.latest hi (omega (arith, l)) (omega (arith, l))) i entry more e).1

-- an item that declares no variable
pub steps_quiet : (at hi : ℕ) (w v : Walk) → v.variables ≡ w.variables → v.ends ≡ w.ends → v.latest ≡ w.latest → v.globals ≡ w.globals → Steps at hi w v
steps_quiet at hi w v variables ends latest globals = record {
  latest = λ n p q. omega (arith, latest, q);
  globals = omega (arith, globals);
  more = omega (arith, ap length variables);
  kept = λ i p. ap (λ xs. slice_get xs i) variables;
  long = λ h. ap length ends ∙ h ∙ sym (ap length variables);
  old = λ h i p. ap (λ xs. slice_get xs i) ends;
  news = λ h q i entry low e. absurd (omega (arith, low, slice_get_within v.variables i entry e, ap length variables));
}

-- globals
pub steps_outer : (at hi : ℕ) (w v : Walk) → OuterMarks at hi w v → Steps at hi w v
steps_outer at hi w v m = record {
  latest = m.latest;
  globals = m.globals;
  more = m.more;
  kept = m.kept;
  long = m.long;
  old = m.old;
  news = λ h q i entry low e. let own = m.entries i entry low e in (own.from, inl own.global);
}

-- a function with its body
pub steps_body : (at hi : ℕ) (w v : Walk) → Marks at hi (scope_opened w) v → Steps at hi w (after_scope v)
steps_body at hi w v m = record {
  latest = m.latest;
  globals = omega (arith, m.globals);
  more = m.more;
  kept = m.kept;
  long = (marks_scoped m).long;
  old = (marks_scoped m).old;
  news = λ h q i entry low e. let own = m.entries i entry low e in (
    own.from,
    inr (has_local v.locals entry.variable own.local, scoped_ends m h hi (omega arith) q i low (slice_get_within v.variables i entry e)),
  );
}

-- what comes behind the token leaves what was there before
pub record Behind (at : ℕ) (w z : Walk) : Type 0 where
  pub globals : w.globals ≤ z.globals
  pub kept : (i : ℕ) → i < length w.variables → slice_get z.variables i ≡ slice_get w.variables i
  pub old : (i : ℕ) → i < length w.variables → slice_get z.ends i ≡ slice_get w.ends i
  pub news : (i : ℕ) (entry : VariableEntry) → length w.variables ≤ i → slice_get z.variables i ≡ Some entry → at ≤ entry.from

pub behind_here : (at : ℕ) (w : Walk) → Behind at w w
behind_here at w = record {
  globals = omega arith;
  kept = λ i p. refl;
  old = λ i p. refl;
  news = λ i entry low e. absurd (omega (arith, low, slice_get_within w.variables i entry e));
}

pub behind_before : (at hi : ℕ) (w v z : Walk) → Spans at w → Steps at hi w v → at < hi → Behind hi v z → Behind at w z
behind_before at hi w v z s k l b = record {
  globals = omega (arith, k.globals, b.globals);
  kept = λ i p. b.kept i (omega (arith, p, k.more)) ∙ k.kept i p;
  old = λ i p. b.old i (omega (arith, p, k.more)) ∙ k.old s.long i p;
  news = λ i entry low e. either i entry low e (cases_lt i (length v.variables));
}
  where
    either : (i : ℕ) (entry : VariableEntry) → length w.variables ≤ i → slice_get z.variables i ≡ Some entry
        → (i < length v.variables) ⊎ (length v.variables ≤ i) → at ≤ entry.from
    either i entry low e (inl less) = (k.news s.long (s.latest hi (omega (arith, l)) (omega (arith, l))) i entry low (sym (b.kept i less) ∙ e)).0
    either i entry low e (inr more) = omega (arith, l, b.news i entry more e)

begins_before : (token : ℕ) (entry : VariableEntry) (o : Option (Option ℕ)) → span_holds token (Some entry) o ≡ true → entry.from < token
begins_before token entry None h = absurd (false≢true h)
begins_before token entry (Some end) h = is_less entry.from token (and_parts (nat_lt entry.from token) (ends_behind token end) h).0

has_ended : (token at : ℕ) (entry : VariableEntry) (o : Option (Option ℕ)) → EndsBefore at o → at ≤ token → span_holds token (Some entry) o ≡ true → ⊥
has_ended token at entry None g l h = g
has_ended token at entry (Some None) g l h = g
has_ended token at entry (Some (Some last)) g l h =
    let behind : token ≤ last = is_most token last (and_parts (nat_lt entry.from token) (nat_le token last) h).1 in
    omega (arith, behind, g, l)

global_fits : (count m n : ℕ) (v : Variable) → m ≤ n → IsGlobalBelow m v → IsTrue (slot_fits count n (slot_of v))
global_fits count m n (variable.Global index) h k = less_is index n (omega (arith, h, k))
global_fits count m n (variable.Local index) h k = absurd k

local_fits : (count n : ℕ) (v : Variable) → IsLocalBelow count v → IsTrue (slot_fits count n (slot_of v))
local_fits count n (variable.Global index) h = absurd h
local_fits count n (variable.Local index) h = less_is index count h

-- at these tokens a variable that is in scope is one of the globals, or of so many locals
abbrev pub InScope : ℕ → ℕ → ℕ → Walk → Type 0
InScope at hi count z = (token : ℕ) → at ≤ token → token < hi → (place : ℕ) (entry : VariableEntry) → slice_get z.variables place ≡ Some entry
    → scope_holds z place token ≡ true → IsTrue (slot_fits count z.globals (slot_of entry.variable))

pub in_scope : (at hi count : ℕ) (w v z : Walk) → Spans at w → Behind at w z → Behind hi v z
    → ((i : ℕ) (entry : VariableEntry) → length w.variables ≤ i → slice_get v.variables i ≡ Some entry → IsLocalBelow count entry.variable)
    → InScope at hi count z
in_scope at hi count w v z s b c own token low high place entry e h = either (cases_lt place (length w.variables)) (cases_lt place (length v.variables))
  where
    holds : span_holds token (Some entry) (slice_get z.ends place) ≡ true
    holds = subst (λ o. span_holds token o (slice_get z.ends place) ≡ true) e h

    past : place < length w.variables → IsPast w.globals at entry.variable (slice_get w.ends place) → IsTrue
        (slot_fits count z.globals (slot_of entry.variable))
    past less (inl g) = global_fits count w.globals z.globals entry.variable b.globals g
    past less (inr g) = absurd (has_ended token at entry (slice_get z.ends place) (subst (EndsBefore at) (sym (b.old place less)) g.1) low holds)

    either : (place < length w.variables) ⊎ (length w.variables ≤ place) → (place < length v.variables) ⊎ (length v.variables ≤ place)
        → IsTrue (slot_fits count z.globals (slot_of entry.variable))
    either (inl less) q = past less (s.past place entry (sym (b.kept place less) ∙ e))
    either (inr more) (inl less) = local_fits count z.globals entry.variable (own place entry more (sym (c.kept place less) ∙ e))
    either (inr more) (inr behind) = absurd (omega (arith, high, c.news place entry behind e, begins_before token entry (slice_get z.ends place) holds))

-- a global has its number
pub global_numbered : (at : ℕ) (z : Walk) → Spans at z → (place index : ℕ) (entry : VariableEntry) → slice_get z.variables place ≡ Some entry
    → entry.variable ≡ variable.Global index → index < z.globals
global_numbered at z s place index entry e h = number_of entry.variable h (s.past place entry e)
  where
    number_of : (v : Variable) → v ≡ variable.Global index → IsPast z.globals at v (slice_get z.ends place) → index < z.globals
    number_of v i (inl g) = subst (IsGlobalBelow z.globals) i g
    number_of v i (inr g) = absurd (subst HasLocal i g.0)
