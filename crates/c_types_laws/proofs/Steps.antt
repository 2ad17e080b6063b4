-- What a part of the walk notes, at which tokens, and what holds where nothing is noted there later.
use Rattle.std.proofs.Common.{◌⊎◌, inl, inr, ⊎_elim, ◌≡◌, ℕ, ◌≤◌, ◌<◌, ◌-◌, refl, ap, subst, sym, ◌∙◌, arith, List, [], ◌∷◌, Some, ◌+◌, length}
use Rattle.std.specs.Prelude.{slice_get, max}
use Rattle.std.proofs.Math.Nat.{le-max_left}
use Rattle.c_types.proofs.Replaced.{noted_other}
use Rattle.base_lists.proofs.Lists.{Stays}
use Rattle.c_types.proofs.Noted.{length_replaced}
use Rattle.base_lists.proofs.Numbers.{max_most}
use Rattle.c_types_rules.specs.Words.{TypeTree}
use Rattle.c_types_expressions.specs.declared.names.ScopeEntry.{ScopeEntry}
use Rattle.c_types_expressions.specs.declared.names.ScopeEntry.TheVariants.{Opens}
use Rattle.c_types_expressions.specs.declared.names.ScopeEntry.TheVariants as entry
use Rattle.c_types_expressions.specs.declared.walk.VariableEntry.{VariableEntry}
use Rattle.c_types_expressions.specs.declared.walk.Walk.{Walk}
use Rattle.c_types.specs.Answers.{note_at}
use Rattle.c_types_expressions.specs.Words.{with_call, with_offset, with_use, names_after_scope, ◌>>=◌, with_type}
use Rattle.c_types_laws.proofs.Scenes.{EndsOn, Scene, Sound, ends_here, ends_then, scene, stack_later}

-- the notes at a token are the same
pub record Same (w v : Walk) (token : ℕ) : Type 0 where
  pub types : note_at v.types token ≡ note_at w.types token
  pub variables : note_at v.variables_at token ≡ note_at w.variables_at token
  pub functions : note_at v.functions_at token ≡ note_at w.functions_at token

pub same_here : (w : Walk) (token : ℕ) → Same w w token
same_here w token = record { types = refl; variables = refl; functions = refl }

pub same_then : {w u v : Walk} {token : ℕ} → Same w u token → Same u v token → Same w v token
same_then a b = record { types = b.types ∙ a.types; variables = b.variables ∙ a.variables; functions = b.functions ∙ a.functions }

-- What is known stays known, and each new variable is declared at this token or behind it.
pub record Later (at : ℕ) (s : Scene) (l : ℕ) (r : Scene) (m : ℕ) : Type 0 where
  pub variables : Stays s.variables r.variables
  pub behind : (q : ℕ) (e : VariableEntry) → slice_get r.variables q ≡ Some e → (slice_get s.variables q ≡ Some e) ⊎ (at ≤ e.from)
  pub ends : (q : ℕ) → EndsOn l (slice_get s.ends q) (slice_get r.ends q)
  pub latest : l ≤ m
  pub structs : Stays s.structs r.structs
  pub functions : Stays s.functions r.functions

pub later_then : {at to l m n : ℕ} {s r q : Scene} → Later at s l r m → Later to r m q n → at ≤ to → Later at s l q n
later_then {l = l} {m = m} {s = s} {r = r} {q = q} a b h = record {
  variables = λ i x k. b.variables i x (a.variables i x k);
  behind = λ i x k. ⊎_elim (λ e. a.behind i x e) (λ e. inr (omega (arith, h, e))) (b.behind i x k);
  ends = λ i. ends_then l m (slice_get s.ends i) (slice_get r.ends i) (slice_get q.ends i) a.latest (a.ends i) (b.ends i);
  latest = omega (arith, a.latest, b.latest);
  structs = λ i x k. b.structs i x (a.structs i x k);
  functions = λ i x k. b.functions i x (a.functions i x k);
}

pub later_here : (at : ℕ) (s : Scene) (l m : ℕ) → l ≤ m → Later at s l s m
later_here at s l m h = record {
  variables = λ i x k. k;
  behind = λ i x k. inl k;
  ends = λ i. ends_here l (slice_get s.ends i);
  latest = h;
  structs = λ i x k. k;
  functions = λ i x k. k;
}

pub later_from : {at to l m : ℕ} {s r : Scene} → Later to s l r m → at ≤ to → Later at s l r m
later_from a h = record {
  variables = a.variables;
  behind = λ i x k. ⊎_elim (λ e. inl e) (λ e. inr (omega (arith, h, e))) (a.behind i x k);
  ends = a.ends;
  latest = a.latest;
  structs = a.structs;
  functions = a.functions;
}

pub sound_later : {at to l : ℕ} {s : Scene} → at ≤ to → Sound at l s → Sound to l s
sound_later {at = at} {to = to} {l = l} {s = s} h k = record {
  stack = stack_later s.functions s.variables s.ends at to (length s.variables) s.names h k.stack;
  opens = k.opens;
  closes = λ q e i. omega (arith, k.closes q e i, h);
  long = k.long;
  latest = omega (arith, k.latest, h);
}

pub sound_latest : {at l m : ℕ} {s : Scene} → m ≤ at - 1 → Sound at l s → Sound at m s
sound_latest h k = record { stack = k.stack; opens = k.opens; closes = k.closes; long = k.long; latest = h }

-- no scope but that of the whole text is open
abbrev pub IsFlat : List ScopeEntry → Type 0
IsFlat [] = Unit {0}
IsFlat (Opens ∷ rest) = ⊥
IsFlat (entry.Declares name m ∷ rest) = IsFlat rest

-- Before a part that ends before this token: its tokens have places for notes, and what is known is sound.
pub record Ready (lo hi : ℕ) (w : Walk) : Type 0 where
  pub types : hi ≤ length w.types
  pub variables_at : hi ≤ length w.variables_at
  pub functions_at : hi ≤ length w.functions_at
  pub sound : Sound lo w.latest (scene w)

-- what is noted at one token alone, of an expression
pub record Marks (token : ℕ) (w v : Walk) : Type 0 where
  pub types : length v.types ≡ length w.types
  pub variables_at : length v.variables_at ≡ length w.variables_at
  pub functions_at : length v.functions_at ≡ length w.functions_at
  pub apart : (q : ℕ) → (token ≡ q → ⊥) → Same w v q
  pub scene : scene v ≡ scene w
  pub latest : v.latest ≡ max w.latest token

pub type_marks : (token : ℕ) (of : TypeTree) (w : Walk) → Marks token w (with_type token of w)
type_marks token of w = record {
  types = length_replaced w.types token (Some of);
  variables_at = refl;
  functions_at = refl;
  apart = λ q h. record { types = noted_other w.types token q (Some of) h; variables = refl; functions = refl };
  scene = refl;
  latest = refl;
}

pub use_marks : (token index : ℕ) (of : TypeTree) (w : Walk) → Marks token w (with_type token of (with_use token index w))
use_marks token index of w = record {
  types = length_replaced w.types token (Some of);
  variables_at = length_replaced w.variables_at token (Some index);
  functions_at = refl;
  apart = λ q h. record { types = noted_other w.types token q (Some of) h; variables = noted_other w.variables_at token q (Some index) h; functions = refl };
  scene = refl;
  latest = refl;
}

pub call_marks : (token index : ℕ) (of : TypeTree) (w : Walk) → Marks token w (with_type token of (with_call token index w))
call_marks token index of w = record {
  types = length_replaced w.types token (Some of);
  variables_at = refl;
  functions_at = length_replaced w.functions_at token (Some index);
  apart = λ q h. record { types = noted_other w.types token q (Some of) h; variables = refl; functions = noted_other w.functions_at token q (Some index) h };
  scene = refl;
  latest = refl;
}

pub offset_marks : (token offset : ℕ) (of : TypeTree) (w : Walk) → Marks token w (with_type token of (with_offset token offset w))
offset_marks token offset of w = record {
  types = length_replaced w.types token (Some of);
  variables_at = refl;
  functions_at = refl;
  apart = λ q h. record { types = noted_other w.types token q (Some of) h; variables = refl; functions = refl };
  scene = refl;
  latest = refl;
}

pub marks_sound : {at token : ℕ} {w v : Walk} → Marks token w v → token < at → Sound at w.latest (scene w) → Sound at v.latest (scene v)
marks_sound {at = at} {token = token} {w = w} {v = v} m h k =
    subst (λ s. Sound at v.latest s) (sym m.scene)
    (sound_latest (subst (λ n. n ≤ at - 1) (sym m.latest) (max_most w.latest token (at - 1) k.latest (omega (arith, h)))) k)

pub marks_later : {token : ℕ} {w v : Walk} → Marks token w v → (at : ℕ) → Later at (scene w) w.latest (scene v) v.latest
marks_later {token = token} {w = w} {v = v} m at =
    subst (λ s. Later at (scene w) w.latest s v.latest) (sym m.scene)
    (later_here at (scene w) w.latest v.latest (subst (λ n. w.latest ≤ n) (sym m.latest) (le-max_left w.latest token)))

pub ready_in : {lo hi : ℕ} {w : Walk} → Ready lo hi w → (l h : ℕ) → lo ≤ l → h ≤ hi → Ready l h w
ready_in r l h low high = record {
  types = omega (arith, r.types, high);
  variables_at = omega (arith, r.variables_at, high);
  functions_at = omega (arith, r.functions_at, high);
  sound = sound_later low r.sound;
}

module _ (z : Walk) where
  -- what is known later is known at the end, and nothing is noted there later
  pub record Agrees (lo hi : ℕ) (v : Walk) : Type 0 where
    pub notes : (token : ℕ) → lo ≤ token → token < hi → Same v z token
    pub later : Later hi (scene v) v.latest (scene z) z.latest

  -- A part of the walk notes at these tokens alone, and this holds where nothing is noted there later.
  pub record Part (lo hi : ℕ) (w v : Walk) (P : Type 0) : Type 0 where
    pub types : length v.types ≡ length w.types
    pub variables_at : length v.variables_at ≡ length w.variables_at
    pub functions_at : length v.functions_at ≡ length w.functions_at
    pub below : (token : ℕ) → token < lo → Same w v token
    pub above : (token : ℕ) → hi ≤ token → Same w v token
    pub scope : names_after_scope v.names ≡ names_after_scope w.names
    pub flat : IsFlat w.names → IsFlat v.names
    pub later : Later lo (scene w) w.latest (scene v) v.latest
    pub sound : Sound hi v.latest (scene v)
    pub holds : Agrees lo hi v → P

module _ {z : Walk} where
  pub agrees_in : {lo hi l h : ℕ} {w v : Walk} → Agrees z lo hi v → Later h (scene w) w.latest (scene v) v.latest
      → ((token : ℕ) → l ≤ token → token < h → Same w v token) → lo ≤ l → h ≤ hi → Agrees z l h w
  agrees_in {h = h} a k s low high = record {
    notes = λ token p q. same_then (s token p q) (a.notes token (omega (arith, low, p)) (omega (arith, high, q)));
    later = later_then k a.later high;
  }

  -- before the next part, whose first token lies behind this one
  pub ready_after : {lo hi l m : ℕ} {w v : Walk} {P : Type 0} → Ready lo hi w → Part z l m w v P → (h to : ℕ) → m ≤ h → to ≤ hi → Ready h to v
  ready_after r p h to mid high = record {
    types = subst (λ n. to ≤ n) (sym p.types) (omega (arith, r.types, high));
    variables_at = subst (λ n. to ≤ n) (sym p.variables_at) (omega (arith, r.variables_at, high));
    functions_at = subst (λ n. to ≤ n) (sym p.functions_at) (omega (arith, r.functions_at, high));
    sound = sound_later mid p.sound;
  }

  -- one part, and then one behind it
  pub rightwards : {lo mid hi : ℕ} {w u v : Walk} {P Q : Type 0} → Part z lo mid w u P → Part z mid hi u v Q → lo ≤ mid → mid ≤ hi → Part z lo hi w v (P × Q)
  rightwards {mid = mid} {hi = hi} a b low high = record {
    types = b.types ∙ a.types;
    variables_at = b.variables_at ∙ a.variables_at;
    functions_at = b.functions_at ∙ a.functions_at;
    below = λ token h. same_then (a.below token h) (b.below token (omega (arith, low, h)));
    above = λ token h. same_then (a.above token (omega (arith, high, h))) (b.above token h);
    scope = b.scope ∙ a.scope;
    flat = λ f. b.flat (a.flat f);
    later = later_then a.later b.later low;
    sound = b.sound;
    holds = λ g. (
      a.holds (record {
        notes = λ token p q. same_then (b.below token q) (g.notes token p (omega (arith, high, q)));
        later = later_then b.later g.later high;
      }),
      b.holds (record { notes = λ token p q. g.notes token (omega (arith, low, p)) q; later = g.later }),
    );
  }

  -- a part, and then what is noted at a token before it
  pub marked : {m hi token : ℕ} {w u v : Walk} {P Q : Type 0} (lo : ℕ) → Part z m hi w u P → Marks token u v → lo ≤ token → token < m → m ≤ hi
      → (Agrees z lo hi v → Q) → Part z lo hi w v (P × Q)
  marked {m = m} {hi = hi} {token = token} {w = w} {u = u} {v = v} lo a k low mid high f = record {
    types = k.types ∙ a.types;
    variables_at = k.variables_at ∙ a.variables_at;
    functions_at = k.functions_at ∙ a.functions_at;
    below = λ q h. same_then (a.below q (omega (arith, low, mid, h))) (k.apart q (λ e. omega (arith, e, low, h)));
    above = λ q h. same_then (a.above q h) (k.apart q (λ e. omega (arith, e, mid, high, h)));
    scope = ap (λ (s : Scene). names_after_scope s.names) k.scene ∙ a.scope;
    flat = λ h. subst (λ (s : Scene). IsFlat s.names) (sym k.scene) (a.flat h);
    later = later_then (later_from a.later (omega (arith, low, mid))) (marks_later k lo) (omega arith);
    sound = marks_sound k (omega (arith, mid, high)) a.sound;
    holds = λ g. (
      a.holds (record {
        notes = λ q p r. same_then (k.apart q (λ e. omega (arith, e, mid, p))) (g.notes q (omega (arith, low, mid, p)) r);
        later = later_then (marks_later k hi) g.later (omega arith);
      }),
      f g,
    );
  }

  -- one that notes nothing
  pub nothing_noted : {P : Type 0} (lo hi : ℕ) (w : Walk) → lo ≤ hi → Sound lo w.latest (scene w) → P → Part z lo hi w w P
  nothing_noted lo hi w h k p = record {
    types = refl;
    variables_at = refl;
    functions_at = refl;
    below = λ token l. same_here w token;
    above = λ token l. same_here w token;
    scope = refl;
    flat = λ f. f;
    later = later_here lo (scene w) w.latest w.latest (omega arith);
    sound = sound_later h k;
    holds = λ g. p;
  }

  pub so : {lo hi : ℕ} {w v : Walk} {P Q : Type 0} → Part z lo hi w v P → (P → Q) → Part z lo hi w v Q
  so a h = record {
    types = a.types;
    variables_at = a.variables_at;
    functions_at = a.functions_at;
    below = a.below;
    above = a.above;
    scope = a.scope;
    flat = a.flat;
    later = a.later;
    sound = a.sound;
    holds = λ g. h (a.holds g);
  }

  -- a part of more tokens
  pub wider : {lo hi : ℕ} {w v : Walk} {P : Type 0} (l h : ℕ) → Part z lo hi w v P → l ≤ lo → hi ≤ h → Part z l h w v P
  wider {lo = lo} {hi = hi} {v = v} l h a low high = record {
    types = a.types;
    variables_at = a.variables_at;
    functions_at = a.functions_at;
    below = λ token p. a.below token (omega (arith, low, p));
    above = λ token p. a.above token (omega (arith, high, p));
    scope = a.scope;
    flat = a.flat;
    later = later_from a.later low;
    sound = sound_later high a.sound;
    holds = λ g. a.holds (record {
      notes = λ token p q. g.notes token (omega (arith, low, p)) (omega (arith, high, q));
      later = later_from g.later high;
    });
  }

  -- what is noted at one token
  pub mark : {token : ℕ} {w v : Walk} {Q : Type 0} → Sound token w.latest (scene w) → Marks token w v → (Agrees z token (token + 1) v → Q)
      → Part z token (token + 1) w v Q
  mark {token = token} {w = w} {v = v} s k f = record {
    types = k.types;
    variables_at = k.variables_at;
    functions_at = k.functions_at;
    below = λ q h. k.apart q (λ e. omega (arith, e, h));
    above = λ q h. k.apart q (λ e. omega (arith, e, h));
    scope = ap (λ (s : Scene). names_after_scope s.names) k.scene;
    flat = λ h. subst (λ (s : Scene). IsFlat s.names) (sym k.scene) h;
    later = marks_later k token;
    sound = marks_sound k (omega arith) (sound_later (omega arith) s);
    holds = f;
  }

  -- what holds besides, by what is known at the end
  pub knowing : {lo hi : ℕ} {w v : Walk} {P Q : Type 0} → Part z lo hi w v P → (Agrees z lo hi v → Q) → Part z lo hi w v Q
  knowing a f = record {
    types = a.types;
    variables_at = a.variables_at;
    functions_at = a.functions_at;
    below = a.below;
    above = a.above;
    scope = a.scope;
    flat = a.flat;
    later = a.later;
    sound = a.sound;
    holds = f;
  }
