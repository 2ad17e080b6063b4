-- What a part of the walk notes of types: at which tokens, in their order, and that this is what it says.
use Rattle.std.proofs.Common.{◌⊎◌, inl, inr, ◌≡◌, ℕ, ◌<◌, refl, ap, subst, sym, ◌∙◌, arith, List, [], ◌∷◌, ◌++◌, length, map, Option, Some}
use Rattle.std.proofs.lemmas.List.{map-append}
use Rattle.c_types_expressions.proofs.Giving.{Gives as GivesIn}
use Rattle.c_types_expressions.proofs.Given.{Gives, looks}
use Rattle.c_types.proofs.Replaced.{noted_other, noted_same}
use Rattle.c_types.proofs.Noted.{length_replaced}
use Rattle.c_types_rules.specs.Words.{TypeTree, OperandOrFault}
use Rattle.c_types.specs.Answers.{note_at}
use Rattle.c_types_expressions.specs.declared.walk.Definition.{Definition}
use Rattle.c_types_expressions.specs.declared.walk.FunctionEntry.{FunctionEntry}
use Rattle.c_types_expressions.specs.declared.walk.VariableEntry.{VariableEntry}
use Rattle.c_types_expressions.specs.declared.walk.Walk.{Walk}
use Rattle.c_types_expressions.specs.Words.{Walked, Fine, Faulty, item_replaced, operand_noted}
use Rattle.c_types_faults.specs.Events.{Construct, Event, Value, Initialises, Variable, Opens, Closes, Struct, Names, Defines}
use Rattle.c_types_faults.proofs.Points.{Among, Once}
use Rattle.c_types_rules.specs.declared.fault.FaultKind.{FaultKind}
use Rattle.c_types_faults.proofs.Telling.{Tells, TellsIn}

abbrev pub Log : Type 0
Log = List (ℕ × TypeTree)

abbrev pub noting : Log → List (Option TypeTree) → List (Option TypeTree)
noting [] types = types
noting (n ∷ log) types = noting log (item_replaced types n.0 (Some n.1))

-- all that is noted in the log stands there
abbrev pub Says : Log → List (Option TypeTree) → Type 0
Says [] types = Unit {0}
Says (n ∷ log) types = (note_at types n.0 ≡ Some n.1) × Says log types

abbrev pub token : ℕ × TypeTree → ℕ
token n = n.0

-- the own tokens of expressions
abbrev pub tokens_in : List Event → List ℕ
tokens_in [] = []
tokens_in (Value own c ∷ es) = own ∷ tokens_in es
tokens_in (event ∷ es) = tokens_in es

pub noting_both : (xs ys : Log) (types : List (Option TypeTree)) → noting (xs ++ ys) types ≡ noting ys (noting xs types)
noting_both [] ys types = refl
noting_both (x ∷ xs) ys types = noting_both xs ys (item_replaced types x.0 (Some x.1))

pub says_left : (xs ys : Log) (types : List (Option TypeTree)) → Says (xs ++ ys) types → Says xs types
says_left [] ys types h = tt
says_left (x ∷ xs) ys types h = (h.0, says_left xs ys types h.1)

pub says_right : (xs ys : Log) (types : List (Option TypeTree)) → Says (xs ++ ys) types → Says ys types
says_right [] ys types h = h
says_right (x ∷ xs) ys types h = says_right xs ys types h.1

pub tokens_both : (xs ys : List Event) → tokens_in (xs ++ ys) ≡ tokens_in xs ++ tokens_in ys
tokens_both [] ys = refl
tokens_both (Value own c ∷ xs) ys = ap (λ ks. own ∷ ks) (tokens_both xs ys)
tokens_both (Initialises own ∷ xs) ys = tokens_both xs ys
tokens_both (Variable own ∷ xs) ys = tokens_both xs ys
tokens_both (Opens ∷ xs) ys = tokens_both xs ys
tokens_both (Closes ∷ xs) ys = tokens_both xs ys
tokens_both (Struct ∷ xs) ys = tokens_both xs ys
tokens_both (Names name ∷ xs) ys = tokens_both xs ys
tokens_both (Defines ∷ xs) ys = tokens_both xs ys

-- what no expression changes
pub record Rest : Type 0 where
  pub variables : List VariableEntry
  pub declared : List TypeTree
  pub functions : List FunctionEntry
  pub definitions : List Definition
  pub locals : ℕ

abbrev pub rest : Walk → Rest
rest w = record {
  variables = w.variables;
  declared = w.declared_types;
  functions = w.functions;
  definitions = w.definitions;
  locals = w.locals;
}

-- What is noted on the way from one point to another, at the tokens of these events; and this holds where it stands at the end.
pub record Logged (es : List Event) (P : Walk → Type 0) (w v : Walk) : Type 0 where
  pub log : Log
  pub types : v.types ≡ noting log w.types
  pub tokens : map token log ≡ tokens_in es
  pub still : rest v ≡ rest w
  pub holds : (z : Walk) → Says log z.types → P z

pub logged_here : (w : Walk) → Logged [] (λ z. Unit {0}) w w
logged_here w = record { log = []; types = refl; tokens = refl; still = refl; holds = λ z h. tt }

pub logged_then : {es fs : List Event} {P Q : Walk → Type 0} {w v u : Walk} → Logged es P w v → Logged fs Q v u → Logged (es ++ fs) (λ z. P z × Q z) w u
logged_then {es = es} {fs = fs} {w = w} a b = record {
  log = a.log ++ b.log;
  types = b.types ∙ ap (noting b.log) a.types ∙ sym (noting_both a.log b.log w.types);
  tokens = map-append token a.log b.log ∙ ap (λ ks. ks ++ map token b.log) a.tokens ∙ ap (λ ks. tokens_in es ++ ks) b.tokens ∙ sym (tokens_both es fs);
  still = b.still ∙ a.still;
  holds = λ z h. (a.holds z (says_left a.log b.log z.types h), b.holds z (says_right a.log b.log z.types h));
}

pub logged_so : {es : List Event} {P Q : Walk → Type 0} {w v : Walk} → Logged es P w v → ((z : Walk) → P z → Q z) → Logged es Q w v
logged_so a f = record { log = a.log; types = a.types; tokens = a.tokens; still = a.still; holds = λ z h. f z (a.holds z h) }

-- the type is noted at the token
pub logged_one : (own : ℕ) (c : Construct) (t : TypeTree) (w v : Walk) → v.types ≡ item_replaced w.types own (Some t) → rest v ≡ rest w
    → Logged (Value own c ∷ []) (λ z. note_at z.types own ≡ Some t) w v
logged_one own c t w v e l = record { log = (own, t) ∷ []; types = e; tokens = refl; still = l; holds = λ z h. h.0 }

-- the last look at a construct, before which no type was noted
pub looked_logs : (own : ℕ) (c : Construct) (l : OperandOrFault) (w v : Walk) → v.types ≡ w.types → rest v ≡ rest w
    → Gives (operand_noted own l v) (λ d u. Logged (Value own c ∷ []) (λ z. note_at z.types own ≡ Some d.ctype) w u)
looked_logs own c l w v e k = looks own l v (λ d h. logged_one own c d.ctype w _ (ap (λ ts. item_replaced ts own (Some d.ctype)) e) k)

-- what is told of a part where it goes on
gives_in : {A : Type 0} (Q : A → Walk → Type 0) (B : FaultKind → ℕ → Type 0) (m : Walked A) → TellsIn Q B m → GivesIn Q m
gives_in Q B (Fine a v) h = h
gives_in Q B (Faulty kind at) h = tt

pub told : {A : Type 0} {m : Walked A} {Q : A → Walk → Type 0} {B : FaultKind → ℕ → Type 0} → Tells m Q B → Gives m Q
told {m = m} {Q = Q} {B = B} h = record { by = gives_in Q B m h.by }

both_in : {A : Type 0} (P Q : A → Walk → Type 0) (m : Walked A) → GivesIn P m → GivesIn Q m → GivesIn (λ a v. P a v × Q a v) m
both_in P Q (Fine a v) h k = (h, k)
both_in P Q (Faulty kind at) h k = tt

pub both : {A : Type 0} {m : Walked A} {P Q : A → Walk → Type 0} → Gives m P → Gives m Q → Gives m (λ a v. P a v × Q a v)
both {m = m} {P = P} {Q = Q} h k = record { by = both_in P Q m h.by k.by }

-- what a log says stands at the end, where no token is noted twice

abbrev Has : ℕ → List ℕ → Type 0
Has k [] = ⊥
Has k (x ∷ xs) = (k ≡ x) ⊎ Has k xs

abbrev AreApart : List ℕ → Type 0
AreApart [] = Unit {0}
AreApart (x ∷ xs) = (Has x xs → ⊥) × AreApart xs

has_among : (k : ℕ) (es : List Event) → Has k (tokens_in es) → Among k es
has_among k [] h = absurd h
has_among k (Value own c ∷ es) (inl h) = inl h
has_among k (Value own c ∷ es) (inr h) = inr (has_among k es h)
has_among k (Initialises own ∷ es) h = inr (has_among k es h)
has_among k (Variable own ∷ es) h = inr (has_among k es h)
has_among k (Opens ∷ es) h = inr (has_among k es h)
has_among k (Closes ∷ es) h = inr (has_among k es h)
has_among k (Struct ∷ es) h = inr (has_among k es h)
has_among k (Names name ∷ es) h = inr (has_among k es h)
has_among k (Defines ∷ es) h = inr (has_among k es h)

are_apart : (es : List Event) → Once es → AreApart (tokens_in es)
are_apart [] h = tt
are_apart (Value own c ∷ es) h = (λ i. h.0 own refl (has_among own es i), are_apart es h.1)
are_apart (Initialises own ∷ es) h = are_apart es h.1
are_apart (Variable own ∷ es) h = are_apart es h.1
are_apart (Opens ∷ es) h = are_apart es h.1
are_apart (Closes ∷ es) h = are_apart es h.1
are_apart (Struct ∷ es) h = are_apart es h.1
are_apart (Names name ∷ es) h = are_apart es h.1
are_apart (Defines ∷ es) h = are_apart es h.1

stays : (log : Log) (types : List (Option TypeTree)) (k : ℕ) → (Has k (map token log) → ⊥) → note_at (noting log types) k ≡ note_at types k
stays [] types k h = refl
stays (n ∷ log) types k h =
    stays log (item_replaced types n.0 (Some n.1)) k (λ i. h (inr i)) ∙ noted_other types n.0 k (Some n.1) (λ e. h (inl (sym e)))

says_all : (log : Log) (types : List (Option TypeTree)) → AreApart (map token log) → ((k : ℕ) → Has k (map token log) → k < length types)
    → Says log (noting log types)
says_all [] types h less = tt
says_all (n ∷ log) types h less = (
  stays log (item_replaced types n.0 (Some n.1)) n.0 h.0 ∙ noted_same types n.0 n.1 (less n.0 (inl refl)),
  says_all log (item_replaced types n.0 (Some n.1)) h.1 (λ k i. omega (arith, less k (inr i), length_replaced types n.0 (Some n.1))),
)

pub log_stands : (es : List Event) (log : Log) (types : List (Option TypeTree)) → map token log ≡ tokens_in es → Once es
    → ((k : ℕ) → Among k es → k < length types) → Says log (noting log types)
log_stands es log types tokens once within =
    says_all log types (subst AreApart (sym tokens) (are_apart es once)) (λ k h. within k (has_among k es (subst (Has k) tokens h)))
