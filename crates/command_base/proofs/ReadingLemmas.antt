-- Readers of files one after another, and a look at the bytes that were read.
use Rattle.std.proofs.Common.{◌≡◌, ◌≤◌, ℕ, List, [], ◌∷◌, ◌++◌, Option, Result, Ok, Err, IfErr, subst, sym, ◌∙◌, arith}
use Rattle.cbi_base.specs.Words.{CountHasRisen, Held}
use Rattle.cbi_base.specs.declared.refusal.Refusal.{Refusal}
use Rattle.command_base.specs.declared.fault.Fault.{Fault}
use Rattle.command_base.specs.declared.fault.Fault.TheVariants.{Read, Write, Refused, Memory}
use Rattle.command_base.specs.Faults.{HasCause, IfReadFault, IfFilesRead}
use Rattle.command_base.specs.Names.{AreHeld, IsFirstMissing, IsOneOf}
use Rattle.command_base.specs.Reading.{HasRead}
use Rattle.command_base.proofs.FaultLemmas.{caused-as, passed-as}
use Rattle.command_base.proofs.NameLemmas.{held-both, held-first, held-rest, missing-in-first, missing-in-rest, of-read-as, one-in-first, one-in-rest}

-- a look at the bytes reads no name
not-read : (e : Fault) (P : Refusal → Type 0) (Q : List ℕ → Type 0) → HasCause e (λ n. ⊥) ⊥ P → IfReadFault e Q
not-read (Read name) P Q h = absurd h
not-read e P Q h = tt

-- all files were read, and then a look at the bytes met this fault
pub looked-at : {S A : Type 0} {holds : S → Option Held} {read_faults write_faults : S → ℕ} {is_sound : S → Type 0} {before after : S} {names : List (List ℕ)} {value : A}
    (B : Type 0) (e : Fault) (P refuses : Refusal → Type 0) → HasRead holds read_faults write_faults is_sound before after names (λ r. ⊥) (Ok value)
    → HasCause e (λ n. ⊥) ⊥ P → ((r : Refusal) → P r → refuses r)
    → HasRead {A = B} holds read_faults write_faults is_sound before after names refuses (Err e)
looked-at B e P refuses read cause refused = record {
  fault = caused-as e _ ⊥ P refuses cause refused;
  was_held = passed-as B e _ read.was_held;
  missing = λ sound. not-read e P _ cause;
  held = read.held;
  writes = read.writes;
  never_falls = read.never_falls;
  sound = read.sound;
  sound_count = read.sound_count;
}

-- a reader that was stopped by no refusal, before further names too
never-refused : (e : Fault) (read : List ℕ → Type 0) (refuses : Refusal → Type 0) → HasCause e read ⊥ (λ r. ⊥) → HasCause e read ⊥ refuses
never-refused (Read name) read refuses h = h
never-refused Write read refuses h = h
never-refused (Refused refusal) read refuses h = absurd h
never-refused Memory read refuses h = tt

stopped-fault : (e : Fault) (first rest : List (List ℕ)) (rose : Type 0) (refuses : Refusal → Type 0) → HasCause e (λ n. IsOneOf first n × rose) ⊥ (λ r. ⊥)
    → HasCause e (λ n. IsOneOf (first ++ rest) n × rose) ⊥ refuses
stopped-fault (Read name) first rest rose refuses h = (one-in-first first rest name h.0, h.1)
stopped-fault Write first rest rose refuses h = h
stopped-fault (Refused refusal) first rest rose refuses h = absurd h
stopped-fault Memory first rest rose refuses h = tt

stopped-held : (B : Type 0) (e : Fault) (read : List ℕ → Type 0) (P : Type 0) → HasCause e read ⊥ (λ r. ⊥) → IfFilesRead {A = B} (Err e) P
stopped-held B (Read name) read P h = tt
stopped-held B Write read P h = absurd h
stopped-held B (Refused refusal) read P h = absurd h
stopped-held B Memory read P h = tt

pub stopped : {S A : Type 0} {holds : S → Option Held} {read_faults write_faults : S → ℕ} {is_sound : S → Type 0} {before after : S} {names : List (List ℕ)}
    (B : Type 0) (e : Fault) (refuses : Refusal → Type 0) → HasRead {A = A} holds read_faults write_faults is_sound before after names (λ r. ⊥) (Err e)
    → HasRead {A = B} holds read_faults write_faults is_sound before after names refuses (Err e)
stopped B e refuses read = record {
  fault = never-refused e _ refuses read.fault;
  was_held = stopped-held B e _ _ read.fault;
  missing = read.missing;
  held = read.held;
  writes = read.writes;
  never_falls = read.never_falls;
  sound = read.sound;
  sound_count = read.sound_count;
}

pub stopped-first : {S A : Type 0} {holds : S → Option Held} {read_faults write_faults : S → ℕ} {is_sound : S → Type 0} {before after : S} {first : List (List ℕ)}
    (B : Type 0) (e : Fault) (rest : List (List ℕ)) (refuses : Refusal → Type 0)
    → HasRead {A = A} holds read_faults write_faults is_sound before after first (λ r. ⊥) (Err e)
    → HasRead {A = B} holds read_faults write_faults is_sound before after (first ++ rest) refuses (Err e)
stopped-first {first = first} B e rest refuses read = record {
  fault = stopped-fault e first rest _ refuses read.fault;
  was_held = stopped-held B e _ _ read.fault;
  missing = λ sound. of-read-as e _ _ (read.missing sound) (λ name missing. missing-in-first _ first rest name missing);
  held = read.held;
  writes = read.writes;
  never_falls = read.never_falls;
  sound = read.sound;
  sound_count = λ sound are. read.sound_count sound (held-first _ first rest are);
}

-- a reader that went on behind another one that read all its names
then-fault : {B : Type 0} (r : Result B Fault) (first rest : List (List ℕ)) (before between after : ℕ) (refuses : Refusal → Type 0) → before ≤ between
    → IfErr r (λ e. HasCause e (λ n. IsOneOf rest n × CountHasRisen between after) ⊥ refuses) → IfErr r (λ e. HasCause e (λ n. IsOneOf (first ++ rest) n × CountHasRisen before after) ⊥ refuses)
then-fault (Ok value) first rest before between after refuses rises h = tt
then-fault (Err (Read name)) first rest before between after refuses rises h = (one-in-rest first rest name h.0, omega (arith, h.1, rises))
then-fault (Err Write) first rest before between after refuses rises h = h
then-fault (Err (Refused refusal)) first rest before between after refuses rises h = h
then-fault (Err Memory) first rest before between after refuses rises h = tt

passed-then : {B : Type 0} (r : Result B Fault) (P Q : Type 0) → IfFilesRead r P → (P → Q) → IfFilesRead r Q
passed-then (Err (Read name)) P Q h k = tt
passed-then (Err Memory) P Q h k = tt
passed-then r P Q h k = k h

missing-then : {B : Type 0} (r : Result B Fault) (P Q : List ℕ → Type 0) → IfErr r (λ e. IfReadFault e P) → ((name : List ℕ) → P name → Q name) → IfErr r (λ e. IfReadFault e Q)
missing-then (Ok value) P Q h k = tt
missing-then (Err e) P Q h k = of-read-as e P Q h k

pub read-then : {S A B : Type 0} {holds : S → Option Held} {read_faults write_faults : S → ℕ} {is_sound : S → Type 0} {before between after : S} {first rest : List (List ℕ)} {value : A}
    {refuses : Refusal → Type 0} {result : Result B Fault} → HasRead holds read_faults write_faults is_sound before between first (λ r. ⊥) (Ok value)
    → HasRead holds read_faults write_faults is_sound between after rest refuses result
    → HasRead holds read_faults write_faults is_sound before after (first ++ rest) refuses result
read-then {holds = holds} {first = first} {rest = rest} {refuses = refuses} {result = result} read next = record {
  fault = then-fault result first rest _ _ _ refuses read.never_falls next.fault;
  was_held = passed-then result _ _ next.was_held (λ are. held-both _ first rest read.was_held (subst (λ h. AreHeld h rest) read.held are));
  missing = λ sound. missing-then result _ _ (next.missing (read.sound sound)) (λ name missing. missing-in-rest _ first rest name read.was_held
      (subst (λ h. IsFirstMissing h rest name) read.held missing));
  held = next.held ∙ read.held;
  writes = next.writes ∙ read.writes;
  never_falls = omega (arith, read.never_falls, next.never_falls);
  sound = λ sound. next.sound (read.sound sound);
  sound_count = λ sound are. next.sound_count (read.sound sound) (subst (λ h. AreHeld h rest) (sym read.held) (held-rest _ first rest are))
      ∙ read.sound_count sound (held-first _ first rest are);
}
