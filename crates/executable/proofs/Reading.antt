-- What a call reads of the files, and what it put out, from what is done of its command.
use Rattle.std.specs.FinMap.{get}
use Rattle.std.specs.Option.{option_map}
use Rattle.std.proofs.Common.{◌≡◌, ◌≤◌, ℕ, ◌+◌, List, [], ◌∷◌, ◌++◌, length, take, Some, ap, ap₂, sym, subst, ◌∙◌, refl, arith}
use Rattle.std.proofs.lemmas.List.{append_cancel_left, length-take, take_all}
use Rattle.std.proofs.lemmas.Option.{same_Some}
use Rattle.cbi_base.specs.Store.{Held, IsReadOf}
use Rattle.cbi_words.specs.declared.command.Command.{Command}
use Rattle.command_base.specs.Outside.{TookDue}
use Rattle.command_inputs.specs.Collections.{file_limit}
use Rattle.command_collect.specs.Collect.{AreReadOf}
use Rattle.executable.specs.Call.{Call, IsDone}
use Rattle.executable.specs.Steps.{AllStand, Stands, Succeeds}

read-once : (files : Held) (name text bytes : List ℕ) (most : ℕ) → get files name ≡ Some text → IsReadOf (Some files) name most bytes → take (most + 1) text ≡ bytes
read-once files name text bytes most there read =
    same_Some (take (most + 1) text) bytes (sym (ap (option_map (take (most + 1))) there) ∙ read)

-- a text that isn't longer than what is read of it is read whole
pub read-whole : (files : Held) (name text bytes : List ℕ) (most : ℕ) → get files name ≡ Some text → length text ≤ most → IsReadOf (Some files) name most bytes → bytes ≡ text
read-whole files name text bytes most there short read =
    let fits : length text ≤ most + 1 = omega arith in
    sym (read-once files name text bytes most there read) ∙ take_all (most + 1) text fits

-- so is one of which no more was read
pub read-all : (files : Held) (name text bytes : List ℕ) (most : ℕ) → get files name ≡ Some text → IsReadOf (Some files) name most bytes → length bytes ≤ most → bytes ≡ text
read-all files name text bytes most there read short =
    let cut : take (most + 1) text ≡ bytes = read-once files name text bytes most there read in
    let fits : length text ≤ most + 1 = omega (arith, length-take (most + 1) text, ap length cut) in
    sym cut ∙ take_all (most + 1) text fits

pub read-stands : (files : Held) (name text bytes : List ℕ) → Stands files name text → IsReadOf (Some files) name file_limit bytes → bytes ≡ text
read-stands files name text bytes stands read = read-whole files name text bytes file_limit stands.there stands.short read

pub read-texts : (files : Held) (names texts read : List (List ℕ)) → AllStand files names texts → AreReadOf (Some files) names read → read ≡ texts
read-texts files [] [] [] stand are = refl
read-texts files [] [] (one ∷ read) stand are = absurd are
read-texts files [] (text ∷ texts) read stand are = absurd stand
read-texts files (name ∷ names) [] read stand are = absurd stand
read-texts files (name ∷ names) (text ∷ texts) [] stand are = absurd are
read-texts files (name ∷ names) (text ∷ texts) (one ∷ read) stand are =
    ap₂ (λ (first : List ℕ) (more : List (List ℕ)). first ∷ more) (read-stands files name text one stand.0 are.0) (read-texts files names texts read stand.1 are.1)

-- what out took is what the call put out
pub put-out : (due : List ℕ → Type 0) (taken out : List ℕ) → TookDue due (Some taken) (Some (taken ++ out)) → due out
put-out due taken out took =
    let same : out ≡ took.text = append_cancel_left taken out took.text (same_Some (taken ++ out) (taken ++ took.text) took.took) in
    subst due (sym same) took.is_due

-- the command was done
pub done-of : (command : Command) (call : Call) (s : Succeeds command call) → IsDone (Some command) call s.is_call.taken s.is_call.told_before s.is_call.told_after
done-of command call s =
    subst (λ asked. IsDone asked call s.is_call.taken s.is_call.told_before s.is_call.told_after) s.asks (s.is_call.done s.ended)
