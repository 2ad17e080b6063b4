-- A store that tells what it holds has one answer to the reads of a collection; what is refused of the texts.
use Rattle.std.proofs.Common.{◌≡◌, inl, inr, ℕ, ◌+◌, Bool, true, false, List, [], ◌∷◌, Option, Some, None, IsSome, is_some, refl, ap, sym, subst, ◌∙◌}
use Rattle.std.proofs.lemmas.Bool.{false≢true}
use Rattle.cbi_base.specs.Store.{Held}
use Rattle.cbi_base.specs.declared.refusal.Refusal.{Refusal}
use Rattle.cbi_base.specs.declared.refusal.Refusal.TheVariants.{BadByte, BadToken, Syntax, BadType, BadProgram, BadBank, BadReport, Foreign, Conflict, TooManyReports, TooManyMarks, BadCollection, NoSite, BadEdits, Absent}
use Rattle.flow.specs.declared.program.ProgramParts.{ProgramParts}
use Rattle.flow.specs.Spelling.{SpellsProgram}
use Rattle.collector.specs.declared.answers.AddFault.{AddFault}
use Rattle.collector.specs.declared.answers.AddFault.TheVariants as fault
use Rattle.collector.specs.declared.collection.Bundle.{Bundle}
use Rattle.collector.specs.declared.collection.Held.{Held as Collected}
use Rattle.command_base.specs.Limits.{program_limit}
use Rattle.command_base.proofs.ReadLemmas.{read-once}
use Rattle.command_inputs.specs.Programs.{IsBadProgram}
use Rattle.command_inputs.specs.Collections.{fault_of, file_limit}
use Rattle.cbi_options.specs.declared.words.CollectWords.{CollectWords}
use Rattle.command_collect.specs.declared.reports.CollectTexts.{CollectTexts}
use Rattle.command_collect.specs.Collect.{AreReadOf, AreRefusedTexts, AreSpelled, AreCollectTexts, CollectRefused, HasNoFile, RefusesFiles, RefusesTexts, MeetsFault, TakesAll, nothing_of}
use Rattle.command_collect.proofs.Adding.{taken-stops}

reads-once : (held : Option Held) (names : List (List ℕ)) (a b : List (List ℕ)) → IsSome held → AreReadOf held names a → AreReadOf held names b → a ≡ b
reads-once held [] [] [] tells p q = refl
reads-once held [] (x ∷ a) b tells p q = absurd p
reads-once held [] [] (y ∷ b) tells p q = absurd q
reads-once held (name ∷ names) [] b tells p q = absurd p
reads-once held (name ∷ names) (x ∷ a) [] tells p q = absurd q
reads-once held (name ∷ names) (x ∷ a) (y ∷ b) tells p q =
    ap (λ z. z ∷ a) (read-once held name file_limit x y tells p.0 q.0) ∙ ap (λ zs. y ∷ zs) (reads-once held names a b tells p.1 q.1)

-- the texts are refused where any texts read of the files are
pub same-refused-texts : (held : Option Held) (words : CollectWords) (texts : CollectTexts) → IsSome held → AreCollectTexts held words texts → CollectRefused words held → AreRefusedTexts texts
same-refused-texts held words texts tells are refused =
    let program = read-once held words.program program_limit _ _ tells refused.are_texts.program_read are.program_read in
    let files = reads-once held words.files _ _ tells refused.are_texts.files_read are.files_read in
    subst (λ x. AreRefusedTexts (record { program = texts.program; files = x })) files
    (subst (λ x. AreRefusedTexts (record { program = x; files = refused.texts.files })) program refused.refused)

-- texts that hold reports
pub no-bad-file : (texts : List (List ℕ)) (bundles : List Bundle) → AreSpelled texts bundles → HasNoFile texts → ⊥
no-bad-file [] bundles are bad = absurd bad
no-bad-file (text ∷ more) [] are bad = absurd are
no-bad-file (text ∷ more) (bundle ∷ bundles) are (inl none) = none bundle are.0
no-bad-file (text ∷ more) (bundle ∷ bundles) are (inr bad) = no-bad-file more bundles are.1 bad

abbrev is_memory : Option AddFault → Bool
is_memory None = false
is_memory (Some fault.Memory) = true
is_memory (Some _) = false

-- no refusal tells of want of memory
pub never-memory : (refusal : Refusal) → fault_of refusal ≡ Some fault.Memory → ⊥
never-memory (Foreign ours theirs) h = false≢true (ap is_memory h)
never-memory (Conflict run) h = false≢true (ap is_memory h)
never-memory (TooManyReports run) h = false≢true (ap is_memory h)
never-memory (TooManyMarks run) h = false≢true (ap is_memory h)
never-memory (NoSite run site) h = false≢true (ap is_memory h)
never-memory refusal h = false≢true (ap is_some h)

-- texts that were gathered aren't refused, where each is read as one value
pub gathered-never-refused : (texts : CollectTexts) (parts : ProgramParts) (bundles : List Bundle) (after : Collected) → SpellsProgram texts.program parts → AreSpelled texts.files bundles
    → TakesAll (nothing_of texts.program parts.sites) bundles after → ((p : ProgramParts) → SpellsProgram texts.program p → p ≡ parts)
    → ((others : List Bundle) → AreSpelled texts.files others → others ≡ bundles) → AreRefusedTexts texts → ⊥
gathered-never-refused texts parts bundles after spells are takes one_program one_list (inl none) = none parts spells
gathered-never-refused texts parts bundles after spells are takes one_program one_list (inr (inl bad)) = no-bad-file texts.files bundles are bad
gathered-never-refused texts parts bundles after spells are takes one_program one_list (inr (inr not)) =
    let r = not.refused in
    let stops = subst (λ (p : ProgramParts). MeetsFault (nothing_of texts.program p.sites) r.bundles r.stops.fault) (one_program r.parts r.spells) r.stops.stops in
    let here = subst (λ bs. MeetsFault (nothing_of texts.program parts.sites) bs r.stops.fault) (one_list r.bundles r.are_spelled) stops in
    let is = taken-stops (nothing_of texts.program parts.sites) bundles after r.stops.fault takes here in
    never-memory not.refusal (r.stops.tells ∙ ap Some is)

-- a refusal that is told is one of the texts
refused-report : (number : ℕ) (texts : List (List ℕ)) (file line : ℕ) → RefusesFiles number texts (BadReport file line) → HasNoFile texts
refused-report number [] file line h = absurd h
refused-report number (text ∷ more) file line (inl h) = inl h.1.1.0
refused-report number (text ∷ more) file line (inr h) = inr (refused-report (number + 1) more file line h.1)

refused-collection : (number : ℕ) (texts : List (List ℕ)) (file line : ℕ) → RefusesFiles number texts (BadCollection file line) → HasNoFile texts
refused-collection number [] file line h = absurd h
refused-collection number (text ∷ more) file line (inl h) = inl h.1.1.0
refused-collection number (text ∷ more) file line (inr h) = inr (refused-collection (number + 1) more file line h.1)

refuses-texts : (refusal : Refusal) (texts : CollectTexts) → RefusesTexts refusal texts → AreRefusedTexts texts
refuses-texts (BadProgram line) texts h = inl h.0
refuses-texts (BadReport file line) texts h = inr (inl (refused-report 1 texts.files file line h.1))
refuses-texts (BadCollection file line) texts h = inr (inl (refused-collection 1 texts.files file line h.1))
refuses-texts (BadByte line) texts h = inr (inr (record { refusal = BadByte line; refused = h }))
refuses-texts (BadToken line) texts h = inr (inr (record { refusal = BadToken line; refused = h }))
refuses-texts (Syntax line) texts h = inr (inr (record { refusal = Syntax line; refused = h }))
refuses-texts (BadType kind line) texts h = inr (inr (record { refusal = BadType kind line; refused = h }))
refuses-texts (BadBank line) texts h = inr (inr (record { refusal = BadBank line; refused = h }))
refuses-texts (Foreign ours theirs) texts h = inr (inr (record { refusal = Foreign ours theirs; refused = h }))
refuses-texts (Conflict run) texts h = inr (inr (record { refusal = Conflict run; refused = h }))
refuses-texts (TooManyReports run) texts h = inr (inr (record { refusal = TooManyReports run; refused = h }))
refuses-texts (TooManyMarks run) texts h = inr (inr (record { refusal = TooManyMarks run; refused = h }))
refuses-texts (NoSite run site) texts h = inr (inr (record { refusal = NoSite run site; refused = h }))
refuses-texts (BadEdits line) texts h = inr (inr (record { refusal = BadEdits line; refused = h }))
refuses-texts (Absent run) texts h = inr (inr (record { refusal = Absent run; refused = h }))
refuses-texts other texts h = inr (inr (record { refusal = other; refused = h }))

pub collect-refused : (words : CollectWords) (held : Option Held) (texts : CollectTexts) (refusal : Refusal) → AreCollectTexts held words texts → RefusesTexts refusal texts → CollectRefused words held
collect-refused words held texts refusal are h = record { texts = texts; are_texts = are; refused = refuses-texts refusal texts h }

-- a text that is no program is refused so
pub bad-program : (texts : CollectTexts) (refusal : Refusal) → IsBadProgram texts.program refusal → RefusesTexts refusal texts
bad-program texts refusal h = subst (λ r. RefusesTexts r texts) (sym h.refusal_is) (h.none, h.wrong)
