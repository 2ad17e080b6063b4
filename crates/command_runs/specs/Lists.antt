-- What `runs` reads before any run is made: its program and its lists, and what is refused of them.
use Rattle.std.specs.Prelude.{◌≡◌, ◌⊎◌, ◌+◌, ◌<◌, ℕ, List, ◌∷◌, length, Option, Some, None}
use Rattle.std.specs.Global.{Global}
use Rattle.std.specs.Option.{option_to_list}
use Rattle.cbi_base.specs.Words.{IsBadLine, Held, IsReadOf}
use Rattle.cbi_base.specs.declared.refusal.Refusal.{Refusal}
use Rattle.cbi_base.specs.declared.refusal.Refusal.TheVariants.{BadList}
use Rattle.flow.specs.declared.program.ProgramParts.{ProgramParts}
use Rattle.flow.specs.Spelling.{SpellsProgram}
use Rattle.name_lists.specs.Grammar.{ListEnds, NameFollows, start_of_list}
use Rattle.name_lists.specs.List.{SpellsList}
use Rattle.command_base.specs.Limits.{program_limit}
use Rattle.command_inputs.specs.Programs.{IsBadProgram, IsNoProgram, IsSpelled}
use Rattle.command_run.specs.Files.{IsReadWhere}
use Rattle.command_runs.specs.Line.{AreAsMany}
use Rattle.command_runs.specs.declared.plan.ListedPlan.{ListedPlan}
use Rattle.command_runs.specs.declared.texts.ListTexts.{ListTexts}
use Rattle.cbi_options.specs.declared.words.RunsWords.{RunsWords}

-- the most bytes that are read of a list: those of 100,000 names of 4,095 bytes, each with its newline
abbrev pub list_limit : ℕ
list_limit = 409600000

-- the names that are read before any run is made, in this order
abbrev pub first_names : RunsWords → List (List ℕ)
first_names r = r.program ∷ r.inputs ∷ option_to_list r.expect

-- their bytes
pub record AreListTexts (held : Option Held) (r : RunsWords) (texts : ListTexts) : Type 0 where
  pub program_read : IsReadOf held r.program program_limit texts.program
  pub inputs_read : IsReadOf held r.inputs list_limit texts.inputs
  pub expect_read : IsReadWhere held r.expect list_limit texts.expect

-- the text spells these names, where there is one
abbrev pub SpellsWhere : (first : ℕ) → Option (List ℕ) → Option (List (List ℕ)) → Type 0
SpellsWhere first None None = Unit {0}
SpellsWhere first None (Some names) = ⊥
SpellsWhere first (Some text) None = ⊥
SpellsWhere first (Some text) (Some names) = SpellsList first text names

-- the plan of these lists
abbrev pub lines_plan : RunsWords → (inputs : List (List ℕ)) → (expects : Option (List (List ℕ))) → ListedPlan
lines_plan r inputs expects = record { inputs = inputs; expects = expects; rate = r.rate; seed = r.seed; first = r.first }

-- the texts spell the lists of this plan
pub record SpellLists (r : RunsWords) (texts : ListTexts) (plan : ListedPlan) : Type 0 where
  pub inputs : SpellsList r.first texts.inputs plan.inputs
  pub expects : SpellsWhere r.first texts.expect plan.expects
  pub as_many : AreAsMany plan.inputs plan.expects
  pub plan_is : plan ≡ lines_plan r plan.inputs plan.expects

-- they spell this program, and those lists
pub record SpellPlan (r : RunsWords) (texts : ListTexts) (parts : ProgramParts) (plan : ListedPlan) : Type 0 where
  pub program : SpellsProgram texts.program parts
  pub lists : SpellLists r texts plan

-- so they are read
pub record IsLinesPlan (held : Option Held) (r : RunsWords) (texts : ListTexts) (parts : ProgramParts) (plan : ListedPlan) : Type 0 where
  pub are_texts : AreListTexts held r texts
  pub spell : SpellPlan r texts parts plan

-- no list has this text, or one has
abbrev pub IsNoList : (first : ℕ) → List ℕ → Type 0
IsNoList first text = (names : List (List ℕ)) → SpellsList first text names → ⊥

pub record IsListText (first : ℕ) (text : List ℕ) : Type 0 where
  pub names : List (List ℕ)
  pub spells : SpellsList first text names

-- the line at which the text of a list goes wrong
pub record IsBadListLine (first : ℕ) (text : List ℕ) (line : ℕ) : Type 0 where
  pub alloc : Global
  pub bad : IsBadLine NameFollows ListEnds (start_of_list alloc first) text line

-- the text of the list with this number is no list's, and goes wrong at the line of the refusal
pub record IsBadList (file first : ℕ) (text : List ℕ) (refusal : Refusal) : Type 0 where
  pub line : ℕ
  pub refusal_is : refusal ≡ BadList file line
  pub none : IsNoList first text
  pub bad : IsBadListLine first text line

-- the second text, where there is one, is no list's
abbrev pub IsNoListWhere : (first : ℕ) → Option (List ℕ) → Type 0
IsNoListWhere first None = ⊥
IsNoListWhere first (Some text) = IsNoList first text

abbrev pub IsBadWhere : (first : ℕ) → Option (List ℕ) → Refusal → Type 0
IsBadWhere first None refusal = ⊥
IsBadWhere first (Some text) refusal = IsBadList 2 first text refusal

-- the first line of the longer list that has no fellow in the shorter one, which is that of the refusal; the longer list has this number
pub record HasNoFellow (shorter longer : List (List ℕ)) (file : ℕ) (refusal : Refusal) : Type 0 where
  pub fewer : length shorter < length longer
  pub refusal_is : refusal ≡ BadList file (length shorter + 1)

-- the one list or the other has a line that has no fellow
abbrev pub AreUneven : (inputs : List (List ℕ)) → (expects : Option (List (List ℕ))) → Refusal → Type 0
AreUneven inputs None refusal = ⊥
AreUneven inputs (Some expects) refusal = HasNoFellow expects inputs 1 refusal ⊎ HasNoFellow inputs expects 2 refusal

-- the texts spell these lists, whose lengths needn't be equal
pub record SpellTwo (r : RunsWords) (texts : ListTexts) (names : List (List ℕ)) (fellows : Option (List (List ℕ))) : Type 0 where
  pub inputs : SpellsList r.first texts.inputs names
  pub expects : SpellsWhere r.first texts.expect fellows

-- they spell lists of unequal lengths
pub record AreUnequal (r : RunsWords) (texts : ListTexts) : Type 0 where
  pub inputs : List (List ℕ)
  pub expects : Option (List (List ℕ))
  pub spell : SpellTwo r texts inputs expects
  pub unequal : AreAsMany inputs expects → ⊥

-- they spell lists that are refused so
pub record RefusesUneven (r : RunsWords) (texts : ListTexts) (refusal : Refusal) : Type 0 where
  pub inputs : List (List ℕ)
  pub expects : Option (List (List ℕ))
  pub spell : SpellTwo r texts inputs expects
  pub uneven : AreUneven inputs expects refusal

-- What is wrong with the lists: one of the texts is no list's, or the lists have unequal lengths.
abbrev pub AreBadLists : RunsWords → ListTexts → Type 0
AreBadLists r texts = IsNoList r.first texts.inputs ⊎ (IsNoListWhere r.first texts.expect ⊎ AreUnequal r texts)

-- What is wrong with the bytes read: no program spells the first, or something is wrong with the lists.
abbrev pub AreBadTexts : RunsWords → ListTexts → Type 0
AreBadTexts r texts = IsNoProgram texts.program ⊎ AreBadLists r texts

-- Which refusal of the lists it is: that of the first comes first, then that of the second, and last that of a line that has no fellow.
abbrev pub RefusesLists : RunsWords → ListTexts → Refusal → Type 0
RefusesLists r texts refusal =
    IsBadList 1 r.first texts.inputs refusal ⊎ ((IsListText r.first texts.inputs × IsBadWhere r.first texts.expect refusal) ⊎ RefusesUneven r texts refusal)

-- Which refusal of the bytes read it is: that of the program comes first.
abbrev pub RefusesFirst : RunsWords → ListTexts → Refusal → Type 0
RefusesFirst r texts refusal = IsBadProgram texts.program refusal ⊎ (IsSpelled texts.program × RefusesLists r texts refusal)
