-- The refusals: their numbers, and the lines that name them.
use Rattle.std.specs.Prelude.{◌≡◌, ℕ, List, [], ◌++◌, length, take, codes, decimal}
use Rattle.cbi_base.specs.ProgramId.{text_of_id}
use Rattle.cbi_base.specs.declared.refusal.Refusal.{Refusal}
use Rattle.cbi_base.specs.declared.refusal.Refusal.TheVariants.{BadByte, BadToken, Syntax, BadType, TooLarge, TooManySites, BadProgram, BadBank, BadReport}
use Rattle.cbi_base.specs.declared.refusal.Refusal.TheVariants.{Foreign, Conflict, TooManyReports, TooManyMarks, BadCollection, InputTooLarge, NoSite}
use Rattle.cbi_base.specs.declared.refusal.Refusal.TheVariants.{BadEdits, Absent, NotPart, BadList, LargeInput}

abbrev pub refusal_number : Refusal → ℕ
refusal_number (BadByte _) = 10
refusal_number (BadToken _) = 11
refusal_number (Syntax _) = 12
refusal_number (BadType _ _) = 15
refusal_number TooLarge = 16
refusal_number TooManySites = 17
refusal_number (BadProgram _) = 20
refusal_number (BadBank _) = 21
refusal_number (BadReport _ _) = 22
refusal_number (Foreign _ _) = 23
refusal_number (Conflict _) = 24
refusal_number (TooManyReports _) = 25
refusal_number (TooManyMarks _) = 26
refusal_number (BadCollection _ _) = 27
refusal_number InputTooLarge = 28
refusal_number (NoSite _ _) = 29
refusal_number (BadEdits _) = 30
refusal_number (Absent _) = 31
refusal_number NotPart = 32
refusal_number (BadList _ _) = 33
refusal_number (LargeInput _) = 28

abbrev pub refusal_name : Refusal → List ℕ
refusal_name (BadByte _) = codes "BadByte"
refusal_name (BadToken _) = codes "BadToken"
refusal_name (Syntax _) = codes "Syntax"
refusal_name (BadType _ _) = codes "BadType"
refusal_name TooLarge = codes "TooLarge"
refusal_name TooManySites = codes "TooManySites"
refusal_name (BadProgram _) = codes "BadProgram"
refusal_name (BadBank _) = codes "BadBank"
refusal_name (BadReport _ _) = codes "BadReport"
refusal_name (Foreign _ _) = codes "Foreign"
refusal_name (Conflict _) = codes "Conflict"
refusal_name (TooManyReports _) = codes "TooManyReports"
refusal_name (TooManyMarks _) = codes "TooManyMarks"
refusal_name (BadCollection _ _) = codes "BadCollection"
refusal_name InputTooLarge = codes "InputTooLarge"
refusal_name (NoSite _ _) = codes "NoSite"
refusal_name (BadEdits _) = codes "BadEdits"
refusal_name (Absent _) = codes "Absent"
refusal_name NotPart = codes "NotPart"
refusal_name (BadList _ _) = codes "BadList"
refusal_name (LargeInput _) = codes "InputTooLarge"

-- what a refusal says beside its number and its name
abbrev pub details_of : Refusal → List ℕ
details_of (BadByte line) = codes " line " ++ decimal line
details_of (BadToken line) = codes " line " ++ decimal line
details_of (Syntax line) = codes " line " ++ decimal line
details_of (BadType kind line) = (codes " kind " ++ decimal kind) ++ (codes " line " ++ decimal line)
details_of TooLarge = []
details_of TooManySites = []
details_of (BadProgram line) = codes " line " ++ decimal line
details_of (BadBank line) = codes " line " ++ decimal line
details_of (BadReport file line) = (codes " file " ++ decimal file) ++ (codes " line " ++ decimal line)
details_of (Foreign ours theirs) = (codes " ours " ++ text_of_id ours) ++ (codes " theirs " ++ text_of_id theirs)
details_of (Conflict run) = codes " run " ++ decimal run
details_of (TooManyReports run) = codes " run " ++ decimal run
details_of (TooManyMarks run) = codes " run " ++ decimal run
details_of (BadCollection file line) = (codes " file " ++ decimal file) ++ (codes " line " ++ decimal line)
details_of InputTooLarge = []
details_of (NoSite run site) = (codes " run " ++ decimal run) ++ (codes " site " ++ decimal site)
details_of (BadEdits line) = codes " line " ++ decimal line
details_of (Absent run) = codes " run " ++ decimal run
details_of NotPart = []
details_of (BadList file line) = (codes " file " ++ decimal file) ++ (codes " line " ++ decimal line)
details_of (LargeInput line) = codes " line " ++ decimal line

-- the line that tells of a refusal, as `cbi: refusal 15 BadType kind 3 line 7`
abbrev pub refusal_line : Refusal → List ℕ
refusal_line refusal = codes "cbi: refusal " ++ decimal (refusal_number refusal) ++ codes " " ++ refusal_name refusal ++ details_of refusal ++ codes "\n"

-- what stood there before is the front of what stands there now
abbrev pub BeginsAs : List ℕ → List ℕ → Type 0
BeginsAs before now = take (length before) now ≡ before
