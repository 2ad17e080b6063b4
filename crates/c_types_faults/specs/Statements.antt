-- Which statements keep the rules (C99 6.8), and which rule one breaks first: from left to right a part of it does, where those before it keep the rules; or
-- all of them do, and the statement itself breaks one, at its own token.
use Rattle.std.specs.Prelude.{◌≡◌, ◌⊎◌, ℕ, Bool, true, false, Option, Some, None}
use Rattle.c_syntax.specs.Words.{ExprTree, EntryList, ForStartTree, StatementTree}
use Rattle.c_syntax.specs.StatementTree as s
use Rattle.c_types_rules.specs.declared.fault.FaultKind.{FaultKind}
use Rattle.c_types_rules.specs.declared.fault.FaultKind.TheVariants as fault
use Rattle.c_types_rules.specs.declared.operand.Operand.{Operand}
use Rattle.c_types_rules.specs.Words.{TypeTree, is_struct, is_void}
use Rattle.c_types_laws.specs.Operands.{Accepts, IsScalar}
use Rattle.c_types_faults.specs.Known.{Known}
use Rattle.c_types_faults.specs.Context.{Context, inner_context, known_identifiers}
use Rattle.c_types_faults.specs.Exprs.{IsOperand}
use Rattle.c_types_faults.specs.ExprBreaks.{Breaks}
use Rattle.c_types_faults.specs.Wholes.{IsWhole, WholeBreaks}
use Rattle.c_types_faults.specs.Declarations.{DeclarationBreaks, DeclarationGives}

-- what decides is no scalar (6.8.4.1p1, 6.8.5p2)
abbrev pub NoCondition : Known → ExprTree → FaultKind → Type 0
NoCondition k x kind = (kind ≡ fault.Operands) × ((a : Operand) × (IsOperand k x a × (IsScalar a → ⊥)))

-- a value that is given up is a struct, which is used only by `.`, `&` and `sizeof` (6.8.3p2, narrower)
abbrev pub GivesUpStruct : Known → ExprTree → FaultKind → Type 0
GivesUpStruct k x kind = (kind ≡ fault.Operands) × ((a : Operand) × (IsOperand k x a × (is_struct a.ctype ≡ true)))

-- an operand, which breaks no rule
abbrev pub IsSomeOperand : Known → ExprTree → Type 0
IsSomeOperand k x = (a : Operand) × IsOperand k x a

-- of a part of a `for` that may be missing
abbrev pub OfPart : (ExprTree → Type 0) → Option ExprTree → Type 0
OfPart P None = ⊥
OfPart P (Some x) = P x

-- what decides is a scalar
abbrev pub IsCondition : Known → ExprTree → Type 0
IsCondition k x = (a : Operand) × (IsOperand k x a × IsScalar a)

-- a value that is given up is no struct
abbrev pub IsGivenUp : Known → ExprTree → Type 0
IsGivenUp k x = (a : Operand) × (IsOperand k x a × (is_struct a.ctype ≡ false))

-- of a part of a `for`, if it is there
abbrev pub IfPart : (ExprTree → Type 0) → Option ExprTree → Type 0
IfPart P None = Unit {0}
IfPart P (Some x) = P x

-- The first part of a `for` keeps the rules, and this is declared behind it.
abbrev pub StartGives : Context → ForStartTree → Context → Type 0
StartGives c (s.Declares d) after = DeclarationGives false c d after
StartGives c (s.Computes x) after = IfPart (IsGivenUp (known_identifiers c)) x × (after ≡ c)

-- No part of the first part breaks a rule, and this is declared behind it. That its value is given up is looked at last.
abbrev pub StartLeaves : Context → ForStartTree → Context → Type 0
StartLeaves c (s.Declares d) after = DeclarationGives false c d after
StartLeaves c (s.Computes x) after = IfPart (IsSomeOperand (known_identifiers c)) x × (after ≡ c)

abbrev pub StartBreaks : Context → ForStartTree → FaultKind → ℕ → Type 0
StartBreaks c (s.Declares d) kind at = DeclarationBreaks false c d kind at
StartBreaks c (s.Computes x) kind at = OfPart (λ y. Breaks (known_identifiers c) y kind at) x

abbrev pub for_start_expression : ForStartTree → Option ExprTree
for_start_expression (s.Declares d) = None
for_start_expression (s.Computes x) = x

-- the parts of a `for`, at its own token
abbrev pub ForBreaks : Known → Known → ForStartTree → Option ExprTree → Option ExprTree → FaultKind → Type 0
ForBreaks before k start condition step kind = OfPart (λ x. GivesUpStruct before x kind) (for_start_expression start)
    ⊎ (OfPart (λ x. NoCondition k x kind) condition ⊎ OfPart (λ x. GivesUpStruct k x kind) step)

-- `return` (6.8.6.4): a value where the function gives none, one that can't be assigned to what the function gives, or none where the function gives one
abbrev pub ReturnBreaks : Known → TypeTree → Option ExprTree → FaultKind → Type 0
ReturnBreaks k gives None kind = (kind ≡ fault.Jump) × (is_void gives ≡ false)
ReturnBreaks k gives (Some x) kind = ((kind ≡ fault.Jump) × (is_void gives ≡ true))
    ⊎ ((kind ≡ fault.Operands) × (is_void gives ≡ false) × ((a : Operand) × (IsOperand k x a × (Accepts gives a → ⊥))))

-- a value where the function gives one, and then what may be assigned to that (6.8.6.4)
abbrev pub Returns : Known → TypeTree → Option ExprTree → Type 0
Returns k gives None = is_void gives ≡ true
Returns k gives (Some x) = (is_void gives ≡ false) × ((a : Operand) × (IsOperand k x a × Accepts gives a))

-- `break` and `continue` outside a loop (6.8.6.2p1, 6.8.6.3p1)
abbrev pub JumpBreaks : Bool → FaultKind → Type 0
JumpBreaks looping kind = (kind ≡ fault.Jump) × (looping ≡ false)

-- in a function that gives this, and within a loop or not
module _ (gives : TypeTree) where
  abbrev mutual
    pub IsRuledStatement : Context → Bool → StatementTree → Type 0
    IsRuledStatement c looping (s.Block token entries) = AreRuledEntries (inner_context c) looping entries
    IsRuledStatement c looping (s.Empty token) = Unit {0}
    IsRuledStatement c looping (s.Expr token x) = (a : Operand) × (IsWhole (known_identifiers c) x a × (is_struct a.ctype ≡ false))
    IsRuledStatement c looping (s.If token condition first) = IsCondition (known_identifiers c) condition × IsRuledStatement c looping first
    IsRuledStatement c looping (s.IfElse token condition first second) =
        IsCondition (known_identifiers c) condition × IsRuledStatement c looping first × IsRuledStatement c looping second
    IsRuledStatement c looping (s.While token condition body) = IsCondition (known_identifiers c) condition × IsRuledStatement c true body
    IsRuledStatement c looping (s.Do token body condition) = IsRuledStatement c true body × IsCondition (known_identifiers c) condition
    IsRuledStatement c looping (s.For token start condition step body) = (d : Context) × (StartGives (inner_context c) start d
        × IfPart (IsCondition (known_identifiers d)) condition × IfPart (IsGivenUp (known_identifiers d)) step × IsRuledStatement d true body)
    IsRuledStatement c looping (s.Return token value) = Returns (known_identifiers c) gives value
    IsRuledStatement c looping (s.Break token) = looping ≡ true
    IsRuledStatement c looping (s.Continue token) = looping ≡ true

    pub AreRuledEntries : Context → Bool → EntryList → Type 0
    AreRuledEntries c looping s.no_entries = Unit {0}
    AreRuledEntries c looping (s.declared declaration rest) =
        (next : Context) × (DeclarationGives false c declaration next × AreRuledEntries next looping rest)
    AreRuledEntries c looping (s.stated statement rest) = IsRuledStatement c looping statement × AreRuledEntries c looping rest

  abbrev mutual
    pub StatementBreaks : Context → Bool → StatementTree → FaultKind → ℕ → Type 0
    StatementBreaks c looping (s.Block token entries) kind at = EntriesBreak (inner_context c) looping entries kind at
    StatementBreaks c looping (s.Empty token) kind at = ⊥
    StatementBreaks c looping (s.Expr token x) kind at = WholeBreaks (known_identifiers c) x kind at
        ⊎ ((a : Operand) × (IsWhole (known_identifiers c) x a × ((at ≡ token) × (kind ≡ fault.Operands) × (is_struct a.ctype ≡ true))))
    StatementBreaks c looping (s.If token condition first) kind at = Breaks (known_identifiers c) condition kind at
        ⊎ (IsSomeOperand (known_identifiers c) condition × (StatementBreaks c looping first kind at
        ⊎ (IsRuledStatement c looping first × ((at ≡ token) × NoCondition (known_identifiers c) condition kind))))
    StatementBreaks c looping (s.IfElse token condition first second) kind at = Breaks (known_identifiers c) condition kind at
        ⊎ (IsSomeOperand (known_identifiers c) condition × (StatementBreaks c looping first kind at
        ⊎ (IsRuledStatement c looping first × (StatementBreaks c looping second kind at
        ⊎ (IsRuledStatement c looping second × ((at ≡ token) × NoCondition (known_identifiers c) condition kind))))))
    StatementBreaks c looping (s.While token condition body) kind at = Breaks (known_identifiers c) condition kind at
        ⊎ (IsSomeOperand (known_identifiers c) condition × (StatementBreaks c true body kind at
        ⊎ (IsRuledStatement c true body × ((at ≡ token) × NoCondition (known_identifiers c) condition kind))))
    StatementBreaks c looping (s.Do token body condition) kind at = StatementBreaks c true body kind at
        ⊎ (IsRuledStatement c true body × (Breaks (known_identifiers c) condition kind at
        ⊎ (IsSomeOperand (known_identifiers c) condition × ((at ≡ token) × NoCondition (known_identifiers c) condition kind))))
    -- a `for` is a scope (6.8.5p5)
    StatementBreaks c looping (s.For token start condition step body) kind at = StartBreaks (inner_context c) start kind at
        ⊎ ((d : Context) × (StartLeaves (inner_context c) start d × (OfPart (λ x. Breaks (known_identifiers d) x kind at) condition
        ⊎ (IfPart (IsSomeOperand (known_identifiers d)) condition × (OfPart (λ x. Breaks (known_identifiers d) x kind at) step
        ⊎ (IfPart (IsSomeOperand (known_identifiers d)) step × (StatementBreaks d true body kind at
        ⊎ (IsRuledStatement d true body × ((at ≡ token)
        × ForBreaks (known_identifiers (inner_context c)) (known_identifiers d) start condition step kind)))))))))
    StatementBreaks c looping (s.Return token value) kind at = OfPart (λ x. Breaks (known_identifiers c) x kind at) value
        ⊎ (IfPart (IsSomeOperand (known_identifiers c)) value × ((at ≡ token) × ReturnBreaks (known_identifiers c) gives value kind))
    StatementBreaks c looping (s.Break token) kind at = (at ≡ token) × JumpBreaks looping kind
    StatementBreaks c looping (s.Continue token) kind at = (at ≡ token) × JumpBreaks looping kind

    pub EntriesBreak : Context → Bool → EntryList → FaultKind → ℕ → Type 0
    EntriesBreak c looping s.no_entries kind at = ⊥
    EntriesBreak c looping (s.declared declaration rest) kind at = DeclarationBreaks false c declaration kind at
        ⊎ ((next : Context) × (DeclarationGives false c declaration next × EntriesBreak next looping rest kind at))
    EntriesBreak c looping (s.stated statement rest) kind at = StatementBreaks c looping statement kind at
        ⊎ (IsRuledStatement c looping statement × EntriesBreak c looping rest kind at)
