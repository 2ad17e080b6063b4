-- The faults of types, and what a rule answers: the operand that the construct is, or the least of the faults that fit.
use Rattle.std.specs.Prelude.{ℕ, Result, Ok, Err}
use Rattle.c_types_rules.specs.declared.fault.FaultKind.{FaultKind}
use Rattle.c_types_rules.specs.declared.fault.FaultKind.TheVariants as fault
use Rattle.c_types_rules.specs.declared.operand.Operand.{Operand}

abbrev pub fault_number : FaultKind → ℕ
fault_number fault.Unknown = 1
fault_number fault.Redeclared = 2
fault_number fault.Operands = 3
fault_number fault.NoPlace = 4
fault_number fault.Arguments = 5
fault_number fault.Object = 6
fault_number fault.Initialiser = 7
fault_number fault.Jump = 8
fault_number fault.NoMain = 9
fault_number fault.NoDefinition = 10

abbrev pub OperandOrFault : Type 0
OperandOrFault = Result Operand FaultKind

infixl 10 ◌>>=◌
abbrev pub ◌>>=◌ : OperandOrFault → (Operand → OperandOrFault) → OperandOrFault
(Ok x) >>= next = next x
(Err kind) >>= next = Err kind
