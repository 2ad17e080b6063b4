-- Which arguments a call takes, and what it gives (C99 6.5.2.2, 7.2, 7.19, 7.20).
use Rattle.std.specs.Prelude.{◌≡◌, List, [], ◌∷◌, Option, Some, None}
use Rattle.c_types_rules.specs.declared.function.FunctionType.{FunctionType}
use Rattle.c_types_rules.specs.declared.library.Library.{Library}
use Rattle.c_types_rules.specs.declared.library.Library.TheVariants as library
use Rattle.c_types_rules.specs.declared.operand.Operand.{Operand}
use Rattle.c_types_rules.specs.TypeTree.{TypeTree, Void, Char, Int, Unsigned, Pointer}
use Rattle.c_types_laws.specs.Operands.{Accepts, IsScalar}
use Rattle.c_types_faults.specs.Known.{Entity, Object, Function, Standard}

-- an argument for each parameter, which may be assigned to it (6.5.2.2p2)
abbrev pub ArgumentsPass : List TypeTree → List Operand → Type 0
ArgumentsPass [] [] = Unit {0}
ArgumentsPass [] (x ∷ xs) = ⊥
ArgumentsPass (t ∷ ts) [] = ⊥
ArgumentsPass (t ∷ ts) (x ∷ xs) = Accepts t x × ArgumentsPass ts xs

abbrev pub CallsAs : FunctionType → List Operand → TypeTree → Type 0
CallsAs f xs t = ArgumentsPass f.params xs × (t ≡ f.gives)

abbrev pub IsLoneScalar : List Operand → Type 0
IsLoneScalar (x ∷ []) = IsScalar x
IsLoneScalar xs = ⊥

-- A function of the library. `assert` takes one scalar, and no `printf` is an operand.
abbrev pub CallsStandard : Library → List Operand → TypeTree → Type 0
CallsStandard library.Getchar xs t = CallsAs (record { gives = Int; params = [] }) xs t
CallsStandard library.Putchar xs t = CallsAs (record { gives = Int; params = Int ∷ [] }) xs t
CallsStandard library.Puts xs t = CallsAs (record { gives = Int; params = Pointer Char ∷ [] }) xs t
CallsStandard library.Malloc xs t = CallsAs (record { gives = Pointer Void; params = Unsigned ∷ [] }) xs t
CallsStandard library.Free xs t = CallsAs (record { gives = Void; params = Pointer Void ∷ [] }) xs t
CallsStandard library.Exit xs t = CallsAs (record { gives = Void; params = Int ∷ [] }) xs t
CallsStandard library.Abort xs t = CallsAs (record { gives = Void; params = [] }) xs t
CallsStandard library.Assert xs t = IsLoneScalar xs × (t ≡ Void)
CallsStandard library.Printf xs t = ⊥

-- a call of what the name denotes
abbrev pub Calls : Option Entity → List Operand → TypeTree → Type 0
Calls (Some (Function f)) xs t = CallsAs f xs t
Calls (Some (Standard f)) xs t = CallsStandard f xs t
Calls (Some (Object of)) xs t = ⊥
Calls None xs t = ⊥
