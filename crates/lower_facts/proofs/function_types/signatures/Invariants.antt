use Rattle.std.proofs.Common.{◌≡◌, take}
use Rattle.std.specs.Prelude.{map}
use Rattle.c_types.specs.Answers.{known_of}
use Rattle.lower_facts.specs.Signatures.{signature_of_entry}
use Rattle.lower_facts.proofs.function_types.signatures.Given as goal

abbrev pub invariant-loop-definition : goal.invariant-loop-definition
invariant-loop-definition l = l.signatures.items ≡ map (signature_of_entry (known_of l.checked)) (take l.definition-index (known_of l.checked).definitions)
