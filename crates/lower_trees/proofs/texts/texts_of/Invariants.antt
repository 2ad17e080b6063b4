use Rattle.std.proofs.Common.{◌≡◌, take}
use Rattle.c_meaning.specs.Literals.{texts_of}
use Rattle.lower_trees.proofs.texts.texts_of.Given as goal

abbrev pub invariant-loop-string : goal.invariant-loop-string
invariant-loop-string l = l.texts.items ≡ texts_of (take l.string-index l.strings)
