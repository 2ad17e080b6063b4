-- What reading a collection answers, of which want of memory is free.
use Rattle.std.specs.Prelude.{◌≡◌, ℕ, Result, Ok, Err}
use Rattle.collector.specs.declared.collection.Bundle.{Bundle}
use Rattle.collector.specs.declared.reading.CollectionError.{CollectionError}
use Rattle.collector.specs.declared.reading.CollectionError.TheVariants.{BadCollection, Memory}

-- the answer is this bundle, unless memory ran out
abbrev pub BundleReadAs : Result Bundle CollectionError → Bundle → Type 0
BundleReadAs (Ok b) want = b ≡ want
BundleReadAs (Err (BadCollection line)) want = ⊥
BundleReadAs (Err Memory) want = Unit {0}

-- the bytes are refused at this line, unless memory ran out
abbrev pub BundleRefusedAt : Result Bundle CollectionError → ℕ → Type 0
BundleRefusedAt (Ok b) line = ⊥
BundleRefusedAt (Err (BadCollection bad)) line = bad ≡ line
BundleRefusedAt (Err Memory) line = Unit {0}
