-- What `malloc` and `free` do to objects, what `getchar` reads, and how `exit`, `abort` and `assert` end a run, in the words of C99 7.2, 7.19 and 7.20.
use Rattle.std.specs.Prelude.{◌≡◌, ◌≢◌, ◌≤◌, ◌⊎◌, ℕ, ℤ, pos, negsuc, List, [], ◌∷◌, length, Some, None, true, false}
use Rattle.std.specs.List.{AllByRecursion}
use Rattle.std.specs.FinMap.{get}
use Rattle.cbi_base.specs.declared.outcome.Outcome.TheVariants.{Ended, Trapped}
use Rattle.cbi_base.specs.declared.scalar.Kind.TheVariants.{Int, Unsigned}
use Rattle.cbi_base.specs.declared.scalar.Class.TheVariants.{Heap}
use Rattle.cbi_base.specs.declared.scalar.Scalar.{Scalar}
use Rattle.cbi_base.specs.declared.scalar.Scalar.TheVariants.{Number, Place, Null, Undefined}
use Rattle.cbi_base.specs.declared.trap.Trap.TheVariants as trap
use Rattle.cbi_base.specs.Objects.{Object, Objects, GivesNull}
use Rattle.c_meaning.specs.Calls.{abort, assert, exit, space_allocated, space_released}
use Rattle.c_meaning.specs.Output.{next_byte}
use Rattle.c_meaning.specs.World.{Go, Out, OutDone, Stop, World}

-- all objects but this one are as they were
abbrev pub OthersLive : Objects → Objects → ℕ → Type 0
OthersLive before after number = (other : ℕ) → other ≢ number → get after.live other ≡ get before.live other

abbrev pub IsUndefined : Scalar → Type 0
IsUndefined cell = cell ≡ Undefined

-- A pointer to the start of a new object: none that lived, of so many cells, each of which is indeterminate; all others are as they were.
pub record HasNewObject (cells : ℕ) (before after : Objects) (number : ℕ) : Type 0 where
  pub new : get before.live number ≡ None
  pub object : Object
  pub lives : get after.live number ≡ Some object
  pub heap : object.class ≡ Heap
  pub as_many : length object.cells ≡ cells
  pub indeterminate : AllByRecursion IsUndefined object.cells
  pub others : OthersLive before after number

-- no object lives under a number that wasn't given yet, as is so in each run
abbrev pub NumbersAreGiven : Objects → Type 0
NumbersAreGiven o = (number : ℕ) → o.made ≤ number → get o.live number ≡ None

-- so `malloc` gives a pointer to a new object
pub record Allocates (cells : ℕ) (w : World) (given : Out Scalar) : Type 0 where
  pub number : ℕ
  pub after : Objects
  pub given_is : given ≡ Go (Place number 0) (record w { objects = after })
  pub has : HasNewObject cells w.objects after number

-- `malloc` gives a pointer to a new object, or null and nothing changes; null only for no cells or where there is no room (7.20.3p1, 7.20.3.3).
abbrev pub MallocAllocates : Type 0
MallocAllocates =
    (w : World) (cells : ℕ) → NumbersAreGiven w.objects →
    ((space_allocated (Number Unsigned (pos cells)) w ≡ Go Null w) × GivesNull cells w.objects)
    ⊎ Allocates cells w (space_allocated (Number Unsigned (pos cells)) w)

-- `free` does nothing with null (7.20.3.2).
abbrev pub FreeOfNullDoesNothing : Type 0
FreeOfNullDoesNothing = (w : World) → space_released Null w ≡ Go tt w

-- the object's lifetime ends, and all others are as they were
pub record Releases (w : World) (number : ℕ) (given : OutDone) : Type 0 where
  pub after : Objects
  pub given_is : given ≡ Go tt (record w { objects = after })
  pub dead : get after.live number ≡ None
  pub others : OthersLive w.objects after number

-- `free` ends the lifetime of an object of `malloc` by a pointer to its start, and with any other place the behaviour is undefined, which is a trap here
-- (7.20.3.2).
abbrev pub FreeReleases : Type 0
FreeReleases =
    (w : World) (number : ℕ) (object : Object) → get w.objects.live number ≡ Some object → object.class ≡ Heap →
    Releases w number (space_released (Place number 0) w)

abbrev pub FreeOfAnotherPlaceTraps : Type 0
FreeOfAnotherPlaceTraps =
    (w : World) (number offset : ℕ) → (get w.objects.live number ≡ None) ⊎ (1 ≤ offset) →
    space_released (Place number offset) w ≡ Stop (Trapped trap.BadFree) w

-- `getchar` gives the next character as an `unsigned char` and goes past it, and at the end of the input a negative number (7.19.7.6, 7.19.1p3).
abbrev pub GetcharReads : Type 0
GetcharReads =
    (w : World) (byte : ℕ) (rest : List ℕ) → next_byte (byte ∷ rest) w ≡ Go (Number Int (pos byte)) (record w { input = rest })

abbrev pub GetcharEnds : Type 0
GetcharEnds = (w : World) → (below : ℕ) × (next_byte [] w ≡ Go (Number Int (negsuc below)) w)

-- `exit` ends the run with the status, and `abort` ends it otherwise; so does `assert` of what compares equal to 0, and of anything else it does nothing
-- (7.20.4.3, 7.20.4.1, 7.2.1.1).
abbrev pub RunsAreEnded : Type 0
RunsAreEnded =
    (w : World) (status : ℤ) → (exit (Number Int status) w ≡ Stop (Ended status) w) × (abort w ≡ Stop (Trapped trap.Abort) w)
    × (assert false w ≡ Stop (Trapped trap.Assertion) w) × (assert true w ≡ Go tt w)
