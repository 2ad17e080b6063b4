-- The numbers of a node that fits have the sizes that its fields have.
use Rattle.std.proofs.Common.{◌≡◌, ◌≤◌, ℕ, ℤ, Bool, true, ◌&&◌, List, Option, None, Some, FitsSigned, IsTrue, nat_le, nat_lt, length, slice_get, refl, arith, rules}
use Rattle.std.specs.Int.{w64}
use Rattle.std.proofs.lemmas.Bool.{leb-true, ltb-true, eqb-true, and_parts}
use Rattle.std.proofs.lemmas.Option.{slice_get_within}
use Rattle.cbi_base.specs.Words.{lies_in, greatest_u32}
use Rattle.cbi_base.specs.declared.scalar.Kind.{Kind}
use Rattle.cbi_base.specs.declared.scalar.Kind.TheVariants.{Char, Int, Unsigned}
use Rattle.flow.specs.declared.node.Node.{Node}
use Rattle.flow.specs.declared.node.Node.TheVariants.{Push, Null, Local, Global, Text, Load, Store, Move, Member, Span, Math, Order, Sole, Convert, Dup, Drop, Swap, Over, Pass, Fork, Again, Call, Get, Put, Puts, Format, Alloc, Free, Check, Clear, Zero, Spell, Mark, Skip, Test, Choose, Import, Export}
use Rattle.flow.specs.declared.scope.Names.{Names}
use Rattle.flow.specs.declared.scope.Bounds.{Bounds}
use Rattle.flow.specs.Words.{view, node_fits, names_fit, leads_rightly, is_node_step, is_format, is_own, has_text, is_local}
use Rattle.program_lines.proofs.NodeReads.{IsSmall}

-- the names that a node may use are few
pub record AreSmallNames (names : Names) (bounds : Bounds) : Type 0 where
  pub texts : length names.conversions ≤ greatest_u32
  pub counts : (text count : ℕ) → slice_get names.conversions text ≡ Some (Some count) → count ≤ greatest_u32
  pub globals : names.globals ≤ greatest_u32
  pub functions : names.functions ≤ greatest_u32
  pub sites : length names.owners ≤ greatest_u32
  pub locals : bounds.locals ≤ greatest_u32
  pub nodes : bounds.nodes ≤ greatest_u32

-- and_parts parts of the conditions on a node
fit-parts : (names : Names) (bounds : Bounds) (place : ℕ) (n : Node) → IsTrue (node_fits names bounds place n) → (names_fit names bounds n ≡ true) × (leads_rightly bounds place (view n) ≡ true)
unfolding node_fits
fit-parts names bounds place n h = and_parts (names_fit names bounds n) (leads_rightly bounds place (view n)) h

below : (next most : ℕ) (rest : Bool) → most ≤ greatest_u32 → (nat_lt next most && rest) ≡ true → next ≤ greatest_u32
below next most rest few h = omega (arith, ltb-true next most (and_parts (nat_lt next most) rest h).0, few)

one-next : (next most : ℕ) (how : Bool) → most ≤ greatest_u32 → ((nat_lt next most && how) && true) ≡ true → next ≤ greatest_u32
one-next next most how few h = below next most how few (and_parts (nat_lt next most && how) true h).0

two-next : (first second most : ℕ) (how other : Bool) → most ≤ greatest_u32 → ((nat_lt first most && how) && ((nat_lt second most && other) && true)) ≡ true → (first ≤ greatest_u32) × (second ≤ greatest_u32)
two-next first second most how other few h =
    let parts = and_parts (nat_lt first most && how) ((nat_lt second most && other) && true) h in (below first most how few parts.0, one-next second most other few parts.1)

less : (index most : ℕ) → most ≤ greatest_u32 → nat_lt index most ≡ true → index ≤ greatest_u32
less index most few h = omega (arith, ltb-true index most h)

wide : (kind : Kind) (value : ℤ) → IsTrue (lies_in kind value) → FitsSigned w64 value
wide Char value h = search rules
wide Int value h = search rules
wide Unsigned value h = search rules

step-int : (value : ℤ) → is_node_step value ≡ true → IsTrue (lies_in Int value)
step-int value h = search rules

within-limit : (n least most : ℕ) → most ≤ greatest_u32 → (nat_le least n && nat_le n most) ≡ true → n ≤ greatest_u32
within-limit n least most few h = omega (arith, leb-true n most (and_parts (nat_le least n) (nat_le n most) h).1)

of-some : {A : Type 0} (xs : List A) (i : ℕ) (o : Option A) → slice_get xs i ≡ o → length xs ≤ greatest_u32 → (o ≡ None → ⊥) → i ≤ greatest_u32
of-some xs i None is few some = absurd (some cc)
of-some xs i (Some x) is few some = omega (arith, slice_get_within xs i x is)

own-is : (bounds : Bounds) (owner : Option ℕ) → is_own bounds owner ≡ true → owner ≡ None → ⊥
own-is bounds None h e = cc
own-is bounds (Some x) h e = cc

format-count : (names : Names) (text count : ℕ) (o : Option (Option ℕ)) → slice_get names.conversions text ≡ o → length names.conversions ≤ greatest_u32 → ((t c : ℕ) → slice_get names.conversions t ≡ Some (Some c) → c ≤ greatest_u32) → is_format o count ≡ true → (text ≤ greatest_u32) × (count ≤ greatest_u32)
format-count names text count None is few counts h = absurd cc
format-count names text count (Some None) is few counts h = absurd cc
format-count names text count (Some (Some c)) is few counts h =
    (omega (arith, slice_get_within names.conversions text (Some c) is), omega (arith, counts text c is, eqb-true c count h))

pub small-fits : (names : Names) (bounds : Bounds) (place : ℕ) (n : Node) → AreSmallNames names bounds → IsTrue (node_fits names bounds place n) → IsSmall n
unfolding names_fit leads_rightly
small-fits names bounds place (Null next) s h = let p = fit-parts names bounds place (Null next) h in one-next next bounds.nodes _ s.nodes p.1
small-fits names bounds place (Store next) s h = let p = fit-parts names bounds place (Store next) h in one-next next bounds.nodes _ s.nodes p.1
small-fits names bounds place (Dup next) s h = let p = fit-parts names bounds place (Dup next) h in one-next next bounds.nodes _ s.nodes p.1
small-fits names bounds place (Drop next) s h = let p = fit-parts names bounds place (Drop next) h in one-next next bounds.nodes _ s.nodes p.1
small-fits names bounds place (Swap next) s h = let p = fit-parts names bounds place (Swap next) h in one-next next bounds.nodes _ s.nodes p.1
small-fits names bounds place (Over next) s h = let p = fit-parts names bounds place (Over next) h in one-next next bounds.nodes _ s.nodes p.1
small-fits names bounds place (Pass next) s h = let p = fit-parts names bounds place (Pass next) h in one-next next bounds.nodes _ s.nodes p.1
small-fits names bounds place (Again next) s h = let p = fit-parts names bounds place (Again next) h in one-next next bounds.nodes _ s.nodes p.1
small-fits names bounds place (Get next) s h = let p = fit-parts names bounds place (Get next) h in one-next next bounds.nodes _ s.nodes p.1
small-fits names bounds place (Put next) s h = let p = fit-parts names bounds place (Put next) h in one-next next bounds.nodes _ s.nodes p.1
small-fits names bounds place (Puts next) s h = let p = fit-parts names bounds place (Puts next) h in one-next next bounds.nodes _ s.nodes p.1
small-fits names bounds place (Alloc next) s h = let p = fit-parts names bounds place (Alloc next) h in one-next next bounds.nodes _ s.nodes p.1
small-fits names bounds place (Free next) s h = let p = fit-parts names bounds place (Free next) h in one-next next bounds.nodes _ s.nodes p.1
small-fits names bounds place (Check next) s h = let p = fit-parts names bounds place (Check next) h in one-next next bounds.nodes _ s.nodes p.1
small-fits names bounds place (Import next) s h = let p = fit-parts names bounds place (Import next) h in one-next next bounds.nodes _ s.nodes p.1
small-fits names bounds place (Export next) s h = let p = fit-parts names bounds place (Export next) h in one-next next bounds.nodes _ s.nodes p.1
small-fits names bounds place (Local index next) s h = let p = fit-parts names bounds place (Local index next) h in (less index bounds.locals s.locals p.0, one-next next bounds.nodes _ s.nodes p.1)
small-fits names bounds place (Global index next) s h = let p = fit-parts names bounds place (Global index next) h in (less index names.globals s.globals p.0, one-next next bounds.nodes _ s.nodes p.1)
small-fits names bounds place (Text index next) s h = let p = fit-parts names bounds place (Text index next) h in (less index (length names.conversions) s.texts p.0, one-next next bounds.nodes _ s.nodes p.1)
small-fits names bounds place (Member offset next) s h = let p = fit-parts names bounds place (Member offset next) h in (omega (arith, leb-true offset 1048576 p.0), one-next next bounds.nodes _ s.nodes p.1)
small-fits names bounds place (Span size next) s h = let p = fit-parts names bounds place (Span size next) h in (within-limit size 1 1048576 (omega arith) p.0, one-next next bounds.nodes _ s.nodes p.1)
small-fits names bounds place (Fork when_true when_false) s h = let p = fit-parts names bounds place (Fork when_true when_false) h in two-next when_true when_false bounds.nodes _ _ s.nodes p.1
small-fits names bounds place (Call function next) s h = let p = fit-parts names bounds place (Call function next) h in (less function names.functions s.functions p.0, one-next next bounds.nodes _ s.nodes p.1)
small-fits names bounds place (Clear index next) s h = let p = fit-parts names bounds place (Clear index next) h in (less index bounds.locals s.locals p.0, one-next next bounds.nodes _ s.nodes p.1)
small-fits names bounds place (Mark site next) s h = let p = fit-parts names bounds place (Mark site next) h in (of-some names.owners site (slice_get names.owners site) refl s.sites (own-is bounds (slice_get names.owners site) p.0), one-next next bounds.nodes _ s.nodes p.1)
small-fits names bounds place (Test site next) s h = let p = fit-parts names bounds place (Test site next) h in (of-some names.owners site (slice_get names.owners site) refl s.sites (own-is bounds (slice_get names.owners site) p.0), one-next next bounds.nodes _ s.nodes p.1)
small-fits names bounds place (Skip by next) s h = let p = fit-parts names bounds place (Skip by next) h in (within-limit by 1 16000000 (omega arith) p.0, one-next next bounds.nodes _ s.nodes p.1)
small-fits names bounds place (Format text count next) s h = let p = fit-parts names bounds place (Format text count next) h in let q = format-count names text count (slice_get names.conversions text) refl s.texts s.counts p.0 in (q.0, q.1, one-next next bounds.nodes _ s.nodes p.1)
small-fits names bounds place (Spell index text next) s h = let p = fit-parts names bounds place (Spell index text next) h in let q = and_parts (is_local bounds index) (has_text names text) p.0 in (less index bounds.locals s.locals q.0, less text (length names.conversions) s.texts q.1, one-next next bounds.nodes _ s.nodes p.1)
small-fits names bounds place (Choose weight fast slow) s h = let p = fit-parts names bounds place (Choose weight fast slow) h in let q = two-next fast slow bounds.nodes _ _ s.nodes p.1 in (omega (arith, leb-true weight 16000000 p.0), q.0, q.1)
small-fits names bounds place (Load want next) s h = let p = fit-parts names bounds place (Load want next) h in one-next next bounds.nodes _ s.nodes p.1
small-fits names bounds place (Math op next) s h = let p = fit-parts names bounds place (Math op next) h in one-next next bounds.nodes _ s.nodes p.1
small-fits names bounds place (Order op next) s h = let p = fit-parts names bounds place (Order op next) h in one-next next bounds.nodes _ s.nodes p.1
small-fits names bounds place (Sole op next) s h = let p = fit-parts names bounds place (Sole op next) h in one-next next bounds.nodes _ s.nodes p.1
small-fits names bounds place (Convert kind next) s h = let p = fit-parts names bounds place (Convert kind next) h in one-next next bounds.nodes _ s.nodes p.1
small-fits names bounds place (Push kind value next) s h = let p = fit-parts names bounds place (Push kind value next) h in (wide kind value p.0, one-next next bounds.nodes _ s.nodes p.1)
small-fits names bounds place (Move size next) s h = let p = fit-parts names bounds place (Move size next) h in (step-int size p.0, one-next next bounds.nodes _ s.nodes p.1)
small-fits names bounds place (Zero index want next) s h = let p = fit-parts names bounds place (Zero index want next) h in (less index bounds.locals s.locals p.0, one-next next bounds.nodes _ s.nodes p.1)
small-fits names bounds place n s h = tt
