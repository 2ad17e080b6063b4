-- `&a[i]` is `a + i`, `&*p` is `p`, and `*&x` is x (C99 6.5.3.2p3, p4).
use Rattle.std.specs.Prelude.{◌≡◌, ℕ, true}
use Rattle.cbi_base.specs.Frames.{Locals}
use Rattle.cbi_base.specs.declared.scalar.Scalar.TheVariants.{Place}
use Rattle.c_syntax.specs.declared.expr.PrefixOperator.TheVariants as prefix
use Rattle.c_syntax.specs.declared.token.Sign.TheVariants as sign
use Rattle.c_syntax.specs.ExprTree as e
use Rattle.c_syntax.specs.ExprTree.{ExprTree}
use Rattle.c_meaning.specs.Words.{Setting, expr, Source, call_at, setting_of, is_place, type_of, World, Go}
use Rattle.c_meaning_laws.specs.Typed.{Typed}
use Rattle.c_meaning_laws.specs.TypedSource.{SourceFits}
use Rattle.c_meaning_laws.specs.Indexing.{HasPointer, indexed_tree}
use Rattle.c_meaning_laws.specs.Parentheses.{IsWritten, KeepsType}

-- `&a[i]` means what `a + i` means, whatever a and i do: the same pointer in the same state, or the same trap, also for what it does alone. Each of a
-- and i may stand within parentheses.
abbrev pub AddressOfIndexIsSum : Type 0
AddressOfIndexIsSum =
    (s : Setting) (address bracket level plus : ℕ) (a i left right : ExprTree) → KeepsType s.facts a → HasPointer s.facts a i →
    IsWritten s.facts a left → IsWritten s.facts i right →
    expr s (e.Prefix address prefix.Address (indexed_tree a bracket i)) ≡ expr s (e.Chain level left (e.more_links plus sign.Plus right e.no_links))

-- Where `p` leads to an object, `&*p` gives what `p` gives, in the same state.
abbrev pub AddressOfTargetIsPointer : Type 0
AddressOfTargetIsPointer =
    (s : Setting) (address star : ℕ) (p : ExprTree) (number offset : ℕ) (w u : World) → (expr s p).value w ≡ Go (Place number offset) u →
    (expr s (e.Prefix address prefix.Address (e.Prefix star prefix.Indirection p))).value w ≡ Go (Place number offset) u

-- In a function of a text whose types fit, `*&x` means what x means, where x is a place whose types fit: as a value, as a place, and for what it does alone.
abbrev pub TargetOfAddressIsPlace : Type 0
TargetOfAddressIsPlace =
    (src : Source) (calls : ℕ) (locals : Locals) (star address : ℕ) (x : ExprTree) →
    let s : Setting = setting_of src (call_at src calls) locals in
    SourceFits src → Typed s.facts s.sites locals.count x → is_place x ≡ true → s.facts.type_at star ≡ type_of s.facts x →
    expr s (e.Prefix star prefix.Indirection (e.Prefix address prefix.Address x)) ≡ expr s x
