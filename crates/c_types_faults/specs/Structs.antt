-- Definitions of structs (C99 6.7.2.1): what is known behind one, and which rule one breaks first.
use Rattle.std.specs.Prelude.{◌≡◌, ◌⊎◌, ℕ, ◌≤◌, List, [], ◌∷◌, ◌++◌, length}
use Rattle.c_syntax.specs.declared.parts.Declarator.{Declarator}
use Rattle.c_syntax.specs.declared.parts.Members.{Members}
use Rattle.c_types_rules.specs.declared.fault.FaultKind.{FaultKind}
use Rattle.c_types_rules.specs.declared.fault.FaultKind.TheVariants as fault
use Rattle.c_types_rules.specs.declared.layout.Member.{Member}
use Rattle.c_types_rules.specs.declared.layout.StructType.{StructType}
use Rattle.c_types_rules.specs.Words.{TypeTree, empty_struct, most_cells, with_member}
use Rattle.c_types_faults.specs.Least.{IsLeast}
use Rattle.c_types_faults.specs.Context.{Context, Tagged, known_identifiers}
use Rattle.c_types_faults.specs.Types.{BaseBreaks, IsBase}
use Rattle.c_types_faults.specs.Declarators.{DeclaresAs}
use Rattle.c_types_faults.specs.Declarations.{IsObject}

-- A tag is in scope from its own token on (6.2.1p7); its struct isn't complete before the end of the definition (6.7.2.3p4).
abbrev pub tag_declared : List ℕ → Context → Context
tag_declared tag c = record c { tags = record { tag = tag; number = length c.structs } ∷ c.tags }

abbrev pub HasTag : List ℕ → List Tagged → Type 0
HasTag tag [] = ⊥
HasTag tag (d ∷ ds) = (d.tag ≡ tag) ⊎ HasTag tag ds

abbrev pub HasMember : List ℕ → List Member → Type 0
HasMember name [] = ⊥
HasMember name (m ∷ ms) = (m.name ≡ name) ⊎ HasMember name ms

module _ (c : Context) where
  -- A member more, which lies behind the others (6.7.2.1p13): its name is new in the struct, and its type an object's.
  abbrev pub MemberGives : TypeTree → Declarator → StructType → StructType → Type 0
  MemberGives base d s after = (t : TypeTree) × ((HasMember d.name s.members → ⊥) × DeclaresAs d base t × IsObject c.structs t
      × (after ≡ with_member c.structs d.name t s))

  -- The struct has a member of the name already (6.7.2.1, 6.2.3), or the member has no type that an object may have (6.7.2.1p2).
  abbrev pub NewMemberBreaks : TypeTree → Declarator → StructType → FaultKind → ℕ → Type 0
  NewMemberBreaks base d s kind at = (at ≡ d.token) × IsLeast (λ j. ((j ≡ fault.Redeclared) × HasMember d.name s.members)
      ⊎ ((j ≡ fault.Object) × ((t : TypeTree) → DeclaresAs d base t → IsObject c.structs t → ⊥))) kind

  abbrev pub LineGives : TypeTree → List Declarator → StructType → StructType → Type 0
  LineGives base [] s after = after ≡ s
  LineGives base (d ∷ ds) s after = (next : StructType) × (MemberGives base d s next × LineGives base ds next after)

  abbrev pub LineBreaks : TypeTree → List Declarator → StructType → FaultKind → ℕ → Type 0
  LineBreaks base [] s kind at = ⊥
  LineBreaks base (d ∷ ds) s kind at = NewMemberBreaks base d s kind at ⊎ ((next : StructType) × (MemberGives base d s next × LineBreaks base ds next kind at))

  abbrev pub MembersGive : List Members → StructType → StructType → Type 0
  MembersGive [] s after = after ≡ s
  MembersGive (m ∷ ms) s after = (base : TypeTree) × ((next : StructType) × (IsBase (known_identifiers c) m.base base × LineGives base m.declarators s next
      × MembersGive ms next after))

  abbrev pub MembersBreak : List Members → StructType → FaultKind → ℕ → Type 0
  MembersBreak [] s kind at = ⊥
  MembersBreak (m ∷ ms) s kind at = BaseBreaks (known_identifiers c) m.base kind at ⊎ ((base : TypeTree) × (IsBase (known_identifiers c) m.base base
      × (LineBreaks base m.declarators s kind at ⊎ ((next : StructType) × (LineGives base m.declarators s next × MembersBreak ms next kind at)))))

-- A struct keeps the rules, and this is known behind it: its tag is new, and it has no more cells than an object may have.
abbrev pub StructGives : Context → List ℕ → List Members → Context → Type 0
StructGives c tag members after = (s : StructType) × (MembersGive (tag_declared tag c) members empty_struct s × (HasTag tag c.tags → ⊥)
    × (s.cells ≤ most_cells) × (after ≡ record (tag_declared tag c) { structs = c.structs ++ s ∷ [] }))

-- A member breaks a rule; or, where none does, the tag is one already (6.7.2.3p1) or the struct has too many cells, at its first token.
abbrev pub StructBreaks : Context → ℕ → List ℕ → List Members → FaultKind → ℕ → Type 0
StructBreaks c token tag members kind at = MembersBreak (tag_declared tag c) members empty_struct kind at
    ⊎ ((s : StructType) × (MembersGive (tag_declared tag c) members empty_struct s × ((at ≡ token)
    × IsLeast (λ j. ((j ≡ fault.Redeclared) × HasTag tag c.tags) ⊎ ((j ≡ fault.Object) × (s.cells ≤ most_cells → ⊥))) kind)))
