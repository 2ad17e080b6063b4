-- The locals of each function of an accepted text: their sizes, and those of its parameters.
use Rattle.std.proofs.Common.{◌≡◌, ℕ, ◌≤◌, refl, ap, subst, sym, ◌∙◌, arith, List, [], ◌∷◌, Some, None, true, length}
use Rattle.std.proofs.Common.{length-append}
use Rattle.std.specs.Prelude.{IsTrue, Option, drop, map, nat_le, nat_lt, slice_get, take}
use Rattle.std.specs.List.{All, AllByRecursion}
use Rattle.std.proofs.lemmas.Bool.{and_from, false≢true, le-leb, leb-true, ltb-true, and_parts}
use Rattle.std.proofs.lemmas.List.{length-map, length-take, take-map, take-take, take_at}
use Rattle.std.proofs.lemmas.List.Elements.{All-drop, All-from_recursion, All-map, All-take}
use Rattle.std.proofs.lemmas.Nat.{mul-le}
use Rattle.std.proofs.lemmas.Option.{same_Some}
use Rattle.c_syntax.specs.ItemTree.{SourceTree}
use Rattle.c_types_rules.specs.declared.layout.StructType.{StructType}
use Rattle.c_types_rules.specs.TypeTree as t
use Rattle.c_types_rules.specs.Words.{TypeTree, cells_of, is_complete, most_cells}
use Rattle.c_types_expressions.specs.declared.walk.Definition.{Definition}
use Rattle.c_types_expressions.specs.declared.walk.Walk.{Walk}
use Rattle.c_meaning.specs.Words.{Signature, computed_type, facts_of, signature_of, signature_with, sizes_of}
use Rattle.flow.specs.Words.{size_limit, AreLocals, is_size}
use Rattle.c_meaning_sound.specs.Accepted.{IsAcceptedTree}
use Rattle.c_meaning_sound.proofs.Ending.{small_structs, tree_sums}
use Rattle.c_meaning_sound.proofs.Noting.{Small}
use Rattle.c_meaning_sound.proofs.Sizing.{Sized}
use Rattle.lower_facts.specs.Signatures.{AreSized}
use Rattle.lower_fits.specs.Brought.{IsSigned}
use Rattle.lower_fits.proofs.Entering.{IsScalar}
use Rattle.lower_fits.proofs.Definitions.{AllFit, FitsIn, all_fit, fits_at}

-- scalars have one cell
pub scalar_cells : (structs : List StructType) (of : TypeTree) → IsScalar of → cells_of structs of ≡ 1
scalar_cells structs t.Void h = absurd (false≢true h)
scalar_cells structs (t.Array element size) h = absurd (false≢true h)
scalar_cells structs (t.Struct tag) h = absurd (false≢true h)
scalar_cells structs of h = refl

-- so have all scalars of a list
all_single : (structs : List StructType) (types : List TypeTree) → AllByRecursion IsScalar types → AllByRecursion (λ of. cells_of structs of ≡ 1) types
all_single structs [] h = tt
all_single structs (of ∷ types) h = (scalar_cells structs of h.0, all_single structs types h.1)

module _ (tree : SourceTree) (z : Walk) (small : (tag : ℕ) → Small tree z (t.Struct tag)) where
  -- what is known whole has a cell at least
  pub cells_some : (of : TypeTree) → is_complete z.structs of ≡ true → 1 ≤ cells_of z.structs of
  cells_some t.Void h = absurd (false≢true h)
  cells_some (t.Array element size) h =
      let parts : (nat_lt 0 size ≡ true) × (is_complete z.structs element ≡ true) = and_parts (nat_lt 0 size) (is_complete z.structs element) h in
      mul-le 1 1 size (cells_of z.structs element) (ltb-true 0 size parts.0) (cells_some element parts.1)
  cells_some (t.Struct tag) h =
      leb-true 1 (cells_of z.structs (t.Struct tag)) (and_parts (nat_le 1 (cells_of z.structs (t.Struct tag)))
      (nat_le (cells_of z.structs (t.Struct tag)) 1048576) (small tag h)).0
  cells_some of h = omega arith

  -- types of objects have sizes that a local can have
  all_sizes : (types : List TypeTree) → AllByRecursion (Sized z.structs) types → AllByRecursion (λ of. IsTrue (is_size (cells_of z.structs of))) types
  all_sizes [] h = tt
  all_sizes (of ∷ types) h = (
    and_from (nat_le 1 (cells_of z.structs of)) (nat_le (cells_of z.structs of) size_limit) (le-leb 1 (cells_of z.structs of) (cells_some of h.0.complete))
        (le-leb (cells_of z.structs of) size_limit h.0.most),
    all_sizes types h.1,
  )

  -- the variables of a definition
  definition_locals : (d : Definition) (name : List ℕ) → AllByRecursion (Sized z.structs) z.declared_types → (k : FitsIn z d name)
      → AreLocals (length k.params) (sizes_of z d)
  definition_locals d name s k =
      let behind : List TypeTree = drop d.first z.declared_types in
      let front : take (length k.params) (sizes_of z d) ≡ map (cells_of z.structs) k.params =
      take-map (cells_of z.structs) (length k.params) (take d.count behind)
      ∙ ap (map (cells_of z.structs)) (take-take (length k.params) d.count behind k.count ∙ ap (take (length k.params)) k.types
      ∙ take_at k.params k.rest (length k.params) refl) in
      record {
        sizes = All-map (λ size. IsTrue (is_size size)) (cells_of z.structs) (take d.count behind)
            (All-take (λ of. IsTrue (is_size (cells_of z.structs of))) d.count behind
            (All-drop (λ of. IsTrue (is_size (cells_of z.structs of))) d.first z.declared_types
            (All-from_recursion (λ of. IsTrue (is_size (cells_of z.structs of))) z.declared_types (all_sizes z.declared_types s))));
        few = omega (
          arith,
          length-map (take d.count behind) (cells_of z.structs),
          length-take d.count behind,
          ap length k.types,
          length-append k.params k.rest,
          k.count,
        );
        single = subst (All (λ size. size ≡ 1)) (sym front) (All-map (λ size. size ≡ 1) (cells_of z.structs) k.params
            (All-from_recursion (λ of. cells_of z.structs of ≡ 1) k.params (all_single z.structs k.params k.scalars)));
      }

  -- there are as many variables as the definition counts
  definition_counts : (d : Definition) (name : List ℕ) → (k : FitsIn z d name) → length (sizes_of z d) ≡ d.count
  definition_counts d name k = omega (
    arith,
    length-map (take d.count (drop d.first z.declared_types)) (cells_of z.structs),
    length-take d.count (drop d.first z.declared_types),
    ap length k.types,
    k.most,
  )

  -- the signature of a definition has its locals
  signature_locals : (o : Option Definition) (f : Signature) (number : ℕ) → AllFit tree z → slice_get z.definitions number ≡ o → signature_of z o ≡ Some f
      → AreLocals (length f.params) f.locals
  signature_locals None f number a e h = absurd (cc)
  signature_locals (Some d) f number a e h =
      let named : (name : List ℕ) × FitsIn z d name = fits_at tree z a number d e in
      let k : FitsIn z d named.0 = named.1 in
      let is = same_Some (record {
        params = map (computed_type z.structs) k.entry.own.ctype.params;
        result = computed_type z.structs k.entry.own.ctype.gives;
        locals = sizes_of z d;
      }) f (sym (ap (signature_with z d) k.entry.here) ∙ h) in
      let long : length k.params ≡ length (map (computed_type z.structs) k.entry.own.ctype.params) =
      sym (length-map k.entry.own.ctype.params (computed_type z.structs) ∙ k.entry.params) in
      subst (λ (r : Signature). AreLocals (length r.params) r.locals) is
      (subst (λ n. AreLocals n (sizes_of z d)) long (definition_locals d named.0 a.sized k))

-- objects of these types are no larger than an object may be
all_most : (structs : List StructType) (types : List TypeTree) → AllByRecursion (Sized structs) types → AllByRecursion (λ of. cells_of structs of ≤ most_cells) types
all_most structs [] h = tt
all_most structs (of ∷ types) h = (h.0.most, all_most structs types h.1)

-- so is each variable of an accepted text
pub variables_sized : (tree : SourceTree) (z : Walk) → IsAcceptedTree tree z → AreSized z
variables_sized tree z a =
    All-from_recursion (λ of. cells_of z.structs of ≤ most_cells) z.declared_types
    (all_most z.structs z.declared_types (all_fit tree z a.formed.shaped a.walked).sized)

-- each signature of an accepted text has locals that a function can have
pub locals_fit : (tree : SourceTree) (z : Walk) → IsAcceptedTree tree z → (number : ℕ) (f : Signature) → (facts_of tree z).signature number ≡ Some f
    → AreLocals (length f.params) f.locals
locals_fit tree z a number f h =
    signature_locals tree z (small_structs tree z (tree_sums tree z a.formed.shaped a.walked)) (slice_get z.definitions number) f number
    (all_fit tree z a.formed.shaped a.walked) refl h

-- each definition of an accepted text has its signature
pub definition_signed : (tree : SourceTree) (z : Walk) → IsAcceptedTree tree z → (number : ℕ) (d : Definition) → slice_get z.definitions number ≡ Some d
    → IsSigned (facts_of tree z) number d
definition_signed tree z a number d e =
    let named : (name : List ℕ) × FitsIn z d name = fits_at tree z (all_fit tree z a.formed.shaped a.walked) number d e in
    let k : FitsIn z d named.0 = named.1 in
    record {
      own = record {
        params = map (computed_type z.structs) k.entry.own.ctype.params;
        result = computed_type z.structs k.entry.own.ctype.gives;
        locals = sizes_of z d;
      };
      is = ap (signature_of z) e ∙ ap (signature_with z d) k.entry.here;
      counts = definition_counts tree z (small_structs tree z (tree_sums tree z a.formed.shaped a.walked)) d named.0 k;
    }
