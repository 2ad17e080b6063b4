-- The globals of one declaration: what is known of each at the end, and how many cells they have together.
use Rattle.std.proofs.Common.{◌≡◌, ℕ, ◌+◌, ◌≤◌, ◌<◌, refl, ap, subst, sym, ◌∙◌, arith, true, List, [], ◌∷◌, ◌++◌, Option, Some, None, length, length-append}
use Rattle.std.specs.Prelude.{nat_le, slice_get, sum_by}
use Rattle.std.specs.List.{AllByRecursion}
use Rattle.std.proofs.lemmas.List.Sums.{sum_by-cons}
use Rattle.std.proofs.lemmas.Bool.{and_parts}
use Rattle.c_types.proofs.Replaced.{noted_other, noted_same}
use Rattle.sites.proofs.RisesBodies.{declarator-length}
use Rattle.base_lists.proofs.Lists.{get_last, Stays}
use Rattle.c_syntax.specs.Words.{SourceTree, DeclarationTree, StartTree, DeclarationAt, EachAt, StartAt, a_sign, base_kinds, declaration_kinds}
use Rattle.c_syntax.specs.Words.{declarator_kinds, start_kinds, with_commas}
use Rattle.c_syntax.specs.declared.token.Sign.TheVariants as sign
use Rattle.c_types_rules.specs.Words.{cells_of, is_complete, TypeTree}
use Rattle.c_types_expressions.specs.declared.walk.Walk.{Walk}
use Rattle.c_types.specs.Answers.{declared_at, note_at}
use Rattle.c_types_expressions.specs.ExprWalk.{base_type}
use Rattle.c_types_walk.specs.StatementWalk.{walk_declaration, walk_start, walk_starts}
use Rattle.c_types.proofs.Noted.{Gives, gives_more, gives_then, length_replaced}
use Rattle.c_meaning_sound.proofs.Declaring.{commas_long, declared_is}
use Rattle.c_meaning_sound.proofs.Growing.{Grows}
use Rattle.c_meaning_sound.proofs.Initialising.{equals_kinds}
use Rattle.c_meaning_sound.proofs.Noting.{StaysWhole}
use Rattle.c_meaning_sound.proofs.Reaching.{Named, base_gives, stays_more}
use Rattle.c_meaning_sound.proofs.Sizing.{cells_same}
use Rattle.lower_fits.proofs.Laying.{Long}
use Rattle.lower_fits.proofs.Initials.{Takes}
use Rattle.lower_fits.proofs.Starts.{Begins, start_begins}

module _ (z : Walk) where
  -- what is known of a global at the end: its type is one of objects, and has room for what initialises it
  pub record Declared (x : StartTree) : Type 0 where
    pub of : TypeTree
    pub is : declared_at z x.declarator.name_token ≡ Some of
    pub complete : is_complete z.structs of ≡ true
    pub takes : Takes of x.initial

  -- how many cells an object of the type has
  abbrev pub cells_by : Option TypeTree → ℕ
  cells_by None = 0
  cells_by (Some of) = cells_of z.structs of

  -- how many cells a global has
  abbrev pub cells_at : StartTree → ℕ
  cells_at x = cells_by (declared_at z x.declarator.name_token)

module _ (tree : SourceTree) (z : Walk) where
  -- what is noted of variables before this token, and the types that are known whole, stay to the end
  pub record Lasts (hi : ℕ) (v : Walk) : Type 0 where
    pub notes : (token : ℕ) → token < hi → note_at z.variables_at token ≡ note_at v.variables_at token
    pub declared : StaysWhole tree z v.declared_types z.declared_types

  -- some globals more: notes from this token on alone, and what is known of them at the end
  pub record Began (lo hi : ℕ) (xs : List StartTree) (w v : Walk) : Type 0 where
    pub structs : v.structs ≡ w.structs
    pub long : Long v
    pub places : length v.variables_at ≡ length w.variables_at
    pub below : (token : ℕ) → token < lo → note_at v.variables_at token ≡ note_at w.variables_at token
    pub declared : Stays w.declared_types v.declared_types
    pub each : Lasts hi v → AllByRecursion (Declared z) xs
    pub cells : Lasts hi v → v.global_cells ≡ w.global_cells + sum_by (cells_at z) xs
    pub few : w.global_cells ≤ 1048576 → v.global_cells ≤ 1048576

  -- the name of a variable stands before this token
  abbrev Before : ℕ → StartTree → Type 0
  Before hi x = x.declarator.name_token < hi

  -- the names of a declaration stand in it
  names_before : (xs : List StartTree) (at hi : ℕ) → EachAt StartAt start_kinds 1 at xs → at + length (with_commas start_kinds xs) ≤ hi
      → AllByRecursion (Before hi) xs
  names_before [] at hi p h = tt
  names_before (x ∷ []) at hi p h =
      let long : length (with_commas start_kinds (x ∷ [])) ≡ length (start_kinds x) + 0 = length-append (start_kinds x) [] in
      (omega (arith, h, long, p.0.1.1, declarator-length x.declarator, length-append (declarator_kinds x.declarator) (equals_kinds x.initial)), tt)
  names_before (x ∷ y ∷ ys) at hi p h = (
    omega (arith, h, commas_long x y ys, p.0.1.1, declarator-length x.declarator, length-append (declarator_kinds x.declarator) (equals_kinds x.initial)),
    names_before (y ∷ ys) (at + length (start_kinds x) + 1) hi p.1 (omega (arith, h, commas_long x y ys)),
  )

  -- a global, and those behind it
  one_began : (at hi : ℕ) (x : StartTree) (xs : List StartTree) (w u v : Walk) → StartAt at x → Before hi x → hi ≤ length w.variables_at → Long w
      → Grows w.structs z.structs → Stays w.structs z.structs → Begins x w u → Began (at + length (start_kinds x) + 1) hi xs u v → Began at hi (x ∷ xs) w v
  one_began at hi x xs w u v p l h k g s b r =
      let token : ℕ = x.declarator.name_token in
      let inside : token < at + length (start_kinds x) + 1 =
      omega (arith, p.1.1, declarator-length x.declarator, length-append (declarator_kinds x.declarator) (equals_kinds x.initial)) in
      let complete : is_complete w.structs b.of ≡ true = (and_parts (is_complete w.structs b.of) (nat_le (cells_of w.structs b.of) 1048576) b.object).0 in
      let here : note_at u.variables_at token ≡ Some (length w.variables) =
      ap (λ ns. note_at ns token) b.notes ∙ noted_same w.variables_at token (length w.variables) (omega (arith, l, h)) in
      let last : slice_get u.declared_types (length w.variables) ≡ Some b.of =
      ap (λ ts. slice_get ts (length w.variables)) b.types
      ∙ subst (λ n. slice_get (w.declared_types ++ b.of ∷ []) n ≡ Some b.of) k (get_last w.declared_types b.of) in
      let known : Lasts hi v → declared_at z token ≡ Some b.of = λ later.
      declared_is tree z token (length w.variables) b.of (later.notes token l ∙ r.below token inside ∙ here)
      (later.declared (length w.variables) b.of (r.declared (length w.variables) b.of last) (g b.of complete)) in
      record {
        structs = r.structs ∙ b.structs;
        long = r.long;
        places = r.places ∙ ap length b.notes ∙ length_replaced w.variables_at token (Some (length w.variables));
        below = λ q m. r.below q (omega (arith, m)) ∙ ap (λ ns. note_at ns q) b.notes
            ∙ noted_other w.variables_at token q (Some (length w.variables)) (λ same. omega (arith, same, m, p.1.1));
        declared = λ i of q. r.declared i of (ap (λ ts. slice_get ts i) b.types ∙ stays_more w.declared_types (b.of ∷ []) i of q);
        each = λ later. (record { of = b.of; is = known later; complete = g b.of complete; takes = b.takes }, r.each later);
        cells = λ later. omega (
          arith,
          r.cells later,
          b.cells,
          ap (cells_by z) (known later),
          cells_same w.structs z.structs b.of s complete,
          sum_by-cons (cells_at z) x xs,
        );
        few = λ q. r.few b.few;
      }

  -- the globals of a declaration
  starts_began : (xs : List StartTree) (at hi : ℕ) (base : TypeTree) (w : Walk) → EachAt StartAt start_kinds 1 at xs → AllByRecursion (Before hi) xs
      → hi ≤ length w.variables_at → Long w → Grows w.structs z.structs → Stays w.structs z.structs
      → Gives (λ _ v. Began at hi xs w v) (walk_starts true base xs w)
  starts_began [] at hi base w p l h k g s = record {
    structs = refl;
    long = k;
    places = refl;
    below = λ token m. refl;
    declared = λ i of q. q;
    each = λ later. tt;
    cells = λ later. omega arith;
    few = λ q. q;
  }
  starts_began (x ∷ xs) at hi base w p l h k g s =
      gives_then (λ _ u. Begins x w u) (λ _ v. Began at hi (x ∷ xs) w v) (walk_start true base x w) _ (start_begins base x w k)
      (λ _ u b.
      let long : Long u = omega (arith, ap length b.types, length-append w.declared_types (b.of ∷ []), b.more, k) in
      let places : length u.variables_at ≡ length w.variables_at =
      ap length b.notes ∙ length_replaced w.variables_at x.declarator.name_token (Some (length w.variables)) in
      gives_more (λ _ v. Began (at + length (start_kinds x) + 1) hi xs u v) (λ _ v. Began at hi (x ∷ xs) w v) (walk_starts true base xs u)
      (λ _ v r. one_began at hi x xs w u v p.0 l.0 h k g s b r)
      (starts_began xs (at + length (start_kinds x) + 1) hi base u p.1 l.1 (omega (arith, h, places)) long
      (subst (λ structs. Grows structs z.structs) (sym b.structs) g) (subst (λ structs. Stays structs z.structs) (sym b.structs) s)))

  -- a declaration of globals
  pub declaration_began : (d : DeclarationTree) (at : ℕ) (w : Walk) → DeclarationAt at d → at + length (declaration_kinds d) ≤ length w.variables_at → Long w
      → Grows w.structs z.structs → Stays w.structs z.structs
      → Gives (λ _ v. Began (at + length (base_kinds d.base)) (at + length (declaration_kinds d)) d.starts w v) (walk_declaration true d w)
  declaration_began d at w p h k g s =
      let long : length (declaration_kinds d) ≡ length (base_kinds d.base) + length (with_commas start_kinds d.starts) + 1 = omega (
        arith,
        length-append (base_kinds d.base ++ with_commas start_kinds d.starts) (a_sign sign.Semicolon),
        length-append (base_kinds d.base) (with_commas start_kinds d.starts),
      ) in
      let lo : ℕ = at + length (base_kinds d.base) in
      let hi : ℕ = at + length (declaration_kinds d) in
      gives_then (Named w) (λ _ v. Began lo hi d.starts w v) (base_type d.base w) _ (base_gives d.base w)
      (λ b u n. subst (λ q. Gives (λ _ v. Began lo hi d.starts w v) (walk_starts true b d.starts q)) (sym n.0)
      (starts_began d.starts lo hi b w p.2 (names_before d.starts lo hi p.2 (omega (arith, long))) h k g s))
