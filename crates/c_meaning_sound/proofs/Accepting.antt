-- The items of an accepted text, one after another: all bodies and globals fit.
use Rattle.std.proofs.Common.{◌≡◌, ℕ, zero, suc, ◌≤◌, ◌<◌, refl, ap, subst, sym, ◌∙◌, arith, List, [], ◌∷◌, ◌++◌, Some, None, ◌+◌, true, length, length-append}
use Rattle.std.specs.Prelude.{Option, replicate, slice_get}
use Rattle.std.specs.List.{AllByRecursion, flat_map}
use Rattle.std.proofs.lemmas.List.{length-replicate}
use Rattle.std.proofs.lemmas.Option.{slice_get_past}
use Rattle.base_lists.proofs.Lists.{Stays}
use Rattle.base_lists.proofs.Every.{all_first, all_second}
use Rattle.c_syntax.specs.declared.token.Sign.TheVariants as sign
use Rattle.c_syntax.specs.declared.parts.Base.{Base}
use Rattle.c_syntax.specs.declared.parts.Params.{Params}
use Rattle.c_syntax.specs.Words.{DeclarationTree, EntryList, StartTree, ItemTree, SourceTree, DeclarationAt, EachAt, ItemAt, ShapedDeclaration, ShapedItem}
use Rattle.c_syntax.specs.Words.{a_name, a_sign, body_kinds, declaration_kinds, entry_kinds, item_kinds, parenthesized_kinds, params_kinds, type_kinds}
use Rattle.c_syntax.specs.ItemTree as item
use Rattle.c_types_rules.specs.TypeTree.{TypeTree}
use Rattle.c_types_rules.specs.declared.function.FunctionType.{FunctionType}
use Rattle.c_types_expressions.specs.declared.walk.Walk.{Walk}
use Rattle.c_types.specs.Answers.{note_at}
use Rattle.c_types_expressions.specs.Words.{with_stars, empty_walk, declared_meaning, Done, Fine}
use Rattle.c_types_walk.specs.ItemWalk.{is_clashing_name, known_as, types_of, walk_item, walk_items, with_function}
use Rattle.c_types_walk.specs.StatementWalk.{walk_declaration}
use Rattle.c_meaning.specs.Words.{Signature, starts_of, body_of_item, facts_of, signature_of, strings_declared, strings_of_item}
use Rattle.c_meaning_laws.specs.TypedSource.{TypedBody}
use Rattle.c_meaning_laws.specs.TypedText.{TypedGlobals}
use Rattle.c_meaning_sound.specs.Accepted.{IsNegatable}
use Rattle.c_meaning_sound.proofs.Defining.{defined_item}
use Rattle.c_meaning_sound.proofs.Ending.{Follows, Sums, item_follows, items_follow, struct_is}
use Rattle.c_meaning_sound.proofs.Items.{BodiesFit, ItemBodyFits, Item, Later, Standing, Tagged, bodiless_item, function_found, known_has, same_function_notes}
use Rattle.c_meaning_sound.proofs.Items.{same_types_declared, same_variables, standing_function, struct_item, tagged_function}
use Rattle.c_meaning_sound.proofs.Noting.{Same, facts, none, same_here, same_then}
use Rattle.c_meaning_sound.proofs.Reaching.{Defines, Grown, begun_stays, body_defines, comes, declares_is, defines_onward, defines_one, fine_known, function_is}
use Rattle.c_meaning_sound.proofs.Reaching.{grown_then}
use Rattle.c_meaning_sound.proofs.Texts.{Spelled}

module _ (tree : SourceTree) (z : Walk) where
  -- what a declaration outside functions leaves, and what holds of it at the end
  pub record GlobalGood (count at : ℕ) (d : DeclarationTree) (w v : Walk) : Type 0 where
    pub standing : Standing tree z count (at + length (declaration_kinds d)) v
    pub below : (token : ℕ) → token < at → Same w v token
    pub declared : Stays w.declared_types v.declared_types
    pub tags : v.tags ≡ w.tags
    pub structs : v.structs ≡ w.structs
    pub definitions : v.definitions ≡ w.definitions
    pub fits : Later tree z (at + length (declaration_kinds d)) v → TypedGlobals (facts_of tree z) z d.starts

  abbrev pub GlobalsFit : Type 0
  GlobalsFit = (d : DeclarationTree) (count at : ℕ) (w v : Walk) (a : Done) → ShapedDeclaration d → DeclarationAt at d
      → AllByRecursion (Spelled tree) (strings_declared d) → AllByRecursion IsNegatable (declaration_kinds d) → Standing tree z count at w → Grown v z
      → at + length (declaration_kinds d) ≤ count → walk_declaration true d w ≡ Fine a v → GlobalGood count at d w v

  -- an item, and its globals
  pub record Whole_item (count at hi : ℕ) (x : ItemTree) (xs : List ItemTree) (w v : Walk) : Type 0 where
    pub item : Item tree z count at hi x xs w v
    pub globals : Later tree z hi v → TypedGlobals (facts_of tree z) z (starts_of x)

  pub body_long : (b : Base) (stars : ℕ) (name : List ℕ) (ps : Params) (token : ℕ) (body : EntryList)
      → length (item_kinds (item.Function token b stars name ps (Some body))) ≡ length (type_kinds b stars) + 2 + length (params_kinds ps) + 2 + length
      (entry_kinds body) + 1
  body_long b stars name ps token body =
      let t = type_kinds b stars in
      let p = params_kinds ps in
      let e = entry_kinds body in
      omega (
        arith,
        length-append (t ++ a_name name ++ parenthesized_kinds p) (body_kinds (Some body)),
        length-append (t ++ a_name name) (parenthesized_kinds p),
        length-append t (a_name name),
        length-append (a_sign sign.LeftParen ++ p) (a_sign sign.RightParen),
        length-append (a_sign sign.LeftParen) p,
        length-append (a_sign sign.LeftBrace ++ e) (a_sign sign.RightBrace),
        length-append (a_sign sign.LeftBrace) e,
      )

  module _ (sums : Sums z) (good : BodiesFit tree z) (global : GlobalsFit) (zlong : length z.declared_types ≡ length z.variables) where
    pub item_good : (x : ItemTree) (count at hi : ℕ) (xs : List ItemTree) (w v : Walk) (a : Done) → ShapedItem x → ItemAt at x
        → AllByRecursion (Spelled tree) (strings_of_item x) → AllByRecursion IsNegatable (item_kinds x) → Sums w → Standing tree z count at w
        → Tagged tree z (x ∷ xs) w → Grown v z → hi ≡ at + length (item_kinds x) → hi ≤ count → walk_item x w ≡ Fine a v → Whole_item count at hi x xs w v
    item_good (item.Struct token tag members) count at hi xs w v a o p l q s st g gr h c e = record {
      item = struct_item tree z token tag members count at hi xs w v st g (struct_is token tag members w v a o.0 o.1 s.structs e) (omega (arith, h));
      globals = λ later. tt;
    }
    item_good (item.Function token b stars name ps None) count at hi xs w v a o p l q s st g gr h c e =
        let k = function_is token b stars name ps None (at + length (type_kinds b stars) + 2)
        (at + length (type_kinds b stars) + 2 + length (params_kinds ps)) w a v p.2
        (omega arith) e in
        let f : FunctionType = record { gives = with_stars stars k.of; params = types_of k.own } in
        let known : Option ℕ = known_as f (declared_meaning name w.names) w in
        record {
          item = bodiless_item tree z token b stars name ps f known count at hi xs w v st g
              (declares_is token (is_clashing_name name known w) f.gives (with_function name f known w) v a k.rest).same (omega (arith, h));
          globals = λ later. tt;
        }
    item_good (item.Function token b stars name ps (Some body)) count at hi xs w v a o p l q s st g gr h c e =
        let lo : ℕ = at + length (type_kinds b stars) + 2 in
        let mid : ℕ = at + length (type_kinds b stars) + 2 + length (params_kinds ps) in
        let k = function_is token b stars name ps (Some body) lo mid w a v p.2 (omega arith) e in
        let f : FunctionType = record { gives = with_stars stars k.of; params = types_of k.own } in
        let known : Option ℕ = known_as f (declared_meaning name w.names) w in
        let d : Defines token f name k.own body known w v = body_defines token f name k.own body known w v a k.rest in
        let grown : Grown (with_function name f known w) z = grown_then (with_function name f known w) v z
        (defines_onward token f name k.own body known w v d) gr in
        record {
          item = defined_item tree z sums good zlong token b stars name ps body k.own f known count at lo mid
              (at + length (type_kinds b stars) + 2 + length (params_kinds ps) + 2)
              hi xs w v (standing_function tree z count at name f known w st) (tagged_function tree z xs name f known w g)
              (same_function_notes tree z name f known w)
              (same_types_declared tree z name f known w) (same_variables tree z name f known w)
              (function_found tree z name f known w (λ index i. known_has tree z f (declared_meaning name w.names) w index i)
              (begun_stays (with_function name f known w).functions z.functions grown.functions)) d grown gr (defines_one token f name k.own body known w v d)
              (omega arith) (omega arith) (omega arith) (omega (arith, h, body_long b stars name ps token body)) c k.are o.1 p.3 l;
          globals = λ later. tt;
        }
    item_good (item.Declaration d) count at hi xs w v a o p l q s st g gr h c e =
        let k : GlobalGood count at d w v = global d count at w v a o p l q st gr (omega (arith, h, c)) e in
        record {
          item = record {
            standing = subst (λ n. Standing tree z count n v) (sym h) k.standing;
            tagged = rw k.tags (rw k.structs g);
            below = k.below;
            declared = λ i of x m. k.declared i of x;
            number = ap length k.definitions ∙ omega arith;
            body = λ later. tt;
          };
          globals = λ later. k.fits (subst (λ n. Later tree z n v) h later);
        }

    -- all items from one on
    pub record Fitted (at : ℕ) (w : Walk) (xs : List ItemTree) : Type 0 where
      pub later : Later tree z at w
      pub bodies : (number : ℕ) (f : Signature) → signature_of z (slice_get z.definitions (length w.definitions + number)) ≡ Some f
          → TypedBody (facts tree z) none f (slice_get (flat_map body_of_item xs) number)
      pub globals : TypedGlobals (facts_of tree z) z (flat_map starts_of xs)

    globals_both : (xs ys : List StartTree) → TypedGlobals (facts_of tree z) z xs → TypedGlobals (facts_of tree z) z ys → TypedGlobals (facts_of tree z) z
        (xs ++ ys)
    globals_both [] ys h k = k
    globals_both (x ∷ xs) ys h k = (h.0, globals_both xs ys h.1 k)

    abbrev Bodies : ℕ → List EntryList → Type 0
    Bodies n ys = (number : ℕ) (f : Signature) → signature_of z (slice_get z.definitions (n + number)) ≡ Some f
        → TypedBody (facts tree z) none f (slice_get ys number)

    one_body : (body : EntryList) (n m : ℕ) (ys : List EntryList) → m ≡ n + 1
        → ((f : Signature) → signature_of z (slice_get z.definitions n) ≡ Some f → TypedBody (facts tree z) none f (Some body)) → Bodies m ys → Bodies n
        (body ∷ ys)
    one_body body n m ys e h k zero f s = h f (subst (λ i. signature_of z (slice_get z.definitions i) ≡ Some f) (omega arith) s)
    one_body body n m ys e h k (suc number) f s =
        let same : n + suc number ≡ m + number = omega (arith, e) in
        k number f (subst (λ i. signature_of z (slice_get z.definitions i) ≡ Some f) same s)

    bodies_both : (x : ItemTree) (n m : ℕ) (ys : List EntryList) → m ≡ n + length (body_of_item x) → ItemBodyFits tree z n x → Bodies m ys → Bodies n
        (body_of_item x ++ ys)
    bodies_both (item.Function token b stars name ps (Some body)) n m ys e h k = one_body body n m ys e h k
    bodies_both x n m ys e h k = subst (λ i. Bodies i ys) (e ∙ omega arith) k

    no_bodies : (n : ℕ) → length z.definitions ≤ n → (number : ℕ) (f : Signature) → signature_of z (slice_get z.definitions (n + number)) ≡ Some f
        → TypedBody (facts tree z) none f (slice_get {X = EntryList} [] number)
    no_bodies n h number f e =
        let past : slice_get z.definitions (n + number) ≡ None = slice_get_past z.definitions (n + number) (omega (arith, h)) in
        absurd (none_signed (sym (ap (signature_of z) past) ∙ e))
      where
        none_signed : None ≡ Some f → ⊥
        none_signed q = cc

    pub items_good : (xs : List ItemTree) (count at : ℕ) (w : Walk) (a : Done) → AllByRecursion ShapedItem xs → EachAt ItemAt item_kinds 0 at xs
        → AllByRecursion (Spelled tree) (flat_map strings_of_item xs) → AllByRecursion IsNegatable (flat_map item_kinds xs) → Sums w
        → Standing tree z count at w → Tagged tree z xs w → at + length (flat_map item_kinds xs) ≤ count → walk_items xs w ≡ Fine a z → Fitted at w xs
    items_good [] count at w a o p l q s st g c e = subst (λ u. Fitted at u []) (sym (fine_known tt a w z e)) (record {
      later = record { below = λ token h. same_here z token; declared = λ i of h m. h };
      bodies = no_bodies (length z.definitions) (omega arith);
      globals = tt;
    })
    items_good (x ∷ xs) count at w a o p l q s st g c e =
        let first = comes (walk_item x w) _ a z e in
        let v : Walk = first.known in
        let hi : ℕ = at + length (item_kinds x) + 0 in
        let long : length (flat_map item_kinds (x ∷ xs)) ≡ length (item_kinds x) + length (flat_map item_kinds xs) =
        length-append (item_kinds x) (flat_map item_kinds xs) in
        let one : Follows w v = item_follows x at w v first.value o.0 p.0 s first.first in
        let more : Follows v z = items_follow xs hi v z a o.1 p.1 one.sums first.rest in
        let k : Whole_item count at hi x xs w v = item_good x count at hi xs w v first.value o.0 p.0
        (all_first (Spelled tree) (strings_of_item x) (flat_map strings_of_item xs) l) (all_first IsNegatable (item_kinds x) (flat_map item_kinds xs) q)
        s st g more.grown (omega arith) (omega (arith, c, long)) first.first in
        let rest : Fitted hi v xs = items_good xs count hi v a o.1 p.1 (all_second (Spelled tree) (strings_of_item x) (flat_map strings_of_item xs) l)
        (all_second IsNegatable (item_kinds x) (flat_map item_kinds xs) q) one.sums k.item.standing k.item.tagged (omega (arith, c, long)) first.rest in
        record {
          later = record {
            below = λ token h. same_then (k.item.below token h) (rest.later.below token (omega (arith, h)));
            declared = λ i of h m. rest.later.declared i of (k.item.declared i of h m) m;
          };
          bodies = bodies_both x (length w.definitions) (length v.definitions) (flat_map body_of_item xs) k.item.number (k.item.body rest.later) rest.bodies;
          globals = globals_both (starts_of x) (flat_map starts_of xs) (k.globals rest.later) rest.globals;
        }

  -- before the first item
  nothing_at : {A : Type 0} (n k : ℕ) → note_at (replicate {A = Option A} n None) k ≡ None
  nothing_at zero k = refl
  nothing_at (suc n) zero = refl
  nothing_at {A = A} (suc n) (suc k) = nothing_at {A = A} n k

  pub begins_standing : (n : ℕ) → Standing tree z n 0 (empty_walk n)
  begins_standing n = record {
    types = omega (arith, length-replicate {A = Option TypeTree} n None);
    variables_at = omega (arith, length-replicate {A = Option ℕ} n None);
    offsets_at = omega (arith, length-replicate {A = Option ℕ} n None);
    functions_at = omega (arith, length-replicate {A = Option ℕ} n None);
    fresh = λ token h. nothing_at n token;
    bare = λ token h. nothing_at n token;
    wholes = tt;
    long = refl;
    slots = tt;
    tags = λ tag index e. cc;
  }

  pub begins_tagged : (n : ℕ) → Tagged tree z tree.items (empty_walk n)
  begins_tagged n tag h = refl
