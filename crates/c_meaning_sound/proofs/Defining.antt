-- A function with a body: its parameters are its first variables, and its body fits the judgement.
use Rattle.std.proofs.Common.{◌≡◌, ℕ, ◌≤◌, ap, subst, sym, ◌∙◌, arith, List, [], ◌∷◌, ◌++◌, Some, None, ◌+◌, true, false, length, length-append}
use Rattle.std.specs.Prelude.{Option, map, take, drop, slice_get, unwrap_or}
use Rattle.std.specs.List.{AllByRecursion}
use Rattle.std.proofs.lemmas.Bool.{false≢true}
use Rattle.std.proofs.lemmas.List.{length-drop, length-map, length-take}
use Rattle.std.proofs.lemmas.Option.{same_Some}
use Rattle.c_types_expressions.proofs.Giving.{Gives}
use Rattle.base_lists.proofs.Lists.{next_is, Stays}
use Rattle.c_syntax.specs.declared.parts.Base.{Base}
use Rattle.c_syntax.specs.declared.parts.Params.{Params}
use Rattle.c_syntax.specs.Words.{EntryList, ItemTree, SourceTree, EntriesAt, ShapedEntries, entry_kinds}
use Rattle.c_syntax.specs.ItemTree as item
use Rattle.c_types_rules.specs.declared.function.FunctionType.{FunctionType}
use Rattle.c_types_rules.specs.TypeTree as t
use Rattle.c_types_rules.specs.Words.{TypeTree, is_scalar, cells_of}
use Rattle.c_types_expressions.specs.declared.walk.Definition.{Definition}
use Rattle.c_types_expressions.specs.declared.walk.Parameter.{Parameter}
use Rattle.c_types_expressions.specs.declared.walk.Walk.{Walk}
use Rattle.c_types_walk.specs.ItemWalk.{body_scope_opened, with_definition, with_function, with_param, with_params}
use Rattle.c_types_expressions.specs.Words.{names_after_scope, Fine, ended_scopes, scope_opened}
use Rattle.c_types_walk.specs.StatementWalk.{walk_entries}
use Rattle.c_meaning.specs.Words.{Signature, computed_type, signature_of, signature_with, sizes_of, strings_entered}
use Rattle.c_meaning_laws.specs.Rules.{IsObject}
use Rattle.c_meaning_laws.specs.TypedStatements.{TypedEntries}
use Rattle.c_meaning_laws.proofs.Ruled.{known}
use Rattle.c_meaning_sound.proofs.Declaring.{slots_more, variable_noted}
use Rattle.c_meaning_sound.proofs.Ending.{Sums, core_is_deep}
use Rattle.c_meaning_sound.proofs.Marking.{marks_then}
use Rattle.c_meaning_sound.proofs.Items.{BodiesFit, Declared, Item, Standing, Tagged, ready_of}
use Rattle.c_meaning_sound.proofs.Noting.{Agrees, Keeps, Part, Ready, Same, facts, keeps_then, none, nothing_noted, ready_after, same_then, so}
use Rattle.c_meaning_sound.proofs.Noting.{wider}
use Rattle.c_meaning_sound.proofs.Texts.{Spelled}
use Rattle.c_meaning_sound.proofs.Reaching.{Defines, Grown, IsParam, NamedWithin, begun_long, begun_stays, fine_known}

module _ (tree : SourceTree) (z : Walk) (sums : Sums z) where
  scalar_object : (of : TypeTree) → is_scalar of ≡ true → IsObject (known z.structs of)
  scalar_object t.Void h = absurd (false≢true h)
  scalar_object (t.Array element size) h = absurd (false≢true h)
  scalar_object (t.Struct tag) h = absurd (false≢true h)
  scalar_object of h = tt

  -- parameters
  abbrev pub Notes : ℕ → ℕ → Walk → Walk → Type 0
  Notes lo hi w v = Part tree z lo hi w v (λ c. Unit {0})

  over : (lo hi : ℕ) (w u v : Walk) → Notes lo hi w u → Notes lo hi u v → Notes lo hi w v
  over lo hi w u v a b = record {
    keeps = keeps_then a.keeps b.keeps;
    below = λ q h. same_then (a.below q h) (b.below q h);
    above = λ q h. same_then (a.above q h) (b.above q h);
    holds = λ c g. tt;
    marks = marks_then a.marks b.marks;
  }

  record Added (lo hi : ℕ) (w v : Walk) : Type 0 where
    part : Notes lo hi w v
    ready : Ready tree z lo hi v

  param_added : (lo hi : ℕ) (p : Parameter) (o : Option (List ℕ)) (w : Walk) → IsParam lo hi p → NamedWithin lo hi p.token o → Ready tree z lo hi w
      → Added lo hi w (with_param p.token o p.ctype w)
  param_added lo hi p None w i n r = record { part = nothing_noted lo hi w (λ c. tt); ready = r }
  param_added lo hi p (Some name) w i n r =
      let one = variable_noted tree z p.token name p.ctype w (omega (arith, n.1, r.variables_at)) (r.bare p.token n.0) r.long
      (core_is_deep tree z sums p.ctype i.flat, scalar_object p.ctype i.scalar) in
      let part : Notes lo hi w (with_param p.token (Some name) p.ctype w) =
      so (wider {lo = p.token} {hi = p.token + 1} one n.0 (omega (arith, n.1))) (λ c h. tt) in
      record {
        part = part;
        ready = record {
          types = r.types;
          variables_at = rw part.keeps.variables_at r.variables_at;
          offsets_at = r.offsets_at;
          functions_at = r.functions_at;
          fresh = r.fresh;
          bare = r.bare;
          wholes = part.keeps.wholes r.wholes;
          long = part.keeps.long r.long;
          slots = part.keeps.slots r.slots;
          grows = r.grows;
          structs = r.structs;
          functions = r.functions;
          tags = r.tags;
        };
      }

  params_added : (lo hi : ℕ) (ps : List Parameter) (w : Walk) → AllByRecursion (IsParam lo hi) ps → Ready tree z lo hi w → Added lo hi w (with_params ps w)
  params_added lo hi [] w h r = record { part = nothing_noted lo hi w (λ c. tt); ready = r }
  params_added lo hi (p ∷ ps) w h r =
      let one : Added lo hi w (with_param p.token p.name p.ctype w) = param_added lo hi p p.name w h.0 h.0.place r in
      let more : Added lo hi (with_param p.token p.name p.ctype w) (with_params ps (with_param p.token p.name p.ctype w)) =
      params_added lo hi ps (with_param p.token p.name p.ctype w) h.1 one.ready in
      record {
        part = over lo hi w (with_param p.token p.name p.ctype w)
            (with_params ps (with_param p.token p.name p.ctype w)) one.part more.part;
        ready = more.ready;
      }

  -- before the parameters
  begin_ready : (count at lo hi : ℕ) (u : Walk) → Standing tree z count at u → Grown u z → at ≤ lo → hi ≤ count
      → Ready tree z lo hi (scope_opened (record u { locals = 0 }))
  begin_ready count at lo hi u s g l h =
      let r : Ready tree z at hi u = ready_of tree z count at hi u s g h in
      record {
        types = r.types;
        variables_at = r.variables_at;
        offsets_at = r.offsets_at;
        functions_at = r.functions_at;
        fresh = λ q k. r.fresh q (omega (arith, l, k));
        bare = λ q k. r.bare q (omega (arith, l, k));
        wholes = r.wholes;
        long = r.long;
        slots = (tt, s.slots);
        grows = r.grows;
        structs = r.structs;
        functions = r.functions;
        tags = r.tags;
      }

  -- so many of a list, from a place on
  taken_long : (first count : ℕ) (types : List TypeTree) → first + count ≤ length types → length (take count (drop first types)) ≡ count
  taken_long first count types h = omega (arith, h, length-take count (drop first types), length-drop first types)

  sizes_long : (d : Definition) → d.first + d.count ≤ length z.declared_types → length (sizes_of z d) ≡ d.count
  sizes_long d h = length-map (take d.count (drop d.first z.declared_types)) (cells_of z.structs) ∙ taken_long d.first d.count z.declared_types h

  -- what is known of a defined function
  signature_fits : (d : Definition) (o : Option Definition) (f : FunctionType) (s : Signature) (body : EntryList) → o ≡ Some d
      → Declared tree z f d.function → signature_of z o ≡ Some s
      → TypedEntries (facts tree z) none (length (sizes_of z d)) (computed_type z.structs f.gives) false body
      → TypedEntries (facts tree z) none (length s.locals) s.result false body
  signature_fits d o f s body e g h k =
      let same : signature_with z d (Some g.own) ≡ Some s = sym (ap (signature_with z d) g.is) ∙ sym (ap (signature_of z) e) ∙ h in
      let is = same_Some (record {
        params = map (computed_type z.structs) g.own.ctype.params;
        result = computed_type z.structs g.own.ctype.gives;
        locals = sizes_of z d;
      }) s same in
      subst (λ (r : Signature). TypedEntries (facts tree z) none (length r.locals) r.result false body) is
      (subst (λ u. TypedEntries (facts tree z) none (length (sizes_of z d)) (computed_type z.structs u) false body) (sym g.gives) k)

  -- the walk through the body, and what stays behind it
  pub record Walked_body (lo mid at hi : ℕ) (gives : TypeTree) (body : EntryList) (u behind : Walk) : Type 0 where
    pub first : Walk
    pub params : Notes lo mid (scope_opened (record u { locals = 0 })) first
    pub part : Part tree z at hi first behind (λ c. TypedEntries (facts tree z) none c (computed_type z.structs gives) false body)

  pub walked_body : BodiesFit tree z → (count start lo mid at : ℕ) (ps : List Parameter) (gives : TypeTree) (body : EntryList) (u behind : Walk)
      → Standing tree z count start u → Grown u z → start ≤ lo → lo ≤ mid → mid ≤ at → at + length (entry_kinds body) ≤ count
      → AllByRecursion (IsParam lo mid) ps → ShapedEntries body → EntriesAt at body → AllByRecursion (Spelled tree) (strings_entered body)
      → walk_entries gives false body (body_scope_opened ps u) ≡ Fine tt behind → Walked_body lo mid at (at + length (entry_kinds body)) gives body u behind
  walked_body good count start lo mid at ps gives body u behind s g h l m c i q p x e =
      let w : Walk = scope_opened (record u { locals = 0 }) in
      let added : Added lo mid w (with_params ps w) =
      params_added lo mid ps w i (begin_ready count start lo mid u s g h (omega (arith, m, c))) in
      let ready : Ready tree z at (at + length (entry_kinds body)) (with_params ps w) =
      ready_after (begin_ready count start lo (at + length (entry_kinds body)) u s g h c) added.part (omega arith) m (omega (arith, l, m))
      (at + length (entry_kinds body)) (omega arith) in
      let fits = good body at gives (with_params ps w) q p x ready in
      record {
        first = with_params ps w;
        params = added.part;
        part = subst (Gives (λ done v. Part tree z at (at + length (entry_kinds body)) (with_params ps w) v
            (λ c. TypedEntries (facts tree z) none c (computed_type z.structs gives) false body))) e fits.by;
      }

  pub defined_item : BodiesFit tree z → length z.declared_types ≡ length z.variables
      → (token : ℕ) (b : Base) (stars : ℕ) (name : List ℕ) (ps : Params) (body : EntryList) (own : List Parameter) (f : FunctionType) (known : Option ℕ)
      (count start lo mid at hi : ℕ) (xs : List ItemTree) (w v : Walk)
      → Standing tree z count start (with_function name f known w) → Tagged tree z xs (with_function name f known w)
      → ((token : ℕ) → Same w (with_function name f known w) token) → (with_function name f known w).declared_types ≡ w.declared_types
      → (with_function name f known w).variables ≡ w.variables → Declared tree z f (unwrap_or known (length w.functions))
      → (d : Defines token f name own body known w v) → Grown (with_function name f known w) z → Grown v z
      → v.definitions ≡ w.definitions ++ record { function = unwrap_or known (length w.functions); first = length w.variables; count = d.last.locals } ∷ []
      → start ≤ lo → lo ≤ mid → mid ≤ at → at + length (entry_kinds body) ≤ hi → hi ≤ count → AllByRecursion (IsParam lo mid) own
      → ShapedEntries body → EntriesAt at body → AllByRecursion (Spelled tree) (strings_entered body)
      → Item tree z count start hi (item.Function token b stars name ps (Some body)) xs w v
  defined_item good zlong token b stars name ps body own f known count start lo mid at hi xs w v s g notes types variables declared d grown onward one
      h1 h2 h3 h4 h5 params shaped placed spelled =
      let u : Walk = with_function name f known w in
      let k = walked_body good count start lo mid at own f.gives body u d.behind s grown h1 h2 h3
      (omega (arith, h4, h5)) params shaped placed spelled d.walked in
      let keeps : Keeps tree z (scope_opened (record u { locals = 0 })) d.behind = keeps_then k.params.keeps k.part.keeps in
      let last : Walk = record d.behind { names = names_after_scope d.behind.names; ends = ended_scopes d.behind.latest d.behind.names d.behind.ends } in
      let e : last ≡ d.last = fine_known tt tt last d.last d.closes in
      let index : ℕ = unwrap_or known (length w.functions) in
      let is : v ≡ with_definition index (length w.variables) last = d.is ∙ ap (λ (r : Walk). with_definition index (length w.variables) r) (sym e) in
      subst (Item tree z count start hi (item.Function token b stars name ps (Some body)) xs w) (sym is) (record {
        standing = record {
          types = omega (arith, keeps.types, s.types);
          variables_at = omega (arith, keeps.variables_at, s.variables_at);
          offsets_at = omega (arith, keeps.offsets_at, s.offsets_at);
          functions_at = omega (arith, keeps.functions_at, s.functions_at);
          fresh = λ q l. (k.part.above q (omega (arith, h4, l))).functions ∙ (k.params.above q (omega (arith, h3, h4, l))).functions
              ∙ s.fresh q (omega (arith, h1, h2, h3, h4, l));
          bare = λ q l. (k.part.above q (omega (arith, h4, l))).types ∙ (k.params.above q (omega (arith, h3, h4, l))).types
              ∙ s.bare q (omega (arith, h1, h2, h3, h4, l));
          wholes = keeps.wholes s.wholes;
          long = keeps.long s.long;
          slots = rw keeps.scope (slots_more 0 0 u.variables d.behind.variables u.names (omega arith) keeps.variables s.slots);
          tags = rw keeps.tags s.tags;
        };
        tagged = rw keeps.tags (rw keeps.structs g);
        below = λ q l. let a : Same (scope_opened (record u { locals = 0 })) d.behind q = same_then (k.params.below q (omega (arith, h1, l)))
            (k.part.below q (omega (arith, h1, h2, h3, l))) in
            same_then (notes q) (record { types = a.types; variables = a.variables; offsets = a.offsets; functions = a.functions });
        declared = λ i of h m. keeps.declared i of (rw types h);
        number = ap (λ (r : Walk). length r.definitions) (sym is) ∙ ap length one
            ∙ length-append w.definitions (record { function = index; first = length w.variables; count = d.last.locals } ∷ []);
        body = λ later r signed.
            let own_one : Definition = record { function = index; first = length w.variables; count = d.last.locals } in
            let here : slice_get z.definitions (length w.definitions) ≡ Some own_one =
            begun_stays v.definitions z.definitions onward.definitions (length w.definitions) own_one
            (subst (λ ds. slice_get ds (length w.definitions) ≡ Some own_one) (sym one) (next_is w.definitions own_one [])) in
            let locals : d.last.locals ≡ d.behind.locals = ap (λ (r : Walk). r.locals) (sym e) in
            let variables_long : length d.behind.variables ≤ length z.variables =
            subst (λ (r : Walk). length r.variables ≤ length z.variables) is (begun_long v.variables z.variables onward.variables) in
            let long : length (sizes_of z own_one) ≡ d.last.locals = sizes_long own_one
            (omega (arith, zlong, variables_long, locals, keeps.count, ap length variables)) in
            let agrees : Agrees tree z (length (sizes_of z own_one)) at (at + length (entry_kinds body)) d.behind = record {
              notes = λ q l m. let a = later.below q (omega (arith, m, h4)) in
                  record { types = a.types; variables = a.variables; offsets = a.offsets; functions = a.functions };
              variables = subst (λ (r : Walk). Stays r.variables z.variables) is (begun_stays v.variables z.variables onward.variables);
              declared = later.declared;
              functions = subst (λ (r : Walk). Stays r.functions z.functions) is (begun_stays v.functions z.functions onward.functions);
              locals = omega (arith, long, locals);
            } in
            signature_fits own_one (slice_get z.definitions (length w.definitions)) f r body here declared signed
            (k.part.holds (length (sizes_of z own_one)) agrees);
      })
