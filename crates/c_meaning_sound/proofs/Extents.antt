-- The variables in scope within each item of an accepted text, to the end of the text.
use Rattle.std.proofs.Common.{◌≡◌, ℕ, ◌≤◌, ◌<◌, refl, ap, subst, sym, ◌∙◌, arith, List, [], ◌∷◌, ◌++◌, Some, None, ◌+◌, length, length-append}
use Rattle.std.specs.Prelude.{Option, false, slice_get, unwrap_or}
use Rattle.std.specs.List.{AllByRecursion, flat_map}
use Rattle.c_types_expressions.proofs.Giving.{Gives}
use Rattle.base_lists.proofs.Lists.{next_is, Stays}
use Rattle.base_lists.proofs.Every.{all_first, all_second}
use Rattle.c_syntax.specs.declared.token.Sign.TheVariants as sign
use Rattle.c_syntax.specs.declared.parts.Base.{Base}
use Rattle.c_syntax.specs.declared.parts.Params.{Params}
use Rattle.c_syntax.specs.Words.{EntryList, ItemTree, SourceTree, EachAt, ItemAt, ShapedItem, a_name, a_sign, base_kinds, body_kinds, declaration_kinds}
use Rattle.c_syntax.specs.Words.{entry_kinds, item_kinds, params_kinds, parenthesized_kinds, start_kinds, type_kinds, with_commas}
use Rattle.c_syntax.specs.ItemTree as item
use Rattle.c_types_rules.specs.declared.function.FunctionType.{FunctionType}
use Rattle.c_types_expressions.specs.declared.walk.Definition.{Definition}
use Rattle.c_types_expressions.specs.declared.walk.Walk.{Walk}
use Rattle.c_types_expressions.specs.Words.{with_stars, declared_meaning, Done, Fine, scope_opened}
use Rattle.c_types_walk.specs.ItemWalk.{is_clashing_name, known_as, types_of, walk_item, walk_items, with_definition, with_function}
use Rattle.c_meaning.specs.declared.value_type.ValueType.{ValueType}
use Rattle.c_meaning.specs.Words.{body_of_item, computed_type, facts_of, strings_of_item}
use Rattle.c_meaning_laws.specs.TypedStatements.{TypedEntries}
use Rattle.c_meaning_laws.specs.TypedText.{TypedGlobals}
use Rattle.c_meaning_sound.specs.Accepted.{IsNegatable}
use Rattle.c_meaning_sound.proofs.Accepting.{GlobalsFit, Whole_item, body_long, item_good}
use Rattle.c_meaning_sound.proofs.Defining.{Walked_body, walked_body}
use Rattle.c_meaning_sound.proofs.Ending.{Follows, Sums, item_follows, items_follow, struct_is}
use Rattle.c_meaning_sound.proofs.Forming.{Ended}
use Rattle.c_meaning_sound.proofs.Globals.{Outside, declaration_outside}
use Rattle.c_meaning_sound.proofs.Items.{BodiesFit, Later, Standing, Tagged, ready_of, same_variables, standing_function}
use Rattle.c_meaning_sound.proofs.Marking.{IsLocalBelow, Marks, after_scope, marks_then, marks_wider}
use Rattle.c_meaning_sound.proofs.Noting.{Ready, Same, StaysWhole, facts, none, same_here, same_then}
use Rattle.c_meaning_sound.proofs.Reaching.{Defines, Grown, begun_stays, body_defines, comes, declaration_grown, declares_is, defines_onward, defines_one}
use Rattle.c_meaning_sound.proofs.Reaching.{fine_known, function_is, grown_then}
use Rattle.c_meaning_sound.proofs.Spanning.{Behind, InScope, Spans, Steps, behind_before, behind_here, in_scope, spans_next, steps_body, steps_outer, steps_quiet}
use Rattle.c_meaning_sound.proofs.Texts.{Spelled}

-- steps between points that differ in other things
steps_function : (at hi : ℕ) (name : List ℕ) (f : FunctionType) (known : Option ℕ) (w v : Walk) → Steps at hi
    (record (with_function name f known w) { locals = 0 }) v
    → Steps at hi w v
steps_function at hi name f (Some index) w v k = record {
  latest = k.latest;
  globals = k.globals;
  more = k.more;
  kept = k.kept;
  long = k.long;
  old = k.old;
  news = k.news;
}
steps_function at hi name f None w v k = record {
  latest = k.latest;
  globals = k.globals;
  more = k.more;
  kept = k.kept;
  long = k.long;
  old = k.old;
  news = k.news;
}

steps_defined : (at hi index first : ℕ) (w v : Walk) → Steps at hi w v → Steps at hi w (with_definition index first v)
steps_defined at hi index first w v k = record {
  latest = k.latest;
  globals = k.globals;
  more = k.more;
  kept = k.kept;
  long = k.long;
  old = k.old;
  news = k.news;
}

steps_declared : (at hi : ℕ) (name : List ℕ) (f : FunctionType) (known : Option ℕ) (w : Walk) → Steps at hi w (with_function name f known w)
steps_declared at hi name f (Some index) w = steps_quiet at hi w w refl refl refl refl
steps_declared at hi name f None w = steps_quiet at hi w (with_function name f None w) refl refl refl refl

some_tokens : (x : ItemTree) → 1 ≤ length (item_kinds x)
some_tokens (item.Struct token tag members) = omega arith
some_tokens (item.Function token b stars name ps body) = omega (
  arith,
  length-append (type_kinds b stars ++ a_name name ++ parenthesized_kinds (params_kinds ps)) (body_kinds body),
  length-append (type_kinds b stars ++ a_name name) (parenthesized_kinds (params_kinds ps)),
  length-append (type_kinds b stars) (a_name name),
)
some_tokens (item.Declaration d) = omega (arith, length-append (base_kinds d.base ++ with_commas start_kinds d.starts) (a_sign sign.Semicolon))

module _ (tree : SourceTree) (z : Walk) (ends : Ended tree z) (sums : Sums z) (good : BodiesFit tree z) (global : GlobalsFit tree z)
    (zlong : length z.declared_types ≡ length z.variables) where
  -- the function with this number has this body, within which no variable of another function is in scope
  pub record Stands (n at hi : ℕ) (body : EntryList) : Type 0 where
    pub own : Definition
    pub here : slice_get z.definitions n ≡ Some own
    pub scope : InScope at hi own.count z
    pub result : ValueType
    pub typed : TypedEntries (facts tree z) none own.count result false body

  abbrev pub Extends : ℕ → ℕ → ℕ → ItemTree → Type 0
  Extends n at hi (item.Function token b stars name ps (Some body)) = Stands n at hi body
  Extends n at hi x = Unit {0}

  record Extent (n at hi : ℕ) (x : ItemTree) (w v : Walk) : Type 0 where
    steps : Steps at hi w v
    own : Spans at w → Behind at w z → Behind hi v z → Later tree z hi v → Extends n at hi x

  body_extent : (token : ℕ) (b : Base) (stars : ℕ) (name : List ℕ) (ps : Params) (body : EntryList) (count at hi : ℕ) (w v : Walk) (a : Done)
      → ShapedItem (item.Function token b stars name ps (Some body)) → ItemAt at (item.Function token b stars name ps (Some body))
      → AllByRecursion (Spelled tree) (strings_of_item (item.Function token b stars name ps (Some body))) → Standing tree z count at w → Grown v z
      → hi ≡ at + length (item_kinds (item.Function token b stars name ps (Some body))) → hi ≤ count
      → walk_item (item.Function token b stars name ps (Some body)) w ≡ Fine a v
      → Extent (length w.definitions) at hi (item.Function token b stars name ps (Some body)) w v
  body_extent token b stars name ps body count at hi w v a o p l st gr h c e =
      let lo : ℕ = at + length (type_kinds b stars) + 2 in
      let mid : ℕ = at + length (type_kinds b stars) + 2 + length (params_kinds ps) in
      let from : ℕ = at + length (type_kinds b stars) + 2 + length (params_kinds ps) + 2 in
      let k = function_is token b stars name ps (Some body) lo mid w a v p.2 (omega arith) e in
      let f : FunctionType = record { gives = with_stars stars k.of; params = types_of k.own } in
      let known : Option ℕ = known_as f (declared_meaning name w.names) w in
      let u : Walk = with_function name f known w in
      let d : Defines token f name k.own body known w v = body_defines token f name k.own body known w v a k.rest in
      let grown : Grown u z = grown_then u v z (defines_onward token f name k.own body known w v d) gr in
      let long : hi ≡ from + length (entry_kinds body) + 1 = omega (arith, h, body_long tree z b stars name ps token body) in
      let q : Walked_body tree z sums lo mid from (from + length (entry_kinds body)) f.gives body u d.behind =
      walked_body tree z sums good count at lo mid from k.own f.gives body u d.behind (standing_function tree z count at name f known w st) grown (omega arith)
      (omega arith) (omega arith) (omega (arith, long, c)) k.are o.1 p.3 l d.walked in
      let m : Marks at hi (scope_opened (record u { locals = 0 })) d.behind = marks_then (marks_wider at hi q.params.marks (omega arith) (omega (arith, long)))
      (marks_wider at hi q.part.marks (omega arith) (omega (arith, long))) in
      let index : ℕ = unwrap_or known (length w.functions) in
      let closes : after_scope d.behind ≡ d.last = fine_known tt tt (after_scope d.behind) d.last d.closes in
      let is : v ≡ with_definition index (length w.variables) (after_scope d.behind) =
      d.is ∙ ap (λ (r : Walk). with_definition index (length w.variables) r) (sym closes) in
      record {
        steps = subst (Steps at hi w) (sym is) (steps_defined at hi index (length w.variables) w (after_scope d.behind)
            (steps_function at hi name f known w (after_scope d.behind) (steps_body at hi (record u { locals = 0 }) d.behind m)));
        own = λ spans before behind later.
            let own_one : Definition = record { function = index; first = length w.variables; count = d.last.locals } in
            let there : slice_get z.definitions (length w.definitions) ≡ Some own_one =
            begun_stays v.definitions z.definitions gr.definitions (length w.definitions) own_one
            (subst (λ ds. slice_get ds (length w.definitions) ≡ Some own_one) (sym (defines_one token f name k.own body known w v d))
            (next_is w.definitions own_one [])) in
            let locals : d.behind.locals ≡ d.last.locals = ap (λ (r : Walk). r.locals) closes in
            record {
              own = own_one;
              here = there;
              scope = in_scope at hi d.last.locals w v z spans before behind (λ i entry low x.
                  subst (λ n. IsLocalBelow n entry.variable) locals
                  (m.entries i entry (omega (arith, low, ap length (same_variables tree z name f known w)))
                  (subst (λ (r : Walk). slice_get r.variables i ≡ Some entry) is x)).local);
              result = computed_type z.structs f.gives;
              typed = q.part.holds d.last.locals (record {
                notes = λ at l m. let a = subst (λ (r : Walk). Same r z at) is (later.below at (omega (arith, m, long))) in
                    record { types = a.types; variables = a.variables; offsets = a.offsets; functions = a.functions };
                variables = subst (λ (r : Walk). Stays r.variables z.variables) is (begun_stays v.variables z.variables gr.variables);
                declared = subst (λ (r : Walk). StaysWhole tree z r.declared_types z.declared_types) is later.declared;
                functions = subst (λ (r : Walk). Stays r.functions z.functions) is (begun_stays v.functions z.functions gr.functions);
                locals = omega (arith, locals);
              });
            };
      }

  item_extent : (x : ItemTree) (count at hi : ℕ) (w v : Walk) (a : Done) → ShapedItem x → ItemAt at x → AllByRecursion (Spelled tree) (strings_of_item x)
      → AllByRecursion IsNegatable (item_kinds x) → Sums w → Standing tree z count at w → Grown v z → hi ≡ at + length (item_kinds x) → hi ≤ count
      → walk_item x w ≡ Fine a v → Extent (length w.definitions) at hi x w v
  item_extent (item.Struct token tag members) count at hi w v a o p l q s st gr h c e = record {
    steps = subst (Steps at hi w) (sym (struct_is token tag members w v a o.0 o.1 s.structs e).is) (steps_quiet at hi w _ refl refl refl refl);
    own = λ spans before behind later. tt;
  }
  item_extent (item.Function token b stars name ps None) count at hi w v a o p l q s st gr h c e =
      let k = function_is token b stars name ps None (at + length (type_kinds b stars) + 2)
      (at + length (type_kinds b stars) + 2 + length (params_kinds ps)) w a v p.2
      (omega arith) e in
      let f : FunctionType = record { gives = with_stars stars k.of; params = types_of k.own } in
      let known : Option ℕ = known_as f (declared_meaning name w.names) w in
      record {
        steps = subst (Steps at hi w) (sym (declares_is token (is_clashing_name name known w) f.gives (with_function name f known w) v a k.rest).same)
            (steps_declared at hi name f known w);
        own = λ spans before behind later. tt;
      }
  item_extent (item.Function token b stars name ps (Some body)) count at hi w v a o p l q s st gr h c e =
      body_extent token b stars name ps body count at hi w v a o p l st gr h c e
  item_extent (item.Declaration d) count at hi w v a o p l q s st gr h c e =
      let r : Ready tree z at (at + length (declaration_kinds d)) w =
      ready_of tree z count at (at + length (declaration_kinds d)) w st (grown_then w v z (declaration_grown d w v a e) gr) (omega (arith, h, c)) in
      let x : Outside tree z at (at + length (declaration_kinds d)) w v (TypedGlobals (facts_of tree z) z d.starts) =
      subst (Gives (λ done v. Outside tree z at (at + length (declaration_kinds d)) w v (TypedGlobals (facts_of tree z) z d.starts))) e
      (declaration_outside tree z ends d at w o p l q r st.slots).by in
      record {
        steps = subst (λ n. Steps at n w v) (sym h)
            (steps_outer at (at + length (declaration_kinds d)) w v x.marks);
        own = λ spans before behind later. tt;
      }

  abbrev pub AllExtend : ℕ → ℕ → List ItemTree → Type 0
  AllExtend n at [] = Unit {0}
  AllExtend n at (x ∷ xs) = Extends n at (at + length (item_kinds x) + 0) x × AllExtend (n + length (body_of_item x)) (at + length (item_kinds x) + 0) xs

  -- all items from one on
  pub record Extended (at : ℕ) (w : Walk) (xs : List ItemTree) : Type 0 where
    pub behind : Behind at w z
    pub later : Later tree z at w
    pub last : ℕ
    pub spans : Spans last z
    pub all : AllExtend (length w.definitions) at xs

  pub items_extent : (xs : List ItemTree) (count at : ℕ) (w : Walk) (a : Done) → AllByRecursion ShapedItem xs → EachAt ItemAt item_kinds 0 at xs
      → AllByRecursion (Spelled tree) (flat_map strings_of_item xs) → AllByRecursion IsNegatable (flat_map item_kinds xs) → Sums w
      → Standing tree z count at w → Tagged tree z xs w → Spans at w → at + length (flat_map item_kinds xs) ≤ count → walk_items xs w ≡ Fine a z
      → Extended at w xs
  items_extent [] count at w a o p l q s st g spans c e = subst (λ u. Extended at u []) (sym (fine_known tt a w z e)) (record {
    behind = behind_here at z;
    later = record { below = λ token h. same_here z token; declared = λ i of h m. h };
    last = at;
    spans = subst (Spans at) (fine_known tt a w z e) spans;
    all = tt;
  })
  items_extent (x ∷ xs) count at w a o p l q s st g spans c e =
      let first = comes (walk_item x w) _ a z e in
      let v : Walk = first.known in
      let hi : ℕ = at + length (item_kinds x) + 0 in
      let long : length (flat_map item_kinds (x ∷ xs)) ≡ length (item_kinds x) + length (flat_map item_kinds xs) =
      length-append (item_kinds x) (flat_map item_kinds xs) in
      let one : Follows w v = item_follows x at w v first.value o.0 p.0 s first.first in
      let more : Follows v z = items_follow xs hi v z a o.1 p.1 one.sums first.rest in
      let strings = all_first (Spelled tree) (strings_of_item x) (flat_map strings_of_item xs) l in
      let plain = all_first IsNegatable (item_kinds x) (flat_map item_kinds xs) q in
      let k : Whole_item tree z count at hi x xs w v = item_good tree z sums good global zlong x count at hi xs w v first.value o.0 p.0 strings plain s st g
      more.grown (omega arith) (omega (arith, c, long)) first.first in
      let extent : Extent (length w.definitions) at hi x w v = item_extent x count at hi w v first.value o.0 p.0 strings plain s st more.grown (omega arith)
      (omega (arith, c, long)) first.first in
      let less : at < hi = omega (arith, some_tokens x) in
      let rest : Extended hi v xs = items_extent xs count hi v a o.1 p.1 (all_second (Spelled tree) (strings_of_item x) (flat_map strings_of_item xs) l)
      (all_second IsNegatable (item_kinds x) (flat_map item_kinds xs) q) one.sums k.item.standing k.item.tagged (spans_next at hi w v spans extent.steps less)
      (omega (arith, c, long)) first.rest in
      let before : Behind at w z = behind_before at hi w v z spans extent.steps less rest.behind in
      record {
        behind = before;
        later = record {
          below = λ token h. same_then (k.item.below token h) (rest.later.below token (omega (arith, h)));
          declared = λ i of h m. rest.later.declared i of (k.item.declared i of h m) m;
        };
        last = rest.last;
        spans = rest.spans;
        all = (extent.own spans before rest.behind rest.later, subst (λ n. AllExtend n hi xs) k.item.number rest.all);
      }
