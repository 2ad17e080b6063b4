-- The parser of items as a function on lists meets their rule.
use Rattle.std.proofs.Common.{◌≡◌, ℕ, zero, suc, ◌+◌, ◌-◌, ◌≤◌, inl, inr, List, [], ◌∷◌, ◌++◌, length, Option, Some, None, Ok, Err, refl, sym, ap, ◌∙◌, subst, append_assoc, length-append, arith}
use Rattle.std.proofs.lemmas.Bool.{cases_Bool}
use Rattle.std.specs.Prelude.{IfSome, flat_map}
use Rattle.c_syntax.specs.declared.token.Sign.{Sign}
use Rattle.c_syntax.specs.declared.token.Sign.TheVariants as sign_is
use Rattle.c_syntax.specs.declared.token.TokenKind.TheVariants as kind
use Rattle.c_syntax.specs.declared.parts.Base.{Base}
use Rattle.c_syntax.specs.declared.parts.Base.TheVariants as base_is
use Rattle.c_syntax.specs.declared.parts.Bound.{Bound}
use Rattle.c_syntax.specs.declared.parts.Members.{Members}
use Rattle.c_syntax.specs.declared.parts.Params.{Params}
use Rattle.c_syntax.specs.Words.{InitialTree, StartTree, EntryList, ItemTree, Kinds, a_sign, a_name, parenthesized_kinds, bound_kinds, base_kinds, star_kinds}
use Rattle.c_syntax.specs.Words.{type_kinds, declarator_kinds, members_kinds, params_kinds, start_kinds, after_commas, body_kinds, item_kinds, optional_nesting}
use Rattle.c_syntax.specs.Words.{entries_nesting, ShapedEntries, EachAt, MembersAt, BaseAt, ParamsAt, EntriesAt}
use Rattle.c_syntax.specs.ItemTree as i
use Rattle.c_parser_expressions.specs.Reading.{Cursor, SameUpTo, Rule, Found, Fails, Read, Outcome, sequence_rule, sign_rule, name_rule, next_cursor, sign_at}
use Rattle.c_parser_expressions.specs.Marks.{begins_with_sign}
use Rattle.c_parser_expressions.specs.Steps.{◌>>=◌, with_front, all_of, the_sign, the_name}
use Rattle.c_parser_expressions.specs.Expressions.{type_base, NoInt, stars, EndsType}
use Rattle.c_parser_expressions.specs.ExpressionParser.{the_base, the_stars}
use Rattle.c_parser_declarations.specs.Declarations.{NoBracket, bounds, initialiser_or_none, start_rule, starts_end, declared_variables}
use Rattle.c_parser_declarations.specs.DeclarationParser.{the_bounds, initialised_by, start_by, start_step, more_starts_by}
use Rattle.c_parser_statements.specs.Statements.{AreEntries, entries_end}
use Rattle.c_parser_statements.specs.StatementParser.{entries_by, statements_below}
use Rattle.c_parser_items.specs.Items.{IsItem, item}
use Rattle.c_parser_items.specs.ItemParts.{body_or_semicolon, Ending, Call, More, ending_kinds, EndingIs, item_ending, Tail, item_tail}
use Rattle.c_parser_declarations.specs.Parts.{AreMemberLines, struct_member_lines, AreParams, params}
use Rattle.c_parser_items.specs.ItemParser.{struct_by, body_by, Head, first_start, function_by, globals_by, headed_by, head_by, declared_by, item_of, item_by}
use Rattle.c_parser_declarations.specs.PartParser.{lines_by, params_by}
use Rattle.c_parser_expressions.proofs.Heads.{sign-head, same-sign, same-name, stands-sign, sign-stands}
use Rattle.c_parser_expressions.proofs.Laws.{Leads, leads-here, leads-trans, leads-wrap, seq-leads, same-rest, bind, part, finish}
use Rattle.c_parser_expressions.proofs.Tokens.{token-found, sign-parses, name-parses}
use Rattle.c_parser_expressions.proofs.TypeNames.{base-parses, stars-found}
use Rattle.c_parser_declarations.proofs.Lists.{commas-follow, commas-closing, list-behind, put-list}
use Rattle.c_parser_declarations.proofs.Declarators.{bounds-parses, length-stars, named, declarator-leads}
use Rattle.c_parser_declarations.proofs.Initials.{ReadsAssignments, ReadsInner, twice, initialised-parses}
use Rattle.c_parser_declarations.proofs.Declaring.{initial-is, starts-each, start-follow, start_tree, start-leads, start-parses, variables-leads, declaration-leads}
use Rattle.c_parser_statements.proofs.Conditions.{ReadsWhole}
use Rattle.c_parser_statements.proofs.BlockEntries.{entries-parses}
use Rattle.c_parser_statements.proofs.StatementParses.{below-parse}
use Rattle.c_parser_declarations.proofs.MemberLines.{lines-parses}
use Rattle.c_parser_declarations.proofs.ParamParses.{sign-no_name}
use Rattle.c_parser_declarations.proofs.ParamLists.{params-parses, assoc}

-- a body, or a semicolon

none-only : (d at last : ℕ) (ks k : Kinds) (o : Option EntryList) → sign_at ks ≡ Some sign_is.Semicolon → SameUpTo last at ks (body_kinds o ++ k) → o ≡ None
none-only d at last ks k None h same = refl
none-only d at last ks k (Some xs) h same = absurd (let e = same-sign last at ks _ sign_is.LeftBrace same in let f : Some sign_is.Semicolon ≡ Some sign_is.LeftBrace = sym h ∙ e in cc)

some-back : (d at last : ℕ) (ks k : Kinds) (o : Option EntryList) → (sign_at ks ≡ Some sign_is.Semicolon → ⊥) → (body_or_semicolon d).Is at o → SameUpTo last at ks (body_kinds o ++ k) → (xs : EntryList) × (o ≡ Some xs) × AreEntries d (at + 1) xs
some-back d at last ks k None other is same = absurd (other (same-sign last at ks k sign_is.Semicolon same))
some-back d at last ks k (Some xs) other is same = (xs, refl, is)

body-leads : (d : ℕ) (c : Cursor) → (sign_at c.rest ≡ Some sign_is.Semicolon → ⊥) → Leads (body_or_semicolon d) (sequence_rule (sign_rule sign_is.LeftBrace) (λ u. entries_end d)) c c (λ p. Some p.1)
body-leads d c other = leads-here (body_or_semicolon d) (sequence_rule (sign_rule sign_is.LeftBrace) (λ u. entries_end d)) c (λ p. Some p.1) (λ p is. is.1) (λ p. refl)
    (λ o k last is ends le same. (let b = some-back d c.at last c.rest k o other is same in ((tt, b.0), b.1, (tt, b.2), record {})))

body-parses : ReadsWhole → ReadsAssignments → ReadsInner → (d : ℕ) (c : Cursor) → Outcome (body_or_semicolon d) c (body_by d c)
unfolding body_by
body-parses whole assigns inside d c = elim (cases_Bool (begins_with_sign sign_is.Semicolon c.rest)) [
  | inl t ↦
      (let h = stands-sign sign_is.Semicolon c.rest (omega arith) t in
      rw t (token-found (body_or_semicolon d) c (kind.Punctuator sign_is.Semicolon) None tt refl (sign-head c.rest sign_is.Semicolon h) (λ o k last is ends le same. none-only d c.at last c.rest k o h same)))
  | inr f ↦
      rw f (part (body_or_semicolon d) (sign_rule sign_is.LeftBrace) (λ u. entries_end d) c c (λ p. Some p.1) (the_sign sign_is.LeftBrace c) (λ y. entries_by d (statements_below d) y.1 >>= (λ x. Ok (Some x.0, x.1)))
      (λ at v y k v_is y_is ends. record {}) (body-leads d c (λ h. let t = sign-stands sign_is.Semicolon c.rest h in cc)) (sign-parses sign_is.LeftBrace c (omega arith))
      (λ u to found l. finish (body_or_semicolon d) (entries_end d) c to Some (entries_by d (statements_below d) to) l (entries-parses assigns inside d (statements_below d) (below-parse whole assigns inside d).reads to)))
]

-- the ending of a head

more-unlike : (last at : ℕ) (ks k : Kinds) (bs : List Bound) (o : Option InitialTree) (xs : List StartTree) → sign_at ks ≡ Some sign_is.LeftParen → SameUpTo last at ks (ending_kinds (More bs o xs) ++ k) → ⊥
more-unlike last at ks k [] None [] h same = let e : Some sign_is.LeftParen ≡ Some sign_is.Semicolon = sym h ∙ same-sign last at ks _ sign_is.Semicolon same in cc
more-unlike last at ks k [] None (x ∷ xs) h same = let e : Some sign_is.LeftParen ≡ Some sign_is.Comma = sym h ∙ same-sign last at ks _ sign_is.Comma same in cc
more-unlike last at ks k [] (Some v) xs h same = let e : Some sign_is.LeftParen ≡ Some sign_is.Equal = sym h ∙ same-sign last at ks _ sign_is.Equal same in cc
more-unlike last at ks k (b ∷ bs) o xs h same = let e : Some sign_is.LeftParen ≡ Some sign_is.LeftBracket = sym h ∙ same-sign last at ks _ sign_is.LeftBracket same in cc

call-back : (d n at last : ℕ) (ks k : Kinds) (x : Ending) → sign_at ks ≡ Some sign_is.LeftParen → EndingIs d n at x → SameUpTo last at ks (ending_kinds x ++ k) → (p : Params × Option EntryList) × (x ≡ Call p.0 p.1) × (sequence_rule (params d) (λ ps. body_or_semicolon d)).Is (at + 1) p
call-back d n at last ks k (Call ps o) h is same = ((ps, o), refl, (is.0, is.1))
call-back d n at last ks k (More bs o xs) h is same = absurd (more-unlike last at ks k bs o xs h same)

call-leads : (d n : ℕ) (c : Cursor) → sign_at c.rest ≡ Some sign_is.LeftParen → Leads (item_ending d n) (sequence_rule (params d) (λ ps. body_or_semicolon d)) c (next_cursor c) (λ p. Call p.0 p.1)
call-leads d n c h = record {
  front = a_sign sign_is.LeftParen;
  whole = sign-head c.rest sign_is.LeftParen h;
  moved = refl;
  build = λ p is. (is.0, is.1);
  spelled = λ p. refl;
  back = λ x k last is ends le same. (let b = call-back d n c.at last c.rest k x h is same in (b.0, b.1, b.2, record {}));
}

abbrev MoreParts : Type 0
MoreParts = List Bound × (Option InitialTree × List StartTree)

abbrev more_parts : (d n : ℕ) → Rule MoreParts
more_parts d n = sequence_rule (bounds (d - n)) (λ b. sequence_rule (initialiser_or_none (d - 1)) (λ o. starts_end 1 d))

more-back : (d n at last : ℕ) (ks k : Kinds) (x : Ending) → (sign_at ks ≡ Some sign_is.LeftParen → ⊥) → EndingIs d n at x → SameUpTo last at ks (ending_kinds x ++ k) → (p : MoreParts) × (x ≡ More p.0 p.1.0 p.1.1) × (more_parts d n).Is at p
more-back d n at last ks k (Call ps o) other is same = absurd (other (same-sign last at ks _ sign_is.LeftParen same))
more-back d n at last ks k (More bs o xs) other is same = ((bs, (o, xs)), refl, is)

more-leads : (d n : ℕ) (c : Cursor) → (sign_at c.rest ≡ Some sign_is.LeftParen → ⊥) → Leads (item_ending d n) (more_parts d n) c c (λ p. More p.0 p.1.0 p.1.1)
more-leads d n c other = leads-here (item_ending d n) (more_parts d n) c (λ p. More p.0 p.1.0 p.1.1) (λ p is. is) (λ p. refl)
    (λ x k last is ends le same. (let b = more-back d n c.at last c.rest k x other is same in (b.0, b.1, b.2, record {})))

bounds-follow : (d : ℕ) (o : Option InitialTree) (xs : List StartTree) (k : Kinds) → NoBracket (((initialiser_or_none (d - 1)).spell o ++ (after_commas start_kinds xs ++ a_sign sign_is.Semicolon)) ++ k)
bounds-follow d o xs k =
    subst NoBracket (sym (append_assoc ((initialiser_or_none (d - 1)).spell o) (after_commas start_kinds xs ++ a_sign sign_is.Semicolon) k))
    (start-follow (d - 1) o ((after_commas start_kinds xs ++ a_sign sign_is.Semicolon) ++ k) (commas-follow (start_rule 1 d) sign_is.Semicolon xs k))

-- an item from its base and its tail

abbrev item_with : (token first : ℕ) → Base → Tail → ItemTree
item_with token first b (n, (x, Call ps o)) = i.Function token b n x ps o
item_with token first b (n, (x, More bs o xs)) =
    i.Declaration (record { token = token; base = b; starts = record { token = first; declarator = record { token = first; stars = n; name_token = first + n; name = x; bounds = bs }; initial = o } ∷ xs })

tail-spelled : (d token first : ℕ) (b : Base) (n : ℕ) (x : List ℕ) (e : Ending) → item_kinds (item_with token first b (n, (x, e))) ≡ base_kinds b ++ (item_tail d).spell (n, (x, e))
tail-spelled d token first b n x (Call ps o) =
    append_assoc ((base_kinds b ++ star_kinds n) ++ a_name x) (parenthesized_kinds (params_kinds ps)) (body_kinds o)
    ∙ append_assoc (base_kinds b ++ star_kinds n) (a_name x) (parenthesized_kinds (params_kinds ps) ++ body_kinds o)
    ∙ append_assoc (base_kinds b) (star_kinds n) (a_name x ++ (parenthesized_kinds (params_kinds ps) ++ body_kinds o))
tail-spelled d token first b n x (More bs o xs) =
    let flat = flat_map bound_kinds bs in
    let init = (initialiser_or_none (d - 1)).spell o in
    let more = after_commas start_kinds xs in
    let declared = (star_kinds n ++ a_name x) ++ flat in
    append_assoc (base_kinds b) ((declared ++ init) ++ more) (a_sign sign_is.Semicolon)
    ∙ ap (λ (v : Kinds). base_kinds b ++ v)
    (append_assoc (declared ++ init) more (a_sign sign_is.Semicolon)
    ∙ append_assoc declared init (more ++ a_sign sign_is.Semicolon)
    ∙ append_assoc (star_kinds n ++ a_name x) flat (init ++ (more ++ a_sign sign_is.Semicolon))
    ∙ append_assoc (star_kinds n) (a_name x) (flat ++ (init ++ (more ++ a_sign sign_is.Semicolon))))

opt-entries-shaped : (d at : ℕ) (o : Option EntryList) → IfSome o (AreEntries d at) → IfSome o ShapedEntries
opt-entries-shaped d at None is = tt
opt-entries-shaped d at (Some xs) is = is.shaped

opt-entries-nests : (d at : ℕ) (o : Option EntryList) → IfSome o (AreEntries d at) → optional_nesting entries_nesting o ≤ d
opt-entries-nests d at None is = omega arith
opt-entries-nests d at (Some xs) is = is.nests

opt-entries-placed : (d at : ℕ) (o : Option EntryList) → IfSome o (AreEntries d at) → IfSome o (EntriesAt at)
opt-entries-placed d at None is = tt
opt-entries-placed d at (Some xs) is = is.placed

opt-entries-are : (d at : ℕ) (o : Option EntryList) → IfSome o ShapedEntries → optional_nesting entries_nesting o ≤ d → IfSome o (EntriesAt at) → IfSome o (AreEntries d at)
opt-entries-are d at None shaped nests placed = tt
opt-entries-are d at (Some xs) shaped nests placed = record { shaped = shaped; nests = nests; placed = placed }

abbrev TailIs : (d at : ℕ) → Tail → Type 0
TailIs d at t = (item_tail d).Is at t

function-is : (d at first : ℕ) (b : Base) (n : ℕ) (x : List ℕ) (ps : Params) (o : Option EntryList) → BaseAt at b → first ≡ at + length (base_kinds b) → TailIs d first (n, (x, Call ps o)) → IsItem d at (i.Function at b n x ps o)
function-is d at first b n x ps o base_at e is =
    let few : n ≤ d = is.0 in
    let l = length-append (base_kinds b) (star_kinds n) in
    let lp = length-append (params_kinds ps) (a_sign sign_is.RightParen) in
    let ps_is = is.1.1.0 in
    let o_is = is.1.1.1 in
    let n1 = ps_is.nests in
    let n2 = opt-entries-nests d _ o o_is in
    let at_ps : first + length (star_kinds n) + 1 + 1 ≡ at + length (type_kinds b n) + 2 = omega arith in
    let at_o : first + length (star_kinds n) + 1 + 1 + length (params_kinds ps ++ a_sign sign_is.RightParen) + 1 ≡ at + length (type_kinds b n) + 2 + length (params_kinds ps) + 2 = omega arith in
    record {
      shaped = (ps_is.shaped, opt-entries-shaped d _ o o_is);
      nests = omega arith;
      placed = (refl, base_at, subst (λ (m : ℕ). ParamsAt m ps) at_ps ps_is.placed, subst (λ (m : ℕ). IfSome o (EntriesAt m)) at_o (opt-entries-placed d _ o o_is));
    }

globals-are : (d : ℕ) (c to : Cursor) (b : Base) (n : ℕ) (x : List ℕ) (bs : List Bound) (o : Option InitialTree) (xs : List StartTree) → 1 ≤ d → BaseAt c.at b → to.at ≡ c.at + length (base_kinds b)
    → TailIs d to.at (n, (x, More bs o xs)) → IsItem d c.at (item_with c.at to.at b (n, (x, More bs o xs)))
globals-are d c to b n x bs o xs positive base_at e is =
    let v = named to.at n (to.at + n) (x, bs) in
    let v_is = (declarator-leads d to).build (n, (x, bs)) (is.0, (tt, is.1.1.0)) in
    let l1 = length-append (star_kinds n ++ a_name x) (flat_map bound_kinds bs) in
    let l2 = length-append (star_kinds n) (a_name x) in
    let at_o : to.at + length (star_kinds n) + 1 + length (flat_map bound_kinds bs) ≡ to.at + length (declarator_kinds v) = omega arith in
    let o_is : (initialiser_or_none (d - 1)).Is (to.at + length (declarator_kinds v)) o = subst (λ (m : ℕ). (initialiser_or_none (d - 1)).Is m o) at_o is.1.1.1.0 in
    let first = start_tree to.at (v, o) in
    let first_is = (start-leads 1 d to positive).build (v, o) (v_is, o_is) in
    let l3 = length-append (declarator_kinds v) ((initialiser_or_none (d - 1)).spell o) in
    let at_xs : to.at + length (star_kinds n) + 1 + length (flat_map bound_kinds bs) + length ((initialiser_or_none (d - 1)).spell o) ≡ to.at + length (start_kinds first) = omega arith in
    let all = (variables-leads 1 d to).build (first, xs) (first_is, subst (λ (m : ℕ). (starts_end 1 d).Is m xs) at_xs is.1.1.1.1) in
    let whole = (declaration-leads 1 d c).build (b, first ∷ xs) (base_at, subst (λ (m : ℕ). (declared_variables 1 d).Is m (first ∷ xs)) e all) in
    record { shaped = whole.shaped; nests = whole.nests; placed = whole.placed }

tail-is : (d : ℕ) (c to : Cursor) (b : Base) (n : ℕ) (x : List ℕ) (e : Ending) → 1 ≤ d → BaseAt c.at b → to.at ≡ c.at + length (base_kinds b) → TailIs d to.at (n, (x, e)) → IsItem d c.at (item_with c.at to.at b (n, (x, e)))
tail-is d c to b n x (Call ps o) positive base_at at is = function-is d c.at to.at b n x ps o base_at at is
tail-is d c to b n x (More bs o xs) positive base_at at is = globals-are d c to b n x bs o xs positive base_at at is

-- what an item is made of

data Split (d at : ℕ) (x : ItemTree) : Type 0 where
  lined : (tag : List ℕ) (ms : List Members) → x ≡ i.Struct at tag ms → AreMemberLines d (at + 3) ms → Split d at x
  tailed : (b : Base) (t : Tail) → BaseAt at b → x ≡ item_with at (at + length (base_kinds b)) b t → TailIs d (at + length (base_kinds b)) t → Split d at x

declaration-split : (d at token : ℕ) (b : Base) (xs : List StartTree) → 1 ≤ d → IsItem d at (i.Declaration (record { token = token; base = b; starts = xs })) → Split d at (i.Declaration (record { token = token; base = b; starts = xs }))
declaration-split d at token b [] positive is = absurd is.shaped.0
declaration-split d at token b (first ∷ xs) positive is =
    let to : ℕ = at + length (base_kinds b) in
    let nests = is.nests in
    let v = first.declarator in
    let placed = is.placed.2.0 in
    let n : v.stars ≤ d = omega arith in
    let few : length v.bounds ≤ d - v.stars = omega arith in
    let l1 = length-append (star_kinds v.stars ++ a_name v.name) (flat_map bound_kinds v.bounds) in
    let l2 = length-append (star_kinds v.stars) (a_name v.name) in
    let l3 = length-append (declarator_kinds v) ((initialiser_or_none (d - 1)).spell first.initial) in
    let at_o : to + length (declarator_kinds v) ≡ to + length (star_kinds v.stars) + 1 + length (flat_map bound_kinds v.bounds) = omega arith in
    let at_xs : to + length (start_kinds first) ≡ to + length (star_kinds v.stars) + 1 + length (flat_map bound_kinds v.bounds) + length ((initialiser_or_none (d - 1)).spell first.initial) = omega arith in
    let o_is : (initialiser_or_none (d - 1)).Is (to + length (declarator_kinds v)) first.initial = initial-is 1 d _ first.initial positive is.shaped.1.0 (omega arith) placed.2 in
    let xs_are : (starts_end 1 d).Is (to + length (start_kinds first)) xs = starts-each 1 d (to + length (start_kinds first)) xs is.shaped.1.1 (omega arith) is.placed.2.1 in
    tailed b (v.stars, (v.name, More v.bounds first.initial xs)) is.placed.1
    (λ j. i.Declaration (record {
      token = is.placed.0 j;
      base = b;
      starts = record { token = placed.0 j; declarator = record { token = placed.1.0 j; stars = v.stars; name_token = placed.1.1 j; name = v.name; bounds = v.bounds }; initial = first.initial } ∷ xs;
    }))
    (n, (tt, (few, (subst (λ (m : ℕ). (initialiser_or_none (d - 1)).Is m first.initial) at_o o_is, subst (λ (m : ℕ). (starts_end 1 d).Is m xs) at_xs xs_are))))

function-split : (d at token : ℕ) (b : Base) (n : ℕ) (x : List ℕ) (ps : Params) (o : Option EntryList) → IsItem d at (i.Function token b n x ps o) → Split d at (i.Function token b n x ps o)
function-split d at token b n x ps o is =
    let to : ℕ = at + length (base_kinds b) in
    let nests = is.nests in
    let few : n ≤ d = omega arith in
    let l = length-append (base_kinds b) (star_kinds n) in
    let lp = length-append (params_kinds ps) (a_sign sign_is.RightParen) in
    let at_ps : at + length (type_kinds b n) + 2 ≡ to + length (star_kinds n) + 1 + 1 = omega arith in
    let at_o : at + length (type_kinds b n) + 2 + length (params_kinds ps) + 2 ≡ to + length (star_kinds n) + 1 + 1 + length (params_kinds ps ++ a_sign sign_is.RightParen) + 1 = omega arith in
    let ps_are : AreParams d (to + length (star_kinds n) + 1 + 1) ps = record { shaped = is.shaped.0; nests = omega arith; placed = subst (λ (m : ℕ). ParamsAt m ps) at_ps is.placed.2 } in
    let o_are = opt-entries-are d (to + length (star_kinds n) + 1 + 1 + length (params_kinds ps ++ a_sign sign_is.RightParen) + 1) o is.shaped.1 (omega arith) (subst (λ (m : ℕ). IfSome o (EntriesAt m)) at_o is.placed.3) in
    tailed b (n, (x, Call ps o)) is.placed.1 (ap (λ (t : ℕ). i.Function t b n x ps o) is.placed.0) (few, (tt, (ps_are, o_are)))

item-split : (d at : ℕ) (x : ItemTree) → 1 ≤ d → IsItem d at x → Split d at x
item-split d at (i.Struct token tag ms) positive is =
    lined tag ms (ap (λ (t : ℕ). i.Struct t tag ms) is.placed.0) (record { some = is.shaped.0; shaped = is.shaped.1; nests = is.nests; placed = is.placed.1 })
item-split d at (i.Function token b n x ps o) positive is = function-split d at token b n x ps o is
item-split d at (i.Declaration v) positive is = declaration-split d at v.token v.base v.starts positive is

-- behind the base

-- what is behind the base of an item, and the same behind what was read
pub record Behind (b other : Base) (c to : Cursor) (k : Kinds) (last : ℕ) : Type 0 where
  pub base_is : other ≡ b
  pub same : SameUpTo last to.at to.rest k

behind-base : (c to : Cursor) (b other : Base) (k : Kinds) (last : ℕ) → Found type_base c b to → BaseAt c.at other → NoInt k → to.at ≤ last → SameUpTo last c.at c.rest (base_kinds other ++ k) → Behind b other c to k last
behind-base c to b other k last f at no_int le same =
    let moved = f.moved in
    let e : other ≡ b = f.only other k last at no_int le same in
    let s1 : SameUpTo last c.at (base_kinds b ++ to.rest) (base_kinds other ++ k) = subst (λ (v : Kinds). SameUpTo last c.at v (base_kinds other ++ k)) f.spelled same in
    let s2 : SameUpTo last c.at (base_kinds b ++ to.rest) (base_kinds b ++ k) = subst (λ (v : Base). SameUpTo last c.at (base_kinds b ++ to.rest) (base_kinds v ++ k)) e s1 in
    record { base_is = e; same = subst (λ (n : ℕ). SameUpTo last n to.rest k) (sym f.moved) (same-rest last c.at (base_kinds b) to.rest k (omega arith) s2) }

no-int-tail : (n : ℕ) (x : List ℕ) (more k : Kinds) → NoInt ((star_kinds n ++ (a_name x ++ more)) ++ k)
no-int-tail zero x more k = record { not = λ t. cc }
no-int-tail (suc n) x more k = record { not = λ t. cc }

brace-no_tail : (last at : ℕ) (ks : Kinds) (n : ℕ) (x : List ℕ) (more k : Kinds) → sign_at ks ≡ Some sign_is.LeftBrace → SameUpTo last at ks ((star_kinds n ++ (a_name x ++ more)) ++ k) → ⊥
brace-no_tail last at ks zero x more k h same = sign-no_name ks sign_is.LeftBrace x h (same-name last at ks _ x same)
brace-no_tail last at ks (suc n) x more k h same = let e : Some sign_is.LeftBrace ≡ Some sign_is.Star = sym h ∙ same-sign last at ks _ sign_is.Star same in cc

abbrev lines_kinds : List Members → Kinds
lines_kinds ms = (flat_map members_kinds ms ++ a_sign sign_is.RightBrace) ++ a_sign sign_is.Semicolon

no-int-brace : (ms : List Members) (k : Kinds) → NoInt ((a_sign sign_is.LeftBrace ++ lines_kinds ms) ++ k)
no-int-brace ms k = record { not = λ t. cc }

-- not a struct with a brace
abbrev NoStruct : Base → Cursor → ℕ → Type 0
NoStruct b to at = (tag : List ℕ) → b ≡ base_is.Struct at tag → sign_at to.rest ≡ Some sign_is.LeftBrace → ⊥

tail-of : (d : ℕ) (c to : Cursor) (b : Base) (x : ItemTree) (k : Kinds) (last : ℕ) → Found type_base c b to → NoStruct b to c.at → Split d c.at x → to.at ≤ last → SameUpTo last c.at c.rest (item_kinds x ++ k)
    → (t : Tail) × (x ≡ item_with c.at to.at b t) × TailIs d to.at t
tail-of d c to b x k last f not_struct (lined tag ms e are) le same =
    let s : SameUpTo last c.at c.rest (base_kinds (base_is.Struct c.at tag) ++ ((a_sign sign_is.LeftBrace ++ lines_kinds ms) ++ k)) = subst (λ (v : ItemTree). SameUpTo last c.at c.rest (item_kinds v ++ k)) e same in
    let r = behind-base c to b (base_is.Struct c.at tag) ((a_sign sign_is.LeftBrace ++ lines_kinds ms) ++ k) last f refl (no-int-brace ms k) le s in
    absurd (not_struct tag (sym r.base_is) (same-sign last to.at to.rest _ sign_is.LeftBrace r.same))
tail-of d c to b x k last f not_struct (tailed other t at e is) le same =
    let first = c.at + length (base_kinds other) in
    let s1 : SameUpTo last c.at c.rest (item_kinds (item_with c.at first other t) ++ k) = subst (λ (v : ItemTree). SameUpTo last c.at c.rest (item_kinds v ++ k)) e same in
    let s2 : SameUpTo last c.at c.rest (base_kinds other ++ ((item_tail d).spell t ++ k)) =
    subst (λ (v : Kinds). SameUpTo last c.at c.rest v) (ap (λ (v : Kinds). v ++ k) (tail-spelled d c.at first other t.0 t.1.0 t.1.1) ∙ append_assoc (base_kinds other) ((item_tail d).spell t) k) s1 in
    let r = behind-base c to b other ((item_tail d).spell t ++ k) last f at (no-int-tail t.0 t.1.0 (ending_kinds t.1.1) k) le s2 in
    let at_first : first ≡ to.at = ap (λ (v : Base). c.at + length (base_kinds v)) r.base_is ∙ sym f.moved in
    (t, e ∙ ap (λ (v : Base). item_with c.at first v t) r.base_is ∙ ap (λ (n : ℕ). item_with c.at n b t) at_first, subst (λ (n : ℕ). TailIs d n t) at_first is)

tail-leads : (d : ℕ) (c to : Cursor) (b : Base) → 1 ≤ d → Found type_base c b to → NoStruct b to c.at → Leads (item d) (item_tail d) c to (item_with c.at to.at b)
tail-leads d c to b positive f not_struct = record {
  front = base_kinds b;
  whole = f.spelled;
  moved = f.moved;
  build = λ t is. tail-is d c to b t.0 t.1.0 t.1.1 positive f.is f.moved is;
  spelled = λ t. tail-spelled d c.at to.at b t.0 t.1.0 t.1.1;
  back = λ x k last is ends le same. (let r = tail-of d c to b x k last f not_struct (item-split d c.at x positive is) le same in (r.0, r.1, r.2, record {}));
}

lines-of : (d : ℕ) (c to : Cursor) (at : ℕ) (tag : List ℕ) (x : ItemTree) (k : Kinds) (last : ℕ) → Found type_base c (base_is.Struct at tag) to → sign_at to.rest ≡ Some sign_is.LeftBrace → Split d c.at x → to.at ≤ last
    → SameUpTo last c.at c.rest (item_kinds x ++ k) → (ms : List Members) × (x ≡ i.Struct c.at tag ms) × AreMemberLines d (to.at + 1) ms
lines-of d c to at tag x k last f h (lined other ms e are) le same =
    let s : SameUpTo last c.at c.rest (base_kinds (base_is.Struct c.at other) ++ ((a_sign sign_is.LeftBrace ++ lines_kinds ms) ++ k)) = subst (λ (v : ItemTree). SameUpTo last c.at c.rest (item_kinds v ++ k)) e same in
    let r = behind-base c to (base_is.Struct at tag) (base_is.Struct c.at other) ((a_sign sign_is.LeftBrace ++ lines_kinds ms) ++ k) last f refl (no-int-brace ms k) le s in
    let b = r.base_is in
    let tag_is : other ≡ tag = cc in
    let moved = f.moved in
    let at_lines : c.at + 3 ≡ to.at + 1 = omega arith in
    (ms, e ∙ ap (λ (v : List ℕ). i.Struct c.at v ms) tag_is, subst (λ (n : ℕ). AreMemberLines d n ms) at_lines are)
lines-of d c to at tag x k last f h (tailed other t at_b e is) le same =
    let first = c.at + length (base_kinds other) in
    let s1 : SameUpTo last c.at c.rest (item_kinds (item_with c.at first other t) ++ k) = subst (λ (v : ItemTree). SameUpTo last c.at c.rest (item_kinds v ++ k)) e same in
    let s2 : SameUpTo last c.at c.rest (base_kinds other ++ ((item_tail d).spell t ++ k)) =
    subst (λ (v : Kinds). SameUpTo last c.at c.rest v) (ap (λ (v : Kinds). v ++ k) (tail-spelled d c.at first other t.0 t.1.0 t.1.1) ∙ append_assoc (base_kinds other) ((item_tail d).spell t) k) s1 in
    let r = behind-base c to (base_is.Struct at tag) other ((item_tail d).spell t ++ k) last f at_b (no-int-tail t.0 t.1.0 (ending_kinds t.1.1) k) le s2 in
    absurd (brace-no_tail last to.at to.rest t.0 t.1.0 (ending_kinds t.1.1) k h r.same)

struct-leads : (d : ℕ) (c to : Cursor) (at : ℕ) (tag : List ℕ) → 1 ≤ d → Found type_base c (base_is.Struct at tag) to → sign_at to.rest ≡ Some sign_is.LeftBrace
    → Leads (item d) (sequence_rule (struct_member_lines d) (λ ms. sign_rule sign_is.Semicolon)) c (next_cursor to) (λ p. i.Struct c.at tag p.0)
struct-leads d c to at tag positive f h =
    let moved = f.moved in
    record {
      front = base_kinds (base_is.Struct at tag) ++ a_sign sign_is.LeftBrace;
      whole = f.spelled ∙ ap (λ (v : Kinds). base_kinds (base_is.Struct at tag) ++ v) (sign-head to.rest sign_is.LeftBrace h);
      moved = omega arith;
      build = λ p is.
          (let are = is.0 in
          let at_lines : to.at + 1 ≡ c.at + 3 = omega arith in
          record { shaped = (are.some, are.shaped); nests = are.nests; placed = (refl, subst (λ (n : ℕ). EachAt MembersAt members_kinds 0 n p.0) at_lines are.placed) });
      spelled = λ p. refl;
      back = λ x k last is ends le same.
          (let r = lines-of d c to at tag x k last f h (item-split d c.at x positive is) (omega arith) same in ((r.0, tt), r.1, (r.2, tt), record {}));
    }

base-none : (d : ℕ) (c : Cursor) (last : ℕ) (x : ItemTree) (k : Kinds) → Fails type_base c last → Split d c.at x → SameUpTo last c.at c.rest (item_kinds x ++ k) → ⊥
base-none d c last x k f (lined tag ms e are) same =
    f.none (base_is.Struct c.at tag) ((a_sign sign_is.LeftBrace ++ lines_kinds ms) ++ k) refl (no-int-brace ms k) (subst (λ (v : ItemTree). SameUpTo last c.at c.rest (item_kinds v ++ k)) e same)
base-none d c last x k f (tailed other t at e is) same =
    let first = c.at + length (base_kinds other) in
    f.none other ((item_tail d).spell t ++ k) at (no-int-tail t.0 t.1.0 (ending_kinds t.1.1) k)
    (subst (λ (v : Kinds). SameUpTo last c.at c.rest v) (ap (λ (v : Kinds). v ++ k) (tail-spelled d c.at first other t.0 t.1.0 t.1.1) ∙ append_assoc (base_kinds other) ((item_tail d).spell t) k)
    (subst (λ (v : ItemTree). SameUpTo last c.at c.rest (item_kinds v ++ k)) e same))

base-fails : (d : ℕ) (c : Cursor) (last : ℕ) → 1 ≤ d → Fails type_base c last → Fails (item d) c last
base-fails d c last positive f = record { from = f.from; within = f.within; none = λ x k is ends same. base-none d c last x k f (item-split d c.at x positive is) same }

-- reading on

struct-parses : (d : ℕ) (c to : Cursor) (at : ℕ) (tag : List ℕ) → 1 ≤ d → Found type_base c (base_is.Struct at tag) to → sign_at to.rest ≡ Some sign_is.LeftBrace → Outcome (item d) c (struct_by d c.at tag (next_cursor to))
unfolding struct_by
struct-parses d c to at tag positive f h =
    part (item d) (struct_member_lines d) (λ ms. sign_rule sign_is.Semicolon) c (next_cursor to) (λ p. i.Struct c.at tag p.0) (lines_by d (next_cursor to)) (λ xs. the_sign sign_is.Semicolon xs.1 >>= (λ y. Ok (i.Struct c.at tag xs.0, y.1)))
    (λ at v y k v_is y_is ends. record {}) (struct-leads d c to at tag positive f h) (lines-parses d (next_cursor to))
    (λ ms mid found l. finish (item d) (sign_rule sign_is.Semicolon) c mid (λ u. i.Struct c.at tag ms) (the_sign sign_is.Semicolon mid) l (sign-parses sign_is.Semicolon mid (omega arith)))

abbrev head_of : (token first name_token : ℕ) → Base → ℕ → List ℕ → Head
head_of token first name_token b n x = record { token = token; base = b; first = first; stars = n; name_token = name_token; name = x }

-- the same with the index of the name told apart
abbrev item_named : (token first name_token : ℕ) → Base → (n : ℕ) → List ℕ × Ending → ItemTree
item_named token first name_token b n (x, Call ps o) = i.Function token b n x ps o
item_named token first name_token b n (x, More bs o xs) = i.Declaration (record { token = token; base = b; starts = first_start (head_of token first name_token b n x) bs o ∷ xs })

named-same : (token first name_token : ℕ) (b : Base) (n : ℕ) (p : List ℕ × Ending) → first + n ≡ name_token → item_with token first b (n, p) ≡ item_named token first name_token b n p
named-same token first name_token b n (x, Call ps o) e = refl
named-same token first name_token b n (x, More bs o xs) e = ap (λ (m : ℕ). i.Declaration (record { token = token; base = b; starts = first_start (head_of token first m b n x) bs o ∷ xs })) e

function-parses : ReadsWhole → ReadsAssignments → ReadsInner → (d : ℕ) (c mid : Cursor) (first name_token n : ℕ) (b : Base) (x : List ℕ) → Leads (item d) (item_ending d n) c mid (λ e. item_named c.at first name_token b n (x, e)) → sign_at mid.rest ≡ Some sign_is.LeftParen
    → Outcome (item d) c (function_by d (head_of c.at first name_token b n x) (next_cursor mid))
unfolding function_by
function-parses whole assigns inside d c mid first name_token n b x l h =
    part (item d) (params d) (λ ps. body_or_semicolon d) c (next_cursor mid) (λ p. item_named c.at first name_token b n (x, Call p.0 p.1)) (params_by d (next_cursor mid))
    (λ ps. body_by d ps.1 >>= (λ o. Ok (i.Function c.at b n x ps.0 o.0, o.1))) (λ at v y k v_is y_is ends. record {})
    (leads-trans (item d) (item_ending d n) (sequence_rule (params d) (λ ps. body_or_semicolon d)) c mid (next_cursor mid) (λ e. item_named c.at first name_token b n (x, e)) (λ p. Call p.0 p.1) l (call-leads d n mid h)) (params-parses d (next_cursor mid))
    (λ ps to found l2. finish (item d) (body_or_semicolon d) c to (λ o. i.Function c.at b n x ps o) (body_by d to) l2 (body-parses whole assigns inside d to))

thrice : {A X Y : Type 0} (r : Read (List A)) (s : Sign) (make : List A → X) (g : X → Y)
    → ◌≡◌ {A = Read Y} (◌>>=◌ {A = X × Cursor} {B = Y × Cursor} (◌>>=◌ {A = List A × Cursor} {B = X × Cursor} r (λ xs. ◌>>=◌ {A = Unit {0} × Cursor} {B = X × Cursor} (the_sign s xs.1) (λ y. Ok (make xs.0, y.1)))) (λ q. Ok (g q.0, q.1)))
    (◌>>=◌ {A = List A × Cursor} {B = Y × Cursor} r (λ xs. ◌>>=◌ {A = Unit {0} × Cursor} {B = Y × Cursor} (the_sign s xs.1) (λ y. Ok (g (make xs.0), y.1))))
thrice (Ok p) s make g = twice (the_sign s p.1) (λ u. make p.0) g
thrice (Err i) s make g = refl

globals-parse : ReadsAssignments → ReadsInner → (d : ℕ) (c mid : Cursor) (first name_token n : ℕ) (b : Base) (x : List ℕ) → 1 ≤ d → Leads (item d) (item_ending d n) c mid (λ e. item_named c.at first name_token b n (x, e))
    → (sign_at mid.rest ≡ Some sign_is.LeftParen → ⊥) → Outcome (item d) c (globals_by d (head_of c.at first name_token b n x) mid)
unfolding globals_by more_starts_by start_step
globals-parse assigns inside d c mid first name_token n b x positive l other =
    let h = head_of c.at first name_token b n x in
    let make : List StartTree → ItemTree = λ (xs : List StartTree). i.Declaration (record { token = c.at; base = b; starts = xs }) in
    part (item d) (bounds (d - n)) (λ bs. sequence_rule (initialiser_or_none (d - 1)) (λ o. starts_end 1 d)) c mid (λ p. item_named c.at first name_token b n (x, More p.0 p.1.0 p.1.1)) (the_bounds (d - n) mid)
    (λ bs. initialised_by (d - 1) bs.1 >>= (λ o. more_starts_by 1 d (first_start h bs.0 o.0) o.1 >>= (λ xs. Ok (make xs.0, xs.1))))
    (λ at v y k v_is y_is ends. bounds-follow d y.0 y.1 k)
    (leads-trans (item d) (item_ending d n) (more_parts d n) c mid mid (λ e. item_named c.at first name_token b n (x, e)) (λ p. More p.0 p.1.0 p.1.1) l (more-leads d n mid other)) (bounds-parses (d - n) mid)
    (λ bs to found l2. part (item d) (initialiser_or_none (d - 1)) (λ o. starts_end 1 d) c to (λ p. item_named c.at first name_token b n (x, More bs p.0 p.1)) (initialised_by (d - 1) to)
    (λ o. more_starts_by 1 d (first_start h bs o.0) o.1 >>= (λ xs. Ok (make xs.0, xs.1)))
    (λ at v y k v_is y_is ends. commas-follow (start_rule 1 d) sign_is.Semicolon y k) l2 (initialised-parses assigns inside (d - 1) to)
    (λ o end o_found l3. subst (λ (r : Read ItemTree). Outcome (item d) c r) (sym (thrice (with_front (first_start h bs o ∷ []) (all_of (start_step 1 d) end)) sign_is.Semicolon (λ xs. xs) make))
    (list-behind (item d) (starts_end 1 d) (start_step 1 d) c end (λ xs. item_named c.at first name_token b n (x, More bs o xs)) (λ y ys. y ∷ ys) (the_sign sign_is.Semicolon) (λ u. []) (λ xs u. make xs) (first_start h bs o)
    (commas-closing (start_rule 1 d) sign_is.Semicolon (start_by 1 d) (start_step 1 d) (omega arith) (λ e. cc) (λ at v k v_is ends. ends) (λ k. refl) (λ k. start-parses assigns inside 1 d positive k))
    l3 (λ xs u. ap (λ (ys : List StartTree). make (first_start h bs o ∷ ys)) (put-list xs)))))

headed-parses : ReadsWhole → ReadsAssignments → ReadsInner → (d : ℕ) (c mid : Cursor) (first name_token n : ℕ) (b : Base) (x : List ℕ) → 1 ≤ d → Leads (item d) (item_ending d n) c mid (λ e. item_named c.at first name_token b n (x, e))
    → Outcome (item d) c (headed_by d (head_of c.at first name_token b n x) mid)
unfolding headed_by
headed-parses whole assigns inside d c mid first name_token n b x positive l = elim (cases_Bool (begins_with_sign sign_is.LeftParen mid.rest)) [
  | inl t ↦ rw t (function-parses whole assigns inside d c mid first name_token n b x l (stands-sign sign_is.LeftParen mid.rest (omega arith) t))
  | inr f ↦ rw f (globals-parse assigns inside d c mid first name_token n b x positive l (λ h. let t = sign-stands sign_is.LeftParen mid.rest h in cc))
]

stars-follow : (n : ℕ) (p : List ℕ × Ending) (k : Kinds) → EndsType ((a_name p.0 ++ ending_kinds p.1) ++ k)
stars-follow n p k = record { no_star = record { not = λ e. cc }; no_int = record { not = λ e. cc } }

starred-parses : ReadsWhole → ReadsAssignments → ReadsInner → (d : ℕ) (c to : Cursor) (b : Base) (st : ℕ × Cursor) → 1 ≤ d → Leads (item d) (item_tail d) c to (item_with c.at to.at b) → Found (stars d) to st.0 st.1
    → Outcome (item d) c (head_by d c.at b to.at st >>= (λ h. headed_by d h.0 h.1))
unfolding head_by
starred-parses whole assigns inside d c to b st positive l found =
    let at_name : to.at + st.0 ≡ st.1.at = ap (λ (m : ℕ). to.at + m) (sym (length-stars st.0)) ∙ sym found.moved in
    let named_leads = leads-wrap (item d) (sequence_rule name_rule (λ x. item_ending d st.0)) c st.1 (λ p. item_with c.at to.at b (st.0, p)) (item_named c.at to.at st.1.at b st.0) (λ p. named-same c.at to.at st.1.at b st.0 p at_name)
    (leads-trans (item d) (item_tail d) (sequence_rule name_rule (λ x. item_ending d st.0)) c to st.1 (item_with c.at to.at b) (λ p. (st.0, p)) l
    (seq-leads (stars d) (λ n. sequence_rule name_rule (λ x. item_ending d n)) to st.1 st.0 (λ at v y k v_is y_is ends. stars-follow v y k) found)) in
    subst (λ (r : Read ItemTree). Outcome (item d) c r) (sym (assoc (the_name st.1) (λ x. Ok (head_of c.at to.at st.1.at b st.0 x.0, x.1)) (λ h. headed_by d h.0 h.1)))
    (part (item d) name_rule (λ x. item_ending d st.0) c st.1 (item_named c.at to.at st.1.at b st.0) (the_name st.1) (λ x. headed_by d (head_of c.at to.at st.1.at b st.0 x.0) x.1)
    (λ at v y k v_is y_is ends. record {}) named_leads (name-parses st.1)
    (λ x mid x_found l2. headed-parses whole assigns inside d c mid to.at st.1.at st.0 b x positive l2))

declared-parses : ReadsWhole → ReadsAssignments → ReadsInner → (d : ℕ) (c to : Cursor) (b : Base) → 1 ≤ d → Found type_base c b to → NoStruct b to c.at → Outcome (item d) c (declared_by d c.at b to)
unfolding declared_by
declared-parses whole assigns inside d c to b positive f not_struct =
    starred-parses whole assigns inside d c to b (the_stars d to) positive (tail-leads d c to b positive f not_struct) (stars-found d to)

of-parses : ReadsWhole → ReadsAssignments → ReadsInner → (d : ℕ) (c to : Cursor) (b : Base) → 1 ≤ d → Found type_base c b to → Outcome (item d) c (item_of d c.at b to)
of-parses whole assigns inside d c to (base_is.Struct at tag) positive f = elim (cases_Bool (begins_with_sign sign_is.LeftBrace to.rest)) [
  | inl t ↦ rw t (struct-parses d c to at tag positive f (stands-sign sign_is.LeftBrace to.rest (omega arith) t))
  | inr g ↦ rw g (declared-parses whole assigns inside d c to (base_is.Struct at tag) positive f (λ other e h. let t = sign-stands sign_is.LeftBrace to.rest h in cc))
]
of-parses whole assigns inside d c to (base_is.Void at) positive f = declared-parses whole assigns inside d c to (base_is.Void at) positive f (λ other e h. cc)
of-parses whole assigns inside d c to (base_is.Char at) positive f = declared-parses whole assigns inside d c to (base_is.Char at) positive f (λ other e h. cc)
of-parses whole assigns inside d c to (base_is.Int at) positive f = declared-parses whole assigns inside d c to (base_is.Int at) positive f (λ other e h. cc)
of-parses whole assigns inside d c to (base_is.Unsigned at j) positive f = declared-parses whole assigns inside d c to (base_is.Unsigned at j) positive f (λ other e h. cc)

pub item-reads : ReadsWhole → ReadsAssignments → ReadsInner → (d : ℕ) → 1 ≤ d → (c : Cursor) → Outcome (item d) c (item_by d c)
unfolding item_by
item-reads whole assigns inside d positive c =
    bind (item d) type_base c c (the_base c) (λ b. item_of d c.at b.0 b.1) (base-parses c) (λ b to found. of-parses whole assigns inside d c to b positive found) (λ last fails. base-fails d c last positive fails)
