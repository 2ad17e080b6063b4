-- Lines of members.
use Rattle.std.proofs.Common.{◌≡◌, ℕ, ◌+◌, ◌≤◌, true, false, List, [], ◌∷◌, ◌++◌, length, Some, Ok, refl, sym, ap, ◌∙◌, subst, append_assoc, length-append, arith}
use Rattle.std.specs.Prelude.{flat_map}
use Rattle.std.specs.List.{AllByRecursion}
use Rattle.c_syntax.specs.declared.token.Sign.TheVariants as sign_is
use Rattle.c_syntax.specs.declared.parts.Base.{Base}
use Rattle.c_syntax.specs.declared.parts.Declarator.{Declarator}
use Rattle.c_syntax.specs.declared.parts.Members.{Members}
use Rattle.c_syntax.specs.Words.{Kinds, a_sign, bound_kinds, base_kinds, declarator_kinds, members_kinds, with_commas, after_commas, deepest_nesting}
use Rattle.c_syntax.specs.Words.{declarator_nesting, members_nesting, ShapedMembers, EachAt, DeclaratorAt, MembersAt}
use Rattle.c_parser_expressions.specs.Reading.{Cursor, SameUpTo, Rule, Outcome, sequence_rule, sign_at}
use Rattle.c_parser_expressions.specs.Steps.{◌>>=◌, with_front, all_of, the_sign}
use Rattle.c_parser_declarations.specs.Lists.{EachBehindComma, EachInTurn, parts_in_turn}
use Rattle.c_parser_expressions.specs.Expressions.{type_base, NoInt}
use Rattle.c_parser_expressions.specs.ExpressionParser.{begins_type, the_base}
use Rattle.c_parser_declarations.specs.Declarations.{declarator}
use Rattle.c_parser_declarations.specs.DeclarationParser.{the_declarator}
use Rattle.c_parser_declarations.specs.Parts.{AreMembers, members, declarators_end, AreMemberLines, struct_member_lines}
use Rattle.c_parser_declarations.specs.PartParser.{declarator_step, members_by, members_step, lines_by}
use Rattle.c_parser_expressions.proofs.Heads.{sign-head}
use Rattle.c_parser_expressions.proofs.Laws.{Leads, leads-here, part}
use Rattle.c_parser_expressions.proofs.TypeNames.{base-parses, base-begins}
use Rattle.c_parser_declarations.proofs.Lists.{commas-follow, commas-closing, runs-closing, list-behind, put-list}
use Rattle.c_parser_declarations.proofs.Declarators.{declarator-parses}
use Rattle.c_parser_declarations.proofs.Declaring.{no-int, separates-bracket}

pub record AreBehind (d at : ℕ) (xs : List Declarator) : Type 0 where
  pub nests : deepest_nesting declarator_nesting xs ≤ d
  pub placed : EachAt DeclaratorAt declarator_kinds 1 (at + 1) xs

declarators-are : (d at : ℕ) (xs : List Declarator) → EachBehindComma (declarator d) at xs → AreBehind d at xs
declarators-are d at [] is = record { nests = omega arith; placed = tt }
declarators-are d at (x ∷ xs) is =
    let rest = declarators-are d (at + 1 + length (declarator_kinds x)) xs is.1 in
    let n1 = is.0.nests in
    let n2 = rest.nests in
    record { nests = omega arith; placed = (is.0.placed, rest.placed) }

declarators-each : (d at : ℕ) (xs : List Declarator) → deepest_nesting declarator_nesting xs ≤ d → EachAt DeclaratorAt declarator_kinds 1 (at + 1) xs
    → EachBehindComma (declarator d) at xs
declarators-each d at [] nests placed = tt
declarators-each d at (x ∷ xs) nests placed = (
  record { nests = omega arith; placed = placed.0 },
  declarators-each d (at + 1 + length (declarator_kinds x)) xs
      (omega arith) placed.1,
)

abbrev LineParts : Type 0
LineParts = Base × (Declarator × List Declarator)

abbrev line_of : ℕ → LineParts → Members
line_of token p = record { token = token; base = p.0; declarators = p.1.0 ∷ p.1.1 }

abbrev behind_base : (d : ℕ) → Rule (Declarator × List Declarator)
behind_base d = sequence_rule (declarator d) (λ x. declarators_end d)

members-back : (d at : ℕ) (token : ℕ) (b : Base) (xs : List Declarator) → AreMembers d at (record { token = token; base = b; declarators = xs })
    → (p : LineParts) × (◌≡◌ {A = Members} (record { token = token; base = b; declarators = xs }) (line_of at p)) × (sequence_rule type_base (λ b. behind_base d)).Is at p
members-back d at token b [] is = absurd is.shaped
members-back d at token b (x ∷ xs) is =
    let nests = is.nests in (
      (b, (x, xs)),
      (λ i. record { token = is.placed.0 i; base = b; declarators = x ∷ xs }),
      (
        is.placed.1,
        (
          record { nests = omega arith; placed = is.placed.2.0 },
          declarators-each d (at + length (base_kinds b) + length (declarator_kinds x)) xs
              (omega arith) is.placed.2.1,
        ),
      ),
    )

members-leads : (d : ℕ) (c : Cursor) → Leads (members d) (sequence_rule type_base (λ b. behind_base d)) c c (line_of c.at)
members-leads d c = leads-here (members d) (sequence_rule type_base (λ b. behind_base d)) c (line_of c.at)
    (λ p is.
    (let rest = declarators-are d (c.at + length (base_kinds p.0) + length (declarator_kinds p.1.0)) p.1.1 is.1.1 in
    let n1 = is.1.0.nests in
    let n2 = rest.nests in
    record { shaped = tt; nests = omega arith; placed = (refl, is.0, (is.1.0.placed, rest.placed)) }))
    (λ p. append_assoc (base_kinds p.0) (declarator_kinds p.1.0 ++ after_commas declarator_kinds p.1.1) (a_sign sign_is.Semicolon)
    ∙ ap (λ (v : Kinds). base_kinds p.0 ++ v) (append_assoc (declarator_kinds p.1.0) (after_commas declarator_kinds p.1.1) (a_sign sign_is.Semicolon)))
    (λ x k last is ends le same. (let b = members-back d c.at x.token x.base x.declarators is in (b.0, b.1, b.2, record {})))

line-follow : (d : ℕ) (x : Declarator) (xs : List Declarator) (k : Kinds) → NoInt ((behind_base d).spell (x, xs) ++ k)
line-follow d x xs k =
    subst NoInt (sym (append_assoc (declarator_kinds x) (after_commas declarator_kinds xs ++ a_sign sign_is.Semicolon) k))
    (no-int x.stars x.name (flat_map bound_kinds x.bounds) ((after_commas declarator_kinds xs ++ a_sign sign_is.Semicolon) ++ k))

pub members-parses : (d : ℕ) (c : Cursor) → Outcome (members d) c (members_by d c)
unfolding members_by declarator_step
members-parses d c =
    part (members d) type_base (λ b. behind_base d) c c (line_of c.at) (the_base c)
    (λ b. the_declarator d b.1 >>= (λ x. with_front (x.0 ∷ []) (all_of (declarator_step d) x.1) >>=
    (λ xs. the_sign sign_is.Semicolon xs.1 >>= (λ y. Ok (record { token = c.at; base = b.0; declarators = xs.0 }, y.1)))))
    (λ at v y k v_is y_is ends. line-follow d y.0 y.1 k) (members-leads d c) (base-parses c)
    (λ b to found l. part (members d) (declarator d) (λ x. declarators_end d) c to (λ p. line_of c.at (b, p)) (the_declarator d to)
    (λ x. with_front (x.0 ∷ []) (all_of (declarator_step d) x.1) >>= (λ xs. the_sign sign_is.Semicolon xs.1 >>=
    (λ y. Ok (record { token = c.at; base = b; declarators = xs.0 }, y.1))))
    (λ at v y k v_is y_is ends. separates-bracket _ (commas-follow (declarator d) sign_is.Semicolon y k)) l (declarator-parses d to)
    (λ x mid x_found l2. list-behind (members d) (declarators_end d) (declarator_step d) c mid (λ xs. line_of c.at (b, (x, xs))) (λ y ys. y ∷ ys)
    (the_sign sign_is.Semicolon) (λ u. []) (λ xs u. record { token = c.at; base = b; declarators = xs }) x
    (commas-closing (declarator d) sign_is.Semicolon (the_declarator d) (declarator_step d) (omega arith) (λ h. cc)
    (λ at v k v_is ends. separates-bracket k ends) (λ k. refl) (λ k. declarator-parses d k))
    l2 (λ xs u. ap (λ (ys : List Declarator). line_of c.at (b, (x, ys))) (put-list xs))))

-- the lines of a struct

line-split : (x : Members) (k : Kinds) → members_kinds x ++ k ≡ base_kinds x.base ++
    (with_commas declarator_kinds x.declarators ++ (a_sign sign_is.Semicolon ++ k))
line-split x k = append_assoc (base_kinds x.base ++ with_commas declarator_kinds x.declarators) (a_sign sign_is.Semicolon) k
    ∙ append_assoc (base_kinds x.base) (with_commas declarator_kinds x.declarators) (a_sign sign_is.Semicolon ++ k)

pub line-length : (x : Members) → 1 ≤ length (members_kinds x)
line-length x = omega (arith, length-append (base_kinds x.base ++ with_commas declarator_kinds x.declarators) (a_sign sign_is.Semicolon))

line-no_brace : (last at : ℕ) (ks : Kinds) (x : Members) (k : Kinds) → sign_at ks ≡ Some sign_is.RightBrace → SameUpTo last at ks (members_kinds x ++ k) → ⊥
line-no_brace last at ks x k h same =
    let type : begins_type ks ≡ true = base-begins last at ks (with_commas declarator_kinds x.declarators ++ (a_sign sign_is.Semicolon ++ k)) x.base
    (subst (λ (v : Kinds). SameUpTo last at ks v) (line-split x k) same) in
    let brace : begins_type ks ≡ false = ap begins_type (sign-head ks sign_is.RightBrace h) in
    cc

pub record AreMore (d at : ℕ) (xs : List Members) : Type 0 where
  pub shaped : AllByRecursion ShapedMembers xs
  pub nests : deepest_nesting members_nesting xs ≤ d
  pub placed : EachAt MembersAt members_kinds 0 at xs

lines-are : (d at : ℕ) (xs : List Members) → EachInTurn (members d) at xs → AreMore d at xs
lines-are d at [] is = record { shaped = tt; nests = omega arith; placed = tt }
lines-are d at (x ∷ xs) is =
    let rest = lines-are d (at + length (members_kinds x)) xs is.1 in
    let n1 = is.0.nests in
    let n2 = rest.nests in
    let at_is : at + length (members_kinds x) ≡ at + length (members_kinds x) + 0 = omega arith in
    record {
      shaped = (is.0.shaped, rest.shaped);
      nests = omega arith;
      placed =
          (is.0.placed, subst (λ (n : ℕ). EachAt MembersAt members_kinds 0 n xs) at_is rest.placed);
    }

lines-each : (d at : ℕ) (xs : List Members) → AllByRecursion ShapedMembers xs → deepest_nesting members_nesting xs ≤ d → EachAt MembersAt members_kinds 0 at xs
    → EachInTurn (members d) at xs
lines-each d at [] shaped nests placed = tt
lines-each d at (x ∷ xs) shaped nests placed =
    let at_is : at + length (members_kinds x) + 0 ≡ at + length (members_kinds x) = omega arith in (
      record { shaped = shaped.0; nests = omega arith; placed = placed.0 },
      lines-each d (at + length (members_kinds x)) xs shaped.1 (omega arith) (subst (λ (n : ℕ). EachAt MembersAt members_kinds 0 n xs) at_is placed.1),
    )

lines-back : (d at : ℕ) (xs : List Members) → AreMemberLines d at xs → (p : Members × List Members) × (xs ≡ p.0 ∷ p.1)
    × (sequence_rule (members d) (λ x. parts_in_turn (members d) sign_is.RightBrace)).Is at p
lines-back d at [] is = absurd is.some
lines-back d at (x ∷ xs) is =
    let each = lines-each d at (x ∷ xs) is.shaped is.nests is.placed in
    ((x, xs), refl, (each.0, each.1))

lines-leads : (d : ℕ) (c : Cursor) → Leads (struct_member_lines d) (sequence_rule (members d) (λ x. parts_in_turn (members d) sign_is.RightBrace)) c c (λ p. p.0 ∷ p.1)
lines-leads d c = leads-here (struct_member_lines d) (sequence_rule (members d) (λ x. parts_in_turn (members d) sign_is.RightBrace)) c (λ p. p.0 ∷ p.1)
    (λ p is. (let all = lines-are d c.at (p.0 ∷ p.1) (is.0, is.1) in record { some = tt; shaped = all.shaped; nests = all.nests; placed = all.placed }))
    (λ p. append_assoc (members_kinds p.0) (flat_map members_kinds p.1) (a_sign sign_is.RightBrace))
    (λ xs k last is ends le same. (let b = lines-back d c.at xs is in (b.0, b.1, b.2, record {})))

pub lines-parses : (d : ℕ) (c : Cursor) → Outcome (struct_member_lines d) c (lines_by d c)
unfolding lines_by members_step
lines-parses d c =
    part (struct_member_lines d) (members d) (λ x. parts_in_turn (members d) sign_is.RightBrace) c c (λ p. p.0 ∷ p.1) (members_by d c)
    (λ x. with_front (x.0 ∷ []) (all_of (members_step d) x.1) >>= (λ xs. the_sign sign_is.RightBrace xs.1 >>= (λ y. Ok (xs.0, y.1))))
    (λ at v y k v_is y_is ends. record {}) (lines-leads d c) (members-parses d c)
    (λ x to found l. list-behind (struct_member_lines d) (parts_in_turn (members d) sign_is.RightBrace) (members_step d) c to (λ xs. x ∷ xs) (λ y ys. y ∷ ys)
    (the_sign sign_is.RightBrace) (λ u. []) (λ xs u. xs) x
    (runs-closing (members d) sign_is.RightBrace (members_by d) (members_step d) (omega arith) (λ v k. record {}) (λ at v is. line-length v)
    (λ last at ks v k is h same. line-no_brace last at ks v k h same) (λ k. refl) (λ k. members-parses d k))
    l (λ xs u. ap (λ ys. x ∷ ys) (put-list xs)))
