-- Declarations.
use Rattle.std.proofs.Common.{◌≡◌, ℕ, zero, suc, ◌+◌, ◌-◌, ◌≤◌, List, [], ◌∷◌, ◌++◌, length, Option, Some, None, Ok, refl, sym, ap, ◌∙◌, subst, append_assoc, arith}
use Rattle.std.specs.Prelude.{IfSome, flat_map}
use Rattle.std.specs.List.{AllByRecursion}
use Rattle.c_syntax.specs.declared.token.Sign.TheVariants as sign_is
use Rattle.c_syntax.specs.declared.parts.Base.{Base}
use Rattle.c_syntax.specs.declared.parts.Declarator.{Declarator}
use Rattle.c_syntax.specs.Words.{InitialTree, StartTree, DeclarationTree, Kinds, a_sign, a_name, base_kinds, bound_kinds, star_kinds, declarator_kinds}
use Rattle.c_syntax.specs.Words.{start_kinds, with_commas, after_commas, optional_nesting, deepest_nesting, initial_nesting, start_nesting, ShapedInitial, ShapedStart, EachAt}
use Rattle.c_syntax.specs.Words.{InitialAt, StartAt}
use Rattle.c_parser_expressions.specs.Reading.{Cursor, Outcome, sequence_rule}
use Rattle.c_parser_expressions.specs.Steps.{◌>>=◌, with_front, all_of, the_sign}
use Rattle.c_parser_declarations.specs.Lists.{Separates, comma, closed, EachBehindComma}
use Rattle.c_parser_expressions.specs.Expressions.{type_base, NoInt}
use Rattle.c_parser_expressions.specs.ExpressionParser.{the_base}
use Rattle.c_parser_declarations.specs.Declarations.{NoBracket, declarator, IsInitial, initialiser_or_none, start_rule, starts_end, AreVariables, declared_variables, declaration}
use Rattle.c_parser_declarations.specs.DeclarationParser.{the_declarator, initialised_by, start_by, start_step, more_starts_by, starts_by, declaration_by}
use Rattle.c_parser_expressions.proofs.Laws.{Leads, leads-here, part, finish}
use Rattle.c_parser_expressions.proofs.TypeNames.{base-parses}
use Rattle.c_parser_declarations.proofs.Lists.{commas-follow, commas-closing, list-behind, put-list}
use Rattle.c_parser_declarations.proofs.Declarators.{declarator-parses}
use Rattle.c_parser_declarations.proofs.Initials.{ReadsAssignments, ReadsInner, initialised-parses}

-- a declared variable

pub separates-bracket : (k : Kinds) → Separates sign_is.Semicolon k → NoBracket k
separates-bracket k (comma h) = record { not = λ t. (let u : Some sign_is.Comma ≡ Some sign_is.LeftBracket = sym h ∙ t in cc) }
separates-bracket k (closed h) = record { not = λ t. (let u : Some sign_is.Semicolon ≡ Some sign_is.LeftBracket = sym h ∙ t in cc) }

pub start-follow : (d : ℕ) (o : Option InitialTree) (k : Kinds) → Separates sign_is.Semicolon k → NoBracket ((initialiser_or_none d).spell o ++ k)
start-follow d None k ends = separates-bracket k ends
start-follow d (Some x) k ends = record { not = λ t. cc }

initial-shaped : (d at : ℕ) (o : Option InitialTree) → IfSome o (IsInitial d at) → IfSome o ShapedInitial
initial-shaped d at None is = tt
initial-shaped d at (Some x) is = is.shaped

initial-placed : (d at : ℕ) (o : Option InitialTree) → IfSome o (IsInitial d at) → IfSome o (InitialAt at)
initial-placed d at None is = tt
initial-placed d at (Some x) is = is.placed

initial-nests : (by d at : ℕ) (o : Option InitialTree) → by ≤ d → IfSome o (IsInitial (d - by) at) → optional_nesting (λ y. by + initial_nesting y) o ≤ d
initial-nests by d at None le is = omega arith
initial-nests by d at (Some x) le is = let n = is.nests in omega arith

pub initial-is : (by d at : ℕ) (o : Option InitialTree) → by ≤ d → IfSome o ShapedInitial → optional_nesting (λ y. by + initial_nesting y) o ≤ d → IfSome o (InitialAt at)
    → IfSome o (IsInitial (d - by) at)
initial-is by d at None le shaped nests placed = tt
initial-is by d at (Some x) le shaped nests placed = record { shaped = shaped; nests = omega arith; placed = placed }

abbrev pub start_tree : ℕ → Declarator × Option InitialTree → StartTree
start_tree token p = record { token = token; declarator = p.0; initial = p.1 }

pub start-leads : (by d : ℕ) (c : Cursor) → by ≤ d → Leads (start_rule by d) (sequence_rule (declarator d) (λ v. initialiser_or_none (d - by))) c c (start_tree c.at)
start-leads by d c le = leads-here (start_rule by d) (sequence_rule (declarator d) (λ v. initialiser_or_none (d - by))) c (start_tree c.at)
    (λ p is.
    (let n1 = is.0.nests in
    let n2 = initial-nests by d (c.at + length (declarator_kinds p.0) + 1) p.1 le is.1 in
    record { shaped = initial-shaped (d - by) _ p.1 is.1; nests = omega arith; placed = (refl, is.0.placed, initial-placed (d - by) _ p.1 is.1) }))
    (λ p. refl)
    (λ x k last is ends last_le same.
    (let nests = is.nests in (
      (x.declarator, x.initial),
      (λ i. record { token = is.placed.0 i; declarator = x.declarator; initial = x.initial }),
      (record { nests = omega arith; placed = is.placed.1 }, initial-is by d _ x.initial le is.shaped (omega arith) is.placed.2),
      ends,
    )))

pub start-parses : ReadsAssignments → ReadsInner → (by d : ℕ) → by ≤ d → (c : Cursor) → Outcome (start_rule by d) c (start_by by d c)
unfolding start_by
start-parses reads inside by d le c =
    part (start_rule by d) (declarator d) (λ v. initialiser_or_none (d - by)) c c (start_tree c.at) (the_declarator d c)
    (λ x. initialised_by (d - by) x.1 >>= (λ y. Ok (record { token = c.at; declarator = x.0; initial = y.0 }, y.1)))
    (λ at v y k v_is y_is ends. start-follow (d - by) y k ends) (start-leads by d c le) (declarator-parses d c)
    (λ x to found l. finish (start_rule by d) (initialiser_or_none (d - by)) c to (λ y. start_tree c.at (x, y)) (initialised_by (d - by) to) l
    (initialised-parses reads inside (d - by) to))

-- the variables of a declaration

pub record AreBehind (by d at : ℕ) (xs : List StartTree) : Type 0 where
  pub shaped : AllByRecursion ShapedStart xs
  pub nests : deepest_nesting (start_nesting by) xs ≤ d
  pub placed : EachAt StartAt start_kinds 1 (at + 1) xs

starts-are : (by d at : ℕ) (xs : List StartTree) → EachBehindComma (start_rule by d) at xs → AreBehind by d at xs
starts-are by d at [] is = record { shaped = tt; nests = omega arith; placed = tt }
starts-are by d at (x ∷ xs) is =
    let rest = starts-are by d (at + 1 + length (start_kinds x)) xs is.1 in
    let n1 = is.0.nests in
    let n2 = rest.nests in
    record { shaped = (is.0.shaped, rest.shaped); nests = omega arith; placed = (is.0.placed, rest.placed) }

pub starts-each : (by d at : ℕ) (xs : List StartTree) → AllByRecursion ShapedStart xs → deepest_nesting (start_nesting by) xs ≤ d
    → EachAt StartAt start_kinds 1 (at + 1) xs → EachBehindComma (start_rule by d) at xs
starts-each by d at [] shaped nests placed = tt
starts-each by d at (x ∷ xs) shaped nests placed = (
  record { shaped = shaped.0; nests = omega arith; placed = placed.0 },
  starts-each by d (at + 1 + length (start_kinds x)) xs shaped.1
      (omega arith) placed.1,
)

variables-back : (by d at : ℕ) (xs : List StartTree) → AreVariables by d at xs
    → (p : StartTree × List StartTree) × (xs ≡ p.0 ∷ p.1) × (sequence_rule (start_rule by d) (λ x. starts_end by d)).Is at p
variables-back by d at [] is = absurd is.some
variables-back by d at (x ∷ xs) is =
    let nests = is.nests in (
      (x, xs),
      refl,
      (
        record { shaped = is.shaped.0; nests = omega arith; placed = is.placed.0 },
        starts-each by d (at + length (start_kinds x)) xs is.shaped.1 (omega arith) is.placed.1,
      ),
    )

pub variables-leads : (by d : ℕ) (c : Cursor) → Leads (declared_variables by d) (sequence_rule (start_rule by d) (λ x. starts_end by d)) c c (λ p. p.0 ∷ p.1)
variables-leads by d c = leads-here (declared_variables by d) (sequence_rule (start_rule by d) (λ x. starts_end by d)) c (λ p. p.0 ∷ p.1)
    (λ p is.
    (let rest = starts-are by d (c.at + length (start_kinds p.0)) p.1 is.1 in
    let n1 = is.0.nests in
    let n2 = rest.nests in
    record { some = tt; shaped = (is.0.shaped, rest.shaped); nests = omega arith; placed = (is.0.placed, rest.placed) }))
    (λ p. append_assoc (start_kinds p.0) (after_commas start_kinds p.1) (a_sign sign_is.Semicolon))
    (λ xs k last is ends le same. (let b = variables-back by d c.at xs is in (b.0, b.1, b.2, record {})))

pub variables-parses : ReadsAssignments → ReadsInner → (by d : ℕ) → by ≤ d → (c : Cursor) → Outcome (declared_variables by d) c (starts_by by d c)
unfolding starts_by more_starts_by start_step
variables-parses reads inside by d le c =
    part (declared_variables by d) (start_rule by d) (λ x. starts_end by d) c c (λ p. p.0 ∷ p.1) (start_by by d c)
    (λ x. with_front (x.0 ∷ []) (all_of (start_step by d) x.1) >>= (λ xs. the_sign sign_is.Semicolon xs.1 >>= (λ y. Ok (xs.0, y.1))))
    (λ at v y k v_is y_is ends. commas-follow (start_rule by d) sign_is.Semicolon y k) (variables-leads by d c) (start-parses reads inside by d le c)
    (λ x to found l. list-behind (declared_variables by d) (starts_end by d) (start_step by d) c to (λ ys. x ∷ ys) (λ y ys. y ∷ ys) (the_sign sign_is.Semicolon)
    (λ u. []) (λ xs u. xs) x
    (commas-closing (start_rule by d) sign_is.Semicolon (start_by by d) (start_step by d) (omega arith) (λ h. cc) (λ at v k v_is ends. ends) (λ k. refl)
    (λ k. start-parses reads inside by d le k))
    l (λ xs u. ap (λ ys. x ∷ ys) (put-list xs)))

-- a declaration

-- what begins with a star or a name
pub no-int : (n : ℕ) (x : List ℕ) (more k : Kinds) → NoInt (((star_kinds n ++ a_name x) ++ more) ++ k)
no-int zero x more k = record { not = λ t. cc }
no-int (suc n) x more k = record { not = λ t. cc }

declaration-follow : (by d at : ℕ) (xs : List StartTree) (k : Kinds) → AreVariables by d at xs → NoInt ((declared_variables by d).spell xs ++ k)
declaration-follow by d at [] k is = absurd is.some
declaration-follow by d at (x ∷ xs) k is =
    let v = x.declarator in
    let rest = no-int v.stars v.name (flat_map bound_kinds v.bounds) ((initialiser_or_none d).spell x.initial ++
    (after_commas start_kinds xs ++ (a_sign sign_is.Semicolon ++ k))) in
    subst NoInt
    (sym (append_assoc (start_kinds x ++ after_commas start_kinds xs) (a_sign sign_is.Semicolon) k
    ∙ append_assoc (start_kinds x) (after_commas start_kinds xs) (a_sign sign_is.Semicolon ++ k)
    ∙ append_assoc (declarator_kinds v) ((initialiser_or_none d).spell x.initial) (after_commas start_kinds xs ++ (a_sign sign_is.Semicolon ++ k)))) rest

abbrev pub declaration_tree : ℕ → Base × List StartTree → DeclarationTree
declaration_tree token p = record { token = token; base = p.0; starts = p.1 }

pub declaration-leads : (by d : ℕ) (c : Cursor) → Leads (declaration by d) (sequence_rule type_base (λ b. declared_variables by d)) c c (declaration_tree c.at)
declaration-leads by d c = leads-here (declaration by d) (sequence_rule type_base (λ b. declared_variables by d)) c (declaration_tree c.at)
    (λ p is. record { shaped = (is.1.some, is.1.shaped); nests = is.1.nests; placed = (refl, is.0, is.1.placed) })
    (λ p. append_assoc (base_kinds p.0) (with_commas start_kinds p.1) (a_sign sign_is.Semicolon))
    (λ x k last is ends le same. (
      (x.base, x.starts),
      (λ i. record { token = is.placed.0 i; base = x.base; starts = x.starts }),
      (is.placed.1, record { some = is.shaped.0; shaped = is.shaped.1; nests = is.nests; placed = is.placed.2 }),
      record {},
    ))

pub declaration-parses : ReadsAssignments → ReadsInner → (by d : ℕ) → by ≤ d → (c : Cursor) → Outcome (declaration by d) c (declaration_by by d c)
unfolding declaration_by
declaration-parses reads inside by d le c =
    part (declaration by d) type_base (λ b. declared_variables by d) c c (declaration_tree c.at) (the_base c)
    (λ b. starts_by by d b.1 >>= (λ xs. Ok (record { token = c.at; base = b.0; starts = xs.0 }, xs.1)))
    (λ at v y k v_is y_is ends. declaration-follow by d _ y k y_is) (declaration-leads by d c) (base-parses c)
    (λ b to found l. finish (declaration by d) (declared_variables by d) c to (λ xs. declaration_tree c.at (b, xs)) (starts_by by d to) l
    (variables-parses reads inside by d le to))
