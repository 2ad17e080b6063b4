-- An expression that the walk accepts fits.
use Rattle.std.proofs.Common.{◌⊎◌, inl, inr, ◌≡◌, ℕ, zero, suc, ◌≤◌, refl, ap, subst, sym, ◌∙◌, arith, List, [], ◌∷◌, ◌++◌, Some, None, ◌+◌, Ok, Err, Bool}
use Rattle.std.proofs.Common.{true, false, length, length-append}
use Rattle.std.specs.Prelude.{Option, Result, is_some, IsTrue, IsSome, sum_by, slice_get, ◌&&◌}
use Rattle.std.specs.List.{AllByRecursion, flat_map}
use Rattle.std.specs.Option.{option_and_then, option_map}
use Rattle.std.proofs.lemmas.List.{append-nil, append_assoc}
use Rattle.std.proofs.lemmas.Bool.{false≢true}
use Rattle.c_types_expressions.proofs.Given.{Gives, and_then, looks, weaker}
use Rattle.base_lists.proofs.Lists.{bytes_long, Stays}
use Rattle.base_lists.proofs.Every.{all_first, all_second}
use Rattle.cbi_base.specs.declared.operators.Binary.{Binary}
use Rattle.cbi_base.specs.declared.operators.Binary.TheVariants as op
use Rattle.c_syntax.specs.declared.token.Sign.{Sign}
use Rattle.c_syntax.specs.declared.token.Sign.TheVariants as sign
use Rattle.c_syntax.specs.declared.parts.Base.{Base}
use Rattle.c_syntax.specs.declared.parts.Base.TheVariants as base
use Rattle.c_syntax.specs.declared.expr.PrefixOperator.{PrefixOperator}
use Rattle.c_syntax.specs.declared.expr.PrefixOperator.TheVariants as prefix
use Rattle.c_syntax.specs.Words.{SourceTree, ExprTree, ExprList, LinkList, PostfixList, ExprAt, ExprsAt, LinksAt, PostfixAt, HasLink, HasPostfix, ShapedExpr}
use Rattle.c_syntax.specs.Words.{ShapedExprs, ShapedLinks, ShapedPostfix, parenthesized_kinds, type_kinds, a_sign, expr_kinds, exprs_kinds, link_kinds}
use Rattle.c_syntax.specs.Words.{more_exprs_kinds, postfix_kinds}
use Rattle.c_syntax.specs.ExprTree as e
use Rattle.c_types_rules.specs.declared.fault.FaultKind.{FaultKind}
use Rattle.c_types_rules.specs.declared.layout.Member.{Member}
use Rattle.c_types_rules.specs.declared.layout.StructType.{StructType}
use Rattle.c_types_rules.specs.declared.operand.Operand.{Operand}
use Rattle.c_types_rules.specs.TypeTree as t
use Rattle.c_types_rules.specs.Words.{TypeTree, constant_of, parenthesized_operand, is_pointer, is_struct, null_of, string_of, value_of, cast_to, typed_sizeof, typed_increment, typed_conditional}
use Rattle.c_types_rules.specs.Words.{typed_subscript, known_member, member_behind, member_in, member_named, member_of, typed_comma, is_complete}
use Rattle.c_types_rules.specs.Conversions as rule
use Rattle.c_types_expressions.specs.declared.names.Meaning.{Meaning}
use Rattle.c_types_expressions.specs.declared.names.Meaning.TheVariants as meaning
use Rattle.c_types_expressions.specs.declared.walk.Walk.{Walk}
use Rattle.c_types.specs.Answers.{note_at}
use Rattle.c_types_expressions.specs.Words.{typed_assignment, base_type, binary_of, typed_chain_operation, compound_of, operand_noted, typed_prefix_operation, selected_member, string_cells, tagged_type}
use Rattle.c_types_expressions.specs.Words.{with_stars, walk_expr, walk_exprs, walk_links, walk_postfix, declared_meaning, meaning_of, Walked, ◌>>=◌}
use Rattle.c_meaning.specs.declared.value_type.ValueType.{ValueType}
use Rattle.c_meaning.specs.declared.value_type.ValueType.TheVariants as type
use Rattle.c_meaning.specs.Conversions as mean
use Rattle.c_meaning.specs.Words.{is_null_constant, Literal, strings_behind, strings_in, strings_of_all, strings_of_links, base_named, object_cells}
use Rattle.c_meaning.specs.Words.{struct_number, operation, assigned_by, begins_null, ends_as_place, postfix_token, is_null_beside, joint_of_sign, is_place, link_token}
use Rattle.c_meaning.specs.Words.{operand_type, token_of, type_of}
use Rattle.c_meaning_laws.specs.Rules.{Accepts, Arm, Assigns, Casts, Changes, OperatorsEnd, Moves, Joins, IsPointing, IsPointer, IsValue}
use Rattle.c_meaning_laws.specs.Typed.{Steps, TypedLinks, TypedPostfix, variable_named}
use Rattle.flow.specs.declared.site.Slot.{Slot}
use Rattle.c_meaning_laws.proofs.Ruled.{Is, gives_by, kind_known, known, pointer_pointing}
use Rattle.c_meaning_laws.proofs.RuledOperators.{assignment_fits}
use Rattle.c_meaning_laws.proofs.RuledPlaces.{TakesArm, cast_fits, chosen_fits, compounded_fits, indexed_fits, stepped_fits}
use Rattle.c_meaning_sound.proofs.Calling.{call_good, name_good, sequence_good}
use Rattle.c_meaning_sound.proofs.Forming.{Ended, Formed, Plain, assigned_formed, assigned_plain, cast_formed, chosen_formed, chosen_plain, combined_formed}
use Rattle.c_meaning_sound.proofs.Forming.{combined_plain, compounded_formed, compounded_plain, constant_formed, enclosed_formed, gives_plain, indexed_formed}
use Rattle.c_meaning_sound.proofs.Forming.{indexed_no_null, int_formed, joined_formed, null_formed, object_is, stepped_formed, stepped_plain, steps_known}
use Rattle.c_meaning_sound.proofs.Forming.{string_formed, value_formed}
use Rattle.c_meaning_sound.proofs.Growing.{Grows, combined_grows, compounded_grows, indexed_grows, measured_grows, stepped_grows}
use Rattle.c_meaning_sound.proofs.Joining.{LinkFits, beside_is, link_fits, no_null_beside, null_beside}
use Rattle.c_meaning_sound.proofs.Naming.{all_mean, member_noted}
use Rattle.c_meaning_sound.proofs.Noting.{Deep, Part, Ready, Whole, facts, leftwards, none, nothing_noted, ready_after, ready_in}
use Rattle.c_meaning_sound.proofs.Noting.{rightwards, so, type_noted, wider}
use Rattle.c_meaning_sound.proofs.Parting.{NoEquality, infix_long, no_equality, texts_long}
use Rattle.c_meaning_sound.proofs.Operands.{Fits, Good, GoodList, PrefixGood, accepted, leaf_good, prefix_good, steps_fit, typed_as, unary_good}
use Rattle.c_meaning_laws.proofs.Values.{scalar_value}
use Rattle.sites.proofs.Rises.{paren-length}

abbrev member_or : Member → Result Member FaultKind → Member
member_or m (Ok k) = k
member_or m (Err f) = m

only_second : (a : Operand) → ⊥ ⊎ (a.null ≡ false) → a.null ≡ false
only_second a (inl h) = absurd h
only_second a (inr h) = h

module _ (tree : SourceTree) (z : Walk) (ends : Ended tree z) where
  -- a string has a number, and is no longer than an object
  abbrev pub Lies : Literal → Type 0
  Lies s = IsSome ((facts tree z).text_at s.token) × (length s.bytes ≤ 1048575)

  -- assignments
  assigned_fits : (o : Option Binary) (x y : ExprTree) (a b d : Operand) → NoEquality o → Is (typed_assignment z.structs o a b) d → Formed tree z a
      → Formed tree z b → is_place x ≡ a.place → is_null_constant y ≡ b.null → Formed tree z d × Plain d × IsTrue (is_place x) × (d.ctype ≡ a.ctype)
      × (note_at z.types (token_of x) ≡ Some a.ctype → note_at z.types (token_of y) ≡ Some b.ctype
      → Assigns (facts tree z) (assigned_by o) (type_of (facts tree z) x) y)
  assigned_fits None x y a b d q h f g p n =
      let k = assignment_fits z.structs a b d h in (
        assigned_formed tree z a b d f h,
        assigned_plain a b d h,
        p ∙ k.0,
        k.1,
        λ u v.
            subst (λ of. Accepts (facts tree z) of y) (sym (typed_as tree z (token_of x) a.ctype u)) (accepted tree z (known z.structs a.ctype) y b n v k.2),
      )
  assigned_fits (Some o) x y a b d q h f g p n =
      let k = compounded_fits z.structs o q a b d (steps_known tree z a.ctype f.deep) (steps_known tree z b.ctype g.deep) h in (
        compounded_formed tree z o a b d f h,
        compounded_plain z.structs o a b d h,
        p ∙ k.0,
        k.1,
        λ u v.
            subst (λ of. Changes (operation o of (type_of (facts tree z) y)) of (type_of (facts tree z) y)) (sym (typed_as tree z (token_of x) a.ctype u))
            (subst (λ r. Changes (operation o (known z.structs a.ctype) r) (known z.structs a.ctype) r) (sym (typed_as tree z (token_of y) b.ctype v)) k.2),
      )

  assigning_grows : (o : Option Binary) (w : Walk) (a b d : Operand) → Grows w.structs z.structs → Is (typed_assignment w.structs o a b) d
      → Is (typed_assignment z.structs o a b) d
  assigning_grows None w a b d g h = h
  assigning_grows (Some o) w a b d g h = compounded_grows w.structs z.structs g o a b d h

  -- the arms of `? :`
  arm_by : (of : TypeTree) (x : ExprTree) (a : Operand) → Accepts (facts tree z) (known z.structs of) x → Arm (facts tree z) (known z.structs of) x
  arm_by t.Void x a h = tt
  arm_by of x a h = h

  arm_fits : (of : TypeTree) (x : ExprTree) (a : Operand) → TakesArm z.structs of a → is_null_constant x ≡ a.null → note_at z.types (token_of x) ≡ Some a.ctype
      → Arm (facts tree z) (known z.structs of) x
  arm_fits of x a (inl v) n h = subst (λ u. Arm (facts tree z) (known z.structs u) x) (sym v) tt
  arm_fits of x a (inr k) n h = arm_by of x a (accepted tree z (known z.structs of) x a n h k)

  -- chains
  abbrev heads_null : Bool → LinkList → Bool
  heads_null null e.no_links = false
  heads_null null (e.more_links token s operand rest) = null_beside (binary_of s) (type_of (facts tree z) operand) null

  heads_false : (links : LinkList) → heads_null false links ≡ false
  heads_false e.no_links = refl
  heads_false (e.more_links token s operand rest) = no_null_beside (binary_of s) (type_of (facts tree z) operand)

  begins_is : (first : ExprTree) (null : Bool) (links : LinkList) → is_null_constant first ≡ null → begins_null
      (facts tree z) first links ≡ heads_null null links
  begins_is first null e.no_links h = refl
  begins_is first null (e.more_links token s operand rest) h = beside_is (binary_of s) (type_of (facts tree z) operand) first null h

  abbrev EndsPlain : LinkList → Operand → Operand → Type 0
  EndsPlain e.no_links a b = Plain a → Plain b
  EndsPlain (e.more_links token s operand rest) a b = Plain b

  ends_plain : (links : LinkList) (a b : Operand) → EndsPlain links a b → Plain a → Plain b
  ends_plain e.no_links a b h p = h p
  ends_plain (e.more_links token s operand rest) a b h p = h

  -- the walk through the operators of a chain, behind this operand whose token is the first
  pub record GoodLinks (at first : ℕ) (links : LinkList) (a : Operand) (w : Walk) (b : Operand) (v : Walk) : Type 0 where
    pub part : Part tree z at (at + length (link_kinds links)) w v (λ c. note_at z.types first ≡ Some a.ctype
        → TypedLinks (facts tree z) none c (operand_type (heads_null a.null links) (known z.structs a.ctype)) links
        × (note_at z.types (link_token first links) ≡ Some b.ctype))
    pub value : HasLink links → IsValue (known z.structs a.ctype)
    pub plain : EndsPlain links a b
    pub formed : Formed tree z b

  joins_by : (s : Sign) (u v ka kb kd : Option ValueType) (m n : Bool) (x : ExprTree) → u ≡ kb → v ≡ kd → is_null_constant x ≡ n
      → Joins (joint_of_sign s) (operand_type (null_beside (binary_of s) kb m) ka)
      (operand_type (null_beside (binary_of s) (operand_type (null_beside (binary_of s) kb m) ka) n) kb) kd
      → Joins (joint_of_sign s) (operand_type (null_beside (binary_of s) u m) ka)
      (operand_type (is_null_beside (binary_of s) (operand_type (null_beside (binary_of s) u m) ka) x) u) v
  joins_by s u v ka kb kd m n x h k e j =
      subst (λ b. Joins (joint_of_sign s) (operand_type (null_beside (binary_of s) u m) ka) (operand_type b u) v)
      (sym (beside_is (binary_of s) (operand_type (null_beside (binary_of s) u m) ka) x n e))
      (subst (λ r. Joins (joint_of_sign s) (operand_type (null_beside (binary_of s) r m) ka)
      (operand_type (null_beside (binary_of s) (operand_type (null_beside (binary_of s) r m) ka) n) r) v) (sym h)
      (subst (λ r. Joins (joint_of_sign s) (operand_type (null_beside (binary_of s) kb m) ka)
      (operand_type (null_beside (binary_of s) (operand_type (null_beside (binary_of s) kb m) ka) n) kb) r) (sym k) j))

  rest_typed : (c : ℕ) (u : Option ValueType) (d : Operand) (rest : LinkList) → u ≡ known z.structs d.ctype → d.null ≡ false
      → TypedLinks (facts tree z) none c (operand_type (heads_null d.null rest) (known z.structs d.ctype)) rest → TypedLinks (facts tree z) none c u rest
  rest_typed c u d rest h n k = subst (λ r. TypedLinks (facts tree z) none c r rest) (sym h)
      (subst (λ b. TypedLinks (facts tree z) none c (operand_type b (known z.structs d.ctype)) rest) (heads_false rest)
      (subst (λ b. TypedLinks (facts tree z) none c (operand_type (heads_null b rest) (known z.structs d.ctype)) rest) n k))

  chained_formed : (o : Option Binary) (a b d : Operand) → Formed tree z a → Formed tree z b → Is (typed_chain_operation z.structs o a b) d → Formed tree z d × Plain d
  chained_formed None a b d f g h = (joined_formed tree z a b d h, gives_plain _ _ d h)
  chained_formed (Some o) a b d f g h = (combined_formed tree z o a b d f g h, combined_plain z.structs o a b d h)

  chained_grows : (o : Option Binary) (w : Walk) (a b d : Operand) → Grows w.structs z.structs → Is (typed_chain_operation w.structs o a b) d → Is (typed_chain_operation z.structs o a b) d
  chained_grows None w a b d g h = h
  chained_grows (Some o) w a b d g h = combined_grows w.structs z.structs g o a b d h

  string_fits : (parts : List (List ℕ)) → length (flat_map (λ bytes. bytes) parts) ≤ 1048575 → Formed tree z (string_of (string_cells parts))
  string_fits parts h = string_formed tree z (sum_by length parts) (omega (arith, h, bytes_long parts))

  prefixed_grows : (o : PrefixOperator) (w : Walk) (a b : Operand) → Grows w.structs z.structs → Is (typed_prefix_operation w.structs o a) b → Is (typed_prefix_operation z.structs o a) b
  prefixed_grows prefix.Increment w a b g h = stepped_grows w.structs z.structs g a b h
  prefixed_grows prefix.Decrement w a b g h = stepped_grows w.structs z.structs g a b h
  prefixed_grows prefix.SizeOf w a b g h = measured_grows w.structs z.structs g a.ctype b h
  prefixed_grows o w a b g h = h

  -- named types
  pub base_then : {A : Type 0} {Q : A → Walk → Type 0} (b : Base) (w : Walk) (k : TypeTree → Walk → Walked A)
      → ((tag : List ℕ) (index : ℕ) → declared_meaning tag w.tags ≡ Some (meaning.Struct index) → struct_number 0 tag tree.items ≡ Some index)
      → ((of : TypeTree) → Deep tree z of → base_named tree.items b ≡ Some of → Gives (k of w) Q) → Gives (base_type b w >>= k) Q
  base_then (base.Void token) w k tags h = h t.Void tt refl
  base_then (base.Char token) w k tags h = h t.Char tt refl
  base_then (base.Int token) w k tags h = h t.Int tt refl
  base_then (base.Unsigned token int) w k tags h = h t.Unsigned tt refl
  base_then {Q = Q} (base.Struct token tag) w k tags h = tested (declared_meaning tag w.tags) refl
    where
      tested : (m : Option Meaning) → declared_meaning tag w.tags ≡ m → Gives (tagged_type token m w >>= k) Q
      tested None e = record { by = tt }
      tested (Some (meaning.Variable index)) e = record { by = tt }
      tested (Some (meaning.Function index)) e = record { by = tt }
      tested (Some (meaning.Library function)) e = record { by = tt }
      tested (Some (meaning.Struct index)) e = h (t.Struct index) (ends.structs index) (ap (λ o. option_map t.Struct o) (tags tag index e))

  pub stars_deep : (n : ℕ) (of : TypeTree) → Deep tree z of → Deep tree z (with_stars n of)
  stars_deep zero of h = h
  stars_deep (suc n) of h = stars_deep n (t.Pointer of) h

  cast_typed : (u v : Option ValueType) (of : TypeTree) (x : ExprTree) (a : Operand) → u ≡ known z.structs of → v ≡ known z.structs a.ctype
      → is_null_constant x ≡ a.null → Casts (mean.is_pointer_value (known z.structs of) && a.null) (known z.structs of) (known z.structs a.ctype)
      → Casts (mean.is_null_as u x) u v
  cast_typed u v of x a h k n i =
      subst (λ r. Casts (mean.is_null_as r x) r v) (sym h) (subst (λ b. Casts (mean.is_pointer_value (known z.structs of) && b) (known z.structs of) v) (sym n)
      (subst (λ r. Casts (mean.is_pointer_value (known z.structs of) && a.null) (known z.structs of) r) (sym k) i))

  measured_known : (b : Base) (n : ℕ) (of : TypeTree) (d : Operand) → Deep tree z of → base_named tree.items b ≡ Some of
      → Is (typed_sizeof z.structs (with_stars n of)) d
      → Formed tree z d × (d ≡ value_of t.Unsigned) × IsSome ((facts tree z).named_cells b n)
  measured_known b n of d k e h =
      gives_by (λ d. Formed tree z d × (d ≡ value_of t.Unsigned) × IsSome ((facts tree z).named_cells b n))
      (is_complete z.structs (with_stars n of)) t.Unsigned d
      (λ m. (
        value_formed tree z t.Unsigned tt refl,
        refl,
        ap (λ o. is_some (option_and_then (λ of. object_cells z.structs (with_stars n of)) o)) e
            ∙ ap is_some (object_is tree z (with_stars n of) (stars_deep n of k) m),
      )) h

  link_plain : (links : LinkList) (a b : Operand) → HasLink links → EndsPlain links a b → Plain b
  link_plain e.no_links a b h k = absurd h
  link_plain (e.more_links token s operand rest) a b h k = k

  -- one operator of a chain
  pub record Linked (at token : ℕ) (s : Sign) (operand : ExprTree) (a b : Operand) (w : Walk) (d : Operand) (v : Walk) : Type 0 where
    pub part : Part tree z at (at + 1 + length (expr_kinds operand)) w v (λ c. (Fits tree z c operand × (note_at z.types (token_of operand) ≡ Some b.ctype))
        × (note_at z.types token ≡ Some d.ctype))
    pub formed : Formed tree z d
    pub plain : Plain d
    pub fits : LinkFits z.structs s a b d
    pub null : is_null_constant operand ≡ b.null

  -- the first operand of a comma, and the others
  pub record Firsts (at : ℕ) (x : ExprTree) (rest : ExprList) (w : Walk) (all : List Operand) (u : Walk) : Type 0 where
    pub operand : Operand
    pub middle : Walk
    pub one : Good tree z at x w operand middle
    pub others : GoodList tree z (at + length (expr_kinds x) + 1) rest (operand ∷ []) middle all u

  -- postfix operators
  abbrev EndsFit : PostfixList → Operand → Type 0
  EndsFit e.no_postfix a = OperatorsEnd a.place (known z.structs a.ctype)
  EndsFit rest a = Unit {0}

  ends_fit : (rest : PostfixList) (a : Operand) → OperatorsEnd a.place (known z.structs a.ctype) → EndsFit rest a
  ends_fit e.no_postfix a h = h
  ends_fit rest a h = tt

  some_fit : (rest : PostfixList) (a : Operand) → HasPostfix rest → EndsFit rest a
  some_fit e.no_postfix a h = absurd h
  some_fit rest a h = tt

  -- the walk through the operators behind this operand, whose token is the first
  pub record GoodPostfix (at first : ℕ) (rest : PostfixList) (a : Operand) (w : Walk) (b : Operand) (v : Walk) : Type 0 where
    pub part : Part tree z at (at + length (postfix_kinds rest)) w v (λ c. note_at z.types first ≡ Some a.ctype
        → ((s : Option Slot) → TypedPostfix (facts tree z) none c a.place s (known z.structs a.ctype) rest)
        × (note_at z.types (postfix_token first rest) ≡ Some b.ctype))
    pub place : ends_as_place a.place rest ≡ b.place
    pub null : HasPostfix rest ⊎ (a.null ≡ false) → b.null ≡ false
    pub formed : Formed tree z b

  -- one operator behind an operand: what it leads to, and whether that is a place
  pub record Followed (at token hi : ℕ) (is_place : Bool) (P : ℕ → Type 0) (w : Walk) (d : Operand) (v : Walk) : Type 0 where
    pub part : Part tree z at hi w v (λ c. P c × (note_at z.types token ≡ Some d.ctype))
    pub place : d.place ≡ is_place
    pub null : d.null ≡ false
    pub formed : Formed tree z d
    pub last : OperatorsEnd is_place (known z.structs d.ctype)

  follows : (c : ℕ) (is_place : Bool) (d : Operand) (token : ℕ) (rest : PostfixList) → d.place ≡ is_place → note_at z.types token ≡ Some d.ctype
      → TypedPostfix (facts tree z) none c d.place None (known z.structs d.ctype) rest
      → TypedPostfix (facts tree z) none c is_place None ((facts tree z).type_at token) rest
  follows c is_place d token rest p h k = subst (λ u. TypedPostfix (facts tree z) none c is_place None u rest) (sym (typed_as tree z token d.ctype h))
      (subst (λ b. TypedPostfix (facts tree z) none c b None (known z.structs d.ctype) rest) p k)

  member_named_whole : (w : Walk) (tag : ℕ) (o : Option StructType) (name : List ℕ) (m : Member) → Stays w.structs z.structs → slice_get w.structs tag ≡ o
      → member_in name o ≡ Ok m → Whole tree z m.ctype
  member_named_whole w tag None name m g e h = cc
  member_named_whole w tag (Some s) name m g e h = tested (member_named name s.members) refl h
    where
      tested : (o : Option Member) → member_named name s.members ≡ o → known_member o ≡ Ok m → Whole tree z m.ctype
      tested None i h = cc
      tested (Some k) i h = ends.members tag s (g tag s e) name m (i ∙ ap (λ y. Some y) (ap (member_or k) h))

  member_whole : (w : Walk) (name : List ℕ) (of : TypeTree) (m : Member) → Stays w.structs z.structs → member_of w.structs name of ≡ Ok m
      → Whole tree z m.ctype × (is_struct of ≡ true)
  member_whole w name (t.Struct tag) m g h = (member_named_whole w tag (slice_get w.structs tag) name m g refl h, refl)
  member_whole w name of m g h = cc

  behind_whole : (w : Walk) (name : List ℕ) (of : TypeTree) (m : Member) → Stays w.structs z.structs → member_behind w.structs name of ≡ Ok m
      → Whole tree z m.ctype × (is_pointer of ≡ true)
  behind_whole w name (t.Pointer to) m g h = ((member_whole w name to m g h).0, refl)
  behind_whole w name of m g h = cc

  -- a member of a struct that is a place
  selected_good : (at token : ℕ) (p : Bool) (r : Result Member FaultKind) (P : Type 0) (w : Walk) → token ≡ at →
      ((m : Member) → r ≡ Ok m → Whole tree z m.ctype × P)
      → ((m : Member) → r ≡ Ok m → p ≡ true) → at + 2 ≤ length w.types → at + 2 ≤ length w.offsets_at
      → Gives (selected_member token p r w) (Followed at token (at + 2) true (λ c. P × IsTrue p × IsSome ((facts tree z).offset_at token)) w)
  selected_good at token p (Err f) P w e h q k l = record { by = tt }
  selected_good at token p (Ok m) P w e h q k l =
      let whole : Whole tree z m.ctype × P = h m refl in
      record {
        by = record {
          part = so (wider {lo = token} {hi = token + 1} (member_noted token m.offset m.ctype w (omega (arith, e, k)) (omega (arith, e, l))) (omega (arith, e))
              (omega (arith, e))) (λ c n. ((whole.1, q m refl, ap is_some n.1), n.0));
          place = q m refl;
          null = refl;
          formed = record {
            deep = whole.0.0;
            object = λ i. whole.0.1;
            place = λ i. q m refl;
            null = λ i. absurd (false≢true i);
          };
          last = whole.0.1;
        };
      }

  -- `++` or `--` behind a place
  stepped_behind : (is_up : Bool) (at token : ℕ) (a : Operand) (w : Walk) → token ≡ at → Formed tree z a → Grows w.structs z.structs → at + 1 ≤ length w.types
      → Gives (operand_noted token (typed_increment w.structs a) w) (Followed at token (at + 1) false
      (λ c. IsTrue a.place × ((s : Option Slot) → Steps (facts tree z) none is_up token s (known z.structs a.ctype))) w)
  stepped_behind is_up at token a w e f g h = looks token (typed_increment w.structs a) w (λ d i.
      let j : Is (typed_increment z.structs a) d = stepped_grows w.structs z.structs g a d i in
      let k = stepped_fits z.structs is_up a d (steps_known tree z a.ctype f.deep) j in
      let plain : Plain d = stepped_plain z.structs a d j in
      record {
        part = so (wider {lo = token} {hi = token + 1} (type_noted token d.ctype w (omega (arith, e, h))) (omega (arith, e)) (omega (arith, e)))
            (λ c n. ((k.0, λ s. steps_fit tree z is_up token s (known z.structs a.ctype) a d refl (k.1, k.2) (typed_as tree z token d.ctype n)), n));
        place = plain.0;
        null = plain.1;
        formed = stepped_formed tree z a d f j;
        last = subst (λ of. IsValue (known z.structs of)) (sym k.1) (scalar_value (known z.structs a.ctype) k.2.0);
      })

  -- an operator, and those behind it
  behind_good : (at mid hi first token : ℕ) (p : Bool) (P : ℕ → Type 0) (all rest : PostfixList) (a d b : Operand) (w u v : Walk)
      → at + length (postfix_kinds all) ≡ hi → mid + length (postfix_kinds rest) ≡ hi → at ≤ mid → postfix_token first all ≡ postfix_token token rest
      → ends_as_place a.place all ≡ ends_as_place p rest
      → ((c : ℕ) → P c → TypedPostfix (facts tree z) none c p None ((facts tree z).type_at token) rest
      → (s : Option Slot) → TypedPostfix (facts tree z) none c a.place s (known z.structs a.ctype) all)
      → Followed at token mid p P w d u → GoodPostfix mid token rest d u b v → GoodPostfix at first all a w b v
  behind_good at mid hi first token p P all rest a d b w u v long short le same place typed q k = record {
    part = so (wider {lo = at} {hi = hi} (rightwards {lo = at} {mid = mid} q.part (wider k.part (omega arith) (omega (arith, short))) le (omega (arith, short)))
        (omega arith) (omega (arith, long)))
        (λ c n h. (typed c n.0.0 (follows c p d token rest q.place n.0.1 ((n.1 n.0.1).0 None)), ap (λ y. note_at z.types y) same ∙ (n.1 n.0.1).1));
    place = place ∙ ap (λ y. ends_as_place y rest) (sym q.place) ∙ k.place;
    null = λ h. k.null (inr q.null);
    formed = k.formed;
  }

  mutual
    pub walk_good : (x : ExprTree) (at : ℕ) (w : Walk) → ShapedExpr x → ExprAt at x → AllByRecursion Lies (strings_in x)
        → Ready tree z at (at + length (expr_kinds x)) w → Gives (walk_expr x w) (Good tree z at x w)
    walk_good (e.Constant token k value) at w s p l r = record {
      by = leaf_good tree z at token (e.Constant token k value) (constant_of k value) w p (omega arith) refl refl refl (constant_formed tree z k _) r.types
          (λ c h. h ∙ ap (λ u. Some u) (kind_known z.structs k));
    }
    walk_good (e.Null token) at w s p l r = record {
      by = leaf_good tree z at token (e.Null token) null_of w p (omega arith) refl refl refl (null_formed tree z) r.types (λ c h. subst IsPointer (sym h) tt);
    }
    walk_good (e.EndOfFile token) at w s p l r = record {
      by = leaf_good tree z at token (e.EndOfFile token) (value_of t.Int) w p (omega arith) refl refl refl (int_formed tree z) r.types (λ c h. h);
    }
    walk_good (e.Strings token parts) at w s p l r = record {
      by = leaf_good tree z at token (e.Strings token parts) (string_of (string_cells parts)) w p (texts_long parts s) refl refl refl
          (string_fits parts l.0.1) r.types (λ c h. (l.0.0, subst IsPointing (sym h) tt));
    }
    walk_good (e.Name token name) at w s p l r = record {
      by = name_good tree z ends at token name w (meaning_of name w.names) p r (all_mean w.locals w.variables name w.names r.slots);
    }
    walk_good (e.Paren token inner) at w s p l r =
        let long : length (expr_kinds (e.Paren token inner)) ≡ length (expr_kinds inner) + 2 = paren-length (expr_kinds inner) in
        and_then (walk_good inner (at + 1) w s p.1 l (ready_in r (at + 1) (at + 1 + length (expr_kinds inner)) (omega arith) (omega (arith, long)))) (λ a v g.
        record {
          by = unary_good tree z at token (at + 1) (e.Paren token inner) inner a (parenthesized_operand a) w v p.0 (omega arith) (omega (arith, long)) refl g.place refl
              (enclosed_formed tree z a g.formed) g (rw g.part.keeps.types (omega (arith, p.0, long, r.types)))
              (λ c f u h. (f, typed_as tree z token a.ctype h ∙ sym (typed_as tree z (token_of inner) a.ctype u)));
        })
    walk_good (e.Prefix token o x) at w s p l r =
        let long : length (expr_kinds (e.Prefix token o x)) ≡ length (expr_kinds x) + 1 = omega arith in
        and_then (walk_good x (at + 1) w s.1 p.1 l (ready_in r (at + 1) (at + 1 + length (expr_kinds x)) (omega arith) (omega (arith, long)))) (λ a v g.
        looks token (typed_prefix_operation v.structs o a) v (λ b h.
        let k : PrefixGood tree z token o x a b =
        prefix_good tree z token o x a b (prefixed_grows o v a b (rw g.part.keeps.structs r.grows) h) g.formed g.place in
        unary_good tree z at token (at + 1) (e.Prefix token o x) x a b w v p.0 (omega arith) (omega (arith, long)) refl k.1 k.2 k.0 g
        (rw g.part.keeps.types (omega (arith, p.0, long, r.types)))
        (λ c f u q. (f, k.3 token c u (typed_as tree z token b.ctype q)))))
    walk_good (e.Assign token s target value) at w q p l r =
        let long : length (expr_kinds (e.Assign token s target value)) ≡ length (expr_kinds target) + 1 + length (expr_kinds value) =
        infix_long (expr_kinds target) (expr_kinds value) s in
        and_then (walk_good target at w q.2 p.1 (all_first Lies (strings_in target) (strings_in value) l)
        (ready_in r at (at + length (expr_kinds target)) (omega arith) (omega (arith, long)))) (λ a v g.
        and_then (walk_good value (token + 1) v q.4 p.2 (all_second Lies (strings_in target) (strings_in value) l)
        (ready_after r g.part (omega arith) (omega (arith, p.0)) (omega (arith, p.0)) (token + 1 + length (expr_kinds value)) (omega (arith, p.0, long))))
        (λ b u k.
        looks token (typed_assignment u.structs (compound_of s) a b) u (λ d h.
        let grown : Grows u.structs z.structs = rw (k.part.keeps.structs ∙ g.part.keeps.structs) r.grows in
        let fits = assigned_fits (compound_of s) target value a b d (no_equality s)
        (assigning_grows (compound_of s) u a b d grown h) g.formed k.formed g.place k.null in
        record {
          part = so (wider {lo = at} {hi = token + 1 + length (expr_kinds value)}
              (rightwards {lo = at} {mid = token} (wider g.part (omega arith) (omega (arith, p.0)))
              (leftwards {lo = token} {mid = token + 1} k.part
              (type_noted token d.ctype u (rw (k.part.keeps.types ∙ g.part.keeps.types) (omega (arith, p.0, long, r.types)))) (omega arith) (omega arith))
              (omega (arith, p.0)) (omega arith)) (omega arith) (omega (arith, p.0, long)))
              (λ c n. (
                (
                  n.0.0,
                  n.1.0.0,
                  fits.2,
                  fits.4 n.0.1 n.1.0.1,
                  typed_as tree z token d.ctype n.1.1 ∙ ap (known z.structs) fits.3 ∙ sym (typed_as tree z (token_of target) a.ctype n.0.1),
                  tt,
                ),
                n.1.1,
              ));
          place = sym fits.1.0;
          null = sym fits.1.1;
          formed = fits.0;
        })))
    walk_good (e.Conditional token condition first second) at w q p l r =
        let long : length (expr_kinds (e.Conditional token condition first second)) ≡ length (expr_kinds condition) + 1 + length (expr_kinds first) + 1
        + length (expr_kinds second) = omega (
          arith,
          infix_long (expr_kinds condition ++ a_sign sign.Question ++ expr_kinds first) (expr_kinds second) sign.Colon,
          infix_long (expr_kinds condition) (expr_kinds first) sign.Question,
        ) in
        and_then (walk_good condition at w q.1 p.1 (all_first Lies (strings_in condition) (strings_in first)
        (all_first Lies (strings_in condition ++ strings_in first) (strings_in second) l))
        (ready_in r at (at + length (expr_kinds condition)) (omega arith) (omega (arith, long)))) (λ a v g.
        and_then (walk_good first (token + 1) v q.2 p.2 (all_second Lies (strings_in condition) (strings_in first)
        (all_first Lies (strings_in condition ++ strings_in first) (strings_in second) l))
        (ready_after r g.part (omega arith) (omega (arith, p.0)) (omega (arith, p.0)) (token + 1 + length (expr_kinds first)) (omega (arith, p.0, long))))
        (λ b u k.
        let both = rightwards {lo = at} {mid = token + 1} {hi = token + 1 + length (expr_kinds first)} (wider g.part (omega arith) (omega (arith, p.0))) k.part
        (omega (arith, p.0)) (omega arith) in
        and_then (walk_good second (token + 1 + length (expr_kinds first) + 1) u q.4 p.3
        (all_second Lies (strings_in condition ++ strings_in first) (strings_in second) l)
        (ready_after r both (omega arith) (omega arith) (omega (arith, p.0)) (token + 1 + length (expr_kinds first) + 1 + length (expr_kinds second))
        (omega (arith, p.0, long)))) (λ d y m.
        looks token (typed_conditional a b d) y (λ f h.
        let fits = chosen_fits z.structs a b d f h in
        let plain : Plain f = chosen_plain a b d f h in
        record {
          part = so (wider {lo = at} {hi = token + 1 + length (expr_kinds first) + 1 + length (expr_kinds second)}
              (rightwards {lo = at} {mid = token} (wider g.part (omega arith) (omega (arith, p.0)))
              (leftwards {lo = token} {mid = token + 1} {hi = token + 1 + length (expr_kinds first) + 1 + length (expr_kinds second)}
              (rightwards {lo = token + 1} {mid = token + 1 + length (expr_kinds first) + 1} (wider k.part (omega arith) (omega arith)) m.part (omega arith)
              (omega arith))
              (type_noted token f.ctype y (rw (m.part.keeps.types ∙ k.part.keeps.types ∙ g.part.keeps.types) (omega (arith, p.0, long, r.types))))
              (omega arith) (omega arith)) (omega (arith, p.0)) (omega arith)) (omega arith) (omega (arith, p.0, long)))
              (λ c n. (
                (
                  n.0.0,
                  n.1.0.0.0,
                  n.1.0.1.0,
                  subst IsValue (sym (typed_as tree z (token_of condition) a.ctype n.0.1)) fits.0,
                  subst (λ o. Arm (facts tree z) o first) (sym (typed_as tree z token f.ctype n.1.1)) (arm_fits f.ctype first b fits.1 k.null n.1.0.0.1),
                  subst (λ o. Arm (facts tree z) o second) (sym (typed_as tree z token f.ctype n.1.1)) (arm_fits f.ctype second d fits.2 m.null n.1.0.1.1),
                ),
                n.1.1,
              ));
          place = sym plain.0;
          null = sym plain.1;
          formed = chosen_formed tree z a b d f k.formed m.formed h;
        }))))
    walk_good (e.Cast token b stars operand) at w s p l r =
        let long : length (expr_kinds (e.Cast token b stars operand)) ≡ length (type_kinds b stars) + 2 + length (expr_kinds operand) =
        omega (arith, length-append (parenthesized_kinds (type_kinds b stars)) (expr_kinds operand), paren-length (type_kinds b stars)) in
        base_then b w (λ named_type v. walk_expr operand v >>= λ x u. operand_noted token (cast_to (with_stars stars named_type) x) u) r.tags (λ of d is.
        and_then (walk_good operand (at + 1 + length (type_kinds b stars) + 1) w s.1 p.2 l
        (ready_in r (at + 1 + length (type_kinds b stars) + 1) (at + 1 + length (type_kinds b stars) + 1 + length (expr_kinds operand)) (omega arith)
        (omega (arith, long)))) (λ a u g.
        looks token (cast_to (with_stars stars of) a) u (λ f h.
        let fits = cast_fits z.structs (with_stars stars of) a f h in
        let plain : Plain f = gives_plain _ _ f h in
        unary_good tree z at token (at + 1 + length (type_kinds b stars) + 1) (e.Cast token b stars operand) operand a f w u p.0 (omega arith)
        (omega (arith, long)) refl
        (sym plain.0) (sym plain.1) (cast_formed tree z (with_stars stars of) a f (stars_deep stars of d) h) g
        (rw g.part.keeps.types (omega (arith, p.0, long, r.types)))
        (λ c n i q. (
          n,
          cast_typed ((facts tree z).type_at token) (type_of (facts tree z) operand) (with_stars stars of) operand a
              (typed_as tree z token f.ctype q ∙ ap (known z.structs) fits.0) (typed_as tree z (token_of operand) a.ctype i) g.null fits.1,
        )))))
    walk_good (e.SizeOfType token b stars) at w s p l r =
        base_then b w (λ named_type v. operand_noted token (typed_sizeof v.structs (with_stars stars named_type)) v) r.tags (λ of d is.
        looks token (typed_sizeof w.structs (with_stars stars of)) w (λ f h.
        let k = measured_known b stars of f d is (measured_grows w.structs z.structs r.grows (with_stars stars of) f h) in
        leaf_good tree z at token (e.SizeOfType token b stars) f w p.0 (omega arith) refl (sym (ap (λ o. o.place) k.1)) (sym (ap (λ o. o.null) k.1)) k.0 r.types
        (λ c q. (k.2, q ∙ ap (λ o. known z.structs o.ctype) k.1))))
    walk_good (e.Call token name arguments) at w s p l r =
        let long : length (expr_kinds (e.Call token name arguments)) ≡ 3 + length (exprs_kinds arguments) = omega (arith, paren-length (exprs_kinds arguments)) in
        and_then (exprs_good arguments (at + 2) [] w s p.1 l
        (ready_in r (at + 2) (at + 2 + length (exprs_kinds arguments)) (omega arith) (omega (arith, long)))) (λ xs v g.
        record {
          by = call_good tree z ends at token name arguments w v xs (meaning_of name v.names) p.0 long
              (rw g.part.keeps.types (omega (arith, p.0, long, r.types)))
              (rw g.part.keeps.functions_at (omega (arith, p.0, long, r.functions_at)))
              ((g.part.below token (omega (arith, p.0))).functions ∙ r.fresh token (omega (arith, p.0)))
              (rw g.part.keeps.functions r.functions) (all_mean v.locals v.variables name v.names (g.part.keeps.slots r.slots)) g;
        })
    walk_good (e.Chain level first links) at w s p l r =
        let long : length (expr_kinds (e.Chain level first links)) ≡ length (expr_kinds first) + length (link_kinds links) =
        length-append (expr_kinds first) (link_kinds links) in
        and_then (walk_good first at w s.3 p.0 (all_first Lies (strings_in first) (strings_of_links links) l)
        (ready_in r at (at + length (expr_kinds first)) (omega arith) (omega (arith, long)))) (λ a v g.
        weaker (links_good links level (at + length (expr_kinds first)) (token_of first) a v s.0 s.5 p.1
        (all_second Lies (strings_in first) (strings_of_links links) l)
        (ready_after r g.part (omega arith) (omega arith) (omega arith) (at + length (expr_kinds first) + length (link_kinds links))
        (omega (arith, long))) g.formed)
        (λ b u k. record {
          part = so (wider {lo = at} {hi = at + length (expr_kinds first) + length (link_kinds links)}
              (rightwards {lo = at} {mid = at + length (expr_kinds first)} g.part k.part (omega arith) (omega arith)) (omega arith) (omega (arith, long)))
              (λ c n. (
                (
                  n.0.0,
                  subst IsValue (sym (typed_as tree z (token_of first) a.ctype n.0.1)) (k.value s.4),
                  subst (λ o. TypedLinks (facts tree z) none c (operand_type o (type_of (facts tree z) first)) links)
                      (sym (begins_is first a.null links g.null))
                      (subst (λ o. TypedLinks (facts tree z) none c (operand_type (heads_null a.null links) o) links)
                      (sym (typed_as tree z (token_of first) a.ctype n.0.1))
                      (n.1 n.0.1).0),
                ),
                (n.1 n.0.1).1,
              ));
          place = sym (link_plain links a b s.4 k.plain).0;
          null = sym (link_plain links a b s.4 k.plain).1;
          formed = k.formed;
        }))
    walk_good (e.Comma token (e.more_exprs x (e.more_exprs y ys))) at w s p l r =
        let long : length (expr_kinds (e.Comma token (e.more_exprs x (e.more_exprs y ys)))) ≡ length (expr_kinds x) + 1 + length
        (exprs_kinds (e.more_exprs y ys)) =
        omega (arith, length-append (expr_kinds x) (more_exprs_kinds (e.more_exprs y ys))) in
        let firsts : Gives (walk_exprs (e.more_exprs x (e.more_exprs y ys)) [] w) (Firsts at x (e.more_exprs y ys) w) =
        and_then (walk_good x at w s.1.1 p.1.0 (all_first Lies (strings_in x) (strings_of_all (e.more_exprs y ys)) l)
        (ready_in r at (at + length (expr_kinds x)) (omega arith) (omega (arith, long)))) (λ a v g.
        weaker (exprs_good (e.more_exprs y ys) (at + length (expr_kinds x) + 1) (a ∷ []) v s.1.2 p.1.1
        (all_second Lies (strings_in x) (strings_of_all (e.more_exprs y ys)) l)
        (ready_after r g.part (omega arith) (omega arith) (omega arith) (at + length (expr_kinds x) + 1 + length (exprs_kinds (e.more_exprs y ys)))
        (omega (arith, long))))
        (λ all u k. record { operand = a; middle = v; one = g; others = k })) in
        and_then firsts (λ all u f.
        looks token (typed_comma t.Void all) u (λ b h.
        let made = sequence_good tree z ends t.Void x (e.more_exprs y ys) f.operand f.others.own b (f.one.formed, f.others.formed)
        (subst (λ xs. Is (typed_comma t.Void xs) b) f.others.is h) in
        record {
          part = so (wider {lo = at} {hi = at + length (expr_kinds x) + 1 + length (exprs_kinds (e.more_exprs y ys))}
              (rightwards {lo = at} {mid = token} (wider f.one.part (omega arith) (omega (arith, p.0)))
              (leftwards {lo = token} {mid = token + 1} {hi = at + length (expr_kinds x) + 1 + length (exprs_kinds (e.more_exprs y ys))}
              (wider f.others.part (omega (arith, p.0)) (omega arith))
              (type_noted token b.ctype u (rw (f.others.part.keeps.types ∙ f.one.part.keeps.types) (omega (arith, p.0, long, r.types)))) (omega arith)
              (omega (arith, p.0))) (omega (arith, p.0)) (omega (arith, p.0))) (omega arith) (omega (arith, long)))
              (λ c n. (made.2 c ((facts tree z).type_at token) (n.0.0, n.0.1, f.one.null, n.1.0) (typed_as tree z token b.ctype n.1.1), n.1.1));
          place = sym made.1.0;
          null = sym made.1.1;
          formed = made.0;
        }))
    walk_good (e.Comma token (e.more_exprs x e.no_exprs)) at w s p l r = absurd s.0
    walk_good (e.Comma token e.no_exprs) at w s p l r = absurd s.0
    walk_good (e.Postfix primary operators) at w s p l r =
        let long : length (expr_kinds (e.Postfix primary operators)) ≡ length (expr_kinds primary) + length (postfix_kinds operators) =
        length-append (expr_kinds primary) (postfix_kinds operators) in
        and_then (walk_good primary at w s.1 p.0 (all_first Lies (strings_in primary) (strings_behind operators) l)
        (ready_in r at (at + length (expr_kinds primary)) (omega arith) (omega (arith, long)))) (λ a v g.
        weaker (postfix_good operators (at + length (expr_kinds primary)) (token_of primary) a v s.3 p.1
        (all_second Lies (strings_in primary) (strings_behind operators) l)
        (ready_after r g.part (omega arith) (omega arith) (omega arith) (at + length (expr_kinds primary) + length (postfix_kinds operators))
        (omega (arith, long)))
        g.formed (some_fit operators a s.2)) (λ b u k. record {
          part = so (wider {lo = at} {hi = at + length (expr_kinds primary) + length (postfix_kinds operators)}
              (rightwards {lo = at} {mid = at + length (expr_kinds primary)} g.part k.part (omega arith) (omega arith)) (omega arith) (omega (arith, long)))
              (λ c n. (
                (
                  n.0.0,
                  subst (λ q. TypedPostfix (facts tree z) none c q (variable_named (facts tree z) primary) (type_of (facts tree z) primary) operators)
                      (sym g.place) (subst (λ q. TypedPostfix (facts tree z) none c a.place (variable_named (facts tree z) primary) q operators)
                      (sym (typed_as tree z (token_of primary) a.ctype n.0.1)) ((n.1 n.0.1).0 (variable_named (facts tree z) primary))),
                ),
                (n.1 n.0.1).1,
              ));
          place = ap (λ q. ends_as_place q operators) g.place ∙ k.place;
          null = sym (k.null (inl s.2));
          formed = k.formed;
        }))

    pub exprs_good : (xs : ExprList) (at : ℕ) (before : List Operand) (w : Walk) → ShapedExprs xs → ExprsAt at xs → AllByRecursion Lies (strings_of_all xs)
        → Ready tree z at (at + length (exprs_kinds xs)) w → Gives (walk_exprs xs before w) (GoodList tree z at xs before w)
    exprs_good e.no_exprs at before w s p l r = record {
      by = record { own = []; is = sym (append-nil before); part = nothing_noted at (at + length (exprs_kinds e.no_exprs)) w (λ c. tt); formed = tt };
    }
    exprs_good (e.more_exprs x e.no_exprs) at before w s p l r =
        let long : length (exprs_kinds (e.more_exprs x e.no_exprs)) ≡ length (expr_kinds x) + 0 = length-append (expr_kinds x) [] in
        and_then (walk_good x at w s.1 p.0 (all_first Lies (strings_in x) [] l)
        (ready_in r at (at + length (expr_kinds x)) (omega arith) (omega (arith, long)))) (λ a v g.
        record {
          by = record {
            own = a ∷ [];
            is = refl;
            part = so (wider g.part (omega arith) (omega (arith, long))) (λ c q. (q.0, q.1, g.null, tt));
            formed = (g.formed, tt);
          };
        })
    exprs_good (e.more_exprs x (e.more_exprs y ys)) at before w s p l r =
        let long : length (exprs_kinds (e.more_exprs x (e.more_exprs y ys))) ≡ length (expr_kinds x) + 1 + length (exprs_kinds (e.more_exprs y ys)) =
        omega (arith, length-append (expr_kinds x) (more_exprs_kinds (e.more_exprs y ys))) in
        and_then (walk_good x at w s.1 p.0 (all_first Lies (strings_in x) (strings_of_all (e.more_exprs y ys)) l)
        (ready_in r at (at + length (expr_kinds x)) (omega arith) (omega (arith, long)))) (λ a v g.
        weaker (exprs_good (e.more_exprs y ys) (at + length (expr_kinds x) + 1) (before ++ a ∷ []) v s.2 p.1
        (all_second Lies (strings_in x) (strings_of_all (e.more_exprs y ys)) l)
        (ready_after r g.part (omega arith) (omega arith) (omega arith) (at + length (expr_kinds x) + 1 + length (exprs_kinds (e.more_exprs y ys)))
        (omega (arith, long))))
        (λ all u k. record {
          own = a ∷ k.own;
          is = k.is ∙ append_assoc before (a ∷ []) k.own;
          part = so (wider {lo = at} {hi = at + length (expr_kinds x) + 1 + length (exprs_kinds (e.more_exprs y ys))}
              (rightwards {lo = at} {mid = at + length (expr_kinds x) + 1} (wider g.part (omega arith) (omega arith)) k.part (omega arith) (omega arith))
              (omega arith) (omega (arith, long))) (λ c q. (q.0.0, q.0.1, g.null, q.1));
          formed = (g.formed, k.formed);
        }))

    pub links_good : (links : LinkList) (level at first : ℕ) (a : Operand) (w : Walk) → 1 ≤ level → ShapedLinks level links → LinksAt at links
        → AllByRecursion Lies (strings_of_links links) → Ready tree z at (at + length (link_kinds links)) w → Formed tree z a
        → Gives (walk_links links a w) (GoodLinks at first links a w)
    links_good e.no_links level at first a w one s p l r f = record {
      by = record { part = nothing_noted at (at + length (link_kinds e.no_links)) w (λ c h. (tt, h)); value = λ h. absurd h; plain = λ q. q; formed = f };
    }
    links_good (e.more_links token sign operand rest) level at first a w one s p l r f =
        let long : length (link_kinds (e.more_links token sign operand rest)) ≡ 1 + length (expr_kinds operand) + length (link_kinds rest) =
        omega (arith, length-append (expr_kinds operand) (link_kinds rest)) in
        and_then (walk_good operand (at + 1) w s.2 p.1 (all_first Lies (strings_in operand) (strings_of_links rest) l)
        (ready_in r (at + 1) (at + 1 + length (expr_kinds operand)) (omega arith) (omega (arith, long)))) (λ b v g.
        let step : Gives (operand_noted token (typed_chain_operation v.structs (binary_of sign) a b) v) (Linked at token sign operand a b w) =
        looks token (typed_chain_operation v.structs (binary_of sign) a b) v (λ d h.
        let i : Is (typed_chain_operation z.structs (binary_of sign) a b) d = chained_grows (binary_of sign) v a b d (rw g.part.keeps.structs r.grows) h in
        let made : Formed tree z d × Plain d = chained_formed (binary_of sign) a b d f g.formed i in
        record {
          part = leftwards {lo = at} {mid = at + 1} {hi = at + 1 + length (expr_kinds operand)} g.part (wider {lo = token} {hi = token + 1}
              (type_noted token d.ctype v (rw g.part.keeps.types (omega (arith, p.0, long, r.types)))) (omega (arith, p.0)) (omega (arith, p.0)))
              (omega arith) (omega arith);
          formed = made.0;
          plain = made.1;
          fits = link_fits z.structs a b d (steps_known tree z a.ctype f.deep) (steps_known tree z b.ctype g.formed.deep) f.null g.formed.null sign
              (subst (λ n. 1 ≤ n) (sym s.0) one) i;
          null = g.null;
        }) in
        and_then step (λ d u q.
        weaker (links_good rest level (at + 1 + length (expr_kinds operand)) token d u one s.3 p.2
        (all_second Lies (strings_in operand) (strings_of_links rest) l)
        (ready_after r q.part (omega arith) (omega arith) (omega arith) (at + 1 + length (expr_kinds operand) + length (link_kinds rest))
        (omega (arith, long))) q.formed)
        (λ x y k. record {
          part = so (wider {lo = at} {hi = at + 1 + length (expr_kinds operand) + length (link_kinds rest)}
              (rightwards {lo = at} {mid = at + 1 + length (expr_kinds operand)} q.part k.part (omega arith) (omega arith)) (omega arith) (omega (arith, long)))
              (λ c n h. (
                (
                  n.0.0.0,
                  subst IsValue (sym (typed_as tree z (token_of operand) b.ctype n.0.0.1)) q.fits.1,
                  joins_by sign (type_of (facts tree z) operand) ((facts tree z).type_at token) (known z.structs a.ctype) (known z.structs b.ctype)
                      (known z.structs d.ctype) a.null b.null operand (typed_as tree z (token_of operand) b.ctype n.0.0.1)
                      (typed_as tree z token d.ctype n.0.1) q.null q.fits.2,
                  rest_typed c ((facts tree z).type_at token) d rest (typed_as tree z token d.ctype n.0.1) q.plain.1 (n.1 n.0.1).0,
                ),
                (n.1 n.0.1).1,
              ));
          value = λ h. q.fits.0;
          plain = ends_plain rest d x k.plain q.plain;
          formed = k.formed;
        })))

    pub postfix_good : (rest : PostfixList) (at first : ℕ) (a : Operand) (w : Walk) → ShapedPostfix rest → PostfixAt at rest
        → AllByRecursion Lies (strings_behind rest) → Ready tree z at (at + length (postfix_kinds rest)) w → Formed tree z a → EndsFit rest a
        → Gives (walk_postfix rest a w) (GoodPostfix at first rest a w)
    postfix_good e.no_postfix at first a w s p l r f n = record {
      by = record {
        part = nothing_noted at (at + length (postfix_kinds e.no_postfix)) w (λ c h. (λ s. n, h));
        place = refl;
        null = λ h. only_second a h;
        formed = f;
      };
    }
    postfix_good (e.member token name rest) at first a w s p l r f n =
        and_then (selected_good at token a.place (member_of w.structs name a.ctype) (Unit {0}) w p.0
        (λ m h. ((member_whole w name a.ctype m r.structs h).0, tt))
        (λ m h. f.place (member_whole w name a.ctype m r.structs h).1) (omega (arith, r.types)) (omega (arith, r.offsets_at))) (λ d u q.
        weaker (postfix_good rest (at + 2) token d u s p.1 l (ready_after r q.part (omega arith) (omega arith) (omega arith)
        (at + 2 + length (postfix_kinds rest)) (omega arith)) q.formed (ends_fit rest d (subst (λ y. OperatorsEnd y (known z.structs d.ctype)) (sym q.place) q.last)))
        (λ b v k. behind_good at (at + 2) (at + 2 + length (postfix_kinds rest)) first token true _ (e.member token name rest) rest a d b w u v
        (omega arith) refl
        (omega arith) refl refl (λ c i j y. (i.1, i.2, j)) q k))
    postfix_good (e.arrow token name rest) at first a w s p l r f n =
        and_then (selected_good at token true (member_behind w.structs name (rule.value_type a)) (is_pointer (rule.value_type a) ≡ true) w p.0
        (λ m h. behind_whole w name (rule.value_type a) m r.structs h) (λ m h. refl) (omega (arith, r.types)) (omega (arith, r.offsets_at))) (λ d u q.
        weaker (postfix_good rest (at + 2) token d u s p.1 l (ready_after r q.part (omega arith) (omega arith) (omega arith)
        (at + 2 + length (postfix_kinds rest)) (omega arith)) q.formed (ends_fit rest d (subst (λ y. OperatorsEnd y (known z.structs d.ctype)) (sym q.place) q.last)))
        (λ b v k. behind_good at (at + 2) (at + 2 + length (postfix_kinds rest)) first token true _ (e.arrow token name rest) rest a d b w u v
        (omega arith) refl
        (omega arith) refl refl (λ c i j y. (pointer_pointing z.structs a.ctype i.0, i.2, j)) q k))
    postfix_good (e.increment token rest) at first a w s p l r f n =
        and_then (stepped_behind true at token a w p.0 f r.grows (omega (arith, r.types))) (λ d u q.
        weaker (postfix_good rest (at + 1) token d u s p.1 l (ready_after r q.part (omega arith) (omega arith) (omega arith)
        (at + 1 + length (postfix_kinds rest)) (omega arith)) q.formed (ends_fit rest d (subst (λ y. OperatorsEnd y (known z.structs d.ctype)) (sym q.place) q.last)))
        (λ b v k. behind_good at (at + 1) (at + 1 + length (postfix_kinds rest)) first token false _ (e.increment token rest) rest a d b w u v
        (omega arith) refl
        (omega arith) refl refl (λ c i j y. (i.0, i.1 y, j)) q k))
    postfix_good (e.decrement token rest) at first a w s p l r f n =
        and_then (stepped_behind false at token a w p.0 f r.grows (omega (arith, r.types))) (λ d u q.
        weaker (postfix_good rest (at + 1) token d u s p.1 l (ready_after r q.part (omega arith) (omega arith) (omega arith)
        (at + 1 + length (postfix_kinds rest)) (omega arith)) q.formed (ends_fit rest d (subst (λ y. OperatorsEnd y (known z.structs d.ctype)) (sym q.place) q.last)))
        (λ b v k. behind_good at (at + 1) (at + 1 + length (postfix_kinds rest)) first token false _ (e.decrement token rest) rest a d b w u v
        (omega arith) refl
        (omega arith) refl refl (λ c i j y. (i.0, i.1 y, j)) q k))
    postfix_good (e.index token x rest) at first a w s p l r f n =
        let long : length (postfix_kinds (e.index token x rest)) ≡ 2 + length (expr_kinds x) + length (postfix_kinds rest) =
        omega (arith, length-append (expr_kinds x ++ a_sign sign.RightBracket) (postfix_kinds rest), length-append (expr_kinds x) (a_sign sign.RightBracket)) in
        and_then (walk_good x (at + 1) w s.0 p.1 (all_first Lies (strings_in x) (strings_behind rest) l)
        (ready_in r (at + 1) (at + 1 + length (expr_kinds x)) (omega arith) (omega (arith, long)))) (λ b v g.
        let step : Gives (operand_noted token (typed_subscript v.structs a b) v) (Followed at token (at + 1 + length (expr_kinds x) + 1) true
        (λ c. Fits tree z c x × Moves (operation op.Add (known z.structs a.ctype) (type_of (facts tree z) x)) (known z.structs a.ctype)
        (type_of (facts tree z) x)) w) =
        looks token (typed_subscript v.structs a b) v (λ d h.
        let i : Is (typed_subscript z.structs a b) d = indexed_grows v.structs z.structs (rw g.part.keeps.structs r.grows) a b d h in
        let fits = indexed_fits z.structs a b d (steps_known tree z a.ctype f.deep) (steps_known tree z b.ctype g.formed.deep) i in
        record {
          part = so (wider {lo = at} {hi = at + 1 + length (expr_kinds x)} (leftwards {lo = at} {mid = at + 1} g.part (wider {lo = token} {hi = token + 1}
              (type_noted token d.ctype v (rw g.part.keeps.types (omega (arith, p.0, long, r.types)))) (omega (arith, p.0)) (omega (arith, p.0)))
              (omega arith) (omega arith))
              (omega arith) (omega arith)) (λ c m. (
                (
                  m.0.0,
                  subst (λ u. Moves (operation op.Add (known z.structs a.ctype) u) (known z.structs a.ctype) u)
                      (sym (typed_as tree z (token_of x) b.ctype m.0.1)) fits.0,
                ),
                m.1,
              ));
          place = fits.1;
          null = indexed_no_null z.structs a b d i;
          formed = indexed_formed tree z a b d f g.formed i;
          last = fits.2;
        }) in
        and_then step (λ d u q.
        weaker (postfix_good rest (at + 1 + length (expr_kinds x) + 1) token d u s.1 p.2 (all_second Lies (strings_in x) (strings_behind rest) l)
        (ready_after r q.part (omega arith) (omega arith) (omega arith) (at + 1 + length (expr_kinds x) + 1 + length (postfix_kinds rest))
        (omega (arith, long)))
        q.formed (ends_fit rest d (subst (λ y. OperatorsEnd y (known z.structs d.ctype)) (sym q.place) q.last)))
        (λ b v k. behind_good at (at + 1 + length (expr_kinds x) + 1) (at + 1 + length (expr_kinds x) + 1 + length (postfix_kinds rest)) first token true _
        (e.index token x rest) rest a d b w u v (omega (arith, long)) refl (omega arith) refl refl (λ c i j y. (i.0, i.1, j)) q k)))
