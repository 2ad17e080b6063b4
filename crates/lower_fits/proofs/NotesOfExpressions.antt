-- What the walk through expressions notes: types that point to what has steps, and offsets within the limit.
use Rattle.std.proofs.Common.{◌≡◌, ℕ, ◌≤◌, refl, ap, subst, sym, ◌∙◌, List, [], ◌∷◌, ◌++◌, Some, None, Ok, Err, Bool, true, false}
use Rattle.std.specs.Prelude.{IfSome, Option, Result, if◌then◌else◌, slice_get}
use Rattle.std.specs.List.{AllByRecursion}
use Rattle.c_types_expressions.proofs.Given.{Gives, and_then}
use Rattle.base_lists.proofs.Every.{all_at, all_join}
use Rattle.c_syntax.specs.declared.parts.Base.{Base}
use Rattle.c_syntax.specs.declared.parts.Base.TheVariants as base
use Rattle.c_syntax.specs.ExprTree as e
use Rattle.c_syntax.specs.Words.{ExprTree, ExprList, LinkList, PostfixList, SourceTree}
use Rattle.c_types_rules.specs.declared.fault.FaultKind.{FaultKind}
use Rattle.c_types_rules.specs.declared.layout.Member.{Member}
use Rattle.c_types_rules.specs.declared.layout.StructType.{StructType}
use Rattle.c_types_rules.specs.declared.operand.Operand.{Operand}
use Rattle.c_types_rules.specs.TypeTree as t
use Rattle.c_types_rules.specs.Words.{TypeTree, constant_of, decayed_type, parenthesized_operand, null_of, place_of, string_of, value_of, OperandOrFault, library_called, cast_to}
use Rattle.c_types_rules.specs.Words.{typed_sizeof, typed_increment, typed_conditional, typed_subscript, known_member, member_behind, member_in, member_named, member_of, typed_comma}
use Rattle.c_types_rules.specs.Conversions as rule
use Rattle.c_types_rules.specs.Functions as function
use Rattle.c_types_expressions.specs.declared.names.Meaning.{Meaning}
use Rattle.c_types_expressions.specs.declared.names.Meaning.TheVariants as meaning
use Rattle.c_types_expressions.specs.declared.walk.FunctionEntry.{FunctionEntry}
use Rattle.c_types_expressions.specs.declared.walk.Walk.{Walk}
use Rattle.c_types_expressions.specs.Words.{typed_assignment, base_type, binary_of, called_name, typed_chain_operation, compound_of, format_of, is_printf, operand_noted, named_operand}
use Rattle.c_types_expressions.specs.Words.{of_function, of_variable, typed_prefix_operation, selected_member, string_cells, tagged_type, walk_expr, walk_exprs, walk_links}
use Rattle.c_types_expressions.specs.Words.{walk_postfix, walk_whole, with_call, with_offset, with_stars, with_use, declared_meaning, meaning_of, Walked, ◌>>=◌, with_type}
use Rattle.flow.specs.Nodes.{step_limit}
use Rattle.c_meaning_sound.proofs.Ending.{Sums, core_is_deep}
use Rattle.c_meaning_sound.proofs.Noting.{Deep}
use Rattle.c_meaning_sound.proofs.Reaching.{Flat, stars_flat}
use Rattle.lower_fits.proofs.Lists.{AllNoted, all_replaced}
use Rattle.lower_fits.proofs.Pointing.{Leads, Steady, assigning_leads, called_leads, cast_leads, chained_leads, chosen_leads, constant_steady, enclosed_steady}
use Rattle.lower_fits.proofs.Pointing.{format_leads, indexed_leads, library_leads, measured_leads, null_steady, place_steady, prefixed_leads}
use Rattle.lower_fits.proofs.Pointing.{sequenced_leads, stepped_leads, string_steady, value_steady}

-- an offset within the limit
abbrev pub IsNear : ℕ → Type 0
IsNear offset = offset ≤ step_limit

-- one of two parts of the walk
pub either_gives : {A : Type 0} {Q : A → Walk → Type 0} (b : Bool) (m k : Walked A) → Gives m Q → Gives k Q → Gives (if b then m else k) Q
either_gives true m k h g = h
either_gives false m k h g = g

-- a tag leaves all as it was, and names no array
tag_then : {A : Type 0} {Q : A → Walk → Type 0} (token : ℕ) (m : Option Meaning) (w : Walk) (k : TypeTree → Walk → Walked A)
    → ((of : TypeTree) → ((n : ℕ) → Flat (with_stars n of)) → Gives (k of w) Q) → Gives (tagged_type token m w >>= k) Q
tag_then token (Some (meaning.Struct index)) w k h = h (t.Struct index) (λ n. stars_flat n (t.Struct index) tt)
tag_then token m w k h = record { by = tt }

-- so does a base
pub base_then : {A : Type 0} {Q : A → Walk → Type 0} (b : Base) (w : Walk) (k : TypeTree → Walk → Walked A)
    → ((of : TypeTree) → ((n : ℕ) → Flat (with_stars n of)) → Gives (k of w) Q) → Gives (base_type b w >>= k) Q
base_then (base.Void token) w k h = h t.Void (λ n. stars_flat n t.Void tt)
base_then (base.Char token) w k h = h t.Char (λ n. stars_flat n t.Char tt)
base_then (base.Int token) w k h = h t.Int (λ n. stars_flat n t.Int tt)
base_then (base.Unsigned token int) w k h = h t.Unsigned (λ n. stars_flat n t.Unsigned tt)
base_then (base.Struct token tag) w k h = tag_then token (declared_meaning tag w.tags) w k h

module _ (tree : SourceTree) (z : Walk) where
  -- what the value of an operand of the type points to has steps
  abbrev pub Points : TypeTree → Type 0
  Points of = Deep tree z (decayed_type of)

  -- so it is with all types that were noted, and with those of variables; and offsets are within the limit
  pub record Noted (w : Walk) : Type 0 where
    pub types : AllNoted Points w.types
    pub offsets : AllNoted IsNear w.offsets_at
    pub declared : AllByRecursion (Deep tree z) w.declared_types

  -- a member is of a type whose pointers have steps, and its offset is within the limit
  abbrev pub MemberFits : Member → Type 0
  MemberFits m = Deep tree z m.ctype × IsNear m.offset

  -- so is each member of these structs
  abbrev pub MembersFit : List StructType → Type 0
  MembersFit structs = (tag : ℕ) (s : StructType) → slice_get structs tag ≡ Some s → (name : List ℕ) (m : Member) → member_named name s.members ≡ Some m
      → MemberFits m

  -- what these functions give has steps
  abbrev pub ResultsFit : List FunctionEntry → Type 0
  ResultsFit functions = (index : ℕ) (f : FunctionEntry) → slice_get functions index ≡ Some f → Deep tree z f.ctype.gives

module _ (tree : SourceTree) (z : Walk) (sums : Sums z) (structs : List StructType) (functions : List FunctionEntry)
    (members : MembersFit tree z structs) (results : ResultsFit tree z functions) where
  -- within an item these structs and functions are known
  pub record Known (w : Walk) : Type 0 where
    pub structs_are : w.structs ≡ structs
    pub functions_are : w.functions ≡ functions
    pub noted : Noted tree z w

  -- an operand, and what is known behind it
  abbrev pub Good : Operand → Walk → Type 0
  Good x v = Steady tree z x × Known v

  -- several operands, and what is known behind them
  abbrev pub AllGood : List Operand → Walk → Type 0
  AllGood xs v = AllByRecursion (Steady tree z) xs × Known v

  -- a named pointer type points to a type of known size, so arithmetic on it is defined
  pub named_deep : (of : TypeTree) → Flat of → Deep tree z of
  named_deep of h = core_is_deep tree z sums of h

  -- a type is noted
  typed_known : (token : ℕ) (of : TypeTree) (w : Walk) → Known w → Points tree z of → Known (with_type token of w)
  typed_known token of w k d = record {
    structs_are = k.structs_are;
    functions_are = k.functions_are;
    noted = record {
      types = all_replaced (λ o. IfSome o (Points tree z)) w.types token (Some of) k.noted.types d;
      offsets = k.noted.offsets;
      declared = k.noted.declared;
    };
  }

  -- a use of a variable is noted
  use_known : (token index : ℕ) (w : Walk) → Known w → Known (with_use token index w)
  use_known token index w k = record {
    structs_are = k.structs_are;
    functions_are = k.functions_are;
    noted = record { types = k.noted.types; offsets = k.noted.offsets; declared = k.noted.declared };
  }

  -- a call is noted
  call_known : (token index : ℕ) (w : Walk) → Known w → Known (with_call token index w)
  call_known token index w k = record {
    structs_are = k.structs_are;
    functions_are = k.functions_are;
    noted = record { types = k.noted.types; offsets = k.noted.offsets; declared = k.noted.declared };
  }

  -- an offset is noted
  offset_known : (token offset : ℕ) (w : Walk) → Known w → IsNear offset → Known (with_offset token offset w)
  offset_known token offset w k near = record {
    structs_are = k.structs_are;
    functions_are = k.functions_are;
    noted = record {
      types = k.noted.types;
      offsets = all_replaced (λ o. IfSome o IsNear) w.offsets_at token (Some offset) k.noted.offsets near;
      declared = k.noted.declared;
    };
  }

  -- a construct that is looked at
  looked_good : (token : ℕ) (r : OperandOrFault) (w : Walk) → Known w → Leads tree z r → Gives (operand_noted token r w) Good
  looked_good token (Ok x) w k f = record { by = (f, typed_known token x.ctype w k f.deep) }
  looked_good token (Err kind) w k f = record { by = tt }

  -- a name of the variable at a place
  variable_good : (token index : ℕ) (o : Option TypeTree) (w : Walk) → slice_get w.declared_types index ≡ o → Known w
      → Gives (of_variable token index o w) Good
  variable_good token index None w h k = record { by = tt }
  variable_good token index (Some of) w h k = looked_good token (Ok (place_of of)) (with_use token index w) (use_known token index w k)
      (place_steady tree z of (all_at (Deep tree z) w.declared_types index of k.noted.declared h))

  -- a name that is not called
  named_good : (token : ℕ) (m : Option Meaning) (w : Walk) → Known w → Gives (named_operand token m w) Good
  named_good token (Some (meaning.Variable index)) w k = variable_good token index (slice_get w.declared_types index) w refl k
  named_good token m w k = record { by = tt }

  -- a call of the function at a place
  function_good : (token index : ℕ) (o : Option FunctionEntry) (xs : List Operand) (w : Walk) → slice_get w.functions index ≡ o → Known w
      → Gives (of_function token index o xs w) Good
  function_good token index None xs w h k = record { by = tt }
  function_good token index (Some f) xs w h k =
      let here : slice_get functions index ≡ Some f = ap (λ fs. slice_get fs index) (sym k.functions_are) ∙ h in
      looked_good token (function.typed_call f.ctype xs) (with_call token index w) (call_known token index w k)
      (called_leads tree z f.ctype xs (results index f here))

  -- a name that is called
  called_good : (token : ℕ) (m : Option Meaning) (xs : List Operand) (w : Walk) → Known w → Gives (called_name token m xs w) Good
  called_good token (Some (meaning.Function index)) xs w k = function_good token index (slice_get w.functions index) xs w refl k
  called_good token (Some (meaning.Library own)) xs w k = looked_good token (library_called own xs) w k (library_leads tree z own xs)
  called_good token m xs w k = record { by = tt }

  -- the member that a rule answers fits
  abbrev MemberLeads : Result Member FaultKind → Type 0
  MemberLeads (Ok m) = MemberFits tree z m
  MemberLeads (Err kind) = Unit {0}

  -- a member, or a fault where there is none
  known_leads : (o : Option Member) → ((m : Member) → o ≡ Some m → MemberFits tree z m) → MemberLeads (known_member o)
  known_leads None h = tt
  known_leads (Some m) h = h m refl

  -- a member of the struct with a number
  in_leads : (name : List ℕ) (tag : ℕ) (o : Option StructType) → slice_get structs tag ≡ o → MemberLeads (member_in name o)
  in_leads name tag None h = tt
  in_leads name tag (Some s) h = known_leads (member_named name s.members) (members tag s h name)

  -- a member of a struct
  member_leads : (name : List ℕ) (of : TypeTree) → MemberLeads (member_of structs name of)
  member_leads name (t.Struct tag) = in_leads name tag (slice_get structs tag) refl
  member_leads name of = tt

  -- a member of the struct that is pointed to
  behind_leads : (name : List ℕ) (of : TypeTree) → MemberLeads (member_behind structs name of)
  behind_leads name (t.Pointer to) = member_leads name to
  behind_leads name of = tt

  -- a member is selected
  selected_good : (token : ℕ) (is_place : Bool) (r : Result Member FaultKind) (w : Walk) → Known w → MemberLeads r → Gives (selected_member token is_place r w) Good
  selected_good token is_place (Err kind) w k f = record { by = tt }
  selected_good token is_place (Ok m) w k f =
      let steady : Steady tree z (place_of m.ctype) = place_steady tree z m.ctype f.0 in
      looked_good token (Ok (record { ctype = m.ctype; place = is_place; null = false })) (with_offset token m.offset w)
      (offset_known token m.offset w k f.1) (record { deep = steady.deep; place = λ e. f.0 })

  -- expressions: each operand is steady, and what is noted of its parts is known
  mutual
    -- an expression
    pub expr_good : (x : ExprTree) (w : Walk) → Known w → Gives (walk_expr x w) Good
    expr_good (e.Comma token operands) w k = and_then (exprs_good operands [] w k tt) (λ xs v g.
        looked_good token (typed_comma t.Void xs) v g.1 (sequenced_leads tree z t.Void xs tt g.0))
    expr_good (e.Assign token s target value) w k = and_then (expr_good target w k) (λ x v g. and_then (expr_good value v g.1) (λ y u h.
        looked_good token (typed_assignment u.structs (compound_of s) x y) u h.1 (assigning_leads tree z u.structs (compound_of s) x y g.0 h.0)))
    expr_good (e.Conditional token condition first second) w k = and_then (expr_good condition w k) (λ c v g. and_then (expr_good first v g.1) (λ x u h.
        and_then (expr_good second u h.1) (λ y r i. looked_good token (typed_conditional c x y) r i.1 (chosen_leads tree z c x y h.0 i.0))))
    expr_good (e.Chain level first links) w k = and_then (expr_good first w k) (λ x v g. links_good links x v g.0 g.1)
    expr_good (e.Cast token b stars operand) w k =
        base_then b w (λ of v. walk_expr operand v >>= λ x u. operand_noted token (cast_to (with_stars stars of) x) u) (λ of flat.
        and_then (expr_good operand w k) (λ x u g.
        looked_good token (cast_to (with_stars stars of) x) u g.1 (cast_leads tree z (with_stars stars of) x (named_deep (with_stars stars of) (flat stars)))))
    expr_good (e.Prefix token operator operand) w k = and_then (expr_good operand w k) (λ x v g.
        looked_good token (typed_prefix_operation v.structs operator x) v g.1 (prefixed_leads tree z v.structs operator x g.0))
    expr_good (e.SizeOfType token b stars) w k = base_then b w (λ of v. operand_noted token (typed_sizeof v.structs (with_stars stars of)) v) (λ of flat.
        looked_good token (typed_sizeof w.structs (with_stars stars of)) w k (measured_leads tree z w.structs (with_stars stars of)))
    expr_good (e.Postfix primary operators) w k = and_then (expr_good primary w k) (λ x v g. postfix_good operators x v g.0 g.1)
    expr_good (e.Name token name) w k = named_good token (meaning_of name w.names) w k
    expr_good (e.Call token name arguments) w k = and_then (exprs_good arguments [] w k tt) (λ xs v g.
        called_good token (meaning_of name v.names) xs v g.1)
    expr_good (e.Constant token own value) w k = looked_good token (Ok (constant_of own value)) w k (constant_steady tree z own (constant_of own value).null)
    expr_good (e.Strings token parts) w k = looked_good token (Ok (string_of (string_cells parts))) w k (string_steady tree z (string_cells parts))
    expr_good (e.Paren token inner) w k = and_then (expr_good inner w k) (λ x v g. looked_good token (Ok (parenthesized_operand x)) v g.1 (enclosed_steady tree z x g.0))
    expr_good (e.Null token) w k = looked_good token (Ok null_of) w k (null_steady tree z)
    expr_good (e.EndOfFile token) w k = looked_good token (Ok (value_of t.Int)) w k (value_steady tree z t.Int tt)

    -- several expressions
    pub exprs_good : (xs : ExprList) (before : List Operand) (w : Walk) → Known w → AllByRecursion (Steady tree z) before
        → Gives (walk_exprs xs before w) AllGood
    exprs_good e.no_exprs before w k f = record { by = (f, k) }
    exprs_good (e.more_exprs x rest) before w k f = and_then (expr_good x w k) (λ y v g.
        exprs_good rest (before ++ y ∷ []) v g.1 (all_join (Steady tree z) before (y ∷ []) f (g.0, tt)))

    -- the operators of a chain, behind an operand
    links_good : (links : LinkList) (left : Operand) (w : Walk) → Steady tree z left → Known w → Gives (walk_links links left w) Good
    links_good e.no_links left w f k = record { by = (f, k) }
    links_good (e.more_links token s operand rest) left w f k = and_then (expr_good operand w k) (λ right v g.
        and_then (looked_good token (typed_chain_operation v.structs (binary_of s) left right) v g.1 (chained_leads tree z v.structs (binary_of s) left right f g.0)) (λ x u h.
        links_good rest x u h.0 h.1))

    -- the operators behind an operand
    postfix_good : (operators : PostfixList) (left : Operand) (w : Walk) → Steady tree z left → Known w → Gives (walk_postfix operators left w) Good
    postfix_good e.no_postfix left w f k = record { by = (f, k) }
    postfix_good (e.index token x rest) left w f k = and_then (expr_good x w k) (λ right v g.
        and_then (looked_good token (typed_subscript v.structs left right) v g.1 (indexed_leads tree z v.structs left right f g.0)) (λ y u h.
        postfix_good rest y u h.0 h.1))
    postfix_good (e.member token name rest) left w f k =
        and_then (selected_good token left.place (member_of w.structs name left.ctype) w k
        (subst (λ own. MemberLeads (member_of own name left.ctype)) (sym k.structs_are) (member_leads name left.ctype))) (λ y u h.
        postfix_good rest y u h.0 h.1)
    postfix_good (e.arrow token name rest) left w f k =
        and_then (selected_good token true (member_behind w.structs name (rule.value_type left)) w k
        (subst (λ own. MemberLeads (member_behind own name (rule.value_type left))) (sym k.structs_are) (behind_leads name (rule.value_type left)))) (λ y u h.
        postfix_good rest y u h.0 h.1)
    postfix_good (e.increment token rest) left w f k =
        and_then (looked_good token (typed_increment w.structs left) w k (stepped_leads tree z w.structs left f)) (λ y u h. postfix_good rest y u h.0 h.1)
    postfix_good (e.decrement token rest) left w f k =
        and_then (looked_good token (typed_increment w.structs left) w k (stepped_leads tree z w.structs left f)) (λ y u h. postfix_good rest y u h.0 h.1)

  -- the whole expression of a statement
  pub whole_good : (x : ExprTree) (w : Walk) → Known w → Gives (walk_whole x w) Good
  whole_good (e.Call token name arguments) w k = and_then (exprs_good arguments [] w k tt) (λ xs v g.
      either_gives (is_printf (meaning_of name v.names)) (operand_noted token (format_of arguments xs) v) (called_name token (meaning_of name v.names) xs v)
      (looked_good token (format_of arguments xs) v g.1 (format_leads tree z arguments xs)) (called_good token (meaning_of name v.names) xs v g.1))
  whole_good x w k = expr_good x w k
