-- The expression of a statement: a call of `printf`, whose arguments are as its format takes them, or any other expression.
use Rattle.std.proofs.Common.{inl, inr, ◌≡◌, ℕ, ◌<◌, refl, ap, subst, sym, ◌∙◌, arith, List, [], ◌∷◌, ◌++◌, Some, None, ◌+◌, Ok, Err, Bool, true, false, length}
use Rattle.std.specs.Prelude.{Option, if◌then◌else◌}
use Rattle.std.specs.List.{AllByRecursion, flat_map}
use Rattle.std.specs.Option.{option_and_then}
use Rattle.cbi_base.specs.Printing.{pieces_of}
use Rattle.c_types_expressions.proofs.Given.{Gives, and_then, looks, weaker}
use Rattle.base_lists.proofs.Lists.{Stays}
use Rattle.c_syntax.specs.Words.{SourceTree, ExprTree, ExprList, ExprAt, ShapedExpr, expr_kinds, exprs_kinds}
use Rattle.c_syntax.specs.ExprTree as e
use Rattle.c_types_rules.specs.declared.fault.FaultKind.TheVariants as fault
use Rattle.c_types_rules.specs.declared.library.Library.TheVariants as library
use Rattle.c_types_rules.specs.declared.operand.Operand.{Operand}
use Rattle.c_types_rules.specs.TypeTree as t
use Rattle.c_types_rules.specs.Words.{value_of, fits_format, library_named, typed_printf}
use Rattle.c_types_expressions.specs.declared.names.Meaning.{Meaning}
use Rattle.c_types_expressions.specs.declared.names.Meaning.TheVariants as meaning
use Rattle.c_types_expressions.specs.declared.walk.Walk.{Walk}
use Rattle.c_types.specs.Answers.{note_at}
use Rattle.c_types_expressions.specs.Words.{called_name, concatenated_strings, format_of, operand_noted, walk_whole, whole_call, meaning_of}
use Rattle.flow.specs.declared.program.Text.{Text}
use Rattle.c_meaning.specs.declared.value_type.ValueType.{ValueType}
use Rattle.c_meaning.specs.Words.{types_taken, strings_in, strings_of_all, text_of_string, called_as, library_call}
use Rattle.c_meaning_laws.specs.Typed.{TypedArguments}
use Rattle.c_meaning_laws.specs.TypedStatements.{FitsFormat, IsPrint, TypedFormat, TypedPrint, TypedWhole}
use Rattle.c_meaning_laws.proofs.Ruled.{Is}
use Rattle.c_meaning_laws.proofs.RuledCalls.{format_fits}
use Rattle.c_meaning_sound.proofs.Calling.{call_good, library_noted}
use Rattle.c_meaning_sound.proofs.Expressions.{exprs_good, walk_good}
use Rattle.c_meaning_sound.proofs.Forming.{Ended}
use Rattle.c_meaning_sound.proofs.Initialising.{spelled_lies}
use Rattle.c_meaning_sound.proofs.Naming.{Means, all_mean}
use Rattle.c_meaning_sound.proofs.Noting.{Part, Ready, facts, leftwards, none, ready_in, so, wider}
use Rattle.c_meaning_sound.proofs.Operands.{Good, GoodList, Matched, matched_arguments}
use Rattle.c_meaning_sound.proofs.Texts.{Spelled}
use Rattle.sites.proofs.Rises.{paren-length}

pub flat_same : (parts : List (List ℕ)) → concatenated_strings parts ≡ flat_map (λ bytes. bytes) parts
flat_same [] = refl
flat_same (part ∷ parts) = ap (λ bytes. part ++ bytes) (flat_same parts)

printed_by : (b : Bool) (x : Operand) → Is (if b then Ok (value_of t.Int) else Err fault.Arguments) x → b ≡ true
printed_by true x h = refl
printed_by false x h = cc

module _ (tree : SourceTree) (z : Walk) (ends : Ended tree z) where
  -- the format, and its arguments
  text_format : (o : Option Text) (bytes : List ℕ) (Arguments : List ValueType → Type 0) → o ≡ Some (record { bytes = bytes })
      → Arguments (types_taken (pieces_of bytes)) → FitsFormat o Arguments
  text_format o bytes Arguments h k = subst (λ o. FitsFormat o Arguments) (sym h) k

  strings_printed : (c token : ℕ) (parts : List (List ℕ)) (rest : ExprList) (own : List Operand) (b : Operand) → Is (typed_printf (concatenated_strings parts) own) b
      → Matched tree z c rest own → Spelled tree (record { token = token; bytes = flat_map (λ bytes. bytes) parts })
      → FitsFormat (text_of_string (facts tree z) (e.Strings token parts)) (λ types. TypedArguments (facts tree z) none c types rest)
  strings_printed c token parts rest own b h m l =
      let fits : fits_format (flat_map (λ bytes. bytes) parts) own ≡ true =
      subst (λ bytes. fits_format bytes own ≡ true) (flat_same parts) (printed_by (fits_format (concatenated_strings parts) own) b h) in
      text_format (text_of_string (facts tree z) (e.Strings token parts)) (flat_map (λ bytes. bytes) parts)
      (λ types. TypedArguments (facts tree z) none c types rest) l.0
      (matched_arguments tree z c (types_taken (pieces_of (flat_map (λ bytes. bytes) parts))) rest own m
      (format_fits z.structs (flat_map (λ bytes. bytes) parts) own fits))

  format_typed : (c : ℕ) (arguments : ExprList) (own : List Operand) (b : Operand) → Is (format_of arguments own) b → Matched tree z c arguments own
      → AllByRecursion (Spelled tree) (strings_of_all arguments) → TypedFormat (facts tree z) none c arguments
  format_typed c e.no_exprs own b h m l = cc
  format_typed c (e.more_exprs (e.Strings token parts) rest) [] b h m l = absurd m
  format_typed c (e.more_exprs (e.Strings token parts) rest) (a ∷ own) b h m l = strings_printed c token parts rest own b h m.3 l.0
  format_typed c (e.more_exprs x rest) own b h m l = cc

  -- a call whose name means `printf`
  print_typed : (c token : ℕ) (name : List ℕ) (arguments : ExprList) → library_named name ≡ Some library.Printf → note_at z.functions_at token ≡ None
      → TypedFormat (facts tree z) none c arguments → IsPrint (facts tree z) none c (e.Call token name arguments)
  print_typed c token name arguments l n k =
      subst (λ o. TypedPrint (facts tree z) none c (called_as o name) arguments) (sym (ap (λ o. option_and_then (λ place. note_at z.defined_as place) o) n))
      (subst (λ o. TypedPrint (facts tree z) none c (library_call o) arguments) (sym l) k)

  abbrev pub GoodWhole : ℕ → ExprTree → Walk → Operand → Walk → Type 0
  GoodWhole at x w a v = Part tree z at (at + length (expr_kinds x)) w v (λ c. TypedWhole (facts tree z) none c x)

  print_good : (at token : ℕ) (name : List ℕ) (arguments : ExprList) (w v : Walk) (xs : List Operand) → token ≡ at
      → length (expr_kinds (e.Call token name arguments)) ≡ 3 + length (exprs_kinds arguments) → token < length v.types
      → note_at v.functions_at token ≡ None → library_named name ≡ Some library.Printf → AllByRecursion (Spelled tree) (strings_of_all arguments)
      → GoodList tree z (at + 2) arguments [] w xs v
      → Gives (operand_noted token (format_of arguments xs) v) (GoodWhole at (e.Call token name arguments) w)
  print_good at token name arguments w v xs p long h n f l g = looks token (format_of arguments xs) v (λ b i.
      so (wider {lo = at} {hi = at + 2 + length (exprs_kinds arguments)} (leftwards {lo = at} {mid = at + 2} g.part
      (wider {lo = token} {hi = token + 1} (library_noted tree z ends token b.ctype v h n) (omega (arith, p)) (omega (arith, p))) (omega arith) (omega arith))
      (omega arith) (omega (arith, long)))
      (λ c q. inl (print_typed c token name arguments f q.1.1 (format_typed c arguments g.own b (subst (λ ys. Is (format_of arguments ys) b) g.is i) q.0 l))))

  call_whole : (at token : ℕ) (name : List ℕ) (arguments : ExprList) (w v : Walk) (xs : List Operand) (m : Option Meaning)
      → Gives (called_name token m xs v) (Good tree z at (e.Call token name arguments) w)
      → Gives (called_name token m xs v) (GoodWhole at (e.Call token name arguments) w)
  call_whole at token name arguments w v xs m h = weaker h (λ a u g. so g.part (λ c n. inr n.0))

  whole_call_good : (at token : ℕ) (name : List ℕ) (arguments : ExprList) (w v : Walk) (xs : List Operand) (m : Option Meaning) → token ≡ at
      → length (expr_kinds (e.Call token name arguments)) ≡ 3 + length (exprs_kinds arguments) → token < length v.types → token < length v.functions_at
      → note_at v.functions_at token ≡ None → Stays v.functions z.functions → Means v.locals v.variables name m
      → AllByRecursion (Spelled tree) (strings_of_all arguments) → GoodList tree z (at + 2) arguments [] w xs v
      → Gives (whole_call token m arguments xs v) (GoodWhole at (e.Call token name arguments) w)
  whole_call_good at token name arguments w v xs (Some (meaning.Library library.Printf)) p long h k n f l s g =
      print_good at token name arguments w v xs p long h n l s g
  whole_call_good at token name arguments w v xs m p long h k n f l s g = call_whole at token name arguments w v xs m (record { by = call_good tree z ends at token name arguments w v xs m p long h k n f l g })

  pub whole_good : (x : ExprTree) (at : ℕ) (w : Walk) → ShapedExpr x → ExprAt at x → AllByRecursion (Spelled tree) (strings_in x)
      → Ready tree z at (at + length (expr_kinds x)) w → Gives (walk_whole x w) (GoodWhole at x w)
  whole_good (e.Call token name arguments) at w s p l r =
      let long : length (expr_kinds (e.Call token name arguments)) ≡ 3 + length (exprs_kinds arguments) = omega (arith, paren-length (exprs_kinds arguments)) in
      and_then (exprs_good tree z ends arguments (at + 2) [] w s p.1 (spelled_lies tree z ends (strings_of_all arguments) l)
      (ready_in r (at + 2) (at + 2 + length (exprs_kinds arguments)) (omega arith) (omega (arith, long)))) (λ xs v g.
      whole_call_good at token name arguments w v xs (meaning_of name v.names) p.0 long (rw g.part.keeps.types (omega (arith, p.0, long, r.types)))
      (rw g.part.keeps.functions_at (omega (arith, p.0, long, r.functions_at)))
      ((g.part.below token (omega (arith, p.0))).functions ∙ r.fresh token (omega (arith, p.0)))
      (rw g.part.keeps.functions r.functions) (all_mean v.locals v.variables name v.names (g.part.keeps.slots r.slots)) l g)
  whole_good x at w s p l r = weaker (walk_good tree z ends x at w s p (spelled_lies tree z ends (strings_in x) l) r) (λ a v g. so g.part (λ c n. inr n.0))
