-- Calls, from what they pass.
use Rattle.std.proofs.Common.{◌≡◌, ℕ, zero, suc, ◌+◌, ◌<◌, ◌==◌, ◌∙◌, ap, subst, sym, refl, arith, List, [], ◌∷◌, length, drop, get_or, slice_get, Option, Some, None, Bool, true, false}
use Rattle.std.specs.Option.{option_and_then}
use Rattle.std.proofs.lemmas.Bool.{eqb-true}
use Rattle.std.proofs.lemmas.Bool.Decides.{nat_tests}
use Rattle.std.proofs.lemmas.List.{drop_all, drop_more}
use Rattle.base_lists.proofs.Numbers.{suc_not_zero}
use Rattle.c_types_rules.specs.declared.library.Library.{Library}
use Rattle.c_types_rules.specs.declared.library.Library.TheVariants as library
use Rattle.c_syntax.specs.ExprTree as e
use Rattle.c_syntax.specs.Words.{ExprTree, ExprList, plain_expr, plain_exprs}
use Rattle.c_syntax.specs.declared.expr.Expr.{Expr}
use Rattle.flow.specs.declared.node.Node.{Node}
use Rattle.flow.specs.declared.node.Node.TheVariants as node
use Rattle.flow.specs.declared.node.View.TheVariants as view
use Rattle.flow.specs.declared.program.Text.{Text}
use Rattle.cbi_base.specs.declared.scalar.Kind.TheVariants.{Int, Unsigned}
use Rattle.c_meaning.specs.declared.value_type.Called.{Called}
use Rattle.c_meaning.specs.declared.value_type.Called.TheVariants as called
use Rattle.c_meaning.specs.declared.value_type.ValueType.{ValueType}
use Rattle.c_meaning.specs.declared.value_type.ValueType.TheVariants as type
use Rattle.c_meaning.specs.Words.{as_type, as_used, is_null_as, Facts, Signature, Sites, text_of_string, called_as, expression_count, first_type, other_types, type_of}
use Rattle.lower_relation.specs.Calls.{ArgumentsPath, CallDoes, PrintPath}
use Rattle.lower_relation.specs.Expressions.{ArgumentsDo, FormatDoes, OneArgumentDoes, emitted_expression, number_of_text}
use Rattle.lower_relation.specs.Paths.{Graph, Path, ◌then◌, Does, HaltsAt, Nothing, PathOrStuck, Stuck}
use Rattle.lower_relation.specs.Values.{HandedValue}
use Rattle.lower_nodes.specs.Made.{GraphPath, Made, MadeAlone, MadeFor}
use Rattle.lower_nodes.specs.Parts.{purpose_part}
use Rattle.lower_nodes.specs.Purposes.{Serves}
use Rattle.lower_nodes.specs.declared.purpose.Purpose.{Purpose}
use Rattle.lower_nodes.specs.Standing.{Allowed}
use Rattle.lower_nodes.proofs.Building.{both_ways, carried, nothing_made, surely_made, then_made}
use Rattle.lower_operators.specs.Giving.{CalledDoes, FunctionDoes, EmittedCall, GivenTakes, LibraryDoes, giving_of, is_refused}
use Rattle.lower_operators.specs.Passing.{Acts, Formats, LibraryActs, Unfit, has_fitting_arguments, format_types, type_if_known, library_fits, library_types, number_of_first, arguments_after_first, arguments_passed, has_conversions, takes_arguments, text_of_first, type_of_first, types_of_params, types_of_text, types_passed}
use Rattle.lower_operators.specs.declared.giving.Giving.{Giving}
use Rattle.lower_operators.proofs.Handing.{call_is, given_made, refused_serves, same_refused, serves_refused}

-- arguments of these types
first_dropped : (types : List ValueType) (j : ℕ) → first_type (drop j types) ≡ slice_get types j
first_dropped (t ∷ ts) (suc j) = first_dropped ts j
first_dropped [] zero = refl
first_dropped [] (suc j) = refl
first_dropped (t ∷ ts) zero = refl

others_dropped : (types : List ValueType) (j : ℕ) → other_types (drop j types) ≡ drop (suc j) types
others_dropped (t ∷ ts) (suc j) = others_dropped ts j
others_dropped [] zero = refl
others_dropped [] (suc j) = refl
others_dropped (t ∷ ts) zero = refl

-- none is put yet
pub arguments_none : (facts : Facts) (sites : Sites) (types : List ValueType) (arguments : List Expr) (n : List Node) (k : ℕ) →
    Made (λ G. ArgumentsDo G facts sites types (plain_exprs (drop (length arguments) arguments))) n n k k
arguments_none facts sites types arguments n k =
    subst (λ l. Made (λ G. ArgumentsDo G facts sites types (plain_exprs l)) n n k k) (sym (drop_all (length arguments) arguments (omega arith))) (nothing_made n k)

pub arguments_step : (facts : Facts) (sites : Sites) (types : List ValueType) (arguments : List Expr) (m j : ℕ) (d : Expr) (want : Option ValueType)
    (n0 n1 n2 : List Node) (entry i k : ℕ) →
    m ≡ j + 1 → j < length arguments → d ≡ get_or arguments j d → want ≡ slice_get types j →
    Made (λ G. ArgumentsDo G facts sites (drop m types) (plain_exprs (drop m arguments))) n0 n1 entry k →
    Made (λ G. HandedValue G (is_null_as want (plain_expr d)) want (emitted_expression G facts sites (plain_expr d))) n1 n2 i entry →
    Made (λ G. ArgumentsDo G facts sites (drop j types) (plain_exprs (drop j arguments))) n0 n2 i k
arguments_step facts sites types arguments m j d want n0 n1 n2 entry i k e low at wants rest made =
    let next : drop (suc j) types ≡ drop (j + 1) types = ap (λ q. drop q types) (let e : suc j ≡ j + 1 = omega arith in e) in
    let last : Made (λ G. ArgumentsDo G facts sites (other_types (drop j types)) (plain_exprs (drop (j + 1) arguments))) n0 n1 entry k =
    subst (λ t. Made (λ G. ArgumentsDo G facts sites t (plain_exprs (drop (j + 1) arguments))) n0 n1 entry k) (sym (others_dropped types j ∙ next))
    (subst (λ q. Made (λ G. ArgumentsDo G facts sites (drop q types) (plain_exprs (drop q arguments))) n0 n1 entry k) e rest) in
    let first : Made (λ G. HandedValue G (is_null_as (first_type (drop j types)) (plain_expr d)) (first_type (drop j types)) (emitted_expression G facts sites
    (plain_expr d))) n1 n2 i entry =
    subst (λ t. Made (λ G. HandedValue G (is_null_as t (plain_expr d)) t (emitted_expression G facts sites (plain_expr d))) n1 n2 i entry) (wants ∙ sym
    (first_dropped types j)) made in
    subst (λ l. Made (λ G. ArgumentsDo G facts sites (drop j types) (plain_exprs l)) n0 n2 i k) (sym (drop_more arguments j d low ∙ ap
    (λ z. z ∷ drop (j + 1) arguments) (sym at)))
    (then_made (λ G. HandedValue G (is_null_as (first_type (drop j types)) (plain_expr d)) (first_type (drop j types)) (emitted_expression G facts sites
    (plain_expr d)))
    (λ G. ArgumentsDo G facts sites (other_types (drop j types)) (plain_exprs (drop (j + 1) arguments))) n0 n1 n2 i entry k last first)

-- one more than nothing is one
one_more : (n : ℕ) → (suc n == 1) ≡ (n == 0)
one_more n = grind (arith, nat_tests)

two_or_more : (n : ℕ) → (suc (suc n) == 1) ≡ true → ⊥
two_or_more n e = let one : suc (suc n) ≡ 1 = eqb-true (suc (suc n)) 1 e in omega arith

first_known : (o : Option ValueType) → first_type (type_if_known o) ≡ o
first_known None = refl
first_known (Some t) = refl

-- the text that an expression is has its number
text_numbered : (facts : Facts) (x : ExprTree) → option_and_then (slice_get facts.statics.texts) (number_of_text facts x) ≡ text_of_string facts x
text_numbered facts (e.Comma token operands) = refl
text_numbered facts (e.Assign token sign target value) = refl
text_numbered facts (e.Conditional token condition first second) = refl
text_numbered facts (e.Chain level first links) = refl
text_numbered facts (e.Cast token base stars operand) = refl
text_numbered facts (e.Prefix token operator operand) = refl
text_numbered facts (e.SizeOfType token base stars) = refl
text_numbered facts (e.Postfix primary operators) = refl
text_numbered facts (e.Name token name) = refl
text_numbered facts (e.Call token name arguments) = refl
text_numbered facts (e.Constant token kind value) = refl
text_numbered facts (e.Strings token parts) = refl
text_numbered facts (e.Paren token inner) = refl
text_numbered facts (e.Null token) = refl
text_numbered facts (e.EndOfFile token) = refl

module _ (facts : Facts) (sites : Sites) where
  -- what a call does, with its arguments
  abbrev pub called_part : Called → ExprList → GraphPath ℕ
  called_part c xs G =
      CalledDoes G facts c (expression_count xs) (λ types. ArgumentsDo G facts sites types xs) (λ want. OneArgumentDoes G facts sites want xs) (FormatDoes G facts sites xs)

  module _ (G : Graph) where
    lone_passed : (want : Option ValueType → Option ValueType) (types : List ValueType) (R : Path ℕ) (xs : ExprList) (i k : ℕ) → (expression_count xs == 1) ≡ true →
        first_type types ≡ want (type_of_first facts xs) → (ArgumentsDo G facts sites types xs then R) i k → (OneArgumentDoes G facts sites want xs then R) i k
    lone_passed want types R e.no_exprs i k fit is h = cc
    lone_passed want types R (e.more_exprs x e.no_exprs) i k fit is h = (
      h.0,
      subst (λ t. HandedValue G (is_null_as t x) t (emitted_expression G facts sites x) i h.0) is (subst (λ m. HandedValue G (is_null_as
          (first_type types) x) (first_type types) (emitted_expression G facts sites x) i m) h.1.2 h.1.1),
      h.2,
    )
    lone_passed want types R (e.more_exprs x (e.more_exprs y rest)) i k fit is h = absurd (two_or_more (expression_count rest) fit)

    none_passed : (R : Path ℕ) (xs : ExprList) (i k : ℕ) → (expression_count xs == 0) ≡ true → (ArgumentsDo G facts sites [] xs then R) i k →
        PathOrStuck G (expression_count xs == 0) R i k
    none_passed R e.no_exprs i k fit h = subst (λ m. R m k) (sym h.1) h.2
    none_passed R (e.more_exprs x rest) i k fit h = absurd (suc_not_zero (expression_count rest) fit)

    numbered_passed : (number : Option ℕ) (text : Option Text) (xs : ExprList) (i k : ℕ) → option_and_then (slice_get facts.statics.texts) number ≡ text →
        has_conversions text (expression_count xs) ≡ true → (ArgumentsDo G facts sites (types_of_text text) xs then Formats G number (expression_count xs)) i k →
        PrintPath G number text (expression_count xs) (λ types. ArgumentsDo G facts sites types xs) i k
    numbered_passed number None xs i k is fit h = cc
    numbered_passed None (Some format) xs i k is fit h = cc
    numbered_passed (Some number) (Some format) xs i k is fit h =
        subst (λ b. PathOrStuck G b (ArgumentsDo G facts sites (format_types format.bytes) xs then Does G (node.Format number (expression_count xs) 0)) i k) (sym fit) h

    format_passed : (xs : ExprList) (i k : ℕ) → has_conversions (text_of_first facts xs) (expression_count (arguments_after_first xs)) ≡ true →
        (ArgumentsDo G facts sites (types_of_text (text_of_first facts xs)) (arguments_after_first xs) then Formats G (number_of_first facts xs) (expression_count
        (arguments_after_first xs))) i k →
        FormatDoes G facts sites xs i k
    format_passed e.no_exprs i k fit h = cc
    format_passed (e.more_exprs x rest) i k fit h = numbered_passed (number_of_text facts x) (text_of_string facts x) rest i k (text_numbered facts x) fit h

    function_passed : (number : ℕ) (s : Option Signature) (xs : ExprList) (i k : ℕ) → takes_arguments s (expression_count xs) ≡ true →
        (ArgumentsDo G facts sites (types_of_params s) xs then (λ i k. G i (view.Calls number k))) i k →
        FunctionDoes G number s (expression_count xs) (λ types. ArgumentsDo G facts sites types xs) i k
    function_passed number None xs i k fit h = cc
    function_passed number (Some f) xs i k fit h =
        subst (λ b. PathOrStuck G b (ArgumentsDo G facts sites f.params xs then (λ i k. G i (view.Calls number k))) i k) (sym fit) h

    library_passed : (f : Library) (xs : ExprList) (i k : ℕ) → library_fits facts f xs ≡ true →
        (ArgumentsDo G facts sites (library_types facts f xs) (arguments_passed (called.Library f) xs) then LibraryActs G f (number_of_first facts xs) (expression_count
        (arguments_after_first xs))) i k →
        LibraryDoes G f (expression_count xs) (λ want. OneArgumentDoes G facts sites want xs) (FormatDoes G facts sites xs) i k
    library_passed library.Getchar xs i k fit h = none_passed (Does G (node.Get 0)) xs i k fit h
    library_passed library.Putchar xs i k fit h = lone_passed (as_type (type.Number Int)) (type.Number Int ∷ []) (Does G (node.Put 0)) xs i k fit refl h
    library_passed library.Puts xs i k fit h = lone_passed (as_type (type.Pointer 1)) (type.Pointer 1 ∷ []) (Does G (node.Puts 0)) xs i k fit refl h
    library_passed library.Malloc xs i k fit h = lone_passed (as_type (type.Number Unsigned)) (type.Number Unsigned ∷ []) (Does G
        (node.Alloc 0)) xs i k fit refl h
    library_passed library.Free xs i k fit h = lone_passed (as_type (type.Pointer 0)) (type.Pointer 0 ∷ []) (Does G (node.Free 0)) xs i k fit refl h
    library_passed library.Exit xs i k fit h = lone_passed (as_type (type.Number Int)) (type.Number Int ∷ []) (HaltsAt G node.Exit) xs i k fit refl h
    library_passed library.Abort xs i k fit h = none_passed (HaltsAt G node.Abort) xs i k fit h
    library_passed library.Assert xs i k fit h =
        lone_passed as_used (type_if_known (as_used (type_of_first facts xs))) (Does G (node.Check 0)) xs i k fit (first_known (as_used
        (type_of_first facts xs))) h
    library_passed library.Printf xs i k fit h = format_passed xs i k fit h

    -- and so it is the other way round
    passed_lone : (want : Option ValueType → Option ValueType) (types : List ValueType) (R : Path ℕ) (xs : ExprList) (i k : ℕ) → (expression_count xs == 1) ≡ true →
        first_type types ≡ want (type_of_first facts xs) → (OneArgumentDoes G facts sites want xs then R) i k → (ArgumentsDo G facts sites types xs then R) i k
    passed_lone want types R e.no_exprs i k fit is h = cc
    passed_lone want types R (e.more_exprs x e.no_exprs) i k fit is h = (
      h.0,
      (h.0, subst (λ t. HandedValue G (is_null_as t x) t (emitted_expression G facts sites x) i h.0) (sym is) h.1, refl),
      h.2,
    )
    passed_lone want types R (e.more_exprs x (e.more_exprs y rest)) i k fit is h = absurd (two_or_more (expression_count rest) fit)

    passed_none : (R : Path ℕ) (xs : ExprList) (i k : ℕ) → (expression_count xs == 0) ≡ true → PathOrStuck G (expression_count xs == 0) R i k → (ArgumentsDo G facts sites [] xs then R) i k
    passed_none R e.no_exprs i k fit h = (i, refl, h)
    passed_none R (e.more_exprs x rest) i k fit h = absurd (suc_not_zero (expression_count rest) fit)

    passed_numbered : (number : Option ℕ) (text : Option Text) (xs : ExprList) (i k : ℕ) → option_and_then (slice_get facts.statics.texts) number ≡ text →
        has_conversions text (expression_count xs) ≡ true → PrintPath G number text (expression_count xs) (λ types. ArgumentsDo G facts sites types xs) i k →
        (ArgumentsDo G facts sites (types_of_text text) xs then Formats G number (expression_count xs)) i k
    passed_numbered number None xs i k is fit h = cc
    passed_numbered None (Some format) xs i k is fit h = cc
    passed_numbered (Some number) (Some format) xs i k is fit h =
        subst (λ b. PathOrStuck G b (ArgumentsDo G facts sites (format_types format.bytes) xs then Does G (node.Format number (expression_count xs) 0)) i k) fit h

    passed_format : (xs : ExprList) (i k : ℕ) → has_conversions (text_of_first facts xs) (expression_count (arguments_after_first xs)) ≡ true → FormatDoes G facts sites xs i k →
        (ArgumentsDo G facts sites (types_of_text (text_of_first facts xs)) (arguments_after_first xs) then Formats G (number_of_first facts xs) (expression_count
        (arguments_after_first xs))) i k
    passed_format e.no_exprs i k fit h = cc
    passed_format (e.more_exprs x rest) i k fit h = passed_numbered (number_of_text facts x) (text_of_string facts x) rest i k (text_numbered facts x) fit h

    passed_function : (number : ℕ) (s : Option Signature) (xs : ExprList) (i k : ℕ) → takes_arguments s (expression_count xs) ≡ true →
        FunctionDoes G number s (expression_count xs) (λ types. ArgumentsDo G facts sites types xs) i k →
        (ArgumentsDo G facts sites (types_of_params s) xs then (λ i k. G i (view.Calls number k))) i k
    passed_function number None xs i k fit h = cc
    passed_function number (Some f) xs i k fit h =
        subst (λ b. PathOrStuck G b (ArgumentsDo G facts sites f.params xs then (λ i k. G i (view.Calls number k))) i k) fit h

    passed_library : (f : Library) (xs : ExprList) (i k : ℕ) → library_fits facts f xs ≡ true →
        LibraryDoes G f (expression_count xs) (λ want. OneArgumentDoes G facts sites want xs) (FormatDoes G facts sites xs) i k →
        (ArgumentsDo G facts sites (library_types facts f xs) (arguments_passed (called.Library f) xs) then LibraryActs G f (number_of_first facts xs) (expression_count
        (arguments_after_first xs))) i k
    passed_library library.Getchar xs i k fit h = passed_none (Does G (node.Get 0)) xs i k fit h
    passed_library library.Putchar xs i k fit h = passed_lone (as_type (type.Number Int)) (type.Number Int ∷ []) (Does G (node.Put 0)) xs i k fit refl h
    passed_library library.Puts xs i k fit h = passed_lone (as_type (type.Pointer 1)) (type.Pointer 1 ∷ []) (Does G (node.Puts 0)) xs i k fit refl h
    passed_library library.Malloc xs i k fit h = passed_lone (as_type (type.Number Unsigned)) (type.Number Unsigned ∷ []) (Does G
        (node.Alloc 0)) xs i k fit refl h
    passed_library library.Free xs i k fit h = passed_lone (as_type (type.Pointer 0)) (type.Pointer 0 ∷ []) (Does G (node.Free 0)) xs i k fit refl h
    passed_library library.Exit xs i k fit h = passed_lone (as_type (type.Number Int)) (type.Number Int ∷ []) (HaltsAt G node.Exit) xs i k fit refl h
    passed_library library.Abort xs i k fit h = passed_none (HaltsAt G node.Abort) xs i k fit h
    passed_library library.Assert xs i k fit h =
        passed_lone as_used (type_if_known (as_used (type_of_first facts xs))) (Does G (node.Check 0)) xs i k fit (first_known (as_used
        (type_of_first facts xs))) h
    passed_library library.Printf xs i k fit h = passed_format xs i k fit h

    passed_all : (c : Called) (xs : ExprList) (i k : ℕ) → has_fitting_arguments facts c xs ≡ true → called_part c xs G i k →
        (ArgumentsDo G facts sites (types_passed facts c xs) (arguments_passed c xs) then Acts G facts c xs) i k
    passed_all (called.Function number) xs i k fit h = passed_function number (facts.signature number) xs i k fit h
    passed_all (called.Library f) xs i k fit h = passed_library f xs i k fit h
    passed_all called.Unknown xs i k fit h = cc

    all_passed : (c : Called) (xs : ExprList) (i k : ℕ) → has_fitting_arguments facts c xs ≡ true →
        (ArgumentsDo G facts sites (types_passed facts c xs) (arguments_passed c xs) then Acts G facts c xs) i k → called_part c xs G i k
    all_passed (called.Function number) xs i k fit h = function_passed number (facts.signature number) xs i k fit h
    all_passed (called.Library f) xs i k fit h = library_passed f xs i k fit h
    all_passed called.Unknown xs i k fit h = cc

    -- where the arguments aren't those that the call takes
    lone_unfit : (want : Option ValueType → Option ValueType) (R : Path ℕ) (xs : ExprList) (i k : ℕ) → (expression_count xs == 1) ≡ false → (Stuck G then R) i k →
        (OneArgumentDoes G facts sites want xs then R) i k
    lone_unfit want R e.no_exprs i k unfit h = h
    lone_unfit want R (e.more_exprs x rest) i k unfit h = (
      h.0,
      subst (λ b. PathOrStuck G b (HandedValue G (is_null_as (want (type_of facts x)) x) (want (type_of facts x)) (emitted_expression G facts sites x)) i h.0)
          (sym (sym (one_more (expression_count rest)) ∙ unfit)) h.1,
      h.2,
    )

    only_unfit : (b : Bool) (R S : Path ℕ) (i k : ℕ) → b ≡ false → (Stuck G then S) i k → PathOrStuck G b R i k
    only_unfit b R S i k unfit h = subst (λ b. PathOrStuck G b R i k) (sym unfit) h.1

    numbered_unfit : (number : Option ℕ) (text : Option Text) (n : ℕ) (arguments : ArgumentsPath) (S : Path ℕ) (i k : ℕ) → has_conversions text n ≡ false →
        (Stuck G then S) i k →
        PrintPath G number text n arguments i k
    numbered_unfit None text n arguments S i k unfit h = h.1
    numbered_unfit (Some number) None n arguments S i k unfit h = h.1
    numbered_unfit (Some number) (Some format) n arguments S i k unfit h =
        only_unfit (n == length (format_types format.bytes)) (arguments (format_types format.bytes) then Does G (node.Format number n 0)) S i k unfit h

    format_unfit : (xs : ExprList) (S : Path ℕ) (i k : ℕ) → has_conversions (text_of_first facts xs) (expression_count (arguments_after_first xs)) ≡ false → (Stuck G then S) i k →
        FormatDoes G facts sites xs i k
    format_unfit e.no_exprs S i k unfit h = h.1
    format_unfit (e.more_exprs x rest) S i k unfit h =
        numbered_unfit (number_of_text facts x) (text_of_string facts x) (expression_count rest) (λ types. ArgumentsDo G facts sites types rest) S i k unfit h

    function_unfit : (number : ℕ) (s : Option Signature) (n : ℕ) (arguments : ArgumentsPath) (S : Path ℕ) (i k : ℕ) → takes_arguments s n ≡ false →
        (Stuck G then S) i k →
        FunctionDoes G number s n arguments i k
    function_unfit number None n arguments S i k unfit h = h.1
    function_unfit number (Some f) n arguments S i k unfit h =
        only_unfit (n == length f.params) (arguments f.params then (λ i k. G i (view.Calls number k))) S i k unfit h

    library_unfit : (f : Library) (xs : ExprList) (i k : ℕ) → library_fits facts f xs ≡ false →
        (Stuck G then Unfit G facts (called.Library f) xs) i k →
        LibraryDoes G f (expression_count xs) (λ want. OneArgumentDoes G facts sites want xs) (FormatDoes G facts sites xs) i k
    library_unfit library.Getchar xs i k unfit h = only_unfit (expression_count xs == 0) (Does G (node.Get 0)) Nothing i k unfit h
    library_unfit library.Putchar xs i k unfit h = lone_unfit (as_type (type.Number Int)) (Does G (node.Put 0)) xs i k unfit h
    library_unfit library.Puts xs i k unfit h = lone_unfit (as_type (type.Pointer 1)) (Does G (node.Puts 0)) xs i k unfit h
    library_unfit library.Malloc xs i k unfit h = lone_unfit (as_type (type.Number Unsigned)) (Does G (node.Alloc 0)) xs i k unfit h
    library_unfit library.Free xs i k unfit h = lone_unfit (as_type (type.Pointer 0)) (Does G (node.Free 0)) xs i k unfit h
    library_unfit library.Exit xs i k unfit h = lone_unfit (as_type (type.Number Int)) (HaltsAt G node.Exit) xs i k unfit h
    library_unfit library.Abort xs i k unfit h = only_unfit (expression_count xs == 0) (HaltsAt G node.Abort) Nothing i k unfit h
    library_unfit library.Assert xs i k unfit h = lone_unfit as_used (Does G (node.Check 0)) xs i k unfit h
    library_unfit library.Printf xs i k unfit h = format_unfit xs Nothing i k unfit h

    all_unfit : (c : Called) (xs : ExprList) (i k : ℕ) → has_fitting_arguments facts c xs ≡ false → (Stuck G then Unfit G facts c xs) i k → called_part c xs G i k
    all_unfit (called.Function number) xs i k unfit h =
        function_unfit number (facts.signature number) (expression_count xs) (λ types. ArgumentsDo G facts sites types xs) Nothing i k unfit h
    all_unfit (called.Library f) xs i k unfit h = library_unfit f xs i k unfit h
    all_unfit called.Unknown xs i k unfit h = h.1

    -- and the other way round
    unfit_lone : (want : Option ValueType → Option ValueType) (R : Path ℕ) (xs : ExprList) (i k : ℕ) → (expression_count xs == 1) ≡ false →
        (OneArgumentDoes G facts sites want xs then R) i k → (Stuck G then R) i k
    unfit_lone want R e.no_exprs i k unfit h = h
    unfit_lone want R (e.more_exprs x rest) i k unfit h = (
      h.0,
      subst (λ b. PathOrStuck G b (HandedValue G (is_null_as (want (type_of facts x)) x) (want (type_of facts x)) (emitted_expression G facts sites x)) i h.0)
          (sym (one_more (expression_count rest)) ∙ unfit) h.1,
      h.2,
    )

    unfit_only : (b : Bool) (R : Path ℕ) (i k : ℕ) → b ≡ false → PathOrStuck G b R i k → (Stuck G then Nothing) i k
    unfit_only b R i k unfit h = (k, subst (λ b. PathOrStuck G b R i k) unfit h, refl)

    unfit_numbered : (number : Option ℕ) (text : Option Text) (n : ℕ) (arguments : ArgumentsPath) (i k : ℕ) → has_conversions text n ≡ false →
        PrintPath G number text n arguments i k → (Stuck G then Nothing) i k
    unfit_numbered None text n arguments i k unfit h = (k, h, refl)
    unfit_numbered (Some number) None n arguments i k unfit h = (k, h, refl)
    unfit_numbered (Some number) (Some format) n arguments i k unfit h =
        unfit_only (n == length (format_types format.bytes)) (arguments (format_types format.bytes) then Does G (node.Format number n 0)) i k unfit h

    unfit_format : (xs : ExprList) (i k : ℕ) → has_conversions (text_of_first facts xs) (expression_count (arguments_after_first xs)) ≡ false → FormatDoes G facts sites xs i k → (Stuck G then Nothing) i k
    unfit_format e.no_exprs i k unfit h = (k, h, refl)
    unfit_format (e.more_exprs x rest) i k unfit h =
        unfit_numbered (number_of_text facts x) (text_of_string facts x) (expression_count rest) (λ types. ArgumentsDo G facts sites types rest) i k unfit h

    unfit_function : (number : ℕ) (s : Option Signature) (n : ℕ) (arguments : ArgumentsPath) (i k : ℕ) → takes_arguments s n ≡ false →
        FunctionDoes G number s n arguments i k → (Stuck G then Nothing) i k
    unfit_function number None n arguments i k unfit h = (k, h, refl)
    unfit_function number (Some f) n arguments i k unfit h =
        unfit_only (n == length f.params) (arguments f.params then (λ i k. G i (view.Calls number k))) i k unfit h

    unfit_library : (f : Library) (xs : ExprList) (i k : ℕ) → library_fits facts f xs ≡ false →
        LibraryDoes G f (expression_count xs) (λ want. OneArgumentDoes G facts sites want xs) (FormatDoes G facts sites xs) i k →
        (Stuck G then Unfit G facts (called.Library f) xs) i k
    unfit_library library.Getchar xs i k unfit h = unfit_only (expression_count xs == 0) (Does G (node.Get 0)) i k unfit h
    unfit_library library.Putchar xs i k unfit h = unfit_lone (as_type (type.Number Int)) (Does G (node.Put 0)) xs i k unfit h
    unfit_library library.Puts xs i k unfit h = unfit_lone (as_type (type.Pointer 1)) (Does G (node.Puts 0)) xs i k unfit h
    unfit_library library.Malloc xs i k unfit h = unfit_lone (as_type (type.Number Unsigned)) (Does G (node.Alloc 0)) xs i k unfit h
    unfit_library library.Free xs i k unfit h = unfit_lone (as_type (type.Pointer 0)) (Does G (node.Free 0)) xs i k unfit h
    unfit_library library.Exit xs i k unfit h = unfit_lone (as_type (type.Number Int)) (HaltsAt G node.Exit) xs i k unfit h
    unfit_library library.Abort xs i k unfit h = unfit_only (expression_count xs == 0) (HaltsAt G node.Abort) i k unfit h
    unfit_library library.Assert xs i k unfit h = unfit_lone as_used (Does G (node.Check 0)) xs i k unfit h
    unfit_library library.Printf xs i k unfit h = unfit_format xs i k unfit h

    unfit_all : (c : Called) (xs : ExprList) (i k : ℕ) → has_fitting_arguments facts c xs ≡ false → called_part c xs G i k → (Stuck G then Unfit G facts c xs) i k
    unfit_all (called.Function number) xs i k unfit h =
        unfit_function number (facts.signature number) (expression_count xs) (λ types. ArgumentsDo G facts sites types xs) i k unfit h
    unfit_all (called.Library f) xs i k unfit h = unfit_library f xs i k unfit h
    unfit_all called.Unknown xs i k unfit h = (k, h, refl)

  module _ (token : ℕ) (name : List ℕ) (c : Called) (xs : ExprList) (g : Giving) (p : Purpose) (is : c ≡ called_as (facts.function_at token) name)
      (gives : g ≡ giving_of facts c) where
    call_serves : (G : Graph) (q : Purpose) (i : ℕ) → Serves (EmittedCall G facts sites token g (called_part c xs G)) i q →
        Serves (emitted_expression G facts sites (e.Call token name xs)) i q
    call_serves G q i h =
        subst (λ o. Serves (CallDoes G facts sites token o (expression_count xs) (λ types. ArgumentsDo G facts sites types xs)
        (λ want. OneArgumentDoes G facts sites want xs)
        (FormatDoes G facts sites xs)) i q) is
        (subst (λ m. Serves m i q) (call_is facts sites token G c (expression_count xs) (λ types. ArgumentsDo G facts sites types xs)
        (λ want. OneArgumentDoes G facts sites want xs)
        (FormatDoes G facts sites xs))
        (subst (λ o. Serves (EmittedCall G facts sites token o (called_part c xs G)) i q) gives h))

    serves_call : (G : Graph) (q : Purpose) (i : ℕ) → Serves (emitted_expression G facts sites (e.Call token name xs)) i q →
        Serves (EmittedCall G facts sites token g (called_part c xs G)) i q
    serves_call G q i h =
        subst (λ o. Serves (EmittedCall G facts sites token o (called_part c xs G)) i q) (sym gives)
        (subst (λ m. Serves m i q) (sym (call_is facts sites token G c (expression_count xs) (λ types. ArgumentsDo G facts sites types xs)
        (λ want. OneArgumentDoes G facts sites want xs)
        (FormatDoes G facts sites xs)))
        (subst (λ o. Serves (CallDoes G facts sites token o (expression_count xs) (λ types. ArgumentsDo G facts sites types xs)
        (λ want. OneArgumentDoes G facts sites want xs)
        (FormatDoes G facts sites xs)) i q) (sym is) h))

    -- a value is wanted where there is none
    pub refused_made : (n0 n1 : List Node) (i k : ℕ) → is_refused g p ≡ true → MadeAlone (λ G. Stuck G) n0 n1 i k →
        MadeFor (purpose_part facts sites (e.Call token name xs)) n0 n1 i p
    refused_made n0 n1 i k refused made =
        carried (λ G. Stuck G) (purpose_part facts sites (e.Call token name xs)) k p
        (λ G i h. call_serves G p i (refused_serves facts sites token G g (called_part c xs G) p i k refused h)) (λ n b. tt)
        (λ s n j q same like h. (
          k,
          tt,
          tt,
          serves_refused facts sites token (Allowed s) g (called_part c xs (Allowed s)) q j k (same_refused facts sites token g p q same ∙ refused)
              (serves_call (Allowed s) q j h),
        )) n0 n1 i made

    acted_made : (n0 n1 n2 : List Node) (after i : ℕ) → is_refused g p ≡ false → MadeFor (λ G. GivenTakes G facts sites token g) n0 n1 after p →
        Made (called_part c xs) n1 n2 i after → MadeFor (purpose_part facts sites (e.Call token name xs)) n0 n2 i p
    acted_made n0 n1 n2 after i kept taken made =
        both_ways (λ G. Serves (EmittedCall G facts sites token g (called_part c xs G))) (purpose_part facts sites (e.Call token name xs)) p
        (λ G i q h. call_serves G q i h) (λ s i q h. serves_call (Allowed s) q i h) n0 n2 i
        (given_made facts sites token g (called_part c xs) p n0 n1 n2 after i kept taken made)

    -- the arguments aren't those that the call takes
    pub unfit_made : (n0 n1 n2 n3 : List Node) (after acts i : ℕ) → is_refused g p ≡ false → MadeFor (λ G. GivenTakes G facts sites token g) n0 n1 after p →
        Made (λ G. Unfit G facts c xs) n1 n2 acts after → has_fitting_arguments facts c xs ≡ false → MadeAlone (λ G. Stuck G) n2 n3 i acts →
        MadeFor (purpose_part facts sites (e.Call token name xs)) n0 n3 i p
    unfit_made n0 n1 n2 n3 after acts i kept taken acted unfit made =
        acted_made n0 n1 n3 after i kept taken
        (both_ways (λ G. Stuck G then Unfit G facts c xs) (called_part c xs) after (λ G i k h. all_unfit G c xs i k unfit h)
        (λ s i k h. unfit_all (Allowed s) c xs i k unfit h) n1 n3 i
        (then_made (λ G. Stuck G) (λ G. Unfit G facts c xs) n1 n2 n3 i acts after acted (surely_made (λ G. Stuck G) n2 n3 i acts made)))

    pub call_made : (types : List ValueType) (ys : ExprList) (n0 n1 n2 n3 : List Node) (after acts i : ℕ) → is_refused g p ≡ false →
        MadeFor (λ G. GivenTakes G facts sites token g) n0 n1 after p → Made (λ G. Acts G facts c xs) n1 n2 acts after → has_fitting_arguments facts c xs ≡ true →
        types ≡ types_passed facts c xs → ys ≡ arguments_passed c xs → Made (λ G. ArgumentsDo G facts sites types ys) n2 n3 i acts →
        MadeFor (purpose_part facts sites (e.Call token name xs)) n0 n3 i p
    call_made types ys n0 n1 n2 n3 after acts i kept taken acted fit wants passes made =
        acted_made n0 n1 n3 after i kept taken
        (both_ways (λ G. ArgumentsDo G facts sites (types_passed facts c xs) (arguments_passed c xs) then Acts G facts c xs) (called_part c xs) after
        (λ G i k h. all_passed G c xs i k fit h) (λ s i k h. passed_all (Allowed s) c xs i k fit h) n1 n3 i
        (then_made (λ G. ArgumentsDo G facts sites (types_passed facts c xs) (arguments_passed c xs)) (λ G. Acts G facts c xs) n1 n2 n3 i acts after acted
        (subst (λ t. Made (λ G. ArgumentsDo G facts sites t (arguments_passed c xs)) n2 n3 i acts) wants
        (subst (λ y. Made (λ G. ArgumentsDo G facts sites types y) n2 n3 i acts) passes made))))
