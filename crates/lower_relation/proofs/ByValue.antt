-- A condition may go by its value, whatever the expression.
use Rattle.std.proofs.Common.{ℕ, zero, suc, subst, inl, Option, Some, None, Bool, true, false}
use Rattle.c_types_rules.specs.declared.library.Library.{Library}
use Rattle.c_types_rules.specs.declared.library.Library.TheVariants as library
use Rattle.c_syntax.specs.declared.expr.PrefixOperator.{PrefixOperator}
use Rattle.c_syntax.specs.declared.expr.PrefixOperator.TheVariants as prefix
use Rattle.c_syntax.specs.ExprTree as e
use Rattle.c_syntax.specs.ExprTree.{ExprTree, ExprList}
use Rattle.c_meaning.specs.declared.value_type.Called.{Called}
use Rattle.c_meaning.specs.declared.value_type.Called.TheVariants as called
use Rattle.c_meaning.specs.declared.value_type.ValueType.{ValueType}
use Rattle.c_meaning.specs.declared.value_type.ValueType.TheVariants as type
use Rattle.c_meaning.specs.Words.{is_null_as, Facts, Signature, Sites, called_as, expression_count, ends_as_place, has_value, is_place, token_of, type_of, site_list}
use Rattle.lower_relation.specs.Calls.{ArgumentPath, ArgumentsPath, CallDoes, CallFunction, CallLibrary, WithResult}
use Rattle.lower_relation.specs.Expressions.{CommaDoes, emitted_expression}
use Rattle.lower_relation.specs.Operators.{Cast, Comma, DecidesAt, Postfixed, Prefixed, SizeValue}
use Rattle.lower_relation.specs.Paths.{Emitted, Graph, MarksAll, Path, ◌then◌, ValueTruth, ForkTo, Ways}

module _ (G : Graph) where
  -- an expression's truth may be that of its value
  abbrev pub ByValue : Emitted → Type 0
  ByValue m = (i : ℕ) (k : Ways) → ValueTruth G m.value i k → m.truth i k

  cast_by : (is_null : Bool) (want : Option ValueType) (m : Emitted) → ByValue (Cast G is_null want m)
  cast_by is_null (Some type.Void) m i k h = h.1
  cast_by is_null want m i k h = h

  size_by : (o : Option ℕ) → ByValue (SizeValue G o)
  size_by None i k h = h
  size_by (Some cells) i k h = h

  postfixed_by : (known : Bool) (of : Option ValueType) (R S : Path ℕ) → ByValue (Postfixed G known of R S)
  postfixed_by true of R S i k h = h
  postfixed_by false of R S i k h = h

  module _ (facts : Facts) (sites : Sites) where
    prefixed_by : (token : ℕ) (o : PrefixOperator) (of : Option ValueType) (cells : Option ℕ) (m : Emitted)
        → ByValue (Prefixed G facts sites token o of cells m)
    prefixed_by token prefix.Not of cells m i k h = inl h
    prefixed_by token prefix.SizeOf of cells m i k h = size_by cells i k h
    prefixed_by token o of cells m i k h = h

    result_by : (token : ℕ) (b : Bool) (R : Path ℕ) → ByValue (WithResult G facts sites token b R)
    result_by token true R i k h = h
    result_by token false R i k h = h.1

    function_by : (token number : ℕ) (o : Option Signature) (n : ℕ) (R : ArgumentsPath) → ByValue (CallFunction G facts sites token number o n R)
    function_by token number None n R i k h = h
    function_by token number (Some f) n R i k h = result_by token (has_value f.result) _ i k h

    library_by : (token : ℕ) (f : Library) (n : ℕ) (R : ArgumentPath) (P : Path ℕ) → ByValue (CallLibrary G facts sites token f n R P)
    library_by token library.Getchar n R P i k h = h
    library_by token library.Putchar n R P i k h = h
    library_by token library.Puts n R P i k h = h
    library_by token library.Malloc n R P i k h = h
    library_by token f n R P i k h = h.1

    call_by : (token : ℕ) (c : Called) (n : ℕ) (R : ArgumentsPath) (S : ArgumentPath) (P : Path ℕ) → ByValue (CallDoes G facts sites token c n R S P)
    call_by token (called.Function number) n R S P i k h = function_by token number (facts.signature number) n R i k h
    call_by token (called.Library f) n R S P i k h = library_by token f n S P i k h
    call_by token called.Unknown n R S P i k h = h

    comma_by : (n : ℕ) (m rest : Emitted) → ByValue m → ByValue (Comma G n m rest)
    comma_by zero m rest a i k h = a i k h
    comma_by (suc n) m rest a i k h = inl h

    mutual
      pub by_value : (x : ExprTree) → ByValue (emitted_expression G facts sites x)
      by_value (e.Comma token operands) i k h = last_by_value operands i k h
      by_value (e.Chain level first links) i k h = inl h
      by_value (e.Cast token base stars operand) i k h =
          cast_by (is_null_as (facts.type_at token) operand) (facts.type_at token) (emitted_expression G facts sites operand) i k h
      by_value (e.Prefix token operator operand) i k h =
          prefixed_by token operator (type_of facts operand) (facts.cells_at (token_of operand)) (emitted_expression G facts sites operand) i k h
      by_value (e.SizeOfType token base stars) i k h = size_by (facts.named_cells base stars) i k h
      by_value (e.Postfix primary operators) i k h =
          postfixed_by (ends_as_place (is_place primary) operators) (type_of facts (e.Postfix primary operators)) _ _ i k h
      by_value (e.Call token name arguments) i k h = call_by token (called_as (facts.function_at token) name) (expression_count arguments) _ _ _ i k h
      by_value (e.Paren token inner) i k h = by_value inner i k h
      by_value x i k h = h

      last_by_value : (x : ExprList) → ByValue (CommaDoes G facts sites x)
      last_by_value e.no_exprs i k h = h
      last_by_value (e.more_exprs x rest) i k h = comma_by (expression_count rest) (emitted_expression G facts sites x) (CommaDoes G facts sites rest) (by_value x) i k h

    decides_by : (o : Option ℕ) (R : Path ℕ) (T : Path Ways) → ((i : ℕ) (k : Ways) → ValueTruth G R i k → T i k)
        → (i : ℕ) (k : Ways) → (R then MarksAll G (site_list o) then ForkTo G) i k → DecidesAt G facts sites o R T i k
    decides_by None R T a i k h = a i k (h.2.0, subst (λ j. R i j) h.2.1 h.1, h.2.2)
    decides_by (Some site) R T a i k h = h
