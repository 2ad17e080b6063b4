-- Where a graph of nodes that may be has the value of an expression, it has its truth: a fork may stand anywhere.
use Rattle.std.proofs.Common.{inl, ℕ, zero, suc, refl, Bool, true, false, Option, Some, None}
use Rattle.c_types_rules.specs.declared.library.Library.{Library}
use Rattle.c_types_rules.specs.declared.library.Library.TheVariants as library
use Rattle.c_syntax.specs.ExprTree as e
use Rattle.c_syntax.specs.ExprTree.{ExprTree, ExprList, LinkList}
use Rattle.c_syntax.specs.declared.expr.PrefixOperator.{PrefixOperator}
use Rattle.c_syntax.specs.declared.expr.PrefixOperator.TheVariants as prefix
use Rattle.c_types_expressions.specs.ExprWalk.{binary_of}
use Rattle.c_meaning.specs.declared.value_type.Called.{Called}
use Rattle.c_meaning.specs.declared.value_type.Called.TheVariants as called
use Rattle.c_meaning.specs.declared.value_type.ValueType.{ValueType}
use Rattle.c_meaning.specs.declared.value_type.ValueType.TheVariants as type
use Rattle.c_meaning.specs.Words.{Facts, Signature, Sites, Joint, Both, Computes, Unjoined, called_as, expression_count, ends_as_place, has_value}
use Rattle.c_meaning.specs.Words.{is_null_beside, is_place, joint_of_sign, operand_type, token_of, type_of, site_list}
use Rattle.c_meaning.specs.Trees as tree
use Rattle.lower_relation.specs.Calls.{ArgumentPath, ArgumentsPath, CallDoes, CallFunction, CallLibrary, WithResult}
use Rattle.lower_relation.specs.Expressions.{CommaDoes, LinksDo, LinksHold, emitted_expression}
use Rattle.lower_relation.specs.Operators.{Cast, Comma, DecidesAt, Linked, LinkedTruth, Postfixed, Prefixed, SizeValue}
use Rattle.lower_relation.specs.Paths.{Graph, Path, ◌then◌, Emitted, ForkTo, MarksAll, Ways}
use Rattle.lower_relation.specs.Values.{NullOr, NullTruth}
use Rattle.lower_nodes.specs.Parts.{truth_part, value_part}
use Rattle.lower_nodes.specs.Purposes.{condition_ways}
use Rattle.lower_nodes.specs.Standing.{Allowed, Allowance}

-- where there is a value, there is a truth
abbrev pub Forks : Path ℕ → Path Ways → Type 0
Forks R T = (i k : ℕ) (w : Ways) → R i k → T i w

module _ (p : Allowance) where
  abbrev pub G : Graph
  G = Allowed p

  -- a fork may stand anywhere, wherever it leads
  pub fork_stands : (k : ℕ) (w : Ways) → ForkTo G k w
  fork_stands k w = record { fits = p.fork; visits = refl; turns = λ f. refl }

  size_forks : (cells : Option ℕ) → Forks (SizeValue G cells).value (SizeValue G cells).truth
  size_forks None i k w h = (k, h, fork_stands k w)
  size_forks (Some cells) i k w h = (k, h, fork_stands k w)

  cast_forks : (is_null : Bool) (want : Option ValueType) (m : Emitted) → Forks (Cast G is_null want m).value (Cast G is_null want m).truth
  cast_forks is_null (Some type.Void) m i k w h = h
  cast_forks is_null want m i k w h = (k, h, fork_stands k w)

  postfix_forks : (ends : Bool) (of : Option ValueType) (R S : Path ℕ) → Forks (Postfixed G ends of R S).value (Postfixed G ends of R S).truth
  postfix_forks true of R S i k w h = (k, h, fork_stands k w)
  postfix_forks false of R S i k w h = (k, h, fork_stands k w)

  module _ (facts : Facts) (sites : Sites) where
    result_forks : (token : ℕ) (given : Bool) (R : Path ℕ) → Forks (WithResult G facts sites token given R).value (WithResult G facts sites token given R).truth
    result_forks token true R i k w h = (k, h, fork_stands k w)
    result_forks token false R i k w h = h

    function_forks : (token number : ℕ) (f : Option Signature) (n : ℕ) (arguments : ArgumentsPath) →
        Forks (CallFunction G facts sites token number f n arguments).value (CallFunction G facts sites token number f n arguments).truth
    function_forks token number None n arguments i k w h = (k, h, fork_stands k w)
    function_forks token number (Some f) n arguments i k w h = result_forks token (has_value f.result) _ i k w h

    library_forks : (token : ℕ) (function : Library) (n : ℕ) (argument : ArgumentPath) (print : Path ℕ) →
        Forks (CallLibrary G facts sites token function n argument print).value (CallLibrary G facts sites token function n argument print).truth
    library_forks token library.Getchar n argument print i k w h = (k, h, fork_stands k w)
    library_forks token library.Putchar n argument print i k w h = (k, h, fork_stands k w)
    library_forks token library.Puts n argument print i k w h = (k, h, fork_stands k w)
    library_forks token library.Malloc n argument print i k w h = (k, h, fork_stands k w)
    library_forks token function n argument print i k w h = h

    call_forks : (token : ℕ) (what : Called) (n : ℕ) (arguments : ArgumentsPath) (argument : ArgumentPath) (print : Path ℕ) →
        Forks (CallDoes G facts sites token what n arguments argument print).value (CallDoes G facts sites token what n arguments argument print).truth
    call_forks token (called.Function number) n arguments argument print i k w h = function_forks token number (facts.signature number) n arguments i k w h
    call_forks token (called.Library function) n arguments argument print i k w h = library_forks token function n argument print i k w h
    call_forks token called.Unknown n arguments argument print i k w h = (k, h, fork_stands k w)

    prefix_forks : (token : ℕ) (operator : PrefixOperator) (of : Option ValueType) (cells : Option ℕ) (m : Emitted) →
        Forks (Prefixed G facts sites token operator of cells m).value (Prefixed G facts sites token operator of cells m).truth
    prefix_forks token prefix.Not of cells m i k w h = inl (k, h, fork_stands k w)
    prefix_forks token prefix.SizeOf of cells m i k w h = size_forks cells i k w h
    prefix_forks token operator of cells m i k w h = (k, h, fork_stands k w)

    comma_forks : (n : ℕ) (m rest : Emitted) → Forks m.value m.truth → Forks (Comma G n m rest).value (Comma G n m rest).truth
    comma_forks zero m rest forks i k w h = forks i k w h
    comma_forks (suc n) m rest forks i k w h = inl (k, h, fork_stands k w)

    mutual
      pub value_forks : (x : ExprTree) → Forks (value_part facts sites x G) (truth_part facts sites x G)
      value_forks (e.Comma token operands) i k w h = last_forks operands i k w h
      value_forks (e.Chain level first links) i k w h = inl (k, h, fork_stands k w)
      value_forks (e.Cast token base stars operand) i k w h = cast_forks _ (facts.type_at token) _ i k w h
      value_forks (e.Prefix token operator operand) i k w h = prefix_forks token operator (type_of facts operand) (facts.cells_at (token_of operand)) _ i k w h
      value_forks (e.SizeOfType token base stars) i k w h = size_forks (facts.named_cells base stars) i k w h
      value_forks (e.Postfix primary operators) i k w h = postfix_forks (ends_as_place (is_place primary) operators) _ _ _ i k w h
      value_forks (e.Call token name arguments) i k w h = call_forks token (called_as (facts.function_at token) name) _ _ _ _ i k w h
      value_forks (e.Paren token inner) i k w h = value_forks inner i k w h
      value_forks x i k w h = (k, h, fork_stands k w)

      pub last_forks : (xs : ExprList) → Forks (CommaDoes G facts sites xs).value (CommaDoes G facts sites xs).truth
      last_forks e.no_exprs i k w h = (k, h, fork_stands k w)
      last_forks (e.more_exprs x rest) i k w h = comma_forks (expression_count rest) (emitted_expression G facts sites x) (CommaDoes G facts sites rest) (value_forks x) i k w h

    pub null_forks : (is_null : Bool) (x : ExprTree) → Forks (NullOr G is_null (emitted_expression G facts sites x)) (NullTruth G is_null (emitted_expression G facts sites x))
    null_forks true x i k w h = (k, h, fork_stands k w)
    null_forks false x i k w h = value_forks x i k w h

    -- the way of a condition from its value and the visit of its site, wherever it leads
    decides_forks : (site : Option ℕ) (R : Path ℕ) (T : Path Ways) (i m : ℕ) (v w : Ways) → Forks R T → R i m →
        (MarksAll G (site_list site) then ForkTo G) m v → DecidesAt G facts sites site R T i w
    decides_forks None R T i m v w forks r d = forks i m w r
    decides_forks (Some site) R T i m v w forks r d = (m, r, (d.0, d.1, fork_stands d.0 w))

    -- an operator of a chain
    link_forks : (j : Joint) (token : ℕ) (left right : Option ValueType) (R : Path ℕ) (T : Path Ways) (S : Path ℕ) (U : Path Ways) → Forks R T → Forks S U →
        Forks (R then Linked G facts sites j token left right S) (LinkedTruth G facts sites j token left right R T S U)
    link_forks Both token left right R T S U r s i k w h = (
      h.2.0,
      w.no_to,
      decides_forks (sites.branch_at token) R T i h.0 (condition_ways h.2.0 h.2.1) (condition_ways h.2.0 w.no_to) r h.1 h.2.2,
      s h.2.0 h.2.3.0 w h.2.3.1,
      refl,
    )
    link_forks tree.Either token left right R T S U r s i k w h = (
      w.yes_to,
      h.2.1,
      decides_forks (sites.branch_at token) R T i h.0 (condition_ways h.2.0 h.2.1) (condition_ways w.yes_to h.2.1) r h.1 h.2.2,
      refl,
      s h.2.1 h.2.4.0 w h.2.4.1,
    )
    link_forks (Computes o) token left right R T S U r s i k w h = (k, h, fork_stands k w)
    link_forks Unjoined token left right R T S U r s i k w h = h

    -- the operators of a chain, where what stands before them has this value and this truth
    pub links_fork : (l : LinkList) (left : Option ValueType) (R : Path ℕ) (T : Path Ways) → Forks R T → Forks (R then LinksDo G facts sites left l) (LinksHold G facts sites left R T l)
    links_fork e.no_links left R T forks i k w h = forks i h.0 w h.1
    links_fork (e.more_links token sign operand rest) left R T forks i k w h =
        links_fork rest (facts.type_at token) _ _
        (link_forks (joint_of_sign sign) token left (operand_type (is_null_beside (binary_of sign) left operand) (type_of facts operand)) R T
        (NullOr G (is_null_beside (binary_of sign) left operand) (emitted_expression G facts sites operand))
        (NullTruth G (is_null_beside (binary_of sign) left operand) (emitted_expression G facts sites operand)) forks (null_forks (is_null_beside (binary_of sign) left operand) operand))
        i k w (h.2.0, (h.0, h.1, h.2.1), h.2.2)
