-- A chain of operators, and the chain behind its first one.
use Rattle.std.proofs.Common.{◌≡◌, ℕ, Bool, false, Option, Some, None, refl, ap, sym, ◌∙◌}
use Rattle.std.proofs.Math.Path.{fun_ext}
use Rattle.base_lists.proofs.Tests.{and_false}
use Rattle.cbi_base.specs.declared.operators.Binary.{Binary}
use Rattle.cbi_base.specs.declared.operators.Binary.TheVariants as op
use Rattle.cbi_base.specs.declared.scalar.Scalar.{Scalar}
use Rattle.c_syntax.specs.declared.token.Sign.{Sign}
use Rattle.c_syntax.specs.ExprTree as e
use Rattle.c_syntax.specs.ExprTree.{ExprTree, LinkList}
use Rattle.c_types_expressions.specs.ExprWalk.{binary_of}
use Rattle.c_meaning.specs.declared.value_type.ValueType.{ValueType}
use Rattle.c_meaning.specs.Words.{is_pointer_value, value_after_link, null_or, sense_of_value, Facts, Setting, expr, links_value, begins_null, is_null_beside, joint_of_sign}
use Rattle.c_meaning.specs.Words.{operand_type, type_of, World, Out, bind}
use Rattle.c_meaning_laws.specs.Chains.{ChainGroupsLeft}
use Rattle.c_meaning_laws.proofs.Parts.{bind_behind, bind_go}

-- what stands within parentheses is no null constant
never_beside : (o : Option Binary) (of : Option ValueType) (paren : ℕ) (x : ExprTree) → is_null_beside o of (e.Paren paren x) ≡ false
never_beside None of paren x = refl
never_beside (Some op.Eq) of paren x = and_false (is_pointer_value of)
never_beside (Some op.Ne) of paren x = and_false (is_pointer_value of)
never_beside (Some o) of paren x = refl

never_begins : (facts : Facts) (paren : ℕ) (x : ExprTree) (rest : LinkList) → begins_null facts (e.Paren paren x) rest ≡ false
never_begins facts paren x e.no_links = refl
never_begins facts paren x (e.more_links token operator operand rest) = never_beside (binary_of operator) (type_of facts operand) paren x

module _ (s : Setting) (inner paren token : ℕ) (operator : Sign) (a b : ExprTree) (rest : LinkList) where
  abbrev alone : LinkList
  alone = e.more_links token operator b e.no_links

  abbrev grouped : ExprTree
  grouped = e.Paren paren (e.Chain inner a alone)

  abbrev is_null : Bool
  is_null = begins_null s.facts a alone

  -- the first operator, and what stands behind it
  abbrev first_link : Scalar → World → Out Scalar
  first_link v w = links_value s (operand_type is_null (type_of s.facts a)) alone v w

  first_value : (w : World)
      → bind (null_or is_null (expr s a) w) (links_value s (operand_type is_null (type_of s.facts a)) (e.more_links token operator b rest))
      ≡ bind (bind (null_or is_null (expr s a) w) first_link) (links_value s (s.facts.type_at token) rest)
  first_value w =
      bind_behind (null_or is_null (expr s a) w) first_link _ (links_value s (s.facts.type_at token) rest) (λ v u.
      ap (λ out. bind out (links_value s (s.facts.type_at token) rest))
      (sym (bind_go (value_after_link s (joint_of_sign operator) token (operand_type is_null (type_of s.facts a))
      (operand_type (is_null_beside (binary_of operator) (operand_type is_null (type_of s.facts a)) b) (type_of s.facts b))
      (null_or (is_null_beside (binary_of operator) (operand_type is_null (type_of s.facts a)) b) (expr s b)) v u))))

  rest_value : (w : World) → s.facts.type_at paren ≡ s.facts.type_at token
      → bind ((expr s grouped).value w) (links_value s (s.facts.type_at token) rest)
      ≡ bind (null_or (begins_null s.facts grouped rest) (expr s grouped) w)
      (links_value s (operand_type (begins_null s.facts grouped rest) (type_of s.facts grouped)) rest)
  rest_value w same =
      ap (λ of. bind ((expr s grouped).value w) (links_value s of rest)) (sym same)
      ∙ ap (λ (q : Bool). bind (null_or q (expr s grouped) w) (links_value s (operand_type q (type_of s.facts grouped)) rest))
      (sym (never_begins s.facts paren (e.Chain inner a alone) rest))

pub chain_groups_left : ChainGroupsLeft
chain_groups_left s level inner paren token operator a b rest same =
    ap sense_of_value (fun_ext (λ w.
    first_value s inner paren token operator a b rest w ∙ rest_value s inner paren token operator a b rest w same))
