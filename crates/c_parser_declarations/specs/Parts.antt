-- The rules of the parts of items.
use Rattle.std.specs.Prelude.{ℕ, ◌+◌, ◌-◌, ◌≤◌, List, ◌++◌, flat_map, Option, IfSome}
use Rattle.std.specs.List.{AllByRecursion}
use Rattle.c_syntax.specs.declared.token.Sign.TheVariants as sign
use Rattle.c_syntax.specs.declared.parts.Base.{Base}
use Rattle.c_syntax.specs.declared.parts.Bound.{Bound}
use Rattle.c_syntax.specs.declared.parts.Declarator.{Declarator}
use Rattle.c_syntax.specs.declared.parts.Members.{Members}
use Rattle.c_syntax.specs.declared.parts.Param.{Param}
use Rattle.c_syntax.specs.declared.parts.ParamName.{ParamName}
use Rattle.c_syntax.specs.declared.parts.Params.{Params}
use Rattle.c_syntax.specs.Words.{a_sign, optional_kinds, bound_kinds, members_kinds, param_name_kinds, param_kinds, params_kinds, deepest_nesting}
use Rattle.c_syntax.specs.Words.{optional_nesting, members_nesting}
use Rattle.c_syntax.specs.Words.{name_nesting, param_nesting, params_nesting, HasOne, ShapedParamOf, ShapedParam, ShapedParams, ShapedMembers, EachAt}
use Rattle.c_syntax.specs.Words.{MembersAt, NameAt, ParamAt, ParamsAt}
use Rattle.c_parser_expressions.specs.Reading.{Rule, AnythingFollows}
use Rattle.c_parser_declarations.specs.Lists.{Separates, parts_behind_commas}
use Rattle.c_parser_declarations.specs.Declarations.{NoBracket, declarator}

-- one line of members
pub record AreMembers (d at : ℕ) (x : Members) : Type 0 where
  pub shaped : ShapedMembers x
  pub nests : members_nesting x ≤ d
  pub placed : MembersAt at x

abbrev pub members : (d : ℕ) → Rule Members
members d = record { Is = AreMembers d; spell = members_kinds; Ends = λ x k. AnythingFollows k }

-- the declarators of a line, and the semicolon
abbrev pub declarators_end : (d : ℕ) → Rule (List Declarator)
declarators_end d = parts_behind_commas (declarator d) sign.Semicolon

-- the lines of a struct, and the brace behind them
pub record AreMemberLines (d at : ℕ) (xs : List Members) : Type 0 where
  pub some : HasOne xs
  pub shaped : AllByRecursion ShapedMembers xs
  pub nests : deepest_nesting members_nesting xs ≤ d
  pub placed : EachAt MembersAt members_kinds 0 at xs

abbrev pub struct_member_lines : (d : ℕ) → Rule (List Members)
struct_member_lines d = record { Is = AreMemberLines d; spell = λ xs. flat_map members_kinds xs ++ a_sign sign.RightBrace; Ends = λ xs k. AnythingFollows k }

-- a parameter's name with its bound
pub record IsParamName (most at : ℕ) (x : ParamName) : Type 0 where
  pub nests : name_nesting x ≤ most
  pub placed : NameAt at x

abbrev pub bound_or_none : (most : ℕ) → Rule (Option Bound)
bound_or_none most = record { Is = λ at o. optional_nesting (λ b. 1) o ≤ most; spell = optional_kinds bound_kinds; Ends = λ o k. NoBracket k }

-- what stands behind a parameter's type: a name with its bound, or nothing
abbrev pub param_name : (most : ℕ) → Rule (Option ParamName)
param_name most = record { Is = λ at o. IfSome o (IsParamName most at); spell = optional_kinds param_name_kinds; Ends = λ o k. Separates sign.RightParen k }

-- the same, where the type is one of a parameter: `void` has a star
abbrev pub shaped_name : (d : ℕ) → Base × ℕ → Rule (Option ParamName)
shaped_name d t = record {
  Is = λ at o. ShapedParamOf t.0 t.1 × IfSome o (IsParamName (d - t.1) at);
  spell = optional_kinds param_name_kinds;
  Ends = λ o k. Separates sign.RightParen k;
}

pub record IsParam (d at : ℕ) (x : Param) : Type 0 where
  pub shaped : ShapedParam x
  pub nests : param_nesting x ≤ d
  pub placed : ParamAt at x

abbrev pub param : (d : ℕ) → Rule Param
param d = record { Is = IsParam d; spell = param_kinds; Ends = λ x k. Separates sign.RightParen k }

-- parameters, and the parenthesis behind them
pub record AreParams (d at : ℕ) (x : Params) : Type 0 where
  pub shaped : ShapedParams x
  pub nests : params_nesting x ≤ d
  pub placed : ParamsAt at x

abbrev pub params : (d : ℕ) → Rule Params
params d = record { Is = AreParams d; spell = λ x. params_kinds x ++ a_sign sign.RightParen; Ends = λ x k. AnythingFollows k }
