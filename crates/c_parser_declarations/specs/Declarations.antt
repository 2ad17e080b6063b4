-- The rules of declarations.
use Rattle.std.specs.Prelude.{◌≡◌, ℕ, ◌+◌, ◌≤◌, Bool, List, ◌++◌, length, flat_map, Option, Some, IfSome}
use Rattle.std.specs.List.{AllByRecursion}
use Rattle.c_syntax.specs.declared.token.Sign.TheVariants as sign
use Rattle.c_syntax.specs.declared.parts.Bound.{Bound}
use Rattle.c_syntax.specs.declared.parts.Declarator.{Declarator}
use Rattle.c_syntax.specs.Words.{ExprList, InitialTree, StartTree, DeclarationTree, Kinds, a_sign, optional_kinds, with_commas, constant_kinds, bound_kinds}
use Rattle.c_syntax.specs.Words.{declarator_kinds, more_exprs_kinds, comma_kinds, initial_kinds, start_kinds, declaration_kinds, deepest_nesting}
use Rattle.c_syntax.specs.Words.{declarator_nesting}
use Rattle.c_syntax.specs.Words.{arguments_nesting, initial_nesting, start_nesting, declaration_nesting, HasOne, ShapedExprs, ShapedInitial, ShapedStart}
use Rattle.c_syntax.specs.Words.{ShapedDeclaration, EachAt, DeclaratorAt, ExprsAt, InitialAt, StartAt, DeclarationAt}
use Rattle.c_parser_expressions.specs.Reading.{Rule, AnythingFollows, sign_at}
use Rattle.c_parser_declarations.specs.Lists.{Separates, parts_behind_commas}

-- a constant or none behind a bracket, and the other bracket
abbrev pub bound_end : Rule Bound
bound_end = record { Is = λ at x. Unit {0}; spell = λ x. optional_kinds constant_kinds x.length ++ a_sign sign.RightBracket; Ends = λ x k. AnythingFollows k }

pub record NoBracket (k : Kinds) : Type 0 where
  pub not : sign_at k ≡ Some sign.LeftBracket → ⊥

-- at most so many bounds
abbrev pub bounds : (most : ℕ) → Rule (List Bound)
bounds most = record { Is = λ at xs. length xs ≤ most; spell = flat_map bound_kinds; Ends = λ xs k. NoBracket k }

pub record IsDeclarator (d at : ℕ) (x : Declarator) : Type 0 where
  pub nests : declarator_nesting x ≤ d
  pub placed : DeclaratorAt at x

abbrev pub declarator : (d : ℕ) → Rule Declarator
declarator d = record { Is = IsDeclarator d; spell = declarator_kinds; Ends = λ x k. NoBracket k }

pub record IsInitial (d at : ℕ) (x : InitialTree) : Type 0 where
  pub shaped : ShapedInitial x
  pub nests : initial_nesting x ≤ d
  pub placed : InitialAt at x

abbrev pub initialiser_rule : (d : ℕ) → Rule InitialTree
initialiser_rule d = record { Is = IsInitial d; spell = initial_kinds; Ends = λ x k. Separates sign.Semicolon k }

-- further items of a braced list, its last comma where it has one, and the brace
pub record AreFurtherItems (d at : ℕ) (p : ExprList × Bool) : Type 0 where
  pub shaped : ShapedExprs p.0
  pub nests : arguments_nesting p.0 ≤ d
  pub placed : ExprsAt (at + 1) p.0

abbrev pub items_end : (d : ℕ) → Rule (ExprList × Bool)
items_end d = record {
  Is = AreFurtherItems d;
  spell = λ p. more_exprs_kinds p.0
      ++ (comma_kinds p.1 ++ a_sign sign.RightBrace);
  Ends = λ p k. AnythingFollows k;
}

-- `=` and an initialiser, or nothing
abbrev pub initialiser_or_none : (d : ℕ) → Rule (Option InitialTree)
initialiser_or_none d = record {
  Is = λ at o. IfSome o (IsInitial d (at + 1));
  spell = optional_kinds (λ y. a_sign sign.Equal ++ initial_kinds y);
  Ends = λ o k. Separates sign.Semicolon k;
}

pub record IsStart (by d at : ℕ) (x : StartTree) : Type 0 where
  pub shaped : ShapedStart x
  pub nests : start_nesting by x ≤ d
  pub placed : StartAt at x

abbrev pub start_rule : (by d : ℕ) → Rule StartTree
start_rule by d = record { Is = IsStart by d; spell = start_kinds; Ends = λ x k. Separates sign.Semicolon k }

-- further variables, each with a comma before it, and the semicolon
abbrev pub starts_end : (by d : ℕ) → Rule (List StartTree)
starts_end by d = parts_behind_commas (start_rule by d) sign.Semicolon

-- the variables of a declaration, and the semicolon
pub record AreVariables (by d at : ℕ) (xs : List StartTree) : Type 0 where
  pub some : HasOne xs
  pub shaped : AllByRecursion ShapedStart xs
  pub nests : deepest_nesting (start_nesting by) xs ≤ d
  pub placed : EachAt StartAt start_kinds 1 at xs

abbrev pub declared_variables : (by d : ℕ) → Rule (List StartTree)
declared_variables by d = record { Is = AreVariables by d; spell = λ xs. with_commas start_kinds xs ++ a_sign sign.Semicolon; Ends = λ xs k. AnythingFollows k }

pub record IsDeclaration (by d at : ℕ) (x : DeclarationTree) : Type 0 where
  pub shaped : ShapedDeclaration x
  pub nests : declaration_nesting by x ≤ d
  pub placed : DeclarationAt at x

abbrev pub declaration : (by d : ℕ) → Rule DeclarationTree
declaration by d = record { Is = IsDeclaration by d; spell = declaration_kinds; Ends = λ x k. AnythingFollows k }
