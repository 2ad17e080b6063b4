-- Lists in parts: what holds of both parts, and how many tokens there are.
use Rattle.std.proofs.Common.{◌≡◌, ℕ, ◌≤◌, arith, List, [], ◌∷◌, ◌++◌, Some, None, ◌+◌, length, length-append}
use Rattle.std.specs.Prelude.{Option}
use Rattle.cbi_base.specs.declared.operators.Binary.{Binary}
use Rattle.c_syntax.specs.declared.token.Sign.{Sign}
use Rattle.c_syntax.specs.declared.token.Sign.TheVariants as sign
use Rattle.c_syntax.specs.Words.{HasOne, Kinds, a_sign, text_kinds}
use Rattle.c_types_expressions.specs.ExprWalk.{compound_of}
use Rattle.c_meaning_laws.proofs.RuledOperators.{IsNoEquality}

pub infix_long : (xs ys : Kinds) (s : Sign) → length (xs ++ a_sign s ++ ys) ≡ length xs + 1 + length ys
infix_long xs ys s = omega (arith, length-append (xs ++ a_sign s) ys, length-append xs (a_sign s))

pub texts_long : (parts : List (List ℕ)) → HasOne parts → 1 ≤ length (text_kinds parts)
texts_long [] h = absurd h
texts_long (p ∷ parts) h = omega arith

-- no compound assignment is an equality
abbrev pub NoEquality : Option Binary → Type 0
NoEquality None = Unit {0}
NoEquality (Some o) = IsNoEquality o

pub no_equality : (s : Sign) → NoEquality (compound_of s)
no_equality sign.StarEqual = tt
no_equality sign.SlashEqual = tt
no_equality sign.PercentEqual = tt
no_equality sign.PlusEqual = tt
no_equality sign.MinusEqual = tt
no_equality sign.ShiftLeftEqual = tt
no_equality sign.ShiftRightEqual = tt
no_equality sign.AndEqual = tt
no_equality sign.XorEqual = tt
no_equality sign.OrEqual = tt
no_equality s = tt
