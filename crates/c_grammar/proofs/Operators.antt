-- The operators of the grammar are those that the walks know.
use Rattle.std.proofs.Common.{◌≡◌, ℕ, zero, suc, ◌≤◌, IsTrue, List, [], ◌∷◌, get_or, inl, inr, refl, sym, subst, arith}
use Rattle.std.specs.List.{AllByRecursion}
use Rattle.c_syntax.specs.declared.token.Sign.{Sign}
use Rattle.c_syntax.specs.declared.token.Sign.TheVariants as sign
use Rattle.c_syntax.specs.declared.expr.PrefixOperator.{PrefixOperator}
use Rattle.c_syntax.specs.declared.expr.PrefixOperator.TheVariants as prefix
use Rattle.c_syntax.specs.Words.{is_assignment, level_of, operand_rank, prefix_kind}
use Rattle.c_grammar.specs.Grammar.{assignment_operators, chain_operators, IsOneOf, prefix_rule}

one-of : (P : Sign → Type 0) (x : Sign) (ys : List Sign) → IsOneOf x ys → AllByRecursion P ys → P x
one-of P x [] h all = absurd h
one-of P x (y ∷ ys) h all = elim h [ inl same ↦ subst P (sym same) all.0 | inr other ↦ one-of P x ys other all.1 ]

pub assigns : (x : Sign) → IsOneOf x assignment_operators → IsTrue (is_assignment x)
assigns x h =
    one-of (λ y. IsTrue (is_assignment y)) x assignment_operators h (refl, (refl, (refl, (refl, (refl, (refl, (refl, (refl, (refl, (refl, (refl, tt)))))))))))

pub of-assignments : (x : Sign) → IsTrue (is_assignment x) → IsOneOf x assignment_operators
of-assignments sign.Equal h = inl refl
of-assignments sign.StarEqual h = inr (inl refl)
of-assignments sign.SlashEqual h = inr (inr (inl refl))
of-assignments sign.PercentEqual h = inr (inr (inr (inl refl)))
of-assignments sign.PlusEqual h = inr (inr (inr (inr (inl refl))))
of-assignments sign.MinusEqual h = inr (inr (inr (inr (inr (inl refl)))))
of-assignments sign.ShiftLeftEqual h = inr (inr (inr (inr (inr (inr (inl refl))))))
of-assignments sign.ShiftRightEqual h = inr (inr (inr (inr (inr (inr (inr (inl refl)))))))
of-assignments sign.AndEqual h = inr (inr (inr (inr (inr (inr (inr (inr (inl refl))))))))
of-assignments sign.XorEqual h = inr (inr (inr (inr (inr (inr (inr (inr (inr (inl refl)))))))))
of-assignments sign.OrEqual h = inr (inr (inr (inr (inr (inr (inr (inr (inr (inr (inl refl))))))))))
of-assignments _ h = cc

-- a level has operators
pub record HasLevel (x : Sign) (level : ℕ) : Type 0 where
  pub is : level_of x ≡ level
  pub least : 1 ≤ level
  pub most : level ≤ 10

in-level : (x : Sign) (level : ℕ) (ys : List Sign) → IsOneOf x ys → AllByRecursion (λ y. level_of y ≡ level) ys → 1 ≤ level → level ≤ 10 → HasLevel x level
in-level x level ys h all least most = record { is = one-of (λ y. level_of y ≡ level) x ys h all; least = least; most = most }

pub has-level : (x : Sign) (level : ℕ) → IsOneOf x (get_or chain_operators level []) → HasLevel x level
has-level x zero h = absurd h
has-level x (suc zero) h = in-level x 1 (sign.OrOr ∷ []) h (refl, tt) (omega arith) (omega arith)
has-level x (suc (suc zero)) h = in-level x 2 (sign.AndAnd ∷ []) h (refl, tt) (omega arith) (omega arith)
has-level x (suc (suc (suc zero))) h = in-level x 3 (sign.Bar ∷ []) h (refl, tt) (omega arith) (omega arith)
has-level x (suc (suc (suc (suc zero)))) h = in-level x 4 (sign.Caret ∷ []) h (refl, tt) (omega arith) (omega arith)
has-level x (suc (suc (suc (suc (suc zero))))) h = in-level x 5 (sign.Ampersand ∷ []) h (refl, tt) (omega arith) (omega arith)
has-level x (suc (suc (suc (suc (suc (suc zero)))))) h = in-level x 6 (sign.EqualEqual ∷ sign.NotEqual ∷ []) h (refl, (refl, tt)) (omega arith) (omega arith)
has-level x (suc (suc (suc (suc (suc (suc (suc zero))))))) h = in-level x 7 (sign.Less ∷ sign.Greater ∷ sign.LessEqual ∷ sign.GreaterEqual ∷ []) h (refl, (refl, (refl, (refl, tt)))) (omega arith) (omega arith)
has-level x (suc (suc (suc (suc (suc (suc (suc (suc zero)))))))) h = in-level x 8 (sign.ShiftLeft ∷ sign.ShiftRight ∷ []) h (refl, (refl, tt)) (omega arith) (omega arith)
has-level x (suc (suc (suc (suc (suc (suc (suc (suc (suc zero))))))))) h = in-level x 9 (sign.Plus ∷ sign.Minus ∷ []) h (refl, (refl, tt)) (omega arith) (omega arith)
has-level x (suc (suc (suc (suc (suc (suc (suc (suc (suc (suc zero)))))))))) h = in-level x 10 (sign.Star ∷ sign.Slash ∷ sign.Percent ∷ []) h (refl, (refl, (refl, tt))) (omega arith) (omega arith)
has-level x (suc (suc (suc (suc (suc (suc (suc (suc (suc (suc (suc n))))))))))) h = absurd h

its-level : (x : Sign) → 1 ≤ level_of x → IsOneOf x (get_or chain_operators (level_of x) [])
its-level sign.OrOr h = inl refl
its-level sign.AndAnd h = inl refl
its-level sign.Bar h = inl refl
its-level sign.Caret h = inl refl
its-level sign.Ampersand h = inl refl
its-level sign.EqualEqual h = inl refl
its-level sign.NotEqual h = inr (inl refl)
its-level sign.Less h = inl refl
its-level sign.Greater h = inr (inl refl)
its-level sign.LessEqual h = inr (inr (inl refl))
its-level sign.GreaterEqual h = inr (inr (inr (inl refl)))
its-level sign.ShiftLeft h = inl refl
its-level sign.ShiftRight h = inr (inl refl)
its-level sign.Plus h = inl refl
its-level sign.Minus h = inr (inl refl)
its-level sign.Star h = inl refl
its-level sign.Slash h = inr (inl refl)
its-level sign.Percent h = inr (inr (inl refl))
its-level _ h = absurd (omega arith)

pub of-level : (x : Sign) (level : ℕ) → level_of x ≡ level → 1 ≤ level → IsOneOf x (get_or chain_operators level [])
of-level x level is least = subst (λ n. IsOneOf x (get_or chain_operators n [])) is (its-level x (subst (λ n. 1 ≤ n) (sym is) least))

pub prefix-is : (operator : PrefixOperator) → prefix_rule operator ≡ (prefix_kind operator, operand_rank operator)
prefix-is prefix.Increment = refl
prefix-is _ = refl
