-- The rules of statements say what the walks say.
use Rattle.std.proofs.Common.{◌≡◌, ℕ, ◌+◌, Bool, true, false, [], ◌++◌, length, Option, Some, None, refl, sym, ◌∙◌, subst, length-append, arith}
use Rattle.std.specs.Option.{IfSome}
use Rattle.c_syntax.specs.declared.token.Sign.TheVariants as sign
use Rattle.c_syntax.specs.declared.token.Word.TheVariants as word
use Rattle.c_syntax.specs.StatementTree as s
use Rattle.c_syntax.specs.Words.{a_sign, a_word, body_kinds, ends_open, entries_nesting, EntriesAt, entry_kinds, EntryList, expr_kinds, ExprAt, ExprTree, for_start_kinds}
use Rattle.c_syntax.specs.Words.{ForStartAt, Kinds, optional_kinds, optional_nesting, parenthesized_kinds, ShapedEntries, ShapedStatement, statement_kinds}
use Rattle.c_syntax.specs.Words.{statement_nesting, StatementAt, StatementTree}
use Rattle.c_grammar.specs.Grammar.{body_rule, entries_rule, statement_rule}
use Rattle.c_grammar.proofs.Says.{behind-parentheses, join-five, join-four, Says, says-as, says-braced, says-deeper, says-joined, says-only, says-own, says-parenthesized}
use Rattle.c_grammar.proofs.Says.{says-sign, says-then, says-these, says-word, two-on}
use Rattle.c_grammar.proofs.Declarations.{says-computed, says-declaration, says-for-start, says-whole}

abbrev NotOpen : Bool → StatementTree → Type 0
NotOpen closed x = closed ≡ true → ends_open x ≡ false

abbrev SaysStatement : Bool → StatementTree → Type 0
SaysStatement closed x =
    Says (statement_rule closed x) (statement_kinds x) (λ at. StatementAt at x) (ShapedStatement x × NotOpen closed x) (statement_nesting x)

may-end-open : (closed : Bool) → (closed ≡ true → true ≡ false) → closed ≡ false
may-end-open false h = refl
may-end-open true h = h refl

not-closed : {P : Type 0} → false ≡ true → P
not-closed h = cc

-- what stands behind a word and a condition in parentheses
behind-condition : (ks : Kinds) (at : ℕ) → at + 1 + length (parenthesized_kinds ks) ≡ at + 2 + length ks + 1
behind-condition ks at = behind-parentheses ks (at + 1) ∙ (λ i. two-on at i + length ks + 1)

behind-for : (f c t : Kinds) (at : ℕ) → at + 1 + length (parenthesized_kinds (f ++ c ++ a_sign sign.Semicolon ++ t)) ≡ at + 2 + length f + length c + 1 + length t + 1
behind-for f c t at =
    let one = behind-condition (f ++ c ++ a_sign sign.Semicolon ++ t) at in
    let two = length-append (f ++ c ++ a_sign sign.Semicolon) t in
    let three = length-append (f ++ c) (a_sign sign.Semicolon) in
    let four = length-append f c in
    omega arith

abbrev condition_at : ExprTree → ℕ → Type 0
condition_at c at = ExprAt at c

mutual
  pub says-statement : (x : StatementTree) (closed : Bool) → SaysStatement closed x
  says-statement (s.Block token within) closed =
      says-as (says-own token (says-braced (says-entries within))) (λ at h. h) (λ at h. h) (λ s. (s, λ h. refl)) (λ s. s.0) refl
  says-statement (s.Empty token) closed =
      says-as (says-own token (says-sign sign.Semicolon)) (λ at h. h.0) (λ at h. (h, tt)) (λ s. (tt, λ h. refl)) (λ s. tt) refl
  says-statement (s.Expr token x) closed =
      says-as (says-own token (says-then (says-whole x) (says-sign sign.Semicolon))) (λ at h. (h.0, h.1.0)) (λ at h. (h.0, (h.1, tt))) (λ s. (s.0, λ h. refl))
      (λ s. (s.0, tt)) (omega arith)
  says-statement (s.If token condition first) closed =
      says-as
      (says-only (closed ≡ false) (says-then (says-own token (says-word word.If)) (says-then (says-parenthesized (says-whole condition))
      (says-deeper 1 (says-statement first false)))))
      (λ at h. (
        h.0.0,
        subst (condition_at condition) (two-on at) h.1.0,
        subst (λ n. StatementAt n first) (behind-condition (expr_kinds condition) at) h.1.1,
      ))
      (λ at h. (
        (h.0, tt),
        (
          subst (condition_at condition) (sym (two-on at)) h.1,
          subst (λ n. StatementAt n first) (sym (behind-condition (expr_kinds condition) at)) h.2,
        ),
      ))
      (λ s. ((s.1.1.0, s.1.1.1.0), λ h. sym h ∙ s.0))
      (λ s. (may-end-open closed s.1, (tt, (s.0.0, (s.0.1, λ h. not-closed h)))))
      (omega arith)
  says-statement (s.IfElse token condition first second) closed =
      says-joined (join-five (a_word word.If) (parenthesized_kinds (expr_kinds condition)) (statement_kinds first) (a_word word.Else) (statement_kinds second))
      (says-as
      (says-then (says-own token (says-word word.If)) (says-then (says-parenthesized (says-whole condition)) (says-then (says-deeper 1 (says-statement first true))
      (says-then (says-word word.Else) (says-deeper 1 (says-statement second closed))))))
      (λ at h. (
        h.0.0,
        subst (condition_at condition) (two-on at) h.1.0,
        subst (λ n. StatementAt n first) (behind-condition (expr_kinds condition) at) h.1.1.0,
        subst (λ n. StatementAt n second) (λ i. behind-condition (expr_kinds condition) at i + length (statement_kinds first) + 1) h.1.1.1.1,
      ))
      (λ at h. (
        (h.0, tt),
        (
          subst (condition_at condition) (sym (two-on at)) h.1,
          (
            subst (λ n. StatementAt n first) (sym (behind-condition (expr_kinds condition) at)) h.2,
            (
              tt,
              subst (λ n. StatementAt n second) (λ i. sym (behind-condition (expr_kinds condition) at) i + length (statement_kinds first) + 1) h.3,
            ),
          ),
        ),
      ))
      (λ s. ((s.1.0, s.1.1.0.0, s.1.1.0.1 refl, s.1.1.1.1.0), s.1.1.1.1.1))
      (λ s. (tt, (s.0.0, ((s.0.1, λ h. s.0.2), (tt, (s.0.3, s.1))))))
      (omega arith))
  says-statement (s.While token condition first) closed =
      says-as
      (says-then (says-own token (says-word word.While)) (says-then (says-parenthesized (says-whole condition)) (says-deeper 1 (says-statement first closed))))
      (λ at h. (
        h.0.0,
        subst (condition_at condition) (two-on at) h.1.0,
        subst (λ n. StatementAt n first) (behind-condition (expr_kinds condition) at) h.1.1,
      ))
      (λ at h. (
        (h.0, tt),
        (
          subst (condition_at condition) (sym (two-on at)) h.1,
          subst (λ n. StatementAt n first) (sym (behind-condition (expr_kinds condition) at)) h.2,
        ),
      ))
      (λ s. ((s.1.0, s.1.1.0), s.1.1.1))
      (λ s. (tt, (s.0.0, (s.0.1, s.1))))
      (omega arith)
  says-statement (s.Do token first condition) closed =
      says-joined (join-five (a_word word.Do) (statement_kinds first) (a_word word.While) (parenthesized_kinds (expr_kinds condition)) (a_sign sign.Semicolon))
      (says-as
      (says-then (says-own token (says-word word.Do)) (says-then (says-deeper 1 (says-statement first false)) (says-then (says-word word.While)
      (says-then (says-parenthesized (says-whole condition)) (says-sign sign.Semicolon)))))
      (λ at h. (h.0.0, h.1.0, subst (condition_at condition) (two-on (at + 1 + length (statement_kinds first))) h.1.1.1.0))
      (λ at h. ((h.0, tt), (h.1, (tt, (subst (condition_at condition) (sym (two-on (at + 1 + length (statement_kinds first)))) h.2, tt)))))
      (λ s. ((s.1.0.0, s.1.1.1.0), λ h. refl))
      (λ s. (tt, ((s.0.0, λ h. not-closed h), (tt, (s.0.1, tt)))))
      (omega arith))
  says-statement (s.For token begin condition step first) closed =
      says-as
      (says-then (says-own token (says-word word.For)) (says-then (says-parenthesized (says-joined
      (join-four (for_start_kinds begin) (optional_kinds expr_kinds condition) (a_sign sign.Semicolon) (optional_kinds expr_kinds step))
      (says-then (says-for-start begin) (says-then (says-computed condition) (says-then (says-sign sign.Semicolon) (says-computed step))))))
      (says-deeper 1 (says-statement first closed))))
      (λ at h. (
        h.0.0,
        subst (λ n. ForStartAt n begin) (two-on at) h.1.0.0,
        subst (λ n. IfSome condition (ExprAt n)) (λ i. two-on at i + length (for_start_kinds begin)) h.1.0.1.0,
        subst (λ n. IfSome step (ExprAt n)) (λ i. two-on at i + length (for_start_kinds begin) + length (optional_kinds expr_kinds condition) + 1) h.1.0.1.1.1,
        subst (λ n. StatementAt n first) (behind-for (for_start_kinds begin) (optional_kinds expr_kinds condition) (optional_kinds expr_kinds step) at) h.1.1,
      ))
      (λ at h. (
        (h.0, tt),
        (
          (
            subst (λ n. ForStartAt n begin) (sym (two-on at)) h.1,
            (
              subst (λ n. IfSome condition (ExprAt n)) (λ i. sym (two-on at) i + length (for_start_kinds begin)) h.2,
              (
                tt,
                subst (λ n. IfSome step (ExprAt n)) (λ i. sym (two-on at) i + length (for_start_kinds begin) + length (optional_kinds expr_kinds condition) + 1) h.3,
              ),
            ),
          ),
          subst (λ n. StatementAt n first)
              (sym (behind-for (for_start_kinds begin) (optional_kinds expr_kinds condition) (optional_kinds expr_kinds step) at)) h.4,
        ),
      ))
      (λ s. ((s.1.0.0, s.1.0.1.0, s.1.0.1.1.1, s.1.1.0), s.1.1.1))
      (λ s. (tt, ((s.0.0, (s.0.1, (tt, s.0.2))), (s.0.3, s.1))))
      (omega arith)
  says-statement (s.Return token value) closed =
      says-as (says-then (says-own token (says-word word.Return)) (says-then (says-computed value) (says-sign sign.Semicolon))) (λ at h. (h.0.0, h.1.0))
      (λ at h. ((h.0, tt), (h.1, tt))) (λ s. (s.1.0, λ h. refl)) (λ s. (tt, (s.0, tt))) (omega arith)
  says-statement (s.Break token) closed =
      says-as (says-then (says-own token (says-word word.Break)) (says-sign sign.Semicolon)) (λ at h. h.0.0) (λ at h. ((h, tt), tt)) (λ s. (tt, λ h. refl))
      (λ s. (tt, tt)) (omega arith)
  says-statement (s.Continue token) closed =
      says-as (says-then (says-own token (says-word word.Continue)) (says-sign sign.Semicolon)) (λ at h. h.0.0) (λ at h. ((h, tt), tt)) (λ s. (tt, λ h. refl))
      (λ s. (tt, tt)) (omega arith)

  pub says-entries : (within : EntryList) → Says (entries_rule within) (entry_kinds within) (λ at. EntriesAt at within) (ShapedEntries within) (entries_nesting within)
  says-entries s.no_entries = says-these []
  says-entries (s.declared d rest) = says-then (says-deeper 1 (says-declaration 0 d)) (says-entries rest)
  says-entries (s.stated x rest) =
      says-as (says-then (says-deeper 1 (says-statement x false)) (says-entries rest)) (λ at h. h) (λ at h. h) (λ s. (s.0.0, s.1))
      (λ s. ((s.0, λ h. not-closed h), s.1)) refl

pub says-body : (o : Option EntryList) → Says (body_rule o) (body_kinds o) (λ at. IfSome o (EntriesAt (at + 1))) (IfSome o ShapedEntries) (optional_nesting entries_nesting o)
says-body None = says-sign sign.Semicolon
says-body (Some within) = says-braced (says-entries within)
