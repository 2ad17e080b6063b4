-- What the loops over the parts of items keep: each turn takes a token.
use Rattle.std.proofs.Common.{◌≡◌, ℕ, ◌<◌, inl, inr, cond, length, Some, None, Ok, subst, arith}
use Rattle.std.proofs.lemmas.Bool.{cases_Bool}
use Rattle.c_syntax.specs.declared.token.Sign.TheVariants as sign_is
use Rattle.c_syntax.specs.declared.parts.Members.{Members}
use Rattle.c_parser_expressions.specs.Reading.{Cursor, Rule, Found, Read, Outcome, next_cursor}
use Rattle.c_parser_expressions.specs.Marks.{begins_with_sign}
use Rattle.c_parser_expressions.specs.Steps.{Step, Advances}
use Rattle.c_parser_declarations.specs.Declarations.{declarator}
use Rattle.c_parser_declarations.specs.Parts.{members, param}
use Rattle.c_parser_declarations.specs.DeclarationParser.{the_declarator}
use Rattle.c_parser_declarations.specs.PartParser.{declarator_step, members_by, members_step, param_by, param_step}
use Rattle.c_parser_expressions.proofs.Heads.{stands-sign}
use Rattle.c_parser_expressions.proofs.Laws.{found-shorter, found-takes}
use Rattle.c_parser_expressions.proofs.Primary.{behind-shorter}
use Rattle.c_parser_declarations.proofs.Declarators.{declarator-parses}
use Rattle.c_parser_declarations.proofs.MemberLines.{line-length, members-parses}
use Rattle.c_parser_declarations.proofs.ParamParses.{param-parses}

-- a part behind a comma takes it
pub comma-takes : {A : Type 0} (R : Rule A) (item : Cursor → Read A) → ((c : Cursor) → Outcome R c (item c)) → (c to : Cursor) (x : A)
    → cond (begins_with_sign sign_is.Comma c.rest) (Some (item (next_cursor c))) None ≡ Some (Ok (x, to)) → length to.rest < length c.rest
comma-takes {A} R item o c to x h = elim (cases_Bool (begins_with_sign sign_is.Comma c.rest)) [
  | inl t ↦
      (let some : Some (item (next_cursor c)) ≡ Some (Ok (x, to)) = rw t at h in
      let read : item (next_cursor c) ≡ Ok (x, to) = cc in
      let found : Found R (next_cursor c) x to = subst (λ (r : Read A). Outcome R (next_cursor c) r) read (o (next_cursor c)) in
      let less = found-shorter R (next_cursor c) to x found in
      let one = behind-shorter c.rest sign_is.Comma (stands-sign sign_is.Comma c.rest (omega arith) t) in
      omega arith)
  | inr f ↦ (let none : ◌≡◌ {A = Step A} None (Some (Ok (x, to))) = rw f at h in cc)
]

pub declarators_advance : (d : ℕ) → Advances (declarator_step d)
unfolding declarator_step
declarators_advance d = record { less = λ c x to h. comma-takes (declarator d) (the_declarator d) (declarator-parses d) c to x h }

pub params_advance : (d : ℕ) → Advances (param_step d)
unfolding param_step
params_advance d = record { less = λ c x to h. comma-takes (param d) (param_by d) (param-parses d) c to x h }

members-take : (d : ℕ) (c to : Cursor) (x : Members) → cond (begins_with_sign sign_is.RightBrace c.rest) None (Some (members_by d c)) ≡ Some (Ok (x, to)) → length to.rest < length c.rest
members-take d c to x h = elim (cases_Bool (begins_with_sign sign_is.RightBrace c.rest)) [
  | inl t ↦ (let none : ◌≡◌ {A = Step Members} None (Some (Ok (x, to))) = rw t at h in cc)
  | inr f ↦
      (let some : Some (members_by d c) ≡ Some (Ok (x, to)) = rw f at h in
      let read : members_by d c ≡ Ok (x, to) = cc in
      let found : Found (members d) c x to = subst (λ (r : Read Members). Outcome (members d) c r) read (members-parses d c) in
      found-takes (members d) c to x (line-length x) found)
]

pub lines_advance : (d : ℕ) → Advances (members_step d)
unfolding members_step
lines_advance d = record { less = λ c x to h. members-take d c to x h }
