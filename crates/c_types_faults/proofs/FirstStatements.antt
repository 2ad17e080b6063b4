-- Of the rules that a declaration or a statement breaks one is the first.
use Rattle.std.proofs.Common.{inl, inr, ◌≡◌, ℕ, sym, ◌∙◌, List, [], ◌∷◌, Some, None, Bool, true, false}
use Rattle.std.proofs.lemmas.Bool.{false≢true}
use Rattle.std.specs.Prelude.{Option}
use Rattle.c_syntax.specs.ExprTree as e
use Rattle.c_syntax.specs.Words.{ExprTree, ExprList, first_token, DeclarationTree, EntryList, ForStartTree, InitialTree, StartTree, StatementTree}
use Rattle.c_syntax.specs.StatementTree as s
use Rattle.c_types_rules.specs.declared.fault.FaultKind.{FaultKind}
use Rattle.c_types_rules.specs.declared.fault.FaultKind.TheVariants as fault
use Rattle.c_types_rules.specs.declared.library.Library.TheVariants as library
use Rattle.c_types_rules.specs.declared.operand.Operand.{Operand}
use Rattle.c_types_rules.specs.Words.{is_struct, TypeTree}
use Rattle.c_types_faults.specs.Known.{Entity, Object, Standard, Known}
use Rattle.c_types_faults.specs.Context.{Context, name_declared, inner_context, known_identifiers}
use Rattle.c_types_faults.specs.Types.{BaseBreaks, IsBase}
use Rattle.c_types_faults.specs.Exprs.{AreOperands, IsOperand}
use Rattle.c_types_faults.specs.ExprBreaks.{Breaks, ListBreaks}
use Rattle.c_types_faults.specs.Initialisers.{InitialBreaks, Lists, ObjectBegins}
use Rattle.c_types_faults.specs.Declarations.{DeclarationBreaks, DeclarationGives, DeclaratorFits, DeclaratorRule, Finishes, SizeBreaks}
use Rattle.c_types_faults.specs.Declarations.{VariableBreaks, VariableGives, VariablesBreak}
use Rattle.c_types_faults.specs.Least.{IsLeast}
use Rattle.c_types_faults.specs.Wholes.{IsWhole, WholeBreaks, WholeCallBreaks}
use Rattle.c_types_faults.specs.Statements.{EntriesBreak, ForBreaks, GivesUpStruct, IfPart, IsSomeOperand, JumpBreaks, NoCondition, OfPart, ReturnBreaks}
use Rattle.c_types_faults.specs.Statements.{IsRuledStatement, StartBreaks, StartLeaves, StatementBreaks, for_start_expression}
use Rattle.c_types_faults.proofs.First.{Next, OneKind, Single, Then, at_single, kind_single, least_single, next_single, none_single, then_single}
use Rattle.c_types_faults.proofs.FirstExprs.{base_single, call_kind, expr_single, list_single}
use Rattle.c_types_faults.proofs.Quiet.{completes_one, declaration_one, declaration_silent, initial_silent, one_type, part_silent, statement_silent}
use Rattle.c_types_faults.proofs.Quiet.{variable_one, variable_silent, whole_one, whole_silent, ForRest}
use Rattle.c_types_faults.proofs.Silent.{base_silent, expr_silent, list_silent}
use Rattle.c_types_faults.proofs.Single.{one_base, one_list, one_operand}

-- initialisers

initial_single : (k : Known) (global : Bool) (of : TypeTree) (initial : Option InitialTree) → Single (InitialBreaks k global of initial)
initial_single k global of None = none_single
initial_single k global of (Some (s.Value value)) = then_single (IsOperand k value) (Breaks k value)
    (λ x j at. (at ≡ first_token value) × (j ≡ fault.Initialiser) × ((t : TypeTree) → ObjectBegins global of value x t → ⊥))
    (one_operand k value) (expr_silent k value) (expr_single k value) (λ x h.
    kind_single ((t : TypeTree) → ObjectBegins global of value x t → ⊥) (first_token value) fault.Initialiser)
initial_single k global of (Some (s.Braced token items comma)) = then_single (AreOperands k items) (ListBreaks k items)
    (λ xs j at. (at ≡ token) × (j ≡ fault.Initialiser) × ((t : TypeTree) → Lists global of items xs t → ⊥))
    (one_list k items) (list_silent k items) (list_single k items) (λ xs h.
    kind_single ((t : TypeTree) → Lists global of items xs t → ⊥) token fault.Initialiser)

-- variables

module _ (global : Bool) (base : TypeTree) where
  declarator_silent : (x : StartTree) (c : Context) (t : TypeTree) (j : FaultKind) → DeclaratorFits global base c x t → DeclaratorRule global base c x j → ⊥
  declarator_silent x c t j h (inl b) = h.0 b.1
  declarator_silent x c t j h (inr b) = h.2 (b.1 t h.1)

  variable_single : (x : StartTree) (c : Context) → Single (VariableBreaks global base c x)
  variable_single x c =
      let own : TypeTree → FaultKind → ℕ → Type 0 = λ u j at. (at ≡ x.token) × (j ≡ fault.Object) × SizeBreaks global base c u in
      let inside : TypeTree → Known = λ t. known_identifiers (name_declared x.declarator.name (Object t) c) in
      then_single (DeclaratorFits global base c x) (λ j at. (at ≡ x.token) × IsLeast (DeclaratorRule global base c x) j)
      (λ t. Then (Finishes global base c x t) (InitialBreaks (inside t) global t x.initial) own)
      (λ t u h g. one_type x.declarator base t u h.1 g.1) (λ t j at h b. declarator_silent x c t j h b.1.0)
      (least_single (DeclaratorRule global base c x) x.token) (λ t h.
      then_single (Finishes global base c x t) (InitialBreaks (inside t) global t x.initial) own
      (completes_one (inside t) global t x.initial) (initial_silent (inside t) global t x.initial) (initial_single (inside t) global t x.initial) (λ u f.
      kind_single (SizeBreaks global base c u) x.token fault.Object))

  variables_single : (xs : List StartTree) (c : Context) → Single (VariablesBreak global base c xs)
  variables_single [] c = none_single
  variables_single (x ∷ xs) c = then_single (VariableGives global base c x) (VariableBreaks global base c x) (λ next. VariablesBreak global base next xs)
      (variable_one global base x c) (variable_silent global base x c) (variable_single x c) (λ next h. variables_single xs next)

pub declaration_single : (global : Bool) (d : DeclarationTree) (c : Context) → Single (DeclarationBreaks global c d)
declaration_single global d c = then_single (IsBase (known_identifiers c) d.base) (BaseBreaks (known_identifiers c) d.base) (λ base. VariablesBreak global base c d.starts)
    (one_base (known_identifiers c) d.base) (base_silent (known_identifiers c) d.base) (base_single (known_identifiers c) d.base) (λ base h. variables_single global base d.starts c)

-- whole expressions

whole_call_kind : (x : Option Entity) (arguments : ExprList) (xs : List Operand) → OneKind (WholeCallBreaks x arguments xs)
whole_call_kind (Some (Standard library.Printf)) arguments xs i j h g = h.0 ∙ sym g.0
whole_call_kind x arguments xs i j h g = call_kind x xs i j h g

module _ (k : Known) where
  whole_single : (x : ExprTree) → Single (WholeBreaks k x)
  whole_single (e.Call token name arguments) = then_single (AreOperands k arguments) (ListBreaks k arguments)
      (λ xs j at. (at ≡ token) × WholeCallBreaks (k.ordinary name) arguments xs j)
      (one_list k arguments) (list_silent k arguments) (list_single k arguments) (λ xs h.
      at_single (WholeCallBreaks (k.ordinary name) arguments xs) token (whole_call_kind (k.ordinary name) arguments xs))
  whole_single x = expr_single k x

  -- parts of statements

  some_silent : (x : ExprTree) (j : FaultKind) (at : ℕ) → IsSomeOperand k x → Breaks k x j at → ⊥
  some_silent x j at (a, h) b = expr_silent k x a j at h b

  some_part_silent : (x : Option ExprTree) (j : FaultKind) (at : ℕ) → IfPart (IsSomeOperand k) x → OfPart (λ y. Breaks k y j at) x → ⊥
  some_part_silent x j at h b = part_silent (IsSomeOperand k) (λ y. Breaks k y j at) x (λ y. some_silent y j at) h b

  part_single : (x : Option ExprTree) → Single (λ j at. OfPart (λ y. Breaks k y j at) x)
  part_single None = none_single
  part_single (Some x) = expr_single k x

  condition_single : (token : ℕ) (x : ExprTree) → Single (λ j at. (at ≡ token) × NoCondition k x j)
  condition_single token x = at_single (NoCondition k x) token (λ i j h g. h.0 ∙ sym g.0)

part_kind : (P : ExprTree → Type 0) (x : Option ExprTree) (j : FaultKind) → ((y : ExprTree) → P y → j ≡ fault.Operands) → OfPart P x → j ≡ fault.Operands
part_kind P None j f h = absurd h
part_kind P (Some x) j f h = f x h

for_kind : (before k : Known) (start : ForStartTree) (condition step : Option ExprTree) (j : FaultKind) → ForBreaks before k start condition step j
    → j ≡ fault.Operands
for_kind before k start condition step j (inl h) = part_kind (λ x. GivesUpStruct before x j) (for_start_expression start) j (λ y g. g.0) h
for_kind before k start condition step j (inr (inl h)) = part_kind (λ x. NoCondition k x j) condition j (λ y g. g.0) h
for_kind before k start condition step j (inr (inr h)) = part_kind (λ x. GivesUpStruct k x j) step j (λ y g. g.0) h

return_kind : (k : Known) (gives : TypeTree) (value : Option ExprTree) → OneKind (ReturnBreaks k gives value)
return_kind k gives None i j h g = h.0 ∙ sym g.0
return_kind k gives (Some x) i j (inl h) (inl g) = h.0 ∙ sym g.0
return_kind k gives (Some x) i j (inl h) (inr g) = absurd (false≢true (sym g.1 ∙ h.1))
return_kind k gives (Some x) i j (inr h) (inl g) = absurd (false≢true (sym h.1 ∙ g.1))
return_kind k gives (Some x) i j (inr h) (inr g) = h.0 ∙ sym g.0

leaves_one : (start : ForStartTree) (c a b : Context) → StartLeaves c start a → StartLeaves c start b → a ≡ b
leaves_one (s.Declares d) c a b h g = declaration_one false d c a b h g
leaves_one (s.Computes x) c a b h g = h.1 ∙ sym g.1

leaves_silent : (start : ForStartTree) (c a : Context) (j : FaultKind) (at : ℕ) → StartLeaves c start a → StartBreaks c start j at → ⊥
leaves_silent (s.Declares d) c a j at h b = declaration_silent false d c a j at h b
leaves_silent (s.Computes x) c a j at h b = some_part_silent (known_identifiers c) x j at h.0 b

start_single : (start : ForStartTree) (c : Context) → Single (StartBreaks c start)
start_single (s.Declares d) c = declaration_single false d c
start_single (s.Computes x) c = part_single (known_identifiers c) x

-- statements

module _ (gives : TypeTree) where
  decided_single : (c : Context) (condition : ExprTree) (N : FaultKind → ℕ → Type 0) → Single N
      → Single (Next (IsSomeOperand (known_identifiers c) condition) (Breaks (known_identifiers c) condition) N)
  decided_single c condition N n = next_single (IsSomeOperand (known_identifiers c) condition) (Breaks (known_identifiers c) condition) N
      (some_silent (known_identifiers c) condition) (expr_single (known_identifiers c) condition) (λ o. n)

  stated_single : (c : Context) (looping : Bool) (x : StatementTree) (N : FaultKind → ℕ → Type 0) → Single (StatementBreaks gives c looping x) → Single N
      → Single (Next (IsRuledStatement gives c looping x) (StatementBreaks gives c looping x) N)
  stated_single c looping x N f n = next_single (IsRuledStatement gives c looping x) (StatementBreaks gives c looping x) N
      (statement_silent gives looping x c) f (λ o. n)

  for_single : (start : ForStartTree) (condition step : Option ExprTree) (body : StatementTree) (c d : Context) (token : ℕ)
      → Single (StatementBreaks gives d true body) → Single (λ j at. ForRest gives d start condition step body c j at token)
  for_single start condition step body c d token f =
      let own : FaultKind → ℕ → Type 0 = λ j at. (at ≡ token) × ForBreaks (known_identifiers (inner_context c)) (known_identifiers d) start condition step j in
      let behind : FaultKind → ℕ → Type 0 = Next (IsRuledStatement gives d true body) (StatementBreaks gives d true body) own in
      next_single (IfPart (IsSomeOperand (known_identifiers d)) condition) (λ j at. OfPart (λ x. Breaks (known_identifiers d) x j at) condition)
      (Next (IfPart (IsSomeOperand (known_identifiers d)) step) (λ j at. OfPart (λ x. Breaks (known_identifiers d) x j at) step) behind)
      (some_part_silent (known_identifiers d) condition) (part_single (known_identifiers d) condition) (λ p.
      next_single (IfPart (IsSomeOperand (known_identifiers d)) step) (λ j at. OfPart (λ x. Breaks (known_identifiers d) x j at) step) behind
      (some_part_silent (known_identifiers d) step) (part_single (known_identifiers d) step) (λ q.
      stated_single d true body own f
      (at_single (ForBreaks (known_identifiers (inner_context c)) (known_identifiers d) start condition step) token (λ i j h g.
      for_kind (known_identifiers (inner_context c)) (known_identifiers d) start condition step i h ∙ sym (for_kind (known_identifiers (inner_context c)) (known_identifiers d) start condition step j g)))))

  mutual
    pub statement_single : (looping : Bool) (x : StatementTree) (c : Context) → Single (StatementBreaks gives c looping x)
    statement_single looping (s.Block token entries) c = entries_single looping entries (inner_context c)
    statement_single looping (s.Empty token) c = none_single
    statement_single looping (s.Expr token x) c = then_single (IsWhole (known_identifiers c) x) (WholeBreaks (known_identifiers c) x)
        (λ a j at. (at ≡ token) × (j ≡ fault.Operands) × (is_struct a.ctype ≡ true)) (whole_one (known_identifiers c) x) (whole_silent (known_identifiers c) x)
        (whole_single (known_identifiers c) x) (λ a h. kind_single (is_struct a.ctype ≡ true) token fault.Operands)
    statement_single looping (s.If token condition first) c =
        let own : FaultKind → ℕ → Type 0 = λ j at. (at ≡ token) × NoCondition (known_identifiers c) condition j in
        decided_single c condition (Next (IsRuledStatement gives c looping first) (StatementBreaks gives c looping first) own)
        (stated_single c looping first own (statement_single looping first c) (condition_single (known_identifiers c) token condition))
    statement_single looping (s.IfElse token condition first second) c =
        let own : FaultKind → ℕ → Type 0 = λ j at. (at ≡ token) × NoCondition (known_identifiers c) condition j in
        let last : FaultKind → ℕ → Type 0 = Next (IsRuledStatement gives c looping second) (StatementBreaks gives c looping second) own in
        decided_single c condition (Next (IsRuledStatement gives c looping first) (StatementBreaks gives c looping first) last)
        (stated_single c looping first last (statement_single looping first c)
        (stated_single c looping second own (statement_single looping second c) (condition_single (known_identifiers c) token condition)))
    statement_single looping (s.While token condition body) c =
        let own : FaultKind → ℕ → Type 0 = λ j at. (at ≡ token) × NoCondition (known_identifiers c) condition j in
        decided_single c condition (Next (IsRuledStatement gives c true body) (StatementBreaks gives c true body) own)
        (stated_single c true body own (statement_single true body c) (condition_single (known_identifiers c) token condition))
    statement_single looping (s.Do token body condition) c =
        let own : FaultKind → ℕ → Type 0 = λ j at. (at ≡ token) × NoCondition (known_identifiers c) condition j in
        stated_single c true body (Next (IsSomeOperand (known_identifiers c) condition) (Breaks (known_identifiers c) condition) own) (statement_single true body c)
        (decided_single c condition own (condition_single (known_identifiers c) token condition))
    statement_single looping (s.For token start condition step body) c = then_single (StartLeaves (inner_context c) start) (StartBreaks (inner_context c) start)
        (λ d j at. ForRest gives d start condition step body c j at token) (leaves_one start (inner_context c)) (leaves_silent start (inner_context c))
        (start_single start (inner_context c)) (λ d h. for_single start condition step body c d token (statement_single true body d))
    statement_single looping (s.Return token value) c = next_single (IfPart (IsSomeOperand (known_identifiers c)) value)
        (λ j at. OfPart (λ x. Breaks (known_identifiers c) x j at) value) (λ j at. (at ≡ token) × ReturnBreaks (known_identifiers c) gives value j)
        (some_part_silent (known_identifiers c) value) (part_single (known_identifiers c) value) (λ o.
        at_single (ReturnBreaks (known_identifiers c) gives value) token (return_kind (known_identifiers c) gives value))
    statement_single looping (s.Break token) c = at_single (JumpBreaks looping) token (λ i j h g. h.0 ∙ sym g.0)
    statement_single looping (s.Continue token) c = at_single (JumpBreaks looping) token (λ i j h g. h.0 ∙ sym g.0)

    pub entries_single : (looping : Bool) (xs : EntryList) (c : Context) → Single (EntriesBreak gives c looping xs)
    entries_single looping s.no_entries c = none_single
    entries_single looping (s.declared declaration rest) c = then_single (DeclarationGives false c declaration) (DeclarationBreaks false c declaration)
        (λ next. EntriesBreak gives next looping rest) (declaration_one false declaration c) (declaration_silent false declaration c)
        (declaration_single false declaration c) (λ next h. entries_single looping rest next)
    entries_single looping (s.stated statement rest) c =
        stated_single c looping statement (EntriesBreak gives c looping rest) (statement_single looping statement c) (entries_single looping rest c)
