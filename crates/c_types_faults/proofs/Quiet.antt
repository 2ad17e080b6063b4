-- What keeps the rules breaks none.
use Rattle.std.proofs.Common.{◌⊎◌, inl, inr, ⊎_elim, ◌≡◌, ℕ, ap, subst, sym, ◌∙◌, List, [], ◌∷◌, Some, None, Bool, true, false}
use Rattle.std.proofs.lemmas.Bool.{false≢true}
use Rattle.std.specs.Prelude.{Option}
use Rattle.base_lists.proofs.Options.{one_some}
use Rattle.c_syntax.specs.declared.parts.Declarator.{Declarator}
use Rattle.c_syntax.specs.ExprTree as e
use Rattle.c_syntax.specs.Words.{ExprTree, ExprList, DeclarationTree, EntryList, ForStartTree, InitialTree, StartTree, StatementTree}
use Rattle.c_syntax.specs.StatementTree as s
use Rattle.c_types_rules.specs.declared.fault.FaultKind.{FaultKind}
use Rattle.c_types_rules.specs.declared.fault.FaultKind.TheVariants as fault
use Rattle.c_types_rules.specs.declared.layout.StructType.{StructType}
use Rattle.c_types_rules.specs.declared.library.Library.TheVariants as library
use Rattle.c_types_rules.specs.declared.operand.Operand.{Operand}
use Rattle.c_types_rules.specs.Words.{is_struct, cells_of, TypeTree, Void, Char, Int, Unsigned, Pointer, Array, Struct}
use Rattle.c_types_walk.specs.Declarators.{declared_type}
use Rattle.c_types_walk.specs.Initialisers.{cells_of_string, listed_type as list_of, type_by_expression}
use Rattle.c_types_laws.specs.Operands.{Accepts, IsScalar}
use Rattle.c_types_faults.specs.Known.{Entity, Object, Standard, Known}
use Rattle.c_types_faults.specs.Calls.{Calls}
use Rattle.c_types_faults.specs.Context.{Context, global_cells_added, name_declared, inner_context, known_identifiers}
use Rattle.c_types_faults.specs.Declarators.{DeclaresAs}
use Rattle.c_types_faults.specs.Initialisers.{Completes, InitialBreaks, Lists, ObjectBegins}
use Rattle.c_types_faults.specs.Declarations.{BeginningBreaks, DeclarationBreaks, DeclarationGives, ElementBreaks, Finishes, GlobalsHaveRoom, IsObject, IsOpen, SizeBreaks}
use Rattle.c_types_faults.specs.Declarations.{VariableBreaks, VariableGives, VariablesBreak, VariablesGive}
use Rattle.c_types_faults.specs.ExprBreaks.{Breaks}
use Rattle.c_types_faults.specs.Wholes.{IsFormatted, IsWhole, WholeBreaks, WholeCallBreaks}
use Rattle.c_types_faults.specs.Statements.{AreRuledEntries, EntriesBreak, ForBreaks, GivesUpStruct, IfPart, IsCondition, IsGivenUp, IsSomeOperand, NoCondition, OfPart}
use Rattle.c_types_faults.specs.Statements.{IsRuledStatement, ReturnBreaks, Returns, StartBreaks, StartGives, StartLeaves, StatementBreaks, for_start_expression}
use Rattle.c_types_faults.proofs.Beginnings.{begins_back, lists_back, completes_so, SameOrOpen}
use Rattle.c_types_faults.proofs.Bounds.{declared_back}
use Rattle.c_types_faults.proofs.Variables.{element_object}
use Rattle.c_types_faults.proofs.Silent.{base_silent, call_silent, expr_silent, list_silent}
use Rattle.c_types_faults.proofs.Single.{one_base, one_list, one_operand}

pub one_type : (d : Declarator) (base t u : TypeTree) → DeclaresAs d base t → DeclaresAs d base u → t ≡ u
one_type d base t u h k = one_some (declared_type d base) t u (declared_back d base t h) (declared_back d base u k)

-- initialisers

module _ (k : Known) (global : Bool) where
  pub completes_one : (of : TypeTree) (initial : Option InitialTree) (t u : TypeTree) → Completes k global of initial t
      → Completes k global of initial u → t ≡ u
  completes_one of None t u h g = h ∙ sym g
  completes_one of (Some (s.Value value)) t u (x, h) (y, g) =
      one_some (type_by_expression global of value x (cells_of_string value)) t u (begins_back global value of t x h.1)
      (begins_back global value of u x (subst (λ z. ObjectBegins global of value z u) (sym (one_operand k value x y h.0 g.0)) g.1))
  completes_one of (Some (s.Braced token items comma)) t u (xs, h) (ys, g) =
      one_some (list_of global items xs of) t u (lists_back global of items xs t h.1)
      (lists_back global of items xs u (subst (λ zs. Lists global of items zs u) (sym (one_list k items xs ys h.0 g.0)) g.1))

  pub initial_silent : (of : TypeTree) (initial : Option InitialTree) (t : TypeTree) (j : FaultKind) (at : ℕ) → Completes k global of initial t
      → InitialBreaks k global of initial j at → ⊥
  initial_silent of None t j at h b = b
  initial_silent of (Some (s.Value value)) t j at (x, h) (inl b) = expr_silent k value x j at h.0 b
  initial_silent of (Some (s.Value value)) t j at (x, h) (inr (y, b)) =
      b.1.2 t (subst (λ z. ObjectBegins global of value z t) (one_operand k value x y h.0 b.0) h.1)
  initial_silent of (Some (s.Braced token items comma)) t j at (xs, h) (inl b) = list_silent k items xs j at h.0 b
  initial_silent of (Some (s.Braced token items comma)) t j at (xs, h) (inr (ys, b)) =
      b.1.2 t (subst (λ zs. Lists global of items zs t) (one_list k items xs ys h.0 b.0) h.1)

-- an object whose initialiser doesn't give its length keeps its type

closed_same : (of u : TypeTree) (initial : InitialTree) → SameOrOpen of u → (IsOpen of (Some initial) → ⊥) → u ≡ of
closed_same (Array element known) u initial (inl h) f = absurd (f h.0)
closed_same (Array element known) u initial (inr h) f = h
closed_same of u initial h f = h

pub completes_closed : (k : Known) (global : Bool) (of : TypeTree) (initial : Option InitialTree) (u : TypeTree) → Completes k global of initial u
    → (IsOpen of initial → ⊥) → u ≡ of
completes_closed k global of None u h f = h
completes_closed k global of (Some initial) u h f = closed_same of u initial (completes_so k global of initial u h) f

open_element : (ss : List StructType) (of u : TypeTree) (initial : InitialTree) → SameOrOpen of u → IsObject ss u → IsOpen of (Some initial)
    → ElementBreaks ss of → ⊥
open_element ss (Array element known) u initial (inl h) o q b = b (element_object ss element h.1.0 (subst (IsObject ss) h.1.1 o))
open_element ss (Array element known) u initial (inr h) o q b = b (element_object ss element known (subst (IsObject ss) h o))
open_element ss of u initial h o q b = b

pub completes_elements : (k : Known) (global : Bool) (ss : List StructType) (of : TypeTree) (initial : Option InitialTree) (u : TypeTree)
    → Completes k global of initial u → IsObject ss u → IsOpen of initial → ElementBreaks ss of → ⊥
completes_elements k global ss of (Some initial) u h o q b = open_element ss of u initial (completes_so k global of initial u h) o q b
completes_elements k global ss (Array element known) None u h o q b = q
completes_elements k global ss Void None u h o q b = q
completes_elements k global ss Char None u h o q b = q
completes_elements k global ss Int None u h o q b = q
completes_elements k global ss Unsigned None u h o q b = q
completes_elements k global ss (Pointer to) None u h o q b = q
completes_elements k global ss (Struct tag) None u h o q b = q

-- variables

module _ (global : Bool) (base : TypeTree) where
  pub variable_one : (x : StartTree) (c a b : Context) → VariableGives global base c x a → VariableGives global base c x b → a ≡ b
  variable_one x c a b (new, (t, (u, h))) (new2, (t2, (u2, g))) =
      let is : t2 ≡ t = one_type x.declarator base t2 t g.0 h.0 in
      let same : u ≡ u2 = completes_one (known_identifiers (name_declared x.declarator.name (Object t) c)) global t x.initial u u2 h.1
      (subst (λ z. Finishes global base c x z u2) is g.1) in
      h.4 ∙ ap (λ v. name_declared x.declarator.name (Object v) (global_cells_added global (cells_of c.structs v) c)) same ∙ sym g.4

  beginning_silent : (x : StartTree) (c : Context) (t u : TypeTree) → Finishes global base c x t u → IsObject c.structs u → GlobalsHaveRoom global c u
      → BeginningBreaks global base c x t → ⊥
  beginning_silent x c t u f o r (inl (closed, bad)) =
      let is : u ≡ t = completes_closed (known_identifiers (name_declared x.declarator.name (Object t) c)) global t x.initial u f closed in
      ⊎_elim (λ n. n (subst (IsObject c.structs) is o)) (λ n. n (subst (GlobalsHaveRoom global c) is r)) bad
  beginning_silent x c t u f o r (inr (opens, b)) =
      completes_elements (known_identifiers (name_declared x.declarator.name (Object t) c)) global c.structs t x.initial u f o opens b

  pub variable_silent : (x : StartTree) (c a : Context) (j : FaultKind) (at : ℕ) → VariableGives global base c x a → VariableBreaks global base c x j at → ⊥
  variable_silent x c a j at (new, (t, (u, h))) (inl (q, (inl b, least))) = new b.1
  variable_silent x c a j at (new, (t, (u, h))) (inl (q, (inr b, least))) = beginning_silent x c t u h.1 h.2 h.3 (b.1 t h.0)
  variable_silent x c a j at (new, (t, (u, h))) (inr (t2, (f, b))) = by t2 (one_type x.declarator base t t2 h.0 f.1) b
    where
      by : (t2 : TypeTree) → t ≡ t2 → (InitialBreaks (known_identifiers (name_declared x.declarator.name (Object t2) c)) global t2 x.initial j at
          ⊎ ((v : TypeTree) × (Finishes global base c x t2 v × ((at ≡ x.token) × (j ≡ fault.Object) × SizeBreaks global base c v)))) → ⊥
      by t2 e (inl b) = initial_silent (known_identifiers (name_declared x.declarator.name (Object t2) c)) global t2 x.initial u j at
          (subst (λ z. Finishes global base c x z u) e h.1) b
      by t2 e (inr (v, b)) =
          let is : u ≡ v = completes_one (known_identifiers (name_declared x.declarator.name (Object t2) c)) global t2 x.initial u v
          (subst (λ z. Finishes global base c x z u) e h.1) b.0 in
          ⊎_elim (λ n. n (subst (IsObject c.structs) is h.2)) (λ n. n (subst (GlobalsHaveRoom global c) is h.3)) b.1.2

  pub variables_one : (xs : List StartTree) (c a b : Context) → VariablesGive global base c xs a → VariablesGive global base c xs b → a ≡ b
  variables_one [] c a b h g = h ∙ sym g
  variables_one (x ∷ xs) c a b (n, h) (m, g) =
      variables_one xs n a b h.1 (subst (λ z. VariablesGive global base z xs b) (sym (variable_one x c n m h.0 g.0)) g.1)

  pub variables_silent : (xs : List StartTree) (c a : Context) (j : FaultKind) (at : ℕ) → VariablesGive global base c xs a
      → VariablesBreak global base c xs j at → ⊥
  variables_silent [] c a j at h b = b
  variables_silent (x ∷ xs) c a j at (n, h) (inl b) = variable_silent x c n j at h.0 b
  variables_silent (x ∷ xs) c a j at (n, h) (inr (m, b)) =
      variables_silent xs n a j at h.1 (subst (λ z. VariablesBreak global base z xs j at) (variable_one x c m n b.0 h.0) b.1)

pub declaration_one : (global : Bool) (d : DeclarationTree) (c a b : Context) → DeclarationGives global c d a → DeclarationGives global c d b → a ≡ b
declaration_one global d c a b (base, h) (base2, g) =
    variables_one global base d.starts c a b h.1
    (subst (λ z. VariablesGive global z c d.starts b) (sym (one_base (known_identifiers c) d.base base base2 h.0 g.0)) g.1)

pub declaration_silent : (global : Bool) (d : DeclarationTree) (c a : Context) (j : FaultKind) (at : ℕ) → DeclarationGives global c d a
    → DeclarationBreaks global c d j at → ⊥
declaration_silent global d c a j at (base, h) (inl b) = base_silent (known_identifiers c) d.base base j at h.0 b
declaration_silent global d c a j at (base, h) (inr (base2, b)) = variables_silent global base d.starts c a j at h.1
    (subst (λ z. VariablesBreak global z c d.starts j at) (one_base (known_identifiers c) d.base base2 base b.0 h.0) b.1)

-- whole expressions

no_print : (x : Option Entity) (xs : List Operand) (t : TypeTree) → x ≡ Some (Standard library.Printf) → Calls x xs t → ⊥
no_print x xs t e h = subst (λ z. Calls z xs t) e h

module _ (k : Known) where
  pub whole_one : (x : ExprTree) (a b : Operand) → IsWhole k x a → IsWhole k x b → a ≡ b
  whole_one (e.Call token name arguments) a b (inl h) (inl g) = one_operand k (e.Call token name arguments) a b h g
  whole_one (e.Call token name arguments) a b (inl (xs, h)) (inr g) = absurd (no_print (k.ordinary name) xs a.ctype g.0 h.1.0)
  whole_one (e.Call token name arguments) a b (inr h) (inl (xs, g)) = absurd (no_print (k.ordinary name) xs b.ctype h.0 g.1.0)
  whole_one (e.Call token name arguments) a b (inr h) (inr g) = h.2 ∙ sym g.2
  whole_one x a b h g = one_operand k x a b h g

  pub whole_call_silent : (x : Option Entity) (arguments : ExprList) (xs : List Operand) (t : TypeTree) (j : FaultKind) → Calls x xs t
      → WholeCallBreaks x arguments xs j → ⊥
  whole_call_silent (Some (Standard library.Printf)) arguments xs t j h b = h
  whole_call_silent x arguments xs t j h b = call_silent x xs t j h b

  print_silent : (x : Option Entity) (arguments : ExprList) (xs : List Operand) (j : FaultKind) → x ≡ Some (Standard library.Printf)
      → IsFormatted arguments xs → WholeCallBreaks x arguments xs j → ⊥
  print_silent x arguments xs j e f b = (subst (λ z. WholeCallBreaks z arguments xs j) e b).1 f

  pub whole_silent : (x : ExprTree) (d : Operand) (j : FaultKind) (at : ℕ) → IsWhole k x d → WholeBreaks k x j at → ⊥
  whole_silent (e.Call token name arguments) d j at (inl (xs, h)) (inl b) = list_silent k arguments xs j at h.0 b
  whole_silent (e.Call token name arguments) d j at (inl (xs, h)) (inr (ys, b)) = whole_call_silent (k.ordinary name) arguments xs d.ctype j h.1.0
      (subst (λ z. WholeCallBreaks (k.ordinary name) arguments z j) (one_list k arguments ys xs b.0 h.0) b.1.1)
  whole_silent (e.Call token name arguments) d j at (inr h) (inl b) = list_silent k arguments h.1.0 j at h.1.1.0 b
  whole_silent (e.Call token name arguments) d j at (inr h) (inr (ys, b)) = print_silent (k.ordinary name) arguments h.1.0 j h.0 h.1.1.1
      (subst (λ z. WholeCallBreaks (k.ordinary name) arguments z j) (one_list k arguments ys h.1.0 b.0 h.1.1.0) b.1.1)
  whole_silent x d j at h b = expr_silent k x d j at h b

  -- parts of statements

  condition_silent : (x : ExprTree) (j : FaultKind) → IsCondition k x → NoCondition k x j → ⊥
  condition_silent x j (a, h) (q, (b, g)) = g.1 (subst IsScalar (one_operand k x a b h.0 g.0) h.1)

  given_silent : (x : ExprTree) (j : FaultKind) → IsGivenUp k x → GivesUpStruct k x j → ⊥
  given_silent x j (a, h) (q, (b, g)) =
      false≢true (sym h.1 ∙ ap (λ (z : Operand). is_struct z.ctype) (one_operand k x a b h.0 g.0) ∙ g.1)

  pub condition_breaks : (x : ExprTree) (j : FaultKind) (at : ℕ) → IsCondition k x → Breaks k x j at → ⊥
  condition_breaks x j at (a, h) b = expr_silent k x a j at h.0 b

  given_breaks : (x : ExprTree) (j : FaultKind) (at : ℕ) → IsGivenUp k x → Breaks k x j at → ⊥
  given_breaks x j at (a, h) b = expr_silent k x a j at h.0 b

pub part_silent : (P Q : ExprTree → Type 0) (x : Option ExprTree) → ((y : ExprTree) → P y → Q y → ⊥) → IfPart P x → OfPart Q x → ⊥
part_silent P Q None f h b = b
part_silent P Q (Some y) f h b = f y h b

start_one : (start : ForStartTree) (c a b : Context) → StartGives c start a → StartLeaves c start b → a ≡ b
start_one (s.Declares d) c a b h g = declaration_one false d c a b h g
start_one (s.Computes x) c a b h g = h.1 ∙ sym g.1

pub start_silent : (start : ForStartTree) (c a : Context) (j : FaultKind) (at : ℕ) → StartGives c start a → StartBreaks c start j at → ⊥
start_silent (s.Declares d) c a j at h b = declaration_silent false d c a j at h b
start_silent (s.Computes x) c a j at h b = part_silent (IsGivenUp (known_identifiers c)) (λ y. Breaks (known_identifiers c) y j at) x (λ y. given_breaks (known_identifiers c) y j at) h.0 b

start_given : (start : ForStartTree) (c a : Context) (j : FaultKind) → StartGives c start a → OfPart (λ x. GivesUpStruct (known_identifiers c) x j) (for_start_expression start) → ⊥
start_given (s.Declares d) c a j h b = b
start_given (s.Computes x) c a j h b = part_silent (IsGivenUp (known_identifiers c)) (λ y. GivesUpStruct (known_identifiers c) y j) x (λ y. given_silent (known_identifiers c) y j) h.0 b

return_silent : (k : Known) (gives : TypeTree) (value : Option ExprTree) (j : FaultKind) → Returns k gives value → ReturnBreaks k gives value j → ⊥
return_silent k gives None j h b = false≢true (sym b.1 ∙ h)
return_silent k gives (Some x) j h (inl b) = false≢true (sym h.0 ∙ b.1)
return_silent k gives (Some x) j (q, (a, h)) (inr (r, v, (b, g))) = g.1 (subst (Accepts gives) (one_operand k x a b h.0 g.0) h.1)

return_breaks : (k : Known) (gives : TypeTree) (value : Option ExprTree) (j : FaultKind) (at : ℕ) → Returns k gives value
    → OfPart (λ x. Breaks k x j at) value → ⊥
return_breaks k gives None j at h b = b
return_breaks k gives (Some x) j at (q, (a, h)) b = expr_silent k x a j at h.0 b

-- statements

module _ (gives : TypeTree) where
  -- behind the first part of a `for`
  abbrev pub ForRest : Context → ForStartTree → Option ExprTree → Option ExprTree → StatementTree → Context → FaultKind → ℕ → ℕ → Type 0
  ForRest d start condition step body c j at token = OfPart (λ x. Breaks (known_identifiers d) x j at) condition
      ⊎ (IfPart (IsSomeOperand (known_identifiers d)) condition × (OfPart (λ x. Breaks (known_identifiers d) x j at) step
      ⊎ (IfPart (IsSomeOperand (known_identifiers d)) step × (StatementBreaks gives d true body j at
      ⊎ (IsRuledStatement gives d true body × ((at ≡ token) × ForBreaks (known_identifiers (inner_context c)) (known_identifiers d) start condition step j))))))

  for_silent : (start : ForStartTree) (condition step : Option ExprTree) (body : StatementTree) (c d : Context) (j : FaultKind) (at token : ℕ)
      → (StartGives (inner_context c) start d × IfPart (IsCondition (known_identifiers d)) condition × IfPart (IsGivenUp (known_identifiers d)) step × IsRuledStatement gives d true body)
      → (StatementBreaks gives d true body j at → ⊥)
      → ForRest d start condition step body c j at token → ⊥
  for_silent start condition step body c d j at token h f (inl b) =
      part_silent (IsCondition (known_identifiers d)) (λ x. Breaks (known_identifiers d) x j at) condition (λ y. condition_breaks (known_identifiers d) y j at) h.1 b
  for_silent start condition step body c d j at token h f (inr (p, inl b)) =
      part_silent (IsGivenUp (known_identifiers d)) (λ x. Breaks (known_identifiers d) x j at) step (λ y. given_breaks (known_identifiers d) y j at) h.2 b
  for_silent start condition step body c d j at token h f (inr (p, inr (r, inl b))) = f b
  for_silent start condition step body c d j at token h f (inr (p, inr (r, inr (m, (q, inl b))))) = start_given start (inner_context c) d j h.0 b
  for_silent start condition step body c d j at token h f (inr (p, inr (r, inr (m, (q, inr (inl b)))))) =
      part_silent (IsCondition (known_identifiers d)) (λ x. NoCondition (known_identifiers d) x j) condition (λ y. condition_silent (known_identifiers d) y j) h.1 b
  for_silent start condition step body c d j at token h f (inr (p, inr (r, inr (m, (q, inr (inr b)))))) =
      part_silent (IsGivenUp (known_identifiers d)) (λ x. GivesUpStruct (known_identifiers d) x j) step (λ y. given_silent (known_identifiers d) y j) h.2 b

  mutual
    pub statement_silent : (looping : Bool) (x : StatementTree) (c : Context) (j : FaultKind) (at : ℕ) → IsRuledStatement gives c looping x
        → StatementBreaks gives c looping x j at → ⊥
    statement_silent looping (s.Block token entries) c j at h b = entries_silent looping entries (inner_context c) j at h b
    statement_silent looping (s.Empty token) c j at h b = b
    statement_silent looping (s.Expr token x) c j at (a, h) (inl b) = whole_silent (known_identifiers c) x a j at h.0 b
    statement_silent looping (s.Expr token x) c j at (a, h) (inr (d, b)) =
        false≢true (sym h.1 ∙ ap (λ (z : Operand). is_struct z.ctype) (whole_one (known_identifiers c) x a d h.0 b.0) ∙ b.1.2)
    statement_silent looping (s.If token condition first) c j at h (inl b) = condition_breaks (known_identifiers c) condition j at h.0 b
    statement_silent looping (s.If token condition first) c j at h (inr (o, inl b)) = statement_silent looping first c j at h.1 b
    statement_silent looping (s.If token condition first) c j at h (inr (o, inr (f, b))) = condition_silent (known_identifiers c) condition j h.0 b.1
    statement_silent looping (s.IfElse token condition first second) c j at h (inl b) = condition_breaks (known_identifiers c) condition j at h.0 b
    statement_silent looping (s.IfElse token condition first second) c j at h (inr (o, inl b)) = statement_silent looping first c j at h.1 b
    statement_silent looping (s.IfElse token condition first second) c j at h (inr (o, inr (f, inl b))) = statement_silent looping second c j at h.2 b
    statement_silent looping (s.IfElse token condition first second) c j at h (inr (o, inr (f, inr (g, b)))) = condition_silent (known_identifiers c) condition j h.0 b.1
    statement_silent looping (s.While token condition body) c j at h (inl b) = condition_breaks (known_identifiers c) condition j at h.0 b
    statement_silent looping (s.While token condition body) c j at h (inr (o, inl b)) = statement_silent true body c j at h.1 b
    statement_silent looping (s.While token condition body) c j at h (inr (o, inr (f, b))) = condition_silent (known_identifiers c) condition j h.0 b.1
    statement_silent looping (s.Do token body condition) c j at h (inl b) = statement_silent true body c j at h.0 b
    statement_silent looping (s.Do token body condition) c j at h (inr (f, inl b)) = condition_breaks (known_identifiers c) condition j at h.1 b
    statement_silent looping (s.Do token body condition) c j at h (inr (f, inr (o, b))) = condition_silent (known_identifiers c) condition j h.1 b.1
    statement_silent looping (s.For token start condition step body) c j at (d, h) (inl b) = start_silent start (inner_context c) d j at h.0 b
    statement_silent looping (s.For token start condition step body) c j at (d, h) (inr (d2, (g, b))) =
        for_silent start condition step body c d j at token h (λ f. statement_silent true body d j at h.3 f)
        (subst (λ z. ForRest z start condition step body c j at token) (sym (start_one start (inner_context c) d d2 h.0 g)) b)
    statement_silent looping (s.Return token value) c j at h (inl b) = return_breaks (known_identifiers c) gives value j at h b
    statement_silent looping (s.Return token value) c j at h (inr (o, b)) = return_silent (known_identifiers c) gives value j h b.1
    statement_silent looping (s.Break token) c j at h b = false≢true (sym b.1.1 ∙ h)
    statement_silent looping (s.Continue token) c j at h b = false≢true (sym b.1.1 ∙ h)

    pub entries_silent : (looping : Bool) (xs : EntryList) (c : Context) (j : FaultKind) (at : ℕ) → AreRuledEntries gives c looping xs
        → EntriesBreak gives c looping xs j at → ⊥
    entries_silent looping s.no_entries c j at h b = b
    entries_silent looping (s.declared declaration rest) c j at (n, h) (inl b) = declaration_silent false declaration c n j at h.0 b
    entries_silent looping (s.declared declaration rest) c j at (n, h) (inr (m, b)) =
        entries_silent looping rest n j at h.1 (subst (λ z. EntriesBreak gives z looping rest j at) (declaration_one false declaration c m n b.0 h.0) b.1)
    entries_silent looping (s.stated statement rest) c j at h (inl b) = statement_silent looping statement c j at h.0 b
    entries_silent looping (s.stated statement rest) c j at h (inr (f, b)) = entries_silent looping rest c j at h.1 b
