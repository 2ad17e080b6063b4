-- Statements: a loop's `again` is put first and aimed last, and entries are put from the last one to the first.
use Rattle.std.proofs.Common.{◌≡◌, ℕ, zero, suc, ◌+◌, ◌<◌, ◌≤◌, ◌≢◌, refl, ap, sym, ◌∙◌, subst, arith, List, [], ◌∷◌, ◌++◌, length, length-append, Some, slice_get, slice_set, option_map, drop, get_or, Option, None, Box, Bool, true, false, nat_eq}
use Rattle.std.proofs.lemmas.Bool.{false≢true}
use Rattle.std.proofs.lemmas.Bool.Decides.{nat_tests}
use Rattle.std.proofs.lemmas.List.{drop_all, drop_more}
use Rattle.c_syntax.specs.declared.statement.Declaration.{Declaration}
use Rattle.c_syntax.specs.declared.statement.Entry.{Entry}
use Rattle.c_syntax.specs.declared.statement.Entry.TheVariants as entry
use Rattle.c_syntax.specs.declared.statement.Statement.{Statement}
use Rattle.c_syntax.specs.declared.statement.Statement.TheVariants as statement
use Rattle.c_syntax.specs.declared.expr.Expr.{Expr}
use Rattle.c_syntax.specs.Words.{ExprTree, EntryList, no_entries, plain_declaration, plain_entries, plain_entry, plain_expr, plain_second, plain_statement}
use Rattle.c_syntax.specs.StatementTree as tree
use Rattle.std.specs.Global.{Global}
use Rattle.c_syntax.proofs.PlainStatements.{plain_declared_before, plain_if, plain_if_else, plain_stated_before}
use Rattle.flow.specs.declared.node.Node.{Node}
use Rattle.flow.specs.declared.node.Node.TheVariants as node
use Rattle.flow.specs.declared.node.View.TheVariants as view
use Rattle.flow.specs.Words.{view_at, view as view_of}
use Rattle.c_meaning.specs.declared.value_type.ValueType.{ValueType}
use Rattle.c_meaning.specs.Words.{is_null_as, Facts, Sites, type_of}
use Rattle.lower_relation.specs.Expressions.{Condition, emitted_expression}
use Rattle.lower_relation.specs.Initialisers.{DeclarationPath}
use Rattle.lower_relation.specs.Paths.{Graph, Exits, Ways}
use Rattle.lower_relation.specs.Statements.{DoWhileLoop, ForLoop, GoesOn, ReturnPath, StatementDoes, EntriesDo, WhileLoop, within_loop}
use Rattle.lower_relation.specs.Values.{WantedValue}
use Rattle.lower_statements.specs.Exits.{SecondRuns}
use Rattle.lower_relation.specs.Functions.{graph_of_nodes}
use Rattle.lower_nodes.specs.Ends.{AllBelow, Any, all_ends}
use Rattle.lower_nodes.specs.Made.{Later, LeadBack, LeadsBack, Made, MadeExits, MadeTo, MadeWays, GraphPath, IsEmittedNode}
use Rattle.lower_nodes.specs.Standing.{AllLike, AllStand, Allowed, Like, Allowance, StandsRightly, PartStands, fork_at, is_fork}
use Rattle.lower_nodes.specs.Purposes.{condition_ways}
use Rattle.lower_nodes.proofs.Building.{Joined, below_more, both_ways, either_made, joined_made, later_self, likes_more, slice_append, slice_end, stands_by, stays_put, stood_put}

set_other : (xs : List Node) (a j : ℕ) (x : Node) → a ≢ j → slice_get (slice_set xs a x) j ≡ slice_get xs j
set_other (y ∷ xs) zero zero x ne = absurd (ne refl)
set_other (y ∷ xs) (suc a) (suc j) x ne = set_other xs a j x (λ e. ne (ap suc e))
set_other [] a j x ne = refl
set_other (y ∷ xs) zero (suc j) x ne = refl
set_other (y ∷ xs) (suc a) zero x ne = refl

set_same : (xs : List Node) (a : ℕ) (x : Node) → a < length xs → slice_get (slice_set xs a x) a ≡ Some x
set_same [] a x l = absurd (omega (arith, l))
set_same (y ∷ xs) zero x l = refl
set_same (y ∷ xs) (suc a) x l = set_same xs a x (omega (arith, l))

set_length : (xs : List Node) (a : ℕ) (x : Node) → length (slice_set xs a x) ≡ length xs
set_length [] a x = refl
set_length (y ∷ xs) zero x = refl
set_length (y ∷ xs) (suc a) x = ap suc (set_length xs a x)

-- what was put behind a node stays where that node is changed
later_set : (lo lo' a : ℕ) (xs fin : List Node) (x : Node) → lo ≤ lo' → a < lo' → Later lo (slice_set xs a x) fin → Later lo' xs fin
later_set lo lo' a xs fin x le low l = record {
  longer = omega (arith, l.longer, set_length xs a x);
  same = λ j at high. l.same j (omega (arith, le, at)) (omega (arith, high, set_length xs a x)) ∙ set_other xs a j x (λ e. absurd (omega (arith, e, at, low)));
}

set_by : (low a : ℕ) (xs : List Node) (x : Node) (i : ℕ) (y : Node) → LeadBack (suc a) xs → a < length xs → LeadsBack a (length xs) (view_of x) → a ≡ low → low ≤ i →
    slice_get (slice_set xs a x) i ≡ Some y → (here : Bool) → nat_eq a i ≡ here → LeadsBack i (length (slice_set xs a x)) (view_of y)
set_by low a xs x i y back inside leads e at is true same =
    let place : i ≡ a = grind (arith, nat_tests) in
    let some : Some y ≡ Some x = sym is ∙ ap (slice_get (slice_set xs a x)) place ∙ set_same xs a x inside in
    let y_is : y ≡ x = cc in
    subst (λ n. LeadsBack i n (view_of y)) (sym (set_length xs a x))
    (subst (λ j. LeadsBack j (length xs) (view_of y)) (sym place) (subst (λ z. LeadsBack a (length xs) (view_of z)) (sym y_is) leads))
set_by low a xs x i y back inside leads e at is false same =
    let other : a ≢ i = λ q. absurd (grind (arith, nat_tests, q)) in
    subst (λ n. LeadsBack i n (view_of y)) (sym (set_length xs a x))
    (back.each i y (grind (arith, nat_tests)) (sym (set_other xs a i x other) ∙ is))

-- nodes that lead back still do where the first of them is changed
set_back : (low a : ℕ) (xs : List Node) (x : Node) → LeadBack (suc a) xs → a < length xs → LeadsBack a (length xs) (view_of x) → a ≡ low → LeadBack low (slice_set xs a x)
set_back low a xs x back inside leads e = record { each = λ i y at is. set_by low a xs x i y back inside leads e at is (nat_eq a i) refl }

-- where the parts of a loop go on: at its `again`, or where the loop is left
pub record Loop : Type 0 where
  pub again : ℕ
  pub exits : Exits

abbrev pub loop : ℕ → Exits → Loop
loop again x = record { again = again; exits = x }

abbrev pub loop_ends : Loop → List ℕ
loop_ends l = l.again ∷ all_ends l.exits

module _ (p : Allowance) (again head : ℕ) (n2 n3 : List Node) (was : slice_get n2 again ≡ Some (node.Again 0)) (set : n3 ≡ slice_set n2 again (node.Again head)) where
  fork_by : (n : ℕ) → fork_at n2 n ≡ true → (here : Bool) → nat_eq again n ≡ here → fork_at n3 n ≡ true
  fork_by n e true same =
      let place : n ≡ again = grind (arith, nat_tests) in
      absurd (false≢true (sym (ap (λ y. is_fork (view_at y)) (ap (slice_get n2) place ∙ was)) ∙ e))
  fork_by n e false same =
      let other : again ≢ n = λ q. absurd (grind (arith, nat_tests, q)) in
      rw set (ap (λ y. is_fork (view_at y)) (set_other n2 again n (node.Again head) other) ∙ e)

  -- a fork stays one where an `again` is aimed
  fork_stays : (n : ℕ) → fork_at n2 n ≡ true → fork_at n3 n ≡ true
  fork_stays n e = fork_by n e (nat_eq again n) refl

  aimed_by : (low : ℕ) → again < length n2 → AllStand p (suc again) n2 → StandsRightly p n3 (view.Turns head) → again ≡ low → (i : ℕ) (x : Node) → low ≤ i →
      slice_get n3 i ≡ Some x → (here : Bool) → nat_eq again i ≡ here → StandsRightly p n3 (view_of x)
  aimed_by low above all turns e i x at is true same =
      let place : i ≡ again = grind (arith, nat_tests) in
      let some : Some x ≡ Some (node.Again head) = sym is ∙ ap (slice_get n3) place ∙ rw set (set_same n2 again (node.Again head) above) in
      let x_is : x ≡ node.Again head = cc in
      subst (λ y. StandsRightly p n3 (view_of y)) (sym x_is) turns
  aimed_by low above all turns e i x at is false same =
      let other : again ≢ i = λ q. absurd (grind (arith, nat_tests, q)) in
      let still : slice_get n2 i ≡ Some x = sym (set_other n2 again i (node.Again head) other) ∙ rw set at is in
      stands_by p n2 n3 (view_of x) fork_stays (all.each i x (grind (arith, nat_tests)) still)

  -- the nodes still stand, with the `again`
  aimed_stand : (low : ℕ) → again < length n2 → AllStand p (suc again) n2 → StandsRightly p n3 (view.Turns head) → again ≡ low → AllStand p low n3
  aimed_stand low above all turns e = record { each = λ i x at is. aimed_by low above all turns e i x at is (nat_eq again i) refl }

-- An `again` that is put first, and aimed when what goes on at it was put. The part between goes on at it, or where the whole does.
pub aimed_made : (R : GraphPath Loop) (S : GraphPath Exits) (n0 n1 n2 n3 : List Node) (again i : ℕ) (x : Exits) →
    ((G : Graph) → R G i (loop again x) → G again (view.Turns i) → S G i x) →
    ((G : Graph) (j : ℕ) (y : Exits) → S G j y → (a : ℕ) × R G j (loop a y) × G a (view.Turns j)) →
    again ≡ length n0 → n1 ≡ n0 ++ node.Again 0 ∷ [] → MadeTo loop_ends Any R n1 n2 i (loop again x) → n3 ≡ slice_set n2 again (node.Again i) → MadeExits S n0 n3 i x
aimed_made R S n0 n1 n2 n3 again i x into out at is r set =
    let one : length n1 ≡ suc (length n0) = rw is (omega (arith, length-append n0 (node.Again 0 ∷ []))) in
    let low : length n1 ≡ suc again = omega (arith, one, at) in
    let above : again < length n2 = omega (arith, one, r.keeps.longer, at) in
    let same : length n3 ≡ length n2 = rw set (set_length n2 again (node.Again i)) in
    let aimed : slice_get n3 again ≡ Some (node.Again i) = rw set (set_same n2 again (node.Again i) above) in
    let first : slice_get n1 again ≡ Some (node.Again 0) = rw is (ap (slice_get (n0 ++ node.Again 0 ∷ [])) at ∙ slice_end n0 (node.Again 0)) in
    let was : slice_get n2 again ≡ Some (node.Again 0) = r.keeps.same again (omega arith) (omega (arith, low)) ∙ first in
    let begun : Later 0 n0 n1 =
    record { longer = omega (arith, one); same = λ j from high. rw is (slice_append n0 (node.Again 0 ∷ []) j high) } in
    record {
      does = λ fin l. into (graph_of_nodes fin)
          (r.does fin (later_set (length n0) (length n1) again n2 fin (node.Again i) (omega (arith, one)) (omega (arith, one, at)) (rw set at l)))
          (ap (option_map view_of) (l.same again (omega (arith, at)) (omega (arith, above, same)) ∙ aimed));
      keeps = record {
        longer = omega (arith, one, r.keeps.longer, same);
        same = λ j from high. rw set (set_other n2 again j (node.Again i) (λ e. absurd (omega (arith, e, high, at))))
            ∙ r.keeps.same j from (omega (arith, high, one)) ∙ begun.same j from high;
      };
      leads = λ below.
          let inner : IsEmittedNode (length n1) n2 i = r.leads (omega (arith, one, at), below_more (length n0) (length n1) (all_ends x) (omega (arith, one)) below) in
          record {
            inside = omega (arith, inner.inside, same);
            back = subst (λ l. LeadBack (length n0) l) (sym set)
                (set_back (length n0) again n2 (node.Again i) (subst (λ n. LeadBack n n2) low inner.back) above (omega (arith, inner.inside), tt) at);
          };
      stands = λ p j y same like done.
          let o = out (Allowed p) j y done in
          let inner : PartStands p (length n1) n2 i j =
          r.stands p j (loop o.0 y) tt ((λ e. absurd (false≢true (o.2.turns e))), likes_more p n0 n1 (all_ends x) (all_ends y) begun like) o.1 in
          let turns : StandsRightly p n3 (view.Turns i) = record { fits = o.2.fits; visits = refl } in
          record {
            all = aimed_stand p again i n2 n3 was set (length n0) above (subst (λ n. AllStand p n n2) low inner.all) turns at;
            like = λ e. fork_stays p again i n2 n3 was set i (inner.like e);
          };
    }

-- what was put since the `again` lies behind it
pub again_below : {K : Type 0} → {f : K → List ℕ} → {SameForm : K → K → Type 0} → (R : GraphPath K) (n0 n1 n2 : List Node) (again i : ℕ) (k : K) → again ≡ length n0 → n1 ≡ n0 ++ node.Again 0 ∷ [] → MadeTo f SameForm R n1 n2 i k → again < length n2
again_below R n0 n1 n2 again i k at is r =
    let one : length n1 ≡ suc (length n0) = rw is (omega (arith, length-append n0 (node.Again 0 ∷ []))) in
    omega (arith, one, r.keeps.longer, at)

-- the body of a loop goes on in the loop, or where the loop is left
abbrev in_loop : Loop → Exits
in_loop l = within_loop l.again l.exits.next l.exits

-- the same where another node comes before the loop's `again`
abbrev in_round : ℕ → Loop → Exits
in_round next l = within_loop next l.exits.next l.exits

-- the condition goes on at a node of the loop, or behind it
abbrev into_loop : ℕ → Loop → Ways
into_loop body l = condition_ways body l.exits.next

abbrev out_of_loop : Loop → Ways
out_of_loop l = condition_ways l.again l.exits.next

-- the condition, and then the body
abbrev WhileParts : GraphPath Ways → GraphPath Exits → GraphPath Loop
WhileParts C B = Joined C B into_loop in_loop

pub while_parts : (C : GraphPath Ways) (B : GraphPath Exits) (n1 n2 n3 : List Node) (again body i : ℕ) (x : Exits) →
    MadeExits B n1 n2 body (within_loop again x.next x) → MadeWays C n2 n3 i (condition_ways body x.next) → MadeTo loop_ends Any (WhileParts C B) n1 n3 i (loop again x)
while_parts C B n1 n2 n3 again body i x inside test =
    joined_made C B into_loop in_loop n1 n2 n3 i body (loop again x) (λ n b. (b.0, (b.1.0, (b.0, b.1.1.1.1)))) (λ n b m. (m, (b.1.0, tt)))
    (λ s n u b. (b.0, (b.1.0, (b.0, b.1.1.1.1)))) (λ s n u k b m. (m, (b.1.0, tt))) inside test

pub while_made : (C : GraphPath Ways) (B : GraphPath Exits) (n0 n1 n2 n3 n4 : List Node) (again body i : ℕ) (x : Exits) →
    again ≡ length n0 → n1 ≡ n0 ++ node.Again 0 ∷ [] → MadeExits B n1 n2 body (within_loop again x.next x) → MadeWays C n2 n3 i (condition_ways body x.next) →
    n4 ≡ slice_set n3 again (node.Again i) → MadeExits (λ G. WhileLoop G (C G) (B G)) n0 n4 i x
while_made C B n0 n1 n2 n3 n4 again body i x at is inside test set =
    aimed_made (WhileParts C B) (λ G. WhileLoop G (C G) (B G)) n0 n1 n3 n4 again i x (λ G h turns. (h.0, again, h.1, h.2, turns)) (λ G j y h. (h.1, (h.0, h.2, h.3), h.4)) at is
    (while_parts C B n1 n2 n3 again body i x inside test) set

-- the body, and then the condition
abbrev DoParts : GraphPath Ways → GraphPath Exits → GraphPath Loop
DoParts C B = Joined B C in_round out_of_loop

pub do_parts : (C : GraphPath Ways) (B : GraphPath Exits) (n1 n2 n3 : List Node) (again test i : ℕ) (x : Exits) →
    MadeWays C n1 n2 test (condition_ways again x.next) → MadeExits B n2 n3 i (within_loop test x.next x) → MadeTo loop_ends Any (DoParts C B) n1 n3 i (loop again x)
do_parts C B n1 n2 n3 again test i x tested inside =
    joined_made B C in_round out_of_loop n1 n2 n3 i test (loop again x) (λ n b. (b.0, (b.1.0, tt))) (λ n b t. (t, (b.1.0, (t, b.1.1.1.1))))
    (λ s n u b. (b.0, (b.1.0, tt))) (λ s n u k b t. (t, (b.1.0, (t, b.1.1.1.1)))) tested inside

pub do_made : (C : GraphPath Ways) (B : GraphPath Exits) (n0 n1 n2 n3 n4 : List Node) (again test i : ℕ) (x : Exits) →
    again ≡ length n0 → n1 ≡ n0 ++ node.Again 0 ∷ [] → MadeWays C n1 n2 test (condition_ways again x.next) → MadeExits B n2 n3 i (within_loop test x.next x) →
    n4 ≡ slice_set n3 again (node.Again i) → MadeExits (λ G. DoWhileLoop G (C G) (B G)) n0 n4 i x
do_made C B n0 n1 n2 n3 n4 again test i x at is tested inside set =
    aimed_made (DoParts C B) (λ G. DoWhileLoop G (C G) (B G)) n0 n1 n3 n4 again i x (λ G h turns. (h.0, again, h.1, h.2, turns)) (λ G j y h. (h.1, (h.0, h.2, h.3), h.4)) at is
    (do_parts C B n1 n2 n3 again test i x tested inside) set

-- the body, and then the third part
abbrev InnerParts : GraphPath ℕ → GraphPath Exits → GraphPath Loop
InnerParts S B = Joined B S in_round (λ l. l.again)

-- the condition, and then those two
abbrev ForParts : GraphPath Ways → GraphPath ℕ → GraphPath Exits → GraphPath Loop
ForParts C S B = Joined C (InnerParts S B) into_loop (λ l. l)

pub for_parts : (C : GraphPath Ways) (S : GraphPath ℕ) (B : GraphPath Exits) (n1 n2 n3 n4 : List Node) (again step body i : ℕ) (x : Exits) →
    Made S n1 n2 step again → MadeExits B n2 n3 body (within_loop step x.next x) → MadeWays C n3 n4 i (condition_ways body x.next) →
    MadeTo loop_ends Any (ForParts C S B) n1 n4 i (loop again x)
for_parts C S B n1 n2 n3 n4 again step body i x stepped inside test =
    joined_made C (InnerParts S B) into_loop (λ l. l) n1 n3 n4 i body (loop again x) (λ n b. b) (λ n b m. (m, (b.1.0, tt))) (λ s n u b. b) (λ s n u k b m. (m, (b.1.0, tt)))
    (joined_made {h = loop_ends} B S in_round (λ l. l.again) n1 n2 n3 body step (loop again x) (λ n b. (b.0, tt)) (λ n b t. (t, (b.1.0, (t, b.1.1.1.1))))
    (λ s n u b. (b.0, tt)) (λ s n u k b t. (t, (b.1.0, (t, b.1.1.1.1)))) stepped inside) test

pub for_made : (C : GraphPath Ways) (S : GraphPath ℕ) (B : GraphPath Exits) (n0 n1 n2 n3 n4 n5 : List Node) (again step body i : ℕ) (x : Exits) →
    again ≡ length n0 → n1 ≡ n0 ++ node.Again 0 ∷ [] → Made S n1 n2 step again → MadeExits B n2 n3 body (within_loop step x.next x) → MadeWays C n3 n4 i (condition_ways body x.next) →
    n5 ≡ slice_set n4 again (node.Again i) → MadeExits (λ G. ForLoop G (C G) (S G) (B G)) n0 n5 i x
for_made C S B n0 n1 n2 n3 n4 n5 again step body i x at is stepped inside test set =
    aimed_made (ForParts C S B) (λ G. ForLoop G (C G) (S G) (B G)) n0 n1 n4 n5 again i x
    (λ G h turns. (h.0, again, h.2.0, h.1, h.2.1, h.2.2, turns)) (λ G j y h. (h.1, (h.0, h.3, (h.2, h.4, h.5)), h.6)) at is
    (for_parts C S B n1 n2 n3 n4 again step body i x stepped inside test) set

-- no node is put, and control goes on at a node where the whole does
goes_made : (f : Exits → ℕ) (n : List Node) (x : Exits) → ((m : ℕ) → AllBelow m (all_ends x) → f x < m) →
    ((s : Allowance) (m : List Node) (y : Exits) → AllLike s m (all_ends x) (all_ends y) → Like s m (f x) (f y)) → MadeExits (λ G i y. i ≡ f y) n n (f x) x
goes_made f n x below likes = record {
  does = λ fin l. refl;
  keeps = later_self 0 n;
  leads = λ b. stays_put n (f x) (below (length n) b, tt);
  stands = λ s j y same like done. stood_put s n (f x) j (subst (λ q. Like s n (f x) q) (sym done) (likes s n y like));
}

module _ (facts : Facts) (sites : Sites) (gives : ValueType) where
  -- an entry stands before those after it
  entry_before : (G : Graph) (d : Entry) (rest : EntryList) (i m : ℕ) (x : Exits) → EntriesDo G facts sites gives (plain_entry d no_entries) i (record x { next = m }) →
      EntriesDo G facts sites gives rest m x → EntriesDo G facts sites gives (plain_entry d rest) i x
  entry_before G (entry.Declaration d) rest i m x h r =
      let one = subst (λ l. EntriesDo G facts sites gives l i (record x { next = m })) (plain_declared_before d no_entries) h in
      subst (λ l. EntriesDo G facts sites gives l i x) (sym (plain_declared_before d rest)) (one.0, one.1, subst (λ q. EntriesDo G facts sites gives rest q x) (sym one.2) r)
  entry_before G (entry.Statement s) rest i m x h r =
      let one = subst (λ l. EntriesDo G facts sites gives l i (record x { next = m })) (plain_stated_before s no_entries) h in
      subst (λ l. EntriesDo G facts sites gives l i x) (sym (plain_stated_before s rest)) (one.0, one.1, subst (λ q. EntriesDo G facts sites gives rest q x) (sym one.2) r)

  -- and so it does in every graph where they stand
  entry_behind : (G : Graph) (d : Entry) (rest : EntryList) (i : ℕ) (x : Exits) → EntriesDo G facts sites gives (plain_entry d rest) i x →
      (m : ℕ) × EntriesDo G facts sites gives (plain_entry d no_entries) i (record x { next = m }) × EntriesDo G facts sites gives rest m x
  entry_behind G (entry.Declaration d) rest i x h =
      let all = subst (λ l. EntriesDo G facts sites gives l i x) (plain_declared_before d rest) h in
      (all.0, subst (λ l. EntriesDo G facts sites gives l i (record x { next = all.0 })) (sym (plain_declared_before d no_entries)) (all.0, all.1, refl), all.2)
  entry_behind G (entry.Statement s) rest i x h =
      let all = subst (λ l. EntriesDo G facts sites gives l i x) (plain_stated_before s rest) h in
      (all.0, subst (λ l. EntriesDo G facts sites gives l i (record x { next = all.0 })) (sym (plain_stated_before s no_entries)) (all.0, all.1, refl), all.2)

  -- statements without nodes of their own
  pub empty_made : (token : ℕ) (n : List Node) (x : Exits) → MadeExits (λ G. StatementDoes G facts sites gives (tree.Empty token)) n n x.next x
  empty_made token n x = goes_made (λ y. y.next) n x (λ m b. b.0) (λ s m y l. l.0)

  pub break_made : (token : ℕ) (n : List Node) (x : Exits) → MadeExits (λ G. StatementDoes G facts sites gives (tree.Break token)) n n x.breaks x
  break_made token n x = goes_made (λ y. y.breaks) n x (λ m b. b.1.0) (λ s m y l. l.1.0)

  pub continue_made : (token : ℕ) (n : List Node) (x : Exits) → MadeExits (λ G. StatementDoes G facts sites gives (tree.Continue token)) n n x.continues x
  continue_made token n x = goes_made (λ y. y.continues) n x (λ m b. b.1.1.0) (λ s m y l. l.1.1.0)

  -- no entry is put yet
  pub entries_none : (entries : List Entry) (n : List Node) (x : Exits) →
      MadeExits (λ G. EntriesDo G facts sites gives (plain_entries (drop (length entries) entries))) n n x.next x
  entries_none entries n x =
      subst (λ l. MadeExits (λ G. EntriesDo G facts sites gives (plain_entries l)) n n x.next x) (sym (drop_all (length entries) entries (omega arith)))
      (goes_made (λ y. y.next) n x (λ m b. b.0) (λ s m y l. l.0))

  -- one more entry before those that were put
  pub entries_step : (entries : List Entry) (m j : ℕ) (d : Entry) (n0 n1 n2 : List Node) (first i : ℕ) (x : Exits) → m ≡ j + 1 → j < length entries → d ≡ get_or entries j d →
      MadeExits (λ G. EntriesDo G facts sites gives (plain_entries (drop m entries))) n0 n1 first x →
      MadeExits (λ G. EntriesDo G facts sites gives (plain_entry d no_entries)) n1 n2 i (record x { next = first }) →
      MadeExits (λ G. EntriesDo G facts sites gives (plain_entries (drop j entries))) n0 n2 i x
  entries_step entries m j d n0 n1 n2 first i x e low is rest made =
      let more : drop j entries ≡ d ∷ drop m entries =
      drop_more entries j d low ∙ ap (λ q. get_or entries j d ∷ drop q entries) (sym e) ∙ ap (λ y. y ∷ drop m entries) (sym is) in
      let one : GraphPath Exits = λ G. EntriesDo G facts sites gives (plain_entry d no_entries) in
      let rest_part : GraphPath Exits = λ G. EntriesDo G facts sites gives (plain_entries (drop m entries)) in
      subst (λ l. MadeExits (λ G. EntriesDo G facts sites gives (plain_entries l)) n0 n2 i x) (sym more)
      (both_ways (Joined one rest_part (λ q y. record y { next = q }) (λ y. y)) (λ G. EntriesDo G facts sites gives (plain_entry d (plain_entries (drop m entries)))) x
      (λ G i y h. entry_before G d (plain_entries (drop m entries)) i h.0 y h.1 h.2) (λ p i y h. entry_behind (Allowed p) d (plain_entries (drop m entries)) i y h) n0 n2 i
      (joined_made one rest_part (λ q y. record y { next = q }) (λ y. y) n0 n1 n2 i first x (λ n b. b) (λ n b q. (q, b.1)) (λ s n u l. l) (λ s n u k l q. (q, l.1)) rest made))

  pub declared_made : (d : Declaration) (n0 n1 : List Node) (i : ℕ) (x : Exits) → Made (λ G. DeclarationPath G facts sites (plain_declaration d)) n0 n1 i x.next →
      MadeExits (λ G. EntriesDo G facts sites gives (plain_entry (entry.Declaration d) no_entries)) n0 n1 i x
  declared_made d n0 n1 i x made =
      subst (λ l. MadeExits (λ G. EntriesDo G facts sites gives l) n0 n1 i x) (sym (plain_declared_before d no_entries))
      (record {
        does = λ fin l. (x.next, made.does fin l, refl);
        keeps = made.keeps;
        leads = λ below. made.leads (below.0, tt);
        stands = λ p j y same like done. made.stands p j done.0 tt (subst (λ q. Like p n0 x.next q) (sym done.2) like.0, tt) done.1;
      })

  pub stated_made : (s : Statement) (n0 n1 : List Node) (i : ℕ) (x : Exits) → MadeExits (λ G. StatementDoes G facts sites gives (plain_statement s)) n0 n1 i x →
      MadeExits (λ G. EntriesDo G facts sites gives (plain_entry (entry.Statement s) no_entries)) n0 n1 i x
  stated_made s n0 n1 i x made =
      subst (λ l. MadeExits (λ G. EntriesDo G facts sites gives l) n0 n1 i x) (sym (plain_stated_before s no_entries))
      (record {
        does = λ fin l. (x.next, made.does fin l, refl);
        keeps = made.keeps;
        leads = λ below. made.leads below;
        stands = λ p j y same like done. made.stands p j (record y { next = done.0 }) tt (subst (λ q. Like p n0 x.next q) (sym done.2) like.0, like.1) done.1;
      })

  -- a returned value
  pub returned_made : (v : ExprTree) (n0 n1 : List Node) (i : ℕ) (x : Exits) →
      Made (λ G. WantedValue G (is_null_as (Some gives) v) (type_of facts v) (Some gives) (emitted_expression G facts sites v)) n0 n1 i x.gives →
      MadeExits (λ G. ReturnPath G facts sites gives (Some v)) n0 n1 i x
  returned_made v n0 n1 i x made = record {
    does = λ fin l. made.does fin l;
    keeps = made.keeps;
    leads = λ below. made.leads (below.1.1.1.0, tt);
    stands = λ p j y same like done. made.stands p j y.gives tt (like.1.1.1.0, tt) done;
  }

  -- a condition before the two ways
  pub branch_made : (token : ℕ) (condition : Expr) (first : Box Statement Global) (second : Option (Box Statement Global)) (n0 n1 n2 n3 : List Node) (i yes_at no_at : ℕ)
      (x : Exits) → MadeExits (λ G. SecondRuns G facts sites gives (plain_second second)) n0 n1 no_at x →
      MadeExits (λ G. StatementDoes G facts sites gives (plain_statement first.value)) n1 n2 yes_at x →
      MadeWays (λ G. Condition G facts sites token (plain_expr condition)) n2 n3 i (condition_ways yes_at no_at) →
      MadeExits (λ G. StatementDoes G facts sites gives (plain_statement (statement.If token condition first second))) n0 n3 i x
  branch_made token condition first None n0 n1 n2 n3 i yes_at no_at x second_made first_made test =
      subst (λ s. MadeExits (λ G. StatementDoes G facts sites gives s) n0 n3 i x) (sym (plain_if token condition first))
      (either_made (λ G. Condition G facts sites token (plain_expr condition)) (λ G. StatementDoes G facts sites gives (plain_statement first.value)) (λ G. GoesOn)
      n0 n1 n2 n3 i yes_at no_at x second_made first_made test)
  branch_made token condition first (Some second) n0 n1 n2 n3 i yes_at no_at x second_made first_made test =
      subst (λ s. MadeExits (λ G. StatementDoes G facts sites gives s) n0 n3 i x) (sym (plain_if_else token condition first second))
      (either_made (λ G. Condition G facts sites token (plain_expr condition)) (λ G. StatementDoes G facts sites gives (plain_statement first.value))
      (λ G. StatementDoes G facts sites gives (plain_statement second.value)) n0 n1 n2 n3 i yes_at no_at x second_made first_made test)
