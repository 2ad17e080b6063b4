-- Putting one part before another.
use Rattle.std.proofs.Common.{◌≡◌, ℕ, zero, suc, ◌≤◌, ◌<◌, refl, ap, sym, subst, ◌∙◌, arith, List, [], ◌∷◌, ◌++◌, length, length-append, Option, None, Some, Bool, true, false, ◌||◌, IsTrue, nat_lt, if◌then◌else◌, slice_get, option_map, rules}
use Rattle.std.proofs.lemmas.Bool.{false≢true}
use Rattle.std.proofs.lemmas.Bool.Decides.{nat_tests}
use Rattle.std.proofs.lemmas.Option.{slice_get_within}
use Rattle.std.specs.Prelude.{pos}
use Rattle.cbi_base.specs.declared.scalar.Kind.TheVariants.{Char}
use Rattle.flow.specs.declared.node.Node.{Node}
use Rattle.flow.specs.declared.node.Node.TheVariants as node
use Rattle.flow.specs.declared.node.View.{View}
use Rattle.flow.specs.declared.node.View.TheVariants as view
use Rattle.flow.specs.Words.{view_at, is_again, led_to, view as view_of}
use Rattle.lower_relation.specs.Paths as paths
use Rattle.lower_relation.specs.Paths.{Graph, Path, Ways, ◌then◌, Either, Nothing}
use Rattle.lower_relation.specs.Functions.{graph_of_nodes}
use Rattle.lower_nodes.specs.Ends.{AllBelow, Any, no_ends}
use Rattle.lower_nodes.specs.Made.{Later, LeadBack, LeadsBack, Made, MadeAlone, MadeTo, MadeWays, GraphPath, IsEmittedNode}
use Rattle.lower_nodes.specs.Standing.{AllLike, AllStand, Allowed, Like, Allowance, StandsRightly, PartStands, view_without_successors, fork_at, is_fork, may_visit}

pub later_trans : (lo lo' : ℕ) (a b fin : List Node) → lo ≤ lo' → Later 0 a b → Later lo b fin → Later lo' a fin
later_trans lo lo' a b fin le f g = record {
  longer = omega (arith, f.longer, g.longer);
  same = λ j low high. g.same j (omega (arith, low, le)) (omega (arith, high, f.longer)) ∙ f.same j (omega arith) high;
}

pub later_self : (lo : ℕ) (a : List Node) → Later lo a a
later_self lo a = record { longer = omega arith; same = λ j low high. refl }

pub slice_append : (xs ys : List Node) (j : ℕ) → j < length xs → slice_get (xs ++ ys) j ≡ slice_get xs j
slice_append [] ys j l = absurd (omega (arith, l))
slice_append (x ∷ xs) ys zero l = refl
slice_append (x ∷ xs) ys (suc j) l = slice_append xs ys j (omega (arith, l))

pub slice_end : (xs : List Node) (x : Node) → slice_get (xs ++ x ∷ []) (length xs) ≡ Some x
slice_end [] x = refl
slice_end (y ∷ xs) x = slice_end xs x

later_put : (old : List Node) (x : Node) → Later 0 old (old ++ x ∷ [])
later_put old x = record { longer = omega (arith, length-append old (x ∷ [])); same = λ j low high. slice_append old (x ∷ []) j high }

-- the node that was put stands in every later graph
stands_put : (old : List Node) (x : Node) (fin : List Node) (v : View) → view_of x ≡ v → Later (length old) (old ++ x ∷ []) fin → graph_of_nodes fin (length old) v
stands_put old x fin v e l =
    ap (option_map view_of) (l.same (length old) (omega arith) (omega (arith, length-append old (x ∷ []))) ∙ slice_end old x) ∙ ap (λ y. Some y) e

-- numbers below one lie below a greater one
pub below_more : (m n : ℕ) (xs : List ℕ) → m ≤ n → AllBelow m xs → AllBelow n xs
below_more m n [] le b = tt
below_more m n (x ∷ xs) le b = (omega (arith, le, b.0), below_more m n xs le b.1)

back_more : (i all more : ℕ) (again : Bool) (xs : List ℕ) → all ≤ more → AllBelow (if again then all else i) xs → AllBelow (if again then more else i) xs
back_more i all more true xs le b = below_more all more xs le b
back_more i all more false xs le b = b

back_by : (low : ℕ) (a b : List Node) (i : ℕ) (x : Node) → LeadBack low a → Later 0 a b → LeadBack (length a) b → low ≤ i → slice_get b i ≡ Some x →
    (early : Bool) → nat_lt i (length a) ≡ early → LeadsBack i (length b) (view_of x)
back_by low a b i x first later second at is true e =
    let inside : i < length a = grind (arith, nat_tests) in
    back_more i (length a) (length b) (is_again (view_of x)) (led_to (view_of x)) later.longer (first.each i x at (sym (later.same i (omega arith) inside) ∙ is))
back_by low a b i x first later second at is false e = second.each i x (grind (arith, nat_tests)) is

-- nodes that lead back, and then more of them
pub back_both : (low : ℕ) (a b : List Node) → LeadBack low a → Later 0 a b → LeadBack (length a) b → LeadBack low b
back_both low a b first later second = record { each = λ i x at is. back_by low a b i x first later second at is (nat_lt i (length a)) refl }

-- no node was put
pub none_back : (a : List Node) → LeadBack (length a) a
none_back a = record { each = λ i x at is. absurd (omega (arith, at, slice_get_within a i x is)) }

-- one node was put
pub one_back : (old : List Node) (x : Node) → LeadsBack (length old) (length (old ++ x ∷ [])) (view_of x) → LeadBack (length old) (old ++ x ∷ [])
one_back old x leads = record {
  each = λ i y low is.
      let here : i ≡ length old = omega (arith, low, slice_get_within (old ++ x ∷ []) i y is, length-append old (x ∷ [])) in
      let some : Some y ≡ Some x = sym is ∙ ap (slice_get (old ++ x ∷ [])) here ∙ slice_end old x in
      let same : y ≡ x = cc in
      subst (λ j. LeadsBack j (length (old ++ x ∷ [])) (view_of y)) (sym here) (subst (λ z. LeadsBack (length old) (length (old ++ x ∷ [])) (view_of z)) (sym same) leads);
}

-- what was there stands still
pub stays_put : (a : List Node) (k : ℕ) → AllBelow (length a) (k ∷ []) → IsEmittedNode (length a) a k
stays_put a k below = record { inside = below.0; back = none_back a }

fork_by : (a b : List Node) (n : ℕ) (x : Option Node) → Later 0 a b → slice_get a n ≡ x → is_fork (view_at x) ≡ true → fork_at b n ≡ true
fork_by a b n None later at e = absurd (false≢true e)
fork_by a b n (Some x) later at e = ap (λ o. is_fork (view_at o)) (later.same n (omega arith) (slice_get_within a n x at) ∙ at) ∙ e

-- where more nodes are put, forks stay forks
pub fork_more : (a b : List Node) (n : ℕ) → Later 0 a b → fork_at a n ≡ true → fork_at b n ≡ true
fork_more a b n later e = fork_by a b n (slice_get a n) later refl e

or_more : (a b c : Bool) → (b ≡ true → c ≡ true) → IsTrue (a || b) → IsTrue (a || c)
or_more true b c more e = refl
or_more false b c more e = more e

visits_more : (frees f g : ℕ → Bool) → ((n : ℕ) → f n ≡ true → g n ≡ true) → (v : View) → IsTrue (may_visit frees f v) → IsTrue (may_visit frees g v)
visits_more frees f g more (view.Marks site next) e = or_more (frees site) (f next) (g next) (more next) e
visits_more frees f g more other e = e

-- where there are no fewer forks, a node stands as well
pub stands_by : (s : Allowance) (a b : List Node) (v : View) → ((n : ℕ) → fork_at a n ≡ true → fork_at b n ≡ true) → StandsRightly s a v → StandsRightly s b v
stands_by s a b v more h = record { fits = h.fits; visits = visits_more s.frees (fork_at a) (fork_at b) more v h.visits }

stand_by : (s : Allowance) (low : ℕ) (a b : List Node) (i : ℕ) (x : Node) → AllStand s low a → Later 0 a b → AllStand s (length a) b → low ≤ i → slice_get b i ≡ Some x →
    (early : Bool) → nat_lt i (length a) ≡ early → StandsRightly s b (view_of x)
stand_by s low a b i x first later second at is true e =
    let inside : i < length a = grind (arith, nat_tests) in
    stands_by s a b (view_of x) (λ n f. fork_more a b n later f) (first.each i x at (sym (later.same i (omega arith) inside) ∙ is))
stand_by s low a b i x first later second at is false e = second.each i x (grind (arith, nat_tests)) is

-- nodes that stand rightly, and then more of them
pub both_stand : (s : Allowance) (low : ℕ) (a b : List Node) → AllStand s low a → Later 0 a b → AllStand s (length a) b → AllStand s low b
both_stand s low a b first later second = record { each = λ i x at is. stand_by s low a b i x first later second at is (nat_lt i (length a)) refl }

pub none_stand : (s : Allowance) (a : List Node) → AllStand s (length a) a
none_stand s a = record { each = λ i x at is. absurd (omega (arith, at, slice_get_within a i x is)) }

pub like_more : (s : Allowance) (a b : List Node) (i j : ℕ) → Later 0 a b → Like s a i j → Like s b i j
like_more s a b i j later like = λ e. fork_more a b i later (like e)

pub likes_more : (s : Allowance) (a b : List Node) (xs ys : List ℕ) → Later 0 a b → AllLike s a xs ys → AllLike s b xs ys
likes_more s a b [] [] later h = tt
likes_more s a b [] (y ∷ ys) later h = absurd h
likes_more s a b (x ∷ xs) [] later h = absurd h
likes_more s a b (x ∷ xs) (y ∷ ys) later h = (like_more s a b x y later h.0, likes_more s a b xs ys later h.1)

-- no node was put
pub stood_put : (s : Allowance) (a : List Node) (k j : ℕ) → Like s a k j → PartStands s (length a) a k j
stood_put s a k j like = record { all = none_stand s a; like = like }

-- a node with the first view stands rightly where one with the second one is allowed
pub record Resembles (s : Allowance) (nodes : List Node) (v w : View) : Type 0 where
  pub same : view_without_successors w ≡ view_without_successors v
  pub visits : IsTrue (may_visit s.frees s.forks_at w) → IsTrue (may_visit s.frees (fork_at nodes) v)
  pub fork : is_fork w ≡ true → is_fork v ≡ true

-- a visit does, where it goes on at a fork if that one does
pub visit_resembles : (s : Allowance) (nodes : List Node) (site k l : ℕ) → Like s nodes k l → Resembles s nodes (view.Marks site k) (view.Marks site l)
visit_resembles s nodes site k l like = record {
  same = refl;
  visits = λ h. or_more (s.frees site) (s.forks_at l) (fork_at nodes k) like h;
  fork = λ e. e;
}

-- one node was put
one_stood : (s : Allowance) (old : List Node) (x : Node) (v w : View) (j : ℕ) → view_of x ≡ v → Resembles s old v w → Allowed s j w → PartStands s (length old) (old ++ x ∷ []) (length old) j
one_stood s old x v w j e like h =
    let fin : List Node = old ++ x ∷ [] in
    let here : StandsRightly s fin v = record {
      fits = subst (λ b. IsTrue (s.fits b)) like.same h.fits;
      visits = visits_more s.frees (fork_at old) (fork_at fin) (λ n f. fork_more old fin n (later_put old x) f) v (like.visits h.visits);
    } in
    record {
      all = record {
        each = λ i y low is.
            let place : i ≡ length old = omega (arith, low, slice_get_within fin i y is, length-append old (x ∷ [])) in
            let some : Some y ≡ Some x = sym is ∙ ap (slice_get fin) place ∙ slice_end old x in
            let same : y ≡ x = cc in
            subst (λ z. StandsRightly s fin (view_of z)) (sym same) (subst (λ u. StandsRightly s fin u) (sym e) here);
      };
      like = λ f. ap (λ o. is_fork (view_at o)) (slice_end old x) ∙ ap is_fork e ∙ like.fork (h.turns f);
    }

-- one node, whatever its view
pub view_made : {K : Type 0} → {ends : K → List ℕ} → {SameForm : K → K → Type 0} → (v : K → View) (x : Node) (old new : List Node) (i : ℕ) (k : K) → view_of x ≡ v k →
    i ≡ length old → new ≡ old ++ x ∷ [] → ((all : ℕ) → AllBelow (length old) (ends k) → LeadsBack (length old) all (v k)) →
    ((s : Allowance) (l : K) → SameForm k l → AllLike s old (ends k) (ends l) → Resembles s old (v k) (v l)) → MadeTo ends SameForm (λ G i k. G i (v k)) old new i k
view_made v x old new i k e at is leads resembles = rw (at, is) (record {
  does = λ fin l. stands_put old x fin (v k) e l;
  keeps = later_put old x;
  leads = λ below. record {
    inside = omega (arith, length-append old (x ∷ []));
    back = one_back old x (subst (λ w. LeadsBack (length old) (length (old ++ x ∷ [])) w) (sym e) (leads (length (old ++ x ∷ [])) below));
  };
  stands = λ s j l same like h. one_stood s old x (v k) (v l) j e (resembles s l same like) h;
})

pub one_made : (op x : Node) (old new : List Node) (i k : ℕ) → view_of x ≡ view.Row op k → i ≡ length old → new ≡ old ++ x ∷ [] → Made (λ G. paths.Does G op) old new i k
one_made op x old new i k e at is =
    view_made (λ k. view.Row op k) x old new i k e at is (λ all b. b) (λ s l same like. record { same = refl; visits = λ h. h; fork = λ f. f })

pub nothing_made : (old : List Node) (k : ℕ) → Made (λ G. Nothing) old old k k
nothing_made old k = record {
  does = λ fin l. refl;
  keeps = later_self 0 old;
  leads = λ below. stays_put old k below;
  stands = λ s j l same like h. stood_put s old k j (subst (λ q. Like s old k q) (sym h) like.0);
}

pub then_made : {K : Type 0} → {ends : K → List ℕ} → {SameForm : K → K → Type 0} → (R : GraphPath ℕ) (S : GraphPath K) (n0 n1 n2 : List Node) (i m : ℕ) (k : K) →
    MadeTo ends SameForm S n0 n1 m k → Made R n1 n2 i m → MadeTo ends SameForm (λ G. R G then S G) n0 n2 i k
then_made R S n0 n1 n2 i m k s r = record {
  does = λ fin l. (
    m,
    r.does fin (later_trans (length n0) (length n1) n2 n2 fin s.keeps.longer (later_self 0 n2) l),
    s.does fin (later_trans (length n0) (length n0) n1 n2 fin (omega arith) r.keeps l),
  );
  keeps = later_trans 0 0 n0 n1 n2 (omega arith) s.keeps r.keeps;
  leads = λ below.
      let second : IsEmittedNode (length n0) n1 m = s.leads below in
      let first : IsEmittedNode (length n1) n2 i = r.leads (second.inside, tt) in
      record { inside = first.inside; back = back_both (length n0) n1 n2 second.back r.keeps first.back };
  stands = λ p j l same like h.
      let second : PartStands p (length n0) n1 m h.0 = s.stands p h.0 l same like h.2 in
      let first : PartStands p (length n1) n2 i j = r.stands p j h.0 tt (second.like, tt) h.1 in
      record { all = both_stand p (length n0) n1 n2 second.all r.keeps first.all; like = first.like };
}

-- one part before another, and a row, where the rest is known from what was put
infixr 8 ◌and_then◌
pub ◌and_then◌ : {K : Type 0} → {ends : K → List ℕ} → {SameForm : K → K → Type 0} → {R : GraphPath ℕ} → {S : GraphPath K} → {n0 n1 n2 : List Node} → {i m : ℕ} → {k : K} → Made R n1 n2 i m →
    MadeTo ends SameForm S n0 n1 m k → MadeTo ends SameForm (λ G. R G then S G) n0 n2 i k
◌and_then◌ {R = R} {S = S} {n0 = n0} {n1 = n1} {n2 = n2} {i = i} {m = m} {k = k} r s = then_made R S n0 n1 n2 i m k s r

pub row : (op x : Node) → {old new : List Node} → {i k : ℕ} → i ≡ length old → new ≡ old ++ x ∷ [] → view_of x ≡ view.Row op k →
    Made (λ G. paths.Does G op) old new i k
row op x {old = old} {new = new} {i = i} {k = k} at is e = one_made op x old new i k e at is

-- What is made for one part is made for another one that follows from it, and goes on where that one does, if the second part follows back.
pub carried : {K L : Type 0} → {f : K → List ℕ} → {g : L → List ℕ} → {SameK : K → K → Type 0} → {SameL : L → L → Type 0} → (R : GraphPath K) (S : GraphPath L) (k : K) (l : L) →
    ((G : Graph) (i : ℕ) → R G i k → S G i l) → ((n : ℕ) → AllBelow n (g l) → AllBelow n (f k)) →
    ((p : Allowance) (n : List Node) (j : ℕ) (m : L) → SameL l m → AllLike p n (g l) (g m) → S (Allowed p) j m → (q : K) × SameK k q × AllLike p n (f k) (f q) × R (Allowed p) j q) →
    (old new : List Node) (i : ℕ) → MadeTo f SameK R old new i k → MadeTo g SameL S old new i l
carried R S k l into ends back old new i made = record {
  does = λ fin later. into (graph_of_nodes fin) i (made.does fin later);
  keeps = made.keeps;
  leads = λ below. made.leads (ends (length old) below);
  stands = λ p j m same like h. let b = back p old j m same like h in made.stands p j b.0 b.1 b.2 b.3;
}

-- so it is with parts of one kind, where in a graph of nodes that may be each follows from the other
pub both_ways : {K : Type 0} → {ends : K → List ℕ} → {SameForm : K → K → Type 0} → (R S : GraphPath K) (k : K) → ((G : Graph) (i : ℕ) (k : K) → R G i k → S G i k) →
    ((p : Allowance) (i : ℕ) (k : K) → S (Allowed p) i k → R (Allowed p) i k) → (old new : List Node) (i : ℕ) → MadeTo ends SameForm R old new i k → MadeTo ends SameForm S old new i k
both_ways R S k into out old new i made =
    carried R S k k (λ G i h. into G i k h) (λ n b. b) (λ p n j m same like h. (m, same, like, out p j m h)) old new i made

-- what goes on nowhere goes on anywhere
pub surely_made : {K : Type 0} → {ends : K → List ℕ} → {SameForm : K → K → Type 0} → (R : GraphPath K) (old new : List Node) (i : ℕ) (k : K) → MadeAlone R old new i k →
    MadeTo ends SameForm R old new i k
surely_made R old new i k made = record {
  does = λ fin l. made.does fin l;
  keeps = made.keeps;
  leads = λ below. made.leads tt;
  stands = λ s j l same like h. made.stands s j l tt tt h;
}

-- what goes on nowhere does so for whatever would follow
pub stuck_anywhere : {K L : Type 0} → {ends : L → List ℕ} → {SameForm : L → L → Type 0} → (old new : List Node) (i : ℕ) (k : K) (l : L) → MadeAlone (λ G. paths.Stuck G) old new i k →
    MadeTo ends SameForm (λ G. paths.Stuck G) old new i l
stuck_anywhere old new i k l made =
    carried (λ G. paths.Stuck G) (λ G. paths.Stuck G) k l (λ G i h. h) (λ n b. tt) (λ p n j m same like h. (k, tt, tt, h)) old new i made

-- what is no part but that
pub is_stuck : (R : GraphPath ℕ) → ((G : Graph) → R G ≡ paths.Stuck G) → (old new : List Node) (i k : ℕ) → MadeAlone {K = ℕ} (λ G. paths.Stuck G) old new i k → Made R old new i k
is_stuck R stuck old new i k made =
    carried (λ G. paths.Stuck G) R k k (λ G i h. subst (λ (P : Path ℕ). P i k) (sym (stuck G)) h) (λ n b. tt)
    (λ p n j m same like h. (k, tt, tt, subst (λ (P : Path ℕ). P j m) (stuck (Allowed p)) h)) old new i made

-- one part, and then a second one: the first goes on at the entry of the second, and both where the whole does
abbrev pub Joined : {K L M : Type 0} → GraphPath K → GraphPath L → (ℕ → M → K) → (M → L) → GraphPath M
Joined R S first second G i t = (m : ℕ) × R G i (first m t) × S G m (second t)

-- the second part was put, and then the first one
pub joined_made : {K L M : Type 0} → {f : K → List ℕ} → {g : L → List ℕ} → {h : M → List ℕ} → (R : GraphPath K) (S : GraphPath L) (first : ℕ → M → K) (second : M → L) (n0 n1 n2 : List Node)
    (i m : ℕ) (t : M) → ((n : ℕ) → AllBelow n (h t) → AllBelow n (g (second t))) → ((n : ℕ) → AllBelow n (h t) → m < n → AllBelow n (f (first m t))) →
    ((s : Allowance) (n : List Node) (u : M) → AllLike s n (h t) (h u) → AllLike s n (g (second t)) (g (second u))) →
    ((s : Allowance) (n : List Node) (u : M) (k : ℕ) → AllLike s n (h t) (h u) → Like s n m k → AllLike s n (f (first m t)) (f (first k u))) →
    MadeTo g Any S n0 n1 m (second t) → MadeTo f Any R n1 n2 i (first m t) → MadeTo h Any (Joined R S first second) n0 n2 i t
joined_made {h = h} R S first second n0 n1 n2 i m t below_second below_first like_second like_first s r = record {
  does = λ fin later. (
    m,
    r.does fin (later_trans (length n0) (length n1) n2 n2 fin s.keeps.longer (later_self 0 n2) later),
    s.does fin (later_trans (length n0) (length n0) n1 n2 fin (omega arith) r.keeps later),
  );
  keeps = later_trans 0 0 n0 n1 n2 (omega arith) s.keeps r.keeps;
  leads = λ below.
      let last : IsEmittedNode (length n0) n1 m = s.leads (below_second (length n0) below) in
      let start : IsEmittedNode (length n1) n2 i = r.leads (below_first (length n1) (below_more (length n0) (length n1) (h t) s.keeps.longer below) last.inside) in
      record { inside = start.inside; back = back_both (length n0) n1 n2 last.back r.keeps start.back };
  stands = λ p j u same like done.
      let last : PartStands p (length n0) n1 m done.0 = s.stands p done.0 (second u) tt (like_second p n0 u like) done.2 in
      let start : PartStands p (length n1) n2 i j =
      r.stands p j (first done.0 u) tt (like_first p n1 u done.0 (likes_more p n0 n1 (h t) (h u) s.keeps like) last.like) done.1 in
      record { all = both_stand p (length n0) n1 n2 last.all r.keeps start.all; like = start.like };
}

-- two ways, and the condition before them
pub either_made : {K : Type 0} → {ends : K → List ℕ} → {SameForm : K → K → Type 0} → (D : GraphPath Ways) (R S : GraphPath K) (n0 n1 n2 n3 : List Node) (i yes_at no_at : ℕ) (k : K) →
    MadeTo ends SameForm S n0 n1 no_at k → MadeTo ends SameForm R n1 n2 yes_at k → MadeWays D n2 n3 i (record { yes_to = yes_at; no_to = no_at }) →
    MadeTo ends SameForm (λ G. Either (D G) (R G) (S G)) n0 n3 i k
either_made {ends = ends} D R S n0 n1 n2 n3 i yes_at no_at k s r d = record {
  does = λ fin l.
      let low : length n0 ≤ length n1 = s.keeps.longer in
      let middle : length n1 ≤ length n2 = r.keeps.longer in
      let last : Later (length n0) n2 fin = later_trans (length n0) (length n0) n2 n3 fin (omega arith) d.keeps l in (
        yes_at,
        no_at,
        d.does fin (later_trans (length n0) (length n2) n3 n3 fin (omega (arith, low, middle)) (later_self 0 n3) l),
        r.does fin (later_trans (length n0) (length n1) n2 n2 fin low (later_self 0 n2) last),
        s.does fin (later_trans (length n0) (length n0) n1 n2 fin (omega arith) r.keeps last),
      );
  keeps = later_trans 0 0 n0 n2 n3 (omega arith) (later_trans 0 0 n0 n1 n2 (omega arith) s.keeps r.keeps) d.keeps;
  leads = λ below.
      let third : IsEmittedNode (length n0) n1 no_at = s.leads below in
      let second : IsEmittedNode (length n1) n2 yes_at = r.leads (below_more (length n0) (length n1) (ends k) s.keeps.longer below) in
      let first : IsEmittedNode (length n2) n3 i = d.leads (second.inside, (omega (arith, third.inside, r.keeps.longer), tt)) in
      record {
        inside = first.inside;
        back = back_both (length n0) n2 n3 (back_both (length n0) n1 n2 third.back r.keeps second.back) d.keeps first.back;
      };
  stands = λ p j l same like h.
      let third : PartStands p (length n0) n1 no_at h.1 = s.stands p h.1 l same like h.4 in
      let second : PartStands p (length n1) n2 yes_at h.0 = r.stands p h.0 l same (likes_more p n0 n1 (ends k) (ends l) s.keeps like) h.3 in
      let first : PartStands p (length n2) n3 i j =
      d.stands p j (record { yes_to = h.0; no_to = h.1 }) tt (second.like, (like_more p n1 n2 no_at h.1 r.keeps third.like, tt)) h.2 in
      record { all = both_stand p (length n0) n2 n3 (both_stand p (length n0) n1 n2 third.all r.keeps second.all) d.keeps first.all; like = first.like };
}

pub stuck_made : {K : Type 0} → (old n1 n2 : List Node) (m i : ℕ) (k : K) → m ≡ length old → n1 ≡ old ++ node.Exit ∷ [] → i ≡ length n1 → n2 ≡ n1 ++ node.Push Char (pos 0) m ∷ [] →
    MadeAlone (λ G. paths.Stuck G) old n2 i k
stuck_made old n1 n2 m i k at is at' is' =
    let exit : MadeAlone {K = ℕ} (λ G i k. G i (view.Halts node.Exit)) old n1 m 0 =
    view_made (λ k. view.Halts node.Exit) node.Exit old n1 m 0 refl at is (λ all b. tt) (λ s l same like. record { same = refl; visits = λ h. h; fork = λ f. f }) in
    let push : Made (λ G. paths.Does G (node.Push Char (pos 0) 0)) n1 n2 i m = one_made (node.Push Char (pos 0) 0) (node.Push Char (pos 0) m) n1 n2 i m (search rules) at' is' in
    let both = then_made {ends = no_ends} (λ G. paths.Does G (node.Push Char (pos 0) 0)) (λ G i (k : ℕ). G i (view.Halts node.Exit)) old n1 n2 i m 0 exit push in
    record { does = λ fin l. both.does fin l; keeps = both.keeps; leads = λ below. both.leads tt; stands = λ s j l same like h. both.stands s j 0 tt tt h }

-- the same for parts that go on at one node
pub then_one : (R S : GraphPath ℕ) (n0 n1 n2 : List Node) (i m k : ℕ) → Made S n0 n1 m k → Made R n1 n2 i m → Made (λ G. R G then S G) n0 n2 i k
then_one R S n0 n1 n2 i m k s r = then_made R S n0 n1 n2 i m k s r

pub surely_one : (R : GraphPath ℕ) (old new : List Node) (i k : ℕ) → MadeAlone R old new i k → Made R old new i k
surely_one R old new i k made = surely_made R old new i k made

-- a part that is found from these
pub ruleset parts_made = (one_made, then_one, nothing_made, surely_one)
