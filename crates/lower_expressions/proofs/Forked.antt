-- The truth of a chain: `&&` and `||` without a site need no value of their left sides.
use Rattle.std.proofs.Common.{◌≡◌, inl, inr, ℕ, zero, suc, ◌+◌, ◌<◌, ◌∙◌, ap, refl, subst, sym, arith, List, [], ◌∷◌, ◌++◌, length, take, take_all, get_or, Option, None, Some, true, false}
use Rattle.c_syntax.specs.ExprTree as e
use Rattle.c_syntax.specs.Words.{ExprTree, plain_links}
use Rattle.c_syntax.specs.declared.expr.Link.{Link}
use Rattle.flow.specs.declared.node.Node.{Node}
use Rattle.flow.specs.declared.node.Node.TheVariants as node
use Rattle.c_meaning.specs.declared.value_type.ValueType.{ValueType}
use Rattle.c_meaning.specs.Words.{Facts, Sites, Joint, Both, Computes, Unjoined, begins_null, joint_of_sign, site_list}
use Rattle.c_meaning.specs.Trees as tree
use Rattle.lower_relation.specs.Expressions.{LinksDo, LinksHold}
use Rattle.lower_relation.specs.Operators.{VisitedFork, DecidesAt, Linked, LinkedTruth}
use Rattle.lower_relation.specs.Paths.{Graph, Path, ◌then◌, Emitted, ForkTo, MarksAll, Ways}
use Rattle.lower_relation.specs.Values.{NullTruth}
use Rattle.lower_relation.specs.Functions.{graph_of_nodes}
use Rattle.lower_nodes.specs.Ends.{AllBelow, two_ends}
use Rattle.lower_nodes.specs.Made.{Later, LeadBack, Made, MadeFor, MadeWays, IsEmittedNode, GraphPath}
use Rattle.lower_nodes.specs.Parts.{purpose_part, truth_part, value_part}
use Rattle.lower_nodes.specs.Purposes.{Serves, condition_ways}
use Rattle.lower_nodes.specs.Standing.{AllLike, AllStand, Allowed, Like, Allowance, PartStands}
use Rattle.lower_nodes.specs.declared.purpose.Purpose.TheVariants as purpose
use Rattle.lower_operators.specs.Forking.{forks_at, is_short, no_before, yes_before}
use Rattle.lower_operators.specs.Linking.{type_before}
use Rattle.lower_nodes.proofs.Building.{◌and_then◌, Joined, back_both, below_more, both_stand, both_ways, joined_made, later_self, later_trans, like_more, none_back, none_stand, row, then_made}
use Rattle.lower_nodes.proofs.Taking.{fork_made}
use Rattle.lower_nodes.proofs.Wanting.{as_truth, truth_of}
use Rattle.lower_expressions.specs.Truths.{begins_as, begins_truly, begins_with, chain_truth, chain_value, right_truth, right_value, truth_at, truth_behind, value_at, value_behind}
use Rattle.lower_expressions.proofs.Chaining.{plain_cons}
use Rattle.lower_expressions.proofs.Forking.{fork_stands, links_fork, null_forks}

-- a null pointer's truth
pub null_truth : (m : Graph → Emitted) (n0 n1 n2 : List Node) (f i yes_at no_at : ℕ) → f ≡ length n0 → n1 ≡ n0 ++ node.Fork yes_at no_at ∷ [] →
    i ≡ length n1 → n2 ≡ n1 ++ node.Null f ∷ [] → MadeWays (λ G. NullTruth G true (m G)) n0 n2 i (condition_ways yes_at no_at)
null_truth m n0 n1 n2 f i yes_at no_at at new at' new' = row (node.Null 0) _ at' new' refl and_then fork_made n0 n1 f yes_at no_at at new

pub own_truth : (m : Graph → Emitted) (n0 n1 : List Node) (i yes_at no_at : ℕ) → MadeFor (λ G. Serves (m G)) n0 n1 i (purpose.Truth yes_at no_at) →
    MadeWays (λ G. NullTruth G false (m G)) n0 n1 i (condition_ways yes_at no_at)
own_truth m n0 n1 i yes_at no_at made = truth_of (λ G. Serves (m G)) (λ G. NullTruth G false (m G)) (λ G i w h. h) (λ s i w h. h) n0 n1 i yes_at no_at made

module _ (facts : Facts) (sites : Sites) where
  module _ (G : Graph) where
    -- an operator whose left side goes on at the right one, or beside it
    forked : (token : ℕ) (site : Option ℕ) (j : Joint) (left right_type : Option ValueType) (R : Path ℕ) (T : Path Ways) (S : Path ℕ) (U : Path Ways)
        (right yes_at no_at i : ℕ) → forks_at site j ≡ true → site ≡ sites.branch_at token → T i (condition_ways (yes_before j right yes_at) (no_before j right no_at)) →
        U right (condition_ways yes_at no_at) → LinkedTruth G facts sites j token left right_type R T S U i (condition_ways yes_at no_at)
    forked token None Both left right_type R T S U right yes_at no_at i forks at t u =
        (right, no_at, subst (λ s. DecidesAt G facts sites s R T i (condition_ways right no_at)) at t, u, refl)
    forked token None tree.Either left right_type R T S U right yes_at no_at i forks at t u =
        (yes_at, right, subst (λ s. DecidesAt G facts sites s R T i (condition_ways yes_at right)) at t, refl, u)
    forked token None (Computes o) left right_type R T S U right yes_at no_at i forks at t u = cc
    forked token None Unjoined left right_type R T S U right yes_at no_at i forks at t u = cc
    forked token (Some site) j left right_type R T S U right yes_at no_at i forks at t u = cc

    -- and where it goes on so, there is a right side
    unforked : (token : ℕ) (site : Option ℕ) (j : Joint) (left right_type : Option ValueType) (R : Path ℕ) (T : Path Ways) (S : Path ℕ) (U : Path Ways)
        (i : ℕ) (w : Ways) → forks_at site j ≡ true → site ≡ sites.branch_at token → LinkedTruth G facts sites j token left right_type R T S U i w →
        (right : ℕ) × T i (condition_ways (yes_before j right w.yes_to) (no_before j right w.no_to)) × U right w
    unforked token None Both left right_type R T S U i w forks at h =
        (h.0, subst (λ m. T i (condition_ways h.0 m)) h.4 (subst (λ s. DecidesAt G facts sites s R T i (condition_ways h.0 h.1)) (sym at) h.2), h.3)
    unforked token None tree.Either left right_type R T S U i w forks at h =
        (h.1, subst (λ m. T i (condition_ways m h.1)) h.3 (subst (λ s. DecidesAt G facts sites s R T i (condition_ways h.0 h.1)) (sym at) h.2), h.4)
    unforked token None (Computes o) left right_type R T S U i w forks at h = cc
    unforked token None Unjoined left right_type R T S U i w forks at h = cc
    unforked token (Some site) j left right_type R T S U i w forks at h = cc

    truth_next : (left : Option ValueType) (R : Path ℕ) (T : Path Ways) (links : List Link) (j : ℕ) (d : Link) → j < length links → d ≡ get_or links j d →
        truth_at facts sites G left R T links (suc j)
        ≡ truth_behind facts sites G (type_before facts left links j) d (value_at facts sites G left R links j) (truth_at facts sites G left R T links j)
    truth_next left R T [] j d low at = absurd (omega (arith, low))
    truth_next left R T (x ∷ links) zero d low at = rw at refl
    truth_next left R T (x ∷ links) (suc j) d low at =
        truth_next (facts.type_at x.token) (value_behind facts sites G left x R) (truth_behind facts sites G left x R T) links j d (omega (arith, low)) at

    value_next : (left : Option ValueType) (R : Path ℕ) (links : List Link) (j : ℕ) (d : Link) → j < length links → d ≡ get_or links j d →
        value_at facts sites G left R links (suc j) ≡ value_behind facts sites G (type_before facts left links j) d (value_at facts sites G left R links j)
    value_next left R [] j d low at = absurd (omega (arith, low))
    value_next left R (x ∷ links) zero d low at = rw at refl
    value_next left R (x ∷ links) (suc j) d low at = value_next (facts.type_at x.token) (value_behind facts sites G left x R) links j d (omega (arith, low)) at

    truth_whole : (left : Option ValueType) (R : Path ℕ) (T : Path Ways) (links : List Link) →
        truth_at facts sites G left R T links (length links) ≡ LinksHold G facts sites left R T (plain_links links)
    truth_whole left R T [] = refl
    truth_whole left R T (x ∷ links) =
        truth_whole (facts.type_at x.token) (value_behind facts sites G left x R) (truth_behind facts sites G left x R T) links
        ∙ ap (λ l. LinksHold G facts sites left R T l) (sym (plain_cons x links))

    -- the value of what stands before an operator is that of the first operators, one after another
    links_value : (left : Option ValueType) (R : Path ℕ) (links : List Link) (j i k : ℕ) → (R then LinksDo G facts sites left (plain_links (take j links))) i k →
        value_at facts sites G left R links j i k
    links_value left R links zero i k h = subst (λ m. R i m) h.2 h.1
    links_value left R [] (suc j) i k h = subst (λ m. R i m) h.2 h.1
    links_value left R (x ∷ links) (suc j) i k h =
        let all = subst (λ l. (R then LinksDo G facts sites left l) i k) (plain_cons x (take j links)) h in
        links_value (facts.type_at x.token) (value_behind facts sites G left x R) links j i k (all.2.0, (all.0, all.1, all.2.1), all.2.2)

    value_links : (left : Option ValueType) (R : Path ℕ) (links : List Link) (j i k : ℕ) → value_at facts sites G left R links j i k →
        (R then LinksDo G facts sites left (plain_links (take j links))) i k
    value_links left R links zero i k h = (k, h, refl)
    value_links left R [] (suc j) i k h = (k, h, refl)
    value_links left R (x ∷ links) (suc j) i k h =
        let all = value_links (facts.type_at x.token) (value_behind facts sites G left x R) links j i k h in
        subst (λ l. (R then LinksDo G facts sites left l) i k) (sym (plain_cons x (take j links))) (all.1.0, all.1.1, (all.0, all.1.2, all.2))

-- the truth of what stands before the operator with this index leads to that of the whole
pub record Leads (facts : Facts) (sites : Sites) (first : ExprTree) (links : List Link) (j : ℕ) (old new : List Node) (from to : Ways) : Type 0 where
  pub does : (fin : List Node) → Later (length old) new fin → (i : ℕ) → chain_truth facts sites first links j (graph_of_nodes fin) i from →
      chain_truth facts sites first links (length links) (graph_of_nodes fin) i to
  pub keeps : Later 0 old new
  pub leads : AllBelow (length old) (two_ends to) → AllBelow (length new) (two_ends from) × LeadBack (length old) new
  pub stands : (s : Allowance) (i : ℕ) (l : Ways) → AllLike s old (two_ends to) (two_ends l) → chain_truth facts sites first links (length links) (Allowed s) i l →
      (q : Ways) × AllLike s new (two_ends from) (two_ends q) × chain_truth facts sites first links j (Allowed s) i q × AllStand s (length old) new

-- where a left side goes on, if its right side and the whole do
chosen_below : (j : Joint) (n right yes_at no_at : ℕ) → right < n → yes_at < n → no_at < n → AllBelow n (two_ends (condition_ways (yes_before j right yes_at) (no_before j right no_at)))
chosen_below Both n right yes_at no_at r y m = (r, (m, tt))
chosen_below j n right yes_at no_at r y m = (y, (r, tt))

chosen_like : (s : Allowance) (n : List Node) (j : Joint) (right yes_at no_at r : ℕ) (w : Ways) → Like s n right r → Like s n yes_at w.yes_to → Like s n no_at w.no_to →
    AllLike s n (two_ends (condition_ways (yes_before j right yes_at) (no_before j right no_at))) (two_ends (condition_ways (yes_before j r w.yes_to) (no_before j r w.no_to)))
chosen_like s n Both right yes_at no_at r w a y m = (a, (m, tt))
chosen_like s n j right yes_at no_at r w a y m = (y, (a, tt))

module _ (facts : Facts) (sites : Sites) (first : ExprTree) (links : List Link) where
  abbrev left_as : ℕ → Option ValueType
  left_as j = type_before facts (begins_as facts sites first links) links j

  -- the truth of what stands before the next operator
  next_truth : (G : Graph) (m j : ℕ) (d : Link) → m ≡ j + 1 → j < length links → d ≡ get_or links j d →
      chain_truth facts sites first links m G
      ≡ truth_behind facts sites G (left_as j) d (chain_value facts sites first links j G) (chain_truth facts sites first links j G)
  next_truth G m j d e low at =
      let more : m ≡ suc j = omega (arith, e) in
      ap (λ q. chain_truth facts sites first links q G) more
      ∙ truth_next facts sites G (begins_as facts sites first links) (begins_with facts sites first links G) (begins_truly facts sites first links G) links j d low at

  next_value : (G : Graph) (m j : ℕ) (d : Link) → m ≡ j + 1 → j < length links → d ≡ get_or links j d →
      chain_value facts sites first links m G ≡ value_behind facts sites G (left_as j) d (chain_value facts sites first links j G)
  next_value G m j d e low at =
      let more : m ≡ suc j = omega (arith, e) in
      ap (λ q. chain_value facts sites first links q G) more
      ∙ value_next facts sites G (begins_as facts sites first links) (begins_with facts sites first links G) links j d low at

  pub leads_all : (n : List Node) (k : Ways) → Leads facts sites first links (length links) n n k k
  leads_all n k = record {
    does = λ fin l i h. h;
    keeps = later_self 0 n;
    leads = λ below. (below, none_back n);
    stands = λ s i l like h. (l, like, h, none_stand s n);
  }

  -- the right side of one more operator
  pub leads_step : (m j : ℕ) (d : Link) (n0 n1 n2 : List Node) (right yes_at no_at : ℕ) (to : Ways) → m ≡ j + 1 → j < length links → d ≡ get_or links j d →
      forks_at (sites.branch_at d.token) (joint_of_sign d.sign) ≡ true → Leads facts sites first links m n0 n1 (condition_ways yes_at no_at) to →
      MadeWays (λ G. right_truth facts sites G (left_as j) d) n1 n2 right (condition_ways yes_at no_at) →
      Leads facts sites first links j n0 n2 (condition_ways (yes_before (joint_of_sign d.sign) right yes_at) (no_before (joint_of_sign d.sign) right no_at)) to
  leads_step m j d n0 n1 n2 right yes_at no_at to e low at forks rest made = record {
    does = λ fin l i h.
        let G : Graph = graph_of_nodes fin in
        let next : chain_truth facts sites first links m G i (condition_ways yes_at no_at) =
        subst (λ (P : Path Ways). P i (condition_ways yes_at no_at)) (sym (next_truth G m j d e low at))
        (forked facts sites G d.token (sites.branch_at d.token) (joint_of_sign d.sign) (left_as j) _ (chain_value facts sites first links j G) (chain_truth facts sites first links j G) _ _
        right yes_at no_at i forks refl h (made.does fin (later_trans (length n0) (length n1) n2 n2 fin rest.keeps.longer (later_self 0 n2) l))) in
        rest.does fin (later_trans (length n0) (length n0) n1 n2 fin (omega arith) made.keeps l) i next;
    keeps = later_trans 0 0 n0 n1 n2 (omega arith) rest.keeps made.keeps;
    leads = λ below.
        let second : AllBelow (length n1) (two_ends (condition_ways yes_at no_at)) × LeadBack (length n0) n1 = rest.leads below in
        let right_at : IsEmittedNode (length n1) n2 right = made.leads second.0 in
        let all : AllBelow (length n2) (two_ends (condition_ways yes_at no_at)) = below_more (length n1) (length n2) (two_ends (condition_ways yes_at no_at)) made.keeps.longer second.0 in (
          chosen_below (joint_of_sign d.sign) (length n2) right yes_at no_at right_at.inside all.0 all.1.0,
          back_both (length n0) n1 n2 second.1 made.keeps right_at.back,
        );
    stands = λ s i l like h.
        let r = rest.stands s i l like h in
        let behind = subst (λ (P : Path Ways). P i r.0) (next_truth (Allowed s) m j d e low at) r.2 in
        let u = unforked facts sites (Allowed s) d.token (sites.branch_at d.token) (joint_of_sign d.sign) (left_as j) _ (chain_value facts sites first links j (Allowed s))
        (chain_truth facts sites first links j (Allowed s)) _ _ i r.0 forks refl behind in
        let stood : PartStands s (length n1) n2 right u.0 = made.stands s u.0 r.0 tt r.1 u.2 in (
          condition_ways (yes_before (joint_of_sign d.sign) u.0 r.0.yes_to) (no_before (joint_of_sign d.sign) u.0 r.0.no_to),
          chosen_like s n2 (joint_of_sign d.sign) right yes_at no_at u.0 r.0 stood.like (like_more s n1 n2 yes_at r.0.yes_to made.keeps r.1.0)
              (like_more s n1 n2 no_at r.0.no_to made.keeps r.1.1.0),
          u.1,
          both_stand s (length n0) n1 n2 r.3 made.keeps stood.all,
        );
  }

  -- where there is the truth of a chain, there is that behind its last operator
  whole_truth : (s : Allowance) (i : ℕ) (w : Ways) → truth_part facts sites (e.Chain 0 first (plain_links links)) (Allowed s) i w →
      chain_truth facts sites first links (length links) (Allowed s) i w
  whole_truth s i w h =
      subst (λ (P : Path Ways). P i w)
      (sym (truth_whole facts sites (Allowed s) (begins_as facts sites first links) (begins_with facts sites first links (Allowed s))
      (begins_truly facts sites first links (Allowed s)) links))
      (elim h [
        | inl t ↦ links_fork s facts sites (plain_links links) (begins_as facts sites first links) (begins_with facts sites first links (Allowed s))
            (begins_truly facts sites first links (Allowed s)) (null_forks s facts sites (begins_null facts first (plain_links links)) first) i t.0 w t.1
        | inr t ↦ t
      ])

  -- before them stands what needs a value, or the first operand alone
  leads_end : (count : ℕ) (n0 n1 n2 : List Node) (i : ℕ) (from to : Ways) → Leads facts sites first links count n0 n1 from to →
      MadeWays (chain_truth facts sites first links count) n1 n2 i from → MadeWays (truth_part facts sites (e.Chain 0 first (plain_links links))) n0 n2 i to
  leads_end count n0 n1 n2 i from to leads made = record {
    does = λ fin l.
        let G : Graph = graph_of_nodes fin in
        inr (subst (λ (P : Path Ways). P i to)
        (truth_whole facts sites G (begins_as facts sites first links) (begins_with facts sites first links G) (begins_truly facts sites first links G) links)
        (leads.does fin (later_trans (length n0) (length n0) n1 n2 fin (omega arith) made.keeps l) i
        (made.does fin (later_trans (length n0) (length n1) n2 n2 fin leads.keeps.longer (later_self 0 n2) l))));
    keeps = later_trans 0 0 n0 n1 n2 (omega arith) leads.keeps made.keeps;
    leads = λ below.
        let second : AllBelow (length n1) (two_ends from) × LeadBack (length n0) n1 = leads.leads below in
        let begins : IsEmittedNode (length n1) n2 i = made.leads second.0 in
        record { inside = begins.inside; back = back_both (length n0) n1 n2 second.1 made.keeps begins.back };
    stands = λ s j l same like h.
        let r = leads.stands s j l like (whole_truth s j l h) in
        let begins : PartStands s (length n1) n2 i j = made.stands s j r.0 tt r.1 r.2 in
        record { all = both_stand s (length n0) n1 n2 r.3 made.keeps begins.all; like = begins.like };
  }

  -- the truth of the whole chain
  pub chain_forked : (count : ℕ) (n0 n1 n2 : List Node) (i yes_at no_at : ℕ) (from : Ways) → Leads facts sites first links count n0 n1 from (condition_ways yes_at no_at) →
      MadeWays (chain_truth facts sites first links count) n1 n2 i from → MadeFor (purpose_part facts sites (e.Chain 0 first (plain_links links))) n0 n2 i (purpose.Truth yes_at no_at)
  chain_forked count n0 n1 n2 i yes_at no_at from leads made =
      as_truth (truth_part facts sites (e.Chain 0 first (plain_links links))) (purpose_part facts sites (e.Chain 0 first (plain_links links))) (λ G i w h. h) (λ s i w h. h) n0 n2 i yes_at no_at
      (leads_end count n0 n1 n2 i from (condition_ways yes_at no_at) leads made)

  pub chain_begun : (m : ℕ) (n0 n1 n2 : List Node) (i yes_at no_at : ℕ) (from : Ways) → m ≡ 0 → Leads facts sites first links m n0 n1 from (condition_ways yes_at no_at) →
      MadeWays (begins_truly facts sites first links) n1 n2 i from → MadeFor (purpose_part facts sites (e.Chain 0 first (plain_links links))) n0 n2 i (purpose.Truth yes_at no_at)
  chain_begun m n0 n1 n2 i yes_at no_at from none leads made =
      chain_forked 0 n0 n1 n2 i yes_at no_at from (subst (λ q. Leads facts sites first links q n0 n1 from (condition_ways yes_at no_at)) none leads) made

  -- the value of what stands before an operator
  pub before_made : (count : ℕ) (n0 n1 n2 : List Node) (done i k : ℕ) →
      Made (λ G. LinksDo G facts sites (begins_as facts sites first links) (plain_links (take count links))) n0 n1 done k → Made (begins_with facts sites first links) n1 n2 i done →
      Made (chain_value facts sites first links count) n0 n2 i k
  before_made count n0 n1 n2 done i k linked made =
      both_ways (λ G. begins_with facts sites first links G then LinksDo G facts sites (begins_as facts sites first links) (plain_links (take count links)))
      (chain_value facts sites first links count) k
      (λ G i k h. links_value facts sites G (begins_as facts sites first links) (begins_with facts sites first links G) links count i k h)
      (λ s i k h. value_links facts sites (Allowed s) (begins_as facts sites first links) (begins_with facts sites first links (Allowed s)) links count i k h) n0 n2 i
      (made and_then linked)

  -- that of the whole
  pub value_whole : (m : ℕ) (n0 n1 : List Node) (i k : ℕ) → m ≡ length links → Made (chain_value facts sites first links m) n0 n1 i k →
      Made (value_part facts sites (e.Chain 0 first (plain_links links))) n0 n1 i k
  value_whole m n0 n1 i k whole made =
      let all : plain_links (take m links) ≡ plain_links links = ap plain_links (take_all m links (omega (arith, whole))) in
      both_ways (chain_value facts sites first links m) (value_part facts sites (e.Chain 0 first (plain_links links))) k
      (λ G i k h. subst (λ l. (begins_with facts sites first links G then LinksDo G facts sites (begins_as facts sites first links) l) i k) all
      (value_links facts sites G (begins_as facts sites first links) (begins_with facts sites first links G) links m i k h))
      (λ s i k h. links_value facts sites (Allowed s) (begins_as facts sites first links) (begins_with facts sites first links (Allowed s)) links m i k
      (subst (λ l. (begins_with facts sites first links (Allowed s) then LinksDo (Allowed s) facts sites (begins_as facts sites first links) l) i k) (sym all) h)) n0 n1 i made

-- an operator with a site is decided by the value of its left side
decided_by : (G : Graph) (facts : Facts) (sites : Sites) (site : Option ℕ) (j : Joint) (R : Path ℕ) (T : Path Ways) (i : ℕ) (w : Ways) → forks_at site j ≡ false → is_short j ≡ true →
    (R then MarksAll G (site_list site) then ForkTo G) i w → DecidesAt G facts sites site R T i w
decided_by G facts sites None j R T i w valued short h = cc
decided_by G facts sites (Some site) j R T i w valued short h = h

by_decided : (G : Graph) (facts : Facts) (sites : Sites) (site : Option ℕ) (j : Joint) (R : Path ℕ) (T : Path Ways) (i : ℕ) (w : Ways) → forks_at site j ≡ false → is_short j ≡ true →
    DecidesAt G facts sites site R T i w → (R then MarksAll G (site_list site) then ForkTo G) i w
by_decided G facts sites None j R T i w valued short h = cc
by_decided G facts sites (Some site) j R T i w valued short h = h

-- the left side, with the visit of its site, and then the right one
module _ (facts : Facts) (sites : Sites) (token : ℕ) (left right_type : Option ValueType) (V : GraphPath ℕ) (T : GraphPath Ways) (S : GraphPath ℕ) (U : GraphPath Ways) where
  sided_by : (j : Joint) (n0 n1 n2 n3 : List Node) (right decided i yes_at no_at : ℕ) → forks_at (sites.branch_at token) j ≡ false → is_short j ≡ true →
      MadeWays U n0 n1 right (condition_ways yes_at no_at) →
      MadeWays (λ G. VisitedFork G facts sites token) n1 n2 decided (condition_ways (yes_before j right yes_at) (no_before j right no_at)) → Made V n2 n3 i decided →
      MadeWays (λ G. LinkedTruth G facts sites j token left right_type (V G) (T G) (S G) (U G)) n0 n3 i (condition_ways yes_at no_at)
  sided_by Both n0 n1 n2 n3 right decided i yes_at no_at valued short u d v =
      both_ways (Joined (λ G. V G then VisitedFork G facts sites token) U (λ m t. condition_ways m t.no_to) (λ t. t))
      (λ G. LinkedTruth G facts sites Both token left right_type (V G) (T G) (S G) (U G)) (condition_ways yes_at no_at)
      (λ G i w h. (h.0, w.no_to, decided_by G facts sites (sites.branch_at token) Both (V G) (T G) i (condition_ways h.0 w.no_to) valued short h.1, h.2, refl))
      (λ s i w h. (
        h.0,
        subst (λ m. (V (Allowed s) then VisitedFork (Allowed s) facts sites token) i (condition_ways h.0 m)) h.4
            (by_decided (Allowed s) facts sites (sites.branch_at token) Both (V (Allowed s)) (T (Allowed s)) i (condition_ways h.0 h.1) valued short h.2),
        h.3,
      )) n0 n3 i
      (joined_made {h = two_ends} (λ G. V G then VisitedFork G facts sites token) U (λ m t. condition_ways m t.no_to) (λ t. t) n0 n1 n3 i right (condition_ways yes_at no_at) (λ n b. b)
      (λ n b m. (m, (b.1.0, tt))) (λ s n w b. b) (λ s n w q b m. (m, (b.1.0, tt))) u (v and_then d))
  sided_by tree.Either n0 n1 n2 n3 right decided i yes_at no_at valued short u d v =
      both_ways (Joined (λ G. V G then VisitedFork G facts sites token) U (λ m t. condition_ways t.yes_to m) (λ t. t))
      (λ G. LinkedTruth G facts sites tree.Either token left right_type (V G) (T G) (S G) (U G)) (condition_ways yes_at no_at)
      (λ G i w h. (w.yes_to, h.0, decided_by G facts sites (sites.branch_at token) tree.Either (V G) (T G) i (condition_ways w.yes_to h.0) valued short h.1, refl, h.2))
      (λ s i w h. (
        h.1,
        subst (λ m. (V (Allowed s) then VisitedFork (Allowed s) facts sites token) i (condition_ways m h.1)) h.3
            (by_decided (Allowed s) facts sites (sites.branch_at token) tree.Either (V (Allowed s)) (T (Allowed s)) i (condition_ways h.0 h.1) valued short h.2),
        h.4,
      )) n0 n3 i
      (joined_made {h = two_ends} (λ G. V G then VisitedFork G facts sites token) U (λ m t. condition_ways t.yes_to m) (λ t. t) n0 n1 n3 i right (condition_ways yes_at no_at) (λ n b. b)
      (λ n b m. (b.0, (m, tt))) (λ s n w b. b) (λ s n w q b m. (b.0, (m, tt))) u (v and_then d))
  sided_by (Computes o) n0 n1 n2 n3 right decided i yes_at no_at valued short u d v = cc
  sided_by Unjoined n0 n1 n2 n3 right decided i yes_at no_at valued short u d v = cc

  -- an operator that calculates: its value, and a fork
  valued_by : (j : Joint) (n0 n1 : List Node) (i : ℕ) (w : Ways) → is_short j ≡ false →
      MadeWays (λ G. (V G then Linked G facts sites j token left right_type (S G)) then ForkTo G) n0 n1 i w →
      MadeWays (λ G. LinkedTruth G facts sites j token left right_type (V G) (T G) (S G) (U G)) n0 n1 i w
  valued_by Both n0 n1 i w short made = cc
  valued_by tree.Either n0 n1 i w short made = cc
  valued_by (Computes o) n0 n1 i w short made = made
  valued_by Unjoined n0 n1 i w short made =
      both_ways (λ G. (V G then Linked G facts sites Unjoined token left right_type (S G)) then ForkTo G)
      (λ G. LinkedTruth G facts sites Unjoined token left right_type (V G) (T G) (S G) (U G)) w (λ G i w h. h.1) (λ s i w h. (0, h, fork_stands s 0 w)) n0 n1 i made

module _ (facts : Facts) (sites : Sites) (first : ExprTree) (links : List Link) (m j : ℕ) (d : Link) (next : m ≡ j + 1) (low : j < length links) (at : d ≡ get_or links j d) where
  behind_made : (n0 n1 : List Node) (i : ℕ) (w : Ways) →
      MadeWays (λ G. truth_behind facts sites G (left_as facts sites first links j) d (chain_value facts sites first links j G) (chain_truth facts sites first links j G)) n0 n1 i w →
      MadeWays (chain_truth facts sites first links m) n0 n1 i w
  behind_made n0 n1 i w made =
      both_ways (λ G. truth_behind facts sites G (left_as facts sites first links j) d (chain_value facts sites first links j G) (chain_truth facts sites first links j G))
      (chain_truth facts sites first links m) w
      (λ G i w h. subst (λ (P : Path Ways). P i w) (sym (next_truth facts sites first links G m j d next low at)) h)
      (λ s i w h. subst (λ (P : Path Ways). P i w) (next_truth facts sites first links (Allowed s) m j d next low at) h) n0 n1 i made

  -- the truth behind `&&` or `||` with a site
  pub sided_made : (n0 n1 n2 n3 : List Node) (right decided i yes_at no_at : ℕ) → forks_at (sites.branch_at d.token) (joint_of_sign d.sign) ≡ false → is_short (joint_of_sign d.sign) ≡ true →
      MadeWays (λ G. right_truth facts sites G (left_as facts sites first links j) d) n0 n1 right (condition_ways yes_at no_at) →
      MadeWays (λ G. VisitedFork G facts sites d.token) n1 n2 decided (condition_ways (yes_before (joint_of_sign d.sign) right yes_at) (no_before (joint_of_sign d.sign) right no_at)) →
      Made (chain_value facts sites first links j) n2 n3 i decided → MadeWays (chain_truth facts sites first links m) n0 n3 i (condition_ways yes_at no_at)
  sided_made n0 n1 n2 n3 right decided i yes_at no_at valued short u d' v =
      behind_made n0 n3 i (condition_ways yes_at no_at)
      (sided_by facts sites d.token (left_as facts sites first links j) _ (chain_value facts sites first links j) (chain_truth facts sites first links j)
      (λ G. right_value facts sites G (left_as facts sites first links j) d) (λ G. right_truth facts sites G (left_as facts sites first links j) d)
      (joint_of_sign d.sign) n0 n1 n2 n3 right decided i yes_at no_at valued short u d' v)

  -- the truth of a value
  pub valued_made : (n0 n1 n2 : List Node) (fork i yes_at no_at : ℕ) → is_short (joint_of_sign d.sign) ≡ false → fork ≡ length n0 → n1 ≡ n0 ++ node.Fork yes_at no_at ∷ [] →
      Made (chain_value facts sites first links m) n1 n2 i fork → MadeWays (chain_truth facts sites first links m) n0 n2 i (condition_ways yes_at no_at)
  valued_made n0 n1 n2 fork i yes_at no_at short here new v =
      let value : Made (λ G. value_behind facts sites G (left_as facts sites first links j) d (chain_value facts sites first links j G)) n1 n2 i fork =
      both_ways (chain_value facts sites first links m) (λ G. value_behind facts sites G (left_as facts sites first links j) d (chain_value facts sites first links j G)) fork
      (λ G i k h. subst (λ (P : Path ℕ). P i k) (next_value facts sites first links G m j d next low at) h)
      (λ s i k h. subst (λ (P : Path ℕ). P i k) (sym (next_value facts sites first links (Allowed s) m j d next low at)) h) n1 n2 i v in
      behind_made n0 n2 i (condition_ways yes_at no_at)
      (valued_by facts sites d.token (left_as facts sites first links j) _ (chain_value facts sites first links j) (chain_truth facts sites first links j)
      (λ G. right_value facts sites G (left_as facts sites first links j) d) (λ G. right_truth facts sites G (left_as facts sites first links j) d)
      (joint_of_sign d.sign) n0 n2 i (condition_ways yes_at no_at) short
      (then_made (λ G. value_behind facts sites G (left_as facts sites first links j) d (chain_value facts sites first links j G)) (λ G. ForkTo G) n0 n1 n2 i fork (condition_ways yes_at no_at)
      (fork_made n0 n1 fork yes_at no_at here new) value))

pub ruleset null_truths = (null_truth, own_truth)
