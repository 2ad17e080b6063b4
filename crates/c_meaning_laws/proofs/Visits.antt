-- The visits of sites that stand where they can look: none of them stops a run that would go on without it.
use Rattle.std.proofs.Common.{◌≡◌, ℕ, refl, subst, sym, ◌∙◌, List, [], ◌∷◌, Some, None, Ok, Err, Bool, true, false}
use Rattle.std.specs.Prelude.{IsTrue, Option, Result, ℤ}
use Rattle.cbi_base.specs.declared.observation.Seen.{Seen}
use Rattle.cbi_base.specs.declared.trap.Trap.{Trap}
use Rattle.cbi_base.specs.declared.scalar.Scalar.{Scalar}
use Rattle.cbi_base.specs.declared.scalar.Scalar.TheVariants.{Place}
use Rattle.cbi_base.specs.Words.{Objects, value_stored, truth_of, Locals}
use Rattle.flow.specs.declared.site.Site.{Site}
use Rattle.flow.specs.declared.site.SiteKind.{SiteKind}
use Rattle.flow.specs.declared.site.SiteKind.TheVariants.{Branch, Return, Pair}
use Rattle.flow.specs.declared.site.Slot.{Slot}
use Rattle.flow.specs.Truths.{seen_at_site, object_at, partner_number, seen_by, seen_pair, seen_truth}
use Rattle.c_meaning.specs.declared.value_type.ValueType.{ValueType}
use Rattle.c_meaning.specs.Words.{Facts, Setting, Signature, no_sites, assigned_at, store_at, visited_truth, site_list, truth_value, sites_visited, world_with_seen, World, Out, Go}
use Rattle.c_meaning.specs.Words.{Caller, bind, answer_or_trap, is_branch, is_return}
use Rattle.c_meaning_laws.specs.Typed.{AllLookAt, IsTarget, LooksAt, PairsFit}
use Rattle.c_meaning_laws.specs.TypedSource.{OfKind, SitesFit}
use Rattle.std.proofs.lemmas.Bool.{false≢true}
use Rattle.c_meaning_laws.proofs.Safe.{Any, Calm, Ending, Safe, gives, plain, seq, unseen}
use Rattle.c_meaning_laws.proofs.Values.{Fits, IsAt, truth_calm, truth_safe}
use Rattle.c_meaning_laws.proofs.Memory.{Holds, stored_calm, stored_holds}

-- a setting without sites, with other calls
abbrev pub bare : Setting → Caller → Setting
bare s call0 = record s { sites = no_sites; call = call0 }

-- calls of functions with and without sites
pub record CallsSafe (facts : Facts) (call call0 : Caller) : Type 0 where
  pub by : (number : ℕ) (f : Signature) → facts.signature number ≡ Some f → (arguments : List Scalar)
      → Safe (Fits (Some f.result)) (call number arguments) (call0 number arguments)

-- the place of a variable
abbrev pub AtSlot : Locals → Slot → Scalar → Type 0
AtSlot locals slot p = (number : ℕ) × (object_at slot locals ≡ Some number) × (p ≡ Place number 0)

-- the place of a variable, or any place
abbrev pub Spot : Locals → Option Slot → Scalar → Type 0
Spot locals None p = IsAt p
Spot locals (Some slot) p = AtSlot locals slot p

pub spot_at : (locals : Locals) (slot : Option Slot) (p : Scalar) → Spot locals slot p → IsAt p
spot_at locals None p h = h
spot_at locals (Some slot) p h = subst IsAt (sym h.2) tt

-- a part that ends so, and does this but for what is seen
abbrev pub Does : {A : Type 0} → (A → Type 0) → Out A → Out A → Type 0
Does P m n = Ending P m × (unseen m ≡ n)

-- something is seen
abbrev Sees : Result Seen Trap → Type 0
Sees (Ok seen) = Unit {0}
Sees (Err t) = ⊥

sees_pair : (value : ℤ) (partner : Option ℤ) → Sees (seen_pair (Some value) partner)
sees_pair value None = tt
sees_pair value (Some other) = tt

module _ (s : Setting) (call0 : Caller) where
  -- a branch that looks at an undefined value traps as the condition itself does
  truth_end : (k : ℕ) (v : Scalar) (w : World) (r : Result Bool Trap) → truth_of v ≡ r → Calm Any r
      → Does {A = Bool} Any (bind (bind (bind (answer_or_trap (seen_truth r) w) (λ seen u. Go v (world_with_seen k seen u))) (sites_visited s [])) truth_value) (truth_value v (plain w))
  truth_end k v w (Ok true) e c = rw e (tt, refl)
  truth_end k v w (Ok false) e c = rw e (tt, refl)
  truth_end k v w (Err t) e c = rw e (c, refl)

  kind_end : (kind : SiteKind) (k : ℕ) (v : Scalar) (w : World) → IsTrue (is_branch kind)
      → Does {A = Bool} Any (bind (bind (bind (answer_or_trap (seen_by kind (Some v) s.locals w.objects) w) (λ seen u. Go v (world_with_seen k seen u)))
      (sites_visited s [])) truth_value)
      (truth_value v (plain w))
  kind_end (Branch word) k v w h = truth_end k v w (truth_of v) refl (truth_calm v)
  kind_end (Return callee) k v w h = absurd (false≢true h)
  kind_end (Pair target slot partner) k v w h = absurd (false≢true h)

  branch_end : (o : Option Site) (k : ℕ) (v : Scalar) (w : World) → OfKind is_branch o
      → Does {A = Bool} Any (bind (bind (bind (answer_or_trap (seen_at_site o (Some v) s.locals w.objects) w) (λ seen u. Go v (world_with_seen k seen u)))
      (sites_visited s [])) truth_value) (truth_value v (plain w))
  unfolding seen_at_site
  branch_end None k v w h = absurd h
  branch_end (Some site) k v w h = kind_end site.kind k v w h

  branch_safe : (o : Option ℕ) (v : Scalar) → ((k : ℕ) → o ≡ Some k → OfKind is_branch (s.sites.site k))
      → Safe {A = Bool} Any (λ w. bind (sites_visited s (site_list o) v w) truth_value) (truth_value v)
  branch_safe None v h = truth_safe v
  branch_safe (Some k) v h = record {
    at = λ w. (branch_end (s.sites.site k) k v w (h k refl)).0;
    same =
        λ w. (branch_end (s.sites.site k) k v w (h k refl)).1;
  }

  -- a condition with its site
  pub decided_safe : SitesFit s.sites → (token : ℕ) (v : Scalar) → Safe Any (visited_truth s token v) (visited_truth (bare s call0) token v)
  decided_safe fit token v = branch_safe (s.sites.branch_at token) v (λ k e. fit.branches token k e)

  -- a returned value with its site
  sign_end : (P : Scalar → Type 0) (kind : SiteKind) (k : ℕ) (v : Scalar) (w : World) → P v → IsTrue (is_return kind)
      → Does P (bind (bind (answer_or_trap (seen_by kind (Some v) s.locals w.objects) w) (λ seen u. Go v (world_with_seen k seen u))) (sites_visited s []))
      (Go v (plain w))
  sign_end P (Return callee) k v w p h = (p, refl)
  sign_end P (Branch word) k v w p h = absurd (false≢true h)
  sign_end P (Pair target slot partner) k v w p h = absurd (false≢true h)

  return_end : (P : Scalar → Type 0) (o : Option Site) (k : ℕ) (v : Scalar) (w : World) → P v → OfKind is_return o
      → Does P (bind (bind (answer_or_trap (seen_at_site o (Some v) s.locals w.objects) w) (λ seen u. Go v (world_with_seen k seen u))) (sites_visited s [])) (Go v (plain w))
  unfolding seen_at_site
  return_end P None k v w p h = absurd h
  return_end P (Some site) k v w p h = sign_end P site.kind k v w p h

  return_safe : {P : Scalar → Type 0} (o : Option ℕ) (v : Scalar) → P v → ((k : ℕ) → o ≡ Some k → OfKind is_return (s.sites.site k))
      → Safe P (sites_visited s (site_list o) v) (λ w. Go v w)
  return_safe None v p h = gives v p
  return_safe {P = P} (Some k) v p h = record {
    at = λ w. (return_end P (s.sites.site k) k v w p (h k refl)).0;
    same = λ w.
        (return_end P (s.sites.site k) k v w p (h k refl)).1;
  }

  pub returned_safe : {P : Scalar → Type 0} {m m0 : World → Out Scalar} → SitesFit s.sites → (token : ℕ) → Safe P m m0
      → Safe P (λ w. bind (m w) (sites_visited s (site_list (s.sites.return_at token)))) (λ w. bind (m0 w) (sites_visited (bare s call0) []))
  returned_safe fit token h = seq h (λ v p. return_safe (s.sites.return_at token) v p (λ k e. fit.returns token k e))

  -- pairs
  pair_seen : (kind : SiteKind) (slot : Slot) (number : ℕ) (v : Scalar) (w : World) → IsTarget slot kind → object_at slot s.locals ≡ Some number
      → Holds number w.objects
      → Sees (seen_by kind (Some v) s.locals w.objects)
  pair_seen (Pair name target partner) slot number v w h e f =
      subst (λ a. Sees (seen_by (Pair name a partner) (Some v) s.locals w.objects)) (sym h)
      (rw e (rw f.lives (rw f.first (sees_pair f.value (partner_number partner s.locals w.objects)))))
  pair_seen kind slot number v w h e f = absurd h

  looks_seen : (slot : Slot) (number : ℕ) (o : Option Site) (v : Scalar) (w : World) → LooksAt slot o → object_at slot s.locals ≡ Some number
      → Holds number w.objects
      → Sees (seen_at_site o (Some v) s.locals w.objects)
  unfolding seen_at_site
  looks_seen slot number None v w h e f = absurd h
  looks_seen slot number (Some site) v w h e f = pair_seen site.kind slot number v w h e f

  pair_end : (P : Scalar → Type 0) (k : ℕ) (v : Scalar) (w : World) (go : Scalar → World → Out Scalar) (n : Out Scalar) (r : Result Seen Trap) → Sees r
      → ((seen : Seen) → Does P (go v (world_with_seen k seen w)) n) → Does P (bind (bind (answer_or_trap r w) (λ seen u. Go v (world_with_seen k seen u))) go) n
  pair_end P k v w go n (Ok seen) c h = h seen
  pair_end P k v w go n (Err t) c h = absurd c

  pairs_end : (P : Scalar → Type 0) (slot : Slot) (number : ℕ) (ks : List ℕ) (v : Scalar) (w : World) → P v → AllLookAt s.sites slot ks
      → object_at slot s.locals ≡ Some number
      → Holds number w.objects → Does P (sites_visited s ks v w) (Go v (plain w))
  pairs_end P slot number [] v w p h e f = (p, refl)
  pairs_end P slot number (k ∷ ks) v w p h e f =
      pair_end P k v w (sites_visited s ks) (Go v (plain w)) (seen_at_site (s.sites.site k) (Some v) s.locals w.objects)
      (looks_seen slot number (s.sites.site k) v w h.0 e f)
      (λ seen. pairs_end P slot number ks v (world_with_seen k seen w) p h.1 e f)

  -- an assignment, with its pairs
  stored_end : (P : Scalar → Type 0) (Q : Objects → Type 0) (ks : List ℕ) (v : Scalar) (w : World) (r : Result Objects Trap) → Calm Q r
      → ((o : Objects) → Q o → Does P (sites_visited s ks v (record w { objects = o })) (Go v (plain (record w { objects = o }))))
      → Does P (bind (bind (answer_or_trap r w) (λ objects u. Go v (record u { objects = objects }))) (sites_visited s ks))
      (bind (answer_or_trap r (plain w)) (λ objects u. Go v (record u { objects = objects })))
  stored_end P Q ks v w (Ok o) c h = h o c
  stored_end P Q ks v w (Err t) c h = (c, refl)

  assigned_end : (slot : Option Slot) (t : Option ValueType) (ks : List ℕ) (p v : Scalar) (w : World) → PairsFit s.sites slot t ks → Spot s.locals slot p
      → Fits t v
      → Does (Fits t) (bind (store_at p v w) (sites_visited s ks)) (store_at p v (plain w))
  assigned_end slot t [] p v w h spot f = stored_end (Fits t) Any [] v w (value_stored p v w.objects) (stored_calm p v w.objects (spot_at s.locals slot p spot))
      (λ o c. (f, refl))
  assigned_end None t (k ∷ ks) p v w h spot f = absurd h
  assigned_end (Some slot) t (k ∷ ks) p v w h spot f = rw spot.2
      (stored_end (Fits t) (Holds spot.0) (k ∷ ks) v w (value_stored (Place spot.0 0) v w.objects) (stored_holds t spot.0 v w.objects h.0 f)
      (λ o c. pairs_end (Fits t) slot spot.0 (k ∷ ks) v (record w { objects = o }) f h.1 spot.1 c))

  -- without pairs the value is stored and given
  alone : (p v : Scalar) (r : Result Objects Trap) (w : World) → bind (answer_or_trap r w) (λ objects u. Go v (record u { objects = objects }))
      ≡ bind (bind (answer_or_trap r w) (λ objects u. Go v (record u { objects = objects }))) (sites_visited (bare s call0) [])
  alone p v (Ok o) w = refl
  alone p v (Err t) w = refl

  pub assigned_safe : (token : ℕ) (slot : Option Slot) (t : Option ValueType) (p v : Scalar) → PairsFit s.sites slot t (s.sites.pairs_at token)
      → Spot s.locals slot p → Fits t v
      → Safe (Fits t) (assigned_at s token p v) (assigned_at (bare s call0) token p v)
  assigned_safe token slot t p v h spot f = record {
    at = λ w. (assigned_end slot t (s.sites.pairs_at token) p v w h spot f).0;
    same = λ w. (assigned_end slot t (s.sites.pairs_at token) p v w h spot f).1 ∙ alone p v (value_stored p v w.objects) (plain w);
  }
