-- Watchers that are told one after another.
use Rattle.std.proofs.Common.{◌≡◌, ◌≢◌, ℕ, zero, suc, ◌+◌, ◌<◌, ◌≤◌, inl, inr, List, [], ◌∷◌, ◌++◌, length, get_or, take, refl, sym, ap, subst, ◌∙◌, arith, append_assoc}
use Rattle.std.specs.Prelude.{slice_get, Some, slice_set}
use Rattle.std.proofs.lemmas.List.{length-set, append-nil, take_all, take-append-le}
use Rattle.std.proofs.Math.Seq.{take-append-add}
use Rattle.std.proofs.lemmas.Option.{slice_get_within, slice_get-get_or}
use Rattle.std.proofs.lemmas.Bool.{cases_lt}
use Rattle.base_lists.proofs.Lists.{set_here}
use Rattle.cbi_base.specs.declared.observation.Observation.{Observation}
use Rattle.probe_base.specs.Told.{AllGrew, AllGrewByPrefix, GrewByPrefix}

-- the watchers before a place were told these, and the others are as before
pub record GrewBelow {B : Type 0} (seen : B → List Observation) (more : List Observation) (place : ℕ) (old new : List B) : Type 0 where
  pub same_length : length new ≡ length old
  pub told : (k : ℕ) (before after : B) → k < place → slice_get old k ≡ Some before → slice_get new k ≡ Some after → seen after ≡ seen before ++ more
  pub others : (k : ℕ) → place ≤ k → slice_get new k ≡ slice_get old k

-- a write at a place changes what is there alone
pub slice_get-set_other : {B : Type 0} (bs : List B) (i k : ℕ) (c : B) → k ≢ i → slice_get (slice_set bs i c) k ≡ slice_get bs k
slice_get-set_other (b ∷ bs) zero zero c apart = absurd (apart refl)
slice_get-set_other (b ∷ bs) (suc i) (suc k) c apart = slice_get-set_other bs i k c (λ e. apart (ap suc e))
slice_get-set_other bs i k c apart = refl

-- one more watcher was told
pub GrewBelow-more : {B : Type 0} (seen : B → List Observation) (more : List Observation) (place : ℕ) (old now : List B) (b c : B)
    → place < length now → slice_get now place ≡ Some b → seen c ≡ seen b ++ more → GrewBelow seen more place old now → GrewBelow seen more (place + 1) old (slice_set now place c)
GrewBelow-more {B} seen more place old now b c inside is grew below = record {
  same_length = length-set now place c ∙ below.same_length;
  told = λ k before after less was stands.
      elim (cases_lt k place) [
        | inl earlier ↦ let apart : k ≢ place = omega arith in below.told k before after earlier was (sym (slice_get-set_other now place k c apart) ∙ stands)
        | inr last ↦
            let here : k ≡ place = omega arith in
            let old_is : slice_get old place ≡ Some before = subst (λ i. slice_get old i ≡ Some before) here was in
            let same : Some b ≡ Some before = sym is ∙ below.others place (omega arith) ∙ old_is in
            let new_is : Some c ≡ Some after = sym (set_here now place c inside) ∙ subst (λ i. slice_get (slice_set now place c) i ≡ Some after) here stands in
            let b_is : b ≡ before = cc in
            let c_is : c ≡ after = cc in
            sym (ap seen c_is) ∙ grew ∙ ap (λ x. seen x ++ more) b_is
      ];
  others = λ k later. let apart : k ≢ place = omega arith in slice_get-set_other now place k c apart ∙ below.others k (omega arith);
}

-- all of them were told
pub AllGrew-end : {B : Type 0} (seen : B → List Observation) (more : List Observation) (place : ℕ) (old new : List B) → length new ≤ place → GrewBelow seen more place old new → AllGrew seen more old new
AllGrew-end seen more place old new past below = record {
  same_length = below.same_length;
  each = λ k before after was stands. below.told k before after (omega (arith, slice_get_within new k after stands)) was stands;
}

-- the one at the place was told a prefix, and those after it were not reached
pub AllGrewByPrefix-stop : {B : Type 0} (seen : B → List Observation) (more : List Observation) (place : ℕ) (old now : List B) (b c : B)
    → place < length now → slice_get now place ≡ Some b → GrewByPrefix more (seen b) (seen c) → GrewBelow seen more place old now → AllGrewByPrefix seen more old (slice_set now place c)
AllGrewByPrefix-stop {B} seen more place old now b c inside is part below = record {
  same_length = length-set now place c ∙ below.same_length;
  each = λ k before after was stands.
      elim (cases_lt k place) [
        | inl earlier ↦
            let apart : k ≢ place = omega arith in
            let told = below.told k before after earlier was (sym (slice_get-set_other now place k c apart) ∙ stands) in
            record { cut = length more; is = told ∙ ap (λ m. seen before ++ m) (sym (take_all (length more) more (omega arith))) }
        | inr rest ↦ cut_off k before after rest was stands
      ];
}
  where
    cut_off : (k : ℕ) (before after : B) → place ≤ k → slice_get old k ≡ Some before → slice_get (slice_set now place c) k ≡ Some after → GrewByPrefix more (seen before) (seen after)
    cut_off k before after later was stands =
        elim (cases_lt place k) [
          | inl further ↦
              let apart : k ≢ place = omega arith in
              let same : Some before ≡ Some after = sym was ∙ sym (below.others k later) ∙ sym (slice_get-set_other now place k c apart) ∙ stands in
              let is_same : before ≡ after = cc in
              record { cut = 0; is = ap seen (sym is_same) ∙ sym (append-nil (seen before)) }
          | inr rest ↦
              let here : k ≡ place = omega arith in
              let old_is : slice_get old place ≡ Some before = subst (λ i. slice_get old i ≡ Some before) here was in
              let same_before : Some b ≡ Some before = sym is ∙ below.others place (omega arith) ∙ old_is in
              let new_is : Some c ≡ Some after = sym (set_here now place c inside) ∙ subst (λ i. slice_get (slice_set now place c) i ≡ Some after) here stands in
              let b_is : b ≡ before = cc in
              let c_is : c ≡ after = cc in
              record { cut = part.cut; is = sym (ap seen c_is) ∙ part.is ∙ ap (λ x. seen x ++ take part.cut more) b_is }
        ]

-- for the crates above: nothing was told, and what was told in two calls
pub AllGrew-none : {B : Type 0} (seen : B → List Observation) (bs : List B) → AllGrew seen [] bs bs
AllGrew-none seen bs = record {
  same_length = refl;
  each = λ k before after was stands.
      let same : Some before ≡ Some after = sym was ∙ stands in
      let is_same : before ≡ after = cc in
      ap seen (sym is_same) ∙ sym (append-nil (seen before));
}

-- what stands at a place of a list as long as another, where the other has something there
stands-too : {B : Type 0} (xs ys : List B) (k : ℕ) (x : B) → length ys ≡ length xs → slice_get xs k ≡ Some x → (y : B) × (slice_get ys k ≡ Some y)
stands-too xs ys k x same is =
    let inside : k < length ys = omega (arith, slice_get_within xs k x is) in
    (get_or ys k x, slice_get-get_or ys k x inside)

pub AllGrew-then : {B : Type 0} (seen : B → List Observation) (first second : List Observation) (old via new : List B) → AllGrew seen first old via → AllGrew seen second via new → AllGrew seen (first ++ second) old new
AllGrew-then seen first second old via new a b = record {
  same_length = b.same_length ∙ a.same_length;
  each = λ k before after was stands.
      let between = stands-too old via k before a.same_length was in
      b.each k between.0 after between.1 stands ∙ ap (λ l. l ++ second) (a.each k before between.0 was between.1) ∙ append_assoc (seen before) first second;
}

pub AllGrewByPrefix-then : {B : Type 0} (seen : B → List Observation) (first second : List Observation) (old via new : List B)
    → AllGrew seen first old via → AllGrewByPrefix seen second via new → AllGrewByPrefix seen (first ++ second) old new
AllGrewByPrefix-then seen first second old via new a b = record {
  same_length = b.same_length ∙ a.same_length;
  each = λ k before after was stands.
      let between = stands-too old via k before a.same_length was in
      let more = b.each k between.0 after between.1 stands in record {
        cut = length first + more.cut;
        is = more.is ∙ ap (λ l. l ++ take more.cut second) (a.each k before between.0 was between.1) ∙ append_assoc (seen before) first (take more.cut second)
            ∙ ap (λ l. seen before ++ l) (sym (take-append-add first second more.cut));
      };
}

-- a prefix of a list is one of a longer list too
pub AllGrewByPrefix-more : {B : Type 0} (seen : B → List Observation) (first second : List Observation) (old new : List B) → AllGrewByPrefix seen first old new → AllGrewByPrefix seen (first ++ second) old new
AllGrewByPrefix-more seen first second old new a = record {
  same_length = a.same_length;
  each = λ k before after was stands.
      let here = a.each k before after was stands in
      elim (cases_lt (length first) here.cut) [
        | inl past ↦ record {
          cut = length first;
          is = here.is ∙ ap (λ l. seen before ++ l) (take_all here.cut first (omega arith) ∙ sym (take-append-le (length first) first second (omega arith) ∙ take_all (length first) first (omega arith)));
        }
        | inr within ↦ record { cut = here.cut; is = here.is ∙ ap (λ l. seen before ++ l) (sym (take-append-le here.cut first second within)) }
      ];
}

-- whole lists are prefixes
pub AllGrewByPrefix-whole : {B : Type 0} (seen : B → List Observation) (more : List Observation) (old new : List B) → AllGrew seen more old new → AllGrewByPrefix seen more old new
AllGrewByPrefix-whole seen more old new a = record {
  same_length = a.same_length;
  each = λ k before after was stands. record { cut = length more; is = a.each k before after was stands ∙ ap (λ l. seen before ++ l) (sym (take_all (length more) more (omega arith))) };
}
