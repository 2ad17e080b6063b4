-- How an index follows the entries.
use Rattle.std.proofs.Common.{◌≡◌, ℕ, ◌+◌, ◌-◌, ◌≤◌, ◌==◌, Bool, true, false, ◌||◌, if◌then◌else◌, List, [], ◌∷◌, ◌++◌, length, reverse, take, slice_get, Option, Some, None, IfSome, refl, sym, ap, ◌∙◌, subst, arith, length-append}
use Rattle.std.proofs.Math.Seq.{get_or-append_seam, take-append_seam}
use Rattle.std.proofs.lemmas.Bool.{eq-eqb, ne_eqb}
use Rattle.std.proofs.lemmas.List.{reverse-append}
use Rattle.std.proofs.lemmas.Option.{slice_get-get_or}
use Rattle.std.specs.Str.{bytes_eq}
use Rattle.c_types_expressions.specs.declared.index.Index.{Index}
use Rattle.c_types_expressions.specs.declared.index.ScopedMeaning.{ScopedMeaning}
use Rattle.c_types_expressions.specs.declared.names.Meaning.{Meaning}
use Rattle.c_types_expressions.specs.declared.names.ScopeEntry.{ScopeEntry}
use Rattle.c_types_expressions.specs.declared.names.ScopeEntry.TheVariants.{Opens, Declares}
use Rattle.c_types_expressions.specs.Indexed.{IsIndex, IsPopped, IsPushed, IsSame, but_last, declarations, depth_of, last_of, stack_of}
use Rattle.c_types_expressions.specs.Names.{declared_meaning, is_here, or_before}

-- no more scopes are open than there are entries
pub depth_short : (entries : List ScopeEntry) → depth_of entries ≤ length entries
depth_short [] = omega arith
depth_short (Opens ∷ rest) = omega (arith, depth_short rest)
depth_short (Declares name m ∷ rest) = omega (arith, depth_short rest)

pub last_first : {A : Type 0} (xs : List A) (x : A) → reverse (xs ++ x ∷ []) ≡ x ∷ reverse xs
last_first xs x = reverse-append xs (x ∷ [])

last_pushed : (ms : List ScopedMeaning) (m : ScopedMeaning) → last_of (ms ++ m ∷ []) ≡ Some m
last_pushed ms m =
    let e : length (ms ++ m ∷ []) - 1 ≡ length ms = omega (arith, length-append ms (m ∷ [])) in
    ap (slice_get (ms ++ m ∷ [])) e ∙ slice_get-get_or (ms ++ m ∷ []) (length ms) m (omega (arith, length-append ms (m ∷ []))) ∙ ap Some (get_or-append_seam ms m [] m)

but_last_pushed : (ms : List ScopedMeaning) (m : ScopedMeaning) → but_last (ms ++ m ∷ []) ≡ ms
but_last_pushed ms m =
    let e : length (ms ++ m ∷ []) - 1 ≡ length ms = omega (arith, length-append ms (m ∷ [])) in
    ap (λ k. take k (ms ++ m ∷ [])) e ∙ take-append_seam ms (m ∷ [])

abbrev meaning_in : Option ScopedMeaning → Option Meaning
meaning_in None = None
meaning_in (Some m) = Some m.meaning

found_next : (b : Bool) (m : Meaning) (d : ℕ) (before : Option Meaning) (ms : List ScopedMeaning) → before ≡ meaning_in (last_of ms) →
    or_before (if b then Some m else None) before ≡ meaning_in (last_of (if b then ms ++ record { depth = d; meaning = m } ∷ [] else ms))
found_next true m d before ms h = sym (ap meaning_in (last_pushed ms (record { depth = d; meaning = m })))
found_next false m d before ms h = h

found_last : (name : List ℕ) (entries : List ScopeEntry) → declared_meaning name entries ≡ meaning_in (last_of (declarations name entries))
found_last name [] = refl
found_last name (Opens ∷ rest) = found_last name rest
found_last name (Declares other m ∷ rest) = found_next (bytes_eq other name) m (depth_of rest) (declared_meaning name rest) (declarations name rest) (found_last name rest)

pub finds_none : (name : List ℕ) (entries : List ScopeEntry) (index : Index) → IsIndex entries index → last_of (stack_of index.stacks.entries name) ≡ None → None ≡ declared_meaning name entries
finds_none name entries index h is = sym (found_last name entries ∙ ap (λ ms. meaning_in (last_of ms)) (sym (h.stacked name)) ∙ ap meaning_in is)

pub finds_some : (name : List ℕ) (entries : List ScopeEntry) (index : Index) (m : ScopedMeaning) → IsIndex entries index →
    last_of (stack_of index.stacks.entries name) ≡ Some m → Some m.meaning ≡ declared_meaning name entries
finds_some name entries index m h is = sym (found_last name entries ∙ ap (λ ms. meaning_in (last_of ms)) (sym (h.stacked name)) ∙ ap meaning_in is)

abbrev is_at : ℕ → Option ScopedMeaning → Bool
is_at depth None = false
is_at depth (Some m) = m.depth == depth

abbrev IsWithin : ℕ → Option ScopedMeaning → Type 0
IsWithin depth m = IfSome m (λ m. m.depth ≤ depth)

within_more : (depth : ℕ) (m : Option ScopedMeaning) → IsWithin depth m → IsWithin (depth + 1) m
within_more depth None h = tt
within_more depth (Some m) h = omega arith

within_next : (b : Bool) (m : Meaning) (d : ℕ) (ms : List ScopedMeaning) → IsWithin d (last_of ms) →
    IsWithin d (last_of (if b then ms ++ record { depth = d; meaning = m } ∷ [] else ms))
within_next true m d ms h = rw (last_pushed ms (record { depth = d; meaning = m })) (omega arith)
within_next false m d ms h = h

within : (name : List ℕ) (entries : List ScopeEntry) → IsWithin (depth_of entries) (last_of (declarations name entries))
within name [] = tt
within name (Opens ∷ rest) = within_more (depth_of rest) (last_of (declarations name rest)) (within name rest)
within name (Declares other m ∷ rest) = within_next (bytes_eq other name) m (depth_of rest) (declarations name rest) (within name rest)

not_deeper : (depth : ℕ) (m : Option ScopedMeaning) → IsWithin depth m → false ≡ is_at (depth + 1) m
not_deeper depth None h = refl
not_deeper depth (Some m) h = sym (ne_eqb m.depth (depth + 1) (λ e. omega arith))

here_next : (b before : Bool) (m : Meaning) (d : ℕ) (ms : List ScopedMeaning) → before ≡ is_at d (last_of ms) →
    b || before ≡ is_at d (last_of (if b then ms ++ record { depth = d; meaning = m } ∷ [] else ms))
here_next true before m d ms h = sym (ap (is_at d) (last_pushed ms (record { depth = d; meaning = m })) ∙ eq-eqb d d refl)
here_next false before m d ms h = h

here_last : (name : List ℕ) (entries : List ScopeEntry) → is_here name entries ≡ is_at (depth_of entries) (last_of (declarations name entries))
here_last name [] = refl
here_last name (Opens ∷ rest) = not_deeper (depth_of rest) (last_of (declarations name rest)) (within name rest)
here_last name (Declares other m ∷ rest) =
    here_next (bytes_eq other name) (is_here name rest) m (depth_of rest) (declarations name rest) (here_last name rest)

here_at : (name : List ℕ) (entries : List ScopeEntry) (index : Index) → IsIndex entries index →
    is_here name entries ≡ is_at index.depth (last_of (stack_of index.stacks.entries name))
here_at name entries index h =
    here_last name entries ∙ ap (λ d. is_at d (last_of (declarations name entries))) (sym h.numbered)
    ∙ ap (λ ms. is_at index.depth (last_of ms)) (sym (h.stacked name))

pub here_none : (name : List ℕ) (entries : List ScopeEntry) (index : Index) → IsIndex entries index → last_of (stack_of index.stacks.entries name) ≡ None →
    false ≡ is_here name entries
here_none name entries index h is = sym (here_at name entries index h ∙ ap (is_at index.depth) is)

pub here_some : (name : List ℕ) (entries : List ScopeEntry) (index : Index) (m : ScopedMeaning) → IsIndex entries index →
    last_of (stack_of index.stacks.entries name) ≡ Some m → (m.depth == index.depth) ≡ is_here name entries
here_some name entries index m h is = sym (here_at name entries index h ∙ ap (is_at index.depth) is)

declares_bytes : (bytes : List ℕ) (m : Meaning) (entries : List ScopeEntry) (old new : Index) → IsIndex entries old →
    IsPushed bytes (record { depth = old.depth; meaning = m }) old.stacks.entries new.stacks.entries → new.depth ≡ old.depth → IsIndex (Declares bytes m ∷ entries) new
declares_bytes bytes m entries old new h pushed same = record {
  numbered = same ∙ h.numbered;
  stacked = λ other. pushed other
      ∙ ap (λ ms. if bytes_eq bytes other then ms ++ record { depth = old.depth; meaning = m } ∷ [] else ms) (h.stacked other)
      ∙ ap (λ d. if bytes_eq bytes other then declarations other entries ++ record { depth = d; meaning = m } ∷ [] else declarations other entries) h.numbered;
}

pub declares : (bytes name : List ℕ) (m : Meaning) (entries : List ScopeEntry) (old new : Index) → bytes ≡ name → IsIndex entries old →
    IsPushed bytes (record { depth = old.depth; meaning = m }) old.stacks.entries new.stacks.entries → new.depth ≡ old.depth → IsIndex (Declares name m ∷ entries) new
declares bytes name m entries old new is h pushed same = subst (λ b. IsIndex (Declares b m ∷ entries) new) is (declares_bytes bytes m entries old new h pushed same)

pub stays : (entries : List ScopeEntry) (old new : Index) → IsIndex entries old → IsSame old.stacks.entries new.stacks.entries → new.depth ≡ old.depth →
    IsIndex entries new
stays entries old new h kept same = record { numbered = same ∙ h.numbered; stacked = λ name. kept name ∙ h.stacked name }

pub opens : (entries : List ScopeEntry) (old new : Index) → IsIndex entries old → new.stacks ≡ old.stacks → new.depth ≡ old.depth + 1 → IsIndex (Opens ∷ entries) new
opens entries old new h kept more = record {
  numbered = more ∙ ap (λ d. d + 1) h.numbered;
  stacked = λ name. ap (λ s. stack_of s.entries name) kept ∙ h.stacked name;
}

pub closes : (entry : ScopeEntry) (entries : List ScopeEntry) (old new : Index) → IsIndex (entry ∷ entries) old → entry ≡ Opens → new.stacks ≡ old.stacks →
    new.depth ≡ old.depth - 1 → IsIndex entries new
closes entry entries old new h is kept fewer =
    let opened : IsIndex (Opens ∷ entries) old = subst (λ x. IsIndex (x ∷ entries) old) is h in record {
      numbered = fewer ∙ ap (λ d. d - 1) opened.numbered ∙ omega arith;
      stacked = λ name. ap (λ s. stack_of s.entries name) kept ∙ opened.stacked name;
    }

popped_next : (b : Bool) (d : ScopedMeaning) (ms : List ScopedMeaning) → (if b then but_last (if b then ms ++ d ∷ [] else ms) else (if b then ms ++ d ∷ [] else ms)) ≡ ms
popped_next true d ms = but_last_pushed ms d
popped_next false d ms = refl

takes_bytes : (bytes : List ℕ) (m : Meaning) (entries : List ScopeEntry) (old new : Index) → IsIndex (Declares bytes m ∷ entries) old →
    IsPopped bytes old.stacks.entries new.stacks.entries → new.depth ≡ old.depth → IsIndex entries new
takes_bytes bytes m entries old new h popped same = record {
  numbered = same ∙ h.numbered;
  stacked = λ other. popped other
      ∙ ap (λ ms. if bytes_eq bytes other then but_last ms else ms) (h.stacked other)
      ∙ popped_next (bytes_eq bytes other) (record { depth = depth_of entries; meaning = m }) (declarations other entries);
}

pub takes : (bytes name : List ℕ) (m : Meaning) (entry : ScopeEntry) (entries : List ScopeEntry) (old new : Index) → IsIndex (entry ∷ entries) old →
    entry ≡ Declares name m → bytes ≡ name → IsPopped bytes old.stacks.entries new.stacks.entries → new.depth ≡ old.depth → IsIndex entries new
takes bytes name m entry entries old new h is same popped kept =
    takes_bytes bytes m entries old new
    (subst (λ b. IsIndex (Declares b m ∷ entries) old) (sym same) (subst (λ x. IsIndex (x ∷ entries) old) is h)) popped kept

-- the latest entry comes first
pub without_last : (xs ys : List ScopeEntry) (e : ScopeEntry) → xs ≡ ys ++ e ∷ [] → reverse xs ≡ e ∷ reverse ys
without_last xs ys e is = ap reverse is ∙ last_first ys e

pub with_entry : (xs ys zs : List ScopeEntry) (e : ScopeEntry) (index : Index) → zs ≡ ys ++ e ∷ [] → ys ≡ xs → IsIndex (e ∷ reverse xs) index → IsIndex (reverse zs) index
with_entry xs ys zs e index is same h = subst (λ es. IsIndex es index) (sym (without_last zs xs e (is ∙ ap (λ l. l ++ e ∷ []) same))) h

pub seen_with_entry : (xs ys zs seen : List ScopeEntry) (e f : ScopeEntry) → zs ≡ ys ++ e ∷ [] → ys ≡ xs → reverse xs ≡ seen → e ≡ f → reverse zs ≡ f ∷ seen
seen_with_entry xs ys zs seen e f is same view named =
    without_last zs xs e (is ∙ ap (λ l. l ++ e ∷ []) same) ∙ ap (λ l. e ∷ l) view ∙ ap (λ x. x ∷ seen) named
