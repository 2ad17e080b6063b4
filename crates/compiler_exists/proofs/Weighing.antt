-- There are flags of the weighty functions: functions are found until no other one has a site or calls one that was found.
use Rattle.std.proofs.Common.{◌≡◌, ◌⊎◌, inl, inr, ℕ, zero, suc, ◌+◌, ◌<◌, ◌≤◌, Bool, true, false, List, length, map, replicate, set, refl, sym, ap, ◌∙◌, subst, arith, Option, Some, None, slice_get, length-set}
use Rattle.std.specs.Prelude.{slice_index_or}
use Rattle.std.specs.List.{count_by}
use Rattle.std.proofs.lemmas.Bool.{cases_eq, cases_lt, false≢true}
use Rattle.std.proofs.lemmas.List.{length-replicate}
use Rattle.std.proofs.lemmas.List.Sums.{count_by-le-length}
use Rattle.std.proofs.lemmas.Option.{slice_get_past}
use Rattle.regions.proofs.ReachLemmas.{site_within}
use Rattle.regions.proofs.CallerLemmas.{caller_within}
use Rattle.flow.specs.declared.node.View.{View}
use Rattle.flow.specs.declared.node.View.TheVariants.{Calls, Nowhere}
use Rattle.flow.specs.declared.program.Function.{Function}
use Rattle.flow.specs.declared.program.ProgramParts.{ProgramParts}
use Rattle.flow.specs.Words.{view_at, view_in, IsProgram}
use Rattle.regions.specs.Flags.{AreFlags, is_in}
use Rattle.regions.specs.Weighty.{CallsTo, HasSite, IsWeighty, Own, Through}
use Rattle.regions.proofs.FlagLemmas.{count_set, none_set, set_only}

-- it holds, or it doesn't
abbrev Known : Type 0 → Type 0
Known A = A ⊎ (A → ⊥)

-- whether it holds of a number below another one
known_below : (P : ℕ → Type 0) → ((i : ℕ) → Known (P i)) → (n : ℕ) → ((i : ℕ) × (i < n) × P i) ⊎ ((i : ℕ) → i < n → P i → ⊥)
known_below P each zero = inr (λ i low h. omega (arith, low))
known_below P each (suc n) = elim (each n) [
  | inl h ↦ inl (n, omega arith, h)
  | inr none ↦ elim (known_below P each n) [
    | inl found ↦ inl (found.0, omega (arith, found.1), found.2)
    | inr before ↦ inr (λ i low h. elim (cases_eq i n) [
      | inl e ↦ none (subst P e h)
      | inr apart ↦ elim (cases_lt i n) [ inl less ↦ before i less h | inr ge ↦ absurd (apart (omega (arith, ge, low))) ]
    ])
  ]
]

known_flag : (b : Bool) → Known (b ≡ true)
known_flag true = inl refl
known_flag false = inr (λ e. false≢true e)

module _ (p : ProgramParts) where
  -- whether the function has a site
  known_site : (f : ℕ) → Known (HasSite p.sites f)
  known_site f =
      let owners : List ℕ = map (λ s. s.function) p.sites in
      elim (known_below (λ k. slice_index_or owners k f ≡ f) (λ k. cases_eq (slice_index_or owners k f) f) (length owners)) [
        | inl found ↦ inl (found.0, found.1, found.2)
        | inr none ↦ inr (λ has. none has.0 has.1 has.2)
      ]

  module _ (flags : List Bool) where
    -- the view calls a function that was found
    abbrev CallsFound : View → Type 0
    CallsFound v = (g next : ℕ) × (v ≡ Calls g next) × (is_in flags g ≡ true)

    known_view : (v : View) → Known (CallsFound v)
    known_view (Calls g next) = elim (known_flag (is_in flags g)) [
      | inl is ↦ inl (g, next, refl, is)
      | inr not ↦ inr (λ h. not (subst (λ x. is_in flags x ≡ true) (same_callee g next h.0 h.1 h.2) h.3))
    ]
      where
        same_callee : (g next h behind : ℕ) → Calls g next ≡ Calls h behind → h ≡ g
        same_callee g next h behind e = cc
    known_view other = inr (λ h. let e = h.2 in absurd (cc))

    -- whether it calls such a one
    calls_known : (o : Option Function) → ((place : ℕ) × CallsFound (view_in o place)) ⊎ ((place : ℕ) → CallsFound (view_in o place) → ⊥)
    calls_known None = inr (λ place h. let e = h.2 in absurd (cc))
    calls_known (Some f) = elim (known_below (λ place. CallsFound (view_at (slice_get f.nodes place)))
        (λ place. known_view (view_at (slice_get f.nodes place))) (length f.nodes)) [
          | inl found ↦ inl (found.0, found.2)
          | inr none ↦ inr (λ place h. elim (cases_lt place (length f.nodes)) [
            | inl low ↦ none place low h
            | inr ge ↦
                let nothing : slice_get f.nodes place ≡ None = slice_get_past f.nodes place (omega (arith, ge)) in
                let gone : Nowhere ≡ Calls h.0 h.1 = sym (ap view_at nothing) ∙ h.2 in
                absurd (cc)
          ])
        ]

    -- a function that is to be found yet
    abbrev Missing : ℕ → Type 0
    Missing f = (is_in flags f ≡ false) × (HasSite p.sites f ⊎ ((g : ℕ) × CallsTo p.functions f g × (is_in flags g ≡ true)))

    known_reason : (f : ℕ) → Known (HasSite p.sites f ⊎ ((g : ℕ) × CallsTo p.functions f g × (is_in flags g ≡ true)))
    known_reason f = elim (known_site f) [
      | inl has ↦ inl (inl has)
      | inr without ↦ elim (calls_known (slice_get p.functions f)) [
        | inl found ↦ inl (inr (found.1.0, record { place = found.0; next = found.1.1; is = found.1.2 }, found.1.3))
        | inr none ↦ inr (λ h. elim h [ inl has ↦ without has | inr calls ↦ none calls.1.place (calls.0, calls.1.next, calls.1.is, calls.2) ])
      ]
    ]

    known_missing : (f : ℕ) → Known (Missing f)
    known_missing f = by_flag (is_in flags f) refl
      where
        by_flag : (b : Bool) → is_in flags f ≡ b → Known (Missing f)
        by_flag true e = inr (λ h. false≢true (sym h.0 ∙ e))
        by_flag false e = elim (known_reason f) [ inl why ↦ inl (e, why) | inr none ↦ inr (λ h. none h.1) ]

  -- all that were found are weighty
  pub record Sound (flags : List Bool) : Type 0 where
    pub few : length flags ≡ length p.functions
    pub weighty : (f : ℕ) → is_in flags f ≡ true → IsWeighty p f

  found_weighty : (flags : List Bool) (f : ℕ) → Sound flags → Missing flags f → IsWeighty p f
  found_weighty flags f sound h = elim h.1 [ inl has ↦ Own has | inr calls ↦ Through calls.1 (sound.weighty calls.0 calls.2) ]

  found_more : (flags : List Bool) (f : ℕ) → Sound flags → f < length p.functions → Missing flags f → Sound (set flags f true)
  found_more flags f sound low h = record {
    few = length-set flags f true ∙ sound.few;
    weighty = λ g is. elim (set_only flags f g is) [ inl e ↦ subst (IsWeighty p) (sym e) (found_weighty flags f sound h) | inr old ↦ sound.weighty g old ];
  }

  -- flags from which nothing is missing
  pub record Closed (flags : List Bool) : Type 0 where
    pub sound : Sound flags
    pub none : (f : ℕ) → f < length p.functions → Missing flags f → ⊥

  abbrev count : List Bool → ℕ
  count flags = count_by (λ flag. flag) flags

  close : (fuel : ℕ) (flags : List Bool) → Sound flags → length p.functions ≤ count flags + fuel → (all : List Bool) × Closed all
  close zero flags sound enough = elim (known_below (Missing flags) (known_missing flags) (length p.functions)) [
    | inl found ↦
        let more : Sound (set flags found.0 true) = found_more flags found.0 sound found.1 found.2 in
        let grown : count (set flags found.0 true) ≡ count flags + 1 = count_set flags found.0 (omega (arith, found.1, sound.few)) found.2.0 in
        absurd (omega (arith, grown, count_by-le-length (λ flag. flag) (set flags found.0 true), more.few, enough))
    | inr none ↦ (flags, record { sound = sound; none = none })
  ]
  close (suc fuel) flags sound enough = elim (known_below (Missing flags) (known_missing flags) (length p.functions)) [
    | inl found ↦
        let grown : count (set flags found.0 true) ≡ count flags + 1 = count_set flags found.0 (omega (arith, found.1, sound.few)) found.2.0 in
        close fuel (set flags found.0 true) (found_more flags found.0 sound found.1 found.2) (omega (arith, grown, enough))
    | inr none ↦ (flags, record { sound = sound; none = none })
  ]

  closed : (all : List Bool) × Closed all
  closed =
      close (length p.functions) (replicate (length p.functions) false)
      (record { few = length-replicate (length p.functions) false; weighty = λ f is. absurd (none_set (length p.functions) f is) }) (omega arith)

  reached_by : (flags : List Bool) (f : ℕ) (b : Bool) → Closed flags → f < length p.functions → is_in flags f ≡ b →
      HasSite p.sites f ⊎ ((g : ℕ) × CallsTo p.functions f g × (is_in flags g ≡ true)) → is_in flags f ≡ true
  reached_by flags f true c low e why = e
  reached_by flags f false c low e why = absurd (c.none f low (e, why))

  complete : (flags : List Bool) → IsProgram p → Closed flags → {f : ℕ} → IsWeighty p f → is_in flags f ≡ true
  complete flags is c (Own {function} h) = reached_by flags function (is_in flags function) c (site_within p function is h) refl (inl h)
  complete flags is c (Through {function} {callee} calls w) =
      reached_by flags function (is_in flags function) c (caller_within p.functions function callee calls) refl (inr (callee, calls, complete flags is c w))

  pub weighty_flags : IsProgram p → (flags : List Bool) × AreFlags (length p.functions) (IsWeighty p) flags
  weighty_flags is = (
    closed.0,
    record {
      few = closed.1.sound.few;
      each = λ f. (closed.1.sound.weighty f, λ w. complete closed.0 is closed.1 w);
    },
  )
