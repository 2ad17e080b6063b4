-- How far runs by a plan have come.
use Rattle.std.proofs.Common.{◌≡◌, ◌≤◌, ◌<◌, ◌+◌, ◌*◌, ◌⊎◌, inl, inr, ℕ, List, [], ◌∷◌, ◌++◌, length, Option, None, ap, sym, refl, subst, ◌∙◌, arith, length-append}
use Rattle.cbi_base.specs.declared.identity.ProgramId.{ProgramId}
use Rattle.cbi_base.specs.declared.observation.Observation.{Observation}
use Rattle.cbi_base.specs.declared.outcome.Outcome.{Outcome}
use Rattle.cbi_base.specs.declared.outcome.Outcome.TheVariants.{Ended, Trapped, CutTurns, CutOutput}
use Rattle.cbi_base.specs.declared.refusal.Refusal.{Refusal}
use Rattle.cbi_base.specs.declared.refusal.Refusal.TheVariants.{TooManyMarks}
use Rattle.cbi_base.specs.Words.{CountHasRisen, Held as Store}
use Rattle.collector.specs.declared.collection.Held.{Held}
use Rattle.collector.specs.Collected.{mark_limit, marks_of, report_at, report_limit, with_report}
use Rattle.collector.specs.Sites.{branches_of}
use Rattle.command_base.specs.declared.fault.Fault.{Fault}
use Rattle.command_base.specs.declared.fault.Fault.TheVariants as fault
use Rattle.command_base.specs.Faults.{HasCause, IfReadFault, Precedes}
use Rattle.command_base.specs.Names.{IsOneOf}
use Rattle.flow.specs.declared.program.ProgramParts.{ProgramParts}
use Rattle.probes.specs.Told.{AllGrew}
use Rattle.probes.proofs.Growing.{AllGrew-none, AllGrew-then, AllGrewByPrefix-then}
use Rattle.report_file.specs.declared.label.Label.{Label}
use Rattle.report_file.specs.declared.label.Label.TheVariants.{Fail, Pass, Uncounted}
use Rattle.report_file.specs.Report.{greatest_count}
use Rattle.planned_runs.specs.declared.input.RunInput.{RunInput}
use Rattle.planned_runs.specs.declared.labels.LabelCounts.{LabelCounts}
use Rattle.planned_runs.specs.declared.one_run.Ran.{Ran}
use Rattle.planned_runs.specs.declared.runs.PlannedRuns.{PlannedRuns}
use Rattle.planned_runs.specs.declared.sums.Sums.{Sums}
use Rattle.planned_runs.specs.Labels.{counts_as_failed, counts_as_neither, counts_as_succeeded, labels_of, with_counted}
use Rattle.planned_runs.specs.Left.{HasPlanStopped, HavePlannedRun, IsNextUnread, LeftByPlan, PlanRefusedBy, ToldBeforeRefused, ToldWithCrowding}
use Rattle.planned_runs.specs.Runs.{ArePlannedRuns, IsPlannedRun, JudgedRun, all_seen, endings_of, marks_in, names_from, planned_report, planned_reports}
use Rattle.planned_runs.specs.Steps.{HasEnded, IsGivenCrowding, IsGivenStopped, IsNextHeld, IsNotGiven, IsNotRead, IsOfProgram, NextFailed, RunStopped}
use Rattle.planned_runs.specs.Sums.{is_cut, is_ended, is_trapped, one_if, sums_of, sums_with_run}
use Rattle.planned_runs.proofs.Lists.{labels_more, length_reports, marks_more, marks_same, none_at, planned_more, planned_seen_more, reports_more, sums_more, with_last}
use Rattle.planned_runs.proofs.Names.{one-of-all}

-- the collection of these runs
abbrev pub collected : ProgramParts → ProgramId → ℕ → List JudgedRun → Held
collected p id first runs = record { program = id; branches = branches_of p.sites; reports = planned_reports p id first runs }

-- a run trapped, ended or was cut
one_of : (o : Outcome) → one_if (is_trapped o) + one_if (is_ended o) + one_if (is_cut o) ≡ 1
one_of (Ended status) = refl
one_of (Trapped trap) = refl
one_of CutTurns = refl
one_of CutOutput = refl

-- it failed, succeeded or counts as neither
one_label : (l : Label) → one_if (counts_as_failed l) + one_if (counts_as_succeeded l) + one_if (counts_as_neither l) ≡ 1
one_label Fail = refl
one_label Pass = refl
one_label Uncounted = refl

-- the numbers of so many runs are small
pub record AreSmall (done : ℕ) (s : Sums) (l : LabelCounts) : Type 0 where
  pub runs : s.failed + s.ended + s.cut ≡ done
  pub fast : s.fast ≤ done * greatest_count
  pub slow : s.slow ≤ done * greatest_count
  pub tests : s.tests ≤ done * greatest_count
  pub labels : l.failed + l.succeeded + l.neither ≡ done

module _ {B : Type 0} (p : ProgramParts) (id : ProgramId) (gives : ℕ → RunInput → Type 0) (first count turns : ℕ) (told : B → List Observation) (before : List B) where
  -- so many runs ended, and their reports are held
  pub record HaveCome (done : ℕ) (c : Held) (s : Sums) (l : LabelCounts) (now : List B) : Type 0 where
    pub runs : List JudgedRun
    pub as_many : length runs ≡ done
    pub are : ArePlannedRuns p gives turns first runs
    pub collection : c ≡ collected p id first runs
    pub sums : s ≡ sums_of (endings_of runs)
    pub labels : l ≡ labels_of runs
    pub few : marks_in p (endings_of runs) ≤ mark_limit
    pub grew : AllGrew told (all_seen (endings_of runs)) before now
    pub small : AreSmall done s l

  pub begun : (c : Held) (s : Sums) (l : LabelCounts) → c ≡ collected p id first [] → s ≡ sums_of [] → l ≡ labels_of [] → HaveCome 0 c s l before
  begun c s l collection_is sums_are labels_are = record {
    runs = [];
    as_many = refl;
    are = tt;
    collection = collection_is;
    sums = sums_are;
    labels = labels_are;
    few = omega arith;
    grew = AllGrew-none told before;
    small = subst (λ x. AreSmall 0 x l) (sym sums_are) (subst (AreSmall 0 (sums_of [])) (sym labels_are)
        (record { runs = refl; fast = omega arith; slow = omega arith; tests = omega arith; labels = refl }));
  }

  -- all of them have
  pub come-all : (done : ℕ) (c : Held) (s : Sums) (l : LabelCounts) (now : List B) (r : PlannedRuns) → done ≡ count → r.collection ≡ c → r.sums ≡ s → r.labels ≡ l
      → HaveCome done c s l now → HavePlannedRun p gives first count turns told before now id r
  come-all done c s l now r all collection_is sums_are labels_are come =
      let whole : r.collection ≡ collected p id first come.runs = collection_is ∙ come.collection in
      record {
        runs = come.runs;
        as_many = come.as_many ∙ all;
        are = come.are;
        program = ap (λ (x : Held). x.program) whole;
        branches = ap (λ (x : Held). x.branches) whole;
        reports = ap (λ (x : Held). x.reports) whole;
        sums = sums_are ∙ come.sums;
        labels = labels_are ∙ come.labels;
        few = come.few;
        grew = come.grew;
      }

  module _ (done number : ℕ) (c : Held) (s : Sums) (l : LabelCounts) (now later : List B) (come : HaveCome done c s l now) (next : number ≡ first + done) where
    abbrev rs : List JudgedRun
    rs = come.runs

    place : number ≡ first + length rs
    place = omega (arith, next, come.as_many)

    module _ (on : RunInput) (given : gives number on) where
      is_next : (r : JudgedRun) → HasEnded p id number turns told now later on r → IsPlannedRun p gives turns (first + length rs) r
      is_next r h = subst (λ n. IsPlannedRun p gives turns n r) place (record { on = on; given = given; ends = h.ends; right_is = h.right_is })

      runs_are : (r : JudgedRun) → HasEnded p id number turns told now later on r → ArePlannedRuns p gives turns first (rs ++ r ∷ [])
      runs_are r h = planned_more p gives turns first rs r come.are (is_next r h)

      all_grew : (r : JudgedRun) → HasEnded p id number turns told now later on r → AllGrew told (all_seen (endings_of (rs ++ r ∷ []))) before later
      all_grew r h =
          subst (λ more. AllGrew told more before later) (sym (planned_seen_more rs r)) (AllGrew-then told (all_seen (endings_of rs)) r.ending.seen before now later come.grew h.grew)

    marks_are : marks_of c.reports ≡ marks_in p (endings_of rs)
    marks_are = ap (λ (x : Held). marks_of x.reports) come.collection ∙ marks_same p id first rs

    all_marks : (r : JudgedRun) → marks_of c.reports + length (planned_report p id number r).entries ≡ marks_in p (endings_of (rs ++ r ∷ []))
    all_marks r = ap (λ n. n + length (planned_report p id number r).entries) marks_are ∙ sym (marks_more p rs r)

    pub absent : report_at number c.reports ≡ None
    absent = ap (λ (x : Held). report_at number x.reports) come.collection ∙ none_at p id first number rs (omega (arith, place))

    pub own : IsOfProgram p id c
    own = record { program = ap (λ (x : Held). x.program) come.collection; branches = ap (λ (x : Held). x.branches) come.collection }

    pub room : done < count → count ≤ report_limit → length c.reports < report_limit
    room more few = omega (arith, come.as_many, ap (λ (x : Held). length x.reports) come.collection, length_reports p id first rs)

    module _ (ran : Ran) (held : Held) (h : IsNextHeld p id number turns told now later gives ran c held) where
      abbrev r : JudgedRun
      r = h.is.run

      collection_after : held ≡ collected p id first (rs ++ r ∷ [])
      collection_after =
          h.is.holds.held_is
          ∙ ap (λ (x : Held). let y : Held = record x { reports = with_report (planned_report p id number r) x.reports } in y) come.collection
          ∙ ap (λ l. let y : Held = record { program = id; branches = branches_of p.sites; reports = l } in y)
          (with_last p id first (planned_report p id number r) rs (omega (arith, place)) ∙ ap (λ n. planned_reports p id first rs ++ planned_report p id n r ∷ []) place
          ∙ sym (reports_more p id first rs r))

      goes : HaveCome (done + 1) held (sums_with_run ran.outcome ran.work s) (with_counted ran.label l) later
      goes = record {
        runs = rs ++ r ∷ [];
        as_many = omega (arith, length-append rs (r ∷ []), come.as_many);
        are = runs_are h.on h.given r h.is.ended;
        collection = collection_after;
        sums = ap (λ o. sums_with_run o ran.work s) h.is.outcome ∙ ap (λ w. sums_with_run r.ending.outcome w s) h.is.work ∙ ap (sums_with_run r.ending.outcome r.ending.work) come.sums ∙ sym (sums_more rs r);
        labels = ap (λ x. with_counted x l) h.is.label ∙ ap (with_counted _) come.labels ∙ sym (labels_more rs r);
        few = subst (λ n. n ≤ mark_limit) (all_marks r) h.is.holds.few;
        grew = all_grew h.on h.given r h.is.ended;
        small = record {
          runs = omega (arith, one_of ran.outcome, come.small.runs);
          fast = omega (arith, come.small.fast, h.is.is_work.fast);
          slow = omega (arith, come.small.slow, h.is.is_work.slow);
          tests = omega (arith, come.small.tests, h.is.is_work.tests);
          labels = omega (arith, one_label ran.label, come.small.labels);
        };
      }

    pub goes_on : (ran : Ran) (held : Held) (t : Sums) (m : LabelCounts) → t ≡ sums_with_run ran.outcome ran.work s → m ≡ with_counted ran.label l
        → IsNextHeld p id number turns told now later gives ran c held → HaveCome (done + 1) held t m later
    goes_on ran held t m t_is m_is h =
        subst (λ x. HaveCome (done + 1) held t x later) (sym m_is) (subst (λ x. HaveCome (done + 1) held x (with_counted ran.label l) later) (sym t_is) (goes ran held h))

    unmoved : later ≡ now → AllGrew told (all_seen (endings_of rs)) before later
    unmoved same = subst (λ bs. AllGrew told (all_seen (endings_of rs)) before bs) (sym same) come.grew

    unread : (names : ℕ → List (List ℕ)) (name : List ℕ) → done < count → IsNotRead p id number turns told now later gives names name
        → IsNextUnread p gives first count turns told before later names name
    unread names name more h = record {
      earlier = rs;
      within = omega (arith, come.as_many, more);
      are = come.are;
      few = come.few;
      is = subst (λ n. IsOneOf (names n) name) place h.is;
      grew = unmoved h.same;
    }

    not_given : (refuses : ℕ → Refusal → Type 0) (refusal : Refusal) → done < count → IsNotGiven p id number turns told now later gives refuses refusal
        → ToldBeforeRefused p gives first count turns told before later refuses refusal
    not_given refuses refusal more h = record {
      is = record {
        earlier = rs;
        within = omega (arith, come.as_many, more);
        are = come.are;
        few = come.few;
        refused = subst (λ n. refuses n refusal) place h.refused;
      };
      grew = unmoved h.same;
    }

    crowded : (refusal : Refusal) → done < count → IsGivenCrowding p id number turns told now later gives c refusal → ToldWithCrowding p gives first count turns told before later refusal
    crowded refusal more h = record {
      is = record {
        earlier = rs;
        last = h.is.run;
        within = omega (arith, come.as_many, more);
        are = runs_are h.on h.given h.is.run h.is.ended;
        few = come.few;
        many = subst (λ n. mark_limit < n) (all_marks h.is.run) h.is.many;
        refusal_is = h.is.refusal_is ∙ ap TooManyMarks place;
      };
      grew = all_grew h.on h.given h.is.run h.is.ended;
    }

    begun_stopped : (on : RunInput) → gives number on → done < count → RunStopped p id number turns told now later on → HasPlanStopped p gives first count turns told before later
    begun_stopped on given more (inl broke) = record {
      done = rs;
      few = omega (arith, come.as_many, more);
      are = come.are;
      left = inr (record {
        within = omega (arith, come.as_many, more);
        on = on;
        given = subst (λ n. gives n on) place given;
        grew = λ ending ends. AllGrewByPrefix-then told (all_seen (endings_of rs)) ending.seen before now later come.grew (broke.grew ending ends);
      });
    }
    begun_stopped on given more (inr (r, h)) = record {
      done = rs ++ r ∷ [];
      few = omega (arith, length-append rs (r ∷ []), come.as_many, more);
      are = runs_are on given r h;
      left = inl (all_grew on given r h);
    }

    stopped : done < count → (later ≡ now) ⊎ IsGivenStopped p id number turns told now later gives → HasPlanStopped p gives first count turns told before later
    stopped more (inl same) = record {
      done = rs;
      few = omega (arith, come.as_many, more);
      are = come.are;
      left = inl (unmoved same);
    }
    stopped more (inr h) = begun_stopped h.on h.given more h.is

    pub left : (names : ℕ → List (List ℕ)) (refuses : ℕ → Refusal → Type 0) (e : Fault) → done < count → NextFailed p id number turns told now later gives names refuses c e
        → LeftByPlan p gives first count turns told before later names refuses e
    left names refuses (fault.Read name) more h = unread names name more h
    left names refuses fault.Write more h = absurd h
    left names refuses (fault.Refused refusal) more (inl h) = inl (not_given refuses refusal more h)
    left names refuses (fault.Refused refusal) more (inr h) = inr (crowded refusal more h)
    left names refuses fault.Memory more h = stopped more h

    -- and why
    pub caused : (names : ℕ → List (List ℕ)) (refuses : ℕ → Refusal → Type 0) (rose : Type 0) (e : Fault) → done < count → NextFailed p id number turns told now later gives names refuses c e
        → IfReadFault e (λ name. rose) → HasCause e (λ name. IsOneOf (names_from names first count) name × rose) ⊥ (PlanRefusedBy p gives first count turns refuses)
    caused names refuses rose (fault.Read name) more h r = (one-of-all names first done count more name (subst (λ n. IsOneOf (names n) name) next h.is), r)
    caused names refuses rose fault.Write more h r = absurd h
    caused names refuses rose (fault.Refused refusal) more (inl h) r = inl (not_given refuses refusal more h).is
    caused names refuses rose (fault.Refused refusal) more (inr h) r = inr (crowded refusal more h).is
    caused names refuses rose fault.Memory more h r = tt

    pub precedes : (names : ℕ → List (List ℕ)) (refuses : ℕ → Refusal → Type 0) (e : Fault) → NextFailed p id number turns told now later gives names refuses c e → Precedes e
    precedes names refuses fault.Write h = absurd h
    precedes names refuses e h = tt

-- what is said of a program and a store is said of the same ones
module _ {B : Type 0} (p q : ProgramParts) (id : ProgramId) (number turns : ℕ) (told : B → List Observation) (before after : List B) (gives : Option Store → ℕ → RunInput → Type 0)
    (was now : Option Store) (same : p ≡ q) (holds : was ≡ now) where
  pub made-as : (ran : Ran) (c d : Held) → IsNextHeld p id number turns told before after (gives was) ran c d → IsNextHeld q id number turns told before after (gives now) ran c d
  made-as ran c d h =
      subst (λ x. IsNextHeld x id number turns told before after (gives now) ran c d) same (subst (λ x. IsNextHeld p id number turns told before after (gives x) ran c d) holds h)

  pub failed-as : (names : ℕ → List (List ℕ)) (refuses : Option Store → ℕ → Refusal → Type 0) (c : Held) (e : Fault)
      → NextFailed p id number turns told before after (gives was) names (refuses was) c e → NextFailed q id number turns told before after (gives now) names (refuses now) c e
  failed-as names refuses c e h =
      subst (λ x. NextFailed x id number turns told before after (gives now) names (refuses now) c e) same
      (subst (λ x. NextFailed p id number turns told before after (gives x) names (refuses x) c e) holds h)

-- what rose since was lower before
pub rose-before : (a b c : ℕ) → a ≤ b → CountHasRisen b c → CountHasRisen a c
rose-before a b c less rose = omega (arith, less, rose)
