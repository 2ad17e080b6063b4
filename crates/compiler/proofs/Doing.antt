-- From programs that mean a text to ones that do what it means, by a plan.
use Rattle.std.proofs.Common.{All, ◌≡◌, ◌⊎◌, inl, inr, ◌≢◌, ◌≤◌, ◌+◌, ◌*◌, ℕ, suc, arith, refl, sym, ◌∙◌, ap, ap₂, subst, List, [], ◌∷◌, length, map, slice_get, Option, None, Some, Result, Ok, Err}
use Rattle.std.specs.Prelude.{IfOk}
use Rattle.cbi_base.specs.declared.observation.Observation.{Observation}
use Rattle.cbi_base.specs.declared.outcome.Outcome.TheVariants.{Trapped}
use Rattle.cbi_base.specs.declared.trap.Trap.TheVariants.{Internal}
use Rattle.c_syntax.specs.Words.{SourceTree, most_tokens, tree_kinds}
use Rattle.c_types_expressions.specs.declared.walk.Walk.{Walk}
use Rattle.c_meaning.specs.Texts.{source_of, text_meaning}
use Rattle.flow.specs.declared.program.Function.{Function}
use Rattle.flow.specs.declared.program.ProgramParts.{ProgramParts}
use Rattle.flow.specs.declared.site.Site.{Site}
use Rattle.flow.specs.declared.site.TableParts.{TableParts}
use Rattle.flow.specs.Words.{counts_of, site_limit, table_of, samples, ArePlain, IsReady}
use Rattle.lower_relation.specs.Functions.{ending_of}
use Rattle.flow.specs.declared.choice.Schemes.{Schemes}
use Rattle.sites.specs.Table.{sites_of}
use Rattle.clone_paths.specs.Cloned.{Cloned, MayClone}
use Rattle.sampling.specs.Runs.{RunsLike, Samples}
use Rattle.flow.specs.declared.choice.Part.{Part}
use Rattle.program_parts.specs.Part.{part_of, part_visits}
use Rattle.program_parts.specs.Program.{part_table}
use Rattle.program_parts.specs.Runs.{RunsInPart, part_ending}
use Rattle.lower.specs.Means.{MeansText}
use Rattle.lower.specs.Programs.{node_count}
use Rattle.compiler.specs.Accepted.{IsAccepted}
use Rattle.compiler.specs.declared.plan.Plan.{Plan}
use Rattle.compiler.specs.declared.plan.Plan.TheVariants as plan
use Rattle.compiler.specs.Compiled.{DoesPlan}
use Rattle.compiler.specs.Does.{DoesText, EndsAs, HasFewNodes, SamplesText}
use Rattle.compiler.specs.Kept.{kept_visits}
use Rattle.compiler.specs.Planned.{part_in, planned_sites}

-- no run of the text comes to a fault of its own
abbrev pub NeverFaults : SourceTree → Walk → List Site → Type 0
NeverFaults tree known table = (input : List ℕ) (turns : ℕ) → (text_meaning tree known table input turns).outcome ≢ Trapped Internal

module _ (tree : SourceTree) (known : Walk) (table : List Site) where
  full_does : (p : ProgramParts) → MeansText (source_of tree known table) p → p.sites ≡ table → NeverFaults tree known table → HasFewNodes tree table p → DoesText tree known table None p
  full_does p means sites never few = record {
    sites = sites;
    ends = λ input bank turns. record {
      ending = ending_of (text_meaning tree known table input turns);
      ends = means.ends input bank turns;
      goes = record { outcome = refl; output = refl; seen_is = refl; counts = refl };
    };
    never = never;
    few = few;
  }

  -- a run of the program with a part of the sites beside one of the whole one
  kept_ends : (part : Part) (p q : ProgramParts) (input : List ℕ) (bank : ℕ → ℕ) (turns : ℕ) → RunsInPart part p q → NeverFaults tree known table →
      EndsAs p input bank turns (text_meaning tree known table input turns) (text_meaning tree known table input turns).seen →
      EndsAs q input bank turns (text_meaning tree known table input turns) (part_visits part (text_meaning tree known table input turns).seen)
  kept_ends part p q input bank turns runs never e =
      let same = ap (part_visits part) e.goes.seen_is in
      record {
        ending = part_ending part e.ending;
        ends = runs.there input bank turns e.ending e.ends (λ faulty. never input turns (sym e.goes.outcome ∙ faulty));
        goes = record { outcome = e.goes.outcome; output = e.goes.output; seen_is = same; counts = ap (counts_of q.sites) same };
      }

  kept_does : (part : Part) (p q : ProgramParts) → DoesText tree known table None p → table_of q ≡ part_table part (table_of p) → node_count q.functions ≡ node_count p.functions
      → RunsInPart part p q → DoesText tree known table (Some part) q
  kept_does part p q does made few runs = record {
    sites = ap (λ (t : TableParts). t.sites) made ∙ ap (part_of part) does.sites;
    ends = λ input bank turns. kept_ends part p q input bank turns runs does.never (does.ends input bank turns);
    never = does.never;
    few = omega (arith, few, does.few);
  }

module _ (tree : SourceTree) (known : Walk) (table : List Site) (part : Option Part) where
  -- what the sites of a program that keeps the part see
  abbrev seen_by : List ℕ → ℕ → List Observation
  seen_by input turns = kept_visits part (text_meaning tree known table input turns).seen

  -- a run of the sampled program beside one of the full one
  like : (p q : ProgramParts) (input : List ℕ) (bank : ℕ → ℕ) (turns : ℕ) → q.sites ≡ p.sites →
      (e : EndsAs p input bank turns (text_meaning tree known table input turns) (seen_by input turns)) →
      RunsLike p q input bank turns e.ending →
      EndsAs q input bank turns (text_meaning tree known table input turns) (samples bank (seen_by input turns))
  like p q input bank turns sites e run =
      let same = ap (samples bank) e.goes.seen_is in
      record {
        ending = run.ending;
        ends = run.ends;
        goes = record {
          outcome = run.is_sample.outcome ∙ e.goes.outcome;
          output = run.is_sample.output ∙ e.goes.output;
          seen_is = run.is_sample.seen ∙ same;
          counts = run.counts ∙ ap (counts_of p.sites) same
              ∙ ap (λ (s : List Site). counts_of s (samples bank (seen_by input turns))) (sym sites);
        };
      }

  pub sampled_does : (p q : ProgramParts) → DoesText tree known table part p → Cloned p q → Samples p q → SamplesText tree known table part q
  sampled_does p q does cloned run = record {
    full = p;
    does = does;
    cloned = cloned;
    sites = cloned.sites ∙ does.sites;
    ends = λ input bank turns positive.
        let e = does.ends input bank turns in
        like p q input bank turns cloned.sites e
        (run input bank turns e.ending positive e.ends (λ internal. does.never input turns (sym e.goes.outcome ∙ internal)));
  }

-- a sampled program's runs are samples where the full one is ready
pub when_ready : {E : Type 0} (p : ProgramParts) (r : Result ProgramParts E) → IfOk r (λ q. IsReady p → Samples p q) → IsReady p → IfOk r (Samples p)
when_ready p (Ok q) run ready = run ready
when_ready p (Err e) run ready = tt

-- so is the answer in sampled mode, where there is one
pub sampled_result : {E : Type 0} (by : Plan) (schemes : Schemes) (part : Option Part) (tree : SourceTree) (known : Walk) (p : ProgramParts) (r : Result ProgramParts E)
    → by ≡ plan.Sampled schemes part → DoesText tree known (planned_sites by tree known) (part_in by) p → IfOk r (Cloned p) → IfOk r (Samples p) → IfOk r (DoesPlan by tree known)
sampled_result by schemes part tree known p (Ok q) is does cloned run =
    subst (λ (k : Plan). DoesPlan k tree known q) (sym is)
    (sampled_does tree known (sites_of tree known schemes) part p q (subst (λ (k : Plan). DoesText tree known (planned_sites k tree known) (part_in k) p) is does) cloned run)
sampled_result by schemes part tree known p (Err e) is does cloned run = tt

-- a program that isn't sampled does what the plan says, which is another one
pub full_result : (by : Plan) (tree : SourceTree) (known : Walk) (p : ProgramParts) → (by ≡ plan.Plain) ⊎ ((schemes : Schemes) × (part : Option Part) × (by ≡ plan.Full schemes part))
    → DoesText tree known (planned_sites by tree known) (part_in by) p → DoesPlan by tree known p
full_result plan.Plain tree known p other does = does
full_result (plan.Full schemes part) tree known p other does = does
full_result (plan.Sampled schemes part) tree known p (inl other) does = absurd cc
full_result (plan.Sampled schemes part) tree known p (inr other) does = let e = other.2 in absurd cc

-- the answer where a part is taken of a program
pub kept_result : {E : Type 0} (part : Part) (tree : SourceTree) (known : Walk) (table : List Site) (p : ProgramParts) (r : Result ProgramParts E) → DoesText tree known table None p
    → IfOk r (λ q. table_of q ≡ part_table part (table_of p)) → IfOk r (λ q. node_count q.functions ≡ node_count p.functions) → IfOk r (λ q. IsReady p → RunsInPart part p q) → IsReady p
    → IfOk r (DoesText tree known table (Some part))
kept_result part tree known table p (Ok q) does made few runs ready = kept_does tree known table part p q does made few (runs ready)
kept_result part tree known table p (Err e) does made few runs ready = tt

-- its functions keep their names, it may be sampled, and is ready
pub part_names : {E : Type 0} (part : Part) (p : ProgramParts) (r : Result ProgramParts E) → IfOk r (λ q. table_of q ≡ part_table part (table_of p))
    → IfOk r (λ q. (table_of q).functions ≡ (table_of p).functions)
part_names part p (Ok q) made = ap (λ (t : TableParts). t.functions) made
part_names part p (Err e) made = tt

pub part_clones : {E : Type 0} (p : ProgramParts) (r : Result ProgramParts E) → IfOk r (λ q. All (λ (f : Function). ArePlain f.nodes) q.functions)
    → IfOk r (λ q. node_count q.functions ≡ node_count p.functions) → MayClone p → IfOk r MayClone
part_clones p (Ok q) plain few may = record { plain = plain; few = omega (arith, few, may.few) }
part_clones p (Err e) plain few may = tt

pub part_ready : {E : Type 0} (p : ProgramParts) (r : Result ProgramParts E) → IfOk r (λ q. IsReady p → IsReady q) → IsReady p → IfOk r IsReady
part_ready p (Ok q) stays ready = stays ready
part_ready p (Err e) stays ready = tt

abbrev names_of : List Function → List (List ℕ)
names_of fs = map (λ (f : Function). f.name) fs

names_same : (fs gs : List Function) → length gs ≡ length fs
    → ((number : ℕ) (f g : Function) → slice_get fs number ≡ Some f → slice_get gs number ≡ Some g → g.name ≡ f.name) → names_of gs ≡ names_of fs
names_same [] [] same each = refl
names_same [] (g ∷ gs) same each = absurd (omega arith)
names_same (f ∷ fs) [] same each = absurd (omega arith)
names_same (f ∷ fs) (g ∷ gs) same each =
    ap₂ (λ n ns. n ∷ ns) (each 0 f g refl refl) (names_same fs gs (omega arith) (λ number x y p q. each (suc number) x y p q))

-- the functions of a sampled program have the names of the full one's
pub kept_names : {E : Type 0} (p : ProgramParts) (r : Result ProgramParts E) → IfOk r (Cloned p) → IfOk r (λ q. (table_of q).functions ≡ (table_of p).functions)
kept_names p (Ok q) cloned = names_same p.functions q.functions cloned.functions.few (λ number f g x y. (cloned.functions.each number f g x y).name)
kept_names p (Err e) cloned = tt

-- the nodes are few beside the sites of the table, which are the plan's
pub few_beside : (tree : SourceTree) (table : TableParts) (sites : List Site) (p : ProgramParts) → table.sites ≡ sites
    → node_count p.functions ≤ 16 * length (tree_kinds tree) + length table.sites → HasFewNodes tree sites p
few_beside tree table sites p planned few = omega (arith, few, ap length planned)

-- a program of few nodes may be sampled: a text has at most 100,000 tokens, and a table 65,536 sites
pub may_clone : (tree : SourceTree) (sites : List Site) (p : ProgramParts) → All (λ (f : Function). ArePlain f.nodes) p.functions → HasFewNodes tree sites p
    → length (tree_kinds tree) ≤ most_tokens → length sites ≤ site_limit → MayClone p
may_clone tree sites p plain few tokens short = record { plain = plain; few = omega (arith, few, tokens, short) }

-- what is known of accepted texts
abbrev pub Never : Type 0
Never =
    (text : List ℕ) (tree : SourceTree) (known : Walk) (schemes : Schemes) (input : List ℕ) (turns : ℕ) → IsAccepted text tree known →
    (text_meaning tree known (sites_of tree known schemes) input turns).outcome ≢ Trapped Internal

abbrev pub NeverPlain : Type 0
NeverPlain =
    (text : List ℕ) (tree : SourceTree) (known : Walk) (input : List ℕ) (turns : ℕ) → IsAccepted text tree known →
    (text_meaning tree known [] input turns).outcome ≢ Trapped Internal

module _ (never : Never) (never_plain : NeverPlain) (text : List ℕ) (tree : SourceTree) (known : Walk) (accepted : IsAccepted text tree known) where
  faultless : (plan : Plan) → NeverFaults tree known (planned_sites plan tree known)
  faultless plan.Plain input turns = never_plain text tree known input turns accepted
  faultless (plan.Full schemes part) input turns = never text tree known schemes input turns accepted
  faultless (plan.Sampled schemes part) input turns = never text tree known schemes input turns accepted

  -- a program with the table of the plan's sites that means the text does so
  pub looks : (plan : Plan) (table : TableParts) (p : ProgramParts) → table.sites ≡ planned_sites plan tree known → MeansText (source_of tree known table.sites) p → table_of p ≡ table
      → HasFewNodes tree (planned_sites plan tree known) p → DoesText tree known (planned_sites plan tree known) None p
  looks plan table p planned means same few =
      full_does tree known (planned_sites plan tree known) p (subst (λ (s : List Site). MeansText (source_of tree known s) p) planned means)
      (ap (λ (t : TableParts). t.sites) same ∙ planned) (faultless plan) few
