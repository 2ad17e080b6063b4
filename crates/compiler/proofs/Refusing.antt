-- A text that is refused isn't compiled, and which refusal is told.
use Rattle.std.proofs.Common.{◌≡◌, ℕ, arith, refl, subst, List, Result, Ok, Err}
use Rattle.std.specs.Prelude.{IfErr, IsErr, OnOk}
use Rattle.cbi_base.specs.declared.refusal.Refusal.{Refusal}
use Rattle.cbi_base.specs.declared.refusal.Refusal.TheVariants.{TooManySites}
use Rattle.c_syntax.specs.ItemTree.{SourceTree}
use Rattle.c_types_expressions.specs.declared.walk.Walk.{Walk}
use Rattle.flow.specs.declared.program.ProgramParts.{ProgramParts}
use Rattle.compiler.specs.declared.text_error.TextError.{TextError}
use Rattle.compiler.specs.declared.text_error.TextError.TheVariants as text_error
use Rattle.compiler.specs.Accepted.{IsAccepted}
use Rattle.compiler.specs.Rejected.{IsRejectedText, RejectedBy, RejectsText}
use Rattle.compiler.specs.declared.compile_error.CompileError.{CompileError}
use Rattle.compiler.specs.declared.compile_error.CompileError.TheVariants as error
use Rattle.compiler.specs.declared.plan.Plan.{Plan}
use Rattle.compiler.specs.Compiled.{IsCompiled}
use Rattle.compiler.specs.Planned.{FitsPlan}
use Rattle.compiler.specs.Refused.{CrowdedBy, HasManySites, IsRefusedText, RefusedBy, RefusesText, error_of}

-- what is known of an accepted text: it has one tree, of which one thing is known
abbrev pub OneTree : Type 0
OneTree = (text : List ℕ) (t u : SourceTree) (v w : Walk) → IsAccepted text t v → IsAccepted text u w → t ≡ u

abbrev pub OneKnown : Type 0
OneKnown = (text : List ℕ) (t u : SourceTree) (v w : Walk) → IsAccepted text t v → IsAccepted text u w → v ≡ w

module _ (one_tree : OneTree) (one_known : OneKnown) (text : List ℕ) where
  -- what holds of an accepted text's tree and of what is known of it holds of any that are
  pub moved : (P : SourceTree → Walk → Type 0) (t u : SourceTree) (v w : Walk) → IsAccepted text t v → IsAccepted text u w → P t v → P u w
  moved P t u v w x y h = subst (P u) (one_known text t u v w x y) (subst (λ s. P s v) (one_tree text t u v w x y) h)

  crowded_refused : (by : Plan) → HasManySites text by → IsRefusedText by text
  crowded_refused by h tree known accepted fits =
      let few : FitsPlan by h.tree h.known = moved (FitsPlan by) tree h.tree known h.known accepted h.accepted fits in
      absurd (omega (arith, few, h.many))

  -- a refusal that speaks of the text is of one that is refused
  pub refuses : ((refusal : Refusal) → RejectsText refusal text → IsRejectedText text) → (by : Plan) (refusal : Refusal) → RefusesText by refusal text → IsRefusedText by text
  refuses told by TooManySites h = crowded_refused by h
  refuses told by refusal h = λ tree known accepted fits. told refusal h tree known accepted

-- a text that is refused for its sites is refused for nothing else
pub sites_alone : (text : List ℕ) → ((refusal : Refusal) → RejectsText refusal text → IsRejectedText text) → (by : Plan) (refusal : Refusal) → HasManySites text by → RefusesText by refusal text
    → refusal ≡ TooManySites
sites_alone text told by TooManySites h other = refl
sites_alone text told by refusal h other = absurd (told refusal other h.tree h.known h.accepted)

-- where a text is answered by a program, each of its trees has room for its sites
pub fits_each : {A E : Type 0} → OneTree → OneKnown → (text : List ℕ) (by : Plan) (t : SourceTree) (w : Walk) (r : Result A E) → IsAccepted text t w → OnOk r (FitsPlan by t w)
    → OnOk r ((tree : SourceTree) (known : Walk) → IsAccepted text tree known → FitsPlan by tree known)
fits_each one_tree one_known text by t w (Ok x) accepted fits = λ tree known other. moved one_tree one_known text (FitsPlan by) t tree w known accepted other fits
fits_each one_tree one_known text by t w (Err e) accepted fits = tt

pub refused_fails : {A E : Type 0} (by : Plan) (text : List ℕ) (t : SourceTree) (w : Walk) (r : Result A E) → IsAccepted text t w → OnOk r (FitsPlan by t w) → IsRefusedText by text → IsErr r
refused_fails by text t w (Ok x) accepted fits refused = absurd (refused t w accepted fits)
refused_fails by text t w (Err e) accepted fits refused = refl

pub not_compiled : (by : Plan) (text : List ℕ) (p : ProgramParts) → IsRefusedText by text → IsCompiled text by p → ⊥
not_compiled by text p refused c = refused c.tree c.known c.accepted c.fits

-- a text that isn't accepted is refused by the same refusal in each plan
refused_so : (by : Plan) (text : List ℕ) (refusal : Refusal) → RejectsText refusal text → RefusesText by refusal text
refused_so by text TooManySites h = absurd h
refused_so by text refusal h = h

pub not_accepted : (by : Plan) (text : List ℕ) (e : TextError) → RejectedBy text e → RefusedBy by text (error_of e)
not_accepted by text (text_error.Refused refusal) h = refused_so by text refusal h
not_accepted by text text_error.Memory h = tt

-- an accepted text is refused for its sites
pub crowded : (by : Plan) (text : List ℕ) (tree : SourceTree) (known : Walk) (e : CompileError) → IsAccepted text tree known → CrowdedBy by tree known e → RefusedBy by text e
crowded by text tree known (error.Refused TooManySites) accepted h = record { tree = tree; known = known; accepted = accepted; many = h }
crowded by text tree known (error.Refused refusal) accepted h = absurd h
crowded by text tree known error.Memory accepted h = tt

pub crowded_result : {A : Type 0} (by : Plan) (text : List ℕ) (tree : SourceTree) (known : Walk) (r : Result A CompileError) → IsAccepted text tree known → IfErr r (CrowdedBy by tree known)
    → IfErr r (RefusedBy by text)
crowded_result by text tree known (Ok x) accepted h = tt
crowded_result by text tree known (Err e) accepted h = crowded by text tree known e accepted h
