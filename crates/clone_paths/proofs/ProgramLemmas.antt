-- The sampled program keeps the conditions on programs.
use Rattle.std.proofs.Common.{◌≡◌, Bool, ℕ, zero, suc, get_or, ◌*◌, ◌≤◌, List, [], ◌∷◌, length, map, Some, slice_get, refl, sym, ap, ◌∙◌, subst, arith}
use Rattle.std.specs.List.{sum_by}
use Rattle.std.proofs.lemmas.List.Sums.{sum_by-cons}
use Rattle.std.proofs.lemmas.Option.{slice_get-get_or, slice_get_within}
use Rattle.cbi_base.specs.Name.{IsName}
use Rattle.flow.specs.declared.program.Function.{Function}
use Rattle.flow.specs.declared.program.ProgramParts.{ProgramParts}
use Rattle.flow.specs.declared.scope.Bounds.{Bounds}
use Rattle.flow.specs.declared.scope.Names.{Names}
use Rattle.flow.specs.Words.{NodesFit, AreLocals, AreSites, IsFunction, IsProgram, bounds_of, names_of}
use Rattle.regions.specs.Rows.{EachFits}
use Rattle.clone_paths.specs.Cloned.{FitsLike, FunctionCloned, MayClone, StillFits}

-- what the functions of the sampled program keep
pub record Kept (fs gs : List Function) : Type 0 where
  pub few : length gs ≡ length fs
  pub name : (k : ℕ) (f g : Function) → slice_get fs k ≡ Some f → slice_get gs k ≡ Some g → g.name ≡ f.name
  pub value : (k : ℕ) (f g : Function) → slice_get fs k ≡ Some f → slice_get gs k ≡ Some g → g.value ≡ f.value
  pub params : (k : ℕ) (f g : Function) → slice_get fs k ≡ Some f → slice_get gs k ≡ Some g → g.params ≡ f.params
  pub locals : (k : ℕ) (f g : Function) → slice_get fs k ≡ Some f → slice_get gs k ≡ Some g → g.locals ≡ f.locals
  pub fits : (k : ℕ) (f g : Function) → slice_get fs k ≡ Some f → slice_get gs k ≡ Some g → FitsLike f.nodes g.nodes

pub kept_from : (fs gs : List Function) (weighty : ℕ → Bool) → EachFits (FunctionCloned weighty) fs gs → EachFits StillFits fs gs → Kept fs gs
kept_from fs gs weighty c s = record {
  few = c.few;
  name = λ k f g e h. (c.each k f g e h).name;
  value = λ k f g e h. (c.each k f g e h).value;
  params = λ k f g e h. (c.each k f g e h).params;
  locals = λ k f g e h. (c.each k f g e h).locals;
  fits = λ k f g e h. s.each k f g e h;
}

locals_same : (fs gs : List Function) → length gs ≡ length fs → ((k : ℕ) (f g : Function) → slice_get fs k ≡ Some f → slice_get gs k ≡ Some g → g.locals ≡ f.locals) →
    map (λ (f : Function). length f.locals) gs ≡ map (λ (f : Function). length f.locals) fs
locals_same [] [] e h = refl
locals_same [] (g ∷ gs) e h = absurd (omega arith)
locals_same (f ∷ fs) [] e h = absurd (omega arith)
locals_same (f ∷ fs) (g ∷ gs) e h =
    let first = h zero f g refl refl in
    let rest = locals_same fs gs (omega arith) (λ k a b x y. h (suc k) a b x y) in
    ap (λ (ys : List ℕ). length g.locals ∷ ys) rest ∙ ap (λ (ls : List ℕ). length ls ∷ map (λ (x : Function). length x.locals) fs) first

sums_same : (fs gs : List Function) → length gs ≡ length fs → ((k : ℕ) (f g : Function) → slice_get fs k ≡ Some f → slice_get gs k ≡ Some g → g.locals ≡ f.locals) →
    sum_by (λ (f : Function). length f.locals) gs ≡ sum_by (λ (f : Function). length f.locals) fs
sums_same [] [] e h = refl
sums_same [] (g ∷ gs) e h = absurd (omega arith)
sums_same (f ∷ fs) [] e h = absurd (omega arith)
sums_same (f ∷ fs) (g ∷ gs) e h =
    let first = ap (λ (ls : List ℕ). length ls) (h zero f g refl refl) in
    let rest = sums_same fs gs (omega arith) (λ k a b x y. h (suc k) a b x y) in
    let a = sum_by-cons (λ (x : Function). length x.locals) g gs in
    let b = sum_by-cons (λ (x : Function). length x.locals) f fs in
    omega (arith, first, rest, a, b)

-- the function of the original program with the same number
there : (fs gs : List Function) (k : ℕ) (g : Function) → length gs ≡ length fs → slice_get gs k ≡ Some g → slice_get fs k ≡ Some (get_or fs k g)
there fs gs k g e h = slice_get-get_or fs k g (omega (arith, e, slice_get_within gs k g h))

abbrev pub with_functions : ProgramParts → List Function → ProgramParts
with_functions p gs = record p { functions = gs }

names_same : (p : ProgramParts) (gs : List Function) → length gs ≡ length p.functions → names_of p ≡ names_of (with_functions p gs)
names_same p gs e = ap (λ (n : ℕ). let names : Names = record (names_of p) { functions = n } in names) (sym e)

function_fits : (names : Names) (k : ℕ) (f g : Function) → g.name ≡ f.name → g.params ≡ f.params → g.locals ≡ f.locals → FitsLike f.nodes g.nodes → IsFunction names k f → IsFunction names k g
function_fits names k f g name params locals fits is = record {
  name = subst (λ (n : List ℕ). IsName n) (sym name) is.name;
  locals = subst (λ (n : ℕ). AreLocals n g.locals) (sym params) (subst (λ (ls : List ℕ). AreLocals f.params ls) (sym locals) is.locals);
  entry = fits.entry is.entry;
  nodes = subst (λ (n : ℕ). let bounds : Bounds = record { function = k; locals = n; nodes = length g.nodes } in NodesFit names bounds g.nodes)
      (sym (ap (λ (ls : List ℕ). length ls) locals)) (fits.each names (bounds_of k f) refl is.nodes);
}

pub keeps : (p : ProgramParts) (gs : List Function) → IsProgram p → MayClone p → Kept p.functions gs →
    sum_by (λ (f : Function). length f.nodes) gs ≤ 8 * sum_by (λ (f : Function). length f.nodes) p.functions → IsProgram (with_functions p gs)
keeps p gs is may k small =
    let fs = p.functions in
    let few = is.parts.few in
    record {
      parts = record {
        texts = is.parts.texts;
        globals = is.parts.globals;
        few = record {
          some = omega (arith, k.few, few.some);
          few = omega (arith, k.few, few.few);
          locals = omega (arith, sums_same fs gs k.few k.locals, few.locals);
          nodes = omega (arith, small, may.few);
        };
        main =
            let m = is.parts.main in
            let at = slice_get-get_or gs p.main m.0 (omega (arith, k.few, slice_get_within fs p.main m.0 m.1)) in
            let g = get_or gs p.main m.0 in (
              get_or gs p.main m.0,
              at,
              record {
                result = k.value p.main m.0 (get_or gs p.main m.0) m.1 at ∙ m.2.result;
                params = k.params p.main m.0 (get_or gs p.main m.0) m.1 at ∙ m.2.params;
              },
            );
        sites = subst (λ (ls : List ℕ). AreSites ls (length p.globals) p.sites) (sym (locals_same fs gs k.few k.locals)) is.parts.sites;
      };
      distinct = record {
        each = λ i j f g a b e.
            let x = there fs gs i f k.few a in
            let y = there fs gs j g k.few b in
            is.distinct.each i j (get_or fs i f) (get_or fs j g) x y (sym (k.name i (get_or fs i f) f x a) ∙ e ∙ k.name j (get_or fs j g) g y b);
      };
      functions = record {
        each = λ i g a.
            let x = there fs gs i g k.few a in
            let f = get_or fs i g in
            subst (λ (names : Names). IsFunction names i g) (names_same p gs k.few)
            (function_fits (names_of p) i (get_or fs i g) g (k.name i (get_or fs i g) g x a) (k.params i (get_or fs i g) g x a) (k.locals i (get_or fs i g) g x a) (k.fits i (get_or fs i g) g x a)
            (is.functions.each i (get_or fs i g) x));
      };
    }
