-- The functions of a cloned form, one after another.
use Rattle.std.proofs.Common.{◌≡◌, ℕ, zero, suc, ◌+◌, ◌*◌, ◌<◌, ◌≤◌, Bool, false, true, List, [], ◌∷◌, length, Some, refl, ap, sym, ◌∙◌, subst, arith, slice_get}
use Rattle.std.specs.List.{sum_by}
use Rattle.std.proofs.lemmas.Bool.{false≢true}
use Rattle.std.proofs.lemmas.List.Sums.{sum_by-cons}
use Rattle.flow.specs.declared.node.Node.{Node}
use Rattle.flow.specs.declared.program.Function.{Function}
use Rattle.flow.specs.declared.program.ProgramParts.{ProgramParts}
use Rattle.flow.specs.Words.{IsProgram, ArePlain}
use Rattle.regions.specs.Flags.{is_in}
use Rattle.regions.specs.Rows.{EachFits}
use Rattle.regions.proofs.Within.{has_entry, node_at}
use Rattle.weights.specs.Weight.{IsForward}
use Rattle.weights.proofs.PathLemmas.{forward}
use Rattle.clone_paths.specs.Cloned.{FitsLike, FunctionCloned, MayClone, NodesCloned, StillFits, cloned_limit}
use Rattle.clone_paths.specs.Layout.{Sheet}
use Rattle.clone_paths.specs.Made.{parts_from, sheet_at}
use Rattle.clone_paths.specs.Parts.{HasOrder}
use Rattle.clone_paths.proofs.KnownLemmas.{Laid, all_labels, cloned_all, cloned_small, tables_with}
use Rattle.clone_paths.proofs.PlaceLemmas.{fits_all, fits_self}
use Rattle.clone_paths.proofs.PrepareLemmas.{few_of, order_of, plain_of}
use Rattle.clone_paths.proofs.ProgramLemmas.{keeps, kept_from, with_functions}
use Rattle.clone_paths.proofs.ResolveLemmas.{each_of}
use Rattle.clone_paths.proofs.SheetLemmas.{fast_are}
use Rattle.compiler_exists.specs.Cloned.{HasClone}
use Rattle.compiler_exists.proofs.Copying.{all_made}
use Rattle.compiler_exists.proofs.Owing.{debts_there, places_there}
use Rattle.compiler_exists.proofs.Preparing.{headers_there, starts_there, weights_there}
use Rattle.compiler_exists.proofs.Weighing.{weighty_flags}
use Rattle.base_lists.proofs.Options.{some_is}

-- copies of the nodes of a weighty function
record Copies (weighty : List Bool) (nodes : List Node) : Type 0 where
  cloned : List Node
  are : NodesCloned (is_in weighty) nodes cloned
  fits : FitsLike nodes cloned
  small : length cloned ≤ 8 * length nodes

copies : (weighty : List Bool) (nodes : List Node) → length nodes ≤ cloned_limit → 0 < length nodes → HasOrder nodes → ArePlain nodes →
    IsForward (is_in weighty) nodes → Copies weighty nodes
copies weighty nodes few entry order plain onward =
    let starts = starts_there nodes entry order in
    let headers = headers_there nodes entry order (is_in weighty) in
    let weights = weights_there nodes entry order (is_in weighty) onward in
    let debts = debts_there nodes entry order starts.0 starts.1 in
    let whole : Sheet = sheet_at (is_in headers.0) (parts_from weighty nodes starts.0 debts.0) (length nodes) in
    let fast = places_there nodes entry order starts.0 starts.1 whole.fast
    (fast_are (is_in headers.0) (parts_from weighty nodes starts.0 debts.0) (length nodes)).0 in
    let laid : Laid weighty nodes starts.0 weights.0 debts.0 headers.0 fast.0 = record {
      entry = entry;
      order = order;
      plain = plain;
      starts_are = starts.1;
      headers_are = headers.1;
      weights_are = weights.1;
      debts_are = debts.1;
      resolved = fast.1;
    }
    in
    let made = all_made (tables_with weighty nodes starts.0 weights.0 debts.0 headers.0 fast.0) nodes (λ i low. node_at nodes i low)
    (all_labels weighty nodes starts.0 debts.0 headers.0)
    (λ i l e. each_of (is_in headers.0) (parts_from weighty nodes starts.0 debts.0) (length nodes) i l (λ j lt. omega (arith, debts.1.small j, lt, few)) e) in
    record {
      cloned = made.0;
      are = cloned_all weighty nodes starts.0 weights.0 debts.0 headers.0 fast.0 made.0 laid made.1;
      fits = fits_all weighty nodes starts.0 weights.0 debts.0 headers.0 fast.0 made.0 laid few made.1;
      small = cloned_small weighty nodes starts.0 weights.0 debts.0 headers.0 fast.0 made.0 laid made.1;
    }

module _ (p : ProgramParts) (is : IsProgram p) (may : MayClone p) (weighty : List Bool) where
  -- a function of the cloned form
  record Copied (number : ℕ) (f : Function) : Type 0 where
    copy : Function
    cloned : FunctionCloned (is_in weighty) number f copy
    fits : FitsLike f.nodes copy.nodes
    small : length copy.nodes ≤ 8 * length f.nodes

  copied_by : (number : ℕ) (f : Function) (b : Bool) → slice_get p.functions number ≡ Some f → is_in weighty number ≡ b → Copied number f
  copied_by number f true at e =
      let c : Copies weighty f.nodes = copies weighty f.nodes (few_of p number f may at) (has_entry p number f is at) (order_of p number f is at)
      (plain_of p number f may at) (forward p (is_in weighty) number f is at) in
      record {
        copy = record f { nodes = c.cloned };
        cloned = record {
          name = refl;
          value = refl;
          params = refl;
          locals = refl;
          weightless = λ not. absurd (false≢true (sym not ∙ e));
          copied = λ w. c.are;
        };
        fits = c.fits;
        small = c.small;
      }
  copied_by number f false at e = record {
    copy = f;
    cloned = record {
      name = refl;
      value = refl;
      params = refl;
      locals = refl;
      weightless = λ not. refl;
      copied = λ w. absurd (false≢true (sym e ∙ w));
    };
    fits = fits_self f.nodes;
    small = omega arith;
  }

  abbrev size : Function → ℕ
  size f = length f.nodes

  -- those of these functions, which have the numbers from one on
  record AllCopied (first : ℕ) (fs : List Function) : Type 0 where
    copies : List Function
    few : length copies ≡ length fs
    cloned : (i number : ℕ) (f g : Function) → number ≡ first + i → slice_get fs i ≡ Some f → slice_get copies i ≡ Some g →
        FunctionCloned (is_in weighty) number f g
    fits : (i : ℕ) (f g : Function) → slice_get fs i ≡ Some f → slice_get copies i ≡ Some g → FitsLike f.nodes g.nodes
    small : sum_by size copies ≤ 8 * sum_by size fs

  more_copied : (first : ℕ) (f : Function) (fs : List Function) → Copied first f → AllCopied (suc first) fs → AllCopied first (f ∷ fs)
  more_copied first f fs one rest = record {
    copies = one.copy ∷ rest.copies;
    few = ap suc rest.few;
    cloned = cloned_each;
    fits = fits_each;
    small = omega (arith, sum_by-cons size one.copy rest.copies, sum_by-cons size f fs, one.small, rest.small);
  }
    where
      cloned_each : (i number : ℕ) (h g : Function) → number ≡ first + i → slice_get (f ∷ fs) i ≡ Some h → slice_get (one.copy ∷ rest.copies) i ≡ Some g →
          FunctionCloned (is_in weighty) number h g
      cloned_each zero number h g e a b =
          let same : first ≡ number = omega (arith, e) in
          subst (λ n. FunctionCloned (is_in weighty) n h g) same
          (subst (λ x. FunctionCloned (is_in weighty) first x g) (some_is a)
          (subst (λ x. FunctionCloned (is_in weighty) first f x) (some_is b) one.cloned))
      cloned_each (suc i) number h g e a b = rest.cloned i number h g (omega (arith, e)) a b

      fits_each : (i : ℕ) (h g : Function) → slice_get (f ∷ fs) i ≡ Some h → slice_get (one.copy ∷ rest.copies) i ≡ Some g → FitsLike h.nodes g.nodes
      fits_each zero h g a b =
          subst (λ (x : Function). FitsLike x.nodes g.nodes) (some_is a)
          (subst (λ (x : Function). FitsLike f.nodes x.nodes) (some_is b) one.fits)
      fits_each (suc i) h g a b = rest.fits i h g a b

  all_copied : (first : ℕ) (fs : List Function) →
      ((i number : ℕ) (f : Function) → number ≡ first + i → slice_get fs i ≡ Some f → slice_get p.functions number ≡ Some f) → AllCopied first fs
  all_copied first [] own = record { copies = []; few = refl; cloned = λ i number f g e a b. absurd (cc); fits = λ i f g a b. absurd (cc); small = omega arith }
  all_copied first (f ∷ fs) own =
      more_copied first f fs (copied_by first f (is_in weighty first) (own 0 first f (omega arith) refl) refl)
      (all_copied (suc first) fs (λ i number g e a. own (suc i) number g (omega (arith, e)) a))

-- each program that may be cloned has a cloned form
pub has_clone : (p : ProgramParts) → IsProgram p → MayClone p → HasClone p
has_clone p is may =
    let w = weighty_flags p is in
    let all : AllCopied p is may w.0 0 p.functions =
    all_copied p is may w.0 0 p.functions (λ i number f e a. subst (λ n. slice_get p.functions n ≡ Some f) (omega (arith, e)) a) in
    let cloned : EachFits (FunctionCloned (is_in w.0)) p.functions all.copies =
    record { few = all.few; each = λ number f g a b. all.cloned number number f g (omega arith) a b } in
    let fits : EachFits StillFits p.functions all.copies = record { few = all.few; each = λ number f g a b. all.fits number f g a b } in
    record {
      clone = with_functions p all.copies;
      is_program = keeps p all.copies is may (kept_from p.functions all.copies (is_in w.0) cloned fits) all.small;
      cloned = record { texts = refl; globals = refl; main = refl; sites = refl; weighty = w.0; are_weighty = w.1; functions = cloned };
      small = all.small;
    }
