use Rattle.std.proofs.Common.{◌≡◌, ℕ, List, length, slice_get, sym, ap, ◌∙◌, subst, arith}
use Rattle.std.specs.Vec.{with_items}
use Rattle.std.proofs.lemmas.List.{with_items_is}
use Rattle.regions.specs.Flags.{is_in}
use Rattle.regions.specs.Rows.{EachFits}
use Rattle.copied_nodes.specs.declared.label.CopyLabel.{CopyLabel}
use Rattle.clone_paths.specs.Layout.{Sheet, sheet_of}
use Rattle.clone_paths.specs.Made.{IsMade, Resolved, parts_from, sheet_at}
use Rattle.clone_paths.specs.Parts.{AreDebts}
use Rattle.clone_paths.specs.Sources.{source_tables}
use Rattle.clone_paths.proofs.KnownLemmas.{Laid, cloned_all, cloned_small, labels_small}
use Rattle.clone_paths.proofs.PlaceLemmas.{fits_all}
use Rattle.clone_paths.proofs.ResolveLemmas.{each_of}
use Rattle.clone_paths.proofs.SheetLemmas.{fast_are}
use Rattle.clone_paths.proofs.function.clone_nodes.Goals as goal

pub resolve-requires-clause-few : goal.resolve-requires-clause-few
resolve-requires-clause-few c =
    let s = c.args.source.now in
    let part = parts_from s.weighty.now s.nodes.now s.starts.now c.deref.result.now in
    ap (λ (xs : List ℕ). length xs) c.deref_mut.ensures.value ∙ ap (λ (t : Sheet). length t.fast) c.in_ok-layout.ensures ∙ (fast_are (is_in c.args.headers.now) part (length s.nodes.now)).0

pub nodes_for-requires-clause-few : goal.nodes_for-requires-clause-few
nodes_for-requires-clause-few c =
    let s = c.args.source.now in
    let debts = subst (λ (xs : List ℕ). AreDebts s.nodes.now s.starts.now xs) (sym c.deref.ensures.value) c.in_ok-debts.ensures in
    let same = ap (λ (t : Sheet). length t.labels) c.in_ok-layout.ensures in
    let few = labels_small s.weighty.now s.nodes.now s.starts.now c.deref.result.now c.args.headers.now c.requires.entry debts in
    omega (arith, same, few, c.requires.few)

pub nodes_for-requires-clause-of : goal.nodes_for-requires-clause-of
nodes_for-requires-clause-of c = λ place l e.
    let s = c.args.source.now in
    let part = parts_from s.weighty.now s.nodes.now s.starts.now c.deref.result.now in
    let debts = subst (λ (xs : List ℕ). AreDebts s.nodes.now s.starts.now xs) (sym c.deref.ensures.value) c.in_ok-debts.ensures in
    each_of (is_in c.args.headers.now) part (length s.nodes.now) place l
    (λ i lt. omega (arith, debts.small i, lt, c.requires.few))
    (ap (λ (t : Sheet). slice_get t.labels place) (sym c.in_ok-layout.ensures) ∙ e)

pub returns : goal.returns
returns c =
    let s = c.args.source.now in
    let debts = c.deref.result.now in
    let headers = c.args.headers.now in
    let fast = c.resolve.new.fast in
    let layout = c.in_ok-layout.layout in
    let whole = sheet_at (is_in headers) (parts_from s.weighty.now s.nodes.now s.starts.now debts) (length s.nodes.now) in
    let old : c.deref_mut.result.now ≡ whole.fast = c.deref_mut.ensures.value ∙ ap (λ (t : Sheet). t.fast) c.in_ok-layout.ensures in
    let laid : Laid s.weighty.now s.nodes.now s.starts.now s.weights.now debts headers fast = record {
      entry = c.requires.entry;
      order = c.requires.order;
      plain = c.requires.plain;
      starts_are = c.requires.starts_are;
      headers_are = c.requires.headers_are;
      weights_are = c.requires.weights_are;
      debts_are = subst (λ (xs : List ℕ). AreDebts s.nodes.now s.starts.now xs) (sym c.deref.ensures.value) c.in_ok-debts.ensures;
      resolved = subst (λ (xs : List ℕ). Resolved s.starts.now s.nodes.now xs fast) old c.resolve.ensures;
    }
    in
    let items : (with_items layout.fast fast).items ≡ fast = with_items_is layout.fast fast (c.resolve.ensures.few ∙ c.deref_mut.ensures.len) in
    let put : List ℕ → Sheet → Sheet = λ xs t. record t { fast = xs } in
    let sheet : put (with_items layout.fast fast).items (sheet_of layout) ≡ put fast whole =
    ap (λ (xs : List ℕ). put xs (sheet_of layout)) items ∙ ap (λ (t : Sheet). put fast t) c.in_ok-layout.ensures
    in
    let labels = ap (λ (t : Sheet). t.labels) c.in_ok-layout.ensures in
    let fits = subst (λ (t : Sheet). EachFits (IsMade (source_tables s t)) layout.labels.items c.in_ok-nodes.nodes.items) sheet c.in_ok-nodes.ensures in
    let all = subst (λ (ls : List CopyLabel). EachFits (IsMade (source_tables s (put fast whole))) ls c.in_ok-nodes.nodes.items) labels fits in
    record {
      cloned = cloned_all s.weighty.now s.nodes.now s.starts.now s.weights.now debts headers fast c.in_ok-nodes.nodes.items laid all;
      small = cloned_small s.weighty.now s.nodes.now s.starts.now s.weights.now debts headers fast c.in_ok-nodes.nodes.items laid all;
      fits = fits_all s.weighty.now s.nodes.now s.starts.now s.weights.now debts headers fast c.in_ok-nodes.nodes.items laid c.requires.few all;
    }
