use Rattle.std.proofs.Common.{◌≡◌, ◌+◌, ◌*◌, ◌<◌, ◌≤◌, Bool, ℕ, List, [], ◌∷◌, Some, length, take, slice_get, refl, sym, ap, ◌∙◌, subst, arith}
use Rattle.std.specs.List.{sum_by}
use Rattle.std.proofs.lemmas.List.Sums.{sum_by-append, sum_by-cons}
use Rattle.std.proofs.lemmas.Option.{slice_get_read}
use Rattle.base_lists.proofs.Lists.{take_more}
use Rattle.flow.specs.declared.node.Node.{Node}
use Rattle.flow.specs.declared.program.Function.{Function}
use Rattle.regions.specs.Blocks.{IsStart}
use Rattle.regions.specs.Flags.{AreFlags, is_in}
use Rattle.regions.specs.Headers.{IsHeader}
use Rattle.regions.specs.Rows.{EachFits}
use Rattle.regions.specs.Weighty.{views_of}
use Rattle.regions.proofs.RowLemmas.{rows_more}
use Rattle.regions.proofs.Within.{has_entry}
use Rattle.weights.specs.Weight.{AreWeights}
use Rattle.clone_paths.specs.Cloned.{FunctionCloned, StillFits, cloned_limit}
use Rattle.clone_paths.specs.Parts.{HasOrder}
use Rattle.clone_paths.proofs.PrepareLemmas.{few_of, headers_of_weighty, order_of, plain_of}
use Rattle.clone_paths.proofs.clones.clone_functions.Goals as goal
use Rattle.flow.specs.Ready.{ArePlain}

pub clone_function-requires-clause-prepared : goal.clone_function-requires-clause-prepared
clone_function-requires-clause-prepared c = λ w.
    let p = c.args.program.now in
    let fs = c.functions-functions.result.now in
    let number = c.loop-number.number in
    let f = c.index-functions-number.result in
    let value = c.functions-functions.ensures.value in
    let is = c.functions-functions.ensures.is_program in
    let there : slice_get p.functions number ≡ Some f =
    ap (λ (xs : List Function). slice_get xs number) (sym value) ∙ slice_get_read fs (length fs) number f refl c.loop-number-test.true c.index-functions-number.is
    in
    let same = ap (λ (xs : List Function). length xs) value in
    let starts = c.in_ok-starts.starts.items in
    let weights = c.in_ok-weights.weights.items in
    let headers = c.in_ok-headers.headers.items in
    let in_starts : number < length starts = omega (arith, c.in_ok-starts.ensures.few, same, c.loop-number-test.true) in
    let in_weights : number < length weights = omega (arith, c.in_ok-weights.ensures.few, same, c.loop-number-test.true) in
    let in_headers : number < length headers = omega (arith, c.in_ok-headers.ensures.few, same, c.loop-number-test.true) in
    let start_row = slice_get_read starts (length starts) number c.index.result.now refl in_starts c.index.ensures in
    let weight_row = slice_get_read weights (length weights) number c.index-in-loop-number.result.now refl in_weights c.index-in-loop-number.ensures in
    let header_row = slice_get_read headers (length headers) number c.index-in-loop-number-2.result.now refl in_headers c.index-in-loop-number-2.ensures in
    let blocks = c.in_ok-starts.ensures.each number f c.index.result.now there start_row in
    let weighed = c.in_ok-weights.ensures.each number f c.index-in-loop-number.result.now there weight_row in
    let heads = headers_of_weighty c.args.weighty.now number f c.index-in-loop-number-2.result.now w (c.in_ok-headers.ensures.each number f c.index-in-loop-number-2.result.now there header_row) in
    let nodes = sym c.as_slice.ensures in
    record {
      few = subst (λ (xs : List Node). length xs ≤ cloned_limit) nodes (few_of p number f c.requires.may_clone there);
      entry = subst (λ (xs : List Node). 0 < length xs) nodes (has_entry p number f is there);
      order = subst (λ (xs : List Node). HasOrder xs) nodes (order_of p number f is there);
      plain = subst (λ (xs : List Node). ArePlain xs) nodes (plain_of p number f c.requires.may_clone there);
      starts_are = subst (λ (xs : List Node). AreFlags (length xs) (IsStart (views_of xs)) c.deref.result.now) nodes
          (subst (λ (ys : List Bool). AreFlags (length f.nodes) (IsStart (views_of f.nodes)) ys) (sym c.deref.ensures.value) blocks);
      headers_are = subst (λ (xs : List Node). AreFlags (length xs) (IsHeader (is_in c.args.weighty.now) (views_of xs)) c.deref-in-loop-number-2.result.now) nodes
          (subst (λ (ys : List Bool). AreFlags (length f.nodes) (IsHeader (is_in c.args.weighty.now) (views_of f.nodes)) ys) (sym c.deref-in-loop-number-2.ensures.value) heads);
      weights_are = subst (λ (xs : List Node). AreWeights (is_in c.args.weighty.now) xs c.deref-in-loop-number.result.now) nodes
          (subst (λ (ys : List ℕ). AreWeights (is_in c.args.weighty.now) f.nodes ys) (sym c.deref-in-loop-number.ensures.value) weighed);
    }

pub loop-number-preserved : goal.loop-number-preserved
loop-number-preserved c =
    let fs = c.functions-functions.result.now in
    let number = c.loop-number.number in
    let f = c.index-functions-number.result in
    let clone = c.in_ok-clone.clone in
    let there : slice_get fs number ≡ Some f = slice_get_read fs (length fs) number f refl c.loop-number-test.true c.index-functions-number.is in
    let items = sym c.in_ok-push.ensures.items in
    let size : Function → ℕ = λ g. length g.nodes in
    let grown = sum_by-append size c.loop-number.clones.items (clone ∷ []) in
    let was = ap (λ (xs : List Function). sum_by size xs) (take_more fs number f there) ∙ sum_by-append size (take number fs) (f ∷ []) in
    let one : sum_by size (clone ∷ []) ≡ length clone.nodes + sum_by size [] = sum_by-cons size clone [] in
    let other : sum_by size (f ∷ []) ≡ length f.nodes + sum_by size [] = sum_by-cons size f [] in
    let none : sum_by size [] ≡ 0 = refl in
    record {
      cloned = subst (λ (xs : List Function). EachFits (FunctionCloned (is_in c.args.weighty.now)) (take (number + 1) fs) xs) items
          (rows_more (FunctionCloned (is_in c.args.weighty.now)) fs c.loop-number.clones.items number f clone there c.loop-number.invariant.cloned c.in_ok-clone.ensures.cloned);
      fits = subst (λ (xs : List Function). EachFits StillFits (take (number + 1) fs) xs) items
          (rows_more StillFits fs c.loop-number.clones.items number f clone there c.loop-number.invariant.fits c.in_ok-clone.ensures.fits);
      small = subst (λ (xs : List Function). sum_by size xs ≤ 8 * sum_by size (take (number + 1) fs)) items
          (omega (arith, grown, was, one, other, none, c.in_ok-clone.ensures.small, c.loop-number.invariant.small));
    }
