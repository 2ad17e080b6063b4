use Rattle.std.proofs.Common.{◌≡◌, ◌<◌, ◌≤◌, ℕ, List, [], length, replicate, get_or, refl, sym, ap, ◌∙◌, subst, arith, rules}
use Rattle.std.specs.List.{Contains}
use Rattle.std.proofs.lemmas.List.{length-replicate}
use Rattle.std.proofs.lemmas.Option.{get_or_from_slice_get, slice_get_read}
use Rattle.flow.specs.declared.program.Function.{Function}
use Rattle.flow.specs.declared.site.Site.{Site}
use Rattle.regions.specs.Callers.{Grew, function_callers}
use Rattle.regions.specs.Reach.{Reached}
use Rattle.regions.specs.Weighty.{CallsTo, HasSite}
use Rattle.regions.proofs.CallerLemmas.{row_read}
use Rattle.regions.proofs.ReachLemmas.{spread_end, spread_more, spread_start, spread_within}
use Rattle.regions.proofs.reach.weighty.Goals as goal

pub loop-done-init : goal.loop-done-init
loop-done-init c =
    let fs = c.functions-functions.ensures.value in
    let ss : c.sites.result.now ≡ c.args.program.now.sites = search rules in
    let e = c.in_ok-found.ensures in
    spread_start c.args.program.now c.in_ok-found.found.flags.items c.in_ok-found.found.order.items e.is_reach (e.few ∙ ap (λ (xs : List Function). length xs) fs)
    (λ g l h. e.has g (subst (λ (xs : List Function). g < length xs) (sym fs) l) (subst (λ (xs : List Site). HasSite xs g) (sym ss) h))
    (λ g h. subst (λ (xs : List Site). HasSite xs g) ss (e.only g h))

pub index-requires : goal.index-requires
index-requires c =
    let inside : c.loop-done.done < length c.loop-done.found.order.items = search rules in
    let near = spread_within c.args.program.now c.loop-done.found.flags.items c.loop-done.found.order.items c.loop-done.done c.loop-done.invariant inside in
    let here : c.index-function.result.now ≡ get_or c.loop-done.found.order.items c.loop-done.done 0 =
    sym (get_or_from_slice_get c.loop-done.found.order.items c.loop-done.done c.index-function.result.now 0
    (slice_get_read c.loop-done.found.order.items (length c.loop-done.found.order.items) c.loop-done.done c.index-function.result.now refl inside c.index-function.ensures))
    in
    let empty : List ℕ = [] in
    let few = c.in_ok-callers.ensures.few ∙ length-replicate (length c.functions-functions.result.now) empty ∙ ap (λ (xs : List Function). length xs) c.functions-functions.ensures.value in
    let l : c.index-function.result.now < length c.in_ok-callers.callers.items = omega (arith, near, here, few) in
    search rules

pub loop-done-preserved : goal.loop-done-preserved
loop-done-preserved c =
    let p = c.args.program.now in
    let order = c.loop-done.found.order.items in
    let table = c.in_ok-callers.callers.items in
    let inside : c.loop-done.done < length c.loop-done.found.order.items = search rules in
    let near = spread_within p c.loop-done.found.flags.items order c.loop-done.done c.loop-done.invariant inside in
    let here : c.index-function.result.now ≡ get_or c.loop-done.found.order.items c.loop-done.done 0 =
    sym (get_or_from_slice_get c.loop-done.found.order.items c.loop-done.done c.index-function.result.now 0
    (slice_get_read c.loop-done.found.order.items (length c.loop-done.found.order.items) c.loop-done.done c.index-function.result.now refl inside c.index-function.ensures))
    in
    let empty : List ℕ = [] in
    let few = c.in_ok-callers.ensures.few ∙ length-replicate (length c.functions-functions.result.now) empty ∙ ap (λ (xs : List Function). length xs) c.functions-functions.ensures.value in
    let l : c.index-function.result.now < length c.in_ok-callers.callers.items = omega (arith, near, here, few) in
    let list : c.as_slice.result.now ≡ function_callers table (get_or order c.loop-done.done 0) =
    c.as_slice.ensures ∙ sym (row_read table c.index-function.result.now c.index.result.now l c.index.ensures) ∙ ap (λ (g : ℕ). function_callers table g) here in
    let grew = subst (λ (fs : List Function). Grew (replicate (length fs) empty) table (λ g f. CallsTo fs f g)) c.functions-functions.ensures.value c.in_ok-callers.ensures in
    spread_more p c.loop-done.found.flags.items order c.add_each.new.self.flags.items c.add_each.new.self.order.items c.loop-done.done table grew c.loop-done.invariant inside
    (subst (λ (xs : List ℕ). Reached c.loop-done.found.flags.items order c.add_each.new.self.flags.items c.add_each.new.self.order.items (Contains xs)) list c.in_ok-add_each.ensures)

pub returns : goal.returns
returns c =
    let all : length c.loop-done.found.order.items ≤ c.loop-done.done = search rules in
    spread_end c.args.program.now c.loop-done.found.flags.items c.loop-done.found.order.items c.loop-done.done c.functions-functions.ensures.is_program c.loop-done.invariant all
