use Rattle.std.proofs.Common.{◌≡◌, ℕ, List, ◌+◌, ◌-◌, ◌<◌, ◌++◌, ◌∷◌, [], length, get_or, take, drop, sym, ap, ◌∙◌, append_assoc, length-drop, arith}
use Rattle.std.proofs.Math.Seq.{take-add}
use Rattle.std.proofs.lemmas.List.{take_all, take_more}
use Rattle.std.proofs.lemmas.Result.{err_from_is_err_and}
use Rattle.cbi_base.specs.declared.observation.Observation.{Observation}
use Rattle.probes.proofs.hottest.HottestProbe.see_several.Goals as goal

-- more of a list are added, and then the next
told_more : (old now new all : List Observation) (added count : ℕ) → now ≡ old ++ take added all → new ≡ now ++ take count (take (length all - added) (drop added all)) → new ≡ old ++ take (added + count) all
told_more old now new all added count before more =
    let rest : take (length all - added) (drop added all) ≡ drop added all = take_all (length all - added) (drop added all) (omega (arith, length-drop added all)) in
    more ∙ ap (λ l. now ++ take count l) rest ∙ ap (λ l. l ++ take count (drop added all)) before ∙ append_assoc old (take added all) (take count (drop added all)) ∙ ap (λ l. old ++ l) (sym (take-add added count all))

told_one_more : (old now new all : List Observation) (added : ℕ) (d : Observation) → added < length all → now ≡ old ++ take added all → new ≡ now ++ get_or all added d ∷ [] → new ≡ old ++ take (added + 1) all
told_one_more old now new all added d inside before more =
    more ∙ ap (λ l. l ++ get_or all added d ∷ []) before ∙ append_assoc old (take added all) (get_or all added d ∷ []) ∙ ap (λ l. old ++ l) (sym (take_more all added d inside))

pub returns-in_err-see-clause-memory : goal.returns-in_err-see-clause-memory
returns-in_err-see-clause-memory c =
    let all = c.args.observations.now in
    let added = c.loop-added.added in
    let count = c.see_listed-added.result in
    let before = told_more c.args.self.now c.loop-added.self c.see_listed-added.new.self all added count c.loop-added.invariant.value c.see_listed-added.ensures.added in
    let p = err_from_is_err_and c.from_residual.result c.from_residual.ensures.1 in
    rw p.1 (record { cut = added + count; is = c.in_err-see.ensures.memory ∙ before })

pub loop-added-preserved-then-added-observations : goal.loop-added-preserved-then-added-observations
loop-added-preserved-then-added-observations c =
    let all = c.args.observations.now in
    let added = c.loop-added.added in
    let count = c.see_listed-added.result in
    let before = told_more c.args.self.now c.loop-added.self c.see_listed-added.new.self all added count c.loop-added.invariant.value c.see_listed-added.ensures.added in
    record {
      value = told_one_more c.args.self.now c.see_listed-added.new.self c.see.new.self all (added + count) _ (omega arith) before c.in_ok-see.ensures.ok;
      within = omega arith;
    }
