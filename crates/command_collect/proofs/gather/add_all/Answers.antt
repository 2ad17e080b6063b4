use Rattle.std.specs.Prelude.{reverse}
use Rattle.std.proofs.Common.{◌≡◌, inl, ◌∷◌, [], sym, subst, ap, ◌∙◌}
use Rattle.std.proofs.lemmas.List.{reverse-append, reverse-reverse}
use Rattle.command_base.proofs.FaultLemmas.{caused-as}
use Rattle.command_collect.specs.Collect.{MeetsFault}
use Rattle.command_collect.proofs.gather.add_all.Goals as goal

pub returns-in-Err-clause-fault : goal.returns-in-Err-clause-fault
returns-in-Err-clause-fault c =
    let popped : reverse c.loop-bundle.rest.items ≡ c.in-Some.bundle ∷ reverse c.pop.new.self.items = ap reverse c.in-Some.ensures.items ∙ reverse-append c.pop.new.self.items (c.in-Some.bundle ∷ []) in
    let whole : reverse c.reverse.new.self.items ≡ c.args.bundles = ap reverse c.reverse.ensures.items ∙ reverse-reverse c.into_vec-rest.result.items ∙ c.into_vec-rest.ensures in
    let here : MeetsFault c.loop-bundle.collection (reverse c.loop-bundle.rest.items) c.in-Err.fault =
    subst (λ bs. MeetsFault c.loop-bundle.collection bs c.in-Err.fault) (sym popped) (inl (c.merge.new.self, c.in-Err.ensures))
    in
    let stops : MeetsFault c.args.collection.now c.args.bundles c.in-Err.fault =
    subst (λ bs. MeetsFault c.args.collection.now bs c.in-Err.fault) whole (c.loop-bundle.invariant.stops c.in-Err.fault here)
    in
    caused-as c.fault_of.result _ _ _ _ c.fault_of.ensures.cause (λ refusal tells. record { fault = c.in-Err.fault; tells = tells; stops = stops })
