use Rattle.std.proofs.Common.{◌≡◌, Some, rules, refl, ◌∙◌, subst, arith, below_more, slice_get}
use Rattle.std.proofs.lemmas.Option.{get_or_from_slice_get, slice_get_within}
use Rattle.flow.specs.declared.program.Function.{Function}
use Rattle.flow.specs.Program.{IsFunction}
use Rattle.flow.proofs.functions.functions_fit.Goals as goal

pub loop-number-preserved : goal.loop-number-preserved
loop-number-preserved c =
    let fits : IsFunction c.args.names.now c.loop-number.number c.index-functions-number.result = search rules in
    λ k f l there. below_more (λ j. (g : Function) → slice_get c.args.functions.now j ≡ Some g → IsFunction c.args.names.now j g) c.loop-number.number
    (λ j m g at. c.loop-number.invariant j g m at)
    (λ g at. subst (IsFunction c.args.names.now c.loop-number.number)
    (c.index-functions-number.is ∙ get_or_from_slice_get c.args.functions.now c.loop-number.number g c.index-functions-number.result at) fits)
    k l f there

pub returns : goal.returns
returns c = (
  λ yes. record { each = λ number f at. let l = slice_get_within c.args.functions.now number f at in c.loop-number.invariant number f (omega arith) at },
  λ fit. refl,
)
