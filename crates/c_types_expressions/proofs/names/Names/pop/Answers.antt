use Rattle.std.proofs.Common.{◌∙◌, sym, subst, reverse}
use Rattle.std.proofs.lemmas.List.{append-nil}
use Rattle.c_types_expressions.specs.Indexed.{IsIndex}
use Rattle.c_types_expressions.proofs.Indexes.{without_last}
use Rattle.c_types_expressions.proofs.names.Names.pop.Goals as goal

pub invariant_of-self : goal.invariant_of-self
invariant_of-self c = subst (λ xs. IsIndex (reverse xs) c.self.inside.index) (c.in_default.ensures.items ∙ append-nil c.pop.new.self.items) c.self.invariant

pub invariant_of-self-2 : goal.invariant_of-self-2
invariant_of-self-2 c =
    c.take.ensures (reverse c.pop.new.self.items)
    (subst (λ es. IsIndex es c.self.inside.index)
    (without_last c.self.inside.entries.items c.pop.new.self.items c.in-Some.entry c.in-Some.ensures.items) c.self.invariant)

pub returns : goal.returns
returns c = sym c.self.view_is ∙ without_last c.self.inside.entries.items c.pop.new.self.items c.in-Some.entry c.in-Some.ensures.items
