use Rattle.headline.proofs.Farming.{ranks-farm}
use Rattle.headline.proofs.farm.a_farm_is_the_elimination.Goals as goal

pub returns : goal.returns
returns c = λ words text whole collection ranking runs texts held r tree known is accepted hold left ranked program_is collection_is.
    ranks-farm c.one_ending.ensures c.one_program.ensures c.one_accepted_text.ensures.tree c.one_accepted_text.ensures.known text tree known accepted
    c.one_report.ensures c.one_collection.ensures c.written_collection.ensures c.order_does_not_matter.ensures.members c.order_does_not_matter.ensures.same
    c.a_widened_collection_is_of_the_whole.ensures whole c.parts_have_their_sites.ensures words collection ranking runs texts held r is hold left ranked program_is collection_is
