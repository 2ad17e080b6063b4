use Rattle.ranking_laws.proofs.CardTexts.{collections_have_one_text_of_cards, predicates_have_one_card}
use Rattle.ranking_laws.proofs.NearLists.{predicates_have_one_near_list}
use Rattle.ranking_laws.proofs.laws.one_card_each.Goals as goal

pub returns-clause-near : goal.returns-clause-near
returns-clause-near c = predicates_have_one_near_list

pub returns-clause-card : goal.returns-clause-card
returns-clause-card c = predicates_have_one_card

pub returns-clause-text : goal.returns-clause-text
returns-clause-text c = collections_have_one_text_of_cards
