use Rattle.compiler.proofs.Fitting.{tree_whole}
use Rattle.compiler.proofs.laws.sites_of_accepted_texts_stand.Goals as goal

pub returns-clause-sited : goal.returns-clause-sited
returns-clause-sited c = λ text tree known h. (tree_whole text tree known h).sited

pub returns-clause-stand : goal.returns-clause-stand
returns-clause-stand c = λ text tree known schemes h.
    let whole = tree_whole text tree known h in
    c.sites_of_an_accepted_text_stand.ensures.stand tree known schemes whole.accepted whole.sited
