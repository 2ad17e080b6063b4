use Rattle.std.proofs.Common.{option_map}
use Rattle.std.specs.Option.{option_copied}
use Rattle.c_syntax.specs.Plain.{plain_entries}
use Rattle.lower_facts.specs.Facts.{facts_in, sites_in, source_in, table_in}
use Rattle.lower.proofs.Allowing.{function_fits}
use Rattle.lower.proofs.Bodying.{function_back, function_made}
use Rattle.lower.proofs.Siting.{sites_apart}
use Rattle.lower.proofs.functions.body_nodes.Goals as goal

pub returns-clause-body : goal.returns-clause-body
returns-clause-body c =
    function_made (facts_in c.args.facts.now) (sites_in c.args.facts.now) c.args.is_main _ c.args.gives (option_map plain_entries (option_copied c.args.body)) _ _ _ _ _ _ _ _
    c.has_value.ensures c.in_ok-exits.ensures.made c.in_ok-entry.ensures.made c.in_ok-_start.ensures.begins c.in_ok-_start.ensures.last c.in_ok-nodes.ensures.finished

pub returns-clause-stand : goal.returns-clause-stand
returns-clause-stand c = λ names number f same fit.
    function_fits (source_in c.args.facts.now) (sites_apart (table_in c.args.facts.now)) names number c.args.is_main _ f c.args.gives
    (option_map plain_entries (option_copied c.args.body)) _ _ _ _ _ _ _ _ same c.new-graph.ensures c.in_ok-exits.ensures.made c.in_ok-exits.ensures.below
    c.in_ok-entry.ensures.made c.in_ok-_start.ensures.begins c.in_ok-nodes.ensures.finished c.in_ok-nodes.ensures.as_many
    (c.in_ok-nodes.ensures.leads
    (function_back (facts_in c.args.facts.now) (sites_in c.args.facts.now) c.args.is_main _ c.args.gives (option_map plain_entries (option_copied c.args.body)) _ _ _ _ _ _ _
    c.new-graph.ensures c.in_ok-exits.ensures.made c.in_ok-exits.ensures.below c.in_ok-entry.ensures.made c.in_ok-_start.ensures.begins))
    fit
