use Rattle.std.proofs.Common.{◌≡◌, ℕ, ◌≤◌, ◌+◌, ◌*◌, length, subst}
use Rattle.c_syntax.specs.Words.{SourceTree, tree_kinds}
use Rattle.c_types.specs.Answers.{known_of, tree_of}
use Rattle.lower_facts.specs.Facts.{known_in, source_in, table_in, tree_in}
use Rattle.lower_relation.specs.Functions.{IsGraphOf}
use Rattle.lower_fits.proofs.LocalSizes.{variables_sized}
use Rattle.lower.specs.Programs.{node_count}
use Rattle.lower.proofs.Assembling.{are_parts, few_strings, globals_are, globals_start, none_of, program_graph, program_parts, program_plain, program_ready}
use Rattle.lower.proofs.Assembling.{ready_facts}
use Rattle.lower.proofs.Graphing.{means_is, source_is}
use Rattle.lower.proofs.Rooms.{few_of}
use Rattle.lower.proofs.programs.lower.Goals as goal

pub new-requires-clause-strings : goal.new-requires-clause-strings
new-requires-clause-strings c = few_strings (tree_of c.args.checked.now) (known_of c.args.checked.now) c.args.table c.requires

pub new-requires-clause-sized : goal.new-requires-clause-sized
new-requires-clause-sized c = variables_sized (tree_of c.args.checked.now) (known_of c.args.checked.now) c.requires.whole.accepted

pub named_functions-requires-clause-ready : goal.named_functions-requires-clause-ready
named_functions-requires-clause-ready c =
    ready_facts c.in_ok-facts.facts (tree_of c.args.checked.now) (known_of c.args.checked.now) c.args.table c.in_ok-facts.ensures.tree c.in_ok-facts.ensures.known c.requires

pub globals_of_text-requires : goal.globals_of_text-requires
globals_of_text-requires c = globals_start c.in_ok-facts.facts c.args.table (ready_facts c.in_ok-facts.facts (tree_of c.args.checked.now) (known_of c.args.checked.now) c.args.table c.in_ok-facts.ensures.tree c.in_ok-facts.ensures.known c.requires)

pub unreachable-requires : goal.unreachable-requires
unreachable-requires c =
    globals_are c.in_ok-facts.facts c.args.table (ready_facts c.in_ok-facts.facts (tree_of c.args.checked.now) (known_of c.args.checked.now) c.args.table c.in_ok-facts.ensures.tree c.in_ok-facts.ensures.known c.requires)
    (none_of c.in_ok-globals.field-0 _ _ c.in_default.not-Some c.in_ok-globals.ensures.objects)

pub of-requires : goal.of-requires
of-requires c =
    let ready = ready_facts c.in_ok-facts.facts (tree_of c.args.checked.now) (known_of c.args.checked.now) c.args.table c.in_ok-facts.ensures.tree c.in_ok-facts.ensures.known c.requires in
    let few : node_count c.in_ok-functions.functions.items ≤ 16 * length (tree_kinds (tree_in c.in_ok-facts.facts)) + length c.args.table.sites =
    few_of c.in_ok-facts.facts c.in_ok-functions.functions.items c.args.table.sites c.in_ok-facts.ensures.sites c.in_ok-functions.ensures.few
    (c.an_accepted_text_has_few_nodes.ensures (tree_in c.in_ok-facts.facts) (known_in c.in_ok-facts.facts) (table_in c.in_ok-facts.facts) ready.whole.accepted) in
    rw (c.from_vec.ensures, c.from_vec-2.ensures)
    (program_parts c.in_ok-facts.facts c.args.table.sites c.into_texts-texts.result c.in-Some.globals.items c.in_ok-functions.functions.items c.main-main.result
    c.into_sites.result c.into_texts-texts.ensures c.main-main.ensures c.into_sites.ensures.value
    (c.parts_of_an_accepted_text_are_a_program.ensures (tree_in c.in_ok-facts.facts) (known_in c.in_ok-facts.facts) c.args.table c.in-Some.globals.items
    c.in_ok-functions.functions.items ready
    (are_parts c.in_ok-facts.facts c.args.table c.in-Some.globals.items c.in_ok-functions.functions.items c.in_ok-facts.ensures.sites
    (rw c.in-Some.is at c.in_ok-globals.ensures.objects) (rw c.in-Some.is at c.in_ok-globals.ensures.count) c.in_ok-functions.ensures.names
    c.in_ok-functions.ensures.are c.in_ok-functions.ensures.stand few) c.into_sites.ensures.is_table.few))

-- the graph of the text
graph : (c : goal.In_ok-program) → IsGraphOf (source_in c.in_ok-facts.facts) c.in_ok-program.program
graph c =
    program_graph c.in_ok-facts.facts c.args.table.sites c.into_texts-texts.result c.in-Some.globals.items c.in_ok-functions.functions.items c.main-main.result
    c.into_sites.result c.into_texts-texts.ensures c.main-main.ensures c.into_sites.ensures.value c.in_ok-program.program
    (rw c.from_vec-2.ensures at (rw c.from_vec.ensures at c.in_ok-program.ensures)) c.in_ok-facts.ensures.sites c.in_ok-functions.ensures.are c.in_ok-functions.ensures.all
    (rw c.in-Some.is at c.in_ok-globals.ensures.objects) (rw c.in-Some.is at c.in_ok-globals.ensures.count)

pub returns-clause-graph : goal.returns-clause-graph
returns-clause-graph c = source_is c.in_ok-facts.facts (tree_of c.args.checked.now) (known_of c.args.checked.now) c.args.table.sites c.in_ok-program.program c.in_ok-facts.ensures.tree c.in_ok-facts.ensures.known c.in_ok-facts.ensures.sites (graph c)

pub returns-clause-means : goal.returns-clause-means
returns-clause-means c = means_is c.in_ok-facts.facts (tree_of c.args.checked.now) (known_of c.args.checked.now) c.args.table.sites c.in_ok-program.program c.in_ok-facts.ensures.tree c.in_ok-facts.ensures.known c.in_ok-facts.ensures.sites (graph c)

pub returns-clause-ready : goal.returns-clause-ready
returns-clause-ready c = program_ready c.in_ok-facts.facts c.args.table.sites c.into_texts-texts.result c.in-Some.globals.items c.in_ok-functions.functions.items c.main-main.result
    c.into_sites.result c.into_texts-texts.ensures c.main-main.ensures c.into_sites.ensures.value c.in_ok-program.program
    (rw c.from_vec-2.ensures at (rw c.from_vec.ensures at c.in_ok-program.ensures)) c.in_ok-facts.ensures.sites c.in_ok-functions.ensures.are

pub returns-clause-plain : goal.returns-clause-plain
returns-clause-plain c = program_plain c.in_ok-facts.facts c.args.table.sites c.into_texts-texts.result c.in-Some.globals.items c.in_ok-functions.functions.items c.main-main.result
    c.into_sites.result c.into_texts-texts.ensures c.main-main.ensures c.into_sites.ensures.value c.in_ok-program.program
    (rw c.from_vec-2.ensures at (rw c.from_vec.ensures at c.in_ok-program.ensures)) c.in_ok-facts.ensures.sites c.in_ok-functions.ensures.are

pub returns-clause-few : goal.returns-clause-few
returns-clause-few c =
    let ready = ready_facts c.in_ok-facts.facts (tree_of c.args.checked.now) (known_of c.args.checked.now) c.args.table c.in_ok-facts.ensures.tree c.in_ok-facts.ensures.known c.requires in
    subst (λ (t : SourceTree). node_count c.in_ok-program.program.functions ≤ 16 * length (tree_kinds t) + length c.args.table.sites) c.in_ok-facts.ensures.tree
    (rw c.in_ok-program.ensures (rw c.from_vec-2.ensures
    (few_of c.in_ok-facts.facts c.in_ok-functions.functions.items c.args.table.sites c.in_ok-facts.ensures.sites c.in_ok-functions.ensures.few
    (c.an_accepted_text_has_few_nodes.ensures (tree_in c.in_ok-facts.facts) (known_in c.in_ok-facts.facts) (table_in c.in_ok-facts.facts) ready.whole.accepted))))
