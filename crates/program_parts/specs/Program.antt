-- The program that looks at a part of the sites alone.
use Rattle.std.specs.Prelude.{map, if◌then◌else◌}
use Rattle.flow.specs.declared.node.Node.{Node}
use Rattle.flow.specs.declared.node.Node.TheVariants.{Mark, Pass}
use Rattle.flow.specs.declared.program.Function.{Function}
use Rattle.flow.specs.declared.program.ProgramParts.{ProgramParts}
use Rattle.flow.specs.declared.site.TableParts.{TableParts}
use Rattle.flow.specs.declared.choice.Part.{Part}
use Rattle.program_parts.specs.Part.{is_site_in_part, number_in, part_of}

-- the visit of a site that the part hasn't does nothing
abbrev pub part_node : Part → Node → Node
part_node part (Mark site next) = if is_site_in_part part site then Mark (number_in part site) next else Pass next
part_node part other = other

abbrev pub part_function : Part → Function → Function
part_function part f = record f { nodes = map (part_node part) f.nodes }

abbrev pub part_program : Part → ProgramParts → ProgramParts
part_program part p = record p { functions = map (part_function part) p.functions; sites = part_of part p.sites }

-- the sites of the part, and the same functions
abbrev pub part_table : Part → TableParts → TableParts
part_table part t = record t { sites = part_of part t.sites }
