-- The head of an item as the parser on lists has it.
use Rattle.c_parser_items.specs.declared.items.Head as code
use Rattle.c_parser_items.specs.ItemParser.{Head}

abbrev pub plain_head : code.Head → Head
plain_head h = record { token = h.token; base = h.base; first = h.first; stars = h.stars; name_token = h.name_token; name = h.name }
