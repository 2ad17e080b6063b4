use Rattle.std.proofs.Common.{◌≡◌, Err, map, sym, ◌∙◌, rules}
use Rattle.c_syntax.specs.Plain.{plain_item}
use Rattle.c_parser.proofs.Parsing.{reads-tree}
use Rattle.c_parser.proofs.ItemLoops.{items_less, items_turn, items_err, items_some}
use Rattle.c_parser.proofs.program.items.Goals as goal

pub returns-in_err-item : goal.returns-in_err-item
returns-in_err-item c =
    let same : c.from_residual.result ≡ Err c.in_err-item.field-0.0 = search rules in
    rw same (items_err c.args.tokens.now c.items.reader c.next_item.new.reader (map plain_item c.items.items.items) c.in_err-item.field-0.0 c.items.invariant (λ none. let t = c.is_empty.ensures.1 none in cc) c.in_err-item.ensures)

pub items-smaller : goal.items-smaller
items-smaller c = items_less c.items.reader c.next_item.new.reader (plain_item c.in_ok-item.item) c.in_ok-item.ensures

pub items-preserved : goal.items-preserved
items-preserved c = items_turn c.args.tokens.now c.items.reader c.next_item.new.reader c.items.items.items c.push.new.self.items c.in_ok-item.item c.items.invariant c.in_ok-item.ensures c.in_ok-push.ensures.items

pub returns : goal.returns
returns c = reads-tree c.args.tokens.now c.items.reader (map plain_item c.items.items.items) c.items.invariant (c.is_empty.ensures.0 c.items-test.false) (items_some c.items.items (sym c.is_empty-2.ensures ∙ c.if-is_empty.false))
