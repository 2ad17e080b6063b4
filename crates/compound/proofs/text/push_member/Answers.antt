use Rattle.std.proofs.Common.{◌≡◌, ℕ, List, ◌∷◌, [], decimal, get_or, length, sym, ap, ◌∙◌, arith}
use Rattle.std.proofs.lemmas.List.{get_or_default}
use Rattle.std.specs.Prelude.{Option}
use Rattle.cbi_base.specs.Text.{line_of_fields}
use Rattle.flow.specs.declared.site.Site.{Site}
use Rattle.flow.specs.Predicates.{predicate_text}
use Rattle.compound.specs.Text.{place_fields}
use Rattle.compound.proofs.TextLemmas.{field-after, line-ended, number-after, three-fields}
use Rattle.compound.proofs.text.push_member.Goals as goal

pub returns : goal.returns
returns c =
    let out = c.args.out.now.items in
    let t = c.args.table.now in
    let word = c.args.word.now in
    let site = c.predicate_site.result.0.now in
    let text = predicate_text t.sites c.args.predicate in
    let names : c.functions-functions.result.now ≡ t.functions = c.functions-functions.ensures in
    let name : c.bytes.result.now ≡ get_or t.functions site.function [] =
    c.bytes.ensures.value ∙ c.index-functions-site.is ∙ get_or_default c.functions-functions.result.now site.function c.index-functions-site.result [] (omega (arith, c.predicate_site.ensures.function, ap length names)) ∙ ap (λ (xs : List (List ℕ)). get_or xs site.function []) names in
    let one = field-after out word _ _ _ (get_or t.functions site.function []) c.in_ok-extend_from_slice.ensures.items c.in_ok-push_word.ensures name in
    let two = number-after out _ _ _ _ site.line one c.in_ok-push_number.ensures c.from.ensures in
    let three = field-after out _ _ _ _ text two c.in_ok-push_word-2.ensures (c.as_slice.ensures.value ∙ c.in_ok-text.ensures) in
    line-ended out _ _ _ _ three c.in_ok-push.ensures.items
    (three-fields word (get_or t.functions site.function []) (decimal site.line) text
    ∙ ap (λ (o : Option Site). line_of_fields (word ∷ place_fields t.functions o text)) (sym c.predicate_site.ensures.site))
