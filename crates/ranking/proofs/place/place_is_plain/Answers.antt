use Rattle.std.proofs.Common.{◌≡◌, ◌<◌, ◌∙◌, [], List, ℕ, Option, Some, ap, arith, decimal, get_or, length, subst, sym}
use Rattle.std.proofs.lemmas.List.{get_or_default}
use Rattle.flow.specs.declared.site.Site.{Site}
use Rattle.flow.specs.Predicates.{predicate_text, site_at}
use Rattle.ranking.specs.Plain.{ArePlainFields, IsPlainField}
use Rattle.ranking.specs.Ranking.{place_fields}
use Rattle.ranking.proofs.PlainLemmas.{scheme-plain, text-of-site}
use Rattle.ranking.proofs.place.place_is_plain.Goals as goal

pub returns : goal.returns
returns c =
    let t = c.args.table.now in
    let s = c.predicate_site.result.0.now in
    let text = predicate_text t.sites c.args.predicate in
    let at : site_at t.sites c.args.predicate ≡ Some s = c.predicate_site.ensures.site in
    let own = text-of-site t.sites c.args.predicate s at in
    let inside : s.function < length t.functions = omega (arith, c.predicate_site.ensures.function) in
    let name : IsPlainField (get_or t.functions s.function []) = subst IsPlainField
    (c.index-functions-site.is ∙ ap (λ (fs : List (List ℕ)). get_or fs s.function c.index-functions-site.result) c.functions-functions.ensures ∙ get_or_default t.functions s.function c.index-functions-site.result [] inside) c.name_is_plain.ensures in
    let line : IsPlainField (decimal s.line) = subst (λ (n : ℕ). IsPlainField (decimal n)) c.from.ensures c.number_is_plain.ensures in
    let fields : ArePlainFields (place_fields t.functions (Some s) text) = (scheme-plain s.kind, (name, (line, (subst IsPlainField (sym own.1) (c.texts_are_plain.ensures own.0), tt)))) in
    subst (λ (o : Option Site). ArePlainFields (place_fields t.functions o text)) (sym at) fields
