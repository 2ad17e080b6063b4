use Rattle.std.proofs.Common.{None, Some, ap, sym, ◌∙◌, arith}
use Rattle.std.proofs.lemmas.Str.Pattern.{split_once_first}
use Rattle.cbi_base.specs.Numbers.{◌>>=◌}
use Rattle.cbi_options.specs.Schemes.{names_in, with_schemes}
use Rattle.cbi_options.proofs.Naming.{with-alone, with-first}
use Rattle.cbi_options.proofs.schemes.+with_schemes.Goals as goal

pub returns-in-None : goal.returns-in-None
returns-in-None t c =
    c.with_scheme.ensures ∙ sym (with-alone c.args.list.now c.args.schemes (split_once_first 44 c.args.list.now None c.in-None.ensures.cases (omega arith)))

pub returns-in_err-schemes-in-Some : goal.returns-in_err-schemes-in-Some
returns-in_err-schemes-in-Some t c =
    let parts = split_once_first 44 c.args.list.now (Some (c.in-Some.name, c.in-Some.others)) c.in-Some.ensures.cases (omega arith) in
    c.from_residual.ensures ∙ ap (λ o. o >>= with_schemes (names_in c.in-Some.others.now)) (sym c.in_err-schemes-in-Some.was ∙ c.with_scheme-in-Some.ensures)
    ∙ sym (with-first c.args.list.now c.in-Some.name.now c.in-Some.others.now c.args.schemes parts)

pub returns-in_ok-schemes-in-Some : goal.returns-in_ok-schemes-in-Some
returns-in_ok-schemes-in-Some t c =
    let parts = split_once_first 44 c.args.list.now (Some (c.in-Some.name, c.in-Some.others)) c.in-Some.ensures.cases (omega arith) in
    c.with_schemes.ensures ∙ ap (λ o. o >>= with_schemes (names_in c.in-Some.others.now)) (sym c.in_ok-schemes-in-Some.was ∙ c.with_scheme-in-Some.ensures)
    ∙ sym (with-first c.args.list.now c.in-Some.name.now c.in-Some.others.now c.args.schemes parts)
