-- The site table of a program is one.
use Rattle.std.proofs.Common.{◌≡◌, ℕ, ◌<◌, List, length, map, ap, sym, ◌∙◌, subst}
use Rattle.std.proofs.lemmas.List.{length-map}
use Rattle.std.proofs.lemmas.List.Elements.{All-weaker}
use Rattle.std.proofs.lemmas.Option.{slice_get_within}
use Rattle.flow.specs.declared.program.Function.{Function}
use Rattle.flow.specs.declared.program.ProgramParts.{ProgramParts}
use Rattle.flow.specs.declared.site.Site.{Site}
use Rattle.flow.specs.Program.{IsProgram}
use Rattle.flow.specs.Sites.{IsSite, OwnersFit}

owner_within : (functions : List Function) (globals : ℕ) (s : Site) → IsSite (map (λ f. length f.locals) functions) globals s → s.function < length functions
owner_within functions globals s is =
    let l = slice_get_within (map (λ (f : Function). length f.locals) functions) s.function is.own is.owner in
    subst (λ n. s.function < n) (length-map functions (λ (f : Function). length f.locals)) l

-- each site's function is one of as many names
pub owners_fit : (p : ProgramParts) (names : List (List ℕ)) → IsProgram p → names ≡ map (λ f. f.name) p.functions → OwnersFit (length names) p.sites
owners_fit p names is e = record {
  few = is.parts.sites.few;
  owners = All-weaker (IsSite (map (λ f. length f.locals) p.functions) (length p.globals)) (λ s. s.function < length names)
      (λ s h. subst (λ n. s.function < n) (sym (ap length e ∙ length-map p.functions (λ (f : Function). f.name))) (owner_within p.functions (length p.globals) s h))
      p.sites is.parts.sites.each;
}
