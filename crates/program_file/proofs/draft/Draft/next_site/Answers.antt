use Rattle.std.proofs.Common.{◌≡◌, Some, slice_get, rules}
use Rattle.base_lists.proofs.Lists.{get_map}
use Rattle.flow.specs.Spelling.{Head}
use Rattle.program_file.proofs.Taken.{site-follows}
use Rattle.program_file.proofs.draft.Draft.next_site.Goals as goal

pub returns-then-not-site_fits-clause-only : goal.returns-then-not-site_fits-clause-only
returns-then-not-site_fits-clause-only c = λ s f.
    let stands : slice_get c.args.self.now.heads c.in-Ok.site.function ≡ Some c.in-Some.head.now = c.in-Some.ensures.found in
    let fits = site-follows c.args.self.now c.args.line.now c.in-Some.head.now c.in-Ok.site s stands (search rules) f in
    search (rules, fits)

pub returns-clause-ok : goal.returns-clause-ok
returns-clause-ok c =
    let stands : slice_get c.args.self.now.heads c.in-Ok.site.function ≡ Some c.in-Some.head.now = c.in-Some.ensures.found in record {
      reads = search rules;
      room = search rules;
      fits = record { own = c.in-Some.head.now.locals; owner = get_map (λ (h : Head). h.locals) c.args.self.now.heads c.in-Ok.site.function c.in-Some.head.now stands; fits = search rules };
    }
