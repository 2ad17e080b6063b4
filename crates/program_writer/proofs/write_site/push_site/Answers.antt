use Rattle.std.proofs.Common.{◌++◌, ap, ◌∙◌, decimal}
use Rattle.flow.specs.Spelling.{kind_fields, kind_name}
use Rattle.program_writer.proofs.WriteLemmas.{site-joined}
use Rattle.program_writer.proofs.write_site.push_site.Goals as goal

pub returns : goal.returns
returns c =
    let site = c.args.site.now in
    site-joined (kind_name site.kind) (decimal site.function) (decimal site.line) (decimal site.token) (kind_fields site.kind) c.args.out.now.items
    c.extend_from_slice.new.self.items c.extend_from_slice-2.new.self.items c.push_place.new.out.items c.push_kind.new.out.items c.push.new.self.items
    c.in_ok-extend_from_slice.ensures.items
    (c.in_ok-extend_from_slice-2.ensures.items ∙ ap (λ name. c.extend_from_slice.new.self.items ++ name) c.kind_name.ensures)
    c.in_ok-push_place.ensures c.in_ok-push_kind.ensures c.in_ok-push.ensures.items
