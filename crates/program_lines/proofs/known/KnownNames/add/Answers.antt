use Rattle.std.proofs.Common.{◌≡◌, ◌⊎◌, ◌↔◌, ℕ, List, sym, subst}
use Rattle.std.specs.BTreeSet.{insert_key}
use Rattle.std.specs.Global.{Vec}
use Rattle.program_lines.specs.Known.{Knows}
use Rattle.program_lines.proofs.KnownLemmas.{insert-is, key_names, vec_cmp}
use Rattle.program_lines.proofs.known.KnownNames.add.Goals as goal

pub returns-clause-ok : goal.returns-clause-ok
returns-clause-ok c = λ other.
    let before = c.self.inside.names.keys in
    let name = c.in_ok-name.name in
    let keys : c.insert.new.self.keys ≡ insert_key vec_cmp before name = c.in_ok-insert.ensures.keys in
    let text : name.items ≡ c.args.name.now = c.in_ok-name.ensures.items in
    let all : Knows (key_names c.insert.new.self.keys) other ↔ ((name.items ≡ other) ⊎ Knows (key_names before) other) =
    subst (λ (ks : List (Vec ℕ)). Knows (key_names ks) other ↔ ((name.items ≡ other) ⊎ Knows (key_names before) other)) (sym keys) (insert-is other before name) in
    subst (λ (old : List (List ℕ)). Knows (key_names c.insert.new.self.keys) other ↔ ((c.args.name.now ≡ other) ⊎ Knows old other)) c.self.view_is
    (subst (λ (n : List ℕ). Knows (key_names c.insert.new.self.keys) other ↔ ((n ≡ other) ⊎ Knows (key_names before) other)) text all)
