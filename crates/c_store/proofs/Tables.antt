-- What a list of numbered objects answers, as the finite map of them does.
use Rattle.std.proofs.Common.{◌≡◌, ℕ, cond, List, [], ◌∷◌, Some, None, nat_eq, refl, ap, sym, ◌∙◌, arith}
use Rattle.std.specs.Ordering.{nat_cmp}
use Rattle.std.specs.Cmp.{nat_cmp_total, unsigned_tied}
use Rattle.std.specs.FinMap.{get, insert, remove, from_entries, get-insert, get-remove, get-from_entries, same_map, nat_cmp-IsAntisymmetric}
use Rattle.std.specs.FinMap.Entries.{find}
use Rattle.std.specs.Map.{lookup}
use Rattle.std.proofs.lemmas.Bool.Decides.{nat_tests}
use Rattle.cbi_base.specs.Objects.{Object}

find-lookup : (q : ℕ) (es : List (ℕ × Object)) → find nat_cmp q es ≡ lookup (nat_eq q) es
find-lookup q [] = refl
find-lookup q (e ∷ es) =
    ap (λ b. cond b (Some e.1) (find nat_cmp q es)) (unsigned_tied q e.0)
    ∙ ap (cond (nat_eq q e.0) (Some e.1)) (find-lookup q es)

pub get_table : (es : List (ℕ × Object)) (q : ℕ) → get {R = nat_cmp} (from_entries es) q ≡ lookup (nat_eq q) es
get_table es q = get-from_entries nat_cmp_total es q ∙ find-lookup q es

turned : (a b : ℕ) → nat_eq a b ≡ nat_eq b a
turned a b = grind (arith, nat_tests)

-- objects that differ at one number
pub inserted : (es fs : List (ℕ × Object)) (k : ℕ) (v : Object) → ((q : ℕ) → lookup (nat_eq q) fs ≡ cond (nat_eq k q) (Some v) (lookup (nat_eq q) es)) →
    from_entries {R = nat_cmp} fs ≡ insert (from_entries es) k v
inserted es fs k v h = same_map nat_cmp_total nat_cmp-IsAntisymmetric _ _ (λ q.
    get_table fs q
    ∙ h q
    ∙ ap (λ b. cond b (Some v) (lookup (nat_eq q) es)) (turned k q)
    ∙ ap (cond (nat_eq q k) (Some v)) (sym (get_table es q))
    ∙ ap (λ b. cond b (Some v) (get {R = nat_cmp} (from_entries es) q)) (sym (unsigned_tied q k))
    ∙ sym (get-insert nat_cmp_total (from_entries es) k v q))

pub removed : (es fs : List (ℕ × Object)) (k : ℕ) → ((q : ℕ) → lookup (nat_eq q) fs ≡ cond (nat_eq k q) None (lookup (nat_eq q) es)) →
    from_entries {R = nat_cmp} fs ≡ remove (from_entries es) k
removed es fs k h = same_map nat_cmp_total nat_cmp-IsAntisymmetric _ _ (λ q.
    get_table fs q
    ∙ h q
    ∙ ap (λ b. cond b None (lookup (nat_eq q) es)) (turned k q)
    ∙ ap (cond (nat_eq q k) None) (sym (get_table es q))
    ∙ ap (λ b. cond b None (get {R = nat_cmp} (from_entries es) q)) (sym (unsigned_tied q k))
    ∙ sym (get-remove nat_cmp_total (from_entries es) k q))
