-- The signature of a function, by its number.
use Rattle.std.proofs.Common.{◌≡◌, ℕ, List, Option, Some, None, refl, ap, ◌∙◌}
use Rattle.std.specs.Prelude.{map, option_map, slice_get, unwrap_or}
use Rattle.std.proofs.lemmas.Option.{slice_get-map}
use Rattle.c_types_expressions.specs.declared.walk.Definition.{Definition}
use Rattle.c_types_expressions.specs.declared.walk.Walk.{Walk}
use Rattle.c_meaning.specs.Words.{Signature, signature_of}
use Rattle.lower_facts.specs.Signatures.{signature_of_entry}

of_entry : (w : Walk) (d : Option Definition) → unwrap_or (option_map (signature_of_entry w) d) None ≡ signature_of w d
of_entry w None = refl
of_entry w (Some d) = refl

pub signature_found : (w : Walk) (ds : List Definition) (all : List (Option Signature)) (n : ℕ) → all ≡ map (signature_of_entry w) ds →
    unwrap_or (slice_get all n) None ≡ signature_of w (slice_get ds n)
signature_found w ds all n is =
    ap (λ l. unwrap_or (slice_get l n) None) is ∙ ap (λ o. unwrap_or o None) (slice_get-map (signature_of_entry w) ds n) ∙ of_entry w (slice_get ds n)
