-- The example fits.
use Rattle.std.proofs.Common.{◌<◌, refl, ap, subst, [], ◌∷◌, arith}
use Rattle.std.specs.Option.{unwrap_or}
use Rattle.cbi_base.specs.declared.scalar.Kind.TheVariants.{Int}
use Rattle.c_meaning.specs.declared.value_type.ValueType.TheVariants as type
use Rattle.c_meaning.specs.Facts.{Signature}
use Rattle.c_meaning_laws.specs.Example.{example_source, example_facts, example_table}
use Rattle.c_meaning_laws.specs.TypedSource.{SourceFits, TypedBody}
use Rattle.c_meaning_laws.proofs.Tables.{every_table_fits}

abbrev main_signature : Signature
main_signature = record { params = []; result = type.Number Int; locals = 1 ∷ [] }

one_local : 0 < 1
one_local = omega arith

body_fits : TypedBody example_facts example_source.sites main_signature (example_source.body 0)
body_fits =
    ((one_local, (refl, tt, (tt, (refl, tt))), tt), ((((tt, one_local), tt), ((tt, refl), tt)), (((tt, one_local), tt), tt)))

pub example_fits : SourceFits example_source
example_fits = record {
  sites = every_table_fits example_table;
  bodies = λ number f e. subst (λ o. TypedBody example_facts example_source.sites o (example_source.body number)) (ap (λ o. unwrap_or o main_signature) e) body_fits;
  main = refl;
  objects = refl;
}
