-- Each function of an accepted text has a signature, and a body that fits.
use Rattle.std.proofs.Common.{◌≡◌, ℕ, zero, suc, ◌+◌, ◌<◌, ◌≤◌, inl, inr, refl, sym, ap, subst, arith, List, [], ◌∷◌, Option, Some, None, length, slice_get}
use Rattle.std.specs.Prelude.{sum_by}
use Rattle.std.proofs.lemmas.List.Sums.{sum_by-cons}
use Rattle.base_lists.proofs.Lists.{item_there}
use Rattle.c_syntax.specs.Words.{SourceTree, EntryList}
use Rattle.c_types_expressions.specs.declared.walk.Definition.{Definition}
use Rattle.c_types_expressions.specs.declared.walk.Walk.{Walk}
use Rattle.flow.specs.declared.scope.Names.{Names}
use Rattle.flow.specs.declared.site.Site.{Site}
use Rattle.flow.specs.declared.site.TableParts.{TableParts}
use Rattle.flow.specs.Limits.{site_limit}
use Rattle.c_meaning.specs.Words.{Signature, Sites, function_bodies, facts_of, Source, source_of, sites_by_table}
use Rattle.sites.specs.Wanted.{no_schemes}
use Rattle.c_meaning_laws.specs.TypedSource.{TypedBody}
use Rattle.c_meaning_laws.specs.TypedText.{TypedText}
use Rattle.c_meaning_sound.specs.Accepted.{IsAcceptedTree}
use Rattle.c_meaning_sound.specs.Sited.{count_of}
use Rattle.c_meaning_sound.proofs.Whole.{none_fits, table_fits}
use Rattle.lower_relation.specs.Room.{function_room, functions_room}
use Rattle.lower_fits.specs.Owned.{BodyOwns}
use Rattle.lower_fits.specs.TextNames.{names_of_text}
use Rattle.lower_fits.proofs.FactsFitting.{facts_fit}
use Rattle.lower_fits.proofs.NotesOfItems.{offsets_near}
use Rattle.lower_fits.proofs.Owning.{none_owned, table_owned}
use Rattle.lower_fits.proofs.RoomOfFunctions.{few_nodes, first_apart}
use Rattle.lower_fits.specs.Fitting.{BodyStands}
use Rattle.lower_fits.proofs.Bodies.{body_stands}
use Rattle.lower_fits.specs.Brought.{IsSigned}
use Rattle.lower_fits.proofs.LocalSizes.{definition_signed, locals_fit}
use Rattle.lower_fits.proofs.Variables.{locals_together}
use Rattle.lower_fits.proofs.Formatting.{body_formatted}
use Rattle.lower_fits.specs.Ready.{AreSitesOf, IsReadyText}
use Rattle.lower.specs.Fits.{AreFitting, HasFitting, IsFitting}

-- one function's locals are no more than those of all together
one_of_all : (ds : List Definition) (number : ℕ) (d : Definition) → slice_get ds number ≡ Some d → d.count ≤ sum_by count_of ds
one_of_all [] number d e = absurd (cc)
one_of_all (x ∷ ds) zero d e =
    let same : x ≡ d = cc in
    omega (arith, sum_by-cons count_of x ds, ap count_of same)
one_of_all (x ∷ ds) (suc number) d e = omega (arith, sum_by-cons count_of x ds, one_of_all ds number d e)

module _ (tree : SourceTree) (walk : Walk) (accepted : IsAcceptedTree tree walk) where
  -- the types of the text fit with these sites
  types_fit : (sites : List Site) → AreSitesOf tree walk sites → TypedText tree walk sites
  types_fit sites (inl e) = subst (TypedText tree walk) (sym e) (none_fits tree walk accepted)
  types_fit sites (inr h) = subst (TypedText tree walk) (sym h.1) (table_fits tree walk h.0 accepted)

  -- each body owns the sites that stand within it
  sites_owned : (sites : List Site) (number : ℕ) (body : EntryList) → AreSitesOf tree walk sites → slice_get (function_bodies tree) number ≡ Some body →
      BodyOwns sites number body
  sites_owned sites number body (inl e) at =
      subst (λ (xs : List Site). BodyOwns xs number body) (sym e) (none_owned tree walk no_schemes number body accepted.formed.shaped at)
  sites_owned sites number body (inr h) at =
      subst (λ (xs : List Site). BodyOwns xs number body) (sym h.1) (table_owned tree walk h.0 number body accepted.formed.shaped at)

-- one function has no more room than all of them, but where it has no body
one_room : (sites : Sites) (xs : List EntryList) (number : ℕ) → function_room sites (slice_get xs number) ≤ functions_room sites (slice_get xs) (length xs) + 9
one_room sites [] number = omega arith
one_room sites (x ∷ xs) zero = omega (arith, first_apart sites (slice_get (x ∷ xs)) (length xs))
one_room sites (x ∷ xs) (suc number) = omega (arith, first_apart sites (slice_get (x ∷ xs)) (length xs), one_room sites xs number)

module _ (tree : SourceTree) (walk : Walk) (table : TableParts) (ready : IsReadyText tree walk table) (few : length table.sites ≤ site_limit) where
  abbrev src : Source
  src = source_of tree walk table.sites

  abbrev names : Names
  names = names_of_text tree walk table.sites

  -- a body whose types fit
  body_fits : (number : ℕ) (f : Signature) (body : Option EntryList) → slice_get (function_bodies tree) number ≡ body →
      TypedBody (facts_of tree walk) (sites_by_table table.sites) f body → HasFitting src names number f body
  body_fits number f None at typed = typed
  body_fits number f (Some body) at typed =
      let owns : BodyOwns table.sites number body = sites_owned tree walk ready.whole.accepted table.sites number body ready.sites at in
      let stands : BodyStands tree body = body_stands tree number body ready.whole.accepted.formed.shaped ready.whole.constants at in (
        owns.lo,
        λ count. record {
          facts_fit = facts_fit tree walk table.sites ready.whole.accepted (offsets_near tree walk ready.whole.accepted);
          texts = refl;
          locals = refl;
          typed = typed;
          formats = body_formatted tree walk number body ready.whole.accepted at;
          placed = owns.placed;
          owned = owns.owned;
          constants = stands.constants;
          few = omega (arith, stands.within, ready.whole.short);
        },
      )

  -- a function that is defined
  defined_fits : (number : ℕ) (d : Definition) → slice_get walk.definitions number ≡ Some d → IsFitting src names number
  defined_fits number d at =
      let signed : IsSigned (facts_of tree walk) number d = definition_signed tree walk ready.whole.accepted number d at in
      record {
        signature = signed.own;
        known = signed.is;
        params = (locals_fit tree walk ready.whole.accepted number signed.own signed.is).few;
        few = omega (
          arith,
          signed.counts,
          one_of_all walk.definitions number d at,
          locals_together tree walk ready.whole.accepted ready.whole.sited,
        );
        room = omega (
          arith,
          one_room (sites_by_table table.sites) (function_bodies tree) number,
          few_nodes tree table.sites ready.whole.accepted.formed.shaped,
          ready.whole.short,
          few,
        );
        body = body_fits number signed.own (slice_get (function_bodies tree) number) refl
            ((types_fit tree walk ready.whole.accepted table.sites ready.sites).functions number signed.own signed.is);
      }

  -- all of them
  pub are_fitting : AreFitting src names (length walk.definitions)
  are_fitting number low =
      let d : (one : Definition) × (slice_get walk.definitions number ≡ Some one) = item_there walk.definitions number low in
      defined_fits number d.0 d.1
