use Rattle.std.proofs.Common.{◌≡◌, length, map}
use Rattle.c_syntax.specs.Spelling.{tree_kinds}
use Rattle.c_meaning_sound.specs.Sited.{local_counts}
use Rattle.lower_fits.proofs.Functions.{counts_same, distinct_functions, functions_as_many, functions_stand, main_there}
use Rattle.lower_fits.proofs.Limits.{few_functions, sites_fit}
use Rattle.lower_fits.proofs.programs.parts_of_an_accepted_text_are_a_program.Goals as goal

pub returns : goal.returns
returns c = λ tree walk table globals functions ready parts few.
    let a = ready.whole.accepted in
    let s = ready.whole.sited in
    let law = c.functions_of_an_accepted_text_fit.ensures in
    let names_many = law.as_many tree walk a in
    let many : length functions ≡ length walk.definitions =
    functions_as_many tree walk table globals functions ready parts names_many in
    let counts : map (λ f. length f.locals) functions ≡ local_counts walk =
    counts_same tree walk table globals functions ready parts names_many (law.signed tree walk a) in
    record {
      parts = record {
        texts = c.texts_of_an_accepted_text_fit.ensures.fit tree walk a s ready.whole.bytes;
        globals = c.globals_of_an_accepted_text_fit.ensures.fit tree walk globals a s ready.whole.constants parts.objects;
        few = few_functions functions walk.definitions (length (tree_kinds tree)) (length table.sites) many counts (law.some tree walk a)
            (law.few tree walk a s) (law.together tree walk a s) parts.few ready.whole.short few;
        main = main_there tree walk table globals functions ready parts names_many (law.main tree walk a);
        sites = sites_fit tree walk table.sites (map (λ f. length f.locals) functions) (length globals) counts parts.count few ready.sites
            (λ schemes. c.sites_of_an_accepted_text_stand.ensures.stand tree walk schemes a s);
      };
      distinct = distinct_functions tree walk table globals functions ready parts (law.distinct tree walk a);
      functions = functions_stand tree walk table globals functions ready parts names_many (law.names tree walk a s) (law.locals tree walk a);
    }
