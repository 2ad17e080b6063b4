use Rattle.headline.proofs.ListedRanked.{have-calls, same-text}
use Rattle.headline.proofs.listed.runs_are_their_calls.Goals as goal
use Rattle.std.proofs.Common.{refl}

pub returns-clause-calls : goal.returns-clause-calls
returns-clause-calls c = λ file text collection made texts left hold collect.
    same-text c.one_report.ensures c.one_collection.ensures c.written_collection.ensures c.order_does_not_matter.ensures.members c.order_does_not_matter.ensures.same
    c.one_ending.ensures c.one_program.ensures c.one_bank.ensures file text collection made texts left hold collect

pub returns-clause-banks : goal.returns-clause-banks
returns-clause-banks c = λ file held turns plan number made call. record { bank = made.bank; made = call.given.bank_is; text_is = call.bank_is.text }

pub returns-clause-each : goal.returns-clause-each
returns-clause-each c = λ held words texts parts plan runs tells are fits.
    let calls = have-calls held words texts.program parts plan plan.first runs are.are in (
      calls.made,
      record {
        held = held;
        tells = tells;
        words = words;
        texts = texts;
        parts = parts;
        plan = plan;
        runs = runs;
        are = are;
        program_is = refl;
        as_many = calls.as_many;
        calls = calls.are;
        fits = fits;
        text_is = refl;
      },
    )
