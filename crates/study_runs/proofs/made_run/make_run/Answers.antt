use Rattle.std.proofs.Common.{◌≡◌, ◌∙◌, ap, subst, sum}
use Rattle.rand_pcg.specs.Lcg.{increment_of, started}
use Rattle.rand_pcg.specs.Pcg.{multiplier_64}
use Rattle.countdown_bank.specs.MadeBank.{IsMadeBank, after_words}
use Rattle.study_runs.specs.MadeRun.{generator_of}
use Rattle.study_runs.proofs.Lines.{line_behind}
use Rattle.study_runs.proofs.made_run.make_run.Goals as goal

pub returns : goal.returns
returns c =
    let started_is : c.new-words.result ≡ generator_of c.args.seed c.args.number =
    c.new-words.ensures ∙ ap (λ n. started 64 multiplier_64 c.args.seed (increment_of 64 n)) c.from.ensures in
    record {
      bank_is = subst (λ g. IsMadeBank g c.args.rate 256 c.in_ok-bank.bank) started_is c.in_ok-bank.ensures.made;
      input_is = line_behind (generator_of c.args.seed c.args.number) _ (sum c.in_ok-bank.bank.numbers) _
          (c.in_ok-bank.ensures.moved ∙ ap (after_words (sum c.in_ok-bank.bank.numbers)) started_is) c.in_ok-input.ensures;
    }
