use Rattle.std.proofs.Common.{◌≡◌, refl, sym, ap, ◌∙◌}
use Rattle.std.specs.Cmp.Lexicographic.{other_text, same_text}
use Rattle.std.specs.Result.{result_ok}
use Rattle.std.proofs.lemmas.Bool.{false≢true}
use Rattle.cbi_base.specs.ProgramId.{text_of_id}
use Rattle.cbi_base.proofs.IdLemmas.{decodes-to, IsId-decoded, IsIdText-spells, IsIdText-text_of_id}
use Rattle.cbi_base.proofs.identity.read_id.Goals as goal

pub returns-in_err-ok-clause-only : goal.returns-in_err-ok-clause-only
returns-in_err-ok-clause-only c = λ id is same.
    let read = decodes-to _ _ id _ is same c.decode_to_slice.ensures.value in
    cc (ap result_ok read.0, c.in_err-ok.ensures.value)

pub returns-in_err-ok-clause-found : goal.returns-in_err-ok-clause-found
returns-in_err-ok-clause-found c = (
  λ some. absurd (false≢true (rw c.from_residual.ensures at some)),
  λ digits.
      let spelled = IsIdText-spells c.args.text.now digits in
      let read = decodes-to _ _ spelled.id _ spelled.is spelled.text_is c.decode_to_slice.ensures.value in
      cc (ap result_ok read.0, c.in_err-ok.ensures.value),
)

pub returns-then-eq-clause-found : goal.returns-then-eq-clause-found
returns-then-eq-clause-found c = (
  λ h.
      let is = IsId-decoded c.args.text.now _ _ _ c.in_ok-ok.ensures.value c.decode_to_slice.auto.out c.decode_to_slice.ensures.value in
      let same : c.args.text.now ≡ text_of_id (record { bytes = c.decode_to_slice.new.out }) = sym (same_text _ _ c.if-eq.ensures) ∙ c.as_slice.ensures ∙ c.id_text.ensures in
      rw same (IsIdText-text_of_id _ is),
  λ h. refl,
)

pub returns-then-eq-clause-only : goal.returns-then-eq-clause-only
returns-then-eq-clause-only c = λ id is same.
    let read = decodes-to _ _ id _ is same c.decode_to_slice.ensures.value in
    rw read.1 refl

pub returns-else-eq-clause-only : goal.returns-else-eq-clause-only
returns-else-eq-clause-only c = λ id is same.
    let read = decodes-to _ _ id _ is same c.decode_to_slice.ensures.value in
    absurd (other_text _ _ c.if-eq.ensures (c.as_slice.ensures ∙ c.id_text.ensures ∙ ap (λ bs. text_of_id (record { bytes = bs })) read.1 ∙ sym same))

pub returns-else-eq-clause-found : goal.returns-else-eq-clause-found
returns-else-eq-clause-found c = (
  λ h. absurd (false≢true h),
  λ digits.
      let spelled = IsIdText-spells c.args.text.now digits in
      let read = decodes-to _ _ spelled.id _ spelled.is spelled.text_is c.decode_to_slice.ensures.value in
      absurd (other_text _ _ c.if-eq.ensures (c.as_slice.ensures ∙ c.id_text.ensures ∙ ap (λ bs. text_of_id (record { bytes = bs })) read.1 ∙ sym spelled.text_is)),
)
