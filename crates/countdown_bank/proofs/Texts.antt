-- The lines of a bank's text and its numbers: each gives the other.
use Rattle.std.proofs.Common.{◌≡◌, ℕ, ◌+◌, ◌≤◌, List, [], ◌∷◌, ◌++◌, length, map, decimal, refl, sym, ap, subst, ◌∙◌, arith, append_assoc, length-append}
use Rattle.std.specs.Prelude.{All}
use Rattle.std.proofs.lemmas.List.{append-nil}
use Rattle.std.proofs.lemmas.List.Elements.{All-head, All-tail, All-cons, All-nil}
use Rattle.std.proofs.lemmas.Fmt.{decimal_injective}
use Rattle.cbi_base.specs.Words.{AreLines, Lacks, is_newline, line_with_newline, text_of, LeadsTo, ReadsLines}
use Rattle.cbi_base.proofs.FieldLemmas.{IsField-decimal, field-lacks-newline}
use Rattle.cbi_base.proofs.TextLemmas.{cut-once}
use Rattle.countdown_bank.specs.Bank.{IsCountdown, AreNumbers, most_numbers}
use Rattle.countdown_bank.specs.BankFile.{numbers_text, NumberFollows, MayEnd}

line-lacks : (n : ℕ) → IsCountdown n → Lacks is_newline (decimal n)
line-lacks n h = field-lacks-newline (decimal n) (IsField-decimal n (omega (arith, h.1)))

-- the lines of numbers are lines
are-lines : (ns : List ℕ) → All IsCountdown ns → AreLines (map decimal ns)
are-lines [] all = tt
are-lines (n ∷ ns) all = (line-lacks n (All-head IsCountdown n ns all), are-lines ns (All-tail IsCountdown n ns all))

-- the lines of numbers follow one another, as long as there is room
leads : (before ns : List ℕ) → length before + length ns ≤ most_numbers → All IsCountdown ns → LeadsTo NumberFollows before (map decimal ns) (before ++ ns)
leads before [] room all = sym (append-nil before)
leads before (n ∷ ns) room all =
    let rest = leads (before ++ n ∷ []) ns (omega (arith, length-append before (n ∷ []))) (All-tail IsCountdown n ns all) in (
      before ++ n ∷ [],
      record {
        number = n;
        is_countdown = All-head IsCountdown n ns all;
        room = omega arith;
        line_is = refl;
        after_is = refl;
      },
      subst (LeadsTo NumberFollows (before ++ n ∷ []) (map decimal ns)) (append_assoc before (n ∷ []) ns) rest,
    )

pub numbers-read : (ns : List ℕ) (text : List ℕ) → AreNumbers ns → text ≡ numbers_text ns → ReadsLines NumberFollows MayEnd [] text ns
numbers-read ns text are is = record {
  lines = map decimal ns;
  text_is = is;
  are_lines = are-lines ns are.each;
  leads = leads [] ns (omega (arith, are.few)) are.each;
  over = are.some;
}

-- lines that follow one another are those of numbers
record Led (before : List ℕ) (lines : List (List ℕ)) (to : List ℕ) : Type 0 where
  pub more : List ℕ
  pub lines_are : lines ≡ map decimal more
  pub to_is : to ≡ before ++ more
  pub each : All IsCountdown more
  pub few : length before ≤ most_numbers → length to ≤ most_numbers

led : (before : List ℕ) (lines : List (List ℕ)) (to : List ℕ) → LeadsTo NumberFollows before lines to → Led before lines to
led before [] to is = record {
  more = [];
  lines_are = refl;
  to_is = sym is ∙ sym (append-nil before);
  each = All-nil IsCountdown;
  few = λ h. omega (arith, ap length is);
}
led before (line ∷ lines) to is =
    let first = is.1 in
    let rest = led is.0 lines to is.2 in
    let grown : length is.0 ≡ length before + 1 = ap length first.after_is ∙ length-append before (first.number ∷ []) in record {
      more = first.number ∷ rest.more;
      lines_are = cc (first.line_is, rest.lines_are);
      to_is = rest.to_is ∙ ap (λ l. l ++ rest.more) first.after_is ∙ append_assoc before (first.number ∷ []) rest.more;
      each = All-cons IsCountdown first.number rest.more first.is_countdown rest.each;
      few = λ h. rest.few (omega (arith, grown, first.room));
    }

pub read-are_numbers : (text to : List ℕ) → ReadsLines NumberFollows MayEnd [] text to → AreNumbers to
read-are_numbers text to reads =
    let l = led [] reads.lines to reads.leads in record {
      some = reads.over;
      few = l.few (omega arith);
      each = subst (All IsCountdown) (sym l.to_is) l.each;
    }

pub read-text : (text to : List ℕ) → ReadsLines NumberFollows MayEnd [] text to → text ≡ numbers_text to
read-text text to reads =
    let l = led [] reads.lines to reads.leads in
    reads.text_is ∙ ap text_of (l.lines_are ∙ ap (map decimal) (sym l.to_is))

-- a text is that of one list of numbers
text-once : (xs ys : List ℕ) → All IsCountdown xs → All IsCountdown ys → numbers_text xs ≡ numbers_text ys → xs ≡ ys
text-once [] [] hx hy same = refl
text-once [] (b ∷ ys) hx hy same = absurd (omega (arith, ap length same, length-append (line_with_newline (decimal b)) (numbers_text ys), length-append (decimal b) (10 ∷ [])))
text-once (a ∷ xs) [] hx hy same = absurd (omega (arith, ap length same, length-append (line_with_newline (decimal a)) (numbers_text xs), length-append (decimal a) (10 ∷ [])))
text-once (a ∷ xs) (b ∷ ys) hx hy same =
    let ha = All-head IsCountdown a xs hx in
    let hb = All-head IsCountdown b ys hy in
    let cut : decimal a ++ 10 ∷ numbers_text xs ≡ decimal b ++ 10 ∷ numbers_text ys =
    sym (append_assoc (decimal a) (10 ∷ []) (numbers_text xs)) ∙ same ∙ append_assoc (decimal b) (10 ∷ []) (numbers_text ys) in
    let parts = cut-once is_newline 10 refl (decimal a) (decimal b) (numbers_text xs) (numbers_text ys) (line-lacks a ha) (line-lacks b hb) cut in
    let head = decimal_injective a b (omega (arith, ha.1)) (omega (arith, hb.1)) parts.0 in
    let tail = text-once xs ys (All-tail IsCountdown a xs hx) (All-tail IsCountdown b ys hy) parts.1 in
    cc (head, tail)

pub one-bank : (xs ys : List ℕ) → AreNumbers xs → AreNumbers ys → numbers_text xs ≡ numbers_text ys → xs ≡ ys
one-bank xs ys hx hy same = text-once xs ys hx.each hy.each same
