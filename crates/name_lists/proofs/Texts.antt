-- The lines of a list's text and its names are the same.
use Rattle.std.proofs.Common.{◌≡◌, ℕ, ◌+◌, ◌<◌, ◌≤◌, List, [], ◌∷◌, ◌++◌, length, refl, sym, ap, subst, ◌∙◌, arith, append_assoc, length-append}
use Rattle.std.specs.Prelude.{All}
use Rattle.std.specs.Global.{Global}
use Rattle.std.proofs.lemmas.List.{append-nil}
use Rattle.std.proofs.lemmas.List.Elements.{All-head, All-tail, All-cons, All-nil}
use Rattle.cbi_base.specs.Words.{LeadsOnce, LeadsTo, ReadsLines, AreLines, text_of}
use Rattle.cbi_base.proofs.LineLemmas.{nothing-line, same-line}
use Rattle.name_lists.specs.declared.draft.Draft.{Draft}
use Rattle.name_lists.specs.Grammar.{ListEnds, NameFollows, start_of_list}
use Rattle.name_lists.specs.List.{IsFileName, SpellsList, greatest_run, most_names}

abbrev with_names : Draft → List (List ℕ) → Draft
with_names d names = record d { names = d.names ++ names }

-- these names were read
abbrev pub listed : Global → ℕ → List (List ℕ) → Draft
listed alloc first names = record (start_of_list alloc first) { names = names }

-- names follow one another, as long as there is room and a number for the run on each
leads : (d : Draft) (names : List (List ℕ)) → length d.names + length names ≤ most_names → d.first + (length d.names + length names) ≤ greatest_run + 1 → All IsFileName names → LeadsTo NameFollows d names (with_names d names)
leads d [] room numbers all = ap (λ (ns : List (List ℕ)). record d { names = ns }) (sym (append-nil d.names))
leads d (name ∷ names) room numbers all =
    let after = with_names d (name ∷ []) in
    let grown : length after.names ≡ length d.names + 1 = length-append {A = List ℕ} d.names (name ∷ []) in
    let rest = leads after names (omega (arith, grown)) (omega (arith, grown)) (All-tail IsFileName name names all) in (
      after,
      record {
        is_name = All-head IsFileName name names all;
        room = omega arith;
        has_number = omega arith;
        after_is = refl;
      },
      subst (λ (ns : List (List ℕ)). LeadsTo NameFollows after names (record d { names = ns })) (append_assoc d.names (name ∷ []) names) rest,
    )

-- what is spelled so can be read
pub spelled-reads : (alloc : Global) (first : ℕ) (text : List ℕ) (names : List (List ℕ)) → SpellsList first text names → ReadsLines NameFollows ListEnds (start_of_list alloc first) text (listed alloc first names)
spelled-reads alloc first text names is = record {
  lines = names;
  text_is = is.text_is;
  are_lines = is.are_lines;
  leads = leads (start_of_list alloc first) names (omega (arith, is.few)) (omega (arith, is.some, is.last_run)) is.each;
  over = is.some;
}

-- the first line that is read has a number for its run
begins : (d : Draft) (lines : List (List ℕ)) (to : Draft) → LeadsTo NameFollows d lines to → length d.names < length to.names → d.first + length d.names ≤ greatest_run
begins d [] to is more = absurd (omega (arith, more, ap (λ (x : Draft). length x.names) is))
begins d (line ∷ lines) to is more = is.1.has_number

-- lines that follow one another are names
record Led (d : Draft) (lines : List (List ℕ)) (to : Draft) : Type 0 where
  pub to_is : to ≡ with_names d lines
  pub each : All IsFileName lines
  pub few : length d.names ≤ most_names → length to.names ≤ most_names
  pub numbers : d.first + length d.names ≤ greatest_run + 1 → to.first + length to.names ≤ greatest_run + 1

led : (d : Draft) (lines : List (List ℕ)) (to : Draft) → LeadsTo NameFollows d lines to → Led d lines to
led d [] to is = record {
  to_is = sym is ∙ ap (λ (ns : List (List ℕ)). record d { names = ns }) (sym (append-nil d.names));
  each = All-nil IsFileName;
  few = λ h. omega (arith, h, ap (λ (x : Draft). length x.names) is);
  numbers = λ h. omega (arith, h, ap (λ (x : Draft). length x.names) is, ap (λ (x : Draft). x.first) is);
}
led d (line ∷ lines) to is =
    let next = is.1 in
    let rest = led is.0 lines to is.2 in
    let first_is : is.0.first ≡ d.first = ap (λ (x : Draft). x.first) next.after_is in
    let grown : length is.0.names ≡ length d.names + 1 = ap (λ (x : Draft). length x.names) next.after_is ∙ length-append {A = List ℕ} d.names (line ∷ []) in record {
      to_is = rest.to_is ∙ ap (λ (x : Draft). with_names x lines) next.after_is ∙ ap (λ (ns : List (List ℕ)). record d { names = ns }) (append_assoc d.names (line ∷ []) lines);
      each = All-cons IsFileName line lines next.is_name rest.each;
      few = λ h. rest.few (omega (arith, grown, next.room));
      numbers = λ h. rest.numbers (omega (arith, grown, first_is, next.has_number));
    }

-- what is read is spelled so
pub reads-spelled : (alloc : Global) (first : ℕ) (text : List ℕ) (to : Draft) → ReadsLines NameFollows ListEnds (start_of_list alloc first) text to → SpellsList first text to.names
reads-spelled alloc first text to reads =
    let l = led (start_of_list alloc first) reads.lines to reads.leads in
    let names_are : to.names ≡ reads.lines = ap (λ (x : Draft). x.names) l.to_is in
    let first_is : to.first ≡ first = ap (λ (x : Draft). x.first) l.to_is in
    let begun : first + 0 ≤ greatest_run = begins (start_of_list alloc first) reads.lines to reads.leads reads.over in
    let numbers : to.first + length to.names ≤ greatest_run + 1 = l.numbers (omega (arith, begun)) in
    let some : 1 ≤ length to.names = reads.over in record {
      some = some;
      few = l.few (omega arith);
      each = subst (All IsFileName) (sym names_are) l.each;
      last_run = omega (arith, first_is, numbers, some);
      are_lines = subst AreLines (sym names_are) reads.are_lines;
      text_is = reads.text_is ∙ ap text_of (sym names_are);
    }

pub leads-once : LeadsOnce NameFollows
leads-once = λ from line a b x y. x.after_is ∙ sym y.after_is

-- lines are cut in one way
same-lines : (xs ys : List (List ℕ)) → AreLines xs → AreLines ys → text_of xs ≡ text_of ys → xs ≡ ys
same-lines [] [] hx hy same = refl
same-lines [] (y ∷ ys) hx hy same = absurd (nothing-line y (text_of ys) same)
same-lines (x ∷ xs) [] hx hy same = absurd (nothing-line x (text_of xs) (sym same))
same-lines (x ∷ xs) (y ∷ ys) hx hy same =
    let parts = same-line x y (text_of xs) (text_of ys) hx.0 hy.0 (sym (append_assoc x (10 ∷ []) (text_of xs)) ∙ same ∙ append_assoc y (10 ∷ []) (text_of ys)) in
    let rest = same-lines xs ys hx.1 hy.1 parts.1 in
    cc (parts.0, rest)

pub one-list : (first other : ℕ) (text : List ℕ) (a b : List (List ℕ)) → SpellsList first text a → SpellsList other text b → a ≡ b
one-list first other text a b x y = same-lines a b x.are_lines y.are_lines (sym x.text_is ∙ y.text_is)
