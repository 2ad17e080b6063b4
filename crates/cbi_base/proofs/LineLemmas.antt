-- Texts of lines: how reading goes on, and where it stops.
use Rattle.std.proofs.Common.{◌≡◌, ◌≤◌, ℕ, ◌+◌, List, [], ◌∷◌, ◌++◌, length, ap, sym, subst, ◌∙◌, refl, append_assoc, length-append, arith}
use Rattle.std.proofs.lemmas.List.{append-nil}
use Rattle.cbi_base.specs.Text.{Lacks, AreLines, is_newline, line_with_newline, text_of}
use Rattle.cbi_base.specs.Lines.{LeadsOnce, LeadsTo, ReadsLines, IsGoodPrefix, Stops, IsBadLine, line_after}
use Rattle.cbi_base.proofs.TextLemmas.{cut-once, lacks-mark, text_of-more, AreLines-more}

-- the lines so far lead on by one more
pub LeadsTo-more : {D : Type 0} (follows : D → List ℕ → D → Type 0) (lines : List (List ℕ)) (line : List ℕ) (from via to : D) → LeadsTo follows from lines via → follows via line to → LeadsTo follows from (lines ++ line ∷ []) to
LeadsTo-more follows [] line from via to leads next = (to, subst (λ d. follows d line to) (sym leads) next, refl)
LeadsTo-more follows (l ∷ ls) line from via to leads next = (leads.0, leads.1, LeadsTo-more follows ls line leads.0 via to leads.2 next)

-- nothing is no line
pub nothing-line : (line more : List ℕ) → [] ≡ line_with_newline line ++ more → ⊥
nothing-line line more is = omega (arith, ap length is, length-append {A = ℕ} (line_with_newline line) more, length-append {A = ℕ} line (10 ∷ []))

-- the first line, its end, and what comes after it
first-line : (line more rest : List ℕ) → (line_with_newline line ++ more) ++ rest ≡ line ++ 10 ∷ (more ++ rest)
first-line line more rest = append_assoc (line_with_newline line) more rest ∙ append_assoc line (10 ∷ []) (more ++ rest)

-- a line that comes first in two texts that are the same, and what follows it in both
pub same-line : (l m x y : List ℕ) → Lacks is_newline l → Lacks is_newline m → l ++ 10 ∷ x ≡ m ++ 10 ∷ y → (l ≡ m) × (x ≡ y)
same-line l m x y ll lm is = cut-once is_newline 10 refl l m x y ll lm is

-- two states that one line leads to are the same
meets : {D : Type 0} (follows : D → List ℕ → D → Type 0) → LeadsOnce follows → (from a b : D) (l m : List ℕ) → l ≡ m → follows from l a → follows from m b → a ≡ b
meets follows once from a b l m same p q = once from l a b p (subst (λ t. follows from t b) (sym same) q)

-- a good prefix isn't longer than one at which reading stops
pub longest : {D : Type 0} (follows : D → List ℕ → D → Type 0) (ends : D → Type 0) → LeadsOnce follows → (from to at : D) (good other : List (List ℕ)) (rest left : List ℕ) → text_of good ++ rest ≡ text_of other ++ left → AreLines good → AreLines other → LeadsTo follows from good to → LeadsTo follows from other at → Stops follows ends at left → length good ≤ length other
longest follows ends once from to at [] other rest left is are others leads goes stops = omega arith
longest follows ends once from to at (l ∷ ls) [] rest left is are others leads goes stops =
    absurd (stops.no_line l (text_of ls ++ rest) leads.0 are.0 (sym is ∙ append_assoc (line_with_newline l) (text_of ls) rest) (subst (λ d. follows d l leads.0) goes leads.1))
longest follows ends once from to at (l ∷ ls) (m ∷ ms) rest left is are others leads goes stops =
    let same = same-line l m (text_of ls ++ rest) (text_of ms ++ left) are.0 others.0 (sym (first-line l (text_of ls) rest) ∙ is ∙ first-line m (text_of ms) left) in
    let met = meets follows once from leads.0 goes.0 l m same.0 leads.1 goes.1 in
    omega (arith, longest follows ends once leads.0 to at ls ms rest left same.1 are.1 others.1 leads.2 (subst (λ d. LeadsTo follows d ms at) (sym met) goes.2) stops)

-- the bad line lies behind each good prefix
pub bad-behind : {D : Type 0} (follows : D → List ℕ → D → Type 0) (ends : D → Type 0) → LeadsOnce follows → (from to : D) (text rest : List ℕ) (good : List (List ℕ)) (line : ℕ) → IsGoodPrefix follows from text good rest to → IsBadLine follows ends from text line → line_after (length good) ≤ line
bad-behind follows ends once from to text rest good line front bad =
    omega (arith, bad.number, longest follows ends once from to bad.state good bad.good rest bad.rest (sym front.text_is ∙ bad.prefix.text_is) front.are_lines bad.prefix.are_lines front.leads bad.prefix.leads bad.stops)

pub bad-stops : {D : Type 0} (follows : D → List ℕ → D → Type 0) (ends : D → Type 0) (from to : D) (text rest : List ℕ) (good : List (List ℕ)) → IsGoodPrefix follows from text good rest to → Stops follows ends to rest → IsBadLine follows ends from text (line_after (length good))
bad-stops follows ends from to text rest good front stops = record { good = good; rest = rest; state = to; prefix = front; stops = stops; number = refl }

-- a text has at most one bad line
pub bad-once : {D : Type 0} (follows : D → List ℕ → D → Type 0) (ends : D → Type 0) → LeadsOnce follows → (from : D) (text : List ℕ) (a b : ℕ) → IsBadLine follows ends from text a → IsBadLine follows ends from text b → a ≡ b
bad-once follows ends once from text a b p q =
    omega (arith, p.number, q.number, bad-behind follows ends once from p.state text p.rest p.good b p.prefix q, bad-behind follows ends once from q.state text q.rest q.good a q.prefix p)

-- lines that are the whole text don't stop within it
never-stops : {D : Type 0} (follows : D → List ℕ → D → Type 0) (ends : D → Type 0) → LeadsOnce follows → (from to at : D) (lines good : List (List ℕ)) (rest : List ℕ) → text_of lines ≡ text_of good ++ rest → AreLines lines → AreLines good → LeadsTo follows from lines to → LeadsTo follows from good at → ends to → Stops follows ends at rest → ⊥
never-stops follows ends once from to at [] [] rest is are others leads goes over stops =
    stops.no_end (sym is) (subst ends (sym leads ∙ goes) over)
never-stops follows ends once from to at [] (m ∷ ms) rest is are others leads goes over stops =
    nothing-line m (text_of ms ++ rest) (is ∙ append_assoc (line_with_newline m) (text_of ms) rest)
never-stops follows ends once from to at (l ∷ ls) [] rest is are others leads goes over stops =
    stops.no_line l (text_of ls) leads.0 are.0 (sym is) (subst (λ d. follows d l leads.0) goes leads.1)
never-stops follows ends once from to at (l ∷ ls) (m ∷ ms) rest is are others leads goes over stops =
    let same = same-line l m (text_of ls) (text_of ms ++ rest) are.0 others.0 (sym (append_assoc l (10 ∷ []) (text_of ls)) ∙ is ∙ first-line m (text_of ms) rest) in
    let met = meets follows once from leads.0 goes.0 l m same.0 leads.1 goes.1 in
    never-stops follows ends once leads.0 to at ls ms rest same.1 are.1 others.1 leads.2 (subst (λ d. LeadsTo follows d ms at) (sym met) goes.2) over stops

-- a text that can be read has no bad line
pub bad-never : {D : Type 0} (follows : D → List ℕ → D → Type 0) (ends : D → Type 0) → LeadsOnce follows → (from to : D) (text : List ℕ) (line : ℕ) → ReadsLines follows ends from text to → IsBadLine follows ends from text line → ⊥
bad-never follows ends once from to text line reads bad =
    never-stops follows ends once from to bad.state reads.lines bad.good bad.rest (sym reads.text_is ∙ bad.prefix.text_is) reads.are_lines bad.prefix.are_lines reads.leads bad.prefix.leads reads.over bad.stops

-- a text leads to one state
same-end : {D : Type 0} (follows : D → List ℕ → D → Type 0) → LeadsOnce follows → (from a b : D) (xs ys : List (List ℕ)) → text_of xs ≡ text_of ys → AreLines xs → AreLines ys → LeadsTo follows from xs a → LeadsTo follows from ys b → a ≡ b
same-end follows once from a b [] [] is are others leads goes = sym leads ∙ goes
same-end follows once from a b [] (y ∷ ys) is are others leads goes = absurd (nothing-line y (text_of ys) is)
same-end follows once from a b (x ∷ xs) [] is are others leads goes = absurd (nothing-line x (text_of xs) (sym is))
same-end follows once from a b (x ∷ xs) (y ∷ ys) is are others leads goes =
    let same = same-line x y (text_of xs) (text_of ys) are.0 others.0 (sym (append_assoc x (10 ∷ []) (text_of xs)) ∙ is ∙ append_assoc y (10 ∷ []) (text_of ys)) in
    let met = meets follows once from leads.0 goes.0 x y same.0 leads.1 goes.1 in
    same-end follows once leads.0 a b xs ys same.1 are.1 others.1 leads.2 (subst (λ d. LeadsTo follows d ys b) (sym met) goes.2)

pub reads-once : {D : Type 0} (follows : D → List ℕ → D → Type 0) (ends : D → Type 0) → LeadsOnce follows → (from a b : D) (text : List ℕ) → ReadsLines follows ends from text a → ReadsLines follows ends from text b → a ≡ b
reads-once follows ends once from a b text p q =
    same-end follows once from a b p.lines q.lines (sym p.text_is ∙ q.text_is) p.are_lines q.are_lines p.leads q.leads

-- one more line of a good prefix
pub good-more : {D : Type 0} (follows : D → List ℕ → D → Type 0) (from via to : D) (text rest line after : List ℕ) (good : List (List ℕ)) → IsGoodPrefix follows from text good rest via → rest ≡ line ++ 10 ∷ after → Lacks is_newline line → follows via line to → IsGoodPrefix follows from text (good ++ line ∷ []) after to
good-more follows from via to text rest line after good front is lacks next = record {
  text_is = front.text_is ∙ ap (λ t. text_of good ++ t) is ∙ text_of-more good line after;
  are_lines = AreLines-more good line front.are_lines lacks;
  leads = LeadsTo-more follows good line from via to front.leads next;
}

-- reading stops within a line that has no end
pub stops-within : {D : Type 0} (follows : D → List ℕ → D → Type 0) (ends : D → Type 0) (state : D) (rest : List ℕ) → Lacks is_newline rest → (rest ≡ [] → ⊥) → Stops follows ends state rest
stops-within follows ends state rest lacks some = record {
  no_line = λ next more after lacked is goes. lacks-mark is_newline 10 refl next more (subst (Lacks is_newline) (is ∙ append_assoc next (10 ∷ []) more) lacks);
  no_end = λ none over. some none;
}

-- reading stops at a line that may not come
pub stops-at : {D : Type 0} (follows : D → List ℕ → D → Type 0) (ends : D → Type 0) (state : D) (rest line after : List ℕ) → rest ≡ line ++ 10 ∷ after → Lacks is_newline line → ((next : D) → follows state line next → ⊥) → Stops follows ends state rest
stops-at follows ends state rest line after is lacks never = record {
  no_line = λ next more to lacked goes_on goes.
      let same = same-line next line more after lacked lacks (sym (goes_on ∙ append_assoc next (10 ∷ []) more) ∙ is) in
      never to (subst (λ t. follows state t to) same.0 goes);
  no_end = λ none over. nothing-line line after (sym none ∙ is ∙ sym (append_assoc line (10 ∷ []) after));
}

-- reading stops at the end of a text that may not end there
pub stops-behind : {D : Type 0} (follows : D → List ℕ → D → Type 0) (ends : D → Type 0) (state : D) (rest : List ℕ) → length rest ≡ 0 → (ends state → ⊥) → Stops follows ends state rest
stops-behind follows ends state [] none never = record {
  no_line = λ next more to lacked is goes. nothing-line next more is;
  no_end = λ is over. never over;
}
stops-behind follows ends state (b ∷ bs) none never = absurd (omega arith)

-- the good prefix is the whole text
pub reads-whole : {D : Type 0} (follows : D → List ℕ → D → Type 0) (ends : D → Type 0) (from to : D) (text rest : List ℕ) (good : List (List ℕ)) → IsGoodPrefix follows from text good rest to → length rest ≡ 0 → ends to → ReadsLines follows ends from text to
reads-whole follows ends from to text [] good front none over = record {
  lines = good;
  text_is = front.text_is ∙ append-nil (text_of good);
  are_lines = front.are_lines;
  leads = front.leads;
  over = over;
}
reads-whole follows ends from to text (b ∷ bs) good front none over = absurd (omega arith)

-- the bad line of a text, where so many of its lines were taken and this is the rest of it
pub record IsBadBehind {D : Type 0} (follows : D → List ℕ → D → Type 0) (ends : D → Type 0) (from : D) (text : List ℕ) (before line : ℕ) : Type 0 where
  pub good : List (List ℕ)
  pub rest : List ℕ
  pub state : D
  pub text_is : text ≡ text_of good ++ rest
  pub are_lines : AreLines good
  pub leads : LeadsTo follows from good state
  pub stops : Stops follows ends state rest
  pub number : line ≡ line_after (before + length good)

pub bad-begins : {D : Type 0} (follows : D → List ℕ → D → Type 0) (ends : D → Type 0) (from : D) (text : List ℕ) (line : ℕ) → IsBadLine follows ends from text line → IsBadBehind follows ends from text 0 line
bad-begins follows ends from text line bad = record {
  good = bad.good;
  rest = bad.rest;
  state = bad.state;
  text_is = bad.prefix.text_is;
  are_lines = bad.prefix.are_lines;
  leads = bad.prefix.leads;
  stops = bad.stops;
  number = omega (arith, bad.number);
}

-- a line was taken: the bad line is behind it still
next-bad : {D : Type 0} (follows : D → List ℕ → D → Type 0) (ends : D → Type 0) (from to : D) (text line after : List ℕ) (before number : ℕ) → text ≡ line ++ 10 ∷ after → Lacks is_newline line → follows from line to → ((next : D) → follows from line next → to ≡ next)
    → (good : List (List ℕ)) (rest : List ℕ) (state : D) → text ≡ text_of good ++ rest → AreLines good → LeadsTo follows from good state → Stops follows ends state rest → number ≡ line_after (before + length good) → IsBadBehind follows ends to after (before + 1) number
next-bad follows ends from to text line after before number is lacks goes only [] rest state text_is are leads stops count =
    absurd (stops.no_line line after to lacks (sym text_is ∙ is ∙ sym (append_assoc line (10 ∷ []) after)) (subst (λ d. follows d line to) leads goes))
next-bad follows ends from to text line after before number is lacks goes only (l ∷ ls) rest state text_is are leads stops count =
    let same = same-line line l after (text_of ls ++ rest) lacks are.0 (sym is ∙ text_is ∙ first-line l (text_of ls) rest) in
    let met : to ≡ leads.0 = only leads.0 (subst (λ t. follows from t leads.0) (sym same.0) leads.1) in record {
      good = ls;
      rest = rest;
      state = state;
      text_is = same.1;
      are_lines = are.1;
      leads = subst (λ d. LeadsTo follows d ls state) (sym met) leads.2;
      stops = stops;
      number = omega (arith, count);
    }

pub bad-next : {D : Type 0} (follows : D → List ℕ → D → Type 0) (ends : D → Type 0) (from to : D) (text line after : List ℕ) (before number : ℕ) → text ≡ line ++ 10 ∷ after → Lacks is_newline line → follows from line to → ((next : D) → follows from line next → to ≡ next) → IsBadBehind follows ends from text before number → IsBadBehind follows ends to after (before + 1) number
bad-next follows ends from to text line after before number is lacks goes only bad =
    next-bad follows ends from to text line after before number is lacks goes only bad.good bad.rest bad.state bad.text_is bad.are_lines bad.leads bad.stops bad.number

-- reading stops here, so the bad line is here
bad-is-here : {D : Type 0} (follows : D → List ℕ → D → Type 0) (ends : D → Type 0) (from : D) (text : List ℕ) (before number : ℕ) → Stops follows ends from text
    → (good : List (List ℕ)) (rest : List ℕ) (state : D) → text ≡ text_of good ++ rest → AreLines good → LeadsTo follows from good state → number ≡ line_after (before + length good) → line_after before ≡ number
bad-is-here follows ends from text before number here [] rest state text_is are leads count = omega (arith, count)
bad-is-here follows ends from text before number here (l ∷ ls) rest state text_is are leads count =
    absurd (here.no_line l (text_of ls ++ rest) leads.0 are.0 (text_is ∙ append_assoc (line_with_newline l) (text_of ls) rest) leads.1)

pub bad-here : {D : Type 0} (follows : D → List ℕ → D → Type 0) (ends : D → Type 0) (from : D) (text : List ℕ) (before number : ℕ) → Stops follows ends from text → IsBadBehind follows ends from text before number → line_after before ≡ number
bad-here follows ends from text before number here bad =
    bad-is-here follows ends from text before number here bad.good bad.rest bad.state bad.text_is bad.are_lines bad.leads bad.number

-- nothing is left and the text may end here, so there is no bad line
no-bad-left : {D : Type 0} (follows : D → List ℕ → D → Type 0) (ends : D → Type 0) (from : D) (text : List ℕ) → length text ≡ 0 → ends from
    → (good : List (List ℕ)) (rest : List ℕ) (state : D) → text ≡ text_of good ++ rest → LeadsTo follows from good state → Stops follows ends state rest → ⊥
no-bad-left follows ends from [] none over [] rest state text_is leads stops = stops.no_end (sym text_is) (subst ends leads over)
no-bad-left follows ends from [] none over (l ∷ ls) rest state text_is leads stops = nothing-line l (text_of ls ++ rest) (text_is ∙ append_assoc (line_with_newline l) (text_of ls) rest)
no-bad-left follows ends from (b ∷ bs) none over good rest state text_is leads stops = absurd (omega arith)

pub bad-left : {D : Type 0} (follows : D → List ℕ → D → Type 0) (ends : D → Type 0) (from : D) (text : List ℕ) (before number : ℕ) → length text ≡ 0 → ends from → IsBadBehind follows ends from text before number → ⊥
bad-left follows ends from text before number none over bad =
    no-bad-left follows ends from text none over bad.good bad.rest bad.state bad.text_is bad.leads bad.stops

-- a reading of a text that begins with this line goes on after it
next-reads : {D : Type 0} (follows : D → List ℕ → D → Type 0) (ends : D → Type 0) (from via to : D) (text line after : List ℕ) → text ≡ line ++ 10 ∷ after → Lacks is_newline line → ((next : D) → follows from line next → via ≡ next)
    → (lines : List (List ℕ)) → text ≡ text_of lines → AreLines lines → LeadsTo follows from lines to → ends to → ReadsLines follows ends via after to
next-reads follows ends from via to text line after is lacks only [] text_is are leads over =
    absurd (nothing-line line after (sym text_is ∙ is ∙ sym (append_assoc line (10 ∷ []) after)))
next-reads follows ends from via to text line after is lacks only (l ∷ ls) text_is are leads over =
    let same = same-line line l after (text_of ls) lacks are.0 (sym is ∙ text_is ∙ append_assoc l (10 ∷ []) (text_of ls)) in
    let met : via ≡ leads.0 = only leads.0 (subst (λ t. follows from t leads.0) (sym same.0) leads.1) in record {
      lines = ls;
      text_is = same.1;
      are_lines = are.1;
      leads = subst (λ d. LeadsTo follows d ls to) (sym met) leads.2;
      over = over;
    }

pub reads-next : {D : Type 0} (follows : D → List ℕ → D → Type 0) (ends : D → Type 0) (from via to : D) (text line after : List ℕ) → text ≡ line ++ 10 ∷ after → Lacks is_newline line → ((next : D) → follows from line next → via ≡ next) → ReadsLines follows ends from text to → ReadsLines follows ends via after to
reads-next follows ends from via to text line after is lacks only reads =
    next-reads follows ends from via to text line after is lacks only reads.lines reads.text_is reads.are_lines reads.leads reads.over

-- where reading stops, nothing more is read
stops-reads : {D : Type 0} (follows : D → List ℕ → D → Type 0) (ends : D → Type 0) (from to : D) (text : List ℕ) → Stops follows ends from text → (lines : List (List ℕ)) → text ≡ text_of lines → AreLines lines → LeadsTo follows from lines to → ends to → ⊥
stops-reads follows ends from to text here [] text_is are leads over = here.no_end text_is (subst ends (sym leads) over)
stops-reads follows ends from to text here (l ∷ ls) text_is are leads over = here.no_line l (text_of ls) leads.0 are.0 text_is leads.1

pub reads-here : {D : Type 0} (follows : D → List ℕ → D → Type 0) (ends : D → Type 0) (from to : D) (text : List ℕ) → Stops follows ends from text → ReadsLines follows ends from text to → ⊥
reads-here follows ends from to text here reads = stops-reads follows ends from to text here reads.lines reads.text_is reads.are_lines reads.leads reads.over

-- nothing is left, so nothing more is read
left-reads : {D : Type 0} (follows : D → List ℕ → D → Type 0) (from to : D) (text : List ℕ) → length text ≡ 0 → (lines : List (List ℕ)) → text ≡ text_of lines → LeadsTo follows from lines to → from ≡ to
left-reads follows from to [] none [] text_is leads = leads
left-reads follows from to [] none (l ∷ ls) text_is leads = absurd (nothing-line l (text_of ls) text_is)
left-reads follows from to (b ∷ bs) none lines text_is leads = absurd (omega arith)

pub reads-left : {D : Type 0} (follows : D → List ℕ → D → Type 0) (ends : D → Type 0) (from to : D) (text : List ℕ) → length text ≡ 0 → ReadsLines follows ends from text to → from ≡ to
reads-left follows ends from to text none reads = left-reads follows from to text none reads.lines reads.text_is reads.leads
