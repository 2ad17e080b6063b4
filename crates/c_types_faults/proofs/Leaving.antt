-- What a part of a function leaves: where the scopes end that it declares, and which of them are still open.
use Rattle.std.proofs.Common.{◌⊎◌, inl, inr, ⊎_elim, ◌≡◌, ℕ, suc, ◌+◌, ◌-◌, ◌≤◌, ◌<◌, max, nat_lt, true, false, Bool, List, [], ◌∷◌, ◌++◌, length, map, reverse, Option, Some, None, refl, sym, ap, ◌∙◌, subst, append_assoc, arith, length-append}
use Rattle.std.specs.Prelude.{slice_set}
use Rattle.std.proofs.Math.Nat.{le-max_left, le-max_right}
use Rattle.std.proofs.lemmas.Bool.Decides.{nat_tests}
use Rattle.std.proofs.lemmas.List.{append-nil, length-map, map-append, reverse-append}
use Rattle.base_lists.proofs.Numbers.{max_most}
use Rattle.c_types_rules.specs.TypeTree.{TypeTree}
use Rattle.c_types_expressions.specs.declared.names.Meaning.{Meaning}
use Rattle.c_types_expressions.specs.declared.names.Meaning.TheVariants as meaning
use Rattle.c_types_expressions.specs.declared.names.ScopeEntry.{ScopeEntry}
use Rattle.c_types_expressions.specs.declared.names.ScopeEntry.TheVariants as entry
use Rattle.c_types_expressions.specs.Words.{names_after_scope, meaning_of, ended_scopes, item_replaced}
use Rattle.c_types_faults.specs.Events.{Construct, Calls, Selects, Other, Event, Value, Initialises, Variable, Opens, Closes, Struct, Names, Defines, scope_events}
use Rattle.c_types_faults.specs.Scopes.{Scope, scope_name}
use Rattle.c_types_faults.proofs.Paths.{CalledAs, Notes, Path, View, calling, closing, opening, path_parts, selecting, typed}
use Rattle.c_types_faults.proofs.Points.{Among, AreValues, Once, Spread, Within, among_parts, once_both, within_both}

-- the latest scope: its variables, and that it declares nothing else

abbrev pub places : List ScopeEntry → List ℕ
places [] = []
places (entry.Declares name (meaning.Variable place) ∷ rest) = place ∷ places rest
places (e ∷ rest) = places rest

abbrev pub AreVariables : List ScopeEntry → Type 0
AreVariables [] = Unit {0}
AreVariables (entry.Declares name (meaning.Variable place) ∷ rest) = AreVariables rest
AreVariables (e ∷ rest) = ⊥

-- the places of those that have no end, of these ends, the first of which has this place
abbrev pub unended : ℕ → List (Option ℕ) → List ℕ
unended place [] = []
unended place (None ∷ es) = place ∷ unended (suc place) es
unended place (Some e ∷ es) = unended (suc place) es

abbrev pub end_by : ℕ → Option ℕ → Option ℕ
end_by token None = Some token
end_by token (Some e) = Some e

abbrev pub all_ended : ℕ → List ℕ → List (Option ℕ) → List (Option ℕ)
all_ended token [] es = es
all_ended token (q ∷ qs) es = all_ended token qs (item_replaced es q (Some token))

variables_both : (xs ys : List ScopeEntry) → AreVariables xs → AreVariables ys → AreVariables (xs ++ ys)
variables_both [] ys h k = k
variables_both (entry.Declares name (meaning.Variable place) ∷ rest) ys h k = variables_both rest ys h k
variables_both (entry.Declares name (meaning.Function place) ∷ rest) ys h k = absurd h
variables_both (entry.Declares name (meaning.Library function) ∷ rest) ys h k = absurd h
variables_both (entry.Declares name (meaning.Struct place) ∷ rest) ys h k = absurd h
variables_both (entry.Opens ∷ rest) ys h k = absurd h

places_both : (xs ys : List ScopeEntry) → places (xs ++ ys) ≡ places xs ++ places ys
places_both [] ys = refl
places_both (entry.Declares name (meaning.Variable place) ∷ rest) ys = ap (λ ps. place ∷ ps) (places_both rest ys)
places_both (entry.Declares name (meaning.Function place) ∷ rest) ys = places_both rest ys
places_both (entry.Declares name (meaning.Library function) ∷ rest) ys = places_both rest ys
places_both (entry.Declares name (meaning.Struct place) ∷ rest) ys = places_both rest ys
places_both (entry.Opens ∷ rest) ys = places_both rest ys

-- where a scope closes, what it declared is gone
pub closed_new : (xs outer : List ScopeEntry) → AreVariables xs → names_after_scope (xs ++ entry.Opens ∷ outer) ≡ outer
closed_new [] outer h = refl
closed_new (entry.Declares name (meaning.Variable place) ∷ rest) outer h = closed_new rest outer h
closed_new (entry.Declares name (meaning.Function place) ∷ rest) outer h = absurd h
closed_new (entry.Declares name (meaning.Library function) ∷ rest) outer h = absurd h
closed_new (entry.Declares name (meaning.Struct place) ∷ rest) outer h = absurd h
closed_new (entry.Opens ∷ rest) outer h = absurd h

ended_new : (token : ℕ) (xs outer : List ScopeEntry) (es : List (Option ℕ)) → AreVariables xs
    → ended_scopes token (xs ++ entry.Opens ∷ outer) es ≡ all_ended token (places xs) es
ended_new token [] outer es h = refl
ended_new token (entry.Declares name (meaning.Variable place) ∷ rest) outer es h = ended_new token rest outer (item_replaced es place (Some token)) h
ended_new token (entry.Declares name (meaning.Function place) ∷ rest) outer es h = absurd h
ended_new token (entry.Declares name (meaning.Library function) ∷ rest) outer es h = absurd h
ended_new token (entry.Declares name (meaning.Struct place) ∷ rest) outer es h = absurd h
ended_new token (entry.Opens ∷ rest) outer es h = absurd h

set_seam : (xs ys : List (Option ℕ)) (x y : Option ℕ) → slice_set (xs ++ x ∷ ys) (length xs) y ≡ xs ++ y ∷ ys
set_seam [] ys x y = refl
set_seam (z ∷ xs) ys x y = ap (λ zs. z ∷ zs) (set_seam xs ys x y)

within_seam : (xs ys : List (Option ℕ)) (x : Option ℕ) → nat_lt (length xs) (length (xs ++ x ∷ ys)) ≡ true
within_seam xs ys x = grind (arith, nat_tests, length-append xs (x ∷ ys))

replaced_seam : (xs ys : List (Option ℕ)) (x y : Option ℕ) → item_replaced (xs ++ x ∷ ys) (length xs) y ≡ xs ++ y ∷ ys
replaced_seam xs ys x y = rw (within_seam xs ys x) (set_seam xs ys x y)

ended_both : (token : ℕ) (ps qs : List ℕ) (es : List (Option ℕ)) → all_ended token (ps ++ qs) es ≡ all_ended token qs (all_ended token ps es)
ended_both token [] qs es = refl
ended_both token (p ∷ ps) qs es = ended_both token ps qs (item_replaced es p (Some token))

-- the places without an end get this one, the latest first
fill : (token n : ℕ) (before es : List (Option ℕ)) → length before ≡ n
    → all_ended token (reverse (unended n es)) (before ++ es) ≡ before ++ map (end_by token) es
fill token n before [] h = refl
fill token n before (None ∷ es) h =
    ap (λ ps. all_ended token ps (before ++ None ∷ es)) (reverse-append (n ∷ []) (unended (suc n) es))
    ∙ ended_both token (reverse (unended (suc n) es)) (n ∷ []) (before ++ None ∷ es)
    ∙ ap (λ xs. item_replaced xs n (Some token))
    (ap (all_ended token (reverse (unended (suc n) es))) (sym (append_assoc before (None ∷ []) es))
    ∙ fill token (suc n) (before ++ None ∷ []) es (omega (arith, h, length-append before (None ∷ [])))
    ∙ append_assoc before (None ∷ []) (map (end_by token) es))
    ∙ ap (λ m. item_replaced (before ++ None ∷ map (end_by token) es) m (Some token)) (sym h)
    ∙ replaced_seam before (map (end_by token) es) None (Some token)
fill token n before (Some e ∷ es) h =
    ap (all_ended token (reverse (unended (suc n) es))) (sym (append_assoc before (Some e ∷ []) es))
    ∙ fill token (suc n) (before ++ Some e ∷ []) es (omega (arith, h, length-append before (Some e ∷ [])))
    ∙ append_assoc before (Some e ∷ []) (map (end_by token) es)

unended_both : (n : ℕ) (xs ys : List (Option ℕ)) → unended n (xs ++ ys) ≡ unended n xs ++ unended (n + length xs) ys
unended_both n [] ys = ap (λ m. unended m ys) (omega arith)
unended_both n (None ∷ xs) ys =
    ap (λ ps. n ∷ ps) (unended_both (suc n) xs ys ∙ ap (λ m. unended (suc n) xs ++ unended m ys) (omega arith))
unended_both n (Some e ∷ xs) ys = unended_both (suc n) xs ys ∙ ap (λ m. unended (suc n) xs ++ unended m ys) (omega arith)

none_unended : (token n : ℕ) (es : List (Option ℕ)) → unended n (map (end_by token) es) ≡ []
none_unended token n [] = refl
none_unended token n (None ∷ es) = none_unended token (suc n) es
none_unended token n (Some e ∷ es) = none_unended token (suc n) es

-- A scope that ended with this token holds, of the tokens so far, those that lie in its part.
pub record Settled (start hi : ℕ) (es : List Event) (scope : Scope) (end : ℕ) : Type 0 where
  pub after : start ≤ end
  pub inside : end ≤ scope.last
  pub done : scope.last < hi
  pub apart : (k : ℕ) → Among k es → (k ≤ end) ⊎ (scope.last < k)

-- a scope begins within the part, behind its declarator, in which no expression stands
pub record Begun (lo hi : ℕ) (es : List Event) (scope : Scope) : Type 0 where
  pub low : lo ≤ scope.name
  pub name : scope.name < scope.first
  pub high : scope.first ≤ hi
  pub apart : (k : ℕ) → Among k es → (k ≤ scope.name) ⊎ (scope.first ≤ k)

-- the ends of these scopes: one that has none yet ends with the part around, which ends here
abbrev pub Match : ℕ → ℕ → ℕ → ℕ → List Event → List Scope → List (Option ℕ) → Type 0
Match start lo hi last es [] [] = Unit {0}
Match start lo hi last es (scope ∷ scopes) (None ∷ ends) = (scope.last ≡ last) × Begun lo hi es scope × Match start lo hi last es scopes ends
Match start lo hi last es (scope ∷ scopes) (Some end ∷ ends) = Settled start hi es scope end × Begun lo hi es scope × Match start lo hi last es scopes ends
Match start lo hi last es scopes ends = ⊥

-- within a function it declares variables alone
abbrev pub Kept : Bool → List ScopeEntry → View → View → Type 0
Kept true new a b = AreVariables new × (b.functions ≡ a.functions) × (b.definitions ≡ a.definitions)
Kept false new a b = Unit {0}

kept_then : (inner : Bool) (new more : List ScopeEntry) (a b c : View) → Kept inner new a b → Kept inner more b c → Kept inner (more ++ new) a c
kept_then true new more a b c h k = (variables_both more new k.0 h.0, k.1 ∙ h.1, k.2 ∙ h.2)
kept_then false new more a b c h k = tt

pub record Left (inner : Bool) (lo hi last : ℕ) (es : List Event) (scopes : List Scope) (a b : View) : Type 0 where
  pub within : Within lo hi es
  pub once : Once es
  pub seen : (k : ℕ) → Among k es → k ≤ b.latest
  pub grows : a.latest ≤ b.latest
  pub low : a.latest ≤ lo - 1 → b.latest ≤ hi - 1
  pub new : List ScopeEntry
  pub names : b.names ≡ new ++ a.names
  pub own : List (Option ℕ)
  pub ends : length a.ends ≡ length a.starts → b.ends ≡ a.ends ++ own
  pub starts : b.starts ≡ a.starts ++ map scope_name scopes
  pub placed : length a.ends ≡ length a.starts → places new ≡ reverse (unended (length a.ends) own)
  pub even : length own ≡ length scopes
  pub matched : a.latest ≤ lo - 1 → Match a.latest lo hi last es scopes own
  pub kept : Kept inner new a b

-- one part behind another

settled_first : (start lo mid hi : ℕ) (xs ys : List Event) (scope : Scope) (end : ℕ) → mid ≤ hi → Within mid hi ys → Settled start mid xs scope end
    → Settled start hi (xs ++ ys) scope end
settled_first start lo mid hi xs ys scope end high w s = record {
  after = s.after;
  inside = s.inside;
  done = omega (arith, s.done, high);
  apart = λ k h. ⊎_elim (λ l. s.apart k l) (λ l. inr (omega (arith, s.done, (w k l).0))) (among_parts k xs ys h);
}

begun_first : (lo mid hi : ℕ) (xs ys : List Event) (scope : Scope) → mid ≤ hi → Within mid hi ys → Begun lo mid xs scope → Begun lo hi (xs ++ ys) scope
begun_first lo mid hi xs ys scope high w s = record {
  low = s.low;
  name = s.name;
  high = omega (arith, s.high, high);
  apart = λ k h. ⊎_elim (λ l. s.apart k l) (λ l. inr (omega (arith, s.high, (w k l).0))) (among_parts k xs ys h);
}

match_first : (start lo mid hi last : ℕ) (xs ys : List Event) (scopes : List Scope) (ends : List (Option ℕ)) → mid ≤ hi → Within mid hi ys
    → Match start lo mid last xs scopes ends → Match start lo hi last (xs ++ ys) scopes ends
match_first start lo mid hi last xs ys [] [] high w m = tt
match_first start lo mid hi last xs ys (scope ∷ scopes) (None ∷ ends) high w m =
    (m.0, begun_first lo mid hi xs ys scope high w m.1, match_first start lo mid hi last xs ys scopes ends high w m.2)
match_first start lo mid hi last xs ys (scope ∷ scopes) (Some end ∷ ends) high w m = (
  settled_first start lo mid hi xs ys scope end high w m.0,
  begun_first lo mid hi xs ys scope high w m.1,
  match_first start lo mid hi last xs ys scopes ends high w m.2,
)
match_first start lo mid hi last xs ys [] (end ∷ ends) high w m = absurd m
match_first start lo mid hi last xs ys (scope ∷ scopes) [] high w m = absurd m

begun_second : (lo mid hi : ℕ) (xs ys : List Event) (scope : Scope) → lo ≤ mid → Within lo mid xs → Begun mid hi ys scope → Begun lo hi (xs ++ ys) scope
begun_second lo mid hi xs ys scope low w s = record {
  low = omega (arith, low, s.low);
  name = s.name;
  high = s.high;
  apart = λ k h. ⊎_elim (λ l. inl (omega (arith, (w k l).1, s.low))) (λ l. s.apart k l) (among_parts k xs ys h);
}

settled_second : (start begin hi : ℕ) (xs ys : List Event) (scope : Scope) (end : ℕ) → start ≤ begin → ((k : ℕ) → Among k xs → k ≤ begin)
    → Settled begin hi ys scope end → Settled start hi (xs ++ ys) scope end
settled_second start begin hi xs ys scope end grows seen s = record {
  after = omega (arith, grows, s.after);
  inside = s.inside;
  done = s.done;
  apart = λ k h. ⊎_elim (λ l. inl (omega (arith, seen k l, s.after))) (λ l. s.apart k l) (among_parts k xs ys h);
}

match_second : (start begin lo mid hi last : ℕ) (xs ys : List Event) (scopes : List Scope) (ends : List (Option ℕ)) → start ≤ begin → lo ≤ mid
    → Within lo mid xs → ((k : ℕ) → Among k xs → k ≤ begin) → Match begin mid hi last ys scopes ends → Match start lo hi last (xs ++ ys) scopes ends
match_second start begin lo mid hi last xs ys [] [] grows low w seen m = tt
match_second start begin lo mid hi last xs ys (scope ∷ scopes) (None ∷ ends) grows low w seen m =
    (m.0, begun_second lo mid hi xs ys scope low w m.1, match_second start begin lo mid hi last xs ys scopes ends grows low w seen m.2)
match_second start begin lo mid hi last xs ys (scope ∷ scopes) (Some end ∷ ends) grows low w seen m = (
  settled_second start begin hi xs ys scope end grows seen m.0,
  begun_second lo mid hi xs ys scope low w m.1,
  match_second start begin lo mid hi last xs ys scopes ends grows low w seen m.2,
)
match_second start begin lo mid hi last xs ys [] (end ∷ ends) grows low w seen m = absurd m
match_second start begin lo mid hi last xs ys (scope ∷ scopes) [] grows low w seen m = absurd m

match_both : (start lo hi last : ℕ) (es : List Event) (xs ys : List Scope) (ends more : List (Option ℕ)) → Match start lo hi last es xs ends
    → Match start lo hi last es ys more → Match start lo hi last es (xs ++ ys) (ends ++ more)
match_both start lo hi last es [] ys [] more h k = k
match_both start lo hi last es (x ∷ xs) ys (None ∷ ends) more h k = (h.0, h.1, match_both start lo hi last es xs ys ends more h.2 k)
match_both start lo hi last es (x ∷ xs) ys (Some end ∷ ends) more h k = (h.0, h.1, match_both start lo hi last es xs ys ends more h.2 k)
match_both start lo hi last es [] ys (end ∷ ends) more h k = absurd h
match_both start lo hi last es (x ∷ xs) ys [] more h k = absurd h

longer : {A B : Type 0} (xs ys : List A) (us vs : List B) → length xs ≡ length us → length ys ≡ length vs → length (xs ++ ys) ≡ length (us ++ vs)
longer xs ys us vs h k = omega (arith, h, k, length-append xs ys, length-append us vs)

names_long : (xs : List Scope) → length (map scope_name xs) ≡ length xs
names_long xs = length-map xs scope_name

-- what a part leaves keeps ends and starts alike
even_on : {inner : Bool} {lo hi last : ℕ} {es : List Event} {scopes : List Scope} {a b : View} → Left inner lo hi last es scopes a b → length a.ends ≡ length a.starts
    → length b.ends ≡ length b.starts
even_on {scopes = scopes} {a = a} l h =
    ap length (l.ends h) ∙ longer a.ends l.own a.starts (map scope_name scopes) h (l.even ∙ sym (names_long scopes)) ∙ sym (ap length l.starts)

pub left_then : {inner : Bool} {lo mid hi last : ℕ} {xs ys : List Event} {scopes more : List Scope} {a b c : View} → Left inner lo mid last xs scopes a b
    → Left inner mid hi last ys more b c → lo ≤ mid → mid ≤ hi → Left inner lo hi last (xs ++ ys) (scopes ++ more) a c
left_then {inner = inner} {lo = lo} {mid = mid} {hi = hi} {last = last} {xs = xs} {ys = ys} {scopes = scopes} {more = more} {a = a} {b = b} {c = c} h k low high = record {
  within = within_both lo hi xs ys (λ i j. ((h.within i j).0, omega (arith, (h.within i j).1, high)))
      (λ i j. (omega (arith, (k.within i j).0, low), (k.within i j).1));
  once = once_both xs ys h.once k.once (λ i j l. absurd (omega (arith, (h.within i j).1, (k.within i l).0)));
  seen = λ i j. ⊎_elim (λ l. omega (arith, h.seen i l, k.grows)) (λ l. k.seen i l) (among_parts i xs ys j);
  grows = omega (arith, h.grows, k.grows);
  low = λ g. k.low (h.low g);
  new = k.new ++ h.new;
  names = k.names ∙ ap (λ ns. k.new ++ ns) h.names ∙ sym (append_assoc k.new h.new a.names);
  own = h.own ++ k.own;
  ends = λ g. k.ends (even_on h g) ∙ ap (λ es. es ++ k.own) (h.ends g) ∙ append_assoc a.ends h.own k.own;
  starts = k.starts ∙ ap (λ ss. ss ++ map scope_name more) h.starts ∙ append_assoc a.starts (map scope_name scopes) (map scope_name more)
      ∙ ap (λ ss. a.starts ++ ss) (sym (map-append scope_name scopes more));
  placed = λ g. places_both k.new h.new
      ∙ ap (λ ps. ps ++ places h.new) (k.placed (even_on h g))
      ∙ ap (λ ps. reverse (unended (length b.ends) k.own) ++ ps) (h.placed g)
      ∙ sym (reverse-append (unended (length a.ends) h.own) (unended (length b.ends) k.own))
      ∙ ap (λ n. reverse (unended (length a.ends) h.own ++ unended n k.own)) (ap length (h.ends g) ∙ length-append a.ends h.own)
      ∙ ap reverse (sym (unended_both (length a.ends) h.own k.own));
  even = longer h.own k.own scopes more h.even k.even;
  matched = λ g. match_both a.latest lo hi last (xs ++ ys) scopes more h.own k.own
      (match_first a.latest lo mid hi last xs ys scopes h.own high k.within (h.matched g))
      (match_second a.latest b.latest lo mid hi last xs ys more k.own h.grows low h.within h.seen (k.matched (h.low g)));
  kept = kept_then inner h.new k.new a b c h.kept k.kept;
}

begun_wider : (lo hi l h : ℕ) (es : List Event) (scope : Scope) → l ≤ lo → hi ≤ h → Begun lo hi es scope → Begun l h es scope
begun_wider lo hi l h es scope low high s = record { low = omega (arith, low, s.low); name = s.name; high = omega (arith, s.high, high); apart = s.apart }

match_wider : (start lo hi l h last : ℕ) (es : List Event) (scopes : List Scope) (ends : List (Option ℕ)) → l ≤ lo → hi ≤ h
    → Match start lo hi last es scopes ends → Match start l h last es scopes ends
match_wider start lo hi l h last es [] [] low high m = tt
match_wider start lo hi l h last es (scope ∷ scopes) (None ∷ ends) low high m =
    (m.0, begun_wider lo hi l h es scope low high m.1, match_wider start lo hi l h last es scopes ends low high m.2)
match_wider start lo hi l h last es (scope ∷ scopes) (Some end ∷ ends) low high m = (
  record { after = m.0.after; inside = m.0.inside; done = omega (arith, m.0.done, high); apart = m.0.apart },
  begun_wider lo hi l h es scope low high m.1,
  match_wider start lo hi l h last es scopes ends low high m.2,
)
match_wider start lo hi l h last es [] (end ∷ ends) low high m = absurd m
match_wider start lo hi l h last es (scope ∷ scopes) [] low high m = absurd m

-- a part of more tokens
pub left_wider : {inner : Bool} {lo hi last : ℕ} {es : List Event} {scopes : List Scope} {a b : View} (l h : ℕ) → Left inner lo hi last es scopes a b → l ≤ lo
    → hi ≤ h → Left inner l h last es scopes a b
left_wider {lo = lo} {hi = hi} {last = last} {es = es} {scopes = scopes} {a = a} l h k low high = record {
  within = λ i j. (omega (arith, low, (k.within i j).0), omega (arith, (k.within i j).1, high));
  once = k.once;
  seen = k.seen;
  grows = k.grows;
  low = λ g. omega (arith, k.low (omega (arith, g, low)), high);
  new = k.new;
  names = k.names;
  own = k.own;
  ends = k.ends;
  starts = k.starts;
  placed = k.placed;
  even = k.even;
  matched = λ g. match_wider a.latest lo hi l h last es scopes k.own low high (k.matched (omega (arith, g, low)));
  kept = k.kept;
}

-- a part of a function among the items
left_at_large : {lo hi last : ℕ} {es : List Event} {scopes : List Scope} {a b : View} → Left true lo hi last es scopes a b
    → Left false lo hi last es scopes a b
left_at_large k = record {
  within = k.within;
  once = k.once;
  seen = k.seen;
  grows = k.grows;
  low = k.low;
  new = k.new;
  names = k.names;
  own = k.own;
  ends = k.ends;
  starts = k.starts;
  placed = k.placed;
  even = k.even;
  matched = k.matched;
  kept = tt;
}

-- a part that declares nothing

pub record Quiet (a b : View) : Type 0 where
  pub names : b.names ≡ a.names
  pub starts : b.starts ≡ a.starts
  pub ends : b.ends ≡ a.ends
  pub functions : b.functions ≡ a.functions
  pub definitions : b.definitions ≡ a.definitions

pub left_quiet : (lo hi last : ℕ) (es : List Event) (a b : View) → Within lo hi es → Once es → ((k : ℕ) → Among k es → k ≤ b.latest) → a.latest ≤ b.latest
    → (a.latest ≤ lo - 1 → b.latest ≤ hi - 1) → Quiet a b → Left true lo hi last es [] a b
left_quiet lo hi last es a b w o s g l q = record {
  within = w;
  once = o;
  seen = s;
  grows = g;
  low = l;
  new = [];
  names = q.names;
  own = [];
  ends = λ h. q.ends ∙ sym (append-nil a.ends);
  starts = q.starts ∙ sym (append-nil a.starts);
  placed = λ h. refl;
  even = refl;
  matched = λ h. tt;
  kept = (tt, q.functions, q.definitions);
}

quiet_here : (a : View) → Quiet a a
quiet_here a = record { names = refl; starts = refl; ends = refl; functions = refl; definitions = refl }

quiet_then : {a b c : View} → Quiet a b → Quiet b c → Quiet a c
quiet_then h k = record {
  names = k.names ∙ h.names;
  starts = k.starts ∙ h.starts;
  ends = k.ends ∙ h.ends;
  functions = k.functions ∙ h.functions;
  definitions = k.definitions ∙ h.definitions;
}

-- nothing at all
pub left_none : (lo hi last : ℕ) (a b : View) → lo ≤ hi → b ≡ a → Left true lo hi last [] [] a b
left_none lo hi last a b high same =
    subst (λ v. Left true lo hi last [] [] a v) (sym same)
    (left_quiet lo hi last [] a a (λ k h. absurd h) tt (λ k h. absurd h) (omega arith) (λ g. omega (arith, g, high)) (quiet_here a))

-- an expression at its own token
record Shown (token : ℕ) (a b : View) : Type 0 where
  pub quiet : Quiet a b
  pub latest : b.latest ≡ max a.latest token

typed_shown : (token : ℕ) (t : TypeTree) (a b : View) → b ≡ typed token t a → Shown token a b
typed_shown token t a b h = subst (Shown token a) (sym h) (record { quiet = record { names = refl; starts = refl; ends = refl; functions = refl; definitions = refl }; latest = refl })

calling_shown : (token index : ℕ) (t : TypeTree) (a b : View) → b ≡ typed token t (calling token index a) → Shown token a b
calling_shown token index t a b h = subst (Shown token a) (sym h) (record { quiet = record { names = refl; starts = refl; ends = refl; functions = refl; definitions = refl }; latest = refl })

selecting_shown : (token offset : ℕ) (t : TypeTree) (a b : View) → b ≡ typed token t (selecting token offset a) → Shown token a b
selecting_shown token offset t a b h = subst (Shown token a) (sym h) (record { quiet = record { names = refl; starts = refl; ends = refl; functions = refl; definitions = refl }; latest = refl })

called_shown : (token : ℕ) (m : Option Meaning) (a b : View) → CalledAs token m a b → Shown token a b
called_shown token (Some (meaning.Function index)) a b h = calling_shown token index h.0 a b h.1
called_shown token (Some (meaning.Library function)) a b h = typed_shown token h.0 a b h.1
called_shown token m a b h = absurd h

notes_shown : (c : Construct) (token : ℕ) (a b : View) → Notes c token a b → Shown token a b
notes_shown Other token a b h = typed_shown token h.0 a b h.1
notes_shown (Calls name) token a b h = called_shown token (meaning_of name a.names) a b h
notes_shown (Selects operand behind name) token a b h = selecting_shown token h.member.offset h.member.ctype a b h.to

-- several of them
record Shows (es : List Event) (a b : View) : Type 0 where
  pub quiet : Quiet a b
  pub grows : a.latest ≤ b.latest
  pub seen : (k : ℕ) → Among k es → k ≤ b.latest
  pub below : (n : ℕ) → a.latest ≤ n → ((k : ℕ) → Among k es → k ≤ n) → b.latest ≤ n

values_show : (es : List Event) (a b : View) → AreValues es → Path es a b → Shows es a b
values_show [] a b h p =
    subst (Shows [] a) (sym p) (record { quiet = quiet_here a; grows = omega arith; seen = λ k i. absurd i; below = λ n i j. i })
values_show (Value token c ∷ es) a b h p =
    let one : Shown token a p.0 = notes_shown c token a p.0 p.1.0 in
    let rest : Shows es p.0 b = values_show es p.0 b h.1 p.1.1 in
    record {
      quiet = quiet_then one.quiet rest.quiet;
      grows = omega (arith, one.latest, rest.grows, le-max_left a.latest token);
      seen = λ k i. ⊎_elim (λ e. omega (arith, e, one.latest, rest.grows, le-max_right a.latest token)) (λ j. rest.seen k j) i;
      below = λ n i j. rest.below n (omega (arith, one.latest, max_most a.latest token n i (j token (inl refl)))) (λ k l. j k (inr l));
    }
values_show (Initialises token ∷ es) a b h p = absurd h.0
values_show (Variable token ∷ es) a b h p = absurd h.0
values_show (Opens ∷ es) a b h p = absurd h.0
values_show (Closes ∷ es) a b h p = absurd h.0
values_show (Struct ∷ es) a b h p = absurd h.0
values_show (Names name ∷ es) a b h p = absurd h.0
values_show (Defines ∷ es) a b h p = absurd h.0

below_all : (lo hi : ℕ) (es : List Event) (a b : View) → lo ≤ hi → Within lo hi es → Shows es a b → a.latest ≤ lo - 1 → b.latest ≤ hi - 1
below_all lo hi es a b high w s g = s.below (hi - 1) (omega (arith, g, high)) (λ k i. omega (arith, (w k i).1))

-- expressions
pub left_values : (lo hi last : ℕ) (es : List Event) (a b : View) → lo ≤ hi → Spread lo hi es → Path es a b → Left true lo hi last es [] a b
left_values lo hi last es a b high s p =
    let h : Shows es a b = values_show es a b s.values p in
    left_quiet lo hi last es a b s.within s.once h.seen h.grows (below_all lo hi es a b high s.within h) h.quiet

-- an initialiser that is an expression, behind its `=`
pub left_initialises : (lo hi last : ℕ) (es : List Event) (a b : View) → Spread (lo + 1) hi es → (k : ℕ) × Among k es → Path (Initialises lo ∷ es) a b
    → Left true lo hi last (Initialises lo ∷ es) [] a b
left_initialises lo hi last es a b s some p =
    let h : Shows es a b = subst (λ v. Shows es v b) p.1.0 (values_show es p.0 b s.values p.1.1) in
    left_quiet lo hi last (Initialises lo ∷ es) a b
    (λ k i. ⊎_elim (λ e. (omega (arith, e), omega (arith, e, (s.within some.0 some.1).0, (s.within some.0 some.1).1)))
    (λ j. (omega (arith, (s.within k j).0), omega (arith, (s.within k j).1))) i)
    ((λ k i j. absurd (omega (arith, i, (s.within k j).0))), s.once)
    (λ k i. ⊎_elim (λ e. omega (arith, e, (s.within some.0 some.1).0, h.seen some.0 some.1)) (λ j. h.seen k j) i)
    h.grows
    (λ g. below_all (lo + 1) hi es a b (omega (arith, (s.within some.0 some.1).0, (s.within some.0 some.1).1)) s.within h (omega (arith, g)))
    h.quiet

-- a variable
pub left_variable : (lo hi last token : ℕ) (a b : View) → lo ≤ token → token < hi → Path (Variable token ∷ []) a b
    → Left true lo hi last (Variable token ∷ []) (record { name = token; first = hi; last = last } ∷ []) a b
left_variable lo hi last token a b low high p =
    subst (λ v. Left true lo hi last (Variable token ∷ []) (record { name = token; first = hi; last = last } ∷ []) a v) (sym (p.1.1 ∙ p.1.0.1)) (record {
      within = λ k i. absurd (none k i);
      once = (λ k i j. absurd i, tt);
      seen = λ k i. absurd (none k i);
      grows = omega arith;
      low = λ g. omega (arith, g, low, high);
      new = entry.Declares p.1.0.0 (meaning.Variable (length a.starts)) ∷ [];
      names = refl;
      own = None ∷ [];
      ends = λ g. refl;
      starts = refl;
      placed = λ g. ap (λ n. n ∷ []) (sym g);
      even = refl;
      matched = λ g. (refl, record { low = low; name = high; high = omega arith; apart = λ k i. absurd (none k i) }, tt);
      kept = (tt, refl, refl);
    })
  where
    none : (k : ℕ) → Among k (Variable token ∷ []) → ⊥
    none k (inl i) = i
    none k (inr i) = i

-- a scope that closes

among_scoped : (k : ℕ) (es : List Event) → Among k (scope_events es) → Among k es
among_scoped k es (inl h) = absurd h
among_scoped k es (inr h) = ⊎_elim (λ i. i) (λ i. absurd (none i)) (among_parts k es (Closes ∷ []) h)
  where
    none : Among k (Closes ∷ []) → ⊥
    none (inl i) = i
    none (inr i) = i

once_scoped : (es : List Event) → Once es → Once (scope_events es)
once_scoped es h = (λ k i j. i, once_both es (Closes ∷ []) h ((λ k i j. i), tt) (λ k i j. none k j))
  where
    none : (k : ℕ) → Among k (Closes ∷ []) → ⊥
    none k (inl i) = i
    none k (inr i) = i

begun_scoped : (lo hi l h : ℕ) (es : List Event) (scope : Scope) → l ≤ lo → hi ≤ h → Begun lo hi es scope → Begun l h (scope_events es) scope
begun_scoped lo hi l h es scope low high s = record {
  low = omega (arith, low, s.low);
  name = s.name;
  high = omega (arith, s.high, high);
  apart = λ k i. s.apart k (among_scoped k es i);
}

match_scoped : (start end lo hi last l h outer : ℕ) (es : List Event) (scopes : List Scope) (ends : List (Option ℕ)) → l ≤ lo → hi ≤ h → start ≤ end
    → end ≤ last → last < h → ((k : ℕ) → Among k es → k ≤ end) → Match start lo hi last es scopes ends
    → Match start l h outer (scope_events es) scopes (map (end_by end) ends)
match_scoped start end lo hi last l h outer es [] [] low high grows inside done seen m = tt
match_scoped start end lo hi last l h outer es (scope ∷ scopes) (None ∷ ends) low high grows inside done seen m = (
  record {
    after = grows;
    inside = omega (arith, m.0, inside);
    done = omega (arith, m.0, done);
    apart = λ k i. inl (seen k (among_scoped k es i));
  },
  begun_scoped lo hi l h es scope low high m.1,
  match_scoped start end lo hi last l h outer es scopes ends low high grows inside done seen m.2,
)
match_scoped start end lo hi last l h outer es (scope ∷ scopes) (Some e ∷ ends) low high grows inside done seen m = (
  record {
    after = m.0.after;
    inside = m.0.inside;
    done = omega (arith, m.0.done, high);
    apart = λ k i. m.0.apart k (among_scoped k es i);
  },
  begun_scoped lo hi l h es scope low high m.1,
  match_scoped start end lo hi last l h outer es scopes ends low high grows inside done seen m.2,
)
match_scoped start end lo hi last l h outer es [] (e ∷ ends) low high grows inside done seen m = absurd m
match_scoped start end lo hi last l h outer es (scope ∷ scopes) [] low high grows inside done seen m = absurd m

scope_left : {lo hi last : ℕ} {es : List Event} {scopes : List Scope} (a b : View) (l h outer : ℕ) → Left true lo hi last es scopes (opening a) b
    → l ≤ lo → hi ≤ last + 1 → last < h → Left true l h outer (scope_events es) scopes a (closing b)
scope_left {lo = lo} {hi = hi} {last = last} {es = es} {scopes = scopes} a b l h outer k low high done = record {
  within = λ i j. let m : (lo ≤ i) × (i < hi) = k.within i (among_scoped i es j) in (omega (arith, low, m.0), omega (arith, m.1, high, done));
  once = once_scoped es k.once;
  seen = λ i j. k.seen i (among_scoped i es j);
  grows = k.grows;
  low = λ g. omega (arith, k.low (omega (arith, g, low)), high, done);
  new = [];
  names = ap names_after_scope k.names ∙ closed_new k.new a.names k.kept.0;
  own = map (end_by b.latest) k.own;
  ends = λ g. ap (λ ns. ended_scopes b.latest ns b.ends) k.names ∙ ended_new b.latest k.new a.names b.ends k.kept.0
      ∙ ap (λ es. all_ended b.latest (places k.new) es) (k.ends g) ∙ ap (λ ps. all_ended b.latest ps (a.ends ++ k.own)) (k.placed g)
      ∙ fill b.latest (length a.ends) a.ends k.own refl;
  starts = k.starts;
  placed = λ g. ap reverse (sym (none_unended b.latest (length a.ends) k.own));
  even = length-map k.own (end_by b.latest) ∙ k.even;
  matched = λ g. match_scoped a.latest b.latest lo hi last l h outer es scopes k.own low (omega (arith, high, done)) k.grows
      (omega (arith, k.low (omega (arith, g, low)), high)) done k.seen (k.matched (omega (arith, g, low)));
  kept = (tt, k.kept.1, k.kept.2);
}

-- what every path along these events leaves
pub record Leaves (inner : Bool) (lo hi last : ℕ) (es : List Event) (scopes : List Scope) : Type 0 where
  pub by : (a b : View) → Path es a b → Left inner lo hi last es scopes a b

pub leaves_none : (lo hi last : ℕ) → lo ≤ hi → Leaves true lo hi last [] []
leaves_none lo hi last high = record { by = λ a b p. left_none lo hi last a b high p }

pub leaves_values : (lo hi last : ℕ) (es : List Event) → lo ≤ hi → Spread lo hi es → Leaves true lo hi last es []
leaves_values lo hi last es high s = record { by = λ a b p. left_values lo hi last es a b high s p }

pub leaves_initialises : (lo hi last : ℕ) (es : List Event) → Spread (lo + 1) hi es → (k : ℕ) × Among k es → Leaves true lo hi last (Initialises lo ∷ es) []
leaves_initialises lo hi last es s some = record { by = λ a b p. left_initialises lo hi last es a b s some p }

pub leaves_variable : (lo hi last token : ℕ) → lo ≤ token → token < hi
    → Leaves true lo hi last (Variable token ∷ []) (record { name = token; first = hi; last = last } ∷ [])
leaves_variable lo hi last token low high = record { by = λ a b p. left_variable lo hi last token a b low high p }

pub leaves_then : {inner : Bool} {last : ℕ} {xs ys : List Event} {scopes more : List Scope} (lo mid hi : ℕ) → Leaves inner lo mid last xs scopes → Leaves inner mid hi last ys more
    → lo ≤ mid → mid ≤ hi → Leaves inner lo hi last (xs ++ ys) (scopes ++ more)
leaves_then {xs = xs} {ys = ys} lo mid hi h k low high = record {
  by = λ a c p. let q : (b : View) × (Path xs a b × Path ys b c) = path_parts xs ys a c p in
      left_then (h.by a q.0 q.1.0) (k.by q.0 c q.1.1) low high;
}

pub leaves_wider : {inner : Bool} {last : ℕ} {es : List Event} {scopes : List Scope} (lo hi l h : ℕ) → Leaves inner lo hi last es scopes → l ≤ lo → hi ≤ h
    → Leaves inner l h last es scopes
leaves_wider lo hi l h k low high = record { by = λ a b p. left_wider l h (k.by a b p) low high }

-- what stands in a scope of its own, which ends here
pub leaves_scoped : {es : List Event} {scopes : List Scope} (lo hi last l h outer : ℕ) → Leaves true lo hi last es scopes → l ≤ lo → hi ≤ last + 1 → last < h
    → Leaves true l h outer (scope_events es) scopes
leaves_scoped {es = es} {scopes = scopes} lo hi last l h outer k low high done = record {
  by = λ a b p. let q : (c : View) × (Path es p.0 c × Path (Closes ∷ []) c b) = path_parts es (Closes ∷ []) p.0 b p.1.1 in
      subst (λ v. Left true l h outer (scope_events es) scopes a v) (sym (q.1.1.1.1 ∙ q.1.1.1.0))
      (scope_left a q.0 l h outer (subst (λ v. Left true lo hi last es scopes v q.0) p.1.0 (k.by p.0 q.0 q.1.0)) low high done);
}

pub leaves_at_large : {last : ℕ} {es : List Event} {scopes : List Scope} {lo hi : ℕ} → Leaves true lo hi last es scopes → Leaves false lo hi last es scopes
leaves_at_large k = record { by = λ a b p. left_at_large (k.by a b p) }
