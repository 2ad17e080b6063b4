-- Entries, up to the brace behind them.
use Rattle.std.proofs.Common.{◌≡◌, ℕ, ◌+◌, ◌-◌, ◌≤◌, ◌==◌, Bool, true, false, inl, inr, List, [], ◌∷◌, ◌++◌, length, Some, Ok, Err, refl, sym, ap, ◌∙◌, subst, append_assoc, length-append, arith}
use Rattle.std.proofs.lemmas.Bool.{cases_Bool}
use Rattle.c_syntax.specs.declared.token.Sign.TheVariants as sign_is
use Rattle.c_syntax.specs.declared.token.Word.TheVariants as word_is
use Rattle.c_syntax.specs.declared.token.TokenKind.{TokenKind}
use Rattle.c_syntax.specs.declared.token.TokenKind.TheVariants as kind
use Rattle.c_syntax.specs.declared.parts.Base.{Base}
use Rattle.c_syntax.specs.declared.parts.Base.TheVariants as base_is
use Rattle.c_syntax.specs.StatementTree as s
use Rattle.c_syntax.specs.Words.{DeclarationTree, StatementTree, EntryList, entry_list, Kinds, a_sign, base_kinds, declaration_kinds, with_commas, start_kinds}
use Rattle.c_syntax.specs.Words.{expr_kinds, statement_kinds, entry_kinds, ShapedStatement}
use Rattle.c_parser_expressions.specs.Reading.{Cursor, SameUpTo, Rule, Read, Outcome, sequence_rule, sign_rule, sign_at}
use Rattle.c_parser_expressions.specs.Marks.{begins_with_sign}
use Rattle.c_parser_expressions.specs.Steps.{◌>>=◌, the_sign}
use Rattle.c_parser_expressions.specs.ExpressionParser.{begins_type}
use Rattle.c_parser_declarations.specs.Declarations.{declaration}
use Rattle.c_parser_declarations.specs.DeclarationParser.{declaration_by}
use Rattle.c_parser_statements.specs.Statements.{inner_statement, NoElse, AreEntries, entries_end}
use Rattle.c_parser_statements.specs.StatementParser.{entry_by, entry_step, entries_by}
use Rattle.c_parser_expressions.proofs.Heads.{same-sign, stands-sign, sign-stands}
use Rattle.c_parser_expressions.proofs.Laws.{Leads, leads-here, leads-none, leads-trans, leads-fails, seq-leads, seq-fails, finish, found-takes}
use Rattle.c_parser_expressions.proofs.Many.{put}
use Rattle.c_parser_expressions.proofs.Tokens.{sign-parses, fails-here}
use Rattle.c_parser_expressions.proofs.Starts.{StartsAt, starts-expr}
use Rattle.c_parser_declarations.proofs.Lists.{ClosingIs, Closing, list-finish}
use Rattle.c_parser_declarations.proofs.Initials.{ReadsAssignments, ReadsInner}
use Rattle.c_parser_declarations.proofs.Declaring.{declaration-parses}
use Rattle.c_parser_statements.proofs.Conditions.{declaration-begins, type-no_sign}

-- what a statement can begin with

abbrev begins_statement : TokenKind → Bool
begins_statement (kind.Word word_is.Else) = false
begins_statement (kind.Word word_is.Void) = false
begins_statement (kind.Word word_is.Char) = false
begins_statement (kind.Word word_is.Int) = false
begins_statement (kind.Word word_is.Unsigned) = false
begins_statement (kind.Word word_is.Struct) = false
begins_statement (kind.Punctuator sign_is.RightBrace) = false
begins_statement _ = true

abbrev BeginsStatement : Kinds → Type 0
BeginsStatement [] = ⊥
BeginsStatement (x ∷ xs) = begins_statement x ≡ true

begins-more : (a b : Kinds) → BeginsStatement a → BeginsStatement (a ++ b)
begins-more [] b h = absurd h
begins-more (x ∷ xs) b h = h

start-begins : (k : Kinds) → StartsAt k → BeginsStatement k
start-begins [] h = h
start-begins (kind.Word word_is.Else ∷ k) h = cc
start-begins (kind.Word word_is.Void ∷ k) h = cc
start-begins (kind.Word word_is.Char ∷ k) h = cc
start-begins (kind.Word word_is.Int ∷ k) h = cc
start-begins (kind.Word word_is.Unsigned ∷ k) h = cc
start-begins (kind.Word word_is.Struct ∷ k) h = cc
start-begins (kind.Punctuator sign_is.RightBrace ∷ k) h = cc
start-begins _ h = refl

statement-begins : (x : StatementTree) → ShapedStatement x → BeginsStatement (statement_kinds x)
statement-begins (s.Expr token x) h = begins-more (expr_kinds x) (a_sign sign_is.Semicolon) (start-begins (expr_kinds x) (starts-expr x h))
statement-begins _ h = refl

begins-else : (k : Kinds) → BeginsStatement k → NoElse k
begins-else [] h = absurd h
begins-else (kind.Word word_is.Else ∷ k) h = cc
begins-else (kind.Word w ∷ k) h = record {
  not = λ t. (let e : w ≡ word_is.Else = cc in
      let f : begins_statement (kind.Word w) ≡ false = ap (λ v. begins_statement (kind.Word v)) e in let g : true ≡ false = sym h ∙ f in cc);
}
begins-else (_ ∷ k) h = record { not = λ t. cc }

begins-brace : (k : Kinds) → BeginsStatement k → sign_at k ≡ Some sign_is.RightBrace → ⊥
begins-brace [] h t = h
begins-brace (kind.Punctuator x ∷ k) h t =
    let e : x ≡ sign_is.RightBrace = cc in let f : begins_statement (kind.Punctuator x) ≡ false =
    ap (λ v. begins_statement (kind.Punctuator v)) e in let g : true ≡ false = sym h ∙ f in cc
begins-brace (_ ∷ k) h t = cc

begins-length : (k : Kinds) → BeginsStatement k → 1 ≤ length k
begins-length [] h = absurd h
begins-length (x ∷ k) h = omega arith

begins-no_type : (k : Kinds) → BeginsStatement k → begins_type k ≡ true → ⊥
begins-no_type [] h t = h
begins-no_type (kind.Word word_is.Void ∷ k) h t = cc
begins-no_type (kind.Word word_is.Char ∷ k) h t = cc
begins-no_type (kind.Word word_is.Int ∷ k) h t = cc
begins-no_type (kind.Word word_is.Unsigned ∷ k) h t = cc
begins-no_type (kind.Word word_is.Struct ∷ k) h t = cc
begins-no_type (_ ∷ k) h t = cc

-- what agrees with a list begins with the same token
same-begins : (last at : ℕ) (ks k : Kinds) → SameUpTo last at ks k → BeginsStatement k → BeginsStatement ks
same-begins last at [] [] same h = h
same-begins last at [] (y ∷ k) same h = absurd same
same-begins last at (x ∷ ks) [] same h = absurd same
same-begins last at (x ∷ ks) (y ∷ k) same h = ap begins_statement same.0 ∙ h

base-no_else : (b : Base) (k : Kinds) → NoElse (base_kinds b ++ k)
base-no_else (base_is.Void t) k = record { not = λ h. cc }
base-no_else (base_is.Char t) k = record { not = λ h. cc }
base-no_else (base_is.Int t) k = record { not = λ h. cc }
base-no_else (base_is.Unsigned t i) k = record { not = λ h. cc }
base-no_else (base_is.Struct t n) k = record { not = λ h. cc }

declaration-split : (v : DeclarationTree) (k : Kinds) → declaration_kinds v ++ k ≡ base_kinds v.base ++
    (with_commas start_kinds v.starts ++ (a_sign sign_is.Semicolon ++ k))
declaration-split v k = append_assoc (base_kinds v.base ++ with_commas start_kinds v.starts) (a_sign sign_is.Semicolon) k
    ∙ append_assoc (base_kinds v.base) (with_commas start_kinds v.starts) (a_sign sign_is.Semicolon ++ k)

declaration-length : (v : DeclarationTree) → 1 ≤ length (declaration_kinds v)
declaration-length v = omega (arith, length-append (base_kinds v.base ++ with_commas start_kinds v.starts) (a_sign sign_is.Semicolon))

entries-follow : (d at : ℕ) (xs : EntryList) (k : Kinds) → AreEntries d at xs → NoElse ((entry_kinds xs ++ a_sign sign_is.RightBrace) ++ k)
entries-follow d at s.no_entries k is = record { not = λ h. cc }
entries-follow d at (s.declared v rest) k is =
    subst NoElse (sym (append_assoc (declaration_kinds v ++ entry_kinds rest) (a_sign sign_is.RightBrace) k
    ∙ append_assoc (declaration_kinds v) (entry_kinds rest) (a_sign sign_is.RightBrace ++ k)
    ∙ declaration-split v (entry_kinds rest ++ (a_sign sign_is.RightBrace ++ k)))) (base-no_else v.base _)
entries-follow d at (s.stated x rest) k is =
    begins-else _ (begins-more (((statement_kinds x ++ entry_kinds rest)) ++ a_sign sign_is.RightBrace) k
    (begins-more (statement_kinds x ++ entry_kinds rest) (a_sign sign_is.RightBrace)
    (begins-more (statement_kinds x) (entry_kinds rest) (statement-begins x is.shaped.0))))

-- the brace ends entries

brace-no_type : (ks : Kinds) → sign_at ks ≡ Some sign_is.RightBrace → begins_type ks ≡ true → ⊥
brace-no_type [] h t = cc
brace-no_type (kind.Punctuator x ∷ ks) h t = cc
brace-no_type (_ ∷ ks) h t = cc

brace-only : (d at last : ℕ) (ks k : Kinds) (xs : EntryList) → sign_at ks ≡ Some sign_is.RightBrace → AreEntries d at xs
    → SameUpTo last at ks ((entry_kinds xs ++ a_sign sign_is.RightBrace) ++ k) → xs ≡ s.no_entries
brace-only d at last ks k s.no_entries h is same = refl
brace-only d at last ks k (s.declared v rest) h is same =
    absurd (let split = append_assoc (declaration_kinds v ++ entry_kinds rest) (a_sign sign_is.RightBrace) k
    ∙ append_assoc (declaration_kinds v) (entry_kinds rest) (a_sign sign_is.RightBrace ++ k) in
    let t = declaration-begins last at ks (entry_kinds rest ++ (a_sign sign_is.RightBrace ++ k)) v (subst (λ (w : Kinds). SameUpTo last at ks w) split same) in
    brace-no_type ks h t)
brace-only d at last ks k (s.stated x rest) h is same =
    absurd (begins-brace ks (same-begins last at ks _ same (begins-more ((statement_kinds x ++ entry_kinds rest) ++ a_sign sign_is.RightBrace) k
    (begins-more (statement_kinds x ++ entry_kinds rest) (a_sign sign_is.RightBrace)
    (begins-more (statement_kinds x) (entry_kinds rest) (statement-begins x is.shaped.0))))) h)

brace-leads : (d : ℕ) (c : Cursor) → sign_at c.rest ≡ Some sign_is.RightBrace → Leads (entries_end d) (sign_rule sign_is.RightBrace) c c (λ u. s.no_entries)
brace-leads d c h = leads-here (entries_end d) (sign_rule sign_is.RightBrace) c (λ u. s.no_entries)
    (λ u is. record { shaped = tt; nests = omega arith; placed = tt }) (λ u. refl)
    (λ xs k last is ends le same. (tt, brace-only d c.at last c.rest k xs h is same, tt, record {}))

-- an entry leads to those behind it

declared-back : (d at last : ℕ) (ks k : Kinds) (xs : EntryList) → begins_type ks ≡ true → AreEntries d at xs
    → SameUpTo last at ks ((entry_kinds xs ++ a_sign sign_is.RightBrace) ++ k)
    → (p : DeclarationTree × EntryList) × (xs ≡ s.declared p.0 p.1) × (sequence_rule (declaration 0 (d - 1)) (λ v. entries_end d)).Is at p
declared-back d at last ks k s.no_entries h is same = absurd (type-no_sign last at ks k sign_is.RightBrace h same)
declared-back d at last ks k (s.declared v rest) h is same =
    let nests = is.nests in (
      (v, rest),
      refl,
      (
        record { shaped = is.shaped.0; nests = omega arith; placed = is.placed.0 },
        record {
          shaped = is.shaped.1;
          nests = omega arith;
          placed = is.placed.1;
        },
      ),
    )
declared-back d at last ks k (s.stated x rest) h is same =
    absurd (begins-no_type ks (same-begins last at ks _ same (begins-more ((statement_kinds x ++ entry_kinds rest) ++ a_sign sign_is.RightBrace) k
    (begins-more (statement_kinds x ++ entry_kinds rest) (a_sign sign_is.RightBrace)
    (begins-more (statement_kinds x) (entry_kinds rest) (statement-begins x is.shaped.0))))) h)

declared-leads : (d : ℕ) (c : Cursor) → 1 ≤ d → begins_type c.rest ≡ true
    → Leads (entries_end d) (sequence_rule (declaration 0 (d - 1)) (λ v. entries_end d)) c c (λ p. s.declared p.0 p.1)
declared-leads d c positive h = leads-here (entries_end d) (sequence_rule (declaration 0 (d - 1)) (λ v. entries_end d)) c (λ p. s.declared p.0 p.1)
    (λ p is. (let n1 = is.0.nests in let n2 = is.1.nests in record {
      shaped = (is.0.shaped, is.1.shaped);
      nests = omega arith;
      placed = (is.0.placed, is.1.placed);
    }))
    (λ p. append_assoc (declaration_kinds p.0) (entry_kinds p.1) (a_sign sign_is.RightBrace))
    (λ xs k last is ends le same. (let b = declared-back d c.at last c.rest k xs h is same in (b.0, b.1, b.2, record {})))

stated-back : (d at last : ℕ) (ks k : Kinds) (xs : EntryList) → begins_type ks ≡ false → (sign_at ks ≡ Some sign_is.RightBrace → ⊥) → AreEntries d at xs
    → SameUpTo last at ks ((entry_kinds xs ++ a_sign sign_is.RightBrace) ++ k)
    → (p : StatementTree × EntryList) × (xs ≡ s.stated p.0 p.1) × (sequence_rule (inner_statement d) (λ v. entries_end d)).Is at p
stated-back d at last ks k s.no_entries h other is same = absurd (other (same-sign last at ks k sign_is.RightBrace same))
stated-back d at last ks k (s.declared v rest) h other is same =
    absurd (let split = append_assoc (declaration_kinds v ++ entry_kinds rest) (a_sign sign_is.RightBrace) k
    ∙ append_assoc (declaration_kinds v) (entry_kinds rest) (a_sign sign_is.RightBrace ++ k) in
    let t = declaration-begins last at ks (entry_kinds rest ++ (a_sign sign_is.RightBrace ++ k)) v (subst (λ (w : Kinds). SameUpTo last at ks w) split same) in
    let e : true ≡ false = sym t ∙ h in cc)
stated-back d at last ks k (s.stated x rest) h other is same =
    let nests = is.nests in (
      (x, rest),
      refl,
      (
        record { shaped = is.shaped.0; nests = omega arith; placed = is.placed.0 },
        record {
          shaped = is.shaped.1;
          nests = omega arith;
          placed = is.placed.1;
        },
      ),
    )

stated-leads : (d : ℕ) (c : Cursor) → begins_type c.rest ≡ false → (sign_at c.rest ≡ Some sign_is.RightBrace → ⊥)
    → Leads (entries_end d) (sequence_rule (inner_statement d) (λ v. entries_end d)) c c (λ p. s.stated p.0 p.1)
stated-leads d c h other = leads-here (entries_end d) (sequence_rule (inner_statement d) (λ v. entries_end d)) c (λ p. s.stated p.0 p.1)
    (λ p is. (let n1 = is.0.nests in let n2 = is.1.nests in record {
      shaped = (is.0.shaped, is.1.shaped);
      nests = omega arith;
      placed = (is.0.placed, is.1.placed);
    }))
    (λ p. append_assoc (statement_kinds p.0) (entry_kinds p.1) (a_sign sign_is.RightBrace))
    (λ xs k last is ends le same. (let b = stated-back d c.at last c.rest k xs h other is same in (b.0, b.1, b.2, record {})))

abbrev pub list_end : Cursor → Read EntryList
list_end k = the_sign sign_is.RightBrace k >>= (λ q. Ok (s.no_entries, q.1))

abbrev pub add_entry : (EntryList → EntryList) → EntryList → EntryList
add_entry f xs = f xs

entry-taken : {B : Type 0} (d : ℕ) (P : Rule B) (c : Cursor) (make : B → EntryList → EntryList) (r : Read B)
    → ((at : ℕ) (v : B) (y : EntryList) (k : Kinds) → P.Is at v → AreEntries d (at + length (P.spell v)) y → P.Ends v ((entries_end d).spell y ++ k))
    → ((at : ℕ) (v : B) → P.Is at v → 1 ≤ length (P.spell v))
    → Leads (entries_end d) (sequence_rule P (λ v. entries_end d)) c c (λ p. make p.0 p.1) → Outcome P c r
    → ClosingIs (entries_end d) add_entry list_end c (Some (r >>= (λ p. Ok (make p.0, p.1))))
entry-taken d P c make (Ok p) follows some l o = (
  leads-trans (entries_end d) (sequence_rule P (λ v. entries_end d)) (entries_end d) c c p.1 (λ q. make q.0 q.1) (λ y. (p.0, y)) l
      (seq-leads P (λ v. entries_end d) c p.1 p.0 (λ at v y k v_is y_is ends. follows at v y k v_is y_is) o),
  found-takes P c p.1 p.0 (some c.at p.0 o.is) o,
)
entry-taken d P c make (Err i) follows some l o =
    leads-fails (entries_end d) (sequence_rule P (λ v. entries_end d)) c c (λ q. make q.0 q.1) i l
    (seq-fails P (λ v. entries_end d) c i (λ at v y k v_is y_is ends. follows at v y k v_is y_is) o)

no-entries : (at last : ℕ) (ks k : Kinds) (xs : EntryList) → (sign_at ks ≡ Some sign_is.RightBrace → ⊥) → AreEntries 0 at xs
    → SameUpTo last at ks ((entry_kinds xs ++ a_sign sign_is.RightBrace) ++ k) → ⊥
no-entries at last ks k s.no_entries other is same = other (same-sign last at ks k sign_is.RightBrace same)
no-entries at last ks k (s.declared v rest) other is same = let n = is.nests in omega arith
no-entries at last ks k (s.stated x rest) other is same = let n = is.nests in omega arith

entry-parses : ReadsAssignments → ReadsInner → (d : ℕ) (deeper : Cursor → Read StatementTree) → ((k : Cursor) → Outcome (inner_statement d) k (deeper k))
    → (c : Cursor) → (sign_at c.rest ≡ Some sign_is.RightBrace → ⊥)
    → ClosingIs (entries_end d) add_entry list_end c (Some (entry_by d deeper c))
unfolding entry_by
entry-parses assigns inside d deeper reads c other = elim (cases_Bool (d == 0)) [
  | inl t ↦
      (let none : d ≡ 0 = grind arith in
      rw t (fails-here (entries_end d) c (λ xs k is ends same. no-entries c.at c.at c.rest k xs other (subst (λ (n : ℕ). AreEntries n c.at xs) none is) same)))
  | inr f ↦
      (let positive : 1 ≤ d = grind arith in
      rw f (elim (cases_Bool (begins_type c.rest)) [
        | inl t ↦ rw t (entry-taken d (declaration 0 (d - 1)) c s.declared (declaration_by 0 (d - 1) c) (λ at v y k v_is y_is. record {})
            (λ at v is. declaration-length v)
            (declared-leads d c positive t) (declaration-parses assigns inside 0 (d - 1) (omega arith) c))
        | inr g ↦ rw g (entry-taken d (inner_statement d) c s.stated (deeper c) (λ at v y k v_is y_is. record { closed = λ h. entries-follow d _ y k y_is })
            (λ at v is. begins-length (statement_kinds v) (statement-begins v is.shaped)) (stated-leads d c g other) (reads c))
      ]))
]

pub entries-closing : ReadsAssignments → ReadsInner → (d : ℕ) (deeper : Cursor → Read StatementTree) → ((k : Cursor) → Outcome (inner_statement d) k (deeper k))
    → Closing (entries_end d) (entry_step d deeper) add_entry list_end
unfolding entry_step
entries-closing assigns inside d deeper reads = record {
  is = λ c. elim (cases_Bool (begins_with_sign sign_is.RightBrace c.rest)) [
    | inl t ↦ rw t (finish (entries_end d) (sign_rule sign_is.RightBrace) c c (λ u. s.no_entries) (the_sign sign_is.RightBrace c)
        (brace-leads d c (stands-sign sign_is.RightBrace c.rest (omega arith) t)) (sign-parses sign_is.RightBrace c (omega arith)))
    | inr f ↦ rw f (entry-parses assigns inside d deeper reads c (λ h. let t = sign-stands sign_is.RightBrace c.rest h in cc))
  ];
}

put-entries : (fs : List (EntryList → EntryList)) → put add_entry fs s.no_entries ≡ entry_list fs
put-entries [] = refl
put-entries (f ∷ fs) = ap f (put-entries fs)

pub entries-parses : ReadsAssignments → ReadsInner → (d : ℕ) (deeper : Cursor → Read StatementTree) → ((k : Cursor) → Outcome (inner_statement d) k (deeper k))
    → (c : Cursor) → Outcome (entries_end d) c (entries_by d deeper c)
unfolding entries_by
entries-parses assigns inside d deeper reads c =
    list-finish (entries_end d) (entries_end d) (entry_step d deeper) c c (λ xs. xs) add_entry (the_sign sign_is.RightBrace) (λ u. s.no_entries)
    (λ fs u. entry_list fs)
    (entries-closing assigns inside d deeper reads) (leads-none (entries_end d) c) (λ fs u. put-entries fs)
