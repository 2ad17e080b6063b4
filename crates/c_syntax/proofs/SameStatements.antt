-- Two statements have equal trees exactly where they are the same but for where they lie.
use Rattle.std.proofs.Common.{◌≡◌, ◌↔◌, List, [], ◌∷◌, Some, None, refl, ap, sym, ◌∙◌}
use Rattle.c_syntax.specs.declared.statement.Entry.{Entry}
use Rattle.c_syntax.specs.declared.statement.Entry.TheFolds.{map-Entry, map-Statement, fold_out-Entry, fold_out-Statement}
use Rattle.c_syntax.specs.declared.statement.Entry.TheOpen.{Entry-F, Statement-F}
use Rattle.c_syntax.specs.declared.statement.Entry.TheOpen as part
use Rattle.c_syntax.specs.declared.statement.Entry.TheViews.{out-Entry, out-Statement}
use Rattle.c_syntax.specs.declared.statement.Statement.{Statement}
use Rattle.c_syntax.specs.StatementTree as s
use Rattle.c_syntax.specs.StatementTree.{StatementTree, EntryList}
use Rattle.c_syntax.specs.Plain.{plain_entry, plain_entries, plain_statement, entry_level, statement_level}
use Rattle.c_syntax.specs.Same.{EntriesAlike, SameStatementLayer, SameStatement, SameEntryLayer, SameEntry}

-- one entry before others
abbrev entry : Entry-F Entry Statement → EntryList → EntryList
entry a = entry_level (map-Entry Entry Statement (EntryList → EntryList) StatementTree plain_entry plain_statement a)

entry-is : (x : Entry) (rest : EntryList) → plain_entry x rest ≡ entry (out-Entry x) rest
entry-is x rest = λ i. fold_out-Entry (EntryList → EntryList) StatementTree entry_level statement_level x i rest

entry-apart : (a b : Entry-F Entry Statement) (p q : EntryList) → entry a p ≡ entry b q → SameEntryLayer a b × (p ≡ q)
entry-apart (part.Declaration x) (part.Declaration y) p q h = (cc, cc)
entry-apart (part.Statement x) (part.Statement y) p q h = (cc, cc)
entry-apart _ _ p q h = cc

entry-join : (a b : Entry-F Entry Statement) (p q : EntryList) → SameEntryLayer a b → p ≡ q → entry a p ≡ entry b q
entry-join (part.Declaration x) (part.Declaration y) p q h r = λ i. s.declared (h i) (r i)
entry-join (part.Statement x) (part.Statement y) p q h r = λ i. s.stated (h i) (r i)
entry-join _ _ p q h r = absurd h

pub same-entry : (x y : Entry) → (plain_entry x s.no_entries ≡ plain_entry y s.no_entries) ↔ SameEntry x y
same-entry x y = (
  λ h. (entry-apart (out-Entry x) (out-Entry y) s.no_entries s.no_entries (sym (entry-is x s.no_entries) ∙ h ∙ entry-is y s.no_entries)).0,
  λ h. entry-is x s.no_entries ∙ entry-join (out-Entry x) (out-Entry y) s.no_entries s.no_entries h refl ∙ sym (entry-is y s.no_entries),
)

some-entry : (a : Entry-F Entry Statement) (p : EntryList) → entry a p ≡ s.no_entries → ⊥
some-entry (part.Declaration x) p h = cc
some-entry (part.Statement x) p h = cc

entries-apart : (xs ys : List Entry) → plain_entries xs ≡ plain_entries ys → EntriesAlike xs ys
entries-apart [] [] h = refl
entries-apart [] (y ∷ ys) h = absurd (some-entry (out-Entry y) (plain_entries ys) (sym (entry-is y (plain_entries ys)) ∙ sym h))
entries-apart (x ∷ xs) [] h = absurd (some-entry (out-Entry x) (plain_entries xs) (sym (entry-is x (plain_entries xs)) ∙ h))
entries-apart (x ∷ xs) (y ∷ ys) h =
    let apart = entry-apart (out-Entry x) (out-Entry y) (plain_entries xs) (plain_entries ys) (sym (entry-is x (plain_entries xs)) ∙ h ∙ entry-is y (plain_entries ys)) in
    let head = (same-entry x y).1 apart.0 in
    λ i. head i ∷ entries-apart xs ys apart.1 i

entries-same : (xs ys : List Entry) → EntriesAlike xs ys → plain_entries xs ≡ plain_entries ys
entries-same [] [] h = refl
entries-same [] (y ∷ ys) h = cc
entries-same (x ∷ xs) [] h = cc
entries-same (x ∷ xs) (y ∷ ys) h =
    let head : plain_entry x s.no_entries ≡ plain_entry y s.no_entries = cc in
    let rest : EntriesAlike xs ys = cc in
    entry-is x (plain_entries xs) ∙ entry-join (out-Entry x) (out-Entry y) (plain_entries xs) (plain_entries ys) ((same-entry x y).0 head) (entries-same xs ys rest) ∙
    sym (entry-is y (plain_entries ys))

-- one level of a statement
abbrev level : Statement-F Entry Statement → StatementTree
level a = statement_level (map-Statement Entry Statement (EntryList → EntryList) StatementTree plain_entry plain_statement a)

level-is : (x : Statement) → plain_statement x ≡ level (out-Statement x)
level-is x = fold_out-Statement (EntryList → EntryList) StatementTree entry_level statement_level x

levels-apart : (a b : Statement-F Entry Statement) → level a ≡ level b → SameStatementLayer a b
levels-apart (part.Block t xs) (part.Block u ys) h = (cc, entries-apart xs.items ys.items cc)
levels-apart (part.Empty t) (part.Empty u) h = cc
levels-apart (part.Expr t x) (part.Expr u y) h = (cc, cc)
levels-apart (part.If t c x None) (part.If u d y None) h = (cc, cc, cc, refl)
levels-apart (part.If t c x (Some v)) (part.If u d y (Some w)) h = (cc, cc, cc, ap Some cc)
levels-apart (part.While t c x) (part.While u d y) h = (cc, cc, cc)
levels-apart (part.Do t x c) (part.Do u y d) h = (cc, cc, cc)
levels-apart (part.For t f c g x) (part.For u i d j y) h = (cc, cc, cc, cc, cc)
levels-apart (part.Return t x) (part.Return u y) h = (cc, cc)
levels-apart (part.Break t) (part.Break u) h = cc
levels-apart (part.Continue t) (part.Continue u) h = cc
levels-apart (part.If t c x None) b h = cc
levels-apart (part.If t c x (Some v)) b h = cc
levels-apart a (part.If u d y None) h = cc
levels-apart a (part.If u d y (Some w)) h = cc
levels-apart _ _ h = cc

levels-join : (a b : Statement-F Entry Statement) → SameStatementLayer a b → level a ≡ level b
levels-join (part.Block t xs) (part.Block u ys) h = λ i. s.Block (h.0 i) (entries-same xs.items ys.items h.1 i)
levels-join (part.Empty t) (part.Empty u) h = λ i. s.Empty (h i)
levels-join (part.Expr t x) (part.Expr u y) h = λ i. s.Expr (h.0 i) (h.1 i)
levels-join (part.If t c x None) (part.If u d y None) h = λ i. s.If (h.0 i) (h.1 i) (h.2 i)
levels-join (part.If t c x (Some v)) (part.If u d y (Some w)) h =
    let some : Some (plain_statement v.value) ≡ Some (plain_statement w.value) = h.3 in
    let second : plain_statement v.value ≡ plain_statement w.value = cc in
    λ i. s.IfElse (h.0 i) (h.1 i) (h.2 i) (second i)
levels-join (part.If t c x None) (part.If u d y (Some w)) h = let none : None ≡ Some (plain_statement w.value) = h.3 in cc
levels-join (part.If t c x (Some v)) (part.If u d y None) h = let some : Some (plain_statement v.value) ≡ None = h.3 in cc
levels-join (part.While t c x) (part.While u d y) h = λ i. s.While (h.0 i) (h.1 i) (h.2 i)
levels-join (part.Do t x c) (part.Do u y d) h = λ i. s.Do (h.0 i) (h.1 i) (h.2 i)
levels-join (part.For t f c g x) (part.For u k d j y) h = λ i. s.For (h.0 i) (h.1 i) (h.2 i) (h.3 i) (h.4 i)
levels-join (part.Return t x) (part.Return u y) h = λ i. s.Return (h.0 i) (h.1 i)
levels-join (part.Break t) (part.Break u) h = λ i. s.Break (h i)
levels-join (part.Continue t) (part.Continue u) h = λ i. s.Continue (h i)
levels-join _ _ h = absurd h

pub same-statement : (x y : Statement) → (plain_statement x ≡ plain_statement y) ↔ SameStatement x y
same-statement x y = (
  λ h. levels-apart (out-Statement x) (out-Statement y) (sym (level-is x) ∙ h ∙ level-is y),
  λ h. level-is x ∙ levels-join (out-Statement x) (out-Statement y) h ∙ sym (level-is y),
)
