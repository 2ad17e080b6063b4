-- How much room the parts of a function have.
use Rattle.std.proofs.Common.{◌≡◌, ℕ, zero, suc, [], ◌+◌, ◌<◌, ◌≤◌, ◌∙◌, ap, sym, arith, List, ◌∷◌, length, drop, get_or, map}
use Rattle.std.specs.List.{sum_by}
use Rattle.std.proofs.lemmas.List.{drop_more}
use Rattle.std.proofs.lemmas.List.Sums.{sum_by-cons}
use Rattle.c_syntax.specs.declared.expr.Expr.{Expr}
use Rattle.c_syntax.specs.declared.statement.Entry.{Entry}
use Rattle.c_syntax.specs.declared.statement.Entry.TheVariants as entry
use Rattle.c_syntax.specs.declared.statement.Start.{Start}
use Rattle.c_syntax.specs.declared.statement.Statement.{Statement}
use Rattle.c_syntax.specs.declared.statement.Statement.TheVariants as statement
use Rattle.c_syntax.specs.Words.{EntryList, no_entries, plain_entries, plain_entry, plain_exprs, plain_start}
use Rattle.c_syntax.proofs.PlainStatements.{plain_declared_before, plain_stated_before}
use Rattle.c_meaning.specs.Facts.{Sites}
use Rattle.lower_relation.specs.Room.{entries_room, exprs_room, start_room}

module _ (sites : Sites) where
  -- a declared variable before others
  pub starts_more : (xs : List Start) (m j : ℕ) (d : Start) → m ≡ j + 1 → j < length xs → d ≡ get_or xs j d →
      start_room sites (plain_start d) + sum_by (start_room sites) (map plain_start (drop m xs)) ≡ sum_by (start_room sites) (map plain_start (drop j xs))
  starts_more xs m j d e low at =
      rw e (sym (ap (λ l. sum_by (start_room sites) (map plain_start l)) (drop_more xs j d low ∙ ap (λ z. z ∷ drop (j + 1) xs) (sym at))
      ∙ sum_by-cons (start_room sites) (plain_start d) (map plain_start (drop (j + 1) xs))))

  one_before : (d : Entry) (rest : EntryList) → entries_room sites (plain_entry d rest) ≡ entries_room sites (plain_entry d no_entries) + entries_room sites rest
  one_before (entry.Declaration d) rest = rw (plain_declared_before d rest, plain_declared_before d no_entries) (omega arith)
  one_before (entry.Statement s) rest = rw (plain_stated_before s rest, plain_stated_before s no_entries) (omega arith)

  -- an entry before others
  pub entries_more : (xs : List Entry) (m j : ℕ) (d : Entry) → m ≡ j + 1 → j < length xs → d ≡ get_or xs j d →
      entries_room sites (plain_entry d no_entries) + entries_room sites (plain_entries (drop m xs)) ≡ entries_room sites (plain_entries (drop j xs))
  entries_more xs m j d e low at =
      rw e (sym (ap (λ l. entries_room sites (plain_entries l)) (drop_more xs j d low ∙ ap (λ z. z ∷ drop (j + 1) xs) (sym at)) ∙ one_before d (plain_entries (drop (j + 1) xs))))

  -- what stands from a place on has no more room than all
  pub starts_rest : (xs : List Start) (m : ℕ) → sum_by (start_room sites) (map plain_start (drop m xs)) ≤ sum_by (start_room sites) (map plain_start xs)
  starts_rest xs zero = omega arith
  starts_rest [] (suc m) = omega arith
  starts_rest (x ∷ xs) (suc m) = omega (arith, sum_by-cons (start_room sites) (plain_start x) (map plain_start xs), starts_rest xs m)

  -- each item of a list has room
  pub items_long : (xs : List Expr) → length xs ≤ exprs_room sites 8 (plain_exprs xs)
  items_long [] = omega arith
  items_long (x ∷ xs) = omega (arith, items_long xs)

  pub entries_rest : (xs : List Entry) (m : ℕ) → entries_room sites (plain_entries (drop m xs)) ≤ entries_room sites (plain_entries xs)
  entries_rest xs zero = omega arith
  entries_rest [] (suc m) = omega arith
  entries_rest (x ∷ xs) (suc m) = omega (arith, one_before x (plain_entries xs), entries_rest xs m)
