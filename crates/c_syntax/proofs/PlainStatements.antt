-- The plain tree of each variant of a statement and of an entry.
use Rattle.std.proofs.Common.{◌≡◌, ℕ, Option, Some, None, option_map, Box, Vec, rules}
use Rattle.std.specs.Global.{Global}
use Rattle.c_syntax.specs.declared.expr.Expr.{Expr}
use Rattle.c_syntax.specs.declared.statement.Declaration.{Declaration}
use Rattle.c_syntax.specs.declared.statement.ForStart.{ForStart}
use Rattle.c_syntax.specs.declared.statement.Entry.{Entry, the_lemmas}
use Rattle.c_syntax.specs.declared.statement.Entry.TheVariants as entry
use Rattle.c_syntax.specs.declared.statement.Statement.{Statement}
use Rattle.c_syntax.specs.declared.statement.Statement.TheVariants as statement
use Rattle.c_syntax.specs.StatementTree as s
use Rattle.c_syntax.specs.StatementTree.{EntryList}
use Rattle.c_syntax.specs.Plain.{plain_expr, plain_declaration, plain_for_start, plain_entry, plain_entries, plain_statement}

pub plain_block : (token : ℕ) (entries : Vec Entry Global) → plain_statement (statement.Block token entries) ≡ s.Block token (plain_entries entries.items)
plain_block token entries = search (rules, the_lemmas)

pub plain_empty : (token : ℕ) → plain_statement (statement.Empty token) ≡ s.Empty token
plain_empty token = search (rules, the_lemmas)

pub plain_expr_statement : (token : ℕ) (x : Expr) → plain_statement (statement.Expr token x) ≡ s.Expr token (plain_expr x)
plain_expr_statement token x = search (rules, the_lemmas)

pub plain_if : (token : ℕ) (condition : Expr) (first : Box Statement Global) →
    plain_statement (statement.If token condition first None) ≡ s.If token (plain_expr condition) (plain_statement first.value)
plain_if token condition first = search (rules, the_lemmas)

pub plain_if_else : (token : ℕ) (condition : Expr) (first second : Box Statement Global) →
    plain_statement (statement.If token condition first (Some second)) ≡ s.IfElse token (plain_expr condition) (plain_statement first.value) (plain_statement second.value)
plain_if_else token condition first second = search (rules, the_lemmas)

pub plain_while : (token : ℕ) (condition : Expr) (body : Box Statement Global) →
    plain_statement (statement.While token condition body) ≡ s.While token (plain_expr condition) (plain_statement body.value)
plain_while token condition body = search (rules, the_lemmas)

pub plain_do : (token : ℕ) (body : Box Statement Global) (condition : Expr) →
    plain_statement (statement.Do token body condition) ≡ s.Do token (plain_statement body.value) (plain_expr condition)
plain_do token body condition = search (rules, the_lemmas)

pub plain_for : (token : ℕ) (start : ForStart) (condition step : Option Expr) (body : Box Statement Global) →
    plain_statement (statement.For token start condition step body) ≡
    s.For token (plain_for_start start) (option_map plain_expr condition) (option_map plain_expr step) (plain_statement body.value)
plain_for token start condition step body = search (rules, the_lemmas)

pub plain_return : (token : ℕ) (value : Option Expr) → plain_statement (statement.Return token value) ≡ s.Return token (option_map plain_expr value)
plain_return token value = search (rules, the_lemmas)

pub plain_break : (token : ℕ) → plain_statement (statement.Break token) ≡ s.Break token
plain_break token = search (rules, the_lemmas)

pub plain_continue : (token : ℕ) → plain_statement (statement.Continue token) ≡ s.Continue token
plain_continue token = search (rules, the_lemmas)

-- An entry is what it puts before those after it.
pub plain_declared_before : (declaration : Declaration) (rest : EntryList) → plain_entry (entry.Declaration declaration) rest ≡ s.declared (plain_declaration declaration) rest
plain_declared_before declaration rest = search (rules, the_lemmas)

pub plain_declared : (declaration : Declaration) → plain_entry (entry.Declaration declaration) ≡ s.declared (plain_declaration declaration)
plain_declared declaration = λ i. λ rest. plain_declared_before declaration rest i

pub plain_stated_before : (x : Statement) (rest : EntryList) → plain_entry (entry.Statement x) rest ≡ s.stated (plain_statement x) rest
plain_stated_before x rest = search (rules, the_lemmas)

pub plain_stated : (x : Statement) → plain_entry (entry.Statement x) ≡ s.stated (plain_statement x)
plain_stated x = λ i. λ rest. plain_stated_before x rest i
