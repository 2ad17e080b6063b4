-- What stands at tokens of a text does so in its parts.
use Rattle.std.proofs.Common.{◌≡◌, ℕ, ◌<◌, List, [], ◌∷◌, ◌++◌, length, get_or, map, Option, Some, None, Box, suc, zero, sym, ap, subst, ◌∙◌, arith}
use Rattle.std.specs.Prelude.{option_map}
use Rattle.std.specs.Global.{Global}
use Rattle.c_syntax.specs.declared.expr.Expr.{Expr}
use Rattle.c_syntax.specs.declared.statement.Declaration.{Declaration}
use Rattle.c_syntax.specs.declared.statement.Entry.{Entry}
use Rattle.c_syntax.specs.declared.statement.Entry.TheVariants as entry
use Rattle.c_syntax.specs.declared.statement.ForStart.{ForStart}
use Rattle.c_syntax.specs.declared.statement.Start.{Start}
use Rattle.c_syntax.specs.declared.statement.Statement.{Statement}
use Rattle.c_syntax.specs.declared.statement.Statement.TheVariants as statement
use Rattle.c_syntax.specs.Words.{EntryList, plain_declaration, plain_entries, plain_entry, plain_expr, plain_for_start, plain_start, plain_statement}
use Rattle.c_syntax.proofs.PlainStatements.{plain_declared_before, plain_do, plain_for, plain_if, plain_if_else, plain_stated_before, plain_while}
use Rattle.flow.specs.declared.site.BranchWord.TheVariants.{Do, If, While}
use Rattle.sites.specs.declared.spots.Spot.{Spot}
use Rattle.sites.specs.declared.spots.Spot.TheVariants as spot
use Rattle.sites.specs.Bodies.{declaration_spots, entries_spots, for_spots, for_start_spots, start_spots, starts_spots, statement_spots}
use Rattle.sites.specs.Spots.{expr_spots, part_spots}
use Rattle.sites.specs.Standing.{EachToken, IsToken, StandAtTokens}

first_each : (P : ℕ → Type 0) (xs ys : List Spot) → EachToken P (xs ++ ys) → EachToken P xs
first_each P [] ys h = tt
first_each P (x ∷ xs) ys h = (h.0, first_each P xs ys h.1)

second_each : (P : ℕ → Type 0) (xs ys : List Spot) → EachToken P (xs ++ ys) → EachToken P ys
second_each P [] ys h = h
second_each P (x ∷ xs) ys h = second_each P xs ys h.1

-- the first of two lists, and the second
first : (xs ys : List Spot) → StandAtTokens (xs ++ ys) → StandAtTokens xs
first xs ys h = record { each = first_each IsToken xs ys h.each }

second : (xs ys : List Spot) → StandAtTokens (xs ++ ys) → StandAtTokens ys
second xs ys h = record { each = second_each IsToken xs ys h.each }

-- statements

pub if_first : (token : ℕ) (condition : Expr) (x : Box Statement Global) (y : Option (Box Statement Global)) →
    StandAtTokens (statement_spots (plain_statement (statement.If token condition x y))) → StandAtTokens (statement_spots (plain_statement x.value))
if_first token condition x None h =
    second (spot.Branch token If ∷ expr_spots (plain_expr condition)) (statement_spots (plain_statement x.value)) (rw (plain_if token condition x) at h)
if_first token condition x (Some y) h =
    let led = spot.Branch token If ∷ expr_spots (plain_expr condition) in
    second led (statement_spots (plain_statement x.value))
    (first (led ++ statement_spots (plain_statement x.value)) (statement_spots (plain_statement y.value)) (rw (plain_if_else token condition x y) at h))

pub if_second : (token : ℕ) (condition : Expr) (x y : Box Statement Global) →
    StandAtTokens (statement_spots (plain_statement (statement.If token condition x (Some y)))) → StandAtTokens (statement_spots (plain_statement y.value))
if_second token condition x y h =
    second (spot.Branch token If ∷ expr_spots (plain_expr condition) ++ statement_spots (plain_statement x.value)) (statement_spots (plain_statement y.value))
    (rw (plain_if_else token condition x y) at h)

pub while_body : (token : ℕ) (condition : Expr) (x : Box Statement Global) →
    StandAtTokens (statement_spots (plain_statement (statement.While token condition x))) → StandAtTokens (statement_spots (plain_statement x.value))
while_body token condition x h =
    second (spot.Branch token While ∷ expr_spots (plain_expr condition)) (statement_spots (plain_statement x.value)) (rw (plain_while token condition x) at h)

pub do_body : (token : ℕ) (x : Box Statement Global) (condition : Expr) →
    StandAtTokens (statement_spots (plain_statement (statement.Do token x condition))) → StandAtTokens (statement_spots (plain_statement x.value))
do_body token x condition h =
    second (spot.Branch token Do ∷ []) (statement_spots (plain_statement x.value))
    (first (spot.Branch token Do ∷ statement_spots (plain_statement x.value)) (expr_spots (plain_expr condition)) (rw (plain_do token x condition) at h))

pub for_start : (token : ℕ) (start : ForStart) (condition step : Option Expr) (x : Box Statement Global) →
    StandAtTokens (statement_spots (plain_statement (statement.For token start condition step x))) → StandAtTokens (for_start_spots (plain_for_start start))
for_start token start condition step x h =
    let led = for_spots token (option_map plain_expr condition) in
    let begun = led ++ for_start_spots (plain_for_start start) in
    let tested = begun ++ part_spots (option_map plain_expr condition) in
    let stepped = tested ++ part_spots (option_map plain_expr step) in
    second led (for_start_spots (plain_for_start start))
    (first begun (part_spots (option_map plain_expr condition)) (first tested (part_spots (option_map plain_expr step))
    (first stepped (statement_spots (plain_statement x.value)) (rw (plain_for token start condition step x) at h))))

pub for_body : (token : ℕ) (start : ForStart) (condition step : Option Expr) (x : Box Statement Global) →
    StandAtTokens (statement_spots (plain_statement (statement.For token start condition step x))) → StandAtTokens (statement_spots (plain_statement x.value))
for_body token start condition step x h =
    second (for_spots token (option_map plain_expr condition) ++ for_start_spots (plain_for_start start) ++ part_spots (option_map plain_expr condition) ++
    part_spots (option_map plain_expr step)) (statement_spots (plain_statement x.value)) (rw (plain_for token start condition step x) at h)

-- declared variables and entries

pub each_start : (xs : List Start) (i : ℕ) (x : Start) → i < length xs → x ≡ get_or xs i x → StandAtTokens (starts_spots (map plain_start xs)) →
    StandAtTokens (start_spots (plain_start x))
each_start [] i x low at h = absurd (omega (arith, low))
each_start (y ∷ ys) zero x low at h =
    subst (λ z. StandAtTokens (start_spots (plain_start z))) (sym at) (first (start_spots (plain_start y)) (starts_spots (map plain_start ys)) h)
each_start (y ∷ ys) (suc i) x low at h =
    each_start ys i x (omega (arith, low)) at (second (start_spots (plain_start y)) (starts_spots (map plain_start ys)) h)

declared_first : (x : Entry) (d : Declaration) (rest : EntryList) → x ≡ entry.Declaration d → StandAtTokens (entries_spots (plain_entry x rest)) →
    StandAtTokens (declaration_spots (plain_declaration d))
declared_first x d rest is h =
    first (declaration_spots (plain_declaration d)) (entries_spots rest)
    (subst (λ l. StandAtTokens (entries_spots l)) (ap (λ y. plain_entry y rest) is ∙ plain_declared_before d rest) h)

stated_first : (x : Entry) (y : Statement) (rest : EntryList) → x ≡ entry.Statement y → StandAtTokens (entries_spots (plain_entry x rest)) →
    StandAtTokens (statement_spots (plain_statement y))
stated_first x y rest is h =
    first (statement_spots (plain_statement y)) (entries_spots rest)
    (subst (λ l. StandAtTokens (entries_spots l)) (ap (λ z. plain_entry z rest) is ∙ plain_stated_before y rest) h)

behind_entry : (x : Entry) (rest : EntryList) → StandAtTokens (entries_spots (plain_entry x rest)) → StandAtTokens (entries_spots rest)
behind_entry (entry.Declaration d) rest h =
    second (declaration_spots (plain_declaration d)) (entries_spots rest) (rw (plain_declared_before d rest) at h)
behind_entry (entry.Statement y) rest h =
    second (statement_spots (plain_statement y)) (entries_spots rest) (rw (plain_stated_before y rest) at h)

pub each_declared : (xs : List Entry) (i : ℕ) (x : Entry) (d : Declaration) → i < length xs → x ≡ get_or xs i x → x ≡ entry.Declaration d →
    StandAtTokens (entries_spots (plain_entries xs)) → StandAtTokens (declaration_spots (plain_declaration d))
each_declared [] i x d low at is h = absurd (omega (arith, low))
each_declared (y ∷ ys) zero x d low at is h = declared_first y d (plain_entries ys) (sym at ∙ is) h
each_declared (y ∷ ys) (suc i) x d low at is h = each_declared ys i x d (omega (arith, low)) at is (behind_entry y (plain_entries ys) h)

pub each_stated : (xs : List Entry) (i : ℕ) (x : Entry) (y : Statement) → i < length xs → x ≡ get_or xs i x → x ≡ entry.Statement y →
    StandAtTokens (entries_spots (plain_entries xs)) → StandAtTokens (statement_spots (plain_statement y))
each_stated [] i x y low at is h = absurd (omega (arith, low))
each_stated (z ∷ zs) zero x y low at is h = stated_first z y (plain_entries zs) (sym at ∙ is) h
each_stated (z ∷ zs) (suc i) x y low at is h = each_stated zs i x y (omega (arith, low)) at is (behind_entry z (plain_entries zs) h)
