-- The calls that a body holds for sites are calls of its tree.
use Rattle.std.proofs.Common.{◌⊎◌, inl, inr, ◌≡◌, ℕ, ◌+◌, ◌==◌, ◌||◌, length, Bool, true, false, if◌then◌else◌, List, [], ◌∷◌, ◌++◌, Option, Some, None, refl, sym, ◌∙◌, subst}
use Rattle.std.specs.List.{AllByRecursion, list_any}
use Rattle.std.proofs.lemmas.List.Folds.{list_any-append}
use Rattle.std.proofs.lemmas.Bool.{eq-eqb, false≢true, or_left, or_right}
use Rattle.base_lists.proofs.Numbers.{same_number}
use Rattle.c_syntax.specs.ExprTree as e
use Rattle.c_syntax.specs.Words.{ExprTree, ExprList, LinkList, PostfixList, declarator_kinds, InitialTree, StartTree, ForStartTree, StatementTree, EntryList}
use Rattle.c_syntax.specs.StatementTree as s
use Rattle.c_meaning.specs.Trees.{token_of}
use Rattle.c_types_faults.specs.Events.{Construct, Calls, Selects, Other, Event, Value, Initialises, Variable, Opens, Closes, Struct, Names, Defines, construct_at, is_point_at}
use Rattle.c_types_faults.specs.Events.{declaration_events, entries_events, expr_events, exprs_events, for_start_events, initial_events, links_events}
use Rattle.c_types_faults.specs.Events.{optional_events, postfix_events, scope_events, start_events, starts_events, statement_events}
use Rattle.c_types_faults.proofs.Points.{Among, Once}
use Rattle.flow.specs.declared.site.BranchWord.{BranchWord}
use Rattle.flow.specs.declared.site.BranchWord.TheVariants.{Question}
use Rattle.sites.specs.declared.spots.Spot.{Spot}
use Rattle.sites.specs.declared.spots.Spot.TheVariants as spot
use Rattle.sites.specs.Bodies.{declaration_spots, entries_spots, for_spots, for_start_spots, initial_spots, start_spots, starts_spots, statement_spots}
use Rattle.sites_laws.specs.Told.{IsGiven, is_variable_event}
use Rattle.sites.specs.Spots.{branch_spots, change_spots, expr_spots, exprs_spots, is_sizeof, is_step, joined_spots, branch_of_sign, links_spots, named_token, part_spots, postfix_spots, stepped_spots}

-- one of the events is the call
abbrev pub HasCall : ℕ → List ℕ → List Event → Type 0
HasCall token name [] = ⊥
HasCall token name (Value own (Calls other) ∷ es) = ((own ≡ token) × (other ≡ name)) ⊎ HasCall token name es
HasCall token name (event ∷ es) = HasCall token name es

abbrev pub Stands : List Event → Spot → Type 0
Stands es (spot.Call token name) = HasCall token name es
Stands es (spot.Change token target) = IsGiven es token target
Stands es x = Unit {0}

abbrev pub Stand : List Event → List Spot → Type 0
Stand es spots = AllByRecursion (Stands es) spots

has_left : (token : ℕ) (name : List ℕ) (xs ys : List Event) → HasCall token name xs → HasCall token name (xs ++ ys)
has_left token name [] ys h = absurd h
has_left token name (Value own (Calls other) ∷ es) ys (inl h) = inl h
has_left token name (Value own (Calls other) ∷ es) ys (inr h) = inr (has_left token name es ys h)
has_left token name (Value own (Selects operand behind other) ∷ es) ys h = has_left token name es ys h
has_left token name (Value own Other ∷ es) ys h = has_left token name es ys h
has_left token name (Initialises own ∷ es) ys h = has_left token name es ys h
has_left token name (Variable own ∷ es) ys h = has_left token name es ys h
has_left token name (Opens ∷ es) ys h = has_left token name es ys h
has_left token name (Closes ∷ es) ys h = has_left token name es ys h
has_left token name (Struct ∷ es) ys h = has_left token name es ys h
has_left token name (Names other ∷ es) ys h = has_left token name es ys h
has_left token name (Defines ∷ es) ys h = has_left token name es ys h

has_behind : (token : ℕ) (name : List ℕ) (event : Event) (ys : List Event) → HasCall token name ys → HasCall token name (event ∷ ys)
has_behind token name (Value own (Calls other)) ys h = inr h
has_behind token name event ys h = h

has_right : (token : ℕ) (name : List ℕ) (xs ys : List Event) → HasCall token name ys → HasCall token name (xs ++ ys)
has_right token name [] ys h = h
has_right token name (x ∷ xs) ys h = has_behind token name x (xs ++ ys) (has_right token name xs ys h)

any_left : (p : Event → Bool) (xs ys : List Event) → list_any p xs ≡ true → list_any p (xs ++ ys) ≡ true
any_left p xs ys h = list_any-append p xs ys ∙ or_left (list_any p xs) (list_any p ys) h

any_right : (p : Event → Bool) (xs ys : List Event) → list_any p ys ≡ true → list_any p (xs ++ ys) ≡ true
any_right p xs ys h = list_any-append p xs ys ∙ or_right (list_any p xs) (list_any p ys) h

given_left : (token target : ℕ) (xs ys : List Event) → IsGiven xs token target → IsGiven (xs ++ ys) token target
given_left token target xs ys (inl h) = inl (any_left (is_point_at token) xs ys h)
given_left token target xs ys (inr h) = inr (h.0, any_left (is_variable_event target) xs ys h.1)

given_right : (token target : ℕ) (xs ys : List Event) → IsGiven ys token target → IsGiven (xs ++ ys) token target
given_right token target xs ys (inl h) = inl (any_right (is_point_at token) xs ys h)
given_right token target xs ys (inr h) = inr (h.0, any_right (is_variable_event target) xs ys h.1)

-- the own token of an expression
own_token : (token : ℕ) (c : Construct) (es : List Event) → list_any (is_point_at token) (Value token c ∷ es) ≡ true
own_token token c es = or_left (token == token) (list_any (is_point_at token) es) (eq-eqb token token refl)

pub stand_left : (xs ys : List Event) (spots : List Spot) → Stand xs spots → Stand (xs ++ ys) spots
stand_left xs ys [] h = tt
stand_left xs ys (spot.Call token name ∷ rest) h = (has_left token name xs ys h.0, stand_left xs ys rest h.1)
stand_left xs ys (spot.Branch token word ∷ rest) h = (tt, stand_left xs ys rest h.1)
stand_left xs ys (spot.Change token target ∷ rest) h = (given_left token target xs ys h.0, stand_left xs ys rest h.1)
stand_left xs ys (spot.Constant value ∷ rest) h = (tt, stand_left xs ys rest h.1)

pub stand_right : (xs ys : List Event) (spots : List Spot) → Stand ys spots → Stand (xs ++ ys) spots
stand_right xs ys [] h = tt
stand_right xs ys (spot.Call token name ∷ rest) h = (has_right token name xs ys h.0, stand_right xs ys rest h.1)
stand_right xs ys (spot.Branch token word ∷ rest) h = (tt, stand_right xs ys rest h.1)
stand_right xs ys (spot.Change token target ∷ rest) h = (given_right token target xs ys h.0, stand_right xs ys rest h.1)
stand_right xs ys (spot.Constant value ∷ rest) h = (tt, stand_right xs ys rest h.1)

together : (es : List Event) (ps qs : List Spot) → Stand es ps → Stand es qs → Stand es (ps ++ qs)
together es [] qs h k = k
together es (p ∷ ps) qs h k = (h.0, together es ps qs h.1 k)

-- one part behind another
beside : (xs ys : List Event) (ps qs : List Spot) → Stand xs ps → Stand ys qs → Stand (xs ++ ys) (ps ++ qs)
beside xs ys ps qs h k = together (xs ++ ys) ps qs (stand_left xs ys ps h) (stand_right xs ys qs k)

changes : (es : List Event) (token : ℕ) (target : Option ℕ) → list_any (is_point_at token) es ≡ true → Stand es (change_spots token target)
changes es token None h = tt
changes es token (Some target) h = (inl h, tt)

branches : (es : List Event) (token : ℕ) (word : Option BranchWord) → Stand es (branch_spots token word)
branches es token None = tt
branches es token (Some word) = (tt, tt)

steps : (es : List Event) (b : Bool) (token : ℕ) (target : Option ℕ) → list_any (is_point_at token) es ≡ true
    → Stand es (if b then change_spots token target else [])
steps es true token target h = changes es token target h
steps es false token target h = tt

unless_sized : (es : List Event) (b : Bool) (spots : List Spot) → Stand es spots → Stand es (if b then [] else spots)
unless_sized es true spots h = tt
unless_sized es false spots h = h

mutual
  pub expr_stands : (x : ExprTree) → Stand (expr_events x) (expr_spots x)
  expr_stands (e.Comma token operands) = stand_left (exprs_events operands) (Value token Other ∷ []) (exprs_spots operands) (exprs_stand operands)
  expr_stands (e.Assign token g target value) =
      let es : List Event = expr_events target ++ (expr_events value ++ Value token Other ∷ []) in
      together es (expr_spots target ++ change_spots token (named_token target)) (expr_spots value)
      (together es (expr_spots target) (change_spots token (named_token target))
      (stand_left (expr_events target) (expr_events value ++ Value token Other ∷ []) (expr_spots target) (expr_stands target))
      (changes es token (named_token target)
      (any_right (is_point_at token) (expr_events target) (expr_events value ++ Value token Other ∷ [])
      (any_right (is_point_at token) (expr_events value) (Value token Other ∷ []) (own_token token Other [])))))
      (stand_right (expr_events target) (expr_events value ++ Value token Other ∷ []) (expr_spots value)
      (stand_left (expr_events value) (Value token Other ∷ []) (expr_spots value) (expr_stands value)))
  expr_stands (e.Conditional token condition first second) =
      let two : List Event = expr_events second ++ Value token Other ∷ [] in
      let one : List Event = expr_events first ++ two in
      let es : List Event = expr_events condition ++ one in
      together es (expr_spots condition ++ spot.Branch token Question ∷ expr_spots first) (expr_spots second)
      (together es (expr_spots condition) (spot.Branch token Question ∷ expr_spots first)
      (stand_left (expr_events condition) one (expr_spots condition) (expr_stands condition))
      (tt, stand_right (expr_events condition) one (expr_spots first) (stand_left (expr_events first) two (expr_spots first) (expr_stands first))))
      (stand_right (expr_events condition) one (expr_spots second)
      (stand_right (expr_events first) two (expr_spots second) (stand_left (expr_events second) (Value token Other ∷ []) (expr_spots second) (expr_stands second))))
  expr_stands (e.Chain level first links) =
      beside (expr_events first) (links_events links) (expr_spots first) (links_spots links) (expr_stands first) (links_stand links)
  expr_stands (e.Cast token b stars x) = stand_left (expr_events x) (Value token Other ∷ []) (expr_spots x) (expr_stands x)
  expr_stands (e.Prefix token operator x) =
      let es : List Event = expr_events x ++ Value token Other ∷ [] in
      unless_sized es (is_sizeof operator) (stepped_spots operator token (named_token x) ++ expr_spots x)
      (together es (stepped_spots operator token (named_token x)) (expr_spots x) (steps es (is_step operator) token (named_token x) (any_right (is_point_at token) (expr_events x) (Value token Other ∷ []) (own_token token Other [])))
      (stand_left (expr_events x) (Value token Other ∷ []) (expr_spots x) (expr_stands x)))
  expr_stands (e.SizeOfType token b stars) = tt
  expr_stands (e.Postfix primary operators) =
      beside (expr_events primary) (postfix_events (token_of primary) operators) (expr_spots primary) (postfix_spots (named_token primary) operators)
      (expr_stands primary) (postfix_stand operators (token_of primary) (named_token primary))
  expr_stands (e.Name token name) = tt
  expr_stands (e.Call token name arguments) = (
    has_right token name (exprs_events arguments) (Value token (Calls name) ∷ []) (inl (refl, refl)),
    stand_left (exprs_events arguments) (Value token (Calls name) ∷ []) (exprs_spots arguments) (exprs_stand arguments),
  )
  expr_stands (e.Constant token kind value) = (tt, tt)
  expr_stands (e.Strings token parts) = tt
  expr_stands (e.Paren token inner) = stand_left (expr_events inner) (Value token Other ∷ []) (expr_spots inner) (expr_stands inner)
  expr_stands (e.Null token) = tt
  expr_stands (e.EndOfFile token) = tt

  pub exprs_stand : (xs : ExprList) → Stand (exprs_events xs) (exprs_spots xs)
  exprs_stand e.no_exprs = tt
  exprs_stand (e.more_exprs x rest) =
      beside (expr_events x) (exprs_events rest) (expr_spots x) (exprs_spots rest) (expr_stands x) (exprs_stand rest)

  links_stand : (links : LinkList) → Stand (links_events links) (links_spots links)
  links_stand e.no_links = tt
  links_stand (e.more_links token g x rest) =
      let es : List Event = expr_events x ++ Value token Other ∷ links_events rest in
      together es (joined_spots token g ++ expr_spots x) (links_spots rest)
      (together es (joined_spots token g) (expr_spots x) (branches es token (branch_of_sign g))
      (stand_left (expr_events x) (Value token Other ∷ links_events rest) (expr_spots x) (expr_stands x)))
      (stand_right (expr_events x) (Value token Other ∷ links_events rest) (links_spots rest)
      (stand_right (Value token Other ∷ []) (links_events rest) (links_spots rest) (links_stand rest)))

  postfix_stand : (operators : PostfixList) (operand : ℕ) (target : Option ℕ) → Stand (postfix_events operand operators) (postfix_spots target operators)
  postfix_stand e.no_postfix operand target = tt
  postfix_stand (e.index token x rest) operand target =
      beside (expr_events x) (Value token Other ∷ postfix_events token rest) (expr_spots x) (postfix_spots None rest) (expr_stands x)
      (stand_right (Value token Other ∷ []) (postfix_events token rest) (postfix_spots None rest) (postfix_stand rest token None))
  postfix_stand (e.member token name rest) operand target =
      stand_right (Value token (Selects operand false name) ∷ []) (postfix_events token rest) (postfix_spots None rest) (postfix_stand rest token None)
  postfix_stand (e.arrow token name rest) operand target =
      stand_right (Value token (Selects operand true name) ∷ []) (postfix_events token rest) (postfix_spots None rest) (postfix_stand rest token None)
  postfix_stand (e.increment token rest) operand target =
      together (Value token Other ∷ postfix_events token rest) (change_spots token target) (postfix_spots None rest)
      (changes (Value token Other ∷ postfix_events token rest) token target (own_token token Other (postfix_events token rest)))
      (stand_right (Value token Other ∷ []) (postfix_events token rest) (postfix_spots None rest) (postfix_stand rest token None))
  postfix_stand (e.decrement token rest) operand target =
      together (Value token Other ∷ postfix_events token rest) (change_spots token target) (postfix_spots None rest)
      (changes (Value token Other ∷ postfix_events token rest) token target (own_token token Other (postfix_events token rest)))
      (stand_right (Value token Other ∷ []) (postfix_events token rest) (postfix_spots None rest) (postfix_stand rest token None))

part_stands : (x : Option ExprTree) → Stand (optional_events x) (part_spots x)
part_stands None = tt
part_stands (Some x) = expr_stands x

-- the `=` of an initialiser stands behind the name, where there are no bounds
initial_stands : (x : Option InitialTree) (equal name_token : ℕ) → Stand (Variable name_token ∷ initial_events equal x) (initial_spots name_token x)
initial_stands None equal name_token = tt
initial_stands (Some (s.Value value)) equal name_token = (
  inr (refl, or_left (name_token == name_token) (list_any (is_variable_event name_token) (Initialises equal ∷ expr_events value)) (eq-eqb name_token name_token refl)),
  stand_right (Variable name_token ∷ Initialises equal ∷ []) (expr_events value) (expr_spots value) (expr_stands value),
)
initial_stands (Some (s.Braced token items comma)) equal name_token =
    stand_right (Variable name_token ∷ []) (exprs_events items) (exprs_spots items) (exprs_stand items)

starts_stand : (xs : List StartTree) → Stand (starts_events xs) (starts_spots xs)
starts_stand [] = tt
starts_stand (x ∷ xs) =
    beside (start_events x) (starts_events xs) (start_spots x) (starts_spots xs)
    (initial_stands x.initial (x.declarator.token + length (declarator_kinds x.declarator)) x.declarator.name_token)
    (starts_stand xs)

for_start_stands : (x : ForStartTree) → Stand (for_start_events x) (for_start_spots x)
for_start_stands (s.Declares d) = starts_stand d.starts
for_start_stands (s.Computes x) = part_stands x

for_branches : (es : List Event) (token : ℕ) (condition : Option ExprTree) → Stand es (for_spots token condition)
for_branches es token None = tt
for_branches es token (Some x) = (tt, tt)

-- in a scope of its own
scoped_stand : (es : List Event) (spots : List Spot) → Stand es spots → Stand (scope_events es) spots
scoped_stand es spots h = stand_right (Opens ∷ []) (es ++ Closes ∷ []) spots (stand_left es (Closes ∷ []) spots h)

mutual
  statement_stands : (x : StatementTree) → Stand (statement_events x) (statement_spots x)
  statement_stands (s.Block token entries) = scoped_stand (entries_events entries) (entries_spots entries) (entries_stand entries)
  statement_stands (s.Expr token x) = expr_stands x
  statement_stands (s.If token c x) =
      (tt, beside (expr_events c) (statement_events x) (expr_spots c) (statement_spots x) (expr_stands c) (statement_stands x))
  statement_stands (s.IfElse token c x y) =
      let es : List Event = expr_events c ++ (statement_events x ++ statement_events y) in (
        tt,
        together es (expr_spots c ++ statement_spots x) (statement_spots y)
            (together es (expr_spots c) (statement_spots x) (stand_left (expr_events c) (statement_events x ++ statement_events y) (expr_spots c) (expr_stands c))
            (stand_right (expr_events c) (statement_events x ++ statement_events y) (statement_spots x)
            (stand_left (statement_events x) (statement_events y) (statement_spots x) (statement_stands x))))
            (stand_right (expr_events c) (statement_events x ++ statement_events y) (statement_spots y)
            (stand_right (statement_events x) (statement_events y) (statement_spots y) (statement_stands y))),
      )
  statement_stands (s.While token c x) =
      (tt, beside (expr_events c) (statement_events x) (expr_spots c) (statement_spots x) (expr_stands c) (statement_stands x))
  statement_stands (s.Do token x c) =
      (tt, beside (statement_events x) (expr_events c) (statement_spots x) (expr_spots c) (statement_stands x) (expr_stands c))
  statement_stands (s.For token b c d x) =
      let two : List Event = optional_events d ++ statement_events x in
      let one : List Event = optional_events c ++ two in
      let es : List Event = for_start_events b ++ one in
      scoped_stand es (statement_spots (s.For token b c d x))
      (together es _ (statement_spots x)
      (together es _ (part_spots d)
      (together es _ (part_spots c)
      (together es (for_spots token c) (for_start_spots b) (for_branches es token c)
      (stand_left (for_start_events b) one (for_start_spots b) (for_start_stands b)))
      (stand_right (for_start_events b) one (part_spots c) (stand_left (optional_events c) two (part_spots c) (part_stands c))))
      (stand_right (for_start_events b) one (part_spots d)
      (stand_right (optional_events c) two (part_spots d) (stand_left (optional_events d) (statement_events x) (part_spots d) (part_stands d)))))
      (stand_right (for_start_events b) one (statement_spots x)
      (stand_right (optional_events c) two (statement_spots x) (stand_right (optional_events d) (statement_events x) (statement_spots x) (statement_stands x)))))
  statement_stands (s.Return token value) = part_stands value
  statement_stands x = tt

  pub entries_stand : (xs : EntryList) → Stand (entries_events xs) (entries_spots xs)
  entries_stand s.no_entries = tt
  entries_stand (s.declared d rest) =
      beside (declaration_events d) (entries_events rest) (declaration_spots d) (entries_spots rest) (starts_stand d.starts) (entries_stand rest)
  entries_stand (s.stated x rest) =
      beside (statement_events x) (entries_events rest) (statement_spots x) (entries_spots rest) (statement_stands x) (entries_stand rest)

-- a call is the only expression with its token

has_among : (token : ℕ) (name : List ℕ) (es : List Event) → HasCall token name es → Among token es
has_among token name [] h = absurd h
has_among token name (Value own (Calls other) ∷ es) (inl h) = inl (sym h.0)
has_among token name (Value own (Calls other) ∷ es) (inr h) = inr (has_among token name es h)
has_among token name (Value own (Selects operand behind other) ∷ es) h = inr (has_among token name es h)
has_among token name (Value own Other ∷ es) h = inr (has_among token name es h)
has_among token name (Initialises own ∷ es) h = inr (has_among token name es h)
has_among token name (Variable own ∷ es) h = inr (has_among token name es h)
has_among token name (Opens ∷ es) h = inr (has_among token name es h)
has_among token name (Closes ∷ es) h = inr (has_among token name es h)
has_among token name (Struct ∷ es) h = inr (has_among token name es h)
has_among token name (Names other ∷ es) h = inr (has_among token name es h)
has_among token name (Defines ∷ es) h = inr (has_among token name es h)

-- where the token isn't the first one's, it is found behind
found_behind : (token own : ℕ) (name : List ℕ) (c : Construct) (b : Bool) (es : List Event) → (own == token) ≡ b → (own ≡ token → ⊥)
    → construct_at token es ≡ Some (Calls name) → (if b then Some c else construct_at token es) ≡ Some (Calls name)
found_behind token own name c true es e n h = absurd (n (same_number own token e))
found_behind token own name c false es e n h = h

found_here : (token : ℕ) (name : List ℕ) (b : Bool) (es : List Event) → (token == token) ≡ b
    → (if b then Some (Calls name) else construct_at token es) ≡ Some (Calls name)
found_here token name true es e = refl
found_here token name false es e = absurd (false≢true (sym e ∙ eq-eqb token token refl))

pub has_construct : (token : ℕ) (name : List ℕ) (es : List Event) → Once es → HasCall token name es → construct_at token es ≡ Some (Calls name)
has_construct token name [] o h = absurd h
has_construct token name (Value own (Calls other) ∷ es) o (inl h) =
    subst (λ k. construct_at token (Value k (Calls other) ∷ es) ≡ Some (Calls name)) (sym h.0)
    (subst (λ n. construct_at token (Value token (Calls n) ∷ es) ≡ Some (Calls name)) (sym h.1) (found_here token name (token == token) es refl))
has_construct token name (Value own (Calls other) ∷ es) o (inr h) =
    found_behind token own name (Calls other) (own == token) es refl (λ e. o.0 token (sym e) (has_among token name es h)) (has_construct token name es o.1 h)
has_construct token name (Value own (Selects operand behind other) ∷ es) o h =
    found_behind token own name (Selects operand behind other) (own == token) es refl (λ e. o.0 token (sym e) (has_among token name es h))
    (has_construct token name es o.1 h)
has_construct token name (Value own Other ∷ es) o h =
    found_behind token own name Other (own == token) es refl (λ e. o.0 token (sym e) (has_among token name es h)) (has_construct token name es o.1 h)
has_construct token name (Initialises own ∷ es) o h = has_construct token name es o.1 h
has_construct token name (Variable own ∷ es) o h = has_construct token name es o.1 h
has_construct token name (Opens ∷ es) o h = has_construct token name es o.1 h
has_construct token name (Closes ∷ es) o h = has_construct token name es o.1 h
has_construct token name (Struct ∷ es) o h = has_construct token name es o.1 h
has_construct token name (Names other ∷ es) o h = has_construct token name es o.1 h
has_construct token name (Defines ∷ es) o h = has_construct token name es o.1 h
