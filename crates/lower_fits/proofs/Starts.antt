-- What the walk through a global leaves: its type, which may be that of an object, and the count of its cells.
use Rattle.std.proofs.Common.{◌≡◌, ℕ, ◌+◌, ◌≤◌, refl, ap, subst, sym, ◌∙◌, Bool, true, false, [], ◌∷◌, ◌++◌, Option, Some, None, length}
use Rattle.std.proofs.Common.{length-append}
use Rattle.std.specs.Prelude.{is_some, nat_le, ◌&&◌, if◌then◌else◌}
use Rattle.std.proofs.lemmas.Bool.{leb-true, and_parts}
use Rattle.c_types.proofs.FunctionLaws.{gives_two}
use Rattle.c_syntax.specs.StatementTree.{StartTree}
use Rattle.c_types_rules.specs.declared.fault.FaultKind.TheVariants as fault
use Rattle.c_types_rules.specs.Words.{TypeTree, cells_of, is_complete, is_object, most_cells}
use Rattle.c_types_expressions.specs.declared.walk.Walk.{Walk}
use Rattle.c_types_walk.specs.Declarators.{declared_type, is_open}
use Rattle.c_types_walk.specs.Initialisers.{walk_initial}
use Rattle.c_types_expressions.specs.Words.{is_name_taken, Walked, Done, Fine, Faulty, item_replaced, with_variable}
use Rattle.c_types_walk.specs.StatementWalk.{object_type_checked, walk_closed, walk_open, walk_start, walk_typed}
use Rattle.c_types_walk.proofs.Kept.{initial_keeps}
use Rattle.c_types.proofs.Noted.{Gives, gives_more, gives_then}
use Rattle.lower_fits.proofs.Laying.{IsObject, Long, last_replaced}
use Rattle.lower_fits.proofs.Leaving.{Leaves, leaves_kept}
use Rattle.lower_fits.proofs.Initials.{Initial, Takes, initial_is}
use Rattle.lower_fits.proofs.GlobalCells.{SameCells, cells_kept}

-- one global more: its type, its initialiser, and its note
pub record Begins (x : StartTree) (w v : Walk) : Type 0 where
  pub of : TypeTree
  pub object : IsObject w.structs of
  pub takes : Takes of x.initial
  pub structs : v.structs ≡ w.structs
  pub types : v.declared_types ≡ w.declared_types ++ of ∷ []
  pub more : length v.variables ≡ length w.variables + 1
  pub notes : v.variables_at ≡ item_replaced w.variables_at x.declarator.name_token (Some (length w.variables))
  pub cells : v.global_cells ≡ w.global_cells + cells_of w.structs of
  pub few : v.global_cells ≤ 1048576

-- the cells of an object of the type are counted, and nothing else changes
record Counts (of : TypeTree) (w v : Walk) : Type 0 where
  object : IsObject w.structs of
  structs : v.structs ≡ w.structs
  types : v.declared_types ≡ w.declared_types
  variables : v.variables ≡ w.variables
  notes : v.variables_at ≡ w.variables_at
  cells : v.global_cells ≡ w.global_cells + cells_of w.structs of
  few : v.global_cells ≤ 1048576

-- where the type is refused, or the cells are too many, there is a fault
counts_by : (b c : Bool) (token : ℕ) (of : TypeTree) (w : Walk) → is_object w.structs of ≡ b → nat_le (w.global_cells + cells_of w.structs of) most_cells ≡ c
    → Gives {A = Done} (λ _ v. Counts of w v)
    (if b then if c then Fine tt (record w { global_cells = w.global_cells + cells_of w.structs of }) else Faulty fault.Object token else Faulty fault.Object token)
counts_by true true token of w e h = record {
  object = e;
  structs = refl;
  types = refl;
  variables = refl;
  notes = refl;
  cells = refl;
  few = leb-true (w.global_cells + cells_of w.structs of) 1048576 h;
}
counts_by true false token of w e h = tt
counts_by false c token of w e h = tt

-- the cells of a global are counted
counts : (token : ℕ) (of : TypeTree) (w : Walk) → Gives (λ _ v. Counts of w v) (object_type_checked true token of w)
counts token of w = counts_by (is_object w.structs of) (nat_le (w.global_cells + cells_of w.structs of) most_cells) token of w refl refl

-- what an initialiser is, and what it leaves
record Initialised (of : TypeTree) (x : StartTree) (w : Walk) (u : TypeTree) (v : Walk) : Type 0 where
  initial : Initial of x.initial w u v
  leaves : Leaves w v
  keeps : SameCells w v

-- the walk through an initialiser
initialised : (of : TypeTree) (x : StartTree) (w : Walk) → Gives (Initialised of x w) (walk_initial true of x.initial w)
initialised of x w =
    gives_more (λ u v. Initial of x.initial w u v × (Leaves w v × SameCells w v)) (Initialised of x w) (walk_initial true of x.initial w)
    (λ u v k. record { initial = k.0; leaves = k.1.0; keeps = k.1.1 })
    (gives_two (Initial of x.initial w) (λ _ v. Leaves w v × SameCells w v) (walk_initial true of x.initial w) (initial_is of x.initial w)
    (gives_two (λ _ v. Leaves w v) (λ _ v. SameCells w v) (walk_initial true of x.initial w) (initial_keeps Leaves leaves_kept true of x.initial w)
    (initial_keeps SameCells cells_kept true of x.initial w)))

-- an array whose length its initialiser gives
open_begins : (x : StartTree) (of : TypeTree) (w : Walk) → Long w → Gives (λ _ v. Begins x w v) (walk_open true x of w)
open_begins x of w l =
    let first : Walk = with_variable true x.declarator.name_token x.declarator.name of w in
    gives_then (Initialised of x first) (λ _ v. Begins x w v) (walk_initial true of x.initial first) _ (initialised of x first)
    (λ own u h. gives_then (λ _ v. Counts own u v) (λ _ v. Begins x w v) (object_type_checked true x.token own u) _ (counts x.token own u)
    (λ _ v k. record {
      of = own;
      object = subst (λ structs. IsObject structs own) h.leaves.structs k.object;
      takes = h.initial.takes;
      structs = k.structs ∙ h.leaves.structs;
      types = ap (λ ts. item_replaced ts (length w.variables) own) (k.types ∙ h.leaves.types)
          ∙ last_replaced w.declared_types of own (length w.variables) l;
      more = ap length (k.variables ∙ h.leaves.variables) ∙ length-append w.variables _;
      notes = k.notes ∙ h.initial.unnoted;
      cells = k.cells ∙ ap (λ n. n + cells_of u.structs own) h.keeps ∙ ap (λ structs. w.global_cells + cells_of structs own) h.leaves.structs;
      few = k.few;
    }))

-- any other global
closed_begins : (x : StartTree) (of : TypeTree) (w : Walk) → Gives (λ _ v. Begins x w v) (walk_closed true x of w)
closed_begins x of w =
    gives_then (λ _ v. Counts of w v) (λ _ v. Begins x w v) (object_type_checked true x.token of w) _ (counts x.token of w)
    (λ _ u k.
    let first : Walk = with_variable true x.declarator.name_token x.declarator.name of u in
    gives_then (Initialised of x first) (λ _ v. Begins x w v) (walk_initial true of x.initial first) _ (initialised of x first)
    (λ own v h. record {
      of = of;
      object = k.object;
      takes = subst (λ t. Takes t x.initial) (h.initial.kept w.structs (and_parts (is_complete w.structs of) (nat_le (cells_of w.structs of) most_cells) k.object).0) h.initial.takes;
      structs = h.leaves.structs ∙ k.structs;
      types = h.leaves.types ∙ ap (λ ts. ts ++ of ∷ []) k.types;
      more = ap length h.leaves.variables ∙ length-append u.variables _ ∙ ap (λ xs. length xs + 1) k.variables;
      notes = h.initial.unnoted ∙ ap (λ ns. item_replaced ns x.declarator.name_token (Some (length u.variables))) k.notes
          ∙ ap (λ xs. item_replaced w.variables_at x.declarator.name_token (Some (length xs))) k.variables;
      cells = h.keeps ∙ k.cells;
      few = subst (λ n. n ≤ 1048576) (sym h.keeps) k.few;
    }))

-- one walk or another
begins_either : (x : StartTree) (w : Walk) (b : Bool) (r q : Walked Done) → Gives (λ _ v. Begins x w v) r → Gives (λ _ v. Begins x w v) q
    → Gives (λ _ v. Begins x w v) (if b then r else q)
begins_either x w true r q h k = h
begins_either x w false r q h k = k

-- a global whose type is known
typed_begins : (x : StartTree) (o : Option TypeTree) (w : Walk) → Long w → Gives (λ _ v. Begins x w v) (walk_typed true x o w)
unfolding walk_typed
typed_begins x None w l = tt
typed_begins x (Some of) w l =
    begins_either x w (is_some x.initial && is_open w.structs of) (walk_open true x of w) (walk_closed true x of w) (open_begins x of w l) (closed_begins x of w)

-- a global
pub start_begins : (b : TypeTree) (x : StartTree) (w : Walk) → Long w → Gives (λ _ v. Begins x w v) (walk_start true b x w)
start_begins b x w l = begins_either x w (is_name_taken x.declarator.name w.names) (Faulty fault.Redeclared x.token)
    (walk_typed true x (declared_type x.declarator b) w) tt (typed_begins x (declared_type x.declarator b) w l)
