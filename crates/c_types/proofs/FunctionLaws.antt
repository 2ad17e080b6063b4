-- The definitions of a text are numbered in their order, and each one's locals stand together.
use Rattle.std.proofs.Common.{◌≡◌, ◌↔◌, ℕ, zero, suc, ◌+◌, ◌<◌, ◌≤◌, nat_le, nat_lt, Bool, true, false, ◌||◌, if◌then◌else◌, List, [], ◌∷◌, ◌++◌, length, map, Option, Some, None, unwrap_or, option_map, slice_get, slice_set, get_or, refl, sym, ap, ◌∙◌, subst, ⊎_elim, append_assoc, arith, length-append}
use Rattle.std.proofs.Math.ListN.{get_or-append}
use Rattle.std.proofs.Math.Seq.{get_or-append_seam}
use Rattle.std.proofs.lemmas.Bool.{cases_eq, cases_lt, lt-ltb}
use Rattle.std.proofs.lemmas.List.{append-nil, get_or-set_other, get_or-set_same, map-append}
use Rattle.std.proofs.lemmas.Option.{slice_get-get_or, slice_get_past, unwrap_or-slice_get, same_Some}
use Rattle.base_lists.proofs.Tests.{or_second_false}
use Rattle.base_lists.proofs.Options.{none_is_some, not_some}
use Rattle.c_syntax.specs.declared.parts.Base.{Base}
use Rattle.c_syntax.specs.declared.parts.Params.{Params}
use Rattle.c_syntax.specs.Words.{EntryList, ItemTree, SourceTree}
use Rattle.c_syntax.specs.ItemTree as i
use Rattle.c_types_rules.specs.declared.fault.FaultKind.{FaultKind}
use Rattle.c_types_rules.specs.declared.fault.FaultKind.TheVariants as fault
use Rattle.c_types_rules.specs.declared.function.FunctionType.{FunctionType}
use Rattle.c_types_rules.specs.declared.layout.StructType.{StructType}
use Rattle.c_types_rules.specs.Sizes.{empty_struct, most_cells}
use Rattle.c_types_expressions.specs.declared.names.Meaning.{Meaning}
use Rattle.c_types_expressions.specs.declared.names.Meaning.TheVariants as meaning
use Rattle.c_types_expressions.specs.declared.walk.Definition.{Definition}
use Rattle.c_types_expressions.specs.declared.walk.FunctionEntry.{FunctionEntry}
use Rattle.c_types_expressions.specs.declared.walk.Parameter.{Parameter}
use Rattle.c_types_expressions.specs.declared.walk.VariableEntry.{VariableEntry}
use Rattle.c_types_expressions.specs.declared.walk.Walk.{Walk}
use Rattle.c_types.specs.Answers.{note_at}
use Rattle.c_types_expressions.specs.Words.{base_type, empty_walk, declared_meaning, is_here, Walked, Fine, Faulty, ◌>>=◌, Done, scope_closed, item_replaced}
use Rattle.c_types.specs.Fault.{ends_with, last_fault, walk_tree}
use Rattle.c_types_walk.specs.ItemWalk.{is_clashing_name, function_checked, body_scope_opened, has_type, is_defined, known_as, listed_params, typed_function, walk_body, walk_item, walk_items, walk_params, walk_struct, with_definition, with_function, with_tag, walk_members, struct_defined}
use Rattle.c_types.specs.Numbers.{HasNumber, definition_frame, frame_of, frames_from, function_of, locals_behind, variables_in}
use Rattle.c_types.specs.Parts.{Part, Expression, Use, Declared, Begins, declaration_parts, entries_parts, item_parts, params_parts}
use Rattle.c_types_walk.specs.StatementWalk.{walk_declaration, walk_entries}
use Rattle.c_types.proofs.Noted.{Functions, length_replaced, Gives, Seen, Step, functions_of, gives_more, gives_then, noting, noting_all, plainly, seen, stage}
use Rattle.c_types.proofs.NotedExprs.{base_notes}
use Rattle.c_types.proofs.NotedItems.{AreListed, PlainStep, declares_gives, inner_notes, is_refused, item_notes, members_notes, params_are, parts_from}
use Rattle.c_types.proofs.NotedStatements.{declaration_notes}

-- what is noted at a place of a list

noted_get : (xs : List (Option ℕ)) (k : ℕ) → note_at xs k ≡ get_or xs k None
noted_get xs k = unwrap_or-slice_get xs k None

get_none : (xs : List (Option ℕ)) (k : ℕ) → get_or (xs ++ None ∷ []) k None ≡ get_or xs k None
get_none (x ∷ xs) (suc k) = get_none xs k
get_none [] zero = refl
get_none [] (suc k) = refl
get_none (x ∷ xs) zero = refl

noted_none : (xs : List (Option ℕ)) (k : ℕ) → note_at (xs ++ None ∷ []) k ≡ note_at xs k
noted_none xs k = noted_get (xs ++ None ∷ []) k ∙ get_none xs k ∙ sym (noted_get xs k)

set_here : (b : Bool) (xs : List (Option ℕ)) (k x : ℕ) → b ≡ true → k < length xs → get_or (if b then slice_set xs k (Some x) else xs) k None ≡ Some x
set_here true xs k x h less = get_or-set_same xs k (Some x) None less
set_here false xs k x h less = absurd (cc)

set_apart : (b : Bool) (xs : List (Option ℕ)) (i k x : ℕ) → (k ≡ i → ⊥) → get_or (if b then slice_set xs i (Some x) else xs) k None ≡ get_or xs k None
set_apart true xs i k x h = get_or-set_other xs i k (Some x) None h
set_apart false xs i k x h = refl

noted_here : (xs : List (Option ℕ)) (k x : ℕ) → k < length xs → note_at (item_replaced xs k (Some x)) k ≡ Some x
noted_here xs k x less = noted_get (item_replaced xs k (Some x)) k ∙ set_here (nat_lt k (length xs)) xs k x (lt-ltb k (length xs) less) less

noted_apart : (xs : List (Option ℕ)) (i k x : ℕ) → (k ≡ i → ⊥) → note_at (item_replaced xs i (Some x)) k ≡ note_at xs k
noted_apart xs i k x h = noted_get (item_replaced xs i (Some x)) k ∙ set_apart (nat_lt i (length xs)) xs i k x h ∙ sym (noted_get xs k)

-- one more definition

abbrev defines : List Definition → ℕ → Option ℕ
defines ds n = option_map function_of (slice_get ds n)

abbrev Numbered : List (Option ℕ) → List Definition → Type 0
Numbered numbers ds = (place number : ℕ) → (note_at numbers place ≡ Some number) ↔ (defines ds number ≡ Some place)

defines_last : (ds : List Definition) (d : Definition) → defines (ds ++ d ∷ []) (length ds) ≡ Some d.function
defines_last ds d =
    ap (option_map function_of)
    (slice_get-get_or (ds ++ d ∷ []) (length ds) d (omega (arith, length-append ds (d ∷ []))) ∙ ap Some (get_or-append_seam ds d [] d))

defines_before : (ds : List Definition) (d : Definition) (n : ℕ) → n < length ds → defines (ds ++ d ∷ []) n ≡ defines ds n
defines_before ds d n less =
    ap (option_map function_of)
    (slice_get-get_or (ds ++ d ∷ []) n d (omega (arith, less, length-append ds (d ∷ []))) ∙ ap Some (get_or-append ds (d ∷ []) d n less)
    ∙ sym (slice_get-get_or ds n d less))

defines_past : (ds : List Definition) (n : ℕ) → length ds ≤ n → defines ds n ≡ None
defines_past ds n past = ap (option_map function_of) (slice_get_past ds n past)

module _ (numbers : List (Option ℕ)) (ds : List Definition) (d : Definition) (free : note_at numbers d.function ≡ None) (within : d.function < length numbers)
    (h : Numbered numbers ds) where
  number_to : (place number : ℕ) → note_at (item_replaced numbers d.function (Some (length ds))) place ≡ Some number → defines (ds ++ d ∷ []) number ≡ Some place
  number_to place number is =
      ⊎_elim
      (λ e.
      let same : length ds ≡ number = same_Some (length ds) number (sym (noted_here numbers d.function (length ds) within) ∙ ap (note_at (item_replaced numbers d.function (Some (length ds)))) (sym e) ∙ is) in
      ap (defines (ds ++ d ∷ [])) (sym same) ∙ defines_last ds d ∙ ap Some (sym e))
      (λ n.
      let old : defines ds number ≡ Some place = (h place number).0 (sym (noted_apart numbers d.function place (length ds) n) ∙ is) in
      ⊎_elim (λ less. defines_before ds d number less ∙ old) (λ past. none_is_some (defines ds number) place (defines_past ds number past) old) (cases_lt number (length ds)))
      (cases_eq place d.function)

  number_from : (place number : ℕ) → defines (ds ++ d ∷ []) number ≡ Some place → note_at (item_replaced numbers d.function (Some (length ds))) place ≡ Some number
  number_from place number is =
      ⊎_elim
      (λ less.
      let old : note_at numbers place ≡ Some number = (h place number).1 (sym (defines_before ds d number less) ∙ is) in
      noted_apart numbers d.function place (length ds) (λ e. none_is_some (note_at numbers place) number (ap (note_at numbers) e ∙ free) old) ∙ old)
      (λ past.
      ⊎_elim
      (λ e.
      let same : d.function ≡ place = same_Some d.function place (sym (defines_last ds d) ∙ ap (defines (ds ++ d ∷ [])) (sym e) ∙ is) in
      ap (note_at (item_replaced numbers d.function (Some (length ds)))) (sym same) ∙ noted_here numbers d.function (length ds) within ∙ ap Some (sym e))
      (λ n. none_is_some (defines (ds ++ d ∷ []) number) place (defines_past (ds ++ d ∷ []) number (omega (arith, past, n, length-append ds (d ∷ [])))) is)
      (cases_eq number (length ds)))
      (cases_lt number (length ds))

  one_defined : Numbered (item_replaced numbers d.function (Some (length ds))) (ds ++ d ∷ [])
  one_defined place number = (number_to place number, number_from place number)

-- the functions of the walk

abbrev AreFit : Functions → Type 0
AreFit q = (length q.numbers ≡ length q.entries) × Numbered q.numbers q.definitions

fit_function : (name : List ℕ) (f : FunctionType) (known : Option ℕ) (w : Walk) → AreFit (functions_of w) → AreFit (functions_of (with_function name f known w))
fit_function name f (Some index) w h = h
fit_function name f None w h = (
  omega (arith, h.0, length-append w.defined_as (None ∷ []), length-append w.functions (record { name = name; ctype = f } ∷ [])),
  λ place number. ((λ is. (h.1 place number).0 (sym (noted_none w.defined_as place) ∙ is)), (λ is. noted_none w.defined_as place ∙ (h.1 place number).1 is)),
)

same_definitions : (name : List ℕ) (f : FunctionType) (known : Option ℕ) (w : Walk) → (with_function name f known w).definitions ≡ w.definitions
same_definitions name f None w = refl
same_definitions name f (Some index) w = refl

-- a function that is known is one of those that were declared
abbrev IsKnownIn : Option ℕ → Walk → Type 0
IsKnownIn known w = (index : ℕ) → known ≡ Some index → index < length w.functions

no_type : {A : Type 0} (f : FunctionType) (g : Option FunctionEntry) → g ≡ None → has_type f g ≡ true → A
no_type f None e h = absurd (cc)
no_type f (Some g) e h = absurd (cc)

known_by : (b : Bool) (f : FunctionType) (k : ℕ) (w : Walk) → has_type f (slice_get w.functions k) ≡ b → IsKnownIn (if b then Some k else None) w
known_by false f k w is = λ index h. none_is_some None index refl h
known_by true f k w is = λ index h.
    ⊎_elim (λ less. subst (λ n. n < length w.functions) (same_Some k index h) less)
    (λ past. no_type f (slice_get w.functions k) (slice_get_past w.functions k past) is) (cases_lt k (length w.functions))

known_in_walk : (f : FunctionType) (m : Option Meaning) (w : Walk) → IsKnownIn (known_as f m w) w
known_in_walk f None w = λ index h. none_is_some None index refl h
known_in_walk f (Some (meaning.Function k)) w = known_by (has_type f (slice_get w.functions k)) f k w refl
known_in_walk f m w = λ index h. none_is_some None index refl h

-- the place of the function that is defined: it is one of those that are declared, and has no number yet

place_within : (name : List ℕ) (f : FunctionType) (known : Option ℕ) (w : Walk) → IsKnownIn known w → AreFit (functions_of w) →
    unwrap_or known (length w.functions) < length (with_function name f known w).defined_as
place_within name f None w known h = omega (arith, h.0, length-append w.defined_as (None ∷ []))
place_within name f (Some index) w known h = omega (arith, h.0, known index refl)

place_free : (name : List ℕ) (f : FunctionType) (known : Option ℕ) (w : Walk) (k : ℕ) → note_at w.defined_as k ≡ None → note_at (with_function name f known w).defined_as k ≡ None
place_free name f None w k h = noted_none w.defined_as k ∙ h
place_free name f (Some index) w k h = h

-- what an item does to the functions
abbrev Does : Functions → List (ℕ × ℕ) → Walk → Type 0
Does q frames v = (AreFit q → AreFit (functions_of v)) × (map definition_frame v.definitions ≡ map definition_frame q.definitions ++ frames)

locals_are : (ps : List Part) (s : Seen) → (noting_all ps s).locals ≡ locals_behind s.locals ps
locals_are [] s = refl
locals_are (Expression token ∷ ps) s = locals_are ps (noting (Expression token) s)
locals_are (Use token ∷ ps) s = locals_are ps (noting (Use token) s)
locals_are (Declared true token name ∷ ps) s = locals_are ps (noting (Declared true token name) s)
locals_are (Declared false token name ∷ ps) s = locals_are ps (noting (Declared false token name) s)
locals_are (Begins ∷ ps) s = locals_are ps (noting Begins s)

one_longer : (xs : List VariableEntry) (x : VariableEntry) (n : ℕ) → length (xs ++ x ∷ []) + n ≡ length xs + (1 + n)
one_longer xs x n = omega (arith, length-append xs (x ∷ []))

variables_more : (ps : List Part) (s : Seen) → length (noting_all ps s).variables ≡ length s.variables + variables_in ps
variables_more [] s = omega arith
variables_more (Expression token ∷ ps) s = variables_more ps (noting (Expression token) s)
variables_more (Use token ∷ ps) s = variables_more ps (noting (Use token) s)
variables_more (Declared true token name ∷ ps) s =
    variables_more ps (noting (Declared true token name) s) ∙ one_longer s.variables _ (variables_in ps)
variables_more (Declared false token name ∷ ps) s =
    variables_more ps (noting (Declared false token name) s) ∙ one_longer s.variables _ (variables_in ps)
variables_more (Begins ∷ ps) s = variables_more ps (noting Begins s)

defined_does : (q : Functions) (u : Walk) (index first : ℕ) → functions_of u ≡ q → note_at q.numbers index ≡ None → index < length q.numbers → AreFit q →
    AreFit (functions_of (with_definition index first u))
defined_does q u index first same free within h =
    let g : AreFit (functions_of u) = subst AreFit (sym same) h in (
      length_replaced u.defined_as index (Some (length u.definitions)) ∙ g.0,
      one_defined u.defined_as u.definitions (record { function = index; first = first; count = u.locals })
          (subst (λ (p : Functions). note_at p.numbers index ≡ None) (sym same) free) (subst (λ (p : Functions). index < length p.numbers) (sym same) within) g.1,
    )

body_does : (token : ℕ) (f : FunctionType) (name : List ℕ) (ps : List Parameter) (body : EntryList) (known : Option ℕ) (w : Walk) → IsKnownIn known w →
    Gives (λ _ v. Does (functions_of w) ((length w.variables, locals_behind 0 (Begins ∷ parts_from ps ++ entries_parts body)) ∷ []) v) (walk_body token f name ps body known w)
unfolding walk_body
body_does token f name ps body known w valid =
    let parts : List Part = Begins ∷ parts_from ps ++ entries_parts body in
    let v : Walk = with_function name f known w in
    let index : ℕ = unwrap_or known (length w.functions) in
    let frames : List (ℕ × ℕ) = (length w.variables, locals_behind 0 parts) ∷ [] in
    gives_then (λ _ u. Step parts (stage v) (stage u)) (λ _ u. Does (functions_of w) frames u) (walk_entries f.gives false body (body_scope_opened ps v) >>= scope_closed) _
    (inner_notes f.gives ps body v)
    (λ _ u h. gives_then (λ _ r. Step [] (stage u) (stage r) × (is_refused name known w ≡ false)) (λ _ r. Does (functions_of w) frames r)
    (function_checked token (is_refused name known w) f.gives u) _ (declares_gives token (is_refused name known w) f.gives u)
    (λ _ r k.
    let same : functions_of r ≡ functions_of v = k.0.2 ∙ h.2 in
    let count : r.locals ≡ locals_behind 0 parts = ap (λ (s : Seen). s.locals) (k.0.0 ∙ h.0) ∙ locals_are parts (seen v) in (
      λ fit. defined_does (functions_of v) r index (length w.variables) same
          (place_free name f known w index (not_some (note_at w.defined_as index) (or_second_false (is_clashing_name name known w) (is_defined index w.defined_as) k.1)))
          (place_within name f known w valid fit) (fit_function name f known w fit),
      map-append definition_frame r.definitions (record { function = index; first = length w.variables; count = r.locals } ∷ [])
          ∙ ap (λ ds. map definition_frame ds ++ (length w.variables, r.locals) ∷ []) (ap (λ (p : Functions). p.definitions) same ∙ same_definitions name f known w)
          ∙ ap (λ n. map definition_frame w.definitions ++ (length w.variables, n) ∷ []) count,
    )))

-- a function with a body
with_body_does : (token : ℕ) (f : FunctionType) (name : List ℕ) (xs : List Parameter) (body : EntryList) (parts : List Part) (w v : Walk) → AreListed (stage w) parts xs v →
    Gives (λ _ u. Does (functions_of w) ((length w.variables, locals_behind 0 (Begins ∷ parts ++ entries_parts body)) ∷ []) u) (typed_function token f name xs (Some body) v)
with_body_does token f name xs body parts w v h =
    let same : functions_of v ≡ functions_of w = h.0.2 in
    let long : length v.variables ≡ length w.variables = ap (λ (s : Seen). length s.variables) h.0.0 in
    subst (λ q. Gives (λ _ u. Does q ((length w.variables, locals_behind 0 (Begins ∷ parts ++ entries_parts body)) ∷ []) u) (typed_function token f name xs (Some body) v)) same
    (subst (λ n. Gives (λ _ u. Does (functions_of v) ((n, locals_behind 0 (Begins ∷ parts ++ entries_parts body)) ∷ []) u) (typed_function token f name xs (Some body) v)) long
    (subst (λ ps. Gives (λ _ u. Does (functions_of v) ((length v.variables, locals_behind 0 (Begins ∷ ps ++ entries_parts body)) ∷ []) u) (typed_function token f name xs (Some body) v)) h.1
    (body_does token f name xs body (known_as f (declared_meaning name v.names) v) v (known_in_walk f (declared_meaning name v.names) v))))

stays_so : (q : Functions) (v : Walk) → functions_of v ≡ q → Does q [] v
stays_so q v same =
    (λ fit. subst AreFit (sym same) fit, ap (λ (p : Functions). map definition_frame p.definitions) same ∙ sym (append-nil (map definition_frame q.definitions)))

without_body_does : (token : ℕ) (f : FunctionType) (name : List ℕ) (xs : List Parameter) (w v : Walk) → Step [] (stage w) (stage v) →
    Gives (λ _ u. Does (functions_of w) [] u) (typed_function token f name xs None v)
without_body_does token f name xs w v same =
    let known : Option ℕ = known_as f (declared_meaning name v.names) v in
    gives_more (λ _ u. Step [] (stage (with_function name f known v)) (stage u) × (is_clashing_name name known v ≡ false)) (λ _ u. Does (functions_of w) [] u)
    (typed_function token f name xs None v)
    (λ _ u k. (
      λ fit. subst AreFit (sym k.0.2) (fit_function name f known v (subst AreFit (sym same.2) fit)),
      ap (λ (p : Functions). map definition_frame p.definitions) k.0.2 ∙ ap (map definition_frame) (same_definitions name f known v) ∙ ap (λ (p : Functions). map definition_frame p.definitions) same.2
          ∙ sym (append-nil (map definition_frame w.definitions)),
    ))
    (declares_gives token (is_clashing_name name known v) f.gives (with_function name f known v))

function_does : (token : ℕ) (b : Base) (stars : ℕ) (name : List ℕ) (ps : Params) (body : Option EntryList) (w : Walk) →
    Gives (λ _ v. Does (functions_of w) (frame_of (length w.variables) (i.Function token b stars name ps body)) v) (walk_item (i.Function token b stars name ps body) w)
function_does token b stars name ps None w =
    gives_then (λ t v. Step [] (stage w) (stage v)) (λ _ v. Does (functions_of w) [] v) (base_type b w) _ (base_notes b w)
    (λ t v same. gives_then (AreListed (stage w) (params_parts (listed_params ps))) (λ _ u. Does (functions_of w) [] u) (walk_params false (listed_params ps) [] v) _
    (params_are false (listed_params ps) [] (stage w) (params_parts (listed_params ps)) v same refl) (λ xs u h. without_body_does token _ name xs w u h.0))
function_does token b stars name ps (Some body) w =
    let frames : List (ℕ × ℕ) = (length w.variables, locals_behind 0 (Begins ∷ params_parts (listed_params ps) ++ entries_parts body)) ∷ [] in
    gives_then (λ t v. Step [] (stage w) (stage v)) (λ _ v. Does (functions_of w) frames v) (base_type b w) _ (base_notes b w)
    (λ t v same. gives_then (AreListed (stage w) (params_parts (listed_params ps))) (λ _ u. Does (functions_of w) frames u) (walk_params true (listed_params ps) [] v) _
    (params_are true (listed_params ps) [] (stage w) (params_parts (listed_params ps)) v same refl) (λ xs u h. with_body_does token _ name xs body (params_parts (listed_params ps)) w u h))

-- a struct declares no function
struct_by : (b c : Bool) (token : ℕ) (s : StructType) (v : Walk) (q : Functions) → functions_of v ≡ q →
    Gives {A = Done} (λ _ u. functions_of u ≡ q)
    (if b then Faulty fault.Redeclared token else if c then Fine tt (record v { structs = v.structs ++ s ∷ [] }) else Faulty fault.Object token)
struct_by true c token s v q same = tt
struct_by false true token s v q same = same
struct_by false false token s v q same = tt

defined_same : (token : ℕ) (twice : Bool) (s : StructType) (v : Walk) (q : Functions) → functions_of v ≡ q → Gives (λ _ u. functions_of u ≡ q) (struct_defined token twice s v)
defined_same token twice s v q same = struct_by twice (nat_le s.cells most_cells) token s v q same

item_does : (x : ItemTree) (w : Walk) → Gives (λ _ v. Does (functions_of w) (frame_of (length w.variables) x) v) (walk_item x w)
item_does (i.Struct token tag members) w =
    gives_more (λ _ v. functions_of v ≡ functions_of w) (λ _ v. Does (functions_of w) [] v) (walk_struct token tag members w) (λ _ v same. stays_so (functions_of w) v same)
    (gives_then (λ s v. Step [] (stage w) (stage v)) (λ _ v. functions_of v ≡ functions_of w) (walk_members members empty_struct (with_tag tag w)) _
    (members_notes members empty_struct (with_tag tag w)) (λ s v step. defined_same token (is_here tag w.tags) s v (functions_of w) step.2))
item_does (i.Function token b stars name ps body) w = function_does token b stars name ps body w
item_does (i.Declaration declaration) w =
    gives_more (λ _ v. Step (declaration_parts true declaration) (stage w) (stage v)) (λ _ v. Does (functions_of w) [] v) (walk_declaration true declaration w)
    (λ _ v h. stays_so (functions_of w) v h.2) (declaration_notes true declaration w)

pub gives_two : {A : Type 0} (P Q : A → Walk → Type 0) (r : Walked A) → Gives P r → Gives Q r → Gives (λ x v. P x v × Q x v) r
gives_two P Q (Fine x v) h k = (h, k)
gives_two P Q (Faulty kind token) h k = tt

does_then : (q : Functions) (first rest : List (ℕ × ℕ)) (v u : Walk) → Does q first v → Does (functions_of v) rest u → Does q (first ++ rest) u
does_then q first rest v u h k =
    (λ fit. k.0 (h.0 fit), k.1 ∙ ap (λ fs. fs ++ rest) h.1 ∙ append_assoc (map definition_frame q.definitions) first rest)

items_do : (xs : List ItemTree) (w : Walk) → Gives (λ _ v. Does (functions_of w) (frames_from (length w.variables) xs) v) (walk_items xs w)
items_do [] w = stays_so (functions_of w) w refl
items_do (x ∷ xs) w =
    gives_then (λ _ v. Does (functions_of w) (frame_of (length w.variables) x) v × PlainStep (item_parts x) (stage w) (stage v))
    (λ _ v. Does (functions_of w) (frames_from (length w.variables) (x ∷ xs)) v) (walk_item x w) _
    (gives_two (λ _ v. Does (functions_of w) (frame_of (length w.variables) x) v) (λ _ v. PlainStep (item_parts x) (stage w) (stage v)) (walk_item x w) (item_does x w) (item_notes x w))
    (λ _ v first.
    let long : length v.variables ≡ length w.variables + variables_in (item_parts x) =
    ap (λ (s : Seen). length s.variables) first.1.0 ∙ variables_more (item_parts x) (plainly (seen w)) in
    gives_more (λ _ u. Does (functions_of v) (frames_from (length v.variables) xs) u) (λ _ u. Does (functions_of w) (frames_from (length w.variables) (x ∷ xs)) u) (walk_items xs v)
    (λ _ u rest. does_then (functions_of w) (frame_of (length w.variables) x) (frames_from (length w.variables + variables_in (item_parts x)) xs) v u first.0
    (subst (λ n. Does (functions_of v) (frames_from n xs) u) long rest)) (items_do xs v))

none_fit : AreFit (record { entries = []; numbers = []; definitions = [] })
none_fit = (refl, λ place number. ((λ is. none_is_some None number refl is), (λ is. none_is_some None place refl is)))

ends_do : (t : SourceTree) (f : Option (FaultKind × ℕ)) (w : Walk) → Does (functions_of (empty_walk (length t.lines))) (frames_from 0 t.items) w →
    Gives (λ _ v. Does (functions_of (empty_walk (length t.lines))) (frames_from 0 t.items) v) (ends_with f w)
ends_do t None w h = h
ends_do t (Some f) w h = tt

all_done : (t : SourceTree) (w : Walk) → walk_tree t ≡ Fine tt w → Does (functions_of (empty_walk (length t.lines))) (frames_from 0 t.items) w
all_done t w is =
    subst (Gives (λ _ v. Does (functions_of (empty_walk (length t.lines))) (frames_from 0 t.items) v)) is
    (gives_then (λ _ v. Does (functions_of (empty_walk (length t.lines))) (frames_from 0 t.items) v)
    (λ _ v. Does (functions_of (empty_walk (length t.lines))) (frames_from 0 t.items) v) (walk_items t.items (empty_walk (length t.lines))) _
    (items_do t.items (empty_walk (length t.lines))) (λ _ v h. ends_do t (last_fault (length t.lines) v) v h))

-- The number of a function is the place of its definition.
pub functions_numbered : (t : SourceTree) (w : Walk) → walk_tree t ≡ Fine tt w → (place number : ℕ) → HasNumber w place number
functions_numbered t w is = ((all_done t w is).0 none_fit).1

-- The definitions stand in their order, each with where its locals begin and how many they are.
pub frames_are : (t : SourceTree) (w : Walk) → walk_tree t ≡ Fine tt w → map definition_frame w.definitions ≡ frames_from 0 t.items
frames_are t w is = (all_done t w is).1
