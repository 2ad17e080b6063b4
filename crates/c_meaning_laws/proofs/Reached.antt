-- Objects to which nothing leads stay what they are, whatever is done to others.
use Rattle.std.proofs.Common.{◌≡◌, ℕ, ◌+◌, ◌<◌, ◌≤◌, ◌==◌, ℤ, pos, ◌+ℤ◌, Bool, true, false, cond, map, replicate, List, [], ◌∷◌, length, Option, Some}
use Rattle.std.proofs.Common.{None, Ok, Err, slice_get, slice_set, zero, suc, refl, ap, sym, ◌∙◌, subst, arith, inl, inr}
use Rattle.std.proofs.lemmas.Bool.{false≢true, false_from_ne_true}
use Rattle.std.specs.Prelude.{◌⊎◌, if◌then◌else◌}
use Rattle.std.specs.Cmp.{nat_cmp_total}
use Rattle.std.specs.FinMap.{get, insert, get-insert, get-remove}
use Rattle.std.specs.List.{AllByRecursion}
use Rattle.std.specs.Ordering.{eq_by_cmp, nat_cmp}
use Rattle.cbi_base.specs.declared.scalar.Class.{Class}
use Rattle.cbi_base.specs.declared.scalar.Class.TheVariants.{Heap, Local}
use Rattle.cbi_base.specs.declared.scalar.Scalar.{Scalar}
use Rattle.cbi_base.specs.declared.scalar.Scalar.TheVariants.{Number, Place, Null, Undefined}
use Rattle.cbi_base.specs.declared.scalar.Want.{Want}
use Rattle.cbi_base.specs.declared.trap.Trap.TheVariants as trap
use Rattle.cbi_base.specs.Words.{filled_in, Locals, Object, Objects, object_allocated, found_cell, has_room, is_heap_start, is_text, is_wanted, object_killed, live_or}
use Rattle.cbi_base.specs.Words.{loaded_value, made_with, moved_pointer, moved_in, one_object_more, place_or_null, object_released, set_in, value_stored, undefined_in, with_object}
use Rattle.cbi_base.specs.Objects.{◌>>=◌}
use Rattle.c_syntax.specs.ExprTree as e
use Rattle.c_syntax.specs.ExprTree.{ExprList}
use Rattle.c_meaning.specs.Words.{call_function, call_sense, with_result, Sense, Facts, Setting, Signature, arguments_value, expr, arguments_printed, lone_value}
use Rattle.c_meaning.specs.Words.{Source, call_at, setting_of, called_as, expression_count, has_value, site_list, sites_visited, World, Out, Go, Stop, bind, chosen_part, value_discarded, stuck_run}
use Rattle.c_meaning_laws.specs.Calls.{AreHidden, AreUnnamed, CallExpressionLeavesHidden, CallLeavesHidden, LeadsElsewhere}
use Rattle.c_meaning_laws.proofs.Objects.{put_other, removed_other}
use Rattle.c_meaning_laws.proofs.Parts.{Ends, ends_bind, ends_go}
use Rattle.c_meaning_laws.proofs.Kept.{Answers, Closed, Made, answers_bind}
use Rattle.c_meaning_laws.proofs.KeptPlaces.{StaticsOwn, visited_kept}
use Rattle.c_meaning_laws.proofs.KeptCalls.{calls_kept}

-- cells of which this holds
module _ (P : Scalar → Type 0) where
  abbrev IfCell : Option Scalar → Type 0
  IfCell None = Unit {0}
  IfCell (Some v) = P v

  cell_of : (cells : List Scalar) (i : ℕ) → AllByRecursion P cells → IfCell (slice_get cells i)
  cell_of [] i h = tt
  cell_of (x ∷ xs) zero h = h.0
  cell_of (x ∷ xs) (suc i) h = cell_of xs i h.1

  set_cells : (cells : List Scalar) (i : ℕ) (v : Scalar) → P v → AllByRecursion P cells → AllByRecursion P (slice_set cells i v)
  set_cells [] i v p h = tt
  set_cells (x ∷ xs) zero v p h = (p, h.1)
  set_cells (x ∷ xs) (suc i) v p h = (h.0, set_cells xs i v p h.1)

  all_set : (cells : List Scalar) (v : Scalar) → P v → AllByRecursion P (map (λ _. v) cells)
  all_set [] v p = tt
  all_set (x ∷ xs) v p = (p, all_set xs v p)

  all_alike : (n : ℕ) (v : Scalar) → P v → AllByRecursion P (replicate n v)
  all_alike zero v p = tt
  all_alike (suc n) v p = (p, all_alike n v p)

  abbrev IfObject : Option Object → Type 0
  IfObject None = Unit {0}
  IfObject (Some object) = AllByRecursion P object.cells

  either_object : (b : Bool) (object : Object) (o : Option Object) → AllByRecursion P object.cells → IfObject o → IfObject (cond b (Some object) o)
  either_object true object o h k = h
  either_object false object o h k = k

  or_none : (b : Bool) (o : Option Object) → IfObject o → IfObject (cond b None o)
  or_none true o h = tt
  or_none false o h = h

-- a set of objects, and the objects of a first state
module _ (hidden : ℕ → Bool) (first : Objects) where
  abbrev Elsewhere : Scalar → Type 0
  Elsewhere v = LeadsElsewhere hidden v

  abbrev Own : ℕ → Type 0
  Own number = hidden number ≡ false

  -- those of the set are what they were, and nothing leads to them
  record Stay (o : Objects) : Type 0 where
    pub same : (number : ℕ) → hidden number ≡ true → get o.live number ≡ get first.live number
    pub apart : AreHidden hidden o

  differs : (m n : ℕ) → hidden m ≡ true → Own n → m ≡ n → ⊥
  differs m n h k e = false≢true (sym k ∙ (ap hidden (sym e) ∙ h))

  cells_at : (o : Objects) (m : ℕ) → AreHidden hidden o → Own m → IfObject Elsewhere (get o.live m)
  cells_at o m h own = found_cells (get o.live m) refl
    where
      found_cells : (g : Option Object) → get o.live m ≡ g → IfObject Elsewhere g
      found_cells None e = tt
      found_cells (Some object) e = h.cells m object own e

  -- an object more or in the place of another one
  put_stays : (o : Objects) (made n : ℕ) (object : Object) → o.made ≤ made → Own n → AllByRecursion Elsewhere object.cells → Stay o
      → Stay (record { made = made; live = insert o.live n object })
  put_stays o made n object le own cells h = record {
    same = λ m k. put_other o n m object (differs m n k own) ∙ h.same m k;
    apart = record {
      made = λ m k. (let low : m < o.made = h.apart.made m k in omega (arith, low, le));
      cells = λ m found other is.
          subst (IfObject Elsewhere) is (subst (IfObject Elsewhere) (sym (get-insert nat_cmp_total o.live n object m))
          (either_object Elsewhere (eq_by_cmp nat_cmp m n) object (get o.live m) cells (cells_at o m h.apart other)));
    };
  }

  with_stays : (o : Objects) (n : ℕ) (object : Object) → Own n → AllByRecursion Elsewhere object.cells → Stay o → Stay (with_object o n object)
  with_stays o n object own cells h = put_stays o o.made n object (omega arith) own cells h

  kill_stays : (n : ℕ) (o : Objects) → Own n → Stay o → Stay (object_killed n o)
  kill_stays n o own h = record {
    same = λ m k. removed_other o n m (differs m n k own) ∙ h.same m k;
    apart = record {
      made = h.apart.made;
      cells = λ m found other is.
          subst (IfObject Elsewhere) is (subst (IfObject Elsewhere) (sym (get-remove nat_cmp_total o.live n m))
          (or_none Elsewhere (eq_by_cmp nat_cmp m n) (get o.live m) (cells_at o m h.apart other)));
    };
  }

  fresh_own : (n : ℕ) (o : Objects) → Stay o → o.made ≤ n → Own n
  fresh_own n o h le = false_from_ne_true (hidden n) (λ k. (let low : n < o.made = h.apart.made n k in absurd (omega (arith, low, le))))

  more_stays : (class : Class) (cells : List Scalar) (o : Objects) → AllByRecursion Elsewhere cells → Stay o → Stay (one_object_more class cells o)
  more_stays class cells o h k =
      put_stays o (o.made + 1) o.made (record { class = class; cells = cells }) (omega arith) (fresh_own o.made o k (omega arith)) h k

  -- loads
  either_value : (b : Bool) (v : Scalar) → Elsewhere v → Answers Elsewhere (if b then Ok v else Err trap.WrongKind)
  either_value true v h = h
  either_value false v h = tt

  found_elsewhere : (wanted : Want) (cell : Option Scalar) → IfCell Elsewhere cell → Answers Elsewhere (found_cell wanted cell)
  found_elsewhere wanted None h = tt
  found_elsewhere wanted (Some Undefined) h = tt
  found_elsewhere wanted (Some (Number kind value)) h = either_value (is_wanted wanted (Number kind value)) (Number kind value) h
  found_elsewhere wanted (Some (Place number offset)) h = either_value (is_wanted wanted (Place number offset)) (Place number offset) h
  found_elsewhere wanted (Some Null) h = either_value (is_wanted wanted Null) Null h

  live_object : (g : Option Object) → IfObject Elsewhere g → Answers (λ object. AllByRecursion Elsewhere object.cells) (live_or g)
  live_object None h = tt
  live_object (Some object) h = h

  loads_elsewhere : (wanted : Want) (p : Scalar) (o : Objects) → Elsewhere p → Stay o → Answers Elsewhere (loaded_value wanted p o)
  unfolding loaded_value
  loads_elsewhere wanted (Place number offset) o own h =
      answers_bind (λ object. AllByRecursion Elsewhere object.cells) Elsewhere (live_or (get o.live number))
      (λ object. found_cell wanted (slice_get object.cells offset))
      (live_object (get o.live number) (cells_at o number h.apart own)) (λ object k.
      found_elsewhere wanted (slice_get object.cells offset) (cell_of Elsewhere object.cells offset k))
  loads_elsewhere wanted p o own h = tt

  -- pointers that are moved
  either_place : (b : Bool) (number to : ℕ) → Own number → Answers Elsewhere (if b then Ok (Place number to) else Err trap.Bounds)
  either_place true number to own = own
  either_place false number to own = tt

  any_object : (g : Option Object) → Answers (λ _. Unit {0}) (live_or g)
  any_object None = tt
  any_object (Some object) = tt

  moves_elsewhere : (p : Scalar) (cells : ℤ) (o : Objects) → Elsewhere p → Answers Elsewhere (moved_pointer p cells o)
  unfolding moved_pointer
  moves_elsewhere (Place number offset) cells o own =
      answers_bind (λ _. Unit {0}) Elsewhere (live_or (get o.live number)) (λ object. moved_in number (pos offset +ℤ cells) object)
      (any_object (get o.live number)) (λ object _. either_place _ number _ own)
  moves_elsewhere p cells o own = tt

  -- stores
  either_set : (b : Bool) (text : Bool) (o : Objects) → Stay o
      → Answers Stay (if b then (if text then Err trap.ReadOnly else Ok o) else Err trap.Bounds)
  either_set true true o h = tt
  either_set true false o h = h
  either_set false text o h = tt

  set_stays : (number offset : ℕ) (v : Scalar) (o : Objects) → Own number → Elsewhere v → Stay o
      → Answers Stay (live_or (get o.live number) >>= set_in number offset v o)
  set_stays number offset v o own k h =
      answers_bind (λ object. AllByRecursion Elsewhere object.cells) Stay (live_or (get o.live number)) (set_in number offset v o)
      (live_object (get o.live number) (cells_at o number h.apart own)) (λ object cells.
      either_set _ (is_text object.class) (with_object o number (record object { cells = slice_set object.cells offset v }))
      (with_stays o number (record object { cells = slice_set object.cells offset v }) own (set_cells Elsewhere object.cells offset v k cells) h))

  stores_stay : (p v : Scalar) (o : Objects) → Elsewhere p → Elsewhere v → Stay o → Answers Stay (value_stored p v o)
  unfolding value_stored
  stores_stay (Place number offset) (Number kind value) o own k h = set_stays number offset (Number kind value) o own k h
  stores_stay (Place number offset) (Place other at) o own k h = set_stays number offset (Place other at) o own k h
  stores_stay (Place number offset) Null o own k h = set_stays number offset Null o own k h
  stores_stay p Undefined o own k h = tt
  stores_stay Undefined (Number kind value) o own k h = tt
  stores_stay Undefined (Place other at) o own k h = tt
  stores_stay Undefined Null o own k h = tt
  stores_stay Null (Number kind value) o own k h = tt
  stores_stay Null (Place other at) o own k h = tt
  stores_stay Null Null o own k h = tt
  stores_stay (Number j n) (Number kind value) o own k h = tt
  stores_stay (Number j n) (Place other at) o own k h = tt
  stores_stay (Number j n) Null o own k h = tt

  -- `malloc` and `free`
  either_killed : (b : Bool) (number : ℕ) (o : Objects) → Own number → Stay o → Answers Stay (if b then Ok (object_killed number o) else Err trap.BadFree)
  either_killed true number o own h = kill_stays number o own h
  either_killed false number o own h = tt

  releases_stay : (p : Scalar) (o : Objects) → Elsewhere p → Stay o → Answers Stay (object_released p o)
  unfolding object_released
  releases_stay Undefined o own h = tt
  releases_stay (Number kind value) o own h = tt
  releases_stay Null o own h = h
  releases_stay (Place number offset) o own h = either_killed (is_heap_start offset (get o.live number)) number o own h

  either_made : (class : Class) (b : Bool) (cells : List Scalar) (o : Objects) → AllByRecursion Elsewhere cells → Stay o
      → Made Stay (if b then Some (one_object_more class cells o) else None)
  either_made class true cells o h k = more_stays class cells o h k
  either_made class false cells o h k = tt

  placed_stays : (o : Objects) (made : Option Objects) → Stay o → Made Stay made
      → Elsewhere (place_or_null o.made o made).0 × Stay (place_or_null o.made o made).1
  placed_stays o None h k = (tt, h)
  placed_stays o (Some objects) h k = (fresh_own o.made o h (omega arith), k)

  abbrev chosen : ℕ → Objects → Bool → Scalar × Objects
  chosen cells o b = if b then (Null, o) else place_or_null o.made o (made_with Heap (replicate cells Undefined) o)

  chosen_stays : (cells : ℕ) (o : Objects) (b : Bool) → Stay o → Elsewhere (chosen cells o b).0 × Stay (chosen cells o b).1
  chosen_stays cells o true h = (tt, h)
  chosen_stays cells o false h =
      placed_stays o (made_with Heap (replicate cells Undefined) o) h
      (either_made Heap (has_room (length (replicate cells Undefined)) o) (replicate cells Undefined) o (all_alike Elsewhere cells Undefined tt) h)

  allocates_stay : (cells : ℕ) (o : Objects) → Stay o → Elsewhere (object_allocated cells o).0 × Stay (object_allocated cells o).1
  unfolding object_allocated
  allocates_stay cells o h = chosen_stays cells o (cells == 0) h

  -- variables
  undefined_stays : (o : Objects) (number : ℕ) (g : Option Object) → Own number → Stay o → Stay (undefined_in o number g)
  undefined_stays o number None own h = h
  undefined_stays o number (Some object) own h =
      with_stays o number (record object { cells = map (λ _. Undefined) object.cells }) own (all_set Elsewhere object.cells Undefined tt) h

  filled_stays : (o : Objects) (number : ℕ) (v : Scalar) (g : Option Object) → Own number → Elsewhere v → Stay o → Stay (filled_in o number v g)
  filled_stays o number v None own k h = h
  filled_stays o number v (Some object) own k h =
      with_stays o number (record object { cells = map (λ _. v) object.cells }) own (all_set Elsewhere object.cells v k) h

  closed : Closed Elsewhere Own Stay
  closed = record {
    numbers = λ kind value. tt;
    null = tt;
    undefined = tt;
    places = λ number offset own. own;
    loads = loads_elsewhere;
    moves = moves_elsewhere;
    stores = stores_stay;
    releases = releases_stay;
    allocates = allocates_stay;
    clears = λ number o own h. undefined_stays o number (get o.live number) own h;
    fills = λ number v o own k h. filled_stays o number v (get o.live number) own k h;
    kills = kill_stays;
    makes = λ cells o h k. either_made Local (has_room (length cells) o) cells o h k;
    fresh = λ number o h le. fresh_own number o h le;
  }

  statics_own : (facts : Facts) → AreUnnamed hidden facts → StaticsOwn Own facts
  statics_own facts h = record { globals = h.globals; texts = h.strings }

pub call_leaves_hidden : CallLeavesHidden
call_leaves_hidden src hidden turns number arguments v w u unnamed apart elsewhere is =
    let start : Stay hidden w.objects w.objects = record { same = λ m k. refl; apart = apart } in
    let kept : LeadsElsewhere hidden v × Stay hidden w.objects u.objects =
    ends_go (λ x y. LeadsElsewhere hidden x × Stay hidden w.objects y.objects) (call_at src turns number arguments w) v u
    ((calls_kept (closed hidden w.objects) src (statics_own hidden w.objects src.facts unnamed) turns number arguments elsewhere).at w start) is in
    (kept.1.same, kept.1.apart, kept.0)

module _ (src : Source) (hidden : ℕ → Bool) (turns token number : ℕ) (locals : Locals) (f : Signature) (passed : ExprList) (arguments : List Scalar)
    (w y : World) (unnamed : AreUnnamed hidden src.facts) (apart : AreHidden hidden y.objects)
    (elsewhere : AllByRecursion (LeadsElsewhere hidden) arguments) where
  abbrev s : Setting
  s = setting_of src (call_at src turns) locals

  abbrev Left : Scalar → World → Type 0
  Left v u = LeadsElsewhere hidden v × Stay hidden y.objects u.objects

  -- the arguments, and then the function
  abbrev run : World → Out Scalar
  run u = bind (arguments_value s f.params passed [] u) (s.call number)

  run_left : arguments_value s f.params passed [] w ≡ Go arguments y → Ends Left (run w)
  run_left evaluated =
      subst (λ out. Ends Left (bind out (s.call number))) (sym evaluated)
      ((calls_kept (closed hidden y.objects) src (statics_own hidden y.objects src.facts unnamed) turns number arguments elsewhere).at y
      (record { same = λ m k. refl; apart = apart }))

  fitting_left : (b : Bool) → arguments_value s f.params passed [] w ≡ Go arguments y → Ends Left (chosen_part b run stuck_run w)
  fitting_left true evaluated = run_left evaluated
  fitting_left false evaluated = tt

  abbrev IsLeft : Sense → Type 0
  IsLeft m = Ends Left (m.value w) × Ends (λ x u. Stay hidden y.objects u.objects) (m.effect w)

  done_left : (out : Out Scalar) → Ends Left out → Ends (λ x u. Stay hidden y.objects u.objects) (value_discarded out)
  done_left (Go v u) h = h.1
  done_left (Stop outcome u) h = tt

  result_left : (b fits : Bool) → arguments_value s f.params passed [] w ≡ Go arguments y → IsLeft (with_result s token b (chosen_part fits run stuck_run))
  result_left true fits evaluated =
      let seen : Ends Left (bind (chosen_part fits run stuck_run w) (sites_visited s (site_list (s.sites.return_at token)))) =
      ends_bind Left Left (chosen_part fits run stuck_run w) (sites_visited s (site_list (s.sites.return_at token))) (fitting_left fits evaluated) (λ v u k.
      (visited_kept (closed hidden y.objects) s (site_list (s.sites.return_at token)) v k.0).at u k.1) in
      (seen, done_left (bind (chosen_part fits run stuck_run w) (sites_visited s (site_list (s.sites.return_at token)))) seen)
  result_left false fits evaluated = (tt, done_left (chosen_part fits run stuck_run w) (fitting_left fits evaluated))

  -- what the call means is its arguments and its function
  abbrev sense_of : Option ℕ → List ℕ → Sense
  sense_of at name =
      call_sense s token (called_as at name) (expression_count passed) (λ types. arguments_value s types passed []) (λ want. lone_value s want passed) (arguments_printed s passed)

  call_left : (name : List ℕ) → src.facts.function_at token ≡ Some number → src.facts.signature number ≡ Some f
      → arguments_value s f.params passed [] w ≡ Go arguments y → IsLeft (expr s (e.Call token name passed))
  call_left name called known evaluated =
      subst (λ at. IsLeft (sense_of at name)) (sym called)
      (subst (λ g. IsLeft (call_function s token number g (expression_count passed) (λ types. arguments_value s types passed []))) (sym known)
      (result_left (has_value f.result) (expression_count passed == length f.params) evaluated))

  -- the objects of the set are what they were
  left_same : (m : Sense) (u : World) → IsLeft m → ((v : Scalar) × (m.value w ≡ Go v u)) ⊎ (m.effect w ≡ Go tt u) → (other : ℕ) → hidden other ≡ true
      → get u.objects.live other ≡ get y.objects.live other
  left_same m u left (inl given) other k = (ends_go Left (m.value w) given.0 u left.0 given.1).1.same other k
  left_same m u left (inr acted) other k = (ends_go (λ x z. Stay hidden y.objects z.objects) (m.effect w) tt u left.1 acted).same other k

pub call_expression_leaves_hidden : CallExpressionLeavesHidden
call_expression_leaves_hidden src hidden turns token number name locals f passed arguments w y u called known evaluated unnamed apart elsewhere went =
    left_same src hidden turns token number locals f passed arguments w y unnamed apart elsewhere
    (expr (setting_of src (call_at src turns) locals) (e.Call token name passed)) u
    (call_left src hidden turns token number locals f passed arguments w y unnamed apart elsewhere name called known evaluated) went
