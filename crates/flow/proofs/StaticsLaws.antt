-- The objects that are there from the start have room.
use Rattle.std.proofs.Common.{◌≡◌, ℕ, ◌+◌, ◌<◌, ◌≤◌, Bool, true, ◌&&◌, cond, nat_le, nat_lt, List, [], ◌∷◌, length, map, Option, Some, None, refl, sym, ap, ◌∙◌, subst, arith, length-append}
use Rattle.std.specs.Prelude.{IsSome}
use Rattle.std.specs.List.{sum_by}
use Rattle.std.specs.Option.{option_and_then}
use Rattle.std.specs.Ordering.{nat_cmp, eq_by_cmp}
use Rattle.std.specs.Cmp.{nat_cmp_total, unsigned_tied}
use Rattle.std.specs.FinMap.{get, empty, entries, len-entries, len-empty, get-empty, get-insert}
use Rattle.std.proofs.lemmas.Bool.Decides.{nat_tests}
use Rattle.std.proofs.lemmas.List.{length-map}
use Rattle.std.proofs.lemmas.List.Sums.{sum_by-cons, sum_by-append}
use Rattle.cbi_base.specs.Words.{char_of, each_made, Object, Objects, no_objects, live_cells, cell_limit, object_limit, made_with, one_object_more}
use Rattle.base_lists.proofs.Tests.{no_choice}
use Rattle.base_lists.proofs.Numbers.{more_apart}
use Rattle.base_lists.proofs.Maps.{sum_insert}
use Rattle.flow.specs.declared.program.Global.{Global}
use Rattle.flow.specs.declared.program.Text.{Text}
use Rattle.flow.specs.declared.program.ProgramParts.{ProgramParts}
use Rattle.flow.specs.Statics.{cell_value, object_of_global, text_object, program_objects}
use Rattle.flow.specs.Program.{IsProgram}

abbrev cells_of : Object → ℕ
cells_of object = length object.cells

-- there is room for so many cells more in so many objects more
record HasRoom (o : Objects) (cells count : ℕ) : Type 0 where
  pub room : live_cells o + cells ≤ cell_limit
  pub numbers : o.made + count ≤ object_limit
  pub fresh : (q : ℕ) → o.made ≤ q → get o.live q ≡ None

made_some : (object : Object) (o : Objects) → live_cells o + length object.cells ≤ cell_limit → o.made < object_limit →
    made_with object.class object.cells o ≡ Some (one_object_more object.class object.cells o)
made_some object o room number =
    let t : (nat_le (live_cells o + length object.cells) cell_limit && nat_lt o.made object_limit) ≡ true = grind (arith, nat_tests) in
    ap (λ (b : Bool). cond b (Some (one_object_more object.class object.cells o)) None) t

room_after : (object : Object) (o : Objects) (cells count : ℕ) → HasRoom o (length object.cells + cells) (count + 1) → HasRoom (one_object_more object.class object.cells o) cells count
room_after object o cells count h =
    let sum = sum_insert cells_of o.live o.made object (h.fresh o.made (omega arith)) in
    record {
      room = omega (arith, sum, h.room);
      numbers = omega (arith, h.numbers);
      fresh = λ q l. get-insert nat_cmp_total o.live o.made object q
          ∙ no_choice (eq_by_cmp nat_cmp q o.made) object (get o.live q) (unsigned_tied q o.made ∙ more_apart q o.made (omega (arith, l))) (h.fresh q (omega (arith, l)));
    }

all_made : (objects : List Object) (o : Objects) → HasRoom o (sum_by cells_of objects) (length objects) → IsSome (each_made objects o)
all_made [] o h = refl
all_made (object ∷ objects) o h =
    let sum = sum_by-cons cells_of object objects in
    let room : HasRoom o (length object.cells + sum_by cells_of objects) (length objects + 1) = record { room = omega (arith, sum, h.room); numbers = omega (arith, h.numbers); fresh = h.fresh } in
    let rest = all_made objects (one_object_more object.class object.cells o) (room_after object o (sum_by cells_of objects) (length objects) room) in
    subst (λ (found : Option Objects). IsSome (option_and_then (each_made objects) found))
    (sym (made_some object o (omega (arith, room.room)) (omega (arith, room.numbers)))) rest

nothing : (es : List (ℕ × Object)) → length es ≡ 0 → sum_by cells_of (map (λ e. e.1) es) ≡ 0
nothing [] none = refl
nothing (e ∷ es) none = absurd (omega (arith, none))

none_live : live_cells no_objects ≡ 0
none_live = nothing (entries {R = nat_cmp} empty) (sym (len-entries {R = nat_cmp} empty) ∙ len-empty nat_cmp Object)

global_cells : (n : ℕ) (globals : List Global) → sum_by cells_of (map (object_of_global n) globals) ≡ sum_by (λ g. length g.cells) globals
global_cells n [] = refl
global_cells n (g ∷ globals) =
    let a = sum_by-cons cells_of (object_of_global n g) (map (object_of_global n) globals) in
    let b = sum_by-cons (λ (x : Global). length x.cells) g globals in
    let c = length-map g.cells (cell_value n) in
    let d = global_cells n globals in
    omega (arith, a, b, c, d)

text_cells : (texts : List Text) → sum_by cells_of (map text_object texts) ≡ sum_by (λ t. length t.bytes) texts + length texts
text_cells [] = refl
text_cells (t ∷ texts) =
    let a = sum_by-cons cells_of (text_object t) (map text_object texts) in
    let b = sum_by-cons (λ (x : Text). length x.bytes) t texts in
    let c = length-append (map char_of t.bytes) (char_of 0 ∷ []) in
    let d = length-map t.bytes char_of in
    let e = text_cells texts in
    omega (arith, a, b, c, d, e)

pub have_room : (p : ProgramParts) → IsProgram p → IsSome (each_made (program_objects p) no_objects)
have_room p is =
    let n = length p.globals in
    let cells = sum_by-append cells_of (map (object_of_global n) p.globals) (map text_object p.texts) in
    let count = length-append (map (object_of_global n) p.globals) (map text_object p.texts) in
    let a = global_cells n p.globals in
    let b = text_cells p.texts in
    let c = length-map p.globals (object_of_global n) in
    let d = length-map p.texts text_object in
    let texts = is.parts.texts in
    let globals = is.parts.globals in
    all_made (program_objects p) no_objects (record {
      room = omega (arith, none_live, cells, a, b, texts.few, texts.total, globals.total);
      numbers = omega (arith, count, c, d, texts.few, globals.few);
      fresh = λ q h. get-empty nat_cmp q;
    })
