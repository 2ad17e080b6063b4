-- A text of which the laws speak, with what they say of it:
--     struct s { int a ; int b ; } ; struct s g ; int f ( ) { return 1 ; }
--     int main ( ) { int a = 3 ; { int b ; b = a ; } for ( int i = 0 ; i ; i = a ) g . b = f ( ) ; return a ; }
use Rattle.std.proofs.Common.{◌≡◌, refl, arith}
use Rattle.std.specs.Prelude.{true, false, pos, [], ◌∷◌, Some, None, codes, replicate, unwrap_or}
use Rattle.cbi_base.specs.declared.scalar.Kind.TheVariants as scalar
use Rattle.c_syntax.specs.declared.parts.Base.TheVariants as base
use Rattle.c_syntax.specs.declared.parts.Params.TheVariants as params
use Rattle.c_syntax.specs.declared.token.Sign.TheVariants as sign
use Rattle.c_syntax.specs.ExprTree as e
use Rattle.c_syntax.specs.ItemTree as i
use Rattle.c_syntax.specs.Words.{ItemTree, SourceTree, StatementTree, IsShaped}
use Rattle.c_syntax.specs.StatementTree as s
use Rattle.c_types.specs.Answers.{function_at, offset_at, scope_holds}
use Rattle.c_types.specs.Fault.{known_at_end, walk_tree}
use Rattle.c_types_expressions.specs.Words.{empty_walk, Fine}
use Rattle.c_types_expressions.specs.declared.walk.Walk.{Walk}
use Rattle.c_types_walk.specs.ItemWalk.{walk_body}
use Rattle.c_types_walk.specs.StatementWalk.{walk_typed}
use Rattle.c_types_faults.specs.Events.{Calls, Selects, construct_at, events_of}
use Rattle.c_types_faults.specs.Scopes.{scopes_of}

abbrev struct_s : ItemTree
struct_s = i.Struct 0 (codes "s") (
    record { token = 3; base = base.Int 3; declarators = record { token = 4; stars = 0; name_token = 4; name = codes "a"; bounds = [] } ∷ [] } ∷
    record { token = 6; base = base.Int 6; declarators = record { token = 7; stars = 0; name_token = 7; name = codes "b"; bounds = [] } ∷ [] } ∷ [])

abbrev global_g : ItemTree
global_g = i.Declaration (record {
  token = 11;
  base = base.Struct 11 (codes "s");
  starts = record {
    token = 13;
    declarator = record { token = 13; stars = 0; name_token = 13; name = codes "g"; bounds = [] };
    initial = None;
  } ∷ [];
})

abbrev function_f : ItemTree
function_f =
    i.Function 15 (base.Int 15) 0 (codes "f") params.Empty (Some (s.stated (s.Return 20 (Some (e.Constant 21 scalar.Int (pos 1)))) s.no_entries))

abbrev block_b : StatementTree
block_b = s.Block 34
    (s.declared (record {
      token = 35;
      base = base.Int 35;
      starts = record {
        token = 36;
        declarator = record { token = 36; stars = 0; name_token = 36; name = codes "b"; bounds = [] };
        initial = None;
      } ∷ [];
    })
    (s.stated (s.Expr 38 (e.Assign 39 sign.Equal (e.Name 38 (codes "b")) (e.Name 40 (codes "a")))) s.no_entries))

abbrev for_i : StatementTree
for_i = s.For 43
    (s.Declares (record {
      token = 45;
      base = base.Int 45;
      starts = record {
        token = 46;
        declarator = record { token = 46; stars = 0; name_token = 46; name = codes "i"; bounds = [] };
        initial = Some (s.Value (e.Constant 48 scalar.Int (pos 0)));
      } ∷ [];
    }))
    (Some (e.Name 50 (codes "i"))) (Some (e.Assign 53 sign.Equal (e.Name 52 (codes "i")) (e.Name 54 (codes "a"))))
    (s.Expr 56 (e.Assign 59 sign.Equal (e.Postfix (e.Name 56 (codes "g")) (e.member 57 (codes "b") e.no_postfix)) (e.Call 60 (codes "f") e.no_exprs)))

abbrev function_main : ItemTree
function_main = i.Function 24 (base.Int 24) 0 (codes "main") params.Empty (Some (
    s.declared (record {
      token = 29;
      base = base.Int 29;
      starts = record {
        token = 30;
        declarator = record { token = 30; stars = 0; name_token = 30; name = codes "a"; bounds = [] };
        initial = Some (s.Value (e.Constant 32 scalar.Int (pos 3)));
      } ∷ [];
    })
    (s.stated block_b (s.stated for_i (s.stated (s.Return 64 (Some (e.Name 65 (codes "a")))) s.no_entries)))))

abbrev sample : SourceTree
sample = record { items = struct_s ∷ global_g ∷ function_f ∷ function_main ∷ []; lines = replicate 68 1 }

abbrev known : Walk
known = unwrap_or (known_at_end (walk_tree sample)) (empty_walk 68)

sample_walked : walk_tree sample ≡ Fine tt known
unfolding walk_body walk_typed
sample_walked = refl

-- the scopes of `g`, `a`, `b` and `i`
sample_scopes : scopes_of sample ≡
    record { name = 13; first = 14; last = 67 } ∷ record { name = 30; first = 31; last = 67 } ∷ record { name = 36; first = 37; last = 42 } ∷
    record { name = 46; first = 47; last = 63 } ∷ []
sample_scopes = refl

-- `b` is in scope in its block, and not at the next assignment
b_within : scope_holds known 2 39 ≡ true
unfolding walk_body walk_typed
b_within = refl

b_behind : scope_holds known 2 53 ≡ false
unfolding walk_body walk_typed
b_behind = refl

-- `i` is in scope in its own initialiser and in the `for`'s body, and not behind that
i_begins : scope_holds known 3 47 ≡ true
unfolding walk_body walk_typed
i_begins = refl

i_within : scope_holds known 3 59 ≡ true
unfolding walk_body walk_typed
i_within = refl

i_behind : scope_holds known 3 65 ≡ false
unfolding walk_body walk_typed
i_behind = refl

-- the second member lies behind one cell
member_b : construct_at 57 (events_of sample) ≡ Some (Selects 56 false (codes "b"))
member_b = refl

offset_b : offset_at known 57 ≡ Some 1
unfolding walk_body walk_typed
offset_b = refl

-- the first definition is that of `f`
call_f : construct_at 60 (events_of sample) ≡ Some (Calls (codes "f"))
call_f = refl

number_f : function_at known 60 ≡ Some 0
unfolding walk_body walk_typed
number_f = refl

sample_shaped : IsShaped sample
sample_shaped = record {
  has_item = tt;
  items = (
    (tt, (tt, (tt, tt))),
    (
      (tt, (tt, tt)),
      (
        (tt, (tt, tt)),
        (
          (
            tt,
            (
              (tt, ((omega arith, tt), tt)),
              (
                ((tt, (tt, tt)), ((refl, omega arith, tt, omega arith, tt), tt)),
                (
                  ((tt, ((omega arith, tt), tt)), tt, (refl, omega arith, tt, omega arith, tt), (refl, omega arith, (omega arith, tt, tt, tt), omega arith, tt)),
                  (tt, tt),
                ),
              ),
            ),
          ),
          tt,
        ),
      ),
    ),
  );
  placed = (
    (refl, ((refl, refl, ((refl, refl), tt)), ((refl, refl, ((refl, refl), tt)), tt))),
    (
      (refl, refl, ((refl, (refl, refl), tt), tt)),
      (
        (refl, refl, tt, ((refl, refl), tt)),
        (
          (
            refl,
            refl,
            tt,
            (
              (refl, refl, ((refl, (refl, refl), refl), tt)),
              (
                (refl, ((refl, refl, ((refl, (refl, refl), tt), tt)), ((refl, (refl, refl, refl)), tt))),
                (
                  (refl, (refl, refl, ((refl, (refl, refl), refl), tt)), refl, (refl, refl, refl), (refl, (refl, (refl, (refl, tt)), (refl, tt)))),
                  ((refl, refl), tt),
                ),
              ),
            ),
          ),
          tt,
        ),
      ),
    ),
  );
  lines = refl;
}
