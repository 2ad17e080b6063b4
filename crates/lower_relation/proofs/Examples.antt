-- `int main(){while(getchar()-65)putchar(66);return 7&&0;}`: what it means on an input, and a program that is its graph.
use Rattle.std.proofs.Common.{◌≡◌, ℕ, zero, suc, refl, sym, ◌∙◌, subst, List, [], ◌∷◌, Some, None, true, codes}
use Rattle.std.specs.Prelude.{Option, pos, slice_get, ◌==◌, if◌then◌else◌}
use Rattle.std.specs.Option.{option_map}
use Rattle.std.proofs.lemmas.Option.{none-some, same_Some}
use Rattle.cbi_base.specs.declared.observation.Observation.{Observation}
use Rattle.cbi_base.specs.declared.observation.Seen.{Seen}
use Rattle.cbi_base.specs.declared.observation.Seen.TheVariants.{First, Second}
use Rattle.cbi_base.specs.declared.outcome.Outcome.TheVariants.{Ended}
use Rattle.cbi_base.specs.declared.scalar.Kind.TheVariants.{Char, Int}
use Rattle.cbi_base.specs.Scalars.{operator_applied, applied_to_one, converted_number}
use Rattle.c_syntax.specs.declared.token.Sign.TheVariants as sign
use Rattle.c_syntax.specs.ExprTree as e
use Rattle.c_syntax.specs.Words.{ExprTree, EntryList, StatementTree}
use Rattle.c_syntax.specs.StatementTree as tree
use Rattle.flow.specs.declared.node.Node.{Node}
use Rattle.flow.specs.declared.node.Node.TheVariants as node
use Rattle.flow.specs.declared.node.View.{View}
use Rattle.flow.specs.declared.node.View.TheVariants as view
use Rattle.flow.specs.declared.program.ProgramParts.{ProgramParts}
use Rattle.cbi_base.specs.declared.operators.Binary.TheVariants as op
use Rattle.cbi_base.specs.declared.operators.Unary.TheVariants as unary
use Rattle.flow.specs.declared.site.BranchWord.{BranchWord}
use Rattle.flow.specs.declared.site.BranchWord.TheVariants as word
use Rattle.flow.specs.declared.site.Site.{Site}
use Rattle.flow.specs.declared.site.SiteKind.TheVariants.{Branch}
use Rattle.flow.specs.Words.{code_of, view_at, MachineEnds, no_work, seen_at_site}
use Rattle.flow.specs.View as flow_view
use Rattle.c_meaning.specs.declared.value_type.ValueType.TheVariants as type
use Rattle.c_meaning.specs.Words.{Facts, Signature, operation_result, Behaviour, Source, meaning}
use Rattle.lower_relation.specs.Functions.{Stays, BodyIn, IsGraphOf, callee_with, ending_of, graph_of_nodes}
use Rattle.lower_relation.specs.Paths.{Exits}
use Rattle.lower_relation.specs.Stands.{Stands, renumbered_view}
use Rattle.lower_relation.proofs.WholeRuns.{run_ok}

abbrev main : Signature
main = record { params = []; result = type.Number Int; locals = [] }

abbrev facts : Facts
facts = record {
  type_at = λ token. Some (type.Number Int);
  cells_at = λ token. None;
  named_cells = λ base stars. None;
  slot_at = λ token. None;
  declared_at = λ token. None;
  element_at = λ token. None;
  offset_at = λ token. None;
  function_at = λ token. None;
  text_at = λ token. None;
  statics = record { globals = 0; texts = [] };
  signature = slice_get (main ∷ []);
}

abbrev branch : BranchWord → ℕ → Site
branch w token = record { kind = Branch w; function = 0; line = 1; token = token }

abbrev table : List Site
table = branch word.While 5 ∷ branch word.AndAnd 20 ∷ []

-- the tokens of the `while` and of the `&&`
abbrev branch_at : ℕ → Option ℕ
branch_at token = if token == 5 then Some 0 else if token == 20 then Some 1 else None

abbrev loop : StatementTree
loop =
    tree.While 5 (e.Chain 4 (e.Call 7 (codes "getchar") e.no_exprs) (e.more_links 10 sign.Minus (e.Constant 11 Int (pos 65)) e.no_links))
    (tree.Expr 13 (e.Call 13 (codes "putchar") (e.more_exprs (e.Constant 15 Int (pos 66)) e.no_exprs)))

abbrev value : ExprTree
value = e.Chain 11 (e.Constant 19 Int (pos 7)) (e.more_links 20 sign.AndAnd (e.Constant 21 Int (pos 0)) e.no_links)

abbrev body : EntryList
body = tree.stated loop (tree.stated (tree.Return 18 (Some value)) tree.no_entries)

abbrev text : Source
text = record {
  facts = facts;
  sites = record { branch_at = branch_at; return_at = λ token. None; pairs_at = λ token. []; site = slice_get table };
  body = slice_get (body ∷ []);
  main = 0;
  objects = Some [];
}

abbrev saw : ℕ → Seen → Observation
saw site seen = record { site = site; seen = seen }

-- two rounds of the loop, each of which writes a `B`, and then the end of the text
abbrev told : Behaviour
told = record {
  outcome = Ended (pos 0);
  output = codes "BB";
  seen = saw 0 First ∷ saw 0 First ∷ saw 0 Second ∷ saw 1 First ∷ [];
}

means : meaning text (codes "BCA") 2 ≡ told
unfolding meaning converted_number operator_applied applied_to_one operation_result seen_at_site
means = refl

abbrev nodes : List Node
nodes =
    node.Get 1 ∷ node.Push Int (pos 65) 2 ∷ node.Math op.Sub 3 ∷ node.Mark 0 4 ∷ node.Fork 5 10
    ∷ node.Push Int (pos 66) 6 ∷ node.Convert Int 7 ∷ node.Put 8 ∷ node.Drop 9 ∷ node.Again 0
    ∷ node.Push Int (pos 7) 11 ∷ node.Mark 1 12 ∷ node.Fork 13 16
    ∷ node.Push Int (pos 0) 14 ∷ node.Sole unary.Not 15 ∷ node.Sole unary.Not 18 ∷ node.Push Int (pos 0) 18
    ∷ node.Push Int (pos 0) 18 ∷ node.Return ∷ node.Leave ∷ node.Push Char (pos 0) 21 ∷ node.Exit ∷ []

abbrev program : ProgramParts
program = record {
  texts = [];
  globals = [];
  functions = record { name = codes "main"; value = true; params = 0; locals = []; nodes = nodes } ∷ [];
  main = 0;
  sites = table;
}

abbrev same : ℕ → ℕ
same i = i

renamed_same : (v : View) → renumbered_view same v ≡ v
renamed_same (view.Row op next) = refl
renamed_same (view.Halts op) = refl
renamed_same (view.Forks when_true when_false) = refl
renamed_same (view.Turns next) = refl
renamed_same (view.Calls function next) = refl
renamed_same view.Gives = refl
renamed_same view.Quits = refl
renamed_same (view.Marks site next) = refl
renamed_same (view.Skips by next) = refl
renamed_same (view.Tests site next) = refl
renamed_same (view.Picks weight fast slow) = refl
renamed_same (view.Imports next) = refl
renamed_same (view.Exports next) = refl
renamed_same view.Nowhere = refl

seen_as : (o : Option Node) (v : View) → option_map flow_view.view o ≡ Some v → view_at o ≡ v
seen_as None v h = cc
seen_as (Some n) v h = cc

stands : (bank : ℕ → ℕ) → Stands (code_of program bank) 0 (graph_of_nodes nodes) same
stands bank = record { at = λ i v h. seen_as (slice_get nodes i) v h ∙ sym (renamed_same v) }

abbrev exits : Exits
exits = record { next = 17; breaks = 20; continues = 20; gives = 18; leaves = 19 }

-- the condition, the body and the `again`; the returned value, which needs no conversion; and the end
main_does : (bank : ℕ → ℕ) → BodyIn (code_of program bank) text 0 main
main_does bank = record {
  nodes = nodes;
  ren = same;
  stands = stands bank;
  start = 0;
  first_node = refl;
  entry = 0;
  begins = Stays refl;
  exits = exits;
  runs = (
    10,
    (
      5,
      9,
      (3, (1, (1, refl, refl), (3, (2, refl, (2, refl, (2, refl, refl))), refl)), (4, (4, refl, refl), refl)),
      (8, (7, (6, refl, refl), refl), refl),
      refl,
    ),
    (17, (18, (11, refl, (18, (13, 16, (12, (12, refl, refl), refl), (14, refl, (15, refl, refl)), refl), refl)), refl), refl),
  );
  leaves = (refl, refl, refl, (21, refl, refl), (21, refl, refl));
}

bodies_do : (bank : ℕ → ℕ) (number : ℕ) (s : Signature) → slice_get (main ∷ []) number ≡ Some s → BodyIn (code_of program bank) text number s
bodies_do bank zero s is = subst (BodyIn (code_of program bank) text 0) (same_Some main s is) (main_does bank)
bodies_do bank (suc number) s is = absurd (none-some s is)

is_graph : IsGraphOf text program
is_graph = record {
  lowered = λ bank. record {
    agrees = record { statics = refl; site = λ number. refl };
    callees = λ number. elim number as
        (λ n. (code_of program bank).callee n ≡ option_map callee_with (slice_get (main ∷ []) n)) [ zero ↦ refl | suc n ↦ refl ];
    bodies = bodies_do bank;
  };
  main = refl;
  objects = refl;
}

-- so the machine ends so, with any bank
runs : (bank : ℕ → ℕ)
    → MachineEnds program (codes "BCA") bank 2 (record { outcome = told.outcome; output = told.output; seen = told.seen; work = no_work; drawn = 1 })
runs bank = subst (λ b. MachineEnds program (codes "BCA") bank 2 (ending_of b)) means (run_ok text program is_graph (codes "BCA") bank 2)
