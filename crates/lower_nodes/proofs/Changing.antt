-- What changes a place.
use Rattle.std.proofs.Common.{◌≡◌, ℕ, refl, rules, subst, List, [], ◌∷◌, ◌++◌, length, Option, Bool}
use Rattle.std.specs.Prelude.{pos}
use Rattle.cbi_base.specs.declared.scalar.Kind.{Kind}
use Rattle.flow.specs.declared.node.Node.{Node}
use Rattle.flow.specs.declared.node.Node.TheVariants as node
use Rattle.c_meaning.specs.declared.operation.Operation.{Operation}
use Rattle.c_meaning.specs.declared.value_type.ValueType.{ValueType}
use Rattle.c_meaning.specs.Words.{conversion, Facts, Sites, type_given, one_kind, step_operation}
use Rattle.lower_relation.specs.Operators.{Assigned, CompoundAssigned, Operates, Stepped, SteppedBehind, Updates}
use Rattle.lower_relation.specs.Values.{Converts, LoadAt}
use Rattle.lower_nodes.specs.Made.{Made}
use Rattle.lower_nodes.specs.Replacing.{StoresResult}
use Rattle.lower_nodes.proofs.Building.{◌and_then◌, row}

module _ (facts : Facts) (sites : Sites) (token : ℕ) (of : Option ValueType) where
  pub update_made : (o : Operation) (given : Option ValueType) (n0 n1 n2 n3 : List Node) (stored c i k : ℕ) → given ≡ type_given o of →
      Made (λ G. Assigned G facts sites token) n0 n1 stored k → Made (λ G. Converts G (conversion given of)) n1 n2 c stored → Made (λ G. Operates G o) n2 n3 i c →
      Made (λ G. Updates G facts sites token of o) n0 n3 i k
  update_made o given n0 n1 n2 n3 stored c i k e assigned converted operated =
      operated and_then subst (λ t. Made (λ G. Converts G (conversion t of)) n1 n2 c stored) e converted and_then assigned

  pub change_made : (o : Operation) (n0 n1 n2 n3 n4 : List Node) (updates swap load i k : ℕ) → Made (λ G. Updates G facts sites token of o) n0 n1 updates k →
      swap ≡ length n1 → n2 ≡ n1 ++ node.Swap updates ∷ [] → Made (λ G. LoadAt G of) n2 n3 load swap →
      i ≡ length n3 → n4 ≡ n3 ++ node.Over load ∷ [] → Made (λ G. CompoundAssigned G facts sites token of o) n0 n4 i k
  change_made o n0 n1 n2 n3 n4 updates swap load i k updated at is loaded at' is' =
      row (node.Over 0) _ at' is' refl and_then loaded and_then row (node.Swap 0) _ at is refl and_then updated

  pub step_made : (is_up : Bool) (o : Operation) (kind : Kind) (n0 n1 n2 n3 n4 : List Node) (updates one load i k : ℕ) → o ≡ step_operation is_up of → kind ≡ one_kind of →
      Made (λ G. Updates G facts sites token of o) n0 n1 updates k → one ≡ length n1 → n2 ≡ n1 ++ node.Push kind (pos 1) updates ∷ [] →
      Made (λ G. LoadAt G of) n2 n3 load one → i ≡ length n3 → n4 ≡ n3 ++ node.Dup load ∷ [] → Made (λ G. Stepped G facts sites is_up token of) n0 n4 i k
  step_made is_up o kind n0 n1 n2 n3 n4 updates one load i k e e' updated at is loaded at' is' =
      row (node.Dup 0) _ at' is' refl and_then loaded and_then row (node.Push (one_kind of) (pos 1) 0) _ at (subst (λ q. n2 ≡ n1 ++ node.Push q (pos 1) updates ∷ []) e' is) (search rules)
      and_then subst (λ q. Made (λ G. Updates G facts sites token of q) n0 n1 updates k) e updated

  pub replace_made : (o : Operation) (given : Option ValueType) (n0 n1 n2 n3 n4 : List Node) (drop stored c i k : ℕ) → given ≡ type_given o of →
      drop ≡ length n0 → n1 ≡ n0 ++ node.Drop k ∷ [] → Made (λ G. Assigned G facts sites token) n1 n2 stored drop →
      Made (λ G. Converts G (conversion given of)) n2 n3 c stored → Made (λ G. Operates G o) n3 n4 i c → Made (λ G. StoresResult G facts sites token of o) n0 n4 i k
  replace_made o given n0 n1 n2 n3 n4 drop stored c i k e at is assigned converted operated =
      operated and_then subst (λ t. Made (λ G. Converts G (conversion t of)) n2 n3 c stored) e converted and_then assigned and_then row (node.Drop 0) _ at is refl

  pub step_behind_made : (is_up : Bool) (o : Operation) (kind : Kind) (n0 n1 n2 n3 n4 n5 n6 : List Node) (replaced one over swap load i k : ℕ) → o ≡ step_operation is_up of →
      kind ≡ one_kind of → Made (λ G. StoresResult G facts sites token of o) n0 n1 replaced k → one ≡ length n1 → n2 ≡ n1 ++ node.Push kind (pos 1) replaced ∷ [] →
      over ≡ length n2 → n3 ≡ n2 ++ node.Over one ∷ [] → swap ≡ length n3 → n4 ≡ n3 ++ node.Swap over ∷ [] → Made (λ G. LoadAt G of) n4 n5 load swap →
      i ≡ length n5 → n6 ≡ n5 ++ node.Dup load ∷ [] → Made (λ G. SteppedBehind G facts sites is_up token of) n0 n6 i k
  step_behind_made is_up o kind n0 n1 n2 n3 n4 n5 n6 replaced one over swap load i k e e' made at1 is1 at2 is2 at3 is3 loaded at4 is4 =
      row (node.Dup 0) _ at4 is4 refl and_then loaded and_then row (node.Swap 0) _ at3 is3 refl and_then row (node.Over 0) _ at2 is2 refl
      and_then row (node.Push (one_kind of) (pos 1) 0) _ at1 (subst (λ q. n2 ≡ n1 ++ node.Push q (pos 1) replaced ∷ []) e' is1) (search rules)
      and_then subst (λ q. Made (λ G. StoresResult G facts sites token of q) n0 n1 replaced k) e made

pub ruleset updates_made = (update_made)

pub ruleset changed_made = (change_made)

pub ruleset stepped_made = (step_made)

pub ruleset replaced_made = (replace_made)

pub ruleset behind_made = (step_behind_made)
