-- Arrays, which are zero in all cells before their list or their string is stored.
use Rattle.std.proofs.Common.{◌≡◌, ℕ, Bool, true, false, refl, sym, subst, List, [], ◌∷◌, ◌++◌, length, option_map, slice_get, Option, Some, None}
use Rattle.std.proofs.lemmas.Option.{same_Some}
use Rattle.c_syntax.specs.ExprTree as e
use Rattle.c_syntax.specs.Words.{ExprTree, ExprList, InitialTree}
use Rattle.c_syntax.specs.StatementTree as tree
use Rattle.flow.specs.declared.node.Node.{Node}
use Rattle.flow.specs.declared.node.Node.TheVariants as node
use Rattle.flow.specs.declared.program.Text.{Text}
use Rattle.flow.specs.declared.site.Slot.{Slot}
use Rattle.flow.specs.declared.site.Slot.TheVariants.{Global, Local}
use Rattle.c_meaning.specs.declared.value_type.ValueType.{ValueType}
use Rattle.c_meaning.specs.declared.value_type.ValueType.TheVariants as type
use Rattle.c_meaning.specs.Words.{Facts, Sites, want_of, text_of_string}
use Rattle.lower_relation.specs.Expressions.{number_of_text}
use Rattle.lower_relation.specs.Initialisers.{ArrayZeroed, ElementsSet, Initialised, OnLocal, ScalarSet, Spells, ValueSet, Zeroes}
use Rattle.lower_relation.specs.Paths.{Graph, Path, ◌then◌, Stuck}
use Rattle.lower_nodes.specs.Made.{GraphPath, Made, MadeAlone}
use Rattle.lower_nodes.proofs.Building.{one_made, surely_made, then_made}
use Rattle.lower_statements.specs.Locals.{local_of}
use Rattle.lower_statements.specs.Strings.{StringSet, is_array, known_text, text_with}

-- something is done to the local variable that a name stands for
pub on_local : (P : Graph → ℕ → Path ℕ) (at : Option Slot) (index : ℕ) (n0 n1 : List Node) (i k : ℕ) → Some index ≡ local_of at → Made (λ G. P G index) n0 n1 i k →
    Made (λ G. OnLocal G at (P G)) n0 n1 i k
on_local P None index n0 n1 i k e made = absurd (cc)
on_local P (Some (Local own)) index n0 n1 i k e made = subst (λ q. Made (λ G. P G q) n0 n1 i k) (same_Some index own e) made
on_local P (Some (Global own)) index n0 n1 i k e made = absurd (cc)

-- where it stands for none, no run comes there
pub off_local : (P : Graph → ℕ → Path ℕ) (at : Option Slot) (n0 n1 : List Node) (i k : ℕ) → None ≡ local_of at → MadeAlone (λ G. Stuck G) n0 n1 i k →
    Made (λ G. OnLocal G at (P G)) n0 n1 i k
off_local P None n0 n1 i k e made = surely_made (λ G. Stuck G) n0 n1 i k made
off_local P (Some (Local own)) n0 n1 i k e made = absurd (cc)
off_local P (Some (Global own)) n0 n1 i k e made = surely_made (λ G. Stuck G) n0 n1 i k made

spell_with : (number : ℕ) (found : Option Text) (text index : ℕ) (n0 n1 : List Node) (i k : ℕ) → Some text ≡ option_map (λ t. number) found → i ≡ length n0 →
    n1 ≡ n0 ++ node.Spell index text k ∷ [] → Made (λ G. Spells G (Some number) found index) n0 n1 i k
spell_with number None text index n0 n1 i k e at is = absurd (cc)
spell_with number (Some found) text index n0 n1 i k e at is =
    one_made (node.Spell index number 0) (node.Spell index number k) n0 n1 i k refl at (subst (λ q. n1 ≡ n0 ++ node.Spell index q k ∷ []) (same_Some text number e) is)

spell_without : (number : ℕ) (found : Option Text) (index : ℕ) (n0 n1 : List Node) (i k : ℕ) → None ≡ option_map (λ t. number) found → MadeAlone (λ G. Stuck G) n0 n1 i k →
    Made (λ G. Spells G (Some number) found index) n0 n1 i k
spell_without number None index n0 n1 i k e made = surely_made (λ G. Stuck G) n0 n1 i k made
spell_without number (Some found) index n0 n1 i k e made = absurd (cc)

-- the bytes of the string with a number are stored
pub spell_made : (facts : Facts) (number : Option ℕ) (text index : ℕ) (n0 n1 : List Node) (i k : ℕ) → Some text ≡ known_text facts number → i ≡ length n0 →
    n1 ≡ n0 ++ node.Spell index text k ∷ [] → Made (λ G. Spells G number (text_with facts number) index) n0 n1 i k
spell_made facts None text index n0 n1 i k e at is = absurd (cc)
spell_made facts (Some number) text index n0 n1 i k e at is = spell_with number (slice_get facts.statics.texts number) text index n0 n1 i k e at is

-- or there is no such string
pub no_spell : (facts : Facts) (number : Option ℕ) (index : ℕ) (n0 n1 : List Node) (i k : ℕ) → None ≡ known_text facts number → MadeAlone (λ G. Stuck G) n0 n1 i k →
    Made (λ G. Spells G number (text_with facts number) index) n0 n1 i k
no_spell facts None index n0 n1 i k e made = surely_made (λ G. Stuck G) n0 n1 i k made
no_spell facts (Some number) index n0 n1 i k e made = spell_without number (slice_get facts.statics.texts number) index n0 n1 i k e made

same_text : (facts : Facts) (x : ExprTree) → text_with facts (number_of_text facts x) ≡ text_of_string facts x
same_text facts (e.Strings token parts) = refl
same_text facts other = refl

-- the text of an expression is the one with the number that was found
pub text_found : (facts : Facts) (x : ExprTree) (index : ℕ) (n0 n1 : List Node) (i k : ℕ) →
    Made (λ G. Spells G (number_of_text facts x) (text_with facts (number_of_text facts x)) index) n0 n1 i k →
    Made (λ G. Spells G (number_of_text facts x) (text_of_string facts x) index) n0 n1 i k
text_found facts x index n0 n1 i k made = subst (λ q. Made (λ G. Spells G (number_of_text facts x) q index) n0 n1 i k) (same_text facts x) made

-- an array is zero, and then comes this part
pub zeroed_before : (P : GraphPath ℕ) (facts : Facts) (sites : Sites) (token : ℕ) (slot : Option Slot) (element : Option ValueType) (n0 n1 n2 : List Node) (m i k : ℕ) →
    slot ≡ facts.slot_at token → element ≡ facts.element_at token → Made P n0 n1 m k → Made (λ G. OnLocal G slot (Zeroes G (want_of element))) n1 n2 i m →
    Made (λ G. ArrayZeroed G facts sites token then P G) n0 n2 i k
zeroed_before P facts sites token slot element n0 n1 n2 m i k e f made zeroed =
    then_made (λ G. ArrayZeroed G facts sites token) P n0 n1 n2 i m k made
    (subst (λ q. Made (λ G. OnLocal G q (Zeroes G (want_of (facts.element_at token)))) n1 n2 i m) e
    (subst (λ q. Made (λ G. OnLocal G slot (Zeroes G (want_of q))) n1 n2 i m) f zeroed))

pub string_made : (facts : Facts) (sites : Sites) (token : ℕ) (x : ExprTree) (first slot : Option Slot) (element : Option ValueType) (n0 n1 n2 : List Node) (m i k : ℕ) →
    first ≡ facts.slot_at token → slot ≡ facts.slot_at token → element ≡ facts.element_at token →
    Made (λ G. OnLocal G first (Spells G (number_of_text facts x) (text_of_string facts x))) n0 n1 m k → Made (λ G. OnLocal G slot (Zeroes G (want_of element))) n1 n2 i m →
    Made (λ G. StringSet G facts sites token x) n0 n2 i k
string_made facts sites token x first slot element n0 n1 n2 m i k d e f spelled zeroed =
    zeroed_before (λ G. OnLocal G (facts.slot_at token) (Spells G (number_of_text facts x) (text_of_string facts x))) facts sites token slot element n0 n1 n2 m i k e f
    (subst (λ q. Made (λ G. OnLocal G q (Spells G (number_of_text facts x) (text_of_string facts x))) n0 n1 m k) d spelled) zeroed

pub braced_made : (facts : Facts) (sites : Sites) (token : ℕ) (initial : Option InitialTree) (at : ℕ) (comma : Bool) (items : ExprList) (slot : Option Slot) (element : Option ValueType) (n0 n1 n2 : List Node) (m i k : ℕ) →
    initial ≡ Some (tree.Braced at items comma) → slot ≡ facts.slot_at token → element ≡ facts.element_at token →
    Made (λ G. ElementsSet G facts sites token 0 items) n0 n1 m k → Made (λ G. OnLocal G slot (Zeroes G (want_of element))) n1 n2 i m →
    Made (λ G. Initialised G facts sites token initial) n0 n2 i k
braced_made facts sites token initial at comma items slot element n0 n1 n2 m i k is e f made zeroed =
    subst (λ x. Made (λ G. Initialised G facts sites token x) n0 n2 i k) (sym is)
    (zeroed_before (λ G. ElementsSet G facts sites token 0 items) facts sites token slot element n0 n1 n2 m i k e f made zeroed)

-- an array takes a string, and any other variable a value
pub by_string : (facts : Facts) (sites : Sites) (token : ℕ) (of : Option ValueType) (x : ExprTree) (n0 n1 : List Node) (i k : ℕ) → is_array of ≡ true →
    Made (λ G. StringSet G facts sites token x) n0 n1 i k → Made (λ G. ValueSet G facts sites token of x) n0 n1 i k
by_string facts sites token (Some (type.Array size)) x n0 n1 i k h made = made
by_string facts sites token of x n0 n1 i k h made = absurd (cc)

pub by_value : (facts : Facts) (sites : Sites) (token : ℕ) (of : Option ValueType) (x : ExprTree) (n0 n1 : List Node) (i k : ℕ) → is_array of ≡ false →
    Made (λ G. ScalarSet G facts sites token x) n0 n1 i k → Made (λ G. ValueSet G facts sites token of x) n0 n1 i k
by_value facts sites token (Some (type.Array size)) x n0 n1 i k h made = absurd (cc)
by_value facts sites token of x n0 n1 i k h made = made
