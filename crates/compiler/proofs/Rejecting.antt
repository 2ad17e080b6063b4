-- A text that is refused isn't accepted.
use Rattle.std.proofs.Common.{◌≡◌, ℕ, sym, ◌∙◌, ap, subst, arith, inl, inr, Bool, true, false, List, length, Some, None}
use Rattle.cbi_base.specs.declared.refusal.Refusal.{Refusal}
use Rattle.cbi_base.specs.declared.refusal.Refusal.TheVariants.{BadByte, BadToken, Syntax, BadType, TooLarge}
use Rattle.c_syntax.specs.declared.token.Token.{Token}
use Rattle.c_syntax.specs.ItemTree.{SourceTree}
use Rattle.c_types_expressions.specs.declared.walk.Walk.{Walk}
use Rattle.c_types.specs.Fault.{fault_in, walk_tree}
use Rattle.c_types_expressions.specs.Walked.{Walked, Fine, Done}
use Rattle.c_lexer.specs.Endings.{Whole, Stopped}
use Rattle.c_lexer.specs.Lexing.{CutStops, Lexes}
use Rattle.c_lexer.specs.Refusals.{IsTooLarge}
use Rattle.c_lexer.proofs.OneCutting.{one-ending}
use Rattle.c_parser.specs.Parsed.{IsTreeOf}
use Rattle.c_parser.proofs.OneTree.{one-tree}
use Rattle.compiler.specs.Accepted.{HasTokens, HasTree}
use Rattle.compiler.specs.Rejected.{HasFault, HasNoTree, IsCut, IsRejectedText, RejectsText}

one_lexing : (text : List ℕ) (a b : List Token) → Lexes text a → Lexes text b → a ≡ b
one_lexing text a b x y = let e : Whole a ≡ Whole b = one-ending text (Whole a) (Whole b) x y in cc

never_cut : (text : List ℕ) (line byte : ℕ) (tokens : List Token) → CutStops text line byte → Lexes text tokens → ⊥
never_cut text line byte tokens stops lexes = absurd (let e : Stopped line byte ≡ Whole tokens = one-ending text (Stopped line byte) (Whole tokens) stops lexes in cc)

-- a text has one list of tokens, one tree, and one thing is known of that
pub same_tokens : (text : List ℕ) (a b : List Token) → HasTokens text a → HasTokens text b → a ≡ b
same_tokens text a b x y = one_lexing text a b x.lexes y.lexes

pub same_tree : (text : List ℕ) (a b : List Token) (t u : SourceTree) → HasTree text a t → HasTree text b u → t ≡ u
same_tree text a b t u x y =
    let moved : IsTreeOf a u = subst (λ ts. IsTreeOf ts u) (same_tokens text b a y.has_tokens x.has_tokens) y.is_tree in
    one-tree t u x.is_tree.well_formed.shaped moved.well_formed.shaped (x.is_tree.kinds ∙ sym moved.kinds) (x.is_tree.lines ∙ sym moved.lines)

one_walk : (m : Walked Done) (v w : Walk) → m ≡ Fine tt v → m ≡ Fine tt w → v ≡ w
one_walk m v w p q = let e : Fine tt v ≡ Fine tt w = sym p ∙ q in cc

pub same_known : (t u : SourceTree) (v w : Walk) → t ≡ u → walk_tree t ≡ Fine tt v → walk_tree u ≡ Fine tt w → v ≡ w
same_known t u v w e p q = one_walk (walk_tree u) v w (subst (λ x. walk_tree x ≡ Fine tt v) e p) q

cut_refused : (text : List ℕ) (line : ℕ) (can : Bool) → IsCut text line can → IsRejectedText text
cut_refused text line can h tree known accepted =
    never_cut text line h.stops.byte accepted.tokens h.stops.stops accepted.has_tree.has_tokens.lexes

large_refused : (text : List ℕ) → IsTooLarge text → IsRejectedText text
large_refused text (inl long) tree known accepted = absurd (omega (arith, long, accepted.has_tree.has_tokens.short))
large_refused text (inr many) tree known accepted =
    let same : many.tokens ≡ accepted.tokens = one_lexing text many.tokens accepted.tokens many.lexes accepted.has_tree.has_tokens.lexes in
    absurd (omega (arith, many.many, ap length same, accepted.has_tree.has_tokens.keeps.few))

treeless_refused : (text : List ℕ) (line : ℕ) → HasNoTree text line → IsRejectedText text
treeless_refused text line h tree known accepted =
    let is : IsTreeOf h.tokens tree = subst (λ ts. IsTreeOf ts tree) (same_tokens text accepted.tokens h.tokens accepted.has_tree.has_tokens h.has_tokens) accepted.has_tree.is_tree in
    h.refuses.none tree is.well_formed is.kinds

faulty_refused : (text : List ℕ) (kind line : ℕ) → HasFault text kind line → IsRejectedText text
faulty_refused text kind line h tree known accepted =
    let e : tree ≡ h.tree = same_tree text accepted.tokens h.tokens tree h.tree accepted.has_tree h.has_tree in
    let fine : walk_tree h.tree ≡ Fine tt known = subst (λ t. walk_tree t ≡ Fine tt known) e accepted.checks in
    absurd (let none : None ≡ Some (kind, h.index) = sym (ap fault_in fine) ∙ h.fault in cc)

pub refuses_text : (refusal : Refusal) (text : List ℕ) → RejectsText refusal text → IsRejectedText text
refuses_text (BadByte line) text h = cut_refused text line false h
refuses_text (BadToken line) text h = cut_refused text line true h
refuses_text TooLarge text h = large_refused text h
refuses_text (Syntax line) text h = treeless_refused text line h
refuses_text (BadType kind line) text h = faulty_refused text kind line h
refuses_text refusal text h = absurd h
