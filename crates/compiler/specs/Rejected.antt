-- Texts that are rejected, which are those that aren't accepted, and the refusal that is told of each: of its tokens, of its tree, or of its
-- types, in this order. No plan compiles them.
use Rattle.std.specs.Prelude.{◌≡◌, ℕ, ◌≤◌, Bool, true, false, List, length, Some}
use Rattle.cbi_base.specs.declared.refusal.Refusal.{Refusal}
use Rattle.cbi_base.specs.declared.refusal.Refusal.TheVariants.{BadByte, BadToken, Syntax, BadType, TooLarge}
use Rattle.c_syntax.specs.declared.token.Token.{Token}
use Rattle.c_syntax.specs.Words.{SourceTree, most_bytes, line_at, lines_of}
use Rattle.c_types_expressions.specs.declared.walk.Walk.{Walk}
use Rattle.c_types.specs.Fault.{fault_of}
use Rattle.c_lexer.specs.Refusals.{CuttingStops, IsTooLarge}
use Rattle.c_parser.specs.Parsed.{Refuses}
use Rattle.compiler.specs.Accepted.{HasTokens, HasTree, IsAccepted}
use Rattle.compiler.specs.declared.text_error.TextError.{TextError}
use Rattle.compiler.specs.declared.text_error.TextError.TheVariants as error

-- nothing stands at a byte of this line, in a text that isn't too long; the byte can begin a token or a directive, or none
pub record IsCut (text : List ℕ) (line : ℕ) (can : Bool) : Type 0 where
  pub short : length text ≤ most_bytes
  pub stops : CuttingStops text line can

-- the tokens have no tree, and this is the line of a token with which none goes on, or of the end
pub record HasNoTree (text : List ℕ) (line : ℕ) : Type 0 where
  pub tokens : List Token
  pub has_tokens : HasTokens text tokens
  pub index : ℕ
  pub item : ℕ
  pub refuses : Refuses tokens index item
  pub line_is : line ≡ line_at (lines_of tokens) index

-- the walk meets a fault first, of this kind, at a token of this line
pub record HasFault (text : List ℕ) (kind line : ℕ) : Type 0 where
  pub tokens : List Token
  pub tree : SourceTree
  pub has_tree : HasTree text tokens tree
  pub index : ℕ
  pub fault : fault_of tree ≡ Some (kind, index)
  pub line_is : line ≡ line_at (lines_of tokens) index

-- which refusal rejects the text
abbrev pub RejectsText : Refusal → List ℕ → Type 0
RejectsText (BadByte line) text = IsCut text line false
RejectsText (BadToken line) text = IsCut text line true
RejectsText TooLarge text = IsTooLarge text
RejectsText (Syntax line) text = HasNoTree text line
RejectsText (BadType kind line) text = HasFault text kind line
RejectsText _ text = ⊥

-- the text isn't accepted
abbrev pub IsRejectedText : List ℕ → Type 0
IsRejectedText text = (tree : SourceTree) (known : Walk) → IsAccepted text tree known → ⊥

-- it is rejected by this refusal, or memory is wanting
abbrev pub RejectedBy : List ℕ → TextError → Type 0
RejectedBy text (error.Refused refusal) = RejectsText refusal text
RejectedBy text error.Memory = Unit {0}
