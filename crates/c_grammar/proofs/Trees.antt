-- The rule of a whole text says what the walks say.
use Rattle.std.proofs.Common.{◌≡◌, ℕ, ◌+◌, List, length, sym, ap, ◌∙◌, subst, length-append, arith}
use Rattle.std.proofs.lemmas.List.{length-map}
use Rattle.std.specs.Option.{IfSome}
use Rattle.std.specs.List.{AllByRecursion}
use Rattle.c_syntax.specs.declared.token.Sign.TheVariants as sign
use Rattle.c_syntax.specs.declared.token.Token.{Token}
use Rattle.c_syntax.specs.declared.token.Word.TheVariants as word
use Rattle.c_syntax.specs.ItemTree as i
use Rattle.c_syntax.specs.Words.{a_name, a_sign, body_kinds, EachAt, EntriesAt, HasOne, IsWellFormed, item_kinds, item_nesting, ItemAt, ItemTree, Kinds, kinds_of, lines_of, members_kinds}
use Rattle.c_syntax.specs.Words.{members_nesting, MembersAt, params_kinds, ParamsAt, parenthesized_kinds, ShapedItem, ShapedMembers, SourceTree, tree_kinds, tree_nesting, type_kinds}
use Rattle.c_grammar.specs.Grammar.{item_rule, members_rule, program_rule}
use Rattle.c_grammar.specs.Tree.{IsTreeByGrammar}
use Rattle.c_grammar.proofs.Says.{join-four, Says, says-as, says-braced, says-joined, says-name, says-own, says-parenthesized, says-sign, says-then, says-word}
use Rattle.c_grammar.proofs.Lists.{says-some}
use Rattle.c_grammar.proofs.Expressions.{says-type}
use Rattle.c_grammar.proofs.Declarations.{says-declaration, says-members, says-params}
use Rattle.c_grammar.proofs.Statements.{says-body}

three-on : (at : ℕ) → at + 1 + 1 + 1 ≡ at + 3
three-on at = omega arith

parameters-at : (n at : ℕ) → at + n + 1 + 1 ≡ at + n + 2
parameters-at n at = omega arith

body-at : (n at : ℕ) (ks : Kinds) → at + n + 1 + length (parenthesized_kinds ks) + 1 ≡ at + n + 2 + length ks + 2
body-at n at ks = omega (arith, length-append ks (a_sign sign.RightParen))

says-item : (x : ItemTree) → Says (item_rule x) (item_kinds x) (λ at. ItemAt at x) (ShapedItem x) (item_nesting x)
says-item (i.Struct token tag list) =
    says-as
    (says-then (says-own token (says-word word.Struct)) (says-then (says-name tag) (says-then
    (says-braced (says-some members_rule members_kinds MembersAt ShapedMembers members_nesting says-members list)) (says-sign sign.Semicolon))))
    (λ at h. (h.0.0, subst (λ n. EachAt MembersAt members_kinds 0 n list) (three-on at) h.1.1.0))
    (λ at h. ((h.0, tt), (tt, (subst (λ n. EachAt MembersAt members_kinds 0 n list) (sym (three-on at)) h.1, tt))))
    (λ s. s.1.1.0)
    (λ s. (tt, (tt, (s, tt))))
    (omega arith)
says-item (i.Function token b n name ps within) =
    says-joined (join-four (type_kinds b n) (a_name name) (parenthesized_kinds (params_kinds ps)) (body_kinds within))
    (says-as
    (says-then (says-own token (says-type b n)) (says-then (says-name name) (says-then (says-parenthesized (says-params ps)) (says-body within))))
    (λ at h. (
      h.0.0,
      h.0.1,
      subst (λ m. ParamsAt m ps) (parameters-at (length (type_kinds b n)) at) h.1.1.0,
      subst (λ m. IfSome within (EntriesAt m)) (body-at (length (type_kinds b n)) at (params_kinds ps)) h.1.1.1,
    ))
    (λ at h. (
      (h.0, h.1),
      (
        tt,
        (
          subst (λ m. ParamsAt m ps) (sym (parameters-at (length (type_kinds b n)) at)) h.2,
          subst (λ m. IfSome within (EntriesAt m)) (sym (body-at (length (type_kinds b n)) at (params_kinds ps))) h.3,
        ),
      ),
    ))
    (λ s. s.1.1)
    (λ s. (tt, (tt, s)))
    (omega arith))
says-item (i.Declaration d) = says-declaration 1 d

says-program : (t : SourceTree) → Says (program_rule t) (tree_kinds t) (λ at. EachAt ItemAt item_kinds 0 at t.items)
    (HasOne t.items × AllByRecursion ShapedItem t.items) (tree_nesting t)
says-program t = says-some item_rule item_kinds ItemAt ShapedItem item_nesting says-item t.items

pub tree-is : (tokens : List Token) (t : SourceTree) → IsTreeByGrammar tokens t → IsWellFormed t × (tree_kinds t ≡ kinds_of tokens) × (t.lines ≡ lines_of tokens)
tree-is tokens t h =
    let is = (says-program t).fits 200 0 h.fits in
    let spelled : tree_kinds t ≡ kinds_of tokens = sym ((says-program t).kinds is.1) ∙ h.kinds in
    let lines : length t.lines ≡ length (tree_kinds t) =
    ap length h.lines ∙ length-map tokens (λ x. x.line) ∙ sym (length-map tokens (λ x. x.kind)) ∙ ap length (sym spelled) in
    (record { shaped = record { has_item = is.1.0; items = is.1.1; placed = is.0; lines = lines }; nests = is.2 }, spelled, h.lines)

pub tree-has : (tokens : List Token) (t : SourceTree) → IsWellFormed t → tree_kinds t ≡ kinds_of tokens → t.lines ≡ lines_of tokens → IsTreeByGrammar tokens t
tree-has tokens t is spelled lines =
    let shaped : HasOne t.items × AllByRecursion ShapedItem t.items = (is.shaped.has_item, is.shaped.items) in record {
      kinds = (says-program t).kinds shaped ∙ spelled;
      fits = (says-program t).back 200 0 is.shaped.placed shaped is.nests;
      lines = lines;
    }
