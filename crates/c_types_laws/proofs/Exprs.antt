-- An expression that the walk accepts is as C99 asks.
use Rattle.std.proofs.Common.{append_assoc, inl, inr, ◌≡◌, ℕ, ◌≤◌, ◌<◌, refl, ap, subst, sym, ◌∙◌, arith, List, [], ◌∷◌, ◌++◌, Some, ◌+◌, Ok}
use Rattle.std.proofs.Common.{Err, Bool, true, false, length, length-append}
use Rattle.std.specs.Prelude.{Option, if◌then◌else◌}
use Rattle.std.proofs.lemmas.List.{append-nil}
use Rattle.c_types_expressions.proofs.Given.{Gives, and_then}
use Rattle.base_lists.proofs.Lists.{Stays}
use Rattle.c_syntax.specs.declared.token.Sign.TheVariants as sign
use Rattle.c_syntax.specs.ExprTree as e
use Rattle.c_syntax.specs.Words.{ExprTree, ExprList, LinkList, PostfixList, ExprAt, ExprsAt, LinksAt, PostfixAt, ShapedExpr, ShapedExprs, ShapedLinks}
use Rattle.c_syntax.specs.Words.{ShapedPostfix, a_sign, expr_kinds, exprs_kinds, link_kinds, more_exprs_kinds, parenthesized_kinds, postfix_kinds, type_kinds}
use Rattle.c_types_rules.specs.declared.fault.FaultKind.TheVariants as fault
use Rattle.c_types_rules.specs.declared.library.Library.TheVariants as library
use Rattle.c_meaning.specs.Trees.{token_of}
use Rattle.c_types_rules.specs.declared.operand.Operand.{Operand}
use Rattle.c_types_rules.specs.TypeTree as t
use Rattle.c_types_rules.specs.Words.{TypeTree, constant_of, parenthesized_operand, null_of, string_of, value_of, fits_format, library_named, cast_to}
use Rattle.c_types_rules.specs.Words.{typed_sizeof, typed_increment, typed_conditional, typed_subscript, member_behind, member_of, typed_comma}
use Rattle.c_types_rules.specs.Conversions as rule
use Rattle.c_types_expressions.specs.declared.names.Meaning.{Meaning}
use Rattle.c_types_expressions.specs.declared.names.Meaning.TheVariants as meaning
use Rattle.c_types_expressions.specs.declared.walk.Walk.{Walk}
use Rattle.c_types.specs.Answers.{note_at}
use Rattle.c_types_expressions.specs.Words.{typed_assignment, binary_of, called_name, typed_chain_operation, compound_of, concatenated_strings, format_of, operand_noted, typed_prefix_operation, string_cells, walk_expr}
use Rattle.c_types_expressions.specs.Words.{walk_exprs, walk_links, walk_postfix, walk_whole, whole_call, with_stars, meaning_of}
use Rattle.c_types_laws.specs.Fits.{FormatFits, Operands}
use Rattle.c_types_laws.specs.Fits.{WholeFits, operand}
use Rattle.c_types_laws.specs.Operands.{Steps}
use Rattle.c_types_laws.proofs.Ruled.{Is}
use Rattle.c_types_laws.proofs.Ruled.{stepped_is}
use Rattle.c_types_laws.proofs.Scenes.{Means}
use Rattle.c_types_laws.proofs.Steps.{Ready, ready_in}
use Rattle.c_types_laws.proofs.Leading.{Leads, leads_so, leaf, look, look_both, nothing, onwards, seq, together, widely}
use Rattle.c_types_laws.proofs.Goods.{Good, GoodLinks, GoodList, GoodPostfix, Known, Looks, around, arrow_good, assign_good, base_leads, call_long}
use Rattle.c_types_laws.proofs.Goods.{called_leads, cast_good, chain_good, choose_good, comma_good, conditional_long, index_good, infix_long, leaf_good}
use Rattle.c_types_laws.proofs.Goods.{library_leads, link_good, means_after, member_good, name_leads, ok_operand, operand_is, paren_good, postfix_good}
use Rattle.c_types_laws.proofs.Goods.{prefix_good, selected_leads, size_good, step_good, texts_long}

module _ (z : Walk) where
  mutual
    pub expr_leads : (x : ExprTree) (at : ℕ) (w : Walk) → ShapedExpr x → ExprAt at x → Ready at (at + length (expr_kinds x)) w
        → Gives (walk_expr x w) (Leads z true at (at + length (expr_kinds x)) w (Good z x))
    expr_leads (e.Comma token (e.more_exprs x (e.more_exprs y ys))) at w s p r =
        let long : length (expr_kinds (e.Comma token (e.more_exprs x (e.more_exprs y ys))))
        ≡ length (expr_kinds x) + 1 + length (exprs_kinds (e.more_exprs y ys)) =
        omega (arith, length-append (expr_kinds x) (more_exprs_kinds (e.more_exprs y ys))) in
        together (walk_expr x w) (λ a v. walk_exprs (e.more_exprs y ys) (a ∷ []) v) (λ xs u. operand_noted token (typed_comma t.Void xs) u)
        (seq {Q = λ a d. (xs : List Operand)
        × (GoodList z (e.more_exprs y ys) (a ∷ []) xs × (Is (typed_comma t.Void xs) d × (note_at z.types token ≡ Some d.ctype)))}
        (at + length (expr_kinds x)) r (omega arith) (omega (arith, long))
        (expr_leads x at w s.1.1 p.1.0 (ready_in r at (at + length (expr_kinds x)) (omega arith) (omega (arith, long))))
        (λ a v r2. look (at + length (expr_kinds x)) token (λ xs u. typed_comma t.Void xs) r2 (omega (arith, p.0)) (omega (arith, p.0)) (omega (arith, long))
        (widely (at + length (expr_kinds x) + 1) (at + length (expr_kinds (e.Comma token (e.more_exprs x (e.more_exprs y ys)))))
        (exprs_leads (e.more_exprs y ys) (at + length (expr_kinds x) + 1) (a ∷ []) v s.1.2 p.1.1
        (ready_in r2 (at + length (expr_kinds x) + 1) (at + length (expr_kinds x) + 1 + length (exprs_kinds (e.more_exprs y ys))) (omega arith)
        (omega (arith, long))))
        (omega arith) (omega (arith, long)))
        (λ xs u d g h k q. (xs, (k, (h, q))))) (λ a d f g. comma_good z token x y ys a g.0 d g.1.1.0 f g.1.0 g.1.1.1))
    expr_leads (e.Comma token (e.more_exprs x e.no_exprs)) at w s p r = absurd s.0
    expr_leads (e.Comma token e.no_exprs) at w s p r = absurd s.0
    expr_leads (e.Assign token sign target value) at w s p r =
        let long : length (expr_kinds (e.Assign token sign target value)) ≡ length (expr_kinds target) + 1 + length (expr_kinds value) =
        infix_long (expr_kinds target) (expr_kinds value) sign in
        seq {Q = λ a d. (b : Operand) ×
        ((u : Walk) × (Stays u.structs z.structs
        × (Is (typed_assignment u.structs (compound_of sign) a b) d × (Good z value b × (note_at z.types token ≡ Some d.ctype)))))}
        (at + length (expr_kinds target)) r (omega arith) (omega (arith, long))
        (expr_leads target at w s.2 p.1 (ready_in r at (at + length (expr_kinds target)) (omega arith) (omega (arith, long))))
        (λ a v r2. look (at + length (expr_kinds target)) token (λ b u. typed_assignment u.structs (compound_of sign) a b) r2 (omega (arith, p.0)) (omega arith)
        (omega (arith, p.0, long))
        (widely (token + 1) (at + length (expr_kinds (e.Assign token sign target value)))
        (expr_leads value (token + 1) v s.4 p.2
        (ready_in r2 (token + 1) (token + 1 + length (expr_kinds value)) (omega (arith, p.0)) (omega (arith, p.0, long))))
        (omega arith) (omega (arith, p.0, long)))
        (λ b u d g h k q. (b, (u, (g, (h, (k, q)))))))
        (λ a d f g. assign_good z token sign target value a g.0 d g.1.0 g.1.1.0 g.1.1.1.0 f g.1.1.1.1.0 g.1.1.1.1.1)
    expr_leads (e.Conditional token condition first second) at w s p r =
        let long : length (expr_kinds (e.Conditional token condition first second))
        ≡ length (expr_kinds condition) + 1 + length (expr_kinds first) + 1 + length (expr_kinds second) = conditional_long condition first second in
        seq {Q = λ c d. (a : Operand) × ((b : Operand) × (Is (typed_conditional c a b) d × (Good z first a × (Good z second b × (note_at z.types token ≡ Some d.ctype)))))}
        (at + length (expr_kinds condition)) r (omega arith) (omega (arith, long))
        (expr_leads condition at w s.1 p.1 (ready_in r at (at + length (expr_kinds condition)) (omega arith) (omega (arith, long))))
        (λ c v r2. look_both (at + length (expr_kinds condition)) token (λ a b u. typed_conditional c a b) r2 (omega (arith, p.0)) (omega arith) (omega arith)
        (omega (arith, p.0, long))
        (widely (token + 1) (token + 1 + length (expr_kinds first) + 1)
        (expr_leads first (token + 1) v s.2 p.2
        (ready_in r2 (token + 1) (token + 1 + length (expr_kinds first)) (omega (arith, p.0)) (omega (arith, p.0, long))))
        (omega arith) (omega arith))
        (λ a u r3. widely (token + 1 + length (expr_kinds first) + 1) (at + length (expr_kinds (e.Conditional token condition first second)))
        (expr_leads second (token + 1 + length (expr_kinds first) + 1) u s.4 p.3
        (ready_in r3 (token + 1 + length (expr_kinds first) + 1) (token + 1 + length (expr_kinds first) + 1 + length (expr_kinds second)) (omega arith)
        (omega (arith, p.0, long))))
        (omega arith) (omega (arith, p.0, long)))
        (λ a b u d g h k l q. (a, (b, (h, (k, (l, q)))))))
        (λ c d f g. choose_good z token condition first second c g.0 g.1.0 d g.1.1.0 f g.1.1.1.0 g.1.1.1.1.0 g.1.1.1.1.1)
    expr_leads (e.Chain level first links) at w s p r =
        let long : length (expr_kinds (e.Chain level first links)) ≡ length (expr_kinds first) + length (link_kinds links) =
        length-append (expr_kinds first) (link_kinds links) in
        seq (at + length (expr_kinds first)) r (omega arith) (omega (arith, long))
        (expr_leads first at w s.3 p.0 (ready_in r at (at + length (expr_kinds first)) (omega arith) (omega (arith, long))))
        (λ a v r2. widely (at + length (expr_kinds first)) (at + length (expr_kinds (e.Chain level first links)))
        (links_leads links level (at + length (expr_kinds first)) (token_of first) a v s.5 p.1
        (ready_in r2 (at + length (expr_kinds first)) (at + length (expr_kinds first) + length (link_kinds links)) (omega arith) (omega (arith, long))))
        (omega arith) (omega (arith, long)))
        (λ a b f g. chain_good z level first links a b s.4 f g)
    expr_leads (e.Cast token b stars operand) at w s p r =
        let long : length (expr_kinds (e.Cast token b stars operand)) ≡ length (type_kinds b stars) + 2 + length (expr_kinds operand) =
        omega (arith, length-append (parenthesized_kinds (type_kinds b stars)) (expr_kinds operand), around (type_kinds b stars)) in
        seq {Q = λ of d. Good z (e.Cast token b stars operand) d} at r (omega arith) (omega arith)
        (base_leads z b at (at + length (expr_kinds (e.Cast token b stars operand))) w r)
        (λ of v r2. look at token (λ a u. cast_to (with_stars stars of) a) r2 (omega (arith, p.0)) (omega (arith, p.0)) (omega (arith, long))
        (widely (at + 1 + length (type_kinds b stars) + 1) (at + length (expr_kinds (e.Cast token b stars operand)))
        (expr_leads operand (at + 1 + length (type_kinds b stars) + 1) v s.1 p.2
        (ready_in r2 (at + 1 + length (type_kinds b stars) + 1) (at + 1 + length (type_kinds b stars) + 1 + length (expr_kinds operand)) (omega arith)
        (omega (arith, long))))
        (omega arith) (omega (arith, long)))
        (λ a u d g h k q. cast_good z token b stars operand (with_stars stars of) a d h k q)) (λ a d f g. g)
    expr_leads (e.Prefix token operator operand) at w s p r =
        look at token (λ a u. typed_prefix_operation u.structs operator a) r (omega (arith, p.0)) (omega (arith, p.0)) (omega arith)
        (widely (at + 1) (at + length (expr_kinds (e.Prefix token operator operand)))
        (expr_leads operand (at + 1) w s.1 p.1 (ready_in r (at + 1) (at + 1 + length (expr_kinds operand)) (omega arith) (omega arith))) (omega arith)
        (omega arith))
        (λ a u d g h k q. prefix_good z token operator operand a d u g h k q)
    expr_leads (e.SizeOfType token b stars) at w s p r =
        seq {Q = λ of d. Good z (e.SizeOfType token b stars) d} at r (omega arith) (omega arith)
        (base_leads z b at (at + length (expr_kinds (e.SizeOfType token b stars))) w r)
        (λ of v r2. leaf token (typed_sizeof v.structs (with_stars stars of)) r2 (omega (arith, p.0)) (omega (arith, p.0))
        (λ d g h q. size_good z token b stars (with_stars stars of) d v g h q)) (λ a d f g. g)
    expr_leads (e.Postfix primary operators) at w s p r =
        let long : length (expr_kinds (e.Postfix primary operators)) ≡ length (expr_kinds primary) + length (postfix_kinds operators) =
        length-append (expr_kinds primary) (postfix_kinds operators) in
        seq (at + length (expr_kinds primary)) r (omega arith) (omega (arith, long))
        (expr_leads primary at w s.1 p.0 (ready_in r at (at + length (expr_kinds primary)) (omega arith) (omega (arith, long))))
        (λ a v r2. widely (at + length (expr_kinds primary)) (at + length (expr_kinds (e.Postfix primary operators)))
        (postfix_leads operators (at + length (expr_kinds primary)) (token_of primary) a v s.3 p.1
        (ready_in r2 (at + length (expr_kinds primary)) (at + length (expr_kinds primary) + length (postfix_kinds operators)) (omega arith)
        (omega (arith, long))))
        (omega arith) (omega (arith, long)))
        (λ a b f g. postfix_good z primary operators a b s.2 f g)
    expr_leads (e.Name token name) at w s p r = name_leads z at token name (meaning_of name w.names) w p r (means_after z at (at + 1) name w w r refl)
    expr_leads (e.Call token name arguments) at w s p r =
        let long : length (expr_kinds (e.Call token name arguments)) ≡ 3 + length (exprs_kinds arguments) = call_long z token name arguments in
        and_then (widely (at + 2) (at + length (expr_kinds (e.Call token name arguments))) (exprs_leads arguments (at + 2) [] w s p.1
        (ready_in r (at + 2) (at + 2 + length (exprs_kinds arguments)) (omega arith) (omega (arith, long)))) (omega arith) (omega (arith, long)))
        (λ xs v g. called_leads z at token name arguments w v xs (meaning_of name v.names) p.0 (omega arith) (omega (arith, long)) r g
        (means_after z at (at + length (expr_kinds (e.Call token name arguments))) name w v r g.kept))
    expr_leads (e.Constant token kind value) at w s p r = leaf token (Ok (constant_of kind value)) r (omega (arith, p)) (omega (arith, p))
        (λ d g h q. leaf_good z (e.Constant token kind value) (constant_of kind value) d refl refl (λ k. k) h q)
    expr_leads (e.Strings token parts) at w s p r =
        leaf token (Ok (string_of (string_cells parts))) r (omega (arith, p)) (omega (arith, p, texts_long parts s))
        (λ d g h q. leaf_good z (e.Strings token parts) (string_of (string_cells parts)) d refl refl (λ k. k) h q)
    expr_leads (e.Paren token inner) at w s p r =
        let long : length (expr_kinds (e.Paren token inner)) ≡ length (expr_kinds inner) + 2 = around (expr_kinds inner) in
        look at token (λ a u. Ok (parenthesized_operand a)) r (omega (arith, p.0)) (omega (arith, p.0)) (omega (arith, long))
        (widely (at + 1) (at + length (expr_kinds (e.Paren token inner)))
        (expr_leads inner (at + 1) w s p.1 (ready_in r (at + 1) (at + 1 + length (expr_kinds inner)) (omega arith) (omega (arith, long)))) (omega arith)
        (omega (arith, long)))
        (λ a u d g h k q. paren_good z token inner a d h k q)
    expr_leads (e.Null token) at w s p r = leaf token (Ok null_of) r (omega (arith, p)) (omega (arith, p))
        (λ d g h q. leaf_good z (e.Null token) null_of d refl refl (λ k. k) h q)
    expr_leads (e.EndOfFile token) at w s p r = leaf token (Ok (value_of t.Int)) r (omega (arith, p)) (omega (arith, p))
        (λ d g h q. leaf_good z (e.EndOfFile token) (value_of t.Int) d refl refl (λ k. k) h q)

    pub exprs_leads : (xs : ExprList) (at : ℕ) (before : List Operand) (w : Walk) → ShapedExprs xs → ExprsAt at xs → Ready at (at + length (exprs_kinds xs)) w
        → Gives (walk_exprs xs before w) (Leads z true at (at + length (exprs_kinds xs)) w (GoodList z xs before))
    exprs_leads e.no_exprs at before w s p r = nothing before r (omega arith) ([], (sym (append-nil before), (tt, tt)))
    exprs_leads (e.more_exprs x e.no_exprs) at before w s p r =
        let long : length (exprs_kinds (e.more_exprs x e.no_exprs)) ≡ length (expr_kinds x) + 0 = length-append (expr_kinds x) [] in
        seq {Q = λ a ys. ys ≡ before ++ a ∷ []} (at + length (expr_kinds x)) r (omega arith) (omega (arith, long))
        (expr_leads x at w s.1 p.0 (ready_in r at (at + length (expr_kinds x)) (omega arith) (omega (arith, long))))
        (λ a v r2. nothing (before ++ a ∷ []) r2 (omega (arith, long)) refl)
        (λ a b f g. (a ∷ [], (g, ((f.0, tt), (operand_is z x a f.1, tt)))))
    exprs_leads (e.more_exprs x (e.more_exprs y ys)) at before w s p r =
        let long : length (exprs_kinds (e.more_exprs x (e.more_exprs y ys))) ≡ length (expr_kinds x) + 1 + length (exprs_kinds (e.more_exprs y ys)) =
        omega (arith, length-append (expr_kinds x) (more_exprs_kinds (e.more_exprs y ys))) in
        seq (at + length (expr_kinds x)) r (omega arith) (omega (arith, long))
        (expr_leads x at w s.1 p.0 (ready_in r at (at + length (expr_kinds x)) (omega arith) (omega (arith, long))))
        (λ a v r2. widely (at + length (expr_kinds x)) (at + length (exprs_kinds (e.more_exprs x (e.more_exprs y ys))))
        (exprs_leads (e.more_exprs y ys) (at + length (expr_kinds x) + 1) (before ++ a ∷ []) v s.2 p.1
        (ready_in r2 (at + length (expr_kinds x) + 1) (at + length (expr_kinds x) + 1 + length (exprs_kinds (e.more_exprs y ys))) (omega arith)
        (omega (arith, long))))
        (omega arith) (omega (arith, long)))
        (λ a b f g. (a ∷ g.0, (g.1.0 ∙ append_assoc before (a ∷ []) g.0, ((f.0, g.1.1.0), (operand_is z x a f.1, g.1.1.1)))))

    pub links_leads : (links : LinkList) (level at first : ℕ) (a : Operand) (w : Walk) → ShapedLinks level links → LinksAt at links
        → Ready at (at + length (link_kinds links)) w
        → Gives (walk_links links a w) (Leads z true at (at + length (link_kinds links)) w (GoodLinks z first links a))
    links_leads e.no_links level at first a w s p r = nothing a r (omega arith) (tt, (λ h. h), (λ h. h), tt)
    links_leads (e.more_links token sign x rest) level at first a w s p r =
        let long : length (link_kinds (e.more_links token sign x rest)) ≡ 1 + length (expr_kinds x) + length (link_kinds rest) =
        omega (arith, length-append (expr_kinds x) (link_kinds rest)) in
        onwards (walk_expr x w) (λ b v. operand_noted token (typed_chain_operation v.structs (binary_of sign) a b) v) (λ d u. walk_links rest d u)
        (seq {P = λ d. (b : Operand) × ((v : Walk)
        × (Stays v.structs z.structs × (Is (typed_chain_operation v.structs (binary_of sign) a b) d × (Good z x b × (note_at z.types token ≡ Some d.ctype)))))}
        (at + 1 + length (expr_kinds x)) r (omega arith) (omega (arith, long))
        (look at token (λ b v. typed_chain_operation v.structs (binary_of sign) a b)
        (ready_in r at (at + 1 + length (expr_kinds x)) (omega arith) (omega (arith, long))) (omega (arith, p.0)) (omega (arith, p.0)) (omega arith)
        (expr_leads x (at + 1) w s.2 p.1 (ready_in r (at + 1) (at + 1 + length (expr_kinds x)) (omega arith) (omega (arith, long))))
        (λ b v d g h k q. (b, (v, (g, (h, (k, q)))))))
        (λ d u r2. widely (at + 1 + length (expr_kinds x)) (at + length (link_kinds (e.more_links token sign x rest)))
        (links_leads rest level (at + 1 + length (expr_kinds x)) token d u s.3 p.2
        (ready_in r2 (at + 1 + length (expr_kinds x)) (at + 1 + length (expr_kinds x) + length (link_kinds rest)) (omega arith) (omega (arith, long))))
        (omega arith) (omega (arith, long)))
        (λ d b f g. link_good z token sign first x rest a f.0 d b f.1.0 f.1.1.0 f.1.1.1.0 f.1.1.1.1.0 f.1.1.1.1.1 g))

    pub postfix_leads : (rest : PostfixList) (at first : ℕ) (a : Operand) (w : Walk) → ShapedPostfix rest → PostfixAt at rest
        → Ready at (at + length (postfix_kinds rest)) w
        → Gives (walk_postfix rest a w) (Leads z true at (at + length (postfix_kinds rest)) w (GoodPostfix z first rest a))
    postfix_leads e.no_postfix at first a w s p r = nothing a r (omega arith) (tt, (λ h. h), refl, (λ h. h), (λ h. absurd h))
    postfix_leads (e.index token x rest) at first a w s p r =
        let long : length (postfix_kinds (e.index token x rest)) ≡ 2 + length (expr_kinds x) + length (postfix_kinds rest) =
        omega (arith, length-append (expr_kinds x ++ a_sign sign.RightBracket) (postfix_kinds rest), length-append (expr_kinds x) (a_sign sign.RightBracket)) in
        onwards (walk_expr x w) (λ b v. operand_noted token (typed_subscript v.structs a b) v) (λ d u. walk_postfix rest d u)
        (seq {P = λ d. (b : Operand) × ((v : Walk)
        × (Stays v.structs z.structs × (Is (typed_subscript v.structs a b) d × (Good z x b × (note_at z.types token ≡ Some d.ctype)))))}
        (at + 1 + length (expr_kinds x) + 1) r (omega arith) (omega (arith, long))
        (widely at (at + 1 + length (expr_kinds x) + 1) (look at token (λ b v. typed_subscript v.structs a b)
        (ready_in r at (at + 1 + length (expr_kinds x)) (omega arith) (omega (arith, long))) (omega (arith, p.0)) (omega (arith, p.0)) (omega arith)
        (expr_leads x (at + 1) w s.0 p.1 (ready_in r (at + 1) (at + 1 + length (expr_kinds x)) (omega arith) (omega (arith, long))))
        (λ b v d g h k q. (b, (v, (g, (h, (k, q))))))) (omega arith) (omega arith))
        (λ d u r2. widely (at + 1 + length (expr_kinds x) + 1) (at + length (postfix_kinds (e.index token x rest)))
        (postfix_leads rest (at + 1 + length (expr_kinds x) + 1) token d u s.1 p.2
        (ready_in r2 (at + 1 + length (expr_kinds x) + 1) (at + 1 + length (expr_kinds x) + 1 + length (postfix_kinds rest)) (omega arith)
        (omega (arith, long))))
        (omega arith) (omega (arith, long)))
        (λ d b f g. index_good z token first x rest a f.0 d b f.1.0 f.1.1.0 f.1.1.1.0 f.1.1.1.1.0 f.1.1.1.1.1 g))
    postfix_leads (e.member token name rest) at first a w s p r =
        seq (at + 2) r (omega arith) (omega arith)
        (selected_leads z at token (at + 2) a.place (member_of w.structs name a.ctype) w p.0 (omega arith) (ready_in r at (at + 2) (omega arith) (omega arith)))
        (λ d u r2. widely (at + 2) (at + length (postfix_kinds (e.member token name rest))) (postfix_leads rest (at + 2) token d u s p.1
        (ready_in r2 (at + 2) (at + 2 + length (postfix_kinds rest)) (omega arith) (omega arith))) (omega arith) (omega arith))
        (λ d b f g. member_good z token first name rest a d b w f g)
    postfix_leads (e.arrow token name rest) at first a w s p r =
        seq (at + 2) r (omega arith) (omega arith)
        (selected_leads z at token (at + 2) true (member_behind w.structs name (rule.value_type a)) w p.0 (omega arith)
        (ready_in r at (at + 2) (omega arith) (omega arith)))
        (λ d u r2. widely (at + 2) (at + length (postfix_kinds (e.arrow token name rest))) (postfix_leads rest (at + 2) token d u s p.1
        (ready_in r2 (at + 2) (at + 2 + length (postfix_kinds rest)) (omega arith) (omega arith))) (omega arith) (omega arith))
        (λ d b f g. arrow_good z token first name rest a d b w f g)
    postfix_leads (e.increment token rest) at first a w s p r =
        seq (at + 1) r (omega arith) (omega arith)
        (leaf {R = λ d. Steps z.structs a d.ctype × (d.place ≡ false) × (d.null ≡ false) × (note_at z.types token ≡ Some d.ctype)} token (typed_increment w.structs a)
        (ready_in r at (at + 1) (omega arith) (omega arith)) (omega (arith, p.0)) (omega (arith, p.0))
        (λ d g h q. let i = stepped_is w.structs z.structs g a d h in (i.0, i.1, i.2, q)))
        (λ d u r2. widely (at + 1) (at + length (postfix_kinds (e.increment token rest))) (postfix_leads rest (at + 1) token d u s p.1
        (ready_in r2 (at + 1) (at + 1 + length (postfix_kinds rest)) (omega arith) (omega arith))) (omega arith) (omega arith))
        (λ d b f g. step_good z token first rest a d b f g)
    postfix_leads (e.decrement token rest) at first a w s p r =
        seq (at + 1) r (omega arith) (omega arith)
        (leaf {R = λ d. Steps z.structs a d.ctype × (d.place ≡ false) × (d.null ≡ false) × (note_at z.types token ≡ Some d.ctype)} token (typed_increment w.structs a)
        (ready_in r at (at + 1) (omega arith) (omega arith)) (omega (arith, p.0)) (omega (arith, p.0))
        (λ d g h q. let i = stepped_is w.structs z.structs g a d h in (i.0, i.1, i.2, q)))
        (λ d u r2. widely (at + 1) (at + length (postfix_kinds (e.decrement token rest))) (postfix_leads rest (at + 1) token d u s p.1
        (ready_in r2 (at + 1) (at + 1 + length (postfix_kinds rest)) (omega arith) (omega arith))) (omega arith) (omega arith))
        (λ d b f g. step_good z token first rest a d b f g)

  -- the whole expression of a statement

  abbrev pub WholeGood : ExprTree → Operand → Type 0
  WholeGood x a = WholeFits z x × Known z x a

  is_int : (b : Bool) (d : Operand) → Is (if b then Ok (value_of t.Int) else Err fault.Arguments) d → (b ≡ true) × (value_of t.Int ≡ d)
  is_int true d h = (refl, ok_operand z (value_of t.Int) d h)
  is_int false d h = absurd (cc)

  string_format : (token : ℕ) (parts : List (List ℕ)) (rest : ExprList) (own : List Operand) (d : Operand)
      → Operands z (e.more_exprs (e.Strings token parts) rest) own
      → Is (format_of (e.more_exprs (e.Strings token parts) rest) own) d
      → FormatFits z (e.more_exprs (e.Strings token parts) rest) × (value_of t.Int ≡ d)
  string_format token parts rest [] d h k = absurd h
  string_format token parts rest (a ∷ more) d h k =
      let i = is_int (fits_format (concatenated_strings parts) more) d k in ((more, (h.1, i.0)), i.1)

  formatted_is : (arguments : ExprList) (own : List Operand) (d : Operand) → Operands z arguments own → Is (format_of arguments own) d
      → FormatFits z arguments × (value_of t.Int ≡ d)
  formatted_is e.no_exprs own d h k = absurd (cc)
  formatted_is (e.more_exprs (e.Strings token parts) rest) own d h k = string_format token parts rest own d h k
  formatted_is (e.more_exprs x rest) own d h k = absurd (cc)

  print_good : (token : ℕ) (name : List ℕ) (arguments : ExprList) (xs : List Operand) (d : Operand) → library_named name ≡ Some library.Printf
      → Looks z token name (format_of arguments xs) (GoodList z arguments []) xs d → WholeGood (e.Call token name arguments) d
  print_good token name arguments xs d e h =
      let i = formatted_is arguments xs d (subst (Operands z arguments) (sym h.0.1.0) h.0.1.1.1) h.3 in (
        inr (h.1, h.0.1.1.0, e, i.0, h.2 ∙ ap (λ (o : Operand). Some o.ctype) (sym i.1)),
        record { typed = h.2; place = ap (λ (o : Operand). o.place) i.1; null = ap (λ (o : Operand). o.null) i.1 },
      )

  called_whole : {mid hi : ℕ} (at token : ℕ) (name : List ℕ) (arguments : ExprList) (w v : Walk) (xs : List Operand) (m : Option Meaning)
      → token ≡ at → at < mid → mid ≤ hi → Ready at hi w → Leads z true mid hi w (GoodList z arguments []) xs v
      → Means v.functions v.variables v.ends at name m v.names
      → Gives (called_name token m xs v) (Leads z true at hi w (WholeGood (e.Call token name arguments)))
  called_whole at token name arguments w v xs m p less high r g h =
      leads_so (called_leads z at token name arguments w v xs m p less high r g h) (λ d f. (inl f.0, f.1))

  whole_called : {mid hi : ℕ} (at token : ℕ) (name : List ℕ) (arguments : ExprList) (w v : Walk) (xs : List Operand) (m : Option Meaning)
      → token ≡ at → at < mid → mid ≤ hi → Ready at hi w → Leads z true mid hi w (GoodList z arguments []) xs v
      → Means v.functions v.variables v.ends at name m v.names
      → Gives (whole_call token m arguments xs v) (Leads z true at hi w (WholeGood (e.Call token name arguments)))
  whole_called at token name arguments w v xs (Some (meaning.Library library.Printf)) p less high r g h =
      leads_so (library_leads z at token name w v xs (format_of arguments xs) p less high r g h.1) (λ d. print_good token name arguments xs d h.0)
  whole_called at token name arguments w v xs m p less high r g h = called_whole at token name arguments w v xs m p less high r g h

  pub whole_leads : (x : ExprTree) (at : ℕ) (w : Walk) → ShapedExpr x → ExprAt at x → Ready at (at + length (expr_kinds x)) w
      → Gives (walk_whole x w) (Leads z true at (at + length (expr_kinds x)) w (WholeGood x))
  whole_leads (e.Call token name arguments) at w s p r =
      let long : length (expr_kinds (e.Call token name arguments)) ≡ 3 + length (exprs_kinds arguments) = call_long z token name arguments in
      and_then (widely (at + 2) (at + length (expr_kinds (e.Call token name arguments))) (exprs_leads arguments (at + 2) [] w s p.1
      (ready_in r (at + 2) (at + 2 + length (exprs_kinds arguments)) (omega arith) (omega (arith, long)))) (omega arith) (omega (arith, long)))
      (λ xs v g. whole_called at token name arguments w v xs (meaning_of name v.names) p.0 (omega arith) (omega (arith, long)) r g
      (means_after z at (at + length (expr_kinds (e.Call token name arguments))) name w v r g.kept))
  whole_leads x at w s p r = expr_leads x at w s p r
