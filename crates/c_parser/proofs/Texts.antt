-- Items one after another.
use Rattle.std.proofs.Common.{◌≡◌, ℕ, ◌+◌, ◌≤◌, ◌<◌, ◌⊎◌, inl, inr, List, [], ◌∷◌, ◌++◌, length, refl}
use Rattle.std.proofs.Common.{sym, ap, ◌∙◌, subst, append_assoc, length-append, add-zero, arith}
use Rattle.std.proofs.lemmas.List.{append-nil}
use Rattle.std.specs.List.{flat_map}
use Rattle.c_syntax.specs.declared.token.TokenKind.{TokenKind}
use Rattle.c_syntax.specs.declared.parts.Base.{Base}
use Rattle.c_syntax.specs.declared.parts.Base.TheVariants as base_is
use Rattle.c_syntax.specs.ItemTree as i
use Rattle.c_syntax.specs.Words.{ItemTree, Kinds, item_kinds, base_kinds, EachAt, ItemAt}
use Rattle.c_parser_expressions.specs.Reading.{Cursor, SameUpTo, Found, Fails}
use Rattle.c_parser_items.specs.Items.{IsItem, item, AreItems, IsEnd, items}
use Rattle.c_parser_expressions.proofs.Laws.{same-all, Leads, leads-found, leads-fails, leads-trans, leads-wrap, found-takes}

-- an item has a token
base-some : (b : Base) → 1 ≤ length (base_kinds b)
base-some (base_is.Void t) = omega arith
base-some (base_is.Char t) = omega arith
base-some (base_is.Int t) = omega arith
base-some (base_is.Unsigned t n) = omega arith
base-some (base_is.Struct t n) = omega arith

longer : (a b : Kinds) → 1 ≤ length a → 1 ≤ length (a ++ b)
longer a b h = omega (arith, length-append a b)

pub item-some : (x : ItemTree) → 1 ≤ length (item_kinds x)
item-some (i.Struct t n ms) = omega arith
item-some (i.Function t b stars n ps body) = longer _ _ (longer _ _ (longer _ _ (longer (base_kinds b) _ (base-some b))))
item-some (i.Declaration d) = longer _ _ (longer (base_kinds d.base) _ (base-some d.base))

abbrev pub kinds : List ItemTree → Kinds
kinds xs = flat_map item_kinds xs

nothing-longer : (last at : ℕ) (a k : Kinds) → 1 ≤ length a → SameUpTo last at [] (a ++ k) → ⊥
nothing-longer last at [] k h same = absurd (omega arith)
nothing-longer last at (x ∷ a) k h same = same

no-item : (last at : ℕ) (xs : List ItemTree) (k : Kinds) → SameUpTo last at [] (kinds xs ++ k) → xs ≡ []
no-item last at [] k same = refl
no-item last at (x ∷ xs) k same =
    absurd (nothing-longer last at (item_kinds x) (kinds xs ++ k) (item-some x)
    (subst (λ (v : Kinds). SameUpTo last at [] v) (append_assoc (item_kinds x) (kinds xs) k) same))

-- at the end
pub items-end : (d : ℕ) (c : Cursor) → c.rest ≡ [] → Found (items d) c [] c
items-end d c h = record {
  is = record { shaped = tt; nests = omega arith; placed = tt };
  spelled = refl;
  moved = (let e : c.at ≡ c.at + length {A = TokenKind} [] = omega arith in e);
  only = λ xs k last are ends le same. no-item last c.at xs k (subst (λ (v : Kinds). SameUpTo last c.at v (kinds xs ++ k)) h same);
}

head-is : (d at : ℕ) (x : ItemTree) (xs : List ItemTree) → AreItems d at (x ∷ xs) → IsItem d at x
head-is d at x xs are = let nests = are.nests in record { shaped = are.shaped.0; nests = omega arith; placed = are.placed.0 }

tail-are : (d at : ℕ) (x : ItemTree) (xs : List ItemTree) → AreItems d at (x ∷ xs) → AreItems d (at + length (item_kinds x)) xs
tail-are d at x xs are =
    let nests = are.nests in
    record {
      shaped = are.shaped.1;
      nests = omega arith;
      placed = subst (λ (n : ℕ). EachAt ItemAt item_kinds 0 n xs)
          (add-zero (at + length (item_kinds x))) are.placed.1;
    }

both-are : (d at : ℕ) (x : ItemTree) (xs : List ItemTree) → IsItem d at x → AreItems d (at + length (item_kinds x)) xs → AreItems d at (x ∷ xs)
both-are d at x xs is are =
    let n0 = is.nests in
    let n1 = are.nests in
    record {
      shaped = (is.shaped, are.shaped);
      nests = omega arith;
      placed = (
        is.placed,
        subst (λ (n : ℕ). EachAt ItemAt item_kinds 0 n xs)
            (sym (add-zero (at + length (item_kinds x)))) are.placed,
      );
    }

end-same : (last at : ℕ) (ks k : Kinds) → IsEnd k → SameUpTo last at ks k → ks ≡ []
end-same last at [] k ends same = refl
end-same last at (t ∷ ks) [] ends same = absurd same
end-same last at (t ∷ ks) (u ∷ k) ends same = let none = ends.none in cc

not-end : (c to : Cursor) (x : ItemTree) (d : ℕ) → Found (item d) c x to → c.rest ≡ [] → ⊥
not-end c to x d f h =
    let less : length to.rest < length c.rest = found-takes (item d) c to x (item-some x) f in
    let none : length c.rest ≡ 0 = ap length h in
    omega arith

-- an item that was read is the first of what agrees
item-back : (d : ℕ) (c to : Cursor) (x : ItemTree) (ys : List ItemTree) (k : Kinds) (last : ℕ) → Found (item d) c x to → (c.rest ≡ [] → ⊥)
    → AreItems d c.at ys → IsEnd k → to.at ≤ last → SameUpTo last c.at c.rest (kinds ys ++ k)
    → (zs : List ItemTree) × (ys ≡ x ∷ zs) × AreItems d to.at zs × IsEnd k
item-back d c to x [] k last f some are ends le same = absurd (some (end-same last c.at c.rest k ends same))
item-back d c to x (y ∷ ys) k last f some are ends le same =
    let s : SameUpTo last c.at c.rest (item_kinds y ++ (kinds ys ++ k)) =
    subst (λ (v : Kinds). SameUpTo last c.at c.rest v) (append_assoc (item_kinds y) (kinds ys) k) same in
    let one : y ≡ x = f.only y (kinds ys ++ k) last (head-is d c.at y ys are) (record {}) le s in
    let at : c.at + length (item_kinds y) ≡ to.at = ap (λ (v : ItemTree). c.at + length (item_kinds v)) one ∙ sym f.moved in
    (ys, ap (λ (v : ItemTree). v ∷ ys) one, subst (λ (n : ℕ). AreItems d n ys) at (tail-are d c.at y ys are), ends)

pub item-leads : (d : ℕ) (c to : Cursor) (x : ItemTree) → Found (item d) c x to → Leads (items d) (items d) c to (λ xs. x ∷ xs)
item-leads d c to x f = record {
  front = item_kinds x;
  whole = f.spelled;
  moved = f.moved;
  build = λ xs are. both-are d c.at x xs f.is (subst (λ (n : ℕ). AreItems d n xs) f.moved are);
  spelled = λ xs. refl;
  back = λ ys k last are ends le same. item-back d c to x ys k last f (not-end c to x d f) are ends le same;
}

none-of : (d : ℕ) (c : Cursor) (last : ℕ) (ys : List ItemTree) (k : Kinds) → (c.rest ≡ [] → ⊥) → Fails (item d) c last → AreItems d c.at ys → IsEnd k
    → SameUpTo last c.at c.rest (kinds ys ++ k) → ⊥
none-of d c last [] k some f are ends same = some (end-same last c.at c.rest k ends same)
none-of d c last (y ∷ ys) k some f are ends same =
    f.none y (kinds ys ++ k) (head-is d c.at y ys are) (record {}) (subst (λ (v : Kinds). SameUpTo last c.at c.rest v)
    (append_assoc (item_kinds y) (kinds ys) k) same)

-- a refusal of an item is one of the items
pub item-fails : (d : ℕ) (c : Cursor) (last : ℕ) → (c.rest ≡ [] → ⊥) → Fails (item d) c last → Fails (items d) c last
item-fails d c last some f = record { from = f.from; within = f.within; none = λ ys k are ends same. none-of d c last ys k some f are ends same }

same-front : (a b c : Kinds) → a ++ b ≡ a ++ c → b ≡ c
same-front [] b c h = h
same-front (x ∷ a) b c h = same-front a b c (let s : x ∷ (a ++ b) ≡ x ∷ (a ++ c) = h in cc)

-- What reading items keeps: they lead on, and no items that begin with other tokens are longer than what was read.
pub record Reached (d : ℕ) (start now : Cursor) (xs : List ItemTree) : Type 0 where
  pub leads : Leads (items d) (items d) start now (λ ys. xs ++ ys)
  pub front : (ys : List ItemTree) (k : Kinds) → AreItems d start.at ys → start.rest ≡ kinds ys ++ k
      → (start.at + length (kinds ys) ≤ now.at) ⊎ ((zs : List ItemTree) × AreItems d now.at zs × (now.rest ≡ kinds zs ++ k)
      × (start.at + length (kinds ys) ≡ now.at + length (kinds zs)))

-- one item more
further : (d : ℕ) (c to : Cursor) (x : ItemTree) (total : ℕ) (k : Kinds) (zs : List ItemTree) → Found (item d) c x to → AreItems d c.at zs
    → c.rest ≡ kinds zs ++ k → total ≡ c.at + length (kinds zs)
    → (total ≤ to.at) ⊎ ((ws : List ItemTree) × AreItems d to.at ws × (to.rest ≡ kinds ws ++ k) × (total ≡ to.at + length (kinds ws)))
further d c to x total k [] f are h sum = let moved = f.moved in inl (omega arith)
further d c to x total k (y ∷ zs) f are h sum =
    let whole : c.rest ≡ item_kinds y ++ (kinds zs ++ k) = h ∙ append_assoc (item_kinds y) (kinds zs) k in
    let same : SameUpTo to.at c.at c.rest (item_kinds y ++ (kinds zs ++ k)) =
    subst (λ (v : Kinds). SameUpTo to.at c.at c.rest v) whole (same-all to.at c.at c.rest) in
    let one : y ≡ x = f.only y (kinds zs ++ k) to.at (head-is d c.at y zs are) (record {}) (omega arith) same in
    let moved : to.at ≡ c.at + length (item_kinds y) = f.moved ∙ ap (λ (v : ItemTree). c.at + length (item_kinds v)) (sym one) in
    let both : item_kinds y ++ to.rest ≡ item_kinds y ++ (kinds zs ++ k) = ap (λ (v : ItemTree). item_kinds v ++ to.rest) one ∙ sym f.spelled ∙ whole in
    let long : length (kinds (y ∷ zs)) ≡ length (item_kinds y) + length (kinds zs) = length-append (item_kinds y) (kinds zs) in
    inr (zs, subst (λ (n : ℕ). AreItems d n zs) (sym moved) (tail-are d c.at y zs are), same-front (item_kinds y) to.rest (kinds zs ++ k) both, omega arith)

pub reached-next : (d : ℕ) (start c to : Cursor) (xs : List ItemTree) (x : ItemTree) → Reached d start c xs → Found (item d) c x to
    → Reached d start to (xs ++ x ∷ [])
reached-next d start c to xs x r f =
    let moved = f.moved in
    record {
      leads =
          leads-wrap (items d) (items d) start to (λ ys. xs ++ (x ∷ ys)) (λ ys. (xs ++ x ∷ []) ++ ys) (λ ys. sym (append_assoc xs (x ∷ []) ys))
          (leads-trans (items d) (items d) (items d) start c to (λ ys. xs ++ ys) (λ ys. x ∷ ys) r.leads (item-leads d c to x f));
      front = λ ys k are h. elim (r.front ys k are h) [
        | inl le ↦ inl (omega arith)
        | inr more ↦ further d c to x (start.at + length (kinds ys)) k more.0 f more.1 more.2 more.3
      ];
    }

-- at the end everything is read
pub reached-end : (d : ℕ) (start c : Cursor) (xs : List ItemTree) → Reached d start c xs → c.rest ≡ [] → Found (items d) start xs c
reached-end d start c xs r h =
    subst (λ (ys : List ItemTree). Found (items d) start ys c) (append-nil xs)
    (leads-found (items d) (items d) start c c (λ ys. xs ++ ys) [] r.leads (items-end d c h))

-- where an item is refused
pub reached-fails : (d : ℕ) (start c : Cursor) (xs : List ItemTree) (last : ℕ) → Reached d start c xs → (c.rest ≡ [] → ⊥) → Fails (item d) c last
    → Fails (items d) start last
reached-fails d start c xs last r some f = leads-fails (items d) (items d) start c (λ ys. xs ++ ys) last r.leads (item-fails d c last some f)

-- .. no items are longer than what was read
none-longer : (d : ℕ) (c : Cursor) (last : ℕ) (zs : List ItemTree) (k : Kinds) → Fails (item d) c last → AreItems d c.at zs → c.rest ≡ kinds zs ++ k
    → length (kinds zs) ≡ 0
none-longer d c last [] k f are h = refl
none-longer d c last (y ∷ zs) k f are h =
    let whole : c.rest ≡ item_kinds y ++ (kinds zs ++ k) = h ∙ append_assoc (item_kinds y) (kinds zs) k in
    absurd (f.none y (kinds zs ++ k) (head-is d c.at y zs are) (record {}) (subst (λ (v : Kinds). SameUpTo last c.at c.rest v) whole (same-all last c.at c.rest)))

pub reached-longest : (d : ℕ) (start c : Cursor) (xs : List ItemTree) (last : ℕ) → Reached d start c xs → Fails (item d) c last
    → (ys : List ItemTree) (k : Kinds) → AreItems d start.at ys → start.rest ≡ kinds ys ++ k → start.at + length (kinds ys) ≤ c.at
reached-longest d start c xs last r f ys k are h = elim (r.front ys k are h) [
  | inl le ↦ le
  | inr more ↦ (let none : length (kinds more.0) ≡ 0 = none-longer d c last more.0 k f more.1 more.2 in let sum = more.3 in omega arith)
]

-- .. and those that were read are items
pub reached-good : (d : ℕ) (start c : Cursor) (xs : List ItemTree) → Reached d start c xs
    → AreItems d start.at xs × (start.rest ≡ kinds xs ++ c.rest) × (c.at ≡ start.at + length (kinds xs))
reached-good d start c xs r =
    let l = r.leads in
    let are : AreItems d start.at (xs ++ []) = l.build [] (record { shaped = tt; nests = omega arith; placed = tt }) in
    let spelled : kinds (xs ++ []) ≡ l.front ++ [] = l.spelled [] in
    let here : kinds xs ≡ l.front = ap kinds (sym (append-nil xs)) ∙ spelled ∙ append-nil l.front in (
      subst (λ (ys : List ItemTree). AreItems d start.at ys) (append-nil xs) are,
      l.whole ∙ ap (λ (v : Kinds). v ++ c.rest) (sym here),
      l.moved ∙ ap
          (λ (v : Kinds). start.at + length v) (sym here),
    )
