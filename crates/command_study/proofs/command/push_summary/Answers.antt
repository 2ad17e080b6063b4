use Rattle.std.proofs.Common.{◌≡◌, ℕ, List, ◌++◌, codes, decimal, ap, ◌∙◌, append_assoc}
use Rattle.command_study.proofs.command.push_summary.Goals as goal

joined : (out a b c d e f h i : List ℕ) → (((((((out ++ a) ++ b) ++ c) ++ d) ++ e) ++ f) ++ h) ++ i ≡ out ++ ((a ++ (b ++ (c ++ (d ++ (e ++ (f ++ h)))))) ++ i)
joined out a b c d e f h i = simp append_assoc

-- pieces that were appended one after another
appended : (out a b c d e f h i s t u v w x y z : List ℕ) → s ≡ out ++ a → t ≡ s ++ b → u ≡ t ++ c → v ≡ u ++ d → w ≡ v ++ e → x ≡ w ++ f → y ≡ x ++ h → z ≡ y ++ i
    → z ≡ out ++ ((a ++ (b ++ (c ++ (d ++ (e ++ (f ++ h)))))) ++ i)
appended out a b c d e f h i s t u v w x y z is_s is_t is_u is_v is_w is_x is_y is_z =
    let whole : z ≡ (((((((out ++ a) ++ b) ++ c) ++ d) ++ e) ++ f) ++ h) ++ i = cc in whole ∙ joined out a b c d e f h i

-- an equal number has the same decimal
counted : (out words now : List ℕ) (n m : ℕ) → n ≡ m → now ≡ out ++ (words ++ decimal n) → now ≡ out ++ (words ++ decimal m)
counted out words now n m same is = is ∙ ap (λ k. out ++ (words ++ decimal k)) same

pub returns : goal.returns
returns c =
    let s = c.args.sums in
    let first = counted c.args.text.now.items (codes "study runs ") c.push_count.new.text.items c.from.result c.args.runs c.from.ensures c.in_ok-push_count.ensures in
    let second = counted c.push_count.new.text.items (codes " failed ") c.push_count-2.new.text.items c.from-2.result s.failed c.from-2.ensures c.in_ok-push_count-2.ensures in
    let third = counted c.push_count-2.new.text.items (codes " ended ") c.push_count-3.new.text.items c.from-3.result s.ended c.from-3.ensures c.in_ok-push_count-3.ensures in
    let fourth = counted c.push_count-3.new.text.items (codes " cut ") c.push_count-4.new.text.items c.from-4.result s.cut c.from-4.ensures c.in_ok-push_count-4.ensures in
    appended c.args.text.now.items (codes "study runs " ++ decimal c.args.runs) (codes " failed " ++ decimal s.failed) (codes " ended " ++ decimal s.ended) (codes " cut " ++ decimal s.cut)
    (codes " fast " ++ decimal s.fast) (codes " slow " ++ decimal s.slow) (codes " tests " ++ decimal s.tests) (codes "\n")
    c.push_count.new.text.items c.push_count-2.new.text.items c.push_count-3.new.text.items c.push_count-4.new.text.items c.push_count-5.new.text.items c.push_count-6.new.text.items
    c.push_count-7.new.text.items c.push.new.self.items
    first second third fourth c.in_ok-push_count-5.ensures c.in_ok-push_count-6.ensures c.in_ok-push_count-7.ensures c.in_ok-push.ensures.items
