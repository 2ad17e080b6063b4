use Rattle.std.proofs.Common.{◌<◌, ◌≡◌, List, ℕ, length, set, true, subst, sym, rules}
use Rattle.regions.specs.Reach.{Reached}
use Rattle.regions.proofs.FlagLemmas.{clear_at}
use Rattle.regions.proofs.ReachLemmas.{reached_one}
use Rattle.regions.proofs.reach.Found.add.Goals as goal

pub returns-in_ok-push : goal.returns-in_ok-push
returns-in_ok-push c =
    let inside : c.args.function < length c.args.self.now.flags.items = search rules in
    let clear = clear_at c.args.self.now.flags.items c.args.function c.index.result.now c.if-not-index.true c.index.ensures in
    subst (λ (o : List ℕ). Reached c.args.self.now.flags.items c.args.self.now.order.items (set c.args.self.now.flags.items c.args.function true) o (λ g. g ≡ c.args.function))
    (sym c.in_ok-push.ensures.items) (reached_one c.args.self.now.flags.items c.args.self.now.order.items c.args.function c.requires inside clear)
