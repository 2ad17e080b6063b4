use Rattle.std.proofs.Common.{◌<◌, length, rules}
use Rattle.regions.proofs.CallerLemmas.{grew_push}
use Rattle.regions.proofs.callers.add_call.Goals as goal

pub returns-in_ok-push : goal.returns-in_ok-push
returns-in_ok-push c =
    let inside : c.args.callee < length c.args.callers.now.items = search rules in
    grew_push c.args.callers.now.items c.args.callee c.args.caller c.index_mut.result.now c.push.new.self inside c.index_mut.ensures.value c.in_ok-push.ensures.ok
