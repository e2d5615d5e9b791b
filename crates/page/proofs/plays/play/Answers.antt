use Rattle.std.proofs.Common.{◌<◌, length, take, arith}
use Rattle.std.proofs.lemmas.List.{length-take-le}
use Rattle.page.proofs.Accesses.{after_more, replies_more}
use Rattle.page.proofs.plays.play.Goals as goal

pub loop-i-preserved : goal.loop-i-preserved
loop-i-preserved g c =
    let words = g.P.PageStore.words c.args.store.now in
    let accesses = take c.min-number.result c.args.accesses.now in
    let many = length-take-le c.min-number.result c.args.accesses.now (omega arith) in
    let replies = c.args.replies.now in
    let access = c.access-item.result in
    let now = g.P.PageStore.words c.loop-i.store in
    let more : c.loop-i.i < length accesses = omega arith in
    let room : c.loop-i.i < length replies = omega (arith, many) in
    let is = c.access-item.is in
    let so_far = c.loop-i.invariant in
    (replies_more words accesses c.loop-i.i access now more is so_far.1 replies c.loop-i.replies c.serve.result room so_far.0 c.serve.ensures.answer, after_more words accesses c.loop-i.i access now more is so_far.1 (g.P.PageStore.words c.serve.new.store) c.serve.ensures.after)
