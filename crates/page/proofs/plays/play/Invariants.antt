use Rattle.std.proofs.Common.{◌≡◌, ◌++◌, take, drop}
use Rattle.page.specs.Plays.{replies_of, list_after_all}
use Rattle.page.proofs.plays.play.Given as goal

-- the accesses so far are answered, and the store means what they made of its list
abbrev pub invariant-loop-i : goal.invariant-loop-i
invariant-loop-i g l =
    (l.replies ≡ replies_of (g.P.PageStore.words l.initial.store) (take l.i l.access-items) ++ drop l.i l.initial.replies)
    × (g.P.PageStore.words l.store ≡ list_after_all (g.P.PageStore.words l.initial.store) (take l.i l.access-items))
