-- The times of the additions themselves.
use Rattle.std.proofs.Common.{sym, subst, length-take-le}
use Rattle.runs.proofs.laws.Set.{makes_of}
use Rattle.differences.specs.inner.Times.{Times, time_set}
use Rattle.leaves.proofs.laws.Indices.{addition-times, additions_room}
use Rattle.meaning.specs.inner.Truth.{truth}
use Rattle.leaves.proofs.times.additions.Goals as goal

pub addition_indices-n-requires : goal.addition_indices-n-requires
addition_indices-n-requires c = let s = c in (s.requires.0, additions_room s.args.rec.now s.requires.0 s.args.k)

pub slice_bounds-time_set-end : goal.slice_bounds-time_set-end
slice_bounds-time_set-end c = let t = c.addition_indices-n in sym (length-take-le t.result t.new.times t.ensures.room)

pub time_set-requires : goal.time_set-requires
time_set-requires c = let s = c in (subst Times (sym c.addition_indices-n.ensures.indices) (addition-times s.args.rec.now s.requires.0 s.args.k), s.requires.1)

pub returns : goal.returns
unfolding truth
returns c = makes_of time_set _ _ c.addition_indices-n.ensures.indices c.time_set.ensures
