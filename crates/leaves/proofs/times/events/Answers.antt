-- The times of the event themselves.
use Rattle.std.proofs.Common.{ℕ, Bool, sym, subst, length-take-le}
use mathlib.Core.Path.{fun_ext}
use Rattle.meaning.specs.inner.Coded.{coded}
use Rattle.runs.proofs.laws.Set.{makes_of}
use Rattle.differences.specs.inner.Times.{Times, time_set}
use Rattle.leaves.proofs.laws.Indices.{event-times, events_few}
use Rattle.leaves.proofs.laws.Leaf.{times_are}
use Rattle.tops.specs.inner.Events.{event_of}
use Rattle.leaves.proofs.times.events.Goals as goal

pub event_indices-n-requires : goal.event_indices-n-requires
event_indices-n-requires c = let s = c in (s.requires.0, s.requires.1, events_few s.args.rec.now s.requires.0 (event_of s.args.event))

pub slice_bounds-time_set-end : goal.slice_bounds-time_set-end
slice_bounds-time_set-end c = let t = c.event_indices-n in sym (length-take-le t.result t.new.times t.ensures.room)

pub time_set-requires : goal.time_set-requires
time_set-requires c = let s = c in (subst Times (sym c.event_indices-n.ensures.indices) (event-times s.args.rec.now s.requires.0 (event_of s.args.event)), s.requires.2)

pub returns : goal.returns
returns c =
    makes_of (λ (f : ℕ → Bool). f) _ _ (fun_ext (λ v. sym (times_are (event_of c.args.event) (coded c.args.rec.now) v)))
    (makes_of time_set _ _ c.event_indices-n.ensures.indices c.time_set.ensures)
