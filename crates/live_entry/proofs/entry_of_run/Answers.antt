-- 11, or the entry of the readings held.
use mathlib.Core.Path.{◌≡◌, refl, sym, ◌∙◌}
use mathlib.Core.Bool.{false}
use mathlib.Core.List.{List}
use Prim.Native.Nat.{ℕ, ◌+◌, ◌-◌, ◌*◌}
use native.Mathlib.Omega.{arith}
use lib.ListN.{take, drop}
use Rattle.live_state.specs.State.{held_count, no_state}
use Rattle.live_entry.proofs.laws.Call.{held_few, held-part, records-length, answers_none, answers_held}
use borrow.Author.Rules.{rules}
use Rattle.live_entry.proofs.entry_of_run.Goals as goal

pub returns-then-is_none : goal.returns-then-is_none
returns-then-is_none c =
    answers_none c.args.live.now (sym c.is_none.ensures ∙ c.if-is_none.true) c.args.out.now

pub word_at-held-requires : goal.word_at-held-requires
word_at-held-requires c =
    let s : List ℕ = c.args.live.now in
    let n : no_state s ≡ false = sym c.is_none.ensures ∙ c.if-is_none.false in
    let l = (held_few s n (held_count s 0) refl).long in
    omega arith

pub slice_bounds-of_records-end : goal.slice_bounds-of_records-end
slice_bounds-of_records-end c =
    let s : List ℕ = c.args.live.now in
    let n : no_state s ≡ false = sym c.is_none.ensures ∙ c.if-is_none.false in
    let h = held_few s n c.word_at-held.result c.word_at-held.ensures in
    omega (arith, h.long, h.few)

pub of_records-requires : goal.of_records-requires
of_records-requires c =
    let s : List ℕ = c.args.live.now in
    let n : no_state s ≡ false = sym c.is_none.ensures ∙ c.if-is_none.false in
    let h = held_few s n c.word_at-held.result c.word_at-held.ensures in
    (records-length s _ c.word_at-held.result (omega (arith, h.long, h.few)), omega (arith, h.few))

pub returns : goal.returns
returns c =
    let s : List ℕ = c.args.live.now in
    let n : no_state s ≡ false = sym c.is_none.ensures ∙ c.if-is_none.false in
    answers_held s n (take (64 + 16 * c.word_at-held.result - 64) (drop 64 s)) c.args.out.now (held-part s c.word_at-held.result c.word_at-held.ensures) c.of_records.result c.of_records.new.out c.of_records.ensures
