-- Document 01, "The recording": what the readings of an accepted recording are (laws/Recorded: `accepted_recorded`).
use Rattle.std.specs.Prelude.{ℕ, suc, ◌≤◌, ◌<◌, List, length}
use Rattle.std.proofs.Math.Bool.{So}
use Rattle.recording.specs.Reading.{Reading, Curve, value}
use Rattle.recording.specs.Recording.{in_range, latest}
use Rattle.meaning.specs.Listed.{record_at, EachRecord}

-- the values of A and B are −1,000,000,000 to 1,000,000,000
abbrev pub InRange : List Reading → Type 0
InRange r = EachRecord r (λ x. (c : Curve) → So (in_range (value c x)))

-- times are at most 2,000,000,000
abbrev pub InTime : List Reading → Type 0
InTime r = EachRecord r (λ x. x.time ≤ latest)

-- times strictly increase
abbrev pub Increasing : List Reading → Type 0
Increasing r = (i : ℕ) → suc i < length r → (record_at r i).time < (record_at r (suc i)).time

pub record Recorded (r : List Reading) : Type 0 where
  pub in-range : InRange r
  pub in_time : InTime r
  pub increasing : Increasing r
