-- Runs whose ends are indices of the axis, low not above high.
use Rattle.std.specs.Prelude.{◌≤◌, ◌<◌}
use Rattle.number.specs.Axis.{axis}
use Rattle.band.specs.Means.{Part, empty, run, Bands}

abbrev pub EndsOnAxis : Part → Type 0
EndsOnAxis empty = Unit {0}
EndsOnAxis (run l h) = (l ≤ h) × (h < axis)

abbrev pub BothOnAxis : Bands → Type 0
BothOnAxis b = EndsOnAxis b.certain × EndsOnAxis b.possible
