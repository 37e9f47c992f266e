-- The ends of the axis, as document 01 writes them.
use Rattle.std.specs.Prelude.{◌≡◌, pos, negsuc, refl}
use Rattle.number.specs.Axis.{lowest, highest}

pub lowest_is : lowest ≡ negsuc 1999999999
lowest_is = refl

pub highest_is : highest ≡ pos 2000000000
highest_is = refl
