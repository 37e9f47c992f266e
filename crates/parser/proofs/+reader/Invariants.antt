-- The measure is eight times the bytes left, and the rank of the level.
use Rattle.std.proofs.Common.{◌+◌, ◌-◌, ◌*◌, length}
use Rattle.parser.proofs.+reader.Given as goal

abbrev pub decreases-and_more : goal.decreases-and_more
decreases-and_more l = 8 * (length l.text.now - l.at) + 0

abbrev pub decreases-and_text : goal.decreases-and_text
decreases-and_text l = 8 * (length l.text.now - l.at) + 2

abbrev pub decreases-argument : goal.decreases-argument
decreases-argument l = 8 * (length l.text.now - l.at) + 4

abbrev pub decreases-binary : goal.decreases-binary
decreases-binary l = 8 * (length l.text.now - l.at) + 5

abbrev pub decreases-not_text : goal.decreases-not_text
decreases-not_text l = 8 * (length l.text.now - l.at) + 1

abbrev pub decreases-or_more : goal.decreases-or_more
decreases-or_more l = 8 * (length l.text.now - l.at) + 0

abbrev pub decreases-or_text : goal.decreases-or_text
decreases-or_text l = 8 * (length l.text.now - l.at) + 3

abbrev pub decreases-primary : goal.decreases-primary
decreases-primary l = 8 * (length l.text.now - l.at) + 0

abbrev pub decreases-unary : goal.decreases-unary
decreases-unary l = 8 * (length l.text.now - l.at) + 5
