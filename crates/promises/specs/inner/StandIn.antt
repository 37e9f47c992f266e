-- A recording that stands in for another, of any length: no text that may be asked of kept readings tells the two apart.
use Rattle.std.specs.Prelude.{ℕ, ◌≡◌, ◌↔◌, List, length}
use Rattle.recording.specs.Recording.{records, readings, Accepted}
use Rattle.meaning.specs.Alike.{Alike}
use Rattle.entry.specs.inner.Reckoned.{reckoned}

-- `held` is accepted, as empty as `full`, a single record where `full` is one, and has the same observation under these marks, and the same entry
pub record StandIn (marks full held : List ℕ) : Type 0 where
  pub accepted : Accepted held
  pub empty : (length (records held) ≡ 0) ↔ (length (records full) ≡ 0)
  pub single : (length (records held) ≡ 1) ↔ (length (records full) ≡ 1)
  pub alike : Alike marks (readings held) (readings full)
  pub same_entry : reckoned (readings held) ≡ reckoned (readings full)
