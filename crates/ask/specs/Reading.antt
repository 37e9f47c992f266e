-- What is kept of an input that is read piece by piece. No contract can say which bytes the system's read hands over: a turn is stated over whatever it answered
-- and left in the buffer.
use Rattle.std.specs.Prelude.{ℕ, zero, suc, ◌≡◌, Bool, true, false, List, ℤ, pos, negsuc, length, take}
use Rattle.io.specs.Counts.{clamp_len}
use Rattle.page.specs.Intake.{TakesIn}
use Rattle.ask.specs.declared.input.Input.{Input}
use Rattle.ask.specs.declared.input.State.{State}
use Rattle.ask.specs.declared.input.State.TheVariants.{More, Ended, Failed}

-- what a read's answer says of the input: it failed, it is at its end, or there may be more
abbrev pub state_of : ℤ → State
state_of (negsuc k) = Failed
state_of (pos zero) = Ended
state_of (pos (suc k)) = More

abbrev pub is_more : State → Bool
is_more More = true
is_more Ended = false
is_more Failed = false

abbrev pub is_ended : State → Bool
is_ended More = false
is_ended Ended = true
is_ended Failed = false

-- THE PIECE that a read handed over: as many of the buffer's first bytes as it answered
abbrev pub piece_of : ℤ → List ℕ → List ℕ
piece_of got buffer = take (clamp_len got (length buffer)) buffer

-- the piece is taken in behind the n bytes that are kept: `store` before, `new` after
pub record Taken (store : List ℕ) (n : ℕ) (buffer : List ℕ) (got : ℤ) (new : List ℕ) (r : Input) : Type 0 where
  pub told : r.state ≡ state_of got
  pub takes : TakesIn store n (piece_of got buffer) new r.kept

-- ONE TURN: some read's answer and buffer, of 4,096 bytes, and its piece taken in
pub record Turn (store : List ℕ) (n : ℕ) (new : List ℕ) (r : Input) : Type 0 where
  pub got : ℤ
  pub buffer : List ℕ
  pub full : length buffer ≡ 4096
  pub taken : Taken store n buffer got new r
  pub size : length new ≡ length store

-- nothing is read yet
abbrev pub unread : Input
unread = record { kept = 0; state = More }

-- TURNS, from nothing kept: one behind the other, each with what the last one left, as long as there may be more
pub data Turns (store : List ℕ) : List ℕ → Input → Type 0 where
  no_turn : Turns store store unread
  then : {before new : List ℕ} {r next : Input} → Turns store before r → r.state ≡ More → Turn before r.kept new next → Turns store new next

-- A FILE, read by turns; if it can't be opened nothing is kept, and it is at its end or it failed
pub data Recorded (store : List ℕ) : List ℕ → Input → Type 0 where
  opened : {new : List ℕ} {r : Input} → Turns store new r → Recorded store new r
  missing : {r : Input} → r.kept ≡ 0 → is_more r.state ≡ false → Recorded store store r
