-- CALLS IN TURN, each handed what the last one gave: a list of thinning calls (Thinning), a report (Reports), a live run (LiveRuns). Beside such a
-- list runs a history of plain lists, by which each call tells the caller what it tells.
use Rattle.std.specs.Prelude.{ℕ, ◌<◌, ◌≡◌, ◌⊎◌, List, [], ◌∷◌, length, drop, get_or}
use Rattle.number.specs.Words.{word}
use Rattle.refusal.specs.Outcome.{Outcome, result, refused}
use Rattle.promises.specs.Page.{Effect, Returns}

-- a call as it was made: what it was handed, the memory that it was lent, before and after, and what it returned
pub record Exchange (C : Type 0) : Type 0 where
  pub call : C
  pub before : List ℕ
  pub returned : ℕ
  pub after : List ℕ

abbrev pub made : {C : Type 0} → C → (before : List ℕ) (returned : ℕ) (after : List ℕ) → Exchange C
made c before r after = record { call = c; before = before; returned = r; after = after }

-- calls in turn: the bytes handed to the first, and those that the last gave on
pub data InTurn {C : Type 0} (Made : List ℕ → Exchange C → List ℕ → Type 0) : List ℕ → List (Exchange C) → List ℕ → Type 0 where
  no_call : {b : List ℕ} → InTurn Made b [] b
  and_then : {b b' b'' : List ℕ} {x : Exchange C} {xs : List (Exchange C)} → Made b x b' → InTurn Made b' xs b'' → InTurn Made b (x ∷ xs) b''

-- each tells the caller what a step of the history says
pub data ByHistory {C H : Type 0} (Step : H → C → (room : ℕ) → Outcome Effect → H → Type 0) : H → List (Exchange C) → H → Type 0 where
  told_none : {h : H} → ByHistory Step h [] h
  told_then : {h h' h'' : H} {x : Exchange C} {xs : List (Exchange C)} (o : Outcome Effect) → Step h x.call (length x.before) o h'
      → Returns o x.before x.returned x.after → ByHistory Step h' xs h'' → ByHistory Step h (x ∷ xs) h''

-- ---- WHAT IS CARRIED IN BYTES: "The report under way, like all that later papers carry from call to call, is handed on as the last call gave it"

-- what such a call does is a function of the bytes that it is handed: its outcome, and the bytes after it. How these hold what they hold is no part of
-- the page: Reports and LiveRuns say of the function, whatever it is, all that a caller can see
pub record Transition : Type 0 where
  pub outcome : Outcome Effect
  pub state : List ℕ

abbrev pub Machine : Type 0 → Type 0
Machine C = (b : List ℕ) → C → (room : ℕ) → Transition

-- THE CONTRACT of a call that carries bytes, b before and b' after; `Lent` says what memory it is lent beside them
pub record Carries {C : Type 0} (m : Machine C) (Lent : C → List ℕ → Type 0) (b : List ℕ) (x : Exchange C) (b' : List ℕ) : Type 0 where
  pub lent : Lent x.call x.before
  pub returns : Returns (m b x.call (length x.before)).outcome x.before x.returned x.after
  pub hands_on : b' ≡ (m b x.call (length x.before)).state

-- the bytes hold nothing: every call that does not begin anew is refused with this number, and leaves them
abbrev pub HoldsNone : {C : Type 0} (m : Machine C) (Begins : C → Type 0) (number : ℕ) (b : List ℕ) → Type 0
HoldsNone {C} m Begins number b = (c : C) → ¬ Begins c → (room : ℕ) → m b c room ≡ record { outcome = refused number 0; state = b }

-- OF ANY BYTES, also those that no call left; a report or a run takes the first `size` of them
pub record OfAnyBytes {C : Type 0} (m : Machine C) (Begins : C → Type 0) (size number : ℕ) : Type 0 where
  -- too few hold nothing, nor do those that begin otherwise than a beginning leaves them, as other formats and kept rules do, or that are all 0 or 255
  pub short : (b : List ℕ) → length b < size → HoldsNone m Begins number b
  pub other_format : (b b' : List ℕ) (c : C) (room : ℕ) (x : Effect) → Begins c → (m b' c room).outcome ≡ result x
      → ¬ (word b 0 ≡ word (m b' c room).state 0) → HoldsNone m Begins number b
  pub alike : (b : List ℕ) (x : ℕ) → (x ≡ 0) ⊎ (x ≡ 255) → ((i : ℕ) → i < length b → get_or b i 0 ≡ x) → HoldsNone m Begins number b
  -- the bytes behind stay, and their number
  pub same_length : (b : List ℕ) (c : C) (room : ℕ) → length (m b c room).state ≡ length b
  pub behind : (b : List ℕ) (c : C) (room : ℕ) → drop size (m b c room).state ≡ drop size b
  -- THE EXCEPTIONS to "A refusal writes nothing". A refused naming, a recording that stops a report, and a start of a run that 11 refuses are
  -- remembered: bytes that held something hold nothing after it, and all but the first four stay. Every other refusal leaves every byte
  pub refusal_ends : (b : List ℕ) (c : C) (room n p : ℕ) → (m b c room).outcome ≡ refused n p
      → ((m b c room).state ≡ b)
      ⊎ ((¬ HoldsNone m Begins number b) × HoldsNone m Begins number (m b c room).state × (drop 4 (m b c room).state ≡ drop 4 b))
