-- THE PAGE. Of each call of the library: what it is handed, its refusals in turn, its answers by meaning, and how an answer goes over to the
-- caller. `Complete` is the `ensures` of every call of crate `mill` that carries nothing from call to call (lists of thinning calls: Thinning;
-- reports: Reports; live runs: LiveRuns). Of a call nothing else need be believed. That the page holds is `page` (laws/Page).
--
-- DEMAND 1. "The answer to a call is either the result or one numbered refusal, for every recording, text, list of marks and target that can be
-- handed in": `an_outcome`, `nothing_else`. "A refusal writes nothing into the caller's memory": `Returns`. "and it always comes", "Nothing is read
-- beyond the bytes given, and callers needn't test anything first": the language's. A function is proved only if it ends and each of its reads
-- lies inside what it was handed; no call of crate `mill` has a `requires`.
use Rattle.std.specs.Prelude.{ℕ, ◌+◌, ◌-◌, ◌*◌, ◌≤◌, ◌<◌, ◌≡◌, List, [], ◌∷◌, ◌++◌, map, ℤ, pos, length}
use Rattle.std.specs.Float.{binary64}
use Rattle.std.specs.Float.Ieee.{to_bits}
use Rattle.number.specs.Axis.{axis, whole}
use Rattle.number.specs.Words.{bits, words_bytes}
use Rattle.refusal.specs.Outcome.{Outcome, result, refused}
use Rattle.recording.specs.Condition.{pick}
use Rattle.recording.specs.Reading.{Curve, A, B, top, curve_of}
use Rattle.recording.specs.Recording.{readings}
use Rattle.grammar.specs.Syntax.{Text, Listed, listed}
use Rattle.grammar.specs.Grammar.{ReadsWhole}
use Rattle.meaning.specs.Meaning.{Holds}
use Rattle.assured.specs.Assured.{Assured}
use Rattle.binary64.specs.Degree.{distance_of, degree_of}
use Rattle.degree.specs.Nearest.{Member, Distance}
use Rattle.pair.specs.Pair.{time_at, Fits, Foremost}
use Rattle.band.specs.Band.{Certain, Possible}
use Rattle.sheet.specs.Sheet.{sheet_of}
use Rattle.sheet.specs.Finding.{BreaksLine, FirstBreak}
use Rattle.marks.specs.Marks.{marks_of}
use Rattle.thin.specs.Thin.{kept_bytes}
use Rattle.entry.specs.Entry.{entry_bytes, Greatest, Least}
use Rattle.listing.specs.Listing.{entry_count}
use Rattle.listing.specs.Opened.{Exactly, SaidToReach}
use Rattle.reply.specs.Reply.{number_in, low_in}
use Rattle.promises.specs.MaximalRuns.{Interval, MaximalRuns, runs_bytes}
use Rattle.promises.specs.Conditions.{TableLine, ◌upon◌, recording_table, asking_table, text_table, WithoutRecord, TopsOver, RunsOver, SetLonger, MarksOff, TargetOff, TargetBad, TopsOfCurveOver, SheetBad, NotLaboratory, BandBad, NotOneExtreme, SummaryBad, FoundLonger, NoneMet, FirstMet}

-- ---- THE CALLS. Beside what stands here a call is handed some bytes first, `g`: a recording; `find` a summary, `assured` a text,
-- `version` nothing.
pub data Call : Type 0 where
  question : (text : List ℕ) → Call
  degree : (text : List ℕ) (target : ℤ) → Call
  pair : (curve : ℕ) (target : ℤ) → Call
  thin : (marks : List ℕ) → Call
  band : (text : List ℕ) (e : ℤ) → Call
  order : (sheet : List ℕ) → Call
  entry : Call
  find : (curve : ℕ) (level : ℤ) → Call
  lab_question : (marks text : List ℕ) → Call
  lab_degree : (marks text : List ℕ) (target : ℤ) → Call
  lab_pair : (curve : ℕ) (target : ℤ) → Call
  assured : (marks : List ℕ) → Call
  version : Call

-- the memory that a call is lent to write to is a list too: the bytes of an output, however many; or what stands at its places, in the order of
-- the header
abbrev pub Lent : Call → (before : List ℕ) → Type 0
Lent (question text) before = Unit {0}
Lent (degree text target) before = length before ≡ 2
Lent (pair curve target) before = length before ≡ 2
Lent (thin marks) before = Unit {0}
Lent (band text e) before = length before ≡ 4
Lent (order sheet) before = length before ≡ 2
Lent entry before = Unit {0}
Lent (find curve level) before = Unit {0}
Lent (lab_question marks text) before = Unit {0}
Lent (lab_degree marks text target) before = length before ≡ 2
Lent (lab_pair curve target) before = length before ≡ 2
Lent (assured marks) before = length before ≡ 0
Lent version before = length before ≡ 0

-- ---- WHAT A CALLER IS TOLD

-- a place of the caller's memory: a number is put there, or what stood there stays
pub data Place : Type 0 where
  put : ℕ → Place
  unchanged : Place

-- a result: the low half of the number returned, and the places from the first on
pub record Effect : Type 0 where
  pub low : ℕ
  pub places : List Place

abbrev pub effect : ℕ → List Place → Effect
effect n ps = record { low = n; places = ps }

-- bytes at the front of an output, and how many they are
abbrev pub writing : List ℕ → Effect
writing b = effect (length b) (map put b)

-- the memory after it; "the bytes behind the result are untouched". Each of these places is there
pub data Leaves : List Place → (before after : List ℕ) → Type 0 where
  behind : {old : List ℕ} → Leaves [] old old
  is_put : {x y : ℕ} {ps : List Place} {old new : List ℕ} → Leaves ps old new → Leaves (put x ∷ ps) (y ∷ old) (x ∷ new)
  is_unchanged : {y : ℕ} {ps : List Place} {old new : List ℕ} → Leaves ps old new → Leaves (unchanged ∷ ps) (y ∷ old) (y ∷ new)

-- the high half is the refusal's number, 0 for a result; the low half is the result's, or the refusal's place. "Output bytes are untouched"
abbrev pub Returns : Outcome Effect → (before : List ℕ) (r : ℕ) (after : List ℕ) → Type 0
Returns (result x) before r after = (number_in r ≡ 0) × (low_in r ≡ x.low) × Leaves x.places before after
Returns (refused n p) before r after = (number_in r ≡ n) × (low_in r ≡ p) × (after ≡ before)

-- ---- THE REFUSALS of each call, in turn: "Order" in 01, and the papers of 02. The room is the length of the output

abbrev pub refusals : Call → (g : List ℕ) (room : ℕ) → List TableLine
refusals (question text) g room = asking_table g text ++ 9 upon TopsOver g text ∷ 8 upon RunsOver g text ∷ 10 upon SetLonger g text room ∷ []
refusals (degree text target) g room = asking_table g text ++ 12 upon TargetOff target ∷ 9 upon TopsOver g text ∷ 8 upon RunsOver g text ∷ []
refusals (pair curve target) g room = recording_table g ++ 4 upon WithoutRecord g ∷ 12 upon TargetBad curve target ∷ 9 upon TopsOfCurveOver g curve ∷ []
refusals (thin marks) g room = recording_table g ++ 11 upon MarksOff marks ∷ 10 upon (room < length (kept_bytes (marks_of marks) g)) ∷ []
-- Paper 9
refusals (band text e) g room = asking_table g text ++ 16 upon BandBad e ∷ 17 upon NotOneExtreme text ∷ []
-- Paper 6
refusals (order sheet) g room = recording_table g ++ 4 upon WithoutRecord g ∷ 13 upon SheetBad sheet ∷ []
-- Paper 12
refusals entry g room = recording_table g ++ 4 upon WithoutRecord g ∷ 10 upon (room < entry_bytes) ∷ []
refusals (find curve level) g room = 20 upon SummaryBad g ∷ 12 upon TargetBad curve level ∷ 10 upon FoundLonger curve level g room ∷ []
-- Paper 7
refusals (lab_question marks text) g room =
    asking_table g text ++ 11 upon MarksOff marks ∷ 14 upon NotLaboratory marks text
    ∷ 9 upon TopsOver g text ∷ 8 upon RunsOver g text ∷ 10 upon SetLonger g text room ∷ []
refusals (lab_degree marks text target) g room =
    asking_table g text ++ 11 upon MarksOff marks ∷ 14 upon NotLaboratory marks text
    ∷ 12 upon TargetOff target ∷ 9 upon TopsOver g text ∷ 8 upon RunsOver g text ∷ []
refusals (lab_pair curve target) g room =
    recording_table g ++ 4 upon WithoutRecord g ∷ 12 upon TargetBad curve target ∷ 14 upon (curve ≡ 1) ∷ 9 upon TopsOfCurveOver g curve ∷ []
refusals (assured marks) g room = text_table g ++ 11 upon MarksOff marks ∷ []
refusals version g room = []

-- ---- THE ANSWERS of each call, a line for each kind

-- the two places of a set that is empty or one run
abbrev pub ends : List Interval → List Place
ends [] = unchanged ∷ unchanged ∷ []
ends (r ∷ rs) = put (bits (whole r.low)) ∷ put (bits (whole r.high)) ∷ []

-- z is the number at index v of the axis
abbrev pub AtIndex : ℕ → ℤ → Type 0
AtIndex v z = (v < axis) × (whole v ≡ z)

pub data IsAnswer (g : List ℕ) : Call → Effect → Type 0 where
  -- QUESTION. DEMAND 2: "A whole number from minus to plus two thousand million stands in the answered set if and only if the question is true of
  -- the recording with that number put in" (`MaximalRuns`), "as linear-time temporal logic over finite traces reads it, the last reading repeating
  -- for ever" (`Holds`). "A text gets an answer only if it has a reading under the printed rules" (`ReadsWhole`)
  the_set : {text : List ℕ} {t : Text} (rs : List Interval) → ReadsWhole text t → MaximalRuns (λ z. Holds (readings g) z t 0) rs
      → IsAnswer g (question text) (writing (runs_bytes rs))
  -- DEGREE: 0, the target is a member; 1, it is not, and its distance and degree are put; 2, there is no member
  met : {text : List ℕ} {target : ℤ} {t : Text} (v : ℕ) → AtIndex v target → ReadsWhole text t → Member (readings g) t v
      → IsAnswer g (degree text target) (effect 0 [])
  short : {text : List ℕ} {target : ℤ} {t : Text} (v d : ℕ) → AtIndex v target → ReadsWhole text t → 0 < d → Distance (readings g) t v d
      → IsAnswer g (degree text target) (effect 1 (put (to_bits binary64 (distance_of d)) ∷ put (to_bits binary64 (degree_of d)) ∷ []))
  no-value : {text : List ℕ} {target : ℤ} {t : Text} → ReadsWhole text t → ((w : ℕ) → w < axis → ¬ Member (readings g) t w)
      → IsAnswer g (degree text target) (effect 2 [])
  -- PAIR, Paper 2: 1, the times of the first two tops that fit; 0, none fit
  first-pair : {curve : ℕ} {target : ℤ} (i j : ℕ) → Fits (readings g) (curve_of curve) target i j
      → Foremost (readings g) (curve_of curve) target (time_at (readings g) i) (time_at (readings g) j)
      → IsAnswer g (pair curve target) (effect 1 (put (time_at (readings g) i) ∷ put (time_at (readings g) j) ∷ []))
  no_pair : {curve : ℕ} {target : ℤ} → ((i j : ℕ) → ¬ Fits (readings g) (curve_of curve) target i j) → IsAnswer g (pair curve target) (effect 0 [])
  -- THIN: "Kept are, in order and unaltered, exactly" these, with Papers 1, 3 and 5
  the_kept : {marks : List ℕ} → IsAnswer g (thin marks) (writing (kept_bytes (marks_of marks) g))
  -- BAND, Paper 9: the numbers true of every curve within e, and those true of at least one; bit 0 and bit 1 tell which set is not empty
  two-sets : {text : List ℕ} {e : ℕ} (q : Listed) (certain possible : List Interval) → ReadsWhole text (listed q)
      → MaximalRuns (Certain q e (readings g)) certain → MaximalRuns (Possible q e (readings g)) possible → length certain ≤ 1 → length possible ≤ 1
      → IsAnswer g (band text (pos e)) (effect (length certain + 2 * length possible) (ends certain ++ ends possible))
  -- ORDER, Paper 6: 0, no addition breaks a line; 1, the time of the first record whose addition breaks one, and the first line that it breaks
  all-met : {sheet : List ℕ} → ((i k : ℕ) → ¬ BreaksLine (readings g) (sheet_of sheet) i k) → IsAnswer g (order sheet) (effect 0 [])
  broken : {sheet : List ℕ} (t k i : ℕ) → FirstBreak (readings g) (sheet_of sheet) t k i → IsAnswer g (order sheet) (effect 1 (put t ∷ put k ∷ []))
  -- ENTRY, Paper 12: eight numbers of 32 bits
  the_entry : (greatest least : Curve → ℤ) → ((c : Curve) → Greatest c (readings g) (greatest c)) → ((c : Curve) → Least c (readings g) (least c))
      → IsAnswer g entry (writing (words_bytes (time_at (readings g) 0 ∷ time_at (readings g) (length (readings g) - 1)
      ∷ bits (greatest A) ∷ bits (least A) ∷ bits (greatest B) ∷ bits (least B)
      ∷ length (pick (top A) (readings g)) ∷ length (pick (top B) (readings g)) ∷ [])))
  -- FIND, Paper 12: the numbers of the entries by which the curve is somewhere at least the level
  the_found : {curve : ℕ} {level : ℤ} (ns : List ℕ) → Exactly (SaidToReach (curve_of curve) level g) (entry_count g) ns
      → IsAnswer g (find curve level) (writing (words_bytes ns))
  -- THE LABORATORY'S, Paper 7: as the plain call
  lab-question : {marks text : List ℕ} {x : Effect} → IsAnswer g (question text) x → IsAnswer g (lab_question marks text) x
  lab-degree : {marks text : List ℕ} {target : ℤ} {x : Effect} → IsAnswer g (degree text target) x → IsAnswer g (lab_degree marks text target) x
  lab-pair : {curve : ℕ} {target : ℤ} {x : Effect} → IsAnswer g (pair curve target) x → IsAnswer g (lab_pair curve target) x
  -- ASSURED: 1, kept readings answer this text as the recording did, under these marks (KeptAsFull); 0 promises nothing
  is-assured : {marks : List ℕ} {t : Text} → ReadsWhole g t → Assured (marks_of marks) t → IsAnswer g (assured marks) (effect 1 [])
  not_assured : {marks : List ℕ} {t : Text} → ReadsWhole g t → ¬ Assured (marks_of marks) t → IsAnswer g (assured marks) (effect 0 [])
  -- VERSION: 1.1.0
  the_version : IsAnswer g version (effect (1 * 65536 + 1 * 256 + 0) [])

-- ---- THE COMPLETE OUTCOME

-- a result where no line is met, or the first line that is
pub data Right (c : Call) (g : List ℕ) (room : ℕ) : Outcome Effect → Type 0 where
  answers : {x : Effect} → NoneMet (refusals c g room) → IsAnswer g c x → Right c g room (result x)
  refuses : {n p : ℕ} → FirstMet (refusals c g room) n p → Right c g room (refused n p)

-- THE CONTRACT: "its complete outcome: answer, refusal and all caller memory after it" (01, "Four lines on promises")
pub record Complete (c : Call) (g before : List ℕ) (r : ℕ) (after : List ℕ) : Type 0 where
  pub lent : Lent c before
  pub outcome : Outcome Effect
  pub right : Right c g (length before) outcome
  pub returns : Returns outcome before r after

-- ---- THE PAGE HOLDS: there is one outcome and no other, whatever is handed in; so a contract leaves nothing open. "that reading is unique"
pub record Page : Type 0 where
  pub an_outcome : (c : Call) (g : List ℕ) (room : ℕ) → (o : Outcome Effect) × Right c g room o
  pub nothing_else : {c : Call} {g : List ℕ} {room : ℕ} {o o' : Outcome Effect} → Right c g room o → Right c g room o' → o ≡ o'
  pub determined : {c : Call} {g before : List ℕ} {r r' : ℕ} {after after' : List ℕ}
      → Complete c g before r after → Complete c g before r' after' → (r ≡ r') × (after ≡ after')
  pub one-reading : (text : List ℕ) (t u : Text) → ReadsWhole text t → ReadsWhole text u → t ≡ u
