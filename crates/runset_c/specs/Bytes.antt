-- Sets that come in as bytes, and what the calls on them answer. A run is two signed numbers of 32 bits, low and high, both included; the runs of the bytes may
-- come in any order.
use Rattle.std.specs.Prelude.{ℕ, zero, suc, ◌+◌, ◌-◌, ◌*◌, ◌/◌, ◌%◌, ◌^◌, min, Bool, false, cond, not, ◌&&◌, ◌||◌, List, ◌++◌, length, drop, ◌==◌, nat_le, nat_lt, slice_index}
use Rattle.number.specs.Axis.{axis}
use Rattle.number.specs.Words.{word, offset_binary}
use Rattle.runs.specs.Runs.{most_runs, run_count, lows, set_bytes}
use Rattle.runs.specs.Distance.{distance}

-- the index of the number that stands at `at`; the size of the axis where it is off the axis
unfoldable pub index_at : List ℕ → ℕ → ℕ
index_at bytes at = cond (nat_lt (offset_binary (word bytes at)) 147483648) axis (min (offset_binary (word bytes at) - 147483648) axis)

-- v lies in one of the first k runs
unfoldable pub in_runs : List ℕ → ℕ → ℕ → Bool
in_runs bytes zero v = false
in_runs bytes (suc k) v = in_runs bytes k v || (nat_le (index_at bytes (8 * k)) v && nat_le v (index_at bytes (8 * k + 4)))

-- among the first k runs one ends off the axis, or the members of some first of them lie in too many maximal runs
unfoldable pub unfit_runs : List ℕ → ℕ → Bool
unfit_runs bytes zero = false
unfit_runs bytes (suc k) = unfit_runs bytes k || (nat_le axis (index_at bytes (8 * k + 4)) || nat_lt most_runs (run_count (in_runs bytes (suc k))))

-- the members of the set in the bytes, and whether the bytes are refused
abbrev pub set_of : List ℕ → ℕ → Bool
set_of bytes = in_runs bytes (length bytes / 8)

abbrev pub unfit : List ℕ → Bool
unfit bytes = unfit_runs bytes (length bytes / 8)

-- one of three is refused
abbrev pub unfit_any : List ℕ → List ℕ → List ℕ → Bool
unfit_any a b c = unfit a || (unfit b || unfit c)

-- 0: f or g; 1: f and g; 2: not f; else f or (g and h)
unfoldable pub chosen : ℕ → (ℕ → Bool) → (ℕ → Bool) → (ℕ → Bool) → ℕ → Bool
chosen op f g h v = cond (op == 0) (f v || g v) (cond (op == 1) (f v && g v) (cond (op == 2) (not (f v)) (f v || (g v && h v))))

-- the members that an operation on the sets in the bytes is to have
abbrev pub asked : ℕ → List ℕ → List ℕ → List ℕ → ℕ → Bool
asked op a b c = chosen op (set_of a) (set_of b) (set_of c)

-- the number of runs; 4,294,967,295 for refused bytes, 4,294,967,294 for too many runs, 4,294,967,293 for a short output
unfoldable pub reply_of : Bool → (ℕ → Bool) → ℕ → ℕ
reply_of refused f room =
    cond refused 4294967295 (cond (nat_lt most_runs (run_count f)) 4294967294 (cond (nat_lt room (8 * run_count f)) 4294967293 (run_count f)))

-- the output: the bytes of the set, where the reply is a number of runs
unfoldable pub output_of : Bool → (ℕ → Bool) → List ℕ → List ℕ
output_of refused f out = cond (nat_lt (reply_of refused f (length out)) 4294967293) (set_bytes f ++ drop (length (set_bytes f)) out) out

-- 1 for a member and 0 for none; 2 for refused bytes, 3 for a number off the axis
abbrev pub member_reply : Bool → (ℕ → Bool) → ℕ → ℕ
member_reply refused f v = cond refused 2 (cond (nat_le axis v) 3 (cond (f v) 1 0))

-- the distance, the size of the axis for the empty set; 4,294,967,295 for refused bytes, 4,294,967,294 for a number off the axis
abbrev pub distance_reply : Bool → (ℕ → Bool) → ℕ → ℕ
distance_reply refused f v = cond refused 4294967295 (cond (nat_le axis v) 4294967294 (distance f v))

-- a sum of lows, each picked by the sum before it, as 64 bits hold it
unfoldable pub repeat_sum : (ℕ → Bool) → ℕ → ℕ
repeat_sum f zero = 0
repeat_sum f (suc n) = (repeat_sum f n + slice_index (lows f) (repeat_sum f n % run_count f)) % 2 ^ 64

-- 0 for refused bytes, for too many runs and for the empty set
unfoldable pub repeat_reply : Bool → (ℕ → Bool) → ℕ → ℕ
repeat_reply refused f times = cond refused 0 (cond (nat_lt most_runs (run_count f)) 0 (cond (run_count f == 0) 0 (repeat_sum f times)))

-- the number of runs that joining stores, which is that of the result; 4,294,967,295 for refused bytes, 4,294,967,294 for too many runs
unfoldable pub stores_reply : Bool → (ℕ → Bool) → ℕ
stores_reply refused f = cond refused 4294967295 (cond (nat_lt most_runs (run_count f)) 4294967294 (run_count f))
