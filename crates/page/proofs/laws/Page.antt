-- The length of a page.
use Rattle.std.specs.Prelude.{ℕ, zero, suc, ◌+◌, ◌*◌, ◌/◌, ◌≤◌, ◌<◌, ◌≡◌, List, ℤ, length}
use Rattle.std.proofs.Common.{sym, ap, subst, ⊎_elim, arith, add-one, length-append}
use Rattle.number.proofs.laws.Order.{less_or_not}
use Rattle.number.specs.Words.{word, signed}
use Rattle.refusal.specs.Outcome.{result, refused}
use Rattle.page.specs.Decimal.{in_decimal, signed_decimal}
use Rattle.page.proofs.laws.Decimal.{decimal-fits, signed-fits}
use Rattle.page.specs.Page.{run_line, run_lines, page}
use Rattle.page.specs.inner.Puts.{Puts}
use Rattle.page.proofs.laws.Puts.{puts_nothing, puts_then}
use Rattle.page.specs.Printed.{page_size, set_room}

-- ---- the parts of a line and of a page

pub run_line-length : (l h : ℤ) → length (run_line l h) ≡ length (signed_decimal l) + 1 + length (signed_decimal h) + 1
unfolding run_line
run_line-length l h = simp length-append

pub set-length : (set : List ℕ) → length (page (result set)) ≡ 5 + length (in_decimal (length set / 8)) + 1 + length (run_lines (length set / 8) set)
unfolding page
set-length set = simp length-append (omega arith)

pub refusal_length : (n p : ℕ) → length (page (refused n p)) ≡ 8 + length (in_decimal n) + 1 + length (in_decimal p) + 1
unfolding page
refusal_length n p = simp length-append (omega arith)

-- ---- limits

line-fits : (l h : ℕ) → length (run_line (signed l) (signed h)) ≤ 24
line-fits l h = omega (arith, run_line-length (signed l) (signed h), signed-fits l, signed-fits h)

next-length : (k : ℕ) (set : List ℕ) → length (run_lines (suc k) set) ≡ length (run_lines k set) + length (run_line (signed (word set (8 * k))) (signed (word set (8 * k + 4))))
unfolding run_lines
next-length k set = length-append (run_lines k set) _

lines_fit : (n : ℕ) (set : List ℕ) → length (run_lines n set) ≤ 24 * n
unfolding run_lines
lines_fit zero set = omega arith
lines_fit (suc k) set = omega (arith, next-length k set, lines_fit k set, line-fits (word set (8 * k)) (word set (8 * k + 4)))

pub set-fits : (set : List ℕ) → length set ≤ set_room → length (page (result set)) ≤ page_size
set-fits set h =
    let d : length (in_decimal (length set / 8)) ≤ 10 = decimal-fits (length set / 8) 9 (omega arith) in
    omega (arith, set-length set, lines_fit (length set / 8) set)

-- the lines up to a run are no longer than all
up_to : (n k : ℕ) (set : List ℕ) → k ≤ n → length (run_lines k set) ≤ length (run_lines n set)
up_to zero k set h = let e : k ≡ zero = omega arith in omega (arith, ap (λ (j : ℕ). length (run_lines j set)) e)
up_to (suc n) k set h =
    ⊎_elim (λ g. omega (arith, next-length n set, up_to n k set (omega arith)))
    (λ g. let e : k ≡ suc n = omega arith in omega (arith, ap (λ (j : ℕ). length (run_lines j set)) e))
    (less_or_not k (suc n))

pub run-within : (n k : ℕ) (set : List ℕ) → k < n
    → length (run_lines k set) + length (run_line (signed (word set (8 * k))) (signed (word set (8 * k + 4)))) ≤ length (run_lines n set)
run-within n k set h = omega (arith, next-length k set, up_to n (suc k) set (omega arith))

-- ---- the lines in turn

pub runs_none : (set old : List ℕ) (at : ℕ) → Puts (run_lines 0 set) old at old at
unfolding run_lines
runs_none set old at = puts_nothing old at

pub runs_next : (set old mid new : List ℕ) (at e f i l h : ℕ) → l ≡ word set (8 * i) → h ≡ word set (8 * i + 4) → at + length (run_lines i set) ≤ length old
    → Puts (run_lines i set) old at mid e → Puts (run_line (signed l) (signed h)) mid e new f → Puts (run_lines (i + 1) set) old at new f
unfolding run_lines
runs_next set old mid new at e f i l h low high room p q =
    subst (λ (k : ℕ). Puts (run_lines k set) old at new f) (sym (add-one i))
    (puts_then (run_lines i set) _ old mid new at e f room p
    (subst (λ (y : ℕ). Puts (run_line (signed (word set (8 * i))) (signed y)) mid e new f) high (subst (λ (x : ℕ). Puts (run_line (signed x) (signed h)) mid e new f) low q)))
