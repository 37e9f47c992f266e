-- A read's answer, and the piece that it handed over: none where it failed.
use Prim.Native.Nat.{ℕ, ◌≤◌, min}
use native.Mathlib.Omega.{arith}
use mathlib.Core.Path.{◌≡◌, refl, sym, ap, subst, ◌∙◌}
use mathlib.Core.List.{List}
use lib.IntN.{pos, negsuc}
use lib.ListN.{length, take}
use lib.Seq.{length-take-le}
use Rattle.page.specs.Intake.{TakesIn}
use Rattle.ask.specs.declared.input.Input.{Input}
use Rattle.ask.specs.Reading.{state_of, piece_of, Turn}
use Rattle.ask.proofs.laws.Reading.{takes_none}
use Rattle.ask.proofs.input.read_on.Goals as goal

turn_of : (store : List ℕ) (n : ℕ) (buffer : List ℕ) (size : ℕ) (new : List ℕ) (r : Input) → length buffer ≡ 4096 → size ≤ length buffer
    → r.state ≡ state_of (pos (length (take size buffer))) → TakesIn store n (take size buffer) new r.kept → length new ≡ length store → Turn store n new r
turn_of store n buffer size new r full inside told takes long =
    let many : length (take size buffer) ≡ size = length-take-le size buffer inside in
    let least : min size (length buffer) ≡ size = omega arith in
    record {
      got = pos size;
      buffer = buffer;
      full = full;
      taken = record {
        told = told ∙ ap (λ (k : ℕ). state_of (pos k)) many;
        takes = subst (λ (p : List ℕ). TakesIn store n p new r.kept) (ap (λ (k : ℕ). take k buffer) (sym least)) takes;
      };
      size = long;
    }

pub returns-in-Ok-clause-turn : goal.returns-in-Ok-clause-turn
returns-in-Ok-clause-turn g c =
    let buffer : List ℕ = c.read.new.buf in
    turn_of c.args.store.now c.args.n buffer c.in-Ok.size c.take_read.new.store c.take_read.result (omega arith) c.in-Ok.ensures.bound.0
    c.take_read.ensures.told c.take_read.ensures.takes c.take_read.auto.store

pub returns-in-Err-clause-turn : goal.returns-in-Err-clause-turn
returns-in-Err-clause-turn g c =
    let buffer : List ℕ = c.read.new.buf in
    record {
      got = negsuc 0;
      buffer = buffer;
      full = omega arith;
      taken = record { told = refl; takes = takes_none c.args.store.now c.args.n (piece_of (negsuc 0) buffer) refl };
      size = refl;
    }
