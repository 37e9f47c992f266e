-- What is kept stands for all the pieces that were handed over, joined; so the page is that of the whole inputs.
use Rattle.std.specs.Prelude.{ℕ, ◌+◌, ◌*◌, ◌≡◌, refl, List, [], ◌++◌, length, take}
use Rattle.std.proofs.Common.{sym, ap, subst, ◌∙◌, append-nil}
use Rattle.recording.specs.Recording.{most_records}
use Rattle.page.specs.Printed.{printed}
use Rattle.page.specs.Intake.{spare, text_blocks, StandsFor, TakesIn}
use Rattle.page.proofs.laws.Intake.{stands_empty}
use Rattle.page.proofs.laws.Length.{printed_stands}
use Rattle.ask.specs.declared.input.Input.{Input}
use Rattle.ask.specs.Reading.{piece_of, Turns, no_turn, then, Recorded, opened, missing}

-- an empty piece leaves all as it was
pub takes_none : (store : List ℕ) (n : ℕ) (piece : List ℕ) → piece ≡ [] → TakesIn store n piece store n
takes_none store n piece e =
    record {
      stands = λ blocks seen r s. subst (λ (w : List ℕ). StandsFor blocks w store n) (sym (ap (λ (p : List ℕ). seen ++ p) e ∙ append-nil seen)) s;
      behind = refl;
    }

-- ALL THE BYTES that were handed over: the pieces, joined in order
abbrev pub handed : {store new : List ℕ} {r : Input} → Turns store new r → List ℕ
handed no_turn = []
handed (then t m u) = handed t ++ piece_of u.got u.buffer

abbrev pub recorded : {store new : List ℕ} {r : Input} → Recorded store new r → List ℕ
recorded (opened t) = handed t
recorded (missing z n) = []

same_size : {store new : List ℕ} {r : Input} → Turns store new r → length new ≡ length store
same_size no_turn = refl
same_size (then t m u) = u.size ∙ same_size t

-- WHAT IS KEPT STANDS FOR ALL that was handed over
pub turns_stand : {store new : List ℕ} {r : Input} (blocks : ℕ) → 16 * blocks + spare ≡ length store → (t : Turns store new r) → StandsFor blocks (handed t) new r.kept
turns_stand {store} blocks e no_turn = stands_empty blocks store
turns_stand blocks e (then t m u) = u.taken.takes.stands blocks (handed t) (e ∙ sym (same_size t)) (turns_stand blocks e t)

pub recorded_stands : {store new : List ℕ} {r : Input} (blocks : ℕ) → 16 * blocks + spare ≡ length store → (t : Recorded store new r) → StandsFor blocks (recorded t) new r.kept
recorded_stands blocks e (opened t) = turns_stand blocks e t
recorded_stands {store} blocks e (missing z n) = subst (λ (k : ℕ). StandsFor blocks [] store k) (sym z) (stands_empty blocks store)

recorded_size : {store new : List ℕ} {r : Input} → Recorded store new r → length new ≡ length store
recorded_size (opened t) = same_size t
recorded_size (missing z n) = refl

-- THE PAGE of what is kept of both inputs is the page of all that was handed over of them
pub printed-read : {recs rec : List ℕ} {r : Input} {texts text : List ℕ} {q : Input} → 16 * most_records + spare ≡ length recs → 16 * text_blocks + spare ≡ length texts
    → (t : Recorded recs rec r) (u : Turns texts text q) → printed (take r.kept rec) (take q.kept text) ≡ printed (recorded t) (handed u)
printed-read {rec = rec} {r} {text = text} {q} e f t u =
    printed_stands (recorded t) rec r.kept (handed u) text q.kept (e ∙ sym (recorded_size t)) (f ∙ sym (same_size u)) (recorded_stands most_records e t) (turns_stand text_blocks f u)
