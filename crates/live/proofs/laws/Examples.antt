-- A worked example: moments on an empty run and later, set again, gone back to; times that a discarded reading had; refusals that change nothing.
use Rattle.std.specs.Prelude.{◌≡◌, refl, List, [], ◌∷◌}
use Rattle.number.specs.Words.{offset_binary, signed}
use Rattle.refusal.specs.Outcome.{result, refused, judged}
use Rattle.recording.specs.R2.{r2}
use Rattle.recording.specs.Recording.{reading, fields_of, fields, lawful}
use Rattle.marks.specs.Marks.{marks_of}
use Rattle.live.specs.History.{begun, Step, add, save, restore, outcome, step_answers, after_all}

-- a moment on the empty run, three readings, a moment, one more; back to three, where the time of the discarded one may come again; back to none
abbrev pub steps : List Step
steps =
    save 1
    ∷ add (r2 0 10 2)
    ∷ add (r2 10 9 2)
    ∷ add (r2 20 8 1)
    ∷ save 2
    ∷ add (r2 40 7 0)
    ∷ save 3
    ∷ restore 2
    ∷ add (r2 20 7 0)
    ∷ add (r2 40 7 0)
    ∷ restore 1
    ∷ add (r2 5 7 1)
    ∷ restore 4
    ∷ save 9
    ∷ add (7 ∷ [])
    ∷ save 1
    ∷ restore 3
    ∷ add (r2 30 7 0)
    ∷ restore 1
    ∷ []

-- 3 at the index in the run, 3, behind three readings; 18 for a moment that is not set and for a name over 8; 1; and 3 at the index 4 behind the four of moment 3,
-- which was set after moment 2 and stayed
pub steps-answered : step_answers (begun []) steps
    ≡ result 0 ∷ result 0 ∷ result 0 ∷ result 0 ∷ result 0 ∷ result 0 ∷ result 0 ∷ result 0
    ∷ refused 3 3 ∷ result 0 ∷ result 0 ∷ result 0 ∷ refused 18 0 ∷ refused 18 0 ∷ refused 1 0 ∷ result 0 ∷ result 0 ∷ refused 3 4 ∷ result 0 ∷ []
unfolding outcome judged marks_of reading signed offset_binary fields_of fields lawful
steps-answered = refl

-- in the end the run is that of moment 1, which was set again behind one reading
pub steps-run : (after_all (begun []) steps).run ≡ r2 5 7 1 ∷ []
unfolding outcome judged marks_of reading signed offset_binary fields_of fields lawful
steps-run = refl
