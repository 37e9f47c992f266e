-- Document 01, "The question text", and Papers 1 and 3: what a text reads as. A number of a text is carried as its index on the axis, that of a pigment as it is.
use Rattle.std.specs.Prelude.{ℕ}
use Rattle.recording.specs.Reading.{Curve}

-- what stands on the left of a relation: the value of a curve, or the time
pub data Field : Type 0 where
  of : Curve → Field
  T : Field

-- `>=` `<=` `>` `<` `=`
pub data Relation : Type 0 where
  ge le gt lt eq : Relation

-- what stands on the right of a relation: v, or a number
pub data Operand : Type 0 where
  v : Operand
  number : ℕ → Operand

pub data Atom : Type 0 where
  compare : Field → Relation → Operand → Atom
  A-to-B : Relation → Atom
  fall rise : Curve → Atom
  -- `P=k`
  pigment : ℕ → Atom

-- the listed questions; the number of `lowafter` and `capafter` is an after-time
pub data Listed : Type 0 where
  high low : Curve → Listed
  lowafter capafter : Curve → ℕ → Listed
  peaks dips : Curve → Listed
  cross crossup : Listed
  dose : ℕ → Listed
  ampl gaps steps : Curve → Listed
  lag : Listed

-- `|` `&` `!` F G X U W
pub data Text : Type 0 where
  atom : Atom → Text
  listed : Listed → Text
  or and : Text → Text → Text
  neg : Text → Text
  finally globally next : Text → Text
  until weak_until : Text → Text → Text
