-- A call, as data, meets the contract of its function (Calls).
use Rattle.std.specs.Prelude.{ℕ, ◌≡◌, List, [], ◌∷◌}
use Rattle.promises.specs.Page.{Call, question, degree, pair, thin, band, order, entry, find, lab_question, lab_degree, lab_pair, assured, version}
use Rattle.promises.specs.inner.Calls.{QuestionCall, DegreeCall, PairCall, ThinCall, BandCall, OrderCall, LabQuestionCall, LabDegreeCall, LabPairCall, EntryCall, FindCall, AssuredCall}

-- a relation of two numbers before and two after
pub data Two (P : (x y r x' y' : ℕ) → Type 0) : (before : List ℕ) (r : ℕ) (after : List ℕ) → Type 0 where
  two : {x y r x' y' : ℕ} → P x y r x' y' → Two P (x ∷ y ∷ []) r (x' ∷ y' ∷ [])

pub data Four (P : (x y z w r x' y' z' w' : ℕ) → Type 0) : (before : List ℕ) (r : ℕ) (after : List ℕ) → Type 0 where
  four : {x y z w r x' y' z' w' : ℕ} → P x y z w r x' y' z' w' → Four P (x ∷ y ∷ z ∷ w ∷ []) r (x' ∷ y' ∷ z' ∷ w' ∷ [])

-- 1.1.0
abbrev pub version_number : ℕ
version_number = 65792

abbrev pub Made : Call → (g before : List ℕ) (r : ℕ) (after : List ℕ) → Type 0
Made (question text) g before r after = QuestionCall g text before r after
Made (degree text target) g before r after = Two (DegreeCall g text target) before r after
Made (pair curve target) g before r after = Two (PairCall g curve target) before r after
Made (thin marks) g before r after = ThinCall g marks before r after
Made (band text e) g before r after = Four (BandCall g text e) before r after
Made (order sheet) g before r after = Two (OrderCall g sheet) before r after
Made entry g before r after = EntryCall g before r after
Made (find curve level) g before r after = FindCall g curve level before r after
Made (lab_question marks text) g before r after = LabQuestionCall g marks text before r after
Made (lab_degree marks text target) g before r after = Two (LabDegreeCall g marks text target) before r after
Made (lab_pair curve target) g before r after = Two (LabPairCall g curve target) before r after
Made (assured marks) g before r after = (before ≡ []) × AssuredCall g marks r × (after ≡ before)
Made version g before r after = (before ≡ []) × (r ≡ version_number) × (after ≡ before)
