-- Bytes put behind bytes.
use Rattle.std.specs.Prelude.{ℕ, ◌+◌, ◌≤◌, ◌<◌, ◌≡◌, refl, List, [], ◌∷◌, ◌++◌, length, take, drop, set}
use Rattle.std.proofs.Common.{sym, ap, ap₂, subst, ◌∙◌, append_assoc, append-nil, arith, add-one, length-append, take-append-drop, length-take-le}
use Rattle.std.proofs.Math.Seq.{take-length, append_snoc, paste}
use Rattle.std.proofs.lemmas.List.{set_split}
use Rattle.number.proofs.laws.Words.{put_behind}
use Rattle.page.specs.inner.Puts.{Puts}

-- nothing
pub puts_nothing : (old : List ℕ) (at : ℕ) → Puts [] old at old at
puts_nothing old at =
    record { behind = omega arith; output = sym (ap (λ (l : List ℕ). l ++ drop at old) (append-nil (take at old)) ∙ take-append-drop at old) }

-- one byte
pub puts_byte : (old : List ℕ) (at b : ℕ) → at < length old → Puts (b ∷ []) old at (set old at b) (at + 1)
puts_byte old at b h =
    record {
      behind = refl;
      output =
          set_split old at b h
          ∙ ap (λ (k : ℕ). take at old ++ b ∷ drop k old) (sym (add-one at))
          ∙ sym (append_snoc (take at old) b (drop (at + 1) old));
    }

-- all of a list
pub puts_all : (bytes old new : List ℕ) (at i : ℕ) → i ≡ length bytes → new ≡ paste old at bytes i → Puts bytes old at new (at + length bytes)
puts_all bytes old new at i e p =
    record {
      behind = refl;
      output =
          p ∙ ap (λ (k : ℕ). paste old at bytes k) e ∙ ap (λ (l : List ℕ). take at old ++ l ++ drop (at + length bytes) old) (take-length bytes);
    }

-- bytes, and then others
pub puts_then : (a b old mid new : List ℕ) (at e f : ℕ) → at + length a ≤ length old → Puts a old at mid e → Puts b mid e new f → Puts (a ++ b) old at new f
puts_then a b old mid new at e f h p q =
    let t : length (take at old ++ a) ≡ e = length-append (take at old) a ∙ ap (λ (k : ℕ). k + length a) (length-take-le at old (omega arith)) ∙ sym p.behind in
    record {
      behind = omega (arith, p.behind, q.behind, length-append a b);
      output =
          q.output
          ∙ ap (λ (k : ℕ). take e mid ++ b ++ drop k mid) q.behind
          ∙ put_behind (take at old ++ a) b old mid e (length b) t p.output
          ∙ ap₂ (λ (l : List ℕ) (k : ℕ). l ++ drop k old) (append_assoc (take at old) a b) (sym q.behind);
    }

-- four parts
pub puts_four : (a b c d old m₁ m₂ m₃ new : List ℕ) (at e₁ e₂ e₃ f : ℕ) → at + length (a ++ b ++ c ++ d) ≤ length old
    → Puts a old at m₁ e₁ → Puts b m₁ e₁ m₂ e₂ → Puts c m₂ e₂ m₃ e₃ → Puts d m₃ e₃ new f → Puts (a ++ b ++ c ++ d) old at new f
puts_four a b c d old m₁ m₂ m₃ new at e₁ e₂ e₃ f h p q r s =
    let x = length-append a b in
    let y = length-append (a ++ b) c in
    let z = length-append (a ++ b ++ c) d in
    puts_then (a ++ b ++ c) d old m₃ new at e₃ f (omega (arith, x, y, z))
    (puts_then (a ++ b) c old m₂ m₃ at e₂ e₃ (omega (arith, x, y, z)) (puts_then a b old m₁ m₂ at e₁ e₂ (omega (arith, x, y, z)) p q) r)
    s

-- five parts
pub puts_five : (a b c d x old m₁ m₂ m₃ m₄ new : List ℕ) (at e₁ e₂ e₃ e₄ f : ℕ) → at + length (a ++ b ++ c ++ d ++ x) ≤ length old
    → Puts a old at m₁ e₁ → Puts b m₁ e₁ m₂ e₂ → Puts c m₂ e₂ m₃ e₃ → Puts d m₃ e₃ m₄ e₄ → Puts x m₄ e₄ new f
    → Puts (a ++ b ++ c ++ d ++ x) old at new f
puts_five a b c d x old m₁ m₂ m₃ m₄ new at e₁ e₂ e₃ e₄ f h p q r s t =
    let z = length-append (a ++ b ++ c ++ d) x in
    puts_then (a ++ b ++ c ++ d) x old m₄ new at e₄ f (omega (arith, z))
    (puts_four a b c d old m₁ m₂ m₃ m₄ at e₁ e₂ e₃ e₄ (omega (arith, z)) p q r s) t

-- the same bytes
pub puts_same : {a b old new : List ℕ} {at e : ℕ} → a ≡ b → Puts a old at new e → Puts b old at new e
puts_same {old = old} {new = new} {at = at} {e = e} h p = subst (λ (l : List ℕ). Puts l old at new e) h p
