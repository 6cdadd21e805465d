-- The values of a verdict at the front of five, and which verdict it is by its tag. Assumes nothing.
use Prim.Native.Nat.{ℕ, suc, ◌≤◌}
use native.Mathlib.Omega.{arith}
use mathlib.Core.Path.{◌≡◌, refl, sym, ap, ◌∙◌}
use mathlib.Core.Logic.{inl, inr}
use mathlib.Core.List.{List, [], ◌∷◌}
use lib.ListN.{length, set}
use lib.Ieee.{Float}
use denote.Enum.Declared.{tag_of}
use types.Run.{OneOf}
use Rattle.definitions.specs.Room.{written}
use Rattle.marker.specs.declared.verdict.Verdict as Code
use Rattle.marker.specs.declared.verdict.Verdict.TheVariants.{OtherCalls, Overload, BreakTooLate, WindowMissed, BreakMissing, TooFar, TooLong, Best, Dearer, Cheaper, WheelchairOverload, RoadClosed}
use Rattle.marker.specs.contracts.verdict.Verdict.{the_type}
use Rattle.marker.specs.Figures.{number_in, values_in}

-- what holds of every five elements holds of a list of five
pub five : {A : Type 0} (P : List A → Type 0) → ((a b c d e : A) → P (a ∷ b ∷ c ∷ d ∷ e ∷ [])) → (l : List A) → length l ≡ 5 → P l
five P h [] n = absurd (omega arith)
five P h (a ∷ []) n = absurd (omega arith)
five P h (a ∷ b ∷ []) n = absurd (omega arith)
five P h (a ∷ b ∷ c ∷ []) n = absurd (omega arith)
five P h (a ∷ b ∷ c ∷ d ∷ []) n = absurd (omega arith)
five P h (a ∷ b ∷ c ∷ d ∷ e ∷ []) n = h a b c d e
five P h (a ∷ b ∷ c ∷ d ∷ e ∷ f ∷ l) n = absurd (omega arith)

module _ (old : List Float) (n : length old ≡ 5) where
  pub one : (a : Float) → set old 0 a ≡ written (a ∷ []) old
  one a = five (λ (l : List Float). set l 0 a ≡ written (a ∷ []) l) (λ p q r s t. refl) old n

  pub two : (a b : Float) → set (set old 0 a) 1 b ≡ written (a ∷ b ∷ []) old
  two a b = five (λ (l : List Float). set (set l 0 a) 1 b ≡ written (a ∷ b ∷ []) l) (λ p q r s t. refl) old n

  pub three : (a b c : Float) → set (set (set old 0 a) 1 b) 2 c ≡ written (a ∷ b ∷ c ∷ []) old
  three a b c = five (λ (l : List Float). set (set (set l 0 a) 1 b) 2 c ≡ written (a ∷ b ∷ c ∷ []) l) (λ p q r s t. refl) old n

  pub all-five : (a b c d e : Float) → set (set (set (set (set old 0 a) 1 b) 2 c) 3 d) 4 e ≡ written (a ∷ b ∷ c ∷ d ∷ e ∷ []) old
  all-five a b c d e = five (λ (l : List Float). set (set (set (set (set l 0 a) 1 b) 2 c) 3 d) 4 e ≡ written (a ∷ b ∷ c ∷ d ∷ e ∷ []) l) (λ p q r s t. refl) old n

-- the values of a verdict, written where those of the same one are
pub written-by : {v w : Code.Verdict} → v ≡ w → (old new : List Float) → new ≡ written (values_in w) old → new ≡ written (values_in v) old
written-by e old new h = h ∙ ap (λ (x : Code.Verdict). written (values_in x) old) (sym e)

-- ---- which verdict it is, by the tag of the code's enum

tagged : (v : Code.Verdict) → number_in v ≡ suc (tag_of the_type v)
tagged (OtherCalls position) = refl
tagged (Overload run load capacity) = refl
tagged (BreakTooLate run place customer start latest) = refl
tagged (WindowMissed run place customer readiness due) = refl
tagged (BreakMissing run duration earliest) = refl
tagged (TooFar run distance max) = refl
tagged (TooLong run duration max) = refl
tagged Best = refl
tagged (Dearer by) = refl
tagged (Cheaper by) = refl
tagged (WheelchairOverload run load capacity) = refl
tagged (RoadClosed run leg) = refl

five-tags : (n : ℕ) → OneOf (2 ∷ 3 ∷ 4 ∷ 5 ∷ 6 ∷ []) n → (2 ≤ n) × (n ≤ 6)
five-tags n (inl e) = (omega arith, omega arith)
five-tags n (inr (inl e)) = (omega arith, omega arith)
five-tags n (inr (inr (inl e))) = (omega arith, omega arith)
five-tags n (inr (inr (inr (inl e)))) = (omega arith, omega arith)
five-tags n (inr (inr (inr (inr e)))) = (omega arith, omega arith)

other-tags : (n : ℕ) → OneOf (0 ∷ 1 ∷ 7 ∷ 8 ∷ 9 ∷ 10 ∷ 11 ∷ []) n → 2 ≤ n → n ≤ 6 → ⊥
other-tags n (inl e) h k = omega arith
other-tags n (inr (inl e)) h k = omega arith
other-tags n (inr (inr (inl e))) h k = omega arith
other-tags n (inr (inr (inr (inl e)))) h k = omega arith
other-tags n (inr (inr (inr (inr (inl e))))) h k = omega arith
other-tags n (inr (inr (inr (inr (inr (inl e)))))) h k = omega arith
other-tags n (inr (inr (inr (inr (inr (inr e)))))) h k = omega arith

-- the faults on a ride are the verdicts 3 to 7
pub ride-fault : (v : Code.Verdict) → OneOf (2 ∷ 3 ∷ 4 ∷ 5 ∷ 6 ∷ []) (tag_of the_type v) → (3 ≤ number_in v) × (number_in v ≤ 7)
ride-fault v o = let b = five-tags (tag_of the_type v) o in (omega (arith, tagged v, b.0), omega (arith, tagged v, b.1))

pub no_other : (v : Code.Verdict) → OneOf (0 ∷ 1 ∷ 7 ∷ 8 ∷ 9 ∷ 10 ∷ 11 ∷ []) (tag_of the_type v) → (3 ≤ number_in v) × (number_in v ≤ 7) → ⊥
no_other v o h = other-tags (tag_of the_type v) o (omega (arith, tagged v, h.0)) (omega (arith, tagged v, h.1))
