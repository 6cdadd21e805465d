-- What each contract says of a refusal, from the complete answer: the number, and that nothing is written. Assumes nothing.
use Prim.Native.Nat.{ℕ}
use mathlib.Core.Path.{◌≡◌, refl, sym, ap, subst, ◌∙◌}
use Rattle.std.specs.Prelude.{Option, None, Some}
use lib.Ieee.{Float}
use Rattle.definitions.specs.Sheet.{Sheet}
use Rattle.definitions.specs.Lent.{Lent, Call}
use Rattle.definitions.specs.Refusals.{refusal_of}
use Rattle.definitions.specs.Answers.{Answer, refused, gives, unless_refused, answer}
use Rattle.whole.specs.Value.{value}
use Rattle.planner.specs.Calls.{Refused, Untouched}

-- the number by which a complete answer refuses
abbrev pub number_of : {A : Type 0} → Answer A → Option ℕ
number_of (refused number) = Some number
number_of (gives x) = None

number_is : {A : Type 0} (o : Option ℕ) (x : A) → number_of (unless_refused o x) ≡ o
number_is (Some number) x = refl
number_is None x = refl

refused-by : {A : Type 0} (k : Call) (result : Sheet → A) (l : Lent Float) → number_of (answer value k result l) ≡ refusal_of value k l
unfolding answer
refused-by k result l = number_is (refusal_of value k l) _

-- of an answer that holds the complete one, and refuses by its number
module _ {A R : Type 0} (held : Answer A → R) (refusal : R → Option ℕ) (same : (a : Answer A) → refusal (held a) ≡ number_of a) where
  pub refuses : (k : Call) (result : Sheet → A) (l : Lent Float) {r : R} → r ≡ held (answer value k result l) → Refused k l (refusal r)
  refuses k result l is = ap refusal is ∙ same (answer value k result l) ∙ refused-by k result l

  -- the lists, with nothing written into them where it refuses
  pub leaves_all : {L : Type 0} (left : Answer A → L) (old : L) → ((number : ℕ) → left (refused number) ≡ old)
      → (a : Answer A) {r : R} {new : L} → r ≡ held a → new ≡ left a → Untouched (refusal r) old new
  leaves_all {L} left old nothing a is left_is =
      subst (λ (z : Option ℕ × L). Untouched z.0 old z.1) (λ i. (sym (ap refusal is ∙ same a) i, sym left_is i)) (by-case a)
    where
      by-case : (b : Answer A) → Untouched (number_of b) old (left b)
      by-case (refused number) = nothing number
      by-case (gives x) = tt
