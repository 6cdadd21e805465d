-- Reading along a recorded text: where words stand, where they do not, and that all of it was read. Assumes nothing.
use Prim.Native.Nat.{ℕ, ◌+◌, ◌-◌, ◌≤◌, ◌<◌, min}
use native.Mathlib.Omega.{arith}
use native.Mathlib.Nat.{min-le_right}
use mathlib.Core.Path.{◌≡◌, refl, sym, ap, ◌∙◌}
use mathlib.Core.Bool.{Bool, true, false, false≢true}
use mathlib.Core.List.{List, [], ◌∷◌, ◌++◌}
use lib.ListN.{length, take, drop, get_or, length-take, length-drop, drop_of_length-le}
use borrow.Author.Tests.{leb-true, le-leb}
use Rattle.std.proofs.lemmas.List.{take_min}
use Rattle.basics.proofs.TestLaws.{by-test, both}
use Rattle.listing_lines.proofs.Pieces.{next-left}
use Rattle.test_runs.specs.Along.{unlike, says, follow, follows}
use Rattle.test_runs.specs.Words.{Words, each}
use Rattle.test_runs.proofs.Same.{same-itself, same-is}

-- words and others behind them
pub follows_both : (recorded : List ℕ) (at : ℕ) (ws vs : Words) → follows recorded at (ws ++ vs) ≡ follows recorded (follows recorded at ws) vs
unfolding follows
follows_both recorded at [] vs = refl
follows_both recorded at (w ∷ ws) vs = follows_both recorded (follow recorded at w) ws vs

-- places that are reached one after the other
module _ (recorded : List ℕ) (at : ℕ) where
  pub headed : (w : List ℕ) (ws : Words) {a r : ℕ} → a ≡ follow recorded at w → r ≡ follows recorded a ws → r ≡ follows recorded at (w ∷ ws)
  unfolding follows
  headed w ws e h = h ∙ ap (λ (n : ℕ). follows recorded n ws) e

  pub joined : (ws vs : Words) {a r : ℕ} → a ≡ follows recorded at ws → r ≡ follows recorded a vs → r ≡ follows recorded at (ws ++ vs)
  joined ws vs e h = h ∙ ap (λ (n : ℕ). follows recorded n vs) e ∙ sym (follows_both recorded at ws vs)

  pub lasted : (ws : Words) (w : List ℕ) {a r : ℕ} → a ≡ follows recorded at ws → r ≡ follow recorded a w → r ≡ follows recorded at (ws ++ (w ∷ []))
  unfolding follows
  lasted ws w e h = joined ws (w ∷ []) e h

  -- no word more
  pub done : (ws : Words) {r : ℕ} → r ≡ follows recorded at ws → r ≡ follows recorded at (ws ++ [])
  unfolding follows
  done ws e = joined ws [] e refl

-- the words of each element, from number k on
module _ {A : Type 0} (recorded : List ℕ) (f : A → Words) (l : List A) where
  -- where an element is left, its words come next
  pub each_more : (at k : ℕ) (d : A) → k < length l
      → follows recorded at (each f (drop k l)) ≡ follows recorded (follows recorded at (f (get_or l k d))) (each f (drop (k + 1) l))
  unfolding each
  each_more at k d h = ap (λ (m : List A). follows recorded at (each f m)) (next-left l k d h) ∙ follows_both recorded at (f (get_or l k d)) (each f (drop (k + 1) l))

  -- where none is left, the place stays
  pub each-done : (at k : ℕ) → length l ≤ k → follows recorded at (each f (drop k l)) ≡ at
  unfolding follows each
  each-done at k h = rw (drop_of_length-le l {i = k} h) refl

module _ (recorded : List ℕ) (at : ℕ) (text : List ℕ) where
  -- what stands there
  abbrev there : List ℕ
  there = take (length text) (drop at recorded)

  pub there-short : length there ≤ length recorded - at
  there-short = rw (length-take (length text) (drop at recorded), length-drop at recorded) (min-le_right (length text) (length recorded - at))

  pub says_is : says recorded at text ≡ true → (at ≤ length recorded) × (there ≡ text)
  unfolding says
  says_is h = let b = both _ _ h in (leb-true at (length recorded) b.0, same-is there text b.1)

  pub said : at ≤ length recorded → there ≡ text → at + length text ≡ follow recorded at text
  unfolding follow says
  said h e = rw (le-leb at (length recorded) h, e, same-itself text) refl

  pub unsaid : (at ≤ length recorded → there ≡ text → ⊥) → unlike ≡ follow recorded at text
  unfolding follow
  unsaid n = by-test (says recorded at text) (λ t. let b = says_is t in absurd (n b.0 b.1)) (λ t. rw t refl)

  pub beyond : length recorded < at → unlike ≡ follow recorded at text
  beyond h = unsaid (λ l e. omega arith)

  pub too_long : length recorded < at + length text → unlike ≡ follow recorded at text
  too_long h = unsaid (λ l e. omega (arith, there-short, ap length e))

  -- by a comparison of n bytes
  module _ {n : ℕ} (e : n ≡ length text) (r : Bool) (h : (r ≡ true → take n (drop at recorded) ≡ text) × (take n (drop at recorded) ≡ text → r ≡ true)) where
    pub is-there : at ≤ length recorded → r ≡ true → at + length text ≡ follow recorded at text
    is-there l t = said l (ap (λ (m : ℕ). take m (drop at recorded)) (sym e) ∙ h.0 t)

    pub is-not-there : r ≡ false → unlike ≡ follow recorded at text
    is-not-there t = unsaid (λ l q. false≢true (sym t ∙ h.1 (ap (λ (m : ℕ). take m (drop at recorded)) e ∙ q)))

-- the words of the first elements of an array, of which there are n: behind the last of them
pub first_done : {A : Type 0} (recorded : List ℕ) (f : A → Words) (count : ℕ) (xs : List A) (at end k n : ℕ) → n ≡ min count (length xs) → length (take n xs) ≤ k
    → follows recorded end (each f (drop k (take n xs))) ≡ follows recorded at (each f (take n xs)) → end ≡ follows recorded at (each f (take count xs))
first_done recorded f count xs at end k n few h e =
    sym (each-done recorded f (take n xs) end k h) ∙ e
    ∙ ap (λ l. follows recorded at (each f l)) (ap (λ m. take m xs) few ∙ take_min count xs)
