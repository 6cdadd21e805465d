-- Sums over a list, one element at a time: what is left of it, on top of what is reckoned already. Assumes nothing.
use Prim.Native.Nat.{ℕ, zero, suc, ◌+◌, ◌*◌, ◌<◌, ◌≤◌}
use native.Mathlib.Nat.{add-zero}
use native.Mathlib.Numerals.{add-one}
use native.Mathlib.Omega.{arith}
use mathlib.Core.Path.{◌≡◌, refl, sym, ap, ◌∙◌}
use mathlib.Core.List.{List, [], ◌∷◌}
use lib.ListN.{length, get_or, take, drop, drop_of_length-le}
use lib.Seq.{drop-cons, drop-drop, get_or-take, get_or-drop}
use lib.Ieee as Ieee
use lib.Ieee.{Float, binary64, nan}
use Rattle.std.specs.List.{fold}
use Rattle.std.specs.Simd.{first_chunks}
use Rattle.whole.proofs.Bits.{fl-zero}
use Rattle.whole.specs.Larger.{larger_f}
use Rattle.improve_base.specs.Gain.{largest_f, largest_by_four_f}
use Rattle.improve_base.specs.Route.{home_f, route_distance_f}

-- ---- the largest distance

pub largest-fold : (most : Float) (l : List Float) → largest_f most l ≡ fold larger_f most l
unfolding largest_f
largest-fold most [] = refl
largest-fold most (x ∷ l) = largest-fold (larger_f most x) l

-- number k, with what is behind it
next-drop : (distances : List Float) (k j : ℕ) → j ≡ suc k → k < length distances → drop k distances ≡ get_or distances k nan ∷ drop j distances
next-drop distances k j e h = rw e (drop-cons distances k nan h)

-- four at a time
module _ (distances : List Float) (a b c d : Float) where
  four-turn : (e f g h : Float) (k : ℕ) → k + 3 < length distances
      → e ≡ larger_f a (get_or distances k nan) → f ≡ larger_f b (get_or distances (k + 1) nan) → g ≡ larger_f c (get_or distances (k + 2) nan) → h ≡ larger_f d (get_or distances (k + 3) nan)
      → largest_by_four_f a b c d (drop k distances) ≡ largest_by_four_f e f g h (drop (k + 4) distances)
  unfolding largest_by_four_f
  four-turn e f g h k few ee ef eg eh =
      rw (
        next-drop distances k (k + 1) (omega arith) (omega arith),
        next-drop distances (k + 1) (k + 2) (omega arith) (omega arith),
        next-drop distances (k + 2) (k + 3) (omega arith) (omega arith),
        next-drop distances (k + 3) (k + 4) (omega arith) few,
        ee,
        ef,
        eg,
        eh,
      )

  pub four-end : (l : List Float) → length l ≤ 3 → largest_by_four_f a b c d l ≡ largest_f (larger_f (larger_f a b) (larger_f c d)) l
  unfolding largest_by_four_f largest_f
  four-end [] h = refl
  four-end (w ∷ []) h = refl
  four-end (w ∷ x ∷ []) h = refl
  four-end (w ∷ x ∷ y ∷ []) h = refl
  four-end (w ∷ x ∷ y ∷ z ∷ l) h = absurd (clash h)
    where
      clash : length (w ∷ x ∷ y ∷ z ∷ l) ≤ 3 → ⊥
      clash e = omega arith

-- the table cut into fours
four-at : (distances : List Float) (count k : ℕ) → k < count → get_or (first_chunks 4 count distances) k [] ≡ take 4 (drop (k * 4) distances)
four-at distances zero k h = absurd (omega arith)
four-at distances (suc count) zero h = refl
four-at distances (suc count) (suc k) h =
    let e : 4 + k * 4 ≡ suc k * 4 = omega arith in
    four-at (drop 4 distances) count k (omega arith) ∙ ap (take 4) (drop-drop (k * 4) 4 distances ∙ ap (λ (n : ℕ). drop n distances) e)

module _ (distances : List Float) (fours : List (List Float)) (count : ℕ) (cut : fours ≡ first_chunks 4 count distances) (fits : count * 4 ≤ length distances) (k : ℕ) (h : k < count) where
  four-read : (j : ℕ) → j < 4 → get_or (get_or fours k []) j nan ≡ get_or distances (k * 4 + j) nan
  four-read j b =
      ap (λ (l : List Float). get_or l j nan) (ap (λ (l : List (List Float)). get_or l k []) cut ∙ four-at distances count k h)
      ∙ get_or-take 4 (drop (k * 4) distances) j nan b
      ∙ get_or-drop (k * 4) distances j nan

  pub four-more : (a b c d e f g i : Float)
      → e ≡ larger_f a (get_or (get_or fours k []) 0 nan) → f ≡ larger_f b (get_or (get_or fours k []) 1 nan)
      → g ≡ larger_f c (get_or (get_or fours k []) 2 nan) → i ≡ larger_f d (get_or (get_or fours k []) 3 nan)
      → largest_by_four_f a b c d (drop (k * 4) distances) ≡ largest_by_four_f e f g i (drop ((k + 1) * 4) distances)
  four-more a b c d e f g i ee ef eg ei =
      let next : k * 4 + 4 ≡ (k + 1) * 4 = omega arith in
      let first = four-read 0 (omega arith) ∙ ap (λ (n : ℕ). get_or distances n nan) (add-zero (k * 4)) in
      four-turn distances a b c d e f g i (k * 4) (omega arith)
      (ee ∙ ap (larger_f a) first)
      (ef ∙ ap (larger_f b) (four-read 1 (omega arith)))
      (eg ∙ ap (larger_f c) (four-read 2 (omega arith)))
      (ei ∙ ap (larger_f d) (four-read 3 (omega arith)))
      ∙ ap (λ (n : ℕ). largest_by_four_f e f g i (drop n distances)) next

module _ (leg : ℕ → ℕ → Float) where
  -- ---- the distance of a run

  module _ (route : List ℕ) (far : Float) (prev k : ℕ) where
    pub home-turn : (next : Float) → k < length route → next ≡ leg prev (get_or route k 0)
        → home_f leg far prev (drop k route) ≡ home_f leg (Ieee.add binary64 far next) (get_or route k 0) (drop (k + 1) route)
    unfolding home_f
    home-turn next h e = rw (e, add-one k, drop-cons route k 0 h)

    pub home-end : length route ≤ k → home_f leg far prev (drop k route) ≡ Ieee.add binary64 far (leg prev 0)
    unfolding home_f
    home-end h = rw (drop_of_length-le route h)

  pub distance_none : (route : List ℕ) → length route ≡ 0 → Ieee.of_bits binary64 0 ≡ route_distance_f leg route
  unfolding route_distance_f
  distance_none [] h = sym fl-zero
  distance_none (c ∷ cs) h = absurd (clash h)
    where
      clash : length (c ∷ cs) ≡ 0 → ⊥
      clash e = omega arith

  pub distance_some : (route : List ℕ) (first : Float) → (length route ≡ 0 → ⊥) → first ≡ leg 0 (get_or route 0 0) → home_f leg first (get_or route 0 0) (drop 1 route) ≡ route_distance_f leg route
  unfolding route_distance_f
  distance_some [] first h e = absurd (h refl)
  distance_some (c ∷ cs) first h e = rw e
