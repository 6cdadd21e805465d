-- The legs of a stretch that is turned, one at a time: what is left of them, on top of what is reckoned already. Assumes nothing.
use Prim.Native.Nat.{ℕ, zero, suc, ◌-◌, ◌<◌, ◌≤◌}
use native.Mathlib.Nat.{not-suc-le-zero, le_of_suc-le-suc}
use native.Mathlib.Omega.{arith}
use mathlib.Core.Path.{◌≡◌, refl, sym, ap, ap₂, ◌∙◌}
use mathlib.Core.Bool.{Bool, true, false}
use mathlib.Core.List.{List, [], ◌∷◌}
use lib.ListN.{length, get_or, take, drop, length-drop}
use lib.Seq.{get_or-drop}
use lib.Ieee as Ieee
use lib.Ieee.{Float, binary64}
use Rattle.whole.specs.Whole.{fl}
use Rattle.two_opt.specs.Delta.{turned_legs_f, reversal_delta_f}

-- what is left, pair by pair
module _ (leg : ℕ → ℕ → Float) where
  pub turned-legs-turn : (sum : Float) (rest pair next : List ℕ) (back there : Float) → 2 ≤ length rest → pair ≡ take 2 rest → next ≡ drop 1 rest
      → back ≡ leg (get_or pair 1 0) (get_or pair 0 0) → there ≡ leg (get_or pair 0 0) (get_or pair 1 0)
      → turned_legs_f leg sum (get_or rest 0 0) (drop 1 rest) ≡ turned_legs_f leg (Ieee.add binary64 sum (Ieee.sub binary64 back there)) (get_or next 0 0) (drop 1 next)
  unfolding turned_legs_f
  turned-legs-turn sum [] pair next back there h p n b t = absurd (omega arith)
  turned-legs-turn sum (x ∷ []) pair next back there h p n b t = absurd (omega arith)
  turned-legs-turn sum (x ∷ y ∷ l) pair next back there h p n b t = rw (n, b, t, p)

  pub turned-legs-end : (sum : Float) (rest : List ℕ) → length rest < 2 → turned_legs_f leg sum (get_or rest 0 0) (drop 1 rest) ≡ sum
  unfolding turned_legs_f
  turned-legs-end sum [] h = refl
  turned-legs-end sum (x ∷ []) h = refl
  turned-legs-end sum (x ∷ y ∷ l) h = absurd (omega arith)

-- ---- a call more at the end

module _ (leg : ℕ → ℕ → Float) where
  -- what the leg from a to b, turned, changes
  abbrev turned_leg : ℕ → ℕ → Float
  turned_leg a b = Ieee.sub binary64 (leg b a) (leg a b)

  legs-one-more : (sum : Float) (a : ℕ) (xs : List ℕ) (n : ℕ) → n < length xs
      → Ieee.add binary64 (turned_legs_f leg sum a (take n xs)) (turned_leg (get_or (a ∷ xs) n 0) (get_or xs n 0)) ≡ turned_legs_f leg sum a (take (suc n) xs)
  unfolding turned_legs_f
  legs-one-more sum a [] n h = absurd (not-suc-le-zero h)
  legs-one-more sum a (c ∷ cs) zero h = refl
  legs-one-more sum a (c ∷ cs) (suc n) h = legs-one-more (Ieee.add binary64 sum (turned_leg a c)) c cs n (le_of_suc-le-suc h)

  -- where the distances are symmetric, no stretch changes
  pub none-turned : (symmetric : Bool) (x y : List ℕ) → symmetric ≡ true → reversal_delta_f leg symmetric x ≡ reversal_delta_f leg symmetric y
  unfolding reversal_delta_f
  none-turned symmetric x y e = rw e

  pub one_more : (symmetric : Bool) (segment : List ℕ) (n : ℕ) (back there : Float) → symmetric ≡ false → 0 < n → n < length segment
      → back ≡ leg (get_or segment n 0) (get_or segment (n - 1) 0) → there ≡ leg (get_or segment (n - 1) 0) (get_or segment n 0)
      → Ieee.add binary64 (reversal_delta_f leg symmetric (take n segment)) (Ieee.sub binary64 back there) ≡ reversal_delta_f leg symmetric (take (suc n) segment)
  unfolding reversal_delta_f
  one_more symmetric [] n back there s z h b t = absurd (not-suc-le-zero h)
  one_more symmetric (x ∷ xs) zero back there s z h b t = absurd (not-suc-le-zero z)
  one_more symmetric (x ∷ xs) (suc n) back there s z h b t =
      let e : suc n - 1 ≡ n = omega arith in
      rw (s, b, t, e) (legs-one-more (fl 0) x xs n (le_of_suc-le-suc h))

  -- the same inside a run
  pub one-more-at : (symmetric : Bool) (route : List ℕ) (i j : ℕ) (turned back there : Float) → symmetric ≡ false → i < j → j < length route
      → turned ≡ reversal_delta_f leg symmetric (take (j - i) (drop i route))
      → back ≡ leg (get_or route j 0) (get_or route (j - 1) 0) → there ≡ leg (get_or route (j - 1) 0) (get_or route j 0)
      → Ieee.add binary64 turned (Ieee.sub binary64 back there) ≡ reversal_delta_f leg symmetric (take (suc j - i) (drop i route))
  one-more-at symmetric route i j turned back there s h l t b w =
      let last : get_or (drop i route) (j - i) 0 ≡ get_or route j 0 = get_or-drop i route (j - i) 0 ∙ ap (λ (k : ℕ). get_or route k 0) (omega arith) in
      let before : get_or (drop i route) (j - i - 1) 0 ≡ get_or route (j - 1) 0 = get_or-drop i route (j - i - 1) 0 ∙ ap (λ (k : ℕ). get_or route k 0) (omega arith) in
      let e : suc j - i ≡ suc (j - i) = omega arith in
      rw (t, e)
      (one_more symmetric (drop i route) (j - i) back there s (omega arith) (omega (arith, length-drop i route))
      (b ∙ sym (ap₂ (λ (x y : ℕ). leg x y) last before)) (w ∙ sym (ap₂ (λ (x y : ℕ). leg x y) before last)))
