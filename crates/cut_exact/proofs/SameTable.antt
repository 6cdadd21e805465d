-- Two ways to reckon costs, of which the one is the image of the other: the tables are the same, and so is what is carried along them. Assumes nothing.
use Prim.Native.Nat.{ℕ, zero, suc, ◌<◌, ◌≤◌}
use native.Mathlib.Nat.{le_refl, le_trans, le_of_lt}
use mathlib.Core.Path.{◌≡◌, refl, ap, ap₂, ◌∙◌}
use mathlib.Core.Bool.{true}
use lib.Dec.{ltb}
use borrow.Author.Tests.{ltb-true}
use Rattle.basics.proofs.TestLaws.{by-test, both}
use Rattle.cut_theory.specs.Cut.{Rule, puts, first, cost, best, cand}
use Rattle.cut_theory.specs.Carried.{Carry, carried, carried_to}

-- T is the image of S by φ, for the first n calls and costs that may stand there
pub record Same {C D : Type 0} (S : Rule C) (T : Rule D) (φ : C → D) (Good : ℕ → C → Type 0) (n : ℕ) : Type 0 where
  pub start-same : T.start ≡ φ S.start
  pub top-same : T.top ≡ φ S.top
  pub start-good : Good 0 S.start
  pub top-good : (j : ℕ) → Good j S.top
  pub step-good : (a : C) (i j : ℕ) → i < j → j ≤ n → Good i a → Good j (S.step a i j)
  pub step_same : (a : C) (i j : ℕ) → i < j → j ≤ n → Good i a → T.step (φ a) i j ≡ φ (S.step a i j)
  pub lower-same : (a b : C) (j : ℕ) → j ≤ n → Good j a → Good j b → T.lower (φ a) (φ b) ≡ S.lower a b

-- what is carried beside T is the image of the costs of S by ψ
pub record SameCarry {C E : Type 0} (S : Rule C) (K : Carry E) (ψ : C → E) (Good : ℕ → C → Type 0) (n : ℕ) : Type 0 where
  pub from_start : K.start ≡ ψ S.start
  pub from-top : K.start ≡ ψ S.top
  pub carry_same : (a b : C) (i j : ℕ) → i < j → j ≤ n → Good i a → S.lower (S.step a i j) b ≡ true → K.step (ψ a) i j ≡ ψ (S.step a i j)

module _ {C D : Type 0} (S : Rule C) (T : Rule D) (φ : C → D) (Good : ℕ → C → Type 0) (n : ℕ) (H : Same S T φ Good n) where
  -- what is known of a cell
  record Cell (i j : ℕ) : Type 0 where
    good : Good j (cost S i j)
    same : cost T i j ≡ φ (cost S i j)

  module _ (i j : ℕ) (b : j ≤ n) (start : i < j → Cell i i) (here : Cell i j) where
    cand-same : i < j → cand T i j ≡ φ (cand S i j)
    cand-same h = ap (λ (x : D). T.step x i j) (start h).same ∙ H.step_same (cost S i i) i j h b (start h).good

    puts-same : puts T i j (cand T i j) (cost T i j) ≡ puts S i j (cand S i j) (cost S i j)
    puts-same =
        by-test (ltb i j)
        (λ t. let h = ltb-true i j t in
        rw t (ap₂ (λ (x y : D). T.lower x y) (cand-same h) here.same ∙ H.lower-same (cand S i j) (cost S i j) j b (H.step-good (cost S i i) i j h b (start h).good) here.good))
        (λ f. rw f refl)

    -- the row's test passes in both, or in neither
    next : Cell (suc i) j
    unfolding cost
    next =
        by-test (puts S i j (cand S i j) (cost S i j))
        (λ t. let h = ltb-true i j (both (ltb i j) _ t).0 in
        record { good = rw t (H.step-good (cost S i i) i j h b (start h).good); same = rw (puts-same, t) (cand-same h) })
        (λ f. record { good = rw f here.good; same = rw (puts-same, f) here.same })

  cells_same : (i j : ℕ) → j ≤ n → Cell i j
  unfolding cost first
  cells_same zero zero b = record { good = H.start-good; same = H.start-same }
  cells_same zero (suc j) b = record { good = H.top-good (suc j); same = H.top-same }
  cells_same (suc i) j b = next i j b (λ h. cells_same i i (le_trans (le_of_lt h) b)) (cells_same i j b)

  pub best-same : (j : ℕ) → j ≤ n → best T j ≡ φ (best S j)
  best-same j h = (cells_same j j h).same

  -- ---- what is carried

  module _ {E : Type 0} (K : Carry E) (ψ : C → E) (G : SameCarry S K ψ Good n) where
    carried_same : (i j : ℕ) → j ≤ n → carried T K i j ≡ ψ (cost S i j)
    unfolding cost first carried
    carried_same zero zero b = G.from_start
    carried_same zero (suc j) b = G.from-top
    carried_same (suc i) j b =
        by-test (puts S i j (cand S i j) (cost S i j))
        (λ t. let h = both (ltb i j) _ t in
        let o = ltb-true i j h.0 in
        let z = le_trans (le_of_lt o) b in
        rw (puts-same i j b (λ k. cells_same i i (le_trans (le_of_lt k) b)) (cells_same i j b), t)
        (ap (λ (d : E). K.step d i j) (carried_same i i z) ∙ G.carry_same (cost S i i) (cost S i j) i j o b (cells_same i i z).good h.1))
        (λ f. rw (puts-same i j b (λ k. cells_same i i (le_trans (le_of_lt k) b)) (cells_same i j b), f) (carried_same i j b))

    pub carried-to-same : carried_to T K n ≡ ψ (best S n)
    carried-to-same = carried_same n n (le_refl n)
