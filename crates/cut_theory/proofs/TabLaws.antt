-- A list by its elements: how long it is, what it holds, and that it is the only list that holds that. Assumes nothing.
use Prim.Native.Nat.{ℕ, zero, suc, ◌+◌, ◌<◌}
use native.Mathlib.Nat.{not-suc-le-zero, add-zero, zero-add}
use native.Mathlib.Omega.{arith}
use mathlib.Core.Path.{◌≡◌, refl, sym, ap, subst, ◌∙◌}
use mathlib.Core.List.{List}
use lib.ListN.{length, get_or}
use lib.Seq.{ext_get_or}
use Rattle.cut_theory.specs.Tab.{tab_from, tab}

module _ {A : Type 0} where
  length-tab_from : (f : ℕ → A) (i n : ℕ) → length (tab_from f i n) ≡ n
  unfolding tab_from
  length-tab_from f i zero = refl
  length-tab_from f i (suc n) = ap suc (length-tab_from f (suc i) n)

  get_d-tab_from : (f : ℕ → A) (i n k : ℕ) (d : A) → k < n → get_or (tab_from f i n) k d ≡ f (i + k)
  unfolding tab_from
  get_d-tab_from f i zero k d h = absurd (not-suc-le-zero h)
  get_d-tab_from f i (suc n) zero d h = ap f (sym (add-zero i))
  get_d-tab_from f i (suc n) (suc k) d h = get_d-tab_from f (suc i) n k d (omega arith) ∙ ap f (shift i k)
    where
      shift : (i k : ℕ) → suc i + k ≡ i + suc k
      shift i k = omega arith

  pub length-tab : (f : ℕ → A) (n : ℕ) → length (tab f n) ≡ n
  length-tab f n = length-tab_from f 0 n

  pub get_d-tab : (f : ℕ → A) (n k : ℕ) (d : A) → k < n → get_or (tab f n) k d ≡ f k
  get_d-tab f n k d h = get_d-tab_from f 0 n k d h ∙ ap f (zero-add k)

  pub tab-of : (f : ℕ → A) (n : ℕ) (d : A) (l : List A) → length l ≡ n → ((k : ℕ) → k < n → get_or l k d ≡ f k) → l ≡ tab f n
  tab-of f n d l e h =
      ext_get_or d l (tab f n) (e ∙ sym (length-tab f n)) (λ k b. let c : k < n = subst (λ (m : ℕ). k < m) e b in h k c ∙ sym (get_d-tab f n k d c))
