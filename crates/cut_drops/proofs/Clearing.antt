-- Cells cleared one after the other. Assumes nothing.
use Prim.Native.Nat.{ℕ, ◌+◌, ◌<◌, ◌≤◌}
use native.Mathlib.Omega.{arith}
use mathlib.Core.Path.{◌≡◌, refl, sym, subst, ◌∙◌}
use mathlib.Core.List.{List}
use lib.ListN.{length, get_or, set, length-set}
use lib.Seq.{get_or-set_same, get_or-set_other}
use lib.Dec.{eqb}
use borrow.Author.Tests.{eqb-true, eqb-false}
use Rattle.basics.proofs.TestLaws.{by-test}
use Rattle.cut_theory.specs.Tab.{cells}
use Rattle.cut_drops.specs.Refill.{Cleared}

-- the cells from `from` up to, and not with, k are cleared
pub record Clearing {A : Type 0} (from k : ℕ) (v d : A) (l₀ l : List A) : Type 0 where
  pub long : length l ≡ cells
  pub before : (j : ℕ) → j < from → get_or l j d ≡ get_or l₀ j d
  pub behind : (j : ℕ) → from ≤ j → j < k → get_or l j d ≡ v

module _ {A : Type 0} (from : ℕ) (v d : A) (l₀ : List A) where
  pub none-cleared : length l₀ ≡ cells → Clearing from from v d l₀ l₀
  none-cleared e = record { long = e; before = λ j h. refl; behind = λ j a b. absurd (clash j a b) }
    where
      clash : (j : ℕ) → from ≤ j → j < from → ⊥
      clash j a b = omega arith

  pub one-cleared : (k : ℕ) (l : List A) → Clearing from k v d l₀ l → from ≤ k → k < cells → (w : A) → w ≡ v
      → Clearing from (k + 1) v d l₀ (set l k w)
  one-cleared k l C h b w e =
      record {
        long = length-set l k w ∙ C.long;
        before = λ j a. get_or-set_other l k j w d (below j a) ∙ C.before j a;
        behind =
            λ j a c.
            by-test (eqb j k) (λ t. here j (eqb-true j k t))
            (λ f. get_or-set_other l k j w d (eqb-false j k f) ∙ C.behind j a (left j c (eqb-false j k f)));
      }
    where
      below : (j : ℕ) → j < from → j ≡ k → ⊥
      below j a x = omega arith

      left : (j : ℕ) → j < k + 1 → (j ≡ k → ⊥) → j < k
      left j c n = omega arith

      here : (j : ℕ) → j ≡ k → get_or (set l k w) j d ≡ v
      here j x = subst (λ (m : ℕ). get_or (set l k w) m d ≡ v) (sym x) (get_or-set_same l k w d (omega (arith, C.long)) ∙ e)

  pub all-cleared : (k : ℕ) (l : List A) → Clearing from k v d l₀ l → cells ≤ k → Cleared from v d l₀ l
  all-cleared k l C h = record { long = C.long; before = C.before; behind = λ j a b. C.behind j a (omega arith) }
