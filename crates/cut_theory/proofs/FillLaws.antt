-- An array that is filled cell by cell, as a loop leaves it: before the first cell, by one cell more, and when all is done. Assumes nothing.
use Prim.Native.Nat.{ℕ, suc, ◌<◌, ◌≤◌}
use native.Mathlib.Nat.{le_refl}
use native.Mathlib.Omega.{arith}
use mathlib.Core.Path.{◌≡◌, refl, sym, subst, ◌∙◌}
use mathlib.Core.Bool.{Bool, true, false, cond}
use mathlib.Core.List.{List}
use lib.ListN.{length, get_or, set, length-set}
use lib.Seq.{get_or-set_same, get_or-set_other}
use lib.Dec.{leb}
use borrow.Author.Tests.{le-leb, lt-leb, leb-true, leb-false}
use Rattle.basics.proofs.TestLaws.{by-test}
use Rattle.cut_theory.specs.Tab.{tab}
use Rattle.cut_theory.proofs.TabLaws.{tab-of, length-tab, get_d-tab}
use Rattle.cut_theory.specs.Fill.{Fill, filled, up_to}

by_order : {B : Type 0} (j k : ℕ) → (k ≤ j → B) → (j < k → B) → B
by_order j k l h = by-test (leb k j) (λ t. l (leb-true k j t)) (λ f. h (leb-false k j f))

module _ {A : Type 0} (F : Fill A) where
  at_low : (j k : ℕ) → k ≤ j → up_to F j k ≡ filled F k
  at_low j k h = rw (le-leb k j h) refl

  pub at_high : (j k : ℕ) → j < k → up_to F j k ≡ F.old k
  at_high j k h = rw (lt-leb k j h) refl

  not-won : (k : ℕ) → F.wins k ≡ false → filled F k ≡ F.old k
  not-won k e = rw e refl

  -- nothing is put up to i: the array as it came
  pub begun : (n i : ℕ) (d : A) (l : List A) → length l ≡ n → ((k : ℕ) → get_or l k d ≡ F.old k) → ((k : ℕ) → k ≤ i → F.wins k ≡ false) → l ≡ tab (up_to F i) n
  begun n i d l e o z =
      tab-of (up_to F i) n d l e
      (λ k _. by_order i k (λ h. o k ∙ sym (at_low i k h ∙ not-won k (z k h))) (λ h. o k ∙ sym (at_high i k h)))

  -- nothing is put past j: all is done
  pub ended : (n j : ℕ) → ((k : ℕ) → j < k → F.wins k ≡ false) → tab (up_to F j) n ≡ tab (filled F) n
  ended n j z =
      tab-of (filled F) n (F.old 0) (tab (up_to F j) n) (length-tab (up_to F j) n)
      (λ k b. get_d-tab (up_to F j) n k (F.old 0) b ∙ by_order j k (λ h. at_low j k h) (λ h. at_high j k h ∙ sym (not-won k (z k h))))

  -- nothing is put at all: the array as it came is done
  pub untouched : (n : ℕ) (d : A) (l : List A) → length l ≡ n → ((k : ℕ) → get_or l k d ≡ F.old k) → ((k : ℕ) → F.wins k ≡ false) → l ≡ tab (filled F) n
  untouched n d l e o z = tab-of (filled F) n d l e (λ k _. o k ∙ sym (not-won k (z k)))

  -- one cell more, by the test b
  pub one_more : (n j k : ℕ) (b : Bool) (v : A) → k ≡ suc j → k < n → F.wins k ≡ b → (b ≡ true → F.new k ≡ v)
      → cond b (set (tab (up_to F j) n) k v) (tab (up_to F j) n) ≡ tab (up_to F k) n
  one_more n j k b v e h t g = go b t g
    where
      l : List A
      l = tab (up_to F j) n

      other : (q : ℕ) → (q ≡ k → ⊥) → up_to F j q ≡ up_to F k q
      other q f = by_order j q (λ x. at_low j q x ∙ sym (at_low k q (up q x))) (λ x. at_high j q x ∙ sym (at_high k q (over q x f)))
        where
          up : (q : ℕ) → q ≤ j → q ≤ k
          up q x = omega arith

          over : (q : ℕ) → j < q → (q ≡ k → ⊥) → k < q
          over q x f = omega arith

      here-or : {B : Type 0} (q : ℕ) → (q ≡ k → B) → ((q ≡ k → ⊥) → B) → B
      here-or q s d = by_order q k (λ x. by_order k q (λ y. s (omega arith)) (λ y. d (omega arith))) (λ x. d (omega arith))

      go : (b : Bool) → F.wins k ≡ b → (b ≡ true → F.new k ≡ v) → cond b (set l k v) l ≡ tab (up_to F k) n
      go true t g =
          tab-of (up_to F k) n v (set l k v) (length-set l k v ∙ length-tab (up_to F j) n)
          (λ q b. here-or q (λ x. same q x) (λ x. get_or-set_other l k q v v x ∙ get_d-tab (up_to F j) n q v b ∙ other q x))
        where
          same : (q : ℕ) → q ≡ k → get_or (set l k v) q v ≡ up_to F k q
          same q x =
              subst (λ (r : ℕ). get_or (set l k v) r v ≡ up_to F k r) (sym x)
              (get_or-set_same l k v v (subst (λ (r : ℕ). k < r) (sym (length-tab (up_to F j) n)) h) ∙ sym (at_low k k (le_refl k) ∙ rw t (g refl)))
      go false t g =
          tab-of (up_to F k) n (F.old 0) l (length-tab (up_to F j) n)
          (λ q b. get_d-tab (up_to F j) n q (F.old 0) b ∙ here-or q (λ x. same q x) (λ x. other q x))
        where
          same : (q : ℕ) → q ≡ k → up_to F j q ≡ up_to F k q
          same q x =
              subst (λ (r : ℕ). up_to F j r ≡ up_to F k r) (sym x)
              (at_high j k (omega arith) ∙ sym (at_low k k (le_refl k) ∙ not-won k t))
