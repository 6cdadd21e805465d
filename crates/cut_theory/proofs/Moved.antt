-- A call taken out of an array: those after it are moved down by one, one after the other. Assumes nothing.
use Prim.Native.Nat.{ℕ, zero, suc, ◌+◌, ◌-◌, ◌<◌, ◌≤◌}
use native.Mathlib.Numerals.{add-one}
use native.Mathlib.Omega.{arith}
use mathlib.Core.Path.{◌≡◌, refl, sym, ap, subst, ◌∙◌}
use mathlib.Core.Bool.{Bool, cond, ◌&&◌, and-false}
use mathlib.Core.List.{List, [], ◌∷◌}
use lib.ListN.{length, get_or, set, take}
use lib.Seq.{ext_get_or, get_or-take, get_or-set_same, get_or-set_other, length-take-le}
use lib.Dec.{ltb, leb, leb-suc-suc}
use borrow.Author.Tests.{lt-ltb, le-ltb, le-leb, lt-leb, leb-true, ltb-true, ltb-false}
use Rattle.basics.proofs.TestLaws.{by-test}
use Rattle.basics.specs.Lists.{without}
use Rattle.basics.proofs.ListLaws.{length_without}

-- m is the list l with the calls from `at` up to k moved down by one
abbrev pub Moved : List ℕ → ℕ → ℕ → List ℕ → Type 0
Moved l at k m = (i : ℕ) → get_or m i 0 ≡ cond (leb at i && ltb i k) (get_or l (suc i) 0) (get_or l i 0)

module _ {A : Type 0} where
  pub get_d-without : (k : ℕ) (l : List A) (i : ℕ) (d : A) → get_or (without k l) i d ≡ cond (ltb i k) (get_or l i d) (get_or l (suc i) d)
  get_d-without k [] i d = by-test (ltb i k) (λ t. rw t refl) (λ f. rw f refl)
  get_d-without zero (x ∷ l) i d = rw (le-ltb i 0 (omega arith)) refl
  get_d-without (suc k) (x ∷ l) zero d = rw (lt-ltb 0 (suc k) (omega arith)) refl
  get_d-without (suc k) (x ∷ l) (suc i) d = get_d-without k l i d ∙ ap (λ (b : Bool). cond b (get_or l i d) (get_or l (suc i) d)) (down i k)
    where
      down : (i k : ℕ) → ltb i k ≡ ltb (suc i) (suc k)
      down i k = sym (leb-suc-suc (suc i) k)

-- before the first move
pub moved_none : (l : List ℕ) (at : ℕ) → Moved l at at l
moved_none l at i =
    by-test (leb at i)
    (λ t. rw (t, le-ltb i at (leb-true at i t)) refl)
    (λ f. rw f refl)

-- one move more
pub moved_more : (l m : List ℕ) (at k : ℕ) → at ≤ k → k < length m → Moved l at k m → Moved l at (k + 1) (set m k (get_or m (k + 1) 0))
moved_more l m at k h b M i =
    by-test (ltb i k)
    (λ t. let o : i < k = ltb-true i k t in
    get_or-set_other m k i _ 0 (λ e. clash i o e) ∙ M i ∙ rw (t, lt-ltb i (k + 1) (omega arith)) refl)
    (λ f. by-test (ltb k i)
    (λ t. let o : k < i = ltb-true k i t in
    get_or-set_other m k i _ 0 (λ e. clash' i o e) ∙ M i ∙ rw (f, le-ltb i (k + 1) (omega arith)) refl)
    (λ g. let e : i ≡ k = same i (ltb-false i k f) (ltb-false k i g) in
    subst (λ (q : ℕ). get_or (set m k (get_or m (k + 1) 0)) q 0 ≡ cond (leb at q && ltb q (k + 1)) (get_or l (suc q) 0) (get_or l q 0)) (sym e) here))
  where
    clash : (i : ℕ) → i < k → i ≡ k → ⊥
    clash i a b = omega arith

    clash' : (i : ℕ) → k < i → i ≡ k → ⊥
    clash' i a b = omega arith

    same : (i : ℕ) → k ≤ i → i ≤ k → i ≡ k
    same i a b = omega arith

    here : get_or (set m k (get_or m (k + 1) 0)) k 0 ≡ cond (leb at k && ltb k (k + 1)) (get_or l (suc k) 0) (get_or l k 0)
    here =
        get_or-set_same m k (get_or m (k + 1) 0) 0 b
        ∙ M (k + 1)
        ∙ rw (le-ltb (k + 1) k (omega arith), and-false (leb at (k + 1)), le-leb at k h, lt-ltb k (k + 1) (omega arith)) (ap (λ (q : ℕ). get_or l q 0) (add-one k))

-- after the last one the call is out
pub moved_all : (l m : List ℕ) (at n k : ℕ) → at < n → n ≤ length l → length m ≡ length l → n ≤ k + 1 → Moved l at k m → take (n - 1) m ≡ without at (take n l)
moved_all l m at n k h b e z M =
    ext_get_or 0 (take (n - 1) m) (without at (take n l)) (lm ∙ sym lw) (λ i c. each i (subst (λ (q : ℕ). i < q) lm c))
  where
    lt' : length (take n l) ≡ n
    lt' = length-take-le n l b

    lm : length (take (n - 1) m) ≡ n - 1
    lm = length-take-le (n - 1) m (omega arith)

    lw : length (without at (take n l)) ≡ n - 1
    lw = omega (arith, lt', length_without at (take n l) (omega (arith, lt')))

    each : (i : ℕ) → i < n - 1 → get_or (take (n - 1) m) i 0 ≡ get_or (without at (take n l)) i 0
    each i c =
        get_or-take (n - 1) m i 0 c ∙ M i
        ∙ sym (get_d-without at (take n l) i 0 ∙ rw (get_or-take n l i 0 (omega arith), get_or-take n l (suc i) 0 (omega arith)) (pick i c))
      where
        pick : (i : ℕ) → i < n - 1 → cond (ltb i at) (get_or l i 0) (get_or l (suc i) 0) ≡ cond (leb at i && ltb i k) (get_or l (suc i) 0) (get_or l i 0)
        pick i c =
            by-test (ltb i at)
            (λ t. rw (t, lt-leb at i (ltb-true i at t)) refl)
            (λ f. rw (f, le-leb at i (ltb-false i at f), lt-ltb i k (omega arith)) refl)
