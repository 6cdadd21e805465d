-- The first that passes in a stable sort by a rising key is the first least of those that pass, which is found in one pass, from the first to the last. Assumes nothing.
use Prim.Native.Nat.{ℕ, ◌<◌, ◌≤◌}
use native.Mathlib.Omega.{arith}
use mathlib.Core.Path.{◌≡◌, refl, sym, ap, ◌∙◌}
use mathlib.Core.Bool.{Bool, true, false, cond, false≢true}
use mathlib.Core.List.{List, [], ◌∷◌}
use Rattle.std.specs.Prelude.{Option, None, Some}
use lib.Dec.{leb}
use borrow.Author.Tests.{leb-true, leb-false, le-leb, lt-leb}
use Rattle.basics.proofs.TestLaws.{by-test}
use Rattle.basics.specs.Lists.{All}
use Rattle.basics.specs.Options.{Holds, given}
use Rattle.basics.proofs.ListLaws.{all-imp}
use Rattle.basics.proofs.OptionLaws.{same, clash}
use Rattle.definitions.specs.Sort.{rising, insert, sort}
use Rattle.theorems.proofs.SortLaws.{Rises, sort-rises}

module _ {A : Type 0} (key : A → ℕ) where
  -- the lesser of two, the first among equals
  abbrev pub lesser : Option A → Option A → Option A
  lesser None r = r
  lesser (Some x) None = Some x
  lesser (Some x) (Some y) = cond (leb (key x) (key y)) (Some x) (Some y)

  pub lesser-none : (o : Option A) → lesser o None ≡ o
  lesser-none None = refl
  lesser-none (Some x) = refl

  pub lesser-assoc : (a b c : Option A) → lesser (lesser a b) c ≡ lesser a (lesser b c)
  lesser-assoc None b c = refl
  lesser-assoc (Some x) None c = refl
  lesser-assoc (Some x) (Some y) None = lesser-none (lesser (Some x) (Some y))
  lesser-assoc (Some x) (Some y) (Some z) =
      by-test (leb (key x) (key y))
      (λ t.
      by-test (leb (key y) (key z))
      (λ u. (let w = le-leb (key x) (key z) (omega (arith, leb-true (key x) (key y) t, leb-true (key y) (key z) u)) in rw (t, u, w, t)))
      (λ f. rw (t, f)))
      (λ f.
      by-test (leb (key y) (key z))
      (λ u. rw (f, u, f))
      (λ g. (let w = lt-leb (key x) (key z) (omega (arith, leb-false (key x) (key y) f, leb-false (key y) (key z) g)) in rw (f, g, w))))

  pub lesser-holds : (P : A → Type 0) (a b : Option A) → Holds P a → Holds P b → Holds P (lesser a b)
  lesser-holds P None b h k = k
  lesser-holds P (Some x) None h k = h
  lesser-holds P (Some x) (Some y) h k = by-test (leb (key x) (key y)) (λ t. rw t h) (λ f. rw f k)

  module _ (pass : A → Bool) where
    abbrev pub first : List A → Option A
    first [] = None
    first (x ∷ l) = cond (pass x) (Some x) (first l)

    unfoldable pub least : List A → Option A
    least [] = None
    least (x ∷ l) = lesser (given (pass x) x) (least l)

    first_above : (b : ℕ) (l : List A) → All (λ (x : A). b ≤ key x) l → Holds (λ (x : A). b ≤ key x) (first l)
    first_above b [] a = tt
    first_above b (x ∷ l) a = by-test (pass x) (λ t. rw t a.0) (λ f. rw f (first_above b l a.1))

    stays : (x : A) (o : Option A) → Holds (λ (y : A). key x ≤ key y) o → Some x ≡ lesser (Some x) o
    stays x None h = refl
    stays x (Some y) h = rw (le-leb (key x) (key y) h)

    first-insert : (x : A) (l : List A) → Rises key l → first (insert (rising key) x l) ≡ lesser (given (pass x) x) (first l)
    unfolding insert
    first-insert x [] r = by-test (pass x) (λ t. rw t) (λ f. rw f)
    first-insert x (y ∷ ys) r =
        by-test (leb (key x) (key y))
        (λ t.
        by-test (pass x)
        (λ p. (let h = leb-true (key x) (key y) t in
        let above = first_above (key x) (y ∷ ys) (h, all-imp (λ (q : A). key y ≤ key q) (λ (q : A). key x ≤ key q) (λ q i. omega arith) ys r.0) in
        let s = stays x (first (y ∷ ys)) above in rw (t, p) s))
        (λ f. rw (t, f)))
        (λ f.
        by-test (pass y)
        (λ p. by-test (pass x) (λ q. rw (f, p, q, f)) (λ g. rw (f, p, g)))
        (λ g. (let ih = first-insert x ys r.1 in rw (f, g) ih)))

    -- the first that passes in the stable sort is the first least of those that pass
    pub first-sorted : (l : List A) → first (sort (rising key) l) ≡ least l
    unfolding sort least
    first-sorted [] = refl
    first-sorted (x ∷ l) = first-insert x (sort (rising key) l) (sort-rises key l) ∙ ap (lesser (given (pass x) x)) (first-sorted l)

    -- ---- what is so found

    pub least-holds : (P : A → Type 0) (l : List A) → All P l → Holds P (least l)
    unfolding least
    least-holds P [] a = tt
    least-holds P (x ∷ l) a = lesser-holds P (given (pass x) x) (least l) (here (pass x)) (least-holds P l a.1)
      where
        here : (b : Bool) → Holds P (given b x)
        here false = tt
        here true = a.0

    pub least-passes : (l : List A) → Holds (λ (x : A). pass x ≡ true) (least l)
    unfolding least
    least-passes [] = tt
    least-passes (x ∷ l) = go (pass x) refl (least l) (least-passes l)
      where
        go : (b : Bool) → pass x ≡ b → (o : Option A) → Holds (λ (y : A). pass y ≡ true) o → Holds (λ (y : A). pass y ≡ true) (lesser (given b x) o)
        go false e o h = h
        go true e None h = e
        go true e (Some y) h = by-test (leb (key x) (key y)) (λ t. rw t e) (λ f. rw f h)

  -- ---- the least of all

  abbrev pub any : A → Bool
  any x = true

  -- the least of all is at most any that passes, and where it passes it is the least of those that do
  abbrev pub Leads : (A → Bool) → Option A → Option A → Type 0
  Leads pass None p = p ≡ None
  Leads pass (Some y) p = Holds (λ (z : A). key y ≤ key z) p × (pass y ≡ true → p ≡ Some y)

  module _ (pass : A → Bool) where
    -- one more before them
    module _ (x : A) where
      alone : (b : Bool) → pass x ≡ b → Leads pass (Some x) (lesser (given b x) None)
      alone false e = (tt, λ t. absurd (false≢true (sym e ∙ t)))
      alone true e = (omega arith, λ t. refl)

      before : (b : Bool) → pass x ≡ b → (y : A) (p : Option A) → key x ≤ key y → Holds (λ (z : A). key y ≤ key z) p → Leads pass (Some x) (lesser (given b x) p)
      before false e y None h u = (tt, λ t. absurd (false≢true (sym e ∙ t)))
      before false e y (Some z) h u = (omega arith, λ t. absurd (false≢true (sym e ∙ t)))
      before true e y None h u = (omega arith, λ t. refl)
      before true e y (Some z) h u = let w = le-leb (key x) (key z) (omega arith) in rw w (omega arith, λ t. refl)

      behind : (b : Bool) (y : A) (p : Option A) → key y < key x → Leads pass (Some y) p → Leads pass (Some y) (lesser (given b x) p)
      behind false y p h L = L
      behind true y None h L = (omega arith, λ t. clash (L.1 t))
      behind true y (Some z) h L =
          by-test (leb (key x) (key z))
          (λ t. rw t (omega arith, λ s. absurd (no_room z t (L.1 s))))
          (λ f. rw f (L.0, L.1))
        where
          no_room : (z : A) → leb (key x) (key z) ≡ true → Some z ≡ Some y → ⊥
          no_room z t e =
              let u = leb-true (key x) (key z) t in
              let v = ap key (same e) in
              omega arith

    pub least-leads : (l : List A) → Leads pass (least any l) (least pass l)
    unfolding least
    least-leads [] = refl
    least-leads (x ∷ l) = go (least any l) (least pass l) (least-leads l)
      where
        go : (o p : Option A) → Leads pass o p → Leads pass (lesser (Some x) o) (lesser (given (pass x) x) p)
        go None p L = rw L (alone x (pass x) refl)
        go (Some y) p L =
            by-test (leb (key x) (key y))
            (λ t. rw t (before x (pass x) refl y p (leb-true (key x) (key y) t) L.0))
            (λ f. rw f (behind x (pass x) y p (leb-false (key x) (key y) f) L))
