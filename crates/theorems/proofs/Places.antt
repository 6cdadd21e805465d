-- The clock against every break place: its labels are those of runs with given places, and no given place is home earlier. Assumes nothing.
use Prim.Native.Nat.{ℕ, suc, ◌+◌, ◌-◌, ◌≤◌, ◌<◌}
use native.Mathlib.Omega.{arith}
use native.Mathlib.Nat.{le_refl, eq-or-lt_of_le}
use mathlib.Core.Path.{◌≡◌, refl, sym, ap, subst, ◌∙◌}
use mathlib.Core.Logic.{◌⊎◌, inl, inr, ⊎_elim}
use mathlib.Core.Bool.{true, false}
use mathlib.Core.List.{List, [], ◌∷◌}
use Rattle.std.specs.Prelude.{Option, None, Some}
use lib.ListN.{length}
use lib.Dec.{ltb, eqb}
use borrow.Author.Tests.{ltb-true, ltb-false, eqb-true, eq-eqb, ne_eqb}
use Rattle.basics.proofs.TestLaws.{by-test, not-both}
use Rattle.basics.specs.Options.{◌>>=◌}
use Rattle.basics.proofs.OptionLaws.{same, clash, bound}
use Rattle.definitions.specs.Sheet.{Break, Sheet, time}
use Rattle.definitions.specs.Run.{Label, start, serve, break_at, serve_all}
use Rattle.definitions.specs.Clock.{Clock, smaller, sooner, tick, clock_from}
use Rattle.theorems.proofs.Serving.{NoLater, serve-mono, serve-sooner, serve-place}

-- ---- the smaller of two labels

smaller-le : (x y : Label) → smaller x y ≡ true → x.time ≤ y.time
smaller-le x y h =
    by-test (ltb x.time y.time) (λ t. let i = ltb-true x.time y.time t in omega arith)
    (λ f. by-test (eqb x.time y.time) (λ t. let i = eqb-true x.time y.time t in omega arith)
    (λ g. not-both false (rw (f, g) at h) refl))

not-smaller-le : (x y : Label) → smaller x y ≡ false → y.time ≤ x.time
not-smaller-le x y h =
    by-test (ltb x.time y.time) (λ t. not-both true refl (rw t at h)) (λ f. ltb-false x.time y.time f)

sooner-left : (x y : Option Label) → NoLater (sooner x y) x
sooner-left None y l q = clash q
sooner-left (Some x) None l q = (x, refl, let z = ap (λ (m : Label). m.time) (same q) in omega arith)
sooner-left (Some x) (Some y) l q =
    let z = ap (λ (m : Label). m.time) (same q) in
    by-test (smaller y x) (λ t. let i = smaller-le y x t in (y, rw t refl, omega arith)) (λ f. (x, rw f refl, omega arith))

sooner-right : (x y : Option Label) → NoLater (sooner x y) y
sooner-right None y l q = (l, q, le_refl l.time)
sooner-right (Some x) None l q = clash q
sooner-right (Some x) (Some y) l q =
    let z = ap (λ (m : Label). m.time) (same q) in
    by-test (smaller y x) (λ t. (y, rw t refl, omega arith)) (λ f. let i = not-smaller-le y x f in (x, rw f refl, omega arith))

sooner-one : (x y : Option Label) (l : Label) → sooner x y ≡ Some l → (x ≡ Some l) ⊎ (y ≡ Some l)
sooner-one None y l q = inr q
sooner-one (Some x) None l q = inl q
sooner-one (Some x) (Some y) l q = by-test (smaller y x) (λ t. inr (rw t at q)) (λ f. inl (rw f at q))

-- ---- the labels of the clock, and those of every place

-- `G p` is the label with the break place p; the next call has the number k
pub record Kept (k : ℕ) (x : Clock) (G : ℕ → Option Label) : Type 0 where
  pub plain : x.before ≡ G 0
  pub unbroken : (l : Label) → G 0 ≡ Some l → l.place ≡ 0
  -- a break that is still to come has changed nothing
  pub later : (p : ℕ) → k ≤ p → G p ≡ G 0
  pub early : (p : ℕ) → NoLater (G 0) (G p)
  -- the after-label is the one of its own place
  pub own : (l : Label) → x.after ≡ Some l → (G l.place ≡ Some l) × (0 < l.place) × (l.place < k)
  -- and no place is earlier
  pub least : (p : ℕ) → 0 < p → p < k → NoLater x.after (G p)

module _ (s : Sheet) (b : Break) (rest : s.head.rest ≡ Some b) where
  at_here : (k : ℕ) → break_at s k k ≡ Some b
  at_here k = rw (eq-eqb k k refl, rest) refl

  at_other : (p k : ℕ) → (p ≡ k → ⊥) → break_at s p k ≡ None
  at_other p k h = rw (ne_eqb p k h) refl

  module _ (k a c : ℕ) (pos : 0 < k) (x : Clock) (G : ℕ → Option Label) (K : Kept k x G) where
    abbrev G' : ℕ → Option Label
    G' p = G p >>= serve s (break_at s p k) k a c

    other : (p : ℕ) → (p ≡ k → ⊥) → G' p ≡ (G p >>= serve s None k a c)
    other p h = ap (λ (o : Option Break). G p >>= serve s o k a c) (at_other p k h)

    here : G' k ≡ (x.before >>= serve s (Some b) k a c)
    here =
        ap (λ (o : Option Break). G k >>= serve s o k a c) (at_here k)
        ∙ ap (λ (o : Option Label). o >>= serve s (Some b) k a c) (K.later k (le_refl k) ∙ sym K.plain)

    zero' : G' 0 ≡ (G 0 >>= serve s None k a c)
    zero' = other 0 (λ e. off e)
      where
        off : 0 ≡ k → ⊥
        off e = omega arith

    after' : (tick s k a c x).after ≡ sooner (x.after >>= serve s None k a c) (G' k)
    after' =
        ap (λ (o : Option Break). sooner (x.after >>= serve s None k a c) (o >>= λ d. x.before >>= serve s (Some d) k a c)) rest
        ∙ ap (λ (o : Option Label). sooner (x.after >>= serve s None k a c) o) (sym here)

    early' : (p : ℕ) → NoLater (G' 0) (G' p)
    early' p l q =
        let y = bound (G p) _ l q in
        let e = K.early p y.0 y.1 in
        let z = by-test (eqb p k)
        (λ t. let d : break_at s p k ≡ Some b = rw (t, rest) refl in serve-sooner s b k k a c e.0 y.0 e.2 l (subst (λ (o : Option Break). serve s o k a c y.0 ≡ Some l) d y.2))
        (λ f. let d : break_at s p k ≡ None = rw f refl in serve-mono s None k k a c e.0 y.0 e.2 l (subst (λ (o : Option Break). serve s o k a c y.0 ≡ Some l) d y.2)) in
        (z.0, zero' ∙ rw e.1 z.1, z.2)

    own' : (l : Label) → (tick s k a c x).after ≡ Some l → (G' l.place ≡ Some l) × (0 < l.place) × (l.place < suc k)
    own' l q = ⊎_elim old new (sooner-one (x.after >>= serve s None k a c) (G' k) l (sym after' ∙ q))
      where
        Own : ℕ → Type 0
        Own p = (G' p ≡ Some l) × (0 < p) × (p < suc k)

        old : (x.after >>= serve s None k a c) ≡ Some l → Own l.place
        old h =
            let y = bound x.after _ l h in
            let o = K.own y.0 y.1 in
            let e : y.0.place ≡ l.place = serve-place s None k a c y.0 l y.2 in
            subst Own e (other y.0.place (λ d. off y.0.place d o.2) ∙ rw o.0 y.2, o.1, up o.2)
          where
            off : (p : ℕ) → p ≡ k → p < k → ⊥
            off p d h = omega arith

            up : {p : ℕ} → p < k → p < suc k
            up h = omega arith

        new : G' k ≡ Some l → Own l.place
        new h =
            let y = bound x.before _ l (sym here ∙ h) in
            let e : k ≡ l.place = serve-place s (Some b) k a c y.0 l y.2 in
            subst Own e (h, pos, le_refl (suc k))

    least' : (p : ℕ) → 0 < p → p < suc k → NoLater (tick s k a c x).after (G' p)
    least' p h i = subst (λ (o : Option Label). NoLater o (G' p)) (sym after') (by-test (eqb p k) (λ t. at-k (eqb-true p k t)) (λ f. below (borrow.Author.Tests.eqb-false p k f)))
      where
        S : Option Label
        S = sooner (x.after >>= serve s None k a c) (G' k)

        at-k : p ≡ k → NoLater S (G' p)
        at-k e = subst (λ (n : ℕ). NoLater S (G' n)) (sym e) (sooner-right (x.after >>= serve s None k a c) (G' k))

        below : (p ≡ k → ⊥) → NoLater S (G' p)
        below d l q =
            let y = bound (G p) _ l (sym (other p d) ∙ q) in
            let e = K.least p h (under d) y.0 y.1 in
            let z = serve-mono s None k k a c e.0 y.0 e.2 l y.2 in
            let f : (x.after >>= serve s None k a c) ≡ Some z.0 = ap (λ (o : Option Label). o >>= serve s None k a c) e.1 ∙ z.1 in
            let g = sooner-left (x.after >>= serve s None k a c) (G' k) z.0 f in
            (g.0, g.1, le2 g.0.time z.0.time l.time g.2 z.2)
          where
            under : (p ≡ k → ⊥) → p < k
            under d = ⊎_elim (λ e. absurd (d e)) (λ l. l) (eq-or-lt_of_le (native.Mathlib.Nat.le_of_suc-le-suc i))

            le2 : (u v w : ℕ) → u ≤ v → v ≤ w → u ≤ w
            le2 u v w m n = omega arith

    pub kept-tick : Kept (suc k) (tick s k a c x) G'
    kept-tick =
        record {
          plain = ap (λ (o : Option Label). o >>= serve s None k a c) K.plain ∙ sym zero';
          unbroken = λ l q. let y = bound (G 0) _ l (sym zero' ∙ q) in sym (serve-place s None k a c y.0 l y.2) ∙ K.unbroken y.0 y.1;
          later = λ p h. other p (λ e. off p e h) ∙ ap (λ (o : Option Label). o >>= serve s None k a c) (K.later p (down p h)) ∙ sym zero';
          early = early';
          own = own';
          least = least';
        }
      where
        off : (p : ℕ) → p ≡ k → suc k ≤ p → ⊥
        off p e h = omega arith

        down : (p : ℕ) → suc k ≤ p → k ≤ p
        down p h = omega arith

  pub kept_from : (k a : ℕ) → 0 < k → (x : Clock) (G : ℕ → Option Label) (calls : List ℕ) → Kept k x G
      → Kept (k + length calls) (clock_from s k a x calls) (λ p. serve_all s p k a (G p) calls)
  unfolding clock_from serve_all
  kept_from k a h x G [] K = subst (λ (n : ℕ). Kept n x G) (sym (native.Mathlib.Nat.add-zero k)) K
  kept_from k a h x G (c ∷ cs) K =
      subst (λ (n : ℕ). Kept n (clock_from s k a x (c ∷ cs)) (λ p. serve_all s p k a (G p) (c ∷ cs))) (shift k (length cs))
      (kept_from (suc k) c (up h) (tick s k a c x) (λ p. G p >>= serve s (break_at s p k) k a c) cs (kept-tick k a c h x G K))
    where
      shift : (k n : ℕ) → suc k + n ≡ k + suc n
      shift k n = omega arith

      up : 0 < k → 0 < suc k
      up h = omega arith

  abbrev begun : Clock
  begun = record { before = Some start; after = None }

  kept-start : Kept 1 begun (λ _. Some start)
  kept-start =
      record {
        plain = refl;
        unbroken = λ l q. sym (ap (λ (m : Label). m.place) (same q));
        later = λ p h. refl;
        early = λ p l q. (l, q, le_refl l.time);
        own = λ l q. clash q;
        least = λ p h i. absurd (off p h i);
      }
    where
      off : (p : ℕ) → 0 < p → p < 1 → ⊥
      off p h i = omega arith

  pub kept : (calls : List ℕ) → Kept (1 + length calls) (clock_from s 1 0 begun calls) (λ p. serve_all s p 1 0 (Some start) calls)
  kept calls = kept_from 1 0 (le_refl 1) begun (λ _. Some start) calls kept-start
