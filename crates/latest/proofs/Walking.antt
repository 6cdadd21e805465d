-- The times and the bounds of calls, one after the other. Assumes nothing.
use Prim.Native.Nat.{ℕ, zero, suc, ◌+◌, ◌-◌, ◌≤◌, ◌<◌}
use native.Mathlib.Omega.{arith}
use native.Mathlib.Nat.{sub-zero, not-suc-le-zero, le_of_suc-le-suc}
use native.Mathlib.Numerals.{add-one}
use mathlib.Core.Path.{◌≡◌, refl, sym, ap, ap₂, subst, ◌∙◌}
use mathlib.Core.List.{List, [], ◌∷◌, ◌++◌}
use lib.ListN.{length, get_or, set, take, drop, length-set, drop_of_length-le, get_or-eq_default}
use lib.Seq.{drop-cons, get_or-set_same, get_or-set_other}
use lib.Dec.{eqb}
use lib.Ieee.{Float, nan}
use borrow.Author.Tests.{eqb-true, eqb-false}
use Rattle.basics.proofs.TestLaws.{by-test}
use Rattle.definitions.specs.Run.{last_of}
use Rattle.evaluation.specs.Records.{Tables}
use Rattle.evaluation.specs.Tables.{place_before}
use Rattle.latest.specs.Times.{Arithmetic, HoursOf, DayOf, TimesOf, home, serve, serves, back, bounds}
use Rattle.latest.specs.Floats.{floats, travel_f, hours_f, bounds_f, listed_at, Listed}

pub first-left : (l : List ℕ) (i : ℕ) → get_or (drop i l) 0 0 ≡ get_or l i 0
first-left [] zero = refl
first-left [] (suc i) = refl
first-left (x ∷ l) zero = refl
first-left (x ∷ l) (suc i) = first-left l i

-- the place before call number pos of a run that starts at a
abbrev before_from : ℕ → List ℕ → ℕ → ℕ
before_from a run zero = a
before_from a run (suc k) = get_or run k 0

last-at : (a : ℕ) (run : List ℕ) (pos : ℕ) → pos ≤ length run → last_of a (take pos run) ≡ before_from a run pos
last-at a run zero h = refl
last-at a [] (suc k) h = absurd (not-suc-le-zero h)
last-at a (x ∷ run) (suc zero) h = refl
last-at a (x ∷ run) (suc (suc k)) h = last-at x run (suc k) (le_of_suc-le-suc h)

pub last-before : (run : List ℕ) (pos : ℕ) → pos ≤ length run → last_of 0 (take pos run) ≡ place_before run pos
unfolding place_before
last-before run zero h = refl
last-before run (suc k) h = last-at 0 run (suc k) h

take_on : (l : List ℕ) (i j : ℕ) → i ≤ j → take i l ++ take (j - i) (drop i l) ≡ take j l
take_on l zero j h = ap (λ (n : ℕ). take n l) (sub-zero j)
take_on [] (suc i) zero h = absurd (not-suc-le-zero h)
take_on [] (suc i) (suc j) h = take_none (suc j - suc i)
  where
    take_none : (n : ℕ) → take {A = ℕ} n [] ≡ []
    take_none zero = refl
    take_none (suc n) = refl
take_on (x ∷ l) (suc i) zero h = absurd (not-suc-le-zero h)
take_on (x ∷ l) (suc i) (suc j) h =
    let e : suc j - suc i ≡ j - i = omega arith in
    ap (λ (n : ℕ). x ∷ (take i l ++ take n (drop i l))) e ∙ ap (λ (m : List ℕ). x ∷ m) (take_on l i j (le_of_suc-le-suc h))

module _ {N : Type 0} (A : Arithmetic N) (road : ℕ → ℕ → N) (hours : ℕ → HoursOf N) (day : DayOf N) where
  pub serves-append : (t : TimesOf N) (a : ℕ) (xs ys : List ℕ) → serves A road hours day t a (xs ++ ys) ≡ serves A road hours day (serves A road hours day t a xs) (last_of a xs) ys
  unfolding serves
  serves-append t a [] ys = refl
  serves-append t a (x ∷ xs) ys = serves-append (serve A day (hours x) (road a x) t) x xs ys

  -- on from call number i of a run up to number j
  pub serves_on : (t : TimesOf N) (run : List ℕ) (i j : ℕ) → i ≤ j → i ≤ length run
      → serves A road hours day (serves A road hours day t 0 (take i run)) (place_before run i) (take (j - i) (drop i run)) ≡ serves A road hours day t 0 (take j run)
  serves_on t run i j h l =
      ap (λ (a : ℕ). serves A road hours day (serves A road hours day t 0 (take i run)) a (take (j - i) (drop i run))) (sym (last-before run i l))
      ∙ sym (serves-append t 0 (take i run) (take (j - i) (drop i run))) ∙ ap (serves A road hours day t 0) (take_on run i j h)

module _ {N : Type 0} (A : Arithmetic N) (road : ℕ → ℕ → N) (hours : ℕ → HoursOf N) (day : DayOf N) (calls : List ℕ) (i : ℕ) where
  pub serves-turn : (t : TimesOf N) (a : ℕ) → i < length calls
      → serves A road hours day t a (drop i calls) ≡ serves A road hours day (serve A day (hours (get_or calls i 0)) (road a (get_or calls i 0)) t) (get_or calls i 0) (drop (i + 1) calls)
  unfolding serves
  serves-turn t a h =
      ap (serves A road hours day t a) (drop-cons calls i 0 h)
      ∙ ap (λ (n : ℕ). serves A road hours day (serve A day (hours (get_or calls i 0)) (road a (get_or calls i 0)) t) (get_or calls i 0) (drop n calls)) (sym (add-one i))

  pub serves-end : (t : TimesOf N) (a : ℕ) → length calls ≤ i → serves A road hours day t a (drop i calls) ≡ t
  unfolding serves
  serves-end t a h = ap (serves A road hours day t a) (drop_of_length-le calls {i = i} h)

  pub bounds-end : length calls ≤ i → bounds A road hours day (drop i calls) ≡ home A day
  unfolding bounds
  bounds-end h = ap (bounds A road hours day) (drop_of_length-le calls {i = i} h)

  pub bounds-turn : i < length calls
      → bounds A road hours day (drop i calls) ≡ back A day (hours (get_or calls i 0)) (road (get_or calls i 0) (get_or calls (i + 1) 0)) (bounds A road hours day (drop (i + 1) calls))
  unfolding bounds
  bounds-turn h =
      ap (bounds A road hours day) (drop-cons calls i 0 h)
      ∙ ap (λ (b : ℕ). back A day (hours (get_or calls i 0)) (road (get_or calls i 0) b) (bounds A road hours day (drop (suc i) calls))) (first-left calls (suc i))
      ∙ ap (λ (n : ℕ). back A day (hours (get_or calls i 0)) (road (get_or calls i 0) (get_or calls n 0)) (bounds A road hours day (drop n calls))) (sym (add-one i))

module _ (t : Tables) (day : DayOf Float) (run : List ℕ) where
  -- the bounds so far, of the calls from number i on
  pub record Back (pos i next : ℕ) (u : TimesOf Float) : Type 0 where
    pub from_on : pos ≤ i
    pub inside : i ≤ length run
    pub next-is : next ≡ get_or run i 0
    pub are : u ≡ bounds_f t day (drop i run)

  pub back-first : (pos : ℕ) → pos ≤ length run → (u : TimesOf Float) → u ≡ home floats day → Back pos (length run) 0 u
  back-first pos h u e =
      record {
        from_on = h;
        inside = omega arith;
        next-is = sym (get_or-eq_default run 0 {n = length run} (omega arith));
        are = e ∙ sym (bounds-end floats (travel_f t) (hours_f t.customers) day run (length run) (omega arith));
      }

  pub back_more : (pos i next : ℕ) (u : TimesOf Float) → Back pos i next u → pos < i → (j : ℕ) → j + 1 ≡ i → (v : TimesOf Float)
      → v ≡ back floats day (hours_f t.customers (get_or run j 0)) (travel_f t (get_or run j 0) next) u → Back pos j (get_or run j 0) v
  back_more pos i next u B h j e v q =
      record {
        from_on = omega arith;
        inside = omega (arith, B.inside);
        next-is = refl;
        are =
            q
            ∙ ap₂ (λ (b : ℕ) (w : TimesOf Float). back floats day (hours_f t.customers (get_or run j 0)) (travel_f t (get_or run j 0) b) w) B.next-is B.are
            ∙ ap (λ (n : ℕ). back floats day (hours_f t.customers (get_or run j 0)) (travel_f t (get_or run j 0) (get_or run n 0)) (bounds_f t day (drop n run))) (sym e)
            ∙ sym (bounds-turn floats (travel_f t) (hours_f t.customers) day run j (omega (arith, B.inside)));
      }

  -- written in front of those that are listed; none is before where nothing is
  pub listed_more : (j n : ℕ) (befores afters : List Float) → length befores ≡ 129 → length afters ≡ 129 → j < 129
      → ((k : ℕ) → n ≤ k → k ≤ length run → listed_at befores afters k ≡ bounds_f t day (drop k run)) → n ≤ j + 1
      → (u : TimesOf Float) → u ≡ bounds_f t day (drop j run) → Listed t day run j (set befores j u.before) (set afters j u.after)
  listed_more j n befores afters b a h L m u e =
      record {
        befores-long = length-set befores j u.before ∙ b;
        afters-long = length-set afters j u.after ∙ a;
        are = λ k x y. by-test (eqb k j)
            (λ q. let s = eqb-true k j q in
            subst (λ (i : ℕ). listed_at (set befores j u.before) (set afters j u.after) i ≡ bounds_f t day (drop i run)) (sym s)
            (ap₂ (λ (v w : Float). record { before = v; after = w }) (get_or-set_same befores j u.before nan (omega arith)) (get_or-set_same afters j u.after nan (omega arith)) ∙ e))
            (λ q. let s = eqb-false k j q in
            ap₂ (λ (v w : Float). record { before = v; after = w }) (get_or-set_other befores j k u.before nan s) (get_or-set_other afters j k u.after nan s)
            ∙ L k (apart k x s) y);
      }
    where
      apart : (k : ℕ) → j ≤ k → (k ≡ j → ⊥) → n ≤ k
      apart k x s = by-test (eqb k (j + 0)) (λ q. absurd (s (let z = eqb-true k (j + 0) q in omega arith))) (λ q. let z = eqb-false k (j + 0) q in omega arith)
