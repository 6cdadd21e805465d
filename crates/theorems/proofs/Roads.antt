-- Legs that can be driven: what a run without a closed leg has, and what a sheet without one has. Assumes nothing.
use Prim.Native.Nat.{ℕ, zero, suc, ◌+◌, ◌*◌, ◌≤◌, ◌<◌}
use native.Mathlib.Omega.{arith}
use mathlib.Core.Path.{◌≡◌, refl, sym, ap, subst, ◌∙◌}
use mathlib.Core.Bool.{Bool, true, false, cond, not, ◌||◌}
use mathlib.Core.List.{List, [], ◌∷◌}
use Rattle.std.specs.Prelude.{Option, None, Some, option_map}
use lib.ListN.{length, get_or, take}
use lib.Dec.{eqb}
use borrow.Author.Tests.{eqb-true}
use Rattle.basics.specs.Options.{present, value_or}
use Rattle.basics.specs.Lists.{is_empty, any}
use Rattle.basics.proofs.TestLaws.{by-test, or_left, or_right, not-false}
use Rattle.basics.proofs.OptionLaws.{same, clash, bound, granted}
use Rattle.definitions.specs.Domain.{is_closed, closed_apart}
use Rattle.definitions.specs.Sheet.{Sheet, road, distance, time, time_table, Leg, drive}
use Rattle.definitions.specs.Run.{last_of, distance_from, closed_from, first_closed, Label, Totals, home}
use Rattle.definitions.specs.Improver.{open_leg, legs_from}
use Rattle.definitions.specs.Marks.{Closed}
use Rattle.definitions.specs.Refusals.{disagree, closures_differ, any_closed, Within}
use Rattle.theorems.proofs.Ranges.{TablesEven, tables-even}

-- ---- a leg that can be driven is in both tables

pub drive-has : (s : Sheet) (a b : ℕ) (l : Leg) → drive s a b ≡ Some l → (distance s a b ≡ Some l.length) × (time s a b ≡ Some l.travel)
unfolding drive
drive-has s a b l q =
    let x = bound (distance s a b) _ l q in
    let y = bound (time s a b) _ l x.2 in
    let e = same y.2 in
    (x.1 ∙ ap (λ (m : Leg). Some m.length) e, y.1 ∙ ap (λ (m : Leg). Some m.travel) e)

pub has-drive : (s : Sheet) (a b d t : ℕ) → distance s a b ≡ Some d → time s a b ≡ Some t → drive s a b ≡ Some (record { length = d; travel = t })
unfolding drive
has-drive s a b d t e f = rw (e, f) refl

-- closed, or not
pub by-leg {ℓ} : {A : Type ℓ} (s : Sheet) (a b : ℕ) → (drive s a b ≡ None → A) → ((l : Leg) → drive s a b ≡ Some l → A) → A
by-leg {A} s a b f g = go (drive s a b) refl
  where
    go : (o : Option Leg) → drive s a b ≡ o → A
    go None e = f e
    go (Some l) e = g l e

-- ---- a run whose distance is known has no closed leg, and the other way round

-- the legs of a run without a closed one, one after the other
pub distance-on : (s : Sheet) (a c : ℕ) (cs : List ℕ) (d : ℕ) → distance_from s a (c ∷ cs) ≡ Some d
    → (l : Leg) × (drive s a c ≡ Some l) × (e : ℕ) × (distance_from s c cs ≡ Some e) × (l.length + e ≡ d)
distance-on s a c cs d q =
    let x = bound (drive s a c) _ d q in
    let y = bound (distance_from s c cs) _ d x.2 in
    (x.0, x.1, y.0, y.1, same y.2)

pub distance-last : (s : Sheet) (a d : ℕ) → distance_from s a [] ≡ Some d → (l : Leg) × (drive s a 0 ≡ Some l) × (l.length ≡ d)
distance-last s a d q = by-leg s a 0 (λ f. clash (rw f at q)) (λ l e. (l, e, same (rw e at q)))

-- its way home
pub distance-home : (s : Sheet) (a : ℕ) (calls : List ℕ) (d : ℕ) → distance_from s a calls ≡ Some d → (l : Leg) × (drive s (last_of a calls) 0 ≡ Some l)
distance-home s a [] d q = let x = distance-last s a d q in (x.0, x.1)
distance-home s a (c ∷ cs) d q = let x = distance-on s a c cs d q in distance-home s c cs x.2 x.3

pub distance-open : (s : Sheet) (k a : ℕ) (calls : List ℕ) (d : ℕ) → distance_from s a calls ≡ Some d → closed_from s k a calls ≡ None
unfolding closed_from
distance-open s k a [] d q = rw (distance-last s a d q).1 refl
distance-open s k a (c ∷ cs) d q = let x = distance-on s a c cs d q in rw x.1 (distance-open s (suc k) c cs x.2 x.3)

pub open-distance : (s : Sheet) (k a : ℕ) (calls : List ℕ) → closed_from s k a calls ≡ None → (d : ℕ) × (distance_from s a calls ≡ Some d)
unfolding closed_from
open-distance s k a [] q = by-leg s a 0 (λ f. clash (sym (rw f at q))) (λ l e. (l.length, rw e refl))
open-distance s k a (c ∷ cs) q =
    by-leg s a c (λ f. clash (sym (rw f at q)))
    (λ l e. let y = open-distance s (suc k) c cs (rw e at q) in (l.length + y.0, rw (e, y.1) refl))

-- a run with a closed leg has no distance
pub closed-distance : (s : Sheet) (k a : ℕ) (calls : List ℕ) (n : ℕ) → closed_from s k a calls ≡ Some n → distance_from s a calls ≡ None
closed-distance s k a calls n q = go (distance_from s a calls) refl
  where
    go : (o : Option ℕ) → distance_from s a calls ≡ o → o ≡ None
    go None e = refl
    go (Some d) e = clash (sym (distance-open s k a calls d e) ∙ q)

-- each leg of a run without a closed one
pub open-leg : (s : Sheet) (k a : ℕ) (calls : List ℕ) → closed_from s k a calls ≡ None → (i : ℕ) → i ≤ length calls
    → (l : Leg) × (drive s (last_of a (take i calls)) (get_or calls i 0) ≡ Some l)
unfolding closed_from
open-leg s k a [] q i h = by-leg s a 0 (λ f. clash (sym (rw f at q))) (λ l e. (l, subst (λ (j : ℕ). drive s (last_of a (take j [])) (get_or [] j 0) ≡ Some l) (none-else h) e))
  where
    none-else : {i : ℕ} → i ≤ 0 → 0 ≡ i
    none-else h = omega arith
open-leg s k a (c ∷ cs) q zero h = by-leg s a c (λ f. clash (sym (rw f at q))) (λ l e. (l, e))
open-leg s k a (c ∷ cs) q (suc i) h =
    by-leg s a c (λ f. clash (sym (rw f at q))) (λ l e. open-leg s (suc k) c cs (rw e at q) i (omega arith))

-- ---- home

module _ (s : Sheet) (calls : List ℕ) where
  -- what a run comes to that is so long and ends with so much time on the way back
  abbrev pub home_by : (distance back : ℕ) → Label → Totals
  home_by distance back l = record { distance = distance; duration = l.time + back; lateness = l.lateness; pay = l.pay; place = l.place }

  pub home-is : (d : ℕ) (b : Leg) → distance_from s 0 calls ≡ Some d → drive s (last_of 0 calls) 0 ≡ Some b → (l : Label) → home s calls l ≡ Some (home_by d b.travel l)
  unfolding home
  home-is d b e f l = rw (e, f) refl

  -- a run with a closed leg comes to nothing
  pub home-closed : distance_from s 0 calls ≡ None → (l : Label) → home s calls l ≡ None
  unfolding home
  home-closed e l = rw e refl

  -- a run that comes home has a distance and a way back
  pub home-has : (l : Label) (t : Totals) → home s calls l ≡ Some t
      → (d : ℕ) × (distance_from s 0 calls ≡ Some d) × (b : Leg) × (drive s (last_of 0 calls) 0 ≡ Some b) × (home_by d b.travel l ≡ t)
  unfolding home
  home-has l t q =
      let x = bound (distance_from s 0 calls) _ t q in
      let y = bound (drive s (last_of 0 calls) 0) _ t x.2 in
      (x.0, x.1, y.0, y.1, same y.2)

-- ---- the first closed leg is what it says: that leg is closed, and those before it are not

closed-from : (s : Sheet) (k a : ℕ) (calls : List ℕ) (n : ℕ) → closed_from s k a calls ≡ Some n
    → (i : ℕ) × (k + i ≡ n) × (i ≤ length calls) × ((j : ℕ) → j < i → present (drive s (last_of a (take j calls)) (get_or calls j 0)) ≡ true)
    × (drive s (last_of a (take i calls)) (get_or calls i 0) ≡ None)
unfolding closed_from
closed-from s k a [] n q =
    by-leg s a 0 (λ f. let e = same (rw f at q) in (0, omega (arith, e), omega arith, λ j h. absurd (never h), f)) (λ l e. clash (rw e at q))
  where
    never : {j : ℕ} → j < 0 → ⊥
    never h = omega arith
closed-from s k a (c ∷ cs) n q =
    by-leg s a c (λ f. let e = same (rw f at q) in (0, omega (arith, e), omega arith, λ j h. absurd (never h), f))
    (λ l e. let x = closed-from s (suc k) c cs n (rw e at q) in
    (suc x.0, omega (arith, x.1), omega (arith, x.2), λ j h. before l e x.0 x.3 j h, x.4))
  where
    never : {j : ℕ} → j < 0 → ⊥
    never h = omega arith

    before : (l : Leg) → drive s a c ≡ Some l → (i : ℕ) → ((j : ℕ) → j < i → present (drive s (last_of c (take j cs)) (get_or cs j 0)) ≡ true)
        → (j : ℕ) → j < suc i → present (drive s (last_of a (take j (c ∷ cs))) (get_or (c ∷ cs) j 0)) ≡ true
    before l e i h zero u = rw e refl
    before l e i h (suc j) u = h j (omega arith)

pub closed_is : (s : Sheet) (calls : List ℕ) (n : ℕ) → first_closed s calls ≡ Some n → Closed s calls n
closed_is s calls n q =
    let x = closed-from s 1 0 calls n q in
    record { before = x.0; number = omega (arith, x.1); inside = x.2; open-before = x.3; closed = x.4 }

from-closed : (s : Sheet) (k a : ℕ) (calls : List ℕ) (i : ℕ) → i ≤ length calls
    → ((j : ℕ) → j < i → present (drive s (last_of a (take j calls)) (get_or calls j 0)) ≡ true) → drive s (last_of a (take i calls)) (get_or calls i 0) ≡ None
    → closed_from s k a calls ≡ Some (k + i)
unfolding closed_from
from-closed s k a [] i h o c =
    let z : 0 ≡ i = omega arith in
    rw (subst (λ (j : ℕ). drive s (last_of a (take j [])) (get_or [] j 0) ≡ None) (sym z) c) (ap Some (omega arith))
from-closed s k a (c ∷ cs) zero h o e = rw e (ap Some (omega arith))
from-closed s k a (c ∷ cs) (suc i) h o e = rw (o 0 (omega arith)) (from-closed s (suc k) c cs i (omega arith) (λ j u. o (suc j) (omega arith)) e ∙ ap Some (omega arith))

pub is-closed : (s : Sheet) (calls : List ℕ) (n : ℕ) → Closed s calls n → first_closed s calls ≡ Some n
is-closed s calls n x = from-closed s 1 0 calls x.before x.inside x.open-before x.closed ∙ ap Some (omega (arith, x.number))

-- ---- a sheet within the limits: its tables close the same legs

-- closed by its number
road-none : (n : ℕ) → is_closed n ≡ true → road n ≡ None
road-none n e = rw e refl

road-some : (n : ℕ) → is_closed n ≡ false → road n ≡ Some n
road-some n e = rw e refl

pub road-is : (n m : ℕ) → road n ≡ Some m → (is_closed n ≡ false) × (n ≡ m)
road-is n m q = let x = granted (not (is_closed n)) n m q in (by-test (is_closed n) (λ t. clash (rw t at q)) (λ f. f), x.1)

-- entry by entry
alike : (ds ts : List ℕ) → length ds ≡ length ts → disagree Some ds ts ≡ false → (k : ℕ) → is_closed (get_or ds k 0) ≡ is_closed (get_or ts k 0)
alike [] [] e h k = refl
alike [] (t ∷ ts) e h k = absurd (off e)
  where
    off : {n : ℕ} → 0 ≡ suc n → ⊥
    off e = omega arith
alike (d ∷ ds) [] e h k = absurd (off e)
  where
    off : {n : ℕ} → suc n ≡ 0 → ⊥
    off e = omega arith
alike (d ∷ ds) (t ∷ ts) e h zero = agree (is_closed d) (is_closed t) (or_left (closed_apart d t) (disagree Some ds ts) h)
  where
    agree : (a b : Bool) → cond a (not b) b ≡ false → a ≡ b
    agree true b h = sym (not-false b h)
    agree false b h = sym h
alike (d ∷ ds) (t ∷ ts) e h (suc k) = alike ds ts (down e) (or_right (closed_apart d t) (disagree Some ds ts) h) k
  where
    down : {m n : ℕ} → suc m ≡ suc n → m ≡ n
    down e = omega arith

module _ (s : Sheet) (W : Within s) where
  closed_same : (k : ℕ) → is_closed (get_or s.legs.distances k 0) ≡ is_closed (get_or (time_table s.legs.distances s.legs.times) k 0)
  unfolding closures_differ
  closed_same k = go s.legs.times refl
    where
      T : TablesEven s
      T = tables-even s W.tables

      full : {n : ℕ} → not (eqb n (s.head.places * s.head.places)) ≡ false → n ≡ s.head.places * s.head.places
      full {n} h = eqb-true n (s.head.places * s.head.places) (not-false _ h)

      go : (ts : List ℕ) → s.legs.times ≡ ts → is_closed (get_or s.legs.distances k 0) ≡ is_closed (get_or (time_table s.legs.distances ts) k 0)
      go [] e = refl
      go (t ∷ ts) e =
          alike s.legs.distances (t ∷ ts) (full T.distances ∙ sym (full (subst (λ (x : List ℕ). not (is_empty x || eqb (length x) (s.head.places * s.head.places)) ≡ false) e T.times)))
          (subst (λ (x : List ℕ). disagree Some s.legs.distances x ≡ false) e W.closed-alike) k

  -- so the distances say which legs can be driven
  pub drive-distance : (a b : ℕ) → option_map (λ (l : Leg). l.length) (drive s a b) ≡ distance s a b
  unfolding drive
  drive-distance a b =
      let k : ℕ = a * s.head.places + b in
      let c = closed_same k in
      by-test (is_closed (get_or s.legs.distances k 0)) (λ t. rw t refl)
      (λ f. let g : is_closed (get_or (time_table s.legs.distances s.legs.times) k 0) ≡ false = sym c ∙ f in rw (f, g) refl)

  -- ---- and a sheet without a closed leg: every leg can be driven

  module _ (O : any_closed Some s.legs ≡ false) where
    none-closed : (k : ℕ) → is_closed (get_or s.legs.distances k 0) ≡ false
    unfolding any_closed
    none-closed k = go s.legs.distances O k
      where
        go : (ds : List ℕ) → any is_closed ds ≡ false → (k : ℕ) → is_closed (get_or ds k 0) ≡ false
        go [] h k = refl
        go (d ∷ ds) h zero = or_left (is_closed d) (any is_closed ds) h
        go (d ∷ ds) h (suc k) = go ds (or_right (is_closed d) (any is_closed ds) h) k

    pub legs-open : (a b : ℕ) → (l : Leg) × (drive s a b ≡ Some l) × (l.length ≡ open_leg s a b)
    legs-open a b =
        let k : ℕ = a * s.head.places + b in
        let f = none-closed k in
        let d = road-some (get_or s.legs.distances k 0) f in
        let t = road-some (get_or (time_table s.legs.distances s.legs.times) k 0) (sym (closed_same k) ∙ f) in
        (record { length = get_or s.legs.distances k 0; travel = get_or (time_table s.legs.distances s.legs.times) k 0 }, has-drive s a b _ _ d t, ap (λ (o : Option ℕ). value_or 0 o) (sym d))

    -- a run's distance is the sum of its legs, as the improvers have them
    pub run-open : (a : ℕ) (calls : List ℕ) → distance_from s a calls ≡ Some (legs_from (open_leg s) a calls)
    run-open a [] = let x = legs-open a 0 in ap (option_map (λ (l : Leg). l.length)) x.1 ∙ ap (λ (n : ℕ). Some n) x.2
    run-open a (c ∷ cs) =
        let x = legs-open a c in
        let e : distance_from s a (c ∷ cs) ≡ Some (x.0.length + legs_from (open_leg s) c cs) = rw (x.1, run-open c cs) refl in
        e ∙ ap (λ (n : ℕ). Some (n + legs_from (open_leg s) c cs)) x.2
