-- Serving is monotone in time: who is no later before a call is no later after it and pays no more there, and a break only delays. Assumes nothing.
use Prim.Native.Nat.{ℕ, ◌+◌, ◌-◌, ◌*◌, ◌≤◌, max}
use native.Mathlib.Omega.{arith}
use native.Mathlib.Nat.{le_refl, mul-le-mul}
use mathlib.Core.Path.{◌≡◌, refl, ap, subst}
use Rattle.std.specs.Prelude.{Option, None, Some}
use lib.Dec.{ltb}
use borrow.Author.Tests.{ltb-false, le-ltb}
use Rattle.basics.proofs.TestLaws.{by-test}
use Rattle.basics.specs.Options.{◌>>=◌}
use Rattle.basics.proofs.OptionLaws.{same, clash, bound}
use Rattle.definitions.specs.Sheet.{Window, Break, Customer, Sheet, Leg, customer, drive}
use Rattle.definitions.specs.Window.{waiting, begins, Entry, enter}
use Rattle.definitions.specs.Run.{serve_at, ready, Label, place_after, serve}

-- to wait to ready is to wait as long as waiting says
pub waits : (w : Window) (r : ℕ) → begins (Some w) r ≡ r + waiting w r
waits w r = omega arith

-- an earlier readiness enters where a later one does, service starts no later, and no more is paid
pub enter-mono : (w : Option Window) (p : Option ℕ) (r' r : ℕ) → r' ≤ r → (e : Entry) → enter w p r ≡ Some e
    → (e' : Entry) × (enter w p r' ≡ Some e') × (e'.start ≤ e.start) × (e'.pay ≤ e.pay)
unfolding enter
enter-mono None p r' r h e q = let z = ap (λ (x : Entry). x.start) (same q) in (record { start = r'; lateness = 0; pay = 0 }, refl, omega arith, omega arith)
enter-mono (Some w) None r' r h e q =
    by-test (ltb w.due r) (λ t. clash (rw t at q))
    (λ f. let z = ap (λ (x : Entry). x.start) (same (rw f at q)) in
    let i : r ≤ w.due = ltb-false w.due r f in
    (record { start = max r' w.ready; lateness = 0; pay = 0 }, rw (le-ltb w.due r' (omega arith)) refl, omega arith, omega arith))
enter-mono (Some w) (Some p) r' r h e q =
    let z = ap (λ (x : Entry). x.start) (same q) in (
      record { start = max r' w.ready; lateness = r' - w.due; pay = p * (r' - w.due) },
      refl,
      omega arith,
      subst (λ (n : ℕ). p * (r' - w.due) ≤ n) (ap (λ (x : Entry). x.pay) (same q)) (mul-le-mul {n₂ = p} {m₂ = r - w.due} (le_refl p) (omega arith)),
    )

-- readiness by the break at `here'` is there where it is by `here`, and no later
abbrev pub Readier : Option Break → Option Break → Type 0
Readier here' here = (t' t : ℕ) → t' ≤ t → (r : ℕ) → ready here t ≡ Some r → (r' : ℕ) × (ready here' t' ≡ Some r') × (r' ≤ r)

pub ready-mono : (here : Option Break) → Readier here here
unfolding ready
ready-mono None t' t h r q = let z = same q in (t', refl, omega arith)
ready-mono (Some b) t' t h r q =
    by-test (ltb b.latest (max t b.earliest)) (λ e. clash (rw e at q))
    (λ f. let z = same (rw f at q) in
    let i : max t b.earliest ≤ b.latest = ltb-false b.latest (max t b.earliest) f in
    (max t' b.earliest + b.duration, rw (le-ltb b.latest (max t' b.earliest) (omega arith)) refl, omega arith))

-- a break only delays
pub ready-sooner : (b : Break) → Readier None (Some b)
unfolding ready
ready-sooner b t' t h r q =
    by-test (ltb b.latest (max t b.earliest)) (λ e. clash (rw e at q))
    (λ f. let z = same (rw f at q) in (t', refl, omega arith))

-- the label x is there where y is, and no later
abbrev pub NoLater : Option Label → Option Label → Type 0
NoLater x y = (l : Label) → y ≡ Some l → (l' : Label) × (x ≡ Some l') × (l'.time ≤ l.time)

module _ (c : Customer) (here' here : Option Break) (R : Readier here' here) (k' k travel' travel : ℕ) (near : travel' ≤ travel) where
  -- no later before a call, and no further away: no later after it, and no more is paid there
  pub serve-readier : (l' l : Label) → l'.time ≤ l.time → (m : Label) → serve_at c here k travel l ≡ Some m
      → (m' : Label) × (serve_at c here' k' travel' l' ≡ Some m') × (m'.time ≤ m.time) × (m'.pay + l.pay ≤ m.pay + l'.pay)
  unfolding serve_at
  serve-readier l' l h m q =
      let x = bound (ready here (l.time + travel)) _ m q in
      let y = bound (enter c.window c.penalty x.0) _ m x.2 in
      let u = R (l'.time + travel') (l.time + travel) (omega arith) x.0 x.1 in
      let v = enter-mono c.window c.penalty u.0 x.0 u.2 y.0 y.1 in
      let z = ap (λ (n : Label). n.time) (same y.2) in
      let w = ap (λ (n : Label). n.pay) (same y.2) in (
        record {
          time = v.0.start + c.service;
          lateness = l'.lateness + v.0.lateness;
          pay = l'.pay + v.0.pay;
          place = place_after here' k' l'.place;
        },
        rw (u.1, v.1) refl,
        omega (arith, z, v.2),
        omega (arith, w, v.3),
      )

-- what a call that is served leaves: the label by its readiness and its entry
abbrev pub after : Customer → Option Break → ℕ → Label → Entry → Label
after c here k l e =
    record { time = e.start + c.service; lateness = l.lateness + e.lateness; pay = l.pay + e.pay; place = place_after here k l.place }

pub served-at : (c : Customer) (here : Option Break) (k travel : ℕ) (l m : Label) → serve_at c here k travel l ≡ Some m
    → (r : ℕ) × (ready here (l.time + travel) ≡ Some r) × (e : Entry) × (enter c.window c.penalty r ≡ Some e) × (after c here k l e ≡ m)
unfolding serve_at
served-at c here k travel l m q =
    let x = bound (ready here (l.time + travel)) _ m q in
    let y = bound (enter c.window c.penalty x.0) _ m x.2 in
    (x.0, x.1, y.0, y.1, same y.2)

-- a call that is served is reached along a leg that can be driven
pub serve-leg : (s : Sheet) (here : Option Break) (k a c : ℕ) (l m : Label) → serve s here k a c l ≡ Some m
    → (leg : Leg) × (drive s a c ≡ Some leg) × (serve_at (customer s c) here k leg.travel l ≡ Some m)
serve-leg s here k a c l m q = bound (drive s a c) _ m q

-- a label that is no later is served no later
pub serve-mono : (s : Sheet) (here : Option Break) (k' k a c : ℕ) (l' l : Label) → l'.time ≤ l.time → NoLater (serve s here k' a c l') (serve s here k a c l)
serve-mono s here k' k a c l' l h m q =
    let x = serve-leg s here k a c l m q in
    let y = serve-readier (customer s c) here here (ready-mono here) k' k x.0.travel x.0.travel (le_refl x.0.travel) l' l h m x.2 in
    (y.0, rw x.1 y.1, y.2)

-- and without the break at the call too
pub serve-sooner : (s : Sheet) (b : Break) (k' k a c : ℕ) (l' l : Label) → l'.time ≤ l.time → NoLater (serve s None k' a c l') (serve s (Some b) k a c l)
serve-sooner s b k' k a c l' l h m q =
    let x = serve-leg s (Some b) k a c l m q in
    let y = serve-readier (customer s c) None (Some b) (ready-sooner b) k' k x.0.travel x.0.travel (le_refl x.0.travel) l' l h m x.2 in
    (y.0, rw x.1 y.1, y.2)

-- the label x is there where y is, no later, and has paid no more
abbrev pub NoDearer : Option Label → Option Label → Type 0
NoDearer x y = (l : Label) → y ≡ Some l → (l' : Label) × (x ≡ Some l') × (l'.time ≤ l.time) × (l'.pay ≤ l.pay)

-- without a break no more is paid
pub serve-cheaper : (s : Sheet) (here : Option Break) (k a c : ℕ) (x y : Option Label) → NoDearer x y → NoDearer (x >>= serve s None k a c) (y >>= serve s here k a c)
serve-cheaper s here k a c x y N m q =
    let u = bound y _ m q in
    let v = N u.0 u.1 in
    let w = serve-leg s here k a c u.0 m u.2 in
    let z = serve-readier (customer s c) None here (sooner here) k k w.0.travel w.0.travel (le_refl w.0.travel) v.0 u.0 v.2 m w.2 in
    (z.0, rw (v.1, w.1) z.1, z.2, less z.0.pay u.0.pay m.pay v.0.pay z.3 v.3)
  where
    sooner : (here : Option Break) → Readier None here
    sooner None = ready-mono None
    sooner (Some b) = ready-sooner b

    less : (m' l m l' : ℕ) → m' + l ≤ m + l' → l' ≤ l → m' ≤ m
    less m' l m l' h i = omega arith

-- the break place after a call
pub serve-place : (s : Sheet) (here : Option Break) (k a c : ℕ) (l m : Label) → serve s here k a c l ≡ Some m → place_after here k l.place ≡ m.place
serve-place s here k a c l m q =
    let x = serve-leg s here k a c l m q in
    ap (λ (n : Label). n.place) (served-at (customer s c) here k x.0.travel l m x.2).4
