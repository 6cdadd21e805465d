-- A sheet without window, limit and break: every run without a closed leg is served, nothing late, and keeps the limits. Assumes nothing.
use Prim.Native.Nat.{ℕ, zero, suc, ◌+◌}
use native.Mathlib.Omega.{arith}
use mathlib.Core.Path.{◌≡◌, refl, ap, ◌∙◌}
use mathlib.Core.Bool.{Bool, true, false, cond, ◌&&◌}
use mathlib.Core.List.{List, [], ◌∷◌}
use Rattle.std.specs.Prelude.{Option, None, Some}
use lib.ListN.{get_or}
use Rattle.basics.proofs.TestLaws.{falses, or_left, or_right}
use Rattle.basics.specs.Options.{present}
use Rattle.basics.proofs.OptionLaws.{absent}
use Rattle.basics.specs.Lists.{any}
use Rattle.definitions.specs.Sheet.{Break, Customer, Sheet, Leg, depot, customer, drive}
use Rattle.definitions.specs.Window.{enter}
use Rattle.definitions.specs.Limits.{within}
use Rattle.definitions.specs.Run.{serve_at, ready, Label, start, serve, break_at, serve_all, distance_from, Totals, allowed}
use Rattle.definitions.specs.Clock.{clock_from, counts, clock}
use Rattle.definitions.specs.Improver.{checks_needed}
use Rattle.theorems.proofs.Roads.{distance-on, distance-home, home_by, home-is}
use Rattle.theorems.proofs.Legality.{plain, clocked}

-- no window, limit or break
pub record Plain (s : Sheet) : Type 0 where
  pub no-window : any (λ c. present c.window) s.customers ≡ false
  pub no_distance : s.head.max_distance ≡ None
  pub no-duration : s.head.max_duration ≡ None
  pub no-break : s.head.rest ≡ None

-- what no window, limit or break leaves out
pub plain_of : (s : Sheet) → checks_needed s ≡ false → Plain s
unfolding checks_needed
plain_of s h =
    let f = falses (any (λ c. present c.window) s.customers ∷ present s.head.max_distance ∷ present s.head.max_duration ∷ present s.head.rest ∷ []) h in
    record { no-window = f.0; no_distance = absent f.1.0; no-duration = absent f.1.1.0; no-break = absent f.1.1.1.0 }

window-none : (l : List Customer) → any (λ c. present c.window) l ≡ false → (k : ℕ) → (get_or l k depot).window ≡ None
window-none [] h k = refl
window-none (c ∷ l) h zero = absent (or_left (present c.window) _ h)
window-none (c ∷ l) h (suc k) = window-none l (or_right (present c.window) (any (λ c. present c.window) l) h) k

-- nothing late, no break
abbrev pub Clean : Label → Type 0
Clean l = (l.pay ≡ 0) × (l.place ≡ 0)

module _ (s : Sheet) (P : Plain s) where
  no-break-at : (p k : ℕ) → break_at s p k ≡ None
  no-break-at p k = ap (λ (o : Option Break). cond (lib.Dec.eqb p k) o None) P.no-break ∙ either (lib.Dec.eqb p k)
    where
      either : (b : Bool) → ◌≡◌ {A = Option Break} (cond b None None) None
      either true = refl
      either false = refl

  serve-clean : (k a c : ℕ) (leg : Leg) → drive s a c ≡ Some leg → (l : Label) → Clean l → (m : Label) × (serve s None k a c l ≡ Some m) × Clean m
  unfolding serve_at ready enter
  serve-clean k a c leg r l h =
      let w = window-none s.customers P.no-window c in (
        record { time = l.time + leg.travel + (customer s c).service; lateness = l.lateness + 0; pay = l.pay + 0; place = l.place },
        rw (r, w) refl,
        (zero_more l.pay h.0, h.1),
      )
    where
      zero_more : (n : ℕ) → n ≡ 0 → n + 0 ≡ 0
      zero_more n e = omega arith

  served-clean : (k a : ℕ) (l : Label) (calls : List ℕ) (d : ℕ) → distance_from s a calls ≡ Some d → Clean l
      → (m : Label) × (serve_all s 0 k a (Some l) calls ≡ Some m) × Clean m
  unfolding serve_all
  served-clean k a l [] d q h = (l, refl, h)
  served-clean k a l (c ∷ cs) d q h =
      let r = distance-on s a c cs d q in
      let x = serve-clean k a c r.0 r.1 l h in
      let y = served-clean (suc k) c x.0 cs r.2 r.3 x.2 in
      (y.0, ap (λ (o : Option Label). serve_all s 0 (suc k) c o cs) (ap (λ b. serve s b k a c l) (no-break-at 0 k) ∙ x.1) ∙ y.1, y.2)

  -- every run without a closed leg is served, nothing late, and keeps the limits
  pub plain-clock : (calls : List ℕ) (d : ℕ) → distance_from s 0 calls ≡ Some d
      → (t : Totals) × (clock s calls ≡ Some t) × (allowed s t ≡ true) × (t.distance ≡ d) × (t.pay ≡ 0) × (t.place ≡ 0)
  plain-clock calls d q =
      let m = served-clean 1 0 start calls d q (refl, refl) in
      let b = distance-home s 0 calls d q in
      let back = b.0.travel in
      let t = home_by s calls d back m.0 in (
        t,
        clocked s calls b.0 b.1 m.0
            (ap (λ (o : Option Break). counts o back (clock_from s 1 0 (record { before = Some start; after = None }) calls)) P.no-break ∙ plain s calls ∙ m.1)
            ∙ home-is s calls d b.0 q b.1 m.0,
        ap (λ (o : Option ℕ). within o t.distance && within s.head.max_duration t.duration) P.no_distance ∙ ap (λ (o : Option ℕ). within o t.duration) P.no-duration,
        refl,
        m.2.0,
        m.2.1,
      )
