-- The labels of all break places of a stretch as it grows by a call, and the best way home. Assumes nothing.
use Prim.Native.Nat.{ℕ, zero, suc, ◌<◌, ◌≤◌}
use native.Mathlib.Decide.{le_ind}
use native.Mathlib.Nat.{le_refl}
use native.Mathlib.Omega.{arith}
use mathlib.Core.Path.{◌≡◌, refl, sym, ap, ap₂, subst, ◌∙◌}
use mathlib.Core.Bool.{true, false≢true}
use mathlib.Core.List.{List, [], ◌∷◌, ◌++◌}
use Rattle.std.specs.Prelude.{Option, None, Some}
use lib.ListN.{get_or}
use lib.Dec.{ltb}
use lib.Ieee.{Float, binary64, add}
use borrow.Author.Tests.{eq-eqb, ne_eqb, ltb-false, ltb-true}
use Rattle.basics.specs.Options.{◌>>=◌, Holds}
use Rattle.basics.specs.Lists.{is_empty}
use Rattle.basics.proofs.TestLaws.{by-test}
use Rattle.basics.proofs.OptionLaws.{unbound}
use Rattle.definitions.specs.Sheet.{BreakOf, CustomerOf}
use Rattle.models.specs.declared.placement.Placement.{Placement}
use Rattle.models.specs.declared.placement.Placement.TheVariants.{Clock, Least}
use Rattle.models.specs.Limits.{allow_f}
use Rattle.distance.specs.declared.leg.Leg.{Leg}
use Rattle.clock.specs.declared.schedule.Label.{Label}
use Rattle.clock.specs.declared.schedule.Scheduled.{Scheduled}
use Rattle.clock.specs.Serving.{serve_f, carry_f}
use Rattle.clock.specs.Clock.{excused_f}
use Rattle.clock.specs.Least.{KeptF, kept_home_f, excused_home_f, pick_f, better_f}
use Rattle.evaluation.specs.Records.{Tables}
use Rattle.evaluation.specs.Tables.{record_f, leg_f, place_before}
use Rattle.cut_labels.specs.Labels.{listed, kept, best_from, best_f}
use Rattle.cut_labels.proofs.LabelLaws.{kept_append, kept-listed, best-append}
use Rattle.cut_runs.specs.Stretch.{way_of}
use Rattle.cut_runs.specs.Places.{here_f, home_by, label_of, home_of, least_to, least_of}
use Rattle.cut_runs.specs.Runs.{Instance, End, kept_of, least_end, end_by, end_in}
use Rattle.cut_runs.proofs.Clocks.{end-closed}

-- what there is keeps the limits
abbrev pub Keeps : KeptF → Option Scheduled → Type 0
Keeps limits o = Holds (λ (s : Scheduled). allow_f limits.max_distance limits.max_duration s.distance s.duration ≡ true) o

-- ---- the break at one call

module _ (b : BreakOf Float) where
  not-here : (p k : ℕ) → (p ≡ k → ⊥) → here_f b p k ≡ None
  not-here p k d = rw (ne_eqb p k d)

  here-is : (k : ℕ) → here_f b k k ≡ Some b
  here-is k = rw (eq-eqb k k refl)

module _ (t : Tables) (st : List ℕ) (b : BreakOf Float) where
  -- the call that is reached next, and the leg to it
  abbrev next : ℕ → CustomerOf Float
  next m = record_f t (get_or st m 0)

  abbrev leg_to : ℕ → Option Leg
  leg_to m = leg_f t (place_before st m) (get_or st m 0)

  -- a break that is still to come
  pub label-later : (p m : ℕ) → m < p → label_of t st b p m ≡ label_of t st b 0 m
  unfolding label_of
  label-later p zero h = refl
  label-later p (suc m) h =
      rw (label-later p m (omega arith), not-here b p (suc m) (λ e. omega arith), not-here b 0 (suc m) (λ e. omega arith)) refl

  -- the labels of the places 1 to p after m calls, where there are any
  unfoldable pub all_to : ℕ → ℕ → List Label
  all_to zero m = []
  all_to (suc p) m = all_to p m ++ listed (label_of t st b (suc p) m)

  -- ---- one call more

  module _ (m : ℕ) (g : Leg) (eg : leg_to m ≡ Some g) where
    pub label-on : (p : ℕ) → p ≤ m → label_of t st b p (suc m) ≡ carry_f (next m) None (suc m) g.time (label_of t st b p m)
    unfolding label_of
    label-on p h = rw (eg, not-here b p (suc m) (λ e. omega arith)) refl

    label-here : label_of t st b (suc m) (suc m) ≡ carry_f (next m) (Some b) (suc m) g.time (label_of t st b 0 m)
    unfolding label_of
    label-here = rw (eg, here-is b (suc m), label-later (suc m) m (omega arith)) refl

    abbrev on : Label → Option Label
    on = serve_f (next m) None (suc m) g.time

    all-on : (p : ℕ) → p ≤ m → all_to p (suc m) ≡ kept on (all_to p m)
    unfolding all_to kept
    all-on zero h = refl
    all-on (suc p) h =
        ap₂ (λ (ls : List Label) (o : Option Label). ls ++ listed o) (all-on p (omega arith)) (label-on (suc p) h)
        ∙ ap (λ (ls : List Label). kept on (all_to p m) ++ ls) (sym (kept-listed on (label_of t st b (suc p) m)))
        ∙ sym (kept_append on (all_to p m) (listed (label_of t st b (suc p) m)))

    pub all_more : all_to (suc m) (suc m) ≡ kept on (all_to m m) ++ listed (carry_f (next m) (Some b) (suc m) g.time (label_of t st b 0 m))
    unfolding all_to
    all_more = ap₂ (λ (ls : List Label) (o : Option Label). ls ++ listed o) (all-on m (le_refl m)) label-here

  -- ---- no label is left

  append-none : (xs ys : List Label) → xs ++ ys ≡ [] → (xs ≡ []) × (ys ≡ [])
  append-none [] ys e = (refl, e)
  append-none (x ∷ xs) ys e = absurd (false≢true (ap is_empty e))

  listed-none : (o : Option Label) → listed o ≡ [] → o ≡ None
  listed-none None e = refl
  listed-none (Some l) e = absurd (false≢true (ap is_empty e))

  all_none : (q m : ℕ) → all_to q m ≡ [] → (p : ℕ) → p < q → label_of t st b (suc p) m ≡ None
  unfolding all_to
  all_none zero m e p h = absurd (omega arith)
  all_none (suc q) m e p h =
      let parts = append-none (all_to q m) (listed (label_of t st b (suc q) m)) e in
      by-test (ltb p q) (λ y. all_none q m parts.0 p (ltb-true p q y))
      (λ n. let same : p ≡ q = omega (arith, ltb-false p q n) in
      subst (λ (k : ℕ). label_of t st b (suc k) m ≡ None) (sym same) (listed-none _ parts.1))

  module _ (m : ℕ) (gone : label_of t st b 0 m ≡ None) (none_left : all_to m m ≡ []) where
    dead-here : (p : ℕ) → label_of t st b p m ≡ None
    dead-here zero = gone
    dead-here (suc p) =
        by-test (ltb p m) (λ y. all_none m m none_left p (ltb-true p m y)) (λ n. label-later (suc p) m (omega (arith, ltb-false p m n)) ∙ gone)

    label-none : (p k : ℕ) → label_of t st b p k ≡ None → label_of t st b p (suc k) ≡ None
    unfolding label_of
    label-none p k e = rw e

    pub label-dead : (p k : ℕ) → m ≤ k → label_of t st b p k ≡ None
    label-dead p k h = le_ind (λ (n : ℕ). label_of t st b p n ≡ None) (dead-here p) (λ n _ r. label-none p n r) k h

  -- ---- home

  module _ (limits : KeptF) where
    -- no place has a way home
    none-best : (m : ℕ) → ((p : ℕ) → home_of t st b limits m p ≡ None) → (p : ℕ) → least_to t st b limits m p ≡ None
    unfolding least_to pick_f
    none-best m e zero = e 0
    none-best m e (suc p) = rw (none-best m e p, e (suc p))

    -- a run without a way
    pub least-closed : (m : ℕ) → way_of (leg_f t) st m ≡ None → least_of t st b limits m ≡ None
    unfolding home_of
    least-closed m e = none-best m (λ p. unbound (label_of t st b p m) _ (λ l. rw e)) m

    -- no label is left
    pub least-dead : (m : ℕ) → label_of t st b 0 m ≡ None → all_to m m ≡ [] → (k : ℕ) → m ≤ k → least_of t st b limits k ≡ None
    unfolding home_of
    least-dead m gone none_left k h = none-best k (λ p. rw (label-dead m gone none_left p k h)) k

    module _ (m : ℕ) (far : Float) (back : Leg) (ef : way_of (leg_f t) st m ≡ Some far) (eb : leg_f t (place_before st m) 0 ≡ Some back) where
      home-is : (p : ℕ) → home_of t st b limits m p ≡ (label_of t st b p m >>= home_by b limits p far back.time)
      unfolding home_of
      home-is p = go (label_of t st b p m)
        where
          go : (o : Option Label)
              → (o >>= λ l. way_of (leg_f t) st m >>= λ d. leg_f t (place_before st m) 0 >>= λ w. home_by b limits p d w.time l) ≡ (o >>= home_by b limits p far back.time)
          go None = refl
          go (Some l) = rw (ef, eb)

      pick-listed : (best : Option Scheduled) (o : Option Label)
          → best_from limits far back.time best (listed o) ≡ pick_f best (o >>= kept_home_f limits far back.time)
      unfolding best_from pick_f
      pick-listed None None = refl
      pick-listed (Some x) None = refl
      pick-listed best (Some l) = refl

      best-to : (p : ℕ) → best_from limits far back.time (home_of t st b limits m 0) (all_to p m) ≡ least_to t st b limits m p
      unfolding all_to least_to best_from
      best-to zero = refl
      best-to (suc p) =
          let o = label_of t st b (suc p) m in
          best-append limits far back.time (home_of t st b limits m 0) (all_to p m) (listed o)
          ∙ ap (λ (x : Option Scheduled). best_from limits far back.time x (listed o)) (best-to p)
          ∙ pick-listed (least_to t st b limits m p) o
          ∙ ap (pick_f (least_to t st b limits m p)) (sym (home-is (suc p)))

      pub least-is : best_f limits far back.time b (label_of t st b 0 m) (all_to m m) ≡ least_of t st b limits m
      least-is = ap (λ (x : Option Scheduled). best_from limits far back.time x (all_to m m)) (sym (home-is 0)) ∙ best-to m

    -- ---- the best keeps the limits

    home-keeps : (distance back : Float) (l : Label) → Keeps limits (kept_home_f limits distance back l)
    unfolding kept_home_f
    home-keeps distance back l = by-test (allow_f limits.max_distance limits.max_duration distance (add binary64 l.time back)) (λ e. rw e e) (λ e. rw e tt)

    by-keeps : (p : ℕ) (distance back : Float) (l : Label) → Keeps limits (home_by b limits p distance back l)
    unfolding excused_home_f
    by-keeps zero distance back l = by-test (excused_f b (add binary64 l.time back)) (λ e. rw e (home-keeps distance back l)) (λ e. rw e tt)
    by-keeps (suc p) distance back l = home-keeps distance back l

    of-keeps : (m p : ℕ) → Keeps limits (home_of t st b limits m p)
    unfolding home_of
    of-keeps m p = go (label_of t st b p m) (way_of (leg_f t) st m) (leg_f t (place_before st m) 0)
      where
        go : (o : Option Label) (d : Option Float) (w : Option Leg) → Keeps limits (o >>= λ l. d >>= λ x. w >>= λ y. home_by b limits p x y.time l)
        go None d w = tt
        go (Some l) None w = tt
        go (Some l) (Some x) None = tt
        go (Some l) (Some x) (Some y) = by-keeps p x y.time l

    pick-keeps : (x y : Option Scheduled) → Keeps limits x → Keeps limits y → Keeps limits (pick_f x y)
    unfolding pick_f
    pick-keeps None y X Y = Y
    pick-keeps (Some x) None X Y = X
    pick-keeps (Some x) (Some y) X Y = by-test (better_f y x) (λ e. rw e Y) (λ e. rw e X)

    pub least-keeps : (m p : ℕ) → Keeps limits (least_to t st b limits m p)
    unfolding least_to
    least-keeps m zero = of-keeps m 0
    least-keeps m (suc p) = pick-keeps _ _ (least-keeps m p) (of-keeps m (suc p))

-- stretches with the same labels after m calls
pub labels-same : (t : Tables) (st st' : List ℕ) (b : BreakOf Float) (m : ℕ) → ((p : ℕ) → label_of t st b p m ≡ label_of t st' b p m)
    → (p : ℕ) → all_to t st b p m ≡ all_to t st' b p m
unfolding all_to
labels-same t st st' b m e zero = refl
labels-same t st st' b m e (suc p) = ap₂ (λ (ls : List Label) (o : Option Label). ls ++ listed o) (labels-same t st st' b m e p) (e (suc p))

-- ---- the end of a run by its placement

-- what is reported of the best, as an end
abbrev pub as_end : Option Scheduled → Option End
as_end o = o >>= λ s. Some (record { distance = s.distance; duration = s.duration; pay = s.cost })

pub least-end : (I : Instance) → I.placement ≡ Least → (b : BreakOf Float) → I.limits.rest ≡ Some b → (st : List ℕ) (m : ℕ)
    → end_in I st m ≡ as_end (least_of I.tables st b (kept_of I.tables st m I.limits) m)
unfolding end_by least_end
least-end I p b e st m = rw (p, e)

-- a run without a way has no end
pub closed-end : (I : Instance) (st : List ℕ) (m : ℕ) → way_of (leg_f I.tables) st m ≡ None → end_in I st m ≡ None
unfolding end_by least_end
closed-end I st m e = go I.placement
  where
    ends : (o : Option (BreakOf Float)) → least_end I.tables st m I.limits o ≡ None
    ends None = end-closed I.tables st m e None
    ends (Some b) = ap as_end (least-closed I.tables st b (kept_of I.tables st m I.limits) m e)

    go : (p : Placement) → end_by I.tables st m I.limits p ≡ None
    go Clock = end-closed I.tables st m e I.limits.rest
    go Least = ends I.limits.rest
