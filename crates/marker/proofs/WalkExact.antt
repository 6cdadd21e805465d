-- On a sheet within the limits, held in floats, the walk through a run is that of crates/definitions. Assumes nothing.
use Rattle.clock.specs.declared.schedule.Scheduled.{Scheduled}
use Prim.Native.Nat.{ℕ, suc, ◌+◌, ◌≤◌, ◌<◌}
use native.Mathlib.Omega.{arith}
use native.Mathlib.Nat.{add_assoc}
use mathlib.Core.Path.{◌≡◌, refl, ap, subst, ◌∙◌}
use mathlib.Core.List.{List, [], ◌∷◌}
use Rattle.std.specs.Prelude.{Option, None, Some, option_map, Result, Ok, Err}
use lib.Dec.{eqb}
use lib.ListN.{length}
use lib.Ieee as Ieee
use lib.Ieee.{binary64}
use Rattle.basics.proofs.TestLaws.{by-test}
use Rattle.basics.specs.Options.{Holds}
use Rattle.basics.proofs.OptionLaws.{same}
use Rattle.basics.specs.Lists.{All}
use Rattle.definitions.specs.Domain.{most_calls}
use Rattle.definitions.specs.Sheet.{Break, Sheet, Leg, customer, drive}
use Rattle.definitions.specs.Run as Whole
use Rattle.definitions.specs.Run.{break_start, ready, serve, break_at, serve_all, last_of, distance_from}
use Rattle.definitions.specs.Window.{due_of}
use Rattle.definitions.specs.Marker.{Verdict, break_too_late, window_missed, break_or, arrival_fault, call_fault, walk_fault}
use Rattle.bounds.specs.Sized.{Small, SmallBreak, Sized, Place}
use Rattle.bounds.proofs.Inside.{depot-inside, leg-small, customer-small, break-small}
use Rattle.bounds.specs.Bounds.{Early, arrive_by}
use Rattle.bounds.proofs.BoundLaws.{serve-early}
use Rattle.theorems.proofs.Roads.{distance-on}
use Rattle.whole.specs.Whole.{fl, limit}
use Rattle.whole.proofs.WholeLaws.{fl-add, fl-sum}
use Rattle.whole.proofs.LargerLaws.{larger-fl}
use Rattle.models.specs.Image.{fl_window, fl_break, fl_customer}
use Rattle.models.specs.Window.{due_f}
use Rattle.models.proofs.Exact.{due-exact}
use Rattle.distance.proofs.Exact.{fl_leg}
use Rattle.clock.specs.Serving.{break_start_f, serve_f}
use Rattle.clock.specs.Image.{fl_label, fl_totals}
use Rattle.clock.proofs.ServingExact.{ready-exact}
use Rattle.clock.proofs.HomeExact.{ended, home-exact}
use Rattle.evaluation.specs.Records.{Tables}
use Rattle.evaluation.specs.Tables.{record_f, leg_f}
use Rattle.evaluation.specs.Image.{Image}
use Rattle.evaluation.proofs.ClockExact.{record-exact, leg-exact, carry-exact}
use Rattle.marker.specs.declared.verdict.Verdict as Code
use Rattle.marker.specs.declared.verdict.Verdict.TheVariants.{BreakTooLate, WindowMissed}
use Rattle.marker.specs.Walking.{break_at_f, break_or_f, call_fault_f, walk_f}
use Rattle.marker.specs.Image.{fl_verdict}

-- ---- the figures of a call

break-at-exact : (s : Sheet) (place k : ℕ) → break_at_f (option_map fl_break s.head.rest) place k ≡ option_map fl_break (break_at s place k)
break-at-exact s place k = by-test (eqb place k) (λ t. rw t) (λ f. rw f)

pub break-or-exact : (o : Option Break) → break_or_f (option_map fl_break o) ≡ fl_break (break_or o)
break-or-exact None = refl
break-or-exact (Some b) = refl

earliest-fits : (o : Option Break) → Holds SmallBreak o → (break_or o).earliest ≤ limit
earliest-fits None B = omega arith
earliest-fits (Some b) B = omega arith

-- what the walk comes to: a fault, or home, with `far` behind it in all and `back` the way home
pub data Walks (fault : Option Verdict) (last : Option Whole.Label) (far back : ℕ) (w : (Result Scheduled Code.Verdict)) : Type 0 where
  stops : (v : Verdict) → fault ≡ Some v → w ≡ Err (fl_verdict v) → Walks fault last far back w
  arrives : (l : Whole.Label) → fault ≡ None → last ≡ Some l → w ≡ Ok (fl_totals (ended far back l)) → Walks fault last far back w

along : {fault fault' : Option Verdict} {last last' : Option Whole.Label} {far far' back : ℕ} {w w' : (Result Scheduled Code.Verdict)}
    → fault ≡ fault' → last ≡ last' → far' ≡ far → w ≡ w' → Walks fault' last' far' back w' → Walks fault last far back w
along a b c d (stops v p q) = stops v (a ∙ p) (d ∙ q)
along {back} a b c d (arrives l p r q) = arrives l (a ∙ p) (b ∙ r) (d ∙ (q ∙ ap (λ (n : ℕ). Ok (fl_totals (ended n back l))) c))

module _ (s : Sheet) (S : Sized s) (t : Tables) (I : Image s t) where
  -- why a call after j others fails, at the end of a leg that is open
  module _ (j : ℕ) (few : j < most_calls) (here : Option Break) (H : Holds SmallBreak here) (n k a c : ℕ) (q : Place s c) (g : Leg) (way : drive s a c ≡ Some g)
      (l : Whole.Label) (E : Early j l) where
    near : Small g.travel
    near = (leg-small s S a c g way).1

    abbrev arrival : ℕ
    arrival = l.time + g.travel

    arrives-by : arrival ≤ arrive_by j
    arrives-by = omega (arith, near)

    -- on arrival
    fault-exact : call_fault_f n k c (fl_customer (customer s c)) (option_map fl_break here) (fl arrival) ≡ fl_verdict (arrival_fault s n here k c arrival)
    unfolding call_fault_f
    fault-exact = rw (ready-exact j few here H arrival arrives-by, call_fault_f) (go (ready here arrival))
      where
        go : (o : Option ℕ)
            → elim (option_map fl o) [
              | None ↦ BreakTooLate n k c (break_start_f (break_or_f (option_map fl_break here)) (fl arrival)) (break_or_f (option_map fl_break here)).latest
              | Some readiness ↦ WindowMissed n k c readiness (due_f (option_map fl_window (customer s c).window))
            ]
            ≡ fl_verdict (elim o [
              | None ↦ break_too_late n k c (break_start (break_or here) arrival) (break_or here).latest
              | Some readiness ↦ window_missed n k c readiness (due_of (customer s c).window)
            ])
        go None = rw (break-or-exact here, larger-fl arrival (break_or here).earliest (omega (arith, arrives-by)) (earliest-fits here H))
        go (Some readiness) = rw (due-exact (customer s c).window)

    call-fault-exact : call_fault_f n k c (record_f t c) (option_map fl_break here) (Ieee.add binary64 (fl l.time) (fl g.travel)) ≡ fl_verdict (call_fault s n here k a c l)
    call-fault-exact = rw (record-exact s S t I c q, fl-add l.time g.travel (omega arith) (omega (arith, near)), way, call_fault) fault-exact

  -- one call, along a leg that is open, and those behind it
  module _ (n place j k far a c : ℕ) (l : Whole.Label) (cs : List ℕ) (few : j < most_calls) (p : Place s a) (q : Place s c) (E : Early j l) (g : Leg) (way : drive s a c ≡ Some g)
      (room : far + g.length ≤ limit) where
    abbrev here : Option Break
    here = break_at s place k

    H : Holds SmallBreak here
    H = break-small s S place k

    -- the leg and the service, in floats
    looked : leg_f t a c ≡ Some (fl_leg g)
    looked = leg-exact s S t I a c p q ∙ ap (option_map fl_leg) way

    served : serve_f (record_f t c) (break_at_f (option_map fl_break s.head.rest) place k) k (fl g.travel) (fl_label l) ≡ option_map fl_label (serve s here k a c l)
    served = rw (break-at-exact s place k) (carry-exact s S t I j few here H k a c g way q (Some l) E)

    turn : (d back : ℕ)
        → ((m : Whole.Label) → Early (suc j) m
        → Walks (walk_fault s n place (suc k) c m cs) (serve_all s place (suc k) c (Some m) cs) (far + g.length + d) back
        (walk_f t (option_map fl_break s.head.rest) n place (suc k) (fl (far + g.length)) c (fl_label m) cs))
        → Walks (walk_fault s n place k a l (c ∷ cs)) (serve_all s place k a (Some l) (c ∷ cs)) (far + (g.length + d)) back
        (walk_f t (option_map fl_break s.head.rest) n place k (fl far) a (fl_label l) (c ∷ cs))
    unfolding walk_f walk_fault serve_all
    turn d back ih = go (serve s here k a c l) refl
      where
        go : (o : Option Whole.Label) → serve s here k a c l ≡ o
            → Walks (walk_fault s n place k a l (c ∷ cs)) (serve_all s place k a (Some l) (c ∷ cs)) (far + (g.length + d)) back
            (walk_f t (option_map fl_break s.head.rest) n place k (fl far) a (fl_label l) (c ∷ cs))
        go None e =
            stops (call_fault s n here k a c l) (rw (e, walk_fault))
            (rw (walk_f, looked, served ∙ ap (option_map fl_label) e) (ap Err (rw (break-at-exact s place k) (call-fault-exact j few here H n k a c q g way l E))))
        go (Some m) e =
            along (rw (e, walk_fault)) (rw (e, serve_all)) (add_assoc far g.length d)
            (rw (walk_f, looked, served ∙ ap (option_map fl_label) e, fl-sum far g.length room))
            (ih m (serve-early j few (customer s c) (customer-small s S c) here H k g.travel (leg-small s S a c g way).1 l E m (rw way at e)))

  -- the calls from number k on, after j others, with `far` behind them, and the way home `w`, where no leg is closed
  pub walk-exact : (n place j k far a : ℕ) (l : Whole.Label) (calls : List ℕ) (d : ℕ) → distance_from s a calls ≡ Some d → (w : Leg) → drive s (last_of a calls) 0 ≡ Some w
      → j + length calls ≤ most_calls → Place s a → All (Place s) calls → Early j l → far + d ≤ limit
      → Walks (walk_fault s n place k a l calls) (serve_all s place k a (Some l) calls) (far + d) w.travel
      (walk_f t (option_map fl_break s.head.rest) n place k (fl far) a (fl_label l) calls)
  unfolding walk_f walk_fault serve_all
  walk-exact n place j k far a l [] d r w b h p i E f =
      let e : w.length ≡ d = same (rw b at r) in
      let m = leg-small s S a 0 w b in
      arrives l refl refl
      (rw (walk_f, leg-exact s S t I a 0 p (depot-inside s S) ∙ ap (option_map fl_leg) b, fl-sum far w.length (omega arith))
      (ap Ok (same (home-exact j (omega arith) (far + w.length) w.travel m.1 l E)) ∙ ap (λ (n : ℕ). Ok (fl_totals (ended (far + n) w.travel l))) e))
  walk-exact n place j k far a l (c ∷ cs) d r w b h p i E f =
      let (g, way, e, rest, sum) = distance-on s a c cs d r in
      subst
      (λ (n' : ℕ). Walks (walk_fault s n place k a l (c ∷ cs)) (serve_all s place k a (Some l) (c ∷ cs)) (far + n') w.travel
      (walk_f t (option_map fl_break s.head.rest) n place k (fl far) a (fl_label l) (c ∷ cs)))
      sum
      (turn n place j k far a c l cs (omega arith) p i.0 E g way (omega arith) e w.travel
      (λ m M. walk-exact n place (suc j) (suc k) (far + g.length) c m cs e rest w b (omega arith) i.0 i.1 M (omega arith)))
