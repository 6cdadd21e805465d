-- On a sheet within the limits, held in floats, the evaluations of a run are those of crates/definitions. Assumes nothing.
use Prim.Native.Nat.{ℕ, zero, suc, ◌+◌, ◌*◌, ◌≤◌, ◌<◌}
use native.Mathlib.Omega.{arith}
use native.Mathlib.Nat.{zero-add, add_assoc}
use mathlib.Core.Path.{◌≡◌, refl, sym, ap, subst, ◌∙◌}
use mathlib.Core.Bool.{Bool, cond}
use mathlib.Core.List.{List, [], ◌∷◌}
use Rattle.std.specs.Prelude.{Option, None, Some, option_map}
use lib.ListN.{length, get_or, take, length-take}
use borrow.Author.Tests.{ne_eqb}
use lib.Ieee as Ieee
use lib.Ieee.{Float, binary64}
use Rattle.basics.proofs.TestLaws.{by-test}
use Rattle.basics.specs.Options.{◌>>=◌, Holds, given, present}
use Rattle.basics.proofs.OptionLaws.{same, clash, bound, unbound}
use Rattle.basics.specs.Lists.{All}
use Rattle.definitions.specs.Domain.{most_calls, most_number}
use Rattle.definitions.specs.Sheet.{Break, Sheet, Leg, drive}
use Rattle.definitions.specs.Run as Whole
use Rattle.definitions.specs.Run.{start, serve_at, serve, break_start, break_at, serve_all, last_of, distance_from, closed_from, first_closed, Totals, home, allowed}
use Rattle.definitions.specs.Clock.{clock_from, counts, clock, start_of}
use Rattle.definitions.specs.Evaluation.{Evaluation, route_eval, route_feasible, effective_cost}
use Rattle.definitions.specs.Refusals.{Within, WithinCalls}
use Rattle.bounds.specs.Sized.{SmallBreak, Sized, Place}
use Rattle.bounds.proofs.Inside.{sized, few-calls, calls-inside, depot-inside, call-inside, leg-small}
use Rattle.basics.proofs.ListLaws.{all_take}
use Rattle.bounds.specs.Sized as Inside
use Rattle.bounds.specs.Bounds.{Early, begun, TotalsFit}
use Rattle.bounds.proofs.BoundLaws.{start-early, clock-most, totals-fit}
use Rattle.theorems.proofs.Roads.{by-leg, home-is, home-has, home-closed}
use Rattle.theorems.proofs.Accepted.{present-same}
use Rattle.theorems.proofs.Legality.{plain}
use Rattle.whole.specs.Whole.{fl}
use Rattle.whole.proofs.WholeLaws.{fl-add}
use Rattle.whole.proofs.LargerLaws.{larger-fl}
use Rattle.models.specs.Image.{fl_break}
use Rattle.models.specs.Limits.{allow_f}
use Rattle.models.proofs.Exact.{Small, allow-exact}
use Rattle.distance.specs.declared.leg.Leg as D
use Rattle.distance.proofs.Exact.{fl_leg}
use Rattle.clock.specs.declared.schedule.Label.{Label}
use Rattle.clock.specs.Serving.{break_start_f}
use Rattle.clock.specs.Image.{fl_label, fl_totals}
use Rattle.clock.proofs.ServingExact.{through}
use Rattle.clock.proofs.HomeExact.{home-exact}
use Rattle.evaluation.specs.declared.way.Way.{Way}
use Rattle.evaluation.specs.Records.{Tables}
use Rattle.evaluation.specs.Tables.{record_f, leg_f}
use Rattle.evaluation.specs.Way.{start_way, way_on_f, through_f, way_f, homeward_f, plain_f, closed_f}
use Rattle.evaluation.specs.Route.{totals_f, allowed_f, break_start_at_f, start_f, feasible_f, priced_f, cost_f, eval_f}
use Rattle.evaluation.specs.Image.{fl_evaluation, fl_cost, fl_limits, Image}
use Rattle.evaluation.proofs.ClockExact.{carried-early, carry-exact, leg-exact, schedule-exact}

-- an answer that goes on twice goes on once
pub joined : {A B C : Type 0} (o : Option A) (f : A → Option B) (g : B → Option C) → ((o >>= f) >>= g) ≡ (o >>= λ a. f a >>= g)
joined None f g = refl
joined (Some a) f g = refl

-- the totals, and when the break starts
abbrev evaluated : Sheet → List ℕ → Totals → Evaluation
evaluated s calls u = record { totals = u; start = start_of s (record { calls = calls; place = u.place }) }

pub small-limit : (o : Option ℕ) → Holds Inside.Small o → Small o
small-limit None h = tt
small-limit (Some n) h = omega arith

module _ (s : Sheet) (S : Sized s) (t : Tables) (I : Image s t) where
  -- ---- closed legs

  open-alike : (a b : ℕ) → Place s a → Place s b → present (leg_f t a b) ≡ present (drive s a b)
  open-alike a b p q = ap (λ (o : Option D.Leg). present o) (leg-exact s S t I a b p q) ∙ present-same fl_leg (drive s a b)

  closed-from-exact : (k a : ℕ) (calls : List ℕ) → Place s a → All (Place s) calls → closed_f (leg_f t) k a calls ≡ closed_from s k a calls
  unfolding closed_f closed_from
  closed-from-exact k a [] p i = ap (λ (b : Bool). cond b None (Some k)) (open-alike a 0 p (depot-inside s S))
  closed-from-exact k a (c ∷ cs) p i =
      ap (λ (b : Bool). cond b (closed_f (leg_f t) (suc k) c cs) (Some k)) (open-alike a c p i.0)
      ∙ ap (λ (o : Option ℕ). cond (present (drive s a c)) o (Some k)) (closed-from-exact (suc k) c cs i.0 i.1)

  -- the first closed leg of a run
  pub first-closed-exact : (calls : List ℕ) → All (Place s) calls → closed_f (leg_f t) 1 0 calls ≡ first_closed s calls
  first-closed-exact calls i = closed-from-exact 1 0 calls (depot-inside s S) i

  -- ---- with no break

  -- without a break the number of a call plays no part
  unnumbered : (j a c : ℕ) → 0 < j → (m : Option Whole.Label) → (m >>= serve s None 0 a c) ≡ (m >>= serve s (break_at s 0 j) j a c)
  unfolding serve_at
  unnumbered j a c h None = refl
  unnumbered j a c h (Some l) = rw (ne_eqb 0 j (λ (e : 0 ≡ j). off e))
    where
      off : 0 ≡ j → ⊥
      off e = omega arith

  nowhere : (j a : ℕ) (calls : List ℕ) → serve_all s 0 j a None calls ≡ None
  unfolding serve_all
  nowhere j a [] = refl
  nowhere j a (c ∷ cs) = nowhere (suc j) c cs

  -- the way so far: the distance, the label and the last place
  record Gone : Type 0 where
    far : ℕ
    label : Whole.Label
    prev : ℕ

  abbrev fl_way : Gone → Way
  fl_way w = record { distance = fl w.far; label = fl_label w.label; prev = w.prev }

  abbrev begin : Gone
  begin = record { far = 0; label = start; prev = 0 }

  -- the way on through these calls
  way_of : Gone → List ℕ → Option Gone
  way_of w [] = Some w
  way_of w (c ∷ cs) = drive s w.prev c >>= λ g. serve s None 0 w.prev c w.label >>= λ m. way_of (record { far = w.far + g.length; label = m; prev = c }) cs

  -- what is known after k calls
  record Ahead (k : ℕ) (w : Gone) : Type 0 where
    far-most : w.far ≤ k * most_number
    early : Early k w.label
    inside : Place s w.prev

  module _ (k : ℕ) (few : k < most_calls) (w : Gone) (A : Ahead k w) (c : ℕ) (q : Place s c) (g : Leg) (e : drive s w.prev c ≡ Some g) where
    abbrev on : Whole.Label → Gone
    on m = record { far = w.far + g.length; label = m; prev = c }

    on-ahead : (m : Whole.Label) → serve s None 0 w.prev c w.label ≡ Some m → Ahead (suc k) (on m)
    on-ahead m h =
        record {
          far-most = omega (arith, A.far-most, (leg-small s S w.prev c g e).0);
          early = subst (Holds (Early (suc k))) h (carried-early s S t I k few None tt 0 w.prev c g e (Some w.label) A.early);
          inside = q;
        }

    on-exact : way_on_f (record_f t c) (fl g.length) (fl g.travel) (fl_way w) c ≡ (serve s None 0 w.prev c w.label >>= λ m. Some (fl_way (on m)))
    unfolding way_on_f
    on-exact =
        ap (λ (o : Option Label). o >>= λ l. Some (record { distance = Ieee.add binary64 (fl w.far) (fl g.length); label = l; prev = c }))
        (carry-exact s S t I k few None tt 0 w.prev c g e q (Some w.label) A.early)
        ∙ go (serve s None 0 w.prev c w.label)
      where
        go : (o : Option Whole.Label)
            → (option_map fl_label o >>= λ l. Some (record { distance = Ieee.add binary64 (fl w.far) (fl g.length); label = l; prev = c })) ≡ (o >>= λ m. Some (fl_way (on m)))
        go None = refl
        go (Some m) = rw (fl-add w.far g.length (omega (arith, A.far-most)) (omega (arith, (leg-small s S w.prev c g e).0)))

  way-exact : (k : ℕ) (w : Gone) (calls : List ℕ) → k + length calls ≤ most_calls → Ahead k w → All (Place s) calls → way_f t (fl_way w) calls ≡ option_map fl_way (way_of w calls)
  unfolding through_f way_of
  way-exact k w [] h A i = refl
  way-exact k w (c ∷ cs) h A i =
      by-leg s w.prev c (λ e. ap (λ (o : Option D.Leg). o >>= driven) (looked None e) ∙ sym (ap (λ (o : Option Leg). option_map fl_way (o >>= goes)) e))
      (λ g e. let f : k < most_calls = omega arith in
      ap (λ (o : Option D.Leg). o >>= driven) (looked (Some g) e)
      ∙ ap (λ (o : Option Way). o >>= λ v. way_f t v cs) (on-exact k f w A c i.0 g e)
      ∙ go (serve s None 0 w.prev c w.label) refl (on k f w A c i.0 g e)
      (λ m q. way-exact (suc k) (on k f w A c i.0 g e m) cs (omega arith) (on-ahead k f w A c i.0 g e m q) i.1)
      ∙ sym (ap (λ (o : Option Leg). option_map fl_way (o >>= goes)) e))
    where
      -- what follows the leg, in floats and in whole numbers
      driven : D.Leg → Option Way
      driven g = way_on_f (record_f t c) g.distance g.time (fl_way w) c >>= λ v. way_f t v cs

      goes : Leg → Option Gone
      goes g = serve s None 0 w.prev c w.label >>= λ m. way_of (record { far = w.far + g.length; label = m; prev = c }) cs

      looked : (o : Option Leg) → drive s w.prev c ≡ o → leg_f t w.prev c ≡ option_map fl_leg o
      looked o e = leg-exact s S t I w.prev c A.inside i.0 ∙ ap (option_map fl_leg) e

      go : (o : Option Whole.Label) → serve s None 0 w.prev c w.label ≡ o → (next : Whole.Label → Gone)
          → ((m : Whole.Label) → serve s None 0 w.prev c w.label ≡ Some m → way_f t (fl_way (next m)) cs ≡ option_map fl_way (way_of (next m) cs))
          → ((o >>= λ m. Some (fl_way (next m))) >>= λ v. way_f t v cs) ≡ option_map fl_way (o >>= λ m. way_of (next m) cs)
      go None e next ih = refl
      go (Some m) e next ih = ih m e

  way-ahead : (k : ℕ) (w : Gone) (calls : List ℕ) → k + length calls ≤ most_calls → Ahead k w → All (Place s) calls → (v : Gone) → way_of w calls ≡ Some v → Ahead (k + length calls) v
  unfolding way_of
  way-ahead k w [] h A i v q = subst (λ (n : ℕ). Ahead n v) (omega arith) (subst (Ahead k) (same q) A)
  way-ahead k w (c ∷ cs) h A i v q =
      let x = bound (drive s w.prev c) _ v q in
      let y = bound (serve s None 0 w.prev c w.label) _ v x.2 in
      subst (λ (n : ℕ). Ahead n v) (omega arith)
      (way-ahead (suc k) _ cs (omega arith) (on-ahead k (omega arith) w A c i.0 x.0 x.1 y.0 y.1) i.1 v y.2)

  -- the label is that of the calls served with no break, and the last place theirs
  way-label : (w : Gone) (j : ℕ) → 0 < j → (calls : List ℕ) → option_map (λ (v : Gone). v.label) (way_of w calls) ≡ serve_all s 0 j w.prev (Some w.label) calls
  unfolding way_of serve_all
  way-label w j h [] = refl
  way-label w j h (c ∷ cs) =
      by-leg s w.prev c (λ e. ap (λ (o : Option Leg). label_of (o >>= goes)) e ∙ sym (closed e))
      (λ g e. ap (λ (o : Option Leg). label_of (o >>= goes)) e
      ∙ go (serve s None 0 w.prev c w.label) g (λ m. way-label (record { far = w.far + g.length; label = m; prev = c }) (suc j) (omega arith) cs)
      ∙ ap (λ (o : Option Whole.Label). serve_all s 0 (suc j) c o cs) (unnumbered j w.prev c h (Some w.label)))
    where
      label_of : Option Gone → Option Whole.Label
      label_of o = option_map (λ (v : Gone). v.label) o

      goes : Leg → Option Gone
      goes g = serve s None 0 w.prev c w.label >>= λ m. way_of (record { far = w.far + g.length; label = m; prev = c }) cs

      closed : drive s w.prev c ≡ None → serve_all s 0 (suc j) c (serve s (break_at s 0 j) j w.prev c w.label) cs ≡ None
      closed e = rw e (nowhere (suc j) c cs)

      go : (o : Option Whole.Label) (g : Leg)
          → ((m : Whole.Label) → label_of (way_of (record { far = w.far + g.length; label = m; prev = c }) cs) ≡ serve_all s 0 (suc j) c (Some m) cs)
          → label_of (o >>= λ m. way_of (record { far = w.far + g.length; label = m; prev = c }) cs) ≡ serve_all s 0 (suc j) c o cs
      go None g ih = sym (nowhere (suc j) c cs)
      go (Some m) g ih = ih m

  way-prev : (w : Gone) (calls : List ℕ) (v : Gone) → way_of w calls ≡ Some v → v.prev ≡ last_of w.prev calls
  unfolding way_of
  way-prev w [] v q = ap (λ (x : Gone). x.prev) (sym (same q))
  way-prev w (c ∷ cs) v q =
      let x = bound (drive s w.prev c) _ v q in
      let y = bound (serve s None 0 w.prev c w.label) _ v x.2 in
      way-prev (record { far = w.far + x.0.length; label = y.0; prev = c }) cs v y.2

  -- and its distance with the way home that of the run
  way-far : (w : Gone) (calls : List ℕ) (v : Gone) → way_of w calls ≡ Some v
      → option_map (λ (d : ℕ). w.far + d) (distance_from s w.prev calls) ≡ option_map (λ (g : Leg). v.far + g.length) (drive s v.prev 0)
  unfolding way_of
  way-far w [] v q = rw (← same q) (go (drive s w.prev 0))
    where
      go : (o : Option Leg) → option_map (λ (d : ℕ). w.far + d) (option_map (λ (g : Leg). g.length) o) ≡ option_map (λ (g : Leg). w.far + g.length) o
      go None = refl
      go (Some g) = refl
  way-far w (c ∷ cs) v q =
      let x = bound (drive s w.prev c) _ v q in
      let y = bound (serve s None 0 w.prev c w.label) _ v x.2 in
      ap (λ (o : Option Leg). option_map (λ (d : ℕ). w.far + d) (o >>= λ l. distance_from s c cs >>= λ d. Some (l.length + d))) x.1 ∙ go x.0 (distance_from s c cs)
      ∙ way-far (record { far = w.far + x.0.length; label = y.0; prev = c }) cs v y.2
    where
      go : (g : Leg) (o : Option ℕ) → option_map (λ (d : ℕ). w.far + d) (o >>= λ d. Some (g.length + d)) ≡ option_map (λ (d : ℕ). w.far + g.length + d) o
      go g None = refl
      go g (Some d) = ap Some (sym (add_assoc w.far g.length d))

  module _ (calls : List ℕ) (few : length calls ≤ most_calls) (i : All (Place s) calls) where
    begun-ahead : Ahead 0 begin
    begun-ahead = record { far-most = omega arith; early = start-early; inside = depot-inside s S }

    -- the label after the calls
    abbrev last : Option Whole.Label
    last = serve_all s 0 1 0 (Some start) calls

    -- with no break on the sheet the clock has the one label
    pub plain-clock : s.head.rest ≡ None → clock s calls ≡ (last >>= home s calls)
    unfolding clock
    plain-clock rest-is =
        by-leg s (last_of 0 calls) 0 (λ e. rw e (sym (unbound last _ (λ l. back-closed e l))))
        (λ g e. rw e (ap (λ (o : Option Break). counts o g.travel (clock_from s 1 0 begun calls) >>= home s calls) rest-is
        ∙ ap (λ (o : Option Whole.Label). o >>= home s calls) (plain s calls)))
      where
        back-closed : drive s (last_of 0 calls) 0 ≡ None → (l : Whole.Label) → home s calls l ≡ None
        back-closed e l = go (home s calls l) refl
          where
            go : (o : Option Totals) → home s calls l ≡ o → o ≡ None
            go None q = refl
            go (Some u) q = clash (sym e ∙ (home-has s calls l u q).3)

    pub plain-exact : s.head.rest ≡ None → plain_f t start_way calls ≡ option_map fl_totals (clock s calls)
    unfolding plain_f
    plain-exact rest-is =
        ap (λ (o : Option Way). o >>= homeward_f t) (way-exact 0 begin calls (omega arith) begun-ahead i)
        ∙ go (way_of begin calls) refl
        ∙ ap (option_map fl_totals) (sym (plain-clock rest-is))
      where
        -- the way home of a run that is driven so far
        one : (v : Gone) → way_of begin calls ≡ Some v → homeward_f t (fl_way v) ≡ option_map fl_totals (home s calls v.label)
        one v e =
            let A = way-ahead 0 begin calls (omega arith) begun-ahead i v e in
            let far = way-far begin calls v e in
            by-leg s v.prev 0
            (λ q. rw (leg-exact s S t I v.prev 0 A.inside (depot-inside s S), q)
            (ap (option_map fl_totals) (sym (home-closed s calls (emptied (distance_from s 0 calls) (far ∙ ap (option_map (λ (g : Leg). v.far + g.length)) q)) v.label))))
            (λ g q. let m = leg-small s S v.prev 0 g q in
            rw (leg-exact s S t I v.prev 0 A.inside (depot-inside s S), q, fl-add v.far g.length (omega (arith, A.far-most)) (omega (arith, m.0)))
            (home-exact (length calls) few (v.far + g.length) g.travel m.1 v.label (subst (λ (n : ℕ). Early n v.label) (omega arith) A.early)
            ∙ ap (option_map fl_totals)
            (sym (home-is s calls (v.far + g.length) g (filled (distance_from s 0 calls) _ (far ∙ ap (option_map (λ (g : Leg). v.far + g.length)) q))
            (subst (λ (a : ℕ). drive s a 0 ≡ Some g) (way-prev begin calls v e) q) v.label))))
          where
            emptied : (o : Option ℕ) → option_map (λ (d : ℕ). 0 + d) o ≡ None → o ≡ None
            emptied None h = refl
            emptied (Some d) h = clash (sym h)

            filled : (o : Option ℕ) (n : ℕ) → option_map (λ (d : ℕ). 0 + d) o ≡ Some n → o ≡ Some n
            filled None n h = clash h
            filled (Some d) n h = ap Some (sym (zero-add d) ∙ same h)

        go : (o : Option Gone) → way_of begin calls ≡ o → (option_map fl_way o >>= homeward_f t) ≡ option_map fl_totals (last >>= home s calls)
        go None e = ap (λ (o : Option Whole.Label). option_map fl_totals (o >>= home s calls)) (sym (ap (option_map (λ (v : Gone). v.label)) e) ∙ way-label begin 1 (omega arith) calls)
        go (Some v) e =
            one v e
            ∙ ap (λ (o : Option Whole.Label). option_map fl_totals (o >>= home s calls)) (sym (ap (option_map (λ (v : Gone). v.label)) e) ∙ way-label begin 1 (omega arith) calls)

    -- ---- with a break or without

    pub totals-exact : totals_f t (option_map fl_break s.head.rest) calls ≡ option_map fl_totals (clock s calls)
    unfolding totals_f
    totals-exact = go s.head.rest refl
      where
        go : (o : Option Break) → s.head.rest ≡ o → totals_f t (option_map fl_break o) calls ≡ option_map fl_totals (clock s calls)
        go None e = plain-exact e
        go (Some b) e = schedule-exact s S t I b e calls few i

    totals-fit-here : (u : Totals) → clock s calls ≡ Some u → TotalsFit u
    totals-fit-here u e = totals-fit (length calls) few u (clock-most s S calls few u e)

    -- the totals of a run that keeps the limits
    abbrev kept : Option Totals
    kept = clock s calls >>= λ u. given (allowed s u) u

    allowed-one : (u : Totals) → clock s calls ≡ Some u
        → given (allow_f (fl_limits s).max_distance (fl_limits s).max_duration (fl u.distance) (fl u.duration)) (fl_totals u) ≡ option_map fl_totals (given (allowed s u) u)
    allowed-one u e =
        let F = totals-fit-here u e in
        let far = small-limit s.head.max_distance S.far-small in
        let long = small-limit s.head.max_duration S.long-small in
        rw (allow-exact s.head.max_distance s.head.max_duration u.distance u.duration far long F.distance-fits F.duration-fits)
        (by-test (allowed s u) (λ y. rw y) (λ n. rw n))

    pub allowed-exact : allowed_f t (fl_limits s) calls ≡ option_map fl_totals kept
    unfolding allowed_f
    allowed-exact = rw totals-exact (through (clock s calls) fl_totals _ fl_totals (λ u. given (allowed s u) u) allowed-one)

    -- ---- when the break starts

    -- the break at call number k, from 0, in whole numbers
    abbrev start_at : Break → ℕ → Option ℕ
    start_at b k =
        serve_all s 0 1 0 (Some start) (take k calls)
        >>= λ l. drive s (last_of 0 (take k calls)) (get_or calls k 0)
        >>= λ g. Some (break_start b (l.time + g.travel))

    break-start-exact : (b : Break) → SmallBreak b → (k : ℕ) → break_start_at_f t (fl_break b) k calls ≡ option_map fl (start_at b k)
    unfolding break_start_at_f
    break-start-exact b B k =
        ap (λ (o : Option Way). o >>= begins) (way-exact 0 begin done (omega (arith, less)) begun-ahead within)
        ∙ go (way_of begin done) refl
        ∙ ap (λ (o : Option Whole.Label). option_map fl (o >>= begun-at)) (way-label begin 1 (omega arith) done)
      where
        done : List ℕ
        done = take k calls

        less : length done ≤ most_calls
        less = simp length-take (omega arith)

        within : All (Place s) done
        within = all_take (Place s) k calls i

        to : ℕ
        to = get_or calls k 0

        begins : Way → Option Float
        begins d = leg_f t d.prev to >>= λ g. Some (break_start_f (fl_break b) (Ieee.add binary64 d.label.time g.time))

        begun-at : Whole.Label → Option ℕ
        begun-at l = drive s (last_of 0 done) to >>= λ g. Some (break_start b (l.time + g.travel))

        one : (v : Gone) → way_of begin done ≡ Some v → begins (fl_way v) ≡ option_map fl (begun-at v.label)
        one v e =
            let A = way-ahead 0 begin done (omega (arith, less)) begun-ahead within v e in
            let p = way-prev begin done v e in
            by-leg s (last_of 0 done) to (λ q. rw (p, leg-exact s S t I (last_of 0 done) to (subst (Place s) p A.inside) (call-inside s S calls k i), q))
            (λ g q. let m = leg-small s S (last_of 0 done) to g q in
            let E = A.early in
            rw (p, leg-exact s S t I (last_of 0 done) to (subst (Place s) p A.inside) (call-inside s S calls k i), q)
            (rw (fl-add v.label.time g.travel (omega (arith, less)) (omega (arith, m.1)), larger-fl (v.label.time + g.travel) b.earliest (omega (arith, less, m.1)) (omega arith))))

        go : (o : Option Gone) → way_of begin done ≡ o → (option_map fl_way o >>= begins) ≡ option_map fl (option_map (λ (v : Gone). v.label) o >>= begun-at)
        go None e = refl
        go (Some v) e = one v e

    pub start-exact : (place : ℕ) → start_f t (option_map fl_break s.head.rest) place calls ≡ option_map fl (start_of s (record { calls = calls; place = place }))
    unfolding start_f start_of
    start-exact zero = unplaced s.head.rest
      where
        unplaced : (o : Option Break) → start_f t (option_map fl_break o) zero calls ≡ None
        unplaced None = refl
        unplaced (Some b) = refl
    start-exact (suc k) = go s.head.rest S.rest-small
      where
        go : (o : Option Break) → Holds SmallBreak o → start_f t (option_map fl_break o) (suc k) calls ≡ option_map fl (o >>= λ b. start_at b k)
        go None B = refl
        go (Some b) B = break-start-exact b B k

    -- ---- the evaluations

    pub sized-eval-exact : eval_f t (fl_limits s) calls ≡ option_map fl_evaluation (route_eval s calls)
    unfolding eval_f route_eval
    sized-eval-exact = rw allowed-exact (go (clock s calls))
      where
        go : (o : Option Totals)
            → (option_map fl_totals (o >>= λ u. given (allowed s u) u) >>= λ u. Some (record { totals = u; start = start_f t (option_map fl_break s.head.rest) u.place calls }))
            ≡ option_map fl_evaluation (o >>= λ u. given (allowed s u) (evaluated s calls u))
        go None = refl
        go (Some u) = by-test (allowed s u) (λ y. rw (y, start-exact u.place)) (λ n. rw n)

    pub sized-feasible-exact : feasible_f t (fl_limits s) calls ≡ route_feasible s calls
    unfolding feasible_f route_feasible route_eval
    sized-feasible-exact = rw allowed-exact (go (clock s calls))
      where
        go : (o : Option Totals)
            → present (option_map fl_totals (o >>= λ u. given (allowed s u) u))
            ≡ present (o >>= λ u. given (allowed s u) (evaluated s calls u))
        go None = refl
        go (Some u) = by-test (allowed s u) (λ y. rw y) (λ n. rw n)

    pub sized-cost-exact : cost_f t (fl_limits s) calls ≡ fl_cost (effective_cost s calls)
    unfolding cost_f effective_cost route_eval
    sized-cost-exact = rw allowed-exact (go (clock s calls) refl)
      where
        go : (o : Option Totals) → clock s calls ≡ o
            → priced_f (option_map fl_totals (o >>= λ u. given (allowed s u) u))
            ≡ fl_cost ((o >>= λ u. given (allowed s u) (evaluated s calls u)) >>= λ e. Some (e.totals.distance + e.totals.pay))
        go None e = refl
        go (Some u) e =
            let F = totals-fit-here u e in
            by-test (allowed s u) (λ y. rw (y, fl-add u.distance u.pay F.distance-fits F.pay-fits)) (λ n. rw n)

-- ---- by the limits of the Domain

module _ (s : Sheet) (W : Within s) (t : Tables) (I : Image s t) (calls : List ℕ) (C : WithinCalls s calls) where
  pub eval-exact : eval_f t (fl_limits s) calls ≡ option_map fl_evaluation (route_eval s calls)
  eval-exact = sized-eval-exact s (sized s W) t I calls (few-calls s calls C) (calls-inside s calls C)

  pub feasible-exact : feasible_f t (fl_limits s) calls ≡ route_feasible s calls
  feasible-exact = sized-feasible-exact s (sized s W) t I calls (few-calls s calls C) (calls-inside s calls C)

  pub cost-exact : cost_f t (fl_limits s) calls ≡ fl_cost (effective_cost s calls)
  cost-exact = sized-cost-exact s (sized s W) t I calls (few-calls s calls C) (calls-inside s calls C)
