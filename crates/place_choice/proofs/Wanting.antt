-- The places of one run that are wanted, and those that change nothing. Assumes nothing.
use Prim.Native.Nat.{ℕ, ◌+◌, ◌-◌, ◌<◌, ◌≤◌}
use native.Mathlib.Omega.{arith}
use mathlib.Core.Path.{◌≡◌, refl, sym, ap, ap₂, subst, ◌∙◌}
use mathlib.Core.Bool.{Bool, true, false, cond, ◌&&◌, false≢true}
use mathlib.Core.List.{List}
use lib.ListN.{length, take, drop}
use lib.Ieee as Ieee
use lib.Ieee.{Float, binary64}
use Rattle.models.specs.Limits.{within_f}
use Rattle.evaluation.specs.Records.{Tables}
use Rattle.evaluation.specs.Tables.{place_before}
use Rattle.improve_base.specs.Route.{far_f}
use Rattle.latest.specs.Times.{DayOf, TimesOf, set_out, serves, timely}
use Rattle.latest.specs.Floats.{floats, travel_f, hours_f, day_f, serves_f, bounds_f, Listed, between_f}
use Rattle.latest.proofs.Walking.{serves_on}
use Rattle.place_choice.specs.declared.insertion.Spot.{Spot}
use Rattle.place_choice.specs.declared.tested.Mover.{Mover}
use Rattle.place_choice.specs.Insertion.{GivenF, leg_f, folded, places_in, spot_f, adds_f, pays_f, wanted_f, Wants, fits_in_f, allowed_f, better_in}
use Rattle.place_choice.proofs.Folding.{InRun, in-first, in-more, in-skip, in-last}

not-wanted : {A : Type 0} (b p q : Bool) (x y : A) → b && p ≡ false → y ≡ cond (p && (b && q)) x y
not-wanted false false q x y e = refl
not-wanted false true q x y e = refl
not-wanted true false q x y e = refl
not-wanted true true q x y e = absurd (false≢true (sym e))

is-wanted : {A : Type 0} (b p q : Bool) (x y : A) → b && p ≡ true → cond q x y ≡ cond (p && (b && q)) x y
is-wanted true true q x y e = refl
is-wanted true false q x y e = absurd (false≢true e)
is-wanted false p q x y e = absurd (false≢true e)

pub allowed-asked : (G : GivenF) → G.search.constrained ≡ true → (c : ℕ) (run : List ℕ) (x : Spot) → fits_in_f G c run x.pos x.cost ≡ allowed_f G c run x
unfolding allowed_f
allowed-asked G e c run x = rw e

module _ (G : GivenF) (c : ℕ) (run : List ℕ) (pos : ℕ) (cost far : Float) (far-is : far ≡ far_f G.search.limits (leg_f G) run) where
  abbrev pub short : Bool
  short = within_f G.search.limits.max_distance (Ieee.add binary64 far cost)

  pub far-refused : short ≡ false → false ≡ fits_in_f G c run pos cost
  unfolding fits_in_f
  far-refused f =
      let e = ap (λ (x : Float). within_f G.search.limits.max_distance (Ieee.add binary64 x cost)) (sym far-is) ∙ f in
      sym (ap (λ (b : Bool). b && timely floats (travel_f G.tables) (hours_f G.tables.customers) (day_f G.search.limits) run pos c) e)

  -- by the times at which the calls before the place are left, and the bounds of those behind it
  module _ (day : DayOf Float) (left due : TimesOf Float) (day-is : day ≡ day_f G.search.limits)
      (left_is : left ≡ serves_f G.tables (day_f G.search.limits) (set_out floats) 0 (take pos run)) (due-is : due ≡ bounds_f G.tables (day_f G.search.limits) (drop pos run)) where
    pub fits_by : short && between_f G.tables day run pos c left due ≡ fits_in_f G c run pos cost
    unfolding fits_in_f
    fits_by =
        ap₂ (λ (x : Float) (b : Bool). within_f G.search.limits.max_distance (Ieee.add binary64 x cost) && b) far-is
        (ap (λ (d : DayOf Float). between_f G.tables d run pos c left due) day-is
        ∙ ap₂ (λ (x y : TimesOf Float). between_f G.tables (day_f G.search.limits) run pos c x y) left_is due-is)

    pub fits-short : short ≡ true → (r : Bool) → r ≡ between_f G.tables day run pos c left due → r ≡ fits_in_f G c run pos cost
    fits-short t r e = e ∙ sym (ap (λ (b : Bool). b && between_f G.tables day run pos c left due) t) ∙ fits_by

-- one of two places by both tests
pub pick-far : {A : Type 0} (w f : Bool) (x y : A) → w ≡ false → y ≡ cond (w && f) x y
pick-far w f x y e = rw e

pub pick-this : {A : Type 0} (w f : Bool) (x y : A) → w ≡ true → f ≡ true → x ≡ cond (w && f) x y
pick-this w f x y e g = rw (e, g)

pub pick-best : {A : Type 0} (w f : Bool) (x y : A) → w ≡ true → f ≡ false → y ≡ cond (w && f) x y
pick-best w f x y e g = rw (e, g)

pub listed_by : (t : Tables) (d e : DayOf Float) (run : List ℕ) (from : ℕ) (befores afters : List Float) → d ≡ e → Listed t d run from befores afters → Listed t e run from befores afters
listed_by t d e run from befores afters q L = subst (λ (x : DayOf Float). Listed t x run from befores afters) q L

none_left : (G : GivenF) (run : List ℕ) → serves_f G.tables (day_f G.search.limits) (set_out floats) 0 (take 0 run) ≡ set_out floats
unfolding serves
none_left G run = refl

module _ (G : GivenF) (m : Mover) (best : Spot) (run : List ℕ) (k : ℕ) where
  abbrev pub spot : ℕ → Spot
  spot = spot_f (leg_f G) k m.call run

  abbrev pub on : Spot → Spot → Spot
  on = better_in G m run

  -- when the calls before number i are left
  abbrev pub left_at : ℕ → TimesOf Float
  left_at i = serves_f G.tables (day_f G.search.limits) (set_out floats) 0 (take i run)

  -- pos is the next that is wanted
  pub record Choosing (first : ℕ) (found : Spot) (left : TimesOf Float) (gone pos : ℕ) : Type 0 where
    pub places : InRun on best spot (length run) found pos
    pub behind : first ≤ pos
    pub before : gone ≤ pos
    pub inside : gone ≤ length run
    pub left_is : left ≡ left_at gone
    pub wanted : pos ≤ length run → wanted_f m found (adds_f (leg_f G) run pos m.call) ≡ true

  skips : (found : Spot) (from r : ℕ) → Wants m found (leg_f G) run from r → InRun on best spot (length run) found from → InRun on best spot (length run) found r
  skips found from r W I =
      let shut : (j : ℕ) → from ≤ j → j < r → found ≡ on found (spot j) =
      λ j u v.
      not-wanted (Ieee.lt (spot j).cost found.cost) (pays_f m (spot j).cost) (allowed_f G m.call run (spot j)) (spot j) found (W.passed j u v) in
      in-skip on best spot (length run) found from r I W.at_least W.at_most shut

  -- where none is wanted
  pub none-wanted : (r : ℕ) → Wants m best (leg_f G) run 0 r → length run < r → best ≡ folded on best (places_in (leg_f G) k m.call run)
  none-wanted r W h = in-last on best spot (length run) best r (skips best 0 r W (in-first on best spot (length run))) h

  pub choosing-first : (left : TimesOf Float) (r : ℕ) → left ≡ set_out floats → Wants m best (leg_f G) run 0 r → Choosing r best left 0 r
  choosing-first left r e W =
      record {
        places = skips best 0 r W (in-first on best spot (length run));
        behind = omega arith;
        before = omega arith;
        inside = omega arith;
        left_is = e ∙ sym (none_left G run);
        wanted = W.wanted;
      }

  pub choosing-more : G.search.constrained ≡ true → (first : ℕ) (found : Spot) (left : TimesOf Float) (gone pos : ℕ) → Choosing first found left gone pos → pos ≤ length run
      → (next : TimesOf Float) → next ≡ left_at pos
      → (new : Spot) → new ≡ cond (fits_in_f G m.call run pos (spot pos).cost) (spot pos) found
      → (r : ℕ) → Wants m new (leg_f G) run (pos + 1) r → Choosing first new next pos r
  choosing-more e first found left gone pos C h next L new en r W =
      let here = en ∙ ap (λ (t : Bool). cond t (spot pos) found) (allowed-asked G e m.call run (spot pos))
      ∙ is-wanted (Ieee.lt (spot pos).cost found.cost) (pays_f m (spot pos).cost) (allowed_f G m.call run (spot pos)) (spot pos) found (C.wanted h) in
      record {
        places = skips new (pos + 1) r W (in-more on best spot (length run) found pos C.places h new here);
        behind = omega (arith, C.behind, W.at_least);
        before = omega (arith, W.at_least);
        inside = h;
        left_is = L;
        wanted = W.wanted;
      }

  -- the calls from number `gone` up to pos, as they are lent
  pub left-on : (first : ℕ) (found : Spot) (left : TimesOf Float) (gone pos : ℕ) → Choosing first found left gone pos → pos ≤ length run → (prev : ℕ) → prev ≡ place_before run gone
      → (next : TimesOf Float) → next ≡ serves_f G.tables (day_f G.search.limits) left prev (take (pos - gone) (drop gone run)) → next ≡ left_at pos
  left-on first found left gone pos C h prev ep next en =
      en ∙ ap₂ (λ (t : TimesOf Float) (a : ℕ). serves_f G.tables (day_f G.search.limits) t a (take (pos - gone) (drop gone run))) C.left_is ep
      ∙ serves_on floats (travel_f G.tables) (hours_f G.tables.customers) (day_f G.search.limits) (set_out floats) run gone pos C.before C.inside
