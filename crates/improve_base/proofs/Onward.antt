-- Calls one after the other from anywhere: one more on the way or by the clock, and what is left of a list of them. Assumes nothing.
use Prim.Native.Nat.{ℕ, ◌+◌, ◌≤◌, ◌<◌}
use native.Mathlib.Numerals.{add-one}
use mathlib.Core.Path.{◌≡◌, refl, sym, ap, ◌∙◌}
use mathlib.Core.Bool.{true, false}
use mathlib.Core.List.{List, [], ◌∷◌}
use Rattle.std.specs.Prelude.{Option, None, Some}
use lib.ListN.{length, get_or, drop, drop_of_length-le}
use lib.Seq.{drop-cons}
use Rattle.basics.proofs.OptionLaws.{same, bound}
use Rattle.clock.specs.Clock.{push_f, alive_f}
use Rattle.evaluation.specs.declared.way.Way.{Way}
use Rattle.evaluation.specs.Records.{Tables}
use Rattle.evaluation.specs.Tables.{leg_f}
use Rattle.evaluation.specs.Schedule.{TimedF, tick_f}
use Rattle.improve_base.specs.Prefix.{PrefixF, failed, plain, clocked_at, reached_f, drive_f, on_f, on_all_f, home_from_f, ended_f}

module _ (t : Tables) where
  -- what cannot be served stays so
  pub all-failed : (calls : List ℕ) → on_all_f t failed calls ≡ failed
  unfolding on_all_f on_f
  all-failed [] = refl
  all-failed (c ∷ cs) = all-failed cs

  pub ended-failed : (calls : List ℕ) → ended_f t failed calls ≡ None
  unfolding home_from_f
  ended-failed calls = rw (all-failed calls)

  -- ---- one call more

  pub driven-on : (w : Way) (c : ℕ) (o : Option Way) → o ≡ drive_f t w c → reached_f o ≡ on_f t (plain w) c
  unfolding on_f
  driven-on w c o e = ap reached_f e

  module _ (x : TimedF) (c : ℕ) (y : TimedF) (e : Some y ≡ tick_f t x c) where
    pub ticked-on : alive_f y.clock ≡ true → clocked_at y ≡ on_f t (clocked_at x) c
    unfolding on_f
    ticked-on a = rw (← e, a)

    pub ticked-index : y.clock.index ≡ x.clock.index + 1
    unfolding push_f
    ticked-index = let b = bound (leg_f t x.clock.prev c) _ y (sym e) in sym (ap (λ (z : TimedF). z.clock.index) (same b.2))

    pub ticked-out : alive_f y.clock ≡ false → failed ≡ on_f t (clocked_at x) c
    unfolding on_f
    ticked-out a = rw (← e, a)

  -- ---- the loop over the calls: what is left of them from call i on

  module _ (calls : List ℕ) (b : PrefixF) (i : ℕ) where
    pub on-turn : (n : PrefixF) → i < length calls → n ≡ on_f t b (get_or calls i 0) → on_all_f t b (drop i calls) ≡ on_all_f t n (drop (i + 1) calls)
    unfolding on_all_f
    on-turn n h e = rw (e, add-one, drop-cons calls i 0)

    pub on-fails : i < length calls → failed ≡ on_f t b (get_or calls i 0) → on_all_f t b (drop i calls) ≡ failed
    on-fails h e = on-turn failed h e ∙ all-failed (drop (i + 1) calls)

    pub on-end : length calls ≤ i → on_all_f t b (drop i calls) ≡ b
    unfolding on_all_f
    on-end h = rw (drop_of_length-le calls h)
