-- Without window, limit and break `split` answers the same as `split_tw`. Assumes nothing.
use Prim.Native.Nat.{ℕ}
use mathlib.Core.Path.{◌≡◌, refl, sym, ap, ◌∙◌, fun_ext}
use mathlib.Core.Bool.{Bool, true, false, not, ◌&&◌}
use mathlib.Core.List.{List}
use Rattle.std.specs.Prelude.{Option, None, Some}
use Rattle.basics.specs.Options.{◌>>=◌, given}
use Rattle.basics.specs.Lists.{is_empty}
use Rattle.definitions.specs.Sheet.{Sheet}
use Rattle.definitions.specs.Run.{distance_from, Totals, fits, allowed, price}
use Rattle.definitions.specs.Clock.{Arc, arc}
use Rattle.definitions.specs.Drop.{plan_by, split_tw, plain_arc, split}
use Rattle.theorems.proofs.Legality.{clock-closed}
use Rattle.theorems.proofs.Plain.{Plain, plain-clock}

module _ (s : Sheet) (P : Plain s) where
  arc-is : (calls : List ℕ) → arc s calls ≡ plain_arc s calls
  unfolding arc plain_arc
  arc-is calls = go (distance_from s 0 calls) refl
    where
      -- the price of the clock's totals
      priced : Option Totals → Option Arc
      priced o = o >>= λ t. given {A = Arc} (not (is_empty calls) && fits s calls && allowed s t) (record { place = t.place; cost = price s t.distance t.pay })

      same-price : (b : Bool) (d : ℕ) (t : Totals) → allowed s t ≡ true → t.distance ≡ d → t.pay ≡ 0 → t.place ≡ 0
          → given {A = Arc} (b && allowed s t) (record { place = t.place; cost = price s t.distance t.pay }) ≡ given b (record { place = 0; cost = price s d 0 })
      same-price false d t a e p q = refl
      same-price true d t a e p q = rw (a, e, p, q) refl

      go : (o : Option ℕ) → distance_from s 0 calls ≡ o → arc s calls ≡ plain_arc s calls
      go None e = ap priced (clock-closed s calls e) ∙ sym (ap (λ (o : Option ℕ). o >>= λ d. given {A = Arc} (not (is_empty calls) && fits s calls) (record { place = 0; cost = price s d 0 })) e)
      go (Some d) e =
          let (t, c, a, f, p, q) = plain-clock s P calls d e in
          ap priced c ∙ same-price (not (is_empty calls) && fits s calls) d t a f p q
          ∙ sym (ap (λ (o : Option ℕ). o >>= λ d. given {A = Arc} (not (is_empty calls) && fits s calls) (record { place = 0; cost = price s d 0 })) e)

  arc-plain : arc s ≡ plain_arc s
  arc-plain = fun_ext arc-is

  pub split-same : (tour : List ℕ) → split s tour ≡ split_tw s tour
  unfolding split split_tw
  split-same tour = ap (λ (f : List ℕ → Option Arc). plan_by f s tour) (sym arc-plain)
