-- On numbers in range, ready above due and earliest above latest by the floats' order are those of the whole numbers. Assumes nothing.
use mathlib.Core.Path.{◌≡◌, refl, ap₂}
use mathlib.Core.Bool.{Bool, false, ◌||◌}
use mathlib.Core.List.{List, [], ◌∷◌}
use Rattle.std.specs.Prelude.{Option, None, Some}
use lib.Ieee as Ieee
use lib.Ieee.{Float}
use Rattle.basics.proofs.TestLaws.{or_left, or_right}
use Rattle.basics.specs.Lists.{any}
use Rattle.definitions.specs.Domain.{is_number}
use Rattle.definitions.specs.Sheet.{WindowOf, BreakOf, CustomerOf, SheetOf, records}
use Rattle.definitions.specs.Refusals.{unfit, bad_break, bad_window, bad_customer, bad_sheet, above, window_falls, break_falls, pairs_fall}
use Rattle.theorems.proofs.Ranges.{break-in-range, window-in-range, customer-in-range, in-range}
use Rattle.theorems.proofs.Accepted.{held}
use Rattle.whole.proofs.Fractions.{lt-exact}
use Rattle.whole.specs.Value.{value}
use Rattle.whole.proofs.ValueLaws.{value-is}
use Rattle.refuse_numbers.specs.Falling.{window_falls_f, break_falls_f, pairs_fall_f}

-- two numbers in range
pub above-exact : (x y : Float) → unfit value is_number x ≡ false → unfit value is_number y ≡ false → Ieee.lt y x ≡ above value x y
above-exact x y h k = lt-exact false false _ _ y x (value-is y _ (held value is_number y k).0) (value-is x _ (held value is_number x h).0)

window-exact : (w : Option (WindowOf Float)) → bad_window value w ≡ false → window_falls_f w ≡ window_falls value w
window-exact None h = refl
window-exact (Some w) h = let R = window-in-range value w h in above-exact w.ready w.due R.ready R.due

break-exact : (b : Option (BreakOf Float)) → bad_break value b ≡ false → break_falls_f b ≡ break_falls value b
break-exact None h = refl
break-exact (Some b) h = let R = break-in-range value b h in above-exact b.earliest b.latest R.earliest R.latest

windows-exact : (cs : List (CustomerOf Float)) → any (bad_customer value) cs ≡ false
    → any (λ (c : CustomerOf Float). window_falls_f c.window) cs ≡ any (λ (c : CustomerOf Float). window_falls value c.window) cs
windows-exact [] h = refl
windows-exact (c ∷ cs) h =
    ap₂ (λ (a b : Bool). a || b) (window-exact c.window (customer-in-range value c (or_left (bad_customer value c) (any (bad_customer value) cs) h)).window)
    (windows-exact cs (or_right (bad_customer value c) (any (bad_customer value) cs) h))

pub pairs-exact : (s : SheetOf Float) → bad_sheet value s ≡ false → pairs_fall_f s ≡ pairs_fall value s
unfolding pairs_fall_f pairs_fall
pairs-exact s h = let R = in-range value s h in ap₂ (λ (a b : Bool). a || b) (break-exact s.head.rest R.rest) (windows-exact (records s) R.customers)
