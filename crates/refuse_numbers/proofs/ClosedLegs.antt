-- Closed legs: on numbers of leg tables the floats' test is that of the whole numbers. Assumes nothing.
use native.Mathlib.Omega.{arith}
use mathlib.Core.Path.{◌≡◌, refl, ap₂, ◌∙◌}
use mathlib.Core.Bool.{Bool, false, cond, not, ◌||◌, and-true}
use mathlib.Core.List.{List, [], ◌∷◌}
use lib.Ieee.{Float}
use Rattle.basics.proofs.TestLaws.{or_left, or_right}
use Rattle.basics.specs.Lists.{any}
use Rattle.definitions.specs.Domain.{no_road, is_closed, is_leg}
use Rattle.definitions.specs.Lent.{whole}
use Rattle.definitions.specs.Refusals.{unfit, disagree}
use Rattle.theorems.proofs.Accepted.{held}
use Rattle.whole.specs.Whole.{fl}
use Rattle.whole.specs.Value.{value}
use Rattle.whole.proofs.Fractions.{eq-exact}
use Rattle.whole.proofs.ValueLaws.{value-is, value-fl}
use Rattle.distance.specs.Lookup.{is_closed_f}
use Rattle.refuse_numbers.specs.ClosedLegs.{disagree_f}

pub closed-exact : (x : Float) → unfit value is_leg x ≡ false → is_closed_f x ≡ is_closed (whole value x)
unfolding is_closed_f
closed-exact x h =
    eq-exact false false (whole value x) no_road x (fl no_road) (value-is x (whole value x) (held value is_leg x h).0)
    (value-is (fl no_road) no_road (value-fl no_road (omega arith))) ∙ and-true (is_closed (whole value x))

pub any-exact : (l : List Float) → any (unfit value is_leg) l ≡ false → any is_closed_f l ≡ any (λ (x : Float). is_closed (whole value x)) l
any-exact [] h = refl
any-exact (x ∷ l) h =
    ap₂ (λ (a b : Bool). a || b) (closed-exact x (or_left (unfit value is_leg x) (any (unfit value is_leg) l) h)) (any-exact l (or_right (unfit value is_leg x) (any (unfit value is_leg) l) h))

pub disagree-exact : (ds ts : List Float) → any (unfit value is_leg) ds ≡ false → any (unfit value is_leg) ts ≡ false → disagree_f ds ts ≡ disagree value ds ts
disagree-exact [] ts h k = refl
disagree-exact (d ∷ ds) [] h k = refl
disagree-exact (d ∷ ds) (t ∷ ts) h k =
    let far = closed-exact d (or_left (unfit value is_leg d) (any (unfit value is_leg) ds) h) in
    let long = closed-exact t (or_left (unfit value is_leg t) (any (unfit value is_leg) ts) k) in
    ap₂ (λ (a b : Bool). a || b) (ap₂ (λ (a b : Bool). cond a (not b) b) far long)
    (disagree-exact ds ts (or_right (unfit value is_leg d) (any (unfit value is_leg) ds) h) (or_right (unfit value is_leg t) (any (unfit value is_leg) ts) k))
