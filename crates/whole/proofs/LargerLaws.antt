-- Of whole numbers `larger_f` is the larger. Assumes nothing.
use Rattle.std.proofs.Common.{◌≡◌, ℕ, ◌≤◌, max, ltb, arith, ltb-false, ltb-true}
use Rattle.basics.proofs.TestLaws.{by-test}
use Rattle.whole.specs.Whole.{fl, limit}
use Rattle.whole.proofs.WholeLaws.{fl-lt}
use Rattle.whole.specs.Larger.{larger_f}

pub larger-fl : (a b : ℕ) → a ≤ limit → b ≤ limit → larger_f (fl a) (fl b) ≡ fl (max a b)
larger-fl a b p q =
    rw (fl-lt a b p q)
    (by-test (ltb a b)
    (λ e. let h = ltb-true a b e in let m : b ≡ max a b = omega arith in rw (e, ← m))
    (λ e. let h = ltb-false a b e in let m : a ≡ max a b = omega arith in rw (e, ← m)))
