-- `checks::has_time_windows` meets its contract. Assumes nothing.
use Prim.Native.Nat.{ℕ, ◌<◌, min}
use native.Mathlib.Omega.{arith}
use mathlib.Core.Path.{◌≡◌, refl, sym, ◌∙◌}
use mathlib.Core.Bool.{Bool, true, false}
use mathlib.Core.List.{List, [], ◌∷◌, map}
use lib.ListN.{length, take}
use borrow.Author.Rules.{rules}
use Rattle.std.specs.Bool.{Decides, MatchBool}
use Rattle.std.specs.List.{HoldsAt, AllWithin}
use Rattle.std.proofs.lemmas.Bool.{false≢true}
use Rattle.std.proofs.lemmas.Bool.Decides.{same_from_decides, Decides-by_or}
use Rattle.std.proofs.lemmas.Iterator.{cases_from_any, YieldsList-from_slice}
use Rattle.std.proofs.lemmas.List.{take_min}
use Rattle.basics.proofs.ListLaws.{take-map}
use Rattle.models.specs.declared.customer.Customer.{Customer}
use Rattle.models.specs.Records.{customer_of}
use Rattle.evaluation.specs.Checks.{windowed, windowed_any}
use Rattle.evaluation.proofs.checks.has_time_windows.Goals as goal

abbrev has : Customer → Bool
has c = windowed (customer_of c)

abbrev Some-has : List Customer → Type 0
Some-has l = (k : ℕ) × (k < length l) × HoldsAt (λ c. has c ≡ true) l k

decides : (r : Bool) (l : List Customer) → MatchBool r (Some-has l) (AllWithin (λ c. has c ≡ false) l 0 (length l)) → Decides r (Some-has l)
decides true l h = (λ _. h, λ _. refl)
decides false [] h = (λ e. absurd (false≢true e), λ w. absurd (omega (arith, w.1)))
decides false (x ∷ l) h = (λ e. absurd (false≢true e), λ w. absurd (false≢true (sym (h w.0 x (omega arith) w.1) ∙ w.2 x)))

pub returns : goal.returns
returns c =
    let l = take c.fewer-end.result c.args.customers in
    let by_call = cases_from_any _ _ _ (λ x. has x ≡ true) (λ x. has x ≡ false) c.any.ensures.ran (YieldsList-from_slice l cc) (λ x q k. search rules) (λ x q k. search rules) in
    let by_spec = Decides-by_or has (λ x. has x ≡ true) (λ (m : List Customer). windowed_any (map customer_of m)) (λ x. (λ e. e, λ e. e)) refl (λ _ _. refl) l in
    let same : c.fewer-end.result ≡ min c.args.n (length c.args.customers) = omega (arith, c.well_formed.0.1.0.1) in
    same_from_decides _ _ (decides _ l by_call) by_spec ∙ rw (same, take_min c.args.n c.args.customers, take-map customer_of c.args.n c.args.customers)
