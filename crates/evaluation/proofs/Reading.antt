-- Reading a call's record in the array of 64. Assumes nothing.
use Prim.Native.Nat.{ℕ, zero, suc, ◌<◌}
use native.Mathlib.Nat.{not-suc-le-zero, le_of_suc-le-suc}
use mathlib.Core.Path.{◌≡◌, refl, sym, ap, subst, ◌∙◌}
use mathlib.Core.List.{List, [], ◌∷◌, map}
use lib.ListN.{length, get_or}
use lib.Ieee.{Float}
use Rattle.models.specs.declared.customer.Customer.{Customer}
use Rattle.models.specs.Records.{customer_of}
use Rattle.evaluation.specs.Records.{lent}
use Rattle.evaluation.specs.Tables.{record_index, blank, record_f}

pub get_d_of : {A B : Type 0} (f : A → B) (l : List A) (i : ℕ) (d : A) (e : B) → i < length l → f (get_or l i d) ≡ get_or (map f l) i e
get_d_of f [] i d e h = absurd (not-suc-le-zero h)
get_d_of f (x ∷ l) zero d e h = refl
get_d_of f (x ∷ l) (suc i) d e h = get_d_of f l i d e (le_of_suc-le-suc h)

pub read-record : (customers : List Customer) (distances times : List Float) (size c i : ℕ) (d : Customer) → length customers ≡ 64 → i ≡ record_index c → i < 64
    → customer_of (get_or customers i d) ≡ record_f (lent customers distances times size) c
unfolding record_f
read-record customers distances times size c i d long e h =
    get_d_of customer_of customers i d blank (subst (λ (n : ℕ). i < n) (sym long) h) ∙ ap (λ (j : ℕ). get_or (map customer_of customers) j blank) e
