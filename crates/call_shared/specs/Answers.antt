-- An answer over the customers lent, of which a call sees an array. Definitions only.
use Rattle.std.specs.Prelude.{ℕ, ◌≡◌, List}
use Rattle.models.specs.declared.customer.Customer.{Customer}
use Rattle.refuse_order.specs.Lent.{Gathered}

-- the same answer for whatever customers the array was gathered from
abbrev pub Answers : {R : Type 0} → (List Customer → R) → ℕ → List Customer → R → Type 0
Answers answer count array r = (customers : List Customer) → Gathered customers count array → r ≡ answer customers
