-- What is known of a sheet within the limits, fact by fact: each number is at most what the Domain allows.
use Rattle.std.specs.Prelude.{ℕ, ◌*◌, ◌≤◌, ◌<◌, ◌≡◌, true, List, length}
use Rattle.basics.specs.Options.{Holds}
use Rattle.basics.specs.Lists.{All}
use Rattle.definitions.specs.Domain.{most_number, most_demand, most_capacity, most_penalty, is_leg}
use Rattle.definitions.specs.Sheet.{Window, Break, Customer, Sheet, time_table}
use Rattle.definitions.proofs.LoadLaws.{AtMost}

abbrev pub Small : ℕ → Type 0
Small n = n ≤ most_number

-- a number of a leg table: a small one, or that of a closed leg
abbrev pub LegNumber : ℕ → Type 0
LegNumber n = is_leg n ≡ true

pub record SmallWindow (w : Window) : Type 0 where
  pub ready-small : Small w.ready
  pub due-small : Small w.due

pub record SmallBreak (b : Break) : Type 0 where
  pub earliest-small : Small b.earliest
  pub latest-small : Small b.latest
  pub duration-small : Small b.duration

pub record SmallCustomer (c : Customer) : Type 0 where
  pub demand-small : AtMost most_demand c.demand
  pub service-small : Small c.service
  pub window-small : Holds SmallWindow c.window
  pub penalty-small : Holds (λ (p : ℕ). p ≤ most_penalty) c.penalty

-- the table that times are looked up in
abbrev pub times_of : Sheet → List ℕ
times_of s = time_table s.legs.distances s.legs.times

-- what is known of a sheet within the limits, fact by fact
pub record Sized (s : Sheet) : Type 0 where
  pub some-place : 1 ≤ s.head.places
  pub few-places : s.head.places ≤ 64
  pub capacity-small : AtMost most_capacity s.head.capacity
  pub fixed-small : Small s.head.fixed
  pub far-small : Holds Small s.head.max_distance
  pub long-small : Holds Small s.head.max_duration
  pub rest-small : Holds SmallBreak s.head.rest
  pub records-all : length s.customers ≡ s.head.places
  pub records-small : All SmallCustomer s.customers
  pub distances-all : length s.legs.distances ≡ s.head.places * s.head.places
  pub distances-legs : All LegNumber s.legs.distances
  pub times-all : length (times_of s) ≡ s.head.places * s.head.places
  pub times-legs : All LegNumber (times_of s)

-- a is a place of the sheet, the depot or a customer
abbrev pub Place : Sheet → ℕ → Type 0
Place s a = a < s.head.places
