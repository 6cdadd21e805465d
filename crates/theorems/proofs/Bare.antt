-- What `split` returns keeps demand 3 of the sheet without windows, limits and break. Assumes nothing.
use Prim.Native.Nat.{ℕ, zero, suc, ◌+◌}
use mathlib.Core.Path.{◌≡◌, refl, sym, ap, ap₂, subst, ◌∙◌, fun_ext}
use mathlib.Core.Bool.{Bool, false, not, ◌&&◌}
use mathlib.Core.List.{List, [], ◌∷◌, map}
use Rattle.std.specs.Prelude.{Option, Some}
use lib.ListN.{get_or}
use Rattle.basics.specs.Options.{◌>>=◌, present, value_or, given}
use Rattle.basics.specs.Lists.{any, is_empty, sum}
use Rattle.definitions.specs.Load.{Load, carried}
use Rattle.definitions.specs.Sheet.{Customer, Sheet, depot, customer, drive}
use Rattle.definitions.specs.Run.{distance_from, length_of, load, fits, price}
use Rattle.definitions.specs.Clock.{Arc}
use Rattle.definitions.specs.Drop.{calls_at, drops, Result, plain_arc, cut_of, split, split_tw}
use Rattle.definitions.specs.Placement.{by_clock}
use Rattle.definitions.specs.Cutting.{run_ends}
use Rattle.definitions.specs.Clauses.{Clauses, bare, bare_customer}
use Rattle.definitions.proofs.LoadLaws.{load-by}
use Rattle.theorems.proofs.Plain.{Plain}
use Rattle.theorems.proofs.Agreement.{split-same}
use Rattle.theorems.proofs.Sentences.{split-tw-kept}

no-windows : (l : List Customer) → any (λ c. present c.window) (map bare_customer l) ≡ false
no-windows [] = refl
no-windows (c ∷ l) = no-windows l

same-demand : (l : List Customer) (k : ℕ) → (get_or (map bare_customer l) k depot).demand ≡ (get_or l k depot).demand
same-demand [] k = refl
same-demand (c ∷ l) zero = refl
same-demand (c ∷ l) (suc k) = same-demand l k

module _ (s : Sheet) where
  bare-plain : Plain (bare s)
  unfolding bare
  bare-plain = record { no-window = no-windows s.customers; no_distance = refl; no-duration = refl; no-break = refl }

  same_load : (calls : List ℕ) → load (bare s) calls ≡ load s calls
  unfolding bare
  same_load calls = load-by (λ c. (customer (bare s) c).demand) (λ c. (customer s c).demand) calls (same-demand s.customers)

  same-fits : (calls : List ℕ) → fits (bare s) calls ≡ fits s calls
  unfolding bare
  same-fits calls = ap (λ (l : Load). carried l s.head.capacity) (same_load calls)

  same-distance : (a : ℕ) (calls : List ℕ) → distance_from (bare s) a calls ≡ distance_from s a calls
  unfolding bare drive
  same-distance a [] = refl
  same-distance a (c ∷ cs) = ap (λ (o : Option ℕ). drive s a c >>= λ l. o >>= λ d. Some (l.length + d)) (same-distance c cs)

  same-arc : plain_arc (bare s) ≡ plain_arc s
  unfolding plain_arc bare
  same-arc =
      fun_ext (λ calls. ap₂ (λ (o : Option ℕ) (b : Bool). o >>= λ d. given {A = Arc} (not (is_empty calls) && b) (record { place = 0; cost = price s d 0 })) (same-distance 0 calls) (same-fits calls))

  same_length : (calls : List ℕ) → length_of (bare s) calls ≡ length_of s calls
  same_length calls = ap (value_or 0) (same-distance 0 calls)

  -- windows, limits and break are ignored
  pub split_bare : (tour : List ℕ) → split (bare s) tour ≡ split s tour
  unfolding split
  split_bare tour =
      ap₂ (λ (f : List ℕ → Option Arc) (g : List ℕ → ℕ). by f g) same-arc (fun_ext same_length)
    where
      -- the plan by a price of runs and their lengths
      by : (List ℕ → Option Arc) → (List ℕ → ℕ) → Result
      by f g =
          let h = drops f tour in
          let b = cut_of f tour h in
          record {
            served = calls_at tour h.held;
            ends = run_ends b.runs;
            dropped = h.dropped;
            cost = b.cost;
            distance = sum (λ r. g r.calls) b.runs;
            places = map (λ r. r.place) b.runs;
          }

  -- it is the cut by the clock of the sheet without them
  pub split-by-clock : (tour : List ℕ) → split_tw (bare s) tour ≡ split s tour
  split-by-clock tour = sym (split-same (bare s) bare-plain tour) ∙ split_bare tour

  pub split-kept : (tour : List ℕ) → let x = split s tour in Clauses by_clock (bare s) tour x.served x.ends x.dropped x.cost
  split-kept tour =
      subst (λ (x : Result). Clauses by_clock (bare s) tour x.served x.ends x.dropped x.cost)
      (split-by-clock tour) (split-tw-kept (bare s) tour)
