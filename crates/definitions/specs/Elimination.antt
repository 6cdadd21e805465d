-- eliminate_routes on whole numbers. What a customer adds is a difference of distances: the distances of all runs are compared as they are.
-- They add less than is saved when the runs that are left are shorter than those before, with one fixed cost on top.
use Rattle.std.specs.Prelude.{ℕ, zero, suc, ◌+◌, cond, ◌&&◌, List, [], ◌∷◌, ◌++◌, map, length, ltb, Option, None, Some, option_map}
use Rattle.basics.specs.Options.{◌>>=◌, value_or, or_else}
use Rattle.definitions.specs.Sort.{rising, falling, sort}
use Rattle.definitions.specs.Load.{fits_by}
use Rattle.definitions.specs.Improver.{Given, total, allowed}

-- the runs without the empty ones
abbrev pub non_empty : List (List ℕ) → List (List ℕ)
non_empty [] = []
non_empty ([] ∷ rs) = non_empty rs
non_empty ((c ∷ cs) ∷ rs) = (c ∷ cs) ∷ non_empty rs

-- a run, and the other runs in their order
pub record Parted : Type 0 where
  pub run : List ℕ
  pub rest : List (List ℕ)

abbrev pub past : List ℕ → Parted → Parted
past r p = record { run = p.run; rest = r ∷ p.rest }

-- each run in turn
abbrev pub parted : List (List ℕ) → List Parted
parted [] = []
parted (r ∷ rs) = record { run = r; rest = rs } ∷ map (past r) (parted rs)

-- a customer put somewhere: the run that took it, and all runs with it
pub record Put : Type 0 where
  pub grown : List ℕ
  pub runs : List (List ℕ)

abbrev pub beyond : List ℕ → Put → Put
beyond r p = record { grown = p.grown; runs = r ∷ p.runs }

-- c at each position of a run, from before the first call to behind the last
abbrev pub inserts : ℕ → List ℕ → List (List ℕ)
inserts c [] = (c ∷ []) ∷ []
inserts c (x ∷ xs) = (c ∷ x ∷ xs) ∷ map (λ (r : List ℕ). x ∷ r) (inserts c xs)

module _ (G : Given) where
  -- the candidates for c in runs whose load leaves room for it: run by run, position by position
  unfoldable pub candidates : ℕ → List (List ℕ) → List Put
  candidates c [] = []
  candidates c (r ∷ rs) =
      cond (fits_by G.demand G.capacity (c ∷ r)) (map (λ (g : List ℕ). record { grown = g; runs = g ∷ rs }) (inserts c r)) []
      ++ map (beyond r) (candidates c rs)

  -- the first that is allowed and leaves the distance below the bound
  unfoldable pub first_below : ℕ → List Put → Option (List (List ℕ))
  first_below bound [] = None
  first_below bound (p ∷ ps) = cond (ltb (total G p.runs) bound && allowed G p.grown) (Some p.runs) (first_below bound ps)

  -- candidates by cost, that is by the distance they lead to
  unfoldable pub placed : ℕ → ℕ → List (List ℕ) → Option (List (List ℕ))
  placed bound c runs = first_below bound (sort (rising (λ (p : Put). total G p.runs)) (candidates c runs))

  -- all of the customers, one after the other
  unfoldable pub placed_all : ℕ → List ℕ → List (List ℕ) → Option (List (List ℕ))
  placed_all bound [] runs = Some runs
  placed_all bound (c ∷ cs) runs = placed bound c runs >>= placed_all bound cs

  -- the run's customers by falling demand go to the others
  unfoldable pub emptied : Parted → Option (List (List ℕ))
  emptied p =
      placed_all (total G (p.run ∷ p.rest) + G.fixed) (sort (falling (λ (c : ℕ). (G.demand c).seats)) p.run) p.rest

  unfoldable pub first_emptied : List Parted → Option (List (List ℕ))
  first_emptied [] = None
  first_emptied (p ∷ ps) = or_else (emptied p) (first_emptied ps)

  -- the shortest run first: what is left after the first that can go
  unfoldable pub search : List (List ℕ) → Option (List (List ℕ))
  search runs = first_emptied (sort (rising (λ (p : Parted). length p.run)) (parted runs))

  -- the search begins again after a success; each success has a run less, which bounds how many there are
  unfoldable pub searches : ℕ → List (List ℕ) → List (List ℕ)
  searches zero runs = non_empty runs
  searches (suc bound) runs = value_or (non_empty runs) (option_map (searches bound) (search (non_empty runs)))

  -- the runs that eliminate_routes gives
  unfoldable pub eliminated : List (List ℕ) → List (List ℕ)
  eliminated runs = searches (length runs) runs
