-- The table that a cutting fills and the calls that it holds, each as one record; what an offer puts into the table, and what a dropped
-- call leaves. Definitions only.
use Rattle.std.specs.Prelude.{ℕ, ◌-◌, ◌<◌, ◌≤◌, ◌≡◌, cond, List, length, get_or, set, take, Float}
use Rattle.std.specs.Float.{nan}
use Rattle.std.specs.Float.Ieee.{lt}
use Rattle.basics.specs.Lists.{without}
use Rattle.cut_theory.specs.Tab.{cells}

-- ---- the table

-- for each beginning of the calls: the least cost of its cuttings, the distance beside it, and the start of the last run
pub record Table : Type 0 where
  pub cost : List Float
  pub far : List Float
  pub pred : List ℕ

abbrev pub table : List Float → List Float → List ℕ → Table
table cost far pred = record { cost = cost; far = far; pred = pred }

-- it has all its cells
pub record Sized (t : Table) : Type 0 where
  pub cost-long : length t.cost ≡ cells
  pub far-long : length t.far ≡ cells
  pub pred-long : length t.pred ≡ cells

-- a cost at j, with the distance beside it and the start i of its last run: a lower cost replaces, and an equal one does not
pub record Offered (j i : ℕ) (cost far : Float) (old new : Table) : Type 0 where
  pub cost-put : new.cost ≡ cond (lt cost (get_or old.cost j nan)) (set old.cost j cost) old.cost
  pub far-put : new.far ≡ cond (lt cost (get_or old.cost j nan)) (set old.far j far) old.far
  pub pred-put : new.pred ≡ cond (lt cost (get_or old.cost j nan)) (set old.pred j i) old.pred

-- ---- the calls held

-- the customers of the calls held with their positions in the tour, and the positions of the calls dropped
pub record Calls : Type 0 where
  pub held : List ℕ
  pub positions : List ℕ
  pub dropped : List ℕ

abbrev pub calls : List ℕ → List ℕ → List ℕ → Calls
calls held positions dropped = record { held = held; positions = positions; dropped = dropped }

-- the call at `at` is one of the n held, and there is room for one dropped call after `gone`
pub record MayDrop (n at gone : ℕ) (old : Calls) : Type 0 where
  pub inside : at < n
  pub held-long : n ≤ length old.held
  pub positions-long : n ≤ length old.positions
  pub room : gone < length old.dropped

-- the call at `at` of the n held is dropped, as number `gone` from 0
pub record DropCall (n at gone : ℕ) (old new : Calls) : Type 0 where
  pub held-less : take (n - 1) new.held ≡ without at (take n old.held)
  pub positions-less : take (n - 1) new.positions ≡ without at (take n old.positions)
  pub dropped-more : new.dropped ≡ set old.dropped gone (get_or old.positions at 0)
