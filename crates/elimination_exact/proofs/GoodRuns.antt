-- Runs of a sheet: places of the sheet, some calls in each, and not too many in all. Assumes nothing.
use Prim.Native.Nat.{ℕ, zero, suc, ◌+◌, ◌≤◌}
use native.Mathlib.Omega.{arith}
use native.Mathlib.Nat.{le_refl}
use mathlib.Core.List.{List, [], ◌∷◌, ◌++◌}
use lib.ListN.{length, take, drop, length-append}
use Rattle.basics.specs.Lists.{All}
use Rattle.basics.proofs.ListLaws.{all-imp, all_map, all_append, all_get_d, all_take, all_drop}
use Rattle.bounds.specs.Sized.{Place}
use Rattle.definitions.specs.Domain.{most_calls}
use Rattle.definitions.specs.Sheet.{Sheet}
use Rattle.definitions.specs.RunList.{calls_of}
use Rattle.definitions.specs.Elimination.{non_empty, Parted, past, parted}
use Rattle.theorems.proofs.EliminationLaws.{Calls}
use Rattle.improve_runs.specs.RunLists.{run_at, insert_at, put_in}
use Rattle.route_elimination.proofs.Fewer.{calls, put-grows, non-empty-fewer}

pub record Good (s : Sheet) (n : ℕ) (rs : List (List ℕ)) : Type 0 where
  pub inside : All (All (Place s)) rs
  pub some-calls : All Calls rs
  pub few : calls rs ≤ n

run-few : (rs : List (List ℕ)) (k : ℕ) → length (run_at rs k) ≤ calls rs
run-few [] k = omega arith
run-few (r ∷ rs) zero = omega (arith, length-append r (calls_of rs))
run-few (r ∷ rs) (suc k) = omega (arith, run-few rs k, length-append r (calls_of rs))

pub inserted-calls : (pos c : ℕ) (r : List ℕ) → Calls (insert_at pos c r)
inserted-calls pos c r = go (take pos r)
  where
    go : (l : List ℕ) → Calls (l ++ (c ∷ drop pos r))
    go [] = tt
    go (x ∷ l) = tt

put-calls : (k pos c : ℕ) (rs : List (List ℕ)) → All Calls rs → All Calls (put_in k pos c rs)
put-calls k pos c [] a = tt
put-calls zero pos c (r ∷ rs) a = (inserted-calls pos c r, a.1)
put-calls (suc k) pos c (r ∷ rs) a = (a.0, put-calls k pos c rs a.1)

module _ (s : Sheet) where
  put-inside : (k pos c : ℕ) (rs : List (List ℕ)) → Place s c → All (All (Place s)) rs → All (All (Place s)) (put_in k pos c rs)
  put-inside k pos c [] p a = tt
  put-inside zero pos c (r ∷ rs) p a = (all_append (Place s) (take pos r) (c ∷ drop pos r) (all_take (Place s) pos r a.0) (p, all_drop (Place s) pos r a.0), a.1)
  put-inside (suc k) pos c (r ∷ rs) p a = (a.0, put-inside k pos c rs p a.1)

  pub good-put : (n : ℕ) (rs : List (List ℕ)) → Good s n rs → (k pos c : ℕ) → Place s c → Good s (suc n) (put_in k pos c rs)
  good-put n rs W k pos c p =
      record { inside = put-inside k pos c rs p W.inside; some-calls = put-calls k pos c rs W.some-calls; few = omega (arith, put-grows k pos c rs, W.few) }

  pub good-run : (n : ℕ) (rs : List (List ℕ)) → Good s n rs → (k : ℕ) → All (Place s) (run_at rs k)
  good-run n rs W k = all_get_d (All (Place s)) rs k [] W.inside tt

  pub good-few : (n : ℕ) (rs : List (List ℕ)) → Good s n rs → (k : ℕ) → length (run_at rs k) ≤ n
  good-few n rs W k = omega (arith, run-few rs k, W.few)

  -- ---- each run apart from the others

  -- a run with calls, and the others; n calls in all
  pub record GoodPart (n : ℕ) (p : Parted) : Type 0 where
    pub run_inside : All (Place s) p.run
    pub run-calls : Calls p.run
    pub others : Good s (calls p.rest) p.rest
    pub few : calls p.rest + length p.run ≤ n

  pub parted-good : (rs : List (List ℕ)) → All (All (Place s)) rs → All Calls rs → All (GoodPart (calls rs)) (parted rs)
  parted-good [] a b = tt
  parted-good (r ∷ rs) a b = (
    record { run_inside = a.0; run-calls = b.0; others = record { inside = a.1; some-calls = b.1; few = le_refl (calls rs) }; few = omega (arith, length-append r (calls_of rs)) },
    all_map (GoodPart (calls (r ∷ rs))) (past r) (parted rs)
        (all-imp (GoodPart (calls rs)) (λ (p : Parted). GoodPart (calls (r ∷ rs)) (past r p)) behind (parted rs) (parted-good rs a.1 b.1)),
  )
    where
      behind : (p : Parted) → GoodPart (calls rs) p → GoodPart (calls (r ∷ rs)) (past r p)
      behind p P =
          record {
            run_inside = P.run_inside;
            run-calls = P.run-calls;
            others = record { inside = (a.0, P.others.inside); some-calls = (b.0, P.others.some-calls); few = le_refl (calls (r ∷ p.rest)) };
            few = omega (arith, P.few, length-append r (calls_of p.rest), length-append r (calls_of rs));
          }

  pub non-empty-good : (rs : List (List ℕ)) → All (All (Place s)) rs → calls rs ≤ most_calls → Good s most_calls (non_empty rs)
  non-empty-good rs a h = record { inside = insides rs a; some-calls = some rs; few = omega (arith, (non-empty-fewer rs).calls-most) }
    where
      insides : (rs : List (List ℕ)) → All (All (Place s)) rs → All (All (Place s)) (non_empty rs)
      insides [] a = tt
      insides ([] ∷ rs) a = insides rs a.1
      insides ((c ∷ cs) ∷ rs) a = (a.0, insides rs a.1)

      some : (rs : List (List ℕ)) → All Calls (non_empty rs)
      some [] = tt
      some ([] ∷ rs) = some rs
      some ((c ∷ cs) ∷ rs) = (tt, some rs)
