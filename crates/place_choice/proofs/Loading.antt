-- The loads of runs: worked out run by run, read for a run, and with one call more. Assumes nothing.
use Prim.Native.Nat.{ℕ, zero, suc, ◌+◌, ◌*◌, ◌<◌, ◌≤◌}
use native.Mathlib.Omega.{arith}
use native.Mathlib.Nat.{not-suc-le-zero}
use mathlib.Core.Path.{◌≡◌, refl, sym, ap, ap₂, subst, ◌∙◌}
use mathlib.Core.List.{List, [], ◌∷◌, ◌++◌}
use lib.ListN.{length, get_or, set, take, drop, take-append-drop, length-set}
use lib.Seq.{get_or-set_same, get_or-set_other}
use lib.Dec.{eqb, ltb}
use borrow.Author.Tests.{eqb-true, eqb-false, ltb-true, ltb-false}
use Rattle.basics.proofs.TestLaws.{by-test}
use Rattle.basics.specs.Lists.{sum}
use Rattle.basics.proofs.ListLaws.{sum-append}
use Rattle.definitions.specs.Load.{Load, plus, carried, load_by}
use Rattle.definitions.proofs.LoadLaws.{load_same, load-more}
use Rattle.models.specs.Load.{UpTo, up-to-more}
use Rattle.evaluation.specs.Tables.{asked_f, load_f}
use Rattle.improve_runs.specs.RunLists.{room, run_at, insert_at, put_in}
use Rattle.improve_runs.proofs.RunParts.{put-run, length-put}
use Rattle.place_choice.specs.Loads.{room_f, measures, all_loads, load_in, Written, Loaded}

pub loaded-more : (demand : ℕ → Load) (rs : List (List ℕ)) (m n : ℕ) (loads : List ℕ) → m ≤ n → Loaded demand rs m loads → Loaded demand rs n loads
loaded-more demand rs m n loads h L = record { long = L.long; are = L.are; few = λ k b. up-to-more m n (load_in loads k) h (L.few k b) }

-- a load is written, measure by measure
module _ (old : List ℕ) (k : ℕ) (load : Load) where
  abbrev seats-in : List ℕ
  seats-in = set old (measures * k) load.seats

  abbrev load-in : List ℕ
  load-in = set seats-in (measures * k + 1) load.wheelchairs

  others-stay : (n : ℕ) → (n ≡ measures * k → ⊥) → (n ≡ measures * k + 1 → ⊥) → get_or load-in n 0 ≡ get_or old n 0
  others-stay n p q =
      get_or-set_other seats-in (measures * k + 1) n load.wheelchairs 0 q ∙ get_or-set_other old (measures * k) n load.seats 0 p

  pub load-written : length old ≡ all_loads → k < room → Written old k load load-in
  load-written long h =
      let seats-long = length-set old (measures * k) load.seats in
      record {
        long = length-set seats-in (measures * k + 1) load.wheelchairs ∙ seats-long;
        here =
            λ i.
            record {
              seats =
                  (get_or-set_other seats-in (measures * k + 1) (measures * k) load.wheelchairs 0 (λ q. omega arith)
                  ∙ get_or-set_same old (measures * k) load.seats 0 (omega (arith, long)))
                  i;
              wheelchairs = get_or-set_same seats-in (measures * k + 1) load.wheelchairs 0 (omega (arith, long, seats-long)) i;
            };
        there =
            λ j h i.
            record {
              seats = others-stay (measures * j) (λ q. h (omega arith)) (λ q. omega arith) i;
              wheelchairs = others-stay (measures * j + 1) (λ q. omega arith) (λ q. h (omega arith)) i;
            };
      }

-- whether run k has room for c, by its load
pub room-is : (demand : ℕ → Load) (rs : List (List ℕ)) (n : ℕ) (loads : List ℕ) → Loaded demand rs n loads → (k : ℕ) → k < length rs
    → (load asked capacity : Load) (c : ℕ) → load ≡ load_in loads k → asked ≡ demand c → carried (plus load asked) capacity ≡ room_f demand capacity c (run_at rs k)
unfolding room_f
room-is demand rs n loads L k h load asked capacity c e ea = ap₂ (λ (x y : Load). carried (plus x y) capacity) (e ∙ L.are k h) ea

-- the load of a run, as it is lent
pub run-load : (demands part run : List ℕ) → part ≡ run → (load : Load) → load ≡ load_f demands part → load ≡ load_by (asked_f demands) run
unfolding load_f
run-load demands part run e load el = el ∙ ap (load_by (asked_f demands)) e

-- ---- run by run

-- the loads of the first k runs are in
pub record LoadedTo (demand : ℕ → Load) (rs : List (List ℕ)) (loads : List ℕ) (k : ℕ) : Type 0 where
  pub long : length loads ≡ all_loads
  pub are : (j : ℕ) → j < k → load_in loads j ≡ load_by demand (run_at rs j)
  pub few : (j : ℕ) → j < k → UpTo 128 (load_in loads j)

pub loaded-none : (demand : ℕ → Load) (rs : List (List ℕ)) (loads : List ℕ) → length loads ≡ all_loads → LoadedTo demand rs loads 0
loaded-none demand rs loads long = record { long = long; are = λ j h. absurd (not-suc-le-zero h); few = λ j h. absurd (not-suc-le-zero h) }

pub loaded-next : (demand : ℕ → Load) (rs : List (List ℕ)) (old new : List ℕ) (k : ℕ) (load : Load) → LoadedTo demand rs old k
    → load ≡ load_by demand (run_at rs k) → UpTo 128 load → Written old k load new → LoadedTo demand rs new (k + 1)
loaded-next demand rs old new k load L e few W =
    record {
      long = W.long ∙ L.long;
      are = λ j h. at j h (λ (x : Load) (i : ℕ). x ≡ load_by demand (run_at rs i)) (λ b. L.are j b) e;
      few = λ j h. at j h (λ (x : Load) (i : ℕ). UpTo 128 x) (λ b. L.few j b) few;
    }
  where
    at : (j : ℕ) → j < k + 1 → (P : Load → ℕ → Type 0) → (j < k → P (load_in old j) j) → P load k → P (load_in new j) j
    at j h P before here =
        by-test (ltb j k)
        (λ t. (let b = ltb-true j k t in subst (λ (x : Load). P x j) (sym (W.there j (λ q. omega arith))) (before b)))
        (λ f.
        let b = ltb-false j k f in
        let q : k ≡ j = omega arith in
        subst (λ (i : ℕ). P (load_in new i) i) q (subst (λ (x : Load). P x k) (sym W.here) here))

pub loaded-all : (demand : ℕ → Load) (rs : List (List ℕ)) (loads : List ℕ) (k : ℕ) → length rs ≤ k → LoadedTo demand rs loads k → Loaded demand rs 128 loads
loaded-all demand rs loads k h L = record { long = L.long; are = λ j b. L.are j (omega arith); few = λ j b. L.few j (omega arith) }

-- ---- with one call more

put_other : (k pos c : ℕ) (rs : List (List ℕ)) (j : ℕ) → (j ≡ k → ⊥) → run_at (put_in k pos c rs) j ≡ run_at rs j
put_other k pos c [] j h = refl
put_other zero pos c (r ∷ rs) zero h = absurd (h refl)
put_other zero pos c (r ∷ rs) (suc j) h = refl
put_other (suc k) pos c (r ∷ rs) zero h = refl
put_other (suc k) pos c (r ∷ rs) (suc j) h = put_other k pos c rs j (λ e. h (ap suc e))

insert-load : (demand : ℕ → Load) (pos c : ℕ) (r : List ℕ) → load_by demand (insert_at pos c r) ≡ plus (load_by demand r) (demand c)
insert-load demand pos c r = load_same demand (insert_at pos c r) (r ++ (c ∷ [])) same ∙ load-more demand r c
  where
    same : (f : ℕ → ℕ) → sum f (insert_at pos c r) ≡ sum f (r ++ (c ∷ []))
    same f =
        omega (
          arith,
          sum-append f (take pos r) (c ∷ drop pos r),
          sum-append f r (c ∷ []),
          sum-append f (take pos r) (drop pos r),
          ap (sum f) (take-append-drop pos r),
        )

pub loaded-put : (demand : ℕ → Load) (rs : List (List ℕ)) (n : ℕ) (loads new : List ℕ) (k pos c : ℕ) (more : Load) → Loaded demand rs n loads → k < length rs
    → more ≡ plus (load_in loads k) (demand c) → Written loads k more new → (UpTo n (load_in loads k) → UpTo (n + 1) (load_in new k))
    → Loaded demand (put_in k pos c rs) (n + 1) new
loaded-put demand rs n loads new k pos c more L h e W u =
    record {
      long = W.long ∙ L.long;
      are = λ j b. at j b (λ i. load_in new i ≡ load_by demand (run_at (put_in k pos c rs) i)) (here) (λ q i. W.there j q ∙ L.are j i ∙ ap (load_by demand) (sym (put_other k pos c rs j q)));
      few = λ j b. at j b (λ i. UpTo (n + 1) (load_in new i)) (u (L.few k h)) (λ q i. subst (UpTo (n + 1)) (sym (W.there j q)) (up-to-more n (n + 1) (load_in loads j) (omega arith) (L.few j i)));
    }
  where
    here : load_in new k ≡ load_by demand (run_at (put_in k pos c rs) k)
    here =
        W.here ∙ e ∙ ap (λ (l : Load). plus l (demand c)) (L.are k h) ∙ sym (insert-load demand pos c (run_at rs k))
        ∙ ap (load_by demand) (sym (put-run k pos c rs h))

    at : (j : ℕ) → j < length (put_in k pos c rs) → (P : ℕ → Type 0) → P k → ((j ≡ k → ⊥) → j < length rs → P j) → P j
    at j b P p other =
        by-test (eqb j k)
        (λ t. subst P (sym (eqb-true j k t)) p)
        (λ f. other (eqb-false j k f) (omega (arith, length-put k pos c rs)))
