-- Each place that is gone through has its run and its number there; no place is where what is added is infinite. Assumes nothing.
use Prim.Native.Nat.{ℕ, suc, ◌+◌, ◌-◌, ◌<◌, ◌≤◌}
use native.Mathlib.Omega.{arith}
use mathlib.Core.Path.{◌≡◌, refl, sym, ap, subst, ◌∙◌}
use mathlib.Core.Bool.{Bool, true, false, ◌&&◌, false≢true}
use mathlib.Core.List.{List, [], ◌∷◌}
use Rattle.std.specs.Prelude.{None, Some}
use lib.ListN.{length}
use lib.Ieee as Ieee
use lib.Ieee.{Float, binary64, nan, inf, fin}
use Rattle.basics.proofs.TestLaws.{by-test}
use Rattle.basics.specs.Lists.{count, All}
use Rattle.basics.proofs.ListLaws.{all-imp, all_append, all_map}
use Rattle.improve_runs.specs.RunLists.{run_at}
use Rattle.improve_runs.proofs.Sorting.{all-count}
use Rattle.place_choice.specs.declared.insertion.Spot.{Spot}
use Rattle.place_choice.specs.declared.tested.Mover.{Mover}
use Rattle.place_choice.specs.Insertion.{GivenF, Inside, adds_f, spot_f, places_in, offered, places_of, each_from, folded, nowhere_f, cheaper_f, pays_f, leg_f, rooms_f, candidates_f, allowed_f, better_in, better_of, tested_f, best_f}
use Rattle.place_choice.proofs.Folding.{fold-keeps, fold_same}

-- ---- no place

endless : (a s : Float) → Ieee.lt (Ieee.add binary64 a (inf false)) s ≡ false
unfolding Ieee.lt Ieee.add
endless nan s = refl
endless (inf false) nan = refl
endless (inf false) (inf t) = refl
endless (inf false) (fin t n d) = refl
endless (inf true) s = refl
endless (fin b m e) nan = refl
endless (fin b m e) (inf t) = refl
endless (fin b m e) (fin t n d) = refl

pub pays-nowhere : (m : Mover) → pays_f m nowhere_f.cost ≡ false
pays-nowhere m = endless m.added m.saved

-- ---- what holds of each place

module _ (P : Spot → Type 0) where
  pub all-offered : (b : Bool) (l : List Spot) → All P l → All P (offered b l)
  all-offered true l a = a
  all-offered false l a = tt

  -- the cheaper of two, and the better of two
  pub cheaper-keeps : (b x : Spot) → P b → P x → P (cheaper_f b x)
  cheaper-keeps b x p q = by-test (Ieee.lt x.cost b.cost) (λ t. rw t q) (λ f. rw f p)

  pub better-keeps : (G : GivenF) (m : Mover) (rs : List (List ℕ)) (b x : Spot) → P b → P x → P (better_of G m rs b x)
  better-keeps G m rs b x p q =
      by-test (pays_f m x.cost && (Ieee.lt x.cost b.cost && allowed_f G m.call (run_at rs x.run) x)) (λ t. rw t q) (λ f. rw f p)

  pub all-each : (places : ℕ → List ℕ → List Spot) (k : ℕ) (rs : List (List ℕ)) → ((j : ℕ) → j < length rs → All P (places (k + j) (run_at rs j))) → All P (each_from places k rs)
  unfolding each_from
  all-each places k [] h = tt
  all-each places k (r ∷ rs) h =
      all_append P (places k r) (each_from places (suc k) rs) (let z : k + 0 ≡ k = omega arith in subst (λ (i : ℕ). All P (places i r)) z (h 0 (omega arith)))
      (all-each places (suc k) rs (λ j b. let e : k + suc j ≡ suc k + j = omega arith in subst (λ (i : ℕ). All P (places i (run_at rs j))) e (h (suc j) (omega arith))))

  pub all-places : (leg : ℕ → ℕ → Float) (k c : ℕ) (r : List ℕ) → ((pos : ℕ) → pos ≤ length r → P (spot_f leg k c r pos)) → All P (places_in leg k c r)
  all-places leg k c r h = all_map P (spot_f leg k c r) (count 0 (suc (length r))) (all-count (λ (j : ℕ). P (spot_f leg k c r j)) 0 (suc (length r)) (λ j b. h j (omega arith)))

-- ---- the run of a place that pays

abbrev pub Of : Mover → ℕ → Spot → Type 0
Of m k x = pays_f m x.cost ≡ true → x.run ≡ k

module _ (m : Mover) (k : ℕ) where
  pub places-of : (leg : ℕ → ℕ → Float) (c : ℕ) (r : List ℕ) → All (Of m k) (places_in leg k c r)
  places-of leg c r = all-places (Of m k) leg k c r (λ pos h t. refl)

  -- of places in run k, among several runs
  pub better-same : (G : GivenF) (rs : List (List ℕ)) (b : Spot) (l : List Spot) → All (Of m k) l → folded (better_in G m (run_at rs k)) b l ≡ folded (better_of G m rs) b l
  better-same G rs b l a = fold_same (better_in G m (run_at rs k)) (better_of G m rs) (Of m k) step b l a
    where
      step : (b x : Spot) → Of m k x → better_in G m (run_at rs k) b x ≡ better_of G m rs b x
      step b x o =
          by-test (pays_f m x.cost)
          (λ t. ap (λ (j : ℕ). better_in G m (run_at rs j) b x) (sym (o t)))
          (λ f. rw f)

-- ---- a place that pays lies in the runs

module _ (m : Mover) (rs : List (List ℕ)) where
  abbrev pub There : Spot → Type 0
  There x = pays_f m x.cost ≡ true → Inside rs x

  pub nowhere-there : There nowhere_f
  nowhere-there t = absurd (false≢true (sym (pays-nowhere m) ∙ t))

  pub candidates-there : (leg : ℕ → ℕ → Float) (room : ℕ → List ℕ → Bool) (c : ℕ) → All There (each_from (places_of leg room c) 0 rs)
  candidates-there leg room c =
      all-each There (places_of leg room c) 0 rs
      (λ j h.
      let z : 0 + j ≡ j = omega arith in
      all-offered There (room c (run_at rs j)) (places_in leg (0 + j) c (run_at rs j))
      (all-places There leg (0 + j) c (run_at rs j) (λ pos b t. record { run_inside = rw z h; pos-inside = rw z b })))

-- ---- each candidate has its place in the runs

-- a place in the runs, where run k is the first of them, and what c adds there
pub record Within (leg : ℕ → ℕ → Float) (c k : ℕ) (rs : List (List ℕ)) (x : Spot) : Type 0 where
  pub at_least : k ≤ x.run
  pub run_inside : x.run - k < length rs
  pub pos-inside : x.pos ≤ length (run_at rs (x.run - k))
  pub cost-is : x.cost ≡ adds_f leg (run_at rs (x.run - k)) x.pos c

module _ (leg : ℕ → ℕ → Float) (fits : ℕ → List ℕ → Bool) (c : ℕ) where
  places-within : (k : ℕ) (r : List ℕ) (rs : List (List ℕ)) → All (Within leg c k (r ∷ rs)) (places_in leg k c r)
  places-within k r rs =
      all_map (Within leg c k (r ∷ rs)) (spot_f leg k c r) (count 0 (suc (length r)))
      (all-count (λ (j : ℕ). Within leg c k (r ∷ rs) (spot_f leg k c r j)) 0 (suc (length r)) here)
    where
      here : (j : ℕ) → j < 0 + suc (length r) → Within leg c k (r ∷ rs) (spot_f leg k c r j)
      here j h =
          let e : k - k ≡ 0 = omega arith in
          record { at_least = omega arith; run_inside = omega arith; pos-inside = rw e (omega arith); cost-is = rw e }

  later-within : (k : ℕ) (r : List ℕ) (rs : List (List ℕ)) (x : Spot) → Within leg c (suc k) rs x → Within leg c k (r ∷ rs) x
  later-within k r rs x W =
      let e : x.run - k ≡ suc (x.run - suc k) = omega (arith, W.at_least) in
      record { at_least = omega (arith, W.at_least); run_inside = omega (arith, W.run_inside, W.at_least); pos-inside = rw e W.pos-inside; cost-is = rw e W.cost-is }

  pub candidates-within : (k : ℕ) (rs : List (List ℕ)) → All (Within leg c k rs) (each_from (places_of leg fits c) k rs)
  unfolding each_from
  candidates-within k [] = tt
  candidates-within k (r ∷ rs) =
      all_append (Within leg c k (r ∷ rs)) (places_of leg fits c k r) (each_from (places_of leg fits c) (suc k) rs)
      (by-test (fits c r) (λ t. rw t (places-within k r rs)) (λ f. rw f tt))
      (all-imp (Within leg c (suc k) rs) (Within leg c k (r ∷ rs)) (later-within k r rs) (each_from (places_of leg fits c) (suc k) rs) (candidates-within (suc k) rs))

-- ---- the best place

module _ (G : GivenF) (m : Mover) (rs : List (List ℕ)) (least : Spot) (el : least ≡ folded cheaper_f nowhere_f (candidates_f G m.call rs)) where
  abbrev pub allowed : Bool
  allowed = allowed_f G m.call (run_at rs least.run) least

  pub best_none : pays_f m least.cost ≡ false → None ≡ best_f G m rs
  unfolding best_f
  best_none f = let g = rw el at f in rw g

  pub best-least : pays_f m least.cost ≡ true → allowed ≡ true → Some least ≡ best_f G m rs
  unfolding best_f
  best-least t u =
      let g = rw el at t in
      let h = rw el at u in
      rw (el, g, h)

  module _ (best : Spot) (eb : best ≡ tested_f G m rs) (t : pays_f m least.cost ≡ true) (u : allowed ≡ false) where
    pub best-found : pays_f m best.cost ≡ true → Some best ≡ best_f G m rs
    unfolding best_f
    best-found v =
        let g = rw el at t in
        let h = rw el at u in
        let w = rw eb at v in
        rw (eb, g, h, w)

    pub best-missing : pays_f m best.cost ≡ false → None ≡ best_f G m rs
    unfolding best_f
    best-missing v =
        let g = rw el at t in
        let h = rw el at u in
        let w = rw eb at v in
        rw (g, h, w)

  pub least-there : pays_f m least.cost ≡ true → Inside rs least
  least-there =
      subst (There m rs) (sym el)
      (fold-keeps cheaper_f (There m rs) (There m rs) (cheaper-keeps (There m rs)) nowhere_f (nowhere-there m rs) (candidates_f G m.call rs) (candidates-there m rs (leg_f G) (rooms_f G) m.call))

pub tested-there : (G : GivenF) (m : Mover) (rs : List (List ℕ)) (best : Spot) → best ≡ tested_f G m rs → pays_f m best.cost ≡ true → Inside rs best
tested-there G m rs best eb =
    let places = candidates_f G m.call rs in
    subst (There m rs) (sym eb)
    (fold-keeps (better_of G m rs) (There m rs) (There m rs) (better-keeps (There m rs) G m rs) nowhere_f (nowhere-there m rs) places (candidates-there m rs (leg_f G) (rooms_f G) m.call))
