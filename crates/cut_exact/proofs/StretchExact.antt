-- On whole numbers the load and the way of a stretch are those of its calls as a run of crates/definitions. Assumes nothing.
use Prim.Native.Nat.{ℕ, zero, suc, ◌+◌, ◌*◌, ◌≤◌}
use native.Mathlib.Nat.{zero-add, add_assoc, le_refl, le_of_lt, suc-ne-zero}
use native.Mathlib.Omega.{arith}
use mathlib.Core.Path.{◌≡◌, refl, sym, ap, ap₂, ◌∙◌}
use mathlib.Core.List.{List, [], ◌∷◌, ◌++◌}
use Rattle.std.specs.Prelude.{Option, None, Some, option_map}
use lib.ListN.{length, get_or, take, drop, drop_of_length-le}
use lib.Seq.{take-suc, length-take-le, get_or-take, drop-cons}
use lib.Dec.{eqb}
use lib.Ieee as Ieee
use lib.Ieee.{Float, binary64}
use borrow.Author.Tests.{le-leb, ne_eqb}
use Rattle.basics.specs.Options.{◌>>=◌}
use Rattle.basics.specs.Lists.{All}
use Rattle.basics.proofs.OptionLaws.{same, bound}
use Rattle.bounds.specs.Sized.{Sized, Place}
use Rattle.bounds.proofs.Inside.{depot-inside, call-inside, leg-small}
use Rattle.definitions.specs.Domain.{most_calls, most_number}
use Rattle.definitions.specs.Load.{Load, plus}
use Rattle.definitions.proofs.LoadLaws.{load-more}
use Rattle.definitions.specs.Sheet.{Sheet, customer, Leg, drive}
use Rattle.definitions.specs.Run.{last_of, distance_from, load, fits}
use Rattle.whole.specs.Whole.{fl, limit}
use Rattle.whole.proofs.WholeLaws.{fl-sum}
use Rattle.distance.specs.declared.leg.Leg as Float
use Rattle.distance.proofs.Exact.{fl_leg}
use Rattle.evaluation.specs.Tables.{place_before}
use Rattle.cut_runs.specs.Stretch.{joined_f, load_to, fits_of, gone_of, way_of}

-- one call more at the end of a run
last_snoc : (a : ℕ) (l : List ℕ) (c : ℕ) → last_of a (l ++ (c ∷ [])) ≡ c
last_snoc a [] c = refl
last_snoc a (x ∷ l) c = last_snoc x l c

module _ (s : Sheet) (st : List ℕ) where
  -- the way through the first m calls, in whole numbers; none where a leg is closed
  unfoldable pub gone : ℕ → Option ℕ
  gone zero = Some 0
  gone (suc m) = gone m >>= λ g. drive s (place_before st m) (get_or st m 0) >>= λ l. Some (g + l.length)

  pub place-last : (m : ℕ) → m ≤ length st → last_of 0 (take m st) ≡ place_before st m
  unfolding place_before
  place-last zero h = refl
  place-last (suc m) h = ap (last_of 0) (take-suc st m 0 h) ∙ last_snoc 0 (take m st) (get_or st m 0)

  -- so far, and then the rest of the first n calls and home
  abbrev goes_on : ℕ → List ℕ → Option ℕ
  goes_on m rest = gone m >>= λ g. distance_from s (place_before st m) rest >>= λ d. Some (g + d)

  -- a leg counts with the way gone, or with the way to go
  leg-moves : (m : ℕ) (rest : List ℕ) → goes_on (suc m) rest ≡ goes_on m (get_or st m 0 ∷ rest)
  unfolding gone place_before
  leg-moves m rest = go (gone m) (drive s (place_before st m) (get_or st m 0)) (distance_from s (get_or st m 0) rest)
    where
      go : (o : Option ℕ) (p : Option Leg) (q : Option ℕ)
          → ((o >>= λ g. p >>= λ l. Some (g + l.length)) >>= λ g. q >>= λ d. Some (g + d))
          ≡ (o >>= λ g. (p >>= λ l. q >>= λ d. Some (l.length + d)) >>= λ d. Some (g + d))
      go None p q = refl
      go (Some g) None q = refl
      go (Some g) (Some l) None = refl
      go (Some g) (Some l) (Some d) = ap Some (add_assoc g l.length d)

  goes_on_lem : (n : ℕ) → n ≤ length st → (m : ℕ) → m ≤ n → goes_on m (drop m (take n st)) ≡ distance_from s 0 (take n st)
  unfolding gone place_before
  goes_on_lem n h zero b = go (distance_from s 0 (take n st))
    where
      go : (o : Option ℕ) → (o >>= λ d. Some (0 + d)) ≡ o
      go None = refl
      go (Some d) = ap Some (zero-add d)
  goes_on_lem n h (suc m) b =
      let l = length-take-le n st h in
      let next : drop m (take n st) ≡ get_or st m 0 ∷ drop (suc m) (take n st)
      = drop-cons (take n st) m 0 (omega (arith, l)) ∙ ap (λ (c : ℕ). c ∷ drop (suc m) (take n st)) (get_or-take n st m 0 b)
      in
      leg-moves m (drop (suc m) (take n st)) ∙ ap (goes_on m) (sym next) ∙ goes_on_lem n h m (le_of_lt b)

  -- and home
  gone-home : (m : ℕ) → m ≤ length st → (gone m >>= λ g. drive s (place_before st m) 0 >>= λ l. Some (g + l.length)) ≡ distance_from s 0 (take m st)
  gone-home m h =
      let over : length (take m st) ≤ m = omega (arith, length-take-le m st h) in
      go (gone m) (drive s (place_before st m) 0)
      ∙ ap (goes_on m) (sym (drop_of_length-le (take m st) over))
      ∙ goes_on_lem m h m (le_refl m)
    where
      go : (o : Option ℕ) (p : Option Leg) → (o >>= λ g. p >>= λ l. Some (g + l.length)) ≡ (o >>= λ g. option_map (λ (l : Leg). l.length) p >>= λ d. Some (g + d))
      go None p = refl
      go (Some g) None = refl
      go (Some g) (Some l) = refl

  -- a run with a distance has a way through its calls
  pub has-gone : (m : ℕ) → m ≤ length st → (d : ℕ) → distance_from s 0 (take m st) ≡ Some d → (g : ℕ) × (gone m ≡ Some g)
  has-gone m h d e = let x = bound (gone m) _ d (gone-home m h ∙ e) in (x.0, x.1)

  module _ (S : Sized s) where
    gone-most : (m g : ℕ) → gone m ≡ Some g → g ≤ m * most_number
    unfolding gone
    gone-most zero g e = let z = same e in omega arith
    gone-most (suc m) g e =
        let x = bound (gone m) _ g e in
        let y = bound (drive s (place_before st m) (get_or st m 0)) _ g x.2 in
        let z = same y.2 in
        omega (arith, gone-most m x.0 x.1, (leg-small s S (place_before st m) (get_or st m 0) y.0 y.1).0, z)

    module _ (inside : All (Place s) st) where
      pub place_inside : (m : ℕ) → Place s (place_before st m)
      unfolding place_before
      place_inside zero = depot-inside s S
      place_inside (suc m) = call-inside s S st m inside

      -- ---- the way

      module _ (leg : ℕ → ℕ → Option Float.Leg) (exact : (a b : ℕ) → Place s a → Place s b → leg a b ≡ option_map fl_leg (drive s a b)) where
        joined-exact : (m g d : ℕ) → (m ≡ 0 → g ≡ 0) → g + d ≤ limit → joined_f (fl g) (fl d) (eqb m 0) ≡ fl (g + d)
        joined-exact zero g d z h = let e = z refl in rw (e, zero-add d) refl
        joined-exact (suc m) g d z h = rw (ne_eqb (suc m) 0 (suc-ne-zero m)) (fl-sum g d h)

        at-start : (m g : ℕ) → gone m ≡ Some g → m ≡ 0 → g ≡ 0
        unfolding gone
        at-start zero g e z = sym (same e)
        at-start (suc m) g e z = absurd (suc-ne-zero m z)

        pub gone-exact : (m : ℕ) → m ≤ most_calls → gone_of leg st m ≡ option_map fl (gone m)
        unfolding gone_of gone
        gone-exact zero h = refl
        gone-exact (suc m) h =
            rw (gone-exact m (omega arith), exact (place_before st m) (get_or st m 0) (place_inside m) (call-inside s S st m inside))
            (go (gone m) refl (drive s (place_before st m) (get_or st m 0)) refl)
          where
            go : (o : Option ℕ) → gone m ≡ o → (p : Option Leg) → drive s (place_before st m) (get_or st m 0) ≡ p
                → (option_map fl o >>= λ g. option_map fl_leg p >>= λ l. Some (joined_f g l.distance (eqb m 0))) ≡ option_map fl (o >>= λ g. p >>= λ l. Some (g + l.length))
            go None e p f = refl
            go (Some g) e None f = refl
            go (Some g) e (Some l) f =
                ap Some (joined-exact m g l.length (at-start m g e) (omega (arith, gone-most m g e, (leg-small s S (place_before st m) (get_or st m 0) l f).0)))

        pub way-exact : (m : ℕ) → m ≤ length st → m ≤ most_calls → way_of leg st m ≡ option_map fl (distance_from s 0 (take m st))
        unfolding way_of
        way-exact m h few =
            rw (gone-exact m few, exact (place_before st m) 0 (place_inside m) (depot-inside s S))
            (go (gone m) refl (drive s (place_before st m) 0) refl ∙ ap (option_map fl) (gone-home m h))
          where
            go : (o : Option ℕ) → gone m ≡ o → (p : Option Leg) → drive s (place_before st m) 0 ≡ p
                → (option_map fl o >>= λ g. option_map fl_leg p >>= λ l. Some (Ieee.add binary64 g l.distance)) ≡ option_map fl (o >>= λ g. p >>= λ l. Some (g + l.length))
            go None e p f = refl
            go (Some g) e None f = refl
            go (Some g) e (Some l) f = ap Some (fl-sum g l.length (omega (arith, gone-most m g e, (leg-small s S (place_before st m) 0 l f).0)))

      -- ---- the load

      module _ (demand : ℕ → Load) (exact : (c : ℕ) → Place s c → demand c ≡ (customer s c).demand) where
        load-exact : (m : ℕ) → m ≤ length st → load_to demand st m ≡ load s (take m st)
        unfolding load_to
        load-exact zero h = refl
        load-exact (suc m) h =
            let c = get_or st m 0 in
            ap₂ plus (load-exact m (le_of_lt h)) (exact c (call-inside s S st m inside))
            ∙ sym (load-more (λ d. (customer s d).demand) (take m st) c) ∙ sym (ap (load s) (take-suc st m 0 h))

        pub fits-exact : (m : ℕ) → m ≤ length st → fits_of demand s.head.capacity st m ≡ fits s (take m st)
        unfolding fits_of
        fits-exact m h = rw (le-leb m (length st) h, load-exact m h)
