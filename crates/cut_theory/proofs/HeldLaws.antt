-- The table's best is there just where some legal cutting comes to less than `top` (`have→cuttable`, `cuttable→have`). So every beginning of what is kept has a legal cutting (`kept-cuttable`).
-- Assumes nothing.
use Prim.Native.Nat.{ℕ, zero, suc, ◌≤◌}
use mathlib.Core.Path.{◌≡◌, refl}
use mathlib.Core.Bool.{true, false}
use mathlib.Core.List.{List, []}
use lib.ListN.{length}
use Rattle.basics.proofs.TestLaws.{not-both}
use Rattle.cut_theory.specs.Cut.{ends}
use Rattle.cut_theory.specs.Runs.{Runs, RunLaws, rule_of}
use Rattle.cut_theory.proofs.RunsBest.{there, attained}
use Rattle.cut_theory.proofs.DropLaws.{held_all}
use Rattle.cut_theory.specs.Held.{Cuttable, have, kept}

module _ {A C : Type 0} (R : List A → Runs C) (Good : ℕ → C → Type 0) (L : (l : List A) → RunLaws (R l) Good) where
  pub have→cuttable : (l : List A) (n : ℕ) → have R l n ≡ true → Cuttable R l n
  have→cuttable l n h =
      let a = attained (R l) Good (L l) n h in
      (ends (rule_of (R l)) n, a.0, rw a.1 h)

  pub cuttable→have : (l : List A) (n : ℕ) → Cuttable R l n → have R l n ≡ true
  cuttable→have l n c = there (R l) Good (L l) n c.0 c.1 c.2

  -- a beginning that is found to have no cutting has none
  pub uncuttable : (l : List A) (n : ℕ) → have R l n ≡ false → Cuttable R l n → ⊥
  uncuttable l n h c = not-both (have R l n) (cuttable→have l n c) h

  -- where nothing is added, the start comes to less than `top`
  module _ (begin : (l : List A) → (R l).lower (R l).start (R l).top ≡ true) where
    -- every beginning of what is held has a legal cutting, the empty one and the whole among them
    pub kept-cuttable : (l : List A) (n : ℕ) → n ≤ length (kept R l) → Cuttable R (kept R l) n
    kept-cuttable l zero h = ([], (tt, refl), begin (kept R l))
    kept-cuttable l (suc n) h = have→cuttable (kept R l) (suc n) (held_all (have R) l n h)
