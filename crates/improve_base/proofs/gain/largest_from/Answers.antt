-- `gain::largest_from` meets its contract. Assumes nothing.
use Prim.Native.Nat.{ℕ}
use mathlib.Core.Path.{sym, ap, ◌∙◌}
use lib.ListN.{drop}
use borrow.Author.Rules.{rules}
use Rattle.std.proofs.lemmas.Iterator.{YieldsList-from_slice}
use Rattle.std.proofs.lemmas.Iterator.Consumers.{fold_from_yields_List}
use Rattle.std.proofs.lemmas.List.{drop_min, take_rest}
use Rattle.whole.specs.Larger.{larger_f}
use Rattle.improve_base.proofs.Reckoning.{largest-fold}
use Rattle.improve_base.proofs.gain.largest_from.Goals as goal

pub returns : goal.returns
returns c =
    let a = c.args in
    let from_k = c.iter.ensures.rest ∙ take_rest a.distances.now c.min.result ∙ ap (λ (n : ℕ). drop n a.distances.now) c.min.ensures ∙ drop_min a.k a.distances.now in
    fold_from_yields_List _ larger_f _ _ c.fold.ensures.ran (YieldsList-from_slice (drop a.k a.distances.now) from_k) (λ found x b q k. search rules)
    ∙ sym (largest-fold a.most (drop a.k a.distances.now))
