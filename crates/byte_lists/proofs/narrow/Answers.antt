use Rattle.std.proofs.Common.{◌≡◌, ℕ, zero, suc, ◌+◌, ◌<◌, List, [], ◌∷◌, ◌++◌, map, length, get_or, set, take, drop, refl, ap, add-one, arith}
use Rattle.std.proofs.lemmas.Grind.{common_steps}
use Rattle.std.proofs.lemmas.List.{length-take}
use Rattle.definitions.specs.Bytes.{byte_of}
use Rattle.byte_lists.proofs.narrow.Goals as goal

written_next : (f : ℕ → ℕ) (xs old : List ℕ) (i : ℕ) → i < length xs → i < length old
    → set (map f (take i xs) ++ drop i old) i (f (get_or xs i 0)) ≡ map f (take (suc i) xs) ++ drop (suc i) old
written_next f [] old i h k = absurd (omega arith)
written_next f (x ∷ xs) [] i h k = absurd (omega arith)
written_next f (x ∷ xs) (o ∷ old) zero h k = refl
written_next f (x ∷ xs) (o ∷ old) (suc i) h k = ap (λ l. f x ∷ l) (written_next f xs old i (omega arith) (omega arith))

written_more : (f : ℕ → ℕ) (xs old : List ℕ) (i : ℕ) → i < length xs → i < length old
    → set (map f (take i xs) ++ drop i old) i (f (get_or xs i 0)) ≡ map f (take (i + 1) xs) ++ drop (i + 1) old
written_more f xs old i h k = rw add-one (written_next f xs old i h k)

pub loop-k-preserved : goal.loop-k-preserved
loop-k-preserved c =
    let inside = length-take c.fitting-m.result c.args.numbers.now in
    let more = written_more byte_of c.args.numbers.now c.args.bytes.now c.loop-k.k (omega arith) (omega arith) in grind (arith, common_steps)
