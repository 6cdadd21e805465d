-- The bytes that the program reads are enough: longer input has the same listing as its first 34,573 bytes. Assumes nothing.
use Prim.Native.Nat.{ℕ, ◌≤◌, ◌<◌}
use native.Mathlib.Omega.{arith}
use mathlib.Core.Path.{◌≡◌, ap, ◌∙◌}
use mathlib.Core.List.{List, [], ◌∷◌}
use lib.ListN.{length, take, drop, length-drop, take-append-drop}
use lib.Seq.{length-take-le, take_all, take-add}
use lib.Dec.{leb}
use borrow.Author.Tests.{leb-true, leb-false}
use Rattle.basics.proofs.TestLaws.{by-test}
use Rattle.definitions.specs.Reader.{read}
use Rattle.definitions.specs.Listing.{reading_text, listing}
use Rattle.round_trip.proofs.Enough.{SomeByte, enough}

some_byte : (bs : List ℕ) → 1 ≤ length bs → SomeByte bs
some_byte [] h = absurd (none h)
  where
    none : 1 ≤ 0 → ⊥
    none l = omega arith
some_byte (b ∷ bs) h = tt

-- the first of them
first_byte : (bs : List ℕ) → 1 ≤ length bs → SomeByte (take 1 bs)
first_byte [] h = some_byte [] h
first_byte (b ∷ bs) h = tt

longer : (bytes : List ℕ) → 34573 ≤ length bytes → read (take 34573 bytes) ≡ read bytes
longer bytes h =
    let whole = take 34572 bytes in
    let behind = drop 34572 bytes in
    let many : 1 ≤ length behind = omega (arith, length-drop 34572 bytes) in
    ap read (take-add 34572 1 bytes)
    ∙ enough whole (take 1 behind) behind (length-take-le 34572 bytes (omega arith)) (first_byte behind many) (some_byte behind many)
    ∙ ap read (take-append-drop 34572 bytes)

pub read_first : (bytes : List ℕ) → read (take 34573 bytes) ≡ read bytes
read_first bytes =
    by-test (leb 34573 (length bytes)) (λ y. longer bytes (leb-true 34573 (length bytes) y))
    (λ n. let h : length bytes < 34573 = leb-false 34573 (length bytes) n in ap read (take_all 34573 bytes (omega arith)))

pub first-bytes : (bytes : List ℕ) → listing (take 34573 bytes) ≡ listing bytes
unfolding listing
first-bytes bytes = ap reading_text (read_first bytes)
