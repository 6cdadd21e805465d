-- Bytes as they stand in an array after `widen`: as many as are counted, and all of them where there is room. Assumes nothing.
use Prim.Native.Nat.{ℕ, ◌≤◌, min}
use native.Mathlib.Omega.{arith}
use mathlib.Core.Path.{◌≡◌, sym, ap, ◌∙◌}
use mathlib.Core.List.{List}
use lib.ListN.{length, take, drop, replicate, length-take, length-append}
use lib.Seq.{take_all, take-append_seam}
use Rattle.definitions.specs.Domain.{most_calls}
use Rattle.definitions.specs.Room.{written}

-- an array for the longest run list, as it is at first
abbrev pub zeros : List ℕ
zeros = replicate most_calls 0

module _ (bytes old held : List ℕ) (n : ℕ) (counted : n ≡ min (length bytes) (length old)) (read : held ≡ written (take (length old) bytes) old) where
  many : length (take (length old) bytes) ≡ n
  many = omega (arith, counted, length-take (length old) bytes)

  pub inside : n ≤ length held
  inside = omega (arith, many, ap length read ∙ length-append (take (length old) bytes) (drop (length (take (length old) bytes)) old))

  pub first_read : take n held ≡ take (length old) bytes
  first_read = rw (sym many, read) (take-append_seam (take (length old) bytes) (drop (length (take (length old) bytes)) old))

  pub as_many : n ≡ length (take n held)
  as_many = sym many ∙ ap length (sym first_read)

  pub few-read : length (take n held) ≤ length old
  few-read = omega (arith, counted, as_many)

  pub all_there : length bytes ≤ length old → take n held ≡ bytes
  all_there h = first_read ∙ take_all (length old) bytes h
