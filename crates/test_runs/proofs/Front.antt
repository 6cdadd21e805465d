-- A text that was put at the front of a buffer. Assumes nothing.
use Prim.Native.Nat.{ℕ}
use native.Mathlib.Nat.{zero-add}
use mathlib.Core.Path.{◌≡◌}
use mathlib.Core.List.{List}
use lib.ListN.{length, take, drop}
use lib.Seq.{take-append_seam}
use Rattle.listing_lines.specs.Put.{put_at, Put}

pub front : {text old new : List ℕ} {r : ℕ} → Put 0 text old new r → take r new ≡ text
unfolding put_at
front {text} {old} {new} {r} p = rw (p.next, p.holds, zero-add (length text)) (take-append_seam text (drop (length text) old))
