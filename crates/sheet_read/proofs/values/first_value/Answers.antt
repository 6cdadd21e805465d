-- `values::first_value` meets its contract. Assumes nothing.
use Prim.Native.Nat.{ℕ}
use native.Mathlib.Omega.{arith}
use Rattle.std.specs.Prelude.{Some}
use mathlib.Core.List.{List}
use mathlib.Core.Path.{sym, ap, ◌∙◌}
use Rattle.definitions.specs.Reader.{first_of}
use Rattle.definitions.specs.Words.{Word, words_of}
use Rattle.sheet_read.proofs.Picking.{values-picked, next-picked, none-picked}
use Rattle.sheet_read.proofs.values.first_value.Goals as goal

pub returns-then-i-word_count : goal.returns-then-i-word_count
returns-then-i-word_count c =
    let a = c.args in
    let find = c.find-i in
    ap (λ (w : Word). Some w.value) c.word_at-w.ensures
    ∙ ap (λ (l : List ℕ). first_of l) (sym (next-picked (values-picked a.kind) (words_of a.bytes.now) 0 find.result find.ensures (omega arith)))

pub returns-else-i-word_count : goal.returns-else-i-word_count
returns-else-i-word_count c =
    let a = c.args in
    let find = c.find-i in
    ap (λ (l : List ℕ). first_of l) (sym (none-picked (values-picked a.kind) (words_of a.bytes.now) 0 find.result find.ensures (omega arith)))
