-- `customers::customer_at` meets its contract. Assumes nothing.
use Prim.Native.Nat.{suc}
use native.Mathlib.Numerals.{add-one}
use native.Mathlib.Omega.{arith}
use mathlib.Core.Path.{◌≡◌, sym, ap, ◌∙◌}
use lib.ListN.{drop}
use Rattle.whole.specs.Whole.{fl}
use Rattle.models.specs.Load.{space_of}
use Rattle.definitions.specs.Reader.{values_of, own, load_of}
use Rattle.definitions.specs.Words.{Word, words_of}
use Rattle.sheet_words.proofs.ByIndex.{count-words}
use Rattle.sheet_read.proofs.Owning.{own_first, load-own, window-firsts}
use Rattle.sheet_read.proofs.Reading.{get_or-value_or}
use Rattle.sheet_read.proofs.customers.customer_at.Goals as goal

pub returns : goal.returns
unfolding fl
returns c =
    -- behind each part, from the last
    let p = c in
    let o = p in
    let d = o in
    let r = d in
    let z = r in
    let s = z in
    let l = s in
    let w = l in
    let a = w.args in
    let ws = drop (suc a.i) (words_of a.bytes.now) in
    let seats = ap (λ (x : Word). x.value) w.word_at-w.ensures in
    let demand : space_of l.load_from-demand.result ≡ load_of w.word_at-w.result.value (own ws) =
    (rw add-one at l.load_from-demand.ensures) ∙ sym (load-own w.word_at-w.result.value ws) in
    let service : s.own_value.result ≡ own_first 8 ws = rw add-one at s.own_value.ensures in
    let ready : r.own_value-ready.result ≡ own_first 9 ws = rw add-one at r.own_value-ready.ensures in
    let due : d.own_value-due.result ≡ own_first 0xA ws = rw add-one at d.own_value-due.ensures in
    let penalty : p.own_value-2.result ≡ own_first 0xB ws = rw add-one at p.own_value-2.ensures in
    rw (
      demand,
      seats,
      z.or_zero-service_duration.ensures,
      service,
      o.opening_of-time_window.ensures,
      ready,
      due,
      window-firsts (values_of 9 (own ws)) (values_of 0xA (own ws)),
      c.penalty_of-lateness_penalty.ensures,
      penalty,
    ) (simp get_or-value_or)

pub overflow_add-from : goal.overflow_add-from
overflow_add-from c = omega (arith, count-words c.args.bytes.now)
