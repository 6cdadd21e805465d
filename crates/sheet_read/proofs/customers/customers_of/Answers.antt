-- `customers::customers_of` meets its contract. Assumes nothing.
use native.Mathlib.Omega.{arith}
use mathlib.Core.List.{[], ◌∷◌, map}
use mathlib.Core.Path.{sym, ap, ◌∙◌}
use Rattle.definitions.specs.Reader.{customers_of, sheet_of}
use Rattle.definitions.specs.Words.{words_of}
use Rattle.definitions.specs.Sheet.{depot}
use Rattle.models.specs.Image.{fl_customer}
use Rattle.models.specs.Records.{customer_of}
use Rattle.models.proofs.Depot.{depots-image}
use Rattle.sheet_read.specs.Parts.{depots}
use Rattle.sheet_read.proofs.Writing.{set_out, turn, kept, ended, full}
use Rattle.sheet_read.proofs.Picking.{customers-picked}
use Rattle.sheet_read.proofs.Fitting.{map-set}
use Rattle.sheet_read.proofs.customers.customers_of.Goals as goal

pub loop-i-init : goal.loop-i-init
loop-i-init c =
    rw (ap (map customer_of) c.depots-all.ensures ∙ depots-image)
    (set_out (λ ws. map fl_customer (customers_of ws)) (fl_customer depot ∷ []) (words_of c.args.bytes.now) depots (omega arith))

pub returns-then-n-eq64 : goal.returns-then-n-eq64
unfolding sheet_of
returns-then-n-eq64 c = let q = c.loop-i.invariant in (full customers-picked q (c.if-n-eq64.true ∙ sym (kept customers-picked q))).holds

pub loop-i-preserved : goal.loop-i-preserved
loop-i-preserved c =
    let q = c.loop-i.invariant in
    rw map-set
    (turn customers-picked q _ (customer_of c.customer_at.result) (omega arith) c.word_at-w.ensures c.if-w-ne7.false (omega (arith, q.room)) c.customer_at.ensures)

pub returns : goal.returns
unfolding sheet_of
returns c = (ended customers-picked c.loop-i.invariant (omega arith)).holds
