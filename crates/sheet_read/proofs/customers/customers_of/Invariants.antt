-- `customers::customers_of` meets its contract. Assumes nothing.
use mathlib.Core.List.{[], ◌∷◌, map}
use Rattle.definitions.specs.Reader.{customers_of}
use Rattle.definitions.specs.Words.{words_of}
use Rattle.definitions.specs.Sheet.{depot}
use Rattle.models.specs.Image.{fl_customer}
use Rattle.models.specs.Records.{customer_of}
use Rattle.sheet_read.specs.Parts.{depots}
use Rattle.sheet_read.proofs.Writing.{Wrote}
use Rattle.sheet_read.proofs.customers.customers_of.Given as goal

abbrev pub invariant-loop-i : goal.invariant-loop-i
invariant-loop-i l =
    Wrote (λ ws. map fl_customer (customers_of ws)) (fl_customer depot ∷ []) (words_of l.bytes) depots (map customer_of l.all) l.i l.n
