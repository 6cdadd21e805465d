-- `listing_alike` meets its contract. Assumes nothing.
use Rattle.definitions.specs.Listing.{listing}
use Rattle.test_runs.proofs.Same.{decided}
use Rattle.test_runs.proofs.Front.{front}
use Rattle.test_replay.proofs.listing_alike.Goals as goal

pub returns : goal.returns
returns c = let a = c.args in decided c.same.result (listing a.sheet.now) a.recorded.now (rw (front c.text-end.ensures.text) at c.same.ensures)
