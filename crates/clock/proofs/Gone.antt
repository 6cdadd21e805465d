-- Labels that are gone stay gone. Assumes nothing.
use Prim.Native.Nat.{ℕ}
use mathlib.Core.Path.{◌≡◌}
use mathlib.Core.Bool.{false}
use Rattle.std.specs.Prelude.{None}
use lib.Ieee.{Float}
use Rattle.basics.proofs.TestLaws.{or_left, or_right}
use Rattle.basics.proofs.OptionLaws.{absent}
use Rattle.basics.specs.Options.{present}
use Rattle.definitions.specs.Sheet.{CustomerOf}
use Rattle.clock.specs.Records.{ClockF}
use Rattle.clock.specs.Serving.{earlier_f}
use Rattle.clock.specs.Clock.{push_f, alive_f, counts_f, finish_f}

pub record Gone (x : ClockF) : Type 0 where
  pub no-before : x.before ≡ None
  pub no-after : x.after ≡ None

pub not-alive : (x : ClockF) → alive_f x ≡ false → Gone x
not-alive x e =
    record { no-before = absent (or_left (present x.before) (present x.after) e); no-after = absent (or_right (present x.before) (present x.after) e) }

pub push-gone : (x : ClockF) (cid : ℕ) (c : CustomerOf Float) (travel : Float) → Gone x → Gone (push_f x cid c travel)
unfolding push_f earlier_f
push-gone x cid c travel g = record { no-before = rw g.no-before; no-after = rw (g.no-before, g.no-after) }

pub finish-gone : (distance back : Float) (x : ClockF) → Gone x → finish_f distance back x ≡ None
unfolding finish_f counts_f
finish-gone distance back x g = rw (g.no-before, g.no-after)
