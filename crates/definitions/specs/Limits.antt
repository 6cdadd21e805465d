-- Limits: distance and duration each at most their limit, if given; and who needs no break. Definitions only.
use Rattle.std.specs.Prelude.{ℕ, Bool, true, ◌&&◌, ltb, leb, Option, None, Some}
use Rattle.definitions.specs.Sheet.{Break, Sheet}

-- at most the limit, if given
abbrev pub within : Option ℕ → ℕ → Bool
within None n = true
within (Some limit) n = leb n limit

-- `RouteLimits::allow`
abbrev pub allow : Sheet → ℕ → ℕ → Bool
allow s distance duration = within s.head.max_distance distance && within s.head.max_duration duration

-- home before earliest needs no break; home at earliest does
abbrev pub excused : Break → ℕ → Bool
excused b duration = ltb duration b.earliest
