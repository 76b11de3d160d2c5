-- The limits of a plan, each named once. src/limits.rt has the same for the code.
use Rattle.std.specs.Prelude.{ℕ}

abbrev pub most_measures : ℕ
most_measures = 64

abbrev pub most_classes : ℕ
most_classes = 8

abbrev pub most_drivers : ℕ
most_drivers = 3

abbrev pub most_weight : ℕ
most_weight = 65535

-- the largest alteration, in tenths of a millimetre
abbrev pub most_alteration : ℕ
most_alteration = 1000000

-- the entry of what cannot be: no alteration reaches it
abbrev pub never : ℕ
never = 4294967295
