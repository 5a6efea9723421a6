-- The decimal digits of a number, as characters.
use Rattle.std.specs.Prelude.{ℕ, zero, suc, ◌+◌, ◌/◌, ◌%◌, ◌^◌, List, [], ◌∷◌}

-- the last `count` decimal digits of a number, the highest first
unfoldable pub places : ℕ → ℕ → List ℕ
places zero n = []
places (suc count) n = (48 + n / 10 ^ count % 10) ∷ places count n
