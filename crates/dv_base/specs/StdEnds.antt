-- A reader or a writer of std as an end, and a clock of std: contracts see it whole, and the count of its faults.
use Rattle.std.specs.Prelude.{ℕ}

-- A source over a reader.
pub record SourceOver (R : Type 0) : Type 0 where
  pub reader : R
  -- how often the reader refused
  pub faults : ℕ

-- A sink over a writer.
pub record SinkOver (W : Type 0) : Type 0 where
  pub writer : W
  -- how often the writer refused, or took nothing of a nonempty piece
  pub faults : ℕ

-- A clock over one of std.
pub record ClockOver (R : Type 0) : Type 0 where
  pub clock : R
  -- how often it refused, or was outside the range
  pub faults : ℕ
