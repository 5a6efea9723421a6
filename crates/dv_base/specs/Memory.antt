-- Objects in memory tell all that they hold, and fail where they were told to.
use Rattle.std.specs.Prelude.{ℕ, List}
use Rattle.dv_base.specs.Clock.{Moments}

-- A source in memory, which contracts see as these three.
pub record SourceInMemory : Type 0 where
  -- the bytes that are still to be read
  pub left : List ℕ
  -- the call of `read` that is to fail, counted from the next one as 1; at 0 none is
  pub failing_call : ℕ
  -- how often it failed
  pub faults : ℕ

-- A sink in memory, which contracts see as these four.
pub record SinkInMemory : Type 0 where
  -- the bytes that were written
  pub written : List ℕ
  -- how many bytes it takes in all
  pub room : ℕ
  -- the call of `write` that is to fail, counted from the next one as 1; at 0 none is
  pub failing_call : ℕ
  -- how often it failed
  pub faults : ℕ

-- A clock in memory, which contracts see as these three.
pub record ClockInMemory : Type 0 where
  -- the moments that it still gives
  pub moments : Moments
  -- the call of `now` that is to fail, counted from the next one as 1; at 0 none is
  pub failing_call : ℕ
  -- how often it failed
  pub faults : ℕ
