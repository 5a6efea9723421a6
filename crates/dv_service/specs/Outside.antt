-- What the sink and the clock tell of themselves at one moment of a run.
use Rattle.std.specs.Prelude.{ℕ, List, Option}
use Rattle.std.specs.Io.KnownBytes.{append_known}
use Rattle.dv_base.specs.Clock.{ClockState}

-- what was written, where the sink tells it, and the clock
pub record Outside : Type 0 where
  pub written : Option (List ℕ)
  pub clock : ClockState

abbrev pub outside : Option (List ℕ) → ClockState → Outside
outside written clock = record { written = written; clock = clock }

-- a text more was written
abbrev pub with_text : Outside → List ℕ → Outside
with_text before text = outside (append_known before.written text) before.clock
