use Rattle.std.proofs.Common.{◌≡◌, ◌++◌, drop}
use Rattle.dv_message.specs.Showing.{asked_from}
use Rattle.dv_message.proofs.showing.asked_numbers.Given as goal

abbrev pub invariant-loop-number : goal.invariant-loop-number
invariant-loop-number l = l.numbers.items ++ asked_from l.number l.names (drop l.number l.columns) ≡ asked_from 0 l.names l.columns
