use Rattle.std.proofs.Common.{◌≡◌, ◌++◌, string_bytes}
use Rattle.dv_value.specs.Digits.{places}
use Rattle.dv_value.proofs.amount.push_places.Given as goal

abbrev pub invariant-loop-place : goal.invariant-loop-place
invariant-loop-place l = string_bytes l.text ++ places l.place l.number ≡ string_bytes l.fn.text ++ places l.count l.number
