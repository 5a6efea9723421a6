use Rattle.std.proofs.Common.{◌≡◌, ◌-◌, ◌==◌, length}
use Rattle.std.specs.List.{list_any}
use Rattle.dv_units.specs.Tree.{line}
use Rattle.dv_units.proofs.lines.is_in_line.Given as goal

abbrev pub invariant-loop-level : goal.invariant-loop-level
invariant-loop-level l = list_any (λ id. l.above.0 == id.0) (line (length l.units.entries) l.units.entries l.fn.unit) ≡ list_any (λ id. l.above.0 == id.0) (line (length l.units.entries - l.level) l.units.entries l.at)
