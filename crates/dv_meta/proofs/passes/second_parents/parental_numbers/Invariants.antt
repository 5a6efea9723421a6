use Rattle.std.proofs.Common.{◌≡◌, take}
use Rattle.dv_schema.specs.Names.{Name}
use Rattle.dv_meta.specs.Numbers.{number_in}
use Rattle.dv_meta.specs.Relations.{parental_of}
use Rattle.dv_meta.proofs.passes.second_parents.parental_numbers.Given as goal

abbrev pub invariant-loop-k : goal.invariant-loop-k
invariant-loop-k l = (child : Name) → number_in l.numbers child ≡ parental_of (take l.k l.relationships) child
