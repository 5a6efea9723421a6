-- A word of the code's invariants, and no rule of a definition: what a map of names has at a name.
use Rattle.std.specs.Prelude.{ℕ, Option, option_and_then, encode_utf8_all}
use Rattle.std.specs.BTreeMap.{get}
use Rattle.std.specs.Cmp.Lexicographic.{slice_cmp}
use Rattle.std.specs.Ordering.{on, nat_cmp}
use Rattle.dv_meta.specs.declared.index.names.Numbers.{Numbers}
use Rattle.dv_meta.specs.declared.index.names.Lookups.{Lookups}
use Rattle.dv_schema.specs.Names.{Name}

-- the number that a name has
unfoldable pub number_in : Numbers → Name → Option ℕ
number_in numbers = get (on encode_utf8_all (slice_cmp nat_cmp)) numbers.map

-- the number that a name in a table has
unfoldable pub lookup_in : Lookups → Name → Name → Option ℕ
lookup_in lookups table name = option_and_then (λ numbers. number_in numbers name) (get (on encode_utf8_all (slice_cmp nat_cmp)) lookups.map table)
