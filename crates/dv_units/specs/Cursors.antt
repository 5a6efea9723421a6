-- Walks over the lists of the chart, entry by entry.
use Rattle.std.specs.Prelude.{Bool, true, List, Option, None, Some, find, nat_lt}
use Rattle.std.specs.declared.ops.Bound.{Bound}
use Rattle.std.specs.declared.ops.Bound.TheVariants.{Excluded, Unbounded}
use Rattle.std.specs.List.Sorted.{IsStrictlySortedBy}
use Rattle.std.specs.Map.{keys_of}
use Rattle.std.specs.Ordering.{nat_cmp, is_lt}
use Rattle.dv_value.specs.declared.id.Id.{Id}
use Rattle.dv_units.specs.Chart.{pair_cmp}

-- whether an id is past another, or past none
abbrev pub is_past : Option Id → Id → Bool
is_past None id = true
is_past (Some after) id = nat_lt after.0 id.0

-- the first entry of a list past an id
abbrev pub next_entry : {V : Type 0} → Option Id → List (Id × V) → Option (Id × V)
next_entry after es = find (λ e. is_past after e.0) es

-- the ids of a list ascend, so the first entry past an id is the least one
abbrev pub Ascends : {V : Type 0} → List (Id × V) → Type 0
Ascends es = IsStrictlySortedBy (λ a b. nat_cmp a.0 b.0) (keys_of es)

-- where what is past something begins, or the beginning of all
abbrev pub past : {K : Type 0} → Option K → Bound K
past None = Unbounded
past (Some after) = Excluded after

-- whether a pair is past another, or past none
abbrev pub is_past_pair : Option (Id × Id) → Id × Id → Bool
is_past_pair None pair = true
is_past_pair (Some after) pair = is_lt (pair_cmp after pair)

-- the first pair of a list past another
abbrev pub next_pair : Option (Id × Id) → List (Id × Id) → Option (Id × Id)
next_pair after pairs = find (λ pair. is_past_pair after pair) pairs

-- the pairs of a list ascend
abbrev pub PairsAscend : List (Id × Id) → Type 0
PairsAscend pairs = IsStrictlySortedBy pair_cmp pairs
