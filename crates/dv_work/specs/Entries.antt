-- The entries of an ordered map, as a list.
use Rattle.std.specs.Prelude.{◌≡◌, Bool, Option, None, Some, List, find, is_some, option_copied}
use denote.Ref.{Bor}
use Rattle.std.specs.declared.cmp.Ordering.{Ordering}
use Rattle.std.specs.declared.ops.Bound.{Bound}
use Rattle.std.specs.declared.ops.Bound.TheVariants.{Excluded, Unbounded}
use Rattle.std.specs.List.Sorted.{IsStrictlySortedBy}
use Rattle.std.specs.Map.{keys_of, lookup, remove_entry}
use Rattle.std.specs.BTreeMap.{insert_entry, is_at}
use Rattle.std.specs.BTreeMap.Range.{is_from_start}

module _ {K V : Type 0} (cmp : K → K → Ordering) where
  -- the keys ascend, so that each stands once
  abbrev pub Ascends : List (K × V) → Type 0
  Ascends entries = IsStrictlySortedBy cmp (keys_of entries)

  -- the value at a key
  abbrev pub value_at : K → List (K × V) → Option V
  value_at key entries = lookup (is_at (cmp key)) entries

  -- whether a key is there
  abbrev pub has_key : K → List (K × V) → Bool
  has_key key entries = is_some (value_at key entries)

  -- the entries with a value at a key, in the place of the one that it had
  abbrev pub with_value : K → V → List (K × V) → List (K × V)
  with_value key value entries = insert_entry cmp entries key value

  -- the entries without a key
  abbrev pub without_key : K → List (K × V) → List (K × V)
  without_key key entries = remove_entry (is_at (cmp key)) entries

  -- the entries with a value at a key, or without it
  abbrev pub with_place : K → Option V → List (K × V) → List (K × V)
  with_place key None entries = without_key key entries
  with_place key (Some value) entries = with_value key value entries

  -- the first entry whose key lies at a bound or beyond it
  abbrev pub first_from : Bound K → List (K × V) → Option (K × V)
  first_from start entries = find (λ entry. is_from_start cmp start entry.0) entries

-- beyond a key, or anywhere
abbrev pub beyond : {K : Type 0} → Option K → Bound K
beyond None = Unbounded
beyond (Some key) = Excluded key

-- what a map of touched keys tells of a key: nothing, where it has what it had; else what it had
abbrev pub Tells : {V : Type 0} → Option (Option (Bor V)) → Option V → Option V → Type 0
Tells None had has = has ≡ had
Tells (Some before) had has = option_copied before ≡ had

-- the keys of a map, each with what it had in an old state, while each other key has what it had
abbrev pub AreTouched : {K V : Type 0} → (K → K → Ordering) → List (K × V) → List (K × V) → List (K × Option (Bor V)) → Type 0
AreTouched {K} cmp old new touched = (key : K) → Tells (value_at cmp key touched) (value_at cmp key old) (value_at cmp key new)
