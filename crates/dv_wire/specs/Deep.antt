-- A value that is read of an object, with the same read of the items of its lists: filters in a filter, links in a link, requests in a batch.
use Rattle.std.specs.Prelude.{ℕ, List, [], ◌∷◌}
use Rattle.std.specs.Ordering.{nat_cmp, match_ordering}
use Rattle.std.specs.Cmp.Lexicographic.{slice_cmp}
use Rattle.serde_json.specs.Data.{Data, null, boolean, number, string, array, object, Items, no_items, item, Members, no_members, member}

-- what is read of nothing
abbrev pub nothing : {A : Type 0} → List ℕ → List A
nothing name = []

unfoldable mutual
  -- a value, by a step that is given what was read of the items of the list under each name
  pub deep : {A : Type 0} → (Data → (List ℕ → List A) → A) → Data → A
  deep step null = step null nothing
  deep step (boolean b) = step (boolean b) nothing
  deep step (number n) = step (number n) nothing
  deep step (string s) = step (string s) nothing
  deep step (array ds) = step (array ds) nothing
  deep step (object ms) = step (object ms) (deep_under step ms)

  -- what is read of the list under a name
  pub deep_under : {A : Type 0} → (Data → (List ℕ → List A) → A) → Members → List ℕ → List A
  deep_under step no_members name = []
  deep_under step (member key d ms) name = match_ordering (slice_cmp nat_cmp name key) (deep_under step ms name) (deep_list step d) (deep_under step ms name)

  -- what is read of a list
  pub deep_list : {A : Type 0} → (Data → (List ℕ → List A) → A) → Data → List A
  deep_list step null = []
  deep_list step (boolean b) = []
  deep_list step (number n) = []
  deep_list step (string s) = []
  deep_list step (array ds) = deep_each step ds
  deep_list step (object ms) = []

  -- what is read of each item
  pub deep_each : {A : Type 0} → (Data → (List ℕ → List A) → A) → Items → List A
  deep_each step no_items = []
  deep_each step (item d ds) = deep step d ∷ deep_each step ds
