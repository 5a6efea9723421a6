-- The first fault of a value, by this walk: in an object, first the members that its schema doesn't list, in byte order; then the members of the schema in its order, each missing, excluded or not of its form, and inside each one its own parts. Where a member says by a word what further members there are, and it is missing or isn't one of the words, no member is unlisted, and only the members that don't depend on it are looked at.
use Rattle.std.specs.Prelude.{ℕ, suc, List, [], ◌∷◌, ◌==◌, ◌&&◌, ◌||◌, Bool, false, not, nat_lt, length, if◌then◌else◌, Option, Some, None, option_map, option_and_then}
use Rattle.std.specs.List.{list_any}
use Rattle.std.specs.Option.{option_or, is_some}
use Rattle.std.specs.Ordering.{nat_cmp, match_ordering}
use Rattle.std.specs.Cmp.Lexicographic.{slice_cmp}
use Rattle.std.specs.Str.{bytes_eq}
use Rattle.serde_json.specs.Data.{Data, null, boolean, number, string, array, object, Items, no_items, item, Members, no_members, member}
use Rattle.serde_json.specs.Events.{items_len}
use Rattle.serde_json.specs.Find.{get, as_str, as_array, as_object}
use Rattle.dv_value.specs.Raws.{raw_of}
use Rattle.dv_form.specs.Forms.{Spelling, Form, value, raw_values, object_of, tuple_of, list_of, distinct_integers, Exclusion, given, is_word, is_not_integer, is_same_id, Member, Case, Schema}
use Rattle.dv_form.specs.Members.{id_in, integer_in, is_short, members_in}
use Rattle.dv_form.specs.Places.{Step, into_member, into_item}
use Rattle.dv_form.specs.Spellings.{passes, is_integer, is_spelled}
use Rattle.dv_form.specs.declared.fault.FaultKind.{FaultKind}
use Rattle.dv_form.specs.declared.fault.FaultKind.TheVariants.{Unlisted, Wrong, TooLong}

-- a fault, and the way to it
pub record Violation : Type 0 where
  pub kind : FaultKind
  pub path : List Step

-- a fault of the value itself
abbrev pub here : FaultKind → Violation
here kind = record { kind = kind; path = [] }

-- the fault of a part, seen from the value that it is a part of
abbrev pub inside : Step → Violation → Violation
inside step fault = record { kind = fault.kind; path = step ∷ fault.path }

-- a fault where the test fails
abbrev pub unless_holds : Bool → Option Violation
unless_holds ok = if ok then None else Some (here Wrong)

-- an object of raw values: the first member that isn't one
unfoldable pub raw_values_fault : Members → Option Violation
raw_values_fault no_members = None
raw_values_fault (member name d ms) = if is_some (raw_of d) then raw_values_fault ms else Some (inside (into_member name) (here Wrong))

-- the items from number i on, each with its own spelling
unfoldable pub spelled_items_fault : List Spelling → ℕ → Items → Option Violation
spelled_items_fault [] i ds = None
spelled_items_fault (s ∷ ss) i no_items = None
spelled_items_fault (s ∷ ss) i (item d ds) = if is_spelled s d then spelled_items_fault ss (suc i) ds else Some (inside (into_item i) (here Wrong))

-- a list of as many items as there are spellings, each with its own
unfoldable pub tuple_fault : List Spelling → Items → Option Violation
tuple_fault ss ds = if items_len ds == length ss then spelled_items_fault ss 0 ds else Some (here Wrong)

-- whether a value is an integer of 32 bits that none of the earlier values is
unfoldable pub is_new_integer : List Data → Data → Bool
is_new_integer earlier d = passes (λ n. is_short n && not (list_any (is_integer n) earlier)) (integer_in d)

-- the items from number i on, after the earlier ones
unfoldable pub new_integers_fault : List Data → ℕ → Items → Option Violation
new_integers_fault earlier i no_items = None
new_integers_fault earlier i (item d ds) = if is_new_integer earlier d then new_integers_fault (d ∷ earlier) (suc i) ds else Some (inside (into_item i) (here Wrong))

-- a nonempty list of integers of 32 bits, no two of them equal
unfoldable pub distinct_fault : Items → Option Violation
distinct_fault no_items = Some (here Wrong)
distinct_fault (item d ds) = new_integers_fault [] 0 (item d ds)

-- whether an exclusion holds for a member of an object, whose value is the second argument
unfoldable pub is_excluded_by : Data → Data → Exclusion → Bool
is_excluded_by d own (given name) = is_some (get name d)
is_excluded_by d own (is_word name word) = passes (λ s. bytes_eq s word) (option_and_then as_str (get name d))
is_excluded_by d own (is_not_integer name n) = not (passes (is_integer n) (get name d))
is_excluded_by d own (is_same_id name) = passes (λ id. passes (λ other. id.0 == other.0) (option_and_then id_in (get name d))) (id_in own)

-- whether one of the exclusions of a member holds
unfoldable pub is_excluded : {R : Type 0} → Data → Member R → Bool
is_excluded d m = passes (λ own. list_any (is_excluded_by d own) m.excluded_by) (get m.name d)

-- the members under a word
unfoldable pub case_of : {R : Type 0} → List ℕ → List (Case R) → Option (List (Member R))
case_of word [] = None
case_of word (c ∷ cs) = if bytes_eq c.word word then Some c.members else case_of word cs

-- the further members under the word at a name, where it is one of the words; none where no name decides
unfoldable pub decided : {R : Type 0} → Option (List ℕ) → List (Case R) → Data → Option (List (Member R))
decided None cases d = Some []
decided (Some name) cases d = option_and_then (λ word. case_of word cases) (option_and_then as_str (get name d))

-- the further members of an object, where the member that decides on them is one of the words
abbrev pub further : {R : Type 0} → Schema R → Data → Option (List (Member R))
further table d = decided table.decided_by table.cases d

-- whether a list of members has a name
unfoldable pub is_listed : {R : Type 0} → List (Member R) → List ℕ → Bool
is_listed members name = list_any (λ m. bytes_eq m.name name) members

-- the first member in byte order that neither list has
unfoldable pub unlisted_fault : {R : Type 0} → List (Member R) → List (Member R) → Members → Option Violation
unlisted_fault members more no_members = None
unlisted_fault members more (member name d ms) = if is_listed members name || is_listed more name then unlisted_fault members more ms else Some (inside (into_member name) (here Unlisted))

-- a member of a schema that isn't there, or with what is wrong with its value
unfoldable pub judged_member : {R : Type 0} → Data → Member R → Option (Option Violation) → Option Violation
judged_member d m None = if m.needed then Some (inside (into_member m.name) (here Wrong)) else None
judged_member d m (Some fault) = if is_excluded d m then Some (inside (into_member m.name) (here Wrong)) else option_map (inside (into_member m.name)) fault

-- a member of a schema, given what is wrong with the value that the object has under a name
abbrev pub member_fault : {R : Type 0} → Data → (List ℕ → Form R → Option (Option Violation)) → Member R → Option Violation
member_fault d look m = judged_member d m (look m.name m.form)

-- the members of a schema in its order
unfoldable pub members_fault : {R : Type 0} → Data → (List ℕ → Form R → Option (Option Violation)) → List (Member R) → Option Violation
members_fault d look [] = None
members_fault d look (m ∷ members) = option_or (member_fault d look m) (members_fault d look members)

-- an object against the members of its schema, and the further ones if they are known
unfoldable pub judged_object : {R : Type 0} → List (Member R) → Option (List (Member R)) → Data → (List ℕ → Form R → Option (Option Violation)) → Option Violation
judged_object members None d look = members_fault d look members
judged_object members (Some more) d look = option_or (unlisted_fault members more (members_in d)) (option_or (members_fault d look members) (members_fault d look more))

-- an object against its schema
abbrev pub object_fault : {R : Type 0} → Schema R → Data → (List ℕ → Form R → Option (Option Violation)) → Option Violation
object_fault table d look = judged_object table.members (further table d) d look

-- whether a list is longer than it may be
unfoldable pub is_over : Option ℕ → ℕ → Bool
is_over None n = false
is_over (Some most) n = nat_lt most n

-- a value under a form, given the first fault of its items under a form, and what is wrong with the value that it has under a name
unfoldable pub form_fault : {R : Type 0} → (R → Schema R) → Data → (Form R → Option Violation) → (List ℕ → Form R → Option (Option Violation)) → Form R → Option Violation
form_fault schemas d each look (value s) = unless_holds (is_spelled s d)
form_fault schemas d each look raw_values = elim (as_object d) [ None ↦ Some (here Wrong) | Some ms ↦ raw_values_fault ms ]
form_fault schemas d each look (object_of r) = if is_some (as_object d) then object_fault (schemas r) d look else Some (here Wrong)
form_fault schemas d each look (tuple_of ss) = elim (as_array d) [ None ↦ Some (here Wrong) | Some ds ↦ tuple_fault ss ds ]
form_fault schemas d each look (list_of form most) = elim (as_array d) [ None ↦ Some (here Wrong) | Some ds ↦ if is_over most (items_len ds) then Some (here TooLong) else each form ]
form_fault schemas d each look distinct_integers = elim (as_array d) [ None ↦ Some (here Wrong) | Some ds ↦ distinct_fault ds ]

-- a value has no items
abbrev pub no_item : {R : Type 0} → Form R → Option Violation
no_item form = None

-- no name has a value
abbrev pub no_member : {R : Type 0} → List ℕ → Form R → Option (Option Violation)
no_member name form = None

-- the first fault of a value under a form; `schemas` has the schema of each kind of object
unfoldable mutual
  pub first_fault : {R : Type 0} → (R → Schema R) → Data → Form R → Option Violation
  first_fault schemas null form = form_fault schemas null no_item no_member form
  first_fault schemas (boolean b) form = form_fault schemas (boolean b) no_item no_member form
  first_fault schemas (number n) form = form_fault schemas (number n) no_item no_member form
  first_fault schemas (string s) form = form_fault schemas (string s) no_item no_member form
  first_fault schemas (array ds) form = form_fault schemas (array ds) (items_fault schemas ds 0) no_member form
  first_fault schemas (object ms) form = form_fault schemas (object ms) no_item (fault_at schemas ms) form

  -- the first fault of the items from number i on
  pub items_fault : {R : Type 0} → (R → Schema R) → Items → ℕ → Form R → Option Violation
  items_fault schemas no_items i form = None
  items_fault schemas (item d ds) i form = option_or (option_map (inside (into_item i)) (first_fault schemas d form)) (items_fault schemas ds (suc i) form)

  -- what is wrong with the value under a name, if one is there
  pub fault_at : {R : Type 0} → (R → Schema R) → Members → List ℕ → Form R → Option (Option Violation)
  fault_at schemas no_members name form = None
  fault_at schemas (member key d ms) name form = match_ordering (slice_cmp nat_cmp name key) (fault_at schemas ms name form) (Some (first_fault schemas d form)) (fault_at schemas ms name form)
