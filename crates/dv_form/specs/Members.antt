-- What is read of a JSON value: an id, a text, a flag or an integer that it is, or that the member of a name is.
use Prim.Native.String.{String}
use Rattle.std.specs.Prelude.{ℕ, ℤ, pos, negsuc, List, [], ◌∷◌, ◌^◌, map, codes, Bool, false, nat_lt, if◌then◌else◌, Option, option_map, option_and_then, unwrap_or, chars}
use Rattle.serde_json.specs.Data.{Data, null, boolean, number, string, array, object, Members, no_members, Items, no_items, item}
use Rattle.std.specs.Str.{bytes_eq}
use Rattle.serde_json.specs.Find.{get, as_str, as_bool, as_number, as_array, as_object, as_i64, as_u64}
use Rattle.dv_value.specs.Ids.{id_of}
use Rattle.dv_value.specs.Raws.{values_of}
use Rattle.dv_value.specs.declared.raw.Raw.{Raw}
use Rattle.dv_value.specs.declared.id.Id.{Id}

-- the id that a value is, in any of the forms of a UUID
unfoldable pub id_in : Data → Option Id
id_in d = option_map (λ n. record { 0 = n }) (option_and_then id_of (as_str d))

-- the integer of 64 bits that a value is
unfoldable pub integer_in : Data → Option ℤ
integer_in d = option_and_then as_i64 (as_number d)

-- the text that a value is
unfoldable pub text_in : Data → Option (List ℕ)
text_in d = option_map chars (as_str d)

-- the members of an object
unfoldable pub members_in : Data → Members
members_in null = no_members
members_in (boolean b) = no_members
members_in (number n) = no_members
members_in (string s) = no_members
members_in (array ds) = no_members
members_in (object ms) = ms

-- the value of a member, `null` where it is missing
abbrev pub at : String → Data → Data
at name d = unwrap_or (get (codes name) d) null

-- whether a value is this word; what is no text is the empty word
abbrev pub says : String → Data → Bool
says word d = bytes_eq (unwrap_or (as_str d) []) (codes word)

-- ---- what a value of a form is; what these give for a value of another form doesn't matter, since it is rejected first

-- a truth value, else false
unfoldable pub flag_of : Data → Bool
flag_of d = unwrap_or (as_bool d) false

-- an id, else the nil one
unfoldable pub id_of_json : Data → Id
id_of_json d = unwrap_or (id_in d) (record { 0 = 0 })

-- an integer of 64 bits, else 0
unfoldable pub integer_of : Data → ℤ
integer_of d = unwrap_or (integer_in d) (pos 0)

-- whether an integer has 32 bits: it is from -2^31 to 2^31 - 1
unfoldable pub is_short : ℤ → Bool
is_short (pos n) = nat_lt n (2 ^ 31)
is_short (negsuc n) = nat_lt n (2 ^ 31)

-- an integer of 32 bits, else 0
unfoldable pub short_of : Data → ℤ
short_of d = if is_short (integer_of d) then integer_of d else pos 0

-- a natural number of 64 bits, else 0
unfoldable pub natural_of : Data → ℕ
natural_of d = unwrap_or (option_and_then as_u64 (as_number d)) 0

-- a natural number below a limit, else 0
unfoldable pub natural_below : ℕ → Data → ℕ
natural_below limit d = if nat_lt (natural_of d) limit then natural_of d else 0

-- a text, else the empty one
unfoldable pub text_of : Data → List ℕ
text_of d = unwrap_or (text_in d) []

-- an object of raw values, else none
unfoldable pub raw_values_of : Data → List (List ℕ × Raw)
raw_values_of d = unwrap_or (option_and_then values_of (as_object d)) []

-- the items as a list
abbrev pub data_list : Items → List Data
data_list no_items = []
data_list (item d ds) = d ∷ data_list ds

-- the items of a list, else none
unfoldable pub list_of : Data → List Data
list_of d = unwrap_or (option_map data_list (as_array d)) []

-- the texts of a list of names
abbrev pub names_of : Data → List (List ℕ)
names_of d = map text_of (list_of d)
