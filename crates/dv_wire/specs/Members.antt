-- What an object says under a name, where it isn't the value of one member as dv_form reads it. For a member that is missing or of another form some value stands, which says nothing: of a member that must be there the walk has told a fault before.
use Rattle.std.specs.Prelude.{ℕ, ℤ, List, [], Option, map, option_map, option_and_then, unwrap_or}
use Rattle.serde_json.specs.Data.{Data, Members}
use Rattle.serde_json.specs.Find.{get, get_member, as_str, as_array}
use Rattle.dv_value.specs.Raws.{raw_of}
use Rattle.dv_value.specs.Tokens.{version_of, token_of}
use Rattle.dv_value.specs.declared.raw.Raw.{Raw}
use Rattle.dv_value.specs.declared.raw.Raw.TheVariants.{Null}
use Rattle.dv_value.specs.declared.token.Token.{Token}
use Rattle.dv_form.specs.Members.{data_list, integer_of}

-- the bytes of the text under a name
abbrev pub str_at : List ℕ → Data → Option (List ℕ)
str_at name d = option_and_then as_str (get name d)

-- the integer under a name; one that is missing has a default
abbrev pub integer_or : ℤ → List ℕ → Data → ℤ
integer_or default name d = unwrap_or (option_map integer_of (get name d)) default

-- the version
unfoldable pub version_if : List ℕ → Data → Option ℕ
version_if name d = option_and_then version_of (str_at name d)

-- the token
unfoldable pub token_if : List ℕ → Data → Option Token
token_if name d = option_and_then token_of (str_at name d)

-- the items of the list under a name, of members
abbrev pub list_in : List ℕ → Members → Option (List Data)
list_in name ms = option_map data_list (option_and_then as_array (get_member name ms))

-- the same, none where it is missing
abbrev pub items_in : List ℕ → Members → List Data
items_in name ms = unwrap_or (list_in name ms) []

-- the same of an object
unfoldable pub list_if : List ℕ → Data → Option (List Data)
list_if name d = option_map data_list (option_and_then as_array (get name d))

abbrev pub list_at : List ℕ → Data → List Data
list_at name d = unwrap_or (list_if name d) []

-- an item that is a raw value
abbrev pub raw_item : Data → Raw
raw_item d = unwrap_or (raw_of d) Null

-- the raw values of the list under a name
abbrev pub raws_at : List ℕ → Data → List Raw
raws_at name d = map raw_item (list_at name d)
