-- Texts, ids, versions and raw values are printed as JSON.
use Rattle.std.specs.Prelude.{ℕ, List, [], ◌∷◌, encode_utf8_all, decimal}
use Rattle.serde_json.specs.Data.{Data, null, boolean, number, string, object, Members, no_members, put}
use Rattle.serde_json.specs.Find.{of_integer}
use Rattle.dv_value.specs.Ids.{id_text}
use Rattle.dv_value.specs.declared.id.Id.{Id}
use Rattle.dv_value.specs.declared.raw.Raw.{Raw}
use Rattle.dv_value.specs.declared.raw.Raw.TheVariants.{Null, Bool, Int, Str}

-- a text is a JSON text
abbrev pub text_data : List ℕ → Data
text_data text = string (encode_utf8_all text)

-- an id is a text, in lower case with hyphens
abbrev pub id_data : Id → Data
id_data id = string (id_text id.0)

-- a version is a text, its number in decimal
abbrev pub version_data : ℕ → Data
version_data version = string (decimal version)

-- a raw value is what JSON has for it
unfoldable pub raw_data : Raw → Data
raw_data Null = null
raw_data (Bool flag) = boolean flag
raw_data (Int n) = number (of_integer n)
raw_data (Str text) = text_data text

-- the values, put one after another into the members
unfoldable pub with_values : List (List ℕ × Raw) → Members → Members
with_values [] ms = ms
with_values (value ∷ values) ms = with_values values (put (encode_utf8_all value.0) (raw_data value.1) ms)

-- values under their names are the members of an object, in byte order
unfoldable pub values_data : List (List ℕ × Raw) → Data
values_data values = object (with_values values no_members)
