-- Names are compared by their UTF-8 bytes, and a name's number is its first place in a list.
use Rattle.std.specs.Prelude.{ℕ, Bool, false, List, Option, Some, None, if◌then◌else◌, encode_utf8_all, is_some, nat_lt}
use Rattle.std.specs.Option.{option_map_or}
use Rattle.std.specs.Str.{bytes_eq}
use Rattle.dv_schema.specs.First.{first}

-- a text as contracts see it: its characters
abbrev pub Name : Type 0
Name = List ℕ

-- whether two names are one
abbrev pub same_name : Name → Name → Bool
same_name a b = bytes_eq (encode_utf8_all a) (encode_utf8_all b)

-- the first place of a name in a list
unfoldable pub place_of : List Name → Name → Option ℕ
place_of names name = first (λ i x. if same_name name x then Some i else None) names

-- whether a name is in a list
abbrev pub is_among : List Name → Name → Bool
is_among names name = is_some (place_of names name)

-- whether a name is in a list before a place
abbrev pub stands_before : List Name → ℕ → Name → Bool
stands_before names i name = option_map_or (λ k. nat_lt k i) (place_of names name) false
