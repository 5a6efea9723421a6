-- Bytes are JSON where they are UTF-8 and `serde_json` reads them.
use Rattle.std.specs.Prelude.{ℕ, List, Option, None, if◌then◌else◌}
use Rattle.std.specs.Cmp.Lexicographic.{slice_cmp}
use Rattle.std.specs.Ordering.{nat_cmp, match_ordering}
use Rattle.serde_json.specs.Data.{Data, Members, no_members, member}
use Rattle.serde_json.specs.Read.{read}
use Rattle.dv_value.specs.Texts.{is_text}

-- the value that the bytes are, if they are JSON
unfoldable pub json_of : List ℕ → Option Data
json_of bytes = if is_text bytes then read bytes else None

-- the members but for the one of a name, which an object has once at most
unfoldable pub without : List ℕ → Members → Members
without name no_members = no_members
without name (member key d ms) = match_ordering (slice_cmp nat_cmp name key) (member key d (without name ms)) ms (member key d (without name ms))
