-- A version is a number from 0 to 2^63 - 1. A token is one version, or a start and a place below it, joined by a plus, and has no spelling but the printed one.
use Rattle.std.specs.Prelude.{◌≡◌, ◌≤◌, ◌<◌, ℕ, ℤ, pos, negsuc, ◌^◌, ◌==◌, List, ◌∷◌, ◌++◌, Bool, ◌&&◌, nat_lt, bytes_eq, if◌then◌else◌, Option, Some, None, option_map, option_and_then, decimal}
use Rattle.std.specs.List.{list_any, before_first, after_first}
use Rattle.std.specs.Str.Parse.{digits_value}
use Rattle.dv_value.specs.Amount.{amount_of}
use Rattle.dv_value.specs.declared.token.Token.{Token}

-- a number that is not negative
unfoldable pub natural_of : ℤ → Option ℕ
natural_of (pos n) = Some n
natural_of (negsuc n) = None

-- the version that a request's text names: an amount with no decimals that is not negative
unfoldable pub version_of : List ℕ → Option ℕ
version_of text = option_and_then natural_of (amount_of 0 text)

-- the version that is printed as this text: the number of its digits, where that number is printed so
unfoldable pub printed_version_of : List ℕ → Option ℕ
printed_version_of text = if nat_lt (digits_value 10 text) (2 ^ 63) && bytes_eq (decimal (digits_value 10 text)) text then Some (digits_value 10 text) else None

-- whether a byte is a plus
abbrev pub is_plus : ℕ → Bool
is_plus b = b == 43

-- the token of a start and a place, which is below the start
unfoldable pub part_way : ℕ → ℕ → Option Token
part_way start place = if nat_lt place start then Some (record { start = start; place = place }) else None

-- the token that a text is
unfoldable pub token_of : List ℕ → Option Token
token_of text =
    if list_any is_plus text then option_and_then (λ start. option_and_then (λ place. part_way start place) (printed_version_of (after_first is_plus text))) (printed_version_of (before_first is_plus text))
    else option_map (λ version. record { start = version; place = version }) (printed_version_of text)

-- the text of a token
unfoldable pub token_text : Token → List ℕ
token_text token = if nat_lt token.place token.start then decimal token.start ++ 43 ∷ decimal token.place else decimal token.place

-- the text is that of the token, whose place is not past its start
abbrev pub IsSpelled : Token → List ℕ → Type 0
IsSpelled token text = (token.place ≤ token.start) × (token.start < 2 ^ 63) × (text ≡ token_text token)
