-- What the service takes from the headers. Names are compared without case.
use Rattle.std.specs.Prelude.{ℕ, Bool, ◌&&◌, nat_lt, nat_le, if◌then◌else◌, List, [], ◌∷◌, length, map, filter, Option, None, Some, codes}
use Rattle.std.specs.List.{list_any, list_all}
use Rattle.std.specs.Char.{is_ascii_digit}
use Rattle.std.specs.Str.{str_eq_ignore_ascii_case}
use Rattle.std.specs.Str.Parse.{digits_value}
use Rattle.dv_http.specs.declared.limits.TheConstants.{MAX_LENGTH_DIGITS, MAX_BODY}

-- The values of the headers of that name, in their order.
abbrev pub values_of : List ℕ → List (List ℕ × List ℕ) → List (List ℕ)
values_of name headers =
    map (λ header. header.1) (filter (λ header. str_eq_ignore_ascii_case header.0 name) headers)

-- The first of the values, if there is one.
abbrev pub first_of : List (List ℕ) → Option (List ℕ)
first_of [] = None
first_of (value ∷ values) = Some value

-- The text is one to seven decimal digits.
abbrev pub is_length_form : List ℕ → Bool
is_length_form text =
    nat_lt 0 (length text) && nat_le (length text) MAX_LENGTH_DIGITS && list_all is_ascii_digit text

-- The number of a `Content-Length`: one to seven digits, and at most 1,048,576. Nothing else is one.
abbrev pub length_of : List ℕ → Option ℕ
length_of text =
    if is_length_form text && nat_le (digits_value 10 text) MAX_BODY then Some (digits_value 10 text) else None

-- The length of the body, from the values of `Transfer-Encoding` and of `Content-Length`: no body without either, and
-- none of these where a transfer encoding is named, or a length is named twice or isn't one.
abbrev pub framed_len : List (List ℕ) → List (List ℕ) → Option ℕ
framed_len [] [] = Some 0
framed_len [] (value ∷ []) = length_of value
framed_len [] (first ∷ (second ∷ values)) = None
framed_len (coding ∷ codings) lengths = None

-- The length of the body that the headers announce; none where they break the profile.
unfoldable pub body_len : List (List ℕ × List ℕ) → Option ℕ
body_len headers =
    framed_len (values_of (codes "transfer-encoding") headers) (values_of (codes "content-length") headers)

-- Whether a `Connection` header has the whole value `close`.
unfoldable pub asks_to_close : List (List ℕ × List ℕ) → Bool
asks_to_close headers =
    list_any (λ value. str_eq_ignore_ascii_case value (codes "close")) (values_of (codes "connection") headers)

-- The value of the first `Caller` header.
unfoldable pub caller_of : List (List ℕ × List ℕ) → Option (List ℕ)
caller_of headers = first_of (values_of (codes "caller") headers)
