-- An amount is a decimal number, kept as the integer that its last decimal counts: with two decimals, 1.50 is 150.
-- Its text has an optional minus sign, whole digits with no needless zero in front, and then, where there is a point, one decimal or more. Missing decimals are zeros.
use Rattle.std.specs.Prelude.{ℕ, suc, ◌+◌, ◌-◌, ◌*◌, ◌/◌, ◌^◌, ◌==◌, ℤ, pos, negsuc, neg_ℤ, nat_lt, nat_le, Bool, not, ◌&&◌, ◌||◌, if◌then◌else◌, List, [], ◌∷◌, ◌++◌, length, slice_index, Option, Some, None, option_map, option_and_then}
use Rattle.std.specs.Char.{is_ascii_digit}
use Rattle.std.specs.List.{list_all, position_or_len, before_first, after_first}
use Rattle.std.specs.Str.Parse.{digits_value}
use Rattle.std.specs.Fmt.{decimal}
use Rattle.dv_value.specs.Digits.{places}

-- the character `.`
abbrev pub is_point : ℕ → Bool
is_point c = c == 46

-- whether there is a point in the text
abbrev pub has_point : List ℕ → Bool
has_point text = nat_lt (position_or_len is_point text) (length text)

-- digits, of which the first is 0 only where it stands alone
unfoldable pub is_whole : List ℕ → Bool
is_whole text = nat_lt 0 (length text) && (nat_le (length text) 1 || not (slice_index text 0 == 48)) && list_all is_ascii_digit text

-- one digit or more, and no more than `scale`
unfoldable pub is_decimals : ℕ → List ℕ → Bool
is_decimals scale text = nat_lt 0 (length text) && nat_le (length text) scale && list_all is_ascii_digit text

-- the number that whole digits say
unfoldable pub whole_of : List ℕ → Option ℕ
whole_of text = if is_whole text then Some (digits_value 10 text) else None

-- how many last decimals the decimals say
unfoldable pub decimals_of : ℕ → List ℕ → Option ℕ
decimals_of scale text = if is_decimals scale text then Some (digits_value 10 text * 10 ^ (scale - length text)) else None

-- how many last decimals what follows the point says, and none where there is no point
unfoldable pub decimals_after : ℕ → List ℕ → Option ℕ
decimals_after scale text = if has_point text then decimals_of scale (after_first is_point text) else Some 0

-- how many last decimals a text with no sign says: its whole digits stand before the point
unfoldable pub magnitude_of : ℕ → List ℕ → Option ℕ
magnitude_of scale text =
    option_and_then (λ whole. option_map (λ decimals. whole * 10 ^ scale + decimals) (decimals_after scale text)) (whole_of (before_first is_point text))

-- a number of 64 bits
unfoldable pub in_range : ℤ → Option ℤ
in_range (pos n) = if nat_lt n (2 ^ 63) then Some (pos n) else None
in_range (negsuc n) = if nat_lt n (2 ^ 63) then Some (negsuc n) else None

-- the amount that a text says, where it is one of at most `scale` decimals
unfoldable pub amount_of : ℕ → List ℕ → Option ℤ
amount_of scale [] = None
amount_of scale (c ∷ text) =
    if c == 45
    then option_and_then (λ n. in_range (neg_ℤ (pos n))) (magnitude_of scale text)
    else option_and_then (λ n. in_range (pos n)) (magnitude_of scale (c ∷ text))

-- the point and all decimals of a number of last decimals, or nothing where it has none
unfoldable pub decimals_text : ℕ → ℕ → List ℕ
decimals_text scale n = if scale == 0 then [] else 46 ∷ places scale n

-- the text of a number of last decimals, with all its decimals
abbrev pub magnitude_text : ℕ → ℕ → List ℕ
magnitude_text scale n = decimal (n / 10 ^ scale) ++ decimals_text scale n

-- the text of an amount
unfoldable pub amount_text : ℕ → ℤ → List ℕ
amount_text scale (pos n) = magnitude_text scale n
amount_text scale (negsuc n) = 45 ∷ magnitude_text scale (suc n)
