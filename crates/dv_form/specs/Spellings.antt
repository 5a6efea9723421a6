-- What each spelling admits.
use Rattle.std.specs.Prelude.{ℕ, ℤ, List, [], ◌∷◌, ◌==◌, ◌&&◌, ◌||◌, Bool, false, not, nat_le, int_le, length, codes, Option, Some, None, option_and_then}
use Rattle.std.specs.Char.{is_ascii_lowercase, is_ascii_digit}
use Rattle.std.specs.List.{list_any, list_all}
use Rattle.std.specs.Option.{is_some}
use Rattle.std.specs.Ordering.{int_eq}
use Rattle.std.specs.Str.{bytes_eq}
use Rattle.serde_json.specs.Data.{Data}
use Rattle.serde_json.specs.Find.{as_str, as_bool}
use Rattle.dv_value.specs.Raws.{raw_of}
use Rattle.dv_value.specs.Tokens.{version_of, token_of}
use Rattle.dv_form.specs.Forms.{Spelling, any_id, real_id, a_name, a_name_or_star, any_text, a_flag, any_integer, integer_from, integer_among, word_among, any_raw, a_version, a_token}
use Rattle.dv_form.specs.Members.{id_in, integer_in}

-- something is there, and it passes the test
abbrev pub passes : {A : Type 0} → (A → Bool) → Option A → Bool
passes test None = false
passes test (Some x) = test x

-- a byte of a name after its first
unfoldable pub is_name_byte : ℕ → Bool
is_name_byte c = is_ascii_lowercase c || is_ascii_digit c || c == 95

-- the most bytes that a name has after its first
abbrev pub longest_rest : ℕ
longest_rest = 49

-- a name is a letter a to z, and then at most 49 letters a to z, digits or `_`
unfoldable pub is_name : List ℕ → Bool
is_name [] = false
is_name (c ∷ cs) = is_ascii_lowercase c && (nat_le (length cs) longest_rest && list_all is_name_byte cs)

-- both ends are included
unfoldable pub is_between : ℤ → ℤ → ℤ → Bool
is_between low high n = int_le low n && int_le n high

-- whether a value is this integer
unfoldable pub is_integer : ℤ → Data → Bool
is_integer n d = passes (λ m. int_eq m n) (integer_in d)

-- the word is one of these
unfoldable pub is_among : List (List ℕ) → List ℕ → Bool
is_among words word = list_any (λ w. bytes_eq w word) words

-- whether a value is spelled so
unfoldable pub is_spelled : Spelling → Data → Bool
is_spelled any_id d = is_some (id_in d)
is_spelled real_id d = passes (λ id. not (id.0 == 0)) (id_in d)
is_spelled a_name d = passes is_name (as_str d)
is_spelled a_name_or_star d = passes (λ s. is_name s || bytes_eq s (codes "*")) (as_str d)
is_spelled any_text d = is_some (as_str d)
is_spelled a_flag d = is_some (as_bool d)
is_spelled any_integer d = is_some (integer_in d)
is_spelled (integer_from low high) d = passes (is_between low high) (integer_in d)
is_spelled (integer_among ns) d = passes (λ n. list_any (λ m. int_eq m n) ns) (integer_in d)
is_spelled (word_among words) d = passes (is_among words) (as_str d)
is_spelled any_raw d = is_some (raw_of d)
is_spelled a_version d = is_some (option_and_then version_of (as_str d))
is_spelled a_token d = is_some (option_and_then token_of (as_str d))
