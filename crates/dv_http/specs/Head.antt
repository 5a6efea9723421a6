-- A head is the request line, the header lines and the empty line after them, as `httparse` reads them in its default
-- setting: empty lines may stand before it, and a line ends with CR LF or with LF alone.
use Rattle.std.specs.Prelude.{◌≡◌, ℕ, ◌≤◌, List, [], length, map}
use Rattle.httparse.specs.Grammar.{LineEnd, RequestHead, ReadsRequest, print_request, print_blank}
use Rattle.httparse.specs.Spans.{name_and_value}
use Rattle.dv_http.specs.declared.limits.TheConstants.{MAX_HEADERS}

-- The bytes begin with that head, which has at most 64 headers, and the rest follows it.
pub record BeginsWithHead (bytes : List ℕ) (head : RequestHead) (rest : List ℕ) : Type 0 where
  pub reads : ReadsRequest bytes head rest
  pub few : length head.fields ≤ MAX_HEADERS

-- The bytes are a head and nothing else.
abbrev pub IsHead : List ℕ → Type 0
IsHead bytes = (head : RequestHead) × BeginsWithHead bytes head []

-- The bytes begin with no head.
abbrev pub HasNoHead : List ℕ → Type 0
HasNoHead bytes = (head : RequestHead) (rest : List ℕ) → ¬ (BeginsWithHead bytes head rest)

-- How many bytes the head has, the empty lines before it counted in.
abbrev pub head_len : RequestHead → ℕ
head_len head = length (print_request head)

-- The headers in order, each with its name and its value without the white space around it.
abbrev pub headers_of : RequestHead → List (List ℕ × List ℕ)
headers_of head = map name_and_value head.fields

-- The bytes are empty lines and nothing else.
abbrev pub AreEmptyLines : List ℕ → Type 0
AreEmptyLines bytes = (ends : List LineEnd) × (bytes ≡ print_blank ends)
