-- The words of the functions that read a head and what follows it.
use Rattle.std.specs.Prelude.{◌≡◌, ℕ, ◌+◌, ◌<◌, ◌≤◌, ◌⊎◌, List, length, take, drop, map, All, Some, None}
use Rattle.httparse.specs.declared.spans.HeaderSpan.{HeaderSpan}
use Rattle.httparse.specs.declared.spans.RequestSpans.{RequestSpans}
use Rattle.httparse.specs.Grammar.{RequestHead}
use Rattle.httparse.specs.Spans.{IsWithin, IsHeaderWithin, span_bytes, header_bytes}
use Rattle.dv_http.specs.declared.limits.TheConstants.{HEAD_LIMIT}
use Rattle.dv_http.specs.declared.message.Heard.{Heard}
use Rattle.dv_http.specs.declared.message.Heard.TheVariants.{Whole, NotYet, Bad}
use Rattle.dv_http.specs.Head.{BeginsWithHead, head_len, headers_of}
use Rattle.dv_http.specs.Headers.{body_len}
use Rattle.dv_http.specs.Message.{message_of, BeginsWithMessage}
use Rattle.dv_http.specs.Hopeless.{HasBadLines, IsHopeless, IsUnfinished}

-- The spans lie in the bytes.
pub record AreWithin (bytes : List ℕ) (headers : List HeaderSpan) (spans : RequestSpans) : Type 0 where
  pub len : spans.len ≤ length bytes
  pub method : IsWithin (length bytes) spans.method
  pub target : IsWithin (length bytes) spans.path
  pub each_header : All (IsHeaderWithin (length bytes)) headers

-- The bytes begin with that head, and the spans cover its parts.
pub record CoverHead (bytes : List ℕ) (headers : List HeaderSpan) (spans : RequestSpans) (head : RequestHead) : Type 0
  where
    pub begins : BeginsWithHead bytes head (drop spans.len bytes)
    pub len : spans.len ≡ head_len head
    pub method : span_bytes bytes spans.method ≡ head.method
    pub target : span_bytes bytes spans.path ≡ head.target
    pub minor : spans.version ≡ head.minor
    pub each_header : map (header_bytes bytes) headers ≡ headers_of head

-- What is heard of a head and the bytes after it: its body is there, is awaited, or is refused.
abbrev pub IsHeardAfter : RequestHead → List ℕ → Heard → Type 0
IsHeardAfter head after (Whole message used) =
    (body : ℕ) × (body_len (headers_of head) ≡ Some body) × (body ≤ length after)
    × (message ≡ message_of head (take body after)) × (used ≡ head_len head + body)
IsHeardAfter head after NotYet = (body : ℕ) × (body_len (headers_of head) ≡ Some body) × (length after < body)
IsHeardAfter head after Bad = body_len (headers_of head) ≡ None

-- What is heard of the first bytes, which begin with no head.
abbrev pub IsHeardWithout : List ℕ → Heard → Type 0
IsHeardWithout bytes (Whole message used) = ⊥
IsHeardWithout bytes NotYet = (length bytes < HEAD_LIMIT) × ¬ (HasBadLines bytes)
IsHeardWithout bytes Bad = (HEAD_LIMIT ≤ length bytes) ⊎ HasBadLines bytes

-- What is heard holds of the bytes.
abbrev pub IsHeard : List ℕ → Heard → Type 0
IsHeard bytes (Whole message used) = BeginsWithMessage bytes message used
IsHeard bytes NotYet = IsUnfinished bytes
IsHeard bytes Bad = IsHopeless bytes
