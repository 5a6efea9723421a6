-- Bytes are hopeless where no message can come of them, as far as their ended lines tell.
use Rattle.std.specs.Prelude.{◌≡◌, ◌≢◌, ℕ, ◌<◌, ◌≤◌, ◌⊎◌, List, ◌∷◌, ◌++◌, [], length, All, None}
use Rattle.httparse.specs.Ascii.{line_feed, crlf_bytes}
use Rattle.httparse.specs.Grammar.{RequestHead}
use Rattle.dv_http.specs.declared.limits.TheConstants.{HEAD_LIMIT}
use Rattle.dv_http.specs.Head.{BeginsWithHead, IsHead, HasNoHead, AreEmptyLines, head_len, headers_of}
use Rattle.dv_http.specs.Headers.{body_len}
use Rattle.dv_http.specs.Message.{HasNoMessage}

-- The bytes begin with a head whose headers break the profile: a `Transfer-Encoding`, or a `Content-Length` that is
-- repeated or isn't one.
pub record HasBadHead (bytes : List ℕ) : Type 0 where
  pub head : RequestHead
  pub after : List ℕ
  pub begins : BeginsWithHead bytes head after
  pub refused : body_len (headers_of head) ≡ None

-- There are at least 16,384 bytes, and they begin with a longer head or with none.
pub record HasLongHead (bytes : List ℕ) : Type 0 where
  pub many : HEAD_LIMIT ≤ length bytes
  pub longer : (head : RequestHead) (after : List ℕ) → BeginsWithHead bytes head after → HEAD_LIMIT < head_len head

-- The bytes begin with no head, and their lines up to the last line feed, which aren't all empty, can't be the lines
-- of one: with an empty line put after them they aren't a head.
pub record HasBadLines (bytes : List ℕ) : Type 0 where
  pub none : HasNoHead bytes
  pub lines : List ℕ
  pub unended : List ℕ
  pub split : bytes ≡ lines ++ line_feed ∷ unended
  pub last : All (λ byte. byte ≢ line_feed) unended
  pub some : ¬ (AreEmptyLines (lines ++ line_feed ∷ []))
  pub bad : ¬ (IsHead (lines ++ line_feed ∷ crlf_bytes))

-- Nothing that follows makes the bytes begin with a message.
abbrev pub IsHopeless : List ℕ → Type 0
IsHopeless bytes = HasBadHead bytes ⊎ (HasLongHead bytes ⊎ HasBadLines bytes)

-- The bytes begin with no message, and aren't hopeless: more of them are awaited.
abbrev pub IsUnfinished : List ℕ → Type 0
IsUnfinished bytes = HasNoMessage bytes × ¬ (IsHopeless bytes)
