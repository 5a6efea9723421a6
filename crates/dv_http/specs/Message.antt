-- A message is a head and as many bytes after it as its headers announce.
use Rattle.std.specs.Prelude.{◌≡◌, ℕ, ◌+◌, ◌≤◌, Bool, ◌||◌, ◌==◌, List, length, take, Some}
use Rattle.httparse.specs.Grammar.{RequestHead}
use Rattle.dv_http.specs.declared.message.HttpMessage.{HttpMessage}
use Rattle.dv_http.specs.declared.limits.TheConstants.{HEAD_LIMIT}
use Rattle.dv_http.specs.Head.{BeginsWithHead, head_len, headers_of}
use Rattle.dv_http.specs.Headers.{body_len, asks_to_close, caller_of}

-- The server closes the connection after a message of HTTP/1.0, and after one that asks for it.
abbrev pub is_last : RequestHead → Bool
is_last head = head.minor == 0 || asks_to_close (headers_of head)

-- What the layer above is told of the head and the body.
abbrev pub message_of : RequestHead → List ℕ → HttpMessage
message_of head body = record {
  method = head.method;
  target = head.target;
  caller = caller_of (headers_of head);
  closes = is_last head;
  body = body;
}

-- The bytes begin with that message, which takes the first `used` of them.
pub record BeginsWithMessage (bytes : List ℕ) (message : HttpMessage) (used : ℕ) : Type 0 where
  pub head : RequestHead
  pub after : List ℕ
  pub begins : BeginsWithHead bytes head after
  pub short : head_len head ≤ HEAD_LIMIT
  pub body : ℕ
  pub announced : body_len (headers_of head) ≡ Some body
  pub there : body ≤ length after
  pub told : message ≡ message_of head (take body after)
  pub taken : used ≡ head_len head + body

-- The bytes begin with no message.
abbrev pub HasNoMessage : List ℕ → Type 0
HasNoMessage bytes = (message : HttpMessage) (used : ℕ) → ¬ (BeginsWithMessage bytes message used)
