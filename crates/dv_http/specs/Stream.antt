-- The messages of a whole input, one after the other.
use Rattle.std.specs.Prelude.{◌≡◌, ℕ, List, [], ◌∷◌, drop}
use Rattle.std.specs.Bool.{MatchBool}
use Rattle.dv_http.specs.declared.message.HttpMessage.{HttpMessage}
use Rattle.dv_http.specs.Message.{BeginsWithMessage, HasNoMessage}

-- The messages of the bytes in order, up to the first after which the server closes, and the rest that begins with
-- none; after a message that closes the rest counts as empty.
abbrev pub Messages : List ℕ → List HttpMessage → List ℕ → Type 0
Messages bytes [] rest = HasNoMessage bytes × (rest ≡ bytes)
Messages bytes (message ∷ messages) rest =
    (used : ℕ) × BeginsWithMessage bytes message used
    × MatchBool message.closes ((messages ≡ []) × (rest ≡ [])) (Messages (drop used bytes) messages rest)
