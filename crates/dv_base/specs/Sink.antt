-- A sink's bytes are written piece by piece; a fault may come between two parts of a piece.
use Rattle.std.specs.Prelude.{◌≡◌, ℕ, ◌<◌, List, Option, length, take}
use Rattle.std.specs.Io.KnownBytes.{append_known}

-- Only a front of the piece was written, and at least its last byte is missing.
abbrev pub IsCut : List ℕ → Option (List ℕ) → Option (List ℕ) → Type 0
IsCut piece before now = (n : ℕ) × (n < length piece) × (now ≡ append_known before (take n piece))
