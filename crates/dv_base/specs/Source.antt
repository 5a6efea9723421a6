-- A source's bytes are taken from the front, and it gives none exactly where none is left.
use Rattle.std.specs.Prelude.{◌≡◌, ◌↔◌, ℕ, ◌<◌, List, [], Option, length, IfSome}

-- With room in the buffer, a read of n bytes gives none exactly where none was left, if that is told.
abbrev pub IsEmptyExactlyAtEnd : ℕ → List ℕ → Option (List ℕ) → Type 0
IsEmptyExactlyAtEnd n buffer left =
    0 < length buffer → IfSome left (λ bytes. (n ≡ 0) ↔ (bytes ≡ []))
