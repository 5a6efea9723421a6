-- What was taken of an input, and what the words of a command are.
use Rattle.std.proofs.Common.{◌≡◌, ℕ, List, [], ◌∷◌, ◌++◌, Option, length, map, String, Global, string_bytes, get_or, refl, ◌∙◌, ap, arith}
use Rattle.std.specs.Io.KnownBytes.{prepend_known}
use Rattle.dv_base.proofs.KnownBytesLaws.{prepend_known-append}

-- a piece more was taken
pub took_more : (left middle now : Option (List ℕ)) (taken piece : List ℕ) → left ≡ prepend_known taken middle → middle ≡ prepend_known piece now → left ≡ prepend_known (taken ++ piece) now
took_more left middle now taken piece first second = first ∙ ap (prepend_known taken) second ∙ prepend_known-append now taken piece

pub only_word : (words : List (String Global)) (d : String Global) → length words ≡ 1 → map string_bytes words ≡ string_bytes (get_or words 0 d) ∷ []
only_word [] d e = absurd (omega arith)
only_word (w ∷ []) d e = refl
only_word (v ∷ w ∷ words) d e = absurd (omega arith)

pub same_head : (xs ys : List ℕ) → xs ∷ [] ≡ ys ∷ [] → xs ≡ ys
same_head xs ys e = cc
