use Rattle.std.proofs.Common.{◌≡◌, ℕ, ◌+◌, ◌<◌, ◌≤◌, min, List, [], ◌∷◌, ◌++◌, length, take, Bool, true, false, ◌||◌, ◌&&◌, not, nat_lt, if◌then◌else◌, Some, None, refl, sym, ◌∙◌, ap, arith, length-append}
use Rattle.std.proofs.lemmas.List.{take_all, take-append-le, length-take, length-take-le}
use Rattle.std.proofs.lemmas.List.Folds.{list_all-append}
use Rattle.std.proofs.lemmas.Bool.{ltb-false, le-ltb, le-leb, lt-leb}
use borrow.Author.Tests.{ltb-true}
use Rattle.std.specs.List.{list_all}
use Rattle.dv_service.specs.declared.line_buffer.LineBuffer.{LineBuffer}
use Rattle.dv_service.specs.declared.line_buffer.TheConstants.{LINE_LIMIT, ROOM}
use Rattle.dv_service.specs.Lines.{has_content, is_blank_byte, within_limit}
use Rattle.dv_service.specs.Sessions.{IsHeld, front_of}

pub front_of-nil : front_of [] ≡ []
unfolding front_of
front_of-nil = refl

pub has_content-nil : has_content [] ≡ false
unfolding has_content
has_content-nil = refl

pub Held_none : (b : LineBuffer) → b.bytes.items ≡ [] → b.has_content ≡ false → IsHeld b []
Held_none b e f = record { front = e ∙ sym front_of-nil; content = f ∙ sym has_content-nil }

take_one_at : (room : ℕ) (p : List ℕ) (b : ℕ) (t : Bool) → nat_lt (length p) room ≡ t
    → take room (p ++ b ∷ []) ≡ (if nat_lt (length (take room p)) room then take room p ++ b ∷ [] else take room p)
take_one_at room p b true e =
    let h : length p < room = ltb-true (length p) room e in
    let all = take_all room p (omega arith) in
    rw (all, e) (take_all room (p ++ b ∷ []) (omega (arith, length-append p (b ∷ []))))
take_one_at room p b false e =
    let h : room ≤ length p = ltb-false (length p) room e in
    let len = length-take-le room p h in
    rw (take-append-le room p (b ∷ []) h, len, le-ltb room room (omega arith)) refl

take_one : (room : ℕ) (p : List ℕ) (b : ℕ) → take room (p ++ b ∷ []) ≡ (if nat_lt (length (take room p)) room then take room p ++ b ∷ [] else take room p)
take_one room p b = take_one_at room p b _ refl

pub front_of-one : (p : List ℕ) (b : ℕ) → front_of (p ++ b ∷ []) ≡ (if nat_lt (length (front_of p)) ROOM then front_of p ++ b ∷ [] else front_of p)
unfolding front_of
front_of-one p b = take_one ROOM p b

either_one : (a b : Bool) → not (a && (b && true)) ≡ (not a || not b)
either_one true true = refl
either_one true false = refl
either_one false b = refl

pub has_content-one : (p : List ℕ) (b : ℕ) → has_content (p ++ b ∷ []) ≡ (has_content p || not (is_blank_byte b))
unfolding has_content
has_content-one p b = rw (list_all-append is_blank_byte p (b ∷ [])) (either_one (list_all is_blank_byte p) (is_blank_byte b))

within_at : (front p : List ℕ) (room limit : ℕ) → room ≡ limit + 1 → front ≡ take room p → length front ≤ limit → (length p ≤ limit) × (front ≡ p)
within_at front p room limit r e h =
    let len : min room (length p) ≤ limit = rw (← length-take room p, ← e) h in
    let short : length p ≤ limit = omega (arith, len) in
    (short, e ∙ take_all room p (omega arith))

above_at : (front p : List ℕ) (room limit : ℕ) → room ≡ limit + 1 → front ≡ take room p → limit < length front → limit < length p
above_at front p room limit r e h =
    let len : limit < min room (length p) = rw (← length-take room p, ← e) h in
    omega (arith, len)

pub within_limit-short : (front p : List ℕ) → front ≡ front_of p → length front ≤ LINE_LIMIT → Some front ≡ within_limit p
unfolding within_limit front_of
within_limit-short front p e h =
    let both = within_at front p ROOM LINE_LIMIT refl e h in
    rw (le-leb (length p) LINE_LIMIT both.0) (ap Some both.1)

pub within_limit-long : (front p : List ℕ) → front ≡ front_of p → LINE_LIMIT < length front → None ≡ within_limit p
unfolding within_limit front_of
within_limit-long front p e h = rw (lt-leb (length p) LINE_LIMIT (above_at front p ROOM LINE_LIMIT refl e h)) refl
