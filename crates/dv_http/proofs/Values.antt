-- The values of the headers of one name, header by header.
use Rattle.std.proofs.Common.{◌≡◌, ℕ, ◌+◌, ◌-◌, ◌<◌, true, false, List, [], ◌∷◌, length, take, drop, map, get_or, refl, ap, ◌∙◌, arith, add-one, length-drop}
use Rattle.std.proofs.lemmas.Bool.{false_from_ne_true}
use Rattle.std.proofs.lemmas.List.{take_all}
use Rattle.std.proofs.lemmas.Slice.Eq.{bytes_eq-Decides}
use Rattle.std.proofs.Math.Seq.{drop-cons}
use Rattle.std.specs.Char.{to_ascii_lowercase}
use Rattle.std.specs.Str.{bytes_eq}
use Rattle.std.specs.Prelude.{codes, Some, None}
use Rattle.httparse.specs.declared.spans.HeaderSpan.{HeaderSpan}
use Rattle.httparse.specs.Spans.{span_bytes, header_bytes}
use Rattle.dv_http.specs.Headers.{values_of, length_of, body_len, asks_to_close}

abbrev lower : List ℕ → List ℕ
lower bytes = map to_ascii_lowercase bytes

-- a header of the name gives its value
values_of-this : (name : List ℕ) (header : List ℕ × List ℕ) (headers : List (List ℕ × List ℕ)) → lower header.0 ≡ lower name
    → values_of name (header ∷ headers) ≡ header.1 ∷ values_of name headers
values_of-this name header headers same = rw ((bytes_eq-Decides (lower header.0) (lower name)).1 same) refl

-- another gives none
values_of-other : (name : List ℕ) (header : List ℕ × List ℕ) (headers : List (List ℕ × List ℕ))
    → (lower header.0 ≡ lower name → ⊥) → values_of name (header ∷ headers) ≡ values_of name headers
values_of-other name header headers other =
    rw (false_from_ne_true (bytes_eq (lower header.0) (lower name)) (λ is. other ((bytes_eq-Decides (lower header.0) (lower name)).0 is))) refl

module _ (bytes name : List ℕ) (headers : List HeaderSpan) (at : ℕ) (d : HeaderSpan) (within : at < length headers) where
  -- the headers from a place on are the one there and those after it
  from_place : map (header_bytes bytes) (drop at headers)
      ≡ header_bytes bytes (get_or headers at d) ∷ map (header_bytes bytes) (drop (at + 1) headers)
  from_place = rw (add-one, drop-cons headers at d within) refl

  pub values_of-found : lower (span_bytes bytes (get_or headers at d).name) ≡ lower name
      → values_of name (map (header_bytes bytes) (drop at headers))
      ≡ span_bytes bytes (get_or headers at d).value
      ∷ values_of name (map (header_bytes bytes) (take (length headers - (at + 1)) (drop (at + 1) headers)))
  values_of-found same =
      rw (take_all (length headers - (at + 1)) (drop (at + 1) headers) (omega (arith, length-drop (at + 1) headers)))
      (ap (λ (hs : List (List ℕ × List ℕ)). values_of name hs) from_place
      ∙ values_of-this name (header_bytes bytes (get_or headers at d)) (map (header_bytes bytes) (drop (at + 1) headers)) same)

  pub values_of-passed : (lower (span_bytes bytes (get_or headers at d).name) ≡ lower name → ⊥)
      → values_of name (map (header_bytes bytes) (drop at headers))
      ≡ values_of name (map (header_bytes bytes) (drop (at + 1) headers))
  values_of-passed other =
      ap (λ (hs : List (List ℕ × List ℕ)). values_of name hs) from_place
      ∙ values_of-other name (header_bytes bytes (get_or headers at d)) (map (header_bytes bytes) (drop (at + 1) headers)) other

abbrev connections : List (List ℕ × List ℕ) → List (List ℕ)
connections headers = values_of (codes "connection") headers

-- the first `Connection` header asks to close
pub asks_to_close-this : (headers : List (List ℕ × List ℕ)) (value : List ℕ) (values : List (List ℕ))
    → connections headers ≡ value ∷ values → lower value ≡ lower (codes "close") → asks_to_close headers ≡ true
unfolding asks_to_close
asks_to_close-this headers value values is same =
    rw (is, (bytes_eq-Decides (lower value) (lower (codes "close"))).1 same) refl

-- it doesn't, and the later ones decide
pub asks_to_close-other : (headers later : List (List ℕ × List ℕ)) (value : List ℕ)
    → connections headers ≡ value ∷ connections later → (lower value ≡ lower (codes "close") → ⊥)
    → asks_to_close headers ≡ asks_to_close later
unfolding asks_to_close
asks_to_close-other headers later value is other =
    rw (
      is,
      false_from_ne_true (bytes_eq (lower value) (lower (codes "close")))
          (λ same. other ((bytes_eq-Decides (lower value) (lower (codes "close"))).0 same)),
    ) refl

-- there is none
pub asks_to_close-none : (headers : List (List ℕ × List ℕ)) → connections headers ≡ [] → asks_to_close headers ≡ false
unfolding asks_to_close
asks_to_close-none headers is = rw is refl

abbrev codings : List (List ℕ × List ℕ) → List (List ℕ)
codings headers = values_of (codes "transfer-encoding") headers

abbrev lengths : List (List ℕ × List ℕ) → List (List ℕ)
lengths headers = values_of (codes "content-length") headers

pub body_len-coded : (headers : List (List ℕ × List ℕ)) (value : List ℕ) (values : List (List ℕ))
    → codings headers ≡ value ∷ values → body_len headers ≡ None
unfolding body_len
body_len-coded headers value values is = rw is refl

pub body_len-none : (headers : List (List ℕ × List ℕ)) → codings headers ≡ [] → lengths headers ≡ [] → body_len headers ≡ Some 0
unfolding body_len
body_len-none headers plain none = rw (plain, none) refl

pub body_len-one : (headers : List (List ℕ × List ℕ)) (value : List ℕ) → codings headers ≡ []
    → lengths headers ≡ value ∷ [] → body_len headers ≡ length_of value
unfolding body_len
body_len-one headers value plain one = rw (plain, one) refl

pub body_len-two : (headers : List (List ℕ × List ℕ)) (value other : List ℕ) (values : List (List ℕ))
    → codings headers ≡ [] → lengths headers ≡ value ∷ other ∷ values → body_len headers ≡ None
unfolding body_len
body_len-two headers value other values plain two = rw (plain, two) refl
