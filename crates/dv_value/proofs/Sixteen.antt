-- The 16 bytes of a number of 128 bits are those of its two halves.
use Rattle.std.proofs.Common.{◌≡◌, ◌≤◌, inl, inr, ℕ, ◌+◌, ◌*◌, ◌/◌, ◌%◌, ◌^◌, ◌<◌, List, [], ◌∷◌, ◌++◌, length, get_or, take, drop, refl, sym, ◌∙◌, ap, arith, length-take, length-drop, get_or-take, get_or-drop}
use Rattle.std.specs.Int.{from_be_bytes, to_be_bytes, byte_at, w64, w128}
use Rattle.std.proofs.lemmas.Nat.{be_bytes_8}
use Rattle.std.proofs.lemmas.Bool.{cases_lt}
use Rattle.std.proofs.lemmas.List.{take-append-drop, get_or_past}

halves_low : (high low : ℕ) → low < 2 ^ 64 → to_be_bytes w64 (high * 2 ^ 64 + low) ≡ to_be_bytes w64 low
halves_low high low fits =
    let n : ℕ = high * 2 ^ 64 + low in
    let b0 : n % 256 ≡ low % 256 = omega arith in
    let b1 : n / 256 % 256 ≡ low / 256 % 256 = omega arith in
    let b2 : n / 65536 % 256 ≡ low / 65536 % 256 = omega arith in
    let b3 : n / 16777216 % 256 ≡ low / 16777216 % 256 = omega arith in
    let b4 : n / 4294967296 % 256 ≡ low / 4294967296 % 256 = omega arith in
    let b5 : n / 1099511627776 % 256 ≡ low / 1099511627776 % 256 = omega arith in
    let b6 : n / 281474976710656 % 256 ≡ low / 281474976710656 % 256 = omega arith in
    let b7 : n / 72057594037927936 % 256 ≡ low / 72057594037927936 % 256 = omega arith in
    λ i. b7 i ∷ b6 i ∷ b5 i ∷ b4 i ∷ b3 i ∷ b2 i ∷ b1 i ∷ b0 i ∷ []

halves_high : (high low : ℕ) → low < 2 ^ 64 → (byte_at 15 (high * 2 ^ 64 + low) ∷ byte_at 14 (high * 2 ^ 64 + low) ∷ byte_at 13 (high * 2 ^ 64 + low) ∷ byte_at 12 (high * 2 ^ 64 + low) ∷ byte_at 11 (high * 2 ^ 64 + low) ∷ byte_at 10 (high * 2 ^ 64 + low) ∷ byte_at 9 (high * 2 ^ 64 + low) ∷ byte_at 8 (high * 2 ^ 64 + low) ∷ []) ≡ to_be_bytes w64 high
halves_high high low fits =
    let n : ℕ = high * 2 ^ 64 + low in
    let b0 : n / 18446744073709551616 % 256 ≡ high % 256 = omega arith in
    let b1 : n / 4722366482869645213696 % 256 ≡ high / 256 % 256 = omega arith in
    let b2 : n / 1208925819614629174706176 % 256 ≡ high / 65536 % 256 = omega arith in
    let b3 : n / 309485009821345068724781056 % 256 ≡ high / 16777216 % 256 = omega arith in
    let b4 : n / 79228162514264337593543950336 % 256 ≡ high / 4294967296 % 256 = omega arith in
    let b5 : n / 20282409603651670423947251286016 % 256 ≡ high / 1099511627776 % 256 = omega arith in
    let b6 : n / 5192296858534827628530496329220096 % 256 ≡ high / 281474976710656 % 256 = omega arith in
    let b7 : n / 1329227995784915872903807060280344576 % 256 ≡ high / 72057594037927936 % 256 = omega arith in
    λ i. b7 i ∷ b6 i ∷ b5 i ∷ b4 i ∷ b3 i ∷ b2 i ∷ b1 i ∷ b0 i ∷ []

halves : (high low : ℕ) → low < 2 ^ 64 → to_be_bytes w128 (high * 2 ^ 64 + low) ≡ to_be_bytes w64 high ++ to_be_bytes w64 low
halves high low fits = ap (λ front. front ++ to_be_bytes w64 (high * 2 ^ 64 + low)) (halves_high high low fits) ∙ ap (λ back. to_be_bytes w64 high ++ back) (halves_low high low fits)

below : (a b c d e f g h : ℕ) → a < 256 → b < 256 → c < 256 → d < 256 → e < 256 → f < 256 → g < 256 → h < 256 → from_be_bytes w64 (a ∷ b ∷ c ∷ d ∷ e ∷ f ∷ g ∷ h ∷ []) < 2 ^ 64
below a b c d e f g h a' b' c' d' e' f' g' h' = omega arith

sum_of_halves : (a b c d e f g h i j k l m n o p : ℕ) → from_be_bytes w128 (a ∷ b ∷ c ∷ d ∷ e ∷ f ∷ g ∷ h ∷ i ∷ j ∷ k ∷ l ∷ m ∷ n ∷ o ∷ p ∷ []) ≡ from_be_bytes w64 (a ∷ b ∷ c ∷ d ∷ e ∷ f ∷ g ∷ h ∷ []) * 2 ^ 64 + from_be_bytes w64 (i ∷ j ∷ k ∷ l ∷ m ∷ n ∷ o ∷ p ∷ [])
sum_of_halves a b c d e f g h i j k l m n o p = omega arith

small_take : (n : ℕ) (bytes : List ℕ) → ((i : ℕ) → get_or bytes i 0 < 256) → (i : ℕ) → get_or (take n bytes) i 0 < 256
small_take n bytes small i =
    elim (cases_lt i n) [
      | inl h ↦ rw (get_or-take n bytes i 0 h) (small i)
      | inr h ↦ let past : length (take n bytes) ≤ i = omega (arith, length-take n bytes) in rw (get_or_past (take n bytes) i 0 past) (omega arith)
    ]

module _ (bytes : List ℕ) (small : (i : ℕ) → get_or bytes i 0 < 256) where
  high : ℕ
  high = from_be_bytes w64 (take 8 bytes)

  low : ℕ
  low = from_be_bytes w64 (drop 8 bytes)

  small_low : (i : ℕ) → get_or (drop 8 bytes) i 0 < 256
  small_low i = rw get_or-drop (small (8 + i))

  front_at : (i : ℕ) → i < 8 → get_or bytes i 0 ≡ get_or (take 8 bytes) i 0
  front_at i h = sym (get_or-take 8 bytes i 0 h)

  back_at : (i : ℕ) → get_or bytes (8 + i) 0 ≡ get_or (drop 8 bytes) i 0
  back_at i = sym (get_or-drop 8 bytes i 0)

  low_fits : low < 2 ^ 64
  unfolding low
  low_fits = below (get_or (drop 8 bytes) 0 0) (get_or (drop 8 bytes) 1 0) (get_or (drop 8 bytes) 2 0) (get_or (drop 8 bytes) 3 0) (get_or (drop 8 bytes) 4 0) (get_or (drop 8 bytes) 5 0) (get_or (drop 8 bytes) 6 0) (get_or (drop 8 bytes) 7 0) (small_low 0) (small_low 1) (small_low 2) (small_low 3) (small_low 4) (small_low 5) (small_low 6) (small_low 7)

  sum_is : from_be_bytes w128 bytes ≡ high * 2 ^ 64 + low
  unfolding high low
  sum_is =
      rw (← front_at 0 (omega arith), ← front_at 1 (omega arith), ← front_at 2 (omega arith), ← front_at 3 (omega arith), ← front_at 4 (omega arith), ← front_at 5 (omega arith), ← front_at 6 (omega arith), ← front_at 7 (omega arith), ← back_at 0, ← back_at 1, ← back_at 2, ← back_at 3, ← back_at 4, ← back_at 5, ← back_at 6, ← back_at 7)
      (sum_of_halves (get_or bytes 0 0) (get_or bytes 1 0) (get_or bytes 2 0) (get_or bytes 3 0) (get_or bytes 4 0) (get_or bytes 5 0) (get_or bytes 6 0) (get_or bytes 7 0) (get_or bytes 8 0) (get_or bytes 9 0) (get_or bytes 10 0) (get_or bytes 11 0) (get_or bytes 12 0) (get_or bytes 13 0) (get_or bytes 14 0) (get_or bytes 15 0))

  -- the bytes of the number that 16 bytes are
  pub be_bytes_16 : length bytes ≡ 16 → to_be_bytes w128 (from_be_bytes w128 bytes) ≡ bytes
  unfolding high low
  be_bytes_16 len =
      ap (to_be_bytes w128) sum_is ∙ halves high low low_fits
      ∙ ap (λ front. front ++ to_be_bytes w64 low) (be_bytes_8 (take 8 bytes) high (omega (arith, length-take 8 bytes)) (small_take 8 bytes small) refl)
      ∙ ap (λ back. take 8 bytes ++ back) (be_bytes_8 (drop 8 bytes) low (omega (arith, length-drop 8 bytes)) small_low refl)
      ∙ take-append-drop 8 bytes

-- the first eight bytes, and the number that they are
pub be_bytes_8_of : (bytes front : List ℕ) (n : ℕ) → 8 ≤ length bytes → front ≡ take 8 bytes → ((i : ℕ) → get_or bytes i 0 < 256) → n ≡ from_be_bytes w64 front → take 8 bytes ≡ to_be_bytes w64 n
be_bytes_8_of bytes front n enough is small e =
    sym (be_bytes_8 (take 8 bytes) n (omega (arith, length-take 8 bytes)) (small_take 8 bytes small) (e ∙ ap (from_be_bytes w64) is))

-- the first 16 bytes, and the number that they are
pub be_bytes_16_of : (bytes front : List ℕ) (n : ℕ) → 16 ≤ length bytes → front ≡ take 16 bytes → ((i : ℕ) → get_or bytes i 0 < 256) → n ≡ from_be_bytes w128 front → take 16 bytes ≡ to_be_bytes w128 n
be_bytes_16_of bytes front n enough is small e =
    sym (ap (to_be_bytes w128) (e ∙ ap (from_be_bytes w128) is) ∙ be_bytes_16 (take 16 bytes) (small_take 16 bytes small) (omega (arith, length-take 16 bytes)))
