-- Numbers and their bytes, the highest first: in the same order, and each read back from the other.
use Rattle.std.proofs.Common.{◌≡◌, ℕ, zero, suc, ◌+◌, ◌*◌, ◌/◌, ◌%◌, ◌^◌, ◌<◌, List, [], ◌∷◌, length, get_or, refl, sym, ap, ◌∙◌, arith, pow-suc, mul_comm, suc-mul, mul-le-mul_right, mod-eq_of_lt}
use Rattle.std.specs.Ordering.{nat_cmp, ordering_then, MatchOrdering}
use Rattle.std.specs.declared.cmp.Ordering.TheVariants.{Less, Equal, Greater}
use Rattle.std.specs.Cmp.{nat_cmp_is, ranks, tied_itself}
use Rattle.std.specs.Cmp.Lexicographic.{slice_cmp}
use Rattle.std.specs.Int.{byte_at, bytes_high_first, from_be_bytes, to_be_bytes, w128}
use Rattle.std.proofs.lemmas.Cmp.{nat_cmp_total}
use Rattle.std.proofs.lemmas.Map.Lookups.{exact_bytes}
use Rattle.std.proofs.Math.Arith.{mod-mul}

-- the number of bytes
pub number : List ℕ → ℕ
number [] = 0
number (byte ∷ bytes) = byte * 256 ^ length bytes + number bytes

-- numbers below 256 alone
abbrev pub AreBytes : List ℕ → Type 0
AreBytes bytes = (i : ℕ) → get_or bytes i 0 < 256

rest_bytes : (byte : ℕ) (bytes : List ℕ) → AreBytes (byte ∷ bytes) → AreBytes bytes
rest_bytes byte bytes small i = small (suc i)

power_suc : (k : ℕ) → 256 ^ suc k ≡ 256 * 256 ^ k
power_suc k = pow-suc 256 k ∙ mul_comm (256 ^ k) 256

power_positive : (k : ℕ) → 0 < 256 ^ k
power_positive zero = omega arith
power_positive (suc k) = rw (power_suc k) (omega (arith, power_positive k))

pub number_fits : (bytes : List ℕ) → AreBytes bytes → number bytes < 256 ^ length bytes
unfolding number
number_fits [] small = omega arith
number_fits (byte ∷ bytes) small = rw (power_suc (length bytes)) (below (256 ^ length bytes) byte (number bytes) (small 0) (number_fits bytes (rest_bytes byte bytes small)))
  where
    below : (p byte n : ℕ) → byte < 256 → n < p → byte * p + n < 256 * p
    below p byte n b h = let step = mul-le-mul_right p b in omega (arith, suc-mul byte p, step, h)

-- a digit in front decides, and else what follows it
digits_cmp : (p x y r s : ℕ) → r < p → s < p → ordering_then (nat_cmp x y) (nat_cmp r s) ≡ nat_cmp (x * p + r) (y * p + s)
digits_cmp p x y r s hr hs = elim (nat_cmp x y) as (λ o. MatchOrdering o (x < y) (x ≡ y) (y < x) → ordering_then o (nat_cmp r s) ≡ nat_cmp (x * p + r) (y * p + s)) [
  | Less ↦ λ h. nat_cmp_is (x * p + r) (y * p + s) Less (decides x y r s hr h)
  | Equal ↦ λ h. elim (nat_cmp r s) as (λ o. MatchOrdering o (r < s) (r ≡ s) (s < r) → o ≡ nat_cmp (x * p + r) (y * p + s)) [
    | Less ↦ λ k. nat_cmp_is (x * p + r) (y * p + s) Less (rw h (omega (arith, k)))
    | Equal ↦ λ k. nat_cmp_is (x * p + r) (y * p + s) Equal (λ i. h i * p + k i)
    | Greater ↦ λ k. nat_cmp_is (x * p + r) (y * p + s) Greater (rw h (omega (arith, k)))
  ] (ranks r s)
  | Greater ↦ λ h. nat_cmp_is (x * p + r) (y * p + s) Greater (decides y x s r hs h)
] (ranks x y)
  where
    decides : (x y r s : ℕ) → r < p → x < y → x * p + r < y * p + s
    decides x y r s hr h = let step = mul-le-mul_right p h in omega (arith, suc-mul x p, step, hr)

-- bytes are in the order of their numbers
pub number_cmp : (xs ys : List ℕ) → length xs ≡ length ys → AreBytes xs → AreBytes ys → slice_cmp nat_cmp xs ys ≡ nat_cmp (number xs) (number ys)
unfolding number
number_cmp [] [] same a b = refl
number_cmp [] (y ∷ ys) same a b = absurd (omega (arith, same))
number_cmp (x ∷ xs) [] same a b = absurd (omega (arith, same))
number_cmp (x ∷ xs) (y ∷ ys) same a b =
    let lengths : length xs ≡ length ys = omega (arith, same) in
    let front = number_fits xs (rest_bytes x xs a) in
    let back : number ys < 256 ^ length xs = rw lengths (number_fits ys (rest_bytes y ys b)) in
    ap (ordering_then (nat_cmp x y)) (number_cmp xs ys lengths (rest_bytes x xs a) (rest_bytes y ys b))
    ∙ digits_cmp (256 ^ length xs) x y (number xs) (number ys) front back ∙ ap (λ k. nat_cmp (x * 256 ^ length xs + number xs) (y * 256 ^ k + number ys)) lengths

-- the number of the bytes of a number
pub length-high : (k n : ℕ) → length (bytes_high_first k n) ≡ k
length-high zero n = refl
length-high (suc k) n = ap suc (length-high k n)

byte_at-is : (k n : ℕ) → byte_at k n ≡ n / 256 ^ k % 256
byte_at-is zero n = omega arith
byte_at-is (suc k) n = refl

pub high_small : (k n : ℕ) → AreBytes (bytes_high_first k n)
high_small zero n zero = omega arith
high_small zero n (suc i) = omega arith
high_small (suc k) n zero = rw (byte_at-is k n) (omega arith)
high_small (suc k) n (suc i) = high_small k n i

pub number-high : (k n : ℕ) → number (bytes_high_first k n) ≡ n % 256 ^ k
unfolding number
number-high zero n = omega arith
number-high (suc k) n =
    rw (length-high k n, number-high k n, byte_at-is k n, power_suc k) (sym (mod-mul n (omega arith) (power_positive k)))

-- ---- the numbers of each width

below-power : (k n : ℕ) → n < 256 ^ k → n % 256 ^ k ≡ n
below-power k n h = mod-eq_of_lt h

-- numbers are in the order of their bytes
pub high_cmp : (k m n : ℕ) → m < 256 ^ k → n < 256 ^ k → slice_cmp nat_cmp (bytes_high_first k m) (bytes_high_first k n) ≡ nat_cmp m n
high_cmp k m n hm hn =
    number_cmp (bytes_high_first k m) (bytes_high_first k n) (length-high k m ∙ sym (length-high k n)) (high_small k m) (high_small k n)
    ∙ (λ i. nat_cmp ((number-high k m ∙ below-power k m hm) i) ((number-high k n ∙ below-power k n hn) i))

-- a number has other bytes than every other one
pub high-injective : (k m n : ℕ) → m < 256 ^ k → n < 256 ^ k → bytes_high_first k m ≡ bytes_high_first k n → m ≡ n
high-injective k m n hm hn e = sym (number-high k m ∙ below-power k m hm) ∙ ap number e ∙ number-high k n ∙ below-power k n hn

-- the bytes of the number of bytes
pub high-number : (k : ℕ) (bytes : List ℕ) → length bytes ≡ k → AreBytes bytes → bytes_high_first k (number bytes) ≡ bytes
high-number k bytes len small =
    let fits : number bytes < 256 ^ k = rw (← len) (number_fits bytes small) in
    exact_bytes (bytes_high_first k (number bytes)) bytes
    (number_cmp (bytes_high_first k (number bytes)) bytes (length-high k (number bytes) ∙ sym len) (high_small k (number bytes)) small
    ∙ ap (λ m. nat_cmp m (number bytes)) (number-high k (number bytes) ∙ below-power k (number bytes) fits)
    ∙ tied_itself nat_cmp_total (number bytes))

-- the number of 16 bytes
sixteen : (a b c d e f g h i j k l m n o p : ℕ) → from_be_bytes w128 (a ∷ b ∷ c ∷ d ∷ e ∷ f ∷ g ∷ h ∷ i ∷ j ∷ k ∷ l ∷ m ∷ n ∷ o ∷ p ∷ []) ≡ number (a ∷ b ∷ c ∷ d ∷ e ∷ f ∷ g ∷ h ∷ i ∷ j ∷ k ∷ l ∷ m ∷ n ∷ o ∷ p ∷ [])
unfolding number
sixteen a b c d e f g h i j k l m n o p = omega arith

number_of_sixteen : (bytes : List ℕ) → length bytes ≡ 16 → from_be_bytes w128 bytes ≡ number bytes
number_of_sixteen [] len = absurd (omega arith)
number_of_sixteen (a ∷ []) len = absurd (omega arith)
number_of_sixteen (a ∷ b ∷ []) len = absurd (omega arith)
number_of_sixteen (a ∷ b ∷ c ∷ []) len = absurd (omega arith)
number_of_sixteen (a ∷ b ∷ c ∷ d ∷ []) len = absurd (omega arith)
number_of_sixteen (a ∷ b ∷ c ∷ d ∷ e ∷ []) len = absurd (omega arith)
number_of_sixteen (a ∷ b ∷ c ∷ d ∷ e ∷ f ∷ []) len = absurd (omega arith)
number_of_sixteen (a ∷ b ∷ c ∷ d ∷ e ∷ f ∷ g ∷ []) len = absurd (omega arith)
number_of_sixteen (a ∷ b ∷ c ∷ d ∷ e ∷ f ∷ g ∷ h ∷ []) len = absurd (omega arith)
number_of_sixteen (a ∷ b ∷ c ∷ d ∷ e ∷ f ∷ g ∷ h ∷ i ∷ []) len = absurd (omega arith)
number_of_sixteen (a ∷ b ∷ c ∷ d ∷ e ∷ f ∷ g ∷ h ∷ i ∷ j ∷ []) len = absurd (omega arith)
number_of_sixteen (a ∷ b ∷ c ∷ d ∷ e ∷ f ∷ g ∷ h ∷ i ∷ j ∷ k ∷ []) len = absurd (omega arith)
number_of_sixteen (a ∷ b ∷ c ∷ d ∷ e ∷ f ∷ g ∷ h ∷ i ∷ j ∷ k ∷ l ∷ []) len = absurd (omega arith)
number_of_sixteen (a ∷ b ∷ c ∷ d ∷ e ∷ f ∷ g ∷ h ∷ i ∷ j ∷ k ∷ l ∷ m ∷ []) len = absurd (omega arith)
number_of_sixteen (a ∷ b ∷ c ∷ d ∷ e ∷ f ∷ g ∷ h ∷ i ∷ j ∷ k ∷ l ∷ m ∷ n ∷ []) len = absurd (omega arith)
number_of_sixteen (a ∷ b ∷ c ∷ d ∷ e ∷ f ∷ g ∷ h ∷ i ∷ j ∷ k ∷ l ∷ m ∷ n ∷ o ∷ []) len = absurd (omega arith)
number_of_sixteen (a ∷ b ∷ c ∷ d ∷ e ∷ f ∷ g ∷ h ∷ i ∷ j ∷ k ∷ l ∷ m ∷ n ∷ o ∷ p ∷ []) len = sixteen a b c d e f g h i j k l m n o p
number_of_sixteen (a ∷ b ∷ c ∷ d ∷ e ∷ f ∷ g ∷ h ∷ i ∷ j ∷ k ∷ l ∷ m ∷ n ∷ o ∷ p ∷ q ∷ bytes) len = absurd (omega arith)

pub be_bytes_16 : (bytes : List ℕ) (n : ℕ) → length bytes ≡ 16 → AreBytes bytes → n ≡ from_be_bytes w128 bytes → to_be_bytes w128 n ≡ bytes
be_bytes_16 bytes n len small is = ap (to_be_bytes w128) (is ∙ number_of_sixteen bytes len) ∙ high-number 16 bytes len small
