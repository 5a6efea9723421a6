-- What the spellings of values have in common: each has its tag and at least so many bytes, and no bytes begin with two.
use Rattle.std.proofs.Common.{◌≡◌, ℕ, zero, suc, ◌+◌, ◌<◌, ◌≤◌, ℤ, FitsSigned, List, [], ◌∷◌, ◌++◌, length, take, drop, get_or, refl, subst, sym, ◌∙◌, ap, arith, encode_utf8_all, Result, Ok, Err, Bool, true, false, cond, eqb, chars, append-nil, length-take, length-drop, IsUtf8}
use Rattle.std.specs.Result.{IfOk, IsErrOf, MatchResult}
use Rattle.std.specs.Int.{from_bool, from_be_bytes, to_be_bytes, cast_unsigned, cast_signed, w32, w64, w128}
use Rattle.std.proofs.lemmas.Int.{to_z-of_z, ints}
use Rattle.std.proofs.Math.Facts.{Fits-of_z}
use Rattle.std.proofs.lemmas.Nat.{from_be_bytes-to_be_bytes_4, from_be_bytes-to_be_bytes_8}
use Rattle.std.proofs.lemmas.List.{take-append-drop, length-append, length-take-le}
use Rattle.std.proofs.lemmas.Str.{chars-encodes, encodes-chars, scalars-chars}
use Rattle.std.proofs.Math.Seq.{take-append_seam, take-add}
use Rattle.std.specs.Str.{all_scalars}
use Rattle.uuid.proofs.OrderLemmas.{from_be_bytes-to_be_bytes_16}
use Rattle.dv_value.specs.Moment.{IsMoment}
use Rattle.dv_value.specs.Spelling.{tag_of, body_of, spelling_of, IsValue, HasSpelling, BeginsWith, BeginsWithNumber}
use Rattle.dv_value.specs.declared.spelling.TakeFault.{TakeFault}
use Rattle.dv_value.specs.declared.spelling.TakeFault.TheVariants.{NotCanonical, OutOfMemory}
use Rattle.dv_value.specs.declared.value.Value.{Value}
use Rattle.dv_value.specs.declared.value.Value.TheVariants.{Empty, Flag, Whole, Choice, Amount, Moment, Text, Ref}

-- bytes that begin with a spelling are the spelling and a rest
pub seam : (bytes : List ℕ) (value : Value) (rest : List ℕ) → IsValue value → HasSpelling value → bytes ≡ spelling_of value ++ rest → BeginsWith bytes value (length (spelling_of value))
seam bytes value rest v h e = rw e (record {
  is_value = v;
  has_spelling = h;
  front = take-append_seam (spelling_of value) rest;
  within = omega (arith, length-append (spelling_of value) rest);
})

-- a body follows the tag that its value has
pub record Follows (tag : ℕ) (body : List ℕ) (value : Value) (len : ℕ) : Type 0 where
  pub tag_is : tag ≡ tag_of value
  pub body_is : take len body ≡ body_of value
  pub body_within : len ≤ length body

pub follows : (tag : ℕ) (body : List ℕ) (value : Value) (len : ℕ) → BeginsWith (tag ∷ body) value len → (n : ℕ) × (len ≡ suc n) × Follows tag body value n
follows tag body value zero b = absurd (cc b.front)
follows tag body value (suc n) b = (
  n,
  refl,
  record {
    tag_is = cc b.front;
    body_is = cc b.front;
    body_within = omega (arith, b.within);
  },
)

-- how many bytes follow a tag at least
abbrev least_len : ℕ → ℕ
least_len tag = get_or (0 ∷ 1 ∷ 4 ∷ 4 ∷ 8 ∷ 8 ∷ 4 ∷ 16 ∷ []) tag 0

body_length : (value : Value) → least_len (tag_of value) ≤ length (body_of value)
unfolding tag_of body_of
body_length Empty = omega arith
body_length (Flag flag) = omega arith
body_length (Whole number) = omega arith
body_length (Choice number) = omega arith
body_length (Amount amount) = omega arith
body_length (Moment seconds) = omega arith
body_length (Text text) = omega arith
body_length (Ref id) = omega arith

-- fewer bytes are no value's
pub too_short : (tag : ℕ) (body : List ℕ) → length body < least_len tag → (value : Value) (len : ℕ) → BeginsWith (tag ∷ body) value len → ⊥
too_short tag body short value len b =
    let (n, is, f) = follows tag body value len b in
    let long : least_len tag ≤ length (body_of value) = rw f.tag_is (body_length value) in
    omega (arith, long, ap length f.body_is, length-take n body, f.body_within)

-- the value that the bytes after a tag spell, where they spell one
value_at : ℕ → List ℕ → Value
value_at tag body =
    cond (eqb tag 0) Empty
    (cond (eqb tag 1) (Flag (eqb (get_or body 0 0) 1))
    (cond (eqb tag 2) (Whole (cast_signed w32 (from_be_bytes w32 body)))
    (cond (eqb tag 3) (Choice (cast_signed w32 (from_be_bytes w32 body)))
    (cond (eqb tag 4) (Amount (cast_signed w64 (from_be_bytes w64 body)))
    (cond (eqb tag 5) (Moment (cast_signed w64 (from_be_bytes w64 body)))
    (cond (eqb tag 6) (Text (chars (take (from_be_bytes w32 body) (drop 4 body))))
    (Ref (record { 0 = from_be_bytes w128 body }))))))))

signed_32 : (z : ℤ) → FitsSigned w32 z → cast_signed w32 (from_be_bytes w32 (to_be_bytes w32 (cast_unsigned w32 z))) ≡ z
signed_32 z fits = ap (cast_signed w32) (from_be_bytes-to_be_bytes_4 (cast_unsigned w32 z) (omega (arith, Fits-of_z fits))) ∙ to_z-of_z w32 z fits

signed_64 : (z : ℤ) → FitsSigned w64 z → cast_signed w64 (from_be_bytes w64 (to_be_bytes w64 (cast_unsigned w64 z))) ≡ z
signed_64 z fits = ap (cast_signed w64) (from_be_bytes-to_be_bytes_8 (cast_unsigned w64 z) (omega (arith, Fits-of_z fits))) ∙ to_z-of_z w64 z fits

value_at-body_of : (value : Value) (rest : List ℕ) → IsValue value → HasSpelling value → value_at (tag_of value) (body_of value ++ rest) ≡ value
unfolding tag_of body_of value_at IsValue HasSpelling
value_at-body_of Empty rest v h = refl
value_at-body_of (Flag true) rest v h = refl
value_at-body_of (Flag false) rest v h = refl
value_at-body_of (Whole number) rest v h = ap Whole (signed_32 number v)
value_at-body_of (Choice number) rest v h = ap Choice (signed_32 number v)
value_at-body_of (Amount amount) rest v h = ap Amount (signed_64 amount v)
value_at-body_of (Moment seconds) rest v h = ap Moment (signed_64 seconds v)
value_at-body_of (Text text) rest v h =
    ap Text (ap (λ n. chars (take n (encode_utf8_all text ++ rest))) (from_be_bytes-to_be_bytes_4 (length (encode_utf8_all text)) h)
    ∙ ap chars (take-append_seam (encode_utf8_all text) rest) ∙ chars-encodes text v)
value_at-body_of (Ref id) rest v h = ap (λ n. Ref (record { 0 = n })) (from_be_bytes-to_be_bytes_16 id.0 v)

value_is : (tag : ℕ) (body : List ℕ) (value : Value) (len : ℕ) → BeginsWith (tag ∷ body) value len → value_at tag body ≡ value
value_is tag body value len b =
    let (n, is, f) = follows tag body value len b in
    let whole : body ≡ body_of value ++ drop n body = sym (take-append-drop n body) ∙ ap (λ front. front ++ drop n body) f.body_is in
    ap (λ t. value_at t body) f.tag_is ∙ ap (value_at (tag_of value)) whole ∙ value_at-body_of value (drop n body) b.is_value b.has_spelling

len_is : (bytes : List ℕ) (value : Value) (len : ℕ) → BeginsWith bytes value len → len ≡ length (spelling_of value)
len_is bytes value len b = omega (arith, ap length b.front, length-take len bytes, b.within)

-- bytes begin with one spelling at most
pub one_value : (bytes : List ℕ) (a b : Value) (m n : ℕ) → BeginsWith bytes a m → BeginsWith bytes b n → (a ≡ b) × (m ≡ n)
one_value [] a b m n p q = absurd (omega (arith, ap length p.front, length-take m (let none : List ℕ = [] in none)))
one_value (tag ∷ body) a b m n p q =
    let same_value : a ≡ b = sym (value_is tag body a m p) ∙ value_is tag body b n q in
    (same_value, len_is _ a m p ∙ ap (λ v. length (spelling_of v)) same_value ∙ sym (len_is _ b n q))

empty : (rest : List ℕ) → length rest ≡ 0 → rest ≡ []
empty [] e = refl
empty (x ∷ rest) e = absurd (omega arith)

-- no spelling begins another
pub no_prefix : (a b : Value) (rest : List ℕ) → IsValue a → HasSpelling a → IsValue b → HasSpelling b → spelling_of b ≡ spelling_of a ++ rest → (a ≡ b) × (rest ≡ [])
no_prefix a b rest va ha vb hb e =
    let (same_value, same_len) = one_value (spelling_of b) a b _ _ (seam (spelling_of b) a rest va ha e) (seam (spelling_of b) b [] vb hb (sym (append-nil (spelling_of b)))) in
    (same_value, empty rest (omega (arith, ap length e, length-append (spelling_of a) rest, same_len)))

-- what was put is taken again, whatever follows
pub taken_again : (result : Result (Value × ℕ) TakeFault) (bytes : List ℕ) (value : Value) (len : ℕ)
    → IfOk result (λ taken. BeginsWith bytes taken.0 taken.1)
    → (IsErrOf result NotCanonical → (v : Value) (n : ℕ) → BeginsWith bytes v n → ⊥)
    → BeginsWith bytes value len
    → MatchResult result (λ taken. taken ≡ (value, len)) (λ fault. fault ≡ OutOfMemory)
taken_again (Ok taken) bytes value len ok refused b =
    let (same_value, same_len) = one_value bytes taken.0 value taken.1 len ok b in
    λ i. (same_value i, same_len i)
taken_again (Err NotCanonical) bytes value len ok refused b = absurd (refused refl value len b)
taken_again (Err OutOfMemory) bytes value len ok refused b = refl

-- a byte that is no truth value's
pub no_flag : (body : List ℕ) → ((flag : Bool) → take 1 body ≡ from_bool flag ∷ [] → ⊥) → (value : Value) (len : ℕ) → BeginsWith (1 ∷ body) value len → ⊥
unfolding tag_of body_of
no_flag body none (Flag flag) len b =
    let (n, is, f) = follows 1 body (Flag flag) len b in
    let one : n ≡ 1 = omega (arith, ap length f.body_is, length-take n body, f.body_within) in
    none flag (ap (λ k. take k body) (sym one) ∙ f.body_is)
no_flag body none value len b = absurd (omega (arith, (follows 1 body value len b).2.tag_is))

moment_fits : (seconds : ℤ) → IsMoment seconds → FitsSigned w64 seconds
moment_fits seconds range = omega (arith, ints, range.0, range.1)

-- eight bytes that are no moment's
pub no_moment : (body : List ℕ) → ((seconds : ℤ) → IsMoment seconds → BeginsWithNumber w64 body (cast_unsigned w64 seconds) → ⊥) → (value : Value) (len : ℕ) → BeginsWith (5 ∷ body) value len → ⊥
unfolding tag_of body_of HasSpelling
no_moment body none (Moment seconds) len b =
    let (n, is, f) = follows 5 body (Moment seconds) len b in
    let eight : n ≡ 8 = omega (arith, ap length f.body_is, length-take n body, f.body_within) in
    none seconds b.has_spelling (record {
      number_front = ap (λ k. take k body) (sym eight) ∙ f.body_is;
      number_within = omega (arith, f.body_within);
      number_fits = omega (arith, Fits-of_z (moment_fits seconds b.has_spelling));
    })
no_moment body none value len b = absurd (omega (arith, (follows 5 body value len b).2.tag_is))

-- the length that a text's bytes follow is theirs
text_front : (body text : List ℕ) (n : ℕ) → take n body ≡ body_of (Text text) → n ≤ length body → (take 4 body ≡ to_be_bytes w32 (length (encode_utf8_all text))) × (take (length (encode_utf8_all text)) (drop 4 body) ≡ encode_utf8_all text) × (4 + length (encode_utf8_all text) ≤ length body)
unfolding body_of
text_front body text n is within =
    let bytes : List ℕ = encode_utf8_all text in
    let whole : body ≡ (to_be_bytes w32 (length bytes) ++ bytes) ++ drop n body = sym (take-append-drop n body) ∙ ap (λ front. front ++ drop n body) is in
    let len : n ≡ 4 + length bytes = omega (arith, ap length is, length-take n body, within) in
    (ap (take 4) whole, ap (λ b. take (length bytes) (drop 4 b)) whole ∙ take-append_seam bytes (drop n body), omega (arith, len, within))

-- bytes that are no text's
pub no_text : (body : List ℕ) (len : ℕ) → BeginsWithNumber w32 body len
    → ((text : List ℕ) → all_scalars text ≡ true → take len (drop 4 body) ≡ encode_utf8_all text → 4 + len ≤ length body → ⊥)
    → (value : Value) (n : ℕ) → BeginsWith (6 ∷ body) value n → ⊥
unfolding tag_of IsValue HasSpelling
no_text body len number none (Text text) n b =
    let (m, is, f) = follows 6 body (Text text) n b in
    let (front, back, within) = text_front body text m f.body_is f.body_within in
    let same_len : len ≡ length (encode_utf8_all text) =
    sym (from_be_bytes-to_be_bytes_4 len number.number_fits) ∙ ap (from_be_bytes w32) (sym number.number_front ∙ front) ∙ from_be_bytes-to_be_bytes_4 (length (encode_utf8_all text)) b.has_spelling in
    none text b.is_value (ap (λ k. take k (drop 4 body)) same_len ∙ back) (omega (arith, same_len, within))
no_text body len number none value n b = absurd (omega (arith, (follows 6 body value n b).2.tag_is))

front_of_text : (body bytes : List ℕ) (len : ℕ) → to_be_bytes w32 (length (encode_utf8_all (chars bytes))) ≡ to_be_bytes w32 len → encode_utf8_all (chars bytes) ≡ bytes → take 4 body ≡ to_be_bytes w32 len → bytes ≡ take len (drop 4 body)
    → take (5 + len) (6 ∷ body) ≡ 6 ∷ (to_be_bytes w32 (length (encode_utf8_all (chars bytes))) ++ encode_utf8_all (chars bytes))
front_of_text body bytes len size back front is =
    let five : 5 + len ≡ suc (4 + len) = omega arith in
    ap (λ n. take n (6 ∷ body)) five ∙ ap (λ b. 6 ∷ b)
    (take-add 4 len body ∙ ap (λ f. f ++ take len (drop 4 body)) (front ∙ sym size) ∙ ap (λ b. to_be_bytes w32 (length (encode_utf8_all (chars bytes))) ++ b) (sym is ∙ sym back))

-- bytes that are a text's
pub is_text : (body bytes : List ℕ) (len m : ℕ) → BeginsWithNumber w32 body len → 4 + len ≤ length body → m ≡ len → bytes ≡ take m (drop 4 body) → IsUtf8 (take m (drop 4 body)) → BeginsWith (6 ∷ body) (Text (chars bytes)) (5 + len)
unfolding tag_of body_of IsValue HasSpelling
is_text body bytes len m number within m_is slice utf8 =
    let is : bytes ≡ take len (drop 4 body) = slice ∙ ap (λ k. take k (drop 4 body)) m_is in
    let text : IsUtf8 bytes = subst IsUtf8 (sym slice) utf8 in
    let back : encode_utf8_all (chars bytes) ≡ bytes = encodes-chars bytes text in
    let size : length (encode_utf8_all (chars bytes)) ≡ len = ap length (back ∙ is) ∙ length-take-le len (drop 4 body) (omega (arith, length-drop 4 body)) in
    record {
      is_value = scalars-chars bytes text;
      has_spelling = omega (arith, size, number.number_fits);
      front = front_of_text body bytes len (ap (to_be_bytes w32) size) back number.number_front is;
      within = omega (arith, within);
    }
