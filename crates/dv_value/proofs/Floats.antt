-- What is printed has no float in it.
use Rattle.std.proofs.Common.{◌≡◌, ℕ, ℤ, pos, negsuc, List, [], ◌∷◌, Bool, true, false, ◌||◌, refl, encode_utf8_all, Ordering, Less, Equal, Greater}
use Rattle.std.specs.Ordering.{nat_cmp, match_ordering}
use Rattle.std.specs.Cmp.Lexicographic.{slice_cmp}
use Rattle.serde_json.specs.Data.{Data, Members, no_members, member, put}
use Rattle.serde_json.specs.Find.{of_integer, is_float}
use Rattle.serde_json.specs.Written.{has_float, members_have_float}
use Rattle.dv_value.specs.Printed.{raw_data, with_values, values_data}
use Rattle.dv_value.specs.declared.raw.Raw.{Raw}
use Rattle.dv_value.specs.declared.raw.Raw.TheVariants.{Null, Bool as Flag, Int, Str}

pub either_of : (a b : Bool) → a ≡ false → b ≡ false → (a || b) ≡ false
either_of true b e f = e
either_of false b e f = f

pub first : (a b : Bool) → (a || b) ≡ false → a ≡ false
first true b e = e
first false b e = refl

pub later : (a b : Bool) → (a || b) ≡ false → b ≡ false
later true b e = absurd (cc)
later false b e = e

pub integer-float : (z : ℤ) → is_float (of_integer z) ≡ false
integer-float (pos n) = refl
integer-float (negsuc n) = refl

put-float_at : (o : Ordering) (k l : List ℕ) (d e : Data) (ms : Members) → has_float d ≡ false → (members_have_float (put k d ms) ≡ false)
    → (has_float e || members_have_float ms) ≡ false
    → members_have_float (match_ordering o (member k d (member l e ms)) (member l d ms) (member l e (put k d ms))) ≡ false
put-float_at Less k l d e ms f h m = either_of _ _ f m
put-float_at Equal k l d e ms f h m = either_of _ _ f (later _ _ m)
put-float_at Greater k l d e ms f h m = either_of _ _ (first _ _ m) h

pub put-float : (k : List ℕ) (d : Data) (ms : Members) → has_float d ≡ false → members_have_float ms ≡ false → members_have_float (put k d ms) ≡ false
put-float k d no_members f m = either_of _ _ f refl
put-float k d (member l e ms) f m = put-float_at (slice_cmp nat_cmp k l) k l d e ms f (put-float k d ms f (later _ _ m)) m

pub raw-float : (raw : Raw) → has_float (raw_data raw) ≡ false
unfolding raw_data
raw-float Null = refl
raw-float (Flag b) = refl
raw-float (Int n) = integer-float n
raw-float (Str text) = refl

with_values-float : (values : List (List ℕ × Raw)) (ms : Members) → members_have_float ms ≡ false → members_have_float (with_values values ms) ≡ false
unfolding with_values
with_values-float [] ms m = m
with_values-float (v ∷ values) ms m = with_values-float values _ (put-float (encode_utf8_all v.0) (raw_data v.1) ms (raw-float v.1) m)

pub values-float : (values : List (List ℕ × Raw)) → has_float (values_data values) ≡ false
unfolding values_data
values-float values = with_values-float values no_members refl
