-- Spellings of values one after the other, read from the front.
use Rattle.std.proofs.Common.{◌≡◌, ℕ, zero, suc, ◌<◌, List, [], ◌∷◌, ◌++◌, length, take, drop, get_or, refl, sym, ap, ◌∙◌, arith, append_assoc, append-nil, Result, Ok, Err, Bool, true, false}
use mathlib.Core.Bool.{true≢false}
use Rattle.std.specs.Prelude.{◌==◌}
use Rattle.std.specs.Result.{IsErrOf}
use Rattle.std.proofs.lemmas.Bool.{eqb-true}
use Rattle.std.proofs.lemmas.List.{take-append-drop, length-append}
use Rattle.std.proofs.Math.Seq.{take-append_seam, drop-append_seam}
use Rattle.dv_value.specs.declared.value.Value.{Value}
use Rattle.dv_value.specs.Spelling.{spelling_of, BeginsWith, HasSpelling, IsValue}
use Rattle.dv_cells.specs.Bytes.{values_bytes, AreSpelled, AreValues, IsSpelledAs}

-- one value more at the end
pub values_bytes-append : (values : List Value) (value : Value) → values_bytes (values ++ value ∷ []) ≡ values_bytes values ++ spelling_of value
unfolding values_bytes
values_bytes-append [] value = append-nil (spelling_of value)
values_bytes-append (first ∷ more) value = ap (λ bytes. spelling_of first ++ bytes) (values_bytes-append more value) ∙ sym (append_assoc (spelling_of first) (values_bytes more) (spelling_of value))

pub AreValues-append : (values : List Value) (value : Value) → AreValues values → IsValue value → AreValues (values ++ value ∷ [])
unfolding AreValues
AreValues-append [] value all is = (is, tt)
AreValues-append (first ∷ more) value all is = (all.0, AreValues-append more value all.1 is)

pub AreSpelled-append : (values : List Value) (value : Value) → AreSpelled values → HasSpelling value → AreSpelled (values ++ value ∷ [])
unfolding AreSpelled
AreSpelled-append [] value all is = (is, tt)
AreSpelled-append (first ∷ more) value all is = (all.0, AreSpelled-append more value all.1 is)

-- what is left of bytes after the values read so far; whatever values the bytes are, the rest is the rest of them
pub record IsReading (bytes rest : List ℕ) (values : List Value) : Type 0 where
  pub are_values : AreValues values
  pub are_spelled : AreSpelled values
  pub front : bytes ≡ values_bytes values ++ rest
  pub left : (all : List Value) → IsSpelledAs bytes all → (more : List Value) × IsSpelledAs rest more

pub IsReading-start : (bytes : List ℕ) → IsReading bytes bytes []
unfolding values_bytes AreValues AreSpelled
IsReading-start bytes = record { are_values = tt; are_spelled = tt; front = refl; left = λ all is. (all, is) }

-- a rest that isn't empty begins with the first of its values
pub begins : (rest : List ℕ) (more : List Value) → 0 < length rest → IsSpelledAs rest more → (value : Value) × (after : List Value) × IsValue value × HasSpelling value × (rest ≡ spelling_of value ++ values_bytes after) × AreValues after × AreSpelled after
unfolding values_bytes AreValues AreSpelled
begins rest [] some is = absurd (omega (arith, some, ap length is.bytes_are))
begins rest (value ∷ after) some is = (value, after, is.are_values.0, is.are_spelled.0, is.bytes_are, is.are_values.1, is.are_spelled.1)

-- where no value is read, there are no such values
pub no_values : (bytes rest : List ℕ) (values : List Value) → IsReading bytes rest values → 0 < length rest → ((value : Value) (len : ℕ) → BeginsWith rest value len → ⊥) → (all : List Value) → IsSpelledAs bytes all → ⊥
no_values bytes rest values r some none all is =
    let left = r.left all is in
    let it = begins rest left.0 some left.1 in
    none it.0 (length (spelling_of it.0)) (record {
      is_value = it.2;
      has_spelling = it.3;
      front = ap (take (length (spelling_of it.0))) it.4 ∙ take-append_seam (spelling_of it.0) (values_bytes it.1);
      within = omega (arith, ap length it.4, length-append (spelling_of it.0) (values_bytes it.1));
    })

-- where one is, it is the first of them
pub IsReading-step : (bytes rest : List ℕ) (values : List Value) (value : Value) (len : ℕ) → IsReading bytes rest values → 0 < length rest → BeginsWith rest value len
    → ((v : Value) (after : List ℕ) → IsValue v → HasSpelling v → rest ≡ spelling_of v ++ after → ◌≡◌ {A = Value × ℕ} (value, len) (v, length (spelling_of v)))
    → IsReading bytes (drop len rest) (values ++ value ∷ [])
IsReading-step bytes rest values value len r some begun again = record {
  are_values = AreValues-append values value r.are_values begun.is_value;
  are_spelled = AreSpelled-append values value r.are_spelled begun.has_spelling;
  front = r.front ∙ ap (λ back. values_bytes values ++ back) (sym (take-append-drop len rest) ∙ ap (λ front. front ++ drop len rest) begun.front)
      ∙ sym (append_assoc (values_bytes values) (spelling_of value) (drop len rest)) ∙ ap (λ front. front ++ drop len rest) (sym (values_bytes-append values value));
  left = λ all is.
      let l = r.left all is in
      let it = begins rest l.0 some l.1 in
      let same = again it.0 (values_bytes it.1) it.2 it.3 it.4 in (
        it.1,
        record {
          are_values = it.5;
          are_spelled = it.6;
          bytes_are = (λ i. drop (same i).1 (it.4 i)) ∙ drop-append_seam (spelling_of it.0) (values_bytes it.1);
        },
      );
}

-- the value at a place has a spelling too
pub AreSpelled-at : (values : List Value) (i : ℕ) (value : Value) → AreSpelled values → i < length values → HasSpelling (get_or values i value)
unfolding AreSpelled
AreSpelled-at [] i value all within = absurd (omega (arith, within))
AreSpelled-at (first ∷ more) zero value all within = all.0
AreSpelled-at (first ∷ more) (suc i) value all within = AreSpelled-at more i value all.1 (omega (arith, within))

-- a fault that is handed on, whatever else would have been answered
pub handed_on : {T U E : Type 0} (fault e : E) → IsErrOf {T = T} (Err fault) e → IsErrOf {T = U} (Err fault) e
handed_on {T} {U} {E} fault e is = ap told is
  where
    told : Result T E → Result U E
    told (Ok x) = Err e
    told (Err y) = Err y

-- what isn't empty has a first byte
pub not_empty : (bytes : List ℕ) (b : Bool) → b ≡ (length bytes == 0) → b ≡ false → 0 < length bytes
not_empty [] b is no_bytes = absurd (true≢false (sym is ∙ no_bytes))
not_empty (byte ∷ bytes) b is no_bytes = omega arith

pub is_empty : (bytes : List ℕ) (b : Bool) → b ≡ (length bytes == 0) → b ≡ true → bytes ≡ []
is_empty [] b is all = refl
is_empty (byte ∷ bytes) b is all = absurd (omega (arith, eqb-true (length (byte ∷ bytes)) 0 (sym is ∙ all)))
