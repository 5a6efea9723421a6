-- Where the value of a column stands among those of a new row.
use Rattle.std.proofs.Common.{◌≡◌, refl, ap, ◌∙◌, ℕ, zero, suc, ◌+◌, ◌-◌, ◌≤◌, List, [], ◌∷◌, ◌++◌, length, drop, arith}
use Rattle.std.proofs.lemmas.Bool.{lt-ltb}
use Rattle.std.proofs.lemmas.Option.{slice_get-map, none-some}
use Rattle.std.specs.Prelude.{Bool, true, false, Option, Some, None, option_map, slice_get}
use Rattle.dv_value.specs.declared.id.Id.{Id}
use Rattle.dv_value.specs.declared.kind.Kind.{Kind}
use Rattle.dv_value.specs.declared.raw.Raw.{Raw}
use Rattle.dv_value.specs.declared.value.Value.{Value}
use Rattle.dv_value.specs.declared.value.Value.TheVariants as value
use Rattle.dv_schema.specs.declared.table.Column.{Column}
use Rattle.dv_schema.specs.Sound.{system_count}
use Rattle.dv_store.specs.Shapes.{place_of}
use Rattle.dv_store.specs.World.{named_by}
use Rattle.dv_message.specs.Columns.{given_by, given_in, own_columns}
use Rattle.dv_pipeline.specs.Creating.{Creating, new_row, own_values, system_values}

module _ {A : Type 0} where
  -- behind the items of a first list come those of a second
  get_behind : (xs ys : List A) (k : ℕ) → slice_get (xs ++ ys) (length xs + k) ≡ slice_get ys k
  get_behind [] ys k = ap (slice_get ys) zero_less
    where
      zero_less : 0 + k ≡ k
      zero_less = omega (arith)
  get_behind (x ∷ xs) ys k = ap (slice_get (x ∷ (xs ++ ys))) one_more ∙ get_behind xs ys k
    where
      one_more : length (x ∷ xs) + k ≡ suc (length xs + k)
      one_more = omega (arith)

  -- the items of the rest of a list are those of the list behind its front
  get-drop : (n : ℕ) (xs : List A) (k : ℕ) → slice_get (drop n xs) k ≡ slice_get xs (n + k)
  get-drop zero xs k = ap (slice_get xs) zero_less
    where
      zero_less : k ≡ 0 + k
      zero_less = omega (arith)
  get-drop (suc n) [] k = refl
  get-drop (suc n) (x ∷ xs) k = get-drop n xs k ∙ ap (slice_get (x ∷ xs)) one_more
    where
      one_more : suc (n + k) ≡ suc n + k
      one_more = omega (arith)

-- the values that the service keeps of a new row are as many as its columns, but for the id
system_length : (c : Creating) → length (system_values c) + 1 ≡ system_count c.table.user_owned
system_length c = of c.table.user_owned refl
  where
    of : (b : Bool) → c.table.user_owned ≡ b → length (system_values c) + 1 ≡ system_count c.table.user_owned
    of true is = rw is refl
    of false is = rw is refl

-- the place of a column behind those of the service
behind : (owned : Bool) (j : ℕ) → system_count owned ≤ j → place_of j + 1 ≡ j
behind owned j le = of owned le
  where
    past : 3 ≤ j → place_of j + 1 ≡ j
    past three = rw (lt-ltb 2 j three) (omega (arith, three))

    of : (b : Bool) → system_count b ≤ j → place_of j + 1 ≡ j
    of true h = past (omega (arith, h))
    of false h = past (omega (arith, h))

-- in a column of the definition a new row has the value that it is given
pub value_behind : (c : Creating) (j : ℕ) (column : Column) → system_count c.table.user_owned ≤ j → slice_get c.table.columns j ≡ Some column
    → slice_get (new_row c).values (place_of j) ≡ Some (given_in c.values column)
unfolding new_row
value_behind c j column le at =
    ap (slice_get (system_values c ++ own_values c.table c.values)) place
    ∙ get_behind (system_values c) (own_values c.table c.values) k
    ∙ slice_get-map (given_in c.values) (own_columns c.table) k
    ∙ ap (option_map (given_in c.values)) (get-drop (system_count c.table.user_owned) c.table.columns k ∙ ap (slice_get c.table.columns) sum ∙ at)
  where
    k : ℕ
    k = j - system_count c.table.user_owned

    place : place_of j ≡ length (system_values c) + k
    place = omega (arith, le, behind c.table.user_owned j le, system_length c)

    sum : system_count c.table.user_owned + k ≡ j
    sum = omega (arith, le)

-- a value that names a row is a reference to it
pub reference : (v : Value) (id : Id) → named_by (Some v) ≡ Some id → v ≡ value.Ref id
reference (value.Ref other) id e = same other id e
  where
    same : (a b : Id) → Some a ≡ Some b → value.Ref a ≡ value.Ref b
    same a b e = cc
reference value.Empty id e = absurd (none-some id e)
reference (value.Flag b) id e = absurd (none-some id e)
reference (value.Whole n) id e = absurd (none-some id e)
reference (value.Choice n) id e = absurd (none-some id e)
reference (value.Amount n) id e = absurd (none-some id e)
reference (value.Moment n) id e = absurd (none-some id e)
reference (value.Text t) id e = absurd (none-some id e)

-- a reference that is given in a column is given by a raw value
pub raw_given : (kind : Kind) (raw : Option Raw) (id : Id) → given_by kind raw ≡ value.Ref id → (given : Raw) × (raw ≡ Some given) × (given_by kind (Some given) ≡ value.Ref id)
unfolding given_by
raw_given kind None id e = absurd (other e)
  where
    other : value.Empty ≡ value.Ref id → ⊥
    other e = cc
raw_given kind (Some raw) id e = (raw, refl, e)
