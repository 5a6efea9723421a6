-- Keys in byte order.
use Rattle.std.proofs.Common.{◌≡◌, ℕ, ◌<◌, ◌^◌, List, [], ◌∷◌, ◌++◌, length, refl, sym, ap, ◌∙◌, arith, Ordering}
use Rattle.std.specs.Ordering.{nat_cmp, ordering_then}
use Rattle.std.specs.declared.cmp.Ordering.TheVariants.{Less, Equal, Greater}
use Rattle.std.specs.Cmp.Lexicographic.{slice_cmp}
use Rattle.std.specs.Int.{to_be_bytes, w16}
use Rattle.dv_value.specs.declared.id.Id.{Id}
use Rattle.dv_store.specs.declared.keys.RowKey.{RowKey}
use Rattle.dv_store.specs.declared.keys.GrantKey.{GrantKey}
use Rattle.dv_store.specs.declared.keys.DirtyKey.{DirtyKey}
use Rattle.dv_store.specs.Keys.{dirty_cmp, grant_cmp, row_cmp}
use Rattle.dv_cells.specs.Bytes.{dirty_bytes, grant_bytes, id_bytes, pair_bytes, row_bytes, FitsDirty, FitsGrant, FitsId, FitsPair, FitsRow}
use Rattle.dv_cells.specs.Order.{id_cmp, pair_cmp}
use Rattle.dv_cells.proofs.BigEndian.{high_cmp}

abbrev cmp : List ℕ → List ℕ → Ordering
cmp = slice_cmp nat_cmp

then_assoc : (a b c : Ordering) → ordering_then (ordering_then a b) c ≡ ordering_then a (ordering_then b c)
then_assoc Less b c = refl
then_assoc Equal b c = refl
then_assoc Greater b c = refl

-- first parts of one length decide, and else what follows them
cmp-append : (xs ys ks ls : List ℕ) → length xs ≡ length ys → cmp (xs ++ ks) (ys ++ ls) ≡ ordering_then (cmp xs ys) (cmp ks ls)
cmp-append [] [] ks ls same = refl
cmp-append [] (y ∷ ys) ks ls same = absurd (omega (arith, same))
cmp-append (x ∷ xs) [] ks ls same = absurd (omega (arith, same))
cmp-append (x ∷ xs) (y ∷ ys) ks ls same = ap (ordering_then (nat_cmp x y)) (cmp-append xs ys ks ls (omega (arith, same))) ∙ sym (then_assoc (nat_cmp x y) (cmp xs ys) (cmp ks ls))

table_cmp : (a b : ℕ) → a < 2 ^ 16 → b < 2 ^ 16 → cmp (to_be_bytes w16 a) (to_be_bytes w16 b) ≡ nat_cmp a b
table_cmp a b ha hb = high_cmp 2 a b ha hb

pub ids : (a b : Id) → FitsId a → FitsId b → cmp (id_bytes a) (id_bytes b) ≡ id_cmp a b
ids a b ha hb = high_cmp 16 a.0 b.0 ha hb

pub pairs : (a b : Id × Id) → FitsPair a → FitsPair b → cmp (pair_bytes a) (pair_bytes b) ≡ pair_cmp a b
pairs a b ha hb = cmp-append (id_bytes a.0) (id_bytes b.0) (id_bytes a.1) (id_bytes b.1) refl ∙ (λ i. ordering_then (ids a.0 b.0 ha.0 hb.0 i) (ids a.1 b.1 ha.1 hb.1 i))

pub rows : (a b : RowKey) → FitsRow a → FitsRow b → cmp (row_bytes a) (row_bytes b) ≡ row_cmp a b
rows a b ha hb = cmp-append (to_be_bytes w16 a.table) (to_be_bytes w16 b.table) (id_bytes a.id) (id_bytes b.id) refl ∙ (λ i. ordering_then (table_cmp a.table b.table ha.0 hb.0 i) (ids a.id b.id ha.1 hb.1 i))

pub grants : (a b : GrantKey) → FitsGrant a → FitsGrant b → cmp (grant_bytes a) (grant_bytes b) ≡ grant_cmp a b
grants a b ha hb = cmp-append (row_bytes a.row) (row_bytes b.row) (id_bytes a.principal) (id_bytes b.principal) refl ∙ (λ i. ordering_then (rows a.row b.row ha.0 hb.0 i) (ids a.principal b.principal ha.1 hb.1 i))

pub rollups : (a b : DirtyKey) → FitsDirty a → FitsDirty b → cmp (dirty_bytes a) (dirty_bytes b) ≡ dirty_cmp a b
rollups a b ha hb = cmp-append (row_bytes a.row) (row_bytes b.row) (to_be_bytes w16 a.column) (to_be_bytes w16 b.column) refl ∙ (λ i. ordering_then (rows a.row b.row ha.0 hb.0 i) (table_cmp a.column b.column ha.1 hb.1 i))
