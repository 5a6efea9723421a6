-- No two items have the same cell.
use Rattle.std.proofs.Common.{◌≡◌, inl, inr, ℕ, ◌+◌, ◌-◌, ◌≤◌, List, [], ◌∷◌, ◌++◌, length, take, drop, refl, sym, ap, ◌∙◌, arith, Bool, true, false}
use Rattle.std.specs.Int.{to_be_bytes, w16, w32, w64}
use Rattle.std.proofs.lemmas.Bool.{cases_lt}
use Rattle.std.proofs.lemmas.List.{length-append}
use Rattle.std.proofs.Math.Seq.{take-append_seam, take-append-add}
use Rattle.dv_value.specs.declared.id.Id.{Id}
use Rattle.dv_value.specs.declared.value.Value.{Value}
use Rattle.dv_value.specs.Spelling.{spelling_of, HasSpelling, IsValue}
use Rattle.dv_roles.specs.declared.role.RoleEntry.{RoleEntry}
use Rattle.dv_store.specs.declared.keys.RowKey.{RowKey}
use Rattle.dv_store.specs.declared.keys.GrantKey.{GrantKey}
use Rattle.dv_store.specs.declared.keys.DirtyKey.{DirtyKey}
use Rattle.dv_store.specs.declared.numbers.Numbers.{Numbers}
use Rattle.dv_cells.specs.declared.item.Item.{Item}
use Rattle.dv_cells.specs.declared.item.Item.TheVariants.{Header, Line, Unit, User, Team, Member, Role, Gift, Row, Grant, Removal, Dirty}
use Rattle.dv_cells.specs.Bytes.{counters_bytes, dirty_bytes, entry_bytes, entries_bytes, flag_bytes, flagged_bytes, grant_bytes, id_bytes, pair_bytes, rights_bytes, role_bytes, row_bytes, values_bytes}
use Rattle.dv_cells.specs.Bytes.{AreEntries, AreSpelled, AreValues, FitsCounters, FitsDirty, FitsGrant, FitsId, FitsPair, FitsRights, FitsRow}
use Rattle.dv_cells.specs.Items.{sheet_of, key_of, value_of, HasCell, IsCellOf, IsItem}
use Rattle.dv_cells.proofs.BigEndian.{high-injective}
use Rattle.dv_cells.proofs.Listed.{same_entry}
use Rattle.dv_cells.proofs.Parts.{front_is, back_is}

-- two ways to be two parts, of which the first has one length
module _ (n : ℕ) (a b c d : List ℕ) (left : length a ≡ n) (right : length c ≡ n) (same : a ++ b ≡ c ++ d) where
  fronts : a ≡ c
  fronts = sym (front_is n (a ++ b) a b left refl) ∙ front_is n (a ++ b) c d right same

  backs : b ≡ d
  backs = sym (back_is n (a ++ b) a b left refl) ∙ back_is n (a ++ b) c d right same

same_id : (a b : Id) → FitsId a → FitsId b → id_bytes a ≡ id_bytes b → a ≡ b
same_id a b ha hb e = let number = high-injective 16 a.0 b.0 ha hb e in λ i. record { 0 = number i }

same_flag : (a b : Bool) → flag_bytes a ≡ flag_bytes b → a ≡ b
same_flag true true e = refl
same_flag true false e = absurd (cc e)
same_flag false true e = absurd (cc e)
same_flag false false e = refl

same_pair : (a b : Id × Id) → FitsPair a → FitsPair b → pair_bytes a ≡ pair_bytes b → (a.0 ≡ b.0) × (a.1 ≡ b.1)
same_pair a b ha hb e = (
  same_id a.0 b.0 ha.0 hb.0 (fronts 16 (id_bytes a.0) (id_bytes a.1) (id_bytes b.0) (id_bytes b.1) refl refl e),
  same_id a.1 b.1 ha.1 hb.1 (backs 16 (id_bytes a.0) (id_bytes a.1) (id_bytes b.0) (id_bytes b.1) refl refl e),
)

same_flagged : (a b : Id × Bool) → FitsId a.0 → FitsId b.0 → flagged_bytes a ≡ flagged_bytes b → (a.0 ≡ b.0) × (a.1 ≡ b.1)
same_flagged a b ha hb e = (
  same_id a.0 b.0 ha hb (fronts 16 (id_bytes a.0) (flag_bytes a.1) (id_bytes b.0) (flag_bytes b.1) refl refl e),
  same_flag a.1 b.1 (backs 16 (id_bytes a.0) (flag_bytes a.1) (id_bytes b.0) (flag_bytes b.1) refl refl e),
)

same_rights : (a b : ℕ × ℕ) → FitsRights a → FitsRights b → rights_bytes a ≡ rights_bytes b → (a.0 ≡ b.0) × (a.1 ≡ b.1)
same_rights a b ha hb e = (
  high-injective 4 a.0 b.0 ha.0 hb.0 (fronts 4 (to_be_bytes w32 a.0) (to_be_bytes w32 a.1) (to_be_bytes w32 b.0) (to_be_bytes w32 b.1) refl refl e),
  high-injective 4 a.1 b.1 ha.1 hb.1 (backs 4 (to_be_bytes w32 a.0) (to_be_bytes w32 a.1) (to_be_bytes w32 b.0) (to_be_bytes w32 b.1) refl refl e),
)

same_row : (a b : RowKey) → FitsRow a → FitsRow b → row_bytes a ≡ row_bytes b → a ≡ b
same_row a b ha hb e =
    let table = high-injective 2 a.table b.table ha.0 hb.0 (fronts 2 (to_be_bytes w16 a.table) (id_bytes a.id) (to_be_bytes w16 b.table) (id_bytes b.id) refl refl e) in
    let id = same_id a.id b.id ha.1 hb.1 (backs 2 (to_be_bytes w16 a.table) (id_bytes a.id) (to_be_bytes w16 b.table) (id_bytes b.id) refl refl e) in
    λ i. record { table = table i; id = id i }

same_grant : (a b : GrantKey) → FitsGrant a → FitsGrant b → grant_bytes a ≡ grant_bytes b → a ≡ b
same_grant a b ha hb e =
    let row = same_row a.row b.row ha.0 hb.0 (fronts 18 (row_bytes a.row) (id_bytes a.principal) (row_bytes b.row) (id_bytes b.principal) refl refl e) in
    let principal = same_id a.principal b.principal ha.1 hb.1 (backs 18 (row_bytes a.row) (id_bytes a.principal) (row_bytes b.row) (id_bytes b.principal) refl refl e) in
    λ i. record { row = row i; principal = principal i }

same_rollup : (a b : DirtyKey) → FitsDirty a → FitsDirty b → dirty_bytes a ≡ dirty_bytes b → a ≡ b
same_rollup a b ha hb e =
    let row = same_row a.row b.row ha.0 hb.0 (fronts 18 (row_bytes a.row) (to_be_bytes w16 a.column) (row_bytes b.row) (to_be_bytes w16 b.column) refl refl e) in
    let column = high-injective 2 a.column b.column ha.1 hb.1 (backs 18 (row_bytes a.row) (to_be_bytes w16 a.column) (row_bytes b.row) (to_be_bytes w16 b.column) refl refl e) in
    λ i. record { row = row i; column = column i }

same_counters : (a b : Numbers) → FitsCounters a → FitsCounters b → counters_bytes a ≡ counters_bytes b → a ≡ b
same_counters a b ha hb e =
    let version = high-injective 8 a.version b.version ha.0 hb.0 (fronts 8 (to_be_bytes w64 a.version) (to_be_bytes w64 a.last_id ++ to_be_bytes w64 a.floor) (to_be_bytes w64 b.version) (to_be_bytes w64 b.last_id ++ to_be_bytes w64 b.floor) refl refl e) in
    let rest = backs 8 (to_be_bytes w64 a.version) (to_be_bytes w64 a.last_id ++ to_be_bytes w64 a.floor) (to_be_bytes w64 b.version) (to_be_bytes w64 b.last_id ++ to_be_bytes w64 b.floor) refl refl e in
    let last_id = high-injective 8 a.last_id b.last_id ha.1.0 hb.1.0 (fronts 8 (to_be_bytes w64 a.last_id) (to_be_bytes w64 a.floor) (to_be_bytes w64 b.last_id) (to_be_bytes w64 b.floor) refl refl rest) in
    let floor = high-injective 8 a.floor b.floor ha.1.1 hb.1.1 (backs 8 (to_be_bytes w64 a.last_id) (to_be_bytes w64 a.floor) (to_be_bytes w64 b.last_id) (to_be_bytes w64 b.floor) refl refl rest) in
    λ i. record { version = version i; last_id = last_id i; floor = floor i }

same_entries : (a b : List RoleEntry) → AreEntries a → AreEntries b → entries_bytes a ≡ entries_bytes b → a ≡ b
unfolding entries_bytes AreEntries
same_entries [] [] ha hb e = refl
same_entries [] (y ∷ ys) ha hb e = absurd (omega (arith, ap length e, length-append (entry_bytes y) (entries_bytes ys)))
same_entries (x ∷ xs) [] ha hb e = absurd (omega (arith, ap length e, length-append (entry_bytes x) (entries_bytes xs)))
same_entries (x ∷ xs) (y ∷ ys) ha hb e =
    let first = same_entry x y ha.0 hb.0 (fronts 4 (entry_bytes x) (entries_bytes xs) (entry_bytes y) (entries_bytes ys) refl refl e) in
    let more = same_entries xs ys ha.1 hb.1 (backs 4 (entry_bytes x) (entries_bytes xs) (entry_bytes y) (entries_bytes ys) refl refl e) in
    λ i. first i ∷ more i

-- no spelling begins another
abbrev pub NoPrefix : Type 0
NoPrefix = (a b : Value) (rest : List ℕ) → IsValue a → HasSpelling a → IsValue b → HasSpelling b → spelling_of b ≡ spelling_of a ++ rest → (a ≡ b) × (rest ≡ [])

-- of two ways to be two parts, the longer first part goes on where the shorter ends
goes_on : (a b c d : List ℕ) → length a ≤ length c → a ++ b ≡ c ++ d → c ≡ a ++ take (length c - length a) b
goes_on a b c d le same =
    let n : length c ≡ length a + (length c - length a) = omega (arith, le) in
    sym (take-append_seam c d) ∙ ap (take (length c)) (sym same) ∙ ap (λ k. take k (a ++ b)) n ∙ take-append-add a b (length c - length a)

module _ (law : NoPrefix) where
  first_value : (v w : Value) (k l : List ℕ) → IsValue v → HasSpelling v → IsValue w → HasSpelling w → spelling_of v ++ k ≡ spelling_of w ++ l → v ≡ w
  first_value v w k l iv hv iw hw same = elim (cases_lt (length (spelling_of w)) (length (spelling_of v))) [
    | inl h ↦ sym ((law w v (take (length (spelling_of v) - length (spelling_of w)) l) iw hw iv hv (goes_on (spelling_of w) l (spelling_of v) k (omega (arith, h)) (sym same))).0)
    | inr h ↦ (law v w (take (length (spelling_of w) - length (spelling_of v)) k) iv hv iw hw (goes_on (spelling_of v) k (spelling_of w) l h same)).0
  ]

  same_values : (vs ws : List Value) → AreValues vs → AreSpelled vs → AreValues ws → AreSpelled ws → values_bytes vs ≡ values_bytes ws → vs ≡ ws
  unfolding values_bytes AreValues AreSpelled
  same_values [] [] iv hv iw hw e = refl
  same_values [] (w ∷ ws) iv hv iw hw e = absurd (omega (arith, ap length e, length-append (spelling_of w) (values_bytes ws)))
  same_values (v ∷ vs) [] iv hv iw hw e = absurd (omega (arith, ap length e, length-append (spelling_of v) (values_bytes vs)))
  same_values (v ∷ vs) (w ∷ ws) iv hv iw hw e =
      let first = first_value v w (values_bytes vs) (values_bytes ws) iv.0 hv.0 iw.0 hw.0 e in
      let rest = backs (length (spelling_of v)) (spelling_of v) (values_bytes vs) (spelling_of w) (values_bytes ws) refl (ap (λ x. length (spelling_of x)) (sym first)) e in
      let more = same_values vs ws iv.1 hv.1 iw.1 hw.1 rest in
      λ i. first i ∷ more i

  -- two items of one cell are one
  pub one_item : (sheet : ℕ) (key value : List ℕ) (a b : Item) → IsCellOf sheet key value a → IsCellOf sheet key value b → a ≡ b
  unfolding sheet_of key_of value_of IsItem HasCell
  one_item sheet key value (Header x) (Header y) p q = ap Header (same_counters x y p.is_item q.is_item (backs 4 (to_be_bytes w32 1) (counters_bytes x) (to_be_bytes w32 1) (counters_bytes y) refl refl (sym p.value_is ∙ q.value_is)))
  one_item sheet key value (Line x) (Line y) p q = ap Line (sym p.value_is ∙ q.value_is)
  one_item sheet key value (Unit x s) (Unit y t) p q =
      let id = same_id x y p.is_item.0 q.is_item.0 (sym p.key_is ∙ q.key_is) in
      let parent = same_id s t p.is_item.1 q.is_item.1 (sym p.value_is ∙ q.value_is) in
      λ i. Unit (id i) (parent i)
  one_item sheet key value (User x s f) (User y t g) p q =
      let id = same_id x y p.is_item.0 q.is_item.0 (sym p.key_is ∙ q.key_is) in
      let rest = same_flagged (s, f) (t, g) p.is_item.1 q.is_item.1 (sym p.value_is ∙ q.value_is) in
      λ i. User (id i) (rest.0 i) (rest.1 i)
  one_item sheet key value (Team x s f) (Team y t g) p q =
      let id = same_id x y p.is_item.0 q.is_item.0 (sym p.key_is ∙ q.key_is) in
      let rest = same_flagged (s, f) (t, g) p.is_item.1 q.is_item.1 (sym p.value_is ∙ q.value_is) in
      λ i. Team (id i) (rest.0 i) (rest.1 i)
  one_item sheet key value (Member x s) (Member y t) p q =
      let both = same_pair (x, s) (y, t) p.is_item q.is_item (sym p.key_is ∙ q.key_is) in
      λ i. Member (both.0 i) (both.1 i)
  one_item sheet key value (Role x d m es) (Role y f n fs) p q =
      let id = same_id x y p.is_item.0 q.is_item.0 (sym p.key_is ∙ q.key_is) in
      let bytes : role_bytes d m es ≡ role_bytes f n fs = sym p.value_is ∙ q.value_is in
      let direct = same_flag d f (ap (λ b. take 1 b) bytes) in
      let manage = same_flag m n (ap (λ b. take 1 (drop 1 b)) bytes) in
      let entries = same_entries es fs p.is_item.1 q.is_item.1 (ap (λ b. drop 2 b) bytes) in
      λ i. Role (id i) (direct i) (manage i) (entries i)
  one_item sheet key value (Gift x s) (Gift y t) p q =
      let both = same_pair (x, s) (y, t) p.is_item q.is_item (sym p.key_is ∙ q.key_is) in
      λ i. Gift (both.0 i) (both.1 i)
  one_item sheet key value (Row x r) (Row y s) p q =
      let at = same_row x y p.is_item.0 q.is_item.0 (sym p.key_is ∙ q.key_is) in
      let values = same_values r.values s.values p.is_item.1 p.has_cell q.is_item.1 q.has_cell (sym p.value_is ∙ q.value_is) in
      λ i. Row (at i) (record { values = values i })
  one_item sheet key value (Grant x d e) (Grant y f g) p q =
      let at = same_grant x y p.is_item.0 q.is_item.0 (sym p.key_is ∙ q.key_is) in
      let rights = same_rights (d, e) (f, g) p.is_item.1 q.is_item.1 (sym p.value_is ∙ q.value_is) in
      λ i. Grant (at i) (rights.0 i) (rights.1 i)
  one_item sheet key value (Removal x v) (Removal y w) p q =
      let at = same_row x y p.is_item.0 q.is_item.0 (sym p.key_is ∙ q.key_is) in
      let version = high-injective 8 v w p.is_item.1 q.is_item.1 (sym p.value_is ∙ q.value_is) in
      λ i. Removal (at i) (version i)
  one_item sheet key value (Dirty x) (Dirty y) p q = ap Dirty (same_rollup x y p.is_item q.is_item (sym p.key_is ∙ q.key_is))
  one_item sheet key value a b p q = absurd (omega (arith, p.sheet_is, q.sheet_is))
