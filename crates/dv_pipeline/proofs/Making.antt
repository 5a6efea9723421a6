-- What the checks of a creation tell about it, and which limit stops it.
use Rattle.std.proofs.Common.{◌≡◌, refl, sym, subst, ℕ, ◌+◌, ◌-◌, ◌^◌, ◌≤◌, arith}
use Rattle.std.proofs.lemmas.Bool.{true≢false, ltb-true, leb-false}
use Rattle.std.specs.Prelude.{Bool, true, false, ◌&&◌, Option, Some, None, is_some, nat_lt, nat_le, ⊤, Result, Ok, Err}
use Rattle.std.specs.FinMap as map
use Rattle.dv_value.specs.declared.id.Id.{Id}
use Rattle.dv_refusal.specs.declared.refusal.Refusal.{Refusal}
use Rattle.dv_refusal.specs.declared.refusal.Refusal.TheVariants as answer
use Rattle.dv_refusal.specs.declared.what.What.TheVariants as what
use Rattle.dv_store.specs.declared.row.Row.{Row}
use Rattle.dv_store.specs.Keys.{row_key}
use Rattle.dv_store.specs.World.{World, row_put, bumped, id_drawn, row_total, most_rows, fault_at}
use Rattle.dv_message.specs.declared.stop.Stop.{Stop}
use Rattle.dv_message.specs.declared.stop.Stop.TheVariants.{Refused, OutOfMemory}
use Rattle.dv_message.specs.Checked.{AllPass, Answers, refused_if}
use Rattle.dv_pipeline.specs.Requests.{is_none}
use Rattle.dv_shares.specs.Outcome.{LimitSays}
use Rattle.dv_write.specs.Effects.{LimitThen}
use Rattle.dv_write.specs.Moving.{Settles}
use Rattle.dv_pipeline.specs.Creating.{Creating, CreationLimit, CreationSays, creation_checks, has_no_id, new_id, new_key, new_row, with_row, created, drawn, limit_fault, IsCreated, IsLimit}
use Rattle.dv_message.specs.Versions.{stop_of}

abbrev IsNone : Option Refusal → Type 0
IsNone None = ⊤
IsNone (Some refusal) = ⊥

-- a test by which nothing is refused fails
pub not_refused : (test : Bool) (refusal : Refusal) → None ≡ refused_if test refusal → test ≡ false
not_refused false refusal e = refl
not_refused true refusal e = absurd (subst IsNone e tt)

-- where a creation passes its checks an id is left for it
pub id_is_left : (c : Creating) → AllPass (CreationSays c) creation_checks → has_no_id c ≡ false
unfolding AllPass CreationSays
id_is_left c all = not_refused (has_no_id c) (answer.Limit what.Id) all.1.1.0

not_lt : (a b : ℕ) → b ≤ a → nat_lt a b ≡ false
not_lt a b le = of (nat_lt a b) refl
  where
    of : (t : Bool) → nat_lt a b ≡ t → nat_lt a b ≡ false
    of false is = is
    of true is = absurd (omega (arith, le, ltb-true a b is))

-- the new row, by what it is put with
pub put_is : (c : Creating) (id : Id) (row : Row) → id ≡ new_id c → row ≡ new_row c → row_put c.world (row_key c.number id) row ≡ with_row c
unfolding with_row
put_is c id row i r = rw (i, r) refl

-- what stops a row from being put is the limit of rows
pub row_limit : (c : Creating) (w : World) → w ≡ with_row c → IsLimit c (stop_of (fault_at (nat_lt most_rows (row_total w)) what.Row))
unfolding limit_fault stop_of
row_limit c w is = subst (λ v. IsLimit c (stop_of (fault_at (nat_lt most_rows (row_total v)) what.Row))) (sym is) (of (nat_lt most_rows (row_total (with_row c))) refl)
  where
    of : (t : Bool) → nat_lt most_rows (row_total (with_row c)) ≡ t → IsLimit c (stop_of (fault_at t what.Row))
    of true e = rw e refl
    of false e = tt

-- what stops a version from being given out is the limit of versions
pub version_limit : (c : Creating) (w : World) → w ≡ with_row c → row_total w ≤ most_rows → IsLimit c (stop_of (fault_at (nat_lt (2 ^ 63 - 1) (w.version + 1)) what.Version))
unfolding limit_fault stop_of row_put with_row
version_limit c w is few = subst (λ v. IsLimit c (stop_of (fault_at (nat_lt (2 ^ 63 - 1) (v.version + 1)) what.Version))) (sym is) (of (nat_lt (2 ^ 63 - 1) (c.world.version + 1)) refl)
  where
    enough : nat_lt most_rows (row_total (with_row c)) ≡ false
    enough = not_lt most_rows (row_total (with_row c)) (subst (λ v. row_total v ≤ most_rows) is few)

    of : (t : Bool) → nat_lt (2 ^ 63 - 1) (c.world.version + 1) ≡ t → IsLimit c (stop_of (fault_at t what.Version))
    of true e = rw (enough, e) refl
    of false e = tt

-- no limit is passed where both were kept
pub no_limit : (c : Creating) (w : World) → w ≡ with_row c → row_total w ≤ most_rows → w.version + 1 ≤ 2 ^ 63 - 1 → limit_fault c ≡ None
unfolding limit_fault row_put with_row
no_limit c w is few low = rw (enough, not_lt (2 ^ 63 - 1) (c.world.version + 1) (subst (λ v. v.version + 1 ≤ 2 ^ 63 - 1) is low)) refl
  where
    enough : nat_lt most_rows (row_total (with_row c)) ≡ false
    enough = not_lt most_rows (row_total (with_row c)) (subst (λ v. row_total v ≤ most_rows) is few)

-- where an id is chosen none is given out, and else one is
pub chosen_stays : (chosen : Option Id) (w : World) → true ≡ is_some chosen → drawn chosen w ≡ w
chosen_stays None w h = absurd (true≢false h)
chosen_stays (Some id) w h = refl

pub drawn_is : (chosen : Option Id) (w : World) → false ≡ is_some chosen → drawn chosen w ≡ id_drawn w
drawn_is None w h = refl
drawn_is (Some id) w h = absurd (true≢false (sym h))

-- an id that is left can be given out, unless memory runs out
pub id_limit : (c : Creating) (last : ℕ) → last ≡ c.world.last_id → has_no_id c ≡ false → false ≡ is_some c.chosen → IsLimit c (stop_of (fault_at (nat_lt (2 ^ 64 - 1) (last + 1)) what.Id))
unfolding stop_of
id_limit c last is left none = subst (λ t. IsLimit c (stop_of (fault_at t what.Id))) (sym (not_lt (2 ^ 64 - 1) (last + 1) low)) tt
  where
    by : (chosen : Option Id) → false ≡ is_some chosen → (is_none chosen && nat_le (2 ^ 64 - 1) c.world.last_id) ≡ false → nat_le (2 ^ 64 - 1) c.world.last_id ≡ false
    by None h e = e
    by (Some id) h e = absurd (true≢false (sym h))

    low : last + 1 ≤ 2 ^ 64 - 1
    low = rw is (omega (arith, leb-false (2 ^ 64 - 1) c.world.last_id (by c.chosen none left)))

-- what is kept of the definition stays
pub created_keeps : (c : Creating) → (created c).shape ≡ c.world.shape
unfolding created row_put with_row
created_keeps c = by c.chosen
  where
    by : (chosen : Option Id) → (drawn chosen (bumped (with_row c))).shape ≡ c.world.shape
    by None = refl
    by (Some id) = refl

-- what limits say of which the first isn't passed
then_says : (T : Type 0) (first : Option Refusal) (Rest : Option Refusal → Type 0) → first ≡ None → (result : Result T Stop) → Answers Rest result → Answers (LimitThen first Rest) result
then_says T first Rest none (Ok value) said = rw none said
then_says T first Rest none (Err (Refused refusal)) said = rw none said
then_says T first Rest none (Err OutOfMemory) t = tt

-- what the limits say of a creation is what that of grants says, where no other is passed
pub grants_say : (T : Type 0) (c : Creating) (w : World) (id : Id) → limit_fault c ≡ None → w ≡ created c → id ≡ new_id c → (result : Result T Stop)
    → Answers (LimitSays (Settles c.setting.definition (row_key c.number id) None w) w) result → Answers (CreationLimit c) result
grants_say T c w id none is i result said = then_says T (limit_fault c) (LimitSays (IsCreated c) (created c)) none result
    (subst (λ v. Answers (LimitSays (Settles c.setting.definition (new_key c) None v) v) result) is
    (subst (λ id. Answers (LimitSays (Settles c.setting.definition (row_key c.number id) None w) w) result) i said))

-- the new row is put among the rows
pub created_rows : (c : Creating) → (created c).rows ≡ map.insert c.world.rows (new_key c) (new_row c)
unfolding created row_put with_row
created_rows c = by c.chosen
  where
    by : (chosen : Option Id) → (drawn chosen (bumped (with_row c))).rows ≡ map.insert c.world.rows (new_key c) (new_row c)
    by None = refl
    by (Some id) = refl
