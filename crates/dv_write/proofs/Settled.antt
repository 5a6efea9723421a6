-- A new parent that is handed on: to rows that have owners, and the links stay sound.
use Rattle.std.proofs.Common.{◌≡◌, refl, sym, ap, ◌∙◌, ℕ, suc, Bool, true, false, cond, not, ◌&&◌, List, [], ◌∷◌, inl, inr, is_some}
use Rattle.std.proofs.lemmas.Bool.{true≢false, eqb-true}
use Rattle.std.proofs.lemmas.Option.{slice_get-map}
use Rattle.std.specs.Prelude.{◌==◌, IsTrue, Option, None, Some, Result, Ok, Err, find, option_map, slice_get}
use Rattle.std.specs.Option.{option_map_or}
use Rattle.std.specs.List.{list_all}
use Rattle.dv_schema.specs.declared.definition.Definition.{Definition}
use Rattle.dv_schema.specs.declared.relationship.Relationship.{Relationship}
use Rattle.dv_schema.specs.declared.table.Table.{Table}
use Rattle.dv_schema.specs.Definitions.{relationships_of, tables_of}
use Rattle.dv_schema.specs.Sound.{has_owners, hands_on, is_parental}
use Rattle.dv_store.specs.declared.fault.StoreFault.{StoreFault}
use Rattle.dv_store.specs.declared.keys.RowKey.{RowKey}
use Rattle.dv_store.specs.Keys.{row_cmp, is_row}
use Rattle.dv_store.specs.Shapes.{is_marked, is_owned, shape_of}
use Rattle.dv_store.specs.World.{World}
use Rattle.dv_cascade.specs.declared.cascading.Cascading.TheVariants.{Reparent}
use Rattle.dv_cascade.specs.Chains.{is_among, AreExactly, IsReached}
use Rattle.dv_cascade.specs.Circles.{is_parental_of, parent_of}
use Rattle.dv_cascade.specs.Sound.{IsSoundWorld}
use Rattle.dv_cascade.proofs.Among.{itself, or-left, or-right}
use Rattle.dv_cascade.proofs.Owned.{reached_owned}
use Rattle.dv_cascade.proofs.Sounding.{sound_alike}
use Rattle.dv_shares.specs.Inheriting.{Reparents}
use Rattle.dv_shares.specs.Outcome.{LimitSays, MayRefuseTo}
use Rattle.dv_message.specs.declared.stop.Stop.{Stop}
use Rattle.dv_message.specs.declared.stop.Stop.TheVariants.{Refused, OutOfMemory}
use Rattle.dv_message.specs.Checked.{Answers}
use Rattle.dv_message.specs.Versions.{stop_of}
use Rattle.dv_write.specs.Moving.{hands_new_parents, is_moved, is_same, Settles}

and-both : (a b : Bool) → (a && b) ≡ true → (a ≡ true) × (b ≡ true)
and-both true b e = (refl, e)
and-both false b e = absurd (true≢false (sym e))

-- the place of the first relationship that passes a test
found_at : (test : Relationship → Bool) (rs : List Relationship) (r : Relationship) → find test rs ≡ Some r → (i : ℕ) × ((slice_get rs i ≡ Some r) × (test r ≡ true))
found_at test [] r is = absurd (true≢false (sym (ap is_some is)))
found_at test (x ∷ rs) r is = of (test x) refl is (found_at test rs r)
  where
    same : (a b : Relationship) → Some a ≡ Some b → a ≡ b
    same a b e = cc

    of : (b : Bool) → test x ≡ b → cond b (Some x) (find test rs) ≡ Some r → (find test rs ≡ Some r → (i : ℕ) × ((slice_get rs i ≡ Some r) × (test r ≡ true))) → (i : ℕ) × ((slice_get (x ∷ rs) i ≡ Some r) × (test r ≡ true))
    of true e is later = (0, (is, ap test (sym (same x r is)) ∙ e))
    of false e is later = let rest = later is in (suc rest.0, rest.1)

-- a store's tables with owners are those of its definition
is_owned-has_owners : (d : Definition) (table : ℕ) → is_owned (shape_of d) table ≡ has_owners d table
unfolding shape_of
is_owned-has_owners d table = ap is_marked (slice_get-map (λ t. t.user_owned) (tables_of d) table) ∙ of (slice_get (tables_of d) table)
  where
    of : (t : Option Table) → is_marked (option_map (λ t. t.user_owned) t) ≡ option_map_or (λ t. t.user_owned) t false
    of None = refl
    of (Some t) = refl

-- the rows of a table that hands new parents on have owners
handing_owned : (d : Definition) (w : World) (table : ℕ) → IsSoundWorld d w → hands_new_parents d table ≡ true → is_owned w.shape table ≡ true
handing_owned d w table sound hands = of (find (is_parental_of table) (relationships_of d)) refl hands
  where
    of : (r : Option Relationship) → find (is_parental_of table) (relationships_of d) ≡ r → option_map_or (λ r. hands_on r.reparent) r false ≡ true → is_owned w.shape table ≡ true
    of None e h = absurd (true≢false (sym h))
    of (Some r) e h =
        let at = found_at (is_parental_of table) (relationships_of d) r e in
        let passes = and-both (is_parental r) (r.child == table) at.1.1 in
        let owned = (sound.definition.relationships at.0 r at.1.0).owned passes.0 in
        ap (λ s. is_owned s table) sound.shape ∙ is_owned-has_owners d table ∙ ap (has_owners d) (sym (eqb-true r.child table passes.1)) ∙ owned.1

-- a row that is moved has an owner
pub moved_owned : (d : Definition) (key : RowKey) (before : Option RowKey) (w : World) → IsSoundWorld d w → is_moved d key before w ≡ true → is_owned w.shape key.table ≡ true
moved_owned d key before w sound moved = handing_owned d w key.table sound (and-both (hands_new_parents d key.table) (not (is_same before (parent_of w d key))) moved).0

all_within : (test : RowKey → Bool) (rows : List RowKey) → ((row : RowKey) → IsTrue (is_among rows row) → test row ≡ true) → list_all test rows ≡ true
all_within test [] passes = refl
all_within test (x ∷ rows) passes = ap (λ b. b && list_all test rows) (passes x (or-left (is_row x x) (is_among rows x) (itself x)))
    ∙ all_within test rows (λ row among. passes row (or-right (is_row row x) (is_among rows row) among))

-- the rows that a new parent is handed on to have owners
pub all_owned : (d : Definition) (w : World) (key : RowKey) (set : List RowKey) → IsSoundWorld d w → is_owned w.shape key.table ≡ true → AreExactly row_cmp (IsReached w d Reparent key) set
    → list_all (λ row. is_owned w.shape row.table) set ≡ true
all_owned d w key set sound owned are = all_within (λ row. is_owned w.shape row.table) set
    (λ row among. reached_owned w d sound.definition sound.shape key row owned ((are.exactly row).0 among))

-- a refusal to hand a new parent on is the limit of grants, or memory ran out
pub limit_told : (Makes : World → Type 0) (old : World) (fault : StoreFault) (stop : Stop) → MayRefuseTo Makes fault → stop ≡ stop_of fault → Answers {T = Unit {0}} (LimitSays Makes old) (Err stop)
unfolding stop_of
limit_told Makes old fault stop (inl memory) is = rw is rw memory tt
limit_told Makes old fault stop (inr (limit, passes)) is = rw is rw limit (passes.world, passes.made, passes.past, refl)

-- where a row isn't moved the world stays
pub stays : (d : Definition) (key : RowKey) (before : Option RowKey) (w : World) → is_moved d key before w ≡ false → Settles d key before w w
unfolding Settles
stays d key before w still = rw still refl

-- where it is, the new parent is handed on
pub hands_it_on : (d : Definition) (key : RowKey) (before : Option RowKey) (w new : World) → is_moved d key before w ≡ true → Reparents d key w new → Settles d key before w new
unfolding Settles
hands_it_on d key before w new moved h = rw moved h

-- what the limit of grants says is the same then
pub limit_alike : (d : Definition) (key : RowKey) (before : Option RowKey) (w : World) → is_moved d key before w ≡ true → (result : Result (Unit {0}) Stop)
    → Answers (LimitSays (Reparents d key w) w) result → Answers (LimitSays (Settles d key before w) w) result
limit_alike d key before w moved (Ok value) (new, made, within) = (new, hands_it_on d key before w new moved made, within)
limit_alike d key before w moved (Err (Refused refusal)) (new, made, past, told) = (new, hands_it_on d key before w new moved made, past, told)
limit_alike d key before w moved (Err OutOfMemory) said = tt

-- a world whose grants alone are others has sound links too
pub moved_sound : (d : Definition) (key : RowKey) (old new : World) → IsSoundWorld d old → Reparents d key old new → IsSoundWorld d new
moved_sound d key old new sound h = record {
  definition = sound.definition;
  shape = ap (λ (w : World). w.shape) h.rest ∙ sound.shape;
  links = sound_alike old new d (ap (λ (w : World). w.rows) h.rest) sound.links;
}
