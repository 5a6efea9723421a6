-- Other owners leave the links of a world sound.
use Rattle.std.proofs.Common.{◌≡◌, refl, sym, subst, ℕ, ◌<◌, ◌≤◌, inl, Bool, true, false, List, [], ◌∷◌, arith, map, OnOk, Result, Ok, Err}
use Rattle.std.specs.List.{AllByRecursion}
use Rattle.dv_value.specs.declared.id.Id.{Id}
use Rattle.dv_schema.specs.declared.definition.Definition.{Definition}
use Rattle.dv_store.specs.declared.keys.RowKey.{RowKey}
use Rattle.dv_store.specs.Keys.{row_key}
use Rattle.dv_store.specs.Rolled.{version_place}
use Rattle.dv_store.specs.Shapes.{is_owned, place_of, shape_of}
use Rattle.dv_store.specs.World.{World}
use Rattle.dv_cascade.specs.Sound.{IsSoundWorld}
use Rattle.dv_message.specs.Scenes.{Setting}
use Rattle.dv_write.specs.declared.change.Change.{Change}
use Rattle.dv_write.specs.Assigning.{assignment_of}
use Rattle.dv_write.specs.Effects.{applied}
use Rattle.dv_write.proofs.Behind.{lookup_behind, loses_sound}
use Rattle.dv_write.proofs.Changing.{applied_kept, applied_there, IsMildEdit, SparesBy}
use Rattle.dv_write.proofs.Shapes.{applied_shape}

-- what follows where a call answers `Ok`
pub on_ok : {T E : Type 0} {A B : Type 0} (result : Result T E) → OnOk result A → (A → B) → OnOk result B
on_ok (Ok value) h then = then h
on_ok (Err stop) h then = tt

pub five : (owned : Bool) (p : ℕ) → version_place owned < p → 5 ≤ p
five true p h = omega (arith, h)
five false p h = omega (arith, h)

module _ (s : Setting) (owner : Id) where
  mild : (keys : List RowKey) → AllByRecursion (λ (c : Change). IsMildEdit c.edit) (map (assignment_of owner s) keys)
  mild [] = tt
  mild (k ∷ ks) = ((inl (omega arith), (inl (omega arith), (inl (omega arith), tt))), mild ks)

  spares : (key : RowKey) (keys : List RowKey) → AllByRecursion (λ (c : Change). SparesBy key c.key c.edit) (map (assignment_of owner s) keys)
  spares key [] = tt
  spares key (k ∷ ks) = (tt, spares key ks)

  pub reowned_sound : (d : Definition) (old new : World) (keys : List RowKey) → IsSoundWorld d old → new ≡ applied (map (assignment_of owner s) keys) old → IsSoundWorld d new
  reowned_sound d old new keys sound is = subst (λ w. IsSoundWorld d w) (sym is) (loses_sound d old (applied (map (assignment_of owner s) keys) old) sound (record {
    shape = applied_shape (map (assignment_of owner s) keys) old;
    kept = λ k r at child table id.
        let behind = subst (λ t. version_place (is_owned t child.table) < place_of r.column) (sym sound.shape) (subst (λ n. version_place (is_owned (shape_of d) n) < place_of r.column) (sym table) (lookup_behind d sound.definition k r at)) in
        applied_kept old.shape child (place_of r.column) (five (is_owned old.shape child.table) (place_of r.column) behind) behind (map (assignment_of owner s) keys) old refl (mild keys) id;
    parents = λ k r at child table id is was there. applied_there (row_key r.parent id) (map (assignment_of owner s) keys) old (spares (row_key r.parent id) keys) there;
  }))
