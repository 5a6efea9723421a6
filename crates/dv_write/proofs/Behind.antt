-- Lookups stand behind the values that the service keeps itself, and links are sound where lookups are lost alone.
use Rattle.std.proofs.Common.{◌≡◌, refl, sym, ap, subst, ◌∙◌, ℕ, ◌-◌, ◌<◌, ◌≤◌, inl, Bool, true, false, cond, arith, is_some, lt-ltb, slice_get}
use Rattle.std.proofs.lemmas.Bool.{true≢false}
use Rattle.std.proofs.lemmas.Option.{slice_get-map, slice_get_within}
use Rattle.std.specs.Prelude.{Option, None, Some, option_map, length}
use Rattle.std.specs.Option.{option_and_then}
use Rattle.std.specs.FinMap as rows
use Rattle.dv_value.specs.declared.id.Id.{Id}
use Rattle.dv_schema.specs.declared.definition.Definition.{Definition}
use Rattle.dv_schema.specs.declared.relationship.Relationship.{Relationship}
use Rattle.dv_schema.specs.declared.table.Column.{Column}
use Rattle.dv_schema.specs.declared.table.ColumnRole.{ColumnRole}
use Rattle.dv_schema.specs.declared.table.ColumnRole.TheVariants.{Lookup}
use Rattle.dv_schema.specs.declared.table.Table.{Table}
use Rattle.dv_schema.specs.Definitions.{tables_of, relationships_of}
use Rattle.dv_schema.specs.Sound.{system_count, IsSound, IsSoundRole}
use Rattle.dv_store.specs.declared.keys.RowKey.{RowKey}
use Rattle.dv_store.specs.Keys.{row_key}
use Rattle.dv_store.specs.Rolled.{version_place}
use Rattle.dv_store.specs.Shapes.{is_marked, is_owned, place_of, shape_of}
use Rattle.dv_store.specs.World.{World, is_id, is_there, named_in, names}
use Rattle.dv_cascade.specs.Circles.{IsUnderParent}
use Rattle.dv_cascade.specs.Links.{relationship_at}
use Rattle.dv_cascade.specs.Sound.{IsSoundWorld}
use Rattle.dv_cascade.proofs.Relinked.{no_new_circle}

-- the place of a lookup is behind that of the version, which is behind those of the owner, the user and the moment
far_behind : (owned : Bool) (column : ℕ) → system_count owned ≤ column → version_place owned < place_of column
far_behind true column h = subst (λ b. 6 < cond b (column - 1) column) (sym (lt-ltb 2 column (omega (arith, h)))) (omega (arith, h))
far_behind false column h = subst (λ b. 5 < cond b (column - 1) column) (sym (lt-ltb 2 column (omega (arith, h)))) (omega (arith, h))

module _ (d : Definition) (sound : IsSound d) where
  pub number_is : (k : ℕ) (r : Relationship) → slice_get (relationships_of d) k ≡ Some r → relationship_at d k ≡ Some r
  number_is k r at = ap (λ b. cond b (slice_get (relationships_of d) k) None) (lt-ltb k 65536 (small (length (relationships_of d)) (slice_get_within (relationships_of d) k r at) sound.few)) ∙ at
    where
      small : (n : ℕ) → k < n → n ≤ 300 → k < 65536
      small n l few = omega (arith, l, few)

  pub lookup_behind : (k : ℕ) (r : Relationship) → slice_get (relationships_of d) k ≡ Some r → version_place (is_owned (shape_of d) r.child) < place_of r.column
  unfolding shape_of
  lookup_behind k r at = of (slice_get (tables_of d) r.child) refl ((sound.relationships k r at).column)
    where
      role : (table : Table) → slice_get (tables_of d) r.child ≡ Some table → (column : Column) → slice_get table.columns r.column ≡ Some column → (other : ColumnRole) → column.role ≡ other → Some other ≡ Some (Lookup k) → IsSoundRole d table r.child r.column column (Lookup k)
      role table there column here other is e = subst (λ x. IsSoundRole d table r.child r.column column x) (is ∙ same other (Lookup k) e) (sound.columns r.child table there r.column column here)
        where
          same : (a b : ColumnRole) → Some a ≡ Some b → a ≡ b
          same a b e = cc

      at_column : (table : Table) → slice_get (tables_of d) r.child ≡ Some table → (c : Option Column) → slice_get table.columns r.column ≡ c → option_map (λ column. column.role) c ≡ Some (Lookup k) → system_count table.user_owned ≤ r.column
      at_column table there None here e = absurd (true≢false (sym (ap is_some e)))
      at_column table there (Some column) here e = (role table there column here column.role refl e).behind

      of : (t : Option Table) → slice_get (tables_of d) r.child ≡ t → option_map (λ column. column.role) (option_and_then (λ table. slice_get table.columns r.column) t) ≡ Some (Lookup k) → version_place (is_owned (shape_of d) r.child) < place_of r.column
      of None there e = absurd (true≢false (sym (ap is_some e)))
      of (Some table) there e = subst (λ o. version_place (is_marked o) < place_of r.column) (sym (slice_get-map (λ t. t.user_owned) (tables_of d) r.child ∙ ap (λ t. option_map (λ t. t.user_owned) t) there)) (far_behind table.user_owned r.column (at_column table there (slice_get table.columns r.column) refl e))

-- a world in which lookups were lost alone, and no row is gone that one still names
pub record Loses (d : Definition) (old new : World) : Type 0 where
  pub shape : new.shape ≡ old.shape
  pub kept : (k : ℕ) (r : Relationship) → slice_get (relationships_of d) k ≡ Some r → (child : RowKey) → child.table ≡ r.child → (id : Id) → named_in (rows.get new.rows child) (place_of r.column) ≡ Some id → named_in (rows.get old.rows child) (place_of r.column) ≡ Some id
  pub parents : (k : ℕ) (r : Relationship) → slice_get (relationships_of d) k ≡ Some r → (child : RowKey) → child.table ≡ r.child → (id : Id) → named_in (rows.get new.rows child) (place_of r.column) ≡ Some id → named_in (rows.get old.rows child) (place_of r.column) ≡ Some id
      → is_there old.rows (row_key r.parent id) ≡ true → is_there new.rows (row_key r.parent id) ≡ true

pub loses_sound : (d : Definition) (old new : World) → IsSoundWorld d old → Loses d old new → IsSoundWorld d new
loses_sound d old new sound h = record {
  definition = sound.definition;
  shape = h.shape ∙ sound.shape;
  links = record {
    named = λ k r at child id table is. let was = h.kept k r at child table id is in h.parents k r at child table id is was (sound.links.named k r at child id table was);
    no_circle = λ key. no_new_circle (IsUnderParent old d) (IsUnderParent new d) key (λ child parent under. inl (was_under child parent under)) sound.links.no_circle key;
  };
}
  where
    named : (child parent : RowKey) (p : ℕ) → ((id : Id) → named_in (rows.get new.rows child) p ≡ Some id → named_in (rows.get old.rows child) p ≡ Some id) → (o : Option Id) → named_in (rows.get new.rows child) p ≡ o → is_id parent.id o ≡ true → names (rows.get old.rows child) p parent.id ≡ true
    named child parent p kept None is same = absurd (true≢false (sym same))
    named child parent p kept (Some id) is same = ap (is_id parent.id) (kept id is) ∙ same

    was_under : (child parent : RowKey) → IsUnderParent new d child parent → IsUnderParent old d child parent
    was_under child parent u = record {
      number = u.number;
      relationship = u.relationship;
      there = u.there;
      parental = u.parental;
      refers = record {
        child_table = u.refers.child_table;
        parent_table = u.refers.parent_table;
        named = named child parent (place_of u.relationship.column) (h.kept u.number u.relationship u.there child u.refers.child_table) (named_in (rows.get new.rows child) (place_of u.relationship.column)) refl u.refers.named;
      };
    }
