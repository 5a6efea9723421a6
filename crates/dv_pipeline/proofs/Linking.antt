-- A new row whose checks pass keeps the links sound.
use Rattle.std.proofs.Common.{◌≡◌, refl, sym, ap, subst, ◌∙◌, ℕ, zero, suc, ◌⊎◌, inl, inr}
use Rattle.std.proofs.lemmas.Bool.{true≢false, eqb-true}
use Rattle.std.proofs.lemmas.Option.{none-some}
use Rattle.std.specs.Prelude.{Bool, true, false, cond, Option, Some, None, is_some, option_map, slice_get}
use Rattle.std.specs.Option.{option_and_then}
use Rattle.std.specs.FinMap as map
use Rattle.dv_value.specs.declared.id.Id.{Id}
use Rattle.dv_value.specs.declared.raw.Raw.{Raw}
use Rattle.dv_value.specs.declared.value.Value.TheVariants as value
use Rattle.dv_value.specs.Raws.{value_of}
use Rattle.dv_refusal.specs.declared.refusal.Refusal.TheVariants as answer
use Rattle.dv_schema.specs.declared.relationship.Relationship.{Relationship}
use Rattle.dv_schema.specs.declared.table.Column.{Column}
use Rattle.dv_schema.specs.declared.table.ColumnRole.{ColumnRole}
use Rattle.dv_schema.specs.declared.table.ColumnRole.TheVariants.{Lookup}
use Rattle.dv_schema.specs.Definitions.{relationships_of, tables_of}
use Rattle.dv_schema.specs.Sound.{IsSoundLookup, IsSoundRole}
use Rattle.dv_store.specs.declared.keys.RowKey.{RowKey}
use Rattle.dv_store.specs.Keys.{is_row, row_key}
use Rattle.dv_store.specs.Shapes.{place_of}
use Rattle.dv_store.specs.World.{World, Rows, is_there, is_id, named_at, named_by, named_in, names}
use Rattle.dv_store.proofs.KeptLaws.{row_total}
use Rattle.dv_cascade.specs.Chains.{Chain}
use Rattle.dv_cascade.specs.Circles.{AddsLinksOf, IsNotUnder, IsUnderParent}
use Rattle.dv_cascade.specs.Sound.{HasSoundLinks, IsSoundWorld}
use Rattle.dv_cascade.proofs.Relinked.{new_parents}
use Rattle.dv_shares.proofs.Clearing.{row_is}
use Rattle.dv_message.specs.Checked.{AllPass}
use Rattle.dv_message.specs.Columns.{given_by, given_in}
use Rattle.dv_message.specs.Lookups.{NamedSays}
use Rattle.dv_message.proofs.NamingLaws.{given_is_named, named_is_there}
use Rattle.dv_pipeline.specs.Creating.{created, creation_checks, named_rows, new_key, new_row, target_of, Creating, CreationSays}
use Rattle.dv_pipeline.proofs.Making.{created_keeps, created_rows, not_refused}
use Rattle.dv_pipeline.proofs.Placing.{raw_given, reference, value_behind}
use Rattle.dv_cascade.proofs.Sounding.{sound_alike}

-- the column of a role
column_of_role : (column : Option Column) (role : ColumnRole) → option_map (λ c. c.role) column ≡ Some role → (found : Column) × (column ≡ Some found) × (found.role ≡ role)
column_of_role None role e = absurd (none-some role e)
column_of_role (Some found) role e = (found, refl, same found.role role e)
  where
    same : (a b : ColumnRole) → Some a ≡ Some b → a ≡ b
    same a b e = cc

-- a row that names an id names it
id_named : (id : Id) (named : Option Id) → is_id id named ≡ true → named ≡ Some id
id_named id None e = absurd (true≢false (sym e))
id_named id (Some other) e = λ j. Some (record { 0 = sym (eqb-true id.0 other.0 e) j })

module _ (c : Creating) (sound : IsSoundWorld c.setting.definition c.world) (table : slice_get (tables_of c.setting.definition) c.number ≡ Some c.table)
    (named : NamedSays (target_of c) (named_rows c) None) (free : is_there c.world.rows (new_key c) ≡ false) where
  -- a lookup of the new row names what is there
  new_names : (k : ℕ) (r : Relationship) → slice_get (relationships_of c.setting.definition) k ≡ Some r → c.number ≡ r.child → (id : Id)
      → named_at (new_row c) (place_of r.column) ≡ Some id → is_there c.world.rows (row_key r.parent id) ≡ true
  new_names k r at child id names = of (column_of_role (slice_get c.table.columns r.column) (Lookup k) role)
    where
      role : option_map (λ column. column.role) (slice_get c.table.columns r.column) ≡ Some (Lookup k)
      role = sym (ap (λ t. option_map (λ column. column.role) (option_and_then (λ table. slice_get table.columns r.column) t)) (ap (slice_get (tables_of c.setting.definition)) (sym child) ∙ table))
          ∙ (sound.definition.relationships k r at).column

      of : (column : Column) × (slice_get c.table.columns r.column ≡ Some column) × (column.role ≡ Lookup k) → is_there c.world.rows (row_key r.parent id) ≡ true
      of (column, place, is) = given (raw_given column.kind (value_of column.name c.values) id ref)
        where
          lookup : IsSoundLookup c.setting.definition c.table c.number r.column column k
          lookup = subst (λ role. IsSoundRole c.setting.definition c.table c.number r.column column role) is (sound.definition.columns c.number c.table table r.column column place)

          ref : given_in c.values column ≡ value.Ref id
          ref = reference (given_in c.values column) id (ap named_by (sym (value_behind c r.column column lookup.behind place)) ∙ names)

          given : (raw : Raw) × (value_of column.name c.values ≡ Some raw) × (given_by column.kind (Some raw) ≡ value.Ref id) → is_there c.world.rows (row_key r.parent id) ≡ true
          given (raw, some, by) = named_is_there (target_of c) (named_rows c) named (record { relationship = k; parent = row_key r.parent id })
              (given_is_named c.setting.definition c.table.columns c.values r.column column k raw id r place is some by at)

  -- the rows with the new one
  abbrev rows_with : Rows
  rows_with = map.insert c.world.rows (new_key c) (new_row c)

  got : (q : RowKey) → map.get rows_with q ≡ cond (is_row q (new_key c)) (Some (new_row c)) (map.get c.world.rows q)
  got q = map.get-insert row_total c.world.rows (new_key c) (new_row c) q

  -- what was there still is
  still_there : (q : RowKey) → is_there c.world.rows q ≡ true → is_there rows_with q ≡ true
  still_there q there = ap is_some (got q) ∙ by (is_row q (new_key c))
    where
      by : (b : Bool) → is_some (cond b (Some (new_row c)) (map.get c.world.rows q)) ≡ true
      by true = refl
      by false = there

  -- a row of the world with the new one names what was there
  names_what_was : (k : ℕ) (r : Relationship) → slice_get (relationships_of c.setting.definition) k ≡ Some r → (child : RowKey) (id : Id) → child.table ≡ r.child
      → named_in (map.get rows_with child) (place_of r.column) ≡ Some id → is_there c.world.rows (row_key r.parent id) ≡ true
  names_what_was k r at child id is names = by (is_row child (new_key c)) refl (ap (λ row. named_in row (place_of r.column)) (sym (got child)) ∙ names)
    where
      by : (b : Bool) → is_row child (new_key c) ≡ b → named_in (cond b (Some (new_row c)) (map.get c.world.rows child)) (place_of r.column) ≡ Some id → is_there c.world.rows (row_key r.parent id) ≡ true
      by true e n = new_names k r at (sym (ap (λ k. k.table) (row_is child (new_key c) e)) ∙ is) id n
      by false e n = sound.links.named k r at child id is n

  -- what a row was under was there
  was_there : (child parent : RowKey) → IsUnderParent c.world c.setting.definition child parent → is_there c.world.rows parent ≡ true
  was_there child parent under = subst (λ t. is_there c.world.rows (row_key t parent.id) ≡ true) (sym under.refers.parent_table)
      (sound.links.named under.number under.relationship under.there child parent.id under.refers.child_table (id_named parent.id (named_in (map.get c.world.rows child) (place_of under.relationship.column)) under.refers.named))

  -- no row was under the new one, as that was not there
  not_under : (parent : RowKey) → is_there c.world.rows parent ≡ true → IsNotUnder c.world c.setting.definition (new_key c) parent
  unfolding Chain
  not_under parent there reaches = of reaches.links reaches.chain
    where
      of : (links : ℕ) → Chain (IsUnderParent c.world c.setting.definition) links parent (new_key c) → ⊥
      of zero chain = true≢false (sym there ∙ sym (ap (is_there c.world.rows) chain) ∙ free)
      of (suc links) chain = true≢false (sym (was_there chain.0 (new_key c) chain.1.1) ∙ free)

  -- the world with the new row, but for what is counted and remembered
  abbrev world_with : World
  world_with = record c.world { rows = rows_with }

  -- its links are those of before, or put the new row under a row that was there
  links_added : AddsLinksOf c.world world_with c.setting.definition (new_key c) (IsNotUnder c.world c.setting.definition (new_key c))
  links_added = record { links = λ child parent under. by child parent under (is_row child (new_key c)) refl }
    where
      by : (child parent : RowKey) → IsUnderParent world_with c.setting.definition child parent → (b : Bool) → is_row child (new_key c) ≡ b
          → IsUnderParent c.world c.setting.definition child parent ⊎ ((child ≡ new_key c) × IsNotUnder c.world c.setting.definition (new_key c) parent)
      by child parent under true e = inr (
        row_is child (new_key c) e,
        not_under parent (subst (λ t. is_there c.world.rows (row_key t parent.id) ≡ true) (sym under.refers.parent_table)
            (names_what_was under.number under.relationship under.there child parent.id under.refers.child_table (id_named parent.id (named_in (map.get rows_with child) (place_of under.relationship.column)) under.refers.named))),
      )
      by child parent under false e = inl (record {
        number = under.number;
        relationship = under.relationship;
        there = under.there;
        parental = under.parental;
        refers = record {
          child_table = under.refers.child_table;
          parent_table = under.refers.parent_table;
          named = ap (λ row. names row (place_of under.relationship.column) parent.id) (sym (got child ∙ ap (λ b. cond b (Some (new_row c)) (map.get c.world.rows child)) e)) ∙ under.refers.named;
        };
      })

  links_with : HasSoundLinks world_with c.setting.definition
  links_with = record {
    named = λ k r at child id is names. still_there (row_key r.parent id) (names_what_was k r at child id is names);
    no_circle = new_parents c.world world_with c.setting.definition (new_key c) sound.links.no_circle links_added;
  }

  sound_with : IsSoundWorld c.setting.definition (created c)
  sound_with = record {
    definition = sound.definition;
    shape = created_keeps c ∙ sound.shape;
    links = sound_alike world_with (created c) c.setting.definition (created_rows c) links_with;
  }

-- where each check of a creation passes, the world with the new row is sound
pub created_sound : (c : Creating) → IsSoundWorld c.setting.definition c.world → slice_get (tables_of c.setting.definition) c.number ≡ Some c.table
    → AllPass (CreationSays c) creation_checks → IsSoundWorld c.setting.definition (created c)
unfolding AllPass CreationSays
created_sound c sound table all = sound_with c sound table all.1.1.1.1.1.1.1.0 (not_refused (is_there c.world.rows (new_key c)) answer.IdTaken all.1.1.1.1.1.1.1.1.0)
