-- A world whose links are sound: lookups name rows that are there, and no row is above itself.
use Rattle.std.specs.Prelude.{◌≡◌, true, Some}
use Rattle.std.specs.FinMap as map
use Rattle.dv_value.specs.declared.id.Id.{Id}
use Rattle.dv_schema.specs.declared.definition.Definition.{Definition}
use Rattle.dv_schema.specs.declared.relationship.Relationship.{Relationship}
use Rattle.dv_schema.specs.Definitions.{relationships_of}
use Rattle.dv_schema.specs.Sound.{Each, IsSound}
use Rattle.dv_store.specs.declared.keys.RowKey.{RowKey}
use Rattle.dv_store.specs.Keys.{row_key}
use Rattle.dv_store.specs.Shapes.{place_of, shape_of}
use Rattle.dv_store.specs.World.{World, is_there, named_in}
use Rattle.dv_cascade.specs.Circles.{HasNoCircle}

-- the lookup of a relationship names, in each row of the child's table, a row of the parent's table that is there, or none
abbrev pub NamesWhatIsThere : World → Relationship → Type 0
NamesWhatIsThere w r = (child : RowKey) (id : Id) → child.table ≡ r.child → named_in (map.get w.rows child) (place_of r.column) ≡ Some id → is_there w.rows (row_key r.parent id) ≡ true

-- each lookup does so, and no row is above itself by parental links
pub record HasSoundLinks (w : World) (d : Definition) : Type 0 where
  pub named : Each (relationships_of d) (λ number r. NamesWhatIsThere w r)
  pub no_circle : HasNoCircle w d

-- a world of an accepted definition, with sound links
pub record IsSoundWorld (d : Definition) (w : World) : Type 0 where
  pub definition : IsSound d
  pub shape : w.shape ≡ shape_of d
  pub links : HasSoundLinks w d
