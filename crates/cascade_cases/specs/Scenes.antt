-- Stores in which no row is above itself, since each row's parent has a smaller id than the row.
use Rattle.std.specs.Prelude.{◌≡◌, ◌<◌, Bool, true, Option, None, Some, nat_lt}
use Rattle.dv_value.specs.declared.id.Id.{Id}
use Rattle.dv_schema.specs.declared.definition.Definition.{Definition}
use Rattle.dv_store.specs.declared.keys.RowKey.{RowKey}
use Rattle.dv_store.specs.Shapes.{shape_of}
use Rattle.dv_store.specs.World.{World}
use Rattle.dv_cascade.specs.Circles.{HasOneParent, IsUnderParent}

-- whether a parent, if there is one, has a smaller id than its child
unfoldable pub is_below : Id → Option RowKey → Bool
is_below id None = true
is_below id (Some parent) = nat_lt parent.id.0 id.0

-- each row's parent has a smaller id
abbrev pub Descends : World → Definition → Type 0
Descends w d = (child parent : RowKey) → IsUnderParent w d child parent → parent.id.0 < child.id.0

-- a store is of a definition in which a table has one parental relationship at most, and whether it descends is known
pub record IsScene (d : Definition) (w : World) (descends : Bool) : Type 0 where
  pub shape : w.shape ≡ shape_of d
  pub one_parent : HasOneParent d
  pub known : descends ≡ true → Descends w d
