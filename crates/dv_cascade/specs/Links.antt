-- The links from parents to their children, and which of them what is done to a parent follows.
use Rattle.std.specs.Prelude.{◌≡◌, ℕ, Bool, true, false, nat_lt, if◌then◌else◌, pos, Option, None, Some, slice_get}
use Rattle.std.specs.Option.{option_map_or}
use Rattle.std.specs.Ordering.{int_eq}
use Rattle.std.specs.FinMap as map
use Rattle.dv_value.specs.declared.id.Id.{Id}
use Rattle.dv_value.specs.declared.value.Value.{Value}
use Rattle.dv_value.specs.declared.value.Value.TheVariants.{Choice}
use Rattle.dv_schema.specs.declared.definition.Definition.{Definition}
use Rattle.dv_schema.specs.declared.relationship.Cascade as kind
use Rattle.dv_schema.specs.declared.relationship.Cascade.TheVariants.{Cascade, Active, UserOwned}
use Rattle.dv_schema.specs.declared.relationship.Relationship.{Relationship}
use Rattle.dv_schema.specs.Definitions.{relationships_of}
use Rattle.dv_store.specs.declared.keys.RowKey.{RowKey}
use Rattle.dv_store.specs.declared.shape.Link.{Link}
use Rattle.dv_store.specs.declared.shape.Shape.{Shape}
use Rattle.dv_store.specs.Shapes.{place_of, is_owned}
use Rattle.dv_store.specs.World.{World, named_in, names, is_id}
use Rattle.dv_store.specs.Cursors.{owner_place}
use Rattle.dv_cascade.specs.declared.cascading.Cascading.{Cascading}
use Rattle.dv_cascade.specs.declared.cascading.Cascading.TheVariants.{Assign, Share, Unshare, Reparent, Delete}

-- the relationship of a number, which has 16 bits
abbrev pub relationship_at : Definition → ℕ → Option Relationship
relationship_at d number = if nat_lt number 65536 then slice_get (relationships_of d) number else None

-- which children of a relationship what is done to a parent reaches
abbrev pub cascade_by : Cascading → Relationship → kind.Cascade
cascade_by Assign r = r.assign
cascade_by Share r = r.share
cascade_by Unshare r = r.unshare
cascade_by Reparent r = r.reparent
cascade_by Delete r = r.delete

-- whether a cascade reaches any child
abbrev pub reaches_any : kind.Cascade → Bool
reaches_any Cascade = true
reaches_any Active = true
reaches_any UserOwned = true
reaches_any _ = false

-- what a store keeps of a relationship
abbrev pub link_of : Relationship → Link
link_of r = record { child = r.child; place = place_of r.column }

-- a row of the child table names a row of the parent table by its lookup
pub record Refers (w : World) (r : Relationship) (child parent : RowKey) : Type 0 where
  pub child_table : child.table ≡ r.child
  pub parent_table : parent.table ≡ r.parent
  pub named : names (map.get w.rows child) (place_of r.column) parent.id ≡ true

-- the place of the state among a row's values: behind the owner, where rows have owners
abbrev pub state_place : Shape → ℕ → ℕ
state_place shape table = if is_owned shape table then 5 else 4

-- whether a value is the state 0
abbrev pub is_zero : Option Value → Bool
is_zero (Some (Choice state)) = int_eq state (pos 0)
is_zero value = false

-- whether a row is active: its state is 0
abbrev pub is_active : World → RowKey → Bool
is_active w key = option_map_or (λ row. is_zero (slice_get row.values (state_place w.shape key.table))) (map.get w.rows key) false

-- the owner of a row, if it has one
abbrev pub owner_of : World → RowKey → Option Id
owner_of w key = named_in (map.get w.rows key) owner_place

-- whether two rows have one owner
abbrev pub has_owner : Option Id → Option Id → Bool
has_owner None owner = false
has_owner (Some owner) other = is_id owner other

abbrev pub same_owner : World → RowKey → RowKey → Bool
same_owner w a b = has_owner (owner_of w a) (owner_of w b)

-- whether a cascade reaches a child from a parent: always, where the child is active, or where both have one owner
unfoldable pub allows : World → kind.Cascade → RowKey → RowKey → Bool
allows w Cascade parent child = true
allows w Active parent child = is_active w child
allows w UserOwned parent child = same_owner w parent child
allows w _ parent child = false

-- a relationship leads from a parent to a child that its cascade reaches
pub record LeadsBy (w : World) (r : Relationship) (cascade : kind.Cascade) (parent child : RowKey) : Type 0 where
  pub refers : Refers w r child parent
  pub allowed : allows w cascade parent child ≡ true

-- what is done to a parent is done to a child too, by some relationship of the definition
pub record Leads (w : World) (d : Definition) (cascading : Cascading) (parent child : RowKey) : Type 0 where
  pub number : ℕ
  pub relationship : Relationship
  pub there : relationship_at d number ≡ Some relationship
  pub by : LeadsBy w relationship (cascade_by cascading relationship) parent child
