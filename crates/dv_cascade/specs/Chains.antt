-- The rows that chains of links reach.
use Rattle.std.specs.Prelude.{◌≡◌, ◌↔◌, ℕ, zero, suc, Bool, IsTrue, IsSome, List}
use Rattle.std.specs.List.{list_any}
use Rattle.std.specs.List.Sorted.{IsStrictlySortedBy}
use Rattle.std.specs.declared.cmp.Ordering.{Ordering}
use Rattle.std.specs.Ordering.{eq_by_cmp}
use Rattle.std.specs.FinMap as map
use Rattle.dv_schema.specs.declared.definition.Definition.{Definition}
use Rattle.dv_store.specs.declared.keys.RowKey.{RowKey}
use Rattle.dv_store.specs.Keys.{is_row}
use Rattle.dv_store.specs.World.{World}
use Rattle.dv_cascade.specs.declared.cascading.Cascading.{Cascading}
use Rattle.dv_cascade.specs.Links.{Leads}

-- so many links, one after the other, from a first row to a last one
unfoldable pub Chain : (RowKey → RowKey → Type 0) → ℕ → RowKey → RowKey → Type 0
Chain Link zero first last = last ≡ first
Chain Link (suc links) first last = (next : RowKey) × (Chain Link links first next × Link next last)

-- a chain of links from one row to another, of any length
pub record Reaches (Link : RowKey → RowKey → Type 0) (first last : RowKey) : Type 0 where
  pub links : ℕ
  pub chain : Chain Link links first last

-- a row that is reached from a target that is there by links that what is done follows
pub record IsReached (w : World) (d : Definition) (cascading : Cascading) (target key : RowKey) : Type 0 where
  pub there : IsSome (map.get w.rows target)
  pub reached : Reaches (Leads w d cascading) target key

-- whether a list has a row
abbrev pub is_among : List RowKey → RowKey → Bool
is_among rows key = list_any (is_row key) rows

-- the keys of which something is so, ascending, each once
pub record AreExactly {K : Type 0} (order : K → K → Ordering) (IsOf : K → Type 0) (keys : List K) : Type 0 where
  pub ascending : IsStrictlySortedBy order keys
  pub exactly : (key : K) → IsTrue (list_any (eq_by_cmp order key) keys) ↔ IsOf key

-- a set of rows has each child that a link leads to from a row of it
abbrev pub IsClosed : (RowKey → RowKey → Type 0) → (RowKey → Type 0) → Type 0
IsClosed Link IsIn = (parent child : RowKey) → IsIn parent → Link parent child → IsIn child
