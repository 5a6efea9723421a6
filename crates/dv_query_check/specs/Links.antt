-- The links of a query in preorder: each link, then those under it, each with its place, its table and the table that it stands under. The query's own table and then its links in that order are the sources of the query, which are numbered from 0.
use Rattle.std.specs.Prelude.{◌≡◌, ◌≤◌, ℕ, zero, suc, ◌+◌, Bool, true, false, ◌||◌, List, [], ◌∷◌, ◌++◌, length, map, slice_get, codes, Option, Some}
use Rattle.dv_schema.specs.declared.definition.Definition.{Definition}
use Rattle.dv_schema.specs.declared.table.Table.{Table}
use Rattle.dv_schema.specs.Names.{Name}
use Rattle.dv_query.specs.declared.filter.Filter.{Filter}
use Rattle.dv_query.specs.declared.link.Join.{Join}
use Rattle.dv_query.specs.declared.link.Join.TheVariants.{Inner, Left, Exists}
use Rattle.dv_query.specs.declared.link.Link.{Link}
use Rattle.dv_query.specs.declared.link.Link.TheOpen.{Link-F}
use Rattle.dv_query.specs.declared.link.Link.TheFolds.{fold-Link}
use Rattle.dv_query.specs.declared.query.Query.{Query}
use Rattle.dv_query_check.specs.Columns.{table_named}
use Rattle.dv_query_check.specs.Places.{member, item}

-- a link in its place
pub record LinkAt : Type 0 where
  pub place : List ℕ
  -- its number among the sources, and that of the one that it stands under
  pub number : ℕ
  pub above : ℕ
  -- the table that it stands under, and its own, if they are there
  pub outer : Option Table
  pub table : Option Table
  -- the name of its own table
  pub named : Name
  pub join : Join
  -- it, or a link that it stands under, only asks whether there is a partner
  pub hidden : Bool
  pub from : Name
  pub to : Name
  pub alias : Option Name
  pub columns : List Name
  pub filter : Option Filter

-- a join that only asks whether there is a partner
unfoldable pub is_exists : Join → Bool
is_exists Inner = false
is_exists Left = false
is_exists Exists = true

-- a link and those under it, by the table that it stands under, whether that is hidden, that one's number, the link's own number and its place
abbrev pub Under : Type 0
Under = Option Table → Bool → ℕ → ℕ → List ℕ → List LinkAt

-- what is listed of the links of a list from item i on, of which the first has a number
unfoldable pub links_in_turn : List ℕ → ℕ → ℕ → List (ℕ → List ℕ → List LinkAt) → List LinkAt
links_in_turn place i number [] = []
links_in_turn place i number (listed ∷ more) = listed number (item place i) ++ links_in_turn place (i + 1) (number + length (listed number (item place i))) more

-- a link, followed by what is listed of those under it
unfoldable pub link_step : Definition → Link-F Under → Under
link_step d l outer hidden above number place =
    record {
      place = place;
      number = number;
      above = above;
      outer = outer;
      table = table_named d l.table;
      named = l.table;
      join = l.join;
      hidden = hidden || is_exists l.join;
      from = l.from;
      to = l.to;
      alias = l.alias;
      columns = l.columns;
      filter = l.filter;
    }
    ∷ links_in_turn (member place (codes "links")) 0 (number + 1) (map (λ under. under (table_named d l.table) (hidden || is_exists l.join) number) l.links)

-- a link and those under it
unfoldable pub links_at : Definition → Link → Under
links_at d = fold-Link Under (link_step d)

-- the same, by the link last but its number and its place
abbrev pub links_under : Definition → Option Table → Bool → ℕ → Link → ℕ → List ℕ → List LinkAt
links_under d outer hidden above link = links_at d link outer hidden above

-- the links of a query in preorder
unfoldable pub links_of : Definition → Query → List LinkAt
links_of d q = links_in_turn (codes "links") 0 1 (map (links_under d (table_named d q.table) false 0) q.links)

-- the source of a number has a table, if that is there: the query's own, or that of the link before that place
abbrev pub HasTable : Option Table → List LinkAt → ℕ → Option Table → Type 0
HasTable base links zero table = table ≡ base
HasTable base links (suc k) table = (l : LinkAt) × (slice_get links k ≡ Some l) × (l.table ≡ table)

-- a link's number is that of its place among the sources, and it stands under an earlier source, whose table it says
pub record IsUnder (base : Option Table) (links : List LinkAt) (k : ℕ) (l : LinkAt) : Type 0 where
  pub number : l.number ≡ k + 1
  pub earlier : l.above ≤ k
  pub outer : HasTable base links l.above l.outer
