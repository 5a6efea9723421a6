-- The filters of a query, each before those in it, and then those of its links in the links' preorder. The conditions of a query in preorder are those of these filters.
use Rattle.std.specs.Prelude.{ℕ, ◌+◌, Bool, true, false, List, [], ◌∷◌, ◌++◌, flat_map, sum_by, length, nat_lt, codes, Option, Some, None}
use Rattle.dv_schema.specs.declared.table.Table.{Table}
use Rattle.dv_query.specs.declared.filter.Condition.{Condition}
use Rattle.dv_query.specs.declared.filter.Filter.{Filter}
use Rattle.dv_query.specs.declared.filter.Filter.TheOpen.{Filter-F}
use Rattle.dv_query.specs.declared.filter.Filter.TheFolds.{fold-Filter}
use Rattle.dv_query_check.specs.Links.{LinkAt}
use Rattle.dv_query_check.specs.Places.{member, item}

-- the conditions of a filter in its place
pub record FilterAt : Type 0 where
  pub place : List ℕ
  -- the table whose columns conditions without a link name, if it is there
  pub table : Option Table
  -- conditions may name a link
  pub names_links : Bool
  pub conditions : List Condition

-- what is listed of the items of a list from number i on, each by its place
unfoldable pub in_turn : {A : Type 0} → List ℕ → ℕ → List (List ℕ → List A) → List A
in_turn place i [] = []
in_turn place i (listed ∷ more) = listed (item place i) ++ in_turn place (i + 1) more

-- a filter, followed by what is listed of those in it
unfoldable pub filter_step : Option Table → Bool → Filter-F (List ℕ → List FilterAt) → List ℕ → List FilterAt
filter_step table names_links f place =
    record { place = place; table = table; names_links = names_links; conditions = f.conditions }
    ∷ in_turn (member place (codes "filters")) 0 f.filters

-- a filter and those in it, by its place
unfoldable pub filters_in : Option Table → Bool → Filter → List ℕ → List FilterAt
filters_in table names_links = fold-Filter (List ℕ → List FilterAt) (filter_step table names_links)

-- a filter where there is one, and those in it
unfoldable pub filters_given : Option Table → Bool → Option Filter → List ℕ → List FilterAt
filters_given table names_links None place = []
filters_given table names_links (Some filter) place = filters_in table names_links filter place

-- the filters of a link, whose conditions name no link
unfoldable pub filters_of_link : LinkAt → List FilterAt
filters_of_link l = filters_given l.table false l.filter (member l.place (codes "filter"))

-- the filters of a query, and then those of its links
unfoldable pub filters_of : Option Table → Option Filter → List LinkAt → List FilterAt
filters_of base filter links = filters_given base true filter (codes "filter") ++ flat_map filters_of_link links

-- whether filters have more conditions than so many
unfoldable pub has_more_conditions : List FilterAt → ℕ → Bool
has_more_conditions filters most = nat_lt most (sum_by (λ f. length f.conditions) filters)
