-- A link, a filter and a source as the code lists them.
use Rattle.std.specs.Prelude.{option_map}
use Rattle.dv_query.specs.declared.link.Link.TheViews.{out-Link}
use Rattle.dv_query_check.specs.declared.filters.PlacedFilter.{PlacedFilter}
use Rattle.dv_query_check.specs.declared.placed.PlacedLink.{PlacedLink}
use Rattle.dv_query_check.specs.Links.{LinkAt}
use Rattle.dv_query_check.specs.Filters.{FilterAt}
use Rattle.dv_query_check.specs.Resolved.{SourceAt}
use Rattle.dv_query_check.specs.declared.source.Source.{Source}

-- a link in its place
unfoldable pub link_at : PlacedLink → LinkAt
link_at p = record {
  place = p.place;
  number = p.number;
  above = p.above;
  outer = option_map (λ t. t.now) p.outer;
  table = option_map (λ t. t.now) p.table;
  named = (out-Link p.link.now).table;
  join = (out-Link p.link.now).join;
  hidden = p.is_hidden;
  from = (out-Link p.link.now).from;
  to = (out-Link p.link.now).to;
  alias = (out-Link p.link.now).alias;
  columns = (out-Link p.link.now).columns;
  filter = (out-Link p.link.now).filter;
}

-- the conditions of a filter in their place
unfoldable pub filter_at : PlacedFilter → FilterAt
filter_at p = record {
  place = p.place;
  table = option_map (λ t. t.now) p.table;
  names_links = p.names_links;
  conditions = p.conditions.now;
}

-- a source with its table
unfoldable pub source_at : Source → SourceAt
source_at s = record { number = s.number; table = option_map (λ t. t.now) s.table }
