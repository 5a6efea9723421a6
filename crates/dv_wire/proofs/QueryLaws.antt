-- A filter and a link are made of their parts and of those in them.
use Rattle.std.proofs.Common.{◌≡◌, ℕ, List, Bool, Option, option_map, map, codes, sym, ap, ◌∙◌}
use Rattle.serde_json.specs.Data.{Data}
use Rattle.serde_json.specs.Find.{get}
use Rattle.dv_form.specs.Members.{text_of}
use Rattle.dv_form.specs.Members.{at, says, names_of}
use Rattle.dv_query.specs.declared.filter.Condition.{Condition}
use Rattle.dv_query.specs.declared.filter.Filter.{Filter}
use Rattle.dv_query.specs.declared.filter.Filter.TheViews.{roll-Filter}
use Rattle.dv_query.specs.declared.link.Join.{Join}
use Rattle.dv_query.specs.declared.link.Link.{Link}
use Rattle.dv_query.specs.declared.link.Link.TheViews.{roll-Link}
use Rattle.dv_wire.specs.Members.{list_at}
use Rattle.dv_wire.specs.Queries.{condition_of, filter_step, filter_of, filter_at, join_at, link_step, link_of, part_said}
use Rattle.dv_wire.proofs.DeepLaws.{deep-step}

pub filter_made : (d : Data) (any : Bool) (conditions : List Condition) (filters : List Filter) → any ≡ says "or" (at "op" d)
    → conditions ≡ map condition_of (list_at (codes "conditions") d) → filters ≡ map filter_of (list_at (codes "filters") d)
    → roll-Filter (record { any = any; conditions = conditions; filters = filters }) ≡ filter_of d
unfolding filter_of filter_step
filter_made d any conditions filters e f g = rw (e, f, g) (sym (deep-step filter_step d))

pub link_made : (d : Data) (table from to : List ℕ) (join : Join) (alias : Option (List ℕ)) (columns : List (List ℕ)) (filter : Option Filter) (links : List Link)
    → table ≡ text_of (at "table" d) → from ≡ text_of (at "from" d) → to ≡ text_of (at "to" d) → join ≡ join_at d → alias ≡ option_map text_of (get (codes "alias") d)
    → columns ≡ names_of (at "columns" d) → filter ≡ filter_at d → links ≡ map link_of (list_at (codes "links") d)
    → roll-Link (record { table = table; from = from; to = to; join = join; alias = alias; columns = columns; filter = filter; links = links }) ≡ link_of d
unfolding link_of link_step
link_made d table from to join alias columns filter links e1 e2 e3 e4 e5 e6 e7 e8 = rw (e1, e2, e3, e4, e5, e6, e7, e8) (sym (deep-step link_step d))

pub part_same : (top page top' page' : Option Data) → top ≡ top' → page ≡ page' → part_said top page ≡ part_said top' page'
part_same top page top' page' e f = ap (λ o. part_said o page) e ∙ ap (part_said top') f
