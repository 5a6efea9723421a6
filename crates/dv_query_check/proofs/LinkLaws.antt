-- What is listed of a link: the link, and those under it.
use Rattle.std.proofs.Common.{◌≡◌, ℕ, ◌+◌, Bool, ◌||◌, List, [], ◌∷◌, ◌++◌, length, map, codes, Option, option_map, sym, ap, ◌∙◌}
use Rattle.std.proofs.lemmas.List.{append_assoc, length-append}
use Rattle.std.proofs.lemmas.Simd.{map-map}
use Rattle.dv_schema.specs.declared.definition.Definition.{Definition}
use Rattle.dv_schema.specs.declared.table.Table.{Table}
use Rattle.dv_query.specs.declared.link.Link.{Link}
use Rattle.dv_query.specs.declared.link.Link.TheViews.{out-Link}
use Rattle.dv_query.specs.declared.link.Link.TheFolds.{fold_out-Link}
use Rattle.dv_query_check.specs.declared.placed.PlacedLink.{PlacedLink}
use Rattle.dv_query_check.specs.Columns.{table_named}
use Rattle.dv_query_check.specs.Links.{LinkAt, Under, is_exists, links_in_turn, link_step, links_at, links_under}
use Rattle.dv_query_check.specs.Placed.{link_at}
use Rattle.dv_query_check.specs.Places.{member}

-- a link in its place
abbrev here : Link → Option Table → Option Table → Bool → ℕ → ℕ → List ℕ → LinkAt
here l outer table hidden above number place = record {
  place = place;
  number = number;
  above = above;
  outer = outer;
  table = table;
  named = (out-Link l).table;
  join = (out-Link l).join;
  hidden = hidden;
  from = (out-Link l).from;
  to = (out-Link l).to;
  alias = (out-Link l).alias;
  columns = (out-Link l).columns;
  filter = (out-Link l).filter;
}

-- a link, and those under it
links_out : (d : Definition) (l : Link) (outer : Option Table) (hidden : Bool) (above number : ℕ) (place : List ℕ) → links_under d outer hidden above l number place
    ≡ here l outer (table_named d (out-Link l).table) (hidden || is_exists (out-Link l).join) above number place
    ∷ links_in_turn (member place (codes "links")) 0 (number + 1) (map (links_under d (table_named d (out-Link l).table) (hidden || is_exists (out-Link l).join) number) (out-Link l).links)
unfolding links_at link_step
links_out d l outer hidden above number place =
    let table = table_named d (out-Link l).table in
    let under = hidden || is_exists (out-Link l).join in
    ap (λ (u : Under). u outer hidden above number place) (fold_out-Link Under (link_step d) l)
    ∙ ap (λ us. here l outer table under above number place ∷ links_in_turn (member place (codes "links")) 0 (number + 1) us) (map-map (λ (u : Under). u table under number) (links_at d) (out-Link l).links)

-- the same, by what the code has in these places
links_out_by : (d : Definition) (l : Link) (outer : Option Table) (hidden : Bool) (above number next : ℕ) (place inside : List ℕ) (table : Option Table) (under : Bool) (links : List Link)
    → next ≡ number + 1 → inside ≡ member place (codes "links") → table ≡ table_named d (out-Link l).table → under ≡ (hidden || is_exists (out-Link l).join) → links ≡ (out-Link l).links
    → here l outer table under above number place ∷ links_in_turn inside 0 next (map (links_under d table under number) links) ≡ links_under d outer hidden above l number place
links_out_by d l outer hidden above number next place inside table under links e0 e1 e2 e3 e4 = rw (e0, e1, e2, e3, e4) (sym (links_out d l outer hidden above number place))

one_more : {A : Type 0} (olds news : List A) (x : A) → news ≡ olds ++ x ∷ [] → length news ≡ length olds + 1
one_more olds news x e = ap length e ∙ length-append olds (x ∷ [])

-- a link that is added, and those under it
pub link_added : (d : Definition) (p : PlacedLink) (hidden : Bool) (inside : List ℕ) (links : List Link) (olds news finals : List LinkAt)
    → p.number ≡ length olds + 1 → inside ≡ member p.place (codes "links") → option_map (λ t. t.now) p.table ≡ table_named d (out-Link p.link.now).table → p.is_hidden ≡ (hidden || is_exists (out-Link p.link.now).join) → links ≡ (out-Link p.link.now).links
    → news ≡ olds ++ link_at p ∷ [] → finals ≡ news ++ links_in_turn inside 0 (length news + 1) (map (links_under d (option_map (λ t. t.now) p.table) p.is_hidden p.number) links)
    → finals ≡ olds ++ links_under d (option_map (λ t. t.now) p.outer) hidden p.above p.link.now (length olds + 1) p.place
unfolding link_at
link_added d p hidden inside links olds news finals e0 e1 e2 e3 e4 kept added =
    let outer = option_map (λ t. t.now) p.outer in
    let rest = links_in_turn inside 0 (length news + 1) (map (links_under d (option_map (λ t. t.now) p.table) p.is_hidden p.number) links) in
    let next : length news + 1 ≡ p.number + 1 = ap (λ n. n + 1) (one_more olds news (link_at p) kept ∙ sym e0) in
    added ∙ ap (λ xs. xs ++ rest) kept ∙ append_assoc olds (link_at p ∷ []) rest
    ∙ ap (λ xs. olds ++ xs) (links_out_by d p.link.now outer hidden p.above p.number (length news + 1) p.place inside (option_map (λ t. t.now) p.table) p.is_hidden links next e1 e2 e3 e4)
    ∙ ap (λ n. olds ++ links_under d outer hidden p.above p.link.now n p.place) e0
