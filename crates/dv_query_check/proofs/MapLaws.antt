-- Tests and searches of a list that another one is mapped to.
use Rattle.std.proofs.Common.{◌≡◌, ◌||◌, Bool, true, false, cond, List, [], ◌∷◌, map, Option, Some, None, option_map, option_and_then, refl, sym, ap, ◌∙◌}
use Rattle.std.specs.List.{list_any, find}
use Rattle.dv_schema.specs.declared.table.Table.{Table}
use Rattle.dv_query_check.specs.declared.placed.PlacedLink.{PlacedLink}
use Rattle.dv_query_check.specs.Links.{LinkAt}
use Rattle.dv_query_check.specs.Placed.{link_at}
use Rattle.dv_query_check.specs.Resolved.{link_source}

pub any_mapped : {A B : Type 0} (p : B → Bool) (f : A → B) (xs : List A) → list_any p (map f xs) ≡ list_any (λ x. p (f x)) xs
any_mapped p f [] = refl
any_mapped p f (x ∷ xs) = ap (λ b. p (f x) || b) (any_mapped p f xs)

pub find_mapped : {A B : Type 0} (p : B → Bool) (f : A → B) (xs : List A) → find p (map f xs) ≡ option_map f (find (λ x. p (f x)) xs)
find_mapped p f [] = refl
find_mapped p f (x ∷ xs) = go (p (f x)) (find_mapped p f xs)
  where
    go : (b : Bool) → find p (map f xs) ≡ option_map f (find (λ y. p (f y)) xs) → cond b (Some (f x)) (find p (map f xs)) ≡ option_map f (cond b (Some x) (find (λ y. p (f y)) xs))
    go true e = refl
    go false e = e

-- the table of a link that is found
pub table_found : (p : LinkAt → Bool) (links : List PlacedLink) (o : Option PlacedLink) (table : Option Table) → o ≡ find (λ l. p (link_at l)) links → option_and_then (λ (l : PlacedLink). option_map (λ t. t.now) l.table) o ≡ table
    → table ≡ option_and_then (λ (l : LinkAt). l.table) (find p (map link_at links))
unfolding link_at
table_found p links None table e at = sym at ∙ sym (ap (option_and_then (λ (l : LinkAt). l.table)) (find_mapped p link_at links ∙ ap (option_map link_at) (sym e)))
table_found p links (Some l) table e at = sym at ∙ sym (ap (option_and_then (λ (m : LinkAt). m.table)) (find_mapped p link_at links ∙ ap (option_map link_at) (sym e)))

-- the source that a link is which is found
pub source_found : (p : LinkAt → Bool) (links : List PlacedLink) (o : Option PlacedLink) → o ≡ find (λ l. p (link_at l)) links → option_map (λ l. link_source (link_at l)) o ≡ option_map link_source (find p (map link_at links))
source_found p links None e = sym (ap (option_map link_source) (find_mapped p link_at links ∙ ap (option_map link_at) (sym e)))
source_found p links (Some l) e = sym (ap (option_map link_source) (find_mapped p link_at links ∙ ap (option_map link_at) (sym e)))
