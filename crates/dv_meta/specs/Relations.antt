-- What relationships may not do: empty a required column; hand on ownership or shares where a table has no owners;
-- put a table under a second parental relationship.
use Rattle.std.specs.Prelude.{ℕ, Bool, true, false, not, ◌&&◌, ◌||◌, List, Option, Some, None, if◌then◌else◌, option_map, position, nat_lt}
use Rattle.std.specs.List.{enumerate_from}
use Rattle.std.specs.Option.{option_map_or}
use Rattle.dv_schema.specs.declared.draft.Draft.{Draft}
use Rattle.dv_schema.specs.declared.draft.DraftRelationship.{DraftRelationship}
use Rattle.dv_schema.specs.declared.place.Place.{Place}
use Rattle.dv_schema.specs.declared.place.Place.TheVariants as at
use Rattle.dv_schema.specs.declared.relationship.Cascade.{Cascade}
use Rattle.dv_schema.specs.declared.relationship.Cascade.TheVariants.{RemoveLink}
use Rattle.dv_schema.specs.First.{first}
use Rattle.dv_meta.specs.Named.{table_named, column_named}
use Rattle.dv_schema.specs.Names.{Name, same_name}
use Rattle.dv_schema.specs.Sound.{hands_on}

-- whether a delete of the parent empties the lookup
abbrev pub empties : Cascade → Bool
empties RemoveLink = true
empties _ = false

-- whether a delete of the parent would empty a required column
unfoldable pub empties_required : Draft → DraftRelationship → Bool
empties_required draft r = empties r.delete && option_map_or (λ column. column.required) (column_named draft r.child r.column) false

-- a relationship is parental where an assignment, a share, its end or a new parent is handed on; a delete isn't asked
unfoldable pub is_parental : DraftRelationship → Bool
is_parental r = hands_on r.assign || (hands_on r.share || (hands_on r.unshare || hands_on r.reparent))

-- whether the organisation owns the rows of a table
unfoldable pub has_no_owners : Draft → Name → Bool
has_no_owners draft name = option_map_or (λ table. not table.user_owned) (table_named draft name) false

-- whether ownership or shares are handed on to or from a table that has none
unfoldable pub clashes : Draft → DraftRelationship → Bool
clashes draft r = is_parental r && (has_no_owners draft r.parent || has_no_owners draft r.child)

-- the number of the first parental relationship of a child
unfoldable pub parental_of : List DraftRelationship → Name → Option ℕ
parental_of relationships child = first (λ k r. if is_parental r && same_name child r.child then Some k else None) relationships

-- whether the relationship puts its child under a parent, and an earlier one did so
unfoldable pub is_second : Draft → ℕ × DraftRelationship → Bool
is_second draft at_k = is_parental at_k.1 && option_map_or (λ j. nat_lt j at_k.0) (parental_of draft.relationships at_k.1.child) false

-- the first relationship that would empty a required column
unfoldable pub bad_cascade : Draft → Option Place
bad_cascade draft = option_map at.Relationship (position (empties_required draft) draft.relationships)

-- the first relationship that passes ownership or shares on to a table without owners, or from one
unfoldable pub ownership_clash : Draft → Option Place
ownership_clash draft = option_map at.Relationship (position (clashes draft) draft.relationships)

-- the first relationship that is its child's second parental one
unfoldable pub second_parent : Draft → Option Place
second_parent draft = option_map at.Relationship (position (is_second draft) (enumerate_from 0 draft.relationships))
