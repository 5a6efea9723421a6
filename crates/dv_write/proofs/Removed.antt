-- What a removal leaves: rows outside the set whose lookups of it are empty, so that links stay sound.
use Rattle.std.proofs.Common.{◌≡◌, refl, sym, ap, subst, ◌∙◌, ℕ, ◌<◌, ◌⊎◌, inl, inr, Bool, true, false, cond, List, [], ◌∷◌, ◌++◌, arith, map, slice_get, eq-eqb, is_some}
use Rattle.std.proofs.lemmas.Bool.{true≢false}
use Rattle.std.specs.Prelude.{IsTrue, Option, None, Some, option_map}
use Rattle.std.specs.List.{AllByRecursion, list_any}
use Rattle.std.specs.FinMap as rows
use Rattle.std.proofs.lemmas.Map.Lookups.{exact_unsigned}
use Rattle.std.specs.declared.cmp.Ordering.{Ordering}
use Rattle.std.specs.declared.cmp.Ordering.TheVariants.{Less, Equal, Greater}
use Rattle.std.specs.Cmp.{Equal-is, tied_itself}
use Rattle.std.specs.Ordering.{eq_by_cmp, is_eq, ordering_then}
use Rattle.dv_value.specs.declared.id.Id.{Id}
use Rattle.dv_refusal.specs.declared.refusal.Refusal.{Refusal}
use Rattle.dv_refusal.specs.declared.refusal.Refusal.TheVariants as answer
use Rattle.dv_schema.specs.declared.definition.Definition.{Definition}
use Rattle.dv_schema.specs.declared.relationship.Cascade as kind
use Rattle.dv_schema.specs.declared.relationship.Cascade.TheVariants as by_kind
use Rattle.dv_schema.specs.declared.relationship.Relationship.{Relationship}
use Rattle.dv_schema.specs.Definitions.{relationships_of}
use Rattle.dv_store.specs.declared.keys.RowKey.{RowKey}
use Rattle.dv_store.specs.Exact.{exact_row}
use Rattle.dv_store.specs.Keys.{is_row, row_cmp, row_key}
use Rattle.dv_store.specs.Rolled.{version_place}
use Rattle.dv_store.specs.Shapes.{is_owned, place_of, shape_of}
use Rattle.dv_store.specs.World.{World, is_id, is_there, named_in}
use Rattle.dv_cascade.specs.declared.cascading.Cascading.TheVariants as cascading
use Rattle.dv_cascade.specs.declared.lookup.LookupKey.{LookupKey}
use Rattle.dv_cascade.specs.Chains.{is_among, AreExactly}
use Rattle.dv_cascade.specs.Links.{allows, relationship_at, Refers}
use Rattle.dv_cascade.specs.Removal.{empties_lookups, is_restrict, lookup_cmp, Blocks, IsCleared, IsFirst}
use Rattle.dv_cascade.specs.Sound.{IsSoundWorld}
use Rattle.dv_cascade.proofs.Among.{itself, or-left, or-right, or-split, row_is}
use Rattle.dv_cascade.specs.contracts.lookup.LookupKeyOrd.TheImpl.Laws.{total-law}
use Rattle.dv_cascade.proofs.Leading.{at_number}
use Rattle.dv_cascade.proofs.Least.{is-closed}
use Rattle.dv_message.specs.Checked.{AllPass}
use Rattle.dv_message.specs.Scenes.{Setting, Targeted}
use Rattle.dv_write.specs.declared.change.Change.{Change}
use Rattle.dv_write.specs.declared.change.Edit.TheVariants.{Remove, Set}
use Rattle.dv_write.specs.Closures.{key_of, IsClosure}
use Rattle.dv_write.specs.Deleting.{deletion_of, edit_by, emptied, is_hit, lookups_of, restrict_fault, AreDeletions, AreEmptied, BlockSays}
use Rattle.dv_write.specs.Effects.{applied, touched}
use Rattle.dv_write.specs.Losing.{is_loser, AreOrdered}
use Rattle.dv_write.proofs.Behind.{lookup_behind, loses_sound, number_is}
use Rattle.dv_write.proofs.Changing.{applied_blank, applied_kept, applied_there, Blanks, BlanksBy, IsMild, IsMildEdit, SparesBy}
use Rattle.dv_write.proofs.Reowned.{five}
use Rattle.dv_write.proofs.Shapes.{applied_shape}

lookup-itself : (key : LookupKey) → eq_by_cmp lookup_cmp key key ≡ true
lookup-itself key = ap is_eq (tied_itself total-law key)

then-Equal : (r s : Ordering) → ordering_then r s ≡ Equal → (r ≡ Equal) × (s ≡ Equal)
then-Equal Less s e = absurd (true≢false (ap is_eq (sym e)))
then-Equal Equal s e = (refl, e)
then-Equal Greater s e = absurd (true≢false (ap is_eq (sym e)))

lookup-is : (a b : LookupKey) → eq_by_cmp lookup_cmp a b ≡ true → a ≡ b
lookup-is a b e =
    let p = then-Equal _ _ ((Equal-is (lookup_cmp a b)).0 e) in
    let r = exact_row a.row b.row p.0 in
    let i = exact_unsigned a.column b.column p.1 in
    λ j. record { row = r j; column = i j }

-- the row of a lookup loses one
has_loser : (lookups : List LookupKey) (lookup : LookupKey) → IsTrue (list_any (eq_by_cmp lookup_cmp lookup) lookups) → IsTrue (is_loser lookups lookup.row)
has_loser [] lookup h = absurd (true≢false (sym h))
has_loser (l ∷ ls) lookup h = of (or-split (eq_by_cmp lookup_cmp lookup l) (list_any (eq_by_cmp lookup_cmp lookup) ls) h) (has_loser ls lookup)
  where
    of : IsTrue (eq_by_cmp lookup_cmp lookup l) ⊎ IsTrue (list_any (eq_by_cmp lookup_cmp lookup) ls) → (IsTrue (list_any (eq_by_cmp lookup_cmp lookup) ls) → IsTrue (is_loser ls lookup.row)) → IsTrue (is_loser (l ∷ ls) lookup.row)
    of (inl is) later = or-left (is_row lookup.row l.row) (is_loser ls lookup.row) (ap (λ x. is_row lookup.row x.row) (sym (lookup-is lookup l is)) ∙ itself lookup.row)
    of (inr there) later = or-right (is_row lookup.row l.row) (is_loser ls lookup.row) (later there)

-- a row that loses one is that of a lookup
loser_is : (lookups : List LookupKey) (key : RowKey) → IsTrue (is_loser lookups key) → (lookup : LookupKey) × IsTrue (list_any (eq_by_cmp lookup_cmp lookup) lookups) × (key ≡ lookup.row)
loser_is [] key h = absurd (true≢false (sym h))
loser_is (l ∷ ls) key h = of (or-split (is_row key l.row) (is_loser ls key) h) (loser_is ls key)
  where
    of : IsTrue (is_row key l.row) ⊎ IsTrue (is_loser ls key) → (IsTrue (is_loser ls key) → (lookup : LookupKey) × IsTrue (list_any (eq_by_cmp lookup_cmp lookup) ls) × (key ≡ lookup.row))
        → (lookup : LookupKey) × IsTrue (list_any (eq_by_cmp lookup_cmp lookup) (l ∷ ls)) × (key ≡ lookup.row)
    of (inl is) later = (l, or-left (eq_by_cmp lookup_cmp l l) (list_any (eq_by_cmp lookup_cmp l) ls) (lookup-itself l), row_is key l.row is)
    of (inr there) later = let found = later there in (found.0, or-right (eq_by_cmp lookup_cmp found.0 l) (list_any (eq_by_cmp lookup_cmp found.0) ls) found.1, found.2)

-- the set of a deletion and the lookups that it empties are in order, and of different rows
pub are_ordered : (t : Targeted) (set : List RowKey) (lookups : List LookupKey) → IsClosure t cascading.Delete set → AreEmptied t set lookups → AreOrdered set lookups
are_ordered t set lookups closure lost = record { by_row = closure.ascending; by_lookup = lost.ascending; outside = outside }
  where
    outside : (key : RowKey) → IsTrue (is_among set key) → IsTrue (is_loser lookups key) → ⊥
    outside key inside loses =
        let found = loser_is lookups key loses in
        let cleared = (lost.exactly found.0).0 found.1 in
        true≢false (sym inside ∙ ap (is_among set) found.2 ∙ cleared.by.into.is.outside)

module _ (s : Setting) (set : List RowKey) (lookups : List LookupKey) where
  mild_touched : AllByRecursion IsMild (touched s)
  mild_touched = (inl (omega arith), (inl (omega arith), tt))

  mild_emptied : (some : List LookupKey) → AllByRecursion IsMild (map emptied some ++ touched s)
  mild_emptied [] = mild_touched
  mild_emptied (l ∷ ls) = (inr refl, mild_emptied ls)

  mild : (key : RowKey) → IsMildEdit (edit_by s set lookups key)
  unfolding edit_by
  mild key = of (is_among set key)
    where
      of : (b : Bool) → IsMildEdit (cond b Remove (Set (map emptied (lookups_of lookups key) ++ touched s)))
      of true = tt
      of false = mild_emptied (lookups_of lookups key)

  all_mild : (keys : List RowKey) → AllByRecursion (λ (c : Change). IsMildEdit c.edit) (map (deletion_of s set lookups) keys)
  all_mild [] = tt
  all_mild (k ∷ ks) = (mild k, all_mild ks)

  spares : (key k : RowKey) → is_among set key ≡ false → SparesBy key k (edit_by s set lookups k)
  unfolding edit_by
  spares key k outside = of (is_among set k) refl
    where
      apart : (b : Bool) → is_row key k ≡ b → is_among set k ≡ true → is_row key k ≡ false
      apart true same inside = absurd (true≢false (sym inside ∙ ap (is_among set) (sym (row_is key k same)) ∙ outside))
      apart false same inside = same

      of : (b : Bool) → is_among set k ≡ b → SparesBy key k (cond b Remove (Set (map emptied (lookups_of lookups k) ++ touched s)))
      of true inside = apart (is_row key k) refl inside
      of false not = tt

  all_spare : (key : RowKey) → is_among set key ≡ false → (keys : List RowKey) → AllByRecursion (λ (c : Change). SparesBy key c.key c.edit) (map (deletion_of s set lookups) keys)
  all_spare key outside [] = tt
  all_spare key outside (k ∷ ks) = (spares key k outside, all_spare key outside ks)

  -- a row that goes names nothing more
  blanks_gone : (key : RowKey) (p : ℕ) → is_among set key ≡ true → BlanksBy p (edit_by s set lookups key)
  unfolding edit_by
  blanks_gone key p inside = subst (λ b. BlanksBy p (cond b Remove (Set (map emptied (lookups_of lookups key) ++ touched s)))) (sym inside) tt

  blanks_of : (lookup : LookupKey) (some : List LookupKey) → IsTrue (list_any (eq_by_cmp lookup_cmp lookup) some) → Blanks (place_of lookup.column) (map emptied (lookups_of some lookup.row) ++ touched s)
  blanks_of lookup [] h = absurd (true≢false (sym h))
  blanks_of lookup (l ∷ ls) h = of (is_row lookup.row l.row) refl (or-split (eq_by_cmp lookup_cmp lookup l) (list_any (eq_by_cmp lookup_cmp lookup) ls) h) (blanks_of lookup ls)
    where
      of : (b : Bool) → is_row lookup.row l.row ≡ b → IsTrue (eq_by_cmp lookup_cmp lookup l) ⊎ IsTrue (list_any (eq_by_cmp lookup_cmp lookup) ls)
          → (IsTrue (list_any (eq_by_cmp lookup_cmp lookup) ls) → Blanks (place_of lookup.column) (map emptied (lookups_of ls lookup.row) ++ touched s))
          → Blanks (place_of lookup.column) (map emptied (cond b (l ∷ lookups_of ls lookup.row) (lookups_of ls lookup.row)) ++ touched s)
      of true own (inl is) later = inl (ap (λ x. place_of x.column) (sym (lookup-is lookup l is)), refl)
      of true own (inr there) later = inr (later there)
      of false not (inl is) later = absurd (true≢false (sym (ap (λ x. is_row lookup.row x.row) (sym (lookup-is lookup l is)) ∙ itself lookup.row) ∙ not))
      of false not (inr there) later = later there

  -- a row outside that loses a lookup names nothing more by it
  blanks_lost : (lookup : LookupKey) → is_among set lookup.row ≡ false → IsTrue (list_any (eq_by_cmp lookup_cmp lookup) lookups) → BlanksBy (place_of lookup.column) (edit_by s set lookups lookup.row)
  unfolding edit_by
  blanks_lost lookup outside h = subst (λ b. BlanksBy (place_of lookup.column) (cond b Remove (Set (map emptied (lookups_of lookups lookup.row) ++ touched s)))) (sym outside) (blanks_of lookup lookups h)

-- where nothing blocks a removal no relationship does
not_blocked : (t : Targeted) (set : List RowKey) → BlockSays t set None → (number : ℕ) → Blocks t.world t.setting.definition set number → ⊥
unfolding BlockSays
not_blocked t set free = of free.0 free.1.0 free.1.1
  where
    told : (d : Definition) (number : ℕ) → Blocks t.world d set number → None ≡ restrict_fault d (Some number) → ⊥
    told d number blocks said =
        let at = at_number t.world d cascading.Delete (key_of t) number blocks.relationship blocks.there in
        true≢false (sym (ap is_some (said ∙ ap (λ o. option_map {U = Refusal} (λ r. answer.Restricted r.name) o) at.1)))

    of : (first : Option ℕ) → IsFirst (Blocks t.world t.setting.definition set) first → None ≡ restrict_fault t.setting.definition first → (number : ℕ) → Blocks t.world t.setting.definition set number → ⊥
    of None is said number blocks = is number blocks
    of (Some least) is said number blocks = told t.setting.definition least is.is said

-- what the walk over that one check says
pub unblocked : (t : Targeted) (set : List RowKey) → AllPass (BlockSays t) (set ∷ []) → BlockSays t set None
unfolding AllPass
unblocked t set h = h.0

cascades : (w : World) (cascade : kind.Cascade) (parent child : RowKey) → cascade ≡ by_kind.Cascade → allows w cascade parent child ≡ true
unfolding allows
cascades w cascade parent child e = ap (λ c. allows w c parent child) e

module _ (t : Targeted) (set : List RowKey) (lookups : List LookupKey) (keys : List RowKey) (sound : IsSoundWorld t.setting.definition t.world) (closure : IsClosure t cascading.Delete set) (free : BlockSays t set None)
    (cleared : AreEmptied t set lookups) (hits : AreExactly row_cmp (λ key. IsTrue (is_hit set lookups key)) keys) where
  abbrev w : World
  w = t.world

  abbrev d : Definition
  d = t.setting.definition

  abbrev new : World
  new = applied (map (deletion_of t.setting set lookups) keys) w

  behind : (k : ℕ) (r : Relationship) → slice_get (relationships_of d) k ≡ Some r → (child : RowKey) → child.table ≡ r.child → version_place (is_owned w.shape child.table) < place_of r.column
  behind k r at child table = subst (λ t. version_place (is_owned t child.table) < place_of r.column) (sym sound.shape) (subst (λ n. version_place (is_owned (shape_of d) n) < place_of r.column) (sym table) (lookup_behind d sound.definition k r at))

  blank : (k : ℕ) (r : Relationship) → slice_get (relationships_of d) k ≡ Some r → (child : RowKey) → child.table ≡ r.child → BlanksBy (place_of r.column) (edit_by t.setting set lookups child) → IsTrue (is_hit set lookups child)
      → (id : Id) → named_in (rows.get new.rows child) (place_of r.column) ≡ Some id → ⊥
  blank k r at child table blanks hit id is =
      let far = behind k r at child table in
      true≢false (sym (ap is_some (sym (applied_blank w.shape child (place_of r.column) (five (is_owned w.shape child.table) (place_of r.column) far) far (edit_by t.setting set lookups) keys w refl (mild t.setting set lookups) blanks ((hits.exactly child).1 hit)) ∙ is)))

  -- a row of the set is named by rows of the set alone, or loses the lookup, or blocks
  held : (k : ℕ) (r : Relationship) → slice_get (relationships_of d) k ≡ Some r → (child parent : RowKey) → Refers w r child parent → is_among set parent ≡ true → is_among set child ≡ false
      → (id : Id) → named_in (rows.get new.rows child) (place_of r.column) ≡ Some id → ⊥
  held k r at child parent refers inside outside id is = of r.delete refl
    where
      there : relationship_at d k ≡ Some r
      there = number_is d sound.definition k r at

      empties : empties_lookups r.delete ≡ true → ⊥
      empties e =
          let lookup : LookupKey = record { row = child; column = r.column } in
          let is-cleared : IsCleared w d set lookup = record { number = k; relationship = r; there = there; by = record { empties = e; into = record { column = refl; parent = parent; inside = inside; is = record { refers = refers; outside = outside } } } } in
          let among = (cleared.exactly lookup).1 is-cleared in
          blank k r at child refers.child_table (blanks_lost t.setting set lookups lookup outside among) (or-right (is_among set child) (is_loser lookups child) (has_loser lookups lookup among)) id is

      follows : allows w r.delete parent child ≡ true → ⊥
      follows e =
          let reached = is-closed w d cascading.Delete (key_of t) parent child ((closure.exactly parent).0 inside) (record { number = k; relationship = r; there = there; by = record { refers = refers; allowed = e } }) in
          true≢false (sym ((closure.exactly child).1 reached) ∙ outside)

      blocks : is_restrict r.delete ≡ true → ⊥
      blocks e = not_blocked t set free k (record { relationship = r; there = there; by = record { restricts = e; referred = record { parent = parent; inside = inside; has = record { child = child; is = record { refers = refers; outside = outside } } } } })

      of : (c : kind.Cascade) → r.delete ≡ c → ⊥
      of by_kind.NoCascade e = empties (ap empties_lookups e)
      of by_kind.Cascade e = follows (cascades w r.delete parent child e)
      of by_kind.Active e = empties (ap empties_lookups e)
      of by_kind.UserOwned e = empties (ap empties_lookups e)
      of by_kind.RemoveLink e = empties (ap empties_lookups e)
      of by_kind.Restrict e = blocks (ap is_restrict e)

  kept : (k : ℕ) (r : Relationship) → slice_get (relationships_of d) k ≡ Some r → (child : RowKey) → child.table ≡ r.child → (id : Id) → named_in (rows.get new.rows child) (place_of r.column) ≡ Some id → named_in (rows.get w.rows child) (place_of r.column) ≡ Some id
  kept k r at child table id is =
      let far = behind k r at child table in
      applied_kept w.shape child (place_of r.column) (five (is_owned w.shape child.table) (place_of r.column) far) far (map (deletion_of t.setting set lookups) keys) w refl (all_mild t.setting set lookups keys) id is

  parents : (k : ℕ) (r : Relationship) → slice_get (relationships_of d) k ≡ Some r → (child : RowKey) → child.table ≡ r.child → (id : Id) → named_in (rows.get new.rows child) (place_of r.column) ≡ Some id → named_in (rows.get w.rows child) (place_of r.column) ≡ Some id
      → is_there w.rows (row_key r.parent id) ≡ true → is_there new.rows (row_key r.parent id) ≡ true
  parents k r at child table id is was there = of (is_among set parent) refl
    where
      parent : RowKey
      parent = row_key r.parent id

      refers : Refers w r child parent
      refers = record { child_table = table; parent_table = refl; named = ap (is_id id) was ∙ eq-eqb id.0 id.0 refl }

      by_child : (b : Bool) → is_among set child ≡ b → is_among set parent ≡ true → ⊥
      by_child true gone inside = blank k r at child table (blanks_gone t.setting set lookups child (place_of r.column) gone) (or-left (is_among set child) (is_loser lookups child) gone) id is
      by_child false outside inside = held k r at child parent refers inside outside id is

      of : (b : Bool) → is_among set parent ≡ b → is_there new.rows parent ≡ true
      of true inside = absurd (by_child (is_among set child) refl inside)
      of false outside = applied_there parent (map (deletion_of t.setting set lookups) keys) w (all_spare t.setting set lookups parent outside keys) there

  links_stay : IsSoundWorld d new
  links_stay = loses_sound d w new sound (record { shape = applied_shape (map (deletion_of t.setting set lookups) keys) w; kept = kept; parents = parents })

-- a removal that nothing blocks leaves links sound
pub removed_sound : (t : Targeted) (set : List RowKey) (changes : List Change) (new : World) → IsSoundWorld t.setting.definition t.world → IsClosure t cascading.Delete set → BlockSays t set None → AreDeletions t set changes → new ≡ applied changes t.world
    → IsSoundWorld t.setting.definition new
removed_sound t set changes after sound closure free told is =
    subst (λ w. IsSoundWorld t.setting.definition w) (sym (is ∙ ap (λ cs. applied cs t.world) told.4)) (links_stay t set told.0 told.1 sound closure free told.2 told.3)
