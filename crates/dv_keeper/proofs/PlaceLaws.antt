-- The first of the places from an address on that isn't empty is that of the next cell.
use Rattle.std.proofs.Common.{◌≡◌, ℕ, List, [], ◌∷◌, Option, None, Some, Bool, true, false, cond, IsSome, is_some, Ordering, refl, sym, ap, ◌∙◌, subst}
use mathlib.Core.Bool.{true≢false}
use Rattle.std.specs.Prelude.{◌&&◌, ◌==◌, unwrap_or}
use Rattle.std.specs.Ordering.{nat_cmp, is_eq, is_lt, ordering_reverse}
use Rattle.std.specs.declared.cmp.Ordering.TheVariants.{Less, Equal, Greater}
use Rattle.std.specs.declared.ops.Bound.{Bound}
use Rattle.std.specs.declared.ops.Bound.TheVariants.{Unbounded}
use Rattle.std.specs.Cmp.Lexicographic.{slice_cmp, nat_list_cmp_total}
use Rattle.std.specs.Cmp.{tied_itself}
use Rattle.std.specs.List.{AllByRecursion}
use Rattle.std.specs.List.Sorted.{IsStrictlySortedBy}
use Rattle.std.specs.Map.{keys_of}
use Rattle.std.specs.BTreeMap.Range.{entries_between, is_from_start}
use Rattle.std.proofs.lemmas.Bool.{eqb-true}
use Rattle.std.proofs.lemmas.Cmp.{nat_cmp_total, nat_eq_equiv}
use Rattle.std.proofs.lemmas.Map.Lookups.{exact_bytes, exact_unsigned}
use Rattle.dv_keeper.specs.Cells.{Follows, IsNext, IsLeast}
use Rattle.dv_keeper.specs.Memory.{Places, address, first_full, held_in, key_in, or_first, place_at, start_after, value_in}

abbrev pub cmp : List ℕ → List ℕ → Ordering
cmp = slice_cmp nat_cmp

-- an address below all of these
abbrev Below : List ℕ → List (List ℕ) → Type 0
Below at others = AllByRecursion (λ other. cmp at other ≡ Less) others

-- what lies below all of these has no place among them, and neither has what lies below that
place_at-below : (q : List ℕ) (places : Places) → Below q (keys_of places) → place_at q places ≡ None
place_at-below q [] below = refl
place_at-below q (place ∷ more) below = rw below.0 (place_at-below q more below.1)

below_past : (q at : List ℕ) (others : List (List ℕ)) → cmp q at ≡ Less → Below at others → Below q others
below_past q at [] less below = tt
below_past q at (other ∷ more) less below = (nat_list_cmp_total.trans q at other less below.0, below_past q at more less below.1)

module _ (start : Bound (List ℕ)) where
  abbrev pub passes : List ℕ → Bool
  passes at = is_from_start cmp start at

  -- the first full place of those that pass
  pub record IsFirst (places : Places) (at value : List ℕ) : Type 0 where
    pub passed : passes at ≡ true
    pub there : value_in (place_at at places) ≡ Some value
    pub least : (q : List ℕ) → passes q ≡ true → cmp q at ≡ Less → value_in (place_at q places) ≡ None

  abbrev pub Found : Places → Option (List ℕ × List ℕ) → Type 0
  Found places None = (q : List ℕ) → passes q ≡ true → value_in (place_at q places) ≡ None
  Found places (Some e) = IsFirst places e.0 e.1

  -- an entry in front that isn't seen from an address that passes
  abbrev Hides : List ℕ × Option (List ℕ) → Type 0
  Hides place = (q : List ℕ) (more : Places) → passes q ≡ true → Below place.0 (keys_of more) → value_in (place_at q (place ∷ more)) ≡ value_in (place_at q more)

  hides_outside : (place : List ℕ × Option (List ℕ)) → passes place.0 ≡ false → Hides place
  hides_outside place out q more pass below = elim (cmp q place.0) as (λ r. cmp q place.0 ≡ r → value_in (cond (is_eq r) (Some place.1) (place_at q more)) ≡ value_in (place_at q more)) [
    | Less ↦ λ h. refl
    | Equal ↦ λ h. absurd (true≢false (sym pass ∙ ap passes (exact_bytes q place.0 h) ∙ out))
    | Greater ↦ λ h. refl
  ] refl

  hides_empty : (at : List ℕ) → Hides (at, None)
  hides_empty at q more pass below = elim (cmp q at) as (λ r. cmp q at ≡ r → value_in (cond (is_eq r) (Some None) (place_at q more)) ≡ value_in (place_at q more)) [
    | Less ↦ λ h. refl
    | Equal ↦ λ h. sym (ap value_in (ap (λ k. place_at k more) (exact_bytes q at h) ∙ place_at-below at more below))
    | Greater ↦ λ h. refl
  ] refl

  found_past : (place : List ℕ × Option (List ℕ)) (more : Places) (r : Option (List ℕ × List ℕ)) → Hides place → Below place.0 (keys_of more) → Found more r → Found (place ∷ more) r
  found_past place more None hides below none = λ q pass. hides q more pass below ∙ none q pass
  found_past place more (Some e) hides below first = record {
    passed = first.passed;
    there = hides e.0 more first.passed below ∙ first.there;
    least = λ q pass less. hides q more pass below ∙ first.least q pass less;
  }

  found_here : (at value : List ℕ) (more : Places) → passes at ≡ true → Below at (keys_of more) → IsFirst ((at, Some value) ∷ more) at value
  found_here at value more pass below = record {
    passed = pass;
    there = rw (tied_itself nat_list_cmp_total at) refl;
    least = λ q pass less. rw less (ap value_in (place_at-below q more (below_past q at (keys_of more) less below)));
  }

  found_or : (place : List ℕ × Option (List ℕ)) (more : Places) (r : Option (List ℕ × List ℕ)) → passes place.0 ≡ true → Below place.0 (keys_of more) → Found more r → Found (place ∷ more) (or_first place.0 place.1 r)
  found_or place more r pass below found = go place.1 found
    where
      go : (value : Option (List ℕ)) → Found more r → Found ((place.0, value) ∷ more) (or_first place.0 value r)
      go None found = found_past (place.0, None) more r (hides_empty place.0) below found
      go (Some value) found = found_here place.0 value more pass below

  pub first_full-Found : (places : Places) → IsStrictlySortedBy cmp (keys_of places) → Found places (first_full (entries_between cmp start Unbounded places))
  unfolding IsStrictlySortedBy
  first_full-Found [] s = λ q pass. refl
  first_full-Found (place ∷ more) s = elim (passes place.0) as (λ b. passes place.0 ≡ b → Found (place ∷ more) (first_full (cond (b && true) (place ∷ entries_between cmp start Unbounded more) (entries_between cmp start Unbounded more)))) [
    | true ↦ λ pass. found_or place more (first_full (entries_between cmp start Unbounded more)) pass s.0 (first_full-Found more s.1)
    | false ↦ λ out. found_past place more (first_full (entries_between cmp start Unbounded more)) (hides_outside place out) s.0 (first_full-Found more s.1)
  ] refl

-- addresses of one sheet are in the order of their keys
address_cmp : (sheet : ℕ) (k l : List ℕ) → cmp (address sheet k) (address sheet l) ≡ cmp k l
address_cmp sheet k l = rw (tied_itself nat_cmp_total sheet) refl

-- an address of the sheet passes exactly where its key follows
passes_by : (sheet : ℕ) (after : Option (List ℕ)) (k : List ℕ) → Follows after k → passes (start_after sheet after) (address sheet k) ≡ true
passes_by sheet None [] follows = rw (tied_itself nat_cmp_total sheet) refl
passes_by sheet None (b ∷ k) follows = rw (tied_itself nat_cmp_total sheet) refl
passes_by sheet (Some after) k follows = rw (address_cmp sheet after k, follows) refl

follows_by : (sheet : ℕ) (after : Option (List ℕ)) (k : List ℕ) → passes (start_after sheet after) (address sheet k) ≡ true → Follows after k
follows_by sheet None k pass = tt
follows_by sheet (Some after) k pass = less (cmp after k) (rw (← address_cmp sheet after k) pass)
  where
    less : (r : Ordering) → is_lt r ≡ true → r ≡ Less
    less Less h = refl
    less Equal h = absurd (true≢false (sym h))
    less Greater h = absurd (true≢false (sym h))

-- the key in an address, and which addresses have one
key_in-is : (sheet : ℕ) (at key : List ℕ) → key_in sheet at ≡ Some key → at ≡ address sheet key
key_in-is sheet [] key is = absurd (true≢false (sym (ap is_some is)))
key_in-is sheet (first ∷ rest) key is = elim (first == sheet) as (λ b. (first == sheet) ≡ b → cond b (Some rest) None ≡ Some key → first ∷ rest ≡ address sheet key) [
  | true ↦ λ h is. λ i. eqb-true first sheet h i ∷ unwrap_or (is i) key
  | false ↦ λ h is. absurd (true≢false (sym (ap is_some is)))
] refl is

key_in-address : (sheet : ℕ) (key : List ℕ) → IsSome (key_in sheet (address sheet key))
key_in-address sheet key = rw (nat_eq_equiv.refl sheet) refl

-- an address that passes and comes before one of the sheet is of the sheet
key_in-between : (sheet : ℕ) (after : Option (List ℕ)) (at k : List ℕ) → passes (start_after sheet after) at ≡ true → cmp at (address sheet k) ≡ Less → IsSome (key_in sheet at)
key_in-between sheet None [] k pass less = absurd (true≢false (sym pass))
key_in-between sheet (Some after) [] k pass less = absurd (true≢false (sym pass))
key_in-between sheet after (first ∷ key) k pass less = elim (nat_cmp first sheet) as (λ r. nat_cmp first sheet ≡ r → IsSome (key_in sheet (first ∷ key))) [
  | Less ↦ λ h. absurd (true≢false (sym pass ∙ below_out after (nat_cmp_total.antisymm sheet first ∙ ap ordering_reverse h)))
  | Equal ↦ λ h. rw (exact_unsigned first sheet h) (key_in-address sheet key)
  | Greater ↦ λ h. absurd (less_not_greater (sym less ∙ rw h refl))
] refl
  where
    below_out : (after : Option (List ℕ)) → nat_cmp sheet first ≡ Greater → passes (start_after sheet after) (first ∷ key) ≡ false
    below_out None h = rw h refl
    below_out (Some after) h = rw h refl

    less_not_greater : Less ≡ Greater → ⊥
    less_not_greater h = true≢false (ap is_lt h)

module _ (places : Places) (sheet : ℕ) (after : Option (List ℕ)) where
  -- the first full place is that of the next cell, where it is of the sheet
  next_first : (at value key : List ℕ) → IsFirst (start_after sheet after) places at value → at ≡ address sheet key → IsLeast (held_in places) sheet after (record { key = key; value = value })
  next_first at value key first is = record {
    follows = follows_by sheet after key (subst (λ a. passes (start_after sheet after) a ≡ true) is first.passed);
    there = subst (λ a. value_in (place_at a places) ≡ Some value) is first.there;
    least = λ k follows less. first.least (address sheet k) (passes_by sheet after k follows) (rw is (address_cmp sheet k key ∙ less));
  }

  -- and where it isn't, no cell of the sheet is next
  next_none : (at value : List ℕ) → IsFirst (start_after sheet after) places at value → key_in sheet at ≡ None → IsNext (held_in places) sheet after None
  next_none at value first is k follows =
      elim (cmp (address sheet k) at) as (λ r. cmp (address sheet k) at ≡ r → held_in places sheet k ≡ None) [
        | Less ↦ λ h. first.least (address sheet k) (passes_by sheet after k follows) h
        | Equal ↦ λ h. absurd (true≢false (sym (key_in-address sheet k) ∙ ap (λ a. is_some (key_in sheet a)) (exact_bytes (address sheet k) at h) ∙ ap is_some is))
        | Greater ↦ λ h. absurd (true≢false (sym (key_in-between sheet after at k first.passed (nat_list_cmp_total.antisymm at (address sheet k) ∙ ap ordering_reverse h)) ∙ ap is_some is))
      ] refl

  module _ (start : Bound (List ℕ)) (started : start ≡ start_after sheet after) (s : IsStrictlySortedBy cmp (keys_of places)) where
    found : (r : Option (List ℕ × List ℕ)) → r ≡ first_full (entries_between cmp start Unbounded places) → Found (start_after sheet after) places r
    found r is = rw (is, started) (first_full-Found (start_after sheet after) places s)

    pub IsNext-none : None ≡ first_full (entries_between cmp start Unbounded places) → IsNext (held_in places) sheet after None
    IsNext-none is k follows = found None is (address sheet k) (passes_by sheet after k follows)

    pub IsNext-past : (at value : List ℕ) → Some (at, value) ≡ first_full (entries_between cmp start Unbounded places) → None ≡ key_in sheet at → IsNext (held_in places) sheet after None
    IsNext-past at value is other = next_none at value (found (Some (at, value)) is) (sym other)

    pub IsNext-first : (at value key : List ℕ) → Some (at, value) ≡ first_full (entries_between cmp start Unbounded places) → Some key ≡ key_in sheet at → IsNext (held_in places) sheet after (Some (record { key = key; value = value }))
    IsNext-first at value key is own = next_first at value key (found (Some (at, value)) is) (key_in-is sheet at key (sym own))
