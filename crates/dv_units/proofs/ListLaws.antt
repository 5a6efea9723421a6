-- Lists of the chart: what is found first, and a pair taken out again.
use Rattle.std.proofs.Common.{◌≡◌, refl, sym, ap, ◌∙◌, List, [], ◌∷◌, Bool, true, false, cond, arith, suc, ◌<◌, length}
use Rattle.std.proofs.lemmas.Bool.{and_parts, eqb-true}
use Rattle.std.proofs.lemmas.Grind.{common_steps}
use mathlib.Core.Bool.{true≢false}
use Rattle.std.specs.Prelude.{Option, None, Some, ℕ, ◌==◌, find, MatchOption, option_map, ◌||◌, ◌&&◌, slice_get, filter}
use Rattle.std.specs.List.{list_any}
use Rattle.std.specs.declared.cmp.Ordering.{Ordering}
use Rattle.std.specs.declared.cmp.Ordering.TheVariants.{Less, Equal, Greater}
use Rattle.std.specs.declared.ops.Bound.TheVariants.{Unbounded}
use Rattle.std.specs.Cmp.{tied_then}
use Rattle.std.specs.Ordering.{nat_cmp, is_eq, is_lt, match_ordering, ordering_then}
use Rattle.std.specs.Map.{lookup}
use Rattle.std.specs.Set.{remove_key}
use Rattle.std.specs.BTreeMap.{is_at}
use Rattle.std.specs.BTreeMap.Range.{range_contains, entries_between}
use Rattle.std.specs.BTreeSet.{insert_key}
use Rattle.dv_value.specs.declared.id.Id.{Id}
use Rattle.dv_units.specs.Chart.{at, has, pair_cmp, without_pair}
use Rattle.dv_units.specs.Index.{AreTurned}
use Rattle.dv_units.proofs.TreeLaws.{id-is}
use Rattle.dv_units.specs.Cursors.{past, next_entry, is_past, is_past_pair, next_pair}

-- the first that passes is the head of those that pass
pub find-filter : {X : Type 0} (p q : X → Bool) → ((x : X) → p x ≡ q x) → (xs : List X) → slice_get (filter p xs) 0 ≡ find q xs
find-filter p q same [] = refl
find-filter p q same (x ∷ xs) = rw (same x)
    (elim (q x) as (λ b. slice_get (cond b (x ∷ filter p xs) (filter p xs)) 0 ≡ cond b (Some x) (find q xs)) [
      | true ↦ refl
      | false ↦ find-filter p q same xs
    ])

-- a pair that was added and taken out again
pub remove_key-insert_key : {K : Type 0} (R : K → K → Ordering) (k : K) → R k k ≡ Equal → (ks : List K) → list_any (is_at (R k)) ks ≡ false → remove_key (is_at (R k)) (insert_key R ks k) ≡ ks
remove_key-insert_key R k own [] none = rw own refl
remove_key-insert_key R k own (x ∷ xs) none =
    elim (R k x) as (λ r. R k x ≡ r → (is_eq r || list_any (is_at (R k)) xs) ≡ false → remove_key (is_at (R k)) (match_ordering r (k ∷ x ∷ xs) (x ∷ xs) (x ∷ insert_key R xs k)) ≡ x ∷ xs) [
      | Less ↦ λ is none. rw own refl
      | Equal ↦ λ is none. absurd (true≢false none)
      | Greater ↦ λ is none. rw is (ap (λ rest. x ∷ rest) (remove_key-insert_key R k own xs none))
    ] refl none

past-is : (after : Option Id) (id : Id) → range_contains (λ a b. nat_cmp a.0 b.0) (past after) Unbounded id ≡ is_past after id
past-is None id = refl
past-is (Some after) id = grind (arith, common_steps)

-- what an iterator over a range takes first
pub next_entry-taken : {V B : Type 0} (after : Option Id) (es shown rest : List (Id × V)) (read : B → Id × V) (taken : Option B) → shown ≡ entries_between (λ a b. nat_cmp a.0 b.0) (past after) Unbounded es
    → MatchOption taken ((shown ≡ []) × (rest ≡ [])) (λ x. shown ≡ read x ∷ rest) → option_map read taken ≡ next_entry after es
next_entry-taken {V} after es shown rest read None is gives = sym (ap (λ l. slice_get l 0) gives.0) ∙ ap (λ l. slice_get l 0) is ∙ find-filter (λ (e : Id × V). range_contains (λ a b. nat_cmp a.0 b.0) (past after) Unbounded e.0) (λ e. is_past after e.0) (λ e. past-is after e.0) es
next_entry-taken {V} after es shown rest read (Some x) is gives = sym (ap (λ l. slice_get l 0) gives) ∙ ap (λ l. slice_get l 0) is ∙ find-filter (λ (e : Id × V). range_contains (λ a b. nat_cmp a.0 b.0) (past after) Unbounded e.0) (λ e. is_past after e.0) (λ e. past-is after e.0) es

-- numbers are equal where they compare so
pub same-is : (a b : ℕ) → is_eq (nat_cmp a b) ≡ (a == b)
same-is a b = grind (arith, common_steps)

pub at-is : {V : Type 0} (es : List (Id × V)) (q : Id) → lookup (is_at (λ (k : Id). nat_cmp q.0 k.0)) es ≡ at es q
at-is [] q = refl
at-is (e ∷ es) q = ap (λ b. cond b (Some e.1) (lookup (is_at (λ (k : Id). nat_cmp q.0 k.0)) es)) (same-is q.0 e.0.0) ∙ ap (λ o. cond (q.0 == e.0.0) (Some e.1) o) (at-is es q)

-- what a list keeps once a value was put, by the order's words
pub at-put : {V : Type 0} (id : Id) (value : V) (old new : List (Id × V)) → ((q : Id) → lookup (is_at (λ (k : Id). nat_cmp q.0 k.0)) new ≡ cond (is_eq (nat_cmp id.0 q.0)) (Some value) (lookup (is_at (λ (k : Id). nat_cmp q.0 k.0)) old))
    → (q : Id) → at new q ≡ cond (id.0 == q.0) (Some value) (at old q)
at-put id value old new gets q = sym (at-is new q) ∙ gets q ∙ rw (same-is id.0 q.0, at-is old q) refl

-- the same of a list of pairs
past_pair-is : (after : Option (Id × Id)) (pair : Id × Id) → range_contains pair_cmp (past after) Unbounded pair ≡ is_past_pair after pair
past_pair-is None pair = refl
past_pair-is (Some after) pair = and-true (is_lt (pair_cmp after pair))
  where
    and-true : (b : Bool) → (b && true) ≡ b
    and-true true = refl
    and-true false = refl

pub next_pair-taken : {B : Type 0} (after : Option (Id × Id)) (pairs shown rest : List (Id × Id)) (read : B → Id × Id) (taken : Option B) → shown ≡ filter (range_contains pair_cmp (past after) Unbounded) pairs
    → MatchOption taken ((shown ≡ []) × (rest ≡ [])) (λ x. shown ≡ read x ∷ rest) → option_map read taken ≡ next_pair after pairs
next_pair-taken {B} after pairs shown rest read taken is gives = first-taken taken gives ∙ ap (λ l. slice_get l 0) is ∙ find-filter (range_contains pair_cmp (past after) Unbounded) (is_past_pair after) (past_pair-is after) pairs
  where
    first-taken : (o : Option B) → MatchOption o ((shown ≡ []) × (rest ≡ [])) (λ x. shown ≡ read x ∷ rest) → option_map read o ≡ slice_get shown 0
    first-taken None g = sym (ap (λ l. slice_get l 0) g.0)
    first-taken (Some x) g = sym (ap (λ l. slice_get l 0) g)

-- ---- pairs
-- the order of two orders doesn't matter to equality
pub swapped : (r s : Ordering) → is_eq (ordering_then r s) ≡ is_eq (ordering_then s r)
swapped Less Less = refl
swapped Less Equal = refl
swapped Less Greater = refl
swapped Equal Less = refl
swapped Equal Equal = refl
swapped Equal Greater = refl
swapped Greater Less = refl
swapped Greater Equal = refl
swapped Greater Greater = refl

-- pairs that compare equal are one
pub pair-is : (a b x y : Id) → is_at (pair_cmp (a, b)) (x, y) ≡ true → (a ≡ x) × (b ≡ y)
pair-is a b x y h =
    let parts = and_parts (is_eq (nat_cmp a.0 x.0)) (is_eq (nat_cmp b.0 y.0)) (tied_then (nat_cmp a.0 x.0) (nat_cmp b.0 y.0) ∙ h) in
    (id-is a x (eqb-true a.0 x.0 (sym (same-is a.0 x.0) ∙ parts.0)), id-is b y (eqb-true b.0 y.0 (sym (same-is b.0 y.0) ∙ parts.1)))

-- two lists of pairs, the second turned, that are changed alike at one pair
pub turns : (b : Bool) (first second : Id) (old turned new new_turned : List (Id × Id)) → ((q : Id × Id) → has new q ≡ cond (is_at (pair_cmp (first, second)) q) b (has old q))
    → ((q : Id × Id) → has new_turned q ≡ cond (is_at (pair_cmp (second, first)) q) b (has turned q)) → AreTurned old turned → AreTurned new new_turned
turns b first second old turned new new_turned has_new has_turned same x y =
    has_turned (y, x) ∙ ap (λ (c : Bool). cond c b (has turned (y, x))) (swapped (nat_cmp second.0 y.0) (nat_cmp first.0 x.0))
    ∙ ap (λ (c : Bool). cond (is_at (pair_cmp (first, second)) (x, y)) b c) (same x y) ∙ sym (has_new (x, y))

-- a pair that was there is one less
pub fewer : (pair : Id × Id) (pairs : List (Id × Id)) → has pairs pair ≡ true → length (without_pair pairs pair) < length pairs
fewer pair [] there = absurd (true≢false (sym there))
fewer pair (x ∷ xs) there =
    elim (is_at (pair_cmp pair) x) as (λ b. (b || has xs pair) ≡ true → length (cond b xs (x ∷ without_pair xs pair)) < suc (length xs)) [
      | true ↦ λ _h. omega arith
      | false ↦ λ h. let less = fewer pair xs h in omega (arith, less)
    ] there
