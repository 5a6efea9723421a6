-- Lines of units: a root's line is itself, and in a tree a line leads to everything above.
use Rattle.std.proofs.Common.{⊎_elim, ◌≡◌, refl, sym, ap, subst, ◌∙◌, List, [], ◌∷◌, Bool, true, false, ℕ, zero, suc, ◌+◌, ◌-◌, ◌<◌, ◌≤◌, length, arith, IsSome}
use mathlib.Core.Bool.{true≢false}
use Rattle.std.proofs.lemmas.Bool.{eqb-true, eq-eqb, cases_lt}
use Rattle.std.proofs.lemmas.Cmp.{nat_eq_equiv, on_equiv}
use Rattle.std.proofs.lemmas.Map.Steps.{length-le_from_keys}
use Rattle.std.specs.Prelude.{◌==◌, ◌||◌, Some, None, nat_eq}
use Rattle.std.specs.Option.{unwrap_or}
use Rattle.std.specs.Ordering.{on}
use Rattle.std.specs.List.{list_any, IsDistinct, AllByRecursion}
use Rattle.dv_value.specs.declared.id.Id.{Id}
use Rattle.dv_units.specs.Chart.{at}
use Rattle.dv_units.specs.Tree.{parent_of, up, line, IsTree}

-- two ids of one number are one
pub id-is : (a b : Id) → a.0 ≡ b.0 → a ≡ b
id-is a b h = ap (λ (n : ℕ). record { 0 = n }) h

module _ (units : List (Id × Id)) where
  -- a unit that is its own parent has a line of itself
  pub line-root : (above id : Id) → parent_of units id ≡ id → (above.0 == id.0) ≡ false → (n : ℕ) → list_any (λ x. above.0 == x.0) (line n units id) ≡ false
  unfolding line
  line-root above id own other zero = refl
  line-root above id own other (suc n) = rw (own, other) (line-root above id own other n)

  -- one level of a line
  pub line-more : (above id parent : Id) (m n : ℕ) → m ≡ suc n → (above.0 == id.0) ≡ false → parent ≡ parent_of units id → list_any (λ x. above.0 == x.0) (line m units id) ≡ list_any (λ x. above.0 == x.0) (line n units parent)
  unfolding line
  line-more above id parent m n is other up = rw (is, other, up) refl

  pub line-end : (above id : Id) (n : ℕ) → n ≡ 0 → list_any (λ x. above.0 == x.0) (line n units id) ≡ false
  unfolding line
  line-end above id n is = rw is refl

  pub line-here : (above id : Id) (m n : ℕ) → m ≡ suc n → (above.0 == id.0) ≡ true → list_any (λ x. above.0 == x.0) (line m units id) ≡ true
  unfolding line
  line-here above id m n is same = rw (is, same) refl

  -- what is in a line is so many levels up
  pub levels-line : (above id : Id) (n : ℕ) → list_any (λ x. above.0 == x.0) (line n units id) ≡ true → (levels : ℕ) × (up levels units id ≡ above)
  unfolding line up
  levels-line above id zero h = absurd (true≢false (sym h))
  levels-line above id (suc n) h =
      elim (above.0 == id.0) as (λ b. (above.0 == id.0) ≡ b → (b || list_any (λ x. above.0 == x.0) (line n units (parent_of units id))) ≡ true → (levels : ℕ) × (up levels units id ≡ above)) [
        | true ↦ λ same h. (0, sym (id-is above id (eqb-true above.0 id.0 same)))
        | false ↦ λ same h. let rest = levels-line above (parent_of units id) n h in (suc rest.0, rest.1)
      ] refl h

  -- what is so many levels up is in the line
  pub line-levels : (above id : Id) (n k : ℕ) → k < n → up k units id ≡ above → list_any (λ x. above.0 == x.0) (line n units id) ≡ true
  unfolding line up
  line-levels above id zero k within is = absurd (omega arith)
  line-levels above id (suc n) zero within is = line-here above id (suc n) n refl (eq-eqb above.0 id.0 (ap (λ (x : Id). x.0) (sym is)))
  line-levels above id (suc n) (suc k) within is =
      elim (above.0 == id.0) as (λ b. (b || list_any (λ x. above.0 == x.0) (line n units (parent_of units id))) ≡ true) [
        | true ↦ refl
        | false ↦ line-levels above (parent_of units id) n k (omega arith) is
      ]

  -- levels over levels
  up-plus : (m j : ℕ) (id : Id) → up (m + j) units id ≡ up j units (up m units id)
  unfolding up
  up-plus zero j id = let e : 0 + j ≡ j = omega arith in rw e refl
  up-plus (suc m) j id = let e : suc m + j ≡ suc (m + j) = omega arith in rw e (up-plus m j (parent_of units id))

  up-root : (root : Id) → parent_of units root ≡ root → (n : ℕ) → up n units root ≡ root
  unfolding up
  up-root root own zero = refl
  up-root root own (suc n) = rw own (up-root root own n)

  -- ids are told apart by their numbers
  abbrev same : Id → Id → Bool
  same = on (λ (id : Id). id.0) nat_eq

  apart : (id : Id) (ids : List Id) → list_any (same id) ids ≡ false → AllByRecursion (λ y. same id y ≡ false) ids
  apart id [] none = tt
  apart id (x ∷ xs) none =
      elim (same id x) as (λ b. same id x ≡ b → (b || list_any (same id) xs) ≡ false → AllByRecursion (λ y. same id y ≡ false) (x ∷ xs)) [
        | true ↦ λ is none. absurd (true≢false none)
        | false ↦ λ is none. (is, apart id xs none)
      ] refl none

  -- a line without repeats goes on from each of its units without repeats
  rest-of : (u p : Id) (m : ℕ) → list_any (same u) (line (suc m) units p) ≡ true → IsDistinct same (line (suc m) units p) → (k : ℕ) × (up k units u ≡ up m units p) × IsDistinct same (line (suc k) units u)
  unfolding line up IsDistinct
  rest-of u p zero found distinct =
      elim (same u p) as (λ b. same u p ≡ b → (b || false) ≡ true → (k : ℕ) × (up k units u ≡ p) × IsDistinct same (line (suc k) units u)) [
        | true ↦ λ is found. (0, id-is u p (eqb-true u.0 p.0 is), (tt, tt))
        | false ↦ λ is found. absurd (true≢false (sym found))
      ] refl found
  rest-of u p (suc m) found distinct =
      elim (same u p) as (λ b. same u p ≡ b → (b || list_any (same u) (line (suc m) units (parent_of units p))) ≡ true → (k : ℕ) × (up k units u ≡ up m units (parent_of units p)) × IsDistinct same (line (suc k) units u)) [
        | true ↦ λ is found. let e = id-is u p (eqb-true u.0 p.0 is) in (suc m, ap (λ (x : Id). up m units (parent_of units x)) e, subst (λ (x : Id). IsDistinct same (line (suc (suc m)) units x)) (sym e) distinct)
        | false ↦ λ is found. rest-of u (parent_of units p) m found distinct.1
      ] refl found

  -- some way to a place up has no repeats
  short : (root : Id) (n : ℕ) (u : Id) → up n units u ≡ root → (m : ℕ) × (up m units u ≡ root) × IsDistinct same (line (suc m) units u)
  unfolding line up IsDistinct
  short root zero u leads = (0, leads, (tt, tt))
  short root (suc n) u leads =
      let way = short root n (parent_of units u) leads in
      elim (list_any (same u) (line (suc way.0) units (parent_of units u))) as (λ b. list_any (same u) (line (suc way.0) units (parent_of units u)) ≡ b → (m : ℕ) × (up m units u ≡ root) × IsDistinct same (line (suc m) units u)) [
        | true ↦ λ again. let rest = rest-of u (parent_of units u) way.0 again way.2 in (rest.0, rest.1 ∙ way.1, rest.2)
        | false ↦ λ new. (suc way.0, way.1, (apart u (line (suc way.0) units (parent_of units u)) new, way.2))
      ] refl

  parent-there : ((unit parent : Id) → at units unit ≡ Some parent → IsSome (at units parent)) → (u : Id) → IsSome (at units u) → IsSome (at units (parent_of units u))
  parent-there parents u there =
      elim (at units u) as (λ o. at units u ≡ o → IsSome o → IsSome (at units (unwrap_or o u))) [
        | None ↦ λ is there. absurd (true≢false (sym there))
        | Some p ↦ λ is there. parents u p is
      ] refl there

  -- the units of a line are there
  there-line : ((unit parent : Id) → at units unit ≡ Some parent → IsSome (at units parent)) → (n : ℕ) (u : Id) → IsSome (at units u) → (q : Id) → list_any (same q) (line n units u) ≡ true → IsSome (at units q)
  unfolding line
  there-line parents zero u there q found = absurd (true≢false (sym found))
  there-line parents (suc n) u there q found =
      elim (same q u) as (λ b. same q u ≡ b → (b || list_any (same q) (line n units (parent_of units u))) ≡ true → IsSome (at units q)) [
        | true ↦ λ is found. subst (λ (x : Id). IsSome (at units x)) (sym (id-is q u (eqb-true q.0 u.0 is))) there
        | false ↦ λ is found. there-line parents n (parent_of units u) (parent-there parents u there) q found
      ] refl found

  length-line : (n : ℕ) (u : Id) → length (line n units u) ≡ n
  unfolding line
  length-line zero u = refl
  length-line (suc n) u = ap suc (length-line n (parent_of units u))

  -- in a tree everything above is in the line over as many levels as there are units
  pub line-whole : IsTree units → (u above : Id) → IsSome (at units u) → (n : ℕ) → up n units u ≡ above → list_any (λ x. above.0 == x.0) (line (length units) units u) ≡ true
  line-whole tree u above there n leads =
      let to_root = tree.leads u there in
      let way = short tree.root to_root.0 u to_root.1 in
      let fits : length (line (suc way.0) units u) ≤ length units = length-le_from_keys (on_equiv (λ (id : Id). id.0) nat_eq_equiv) (line (suc way.0) units u) units way.2 (there-line tree.parents (suc way.0) u there) in
      let long : length (line (suc way.0) units u) ≡ suc way.0 = length-line (suc way.0) u in
      let own : parent_of units tree.root ≡ tree.root = rw tree.own refl in
      ⊎_elim
      (λ (h : way.0 < n).
      let e : way.0 + (n - way.0) ≡ n = omega arith in
      let top : above ≡ tree.root = sym leads ∙ ap (λ k. up k units u) (sym e) ∙ up-plus way.0 (n - way.0) u ∙ ap (λ x. up (n - way.0) units x) way.1 ∙ up-root tree.root own (n - way.0) in
      line-levels above u (length units) way.0 (omega (arith, fits, long)) (way.1 ∙ sym top))
      (λ (h : n ≤ way.0). line-levels above u (length units) n (omega (arith, fits, long)) leads)
      (cases_lt way.0 n)
