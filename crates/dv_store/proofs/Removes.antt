-- A row removed, with its grants.
use Rattle.std.proofs.Common.{◌≡◌, ℕ, ◌+◌, ◌-◌, ◌≤◌, ◌<◌, refl, sym, ap, subst, ◌∙◌, arith, is_some, IsSome, inl, inr}
use mathlib.Core.Bool.{true≢false}
use Rattle.std.proofs.lemmas.Bool.{cases_lt}
use Rattle.std.specs.Prelude.{Bool, true, false, cond, not, ◌&&◌, Option, None, Some}
use Rattle.std.specs.Ordering.{is_eq}
use Rattle.std.specs.Cmp.{Equal-is, tied_itself}
use Rattle.std.specs.FinMap as map
use Rattle.dv_value.specs.declared.id.Id.{Id}
use Rattle.dv_store.specs.declared.keys.GrantKey.{GrantKey}
use Rattle.dv_store.specs.declared.keys.RowKey.{RowKey}
use Rattle.dv_store.specs.Keys.{grant_cmp, is_row}
use Rattle.dv_store.specs.Exact.{exact_row, exact_grant}
use Rattle.dv_store.specs.Shapes.{is_tracked}
use Rattle.dv_store.specs.Cursors.{IsPast, IsLeast}
use Rattle.dv_store.specs.World.{World, Grants, row_removed, grant_set, without_grants, with_removal, most_rows, is_there, Stands, GrantsStand}
use Rattle.dv_store.specs.World as world
use Rattle.dv_store.specs.Kept.{Kept, with_grants_gone, with_row_gone, with_rows, adds_removal, IsWell}
use Rattle.dv_store.proofs.KeptLaws.{row_total, grant_total}
use Rattle.dv_store.proofs.Counts.{len_there, len_with, len_without}
use Rattle.dv_store.proofs.Puts.{gone_listed}

abbrev on : RowKey → Id → GrantKey
on row principal = record { row = row; principal = principal }

-- what stays of the grants
pub get-without_grants : (grants : Grants) (row : RowKey) (q : GrantKey) → map.get (without_grants grants row) q ≡ cond (not (is_row q.row row)) (map.get grants q) None
get-without_grants grants row q = map.get-retain_keys grants (λ grant. not (is_row grant.row row)) q (λ x tied. ap (λ grant. not (is_row grant.row row)) (sym (exact_grant q x tied)))

same_grants : (a b : Grants) → ((q : GrantKey) → map.get a q ≡ map.get b q) → a ≡ b
same_grants a b is = map.same_map grant_total exact_grant a b is

-- without a grant on the row first
drops : (b d : Bool) (x : Option (ℕ × ℕ)) → (d ≡ true → b ≡ true) → cond (not b) (cond d None x) None ≡ cond (not b) x None
drops true d x h = refl
drops false true x h = absurd (true≢false (sym (h refl)))
drops false false x h = refl

pub gone-grant_set : (w : World) (row : RowKey) (principal : Id) → with_grants_gone (grant_set w (on row principal) 0 0) row ≡ with_grants_gone w row
unfolding grant_set
gone-grant_set w row principal = ap (λ grants. record w { grants = grants }) (same_grants (without_grants (map.remove w.grants (on row principal)) row) (without_grants w.grants row) (λ q.
    get-without_grants (map.remove w.grants (on row principal)) row q
    ∙ ap (λ x. cond (not (is_row q.row row)) x None) (map.get-remove grant_total w.grants (on row principal) q)
    ∙ drops (is_row q.row row) (is_eq (grant_cmp q (on row principal))) (map.get w.grants q) (λ tied. subst (λ k. is_row k.row row ≡ true) (sym (exact_grant q (on row principal) ((Equal-is _).0 tied))) (ap is_eq (tied_itself row_total row)))
    ∙ sym (get-without_grants w.grants row q)))

-- where none is on the row
no_more : (b : Bool) (x : Option (ℕ × ℕ)) → (b ≡ true → IsSome x → ⊥) → cond (not b) x None ≡ x
no_more true None h = refl
no_more true (Some v) h = absurd (h refl refl)
no_more false x h = refl

pub gone-none : (w : World) (row : RowKey) → ((principal : Id) → IsSome (map.get w.grants (on row principal)) → ⊥) → with_grants_gone w row ≡ w
gone-none w row none = ap (λ grants. record w { grants = grants }) (same_grants (without_grants w.grants row) w.grants (λ q.
    get-without_grants w.grants row q
    ∙ no_more (is_row q.row row) (map.get w.grants q) (λ same there. none q.principal (subst (λ r. IsSome (map.get w.grants (on r q.principal))) (exact_row q.row row ((Equal-is _).0 same)) there))))

-- the grant that goes was there
pub fewer-grant_set : (w : World) (key : GrantKey) → IsSome (map.get w.grants key) → map.len (grant_set w key 0 0).grants < map.len w.grants
unfolding grant_set
fewer-grant_set w key there =
    let one : 1 ≤ map.len w.grants = len_there grant_total w.grants key there in
    let less : map.len w.grants - 1 ≡ map.len (map.remove w.grants key) = len_without grant_total w.grants key (map.len w.grants) true refl there in
    omega (arith, one, less)

-- what is left lies past the one that goes
left : (b : Bool) (x : Option (ℕ × ℕ)) → IsSome (cond b None x) → (b ≡ false) × IsSome x
left true x h = absurd (true≢false (sym h))
left false x h = (refl, h)

pub past-grant_set : (w : World) (row : RowKey) (after : Option Id) (principal : Id) → ((q : Id) → IsSome (map.get w.grants (on row q)) → IsPast after q) → IsLeast (λ q. IsSome (map.get w.grants (on row q))) after principal
    → (q : Id) → IsSome (map.get (grant_set w (on row principal) 0 0).grants (on row q)) → principal.0 < q.0
unfolding grant_set
past-grant_set w row after principal past least q there =
    let l = left (is_eq (grant_cmp (on row q) (on row principal))) (map.get w.grants (on row q)) (ap is_some (sym (map.get-remove grant_total w.grants (on row principal) (on row q))) ∙ there) in
    let le : principal.0 ≤ q.0 = least.least q l.1 (past q l.1) in
    strictly principal q le (λ same. true≢false (sym (ap is_eq (ap (λ i. grant_cmp (on row q) (on row i)) same ∙ tied_itself grant_total (on row q))) ∙ l.0))
  where
    strictly : (p q : Id) → p.0 ≤ q.0 → (p ≡ q → ⊥) → p.0 < q.0
    strictly p q le apart = elim (cases_lt p.0 q.0) [ inl lt ↦ lt | inr ge ↦ let is : p.0 ≡ q.0 = omega (arith, le, ge) in absurd (apart (λ j. record { 0 = is j })) ]

-- the counts
pub row_total-row_removed : (w : World) (key : RowKey) (n : ℕ) (b : Bool) → n ≡ map.len w.rows + map.len w.removals → is_there w.rows key ≡ true → adds_removal w key ≡ b → cond b n (n - 1) ≡ world.row_total (row_removed w key)
unfolding row_removed
row_total-row_removed w key n b is there adds =
    let one : 1 ≤ map.len w.rows = len_there row_total w.rows key there in
    let rows : map.len w.rows - 1 ≡ map.len (map.remove w.rows key) = len_without row_total w.rows key (map.len w.rows) true refl there in
    by_case (is_tracked w.shape key.table) (map.contains_key w.removals key) b refl refl adds one rows
  where
    by_case : (t c b : Bool) → is_tracked w.shape key.table ≡ t → map.contains_key w.removals key ≡ c → (t && not c) ≡ b → 1 ≤ map.len w.rows → map.len w.rows - 1 ≡ map.len (map.remove w.rows key)
        → cond b n (n - 1) ≡ map.len (map.remove w.rows key) + map.len (cond t (map.insert w.removals key w.version) w.removals)
    by_case true true true p q r one rows = absurd (true≢false (sym r))
    by_case true true false p q r one rows =
        let same : map.len w.removals ≡ map.len (map.insert w.removals key w.version) = len_with row_total w.removals key w.version (map.len w.removals) true refl q in
        omega (arith, is, one, rows, same)
    by_case true false true p q r one rows =
        let more : map.len w.removals + 1 ≡ map.len (map.insert w.removals key w.version) = len_with row_total w.removals key w.version (map.len w.removals) false refl q in
        omega (arith, is, one, rows, more)
    by_case true false false p q r one rows = absurd (true≢false r)
    by_case false c true p q r one rows = absurd (true≢false (sym r))
    by_case false c false p q r one rows = omega (arith, is, one, rows)

-- the world and what is kept, when the grants are gone
pub world-with_row_gone : (p : Kept) (w : World) (key : RowKey) (rows : ℕ) → p.world ≡ with_grants_gone w key → (with_row_gone (with_rows p rows) key).world ≡ row_removed w key
unfolding row_removed
world-with_row_gone p w key rows is = ap (λ v. (with_row_gone (record { world = v; listed = p.listed; rows = rows; grants = p.grants }) key).world) is

kept_grant : (b : Bool) (x : Option (ℕ × ℕ)) → IsSome (cond (not b) x None) → (b ≡ false) × IsSome x
kept_grant true x h = absurd (true≢false (sym h))
kept_grant false x h = (refl, h)

pub IsWell-with_row_gone : (p : Kept) (w : World) (key : RowKey) (rows : ℕ) → p.world ≡ with_grants_gone w key → IsWell p → rows ≡ world.row_total (row_removed w key) → rows ≤ most_rows → IsWell (with_row_gone (with_rows p rows) key)
unfolding row_removed
IsWell-with_row_gone p w key rows is well counted few = record {
  listed = gone_listed p key well.listed;
  rows = counted ∙ ap world.row_total (sym (world-with_row_gone p w key rows is));
  grants = well.grants;
  few_rows = few;
  few_grants = well.few_grants;
  version = well.version;
  stand = λ grant there.
      let s = well.stand grant there in
      let k = kept_grant (is_row grant.row key) (map.get w.grants grant) (ap is_some (sym (get-without_grants w.grants key grant)) ∙ subst (λ v. IsSome (map.get v.grants grant)) is there) in
      record { row = ap is_some (map.get-remove row_total p.world.rows key grant.row) ∙ ap (λ b. is_some (cond b None (map.get p.world.rows grant.row))) k.0 ∙ s.row; owned = s.owned };
}

fewer : (n m : ℕ) (b : Bool) → cond b n (n - 1) ≡ m → m ≤ n
fewer n m true e = omega (arith, e)
fewer n m false e = omega (arith, e)

pub few-row_removed : (p : Kept) (key : RowKey) → IsWell p → is_there p.world.rows key ≡ true → world.row_total (row_removed p.world key) ≤ 200000
few-row_removed p key well there =
    let le = fewer p.rows (world.row_total (row_removed p.world key)) (adds_removal p.world key) (row_total-row_removed p.world key p.rows (adds_removal p.world key) well.rows there refl) in
    omega (arith, le, well.few_rows)
