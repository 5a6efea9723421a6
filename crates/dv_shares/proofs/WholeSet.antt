-- The grants on the rows of a set changed one after the other.
use Rattle.std.proofs.Common.{◌≡◌, ℕ, List, [], ◌∷◌, refl, sym, ap, ◌∙◌}
use mathlib.Core.Bool.{true≢false}
use Rattle.std.specs.Prelude.{Bool, true, false, cond, not, ◌&&◌, ◌||◌, Option}
use Rattle.std.specs.Cmp.{IsTotalOrder, Equal-is, tied_itself}
use Rattle.std.specs.Ordering.{is_eq}
use Rattle.std.specs.FinMap as map
use Rattle.dv_value.specs.declared.id.Id.{Id}
use Rattle.dv_store.specs.declared.keys.RowKey.{RowKey}
use Rattle.dv_store.specs.declared.keys.GrantKey.{GrantKey}
use Rattle.dv_store.specs.contracts.keys.RowKeyOrd.TheImpl.Laws as row_laws
use Rattle.dv_store.specs.Exact.{exact_row}
use Rattle.dv_store.specs.Keys.{is_row, row_cmp}
use Rattle.dv_store.specs.World.{World}
use Rattle.dv_shares.specs.declared.change.Change.{Change}
use Rattle.dv_shares.specs.Rights.{regrant}
use Rattle.dv_shares.specs.Grants.{can_have_grants, is_on, is_on_any, on_row, shared_at}
use Rattle.dv_shares.specs.Steps.{grant_changed, one_changed, other_changed, others_changed}
use Rattle.dv_shares.proofs.Repeated.{regrant-regrant}
use Rattle.dv_shares.proofs.OneGrant.{get-grant_changed, grants-grant_changed, same_key}

row_order : IsTotalOrder row_cmp
row_order = row_laws.total-law

Grant : Type 0
Grant = Option (ℕ × ℕ)

-- two tests of which one is the other's opposite
never : (a t : Bool) (x y : Option (ℕ × ℕ)) → cond (a && (not t && t)) x y ≡ y
never true true x y = refl
never true false x y = refl
never false t x y = refl

missed : (a t : Bool) (x y : Option (ℕ × ℕ)) → cond (a && (not t && false)) x y ≡ y
missed true true x y = refl
missed true false x y = refl
missed false t x y = refl

module _ (target : RowKey) (p : Id) (c : Change) where
  -- whether a grant is one that changes with a set
  pub is_in : World → List RowKey → GrantKey → Bool
  is_in w set q = can_have_grants w q.row && (not (is_on p target q) && is_on_any p set q)

  -- the same of one row
  is_at : World → RowKey → GrantKey → Bool
  is_at w row q = can_have_grants w q.row && (not (is_on p target q) && is_on p row q)

  pub get-one : (own : Change) (row : RowKey) (w : World) (q : GrantKey) → map.get (one_changed p own row w).grants q ≡ cond (can_have_grants w q.row && is_on p row q) (regrant own (map.get w.grants q)) (map.get w.grants q)
  get-one own row w q = cases (can_have_grants w row) refl (is_on p row q) refl
    where
      cases : (h : Bool) → can_have_grants w row ≡ h → (x : Bool) → is_on p row q ≡ x → map.get (cond h (grant_changed own (on_row p row) w) w).grants q ≡ cond (can_have_grants w q.row && x) (regrant own (map.get w.grants q)) (map.get w.grants q)
      cases true can true on =
          get-grant_changed own (on_row p row) w q
          ∙ ap (λ x. cond x (regrant own (map.get w.grants q)) (map.get w.grants q)) on
          ∙ ap (λ h. cond (h && true) (regrant own (map.get w.grants q)) (map.get w.grants q)) (sym can ∙ ap (λ k. can_have_grants w k.row) (sym (same_key q (on_row p row) on)))
      cases true can false on =
          get-grant_changed own (on_row p row) w q
          ∙ ap (λ x. cond x (regrant own (map.get w.grants q)) (map.get w.grants q)) on
          ∙ off (can_have_grants w q.row)
        where
          off : (h : Bool) → map.get w.grants q ≡ cond (h && false) (regrant own (map.get w.grants q)) (map.get w.grants q)
          off true = refl
          off false = refl
      cases false can true on = ap (λ h. cond (h && true) (regrant own (map.get w.grants q)) (map.get w.grants q)) (sym can ∙ ap (λ k. can_have_grants w k.row) (sym (same_key q (on_row p row) on)))
      cases false can false on = off (can_have_grants w q.row)
        where
          off : (h : Bool) → map.get w.grants q ≡ cond (h && false) (regrant own (map.get w.grants q)) (map.get w.grants q)
          off true = refl
          off false = refl

  -- a grant on another row isn't on the target
  apart : (row : RowKey) (q : GrantKey) → is_row row target ≡ false → is_on p row q ≡ true → is_on p target q ≡ false
  apart row q other on = cases (is_on p target q) refl
    where
      cases : (t : Bool) → is_on p target q ≡ t → t ≡ false
      cases false is = refl
      cases true is =
          let rows : row ≡ target = ap (λ k. k.row) (sym (same_key q (on_row p row) on) ∙ same_key q (on_row p target) is) in
          absurd (true≢false (sym (ap (λ r. is_row r target) rows ∙ ap is_eq (tied_itself row_order target)) ∙ other))

  get-other : (row : RowKey) (w : World) (q : GrantKey) → map.get (other_changed target p c row w).grants q ≡ cond (is_at w row q) (regrant c (map.get w.grants q)) (map.get w.grants q)
  unfolding is_at
  get-other row w q = cases (is_row row target) refl
    where
      new : Option (ℕ × ℕ)
      new = regrant c (map.get w.grants q)

      hit : (x : Bool) → is_row row target ≡ false → is_on p row q ≡ x → cond (can_have_grants w q.row && x) new (map.get w.grants q) ≡ cond (can_have_grants w q.row && (not (is_on p target q) && x)) new (map.get w.grants q)
      hit true other on = ap (λ t. cond (can_have_grants w q.row && (not t && true)) new (map.get w.grants q)) (sym (apart row q other on))
      hit false other on = falls (can_have_grants w q.row) (is_on p target q)
        where
          falls : (h t : Bool) → cond (h && false) new (map.get w.grants q) ≡ cond (h && (not t && false)) new (map.get w.grants q)
          falls true true = refl
          falls true false = refl
          falls false t = refl

      cases : (s : Bool) → is_row row target ≡ s → map.get (cond s w (one_changed p c row w)).grants q ≡ cond (can_have_grants w q.row && (not (is_on p target q) && is_on p row q)) new (map.get w.grants q)
      cases true is =
          sym (ap (λ r. cond (can_have_grants w q.row && (not (is_on p target q) && is_on p r q)) new (map.get w.grants q)) (exact_row row target ((Equal-is _).0 is))
          ∙ never (can_have_grants w q.row) (is_on p target q) new (map.get w.grants q))
      cases false is = get-one c row w q ∙ hit (is_on p row q) is refl

  -- nothing but grants changes
  pub grants-one : (own : Change) (row : RowKey) (w : World) → one_changed p own row w ≡ record w { grants = (one_changed p own row w).grants }
  grants-one own row w = cases (can_have_grants w row)
    where
      cases : (h : Bool) → cond h (grant_changed own (on_row p row) w) w ≡ record w { grants = (cond h (grant_changed own (on_row p row) w) w).grants }
      cases true = grants-grant_changed own (on_row p row) w
      cases false = refl

  grants-other : (row : RowKey) (w : World) → other_changed target p c row w ≡ record w { grants = (other_changed target p c row w).grants }
  grants-other row w = cases (is_row row target)
    where
      cases : (s : Bool) → cond s w (one_changed p c row w) ≡ record w { grants = (cond s w (one_changed p c row w)).grants }
      cases true = refl
      cases false = grants-one c row w

  pub grants-others : (set : List RowKey) (w : World) → others_changed target p c set w ≡ record w { grants = (others_changed target p c set w).grants }
  unfolding others_changed
  grants-others [] w = refl
  grants-others (row ∷ rows) w =
      grants-others rows (other_changed target p c row w)
      ∙ ap {A = World} {B = World} (λ v. record v { grants = (others_changed target p c rows (other_changed target p c row w)).grants }) (grants-other row w)

  more : (g : Option (ℕ × ℕ)) (a t x y : Bool) → cond (a && (not t && y)) (regrant c (cond (a && (not t && x)) (regrant c g) g)) (cond (a && (not t && x)) (regrant c g) g) ≡ cond (a && (not t && (x || y))) (regrant c g) g
  more g true true x y = refl
  more g true false true true = regrant-regrant c g
  more g true false true false = refl
  more g true false false y = refl
  more g false t x y = refl

  pub get-others : (set : List RowKey) (w : World) (q : GrantKey) → map.get (others_changed target p c set w).grants q ≡ cond (is_in w set q) (regrant c (map.get w.grants q)) (map.get w.grants q)
  unfolding others_changed is_in is_at
  get-others [] w q = sym (missed (can_have_grants w q.row) (is_on p target q) (regrant c (map.get w.grants q)) (map.get w.grants q))
  get-others (row ∷ rows) w q =
      get-others rows (other_changed target p c row w) q
      ∙ ap (λ v. cond (can_have_grants v q.row && (not (is_on p target q) && is_on_any p rows q)) (regrant c (map.get (other_changed target p c row w).grants q)) (map.get (other_changed target p c row w).grants q)) (grants-other row w)
      ∙ ap (λ g. cond (can_have_grants w q.row && (not (is_on p target q) && is_on_any p rows q)) (regrant c g) g) (get-other row w q)
      ∙ more (map.get w.grants q) (can_have_grants w q.row) (is_on p target q) (is_on p row q) (is_on_any p rows q)

-- the target first, then the other rows
pub get-shared : (set : List RowKey) (target : RowKey) (p : Id) (own others : Change) (w : World) (q : GrantKey) → map.get (others_changed target p others set (one_changed p own target w)).grants q ≡ shared_at w set target p own others q (map.get w.grants q)
unfolding is_in
get-shared set target p own others w q =
    get-others target p others set (one_changed p own target w) q
    ∙ ap (λ v. cond (can_have_grants v q.row && (not (is_on p target q) && is_on_any p set q)) (regrant others (map.get (one_changed p own target w).grants q)) (map.get (one_changed p own target w).grants q)) (grants-one target p others own target w)
    ∙ ap (λ g. cond (can_have_grants w q.row && (not (is_on p target q) && is_on_any p set q)) (regrant others g) g) (get-one target p others own target w q)
    ∙ both (map.get w.grants q) (can_have_grants w q.row) (is_on p target q) (is_on_any p set q)
  where
    both : (g : Option (ℕ × ℕ)) (a t y : Bool) → cond (a && (not t && y)) (regrant others (cond (a && t) (regrant own g) g)) (cond (a && t) (regrant own g) g) ≡ cond a (cond t (regrant own g) (cond y (regrant others g) g)) g
    both g true true y = refl
    both g true false y = refl
    both g false t y = refl
