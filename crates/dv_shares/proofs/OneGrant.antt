-- One grant changed, and all others as before.
use Rattle.std.proofs.Common.{◌≡◌, ℕ, refl, sym, ap, ◌∙◌}
use Rattle.std.specs.Prelude.{Bool, true, false, cond, Option, None, Some}
use Rattle.std.specs.Cmp.{IsTotalOrder, Equal-is}
use Rattle.std.specs.Ordering.{is_eq}
use Rattle.std.specs.FinMap as map
use Rattle.dv_store.specs.declared.keys.GrantKey.{GrantKey}
use Rattle.dv_store.specs.contracts.keys.GrantKeyOrd.TheImpl.Laws as grant_laws
use Rattle.dv_store.specs.Exact.{exact_grant}
use Rattle.dv_store.specs.Keys.{grant_cmp}
use Rattle.dv_store.specs.World.{World, grant_set, is_none}
use Rattle.dv_shares.specs.declared.change.Change.{Change}
use Rattle.dv_shares.specs.declared.change.Rights.{Rights}
use Rattle.dv_shares.specs.Rights.{changed, are_same, rights_of, regrant}
use Rattle.dv_shares.specs.Steps.{grant_changed}

pub grant_order : IsTotalOrder grant_cmp
grant_order = grant_laws.total-law

-- keys that tie are equal
pub same_key : (a b : GrantKey) → is_eq (grant_cmp a b) ≡ true → a ≡ b
same_key a b is = exact_grant a b ((Equal-is _).0 is)

module _ (c : Change) (key : GrantKey) (w : World) where
  before : Rights
  before = rights_of (map.get w.grants key)

  after : Rights
  after = changed c before

  at_key : (q : GrantKey) (t : Bool) → is_eq (grant_cmp q key) ≡ t → (f : Option (ℕ × ℕ) → Option (ℕ × ℕ)) → cond t (f (map.get w.grants key)) (map.get w.grants q) ≡ cond t (f (map.get w.grants q)) (map.get w.grants q)
  at_key q true is f = ap (λ k. f (map.get w.grants k)) (sym (same_key q key is))
  at_key q false is f = refl

  pub get-grant_changed : (q : GrantKey) → map.get (grant_changed c key w).grants q ≡ cond (is_eq (grant_cmp q key)) (regrant c (map.get w.grants q)) (map.get w.grants q)
  unfolding grant_changed grant_set regrant before after
  get-grant_changed q = cases (are_same after before) (is_none after.direct after.inherited) ∙ at_key q (is_eq (grant_cmp q key)) refl (regrant c)
    where
      same : (t : Bool) → is_eq (grant_cmp q key) ≡ t → map.get w.grants q ≡ cond t (map.get w.grants key) (map.get w.grants q)
      same true is = ap (map.get w.grants) (same_key q key is)
      same false is = refl

      cases : (s n : Bool) → map.get (cond s w (record w { grants = cond n (map.remove w.grants key) (map.insert w.grants key (after.direct, after.inherited)) })).grants q ≡ cond (is_eq (grant_cmp q key)) (cond s (map.get w.grants key) (cond n None (Some (after.direct, after.inherited)))) (map.get w.grants q)
      cases true n = same (is_eq (grant_cmp q key)) refl
      cases false true = map.get-remove grant_order w.grants key q
      cases false false = map.get-insert grant_order w.grants key (after.direct, after.inherited) q

  -- nothing but grants changes
  pub grants-grant_changed : grant_changed c key w ≡ record w { grants = (grant_changed c key w).grants }
  unfolding grant_changed grant_set before after
  grants-grant_changed = cases (are_same after before) (is_none after.direct after.inherited)
    where
      made : (s n : Bool) → World
      made s n = cond s w (record w { grants = cond n (map.remove w.grants key) (map.insert w.grants key (after.direct, after.inherited)) })

      cases : (s n : Bool) → made s n ≡ record w { grants = (made s n).grants }
      cases true n = refl
      cases false n = refl
