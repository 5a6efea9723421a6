-- The limit of grants: what adds rights never takes a grant away.
use Rattle.std.proofs.Common.{◌≡◌, ℕ, ◌+◌, ◌≤◌, ◌<◌, inl, inr, List, [], ◌∷◌, length, drop, get_or, refl, sym, ap, subst, ◌∙◌, arith, length-drop}
use Rattle.std.proofs.lemmas.List.{drop_more, nil_from_length}
use mathlib.Core.Bool.{true≢false}
use Rattle.std.proofs.lemmas.Bool.{eqb-true, eq-eqb, ltb-true}
use Rattle.std.proofs.lemmas.Nat.{le_or_l}
use Rattle.std.specs.Prelude.{Bool, true, false, cond, ◌&&◌, ◌==◌, nat_lt, bit_or}
use Rattle.std.specs.FinMap as fin
use Rattle.dv_value.specs.declared.id.Id.{Id}
use Rattle.dv_refusal.specs.declared.what.What.TheVariants.{Grant}
use Rattle.dv_store.specs.declared.fault.StoreFault.{StoreFault}
use Rattle.dv_store.specs.declared.keys.RowKey.{RowKey}
use Rattle.dv_store.specs.declared.keys.GrantKey.{GrantKey}
use Rattle.dv_store.specs.Keys.{is_row}
use Rattle.dv_store.specs.World.{World, fault_at, grant_set, grant_total, is_none, most_grants}
use Rattle.dv_shares.specs.declared.change.Rights.{Rights}
use Rattle.dv_shares.specs.declared.change.Change.{Change}
use Rattle.dv_shares.specs.declared.change.Change.TheVariants.{AddDirect, AddInherited, Clear, ClearInherited}
use Rattle.dv_shares.specs.Rights.{adds, changed, are_same, rights_of}
use Rattle.dv_shares.specs.Grants.{can_have_grants, on_row}
use Rattle.dv_shares.specs.Outcome.{MayRefuse, MayRefuseTo}
use Rattle.dv_shares.specs.Steps.{grant_changed, one_changed, other_changed, others_changed}
use Rattle.dv_shares.proofs.OneGrant.{grant_order}
use Rattle.dv_shares.proofs.Repeated.{both_true}

zero_left : (a m : ℕ) → bit_or a m ≡ 0 → bit_or a m ≡ a
zero_left a m e = let p = le_or_l a m in omega (arith, e, p)

-- rights that were added to and aren't what they were aren't zeros
some_added : (c : Change) (r : Rights) → adds c ≡ true → are_same (changed c r) r ≡ false → is_none (changed c r).direct (changed c r).inherited ≡ false
unfolding changed adds
some_added (AddDirect m) r adding other = cases (is_none (bit_or r.direct m) r.inherited) refl
  where
    cases : (b : Bool) → is_none (bit_or r.direct m) r.inherited ≡ b → b ≡ false
    cases false is = refl
    cases true is =
        let p = both_true (bit_or r.direct m == 0) (r.inherited == 0) is in
        let d = zero_left r.direct m (eqb-true (bit_or r.direct m) 0 p.0) in
        absurd (true≢false (sym (ap (λ b. b && (r.inherited == r.inherited)) (eq-eqb (bit_or r.direct m) r.direct d) ∙ eq-eqb r.inherited r.inherited refl) ∙ other))
some_added (AddInherited m) r adding other = cases (is_none r.direct (bit_or r.inherited m)) refl
  where
    cases : (b : Bool) → is_none r.direct (bit_or r.inherited m) ≡ b → b ≡ false
    cases false is = refl
    cases true is =
        let p = both_true (r.direct == 0) (bit_or r.inherited m == 0) is in
        let i = zero_left r.inherited m (eqb-true (bit_or r.inherited m) 0 p.1) in
        absurd (true≢false (sym (ap (λ b. b && (bit_or r.inherited m == r.inherited)) (eq-eqb r.direct r.direct refl) ∙ eq-eqb (bit_or r.inherited m) r.inherited i) ∙ other))
some_added Clear r adding other = absurd (true≢false (sym adding))
some_added ClearInherited r adding other = absurd (true≢false (sym adding))

module _ (c : Change) (adding : adds c ≡ true) where
  grows-grant : (key : GrantKey) (w : World) → grant_total w ≤ grant_total (grant_changed c key w)
  unfolding grant_changed grant_set
  grows-grant key w = cases (are_same after before) refl
    where
      before : Rights
      before = rights_of (fin.get w.grants key)

      after : Rights
      after = changed c before

      put : (b : Bool) → fin.len w.grants ≤ cond b (fin.len w.grants) (fin.len w.grants + 1)
      put true = omega arith
      put false = omega arith

      cases : (s : Bool) → are_same after before ≡ s → grant_total w ≤ grant_total (cond s w (record w { grants = cond (is_none after.direct after.inherited) (fin.remove w.grants key) (fin.insert w.grants key (after.direct, after.inherited)) }))
      cases true is = omega arith
      cases false is = rw (some_added c before adding is, fin.len-insert grant_order w.grants key (after.direct, after.inherited)) (put (fin.contains_key w.grants key))

  pub grows-one : (p : Id) (row : RowKey) (w : World) → grant_total w ≤ grant_total (one_changed p c row w)
  grows-one p row w = cases (can_have_grants w row)
    where
      cases : (h : Bool) → grant_total w ≤ grant_total (cond h (grant_changed c (on_row p row) w) w)
      cases true = grows-grant (on_row p row) w
      cases false = omega arith

  grows-other : (target : RowKey) (p : Id) (row : RowKey) (w : World) → grant_total w ≤ grant_total (other_changed target p c row w)
  grows-other target p row w = cases (is_row row target)
    where
      cases : (s : Bool) → grant_total w ≤ grant_total (cond s w (one_changed p c row w))
      cases true = omega arith
      cases false = grows-one p row w

  pub grows-others : (target : RowKey) (p : Id) (set : List RowKey) (w : World) → grant_total w ≤ grant_total (others_changed target p c set w)
  unfolding others_changed
  grows-others target p [] w = omega arith
  grows-others target p (row ∷ rows) w =
      let a = grows-other target p row w in
      let b = grows-others target p rows (other_changed target p c row w) in
      omega (arith, a, b)

-- a refusal to make a world is one to make a world with more grants
pub refused_later : (u v : World) (fault : StoreFault) → grant_total u ≤ grant_total v → MayRefuse u fault → MayRefuse v fault
refused_later u v fault le (inl memory) = inl memory
refused_later u v fault le (inr limit) = let past = limit.1 in inr (limit.0, omega (arith, le, past))

-- the store's own refusal
pub refused_here : (w : World) (fault : StoreFault) → fault ≡ fault_at (nat_lt most_grants (grant_total w)) Grant → MayRefuse w fault
refused_here w fault = cases (nat_lt most_grants (grant_total w)) refl
  where
    cases : (b : Bool) → nat_lt most_grants (grant_total w) ≡ b → fault ≡ fault_at b Grant → MayRefuse w fault
    cases true past is = inr (is, ltb-true most_grants (grant_total w) past)
    cases false within is = inl is

-- the first of the rows that are left
pub others-step : (target : RowKey) (p : Id) (c : Change) (set : List RowKey) (i : ℕ) (d : RowKey) (w : World) → i < length set → others_changed target p c (drop i set) w ≡ others_changed target p c (drop (i + 1) set) (other_changed target p c (get_or set i d) w)
unfolding others_changed
others-step target p c set i d w lt = ap (λ rows. others_changed target p c rows w) (drop_more set i d lt)

-- none is left
pub others-end : (target : RowKey) (p : Id) (c : Change) (set : List RowKey) (i : ℕ) (w : World) → length set ≤ i → others_changed target p c (drop i set) w ≡ w
unfolding others_changed
others-end target p c set i w le = ap (λ rows. others_changed target p c rows w) (nil_from_length (drop i set) (omega (arith, length-drop i set, le)))

-- a refusal on one row is one of the whole set, where rights are added
pub refused-others : (target : RowKey) (p : Id) (c : Change) (set : List RowKey) (i : ℕ) (d : RowKey) (w : World) (fault : StoreFault) → adds c ≡ true → i < length set → MayRefuse (other_changed target p c (get_or set i d) w) fault → MayRefuse (others_changed target p c (drop i set) w) fault
refused-others target p c set i d w fault adding lt refused =
    let next : World = other_changed target p c (get_or set i d) w in
    let le : grant_total next ≤ grant_total (others_changed target p c (drop (i + 1) set) next) = grows-others c adding target p (drop (i + 1) set) next in
    subst (λ v. MayRefuse v fault) (sym (others-step target p c set i d w lt)) (refused_later next (others_changed target p c (drop (i + 1) set) next) fault le refused)

-- a refusal to make one world of which something is so
pub refused_to : (IsMade : World → Type 0) (w : World) (fault : StoreFault) → IsMade w → MayRefuse w fault → MayRefuseTo IsMade fault
refused_to IsMade w fault made (inl memory) = inl memory
refused_to IsMade w fault made (inr limit) = inr (limit.0, record { world = w; made = made; past = limit.1 })
