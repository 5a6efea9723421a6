-- Each grant once shares were added to what is inherited on a row.
use Rattle.std.proofs.Common.{◌≡◌, refl, sym, ap, ◌∙◌, ℕ, Bool, true, false, List, [], ◌∷◌, ◌++◌, is_some}
use Rattle.std.proofs.lemmas.Bool.{true≢false, eqb-true, eq-eqb}
use Rattle.std.proofs.lemmas.List.Folds.{list_any-append}
use Rattle.std.specs.Prelude.{◌&&◌, ◌||◌, ◌==◌, cond, Option, None, Some, IsTrue, bit_or, map}
use Rattle.std.specs.List.{AllByRecursion, list_any}
use Rattle.std.specs.Int.Bits.{or_zero_r}
use Rattle.std.specs.Ordering.{eq_by_cmp}
use Rattle.std.specs.FinMap as fin
use Rattle.dv_value.specs.declared.id.Id.{Id}
use Rattle.dv_store.specs.declared.keys.GrantKey.{GrantKey}
use Rattle.dv_store.specs.declared.keys.RowKey.{RowKey}
use Rattle.dv_store.specs.Exact.{exact_grant}
use Rattle.dv_store.specs.Keys.{grant_cmp, is_row}
use Rattle.dv_store.specs.World.{World, is_id}
use Rattle.dv_cascade.specs.Links.{owner_of}
use Rattle.dv_shares.specs.declared.change.Change.TheVariants.{AddInherited}
use Rattle.dv_shares.specs.declared.handing.Share.{Share}
use Rattle.dv_shares.specs.declared.heirs.Heir.{Heir}
use Rattle.dv_shares.specs.Grants.{can_have_grants, on_row}
use Rattle.dv_shares.specs.Handing.{each_added, handed, handed_by, has_share, inherits, owner_shares, share_of, shares_of, AreShares}
use Rattle.dv_shares.specs.Inheriting.{all_rights, owner_rights}
use Rattle.dv_shares.specs.Rights.{are_same, changed, regrant, rights_of}
use Rattle.dv_shares.proofs.Clearing.{on-parts}
use Rattle.dv_shares.proofs.OneGrant.{grant_order, same_key}
use Rattle.dv_shares.proofs.Principals.{id_is, or-left, or-right}
use Rattle.dv_shares.proofs.Repeated.{are_same-refl, regrant-regrant}
use Rattle.dv_shares.proofs.Shares.{added}
use Rattle.dv_shares.proofs.WholeSet.{get-one, grants-one}

-- what each principal gets is of the shares
Each : (Id → ℕ) → List Share → Type 0
Each gets shares = AllByRecursion (λ (share : Share). share.mask ≡ gets share.principal) shares

nothing-added : (g : Option (ℕ × ℕ)) → regrant (AddInherited 0) g ≡ g
unfolding regrant changed
nothing-added g =
    let r = rights_of g in
    ap (λ i. cond (are_same (record { direct = r.direct; inherited = i }) r) g (cond ((r.direct == 0) && (i == 0)) None (Some (r.direct, i)))) (or_zero_r r.inherited)
    ∙ ap (λ b. cond b g (cond ((r.direct == 0) && (r.inherited == 0)) None (Some (r.direct, r.inherited)))) (are_same-refl r)

module _ (row : RowKey) where
  -- nothing but grants changes
  pub grants-each : (shares : List Share) (w : World) → each_added row shares w ≡ record w { grants = (each_added row shares w).grants }
  unfolding each_added
  grants-each [] w = refl
  grants-each (share ∷ shares) w =
      grants-each shares (added row share w)
      ∙ ap {A = World} {B = World} (λ v. record v { grants = (each_added row shares (added row share w)).grants }) (grants-one row share.principal (AddInherited share.mask) (AddInherited share.mask) row w)

  module _ (gets : Id → ℕ) where
    new : World → GrantKey → Option (ℕ × ℕ)
    new w q = regrant (AddInherited (gets q.principal)) (fin.get w.grants q)

    get-added : (share : Share) (w : World) (q : GrantKey) → share.mask ≡ gets share.principal → fin.get (added row share w).grants q ≡ cond (can_have_grants w q.row && (is_row q.row row && (q.principal.0 == share.principal.0))) (regrant (AddInherited (gets q.principal)) (fin.get w.grants q)) (fin.get w.grants q)
    get-added share w q is =
        get-one row share.principal (AddInherited share.mask) (AddInherited share.mask) row w q
        ∙ ap (λ x. cond (can_have_grants w q.row && x) (regrant (AddInherited share.mask) (fin.get w.grants q)) (fin.get w.grants q)) (on-parts share.principal row q)
        ∙ of (q.principal.0 == share.principal.0) refl
      where
        of : (e : Bool) → (q.principal.0 == share.principal.0) ≡ e → cond (can_have_grants w q.row && (is_row q.row row && e)) (regrant (AddInherited share.mask) (fin.get w.grants q)) (fin.get w.grants q)
            ≡ cond (can_have_grants w q.row && (is_row q.row row && e)) (regrant (AddInherited (gets q.principal)) (fin.get w.grants q)) (fin.get w.grants q)
        of true e = ap (λ mask. cond (can_have_grants w q.row && (is_row q.row row && true)) (regrant (AddInherited mask) (fin.get w.grants q)) (fin.get w.grants q)) (is ∙ ap gets (id_is share.principal q.principal (sym (eqb-true q.principal.0 share.principal.0 e))))
        of false e = none (can_have_grants w q.row) (is_row q.row row)
          where
            none : (a r : Bool) → cond (a && (r && false)) (regrant (AddInherited share.mask) (fin.get w.grants q)) (fin.get w.grants q) ≡ cond (a && (r && false)) (regrant (AddInherited (gets q.principal)) (fin.get w.grants q)) (fin.get w.grants q)
            none true true = refl
            none true false = refl
            none false r = refl

    get-each : (shares : List Share) (w : World) (q : GrantKey) → Each gets shares → fin.get (each_added row shares w).grants q ≡ cond (can_have_grants w q.row && (is_row q.row row && has_share shares q.principal)) (regrant (AddInherited (gets q.principal)) (fin.get w.grants q)) (fin.get w.grants q)
    unfolding each_added Each
    get-each [] w q each = none (can_have_grants w q.row) (is_row q.row row) (fin.get w.grants q) (regrant (AddInherited (gets q.principal)) (fin.get w.grants q))
      where
        none : (a r : Bool) (g x : Option (ℕ × ℕ)) → g ≡ cond (a && (r && false)) x g
        none true true g x = refl
        none true false g x = refl
        none false r g x = refl
    get-each (share ∷ shares) w q each =
        let then : World = added row share w in
        get-each shares then q each.1
        ∙ ap (λ (v : World). cond (can_have_grants v q.row && (is_row q.row row && has_share shares q.principal)) (regrant (AddInherited (gets q.principal)) (fin.get then.grants q)) (fin.get then.grants q)) (grants-one row share.principal (AddInherited share.mask) (AddInherited share.mask) row w)
        ∙ ap (λ g. cond (can_have_grants w q.row && (is_row q.row row && has_share shares q.principal)) (regrant (AddInherited (gets q.principal)) g) g) (get-added share w q each.0)
        ∙ more (AddInherited (gets q.principal)) (fin.get w.grants q) (can_have_grants w q.row) (is_row q.row row) (q.principal.0 == share.principal.0) (has_share shares q.principal)
      where
        more : (c : _) (g : Option (ℕ × ℕ)) (a r x y : Bool) → cond (a && (r && y)) (regrant c (cond (a && (r && x)) (regrant c g) g)) (cond (a && (r && x)) (regrant c g) g) ≡ cond (a && (r && (x || y))) (regrant c g) g
        more c g true true true true = regrant-regrant c g
        more c g true true true false = refl
        more c g true true false y = refl
        more c g true false x y = refl
        more c g false r x y = refl

    -- each principal's rights on the row are joined with what it gets
    pub get-shares : (shares : List Share) (w : World) (q : GrantKey) → AreShares gets shares → fin.get (each_added row shares w).grants q ≡ cond (can_have_grants w q.row && is_row q.row row) (regrant (AddInherited (gets q.principal)) (fin.get w.grants q)) (fin.get w.grants q)
    unfolding Each
    get-shares shares w q are = get-each shares w q are.each ∙ of (has_share shares q.principal) refl
      where
        of : (s : Bool) → has_share shares q.principal ≡ s → cond (can_have_grants w q.row && (is_row q.row row && s)) (regrant (AddInherited (gets q.principal)) (fin.get w.grants q)) (fin.get w.grants q)
            ≡ cond (can_have_grants w q.row && is_row q.row row) (regrant (AddInherited (gets q.principal)) (fin.get w.grants q)) (fin.get w.grants q)
        of true e = all (is_row q.row row)
          where
            all : (r : Bool) → cond (can_have_grants w q.row && (r && true)) (regrant (AddInherited (gets q.principal)) (fin.get w.grants q)) (fin.get w.grants q) ≡ cond (can_have_grants w q.row && r) (regrant (AddInherited (gets q.principal)) (fin.get w.grants q)) (fin.get w.grants q)
            all true = refl
            all false = refl
        of false e = none (can_have_grants w q.row) (is_row q.row row) (fin.get w.grants q) (regrant (AddInherited (gets q.principal)) (fin.get w.grants q)) (ap (λ mask. regrant (AddInherited mask) (fin.get w.grants q)) (are.all q.principal e) ∙ nothing-added (fin.get w.grants q))
          where
            none : (a r : Bool) (g x : Option (ℕ × ℕ)) → x ≡ g → cond (a && (r && false)) x g ≡ cond (a && r) x g
            none true true g x is = sym is
            none true false g x is = refl
            none false r g x is = refl

    -- so all shares that give each the same make the same world
    pub same-shares : (a b : List Share) (w : World) → AreShares gets a → AreShares gets b → each_added row a w ≡ each_added row b w
    same-shares a b w of_a of_b =
        grants-each a w
        ∙ ap {B = World} (λ grants. record w { grants = grants }) (fin.same_map grant_order exact_grant (each_added row a w).grants (each_added row b w).grants (λ q. get-shares a w q of_a ∙ sym (get-shares b w q of_b)))
        ∙ sym (grants-each b w)

module _ (w : World) (parent : RowKey) where
  owner-none : (owner : Option Id) (q : Id) → has_share (owner_shares w parent owner) q ≡ false → cond (is_id q owner) all_rights 0 ≡ 0
  owner-none None q h = refl
  owner-none (Some owner) q h = of (q.0 == owner.0) h
    where
      of : (b : Bool) → (b || false) ≡ false → cond b all_rights 0 ≡ 0
      of false h = refl
      of true h = absurd (true≢false h)

  granted : List GrantKey → List Share
  granted keys = map (λ key. share_of w parent key.principal) keys

  any-granted : (keys : List GrantKey) (q : Id) → list_any (eq_by_cmp grant_cmp (on_row q parent)) keys ≡ true → IsTrue (has_share (granted keys) q)
  unfolding granted
  any-granted [] q h = absurd (true≢false (sym h))
  any-granted (key ∷ keys) q h = of (eq_by_cmp grant_cmp (on_row q parent) key) refl h (λ rest. any-granted keys q rest)
    where
      of : (b : Bool) → eq_by_cmp grant_cmp (on_row q parent) key ≡ b → (b || list_any (eq_by_cmp grant_cmp (on_row q parent)) keys) ≡ true → (list_any (eq_by_cmp grant_cmp (on_row q parent)) keys ≡ true → IsTrue (has_share (map (λ key. share_of w parent key.principal) keys) q))
          → IsTrue ((q.0 == key.principal.0) || has_share (map (λ key. share_of w parent key.principal) keys) q)
      of true e h later = or-left (q.0 == key.principal.0) (has_share (map (λ key. share_of w parent key.principal) keys) q) (eq-eqb q.0 key.principal.0 (ap (λ (k : GrantKey). k.principal.0) (same_key (on_row q parent) key e)))
      of false e h later = or-right (q.0 == key.principal.0) (has_share (map (λ key. share_of w parent key.principal) keys) q) (later h)

  each-granted : (keys : List GrantKey) → AllByRecursion (λ (share : Share). share.mask ≡ handed_by w parent share.principal) (granted keys)
  unfolding granted
  each-granted [] = tt
  each-granted (key ∷ keys) = (refl, each-granted keys)

  each-owner : (owner : Option Id) (keys : List GrantKey) → AllByRecursion (λ (share : Share). share.mask ≡ handed_by w parent share.principal) (owner_shares w parent owner ++ granted keys)
  each-owner None keys = each-granted keys
  each-owner (Some owner) keys = (refl, each-granted keys)

  pub are-shares_of : AreShares (handed w (Some parent)) (shares_of w (Some parent))
  unfolding granted
  are-shares_of = record { each = each-owner (owner_of w parent) (fin.keys w.grants); all = all }
    where
      zeros : (q : Id) (grant : Option (ℕ × ℕ)) (owner : ℕ) → is_some grant ≡ false → owner ≡ 0 → bit_or (bit_or (rights_of grant).direct (rights_of grant).inherited) owner ≡ 0
      zeros q None owner h e = ap (bit_or (bit_or 0 0)) e
      zeros q (Some grant) owner h e = absurd (true≢false h)

      parts : (a b : Bool) → (a || b) ≡ false → (a ≡ false) × (b ≡ false)
      parts true b h = absurd (true≢false h)
      parts false b h = (refl, h)

      no_grant : (q : Id) → has_share (granted (fin.keys w.grants)) q ≡ false → (b : Bool) → is_some (fin.get w.grants (on_row q parent)) ≡ b → b ≡ false
      no_grant q h false e = refl
      no_grant q h true e = absurd (true≢false (sym (any-granted (fin.keys w.grants) q (sym (fin.contains_key-keys w.grants (on_row q parent)) ∙ e)) ∙ h))

      all : (q : Id) → has_share (shares_of w (Some parent)) q ≡ false → handed w (Some parent) q ≡ 0
      all q h =
          let both = parts (has_share (owner_shares w parent (owner_of w parent)) q) (has_share (granted (fin.keys w.grants)) q) (sym (list_any-append (λ (share : Share). q.0 == share.principal.0) (owner_shares w parent (owner_of w parent)) (granted (fin.keys w.grants))) ∙ h) in
          zeros q (fin.get w.grants (on_row q parent)) (owner_rights w parent q) (no_grant q both.1 (is_some (fin.get w.grants (on_row q parent))) refl) (owner-none (owner_of w parent) q both.0)

-- the shares in what a row hands down, or nothing
pub are-shares : (w : World) (parent : Option RowKey) → AreShares (handed w parent) (shares_of w parent)
are-shares w None = record { each = tt; all = λ q h. refl }
are-shares w (Some parent) = are-shares_of w parent

-- each grant once a row inherits from its parent
pub get-inherits : (heir : Heir) (w : World) (q : GrantKey) → fin.get (inherits heir w).grants q ≡ cond (can_have_grants w q.row && is_row q.row heir.row) (regrant (AddInherited (handed w heir.parent q.principal)) (fin.get w.grants q)) (fin.get w.grants q)
get-inherits heir w q = get-shares heir.row (handed w heir.parent) (shares_of w heir.parent) w q (are-shares w heir.parent)

pub grants-inherits : (heir : Heir) (w : World) → inherits heir w ≡ record w { grants = (inherits heir w).grants }
grants-inherits heir w = grants-each heir.row (shares_of w heir.parent) w

-- what a parent hands down, by any shares that are such
pub inherits-shares : (heir : Heir) (parent : RowKey) (shares : List Share) (w : World) → heir.parent ≡ Some parent → AreShares (handed_by w parent) shares → each_added heir.row shares w ≡ inherits heir w
inherits-shares heir parent shares w is are =
    same-shares heir.row (handed w (Some parent)) shares (shares_of w (Some parent)) w are (are-shares_of w parent)
    ∙ ap (λ above. each_added heir.row (shares_of w above) w) (sym is)

pub inherits-none : (heir : Heir) (w : World) → heir.parent ≡ None → inherits heir w ≡ w
unfolding each_added
inherits-none heir w is = ap (λ above. each_added heir.row (shares_of w above) w) is
