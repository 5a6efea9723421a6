-- Pairs of a user or a team and a role: what one of them passes, and what is left without a user's.
use Rattle.std.proofs.Common.{◌≡◌, refl, sym, ap, subst, ◌∙◌, List, [], ◌∷◌, Bool, true, false, cond, rules}
use Rattle.std.proofs.lemmas.Bool.{true≢false, eqb-true, eq-eqb}
use Rattle.std.specs.Prelude.{◌==◌, ◌&&◌, ◌||◌, not}
use Rattle.std.specs.List.{list_any}
use Rattle.std.specs.BTreeMap.{is_at}
use Rattle.dv_value.specs.declared.id.Id.{Id}
use Rattle.dv_units.specs.Chart.{has, pair_cmp, without_pair}
use Rattle.dv_units.specs.Membership.{is_in_team}
use Rattle.dv_units.proofs.ListLaws.{pair-is}
use Rattle.dv_units.proofs.TreeLaws.{id-is}
use Rattle.dv_roles.specs.declared.held.Asked.{Asked}
use Rattle.dv_roles.specs.Gifts.{without_gifts_of}
use Rattle.dv_roles.specs.State.{State, administrator}
use Rattle.dv_roles.specs.Held.{allows, any_allows, is_owner_team, team_allows, has_from_team}
use Rattle.dv_roles.specs.Messages.{is_enabled, has_other_admin}

or-true : (a : Bool) {b : Bool} → b ≡ true → (a || b) ≡ true
or-true true h = refl
or-true false h = h

pub any-mono : {A : Type 0} (p q : A → Bool) (xs : List A) → ((x : A) → p x ≡ true → q x ≡ true) → list_any p xs ≡ true → list_any q xs ≡ true
any-mono p q [] more h = h
any-mono p q (x ∷ xs) more h =
    elim (p x) as (λ b. p x ≡ b → (b || list_any p xs) ≡ true → (q x || list_any q xs) ≡ true) [
      | true ↦ λ is _h. rw (more x is) refl
      | false ↦ λ is h. or-true (q x) (any-mono p q xs more h)
    ] refl h

pub any-never : {A : Type 0} (p : A → Bool) (xs : List A) → ((x : A) → p x ≡ false) → list_any p xs ≡ false
any-never p [] none = refl
any-never p (x ∷ xs) none = rw (none x) (any-never p xs none)

pub own-pair : (x : Id × Id) → is_at (pair_cmp x) x ≡ true
own-pair x = search rules

-- one that is there and passes
pub any-has : (test : Id × Id → Bool) (gifts : List (Id × Id)) (p r : Id) → has gifts (p, r) ≡ true → test (p, r) ≡ true → list_any test gifts ≡ true
any-has test [] p r there passes = absurd (true≢false (sym there))
any-has test (x ∷ xs) p r there passes =
    elim (is_at (pair_cmp (p, r)) x) as (λ b. is_at (pair_cmp (p, r)) x ≡ b → (b || has xs (p, r)) ≡ true → (test x || list_any test xs) ≡ true) [
      | true ↦ λ is _h. let e = pair-is p r x.0 x.1 is in ap (λ b. b || list_any test xs) (subst (λ y. test (y, x.1) ≡ true) e.0 (subst (λ y. test (p, y) ≡ true) e.1 passes))
      | false ↦ λ is h. or-true (test x) (any-has test xs p r h passes)
    ] refl there

-- none that is there passes
pub any-none : (test : Id × Id → Bool) (gifts : List (Id × Id)) → ((p r : Id) → has gifts (p, r) ≡ true → test (p, r) ≡ false) → list_any test gifts ≡ false
any-none test [] none = refl
any-none test (x ∷ xs) none = rw (none x.0 x.1 (ap (λ b. b || has xs x) (own-pair x))) (any-none test xs (λ p r h. none p r (or-true (is_at (pair_cmp (p, r)) x) h)))

module _ (d : State) where
  pub any_allows-some : (asked : Asked) (principal role : Id) → has d.gifts (principal, role) ≡ true → allows d asked role ≡ true → any_allows d asked principal ≡ true
  any_allows-some asked principal role there passes =
      any-has (λ gift. (gift.0.0 == principal.0) && allows d asked gift.1) d.gifts principal role there (rw (eq-eqb principal.0 principal.0 refl, passes) refl)

  pub any_allows-none : (asked : Asked) (principal : Id) → ((role : Id) → has d.gifts (principal, role) ≡ true → allows d asked role ≡ false) → any_allows d asked principal ≡ false
  any_allows-none asked principal none = any-none (λ gift. (gift.0.0 == principal.0) && allows d asked gift.1) d.gifts each
    where
      each : (p r : Id) → has d.gifts (p, r) ≡ true → ((p.0 == principal.0) && allows d asked r) ≡ false
      each p r there =
          elim (p.0 == principal.0) as (λ b. (p.0 == principal.0) ≡ b → (b && allows d asked r) ≡ false) [
            | true ↦ λ is. none r (subst (λ x. has d.gifts (x, r) ≡ true) (id-is p principal (eqb-true p.0 principal.0 is)) there)
            | false ↦ λ is. refl
          ] refl

  pub has_from_team-some : (asked : Asked) (user team : Id) → is_in_team d.chart user team ≡ true → team_allows d asked team ≡ true → has_from_team d asked user ≡ true
  unfolding has_from_team team_allows
  has_from_team-some asked user team is passes =
      any-mono (λ gift. (gift.0.0 == team.0) && allows d asked gift.1) (λ gift. is_in_team d.chart user gift.0 && team_allows d asked gift.0) d.gifts
      (λ gift h. let e = id-is gift.0 team (eqb-true gift.0.0 team.0 (left (gift.0.0 == team.0) (allows d asked gift.1) h)) in
      subst (λ x. (is_in_team d.chart user x && team_allows d asked x) ≡ true) (sym e) (rw (is, passes) refl))
      (by-gift passes)
    where
      left : (a b : Bool) → (a && b) ≡ true → a ≡ true
      left true b h = refl
      left false b h = h

      right : (a b : Bool) → (a && b) ≡ true → b ≡ true
      right true b h = h
      right false b h = absurd (true≢false (sym h))

      by-gift : team_allows d asked team ≡ true → any_allows d asked team ≡ true
      by-gift h = right (is_owner_team d.chart team) (any_allows d asked team) h

  pub has_from_team-none : (asked : Asked) (user : Id) → ((team : Id) → is_in_team d.chart user team ≡ true → team_allows d asked team ≡ false) → has_from_team d asked user ≡ false
  unfolding has_from_team
  has_from_team-none asked user none = any-never (λ gift. is_in_team d.chart user gift.0 && team_allows d asked gift.0) d.gifts (λ gift. clear gift.0)
    where
      clear : (id : Id) → (is_in_team d.chart user id && team_allows d asked id) ≡ false
      clear id =
          elim (is_in_team d.chart user id) as (λ b. is_in_team d.chart user id ≡ b → (b && team_allows d asked id) ≡ false) [
            | true ↦ λ is. none id is
            | false ↦ λ is. refl
          ] refl

  -- whether a user besides one is enabled
  abbrev pub is_other : Id → Id → Bool
  is_other user id = not (id.0 == user.0) && is_enabled d id

  pub has_other_admin-some : (user admin : Id) → has d.gifts (admin, administrator) ≡ true → is_other user admin ≡ true → has_other_admin d user ≡ true
  has_other_admin-some user admin there other = any-has (λ gift. (gift.1.0 == 0) && is_other user gift.0) d.gifts admin administrator there other

  pub has_other_admin-none : (user : Id) → ((admin : Id) → has d.gifts (admin, administrator) ≡ true → is_other user admin ≡ false) → has_other_admin d user ≡ false
  has_other_admin-none user none = any-none (λ gift. (gift.1.0 == 0) && is_other user gift.0) d.gifts each
    where
      each : (p r : Id) → has d.gifts (p, r) ≡ true → ((r.0 == 0) && is_other user p) ≡ false
      each p r there =
          elim (r.0 == 0) as (λ b. (r.0 == 0) ≡ b → (b && is_other user p) ≡ false) [
            | true ↦ λ is. none p (subst (λ x. has d.gifts (p, x) ≡ true) (id-is r administrator (eqb-true r.0 0 is)) there)
            | false ↦ λ is. refl
          ] refl

-- ---- without the pairs of a user or a team
-- one of them less
pub without_gifts-removed : (principal role : Id) (gifts : List (Id × Id)) → without_gifts_of (without_pair gifts (principal, role)) principal ≡ without_gifts_of gifts principal
without_gifts-removed principal role [] = refl
without_gifts-removed principal role (x ∷ xs) =
    elim (is_at (pair_cmp (principal, role)) x) as (λ b. is_at (pair_cmp (principal, role)) x ≡ b → without_gifts_of (cond b xs (x ∷ without_pair xs (principal, role))) principal ≡ without_gifts_of (x ∷ xs) principal) [
      | true ↦ λ is. let e = pair-is principal role x.0 x.1 is in rw (eq-eqb x.0.0 principal.0 (ap (λ (i : Id). i.0) (sym e.0))) refl
      | false ↦ λ is. ap (λ rest. cond (not (x.0.0 == principal.0)) (x ∷ rest) rest) (without_gifts-removed principal role xs)
    ] refl

-- none of them is left
pub without_gifts-none : (principal : Id) (gifts : List (Id × Id)) → ((role : Id) → has gifts (principal, role) ≡ false) → gifts ≡ without_gifts_of gifts principal
without_gifts-none principal [] none = refl
without_gifts-none principal (x ∷ xs) none =
    elim (x.0.0 == principal.0) as (λ b. (x.0.0 == principal.0) ≡ b → (x ∷ xs) ≡ cond (not b) (x ∷ without_gifts_of xs principal) (without_gifts_of xs principal)) [
      | true ↦ λ is. absurd (true≢false (sym (subst (λ p. has (x ∷ xs) (p, x.1) ≡ true) (id-is x.0 principal (eqb-true x.0.0 principal.0 is)) (ap (λ b. b || has xs x) (own-pair x))) ∙ none x.1))
      | false ↦ λ is. ap (λ rest. x ∷ rest) (without_gifts-none principal xs (λ role. rest-none role))
    ] refl
  where
    rest-none : (role : Id) → has xs (principal, role) ≡ false
    rest-none role = right (is_at (pair_cmp (principal, role)) x) (has xs (principal, role)) (none role)
      where
        right : (a b : Bool) → (a || b) ≡ false → b ≡ false
        right true b h = absurd (true≢false h)
        right false b h = h
