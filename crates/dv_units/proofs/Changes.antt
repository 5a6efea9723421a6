-- The rules of a chart hold on after each change.
use Rattle.std.proofs.Common.{◌≡◌, ◌≢◌, refl, sym, ap, subst, ◌∙◌, List, [], ◌∷◌, Bool, true, false, cond, ℕ, zero, suc, ◌+◌, ◌<◌, ◌≤◌, length, arith, IsSome}
use Rattle.std.proofs.lemmas.Bool.{true≢false, eqb-true, eqb-false, eq-eqb, ne_eqb, or_parts}
use Rattle.std.specs.Prelude.{◌==◌, ◌||◌, Some, None, is_some, if◌then◌else◌}
use Rattle.std.specs.Option.{unwrap_or}
use Rattle.std.specs.Ordering.{nat_cmp}
use Rattle.std.specs.BTreeMap.{is_at}
use Rattle.dv_value.specs.declared.id.Id.{Id}
use Rattle.dv_units.specs.declared.seats.User.{User}
use Rattle.dv_units.specs.declared.seats.Team.{Team}
use Rattle.dv_units.specs.Chart.{Chart, at, has, pair_cmp, is_unit, is_user, is_team, is_taken, root_alone}
use Rattle.dv_units.specs.Tree.{parent_of, up, IsTree}
use Rattle.dv_units.specs.Rules.{most_units, most_members}
use Rattle.dv_units.specs.Index.{chart_of, IsWhole}
use Rattle.dv_units.proofs.TreeLaws.{id-is}
use Rattle.dv_units.proofs.ListLaws.{swapped, pair-is}

-- what a list gives once a value was put at an id
abbrev Gets : {V : Type 0} → Id → V → List (Id × V) → List (Id × V) → Type 0
Gets id value old new = (q : Id) → at new q ≡ cond (id.0 == q.0) (Some value) (at old q)

module _ {V : Type 0} (id : Id) (value : V) (old new : List (Id × V)) (gets : Gets id value old new) where
  pub there-still : (q : Id) → IsSome (at old q) → IsSome (at new q)
  there-still q h = rw (gets q) (elim (id.0 == q.0) as (λ b. is_some (cond b (Some value) (at old q)) ≡ true) [ true ↦ refl | false ↦ h ])

  pub put-there : IsSome (at new id)
  put-there = rw (gets id, eq-eqb id.0 id.0 refl) refl

  pub there-apart : (q : Id) → (id.0 == q.0) ≡ false → at new q ≡ at old q
  there-apart q h = rw (gets q, h) refl

  -- what is there was put or was there before
  pub there-cases : (P : Id → Type 0) (q : Id) → P id → (IsSome (at old q) → P q) → IsSome (at new q) → P q
  there-cases P q here before h =
      elim (id.0 == q.0) as (λ b. (id.0 == q.0) ≡ b → is_some (cond b (Some value) (at old q)) ≡ true → P q) [
        | true ↦ λ is _h. subst P (id-is id q (eqb-true id.0 q.0 is)) here
        | false ↦ λ is h. before h
      ] refl (sym (ap is_some (gets q)) ∙ h)

  -- the value that is there was put or was there before
  pub value-cases : (P : Id → V → Type 0) (q : Id) (v : V) → P id value → (at old q ≡ Some v → P q v) → at new q ≡ Some v → P q v
  value-cases P q v here before h =
      elim (id.0 == q.0) as (λ b. (id.0 == q.0) ≡ b → cond b (Some value) (at old q) ≡ Some v → P q v) [
        | true ↦ λ is h. subst (λ x. P x v) (id-is id q (eqb-true id.0 q.0 is)) (subst (λ y. P id y) (ap (λ o. unwrap_or o value) h) here)
        | false ↦ λ is h. before h
      ] refl (sym (gets q) ∙ h)

  -- what is not there was neither put nor there before
  pub none-still : (q : Id) → (id ≡ q → ⊥) → is_some (at old q) ≡ false → is_some (at new q) ≡ false
  none-still q other h = rw (gets q, ne_eqb id.0 q.0 (λ e. other (id-is id q e))) h

  -- a value put over another leaves no more than there was
  pub same-keys : IsSome (at old id) → (q : Id) → is_some (at new q) ≡ is_some (at old q)
  same-keys there q = rw (gets q)
      (elim (id.0 == q.0) as (λ b. (id.0 == q.0) ≡ b → is_some (cond b (Some value) (at old q)) ≡ is_some (at old q)) [
        | true ↦ λ is. sym (subst (λ x. is_some (at old x) ≡ true) (id-is id q (eqb-true id.0 q.0 is)) there)
        | false ↦ λ is. refl
      ] refl)

-- ids that a chart doesn't have
fresh-parts : (chart : Chart) (id : Id) → is_taken chart id ≡ false → ((id.0 == 0) ≡ false) × ((is_unit chart id ≡ false) × ((is_user chart id ≡ false) × (is_team chart id ≡ false)))
fresh-parts chart id h =
    let a = or_parts (id.0 == 0) (is_unit chart id || (is_user chart id || is_team chart id)) h in
    let b = or_parts (is_unit chart id) (is_user chart id || is_team chart id) a.1 in
    let d = or_parts (is_user chart id) (is_team chart id) b.1 in
    (a.0, (b.0, d))

-- an id that is there isn't one that isn't
other-id : {V : Type 0} (es : List (Id × V)) (id q : Id) → is_some (at es id) ≡ false → IsSome (at es q) → id ≡ q → ⊥
other-id es id q none there e = true≢false (sym there ∙ ap (λ x. is_some (at es x)) (sym e) ∙ none)

other-test : {V : Type 0} (es : List (Id × V)) (id q : Id) → is_some (at es id) ≡ false → IsSome (at es q) → (id.0 == q.0) ≡ false
other-test es id q none there = ne_eqb id.0 q.0 (λ e. other-id es id q none there (id-is id q e))

-- ---- the tree with a unit more
module _ (units new : List (Id × Id)) (id parent : Id) (gets : Gets id parent units new) (tree : IsTree units) where
  parent-same : (x : Id) → (id.0 == x.0) ≡ false → parent_of new x ≡ parent_of units x
  parent-same x h = ap (λ o. unwrap_or o x) (there-apart id parent units new gets x h)

  parent-new : parent_of new id ≡ parent
  parent-new = rw (gets id, eq-eqb id.0 id.0 refl) refl

  parent-is : (u : Id) → IsSome (at units u) → IsSome (at units (parent_of units u))
  parent-is u there =
      elim (at units u) as (λ o. at units u ≡ o → IsSome o → IsSome (at units (unwrap_or o u))) [
        | None ↦ λ is there. absurd (true≢false (sym there))
        | Some p ↦ λ is there. tree.parents u p is
      ] refl there

  up-old : is_some (at units id) ≡ false → (n : ℕ) (x : Id) → IsSome (at units x) → up n new x ≡ up n units x
  unfolding up
  up-old none zero x there = refl
  up-old none (suc n) x there = ap (λ y. up n new y) (parent-same x (other-test units id x none there)) ∙ up-old none n (parent_of units x) (parent-is x there)

  pub tree-added : is_some (at units id) ≡ false → IsSome (at units parent) → IsTree new
  unfolding up
  tree-added none there = record {
    root = tree.root;
    own = there-apart id parent units new gets tree.root (other-test units id tree.root none (ap is_some tree.own)) ∙ tree.own;
    parents = λ u p e. value-cases id parent units new gets (λ _ y. IsSome (at new y)) u p (there-still id parent units new gets parent there) (λ old. there-still id parent units new gets p (tree.parents u p old)) e;
    leads = λ u h. there-cases id parent units new gets (λ x. (levels : ℕ) × (up levels new x ≡ tree.root)) u
        (let way = tree.leads parent there in (suc way.0, ap (λ y. up way.0 new y) parent-new ∙ up-old none way.0 parent there ∙ way.1))
        (λ old. let way = tree.leads u old in (way.0, up-old none way.0 u old ∙ way.1)) h;
  }

  -- ---- and with a unit at another place, which isn't below it
  up-clear : (n : ℕ) (x : Id) → ((k : ℕ) → up k units x ≡ id → ⊥) → up n new x ≡ up n units x
  unfolding up
  up-clear zero x clear = refl
  up-clear (suc n) x clear = ap (λ y. up n new y) (parent-same x (ne_eqb id.0 x.0 (λ e. clear 0 (sym (id-is id x e))))) ∙ up-clear n (parent_of units x) (λ k. clear (suc k))

  to-root : IsSome (at units parent) → ((k : ℕ) → up k units parent ≡ id → ⊥) → (n : ℕ) (x : Id) → up n units x ≡ tree.root → (m : ℕ) × (up m new x ≡ tree.root)
  unfolding up
  to-root there clear zero x leads = (0, leads)
  to-root there clear (suc n) x leads =
      elim (id.0 == x.0) as (λ b. (id.0 == x.0) ≡ b → (m : ℕ) × (up m new x ≡ tree.root)) [
        | true ↦ λ is. let way = tree.leads parent there in
            (suc way.0, ap (λ y. up way.0 new (parent_of new y)) (sym (id-is id x (eqb-true id.0 x.0 is))) ∙ ap (λ y. up way.0 new y) parent-new ∙ up-clear way.0 parent clear ∙ way.1)
        | false ↦ λ is. let way = to-root there clear n (parent_of units x) leads in (suc way.0, ap (λ y. up way.0 new y) (parent-same x is) ∙ way.1)
      ] refl

  pub tree-moved : IsSome (at units id) → IsSome (at units parent) → ((parent_of units id).0 == id.0) ≡ false → ((k : ℕ) → up k units parent ≡ id → ⊥) → IsTree new
  tree-moved here there below clear =
      let apart : (id.0 == tree.root.0) ≡ false = ne_eqb id.0 tree.root.0 (λ e. eqb-false (parent_of units id).0 id.0 below
      (ap (λ (x : Id). x.0) (subst (λ x. parent_of units x ≡ x) (sym (id-is id tree.root e)) (ap (λ o. unwrap_or o tree.root) tree.own)))) in
      record {
        root = tree.root;
        own = there-apart id parent units new gets tree.root apart ∙ tree.own;
        parents = λ u p e. value-cases id parent units new gets (λ _ y. IsSome (at new y)) u p (there-still id parent units new gets parent there) (λ old. there-still id parent units new gets p (tree.parents u p old)) e;
        leads = λ u h. let old : IsSome (at units u) = sym (same-keys id parent units new gets here u) ∙ h in let way = tree.leads u old in to-root there clear way.0 u way.1;
      }

-- ---- the chart
pub begun : (root : Id) → root.0 ≢ 0 → IsWhole (root_alone root) []
unfolding up
begun root named = record {
  rules = record {
    tree = record {
      root = root;
      own = rw (eq-eqb root.0 root.0 refl) refl;
      parents = λ u p e. subst (λ x. IsSome (at ((root, root) ∷ []) x)) (only-root u p e) (rw (eq-eqb root.0 root.0 refl) refl);
      leads = λ u h. (0, only u h);
    };
    named = λ id h. subst (λ (x : Id). x.0 ≢ 0) (sym (only id h)) named;
    user_named = λ id h. absurd (true≢false (sym h));
    team_named = λ id h. absurd (true≢false (sym h));
    user_apart = λ id h. absurd (true≢false (sym h));
    team_apart = λ id h. absurd (true≢false (sym h));
    users_apart = λ id h. absurd (true≢false (sym h));
    user_unit = λ id user e. absurd (true≢false (sym (ap is_some e)));
    team_unit = λ id team e. absurd (true≢false (sym (ap is_some e)));
    member_team = λ team user h. absurd (true≢false (sym h));
    member_user = λ team user h. absurd (true≢false (sym h));
    few_units = omega arith;
    few_users = omega arith;
    few_teams = omega arith;
    few_members = omega arith;
  };
  turned = λ team user. refl;
}
  where
    only : (id : Id) → is_some (cond (id.0 == root.0) (Some root) None) ≡ true → id ≡ root
    only id h = elim (id.0 == root.0) as (λ b. (id.0 == root.0) ≡ b → is_some (cond b (Some root) None) ≡ true → id ≡ root) [
      | true ↦ λ is h. id-is id root (eqb-true id.0 root.0 is)
      | false ↦ λ is h. absurd (true≢false (sym h))
    ] refl h

    only-root : (id p : Id) → cond (id.0 == root.0) (Some root) None ≡ Some p → root ≡ p
    only-root id p h = elim (id.0 == root.0) as (λ b. cond b (Some root) None ≡ Some p → root ≡ p) [
      | true ↦ λ h. ap (λ o. unwrap_or o root) h
      | false ↦ λ h. absurd (true≢false (sym (ap is_some h)))
    ] h

module _ (units : List (Id × Id)) (users : List (Id × User)) (teams : List (Id × Team)) (members joined : List (Id × Id)) (w : IsWhole (chart_of units users teams members) joined) where
  -- units put, where none was taken away and none came that a user or a team has
  units-put : (new : List (Id × Id)) (id parent : Id) → Gets id parent units new → id.0 ≢ 0 → is_some (at users id) ≡ false → is_some (at teams id) ≡ false → IsTree new → length new ≤ most_units → IsWhole (chart_of new users teams members) joined
  units-put new id parent gets named no_user no_team tree few = record {
    rules = record {
      tree = tree;
      named = λ q h. there-cases id parent units new gets (λ x. x.0 ≢ 0) q named (w.rules.named q) h;
      user_named = w.rules.user_named;
      team_named = w.rules.team_named;
      user_apart = λ q h. none-still id parent units new gets q (other-id users id q no_user h) (w.rules.user_apart q h);
      team_apart = λ q h. none-still id parent units new gets q (other-id teams id q no_team h) (w.rules.team_apart q h);
      users_apart = w.rules.users_apart;
      user_unit = λ q user e. there-still id parent units new gets user.unit (w.rules.user_unit q user e);
      team_unit = λ q team e. there-still id parent units new gets team.unit (w.rules.team_unit q team e);
      member_team = w.rules.member_team;
      member_user = w.rules.member_user;
      few_units = few;
      few_users = w.rules.few_users;
      few_teams = w.rules.few_teams;
      few_members = w.rules.few_members;
    };
    turned = w.turned;
  }

  pub unit-added : (now : Chart) → chart_of units users teams members ≡ now → (new : List (Id × Id)) (id parent : Id) → Gets id parent units new → is_taken now id ≡ false → is_unit now parent ≡ true → length units < most_units
      → length new ≡ length units + (if is_some (at units id) then 0 else 1) → IsWhole (chart_of new users teams members) joined
  unit-added now view new id parent gets fresh there few len =
      let f = fresh-parts (chart_of units users teams members) id (subst (λ x. is_taken x id ≡ false) (sym view) fresh) in
      let long : length new ≡ length units + 1 = rw f.1.0 at len in
      units-put new id parent gets (eqb-false id.0 0 f.0) f.1.1.0 f.1.1.1
      (tree-added units new id parent gets w.rules.tree f.1.0 (subst (λ x. is_unit x parent ≡ true) (sym view) there)) (omega (arith, long))

  pub unit-moved : (now : Chart) → chart_of units users teams members ≡ now → (new : List (Id × Id)) (id parent : Id) → Gets id parent units new → is_unit now id ≡ true → is_unit now parent ≡ true → ((parent_of now.units id).0 == id.0) ≡ false
      → ((k : ℕ) → up k now.units parent ≡ id → ⊥) → length new ≡ length units + (if is_some (at units id) then 0 else 1) → IsWhole (chart_of new users teams members) joined
  unit-moved now view new id parent gets here there below clear len =
      let there' : IsSome (at units id) = subst (λ x. is_unit x id ≡ true) (sym view) here in
      let long : length new ≡ length units + 0 = rw there' at len in
      let bound = w.rules.few_units in
      let no : (o : Bool) → (o ≡ true → is_some (at units id) ≡ false) → o ≡ false = λ o h. elim o as (λ b. (b ≡ true → is_some (at units id) ≡ false) → b ≡ false) [ true ↦ λ h. absurd (true≢false (sym there' ∙ h refl)) | false ↦ λ h. refl ] h in
      units-put new id parent gets (w.rules.named id there') (no (is_some (at users id)) (w.rules.user_apart id)) (no (is_some (at teams id)) (w.rules.team_apart id))
      (tree-moved units new id parent gets w.rules.tree there' (subst (λ x. is_unit x parent ≡ true) (sym view) there) (subst (λ (x : Chart). ((parent_of x.units id).0 == id.0) ≡ false) (sym view) below) (subst (λ (x : Chart). (k : ℕ) → up k x.units parent ≡ id → ⊥) (sym view) clear))
      (omega (arith, long, bound))

  -- a user that is there, changed
  pub user-changed : (new : List (Id × User)) (id : Id) (user : User) → Gets id user users new → IsSome (at users id) → IsSome (at units user.unit) → length new ≡ length users + (if is_some (at users id) then 0 else 1) → IsWhole (chart_of units new teams members) joined
  user-changed new id user gets here there len =
      let long : length new ≡ length users + 0 = rw here at len in
      let bound = w.rules.few_users in
      let same = same-keys id user users new gets here in
      record {
        rules = record {
          tree = w.rules.tree;
          named = w.rules.named;
          user_named = λ q h. w.rules.user_named q (sym (same q) ∙ h);
          team_named = w.rules.team_named;
          user_apart = λ q h. w.rules.user_apart q (sym (same q) ∙ h);
          team_apart = w.rules.team_apart;
          users_apart = λ q h. same q ∙ w.rules.users_apart q h;
          user_unit = λ q found e. value-cases id user users new gets (λ _ (y : User). IsSome (at units y.unit)) q found there (w.rules.user_unit q found) e;
          team_unit = w.rules.team_unit;
          member_team = w.rules.member_team;
          member_user = λ team q h. same q ∙ w.rules.member_user team q h;
          few_units = w.rules.few_units;
          few_users = omega (arith, long, bound);
          few_teams = w.rules.few_teams;
          few_members = w.rules.few_members;
        };
        turned = w.turned;
      }

-- ---- members
module _ (units : List (Id × Id)) (users : List (Id × User)) (teams : List (Id × Team)) (members joined : List (Id × Id)) (w : IsWhole (chart_of units users teams members) joined)
    (new turned : List (Id × Id)) (team user : Id) where
  -- the two lists of members changed alike
  pub members-changed : (b : Bool) → ((q : Id × Id) → has new q ≡ cond (is_at (pair_cmp (team, user)) q) b (has members q)) → ((q : Id × Id) → has turned q ≡ cond (is_at (pair_cmp (user, team)) q) b (has joined q))
      → (b ≡ true → IsSome (at teams team)) → (b ≡ true → IsSome (at users user)) → length new ≤ most_members → IsWhole (chart_of units users teams new) turned
  members-changed b has_new has_turned team_there user_there few = record {
    rules = record {
      tree = w.rules.tree;
      named = w.rules.named;
      user_named = w.rules.user_named;
      team_named = w.rules.team_named;
      user_apart = w.rules.user_apart;
      team_apart = w.rules.team_apart;
      users_apart = w.rules.users_apart;
      user_unit = w.rules.user_unit;
      team_unit = w.rules.team_unit;
      member_team = λ t u h. cases t u h (λ x y. IsSome (at teams x)) team_there (w.rules.member_team t u);
      member_user = λ t u h. cases t u h (λ x y. IsSome (at users y)) user_there (w.rules.member_user t u);
      few_units = w.rules.few_units;
      few_users = w.rules.few_users;
      few_teams = w.rules.few_teams;
      few_members = few;
    };
    turned = λ t u. has_turned (u, t) ∙ ap (λ (x : Bool). cond x b (has joined (u, t))) (swapped (nat_cmp user.0 u.0) (nat_cmp team.0 t.0)) ∙ ap (λ (x : Bool). cond (is_at (pair_cmp (team, user)) (t, u)) b x) (w.turned t u) ∙ sym (has_new (t, u));
  }
    where
      cases : (t u : Id) → has new (t, u) ≡ true → (P : Id → Id → Type 0) → (b ≡ true → P team user) → (has members (t, u) ≡ true → P t u) → P t u
      cases t u h P here before =
          elim (is_at (pair_cmp (team, user)) (t, u)) as (λ (x : Bool). is_at (pair_cmp (team, user)) (t, u) ≡ x → cond x b (has members (t, u)) ≡ true → P t u) [
            | true ↦ λ is h. let e = pair-is team user t u is in subst (λ x. P x u) e.0 (subst (λ y. P team y) e.1 (here h))
            | false ↦ λ is h. before h
          ] refl (sym (has_new (t, u)) ∙ h)
