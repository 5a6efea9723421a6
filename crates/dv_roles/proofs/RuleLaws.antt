-- Each change of a directory keeps the rules on who has which roles.
use Rattle.std.proofs.Common.{◌≡◌, ◌≢◌, refl, sym, ap, subst, ◌∙◌, ℕ, List, Bool, true, false, cond, codes}
use Rattle.std.proofs.lemmas.Bool.{true≢false, and_parts, or_parts, eqb-true, eqb-false, eq-eqb, ne_eqb}
use Rattle.std.specs.Prelude.{Option, Some, None, Result, Ok, Err, ◌==◌, ◌||◌, ◌&&◌, not, is_some, nat_le, length}
use Rattle.std.specs.Option.{option_map_or}
use Rattle.dv_value.specs.declared.id.Id.{Id}
use Rattle.dv_refusal.specs.declared.what.What.TheVariants as what
use Rattle.dv_refusal.specs.declared.refusal.Refusal.{Refusal}
use Rattle.dv_refusal.specs.declared.refusal.Refusal.TheVariants.{DirectoryIdTaken, BadPrincipal, UnknownRole, UnknownUnit, UnknownUser, TeamRule, RoleRule, LastAdmin, Limit}
use Rattle.dv_schema.specs.declared.definition.Definition.{Definition}
use Rattle.dv_schema.specs.declared.opening.Entry.{Entry}
use Rattle.dv_schema.specs.declared.opening.Role.{Role}
use Rattle.dv_units.specs.declared.seats.User.{User as Kept}
use Rattle.dv_units.specs.Chart.{Chart, at, has, is_unit, is_team, is_taken, with_unit, with_user, with_team, without_pair}
use Rattle.dv_units.specs.Chart as chart
use Rattle.dv_units.specs.Membership.{unit_of}
use Rattle.dv_units.specs.Messages.{moving_user, enabling_user}
use Rattle.dv_units.proofs.TreeLaws.{id-is}
use Rattle.dv_roles.specs.declared.principal.Principal.{Principal}
use Rattle.dv_roles.specs.declared.principal.Principal.TheVariants.{User, OwnerTeam, AccessTeam}
use Rattle.dv_roles.specs.declared.role.SecurityRole.{SecurityRole}
use Rattle.dv_roles.specs.State.{State, administrator, is_role, principal_of, with_chart, with_role, with_gifts, with_gift, without_gift, without_roles}
use Rattle.dv_roles.specs.Entries.{entries_fault}
use Rattle.dv_roles.specs.Gifts.{without_gifts_of}
use Rattle.dv_roles.specs.Messages.{most_roles, role_of, adding_role, setting_privileges, giving_role, taking_role, is_enabled, has_other_admin, moving, enabling}
use Rattle.dv_roles.specs.Held.{is_user}
use Rattle.dv_roles.specs.Rules.{may_have_roles, HasRules, Keeps}
use Rattle.dv_roles.proofs.Outcomes.{made, ok-is, err-not, test-ok}
use Rattle.dv_roles.proofs.PutLaws.{at-put, has-with, with-cases, without-was, without-stays, of-was, of-stays, some-pair}

pub keeps-own : (d : State) → Keeps d d
keeps-own d = record { owned = refl; rules = λ h. h }

pub keeps-over : (d e f : State) → Keeps d e → Keeps e f → Keeps d f
keeps-over d e f one two = record { owned = two.owned ∙ one.owned; rules = λ h. two.rules (one.rules h) }

-- ---- roles
or-true : (a : Bool) {b : Bool} → b ≡ true → (a || b) ≡ true
or-true true h = refl
or-true false h = h

-- a role that is there is there with another
role-stays : (d : State) (id : Id) (role : SecurityRole) (q : Id) → is_role d q ≡ true → is_role (with_role d id role) q ≡ true
role-stays d id role q h = rw (at-put id role d.roles q) (by (q.0 == 0) (id.0 == q.0) h)
  where
    by : (a b : Bool) → (a || is_some (at d.roles q)) ≡ true → (a || is_some (cond b (Some role) (at d.roles q))) ≡ true
    by true b h = refl
    by false true h = refl
    by false false h = h

pub with_role-keeps : (d : State) (id : Id) (role : SecurityRole) → (id.0 == 0) ≡ false → Keeps d (with_role d id role)
with_role-keeps d id role named = record {
  owned = refl;
  rules = λ r. record {
    named = λ q h. of r q (id.0 == q.0) refl (sym (ap is_some (at-put id role d.roles q)) ∙ h);
    roles = λ p q h. role-stays d id role q (r.roles p q h);
    holders = r.holders;
    users = r.users;
    admin = r.admin;
    admin_has = r.admin_has;
    admin_enabled = r.admin_enabled;
  };
}
  where
    of : HasRules d → (q : Id) (b : Bool) → (id.0 == q.0) ≡ b → is_some (cond b (Some role) (at d.roles q)) ≡ true → q.0 ≢ 0
    of r q true same h = λ e. eqb-false id.0 0 named (eqb-true id.0 q.0 same ∙ e)
    of r q false other h = r.named q h

pub adding_role-keeps : (d e : State) (definition : Definition) (role : Role) → adding_role d definition role ≡ Ok e → Keeps d e
unfolding adding_role
adding_role-keeps d e definition role h = by (is_role d role.id) refl h
  where
    kept : SecurityRole
    kept = role_of definition role.direct role.manage role.entries

    named : is_role d role.id ≡ false → (role.id.0 == 0) ≡ false
    named free = (or_parts (role.id.0 == 0) (is_some (at d.roles role.id)) free).0

    of : is_role d role.id ≡ false → (o : Option Refusal) → entries_fault definition role.entries ≡ o → adding_role d definition role ≡ Ok e → Keeps d e
    of free (Some refusal) fault h = absurd (err-not refusal e (sym (rw (free, fault) refl) ∙ h))
    of free None fault h =
        let rest : cond (nat_le most_roles (length d.roles)) (Err (Limit what.Role)) (Ok (with_role d role.id kept)) ≡ Ok e = sym (rw (free, fault) refl) ∙ h in
        subst (λ f. Keeps d f) (ok-is (with_role d role.id kept) e (test-ok (nat_le most_roles (length d.roles)) (Limit what.Role) (Ok (with_role d role.id kept)) e rest).1)
        (with_role-keeps d role.id kept (named free))

    by : (b : Bool) → is_role d role.id ≡ b → adding_role d definition role ≡ Ok e → Keeps d e
    by true taken h = absurd (err-not DirectoryIdTaken e (sym (rw taken refl) ∙ h))
    by false free h = of free (entries_fault definition role.entries) refl h

-- ---- gifts
pub with_gift-keeps : (d : State) (role to : Id) → is_role d role ≡ true → may_have_roles d.chart to ≡ true → (role.0 ≡ 0 → is_user d.chart to ≡ true) → Keeps d (with_gift d role to)
with_gift-keeps d role to there may users = by (has d.gifts (to, role)) refl
  where
    added : HasRules d → has d.gifts (to, role) ≡ false → HasRules (with_gift d role to)
    added r new = rw new (record {
      named = r.named;
      roles = λ p q h. with-cases (λ pair. is_role d pair.1 ≡ true) (to, role) (p, q) d.gifts there (r.roles p q) h;
      holders = λ p q h. with-cases (λ pair. may_have_roles d.chart pair.0 ≡ true) (to, role) (p, q) d.gifts may (r.holders p q) h;
      users = λ p h. with-cases (λ pair. pair.1.0 ≡ 0 → is_user d.chart pair.0 ≡ true) (to, role) (p, administrator) d.gifts users (λ old _e. r.users p old) h refl;
      admin = r.admin;
      admin_has = has-with (to, role) (r.admin, administrator) d.gifts r.admin_has;
      admin_enabled = r.admin_enabled;
    })

    by : (b : Bool) → has d.gifts (to, role) ≡ b → Keeps d (with_gift d role to)
    by true old = rw old (keeps-own d)
    by false new = record { owned = refl; rules = λ r. added r new }

pub giving_role-keeps : (d e : State) (role to : Id) → giving_role d role to ≡ Ok e → Keeps d e
unfolding giving_role
giving_role-keeps d e role to h =
    let first = test-ok (not (is_role d role)) UnknownRole _ e h in
    by (flip (is_role d role) first.0) (principal_of d.chart to) refl h
  where
    flip : (b : Bool) → not b ≡ false → b ≡ true
    flip true h = refl
    flip false h = absurd (true≢false h)

    given : is_role d role ≡ true → may_have_roles d.chart to ≡ true → (role.0 ≡ 0 → is_user d.chart to ≡ true) → made (with_gift d role to) ≡ made e → Keeps d e
    given there may users h = subst (λ f. Keeps d f) (ok-is (with_gift d role to) e h) (with_gift-keeps d role to there may users)

    by : is_role d role ≡ true → (p : Option Principal) → principal_of d.chart to ≡ p → giving_role d role to ≡ Ok e → Keeps d e
    by there None is h = absurd (err-not BadPrincipal e (sym (rw (there, is) refl) ∙ h))
    by there (Some AccessTeam) is h = absurd (err-not (TeamRule (codes "access")) e (sym (rw (there, is) refl) ∙ h))
    by there (Some OwnerTeam) is h =
        let rest : cond (role.0 == 0) (Err (RoleRule (codes "admin"))) (Ok (with_gift d role to)) ≡ Ok e = sym (rw (there, is) refl) ∙ h in
        let other = test-ok (role.0 == 0) (RoleRule (codes "admin")) (Ok (with_gift d role to)) e rest in
        given there (rw is refl) (λ nil. absurd (eqb-false role.0 0 other.0 nil)) other.1
    by there (Some User) is h = given there (rw is refl) (λ nil. rw is refl) (sym (rw (there, is) refl) ∙ h)

-- an enabled user besides one, who has the System Administrator role
other-admin : (d : State) (user : Id) → has_other_admin d user ≡ true → (a : Id) × ((a.0 ≡ user.0 → ⊥) × ((has d.gifts (a, administrator) ≡ true) × (is_enabled d a ≡ true)))
other-admin d user h =
    let found = some-pair (λ gift. (gift.1.0 == 0) && (not (gift.0.0 == user.0) && is_enabled d gift.0)) d.gifts h in
    let pair = found.0 in
    let one = and_parts (pair.1.0 == 0) (not (pair.0.0 == user.0) && is_enabled d pair.0) found.1.1 in
    let two = and_parts (not (pair.0.0 == user.0)) (is_enabled d pair.0) one.1 in
    (pair.0, (apart (pair.0.0 == user.0) refl two.0, (subst (λ role. has d.gifts (pair.0, role) ≡ true) (id-is pair.1 administrator (eqb-true pair.1.0 0 one.0)) found.1.0, two.1)))
  where
    apart : {x y : ℕ} (b : Bool) → (x == y) ≡ b → not b ≡ true → x ≡ y → ⊥
    apart true is h = absurd (true≢false (sym h))
    apart {x} {y} false is h = eqb-false x y is

-- another chart in which whoever has a role is who it was, and fewer gifts, an administrator's among them
pub rules-from : (d : State) (chart : Chart) (gifts : List (Id × Id)) → ((p : Id) → may_have_roles d.chart p ≡ true → principal_of chart p ≡ principal_of d.chart p)
    → ((q : Id × Id) → has gifts q ≡ true → has d.gifts q ≡ true) → (a : Id) → has gifts (a, administrator) ≡ true → is_enabled (with_chart d chart) a ≡ true → HasRules d → HasRules (with_gifts (with_chart d chart) gifts)
rules-from d chart gifts same was a holds enabled r = record {
  named = r.named;
  roles = λ p q h. r.roles p q (was (p, q) h);
  holders = λ p q h. let may = r.holders p q (was (p, q) h) in rw (same p may) may;
  users = λ p h. let old = was (p, administrator) h in rw (same p (r.holders p administrator old)) (r.users p old);
  admin = a;
  admin_has = holds;
  admin_enabled = enabled;
}

pub without_gift-keeps : (d : State) (role from : Id) → ((role.0 == 0) && not (has_other_admin d from)) ≡ false → Keeps d (without_gift d role from)
without_gift-keeps d role from allowed = record { owned = refl; rules = λ r. by r (role.0 == 0) refl }
  where
    was : (q : Id × Id) → has (without_pair d.gifts (from, role)) q ≡ true → has d.gifts q ≡ true
    was q h = without-was (from, role) q d.gifts h

    other : (b : Bool) → not b ≡ false → b ≡ true
    other true h = refl
    other false h = absurd (true≢false h)

    by : HasRules d → (b : Bool) → (role.0 == 0) ≡ b → HasRules (without_gift d role from)
    by r true nil =
        let a = other-admin d from (other (has_other_admin d from) (sym (ap (λ b. b && not (has_other_admin d from)) nil) ∙ allowed)) in
        rules-from d d.chart (without_pair d.gifts (from, role)) (λ p may. refl) was a.0
        (without-stays (from, role) (a.0, administrator) d.gifts (λ e. a.1.0 (ap (λ (q : Id × Id). q.0.0) e)) a.1.1.0) a.1.1.1 r
    by r false other =
        rules-from d d.chart (without_pair d.gifts (from, role)) (λ p may. refl) was r.admin
        (without-stays (from, role) (r.admin, administrator) d.gifts (λ e. eqb-false role.0 0 other (sym (ap (λ (q : Id × Id). q.1.0) e))) r.admin_has) r.admin_enabled r

pub taking_role-keeps : (d e : State) (role from : Id) → taking_role d role from ≡ Ok e → Keeps d e
unfolding taking_role
taking_role-keeps d e role from h =
    let first = test-ok (not (is_role d role)) UnknownRole _ e h in
    by first.0 (principal_of d.chart from) refl h
  where
    by : not (is_role d role) ≡ false → (p : Option Principal) → principal_of d.chart from ≡ p → taking_role d role from ≡ Ok e → Keeps d e
    by there None is h = absurd (err-not BadPrincipal e (sym (rw (there, is) refl) ∙ h))
    by there (Some p) is h =
        let test = (role.0 == 0) && not (has_other_admin d from) in
        let rest : cond test (Err LastAdmin) (Ok (without_gift d role from)) ≡ Ok e = sym (rw (there, is) refl) ∙ h in
        let last = test-ok test LastAdmin (Ok (without_gift d role from)) e rest in
        subst (λ f. Keeps d f) (ok-is (without_gift d role from) e last.1) (without_gift-keeps d role from last.0)

-- ---- users
-- a user that is there stays who it is, and so does everybody else
principal-same : (c : Chart) (user : Id) (kept found : Kept) → at c.users user ≡ Some found → (p : Id) → principal_of (with_user c user kept) p ≡ principal_of c p
unfolding principal_of
principal-same c user kept found there p = rw (test (user.0 == p.0) refl) refl
  where
    test : (b : Bool) → (user.0 == p.0) ≡ b → is_some (at (chart.put c.users user kept) p) ≡ is_some (at c.users p)
    test true is = ap is_some (at-put user kept c.users p) ∙ rw is (sym (ap is_some (subst (λ x. at c.users x ≡ Some found) (id-is user p (eqb-true user.0 p.0 is)) there)))
    test false is = ap is_some (at-put user kept c.users p) ∙ rw is refl

-- another user is enabled as it was
enabled-same : (d : State) (user : Id) (kept : Kept) (a : Id) → (a.0 ≡ user.0 → ⊥) → is_enabled (with_chart d (with_user d.chart user kept)) a ≡ is_enabled d a
enabled-same d user kept a other =
    ap (λ (o : Option Kept). option_map_or (λ found. found.enabled) o false) (at-put user kept d.chart.users a)
    ∙ rw (ne_eqb user.0 a.0 (λ e. other (sym e))) refl

moved-is : (c e : Chart) (user unit : Id) → moving_user c user unit ≡ Ok e → (found : Kept) × ((at c.users user ≡ Some found) × (with_user c user (record { unit = unit; enabled = found.enabled }) ≡ e))
unfolding moving_user
moved-is c e user unit h = by (at c.users user) refl h
  where
    by : (o : Option Kept) → at c.users user ≡ o → moving_user c user unit ≡ Ok e → (found : Kept) × ((at c.users user ≡ Some found) × (with_user c user (record { unit = unit; enabled = found.enabled }) ≡ e))
    by None is h = absurd (err-not UnknownUser e (sym (rw is refl) ∙ h))
    by (Some found) is h =
        let new = with_user c user (record { unit = unit; enabled = found.enabled }) in
        let rest : cond (not (is_unit c unit)) (Err UnknownUnit) (Ok new) ≡ Ok e = sym (rw is refl) ∙ h in
        (found, (is, ok-is new e (test-ok (not (is_unit c unit)) UnknownUnit (Ok new) e rest).1))

pub moving-keeps : (d e : State) (user unit : Id) → moving d user unit ≡ Ok e → Keeps d e
unfolding moving
moving-keeps d e user unit h = by (moving_user d.chart user unit) refl h
  where
    own : Bool
    own = option_map_or (λ own. own.0 == unit.0) (unit_of d.chart user) false

    moved : (c : Chart) → moving_user d.chart user unit ≡ Ok c → has_other_admin d user ≡ true → Keeps d (without_roles (with_chart d c) user)
    moved c is other = record {
      owned = refl;
      rules = λ r.
          let m = moved-is d.chart c user unit is in
          let a = other-admin d user other in
          subst (λ x. HasRules (without_roles (with_chart d x) user)) m.1.1
          (rules-from d (with_user d.chart user (record { unit = unit; enabled = m.0.enabled })) (without_gifts_of d.gifts user)
          (λ p may. principal-same d.chart user (record { unit = unit; enabled = m.0.enabled }) m.0 m.1.0 p) (λ q h. of-was user q d.gifts h) a.0
          (of-stays user (a.0, administrator) d.gifts a.1.0 a.1.1.0)
          (enabled-same d user (record { unit = unit; enabled = m.0.enabled }) a.0 a.1.0 ∙ a.1.1.1) r);
    }

    last : (c : Chart) → moving_user d.chart user unit ≡ Ok c → (b : Bool) → has_other_admin d user ≡ b → cond b (Ok (without_roles (with_chart d c) user)) (Err LastAdmin) ≡ Ok e → Keeps d e
    last c is true other h = subst (λ f. Keeps d f) (ok-is (without_roles (with_chart d c) user) e h) (moved c is other)
    last c is false other h = absurd (err-not LastAdmin e h)

    of : (c : Chart) → moving_user d.chart user unit ≡ Ok c → (b : Bool) → own ≡ b → cond b (Ok d) (cond (has_other_admin d user) (Ok (without_roles (with_chart d c) user)) (Err LastAdmin)) ≡ Ok e → Keeps d e
    of c is true same h = subst (λ f. Keeps d f) (ok-is d e h) (keeps-own d)
    of c is false same h = last c is (has_other_admin d user) refl h

    by : (r : Result Chart Refusal) → moving_user d.chart user unit ≡ r → moving d user unit ≡ Ok e → Keeps d e
    by (Err refusal) is h = absurd (err-not refusal e (sym (rw is refl) ∙ h))
    by (Ok c) is h = of c is own refl (sym (rw is refl) ∙ h)

enabled-is : (c e : Chart) (user : Id) (enabled : Bool) → enabling_user c user enabled ≡ Ok e → (found : Kept) × ((at c.users user ≡ Some found) × (with_user c user (record { unit = found.unit; enabled = enabled }) ≡ e))
unfolding enabling_user
enabled-is c e user enabled h = by (at c.users user) refl h
  where
    by : (o : Option Kept) → at c.users user ≡ o → enabling_user c user enabled ≡ Ok e → (found : Kept) × ((at c.users user ≡ Some found) × (with_user c user (record { unit = found.unit; enabled = enabled }) ≡ e))
    by None is h = absurd (err-not UnknownUser e (sym (rw is refl) ∙ h))
    by (Some found) is h = (found, (is, ok-is (with_user c user (record { unit = found.unit; enabled = enabled })) e (sym (rw is refl) ∙ h)))

pub enabling-keeps : (d e : State) (user : Id) (enabled : Bool) → enabling d user enabled ≡ Ok e → Keeps d e
unfolding enabling
enabling-keeps d e user enabled h = by (enabling_user d.chart user enabled) refl h
  where
    Admin : Chart → Type 0
    Admin c = (a : Id) × ((has d.gifts (a, administrator) ≡ true) × (is_enabled (with_chart d c) a ≡ true))

    admin : HasRules d → (found : Kept) → (b : Bool) → enabled ≡ b → (b || has_other_admin d user) ≡ true → Admin (with_user d.chart user (record { unit = found.unit; enabled = enabled }))
    admin r found true on h = here (r.admin.0 == user.0) refl
      where
        kept : Kept
        kept = record { unit = found.unit; enabled = enabled }

        here : (b : Bool) → (r.admin.0 == user.0) ≡ b → Admin (with_user d.chart user kept)
        here true is = (
          user,
          (
            subst (λ x. has d.gifts (x, administrator) ≡ true) (id-is r.admin user (eqb-true r.admin.0 user.0 is)) r.admin_has,
            ap (λ (o : Option Kept). option_map_or (λ found. found.enabled) o false) (at-put user kept d.chart.users user) ∙ rw (eq-eqb user.0 user.0 refl) on,
          ),
        )
        here false is = (r.admin, (r.admin_has, enabled-same d user kept r.admin (eqb-false r.admin.0 user.0 is) ∙ r.admin_enabled))
    admin r found false off h =
        let a = other-admin d user h in
        (a.0, (a.1.1.0, enabled-same d user (record { unit = found.unit; enabled = enabled }) a.0 a.1.0 ∙ a.1.1.1))

    changed : (c : Chart) → enabling_user d.chart user enabled ≡ Ok c → (enabled || has_other_admin d user) ≡ true → Keeps d (with_chart d c)
    changed c is allowed = record {
      owned = refl;
      rules = λ r.
          let m = enabled-is d.chart c user enabled is in
          let a = admin r m.0 enabled refl allowed in
          subst (λ x. HasRules (with_chart d x)) m.1.1
          (rules-from d (with_user d.chart user (record { unit = m.0.unit; enabled = enabled })) d.gifts
          (λ p may. principal-same d.chart user (record { unit = m.0.unit; enabled = enabled }) m.0 m.1.0 p) (λ q h. h) a.0 a.1.0 a.1.1 r);
    }

    of : (c : Chart) → enabling_user d.chart user enabled ≡ Ok c → (b : Bool) → (enabled || has_other_admin d user) ≡ b → cond b (Ok (with_chart d c)) (Err LastAdmin) ≡ Ok e → Keeps d e
    of c is true allowed h = subst (λ f. Keeps d f) (ok-is (with_chart d c) e h) (changed c is allowed)
    of c is false allowed h = absurd (err-not LastAdmin e h)

    by : (r : Result Chart Refusal) → enabling_user d.chart user enabled ≡ r → enabling d user enabled ≡ Ok e → Keeps d e
    by (Err refusal) is h = absurd (err-not refusal e (sym (rw is refl) ∙ h))
    by (Ok c) is h = of c is (enabled || has_other_admin d user) refl (sym (rw is refl) ∙ h)

-- ---- privileges of a role
pub setting_privileges-keeps : (d e : State) (definition : Definition) (id : Id) (manage : Bool) (entries : List Entry) → setting_privileges d definition id manage entries ≡ Ok e → Keeps d e
unfolding setting_privileges
setting_privileges-keeps d e definition id manage entries h =
    let first = test-ok (id.0 == 0) (RoleRule (codes "admin")) _ e h in
    by first.0 (at d.roles id) refl h
  where
    of : (id.0 == 0) ≡ false → (role : SecurityRole) → at d.roles id ≡ Some role → (o : Option Refusal) → entries_fault definition entries ≡ o → setting_privileges d definition id manage entries ≡ Ok e → Keeps d e
    of named role there (Some refusal) fault h = absurd (err-not refusal e (sym (rw (named, there, fault) refl) ∙ h))
    of named role there None fault h =
        subst (λ f. Keeps d f) (ok-is (with_role d id (role_of definition role.direct manage entries)) e (sym (rw (named, there, fault) refl) ∙ h))
        (with_role-keeps d id (role_of definition role.direct manage entries) named)

    by : (id.0 == 0) ≡ false → (o : Option SecurityRole) → at d.roles id ≡ o → setting_privileges d definition id manage entries ≡ Ok e → Keeps d e
    by named None is h = absurd (err-not UnknownRole e (sym (rw (named, is) refl) ∙ h))
    by named (Some role) is h = of named role is (entries_fault definition entries) refl h
