-- A chart to which something new is added leaves everybody who may have roles as they were.
use Rattle.std.proofs.Common.{◌≡◌, refl, sym, ap, subst, ◌∙◌, Bool, true, false, cond}
use Rattle.std.proofs.lemmas.Bool.{true≢false, or_parts, ne_eqb}
use Rattle.std.specs.Prelude.{Option, Some, None, Ok, Err, ◌==◌, ◌||◌, not, is_some, nat_le, length}
use Rattle.std.specs.Option.{option_map_or}
use Rattle.dv_value.specs.declared.id.Id.{Id}
use Rattle.dv_refusal.specs.declared.what.What.TheVariants as what
use Rattle.dv_refusal.specs.declared.refusal.Refusal.{Refusal}
use Rattle.dv_refusal.specs.declared.refusal.Refusal.TheVariants.{DirectoryIdTaken, UnknownUnit, Limit}
use Rattle.dv_units.specs.declared.seats.User.{User as Kept}
use Rattle.dv_units.specs.declared.seats.Team.{Team}
use Rattle.dv_units.specs.Chart.{Chart, at, has, is_unit, is_user, is_team, is_taken, with_unit, with_user, with_team, with_member}
use Rattle.dv_units.specs.Messages.{adding_unit, adding_user, adding_team, adding_member, membership_refused}
use Rattle.dv_units.specs.Rules.{most_units, most_users, most_teams, most_members}
use Rattle.dv_units.proofs.TreeLaws.{id-is}
use Rattle.dv_roles.specs.State.{State, principal_of, with_chart}
use Rattle.dv_roles.specs.Rules.{may_have_roles, Keeps}
use Rattle.dv_roles.proofs.Outcomes.{ok-is, err-not, test-ok}
use Rattle.dv_roles.proofs.PutLaws.{at-put}
use Rattle.dv_roles.proofs.RuleLaws.{rules-from}

-- whether a user of a chart is enabled
abbrev pub enabled_in : Chart → Id → Bool
enabled_in c a = option_map_or (λ found. found.enabled) (at c.users a) false

pub record Grown (c e : Chart) : Type 0 where
  pub same : (p : Id) → may_have_roles c p ≡ true → principal_of e p ≡ principal_of c p
  pub enabled : (a : Id) → enabled_in c a ≡ true → enabled_in e a ≡ true

pub grown-keeps : (d : State) (e : Chart) → Grown d.chart e → Keeps d (with_chart d e)
grown-keeps d e g = record { owned = refl; rules = λ r. rules-from d e d.gifts g.same (λ q h. h) r.admin r.admin_has (g.enabled r.admin r.admin_enabled) r }

pub none-is : {A : Type 0} (o : Option A) → is_some o ≡ false → o ≡ None
none-is None h = refl
none-is (Some x) h = absurd (true≢false h)

-- what a free id isn't
pub record IsFree (c : Chart) (id : Id) : Type 0 where
  pub named : (id.0 == 0) ≡ false
  pub unit : is_unit c id ≡ false
  pub user : is_user c id ≡ false
  pub team : is_team c id ≡ false

pub free-is : (c : Chart) (id : Id) → is_taken c id ≡ false → IsFree c id
free-is c id h =
    let a = or_parts (id.0 == 0) (is_unit c id || (is_user c id || is_team c id)) h in
    let b = or_parts (is_unit c id) (is_user c id || is_team c id) a.1 in
    let d = or_parts (is_user c id) (is_team c id) b.1 in
    record { named = a.0; unit = b.0; user = d.0; team = d.1 }

free-nobody : (c : Chart) (id : Id) → IsFree c id → may_have_roles c id ≡ false
unfolding principal_of
free-nobody c id free = rw (free.user, none-is (at c.teams id) free.team, free.unit) refl

-- whoever may have roles isn't a free id
other-id : (c : Chart) (id p : Id) → IsFree c id → may_have_roles c p ≡ true → (id.0 == p.0) ≡ false
other-id c id p free may = ne_eqb id.0 p.0 (λ e. true≢false (sym may ∙ ap (may_have_roles c) (sym (id-is id p e)) ∙ free-nobody c id free))

unit-grown : (c : Chart) (id parent : Id) → Grown c (with_unit c id parent)
unfolding principal_of
unit-grown c id parent = record { same = λ p may. of p may (is_user c p) refl; enabled = λ a h. h }
  where
    there : (p : Id) → is_unit c p ≡ true → is_unit (with_unit c id parent) p ≡ true
    there p is = ap is_some (at-put id parent c.units p) ∙ by (id.0 == p.0)
      where
        by : (b : Bool) → is_some (cond b (Some parent) (at c.units p)) ≡ true
        by true = refl
        by false = is

    unit : (p : Id) → may_have_roles c p ≡ true → is_user c p ≡ false → at c.teams p ≡ None → (b : Bool) → is_unit c p ≡ b → principal_of (with_unit c id parent) p ≡ principal_of c p
    unit p may user team true is = rw (user, team, there p is, is) refl
    unit p may user team false is = absurd (true≢false (sym may ∙ rw (user, team, is) refl))

    team : (p : Id) → may_have_roles c p ≡ true → is_user c p ≡ false → (o : Option Team) → at c.teams p ≡ o → principal_of (with_unit c id parent) p ≡ principal_of c p
    team p may user (Some t) is = rw (user, is) refl
    team p may user None is = unit p may user is (is_unit c p) refl

    of : (p : Id) → may_have_roles c p ≡ true → (b : Bool) → is_user c p ≡ b → principal_of (with_unit c id parent) p ≡ principal_of c p
    of p may true is = rw is refl
    of p may false is = team p may is (at c.teams p) refl

user-grown : (c : Chart) (id : Id) (kept : Kept) → IsFree c id → Grown c (with_user c id kept)
unfolding principal_of
user-grown c id kept free = record {
  same = λ p may. rw (at-put id kept c.users p, other-id c id p free may) refl;
  enabled = λ a h. rw (at-put id kept c.users a, apart a h) h;
}
  where
    apart : (a : Id) → enabled_in c a ≡ true → (id.0 == a.0) ≡ false
    apart a h = ne_eqb id.0 a.0 (λ e. true≢false (sym h ∙ ap (enabled_in c) (sym (id-is id a e)) ∙ ap (λ (o : Option Kept). option_map_or (λ found. found.enabled) o false) (none-is (at c.users id) free.user)))

team-grown : (c : Chart) (id : Id) (kept : Team) → IsFree c id → Grown c (with_team c id kept)
unfolding principal_of
team-grown c id kept free = record {
  same = λ p may. rw (at-put id kept c.teams p, other-id c id p free may) refl;
  enabled = λ a h. h;
}

member-grown : (c : Chart) (team user : Id) → Grown c (with_member c team user)
unfolding principal_of
member-grown c team user = record { same = λ p may. refl; enabled = λ a h. h }

own-grown : (c : Chart) → Grown c c
own-grown c = record { same = λ p may. refl; enabled = λ a h. h }

-- ---- the messages
pub unit-is : (c e : Chart) (id parent : Id) → adding_unit c id parent ≡ Ok e → IsFree c id × (with_unit c id parent ≡ e)
unfolding adding_unit
unit-is c e id parent h =
    let one = test-ok (is_taken c id) DirectoryIdTaken _ e h in
    let two = test-ok (not (is_unit c parent)) UnknownUnit _ e one.1 in
    let three = test-ok (nat_le most_units (length c.units)) (Limit what.Unit) (Ok (with_unit c id parent)) e two.1 in
    (free-is c id one.0, ok-is (with_unit c id parent) e three.1)

pub user-is : (c e : Chart) (id unit : Id) → adding_user c id unit ≡ Ok e → IsFree c id × (with_user c id (record { unit = unit; enabled = true }) ≡ e)
unfolding adding_user
user-is c e id unit h =
    let new = with_user c id (record { unit = unit; enabled = true }) in
    let one = test-ok (is_taken c id) DirectoryIdTaken _ e h in
    let two = test-ok (not (is_unit c unit)) UnknownUnit _ e one.1 in
    let three = test-ok (nat_le most_users (length c.users)) (Limit what.User) (Ok new) e two.1 in
    (free-is c id one.0, ok-is new e three.1)

pub team-is : (c e : Chart) (id unit : Id) (access : Bool) → adding_team c id unit access ≡ Ok e → IsFree c id × (with_team c id (record { unit = unit; access = access }) ≡ e)
unfolding adding_team
team-is c e id unit access h =
    let new = with_team c id (record { unit = unit; access = access }) in
    let one = test-ok (is_taken c id) DirectoryIdTaken _ e h in
    let two = test-ok (not (is_unit c unit)) UnknownUnit _ e one.1 in
    let three = test-ok (nat_le most_teams (length c.teams)) (Limit what.Team) (Ok new) e two.1 in
    (free-is c id one.0, ok-is new e three.1)

pub adding_unit-grown : (c e : Chart) (id parent : Id) → adding_unit c id parent ≡ Ok e → Grown c e
adding_unit-grown c e id parent h = subst (λ x. Grown c x) (unit-is c e id parent h).1 (unit-grown c id parent)

pub adding_user-grown : (c e : Chart) (id unit : Id) → adding_user c id unit ≡ Ok e → Grown c e
adding_user-grown c e id unit h = let is = user-is c e id unit h in subst (λ x. Grown c x) is.1 (user-grown c id (record { unit = unit; enabled = true }) is.0)

pub adding_team-grown : (c e : Chart) (id unit : Id) (access : Bool) → adding_team c id unit access ≡ Ok e → Grown c e
adding_team-grown c e id unit access h = let is = team-is c e id unit access h in subst (λ x. Grown c x) is.1 (team-grown c id (record { unit = unit; access = access }) is.0)

pub adding_member-grown : (c e : Chart) (team user : Id) → adding_member c team user ≡ Ok e → Grown c e
unfolding adding_member
adding_member-grown c e team user h = by (membership_refused c team user) refl h
  where
    of : (b : Bool) → cond b (Ok c) (cond (nat_le most_members (length c.members)) (Err (Limit what.Member)) (Ok (with_member c team user))) ≡ Ok e → Grown c e
    of true h = subst (λ x. Grown c x) (ok-is c e h) (own-grown c)
    of false h =
        let last = test-ok (nat_le most_members (length c.members)) (Limit what.Member) (Ok (with_member c team user)) e h in
        subst (λ x. Grown c x) (ok-is (with_member c team user) e last.1) (member-grown c team user)

    by : (o : Option Refusal) → membership_refused c team user ≡ o → adding_member c team user ≡ Ok e → Grown c e
    by (Some refusal) is h = absurd (err-not refusal e (sym (rw is refl) ∙ h))
    by None is h = of (has c.members (team, user)) (sym (rw is refl) ∙ h)
