-- The directory that a definition begins with meets the rules on who has which roles.
use Rattle.std.proofs.Common.{◌≡◌, refl, sym, ap, subst, ◌∙◌, List, [], ◌∷◌, Bool, true, false}
use Rattle.std.proofs.lemmas.Bool.{true≢false, eq-eqb}
use Rattle.std.specs.Prelude.{Result, Ok, Err, ◌==◌, ◌||◌}
use Rattle.std.specs.BTreeMap.{is_at}
use Rattle.dv_value.specs.declared.id.Id.{Id}
use Rattle.dv_refusal.specs.declared.refusal.Refusal.{Refusal}
use Rattle.dv_refusal.specs.declared.refusal.Refusal.TheVariants.{DirectoryIdTaken}
use Rattle.dv_schema.specs.declared.definition.Definition.{Definition}
use Rattle.dv_schema.specs.declared.opening.OpeningTeam.{OpeningTeam}
use Rattle.dv_schema.specs.declared.opening.OpeningUnit.{OpeningUnit}
use Rattle.dv_schema.specs.declared.opening.OpeningUser.{OpeningUser}
use Rattle.dv_schema.specs.Definitions.{opening_of}
use Rattle.dv_units.specs.Chart.{Chart, root_alone, pair_cmp, with_user}
use Rattle.dv_units.specs.Messages.{adding_unit, adding_user, adding_team, adding_member}
use Rattle.dv_roles.specs.State.{State, administrator, owned_of, principal_of}
use Rattle.dv_roles.specs.Messages.{starting}
use Rattle.dv_roles.specs.Beginning.{and_then, each, on_chart, making_unit, making_member, giving_to, making_user, making_team, making_role, opened, beginning}
use Rattle.dv_roles.specs.Rules.{HasRules, Keeps}
use Rattle.dv_roles.proofs.Outcomes.{ok-is, err-not, test-ok, on_chart-ok, and_then-ok, each-keeps}
use Rattle.dv_roles.proofs.PutLaws.{is-pair}
use Rattle.dv_roles.proofs.GiftLaws.{own-pair}
use Rattle.dv_roles.proofs.GrowthLaws.{Grown, grown-keeps, user-is, adding_unit-grown, adding_user-grown, adding_team-grown, adding_member-grown}
use Rattle.dv_roles.proofs.RuleLaws.{keeps-own, keeps-over, adding_role-keeps, giving_role-keeps}

on_chart-keeps : (d e : State) (r : Result Chart Refusal) → ((c : Chart) → r ≡ Ok c → Grown d.chart c) → on_chart d r ≡ Ok e → Keeps d e
on_chart-keeps d e r grown h = let is = on_chart-ok d e r h in subst (λ x. Keeps d x) is.1.1 (grown-keeps d is.0 (grown is.0 is.1.0))

making_unit-keeps : (d e : State) (unit : OpeningUnit) → making_unit d unit ≡ Ok e → Keeps d e
unfolding making_unit
making_unit-keeps d e unit h = on_chart-keeps d e (adding_unit d.chart unit.id unit.parent) (λ c is. adding_unit-grown d.chart c unit.id unit.parent is) h

making_member-keeps : (team : Id) (d e : State) (user : Id) → making_member team d user ≡ Ok e → Keeps d e
unfolding making_member
making_member-keeps team d e user h = on_chart-keeps d e (adding_member d.chart team user) (λ c is. adding_member-grown d.chart c team user is) h

giving-keeps : (principal : Id) (roles : List Id) (d e : State) → each (giving_to principal) d roles ≡ Ok e → Keeps d e
giving-keeps principal roles d e h = each-keeps Keeps keeps-own keeps-over (giving_to principal) (λ x y role is. giving_role-keeps x y role principal is) roles d e h

making_user-keeps : (d e : State) (user : OpeningUser) → making_user d user ≡ Ok e → Keeps d e
unfolding making_user
making_user-keeps d e user h =
    let first = and_then-ok (on_chart d (adding_user d.chart user.id user.unit)) (λ x. each (giving_to user.id) x user.roles) e h in
    keeps-over d first.0 e (on_chart-keeps d first.0 (adding_user d.chart user.id user.unit) (λ c is. adding_user-grown d.chart c user.id user.unit is) first.1.0)
    (giving-keeps user.id user.roles first.0 e first.1.1)

making_team-keeps : (d e : State) (team : OpeningTeam) → making_team d team ≡ Ok e → Keeps d e
unfolding making_team
making_team-keeps d e team h =
    let first = and_then-ok (on_chart d (adding_team d.chart team.id team.unit team.access)) (λ x. and_then (each (making_member team.id) x team.members) (λ y. each (giving_to team.id) y team.roles)) e h in
    let second = and_then-ok (each (making_member team.id) first.0 team.members) (λ y. each (giving_to team.id) y team.roles) e first.1.1 in
    keeps-over d first.0 e (on_chart-keeps d first.0 (adding_team d.chart team.id team.unit team.access) (λ c is. adding_team-grown d.chart c team.id team.unit team.access is) first.1.0)
    (keeps-over first.0 second.0 e (each-keeps Keeps keeps-own keeps-over (making_member team.id) (making_member-keeps team.id) team.members first.0 second.0 second.1.0)
    (giving-keeps team.id team.roles second.0 e second.1.1))

-- ---- the root unit and the administrator
abbrev begun : Definition → Id → Id → State
begun definition root admin = record { chart = with_user (root_alone root) admin (record { unit = root; enabled = true }); owned = owned_of definition; roles = []; gifts = (admin, administrator) ∷ [] }

starting-is : (definition : Definition) (root admin : Id) (d : State) → starting definition root admin ≡ Ok d → begun definition root admin ≡ d
unfolding starting
starting-is definition root admin d h = by (adding_user (root_alone root) admin root) refl h
  where
    by : (r : Result Chart Refusal) → adding_user (root_alone root) admin root ≡ r → starting definition root admin ≡ Ok d → begun definition root admin ≡ d
    by (Err refusal) is h = absurd (err-not refusal d (sym (rw is refl) ∙ h))
    by (Ok c) is h =
        let made : State = record { chart = c; owned = owned_of definition; roles = []; gifts = (admin, administrator) ∷ [] } in
        ap (λ x. record { chart = x; owned = owned_of definition; roles = []; gifts = (admin, administrator) ∷ [] }) (user-is (root_alone root) c admin root is).1
        ∙ ok-is made d (sym (rw is refl) ∙ h)

begun-rules : (definition : Definition) (root admin : Id) → HasRules (begun definition root admin)
unfolding principal_of
begun-rules definition root admin = record {
  named = λ id h. absurd (true≢false (sym h));
  roles = λ p q h. subst (λ (x : Id × Id). ((x.1.0 == 0) || false) ≡ true) (sym (only p q h)) refl;
  holders = λ p q h. subst (λ (x : Id × Id). holds x.0) (sym (only p q h)) (rw (eq-eqb admin.0 admin.0 refl) refl);
  users = λ p h. subst (λ (x : Id × Id). uses x.0) (sym (only p administrator h)) (rw (eq-eqb admin.0 admin.0 refl) refl);
  admin = admin;
  admin_has = ap (λ b. b || false) (own-pair (admin, administrator));
  admin_enabled = rw (eq-eqb admin.0 admin.0 refl) refl;
}
  where
    own : Id × Id
    own = (admin, administrator)

    pair : Id → Id → Id × Id
    pair p q = (p, q)

    only : (p q : Id) → (is_at (pair_cmp (p, q)) own || false) ≡ true → pair p q ≡ own
    only p q h = is-pair (p, q) own (left (is_at (pair_cmp (p, q)) own) h)
      where
        left : (b : Bool) → (b || false) ≡ true → b ≡ true
        left true h = refl
        left false h = h

    holds : Id → Type 0
    holds p = Rattle.dv_roles.specs.Rules.may_have_roles (with_user (root_alone root) admin (record { unit = root; enabled = true })) p ≡ true

    uses : Id → Type 0
    uses p = Rattle.dv_roles.specs.Held.is_user (with_user (root_alone root) admin (record { unit = root; enabled = true })) p ≡ true

-- ---- the whole
pub beginning-rules : (definition : Definition) (d : State) → beginning definition ≡ Ok d → HasRules d × (d.owned ≡ owned_of definition)
unfolding beginning opened
beginning-rules definition d h =
    let o = opening_of definition in
    let zero = and_then-ok (opened definition) _ d h in
    let one = and_then-ok (each making_unit zero.0 o.units) _ d zero.1.1 in
    let two = and_then-ok (each (making_role definition) one.0 o.roles) _ d one.1.1 in
    let three = and_then-ok (each making_user two.0 o.users) _ d two.1.1 in
    let is = starting-is definition o.root o.admin zero.0 (test-ok (o.root.0 == 0) DirectoryIdTaken (starting definition o.root o.admin) zero.0 zero.1.0).1 in
    let kept = keeps-over zero.0 one.0 d (each-keeps Keeps keeps-own keeps-over making_unit making_unit-keeps o.units zero.0 one.0 one.1.0)
    (keeps-over one.0 two.0 d (each-keeps Keeps keeps-own keeps-over (making_role definition) (λ x y role is. adding_role-keeps x y definition role is) o.roles one.0 two.0 two.1.0)
    (keeps-over two.0 three.0 d (each-keeps Keeps keeps-own keeps-over making_user making_user-keeps o.users two.0 three.0 three.1.0)
    (each-keeps Keeps keeps-own keeps-over making_team making_team-keeps o.teams three.0 d three.1.1))) in
    (kept.rules (subst (λ x. HasRules x) is (begun-rules definition o.root o.admin)), kept.owned ∙ ap (λ (x : State). x.owned) (sym is))
