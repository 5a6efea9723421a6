-- The messages that make an accepted opening directory are never refused.
use Rattle.std.proofs.Common.{◌≡◌, refl, sym, ap, subst, ◌∙◌, ℕ, suc, ◌+◌, List, [], ◌∷◌, ◌++◌, length, Bool, true, false, cond, arith, length-append, append_assoc, append-nil, codes}
use Rattle.std.proofs.lemmas.Bool.{true≢false, or_parts, lt-ltb, eq-eqb}
use Rattle.std.proofs.lemmas.Grind.{common_steps}
use Rattle.std.specs.Prelude.{Option, Some, None, Result, Ok, Err, ◌==◌, ◌||◌, not, is_some, nat_lt, nat_le, position}
use Rattle.std.specs.List.{list_any, enumerate_from, prefix_len}
use Rattle.dv_value.specs.declared.id.Id.{Id}
use Rattle.dv_refusal.specs.declared.refusal.Refusal.{Refusal}
use Rattle.dv_refusal.specs.declared.refusal.Refusal.TheVariants.{DirectoryIdTaken, UnknownRole, BadPrincipal, TeamRule, RoleRule, Limit}
use Rattle.dv_refusal.specs.declared.what.What.TheVariants as what
use Rattle.dv_schema.specs.declared.definition.Definition.{Definition}
use Rattle.dv_schema.specs.declared.opening.Opening.{Opening}
use Rattle.dv_schema.specs.declared.opening.OpeningTeam.{OpeningTeam}
use Rattle.dv_schema.specs.declared.opening.OpeningUnit.{OpeningUnit}
use Rattle.dv_schema.specs.declared.opening.OpeningUser.{OpeningUser}
use Rattle.dv_schema.specs.declared.opening.Role.{Role}
use Rattle.dv_opening.specs.Directory as opening
use Rattle.dv_opening.specs.Opening.{made, unit_refused, role_refused, gift_refused, user_refused}
use Rattle.dv_units.specs.Chart.{Chart, at, put, is_unit, is_user, is_team, with_unit, with_user, with_team}
use Rattle.dv_units.specs.Messages.{adding_unit, adding_user}
use Rattle.dv_roles.specs.State.{State, is_role, principal_of, with_chart, with_role, with_gift}
use Rattle.dv_roles.specs.Entries.{owned_at, entries_fault}
use Rattle.dv_roles.specs.Messages.{most_roles, role_of, adding_role, giving_role}
use Rattle.dv_roles.specs.Beginning.{and_then, each, on_chart, making_unit, giving_to, making_user, making_role}
use Rattle.dv_roles.specs.Seen.{is_refused, seat_of, IsSeen}
use Rattle.dv_roles.specs.declared.principal.Principal.{Principal}
use Rattle.dv_roles.specs.declared.principal.Principal.TheVariants as who
use Rattle.dv_roles.proofs.Outcomes.{ok-is, err-not, test-ok}
use Rattle.dv_roles.proofs.GrowthLaws.{unit-is, user-is}
use Rattle.dv_roles.proofs.AlikeLaws.{unit-alike, user-alike, role-alike, gift-alike}
use Rattle.dv_roles.proofs.BuiltLaws.{IsBuilt, built-seen, there-put, length-put, any-append, walk}

pub not-refused : {A : Type 0} (r : Result A Refusal) → is_refused r ≡ false → (x : A) × (r ≡ Ok x)
not-refused (Ok x) h = (x, refl)
not-refused (Err refusal) h = absurd (true≢false h)

-- nothing is found where no item is refused
pub position-none : {X : Type 0} (p : X → Bool) (xs : List X) → position p xs ≡ None → list_any p xs ≡ false
position-none p xs h = none xs (by (prefix_len (λ x. not (p x)) xs) (nat_lt (prefix_len (λ x. not (p x)) xs) (length xs)) h)
  where
    by : (n : ℕ) (b : Bool) → cond b (Some n) None ≡ None → b ≡ false
    by n true h = ap is_some h
    by n false h = refl

    step : (n m : ℕ) → nat_lt (1 + n) (suc m) ≡ false → nat_lt n m ≡ false
    step n m h = grind (arith, common_steps)

    none : (xs : List _) → nat_lt (prefix_len (λ x. not (p x)) xs) (length xs) ≡ false → list_any p xs ≡ false
    none [] h = refl
    none (x ∷ xs) h = elim (p x) as (λ b. nat_lt (cond (not b) (1 + prefix_len (λ y. not (p y)) xs) 0) (suc (length xs)) ≡ false → (b || list_any p xs) ≡ false) [
      | true ↦ λ h. absurd (true≢false (sym (lt-ltb 0 (suc (length xs)) (omega arith)) ∙ h))
      | false ↦ λ h. none xs (step (prefix_len (λ y. not (p y)) xs) (length xs) h)
    ] h

pub any-enumerate : {A : Type 0} (p : A → Bool) (xs : List A) (k : ℕ) → list_any (λ at_k. p at_k.1) (enumerate_from k xs) ≡ list_any p xs
any-enumerate p [] k = refl
any-enumerate p (x ∷ xs) k = ap (λ b. p x || b) (any-enumerate p xs (k + 1))

assoc : (a b c : Bool) → ((a || b) || c) ≡ (a || (b || c))
assoc true b c = refl
assoc false b c = refl

module _ (o : Opening) (d : State) (us : List OpeningUnit) (rs : List Role) (ss : List OpeningUser) (ts : List OpeningTeam) (b : IsBuilt o d.chart d.roles us rs ss ts) where
  pub built-unit : (unit : OpeningUnit) → is_unit d.chart unit.id ≡ false → IsBuilt o (with_unit d.chart unit.id unit.parent) d.roles (us ++ unit ∷ []) rs ss ts
  built-unit unit free = record {
    unit = λ id. there-put unit.id unit.parent d.chart.units id ∙ ap (λ x. x || (id.0 == unit.id.0)) (b.unit id) ∙ assoc (id.0 == o.root.0) (list_any (λ x. id.0 == x.id.0) us) (id.0 == unit.id.0)
        ∙ ap (λ x. (id.0 == o.root.0) || x) (sym (any-append (λ (x : OpeningUnit). id.0 == x.id.0) us unit));
    user = b.user;
    team = b.team;
    role = b.role;
    units = omega (arith, length-put unit.id unit.parent d.chart.units free, b.units, length-append us (unit ∷ []));
    users = b.users;
    teams = b.teams;
    roles = b.roles;
  }

  pub built-user : (user : OpeningUser) → is_user d.chart user.id ≡ false → IsBuilt o (with_user d.chart user.id (record { unit = user.unit; enabled = true })) d.roles us rs (ss ++ user ∷ []) ts
  built-user user free = record {
    unit = b.unit;
    user = λ id. there-put user.id (record { unit = user.unit; enabled = true }) d.chart.users id ∙ ap (λ x. x || (id.0 == user.id.0)) (b.user id) ∙ assoc (id.0 == o.admin.0) (list_any (λ x. id.0 == x.id.0) ss) (id.0 == user.id.0)
        ∙ ap (λ x. (id.0 == o.admin.0) || x) (sym (any-append (λ (x : OpeningUser). id.0 == x.id.0) ss user));
    team = b.team;
    role = b.role;
    units = b.units;
    users = omega (arith, length-put user.id (record { unit = user.unit; enabled = true }) d.chart.users free, b.users, length-append ss (user ∷ []));
    teams = b.teams;
    roles = b.roles;
  }

  pub built-team : (team : OpeningTeam) → is_team d.chart team.id ≡ false → IsBuilt o (with_team d.chart team.id (record { unit = team.unit; access = team.access })) d.roles us rs ss (ts ++ team ∷ [])
  built-team team free = record {
    unit = b.unit;
    user = b.user;
    team = λ id. there-put team.id (record { unit = team.unit; access = team.access }) d.chart.teams id ∙ ap (λ x. x || (id.0 == team.id.0)) (b.team id)
        ∙ sym (any-append (λ (x : OpeningTeam). id.0 == x.id.0) ts team);
    role = b.role;
    units = b.units;
    users = b.users;
    teams = omega (arith, length-put team.id (record { unit = team.unit; access = team.access }) d.chart.teams free, b.teams, length-append ts (team ∷ []));
    roles = b.roles;
  }

  pub built-role : (definition : Definition) (role : Role) → is_some (at d.roles role.id) ≡ false → IsBuilt o d.chart (put d.roles role.id (role_of definition role.direct role.manage role.entries)) us (rs ++ role ∷ []) ss ts
  built-role definition role free = record {
    unit = b.unit;
    user = b.user;
    team = b.team;
    role = λ id. there-put role.id (role_of definition role.direct role.manage role.entries) d.roles id ∙ ap (λ x. x || (id.0 == role.id.0)) (b.role id)
        ∙ sym (any-append (λ (x : Role). id.0 == x.id.0) rs role);
    units = b.units;
    users = b.users;
    teams = b.teams;
    roles = omega (arith, length-put role.id (role_of definition role.direct role.manage role.entries) d.roles free, b.roles, length-append rs (role ∷ []));
  }

-- ---- units
pub unit-step : (o : Opening) (front : List OpeningUnit) (unit : OpeningUnit) (rest : List OpeningUnit) → o.units ≡ front ++ unit ∷ rest → (d : State) → IsBuilt o d.chart d.roles front [] [] []
    → unit_refused o (length front, unit) ≡ false → (e : State) × ((making_unit d unit ≡ Ok e) × IsBuilt o e.chart e.roles (front ++ unit ∷ []) [] [] [])
unfolding unit_refused making_unit
unit-step o front unit rest is d b good =
    let seen = built-seen o d front (unit ∷ rest) [] o.roles [] o.users [] o.teams b is refl refl refl in
    let c = not-refused (adding_unit d.chart unit.id unit.parent) (unit-alike d (made o (length front) 0 0 0) seen unit.id unit.parent ∙ good) in
    let new = unit-is d.chart c.0 unit.id unit.parent c.1 in
    (with_chart d c.0, (ap (on_chart d) c.1, subst (λ x. IsBuilt o x d.roles (front ++ unit ∷ []) [] [] []) new.1 (built-unit o d front [] [] [] b unit new.0.unit)))

-- ---- roles
pub role-is : (d e : State) (definition : Definition) (role : Role) → adding_role d definition role ≡ Ok e → (is_role d role.id ≡ false) × (with_role d role.id (role_of definition role.direct role.manage role.entries) ≡ e)
unfolding adding_role
role-is d e definition role h =
    let one = test-ok (is_role d role.id) DirectoryIdTaken _ e h in
    (one.0, by one.0 (entries_fault definition role.entries) refl h)
  where
    new : State
    new = with_role d role.id (role_of definition role.direct role.manage role.entries)

    by : is_role d role.id ≡ false → (r : Option Refusal) → entries_fault definition role.entries ≡ r → adding_role d definition role ≡ Ok e → new ≡ e
    by free (Some refusal) fault h = absurd (err-not refusal e (sym (rw (free, fault) refl) ∙ h))
    by free None fault h = ok-is new e (test-ok (nat_le most_roles (length d.roles)) (Limit what.Role) (Ok new) e (sym (rw (free, fault) refl) ∙ h)).1

pub role-step : (definition : Definition) (o : Opening) (front : List Role) (role : Role) (rest : List Role) → o.roles ≡ front ++ role ∷ rest → (d : State) → IsBuilt o d.chart d.roles o.units front [] []
    → role_refused (owned_at definition) o (length front, role) ≡ false → (e : State) × ((making_role definition d role ≡ Ok e) × IsBuilt o e.chart e.roles o.units (front ++ role ∷ []) [] [])
unfolding role_refused
role-step definition o front role rest is d b good =
    let seen = built-seen o d o.units [] front (role ∷ rest) [] o.users [] o.teams b (sym (append-nil o.units)) is refl refl in
    let e = not-refused (adding_role d definition role) (role-alike d (made o (length o.units) 0 0 (length front)) seen definition role ∙ good) in
    let new = role-is d e.0 definition role e.1 in
    (e.0, (e.1, subst (λ x. IsBuilt o x.chart x.roles o.units (front ++ role ∷ []) [] []) new.1 (built-role o d o.units front [] [] b definition role (or_parts (role.id.0 == 0) (is_some (at d.roles role.id)) new.0).1)))

-- ---- gifts
pub gift-is : (d e : State) (role to : Id) → giving_role d role to ≡ Ok e → with_gift d role to ≡ e
unfolding giving_role
gift-is d e role to h =
    let first = test-ok (not (is_role d role)) UnknownRole _ e h in
    by first.0 (principal_of d.chart to) refl h
  where
    by : not (is_role d role) ≡ false → (p : Option Principal) → principal_of d.chart to ≡ p → giving_role d role to ≡ Ok e → with_gift d role to ≡ e
    by there None is h = absurd (err-not BadPrincipal e (sym (rw (there, is) refl) ∙ h))
    by there (Some who.AccessTeam) is h = absurd (err-not (TeamRule (codes "access")) e (sym (rw (there, is) refl) ∙ h))
    by there (Some who.OwnerTeam) is h = ok-is (with_gift d role to) e (test-ok (role.0 == 0) (RoleRule (codes "admin")) (Ok (with_gift d role to)) e (sym (rw (there, is) refl) ∙ h)).1
    by there (Some who.User) is h = ok-is (with_gift d role to) e (sym (rw (there, is) refl) ∙ h)

-- roles for a user or a team, none of which the rules refuse
pub gifts-walk : (told : opening.Directory) (to : Id) (seat : opening.Seat) (Q : State → Type 0) → ((d : State) (role : Id) → Q d → Q (with_gift d role to)) → ((d : State) → Q d → IsSeen d told × (seat_of d.chart to ≡ seat))
    → (roles : List Id) → gift_refused told seat roles ≡ false → (d : State) → Q d → (e : State) × ((each (giving_to to) d roles ≡ Ok e) × Q e)
unfolding gift_refused
gifts-walk told to seat Q keeps sees roles good d q =
    walk (giving_to to) (λ front x. Q x) (λ at_k. is_some (opening.giving_role told at_k.1.0 seat)) roles one [] roles refl
    (any-enumerate (λ role. is_some (opening.giving_role told role.0 seat)) roles 0 ∙ good) d q
  where
    one : (front : List Id) (role : Id) (rest : List Id) → roles ≡ front ++ role ∷ rest → (x : State) → Q x → is_some (opening.giving_role told role.0 seat) ≡ false → (e : State) × ((giving_to to x role ≡ Ok e) × Q e)
    one front role rest is x q good =
        let see = sees x q in
        let e = not-refused (giving_role x role to) (gift-alike x told see.0 role to ∙ ap (λ s. is_some (opening.giving_role told role.0 s)) see.1 ∙ good) in
        (e.0, (e.1, subst Q (gift-is x e.0 role to e.1) (keeps x role q)))

-- ---- users
pub user-step : (o : Opening) (front : List OpeningUser) (user : OpeningUser) (rest : List OpeningUser) → o.users ≡ front ++ user ∷ rest → (d : State) → IsBuilt o d.chart d.roles o.units o.roles front []
    → user_refused o (length front, user) ≡ false → (e : State) × ((making_user d user ≡ Ok e) × IsBuilt o e.chart e.roles o.units o.roles (front ++ user ∷ []) [])
unfolding user_refused making_user seat_of
user-step o front user rest is d b good =
    let parts = or_parts (is_some (opening.adding_user (made o (length o.units) (length front) 0 (length o.roles)) user.id.0 user.unit.0)) (gift_refused (made o (length o.units) (length front + 1) 0 (length o.roles)) opening.AUser user.roles) good in
    let seen = built-seen o d o.units [] o.roles [] front (user ∷ rest) [] o.teams b (sym (append-nil o.units)) (sym (append-nil o.roles)) is refl in
    let c = not-refused (adding_user d.chart user.id user.unit) (user-alike d (made o (length o.units) (length front) 0 (length o.roles)) seen user.id user.unit ∙ parts.0) in
    let new = user-is d.chart c.0 user.id user.unit c.1 in
    let there : is_user c.0 user.id ≡ true = subst (λ (x : Chart). is_user x user.id ≡ true) new.1 (own user.id d.chart.users (record { unit = user.unit; enabled = true })) in
    let begun = subst (λ x. IsBuilt o x d.roles o.units o.roles (front ++ user ∷ []) []) new.1 (built-user o d o.units o.roles front [] b user new.0.user) in
    let told = made o (length o.units) (length front + 1) 0 (length o.roles) in
    let last = gifts-walk told user.id opening.AUser (λ x. IsBuilt o x.chart x.roles o.units o.roles (front ++ user ∷ []) [] × (is_user x.chart user.id ≡ true)) (λ x role q. q)
    (λ x q. (
      subst (λ n. IsSeen x (made o (length o.units) n 0 (length o.roles))) (length-append front (user ∷ []))
          (built-seen o x o.units [] o.roles [] (front ++ user ∷ []) rest [] o.teams q.0 (sym (append-nil o.units)) (sym (append-nil o.roles)) (is ∙ sym (append_assoc front (user ∷ []) rest)) refl),
      rw q.1 refl,
    ))
    user.roles parts.1 (with_chart d c.0) (begun, there) in
    (last.0, (ap (λ r. and_then (on_chart d r) (λ e. each (giving_to user.id) e user.roles)) c.1 ∙ last.1.0, last.1.1.0))
  where
    own : {V : Type 0} (id : Id) (es : List (Id × V)) (v : V) → is_some (at (put es id v) id) ≡ true
    own id es v = there-put id v es id ∙ bits (is_some (at es id)) (eq-eqb id.0 id.0 refl)
      where
        bits : (a : Bool) {b : Bool} → b ≡ true → (a || b) ≡ true
        bits true h = refl
        bits false h = h
