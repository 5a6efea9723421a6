-- What a directory refuses is what the rules of an opening directory refuse.
use Rattle.std.proofs.Common.{◌≡◌, refl, sym, ap, ◌∙◌, ℕ, ◌+◌, List, [], ◌∷◌, Bool, true, false, cond}
use Rattle.std.proofs.lemmas.Bool.{true≢false}
use Rattle.std.specs.Prelude.{Option, Some, None, Ok, Err, ◌==◌, ◌||◌, ◌&&◌, not, is_some, nat_le, length}
use Rattle.std.specs.Option.{option_or}
use Rattle.dv_value.specs.declared.id.Id.{Id}
use Rattle.dv_refusal.specs.declared.refusal.Refusal.{Refusal}
use Rattle.dv_schema.specs.First.{first_from}
use Rattle.dv_schema.specs.Names.{Name}
use Rattle.dv_schema.specs.declared.definition.Definition.{Definition}
use Rattle.dv_schema.specs.declared.opening.Action.{Action}
use Rattle.dv_schema.specs.declared.opening.Action.TheVariants.{Create, Read, Write, Delete, Append, AppendTo, Assign, Share}
use Rattle.dv_schema.specs.declared.opening.Entry.{Entry}
use Rattle.dv_schema.specs.declared.opening.Role.{Role}
use Rattle.dv_opening.specs.Directory as opening
use Rattle.dv_units.specs.declared.seats.Team.{Team}
use Rattle.dv_units.specs.Chart.{Chart, at, has, is_unit, is_user, is_team, is_taken}
use Rattle.dv_units.specs.Messages.{adding_unit, adding_user, adding_team, adding_member}
use Rattle.dv_units.specs.Rules.{IsChart, most_units, most_users, most_teams, most_members}
use Rattle.dv_roles.specs.State.{State, is_role, principal_of}
use Rattle.dv_roles.specs.Entries.{owned_at, is_of_owners, fault_on, entry_fault, entries_fault}
use Rattle.dv_roles.specs.Messages.{most_roles, adding_role, giving_role}
use Rattle.dv_roles.specs.Seen.{is_refused, seat_of, is_full_for, IsSeen}

-- three tests in turn
three : {A : Type 0} (a b c : Bool) (x y z : Refusal) (v : A) (p q r : opening.Cause)
    → is_refused (cond a (Err x) (cond b (Err y) (cond c (Err z) (Ok v)))) ≡ is_some (cond a (Some p) (cond b (Some q) (cond c (Some r) None)))
three true b c x y z v p q r = refl
three false true c x y z v p q r = refl
three false false true x y z v p q r = refl
three false false false x y z v p q r = refl

module _ (d : State) (seen : opening.Directory) (is : IsSeen d seen) where
  taken-alike : (id : Id) → opening.is_seat seen id.0 ≡ is_taken d.chart id
  taken-alike id = rw (is.unit id, is.user id, is.team id) refl

  pub unit-alike : (id parent : Id) → is_refused (adding_unit d.chart id parent) ≡ is_some (opening.adding_unit seen id.0 parent.0)
  unfolding adding_unit opening.adding_unit
  unit-alike id parent = rw (is.unit id, is.user id, is.team id, is.unit parent, is.units)
      (three (is_taken d.chart id) (not (is_unit d.chart parent)) (nat_le most_units (length d.chart.units)) _ _ _ _ _ _ _)

  pub user-alike : (id unit : Id) → is_refused (adding_user d.chart id unit) ≡ is_some (opening.adding_user seen id.0 unit.0)
  unfolding adding_user opening.adding_user
  user-alike id unit = rw (is.unit id, is.user id, is.team id, is.unit unit, is.users)
      (three (is_taken d.chart id) (not (is_unit d.chart unit)) (nat_le most_users (length d.chart.users)) _ _ _ _ _ _ _)

  pub team-alike : (id unit : Id) (access : Bool) → is_refused (adding_team d.chart id unit access) ≡ is_some (opening.adding_team seen id.0 unit.0)
  unfolding adding_team opening.adding_team
  team-alike id unit access = rw (is.unit id, is.user id, is.team id, is.unit unit, is.teams)
      (three (is_taken d.chart id) (not (is_unit d.chart unit)) (nat_le most_teams (length d.chart.teams)) _ _ _ _ _ _ _)

  pub gift-alike : (role to : Id) → is_refused (giving_role d role to) ≡ is_some (opening.giving_role seen role.0 (seat_of d.chart to))
  unfolding giving_role opening.giving_role principal_of seat_of
  gift-alike role to = by (is_role d role) refl
    where
      unit : is_role d role ≡ true → is_user d.chart to ≡ false → at d.chart.teams to ≡ None → (b : Bool) → is_unit d.chart to ≡ b → (n : Bool) → (role.0 == 0) ≡ n → is_refused (giving_role d role to) ≡ is_some (opening.giving_role seen role.0 (seat_of d.chart to))
      unit there user team true is_unit true nil = rw (is.role role, there, user, team, is_unit, nil) refl
      unit there user team true is_unit false nil = rw (is.role role, there, user, team, is_unit, nil) refl
      unit there user team false is_unit n nil = rw (is.role role, there, user, team, is_unit) refl

      team : is_role d role ≡ true → is_user d.chart to ≡ false → (o : Option Team) → at d.chart.teams to ≡ o → (n : Bool) → (role.0 == 0) ≡ n → is_refused (giving_role d role to) ≡ is_some (opening.giving_role seen role.0 (seat_of d.chart to))
      team there user None found n nil = unit there user found (is_unit d.chart to) refl n nil
      team there user (Some t) found n nil = access t.access refl n nil
        where
          access : (a : Bool) → t.access ≡ a → (n : Bool) → (role.0 == 0) ≡ n → is_refused (giving_role d role to) ≡ is_some (opening.giving_role seen role.0 (seat_of d.chart to))
          access true kind n nil = rw (is.role role, there, user, found, kind) refl
          access false kind true nil = rw (is.role role, there, user, found, kind, nil) refl
          access false kind false nil = rw (is.role role, there, user, found, kind, nil) refl

      user : is_role d role ≡ true → (b : Bool) → is_user d.chart to ≡ b → is_refused (giving_role d role to) ≡ is_some (opening.giving_role seen role.0 (seat_of d.chart to))
      user there true found = rw (is.role role, there, found) refl
      user there false found = team there found (at d.chart.teams to) refl (role.0 == 0) refl

      by : (b : Bool) → is_role d role ≡ b → is_refused (giving_role d role to) ≡ is_some (opening.giving_role seen role.0 (seat_of d.chart to))
      by true there = user there (is_user d.chart to) refl
      by false none = rw (is.role role, none) refl

owners-alike : (action : Option Action) → is_of_owners action ≡ opening.is_owners' action
owners-alike None = refl
owners-alike (Some Create) = refl
owners-alike (Some Read) = refl
owners-alike (Some Write) = refl
owners-alike (Some Delete) = refl
owners-alike (Some Append) = refl
owners-alike (Some AppendTo) = refl
owners-alike (Some Assign) = refl
owners-alike (Some Share) = refl

-- an entry of a role
entry-alike : (definition : Definition) (entry : Entry) → is_some (entry_fault definition entry) ≡ is_some (opening.adding_entry (owned_at definition) entry)
unfolding entry_fault fault_on opening.adding_entry
entry-alike definition entry = by entry.table refl
  where
    bad : (b : Bool) (x : Refusal) (y : opening.Cause) → is_some (cond b (Some x) None) ≡ is_some (cond b (Some y) None)
    bad true x y = refl
    bad false x y = refl

    on : (name : Name) → entry.table ≡ Some name → (o : Option Bool) → owned_at definition name ≡ o → is_some (entry_fault definition entry) ≡ is_some (opening.adding_entry (owned_at definition) entry)
    on name table None owned = rw (table, owned) refl
    on name table (Some true) owned = rw (table, owned) refl
    on name table (Some false) owned = rw (table, owned, owners-alike entry.action) (bad (not (entry.depth == 3) || opening.is_owners' entry.action) _ _)

    by : (o : Option Name) → entry.table ≡ o → is_some (entry_fault definition entry) ≡ is_some (opening.adding_entry (owned_at definition) entry)
    by None table = rw table refl
    by (Some name) table = on name table (owned_at definition name) refl

is_some-or : {A : Type 0} (a b : Option A) → is_some (option_or a b) ≡ (is_some a || is_some b)
is_some-or None b = refl
is_some-or (Some x) b = refl

first-alike : {A B C : Type 0} (f : A → Option B) (g : A → Option C) → ((x : A) → is_some (f x) ≡ is_some (g x)) → (i : ℕ) (xs : List A) → is_some (first_from (λ k x. f x) i xs) ≡ is_some (first_from (λ k x. g x) i xs)
unfolding first_from
first-alike f g same i [] = refl
first-alike f g same i (x ∷ xs) =
    is_some-or (f x) (first_from (λ k y. f y) (i + 1) xs) ∙ ap (λ b. b || is_some (first_from (λ k y. f y) (i + 1) xs)) (same x)
    ∙ ap (λ b. is_some (g x) || b) (first-alike f g same (i + 1) xs) ∙ sym (is_some-or (g x) (first_from (λ k y. g y) (i + 1) xs))

pub role-alike : (d : State) (seen : opening.Directory) → IsSeen d seen → (definition : Definition) (role : Role) → is_refused (adding_role d definition role) ≡ is_some (opening.adding_role seen (owned_at definition) role.id.0 role.entries)
unfolding adding_role opening.adding_role
role-alike d seen is definition role = by (is_role d role.id) refl
  where
    first : Option opening.Cause
    first = first_from (λ i entry. opening.adding_entry (owned_at definition) entry) 0 role.entries

    room : Bool
    room = nat_le most_roles (length d.roles)

    full : (b : Bool) (x : Refusal) (v : State) → is_refused (cond b (Err x) (Ok v)) ≡ b
    full true x v = refl
    full false x v = refl

    or-full : (b : Bool) (x : opening.Cause) → is_some (cond b (Some x) None) ≡ b
    or-full true x = refl
    or-full false x = refl

    here : is_role d role.id ≡ false → (o : Option Refusal) → entries_fault definition role.entries ≡ o → is_refused (adding_role d definition role) ≡ (is_some o || room)
    here free (Some refusal) fault = rw (free, fault) refl
    here free None fault = rw (free, fault) (full room _ _)

    there : is_role d role.id ≡ false → is_some (opening.adding_role seen (owned_at definition) role.id.0 role.entries) ≡ (is_some first || room)
    there free = rw (is.role role.id, is.roles, free) (is_some-or first (cond room (Some opening.Full) None) ∙ ap (λ b. is_some first || b) (or-full room opening.Full))

    by : (b : Bool) → is_role d role.id ≡ b → is_refused (adding_role d definition role) ≡ is_some (opening.adding_role seen (owned_at definition) role.id.0 role.entries)
    by true taken = rw (is.role role.id, taken) refl
    by false free =
        here free (entries_fault definition role.entries) refl
        ∙ ap (λ b. b || room) (first-alike (entry_fault definition) (opening.adding_entry (owned_at definition)) (entry-alike definition) 0 role.entries) ∙ sym (there free)

-- a member of a team
pub member-alike : (d : State) (seen : opening.Directory) → IsSeen d seen → IsChart d.chart → (team user : Id) → is_refused (adding_member d.chart team user) ≡ is_some (opening.adding_member seen (seat_of d.chart team) user.0 (is_full_for d.chart team user))
unfolding adding_member opening.adding_member seat_of
member-alike d seen is rules team user = by (is_user d.chart team) refl
  where
    c : Chart
    c = d.chart

    Alike : Type 0
    Alike = is_refused (adding_member c team user) ≡ is_some (opening.adding_member seen (seat_of c team) user.0 (is_full_for c team user))

    room : (b f : Bool) (x : Refusal) (v w : Chart) (y : opening.Cause) → is_refused (cond b (Ok v) (cond f (Err x) (Ok w))) ≡ is_some (cond (not b && f) (Some y) None)
    room true f x v w y = refl
    room false true x v w y = refl
    room false false x v w y = refl

    of_access : is_user c team ≡ false → is_unit c team ≡ false → (t : Team) → at c.teams team ≡ Some t → (a : Bool) → t.access ≡ a → (u : Bool) → is_user c user ≡ u → Alike
    of_access no_user no_unit t found true kind true user' = rw (no_user, no_unit, found, kind, is.user user, user') (room (has c.members (team, user)) (nat_le most_members (length c.members)) _ _ _ _)
    of_access no_user no_unit t found false kind true user' = rw (no_user, no_unit, found, kind, is.user user, user') (room (has c.members (team, user)) (nat_le most_members (length c.members)) _ _ _ _)
    of_access no_user no_unit t found true kind false user' = rw (no_user, no_unit, found, kind, is.user user, user') refl
    of_access no_user no_unit t found false kind false user' = rw (no_user, no_unit, found, kind, is.user user, user') refl

    of_unit : is_user c team ≡ false → at c.teams team ≡ None → (b : Bool) → is_unit c team ≡ b → (u : Bool) → is_user c user ≡ u → Alike
    of_unit no_user no_team true unit true user' = rw (no_user, no_team, unit, is.user user, user') refl
    of_unit no_user no_team true unit false user' = rw (no_user, no_team, unit, is.user user, user') refl
    of_unit no_user no_team false unit u user' = rw (no_user, no_team, unit) refl

    of_team : is_user c team ≡ false → (o : Option Team) → at c.teams team ≡ o → Alike
    of_team no_user None found = of_unit no_user found (is_unit c team) refl (is_user c user) refl
    of_team no_user (Some t) found = of_access no_user (rules.team_apart team (ap is_some found)) t found t.access refl (is_user c user) refl

    no_team : is_user c team ≡ true → (b : Bool) → is_team c team ≡ b → is_team c team ≡ false
    no_team user' true found = absurd (true≢false (sym user' ∙ rules.users_apart team found))
    no_team user' false found = found

    by : (b : Bool) → is_user c team ≡ b → Alike
    by true user' = rw (user', rules.user_apart team user', no_team user' (is_team c team) refl) refl
    by false user' = of_team user' (at c.teams team) refl
