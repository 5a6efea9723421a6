-- The messages that make the teams of an accepted opening directory, and so the whole of it, are never refused.
use Rattle.std.proofs.Common.{◌≡◌, refl, sym, ap, subst, ◌∙◌, ℕ, suc, ◌+◌, ◌≤◌, List, [], ◌∷◌, ◌++◌, length, map, take, Bool, true, false, cond, filter, arith, length-append, append_assoc, append-nil, ◌⊎◌, ⊎_elim, inl, inr}
use Rattle.std.proofs.lemmas.Bool.{true≢false, or_parts, ltb-false, eqb-true, ne_eqb, eq-eqb}
use Rattle.std.proofs.lemmas.Grind.{common_steps}
use Rattle.std.proofs.lemmas.List.Sums.{sum_by-append}
use Rattle.std.specs.Prelude.{Option, Some, None, Ok, ◌==◌, ◌||◌, not, is_some, nat_lt, nat_le, sum_by, position, option_map}
use Rattle.std.specs.List.{list_any, enumerate_from}
use Rattle.std.specs.Option.{option_or}
use Rattle.dv_value.specs.declared.id.Id.{Id}
use Rattle.dv_schema.specs.First.{first_from}
use Rattle.dv_schema.specs.Definitions.{opening_of}
use Rattle.dv_schema.specs.declared.definition.Definition.{Definition}
use Rattle.dv_schema.specs.declared.opening.Opening.{Opening}
use Rattle.dv_schema.specs.declared.opening.OpeningTeam.{OpeningTeam}
use Rattle.dv_schema.specs.declared.opening.OpeningUnit.{OpeningUnit}
use Rattle.dv_schema.specs.declared.opening.OpeningUser.{OpeningUser}
use Rattle.dv_schema.specs.declared.opening.Role.{Role}
use Rattle.dv_schema.specs.declared.place.Place.TheVariants as place
use Rattle.dv_opening.specs.Directory as opening
use Rattle.dv_opening.specs.Opening.{id_before, made, unit_refused, role_refused, gift_refused, user_refused, team_seat, member_refused, member_count, overfull, team_alone_refused, team_refused, refused_unit, refused_role, refused_user, refused_team, bad_directory}
use Rattle.dv_units.specs.declared.seats.Team.{Team}
use Rattle.dv_units.specs.Chart.{Chart, at, has, is_unit, is_user, root_alone, with_user, with_team, with_member}
use Rattle.dv_units.specs.Messages.{adding_unit, adding_user, adding_team, adding_member}
use Rattle.dv_units.specs.Rules.{most_members}
use Rattle.dv_units.proofs.TreeLaws.{id-is}
use Rattle.dv_roles.specs.declared.role.SecurityRole.{SecurityRole}
use Rattle.dv_roles.specs.State.{State, administrator, owned_of, with_chart}
use Rattle.dv_roles.specs.Entries.{owned_at}
use Rattle.dv_roles.specs.Messages.{starting}
use Rattle.dv_roles.specs.Beginning.{and_then, each, on_chart, making_unit, making_member, giving_to, making_user, making_team, making_role, opened, beginning}
use Rattle.dv_roles.specs.Seen.{seat_of, IsSeen, OpensWell}
use Rattle.dv_units.specs.declared.fault.DirFault.{DirFault}
use Rattle.dv_units.specs.declared.fault.DirFault.TheVariants.{Refused, OutOfMemory}
use Rattle.dv_units.specs.Outcome.{IsFaultOf}
use Rattle.dv_roles.proofs.Outcomes.{err-not, on_chart-ok, and_then-ok, each-keeps}
use Rattle.dv_roles.proofs.GrowthLaws.{IsFree, unit-is, user-is, team-is}
use Rattle.dv_roles.proofs.PutLaws.{at-put, has-with, has-own, length-with}
use Rattle.dv_roles.proofs.AlikeLaws.{team-alike}
use Rattle.dv_roles.proofs.BuiltLaws.{IsBuilt, built-seen, any-append, before-is, walk}
use Rattle.dv_roles.proofs.WellLaws.{role-is, gift-is, not-refused, position-none, any-enumerate, built-team, unit-step, role-step, user-step, gifts-walk}

-- ---- how many different users are among some members of a team
abbrev counted : List ℕ → ℕ → List Id → ℕ
counted ids k xs = length (filter (λ at_j. not (id_before ids at_j.0 at_j.1.0)) (enumerate_from k xs))

abbrev ids_of : List Id → List ℕ
ids_of users = map (λ user. user.0) users

counted-new : (ids : List ℕ) (k : ℕ) (xs : List Id) (x : Id) → id_before ids (k + length xs) x.0 ≡ false → counted ids k (xs ++ x ∷ []) ≡ counted ids k xs + 1
counted-new ids k [] x new = rw (sym (ap (λ n. id_before ids n x.0) (plus k)) ∙ new) refl
  where
    plus : (k : ℕ) → k + 0 ≡ k
    plus k = omega arith
counted-new ids k (y ∷ ys) x new =
    let more = counted-new ids (k + 1) ys x (ap (λ n. id_before ids n x.0) (moved k (length ys)) ∙ new) in
    elim (id_before ids k y.0) as (λ b. length (cond (not b) ((k, y) ∷ filter (λ at_j. not (id_before ids at_j.0 at_j.1.0)) (enumerate_from (k + 1) (ys ++ x ∷ []))) (filter (λ at_j. not (id_before ids at_j.0 at_j.1.0)) (enumerate_from (k + 1) (ys ++ x ∷ []))))
    ≡ length (cond (not b) ((k, y) ∷ filter (λ at_j. not (id_before ids at_j.0 at_j.1.0)) (enumerate_from (k + 1) ys)) (filter (λ at_j. not (id_before ids at_j.0 at_j.1.0)) (enumerate_from (k + 1) ys))) + 1) [
      | true ↦ more
      | false ↦ omega (arith, more)
    ]
  where
    moved : (k n : ℕ) → k + 1 + n ≡ k + suc n
    moved k n = omega arith

counted-le : (ids : List ℕ) (k : ℕ) (front rest : List Id) → counted ids k front ≤ counted ids k (front ++ rest)
counted-le ids k [] rest = omega arith
counted-le ids k (y ∷ ys) rest =
    let less = counted-le ids (k + 1) ys rest in
    elim (id_before ids k y.0) as (λ b. length (cond (not b) ((k, y) ∷ filter (λ at_j. not (id_before ids at_j.0 at_j.1.0)) (enumerate_from (k + 1) ys)) (filter (λ at_j. not (id_before ids at_j.0 at_j.1.0)) (enumerate_from (k + 1) ys)))
    ≤ length (cond (not b) ((k, y) ∷ filter (λ at_j. not (id_before ids at_j.0 at_j.1.0)) (enumerate_from (k + 1) (ys ++ rest))) (filter (λ at_j. not (id_before ids at_j.0 at_j.1.0)) (enumerate_from (k + 1) (ys ++ rest))))) [
      | true ↦ less
      | false ↦ omega (arith, less)
    ]

-- ---- a team whose first members are made
record Joins (c : Chart) (kept : Team) (team : Id) (before : ℕ) (ids : List ℕ) (front : List Id) : Type 0 where
  found : at c.teams team ≡ Some kept
  unit : is_unit c team ≡ false
  user : is_user c team ≡ false
  room : length c.members ≤ before + counted ids 0 front
  joined : (q : Id) → list_any (λ y. q.0 == y.0) front ≡ true → has c.members (team, q) ≡ true

built-member : (o : Opening) (c : Chart) (kept : List (Id × SecurityRole)) (us : List OpeningUnit) (rs : List Role) (ss : List OpeningUser) (ts : List OpeningTeam) (team user : Id) → IsBuilt o c kept us rs ss ts → IsBuilt o (with_member c team user) kept us rs ss ts
built-member o c kept us rs ss ts team user b = record { unit = b.unit; user = b.user; team = b.team; role = b.role; units = b.units; users = b.users; teams = b.teams; roles = b.roles }

module _ (c : Chart) (kept : Team) (team : Id) (before : ℕ) (members front : List Id) (x : Id) (rest : List Id) (is : members ≡ front ++ x ∷ rest) (j : Joins c kept team before (ids_of members) front)
    (user : is_user c x ≡ true) (total : before + counted (ids_of members) 0 members ≤ 100000) where
  is-listed : (q : Id) → (P : Type 0) → (list_any (λ y. q.0 == y.0) front ≡ true → P) → (q.0 ≡ x.0 → P) → list_any (λ y. q.0 == y.0) (front ++ x ∷ []) ≡ true → P
  is-listed q P old new h = by (list_any (λ y. q.0 == y.0) front) refl (sym (any-append (λ y. q.0 == y.0) front x) ∙ h)
    where
      by : (b : Bool) → list_any (λ y. q.0 == y.0) front ≡ b → (b || (q.0 == x.0)) ≡ true → P
      by true listed h = old listed
      by false listed h = new (eqb-true q.0 x.0 h)

  more-room : counted (ids_of members) 0 front ≤ counted (ids_of members) 0 (front ++ x ∷ [])
  more-room = counted-le (ids_of members) 0 front (x ∷ [])

  -- one that is a member already
  joined-still : has c.members (team, x) ≡ true → Joins c kept team before (ids_of members) (front ++ x ∷ [])
  joined-still there = record {
    found = j.found;
    unit = j.unit;
    user = j.user;
    room = let r = j.room in let m = more-room in omega (arith, r, m);
    joined = λ q h. is-listed q (has c.members (team, q) ≡ true) (j.joined q) (λ e. subst (λ y. has c.members (team, y) ≡ true) (sym (id-is q x e)) there) h;
  }

  fresh : has c.members (team, x) ≡ false → id_before (ids_of members) (0 + length front) x.0 ≡ false
  fresh none = ap (λ n. id_before (ids_of members) n x.0) (plus (length front)) ∙ before-is (λ (y : Id). y.0) members front (x ∷ rest) is x.0 ∙ by (list_any (λ y. x.0 == y.0) front) refl
    where
      plus : (n : ℕ) → 0 + n ≡ n
      plus n = omega arith

      by : (b : Bool) → list_any (λ y. x.0 == y.0) front ≡ b → list_any (λ y. x.0 == y.0) front ≡ false
      by true listed = absurd (true≢false (sym (j.joined x listed) ∙ none))
      by false listed = listed

  whole : counted (ids_of members) 0 (front ++ x ∷ []) ≤ counted (ids_of members) 0 members
  whole = subst (λ ys. counted (ids_of members) 0 (front ++ x ∷ []) ≤ counted (ids_of members) 0 ys) (sym (is ∙ sym (append_assoc front (x ∷ []) rest))) (counted-le (ids_of members) 0 (front ++ x ∷ []) rest)

  has-room : has c.members (team, x) ≡ false → length c.members + 1 ≤ 100000
  has-room none = let r = j.room in let n = counted-new (ids_of members) 0 front x (fresh none) in let w = whole in omega (arith, r, n, w, total)

  joined-new : has c.members (team, x) ≡ false → Joins (with_member c team x) kept team before (ids_of members) (front ++ x ∷ [])
  joined-new none = record {
    found = j.found;
    unit = j.unit;
    user = j.user;
    room = let r = j.room in let n = counted-new (ids_of members) 0 front x (fresh none) in let l = length-with (team, x) c.members in omega (arith, r, n, l);
    joined = λ q h. is-listed q (has (with_member c team x).members (team, q) ≡ true) (λ old. has-with (team, x) (team, q) c.members (j.joined q old))
        (λ e. subst (λ y. has (with_member c team x).members (team, y) ≡ true) (sym (id-is q x e)) (has-own (team, x) c.members)) h;
  }

  not-full : length c.members + 1 ≤ 100000 → nat_le most_members (length c.members) ≡ false
  not-full room = grind (arith, common_steps)

  member-made : (e : Chart) × ((adding_member c team x ≡ Ok e) × (Joins e kept team before (ids_of members) (front ++ x ∷ []) × ((e ≡ c) ⊎ (e ≡ with_member c team x))))
  unfolding adding_member
  member-made = by (has c.members (team, x)) refl
    where
      by : (b : Bool) → has c.members (team, x) ≡ b → (e : Chart) × ((adding_member c team x ≡ Ok e) × (Joins e kept team before (ids_of members) (front ++ x ∷ []) × ((e ≡ c) ⊎ (e ≡ with_member c team x))))
      by true there = (c, (rw (j.unit, j.found, user, there) refl, (joined-still there, inl refl)))
      by false none = (with_member c team x, (rw (j.unit, j.found, user, none, not-full (has-room none)) refl, (joined-new none, inr refl)))

-- ---- teams
take-front : {A : Type 0} (front : List A) (x : A) (rest : List A) → take (length front + 1) (front ++ x ∷ rest) ≡ front ++ x ∷ []
take-front front x rest = ap (λ n. take n (front ++ x ∷ rest)) (suc-is (length front)) ∙ on front
  where
    suc-is : (n : ℕ) → n + 1 ≡ suc n
    suc-is n = omega arith

    on : (ys : List _) → take (suc (length ys)) (ys ++ x ∷ rest) ≡ ys ++ x ∷ []
    on [] = refl
    on (y ∷ ys) = ap (λ zs. y ∷ zs) (on ys)

seat-is : (c : Chart) (team : OpeningTeam) (id : Id) → is_user c id ≡ false → at c.teams id ≡ Some (record { unit = team.unit; access = team.access }) → seat_of c id ≡ team_seat team.access
unfolding seat_of
seat-is c team id user found = rw (user, found) (by team.access)
  where
    by : (b : Bool) → cond b opening.AccessTeam opening.OwnerTeam ≡ team_seat b
    by true = refl
    by false = refl

-- a member that the rules don't refuse is a user
member-there : (seen : opening.Directory) (access : Bool) (user : ℕ) → is_some (opening.adding_member seen (team_seat access) user false) ≡ false → seen.is_user user ≡ true
unfolding opening.adding_member
member-there seen true user h = by (seen.is_user user) refl h
  where
    by : (b : Bool) → seen.is_user user ≡ b → is_some (opening.adding_member seen opening.AccessTeam user false) ≡ false → seen.is_user user ≡ true
    by true is h = is
    by false is h = absurd (true≢false (sym (rw is refl) ∙ h))
member-there seen false user h = by (seen.is_user user) refl h
  where
    by : (b : Bool) → seen.is_user user ≡ b → is_some (opening.adding_member seen opening.OwnerTeam user false) ≡ false → seen.is_user user ≡ true
    by true is h = is
    by false is h = absurd (true≢false (sym (rw is refl) ∙ h))

abbrev told-after : Opening → List OpeningTeam → opening.Directory
told-after o front = made o (length o.units) (length o.users) (length front + 1) (length o.roles)

seen-after : (o : Opening) (front : List OpeningTeam) (team : OpeningTeam) (rest : List OpeningTeam) → o.teams ≡ front ++ team ∷ rest → (x : State) → IsBuilt o x.chart x.roles o.units o.roles o.users (front ++ team ∷ []) → IsSeen x (told-after o front)
seen-after o front team rest is x b =
    subst (λ n. IsSeen x (made o (length o.units) (length o.users) n (length o.roles))) (length-append front (team ∷ []))
    (built-seen o x o.units [] o.roles [] o.users [] (front ++ team ∷ []) rest b (sym (append-nil o.units)) (sym (append-nil o.roles)) (sym (append-nil o.users)) (is ∙ sym (append_assoc front (team ∷ []) rest)))

abbrev kept_of : OpeningTeam → Team
kept_of team = record { unit = team.unit; access = team.access }

-- the team with its first members
abbrev HasJoined : Opening → List OpeningTeam → OpeningTeam → List Id → State → Type 0
HasJoined o front team members x = IsBuilt o x.chart x.roles o.units o.roles o.users (front ++ team ∷ [])
    × Joins x.chart (kept_of team) team.id (sum_by member_count front) (ids_of team.members) members

member-step : (o : Opening) (front : List OpeningTeam) (team : OpeningTeam) (rest : List OpeningTeam) → o.teams ≡ front ++ team ∷ rest → sum_by member_count front + counted (ids_of team.members) 0 team.members ≤ 100000
    → (first : List Id) (user : Id) (more : List Id) → team.members ≡ first ++ user ∷ more → (x : State) → HasJoined o front team first x
    → is_some (opening.adding_member (told-after o front) (team_seat team.access) user.0 false) ≡ false → (e : State) × ((making_member team.id x user ≡ Ok e) × HasJoined o front team (first ++ user ∷ []) e)
unfolding making_member
member-step o front team rest is total first user more listed x q good =
    let seen = seen-after o front team rest is x q.0 in
    let there : is_user x.chart user ≡ true = sym (seen.user user) ∙ member-there (told-after o front) team.access user.0 good in
    let new = member-made x.chart (kept_of team) team.id (sum_by member_count front) team.members first user more listed q.1 there total in
    let built : IsBuilt o new.0 x.roles o.units o.roles o.users (front ++ team ∷ []) =
    ⊎_elim (λ e. subst (λ c. IsBuilt o c x.roles o.units o.roles o.users (front ++ team ∷ [])) (sym e) q.0)
    (λ e. subst (λ c. IsBuilt o c x.roles o.units o.roles o.users (front ++ team ∷ [])) (sym e) (built-member o x.chart x.roles o.units o.roles o.users (front ++ team ∷ []) team.id user q.0)) new.1.1.1 in
    (with_chart x new.0, (ap (on_chart x) new.1.0, (built, new.1.1.0)))

team-step : (o : Opening) (front : List OpeningTeam) (team : OpeningTeam) (rest : List OpeningTeam) → o.teams ≡ front ++ team ∷ rest
    → (d : State) → IsBuilt o d.chart d.roles o.units o.roles o.users front × (length d.chart.members ≤ sum_by member_count front) → team_refused o (length front) team ≡ false
    → (e : State) × ((making_team d team ≡ Ok e) × (IsBuilt o e.chart e.roles o.units o.roles o.users (front ++ team ∷ []) × (length e.chart.members ≤ sum_by member_count (front ++ team ∷ []))))
unfolding making_team team_alone_refused overfull member_count member_refused
team-step o front team rest is d p bad =
    let told = told-after o front in
    let parts = or_parts (team_alone_refused o (length front, team)) (overfull o (length front)) bad in
    let a = or_parts (is_some (opening.adding_team (made o (length o.units) (length o.users) (length front) (length o.roles)) team.id.0 team.unit.0))
    (member_refused told (team_seat team.access) team.members || gift_refused told (team_seat team.access) team.roles) parts.0 in
    let b = or_parts (member_refused told (team_seat team.access) team.members) (gift_refused told (team_seat team.access) team.roles) a.1 in
    let taken : take (length front + 1) o.teams ≡ front ++ team ∷ [] = ap (take (length front + 1)) is ∙ take-front front team rest in
    let all : sum_by member_count (front ++ team ∷ []) ≤ 100000 = ltb-false 100000 (sum_by member_count (front ++ team ∷ [])) (sym (ap (λ ts. nat_lt 100000 (sum_by member_count ts)) taken) ∙ parts.1) in
    let sums = sum_by-append member_count front (team ∷ []) in
    let total : sum_by member_count front + counted (ids_of team.members) 0 team.members ≤ 100000 = omega (arith, all, sums) in
    let seen = built-seen o d o.units [] o.roles [] o.users [] front (team ∷ rest) p.0 (sym (append-nil o.units)) (sym (append-nil o.roles)) (sym (append-nil o.users)) is in
    let c = not-refused (adding_team d.chart team.id team.unit team.access) (team-alike d (made o (length o.units) (length o.users) (length front) (length o.roles)) seen team.id team.unit team.access ∙ a.0) in
    let new = team-is d.chart c.0 team.id team.unit team.access c.1 in
    let begun = subst (λ x. IsBuilt o x d.roles o.units o.roles o.users (front ++ team ∷ [])) new.1 (built-team o d o.units o.roles o.users front p.0 team new.0.team) in
    let joins = subst (λ x. Joins x (kept_of team) team.id (sum_by member_count front) (ids_of team.members) []) new.1 (first-joins new.0 (p.1)) in
    let members = walk (making_member team.id) (HasJoined o front team) (λ at_k. is_some (opening.adding_member told (team_seat team.access) at_k.1.0 false)) team.members (member-step o front team rest is total)
    [] team.members refl (any-enumerate (λ user. is_some (opening.adding_member told (team_seat team.access) user.0 false)) team.members 0 ∙ b.0) (with_chart d c.0) (begun, joins) in
    let last = gifts-walk told team.id (team_seat team.access) (HasJoined o front team team.members) (λ x role q. q)
    (λ x q. (seen-after o front team rest is x q.0, seat-is x.chart team team.id (Joins.user q.1) (Joins.found q.1))) team.roles b.1 members.0 members.1.1 in (
      last.0,
      (
        ap (λ r. and_then (on_chart d r) (λ e. and_then (each (making_member team.id) e team.members) (λ f. each (giving_to team.id) f team.roles))) c.1
            ∙ ap (λ r. and_then r (λ f. each (giving_to team.id) f team.roles)) members.1.0 ∙ last.1.0,
        (last.1.1.0, let r = Joins.room last.1.1.1 in omega (arith, r, sums)),
      ),
    )
  where
    first-joins : IsFree d.chart team.id → length d.chart.members ≤ sum_by member_count front → Joins (with_team d.chart team.id (kept_of team)) (kept_of team) team.id (sum_by member_count front) (ids_of team.members) []
    first-joins free few = record {
      found = at-put team.id (kept_of team) d.chart.teams team.id ∙ rw (eq-eqb team.id.0 team.id.0 refl) refl;
      unit = free.unit;
      user = free.user;
      room = omega (arith, few);
      joined = λ q h. absurd (true≢false (sym h));
    }

-- ---- the whole
teams-none : (o : Opening) (k : ℕ) (teams : List OpeningTeam) → first_from (λ i team. cond (team_refused o i team) (Some (place.Team i)) None) k teams ≡ None → list_any (λ at_k. team_refused o at_k.0 at_k.1) (enumerate_from k teams) ≡ false
unfolding first_from
teams-none o k [] h = refl
teams-none o k (team ∷ teams) h =
    elim (team_refused o k team) as (λ b. option_or (cond b (Some (place.Team k)) None) (first_from (λ i team. cond (team_refused o i team) (Some (place.Team i)) None) (k + 1) teams) ≡ None
    → (b || list_any (λ at_k. team_refused o at_k.0 at_k.1) (enumerate_from (k + 1) teams)) ≡ false) [
      | true ↦ λ h. ap is_some h
      | false ↦ λ h. teams-none o (k + 1) teams h
    ] h

or-none : {A : Type 0} (a b : Option A) → option_or a b ≡ None → (a ≡ None) × (b ≡ None)
or-none None b h = (refl, h)
or-none (Some x) b h = absurd (true≢false (ap is_some h))

map-none : {A B : Type 0} (f : A → B) (a : Option A) → option_map f a ≡ None → a ≡ None
map-none f None h = refl
map-none f (Some x) h = absurd (true≢false (ap is_some h))

abbrev begun : Definition → State
begun definition = record {
  chart = with_user (root_alone (opening_of definition).root) (opening_of definition).admin (record { unit = (opening_of definition).root; enabled = true });
  owned = owned_of definition;
  roles = [];
  gifts = ((opening_of definition).admin, administrator) ∷ [];
}

opened-is : (definition : Definition) → OpensWell definition → opened definition ≡ Ok (begun definition)
unfolding opened starting adding_user
opened-is definition well =
    let o = opening_of definition in
    rw (ne_eqb o.root.0 0 well.root, ne_eqb o.admin.0 0 well.admin, ne_eqb o.admin.0 o.root.0 well.apart, eq-eqb o.root.0 o.root.0 refl) refl

begun-built : (definition : Definition) → IsBuilt (opening_of definition) (begun definition).chart [] [] [] [] []
begun-built definition = record {
  unit = λ id. bits (opening_of definition).root (id.0 == (opening_of definition).root.0);
  user = λ id. bits (record { unit = (opening_of definition).root; enabled = true }) (id.0 == (opening_of definition).admin.0);
  team = λ id. refl;
  role = λ id. refl;
  units = omega arith;
  users = omega arith;
  teams = refl;
  roles = refl;
}
  where
    bits : {V : Type 0} (v : V) (b : Bool) → is_some (cond b (Some v) None) ≡ (b || false)
    bits v true = refl
    bits v false = refl

-- what makes units, roles and users leaves the members of teams
abbrev SameMembers : State → State → Type 0
SameMembers d e = e.chart.members ≡ d.chart.members

unit-members : (d e : State) (unit : OpeningUnit) → making_unit d unit ≡ Ok e → SameMembers d e
unfolding making_unit
unit-members d e unit h =
    let is = on_chart-ok d e (adding_unit d.chart unit.id unit.parent) h in
    ap (λ (x : State). x.chart.members) (sym is.1.1) ∙ ap (λ (c : Chart). c.members) (sym (unit-is d.chart is.0 unit.id unit.parent is.1.0).1)

role-members : (definition : Definition) (d e : State) (role : Role) → making_role definition d role ≡ Ok e → SameMembers d e
role-members definition d e role h = ap (λ (x : State). x.chart.members) (sym (role-is d e definition role h).1)

user-members : (d e : State) (user : OpeningUser) → making_user d user ≡ Ok e → SameMembers d e
unfolding making_user
user-members d e user h =
    let first = and_then-ok (on_chart d (adding_user d.chart user.id user.unit)) (λ x. each (giving_to user.id) x user.roles) e h in
    let is = on_chart-ok d first.0 (adding_user d.chart user.id user.unit) first.1.0 in
    each-keeps SameMembers (λ x. refl) (λ x y z one two. two ∙ one) (giving_to user.id) (λ x y role given. ap (λ (z : State). z.chart.members) (sym (gift-is x y role user.id given))) user.roles first.0 e first.1.1
    ∙ ap (λ (x : State). x.chart.members) (sym is.1.1) ∙ ap (λ (c : Chart). c.members) (sym (user-is d.chart is.0 user.id user.unit is.1.0).1)

pub beginning-well : (definition : Definition) → OpensWell definition → (d : State) × (beginning definition ≡ Ok d)
unfolding beginning bad_directory refused_unit refused_role refused_user refused_team
beginning-well definition well =
    let o = opening_of definition in
    let owned = owned_at definition in
    let one = or-none (refused_unit o) (option_or (refused_role owned o) (option_or (refused_user o) (refused_team o))) well.items in
    let two = or-none (refused_role owned o) (option_or (refused_user o) (refused_team o)) one.1 in
    let three = or-none (refused_user o) (refused_team o) two.1 in
    let units = walk making_unit (λ f x. IsBuilt o x.chart x.roles f [] [] []) (unit_refused o) o.units (unit-step o) [] o.units refl
    (position-none (unit_refused o) (enumerate_from 0 o.units) (map-none place.BusinessUnit (position (unit_refused o) (enumerate_from 0 o.units)) one.0)) (begun definition) (begun-built definition) in
    let roles = walk (making_role definition) (λ f x. IsBuilt o x.chart x.roles o.units f [] []) (role_refused owned o) o.roles (role-step definition o) [] o.roles refl
    (position-none (role_refused owned o) (enumerate_from 0 o.roles) (map-none place.Role (position (role_refused owned o) (enumerate_from 0 o.roles)) two.0)) units.0 units.1.1 in
    let users = walk making_user (λ f x. IsBuilt o x.chart x.roles o.units o.roles f []) (user_refused o) o.users (user-step o) [] o.users refl
    (position-none (user_refused o) (enumerate_from 0 o.users) (map-none place.User (position (user_refused o) (enumerate_from 0 o.users)) three.0)) roles.0 roles.1.1 in
    let none : users.0.chart.members ≡ [] =
    each-keeps SameMembers (λ x. refl) (λ x y z one two. two ∙ one) making_user user-members o.users roles.0 users.0 users.1.0
    ∙ each-keeps SameMembers (λ x. refl) (λ x y z one two. two ∙ one) (making_role definition) (role-members definition) o.roles units.0 roles.0 roles.1.0
    ∙ each-keeps SameMembers (λ x. refl) (λ x y z one two. two ∙ one) making_unit unit-members o.units (begun definition) units.0 units.1.0 in
    let teams = walk making_team (λ f x. IsBuilt o x.chart x.roles o.units o.roles o.users f × (length x.chart.members ≤ sum_by member_count f)) (λ at_k. team_refused o at_k.0 at_k.1) o.teams (team-step o) [] o.teams refl
    (teams-none o 0 o.teams three.1) users.0 (users.1.1, omega (arith, ap length none)) in (
      teams.0,
      ap (λ r. and_then r (λ d. and_then (each making_unit d o.units) (λ e. and_then (each (making_role definition) e o.roles) (λ f. and_then (each making_user f o.users) (λ g. each making_team g o.teams))))) (opened-is definition well)
          ∙ ap (λ r. and_then r (λ e. and_then (each (making_role definition) e o.roles) (λ f. and_then (each making_user f o.users) (λ g. each making_team g o.teams)))) units.1.0
          ∙ ap (λ r. and_then r (λ f. and_then (each making_user f o.users) (λ g. each making_team g o.teams))) roles.1.0
          ∙ ap (λ r. and_then r (λ g. each making_team g o.teams)) users.1.0 ∙ teams.1.0,
    )

-- so a fault is want of memory
pub never-fault : (definition : Definition) (fault : DirFault) → IsFaultOf (beginning definition) fault → OpensWell definition → fault ≡ OutOfMemory
never-fault definition OutOfMemory cause well = refl
never-fault definition (Refused refusal) cause well = let made = beginning-well definition well in absurd (err-not refusal made.0 (sym cause ∙ made.1))
