-- A walk gives each pair once, and goes on from seat to seat.
use Rattle.std.proofs.Common.{◌≡◌, refl, sym, ap, subst, ◌∙◌, ℕ, ◌+◌, ◌≤◌, ◌<◌, Bool, true, false, IsTrue, arith}
use Rattle.std.proofs.lemmas.Bool.{true≢false, and_parts, eq-eqb, eqb-true, eqb-false, ne_eqb, ltb-true, ltb-false, le-ltb, leb-true, leb-false, lt-ltb, le-leb}
use Rattle.std.specs.Prelude.{not, Option, Some, None, ◌==◌, ◌&&◌, ◌||◌, nat_lt, nat_le}
use Rattle.std.specs.Option.{unwrap_or}
use Rattle.dv_value.specs.declared.id.Id.{Id}
use Rattle.dv_units.specs.Cursors.{is_past}
use Rattle.dv_units.specs.Membership.{is_in_team, IsNextTeam}
use Rattle.dv_units.proofs.TreeLaws.{id-is}
use Rattle.dv_roles.specs.declared.principal.Principal.{Principal}
use Rattle.dv_roles.specs.declared.principal.Principal.TheVariants.{User, OwnerTeam, AccessTeam}
use Rattle.dv_roles.specs.State.{principal_of}
use Rattle.dv_roles.specs.Held.{holds, is_owner_team, user_holds, team_holds, team_allows}
use Rattle.dv_roles.specs.Seated.{is_seated}
use Rattle.dv_roles.specs.Walk.{Query, is_left, is_ahead, is_own_ahead, IsNextDepth, IsOver, IsSame, IsGiven}

-- a depth more was looked at
depth-more : (held : ℕ → Bool) (from found : ℕ) → from ≤ found → ((d : ℕ) → from ≤ d → d < found → held d ≡ false)
    → (d : ℕ) → (nat_le (found + 1) d && held d) ≡ ((nat_le from d && held d) && not (d == found))
depth-more held from found le none d = by (held d) refl
  where
    both : (a b : Bool) → (a && false) ≡ ((b && false) && not (d == found))
    both true true = refl
    both true false = refl
    both false true = refl
    both false false = refl

    numbers : ((from ≤ d) → (d < found) → ⊥) → (nat_le (found + 1) d && true) ≡ ((nat_le from d && true) && not (d == found))
    numbers gap = sizes (nat_le (found + 1) d) (nat_le from d) (d == found) refl refl refl
      where
        sizes : (a b e : Bool) → nat_le (found + 1) d ≡ a → nat_le from d ≡ b → (d == found) ≡ e → (a && true) ≡ ((b && true) && not e)
        sizes true true false more past other = refl
        sizes true true true more past here = absurd (omega (arith, leb-true (found + 1) d more, eqb-true d found here))
        sizes true false e more before eq = absurd (omega (arith, leb-true (found + 1) d more, leb-false from d before, le))
        sizes false false e less before eq = refl
        sizes false true true less past here = refl
        sizes false true false less past other = absurd (gap (leb-true from d past) (omega (arith, leb-false (found + 1) d less, eqb-false d found other)))

    by : (h : Bool) → held d ≡ h → (nat_le (found + 1) d && h) ≡ ((nat_le from d && h) && not (d == found))
    by false is = both (nat_le (found + 1) d) (nat_le from d)
    by true is = numbers (λ a b. true≢false (sym is ∙ none d a b))

and-none : (a : Bool) {b : Bool} → b ≡ false → (a && b) ≡ false
and-none true none = none
and-none false none = refl

and-true : (b : Bool) → b ≡ (b && true)
and-true true = refl
and-true false = refl

lt-is : (a b : ℕ) → a < b → nat_lt a b ≡ true
lt-is a b lt = lt-ltb a b lt

le-is : (a b : ℕ) → a ≤ b → nat_le a b ≡ true
le-is a b le = le-leb a b le

own-bits : (l s v f t : Bool) → (f ≡ true → s ≡ true → t ≡ false) → (l && ((s && (v && not f)) || t)) ≡ ((l && ((s && v) || t)) && not (f && s))
own-bits false s v f t apart = refl
own-bits true false v false true apart = refl
own-bits true false v false false apart = refl
own-bits true false v true true apart = refl
own-bits true false v true false apart = refl
own-bits true true true false t apart = refl
own-bits true true false false true apart = refl
own-bits true true false false false apart = refl
own-bits true true v true true apart = absurd (true≢false (apart refl refl))
own-bits true true true true false apart = refl
own-bits true true false true false apart = refl

-- a user is no owner team
user-apart : (q : Query) (depth : ℕ) → user_holds q.d q.action q.table depth q.user ≡ true → team_holds q.d q.action q.table depth q.user ≡ false
unfolding user_holds team_holds team_allows
user-apart q depth holds = by (principal_of q.d.chart q.user) refl
  where
    not_team : is_owner_team q.d.chart q.user ≡ false → team_holds q.d q.action q.table depth q.user ≡ false
    not_team is = rw is refl

    by : (p : Option Principal) → principal_of q.d.chart q.user ≡ p → team_holds q.d q.action q.table depth q.user ≡ false
    by (Some User) is = not_team (rw is refl)
    by (Some AccessTeam) is = not_team (rw is refl)
    by None is = not_team (rw is refl)
    by (Some OwnerTeam) is = absurd (true≢false (sym holds ∙ rw is refl))

own-given : (q : Query) (from found : ℕ) → IsNextDepth q None from (Some found) → IsGiven q None from None (found + 1) (found, q.user)
unfolding is_left
own-given q from found next = (
  rw (lt-is found 4 next.1.0, eq-eqb q.user.0 q.user.0 refl, le-is from found next.0, next.1.1.0) refl,
  λ depth seat.
      let held = λ (d : ℕ). user_holds q.d q.action q.table d q.user in
      ap (λ b. nat_lt depth 4 && (((seat.0 == q.user.0) && b) || (is_in_team q.d.chart q.user seat && team_holds q.d q.action q.table depth seat)))
      (depth-more held from found next.0 next.1.1.1 depth)
      ∙ own-bits (nat_lt depth 4) (seat.0 == q.user.0) (nat_le from depth && held depth) (depth == found) (is_in_team q.d.chart q.user seat && team_holds q.d q.action q.table depth seat)
      (λ here own. and-none (is_in_team q.d.chart q.user seat)
      (subst (λ s. team_holds q.d q.action q.table depth s ≡ false) (sym (id-is seat q.user (eqb-true seat.0 q.user.0 own)))
      (user-apart q depth (ap held (eqb-true depth found here) ∙ next.1.1.0)))),
)

seat-bits : (i p e a b h f : Bool) → (e ≡ true → p ≡ false) → (e ≡ true → (a && h) ≡ ((b && h) && not f))
    → (i && ((p || (e && a)) && h)) ≡ ((i && ((p || (e && b)) && h)) && not (f && e))
seat-bits false p e a b h f apart step = refl
seat-bits true p true a b h true apart step = rw (apart refl) (step refl)
seat-bits true p true a b h false apart step = rw (apart refl) (step refl)
seat-bits true p false a b h true apart step = and-true ((p || false) && h)
seat-bits true p false a b h false apart step = and-true ((p || false) && h)

team-bits : (l s u i p e a b h f : Bool) → (e ≡ true → p ≡ false) → (e ≡ true → (a && h) ≡ ((b && h) && not f))
    → (l && ((s && (false && u)) || (i && ((p || (e && a)) && h)))) ≡ ((l && ((s && (false && u)) || (i && ((p || (e && b)) && h)))) && not (f && e))
team-bits false s u i p e a b h f apart step = refl
team-bits true true u i p e a b h f apart step = seat-bits i p e a b h f apart step
team-bits true false u i p e a b h f apart step = seat-bits i p e a b h f apart step

team-given : (q : Query) (team : Id) (from found : ℕ) → is_in_team q.d.chart q.user team ≡ true → IsNextDepth q (Some team) from (Some found) → IsGiven q (Some team) from (Some team) (found + 1) (found, team)
unfolding is_left
team-given q team from found seated next = (
  rw (lt-is found 4 next.1.0, seated, eq-eqb team.0 team.0 refl, le-is from found next.0, next.1.1.0) (true-last (nat_lt team.0 team.0) ((team.0 == q.user.0) && false)),
  λ depth seat.
      team-bits (nat_lt depth 4) (seat.0 == q.user.0) (user_holds q.d q.action q.table depth q.user) (is_in_team q.d.chart q.user seat)
      (nat_lt team.0 seat.0) (seat.0 == team.0) (nat_le (found + 1) depth) (nat_le from depth) (team_holds q.d q.action q.table depth seat) (depth == found)
      (λ here. le-ltb team.0 seat.0 (omega (arith, eqb-true seat.0 team.0 here)))
      (λ here. subst (λ s. (nat_le (found + 1) depth && team_holds q.d q.action q.table depth s) ≡ ((nat_le from depth && team_holds q.d q.action q.table depth s) && not (depth == found)))
      (sym (id-is seat team (eqb-true seat.0 team.0 here)))
      (depth-more (λ d. team_holds q.d q.action q.table d team) from found next.0 next.1.1.1 depth)),
)
  where
    true-last : (p s : Bool) → (s || ((p || true) && true)) ≡ true
    true-last true true = refl
    true-last true false = refl
    true-last false true = refl
    true-last false false = refl

pub given : (q : Query) (team : Option Id) (from found : ℕ) → is_seated q.d q.user team ≡ true → IsNextDepth q team from (Some found) → IsGiven q team from team (found + 1) (found, unwrap_or team q.user)
given q None from found seated next = own-given q from found next
given q (Some team) from found seated next = team-given q team from found seated next

-- what is left at a depth, once nothing is left at the present seat
rest-bits : (l s a i x y : Bool) → (l ≡ true → a ≡ false) → (l ≡ true → i ≡ true → x ≡ y)
    → (l && ((s && a) || (i && x))) ≡ (l && (i && y))
rest-bits false s a i x y none same = refl
rest-bits true s a false x y none same = rw (none refl) (nothing s)
  where
    nothing : (s : Bool) → ((s && false) || false) ≡ false
    nothing true = refl
    nothing false = refl
rest-bits true true a true x y none same = rw (none refl) (same refl refl)
rest-bits true false a true x y none same = same refl refl

own-none : (q : Query) (team : Option Id) (from depth : ℕ) → IsNextDepth q team from None → nat_lt depth 4 ≡ true → (is_own_ahead team from depth && user_holds q.d q.action q.table depth q.user) ≡ false
own-none q None from depth next few = by (nat_le from depth) refl
  where
    by : (b : Bool) → nat_le from depth ≡ b → (b && user_holds q.d q.action q.table depth q.user) ≡ false
    by true is = next depth (leb-true from depth is) (ltb-true depth 4 few)
    by false is = refl
own-none q (Some team) from depth next few = refl

-- which pairs of teams are left then: those of the teams past the present one
pub past-left : (q : Query) (team : Option Id) (from : ℕ) → IsNextDepth q team from None → (depth : ℕ) (seat : Id)
    → is_left q team from depth seat ≡ (nat_lt depth 4 && (is_in_team q.d.chart q.user seat && (is_past team seat && team_holds q.d q.action q.table depth seat)))
unfolding is_left
past-left q team from next depth seat =
    rest-bits (nat_lt depth 4) (seat.0 == q.user.0) (is_own_ahead team from depth && user_holds q.d q.action q.table depth q.user) (is_in_team q.d.chart q.user seat)
    (is_ahead team from depth seat && team_holds q.d q.action q.table depth seat) (is_past team seat && team_holds q.d q.action q.table depth seat)
    (own-none q team from depth next) (λ few _i. same team next few)
  where
    same : (team : Option Id) → IsNextDepth q team from None → nat_lt depth 4 ≡ true
        → (is_ahead team from depth seat && team_holds q.d q.action q.table depth seat) ≡ (is_past team seat && team_holds q.d q.action q.table depth seat)
    same None next few = refl
    same (Some team) next few = bits (nat_lt team.0 seat.0) (seat.0 == team.0) (nat_le from depth) (team_holds q.d q.action q.table depth seat)
        (λ here deep. ap (λ s. team_holds q.d q.action q.table depth s) (id-is seat team (eqb-true seat.0 team.0 here)) ∙ next depth (leb-true from depth deep) (ltb-true depth 4 few))
      where
        bits : (p e b h : Bool) → (e ≡ true → b ≡ true → h ≡ false) → ((p || (e && b)) && h) ≡ (p && h)
        bits true e b h none = refl
        bits false true true h none = none refl refl
        bits false true false h none = refl
        bits false false b h none = refl

pub over : (q : Query) (team : Option Id) (from : ℕ) → IsNextDepth q team from None → IsNextTeam q.d.chart q.user team None → IsOver q team from
over q team from next last depth seat = past-left q team from next depth seat ∙ bits (nat_lt depth 4) (is_in_team q.d.chart q.user seat) (is_past team seat) (team_holds q.d q.action q.table depth seat) (last seat)
  where
    bits : (l i p h : Bool) → (i && p) ≡ false → (l && (i && (p && h))) ≡ false
    bits false i p h none = refl
    bits true false p h none = refl
    bits true true p h none = rw none refl

pub gone-on : (q : Query) (team : Option Id) (from : ℕ) (further : Id) → IsNextDepth q team from None → IsNextTeam q.d.chart q.user team (Some further) → IsSame q team from (Some further) 0
unfolding is_left
gone-on q team from further next least depth seat =
    bits (nat_lt depth 4) (seat.0 == q.user.0) (user_holds q.d q.action q.table depth q.user) (is_in_team q.d.chart q.user seat)
    (nat_lt further.0 seat.0 || ((seat.0 == further.0) && nat_le 0 depth)) (is_past team seat) (team_holds q.d q.action q.table depth seat) same
    ∙ sym (past-left q team from next depth seat)
  where
    bits : (l s u i x y h : Bool) → (i ≡ true → x ≡ y) → (l && ((s && (false && u)) || (i && (x && h)))) ≡ (l && (i && (y && h)))
    bits false s u i x y h eq = refl
    bits true true u false x y h eq = refl
    bits true false u false x y h eq = refl
    bits true true u true x y h eq = ap (λ b. b && h) (eq refl)
    bits true false u true x y h eq = ap (λ b. b && h) (eq refl)

    numbers : further.0 ≤ seat.0 → (nat_lt further.0 seat.0 || ((seat.0 == further.0) && nat_le 0 depth)) ≡ true
    numbers le = by (nat_lt further.0 seat.0) refl
      where
        by : (b : Bool) → nat_lt further.0 seat.0 ≡ b → (nat_lt further.0 seat.0 || ((seat.0 == further.0) && nat_le 0 depth)) ≡ true
        by true is = rw is refl
        by false is = rw (is, eq-eqb seat.0 further.0 (omega (arith, le, ltb-false further.0 seat.0 is)), le-leb 0 depth (omega arith)) refl

    before : seat.0 < further.0 → (nat_lt further.0 seat.0 || ((seat.0 == further.0) && nat_le 0 depth)) ≡ false
    before lt = rw (le-ltb further.0 seat.0 (omega (arith, lt)), ne_eqb seat.0 further.0 (λ e. omega (arith, lt, e))) refl

    -- a team not past the present one is before the further one
    earlier : (team : Option Id) → IsTrue (is_past team further) → is_past team seat ≡ false → seat.0 < further.0
    earlier None is none = absurd (true≢false none)
    earlier (Some id) is none = omega (arith, ltb-true id.0 further.0 is, ltb-false id.0 seat.0 none)

    same : is_in_team q.d.chart q.user seat ≡ true → (nat_lt further.0 seat.0 || ((seat.0 == further.0) && nat_le 0 depth)) ≡ is_past team seat
    same in_team = by (is_past team seat) refl
      where
        by : (b : Bool) → is_past team seat ≡ b → (nat_lt further.0 seat.0 || ((seat.0 == further.0) && nat_le 0 depth)) ≡ is_past team seat
        by true is = numbers (least.1 seat (rw (in_team, is) refl)) ∙ sym is
        by false is = before (earlier team (and_parts (is_in_team q.d.chart q.user further) (is_past team further) least.0).1 is) ∙ sym is

-- at its start a walk has all pairs left
pub at-start : (q : Query) (depth : ℕ) (seat : Id) → is_left q None 0 depth seat ≡ holds q.d q.user q.action q.table depth seat
unfolding is_left
at-start q depth seat =
    ap (λ b. nat_lt depth 4 && (((seat.0 == q.user.0) && (b && user_holds q.d q.action q.table depth q.user)) || (is_in_team q.d.chart q.user seat && team_holds q.d q.action q.table depth seat)))
    (le-leb 0 depth (omega arith))
