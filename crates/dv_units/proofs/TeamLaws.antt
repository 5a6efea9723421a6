-- The teams of a user: the default team and the further ones together.
use Rattle.std.proofs.Common.{◌≡◌, ◌≢◌, refl, sym, ap, subst, ◌∙◌, List, Bool, true, false, ℕ, ◌<◌, arith, ⊎_elim}
use Rattle.dv_units.proofs.TreeLaws.{id-is}
use Rattle.std.proofs.lemmas.Bool.{true≢false, lt-ltb, and_parts, and_from, eqb-true, eq-eqb, cases_order}
use Rattle.std.specs.Prelude.{◌==◌, ◌||◌, ◌&&◌, Option, Some, None, nat_lt}
use Rattle.std.specs.Option.{unwrap_or, option_map_or}
use Rattle.dv_value.specs.declared.id.Id.{Id}
use Rattle.dv_units.specs.declared.seats.User.{User}
use Rattle.dv_units.specs.Chart.{Chart, at, has}
use Rattle.dv_units.specs.Cursors.{is_past}
use Rattle.dv_units.specs.Index.{IsWhole}
use Rattle.dv_units.specs.Membership.{IsLeast, IsNextTeam, is_default_team, is_in_team}

-- a test that says the same
least-same : (p q : Id → Bool) → ((id : Id) → p id ≡ q id) → (o : Option Id) → IsLeast p o → IsLeast q o
least-same p q same None h = λ id. sym (same id) ∙ h id
least-same p q same (Some id) h = (sym (same id) ∙ h.0, λ other t. h.1 other (same other ∙ t))

-- the least of all is the least past nothing, where the nil id doesn't pass
pub least-of_all : (p : Id → Bool) (o : Option Id) → p (record { 0 = 0 }) ≡ false → IsLeast (λ id. p id && nat_lt 0 id.0) o → IsLeast (λ id. p id && is_past None id) o
least-of_all p o none least = least-same (λ id. p id && nat_lt 0 id.0) (λ id. p id && is_past None id) same o least
  where
    same : (id : Id) → (p id && nat_lt 0 id.0) ≡ (p id && true)
    same id = elim (p id) as (λ b. p id ≡ b → (b && nat_lt 0 id.0) ≡ (b && true)) [
      | false ↦ λ is. refl
      | true ↦ λ is. lt-ltb 0 id.0 (positive is)
    ] refl
      where
        positive : p id ≡ true → 0 < id.0
        positive is = ⊎_elim (λ (e : id.0 ≡ 0). absurd (true≢false (sym is ∙ ap p (id-is id (record { 0 = 0 }) e) ∙ none)))
            (λ rest. ⊎_elim (λ (lt : id.0 < 0). absurd (omega arith)) (λ (gt : 0 < id.0). gt) rest) (cases_order id.0 0)

-- the default team of a user, where it is past
pub default-first : (chart : Chart) (user : Id) (after : Option Id) (found : User) → at chart.users user ≡ Some found → is_past after found.unit ≡ true → IsLeast (λ team. is_default_team chart user team && is_past after team) (Some found.unit)
default-first chart user after found is past = (
  and_from (is_default_team chart user found.unit) (is_past after found.unit) (ap (λ o. option_map_or (λ (x : User). found.unit.0 == x.unit.0) o false) is ∙ eq-eqb found.unit.0 found.unit.0 refl) past,
  λ other h.
      let parts = and_parts (is_default_team chart user other) (is_past after other) h in
      let same : other.0 ≡ found.unit.0 = eqb-true other.0 found.unit.0 (sym (ap (λ o. option_map_or (λ (x : User). other.0 == x.unit.0) o false) is) ∙ parts.0) in
      omega arith,
)

-- ---- the default team and the further teams together
both : (d m p : Bool) → ((d && p) || (m && p)) ≡ ((d || m) && p)
both true true true = refl
both true true false = refl
both true false true = refl
both true false false = refl
both false true true = refl
both false true false = refl
both false false true = refl
both false false false = refl

named-past : (m : Bool) (n : ℕ) → (m ≡ true → n ≢ 0) → (m && nat_lt 0 n) ≡ (m && true)
named-past true n named = lt-ltb 0 n (⊎_elim (λ (e : n ≡ 0). absurd (named refl e)) (λ rest. ⊎_elim (λ (lt : n < 0). absurd (omega arith)) (λ (gt : 0 < n). gt) rest) (cases_order n 0))
named-past false n named = refl

pub team-test : (chart : Chart) (joined : List (Id × Id)) → IsWhole chart joined → (user : Id) (after : Option Id) (id : Id)
    → ((is_default_team chart user id && is_past after id) || (has joined (user, id) && nat_lt (unwrap_or after (record { 0 = 0 })).0 id.0)) ≡ (is_in_team chart user id && is_past after id)
team-test chart joined w user None id =
    ap (λ m. (is_default_team chart user id && true) || (m && nat_lt 0 id.0)) (w.turned id user)
    ∙ ap (λ m. (is_default_team chart user id && true) || m) (named-past (has chart.members (id, user)) id.0 (λ h. w.rules.team_named id (w.rules.member_team id user h)))
    ∙ both (is_default_team chart user id) (has chart.members (id, user)) true
team-test chart joined w user (Some after) id =
    ap (λ m. (is_default_team chart user id && nat_lt after.0 id.0) || (m && nat_lt after.0 id.0)) (w.turned id user)
    ∙ both (is_default_team chart user id) (has chart.members (id, user)) (nat_lt after.0 id.0)

pub next-team : (now chart : Chart) (joined : List (Id × Id)) → chart ≡ now → IsWhole chart joined → (user from : Id) (after o : Option Id) → from ≡ unwrap_or after (record { 0 = 0 })
    → IsLeast (λ id. (is_default_team now user id && is_past after id) || (has joined (user, id) && nat_lt from.0 id.0)) o → IsNextTeam now user after o
next-team now chart joined view w user from after o is least =
    least-same (λ id. (is_default_team now user id && is_past after id) || (has joined (user, id) && nat_lt from.0 id.0)) (λ id. is_in_team now user id && is_past after id)
    (λ id. ap (λ (x : Id). (is_default_team now user id && is_past after id) || (has joined (user, id) && nat_lt x.0 id.0)) is
    ∙ subst (λ x. ((is_default_team x user id && is_past after id) || (has joined (user, id) && nat_lt (unwrap_or after (record { 0 = 0 })).0 id.0)) ≡ (is_in_team x user id && is_past after id)) view (team-test chart joined w user after id))
    o least
