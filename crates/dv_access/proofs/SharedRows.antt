-- Shares that were looked for, team by team.
use Rattle.std.proofs.Common.{rules, ◌≡◌, refl, sym, ap, ◌∙◌, ℕ, ◌≤◌, ◌<◌, zero, suc, ◌⊎◌, inl, inr, Bool, true, false, arith}
use Rattle.std.proofs.lemmas.Bool.{true≢false, eqb-true, ltb-false}
use Rattle.std.proofs.lemmas.Nat.Bits.{bit_at_or}
use Rattle.std.specs.Prelude.{IsTrue, Option, None, Some, max, bit_or, is_some, ◌==◌, ◌||◌, nat_lt}
use Rattle.std.specs.Int.{bit_at}
use Rattle.std.specs.Option.{unwrap_or}
use Rattle.dv_value.specs.declared.id.Id.{Id}
use Rattle.dv_schema.specs.declared.opening.Action.{Action}
use Rattle.dv_units.specs.Chart.{Chart}
use Rattle.dv_units.specs.Cursors.{is_past}
use Rattle.dv_units.specs.Membership.{is_in_team, IsNextTeam}
use Rattle.dv_roles.specs.State.{State}
use Rattle.dv_store.specs.World.{grant_at}
use Rattle.dv_store.specs.Cursors.{Told, joined}
use Rattle.dv_access.specs.Rights.{bit_of, has_right, grant_has}
use Rattle.dv_access.specs.Permitted.{IsShared}
use Rattle.dv_access.proofs.Walks.{id_is}
use Rattle.dv_access.proofs.LeastIds.{team_is, past_is}

-- no team up to the next one has it
pub none_more : (chart : Chart) (user : Id) (after : Option Id) (next : Id) (has : Id → Bool) → IsNextTeam chart user after (Some next)
    → ((team : Id) → IsTrue (is_in_team chart user team) → is_past after team ≡ false → has team ≡ false) → has next ≡ false
    → (team : Id) → IsTrue (is_in_team chart user team) → nat_lt next.0 team.0 ≡ false → has team ≡ false
none_more chart user after next has is before miss team own seen = of (is_past after team) refl
  where
    of : (b : Bool) → is_past after team ≡ b → has team ≡ false
    of false not = before team own not
    of true past = ap has (id_is team next (meets team.0 next.0 (ltb-false next.0 team.0 seen) ((team_is chart user after (Some next) is).least team own (past_is after team past)))) ∙ miss
      where
        meets : (a b : ℕ) → a ≤ b → b ≤ a → a ≡ b
        meets a b p q = omega (arith, p, q)

-- where neither the user nor a team of it has a grant with the right, the row isn't shared
pub not_shared : (d : State) (told : Told) (user : Id) (action : Action) (table : ℕ) (id : Id) (after : Option Id) → grant_has (grant_at told.grants table id user) action ≡ false
    → ((team : Id) → IsTrue (is_in_team d.chart user team) → is_past after team ≡ false → grant_has (grant_at told.grants table id team) action ≡ false)
    → IsNextTeam d.chart user after None → (IsTrue false → IsShared d told user action table id) × (IsShared d told user action table id → IsTrue false)
not_shared d told user action table id after own teams over = (λ h. absurd (true≢false (sym h)), λ s. sym (miss s.principal s.own) ∙ s.right)
  where
    either : (a b : Bool) → IsTrue (a || b) → IsTrue a ⊎ IsTrue b
    either true b h = inl refl
    either false b h = inr h

    miss : (principal : Id) → IsTrue ((principal.0 == user.0) || is_in_team d.chart user principal) → grant_has (grant_at told.grants table id principal) action ≡ false
    miss principal h = of (either (principal.0 == user.0) (is_in_team d.chart user principal) h)
      where
        seen : IsTrue (is_in_team d.chart user principal) → (b : Bool) → is_past after principal ≡ b → is_past after principal ≡ false
        seen own false not = not
        seen own true past = absurd (team_is d.chart user after None over principal own (past_is after principal past))

        of : IsTrue (principal.0 == user.0) ⊎ IsTrue (is_in_team d.chart user principal) → grant_has (grant_at told.grants table id principal) action ≡ false
        of (inl is) = ap (λ p. grant_has (grant_at told.grants table id p) action) (id_is principal user (eqb-true principal.0 user.0 is)) ∙ own
        of (inr team) = teams principal team (seen team (is_past after principal) refl)

bit_lt : (n i : ℕ) → bit_at n i < 2
bit_lt n i = search rules

-- joined rights have what one of the two has
pub has-joined : (a b : ℕ) (action : Action) → has_right (bit_or a b) action ≡ (has_right a action || has_right b action)
has-joined a b action = ap (λ n. n == 1) (bit_at_or a b (bit_of action)) ∙ of (bit_at a (bit_of action)) (bit_at b (bit_of action)) (bit_lt a (bit_of action)) (bit_lt b (bit_of action))
  where
    of : (x y : ℕ) → x < 2 → y < 2 → (max x y == 1) ≡ ((x == 1) || (y == 1))
    of zero zero p q = refl
    of zero (suc zero) p q = refl
    of (suc zero) zero p q = refl
    of (suc zero) (suc zero) p q = refl
    of (suc (suc x)) y p q = absurd (omega (arith, p))
    of zero (suc (suc y)) p q = absurd (omega (arith, q))
    of (suc zero) (suc (suc y)) p q = absurd (omega (arith, q))

-- a grant has a right where its joined rights have it
pub joined-has : (grant : Option (ℕ × ℕ)) (rights : ℕ) (action : Action) → joined grant ≡ Some rights → grant_has (unwrap_or grant (0, 0)) action ≡ has_right rights action
joined-has None rights action h = absurd (true≢false (sym (ap is_some h)))
joined-has (Some grant) rights action h = sym (has-joined grant.0 grant.1 action) ∙ ap (λ n. has_right n action) (some-is h)
  where
    some-is : {x y : ℕ} → Some x ≡ Some y → x ≡ y
    some-is e = ap (λ o. unwrap_or o 0) e
