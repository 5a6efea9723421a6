-- A walk from team to team tells exactly the teams of a user, in ascending order.
use Rattle.std.proofs.Common.{rules, ◌≡◌, refl, sym, subst, ◌∙◌, ℕ, ◌<◌, ◌≤◌, Bool, true, false, List, [], ◌∷◌, arith}
use Rattle.std.proofs.lemmas.Bool.{true≢false, eqb-true, ltb-true, lt-ltb}
use Rattle.std.specs.Prelude.{IsTrue, Option, None, Some, ◌==◌, ◌||◌, ◌&&◌, nat_lt}
use Rattle.std.specs.List.{AllByRecursion}
use Rattle.std.specs.List.Sorted.{IsStrictlySortedBy}
use Rattle.std.specs.declared.cmp.Ordering.TheVariants.{Less}
use Rattle.std.specs.Ordering.{nat_cmp}
use Rattle.dv_value.specs.declared.id.Id.{Id}
use Rattle.dv_units.specs.Chart.{Chart}
use Rattle.dv_units.specs.Cursors.{is_past}
use Rattle.dv_units.specs.Membership.{is_in_team, IsNextTeam}
use Rattle.dv_access.specs.View.{is_among}
use Rattle.dv_pipeline.specs.Run.{AreTeams}

-- from an id on, each team is the first past the one before, and none is past the last
unfoldable pub Walks : Chart → Id → Option Id → List Id → Type 0
Walks chart user after [] = IsNextTeam chart user after None
Walks chart user after (team ∷ teams) = IsNextTeam chart user after (Some team) × Walks chart user (Some team) teams

both : (a b : Bool) → IsTrue (a && b) → IsTrue a × IsTrue b
both true b h = (refl, h)
both false b h = absurd (true≢false (sym h))

and : (a b : Bool) → IsTrue a → IsTrue b → IsTrue (a && b)
and true b h p = p
and false b h p = h

less : (a b : ℕ) → a < b → nat_cmp a b ≡ Less
less a b h = search rules

-- whether an id is a team of the user past another
abbrev IsLater : Chart → Id → Option Id → Id → Type 0
IsLater chart user after id = IsTrue (is_in_team chart user id && is_past after id)

-- a list tells the teams past an id, in ascending order
record Tells (chart : Chart) (user : Id) (after : Option Id) (teams : List Id) : Type 0 where
  ascending : IsStrictlySortedBy (λ a b. nat_cmp a.0 b.0) teams
  told : (id : Id) → IsTrue (is_among teams id) → IsLater chart user after id
  all : (id : Id) → IsLater chart user after id → IsTrue (is_among teams id)

same : (n : ℕ) → (n == n) ≡ true
same n = search rules

or-left : (a b : Bool) → IsTrue a → IsTrue (a || b)
or-left true b h = refl
or-left false b h = absurd (true≢false (sym h))

or-right : (a b : Bool) → IsTrue b → IsTrue (a || b)
or-right true b h = refl
or-right false b h = h

-- a list of ids that are all above one
above : (first : Id) (ids : List Id) → ((id : Id) → IsTrue (is_among ids id) → first.0 < id.0) → AllByRecursion (λ y. nat_cmp first.0 y.0 ≡ Less) ids
above first [] h = tt
above first (id ∷ ids) h = (
  less first.0 id.0 (h id (or-left (id.0 == id.0) (is_among ids id) (same id.0))),
  above first ids (λ other p. h other (or-right (other.0 == id.0) (is_among ids other) p)),
)

-- past an id that is past another
further : (after : Option Id) (team id : Id) → IsTrue (is_past after team) → IsTrue (is_past (Some team) id) → IsTrue (is_past after id)
further None team id h p = refl
further (Some after) team id h p = lt-ltb after.0 id.0 (omega (arith, ltb-true after.0 team.0 h, ltb-true team.0 id.0 p))

-- a team and those past it
first : (chart : Chart) (user : Id) (after : Option Id) (team : Id) (teams : List Id) → IsNextTeam chart user after (Some team)
    → Tells chart user (Some team) teams → Tells chart user after (team ∷ teams)
unfolding IsStrictlySortedBy
first chart user after team teams next rest = record {
  ascending = (above team teams (λ id p. ltb-true team.0 id.0 (both (is_in_team chart user id) (is_past (Some team) id) (rest.told id p)).1), rest.ascending);
  told = λ id p. known id (id.0 == team.0) refl p;
  all = λ id later. found id later (id.0 == team.0) refl;
}
  where
    known : (id : Id) (b : Bool) → (id.0 == team.0) ≡ b → IsTrue (b || is_among teams id) → IsLater chart user after id
    known id true is p = subst (IsLater chart user after) (λ j. record { 0 = sym (eqb-true id.0 team.0 is) j }) next.0
    known id false is p =
        let later = both (is_in_team chart user id) (is_past (Some team) id) (rest.told id p) in
        and (is_in_team chart user id) (is_past after id) later.0
        (further after team id (both (is_in_team chart user team) (is_past after team) next.0).1 later.1)

    found : (id : Id) → IsLater chart user after id → (b : Bool) → (id.0 == team.0) ≡ b → IsTrue (b || is_among teams id)
    found id later true is = refl
    found id later false is = rest.all id (and (is_in_team chart user id) (is_past (Some team) id)
        (both (is_in_team chart user id) (is_past after id) later).0 (beyond (next.1 id later) is))
      where
        beyond : team.0 ≤ id.0 → (id.0 == team.0) ≡ false → IsTrue (nat_lt team.0 id.0)
        beyond le is = search rules

walk_tells : (chart : Chart) (user : Id) (after : Option Id) (teams : List Id) → Walks chart user after teams → Tells chart user after teams
unfolding Walks IsStrictlySortedBy
walk_tells chart user after [] w = record {
  ascending = tt;
  told = λ id p. absurd (true≢false (sym p));
  all = λ id later. absurd (true≢false (sym later ∙ w id));
}
walk_tells chart user after (team ∷ teams) w = first chart user after team teams w.0 (walk_tells chart user (Some team) teams w.1)

-- a walk from the beginning tells exactly the teams
pub walk_is : (chart : Chart) (user : Id) (teams : List Id) → Walks chart user None teams → AreTeams chart user teams
walk_is chart user teams w =
    let tells = walk_tells chart user None teams w in
    record {
      ascending = tells.ascending;
      exactly = λ id. (λ p. (both (is_in_team chart user id) true (tells.told id p)).0, λ p. tells.all id (and (is_in_team chart user id) true p refl));
    }
