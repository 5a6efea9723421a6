-- What is gathered for a user is what it may read.
use Rattle.std.proofs.Common.{rules, ◌≡◌, refl, sym, ap, subst, ◌∙◌, ℕ, ◌⊎◌, inl, inr, Bool, true, false, cond}
use Rattle.std.proofs.lemmas.Bool.{true≢false, eqb-true}
use Rattle.std.specs.Prelude.{IsTrue, IsSome, Option, None, Some, is_some, ◌==◌, ◌&&◌, ◌||◌}
use Rattle.std.specs.Option.{option_map, option_map_or, option_or, option_and_then, unwrap_or}
use Rattle.std.specs.FinMap as map
use Rattle.dv_value.specs.declared.id.Id.{Id}
use Rattle.dv_schema.specs.declared.opening.Action.{Action}
use Rattle.dv_schema.specs.declared.opening.Action.TheVariants.{Create, Read, Write, Delete, Append, AppendTo, Assign, Share}
use Rattle.dv_units.specs.declared.seats.User.{User}
use Rattle.dv_units.specs.declared.seats.Team.{Team}
use Rattle.dv_units.specs.Chart.{Chart, at}
use Rattle.dv_units.specs.Membership.{unit_of, is_in_team}
use Rattle.dv_roles.specs.State.{State}
use Rattle.dv_roles.specs.Held.{holds, user_holds, team_holds}
use Rattle.dv_store.specs.declared.row.Row.{Row}
use Rattle.dv_store.specs.Keys.{grant_key}
use Rattle.dv_store.specs.World.{row_at, grant_at, names, named_at, is_id}
use Rattle.dv_store.specs.Cursors.{Told, owner_place}
use Rattle.dv_access.specs.Reaches.{deep, local, global, is_user_owned, acts_as, is_below, is_in_unit_of, of_units, covers, is_reached, Holds, Reaches}
use Rattle.dv_access.specs.Rights.{grant_has}
use Rattle.dv_access.specs.Permitted.{owner_at, Permitted, AreOnRows}
use Rattle.dv_access.specs.Principals.{is_principal}
use Rattle.dv_access.specs.View.{IsReadable}
use Rattle.dv_access.specs.Gathered.{IsReachedRow, IsRowOfPrincipal, IsOwnRow, HoldsInUnits, IsRowInUnits}
use Rattle.dv_access.proofs.Walks.{id_is}

or-left : (a b : Bool) → IsTrue a → IsTrue (a || b)
or-left true b h = refl
or-left false b h = absurd (true≢false (sym h))

or-right : (a b : Bool) → IsTrue b → IsTrue (a || b)
or-right true b h = refl
or-right false b h = h

either : (a b : Bool) → IsTrue (a || b) → IsTrue a ⊎ IsTrue b
either true b h = inl refl
either false b h = inr h

both : (a b : Bool) → IsTrue (a && b) → IsTrue a × IsTrue b
both true b h = (refl, h)
both false b h = absurd (true≢false (sym h))

-- a user or a team is what belongs to some unit
in-unit : (chart : Chart) (id : Id) → IsTrue (is_some (unit_of chart id)) → IsTrue (is_principal chart id)
in-unit chart id h = of (at chart.users id) (at chart.teams id) (at chart.units id) h
  where
    of : (u : Option User) (t : Option Team) (b : Option Id) → IsTrue (is_some (option_or (option_map (λ x. x.unit) u) (option_or (option_map (λ x. x.unit) t) (option_map (λ _. id) b)))) → IsTrue (is_some u || (is_some t || is_some b))
    of (Some u) t b h = refl
    of None (Some t) b h = refl
    of None None (Some b) h = refl
    of None None None h = absurd (true≢false (sym h))

-- a test of two units that passes is of an owner that belongs to a unit
owner-in-unit : (chart : Chart) (seat owner : Id) (test : Id → Id → Bool) → IsTrue (of_units chart seat owner test) → IsTrue (is_some (unit_of chart owner))
owner-in-unit chart seat owner test h = of (unit_of chart seat) (unit_of chart owner) h
  where
    of : (s o : Option Id) → IsTrue (option_map_or (λ above. option_map_or (λ unit. test unit above) o false) s false) → IsTrue (is_some o)
    of None o h = absurd (true≢false (sym h))
    of (Some above) None h = absurd (true≢false (sym h))
    of (Some above) (Some unit) h = refl

-- the seat of a pair that is held is one as whom the user acts
seat-acts : (d : State) (user : Id) (action : Action) (table depth : ℕ) (seat : Id) → IsTrue (holds d user action table depth seat) → IsTrue (acts_as d.chart user seat)
seat-acts d user action table depth seat h = of (either _ _ (both _ _ h).1)
  where
    of : IsTrue ((seat.0 == user.0) && user_holds d action table depth user) ⊎ IsTrue (is_in_team d.chart user seat && team_holds d action table depth seat) → IsTrue (acts_as d.chart user seat)
    of (inl own) = or-left (seat.0 == user.0) (is_in_team d.chart user seat) (both _ _ own).0
    of (inr team) = or-right (seat.0 == user.0) (is_in_team d.chart user seat) (both _ _ team).0

-- an owner that a pair reaches is one as whom the user acts, or a user or team that it reaches by the units
reached-owner : (d : State) (user : Id) (action : Action) (table depth : ℕ) (seat owner : Id) → IsTrue (holds d user action table depth seat) → IsTrue (covers d.chart user depth seat owner)
    → IsTrue (acts_as d.chart user owner) ⊎ (HoldsInUnits d user action table × IsTrue (is_principal d.chart owner))
unfolding covers
reached-owner d user action table depth seat owner h c = of (either _ _ c)
  where
    seat-is : IsTrue (seat.0 == owner.0) → IsTrue (acts_as d.chart user owner)
    seat-is e = subst (λ x. IsTrue (acts_as d.chart user x)) (id_is seat owner (eqb-true seat.0 owner.0 e)) (seat-acts d user action table depth seat h)

    own : IsTrue ((seat.0 == user.0) && acts_as d.chart user owner) ⊎ IsTrue (seat.0 == owner.0) → IsTrue (acts_as d.chart user owner)
    own (inl e) = (both _ _ e).1
    own (inr e) = seat-is e

    in-units : IsTrue ((depth == deep) && is_below d.chart seat owner) ⊎ IsTrue ((depth == local) && is_in_unit_of d.chart seat owner) → HoldsInUnits d user action table × IsTrue (is_principal d.chart owner)
    in-units (inl e) = (record { depth = depth; seat = seat; held = h; in_units = or-left (depth == deep) (depth == local) (both _ _ e).0 }, in-unit d.chart owner (owner-in-unit d.chart seat owner _ (both _ _ e).1))
    in-units (inr e) = (record { depth = depth; seat = seat; held = h; in_units = or-right (depth == deep) (depth == local) (both _ _ e).0 }, in-unit d.chart owner (owner-in-unit d.chart seat owner _ (both _ _ e).1))

    of : IsTrue (((depth == deep) && is_below d.chart seat owner) || ((depth == local) && is_in_unit_of d.chart seat owner)) ⊎ IsTrue (((seat.0 == user.0) && acts_as d.chart user owner) || (seat.0 == owner.0))
        → IsTrue (acts_as d.chart user owner) ⊎ (HoldsInUnits d user action table × IsTrue (is_principal d.chart owner))
    of (inl units) = inr (in-units (either _ _ units))
    of (inr seats) = inl (own (either _ _ seats))

-- a row names its owner
named-owner : (d : State) (told : Told) (table : ℕ) (id owner : Id) → IsTrue (is_user_owned d table) → names (row_at told.rows table id) owner_place owner ≡ true → owner_at d told table id ≡ Some owner
unfolding owner_at
named-owner d told table id owner owned named = rw owned (of (row_at told.rows table id) named)
  where
    of : (row : Option Row) → names row owner_place owner ≡ true → option_and_then (λ r. named_at r owner_place) row ≡ Some owner
    of None h = absurd (true≢false (sym h))
    of (Some row) h = in-row (named_at row owner_place) h
      where
        in-row : (named : Option Id) → is_id owner named ≡ true → named ≡ Some owner
        in-row None h = absurd (true≢false (sym h))
        in-row (Some x) h = ap Some (id_is x owner (sym (eqb-true owner.0 x.0 h)))

owner-named : (d : State) (told : Told) (table : ℕ) (id owner : Id) → owner_at d told table id ≡ Some owner → names (row_at told.rows table id) owner_place owner ≡ true
unfolding owner_at
owner-named d told table id owner h = of (is_user_owned d table) h
  where
    self : (n : ℕ) → (n == n) ≡ true
    self n = search rules

    in-row : (named : Option Id) → named ≡ Some owner → is_id owner named ≡ true
    in-row None h = absurd (true≢false (sym (ap is_some h)))
    in-row (Some x) h = subst (λ o. is_id owner o ≡ true) (sym h) (self owner.0)

    row : (r : Option Row) → option_and_then (λ r. named_at r owner_place) r ≡ Some owner → names r owner_place owner ≡ true
    row None h = absurd (true≢false (sym (ap is_some h)))
    row (Some r) h = in-row (named_at r owner_place) h

    of : (b : Bool) → cond b (option_and_then (λ r. named_at r owner_place) (row_at told.rows table id)) None ≡ Some owner → names (row_at told.rows table id) owner_place owner ≡ true
    of true h = row (row_at told.rows table id) h
    of false h = absurd (true≢false (sym (ap is_some h)))

named-there : (row : Option Row) (owner : Id) → names row owner_place owner ≡ true → IsSome row
named-there None owner h = absurd (true≢false (sym h))
named-there (Some row) owner h = refl

-- rights that have something stand in a grant
granted : (grant : Option (ℕ × ℕ)) (action : Action) → IsTrue (grant_has (unwrap_or grant (0, 0)) action) → IsSome grant
granted None action h = absurd (true≢false (sym h ∙ nothing action))
  where
    nothing : (action : Action) → grant_has (0, 0) action ≡ false
    nothing Create = refl
    nothing Read = refl
    nothing Write = refl
    nothing Delete = refl
    nothing Append = refl
    nothing AppendTo = refl
    nothing Assign = refl
    nothing Share = refl
granted (Some grant) action h = refl

module _ (d : State) (told : Told) (user : Id) (table : ℕ) where
  -- a row of an owner that is reached may be read
  reached-readable : (owner id : Id) → IsTrue (is_user_owned d table) → IsReachedRow d told user table owner id → IsReadable d told user table id
  reached-readable owner id owned h = record {
    there = named-there (row_at told.rows table id) owner h.owned;
    permitted = inl (subst (Reaches d user Read table) (sym (named-owner d told table id owner owned h.owned)) h.reached);
  }

  -- a row that is shared may be read
  shared-readable : (principal id : Id) → AreOnRows told → Holds d user Read table → IsTrue (is_user_owned d table) → IsTrue (acts_as d.chart user principal)
      → IsTrue (grant_has (grant_at told.grants table id principal) Read) → IsReadable d told user table id
  shared-readable principal id on_rows some owned own right = record {
    there = on_rows (grant_key table id principal) (granted (map.get told.grants (grant_key table id principal)) Read right);
    permitted = inr (record { holds = some; owned = owned; shared = record { principal = principal; own = own; right = right } });
  }

  -- what is gathered may be read
  pub gathered-readable : (id : Id) → AreOnRows told → Holds d user Read table → IsTrue (is_user_owned d table) → IsOwnRow d told user table id ⊎ IsRowInUnits d told user table id → IsReadable d told user table id
  gathered-readable id on_rows some owned (inr units) = reached-readable units.got.place id owned units.got.got.reached
  gathered-readable id on_rows some owned (inl own) = of own.got
    where
      of : IsRowOfPrincipal d told user table own.place id → IsReadable d told user table id
      of (inl reached) = reached-readable own.place id owned reached
      of (inr right) = shared-readable own.place id on_rows some owned own.is right

  reached-gathered : (id : Id) (depth : ℕ) (seat : Id) → IsTrue (holds d user Read table depth seat) → (Reaches d user Read table None → ⊥) → (owner : Option Id) → owner_at d told table id ≡ owner
      → IsTrue (is_reached d user table depth seat owner) → IsOwnRow d told user table id ⊎ IsRowInUnits d told user table id
  unfolding is_reached
  reached-gathered id depth seat held not-all owner is reached = of (either (depth == global) _ reached)
    where
      all : IsTrue (depth == global) → ⊥
      all e = not-all (record { depth = depth; seat = seat; held = held; reached = or-left (depth == global) _ e })

      by-owner : (owner : Option Id) → owner_at d told table id ≡ owner → IsTrue (is_user_owned d table && option_map_or (covers d.chart user depth seat) owner false) → IsOwnRow d told user table id ⊎ IsRowInUnits d told user table id
      by-owner None is h = absurd (true≢false (sym (both _ _ h).1))
      by-owner (Some o) is h = split (reached-owner d user Read table depth seat o held (both _ _ h).1)
        where
          row : IsReachedRow d told user table o id
          row = record { reached = record { depth = depth; seat = seat; held = held; reached = or-right (depth == global) _ h }; owned = owner-named d told table id o is }

          by-test : (own : Bool) → acts_as d.chart user o ≡ own → HoldsInUnits d user Read table × IsTrue (is_principal d.chart o) → IsOwnRow d told user table id ⊎ IsRowInUnits d told user table id
          by-test true own units = inl (record { place = o; is = own; got = inl row })
          by-test false other units = inr (record { holds = units.0; got = record { place = o; is = units.1; got = record { other = other; reached = row } } })

          split : IsTrue (acts_as d.chart user o) ⊎ (HoldsInUnits d user Read table × IsTrue (is_principal d.chart o)) → IsOwnRow d told user table id ⊎ IsRowInUnits d told user table id
          split (inl own) = inl (record { place = o; is = own; got = inl row })
          split (inr units) = by-test (acts_as d.chart user o) refl units

      of : IsTrue (depth == global) ⊎ IsTrue (is_user_owned d table && option_map_or (covers d.chart user depth seat) owner false) → IsOwnRow d told user table id ⊎ IsRowInUnits d told user table id
      of (inl e) = absurd (all e)
      of (inr h) = by-owner owner is h

  -- and what may be read is gathered, where nothing is held for the whole organisation
  pub readable-gathered : (id : Id) → (Reaches d user Read table None → ⊥) → IsReadable d told user table id → IsOwnRow d told user table id ⊎ IsRowInUnits d told user table id
  readable-gathered id not-all h = of h.permitted
    where
      of : Permitted d told user Read table id → IsOwnRow d told user table id ⊎ IsRowInUnits d told user table id
      of (inl r) = reached-gathered id r.depth r.seat r.held not-all (owner_at d told table id) refl r.reached
      of (inr s) = inl (record { place = s.shared.principal; is = s.shared.own; got = inr s.shared.right })

  -- where nothing is held nothing may be read
  pub nothing-held : (id : Id) → (Holds d user Read table → ⊥) → IsReadable d told user table id → ⊥
  nothing-held id not h = of h.permitted
    where
      of : Permitted d told user Read table id → ⊥
      of (inl r) = not (record { depth = r.depth; seat = r.seat; held = r.held })
      of (inr s) = not s.holds

  -- what is held for the whole organisation reaches every row
  pub all-readable : (id : Id) → Reaches d user Read table None → IsSome (row_at told.rows table id) → IsReadable d told user table id
  unfolding is_reached
  all-readable id r there = record { there = there; permitted = inl (record { depth = r.depth; seat = r.seat; held = r.held; reached = all (either (r.depth == global) _ r.reached) }) }
    where
      all : IsTrue (r.depth == global) ⊎ IsTrue (is_user_owned d table && false) → IsTrue (is_reached d user table r.depth r.seat (owner_at d told table id))
      all (inl e) = or-left (r.depth == global) _ e
      all (inr e) = absurd (true≢false (sym (both _ _ e).1))

  -- on a table whose rows the organisation owns nothing else reaches any
  pub none-readable : (id : Id) → (Reaches d user Read table None → ⊥) → is_user_owned d table ≡ false → IsReadable d told user table id → ⊥
  unfolding is_reached
  none-readable id not-all organisation h = of h.permitted
    where
      false-all : (depth : ℕ) (seat : Id) → IsTrue (holds d user Read table depth seat) → IsTrue (depth == global) ⊎ IsTrue (is_user_owned d table && option_map_or (covers d.chart user depth seat) (owner_at d told table id) false) → ⊥
      false-all depth seat held (inl e) = not-all (record { depth = depth; seat = seat; held = held; reached = or-left (depth == global) _ e })
      false-all depth seat held (inr e) = true≢false (sym (both _ _ e).0 ∙ organisation)

      of : Permitted d told user Read table id → ⊥
      of (inl r) = false-all r.depth r.seat r.held (either (r.depth == global) _ r.reached)
      of (inr s) = true≢false (sym s.owned ∙ organisation)
