-- The first entry of an ascending list past an id is the least one.
use Rattle.std.proofs.Common.{rules, ◌≡◌, refl, sym, ap, subst, ◌∙◌, ℕ, ◌≤◌, ◌<◌, ◌⊎◌, inl, inr, Bool, true, false, cond, List, [], ◌∷◌, arith}
use Rattle.std.proofs.lemmas.Bool.{true≢false, eqb-true, ltb-true, lt-ltb, leb-true, leb-false}
use Rattle.std.specs.Prelude.{IsTrue, Option, None, Some, is_some, ◌==◌, ◌||◌, ◌&&◌, nat_le}
use Rattle.std.specs.Option.{option_map}
use Rattle.std.specs.List.{AllByRecursion}
use Rattle.std.specs.List.Sorted.{IsStrictlySortedBy}
use Rattle.std.specs.Map.{keys_of}
use Rattle.std.specs.declared.cmp.Ordering.TheVariants.{Less}
use Rattle.std.specs.Ordering.{nat_cmp}
use Rattle.dv_value.specs.declared.id.Id.{Id}
use Rattle.dv_units.specs.Chart.{Chart, at}
use Rattle.dv_units.specs.Cursors.{is_past, next_entry, Ascends}
use Rattle.dv_units.specs.Membership.{is_in_team, IsNextTeam}
use Rattle.dv_store.specs.Cursors.{IsPast, IsNext}
use Rattle.dv_access.specs.Principals.{lesser}
use Rattle.dv_access.proofs.Walks.{id_is}

-- past an id, as a test and as a fact
pub past_is : (after : Option Id) (id : Id) → is_past after id ≡ true → IsPast after id
past_is None id h = tt
past_is (Some after) id h = ltb-true after.0 id.0 h

pub is_past-true : (after : Option Id) (id : Id) → IsPast after id → is_past after id ≡ true
is_past-true None id h = refl
is_past-true (Some after) id h = lt-ltb after.0 id.0 h

cmp_less : (a b : ℕ) → nat_cmp a b ≡ Less → a < b
cmp_less a b h = search rules

module _ {V : Type 0} where
  -- a list has an id
  abbrev pub Has : List (Id × V) → Id → Type 0
  Has es id = IsTrue (is_some (at es id))

  -- an entry of a list whose keys are above another's
  above : (k : Id) (es : List (Id × V)) → AllByRecursion (λ y. nat_cmp k.0 y.0 ≡ Less) (keys_of es) → (id : Id) → Has es id → k.0 < id.0
  above k [] all id h = absurd (true≢false (sym h))
  above k (e ∷ es) all id h = of (above k es all.1 id) (id.0 == e.0.0) refl h
    where
      of : (Has es id → k.0 < id.0) → (b : Bool) → (id.0 == e.0.0) ≡ b → IsTrue (is_some (cond b (Some e.1) (at es id))) → k.0 < id.0
      of rest true is h = subst (λ n. k.0 < n) (sym (eqb-true id.0 e.0.0 is)) (cmp_less k.0 e.0.0 all.0)
      of rest false is h = rest h

  -- the first entry past an id, by what it tells
  pub next_is : (after : Option Id) (es : List (Id × V)) → Ascends es → IsNext (Has es) after (option_map (λ e. e.0) (next_entry after es))
  unfolding IsStrictlySortedBy
  next_is after [] asc = λ id h p. true≢false (sym h)
  next_is after (e ∷ es) asc = of (next_is after es asc.1) (is_past after e.0) refl
    where
      self : (n : ℕ) → (n == n) ≡ true
      self n = search rules

      own : Has (e ∷ es) e.0
      own = subst (λ b. IsTrue (is_some (cond b (Some e.1) (at es e.0)))) (sym (self e.0.0)) refl

      more : (id : Id) → Has es id → Has (e ∷ es) id
      more id h = pick (id.0 == e.0.0)
        where
          pick : (b : Bool) → IsTrue (is_some (cond b (Some e.1) (at es id)))
          pick true = refl
          pick false = h

      split : (id : Id) → Has (e ∷ es) id → (id ≡ e.0) ⊎ Has es id
      split id h = pick (id.0 == e.0.0) refl h
        where
          pick : (b : Bool) → (id.0 == e.0.0) ≡ b → IsTrue (is_some (cond b (Some e.1) (at es id))) → (id ≡ e.0) ⊎ Has es id
          pick true is h = inl (id_is id e.0 (eqb-true id.0 e.0.0 is))
          pick false is h = inr h

      least : (id : Id) → Has (e ∷ es) id → e.0.0 ≤ id.0
      least id h = pick (split id h)
        where
          pick : (id ≡ e.0) ⊎ Has es id → e.0.0 ≤ id.0
          pick (inl is) = omega (arith, ap (λ (x : Id). x.0) is)
          pick (inr h) = omega (arith, above e.0 es asc.0 id h)

      rest : (o : Option Id) → is_past after e.0 ≡ false → IsNext (Has es) after o → IsNext (Has (e ∷ es)) after o
      rest None not n = λ id h p. pick id p (split id h)
        where
          pick : (id : Id) → IsPast after id → (id ≡ e.0) ⊎ Has es id → ⊥
          pick id p (inl is) = true≢false (sym (is_past-true after e.0 (subst (IsPast after) is p)) ∙ not)
          pick id p (inr h) = n id h p
      rest (Some found) not n = record { there = more found n.there; past = n.past; least = λ id h p. pick id p (split id h) }
        where
          pick : (id : Id) → IsPast after id → (id ≡ e.0) ⊎ Has es id → found.0 ≤ id.0
          pick id p (inl is) = absurd (true≢false (sym (is_past-true after e.0 (subst (IsPast after) is p)) ∙ not))
          pick id p (inr h) = n.least id h p

      of : IsNext (Has es) after (option_map (λ (x : Id × V). x.0) (next_entry after es)) → (b : Bool) → is_past after e.0 ≡ b → IsNext (Has (e ∷ es)) after (option_map (λ (x : Id × V). x.0) (cond b (Some e) (next_entry after es)))
      of n true is = record { there = own; past = past_is after e.0 is; least = λ id h p. least id h }
      of n false is = rest (option_map (λ e. e.0) (next_entry after es)) is n

  -- the same by what a cursor answers
  pub told_is : {X : Type 0} (after : Option Id) (es : List (Id × V)) (tells : Id × V → X) (id_in : X → Id) → ((e : Id × V) → id_in (tells e) ≡ e.0) → Ascends es
      → (result : Option X) → result ≡ option_map tells (next_entry after es) → IsNext (Has es) after (option_map id_in result)
  told_is after es tells id_in same asc result is = subst (IsNext (Has es) after) (sym (ap (option_map id_in) is ∙ of (next_entry after es))) (next_is after es asc)
    where
      of : (o : Option (Id × V)) → option_map id_in (option_map tells o) ≡ option_map (λ e. e.0) o
      of None = refl
      of (Some e) = ap Some (same e)

-- the lesser of the least of two kinds is the least of both
pub lesser_is : (p q : Id → Bool) (after a b : Option Id) → IsNext (λ id. IsTrue (p id)) after a → IsNext (λ id. IsTrue (q id)) after b → IsNext (λ id. IsTrue (p id || q id)) after (lesser a b)
lesser_is p q after a b = of a b
  where
    or-left : (x y : Bool) → IsTrue x → IsTrue (x || y)
    or-left true y h = refl
    or-left false y h = absurd (true≢false (sym h))

    or-right : (x y : Bool) → IsTrue y → IsTrue (x || y)
    or-right true y h = refl
    or-right false y h = h

    either : (x y : Bool) → IsTrue (x || y) → IsTrue x ⊎ IsTrue y
    either true y h = inl refl
    either false y h = inr h

    of : (a b : Option Id) → IsNext (λ id. IsTrue (p id)) after a → IsNext (λ id. IsTrue (q id)) after b → IsNext (λ id. IsTrue (p id || q id)) after (lesser a b)
    of None None m n = λ id h past. pick id past (either (p id) (q id) h)
      where
        pick : (id : Id) → IsPast after id → IsTrue (p id) ⊎ IsTrue (q id) → ⊥
        pick id past (inl h) = m id h past
        pick id past (inr h) = n id h past
    of (Some x) None m n = record { there = or-left (p x) (q x) m.there; past = m.past; least = λ id h past. pick id past (either (p id) (q id) h) }
      where
        pick : (id : Id) → IsPast after id → IsTrue (p id) ⊎ IsTrue (q id) → x.0 ≤ id.0
        pick id past (inl h) = m.least id h past
        pick id past (inr h) = absurd (n id h past)
    of None (Some y) m n = record { there = or-right (p y) (q y) n.there; past = n.past; least = λ id h past. pick id past (either (p id) (q id) h) }
      where
        pick : (id : Id) → IsPast after id → IsTrue (p id) ⊎ IsTrue (q id) → y.0 ≤ id.0
        pick id past (inl h) = absurd (m id h past)
        pick id past (inr h) = n.least id h past
    of (Some x) (Some y) m n = choose (nat_le x.0 y.0) refl
      where
        choose : (b : Bool) → nat_le x.0 y.0 ≡ b → IsNext (λ id. IsTrue (p id || q id)) after (cond b (Some x) (Some y))
        choose true is = record { there = or-left (p x) (q x) m.there; past = m.past; least = λ id h past. pick id past (either (p id) (q id) h) }
          where
            pick : (id : Id) → IsPast after id → IsTrue (p id) ⊎ IsTrue (q id) → x.0 ≤ id.0
            pick id past (inl h) = m.least id h past
            pick id past (inr h) = omega (arith, leb-true x.0 y.0 is, n.least id h past)
        choose false is = record { there = or-right (p y) (q y) n.there; past = n.past; least = λ id h past. pick id past (either (p id) (q id) h) }
          where
            pick : (id : Id) → IsPast after id → IsTrue (p id) ⊎ IsTrue (q id) → y.0 ≤ id.0
            pick id past (inl h) = omega (arith, leb-false x.0 y.0 is, m.least id h past)
            pick id past (inr h) = n.least id h past

-- the first of a user's teams past an id, as the walks over rows say it
pub team_is : (chart : Chart) (user : Id) (after team : Option Id) → IsNextTeam chart user after team → IsNext (λ id. IsTrue (is_in_team chart user id)) after team
team_is chart user after None next = λ id h p. true≢false (sym (both (is_in_team chart user id) (is_past after id) h (is_past-true after id p)) ∙ next id)
  where
    both : (a b : Bool) → IsTrue a → b ≡ true → (a && b) ≡ true
    both true b h p = p
    both false b h p = absurd (true≢false (sym h))
team_is chart user after (Some team) next = record {
  there = (parts (is_in_team chart user team) (is_past after team) next.0).0;
  past = past_is after team (parts (is_in_team chart user team) (is_past after team) next.0).1;
  least = λ id h p. next.1 id (both (is_in_team chart user id) (is_past after id) h (is_past-true after id p));
}
  where
    parts : (a b : Bool) → IsTrue (a && b) → IsTrue a × IsTrue b
    parts true b h = (refl, h)
    parts false b h = absurd (true≢false (sym h))

    both : (a b : Bool) → IsTrue a → b ≡ true → (a && b) ≡ true
    both true b h p = p
    both false b h p = absurd (true≢false (sym h))
