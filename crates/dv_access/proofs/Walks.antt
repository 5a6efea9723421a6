-- What walks gather, step by step.
use Rattle.std.proofs.Common.{rules, ◌≡◌, refl, sym, subst, ◌∙◌, ℕ, ◌≤◌, ◌<◌, ◌⊎◌, inl, inr, Bool, true, false, List, [], ◌∷◌, ◌++◌, arith}
use Rattle.std.proofs.lemmas.Bool.{true≢false, eqb-true, ltb-true, ltb-false}
use Rattle.std.proofs.lemmas.List.Folds.{list_any-append}
use Rattle.std.specs.Prelude.{IsTrue, Result, Ok, Err, OnOk, Option, None, Some, ◌==◌, ◌||◌, nat_lt}
use Rattle.dv_value.specs.declared.id.Id.{Id}
use Rattle.dv_units.specs.Chart.{Chart}
use Rattle.dv_units.specs.Membership.{is_in_team}
use Rattle.dv_store.specs.Cursors.{IsPast, IsNext}
use Rattle.dv_access.specs.Reaches.{acts_as}
use Rattle.dv_access.specs.View.{is_among}
use Rattle.dv_access.specs.Gathered.{Gathers, Got}

-- what was got at the places that a walk has come to, up to the last one
pub record GotUpTo (IsOf : Id → Type 0) (Gets : Id → Id → Type 0) (last : Option Id) (id : Id) : Type 0 where
  pub place : Id
  pub is : IsOf place
  pub seen : IsPast last place → ⊥
  pub got : Gets place id

pub id_is : (a b : Id) → a.0 ≡ b.0 → a ≡ b
id_is a b e = λ j. record { 0 = e j }

-- what follows from what a call gave where it succeeded
pub on_ok : {T E P Q : Type 0} (result : Result T E) → (P → Q) → OnOk result P → OnOk result Q
on_ok (Ok x) f p = f p
on_ok (Err e) f p = p

-- nothing is gathered
pub none : (P : Id → Type 0) (ids : List Id) → ((id : Id) → P id → ⊥) → Gathers P ids ids
none P ids never = record { kept = λ id h. h; found = λ id p. absurd (never id p); only = λ id h. inl h }

-- the same said otherwise
pub said : (P Q : Id → Type 0) (a b : List Id) → ((id : Id) → P id → Q id) → ((id : Id) → Q id → P id) → Gathers P a b → Gathers Q a b
said P Q a b to from h = record { kept = h.kept; found = λ id q. h.found id (from id q); only = λ id i. of id (h.only id i) }
  where
    of : (id : Id) → IsTrue (is_among a id) ⊎ P id → IsTrue (is_among a id) ⊎ Q id
    of id (inl old) = inl old
    of id (inr p) = inr (to id p)

-- one after the other
pub both : (P Q : Id → Type 0) (a b c : List Id) → Gathers P a b → Gathers Q b c → Gathers (λ id. P id ⊎ Q id) a c
both P Q a b c f s = record { kept = λ id h. s.kept id (f.kept id h); found = found; only = λ id h. last id (s.only id h) }
  where
    found : (id : Id) → P id ⊎ Q id → IsTrue (is_among c id)
    found id (inl p) = s.kept id (f.found id p)
    found id (inr q) = s.found id q

    first : (id : Id) → IsTrue (is_among a id) ⊎ P id → IsTrue (is_among a id) ⊎ (P id ⊎ Q id)
    first id (inl old) = inl old
    first id (inr p) = inr (inl p)

    last : (id : Id) → IsTrue (is_among b id) ⊎ Q id → IsTrue (is_among a id) ⊎ (P id ⊎ Q id)
    last id (inl b) = first id (f.only id b)
    last id (inr q) = inr (inr q)

-- one id pushed
pub one : (ids : List Id) (new : Id) → Gathers (λ id. id ≡ new) ids (ids ++ new ∷ [])
one ids new = record { kept = kept; found = found; only = only }
  where
    is : (id : Id) → is_among (ids ++ new ∷ []) id ≡ (is_among ids id || (is_among (new ∷ []) id))
    is id = list_any-append (λ x. id.0 == x.0) ids (new ∷ [])

    or-left : (a b : Bool) → IsTrue a → IsTrue (a || b)
    or-left true b h = refl
    or-left false b h = absurd (true≢false (sym h))

    or-right : (a b : Bool) → IsTrue b → IsTrue (a || b)
    or-right true b h = refl
    or-right false b h = h

    kept : (id : Id) → IsTrue (is_among ids id) → IsTrue (is_among (ids ++ new ∷ []) id)
    kept id h = is id ∙ or-left (is_among ids id) (is_among (new ∷ []) id) h

    here : (n : ℕ) → ((n == n) || false) ≡ true
    here n = search rules

    found : (id : Id) → id ≡ new → IsTrue (is_among (ids ++ new ∷ []) id)
    found id e = is id ∙ or-right (is_among ids id) (is_among (new ∷ []) id) (subst (λ x. IsTrue (is_among (new ∷ []) x)) (sym e) (here new.0))

    single : (id : Id) → IsTrue (is_among (new ∷ []) id) → id ≡ new
    single id h = of (id.0 == new.0) refl h
      where
        of : (b : Bool) → (id.0 == new.0) ≡ b → IsTrue (b || false) → id ≡ new
        of true is h = id_is id new (eqb-true id.0 new.0 is)
        of false is h = absurd (true≢false (sym h))

    split : (id : Id) (a b : Bool) → is_among ids id ≡ a → is_among (new ∷ []) id ≡ b → IsTrue (a || b) → IsTrue (is_among ids id) ⊎ (id ≡ new)
    split id true b p q h = inl p
    split id false true p q h = inr (single id q)
    split id false false p q h = absurd (true≢false (sym h))

    only : (id : Id) → IsTrue (is_among (ids ++ new ∷ []) id) → IsTrue (is_among ids id) ⊎ (id ≡ new)
    only id h = split id (is_among ids id) (is_among (new ∷ []) id) refl refl (sym (is id) ∙ h)

module _ (IsOf : Id → Type 0) (Gets : Id → Id → Type 0) where
  -- a walk begins
  pub start : (ids : List Id) → Gathers (GotUpTo IsOf Gets None) ids ids
  start ids = none (GotUpTo IsOf Gets None) ids (λ id h. h.seen tt)

  past_or : (last : Option Id) (id : Id) → IsPast last id ⊎ (IsPast last id → ⊥)
  past_or None id = inl tt
  past_or (Some last) id = of (nat_lt last.0 id.0) refl
    where
      of : (b : Bool) → nat_lt last.0 id.0 ≡ b → (last.0 < id.0) ⊎ ((last.0 < id.0) → ⊥)
      of true is = inl (ltb-true last.0 id.0 is)
      of false is = inr (λ l. omega (arith, l, ltb-false last.0 id.0 is))

  beyond : (last : Option Id) (place next : Id) → IsPast last next → next.0 < place.0 → IsPast last place
  beyond None place next p l = tt
  beyond (Some last) place next p l = omega (arith, p, l)

  -- what was got up to the next place was got before or is got there
  pub further : (last : Option Id) (next : Id) → IsNext IsOf last (Some next) → (id : Id) → GotUpTo IsOf Gets last id ⊎ Gets next id → GotUpTo IsOf Gets (Some next) id
  further last next n id (inl g) = record { place = g.place; is = g.is; seen = λ l. g.seen (beyond last g.place next n.past l); got = g.got }
  further last next n id (inr g) = record { place = next; is = n.there; seen = λ l. omega (arith, l); got = g }

  pub nearer : (last : Option Id) (next : Id) → IsNext IsOf last (Some next) → (id : Id) → GotUpTo IsOf Gets (Some next) id → GotUpTo IsOf Gets last id ⊎ Gets next id
  nearer last next n id g = of (past_or last g.place)
    where
      meets : (p n : ℕ) → ((n < p) → ⊥) → n ≤ p → p ≡ n
      meets p n not le = omega (arith, not, le)

      of : IsPast last g.place ⊎ (IsPast last g.place → ⊥) → GotUpTo IsOf Gets last id ⊎ Gets next id
      of (inr seen) = inl (record { place = g.place; is = g.is; seen = seen; got = g.got })
      of (inl past) = inr (subst (λ x. Gets x id) (id_is g.place next (meets g.place.0 next.0 g.seen (n.least g.place g.is past))) g.got)

  -- it goes on to the next place, and gets what is there
  pub more : (last : Option Id) (next : Id) (a b c : List Id) → Gathers (GotUpTo IsOf Gets last) a b → IsNext IsOf last (Some next) → Gathers (Gets next) b c → Gathers (GotUpTo IsOf Gets (Some next)) a c
  more last next a b c f n s = said (λ id. GotUpTo IsOf Gets last id ⊎ Gets next id) (GotUpTo IsOf Gets (Some next)) a c (further last next n) (nearer last next n) (both (GotUpTo IsOf Gets last) (Gets next) a b c f s)

  -- it ends
  pub end : (last : Option Id) (a b : List Id) → Gathers (GotUpTo IsOf Gets last) a b → IsNext IsOf last None → Gathers (Got IsOf Gets) a b
  end last a b f n = said (GotUpTo IsOf Gets last) (Got IsOf Gets) a b to from f
    where
      to : (id : Id) → GotUpTo IsOf Gets last id → Got IsOf Gets id
      to id g = record { place = g.place; is = g.is; got = g.got }

      from : (id : Id) → Got IsOf Gets id → GotUpTo IsOf Gets last id
      from id g = record { place = g.place; is = g.is; seen = λ past. n g.place g.is past; got = g.got }

-- a walk over the user itself and then over its teams
module _ (chart : Chart) (user : Id) (Gets : Id → Id → Type 0) where
  abbrev Team : Id → Type 0
  Team team = IsTrue (is_in_team chart user team)

  pub own_more : (last : Option Id) (next : Id) (a b c : List Id) → Gathers (λ id. Gets user id ⊎ GotUpTo (λ team. IsTrue (is_in_team chart user team)) Gets last id) a b
      → IsNext (λ team. IsTrue (is_in_team chart user team)) last (Some next) → Gathers (Gets next) b c
      → Gathers (λ id. Gets user id ⊎ GotUpTo (λ team. IsTrue (is_in_team chart user team)) Gets (Some next) id) a c
  own_more last next a b c f n s = said (λ id. (Gets user id ⊎ GotUpTo Team Gets last id) ⊎ Gets next id) (λ id. Gets user id ⊎ GotUpTo Team Gets (Some next) id) a c to from (both _ (Gets next) a b c f s)
    where
      to : (id : Id) → (Gets user id ⊎ GotUpTo Team Gets last id) ⊎ Gets next id → Gets user id ⊎ GotUpTo Team Gets (Some next) id
      to id (inl (inl own)) = inl own
      to id (inl (inr g)) = inr (further Team Gets last next n id (inl g))
      to id (inr g) = inr (further Team Gets last next n id (inr g))

      back : (id : Id) → GotUpTo Team Gets last id ⊎ Gets next id → (Gets user id ⊎ GotUpTo Team Gets last id) ⊎ Gets next id
      back id (inl g) = inl (inr g)
      back id (inr g) = inr g

      from : (id : Id) → Gets user id ⊎ GotUpTo Team Gets (Some next) id → (Gets user id ⊎ GotUpTo Team Gets last id) ⊎ Gets next id
      from id (inl own) = inl (inl own)
      from id (inr g) = back id (nearer Team Gets last next n id g)

  pub own_end : (last : Option Id) (a b : List Id) → Gathers (λ id. Gets user id ⊎ GotUpTo (λ team. IsTrue (is_in_team chart user team)) Gets last id) a b
      → IsNext (λ team. IsTrue (is_in_team chart user team)) last None → Gathers (Got (λ principal. IsTrue (acts_as chart user principal)) Gets) a b
  own_end last a b f n = said (λ id. Gets user id ⊎ GotUpTo Team Gets last id) (Got (λ principal. IsTrue (acts_as chart user principal)) Gets) a b to from f
    where
      self : (n : ℕ) (m : Bool) → ((n == n) || m) ≡ true
      self n m = search rules

      or-right : (x y : Bool) → IsTrue y → IsTrue (x || y)
      or-right true y h = refl
      or-right false y h = h

      to : (id : Id) → Gets user id ⊎ GotUpTo Team Gets last id → Got (λ principal. IsTrue (acts_as chart user principal)) Gets id
      to id (inl own) = record { place = user; is = self user.0 (is_in_team chart user user); got = own }
      to id (inr g) = record { place = g.place; is = or-right (g.place.0 == user.0) (is_in_team chart user g.place) g.is; got = g.got }

      from : (id : Id) → Got (λ principal. IsTrue (acts_as chart user principal)) Gets id → Gets user id ⊎ GotUpTo Team Gets last id
      from id g = of (g.place.0 == user.0) refl g.is
        where
          of : (x : Bool) → (g.place.0 == user.0) ≡ x → IsTrue (x || is_in_team chart user g.place) → Gets user id ⊎ GotUpTo Team Gets last id
          of true is h = inl (subst (λ p. Gets p id) (id_is g.place user (eqb-true g.place.0 user.0 is)) g.got)
          of false is h = inr (record { place = g.place; is = h; seen = λ past. n g.place h past; got = g.got })
