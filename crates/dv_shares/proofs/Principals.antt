-- Walks over those that have grants on a row.
use Rattle.std.proofs.Common.{◌≡◌, refl, sym, subst, ◌∙◌, ℕ, ◌-◌, ◌+◌, ◌^◌, ◌<◌, ◌≤◌, ◌⊎◌, inl, inr, Bool, true, false, List, [], ◌∷◌, ◌++◌, arith}
use Rattle.std.proofs.lemmas.Bool.{true≢false, eq-eqb, ltb-true, ltb-false}
use Rattle.std.proofs.lemmas.List.Folds.{list_any-append}
use Rattle.std.specs.Prelude.{◌||◌, ◌==◌, Option, None, Some, IsSome, IsTrue, nat_lt}
use Rattle.std.specs.FinMap as fin
use Rattle.std.specs.List.{AllByRecursion}
use Rattle.dv_value.specs.declared.id.Id.{Id}
use Rattle.dv_store.specs.declared.keys.RowKey.{RowKey}
use Rattle.dv_store.specs.Cursors.{IsNext, IsNextPrincipal, IsPast}
use Rattle.dv_store.specs.World.{World}
use Rattle.dv_shares.specs.Grants.{on_row}
use Rattle.dv_shares.specs.Handing.{handed_by, has_share, share_of, AddsShares}
use Rattle.dv_shares.specs.declared.handing.Share.{Share}

-- how many ids there are past one, or more
abbrev pub left_after : Option Id → ℕ
left_after None = 2 ^ 128 + 1
left_after (Some last) = 2 ^ 128 - last.0

pub id_is : (a b : Id) → a.0 ≡ b.0 → a ≡ b
id_is a b e = λ j. record { 0 = e j }

-- a principal has a grant on a row, and a walk has passed it
pub record HasUpTo (w : World) (row : RowKey) (after : Option Id) (principal : Id) : Type 0 where
  pub has : IsSome (fin.get w.grants (on_row principal row))
  pub seen : IsPast after principal → ⊥

abbrev pub is_past : Option Id → Id → Bool
is_past None id = true
is_past (Some after) id = nat_lt after.0 id.0

pub past_is : (after : Option Id) (id : Id) → is_past after id ≡ true → IsPast after id
past_is None id e = tt
past_is (Some after) id e = ltb-true after.0 id.0 e

-- what is of a kind up to the next place of a walk is that, or what it was up to the place before
pub seen_next : (IsOf : Id → Type 0) (after : Option Id) (next id : Id) → IsNext IsOf after (Some next) → IsOf id → (IsPast (Some next) id → ⊥) → (id ≡ next) ⊎ (IsPast after id → ⊥)
seen_next IsOf after next id is of seen = by (is_past after id) refl
  where
    same : (a b : ℕ) → a ≤ b → (a < b → ⊥) → b ≡ a
    same a b le never = tri (nat_lt a b) refl
      where
        tri : (t : Bool) → nat_lt a b ≡ t → b ≡ a
        tri true l = absurd (never (ltb-true a b l))
        tri false l = let g = ltb-false a b l in omega (arith, le, g)

    not_past : (after : Option Id) → is_past after id ≡ false → IsPast after id → ⊥
    not_past None e h = true≢false e
    not_past (Some after) e h = let g = ltb-false after.0 id.0 e in omega (arith, g, h)

    by : (b : Bool) → is_past after id ≡ b → (id ≡ next) ⊎ (IsPast after id → ⊥)
    by true e = inl (id_is id next (same next.0 id.0 (is.least id of (past_is after id e)) seen))
    by false e = inr (not_past after e)

pub or-left : (a b : Bool) → IsTrue a → IsTrue (a || b)
or-left true b h = refl
or-left false b h = absurd (true≢false (sym h))

pub or-right : (a b : Bool) → IsTrue b → IsTrue (a || b)
or-right true b h = refl
or-right false b h = h

pub share-kept : (shares : List Share) (share : Share) (q : Id) → IsTrue (has_share shares q) → IsTrue (has_share (shares ++ share ∷ []) q)
share-kept shares share q h = list_any-append (λ s. q.0 == s.principal.0) shares (share ∷ []) ∙ or-left (has_share shares q) (has_share (share ∷ []) q) h

pub share-last : (shares : List Share) (share : Share) → IsTrue (has_share (shares ++ share ∷ []) share.principal)
share-last shares share = list_any-append (λ s. share.principal.0 == s.principal.0) shares (share ∷ []) ∙ or-right (has_share shares share.principal) (has_share (share ∷ []) share.principal) (or-left (share.principal.0 == share.principal.0) false (eq-eqb share.principal.0 share.principal.0 refl))

pub each-push : (P : Share → Type 0) (shares : List Share) (share : Share) → P share → AllByRecursion P shares → AllByRecursion P (shares ++ share ∷ [])
each-push P [] share p each = (p, tt)
each-push P (s ∷ shares) share p each = (each.0, each-push P shares share p each.1)

module _ (w : World) (row : RowKey) where
  pub shares-begun : (shares : List Share) → AddsShares (handed_by w row) (HasUpTo w row None) shares shares
  shares-begun shares = record { each = λ each. each; kept = λ q h. h; all = λ q up. absurd (up.seen tt) }

  pub shares-more : (after : Option Id) (next : Id) (old mid new : List Share) → IsNextPrincipal w row.table row.id after (Some next) → new ≡ mid ++ share_of w row next ∷ [] → AddsShares (handed_by w row) (HasUpTo w row after) old mid → AddsShares (handed_by w row) (HasUpTo w row (Some next)) old new
  shares-more after next old mid new is e adds = subst (AddsShares (handed_by w row) (HasUpTo w row (Some next)) old) (sym e) (record {
    each = λ each. each-push (λ share. share.mask ≡ handed_by w row share.principal) mid (share_of w row next) refl (adds.each each);
    kept = λ q h. share-kept mid (share_of w row next) q (adds.kept q h);
    all = λ q up. of q up (seen_next (λ p. IsSome (fin.get w.grants (on_row p row))) after next q is up.has up.seen);
  })
    where
      of : (q : Id) → HasUpTo w row (Some next) q → (q ≡ next) ⊎ (IsPast after q → ⊥) → IsTrue (has_share (mid ++ share_of w row next ∷ []) q)
      of q up (inl it) = subst (λ (p : Id). IsTrue (has_share (mid ++ share_of w row next ∷ []) p)) (sym it) (share-last mid (share_of w row next))
      of q up (inr seen) = share-kept mid (share_of w row next) q (adds.all q (record { has = up.has; seen = seen }))

  pub shares-end : (after : Option Id) (old new : List Share) → IsNextPrincipal w row.table row.id after None → AddsShares (handed_by w row) (HasUpTo w row after) old new → AddsShares (handed_by w row) (λ q. IsSome (fin.get w.grants (on_row q row))) old new
  shares-end after old new none adds = record { each = adds.each; kept = adds.kept; all = λ q has. adds.all q (record { has = has; seen = λ past. none q has past }) }
