-- Walks from one id to the next by least ids, which look for one that passes a test.
use Rattle.std.proofs.Common.{◌≡◌, refl, sym, ap, subst, ◌∙◌, ℕ, ◌≤◌, ◌<◌, Bool, true, false, arith}
use Rattle.std.proofs.lemmas.Bool.{and_parts, ltb-true, ltb-false}
use Rattle.std.specs.Prelude.{Option, Some, None, ◌&&◌}
use Rattle.dv_value.specs.declared.id.Id.{Id}
use Rattle.dv_units.specs.Cursors.{is_past}
use Rattle.dv_units.specs.Membership.{IsLeast}
use Rattle.dv_units.proofs.TreeLaws.{id-is}
use Rattle.dv_roles.specs.Seated.{most_after}

-- no member up to an id, or up to none, passes
abbrev pub NoneUpTo : (Id → Bool) → (Id → Bool) → Option Id → Type 0
NoneUpTo mem test after = (id : Id) → mem id ≡ true → is_past after id ≡ false → test id ≡ false

module _ (mem test : Id → Bool) (after : Option Id) (none : NoneUpTo mem test after) where
  -- a member more that doesn't pass
  pub none-more : (next : Id) → IsLeast (λ id. mem id && is_past after id) (Some next) → test next ≡ false → NoneUpTo mem test (Some next)
  none-more next least not_here id is past =
      elim (is_past after id) as (λ b. is_past after id ≡ b → test id ≡ false) [
        | true ↦ λ later.
            let le : next.0 ≤ id.0 = least.1 id (rw (is, later) refl) in
            let eq : next.0 ≡ id.0 = omega (arith, le, ltb-false next.0 id.0 past) in
            subst (λ x. test x ≡ false) (id-is next id eq) not_here
        | false ↦ λ before. none id is before
      ] refl

  -- where no member is left, none passes
  pub none-there : IsLeast (λ id. mem id && is_past after id) None → (id : Id) → mem id ≡ true → test id ≡ false
  none-there last id is = none id is (sym (ap (λ b. b && is_past after id) is) ∙ last id)

-- the least is a member
pub least-there : (mem : Id → Bool) (after : Option Id) (next : Id) → IsLeast (λ id. mem id && is_past after id) (Some next) → mem next ≡ true
least-there mem after next least = (and_parts (mem next) (is_past after next) least.0).0

-- what is left falls
pub most_after-past : (n : ℕ) (after : Option Id) (next : Id) → is_past after next ≡ true → next.0 < n → most_after n (Some next) < most_after n after
most_after-past n None next past small = omega (arith, small)
most_after-past n (Some id) next past small = let lt : id.0 < next.0 = ltb-true id.0 next.0 past in omega (arith, small, lt)

pub most_after-least : (n : ℕ) (mem : Id → Bool) (after : Option Id) (next : Id) → IsLeast (λ id. mem id && is_past after id) (Some next) → next.0 < n → most_after n (Some next) < most_after n after
most_after-least n mem after next least small = most_after-past n after next (and_parts (mem next) (is_past after next) least.0).1 small
