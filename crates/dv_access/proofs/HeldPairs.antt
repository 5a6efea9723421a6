-- What was seen of the pairs that a user holds.
use Rattle.std.proofs.Common.{◌≡◌, refl, sym, ap, ◌∙◌, ℕ, Bool, true, false}
use Rattle.std.proofs.lemmas.Bool.{true≢false, eqb-true}
use Rattle.std.specs.Prelude.{IsTrue, None, Some, not, ◌==◌, ◌&&◌}
use Rattle.dv_value.specs.declared.id.Id.{Id}
use Rattle.dv_roles.specs.declared.reach.Reach.{Reach}
use Rattle.dv_roles.specs.Reaches.{has_left, Gives}
use Rattle.dv_access.proofs.Walks.{id_is}

-- each pair that is held and passes a test is still to come, and what is to come is held
pub record Unseen (held test : ℕ → Id → Bool) (walk : Reach) : Type 0 where
  pub left : (depth : ℕ) (seat : Id) → IsTrue (held depth seat) → IsTrue (test depth seat) → IsTrue (has_left walk depth seat)
  pub is_held : (depth : ℕ) (seat : Id) → IsTrue (has_left walk depth seat) → IsTrue (held depth seat)

module _ (held test : ℕ → Id → Bool) where
  pub start : (walk : Reach) → ((depth : ℕ) (seat : Id) → has_left walk depth seat ≡ held depth seat) → Unseen held test walk
  start walk h = record { left = λ depth seat is _. h depth seat ∙ is; is_held = λ depth seat is. sym (h depth seat) ∙ is }

  pub hit : (old new : Reach) (pair : ℕ × Id) → Unseen held test old → Gives old new (Some pair) → IsTrue (held pair.0 pair.1)
  hit old new pair u g = u.is_held pair.0 pair.1 g.0

  pub more : (old new : Reach) (pair : ℕ × Id) → Unseen held test old → Gives old new (Some pair) → test pair.0 pair.1 ≡ false → Unseen held test new
  more old new pair u g miss = record { left = left; is_held = λ depth seat is. u.is_held depth seat (first (has_left old depth seat) _ (sym (g.1 depth seat) ∙ is)) }
    where
      first : (a b : Bool) → IsTrue (a && b) → IsTrue a
      first true b h = refl
      first false b h = h

      left : (depth : ℕ) (seat : Id) → IsTrue (held depth seat) → IsTrue (test depth seat) → IsTrue (has_left new depth seat)
      left depth seat is passes = g.1 depth seat ∙ of (depth == pair.0) (seat.0 == pair.1.0) refl refl
        where
          keep : (a b : Bool) → IsTrue a → (a && not b) ≡ not b
          keep true b h = refl
          keep false b h = absurd (true≢false (sym h))

          of : (a b : Bool) → (depth == pair.0) ≡ a → (seat.0 == pair.1.0) ≡ b → (has_left old depth seat && not (a && b)) ≡ true
          of false b p q = keep (has_left old depth seat) false (u.left depth seat is passes)
          of true false p q = keep (has_left old depth seat) false (u.left depth seat is passes)
          of true true p q = absurd (true≢false (sym passes ∙ ap (λ n. test n seat) (eqb-true depth pair.0 p) ∙ ap (test pair.0) (id_is seat pair.1 (eqb-true seat.0 pair.1.0 q)) ∙ miss))

  pub over : (old new : Reach) → Unseen held test old → Gives old new None → (depth : ℕ) (seat : Id) → IsTrue (held depth seat) → IsTrue (test depth seat) → ⊥
  over old new u g depth seat is passes = true≢false (sym (u.left depth seat is passes) ∙ g depth seat)
