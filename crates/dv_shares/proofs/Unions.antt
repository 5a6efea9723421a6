-- Masks joined, and what a grant is once its inherited rights were cleared and others were added.
use Rattle.std.proofs.Common.{◌≡◌, refl, sym, ap, ◌∙◌, ℕ, Bool, true, false, List, [], ◌∷◌, ◌++◌, arith}
use Rattle.std.proofs.lemmas.Bool.{true≢false, eqb-true, eq-eqb}
use Rattle.std.proofs.lemmas.Nat.Bits.{bit_at_or, same_from_bits}
use Rattle.std.specs.Prelude.{◌&&◌, ◌==◌, cond, Option, None, Some, bit_or}
use Rattle.std.specs.Int.Bits.{or_zero_l, or_zero_r}
use Rattle.dv_shares.specs.declared.change.Change.TheVariants.{AddInherited, ClearInherited}
use Rattle.dv_shares.specs.declared.change.Rights.{Rights}
use Rattle.dv_shares.specs.Inheriting.{inheriting, union}
use Rattle.dv_shares.specs.Rights.{are_same, changed, grant_of, regrant, rights_of}
use Rattle.dv_shares.proofs.Repeated.{both_true, rights_of-grant_of}

pub or_assoc : (a b c : ℕ) → bit_or (bit_or a b) c ≡ bit_or a (bit_or b c)
or_assoc a b c = same_from_bits (bit_or (bit_or a b) c) (bit_or a (bit_or b c)) (λ i. omega (arith, bit_at_or (bit_or a b) c i, bit_at_or a b i, bit_at_or a (bit_or b c) i, bit_at_or b c i))

pub union-append : (a b : List ℕ) → union (a ++ b) ≡ bit_or (union a) (union b)
unfolding union
union-append [] b = sym (or_zero_l (union b))
union-append (mask ∷ a) b = ap (bit_or mask) (union-append a b) ∙ sym (or_assoc mask (union a) (union b))

shuffled : (d f m o n : ℕ) → bit_or (bit_or d (bit_or f (bit_or m n))) o ≡ bit_or f (bit_or (bit_or d m) (bit_or o n))
shuffled d f m o n = same_from_bits (bit_or (bit_or d (bit_or f (bit_or m n))) o) (bit_or f (bit_or (bit_or d m) (bit_or o n))) (λ i. omega (
  arith,
  bit_at_or (bit_or d (bit_or f (bit_or m n))) o i,
  bit_at_or d (bit_or f (bit_or m n)) i,
  bit_at_or f (bit_or m n) i,
  bit_at_or m n i,
  bit_at_or f (bit_or (bit_or d m) (bit_or o n)) i,
  bit_at_or (bit_or d m) (bit_or o n) i,
  bit_at_or d m i,
  bit_at_or o n i,
))

-- one row more on a chain gives what it has itself, and what is inherited on it
pub union-more : (from direct owned : List ℕ) (d o : ℕ) → bit_or (bit_or d (union (from ++ (direct ++ owned)))) o ≡ union (from ++ ((d ∷ direct) ++ (o ∷ owned)))
unfolding union
union-more from direct owned d o =
    ap (λ x. bit_or (bit_or d x) o) (union-append from (direct ++ owned) ∙ ap (bit_or (union from)) (union-append direct owned))
    ∙ shuffled d (union from) (union direct) o (union owned)
    ∙ sym (union-append from ((d ∷ direct) ++ (o ∷ owned)) ∙ ap (bit_or (union from)) (union-append (d ∷ direct) (o ∷ owned)))

pub union-parent : (d i o : ℕ) → bit_or (bit_or d i) o ≡ union (d ∷ i ∷ o ∷ [])
unfolding union
union-parent d i o = or_assoc d i o ∙ ap (λ x. bit_or d (bit_or i x)) (sym (or_zero_r o))

of_both : ℕ → ℕ → Rights
of_both d i = record { direct = d; inherited = i }

-- the rights of a grant with other inherited rights
pub rights_of-inheriting : (mask : ℕ) (g : Option (ℕ × ℕ)) → rights_of (inheriting mask g) ≡ record { direct = (rights_of g).direct; inherited = mask }
unfolding inheriting
rights_of-inheriting mask g = by_same (are_same after before) refl
  where
    before : Rights
    before = rights_of g

    after : Rights
    after = record { direct = before.direct; inherited = mask }

    by_same : (b : Bool) → are_same after before ≡ b → rights_of (cond b g (grant_of after)) ≡ after
    by_same true is = let i = sym (eqb-true mask before.inherited (both_true (before.direct == before.direct) (mask == before.inherited) is).1) in λ j. record { direct = before.direct; inherited = i j }
    by_same false is = rights_of-grant_of after

-- cleared first, then given other inherited rights
pub regrant-inheriting : (mask : ℕ) (g : Option (ℕ × ℕ)) → regrant (AddInherited mask) (regrant ClearInherited g) ≡ inheriting mask g
unfolding regrant changed inheriting of_both
regrant-inheriting mask g = by_zero (0 == r.inherited) refl
  where
    r : Rights
    r = rights_of g

    cleared : Option (ℕ × ℕ)
    cleared = grant_of (record { direct = r.direct; inherited = 0 })

    add : Option (ℕ × ℕ) → Option (ℕ × ℕ)
    add x = cond (are_same (record { direct = (rights_of x).direct; inherited = bit_or (rights_of x).inherited mask }) (rights_of x)) x (grant_of (record { direct = (rights_of x).direct; inherited = bit_or (rights_of x).inherited mask }))

    to : ℕ → Option (ℕ × ℕ)
    to i = cond ((r.direct == r.direct) && (i == r.inherited)) g (grant_of (record { direct = r.direct; inherited = i }))

    self : (n : ℕ) → (n == n) ≡ true
    self n = eq-eqb n n refl

    -- a grant with inherited rights is one of its rights
    is_of : (x : Option (ℕ × ℕ)) → (0 == (rights_of x).inherited) ≡ false → x ≡ grant_of (rights_of x)
    is_of None e = absurd (true≢false e)
    is_of (Some pair) e = some (pair.1 == 0) refl
      where
        some : (b : Bool) → (pair.1 == 0) ≡ b → Some pair ≡ cond ((pair.0 == 0) && b) None (Some (pair.0, pair.1))
        some true z = absurd (true≢false (sym (eq-eqb 0 pair.1 (sym (eqb-true pair.1 0 z))) ∙ e))
        some false z = none (pair.0 == 0)
          where
            none : (b : Bool) → Some pair ≡ cond (b && false) None (Some (pair.0, pair.1))
            none true = refl
            none false = refl

    -- the cleared grant with a mask
    of_cleared : add cleared ≡ grant_of (record { direct = r.direct; inherited = mask })
    of_cleared =
        ap (λ (x : Rights). cond (are_same (of_both x.direct (bit_or x.inherited mask)) x) cleared (grant_of (of_both x.direct (bit_or x.inherited mask)))) (rights_of-grant_of (of_both r.direct 0))
        ∙ ap (λ i. cond ((r.direct == r.direct) && (i == 0)) cleared (grant_of (of_both r.direct i))) (or_zero_l mask)
        ∙ ap (λ b. cond (b && (mask == 0)) cleared (grant_of (of_both r.direct mask))) (self r.direct)
        ∙ zeros (mask == 0) refl
      where
        zeros : (b : Bool) → (mask == 0) ≡ b → cond b cleared (grant_of (of_both r.direct mask)) ≡ grant_of (of_both r.direct mask)
        zeros true z = ap (λ i. grant_of (of_both r.direct i)) (sym (eqb-true mask 0 z))
        zeros false z = refl

    -- it is the grant with the mask, or the same
    of_mask : (0 == r.inherited) ≡ false → to mask ≡ grant_of (record { direct = r.direct; inherited = mask })
    of_mask some = ap (λ b. cond (b && (mask == r.inherited)) g (grant_of (of_both r.direct mask))) (self r.direct) ∙ same (mask == r.inherited) refl
      where
        same : (b : Bool) → (mask == r.inherited) ≡ b → cond b g (grant_of (of_both r.direct mask)) ≡ grant_of (of_both r.direct mask)
        same true e = is_of g some ∙ ap (λ i. grant_of (of_both r.direct i)) (sym (eqb-true mask r.inherited e))
        same false e = refl

    by_zero : (z : Bool) → (0 == r.inherited) ≡ z → add (cond ((r.direct == r.direct) && (0 == r.inherited)) g cleared) ≡ to mask
    by_zero z e = ap (λ b. add (cond (b && (0 == r.inherited)) g cleared)) (self r.direct) ∙ ap (λ b. add (cond b g cleared)) e ∙ of z e
      where
        of : (z : Bool) → (0 == r.inherited) ≡ z → add (cond z g cleared) ≡ to mask
        of true e = ap (λ i. cond ((r.direct == r.direct) && (i == r.inherited)) g (grant_of (of_both r.direct i))) (ap (λ i. bit_or i mask) (sym (eqb-true 0 r.inherited e)) ∙ or_zero_l mask)
        of false e = of_cleared ∙ sym (of_mask e)
