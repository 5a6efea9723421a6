-- A change made twice is made once.
use Rattle.std.proofs.Common.{◌≡◌, ℕ, refl, sym, ap, ◌∙◌, arith}
use Rattle.std.proofs.lemmas.Bool.{eqb-true, eq-eqb}
use Rattle.std.proofs.lemmas.Nat.{and_or_self}
use Rattle.std.specs.Prelude.{Bool, true, false, cond, ◌&&◌, ◌==◌, Option, None, Some, bit_or}
use Rattle.std.specs.Int.Bits.{or_add_and}
use Rattle.dv_store.specs.World.{is_none}
use Rattle.dv_shares.specs.declared.change.Rights.{Rights}
use Rattle.dv_shares.specs.declared.change.Change.{Change}
use Rattle.dv_shares.specs.declared.change.Change.TheVariants.{AddDirect, AddInherited, Clear, ClearInherited}
use Rattle.dv_shares.specs.Rights.{changed, are_same, rights_of, grant_of, regrant}

of_both : ℕ → ℕ → Rights
of_both d i = record { direct = d; inherited = i }

twice : (a m : ℕ) → bit_or (bit_or a m) m ≡ bit_or a m
twice a m = let p = or_add_and (bit_or a m) m in let q = and_or_self m a in omega (arith, p, q)

pub changed-changed : (c : Change) (r : Rights) → changed c (changed c r) ≡ changed c r
unfolding changed of_both
changed-changed (AddDirect m) r = ap (λ d. of_both d r.inherited) (twice r.direct m)
changed-changed (AddInherited m) r = ap (of_both r.direct) (twice r.inherited m)
changed-changed Clear r = refl
changed-changed ClearInherited r = refl

pub both_true : (a b : Bool) → (a && b) ≡ true → (a ≡ true) × (b ≡ true)
both_true true b is = (refl, is)
both_true false true is = (is, refl)
both_true false false is = (is, is)

pub are_same-refl : (r : Rights) → are_same r r ≡ true
are_same-refl r = ap (λ b. b && (r.inherited == r.inherited)) (eq-eqb r.direct r.direct refl) ∙ eq-eqb r.inherited r.inherited refl

-- the rights of the grant of some rights are these
pub rights_of-grant_of : (r : Rights) → rights_of (grant_of r) ≡ r
rights_of-grant_of r = by_none (is_none r.direct r.inherited) refl
  where
    by_none : (b : Bool) → is_none r.direct r.inherited ≡ b → rights_of (cond b None (Some (r.direct, r.inherited))) ≡ r
    by_none true is =
        let p = both_true (r.direct == 0) (r.inherited == 0) is in
        let d = sym (eqb-true r.direct 0 p.0) in
        let i = sym (eqb-true r.inherited 0 p.1) in
        λ j. record { direct = d j; inherited = i j }
    by_none false is = refl

pub regrant-regrant : (c : Change) (g : Option (ℕ × ℕ)) → regrant c (regrant c g) ≡ regrant c g
unfolding regrant
regrant-regrant c g = by_same (are_same (changed c (rights_of g)) (rights_of g)) refl
  where
    stays : (r : Rights) → changed c r ≡ r → regrant c (grant_of r) ≡ grant_of r
    stays r fixed =
        ap (λ x. cond (are_same (changed c x) x) (grant_of r) (grant_of (changed c x))) (rights_of-grant_of r)
        ∙ ap (λ x. cond (are_same x r) (grant_of r) (grant_of x)) fixed
        ∙ ap (λ b. cond b (grant_of r) (grant_of r)) (are_same-refl r)

    by_same : (b : Bool) → are_same (changed c (rights_of g)) (rights_of g) ≡ b → regrant c (cond b g (grant_of (changed c (rights_of g)))) ≡ cond b g (grant_of (changed c (rights_of g)))
    by_same true is = ap (λ b. cond b g (grant_of (changed c (rights_of g)))) is
    by_same false is = stays (changed c (rights_of g)) (changed-changed c (rights_of g))
