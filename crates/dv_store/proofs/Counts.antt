-- How many entries a map has after a change.
use Rattle.std.proofs.Common.{◌≡◌, ℕ, zero, suc, ◌+◌, ◌-◌, ◌≤◌, refl, sym, ap, ◌∙◌, arith, is_some}
use mathlib.Core.Bool.{true≢false}
use Rattle.std.specs.Prelude.{Bool, true, false, cond}
use Rattle.std.specs.declared.cmp.Ordering.{Ordering}
use Rattle.std.specs.Cmp.{IsTotalOrder}
use Rattle.std.specs.FinMap as map

at_least_one : (n : ℕ) → (n ≡ 0 → ⊥) → 1 ≤ n
at_least_one zero h = absurd (h refl)
at_least_one (suc n) h = omega arith

module _ {K X : Type 0} {R : K → K → Ordering} (o : IsTotalOrder R) (m : map.FinMap R X) (k : K) where
  -- a map that has a key isn't empty
  pub len_there : map.contains_key m k ≡ true → 1 ≤ map.len m
  len_there there = at_least_one (map.len m) (λ e. true≢false (sym there ∙ ap (λ m. map.contains_key m k) (map.empty_of_len m e) ∙ ap is_some (map.get-empty R k)))

  pub len_without : (n : ℕ) (b : Bool) → n ≡ map.len m → map.contains_key m k ≡ b → cond b (n - 1) n ≡ map.len (map.remove m k)
  len_without n b is there = ap (λ n. cond b (n - 1) n) is ∙ ap (λ b. cond b (map.len m - 1) (map.len m)) (sym there) ∙ sym (map.len-remove o m k)

  pub len_with : (v : X) (n : ℕ) (b : Bool) → n ≡ map.len m → map.contains_key m k ≡ b → cond b n (n + 1) ≡ map.len (map.insert m k v)
  len_with v n b is there = ap (λ n. cond b n (n + 1)) is ∙ ap (λ b. cond b (map.len m) (map.len m + 1)) (sym there) ∙ sym (map.len-insert o m k v)

  -- a key put anew is one more than without it
  pub len_again : (v : X) → map.len (map.remove m k) + 1 ≡ map.len (map.insert m k v)
  len_again v = again (map.contains_key m k) refl
    where
      again : (b : Bool) → map.contains_key m k ≡ b → map.len (map.remove m k) + 1 ≡ map.len (map.insert m k v)
      again true there =
          let one : 1 ≤ map.len m = len_there there in
          let less : map.len m - 1 ≡ map.len (map.remove m k) = len_without (map.len m) true refl there in
          let same : map.len m ≡ map.len (map.insert m k v) = len_with v (map.len m) true refl there in
          omega arith
      again false there =
          let less : map.len m ≡ map.len (map.remove m k) = len_without (map.len m) false refl there in
          let same : map.len m + 1 ≡ map.len (map.insert m k v) = len_with v (map.len m) false refl there in
          omega arith
