-- Rows of a store, each found once: one more is one fewer left.
use Rattle.std.proofs.Common.{◌≡◌, refl, sym, ap, subst, ◌∙◌, ℕ, zero, suc, ◌+◌, ◌-◌, ◌≤◌, Bool, true, false, cond, not, ◌&&◌, List, [], ◌∷◌, ◌++◌, length, length-append, arith, is_some}
use Rattle.std.proofs.lemmas.Bool.{true≢false}
use Rattle.std.specs.Prelude.{◌||◌, Option, None}
use Rattle.std.specs.FinMap as map
use Rattle.std.specs.FinMap.{get-remove, len-remove, empty_of_len, get-empty}
use Rattle.dv_store.specs.declared.keys.RowKey.{RowKey}
use Rattle.dv_store.specs.declared.row.Row.{Row}
use Rattle.dv_store.specs.Keys.{row_cmp, is_row}
use Rattle.dv_store.specs.World.{Rows, is_there}
use Rattle.dv_cascade.specs.Chains.{is_among}
use Rattle.dv_cascade.specs.Found.{without, AreOf}
use Rattle.dv_cascade.proofs.Among.{row_total}

without-push : (rows : Rows) (keys : List RowKey) (key : RowKey) → without rows (keys ++ key ∷ []) ≡ map.remove (without rows keys) key
without-push rows [] key = refl
without-push rows (k ∷ keys) key = without-push (map.remove rows k) keys key

there-without : (rows : Rows) (keys : List RowKey) (key : RowKey) → is_there (without rows keys) key ≡ (not (is_among keys key) && is_there rows key)
there-without rows [] key = refl
there-without rows (k ∷ keys) key = there-without (map.remove rows k) keys key ∙ ap (λ found. not (is_among keys key) && is_some found) (get-remove row_total rows k key) ∙ either (is_row key k) (is_among keys key) (map.get rows key)
  where
    either : (is among : Bool) (found : Option Row) → (not among && is_some (cond is None found)) ≡ (not (is || among) && is_some found)
    either true true found = refl
    either true false found = refl
    either false among found = refl

-- where a row is there, some are
some_there : (rows : Rows) (key : RowKey) → is_there rows key ≡ true → map.len rows ≡ 0 → ⊥
some_there rows key there none = true≢false (sym there ∙ ap (λ r. is_there r key) (empty_of_len rows none) ∙ ap is_some (get-empty row_cmp key))

fewer : (rows : Rows) (key : RowKey) → is_there rows key ≡ true → map.len (map.remove rows key) + 1 ≡ map.len rows
fewer rows key there = of (map.len rows) (map.len (map.remove rows key)) (len-remove row_total rows key ∙ ap (λ b. cond b (map.len rows - 1) (map.len rows)) there) (some_there rows key there)
  where
    of : (n m : ℕ) → m ≡ n - 1 → (n ≡ 0 → ⊥) → m + 1 ≡ n
    of zero m e some = absurd (some refl)
    of (suc n) m e some = omega (arith, e)

pub are_of-push : (rows : Rows) (found : List RowKey) (key : RowKey) → is_among found key ≡ false → is_there rows key ≡ true → AreOf rows found → AreOf rows (found ++ key ∷ [])
are_of-push rows found key new there are =
    sums (map.len (without rows (found ++ key ∷ []))) (map.len (without rows found)) (length (found ++ key ∷ [])) (length found) (map.len rows)
    (ap map.len (without-push rows found key)) (fewer (without rows found) key (there-without rows found key ∙ ap (λ b. not b && is_there rows key) new ∙ there)) (length-append found (key ∷ [])) are
  where
    sums : {r : ℕ} (a b c d n : ℕ) → a ≡ r → r + 1 ≡ b → c ≡ d + 1 → b + d ≡ n → a + c ≡ n
    sums a b c d n p q s t = omega (arith, p, q, s, t)

pub are_of_within : (rows : Rows) (found : List RowKey) → AreOf rows found → length found ≤ map.len rows
are_of_within rows found are = of (map.len (without rows found)) (length found) (map.len rows) are
  where
    of : (a b n : ℕ) → a + b ≡ n → b ≤ n
    of a b n e = omega (arith, e)

-- at first there is a target, or nothing
pub are_of-start : (rows : Rows) (target : RowKey) (found : List RowKey) → found ≡ cond (is_there rows target) (target ∷ []) [] → AreOf rows found
are_of-start rows target found e = of (is_there rows target) refl e
  where
    none : (n : ℕ) → n + 0 ≡ n
    none n = omega arith

    of : (b : Bool) → is_there rows target ≡ b → found ≡ cond b (target ∷ []) [] → AreOf rows found
    of true there e = subst (λ f. AreOf rows f) (sym e) (are_of-push rows [] target refl there (none (map.len rows)))
    of false there e = subst (λ f. AreOf rows f) (sym e) (none (map.len rows))
