-- A list copied entry by entry in ascending order.
use Rattle.std.proofs.Common.{◌≡◌, refl, sym, ap, ◌∙◌, ℕ, ◌<◌, List, [], ◌∷◌, Bool, true, false, cond, filter, arith}
use Rattle.std.proofs.lemmas.Grind.{common_steps}
use Rattle.std.proofs.lemmas.Bool.{true≢false, ltb-true, lt-ltb, le-ltb}
use Rattle.std.specs.Prelude.{Option, Some, None, is_some, not, find, nat_lt}
use Rattle.std.specs.Option.{unwrap_or}
use Rattle.std.specs.List.{AllByRecursion}
use Rattle.std.specs.List.Sorted.{IsStrictlySortedBy}
use Rattle.std.specs.Map.{keys_of}
use Rattle.std.specs.Ordering.{nat_cmp}
use Rattle.std.specs.declared.cmp.Ordering.TheVariants.{Less, Greater}
use Rattle.dv_value.specs.declared.id.Id.{Id}
use Rattle.dv_units.specs.Chart.{put}
use Rattle.dv_units.specs.Cursors.{is_past, next_entry, Ascends}

less-lt : (a b : ℕ) → nat_cmp a b ≡ Less → a < b
less-lt a b h = grind (arith, common_steps)

less-greater : (a b : ℕ) → nat_cmp a b ≡ Less → nat_cmp b a ≡ Greater
less-greater a b h = grind (arith, common_steps)

-- the entries that aren't past an id
abbrev pub up_to : {V : Type 0} → Option Id → List (Id × V) → List (Id × V)
up_to after es = filter (λ e. not (is_past after e.0)) es

pub up_to-none : {V : Type 0} (es : List (Id × V)) → [] ≡ up_to None es
up_to-none [] = refl
up_to-none (e ∷ es) = up_to-none es

abbrev AllAbove : {V : Type 0} → Id → List (Id × V) → Type 0
AllAbove k es = AllByRecursion (λ y. nat_cmp k.0 y.0 ≡ Less) (keys_of es)

-- what is above an id is past it, and past what is not above it
all-past : {V : Type 0} (k : Id) (after : Option Id) → ((y : Id) → k.0 < y.0 → is_past after y ≡ true) → (es : List (Id × V)) → AllAbove k es → up_to after es ≡ []
all-past k after past [] above = refl
all-past k after past (e ∷ es) above = rw (past e.0 (less-lt k.0 e.0.0 above.0)) (all-past k after past es above.1)

past-above : (k : Id) (after : Option Id) → is_past after k ≡ true → (y : Id) → k.0 < y.0 → is_past after y ≡ true
past-above k None past y lt = refl
past-above k (Some a) past y lt = let b : a.0 < k.0 = ltb-true a.0 k.0 past in lt-ltb a.0 y.0 (omega (arith, b, lt))

found-above : {V : Type 0} (k : Id) (p : Id × V → Bool) (es : List (Id × V)) (id : Id) (v : V) → AllAbove k es → find p es ≡ Some (id, v) → nat_cmp k.0 id.0 ≡ Less
found-above k p [] id v above h = absurd (true≢false (sym (ap is_some h)))
found-above {V} k p (e ∷ es) id v above h =
    elim (p e) as (λ b. cond b (Some e) (find p es) ≡ Some (id, v) → nat_cmp k.0 id.0 ≡ Less) [
      | true ↦ λ h. sym (ap (λ (o : Option (Id × V)). nat_cmp k.0 (unwrap_or o e).0.0) h) ∙ above.0
      | false ↦ λ h. found-above k p es id v above.1 h
    ] h

pub found-passes : {A : Type 0} (p : A → Bool) (xs : List A) (x : A) → find p xs ≡ Some x → p x ≡ true
found-passes p [] x h = absurd (true≢false (sym (ap is_some h)))
found-passes {A} p (y ∷ ys) x h =
    elim (p y) as (λ b. p y ≡ b → cond b (Some y) (find p ys) ≡ Some x → p x ≡ true) [
      | true ↦ λ is h. sym (ap (λ (o : Option A). p (unwrap_or o y)) h) ∙ is
      | false ↦ λ is h. found-passes p ys x h
    ] refl h

-- one entry more
pub up_to-more : {V : Type 0} (es : List (Id × V)) → Ascends es → (after : Option Id) (id : Id) (v : V) → next_entry after es ≡ Some (id, v) → put (up_to after es) id v ≡ up_to (Some id) es
unfolding IsStrictlySortedBy
up_to-more [] sorted after id v h = absurd (true≢false (sym (ap is_some h)))
up_to-more {V} (e ∷ es) sorted after id v h =
    elim (is_past after e.0) as (λ b. is_past after e.0 ≡ b → cond b (Some e) (next_entry after es) ≡ Some (id, v)
    → put (cond (not b) (e ∷ up_to after es) (up_to after es)) id v ≡ cond (not (nat_lt id.0 e.0.0)) (e ∷ up_to (Some id) es) (up_to (Some id) es)) [
      | true ↦ λ is h.
          let e-is : e ≡ (id, v) = ap (λ (o : Option (Id × V)). unwrap_or o e) h in
          let same : e.0 ≡ id = ap (λ (x : Id × V). x.0) e-is in
          rw (all-past e.0 after (past-above e.0 after is) es sorted.0)
          (sym (rw (le-ltb id.0 e.0.0 (omega (arith, ap (λ (x : Id). x.0) same)), all-past e.0 (Some id) (λ y lt. lt-ltb id.0 y.0 (omega (arith, lt, ap (λ (x : Id). x.0) same))) es sorted.0) (ap (λ x. x ∷ []) e-is)))
      | false ↦ λ is h.
          let above = found-above e.0 (λ x. is_past after x.0) es id v sorted.0 h in
          rw (less-greater e.0.0 id.0 above, le-ltb id.0 e.0.0 (omega (arith, less-lt e.0.0 id.0 above))) (ap (λ rest. e ∷ rest) (up_to-more es sorted.1 after id v h))
    ] refl h

-- where nothing is past, all is copied
pub up_to-all : {V : Type 0} (es : List (Id × V)) (after : Option Id) → next_entry after es ≡ None → up_to after es ≡ es
up_to-all [] after h = refl
up_to-all (e ∷ es) after h =
    elim (is_past after e.0) as (λ b. cond b (Some e) (next_entry after es) ≡ None → cond (not b) (e ∷ up_to after es) (up_to after es) ≡ e ∷ es) [
      | true ↦ λ h. absurd (true≢false (ap is_some h))
      | false ↦ λ h. ap (λ rest. e ∷ rest) (up_to-all es after h)
    ] h
