-- Lists by ids and sets of pairs of ids after one change, in whatever order they stand.
use Rattle.std.proofs.Common.{◌≡◌, refl, sym, ap, subst, ◌∙◌, ℕ, suc, ◌+◌, ◌≤◌, length, List, [], ◌∷◌, Bool, true, false, cond, arith}
use Rattle.std.proofs.lemmas.Grind.{common_steps}
use Rattle.std.proofs.lemmas.Bool.{true≢false, eqb-true, eqb-false, eq-eqb, ne_eqb}
use Rattle.std.specs.Prelude.{Some, None, ◌==◌, ◌||◌, not}
use Rattle.std.specs.List.{list_any}
use Rattle.std.specs.BTreeMap.{is_at}
use Rattle.std.specs.declared.cmp.Ordering.TheVariants.{Less, Equal, Greater}
use Rattle.std.specs.Ordering.{nat_cmp, is_eq, match_ordering}
use Rattle.dv_value.specs.declared.id.Id.{Id}
use Rattle.dv_units.specs.Chart.{at, put, has, pair_cmp, with_pair, without_pair}
use Rattle.dv_units.proofs.ListLaws.{pair-is}
use Rattle.dv_roles.specs.Gifts.{without_gifts_of}
use Rattle.dv_roles.proofs.GiftLaws.{own-pair}

pub eq-swap : (a b : ℕ) → (a == b) ≡ (b == a)
eq-swap a b = elim (b == a) as (λ (c : Bool). (b == a) ≡ c → (a == b) ≡ c) [
  | true ↦ λ is. eq-eqb a b (sym (eqb-true b a is))
  | false ↦ λ is. ne_eqb a b (λ e. eqb-false b a is (sym e))
] refl

cmp-equal : (a b : ℕ) → nat_cmp a b ≡ Equal → a ≡ b
cmp-equal a b h = grind (arith, common_steps)

cmp-greater : (a b : ℕ) → nat_cmp a b ≡ Greater → a ≡ b → ⊥
cmp-greater a b h e = grind (arith, common_steps)

-- what a list keeps once a value was put
pub at-put : {V : Type 0} (id : Id) (v : V) (es : List (Id × V)) (q : Id) → at (put es id v) q ≡ cond (id.0 == q.0) (Some v) (at es q)
at-put {V} id v [] q = ap (λ b. cond b (Some v) None) (eq-swap q.0 id.0)
at-put {V} id v (e ∷ es) q =
    elim (nat_cmp id.0 e.0.0) as (λ r. nat_cmp id.0 e.0.0 ≡ r → at (match_ordering r ((id, v) ∷ e ∷ es) ((e.0, v) ∷ es) (e ∷ put es id v)) q ≡ cond (id.0 == q.0) (Some v) (at (e ∷ es) q)) [
      | Less ↦ λ is. ap (λ b. cond b (Some v) (at (e ∷ es) q)) (eq-swap q.0 id.0)
      | Equal ↦ λ is. replaced (cmp-equal id.0 e.0.0 is)
      | Greater ↦ λ is. ap (λ o. cond (q.0 == e.0.0) (Some e.1) o) (at-put id v es q) ∙ apart (cmp-greater id.0 e.0.0 is)
    ] refl
  where
    both : (b : Bool) → cond b (Some v) (at es q) ≡ cond b (Some v) (cond b (Some e.1) (at es q))
    both true = refl
    both false = refl

    replaced : id.0 ≡ e.0.0 → cond (q.0 == e.0.0) (Some v) (at es q) ≡ cond (id.0 == q.0) (Some v) (cond (q.0 == e.0.0) (Some e.1) (at es q))
    replaced same =
        let tests : (id.0 == q.0) ≡ (q.0 == e.0.0) = ap (λ n. n == q.0) same ∙ eq-swap e.0.0 q.0 in
        both (q.0 == e.0.0) ∙ ap (λ b. cond b (Some v) (cond (q.0 == e.0.0) (Some e.1) (at es q))) (sym tests)

    apart : (id.0 ≡ e.0.0 → ⊥) → cond (q.0 == e.0.0) (Some e.1) (cond (id.0 == q.0) (Some v) (at es q)) ≡ cond (id.0 == q.0) (Some v) (cond (q.0 == e.0.0) (Some e.1) (at es q))
    apart other =
        elim (q.0 == e.0.0) as (λ b. (q.0 == e.0.0) ≡ b → cond b (Some e.1) (cond (id.0 == q.0) (Some v) (at es q)) ≡ cond (id.0 == q.0) (Some v) (cond b (Some e.1) (at es q))) [
          | true ↦ λ is. rw (ne_eqb id.0 q.0 (λ h. other (h ∙ eqb-true q.0 e.0.0 is))) refl
          | false ↦ λ is. refl
        ] refl

or-true : (a : Bool) {b : Bool} → b ≡ true → (a || b) ≡ true
or-true true h = refl
or-true false h = h

or-cases : (P : Type 0) (a b : Bool) → (a ≡ true → P) → (b ≡ true → P) → (a || b) ≡ true → P
or-cases P true b one other h = one refl
or-cases P false b one other h = other h

-- ---- sets of pairs
pub is-pair : (q k : Id × Id) → is_at (pair_cmp q) k ≡ true → q ≡ k
is-pair q k h = let e = pair-is q.0 q.1 k.0 k.1 h in λ i. (e.0 i, e.1 i)

-- a pair that is there stays
pub has-with : (k q : Id × Id) (xs : List (Id × Id)) → has xs q ≡ true → has (with_pair xs k) q ≡ true
has-with k q [] there = absurd (true≢false (sym there))
has-with k q (x ∷ xs) there =
    elim (pair_cmp k x) as (λ r. has (match_ordering r (k ∷ x ∷ xs) (x ∷ xs) (x ∷ with_pair xs k)) q ≡ true) [
      | Less ↦ or-true (is_at (pair_cmp q) k) there
      | Equal ↦ there
      | Greater ↦ or-cases ((is_at (pair_cmp q) x || has (with_pair xs k) q) ≡ true) (is_at (pair_cmp q) x) (has xs q)
          (λ h. ap (λ b. b || has (with_pair xs k) q) h) (λ h. or-true (is_at (pair_cmp q) x) (has-with k q xs h)) there
    ]

-- a pair that is there was added or was there before
pub with-cases : (P : Id × Id → Type 0) (k q : Id × Id) (xs : List (Id × Id)) → P k → (has xs q ≡ true → P q) → has (with_pair xs k) q ≡ true → P q
with-cases P k q [] added before there = or-cases (P q) (is_at (pair_cmp q) k) false (λ h. subst P (sym (is-pair q k h)) added) (λ h. absurd (true≢false (sym h))) there
with-cases P k q (x ∷ xs) added before there =
    elim (pair_cmp k x) as (λ r. has (match_ordering r (k ∷ x ∷ xs) (x ∷ xs) (x ∷ with_pair xs k)) q ≡ true → P q) [
      | Less ↦ λ there. or-cases (P q) (is_at (pair_cmp q) k) (has (x ∷ xs) q) (λ h. subst P (sym (is-pair q k h)) added) before there
      | Equal ↦ λ there. before there
      | Greater ↦ λ there. or-cases (P q) (is_at (pair_cmp q) x) (has (with_pair xs k) q) (λ h. before (ap (λ b. b || has xs q) h))
          (λ h. with-cases P k q xs added (λ old. before (or-true (is_at (pair_cmp q) x) old)) h) there
    ] there

-- a pair that is left was there before
pub without-was : (k q : Id × Id) (xs : List (Id × Id)) → has (without_pair xs k) q ≡ true → has xs q ≡ true
without-was k q [] there = there
without-was k q (x ∷ xs) there =
    elim (is_at (pair_cmp k) x) as (λ b. has (cond b xs (x ∷ without_pair xs k)) q ≡ true → (is_at (pair_cmp q) x || has xs q) ≡ true) [
      | true ↦ λ h. or-true (is_at (pair_cmp q) x) h
      | false ↦ λ h. or-cases ((is_at (pair_cmp q) x || has xs q) ≡ true) (is_at (pair_cmp q) x) (has (without_pair xs k) q)
          (λ one. ap (λ b. b || has xs q) one) (λ rest. or-true (is_at (pair_cmp q) x) (without-was k q xs rest)) h
    ] there

-- another pair stays
pub without-stays : (k q : Id × Id) (xs : List (Id × Id)) → (q ≡ k → ⊥) → has xs q ≡ true → has (without_pair xs k) q ≡ true
without-stays k q [] other there = there
without-stays k q (x ∷ xs) other there =
    elim (is_at (pair_cmp k) x) as (λ b. is_at (pair_cmp k) x ≡ b → has (cond b xs (x ∷ without_pair xs k)) q ≡ true) [
      | true ↦ λ is. or-cases (has xs q ≡ true) (is_at (pair_cmp q) x) (has xs q) (λ one. absurd (other (is-pair q x one ∙ sym (is-pair k x is)))) (λ rest. rest) there
      | false ↦ λ is. or-cases ((is_at (pair_cmp q) x || has (without_pair xs k) q) ≡ true) (is_at (pair_cmp q) x) (has xs q)
          (λ one. ap (λ b. b || has (without_pair xs k) q) one) (λ rest. or-true (is_at (pair_cmp q) x) (without-stays k q xs other rest)) there
    ] refl

-- the same without all pairs of a user or a team
pub of-was : (p : Id) (q : Id × Id) (xs : List (Id × Id)) → has (without_gifts_of xs p) q ≡ true → has xs q ≡ true
of-was p q [] there = there
of-was p q (x ∷ xs) there =
    elim (x.0.0 == p.0) as (λ b. has (cond (not b) (x ∷ without_gifts_of xs p) (without_gifts_of xs p)) q ≡ true → (is_at (pair_cmp q) x || has xs q) ≡ true) [
      | true ↦ λ h. or-true (is_at (pair_cmp q) x) (of-was p q xs h)
      | false ↦ λ h. or-cases ((is_at (pair_cmp q) x || has xs q) ≡ true) (is_at (pair_cmp q) x) (has (without_gifts_of xs p) q)
          (λ one. ap (λ b. b || has xs q) one) (λ rest. or-true (is_at (pair_cmp q) x) (of-was p q xs rest)) h
    ] there

pub of-stays : (p : Id) (q : Id × Id) (xs : List (Id × Id)) → (q.0.0 ≡ p.0 → ⊥) → has xs q ≡ true → has (without_gifts_of xs p) q ≡ true
of-stays p q [] other there = there
of-stays p q (x ∷ xs) other there =
    elim (x.0.0 == p.0) as (λ b. (x.0.0 == p.0) ≡ b → has (cond (not b) (x ∷ without_gifts_of xs p) (without_gifts_of xs p)) q ≡ true) [
      | true ↦ λ is. or-cases (has (without_gifts_of xs p) q ≡ true) (is_at (pair_cmp q) x) (has xs q)
          (λ one. absurd (other (ap (λ (y : Id × Id). y.0.0) (is-pair q x one) ∙ eqb-true x.0.0 p.0 is))) (λ rest. of-stays p q xs other rest) there
      | false ↦ λ is. or-cases ((is_at (pair_cmp q) x || has (without_gifts_of xs p) q) ≡ true) (is_at (pair_cmp q) x) (has xs q)
          (λ one. ap (λ b. b || has (without_gifts_of xs p) q) one) (λ rest. or-true (is_at (pair_cmp q) x) (of-stays p q xs other rest)) there
    ] refl

-- a pair that passes, where one does
pub some-pair : (test : Id × Id → Bool) (xs : List (Id × Id)) → list_any test xs ≡ true → (q : Id × Id) × ((has xs q ≡ true) × (test q ≡ true))
some-pair test [] h = absurd (true≢false (sym h))
some-pair test (x ∷ xs) h =
    elim (test x) as (λ b. test x ≡ b → (b || list_any test xs) ≡ true → (q : Id × Id) × (((is_at (pair_cmp q) x || has xs q) ≡ true) × (test q ≡ true))) [
      | true ↦ λ is _h. (x, (ap (λ b. b || has xs x) (own-pair x), is))
      | false ↦ λ is h. let found = some-pair test xs h in (found.0, (or-true (is_at (pair_cmp found.0) x) found.1.0, found.1.1))
    ] refl h

-- a pair that was added is there
pub has-own : (k : Id × Id) (xs : List (Id × Id)) → has (with_pair xs k) k ≡ true
has-own k [] = ap (λ b. b || false) (own-pair k)
has-own k (x ∷ xs) =
    elim (pair_cmp k x) as (λ r. pair_cmp k x ≡ r → has (match_ordering r (k ∷ x ∷ xs) (x ∷ xs) (x ∷ with_pair xs k)) k ≡ true) [
      | Less ↦ λ is. ap (λ b. b || has (x ∷ xs) k) (own-pair k)
      | Equal ↦ λ is. ap (λ r. is_eq r || has xs k) is
      | Greater ↦ λ is. or-true (is_at (pair_cmp k) x) (has-own k xs)
    ] refl

-- at most one pair more
pub length-with : (k : Id × Id) (xs : List (Id × Id)) → length (with_pair xs k) ≤ length xs + 1
length-with k [] = omega arith
length-with k (x ∷ xs) =
    elim (pair_cmp k x) as (λ r. length (match_ordering r (k ∷ x ∷ xs) (x ∷ xs) (x ∷ with_pair xs k)) ≤ suc (length xs) + 1) [
      | Less ↦ omega arith
      | Equal ↦ omega arith
      | Greater ↦ let more = length-with k xs in omega (arith, more)
    ]
