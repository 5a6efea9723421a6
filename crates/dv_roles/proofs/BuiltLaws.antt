-- The ids and counts of a directory that is made of a part of an opening directory.
use Rattle.std.proofs.Common.{◌≡◌, refl, sym, ap, subst, ◌∙◌, ℕ, suc, ◌+◌, ◌≤◌, List, [], ◌∷◌, ◌++◌, length, map, Bool, true, false, cond, arith, length-append, append_assoc, append-nil}
use Rattle.std.proofs.lemmas.Bool.{true≢false, or_parts, lt-ltb, le-ltb}
use Rattle.std.specs.Prelude.{Option, Some, None, Result, Ok, ◌==◌, ◌||◌, is_some, nat_lt}
use Rattle.std.specs.List.{list_any, enumerate_from}
use Rattle.std.specs.Option.{option_or, option_map_or}
use Rattle.std.specs.Ordering.{nat_cmp, match_ordering}
use Rattle.std.specs.declared.cmp.Ordering.TheVariants.{Less, Equal, Greater}
use Rattle.std.proofs.lemmas.Grind.{common_steps}
use Rattle.dv_value.specs.declared.id.Id.{Id}
use Rattle.dv_refusal.specs.declared.refusal.Refusal.{Refusal}
use Rattle.dv_schema.specs.First.{first_from}
use Rattle.dv_schema.specs.declared.opening.Opening.{Opening}
use Rattle.dv_schema.specs.declared.opening.OpeningTeam.{OpeningTeam}
use Rattle.dv_schema.specs.declared.opening.OpeningUnit.{OpeningUnit}
use Rattle.dv_schema.specs.declared.opening.OpeningUser.{OpeningUser}
use Rattle.dv_schema.specs.declared.opening.Role.{Role}
use Rattle.dv_opening.specs.Opening.{id_place, id_before, made}
use Rattle.dv_roles.specs.declared.role.SecurityRole.{SecurityRole}
use Rattle.dv_units.specs.Chart.{Chart, at, put, is_unit, is_user, is_team}
use Rattle.dv_roles.specs.State.{State}
use Rattle.dv_roles.specs.Seen.{IsSeen}
use Rattle.dv_roles.specs.Beginning.{and_then, each}
use Rattle.dv_roles.proofs.PutLaws.{at-put, eq-swap}

-- ---- an id is before a place where it is among the items before it
late : (n : ℕ) (ids : List ℕ) (q i : ℕ) → n ≤ i → option_map_or (λ j. nat_lt j n) (first_from (λ j y. cond (q == y) (Some j) None) i ids) false ≡ false
unfolding first_from
late n [] q i le = refl
late n (y ∷ ys) q i le =
    elim (q == y) as (λ b. option_map_or (λ j. nat_lt j n) (option_or (cond b (Some i) None) (first_from (λ j z. cond (q == z) (Some j) None) (i + 1) ys)) false ≡ false) [
      | true ↦ le-ltb i n le
      | false ↦ late n ys q (i + 1) (omega (arith, le))
    ]

before-from : {A : Type 0} (f : A → ℕ) (front rest : List A) (q i : ℕ) → option_map_or (λ j. nat_lt j (i + length front)) (first_from (λ j y. cond (q == y) (Some j) None) i (map f (front ++ rest))) false ≡ list_any (λ x. q == f x) front
unfolding first_from
before-from f [] rest q i = late (i + 0) (map f rest) q i (omega arith)
before-from f (x ∷ xs) rest q i =
    elim (q == f x) as (λ b. option_map_or (λ j. nat_lt j (i + suc (length xs))) (option_or (cond b (Some i) None) (first_from (λ j y. cond (q == y) (Some j) None) (i + 1) (map f (xs ++ rest)))) false ≡ (b || list_any (λ y. q == f y) xs)) [
      | true ↦ lt-ltb i (i + suc (length xs)) (omega arith)
      | false ↦ ap (λ n. option_map_or (λ j. nat_lt j n) (first_from (λ j y. cond (q == y) (Some j) None) (i + 1) (map f (xs ++ rest))) false) (moved i (length xs)) ∙ before-from f xs rest q (i + 1)
    ]
  where
    moved : (i n : ℕ) → i + suc n ≡ i + 1 + n
    moved i n = omega arith

pub before-is : {A : Type 0} (f : A → ℕ) (xs front rest : List A) → xs ≡ front ++ rest → (q : ℕ) → id_before (map f xs) (length front) q ≡ list_any (λ x. q == f x) front
unfolding id_place
before-is f xs front rest is q =
    ap (λ ys. option_map_or (λ j. nat_lt j (length front)) (first_from (λ j y. cond (q == y) (Some j) None) 0 (map f ys)) false) is
    ∙ ap (λ n. option_map_or (λ j. nat_lt j n) (first_from (λ j y. cond (q == y) (Some j) None) 0 (map f (front ++ rest))) false) (plus (length front)) ∙ before-from f front rest q 0
  where
    plus : (n : ℕ) → n ≡ 0 + n
    plus n = omega arith

pub any-append : {A : Type 0} (p : A → Bool) (xs : List A) (x : A) → list_any p (xs ++ x ∷ []) ≡ (list_any p xs || p x)
any-append p [] x = or-false (p x)
  where
    or-false : (b : Bool) → (b || false) ≡ b
    or-false true = refl
    or-false false = refl
any-append p (y ∷ ys) x = ap (λ b. p y || b) (any-append p ys x) ∙ assoc (p y) (list_any p ys) (p x)
  where
    assoc : (a b c : Bool) → (a || (b || c)) ≡ ((a || b) || c)
    assoc true b c = refl
    assoc false b c = refl

-- the part of an opening directory that a directory is made of
pub record IsBuilt (o : Opening) (c : Chart) (kept : List (Id × SecurityRole)) (us : List OpeningUnit) (rs : List Role) (ss : List OpeningUser) (ts : List OpeningTeam) : Type 0 where
  pub unit : (id : Id) → is_unit c id ≡ ((id.0 == o.root.0) || list_any (λ x. id.0 == x.id.0) us)
  pub user : (id : Id) → is_user c id ≡ ((id.0 == o.admin.0) || list_any (λ x. id.0 == x.id.0) ss)
  pub team : (id : Id) → is_team c id ≡ list_any (λ x. id.0 == x.id.0) ts
  pub role : (id : Id) → is_some (at kept id) ≡ list_any (λ x. id.0 == x.id.0) rs
  pub units : length c.units ≡ length us + 1
  pub users : length c.users ≡ length ss + 1
  pub teams : length c.teams ≡ length ts
  pub roles : length kept ≡ length rs

pub built-seen : (o : Opening) (d : State) (us us' : List OpeningUnit) (rs rs' : List Role) (ss ss' : List OpeningUser) (ts ts' : List OpeningTeam) → IsBuilt o d.chart d.roles us rs ss ts
    → o.units ≡ us ++ us' → o.roles ≡ rs ++ rs' → o.users ≡ ss ++ ss' → o.teams ≡ ts ++ ts' → IsSeen d (made o (length us) (length ss) (length ts) (length rs))
built-seen o d us us' rs rs' ss ss' ts ts' b u r s t = record {
  unit = λ id. ap (λ x. (id.0 == o.root.0) || x) (before-is (λ (x : OpeningUnit). x.id.0) o.units us us' u id.0) ∙ sym (b.unit id);
  user = λ id. ap (λ x. (id.0 == o.admin.0) || x) (before-is (λ (x : OpeningUser). x.id.0) o.users ss ss' s id.0) ∙ sym (b.user id);
  team = λ id. before-is (λ (x : OpeningTeam). x.id.0) o.teams ts ts' t id.0 ∙ sym (b.team id);
  role = λ id. before-is (λ (x : Role). x.id.0) o.roles rs rs' r id.0 ∙ sym (b.role id);
  units = sym b.units;
  users = sym b.users;
  teams = sym b.teams;
  roles = sym b.roles;
}

-- ---- one more of each
pub there-put : {V : Type 0} (id : Id) (v : V) (es : List (Id × V)) (q : Id) → is_some (at (put es id v) q) ≡ (is_some (at es q) || (q.0 == id.0))
there-put id v es q = ap is_some (at-put id v es q) ∙ ap (λ b. is_some (cond b (Some v) (at es q))) (eq-swap id.0 q.0) ∙ bits (q.0 == id.0) (at es q)
  where
    bits : (b : Bool) (o : Option _) → is_some (cond b (Some v) o) ≡ (is_some o || b)
    bits true None = refl
    bits true (Some x) = refl
    bits false None = refl
    bits false (Some x) = refl

pub length-put : {V : Type 0} (id : Id) (v : V) (es : List (Id × V)) → is_some (at es id) ≡ false → length (put es id v) ≡ length es + 1
length-put id v [] none = refl
length-put id v (e ∷ es) none =
    elim (nat_cmp id.0 e.0.0) as (λ r. nat_cmp id.0 e.0.0 ≡ r → length (match_ordering r ((id, v) ∷ e ∷ es) ((e.0, v) ∷ es) (e ∷ put es id v)) ≡ suc (length es) + 1) [
      | Less ↦ λ is. omega arith
      | Equal ↦ λ is. absurd (true≢false (sym (rw (same is) refl) ∙ none))
      | Greater ↦ λ is. let more = length-put id v es (rest (id.0 == e.0.0) none) in omega (arith, more)
    ] refl
  where
    same : nat_cmp id.0 e.0.0 ≡ Equal → (id.0 == e.0.0) ≡ true
    same is = grind (arith, common_steps)

    rest : (b : Bool) → is_some (cond b (Some e.1) (at es id)) ≡ false → is_some (at es id) ≡ false
    rest true h = absurd (true≢false h)
    rest false h = h

-- ---- steps for the items of a list, none of which is refused
pub walk : {A : Type 0} (step : State → A → Result State Refusal) (P : List A → State → Type 0) (bad : ℕ × A → Bool) (xs : List A)
    → ((front : List A) (x : A) (rest : List A) → xs ≡ front ++ x ∷ rest → (d : State) → P front d → bad (length front, x) ≡ false → (e : State) × ((step d x ≡ Ok e) × P (front ++ x ∷ []) e))
    → (front rest : List A) → xs ≡ front ++ rest → list_any bad (enumerate_from (length front) rest) ≡ false → (d : State) → P front d → (e : State) × ((each step d rest ≡ Ok e) × P xs e)
unfolding each
walk step P bad xs one front [] is good d p = (d, (refl, subst (λ ys. P ys d) (sym (is ∙ append-nil front)) p))
walk step P bad xs one front (x ∷ rest) is good d p =
    let parts = or_parts (bad (length front, x)) (list_any bad (enumerate_from (length front + 1) rest)) good in
    let next = one front x rest is d p parts.0 in
    let on = walk step P bad xs one (front ++ x ∷ []) rest (is ∙ sym (append_assoc front (x ∷ []) rest)) (ap (λ n. list_any bad (enumerate_from n rest)) (length-append front (x ∷ [])) ∙ parts.1) next.0 next.1.1 in
    (on.0, (ap (λ r. and_then r (λ e. each step e rest)) next.1.0 ∙ on.1.0, on.1.1))
