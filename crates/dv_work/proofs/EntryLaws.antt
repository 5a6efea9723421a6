-- Entries by ascending keys: what stands at each key after a value was put or a key taken out, and which entry is first.
use Rattle.std.proofs.Common.{◌≡◌, List, [], ◌∷◌, refl, sym, ap, subst, ◌∙◌, IsSome}
use mathlib.Core.Bool.{true≢false}
use Rattle.std.specs.Prelude.{Option, None, Some, Bool, true, false, cond, is_some, find}
use Rattle.std.specs.declared.cmp.Ordering.{Ordering}
use Rattle.std.specs.declared.cmp.Ordering.TheVariants.{Less, Equal, Greater}
use Rattle.std.specs.Ordering.{is_eq, is_gt, match_ordering, ordering_reverse}
use Rattle.std.specs.Cmp.{IsTotalOrder, tied_itself, alike_right, eq_by_cmp_equiv, Equal-is}
use Rattle.std.proofs.lemmas.Map.{lookup-remove_entry}
use Rattle.std.proofs.lemmas.Map.Keys.{IsDistinct-from_sorted}
use Rattle.std.specs.List.{AllByRecursion}
use Rattle.std.specs.List.Sorted.{IsStrictlySortedBy}
use Rattle.std.specs.Map.{keys_of, lookup, remove_entry}
use Rattle.std.specs.BTreeMap.{insert_entry, is_at}
use Rattle.std.proofs.lemmas.Map.Lookups.{CmpEqualImpliesEq}

-- a key below all of these
abbrev pub Below : {K : Type 0} → (K → K → Ordering) → K → List K → Type 0
Below R k ks = AllByRecursion (λ y. R k y ≡ Less) ks

module _ {K : Type 0} {R : K → K → Ordering} (o : IsTotalOrder R) where
  pub below_past : (k x : K) (ys : List K) → R k x ≡ Less → Below R x ys → Below R k ys
  below_past k x [] lt h = tt
  below_past k x (y ∷ ys) lt h = (o.trans k x y lt h.0, below_past k x ys lt h.1)

  pub below_tied : (k x : K) (ys : List K) → R k x ≡ Equal → Below R x ys → Below R k ys
  below_tied k x [] tied h = tt
  below_tied k x (y ∷ ys) tied h = (o.congr k x y tied ∙ h.0, below_tied k x ys tied h.1)

once : {X : Type 0} (b : Bool) (x y z : X) → cond b x z ≡ cond b x (cond b y z)
once true x y z = refl
once false x y z = refl

swapped : {X : Type 0} (a b : Bool) (x y z : X) → (a ≡ true → b ≡ false) → cond a x (cond b y z) ≡ cond b y (cond a x z)
swapped true true x y z h = absurd (true≢false (h refl))
swapped true false x y z h = refl
swapped false b x y z h = refl

pub without_key-missing : {K X : Type 0} (test : K → Bool) (es : List (K × X)) → lookup test es ≡ None → remove_entry test es ≡ es
without_key-missing test [] h = refl
without_key-missing test (e ∷ es) h =
    elim (test e.0) as (λ b. cond b (Some e.1) (lookup test es) ≡ None → cond b es (e ∷ remove_entry test es) ≡ e ∷ es) [
      | true ↦ λ h. absurd (true≢false (ap is_some h))
      | false ↦ λ h. ap (λ rest. e ∷ rest) (without_key-missing test es h)
    ] h

module _ {K X : Type 0} (R : K → K → Ordering) where
  pub value_at-below : (k : K) (es : List (K × X)) → Below R k (keys_of es) → lookup (is_at (R k)) es ≡ None
  value_at-below k [] h = refl
  value_at-below k (e ∷ es) h = rw h.0 (value_at-below k es h.1)

  pub with_value-below : (k : K) (x : X) (es : List (K × X)) → Below R k (keys_of es) → insert_entry R es k x ≡ (k, x) ∷ es
  with_value-below k x [] h = refl
  with_value-below k x (e ∷ es) h = rw h.0 refl

  pub without_key-below : (k : K) (es : List (K × X)) → Below R k (keys_of es) → remove_entry (is_at (R k)) es ≡ es
  without_key-below k [] h = refl
  without_key-below k (e ∷ es) h = rw h.0 (ap (λ rest. e ∷ rest) (without_key-below k es h.1))

module _ {K : Type 0} {R : K → K → Ordering} (o : IsTotalOrder R) where
  apart : (q k x : K) → R k x ≡ Greater → is_eq (R q x) ≡ true → is_eq (R q k) ≡ false
  apart q k x h is = elim (R q k) as (λ r. R q k ≡ r → is_eq r ≡ false) [
    | Less ↦ λ t. refl
    | Equal ↦ λ t. absurd (true≢false (sym is ∙ ap is_eq (o.congr q k x t ∙ h)))
    | Greater ↦ λ t. refl
  ] refl

module _ {K X : Type 0} {R : K → K → Ordering} (o : IsTotalOrder R) where
  -- what was inserted is there
  pub value_at-with_value_same : (k : K) (x : X) (es : List (K × X)) → lookup (is_at (R k)) (insert_entry R es k x) ≡ Some x
  value_at-with_value_same k x [] = rw (tied_itself o k) refl
  value_at-with_value_same k x (e ∷ es) =
      elim (R k e.0) as (λ r. R k e.0 ≡ r → lookup (is_at (R k)) (insert_entry R (e ∷ es) k x) ≡ Some x) [
        | Less ↦ λ h. rw (h, tied_itself o k) refl
        | Equal ↦ λ h. rw (h, h) refl
        | Greater ↦ λ h. rw (h, h) (value_at-with_value_same k x es)
      ] refl

  -- what is at each key after an insertion, and after a removal
  pub value_at-with_value : (k : K) (x : X) (q : K) (es : List (K × X)) → lookup (is_at (R q)) (insert_entry R es k x) ≡ cond (is_eq (R q k)) (Some x) (lookup (is_at (R q)) es)
  value_at-with_value k x q [] = refl
  value_at-with_value k x q (e ∷ es) =
      elim (R k e.0) as (λ r. R k e.0 ≡ r → lookup (is_at (R q)) (insert_entry R (e ∷ es) k x) ≡ cond (is_eq (R q k)) (Some x) (lookup (is_at (R q)) (e ∷ es))) [
        | Less ↦ λ h. rw h refl
        | Equal ↦ λ h. rw (h, alike_right o k e.0 q h) (once (is_eq (R q e.0)) (Some x) (Some e.1) (lookup (is_at (R q)) es))
        | Greater ↦ λ h. rw (h, value_at-with_value k x q es) (swapped (is_eq (R q e.0)) (is_eq (R q k)) (Some e.1) (Some x) (lookup (is_at (R q)) es) (apart o q k e.0 h))
      ] refl

  pub value_at-without_key : (k q : K) (es : List (K × X)) → IsStrictlySortedBy R (keys_of es) → lookup (is_at (R q)) (remove_entry (is_at (R k)) es) ≡ cond (is_eq (R q k)) None (lookup (is_at (R q)) es)
  value_at-without_key k q es s =
      lookup-remove_entry (eq_by_cmp_equiv o) (is_at (R k)) (λ x y is. ap is_eq (o.congr k x y ((Equal-is (R k x)).0 is))) q es (IsDistinct-from_sorted R (keys_of es) s)
      ∙ ap (λ b. cond b None (lookup (is_at (R q)) es)) ((eq_by_cmp_equiv o).symm k q)

  -- keys above a key
  above : (x q : K) (es : List (K × X)) → Below R x (keys_of es) → IsSome (lookup (is_at (R q)) es) → R x q ≡ Less
  above x q [] below is = absurd (true≢false (sym is))
  above x q (e ∷ es) below is =
      elim (R q e.0) as (λ r. R q e.0 ≡ r → is_some (cond (is_eq r) (Some e.1) (lookup (is_at (R q)) es)) ≡ true → R x q ≡ Less) [
        | Less ↦ λ h is. above x q es below.1 is
        | Equal ↦ λ h is. alike_right o q e.0 x h ∙ below.0
        | Greater ↦ λ h is. above x q es below.1 is
      ] refl is

-- the keys still ascend after a removal, and after an insertion
module _ {K X : Type 0} (R : K → K → Ordering) (test : K → Bool) where
  below-without_key : (k : K) (es : List (K × X)) → Below R k (keys_of es) → Below R k (keys_of (remove_entry test es))
  below-without_key k [] h = tt
  below-without_key k (e ∷ es) h = elim (test e.0) as (λ b. Below R k (keys_of (cond b es (e ∷ remove_entry test es)))) [ true ↦ h.1 | false ↦ (h.0, below-without_key k es h.1) ]

  pub Ascends-without_key : (es : List (K × X)) → IsStrictlySortedBy R (keys_of es) → IsStrictlySortedBy R (keys_of (remove_entry test es))
  unfolding IsStrictlySortedBy
  Ascends-without_key [] s = tt
  Ascends-without_key (e ∷ es) s = elim (test e.0) as (λ b. IsStrictlySortedBy R (keys_of (cond b es (e ∷ remove_entry test es)))) [ true ↦ s.1 | false ↦ (below-without_key e.0 es s.0, Ascends-without_key es s.1) ]

module _ {K X : Type 0} {R : K → K → Ordering} (o : IsTotalOrder R) where
  below-with_value : (a k : K) (x : X) (es : List (K × X)) → R a k ≡ Less → Below R a (keys_of es) → Below R a (keys_of (insert_entry R es k x))
  below-with_value a k x [] lt h = (lt, tt)
  below-with_value a k x (e ∷ es) lt h = elim (R k e.0) as (λ r. Below R a (keys_of (match_ordering r ((k, x) ∷ e ∷ es) ((e.0, x) ∷ es) (e ∷ insert_entry R es k x)))) [ Less ↦ (lt, h) | Equal ↦ h | Greater ↦ (h.0, below-with_value a k x es lt h.1) ]

  pub Ascends-with_value : (k : K) (x : X) (es : List (K × X)) → IsStrictlySortedBy R (keys_of es) → IsStrictlySortedBy R (keys_of (insert_entry R es k x))
  unfolding IsStrictlySortedBy
  Ascends-with_value k x [] s = (tt, tt)
  Ascends-with_value k x (e ∷ es) s = elim (R k e.0) as (λ r. R k e.0 ≡ r → IsStrictlySortedBy R (keys_of (match_ordering r ((k, x) ∷ e ∷ es) ((e.0, x) ∷ es) (e ∷ insert_entry R es k x)))) [
    | Less ↦ λ h. ((h, below_past o k e.0 (keys_of es) h s.0), s)
    | Equal ↦ λ h. s
    | Greater ↦ λ h. (below-with_value e.0 k x es (o.antisymm e.0 k ∙ ap ordering_reverse h) s.0, Ascends-with_value k x es s.1)
  ] refl

-- the first entry whose key passes a test is the least of those
module _ {K X : Type 0} {R : K → K → Ordering} (o : IsTotalOrder R) (exact : CmpEqualImpliesEq R) (test : K → Bool) where
  pub record IsFirst (es : List (K × X)) (e : K × X) : Type 0 where
    pub passes : test e.0 ≡ true
    pub there : lookup (is_at (R e.0)) es ≡ Some e.1
    pub least : (q : K) → IsSome (lookup (is_at (R q)) es) → test q ≡ true → is_gt (R e.0 q) ≡ false

  -- what a search for the first one says
  abbrev pub Found : List (K × X) → Option (K × X) → Type 0
  Found es None = (q : K) → IsSome (lookup (is_at (R q)) es) → test q ≡ false
  Found es (Some e) = IsFirst es e

  -- one more entry in front, which passes or not
  found_here : (e : K × X) (es : List (K × X)) → Below R e.0 (keys_of es) → test e.0 ≡ true → IsFirst (e ∷ es) e
  found_here e es below pass = record {
    passes = pass;
    there = rw (tied_itself o e.0) refl;
    least = λ q is t. elim (R q e.0) as (λ r. R q e.0 ≡ r → is_some (cond (is_eq r) (Some e.1) (lookup (is_at (R q)) es)) ≡ true → is_gt (R e.0 q) ≡ false) [
      | Less ↦ λ h is. ap is_gt (above o e.0 q es below is)
      | Equal ↦ λ h is. ap is_gt (o.antisymm e.0 q ∙ ap ordering_reverse h)
      | Greater ↦ λ h is. ap is_gt (above o e.0 q es below is)
    ] refl is;
  }

  -- a key that passes is not the one in front
  further : (e : K × X) (es : List (K × X)) (q : K) → test e.0 ≡ false → test q ≡ true → is_eq (R q e.0) ≡ false
  further e es q fail t = elim (R q e.0) as (λ r. R q e.0 ≡ r → is_eq r ≡ false) [
    | Less ↦ λ h. refl
    | Equal ↦ λ h. absurd (true≢false (sym t ∙ ap test (exact q e.0 h) ∙ fail))
    | Greater ↦ λ h. refl
  ] refl

  found_past : (e : K × X) (es : List (K × X)) (r : Option (K × X)) → test e.0 ≡ false → Found es r → Found (e ∷ es) r
  found_past e es None fail none = λ q is. elim (test q) as (λ b. test q ≡ b → b ≡ false) [
    | true ↦ λ t. absurd (true≢false (sym t ∙ none q (subst (λ b. is_some (cond b (Some e.1) (lookup (is_at (R q)) es)) ≡ true) (further e es q fail t) is)))
    | false ↦ λ t. refl
  ] refl
  found_past e es (Some x) fail first = record {
    passes = first.passes;
    there = rw (further e es x.0 fail first.passes) first.there;
    least = λ q is t. first.least q (subst (λ b. is_some (cond b (Some e.1) (lookup (is_at (R q)) es)) ≡ true) (further e es q fail t) is) t;
  }

  pub first_from-Found : (es : List (K × X)) → IsStrictlySortedBy R (keys_of es) → Found es (find (λ e. test e.0) es)
  unfolding IsStrictlySortedBy
  first_from-Found [] s = λ q is. absurd (true≢false (sym is))
  first_from-Found (e ∷ es) s = elim (test e.0) as (λ b. test e.0 ≡ b → Found (e ∷ es) (cond b (Some e) (find (λ x. test x.0) es))) [
    | true ↦ λ pass. found_here e es s.0 pass
    | false ↦ λ fail. found_past e es (find (λ x. test x.0) es) fail (first_from-Found es s.1)
  ] refl
