-- Cells of one kind read as a map.
use Rattle.std.proofs.Common.{◌≡◌, List, [], ◌∷◌, refl, sym, ap, ◌∙◌}
use Rattle.std.specs.Prelude.{Bool, true, false, cond, Option, None, Some}
use Rattle.std.specs.declared.cmp.Ordering.{Ordering}
use Rattle.std.specs.Ordering.{is_eq, eq_by_cmp}
use Rattle.std.specs.Cmp.{IsTotalOrder, Equal-is}
use Rattle.std.specs.List.Sorted.{IsStrictlySortedBy}
use Rattle.std.specs.Map.{keys_of}
use Rattle.std.specs.FinMap as map
use Rattle.std.specs.FinMap.{find}
use Rattle.dv_work.specs.Entries.{Ascends, with_place}
use Rattle.dv_work.proofs.EntryLaws.{Below, below_tied, value_at-below, value_at-with_value, value_at-without_key, Ascends-with_value, Ascends-without_key}
use Rattle.std.specs.BTreeMap.{is_at}
use Rattle.dv_store.specs.declared.item.Item.{Item}
use Rattle.dv_store.specs.declared.keys.Key.{Key}
use Rattle.dv_store.specs.contracts.keys.KeyOrd.TheImpl.Laws.{total-law}
use Rattle.dv_store.specs.Keys.{key_cmp}
use Rattle.dv_store.specs.Kept.{Cells, at, front, picked, with_entry}

pub total : IsTotalOrder key_cmp
total = total-law

-- the first of two, if it is there
abbrev pub either : {X : Type 0} → Option X → Option X → Option X
either None y = y
either (Some x) y = Some x

either-None : {X : Type 0} (x : Option X) → either x None ≡ x
either-None None = refl
either-None (Some x) = refl

-- cells after a change
pub at-with_place : (k : Key) (x : Option Item) (q : Key) (es : Cells) → Ascends key_cmp es → at (with_place key_cmp k x es) q ≡ cond (is_eq (key_cmp q k)) x (at es q)
at-with_place k None q es s = value_at-without_key total k q es s
at-with_place k (Some x) q es s = value_at-with_value total k x q es

pub Ascends-with_place : (k : Key) (x : Option Item) (es : Cells) → Ascends key_cmp es → Ascends key_cmp (with_place key_cmp k x es)
Ascends-with_place k None es s = Ascends-without_key key_cmp (is_at (key_cmp k)) es s
Ascends-with_place k (Some x) es s = Ascends-with_value total k x es s

pub get-with_entry : {K V : Type 0} {R : K → K → Ordering} (o : IsTotalOrder R) (m : map.FinMap R V) (k : K) (v : Option V) (q : K) → map.get (with_entry m k v) q ≡ cond (eq_by_cmp R q k) v (map.get m q)
get-with_entry o m k None q = map.get-remove o m k q
get-with_entry o m k (Some v) q = map.get-insert o m k v q

of-cond : {A B : Type 0} (f : A → B) (b : Bool) (x y : A) → f (cond b x y) ≡ cond b (f x) (f y)
of-cond f true x y = refl
of-cond f false x y = refl

module _ {Q X : Type 0} (R : Q → Q → Ordering) (o : IsTotalOrder R) (exact : map.IsAntisymmetric R)
    (reader : Key → Item → Option (Q × X)) (make : Q → Key) (of : Option Item → Option X)
    (none : of None ≡ None)
    (same : (q p : Q) → key_cmp (make q) (make p) ≡ R q p)
    (reads : (q : Q) (k : Key) (x : Item) (rest : List (Q × X)) → find R q (front (reader k x) rest) ≡ cond (is_eq (key_cmp (make q) k)) (either (of (Some x)) (find R q rest)) (find R q rest)) where
  one : (q : Q) (e : Key × Item) (es : Cells) → Below key_cmp e.0 (keys_of es) → find R q (picked reader es) ≡ of (at es (make q)) → (b : Bool) → is_eq (key_cmp (make q) e.0) ≡ b
      → cond b (either (of (Some e.1)) (find R q (picked reader es))) (find R q (picked reader es)) ≡ of (cond b (Some e.1) (at es (make q)))
  one q e es below is true tied =
      let gone : at es (make q) ≡ None = value_at-below key_cmp (make q) es (below_tied total (make q) e.0 (keys_of es) ((Equal-is _).0 tied) below) in
      ap (either (of (Some e.1))) (is ∙ ap of gone ∙ none) ∙ either-None (of (Some e.1))
  one q e es below is false apart = is

  find-picked : (q : Q) (es : Cells) → Ascends key_cmp es → find R q (picked reader es) ≡ of (at es (make q))
  unfolding IsStrictlySortedBy
  find-picked q [] s = sym none
  find-picked q (e ∷ es) s = reads q e.0 e.1 (picked reader es) ∙ one q e es s.0 (find-picked q es s.1) (is_eq (key_cmp (make q) e.0)) refl

  -- what the map of the cells has
  pub get-picked : (es : Cells) (q : Q) → Ascends key_cmp es → map.get (map.from_entries {R = R} (picked reader es)) q ≡ of (at es (make q))
  get-picked es q s = map.get-from_entries o (picked reader es) q ∙ find-picked q es s

  -- after a change of a cell of the kind, and of another
  pub picked-hit : (p : Q) (x : Option Item) (es : Cells) → Ascends key_cmp es
      → map.from_entries {R = R} (picked reader (with_place key_cmp (make p) x es)) ≡ with_entry (map.from_entries (picked reader es)) p (of x)
  picked-hit p x es s = map.same_map o exact _ _ (λ q.
      get-picked (with_place key_cmp (make p) x es) q (Ascends-with_place (make p) x es s)
      ∙ ap of (at-with_place (make p) x (make q) es s)
      ∙ of-cond of (is_eq (key_cmp (make q) (make p))) x (at es (make q))
      ∙ ap (λ r. cond (is_eq r) (of x) (of (at es (make q)))) (same q p)
      ∙ ap (cond (is_eq (R q p)) (of x)) (sym (get-picked es q s))
      ∙ sym (get-with_entry o (map.from_entries (picked reader es)) p (of x) q))

  pub picked-miss : (k : Key) (x : Option Item) (es : Cells) → Ascends key_cmp es → ((q : Q) → is_eq (key_cmp (make q) k) ≡ false)
      → map.from_entries {R = R} (picked reader (with_place key_cmp k x es)) ≡ map.from_entries (picked reader es)
  picked-miss k x es s apart = map.same_map o exact _ _ (λ q.
      get-picked (with_place key_cmp k x es) q (Ascends-with_place k x es s)
      ∙ ap of (at-with_place k x (make q) es s)
      ∙ ap (λ b. of (cond b x (at es (make q)))) (apart q)
      ∙ sym (get-picked es q s))
