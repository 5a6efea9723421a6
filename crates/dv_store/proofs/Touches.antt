-- The places among the keys that were touched.
use Rattle.std.proofs.Common.{◌≡◌, ℕ, List, [], ◌∷◌, ◌++◌, refl, sym, ap, subst, ◌∙◌, is_some}
use mathlib.Core.Bool.{true≢false}
use Rattle.std.specs.Prelude.{Bool, true, false, cond, ◌||◌, Option, None, Some}
use Rattle.std.specs.List.{AllByRecursion}
use Rattle.std.specs.List.Sorted.{IsStrictlySortedBy}
use Rattle.std.specs.declared.cmp.Ordering.TheVariants.{Less}
use Rattle.std.specs.Ordering.{is_eq}
use Rattle.std.specs.Map.{keys_of}
use denote.Ref.{Bor}
use Rattle.dv_work.specs.Entries.{Ascends, value_at, AreTouched, Tells}
use Rattle.dv_work.specs.History.{History, back_at, seen_by, EachState}
use Rattle.dv_work.proofs.HistoryLaws.{seen_by-back_at, EachState-back_at}
use Rattle.dv_work.proofs.EntryLaws.{Below}
use Rattle.dv_store.specs.declared.item.Item.{Item}
use Rattle.dv_store.specs.declared.keys.Place.{Place}
use Rattle.dv_store.specs.declared.keys.Place.TheVariants.{Row, Grant, Removal, Dirty, Counters}
use Rattle.dv_store.specs.declared.keys.Key.{Key}
use Rattle.dv_store.specs.declared.keys.Key.TheVariants.{At, In}
use Rattle.dv_store.specs.declared.shape.Shape.{Shape}
use Rattle.dv_store.specs.Keys.{key_cmp, place_cmp}
use Rattle.dv_store.specs.Changes.{place_in, places_of, is_told, IsSameAt, AreChanges}
use Rattle.dv_store.specs.Kept.{Cells, at, row_in, grant_in, removal_in, present_in, totals_in, kept_of, IsOrdered}
use Rattle.dv_store.proofs.KeptLaws.{get-rows, get-grants, get-removals, get-dirty}

below_one : (p : Place) (k : Key) (rest : List Place) → key_cmp (At p) k ≡ Less → AllByRecursion (λ q. place_cmp p q ≡ Less) rest → AllByRecursion (λ q. place_cmp p q ≡ Less) (place_in k ++ rest)
below_one p (At q) rest less h = (less, h)
below_one p (In q) rest less h = h

module _ {V : Type 0} where
  below_places : (p : Place) (es : List (Key × V)) → Below key_cmp (At p) (keys_of es) → AllByRecursion (λ q. place_cmp p q ≡ Less) (places_of es)
  below_places p [] h = tt
  below_places p (e ∷ es) h = below_one p e.0 (places_of es) h.0 (below_places p es h.1)

  sorted_one : (k : Key) (es : List (Key × V)) → Below key_cmp k (keys_of es) → IsStrictlySortedBy place_cmp (places_of es) → IsStrictlySortedBy place_cmp (place_in k ++ places_of es)
  unfolding IsStrictlySortedBy
  sorted_one (At p) es below s = (below_places p es below, s)
  sorted_one (In q) es below s = s

  sorted_places : (es : List (Key × V)) → Ascends key_cmp es → IsStrictlySortedBy place_cmp (places_of es)
  unfolding IsStrictlySortedBy
  sorted_places [] s = tt
  sorted_places (e ∷ es) s = sorted_one e.0 es s.0 (sorted_places es s.1)

  Some-or : (b : Bool) (v : V) (x : Option V) → (b || is_some x) ≡ is_some (cond b (Some v) x)
  Some-or true v x = refl
  Some-or false v x = refl

  told_one : (place : Place) (k : Key) (v : V) (rest : List Place) (x : Option V) → is_told rest place ≡ is_some x → is_told (place_in k ++ rest) place ≡ is_some (cond (is_eq (key_cmp (At place) k)) (Some v) x)
  told_one place (At q) v rest x is = ap (λ b. is_eq (place_cmp place q) || b) is ∙ Some-or (is_eq (place_cmp place q)) v x
  told_one place (In q) v rest x is = is

  told_places : (place : Place) (es : List (Key × V)) → is_told (places_of es) place ≡ is_some (value_at key_cmp (At place) es)
  told_places place [] = refl
  told_places place (e ∷ es) = told_one place e.0 e.1 (places_of es) (value_at key_cmp (At place) es) (told_places place es)

-- a place whose cell has what it had
same_at : (shape : Shape) (old new : Cells) → IsOrdered old → IsOrdered new → (place : Place) → at new (At place) ≡ at old (At place) → IsSameAt (kept_of shape old).world (kept_of shape new).world place
same_at shape old new o n (Row key) is = get-rows shape new n.ordered key ∙ ap row_in is ∙ sym (get-rows shape old o.ordered key)
same_at shape old new o n (Grant key) is = get-grants shape new n.ordered key ∙ ap grant_in is ∙ sym (get-grants shape old o.ordered key)
same_at shape old new o n (Removal key) is = get-removals shape new n.ordered key ∙ ap removal_in is ∙ sym (get-removals shape old o.ordered key)
same_at shape old new o n (Dirty key) is = ap is_some (get-dirty shape new n.ordered key ∙ ap present_in is ∙ sym (get-dirty shape old o.ordered key))
same_at shape old new o n Counters is = record {
  version = ap (λ x. (totals_in x).version) is;
  last_id = ap (λ x. (totals_in x).last_id) is;
  floor = ap (λ x. (totals_in x).floor) is;
}

untold : (r : Option (Option (Bor Item))) (had has : Option Item) → Tells r had has → is_some r ≡ false → has ≡ had
untold None had has tells h = tells
untold (Some x) had has tells h = absurd (true≢false h)

pub are_changes : (shape : Shape) (h : History Cells) (mark : ℕ) (touched : List (Key × Option (Bor Item))) → EachState IsOrdered h → Ascends key_cmp touched → AreTouched key_cmp (back_at h mark).present h.present touched
    → AreChanges (back_at (seen_by (kept_of shape) h) mark).present.world (kept_of shape h.present).world (places_of touched)
are_changes shape h mark touched each s are = record {
  once = sorted_places touched s;
  told = λ place h'. subst (λ g. IsSameAt g.present.world (kept_of shape h.present).world place) (seen_by-back_at (kept_of shape) h mark)
      (same_at shape (back_at h mark).present h.present (EachState-back_at IsOrdered h mark each).present each.present place
      (untold (value_at key_cmp (At place) touched) (at (back_at h mark).present (At place)) (at h.present (At place)) (are (At place)) (sym (told_places place touched) ∙ h')));
}
