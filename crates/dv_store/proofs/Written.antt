-- A change of one cell, seen as what it makes of what is kept.
use Rattle.std.proofs.Common.{◌≡◌, sym, ap, subst, ◌∙◌, Result, Ok, Err}
use Rattle.std.specs.Prelude.{OnOk, OnErr, Option}
use Rattle.dv_work.specs.Entries.{with_place}
use Rattle.dv_work.specs.History.{History, with_present, with_state, seen_by, EachState}
use Rattle.dv_work.proofs.HistoryLaws.{seen_by-with_state, EachState-with_state}
use Rattle.dv_store.specs.declared.item.Item.{Item}
use Rattle.dv_store.specs.declared.keys.Key.{Key}
use Rattle.dv_store.specs.declared.shape.Shape.{Shape}
use Rattle.dv_store.specs.Keys.{key_cmp}
use Rattle.dv_store.specs.Kept.{Cells, kept_of, kept_with, IsOf, IsOrdered}
use Rattle.dv_store.proofs.KeptLaws.{kept_of-with_place, IsOrdered-with_place}

pub on_both : {V E : Type 0} (r : Result V E) {P Q G : Type 0} → OnOk r P → OnErr r Q → (P → G) → (Q → G) → G
on_both (Ok v) p q f g = f p
on_both (Err e) p q f g = g q

pub on_ok : {V E : Type 0} (r : Result V E) {P G : Type 0} → OnOk r P → (P → G) → OnOk r G
on_ok (Ok v) p f = f p
on_ok (Err e) p f = tt

pub on_err : {V E : Type 0} (r : Result V E) {P G : Type 0} → OnErr r P → (P → G) → OnErr r G
on_err (Ok v) p f = tt
on_err (Err e) p f = f p

module _ (shape : Shape) (h new : History Cells) (k : Key) (x : Option Item) (ordered : EachState IsOrdered h) where
  pub seen-amended : new ≡ with_present h (with_place key_cmp k x h.present) → seen_by (kept_of shape) new ≡ with_present (seen_by (kept_of shape) h) (kept_with (kept_of shape h.present) k x)
  seen-amended is = ap (seen_by (kept_of shape)) is ∙ ap (with_present (seen_by (kept_of shape) h)) (kept_of-with_place shape h.present ordered.present.ordered k x)

  pub ordered-amended : IsOf k x → new ≡ with_present h (with_place key_cmp k x h.present) → EachState IsOrdered new
  ordered-amended kind is = subst (EachState IsOrdered) (sym is) (record { present = IsOrdered-with_place k x h.present kind ordered.present; earlier = ordered.earlier })

  pub seen-begun : new ≡ with_state h (with_place key_cmp k x h.present) → seen_by (kept_of shape) new ≡ with_state (seen_by (kept_of shape) h) (kept_with (kept_of shape h.present) k x)
  seen-begun is = ap (seen_by (kept_of shape)) is ∙ seen_by-with_state (kept_of shape) h (with_place key_cmp k x h.present) ∙ ap (with_state (seen_by (kept_of shape) h)) (kept_of-with_place shape h.present ordered.present.ordered k x)

  pub ordered-begun : IsOf k x → new ≡ with_state h (with_place key_cmp k x h.present) → EachState IsOrdered new
  ordered-begun kind is = subst (EachState IsOrdered) (sym is) (EachState-with_state IsOrdered h (with_place key_cmp k x h.present) ordered (IsOrdered-with_place k x h.present kind ordered.present))
