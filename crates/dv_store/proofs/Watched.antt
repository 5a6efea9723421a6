-- The rows that name a parent by a relationship stand in a list.
use Rattle.std.proofs.Common.{◌≡◌, ℕ, zero, suc, List, [], ◌∷◌, refl, sym, ap, ◌∙◌, is_some}
use mathlib.Core.Bool.{true≢false}
use Rattle.std.specs.Prelude.{Bool, true, false, ◌&&◌, ◌||◌, ◌==◌, Option, Some, slice_get}
use Rattle.std.specs.List.{list_any}
use Rattle.std.proofs.lemmas.Bool.{eq-eqb}
use Rattle.std.specs.FinMap as map
use Rattle.dv_value.specs.declared.id.Id.{Id}
use Rattle.dv_store.specs.declared.shape.Link.{Link}
use Rattle.dv_store.specs.declared.shape.Shape.{Shape}
use Rattle.dv_store.specs.Keys.{named_list}
use Rattle.dv_store.specs.World.{names, row_at}
use Rattle.dv_store.specs.Cursors.{owner_place, IsChild, IsNext}
use Rattle.dv_store.specs.Kept.{Kept, is_link, is_watched, IsWell}
use Rattle.dv_store.proofs.Seeks.{IsNext-alike}

or-true : (a : Bool) → (a || true) ≡ true
or-true true = refl
or-true false = refl

same_link : (x y : Link) → Some x ≡ Some y → x ≡ y
same_link x y e = cc

has_link : (links : List Link) (k : ℕ) (link : Link) → slice_get links k ≡ Some link → list_any (is_link link.child link.place) links ≡ true
has_link [] k link is = absurd (true≢false (sym (ap is_some is)))
has_link (l ∷ ls) zero link is =
    let same : l ≡ link = same_link l link is in
    ap (λ x. (is_link link.child link.place x) || list_any (is_link link.child link.place) ls) same
    ∙ ap (λ b. (b && (link.place == link.place)) || list_any (is_link link.child link.place) ls) (eq-eqb link.child link.child refl)
    ∙ ap (λ b. b || list_any (is_link link.child link.place) ls) (eq-eqb link.place link.place refl)
has_link (l ∷ ls) (suc k) link is = ap (λ b. is_link link.child link.place l || b) (has_link ls k link is) ∙ or-true (is_link link.child link.place l)

pub watched_link : (shape : Shape) (k : ℕ) (link : Link) → slice_get shape.links k ≡ Some link → is_watched shape link.child link.place ≡ true
watched_link shape k link is = ap (λ b. (link.place == owner_place) || b) (has_link shape.links k link is) ∙ or-true (link.place == owner_place)

pub next_child : (p : Kept) → IsWell p → (link : Link) (parent : Id) → is_watched p.world.shape link.child link.place ≡ true → (after result : Option Id)
    → IsNext (λ id. map.contains_key p.listed (record { list = named_list link.child link.place parent; id = id }) ≡ true) after result
    → IsNext (IsChild p.world (Some link) parent) after result
next_child p well link parent watched after result next = IsNext-alike _ _
    (λ id there. sym (listed id) ∙ there) (λ id named. listed id ∙ named) after result next
  where
    listed : (id : Id) → map.contains_key p.listed (record { list = named_list link.child link.place parent; id = id }) ≡ names (row_at p.world.rows link.child id) link.place parent
    listed id = well.listed (record { list = named_list link.child link.place parent; id = id }) ∙ ap (λ b. b && names (row_at p.world.rows link.child id) link.place parent) watched
