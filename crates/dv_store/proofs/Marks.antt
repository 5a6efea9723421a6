-- Marks made one by one.
use Rattle.std.proofs.Common.{◌≡◌, ℕ, suc, ◌+◌, ◌<◌, List, [], ◌∷◌, ◌++◌, length, drop, get_or, refl, sym, ap, ◌∙◌, add-one, drop-cons}
use Rattle.std.specs.Prelude.{Bool, true, false, flat_map}
use Rattle.std.specs.declared.cmp.Ordering.{Ordering}
use Rattle.std.specs.FinSet as set
use Rattle.dv_store.specs.declared.keys.DirtyKey.{DirtyKey}
use Rattle.dv_store.specs.declared.keys.Entry.{Entry}
use Rattle.dv_store.specs.declared.keys.Key.TheVariants.{In}
use Rattle.dv_store.specs.Keys.{at_dirty}
use Rattle.dv_store.specs.World.{with_each}
use Rattle.dv_store.specs.Kept.{Kept, kept_with, present_if, with_listed, with_marks}

pub listed_one : (p : Kept) (b : Bool) (e : Entry) → kept_with p (In e) (present_if b) ≡ with_listed p b (e ∷ [])
listed_one p true e = refl
listed_one p false e = refl

pub marked_one : (p : Kept) (b : Bool) (k : DirtyKey) → kept_with p (at_dirty k) (present_if b) ≡ with_marks p b (k ∷ [])
marked_one p true k = refl
marked_one p false k = refl

pub with_each-append : {K : Type 0} {R : K → K → Ordering} (b : Bool) (xs ys : List K) (s : set.FinSet R) → with_each b (xs ++ ys) s ≡ with_each b ys (with_each b xs s)
with_each-append b [] ys s = refl
with_each-append b (x ∷ xs) ys s = with_each-append b xs ys _

-- one more item of a list of what gives marks
pub each_next : {A K : Type 0} {R : K → K → Ordering} (b : Bool) (f : A → List K) (xs : List A) (i : ℕ) (d : A) (s : set.FinSet R) → i < length xs
    → with_each b (flat_map f (drop (i + 1) xs)) (with_each b (f (get_or xs i d)) s) ≡ with_each b (flat_map f (drop i xs)) s
each_next b f xs i d s lt =
    ap (λ n. with_each b (flat_map f (drop n xs)) (with_each b (f (get_or xs i d)) s)) (add-one i)
    ∙ sym (with_each-append b (f (get_or xs i d)) (flat_map f (drop (suc i) xs)) s)
    ∙ ap (λ ys. with_each b (flat_map f ys) s) (sym (drop-cons xs i d lt))

pub listed_more : (p : Kept) (b : Bool) (xs ys : List Entry) → with_listed (with_listed p b xs) b ys ≡ with_listed p b (xs ++ ys)
listed_more p b xs ys = ap (λ s. record p { listed = s }) (sym (with_each-append b xs ys p.listed))

pub marked_more : (p : Kept) (b : Bool) (xs ys : List DirtyKey) → with_marks (with_marks p b xs) b ys ≡ with_marks p b (xs ++ ys)
marked_more p b xs ys = ap (λ s. record p { world = record p.world { dirty = s } }) (sym (with_each-append b xs ys p.world.dirty))
