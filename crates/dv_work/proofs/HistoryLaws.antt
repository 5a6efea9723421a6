-- Histories that go on, and go back.
use Rattle.std.proofs.Common.{◌≡◌, ℕ, zero, suc, ◌<◌, ◌≤◌, List, [], ◌∷◌, ◌++◌, length, take, refl, ◌∙◌, arith, get_or, length-append, append-nil}
use Rattle.std.specs.Prelude.{Bool, true, false, cond}
use Rattle.std.proofs.lemmas.List.{get_or_past, get_or_default, take-append-le, take_all, take-map, map-append}
use Rattle.std.proofs.Math.Seq.{get_or-append_seam, take-nil}
use Rattle.std.proofs.Math.ListN.{get_or-append, get_or-map}
use Rattle.std.proofs.lemmas.Grind.{common_steps}
use Rattle.std.specs.List.{AllByRecursion}
use Rattle.dv_work.specs.History.{History, with_state, back_at, seen_by, Extends, EachState}

module _ {A : Type 0} where
  -- a list with one more item
  get_or-more : (xs : List A) (x y : A) (i : ℕ) → i ≤ length xs → get_or (xs ++ x ∷ []) i y ≡ get_or xs i x
  get_or-more xs x y i le = grind (arith, common_steps, get_or_past xs i x, get_or-append_seam xs x [] y, get_or-append xs (x ∷ []) y i)

  -- a mark of a state before the last change stays what it is where that change is back_at
  pub back_at-undone : (kept : Bool) (xs : List A) (x now : A) (mark : ℕ) → mark < length (xs ++ cond kept (x ∷ []) []) → back_at (record { present = now; earlier = xs ++ cond kept (x ∷ []) [] }) mark ≡ back_at (record { present = x; earlier = xs }) mark
  back_at-undone true xs x now mark lt =
      let le : mark ≤ length xs = omega (arith, lt, length-append xs (x ∷ [])) in
      rw (get_or-more xs x now mark le, take-append-le) refl
  back_at-undone false xs x now mark lt =
      let short : mark < length xs = omega (arith, lt, length-append xs []) in
      rw (append-nil, get_or_default xs mark now x short) refl

  -- the mark of the present state
  pub back_at-present : (h : History A) (mark : ℕ) → mark ≡ length h.earlier → back_at h mark ≡ h
  back_at-present h mark is = rw (is, get_or_past h.earlier (length h.earlier) h.present (omega arith), take_all (length h.earlier) h.earlier (omega arith)) refl

  pub Extends-refl : (h : History A) → Extends h h
  Extends-refl h = record { longer = omega arith; back = λ mark le. refl }

  pub Extends-trans : (a b c : History A) → Extends a b → Extends b c → Extends a c
  Extends-trans a b c p q = record {
    longer = omega (arith, p.longer, q.longer);
    back = λ mark le. let le' : mark ≤ length b.earlier = omega (arith, p.longer) in q.back mark le' ∙ p.back mark le;
  }

  -- whatever was done since the present state was kept
  pub Extends-kept : (h new : History A) → new.earlier ≡ h.earlier ++ h.present ∷ [] → Extends h new
  Extends-kept h new is = record {
    longer = rw is (omega (arith, length-append h.earlier (h.present ∷ [])));
    back = λ mark le. rw is (back_at-undone true h.earlier h.present new.present mark (omega (arith, length-append h.earlier (h.present ∷ []))));
  }

  -- undoing to the mark of a start brings all of the start back
  pub back_at-Extends : (old mid : History A) (mark : ℕ) → mark ≡ length old.earlier → Extends old mid → back_at mid mark ≡ old
  back_at-Extends old mid mark is e = e.back mark (omega (arith, is)) ∙ back_at-present old mark is

-- what is seen of a history goes back with it
pub seen_by-back_at : {A B : Type 0} (f : A → B) (h : History A) (mark : ℕ) → seen_by f (back_at h mark) ≡ back_at (seen_by f h) mark
seen_by-back_at f h mark = rw (get_or-map f h.earlier mark h.present, take-map f mark h.earlier) refl

pub seen_by-with_state : {A B : Type 0} (f : A → B) (h : History A) (now : A) → seen_by f (with_state h now) ≡ with_state (seen_by f h) (f now)
seen_by-with_state f h now = rw (map-append f h.earlier (h.present ∷ [])) refl

module _ {A : Type 0} (P : A → Type 0) where
  all-take : (xs : List A) (n : ℕ) → AllByRecursion P xs → AllByRecursion P (take n xs)
  all-take [] n h = rw (take-nil {A = A} n) tt
  all-take (x ∷ xs) zero h = tt
  all-take (x ∷ xs) (suc n) h = (h.0, all-take xs n h.1)

  all-get_or : (xs : List A) (n : ℕ) (d : A) → AllByRecursion P xs → P d → P (get_or xs n d)
  all-get_or [] n d h p = p
  all-get_or (x ∷ xs) zero d h p = h.0
  all-get_or (x ∷ xs) (suc n) d h p = all-get_or xs n d h.1 p

  all-push : (xs : List A) (x : A) → AllByRecursion P xs → P x → AllByRecursion P (xs ++ x ∷ [])
  all-push [] x h p = (p, tt)
  all-push (y ∷ ys) x h p = (h.0, all-push ys x h.1 p)

  pub EachState-back_at : (h : History A) (mark : ℕ) → EachState P h → EachState P (back_at h mark)
  EachState-back_at h mark e = record { present = all-get_or h.earlier mark h.present e.earlier e.present; earlier = all-take h.earlier mark e.earlier }

  pub EachState-with_state : (h : History A) (now : A) → EachState P h → P now → EachState P (with_state h now)
  EachState-with_state h now e p = record { present = p; earlier = all-push h.earlier h.present e.earlier e.present }
