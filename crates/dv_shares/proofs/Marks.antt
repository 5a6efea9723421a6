-- Marks stay good while a store goes on.
use Rattle.std.proofs.Common.{◌≡◌, ℕ, ◌≤◌, List, [], ◌∷◌, ◌++◌, length, refl, ◌∙◌, arith, get_or, length-append}
use Rattle.std.proofs.lemmas.List.{get_or_past, take-append-le, take_all}
use Rattle.std.proofs.Math.Seq.{get_or-append_seam}
use Rattle.std.proofs.Math.ListN.{get_or-append}
use Rattle.std.proofs.lemmas.Grind.{common_steps}
use Rattle.dv_work.specs.History.{History, with_state, back_at, Extends}
use Rattle.dv_store.specs.World.{World}
use Rattle.dv_shares.specs.Outcome.{Makes}

get_or-more : (xs : List World) (x y : World) (i : ℕ) → i ≤ length xs → get_or (xs ++ x ∷ []) i y ≡ get_or xs i x
get_or-more xs x y i le = grind (arith, common_steps, get_or_past xs i x, get_or-append_seam xs x [] y, get_or-append xs (x ∷ []) y i)

pub extends-same : (h : History World) → Extends h h
extends-same h = record { longer = omega arith; back = λ mark le. refl }

extends-state : (h : History World) (w : World) → Extends h (with_state h w)
extends-state h w = record {
  longer = omega (arith, length-append h.earlier (h.present ∷ []));
  back = λ mark le. rw (get_or-more h.earlier h.present w mark le, take-append-le) refl;
}

pub extends-on : (a b c : History World) → Extends a b → Extends b c → Extends a c
extends-on a b c p q = record {
  longer = omega (arith, p.longer, q.longer);
  back = λ mark le. let le' : mark ≤ length b.earlier = omega (arith, p.longer) in q.back mark le' ∙ p.back mark le;
}

-- undoing to the start brings all of it back
pub back-to_start : (start now : History World) (mark : ℕ) → mark ≡ length start.earlier → Extends start now → back_at now mark ≡ start
back-to_start start now mark is e =
    e.back mark (omega (arith, is))
    ∙ rw (is, get_or_past start.earlier (length start.earlier) start.present (omega arith), take_all (length start.earlier) start.earlier (omega arith)) refl

pub makes-same : (h : History World) → Makes h h h.present
makes-same h = record { present = refl; extends = extends-same h }

pub makes-state : (h new : History World) (w : World) → new ≡ with_state h w → Makes h new w
makes-state h new w is = rw is (record { present = refl; extends = extends-state h w })

-- one world after another
pub makes-on : (a b c : History World) (u v : World) → Makes a b u → Makes b c v → Makes a c v
makes-on a b c u v p q = record { present = q.present; extends = extends-on a b c p.extends q.extends }
