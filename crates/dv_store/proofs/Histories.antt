-- States that were kept, and the ways back to them.
use Rattle.std.proofs.Common.{◌≡◌, [], ◌∷◌, ◌++◌, length, refl, sym, ap, subst, ◌∙◌, arith}
use Rattle.dv_work.specs.History.{History, back_at, with_state, seen_by, EachState}
use Rattle.dv_work.proofs.HistoryLaws.{back_at-present, Extends-kept, seen_by-with_state, EachState-with_state}
use Rattle.dv_store.specs.World.{World}
use Rattle.dv_store.specs.Kept.{Kept, world_in, IsWell, Moves}

-- nothing was done
pub back_here : {A : Type 0} (h : History A) → back_at h (length h.earlier) ≡ h
back_here h = back_at-present h (length h.earlier) refl

-- whatever was done since the present state was kept
pub back_begun : {A : Type 0} (h new : History A) → new.earlier ≡ h.earlier ++ h.present ∷ [] → back_at new (length h.earlier) ≡ h
back_begun h new is = (Extends-kept h new is).back (length h.earlier) (omega arith) ∙ back_here h

-- a history with one more state, given by its parts
pub is_with_state : {A : Type 0} (h new : History A) → new.earlier ≡ h.earlier ++ h.present ∷ [] → new ≡ with_state h new.present
is_with_state h new is = λ j. record { present = new.present; earlier = is j }

-- what is seen of a move, and that it keeps the store right
pub seen_by-Moves : (old new : History Kept) (w : World) → Moves old new w → seen_by world_in new ≡ with_state (seen_by world_in old) w
seen_by-Moves old new w m =
    ap (seen_by world_in) (is_with_state old new m.earlier) ∙ seen_by-with_state world_in old new.present ∙ ap (with_state (seen_by world_in old)) m.world

pub EachState-Moves : (old new : History Kept) (w : World) → EachState IsWell old → Moves old new w → EachState IsWell new
EachState-Moves old new w each m = subst (EachState IsWell) (sym (is_with_state old new m.earlier)) (EachState-with_state IsWell old new.present each m.well)
