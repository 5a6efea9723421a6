-- What the heirs of a moved row inherit in turn is what each has to inherit.
use Rattle.std.proofs.Common.{◌≡◌, ◌↔◌, refl, sym, ap, subst, ◌∙◌, ℕ, ◌⊎◌, inl, inr, Bool, true, false, List, [], ◌∷◌, ◌++◌}
use Rattle.std.proofs.lemmas.Bool.{true≢false}
use Rattle.std.proofs.lemmas.List.{append-nil, append_assoc}
use Rattle.std.proofs.lemmas.List.Folds.{list_any-append}
use Rattle.std.specs.Prelude.{◌&&◌, ◌||◌, cond, Option, None, Some, IsTrue, bit_or, map}
use Rattle.std.specs.List.{list_all}
use Rattle.std.specs.FinMap as fin
use Rattle.dv_value.specs.declared.id.Id.{Id}
use Rattle.dv_schema.specs.declared.definition.Definition.{Definition}
use Rattle.dv_store.specs.declared.keys.GrantKey.{GrantKey}
use Rattle.dv_store.specs.declared.keys.RowKey.{RowKey}
use Rattle.dv_store.specs.Keys.{is_row}
use Rattle.dv_store.specs.Shapes.{is_owned}
use Rattle.dv_store.specs.World.{World}
use Rattle.dv_cascade.specs.declared.cascading.Cascading.TheVariants.{Reparent}
use Rattle.dv_cascade.specs.Chains.{is_among, IsReached}
use Rattle.dv_cascade.specs.Circles.{parent_of, HasNoCircle, IsUnderParent}
use Rattle.dv_shares.specs.declared.change.Change.TheVariants.{AddInherited, ClearInherited}
use Rattle.dv_shares.specs.declared.heirs.Heir.{Heir}
use Rattle.dv_shares.specs.Grants.{can_have_grants, on_row, Regrants}
use Rattle.dv_shares.specs.Handing.{all_inherit, cleared_on, handed, inherits}
use Rattle.dv_shares.specs.Heirs.{is_heir, AreHeirs, MayFollow, ParentsFirst}
use Rattle.dv_shares.specs.Inheriting.{inherited_by, inheriting, owner_rights, rights_on, from_parent, union, InheritsAnew, IsChain, Reparents}
use Rattle.dv_shares.specs.Rights.{regrant, rights_of}
use Rattle.dv_shares.proofs.Adding.{get-inherits, grants-inherits}
use Rattle.dv_shares.proofs.Clearing.{row_is, row_itself}
use Rattle.dv_shares.proofs.Climbing.{not_true, or-split}
use Rattle.dv_shares.proofs.Principals.{or-left, or-right}
use Rattle.dv_shares.proofs.Reached.{how_reached, leads_under, not_under, reached_can, IsLed}
use Rattle.dv_shares.proofs.Unions.{regrant-inheriting, rights_of-inheriting, union-more, union-parent}

module _ (w0 : World) (d : Definition) (moved : RowKey) (set : List RowKey) (exactly : (row : RowKey) → IsTrue (is_among set row) ↔ IsReached w0 d Reparent moved row)
    (owned : list_all (λ row. is_owned w0.shape row.table) set ≡ true) (no_circle : HasNoCircle w0 d) where
  -- what is so once the heirs before have inherited
  record SoFar (before : List Heir) (w : World) : Type 0 where
    pub done : (row : RowKey) → IsTrue (is_heir before row) → InheritsAnew w0 w d moved row
    pub cleared : (row : RowKey) → IsTrue (is_among set row) → is_heir before row ≡ false → (q : Id) → fin.get w.grants (on_row q row) ≡ regrant ClearInherited (fin.get w0.grants (on_row q row))
    pub others : (q : GrantKey) → is_among set q.row ≡ false → fin.get w.grants q ≡ fin.get w0.grants q
    pub rest : w ≡ record w0 { grants = w.grants }

  can : (row : RowKey) → IsTrue (is_among set row) → can_have_grants w0 row ≡ true
  can row among = reached_can w0 d moved set owned row among ((exactly row).0 among)

  begun : (w : World) → Regrants (cleared_on w0 (is_among set)) w0 w → SoFar [] w
  begun w h = record {
    done = λ row is. absurd (true≢false (sym is));
    cleared = λ row among new q. h.grants (on_row q row)
        ∙ ap (λ b. cond (b && is_among set row) (regrant ClearInherited (fin.get w0.grants (on_row q row))) (fin.get w0.grants (on_row q row))) (can row among)
        ∙ ap (λ b. cond b (regrant ClearInherited (fin.get w0.grants (on_row q row))) (fin.get w0.grants (on_row q row))) among;
    others = λ q out. h.grants q ∙ ap (λ b. cond (can_have_grants w0 q.row && b) (regrant ClearInherited (fin.get w0.grants q)) (fin.get w0.grants q)) out ∙ none (can_have_grants w0 q.row) (regrant ClearInherited (fin.get w0.grants q)) (fin.get w0.grants q);
    rest = h.rest;
  }
    where
      none : (a : Bool) (x y : Option (ℕ × ℕ)) → cond (a && false) x y ≡ y
      none true x y = refl
      none false x y = refl

  -- one heir more
  module _ (before : List Heir) (w : World) (heir : Heir) (follows : MayFollow w0 d set before heir) (among : IsTrue (is_among set heir.row)) (so_far : SoFar before w) where
    then : World
    then = inherits heir w

    get-then : (q : GrantKey) → fin.get then.grants q ≡ cond (can_have_grants w0 q.row && is_row q.row heir.row) (regrant (AddInherited (handed w heir.parent q.principal)) (fin.get w.grants q)) (fin.get w.grants q)
    unfolding then
    get-then q = get-inherits heir w q ∙ ap (λ (v : World). cond (can_have_grants v q.row && is_row q.row heir.row) (regrant (AddInherited (handed w heir.parent q.principal)) (fin.get w.grants q)) (fin.get w.grants q)) so_far.rest

    -- grants on other rows stay
    stay : (q : GrantKey) → is_row q.row heir.row ≡ false → fin.get then.grants q ≡ fin.get w.grants q
    stay q other = get-then q ∙ ap (λ b. cond (can_have_grants w0 q.row && b) (regrant (AddInherited (handed w heir.parent q.principal)) (fin.get w.grants q)) (fin.get w.grants q)) other ∙ none (can_have_grants w0 q.row)
      where
        none : (a : Bool) → cond (a && false) (regrant (AddInherited (handed w heir.parent q.principal)) (fin.get w.grants q)) (fin.get w.grants q) ≡ fin.get w.grants q
        none true = refl
        none false = refl

    -- each grant on the row has what is handed down to it
    has : (q : Id) → fin.get then.grants (on_row q heir.row) ≡ inheriting (handed w heir.parent q) (fin.get w0.grants (on_row q heir.row))
    has q =
        get-then (on_row q heir.row)
        ∙ ap (λ b. cond (b && is_row heir.row heir.row) (regrant (AddInherited (handed w heir.parent q)) (fin.get w.grants (on_row q heir.row))) (fin.get w.grants (on_row q heir.row))) (can heir.row among)
        ∙ ap (λ b. cond b (regrant (AddInherited (handed w heir.parent q)) (fin.get w.grants (on_row q heir.row))) (fin.get w.grants (on_row q heir.row))) (row_itself heir.row)
        ∙ ap (regrant (AddInherited (handed w heir.parent q))) (so_far.cleared heir.row among follows.new q)
        ∙ regrant-inheriting (handed w heir.parent q) (fin.get w0.grants (on_row q heir.row))

    -- what the moved row's new parent hands down
    handed-parent : (parent : Option RowKey) → ((above : RowKey) → parent ≡ Some above → is_among set above ≡ false) → (q : Id) → handed w parent q ≡ union (from_parent w0 parent q ++ [])
    unfolding union
    handed-parent None out q = refl
    handed-parent (Some parent) out q =
        ap (λ g. bit_or (bit_or (rights_of g).direct (rights_of g).inherited) (owner_rights w parent q)) (so_far.others (on_row q parent) (out parent refl))
        ∙ ap (λ (v : World). bit_or (bit_or (rights_on w0 parent q).direct (rights_on w0 parent q).inherited) (owner_rights v parent q)) so_far.rest
        ∙ union-parent (rights_on w0 parent q).direct (rights_on w0 parent q).inherited (owner_rights w0 parent q)

    -- what a row above hands down, which has inherited
    handed-above : (parent : RowKey) (anew : InheritsAnew w0 w d moved parent) (q : Id) → handed w (Some parent) q ≡ inherited_by w0 (parent_of w0 d moved) (parent ∷ anew.above) q
    handed-above parent anew q =
        ap (λ g. bit_or (bit_or (rights_of g).direct (rights_of g).inherited) (owner_rights w parent q)) (anew.grants q)
        ∙ ap (λ r. bit_or (bit_or r.direct r.inherited) (owner_rights w parent q)) (rights_of-inheriting (inherited_by w0 (parent_of w0 d moved) anew.above q) (fin.get w0.grants (on_row q parent)))
        ∙ ap (λ (v : World). bit_or (bit_or (rights_on w0 parent q).direct (inherited_by w0 (parent_of w0 d moved) anew.above q)) (owner_rights v parent q)) so_far.rest
        ∙ union-more (from_parent w0 (parent_of w0 d moved) q) (map (λ row. (rights_on w0 row q).direct) anew.above) (map (λ row. owner_rights w0 row q) anew.above) (rights_on w0 parent q).direct (owner_rights w0 parent q)

    anew_moved : heir.row ≡ moved → InheritsAnew w0 then d moved heir.row
    unfolding IsChain
    anew_moved is = record {
      above = [];
      chain = is;
      grants = λ q. has q ∙ ap (λ mask. inheriting mask (fin.get w0.grants (on_row q heir.row)))
          (handed-parent heir.parent out q ∙ ap (λ parent. union (from_parent w0 parent q ++ [])) (follows.named.parent ∙ ap (parent_of w0 d) is));
    }
      where
        out : (above : RowKey) → heir.parent ≡ Some above → is_among set above ≡ false
        out above e = not_true (is_among set above) (λ there. not_under w0 d moved no_circle above (subst (λ k. IsUnderParent w0 d k above) is ((follows.named.under above).0 e)) ((exactly above).0 there))

    anew_led : IsLed w0 d moved heir.row → InheritsAnew w0 then d moved heir.row
    unfolding IsChain
    anew_led led = of (so_far.done led.parent (follows.behind led.parent named ((exactly led.parent).1 led.reached)))
      where
        named : heir.parent ≡ Some led.parent
        named = (follows.named.under led.parent).1 (leads_under w0 d led.parent heir.row led.leads)

        of : InheritsAnew w0 w d moved led.parent → InheritsAnew w0 then d moved heir.row
        of anew = record {
          above = led.parent ∷ anew.above;
          chain = (led.leads, anew.chain);
          grants = λ q. has q ∙ ap (λ mask. inheriting mask (fin.get w0.grants (on_row q heir.row))) (ap (λ parent. handed w parent q) named ∙ handed-above led.parent anew q);
        }

    anew : (heir.row ≡ moved) ⊎ IsLed w0 d moved heir.row → InheritsAnew w0 then d moved heir.row
    anew (inl is) = anew_moved is
    anew (inr led) = anew_led led

    in_both : (row : RowKey) → is_heir (before ++ heir ∷ []) row ≡ (is_heir before row || is_row row heir.row)
    in_both row = list_any-append (λ (h : Heir). is_row row h.row) before (heir ∷ []) ∙ ap (λ b. is_heir before row || b) (last (is_row row heir.row))
      where
        last : (b : Bool) → (b || false) ≡ b
        last true = refl
        last false = refl

    apart : (row : RowKey) → IsTrue (is_heir before row) → is_row row heir.row ≡ false
    apart row there = not_true (is_row row heir.row) (λ is. true≢false (sym (subst (λ (k : RowKey). IsTrue (is_heir before k)) (row_is row heir.row is) there) ∙ follows.new))

    more : SoFar (before ++ heir ∷ []) then
    unfolding then
    more = record {
      done = λ row is. done row (or-split (is_heir before row) (is_row row heir.row) (sym (in_both row) ∙ is));
      cleared = λ row there new q. let parts = neither (is_heir before row) (is_row row heir.row) (sym (in_both row) ∙ new) in stay (on_row q row) parts.1 ∙ so_far.cleared row there parts.0 q;
      others = λ q out. stay q (not_true (is_row q.row heir.row) (λ is. true≢false (sym among ∙ ap (is_among set) (sym (row_is q.row heir.row is)) ∙ out))) ∙ so_far.others q out;
      rest = grants-inherits heir w ∙ ap {A = World} {B = World} (λ v. record v { grants = (inherits heir w).grants }) so_far.rest;
    }
      where
        neither : (a b : Bool) → (a || b) ≡ false → (a ≡ false) × (b ≡ false)
        neither true b e = absurd (true≢false e)
        neither false b e = (refl, e)

        done : (row : RowKey) → IsTrue (is_heir before row) ⊎ IsTrue (is_row row heir.row) → InheritsAnew w0 then d moved row
        done row (inl there) = let old = so_far.done row there in record { above = old.above; chain = old.chain; grants = λ q. stay (on_row q row) (apart row there) ∙ old.grants q }
        done row (inr is) = subst (λ (k : RowKey). InheritsAnew w0 then d moved k) (sym (row_is row heir.row is)) (anew (how_reached w0 d moved heir.row ((exactly heir.row).0 among)))

  all : (heirs before : List Heir) (w : World) → ParentsFirst w0 d set before heirs → ((row : RowKey) → IsTrue (is_heir heirs row) → IsTrue (is_among set row)) → SoFar before w → SoFar (before ++ heirs) (all_inherit heirs w)
  unfolding ParentsFirst all_inherit then
  all [] before w first of_set so_far = subst (λ b. SoFar b w) (sym (append-nil before)) so_far
  all (heir ∷ heirs) before w first of_set so_far =
      subst (λ b. SoFar b (all_inherit heirs (inherits heir w))) (append_assoc before (heir ∷ []) heirs)
      (all heirs (before ++ heir ∷ []) (inherits heir w) first.1 (λ row h. of_set row (or-right (is_row row heir.row) (is_heir heirs row) h))
      (more before w heir first.0 (of_set heir.row (or-left (is_row heir.row heir.row) (is_heir heirs heir.row) (row_itself heir.row))) so_far))

  -- the heirs of the moved row, each of which inherits in turn once all that was inherited is cleared
  pub reparents : (heirs : List Heir) (w : World) → AreHeirs w0 d set heirs → Regrants (cleared_on w0 (is_among set)) w0 w → Reparents d moved w0 (all_inherit heirs w)
  reparents heirs w are cleared = of (all heirs [] w are.parents_first (λ row h. sym (are.exactly row) ∙ h) (begun w cleared))
    where
      of : SoFar heirs (all_inherit heirs w) → Reparents d moved w0 (all_inherit heirs w)
      of so_far = record {
        reached = λ row h. so_far.done row (are.exactly row ∙ (exactly row).1 h);
        others = λ q out. so_far.others q (not_true (is_among set q.row) (λ there. out ((exactly q.row).0 there)));
        rest = so_far.rest;
      }
