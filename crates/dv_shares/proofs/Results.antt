-- What the calls do row by row comes to what is said of the whole set.
use Rattle.std.proofs.Common.{◌≡◌, ℕ, List, refl, sym, ap, subst, ◌∙◌}
use Rattle.std.specs.FinMap as fin
use Rattle.dv_value.specs.declared.id.Id.{Id}
use Rattle.dv_store.specs.declared.keys.RowKey.{RowKey}
use Rattle.dv_store.specs.Exact.{exact_grant}
use Rattle.dv_store.specs.World.{World}
use Rattle.dv_shares.specs.declared.change.Change.{Change}
use Rattle.dv_work.specs.History.{History}
use Rattle.dv_shares.specs.declared.change.Change.TheVariants.{AddDirect, AddInherited, Clear, ClearInherited}
use Rattle.dv_shares.specs.Grants.{granted_at, modified, modified_at, shared, shared_at, Regrants}
use Rattle.dv_shares.specs.Outcome.{Makes}
use Rattle.dv_shares.specs.Steps.{one_changed, others_changed}
use Rattle.dv_shares.proofs.OneGrant.{grant_order}
use Rattle.dv_shares.proofs.WholeSet.{get-shared, grants-one, grants-others}
use Rattle.dv_shares.proofs.Listed.{get-shared_world}

module _ (set : List RowKey) (target : RowKey) (p : Id) (own others : Change) (w : World) where
  made : World
  made = others_changed target p others set (one_changed p own target w)

  pub others_changed-one_changed : others_changed target p others set (one_changed p own target w) ≡ shared set target p own others w
  unfolding made shared
  others_changed-one_changed =
      grants-others target p others set (one_changed p own target w)
      ∙ ap {A = World} {B = World} (λ v. record v { grants = made.grants }) (grants-one target p others own target w)
      ∙ ap {B = World} (λ grants. record w { grants = grants }) (fin.same_map grant_order exact_grant made.grants (shared set target p own others w).grants (λ q. get-shared set target p own others w q ∙ sym (get-shared_world set target p own others w q)))
      ∙ whole
    where
      whole : record w { grants = (shared set target p own others w).grants } ≡ shared set target p own others w
      whole = refl

  regrants-shared : Regrants (shared_at w set target p own others) w (shared set target p own others w)
  unfolding shared
  regrants-shared = record { grants = get-shared_world set target p own others w; rest = refl }

-- the same of each grant
pub regrants-made : (set : List RowKey) (target : RowKey) (p : Id) (own others : Change) (start end : History World) → Makes start end (shared set target p own others start.present) → Regrants (shared_at start.present set target p own others) start.present end.present
regrants-made set target p own others start end made = subst (Regrants (shared_at start.present set target p own others) start.present) (sym made.present) (regrants-shared set target p own others start.present)

regrants-modified : (unshare share : List RowKey) (target : RowKey) (p : Id) (mask : ℕ) (w : World) → Regrants (modified_at w unshare share target p mask) w (modified unshare share target p mask w)
unfolding shared
regrants-modified unshare share target p mask w = record {
  grants = λ q. get-shared_world share target p (AddDirect mask) (AddInherited mask) (shared unshare target p Clear ClearInherited w) q
      ∙ ap (granted_at w share target p mask q) (get-shared_world unshare target p Clear ClearInherited w q);
  rest = refl;
}

pub regrants-modify : (unshare share : List RowKey) (target : RowKey) (p : Id) (mask : ℕ) (start end : History World) → Makes start end (modified unshare share target p mask start.present) → Regrants (modified_at start.present unshare share target p mask) start.present end.present
regrants-modify unshare share target p mask start end made = subst (Regrants (modified_at start.present unshare share target p mask) start.present) (sym made.present) (regrants-modified unshare share target p mask start.present)
