-- Shares added to what is inherited on a row, one after the other.
use Rattle.std.proofs.Common.{◌≡◌, ℕ, ◌+◌, ◌≤◌, ◌<◌, List, [], ◌∷◌, length, drop, get_or, refl, sym, ap, subst, arith, length-drop}
use Rattle.std.proofs.lemmas.List.{drop_more, nil_from_length}
use Rattle.dv_store.specs.declared.fault.StoreFault.{StoreFault}
use Rattle.dv_store.specs.declared.keys.RowKey.{RowKey}
use Rattle.dv_store.specs.World.{World, grant_total}
use Rattle.dv_shares.specs.declared.change.Change.TheVariants.{AddInherited}
use Rattle.dv_shares.specs.declared.handing.Share.{Share}
use Rattle.dv_shares.specs.Handing.{all_inherit, each_added, inherits}
use Rattle.dv_shares.specs.Outcome.{MayRefuse}
use Rattle.dv_shares.specs.Rights.{adds}
use Rattle.dv_shares.specs.Steps.{one_changed}
use Rattle.dv_shares.specs.declared.heirs.Heir.{Heir}
use Rattle.dv_shares.proofs.Limits.{grows-one, refused_later}

-- one share added
abbrev pub added : RowKey → Share → World → World
added row share w = one_changed share.principal (AddInherited share.mask) row w

module _ (row : RowKey) where
  pub each-step : (shares : List Share) (i : ℕ) (d : Share) (w : World) → i < length shares → each_added row (drop i shares) w ≡ each_added row (drop (i + 1) shares) (added row (get_or shares i d) w)
  unfolding each_added
  each-step shares i d w lt = ap (λ rest. each_added row rest w) (drop_more shares i d lt)

  pub each-end : (shares : List Share) (i : ℕ) (w : World) → length shares ≤ i → each_added row (drop i shares) w ≡ w
  unfolding each_added
  each-end shares i w le = ap (λ rest. each_added row rest w) (nil_from_length (drop i shares) (omega (arith, length-drop i shares, le)))

  pub grows-each : (shares : List Share) (w : World) → grant_total w ≤ grant_total (each_added row shares w)
  unfolding each_added adds
  grows-each [] w = omega arith
  grows-each (share ∷ shares) w =
      let a = grows-one (AddInherited share.mask) refl share.principal row w in
      let b = grows-each shares (added row share w) in
      omega (arith, a, b)

  -- where one share is refused, all that are left are
  pub refused-each : (shares : List Share) (i : ℕ) (d : Share) (w : World) (fault : StoreFault) → i < length shares → MayRefuse (added row (get_or shares i d) w) fault → MayRefuse (each_added row (drop i shares) w) fault
  refused-each shares i d w fault lt refused =
      subst (λ (v : World). MayRefuse v fault) (sym (each-step shares i d w lt))
      (refused_later (added row (get_or shares i d) w) (each_added row (drop (i + 1) shares) (added row (get_or shares i d) w)) fault (grows-each (drop (i + 1) shares) (added row (get_or shares i d) w)) refused)

-- the same of heirs
pub all-step : (heirs : List Heir) (i : ℕ) (d : Heir) (w : World) → i < length heirs → all_inherit (drop i heirs) w ≡ all_inherit (drop (i + 1) heirs) (inherits (get_or heirs i d) w)
unfolding all_inherit
all-step heirs i d w lt = ap (λ rest. all_inherit rest w) (drop_more heirs i d lt)

pub all-end : (heirs : List Heir) (i : ℕ) (w : World) → length heirs ≤ i → all_inherit (drop i heirs) w ≡ w
unfolding all_inherit
all-end heirs i w le = ap (λ rest. all_inherit rest w) (nil_from_length (drop i heirs) (omega (arith, length-drop i heirs, le)))

pub grows-all : (heirs : List Heir) (w : World) → grant_total w ≤ grant_total (all_inherit heirs w)
unfolding all_inherit
grows-all [] w = omega arith
grows-all (heir ∷ heirs) w =
    let a : grant_total w ≤ grant_total (inherits heir w) = grows-each heir.row _ w in
    let b = grows-all heirs (inherits heir w) in
    omega (arith, a, b)

pub refused-all : (heirs : List Heir) (i : ℕ) (d : Heir) (w : World) (fault : StoreFault) → i < length heirs → MayRefuse (inherits (get_or heirs i d) w) fault → MayRefuse (all_inherit (drop i heirs) w) fault
refused-all heirs i d w fault lt refused =
    subst (λ (v : World). MayRefuse v fault) (sym (all-step heirs i d w lt))
    (refused_later (inherits (get_or heirs i d) w) (all_inherit (drop (i + 1) heirs) (inherits (get_or heirs i d) w)) fault (grows-all (drop (i + 1) heirs) (inherits (get_or heirs i d) w)) refused)
