use Rattle.std.proofs.Common.{◌≡◌, IsSome}
use Rattle.std.specs.FinMap as map
use Rattle.dv_value.specs.declared.id.Id.{Id}
use Rattle.dv_store.specs.Cursors.{IsPast}
use Rattle.dv_store.specs.Kept.{with_grants_gone, IsWell}
use Rattle.dv_store.proofs.removing.drop_grants.Given as goal

abbrev pub invariant-loop-principal : goal.invariant-loop-principal
invariant-loop-principal l = record {
  well : IsWell l.cells.present;
  earlier : l.cells.earlier ≡ l.fn.cells.earlier;
  rest : with_grants_gone l.cells.present.world l.row ≡ with_grants_gone l.fn.cells.present.world l.row;
  past : (q : Id) → IsSome (map.get l.cells.present.world.grants (record { row = l.row; principal = q })) → IsPast l.after q;
}

abbrev pub decreases-loop-principal : goal.decreases-loop-principal
decreases-loop-principal l = map.len l.cells.present.world.grants
