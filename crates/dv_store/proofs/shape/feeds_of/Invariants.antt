use Rattle.std.proofs.Common.{◌≡◌, ◌++◌, drop}
use Rattle.dv_store.specs.Shapes.{feeds_of_tables}
use Rattle.dv_store.proofs.shape.feeds_of.Given as goal

abbrev pub invariant-loop-table : goal.invariant-loop-table
invariant-loop-table l = record {
  number : l.number ≡ l.table-index;
  feeds : l.feeds ++ feeds_of_tables l.relationships l.table-index (drop l.table-index l.tables) ≡ feeds_of_tables l.relationships 0 l.tables;
}
