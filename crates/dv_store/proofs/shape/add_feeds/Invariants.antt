use Rattle.std.proofs.Common.{◌≡◌, ◌++◌, drop}
use Rattle.dv_store.specs.Shapes.{feeds_of_columns}
use Rattle.dv_store.proofs.shape.add_feeds.Given as goal

abbrev pub invariant-loop-number : goal.invariant-loop-number
invariant-loop-number l = l.feeds ++ feeds_of_columns l.relationships l.parent l.number (drop l.number l.columns) ≡ l.initial.feeds ++ feeds_of_columns l.relationships l.parent 0 l.columns
