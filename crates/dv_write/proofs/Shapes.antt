-- No change of a row changes what is kept of the definition.
use Rattle.std.proofs.Common.{◌≡◌, refl, ◌∙◌}
use Rattle.std.specs.Prelude.{List, [], ◌∷◌, Option, Some, None}
use Rattle.std.specs.FinMap as map
use Rattle.dv_store.specs.declared.keys.RowKey.{RowKey}
use Rattle.dv_store.specs.declared.row.Row.{Row}
use Rattle.dv_store.specs.World.{World, row_put, row_removed}
use Rattle.dv_write.specs.declared.change.Change.{Change}
use Rattle.dv_write.specs.declared.change.Edit.{Edit}
use Rattle.dv_write.specs.declared.change.Edit.TheVariants.{Set, Remove}
use Rattle.dv_write.specs.Effects.{applied, changed, row_changed}

row_changed_shape : (w : World) (key : RowKey) (edit : Edit) (row : Option Row) → (row_changed w key edit row).shape ≡ w.shape
unfolding row_changed row_put row_removed
row_changed_shape w key edit None = refl
row_changed_shape w key (Set placed) (Some row) = refl
row_changed_shape w key Remove (Some row) = refl

-- an effect keeps what is kept of the definition
pub applied_shape : (changes : List Change) (w : World) → (applied changes w).shape ≡ w.shape
unfolding applied
applied_shape [] w = refl
applied_shape (c ∷ cs) w = applied_shape cs (changed w c) ∙ row_changed_shape w c.key c.edit (map.get w.rows c.key)
