-- What a fault of the store means, by the test that it comes of.
use Rattle.std.proofs.Common.{◌≡◌, refl, sym, subst}
use Rattle.std.specs.Option.{option_or}
use Rattle.std.specs.Prelude.{Bool, true, false, None, Result, Err}
use Rattle.dv_refusal.specs.declared.refusal.Refusal.TheVariants as answer
use Rattle.dv_refusal.specs.declared.what.What.{What}
use Rattle.dv_store.specs.declared.keys.RowKey.{RowKey}
use Rattle.dv_store.specs.declared.row.Row.{Row}
use Rattle.dv_store.specs.World.{World, fault_at, row_put}
use Rattle.dv_store.specs.declared.fault.StoreFault.{StoreFault}
use Rattle.dv_message.specs.declared.stop.Stop.{Stop}
use Rattle.dv_message.specs.Checked.{Answers, refused_if}
use Rattle.dv_message.specs.Versions.{stop_of}
use Rattle.dv_write.specs.Effects.{row_renewed, total_limit, version_limit}

by_test : (test : Bool) (what : What) → Answers {T = Unit {0}} (λ said. said ≡ refused_if test (answer.Limit what)) (Err (stop_of (fault_at test what)))
unfolding stop_of
by_test true what = refl
by_test false what = tt

-- a fault of the store that comes of a limit is told as that limit, or memory ran out
pub told_by_test : (test : Bool) (what : What) (fault : StoreFault) (stop : Stop) → fault ≡ fault_at test what → stop ≡ stop_of fault → Answers {T = Unit {0}} (λ said. said ≡ refused_if test (answer.Limit what)) (Err stop)
told_by_test test what fault stop f s = subst (λ x. Answers {T = Unit {0}} (λ said. said ≡ refused_if test (answer.Limit what)) (Err x)) (sym s) (subst (λ x. Answers {T = Unit {0}} (λ said. said ≡ refused_if test (answer.Limit what)) (Err (stop_of x))) (sym f) (by_test test what))

-- what the next version says once the row was put is what both limits say
pub both_limits : (w v : World) (key : RowKey) (row : Row) (result : Result (Unit {0}) Stop) → v ≡ row_renewed w key row → None ≡ total_limit (row_renewed w key row)
    → Answers (λ said. said ≡ version_limit v) result → Answers (λ said. said ≡ option_or (total_limit (row_renewed w key row)) (version_limit w)) result
unfolding row_put
both_limits w v key row result is few told =
    subst (λ t. Answers (λ said. said ≡ option_or t (version_limit w)) result) few (subst (λ x. Answers (λ said. said ≡ version_limit x) result) is told)
