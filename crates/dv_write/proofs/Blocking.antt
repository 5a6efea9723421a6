-- What blocks a removal, as one check of the rows that go.
use Rattle.std.proofs.Common.{◌≡◌, inl, List, [], ◌∷◌}
use Rattle.std.specs.Prelude.{ℕ, Option, Result, Ok, Err}
use Rattle.dv_store.specs.declared.keys.RowKey.{RowKey}
use Rattle.dv_cascade.specs.Removal.{Blocks, IsFirst}
use Rattle.dv_message.specs.declared.stop.Stop.{Stop}
use Rattle.dv_message.specs.declared.stop.Stop.TheVariants.{Refused, OutOfMemory}
use Rattle.dv_message.specs.Checked.{AllPass, Answers, FirstSays, Walked}
use Rattle.dv_message.specs.Scenes.{Targeted}
use Rattle.dv_write.specs.Deleting.{restrict_fault, BlockSays}

-- what the first relationship that blocks a removal says is what the walk over that one check says
pub blocked_is : (t : Targeted) (set : List RowKey) (first : Option ℕ) (result : Result (Unit {0}) Stop) → IsFirst (Blocks t.world t.setting.definition set) first
    → Answers (λ said. said ≡ restrict_fault t.setting.definition first) result → Walked (BlockSays t) (set ∷ []) result
unfolding AllPass FirstSays BlockSays
blocked_is t set first (Ok value) is said = ((first, (is, said)), tt)
blocked_is t set first (Err (Refused refusal)) is said = inl (first, (is, said))
blocked_is t set first (Err OutOfMemory) is said = tt
