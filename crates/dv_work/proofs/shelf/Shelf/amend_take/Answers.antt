use Rattle.std.proofs.Common.{◌≡◌, Bool, true, false, List, Result, Ok, Err, Option, None, Some, is_some, IfOk, OnOk, refl, sym, ◌∙◌, append-nil, if◌then◌else◌}
use mathlib.Core.Bool.{true≢false}
use Rattle.std.specs.Map.{lookup, remove_entry}
use Rattle.dv_work.specs.History.{History, with_change, with_present}
use Rattle.dv_work.proofs.EntryLaws.{without_key-missing}
use Rattle.dv_work.proofs.shelf.Shelf.amend_take.Goals as goal

absent : {X : Type 0} (place : Option X) → false ≡ is_some place → place ≡ None
absent None h = refl
absent (Some x) h = absurd (true≢false (sym h))

-- a key that isn't there is taken out by doing nothing
amended-take : {K V E : Type 0} (test : K → Bool) (r : Result Bool E) (old new : History (List (K × V)))
    → IfOk r (λ there. new ≡ (if there then with_change false old (remove_entry test old.present) else old))
    → IfOk r (λ there. there ≡ is_some (lookup test old.present)) → OnOk r (new ≡ with_present old (remove_entry test old.present))
amended-take test (Ok true) old new h there = h ∙ rw append-nil refl
amended-take test (Ok false) old new h there = h ∙ rw (without_key-missing test old.present (absent (lookup test old.present) there)) refl
amended-take test (Err e) old new h there = tt

pub returns-clause-ok : goal.returns-clause-ok
returns-clause-ok g c = amended-take _ c.take_as.result c.args.self.now _ c.take_as.ensures.ok c.take_as.ensures.there
