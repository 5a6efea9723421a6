use Rattle.std.proofs.Common.{◌≡◌, ◌^◌, ◌<◌, arith, ap, sym, subst, ◌∙◌, IsSome}
use Rattle.std.specs.Prelude.{Bool, true, false, Some}
use Rattle.std.specs.FinMap as map
use Rattle.dv_store.specs.declared.keys.RowKey.{RowKey}
use Rattle.dv_store.specs.World.{is_up_to}
use Rattle.dv_store.specs.Raised.{removals_dropped}
use Rattle.dv_store.proofs.Raises.{dropped-removal_dropped, dropped-none, past-removal_dropped, ascends-place_number, most-place_number}
use Rattle.dv_store.proofs.raising.drop_removals.Goals as goal

same_key : {x y : RowKey} → Some x ≡ Some y → x ≡ y
same_key e = cc

pub loop-key-preserved : goal.loop-key-preserved
loop-key-preserved c =
    let w = c.loop-key.cells.present.world in
    let ok = c.in_ok-drop_if_old.ensures.ok in
    let floor = c.args.floor in
    record {
      well = ok.well;
      earlier = ok.earlier ∙ c.loop-key.invariant.earlier;
      rest = ap (λ v. removals_dropped v floor) ok.world ∙ dropped-removal_dropped w c.in-Some.key floor ∙ c.loop-key.invariant.rest;
      past = λ q there old. past-removal_dropped w floor c.loop-key.after c.in-Some.key c.loop-key.invariant.past c.in-Some.ensures q
          (subst (λ v. IsSome (map.get v.removals q)) ok.world there)
          (subst (λ v. is_up_to floor (map.get v.removals q) ≡ true) ok.world old);
      fits = λ k e. subst (λ k. k.id.0 < 2 ^ 128) (same_key e) c.in_ok-drop_if_old.ensures.id;
    }

pub loop-key-smaller : goal.loop-key-smaller
loop-key-smaller c =
    let more = ascends-place_number c.loop-key.after c.in-Some.key c.loop-key.invariant.fits c.in-Some.ensures.past in
    let most = most-place_number c.in-Some.key c.in_ok-drop_if_old.ensures.table c.in_ok-drop_if_old.ensures.id in
    omega (arith, more, most)

not_old : (b : Bool) → (b ≡ true → ⊥) → b ≡ false
not_old true h = absurd (h (λ _. true))
not_old false h = λ _. false

pub returns-clause-ok : goal.returns-clause-ok
returns-clause-ok c =
    let w = c.loop-key.cells.present.world in
    record {
      world = sym (dropped-none w c.args.floor (λ q there. not_old (is_up_to c.args.floor (map.get w.removals q)) (λ old. c.in_default.ensures q there (c.loop-key.invariant.past q there old)))) ∙ c.loop-key.invariant.rest;
      well = c.loop-key.invariant.well;
      earlier = c.loop-key.invariant.earlier;
    }
