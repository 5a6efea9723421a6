-- What is done on one row.
use Rattle.std.proofs.Common.{◌≡◌, ℕ, refl, sym, ap, ◌∙◌}
use Rattle.std.specs.Prelude.{true, false, cond, Option, None, Some}
use Rattle.std.specs.FinMap as map
use Rattle.dv_value.specs.declared.id.Id.{Id}
use Rattle.dv_store.specs.declared.keys.RowKey.{RowKey}
use Rattle.dv_store.specs.World.{World, grant_at, grant_set}
use Rattle.dv_shares.specs.declared.change.Rights.{Rights}
use Rattle.dv_shares.specs.declared.change.Change.{Change}
use Rattle.dv_shares.specs.Rights.{changed, are_same, rights_of}
use Rattle.dv_shares.specs.Grants.{can_have_grants, on_row}
use Rattle.dv_shares.specs.Steps.{grant_changed, one_changed}

-- a pair of rights, by name
abbrev pub named : ℕ × ℕ → Rights
named pair = record { direct = pair.0; inherited = pair.1 }

named-grant_at : (w : World) (p : Id) (row : RowKey) → named (grant_at w.grants row.table row.id p) ≡ rights_of (map.get w.grants (on_row p row))
named-grant_at w p row = cases (map.get w.grants (on_row p row)) refl
  where
    cases : (g : Option (ℕ × ℕ)) → map.get w.grants (on_row p row) ≡ g → named (grant_at w.grants row.table row.id p) ≡ rights_of g
    cases None is = rw is refl
    cases (Some g) is = rw is refl

module _ (w : World) (p : Id) (row : RowKey) (c : Change) (can : can_have_grants w row ≡ true) (pair : ℕ × ℕ) (is : pair ≡ grant_at w.grants row.table row.id p) (after : Rights) (then : after ≡ changed c (named pair)) where
  before : named pair ≡ rights_of (map.get w.grants (on_row p row))
  before = ap named is ∙ named-grant_at w p row

  step : World
  step = cond (are_same after (named pair)) w (grant_set w (on_row p row) after.direct after.inherited)

  one-step : one_changed p c row w ≡ step
  unfolding grant_changed step
  one-step =
      ap (λ h. cond h (grant_changed c (on_row p row) w) w) can
      ∙ sym (ap (λ a. cond (are_same a (named pair)) w (grant_set w (on_row p row) a.direct a.inherited)) then
      ∙ ap (λ b. cond (are_same (changed c b) b) w (grant_set w (on_row p row) (changed c b).direct (changed c b).inherited)) before)

  pub one-same : true ≡ are_same after (named pair) → one_changed p c row w ≡ w
  unfolding step
  one-same same = one-step ∙ ap (λ b. cond b w (grant_set w (on_row p row) after.direct after.inherited)) (sym same)

  pub one-set : false ≡ are_same after (named pair) → one_changed p c row w ≡ grant_set w (on_row p row) after.direct after.inherited
  unfolding step
  one-set other = one-step ∙ ap (λ b. cond b w (grant_set w (on_row p row) after.direct after.inherited)) (sym other)
