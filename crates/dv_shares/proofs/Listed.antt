-- The grants that a rule makes, looked up.
use Rattle.std.proofs.Common.{◌≡◌, ℕ, List, [], ◌∷◌, ◌++◌, refl, sym, ap, ◌∙◌, is_some}
use mathlib.Core.Bool.{true≢false}
use Rattle.std.proofs.lemmas.List.Folds.{list_any-append}
use Rattle.std.specs.Prelude.{Bool, true, false, cond, ◌||◌, Option, None, Some, map, flat_map}
use Rattle.std.specs.List.{list_any}
use Rattle.std.specs.Ordering.{eq_by_cmp}
use Rattle.std.specs.FinMap as fin
use Rattle.dv_value.specs.declared.id.Id.{Id}
use Rattle.dv_store.specs.declared.keys.RowKey.{RowKey}
use Rattle.dv_store.specs.declared.keys.GrantKey.{GrantKey}
use Rattle.dv_store.specs.Keys.{grant_cmp}
use Rattle.dv_store.specs.World.{World, Grants}
use Rattle.dv_shares.specs.declared.change.Change.{Change}
use Rattle.dv_shares.specs.Rights.{regrant}
use Rattle.dv_shares.specs.Grants.{can_have_grants, each_by, entry_by, entry_of, is_on, is_on_any, on_row, shared, shared_at}
use Rattle.dv_shares.proofs.OneGrant.{grant_order, same_key}

module _ (rule : GrantKey → Option (ℕ × ℕ) → Option (ℕ × ℕ)) (grants : Grants) where
  find-entries : (keys : List GrantKey) (q : GrantKey) → fin.find grant_cmp q (flat_map (entry_by rule grants) keys) ≡ cond (list_any (eq_by_cmp grant_cmp q) keys) (rule q (fin.get grants q)) None
  find-entries [] q = refl
  find-entries (k ∷ keys) q = cases (find-entries keys q) (rule k (fin.get grants k)) refl (eq_by_cmp grant_cmp q k) refl
    where
      made : Option (ℕ × ℕ)
      made = rule q (fin.get grants q)

      same : eq_by_cmp grant_cmp q k ≡ true → made ≡ rule k (fin.get grants k)
      same is = ap (λ k. rule k (fin.get grants k)) (same_key q k is)

      none : (b : Bool) → made ≡ None → cond b made None ≡ made
      none true is = refl
      none false is = sym is

      cases : fin.find grant_cmp q (flat_map (entry_by rule grants) keys) ≡ cond (list_any (eq_by_cmp grant_cmp q) keys) made None → (x : Option (ℕ × ℕ)) → rule k (fin.get grants k) ≡ x → (t : Bool) → eq_by_cmp grant_cmp q k ≡ t → fin.find grant_cmp q (entry_of k x ++ flat_map (entry_by rule grants) keys) ≡ cond (t || list_any (eq_by_cmp grant_cmp q) keys) made None
      cases rest None is true tied = rest ∙ none (list_any (eq_by_cmp grant_cmp q) keys) (same tied ∙ is)
      cases rest None is false tied = rest
      cases rest (Some v) is true tied = ap (λ t. cond t (Some v) (fin.find grant_cmp q (flat_map (entry_by rule grants) keys))) tied ∙ sym (same tied ∙ is)
      cases rest (Some v) is false tied = ap (λ t. cond t (Some v) (fin.find grant_cmp q (flat_map (entry_by rule grants) keys))) tied ∙ rest

  -- a grant that is neither named nor there is none
  pub get-each_by : (named : List GrantKey) (q : GrantKey) → (list_any (eq_by_cmp grant_cmp q) named ≡ false → rule q (fin.get grants q) ≡ fin.get grants q) → fin.get (each_by rule named grants) q ≡ rule q (fin.get grants q)
  get-each_by named q outside =
      fin.get-from_entries grant_order (flat_map (entry_by rule grants) (named ++ fin.keys grants)) q
      ∙ find-entries (named ++ fin.keys grants) q
      ∙ ap (λ b. cond b (rule q (fin.get grants q)) None) (list_any-append (eq_by_cmp grant_cmp q) named (fin.keys grants) ∙ ap (λ b. list_any (eq_by_cmp grant_cmp q) named || b) (sym (fin.contains_key-keys grants q)))
      ∙ cases (list_any (eq_by_cmp grant_cmp q) named) refl
    where
      there : (g : Option (ℕ × ℕ)) → cond (is_some g) g None ≡ g
      there None = refl
      there (Some g) = refl

      cases : (b : Bool) → list_any (eq_by_cmp grant_cmp q) named ≡ b → cond (b || is_some (fin.get grants q)) (rule q (fin.get grants q)) None ≡ rule q (fin.get grants q)
      cases true is = refl
      cases false is = ap (λ x. cond (is_some (fin.get grants q)) x None) (outside is) ∙ there (fin.get grants q) ∙ sym (outside is)

-- the grants that are named are those of the principal on the rows
any-named : (p : Id) (rows : List RowKey) (q : GrantKey) → list_any (eq_by_cmp grant_cmp q) (map (on_row p) rows) ≡ is_on_any p rows q
any-named p [] q = refl
any-named p (row ∷ rows) q = ap (λ b. is_on p row q || b) (any-named p rows q)

none_of : (a t y : Bool) (g x z : Option (ℕ × ℕ)) → (t || y) ≡ false → cond a (cond t x (cond y z g)) g ≡ g
none_of true true y g x z is = absurd (true≢false is)
none_of true false true g x z is = absurd (true≢false is)
none_of true false false g x z is = refl
none_of false t y g x z is = refl

-- each grant of the new world
pub get-shared_world : (set : List RowKey) (target : RowKey) (p : Id) (own others : Change) (w : World) (q : GrantKey) → fin.get (shared set target p own others w).grants q ≡ shared_at w set target p own others q (fin.get w.grants q)
unfolding shared
get-shared_world set target p own others w q = get-each_by (shared_at w set target p own others) w.grants (map (on_row p) (target ∷ set)) q
    (λ is. none_of (can_have_grants w q.row) (is_on p target q) (is_on_any p set q) (fin.get w.grants q) (regrant own (fin.get w.grants q)) (regrant others (fin.get w.grants q)) (sym (any-named p (target ∷ set) q) ∙ is))
