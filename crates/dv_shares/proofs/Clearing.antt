-- What is inherited on a row is taken away, principal by principal.
use Rattle.std.proofs.Common.{◌≡◌, refl, sym, ap, subst, ◌∙◌, ℕ, ◌≤◌, Bool, true, false, arith, is_some}
use Rattle.std.proofs.lemmas.Bool.{true≢false, eqb-true, eq-eqb, ltb-true, ltb-false}
use Rattle.std.specs.Prelude.{◌&&◌, ◌||◌, ◌==◌, cond, not, Option, None, Some, nat_lt}
use Rattle.std.specs.Cmp.{Equal-is, tied_itself}
use Rattle.std.specs.Ordering.{is_eq}
use Rattle.std.specs.FinMap as fin
use Rattle.dv_value.specs.declared.id.Id.{Id}
use Rattle.dv_store.specs.declared.keys.GrantKey.{GrantKey}
use Rattle.dv_store.specs.declared.keys.RowKey.{RowKey}
use Rattle.dv_store.specs.contracts.keys.RowKeyOrd.TheImpl.Laws as row_laws
use Rattle.dv_store.specs.Cursors.{IsNextPrincipal, IsPast}
use Rattle.dv_store.specs.Exact.{exact_row}
use Rattle.dv_store.specs.Keys.{is_row, row_cmp}
use Rattle.dv_store.specs.World.{World}
use Rattle.dv_shares.specs.declared.change.Change.TheVariants.{ClearInherited}
use Rattle.dv_shares.specs.Grants.{can_have_grants, is_on, on_row, Regrants}
use Rattle.dv_shares.specs.Handing.{cleared_on}
use Rattle.dv_shares.specs.Rights.{changed, regrant}
use Rattle.dv_shares.specs.Steps.{one_changed}
use Rattle.dv_shares.proofs.OneGrant.{grant_order, same_key}
use Rattle.dv_shares.proofs.Principals.{is_past, id_is, past_is}
use Rattle.dv_shares.proofs.Repeated.{regrant-regrant}
use Rattle.dv_shares.proofs.WholeSet.{get-one, grants-one}

pub row_is : (a b : RowKey) → is_row a b ≡ true → a ≡ b
row_is a b e = exact_row a b ((Equal-is (row_cmp a b)).0 e)

pub row_itself : (a : RowKey) → is_row a a ≡ true
row_itself a = ap is_eq (tied_itself row_laws.total-law a)

-- a grant is that of a principal on a row where the row and the principal are the same
pub on-parts : (p : Id) (row : RowKey) (q : GrantKey) → is_on p row q ≡ (is_row q.row row && (q.principal.0 == p.0))
on-parts p row q = of (is_on p row q) (is_row q.row row) (q.principal.0 == p.0) refl refl refl
  where
    of : (x a b : Bool) → is_on p row q ≡ x → is_row q.row row ≡ a → (q.principal.0 == p.0) ≡ b → x ≡ (a && b)
    of true a b on r e =
        let is : q ≡ on_row p row = same_key q (on_row p row) on in
        sym (ap (λ z. a && z) (sym e ∙ eq-eqb q.principal.0 p.0 (ap (λ k. k.principal.0) is)) ∙ ap (λ z. z && true) (sym r ∙ ap (λ k. is_row k.row row) is ∙ row_itself row))
    of false true true on r e =
        let is : q ≡ on_row p row = λ j. record { row = row_is q.row row r j; principal = id_is q.principal p (eqb-true q.principal.0 p.0 e) j } in
        absurd (true≢false (sym (ap (λ k. is_on p row k) is ∙ ap is_eq (tied_itself grant_order (on_row p row))) ∙ on))
    of false true false on r e = refl
    of false false b on r e = refl

none-cleared : (g : Option (ℕ × ℕ)) → is_some g ≡ false → regrant ClearInherited g ≡ g
unfolding regrant changed
none-cleared None e = refl
none-cleared (Some g) e = absurd (true≢false e)

module _ (w0 : World) (row : RowKey) where
  -- a grant where those of principals up to one are cleared
  abbrev pub cleared_up_to : Option Id → GrantKey → Option (ℕ × ℕ)
  cleared_up_to after q = cond (can_have_grants w0 q.row && (is_row q.row row && not (is_past after q.principal))) (regrant ClearInherited (fin.get w0.grants q)) (fin.get w0.grants q)

  pub record IsCleared (after : Option Id) (w : World) : Type 0 where
    pub grants : (q : GrantKey) → fin.get w.grants q ≡ cleared_up_to after q
    pub rest : w ≡ record w0 { grants = w.grants }

  pub clear-begun : IsCleared None w0
  clear-begun = record { grants = λ q. none (can_have_grants w0 q.row) (is_row q.row row) (regrant ClearInherited (fin.get w0.grants q)) (fin.get w0.grants q); rest = refl }
    where
      none : (a r : Bool) (x y : Option (ℕ × ℕ)) → y ≡ cond (a && (r && false)) x y
      none true true x y = refl
      none true false x y = refl
      none false r x y = refl

  not-there : (after : Option Id) (p : Id) (w : World) (q : GrantKey) → IsNextPrincipal w row.table row.id after (Some p) → is_row q.row row ≡ true → is_past after q.principal ≡ true → (q.principal.0 == p.0) ≡ false → nat_lt p.0 q.principal.0 ≡ false → is_some (fin.get w.grants q) ≡ false
  not-there after p w q is r past apart not_more = of (is_some (fin.get w.grants q)) refl
    where
      key : q ≡ on_row q.principal row
      key = λ j. record { row = row_is q.row row r j; principal = q.principal }

      equal : (a b : ℕ) → (a == b) ≡ false → nat_lt b a ≡ false → b ≤ a → ⊥
      equal a b e l le =
          let g = ltb-false b a l in
          let same : a ≡ b = omega (arith, le, g) in
          true≢false (sym (eq-eqb a b same) ∙ e)

      of : (b : Bool) → is_some (fin.get w.grants q) ≡ b → b ≡ false
      of false e = refl
      of true e = absurd (equal q.principal.0 p.0 apart not_more (is.least q.principal (sym (ap (λ k. is_some (fin.get w.grants k)) key) ∙ e) (past_is after q.principal past)))

  clear-value : (after : Option Id) (p : Id) (w : World) (q : GrantKey) → IsNextPrincipal w row.table row.id after (Some p) → IsCleared after w
      → cond (can_have_grants w0 q.row && (is_row q.row row && (q.principal.0 == p.0))) (regrant ClearInherited (cleared_up_to after q)) (cleared_up_to after q) ≡ cleared_up_to (Some p) q
  clear-value after p w q is cleared = of (can_have_grants w0 q.row) (is_row q.row row) (q.principal.0 == p.0) (is_past after q.principal) (nat_lt p.0 q.principal.0) refl refl refl refl refl
    where
      g : Option (ℕ × ℕ)
      g = fin.get w0.grants q

      R : Option (ℕ × ℕ)
      R = regrant ClearInherited g

      not_self : (a b : ℕ) → (a == b) ≡ true → nat_lt b a ≡ true → ⊥
      not_self a b e l = let same = eqb-true a b e in let less = ltb-true b a l in omega (arith, same, less)

      seen_first : (after : Option Id) (x : Id) → is_past after x ≡ false → IsPast after p → nat_lt p.0 x.0 ≡ true → ⊥
      seen_first None x e past l = true≢false e
      seen_first (Some a) x e past l = let m = ltb-false a.0 x.0 e in let n = ltb-true p.0 x.0 l in omega (arith, m, n, past)

      same_value : (a r t : Bool) → can_have_grants w0 q.row ≡ a → is_row q.row row ≡ r → is_past after q.principal ≡ t → fin.get w.grants q ≡ cond (a && (r && not t)) R g
      same_value a r t h e s = cleared.grants q ∙ ap (λ x. cond (x && (is_row q.row row && not (is_past after q.principal))) R g) h ∙ ap (λ x. cond (a && (x && not (is_past after q.principal))) R g) e ∙ ap (λ x. cond (a && (r && not x)) R g) s

      of : (a r e t l : Bool) → can_have_grants w0 q.row ≡ a → is_row q.row row ≡ r → (q.principal.0 == p.0) ≡ e → is_past after q.principal ≡ t → nat_lt p.0 q.principal.0 ≡ l
          → cond (a && (r && e)) (regrant ClearInherited (cond (a && (r && not t)) R g)) (cond (a && (r && not t)) R g) ≡ cond (a && (r && not l)) R g
      of false r e t l ha hr he ht hl = refl
      of true false e t l ha hr he ht hl = refl
      of true true true t true ha hr he ht hl = absurd (not_self q.principal.0 p.0 he hl)
      of true true true true false ha hr he ht hl = refl
      of true true true false false ha hr he ht hl = regrant-regrant ClearInherited g
      of true true false true true ha hr he ht hl = refl
      of true true false true false ha hr he ht hl = sym (none-cleared g (ap is_some (sym (same_value true true true ha hr ht)) ∙ not-there after p w q is hr ht he hl))
      of true true false false true ha hr he ht hl = absurd (seen_first after q.principal ht is.past hl)
      of true true false false false ha hr he ht hl = refl

  pub clear-more : (after : Option Id) (p : Id) (w new : World) → IsNextPrincipal w row.table row.id after (Some p) → new ≡ one_changed p ClearInherited row w → IsCleared after w → IsCleared (Some p) new
  clear-more after p w new is made cleared = subst (IsCleared (Some p)) (sym made) (record {
    grants = λ q. get-one row p ClearInherited ClearInherited row w q
        ∙ ap (λ (v : World). cond (can_have_grants v q.row && is_on p row q) (regrant ClearInherited (fin.get w.grants q)) (fin.get w.grants q)) cleared.rest
        ∙ ap (λ x. cond (can_have_grants w0 q.row && x) (regrant ClearInherited (fin.get w.grants q)) (fin.get w.grants q)) (on-parts p row q)
        ∙ ap (λ x. cond (can_have_grants w0 q.row && (is_row q.row row && (q.principal.0 == p.0))) (regrant ClearInherited x) x) (cleared.grants q)
        ∙ clear-value after p w q is cleared;
    rest = grants-one row p ClearInherited ClearInherited row w ∙ ap {A = World} {B = World} (λ v. record v { grants = (one_changed p ClearInherited row w).grants }) cleared.rest;
  })

  pub clear-end : (after : Option Id) (w : World) → IsNextPrincipal w row.table row.id after None → IsCleared after w → Regrants (cleared_on w0 (λ other. is_row other row)) w0 w
  clear-end after w none cleared = record { grants = λ q. cleared.grants q ∙ value q; rest = cleared.rest }
    where
      value : (q : GrantKey) → cleared_up_to after q ≡ cleared_on w0 (λ other. is_row other row) q (fin.get w0.grants q)
      value q = of (can_have_grants w0 q.row) (is_row q.row row) (is_past after q.principal) refl refl refl
        where
          g : Option (ℕ × ℕ)
          g = fin.get w0.grants q

          R : Option (ℕ × ℕ)
          R = regrant ClearInherited g

          gone : (b : Bool) → is_some (fin.get w.grants q) ≡ b → is_row q.row row ≡ true → is_past after q.principal ≡ true → b ≡ false
          gone false e r t = refl
          gone true e r t =
              let key : q ≡ on_row q.principal row = λ j. record { row = row_is q.row row r j; principal = q.principal } in
              absurd (none q.principal (sym (ap (λ k. is_some (fin.get w.grants k)) key) ∙ e) (past_is after q.principal t))

          of : (a r t : Bool) → can_have_grants w0 q.row ≡ a → is_row q.row row ≡ r → is_past after q.principal ≡ t → cond (a && (r && not t)) R g ≡ cond (a && r) R g
          of false r t ha hr ht = refl
          of true false t ha hr ht = refl
          of true true false ha hr ht = refl
          of true true true ha hr ht = sym (none-cleared g (ap is_some (sym (cleared.grants q ∙ ap (λ x. cond (x && (is_row q.row row && not (is_past after q.principal))) R g) ha ∙ ap (λ x. cond (true && (x && not (is_past after q.principal))) R g) hr ∙ ap (λ x. cond (true && (true && not x)) R g) ht)) ∙ gone (is_some (fin.get w.grants q)) refl hr ht))

-- the same on one row more
pub clear-both : (w0 w new : World) (some : RowKey → Bool) (row : RowKey) → Regrants (cleared_on w0 some) w0 w → Regrants (cleared_on w (λ other. is_row other row)) w new → Regrants (cleared_on w0 (λ other. some other || is_row other row)) w0 new
clear-both w0 w new some row first then = record {
  grants = λ q. then.grants q
      ∙ ap (λ (v : World). cond (can_have_grants v q.row && is_row q.row row) (regrant ClearInherited (fin.get w.grants q)) (fin.get w.grants q)) first.rest
      ∙ ap (λ x. cond (can_have_grants w0 q.row && is_row q.row row) (regrant ClearInherited x) x) (first.grants q)
      ∙ more (fin.get w0.grants q) (can_have_grants w0 q.row) (some q.row) (is_row q.row row);
  rest = then.rest ∙ ap {A = World} {B = World} (λ v. record v { grants = new.grants }) first.rest;
}
  where
    more : (g : Option (ℕ × ℕ)) (a x y : Bool) → cond (a && y) (regrant ClearInherited (cond (a && x) (regrant ClearInherited g) g)) (cond (a && x) (regrant ClearInherited g) g) ≡ cond (a && (x || y)) (regrant ClearInherited g) g
    more g true true true = regrant-regrant ClearInherited g
    more g true true false = refl
    more g true false y = refl
    more g false x y = refl

-- said of another test that tells the same
pub clear-said : (w0 w : World) (some other : RowKey → Bool) → ((row : RowKey) → some row ≡ other row) → Regrants (cleared_on w0 some) w0 w → Regrants (cleared_on w0 other) w0 w
clear-said w0 w some other same h = record { grants = λ q. h.grants q ∙ ap (λ x. cond (can_have_grants w0 q.row && x) (regrant ClearInherited (fin.get w0.grants q)) (fin.get w0.grants q)) (same q.row); rest = h.rest }

pub clear-none : (w0 : World) → Regrants (cleared_on w0 (λ row. false)) w0 w0
clear-none w0 = record { grants = λ q. none (can_have_grants w0 q.row) (regrant ClearInherited (fin.get w0.grants q)) (fin.get w0.grants q); rest = refl }
  where
    none : (a : Bool) (x y : Option (ℕ × ℕ)) → y ≡ cond (a && false) x y
    none true x y = refl
    none false x y = refl
